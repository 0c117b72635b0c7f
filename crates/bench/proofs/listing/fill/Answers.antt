use Rattle.std.proofs.Common.{arith, ap, ◌∙◌, Some}
use Rattle.text.proofs.Assured.{inside}
use Rattle.bench.proofs.Turns.{fill-small, fill-nothing, fill_stop, fill_header, fill-steps}
use Rattle.bench.proofs.listing.fill.Goals as goal

pub returns-in_default : goal.returns-in_default
returns-in_default c = fill-nothing c.args.input.now c.args.run c.args.out.now c.in_default.is

pub returns-then-out-lt64 : goal.returns-then-out-lt64
returns-then-out-lt64 c =
    fill-small c.args.input.now c.args.run c.args.out.now _ c.if-out-lt64.true (rw c.in-Some.is)

pub go_on-requires : goal.go_on-requires
go_on-requires c = omega (arith, inside (omega arith) c.header-used.ensures, c.header-used.ensures.size)

pub returns-in-Header : goal.returns-in-Header
returns-in-Header c =
    let a = c.args in
    fill_header a.input.now a.run a.out.now _ (c.in-Some.is ∙ ap Some c.in-Header.is) c.if-out-lt64.false _ c.header-used.ensures c.go_on.ensures

pub returns-in-Step : goal.returns-in-Step
returns-in-Step c =
    let a = c.args in
    fill-steps a.input.now a.run a.out.now (c.in-Some.is ∙ ap Some c.in-Step.is) _ c.go_on-in-Step.ensures

pub returns-in-Stop : goal.returns-in-Stop
returns-in-Stop c =
    let a = c.args in
    fill_stop a.input.now a.run a.out.now _ (c.in-Some.is ∙ ap Some c.in-Stop.is) c.if-out-lt64.false c.stop_line.ensures
