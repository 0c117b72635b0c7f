-- `executive::configuration::tasks_in` meets its contract.
use mathlib.Core.Path.{◌≡◌, sym, ◌∙◌}
use native.Mathlib.Omega.{arith}
use Rattle.executive.specs.Configuration.{tasks_in}
use Rattle.executive.proofs.configuration.Loops.{tasks-turn, tasks-stop, tasks-end}
use Rattle.executive.proofs.configuration.tasks_in.Goals as goal

pub returns-then-byte_at-ne65 : goal.returns-then-byte_at-ne65
unfolding tasks_in
returns-then-byte_at-ne65 c =
    let s = c.args.s.now in
    let v = c.loop-n in
    let e = rw c.place_in.ensures at c.byte_at.ensures in
    (sym (tasks-stop s v.n c.loop-n-test.true (λ z. c.if-byte_at-ne65.true (e ∙ z))) ∙ v.invariant, omega arith)

pub loop-n-preserved : goal.loop-n-preserved
loop-n-preserved c =
    let s = c.args.s.now in
    let v = c.loop-n in
    let e = rw c.place_in.ensures at c.byte_at.ensures in
    sym (tasks-turn s v.n c.loop-n-test.true (sym e ∙ c.if-byte_at-ne65.false)) ∙ v.invariant

pub returns : goal.returns
unfolding tasks_in
returns c =
    let v = c.loop-n in
    let e : v.n ≡ 16 = omega arith in
    (sym e ∙ sym (tasks-end c.args.s.now v.n c.loop-n-test.false) ∙ v.invariant, omega arith)
