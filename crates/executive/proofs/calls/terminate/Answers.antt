use mathlib.Core.Path.{ap, sym, ◌∙◌}
use mathlib.Core.Bool.{false}
use native.Mathlib.Omega.{arith}
use Rattle.executive.specs.Sheet.{only_z}
use Rattle.executive.specs.Decisions.{doing}
use Rattle.executive.proofs.pool.FoundAt.{found-is}
use Rattle.executive.proofs.calls.Ending.{ends-run, ends-none}
use Rattle.executive.proofs.calls.terminate.Goals as goal

pub offset_bounds-requests-i : goal.offset_bounds-requests-i
offset_bounds-requests-i c =
    let p = found-is _ _ _ (sym c.first_for.ensures ∙ c.in-Some.is) in
    omega (arith, p.0, p.1)

pub bounds-requests-i : goal.bounds-requests-i
bounds-requests-i c =
    let p = found-is _ _ _ (sym c.first_for.ensures ∙ c.in-Some.is) in
    omega (arith, p.0, p.1)

pub returns-in-Some : goal.returns-in-Some
returns-in-Some c =
    rw (c.begins_anew.ensures, c.read_at.ensures, c.if-holding.false)
    (ap (doing (only_z false)) (ends-run c.args.tasks.now c.args.requests.now c.args.c _ (sym c.first_for.ensures ∙ c.in-Some.is)))

pub returns-in-None : goal.returns-in-None
returns-in-None c =
    rw (c.sleeps.ensures, c.read_at.ensures, c.if-holding.false)
    (ap (doing (only_z false)) (ends-none c.args.tasks.now c.args.requests.now c.args.c (sym c.first_for.ensures ∙ c.in-None.is)))
