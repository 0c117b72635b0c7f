use Prim.Native.Nat.{ℕ}
use mathlib.Core.Path.{◌≡◌, sym, ap, ◌∙◌}
use mathlib.Core.List.{List}
use Rattle.executive.specs.declared.deciding.Settled.{Settled}
use Rattle.executive.specs.Deciding.{rest_after, settled_for}
use Rattle.scan.specs.declared.Scanned.{Scanned}
use Rattle.scan.specs.Entries.{tasks_in}
use Rattle.scan.specs.Choosing.{chosen_no}
use Rattle.scan.specs.Step.{decision_scan, done_scan}
use Rattle.scan.proofs.Stepping.{step-refuses, step_does, all_listed, plan-to}
use Rattle.scan.proofs.Scanned.perform.Goals as goal
use Rattle.scan.proofs.Scanned.perform.Goals.{After-settle-settled}

-- the table and the record's bytes
abbrev table : After-settle-settled → Scanned
table m = m.args.self

abbrev bytes : After-settle-settled → List ℕ
bytes m = m.args.bytes.now

-- what was settled is what is to be settled for the chosen task
settled : (m : After-settle-settled) → m.settle-settled.result ≡ settled_for (tasks_in (table m).entries) (table m).rest (chosen_no (table m).entries) (bytes m)
settled m =
    m.settle-settled.ensures
    ∙ (λ j. settled_for (m.tasks_in-tasks.ensures j) (table m).rest (m.active.ensures j) (bytes m))

said : (m : After-settle-settled) → m.settle-settled.result.decision ≡ decision_scan (table m) (bytes m)
said m = ap (λ (x : Settled). x.decision) (settled m)

left : (m : After-settle-settled) → m.settle-settled.result.rest ≡ rest_after (table m).rest m.settle-settled.result.decision
left m = ap (λ (x : Settled). x.rest) (settled m) ∙ sym (ap (rest_after (table m).rest) (said m))

pub returns-then-d-ne0 : goal.returns-then-d-ne0
returns-then-d-ne0 c =
    let m = (goal.at.returns-then-d-ne0 c).After-settle-settled in
    c.refuse.ensures ∙ step-refuses (table m) (bytes m) m.requires m.settle-settled.result.decision (said m) c.if-d-ne0.true

pub execute-done-requires : goal.execute-done-requires
execute-done-requires c =
    let m = (goal.at.execute-done-requires c).After-settle-settled in
    all_listed (table m) (bytes m) m.requires m.settle-settled.result.decision (said m) c.if-d-ne0.false

pub returns : goal.returns
unfolding done_scan
returns c =
    let m = (goal.at.returns c).After-settle-settled in
    let d = m.settle-settled.result.decision in
    let z = c.if-d-ne0.false in
    let p = plan-to (table m) (bytes m) m.requires d (said m) m.settle-settled.result.rest (left m) z in
    rw (c.answer.ensures, c.execute-done.ensures, p) (step_does (table m) (bytes m) m.requires d (said m) z)
