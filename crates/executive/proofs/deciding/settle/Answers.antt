-- `deciding::settle` meets its contract: a refusal keeps the rest, and what is accepted can be done to it.
use Prim.Native.Nat.{ℕ}
use mathlib.Core.Path.{◌≡◌, sym, ap, ◌∙◌}
use mathlib.Core.Logic.{◌≢◌}
use mathlib.Core.List.{List}
use borrow.Author.Tests.{eq-eqb, ne_eqb}
use Rattle.records.specs.declared.TaskNo.{TaskNo}
use Rattle.executive.specs.declared.Task.{Task}
use Rattle.executive.specs.declared.Rest.{Rest}
use Rattle.executive.specs.declared.decisions.Decision.{Decision}
use Rattle.executive.specs.declared.deciding.Settled.{Settled}
use Rattle.executive.specs.Messages.{no_mail, with_mail}
use Rattle.executive.specs.Decisions.{changed}
use Rattle.executive.specs.Deciding.{decision_for, rest_after, settled_for}
use Rattle.executive.proofs.decisions.CanBeDone.{changeable}
use Rattle.executive.proofs.deciding.settle.Goals as goal

-- the decision and a rest that is the one after it
settled : (ts : List Task) (r u : Rest) (k : TaskNo) (s : List ℕ) (d : Decision) → d ≡ decision_for ts r k s → u ≡ rest_after r d
    → ◌≡◌ {A = Settled} (record { decision = d; rest = u }) (settled_for ts r k s)
settled ts r u k s d q e = ap (λ x. record { decision = d; rest = x }) e ∙ ap (λ x. record { decision = x; rest = rest_after r x }) q

kept : (r : Rest) (d : Decision) → d.number ≢ 0 → r ≡ rest_after r d
kept r d z = rw (ne_eqb d.number 0 z)

done : (r u v : Rest) (d : Decision) → d.number ≡ 0 → u ≡ changed d.deed.change d.deed.request r → v ≡ with_mail d.deed.empties.0 no_mail u → v ≡ rest_after r d
done r u v d z e f = rw (eq-eqb d.number 0 z) (f ∙ ap (with_mail d.deed.empties.0 no_mail) e)

pub returns-then-decision-ne0 : goal.returns-then-decision-ne0
returns-then-decision-ne0 c =
    let d = c.decide-decision in
    let a = c.args in
    settled a.tasks a.rest a.rest a.caller a.bytes.now d.result d.ensures (kept a.rest d.result c.if-decision-ne0.true)

pub changed-changed-requires : goal.changed-changed-requires
changed-changed-requires c =
    let d = c.decide-decision in
    let a = c.args in
    rw d.ensures (changeable a.tasks a.rest a.caller a.bytes.now (sym (ap (λ (x : Decision). x.number) d.ensures) ∙ c.if-decision-ne0.false))

pub returns : goal.returns
returns c =
    let x = c.changed-changed in
    let u = c.with_mail-after in
    let d = c.decide-decision in
    let a = c.args in
    settled a.tasks a.rest u.result a.caller a.bytes.now d.result d.ensures
    (done a.rest x.result u.result d.result c.if-decision-ne0.false x.ensures u.ensures)
