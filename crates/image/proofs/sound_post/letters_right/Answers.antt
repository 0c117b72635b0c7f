-- `sound_post::letters_right` meets its contract. The invariant: what is left, under the priority last met, decides.
use Prim.Native.Nat.{◌<◌}
use mathlib.Core.Path.{◌≡◌, refl, sym, ◌∙◌}
use mathlib.Core.Bool.{false}
use native.Mathlib.Omega.{arith}
use Rattle.executive.specs.Places.{task_at}
use Rattle.executive.specs.States.{takes}
use Rattle.executive.proofs.Assured.{false_not_true}
use Rattle.image.specs.Sound.{tasks_in}
use Rattle.image.proofs.SetBits.{bit-set}
use Rattle.image.proofs.PostRead.{letter_to, letter_by, letters_from, LetterRight, letters-over, letter-bad, letter-good, takes_none}
use Rattle.image.proofs.sound_post.letters_right.Goals as goal
use Rattle.image.proofs.sound_post.letters_right.Goals.{In-loop-i, Joined-free-to-eq0, then-free-to-eq0+else-to-eq0+else-is_taken, else-free-to-eq0}

pub loop-i-init : goal.loop-i-init
loop-i-init c = (omega arith, refl)

-- a message that breaks a rule
broken : (c : In-loop-i) → let a = c.args in
    let v = c.loop-i in
    let s = a.b.now in
    (LetterRight s a.count v.p v.i → ⊥) → false ≡ letters_from s a.count a.sent 15 0
broken c f =
    let a = c.args in
    let v = c.loop-i in
    sym (sym v.invariant.1 ∙ letter-bad a.b.now a.count a.sent c.requires.0 v.p v.i c.loop-i-test.true f)

pub returns-then-count-to : goal.returns-then-count-to
returns-then-count-to c = broken (goal.at.returns-then-count-to c).In-loop-i (λ g. omega (arith, g.1, c.if-count-to.true))

pub returns-then-to-eq0 : goal.returns-then-to-eq0
returns-then-to-eq0 c = broken (goal.at.returns-then-to-eq0 c).In-loop-i (λ g. omega (arith, g.0, c.if-to-eq0.true))

pub returns-then-is_taken : goal.returns-then-is_taken
returns-then-is_taken c = broken (goal.at.returns-then-is_taken c).In-loop-i (λ g. false_not_true (sym g.5 ∙ sym c.is_taken.ensures ∙ c.if-is_taken.true))

pub returns-then-sender-eq0 : goal.returns-then-sender-eq0
returns-then-sender-eq0 c = broken (goal.at.returns-then-sender-eq0 c).In-loop-i (λ g. omega (arith, g.2, c.if-sender-eq0.true))

pub returns-then-count-sender : goal.returns-then-count-sender
returns-then-count-sender c = broken (goal.at.returns-then-count-sender c).In-loop-i (λ g. omega (arith, g.3, c.if-count-sender.true))

pub returns-then-p-priority : goal.returns-then-p-priority
returns-then-p-priority c = broken (goal.at.returns-then-p-priority c).In-loop-i (λ g. omega (arith, g.4, c.if-p-priority.true))

-- past the test of the set: the addressee is a task, and does not take it
addressed : (c : Joined-free-to-eq0) → let a = c.args in
    let i = c.loop-i.i in
    let s = a.b.now in
    (0 < letter_to s i) × (takes (letter_by s i) (task_at (tasks_in s) (letter_to s i)).state ≡ false)
addressed c =
    let a = c.args in
    let s = a.b.now in
    let i = c.loop-i.i in
    elim c.if-free-to-eq0.branch [
      | then-free-to-eq0+else-to-eq0+else-is_taken w ↦ (omega arith, sym w.is_taken.ensures ∙ w.if-is_taken.false)
      | else-free-to-eq0 w ↦
          let f = c.requires.2 (letter_to s i) c.if-count-to.false (bit-set a.free (letter_to s i) w.if-free-to-eq0.false) in
          (f.0, takes_none (tasks_in s) (letter_by s i) (letter_to s i) f.1)
    ]

pub loop-i-preserved : goal.loop-i-preserved
loop-i-preserved c =
    let a = c.args in
    let s = a.b.now in
    let v = c.loop-i in
    let q = addressed (goal.at.loop-i-preserved c).Joined-free-to-eq0 in
    (omega (arith, v.invariant.0, c.if-p-priority.false), letter-good s a.count a.sent c.requires.0 v.p v.i c.loop-i-test.true v.invariant.0 (q.0, c.if-count-to.false, omega (arith, c.if-sender-eq0.false), c.if-count-sender.false, c.if-p-priority.false, q.1) ∙ v.invariant.1)

pub returns : goal.returns
returns c =
    let a = c.args in
    let s = a.b.now in
    let v = c.loop-i in
    sym (sym v.invariant.1 ∙ letters-over s a.count a.sent c.requires.0 v.p v.i c.loop-i-test.false)
