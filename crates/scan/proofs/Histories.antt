-- Any history: the answers are the first engine's, the tables stay alike, and the table is kept well formed.
use Prim.Native.Nat.{ℕ, ◌<◌}
use mathlib.Core.Path.{◌≡◌, refl, sym, ap, subst, ◌∙◌}
use mathlib.Core.Logic.{◌↔◌, ◌≢◌}
use mathlib.Core.Bool.{Bool, true, false, cond}
use mathlib.Core.List.{List, [], ◌∷◌, map}
use native.Mathlib.Omega.{arith}
use borrow.Author.Tests.{eqb-true, ltb-true, ltb-false}
use lib.Dec.{eqb, ltb}
use Rattle.executive.specs.declared.Table.{Table}
use Rattle.executive.specs.declared.decisions.Decision.{Decision}
use Rattle.executive.specs.WellFormed.{WellFormed}
use Rattle.executive.specs.Plans.{caller}
use Rattle.executive.specs.Check.{all_but_queue}
use Rattle.executive.specs.Deciding.{decision_for}
use Rattle.executive.specs.Step.{refused, step_of}
use Rattle.executive.specs.Promises.ByDecision.{done, enacted}
use Rattle.executive.specs.Promises.Demands.{after, AllBytes}
use Rattle.executive.proofs.Assured as executive
use Rattle.scan.specs.declared.Scanned.{Scanned}
use Rattle.scan.specs.Entries.{tasks_in, count_of, is_earlier}
use Rattle.scan.specs.Choosing.{IsReady, arrival_in}
use Rattle.scan.specs.Moves.{renumbered_in, renumbered}
use Rattle.scan.specs.Sound.{Arrivals, SoundScan, arrivals_right}
use Rattle.scan.specs.Step.{decision_scan, refused_scan, enacted_scan, done_scan, scan_of}
use Rattle.scan.specs.Queued.{queued}
use Rattle.scan.specs.Promises.{after_scan, answers_scan, answers_of}
use Rattle.scan.proofs.Basics.{decide}
use Rattle.scan.proofs.Numbering.{order-kept, new-number}
use Rattle.scan.proofs.Alike.{Alike}
use Rattle.scan.proofs.Stepping.{sized, queued-alike, formed, sound-of, alike_is, Same, step_same, same_decision, arrivals-get, arrivals_make, decision_broken}

pub record Going (e : Scanned) (t : Table) (ss : List (List ℕ)) : Type 0 where
  pub alike : Alike (after_scan e ss) (after t ss)
  pub answers : answers_scan e ss ≡ answers_of t ss

pub goes : (ss : List (List ℕ)) (e : Scanned) (t : Table) → Alike e t → WellFormed t → AllBytes ss → Going e t ss
unfolding after_scan answers_scan answers_of after
goes [] e t a w b = record { alike = a; answers = refl }
goes (s ∷ ss) e t a w b =
    let x : Same (scan_of e s) (step_of t s) = step_same e t s a w b.0 in
    let v : WellFormed (step_of t s).table = (executive.demands).kept t (s ∷ []) w (b.0, tt) in
    let r : Going (scan_of e s).table (step_of t s).table ss = goes ss (scan_of e s).table (step_of t s).table x.table v b.1 in
    record { alike = r.alike; answers = λ i. x.answer i ∷ r.answers i }

module _ (e : Scanned) (ss : List (List ℕ)) (so : SoundScan e) (b : AllBytes ss) where
  there : Going e (queued e) ss
  there = goes ss e (queued e) (queued-alike e so.arrivals (sized e so.rules)) (formed e so) b

  still : WellFormed (after (queued e) ss)
  still = (executive.demands).kept (queued e) ss (formed e so) b

  pub equal-from : answers_scan e ss ≡ answers_of (queued e) ss
  equal-from = there.answers

  pub alike : queued (after_scan e ss) ≡ after (queued e) ss
  alike = sym (alike_is (after_scan e ss) (after (queued e) ss) there.alike still)

  pub kept : SoundScan (after_scan e ss)
  kept = sound-of (after_scan e ss) there.alike.numbers (subst WellFormed (sym alike) still)

-- ---- a refusal keeps the table
refused-keeps : (e : Scanned) (n : ℕ) → (refused_scan e n).table ≡ e
unfolding refused_scan
refused-keeps e n = decide (eqb n 1) (λ z. rw z refl) (λ z. rw z refl)

pub refusal-keeps : (e : Scanned) (s : List ℕ) → (scan_of e s).answer.number ≢ 0 → (scan_of e s).table ≡ e
unfolding scan_of enacted_scan done_scan
refusal-keeps e s h = go (arrivals_right e) (eqb (decision_scan e s).number 0) refl refl h
  where
    go : (a b : Bool) → arrivals_right e ≡ a → eqb (decision_scan e s).number 0 ≡ b
        → (cond a (cond b (done_scan e (decision_scan e s)) (refused_scan e (decision_scan e s).number)) (refused_scan e 1)).answer.number ≢ 0
        → (cond a (cond b (done_scan e (decision_scan e s)) (refused_scan e (decision_scan e s).number)) (refused_scan e 1)).table ≡ e
    go true true p q z = absurd (z refl)
    go true false p q z = refused-keeps e (decision_scan e s).number
    go false b p q z = refused-keeps e 1

-- ---- the number of an answer is the decision's
scan_number : (e : Scanned) (d : Decision) → (enacted_scan e d).answer.number ≡ d.number
unfolding enacted_scan done_scan refused_scan
scan_number e d = decide (eqb d.number 0) (λ z. rw z (sym (eqb-true d.number 0 z)))
    (λ z. rw z (decide (eqb d.number 1) (λ y. rw y (sym (eqb-true d.number 1 y))) (λ y. rw y refl)))

first-number : (t : Table) (d : Decision) → (enacted t d).answer.number ≡ d.number
unfolding enacted done refused
first-number t d = decide (eqb d.number 0) (λ z. rw z (sym (eqb-true d.number 0 z)))
    (λ z. rw z (decide (eqb d.number 1) (λ y. rw y (sym (eqb-true d.number 1 y))) (λ y. rw y refl)))

module _ (e : Scanned) (s : List ℕ) where
  pub number_of : arrivals_right e ≡ true → (scan_of e s).answer.number ≡ (decision_scan e s).number
  unfolding scan_of
  number_of h = rw h (scan_number e (decision_scan e s))

  pub number_same : SoundScan e → (scan_of e s).answer.number ≡ (step_of (queued e) s).answer.number
  number_same so =
      let a = queued-alike e so.arrivals (sized e so.rules) in
      let t = queued e in
      let d = decision_for t.tasks t.rest (caller t) s in
      number_of (arrivals_make e so.arrivals) ∙ ap (λ (x : Decision). x.number) (same_decision e t a s)
      ∙ sym (rw ((executive.by_decision).step t s, executive.queue-right t s (formed e so)) (first-number t d))

  broken-number : arrivals_right e ≡ false → (scan_of e s).answer.number ≡ 1
  unfolding scan_of refused_scan
  broken-number h = rw h refl

  pub check_exactly : ((scan_of e s).answer.number ≡ 1) ↔ (SoundScan e → ⊥)
  check_exactly = (
    λ h so. ((executive.demands).unformed (queued e) s).0 (sym (number_same so) ∙ h) (formed e so),
    λ n. decide (arrivals_right e)
        (λ z. decide (all_but_queue (tasks_in e.entries) e.rest)
        (λ y. absurd (n (record { rules = y; arrivals = arrivals-get e z })))
        (λ y. number_of z ∙ unruly y))
        broken-number,
  )
    where
      unruly : all_but_queue (tasks_in e.entries) e.rest ≡ false → (decision_scan e s).number ≡ 1
      unruly y = ap (λ (d : Decision). d.number) (decision_broken e s y)

-- ---- a renumbering keeps the order of every two ready tasks
pub renumbering : (e : Scanned) (i j : ℕ) → Arrivals e → IsReady e.entries i → IsReady e.entries j
    → (arrival_in e.entries i < arrival_in e.entries j) ↔ (arrival_in (renumbered e).entries i < arrival_in (renumbered e).entries j)
unfolding renumbered
renumbering e i j a p q = (
  λ h. order-kept e a i j p q h,
  λ h. decide (ltb (arrival_in e.entries i) (arrival_in e.entries j)) (λ z. ltb-true (arrival_in e.entries i) (arrival_in e.entries j) z)
      (λ z. decide (ltb (arrival_in e.entries j) (arrival_in e.entries i))
      (λ y. absurd (omega (arith, h, order-kept e a j i q p (ltb-true (arrival_in e.entries j) (arrival_in e.entries i) y))))
      (λ y. absurd (same (omega (arith, ltb-false (arrival_in e.entries i) (arrival_in e.entries j) z, ltb-false (arrival_in e.entries j) (arrival_in e.entries i) y)) h))),
)
  where
    same : arrival_in e.entries i ≡ arrival_in e.entries j → arrival_in (map (renumbered_in e.entries) e.entries) i < arrival_in (map (renumbered_in e.entries) e.entries) j → ⊥
    same z h = omega (arith, h, new-number e a i p, new-number e a j q, ap (λ (n : ℕ). count_of (is_earlier n) e.entries) z)
