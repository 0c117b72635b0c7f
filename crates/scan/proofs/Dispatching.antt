-- Demands 2 and 3 of the second engine: by its choice and its numbers, and by the first engine's, whose table stays alike.
use Prim.Native.Nat.{ℕ, ◌+◌, ◌≤◌, ◌<◌}
use mathlib.Core.Path.{◌≡◌, refl, sym, ap, subst, ◌∙◌}
use mathlib.Core.Logic.{◌≢◌}
use mathlib.Core.Bool.{true}
use mathlib.Core.List.{List, [], ◌∷◌}
use native.Mathlib.Omega.{arith}
use borrow.Author.Tests.{eqb-true, ltb-true, ltb-false}
use lib.Dec.{ltb}
use Rattle.records.specs.declared.TaskNo.{TaskNo}
use Rattle.records.specs.Numbers.{Bytes}
use Rattle.executive.specs.declared.State.{State}
use Rattle.executive.specs.declared.State.TheVariants.{Ready}
use Rattle.executive.specs.declared.Answer.{Answer}
use Rattle.executive.specs.declared.Task.{Task}
use Rattle.executive.specs.declared.Table.{Table}
use Rattle.executive.specs.Places.{task_at}
use Rattle.executive.specs.Queue.{Item, ahead, active_of, departures, entries_above}
use Rattle.executive.specs.States.{ready, is_of, state_kind, time_of, mask_of, awaited_of, state_of}
use Rattle.executive.specs.Table.{line, items, view, head_of}
use Rattle.executive.specs.WellFormed.{WellFormed}
use Rattle.executive.specs.Step.{step_of}
use Rattle.executive.specs.Promises.Demands.{after, history, AllBytes, NotYet, Overtaking}
use Rattle.executive.proofs.Assured as executive
use Rattle.scan.specs.declared.Scanned.{Scanned}
use Rattle.scan.specs.Choosing.{chosen_no, IsReady, priority_in, arrival_in}
use Rattle.scan.specs.Sound.{Arrivals, SoundScan}
use Rattle.scan.specs.Step.{scan_of}
use Rattle.scan.specs.Queued.{in_order, queued}
use Rattle.scan.specs.Promises.{after_scan, DispatchedScan, NotYetScan, OvertakingScan}
use Rattle.scan.proofs.Basics.{decide}
use Rattle.scan.proofs.Choices.{choice}
use Rattle.scan.proofs.Numbering.{apart}
use Rattle.scan.proofs.Alike.{Alike, line-order, head-chosen}
use Rattle.scan.proofs.Flight.{task-there}
use Rattle.scan.proofs.Stepping.{sized, queued-alike, formed, Same, step_same}
use Rattle.scan.proofs.Histories.{goes, kept}

pub less : (m n : ℕ) → m ≤ n → m ≢ n → m < n
less m n h z = decide (ltb m n) (λ e. ltb-true m n e) (λ e. absurd (z (omega (arith, ltb-false m n e))))

-- ---- the chosen one, where the numbers are in order
chosen-first : (e : Scanned) → Arrivals e → DispatchedScan e (chosen_no e.entries).0
chosen-first e a = record {
  ready = λ h. (choice.first e.entries h).ready;
  highest = λ h. (choice.first e.entries h).highest;
  first = λ h j r p d. let f = choice.first e.entries h in
      less (arrival_in e.entries (chosen_no e.entries).0) (arrival_in e.entries j) (f.earliest j r p)
      (λ z. d (apart e a j (chosen_no e.entries).0 r f.ready (sym z)));
  idle = choice.nobody e.entries;
}

-- ---- two tables alike: the active task, and the queue as items
head_item : (ts : List Task) (r : List TaskNo) → active_of (items ts r) ≡ (head_of r).0
unfolding items active_of
head_item ts [] = refl
head_item ts (k ∷ ks) = refl

module _ (e : Scanned) (t : Table) (a : Alike e t) where
  pub active-same : active_of (view t) ≡ (chosen_no e.entries).0
  active-same = head_item t.tasks (line t) ∙ ap (λ (k : TaskNo). k.0) (head-chosen e t a)

  view-order : view t ≡ in_order e
  view-order = λ i. items (sym a.tasks i) (line-order e t a i)

module _ (e : Scanned) (s : List ℕ) (so : SoundScan e) (b : Bytes s) where
  stepped : Same (scan_of e s) (step_of (queued e) s)
  stepped = step_same e (queued e) s (queued-alike e so.arrivals (sized e so.rules)) (formed e so) b

  -- the answer's active task is the chosen one
  active-chosen : (chosen_no (scan_of e s).table.entries).0 ≡ (scan_of e s).answer.active.0
  unfolding after
  active-chosen = sym (active-same (scan_of e s).table (step_of (queued e) s).table stepped.table)
      ∙ ((executive.demands).dispatched (queued e) [] s (formed e so) tt b).head
      ∙ sym (ap (λ (x : Answer). x.active.0) stepped.answer)

pub dispatched : (e : Scanned) (ss : List (List ℕ)) (s : List ℕ) → SoundScan e → AllBytes ss → Bytes s
    → DispatchedScan (scan_of (after_scan e ss) s).table (scan_of (after_scan e ss) s).answer.active.0
dispatched e ss s so bs b =
    let d = after_scan e ss in
    let sd : SoundScan d = kept e ss so bs in
    subst (DispatchedScan (scan_of d s).table) (active-chosen d s sd b) (chosen-first (scan_of d s).table (stepped d s sd b).table.numbers)

-- ---- ready, as a test and as a state
state-ready : (s : State) → is_of ready s ≡ true → s ≡ Ready
unfolding state_of
state-ready s h = sym ((executive.states-told).back s) ∙ ap (λ (n : ℕ). state_of n (time_of s) (mask_of s) (awaited_of s)) (sym (eqb-true ready (state_kind s) h))

step_kept : (t : Table) (s : List ℕ) → WellFormed t → Bytes s → WellFormed (step_of t s).table
unfolding after
step_kept t s w b = (executive.demands).kept t (s ∷ []) w (b, tt)

not_yet : (k : ℕ) (ss : List (List ℕ)) (e : Scanned) (t : Table) → Alike e t → WellFormed t → AllBytes ss → NotYetScan k e ss → NotYet k t ss
not_yet k [] e t a w b n = tt
not_yet k (s ∷ ss) e t a w b n =
    let x : Same (scan_of e s) (step_of t s) = step_same e t s a w b.0 in
    (λ z. n.0 (sym (active-same e t a) ∙ z), not_yet k ss (scan_of e s).table (step_of t s).table x.table (step_kept t s w b.0) b.1 n.1)

module _ (e : Scanned) (k : ℕ) (ss : List (List ℕ)) (so : SoundScan e) (b : AllBytes ss) (r : IsReady e.entries k) (n : NotYetScan k e ss) where
  abbrev t : Table
  t = queued e

  start : Alike e t
  start = queued-alike e so.arrivals (sized e so.rules)

  end : Alike (after_scan e ss) (after t ss)
  end = (goes ss e t start (formed e so) b).alike

  first_engine : Overtaking t k ss
  first_engine = (executive.demands).overtaking t k ss (formed e so) b
      (state-ready (task_at t.tasks k).state (sym (ap (λ (x : Task). is_of ready x.state) (task-there e t start k)) ∙ r))
      (not_yet k ss e t start (formed e so) b n)

  pub overtaking : OvertakingScan e k ss
  overtaking =
      let o = first_engine in
      let p : priority_in e.entries k ≡ (task_at t.tasks k).priority = ap (λ (x : Task). x.priority) (task-there e t start k) in
      let u = view-order e t start in
      let v = view-order (after_scan e ss) (after t ss) end in
      record {
        still-ready = ap (λ (x : Task). is_of ready x.state) (task-there (after_scan e ss) (after t ss) end k) ∙ ap (is_of ready) o.still-ready;
        same-priority = ap (λ (x : Task). x.priority) (task-there (after_scan e ss) (after t ss) end k) ∙ o.same-priority ∙ sym p;
        number = ap (λ (q : List Item). ahead k q + departures (history t ss)) (sym v) ∙ o.number
            ∙ (λ i. ahead k (u i) + entries_above (sym p i) (history t ss));
        active-at-nought = (
          λ z. sym (active-same (after_scan e ss) (after t ss) end) ∙ o.active-at-nought.0 (ap (ahead k) v ∙ z),
          λ z. sym (ap (ahead k) v) ∙ o.active-at-nought.1 (active-same (after_scan e ss) (after t ss) end ∙ z),
        );
      }
