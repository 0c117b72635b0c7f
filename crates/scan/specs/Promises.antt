-- What is promised of the second engine (02): its answers are the first engine's, for any configuration and any steps,
-- and from any well-formed table of its own; its table is kept well formed, by a check of its own.
use Rattle.std.specs.Prelude.{ℕ, ◌+◌, ◌≤◌, ◌<◌, ◌≡◌, ◌↔◌, ◌≢◌, true, false, List, [], ◌∷◌, map}
use Rattle.records.specs.declared.TaskNo.{TaskNo}
use Rattle.records.specs.Numbers.{Bytes}
use Rattle.executive.specs.declared.Answer.{Answer}
use Rattle.executive.specs.declared.Table.{Table}
use Rattle.executive.specs.Places.{times_in}
use Rattle.executive.specs.Queue.{ahead, departures, entries_above}
use Rattle.executive.specs.Table.{Join}
use Rattle.executive.specs.WellFormed.{WellFormed}
use Rattle.executive.specs.Step.{step_of}
use Rattle.executive.specs.Configuration.{is_configuration, fresh_of}
use Rattle.executive.specs.Promises.Demands.{after, history, AllBytes}
use Rattle.scan.specs.declared.Entry.{Entry}
use Rattle.scan.specs.declared.Scanned.{Scanned}
use Rattle.scan.specs.declared.Scan.{Scan}
use Rattle.scan.specs.declared.Made.{Made}
use Rattle.scan.specs.Entries.{entry_at, is_ready}
use Rattle.scan.specs.Choosing.{chosen_no, IsReady, priority_in, arrival_in, Choice}
use Rattle.scan.specs.Moves.{renumbered}
use Rattle.scan.specs.Sound.{Arrivals, SoundScan, Checked}
use Rattle.scan.specs.Step.{plan_scan, decision_scan, scan_of, Scans}
use Rattle.scan.specs.Making.{made_of, Makes}
use Rattle.scan.specs.Queued.{in_order, queued}

-- ---- a history: records one after the other. The table after them, and the answers, one by one, of each engine
unfoldable pub after_scan : Scanned → List (List ℕ) → Scanned
after_scan e [] = e
after_scan e (s ∷ ss) = after_scan (scan_of e s).table ss

unfoldable pub answers_scan : Scanned → List (List ℕ) → List Answer
answers_scan e [] = []
answers_scan e (s ∷ ss) = (scan_of e s).answer ∷ answers_scan (scan_of e s).table ss

unfoldable pub answers_of : Table → List (List ℕ) → List Answer
answers_of t [] = []
answers_of t (s ∷ ss) = (step_of t s).answer ∷ answers_of (step_of t s).table ss

-- ---- whoever enters by a record that is accepted, in their order
abbrev pub newcomers : Scanned → List ℕ → List TaskNo
newcomers e s = map (λ (j : Join). j.who) (plan_scan (decision_scan e s).deed e).ins

-- each of some tasks bears a larger number than every ready task that is neither itself nor one after it
abbrev pub Latest : List Entry → List TaskNo → Type 0
Latest es [] = Unit {0}
Latest es (k ∷ ks) = ((j : ℕ) → IsReady es j → times_in j (k ∷ ks) ≡ 0 → arrival_in es j < arrival_in es k.0) × Latest es ks

-- ---- demand 2: the active task k is the first of the ready tasks with highest priority, by its number; it is nobody
-- exactly if none is ready
pub record DispatchedScan (e : Scanned) (k : ℕ) : Type 0 where
  pub ready : 0 < k → IsReady e.entries k
  pub highest : 0 < k → (j : ℕ) → IsReady e.entries j → priority_in e.entries j ≤ priority_in e.entries k
  pub first : 0 < k → (j : ℕ) → IsReady e.entries j → priority_in e.entries j ≡ priority_in e.entries k → j ≢ k
      → arrival_in e.entries k < arrival_in e.entries j
  pub idle : (k ≡ 0) ↔ ((j : ℕ) → is_ready (entry_at e.entries j) ≡ false)

-- ---- demand 3, with those ahead in the order of choosing
abbrev pub NotYetScan : ℕ → Scanned → List (List ℕ) → Type 0
NotYetScan k e [] = Unit {0}
NotYetScan k e (s ∷ ss) = ((chosen_no e.entries).0 ≢ k) × NotYetScan k (scan_of e s).table ss

pub record OvertakingScan (e : Scanned) (k : ℕ) (ss : List (List ℕ)) : Type 0 where
  pub still-ready : IsReady (after_scan e ss).entries k
  pub same-priority : priority_in (after_scan e ss).entries k ≡ priority_in e.entries k
  pub number : ahead k (in_order (after_scan e ss)) + departures (history (queued e) ss)
      ≡ ahead k (in_order e) + entries_above (priority_in e.entries k) (history (queued e) ss)
  pub active-at-nought : (ahead k (in_order (after_scan e ss)) ≡ 0) ↔ ((chosen_no (after_scan e ss).entries).0 ≡ k)

pub record Promises : Type 0 where
  -- whom the scan chooses
  pub choice : Choice
  -- for any bytes g, a configuration or not, and any records: the number of the fresh table, and the answers one by one,
  -- are the first engine's
  pub equal : (g : List ℕ) (ss : List (List ℕ)) → Bytes g → AllBytes ss
      → ((made_of g).number ≡ (fresh_of g).answer.number) × (answers_scan (made_of g).table ss ≡ answers_of (fresh_of g).table ss)
  -- from any well-formed table the answers, one by one, are the first engine's from the table that it stands for,
  -- whatever number was given last, and so over any renumbering
  pub equal-from : (e : Scanned) (ss : List (List ℕ)) → SoundScan e → AllBytes ss → answers_scan e ss ≡ answers_of (queued e) ss
  -- a configuration's fresh table stands for the first engine's; after any history the tables have the same entries and
  -- rest, and the queue is the order of choosing
  pub alike-fresh : (g : List ℕ) → Bytes g → is_configuration g ≡ true → queued (made_of g).table ≡ (fresh_of g).table
  pub alike : (e : Scanned) (ss : List (List ℕ)) → SoundScan e → AllBytes ss → queued (after_scan e ss) ≡ after (queued e) ss
  -- a configuration's fresh table is well formed, and every step keeps it so; with its numbers in order a table is so
  -- exactly if the first engine's with the queue in the order of choosing is
  pub fresh : (g : List ℕ) → Bytes g → is_configuration g ≡ true → SoundScan (made_of g).table
  pub kept : (e : Scanned) (ss : List (List ℕ)) → SoundScan e → AllBytes ss → SoundScan (after_scan e ss)
  pub formed : (e : Scanned) → SoundScan e ↔ (Arrivals e × WellFormed (queued e))
  -- the newcomers of an accepted step bear the largest numbers, in the order they entered; a renumbering keeps the order
  -- of every two ready tasks
  pub numbered : (e : Scanned) (s : List ℕ) → SoundScan e → Bytes s → (decision_scan e s).number ≡ 0
      → Latest (scan_of e s).table.entries (newcomers e s)
  pub renumbering : (e : Scanned) (i j : ℕ) → Arrivals e → IsReady e.entries i → IsReady e.entries j
      → (arrival_in e.entries i < arrival_in e.entries j) ↔ (arrival_in (renumbered e).entries i < arrival_in (renumbered e).entries j)
  -- a refusal changes nothing; 1 is given exactly where the table is not well formed
  pub refusal-keeps : (e : Scanned) (s : List ℕ) → (scan_of e s).answer.number ≢ 0 → (scan_of e s).table ≡ e
  pub check_exactly : (e : Scanned) (s : List ℕ) → ((scan_of e s).answer.number ≡ 1) ↔ (SoundScan e → ⊥)
  -- demands 2 and 3
  pub dispatched : (e : Scanned) (ss : List (List ℕ)) (s : List ℕ) → SoundScan e → AllBytes ss → Bytes s
      → DispatchedScan (scan_of (after_scan e ss) s).table (scan_of (after_scan e ss) s).answer.active.0
  pub overtaking : (e : Scanned) (k : ℕ) (ss : List (List ℕ)) → SoundScan e → AllBytes ss → IsReady e.entries k
      → NotYetScan k e ss → OvertakingScan e k ss
  -- any two outcomes that a public entry's contract allows are equal
  pub step-determined : (e : Scanned) (s : List ℕ) (x y : Scan) → Scans e s x → Scans e s y → x ≡ y
  pub check_determined : (e : Scanned) (x y : ℕ) → Checked e x → Checked e y → x ≡ y
  pub fresh-determined : (g : List ℕ) (x y : Made) → Makes g x → Makes g y → x ≡ y
