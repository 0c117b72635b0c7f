-- A well-formed table of the second engine (02): the first engine's rules on the entries and the rest, cited, and
-- arrival numbers in place of the queue and of the word of the ready levels; and its check as it is computed.
use Rattle.std.specs.Prelude.{ℕ, ◌≤◌, ◌<◌, ◌≡◌, ◌↔◌, Bool, true, false, cond, List, leb, ltb, eqb}
use Rattle.executive.specs.Lists.{◌and◌, all_of}
use Rattle.executive.specs.Check.{all_but_queue}
use Rattle.scan.specs.declared.Entry.{Entry}
use Rattle.scan.specs.declared.Scanned.{Scanned}
use Rattle.scan.specs.Entries.{most_arrivals, tasks_in, entry_at, is_ready, count_of, is_bearer}
use Rattle.scan.specs.Choosing.{IsReady, arrival_in}

-- ready tasks bear distinct numbers from 1, none above the last given; all others, and the entries past the count, bear 0
pub record Arrivals (e : Scanned) : Type 0 where
  pub last : e.last ≤ most_arrivals
  pub some : (k : ℕ) → IsReady e.entries k → 0 < arrival_in e.entries k
  pub given : (k : ℕ) → arrival_in e.entries k ≤ e.last
  pub once : (n : ℕ) → 0 < n → count_of (is_bearer n) e.entries ≤ 1
  pub others : (k : ℕ) → is_ready (entry_at e.entries k) ≡ false → arrival_in e.entries k ≡ 0

pub record SoundScan (e : Scanned) : Type 0 where
  -- every rule of the first engine's table on the entries and the rest: all of `WellFormed` but the queue's and the
  -- word's, by the tests that decide them
  pub rules : all_but_queue (tasks_in e.entries) e.rest ≡ true
  pub arrivals : Arrivals e

-- ---- the check: one entry's number among the entries es, with the last number given; all of them
abbrev pub arrival_right : ℕ → List Entry → Entry → Bool
arrival_right last es x =
    cond (is_ready x)
    (ltb 0 x.arrival and leb x.arrival last and leb (count_of (is_bearer x.arrival) es) 1)
    (eqb x.arrival 0)

unfoldable pub arrivals_right : Scanned → Bool
arrivals_right e = leb e.last most_arrivals and all_of (arrival_right e.last e.entries) e.entries

unfoldable pub is_sound : Scanned → Bool
is_sound e = arrivals_right e and all_but_queue (tasks_in e.entries) e.rest

-- what the check answers: number 0 for a well-formed table, number 1 for any other
pub record Checked (e : Scanned) (r : ℕ) : Type 0 where
  pub right : (r ≡ 0) ↔ SoundScan e
  pub wrong : (r ≡ 1) ↔ (SoundScan e → ⊥)
