-- Whom the second engine chooses (02): highest priority, then earliest arrival number, by a scan of all entries.
use Rattle.std.specs.Prelude.{ℕ, zero, suc, ◌≤◌, ◌<◌, ◌≡◌, ◌↔◌, true, false, not, cond, List, [], ◌∷◌, ltb, length, set}
use Rattle.records.specs.declared.TaskNo.{TaskNo}
use Rattle.executive.specs.Places.{nobody}
use Rattle.scan.specs.declared.Entry.{Entry}
use Rattle.scan.specs.declared.Best.{Best}
use Rattle.scan.specs.Entries.{no_entry, entry_at, is_ready}

abbrev pub best_at : ℕ → Entry → Best
best_at i x = record { found = true; at = i; priority = x.task.priority; arrival = x.arrival }

-- the entry at place i against the best so far: ready, and of higher priority, or of equal priority and earlier
abbrev pub better_of : Best → ℕ → Entry → Best
better_of b i x =
    cond (not (is_ready x)) b
    (cond (not b.found) (best_at i x)
    (cond (ltb b.priority x.task.priority) (best_at i x)
    (cond (ltb x.task.priority b.priority) b
    (cond (ltb x.arrival b.arrival) (best_at i x) b))))

abbrev pub none_found : Best
none_found = record { found = false; at = 0; priority = 0; arrival = 0 }

-- the best of the entries from place i on, and of b
unfoldable pub scanned : List Entry → ℕ → Best → Best
scanned [] i b = b
scanned (x ∷ xs) i b = scanned xs (suc i) (better_of b i x)

abbrev pub chosen : List Entry → Best
chosen es = scanned es 0 none_found

-- the number of the chosen task; nobody's where none is ready
abbrev pub number_of : Best → TaskNo
number_of b = cond b.found (record { 0 = suc b.at }) nobody

abbrev pub chosen_no : List Entry → TaskNo
chosen_no es = number_of (chosen es)

-- ---- the order of choosing: the first chosen, then the first chosen among the others, and on; n of them at most
unfoldable pub order_from : ℕ → List Entry → List TaskNo
order_from zero es = []
order_from (suc n) es = cond (chosen es).found (chosen_no es ∷ order_from n (set es (chosen es).at no_entry)) []

abbrev pub order_of : List Entry → List TaskNo
order_of es = order_from (length es) es

-- ---- the same in words: task k is ready, no ready task has a higher priority, and of those with its priority none has
-- an earlier number
abbrev pub IsReady : List Entry → ℕ → Type 0
IsReady es k = is_ready (entry_at es k) ≡ true

abbrev pub priority_in : List Entry → ℕ → ℕ
priority_in es k = (entry_at es k).task.priority

abbrev pub arrival_in : List Entry → ℕ → ℕ
arrival_in es k = (entry_at es k).arrival

pub record First (es : List Entry) (k : ℕ) : Type 0 where
  pub ready : IsReady es k
  pub highest : (j : ℕ) → IsReady es j → priority_in es j ≤ priority_in es k
  pub earliest : (j : ℕ) → IsReady es j → priority_in es j ≡ priority_in es k → arrival_in es k ≤ arrival_in es j

-- no two ready tasks bear one number
abbrev pub Distinct : List Entry → Type 0
Distinct es = (i j : ℕ) → IsReady es i → IsReady es j → arrival_in es i ≡ arrival_in es j → i ≡ j

pub record Choice : Type 0 where
  pub first : (es : List Entry) → 0 < (chosen_no es).0 → First es (chosen_no es).0
  -- nobody is chosen exactly if none is ready
  pub nobody : (es : List Entry) → ((chosen_no es).0 ≡ 0) ↔ ((k : ℕ) → is_ready (entry_at es k) ≡ false)
  -- with distinct numbers there is one such only
  pub only : (es : List Entry) → Distinct es → (j k : ℕ) → First es j → First es k → j ≡ k
