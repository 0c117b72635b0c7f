-- The fresh table said out: its entries, its queue and the rest of it, read off the configuration's tasks.
use Prim.Native.Nat.{ℕ, zero, suc, ◌+◌, ◌≤◌}
use mathlib.Core.Path.{◌≡◌, refl, sym, ap, ◌∙◌}
use mathlib.Core.Bool.{Bool, true, false, cond}
use mathlib.Core.List.{List, [], ◌∷◌, ◌++◌, append_assoc, map}
use native.Mathlib.Omega.{arith}
use lib.Dec.{eqb}
use lib.ListN.{length, length-append}
use lib.Seq.{set-append_seam, get_or-append_seam}
use Rattle.records.specs.Numbers.{Bytes}
use Rattle.executive.specs.declared.AwaitedMoment.TheVariants.{ForNothing}
use Rattle.executive.specs.declared.Task.{Task}
use Rattle.executive.specs.declared.Rest.{Rest}
use Rattle.executive.specs.declared.Table.{Table}
use Rattle.executive.specs.Queue.{Item, inserts, left, play}
use Rattle.executive.specs.Lists.{pad}
use Rattle.executive.specs.Places.{nobody, never, no_task, task_at, put_at}
use Rattle.executive.specs.Table.{items, view, Join, apply, begin, change-at, entries, moves_of}
use Rattle.executive.specs.Plans.{asks, begins}
use Rattle.executive.specs.Configuration.{granule_in, own_in, mark_in, tasks_in, blank_rest, dormant_at, sleepers, dormant_table, marked_start, starters, fresh_table}
use Rattle.executive.specs.Promises.FreshLaw.{Entry, Configuration, started_at, entry_of, marked, SaidOut}
use Rattle.executive.proofs.queue.InFlight.{admits_rest}
use Rattle.executive.proofs.Plans.Moves.{apply-view}
use Rattle.executive.proofs.Plans.GoodIsKept.{plan_in_flight, puts}
use Rattle.executive.proofs.step.OthersStay.{plan-tasks}
use Rattle.executive.proofs.configuration.Shape.{configured}
use Rattle.executive.proofs.configuration.Exactly.{entries_in, entries-back, tested}
use Rattle.executive.proofs.configuration.WellFormed.{starts_plan, starts-kept, fresh-is}

-- one entry of a row is stored anew
stored : (pre rest : List Task) (d : Task) (k : ℕ) (f : Task → Task) → k ≡ suc (length pre)
    → put_at (pre ++ (d ∷ rest)) k (f (task_at (pre ++ (d ∷ rest)) k)) ≡ pre ++ (f d ∷ rest)
unfolding put_at task_at
stored pre rest d k f e = rw (e, get_or-append_seam pre d rest no_task) (set-append_seam pre d rest (f d))

module _ (s : List ℕ) where
  abbrev starting : ℕ → Join
  starting k = begins (record { 0 = k }) (asks nobody ForNothing (record { 0 = k }) (own_in s k) 0) never

  -- ---- the queue: those that start enter as the marked ones
  starters-enter : (n k : ℕ) (ts : List Task) → entries (starters s n k) ts ≡ marked k (entries_in s n k)
  unfolding starters marked_start entries marked entries_in
  starters-enter zero k ts = refl
  starters-enter (suc n) k ts = go (eqb (mark_in s k) 1) (starters-enter n (suc k))
    where
      ms : List Item
      ms = marked (suc k) (entries_in s n (suc k))

      go : (b : Bool) → ((us : List Task) → entries (starters s n (suc k)) us ≡ ms)
          → entries (cond b (starting k ∷ []) [] ++ starters s n (suc k)) ts
          ≡ cond b (record { task = k; prio = own_in s k } ∷ ms) ms
      go true ih = ap (λ (l : List Item). record { task = k; prio = own_in s k } ∷ l) (ih (change-at ts k (starting k).change))
      go false ih = ih ts

  -- ---- the entries: those before number k stand as they will be
  starters-stored : (n k m : ℕ) (pre : List Task) → k ≡ suc (length pre) → n ≤ m
      → puts (starters s n k) (pre ++ pad m no_task (sleepers s n k))
      ≡ pre ++ pad m no_task (map entry_of (entries_in s n k))
  unfolding starters marked_start puts sleepers entries_in pad
  starters-stored zero k m pre e l = refl
  starters-stored (suc n) k zero pre e l = absurd (omega arith)
  starters-stored (suc n) k (suc m) pre e l =
      go (eqb (mark_in s k) 1)
      (λ x.
      let z : length (pre ++ (x ∷ [])) ≡ length pre + 1 = length-append pre (x ∷ []) in
      ap (puts (starters s n (suc k))) (sym (append_assoc pre (x ∷ []) (pad m no_task (sleepers s n (suc k)))))
      ∙ starters-stored n (suc k) m (pre ++ (x ∷ [])) (omega arith) (omega arith)
      ∙ append_assoc pre (x ∷ []) (pad m no_task (map entry_of (entries_in s n (suc k)))))
    where
      still : List Task
      still = pad m no_task (sleepers s n (suc k))

      done : List Task
      done = pad m no_task (map entry_of (entries_in s n (suc k)))

      go : (b : Bool) → ((x : Task) → puts (starters s n (suc k)) (pre ++ (x ∷ still)) ≡ pre ++ (x ∷ done))
          → puts (cond b (starting k ∷ []) [] ++ starters s n (suc k)) (pre ++ (dormant_at (own_in s k) ∷ still))
          ≡ pre ++ (cond b (started_at (own_in s k)) (dormant_at (own_in s k)) ∷ done)
      go true ih = ap (puts (starters s n (suc k))) (stored pre still (dormant_at (own_in s k)) k (starting k).change e)
          ∙ ih (started_at (own_in s k))
      go false ih = ih (dormant_at (own_in s k))

  -- ---- all of it
  module _ (b : Bytes s) (c : Configuration s) where
    abbrev n : ℕ
    n = tasks_in s

    is-plan : fresh_table s ≡ apply (starts_plan s) (dormant_table s)
    is-plan = fresh-is s ∙ plan_in_flight (starts_plan s) (dormant_table s)

    tasks-are : (fresh_table s).tasks ≡ pad 16 no_task (map entry_of (entries_in s n 1))
    unfolding dormant_table
    tasks-are =
        ap (λ (t : Table). t.tasks) is-plan
        ∙ plan-tasks (starts_plan s) (dormant_table s)
        ∙ starters-stored n 1 16 [] refl (configured s (tested s c)).few

    queue-is : view (fresh_table s) ≡ inserts (marked 1 (entries_in s n 1)) []
    unfolding dormant_table play left moves_of items pad
    queue-is =
        ap (λ (t : Table). view t) is-plan
        ∙ (apply-view (starts_plan s) (dormant_table s) (starts-kept s b (tested s c)).sound).0
        ∙ ap (λ (l : List Item). inserts l []) (starters-enter n 1 (dormant_table s).tasks)

    rest-is : (fresh_table s).rest ≡ blank_rest n (granule_in s)
    unfolding fresh_table dormant_table
    rest-is = admits_rest (starters s n 1) (begin (dormant_table s))

    pub said-out : SaidOut c.granule c.tasks (fresh_table s)
    said-out =
        let r = entries-back s c in
        record {
          count = ap (λ (x : Rest). x.count) rest-is ∙ r.0;
          granule = ap (λ (x : Rest). x.granule) rest-is ∙ r.1;
          tasks = tasks-are ∙ ap (λ (es : List Entry). pad 16 no_task (map entry_of es)) r.2;
          queue = queue-is ∙ ap (λ (es : List Entry). inserts (marked 1 es) []) r.2;
          no-alarm = ap (λ (x : Rest). x.alarms) rest-is;
          no-request = (ap (λ (x : Rest). x.queued) rest-is, ap (λ (x : Rest). x.pool) rest-is);
        }
