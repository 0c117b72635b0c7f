-- Every fresh table is well formed: the dormant one is, and the starts are a good plan on it.
use Prim.Native.Nat.{ℕ, zero, suc, ◌+◌, ◌≤◌, ◌<◌, zero-le}
use mathlib.Core.Path.{◌≡◌, refl, ap, sym, ◌∙◌}
use mathlib.Core.Bool.{Bool, true, false, cond}
use mathlib.Core.List.{List, [], ◌∷◌, ◌++◌}
use borrow.Author.Tests.{ne_eqb}
use native.Mathlib.Omega.{arith}
use lib.Dec.{eqb}
use lib.ListN.{length, get_or}
use Rattle.records.specs.Numbers.{Bytes}
use Rattle.executive.specs.declared.AwaitedMoment.TheVariants.{ForNothing}
use Rattle.executive.specs.declared.Task.{Task}
use Rattle.executive.specs.declared.Work.{Work}
use Rattle.executive.specs.Lists.{one, pad, sum_of}
use Rattle.executive.specs.Queue.{count}
use Rattle.executive.specs.Places.{nobody, never, no_task, Names, task_at, put_at}
use Rattle.executive.specs.Table.{items, levels_of, lit_in_flight, stays, Join, Plan, FindsRoom, depart, apply, begin, enter_all_in_flight, apply_in_flight}
use Rattle.executive.specs.States.{dormant, ready, await_start, await_end, await_message, awaited_of, is_of, is, is_ready, waits_for}
use Rattle.executive.specs.Plans.{asks, begins}
use Rattle.executive.specs.WellFormed.{WellFormed, runs_of, Line}
use Rattle.executive.specs.Subprograms.{no_subprogram}
use Rattle.executive.specs.Messages.{no_mail, mail_at}
use Rattle.executive.specs.Configuration.{granule_in, own_in, mark_in, tasks_in, is_configuration, blank_rest, dormant_at, sleepers, dormant_table, marked_start, starters, fresh_table, fresh_of, zero_table, made_by}
use Rattle.executive.specs.Promises.FreshLaw.{no_configuration}
use Rattle.executive.specs.Promises.Demands.{Dispatched}
use Rattle.executive.proofs.step.Dispatched.{dispatches}
use Rattle.executive.proofs.Lists.Tests.{false_not_true, not-zero}
use Rattle.executive.proofs.Lists.Pad.{pad-at}
use Rattle.executive.proofs.queue.InFlight.{admits_rest, carry_still}
use Rattle.executive.proofs.places.TaskAt.{at_other, put_length}
use Rattle.executive.proofs.Plans.Size.{sum_zeros}
use Rattle.executive.proofs.Plans.QueueKept.{not-both}
use Rattle.executive.proofs.Plans.LinksKept.{put_all, LinksUpTo, links-up, up-links}
use Rattle.executive.proofs.Plans.Links as links
use Rattle.executive.proofs.Plans.WorkingForm.{EntryOk, blank-own, busy-own, LinksOk, RestOk, SubsOk, WellFormedByPart, formed, well_formed}
use Rattle.executive.proofs.Plans.GoodIsKept.{puts, Good, GoodOutcome, plan_in_flight, apply-kept}
use Rattle.executive.proofs.Plans.SubsKept.{joined, subs_else}
use Rattle.executive.proofs.Plans.Rising.{Done}
use Rattle.executive.proofs.messages.Kept.{MailOk}
use Rattle.executive.proofs.configuration.Loops.{dormant-fit}
use Rattle.executive.proofs.configuration.Shape.{Configured, configured}

-- ---- the dormant table
module _ (s : List ℕ) (n : ℕ) where
  sleeper_at : (P : ℕ → Task → Type 0) → ((k : ℕ) → 0 < k → k ≤ n → P k (dormant_at (own_in s k))) → ((k : ℕ) → P k no_task)
      → (m k i : ℕ) → 0 < k → k + m ≤ n + 1 → P (k + i) (get_or (sleepers s m k) i no_task)
  unfolding sleepers
  sleeper_at P y z zero k i h l = z (k + i)
  sleeper_at P y z (suc m) k zero h l = let e : k + 0 ≡ k = omega arith in rw e (y k h (omega arith))
  sleeper_at P y z (suc m) k (suc i) h l = let e : k + suc i ≡ suc k + i = omega arith in rw e (sleeper_at P y z m (suc k) i (omega arith) (omega arith))

  abbrev pub asleep : List Task
  asleep = pad 16 no_task (sleepers s n 1)

  -- a fact of every entry: of each dormant task's, and of a blank one
  each-asleep : (P : ℕ → Task → Type 0) → ((k : ℕ) → 0 < k → k ≤ n → P k (dormant_at (own_in s k))) → ((k : ℕ) → P k no_task) → (k : ℕ) → P k (task_at asleep k)
  unfolding task_at
  each-asleep P y z zero = z 0
  each-asleep P y z (suc i) = let e : suc i ≡ 1 + i = omega arith in rw (pad-at no_task 16 (sleepers s n 1) i, e) (sleeper_at P y z n 1 i (omega arith) (omega arith))

  -- a fact of every entry that does not look at the own priority
  any-asleep : (P : Task → Type 0) → ((p : ℕ) → P (dormant_at p)) → (k : ℕ) → P (task_at asleep k)
  any-asleep P y = each-asleep (λ _ e. P e) (λ k _ _. y (own_in s k)) (λ _. y 0)

  runs_none : (k : ℕ) → 0 < k → runs_of k asleep ≡ 0
  unfolding task_at
  runs_none k h = sum_zeros (λ (e : Task). one (eqb k e.end_waiter.0)) asleep (λ i. any-asleep (λ e. one (eqb k e.end_waiter.0) ≡ 0) (λ _. ap one (not-zero k h)) (suc i))

  asleep-links : LinksOk asleep []
  unfolding sum_of
  asleep-links = record {
    starts = λ k _. any-asleep (λ e. 0 ≡ is await_start e.state) (λ _. refl) k;
    ends = λ k h. rw (runs_none k h) (any-asleep (λ e. 0 ≡ is await_end e.state) (λ _. refl) k);
    others = refl;
    apart = λ k h. any-asleep (λ e. eqb k e.end_waiter.0 ≡ false) (λ _. not-zero k h) k;
    single = refl;
    named = refl;
    busy = λ k _ _. refl;
    quiet = λ k. any-asleep (λ e. is dormant e.state ≡ 1 → e.end_waiter.0 ≡ 0) (λ _ _. refl) k;
  }

  asleep-line : Line is_ready asleep []
  unfolding items count
  asleep-line = record { exact = any-asleep (λ e. 0 ≡ is ready e.state) (λ _. refl); sorted = tt }

  asleep-lined : SubsOk asleep (pad 8 no_subprogram [])
  unfolding pad items count
  asleep-lined = record {
    sized = refl;
    each = λ m. rw (pad-at no_subprogram 8 [] m) (record {
      neat = record { room = zero-le; clear = refl };
      busy = λ h. absurd (omega arith);
      free = λ _. refl;
      waiters = record { exact = any-asleep (λ e. 0 ≡ one (waits_for m e.state)) (λ _. refl); sorted = tt };
    });
  }

  asleep-mailed : (g : ℕ) → MailOk asleep (blank_rest n g)
  unfolding pad sum_of mail_at
  asleep-mailed g = record {
    neat = record { room = zero-le; clear = refl };
    places = refl;
    names = refl;
    sorted = tt;
    unmet = λ k _. refl;
    senders = λ k. any-asleep (λ e. is_of await_message e.state ≡ true → awaited_of e.state ≤ n) (λ _ _. zero-le) k;
    mail = λ k. rw (no-mail k) zero-le;
    emptied = λ k _. no-mail k;
  }
    where
      no-mail : (k : ℕ) → mail_at (pad 16 no_mail []) k ≡ no_mail
      no-mail zero = refl
      no-mail (suc i) = pad-at no_mail 16 [] i

  asleep-own : ((k : ℕ) → 0 < k → k ≤ n → own_in s k ≤ 15) → (k : ℕ) → EntryOk 0 0 n k (task_at asleep k)
  asleep-own h = each-asleep (EntryOk 0 0 n) (λ k g l. record {
    calm = (false_not_true, false_not_true);
    started = zero-le;
    level = zero-le;
    home = h k g l;
    zeros = λ _. record { priority = refl; argument = refl; start = refl; waiter = refl };
    beyond = λ m. absurd (omega arith);
  }) (λ k. blank-own)

blank-rested : (n g : ℕ) → 1 ≤ n → n ≤ 16 → 1 ≤ g → g < 256 → RestOk (blank_rest n g)
unfolding sum_of pad
blank-rested n g h l m u = record {
  count = (h, l);
  granule = (m, omega arith);
  clocked = zero-le;
  sized = refl;
  alarms = λ i p. absurd (omega (arith, rw (pad-at never 32 [] i) at p));
  priorities = refl;
  neat = record { room = zero-le; clear = refl };
}

pub dormant-formed : (s : List ℕ) → Bytes s → Configured s → WellFormedByPart (dormant_table s)
unfolding dormant_table items levels_of
dormant-formed s b c = record {
  fit = dormant-fit s (tasks_in s) (granule_in s) c.few;
  queue = asleep-line s (tasks_in s);
  links = asleep-links s (tasks_in s);
  own = asleep-own s (tasks_in s) c.own;
  rested = blank-rested (tasks_in s) (granule_in s) c.some c.few c.granule (b 1);
  lit = refl;
  lined = asleep-lined s (tasks_in s);
  mailed = asleep-mailed s (tasks_in s) (granule_in s);
}

-- ---- the starts: from number k on, the tasks are still dormant
record Still (ts : List Task) (n k : ℕ) : Type 0 where
  pub size : length ts ≡ 16
  pub linked : LinksUpTo ts [] 0 0 0
  pub own : (j : ℕ) → EntryOk 0 0 n j (task_at ts j)
  pub dormant : (j : ℕ) → k ≤ j → is dormant (task_at ts j).state ≡ 1

module _ (s : List ℕ) (n : ℕ) (few : n ≤ 16) (right : (k : ℕ) → 0 < k → k ≤ n → own_in s k ≤ 15) where
  started : (m k : ℕ) (ts : List Task) → 0 < k → k + m ≡ n + 1 → Still ts n k → Done (starters s m k) ts [] 0 0 n
  unfolding starters marked_start puts
  started zero k ts h e d = record { joining = tt; linked = d.linked; own = d.own }
  started (suc m) k ts h e d = go (eqb (mark_in s k) 1) (λ us. started m (suc k) us (omega arith) (omega arith))
    where
      j : Join
      j = begins (record { 0 = k }) (asks nobody ForNothing (record { 0 = k }) (own_in s k) 0) never

      v : Task
      v = j.change (task_at ts k)

      names : Names k ts
      names = (h, omega (arith, d.size))

      ready : Still (put_at ts k v) n (suc k)
      ready = record {
        size = put_length ts k v ∙ d.size;
        linked = links.begin ts [] k v 0 0 names (d.dormant k (omega arith)) refl refl (not-zero k h) 0 (λ i g _. not-zero i g) d.linked;
        own = λ i. put_all (EntryOk 0 0 n) ts k v names (busy-own (false_not_true, false_not_true) zero-le (right k h (omega arith)) (d.own k).home refl (omega arith)) i (λ _. d.own i);
        dormant = λ i l. rw (at_other ts k i v (ne_eqb i k (λ e. omega arith))) (d.dormant i (omega arith));
      }

      go : (b : Bool) → ((us : List Task) → Still us n (suc k) → Done (starters s m (suc k)) us [] 0 0 n) → Done (cond b (j ∷ []) [] ++ starters s m (suc k)) ts [] 0 0 n
      go true ih =
          let r = ih (put_at ts k v) ready in
          record {
            joining = (record { names = names; before = omega (arith, not-both (task_at ts k).state, d.dormant k (omega arith)); after = refl }, r.joining);
            linked = r.linked;
            own = r.own;
          }
      go false ih = ih ts (record { size = d.size; linked = d.linked; own = d.own; dormant = λ i l. d.dormant i (omega arith) })

-- ---- the starts are a plan, and it is good
abbrev pub starts_plan : List ℕ → Plan
starts_plan s = record { out = stays; ins = starters s (tasks_in s) 1; rest = (dormant_table s).rest }

starts-good : (s : List ℕ) → Bytes s → Configured s → Good (starts_plan s) (dormant_table s)
unfolding dormant_table
starts-good s b c =
    let f : WellFormedByPart (dormant_table s) = dormant-formed s b c in
    let d : Done (starters s (tasks_in s) 1) (dormant_table s).tasks [] 0 0 (tasks_in s) = started s (tasks_in s) c.few c.own (tasks_in s) 1 (dormant_table s).tasks (omega arith) (omega arith) (record {
      size = f.fit.all;
      linked = links-up f.links;
      own = f.own;
      dormant = λ j _. any-asleep s (tasks_in s) (λ e. is dormant e.state ≡ 1) (λ _. refl) j;
    }) in
    record {
      leaving = refl;
      joining = joined (starters s (tasks_in s) 1) (dormant_table s).tasks d.joining;
      linked = up-links d.linked;
      own = d.own;
      rested = f.rested;
      lined = subs_else (starters s (tasks_in s) 1) (dormant_table s).tasks d.joining f.lined;
      mailed = f.mailed;
    }

pub starts-kept : (s : List ℕ) → Bytes s → is_configuration s ≡ true → GoodOutcome (starts_plan s) (dormant_table s)
starts-kept s b e = let c = configured s e in apply-kept (starts_plan s) (dormant_table s) (dormant-formed s b c) (starts-good s b c)

-- in flight it is the fresh table
starts-are : (s : List ℕ) → apply_in_flight (starts_plan s) (dormant_table s) ≡ lit_in_flight (enter_all_in_flight (starters s (tasks_in s) 1) (begin (dormant_table s)))
unfolding depart
starts-are s = carry_still (starts_plan s) (dormant_table s) refl

pub fresh-is : (s : List ℕ) → fresh_table s ≡ (apply_in_flight (starts_plan s) (dormant_table s)).table
unfolding fresh_table
fresh-is s = ap (λ (w : Work). w.table) (sym (starts-are s))

pub fresh-formed : (s : List ℕ) → Bytes s → is_configuration s ≡ true → WellFormed (fresh_table s)
fresh-formed s b e =
    rw (fresh-is s ∙ plan_in_flight (starts_plan s) (dormant_table s)) (well_formed (apply (starts_plan s) (dormant_table s)) (starts-kept s b e).formed)

pub fresh-room : (s : List ℕ) → Bytes s → is_configuration s ≡ true → FindsRoom (starters s (tasks_in s) 1) (dormant_table s)
unfolding depart
fresh-room s b e = (starts-kept s b e).room

pub fresh-clock : (s : List ℕ) → (fresh_table s).rest.clock.0 ≡ 0
unfolding fresh_table dormant_table
fresh-clock s = rw (admits_rest (starters s (tasks_in s) 1) (begin (dormant_table s))) refl

pub fresh-flags : (s : List ℕ) → (fresh_table s).rest.flags ≡ 0
unfolding fresh_table dormant_table
fresh-flags s = rw (admits_rest (starters s (tasks_in s) 1) (begin (dormant_table s))) refl

pub fresh-made : (s : List ℕ) → is_configuration s ≡ true → fresh_of s ≡ made_by 0 (fresh_table s)
unfolding fresh_of
fresh-made s e = rw e refl

pub fresh-refused : (s : List ℕ) → is_configuration s ≡ false → fresh_of s ≡ record { answer = no_configuration; table = zero_table }
unfolding fresh_of pad task_at
fresh-refused s e = rw e refl

pub fresh-dispatched : (s : List ℕ) → Bytes s → is_configuration s ≡ true
    → Dispatched (fresh_of s).table (fresh_of s).answer.active.0
fresh-dispatched s b e = rw (fresh-made s e) (dispatches (fresh_table s) (formed (fresh-formed s b e)))
