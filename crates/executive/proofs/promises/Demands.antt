-- The founder's demands, shown: demand 3 over any records, and the record of all of them.
use mathlib.Core.Path.{◌≡◌, refl, sym, ap, ◌∙◌}
use mathlib.Core.Logic.{◌≢◌}
use mathlib.Core.Bool.{Bool, true, false, cond}
use mathlib.Core.List.{List, [], ◌∷◌, ◌++◌}
use Prim.Native.Nat.{ℕ, zero, suc, ◌+◌, ◌≤◌, ◌<◌}
use native.Mathlib.Omega.{arith}
use borrow.Author.Tests.{le-leb, lt-ltb, eq-eqb}
use lib.Dec.{eqb}
use lib.ListN.{length, get_or}
use Rattle.records.specs.Firsts.{first_of}
use Rattle.records.specs.declared.TaskNo.{TaskNo}
use Rattle.records.specs.Numbers.{Bytes}
use Rattle.records.specs.Kinds.{kind_of}
use Rattle.records.specs.Reading.{read_as, read_of}
use Rattle.executive.specs.declared.State.TheVariants.{Ready}
use Rattle.executive.specs.declared.Task.{Task}
use Rattle.executive.specs.declared.Request.{Request}
use Rattle.executive.specs.declared.Table.{Table}
use Rattle.executive.specs.Queue.{Item, Moves, count, ahead, prio_in, active_of, left, play, plays, Fresh, Legal, Waiting, departures, entries_above}
use Rattle.executive.specs.Lists.{one}
use Rattle.executive.specs.Places.{nobody, no_request, task_at}
use Rattle.executive.specs.Table.{line, view, Join, entries, apply, moves_of}
use Rattle.executive.specs.Pool.{requests, place_of}
use Rattle.executive.specs.States.{ready}
use Rattle.executive.specs.Entries.{with_state, begun, risen}
use Rattle.executive.specs.Clock.{aim_at}
use Rattle.executive.specs.Plans.{caller, end_waiter, waking, terminate_plan, restart_plan}
use Rattle.executive.specs.WellFormed.{WellFormed}
use Rattle.executive.specs.Sheet.{plan_of}
use Rattle.executive.specs.Refusals.{call_in, call_refusals, refusals}
use Rattle.executive.specs.Step.{step_of}
use Rattle.executive.specs.Promises.Demands.{plan_of_record, after, history, AllBytes, IsReady, Dispatched, NotYet, Overtaking, departed_of, entered_of, Restarts, RestartsBy, Demands}
use Rattle.executive.proofs.Lists.Tests.{eqb_self, not-zero}
use Rattle.executive.proofs.queue.Law.{first, first-only}
use Rattle.executive.proofs.queue.Overtaking.{Still, played, overtaken, play-count}
use Rattle.executive.proofs.Plans.Moves.{apply-view}
use Rattle.executive.proofs.Plans.WorkingForm.{formed}
use Rattle.executive.proofs.Plans.QueueKept.{is_le}
use Rattle.executive.proofs.Plans.LinksKept.{links-up}
use Rattle.executive.proofs.Plans.Links.{take, place-target}
use Rattle.executive.proofs.Plans.Shared.{runs}
use Rattle.executive.proofs.refusals.NothingRefuses.{end_owed, restart_owed}
use Rattle.executive.proofs.step.StepIsPlan.{call-allowed, step_is, step_kept}
use Rattle.executive.proofs.step.FirstThatHolds.{number-decided, unformed, order, allowed, allowed-formed, refusal-keeps, answers-active}
use Rattle.executive.proofs.step.InWords.{given}
use Rattle.executive.proofs.check.Decides.{well_formed-iff, checked_once}
use Rattle.executive.proofs.states.Laws.{ready-named, ready-kind}
use Rattle.executive.proofs.step.Dispatched.{prio-is, dispatches}
use Rattle.executive.proofs.step.OthersStay.{head-is-active, step-others}

-- ---- demand 1, over any records
pub kept : (t : Table) (ss : List (List ℕ)) → WellFormed t → AllBytes ss → WellFormed (after t ss)
unfolding after
kept t [] w b = w
kept t (s ∷ ss) w b = kept (step_of t s).table ss (step_kept t s w b.0) b.1

pub executed : (t : Table) (s : List ℕ) → WellFormed t → Bytes s → (step_of t s).table ≡ apply (plan_of_record t s) t
executed t s w b = (step_is t s w b).table

-- ---- demand 2
pub dispatched : (t : Table) (ss : List (List ℕ)) (s : List ℕ) → WellFormed t → AllBytes ss → Bytes s
    → Dispatched (step_of (after t ss) s).table (step_of (after t ss) s).answer.active.0
dispatched t ss s w bs b =
    let v : WellFormed (after t ss) = kept t ss w bs in
    rw (answers-active (after t ss) s ((well_formed-iff (after t ss)).1 v)) (dispatches (step_of (after t ss) s).table (formed (step_kept (after t ss) s v b)))

-- ---- demand 3
-- what a step does to the queue is what its plan says
pub step-moves : (t : Table) (s : List ℕ) → WellFormed t → Bytes s
    → (view (step_of t s).table ≡ play (moves_of (plan_of_record t s) t) (view t)) × Fresh (moves_of (plan_of_record t s) t).ins (left (moves_of (plan_of_record t s) t).out (view t))
step-moves t s w b = let x = step_is t s w b in rw x.table (apply-view (plan_of_record t s) t x.kept.sound)

-- the moves of a history make the queue of its table, are legal, and k waits through them
pub record Told (t : Table) (k : ℕ) (ss : List (List ℕ)) : Type 0 where
  pub queue : view (after t ss) ≡ plays (history t ss) (view t)
  pub legal : Legal (history t ss) (view t)
  pub waits : Waiting k (view t) (history t ss)

-- who is in the queue and not active has somebody ahead
waiting : (q : List Item) (k : ℕ) → 0 < count k q → active_of q ≢ k → 0 < ahead k q
waiting q k h n = go (ahead k q) refl
  where
    go : (m : ℕ) → ahead k q ≡ m → 0 < m
    go zero e = absurd (n (first q k h e))
    go (suc m) e = omega arith

told : (t : Table) (k : ℕ) (ss : List (List ℕ)) → WellFormed t → AllBytes ss → 0 < count k (view t) → NotYet k t ss → Told t k ss
unfolding after history plays
told t k [] w b h n = record { queue = refl; legal = tt; waits = tt }
told t k (s ∷ ss) w b h n =
    let m : Moves = moves_of (plan_of_record t s) t in
    let x = step-moves t s w b.0 in
    let a : 0 < ahead k (view t) = waiting (view t) k h n.0 in
    let p = played k m (view t) (formed w).queue.sorted h a x.1 in
    let r : Told (step_of t s).table k ss = told (step_of t s).table k ss (step_kept t s w b.0) b.1 (rw x.0 p.there) n.1 in
    record {
      queue = r.queue ∙ ap (plays (history (step_of t s).table ss)) x.0;
      legal = (x.1, rw x.0 at r.legal);
      waits = (a, rw x.0 at r.waits);
    }

pub overtaking : (t : Table) (k : ℕ) (ss : List (List ℕ)) → WellFormed t → AllBytes ss → IsReady t k → NotYet k t ss → Overtaking t k ss
overtaking t k ss w b y n =
    let h : 0 < count k (view t) = omega (arith, w.queue.exactly.exact k, ready-kind _ y) in
    let v : WellFormed (after t ss) = kept t ss w b in
    let d : Told t k ss = told t k ss w b h n in
    let s : Still k (view t) (plays (history t ss) (view t)) (entries_above (prio_in k (view t)) (history t ss)) (departures (history t ss)) =
    overtaken k (history t ss) (view t) (formed w).queue.sorted h d.legal d.waits in
    let there : 0 < count k (view (after t ss)) = rw d.queue s.there in
    let p : prio_in k (view t) ≡ (task_at t.tasks k).priority = prio-is t.tasks (line t) k h in
    let p' : prio_in k (view (after t ss)) ≡ prio_in k (view t) = rw d.queue s.prio in
    record {
      still-ready = ready-named _ (omega (arith, v.queue.exactly.exact k, is_le ready (task_at (after t ss).tasks k).state));
      same-priority = sym (prio-is (after t ss).tasks (line (after t ss)) k there) ∙ p' ∙ p;
      number = rw (d.queue, ← p) s.number;
      active-at-nought = (first (view (after t ss)) k there, first-only (view (after t ss)) k there);
    }

-- in the queue after and departed is in the queue before and entered
pub accounted : (t : Table) (k : ℕ) (ss : List (List ℕ)) → WellFormed t → AllBytes ss → 0 < k
    → count k (view (after t ss)) + departed_of k t ss ≡ count k (view t) + entered_of k (history t ss)
unfolding after history departed_of entered_of
accounted t k [] w b h = refl
accounted t k (s ∷ ss) w b h =
    let m : Moves = moves_of (plan_of_record t s) t in
    let e : view (step_of t s).table ≡ play m (view t) = (step-moves t s w b.0).0 in
    omega (
      arith,
      play-count m (view t) k h,
      ap (count k) e,
      accounted (step_of t s).table k ss (step_kept t s w b.0) b.1 h,
    )

-- the queue after is the moves played on the queue before, and they are legal
record Played (t : Table) (ss : List (List ℕ)) : Type 0 where
  pub queue : view (after t ss) ≡ plays (history t ss) (view t)
  pub legal : Legal (history t ss) (view t)

moved : (t : Table) (ss : List (List ℕ)) → WellFormed t → AllBytes ss → Played t ss
unfolding after history plays
moved t [] w b = record { queue = refl; legal = tt }
moved t (s ∷ ss) w b =
    let x = step-moves t s w b.0 in
    let r : Played (step_of t s).table ss = moved (step_of t s).table ss (step_kept t s w b.0) b.1 in
    record { queue = r.queue ∙ ap (plays (history (step_of t s).table ss)) x.0; legal = (x.1, rw x.0 at r.legal) }

-- a task that neither departed nor entered has its entry as it was
pub others : (t : Table) (k : ℕ) (ss : List (List ℕ)) → WellFormed t → AllBytes ss
    → departed_of k t ss ≡ 0 → entered_of k (history t ss) ≡ 0 → task_at (after t ss).tasks k ≡ task_at t.tasks k
unfolding after history departed_of entered_of
others t k [] w b d e = refl
others t k (s ∷ ss) w b d e =
    others (step_of t s).table k ss (step_kept t s w b.0) b.1 (omega (arith, d)) (omega (arith, e))
    ∙ step-others t s k w b.0 (omega (arith, d)) (omega (arith, e))

-- ---- a restart in one step is one departure and one entry: c enters once, and the waiters e and s are others
again : (c e s : TaskNo) (f : Task → Task) (ts : List Task) → eqb c.0 e.0 ≡ false → eqb c.0 s.0 ≡ false
    → count c.0 (entries (waking e ++ (record { who = c; change = f } ∷ waking s)) ts) ≡ 1
unfolding waking entries count
again c e s f ts a b = go (eqb e.0 0) (eqb s.0 0)
  where
    woken : Bool → TaskNo → List Join
    woken x k = cond x [] (record { who = k; change = with_state Ready } ∷ [])

    go : (x y : Bool) → count c.0 (entries (woken x e ++ (record { who = c; change = f } ∷ woken y s)) ts) ≡ 1
    go true true = omega (arith, ap one (eqb_self c.0))
    go true false = omega (arith, ap one (eqb_self c.0), ap one b)
    go false true = omega (arith, ap one (eqb_self c.0), ap one a)
    go false false = omega (arith, ap one (eqb_self c.0), ap one a, ap one b)

module _ (t : Table) (w : WellFormed t) (h : 0 < t.ready) where
  abbrev c : TaskNo
  c = caller t

  waiter-other : eqb c.0 (end_waiter t c).0 ≡ false
  waiter-other = (formed w).links.apart c.0 (runs t (formed w) h).names.0

  pub restarts : (p n : ℕ) → (aim_at (task_at t.tasks c.0).start t.rest.clock p n).0 ≤ t.rest.clock.0 → Restarts (restart_plan t p n) t
  unfolding restart_plan moves_of waking
  restarts p n l = record {
    departs = refl;
    enters = rw (le-leb (aim_at (task_at t.tasks c.0).start t.rest.clock p n).0 t.rest.clock.0 l) (again c (end_waiter t c) nobody risen _ waiter-other (not-zero c.0 (runs t (formed w) h).names.0));
  }

  pub begins-again : place_of c.0 (requests t.rest) < length (requests t.rest) → Restarts (terminate_plan t) t
  unfolding terminate_plan moves_of
  begins-again l =
      let rs : List Request = requests t.rest in
      let i : ℕ = place_of c.0 rs in
      let o = take t.tasks rs c.0 0 i l (place-target c.0 rs l) (links-up (formed w).links) in
      rw (lt-ltb i (length rs) l) (record { departs = refl; enters = again c (end_waiter t c) (get_or rs i no_request).start_waiter (begun (get_or rs i no_request) t.rest.clock) _ waiter-other o.2 })

-- ---- the same in the history of an accepted record: its plan is its call's
module _ (t : Table) (s : List ℕ) (e : (step_of t s).answer.number ≡ 0) where
  unrefused : first_of (call_refusals t (call_in s)) ≡ 0
  unrefused = call-allowed t s (allowed t s e)

  planned_so : plan_of_record t s ≡ plan_of t (call_in s)
  unfolding plan_of_record
  planned_so = rw (eq-eqb (first_of (refusals t s)) 0 (allowed t s e)) refl

  restarted : Restarts (plan_of t (call_in s)) t → RestartsBy s t
  unfolding departed_of entered_of history
  restarted r = record {
    departs = rw (planned_so, r.departs, head-is-active t.tasks (line t)) (omega (arith, ap one (eqb_self (caller t).0)));
    enters = rw planned_so (omega (arith, r.enters));
  }

pub restarts-by : (t : Table) (p n : ℕ) → (step_of t (0x01 ∷ p ∷ n ∷ [])).answer.number ≡ 0
    → (aim_at (task_at t.tasks (caller t).0).start t.rest.clock p n).0 ≤ t.rest.clock.0 → RestartsBy (0x01 ∷ p ∷ n ∷ []) t
unfolding plan_of read_of read_as kind_of
restarts-by t p n e l =
    let s : List ℕ = 0x01 ∷ p ∷ n ∷ [] in
    let w : WellFormed t = allowed-formed t s e in
    restarted t s e (restarts t w (restart_owed t w p n (unrefused t s e)).1 p n l)

pub begins-again-by : (t : Table) → (step_of t (0x00 ∷ [])).answer.number ≡ 0
    → place_of (caller t).0 (requests t.rest) < length (requests t.rest) → RestartsBy (0x00 ∷ []) t
unfolding plan_of read_of read_as kind_of
begins-again-by t e l =
    let w : WellFormed t = allowed-formed t (0x00 ∷ []) e in
    restarted t (0x00 ∷ []) e (begins-again t w (end_owed t w (unrefused t (0x00 ∷ []) e)).1 l)

-- ---- all of them
pub demands : Demands
demands = record {
  refusal-keeps = refusal-keeps;
  decided = number-decided;
  given = given;
  unformed = unformed;
  order = order;
  kept = kept;
  executed = executed;
  room = λ t s w b. (step_is t s w b).kept.room;
  dispatched = dispatched;
  overtaking = overtaking;
  accounted = accounted;
  played = λ t ss w b. (moved t ss w b).queue;
  legal = λ t ss w b. (moved t ss w b).legal;
  others = others;
  restarts = λ t p n w h. restarts t w h p n;
  begins-again = begins-again;
  restarts-by = restarts-by;
  begins-again-by = begins-again-by;
  step-determined = λ t s x y p q. p ∙ sym q;
  step-call-determined = λ t c x y p q. p ∙ sym q;
  check_determined = checked_once;
  fresh-determined = λ s x y p q. p ∙ sym q;
  no-table-determined = λ x y p q. p ∙ sym q;
  length-determined = λ s x y p q. p ∙ sym q;
}
