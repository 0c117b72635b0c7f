-- The caller leaves as it is told, or stays; the rest changes, or does not.
use mathlib.Core.Path.{◌≡◌, refl, sym}
use mathlib.Core.Bool.{true, false}
use mathlib.Core.List.{List}
use Rattle.executive.specs.declared.Table.{Table}
use Rattle.executive.specs.declared.decisions.Leave.{Leave}
use Rattle.executive.specs.declared.decisions.Leave.TheVariants as leave
use Rattle.executive.specs.Places.{task_at}
use Rattle.executive.specs.Table.{view, levels_of, relit, departed, depart, left?, Out, stays, leaves, Join, with_rest}
use Rattle.executive.specs.Table.{begin, enter_all_in_flight, lit_in_flight, apply_in_flight}
use Rattle.executive.specs.Plans.{caller}
use Rattle.executive.specs.Clock.{advanced}
use Rattle.executive.specs.Pool.{PoolInOrder}
use Rattle.executive.specs.Decisions.{out_for, gone_as, changed, Able}
use Rattle.executive.proofs.queue.ArraysAreLists.{queued-neat, removed-neat}
use Rattle.executive.proofs.queue.InFlight.{enters-beside}
use Rattle.executive.proofs.Plans.Tick.{advanced-alone}
use Rattle.executive.proofs.Lists.Tests.{false_not_true}
use Rattle.executive.specs.declared.Request.{Request}
use Rattle.executive.specs.declared.Rest.{Rest}
use Rattle.executive.specs.declared.decisions.Change.{Change}
use Rattle.executive.specs.declared.decisions.Change.TheVariants as change

pub left-gone : (how : Leave) (t : Table) → left? (out_for how) ≡ true → departed (gone_as how (task_at t.tasks (caller t).0)) t ≡ depart (out_for how) t
unfolding depart
left-gone leave.Stays t e = false_not_true e
left-gone leave.Sleeps t e = refl
left-gone (leave.DueAt at) t e = refl
left-gone (leave.As s) t e = refl

pub left-stays : (how : Leave) (t : Table) → left? (out_for how) ≡ false → t ≡ depart (out_for how) t
unfolding depart
left-stays leave.Stays t e = refl
left-stays leave.Sleeps t e = false_not_true (sym e)
left-stays (leave.DueAt at) t e = false_not_true (sym e)
left-stays (leave.As s) t e = false_not_true (sym e)

-- how the caller leaves, as a plan has it
pub leaves_as : (how : Leave) → left? (out_for how) ≡ true → out_for how ≡ leaves (gone_as how)
leaves_as leave.Stays e = false_not_true e
leaves_as leave.Sleeps e = refl
leaves_as (leave.DueAt at) e = refl
leaves_as (leave.As s) e = refl

pub stays_as : (how : Leave) → left? (out_for how) ≡ false → out_for how ≡ stays
stays_as leave.Stays e = refl
stays_as leave.Sleeps e = false_not_true (sym e)
stays_as (leave.DueAt at) e = false_not_true (sym e)
stays_as (leave.As s) e = false_not_true (sym e)

pub depart-rest : (o : Out) (t : Table) → (depart o t).rest ≡ t.rest
unfolding depart departed
depart-rest stays t = refl
depart-rest (leaves f) t = refl

-- a change that can be made keeps the requests in order
pub changed-neat : (ch : Change) (q : Request) (r : Rest) → PoolInOrder r → Able ch r → PoolInOrder (changed ch q r)
changed-neat change.Same q r f a = f
changed-neat (change.Flags fs) q r f a = record { room = f.room; clear = f.clear }
changed-neat (change.Alarm x at) q r f a = record { room = f.room; clear = f.clear }
changed-neat change.Put q r f a = queued-neat r f q a
changed-neat (change.Taken i) q r f a = removed-neat r f i a
changed-neat (change.Clock i) q r f a =
    let n : (advanced r).queued ≡ r.queued = advanced-alone (λ (r : Rest). r.queued) (λ r fs al. refl) r in
    let p : (advanced r).pool ≡ r.pool = advanced-alone (λ (r : Rest). r.pool) (λ r fs al. refl) r in
    record { room = rw n f.room; clear = rw (p, n) f.clear }
changed-neat (change.Held m k) q r f a = record { room = f.room; clear = f.clear }
changed-neat (change.Lined m k i) q r f a = record { room = f.room; clear = f.clear }
changed-neat (change.HandedOn m) q r f a = record { room = f.room; clear = f.clear }
changed-neat (change.Posted m i) q r f a = record { room = f.room; clear = f.clear }
changed-neat (change.Delivered k x) q r f a = record { room = f.room; clear = f.clear }
changed-neat (change.HandedOut i) q r f a = record { room = f.room; clear = f.clear }

-- the caller leaves, the rest changes, and all enter, each with the word on the way: that is the plan, which says the
-- word at its end
pub done-is : (o : Out) (js : List Join) (r : Rest) (t : Table)
    → lit_in_flight (enter_all_in_flight js (begin (with_rest r (relit (depart o t))))) ≡ apply_in_flight (record { out = o; ins = js; rest = r }) t
unfolding apply_in_flight
done-is o js r t = enters-beside js (levels_of (view (depart o t))) r (begin (depart o t))
