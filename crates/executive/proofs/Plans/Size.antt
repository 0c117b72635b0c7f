-- A line is no longer than there are tasks: so a line of sixteen tasks never overflows.
use mathlib.Core.Path.{◌≡◌, refl, sym, ap}
use mathlib.Core.Bool.{Bool, false}
use mathlib.Core.List.{List, [], ◌∷◌}
use Prim.Native.Nat.{ℕ, suc, ◌≤◌, ◌<◌}
use native.Mathlib.Omega.{arith}
use lib.ListN.{length, get_or}
use Rattle.records.specs.declared.TaskNo.{TaskNo}
use Rattle.executive.specs.declared.State.{State}
use Rattle.executive.specs.declared.State.TheVariants.{Dormant}
use Rattle.executive.specs.declared.Task.{Task}
use Rattle.executive.specs.Lists.{one, sum_of}
use Rattle.executive.specs.Queue.{count}
use Rattle.executive.specs.Places.{Names, no_task, task_at, put_at}
use Rattle.executive.specs.Table.{items, Join}
use Rattle.executive.specs.States.{is_ready}
use Rattle.executive.specs.WellFormed.{Line}
use Rattle.executive.proofs.places.TaskAt.{sum_put, put_length}
use Rattle.executive.proofs.Plans.QueueKept.{one-le, Head, head-is, line-out, Joins}

pub sum_zeros : (f : Task → ℕ) (ts : List Task) → ((i : ℕ) → f (get_or ts i no_task) ≡ 0) → sum_of f ts ≡ 0
unfolding sum_of
sum_zeros f [] h = refl
sum_zeros f (e ∷ ts) h = omega (arith, h 0, sum_zeros f ts (λ i. h (suc i)))

sum-le : (f : Task → ℕ) (ts : List Task) → ((e : Task) → f e ≤ 1) → sum_of f ts ≤ length ts
unfolding sum_of
sum-le f [] h = omega arith
sum-le f (e ∷ ts) h = omega (arith, h e, sum-le f ts h)

-- take the head away and make it dormant: one fewer on both sides
pub line-size : (f : State → Bool) → f Dormant ≡ false → (r : List TaskNo) (ts : List Task) → Line f ts r → length r ≡ sum_of (λ (e : Task). one (f e.state)) ts
unfolding items count task_at
line-size f h [] ts q = sym (sum_zeros (λ (e : Task). one (f e.state)) ts (λ i. sym (q.exact (suc i))))
line-size f h (c ∷ r) ts q =
    let x : Head f ts c r = head-is f ts c r h q in
    omega (
      arith,
      line-size f h r (put_at ts c.0 no_task) (line-out f ts c no_task r h q (ap one h)),
      sum_put (λ (e : Task). one (f e.state)) ts c.0 no_task x.names,
      x.is-of,
      ap one h,
    )

-- one of sixteen that does not stand in a line and may come to finds at most fifteen there
pub fewer : (f : State → Bool) → f Dormant ≡ false → (ts : List Task) (r : List TaskNo) (j : ℕ) (e : Task) → length ts ≡ 16 → Line f ts r → Names j ts
    → one (f (task_at ts j).state) ≡ 0 → one (f e.state) ≡ 1 → length r < 16
fewer f z ts r j e l q n x y =
    let g : Task → ℕ = λ (e : Task). one (f e.state) in
    omega (arith, line-size f z r ts q, sum_put g ts j e n, sum-le g (put_at ts j e) (λ e. one-le (f e.state)), put_length ts j e)

-- one that may enter the ready queue
pub room-to-enter : (j : Join) (ts : List Task) (r : List TaskNo) → length ts ≡ 16 → Line is_ready ts r → Joins j ts → length r < 16
room-to-enter j ts r l q h = fewer is_ready refl ts r j.who.0 (j.change (task_at ts j.who.0)) l q h.names h.before h.after
