-- Kind 00: the earliest request for the caller as the code finds it among those that are queued.
use Prim.Native.Nat.{ℕ}
use mathlib.Core.Path.{◌≡◌, refl}
use mathlib.Core.Bool.{true}
use mathlib.Core.List.{List}
use native.Mathlib.Omega.{arith}
use borrow.Author.Tests.{lt-ltb}
use lib.Dec.{ltb}
use lib.ListN.{length, get_or}
use Rattle.std.specs.Prelude.{Some, None}
use Rattle.records.specs.declared.TaskNo.{TaskNo}
use Rattle.executive.specs.declared.Task.{Task}
use Rattle.executive.specs.declared.Request.{Request}
use Rattle.executive.specs.Pool.{found_at, place_of}
use Rattle.executive.specs.Places.{no_request, task_at}
use Rattle.executive.specs.Decisions.{anew_deed, sleep_deed, terminate_deed}
use Rattle.executive.proofs.pool.FoundAt.{found-is, none_is}

module _ (ts : List Task) (rs : List Request) (c : TaskNo) where
  pub ends-run : (i : ℕ) → found_at (place_of c.0 rs) (length rs) ≡ Some i → anew_deed (task_at ts c.0).end_waiter c (get_or rs i no_request) i ≡ terminate_deed ts rs c
  unfolding terminate_deed
  ends-run i e =
      let p = found-is (place_of c.0 rs) (length rs) i e in
      let x : place_of c.0 rs ≡ i = p.0 in
      let y : ltb i (length rs) ≡ true = lt-ltb i (length rs) (omega (arith, p.1)) in
      rw (x, y) refl

  pub ends-none : found_at (place_of c.0 rs) (length rs) ≡ None → sleep_deed (task_at ts c.0).end_waiter c ≡ terminate_deed ts rs c
  unfolding terminate_deed
  ends-none e = rw (none_is (place_of c.0 rs) (length rs) e) refl
