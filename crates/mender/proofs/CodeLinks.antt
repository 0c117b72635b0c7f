-- The turns of the passes as the code takes them: who is named, the run of a task, a subprogram's holder.
use Prim.Native.Nat.{ℕ, zero, suc, ◌+◌, ◌<◌}
use mathlib.Core.Path.{◌≡◌, sym, ap, ◌∙◌}
use mathlib.Core.Bool.{Bool, true, false, cond}
use mathlib.Core.List.{List}
use native.Mathlib.Omega.{arith}
use native.Mathlib.Numerals.{add-one}
use lib.ListN.{length, get_or, set, get_or-eq_default}
use lib.Seq.{set_out}
use Rattle.executive.specs.declared.Task.{Task}
use Rattle.executive.specs.declared.Request.{Request}
use Rattle.executive.specs.declared.Sub.{Sub}
use Rattle.executive.specs.Places.{nobody, no_task, no_request, entry_place}
use Rattle.executive.specs.States.{await_end}
use Rattle.executive.proofs.Assured.{read-place, set-place}
use Rattle.mender.specs.Links.{Runs, Asked, asked_of, links_of}
use Rattle.mender.specs.Passes.{named_at, marked, stands, unlinked, run_turn, start_turn, end_turn, request_turn, is_holder, sub_after}
use Rattle.mender.proofs.CodeTests.{yes, no}

-- who is named, by place
module _ (bs : List Bool) (l : length bs ≡ 16) where
  pub named-place : (n : ℕ) → named_at bs n ≡ get_or bs (entry_place n) false
  unfolding named_at entry_place
  named-place zero = sym (get_or-eq_default bs false {n = 16} (omega arith))
  named-place (suc i) = read-place bs l i false

  pub named-no-place : (n k : ℕ) → k ≡ entry_place n → 15 < k → named_at bs n ≡ false
  named-no-place n k e h = named-place n ∙ rw (← e) (get_or-eq_default bs false {n = k} (omega arith))

  pub mark-place : (n : ℕ) → marked bs n ≡ set bs (entry_place n) true
  unfolding marked entry_place
  mark-place zero = sym (set_out bs 16 true (omega arith))
  mark-place (suc i) = set-place bs l i true

  pub mark-no-place : (n k : ℕ) → k ≡ entry_place n → 15 < k → marked bs n ≡ bs
  mark-no-place n k e h = mark-place n ∙ rw (← e) (set_out bs k true (omega arith))

-- the run of the task at place i, whose link stands or is cleared
module _ (n : ℕ) (r : Runs) (i : ℕ) (b : Bool) (e : b ≡ stands n r.tasks r.named await_end (i + 1) (get_or r.tasks i no_task).end_waiter) where
  by_number : stands n r.tasks r.named await_end (suc i) (get_or r.tasks i no_task).end_waiter ≡ b
  by_number = sym (e ∙ ap (λ k. stands n r.tasks r.named await_end k (get_or r.tasks i no_task).end_waiter) (add-one i))

  pub run-stands : b ≡ true → (m : List Bool) → m ≡ marked r.named (get_or r.tasks i no_task).end_waiter.0
      → record { tasks = r.tasks; named = m } ≡ run_turn n r i
  unfolding run_turn
  run-stands t m f = yes _ _ _ (by_number ∙ t) (ap (λ (bs : List Bool). record { tasks = r.tasks; named = bs }) f)

  pub run_ends : b ≡ false → (u : Task) → u ≡ unlinked (get_or r.tasks i no_task)
      → record { tasks = set r.tasks i u; named = r.named } ≡ run_turn n r i
  unfolding run_turn
  run_ends t u f = no _ _ _ (by_number ∙ t) (ap (λ (x : Task). record { tasks = set r.tasks i x; named = r.named }) f)

-- the request at place i, after both of its turns
pub request_turned : (n : ℕ) (ts : List Task) (p : List Request) (bs : List Bool) (i : ℕ) (q r : Request) (cs ds : List Bool)
    → asked_of q cs ≡ start_turn n ts (asked_of (get_or p i no_request) bs) → asked_of r ds ≡ end_turn n ts (asked_of q cs)
    → links_of (set p i r) ds ≡ request_turn n ts (links_of p bs) i
unfolding request_turn
request_turned n ts p bs i q r cs ds e f = ap (λ (a : Asked). links_of (set p i a.request) a.named) (f ∙ ap (end_turn n ts) e)

-- a subprogram whose holder is busy, and one that is freed
module _ (n : ℕ) (ts : List Task) (s : Sub) where
  pub sub-kept : is_holder n ts s.holder ≡ true → s ≡ sub_after n ts s
  unfolding sub_after
  sub-kept e = ap (λ (b : Bool). record { holder = cond b s.holder nobody; line = s.line; waiting = s.waiting }) (sym e)

  pub sub-freed : is_holder n ts s.holder ≡ false → record { holder = nobody; line = s.line; waiting = s.waiting } ≡ sub_after n ts s
  unfolding sub_after
  sub-freed e = ap (λ (b : Bool). record { holder = cond b s.holder nobody; line = s.line; waiting = s.waiting }) (sym e)
