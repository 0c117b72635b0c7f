-- The second pass: what it leaves of the requests and the messages, and that no entry breaks an own rule by it.
use Prim.Native.Nat.{ℕ, zero, suc, ◌+◌, ◌≤◌, ◌<◌}
use mathlib.Core.Path.{◌≡◌, refl, sym, ap}
use mathlib.Core.Bool.{Bool, true, false, cond}
use mathlib.Core.List.{List, [], ◌∷◌}
use native.Mathlib.Omega.{arith}
use lib.ListN.{length}
use Rattle.executive.specs.declared.Request.{Request}
use Rattle.executive.specs.declared.Message.{Message}
use Rattle.executive.specs.declared.Rest.{Rest}
use Rattle.executive.specs.declared.Table.{Table}
use Rattle.executive.specs.Numbers.{most_queued, most_sent}
use Rattle.executive.specs.Lists.{one, sum_of, pad}
use Rattle.executive.specs.Places.{no_request, task_at}
use Rattle.executive.specs.Messages.{no_message, fits, mail_at}
use Rattle.executive.specs.Letters.{all_that}
use Rattle.executive.specs.WellFormed.{fitting}
use Rattle.executive.specs.Check.{message_in_range}
use Rattle.executive.proofs.Assured.{line-pad, not-zero}
use Rattle.mender.specs.Rules.{own_rule_at}
use Rattle.mender.specs.Passes.{keeps_request, queued_pass}
use Rattle.mender.proofs.Filters.{that_length, that_passes}
use Rattle.mender.proofs.Passed.{Owned, Queued}
use Rattle.mender.proofs.OwnRules.{blank-right, fewer-right}

-- ---- sums: what passes a test counts for no more, and free places for nothing
pub that_sum : {A : Type 0} (f : A → Bool) (g : A → ℕ) (xs : List A) → sum_of g (all_that f xs) ≤ sum_of g xs
unfolding all_that sum_of
that_sum f g [] = omega arith
that_sum f g (x ∷ xs) = go (f x) (that_sum f g xs)
  where
    go : (b : Bool) → sum_of g (all_that f xs) ≤ sum_of g xs → sum_of g (cond b (x ∷ all_that f xs) (all_that f xs)) ≤ g x + sum_of g xs
    go true h = omega (arith, h)
    go false h = omega (arith, h)

pub pad-sum : {A : Type 0} (g : A → ℕ) (d : A) (n : ℕ) (xs : List A) → g d ≡ 0 → sum_of g (pad n d xs) ≡ sum_of g xs
unfolding pad sum_of
pad-sum g d zero xs z = refl
pad-sum g d (suc n) [] z = omega (arith, z, pad-sum g d n [] z)
pad-sum g d (suc n) (x ∷ xs) z = omega (arith, pad-sum g d n xs z)

-- so no message fits that did not
pub fewer-fit : (f : Message → Bool) (n k m : ℕ) (ms : List Message) → 0 < k → fitting k m ms ≡ 0 → fitting k m (pad n no_message (all_that f ms)) ≡ 0
fewer-fit f n k m ms h z =
    omega (arith, z, that_sum f (λ (x : Message). one (fits k m x)) ms, pad-sum (λ (x : Message). one (fits k m x)) no_message n (all_that f ms) blank)
  where
    blank : one (fits k m no_message) ≡ 0
    blank = rw (not-zero k h) refl

module _ (t : Table) where
  abbrev r : Rest
  r = t.rest

  abbrev asked : List Request
  asked = all_that (keeps_request r.count t.tasks) r.pool

  abbrev sent : List Message
  sent = all_that (message_in_range r.count) r.messages

  own-kept : (k : ℕ) → own_rule_at t k ≡ 0 → own_rule_at (queued_pass t) k ≡ 0
  unfolding queued_pass task_at mail_at
  own-kept zero z = blank-right (queued_pass t).rest 0
  own-kept (suc i) z =
      fewer-right r (queued_pass t).rest (suc i) (task_at t.tasks (suc i)) (mail_at r.mail (suc i)) refl refl refl
      (λ m. fewer-fit (message_in_range r.count) most_sent (suc i) m r.messages (omega arith)) z

  pub queued-pass : length r.pool ≡ most_queued → length r.messages ≡ most_sent → Owned t → Owned (queued_pass t) × Queued (queued_pass t)
  unfolding queued_pass
  queued-pass p m o =
      let a : asked ≡ _ = sym (line-pad no_request most_queued asked) in
      let b : sent ≡ _ = sym (line-pad no_message most_sent sent) in (
        record { tasks = o.tasks; mail = o.mail; own = λ k. own-kept k (o.own k) },
        record {
          pool = record {
            room = omega (arith, that_length (keeps_request r.count t.tasks) r.pool);
            clear = ap (pad most_queued no_request) a;
          };
          asked = rw (line-pad no_request most_queued asked) (that_passes (keeps_request r.count t.tasks) r.pool);
          messages = record {
            room = omega (arith, that_length (message_in_range r.count) r.messages);
            clear = ap (pad most_sent no_message) b;
          };
          sent = rw (line-pad no_message most_sent sent) (that_passes (message_in_range r.count) r.messages);
        },
      )
