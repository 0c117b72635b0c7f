-- A pass that puts all numbers together and stops at none of them: what it leaves is 0 exactly where each is 0. So the free
-- subprograms, messages and requests are found.
use Prim.Native.Nat.{ℕ, suc, ◌+◌, ◌≤◌, ◌<◌}
use mathlib.Core.Path.{◌≡◌, refl, ap, ◌∙◌}
use mathlib.Core.Bool.{Bool, true, false, cond}
use mathlib.Core.List.{List}
use native.Mathlib.Omega.{arith}
use native.Mathlib.Numerals.{add-one}
use borrow.Author.Tests.{eqb-true, eq-eqb, ne_eqb, eqb-false}
use lib.Bits.{bit_or, or_zero_l, or_add_and, and_le_r}
use lib.Dec.{eqb}
use lib.ListN.{length, drop, get_or, drop_of_length-le}
use lib.Seq.{drop-cons}
use Rattle.records.specs.declared.TaskNo.{TaskNo}
use Rattle.executive.specs.declared.Sub.{Sub}
use Rattle.executive.specs.declared.Message.{Message}
use Rattle.executive.specs.declared.Request.{Request}
use Rattle.executive.specs.Numbers.{most_tasks}
use Rattle.executive.specs.Places.{nobody, no_request}
use Rattle.executive.specs.Messages.{no_message}
use Rattle.executive.specs.Lists.{all_of, ◌and◌}
use Rattle.executive.specs.Check.{is_nobody, is_free_sub, is_no_message, is_free}

-- ---- the turns of the pass; d is what a place past the end reads as
module _ {A : Type 0} (f : A → Bool) (d : A) (xs : List A) (i : ℕ) where
  pub every_put : (a b : Bool) → i < length xs → b ≡ (a and f (get_or xs i d)) → (b and all_of f (drop (i + 1) xs)) ≡ (a and all_of f (drop i xs))
  unfolding all_of
  every_put a b h e = rw (add-one, drop-cons xs i d h, e) (go a (f (get_or xs i d)) (all_of f (drop (suc i) xs)))
    where
      go : (x y r : Bool) → ((x and y) and r) ≡ (x and cond y r false)
      go true true r = refl
      go true false r = refl
      go false y r = refl

  pub every-done : (b : Bool) → length xs ≤ i → (b and all_of f (drop i xs)) ≡ b
  unfolding all_of
  every-done b h = rw (drop_of_length-le xs {i = i} h) (go b)
    where
      go : (x : Bool) → (x and true) ≡ x
      go true = refl
      go false = refl

-- ---- two numbers
pub or-none : (a b : ℕ) → eqb (bit_or a b) 0 ≡ (eqb a 0 and eqb b 0)
or-none a b = go (eqb a 0) refl
  where
    go : (c : Bool) → eqb a 0 ≡ c → eqb (bit_or a b) 0 ≡ (c and eqb b 0)
    go true e = ap (λ n. eqb (bit_or n b) 0) (eqb-true a 0 e) ∙ ap (λ n. eqb n 0) (or_zero_l b)
    go false e = ne_eqb (bit_or a b) 0 (λ o. eqb-false a 0 e (omega (arith, o, or_add_and a b, and_le_r a b)))

-- ---- a subprogram: its holder and how many wait, and then its line
pub none-begun : (n : ℕ) (s : Sub) → length s.line ≡ most_tasks
    → (eqb (bit_or (bit_or n s.holder.0) s.waiting) 0 and all_of is_nobody s.line) ≡ (eqb n 0 and is_free_sub s)
none-begun n s l =
    rw (or-none (bit_or n s.holder.0) s.waiting, or-none n s.holder.0, eq-eqb _ _ l)
    (go (eqb n 0) (eqb s.holder.0 0) (eqb s.waiting 0) (all_of is_nobody s.line))
  where
    go : (a b c d : Bool) → (((a and b) and c) and d) ≡ (a and b and c and d)
    go true true true d = refl
    go true true false d = refl
    go true false c d = refl
    go false b c d = refl

-- ---- a message: its numbers, and its text
pub message_put : (n t : ℕ) (m : Message)
    → (eqb (bit_or n (bit_or (bit_or m.to.0 m.sender.0) m.priority)) 0 and eqb (bit_or t m.text.0) 0) ≡ ((eqb n 0 and eqb t 0) and is_no_message m)
message_put n t m =
    rw (or-none n (bit_or (bit_or m.to.0 m.sender.0) m.priority), or-none (bit_or m.to.0 m.sender.0) m.priority, or-none m.to.0 m.sender.0, or-none t m.text.0)
    (go (eqb n 0) (eqb m.to.0 0) (eqb m.sender.0 0) (eqb m.priority 0) (eqb t 0) (eqb m.text.0 0))
  where
    go : (a b c d e f : Bool) → ((a and ((b and c) and d)) and (e and f)) ≡ ((a and e) and (b and c and d and f))
    go false b c d e f = refl
    go true false c d true f = refl
    go true false c d false f = refl
    go true true false d true f = refl
    go true true false d false f = refl
    go true true true false true f = refl
    go true true true false false f = refl
    go true true true true true f = refl
    go true true true true false f = refl

-- ---- a request: its numbers, and its argument
pub request_put : (n t : ℕ) (q : Request)
    → (eqb (bit_or n (bit_or (bit_or (bit_or q.target.0 q.priority) q.start_waiter.0) q.end_waiter.0)) 0 and eqb (bit_or t q.argument) 0)
    ≡ ((eqb n 0 and eqb t 0) and is_free q)
request_put n t q =
    rw (
      or-none n (bit_or (bit_or (bit_or q.target.0 q.priority) q.start_waiter.0) q.end_waiter.0),
      or-none (bit_or (bit_or q.target.0 q.priority) q.start_waiter.0) q.end_waiter.0,
      or-none (bit_or q.target.0 q.priority) q.start_waiter.0,
      or-none q.target.0 q.priority,
      or-none t q.argument,
    )
    (go (eqb n 0) (eqb q.target.0 0) (eqb q.priority 0) (eqb q.start_waiter.0 0) (eqb q.end_waiter.0 0) (eqb t 0) (eqb q.argument 0))
  where
    go : (a b c d g e f : Bool) → ((a and (((b and c) and d) and g)) and (e and f)) ≡ ((a and e) and (b and c and f and d and g))
    go false b c d g e f = refl
    go true false c d g true f = refl
    go true false c d g false f = refl
    go true true false d g true f = refl
    go true true false d g false f = refl
    go true true true false g true true = refl
    go true true true false g true false = refl
    go true true true false g false f = refl
    go true true true true false true true = refl
    go true true true true false true false = refl
    go true true true true false false f = refl
    go true true true true true true true = refl
    go true true true true true true false = refl
    go true true true true true false f = refl

-- ---- the turn of each pass, and its end, for the code
pub messages-turn : (n t : ℕ) (xs : List Message) (i : ℕ) → i < length xs
    → ((eqb (bit_or n (bit_or (bit_or (get_or xs i no_message).to.0 (get_or xs i no_message).sender.0) (get_or xs i no_message).priority)) 0 and eqb (bit_or t (get_or xs i no_message).text.0) 0) and all_of is_no_message (drop (i + 1) xs))
    ≡ ((eqb n 0 and eqb t 0) and all_of is_no_message (drop i xs))
messages-turn n t xs i h = every_put is_no_message no_message xs i (eqb n 0 and eqb t 0) _ h (message_put n t (get_or xs i no_message))

pub requests-turn : (n t : ℕ) (xs : List Request) (i : ℕ) → i < length xs
    → ((eqb (bit_or n (bit_or (bit_or (bit_or (get_or xs i no_request).target.0 (get_or xs i no_request).priority) (get_or xs i no_request).start_waiter.0) (get_or xs i no_request).end_waiter.0)) 0 and eqb (bit_or t (get_or xs i no_request).argument) 0) and all_of is_free (drop (i + 1) xs))
    ≡ ((eqb n 0 and eqb t 0) and all_of is_free (drop i xs))
requests-turn n t xs i h = every_put is_free no_request xs i (eqb n 0 and eqb t 0) _ h (request_put n t (get_or xs i no_request))

pub places-turn : (n : ℕ) (xs : List TaskNo) (i : ℕ) → i < length xs
    → (eqb (bit_or n (get_or xs i nobody).0) 0 and all_of is_nobody (drop (i + 1) xs)) ≡ (eqb n 0 and all_of is_nobody (drop i xs))
places-turn n xs i h = every_put is_nobody nobody xs i (eqb n 0) _ h (or-none n (get_or xs i nobody).0)

pub ruleset put_together = (every-done, messages-turn, requests-turn, places-turn, none-begun)

pub ruleset one_by_one = (every_put, every-done)
