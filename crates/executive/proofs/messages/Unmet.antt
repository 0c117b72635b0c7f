-- No message waits that fits a task which waits for one: what keeps that, as messages and tasks change; and what the search
-- finds is the first of those that fit.
use Prim.Native.Nat.{ℕ, ◌+◌, ◌≤◌, ◌<◌}
use mathlib.Core.Path.{◌≡◌, refl, sym, ap, ◌∙◌}
use mathlib.Core.Bool.{Bool, true, false, ◌&&◌, ◌||◌}
use mathlib.Core.List.{List, [], ◌∷◌, map}
use native.Mathlib.Omega.{arith}
use borrow.Author.Tests.{eqb-true}
use lib.Dec.{eqb, ltb}
use lib.ListN.{length, get_or}
use Rattle.executive.specs.declared.Task.{Task}
use Rattle.executive.specs.declared.Message.{Message}
use Rattle.executive.specs.Lists.{one, sum_of, ◌and◌}
use Rattle.executive.specs.Queue.{Desc}
use Rattle.executive.specs.Places.{task_at, put_at, Names}
use Rattle.executive.specs.Pool.{removed}
use Rattle.executive.specs.States.{await_message, awaited_of, is_of, takes, takes_from}
use Rattle.executive.specs.Messages.{no_message, fits, first_fit, urgency, post, noted}
use Rattle.executive.specs.WellFormed.{fitting}
use Rattle.executive.specs.Promises.MailLaw.{FirstOfFitting}
use Rattle.executive.proofs.Lists.Tests.{false_not_true, Lt, lt_yes, lt_no, ltb-is}
use Rattle.executive.proofs.places.TaskAt.{at_same, at_other}
use Rattle.executive.proofs.messages.Lines.{put_sum, next-passes, next-before, next-none, taken-sum, falls_at}

-- the rule, of the tasks ts and the messages ms
abbrev pub NoneFits : List Task → List Message → Type 0
NoneFits ts ms = (k : ℕ) → is_of await_message (task_at ts k).state ≡ true → fitting k (awaited_of (task_at ts k).state) ms ≡ 0

-- ---- a message is put in that its addressee does not take
pub none-fits-post : (ts : List Task) (m : Message) (ms : List Message) → takes m.sender.0 (task_at ts m.to.0).state ≡ false
    → NoneFits ts ms → NoneFits ts (post m ms)
none-fits-post ts m ms t h k w = omega (arith, put_sum urgency (λ (x : Message). one (fits k (awaited_of (task_at ts k).state) x)) m ms, h k w, go (eqb k m.to.0) refl)
  where
    go : (b : Bool) → eqb k m.to.0 ≡ b → one (b and takes_from (awaited_of (task_at ts k).state) m.sender.0) ≡ 0
    go true e =
        let q : m.to.0 ≡ k = sym (eqb-true k m.to.0 e) in
        let z : takes m.sender.0 (task_at ts k).state ≡ false = rw q at t in
        let y : takes m.sender.0 (task_at ts k).state ≡ takes_from (awaited_of (task_at ts k).state) m.sender.0 = rw w refl in
        ap one (sym y ∙ z)
    go false e = refl

-- one is taken out
pub none-fits-removed : (ts : List Task) (i : ℕ) (ms : List Message) → i < length ms → NoneFits ts ms → NoneFits ts (removed i ms)
none-fits-removed ts i ms l h k w = omega (arith, taken-sum no_message i ms (λ (x : Message). one (fits k (awaited_of (task_at ts k).state) x)) l, h k w)

-- ---- a task's entry is changed: to one that waits for no message; or the search found none
pub none-fits_put : (ts : List Task) (j : ℕ) (e : Task) (ms : List Message) → Names j ts
    → (is_of await_message e.state ≡ true → fitting j (awaited_of e.state) ms ≡ 0) → NoneFits ts ms → NoneFits (put_at ts j e) ms
none-fits_put ts j e ms n x h k = go (eqb k j) refl
  where
    go : (b : Bool) → eqb k j ≡ b → is_of await_message (task_at (put_at ts j e) k).state ≡ true → fitting k (awaited_of (task_at (put_at ts j e) k).state) ms ≡ 0
    go true q =
        let p : k ≡ j = eqb-true k j q in
        rw (p, at_same ts j e n) x
    go false q = rw (at_other ts j k e q) (h k)

pub none_found : (k s : ℕ) (ms : List Message) → length ms ≤ first_fit k s ms → fitting k s ms ≡ 0
none_found k s ms h = next-none (fits k s) ms h

-- ---- where a task takes a message from a sender, none waits for it from that sender: one that takes from any takes from it too
takes_none : (k c : ℕ) (xs : List Message) → fitting k 0 xs ≡ 0 → fitting k c xs ≡ 0
unfolding sum_of
takes_none k c [] z = refl
takes_none k c (x ∷ xs) z = omega (arith, go (eqb k x.to.0) z, takes_none k c xs (omega arith))
  where
    go : (a : Bool) → one (a and takes_from 0 x.sender.0) + fitting k 0 xs ≡ 0 → one (a and takes_from c x.sender.0) ≡ 0
    go true y = absurd (omega arith)
    go false y = refl

any_none : (k n c : ℕ) (xs : List Message) → n ≡ 0 → fitting k n xs ≡ 0 → fitting k c xs ≡ 0
any_none k n c xs q z = takes_none k c xs (rw q at z)

pub none_from : (ts : List Task) (k c : ℕ) (ms : List Message) → takes c (task_at ts k).state ≡ true → NoneFits ts ms → fitting k c ms ≡ 0
none_from ts k c ms t h = go (is_of await_message (task_at ts k).state) refl t
  where
    n : ℕ
    n = awaited_of (task_at ts k).state

    by : (b : Bool) → eqb n 0 ≡ b → is_of await_message (task_at ts k).state ≡ true → b || eqb n c ≡ true → fitting k c ms ≡ 0
    by true e w u = any_none k n c ms (eqb-true n 0 e) (h k w)
    by false e w u = let q : n ≡ c = eqb-true n c u in rw (← q) (h k w)

    go : (b : Bool) → is_of await_message (task_at ts k).state ≡ b → b && takes_from n c ≡ true → fitting k c ms ≡ 0
    go true w u = by (eqb n 0) refl w u
    go false w u = false_not_true u

-- ---- what the search finds is the first of those that fit
pub first-of-fitting : (k x : ℕ) (ms : List Message) → Desc (map noted ms) → first_fit k x ms < length ms → FirstOfFitting k x ms (first_fit k x ms)
first-of-fitting k x ms d h = record {
  fitting = next-passes (fits k x) no_message ms h;
  highest = λ j l f. falls_at ms (first_fit k x ms) j d (no-sooner j f);
  longest = λ j l f e. no-sooner j f;
}
  where
    no-sooner : (j : ℕ) → fits k x (get_or ms j no_message) ≡ true → first_fit k x ms ≤ j
    no-sooner j f = go (ltb j (first_fit k x ms)) (ltb-is j (first_fit k x ms))
      where
        go : (b : Bool) → Lt j (first_fit k x ms) b → first_fit k x ms ≤ j
        go true (lt_yes l) = absurd (next-before (fits k x) no_message ms j l f)
        go false (lt_no l) = l
