-- The shape of a configuration's bytes: what its test says, and that it is found again at the head of longer bytes.
use Prim.Native.Nat.{ℕ, zero, suc, ◌+◌, ◌*◌, ◌≤◌, ◌<◌}
use mathlib.Core.Path.{◌≡◌, refl, ap, sym}
use mathlib.Core.Bool.{Bool, true, false, cond}
use mathlib.Core.List.{List, [], ◌∷◌, ◌++◌}
use native.Mathlib.Omega.{arith}
use borrow.Author.Tests.{ltb-true, ltb-false, leb-true, eqb-true}
use lib.Dec.{eqb, leb, ltb}
use lib.ListN.{length, get_or, get_or-append, get_or-eq_default}
use Rattle.executive.specs.Lists.{◌and◌}
use Rattle.executive.proofs.Lists.Loops.{all-get}
use Rattle.executive.specs.Configuration.{granule_in, place_in, own_in, mark_in, tasks_from, tasks_in, configuration_in, task_right, is_configuration}

-- ---- what a configuration's test says
both : (a b : Bool) → a and b ≡ true → (a ≡ true) × (b ≡ true)
both true b e = (refl, e)
both false b e = (e, absurd (let z : ◌≡◌ {A = ℕ} 0 1 = cc in omega arith))

most : (s : List ℕ) (n k : ℕ) → tasks_from s n k ≤ n
unfolding tasks_from
most s zero k = omega arith
most s (suc n) k = go (eqb (get_or s (place_in k) 0) 0x41) (most s n (suc k))
  where
    go : (b : Bool) → tasks_from s n (suc k) ≤ n → cond b (suc (tasks_from s n (suc k))) 0 ≤ suc n
    go true l = omega arith
    go false l = omega arith

-- where the length of the configuration is the length of the bytes
pub record Found (s : List ℕ) : Type 0 where
  pub whole : length s ≡ 3 * tasks_in s + 3
  pub first : get_or s 0 0 ≡ 0x40
  pub last : get_or s (place_in (tasks_in s + 1)) 0 ≡ 0x42

pub record Configured (s : List ℕ) : Type 0 where
  pub some : 1 ≤ tasks_in s
  pub few : tasks_in s ≤ 16
  pub shape : Found s
  pub granule : 1 ≤ granule_in s
  pub own : (k : ℕ) → 0 < k → k ≤ tasks_in s → own_in s k ≤ 15
  pub mark : (k : ℕ) → 0 < k → k ≤ tasks_in s → mark_in s k ≤ 1

none : (s : List ℕ) → length s ≡ 0 → 1 ≤ tasks_in s → ⊥
unfolding tasks_in tasks_from
none [] e h = omega arith
none (x ∷ xs) e h = omega arith

found : (s : List ℕ) → 1 ≤ tasks_in s → length s ≡ configuration_in s → Found s
unfolding configuration_in
found s h e = go (eqb (get_or s 0 0) 0x40) (eqb (get_or s (place_in (tasks_in s + 1)) 0) 0x42) refl refl e
  where
    go : (a b : Bool) → eqb (get_or s 0 0) 0x40 ≡ a → eqb (get_or s (place_in (tasks_in s + 1)) 0) 0x42 ≡ b → length s ≡ cond (a and b) (3 * tasks_in s + 3) 0 → Found s
    go true true x y z = record { whole = z; first = eqb-true (get_or s 0 0) 0x40 x; last = eqb-true (get_or s (place_in (tasks_in s + 1)) 0) 0x42 y }
    go true false x y z = absurd (none s z h)
    go false b x y z = absurd (none s z h)

pub configured : (s : List ℕ) → is_configuration s ≡ true → Configured s
unfolding is_configuration task_right tasks_in
configured s e =
    let a = both (leb 1 (tasks_in s)) _ e in
    let b = both (eqb (length s) (configuration_in s)) _ a.1 in
    let c = both (leb 1 (granule_in s)) _ b.1 in
    record {
      some = leb-true 1 (tasks_in s) a.0;
      few = most s 16 1;
      shape = found s (leb-true 1 (tasks_in s) a.0) (eqb-true (length s) (configuration_in s) b.0);
      granule = leb-true 1 (granule_in s) c.0;
      own = λ k h l. leb-true (own_in s k) 15 (both (leb (own_in s k) 15) _ (all-get (task_right s) (tasks_in s) k c.1 h l)).0;
      mark = λ k h l. leb-true (mark_in s k) 1 (both (leb (own_in s k) 15) _ (all-get (task_right s) (tasks_in s) k c.1 h l)).1;
    }

-- ---- the count of tasks looks at no byte past the one that stops it
module _ (s r : List ℕ) where
  same-tasks : (n k : ℕ) → 0 < k → place_in (k + tasks_from s n k) < length s → tasks_from (s ++ r) n k ≡ tasks_from s n k
  unfolding tasks_from
  same-tasks zero k h l = refl
  same-tasks (suc n) k h l =
      let e : get_or (s ++ r) (place_in k) 0 ≡ get_or s (place_in k) 0 = get_or-append s r 0 (place_in k) (omega (arith, l)) in
      rw e (go (eqb (get_or s (place_in k) 0) 0x41) l (same-tasks n (suc k) (omega arith)))
    where
      go : (b : Bool) → place_in (k + cond b (suc (tasks_from s n (suc k))) 0) < length s
          → (place_in (suc k + tasks_from s n (suc k)) < length s → tasks_from (s ++ r) n (suc k) ≡ tasks_from s n (suc k))
          → cond b (suc (tasks_from (s ++ r) n (suc k))) 0 ≡ cond b (suc (tasks_from s n (suc k))) 0
      go true l ih = ap suc (ih (omega arith))
      go false l ih = refl

  same_count : place_in (1 + tasks_in s) < length s → tasks_in (s ++ r) ≡ tasks_in s
  unfolding tasks_in
  same_count = same-tasks 16 1 (omega arith)

  pub found-again : is_configuration s ≡ true → configuration_in (s ++ r) ≡ length s
  unfolding configuration_in
  found-again c =
      let t : Found s = (configured s c).shape in
      let p : place_in (tasks_in s + 1) < length s = omega (arith, t.whole) in
      let z : 0 < length s = omega (arith, t.whole) in
      rw (same_count (omega arith), get_or-append s r 0 0 z, get_or-append s r 0 (place_in (tasks_in s + 1)) p, t.first, t.last) (sym t.whole)

-- ---- a configuration is no longer than the bytes that begin with it: a byte that is not 0 stands among them
inside : (s : List ℕ) (i b : ℕ) → 0 < b → get_or s i 0 ≡ b → i < length s
inside s i b h e = go (ltb i (length s)) refl
  where
    go : (x : Bool) → ltb i (length s) ≡ x → i < length s
    go true y = ltb-true i (length s) y
    go false y = absurd (omega (arith, e, get_or-eq_default s 0 (ltb-false i (length s) y)))

pub configuration-within : (s : List ℕ) → configuration_in s ≤ length s
unfolding configuration_in
configuration-within s = go (eqb (get_or s 0 0) 0x40) (eqb (get_or s (place_in (tasks_in s + 1)) 0) 0x42) refl
  where
    go : (a b : Bool) → eqb (get_or s (place_in (tasks_in s + 1)) 0) 0x42 ≡ b → cond (a and b) (3 * tasks_in s + 3) 0 ≤ length s
    go true true y = omega (arith, inside s (place_in (tasks_in s + 1)) 0x42 (omega arith) (eqb-true (get_or s (place_in (tasks_in s + 1)) 0) 0x42 y))
    go true false y = omega arith
    go false b y = omega arith
