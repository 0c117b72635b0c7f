-- The laws of the check's loops: counting from the back, a test at each number, a test of each element.
use Prim.Native.Nat.{ℕ, zero, suc, ◌+◌, ◌-◌, ◌≤◌, ◌<◌}
use mathlib.Core.Path.{◌≡◌, refl, ◌∙◌}
use mathlib.Core.Bool.{Bool, true, false, cond}
use mathlib.Core.Logic.{⊎_elim, ◌≢◌}
use mathlib.Core.List.{List, [], ◌∷◌, ◌++◌}
use native.Mathlib.Omega.{arith}
use native.Mathlib.Nat.{eq-or-lt_of_le}
use native.Mathlib.Numerals.{add-one}
use lib.Dec.{eqb, ltb}
use lib.ListN.{length, take, drop, get_or, set, length-set, replicate, drop_of_length-le, get_or-eq_default}
use borrow.Author.Tests.{eqb-true, eqb-false, ne_eqb, ltb-true, ltb-false}
use Rattle.records.specs.declared.TaskNo.{TaskNo}
use lib.Seq.{length-take-le, get_or-take, drop-cons, take-suc, get_or-set_same, get_or-set_other}
use Rattle.executive.specs.Lists.{one, sum_of, up_to, all_of, each}
use Rattle.executive.specs.Places.{nobody, entry_place}
use Rattle.executive.specs.Check.{Tallies}
use Rattle.std.proofs.Common.{length-append}
use Rattle.executive.proofs.Lists.Sums.{sum-snoc}

pub one-le : (b : Bool) → one b ≤ 1
one-le true = omega arith
one-le false = omega arith

stuck : (b : Bool) → cond b false false ≡ false
stuck true = refl
stuck false = refl

pub both : (a b : Bool) → cond a b false ≡ true → (a ≡ true) × (b ≡ true)
both true b e = (refl, e)
both false b e = absurd (let z : ◌≡◌ {A = ℕ} 0 1 = cc in omega arith)

-- a test at each number from 1 to n
module _ (f : ℕ → Bool) where
  pub all_none : up_to f 0 ≡ true
  unfolding up_to
  all_none = refl

  pub all_more : (i : ℕ) → up_to f i ≡ true → f (i + 1) ≡ true → up_to f (i + 1) ≡ true
  unfolding up_to
  all_more i a h = rw (add-one, a) (rw add-one at h)

  pub all-not : (n i : ℕ) → i < n → f (i + 1) ≡ false → up_to f n ≡ false
  unfolding up_to
  all-not zero i h e = absurd (omega arith)
  all-not (suc n) i h e = ⊎_elim (λ q. let z : i + 1 ≡ suc n = omega arith in rw (rw z at e) (stuck (up_to f n))) (λ l. rw (all-not n i l e) refl) (eq-or-lt_of_le (omega arith))

  pub all-get : (n k : ℕ) → up_to f n ≡ true → 0 < k → k ≤ n → f k ≡ true
  unfolding up_to
  all-get zero k a g h = absurd (omega arith)
  all-get (suc n) k a g h =
      let p = both (up_to f n) (f (suc n)) a in
      ⊎_elim (λ e. rw e p.1) (λ l. all-get n k p.0 g (omega arith)) (eq-or-lt_of_le h)

  pub all_make : (n : ℕ) → ((k : ℕ) → 0 < k → k ≤ n → f k ≡ true) → up_to f n ≡ true
  unfolding up_to
  all_make zero h = refl
  all_make (suc n) h = rw (all_make n (λ k g l. h k g (omega arith))) (h (suc n) (omega arith) (omega arith))

-- a test of each element; d is what a place past the end reads as
module _ {A : Type 0} (f : A → Bool) (d : A) where
  pub every_get : (xs : List A) → f d ≡ true → all_of f xs ≡ true → (i : ℕ) → f (get_or xs i d) ≡ true
  unfolding all_of
  every_get [] z a i = z
  every_get (x ∷ xs) z a zero = (both (f x) (all_of f xs) a).0
  every_get (x ∷ xs) z a (suc i) = every_get xs z (both (f x) (all_of f xs) a).1 i

  pub every_make : (xs : List A) → ((i : ℕ) → f (get_or xs i d) ≡ true) → all_of f xs ≡ true
  unfolding all_of
  every_make [] h = refl
  every_make (x ∷ xs) h = rw (h zero) (every_make xs (λ i. h (suc i)))

  -- the turns of a loop over a list
  module _ (xs : List A) (i : ℕ) where
    pub every-turn : i < length xs → f (get_or xs i d) ≡ true → all_of f (drop (i + 1) xs) ≡ all_of f (drop i xs)
    unfolding all_of
    every-turn h e = rw (add-one, drop-cons xs i d h, e) refl

    pub every-not : i < length xs → f (get_or xs i d) ≡ false → all_of f (drop i xs) ≡ false
    unfolding all_of
    every-not h e = rw (drop-cons xs i d h, e) refl

    pub every-end : length xs ≤ i → all_of f (drop i xs) ≡ true
    unfolding all_of
    every-end h = rw (drop_of_length-le xs {i = i} h) refl

  -- the same over the first n places
  module _ (p : List A) (n : ℕ) (hn : n ≤ length p) (i : ℕ) where
    pub first-turn : i < n → f (get_or p i d) ≡ true → all_of f (drop (i + 1) (take n p)) ≡ all_of f (drop i (take n p))
    first-turn h e = every-turn (take n p) i (rw (length-take-le n p hn) h) (rw (get_or-take n p i d h) e)

    pub first-not : i < n → f (get_or p i d) ≡ false → all_of f (drop i (take n p)) ≡ false
    first-not h e = every-not (take n p) i (rw (length-take-le n p hn) h) (rw (get_or-take n p i d h) e)

    pub first-end : n ≤ i → all_of f (drop i (take n p)) ≡ true
    first-end h = every-end (take n p) i (rw (length-take-le n p hn) h)

-- ---- a tally of numbers, one more at a time: at the number's place of seventeen, the last for those that no task has
abbrev more : List ℕ → ℕ → List ℕ
more c k = set c (entry_place k) (get_or c (entry_place k) 0 + 1)

more_same : (c : List ℕ) (i j : ℕ) → j < length c → j ≡ i → get_or (set c i (get_or c i 0 + 1)) j 0 ≡ get_or c j 0 + 1
more_same c i j l e = rw e (get_or-set_same c i (get_or c i 0 + 1) 0 (omega arith))

more-other : (c : List ℕ) (i j : ℕ) → j ≢ i → get_or (set c i (get_or c i 0 + 1)) j 0 ≡ get_or c j 0
more-other c i j n = get_or-set_other c i j (get_or c i 0 + 1) 0 n

-- task j + 1 has one more exactly if it is k
more-counts : (c : List ℕ) (k j : ℕ) → length c ≡ 17 → j < 16 → get_or (more c k) j 0 ≡ one (eqb (suc j) k) + get_or c j 0
unfolding entry_place
more-counts c zero j l h = more-other c 16 j (λ e. omega arith) ∙ rw (ne_eqb (suc j) 0 (λ e. omega arith)) (omega arith)
more-counts c (suc i) j l h = go (ltb i 16) refl (eqb (suc j) (suc i)) refl
  where
    go : (b : Bool) → ltb i 16 ≡ b → (d : Bool) → eqb (suc j) (suc i) ≡ d → get_or (set c (cond b i 16) (get_or c (cond b i 16) 0 + 1)) j 0 ≡ one d + get_or c j 0
    go true e true f = more_same c i j (omega arith) (omega (arith, eqb-true (suc j) (suc i) f)) ∙ omega arith
    go true e false f = more-other c i j (λ q. eqb-false (suc j) (suc i) f (omega arith)) ∙ omega arith
    go false e true f = absurd (omega (arith, ltb-false i 16 e, eqb-true (suc j) (suc i) f))
    go false e false f = more-other c 16 j (λ q. omega arith) ∙ omega arith

more-low : (c : List ℕ) (i j n : ℕ) → get_or c i 0 ≤ n → get_or c j 0 ≤ n → get_or (set c i (get_or c i 0 + 1)) j 0 ≤ suc n
more-low c i j n a b = go (eqb j i) refl (ltb j (length c)) refl
  where
    go : (d : Bool) → eqb j i ≡ d → (e : Bool) → ltb j (length c) ≡ e → get_or (set c i (get_or c i 0 + 1)) j 0 ≤ suc n
    go true f true g = omega (arith, more_same c i j (ltb-true j (length c) g) (eqb-true j i f))
    go true f false g = let z : get_or (set c i (get_or c i 0 + 1)) j 0 ≡ 0 = get_or-eq_default (set c i (get_or c i 0 + 1)) 0 {n = j} (omega (arith, ltb-false j (length c) g, length-set c i (get_or c i 0 + 1))) in omega arith
    go false f e g = omega (arith, more-other c i j (eqb-false j i f))

-- a tally in the making: besides, no count is over the line's length
pub record Tallying (c : List ℕ) (xs : List TaskNo) : Type 0 where
  pub told : Tallies c xs
  pub low : (j : ℕ) → get_or c j 0 ≤ length xs

zeros : (n j : ℕ) → ◌≡◌ {A = ℕ} (get_or (replicate n 0) j 0) 0
zeros zero j = refl
zeros (suc n) zero = refl
zeros (suc n) (suc j) = zeros n j

tally_more : (c : List ℕ) (x : TaskNo) (xs : List TaskNo) → Tallying c xs → Tallying (more c x.0) (xs ++ (x ∷ []))
tally_more c x xs t =
    record {
      told = record {
        sized = length-set c (entry_place x.0) (get_or c (entry_place x.0) 0 + 1) ∙ t.told.sized;
        counts = λ j h. more-counts c x.0 j t.told.sized h ∙ omega (arith, t.told.counts j h, sum-snoc (λ (y : TaskNo). one (eqb (suc j) y.0)) xs x);
      };
      low = λ j. let l : length (xs ++ (x ∷ [])) ≡ suc (length xs) = omega (arith, length-append xs (x ∷ [])) in rw l (more-low c (entry_place x.0) j (length xs) (t.low (entry_place x.0)) (t.low j));
    }

-- none yet, and the next of a line
pub tally-none : Tallying (replicate 17 0) []
unfolding sum_of
tally-none = record { told = record { sized = refl; counts = λ j l. zeros 17 j }; low = λ j. omega (arith, zeros 17 j) }

pub tally-next : (q : List TaskNo) (i : ℕ) (c : List ℕ) → i < length q → Tallying c (take i q) → Tallying (more c (get_or q i nobody).0) (take (i + 1) q)
tally-next q i c h t =
    let e : take (i + 1) q ≡ take i q ++ (get_or q i nobody ∷ []) = rw add-one (take-suc q i nobody h) in
    rw e (tally_more c (get_or q i nobody) (take i q) t)

-- ---- a loop that takes a step for each number from k up to e - 1: what is left to do gives the whole
module _ {A : Type 0} (f : A → ℕ → A) (e k : ℕ) (a : A) where
  pub each_turn : k < e → each f (e - k) k a ≡ each f (e - (k + 1)) (k + 1) (f a k)
  unfolding each
  each_turn h = let s : e - k ≡ suc (e - (k + 1)) = omega arith in rw s refl

  pub each-end : e ≤ k → each f (e - k) k a ≡ a
  unfolding each
  each-end h = let z : e - k ≡ 0 = omega arith in rw z refl
