-- The tests of the entries at each number below the task count, and of what lies past it: what they say of the loaded table, and
-- whether the bytes are an image.
use Prim.Native.Nat.{ℕ, zero, suc, ◌+◌, ◌-◌, ◌*◌, ◌≤◌, ◌<◌}
use mathlib.Core.Path.{◌≡◌, refl, sym, ap, ◌∙◌}
use mathlib.Core.Bool.{Bool, true, false, cond}
use mathlib.Core.List.{List, [], ◌∷◌}
use native.Mathlib.Omega.{arith}
use native.Mathlib.Nat.{suc-mul, zero-mul}
use native.Mathlib.Numerals.{add-one}
use borrow.Author.Tests.{eqb-true, eqb-false, leb-true, leb-false}
use lib.Dec.{eqb, leb}
use lib.ListN.{length, take, drop, get_or, length-drop}
use lib.Seq.{length-take-le, get_or-take, get_or-drop}
use Rattle.records.specs.Numbers.{Bytes, number_of, part}
use Rattle.executive.specs.Lists.{◌and◌, up_to, all_of}
use Rattle.executive.specs.Places.{no_task}
use Rattle.executive.specs.States.{state_kind}
use Rattle.executive.specs.Check.{is_blank, entry_right}
use Rattle.executive.proofs.Assured.{both, same, and_true, true_and, all-get, all_make}
use Rattle.image.specs.Image.{image_length, is_image, state_in}
use Rattle.image.specs.Sound.{tasks_in, noughts, names_other, code_at, sound_at, KindsKnown, below}
use Rattle.image.proofs.Alike.{decide, never}
use Rattle.image.proofs.Noughts.{noughts-join, noughts-none, byte-nought}
use Rattle.image.proofs.Loaded.{tasks-size, no_kind_lem}
use Rattle.image.proofs.Canonical.{are, canonical_image, code_canonical, not-image}
use Rattle.image.proofs.EntriesRead.{blank-there}

-- ---- a test at each number below n
module _ (f : ℕ → Bool) where
  pub below_none : below f 0 ≡ true
  unfolding below
  below_none = refl

  pub below_more : (i : ℕ) → below f i ≡ true → f i ≡ true → below f (i + 1) ≡ true
  unfolding below
  below_more i h e = ap (below f) (add-one i) ∙ ap (λ (b : Bool). cond b (f i) false) h ∙ e

  pub below-not : (n i : ℕ) → i < n → f i ≡ false → below f n ≡ false
  unfolding below
  below-not zero i h e = absurd (omega arith)
  below-not (suc n) i h e =
      decide (eqb i n)
      (λ q. ap (λ (b : Bool). cond (below f n) b false) (ap f (sym (eqb-true i n q)) ∙ e) ∙ both_ways (below f n))
      (λ q. let d = eqb-false i n q in ap (λ (b : Bool). cond b (f n) false) (below-not n i (omega arith) e))
    where
      both_ways : (b : Bool) → cond b false false ≡ false
      both_ways true = refl
      both_ways false = refl

  pub below_get : (n i : ℕ) → below f n ≡ true → i < n → f i ≡ true
  below_get n i h l = decide (f i) (λ e. e) (λ e. absurd (never (sym (below-not n i l e) ∙ h)))

  pub below_make : (n : ℕ) → ((i : ℕ) → i < n → f i ≡ true) → below f n ≡ true
  unfolding below
  below_make zero h = refl
  below_make (suc n) h = ap (λ (b : Bool). cond b (f n) false) (below_make n (λ i l. h i (omega arith))) ∙ h n (omega arith)

-- ---- a test of each element of a list, by its places
module _ {A : Type 0} (f : A → Bool) (d : A) where
  pub each-get : (xs : List A) → all_of f xs ≡ true → (i : ℕ) → i < length xs → f (get_or xs i d) ≡ true
  unfolding all_of
  each-get [] e i h = absurd (omega arith)
  each-get (x ∷ xs) e zero h = (both (f x) (all_of f xs) e).0
  each-get (x ∷ xs) e (suc i) h = each-get xs (both (f x) (all_of f xs) e).1 i (omega arith)

  pub each_make : (xs : List A) → ((i : ℕ) → i < length xs → f (get_or xs i d) ≡ true) → all_of f xs ≡ true
  unfolding all_of
  each_make [] h = refl
  each_make (x ∷ xs) h = rw (h zero (omega arith)) (each_make xs (λ i l. h (suc i) (omega arith)))

  -- of the first n; of those from the n-th on
  module _ (xs : List A) (n : ℕ) (h : n ≤ length xs) where
    first-get : all_of f (take n xs) ≡ true → (i : ℕ) → i < n → f (get_or xs i d) ≡ true
    first-get e i l = ap f (sym (get_or-take n xs i d l)) ∙ each-get (take n xs) e i (omega (arith, length-take-le n xs h))

    first_make : ((i : ℕ) → i < n → f (get_or xs i d) ≡ true) → all_of f (take n xs) ≡ true
    first_make g =
        each_make (take n xs) (λ i l. let m : i < n = omega (arith, length-take-le n xs h) in ap f (get_or-take n xs i d m) ∙ g i m)

    pub past-each : all_of f (drop n xs) ≡ true → (i : ℕ) → n ≤ i → i < length xs → f (get_or xs i d) ≡ true
    past-each e i g l =
        let z : n + (i - n) ≡ i = omega arith in
        ap (λ (j : ℕ). f (get_or xs j d)) (sym z) ∙ ap f (sym (get_or-drop n xs (i - n) d)) ∙ each-get (drop n xs) e (i - n) (omega (arith, length-drop n xs))

    past_all : ((i : ℕ) → n ≤ i → i < length xs → f (get_or xs i d) ≡ true) → all_of f (drop n xs) ≡ true
    past_all g = each_make (drop n xs) (λ i l. ap f (get_or-drop n xs i d) ∙ g (n + i) (omega arith) (omega (arith, length-drop n xs)))

-- ---- bytes that are zero: some among more of them; rows of them
module _ (s : List ℕ) where
  noughts-within : (m at w o : ℕ) → o + w ≤ m → noughts s m at ≡ true → noughts s w (at + o) ≡ true
  noughts-within m at w o h e =
      let n : ℕ = m - o - w in
      let y : m ≡ o + (w + (m - o - w)) = omega arith in
      let a : cond (noughts s o at) (noughts s (w + n) (at + o)) false ≡ true = sym (noughts-join s o (w + n) at) ∙ ap (λ (x : ℕ). noughts s x at) (sym y) ∙ e in
      let b : cond (noughts s w (at + o)) (noughts s n (at + o + w)) false ≡ true = sym (noughts-join s w n (at + o)) ∙ (both (noughts s o at) (noughts s (w + n) (at + o)) a).1 in
      (both (noughts s w (at + o)) (noughts s n (at + o + w)) b).0

  noughts_rows : (w n at : ℕ) → ((i : ℕ) → i < n → noughts s w (at + i * w) ≡ true) → noughts s (n * w) at ≡ true
  noughts_rows w zero at h = noughts-none s (0 * w) at (zero-mul w)
  noughts_rows w (suc n) at h =
      let z : suc n * w ≡ w + n * w = suc-mul n w ∙ omega arith in
      let y : at + 0 * w ≡ at = rw (zero-mul w) (omega arith) in
      let a : noughts s w at ≡ true = ap (noughts s w) (sym y) ∙ h 0 (omega arith) in
      let b : noughts s (n * w) (at + w) ≡ true =
      noughts_rows w n (at + w) (λ i l. let j : at + w + i * w ≡ at + suc i * w = rw (suc-mul i w) (omega arith) in ap (noughts s w) j ∙ h (suc i) (omega arith)) in
      ap (λ (m : ℕ). noughts s m at) z ∙ noughts-join s w (n * w) at ∙ (λ j. cond (a j) (b j) false)

-- ---- the bytes of an image's length are an image where the numbers of each state are those of the state that they make
module _ (s : List ℕ) (h : Bytes s) (l : length s ≡ image_length) where
  pub image-codes : is_image s ≡ below (code_at s) 16
  image-codes = same (is_image s) (below (code_at s) 16) there back
    where
      there : is_image s ≡ true → below (code_at s) 16 ≡ true
      there e =
          below_make (code_at s) 16
          (λ i g. decide (code_at s i) (λ q. q) (λ q. absurd (never (not-image s h i g _ _ _ _ refl refl refl refl q ∙ e))))

      back : below (code_at s) 16 ≡ true → is_image s ≡ true
      back e = sym (canonical_image s h l (λ i g. code_canonical s h i g _ _ _ _ refl refl refl refl (below_get (code_at s) 16 i e g)))

-- a code has a kind
code_kind : (s : List ℕ) (i : ℕ) → code_at s i ≡ true → get_or s (i * 26 + 1) 0 ≤ 9
code_kind s i e =
    let k : ℕ = get_or s (i * 26 + 1) 0 in
    let t : ℕ = number_of (part 8 (i * 26 + 2) s) in
    let m : ℕ = number_of (part 4 (i * 26 + 10) s) in
    let a : ℕ = get_or s (898 + i) 0 in
    decide (leb k 9) (leb-true k 9)
    (λ q.
    let g = leb-false k 9 q in
    let z : 8 ≡ k = sym (ap state_kind (no_kind_lem k (record { 0 = t }) m a g)) ∙ (are (state_in k (record { 0 = t }) m a) k t m a e).kind-is in
    absurd (omega (arith, g, z)))

-- ---- the first n entries, at the clock c with the flags fs
module _ (s : List ℕ) (n c fs : ℕ) (h : n ≤ 16) where
  abbrev entries : Bool
  entries = all_of (entry_right n c fs) (take n (tasks_in s))

  abbrev others : Bool
  others = up_to (names_other (tasks_in s)) n

  fits : n ≤ length (tasks_in s)
  fits = omega (arith, tasks-size s)

  pub sound-below : below (sound_at s n c fs) n ≡ (below (code_at s) n and entries and others)
  sound-below = same (below (sound_at s n c fs) n) (below (code_at s) n and entries and others) there back
    where
      at : below (sound_at s n c fs) n ≡ true → (i : ℕ) → i < n → (code_at s i ≡ true) × (entry_right n c fs (get_or (tasks_in s) i no_task) ≡ true) × (names_other (tasks_in s) (suc i) ≡ true)
      at e i l =
          let a = and_true (code_at s i) _ (below_get (sound_at s n c fs) n i e l) in
          let b = and_true (entry_right n c fs (get_or (tasks_in s) i no_task)) _ a.1 in
          (a.0, b.0, b.1)

      by_number : below (sound_at s n c fs) n ≡ true → (k : ℕ) → 0 < k → k ≤ n → names_other (tasks_in s) k ≡ true
      by_number e zero g l = absurd (omega arith)
      by_number e (suc i) g l = (at e i l).2

      there : below (sound_at s n c fs) n ≡ true → (below (code_at s) n and entries and others) ≡ true
      there e =
          true_and (below (code_at s) n) _ (below_make (code_at s) n (λ i l. (at e i l).0))
          (true_and entries others (first_make (entry_right n c fs) no_task (tasks_in s) n fits (λ i l. (at e i l).1)) (all_make (names_other (tasks_in s)) n (by_number e)))

      back : (below (code_at s) n and entries and others) ≡ true → below (sound_at s n c fs) n ≡ true
      back e =
          let a = and_true (below (code_at s) n) _ e in
          let b = and_true entries others a.1 in
          below_make (sound_at s n c fs) n
          (λ i l.
          true_and (code_at s i) _ (below_get (code_at s) n i a.0 l)
          (true_and (entry_right n c fs (get_or (tasks_in s) i no_task)) _ (first-get (entry_right n c fs) no_task (tasks_in s) n fits b.0 i l) (all-get (names_other (tasks_in s)) n (suc i) b.1 (omega arith) l)))

  pub sound-kinds : below (sound_at s n c fs) n ≡ true → KindsKnown s n
  sound-kinds e i l = code_kind s i (and_true (code_at s i) _ (below_get (sound_at s n c fs) n i e l)).0

-- ---- those from the n-th on
module _ (s : List ℕ) (n : ℕ) (h : n ≤ 16) where
  abbrev zeros : Bool
  zeros = noughts s (416 - n * 26) (n * 26) and noughts s (914 - (898 + n)) (898 + n)

  fit : n ≤ length (tasks_in s)
  fit = omega (arith, tasks-size s)

  pub past-get : zeros ≡ true → (i : ℕ) → n ≤ i → i < 16 → (code_at s i ≡ true) × (is_blank (get_or (tasks_in s) i no_task) ≡ true)
  past-get e i g l =
      let p = and_true (noughts s (416 - n * 26) (n * 26)) _ e in
      let y : n * 26 + (i * 26 - n * 26) ≡ i * 26 = omega arith in
      let z : 898 + n + (i - n) ≡ 898 + i = omega arith in
      let a : noughts s 26 (i * 26) ≡ true = ap (noughts s 26) (sym y) ∙ noughts-within s (416 - n * 26) (n * 26) 26 (i * 26 - n * 26) (omega arith) p.0 in
      let b : noughts s 1 (898 + i) ≡ true = ap (noughts s 1) (sym z) ∙ noughts-within s (914 - (898 + n)) (898 + n) 1 (i - n) (omega arith) p.1 in
      and_true (code_at s i) _ (blank-there s i l ∙ true_and (noughts s 26 (i * 26)) _ a (sym (byte-nought s (898 + i)) ∙ b))

  pub past-blank : zeros ≡ true → all_of is_blank (drop n (tasks_in s)) ≡ true
  past-blank e = past_all is_blank no_task (tasks_in s) n fit (λ i g l. (past-get e i g (omega (arith, tasks-size s))).1)

  pub past_make : ((i : ℕ) → n ≤ i → i < 16 → code_at s i ≡ true) → all_of is_blank (drop n (tasks_in s)) ≡ true → zeros ≡ true
  past_make f e =
      true_and (noughts s (416 - n * 26) (n * 26)) _
      (ap (λ (m : ℕ). noughts s m (n * 26)) (omega arith)
      ∙ noughts_rows s 26 (16 - n) (n * 26) (λ i l. let z : n * 26 + i * 26 ≡ (n + i) * 26 = omega arith in ap (noughts s 26) z ∙ (at (n + i) (omega arith) (omega arith)).0))
      (ap (λ (m : ℕ). noughts s m (898 + n)) (omega arith)
      ∙ noughts_rows s 1 (16 - n) (898 + n)
      (λ i l. let z : 898 + n + i * 1 ≡ 898 + (n + i) = omega arith in ap (noughts s 1) z ∙ byte-nought s (898 + (n + i)) ∙ (at (n + i) (omega arith) (omega arith)).1))
    where
      at : (i : ℕ) → n ≤ i → i < 16 → (noughts s 26 (i * 26) ≡ true) × (eqb (get_or s (898 + i) 0) 0 ≡ true)
      at i g l =
          and_true (noughts s 26 (i * 26)) _
          (sym (blank-there s i l) ∙ true_and (code_at s i) _ (f i g l) (past-each is_blank no_task (tasks_in s) n fit e i g (omega (arith, tasks-size s))))
