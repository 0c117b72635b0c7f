-- Bytes written over a part of a buffer, a row of equal blocks written and read.
use Prim.Native.Nat.{ℕ, zero, suc, ◌+◌, ◌*◌, ◌≤◌, ◌<◌}
use mathlib.Core.Path.{◌≡◌, refl, sym, ap, ◌∙◌}
use mathlib.Core.List.{List, [], ◌∷◌, ◌++◌, append-nil, append_assoc}
use native.Mathlib.Omega.{arith}
use native.Mathlib.Nat.{add-zero, add_assoc, add_comm, suc-mul, zero-mul, not-suc-le-zero, le_of_suc-le-suc}
use native.Mathlib.Numerals.{add-one}
use lib.ListN.{length, get_or, take, drop, set, length-append, take-append-drop, drop_of_length-le}
use lib.Seq.{take_at, drop_at, drop-drop, length-take-le, take-suc, take-suc-set, take_all, sets, sets-eq}
use Rattle.image.specs.Blocks.{row, blocks, Each, written}

-- ---- bytes written over a part of a buffer
pub written_none : (o : List ℕ) (at : ℕ) → written o at [] ≡ o
unfolding written
written_none o at = rw (add-zero at) (take-append-drop at o)

module _ (o : List ℕ) (at : ℕ) (bs : List ℕ) (h : at + length bs ≤ length o) where
  head-length : length (take at o ++ bs) ≡ at + length bs
  head-length = length-append (take at o) bs ∙ ap (λ n. n + length bs) (length-take-le at o (omega arith))

  take-written : take (at + length bs) (written o at bs) ≡ take at o ++ bs
  unfolding written
  take-written = ap (take (at + length bs)) (sym (append_assoc (take at o) bs (drop (at + length bs) o))) ∙ take_at (take at o ++ bs) (drop (at + length bs) o) (at + length bs) head-length

  pub drop-written : drop (at + length bs) (written o at bs) ≡ drop (at + length bs) o
  unfolding written
  drop-written = ap (drop (at + length bs)) (sym (append_assoc (take at o) bs (drop (at + length bs) o))) ∙ drop_at (take at o ++ bs) (drop (at + length bs) o) (at + length bs) head-length

-- some bytes, and others right behind them
pub written_then : (o : List ℕ) (at : ℕ) (a b : List ℕ) → at + length a + length b ≤ length o
    → written (written o at a) (at + length a) b ≡ written o at (a ++ b)
unfolding written
written_then o at a b h =
    let far : drop (at + length a + length b) (written o at a) ≡ drop (at + length a + length b) o =
    sym (drop-drop (length b) (at + length a) (written o at a)) ∙ ap (drop (length b)) (drop-written o at a (omega arith)) ∙ drop-drop (length b) (at + length a) o in
    let z : at + length (a ++ b) ≡ at + length a + length b = ap (λ n. at + n) (length-append a b) ∙ sym (add_assoc at (length a) (length b)) in
    ap (λ l. l ++ (b ++ drop (at + length a + length b) (written o at a))) (take-written o at a (omega arith))
    ∙ ap (λ l. (take at o ++ a) ++ (b ++ l)) far
    ∙ append_assoc (take at o) a (b ++ drop (at + length a + length b) o)
    ∙ ap (λ l. take at o ++ l) (sym (append_assoc a b (drop (at + length a + length b) o)))
    ∙ ap (λ n. take at o ++ ((a ++ b) ++ drop n o)) (sym z)

-- the same of the buffers that two writes leave
pub and_then : (o : List ℕ) {p q : List ℕ} (at : ℕ) (a b : List ℕ) → p ≡ written o at a → q ≡ written p (at + length a) b → at + length a + length b ≤ length o → q ≡ written o at (a ++ b)
and_then o at a b e f h = f ∙ ap (λ l. written l (at + length a) b) e ∙ written_then o at a b h

-- a whole buffer
pub written-whole : (o bs : List ℕ) → length bs ≡ length o → written o 0 bs ≡ bs
unfolding written
written-whole o bs e = let d : drop (0 + length bs) o ≡ [] = drop_of_length-le o {i = 0 + length bs} (omega arith) in rw d (append-nil bs)

-- stores one after the other, as straight-line code leaves them
module _ (o : List ℕ) (at : ℕ) where
  pub stored : (bs : List ℕ) → at + length bs ≤ length o → sets o at bs ≡ written o at bs
  unfolding written
  stored bs h = sets-eq bs o at h ∙ append_assoc (take at o) bs (drop (at + length bs) o)

  pub stored-two : (a b : ℕ) → at + 2 ≤ length o → set (set o at a) (at + 1) b ≡ written o at (a ∷ b ∷ [])
  stored-two a b h = let e1 : at + 1 ≡ suc at = omega arith in rw e1 (stored (a ∷ b ∷ []) h)

  pub stored-four : (a b c d : ℕ) → at + 4 ≤ length o → set (set (set (set o at a) (at + 1) b) (at + 2) c) (at + 3) d ≡ written o at (a ∷ b ∷ c ∷ d ∷ [])
  stored-four a b c d h =
      let e1 : at + 1 ≡ suc at = omega arith in
      let e2 : at + 2 ≡ suc (suc at) = omega arith in
      let e3 : at + 3 ≡ suc (suc (suc at)) = omega arith in
      rw (e1, e2, e3) (stored (a ∷ b ∷ c ∷ d ∷ []) h)

-- ---- what holds of each element
module _ {A : Type 0} (P : A → Type 0) where
  pub each_all : ((x : A) → P x) → (xs : List A) → Each P xs
  each_all h [] = tt
  each_all h (x ∷ xs) = (h x, each_all h xs)

  pub each_more : (i : ℕ) (xs : List A) (d : A) → Each P (take i xs) → P (get_or xs i d) → i < length xs → Each P (take (suc i) xs)
  each_more i [] d h k l = absurd (not-suc-le-zero l)
  each_more zero (x ∷ xs) d h k l = (k, tt)
  each_more (suc i) (x ∷ xs) d h k l = (h.0, each_more i xs d h.1 k (le_of_suc-le-suc l))

  -- of each element, and of what stands past the last
  pub each_or : (d : A) → P d → (xs : List A) → Each P xs → (i : ℕ) → P (get_or xs i d)
  each_or d k [] h i = k
  each_or d k (x ∷ xs) h zero = h.0
  each_or d k (x ∷ xs) h (suc i) = each_or d k xs h.1 i

  pub each_of : (d : A) (xs : List A) → ((i : ℕ) → P (get_or xs i d)) → Each P xs
  each_of d [] h = tt
  each_of d (x ∷ xs) h = (h 0, each_of d xs (λ i. h (suc i)))

pub each_so : {A : Type 0} (P Q : A → Type 0) → ((x : A) → P x → Q x) → (xs : List A) → Each P xs → Each Q xs
each_so P Q f [] h = tt
each_so P Q f (x ∷ xs) h = (f x h.0, each_so P Q f xs h.1)

-- ---- a row of equal blocks: f makes w bytes of each of some elements
module _ {A : Type 0} (f : A → List ℕ) (w : ℕ) where
  abbrev pub Wide : A → Type 0
  Wide x = length (f x) ≡ w

  pub row-length : (xs : List A) → Each Wide xs → length (row f xs) ≡ length xs * w
  unfolding row
  row-length [] h = sym (zero-mul w)
  row-length (x ∷ xs) h = length-append (f x) (row f xs) ∙ rw (h.0, row-length xs h.1, suc-mul (length xs) w) (add_comm w (length xs * w))

  row_more : (xs : List A) (i : ℕ) (d : A) → i < length xs → row f (take (suc i) xs) ≡ row f (take i xs) ++ f (get_or xs i d)
  unfolding row
  row_more [] i d h = absurd (not-suc-le-zero h)
  row_more (x ∷ xs) zero d h = append-nil (f x)
  row_more (x ∷ xs) (suc i) d h = ap (λ l. f x ++ l) (row_more xs i d (le_of_suc-le-suc h)) ∙ sym (append_assoc (f x) (row f (take i xs)) (f (get_or xs i d)))

  -- one block more is written, from `base` on
  pub row-turned : (o q r : List ℕ) (xs : List A) (base i at : ℕ) (d : A) → Each Wide (take i xs) → Wide (get_or xs i d)
      → q ≡ written o base (row f (take i xs)) → at ≡ base + i * w → r ≡ written q at (f (get_or xs i d))
      → i < length xs → base + i * w + w ≤ length o → r ≡ written o base (row f (take (i + 1) xs))
  row-turned o q r xs base i at d g z eq ea er h k =
      let l : length (row f (take i xs)) ≡ i * w = row-length (take i xs) g ∙ ap (λ n. n * w) (length-take-le i xs (omega arith)) in
      er ∙ ap (λ p. written p at (f (get_or xs i d))) eq
      ∙ ap (λ n. written (written o base (row f (take i xs))) n (f (get_or xs i d))) (ea ∙ ap (λ n. base + n) (sym l))
      ∙ written_then o base (row f (take i xs)) (f (get_or xs i d)) (omega arith)
      ∙ ap (written o base) (sym (row_more xs i d h) ∙ ap (λ n. row f (take n xs)) (sym (add-one i)))

  pub row-begun : (o : List ℕ) (xs : List A) (base : ℕ) → o ≡ written o base (row f (take 0 xs))
  unfolding row
  row-begun o xs base = sym (written_none o base)

  pub row_done : (o q : List ℕ) (xs : List A) (base i : ℕ) → q ≡ written o base (row f (take i xs)) → length xs ≤ i → q ≡ written o base (row f xs)
  row_done o q xs base i e h = e ∙ ap (λ l. written o base (row f l)) (take_all i xs h)

-- a block of a row of n ends within it
pub block-within : (i n w : ℕ) → i < n → i * w + w ≤ n * w
block-within i n w h = grind arith

-- the same where f makes w bytes of any element
module _ {A : Type 0} (f : A → List ℕ) (w : ℕ) (size : (x : A) → length (f x) ≡ w) where
  pub length-row : (xs : List A) → length (row f xs) ≡ length xs * w
  length-row xs = row-length f w xs (each_all (Wide f w) size xs)

  pub row-turn : (o q r : List ℕ) (xs : List A) (base i at : ℕ) (d : A)
      → q ≡ written o base (row f (take i xs)) → at ≡ base + i * w → r ≡ written q at (f (get_or xs i d))
      → i < length xs → base + i * w + w ≤ length o → r ≡ written o base (row f (take (i + 1) xs))
  row-turn o q r xs base i at d = row-turned f w o q r xs base i at d (each_all (Wide f w) size (take i xs)) (size (get_or xs i d))

  pub row-start : (o : List ℕ) (xs : List A) (base : ℕ) → o ≡ written o base (row f (take 0 xs))
  row-start = row-begun f w

  pub row-end : (o q : List ℕ) (xs : List A) (base i : ℕ) → q ≡ written o base (row f (take i xs)) → length xs ≤ i → q ≡ written o base (row f xs)
  row-end = row_done f w

-- ---- equal blocks that are read: f reads one at a place, the next is w places on
module _ {A : Type 0} (f : ℕ → A) (w : ℕ) where
  pub length-blocks : (n at : ℕ) → length (blocks f w n at) ≡ n
  unfolding blocks
  length-blocks zero at = refl
  length-blocks (suc n) at = ap suc (length-blocks n (at + w))

  pub block_at : (n at i : ℕ) (d : A) → i < n → get_or (blocks f w n at) i d ≡ f (at + i * w)
  unfolding blocks
  block_at zero at i d h = absurd (not-suc-le-zero h)
  block_at (suc n) at zero d h = ap f (sym (ap (λ k. at + k) (zero-mul w) ∙ add-zero at))
  block_at (suc n) at (suc i) d h = block_at n (at + w) i d (le_of_suc-le-suc h) ∙ ap f (rw (suc-mul i w) (omega arith))

  -- one block more is read: what stands up to it is right
  pub block-turn : (n at i place : ℕ) (q : List A) (v : A) → length q ≡ n → take i q ≡ take i (blocks f w n at) → i < n → place ≡ at + i * w → v ≡ f place
      → take (i + 1) (set q i v) ≡ take (i + 1) (blocks f w n at)
  block-turn n at i place q v l e h ep ev =
      let m : length (blocks f w n at) ≡ n = length-blocks n at in
      rw (add-one i)
      (take-suc-set q i v (omega arith)
      ∙ ap (λ a. a ++ (v ∷ [])) e
      ∙ ap (λ x. take i (blocks f w n at) ++ (x ∷ [])) (ev ∙ ap f ep ∙ sym (block_at n at i v h))
      ∙ sym (take-suc (blocks f w n at) i v (omega arith)))

  pub block-end : (n at i : ℕ) (q : List A) → length q ≡ n → take i q ≡ take i (blocks f w n at) → n ≤ i → q ≡ blocks f w n at
  block-end n at i q l e h =
      let m : length (blocks f w n at) ≡ n = length-blocks n at in
      sym (take_all i q (omega arith)) ∙ e ∙ take_all i (blocks f w n at) (omega arith)

  -- elements that are each read where they stand
  blocks-read : (xs : List A) (d : A) (at : ℕ) → ((i : ℕ) → i < length xs → f (at + i * w) ≡ get_or xs i d) → blocks f w (length xs) at ≡ xs
  unfolding blocks
  blocks-read [] d at h = refl
  blocks-read (x ∷ xs) d at h =
      let e : f at ≡ x = ap f (sym (ap (λ k. at + k) (zero-mul w) ∙ add-zero at)) ∙ h 0 (omega arith) in
      let more : (i : ℕ) → i < length xs → f (at + w + i * w) ≡ get_or xs i d = λ i k. ap f (rw (suc-mul i w) (omega arith)) ∙ h (suc i) (omega arith) in
      ap (λ (y : A). y ∷ blocks f w (length xs) (at + w)) e ∙ ap (λ l. x ∷ l) (blocks-read xs d (at + w) more)

  pub blocks-are : (xs : List A) (d : A) (n at : ℕ) → length xs ≡ n → ((i : ℕ) → i < n → f (at + i * w) ≡ get_or xs i d) → blocks f w n at ≡ xs
  blocks-are xs d n at l h = ap (λ m. blocks f w m at) (sym l) ∙ blocks-read xs d at (λ i k. h i (omega arith))
