-- Bytes laid at an address of an image: what is read there, what stays, and the image's own bytes laid again.
use Prim.Native.Nat.{ℕ, zero, suc, ◌+◌, ◌-◌, ◌≤◌, ◌<◌}
use mathlib.Core.Path.{◌≡◌, refl, sym, ap, ◌∙◌}
use mathlib.Core.List.{List, [], ◌∷◌, ◌++◌, append_assoc}
use native.Mathlib.Numerals.{add-one}
use native.Mathlib.Omega.{arith}
use lib.ListN.{length, get_or, take, drop, length-append, length-drop, take-append-drop, get_or-append}
use lib.Seq.{length-take-le, drop-cons, drop-drop, get_or_at, get_or-take, get_or-drop, get_or-append-add}
use Rattle.records.specs.Numbers.{part}
use Rattle.blocks.specs.Writing.{laid_at}
use Rattle.blocks.specs.Promises.{Others}

module _ (s : List ℕ) (a : ℕ) (b : List ℕ) (h : a + length b ≤ length s) where
  front : length (take a s) ≡ a
  front = length-take-le a s (omega arith)

  pub laid-length : length (laid_at s a b) ≡ length s
  laid-length =
      let x = length-append (take a s) (b ++ drop (a + length b) s) in
      let y = length-append b (drop (a + length b) s) in
      let z = length-drop (a + length b) s in
      let f = front in
      omega arith

  before : (i : ℕ) → i < a → get_or (laid_at s a b) i 0 ≡ get_or s i 0
  before i k =
      let f = front in
      get_or-append (take a s) (b ++ drop (a + length b) s) 0 i (omega arith) ∙ get_or-take a s i 0 k

  behind : (i : ℕ) → a + length b ≤ i → get_or (laid_at s a b) i 0 ≡ get_or s i 0
  behind i k =
      let m = a + length b in
      let p = take a s ++ b in
      let f = front in
      let n : length p ≡ m = length-append (take a s) b ∙ omega arith in
      let e : i ≡ length p + (i - m) = omega arith in
      let o : m + (i - m) ≡ i = omega arith in
      ap (λ t. get_or t i 0) (sym (append_assoc (take a s) b (drop m s)))
      ∙ ap (λ j. get_or (p ++ drop m s) j 0) e
      ∙ get_or-append-add p (drop m s) (i - m) 0
      ∙ get_or-drop m s (i - m) 0
      ∙ ap (λ j. get_or s j 0) o

  pub others : Others s a (length b) (laid_at s a b)
  others = record { size = laid-length; before = before; behind = behind }

-- the byte at the address, and what stands behind it
pub first_byte : (s : List ℕ) (a x : ℕ) (ys : List ℕ) → a ≤ length s → get_or (laid_at s a (x ∷ ys)) a 0 ≡ x
first_byte s a x ys h = get_or_at (take a s) x (ys ++ drop (a + suc (length ys)) s) 0 a (length-take-le a s h)

pub after-byte : (s : List ℕ) (a x : ℕ) (ys : List ℕ) → a ≤ length s
    → (length (take a s ++ (x ∷ [])) ≡ a + 1) × (laid_at s a (x ∷ ys) ≡ (take a s ++ (x ∷ [])) ++ (ys ++ drop (a + suc (length ys)) s))
after-byte s a x ys h =
    let f = length-take-le a s h in
    (length-append (take a s) (x ∷ []) ∙ omega arith, sym (append_assoc (take a s) (x ∷ []) (ys ++ drop (a + suc (length ys)) s)))

-- ---- so many bytes from a place on, laid there again: the same image
part-take : (s : List ℕ) (n i : ℕ) → i + n ≤ length s → part n i s ≡ take n (drop i s)
part-take s zero i h = refl
part-take s (suc n) i h =
    ap (λ t. get_or s i 0 ∷ t) (part-take s n (suc i) (omega arith)) ∙ sym (ap (take (suc n)) (drop-cons s i 0 (omega arith)))

part_length : (s : List ℕ) (n i : ℕ) → length (part n i s) ≡ n
part_length s zero i = refl
part_length s (suc n) i = ap suc (part_length s n (suc i))

pub laid-again : (s : List ℕ) (a n : ℕ) → a + suc n ≤ length s → laid_at s a (get_or s a 0 ∷ part n (a + 1) s) ≡ s
laid-again s a n h =
    let b = part (suc n) a s in
    rw (add-one a)
    (ap (λ m. take a s ++ (b ++ drop (a + m) s)) (part_length s (suc n) a)
    ∙ ap (λ t. take a s ++ (t ++ drop (a + suc n) s)) (part-take s (suc n) a h)
    ∙ ap (λ t. take a s ++ (take (suc n) (drop a s) ++ t)) (sym (drop-drop (suc n) a s))
    ∙ ap (λ t. take a s ++ t) (take-append-drop (suc n) (drop a s))
    ∙ take-append-drop a s)
