-- A number is its bytes, and some bytes are their number; and so a row of numbers, by any widths.
use Prim.Native.Nat.{ℕ, zero, suc, ◌+◌, ◌*◌, ◌/◌, ◌%◌, ◌<◌, ◌^◌}
use mathlib.Core.Path.{◌≡◌, refl, sym, ap, ◌∙◌}
use mathlib.Core.List.{List, [], ◌∷◌, ◌++◌, append_assoc}
use native.Mathlib.Omega.{arith}
use native.Mathlib.Nat.{add-zero, add-suc, suc-add, add_comm, pow-succ'}
use lib.ListN.{length, get_or, drop, length-append, drop_of_length-le}
use lib.Seq.{drop-cons, get_or-append_seam}
use lib.Dec.{lit<}
use Rattle.records.specs.Numbers.{Bytes, number_from, number_of, one_and, bytes_in, part, total, lay, cut, Fits, Wide}

from_last : (n : ℕ) (bs : List ℕ) (b : ℕ) → number_from n (bs ++ (b ∷ [])) ≡ number_from n bs * 256 + b
from_last n [] b = refl
from_last n (x ∷ bs) b = from_last (n * 256 + x) bs b

-- the number of some bytes and one more
number-last : (bs : List ℕ) (b : ℕ) → number_of (bs ++ (b ∷ [])) ≡ number_of bs * 256 + b
number-last [] b = omega arith
number-last (x ∷ bs) b = from_last x bs b

-- a number is that of its bytes
pub number-back : (w x : ℕ) → number_of (one_and w x) ≡ x
number-back zero x = refl
number-back (suc w) x = number-last (one_and w (x / 256)) (x % 256) ∙ rw (number-back w (x / 256)) (omega arith)

pub fitting-back : (w x : ℕ) → x < 256 ^ w → number_of (bytes_in w x) ≡ x
fitting-back zero x h = omega arith
fitting-back (suc w) x h = number-back w x

-- the bytes of a number and one byte more
bytes-last : (w n b : ℕ) → b < 256 → one_and (suc w) (n * 256 + b) ≡ one_and w n ++ (b ∷ [])
bytes-last w n b h =
    let q : (n * 256 + b) / 256 ≡ n = omega arith in
    let r : (n * 256 + b) % 256 ≡ b = omega arith in
    rw (q, r)

module _ (s : List ℕ) where
  part-last : (n i : ℕ) → part (suc n) i s ≡ part n i s ++ (get_or s (i + n) 0 ∷ [])
  part-last zero i = rw (add-zero i)
  part-last (suc n) i = ap (λ t. get_or s i 0 ∷ t) (part-last n (suc i) ∙ rw (suc-add i n, add-suc i n))

  part-more : (m n i : ℕ) → part m i s ++ part n (i + m) s ≡ part (n + m) i s
  part-more zero n i = rw (add-zero i, add-zero n)
  part-more (suc m) n i = rw (add-suc n m, add-suc i m, ← suc-add i m) (ap (λ t. get_or s i 0 ∷ t) (part-more m n (suc i)))

  pub part-drop : (n i : ℕ) → length s ≡ i + n → drop i s ≡ part n i s
  part-drop zero i h = drop_of_length-le s {i = i} (omega arith)
  part-drop (suc n) i h = drop-cons s i 0 (omega arith) ∙ ap (λ t. get_or s i 0 ∷ t) (part-drop n (suc i) (omega arith))

  module _ (h : Bytes s) where
    one-back : (w i : ℕ) → one_and w (number_of (part (suc w) i s)) ≡ part (suc w) i s
    one-back zero i = refl
    one-back (suc w) i =
        ap (one_and (suc w)) (ap number_of (part-last (suc w) i) ∙ number-last (part (suc w) i s) (get_or s (i + suc w) 0))
        ∙ bytes-last w (number_of (part (suc w) i s)) (get_or s (i + suc w) 0) (h (i + suc w))
        ∙ ap (λ t. t ++ (get_or s (i + suc w) 0 ∷ [])) (one-back w i)
        ∙ sym (part-last (suc w) i)

    -- some bytes are those of their number
    bytes_back : (w i : ℕ) → bytes_in w (number_of (part w i s)) ≡ part w i s
    bytes_back zero i = refl
    bytes_back (suc w) i = one-back w i

    -- the numbers that are cut out by some widths, laid again by the same: the same bytes
    pub lay-cut : (ws : List ℕ) (i : ℕ) → lay ws (cut ws i s) ≡ part (total ws) i s
    lay-cut [] i = refl
    lay-cut (w ∷ ws) i =
        ap (λ t. t ++ lay ws (cut ws (i + w) s)) (bytes_back w i)
        ∙ ap (λ t. part w i s ++ t) (lay-cut ws (i + w))
        ∙ part-more w (total ws) i
        ∙ ap (λ n. part n i s) (add_comm (total ws) w)

    -- a number that is cut out is below the bound of its width
    number_fits : (w i : ℕ) → number_of (part (suc w) i s) < 256 ^ suc w
    number_fits zero i = h i
    number_fits (suc w) i =
        let e : number_of (part (suc (suc w)) i s) ≡ number_of (part (suc w) i s) * 256 + get_or s (i + suc w) 0 =
        ap number_of (part-last (suc w) i) ∙ number-last (part (suc w) i s) (get_or s (i + suc w) 0) in
        let p : 256 ^ suc (suc w) ≡ 256 * 256 ^ suc w = pow-succ' 256 (suc w) in
        omega (arith, number_fits w i, h (i + suc w))

    width_fits : (w i : ℕ) → number_of (part w i s) < 256 ^ w
    width_fits zero i = lit< tt
    width_fits (suc w) i = number_fits w i

    pub cut_fits : (ws : List ℕ) (i : ℕ) → Fits ws (cut ws i s)
    cut_fits [] i = tt
    cut_fits (w ∷ ws) i = (width_fits w i, cut_fits ws (i + w))

length-one : (w x : ℕ) → length (one_and w x) ≡ suc w
length-one zero x = refl
length-one (suc w) x =
    length-append (one_and w (x / 256)) (x % 256 ∷ []) ∙ ap (λ n. n + 1) (length-one w (x / 256)) ∙ omega arith

length-bytes : (w x : ℕ) → length (bytes_in w x) ≡ w
length-bytes zero x = refl
length-bytes (suc w) x = length-one w x

-- what is laid has the sum of its widths
pub lay-length : (ws xs : List ℕ) → length xs ≡ length ws → length (lay ws xs) ≡ total ws
lay-length [] xs h = refl
lay-length (w ∷ ws) [] h = absurd (omega arith)
lay-length (w ∷ ws) (x ∷ xs) h =
    length-append (bytes_in w x) (lay ws xs)
    ∙ ap (λ n. n + length (lay ws xs)) (length-bytes w x)
    ∙ ap (λ n. w + n) (lay-length ws xs (omega arith))

-- bytes in the middle of others are read as they stand
part-middle : (p bs q : List ℕ) → part (length bs) (length p) (p ++ (bs ++ q)) ≡ bs
part-middle p [] q = refl
part-middle p (b ∷ bs) q =
    let l : suc (length p) ≡ length (p ++ (b ∷ [])) = sym (length-append p (b ∷ []) ∙ omega arith) in
    ap (λ x. x ∷ part (length bs) (suc (length p)) (p ++ (b ∷ (bs ++ q)))) (get_or-append_seam p b (bs ++ q) 0)
    ∙ ap (λ n. b ∷ part (length bs) n (p ++ (b ∷ (bs ++ q)))) l
    ∙ ap (λ s. b ∷ part (length bs) (length (p ++ (b ∷ []))) s) (sym (append_assoc p (b ∷ []) (bs ++ q)))
    ∙ ap (λ t. b ∷ t) (part-middle (p ++ (b ∷ [])) bs q)

wide_back : (w x : ℕ) → 0 < w → number_of (bytes_in w x) ≡ x
wide_back zero x h = absurd (omega arith)
wide_back (suc w) x h = number-back w x

-- numbers that are laid by some widths, cut out again by the same: the same numbers, whatever stands around them
pub cut-lay : (ws xs p q : List ℕ) → Wide ws → length xs ≡ length ws → cut ws (length p) (p ++ (lay ws xs ++ q)) ≡ xs
cut-lay [] [] p q h n = refl
cut-lay [] (x ∷ xs) p q h n = absurd (omega arith)
cut-lay (w ∷ ws) [] p q h n = absurd (omega arith)
cut-lay (w ∷ ws) (x ∷ xs) p q h n =
    let b = bytes_in w x in
    let s = p ++ ((b ++ lay ws xs) ++ q) in
    let l : length b ≡ w = length-bytes w x in
    let m : length p + w ≡ length (p ++ b) = sym (length-append p b ∙ ap (λ k. length p + k) l) in
    let e : s ≡ p ++ (b ++ (lay ws xs ++ q)) = ap (λ t. p ++ t) (append_assoc b (lay ws xs) q) in
    let f : s ≡ (p ++ b) ++ (lay ws xs ++ q) = e ∙ sym (append_assoc p b (lay ws xs ++ q)) in
    let g : part w (length p) s ≡ b =
    ap (part w (length p)) e ∙ ap (λ k. part k (length p) (p ++ (b ++ (lay ws xs ++ q)))) (sym l) ∙ part-middle p b (lay ws xs ++ q) in
    ap (λ y. y ∷ cut ws (length p + w) s) (ap number_of g ∙ wide_back w x h.0)
    ∙ ap (λ k. x ∷ cut ws k s) m
    ∙ ap (λ t. x ∷ cut ws (length (p ++ b)) t) f
    ∙ ap (λ t. x ∷ t) (cut-lay ws xs (p ++ b) q h.1 (omega arith))
