-- Bytes moved within a buffer some at a time, upwards from the front or downwards from the back; two writes that are one.
use Prim.Native.Nat.{ℕ, zero, suc, ◌+◌, ◌-◌, ◌*◌, ◌≤◌, ◌<◌}
use mathlib.Core.Path.{◌≡◌, refl, sym, ap, ◌∙◌}
use mathlib.Core.List.{List, ◌∷◌, ◌++◌, append_assoc}
use native.Mathlib.Omega.{arith}
use lib.ListN.{length, get_or, take, drop, set, length-append, length-drop, take-append-drop}
use lib.Seq.{length-take-le, drop-cons, drop-length, drop-drop, take-append-le, take-take, take-add, drop_at}
use Rattle.records.specs.Numbers.{part}
use Rattle.image.specs.Blocks.{written}
use Rattle.image.proofs.Spans.{written_none, drop-written, and_then, stored}
use Rattle.image.proofs.Joined.{written-length}

-- ---- some bytes from a place on, read one by one
pub part-taken : (s : List ℕ) (w at : ℕ) → at + w ≤ length s → part w at s ≡ take w (drop at s)
part-taken s zero at h = refl
part-taken s (suc w) at h =
    ap (λ l. get_or s at 0 ∷ l) (part-taken s w (suc at) (omega arith)) ∙ sym (ap (take (suc w)) (drop-cons s at 0 (omega arith)))

-- one byte written where another stands
pub one_copied : (s : List ℕ) (to from : ℕ) → to < length s → from < length s → set s to (get_or s from 0) ≡ written s to (take 1 (drop from s))
one_copied s to from h g = stored s to (part 1 from s) (omega arith) ∙ ap (written s to) (part-taken s 1 from (omega arith))

-- the bytes from a place on are those of another buffer that is the same up to their end
taken-front : (s r : List ℕ) (at w : ℕ) → at ≤ length s → at ≤ length r → take (at + w) s ≡ take (at + w) r → take w (drop at s) ≡ take w (drop at r)
taken-front s r at w h g e = sym (of s h) ∙ ap (drop at) e ∙ of r g
  where
    of : (l : List ℕ) → at ≤ length l → drop at (take (at + w) l) ≡ take w (drop at l)
    of l k = ap (drop at) (take-add at w l) ∙ drop_at (take at l) (take w (drop at l)) at (length-take-le at l k)

-- ---- what a write leaves: past it, before it
module _ (o : List ℕ) (at : ℕ) (bs : List ℕ) (h : at + length bs ≤ length o) where
  past-written : (j : ℕ) → at + length bs ≤ j → drop j (written o at bs) ≡ drop j o
  past-written j g =
      let m = at + length bs in
      let e : m + (j - m) ≡ j = omega arith in
      ap (λ n. drop n (written o at bs)) (sym e) ∙ sym (drop-drop (j - m) m (written o at bs)) ∙ ap (drop (j - m)) (drop-written o at bs h) ∙ drop-drop (j - m) m o ∙ ap (λ n. drop n o) e

  before-written : (j : ℕ) → j ≤ at → take j (written o at bs) ≡ take j o
  unfolding written
  before-written j g =
      let l : length (take at o) ≡ at = length-take-le at o (omega arith) in
      take-append-le j (take at o) (bs ++ drop (at + length bs) o) (omega arith) ∙ take-take j at o g

-- ---- bytes written right before others
pub before-then : (o : List ℕ) {p q : List ℕ} (at : ℕ) (a b : List ℕ) → p ≡ written o (at + length a) b → q ≡ written p at a → at + length a + length b ≤ length o → q ≡ written o at (a ++ b)
unfolding written
before-then o at a b e f h =
    let n = at + length a in
    let r = b ++ drop (n + length b) o in
    let lt : length (take n o) ≡ n = length-take-le n o (omega arith) in
    let lab : length (a ++ b) ≡ length a + length b = length-append a b in
    let z : n + length b ≡ at + length (a ++ b) = omega arith in
    f
    ∙ ap (λ l. written l at a) e
    ∙ ap (λ l. l ++ (a ++ drop n (take n o ++ r))) (take-append-le at (take n o) r (omega arith) ∙ take-take at n o (omega arith))
    ∙ ap (λ l. take at o ++ (a ++ l)) (drop_at (take n o) r n lt)
    ∙ ap (λ m. take at o ++ (a ++ (b ++ drop m o))) z
    ∙ ap (λ l. take at o ++ l) (sym (append_assoc a b (drop (at + length (a ++ b)) o)))

-- ---- the loops: s as it was, r as it is, q after a turn that moves w bytes
module _ (s : List ℕ) (to from n : ℕ) where
  pub up_start : s ≡ written s to (take 0 (drop from s))
  up_start = sym (written_none s to)

  pub up_turn : (r q : List ℕ) (i w : ℕ) → to ≤ from → from + n ≤ length s → i + w ≤ n → r ≡ written s to (take i (drop from s))
      → q ≡ written r (to + i) (take w (drop (from + i) r)) → q ≡ written s to (take (i + w) (drop from s))
  up_turn r q i w g h k er eq =
      let xs = drop from s in
      let lx : length xs ≡ length s - from = length-drop from s in
      let li : length (take i xs) ≡ i = length-take-le i xs (omega arith) in
      let ld : length (drop i xs) ≡ length xs - i = length-drop i xs in
      let lw : length (take w (drop i xs)) ≡ w = length-take-le w (drop i xs) (omega arith) in
      let e : take w (drop (from + i) r) ≡ take w (drop i xs) =
      ap (take w) (ap (drop (from + i)) er ∙ past-written s to (take i xs) (omega arith) (from + i) (omega arith) ∙ sym (drop-drop i from s)) in
      let z : to + i ≡ to + length (take i xs) = omega arith in
      and_then s to (take i xs) (take w (drop i xs)) er (eq ∙ ap (written r (to + i)) e ∙ ap (λ m. written r m (take w (drop i xs))) z) (omega arith)
      ∙ ap (written s to) (sym (take-add i w xs))

  pub down-start : from + n ≤ length s → s ≡ written s (to + n) (drop n (take n (drop from s)))
  down-start h =
      let lx : length (drop from s) ≡ length s - from = length-drop from s in
      let lt : length (take n (drop from s)) ≡ n = length-take-le n (drop from s) (omega arith) in
      sym (ap (written s (to + n)) (ap (λ m. drop m (take n (drop from s))) (sym lt) ∙ drop-length (take n (drop from s))) ∙ written_none s (to + n))

  pub down_turn : (r q : List ℕ) (i j w : ℕ) → from ≤ to → to + n ≤ length s → i ≤ n → i ≡ j + w → r ≡ written s (to + i) (drop i (take n (drop from s)))
      → q ≡ written r (to + j) (take w (drop (from + j) r)) → q ≡ written s (to + j) (drop j (take n (drop from s)))
  down_turn r q i j w g h k ei er eq =
      let xs = drop from s in
      let ys = take n xs in
      let bs = take w (drop j ys) in
      let lx : length xs ≡ length s - from = length-drop from s in
      let ly : length ys ≡ n = length-take-le n xs (omega arith) in
      let li : length (drop i ys) ≡ length ys - i = length-drop i ys in
      let lj : length (drop j ys) ≡ length ys - j = length-drop j ys in
      let lb : length bs ≡ w = length-take-le w (drop j ys) (omega arith) in
      let lr : length r ≡ length s = ap length er ∙ written-length s (to + i) (drop i ys) (omega arith) in
      let e : take w (drop (from + j) r) ≡ bs =
      taken-front r s (from + j) w (omega arith) (omega arith) (ap (take (from + j + w)) er ∙ before-written s (to + i) (drop i ys) (omega arith) (from + j + w) (omega arith))
      ∙ ap (take w) (sym (drop-drop j from s)) ∙ sym (taken-front ys xs j w (omega arith) (omega arith) (take-take (j + w) n xs (omega arith))) in
      let d : bs ++ drop i ys ≡ drop j ys = ap (λ m. bs ++ drop m ys) ei ∙ ap (λ l. bs ++ l) (sym (drop-drop w j ys)) ∙ take-append-drop w (drop j ys) in
      let z : to + i ≡ to + j + length bs = omega arith in
      before-then s (to + j) bs (drop i ys) (er ∙ ap (λ m. written s m (drop i ys)) z) (eq ∙ ap (written r (to + j)) e) (omega arith) ∙ ap (written s (to + j)) d

-- ---- blocks of eleven bytes that move down by one block: one of them by eleven stores; those from place `at` up to place n of a
-- row that begins at m, of which those from i on are moved
pub block-down : (s : List ℕ) (at : ℕ) → at + 22 ≤ length s
    → set (set (set (set (set (set (set (set (set (set (set s (at + 11) (get_or s at 0)) (at + 12) (get_or s (at + 1) 0)) (at + 13) (get_or s (at + 2) 0)) (at + 14) (get_or s (at + 3) 0)) (at + 15) (get_or s (at + 4) 0)) (at + 16) (get_or s (at + 5) 0)) (at + 17) (get_or s (at + 6) 0)) (at + 18) (get_or s (at + 7) 0)) (at + 19) (get_or s (at + 8) 0)) (at + 20) (get_or s (at + 9) 0)) (at + 21) (get_or s (at + 10) 0) ≡ written s (at + 11) (take 11 (drop at s))
block-down s at h =
    let e1 : at + 1 ≡ suc at = omega arith in
    let e2 : at + 2 ≡ suc (suc at) = omega arith in
    let e3 : at + 3 ≡ suc (suc (suc at)) = omega arith in
    let e4 : at + 4 ≡ suc (suc (suc (suc at))) = omega arith in
    let e5 : at + 5 ≡ suc (suc (suc (suc (suc at)))) = omega arith in
    let e6 : at + 6 ≡ suc (suc (suc (suc (suc (suc at))))) = omega arith in
    let e7 : at + 7 ≡ suc (suc (suc (suc (suc (suc (suc at)))))) = omega arith in
    let e8 : at + 8 ≡ suc (suc (suc (suc (suc (suc (suc (suc at))))))) = omega arith in
    let e9 : at + 9 ≡ suc (suc (suc (suc (suc (suc (suc (suc (suc at)))))))) = omega arith in
    let e10 : at + 10 ≡ suc (suc (suc (suc (suc (suc (suc (suc (suc (suc at))))))))) = omega arith in
    let f1 : at + 12 ≡ suc (at + 11) = omega arith in
    let f2 : at + 13 ≡ suc (suc (at + 11)) = omega arith in
    let f3 : at + 14 ≡ suc (suc (suc (at + 11))) = omega arith in
    let f4 : at + 15 ≡ suc (suc (suc (suc (at + 11)))) = omega arith in
    let f5 : at + 16 ≡ suc (suc (suc (suc (suc (at + 11))))) = omega arith in
    let f6 : at + 17 ≡ suc (suc (suc (suc (suc (suc (at + 11)))))) = omega arith in
    let f7 : at + 18 ≡ suc (suc (suc (suc (suc (suc (suc (at + 11))))))) = omega arith in
    let f8 : at + 19 ≡ suc (suc (suc (suc (suc (suc (suc (suc (at + 11)))))))) = omega arith in
    let f9 : at + 20 ≡ suc (suc (suc (suc (suc (suc (suc (suc (suc (at + 11))))))))) = omega arith in
    let f10 : at + 21 ≡ suc (suc (suc (suc (suc (suc (suc (suc (suc (suc (at + 11)))))))))) = omega arith in
    rw (e1, e2, e3, e4, e5, e6, e7, e8, e9, e10, f1, f2, f3, f4, f5, f6, f7, f8, f9, f10) (stored s (at + 11) (part 11 at s) (omega arith) ∙ ap (written s (at + 11)) (part-taken s 11 at (omega arith)))

abbrev pub Lowered : List ℕ → ℕ → ℕ → ℕ → List ℕ → ℕ → Type 0
Lowered s m at n r i = r ≡ written s (m + at * 11 + 11 + (i - at) * 11) (drop ((i - at) * 11) (take ((n - at) * 11) (drop (m + at * 11) s)))

module _ (s : List ℕ) (m at n : ℕ) (h : m + n * 11 + 11 ≤ length s) where
  pub blocks_start : at ≤ n → Lowered s m at n s n
  blocks_start g = down-start s (m + at * 11 + 11) (m + at * 11) ((n - at) * 11) (omega arith)

  pub blocks-turn : (r q : List ℕ) (i : ℕ) → at < i → i ≤ n → Lowered s m at n r i → q ≡ written r (m + (i - 1) * 11 + 11) (take 11 (drop (m + (i - 1) * 11) r))
      → Lowered s m at n q (i - 1)
  blocks-turn r q i g k er eq =
      let y : m + (i - 1) * 11 ≡ m + at * 11 + (i - 1 - at) * 11 = omega arith in
      let z : m + (i - 1) * 11 + 11 ≡ m + at * 11 + 11 + (i - 1 - at) * 11 = omega arith in
      down_turn s (m + at * 11 + 11) (m + at * 11) ((n - at) * 11) r q ((i - at) * 11) ((i - 1 - at) * 11) 11 (omega arith) (omega arith) (omega arith) (omega arith) er
      (eq ∙ (λ j. written r (z j) (take 11 (drop (y j) r))))
