-- Bytes that are all zero: numbers, blocks and rows of blocks that are, as one test of their bytes.
use Prim.Native.Nat.{ℕ, zero, suc, ◌+◌, ◌-◌, ◌*◌, ◌≤◌, ◌<◌}
use mathlib.Core.Path.{◌≡◌, refl, sym, ap, ◌∙◌}
use mathlib.Core.Bool.{Bool, true, false, not, cond}
use mathlib.Core.List.{List, [], ◌∷◌}
use native.Mathlib.Omega.{arith}
use native.Mathlib.Nat.{add-zero, suc-mul, zero-mul}
use borrow.Author.Tests.{eqb-true, eqb-false, eq-eqb, ne_eqb, lt-ltb, le-ltb}
use lib.Dec.{eqb, ltb}
use lib.Bits.{bit_or}
use lib.ListN.{length, get_or, drop}
use Rattle.std.specs.Int.{w32, from_le_bytes}
use Rattle.records.specs.Numbers.{Bytes, number_from, number_of, part}
use Rattle.executive.specs.Lists.{◌and◌, all_of}
use Rattle.executive.proofs.Assured.{or-none}
use Rattle.executive.specs.Check.{is_nobody, is_free, is_free_sub, is_no_message, is_no_mail}
use Rattle.image.specs.Blocks.{blocks}
use Rattle.image.specs.Image.{place_from, line_from, request_from, sub_from, message_from, mail_from, load_of}
use Rattle.image.specs.Sound.{noughts, pool_in, messages_in}
use Rattle.image.proofs.Spans.{length-blocks}
use Rattle.image.proofs.Rows.{blocks_from}

-- ---- tests put together
pub cond-and : (a b : Bool) → cond a b false ≡ (a and b)
cond-and true b = refl
cond-and false b = refl

cond_true : (a : Bool) → cond a true false ≡ a
cond_true true = refl
cond_true false = refl

cond-swap : (a b : Bool) → cond a b false ≡ cond b a false
cond-swap true true = refl
cond-swap true false = refl
cond-swap false true = refl
cond-swap false false = refl

cond-cond : (a b x : Bool) → cond a (cond b x false) false ≡ cond (cond a b false) x false
cond-cond true b x = refl
cond-cond false b x = refl

-- ---- a number of digits is zero where all of them are
digit-nought : (n b : ℕ) → eqb (n * 256 + b) 0 ≡ cond (eqb n 0) (eqb b 0) false
digit-nought n b = go (eqb n 0) (eqb b 0) refl refl
  where
    go : (x y : Bool) → eqb n 0 ≡ x → eqb b 0 ≡ y → eqb (n * 256 + b) 0 ≡ cond x y false
    go true true e f = eq-eqb (n * 256 + b) 0 (omega (arith, eqb-true n 0 e, eqb-true b 0 f))
    go true false e f = ne_eqb (n * 256 + b) 0 (λ z. eqb-false b 0 f (omega (arith, z)))
    go false y e f = ne_eqb (n * 256 + b) 0 (λ z. eqb-false n 0 e (omega (arith, z)))

-- ---- two numbers put together are zero where both are
pub or-zero : (x y : ℕ) → eqb (bit_or x y) 0 ≡ cond (eqb x 0) (eqb y 0) false
or-zero x y = or-none x y ∙ sym (cond-and (eqb x 0) (eqb y 0))

-- ---- of four bytes put together, the last the highest, what the upper two are
upper_two : (a b c d : ℕ) → a < 256 → b < 256 → ltb 65535 (number_of (d ∷ c ∷ b ∷ a ∷ [])) ≡ not (eqb (d * 256 + c) 0)
upper_two a b c d ha hb = go (eqb (d * 256 + c) 0) refl
  where
    go : (x : Bool) → eqb (d * 256 + c) 0 ≡ x → ltb 65535 (number_of (d ∷ c ∷ b ∷ a ∷ [])) ≡ not x
    go true e = le-ltb 65535 (number_of (d ∷ c ∷ b ∷ a ∷ [])) (omega (arith, eqb-true (d * 256 + c) 0 e))
    go false e = lt-ltb 65535 (number_of (d ∷ c ∷ b ∷ a ∷ [])) (omega (arith, eqb-false (d * 256 + c) 0 e))

module _ (s : List ℕ) where
  -- ---- so many bytes, and so many right behind them
  pub noughts-join : (m n at : ℕ) → noughts s (m + n) at ≡ cond (noughts s m at) (noughts s n (at + m)) false
  unfolding noughts
  noughts-join zero n at = let z : 0 + n ≡ n = omega arith in rw (z, add-zero at) refl
  noughts-join (suc m) n at =
      let z : suc m + n ≡ suc (m + n) = omega arith in
      let y : at + suc m ≡ suc at + m = omega arith in
      rw (z, y) (ap (λ (x : Bool). cond (eqb (get_or s at 0) 0) x false) (noughts-join m n (suc at)) ∙ cond-cond (eqb (get_or s at 0) 0) (noughts s m (suc at)) (noughts s n (suc at + m)))

  -- x tells of some bytes, y of those right behind them: put together they tell of all; the same of the bytes from a place up to
  -- another, and on
  pub or-noughts : (m n at x y : ℕ) → eqb x 0 ≡ noughts s m at → eqb y 0 ≡ noughts s n (at + m) → eqb (bit_or x y) 0 ≡ noughts s (m + n) at
  or-noughts m n at x y e f = or-zero x y ∙ rw (e, f) (sym (noughts-join m n at))

  pub or-past : (w from at x y : ℕ) → from ≤ at → eqb x 0 ≡ noughts s (at - from) from → eqb y 0 ≡ noughts s w at → eqb (bit_or x y) 0 ≡ noughts s (at + w - from) from
  or-past w from at x y h e f =
      let z : at ≡ from + (at - from) = omega arith in
      let n : at - from + w ≡ at + w - from = omega arith in
      or-noughts (at - from) w from x y e (f ∙ ap (noughts s w) z) ∙ ap (λ (m : ℕ). noughts s m from) n

  pub noughts-none : (n at : ℕ) → n ≡ 0 → noughts s n at ≡ true
  unfolding noughts
  noughts-none n at e = rw e refl

  -- a byte
  pub byte-nought : (at : ℕ) → noughts s 1 at ≡ eqb (get_or s at 0) 0
  unfolding noughts
  byte-nought at = cond_true (eqb (get_or s at 0) 0)

  -- and one byte more
  pub or_byte : (m at x y : ℕ) → eqb x 0 ≡ noughts s m at → y ≡ get_or s (at + m) 0 → eqb (bit_or x y) 0 ≡ noughts s (m + 1) at
  or_byte m at x y e f = or-noughts m 1 at x y e (ap (λ (n : ℕ). eqb n 0) f ∙ sym (byte-nought (at + m)))

  -- ---- a number of some bytes, the last the highest; that of four
  behind-nought : (w n at : ℕ) → eqb n 0 ≡ noughts s w (suc at) → eqb (n * 256 + get_or s at 0) 0 ≡ noughts s (suc w) at
  unfolding noughts
  behind-nought w n at e = digit-nought n (get_or s at 0) ∙ cond-swap (eqb n 0) (eqb (get_or s at 0) 0) ∙ ap (λ (x : Bool). cond (eqb (get_or s at 0) 0) x false) e

  quad_nought : (at : ℕ) → eqb (number_of (get_or s (at + 3) 0 ∷ get_or s (at + 2) 0 ∷ get_or s (at + 1) 0 ∷ get_or s at 0 ∷ [])) 0 ≡ noughts s 4 at
  quad_nought at =
      let e1 : at + 1 ≡ suc at = omega arith in
      let e2 : at + 2 ≡ suc (suc at) = omega arith in
      let e3 : at + 3 ≡ suc (suc (suc at)) = omega arith in
      rw (e1, e2, e3) (behind-nought 3 _ at (behind-nought 2 _ (suc at) (behind-nought 1 _ (suc (suc at)) (sym (byte-nought (suc (suc (suc at))))))))

  -- the same of bytes that were read and put together, as `zeros::quad` does
  pub quad_put : (at r : ℕ) → Bytes s → r ≡ from_le_bytes w32 (get_or s at 0 ∷ get_or s (at + 1) 0 ∷ get_or s (at + 2) 0 ∷ get_or s (at + 3) 0 ∷ [])
      → (eqb r 0 ≡ noughts s 4 at) × (ltb 65535 r ≡ not (noughts s 2 (at + 2)))
  quad_put at r h e =
      let n : r ≡ number_of (get_or s (at + 3) 0 ∷ get_or s (at + 2) 0 ∷ get_or s (at + 1) 0 ∷ get_or s at 0 ∷ []) = e ∙ omega arith in
      let z : at + 3 ≡ suc (at + 2) = omega arith in
      let u : eqb (get_or s (at + 3) 0 * 256 + get_or s (at + 2) 0) 0 ≡ noughts s 2 (at + 2) =
      rw z (behind-nought 1 (get_or s (suc (at + 2)) 0) (at + 2) (sym (byte-nought (suc (at + 2))))) in (
        ap (λ (x : ℕ). eqb x 0) n ∙ quad_nought at,
        ap (ltb 65535) n ∙ upper_two (get_or s at 0) (get_or s (at + 1) 0) (get_or s (at + 2) 0) (get_or s (at + 3) 0) (h at) (h (at + 1)) ∙ ap not u,
      )

  -- ---- a number of some bytes; some numbers one after the other
  from-nought : (w n at : ℕ) → eqb (number_from n (part w at s)) 0 ≡ cond (eqb n 0) (noughts s w at) false
  unfolding noughts
  from-nought zero n at = sym (cond_true (eqb n 0))
  from-nought (suc w) n at = from-nought w (n * 256 + get_or s at 0) (suc at) ∙ ap (λ (x : Bool). cond x (noughts s w (suc at)) false) (digit-nought n (get_or s at 0)) ∙ sym (cond-cond (eqb n 0) (eqb (get_or s at 0) 0) (noughts s w (suc at)))

  pub number-nought : (w at : ℕ) → eqb (number_of (part w at s)) 0 ≡ noughts s w at
  unfolding noughts
  number-nought zero at = refl
  number-nought (suc w) at = from-nought w (get_or s at 0) (suc at)

  -- the numbers of two, four and five widths
  pub two-nought : (v w at : ℕ) → (eqb (number_of (part v at s)) 0 and eqb (number_of (part w (at + v) s)) 0) ≡ noughts s (v + w) at
  two-nought v w at = sym (cond-and (eqb (number_of (part v at s)) 0) (eqb (number_of (part w (at + v) s)) 0)) ∙ rw (number-nought v at, number-nought w (at + v)) (sym (noughts-join v w at))

  pub more-nought : (v n at : ℕ) {x : Bool} → x ≡ noughts s n (at + v) → (eqb (number_of (part v at s)) 0 and x) ≡ noughts s (v + n) at
  more-nought v n at {x} e = sym (cond-and (eqb (number_of (part v at s)) 0) x) ∙ rw (number-nought v at, e) (sym (noughts-join v n at))

  -- ---- a free place of the pool, a free place of the messages, no mail, nobody at a place of a line, a free subprogram
  free-nought : (at : ℕ) → is_free (request_from s at) ≡ noughts s 6 at
  free-nought at = more-nought 1 5 at (more-nought 1 4 (at + 1) (more-nought 2 2 (at + 1 + 1) (two-nought 1 1 (at + 1 + 1 + 2))))

  no_message_nought : (at : ℕ) → is_no_message (message_from s at) ≡ noughts s 11 at
  no_message_nought at = more-nought 1 10 at (more-nought 1 9 (at + 1) (two-nought 1 8 (at + 1 + 1)))

  pub no-mail-nought : (at : ℕ) → is_no_mail (mail_from s at) ≡ noughts s 9 at
  no-mail-nought at = two-nought 1 8 at

  nobody-nought : (at : ℕ) → is_nobody (place_from s at) ≡ noughts s 1 at
  nobody-nought at = number-nought 1 at

  -- ---- a row of blocks
  pub row-nought : {A : Type 0} (t : A → Bool) (f : ℕ → A) (w : ℕ) → ((at : ℕ) → t (f at) ≡ noughts s w at) → (n at : ℕ) → all_of t (blocks f w n at) ≡ noughts s (n * w) at
  unfolding blocks all_of noughts
  row-nought t f w h zero at = let z : 0 * w ≡ 0 = zero-mul w in rw z refl
  row-nought t f w h (suc n) at =
      let z : suc n * w ≡ w + n * w = suc-mul n w ∙ omega arith in
      rw (h at, row-nought t f w h n (at + w), z) (sym (noughts-join w (n * w) at))

  pub sub-nought : (at : ℕ) → is_free_sub (sub_from s at) ≡ noughts s 18 at
  sub-nought at =
      let l : eqb (length (line_from s (at + 2))) 16 ≡ true = eq-eqb _ _ (length-blocks (place_from s) 1 16 (at + 2)) in
      let y : at + 1 + 1 ≡ at + 2 = omega arith in
      let line : all_of is_nobody (line_from s (at + 2)) ≡ noughts s 16 (at + 1 + 1) = rw y (row-nought is_nobody (place_from s) 1 nobody-nought 16 (at + 2)) in
      rw l (more-nought 1 17 at (more-nought 1 16 (at + 1) line))

  -- ---- behind the first k of the pool's places, of the messages, and of the places of a line
  pub pool-nought : (k : ℕ) → k ≤ 32 → all_of is_free (drop k (pool_in s)) ≡ noughts s (896 - (704 + k * 6)) (704 + k * 6)
  unfolding load_of
  pool-nought k h =
      let z : (32 - k) * 6 ≡ 896 - (704 + k * 6) = omega arith in
      ap (all_of is_free) (blocks_from (request_from s) 6 32 704 k h) ∙ row-nought is_free (request_from s) 6 free-nought (32 - k) (704 + k * 6) ∙ ap (λ (n : ℕ). noughts s n (704 + k * 6)) z

  pub messages-nought : (k : ℕ) → k ≤ 32 → all_of is_no_message (drop k (messages_in s)) ≡ noughts s (1410 - (1058 + k * 11)) (1058 + k * 11)
  unfolding load_of
  messages-nought k h =
      let z : (32 - k) * 11 ≡ 1410 - (1058 + k * 11) = omega arith in
      ap (all_of is_no_message) (blocks_from (message_from s) 11 32 1058 k h) ∙ row-nought is_no_message (message_from s) 11 no_message_nought (32 - k) (1058 + k * 11) ∙ ap (λ (n : ℕ). noughts s n (1058 + k * 11)) z

  pub line-nought : (at k : ℕ) → k ≤ 16 → all_of is_nobody (drop k (line_from s at)) ≡ noughts s (at + 16 - (at + k)) (at + k)
  line-nought at k h =
      let z : (16 - k) * 1 ≡ at + 16 - (at + k) = omega arith in
      let y : at + k * 1 ≡ at + k = omega arith in
      ap (all_of is_nobody) (blocks_from (place_from s) 1 16 at k h) ∙ row-nought is_nobody (place_from s) 1 nobody-nought (16 - k) (at + k * 1) ∙ rw (z, y) refl
