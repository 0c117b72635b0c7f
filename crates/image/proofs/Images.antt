-- Parts that stand one behind the other: what the writes of them leave, and that each is read as it stands.
use Prim.Native.Nat.{ℕ, zero, suc, ◌+◌, ◌*◌, ◌≤◌, ◌<◌}
use mathlib.Core.Path.{◌≡◌, refl, sym, ap, ◌∙◌}
use mathlib.Core.List.{List, [], ◌∷◌, ◌++◌, append-nil, append_assoc}
use native.Mathlib.Omega.{arith}
use native.Mathlib.Nat.{add-zero, suc-mul, zero-mul, not-suc-le-zero, le_of_suc-le-suc}
use lib.ListN.{length, get_or, length-append}
use lib.Seq.{get_or-append_seam}
use Rattle.records.proofs.Assured.{promises}
use Rattle.records.specs.Numbers.{number_of, bytes_in, part, lay, cut, Fits}
use Rattle.image.specs.Blocks.{row, blocks, Each, written}
use Rattle.image.proofs.Digits.{length-bytes}
use Rattle.image.proofs.Spans.{and_then, written-whole, blocks-are}

-- ---- a buffer o that was written from its start on, and now is p: n bytes so far
pub record Filled (o p bs : List ℕ) (n : ℕ) : Type 0 where
  pub bytes : p ≡ written o 0 bs
  pub long : length bs ≡ n

-- one part more, of m bytes, right behind
pub fill : (o p q a b : List ℕ) (n m : ℕ) → Filled o p a n → q ≡ written p n b → length b ≡ m → n + m ≤ length o → Filled o q (a ++ b) (n + m)
fill o p q a b n m f e l h =
    let g = f.long in
    let k : n ≡ 0 + length a = omega arith in
    record { bytes = and_then o 0 a b f.bytes (e ∙ ap (λ i. written p i b) k) (omega arith); long = length-append a b ∙ omega arith }

-- the whole buffer
pub filled : (o p bs : List ℕ) (n : ℕ) → Filled o p bs n → length o ≡ n → p ≡ bs
filled o p bs n f l = f.bytes ∙ written-whole o bs (f.long ∙ sym l)

-- ---- bytes in the middle of others are read as they stand
part-middle : (p bs q : List ℕ) → part (length bs) (length p) (p ++ (bs ++ q)) ≡ bs
part-middle p [] q = refl
part-middle p (b ∷ bs) q =
    let l : suc (length p) ≡ length (p ++ (b ∷ [])) = sym (length-append p (b ∷ []) ∙ omega arith) in
    ap (λ x. x ∷ part (length bs) (suc (length p)) (p ++ (b ∷ (bs ++ q)))) (get_or-append_seam p b (bs ++ q) 0)
    ∙ ap (λ n. b ∷ part (length bs) n (p ++ (b ∷ (bs ++ q)))) l
    ∙ ap (λ s. b ∷ part (length bs) (length (p ++ (b ∷ []))) s) (sym (append_assoc p (b ∷ []) (bs ++ q)))
    ∙ ap (λ t. b ∷ t) (part-middle (p ++ (b ∷ [])) bs q)

-- numbers that fit their widths, laid and cut again: the same numbers
pub cut-lay : (ws xs p q : List ℕ) → Fits ws xs → cut ws (length p) (p ++ (lay ws xs ++ q)) ≡ xs
cut-lay [] [] p q h = refl
cut-lay [] (x ∷ xs) p q h = absurd h
cut-lay (w ∷ ws) [] p q h = absurd h
cut-lay (w ∷ ws) (x ∷ xs) p q h =
    let b = bytes_in w x in
    let s = p ++ ((b ++ lay ws xs) ++ q) in
    let l : length b ≡ w = length-bytes w x in
    let m : length p + w ≡ length (p ++ b) = sym (length-append p b ∙ ap (λ n. length p + n) l) in
    let e : s ≡ p ++ (b ++ (lay ws xs ++ q)) = ap (λ t. p ++ t) (append_assoc b (lay ws xs) q) in
    let f : s ≡ (p ++ b) ++ (lay ws xs ++ q) = e ∙ sym (append_assoc p b (lay ws xs ++ q)) in
    let g : part w (length p) s ≡ b =
    ap (part w (length p)) e ∙ ap (λ n. part n (length p) (p ++ (b ++ (lay ws xs ++ q)))) (sym l) ∙ part-middle p b (lay ws xs ++ q) in
    ap (λ y. y ∷ cut ws (length p + w) s) (ap number_of g ∙ promises.number-back w x h.0)
    ∙ ap (λ n. x ∷ cut ws n s) m
    ∙ ap (λ t. x ∷ cut ws (length (p ++ b)) t) f
    ∙ ap (λ t. x ∷ t) (cut-lay ws xs (p ++ b) q h.1)

-- ---- where the bytes r stand: s is n bytes, and then these
pub record At (s : List ℕ) (n : ℕ) (r : List ℕ) : Type 0 where
  pub before : List ℕ
  pub whole : s ≡ before ++ r
  pub long : length before ≡ n

pub at-start : (s : List ℕ) → At s 0 s
at-start s = record { before = []; whole = refl; long = refl }

-- those behind the first m of them
pub at_next : (s b r : List ℕ) (n m : ℕ) → At s n (b ++ r) → length b ≡ m → At s (n + m) r
at_next s b r n m z l =
    let g = z.long in
    record { before = z.before ++ b; whole = z.whole ∙ sym (append_assoc z.before b r); long = length-append z.before b ∙ omega arith }

pub at-end : (s b : List ℕ) (n : ℕ) → At s n b → At s n (b ++ [])
at-end s b n z = record { before = z.before; whole = z.whole ∙ ap (λ t. z.before ++ t) (sym (append-nil b)); long = z.long }

pub at_length : (s r : List ℕ) (n : ℕ) → At s n r → length s ≡ n + length r
at_length s r n z = ap length z.whole ∙ length-append z.before r ∙ ap (λ m. m + length r) z.long

pub at_parted : (s a b r : List ℕ) (n : ℕ) → At s n ((a ++ b) ++ r) → At s n (a ++ (b ++ r))
at_parted s a b r n z = record { before = z.before; whole = z.whole ∙ ap (λ t. z.before ++ t) (append_assoc a b r); long = z.long }

-- numbers that are read where they stand
pub cut_at : (ws xs r s : List ℕ) (n : ℕ) → At s n (lay ws xs ++ r) → Fits ws xs → cut ws n s ≡ xs
cut_at ws xs r s n z h = ap (λ k. cut ws k s) (sym z.long) ∙ ap (cut ws (length z.before)) z.whole ∙ cut-lay ws xs z.before r h

-- ---- elements of w bytes each, in a row: `read` reads of one, where it stands, what `value` says of it
module _ {A B : Type 0} (bytes : A → List ℕ) (w : ℕ) (P : A → Type 0) (size : (x : A) → P x → length (bytes x) ≡ w) (read : List ℕ → ℕ → B) (value : A → B)
    (back : (x : A) → P x → (s r : List ℕ) (n : ℕ) → At s n (bytes x ++ r) → read s n ≡ value x) where
  pub element_back : (xs : List A) (d : A) (s r : List ℕ) (n i : ℕ) → Each P xs → At s n (row bytes xs ++ r) → i < length xs → read s (n + i * w) ≡ value (get_or xs i d)
  unfolding row
  element_back [] d s r n i h z l = absurd (not-suc-le-zero l)
  element_back (x ∷ xs) d s r n zero h z l =
      ap (read s) (ap (λ k. n + k) (zero-mul w) ∙ add-zero n) ∙ back x h.0 s (row bytes xs ++ r) n (at_parted s (bytes x) (row bytes xs) r n z)
  element_back (x ∷ xs) d s r n (suc i) h z l =
      let y = at_next s (bytes x) (row bytes xs ++ r) n w (at_parted s (bytes x) (row bytes xs) r n z) (size x h.0) in
      let e : n + suc i * w ≡ n + w + i * w = rw (suc-mul i w) (omega arith) in
      ap (read s) e ∙ element_back xs d s r (n + w) i h.1 y (le_of_suc-le-suc l)

-- each element comes back
module _ {A : Type 0} (bytes : A → List ℕ) (w : ℕ) (P : A → Type 0) (size : (x : A) → P x → length (bytes x) ≡ w) (read : List ℕ → ℕ → A)
    (back : (x : A) → P x → (s r : List ℕ) (n : ℕ) → At s n (bytes x ++ r) → read s n ≡ x) where
  pub row_back : (xs : List A) (d : A) (s r : List ℕ) (n at : ℕ) → Each P xs → length xs ≡ n → At s at (row bytes xs ++ r) → blocks (read s) w n at ≡ xs
  row_back xs d s r n at h l z = blocks-are (read s) w xs d n at l (λ i k. element_back bytes w P size read (λ x. x) back xs d s r at i h z (omega arith))

-- elements that are made of their own numbers
module _ {A : Type 0} (ws : List ℕ) (numbers : A → List ℕ) (make : List ℕ → A) (back : (x : A) → make (numbers x) ≡ x) where
  pub blocks-back : (w : ℕ) → ((x : A) → length (lay ws (numbers x)) ≡ w) → (xs : List A) (d : A) (s r : List ℕ) (n at : ℕ) → Each (λ x. Fits ws (numbers x)) xs
      → length xs ≡ n → At s at (row (λ x. lay ws (numbers x)) xs ++ r) → blocks (λ i. make (cut ws i s)) w n at ≡ xs
  blocks-back w size =
      row_back (λ x. lay ws (numbers x)) w (λ x. Fits ws (numbers x)) (λ x h. size x) (λ s i. make (cut ws i s))
      (λ x h s r n z. ap make (cut_at ws (numbers x) r s n z h) ∙ back x)
