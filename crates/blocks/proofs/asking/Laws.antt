-- One more address of a list that is read from a head; whether a head is one; and which case of an answer holds.
use Prim.Native.Nat.{ℕ, zero, suc, ◌+◌, ◌*◌, ◌-◌, ◌≤◌, ◌<◌}
use mathlib.Core.Path.{◌≡◌, refl, sym, ap, ◌∙◌}
use mathlib.Core.Bool.{true, false, not}
use mathlib.Core.List.{List, [], ◌∷◌, ◌++◌}
use native.Mathlib.Numerals.{add-one}
use native.Mathlib.Omega.{arith}
use lib.Dec.{eqb, ltb}
use lib.ListN.{length, get_or, take, drop, set, replicate}
use lib.Seq.{take-suc-set, length-take-le}
use borrow.Author.Tests.{lt-ltb, le-ltb, eq-eqb, ne_eqb, not-false, eqb-true}
use Rattle.records.specs.Numbers.{number_of, part, cut}
use Rattle.records.specs.Writing.{written_of, out_of}
use Rattle.records.specs.declared.Call.{Call}
use Rattle.records.specs.declared.Refusal.{Refusal}
use Rattle.records.specs.Refusals.{refusal_number, number_in, Got, Written}
use Rattle.blocks.specs.Reading.{block_in}
use Rattle.blocks.specs.Writing.{record_number, record_image, WritesRecord}
use Rattle.blocks.specs.Asking.{address_in, beside_in, count_in, list_in, record_at, end_of, record_in, is_no_head}
use Rattle.blocks.specs.Asking.{read_in, answer_number, answer_image, answer_record, Answers, Lists}
use Rattle.blocks.proofs.Places.{neither}
use Rattle.std.specs.Prelude.{Ok, Err}

-- ---- the list
words_more : (q : List ℕ) (n i : ℕ) → cut (replicate (suc n) 2) i q ≡ cut (replicate n 2) i q ++ (number_of (part 2 (i + 2 * n) q) ∷ [])
words_more q zero i = let e : i ≡ i + 2 * 0 = omega arith in ap (λ k. number_of (part 2 k q) ∷ []) e
words_more q (suc n) i =
    let e : i + 2 + 2 * n ≡ i + 2 * suc n = omega arith in
    ap (λ t. number_of (part 2 i q) ∷ t)
    (words_more q n (i + 2) ∙ ap (λ k. cut (replicate n 2) (i + 2) q ++ (number_of (part 2 k q) ∷ [])) e)

pub list-turn : (q r : List ℕ) (i v : ℕ) → i < length r → take i r ≡ cut (replicate i 2) 8 q
    → v ≡ number_of (get_or q (8 + 2 * i) 0 ∷ get_or q (9 + 2 * i) 0 ∷ []) → take (i + 1) (set r i v) ≡ cut (replicate (i + 1) 2) 8 q
list-turn q r i v h e f =
    let n : 9 + 2 * i ≡ suc (8 + 2 * i) = omega arith in
    rw (add-one i)
    (take-suc-set r i v h
    ∙ ap (λ t. t ++ (v ∷ [])) e
    ∙ ap (λ x. cut (replicate i 2) 8 q ++ (x ∷ [])) (f ∙ ap (λ k. number_of (get_or q (8 + 2 * i) 0 ∷ get_or q k 0 ∷ [])) n)
    ∙ sym (words_more q i 8))

-- the list, from an array that begins with it; and the record
pub list-is : (q r : List ℕ) (n : ℕ) → n ≡ count_in q → Lists q r → take n r ≡ list_in q
list-is q r n e y = ap (λ k. take k r) e ∙ y.begins

pub count-is : (q r : List ℕ) (n : ℕ) → n ≤ 255 → Lists q r → n ≡ length (take n r)
count-is q r n h y = let z = y.size in sym (length-take-le n r (omega arith))

pub record_is : (q : List ℕ) (a e : ℕ) → a ≡ record_at q → e ≡ end_of q → take (e - a) (drop a q) ≡ record_in q
record_is q a e f h =
    let n : e - a ≡ get_or q (8 + 2 * count_in q) 0 = omega arith in
    (λ i. take (n i) (drop (f i) q))

-- what is read, by the numbers that the code has
pub read_is : (q s : List ℕ) (a : ℕ) (l : List ℕ) (g : ℕ) → a ≡ address_in q → l ≡ list_in q → g ≡ beside_in q → (r : Got)
    → r ≡ block_in s a l g → read_in q s ≡ r
read_is q s a l g ea el eg r e = (λ i. block_in s (sym ea i) (sym el i) (sym eg i)) ∙ sym e

-- ---- the head
pub no_way : (q : List ℕ) → 1 < get_or q 0 0 → true ≡ is_no_head q
unfolding is_no_head
no_way q h = rw (lt-ltb 1 (get_or q 0 0) h)

pub by_length : (q : List ℕ) (e : ℕ) → e ≡ end_of q → get_or q 0 0 ≤ 1 → not (eqb (length q) e) ≡ is_no_head q
unfolding is_no_head
by_length q e f h = rw (le-ltb 1 (get_or q 0 0) h) (ap (λ n. not (eqb (length q) n)) f)

-- a head ends where it says
pub ends : (q : List ℕ) → is_no_head q ≡ false → length q ≡ end_of q
unfolding is_no_head
ends q e =
    let h = neither (ltb 1 (get_or q 0 0)) (not (eqb (length q) (end_of q))) e in
    eqb-true (length q) (end_of q) (not-false (eqb (length q) (end_of q)) h.1)

-- ---- the answer
module _ (q s o : List ℕ) where
  pub not-asked : is_no_head q ≡ true → Answers q s o s o 3
  unfolding answer_number answer_image answer_record
  not-asked e = record { number = rw e refl; image = rw e refl; «record» = rw e refl }

  module _ (e : is_no_head q ≡ false) where
    pub asked_write : (a : ℕ) (l bs : List ℕ) (g : ℕ) (t : List ℕ) (n : ℕ) → get_or q 0 0 ≡ 1 → a ≡ address_in q → l ≡ list_in q
        → bs ≡ record_in q → g ≡ beside_in q → WritesRecord s a l bs g t n → Answers q s o t o n
    unfolding answer_number answer_image answer_record
    asked_write a l bs g t n w ea el eb eg y =
        let b = eq-eqb (get_or q 0 0) 1 w in
        record {
          number = rw (e, b) (y.number ∙ (λ i. record_number s (ea i) (el i) (eb i)));
          image = rw (e, b) (y.image ∙ (λ i. record_image s (ea i) (el i) (eb i) (eg i)));
          «record» = rw (e, b) refl;
        }

    module _ (w : get_or q 0 0 ≡ 1 → ⊥) where
      pub read_no : (r : Refusal) → read_in q s ≡ Err r → Answers q s o s o (refusal_number r)
      unfolding answer_number answer_image answer_record
      read_no j r =
          let b = ne_eqb (get_or q 0 0) 1 w in
          record { number = rw (e, b, r) refl; image = rw (e, b) refl; «record» = rw (e, b, r) refl }

      module _ (c : Call) (p : List ℕ) (r : read_in q s ≡ Ok c) (y : p ≡ out_of c o) where
        pub read_told : (w : Written) → w ≡ written_of c o → Answers q s o s p (number_in w)
        unfolding answer_number answer_image answer_record
        read_told x h =
            let b = ne_eqb (get_or q 0 0) 1 w in
            record { number = rw (e, b, r) (ap number_in h); image = rw (e, b) refl; «record» = rw (e, b, r) y }
