-- Which case of `write_number` and `image_after` holds, from what the code's tests give; and a record is written as the
-- call that is read from it.
use Prim.Native.Nat.{ℕ, ◌+◌}
use mathlib.Core.Path.{◌≡◌, sym, ap, ◌∙◌}
use mathlib.Core.Logic.{◌≢◌}
use mathlib.Core.Bool.{Bool, true, false, not, ◌||◌}
use mathlib.Core.List.{List, ◌∷◌, ◌++◌}
use native.Mathlib.Omega.{arith}
use lib.Dec.{eqb}
use lib.ListN.{length, take, drop}
use borrow.Author.Tests.{eq-eqb, ne_eqb, eqb-true, eqb-false}
use Rattle.records.proofs.Assured.{promises}
use Rattle.records.specs.Firsts.{Refusal, when, first_of}
use Rattle.records.specs.Kinds.{body_of, length_of}
use Rattle.records.specs.Calls.{kind_of_call, fields_of, got_of}
use Rattle.records.specs.Reading.{first_kind, read_of, read_as}
use Rattle.records.specs.declared.Kind.{Kind}
use Rattle.records.specs.declared.Kind.TheVariants as kind
use Rattle.records.specs.declared.Call.{Call}
use Rattle.records.specs.declared.Refusal.{Refusal as Why}
use Rattle.records.specs.declared.Refusal.TheVariants as why
use Rattle.records.specs.Refusals.{refusal_number, number_in, Got}
use Rattle.blocks.specs.Lists.{address_of}
use Rattle.blocks.specs.Types.{Form, form_of, is_none, length_in, to_block, block_of}
use Rattle.blocks.specs.Refusals.{is_outside, later, refusals, form_in, numbers_in}
use Rattle.blocks.specs.Writing.{form_for, image_by, write_refusals, write_number, image_after, WritesBlock, Lays}
use Rattle.blocks.specs.Writing.{record_refusals, record_number, record_image, WritesRecord}
use Rattle.blocks.proofs.Places.{decide, clash}
use Rattle.blocks.proofs.Forms.{sound-of, name_of, call_length_lem, is_call}
use Rattle.blocks.proofs.Through.{through-length}
use Rattle.blocks.proofs.reading.Laws.{cut-length}
use Rattle.std.specs.Prelude.{Ok, Err}

-- ---- a block that is laid
-- a call that has a block has a number for each use
pub uses-length : (c : Call) → is_none (form_for c) ≡ false → length (fields_of c) ≡ length (form_for c).uses
uses-length c e =
    call_length_lem c
    ∙ ap (λ k. length (body_of k)) (sym (name_of (kind_of_call c) e))
    ∙ (sound-of (kind_of_call c)).body
    ∙ sym (sound-of (kind_of_call c)).alike

module _ (l : List ℕ) (c : Call) (w : ℕ) (e : is_none (form_for c) ≡ false) where
  pub laid-length : length (to_block (form_for c) l w (fields_of c)) ≡ length (form_for c).widths
  laid-length =
      through-length (address_of l) w (form_for c).uses (fields_of c) (uses-length c e) ∙ (sound-of (kind_of_call c)).alike

  pub block-length : length (block_of (form_for c) l w (fields_of c)) ≡ length_in (form_for c)
  block-length =
      let h = promises.lay-length (form_for c).widths (to_block (form_for c) l w (fields_of c)) laid-length in omega arith

-- ---- by the number
keeps : (n : ℕ) (s : List ℕ) (a : ℕ) (l : List ℕ) (f : Form) (w : ℕ) (xs : List ℕ) → (n ≡ 0 → ⊥) → s ≡ image_by n s a l f w xs
keeps n s a l f w xs z = rw (ne_eqb n 0 z)

module _ (s : List ℕ) (a : ℕ) (l : List ℕ) (w : ℕ) where
  pub write_no : (c : Call) (n : ℕ) → n ≡ first_of (write_refusals s a l c) → (n ≡ 0 → ⊥) → WritesBlock s a l c w s n
  unfolding write_number image_after
  write_no c n e z = record {
    number = e;
    image = keeps n s a l (form_for c) w (fields_of c) z ∙ ap (λ m. image_by m s a l (form_for c) w (fields_of c)) e;
  }

  pub write_yes : (c : Call) (bs t : List ℕ) (n : ℕ) → 0 ≡ first_of (write_refusals s a l c) → is_none (form_for c) ≡ false
      → Lays l c w bs n → t ≡ take a s ++ (take n bs ++ drop (a + n) s) → WritesBlock s a l c w t 0
  unfolding write_number image_after
  write_yes c bs t n e h y p =
      let b = block_of (form_for c) l w (fields_of c) in
      let k : n ≡ length b = y.size ∙ rw h (sym (block-length l c w h)) in
      record {
        number = e;
        image = p
            ∙ ap (λ x. take a s ++ (x ++ drop (a + n) s)) (y.block h)
            ∙ ap (λ m. take a s ++ (b ++ drop (a + m) s)) k
            ∙ ap (λ m. image_by m s a l (form_for c) w (fields_of c)) e;
      }

-- ---- of a record's bytes
pub has-length : (k : Kind) → is_none (form_of k) ≡ false → length_of k ≢ 0
unfolding form_of
has-length kind.Unknown e = clash e
has-length kind.Terminate e = λ z. omega arith
has-length kind.Restart e = λ z. omega arith
has-length kind.Pause e = λ z. omega arith
has-length kind.CancelPause e = clash e
has-length kind.StartIfDormant e = clash e
has-length kind.StartOrQueue e = λ z. omega arith
has-length kind.Flag e = clash e
has-length kind.Wait e = clash e
has-length kind.Alarm e = clash e
has-length kind.Tick e = clash e
has-length kind.Granule e = clash e
has-length kind.Task e = clash e
has-length kind.End e = clash e
has-length kind.Enter e = clash e
has-length kind.Exit e = clash e
has-length kind.Send e = clash e
has-length kind.Receive e = clash e

pub refused : {P : Type 0} (r : Why) (c : Call) → ◌≡◌ {A = Got} (Err r) (Ok c) → P
refused r c e = let z : ◌≡◌ {A = ℕ} 0 1 = cc in absurd (omega arith)

-- a record that is read as a call: it is not empty, its length is its kind's, and the call is of its kind and numbers
pub record Holds (bs : List ℕ) (c : Call) : Type 0 where
  pub some : length bs ≢ 0
  pub whole : length bs ≡ length_of (first_kind bs)
  pub kind : kind_of_call c ≡ first_kind bs
  pub numbers : fields_of c ≡ numbers_in bs

pub holds : (bs : List ℕ) (c : Call) → read_of bs ≡ Ok c → Holds bs c
unfolding read_of read_as
holds bs c e =
    let k = first_kind bs in
    decide (eqb (length bs) 0)
    (λ t. refused why.WrongLength c (rw t at e))
    (λ f.
    decide (eqb (length_of k) 0)
    (λ t. refused why.UnknownKind c (rw (f, t) at e))
    (λ g.
    decide (eqb (length bs) (length_of k))
    (λ t.
    let h : got_of k (numbers_in bs) ≡ Ok c = rw (f, g, t) at e in
    let q = promises.call-parts k (numbers_in bs) c (cut-length (body_of k) 1 bs) h in
    record { some = eqb-false (length bs) 0 f; whole = eqb-true (length bs) (length_of k) t; kind = q.0; numbers = q.1 })
    (λ m. refused why.WrongLength c (rw (f, g, m) at e))))

-- a record that is not empty and has its kind's length is judged as its form and numbers are
dropped : (b c d : Bool) → d ≡ false → (e : Bool) → e ≡ true → (rs : List Refusal)
    → first_of (when 18 b ∷ when 4 (d || c) ∷ when 3 (not e) ∷ rs) ≡ first_of (when 18 b ∷ when 4 c ∷ rs)
unfolding first_of
dropped b c d f e t rs = rw (f, t)

-- what is refused with a number is that number
number : (r : Why) → ◌≡◌ {A = Got} (Err why.WrongLength) (Err r) → refusal_number r ≡ 3
number r e = sym (ap number_in e)

module _ (s : List ℕ) (a : ℕ) (l : List ℕ) (bs : List ℕ) where
  -- a record is judged as its call
  pub record_first : (c : Call) → read_of bs ≡ Ok c → first_of (record_refusals s a l bs) ≡ first_of (write_refusals s a l c)
  record_first c e =
      let h = holds bs c e in
      judged h ∙ (λ i. first_of (refusals (length s) a l (form_of (sym h.kind i)) (sym h.numbers i)))
    where
      judged : Holds bs c → first_of (record_refusals s a l bs) ≡ first_of (refusals (length s) a l (form_in bs) (numbers_in bs))
      judged h =
          let n = length_of (first_kind bs) in
          dropped (is_outside (length s) a) (is_none (form_in bs)) (eqb (length bs) 0) (ne_eqb (length bs) 0 h.some)
          (eqb (length bs) n) (eq-eqb (length bs) n h.whole) (later (length s) a l (form_in bs) (numbers_in bs))

  pub record_out : (c : Call) (w : ℕ) → read_of bs ≡ Ok c → record_image s a l bs w ≡ image_after s a l c w
  unfolding record_image image_after record_number write_number
  record_out c w e =
      let h = holds bs c e in
      ap (λ n. image_by n s a l (form_in bs) w (numbers_in bs)) (record_first c e)
      ∙ (λ i. image_by (first_of (write_refusals s a l c)) s a l (form_of (sym h.kind i)) w (sym h.numbers i))

  pub as_record : (c : Call) (w : ℕ) (t : List ℕ) (n : ℕ) → read_of bs ≡ Ok c → WritesBlock s a l c w t n → WritesRecord s a l bs w t n
  unfolding record_number write_number
  as_record c w t n e y = record { number = y.number ∙ sym (record_first c e); image = y.image ∙ sym (record_out c w e) }

  pub record_no : (w n : ℕ) → n ≡ first_of (record_refusals s a l bs) → (n ≡ 0 → ⊥) → WritesRecord s a l bs w s n
  unfolding record_number record_image
  record_no w n e z = record {
    number = e;
    image = keeps n s a l (form_in bs) w (numbers_in bs) z ∙ ap (λ m. image_by m s a l (form_in bs) w (numbers_in bs)) e;
  }

  pub record_outside : is_outside (length s) a ≡ true → 18 ≡ first_of (record_refusals s a l bs)
  unfolding first_of
  record_outside e = rw e

  module _ (i : is_outside (length s) a ≡ false) where
    pub record_empty : length bs ≡ 0 → 4 ≡ first_of (record_refusals s a l bs)
    unfolding first_of
    record_empty e = rw (i, eq-eqb (length bs) 0 e)

    module _ (m : length bs ≡ 0 → ⊥) where
      pub record_none : is_none (form_in bs) ≡ true → 4 ≡ first_of (record_refusals s a l bs)
      unfolding first_of
      record_none e = rw (i, ne_eqb (length bs) 0 m, e)

      -- a record of a kind that has a block, and that is no call, has another length
      pub record_misfit : (r : Why) → is_none (form_in bs) ≡ false → read_of bs ≡ Err r
          → (refusal_number r ≡ 3) × (refusal_number r ≡ first_of (record_refusals s a l bs))
      unfolding first_of read_of read_as
      record_misfit j e r =
          let k = first_kind bs in
          let f = ne_eqb (length bs) 0 m in
          let g = ne_eqb (length_of k) 0 (has-length k e) in
          decide (eqb (length bs) (length_of k))
          (λ t.
          let h : got_of k (numbers_in bs) ≡ Err j = rw (f, g, t) at r in
          let q = is_call k e (numbers_in bs) in
          refused j q.0 (sym h ∙ q.1))
          (λ t. let h : ◌≡◌ {A = Got} (Err why.WrongLength) (Err j) = rw (f, g, t) at r in (number j h, rw (i, f, e, t) (number j h)))
