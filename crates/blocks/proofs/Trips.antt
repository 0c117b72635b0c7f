-- Both round trips, what stays, and when each number is given: each over all types of blocks at once.
use Prim.Native.Nat.{ℕ, suc, ◌+◌, ◌≤◌}
use mathlib.Core.Path.{◌≡◌, refl, sym, ap, ◌∙◌}
use mathlib.Core.Logic.{◌≢◌}
use mathlib.Core.Bool.{Bool, true, false, not, ◌||◌}
use mathlib.Core.List.{List, [], ◌∷◌, ◌++◌}
use native.Mathlib.Omega.{arith}
use lib.Dec.{eqb, ltb}
use lib.ListN.{length, get_or, take, drop}
use borrow.Author.Tests.{ne_eqb, eqb-true, eqb-false, not-false}
use Rattle.records.proofs.Assured.{promises}
use Rattle.records.specs.Firsts.{Refusal, when, first_of, Decides}
use Rattle.records.specs.Numbers.{Bytes, part, total, lay, cut}
use Rattle.records.specs.Kinds.{length_of}
use Rattle.records.specs.Calls.{kind_of_call, fields_of, got_of}
use Rattle.records.specs.Reading.{first_kind, read_of, read_as, read_number}
use Rattle.records.specs.Refusals.{refusal_number, refusal_for}
use Rattle.records.specs.declared.Call.{Call}
use Rattle.blocks.specs.Lists.{task_of, address_of, is_bad}
use Rattle.blocks.specs.Types.{Form, form_at, form_of, is_none, length_in, unlisted, to_call, to_block, block_of, numbers_at}
use Rattle.blocks.specs.Refusals.{is_outside, later, refusals, numbers_in, form_in as formOfRecord}
use Rattle.blocks.specs.Reading.{form_in, fields_in, work_in, read_refusals, got_by, block_in}
use Rattle.blocks.specs.Writing.{form_for, argument_of, laid_at, image_by, write_refusals, write_number, image_after, record_refusals, record_number, record_image}
use Rattle.blocks.specs.Promises.{Others, AsCall}
use Rattle.blocks.proofs.Places.{decide, neither, not-bad, clash}
use Rattle.blocks.proofs.Forms.{sound-at, sound-of, name_of, byte_at, is_call}
use Rattle.blocks.proofs.Through.{there_back, calls_back, blocks-back}
use Rattle.blocks.proofs.Judged.{inside, Accepted, accepted}
use Rattle.blocks.proofs.Laid.{others, first_byte, after-byte, laid-again, laid-length as image-length}
use Rattle.blocks.proofs.reading.Laws.{numbers-length, same-form}
use Rattle.blocks.proofs.writing.Laws.{refused, has-length, uses-length, laid-length, block-length, record_first, record_out}
use Rattle.std.specs.Prelude.{Ok}

-- ---- writing and reading
-- reading, where the block's form, its call's numbers and that nothing refuses them are known by equations
read_by : (t : List ℕ) (a : ℕ) (l : List ℕ) (g : ℕ) (f : Form) (xs : List ℕ) → form_in t a ≡ f → to_call f l g (numbers_at f t a) ≡ xs
    → first_of (refusals (length t) a l f xs) ≡ 0 → block_in t a l g ≡ got_of f.name xs
unfolding block_in
read_by t a l g f xs ef ex en =
    ap (λ (k : Form). got_by (first_of (refusals (length t) a l k (to_call k l g (numbers_at k t a)))) k (to_call k l g (numbers_at k t a))) ef
    ∙ ap (λ ys. got_by (first_of (refusals (length t) a l f ys)) f ys) ex
    ∙ ap (λ n. got_by n f xs) en

module _ (s : List ℕ) (a : ℕ) (l : List ℕ) (c : Call) (w : ℕ) (e : first_of (write_refusals s a l c) ≡ 0) where
  ok : Accepted (length s) a l (form_for c) (fields_of c)
  ok = accepted (length s) a l (form_for c) (fields_of c) e

  fits : a + length (block_of (form_for c) l w (fields_of c)) ≤ length s
  fits = let n = block-length l c w ok.some in let h = ok.fits in omega arith

  at-start : a ≤ length s
  at-start = let i = inside (length s) a ok.within in omega arith

  laid : image_after s a l c w ≡ laid_at s a (block_of (form_for c) l w (fields_of c))
  unfolding image_after write_number
  laid = ap (λ n. image_by n s a l (form_for c) w (fields_of c)) e

  there : form_in (laid_at s a (block_of (form_for c) l w (fields_of c))) a ≡ form_for c
  there =
      ap form_at (first_byte s a (form_for c).byte (lay (form_for c).widths (to_block (form_for c) l w (fields_of c))) at-start)
      ∙ (sound-of (kind_of_call c)).found

  cut_out : numbers_at (form_for c) (laid_at s a (block_of (form_for c) l w (fields_of c))) a ≡ to_block (form_for c) l w (fields_of c)
  cut_out =
      let f = form_for c in
      let xs = to_block f l w (fields_of c) in
      let p = take a s ++ (f.byte ∷ []) in
      let q = drop (a + suc (length (lay f.widths xs))) s in
      let z = after-byte s a f.byte (lay f.widths xs) at-start in
      ap (λ t. cut f.widths (a + 1) t) z.1
      ∙ ap (λ n. cut f.widths n (p ++ (lay f.widths xs ++ q))) (sym z.0)
      ∙ promises.cut-lay f.widths xs p q (sound-of (kind_of_call c)).wide (laid-length l c w ok.some)

  comes_back : to_call (form_for c) l (argument_of c) (to_block (form_for c) l w (fields_of c)) ≡ fields_of c
  comes_back =
      there_back (address_of l) (task_of l) w (form_for c).uses (fields_of c) (sound-of (kind_of_call c)).alone (uses-length c ok.some)
      (calls_back l (form_for c).uses (fields_of c) (not-bad l ok.good).1 ok.tasks)

  written : block_in (image_after s a l c w) a l (argument_of c) ≡ Ok c
  written =
      let t = laid_at s a (block_of (form_for c) l w (fields_of c)) in
      let n : length t ≡ length s = image-length s a (block_of (form_for c) l w (fields_of c)) fits in
      ap (λ u. block_in u a l (argument_of c)) laid
      ∙ read_by t a l (argument_of c) (form_for c) (fields_of c) there
      (ap (to_call (form_for c) l (argument_of c)) cut_out ∙ comes_back)
      (ap (λ m. first_of (refusals m a l (form_for c) (fields_of c))) n ∙ e)
      ∙ ap (λ k. got_of k (fields_of c)) (name_of (kind_of_call c) ok.some)
      ∙ promises.call-whole c

  stays : Others s a (length_in (form_for c)) (image_after s a l c w)
  stays =
      rw laid
      (ap_others (block-length l c w ok.some) (others s a (block_of (form_for c) l w (fields_of c)) fits))
    where
      ap_others : length (block_of (form_for c) l w (fields_of c)) ≡ length_in (form_for c)
          → Others s a (length (block_of (form_for c) l w (fields_of c))) (laid_at s a (block_of (form_for c) l w (fields_of c)))
          → Others s a (length_in (form_for c)) (laid_at s a (block_of (form_for c) l w (fields_of c)))
      ap_others n o = record { size = o.size; before = o.before; behind = λ i h. o.behind i (omega arith) }

pub write_read : (s : List ℕ) (a : ℕ) (l : List ℕ) (c : Call) (w : ℕ) → write_number s a l c ≡ 0
    → block_in (image_after s a l c w) a l (argument_of c) ≡ Ok c
unfolding write_number
write_read s a l c w e = written s a l c w e

pub refusal-keeps : (s : List ℕ) (a : ℕ) (l : List ℕ) (c : Call) (w : ℕ) → write_number s a l c ≢ 0 → image_after s a l c w ≡ s
unfolding image_after
refusal-keeps s a l c w z = rw (ne_eqb (write_number s a l c) 0 z)

pub record_keeps : (s : List ℕ) (a : ℕ) (l bs : List ℕ) (w : ℕ) → record_number s a l bs ≢ 0 → record_image s a l bs w ≡ s
unfolding record_image
record_keeps s a l bs w z = rw (ne_eqb (record_number s a l bs) 0 z)

pub others-stay : (s : List ℕ) (a : ℕ) (l : List ℕ) (c : Call) (w : ℕ) → Others s a (length_in (form_for c)) (image_after s a l c w)
unfolding write_number
others-stay s a l c w =
    decide (eqb (write_number s a l c) 0)
    (λ t. stays s a l c w (eqb-true (write_number s a l c) 0 t))
    (λ f.
    rw (refusal-keeps s a l c w (eqb-false (write_number s a l c) 0 f))
    (record { size = refl; before = λ i h. refl; behind = λ i h. refl }))

-- ---- reading and writing
module _ (s : List ℕ) (a : ℕ) (l : List ℕ) (g : ℕ) where
  -- a call is read only where nothing refuses it
  accepts : (c : Call) → block_in s a l g ≡ Ok c
      → (first_of (read_refusals s a l g) ≡ 0) × (got_of (form_in s a).name (fields_in s a l g) ≡ Ok c)
  unfolding block_in
  accepts c e =
      decide (eqb (first_of (read_refusals s a l g)) 0)
      (λ t. (eqb-true (first_of (read_refusals s a l g)) 0 t, rw t at e))
      (λ f. refused (refusal_for (first_of (read_refusals s a l g))) c (rw f at e))

  module _ (h : Bytes s) (e : first_of (read_refusals s a l g) ≡ 0) where
    fine : Accepted (length s) a l (form_in s a) (fields_in s a l g)
    fine = accepted (length s) a l (form_in s a) (fields_in s a l g) e

    goes_back : to_block (form_in s a) l (work_in s a) (fields_in s a l g) ≡ numbers_at (form_in s a) s a
    goes_back =
        there_back (task_of l) (address_of l) g (form_in s a).uses (numbers_at (form_in s a) s a) (sound-at (get_or s a 0)).alone (numbers-length s a l g)
        (blocks-back l g (form_in s a).uses (numbers_at (form_in s a) s a) fine.tasks)

    again : laid_at s a (block_of (form_in s a) l (work_in s a) (fields_in s a l g)) ≡ s
    again =
        let f = form_in s a in
        let k = fine.fits in
        ap (λ xs. laid_at s a (f.byte ∷ lay f.widths xs)) goes_back
        ∙ ap (λ ys. laid_at s a (f.byte ∷ ys)) (promises.lay-cut s h f.widths (a + 1))
        ∙ ap (λ b. laid_at s a (b ∷ part (total f.widths) (a + 1) s)) (byte_at (get_or s a 0) fine.some)
        ∙ laid-again s a (total f.widths) (omega arith)

pub read_write : (s : List ℕ) (a : ℕ) (l : List ℕ) (g : ℕ) (c : Call) → Bytes s → block_in s a l g ≡ Ok c
    → (write_number s a l c ≡ 0) × (image_after s a l c (work_in s a) ≡ s)
unfolding write_number image_after
read_write s a l g c h e =
    let q = accepts s a l g c e in
    let x = same-form s a l g c q.1 in
    let n : first_of (write_refusals s a l c) ≡ 0 = (λ i. first_of (refusals (length s) a l (x.0 i) (x.1 i))) ∙ q.0 in (
      n,
      ap (λ m. image_by m s a l (form_for c) (work_in s a) (fields_of c)) n
          ∙ (λ i. laid_at s a (block_of (x.0 i) l (work_in s a) (x.1 i)))
          ∙ again s a l g h q.0,
    )

-- ---- records
pub as_call : (s : List ℕ) (a : ℕ) (l bs : List ℕ) (c : Call) → read_of bs ≡ Ok c → AsCall s a l bs c
unfolding record_number write_number
as_call s a l bs c e = record { number = record_first s a l bs c e; image = λ w. record_out s a l bs c w e }

first_three : (b c d : Bool) (rs : List Refusal) → first_of (when 18 b ∷ when 4 c ∷ when 3 d ∷ rs) ≡ 0 → (c ≡ false) × (d ≡ false)
unfolding first_of
first_three true c d rs h = absurd (omega arith)
first_three false true d rs h = absurd (omega arith)
first_three false false true rs h = absurd (omega arith)
first_three false false false rs h = (refl, refl)

read_whole : (bs : List ℕ) (c : Call) → eqb (length bs) 0 ≡ false → eqb (length_of (first_kind bs)) 0 ≡ false
    → eqb (length bs) (length_of (first_kind bs)) ≡ true → got_of (first_kind bs) (numbers_in bs) ≡ Ok c → read_of bs ≡ Ok c
unfolding read_of read_as
read_whole bs c e f g h = rw (e, f, g) h

pub call_in : (s : List ℕ) (a : ℕ) (l bs : List ℕ) → record_number s a l bs ≡ 0 → (c : Call) × (read_of bs ≡ Ok c)
unfolding record_number
call_in s a l bs e =
    let k = first_kind bs in
    let q = first_three (is_outside (length s) a) (eqb (length bs) 0 || is_none (formOfRecord bs)) (not (eqb (length bs) (length_of k)))
    (later (length s) a l (formOfRecord bs) (numbers_in bs)) e in
    let o = neither (eqb (length bs) 0) (is_none (formOfRecord bs)) q.0 in
    let m = not-false (eqb (length bs) (length_of k)) q.1 in
    let z = ne_eqb (length_of k) 0 (has-length k o.1) in
    let c = is_call k o.1 (numbers_in bs) in
    (c.0, read_whole bs c.0 o.0 z m c.1)

-- ---- when each number is given
module _ (n a : ℕ) (l : List ℕ) (f : Form) (xs : List ℕ) where
  decides : Decides (refusals n a l f xs) (first_of (refusals n a l f xs))
  decides = promises.first-decides (refusals n a l f xs)
      (λ e. omega arith, (λ e. omega arith, (λ e. omega arith, (λ e. omega arith, (λ e. omega arith, tt)))))

pub write_decides : (s : List ℕ) (a : ℕ) (l : List ℕ) (c : Call) → Decides (write_refusals s a l c) (write_number s a l c)
unfolding write_number
write_decides s a l c = decides (length s) a l (form_for c) (fields_of c)

pub record_decides : (s : List ℕ) (a : ℕ) (l bs : List ℕ) → Decides (record_refusals s a l bs) (record_number s a l bs)
unfolding record_number
record_decides s a l bs = promises.first-decides (record_refusals s a l bs)
    (λ e. omega arith, (λ e. omega arith, (λ e. omega arith, (λ e. omega arith, (λ e. omega arith, (λ e. omega arith, tt))))))

-- each number of the list is a refusal's own
told : (b c d e f : Bool) → eqb (first_of (when 18 b ∷ when 4 c ∷ when 18 d ∷ when 19 e ∷ when 21 f ∷ [])) 0 ≡ false
    → refusal_number (refusal_for (first_of (when 18 b ∷ when 4 c ∷ when 18 d ∷ when 19 e ∷ when 21 f ∷ [])))
    ≡ first_of (when 18 b ∷ when 4 c ∷ when 18 d ∷ when 19 e ∷ when 21 f ∷ [])
unfolding first_of
told true c d e f h = refl
told false true d e f h = refl
told false false true e f h = refl
told false false false true f h = refl
told false false false false true h = refl
told false false false false false h = clash h

-- what is read carries the first's number
read_first : (s : List ℕ) (a : ℕ) (l : List ℕ) (g : ℕ) → read_number (block_in s a l g) ≡ first_of (read_refusals s a l g)
unfolding block_in
read_first s a l g =
    let n = first_of (read_refusals s a l g) in
    let f = form_in s a in
    decide (eqb n 0)
    (λ t.
    let z = eqb-true n 0 t in
    let k = accepted (length s) a l f (fields_in s a l g) z in
    let named : is_none (form_of f.name) ≡ false = ap is_none (sound-at (get_or s a 0)).named ∙ k.some in
    let c = is_call f.name named (fields_in s a l g) in
    rw t (ap read_number c.1 ∙ sym z))
    (λ u. rw u (told (is_outside (length s) a) (is_none f) (ltb (length s) (a + length_in f)) (is_bad l || unlisted (length l) f.uses (fields_in s a l g)) (f.otherwise (fields_in s a l g)) u))

pub read-decides : (s : List ℕ) (a : ℕ) (l : List ℕ) (g : ℕ) → Decides (read_refusals s a l g) (read_number (block_in s a l g))
read-decides s a l g = rw (read_first s a l g) (decides (length s) a l (form_in s a) (fields_in s a l g))
