-- Which call a block is, by its first byte; and which case of `block_in` holds, from what the code's tests give.
use Prim.Native.Nat.{ℕ, suc, ◌+◌}
use mathlib.Core.Path.{◌≡◌, refl, sym, ap, ◌∙◌}
use mathlib.Core.List.{List, [], ◌∷◌}
use native.Mathlib.Omega.{arith}
use lib.ListN.{length, get_or}
use borrow.Author.Tests.{ne_eqb}
use Rattle.records.proofs.Assured.{promises}
use Rattle.records.specs.Firsts.{first_of}
use Rattle.records.specs.Numbers.{number_of, cut}
use Rattle.records.specs.Kinds.{body_of}
use Rattle.records.specs.Calls.{got_of, fields_of}
use Rattle.records.specs.declared.Call.{Call}
use Rattle.records.specs.declared.Call.TheVariants as call
use Rattle.records.specs.declared.Refusal.{Refusal}
use Rattle.records.specs.Refusals.{refusal_number, Got}
use Rattle.blocks.specs.Lists.{task_of}
use Rattle.blocks.specs.Types.{form_at, form_of, size_of, numbers_at}
use Rattle.blocks.specs.Refusals.{by_place, by_numbers}
use Rattle.blocks.specs.Reading.{form_in, fields_in, read_refusals, got_by, block_in}
use Rattle.blocks.specs.Writing.{form_for}
use Rattle.blocks.proofs.Forms.{sound-at}
use Rattle.blocks.proofs.Through.{through-length}
use Rattle.blocks.proofs.Judged.{joined_numbers}
use Rattle.std.specs.Prelude.{Ok, Err}

pub cut-length : (ws : List ℕ) (i : ℕ) (s : List ℕ) → length (cut ws i s) ≡ length ws
cut-length [] i s = refl
cut-length (w ∷ ws) i s = ap suc (cut-length ws (i + w) s)

module _ (s : List ℕ) (a : ℕ) (l : List ℕ) (g : ℕ) where
  pub at_0 : get_or s a 0 ≡ 0 → got_of (form_in s a).name (fields_in s a l g) ≡ Ok call.Terminate
  unfolding form_at
  at_0 e = rw e refl

  pub at_1 : get_or s a 0 ≡ 1 → got_of (form_in s a).name (fields_in s a l g) ≡ Ok (call.Restart (get_or s (a + 1) 0) (get_or s (a + 2) 0))
  unfolding form_at
  at_1 e = let two : a + 1 + 1 ≡ a + 2 = omega arith in rw (e, two) refl

  pub at_2 : get_or s a 0 ≡ 2 → got_of (form_in s a).name (fields_in s a l g) ≡ Ok (call.Pause (get_or s (a + 1) 0) (get_or s (a + 2) 0))
  unfolding form_at
  at_2 e = let two : a + 1 + 1 ≡ a + 2 = omega arith in rw (e, two) refl

  pub at_5 : get_or s a 0 ≡ 5 → got_of (form_in s a).name (fields_in s a l g)
      ≡ Ok (call.StartOrQueue (get_or s (a + 1) 0) (record { 0 = task_of l (number_of (get_or s (a + 2) 0 ∷ get_or s (a + 3) 0 ∷ [])) }) g)
  unfolding form_at
  at_5 e =
      let two : a + 1 + 1 ≡ a + 2 = omega arith in
      let three : suc (a + 2) ≡ a + 3 = omega arith in
      rw (e, two, three) refl

  pub numbers-length : length (numbers_at (form_in s a) s a) ≡ length (form_in s a).uses
  numbers-length = cut-length (form_in s a).widths (a + 1) s ∙ sym (sound-at (get_or s a 0)).alike

  fields-length : length (fields_in s a l g) ≡ length (body_of (form_in s a).name)
  fields-length =
      through-length (task_of l) g (form_in s a).uses (numbers_at (form_in s a) s a) numbers-length
      ∙ (sound-at (get_or s a 0)).alike
      ∙ sym (sound-at (get_or s a 0)).body

  -- the call that is read is of the block's form and numbers
  pub same-form : (c : Call) → got_of (form_in s a).name (fields_in s a l g) ≡ Ok c
      → (form_for c ≡ form_in s a) × (fields_of c ≡ fields_in s a l g)
  same-form c e =
      let q = promises.call-parts (form_in s a).name (fields_in s a l g) c fields-length e in
      (ap form_of q.0 ∙ (sound-at (get_or s a 0)).named, q.1)

  pub read_no : (r : Refusal) → refusal_number r ≡ first_of (read_refusals s a l g) → ◌≡◌ {A = Got} (Err r) (block_in s a l g)
  unfolding block_in
  read_no r e =
      let k : ◌≡◌ {A = Got} (Err r) (got_by (refusal_number r) (form_in s a) (fields_in s a l g)) =
      rw (ne_eqb (refusal_number r) 0 (promises.numbered_some r)) (ap Err (sym (promises.numbered r))) in
      k ∙ ap (λ m. got_by m (form_in s a) (fields_in s a l g)) e

  pub read-yes : (c : Call) → 0 ≡ first_of (read_refusals s a l g) → got_of (form_in s a).name (fields_in s a l g) ≡ Ok c
      → ◌≡◌ {A = Got} (Ok c) (block_in s a l g)
  unfolding block_in
  read-yes c e h = sym h ∙ ap (λ m. got_by m (form_in s a) (fields_in s a l g)) e

  -- the number that the call's own numbers give, where none is given by place
  pub read-late : (c : Call) (p q : ℕ) → p ≡ first_of (by_place (length s) a (size_of (form_in s a)) l) → p ≡ 0
      → got_of (form_in s a).name (fields_in s a l g) ≡ Ok c → q ≡ first_of (by_numbers (length l) (form_for c) (fields_of c))
      → q ≡ first_of (read_refusals s a l g)
  read-late c p q e z h k =
      let x = same-form c h in
      joined_numbers (length s) a l (form_in s a) (fields_in s a l g) p q e z (k ∙ (λ i. first_of (by_numbers (length l) (x.0 i) (x.1 i))))
