-- The messages and the mail as they stand in their arrays: what the code makes of them is what the definitions say.
use Prim.Native.Nat.{ℕ, zero, suc, ◌+◌, ◌-◌, ◌≤◌, ◌<◌}
use mathlib.Core.Path.{◌≡◌, refl, sym, ap, ◌∙◌}
use mathlib.Core.Bool.{false}
use mathlib.Core.List.{List}
use native.Mathlib.Omega.{arith}
use lib.Dec.{eqb}
use lib.ListN.{length, set, length-append, length-drop, length-set}
use lib.Seq.{length-take-le, set_out, get_or-set_same, get_or-set_other}
use Rattle.executive.specs.declared.Message.{Message}
use Rattle.executive.specs.declared.Mail.{Mail}
use Rattle.executive.specs.declared.Rest.{Rest}
use Rattle.executive.specs.Lists.{pad, closed_at}
use Rattle.executive.specs.Places.{entry_place}
use Rattle.executive.specs.Pool.{removed}
use Rattle.executive.specs.Rest.{with_post}
use Rattle.executive.specs.Table.{slid_of}
use Rattle.executive.specs.Messages.{no_message, no_mail, letters, LettersInOrder, with_letters, put_in_at, mail_at, with_mail}
use Rattle.executive.proofs.Lists.Pad.{line-pad, length-pad, pad-close, pad_slid}
use Rattle.executive.proofs.Lists.Tests.{eqb_no}
use Rattle.executive.proofs.queue.ArraysAreLists.{take-le}
use Rattle.executive.proofs.places.TaskAt.{set-place}

pub removed-length : {A : Type 0} (i : ℕ) (xs : List A) → i < length xs → suc (length (removed i xs)) ≡ length xs
removed-length i xs h = simp (length-append, length-take-le i xs (omega arith), length-drop) (omega arith)

put_in_length : {A : Type 0} (i : ℕ) (x : A) (xs : List A) → i ≤ length xs → length (put_in_at i x xs) ≡ suc (length xs)
put_in_length i x xs h = simp (length-append, length-take-le i xs h, length-drop) (omega arith)

-- the letters are read off again
pub letters_with : (ms : List Message) (r : Rest) → letters (with_letters ms r) ≡ ms
letters_with ms r = line-pad no_message 32 ms

module _ (r : Rest) (f : LettersInOrder r) where
  pub messages-length : length r.messages ≡ 32
  messages-length = ap length f.clear ∙ length-pad no_message 32 (letters r) (omega (arith, take-le r.sent r.messages, f.room))

  pub letters-length : length (letters r) ≡ r.sent
  letters-length = length-take-le r.sent r.messages (omega (arith, messages-length, f.room))

  pub made-without : (i : ℕ) → i < r.sent
      → with_post (closed_at no_message r.messages i) (r.sent - 1) r.mail r ≡ with_letters (removed i (letters r)) r
  made-without i h =
      let n : length (letters r) ≡ r.sent = letters-length in
      let g : i < length (letters r) = omega arith in
      let l : suc (length (removed i (letters r))) ≡ length (letters r) = removed-length i (letters r) g in
      let m : r.sent - 1 ≡ length (removed i (letters r)) = omega arith in
      let p : closed_at no_message r.messages i ≡ pad 32 no_message (removed i (letters r)) =
      ap (λ (p : List Message). closed_at no_message p i) f.clear ∙ pad-close no_message 32 i (letters r) g (omega (arith, f.room)) in
      λ j. with_post (p j) (m j) r.mail r

  pub made-posted : (m : Message) (at : ℕ) → at ≤ r.sent → r.sent < 32
      → with_post (slid_of r.messages at r.sent m) (r.sent + 1) r.mail r ≡ with_letters (put_in_at at m (letters r)) r
  made-posted x at g h =
      let n : length (letters r) ≡ r.sent = letters-length in
      let l : length (put_in_at at x (letters r)) ≡ suc (length (letters r)) = put_in_length at x (letters r) (omega arith) in
      let m : r.sent + 1 ≡ length (put_in_at at x (letters r)) = omega arith in
      let p : slid_of r.messages at r.sent x ≡ pad 32 no_message (put_in_at at x (letters r)) =
      ap (λ (q : List Message). slid_of q at r.sent x) f.clear
      ∙ ap (λ (k : ℕ). slid_of (pad 32 no_message (letters r)) at k x) (sym n)
      ∙ pad_slid no_message 32 at x (letters r) (omega arith) (omega arith) in
      λ j. with_post (p j) (m j) r.mail r

  -- and the arrays stay in order
  pub without_in_order : (i : ℕ) → i < r.sent → LettersInOrder (with_letters (removed i (letters r)) r)
  without_in_order i h =
      let n : length (letters r) ≡ r.sent = letters-length in
      let l : suc (length (removed i (letters r))) ≡ length (letters r) = removed-length i (letters r) (omega arith) in
      record { room = omega (arith, f.room); clear = ap (pad 32 no_message) (sym (line-pad no_message 32 (removed i (letters r)))) }

  pub posted_in_order : (ms : List Message) → length ms ≤ 32 → LettersInOrder (with_letters ms r)
  posted_in_order ms h = record { room = h; clear = ap (pad 32 no_message) (sym (line-pad no_message 32 ms)) }

-- ---- the mail, at a number's place of sixteen
module _ (r : Rest) (l : length r.mail ≡ 16) (x : Mail) where
  pub mail-place : (n : ℕ) → with_mail n x r ≡ with_post r.messages r.sent (set r.mail (entry_place n) x) r
  unfolding entry_place
  mail-place zero = ap (λ (ml : List Mail). with_post r.messages r.sent ml r) (sym (set_out r.mail 16 x (omega arith)))
  mail-place (suc i) = ap (λ (ml : List Mail). with_post r.messages r.sent ml r) (set-place r.mail l i x)

  pub mail-no-place : (n k : ℕ) → k ≡ entry_place n → 15 < k → with_mail n x r ≡ r
  mail-no-place n k e h = mail-place n ∙ rw (← e) (ap (λ (ml : List Mail). with_post r.messages r.sent ml r) (set_out r.mail k x (omega arith)))

-- the mail after a store: of that task, of another; as many places
pub mail-same : (r : Rest) (k : ℕ) (x : Mail) → 0 < k → k ≤ length r.mail → mail_at (with_mail k x r).mail k ≡ x
unfolding mail_at
mail-same r zero x h l = absurd (omega arith)
mail-same r (suc i) x h l = get_or-set_same r.mail i x no_mail (omega arith)

pub mail-other : (r : Rest) (j k : ℕ) (x : Mail) → eqb k j ≡ false → mail_at (with_mail j x r).mail k ≡ mail_at r.mail k
unfolding mail_at
mail-other r zero k x h = refl
mail-other r (suc i) zero x h = refl
mail-other r (suc i) (suc j) x h = get_or-set_other r.mail i j x no_mail (omega (arith, eqb_no (suc j) (suc i) h))

pub mail-length : (r : Rest) (k : ℕ) (x : Mail) → length (with_mail k x r).mail ≡ length r.mail
mail-length r zero x = refl
mail-length r (suc i) x = length-set r.mail i x

-- and the letters are left alone
