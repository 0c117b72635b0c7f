-- What several writes leave whose numbers come from calls: the front of a task's entry, an answer, the reasons.
use Prim.Native.Nat.{ℕ, ◌+◌, ◌*◌, ◌≤◌}
use mathlib.Core.Path.{◌≡◌, refl, ap, ◌∙◌}
use mathlib.Core.Bool.{Bool, true, false}
use mir.Val.{bool_byte as from_bool}
use mathlib.Core.List.{List, [], ◌∷◌, ◌++◌}
use native.Mathlib.Omega.{arith}
use lib.ListN.{length}
use Rattle.records.specs.Numbers.{bytes_in}
use Rattle.records.specs.declared.TaskNo.{TaskNo}
use Rattle.executive.specs.declared.Answer.{Answer}
use Rattle.executive.specs.declared.State.{State}
use Rattle.executive.specs.Lists.{one}
use Rattle.executive.specs.declared.Millis.{Millis}
use Rattle.executive.specs.States.{state_kind, time_of, mask_of}
use Rattle.why.specs.declared.Step.{Step}
use Rattle.why.specs.declared.Reasons.{Reasons}
use Rattle.image.specs.Blocks.{row, written}
use Rattle.image.specs.Coding.{front_bytes}
use Rattle.image.specs.EntryPoints.{answer_length, answer_bytes}
use Rattle.image.specs.Reasons.{cause_kind, waited_on, own_byte, until_of, step_bytes, steps_at, reasons_length, reasons_bytes}
use Rattle.image.proofs.Spans.{and_then, length-row}

pub wrote-front : (o : List ℕ) {p q r : List ℕ} (at own : ℕ) (s : State) (k : ℕ) (m : Millis) (n : ℕ) → k ≡ state_kind s → m ≡ time_of s → n ≡ mask_of s
    → p ≡ written o at (own ∷ k ∷ []) → q ≡ written p (at + 2) (bytes_in 8 m.0) → r ≡ written q (at + 10) (bytes_in 4 n) → at + 14 ≤ length o
    → r ≡ written o at (front_bytes own s)
wrote-front o at own s k m n ek em en f g h l =
    let a = own ∷ k ∷ [] in
    let b = bytes_in 8 m.0 in
    and_then o at (a ++ b) (bytes_in 4 n) (and_then o at a b f g (omega arith)) h (omega arith) ∙ rw (ek, em, en)

-- a mark as a byte
pub mark-byte : (b : Bool) → from_bool b ≡ one b
mark-byte true = refl
mark-byte false = refl

pub wrote-answer : (o : List ℕ) {p q r s u v₁ w₁ : List ℕ} (a : Answer) (z v c : ℕ) → z ≡ one a.z → v ≡ one a.v → c ≡ one a.c
    → p ≡ written o 0 (a.number ∷ z ∷ []) → q ≡ written p 2 (v ∷ c ∷ []) → r ≡ written q 4 (a.active.0 ∷ a.walked ∷ []) → s ≡ written r 6 (bytes_in 2 a.argument)
    → u ≡ written s 8 (bytes_in 8 a.skipped) → v₁ ≡ written u 16 (bytes_in 1 a.sender.0) → w₁ ≡ written v₁ 17 (bytes_in 8 a.text.0)
    → answer_length ≤ length o → w₁ ≡ written o 0 (answer_bytes a)
wrote-answer o a z v c ez ev ec e f g h i i₁ i₂ l =
    let x = a.number ∷ z ∷ [] in
    let y = v ∷ c ∷ [] in
    let w = a.active.0 ∷ a.walked ∷ [] in
    let b = bytes_in 2 a.argument in
    let m = and_then o 0 x y e f (omega arith) in
    let n = and_then o 0 (x ++ y) w m g (omega arith) in
    let k = and_then o 0 ((x ++ y) ++ w) b n h (omega arith) in
    let d = bytes_in 8 a.skipped in
    let j = and_then o 0 (((x ++ y) ++ w) ++ b) d k i (omega arith) in
    let b₁ = bytes_in 1 a.sender.0 in
    let j₁ = and_then o 0 ((((x ++ y) ++ w) ++ b) ++ d) b₁ j i₁ (omega arith) in
    and_then o 0 (((((x ++ y) ++ w) ++ b) ++ d) ++ b₁) (bytes_in 8 a.text.0) j₁ i₂ (omega arith) ∙ rw (ez, ev, ec)

pub wrote-step : (o : List ℕ) {p q r : List ℕ} (at : ℕ) (s : Step) (k : ℕ) (j : TaskNo) (b u : ℕ)
    → k ≡ cause_kind s.cause → j ≡ waited_on s.cause → b ≡ own_byte s.cause → u ≡ until_of s.cause
    → p ≡ written o at (s.task.0 ∷ k ∷ []) → q ≡ written p (at + 2) (j.0 ∷ b ∷ []) → r ≡ written q (at + 4) (bytes_in 8 u)
    → at + 12 ≤ length o → r ≡ written o at (step_bytes s)
wrote-step o at s k j b u ek ej eb eu f g h l =
    let x = s.task.0 ∷ k ∷ [] in
    let y = j.0 ∷ b ∷ [] in
    and_then o at (x ++ y) (bytes_in 8 u) (and_then o at x y f g (omega arith)) h (omega arith) ∙ rw (ek, ej, eb, eu)

pub wrote_reasons : (o : List ℕ) {p q r : List ℕ} (a : Reasons) → length a.steps ≡ 16
    → p ≡ written o 0 (a.number ∷ a.length ∷ []) → q ≡ written p 2 (a.ring ∷ 0 ∷ [])
    → r ≡ written q steps_at (row step_bytes a.steps) → reasons_length ≤ length o → r ≡ written o 0 (reasons_bytes a)
wrote_reasons o a e f g h l =
    let x = a.number ∷ a.length ∷ [] in
    let y = a.ring ∷ 0 ∷ [] in
    let z : length (row step_bytes a.steps) ≡ 16 * 12 = length-row step_bytes 12 (λ s. refl) a.steps ∙ ap (λ n. n * 12) e in
    and_then o 0 (x ++ y) (row step_bytes a.steps) (and_then o 0 x y f g (omega arith)) h (omega (arith, z))
