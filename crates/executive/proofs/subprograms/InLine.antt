-- What the calls make of a subprogram whose line stands in good order: the records that the code makes are those of the
-- definitions.
use Prim.Native.Nat.{ℕ, ◌+◌, ◌-◌, ◌≤◌, ◌<◌}
use mathlib.Core.Path.{◌≡◌, refl, ap, ◌∙◌}
use mathlib.Core.List.{[], ◌∷◌, ◌++◌, tail}
use native.Mathlib.Omega.{arith}
use lib.ListN.{length, take, drop}
use Rattle.records.specs.declared.TaskNo.{TaskNo}
use Rattle.executive.specs.declared.Sub.{Sub}
use Rattle.executive.specs.Table.{head_of, slid_of}
use Rattle.executive.specs.Lists.{closed_at, pad}
use Rattle.executive.specs.Places.{nobody}
use Rattle.executive.specs.Subprograms.{line_of, LineInOrder, joins_line, handed_on}
use Rattle.executive.proofs.Plans.WorkingForm.{line-waiting}
use Rattle.executive.proofs.queue.ArraysAreLists.{slid_places, slid_count, closed-places, tail-count}

module _ (s : Sub) (f : LineInOrder s) where
  -- task k joins it at place i
  pub made-joined : (i : ℕ) (k : TaskNo) → i ≤ s.waiting → s.waiting < 16
      → record { holder = s.holder; line = slid_of s.line i s.waiting k; waiting = s.waiting + 1 } ≡ joins_line i k s
  made-joined i k h m =
      let n : length (line_of s) ≡ s.waiting = line-waiting s f in
      let l : slid_of s.line i s.waiting k ≡ pad 16 nobody (take i (line_of s) ++ (k ∷ drop i (line_of s))) =
      slid_places s.line s.waiting f.clear n i k h m in
      let c : s.waiting + 1 ≡ length (take i (line_of s) ++ (k ∷ drop i (line_of s))) = slid_count s.waiting (line_of s) n i k h in
      λ j. record { holder = s.holder; line = l j; waiting = c j }

  -- it is handed on to its first, w; nobody waits
  pub made-handed : (w : TaskNo) → w ≡ head_of (line_of s) → 0 < s.waiting
      → record { holder = w; line = closed_at nobody s.line 0; waiting = s.waiting - 1 } ≡ handed_on s
  made-handed w e h =
      let n : length (line_of s) ≡ s.waiting = line-waiting s f in
      let t = tail-count (line_of s) (omega arith) in
      let c : s.waiting - 1 ≡ length (tail (line_of s)) = omega arith in
      let l : closed_at nobody s.line 0 ≡ pad 16 nobody (tail (line_of s)) = closed-places s.line s.waiting f.clear n h f.room in
      λ j. record { holder = e j; line = l j; waiting = c j }

  pub made-free : (w : TaskNo) → w ≡ head_of (line_of s) → s.waiting ≡ 0 → record { holder = w; line = s.line; waiting = s.waiting } ≡ handed_on s
  made-free w e z =
      let l : line_of s ≡ [] = ap (λ (n : ℕ). take n s.line) z in
      let p : s.line ≡ pad 16 nobody (tail (line_of s)) = f.clear ∙ rw l refl in
      let c : s.waiting ≡ length (tail (line_of s)) = z ∙ rw l refl in
      λ j. record { holder = e j; line = p j; waiting = c j }
