-- Which case of `written_of` and `out_of` holds, from what the tests of `write` give; one more byte copied; no record is
-- longer than ten bytes; when 20 is given.
use Prim.Native.Nat.{ℕ, suc, ◌+◌, ◌≤◌, ◌<◌}
use mathlib.Core.Path.{◌≡◌, sym, ap, ◌∙◌}
use mathlib.Core.Logic.{◌↔◌, ◌⊎◌, inl, inr}
use mathlib.Core.List.{List, ◌++◌, append_assoc}
use native.Mathlib.Numerals.{add-one}
use native.Mathlib.Omega.{arith}
use lib.ListN.{length, get_or, take, drop, set}
use lib.Seq.{drop-cons, take-suc, set_at, take_at, length-take-le}
use lib.Dec.{lit≤, leb}
use borrow.Author.Tests.{le-leb, lt-leb, leb-true, leb-false}
use Rattle.records.specs.Writing.{bytes_of, written_of, out_of, write_number}
use Rattle.records.specs.declared.Call.{Call}
use Rattle.records.specs.declared.Call.TheVariants as call
use Rattle.records.specs.declared.Refusal.{Refusal}
use Rattle.records.specs.Refusals.{Written}
use Rattle.records.proofs.reading.Laws.{decide}
use Rattle.std.specs.Prelude.{Ok, Err}
use Rattle.records.specs.declared.Refusal.TheVariants as refusal

module _ (c : Call) (o : List ℕ) where
  module _ (h : length o < length (bytes_of c)) where
    pub write_refused : Err refusal.BufferShort ≡ written_of c o
    unfolding written_of
    write_refused = rw (lt-leb (length (bytes_of c)) (length o) h)

    pub out-kept : o ≡ out_of c o
    unfolding out_of
    out-kept = rw (lt-leb (length (bytes_of c)) (length o) h)

  module _ (h : length (bytes_of c) ≤ length o) where
    pub write_done : Ok (length (bytes_of c)) ≡ written_of c o
    unfolding written_of
    write_done = rw (le-leb (length (bytes_of c)) (length o) h)

    pub out-done : bytes_of c ++ drop (length (bytes_of c)) o ≡ out_of c o
    unfolding out_of
    out-done = rw (le-leb (length (bytes_of c)) (length o) h)

module _ (c : Call) (o : List ℕ) where
  -- the two cases of writing
  write_cases : {P : Type 0} → (length o < length (bytes_of c) → write_number (written_of c o) ≡ 20 → P)
      → (length (bytes_of c) ≤ length o → write_number (written_of c o) ≡ 0 → P) → P
  write_cases short room =
      decide (leb (length (bytes_of c)) (length o))
      (λ t. let h = leb-true (length (bytes_of c)) (length o) t in room h (sym (ap write_number (write_done c o h))))
      (λ f. let h = leb-false (length (bytes_of c)) (length o) f in short h (sym (ap write_number (write_refused c o h))))

  pub writes : (write_number (written_of c o) ≡ 0) ⊎ (write_number (written_of c o) ≡ 20)
  writes = write_cases (λ h e. inr e) (λ h e. inl e)

  pub twenty : (write_number (written_of c o) ≡ 20) ↔ (length o < length (bytes_of c))
  twenty = write_cases (λ h e. (λ x. h, λ x. e)) (λ h e. (λ x. absurd (omega arith), λ x. absurd (omega arith)))

pub copy_more : (s d : List ℕ) (i : ℕ) → i < length s → i < length d → set (take i s ++ drop i d) i (get_or s i 0) ≡ take (i + 1) s ++ drop (i + 1) d
copy_more s d i hs hd =
    rw (drop-cons d i 0 hd, set_at (take i s) (get_or d i 0) (drop (suc i) d) (get_or s i 0) i (length-take-le i s (omega arith)), add-one i, take-suc s i 0 hs, append_assoc)

pub bytes-short : (c : Call) → length (bytes_of c) ≤ 10
bytes-short call.Terminate = lit≤ tt
bytes-short (call.Restart p n) = lit≤ tt
bytes-short (call.Pause u n) = lit≤ tt
bytes-short (call.CancelPause t) = lit≤ tt
bytes-short (call.StartIfDormant o t) = lit≤ tt
bytes-short (call.StartOrQueue o t a) = lit≤ tt
bytes-short (call.Flag o f) = lit≤ tt
bytes-short (call.Wait m x) = lit≤ tt
bytes-short (call.Alarm u n f) = lit≤ tt
bytes-short call.Tick = lit≤ tt
bytes-short (call.Granule g) = lit≤ tt
bytes-short (call.Task p m) = lit≤ tt
bytes-short call.End = lit≤ tt
bytes-short (call.Enter m) = lit≤ tt
bytes-short (call.Exit m) = lit≤ tt
bytes-short (call.Send t x) = lit≤ tt
bytes-short (call.Receive t) = lit≤ tt

-- what a buffer of at least ten bytes says of a write into it: its length and its start are the call's
module _ (c : Call) (o : List ℕ) (h : 10 ≤ length o) where
  fits : length (bytes_of c) ≤ length o
  fits = omega (arith, bytes-short c)

  pub write_length : (n : ℕ) → ◌≡◌ {A = Written} (Ok n) (written_of c o) → n ≡ length (bytes_of c)
  write_length n e = let f : ◌≡◌ {A = Written} (Ok n) (Ok (length (bytes_of c))) = e ∙ sym (write_done c o fits) in cc

  pub write_never : (r : Refusal) → ◌≡◌ {A = Written} (Err r) (written_of c o) → ⊥
  write_never r e =
      let f : ◌≡◌ {A = Written} (Err r) (Ok (length (bytes_of c))) = e ∙ sym (write_done c o fits) in
      let z : ◌≡◌ {A = ℕ} 0 1 = cc in
      omega arith

  pub out-start : (n : ℕ) (p : List ℕ) → n ≡ length (bytes_of c) → p ≡ out_of c o → take n p ≡ bytes_of c
  out-start n p e f = rw (f, ← out-done c o fits) (take_at (bytes_of c) _ n (sym e))
