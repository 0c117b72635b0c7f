-- A call's record, written to a buffer of at least ten bytes, stands there whole.
use Prim.Native.Nat.{ℕ, ◌≤◌}
use mathlib.Core.Path.{◌≡◌, sym, ◌∙◌}
use mathlib.Core.List.{List, ◌++◌}
use native.Mathlib.Omega.{arith}
use borrow.Author.Tests.{le-leb}
use lib.ListN.{length, take, drop}
use lib.Seq.{take_at}
use Rattle.records.specs.declared.Call.{Call}
use Rattle.records.specs.Writing.{bytes_of, written_of, out_of}
use Rattle.records.proofs.Assured.{promises}
use Rattle.std.specs.Prelude.{Ok, Err}
use Rattle.records.specs.declared.Refusal.{Refusal}
use Rattle.records.specs.Refusals.{Written}

module _ (c : Call) (o : List ℕ) (h : 10 ≤ length o) where
  fits : length (bytes_of c) ≤ length o
  fits = omega (arith, promises.short c)

  write_done : Ok (length (bytes_of c)) ≡ written_of c o
  unfolding written_of
  write_done = rw (le-leb (length (bytes_of c)) (length o) fits)

  out-done : bytes_of c ++ drop (length (bytes_of c)) o ≡ out_of c o
  unfolding out_of
  out-done = rw (le-leb (length (bytes_of c)) (length o) fits)

  pub write_length : (n : ℕ) → ◌≡◌ {A = Written} (Ok n) (written_of c o) → n ≡ length (bytes_of c)
  write_length n e = let f : ◌≡◌ {A = Written} (Ok n) (Ok (length (bytes_of c))) = e ∙ sym write_done in cc

  pub write_never : (r : Refusal) → ◌≡◌ {A = Written} (Err r) (written_of c o) → ⊥
  write_never r e =
      let f : ◌≡◌ {A = Written} (Err r) (Ok (length (bytes_of c))) = e ∙ sym write_done in
      let z : ◌≡◌ {A = ℕ} 0 1 = cc in
      omega arith

  pub out-start : (n : ℕ) (p : List ℕ) → n ≡ length (bytes_of c) → p ≡ out_of c o → take n p ≡ bytes_of c
  out-start n p e f = rw (f, ← out-done) (take_at (bytes_of c) _ n (sym e))
