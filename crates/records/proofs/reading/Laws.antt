-- Which case of `read_of` holds, from what the tests of `read` give; the four cases of any record; when 3 and 4 are
-- given.
use Prim.Native.Nat.{ℕ}
use mathlib.Core.Path.{◌≡◌, refl, ap, sym, ◌∙◌}
use mathlib.Core.Logic.{◌↔◌, ◌≢◌, ◌⊎◌, inl, inr, ⊎_elim}
use mathlib.Core.Bool.{Bool, true, false}
use mathlib.Core.List.{List}
use native.Mathlib.Omega.{arith}
use lib.ListN.{length}
use lib.Dec.{eqb}
use borrow.Author.Tests.{eq-eqb, ne_eqb, eqb-true, eqb-false}
use Rattle.records.specs.Numbers.{cut}
use Rattle.records.specs.Kinds.{body_of, length_of}
use Rattle.records.specs.Calls.{got_of}
use Rattle.records.specs.Reading.{first_kind, read_of, read_as, read_number}
use Rattle.records.specs.Promises.{Misfit}
use Rattle.records.specs.declared.Kind.{Kind}
use Rattle.records.specs.declared.Kind.TheVariants as kind
use Rattle.std.specs.Prelude.{Ok, Err}
use Rattle.records.specs.declared.Refusal.{Refusal}
use Rattle.records.specs.Refusals.{refusal_number, Got}
use Rattle.records.specs.declared.Refusal.TheVariants as refusal

-- by cases on a test
pub decide : {P : Type 0} (b : Bool) → (b ≡ true → P) → (b ≡ false → P) → P
decide true f g = f refl
decide false f g = g refl

module _ (s : List ℕ) where
  pub read-empty : length s ≡ 0 → read_of s ≡ Err refusal.WrongLength
  unfolding read_of
  read-empty e = rw (eq-eqb (length s) 0 e)

  pub read_some : (length s ≡ 0 → ⊥) → read_of s ≡ read_as (first_kind s) s
  unfolding read_of
  read_some f = rw (ne_eqb (length s) 0 f)

  module _ (k : Kind) where
    pub as_unknown : length_of k ≡ 0 → read_as k s ≡ Err refusal.UnknownKind
    unfolding read_as
    as_unknown u = rw (eq-eqb (length_of k) 0 u)

    module _ (known : length_of k ≡ 0 → ⊥) where
      pub as_length : (length s ≡ length_of k → ⊥) → read_as k s ≡ Err refusal.WrongLength
      unfolding read_as
      as_length n = rw (ne_eqb (length_of k) 0 known, ne_eqb (length s) (length_of k) n)

      pub as_whole : length s ≡ length_of k → read_as k s ≡ got_of k (cut (body_of k) 1 s)
      unfolding read_as
      as_whole n = rw (ne_eqb (length_of k) 0 known, eq-eqb (length s) (length_of k) n)

-- what is got is a call
abbrev Called : Got → Type 0
Called (Ok c) = Unit {0}
Called (Err n) = ⊥

called-number : (g : Got) → Called g → read_number g ≡ 0
called-number (Ok c) u = refl
called-number (Err n) u = absurd u

called-not : (g : Got) (n : Refusal) → g ≡ Err n → Called g → ⊥
called-not g n e u = rw e at u

-- a kind is Unknown, or has a length and a call for any numbers
known : (k : Kind) → (k ≡ kind.Unknown) ⊎ ((length_of k ≢ 0) × ((xs : List ℕ) → Called (got_of k xs)))
known kind.Unknown = inl refl
known kind.Terminate = inr (λ e. omega arith, λ xs. tt)
known kind.Restart = inr (λ e. omega arith, λ xs. tt)
known kind.Pause = inr (λ e. omega arith, λ xs. tt)
known kind.CancelPause = inr (λ e. omega arith, λ xs. tt)
known kind.StartIfDormant = inr (λ e. omega arith, λ xs. tt)
known kind.StartOrQueue = inr (λ e. omega arith, λ xs. tt)
known kind.Flag = inr (λ e. omega arith, λ xs. tt)
known kind.Wait = inr (λ e. omega arith, λ xs. tt)
known kind.Alarm = inr (λ e. omega arith, λ xs. tt)
known kind.Tick = inr (λ e. omega arith, λ xs. tt)
known kind.Granule = inr (λ e. omega arith, λ xs. tt)
known kind.Task = inr (λ e. omega arith, λ xs. tt)
known kind.End = inr (λ e. omega arith, λ xs. tt)
known kind.Enter = inr (λ e. omega arith, λ xs. tt)
known kind.Exit = inr (λ e. omega arith, λ xs. tt)
known kind.Send = inr (λ e. omega arith, λ xs. tt)
known kind.Receive = inr (λ e. omega arith, λ xs. tt)

-- the four cases of reading
pub read-cases : {P : Type 0} (s : List ℕ)
    → (length s ≡ 0 → read_of s ≡ Err refusal.WrongLength → P)
    → (length s ≢ 0 → first_kind s ≡ kind.Unknown → read_of s ≡ Err refusal.UnknownKind → P)
    → (length s ≢ 0 → Misfit s → read_of s ≡ Err refusal.WrongLength → P)
    → (length s ≢ 0 → first_kind s ≢ kind.Unknown → length s ≡ length_of (first_kind s) → read_of s ≡ got_of (first_kind s) (cut (body_of (first_kind s)) 1 s)
    → read_number (read_of s) ≡ 0 → P)
    → P
read-cases s empty unknown misfit whole =
    let k = first_kind s in
    decide (eqb (length s) 0)
    (λ t. let e = eqb-true (length s) 0 t in empty e (read-empty s e))
    (λ f.
    let some = eqb-false (length s) 0 f in
    ⊎_elim
    (λ u. unknown some u (read_some s some ∙ as_unknown s k (ap length_of u)))
    (λ q.
    let carried : k ≢ kind.Unknown = λ u. q.0 (ap length_of u) in
    decide (eqb (length s) (length_of k))
    (λ t.
    let n = eqb-true (length s) (length_of k) t in
    let r = read_some s some ∙ as_whole s k q.0 n in
    whole some carried n r (ap read_number r ∙ called-number (got_of k (cut (body_of k) 1 s)) (q.1 (cut (body_of k) 1 s))))
    (λ l. let n = eqb-false (length s) (length_of k) l in misfit some (carried, n) (read_some s some ∙ as_length s k q.0 n)))
    (known k))

module _ (s : List ℕ) where
  pub reads : (read_number (read_of s) ≡ 0) ⊎ ((read_number (read_of s) ≡ 3) ⊎ (read_number (read_of s) ≡ 4))
  reads =
      read-cases s
      (λ e r. inr (inl (ap read_number r)))
      (λ e u r. inr (inr (ap read_number r)))
      (λ e m r. inr (inl (ap read_number r)))
      (λ e k n r z. inl z)

  pub refuses : (r : Refusal) → read_of s ≡ Err r → (refusal_number r ≡ 3) ⊎ (refusal_number r ≡ 4)
  refuses q e =
      read-cases s
      (λ z r. inl (ap read_number (sym e ∙ r)))
      (λ z u r. inr (ap read_number (sym e ∙ r)))
      (λ z m r. inl (ap read_number (sym e ∙ r)))
      (λ z k l r o. ⊎_elim (λ u. absurd (k u)) (λ p. absurd (called-not (got_of (first_kind s) (cut (body_of (first_kind s)) 1 s)) q (sym r ∙ e) (p.1 (cut (body_of (first_kind s)) 1 s)))) (known (first_kind s)))

  pub three : (read_number (read_of s) ≡ 3) ↔ ((length s ≡ 0) ⊎ Misfit s)
  three =
      read-cases s
      (λ e r. (λ x. inl e, λ x. ap read_number r))
      (λ e u r. (λ x. absurd (omega (arith, ap read_number r)), λ x. absurd (⊎_elim e (λ m. m.0 u) x)))
      (λ e m r. (λ x. inr m, λ x. ap read_number r))
      (λ e k n r z. (λ x. absurd (omega arith), λ x. absurd (⊎_elim e (λ m. m.1 n) x)))

  pub four : (read_number (read_of s) ≡ 4) ↔ ((length s ≢ 0) × (first_kind s ≡ kind.Unknown))
  four =
      read-cases s
      (λ e r. (λ x. absurd (omega (arith, ap read_number r)), λ x. absurd (x.0 e)))
      (λ e u r. (λ x. (e, u), λ x. ap read_number r))
      (λ e m r. (λ x. absurd (omega (arith, ap read_number r)), λ x. absurd (m.0 x.1)))
      (λ e k n r z. (λ x. absurd (omega arith), λ x. absurd (k x.1)))
