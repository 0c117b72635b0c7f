-- What holds of every form that is found in the table, and of the one that stands for none.
use Prim.{Unit}
use Prim.Native.Nat.{ℕ}
use mathlib.Core.Path.{◌≡◌, refl, sym}
use mathlib.Core.Logic.{◌≢◌}
use mathlib.Core.Bool.{Bool, true, false, cond}
use mathlib.Core.List.{List, [], ◌∷◌}
use lib.Dec.{eqb, lit<}
use lib.ListN.{length}
use borrow.Author.Tests.{ne_eqb, eqb-true}
use Rattle.records.specs.Numbers.{Wide}
use Rattle.records.specs.Kinds.{place, body_of}
use Rattle.records.specs.Calls.{kind_of_call, fields_of, got_of}
use Rattle.records.specs.declared.Kind.{Kind}
use Rattle.records.specs.declared.Kind.TheVariants as kind
use Rattle.records.specs.declared.Call.{Call}
use Rattle.records.specs.declared.Call.TheVariants as call
use Rattle.blocks.specs.Types.{Use, same, task, beside, Form, forms, no_form, first_form, form_at, form_of, is_none}
use Rattle.blocks.proofs.Places.{decide, clash}
use Rattle.std.specs.Prelude.{Ok}

-- nothing is given beside, and one number at most is
abbrev pub NoBeside : List Use → Type 0
NoBeside [] = Unit {0}
NoBeside (same ∷ us) = NoBeside us
NoBeside (task ∷ us) = NoBeside us
NoBeside (beside ∷ us) = ⊥

abbrev pub Alone : List Use → Type 0
Alone [] = Unit {0}
Alone (same ∷ us) = Alone us
Alone (task ∷ us) = Alone us
Alone (beside ∷ us) = NoBeside us

-- its widths are of a byte at least, each number has its use and its number in the call, one is given beside at most,
-- and it is found by its kind and by its byte
pub record Sound (f : Form) : Type 0 where
  pub wide : Wide f.widths
  pub alike : length f.uses ≡ length f.widths
  pub body : length (body_of f.name) ≡ length f.widths
  pub alone : Alone f.uses
  pub named : form_of f.name ≡ f
  pub found : form_at f.byte ≡ f

abbrev Each : (Form → Type 0) → List Form → Type 0
Each P [] = Unit {0}
Each P (f ∷ fs) = P f × Each P fs

-- what holds of each form, and of none, holds of the first that passes a test
every : (P : Form → Type 0) (test : Form → Bool) (fs : List Form) → P no_form → Each P fs → P (first_form test fs)
every P test [] n h = n
every P test (f ∷ fs) n h = go (test f) (every P test fs n h.1)
  where
    go : (b : Bool) → P (first_form test fs) → P (cond b f (first_form test fs))
    go true q = h.0
    go false q = q

nothing : Sound no_form
unfolding form_at form_of
nothing = record { wide = tt; alike = refl; body = refl; alone = tt; named = refl; found = refl }

listed : Each Sound forms
unfolding form_at form_of
listed = (
  record { wide = tt; alike = refl; body = refl; alone = tt; named = refl; found = refl },
  (
    record { wide = (lit< tt, (lit< tt, tt)); alike = refl; body = refl; alone = tt; named = refl; found = refl },
    (
      record { wide = (lit< tt, (lit< tt, tt)); alike = refl; body = refl; alone = tt; named = refl; found = refl },
      (record { wide = (lit< tt, (lit< tt, (lit< tt, tt))); alike = refl; body = refl; alone = tt; named = refl; found = refl }, tt),
    ),
  ),
)

pub sound-at : (b : ℕ) → Sound (form_at b)
unfolding form_at
sound-at b = every Sound (λ f. eqb b f.byte) forms nothing listed

pub sound-of : (k : Kind) → Sound (form_of k)
unfolding form_of
sound-of k = every Sound (λ f. eqb (place k) (place f.name)) forms nothing listed

-- a byte that is none of the four is of no form
pub none_else : (b : ℕ) → b ≢ 0 → b ≢ 1 → b ≢ 2 → b ≢ 5 → is_none (form_at b) ≡ true
unfolding form_at
none_else b n0 n1 n2 n5 = rw (ne_eqb b 0 n0, ne_eqb b 1 n1, ne_eqb b 2 n2, ne_eqb b 5 n5)

-- the form of a kind that has a block is of that kind
pub name_of : (k : Kind) → is_none (form_of k) ≡ false → (form_of k).name ≡ k
unfolding form_of
name_of kind.Unknown e = clash e
name_of kind.Terminate e = refl
name_of kind.Restart e = refl
name_of kind.Pause e = refl
name_of kind.CancelPause e = clash e
name_of kind.StartIfDormant e = clash e
name_of kind.StartOrQueue e = refl
name_of kind.Flag e = clash e
name_of kind.Wait e = clash e
name_of kind.Alarm e = clash e
name_of kind.Tick e = clash e
name_of kind.Granule e = clash e
name_of kind.Task e = clash e
name_of kind.End e = clash e
name_of kind.Enter e = clash e
name_of kind.Exit e = clash e
name_of kind.Send e = clash e
name_of kind.Receive e = clash e

-- a call has as many numbers as its kind's body
pub call_length_lem : (c : Call) → length (fields_of c) ≡ length (body_of (kind_of_call c))
call_length_lem call.Terminate = refl
call_length_lem (call.Restart p n) = refl
call_length_lem (call.Pause u n) = refl
call_length_lem (call.CancelPause t) = refl
call_length_lem (call.StartIfDormant o t) = refl
call_length_lem (call.StartOrQueue o t a) = refl
call_length_lem (call.Flag o f) = refl
call_length_lem (call.Wait m x) = refl
call_length_lem (call.Alarm u n f) = refl
call_length_lem call.Tick = refl
call_length_lem (call.Granule g) = refl
call_length_lem (call.Task p m) = refl
call_length_lem call.End = refl
call_length_lem (call.Enter m) = refl
call_length_lem (call.Exit m) = refl
call_length_lem (call.Send t x) = refl
call_length_lem (call.Receive t) = refl

-- a form that is found by a byte has that byte
found-byte : (b : ℕ) (fs : List Form) → is_none (first_form (λ f. eqb b f.byte) fs) ≡ false → (first_form (λ f. eqb b f.byte) fs).byte ≡ b
found-byte b [] e = clash e
found-byte b (f ∷ fs) e =
    decide (eqb b f.byte)
    (λ t. rw t (sym (eqb-true b f.byte t)))
    (λ u. rw u (found-byte b fs (rw u at e)))

pub byte_at : (b : ℕ) → is_none (form_at b) ≡ false → (form_at b).byte ≡ b
unfolding form_at
byte_at b e = found-byte b forms e

-- numbers of a kind that has a block are a call
pub is_call : (k : Kind) → is_none (form_of k) ≡ false → (xs : List ℕ) → (c : Call) × (got_of k xs ≡ Ok c)
unfolding form_of
is_call kind.Unknown e xs = clash e
is_call kind.Terminate e xs = (_, refl)
is_call kind.Restart e xs = (_, refl)
is_call kind.Pause e xs = (_, refl)
is_call kind.CancelPause e xs = clash e
is_call kind.StartIfDormant e xs = clash e
is_call kind.StartOrQueue e xs = (_, refl)
is_call kind.Flag e xs = clash e
is_call kind.Wait e xs = clash e
is_call kind.Alarm e xs = clash e
is_call kind.Tick e xs = clash e
is_call kind.Granule e xs = clash e
is_call kind.Task e xs = clash e
is_call kind.End e xs = clash e
is_call kind.Enter e xs = clash e
is_call kind.Exit e xs = clash e
is_call kind.Send e xs = clash e
is_call kind.Receive e xs = clash e
