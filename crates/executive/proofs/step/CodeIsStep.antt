-- From the first refusal to what a call is answered, and from a call to the step of a record's bytes.
use Prim.Native.Nat.{ℕ}
use mathlib.Core.Path.{◌≡◌, refl}
use mathlib.Core.Bool.{true, false}
use mathlib.Core.List.{List}
use borrow.Author.Tests.{ne_eqb}
use lib.Dec.{eqb}
use lib.ListN.{length}
use Rattle.records.specs.Firsts.{first_of}
use Rattle.records.specs.declared.Call.{Call}
use Rattle.records.specs.Kinds.{length_of, is_call}
use Rattle.executive.specs.declared.Table.{Table}
use Rattle.executive.specs.Check.{queue_right, is_well_formed}
use Rattle.executive.specs.Refusals.{kind_of_record, call_in, call_refusals, refusals}
use Rattle.executive.specs.Step.{accepted, refused, performed, step_of}

-- ---- the first number that is given, or none
module _ (t : Table) (c : Call) where
  pub first-refuses : (n : ℕ) → n ≡ first_of (call_refusals t c) → (n ≡ 0 → ⊥) → refused t n ≡ performed t c
  unfolding performed
  first-refuses n e h = rw (← e, ne_eqb n 0 h) refl

  pub none-refuses : first_of (call_refusals t c) ≡ 0 → accepted t c ≡ performed t c
  unfolding performed
  none-refuses e = rw e refl

-- ---- the step of a record's bytes
module _ (t : Table) (s : List ℕ) where
  pub step-queue : queue_right t ≡ false → refused t 1 ≡ step_of t s
  unfolding step_of refusals first_of is_well_formed
  step-queue q = rw q refl

  pub step-ill : is_well_formed t ≡ false → refused t 1 ≡ step_of t s
  unfolding step_of refusals first_of
  step-ill w = rw w refl

  module _ (w : is_well_formed t ≡ true) where
    pub step-empty : length s ≡ 0 → refused t 3 ≡ step_of t s
    unfolding step_of refusals first_of
    step-empty e = rw (w, e) refl

    module _ (n : length s ≡ 0 → ⊥) where
      pub step-no-call : is_call (kind_of_record s) ≡ false → refused t 4 ≡ step_of t s
      unfolding step_of refusals first_of
      step-no-call k = rw (w, ne_eqb (length s) 0 n, k) refl

      module _ (k : is_call (kind_of_record s) ≡ true) where
        pub step-short : eqb (length s) (length_of (kind_of_record s)) ≡ false → refused t 3 ≡ step_of t s
        unfolding step_of refusals first_of
        step-short l = rw (w, ne_eqb (length s) 0 n, k, l) refl

        pub step-whole : eqb (length s) (length_of (kind_of_record s)) ≡ true → performed t (call_in s) ≡ step_of t s
        unfolding step_of refusals first_of performed
        step-whole l = rw (w, ne_eqb (length s) 0 n, k, l) refl
