-- A call is of its kind and its numbers, and a kind with some numbers is a call of that kind with these numbers.
use Prim.Native.Nat.{ℕ}
use mathlib.Core.Path.{◌≡◌, refl, sym, ap, ◌∙◌}
use mathlib.Core.List.{List}
use native.Mathlib.Omega.{arith}
use lib.ListN.{length}
use Rattle.records.specs.Kinds.{body_of}
use Rattle.records.specs.Calls.{kind_of_call, fields_of, got_of}
use Rattle.records.specs.declared.Kind.{Kind}
use Rattle.records.specs.declared.Kind.TheVariants as kind
use Rattle.records.specs.declared.Call.{Call}
use Rattle.records.specs.declared.Call.TheVariants as call
use Rattle.records.proofs.Numbers.{part-drop}
use Rattle.records.proofs.RoundTrips.{refused, same}
use Rattle.std.specs.Prelude.{Ok}
use Rattle.records.specs.declared.Refusal.TheVariants as refusal

pub call-whole : (c : Call) → got_of (kind_of_call c) (fields_of c) ≡ Ok c
call-whole call.Terminate = refl
call-whole (call.Restart p n) = refl
call-whole (call.Pause u n) = refl
call-whole (call.CancelPause t) = refl
call-whole (call.StartIfDormant o t) = refl
call-whole (call.StartOrQueue o t a) = refl
call-whole (call.Flag o f) = refl
call-whole (call.Wait m x) = refl
call-whole (call.Alarm u n f) = refl
call-whole call.Tick = refl
call-whole (call.Granule g) = refl
call-whole (call.Task p m) = refl
call-whole call.End = refl
call-whole (call.Enter m) = refl
call-whole (call.Exit m) = refl
call-whole (call.Send t x) = refl
call-whole (call.Receive t) = refl

pub call-parts : (k : Kind) (xs : List ℕ) (c : Call) → length xs ≡ length (body_of k) → got_of k xs ≡ Ok c
    → (kind_of_call c ≡ k) × (fields_of c ≡ xs)
call-parts kind.Unknown xs c n e = absurd (refused refusal.UnknownKind c e)
call-parts kind.Terminate xs c n e = (ap kind_of_call (same e), ap fields_of (same e) ∙ sym (part-drop xs 0 0 (omega arith)))
call-parts kind.Restart xs c n e = (ap kind_of_call (same e), ap fields_of (same e) ∙ sym (part-drop xs 2 0 (omega arith)))
call-parts kind.Pause xs c n e = (ap kind_of_call (same e), ap fields_of (same e) ∙ sym (part-drop xs 2 0 (omega arith)))
call-parts kind.CancelPause xs c n e = (ap kind_of_call (same e), ap fields_of (same e) ∙ sym (part-drop xs 1 0 (omega arith)))
call-parts kind.StartIfDormant xs c n e = (ap kind_of_call (same e), ap fields_of (same e) ∙ sym (part-drop xs 2 0 (omega arith)))
call-parts kind.StartOrQueue xs c n e = (ap kind_of_call (same e), ap fields_of (same e) ∙ sym (part-drop xs 3 0 (omega arith)))
call-parts kind.Flag xs c n e = (ap kind_of_call (same e), ap fields_of (same e) ∙ sym (part-drop xs 2 0 (omega arith)))
call-parts kind.Wait xs c n e = (ap kind_of_call (same e), ap fields_of (same e) ∙ sym (part-drop xs 2 0 (omega arith)))
call-parts kind.Alarm xs c n e = (ap kind_of_call (same e), ap fields_of (same e) ∙ sym (part-drop xs 3 0 (omega arith)))
call-parts kind.Tick xs c n e = (ap kind_of_call (same e), ap fields_of (same e) ∙ sym (part-drop xs 0 0 (omega arith)))
call-parts kind.Granule xs c n e = (ap kind_of_call (same e), ap fields_of (same e) ∙ sym (part-drop xs 1 0 (omega arith)))
call-parts kind.Task xs c n e = (ap kind_of_call (same e), ap fields_of (same e) ∙ sym (part-drop xs 2 0 (omega arith)))
call-parts kind.End xs c n e = (ap kind_of_call (same e), ap fields_of (same e) ∙ sym (part-drop xs 0 0 (omega arith)))
call-parts kind.Enter xs c n e = (ap kind_of_call (same e), ap fields_of (same e) ∙ sym (part-drop xs 1 0 (omega arith)))
call-parts kind.Exit xs c n e = (ap kind_of_call (same e), ap fields_of (same e) ∙ sym (part-drop xs 1 0 (omega arith)))
call-parts kind.Send xs c n e = (ap kind_of_call (same e), ap fields_of (same e) ∙ sym (part-drop xs 2 0 (omega arith)))
call-parts kind.Receive xs c n e = (ap kind_of_call (same e), ap fields_of (same e) ∙ sym (part-drop xs 1 0 (omega arith)))
