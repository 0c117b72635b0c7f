-- The plan of kind 0A is good.
use mathlib.Core.Path.{◌≡◌, refl, sym, ◌∙◌}
use mathlib.Core.Bool.{Bool, true, false, cond}
use mathlib.Core.List.{[]}
use Prim.Native.Nat.{ℕ, ◌<◌}
use native.Mathlib.Omega.{arith}
use borrow.Author.Tests.{eqb-false}
use lib.Dec.{eqb}
use Rattle.executive.specs.declared.State.{State}
use Rattle.executive.specs.declared.State.TheVariants.{Flags}
use Rattle.executive.specs.declared.Table.{Table}
use Rattle.executive.specs.Entries.{with_state}
use Rattle.executive.specs.Plans.{nothing, wait_plan}
use Rattle.executive.specs.Flags.{met, mode_of}
use Rattle.executive.specs.Table.{leaves}
use Rattle.executive.specs.States.{has_mask}
use Rattle.executive.proofs.Lists.Tests.{false_not_true}
use Rattle.executive.proofs.Plans.WorkingForm.{WellFormedByPart}
use Rattle.executive.proofs.Plans.GoodIsKept.{Good}
use Rattle.executive.proofs.Plans.Shared.{nothing-good, waits-good}
use Rattle.executive.proofs.states.Laws.{mask-waits, mask-no-time, flags-mask, flags_mode}

module _ (t : Table) (w : WellFormedByPart t) where
  -- ---- 0A
  pub wait_good : 0 < t.ready → (m mask : ℕ) → eqb mask 0 ≡ false → Good (wait_plan t m mask) t
  unfolding wait_plan
  wait_good h m mask z = go (met t.rest.flags (mode_of m) mask) refl
    where
      go : (b : Bool) → met t.rest.flags (mode_of m) mask ≡ b
          → Good (cond b (nothing t) (record { out = leaves (with_state (Flags (mode_of m) mask)); ins = []; rest = t.rest })) t
      go true e = nothing-good t w
      go false e =
          let s : State = Flags (mode_of m) mask in
          let k : has_mask s ≡ true = flags-mask (mode_of m) mask in
          waits-good t w h s (λ q. false_not_true (sym (mask-no-time s k) ∙ q), λ _. (omega (arith, eqb-false mask 0 z), rw (flags_mode (mode_of m) mask) e)) (mask-waits s k)
