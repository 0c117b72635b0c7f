-- The alarms that ring at a tick: those before the next due one do not.
use Prim.Native.Nat.{ℕ, zero, suc, ◌+◌, ◌-◌, ◌^◌, ◌≤◌, ◌<◌}
use mathlib.Core.Path.{◌≡◌, refl, ap, sym, ◌∙◌}
use mathlib.Core.Bool.{Bool, true, false, cond}
use mathlib.Core.List.{List}
use native.Mathlib.Omega.{arith}
use lib.Bits.{bit_or}
use lib.ListN.{length, drop, get_or, set}
use lib.Seq.{get_or-set_other}
use Rattle.executive.specs.declared.Millis.{Millis}
use Rattle.executive.specs.declared.Rest.{Rest}
use Rattle.executive.specs.Lists.{next_of, each}
use Rattle.executive.specs.Decisions.{rung_in}
use Rattle.executive.specs.Rest.{remade}
use Rattle.executive.specs.Clock.{is_due, rung}
use Rattle.executive.specs.Places.{never}
use Rattle.executive.proofs.Lists.Loops.{each_turn}
use Rattle.executive.proofs.Lists.Search.{next-bounds, next-is, each_next}

-- ---- the alarms: a step for each of 32, which does nothing where no alarm is due
module _ {B : Type 0} (f : B → ℕ → B) (a : B) (now : Millis) (alarms : List Millis) (still : (i : ℕ) → is_due now.0 (get_or alarms i never) ≡ false → f a i ≡ a) where
  -- those before the next due one do not ring
  pub due-on : length alarms ≡ 32 → (i j : ℕ) → i ≤ 32 → j ≡ next_of (is_due now.0) i (drop i alarms)
      → (i ≤ j) × (j ≤ 32) × (j < 32 → is_due now.0 (get_or alarms j never) ≡ true) × (each f (32 - i) i a ≡ each f (32 - j) j a)
  due-on l i j h e =
      let t : Millis → Bool = is_due now.0 in
      let m : 32 - i + i ≡ length alarms = omega arith in
      let u : (i ≤ next_of t i (drop i alarms)) × (next_of t i (drop i alarms) ≤ i + (32 - i)) = next-bounds t never alarms (32 - i) i i m in
      let u0 : i ≤ j = rw e u.0 in
      let u1 : j ≤ i + (32 - i) = rw e u.1 in
      let z : i + (j - i) ≡ j = omega arith in
      let x : each f (32 - i) i a ≡ each f (length alarms - j) j a = rw (← e) at (each_next t never alarms f a still (32 - i) i m) in
      (u0, omega arith, λ g. ap (λ k. t (get_or alarms k never)) (sym z) ∙ rw (← e) at (next-is t never alarms (32 - i) i i m (rw (← e) (omega arith))), rw l at x)

abbrev pub ringing : Rest → Millis → List Millis → ℕ → Rest
ringing b now alarms flags = remade now flags alarms b.pool b.queued b

module _ (b : Rest) (now : Millis) (alarms : List Millis) (flags : ℕ) where
  rung-not : (i : ℕ) → is_due now.0 (get_or alarms i never) ≡ false → rung (ringing b now alarms flags) i ≡ ringing b now alarms flags
  unfolding rung
  rung-not i e = rw e refl

  rung-due : (i : ℕ) → is_due now.0 (get_or alarms i never) ≡ true
      → rung (ringing b now alarms flags) i ≡ ringing b now (set alarms i never) (bit_or flags (2 ^ i))
  unfolding rung
  rung-due i e = rw e refl

  pub ring-on : length alarms ≡ 32 → (i j : ℕ) → i ≤ 32 → j ≡ next_of (is_due now.0) i (drop i alarms)
      → (i ≤ j) × (j ≤ 32) × (j < 32 → is_due now.0 (get_or alarms j never) ≡ true)
      × (each rung (32 - i) i (ringing b now alarms flags) ≡ each rung (32 - j) j (ringing b now alarms flags))
  ring-on = due-on rung (ringing b now alarms flags) now alarms rung-not

  pub ring-turn : (i : ℕ) → i < 32 → is_due now.0 (get_or alarms i never) ≡ true
      → each rung (32 - i) i (ringing b now alarms flags) ≡ each rung (32 - (i + 1)) (i + 1) (ringing b now (set alarms i never) (bit_or flags (2 ^ i)))
  ring-turn i h e = each_turn rung 32 i (ringing b now alarms flags) h ∙ ap (each rung (32 - (i + 1)) (i + 1)) (rung-due i e)

  pub ring-pass : (i : ℕ) → i < 32 → is_due now.0 (get_or alarms i never) ≡ false
      → each rung (32 - i) i (ringing b now alarms flags) ≡ each rung (32 - (i + 1)) (i + 1) (ringing b now alarms flags)
  ring-pass i h e = each_turn rung 32 i (ringing b now alarms flags) h ∙ ap (each rung (32 - (i + 1)) (i + 1)) (rung-not i e)

-- the flags alone: a step looks at no alarm before it
module _ (now : Millis) (alarms : List Millis) where
  in_not : (fs i : ℕ) → is_due now.0 (get_or alarms i never) ≡ false → rung_in now.0 alarms fs i ≡ fs
  unfolding rung_in
  in_not fs i e = rw e refl

  pub in_on : (fs : ℕ) → length alarms ≡ 32 → (i j : ℕ) → i ≤ 32 → j ≡ next_of (is_due now.0) i (drop i alarms)
      → (i ≤ j) × (j ≤ 32) × (j < 32 → is_due now.0 (get_or alarms j never) ≡ true)
      × (each (rung_in now.0 alarms) (32 - i) i fs ≡ each (rung_in now.0 alarms) (32 - j) j fs)
  in_on fs = due-on (rung_in now.0 alarms) fs now alarms (in_not fs)

  pub in_turn : (fs i : ℕ) → i < 32 → is_due now.0 (get_or alarms i never) ≡ true
      → each (rung_in now.0 alarms) (32 - i) i fs ≡ each (rung_in now.0 alarms) (32 - (i + 1)) (i + 1) (bit_or fs (2 ^ i))
  unfolding rung_in
  in_turn fs i h e = each_turn (rung_in now.0 alarms) 32 i fs h ∙ rw e refl

  pub in_pass : (fs i : ℕ) → i < 32 → is_due now.0 (get_or alarms i never) ≡ false
      → each (rung_in now.0 alarms) (32 - i) i fs ≡ each (rung_in now.0 alarms) (32 - (i + 1)) (i + 1) fs
  in_pass fs i h e = each_turn (rung_in now.0 alarms) 32 i fs h ∙ ap (each (rung_in now.0 alarms) (32 - (i + 1)) (i + 1)) (in_not fs i e)

  -- the same flags as of the whole rest, whose alarms are cleared on the way
  pub flags-rung : (n k : ℕ) (b : Rest) (al : List Millis) (fs : ℕ) → ((j : ℕ) → k ≤ j → get_or al j never ≡ get_or alarms j never)
      → (each rung n k (ringing b now al fs)).flags ≡ each (rung_in now.0 alarms) n k fs
  unfolding each rung rung_in
  flags-rung zero k b al fs h = refl
  flags-rung (suc n) k b al fs h =
      ap (λ (c : Bool). (each rung n (k + 1) (cond c (ringing b now (set al k never) (bit_or fs (2 ^ k))) (ringing b now al fs))).flags) (ap (is_due now.0) (h k (omega arith)))
      ∙ go (is_due now.0 (get_or alarms k never))
      (flags-rung n (k + 1) b (set al k never) (bit_or fs (2 ^ k)) (λ j l. get_or-set_other al k j never never (omega arith) ∙ h j (omega arith)))
      (flags-rung n (k + 1) b al fs (λ j l. h j (omega arith)))
    where
      go : (c : Bool)
          → (each rung n (k + 1) (ringing b now (set al k never) (bit_or fs (2 ^ k)))).flags ≡ each (rung_in now.0 alarms) n (k + 1) (bit_or fs (2 ^ k))
          → (each rung n (k + 1) (ringing b now al fs)).flags ≡ each (rung_in now.0 alarms) n (k + 1) fs
          → (each rung n (k + 1) (cond c (ringing b now (set al k never) (bit_or fs (2 ^ k))) (ringing b now al fs))).flags
          ≡ each (rung_in now.0 alarms) n (k + 1) (cond c (bit_or fs (2 ^ k)) fs)
      go true x y = x
      go false x y = y
