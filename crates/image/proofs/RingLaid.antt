-- What is read of an alarm in an image: whether it is due. Those that are not running are passed over.
use Prim.Native.Nat.{ℕ, zero, suc, ◌+◌, ◌-◌, ◌*◌, ◌≤◌, ◌<◌}
use mathlib.Core.Path.{◌≡◌, refl, sym, ap, ◌∙◌}
use mathlib.Core.Bool.{Bool, true, false, not}
use mathlib.Core.List.{List}
use native.Mathlib.Omega.{arith}
use native.Mathlib.Numerals.{add-one}
use lib.Dec.{eqb, leb}
use lib.ListN.{length, get_or, drop}
use Rattle.records.specs.Numbers.{number_of, part}
use Rattle.executive.specs.declared.Millis.{Millis}
use Rattle.executive.specs.declared.Table.{Table}
use Rattle.executive.specs.Lists.{next_of, each}
use Rattle.executive.specs.Places.{never}
use Rattle.executive.specs.Clock.{is_due}
use Rattle.executive.specs.Flags.{is_set}
use Rattle.executive.proofs.Assured.{false_not_true, not-of, next-hit, next-pass, next-end, each_turn}
use Rattle.image.specs.Laid.{Laid}
use Rattle.image.specs.Marks.{Next, Running}
use Rattle.image.proofs.ReadOff.{alarm-read}

-- an alarm that is running, x being its time
module _ {s : List ℕ} (t : Table) (l : Laid s t) (i : ℕ) (h : i < 32) (c x : ℕ) (e : x ≡ number_of (part 8 (448 + i * 8) s)) where
  pub due-by : eqb (get_or t.rest.alarms i never).0 0 ≡ false → leb x c ≡ is_due c (get_or t.rest.alarms i never)
  due-by z =
      let n : leb (get_or t.rest.alarms i never).0 c ≡ is_due c (get_or t.rest.alarms i never) = rw z refl in
      ap (λ (y : ℕ). leb y c) (e ∙ alarm-read t l i h) ∙ n

-- ---- the set of the alarms that are running: a member is one; between one number and the next member none is due
of-not_false : (b : Bool) → not b ≡ false → b ≡ true
of-not_false true e = refl
of-not_false false e = false_not_true (sym e)

module _ {w : ℕ} {alarms : List Millis} (r : Running w alarms) where
  pub runs : (j : ℕ) → j < 32 → is_set w j ≡ true → eqb (get_or alarms j never).0 0 ≡ false
  runs j h e = not-of (eqb (get_or alarms j never).0 0) (sym (r.told j h) ∙ e)

  pub idle : (c : ℕ) {i k : ℕ} → Next w i k → (j : ℕ) → i ≤ j → j < k → is_due c (get_or alarms j never) ≡ false
  idle c n j g h =
      let z : eqb (get_or alarms j never).0 0 ≡ true = of-not_false (eqb (get_or alarms j never).0 0) (sym (r.told j (omega (arith, n.most))) ∙ n.skipped j g h) in
      rw z refl

-- ---- a search, and a step for each number, from i on and from j on: those between fail the test; the step does nothing there
module _ {A : Type 0} (f : A → Bool) (d : A) (l : List A) where
  skips : (m i j : ℕ) → m + i ≡ j → j ≤ length l → ((k : ℕ) → i ≤ k → k < j → f (get_or l k d) ≡ false) → next_of f i (drop i l) ≡ next_of f j (drop j l)
  skips zero i j e g h = let z : i ≡ j = omega arith in ap (λ (k : ℕ). next_of f k (drop k l)) z
  skips (suc m) i j e g h = next-pass f d l i i (omega arith) (h i (omega arith) (omega arith)) ∙ skips m (suc i) j (omega arith) g (λ k u v. h k (omega arith) v)

  pub next-skips : (i j : ℕ) → i ≤ j → j ≤ length l → ((k : ℕ) → i ≤ k → k < j → f (get_or l k d) ≡ false) → next_of f i (drop i l) ≡ next_of f j (drop j l)
  next-skips i j a = skips (j - i) i j (omega arith)

module _ {B : Type 0} (f : B → ℕ → B) (a : B) where
  still : (m i j : ℕ) → m + i ≡ j → j ≤ 32 → ((k : ℕ) → i ≤ k → k < j → f a k ≡ a) → each f (32 - i) i a ≡ each f (32 - j) j a
  still zero i j e g h = let z : i ≡ j = omega arith in ap (λ (k : ℕ). each f (32 - k) k a) z
  still (suc m) i j e g h = each_turn f 32 i a (omega arith) ∙ ap (each f (32 - (i + 1)) (i + 1)) (h i (omega arith) (omega arith)) ∙ still m (i + 1) j (omega arith) g (λ k u v. h k (omega arith) v)

  pub each-skips : (i j : ℕ) → i ≤ j → j ≤ 32 → ((k : ℕ) → i ≤ k → k < j → f a k ≡ a) → each f (32 - i) i a ≡ each f (32 - j) j a
  each-skips i j u = still (j - i) i j (omega arith)

-- ---- the search for the next due alarm: it goes on at the next member of the set
module _ (c : ℕ) {s : List ℕ} (t : Table) (l : Laid s t) where
  pub due-hit : (i : ℕ) → i < 32 → is_due c (get_or t.rest.alarms i never) ≡ true → i ≡ next_of (is_due c) i (drop i t.rest.alarms)
  due-hit i h e = sym (next-hit (is_due c) never t.rest.alarms i i (omega (arith, l.sizes.alarms)) e)

  pub due-end : (i : ℕ) → 32 ≤ i → i ≡ next_of (is_due c) i (drop i t.rest.alarms)
  due-end i h = sym (next-end (is_due c) never t.rest.alarms i i (omega (arith, l.sizes.alarms)))

  module _ {w : ℕ} (r : Running w t.rest.alarms) where
    pub due-first : (i k : ℕ) → Next w i k → next_of (is_due c) k (drop k t.rest.alarms) ≡ next_of (is_due c) i (drop i t.rest.alarms)
    due-first i k n = sym (next-skips (is_due c) never t.rest.alarms i k n.least (omega (arith, l.sizes.alarms, n.most)) (idle r c n))

    pub due-next : (i k : ℕ) → i < 32 → is_due c (get_or t.rest.alarms i never) ≡ false → Next w (i + 1) k
        → next_of (is_due c) k (drop k t.rest.alarms) ≡ next_of (is_due c) i (drop i t.rest.alarms)
    due-next i k h e n =
        let p : next_of (is_due c) (i + 1) (drop (i + 1) t.rest.alarms) ≡ next_of (is_due c) i (drop i t.rest.alarms) =
        rw add-one (sym (next-pass (is_due c) never t.rest.alarms i i (omega (arith, l.sizes.alarms)) e)) in
        due-first (i + 1) k n ∙ p
