-- What the lamp shows of a word of 16 bits: its highest set bit, and nothing exactly of word 0.
use Prim.Native.Nat.{ℕ, zero, suc, ◌^◌, ◌<◌}
use mathlib.Core.Path.{◌≡◌, refl, sym, ap, ◌∙◌}
use mathlib.Core.Logic.{◌↔◌}
use mathlib.Core.Bool.{Bool, true, false, cond}
use native.Mathlib.Omega.{arith}
use lib.Dec.{ltb}
use Rattle.executive.specs.Flags.{is_set}
use Rattle.executive.specs.Lamp.{lamp_below, lamp_of}
use Rattle.executive.specs.Promises.LampLaw.{Highest}
use Rattle.executive.proofs.Lists.Tests.{Lt, lt_yes, lt_no, ltb-is, false_not_true}
use Rattle.executive.proofs.flags.Bits.{set-none, set-within, same_bits}
use Rattle.std.proofs.Common.{None, Some}

-- ---- one lamp is not another
dark-not-level : {A : Type 0} (p : ℕ) → None ≡ Some p → A
dark-not-level p e = absurd (let z : ◌≡◌ {A = ℕ} 0 1 = cc in omega arith)

same-level : (p q : ℕ) → Some p ≡ Some q → p ≡ q
same-level p q e = cc

module _ (w : ℕ) where
  pub unset : (p : ℕ) → (is_set w p ≡ true → ⊥) → is_set w p ≡ false
  unset p n = go (is_set w p) refl
    where
      go : (b : Bool) → is_set w p ≡ b → b ≡ false
      go true e = absurd (n e)
      go false e = refl

  -- ---- of the n lowest bits
  one_more : (n : ℕ) → is_set w n ≡ false → (p : ℕ) → (p < n → is_set w p ≡ false) → p < suc n → is_set w p ≡ false
  one_more n e p f h = go (ltb p n) (ltb-is p n)
    where
      go : (b : Bool) → Lt p n b → is_set w p ≡ false
      go true (lt_yes l) = f l
      go false (lt_no l) = let z : p ≡ n = omega arith in ap (is_set w) z ∙ e

  none_below : (n : ℕ) → lamp_below w n ≡ None → (p : ℕ) → p < n → is_set w p ≡ false
  unfolding lamp_below
  none_below zero e p h = absurd (omega arith)
  none_below (suc n) e p h = go (is_set w n) refl e (none_below n)
    where
      go : (b : Bool) → is_set w n ≡ b → cond b (Some n) (lamp_below w n) ≡ None → (lamp_below w n ≡ None → (q : ℕ) → q < n → is_set w q ≡ false) → is_set w p ≡ false
      go true f e ih = dark-not-level n (sym e)
      go false f e ih = one_more n f p (ih e p) h

  set_below : (n p : ℕ) → p < n → is_set w p ≡ true → ((q : ℕ) → p < q → q < n → is_set w q ≡ false) → lamp_below w n ≡ Some p
  unfolding lamp_below
  set_below zero p h e f = absurd (omega arith)
  set_below (suc n) p h e f = go (ltb p n) (ltb-is p n) (set_below n p)
    where
      go : (b : Bool) → Lt p n b → (p < n → is_set w p ≡ true → ((q : ℕ) → p < q → q < n → is_set w q ≡ false) → lamp_below w n ≡ Some p)
          → cond (is_set w n) (Some n) (lamp_below w n) ≡ Some p
      go true (lt_yes l) ih = rw (f n l (omega arith)) (ih l e (λ q a b. f q a (omega arith)))
      go false (lt_no l) ih =
          let z : n ≡ p = omega arith in
          let y : is_set w n ≡ true = ap (is_set w) z ∙ e in
          rw y (ap Some z)

  below_set : (n p : ℕ) → lamp_below w n ≡ Some p → (is_set w p ≡ true) × ((q : ℕ) → p < q → q < n → is_set w q ≡ false)
  unfolding lamp_below
  below_set zero p e = dark-not-level p e
  below_set (suc n) p e = go (is_set w n) refl e (below_set n p)
    where
      go : (b : Bool) → is_set w n ≡ b → cond b (Some n) (lamp_below w n) ≡ Some p → (lamp_below w n ≡ Some p → (is_set w p ≡ true) × ((q : ℕ) → p < q → q < n → is_set w q ≡ false))
          → (is_set w p ≡ true) × ((q : ℕ) → p < q → q < suc n → is_set w q ≡ false)
      go true f e ih = let z : n ≡ p = same-level n p e in (ap (is_set w) (sym z) ∙ f, λ q a b. absurd (omega arith))
      go false f e ih = let r = ih e in (r.0, λ q a b. one_more n f q (r.1 q a) b)

  -- ---- of all sixteen
  module _ (l : w < 2 ^ 16) where
    pub lamp-top : (p : ℕ) → (lamp_of w ≡ Some p) ↔ Highest w p
    lamp-top p = (get, λ h. set_below 16 p (set-within 16 w p l h.lit) h.lit (λ q a _. h.above q a))
      where
        get : lamp_of w ≡ Some p → Highest w p
        get e =
            let r = below_set 16 p e in
            record { lit = r.0; above = λ q a. unset q (λ s. false_not_true (sym (r.1 q a (set-within 16 w q l s)) ∙ s)) }

    none-zero : ((p : ℕ) → is_set w p ≡ true → ⊥) → w ≡ 0
    none-zero n = same_bits 16 w 0 l (omega arith) (λ p. (λ s. absurd (n p s), λ s. false_not_true (sym (set-none p) ∙ s)))

    dark-zero : w ≡ 0 → lamp_of w ≡ None
    unfolding lamp_below is_set
    dark-zero z = ap (λ (x : ℕ). lamp_of x) z

    pub lamp-none : (lamp_of w ≡ None) ↔ (w ≡ 0)
    lamp-none = (λ e. none-zero (λ p s. false_not_true (sym (none_below 16 e p (set-within 16 w p l s)) ∙ s)), dark-zero)

    pub lamp-dark : ((p : ℕ) → is_set w p ≡ true → ⊥) → lamp_of w ≡ None
    lamp-dark n = dark-zero (none-zero n)
