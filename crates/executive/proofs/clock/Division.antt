-- Long division by shifts and subtractions: the interval doubled until it is more than the length, and halved again.
use Prim.Native.Nat.{ℕ, zero, suc, ◌+◌, ◌-◌, ◌*◌, ◌/◌, ◌%◌, ◌^◌, ◌≤◌, ◌<◌}
use mathlib.Core.Path.{◌≡◌, sym, ap, ◌∙◌}
use native.Mathlib.Nat.{mod-eq_of_lt, add-mul, mul_assoc, mul-one, mul-le-mul, le_refl, pow-suc}
use native.Mathlib.Omega.{arith}
use lib.Arith.{digits_div, digits_mod}
use lib.Pow.{pow_pos}
use Rattle.executive.specs.Numbers.{end_of_time}

-- a step is the interval, doubled some times
pub record Doubled (every step : ℕ) : Type 0 where
  pub turns : ℕ
  pub is : step ≡ every * 2 ^ turns

-- once more
more : (every k : ℕ) → every * 2 ^ k * 2 ≡ every * 2 ^ suc k
more every k = mul_assoc every (2 ^ k) 2 ∙ ap (λ (n : ℕ). every * n) (sym (pow-suc 2 k))

-- what is no more than a length fits its word doubled
pub fits : (x : ℕ) → x ≤ end_of_time → x * 2 % 18446744073709551616 ≡ x * 2
fits x l = mod-eq_of_lt (omega arith)

module _ {every step : ℕ} (d : Doubled every step) where
  pub doubled : Doubled every (step * 2)
  doubled = record { turns = suc d.turns; is = ap (λ (n : ℕ). n * 2) d.is ∙ more every d.turns }

  pub some : 0 < every → 0 < step
  some p =
      let m : 1 * 1 ≤ every * 2 ^ d.turns = mul-le-mul p (pow_pos d.turns) in
      omega (arith, d.is)

  -- a step that is not the interval is twice a step
  halved : (step ≡ every → ⊥) → (step ≡ 2 * (step / 2)) × Doubled every (step / 2)
  halved other = go d.turns d.is
    where
      go : (k : ℕ) → step ≡ every * 2 ^ k → (step ≡ 2 * (step / 2)) × Doubled every (step / 2)
      go zero e = absurd (other (e ∙ mul-one every))
      go (suc k) e =
          let t : step ≡ every * 2 ^ k * 2 = e ∙ sym (more every k) in
          (omega arith, record { turns = k; is = omega arith })

-- what is kept while the step is halved: times and rest are those of the length by the step
pub record Divided (n every step times rest : ℕ) : Type 0 where
  pub steps : Doubled every step
  pub parts : n ≡ times * step + rest
  pub less : rest < step

module _ {n every step times rest : ℕ} (d : Divided n every step times rest) where
  -- no more times than the length has milliseconds
  pub times-low : n ≤ end_of_time → times ≤ end_of_time
  times-low l =
      let o : 1 ≤ step = omega (arith, d.less) in
      let m : times * 1 ≤ times * step = mul-le-mul (le_refl times) o in
      omega (arith, d.parts)

  module _ (other : step ≡ every → ⊥) where
    twice : n ≡ times * 2 * (step / 2) + rest
    twice =
        d.parts
        ∙ ap (λ (s : ℕ). times * s + rest) (halved d.steps other).0
        ∙ ap (λ (p : ℕ). p + rest) (sym (mul_assoc times 2 (step / 2)))

    -- where half the step is more than the rest, the times are doubled
    pub left : rest < step / 2 → Divided n every (step / 2) (times * 2) rest
    left l = record { steps = (halved d.steps other).1; parts = twice; less = l }

    -- where it fits it is taken off, and counts once more
    pub taken : step / 2 ≤ rest → Divided n every (step / 2) (times * 2 + 1) (rest - step / 2)
    taken l =
        let h = halved d.steps other in
        let s = add-mul (times * 2) 1 (step / 2) in
        record { steps = h.1; parts = omega (arith, twice); less = omega (arith, h.0, d.less) }

  -- at the end the step is the interval again
  pub ended : step ≡ every → (times ≡ n / every) × (rest ≡ n % every)
  ended e =
      let p : n ≡ times * every + rest = rw e at d.parts in
      let l : rest < every = rw e at d.less in
      (rw p (sym (digits_div times l)), rw p (sym (digits_mod times l)))
