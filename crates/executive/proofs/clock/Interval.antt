-- Intervals: how they are added up, and the largest.
use Prim.Native.Nat.{ℕ, zero, suc, ◌+◌, ◌-◌, ◌*◌, ◌/◌, ◌%◌, ◌≤◌, ◌<◌}
use mathlib.Core.Path.{◌≡◌, refl, sym, ap, ◌∙◌}
use native.Mathlib.Nat.{mul-le-mul, mul-le-mul_right, le_trans, div-add-mod', mod-lt, add-mul, mul_assoc, mul_comm}
use native.Mathlib.Omega.{arith}
use lib.ListN.{get_or}
use lib.Dec.{lit≤, eqb, ltb}
use borrow.Author.Tests.{ltb-true, ltb-false}
use mathlib.Core.Bool.{Bool, true, false, cond}
use Rattle.executive.specs.Numbers.{last_unit, longest}
use Rattle.executive.specs.declared.Millis.{Millis}
use Rattle.executive.specs.Clock.{units, interval, missed, next_on_grid, skips_missed, aim_at}

-- the largest count of any unit is at most the longest interval
unit-most : (u : ℕ) → 255 * get_or units u 0 ≤ longest
unit-most zero = lit≤ tt
unit-most (suc zero) = lit≤ tt
unit-most (suc (suc zero)) = lit≤ tt
unit-most (suc (suc (suc zero))) = lit≤ tt
unit-most (suc (suc (suc (suc zero)))) = lit≤ tt
unit-most (suc (suc (suc (suc (suc zero))))) = lit≤ tt
unit-most (suc (suc (suc (suc (suc (suc u)))))) = lit≤ tt

pub interval-most : (u n : ℕ) → n < 256 → (interval u n).0 ≤ longest
unfolding interval
interval-most u n h = le_trans (mul-le-mul_right (get_or units u 0) (omega arith)) (unit-most u)

unit-least : (u : ℕ) → u ≤ last_unit → 1 ≤ get_or units u 0
unit-least zero h = lit≤ tt
unit-least (suc zero) h = lit≤ tt
unit-least (suc (suc zero)) h = lit≤ tt
unit-least (suc (suc (suc zero))) h = lit≤ tt
unit-least (suc (suc (suc (suc zero)))) h = lit≤ tt
unit-least (suc (suc (suc (suc (suc zero))))) h = lit≤ tt
unit-least (suc (suc (suc (suc (suc (suc u)))))) h = absurd (omega arith)

-- no interval of one unit or more is 0
pub interval-some : (u n : ℕ) → u ≤ last_unit → 0 < n → 0 < (interval u n).0
unfolding interval
interval-some u n h g =
    let i : 1 ≤ n = omega arith in
    let l : 1 * 1 ≤ n * get_or units u 0 = mul-le-mul i (unit-least u h) in
    omega arith

-- the first grid time after now, by what is left over of the last interval
pub next-by-rest : (start now every : Millis) → start.0 ≤ now.0 → 0 < every.0
    → next_on_grid start now every ≡ record { 0 = now.0 + (every.0 - (now.0 - start.0) % every.0) }
unfolding next_on_grid missed
next-by-rest start now every h p =
    let d = now.0 - start.0 in
    let e : d / every.0 * every.0 + d % every.0 ≡ d = div-add-mod' d every.0 in
    let m : (d / every.0 + 1) * every.0 ≡ d / every.0 * every.0 + 1 * every.0 = add-mul (d / every.0) 1 every.0 in
    let l : d % every.0 < every.0 = mod-lt d p in
    ap (λ (n : ℕ). record { 0 = n }) (omega arith)

-- it is ahead, by an interval at most
pub next-ahead : (start now every : Millis) → start.0 ≤ now.0 → 0 < every.0
    → (now.0 < (next_on_grid start now every).0) × ((next_on_grid start now every).0 ≤ now.0 + every.0)
next-ahead start now every h p =
    let l : (now.0 - start.0) % every.0 < every.0 = mod-lt (now.0 - start.0) p in
    rw (next-by-rest start now every h p) (omega arith, omega arith)

pub skips-some : (p n : ℕ) → skips_missed p n ≡ true → 0 < n
skips-some p n = go (eqb (p / 64 % 4) 1)
  where
    go : (b : Bool) → cond b (ltb 0 n) false ≡ true → 0 < n
    go true e = ltb-true 0 n e
    go false e = absurd (let z : ◌≡◌ {A = ℕ} 0 1 = cc in omega arith)

-- the interval of a restart that skips
pub every_some : (p n : ℕ) → p % 8 ≤ last_unit → n < 256 → skips_missed p n ≡ true → (0 < (interval (p % 8) n).0) × ((interval (p % 8) n).0 ≤ longest)
every_some p n u h s = (interval-some (p % 8) n u (skips-some p n s), interval-most (p % 8) n h)

-- a restart aims at most the largest interval ahead
pub aim-most : (start now : Millis) (p n : ℕ) → start.0 ≤ now.0 → n < 256 → (aim_at start now p n).0 ≤ now.0 + longest
unfolding aim_at
aim-most start now p n h hn = go (ltb last_unit (p % 8)) refl (skips_missed p n) refl (ltb p 128)
  where
    every : Millis
    every = interval (p % 8) n

    go : (a : Bool) → ltb last_unit (p % 8) ≡ a → (s : Bool) → skips_missed p n ≡ s → (b : Bool)
        → (cond {A = Millis} a now (cond s (next_on_grid start now every) (record { 0 = cond b start.0 now.0 + every.0 }))).0 ≤ now.0 + longest
    go true e s f b = omega arith
    go false e true f b =
        let some = every_some p n (omega (arith, ltb-false last_unit (p % 8) e)) hn f in
        omega (arith, (next-ahead start now every h some.0).1, some.1)
    go false e false f true = omega (arith, interval-most (p % 8) n hn)
    go false e false f false = omega (arith, interval-most (p % 8) n hn)

-- a turn of adding up: so many steps are half as many of twice the length, and one step besides where the number is odd
halved : (left step : ℕ) → left * step ≡ left / 2 * (step * 2) + left % 2 * step
halved left step =
    ap (λ (n : ℕ). n * step) (sym (div-add-mod' left 2))
    ∙ add-mul (left / 2 * 2) (left % 2) step
    ∙ ap (λ (n : ℕ). n + left % 2 * step) (mul_assoc (left / 2) 2 step ∙ ap (λ (n : ℕ). left / 2 * n) (mul_comm 2 step))

pub turned : (left step bit : ℕ) → left % 2 ≡ bit → left * step ≡ left / 2 * (step * 2) + bit * step
turned left step bit e = halved left step ∙ ap (λ (n : ℕ). left / 2 * (step * 2) + n * step) e

-- while some are left, a step fits where all of them do
pub step-within : (left step most : ℕ) → 0 < left → left * step ≤ most → step ≤ most
step-within left step most h l =
    let i : 1 ≤ left = omega arith in
    let s : 1 * step ≤ left * step = mul-le-mul_right step i in
    omega arith
