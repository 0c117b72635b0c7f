-- The event flags: flag n is bit n; what sets and resets one, and when a wait for some of them is over.
use Rattle.std.specs.Prelude.{ℕ, ◌-◌, ◌^◌, Bool, not, cond, eqb}
use Rattle.std.specs.Int.Bits.{bit_and, bit_or}
use Rattle.executive.specs.declared.Rest.{Rest}
use Rattle.executive.specs.declared.Mode.{Mode}
use Rattle.executive.specs.declared.Mode.TheVariants.{Any, All}
use Rattle.executive.specs.Rest.{remade}

-- ---- the flags: flag n is bit n
abbrev pub with_flags : ℕ → Rest → Rest
with_flags fs r = remade r.clock fs r.alarms r.pool r.queued r

unfoldable pub is_set : ℕ → ℕ → Bool
is_set fs n = not (eqb (bit_and fs (2 ^ n)) 0)

abbrev pub flag_set : ℕ → ℕ → ℕ
flag_set fs n = bit_or fs (2 ^ n)

-- every flag but n as it was
abbrev pub flag_reset : ℕ → ℕ → ℕ
flag_reset fs n = bit_and fs (4294967295 - 2 ^ n)

-- ---- flags: the condition of a wait for any or all flags of a mask
abbrev pub met : ℕ → Mode → ℕ → Bool
met fs Any mask = not (eqb (bit_and fs mask) 0)
met fs All mask = eqb (bit_and fs mask) mask

-- ---- 0A: wait for 0 any, 1 all. Condition true already: no change. Otherwise the caller departs
abbrev pub mode_of : ℕ → Mode
mode_of m = cond (eqb m 0) Any All
