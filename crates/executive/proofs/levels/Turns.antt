-- For the code: the lamp's search turn by turn, from the highest bit down.
use Prim.Native.Nat.{ℕ, zero, suc, ◌-◌, ◌^◌, ◌≤◌, ◌<◌}
use mathlib.Core.Path.{◌≡◌, refl, sym, ap, ◌∙◌}
use native.Mathlib.Omega.{arith}
use borrow.Author.Tests.{eq-eqb, ne_eqb, le-leb}
use lib.Bits.{bit_and}
use Rattle.executive.specs.Table.{level_bit}
use Rattle.executive.specs.Flags.{is_set}
use Rattle.executive.specs.Lamp.{lamp_below}
use Rattle.std.proofs.Common.{Some}

-- ---- the search, from the highest bit down
module _ (w : ℕ) where
  bit_is : (q : ℕ) → suc q ≤ 16 → level_bit (suc q - 1) ≡ 2 ^ q
  bit_is q l = let z : suc q - 1 ≡ q = omega arith in rw (z, le-leb q 15 (omega arith)) refl

  pub lamp-set : (p : ℕ) → 0 < p → p ≤ 16 → (bit_and w (level_bit (p - 1)) ≡ 0 → ⊥) → Some (p - 1) ≡ lamp_below w p
  unfolding lamp_below is_set
  lamp-set zero h l n = absurd (omega arith)
  lamp-set (suc q) h l n = let z : suc q - 1 ≡ q = omega arith in rw (z, ne_eqb (bit_and w (2 ^ q)) 0 (λ e. n (rw (bit_is q l) e))) refl

  pub lamp-clear : (p : ℕ) → 0 < p → p ≤ 16 → bit_and w (level_bit (p - 1)) ≡ 0 → lamp_below w (p - 1) ≡ lamp_below w p
  unfolding lamp_below is_set
  lamp-clear zero h l e = absurd (omega arith)
  lamp-clear (suc q) h l e = let z : suc q - 1 ≡ q = omega arith in rw (z, eq-eqb (bit_and w (2 ^ q)) 0 (sym (ap (bit_and w) (bit_is q l)) ∙ e)) refl

-- for the code: these, taken together
pub ruleset searched = (lamp-set, lamp-clear)
