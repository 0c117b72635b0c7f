-- The status lamp (02): it shows the highest ready priority, read from the word of the ready levels alone.
use Rattle.std.specs.Prelude.{ℕ, zero, suc, cond, Option, None, Some}
use Rattle.executive.specs.Numbers.{highest}
use Rattle.executive.specs.Flags.{is_set}

-- the highest set bit of the n lowest; dark where none of them is set
unfoldable pub lamp_below : ℕ → ℕ → Option ℕ
lamp_below w zero = None
lamp_below w (suc p) = cond (is_set w p) (Some p) (lamp_below w p)

abbrev pub lamp_of : ℕ → Option ℕ
lamp_of w = lamp_below w (suc highest)
