-- `loading::sub_in` meets its contract: each number is read where the widths put it, the line behind them.
use mathlib.Core.Path.{refl}
use Rattle.image.proofs.loading.sub_in.Goals as goal

pub returns : goal.returns
returns c = rw (c.line_in-line.ensures, c.byte_in-waiting.ensures, c.byte_in-holder.ensures) refl
