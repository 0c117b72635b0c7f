use mathlib.Core.Path.{refl}
use Rattle.executive.specs.Decisions.{start_now_deed}
use Rattle.executive.proofs.starts.start_now.Goals as goal

pub returns : goal.returns
unfolding start_now_deed
returns c = rw (c.also-entrants.ensures, c.none-l.ensures, c.leave_of-leave.ensures, c.at_once-o.ensures) refl
