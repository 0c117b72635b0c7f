use mathlib.Core.Path.{refl}
use Rattle.executive.specs.Decisions.{queue_request_deed}
use Rattle.executive.proofs.starts.start_later.Goals as goal

pub returns : goal.returns
unfolding queue_request_deed
returns c = rw (c.none-entrants.ensures, c.leave_of-leave.ensures) refl
