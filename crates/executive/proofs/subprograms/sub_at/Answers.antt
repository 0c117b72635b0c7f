use mathlib.Core.Path.{sym}
use lib.ListN.{get_or-eq_default}
use Rattle.executive.specs.Lists.{pad}
use Rattle.executive.specs.Subprograms.{no_subprogram}
use Rattle.executive.proofs.subprograms.sub_at.Goals as goal

pub returns-else-i-subs : goal.returns-else-i-subs
unfolding pad
returns-else-i-subs c = sym (get_or-eq_default c.args.subs.now no_subprogram c.if-i-subs.false)
