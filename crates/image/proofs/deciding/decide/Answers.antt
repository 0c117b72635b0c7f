-- A record that is empty, no call or cannot be read is refused as its definition has it; else its call decides.
use mathlib.Core.Path.{sym, ◌∙◌}
use Rattle.executive.proofs.Assured.{in_read, in_refused}
use Rattle.image.proofs.deciding.decide.Goals as goal

pub returns-in-Ok : goal.returns-in-Ok
returns-in-Ok c = λ t l w k. c.decide_call.ensures t l w k ∙ in_read t.tasks t.rest c.args.c c.args.call.now c.if-call-eq0.false (rw c.kind_of-kind.ensures at (sym c.is_call.ensures ∙ c.if-is_call.true)) _ (sym c.read.ensures ∙ c.in-Ok.is)

pub returns-in-Err : goal.returns-in-Err
returns-in-Err c = λ t l w k. c.refuse-in-Err.ensures ∙ in_refused t.tasks t.rest c.args.c c.args.call.now c.if-call-eq0.false (rw c.kind_of-kind.ensures at (sym c.is_call.ensures ∙ c.if-is_call.true)) _ (sym c.read.ensures ∙ c.in-Err.is)
