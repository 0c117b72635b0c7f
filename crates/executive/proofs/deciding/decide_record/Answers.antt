use mathlib.Core.Path.{sym, ◌∙◌}
use Rattle.executive.proofs.decisions.OfBytes.{in_empty, in_no-call, in_read, in_refused}
use Rattle.executive.proofs.deciding.decide_record.Goals as goal

pub returns-then-bytes-eq0 : goal.returns-then-bytes-eq0
returns-then-bytes-eq0 c = c.refuse.ensures ∙ in_empty c.args.tasks c.args.rest c.args.c c.args.bytes.now c.if-bytes-eq0.true

pub returns-in-Ok : goal.returns-in-Ok
returns-in-Ok c =
    c.decide_call.ensures
    ∙ in_read c.args.tasks c.args.rest c.args.c c.args.bytes.now c.if-bytes-eq0.false (rw c.kind_of-kind.ensures at (sym c.is_call.ensures ∙ c.if-is_call.true)) _ (sym c.read.ensures ∙ c.in-Ok.is)

pub returns-in-Err : goal.returns-in-Err
returns-in-Err c =
    c.refuse-in-Err.ensures
    ∙ in_refused c.args.tasks c.args.rest c.args.c c.args.bytes.now c.if-bytes-eq0.false (rw c.kind_of-kind.ensures at (sym c.is_call.ensures ∙ c.if-is_call.true)) _ (sym c.read.ensures ∙ c.in-Err.is)

pub returns : goal.returns
returns c = c.refuse-2.ensures ∙ in_no-call c.args.tasks c.args.rest c.args.c c.args.bytes.now c.if-bytes-eq0.false (rw c.kind_of-kind.ensures at (sym c.is_call.ensures ∙ c.if-is_call.false))

pub decide_call-requires : goal.decide_call-requires
decide_call-requires c = c.requires
