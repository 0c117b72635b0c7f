use Rattle.std.proofs.Common.{sym, ◌∙◌, rules}
use Rattle.text.proofs.Assured.{named}
use Rattle.bench.proofs.Told.{last_end, last_unknown, last-cut}
use Rattle.bench.proofs.steps.last_line.Goals as goal

pub returns-then-is_empty : goal.returns-then-is_empty
returns-then-is_empty c = named (sym (last_end c.args.left.now (search rules))) c.end_line.ensures

pub returns-then-step_length-eq0 : goal.returns-then-step_length-eq0
returns-then-step_length-eq0 c =
    named (sym (last_unknown c.args.left.now (search rules) (sym c.step_length.ensures ∙ c.if-step_length-eq0.true))) c.stop_line.ensures

pub returns : goal.returns
returns c =
    named (sym (last-cut c.args.left.now (search rules) (λ e. c.if-step_length-eq0.false (c.step_length.ensures ∙ e)))) c.stop_line-2.ensures
