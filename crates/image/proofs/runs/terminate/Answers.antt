use mathlib.Core.Path.{sym, ◌∙◌}
use native.Mathlib.Omega.{arith}
use Rattle.image.proofs.ReadOff.{queued-read}
use Rattle.image.proofs.LoadLaid.{request_read}
use Rattle.image.proofs.Sheets.{end-held, end_anew, end_none}
use Rattle.image.proofs.runs.terminate.Goals as goal

pub returns-then-holds_any : goal.returns-then-holds_any
returns-then-holds_any c = λ t l w. c.refuse.ensures ∙ end-held t.tasks t.rest c.args.c _ (c.holds_any.ensures t l) c.if-holds_any.true

pub returns-in-Some : goal.returns-in-Some
returns-in-Some c =
    λ t l w.
    let q = w.numbers.queued in
    let en = c.at_most-n.ensures.value (rw (queued-read t l) q) ∙ queued-read t l in
    c.begins_anew.ensures
    ∙ end_anew t.tasks t.rest c.args.c _ (c.holds_any.ensures t l) c.if-holds_any.false _ (c.end_waiter-w.ensures t l) _ _ en (sym (c.in-Some.ensures.value t l)) l.sizes.pool q c.in-Some.ensures.place _
    (c.request_in-q.ensures ∙ request_read t l c.in-Some.place (omega (arith, c.in-Some.ensures.place, c.at_most-n.ensures.upper_bound)))

pub returns : goal.returns
returns c =
    λ t l w.
    let q = w.numbers.queued in
    let en = c.at_most-n.ensures.value (rw (queued-read t l) q) ∙ queued-read t l in
    c.sleeps.ensures ∙ end_none t.tasks t.rest c.args.c _ (c.holds_any.ensures t l) c.if-holds_any.false _ (c.end_waiter-w.ensures t l) _ _ en (sym (c.in_default.ensures.value t l)) l.sizes.pool q (omega arith)
