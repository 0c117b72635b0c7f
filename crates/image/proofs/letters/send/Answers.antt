use mathlib.Core.Path.{ap, ◌∙◌}
use Rattle.executive.specs.States.{takes}
use Rattle.executive.specs.declared.Task.{Task}
use Rattle.image.proofs.ReadOff.{sent-read}
use Rattle.image.proofs.Finds.{count-read}
use Rattle.executive.specs.Messages.{stay_ahead, urgency}
use lib.ListN.{take}
use Rattle.image.proofs.Sheets.{such-task, send-bad, send-taken, send-crowded, send-waits}
use Rattle.image.proofs.letters.send.Goals as goal

pub returns-then-no_such_task : goal.returns-then-no_such_task
returns-then-no_such_task c =
    let a = c.args in
    λ t l w. c.refuse.ensures ∙ send-bad t.tasks t.rest a.c a.k a.text _ (such-task t.rest a.k _ _ (count-read t l) c.no_such_task.ensures) c.if-no_such_task.true

pub returns-then-takes : goal.returns-then-takes
returns-then-takes c =
    let a = c.args in
    λ t l w.
    let x = such-task t.rest a.k _ _ (count-read t l) c.no_such_task.ensures in
    let y = c.takes.ensures ∙ ap (λ (e : Task). takes a.c.0 e.state) (c.entry-e.ensures t l) in
    rw (c.accepted.ensures, c.letting_in-deed.ensures _ c.only_woken.ensures, c.only_z-marks.ensures) (send-taken t.tasks t.rest a.c a.k a.text _ x c.if-no_such_task.false _ y c.if-takes.true)

pub returns-then-sent-ge32 : goal.returns-then-sent-ge32
returns-then-sent-ge32 c =
    let a = c.args in
    λ t l w.
    let x = such-task t.rest a.k _ _ (count-read t l) c.no_such_task.ensures in
    let y = c.takes.ensures ∙ ap (λ (e : Task). takes a.c.0 e.state) (c.entry-e.ensures t l) in
    c.refuse-then-sent-ge32.ensures ∙ send-crowded t.tasks t.rest a.c a.k a.text _ x c.if-no_such_task.false _ y c.if-takes.false (rw (sent-read t l) at c.if-sent-ge32.true)

pub returns : goal.returns
returns c =
    let a = c.args in
    λ t l w.
    let x = such-task t.rest a.k _ _ (count-read t l) c.no_such_task.ensures in
    let y = c.takes.ensures ∙ ap (λ (e : Task). takes a.c.0 e.state) (c.entry-e.ensures t l) in
    let e = c.ahead-at.ensures t l ∙ ap (λ n. stay_ahead urgency c.level-priority.result (take n t.rest.messages)) (sent-read t l) in
    rw (c.accepted-2.ensures, c.alone-waits.ensures, c.only_z-marks.ensures)
    (send-waits t.tasks t.rest a.c a.k a.text _ x c.if-no_such_task.false _ y c.if-takes.false (rw (sent-read t l) at c.if-sent-ge32.false) _ _ (c.level-priority.ensures t l) e)
