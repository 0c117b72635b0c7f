-- `stepping::act` meets its contract: bytes that are no image of a well-formed table are refused and kept; else it is the step.
use mathlib.Core.Path.{refl, sym, ◌∙◌}
use Rattle.executive.proofs.Assured.{and_true, and_false_left}
use Rattle.image.specs.Image.{is_image}
use Rattle.image.proofs.Canonical.{not-long}
use Rattle.image.proofs.Answered.{act_said}
use Rattle.image.proofs.Learnt.{learned, act_refused}
use Rattle.image.proofs.stepping.act.Goals as goal

pub returns-in_default : goal.returns-in_default
returns-in_default c =
    let s = c.args.image.now in
    rw c.no_table.ensures (act_refused s c.args.call.now (sym (and_false_left (is_image s) _ (sym (not-long s c.in_default.ensures.cases)))))

pub returns-in_default-see : goal.returns-in_default-see
returns-in_default-see c =
    let e = rw c.in-Some.ensures.cases.same at c.in_default-see.ensures in
    rw (c.no_table-in_default-see.ensures, c.in-Some.ensures.cases.same) (act_refused c.args.image.now c.args.call.now e)

pub step-requires : goal.step-requires
step-requires c =
    let s = c.in-Some.b.now in
    let e = c.in-Some-see.ensures in
    let b = and_true (is_image s) _ (sym e.told) in
    (b.0, b.1, learned s b.1 _ _ (e.kinds refl) (e.alarms refl))

pub returns : goal.returns
returns c =
    let s = c.in-Some.b.now in
    let b = and_true (is_image s) _ (sym c.in-Some-see.ensures.told) in
    let e = c.step.ensures in
    rw c.in-Some.ensures.cases.same at (act_said s c.args.call.now c.step.result b.0 e.0 e.1.0 e.1.1)
