-- `sound_subs::subs_right` meets its contract. The invariant: those from m on decide; those that are passed over are free and keep
-- the rule.
use Rattle.image.proofs.LinesRead.{held_start, held_next, held-off, held-last}
use Rattle.image.proofs.sound_subs.subs_right.Goals as goal

pub loop-m-init : goal.loop-m-init
loop-m-init c =
    let s = c.args.b.now in
    let a = c.args in
    let g = c.requires in
    (c.next_in-m.ensures.most, held_start s c.waiting_sets-sets.result a.count c.used_subs-used.result g.0 c.waiting_sets-sets.ensures c.used_subs-used.ensures c.next_in-m.result c.next_in-m.ensures)

pub returns-then-not-sub_right : goal.returns-then-not-sub_right
returns-then-not-sub_right c =
    let s = c.args.b.now in
    let a = c.args in
    let g = c.requires in
    let v = c.loop-m in
    held-off s c.waiting_sets-sets.result a.count c.used_subs-used.result g.0 c.waiting_sets-sets.ensures c.used_subs-used.ensures v.m c.loop-m-test.true v.invariant.1 c.sub_right.result c.sub_right.ensures c.if-not-sub_right.true

pub loop-m-preserved : goal.loop-m-preserved
loop-m-preserved c =
    let s = c.args.b.now in
    let a = c.args in
    let g = c.requires in
    let v = c.loop-m in (
      c.next_in-m-in-loop-m.ensures.most,
      held_next s c.waiting_sets-sets.result a.count c.used_subs-used.result g.0 c.waiting_sets-sets.ensures c.used_subs-used.ensures v.m c.loop-m-test.true v.invariant.1 c.sub_right.result c.sub_right.ensures c.if-not-sub_right.false c.next_in-m-in-loop-m.result c.next_in-m-in-loop-m.ensures,
    )

pub returns : goal.returns
returns c = held-last c.args.b.now c.args.count c.loop-m.m c.loop-m-test.false c.loop-m.invariant.1
