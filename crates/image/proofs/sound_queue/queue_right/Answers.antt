-- `sound_queue::queue_right` meets its contract: the walk, the word and the given set decide.
use mathlib.Core.Path.{refl}
use Rattle.image.proofs.SoundParts.{queue-many, queue_long, queue-wrong, queue_unlit, queue-other, queue-last}
use Rattle.image.proofs.sound_queue.queue_right.Goals as goal

pub returns-then-count-gt16 : goal.returns-then-count-gt16
returns-then-count-gt16 c =
    let a = c.args in
    let g = c.requires in
    queue-many a.b.now a.count a.ready g.1 g.0 c.if-count-gt16.true

pub returns-then-ready-gt16 : goal.returns-then-ready-gt16
returns-then-ready-gt16 c =
    let a = c.args in
    let g = c.requires in
    queue_long a.b.now a.count a.ready g.1 g.0 c.if-ready-gt16.true

pub returns-in_default : goal.returns-in_default
returns-in_default c =
    let a = c.args in
    let g = c.requires in
    queue-wrong a.b.now a.count a.ready g.1 g.0 _ _ _ c.in_default.ensures refl

pub returns-then-line-pair_in : goal.returns-then-line-pair_in
returns-then-line-pair_in c =
    let a = c.args in
    let g = c.requires in
    queue_unlit a.b.now a.count a.ready g.1 g.0 _ _ _ c.in-Some.ensures refl c.pair_in.result c.pair_in.ensures c.if-line-pair_in.true

pub returns-then-line-set : goal.returns-then-line-set
returns-then-line-set c =
    let a = c.args in
    let g = c.requires in
    queue-other a.b.now a.count a.ready g.1 g.0 _ _ _ c.in-Some.ensures refl a.set g.2 c.if-line-set.true

pub returns : goal.returns
returns c =
    let a = c.args in
    let g = c.requires in
    queue-last a.b.now a.count a.ready g.1 g.0 _ _ _ c.in-Some.ensures refl c.if-count-gt16.false c.if-ready-gt16.false
    c.pair_in.result a.set c.pair_in.ensures c.if-line-pair_in.false g.2 c.if-line-set.false c.blank_from.result c.blank_from.ensures
