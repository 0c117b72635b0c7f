-- `sound_queue::walk` meets its contract. The invariant is `Walking`.
use Rattle.image.specs.Image.{load_of}
use Rattle.image.specs.Image.{line_from}
use Rattle.image.proofs.Marked.{walk_start, line-end, line-off, line-over, line-twice, line-turn}
use Rattle.image.proofs.sound_queue.walk.Goals as goal

pub loop-i-init : goal.loop-i-init
loop-i-init c = walk_start (load_of c.args.b.now).tasks (line_from c.args.b.now c.args.at) c.args.taken c.args.count

pub returns-then-count-k : goal.returns-then-count-k
returns-then-count-k c =
    let a = c.args in
    let g = c.requires in
    let s = a.b.now in
    let v = c.loop-i in
    line-off s a.at a.taken a.count g.1 g.2 v.i v.p v.seen v.word v.invariant c.loop-i-test.true c.entry_place-k.result c.entry_place-k.ensures _ _ c.if-count-k.true

pub returns-then-p-level : goal.returns-then-p-level
returns-then-p-level c =
    let a = c.args in
    let g = c.requires in
    let s = a.b.now in
    let v = c.loop-i in
    line-over s a.at a.taken a.count g.1 g.2 v.i v.p v.seen v.word v.invariant c.loop-i-test.true c.entry_place-k.result c.entry_place-k.ensures c.if-count-k.false _ _ c.if-p-level.true

pub returns-then-seen-bit-ne0 : goal.returns-then-seen-bit-ne0
returns-then-seen-bit-ne0 c =
    let a = c.args in
    let g = c.requires in
    let s = a.b.now in
    let v = c.loop-i in
    line-twice s a.at a.taken a.count g.1 g.2 v.i v.p v.seen v.word v.invariant c.loop-i-test.true c.entry_place-k.result c.entry_place-k.ensures c.if-count-k.false c.bit_of-bit.result c.bit_of-bit.ensures _ _ c.if-seen-bit-ne0.true

pub loop-i-preserved : goal.loop-i-preserved
loop-i-preserved c =
    let a = c.args in
    let g = c.requires in
    let s = a.b.now in
    let v = c.loop-i in
    line-turn s a.at a.taken a.count g.1 g.2 v.i v.p v.seen v.word v.invariant c.loop-i-test.true c.entry_place-k.result c.entry_place-k.ensures c.if-count-k.false c.bit_of-bit.result c.bit_of-bit.ensures c.level_bit-word.result c.level_bit-word.ensures c.if-p-level.false c.if-seen-bit-ne0.false

pub returns : goal.returns
returns c =
    let a = c.args in
    let g = c.requires in
    let s = a.b.now in
    let v = c.loop-i in
    line-end s a.at a.taken a.count g.1 g.2 v.i v.p v.seen v.word v.invariant c.loop-i-test.false
