-- `sound_pool::with` meets its contract: a number that names no task, one that is named already, one that is not.
use Rattle.image.proofs.Named.{naming-none, naming-past, naming-again, naming-new, some_of}
use Rattle.image.proofs.sound_pool.with.Goals as goal

pub returns-then-k-eq0 : goal.returns-then-k-eq0
returns-then-k-eq0 c = naming-none c.args.count c.args.set c.args.k c.if-k-eq0.true

pub returns-then-count-k : goal.returns-then-count-k
returns-then-count-k c = naming-past c.args.count c.args.set c.args.k c.if-count-k.true

pub returns-then-set-bit-ne0 : goal.returns-then-set-bit-ne0
returns-then-set-bit-ne0 c = naming-again c.args.count c.args.set c.args.k _ c.bit_of-bit.ensures (some_of c.args.k c.if-k-eq0.false) c.if-count-k.false c.if-set-bit-ne0.true

pub returns : goal.returns
returns c = naming-new c.args.count c.args.set c.args.k _ c.bit_of-bit.ensures (some_of c.args.k c.if-k-eq0.false) c.if-count-k.false c.if-set-bit-ne0.false
