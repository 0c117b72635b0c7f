-- `asking::is_no_head` meets its contract: its tests are those of the definition.
use native.Mathlib.Omega.{arith}
use Rattle.blocks.proofs.asking.Laws.{no_way, by_length}
use Rattle.blocks.proofs.asking.is_no_head.Goals as goal

pub returns-then-byte_at-gt1 : goal.returns-then-byte_at-gt1
returns-then-byte_at-gt1 c = no_way c.args.head.now (omega (arith, c.byte_at.ensures, c.if-byte_at-gt1.true))

pub returns : goal.returns
returns c =
    let q = c.args.head.now in
    by_length q c.end_of.result c.end_of.ensures (omega (arith, c.byte_at.ensures, c.if-byte_at-gt1.false))
