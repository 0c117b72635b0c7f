-- `members::next_in` meets its contract: no number is left, no member is, or the lowest of those that are left is the one.
use native.Mathlib.Omega.{arith}
use Rattle.image.proofs.SetBits.{next_past, next-none, next-first}
use Rattle.image.proofs.members.next_in.Goals as goal

pub returns-then-from-gt31 : goal.returns-then-from-gt31
returns-then-from-gt31 c = next_past c.args.set c.args.from (omega arith) c.requires c.if-from-gt31.true

pub returns-then-left-eq0 : goal.returns-then-left-eq0
returns-then-left-eq0 c = next-none c.args.set c.args.from (omega arith) c.requires c.if-left-eq0.true

pub returns : goal.returns
returns c = next-first c.args.set c.args.from (omega arith) c.if-from-gt31.false c.if-left-eq0.false
