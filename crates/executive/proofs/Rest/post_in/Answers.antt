use mathlib.Core.Path.{refl}
use native.Mathlib.Omega.{arith}
use lib.ListN.{take}
use borrow.Author.Tests.{lt-ltb, le-ltb}
use Rattle.executive.specs.Messages.{post_in, urgency}
use Rattle.executive.proofs.queue.ArraysAreLists.{take-le}
use Rattle.executive.proofs.messages.Lines.{stay-le}
use Rattle.executive.proofs.Rest.post_in.Goals as goal

pub returns-then-n-gt31 : goal.returns-then-n-gt31
unfolding post_in
returns-then-n-gt31 c = rw (le-ltb c.args.self.sent 32 (omega (arith, c.if-n-gt31.true))) refl

pub slid-self-requires : goal.slid-self-requires
slid-self-requires c =
    let r = c.args in
    (omega arith, (omega (arith, c.ahead-at.ensures, stay-le urgency r.m.priority (take r.self.sent r.self.messages), take-le r.self.sent r.self.messages), omega (arith, c.if-n-gt31.false)))

pub returns : goal.returns
unfolding post_in
returns c =
    rw (c.slid-self.ensures, c.ahead-at.ensures) (rw (lt-ltb c.args.self.sent 32 (omega (arith, c.if-n-gt31.false))) refl)
