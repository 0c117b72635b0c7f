use Rattle.executive.proofs.messages.Arrays.{made-posted}
use Rattle.executive.proofs.Rest.with_letter.Goals as goal

pub returns : goal.returns
returns c =
    rw c.slid-self.ensures (made-posted c.args.self c.requires.0 c.args.m c.args.at c.requires.1 c.requires.2)
