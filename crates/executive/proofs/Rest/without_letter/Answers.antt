use Rattle.executive.proofs.messages.Arrays.{made-without}
use Rattle.executive.proofs.Rest.without_letter.Goals as goal

pub returns : goal.returns
returns c =
    rw c.closed_at-self.ensures (made-without c.args.self c.requires.0 c.args.i c.requires.1)
