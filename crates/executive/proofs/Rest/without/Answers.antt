use Rattle.executive.proofs.queue.ArraysAreLists.{made-removed}
use Rattle.executive.proofs.Rest.without.Goals as goal

pub returns : goal.returns
returns c =
    rw c.closed_at-self.ensures (made-removed c.args.self c.requires.0 c.args.i c.requires.1)
