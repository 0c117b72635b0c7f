use Rattle.executive.proofs.subprograms.InLine.{made-joined}
use Rattle.executive.proofs.Sub.joined.Goals as goal

pub returns : goal.returns
returns c =
    rw c.slid-self.ensures (made-joined c.args.self c.requires.0 c.args.at c.args.k c.requires.1 c.requires.2)
