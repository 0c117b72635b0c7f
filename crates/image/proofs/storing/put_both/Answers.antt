-- `storing::put_both` meets its contract: two stores.
use Rattle.image.proofs.Spans.{stored-two}
use Rattle.image.proofs.storing.put_both.Goals as goal

pub returns : goal.returns
returns c = stored-two c.args.out.now c.args.at c.args.a c.args.b c.requires
