use Rattle.executive.proofs.queue.ArraysAreLists.{made-queued}
use Rattle.executive.proofs.Rest.with_request.Goals as goal

pub returns : goal.returns
returns c = made-queued c.args.self c.requires.0 c.args.q c.requires.1
