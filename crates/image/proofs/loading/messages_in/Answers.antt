-- `loading::messages_in` meets its contract.
use Rattle.std.proofs.Common.{rules}
use Rattle.image.specs.Image.{message_from, messages_at, message_length}
use Rattle.image.proofs.Ranges.{filled-blocks}
use Rattle.image.proofs.loading.messages_in.Goals as goal

pub returns : goal.returns
returns c = filled-blocks _ _ (message_from c.args.bytes.now) message_length 32 messages_at c.from_fn.result (λ i y q e. search rules) c.from_fn.ensures.items
