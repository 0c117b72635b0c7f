-- `loading::mail_in` meets its contract.
use Rattle.std.proofs.Common.{rules}
use Rattle.image.specs.Image.{mail_from, mails_at, mail_length}
use Rattle.image.proofs.Ranges.{filled-blocks}
use Rattle.image.proofs.loading.mail_in.Goals as goal

pub returns : goal.returns
returns c = filled-blocks _ _ (mail_from c.args.bytes.now) mail_length 16 mails_at c.from_fn.result (λ i y q e. search rules) c.from_fn.ensures.items
