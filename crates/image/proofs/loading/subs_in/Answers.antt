-- `loading::subs_in` meets its contract.
use Rattle.std.proofs.Common.{rules}
use Rattle.image.specs.Image.{sub_from, subs_at, sub_length}
use Rattle.image.proofs.Ranges.{filled-blocks}
use Rattle.image.proofs.loading.subs_in.Goals as goal

pub returns : goal.returns
returns c = filled-blocks _ _ (sub_from c.args.bytes.now) sub_length 8 subs_at c.from_fn.result (λ i y q e. search rules) c.from_fn.ensures.items
