-- `loading::line_in` meets its contract.
use Rattle.std.proofs.Common.{rules}
use Rattle.image.specs.Image.{place_from}
use Rattle.image.proofs.Ranges.{filled-blocks}
use Rattle.image.proofs.loading.line_in.Goals as goal

pub returns : goal.returns
returns c = filled-blocks _ _ (place_from c.args.bytes.now) 1 16 c.args.at c.from_fn.result (λ i y q e. search rules) c.from_fn.ensures.items
