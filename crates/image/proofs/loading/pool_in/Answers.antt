-- `loading::pool_in` meets its contract.
use Rattle.std.proofs.Common.{rules}
use Rattle.image.specs.Image.{request_from, pool_at}
use Rattle.image.proofs.Ranges.{filled-blocks}
use Rattle.image.proofs.loading.pool_in.Goals as goal

pub returns : goal.returns
returns c = filled-blocks _ _ (request_from c.args.bytes.now) 6 32 pool_at c.from_fn.result (λ i y q e. search rules) c.from_fn.ensures.items
