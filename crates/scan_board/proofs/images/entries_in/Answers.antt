-- `images::entries_in` meets its contract.
use borrow.Author.Rules.{rules}
use Rattle.scan_board.specs.Image.{entry_from}
use Rattle.scan_board.proofs.Chains.{from_fn_blocks}
use Rattle.scan_board.proofs.images.entries_in.Goals as goal

pub returns : goal.returns
returns c = from_fn_blocks _ (entry_from c.args.tasks c.args.bytes.now) _ (λ i y q k. search rules) _ _ c.from_fn.ensures.items
