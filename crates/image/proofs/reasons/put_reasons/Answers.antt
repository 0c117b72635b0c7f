-- `reasons::put_reasons` meets its contract: its three writes make one, and the array's type says how many steps there are.
use native.Mathlib.Omega.{arith}
use Rattle.image.proofs.Pieces.{wrote_reasons}
use Rattle.image.proofs.reasons.put_reasons.Goals as goal

pub returns : goal.returns
returns c =
    wrote_reasons c.args.out.now c.args.reasons.now (omega arith) c.put_both.ensures c.put_both-2.ensures
    c.put_row.ensures.value c.requires
