-- `zeros::twelve` meets its contract: eight bytes, and four right behind them.
use Rattle.image.proofs.Noughts.{or-noughts}
use Rattle.image.proofs.zeros.twelve.Goals as goal

pub returns : goal.returns
returns c =
    let a = c.args in
    or-noughts a.b.now 8 4 a.at c.eight.result c.quad.result c.eight.ensures c.quad.ensures.result_value
