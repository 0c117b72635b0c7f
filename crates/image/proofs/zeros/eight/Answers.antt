-- `zeros::eight` meets its contract: four bytes, and four right behind them.
use Rattle.image.proofs.Noughts.{or-noughts}
use Rattle.image.proofs.zeros.eight.Goals as goal

pub returns : goal.returns
returns c =
    let a = c.args in
    or-noughts a.b.now 4 4 a.at c.quad.result c.quad-2.result c.quad.ensures.result_value c.quad-2.ensures.result_value
