-- `zeros::thirty_two` meets its contract: sixteen bytes, and sixteen right behind them.
use Rattle.image.proofs.Noughts.{or-noughts}
use Rattle.image.proofs.zeros.thirty_two.Goals as goal

pub returns : goal.returns
returns c =
    let a = c.args in
    or-noughts a.b.now 16 16 a.at c.sixteen.result c.sixteen-2.result c.sixteen.ensures c.sixteen-2.ensures
