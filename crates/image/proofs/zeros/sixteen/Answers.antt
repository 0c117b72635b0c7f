-- `zeros::sixteen` meets its contract: eight bytes, and eight right behind them.
use Rattle.image.proofs.Noughts.{or-noughts}
use Rattle.image.proofs.zeros.sixteen.Goals as goal

pub returns : goal.returns
returns c =
    let a = c.args in
    or-noughts a.b.now 8 8 a.at c.eight.result c.eight-2.result c.eight.ensures c.eight-2.ensures
