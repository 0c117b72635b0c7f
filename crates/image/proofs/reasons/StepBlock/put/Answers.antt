-- A step's block is written as the trait says: the three writes make one.
use Rattle.image.proofs.Pieces.{wrote-step}
use Rattle.image.proofs.reasons.StepBlock.put.Goals as goal

pub returns-clause-value : goal.returns-clause-value
returns-clause-value c =
    let a = c.args in
    wrote-step a.out.now a.at a.self.now c.kind_of.result c.waited_on.result c.own_byte.result c.until_of.result
    c.kind_of.ensures
    c.waited_on.ensures
    c.own_byte.ensures
    c.until_of.ensures
    c.put_both.ensures
    c.put_both-2.ensures
    c.put_long.ensures
    c.requires
