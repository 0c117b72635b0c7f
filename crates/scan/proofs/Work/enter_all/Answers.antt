use Rattle.std.proofs.Common.{◌∙◌, sym, arith}
use Rattle.scan.proofs.Moving.{enters-turn, enters-end}
use Rattle.scan.proofs.Work.enter_all.Goals as goal

pub loop-x-preserved : goal.loop-x-preserved
loop-x-preserved c =
    let l = c.loop-x in
    let e = c.enter-self.ensures in
    record {
      walked = omega (arith, e.1);
      entered = rw e.0 (enters-turn _ _ c.args.entrants.now l.x-index l.self c.loop-x-test.true) ∙ l.invariant.entered;
    }

pub returns : goal.returns
returns c =
    let l = c.loop-x in
    sym (enters-end _ _ c.args.entrants.now l.x-index l.self c.loop-x-test.false) ∙ l.invariant.entered
