-- `choosing::choose_of` meets its contract: of sixteen entries the place, found or not, is below sixteen.
use Rattle.std.proofs.Common.{ap, arith}
use Rattle.scan.specs.declared.Best.{Best}
use Rattle.scan.proofs.Choices.{at-within}
use Rattle.scan.proofs.choosing.choose_of.Goals as goal

pub returns : goal.returns
returns c =
    let es = c.args.entries in
    let l = c.well_formed in
    (c.choose.ensures, omega (arith, ap (λ (b : Best). b.at) c.choose.ensures, at-within es (omega arith)))
