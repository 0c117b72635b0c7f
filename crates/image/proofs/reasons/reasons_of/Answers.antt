-- `reasons::reasons_of` meets its contract: its two answers are the definition's.
use mathlib.Core.Path.{sym, ap, ◌∙◌}
use native.Mathlib.Omega.{arith}
use Rattle.why.specs.Paths.{explained}
use Rattle.image.specs.Reasons.{reasons_to}
use Rattle.image.proofs.Trips.{image-parts}
use Rattle.image.proofs.reasons.reasons_of.Goals as goal

pub load_whole-table-requires : goal.load_whole-table-requires
load_whole-table-requires c = omega (arith, (image-parts c.args.image.now (sym c.is_image.ensures ∙ c.if-not-is_image.false)).0)

pub returns-then-not-is_image : goal.returns-then-not-is_image
unfolding reasons_to
returns-then-not-is_image c = rw (sym c.is_image.ensures ∙ c.if-not-is_image.true) c.no_table.ensures

pub returns : goal.returns
unfolding reasons_to
returns c =
    rw (sym c.is_image.ensures ∙ c.if-not-is_image.false)
    (c.explain.ensures ∙ ap (λ t. explained t c.args.task) c.load_whole-table.ensures)
