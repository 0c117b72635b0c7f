-- `mending::is_plain` meets its contract: the four numbers that were read are the entry's.
use mathlib.Core.Path.{◌∙◌}
use native.Mathlib.Omega.{arith}
use Rattle.image.specs.Mending.{is_plain}
use Rattle.image.proofs.Canonical.{read_code}
use Rattle.image.proofs.mending.is_plain.Goals as goal

pub returns : goal.returns
unfolding is_plain
returns c =
    c.is_code.ensures
    ∙ read_code c.args.bytes.now (λ k. omega (arith, c.shared_slice_known-1.given k)) c.args.i c.requires.0 _ _ _ _
    c.byte_in-kind.ensures c.long_in-time.ensures c.word_in-mask.ensures c.byte_in-number.ensures
