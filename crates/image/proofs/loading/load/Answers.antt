-- `loading::load` meets its contract: enough bytes load as they are, and others with 0 behind them, which reads the same.
use mathlib.Core.Path.{◌∙◌}
use Rattle.image.proofs.Padded.{load_same}
use Rattle.image.proofs.loading.load.Goals as goal

pub returns : goal.returns
returns c = c.load_whole-2.ensures ∙ load_same c.padded-image.result c.args.bytes.now c.padded-image.ensures.1
