-- `loading::padded` meets its contract.
use native.Mathlib.Omega.{arith}
use Rattle.image.specs.Image.{image_length}
use Rattle.image.proofs.Padded.{padded}
use Rattle.image.proofs.loading.padded.Goals as goal

pub returns : goal.returns
returns c = padded c.args.bytes.now c.copy_from_slice.new.self image_length c.copy_from_slice.ensures.after (omega (arith, c.requires))
