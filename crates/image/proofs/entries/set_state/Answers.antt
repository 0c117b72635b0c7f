use mathlib.Core.Path.{refl}
use Rattle.image.proofs.EntryLaid.{state-laid}
use Rattle.image.proofs.entries.set_state.Goals as goal

pub returns : goal.returns
returns c = λ t l. state-laid t l c.args.i c.requires c.args.s _ _ c.awaited_of-number.ensures refl c.put_state.ensures c.put_byte.ensures
