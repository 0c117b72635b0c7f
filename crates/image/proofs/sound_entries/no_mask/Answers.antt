-- `sound_entries::no_mask` meets its contract.
use Rattle.image.proofs.EntriesRead.{with_byte}
use Rattle.image.proofs.sound_entries.no_mask.Goals as goal

pub returns : goal.returns
returns c = with_byte c.quad.result c.wide.result _ _ c.quad.ensures.result_value c.wide.ensures
