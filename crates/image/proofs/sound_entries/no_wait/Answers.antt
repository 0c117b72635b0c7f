-- `sound_entries::no_wait` meets its contract.
use Rattle.image.proofs.EntriesRead.{with_byte}
use Rattle.image.proofs.sound_entries.no_wait.Goals as goal

pub returns : goal.returns
returns c = with_byte c.twelve.result c.wide.result _ _ c.twelve.ensures c.wide.ensures
