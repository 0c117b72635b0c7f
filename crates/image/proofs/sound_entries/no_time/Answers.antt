-- `sound_entries::no_time` meets its contract.
use Rattle.image.proofs.EntriesRead.{with_byte}
use Rattle.image.proofs.sound_entries.no_time.Goals as goal

pub returns : goal.returns
returns c = with_byte c.eight.result c.wide.result _ _ c.eight.ensures c.wide.ensures
