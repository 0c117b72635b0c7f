-- `sound_entries::is_dormant` meets its contract.
use Prim.Native.Nat.{◌*◌}
use Rattle.image.proofs.EntriesRead.{two_dozen}
use Rattle.image.proofs.sound_entries.is_dormant.Goals as goal

pub returns : goal.returns
returns c = let a = c.args in two_dozen a.b.now (a.i * 26) c.twelve.result c.twelve-2.result c.wide.result _ c.twelve.ensures c.twelve-2.ensures c.wide.ensures
