-- `reading::byte_at` meets its contract: past the end the definition says 0 too.
use mathlib.Core.Path.{sym}
use lib.ListN.{get_or-eq_default}
use Rattle.records.proofs.reading.byte_at.Goals as goal

pub returns : goal.returns
returns c = sym (get_or-eq_default c.args.bytes.now 0 c.if-i-bytes.false)
