use mathlib.Core.Path.{sym}
use native.Mathlib.Omega.{arith}
use Rattle.executive.proofs.messages.Arrays.{mail-place, mail-no-place}
use Rattle.executive.proofs.Rest.with_mail.Goals as goal

pub returns-then-i-lt16 : goal.returns-then-i-lt16
returns-then-i-lt16 c =
    rw c.entry_place-i.ensures (sym (mail-place c.args.self (omega arith) c.args.x c.args.k.0))

pub returns-else-i-lt16 : goal.returns-else-i-lt16
returns-else-i-lt16 c =
    sym (mail-no-place c.args.self (omega arith) c.args.x c.args.k.0 _ c.entry_place-i.ensures c.if-i-lt16.false)
