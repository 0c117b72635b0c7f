use Prim.Native.Nat.{suc}
use mathlib.Core.Path.{◌≡◌}
use native.Mathlib.Omega.{arith}
use lib.ListN.{length, get_or}
use Rattle.std.proofs.Common.{rules}
use Rattle.std.proofs.lemmas.List.{get_or-map}
use Rattle.std.specs.declared.option.Option.{Option}
use Rattle.mender.specs.declared.Rule.{Rule}
use Rattle.mender.specs.Rules.{rule_number, numbers_of}
use Rattle.executive.specs.Messages.{no_mail}
use Rattle.mender.specs.Passes.{mail_after}
use Rattle.mender.proofs.CodeRows.{made_row}
use Rattle.mender.proofs.entries.mails_after.Goals as goal

pub returns : goal.returns
returns c =
    let a = c.args in
    let l : length a.broken ≡ 16 = c.well_formed.1.0.1.0.1 in
    made_row (λ i. mail_after a.count (suc i) (get_or (numbers_of a.broken) i 0) (get_or a.mail i no_mail)) no_mail 16
    (λ i h y q k.
    let w : (b : Option Rule) → get_or (numbers_of a.broken) i 0 ≡ rule_number (get_or a.broken i b) = λ b. get_or-map rule_number a.broken i b 0 (omega arith) in search (rules, w))
    c.from_fn.ensures.items
