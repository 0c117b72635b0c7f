use native.Mathlib.Omega.{arith}
use mathlib.Core.Path.{sym, ◌∙◌}
use lib.Seq.{get_or-take}
use Rattle.executive.specs.Messages.{no_message}
use Rattle.image.proofs.LoadLaid.{message_read}
use Rattle.image.proofs.letters.message_at.Goals as goal

pub returns-then-i-n : goal.returns-then-i-n
returns-then-i-n c =
    let a = c.args in
    let p = c.requires in
    λ t l. c.message_in.ensures ∙ message_read t l a.i (omega (arith, c.if-i-n.true)) ∙ sym (get_or-take a.n t.rest.messages a.i no_message c.if-i-n.true)
