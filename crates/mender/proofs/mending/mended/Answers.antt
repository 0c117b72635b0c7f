use mathlib.Core.Path.{◌≡◌, refl, ap}
use native.Mathlib.Omega.{arith}
use lib.ListN.{length}
use Rattle.executive.specs.declared.Table.{Table}
use Rattle.mender.specs.Rules.{numbers_of}
use Rattle.mender.specs.Rounds.{round}
use Rattle.mender.proofs.CodeNotes.{few-sent}
use Rattle.mender.proofs.mending.mended.Goals as goal

pub rebuilt-whole-requires : goal.rebuilt-whole-requires
rebuilt-whole-requires c =
    let t = c.args.table in
    let l : length t.rest.messages ≡ 32 = c.well_formed.0.1.1.1.1.1.1.0.1.1.1.1.1.1.1.1.1.1.0.1.0.1 in
    omega (arith, ap (λ (u : Table). u.rest.sent) c.round.ensures, few-sent (numbers_of c.own_rules-broken.result) t l)

pub returns : goal.returns
unfolding round
returns c = rw (c.answer.ensures, c.notes_of-list.ensures, c.rebuilt-whole.ensures, c.round.ensures, c.own_rules-broken.ensures) refl
