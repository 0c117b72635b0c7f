-- `sound_entries::entry_right` meets its contract: the fields first, then the state.
use mathlib.Core.Path.{sym, ◌∙◌}
use Rattle.image.proofs.EntriesRead.{sound-not, sound_so}
use Rattle.image.proofs.sound_entries.entry_right.Goals as goal

pub returns-then-not-fields_right : goal.returns-then-not-fields_right
returns-then-not-fields_right c =
    let s = c.args.b.now in
    sound-not s c.args.i c.requires c.args.count c.args.time.0 c.args.flags c.long_in-start.result c.long_in-start.ensures (sym c.fields_right.ensures ∙ c.if-not-fields_right.true)

pub returns : goal.returns
returns c =
    let s = c.args.b.now in
    sound_so s c.args.i c.requires c.args.count c.args.time.0 c.args.flags c.long_in-start.result c.long_in-start.ensures (sym c.fields_right.ensures ∙ c.if-not-fields_right.false) c.state_right.result c.state_right.ensures
