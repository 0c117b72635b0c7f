use mathlib.Core.Path.{refl, ap, ◌∙◌}
use mathlib.Core.List.{List}
use Rattle.executive.specs.declared.Rest.{Rest}
use Rattle.executive.specs.declared.Table.{Table}
use Rattle.executive.specs.Table.{view, levels_of, relit, Out, Join, depart, with_rest, begin, enter_all_in_flight, lit_in_flight}
use Rattle.executive.specs.Messages.{no_mail, with_mail}
use Rattle.executive.specs.Decisions.{named, out_for, joins_for, changed, meant}
use Rattle.executive.proofs.queue.InFlight.{begin-flying, depart-fit, finds-beside}
use Rattle.executive.proofs.executing.Leaving.{depart-rest, changed-neat, done-is}
use Rattle.executive.proofs.Table.execute.Goals as goal

pub changed-t-requires : goal.changed-t-requires
changed-t-requires c =
    rw (c.left.ensures, depart-rest _ c.args.self) (c.requires.fit.neat, c.requires.able)

pub entered_by-requires : goal.entered_by-requires
entered_by-requires c =
    let n = changed-neat c.args.d.change c.args.d.request c.args.self.rest c.requires.fit.neat c.requires.able in
    let f = depart-fit (out_for c.args.d.leave) c.args.self c.requires.fit in
    rw (c.changed-t.ensures, c.left.ensures, depart-rest _ c.args.self) (
      begin-flying _ _ (record { all = f.all; few = f.few; tidy = f.tidy; neat = record { room = n.room; clear = n.clear } }) c.requires.room refl,
      finds-beside (joins_for c.args.d.request c.args.self.rest.clock (named c.args.d.entrants))
          (levels_of (view (depart (out_for c.args.d.leave) c.args.self)))
          (with_mail c.args.d.empties.0 no_mail (changed c.args.d.change c.args.d.request c.args.self.rest))
          (depart (out_for c.args.d.leave) c.args.self) c.requires.finds,
    )

pub returns : goal.returns
unfolding meant
returns c =
    let o : Out = out_for c.args.d.leave in
    let js : List Join = joins_for c.args.d.request c.args.self.rest.clock (named c.args.d.entrants) in
    let r : Rest → Rest = λ (x : Rest). with_mail c.args.d.empties.0 no_mail (changed c.args.d.change c.args.d.request x) in
    c.entered_by.ensures
    ∙ ap (λ (u : Table). lit_in_flight (enter_all_in_flight js (begin u)))
    (c.changed-t.ensures
    ∙ ap (λ (u : Table). with_rest (r u.rest) u) c.left.ensures)
    ∙ ap (λ (x : Rest). lit_in_flight (enter_all_in_flight js (begin (with_rest (r x) (relit (depart o c.args.self)))))) (depart-rest o c.args.self)
    ∙ done-is o js (r c.args.self.rest) c.args.self
