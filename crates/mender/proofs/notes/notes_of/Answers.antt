use Prim.Native.Nat.{◌+◌, ◌-◌}
use mathlib.Core.Path.{sym, ap, ◌∙◌}
use native.Mathlib.Omega.{arith}
use Rattle.executive.specs.Lists.{each}
use Rattle.executive.proofs.Assured.{each_turn, each-end}
use Rattle.executive.specs.Numbers.{most_tasks}
use Rattle.mender.specs.declared.Note.{Note}
use Rattle.mender.specs.declared.filled.Filled.{Filled}
use lib.ListN.{length, get_or}
use mathlib.Core.Path.{◌≡◌}
use Rattle.std.proofs.lemmas.List.{get_or-map}
use Rattle.executive.specs.Places.{no_task}
use Rattle.mender.specs.Rules.{rule_number, numbers_of}
use Rattle.mender.specs.Listing.{noted_of, note_rule, note_turn, notes_of}
use Rattle.mender.proofs.CodeNotes.{standing, notes_on}
use Rattle.mender.proofs.notes.notes_of.Goals as goal

pub loop-i-init : goal.loop-i-init
unfolding notes_of
loop-i-init c =
    let e = c.none-l.ensures in
    let a = c.args in
    (e ∙ ap noted_of (sym (ap standing e)), omega (arith, ap (λ (l : Filled Note most_tasks). l.taken) e), ap (λ (l : Filled Note most_tasks). each (note_turn a.count (numbers_of a.broken) a.given a.mended) 16 0 (standing l)) e)

pub loop-i-preserved : goal.loop-i-preserved
loop-i-preserved c =
    let a = c.args in
    let v = c.loop-i in
    let l : length a.broken ≡ 16 = c.well_formed.1.0.1.0.1 in
    let b = get_or-map rule_number a.broken v.i _ 0 (omega arith) in
    let x = c.note_rule-rule.ensures ∙ ap (λ r. note_rule a.count r (get_or a.given v.i no_task) (get_or a.mended v.i no_task)) (sym b) in
    let n = notes_on a.count (numbers_of a.broken) a.given a.mended v.l c.with_note-l.result v.i _ v.invariant.0 v.invariant.1 (omega arith) x c.with_note-l.ensures in (
      n.0,
      n.1,
      ap (each (note_turn a.count (numbers_of a.broken) a.given a.mended) (16 - (v.i + 1)) (v.i + 1)) n.2 ∙ sym (each_turn (note_turn a.count (numbers_of a.broken) a.given a.mended) 16 v.i (standing v.l) (omega arith)) ∙ v.invariant.2,
    )

pub returns : goal.returns
returns c =
    let a = c.args in
    let v = c.loop-i in
    v.invariant.0 ∙ ap noted_of (sym (each-end (note_turn a.count (numbers_of a.broken) a.given a.mended) 16 v.i (standing v.l) (omega arith)) ∙ v.invariant.2)
