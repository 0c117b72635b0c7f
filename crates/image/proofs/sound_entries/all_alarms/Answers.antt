-- `sound_entries::all_alarms` meets its contract. The invariant: the alarms from i on decide, and the set is that of the running
-- ones before them.
use mathlib.Core.Path.{◌≡◌, refl, sym, ◌∙◌}
use native.Mathlib.Omega.{arith}
use Rattle.executive.specs.Places.{never}
use Rattle.executive.specs.Check.{alarm_right}
use Rattle.image.specs.Image.{load_of}
use Rattle.image.proofs.Loaded.{alarms-size, read-end}
use Rattle.image.proofs.Marked.{marks-first}
use Rattle.image.proofs.EntriesRead.{runs, alarm-rests, alarm-runs, alarm-wrong, all-running}
use Rattle.image.proofs.sound_entries.all_alarms.Goals as goal
use Rattle.image.proofs.sound_entries.all_alarms.Goals.{then-eight-ne0+else-not-is_stored, else-eight-ne0}

pub loop-i-init : goal.loop-i-init
loop-i-init c = (refl, marks-first (runs c.args.b.now))

pub returns-then-not-is_stored : goal.returns-then-not-is_stored
returns-then-not-is_stored c =
    let s = c.args.b.now in
    let v = c.loop-i in
    record {
      right = sym (sym v.invariant.0 ∙ alarm-wrong s c.args.time.0 v.i c.loop-i-test.true c.eight.result c.eight.ensures v.running v.invariant.1 c.if-eight-ne0.true c.long_in-at.result c.long_in-at.ensures (sym c.is_stored.ensures ∙ c.if-not-is_stored.true));
      running = tt;
    }

pub loop-i-preserved : goal.loop-i-preserved
loop-i-preserved c =
    let s = c.args.b.now in
    let v = c.loop-i in
    let h = c.loop-i-test.true in
    elim c.if-eight-ne0.branch [
      | then-eight-ne0+else-not-is_stored w ↦
          let z = alarm-runs s c.args.time.0 v.i h c.eight.result c.eight.ensures v.running v.invariant.1 w.if-eight-ne0.true w.long_in-at.result w.long_in-at.ensures (sym w.is_stored.ensures ∙ w.if-not-is_stored.false) w.bit_of-running.result w.bit_of-running.ensures in
          (z.0 ∙ v.invariant.0, rw w.running-is z.1)
      | else-eight-ne0 w ↦
          let z = alarm-rests s c.args.time.0 v.i h c.eight.result c.eight.ensures v.running v.invariant.1 w.if-eight-ne0.false in
          (z.0 ∙ v.invariant.0, rw w.running-is z.1)
    ]

pub returns : goal.returns
returns c =
    let s = c.args.b.now in
    let v = c.loop-i in
    let e : v.i ≡ 32 = omega arith in
    record {
      right = sym (read-end (alarm_right c.args.time.0) never (load_of s).rest.alarms 32 (alarms-size s) v.i c.loop-i-test.false) ∙ v.invariant.0;
      running = all-running s v.running (rw e at v.invariant.1);
    }
