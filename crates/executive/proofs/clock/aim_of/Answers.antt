use mathlib.Core.Path.{sym, ◌∙◌}
use native.Mathlib.Omega.{arith}
use Prim.Native.Nat.{◌≤◌, ◌%◌}
use borrow.Author.Tests.{lt-ltb, le-ltb}
use Rattle.executive.specs.Numbers.{last_unit, longest}
use Rattle.executive.specs.Clock.{aim_at, skipped_of}
use Rattle.executive.proofs.clock.Interval.{interval-most, every_some}
use Rattle.executive.proofs.clock.aim_of.Goals as goal

pub returns-then-unit-gt-LAST_UNIT : goal.returns-then-unit-gt-LAST_UNIT
unfolding aim_at skipped_of
returns-then-unit-gt-LAST_UNIT c =
    let e = lt-ltb last_unit (c.args.param % 8) c.if-unit-gt-LAST_UNIT.true in
    (rw e c.straight.ensures.0, rw e c.straight.ensures.1)

pub next_on_grid-requires : goal.next_on_grid-requires
next_on_grid-requires c =
    let m = c.millis_of-wait in
    let e = every_some c.args.param c.args.count (omega arith) (omega arith) (sym c.skips_missed.ensures ∙ c.if-skips_missed.true) in
    (c.requires.0, c.requires.1, rw m.ensures e.0, rw m.ensures e.1)

pub returns-then-skips_missed : goal.returns-then-skips_missed
unfolding aim_at skipped_of
returns-then-skips_missed c =
    let e = le-ltb last_unit (c.args.param % 8) (omega arith) in
    let s = sym c.skips_missed.ensures ∙ c.if-skips_missed.true in
    let g = rw c.millis_of-wait.ensures at c.next_on_grid.ensures in
    (rw (e, s) g.0, rw (e, s) g.1)

pub overflow_add-start : goal.overflow_add-start
overflow_add-start c =
    let m = c.millis_of-wait in
    let b : m.result.0 ≤ longest = rw m.ensures (interval-most (c.args.param % 8) c.args.count (omega arith)) in
    omega (arith, c.requires.0, c.requires.1)

pub returns-then-param-lt128 : goal.returns-then-param-lt128
unfolding aim_at skipped_of
returns-then-param-lt128 c =
    let p = c.args.param in
    let e = le-ltb last_unit (p % 8) (omega arith) in
    let s = sym c.skips_missed.ensures ∙ c.if-skips_missed.false in
    let g = rw c.millis_of-wait.ensures at c.straight-then-param-lt128.ensures.0 in
    (rw (e, s, lt-ltb p 128 c.if-param-lt128.true) g, rw (e, s) c.straight-then-param-lt128.ensures.1)

pub overflow_add-now : goal.overflow_add-now
overflow_add-now c =
    let m = c.millis_of-wait in
    let b : m.result.0 ≤ longest = rw m.ensures (interval-most (c.args.param % 8) c.args.count (omega arith)) in
    omega (arith, c.requires.1)

pub returns : goal.returns
unfolding aim_at skipped_of
returns c =
    let p = c.args.param in
    let e = le-ltb last_unit (p % 8) (omega arith) in
    let s = sym c.skips_missed.ensures ∙ c.if-skips_missed.false in
    let g = rw c.millis_of-wait.ensures at c.straight-2.ensures.0 in
    (rw (e, s, le-ltb p 128 c.if-param-lt128.false) g, rw (e, s) c.straight-2.ensures.1)
