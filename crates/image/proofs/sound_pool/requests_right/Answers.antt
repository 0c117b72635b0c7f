-- `sound_pool::requests_right` meets its contract. The invariant: the requests from i on decide, and naming whom they name in
-- the sets so far makes the whole sets.
use Prim.Native.Nat.{◌+◌, ◌*◌}
use mathlib.Core.Path.{refl, sym, ◌∙◌}
use Rattle.image.proofs.PoolRead.{one-wrong, one_right, one-named, none_named, all_right, all_named}
use Rattle.image.proofs.PoolRead.{target-over, target-idle, level-over, request_unfit, request_fit, request_lone, start-nobody, end-nobody}
use Rattle.image.proofs.sound_pool.requests_right.Goals as goal
use Rattle.image.proofs.sound_pool.requests_right.Goals.{then-quad-gt65535+else-not-request_fits, else-quad-gt65535}

pub loop-i-init : goal.loop-i-init
loop-i-init c = (refl, refl, refl)

pub returns-then-count-target : goal.returns-then-count-target
returns-then-count-target c =
    let a = c.args in
    let g = c.requires in
    let v = c.loop-i in
    record { right = one-wrong a.b.now a.queued a.count g.0 v.i c.loop-i-test.true v.invariant.0 (target-over a.b.now a.count (704 + v.i * 6) c.if-count-target.true); waiters = tt }

pub returns-then-idle-target-eq1 : goal.returns-then-idle-target-eq1
returns-then-idle-target-eq1 c =
    let a = c.args in
    let g = c.requires in
    let v = c.loop-i in
    record { right = one-wrong a.b.now a.queued a.count g.0 v.i c.loop-i-test.true v.invariant.0 (target-idle a.b.now a.count (704 + v.i * 6) a.idle g.2 c.if-count-target.false c.if-idle-target-eq1.true); waiters = tt }

pub returns-then-b-at-gt15 : goal.returns-then-b-at-gt15
returns-then-b-at-gt15 c =
    let a = c.args in
    let g = c.requires in
    let v = c.loop-i in
    record { right = one-wrong a.b.now a.queued a.count g.0 v.i c.loop-i-test.true v.invariant.0 (level-over a.b.now a.count (704 + v.i * 6) c.if-b-at-gt15.true); waiters = tt }

pub returns-then-not-request_fits : goal.returns-then-not-request_fits
returns-then-not-request_fits c =
    let a = c.args in
    let g = c.requires in
    let v = c.loop-i in
    record { right = one-wrong a.b.now a.queued a.count g.0 v.i c.loop-i-test.true v.invariant.0 (request_unfit a.b.now a.count (704 + v.i * 6) c.request_in-q.result c.request_in-q.ensures (sym c.request_fits.ensures ∙ c.if-not-request_fits.true)); waiters = tt }

pub loop-i-preserved : goal.loop-i-preserved
loop-i-preserved c =
    let a = c.args in
    let g = c.requires in
    let v = c.loop-i in
    let h = c.loop-i-test.true in
    elim c.if-quad-gt65535.branch [
      | then-quad-gt65535+else-not-request_fits w ↦ (
        one_right a.b.now a.queued a.count g.0 v.i h v.invariant.0 (request_fit a.b.now a.count (704 + v.i * 6) a.idle g.2 c.if-count-target.false c.if-idle-target-eq1.false w.request_in-q.result w.request_in-q.ensures (sym w.request_fits.ensures ∙ w.if-not-request_fits.false)),
        one-named a.b.now a.queued a.count g.0 v.i h 4 v.starts _ v.invariant.1 _ (w.starts-is ∙ w.with-starts.ensures),
        one-named a.b.now a.queued a.count g.0 v.i h 5 v.all_ends _ v.invariant.2 _ (w.all_ends-is ∙ w.with-all_ends.ensures),
      )
      | else-quad-gt65535 w ↦ (
        one_right a.b.now a.queued a.count g.0 v.i h v.invariant.0 (request_lone a.b.now a.count (704 + v.i * 6) a.idle g.2 c.if-count-target.false c.if-idle-target-eq1.false c.if-b-at-gt15.false c.quad.result c.quad.ensures.result_value_2 w.if-quad-gt65535.false),
        rw w.starts-is (none_named a.b.now a.queued a.count g.0 v.i h 4 v.starts _ v.invariant.1 (start-nobody a.b.now a.count (704 + v.i * 6) a.idle g.2 c.if-count-target.false c.if-idle-target-eq1.false c.if-b-at-gt15.false c.quad.result c.quad.ensures.result_value_2 w.if-quad-gt65535.false)),
        rw w.all_ends-is (none_named a.b.now a.queued a.count g.0 v.i h 5 v.all_ends _ v.invariant.2 (end-nobody a.b.now a.count (704 + v.i * 6) a.idle g.2 c.if-count-target.false c.if-idle-target-eq1.false c.if-b-at-gt15.false c.quad.result c.quad.ensures.result_value_2 w.if-quad-gt65535.false)),
      )
    ]

pub returns : goal.returns
returns c =
    let a = c.args in
    let g = c.requires in
    let v = c.loop-i in
    let h = c.loop-i-test.false in
    record {
      right = all_right a.b.now a.queued a.count g.0 v.i h v.invariant.0;
      waiters = (
        all_named a.b.now a.queued a.count g.0 v.i h 708 v.starts _ v.invariant.1,
        all_named a.b.now a.queued a.count g.0 v.i h 709 v.all_ends _ v.invariant.2,
      );
    }
