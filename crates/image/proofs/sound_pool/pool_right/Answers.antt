-- `sound_pool::pool_right` meets its contract: its tests, one after the other.
use mathlib.Core.Path.{refl}
use Rattle.executive.specs.States.{is_dormant}
use Rattle.image.specs.Sound.{tasks_in}
use Rattle.image.proofs.Named.{moved-bits}
use Rattle.image.proofs.PoolRead.{none-idle, starts-differ, ends-differ, pool-last}
use Rattle.image.proofs.sound_pool.pool_right.Goals as goal

pub returns-then-w-starts : goal.returns-then-w-starts
returns-then-w-starts c =
    let a = c.args in
    let g = c.requires in
    let w = c.in-Some in
    starts-differ a.b.now a.count a.queued g.1 g.0 c.named-runs.result c.named-runs.ensures _ w.w.starts w.w.ends w.ensures.right (λ e. w.ensures.waiters) refl a.starts a.ends g.3 g.4 c.if-w-starts.true

pub returns-then-w-ends : goal.returns-then-w-ends
returns-then-w-ends c =
    let a = c.args in
    let g = c.requires in
    let w = c.in-Some in
    ends-differ a.b.now a.count a.queued g.1 g.0 c.named-runs.result c.named-runs.ensures _ w.w.starts w.w.ends w.ensures.right (λ e. w.ensures.waiters) refl a.starts a.ends g.3 g.4 c.if-w-starts.false c.if-w-ends.true

pub returns : goal.returns
returns c =
    let a = c.args in
    let g = c.requires in
    let w = c.in-Some in
    pool-last a.b.now a.count a.queued g.1 g.0 c.named-runs.result c.named-runs.ensures _ w.w.starts w.w.ends w.ensures.right (λ e. w.ensures.waiters) refl a.starts a.ends g.3 g.4 c.if-w-starts.false c.if-w-ends.false g.5 c.are_zero.result c.are_zero.ensures

pub requests_right-requires : goal.requests_right-requires
requests_right-requires c =
    let a = c.args in
    let g = c.requires in
    let ts = tasks_in c.args.b.now in
    (g.0, g.1, moved-bits is_dormant ts a.count a.idle g.1 g.2 (none-idle ts))
