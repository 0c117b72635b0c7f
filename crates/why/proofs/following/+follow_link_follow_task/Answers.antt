-- A task that is met for the first time, where the path has its step, makes the path what its cause says.
use Prim.Native.Nat.{◌≤◌, ◌<◌}
use native.Mathlib.Omega.{arith}
use mathlib.Core.Path.{◌≡◌, refl, sym, ap, ◌∙◌}
use lib.Seq.{length-take-le}
use Rattle.executive.proofs.Assured.{take-le}
use Rattle.why.specs.Paths.{met_at, closed, unmet, task_path}
use Rattle.why.proofs.Onward.{met_is, path_ring, path_full, path_on}
use Rattle.why.proofs.following.+follow_link_follow_task.Goals as goal

pub follow_task-returns-in-Some : goal.follow_task-returns-in-Some
follow_task-returns-in-Some t c =
    let p = c.args.path in
    let k = c.args.k in
    let i = c.in-Some.place in
    let m : met_at k.0 p.length p.steps ≡ i = met_is c.args.t.now k p i c.in-Some.ensures.1 in
    let h : met_at k.0 p.length p.steps < p.length = omega (arith, m, c.in-Some.ensures.0, take-le p.length p.steps) in
    c.with_ring.ensures ∙ ap (closed p) (sym m) ∙ sym (path_ring c.args.t.now k p (unmet p) h)

pub follow_task-returns-then-path-ge16 : goal.follow_task-returns-then-path-ge16
follow_task-returns-then-path-ge16 t c =
    let p = c.args.path in
    let k = c.args.k in
    let n : p.length ≤ met_at k.0 p.length p.steps = omega (arith, met_is c.args.t.now k p _ c.in_default.ensures, length-take-le p.length p.steps (omega arith)) in
    let z : unmet p ≡ 0 = omega arith in
    sym (ap (λ m. task_path m c.args.t.now k p) z ∙ path_full c.args.t.now k p n)

pub follow_task-returns-in-Dormant : goal.follow_task-returns-in-Dormant
follow_task-returns-in-Dormant t c =
    let p = c.args.path in
    let n : p.length ≤ met_at c.args.k.0 p.length p.steps = omega (arith, met_is c.args.t.now c.args.k p _ c.in_default.ensures, length-take-le p.length p.steps (omega arith)) in
    path_on c.args.t.now c.args.k p n (omega arith) c.cause_of-cause.ensures c.with_step-on.ensures c.in-Dormant.is refl

pub follow_task-returns-in-Active : goal.follow_task-returns-in-Active
follow_task-returns-in-Active t c =
    let p = c.args.path in
    let n : p.length ≤ met_at c.args.k.0 p.length p.steps = omega (arith, met_is c.args.t.now c.args.k p _ c.in_default.ensures, length-take-le p.length p.steps (omega arith)) in
    path_on c.args.t.now c.args.k p n (omega arith) c.cause_of-cause.ensures c.with_step-on.ensures c.in-Active.is refl

pub follow_task-returns-in-Ready : goal.follow_task-returns-in-Ready
follow_task-returns-in-Ready t c =
    let p = c.args.path in
    let n : p.length ≤ met_at c.args.k.0 p.length p.steps = omega (arith, met_is c.args.t.now c.args.k p _ c.in_default.ensures, length-take-le p.length p.steps (omega arith)) in
    path_on c.args.t.now c.args.k p n (omega arith) c.cause_of-cause.ensures c.with_step-on.ensures c.in-Ready.is refl

pub follow_task-returns-in-Paused : goal.follow_task-returns-in-Paused
follow_task-returns-in-Paused t c =
    let p = c.args.path in
    let n : p.length ≤ met_at c.args.k.0 p.length p.steps = omega (arith, met_is c.args.t.now c.args.k p _ c.in_default.ensures, length-take-le p.length p.steps (omega arith)) in
    path_on c.args.t.now c.args.k p n (omega arith) c.cause_of-cause.ensures c.with_step-on.ensures c.in-Paused.is refl

pub follow_task-returns-in-Due : goal.follow_task-returns-in-Due
follow_task-returns-in-Due t c =
    let p = c.args.path in
    let n : p.length ≤ met_at c.args.k.0 p.length p.steps = omega (arith, met_is c.args.t.now c.args.k p _ c.in_default.ensures, length-take-le p.length p.steps (omega arith)) in
    path_on c.args.t.now c.args.k p n (omega arith) c.cause_of-cause.ensures c.with_step-on.ensures c.in-Due.is refl

pub follow_task-returns-in-Flags : goal.follow_task-returns-in-Flags
follow_task-returns-in-Flags t c =
    let p = c.args.path in
    let n : p.length ≤ met_at c.args.k.0 p.length p.steps = omega (arith, met_is c.args.t.now c.args.k p _ c.in_default.ensures, length-take-le p.length p.steps (omega arith)) in
    path_on c.args.t.now c.args.k p n (omega arith) c.cause_of-cause.ensures c.with_step-on.ensures c.in-Flags.is refl

pub follow_task-returns-in-Start : goal.follow_task-returns-in-Start
follow_task-returns-in-Start t c =
    let p = c.args.path in
    let n : p.length ≤ met_at c.args.k.0 p.length p.steps = omega (arith, met_is c.args.t.now c.args.k p _ c.in_default.ensures, length-take-le p.length p.steps (omega arith)) in
    path_on c.args.t.now c.args.k p n (omega arith) c.cause_of-cause.ensures c.with_step-on.ensures c.in-Start.is c.follow_link.ensures

pub follow_task-returns-in-EndOfRequest : goal.follow_task-returns-in-EndOfRequest
follow_task-returns-in-EndOfRequest t c =
    let p = c.args.path in
    let n : p.length ≤ met_at c.args.k.0 p.length p.steps = omega (arith, met_is c.args.t.now c.args.k p _ c.in_default.ensures, length-take-le p.length p.steps (omega arith)) in
    path_on c.args.t.now c.args.k p n (omega arith) c.cause_of-cause.ensures c.with_step-on.ensures c.in-EndOfRequest.is c.follow_link-in-EndOfRequest.ensures

pub follow_task-returns-in-EndOfRun : goal.follow_task-returns-in-EndOfRun
follow_task-returns-in-EndOfRun t c =
    let p = c.args.path in
    let n : p.length ≤ met_at c.args.k.0 p.length p.steps = omega (arith, met_is c.args.t.now c.args.k p _ c.in_default.ensures, length-take-le p.length p.steps (omega arith)) in
    path_on c.args.t.now c.args.k p n (omega arith) c.cause_of-cause.ensures c.with_step-on.ensures c.in-EndOfRun.is c.follow_link-in-EndOfRun.ensures

pub follow_task-returns-in-Subprogram : goal.follow_task-returns-in-Subprogram
follow_task-returns-in-Subprogram t c =
    let p = c.args.path in
    let n : p.length ≤ met_at c.args.k.0 p.length p.steps = omega (arith, met_is c.args.t.now c.args.k p _ c.in_default.ensures, length-take-le p.length p.steps (omega arith)) in
    path_on c.args.t.now c.args.k p n (omega arith) c.cause_of-cause.ensures c.with_step-on.ensures c.in-Subprogram.is c.follow_link-in-Subprogram.ensures

pub follow_task-returns-in-Message : goal.follow_task-returns-in-Message
follow_task-returns-in-Message t c =
    let p = c.args.path in
    let n : p.length ≤ met_at c.args.k.0 p.length p.steps = omega (arith, met_is c.args.t.now c.args.k p _ c.in_default.ensures, length-take-le p.length p.steps (omega arith)) in
    path_on c.args.t.now c.args.k p n (omega arith) c.cause_of-cause.ensures c.with_step-on.ensures c.in-Message.is refl
