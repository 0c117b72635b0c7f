-- `timing::tick` meets its contract: refused past the end of time, and else the deed of the tick.
use mathlib.Core.Path.{sym, ap₂, subst, ◌∙◌}
use native.Mathlib.Omega.{arith}
use Prim.Native.Nat.{ℕ, ◌+◌}
use Rattle.executive.specs.declared.Marks.{Marks}
use Rattle.executive.specs.declared.decisions.Deed.{Deed}
use Rattle.executive.specs.Places.{task_at}
use Rattle.executive.specs.WellFormed.{Unmet}
use Rattle.executive.specs.Decisions.{AllUnmet, doing}
use Rattle.image.proofs.ReadOff.{clock-read, flags-read, granule-read}
use Rattle.image.proofs.Timings.{tick-late, tick-done, tick_is, tick-woken}
use Rattle.image.proofs.timing.tick.Goals as goal

pub returns-then-now-gt-END_OF_TIME : goal.returns-then-now-gt-END_OF_TIME
returns-then-now-gt-END_OF_TIME c = λ t l w g k. c.refuse.ensures ∙ tick-late t.tasks t.rest k (omega (arith, c.long_in-now.ensures ∙ clock-read t l, c.if-now-gt-END_OF_TIME.true))

pub returns-then-time-gt-END_OF_TIME : goal.returns-then-time-gt-END_OF_TIME
returns-then-time-gt-END_OF_TIME c =
    λ t l w g k.
    let ec = c.long_in-now.ensures ∙ clock-read t l in
    let eg = granule-read t l in
    c.refuse-then-time-gt-END_OF_TIME.ensures ∙ tick-late t.tasks t.rest k (omega (arith, ec, eg, c.if-time-gt-END_OF_TIME.true))

pub returns : goal.returns
returns c =
    λ t l w g k.
    let ec = c.long_in-now.ensures ∙ clock-read t l in
    let eg = granule-read t l in
    let ef = c.word_in-flags.ensures ∙ flags-read t l in
    let ei = c.next_due-first.ensures.value t l g.running-told in
    let unmet : AllUnmet c.word_in-flags.result t.tasks = λ j. subst (λ (x : ℕ). Unmet x (task_at t.tasks j).state) (sym ef) (w.masks j) in
    let u = tick-woken t.tasks l.sizes.tasks _ _ _ _ g.flagged-told c.held_by-held.ensures _ _ unmet g.timed-told _ (c.woken-entrants.ensures t l) in
    c.accepted.ensures
    ∙ ap₂ (λ (m : Marks) (d : Deed). doing m d) c.marked.ensures
    (c.letting_in-deed.ensures _ u ∙ tick_is t.tasks t.rest _ _ _ _ (ap₂ (λ (x y : ℕ). x + y) ec eg) ef ei (c.rings-more.ensures t l g.running-told ei))
    ∙ tick-done t.tasks t.rest k (omega (arith, ec, eg, c.if-time-gt-END_OF_TIME.false))
