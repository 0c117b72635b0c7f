-- Kind 80: the deed of a tick, from what the code has found.
use Prim.Native.Nat.{ℕ, ◌+◌}
use mathlib.Core.Path.{◌≡◌, refl, ap, sym, ◌∙◌}
use mathlib.Core.List.{List, ◌++◌}
use Rattle.executive.specs.declared.Task.{Task}
use Rattle.executive.specs.declared.Rest.{Rest}
use Rattle.executive.specs.declared.decisions.Leave.TheVariants as leave
use Rattle.executive.specs.declared.decisions.Change.TheVariants as change
use Rattle.executive.specs.declared.decisions.Deed.{Deed}
use Rattle.executive.specs.Places.{no_request}
use Rattle.executive.specs.Clock.{is_due, advanced}
use Rattle.executive.specs.Lists.{each, next_of}
use Rattle.executive.specs.Plans.{holds, timed}
use Rattle.executive.specs.Decisions.{raised_all, rising, deed, first_due, rung_in, tick_deed}
use Rattle.executive.proofs.clock.Alarms.{flags-rung}
use Rattle.executive.proofs.Plans.Tick.{advanced-alone}

flags-after : (q : Rest) → (advanced q).flags ≡ each (rung_in (q.clock.0 + q.granule) q.alarms) 32 0 q.flags
unfolding advanced
flags-after q = flags-rung (record { 0 = q.clock.0 + q.granule }) q.alarms 32 0 q q.alarms q.flags (λ j l. refl)

clock-after : (q : Rest) → (advanced q).clock.0 ≡ q.clock.0 + q.granule
clock-after q = advanced-alone (λ (r : Rest). r.clock.0) (λ r fs al. refl) q

abbrev told : List Task → ℕ → ℕ → ℕ → Deed
told ts now fs i = deed leave.Stays (raised_all (timed now ts) ++ rising (holds fs) 1 ts) no_request (change.Clock i)

pub ticks : (ts : List Task) (q : Rest) (n : ℕ) → n ≡ q.clock.0 + q.granule
    → told ts n (each (rung_in n q.alarms) 32 0 q.flags) (next_of (is_due n) 0 q.alarms) ≡ tick_deed ts q
unfolding tick_deed first_due
ticks ts q n e =
    let m : ℕ = q.clock.0 + q.granule in
    let fs : ℕ = each (rung_in m q.alarms) 32 0 q.flags in
    ap (λ (x : ℕ). told ts x (each (rung_in x q.alarms) 32 0 q.flags) (next_of (is_due x) 0 q.alarms)) e
    ∙ ap (λ (x : ℕ). told ts x fs (next_of (is_due m) 0 q.alarms)) (sym (clock-after q))
    ∙ ap (λ (x : ℕ). told ts (advanced q).clock.0 x (next_of (is_due m) 0 q.alarms)) (sym (flags-after q))
