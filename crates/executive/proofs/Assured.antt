-- What is promised holds; and what whoever executes a decision may rely on. Of the modules here the crates above name
-- this one and no other.
use Prim.Native.Nat.{ℕ, ◌≤◌}
use mathlib.Core.Path.{◌≡◌}
use mathlib.Core.Bool.{true, false}
use mathlib.Core.List.{List}
use lib.ListN.{length}
use Rattle.records.specs.Numbers.{Bytes}
use Rattle.executive.specs.declared.Task.{Task}
use Rattle.executive.specs.declared.Table.{Table}
use Rattle.executive.specs.declared.decisions.Leave.{Leave}
use Rattle.executive.specs.Table.{view, levels_of, Out, stays, leaves, Join, Plan, left?}
use Rattle.executive.specs.Plans.{caller}
use Rattle.executive.specs.WellFormed.{Queue, WellFormed}
use Rattle.executive.specs.Decisions.{out_for, gone_as, meant, Doable}
use Rattle.executive.specs.Deciding.{decision_for}
use Rattle.executive.specs.Promises.QueueLaw.{QueueLaw}
use Rattle.executive.specs.Promises.ByDecision.{ByDecision}
use Rattle.executive.specs.Promises.Demands.{Demands}
use Rattle.executive.specs.Check.{queue_right, all_but_queue, Decided}
use Rattle.executive.specs.Promises.FreshLaw.{FreshLaw}
use Rattle.executive.specs.States.{StatesTold}
use Rattle.executive.specs.Promises.LampLaw.{LampLaw}
use Rattle.executive.specs.Promises.SubLaw.{SubLaw}
use Rattle.executive.specs.Promises.EveryStart.{EveryStart}
use Rattle.executive.specs.Promises.MailLaw.{MailLaw}
use Rattle.executive.proofs.check.Decides as checked
use Rattle.executive.proofs.executing.Leaving as leaving
use Rattle.executive.proofs.queue.Law as queues
use Rattle.executive.proofs.step.Executable as executable
use Rattle.executive.proofs.states.Laws as named
use Rattle.executive.proofs.promises.ByDecision as decisions
use Rattle.executive.proofs.promises.CardsAndFresh as shown
use Rattle.executive.proofs.promises.Demands as theorems
use Rattle.executive.proofs.promises.LampLaw as lit
use Rattle.executive.proofs.promises.SubLaw as held
use Rattle.executive.proofs.promises.EveryStart as asked
use Rattle.executive.proofs.promises.MailLaw as posted
-- the laws of tests, sums, lines in arrays and loops, of the entries, the queue, the clock, the subprograms, the messages,
-- a step in flight and the working form, which the proofs of the crates above cite
pub use Rattle.executive.proofs.Lists.Tests.{false_not_true, Le, le_yes, le-no, leb-is, Lt, lt_yes, lt_no, ltb-is, eqb_self, not-zero, eqb_swap}
pub use Rattle.executive.proofs.Lists.Tests.{and_true, true_and, and_false_left, and_false_right, and_true_left, one_none, none-one, not-of, of-not, leb-none, sum-none, none-all}
pub use Rattle.executive.proofs.Lists.Sums.{sum-set, sum-snoc, sum-append}
pub use Rattle.executive.proofs.Lists.Pad.{line-pad, length-pad, pad-at, pad-more}
pub use Rattle.executive.proofs.Lists.Slid.{slid_length}
pub use Rattle.executive.proofs.Lists.Arrays.{fill-turn, fill_end, get_d_within}
pub use Rattle.executive.proofs.Lists.Search.{next-hit, next-pass, next-end, next-bounds, next-is}
pub use Rattle.executive.proofs.Lists.Loops.{one-le, every_make, every-turn, every-not, every-end, first-turn, first-not, first-end, each_turn, each-end}
pub use Rattle.executive.proofs.Lists.Loops.{both, all_none, all_more, all-not, all-get, all_make}
pub use Rattle.executive.proofs.places.TaskAt.{place_none, place-past, place-task, read-place, set-place, put_place, put_no-place, at_none, at-task, at_place, at-no-place}
pub use Rattle.executive.proofs.states.Laws.{dormant-is, dormant-named, dormant-kind, ready_as}
pub use Rattle.executive.proofs.queue.Law.{one-zero, one_true, insert_desc}
pub use Rattle.executive.proofs.queue.Insertion.{ahead-pass, ahead-stop}
pub use Rattle.executive.proofs.queue.ArraysAreLists.{take-le, head-taken, head-line, departed-idle, made-removed, made-queued}
pub use Rattle.executive.proofs.configuration.Loops.{marked-short, start-more, nobody_in, start-vacant, dormant-more, dormant-fit}
pub use Rattle.executive.proofs.queue.InFlight.{begin-flying, fewer-flying, enter-flying, enters-flying, lit-flying, lit-on_the_way, depart-fit, finds-beside}
pub use Rattle.executive.proofs.executing.Leaving.{depart-rest, changed-neat, done-is}
pub use Rattle.executive.proofs.Plans.Moves.{items_put}
pub use Rattle.executive.proofs.levels.OnTheWay.{lit-same, lit-departed, lit-entered}
pub use Rattle.executive.proofs.decisions.Listing.{blank, all-length, named-listed, listed_well, made_also, made_at, enter-turn, find-turn, enter-end}
pub use Rattle.executive.proofs.decisions.ByTime.{woken-few, rising-few}
pub use Rattle.executive.proofs.clock.Alarms.{ring-on, in_on, in_turn}
pub use Rattle.executive.proofs.calls.Ticking.{ticks}
pub use Rattle.executive.proofs.clock.Interval.{interval-most}
pub use Rattle.executive.proofs.flags.Bits.{set-none, set-or, set_same, set-only, set-within, same_bits}
pub use Rattle.executive.proofs.messages.Lines.{put_is-at, put_length, put_sum, stay-le, stay-stop, stay-pass, stay-end, post-sorted}
pub use Rattle.executive.proofs.messages.Arrays.{letters_with, made-without, made-posted, mail-place, mail-no-place}
pub use Rattle.executive.proofs.messages.Kept.{MailOk}
pub use Rattle.executive.proofs.subprograms.InLine.{made-joined, made-handed, made-free}
pub use Rattle.executive.proofs.check.Blanks.{blank-pad, nobody-is, zero_is, is-zero, blank-is, free-is}
pub use Rattle.executive.proofs.check.Messages.{no-mail-is, astray_get, right-over, right-out, right-high, right-taken, right-on, mail-next}
pub use Rattle.executive.proofs.check.Passes.{same, at_next, fits_not, sized}
pub use Rattle.executive.proofs.check.Descent.{falls-turn, falls-off, falls-over, falls-end, word_on, word_end}
pub use Rattle.executive.proofs.check.PutTogether.{or-none}
pub use Rattle.executive.proofs.check.Subprograms.{placeless, held_from, held_first, held-turn, held-not, held-end}
pub use Rattle.executive.proofs.check.RuleByRule.{bounds-get, awaits_make, timely_get, timely_make, unmet-get, unmet_make}
pub use Rattle.executive.proofs.Plans.WorkingForm.{EntryOk, LinksOk, SubOk, SubsOk, WellFormedByPart, well_formed}
pub use Rattle.executive.proofs.decisions.OfBytes.{in_empty, in_no-call, in_read, in_refused}

pub demands : Demands
demands = theorems.demands

pub decided : Decided
decided = checked.decided

pub fresh_law : FreshLaw
fresh_law = shown.fresh_law

pub states-told : StatesTold
states-told = named.states-told

pub lamp_law : LampLaw
lamp_law = lit.lamp_law

pub sub_law : SubLaw
sub_law = held.sub_law

pub queue_law : QueueLaw
queue_law = queues.queue_law

pub every-start : EveryStart
every-start = asked.every-start

pub mail_law : MailLaw
mail_law = posted.mail_law

pub by_decision : ByDecision
by_decision = decisions.by_decision

-- ---- for another engine: a table whose entries and rest keep their rules, and whose queue and word are right, is well
-- formed
pub formed-by : (t : Table) → all_but_queue t.tasks t.rest ≡ true → length t.queue ≡ 16 → t.ready ≤ 16 → Queue t → t.levels ≡ levels_of (view t) → WellFormed t
formed-by = checked.formed-by

pub queue-right : (t : Table) → List ℕ → WellFormed t → queue_right t ≡ true
queue-right = executable.queue-right

-- how the caller leaves, as a plan has it
pub leaves_as : (how : Leave) → left? (out_for how) ≡ true → out_for how ≡ leaves (gone_as how)
leaves_as = leaving.leaves_as

pub stays_as : (how : Leave) → left? (out_for how) ≡ false → out_for how ≡ stays
stays_as = leaving.stays_as

-- a decision that accepts can be done at its table; its caller leaves to a state that is not ready, and each that enters
-- is a task, was not ready, and is
abbrev pub LeavesUnready : Out → Task → Type 0
LeavesUnready o e = executable.LeavesUnready o e

abbrev pub Enters : Join → List Task → Type 0
Enters j ts = executable.Enters j ts

abbrev pub AllEnter : List Join → List Task → Type 0
AllEnter js ts = executable.AllEnter js ts

abbrev pub Moves : Plan → Table → Type 0
Moves p t = executable.Moves p t

pub can_be_done : (t : Table) (s : List ℕ) → WellFormed t → (decision_for t.tasks t.rest (caller t) s).number ≡ 0
    → Doable (decision_for t.tasks t.rest (caller t) s).deed t
can_be_done = executable.can_be_done

pub moves : (t : Table) (s : List ℕ) → WellFormed t → (decision_for t.tasks t.rest (caller t) s).number ≡ 0 → Bytes s
    → Moves (meant (decision_for t.tasks t.rest (caller t) s).deed t) t
moves = executable.moves
