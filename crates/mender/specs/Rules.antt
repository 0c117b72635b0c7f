-- The own rules of a task's entry, which is its fields and its mail: the first one that it breaks, its links aside.
use Rattle.std.specs.Prelude.{ℕ, suc, ◌≤◌, ◌<◌, ◌≡◌, ◌≢◌, ◌⊎◌, Bool, true, not, cond, List, Option, Some, None, map, leb}
use Rattle.executive.specs.declared.State.{State}
use Rattle.executive.specs.declared.State.TheVariants.{Dormant}
use Rattle.executive.specs.declared.Task.{Task}
use Rattle.executive.specs.declared.Message.{Message}
use Rattle.executive.specs.declared.Mail.{Mail}
use Rattle.executive.specs.declared.Rest.{Rest}
use Rattle.executive.specs.declared.Table.{Table}
use Rattle.executive.specs.Numbers.{most_tasks, highest, last_sub}
use Rattle.executive.specs.Lists.{all_of, ◌and◌}
use Rattle.executive.specs.Places.{no_task, task_at}
use Rattle.executive.specs.States.{await_sub, await_message, awaited_of, is_of, is_dormant}
use Rattle.executive.specs.Messages.{no_mail, fits, mail_at}
use Rattle.executive.specs.WellFormed.{Timely, Unmet, Zeros, fitting}
use Rattle.executive.specs.Check.{numbers_in_range, mail_in_range, is_zero, is_blank, is_no_mail, task_timely, is_started, task_unmet}
use Rattle.mender.specs.declared.Rule.{Rule}
use Rattle.mender.specs.declared.Rule.TheVariants as rule
use Rattle.mender.specs.Rows.{row}

-- ---- the rules that a list names: 1 to 9 as 01's sentence on a well-formed table runs, then 02's: 10 subprograms, 11
-- messages, 12 the word of the ready levels; and 13, a waiter whose link was lost
abbrev pub range_rule : ℕ
range_rule = 1

abbrev pub time_rule : ℕ
time_rule = 3

abbrev pub start_rule : ℕ
start_rule = 4

abbrev pub mask_rule : ℕ
mask_rule = 5

abbrev pub link_rule : ℕ
link_rule = 7

abbrev pub dormant_rule : ℕ
dormant_rule = 8

abbrev pub message_rule : ℕ
message_rule = 11

abbrev pub lost_link : ℕ
lost_link = 13

-- a rule's number, and that of an answer: 0 for none
abbrev pub number_of : Rule → ℕ
number_of rule.Range = range_rule
number_of rule.Time = time_rule
number_of rule.Start = start_rule
number_of rule.Mask = mask_rule
number_of rule.Link = link_rule
number_of rule.Dormant = dormant_rule
number_of rule.Message = message_rule
number_of rule.Lost = lost_link

abbrev pub rule_number : Option Rule → ℕ
rule_number None = 0
rule_number (Some r) = number_of r

abbrev pub numbers_of : List (Option Rule) → List ℕ
numbers_of rs = map rule_number rs

-- ---- the tests of an entry e with the mail x: its numbers among n tasks; its zeros while it is dormant; whether no message
-- at any place fits task k where its state is to wait for one
abbrev pub numbers_kept : ℕ → Task → Mail → Bool
numbers_kept n e x = numbers_in_range n e and mail_in_range n x

abbrev pub zeros_kept : Task → Mail → Bool
zeros_kept e x = cond (is_dormant e.state) (is_zero e and is_no_mail x) true

abbrev pub unfit : ℕ → ℕ → Message → Bool
unfit k s m = not (fits k s m)

abbrev pub none_fits : ℕ → List Message → State → Bool
none_fits k ms s = cond (is_of await_message s) (all_of (unfit k (awaited_of s)) ms) true

-- the first own rule that the entry of task k breaks beside the rest r; 0 where it breaks none
unfoldable pub first_broken : Rest → ℕ → Task → Mail → ℕ
first_broken r k e x =
    cond (numbers_kept r.count e x)
    (cond (task_timely r.clock.0 e)
    (cond (is_started r.clock.0 e)
    (cond (task_unmet r.flags e)
    (cond (zeros_kept e x)
    (cond (none_fits k r.messages e.state) 0 message_rule)
    dormant_rule)
    mask_rule)
    start_rule)
    time_rule)
    range_rule

-- an entry past the task count is zero
unfoldable pub past_broken : Task → Mail → ℕ
past_broken e x = cond (is_blank e and is_no_mail x) 0 range_rule

unfoldable pub own_rule : Rest → ℕ → Task → Mail → ℕ
own_rule r k e x = cond (leb k r.count) (first_broken r k e x) (past_broken e x)

-- of task k of a table; of all sixteen, by place
abbrev pub own_rule_at : Table → ℕ → ℕ
own_rule_at t k = own_rule t.rest k (task_at t.tasks k) (mail_at t.rest.mail k)

unfoldable pub own_rules : Table → List ℕ
own_rules t = row (λ i. own_rule_at t (suc i)) most_tasks 0

-- ---- the same in the table's terms: entry k of t breaks the rule of a number
pub data Breaks (t : Table) (k : ℕ) : ℕ → Type 0 where
  -- of a task: a priority over 15, a wait for what there is not, a mail from whom there is not
  own-over : k ≤ t.rest.count → highest < (task_at t.tasks k).own → Breaks t k range_rule
  level-over : k ≤ t.rest.count → highest < (task_at t.tasks k).priority → Breaks t k range_rule
  sub-over : k ≤ t.rest.count → is_of await_sub (task_at t.tasks k).state ≡ true → last_sub < awaited_of (task_at t.tasks k).state → Breaks t k range_rule
  awaited-over : k ≤ t.rest.count → is_of await_message (task_at t.tasks k).state ≡ true → t.rest.count < awaited_of (task_at t.tasks k).state → Breaks t k range_rule
  sender-over : k ≤ t.rest.count → t.rest.count < (mail_at t.rest.mail k).sender.0 → Breaks t k range_rule
  -- past the task count: not zero
  past : t.rest.count < k → (task_at t.tasks k ≢ no_task) ⊎ (mail_at t.rest.mail k ≢ no_mail) → Breaks t k range_rule
  time : (Timely t.rest.clock.0 (task_at t.tasks k).state → ⊥) → Breaks t k time_rule
  start : t.rest.clock.0 < (task_at t.tasks k).start.0 → Breaks t k start_rule
  mask : (Unmet t.rest.flags (task_at t.tasks k).state → ⊥) → Breaks t k mask_rule
  zeros : (task_at t.tasks k).state ≡ Dormant → (Zeros (task_at t.tasks k) × (mail_at t.rest.mail k ≡ no_mail) → ⊥) → Breaks t k dormant_rule
  -- a message that fits it stands at one of the places
  met : is_of await_message (task_at t.tasks k).state ≡ true → 0 < fitting k (awaited_of (task_at t.tasks k).state) t.rest.messages → Breaks t k message_rule

-- it breaks none of its own rules
abbrev pub Whole : Table → ℕ → Type 0
Whole t k = (r : ℕ) → Breaks t k r → ⊥
