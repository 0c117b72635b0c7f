-- The five passes of a round, each on what the one before left, by task number or place, ascending.
use Rattle.std.specs.Prelude.{ℕ, zero, suc, Bool, true, false, not, cond, ◌||◌, List, eqb, leb, get_or, set, replicate}
use Rattle.records.specs.declared.TaskNo.{TaskNo}
use Rattle.executive.specs.declared.Millis.{Millis}
use Rattle.executive.specs.declared.State.{State}
use Rattle.executive.specs.declared.State.TheVariants.{Dormant, Ready}
use Rattle.executive.specs.declared.Task.{Task}
use Rattle.executive.specs.declared.Request.{Request}
use Rattle.executive.specs.declared.Sub.{Sub}
use Rattle.executive.specs.declared.Mail.{Mail}
use Rattle.executive.specs.declared.Rest.{Rest}
use Rattle.executive.specs.declared.Table.{Table}
use Rattle.executive.specs.Numbers.{most_tasks, most_queued, flag_count, sub_count, highest}
use Rattle.executive.specs.Lists.{each, ◌and◌}
use Rattle.executive.specs.Places.{nobody, never, no_task, no_request, task_at}
use Rattle.executive.specs.States.{await_start, await_end, await_sub, awaited_of, is_of, is_dormant}
use Rattle.executive.specs.Entries.{with_state}
use Rattle.executive.specs.Rest.{remade, with_subs, with_post}
use Rattle.executive.specs.Pool.{with_requests}
use Rattle.executive.specs.Messages.{no_mail, with_letters}
use Rattle.executive.specs.Subprograms.{no_subprogram}
use Rattle.executive.specs.Letters.{all_that}
use Rattle.executive.specs.Check.{is_task, is_nobody, target_busy, message_in_range, alarm_right}
use Rattle.mender.specs.Links.{Runs}
use Rattle.mender.specs.Links.{Asked}
use Rattle.mender.specs.Links.{Links}
use Rattle.mender.specs.declared.links.Linked.{Linked}
use Rattle.mender.specs.Rows.{row}

-- the table with other entries and another rest; its queue and its word are made anew at the end
abbrev pub laid : List Task → Rest → Table → Table
laid ts r t = record { tasks = ts; queue = t.queue; ready = t.ready; levels = t.levels; rest = r }

-- ---- own entries: the task whose entry breaks an own rule becomes dormant, without mail; its own priority stays, but is 0
-- where it is over 15. Past the task count an entry is zero. The rule that each breaks, 0 for none, stands in bs
abbrev pub own_kept : Task → ℕ
own_kept e = cond (leb e.own highest) e.own 0

abbrev pub slept : Task → Task
slept e = record { own = own_kept e; priority = 0; argument = 0; end_waiter = nobody; state = Dormant; start = never }

unfoldable pub entry_after : ℕ → ℕ → ℕ → Task → Task
entry_after n k b e = cond (leb k n) (cond (eqb b 0) e (slept e)) no_task

unfoldable pub mail_after : ℕ → ℕ → ℕ → Mail → Mail
mail_after n k b x = cond (leb k n and eqb b 0) x no_mail

abbrev pub entries_after : ℕ → List ℕ → List Task → List Task
entries_after n bs ts = row (λ i. entry_after n (suc i) (get_or bs i 0) (get_or ts i no_task)) most_tasks 0

abbrev pub mails_after : ℕ → List ℕ → List Mail → List Mail
mails_after n bs ml = row (λ i. mail_after n (suc i) (get_or bs i 0) (get_or ml i no_mail)) most_tasks 0

unfoldable pub own_pass : List ℕ → Table → Table
own_pass bs t =
    let r : Rest = t.rest in
    laid (entries_after r.count bs t.tasks) (with_post r.messages r.sent (mails_after r.count bs r.mail) r) t

-- ---- messages and requests: of all places those in range stay and close up, requests for busy tasks only. A place of zeros
-- is not in range
abbrev pub keeps_request : ℕ → List Task → Request → Bool
keeps_request n ts q = leb q.priority highest and is_task n q.target and target_busy ts q

unfoldable pub queued_pass : Table → Table
queued_pass t =
    let r : Rest = t.rest in
    laid t.tasks (with_requests (all_that (keeps_request r.count t.tasks) r.pool) (with_letters (all_that (message_in_range r.count) r.messages) r)) t

-- ---- links: who is named by a link that stands, by place; number 0 is nobody
unfoldable pub named_at : List Bool → ℕ → Bool
named_at bs zero = false
named_at bs (suc i) = get_or bs i false

unfoldable pub marked : List Bool → ℕ → List Bool
marked bs zero = bs
marked bs (suc i) = set bs i true

-- a link of task or target j to number w stands where w is one of n tasks, not j itself, in the state of that kind, and no
-- earlier link names it
unfoldable pub stands : ℕ → List Task → List Bool → ℕ → ℕ → TaskNo → Bool
stands n ts bs kind j w = is_task n w and not (eqb j w.0) and is_of kind (task_at ts w.0).state and not (named_at bs w.0)

abbrev pub unlinked : Task → Task
unlinked e = record { own = e.own; priority = e.priority; argument = e.argument; end_waiter = nobody; state = e.state; start = e.start }

-- the run of the task at place i
unfoldable pub run_turn : ℕ → Runs → ℕ → Runs
run_turn n r i =
    let e : Task = get_or r.tasks i no_task in
    cond (stands n r.tasks r.named await_end (suc i) e.end_waiter)
    (record { tasks = r.tasks; named = marked r.named e.end_waiter.0 })
    (record { tasks = set r.tasks i (unlinked e); named = r.named })

abbrev pub none_named : List Bool
none_named = replicate most_tasks false

unfoldable pub linked_runs : ℕ → List Task → Runs
linked_runs n ts = each (run_turn n) most_tasks 0 (record { tasks = ts; named = none_named })

-- a request: the waiter for its start, then the one for its end, which it names only where it names none for its start
abbrev pub startless : Request → Request
startless q = record { target = q.target; priority = q.priority; argument = q.argument; start_waiter = nobody; end_waiter = q.end_waiter }

abbrev pub endless : Request → Request
endless q = record { target = q.target; priority = q.priority; argument = q.argument; start_waiter = q.start_waiter; end_waiter = nobody }

unfoldable pub start_turn : ℕ → List Task → Asked → Asked
start_turn n ts a =
    cond (stands n ts a.named await_start a.request.target.0 a.request.start_waiter)
    (record { request = a.request; named = marked a.named a.request.start_waiter.0 })
    (record { request = startless a.request; named = a.named })

unfoldable pub end_turn : ℕ → List Task → Asked → Asked
end_turn n ts a =
    cond (is_nobody a.request.start_waiter and stands n ts a.named await_end a.request.target.0 a.request.end_waiter)
    (record { request = a.request; named = marked a.named a.request.end_waiter.0 })
    (record { request = endless a.request; named = a.named })

unfoldable pub request_turn : ℕ → List Task → Links → ℕ → Links
request_turn n ts l i =
    let a : Asked = end_turn n ts (start_turn n ts (record { request = get_or l.pool i no_request; named = l.named })) in
    record { pool = set l.pool i a.request; named = a.named }

unfoldable pub linked_requests : ℕ → List Task → List Request → List Bool → Links
linked_requests n ts p bs = each (request_turn n ts) most_queued 0 (record { pool = p; named = bs })

unfoldable pub link_pass : Table → Linked
link_pass t =
    let r : Rest = t.rest in
    let u : Runs = linked_runs r.count t.tasks in
    let l : Links = linked_requests r.count u.tasks r.pool u.named in
    record { table = laid u.tasks (remade r.clock r.flags r.alarms l.pool r.queued r) t; named = l.named }

-- ---- subprograms and alarms: one without a busy holder is freed; an alarm out of range is cleared
abbrev pub is_holder : ℕ → List Task → TaskNo → Bool
is_holder n ts k = is_task n k and not (is_dormant (task_at ts k.0).state)

unfoldable pub sub_after : ℕ → List Task → Sub → Sub
sub_after n ts s = record { holder = cond (is_holder n ts s.holder) s.holder nobody; line = s.line; waiting = s.waiting }

abbrev pub alarm_after : ℕ → Millis → Millis
alarm_after c a = cond (alarm_right c a) a never

abbrev pub subs_after : ℕ → List Task → List Sub → List Sub
subs_after n ts ss = row (λ i. sub_after n ts (get_or ss i no_subprogram)) sub_count 0

abbrev pub alarms_after : ℕ → List Millis → List Millis
alarms_after c al = row (λ i. alarm_after c (get_or al i never)) flag_count 0

unfoldable pub held_pass : Table → Table
held_pass t =
    let r : Rest = t.rest in
    laid t.tasks (with_subs (subs_after r.count t.tasks r.subs) (remade r.clock r.flags (alarms_after r.clock.0 r.alarms) r.pool r.queued r)) t

-- ---- waiters: one whom no link names, b tells whether one does, or whose subprogram is free, becomes ready
abbrev pub awaits_link : State → Bool
awaits_link s = is_of await_start s || is_of await_end s

unfoldable pub is_lost : List Sub → Bool → State → Bool
is_lost ss b s = cond (awaits_link s) (not b) (is_of await_sub s and is_nobody (get_or ss (awaited_of s) no_subprogram).holder)

unfoldable pub waiter_after : List Sub → Bool → Task → Task
waiter_after ss b e = cond (is_lost ss b e.state) (with_state Ready e) e

abbrev pub waiters_after : List Sub → List Bool → List Task → List Task
waiters_after ss bs ts = row (λ i. waiter_after ss (get_or bs i false) (get_or ts i no_task)) most_tasks 0

unfoldable pub waiter_pass : List Bool → Table → Table
waiter_pass bs t = laid (waiters_after t.rest.subs bs t.tasks) t.rest t
