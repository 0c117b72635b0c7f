-- The path from a task along what each waits for, and the answer to a question.
use Rattle.std.specs.Prelude.{ℕ, zero, suc, ◌+◌, ◌-◌, ◌<◌, ◌≡◌, Bool, true, false, cond, List, Option, MatchOption, eqb, ltb, length, take, drop, set, replicate}
use Rattle.records.specs.declared.TaskNo.{TaskNo}
use Rattle.executive.specs.declared.Table.{Table}
use Rattle.executive.specs.Numbers.{most_tasks}
use Rattle.executive.specs.Lists.{next_of}
use Rattle.executive.specs.Places.{nobody}
use Rattle.executive.specs.Pool.{requests}
use Rattle.executive.specs.Check.{is_task, is_well_formed}
use Rattle.why.specs.declared.Cause.{Cause}
use Rattle.why.specs.declared.Cause.TheVariants as cause
use Rattle.why.specs.declared.Step.{Step}
use Rattle.why.specs.declared.Reasons.{Reasons}
use Rattle.why.specs.declared.On.{On}
use Rattle.why.specs.declared.On.TheVariants as on
use Rattle.why.specs.Causes.{target_at, holder_at, cause_of}

abbrev pub no_step : Step
no_step = record { task = nobody; cause = cause.Dormant }

-- the answer with a number, and no step
abbrev pub refusal : ℕ → Bool → Reasons
refusal n v = record { number = n; v = v; steps = replicate most_tasks no_step; length = 0; ring = 0 }

-- the place of task k among the first n steps; n where it is none of them
unfoldable pub met_at : ℕ → ℕ → List Step → ℕ
met_at k n steps = next_of (λ (s : Step). eqb k s.task.0) 0 (take n steps)

-- the same among all of some steps, as an index; none where it is none of them
abbrev pub MetAt : ℕ → List Step → Option ℕ → Type 0
MetAt k steps r = MatchOption r (next_of (λ (s : Step). eqb k s.task.0) 0 steps ≡ length steps) (λ i. (i < length steps) × (next_of (λ (s : Step). eqb k s.task.0) 0 steps ≡ i))

-- one step more; a ring from a place on
abbrev pub longer : Reasons → TaskNo → Cause → Reasons
longer p k c = record {
  number = p.number;
  v = p.v;
  steps = set p.steps p.length (record { task = k; cause = c });
  length = p.length + 1;
  ring = p.ring;
}

abbrev pub closed : Reasons → ℕ → Reasons
closed p i = record { number = p.number; v = p.v; steps = p.steps; length = p.length; ring = p.length - i }

-- how many tasks are not met yet: each step is another's
abbrev pub unmet : Reasons → ℕ
unmet p = most_tasks - p.length

-- ---- the path p goes on: by a link, from its task on as `go` says; by a cause, over its link as `go` says
abbrev pub by_link : (TaskNo → Reasons) → Table → On → Reasons
by_link go t (on.Request i) = go (target_at i (requests t.rest))
by_link go t (on.Run k) = go k
by_link go t (on.Held m) = go (holder_at m.0 t.rest.subs)

abbrev pub by_cause : (On → Reasons) → Cause → Reasons → Reasons
by_cause go cause.Dormant p = p
by_cause go cause.Active p = p
by_cause go (cause.Ready n) p = p
by_cause go (cause.Paused at) p = p
by_cause go (cause.Due at) p = p
by_cause go (cause.Flags m x) p = p
by_cause go (cause.Start i k) p = go (on.Request i)
by_cause go (cause.EndOfRequest i k) p = go (on.Request i)
by_cause go (cause.EndOfRun k) p = go (on.Run k)
by_cause go (cause.Subprogram m k) p = go (on.Held m)
by_cause go (cause.Message s) p = p

-- the path p goes on at task k, with so many tasks not met yet: a task that has been met closes a ring
unfoldable pub task_path : ℕ → Table → TaskNo → Reasons → Reasons
task_path zero t k p = cond (ltb (met_at k.0 p.length p.steps) p.length) (closed p (met_at k.0 p.length p.steps)) p
task_path (suc left) t k p =
    cond (ltb (met_at k.0 p.length p.steps) p.length) (closed p (met_at k.0 p.length p.steps))
    (by_cause (by_link (λ j. task_path left t j (longer p k (cause_of t k.0))) t) (cause_of t k.0) (longer p k (cause_of t k.0)))

-- it goes on at what is waited for
abbrev pub link_path : ℕ → Table → On → Reasons → Reasons
link_path left t link p = by_link (λ j. task_path left t j p) t link

-- ---- the answer: 1 where the table is not well formed, 6 with V where it has no such task, else the path
unfoldable pub explained : Table → TaskNo → Reasons
explained t k =
    cond (is_well_formed t) (cond (is_task t.rest.count k) (task_path most_tasks t k (refusal 0 false)) (refusal 6 true)) (refusal 1 false)

-- the contract
abbrev pub Explains : Table → TaskNo → Reasons → Type 0
Explains t k r = r ≡ explained t k

-- the contract of the answer about what is no table
abbrev pub IsNoTable : Reasons → Type 0
IsNoTable r = r ≡ refusal 1 false

-- ---- what an answer tells: the path, first to last, and its last steps that are the ring
abbrev pub path_in : Reasons → List Step
path_in r = take r.length r.steps

abbrev pub ring_in : Reasons → List Step
ring_in r = drop (r.length - r.ring) (path_in r)
