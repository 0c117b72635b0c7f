-- The list of the entries that differ: by task number, each once, with the first rule that it broke.
use Rattle.std.specs.Prelude.{ℕ, suc, cond, List, [], ◌∷◌, ◌++◌, eqb, ltb, get_or}
use Rattle.records.specs.declared.TaskNo.{TaskNo}
use Rattle.executive.specs.declared.Task.{Task}
use Rattle.executive.specs.Numbers.{most_tasks}
use Rattle.executive.specs.Lists.{each}
use Rattle.executive.specs.Places.{nobody, no_task}
use Rattle.executive.specs.States.{state_kind}
use Rattle.mender.specs.declared.Note.{Note}
use Rattle.mender.specs.declared.filled.Filled.{Filled}
use Rattle.mender.specs.Filled.{filled_of, filled_with}
use Rattle.mender.specs.Rules.{range_rule, link_rule, lost_link}

abbrev pub no_note : Note
no_note = record { task = nobody; rule = 0 }

-- notes as they stand in the list: some of them, and one more where the rule is not 0
abbrev pub noted_of : List Note → Filled Note most_tasks
noted_of ns = filled_of most_tasks no_note ns

abbrev pub note_of : TaskNo → ℕ → Note
note_of k r = record { task = k; rule = r }

abbrev pub noted_with : TaskNo → ℕ → Filled Note most_tasks → Filled Note most_tasks
noted_with k r l = cond (eqb r 0) l (filled_with (note_of k r) l)

-- of n tasks, an entry that was e and is f now, and broke the own rule b: that rule; else, where its link was cleared, the
-- range's where the link was over the task count and else the links' own; else, where its state is another one, that of a
-- waiter whose link was lost; 0 where it is as it was
unfoldable pub note_rule : ℕ → ℕ → Task → Task → ℕ
note_rule n b e f =
    cond (eqb b 0)
    (cond (eqb e.end_waiter.0 f.end_waiter.0)
    (cond (eqb (state_kind e.state) (state_kind f.state)) 0 lost_link)
    (cond (ltb n e.end_waiter.0) range_rule link_rule))
    b

abbrev pub note_at : ℕ → List ℕ → List Task → List Task → ℕ → ℕ
note_at n bs ts us i = note_rule n (get_or bs i 0) (get_or ts i no_task) (get_or us i no_task)

unfoldable pub note_turn : ℕ → List ℕ → List Task → List Task → List Note → ℕ → List Note
note_turn n bs ts us ns i =
    cond (eqb (note_at n bs ts us i) 0) ns (ns ++ (note_of (record { 0 = suc i }) (note_at n bs ts us i) ∷ []))

-- of the entries ts and, after mending, us, where bs has the own rules that they broke
unfoldable pub notes_of : ℕ → List ℕ → List Task → List Task → List Note
notes_of n bs ts us = each (note_turn n bs ts us) most_tasks 0 []
