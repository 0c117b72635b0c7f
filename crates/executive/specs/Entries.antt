-- One task's entry, and what a departure or an entry makes of it.
use Rattle.std.specs.Prelude.{cond}
use Rattle.executive.specs.declared.Millis.{Millis}
use Rattle.executive.specs.declared.State.{State}
use Rattle.executive.specs.declared.State.TheVariants.{Dormant, Ready, Due}
use Rattle.executive.specs.declared.Task.{Task}
use Rattle.executive.specs.declared.Request.{Request}
use Rattle.executive.specs.Places.{nobody, never}
use Rattle.executive.specs.States.{due, time_of, is_of}

-- the entry with another state and another last scheduled start, and everything else as it was
abbrev pub scheduled : State → Millis → Task → Task
scheduled s m e = record { own = e.own; state = s; priority = e.priority; argument = e.argument; start = m; end_waiter = e.end_waiter }

-- the entry in another state
abbrev pub with_state : State → Task → Task
with_state s e = record { own = e.own; state = s; priority = e.priority; argument = e.argument; start = e.start; end_waiter = e.end_waiter }

-- the entry of a task whose run has ended: dormant, zeros but for its own priority
abbrev pub as_dormant : Task → Task
as_dormant e = record { own = e.own; state = Dormant; priority = 0; argument = 0; start = never; end_waiter = nobody }

-- the entry as a request's run begins: its priority and argument, scheduled start now
abbrev pub begun : Request → Millis → Task → Task
begun r now e = record { own = e.own; state = Ready; priority = r.priority; argument = r.argument; start = now; end_waiter = r.end_waiter }

-- the entry of a task that is due to restart; priority and argument are kept (H), and nobody waits for the end of
-- the run that is over
abbrev pub due_at : Millis → Task → Task
due_at at e = record { own = e.own; state = Due at; priority = e.priority; argument = e.argument; start = e.start; end_waiter = nobody }

-- a due task's scheduled start becomes the time aimed at when it enters; any other task keeps its own
abbrev pub aimed : State → Millis → Millis
aimed s start = cond (is_of due s) (time_of s) start

-- the entry of a task whose wait is over
abbrev pub risen : Task → Task
risen e = record {
  own = e.own;
  state = Ready;
  priority = e.priority;
  argument = e.argument;
  start = aimed e.state e.start;
  end_waiter = e.end_waiter;
}
