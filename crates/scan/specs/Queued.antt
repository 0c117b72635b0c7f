-- The first engine's table that a table of the second stands for: the same entries and rest, and the queue in the order
-- of choosing, with the word of its levels.
use Rattle.std.specs.Prelude.{List, length}
use Rattle.executive.specs.declared.Table.{Table}
use Rattle.executive.specs.Numbers.{most_tasks}
use Rattle.executive.specs.Lists.{pad}
use Rattle.executive.specs.Places.{nobody}
use Rattle.executive.specs.Queue.{Item}
use Rattle.executive.specs.Table.{items, levels_of}
use Rattle.scan.specs.declared.Scanned.{Scanned}
use Rattle.scan.specs.Entries.{tasks_in}
use Rattle.scan.specs.Choosing.{order_of}

-- the ready tasks with their priorities, in the order of choosing
abbrev pub in_order : Scanned → List Item
in_order e = items (tasks_in e.entries) (order_of e.entries)

unfoldable pub queued : Scanned → Table
queued e = record {
  tasks = tasks_in e.entries;
  queue = pad most_tasks nobody (order_of e.entries);
  ready = length (order_of e.entries);
  levels = levels_of (in_order e);
  rest = e.rest;
}
