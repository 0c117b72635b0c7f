-- What the turns of the links go over: entries, a request or the pool, and who is named so far, by place.
use Rattle.std.specs.Prelude.{Bool, List}
use Rattle.executive.specs.declared.Task.{Task}
use Rattle.executive.specs.declared.Request.{Request}

pub record Runs : Type 0 where
  pub tasks : List Task
  pub named : List Bool

pub record Asked : Type 0 where
  pub request : Request
  pub named : List Bool

pub record Links : Type 0 where
  pub pool : List Request
  pub named : List Bool

abbrev pub runs_of : List Task → List Bool → Runs
runs_of ts bs = record { tasks = ts; named = bs }

abbrev pub asked_of : Request → List Bool → Asked
asked_of q bs = record { request = q; named = bs }

abbrev pub links_of : List Request → List Bool → Links
links_of p bs = record { pool = p; named = bs }
