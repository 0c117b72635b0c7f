-- The pool of queued start requests, in the order of asking, and what a step makes of it.
use Rattle.std.specs.Prelude.{cond, ◌≡◌, List, [], ◌∷◌, ◌++◌, Option, Some, None, ℕ, suc, ◌≤◌, ltb, eqb, length, take, drop}
use Rattle.executive.specs.declared.Request.{Request}
use Rattle.executive.specs.declared.Rest.{Rest}
use Rattle.executive.specs.Numbers.{most_queued}
use Rattle.executive.specs.Lists.{pad}
use Rattle.executive.specs.Places.{no_request}
use Rattle.executive.specs.Rest.{remade}

abbrev pub requests : Rest → List Request
requests r = take r.queued r.pool

-- the places behind a line are blank
pub record PoolInOrder (r : Rest) : Type 0 where
  pub room : r.queued ≤ most_queued
  pub clear : r.pool ≡ pad most_queued no_request (requests r)

-- ---- the pool
abbrev pub with_requests : List Request → Rest → Rest
with_requests p r = remade r.clock r.flags r.alarms (pad most_queued no_request p) (length p) r

-- the place of the earliest request for task k; the number of requests where there is none
unfoldable pub place_of : ℕ → List Request → ℕ
place_of k [] = 0
place_of k (r ∷ rs) = cond (eqb k r.target.0) 0 (suc (place_of k rs))

-- a line without what stands at a place
abbrev pub removed : {A : Type 0} → ℕ → List A → List A
removed i rs = take i rs ++ drop (suc i) rs

-- place i of n, if there is such a place
unfoldable pub found_at : ℕ → ℕ → Option ℕ
found_at i n = cond (ltb i n) (Some i) None
