-- The tasks not met yet fall: a task that is met for the first time is a step of the path and calls at one fewer, a link
-- calls at as many, so the link's measure lies between.
use Prim.Native.Nat.{◌+◌}
use Rattle.why.specs.Paths.{unmet}
use Rattle.why.proofs.following.+follow_link_follow_task.Given as goal

abbrev pub decreases-follow_link : goal.decreases-follow_link
decreases-follow_link l = unmet l.path + unmet l.path + 1

abbrev pub decreases-follow_task : goal.decreases-follow_task
decreases-follow_task l = unmet l.path + unmet l.path
