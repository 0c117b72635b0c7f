-- `reading::task_of` meets its contract: a place is at most the list's length, so that its number fits a byte.
use native.Mathlib.Omega.{arith}
use Rattle.blocks.proofs.Places.{place-most}
use Rattle.blocks.proofs.reading.task_of.Goals as goal

pub overflow_cast-result : goal.overflow_cast-result
overflow_cast-result c = omega (arith, c.place_of.ensures, place-most c.args.address c.args.list.now, c.requires)

pub overflow_add-result : goal.overflow_add-result
overflow_add-result c = omega (arith, c.place_of.ensures, place-most c.args.address c.args.list.now, c.requires)
