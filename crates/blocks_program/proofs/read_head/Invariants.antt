use Rattle.std.proofs.Common.{◌≡◌, ◌≤◌, length}
use Rattle.blocks_program.proofs.read_head.Given as goal

abbrev pub invariant-loop-n : goal.invariant-loop-n
invariant-loop-n g l = (length l.head ≡ length l.initial.head) × (l.n ≤ length l.head)
