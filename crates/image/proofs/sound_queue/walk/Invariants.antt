-- `sound_queue::walk` meets its contract. The invariant is `Walking`.
use Rattle.image.specs.Image.{load_of, line_from}
use Rattle.image.proofs.Marked.{Walking}
use Rattle.image.proofs.sound_queue.walk.Given as goal

abbrev pub invariant-loop-i : goal.invariant-loop-i
invariant-loop-i l = Walking (load_of l.b).tasks (line_from l.b l.at) l.taken l.count l.i l.p l.seen l.word
