-- `telling::step_lines` meets its contract: line after line.
use Prim.Native.Nat.{◌+◌, ◌*◌, ◌≤◌}
use lib.ListN.{take}
use Rattle.text.specs.Glyphs.{Adds}
use Rattle.why.specs.Texts.{step_lines}
use Rattle.why.proofs.telling.step_lines.Given as goal

abbrev pub invariant-loop-s : goal.invariant-loop-s
invariant-loop-s l = Adds l.initial.out l.at l.out l.place (step_lines (take l.s-index l.steps)) × (l.place ≤ l.at + 1792 * l.s-index)
