use Rattle.std.proofs.Common.{◌≡◌, ◌≤◌, ◌++◌, length, take, drop}
use Rattle.scan.specs.Making.{numbered_from}
use Rattle.scan.proofs.making.numbered.Given as goal

abbrev pub invariant-loop-i : goal.invariant-loop-i
invariant-loop-i l = record {
  few : l.last ≤ l.i;
  long : length l.out ≡ 16;
  filled : take l.i l.out ++ numbered_from l.last (drop l.i l.fn.tasks) ≡ numbered_from 0 l.fn.tasks;
}
