use Rattle.std.proofs.Common.{◌≡◌, ◌*◌, ◌≤◌, drop}
use Rattle.executive.specs.Decisions.{joins_for}
use Rattle.scan.specs.Moves.{enter_all_scan}
use Rattle.scan.proofs.Work.enter_all.Given as goal

abbrev pub invariant-loop-x : goal.invariant-loop-x
invariant-loop-x l = record {
  walked : l.self.walked ≤ 15 * l.x-index;
  entered : enter_all_scan (joins_for l.q l.now (drop l.x-index l.entrants)) l.self ≡ enter_all_scan (joins_for l.q l.now l.entrants) l.initial.self;
}
