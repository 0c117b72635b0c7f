use Rattle.std.proofs.Common.{◌≡◌, rules}
use Rattle.std.specs.List.{count_by}
use borrow.Author.Tests.{lt-ltb, le-leb}
use Rattle.scan.specs.Entries.{is_bearer}
use Rattle.scan.proofs.Chains.{counted}
use Rattle.scan.proofs.checking.arrival_right.Goals as goal

pub returns-then-x-last : goal.returns-then-x-last
returns-then-x-last c =
    let n : c.count-bearers.result ≡ count_by (is_bearer c.args.x.arrival) c.args.all.now = search rules in
    let k = c.if-x-last.true in
    simp (← c.is_ready.ensures, c.if-is_ready.true, lt-ltb 0 c.args.x.arrival k.0, le-leb c.args.x.arrival c.args.last k.1, n, counted)
