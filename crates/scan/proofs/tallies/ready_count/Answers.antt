use Rattle.std.proofs.Common.{◌≡◌, ◌∙◌, arith, rules}
use Rattle.std.specs.List.{count_by}
use Rattle.std.proofs.lemmas.List.Sums.{count_by-le-length}
use Rattle.scan.specs.Entries.{is_ready}
use Rattle.scan.proofs.Chains.{counted}
use Rattle.scan.proofs.tallies.ready_count.Goals as goal

pub returns : goal.returns
returns c =
    let n : c.count.result ≡ count_by is_ready c.args.entries.now = search rules in
    (n ∙ counted is_ready c.args.entries.now, omega (arith, n, count_by-le-length is_ready c.args.entries.now))
