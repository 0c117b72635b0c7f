-- `choosing::choose` meets its contract: a turn goes on with the scan, and at the end nothing is left.
use Rattle.std.proofs.Common.{◌+◌, ◌∙◌, ap, sym, drop}
use Rattle.scan.specs.Choosing.{scanned}
use Rattle.scan.proofs.Loops.{scan_on, scan_end}
use Rattle.scan.proofs.choosing.choose.Goals as goal

pub loop-i-preserved : goal.loop-i-preserved
loop-i-preserved c =
    let l = c.loop-i in
    let es = c.args.entries.now in
    ap (scanned (drop (l.i + 1) es) (l.i + 1)) c.better-best.ensures ∙ scan_on es l.i l.best c.loop-i-test.true ∙ l.invariant

pub returns : goal.returns
returns c =
    let l = c.loop-i in
    sym (scan_end c.args.entries.now l.i l.best c.loop-i-test.false) ∙ l.invariant
