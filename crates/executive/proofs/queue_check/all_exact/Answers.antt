use Prim.Native.Nat.{ℕ}
use mathlib.Core.Path.{◌∙◌}
use native.Mathlib.Omega.{arith}
use lib.Dec.{eqb}
use lib.ListN.{take}
use lib.Seq.{get_or-take}
use Rattle.std.proofs.Common.{rules}
use Rattle.executive.specs.declared.Task.{Task}
use Rattle.executive.specs.Lists.{one}
use Rattle.executive.specs.Places.{no_task}
use Rattle.executive.specs.States.{is_as}
use Rattle.executive.proofs.Lists.Chains.{up_to-zipped}
use Rattle.executive.proofs.check.Passes.{tallied_at, tallied_next, tallied_exact}
use Rattle.executive.proofs.queue_check.all_exact.Goals as goal

pub returns : goal.returns
returns c =
    let a = c.args in
    let t = c.tally-counts in
    let f = is_as a.kind a.number in
    up_to-zipped c.all.new.self (λ (e : Task) (n : ℕ). eqb n (one (f e.state))) (take a.count a.tasks.now) t.result _
    (tallied_at f t.result a.tasks.now) a.count no_task 0 c.all.ensures.ran (search rules) (search rules) (λ x b q k. search rules)
    (omega arith) (omega arith) (λ i h. rw (get_or-take a.count a.tasks.now i no_task h) (tallied_next f t.result a.tasks.now i))
    ∙ tallied_exact f t.result a.tasks.now a.line.now a.count c.requires.1 t.ensures
