-- A round leaves a clean table: the passes one after the other, each with what it leaves and what it keeps.
use Prim.Native.Nat.{ℕ, ◌≤◌}
use mathlib.Core.Path.{◌≡◌}
use mathlib.Core.Bool.{Bool}
use mathlib.Core.List.{List}
use lib.ListN.{length}
use Rattle.executive.specs.declared.Table.{Table}
use Rattle.executive.specs.Numbers.{most_tasks, most_queued, most_sent}
use Rattle.executive.specs.Pool.{requests}
use Rattle.mender.specs.declared.links.Linked.{Linked}
use Rattle.mender.specs.Rules.{own_rules}
use Rattle.mender.specs.Passes.{own_pass, queued_pass, link_pass, held_pass}
use Rattle.mender.specs.Rounds.{settled, round}
use Rattle.mender.specs.Mending.{Typed}
use Rattle.mender.proofs.Passed.{Owned, Queued, Clean}
use Rattle.mender.proofs.Passed as passed
use Rattle.mender.proofs.OwnRules.{own-pass}
use Rattle.mender.proofs.Queued.{queued-pass}
use Rattle.mender.proofs.LinkPass.{link_owned, link_queued, link_linked}
use Rattle.mender.proofs.Held.{held-pass, held_keeps}
use Rattle.mender.proofs.Waited.{waiter-pass}

-- what a pass does not touch
own-sized : (t : Table) (bs : List ℕ) → Typed t → (length (own_pass bs t).rest.pool ≡ most_queued) × (length (own_pass bs t).rest.messages ≡ most_sent)
unfolding own_pass
own-sized t bs y = (y.pool, y.messages)

queued-small : (t : Table) (bs : List ℕ) → t.rest.count ≤ most_tasks → (queued_pass (own_pass bs t)).rest.count ≤ most_tasks
unfolding own_pass queued_pass
queued-small t bs h = h

held-linked : (bs : List Bool) (t : Table) → passed.Linked bs t.tasks (requests t.rest) → passed.Linked bs (held_pass t).tasks (requests (held_pass t).rest)
unfolding held_pass
held-linked bs t k = k

-- the last two passes, from what the links' pass left
settled_clean : (l : Linked) → Owned l.table → Queued l.table → passed.Linked l.named l.table.tasks (requests l.table.rest) → Clean (settled l)
unfolding settled
settled_clean l o q k =
    let x = held_keeps l.table o q in
    waiter-pass l.named (held_pass l.table) x.0 x.1 (held-linked l.named l.table k) (held-pass l.table)

pub round_clean : (t : Table) → Typed t → t.rest.count ≤ most_tasks → Clean (round t)
unfolding round
round_clean t y h =
    let v : Table = queued_pass (own_pass (own_rules t) t) in
    let s = own-sized t (own_rules t) y in
    let x : Owned v × Queued v = queued-pass (own_pass (own_rules t) t) s.0 s.1 (own-pass t) in
    let g : v.rest.count ≤ most_tasks = queued-small t (own_rules t) h in
    settled_clean (link_pass v) (link_owned v g x.0 x.1) (link_queued v g x.0 x.1) (link_linked v g x.0 x.1)
