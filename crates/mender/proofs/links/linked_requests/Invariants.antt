use Prim.Native.Nat.{◌-◌}
use mathlib.Core.Path.{◌≡◌}
use Rattle.executive.specs.Lists.{each}
use Rattle.mender.specs.Links.{links_of}
use Rattle.mender.specs.Passes.{request_turn, linked_requests}
use Rattle.mender.proofs.links.linked_requests.Given as goal

abbrev pub invariant-loop-q : goal.invariant-loop-q
invariant-loop-q l =
    each (request_turn l.count l.tasks) (32 - l.q-index) l.q-index (links_of l.pool l.named) ≡ linked_requests l.count l.tasks l.fn.pool l.fn.named
