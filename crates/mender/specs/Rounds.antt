-- The rounds: the five passes, one after the other, until none of them has anything left to do.
use Rattle.std.specs.Prelude.{ℕ, zero, suc, ◌≡◌}
use Rattle.executive.specs.declared.Table.{Table}
use Rattle.mender.specs.declared.links.Linked.{Linked}
use Rattle.mender.specs.Rules.{own_rules}
use Rattle.mender.specs.Passes.{own_pass, queued_pass, link_pass, held_pass, waiter_pass}

-- the last three passes, from the links on
unfoldable pub settled : Linked → Table
settled l = waiter_pass l.named (held_pass l.table)

unfoldable pub round : Table → Table
round t = settled (link_pass (queued_pass (own_pass (own_rules t) t)))

-- so many rounds
unfoldable pub rounds_of : ℕ → Table → Table
rounds_of zero t = t
rounds_of (suc n) t = rounds_of n (round t)

-- none is left to do
abbrev pub Settled : Table → Type 0
Settled t = round t ≡ t

-- a second round is one too many (`settles`): so many are enough
abbrev pub enough : ℕ
enough = 2
