-- `sound_entries::fields_right` meets its contract.
use native.Mathlib.Omega.{arith}
use Rattle.image.proofs.EntriesRead.{levels-high, waiter-high, waiter-own, waiter-other}
use Rattle.image.proofs.sound_entries.fields_right.Goals as goal
use Rattle.image.proofs.sound_entries.fields_right.Goals.{then-waiter-ne0+else-count-waiter+else-k-waiter, else-waiter-ne0}

pub returns-then-own-level-gt15 : goal.returns-then-own-level-gt15
returns-then-own-level-gt15 c = let a = c.args in levels-high a.own a.level _ _ c.if-own-level-gt15.true

pub returns-then-count-waiter : goal.returns-then-count-waiter
returns-then-count-waiter c = let a = c.args in waiter-high a.k a.count a.time.0 a.own a.level a.waiter a.start c.if-own-level-gt15.false c.if-count-waiter.true

pub returns-then-k-waiter : goal.returns-then-k-waiter
returns-then-k-waiter c = let a = c.args in waiter-own a.k a.count a.time.0 a.own a.level a.waiter a.start c.if-own-level-gt15.false c.if-k-waiter.true

pub returns : goal.returns
returns c =
    let a = c.args in
    let m = waiter-other a.k a.count a.time.0 a.own a.level a.waiter a.start c.if-own-level-gt15.false in
    elim c.if-waiter-ne0.branch [
      | then-waiter-ne0+else-count-waiter+else-k-waiter w ↦ m w.if-count-waiter.false w.if-k-waiter.false
      | else-waiter-ne0 w ↦ m (omega arith) (λ z. omega (arith, z))
    ]
