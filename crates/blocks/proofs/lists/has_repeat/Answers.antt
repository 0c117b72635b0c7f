-- `lists::has_repeat` meets its contract: the invariant is that the rest of the list has a repeat exactly where the
-- whole has.
use Prim.Native.Nat.{ℕ, ◌-◌, ◌+◌}
use mathlib.Core.Path.{◌≡◌, sym, ap, ◌∙◌}
use mathlib.Core.List.{List}
use native.Mathlib.Omega.{arith}
use lib.ListN.{length, take, drop, length-drop}
use Rattle.std.proofs.lemmas.List.{take_all}
use Rattle.blocks.specs.Lists.{has_repeat}
use Rattle.blocks.proofs.Places.{repeat_here, repeat_next, repeat_end}
use Rattle.blocks.proofs.lists.has_repeat.Goals as goal

-- the rest of the list, to its end
rest : (l : List ℕ) (i : ℕ) → take (length l - (i + 1)) (drop (i + 1) l) ≡ drop (i + 1) l
rest l i = take_all (length l - (i + 1)) (drop (i + 1) l) (omega (arith, length-drop (i + 1) l))

pub returns-then-place_of-rest : goal.returns-then-place_of-rest
returns-then-place_of-rest c =
    let v = c.loop-i in
    let l = c.args.list.now in
    let p = rw (rest l v.i) at c.place_of.ensures in
    let t = rw (rest l v.i) at c.if-place_of-rest.true in
    sym (repeat_here l v.i c.loop-i-test.true (omega (arith, p, t))) ∙ v.invariant

pub loop-i-preserved : goal.loop-i-preserved
loop-i-preserved c =
    let v = c.loop-i in
    let l = c.args.list.now in
    let p = rw (rest l v.i) at c.place_of.ensures in
    let f = rw (rest l v.i) at c.if-place_of-rest.false in
    sym (repeat_next l v.i c.loop-i-test.true (omega (arith, p, f))) ∙ v.invariant

pub returns : goal.returns
returns c =
    let l = c.args.list.now in
    let e : c.loop-i.i ≡ length l = omega arith in
    sym (repeat_end l (length l) (omega arith)) ∙ ap (λ i. has_repeat (drop i l)) (sym e) ∙ c.loop-i.invariant
