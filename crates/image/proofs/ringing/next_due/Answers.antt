-- The next due alarm of those that are running. The loop's invariant: i is 32 or a member of the set, and the search from i on
-- finds what that from `from` on finds. The measure is what is left of the 32.
use mathlib.Core.Path.{sym, ◌∙◌}
use native.Mathlib.Omega.{arith}
use Rattle.image.proofs.RingLaid.{runs, due-hit, due-end, due-first, due-next}
use Rattle.image.proofs.ringing.next_due.Goals as goal

pub loop-i-init : goal.loop-i-init
loop-i-init c =
    let a = c.args in
    let n = c.next_in-i.ensures in
    (n.least, n.most, n.member, λ t l r. due-first a.time t l r a.from _ n)

pub returns-then-is_due : goal.returns-then-is_due
returns-then-is_due c =
    let a = c.args in
    let v = c.loop-i in
    let u = c.loop-i-test.true in
    record {
      lower_bound = (v.invariant.0, v.invariant.1);
      value = λ t l r. due-hit a.time t l v.i u (sym (c.is_due.ensures t l (runs r v.i u (v.invariant.2 u))) ∙ c.if-is_due.true) ∙ v.invariant.3 t l r;
    }

pub loop-i-preserved : goal.loop-i-preserved
loop-i-preserved c =
    let a = c.args in
    let v = c.loop-i in
    let u = c.loop-i-test.true in
    let n = c.next_in-i-in-loop-i.ensures in (
      omega (arith, v.invariant.0, n.least),
      n.most,
      n.member,
      λ t l r. due-next a.time t l r v.i _ u (sym (c.is_due.ensures t l (runs r v.i u (v.invariant.2 u))) ∙ c.if-is_due.false) n ∙ v.invariant.3 t l r,
    )

pub returns : goal.returns
returns c =
    let a = c.args in
    let v = c.loop-i in
    record {
      lower_bound = (v.invariant.0, v.invariant.1);
      value = λ t l r. due-end a.time t l v.i c.loop-i-test.false ∙ v.invariant.3 t l r;
    }
