use mathlib.Core.Path.{refl, sym, ◌∙◌}
use native.Mathlib.Omega.{arith}
use Rattle.executive.specs.Lists.{pad}
use Rattle.executive.specs.Letters.{all_that}
use Rattle.mender.proofs.CodeRows.{closed-more, closed-not, closed-end}
use Rattle.mender.proofs.filled.closed_up.Goals as goal
use Rattle.mender.proofs.filled.closed_up.Goals.{then-stays, else-stays}

pub loop-x-init : goal.loop-x-init
unfolding all_that pad
loop-x-init g c = (omega arith, λ f t. refl)

pub loop-x-preserved : goal.loop-x-preserved
loop-x-preserved g c =
    let v = c.loop-x in
    let a = c.args in
    let l = c.type_inv.x-items in
    elim c.if-stays.branch [
      | then-stays w ↦ (omega arith, λ f t. rw (w.places-is, w.taken-is) (closed-more f a.free 32 a.given l v.places v.taken v.x-index (v.invariant.1 f t) _ c.loop-x-test.true (sym (t _ _ c.stays.ensures) ∙ w.if-stays.true)))
      | else-stays w ↦ (omega arith, λ f t. rw (w.places-is, w.taken-is) (closed-not f a.free 32 a.given l v.places v.taken v.x-index (v.invariant.1 f t) _ c.loop-x-test.true (sym (t _ _ c.stays.ensures) ∙ w.if-stays.false)))
    ]

pub returns : goal.returns
returns g c =
    let v = c.loop-x in
    λ f t. closed-end f c.args.free 32 c.args.given c.well_formed.0.1.0.1 v.places v.taken v.x-index (v.invariant.1 f t) (omega arith)
