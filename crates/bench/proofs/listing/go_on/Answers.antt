-- `listing::go_on` meets its contract. On the way the image is that of the table where the listing stands.
use Rattle.std.proofs.Common.{◌≡◌, sym, ap, ◌∙◌, arith, get_or, take, drop, length-take-le}
use Rattle.bench.specs.Listing.{whole_of}
use Rattle.bench.proofs.Told.{whole-fits}
use Rattle.bench.proofs.Turns.{going_none, going_act, going_last, going_full, whole_in, line-some, saturated}
use Rattle.bench.proofs.listing.go_on.Goals as goal

pub loop-out-init : goal.loop-out-init
loop-out-init c = record {
  going = going_none c.args.input.now _ c.args.out.now c.args.from c.requires;
  image = c.image_of-image.ensures.holds.image;
  small = omega (arith, c.well_formed);
}

pub overflow_sub-out : goal.overflow_sub-out
overflow_sub-out c = omega (arith, c.loop-out.invariant.going.place, c.loop-out.invariant.going.adds.size)

pub returns-in_default : goal.returns-in_default
returns-in_default c =
    let g = c.loop-out.invariant.going in
    let left = c.left_at-left.ensures in
    rw (c.load-run.ensures, ← c.image_of-image.ensures.holds.loads)
    (going_last g (omega (arith, c.loop-out-test.true, g.adds.size)) (sym (rw left at c.in_default.ensures)) (rw left at c.last_line-used.ensures))

pub slice_bounds-act-end-in-loop-out : goal.slice_bounds-act-end-in-loop-out
slice_bounds-act-end-in-loop-out c =
    sym (length-take-le c.in-Some.n c.left_at-left.result.now (omega (arith, c.in-Some.ensures.1, whole-fits c.left_at-left.result.now)))

pub bounds-left-0 : goal.bounds-left-0
bounds-left-0 c = omega (arith, c.in-Some.ensures.0, c.in-Some.ensures.1, whole-fits c.left_at-left.result.now)

pub overflow_add-run : goal.overflow_add-run
overflow_add-run c =
    let n : c.in-Some.n ≡ whole_of (drop c.loop-out.run.at c.args.input.now) = rw c.left_at-left.ensures at c.in-Some.ensures.1 in
    omega (arith, whole_in c.args.input.now c.loop-out.run.at c.in-Some.n n (λ z. absurd (omega (arith, z, c.in-Some.ensures.0))))

pub loop-out-smaller : goal.loop-out-smaller
loop-out-smaller c =
    let l = c.loop-out in
    let g = l.invariant.going in
    omega (arith, c.step_line-used.ensures.place, line-some l.run.number (get_or c.left_at-left.result.now 0 0) c.act-answer.result, g.place, c.loop-out-test.true, g.adds.size)

pub loop-out-preserved : goal.loop-out-preserved
loop-out-preserved c =
    let l = c.loop-out in
    let g = l.invariant.going in
    let n = c.in-Some.n in
    let left = c.left_at-left.ensures in
    let r =
    going_act g l.invariant.image (omega (arith, c.loop-out-test.true, g.adds.size)) n (rw left at c.in-Some.ensures.1) (λ z. absurd (omega (arith, z, c.in-Some.ensures.0)))
    _ (ap (take n) left) c.act-answer.result c.act-answer.ensures (rw left at c.step_line-used.ensures)
    _ (c.saturating_add.ensures ∙ saturated l.run.number l.invariant.small) in
    record { going = r.0; image = r.1; small = omega arith }

pub returns : goal.returns
returns c =
    rw (c.load-run-2.ensures, ← c.image_of-image.ensures.holds.loads) (going_full c.loop-out.invariant.going (omega (arith, c.loop-out-test.false)))
