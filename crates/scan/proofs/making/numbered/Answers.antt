use Rattle.std.proofs.Common.{◌≡◌, ◌+◌, ◌++◌, ◌∙◌, arith, sym, ap, take, get_or, cond, length-set, refl, Bool, true, false}
use mir.Val.{bool_byte}
use Rattle.executive.specs.Lists.{one}
use Rattle.executive.specs.Places.{no_task}
use Rattle.executive.specs.States.{ready, is_of}
use Rattle.scan.proofs.Basics.{one-small}
use Rattle.scan.proofs.Loops.{take_more, take_all, number-on, number-end}
use Rattle.scan.proofs.making.numbered.Goals as goal
use Rattle.scan.proofs.making.numbered.Goals.{then-ready, else-ready}

byte-one : (b : Bool) → bool_byte b ≡ one b
byte-one true = refl
byte-one false = refl

pub loop-i-preserved : goal.loop-i-preserved
loop-i-preserved c =
    let l = c.loop-i in
    let here = is_of ready (get_or c.args.tasks l.i no_task).state in
    let r = c.is_of-ready.ensures in
    let n : c.from.result ≡ one (is_of ready (get_or c.args.tasks c.loop-i.i no_task).state) = c.from.ensures ∙ byte-one _ ∙ ap one r in
    let a : c.if-ready.out ≡ cond (is_of ready (get_or c.args.tasks c.loop-i.i no_task).state) (c.loop-i.last + one (is_of ready (get_or c.args.tasks c.loop-i.i no_task).state)) 0 =
    elim c.if-ready.branch [
      | then-ready w ↦ w.out-is ∙ simp (c.from.ensures, ← r, w.if-ready.true)
      | else-ready w ↦ w.out-is ∙ simp (← r, w.if-ready.false)
    ] in
    record {
      few = omega (arith, n, one-small here);
      long = length-set l.out l.i _ ∙ l.invariant.long;
      filled = rw (n, a) (take_more l.out l.i _ _ (omega arith) ∙ ap (λ z. take l.i l.out ++ z) (sym (number-on c.args.tasks l.i l.last (omega arith))) ∙ l.invariant.filled);
    }

pub returns : goal.returns
returns c =
    let l = c.loop-i in
    sym (take_all l.out l.i (omega arith)) ∙ ap (λ z. take l.i l.out ++ z) (sym (number-end c.args.tasks l.i l.last (omega arith))) ∙ l.invariant.filled
