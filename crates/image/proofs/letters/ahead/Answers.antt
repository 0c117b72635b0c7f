use mathlib.Core.Path.{◌≡◌, ◌∙◌}
use native.Mathlib.Omega.{arith}
use Rattle.executive.specs.Messages.{no_message, urgency}
use Rattle.executive.proofs.Assured.{stay-stop, stay-pass, stay-end}
use Rattle.image.proofs.Finds.{urgency-read}
use Rattle.image.proofs.letters.ahead.Goals as goal

pub returns-then-b-i : goal.returns-then-b-i
returns-then-b-i c =
    let a = c.args in
    let p = c.requires in
    let v = c.loop-i in
    λ t l.
    let z = l.sizes.messages in
    stay-stop urgency no_message t.rest.messages a.n (omega arith) a.p v.i (omega arith) (v.invariant t l) (rw (urgency-read t l v.i (omega arith)) at c.if-b-i.true)

pub loop-i-preserved : goal.loop-i-preserved
loop-i-preserved c =
    let a = c.args in
    let p = c.requires in
    let v = c.loop-i in
    λ t l. let z = l.sizes.messages in stay-pass urgency no_message t.rest.messages a.n (omega arith) a.p v.i (omega arith) (v.invariant t l) (rw (urgency-read t l v.i (omega arith)) at c.if-b-i.false)

pub returns : goal.returns
returns c =
    let a = c.args in
    let p = c.requires in
    let v = c.loop-i in
    let e : a.n ≡ v.i = omega arith in
    λ t l. let z = l.sizes.messages in e ∙ stay-end urgency no_message t.rest.messages a.n (omega arith) a.p v.i (omega arith) (v.invariant t l)
