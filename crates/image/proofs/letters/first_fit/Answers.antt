use native.Mathlib.Omega.{arith}
use mathlib.Core.Path.{◌≡◌, sym, ◌∙◌}
use Rattle.executive.specs.Messages.{no_message, fits}
use Rattle.image.proofs.Finds.{fit-hit, fit-pass, fit-end}
use Rattle.image.proofs.letters.first_fit.Goals as goal

pub returns-then-is_fit : goal.returns-then-is_fit
returns-then-is_fit c =
    let a = c.args in
    let p = c.requires in
    let v = c.loop-i in
    λ t l.
    let z = l.sizes.messages in
    fit-hit (fits a.k.0 a.s.0) no_message t.rest.messages a.n (omega arith) v.i (v.invariant t l) (omega arith) (sym (c.is_fit.ensures t l) ∙ c.if-is_fit.true)

pub loop-i-preserved : goal.loop-i-preserved
loop-i-preserved c =
    let a = c.args in
    let p = c.requires in
    let v = c.loop-i in
    λ t l. let z = l.sizes.messages in fit-pass (fits a.k.0 a.s.0) no_message t.rest.messages a.n (omega arith) v.i (v.invariant t l) (omega arith) (sym (c.is_fit.ensures t l) ∙ c.if-is_fit.false)

pub returns : goal.returns
returns c =
    let a = c.args in
    let p = c.requires in
    let v = c.loop-i in
    let e : a.n ≡ v.i = omega arith in
    λ t l. let z = l.sizes.messages in e ∙ fit-end (fits a.k.0 a.s.0) no_message t.rest.messages a.n (omega arith) v.i (v.invariant t l) (omega arith)
