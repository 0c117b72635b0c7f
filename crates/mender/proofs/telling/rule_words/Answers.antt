use mathlib.Core.Path.{sym, ap}
use native.Mathlib.Omega.{arith}
use Rattle.text.proofs.Assured.{named, put_last}
use Rattle.mender.specs.Telling.{rule_words}
use Rattle.mender.proofs.Told.{words_else}
use Rattle.mender.proofs.telling.rule_words.Goals as goal

pub returns-in-0 : goal.returns-in-0
unfolding rule_words
returns-in-0 c =
    let p = put_last c.text.ensures (omega (arith, c.requires)) in
    (named (sym (ap rule_words c.in-0.is)) p, omega (arith, p.place))

pub returns-in-1 : goal.returns-in-1
unfolding rule_words
returns-in-1 c =
    let p = put_last c.text-in-1.ensures (omega (arith, c.requires)) in
    (named (sym (ap rule_words c.in-1.is)) p, omega (arith, p.place))

pub returns-in-3 : goal.returns-in-3
unfolding rule_words
returns-in-3 c =
    let p = put_last c.text-in-3.ensures (omega (arith, c.requires)) in
    (named (sym (ap rule_words c.in-3.is)) p, omega (arith, p.place))

pub returns-in-4 : goal.returns-in-4
unfolding rule_words
returns-in-4 c =
    let p = put_last c.text-in-4.ensures (omega (arith, c.requires)) in
    (named (sym (ap rule_words c.in-4.is)) p, omega (arith, p.place))

pub returns-in-5 : goal.returns-in-5
unfolding rule_words
returns-in-5 c =
    let p = put_last c.text-in-5.ensures (omega (arith, c.requires)) in
    (named (sym (ap rule_words c.in-5.is)) p, omega (arith, p.place))

pub returns-in-7 : goal.returns-in-7
unfolding rule_words
returns-in-7 c =
    let p = put_last c.text-in-7.ensures (omega (arith, c.requires)) in
    (named (sym (ap rule_words c.in-7.is)) p, omega (arith, p.place))

pub returns-in-8 : goal.returns-in-8
unfolding rule_words
returns-in-8 c =
    let p = put_last c.text-in-8.ensures (omega (arith, c.requires)) in
    (named (sym (ap rule_words c.in-8.is)) p, omega (arith, p.place))

pub returns-in-11 : goal.returns-in-11
unfolding rule_words
returns-in-11 c =
    let p = put_last c.text-in-11.ensures (omega (arith, c.requires)) in
    (named (sym (ap rule_words c.in-11.is)) p, omega (arith, p.place))

pub returns-in_default : goal.returns-in_default
returns-in_default c =
    let p = put_last c.text-in_default.ensures (omega (arith, c.requires)) in
    let e =
    words_else c.args.rule (λ h. omega arith) (λ h. omega arith) (λ h. omega arith) (λ h. omega arith) (λ h. omega arith) (λ h. omega arith) (λ h. omega arith) (λ h. omega arith) in
    (named e p, omega (arith, p.place))
