-- `refusals::by_place` meets its contract: each test picks the first of the refusals.
use mathlib.Core.Path.{sym, ◌∙◌}
use native.Mathlib.Omega.{arith}
use Rattle.blocks.proofs.Judged.{inside, place-outside, place_none, place-past, place-bad, place-good}
use Rattle.blocks.proofs.refusals.by_place.Goals as goal

pub returns-then-is_outside : goal.returns-then-is_outside
returns-then-is_outside c =
    let d = c.args in
    let l = d.list.now in
    place-outside d.n d.address d.length l (sym c.is_outside.ensures ∙ c.if-is_outside.true)

pub returns-then-length-eq0 : goal.returns-then-length-eq0
returns-then-length-eq0 c =
    let d = c.args in
    let l = d.list.now in
    let i = sym c.is_outside.ensures ∙ c.if-is_outside.false in
    place_none d.n d.address d.length l i c.if-length-eq0.true

pub overflow_sub-n : goal.overflow_sub-n
overflow_sub-n c =
    let d = c.args in
    let q = inside d.n d.address (sym c.is_outside.ensures ∙ c.if-is_outside.false) in
    omega arith

pub returns-then-n-address : goal.returns-then-n-address
returns-then-n-address c =
    let d = c.args in
    let l = d.list.now in
    let i = sym c.is_outside.ensures ∙ c.if-is_outside.false in
    place-past d.n d.address d.length l i c.if-length-eq0.false c.if-n-address.true

pub returns-then-is_bad : goal.returns-then-is_bad
returns-then-is_bad c =
    let d = c.args in
    let l = d.list.now in
    let i = sym c.is_outside.ensures ∙ c.if-is_outside.false in
    place-bad d.n d.address d.length l i c.if-length-eq0.false c.if-n-address.false (sym c.is_bad.ensures ∙ c.if-is_bad.true)

pub returns : goal.returns
returns c =
    let d = c.args in
    let l = d.list.now in
    let i = sym c.is_outside.ensures ∙ c.if-is_outside.false in
    place-good d.n d.address d.length l i c.if-length-eq0.false c.if-n-address.false (sym c.is_bad.ensures ∙ c.if-is_bad.false)
