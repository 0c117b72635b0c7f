-- `writing::write_record` meets its contract: each test picks its case, and a record that is read is written as its
-- call.
use mathlib.Core.Path.{sym, ap, ◌∙◌}
use mathlib.Core.Bool.{not}
use native.Mathlib.Omega.{arith}
use borrow.Author.Tests.{not-false, not-true}
use Rattle.std.proofs.lemmas.Result.{err_from_is_err_and}
use Rattle.blocks.specs.Types.{is_none, form_of}
use Rattle.blocks.proofs.writing.Laws.{as_record, record_no, record_outside, record_empty, record_none, record_misfit}
use Rattle.blocks.proofs.writing.write_record.Goals as goal

pub returns-then-is_outside : goal.returns-then-is_outside
returns-then-is_outside c =
    let d = c.args in
    let s = d.image.now in
    let a = d.address in
    let l = d.list.now in
    let bs = d.bytes.now in
    let w = d.work in
    record_no s a l bs w 18 (record_outside s a l bs (sym c.is_outside.ensures ∙ c.if-is_outside.true)) (λ z. omega arith)

pub returns-then-bytes-eq0 : goal.returns-then-bytes-eq0
returns-then-bytes-eq0 c =
    let d = c.args in
    let s = d.image.now in
    let a = d.address in
    let l = d.list.now in
    let bs = d.bytes.now in
    let w = d.work in
    let i = sym c.is_outside.ensures ∙ c.if-is_outside.false in
    record_no s a l bs w 4 (record_empty s a l bs i c.if-bytes-eq0.true) (λ z. omega arith)

pub returns-then-not-has_block : goal.returns-then-not-has_block
returns-then-not-has_block c =
    let d = c.args in
    let s = d.image.now in
    let a = d.address in
    let l = d.list.now in
    let bs = d.bytes.now in
    let w = d.work in
    let i = sym c.is_outside.ensures ∙ c.if-is_outside.false in
    let o = c.if-bytes-eq0.false in
    let b = c.has_block.ensures ∙ ap (λ k. not (is_none (form_of k))) c.kind_of.ensures in
    let e = not-false _ (sym b ∙ c.if-not-has_block.true) in
    record_no s a l bs w 4 (record_none s a l bs i o e) (λ z. omega arith)

pub returns : goal.returns
returns c =
    let d = c.args in
    as_record d.image.now d.address d.list.now d.bytes.now c.in_ok-call.call d.work _ _ (sym c.in_ok-call.ensures) c.write.ensures

pub returns-in_err-call : goal.returns-in_err-call
returns-in_err-call c =
    let d = c.args in
    let s = d.image.now in
    let a = d.address in
    let l = d.list.now in
    let bs = d.bytes.now in
    let w = d.work in
    let i = sym c.is_outside.ensures ∙ c.if-is_outside.false in
    let o = c.if-bytes-eq0.false in
    let b = c.has_block.ensures ∙ ap (λ k. not (is_none (form_of k))) c.kind_of.ensures in
    let e = not-true _ (sym b ∙ c.if-not-has_block.false) in
    let r = c.in_err-call.field-0.0 in
    let n = record_misfit s a l bs i o r e (sym c.in_err-call.ensures) in
    let q = err_from_is_err_and c.from_residual.result c.from_residual.ensures.1 in
    rw (q.1, q.2) (record_no s a l bs w _ n.1 (λ z. omega (arith, n.0)))
