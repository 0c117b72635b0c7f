-- `reading::call_at` meets its contract: each arm's byte picks its form, whose widths say which bytes are which number.
use mathlib.Core.Path.{sym, ap, ◌∙◌}
use Rattle.blocks.specs.Types.{is_none, form_at}
use Rattle.blocks.proofs.reading.Laws.{at_0, at_1, at_2, at_5}
use Rattle.blocks.proofs.Places.{clash}
use Rattle.blocks.proofs.Forms.{none_else}
use Rattle.blocks.proofs.reading.call_at.Goals as goal

pub returns-in-0 : goal.returns-in-0
returns-in-0 c =
    let d = c.args in
    let s = d.image.now in
    let a = d.address in
    let l = d.list.now in
    let g = d.argument in
    at_0 s a l g (sym c.byte_at.ensures ∙ c.in-0.is)

pub returns-in-1 : goal.returns-in-1
returns-in-1 c =
    let d = c.args in
    let s = d.image.now in
    let a = d.address in
    let l = d.list.now in
    let g = d.argument in
    rw (c.byte_at-a.ensures, c.byte_at-b.ensures) (at_1 s a l g (sym c.byte_at.ensures ∙ c.in-1.is))

pub returns-in-2 : goal.returns-in-2
returns-in-2 c =
    let d = c.args in
    let s = d.image.now in
    let a = d.address in
    let l = d.list.now in
    let g = d.argument in
    rw (c.byte_at-a.ensures, c.byte_at-b.ensures) (at_2 s a l g (sym c.byte_at.ensures ∙ c.in-2.is))

pub returns-in-5 : goal.returns-in-5
returns-in-5 c =
    let d = c.args in
    let s = d.image.now in
    let a = d.address in
    let l = d.list.now in
    let g = d.argument in
    let x = c.byte_at-a in
    let y = c.byte_at-b in
    let b = c.byte_at in
    rw (c.task_of.ensures, c.from_be_bytes.ensures, c.byte_at-in-5.ensures, x.ensures, y.ensures)
    (at_5 s a l g (sym b.ensures ∙ c.in-5.is))

pub returns-in_default : goal.returns-in_default
returns-in_default c =
    let x = c.in_default.in_default-own.rest in
    let b = none_else c.byte_at.result x.0.0.0.1 x.0.0.1 x.0.1 x.1 in
    clash (sym b ∙ ap (λ n. is_none (form_at n)) c.byte_at.ensures ∙ c.requires.2)
