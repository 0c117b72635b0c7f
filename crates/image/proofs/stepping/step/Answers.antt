-- `stepping::step` meets its contract: what is decided is refused, and no byte is written, or done.
use mathlib.Core.Bool.{true}
use mathlib.Core.Path.{refl, sym, ◌∙◌}
use Rattle.image.specs.Image.{load_of}
use Rattle.image.proofs.Trips.{image-parts}
use Rattle.image.proofs.Stepwise.{loaded, formed, decided-is, doable-is, said-refused, said-done}
use Rattle.image.proofs.stepping.step.Goals as goal

pub returns-then-d-ne0 : goal.returns-then-d-ne0
returns-then-d-ne0 c =
    let s = c.args.b.now in
    let k = c.args.call.now in
    let i = c.requires.0 in
    let w = formed s k i true (sym c.requires.1) refl in
    let l = loaded s i in
    let ed = decided-is s k i _ _ w (c.active-c.ensures (load_of s) l) (c.decide-d.ensures (load_of s) l w c.requires.2) in
    said-refused s k i _ _ w ed c.if-d-ne0.true (c.refusal.ensures (load_of s) l)

pub returns : goal.returns
returns c =
    let s = c.args.b.now in
    let k = c.args.call.now in
    let i = c.requires.0 in
    let w = formed s k i true (sym c.requires.1) refl in
    let l = loaded s i in
    let ed = decided-is s k i _ _ w (c.active-c.ensures (load_of s) l) (c.decide-d.ensures (load_of s) l w c.requires.2) in
    let done = c.execute-walked.ensures (load_of s) l c.requires.2.running-told (doable-is s k i _ w ed c.if-d-ne0.false) in
    said-done s k i _ _ w ed c.if-d-ne0.false _ done.0 done.1 (c.answer.ensures _ done.0)
