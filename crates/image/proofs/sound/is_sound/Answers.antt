-- `sound::is_sound` meets its contract: as `see`, and nothing is handed on.
use mathlib.Core.Path.{refl, sym}
use Rattle.executive.proofs.Assured.{and_false_left}
use Rattle.image.specs.Image.{is_image}
use Rattle.image.proofs.Canonical.{not-long}
use Rattle.image.proofs.FirstPart.{lists_last}
use Rattle.image.proofs.sound.is_sound.Goals as goal

pub returns-in_default : goal.returns-in_default
returns-in_default c = let s = c.args.bytes.now in and_false_left (is_image s) _ (sym (not-long s c.in_default.ensures.cases))

pub returns-in_default-begin : goal.returns-in_default-begin
returns-in_default-begin c = rw c.in-Some.ensures.cases.same at (sym c.in_default-begin.ensures)

pub lists_right-requires : goal.lists_right-requires
lists_right-requires c =
    let b = c.in-Some-begin.ensures in
    ((b.counted refl).1, (b.counted refl).0, b.known refl, b.kinds refl, b.others refl)

pub returns : goal.returns
returns c =
    rw c.in-Some.ensures.cases.same at (lists_last c.in-Some.b.now c.in-Some-begin.ensures refl _ c.lists_right.ensures)
