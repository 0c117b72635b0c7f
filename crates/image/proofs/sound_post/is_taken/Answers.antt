-- `sound_post::is_taken` meets its contract: the bytes of its kind and of its number tell.
use native.Mathlib.Omega.{arith}
use Rattle.image.proofs.KindsRead.{taken_none, taken_not, taken-any, taken-one}
use Rattle.image.proofs.sound_post.is_taken.Goals as goal

pub returns-then-i-gt15 : goal.returns-then-i-gt15
returns-then-i-gt15 c = taken_none c.args.b.now c.args.to _ c.place-i.ensures c.args.sender c.if-i-gt15.true

pub returns-then-b-i-ne9 : goal.returns-then-b-i-ne9
returns-then-b-i-ne9 c = taken_not c.args.b.now c.args.to _ c.place-i.ensures c.args.sender (omega (arith, c.if-i-gt15.false)) c.if-b-i-ne9.true

pub returns-then-from-eq0 : goal.returns-then-from-eq0
returns-then-from-eq0 c = taken-any c.args.b.now c.args.to _ c.place-i.ensures c.args.sender (omega (arith, c.if-i-gt15.false)) c.if-b-i-ne9.false c.if-from-eq0.true

pub returns : goal.returns
returns c = taken-one c.args.b.now c.args.to _ c.place-i.ensures c.args.sender (omega (arith, c.if-i-gt15.false)) c.if-b-i-ne9.false c.if-from-eq0.false
