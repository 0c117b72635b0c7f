use native.Mathlib.Omega.{arith}
use Rattle.image.proofs.Shifts.{up_turn}
use Rattle.image.proofs.moving.sixteen_up.Goals as goal

pub returns : goal.returns
returns c =
    let a = c.args in
    let turn = up_turn a.b.now a.to a.from 16 in
    let one = c.copy_four.ensures in
    let two = turn _ _ 4 4 c.requires.0 c.requires.1 (omega arith) one c.copy_four-2.ensures in
    let three = turn _ _ 8 4 c.requires.0 c.requires.1 (omega arith) two c.copy_four-3.ensures in
    turn _ _ 12 4 c.requires.0 c.requires.1 (omega arith) three c.copy_four-4.ensures
