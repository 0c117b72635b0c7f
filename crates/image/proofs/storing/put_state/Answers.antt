-- `storing::put_state` meets its contract: the three writes make one.
use Rattle.image.proofs.Pieces.{wrote-front}
use Rattle.image.proofs.storing.put_state.Goals as goal

pub returns : goal.returns
returns c =
    let a = c.args in
    wrote-front a.out.now a.at a.own a.state c.kind_of-kind.result c.time_of-time.result c.mask_of-mask.result
    c.kind_of-kind.ensures
    c.time_of-time.ensures
    c.mask_of-mask.ensures
    c.put_both.ensures
    c.put_long.ensures
    c.put_word.ensures
    c.requires
