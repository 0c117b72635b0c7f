-- `sound_post::mail_right` meets its contract.
use Prim.Native.Nat.{◌+◌}
use mathlib.Core.Path.{refl, sym, ◌∙◌}
use Rattle.std.proofs.Common.{rules}
use Rattle.executive.specs.Check.{mail_right_at}
use Rattle.image.specs.Sound.{tasks_in, mail_in}
use Rattle.image.proofs.Ranges.{checked-below, up_to-below}
use Rattle.image.proofs.sound_post.mail_right.Goals as goal

pub returns : goal.returns
returns c =
    let s = c.args.b.now in
    checked-below _ _ c.all.result 16 (λ i. mail_right_at (tasks_in s) c.args.count (mail_in s) (i + 1)) refl (λ i y q e. search rules) c.all.ensures.ran
    ∙ sym (up_to-below (mail_right_at (tasks_in s) c.args.count (mail_in s)) 16)
