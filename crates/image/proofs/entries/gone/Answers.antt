use Rattle.image.proofs.EntryLaid.{put_laid-at, put_laid-none}
use Rattle.executive.specs.Decisions.{gone_as}
use Rattle.image.proofs.entries.gone.Goals as goal

pub returns-then-i-gt15 : goal.returns-then-i-gt15
returns-then-i-gt15 c = λ t l. put_laid-none t l _ _ c.place-i.ensures _ c.if-i-gt15.true

pub returns : goal.returns
returns c = λ t l. put_laid-at t l _ _ c.place-i.ensures (gone_as c.args.how) (c.leave.ensures t l)
