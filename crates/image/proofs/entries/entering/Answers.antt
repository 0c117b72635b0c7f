use Rattle.image.proofs.EntryLaid.{put_laid-at, put_laid-none}
use Rattle.executive.specs.Decisions.{change_for}
use Rattle.image.proofs.entries.entering.Goals as goal

pub returns-then-i-gt15 : goal.returns-then-i-gt15
returns-then-i-gt15 c = λ t l. put_laid-none t l _ _ c.place-i.ensures _ c.if-i-gt15.true

pub returns : goal.returns
returns c = λ t l. put_laid-at t l _ _ c.place-i.ensures (change_for c.args.q c.args.time c.args.how) (c.enter.ensures t l)
