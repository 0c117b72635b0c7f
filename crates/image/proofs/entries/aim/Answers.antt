use Rattle.image.proofs.EntryLaid.{kept-aim, new-aim, same-laid, changed-laid}
use Rattle.image.proofs.entries.aim.Goals as goal

pub returns-then-b-i-ne3 : goal.returns-then-b-i-ne3
returns-then-b-i-ne3 c = λ t l. changed-laid t l c.args.i c.requires (kept-aim t l c.args.i c.requires c.if-b-i-ne3.true) (same-laid t l c.args.i c.requires)

pub returns : goal.returns
returns c = λ t l. changed-laid t l c.args.i c.requires (new-aim t l c.args.i c.requires _ c.if-b-i-ne3.false c.long_in-time.ensures) (c.set_start.ensures t l)
