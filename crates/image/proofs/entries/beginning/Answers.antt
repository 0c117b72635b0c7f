-- `entries::beginning` meets its contract: a task has an entry, any other number none.
use Rattle.image.proofs.EntryLaid.{put_laid-at, put_laid-none}
use Rattle.executive.specs.Entries.{begun}
use Rattle.image.proofs.entries.beginning.Goals as goal

pub returns-then-i-gt15 : goal.returns-then-i-gt15
returns-then-i-gt15 c = λ t l. put_laid-none t l _ _ c.place-i.ensures _ c.if-i-gt15.true

pub returns : goal.returns
returns c =
    let a = c.args in
    λ t l. put_laid-at t l _ _ c.place-i.ensures (begun a.q a.time) (c.begun.ensures t l)
