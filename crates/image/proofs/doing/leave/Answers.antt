use Rattle.image.proofs.DoneLaid.{stays-laid, left-laid}
use Rattle.image.proofs.doing.leave.Goals as goal

pub returns-in-Stays : goal.returns-in-Stays
returns-in-Stays c = rw c.in-Stays.is (λ t l f q v. stays-laid t v l)

pub returns-in_default : goal.returns-in_default
returns-in_default c = λ t l f q v. left-laid t c.args.how c.in_default.not-Stays (c.depart.ensures t l f q v)
