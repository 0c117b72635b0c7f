-- `executive::promised` meets its contract: the theorems stand.
use Rattle.executive.proofs.queue.Law.{queue_law}
use Rattle.executive.proofs.promises.Demands.{demands}
use Rattle.executive.proofs.promises.Worked.{worked}
use Rattle.executive.proofs.promises.Skipping.{skipping}
use Rattle.executive.proofs.promises.EveryStart.{every-start}
use Rattle.executive.proofs.promises.ByDecision.{by_decision}
use Rattle.executive.proofs.promises.Waking.{waking}
use Rattle.executive.proofs.promises.Walks.{walks}
use Rattle.executive.proofs.promises.LampLaw.{lamp_law}
use Rattle.executive.proofs.promises.SubLaw.{sub_law}
use Rattle.executive.proofs.promises.MailLaw.{mail_law}
use Rattle.executive.proofs.promises.promised.Goals as goal

pub returns : goal.returns
returns c = (demands, queue_law, worked, skipping, every-start, by_decision, waking, walks, lamp_law, sub_law, mail_law)
