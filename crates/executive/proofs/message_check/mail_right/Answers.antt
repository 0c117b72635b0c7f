use mathlib.Core.Path.{sym}
use native.Mathlib.Omega.{arith}
use Rattle.std.proofs.Common.{rules}
use Rattle.executive.specs.declared.Task.{Task}
use Rattle.executive.specs.declared.Mail.{Mail}
use Rattle.executive.specs.Lists.{◌and◌}
use Rattle.executive.specs.Places.{no_task}
use Rattle.executive.specs.Messages.{no_mail}
use Rattle.executive.specs.Check.{mail_in_range, is_emptied, mail_right_at}
use Rattle.executive.proofs.Lists.Chains.{up_to-zipped}
use Rattle.executive.proofs.check.Messages.{mail-next}
use Rattle.executive.proofs.message_check.mail_right.Goals as goal

pub returns : goal.returns
returns c =
    let a = c.args in
    up_to-zipped c.all.new.self (λ (x : Mail) (e : Task). mail_in_range a.count x and is_emptied e.state x) a.mail.now a.tasks.now _
    (mail_right_at a.tasks.now a.count a.mail.now) 16 no_mail no_task c.all.ensures.ran (search rules) (search rules) (λ x b q k. search rules)
    c.told-mail (omega arith) (λ i h. sym (mail-next a.tasks.now a.count a.mail.now i))
