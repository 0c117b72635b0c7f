use Prim.Native.Nat.{suc}
use Rattle.std.specs.declared.option.Option.TheVariants.{None}
use lib.ListN.{get_or}
use Rattle.std.proofs.Common.{rules}
use Rattle.executive.specs.Places.{no_task, task_at}
use Rattle.executive.specs.Messages.{no_mail, mail_at}
use Rattle.mender.specs.Rules.{own_rule, own_rules, rule_number}
use Rattle.mender.proofs.CodeRows.{made_seen}
use Rattle.mender.proofs.rules.own_rules.Goals as goal

pub returns : goal.returns
unfolding own_rules task_at mail_at
returns c =
    let a = c.args in
    made_seen rule_number (λ i. own_rule a.t.rest (suc i) (get_or a.t.tasks i no_task) (get_or a.t.rest.mail i no_mail)) None 16 (λ i h y q k. search rules) c.from_fn.ensures.items
