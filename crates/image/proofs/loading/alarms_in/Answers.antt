-- `loading::alarms_in` meets its contract.
use Rattle.std.proofs.Common.{rules}
use Rattle.image.specs.Image.{alarm_from, alarms_at}
use Rattle.image.proofs.Ranges.{filled-blocks}
use Rattle.image.proofs.loading.alarms_in.Goals as goal

pub returns : goal.returns
returns c = filled-blocks _ _ (alarm_from c.args.bytes.now) 8 32 alarms_at c.from_fn.result (λ i y q e. search rules) c.from_fn.ensures.items
