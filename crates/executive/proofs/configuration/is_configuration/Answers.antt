-- `executive::configuration::is_configuration` meets its contract.
use Rattle.std.proofs.Common.{arith}
use Rattle.std.proofs.lemmas.Grind.{common_steps}
use Rattle.executive.specs.Configuration.{is_configuration}
use Rattle.executive.proofs.configuration.is_configuration.Goals as goal

pub returns-then-byte_at-ge1 : goal.returns-then-byte_at-ge1
unfolding is_configuration
returns-then-byte_at-ge1 c = grind (arith, common_steps)

pub returns-else-byte_at-ge1 : goal.returns-else-byte_at-ge1
unfolding is_configuration
returns-else-byte_at-ge1 c = grind (arith, common_steps)
