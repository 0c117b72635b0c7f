-- What is promised holds. Of the modules here the crates above name this one and no other.
use Rattle.bench.specs.Pieces.{Promise}
use Rattle.bench.proofs.Whole as whole

pub promise : Promise
promise = whole.promise
