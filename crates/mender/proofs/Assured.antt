-- What is promised holds. Of the modules here the crates above name this one and no other.
use Rattle.mender.specs.Promises.{Promises}
use Rattle.mender.specs.Telling.{ToldLaw}
use Rattle.mender.proofs.Settles as settling
use Rattle.mender.proofs.Answers as answers
use Rattle.mender.proofs.Listed as noted
use Rattle.mender.proofs.Kept as keeping
use Rattle.mender.proofs.Told as told

pub promises : Promises
promises = record {
  sound-stays = answers.sound-stays;
  seventeen = answers.seventeen;
  mended = answers.mended;
  again = answers.again;
  listed = noted.listed;
  rule-right = noted.rule-right;
  goes_on = noted.goes_on;
  kept = keeping.kept;
  frame = keeping.frame;
  settles = settling.settles;
  rounds = settling.rounds;
  begins_anew = answers.begins_anew;
  determined = answers.determined;
}

pub told_law : ToldLaw
told_law = told.told_law
