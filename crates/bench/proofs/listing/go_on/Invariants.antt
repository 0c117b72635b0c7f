-- `listing::go_on` meets its contract. On the way the image is that of the table where the listing stands.
use Rattle.std.proofs.Common.{◌≡◌, ◌-◌, ◌<◌, true, length}
use Rattle.image.specs.Image.{load_of, is_image}
use Rattle.bench.proofs.Turns.{standing, Going}
use Rattle.bench.proofs.listing.go_on.Given as goal

abbrev pub invariant-loop-out : goal.invariant-loop-out
invariant-loop-out l = record {
  going : Going l.input (standing l.initial.run.at l.initial.run.number (load_of l.initial.image)) l.initial.out l.from l.out l.used (standing l.run.at l.run.number (load_of l.image));
  image : is_image l.image ≡ true;
  small : l.run.number < 4294967296;
}

abbrev pub decreases-loop-out : goal.decreases-loop-out
decreases-loop-out l = length l.initial.out - l.used
