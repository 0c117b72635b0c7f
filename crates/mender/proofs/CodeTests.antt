-- What the code answers by a test is what a choice says; that a rule has a number.
use mathlib.Core.Path.{◌≡◌, refl}
use mathlib.Core.Bool.{Bool, true, false, cond}
use lib.Dec.{eqb}
use Rattle.mender.specs.declared.Rule.{Rule}
use Rattle.mender.specs.declared.Rule.TheVariants as rule
use Rattle.mender.specs.Rules.{number_of}

module _ {A : Type 0} where
  pub yes : {z : A} (b : Bool) (x y : A) → b ≡ true → z ≡ x → z ≡ cond b x y
  yes b x y e h = rw e h

  pub no : {z : A} (b : Bool) (x y : A) → b ≡ false → z ≡ y → z ≡ cond b x y
  no b x y e h = rw e h

-- ---- a rule has a number
pub has_number : (r : Rule) → eqb (number_of r) 0 ≡ false
has_number rule.Range = refl
has_number rule.Time = refl
has_number rule.Start = refl
has_number rule.Mask = refl
has_number rule.Link = refl
has_number rule.Dormant = refl
has_number rule.Message = refl
has_number rule.Lost = refl
