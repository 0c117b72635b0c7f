-- What is promised holds, and the check as it is computed decides it. Of the modules here the crates above name this one
-- and no other.
use mathlib.Core.Path.{sym, ◌∙◌}
use Rattle.scan.specs.Promises.{Promises}
use Rattle.scan.specs.Sound.{is_sound}
use Rattle.scan.proofs.Basics.{decide, never}
use Rattle.scan.proofs.Choices.{choice}
use Rattle.scan.proofs.Stepping.{formed, sound-of}
pub use Rattle.scan.proofs.Stepping.{sound-get, sound_make}
use Rattle.scan.proofs.Histories.{equal-from, alike, kept, refusal-keeps, check_exactly, renumbering}
use Rattle.scan.proofs.Dispatching.{dispatched, overtaking}
use Rattle.scan.proofs.Newcomers.{numbered}
use Rattle.scan.proofs.FreshTable.{equal, alike-fresh, fresh}

pub promises : Promises
promises = record {
  choice = choice;
  equal = equal;
  equal-from = equal-from;
  alike-fresh = alike-fresh;
  alike = alike;
  fresh = fresh;
  kept = kept;
  formed = λ e. (λ s. (s.arrivals, formed e s), λ p. sound-of e p.0 p.1);
  numbered = numbered;
  renumbering = renumbering;
  refusal-keeps = refusal-keeps;
  check_exactly = check_exactly;
  dispatched = dispatched;
  overtaking = overtaking;
  step-determined = λ e s x y p q. p ∙ sym q;
  check_determined = λ e x y p q. decide (is_sound e)
      (λ z. p.right.1 (sound-get e z) ∙ sym (q.right.1 (sound-get e z)))
      (λ z. p.wrong.1 (λ s. never (sym z ∙ sound_make e s)) ∙ sym (q.wrong.1 (λ s. never (sym z ∙ sound_make e s))));
  fresh-determined = λ g x y p q. p ∙ sym q;
}
