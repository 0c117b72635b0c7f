-- What is promised holds.
use mathlib.Core.Path.{sym, ◌∙◌}
use Rattle.scan_board.specs.Promises.{Promises}
use Rattle.scan_board.proofs.Trips as trips
use Rattle.scan_board.proofs.Answered as answered
use Rattle.scan_board.proofs.Histories as histories

pub promises : Promises
promises = record {
  load_store = trips.load_store;
  store_load = λ s e. (trips.image-parts s e).1;
  stored = trips.stored;
  sized = λ s e. (trips.image-parts s e).0;
  refused = answered.refused;
  short = answered.short;
  not_made = answered.not_made;
  fresh_kept = histories.fresh_kept;
  step_kept = histories.step_kept;
  fresh-equal = histories.fresh-equal;
  step-equal = λ s t k o p q u v n m b l w h x y. histories.step-equal s k o p u n b w x t q v m l h y;
  fresh-determined = λ g o _ _ x y p q. (p.image ∙ sym q.image, p.number ∙ sym q.number);
  check_determined = λ s x y p q. p.number ∙ sym q.number;
  step-determined = λ s k o _ _ _ _ x y p q. (p.image ∙ sym q.image, p.answer ∙ sym q.answer, p.number ∙ sym q.number);
}
