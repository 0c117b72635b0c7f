-- What is promised holds; and the laws of bytes for another engine's image. Of the modules here the crates above name
-- this one and no other.
use mathlib.Core.Path.{sym, ◌∙◌}
use Rattle.image.specs.Promises.{Promises}
use Rattle.image.specs.Reasons.{WhyPromises}
use Rattle.image.specs.Mending.{MendPromises}
use Rattle.image.specs.Acting.{ActingPromises}
use Rattle.image.proofs.Trips.{load_store, image-parts, stored, load_fits}
use Rattle.image.proofs.Answered.{refused, short, not_made, why_short}
use Rattle.image.proofs.Explained.{of-table, numbers_in}
use Rattle.image.proofs.Histories.{fresh_kept, step_kept, active, acted, overtaking}
use Rattle.image.proofs.Shown.{lamp}
use Rattle.image.proofs.Listed as mending
pub use Rattle.image.proofs.Spans.{and_then, written-whole, length-row, row-start, row-turn, row-end, length-blocks, block_at, block-turn, block-end}
pub use Rattle.image.proofs.Alike.{decide, never, same_self, same_true}
pub use Rattle.image.proofs.Images.{blocks-back}
pub use Rattle.image.proofs.Owned.{array_owned, table-owned}

pub promises : Promises
promises = record {
  load_store = load_store;
  store_load = λ s e. (image-parts s e).1;
  stored = stored;
  sized = λ s e. (image-parts s e).0;
  load_fits = load_fits;
  refused = refused;
  short = short;
  not_made = not_made;
  fresh_kept = fresh_kept;
  step_kept = step_kept;
  active = active;
  lamp = lamp;
  overtaking = overtaking;
  fresh-determined = λ g o _ _ x y p q. (p.image ∙ sym q.image, p.number ∙ sym q.number);
  check_determined = λ s x y p q. p.number ∙ sym q.number;
  step-determined = λ s k o _ _ _ _ x y p q. (p.image ∙ sym q.image, p.answer ∙ sym q.answer, p.number ∙ sym q.number);
  lamp-determined = λ s x y p q. p ∙ sym q;
  load_determined = λ s x y p q. p ∙ sym q;
  store_determined = λ t o _ _ x y p q. (p.image ∙ sym q.image, p.number ∙ sym q.number);
  trip_determined = λ t x y p q. p ∙ sym q;
}

pub why_promises : WhyPromises
why_promises = record {
  short = λ s k o h. let e = why_short s k o h in (sym e.0, sym e.1);
  numbers = numbers_in;
  table = of-table;
  determined = λ s k o _ _ x y p q. (p.answer ∙ sym q.answer, p.number ∙ sym q.number);
}

pub mend_promises : MendPromises
mend_promises = record {
  short = λ s o h. let e = mending.mend_short s o h in (sym e.0, sym e.1, sym e.2);
  refused = λ s o h. let e = mending.mend_kept s o h in (sym e.0, sym e.1);
  numbers = λ s o b h. mending.mend_numbers s o h b;
  mended = λ s o p q b x. mending.mended s b o p q x;
  sound-stays = λ s o b w h. mending.sound-stays s o h b w;
  listed-bytes = λ s o p q b c x. mending.listed-bytes s b o p q c x;
  rule-right = mending.rule-right;
  determined = λ s o _ _ _ _ x y p q. (p.image ∙ sym q.image, p.list ∙ sym q.list, p.number ∙ sym q.number);
}

pub acting_promises : ActingPromises
acting_promises = record {
  acted = λ s k p a t x h. acted s k p a x t h;
  act_determined = λ s k _ _ a b p q. (p.image ∙ sym q.image, p.answer ∙ sym q.answer);
  image-determined = λ t _ _ p q. p.image ∙ sym q.image;
}
