-- What is promised holds. Of the modules here the crates above name this one and no other.
use mathlib.Core.Path.{refl, sym, ◌∙◌}
use Rattle.blocks.specs.Promises.{Promises}
use Rattle.blocks.proofs.Places.{listed, no_repeat}
use Rattle.blocks.proofs.Trips.{write_read, read_write, others-stay, refusal-keeps, record_keeps, as_call, call_in}
use Rattle.blocks.proofs.Trips.{read-decides, write_decides, record_decides}

pub promises : Promises
promises = record {
  write_read = write_read;
  read_write = read_write;
  others-stay = others-stay;
  refusal-keeps = refusal-keeps;
  record_keeps = record_keeps;
  as_call = as_call;
  is_call = call_in;
  read-decides = read-decides;
  write_decides = write_decides;
  record_decides = record_decides;
  read-order = λ s a l g. refl;
  write_order = λ s a l c. refl;
  record_order = λ s a l bs. refl;
  listed = listed;
  no_repeat = no_repeat;
  read-determined = λ s a l g x y p q. p ∙ sym q;
  write_determined = λ s a l c w t u x y p q. (p.image ∙ sym q.image, p.number ∙ sym q.number);
  record_determined = λ s a l bs w t u x y p q. (p.image ∙ sym q.image, p.number ∙ sym q.number);
  answer-determined = λ q s o t u p r x y v w. (v.image ∙ sym w.image, v.«record» ∙ sym w.«record», v.number ∙ sym w.number);
  end-determined = λ q x y v w. v ∙ sym w;
  hex_determined = λ b n x y v w. v ∙ sym w;
}
