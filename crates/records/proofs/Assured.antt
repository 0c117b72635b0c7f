-- What is promised holds. Of the modules here the crates above name this one and no other.
use mathlib.Core.Path.{sym, ◌∙◌}
use Rattle.records.specs.Promises.{Promises}
use Rattle.records.proofs.Numbers.{fitting-back, cut-lay, lay-cut, lay-length}
use Rattle.records.proofs.Firsts.{first-decides, first-not}
use Rattle.records.proofs.Ranges.{read_in_range}
use Rattle.records.proofs.Numbered.{numbered, numbered_some}
use Rattle.records.proofs.RoundTrips.{write_read, read_write}
use Rattle.records.proofs.CallParts.{call-whole, call-parts}
use Rattle.records.proofs.reading.Laws.{reads, refuses, three, four}
use Rattle.records.proofs.writing.Laws.{writes, twenty, bytes-short}

pub promises : Promises
promises = record {
  write_read = write_read;
  read_write = read_write;
  reads = reads;
  refuses = refuses;
  three = three;
  four = four;
  writes = writes;
  twenty = twenty;
  short = bytes-short;
  number-back = fitting-back;
  read_in_range = read_in_range;
  kind-determined = λ b x y p q. p ∙ sym q;
  length-determined = λ k x y p q. p ∙ sym q;
  call-determined = λ k x y p q. p ∙ sym q;
  byte-determined = λ s i x y p q. p ∙ sym q;
  read-determined = λ s x y p q. p ∙ sym q;
  write_determined = λ c o _ _ x y p q. (p.buffer ∙ sym q.buffer, p.answer ∙ sym q.answer);
  there-determined = λ c x y p q. p ∙ sym q;
  back-determined = λ s o _ _ x y p q. (p.buffer ∙ sym q.buffer, p.answer ∙ sym q.answer);
  numbered = numbered;
  numbered_some = numbered_some;
  first-decides = first-decides;
  first-not = first-not;
  cut-lay = cut-lay;
  lay-cut = lay-cut;
  lay-length = lay-length;
  call-whole = call-whole;
  call-parts = call-parts;
}
