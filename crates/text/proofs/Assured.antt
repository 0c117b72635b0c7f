-- What is promised holds, and the laws of added text for the tools. Of the modules here the crates above name this one
-- and no other.
use Prim.Native.Nat.{ℕ, ◌+◌}
use mathlib.Core.Path.{◌≡◌, sym, ap, ◌∙◌}
use mathlib.Core.List.{List}
use lib.ListN.{length}
use lib.Dec.{leb}
use borrow.Author.Tests.{leb-true, leb-false}
use Rattle.text.specs.Glyphs.{Puts}
use Rattle.text.specs.Promises.{Promises}
use Rattle.text.proofs.Digits.{decimal_short}
use Rattle.text.proofs.Adding.{puts-keep, puts-adds}
pub use Rattle.text.proofs.Adding.{nothing, then, named, inside, all-of, put_then, put_last}
pub use Rattle.text.proofs.Digits.{decide}

size : (o : List ℕ) (at : ℕ) (t b : List ℕ) (r : ℕ) → Puts o at t b r → length b ≡ length o
size o at t b r p =
    decide (leb (at + length t) (length o))
    (λ e. (puts-adds o at t (leb-true (at + length t) (length o) e) p).size)
    (λ e. ap length (puts-keep o at t (leb-false (at + length t) (length o) e) p).0)

pub promises : Promises
promises = record {
  adds = λ o at t b r h p. puts-adds o at t h p;
  keeps = λ o at t b r h p. puts-keep o at t h p;
  size = size;
  digits = decimal_short;
  determined = λ o at t b c r s p q. (p.bytes ∙ sym q.bytes, p.place ∙ sym q.place);
}
