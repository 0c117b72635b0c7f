-- What is promised of a question why a task is not running: from what is promised of the answer about a table.
use Prim.Native.Nat.{ℕ, ◌≤◌}
use mathlib.Core.Path.{◌≡◌, refl, sym, ◌∙◌}
use mathlib.Core.Bool.{true, false}
use mathlib.Core.List.{List}
use native.Mathlib.Omega.{arith}
use lib.ListN.{length}
use borrow.Author.Tests.{le-ltb}
use Rattle.records.specs.declared.TaskNo.{TaskNo}
use Rattle.why.specs.Paths.{explained}
use Rattle.why.specs.Promises.{Numbers}
use Rattle.why.proofs.Assured.{promises as why_promises}
use Rattle.image.specs.Image.{load_of, is_image}
use Rattle.image.specs.Reasons.{reasons_length, reasons_to, why_number, WhyNumbers}
use Rattle.image.proofs.Alike.{decide, never}

module _ (s : List ℕ) (k : TaskNo) where
  pub of-table : is_image s ≡ true → reasons_to s k ≡ explained (load_of s) k
  unfolding reasons_to
  of-table i = rw i

  of_none : is_image s ≡ false → (reasons_to s k).number ≡ 1
  unfolding reasons_to
  of_none i = rw i

  numbers_of : WhyNumbers s k (reasons_to s k).number
  numbers_of =
      decide (is_image s)
      (λ i.
      let n : Numbers (load_of s) k (explained (load_of s) k) = why_promises.numbers (load_of s) k in
      rw (of-table i)
      (record {
        one = (λ e w. n.one.0 e w.table, λ no. n.one.1 (λ f. no (record { image = i; table = f })));
        six = (λ e. let p = n.six.0 e in (record { image = i; table = p.0 }, p.1), λ p. n.six.1 (p.0.table, p.1));
        nought = (λ e. let p = n.nought.0 e in (record { image = i; table = p.formed }, p), λ p. n.nought.1 p.1);
      }))
      (λ i.
      rw (of_none i)
      (record {
        one = (λ e w. never (sym i ∙ w.image), λ no. refl);
        six = (λ e. absurd (omega arith), λ p. absurd (never (sym i ∙ p.0.image)));
        nought = (λ e. absurd (omega arith), λ p. absurd (never (sym i ∙ p.0.image)));
      }))

  pub numbers_in : (o : List ℕ) → reasons_length ≤ length o → WhyNumbers s k (why_number s k o)
  unfolding why_number
  numbers_in o h = rw (le-ltb (length o) reasons_length h) numbers_of
