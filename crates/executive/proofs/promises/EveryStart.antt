-- No start is lost: the account over any records, from any well-formed table and so from every fresh one.
use mathlib.Core.Path.{◌≡◌, refl, ap, ◌∙◌}
use mathlib.Core.List.{List, [], ◌∷◌, ◌++◌, append-nil}
use Prim.Native.Nat.{ℕ, suc, ◌+◌}
use native.Mathlib.Omega.{arith}
use lib.ListN.{length, length-append}
use Rattle.records.specs.Numbers.{Bytes}
use Rattle.executive.specs.declared.Table.{Table}
use Rattle.executive.specs.Pool.{requests}
use Rattle.executive.specs.Table.{begin}
use Rattle.executive.specs.WellFormed.{WellFormed}
use Rattle.executive.specs.Step.{step_of}
use Rattle.executive.specs.Configuration.{tasks_in, dormant_table, starters, fresh_table}
use Rattle.executive.specs.Promises.Demands.{after, AllBytes}
use Rattle.executive.specs.Promises.EveryStart.{Asked, Book, Turn, opened, turn_in, written, book_from, book_of, Agrees, times, all_for, Begins, counted, asks05, begins?, Account, EveryStart}
use Rattle.executive.proofs.Plans.WorkingForm.{formed}
use Rattle.executive.proofs.queue.ArraysAreLists.{requests-length}
use Rattle.executive.proofs.queue.InFlight.{admits_rest}
use Rattle.executive.proofs.step.StepIsPlan.{step_kept}
use Rattle.executive.proofs.configuration.WellFormed.{fresh-formed}
use Rattle.executive.proofs.promises.Demands.{kept}
use Rattle.executive.proofs.Book.Lists.{agrees-length}
use Rattle.executive.proofs.Book.Step.{step_does}
use Rattle.executive.proofs.Book.Written.{new_asked, new_begun, adds-asked, adds-begun, adds-few, adds-runs, GoodOutcome, written-kept}
use Rattle.executive.proofs.Book.Counted.{asks-told, begins-told}
use Rattle.executive.proofs.Book.Worked.{worked-starts}

-- ---- the account is kept from the opened book on
opened-kept : (w : List Asked) (t : Table) → Agrees w (requests t.rest) → GoodOutcome w 1 (opened w) (requests t.rest)
unfolding times all_for
opened-kept w t a = record {
  pool = a;
  once = λ j. omega arith;
  single = λ j. omega arith;
  later = λ j l. refl;
  order = λ k. append-nil (all_for k w);
  number = refl;
}

step_account : (w : List Asked) (i : ℕ) (b : Book) (t : Table) (s : List ℕ) → WellFormed t → Bytes s → GoodOutcome w i b (requests t.rest)
    → GoodOutcome w (suc i) (written i (turn_in t s) b) (requests (step_of t s).table.rest)
step_account w i b t s f y h = written-kept w i (turn_in t s) b (requests t.rest) (step_of t s).table (step_does t s f y) h

all-kept : (w : List Asked) (i : ℕ) (b : Book) (t : Table) (ss : List (List ℕ)) → WellFormed t → AllBytes ss → GoodOutcome w i b (requests t.rest)
    → GoodOutcome w (i + length ss) (book_from i t b ss) (requests (after t ss).rest)
unfolding book_from after
all-kept w i b t [] f y h = let z : i + 0 ≡ i = omega arith in rw z h
all-kept w i b t (s ∷ ss) f y h =
    let z : i + suc (length ss) ≡ suc i + length ss = omega arith in
    rw z (all-kept w (suc i) (written i (turn_in t s) b) (step_of t s).table ss (step_kept t s f y.0) y.1 (step_account w i b t s f y.0 h))

-- ---- the numbers, counted without the book
asked-number : (i : ℕ) (b : Book) (t : Table) (ss : List (List ℕ)) → AllBytes ss
    → length (book_from i t b ss).asked ≡ length b.asked + counted asks05 t ss
unfolding book_from counted
asked-number i b t [] y = omega arith
asked-number i b t (s ∷ ss) y =
    let x : Turn = turn_in t s in
    omega (
      arith,
      asked-number (suc i) (written i x b) (step_of t s).table ss y.1,
      ap (λ (l : List Asked). length l) (adds-asked i x b),
      length-append b.asked (new_asked i x),
      asks-told t s i y.0,
    )

begun-number : (w : List Asked) (i : ℕ) (b : Book) (t : Table) (ss : List (List ℕ)) → WellFormed t → AllBytes ss
    → GoodOutcome w i b (requests t.rest) → length (book_from i t b ss).begun ≡ length b.begun + counted begins? t ss
unfolding book_from counted
begun-number w i b t [] f y h = omega arith
begun-number w i b t (s ∷ ss) f y h =
    let x : Turn = turn_in t s in
    omega (
      arith,
      begun-number w (suc i) (written i x b) (step_of t s).table ss (step_kept t s f y.0) y.1 (step_account w i b t s f y.0 h),
      ap (λ (l : List Asked). length l) (adds-begun i x b),
      length-append b.begun (new_begun i x b),
      begins-told t s i b f y.0 h.pool,
    )

-- ---- one step of a history
book_last : (i : ℕ) (t : Table) (b : Book) (ss : List (List ℕ)) (s : List ℕ)
    → book_from i t b (ss ++ (s ∷ [])) ≡ written (i + length ss) (turn_in (after t ss) s) (book_from i t b ss)
unfolding book_from after
book_last i t b [] s = let z : i + 0 ≡ i = omega arith in rw z refl
book_last i t b (x ∷ ss) s =
    let z : i + suc (length ss) ≡ suc i + length ss = omega arith in
    rw z (book_last (suc i) (step_of t x).table (written i (turn_in t x) b) ss s)

after_last : (t : Table) (ss : List (List ℕ)) (s : List ℕ) → after t (ss ++ (s ∷ [])) ≡ (step_of (after t ss) s).table
unfolding after
after_last t [] s = refl
after_last t (x ∷ ss) s = after_last (step_of t x).table ss s

bytes_split : (before later : List (List ℕ)) (s : List ℕ) → AllBytes (before ++ (s ∷ later)) → AllBytes before × Bytes s
bytes_split [] later s y = (tt, y.0)
bytes_split (x ∷ before) later s y = let r = bytes_split before later s y.1 in ((y.0, r.0), r.1)

step-begins : (w : List Asked) (t : Table) (before : List (List ℕ)) (s : List ℕ) → WellFormed t → Agrees w (requests t.rest)
    → AllBytes before → Bytes s → Begins (book_of w t before) (book_of w t (before ++ (s ∷ []))) (after t (before ++ (s ∷ [])))
step-begins w t before s f a y z =
    let b : Book = book_of w t before in
    let v : Table = after t before in
    let i : ℕ = 1 + length before in
    let x : Turn = turn_in v s in
    let h : GoodOutcome w i b (requests v.rest) = all-kept w 1 (opened w) t before f y (opened-kept w t a) in
    rw (book_last 1 t (opened w) before s, after_last t before s) (record {
      new = new_begun i x b;
      added = adds-begun i x b;
      few = adds-few i x b;
      runs = adds-runs i x b (requests v.rest) (step_of v s).table (step_does v s (kept t before f y) z) h.pool;
    })

-- ---- the account
pub from-any : (t : Table) (w : List Asked) (ss : List (List ℕ)) → WellFormed t → Agrees w (requests t.rest) → AllBytes ss → Account w t ss
from-any t w ss f a y =
    let o : GoodOutcome w 1 (opened w) (requests t.rest) = opened-kept w t a in
    let h : GoodOutcome w (1 + length ss) (book_of w t ss) (requests (after t ss).rest) = all-kept w 1 (opened w) t ss f y o in
    let v : WellFormed (after t ss) = kept t ss f y in
    record {
      pool = h.pool;
      once = h.once;
      single = h.single;
      order = h.order;
      number = h.number;
      queued = agrees-length (book_of w t ss).waiting (requests (after t ss).rest) h.pool ∙ requests-length (after t ss).rest (formed v).fit.neat;
      accepted = omega (arith, asked-number 1 (opened w) t ss y);
      seen = omega (arith, begun-number w 1 (opened w) t ss f y o);
      runs = λ before later s e. let z = bytes_split before later s (rw e at y) in step-begins w t before s f a z.0 z.1;
    }

-- nothing waits in a fresh table
fresh-empty : (g : List ℕ) → requests (fresh_table g).rest ≡ []
unfolding fresh_table dormant_table
fresh-empty g = rw (admits_rest (starters g (tasks_in g) 1) (begin (dormant_table g))) refl

pub every-start : EveryStart
every-start = record {
  fresh = λ g ss b e y. from-any (fresh_table g) [] ss (fresh-formed g b e) (rw (fresh-empty g) tt) y;
  from-any = from-any;
  example = worked-starts;
}
