-- The answers of mending: its numbers, a sound table stays, what is mended is well formed and stays when it is mended again.
use mathlib.Core.Path.{◌≡◌, refl, sym, ap, ◌∙◌}
use mathlib.Core.Bool.{Bool, true, false}
use mathlib.Core.List.{[]}
use native.Mathlib.Omega.{arith}
use borrow.Author.Tests.{leb-true, le-leb}
use lib.Dec.{leb}
use Rattle.executive.specs.declared.Table.{Table}
use Rattle.executive.specs.Numbers.{most_tasks, most_granule, end_of_time}
use Rattle.executive.specs.WellFormed.{WellFormed}
use Rattle.executive.specs.Check.{is_well_formed}
use Rattle.executive.proofs.Assured.{false_not_true, and_true, true_and, decided, every-start, mail_law, Le, le_yes, le-no, leb-is}
use Rattle.mender.specs.declared.Mended.{Mended}
use Rattle.mender.specs.Passes.{own_pass, queued_pass, link_pass, held_pass, waiter_pass}
use Rattle.mender.specs.Rounds.{settled, round}
use Rattle.mender.specs.Mending.{answered, mendable, mended_table, notes_at, mend_of, Typed, Mends}
use Rattle.mender.specs.Promises.{OutOfRange, late, granuleless, taskless, crowded, Seventeen, BeginsAnew}
use Rattle.mender.proofs.Clean.{round_clean}
use Rattle.mender.proofs.Settles.{rounds, mendable-count}
use Rattle.mender.proofs.Rebuilt.{Bounded, rebuilt-right}

-- ---- in range: the test, and what it says
pub bounded : (t : Table) → mendable t ≡ true → Bounded t.rest
bounded t h =
    let a = and_true (leb 1 t.rest.count) _ h in
    let b = and_true (leb t.rest.count most_tasks) _ a.1 in
    let d = and_true (leb 1 t.rest.granule) _ b.1 in
    let e = and_true (leb t.rest.granule most_granule) _ d.1 in
    let f = and_true (leb t.rest.clock.0 end_of_time) _ e.1 in
    record { count = (leb-true _ _ a.0, leb-true _ _ b.0); granule = (leb-true _ _ d.0, leb-true _ _ e.0); clock = leb-true _ _ f.0 }

in_range : (t : Table) → Bounded t.rest → mendable t ≡ true
in_range t b =
    true_and (leb 1 t.rest.count) _ (le-leb _ _ b.count.0)
    (true_and (leb t.rest.count most_tasks) _ (le-leb _ _ b.count.1)
    (true_and (leb 1 t.rest.granule) _ (le-leb _ _ b.granule.0)
    (true_and (leb t.rest.granule most_granule) _ (le-leb _ _ b.granule.1) (true_and (leb t.rest.clock.0 end_of_time) _ (le-leb _ _ b.clock) refl))))

-- the test fails exactly where one of the three is out of range
in_range-not : (t : Table) → OutOfRange t → mendable t ≡ true → ⊥
in_range-not t (late h) m = omega (arith, (bounded t m).clock)
in_range-not t (granuleless h) m = omega (arith, (bounded t m).granule.0)
in_range-not t (taskless h) m = omega (arith, (bounded t m).count.0)
in_range-not t (crowded h) m = omega (arith, (bounded t m).count.1)

out_of_range : (t : Table) → Typed t → mendable t ≡ false → OutOfRange t
out_of_range t y m =
    go (leb 1 t.rest.count) (leb-is 1 t.rest.count) (leb t.rest.count most_tasks) (leb-is t.rest.count most_tasks)
    (leb 1 t.rest.granule) (leb-is 1 t.rest.granule) (leb t.rest.clock.0 end_of_time) (leb-is t.rest.clock.0 end_of_time)
  where
    go : (a : Bool) → Le 1 t.rest.count a → (b : Bool) → Le t.rest.count most_tasks b → (d : Bool) → Le 1 t.rest.granule d
        → (e : Bool) → Le t.rest.clock.0 end_of_time e → OutOfRange t
    go false (le-no h) b p d q e s = taskless (omega arith)
    go true x false (le-no h) d q e s = crowded h
    go true x true p false (le-no h) e s = granuleless (omega arith)
    go true x true p true q false (le-no h) = late h
    go true (le_yes x) true (le_yes p) true (le_yes q) true (le_yes s) =
        false_not_true (sym m ∙ in_range t (record { count = (x, p); granule = (q, y.granule); clock = s }))

-- ---- the three answers
pub stays : (t : Table) → mendable t ≡ true → is_well_formed t ≡ true → mend_of t ≡ answered 0 t []
unfolding mend_of
stays t m w = rw (m, w) refl

pub mends : (t : Table) → mendable t ≡ true → is_well_formed t ≡ false → mend_of t ≡ answered 0 (mended_table t) (notes_at t (mended_table t))
unfolding mend_of
mends t m w = rw (m, w) refl

pub refuses : (t : Table) → mendable t ≡ false → mend_of t ≡ answered 17 t []
unfolding mend_of
refuses t m = rw m refl

-- ---- a sound table
sound-bounded : (t : Table) → WellFormed t → Bounded t.rest
sound-bounded t w = record { count = w.numbers.count; granule = w.numbers.granule; clock = w.numbers.clock }

pub sound-stays : (t : Table) → WellFormed t → mend_of t ≡ answered 0 t []
sound-stays t w = stays t (in_range t (sound-bounded t w)) ((decided.iff t).1 w)

-- ---- the numbers
number-no : (t : Table) → mendable t ≡ false → (mend_of t).number ≡ 17
number-no t m = ap (λ (x : Mended). x.number) (refuses t m)

number-yes : (t : Table) → mendable t ≡ true → (mend_of t).number ≡ 0
number-yes t m = go (is_well_formed t) refl
  where
    go : (b : Bool) → is_well_formed t ≡ b → (mend_of t).number ≡ 0
    go true w = ap (λ (x : Mended). x.number) (stays t m w)
    go false w = ap (λ (x : Mended). x.number) (mends t m w)

pub number-mendable : (t : Table) → (mend_of t).number ≡ 0 → mendable t ≡ true
number-mendable t z = go (mendable t) refl
  where
    go : (b : Bool) → mendable t ≡ b → b ≡ true
    go true m = refl
    go false m = absurd (omega (arith, number-no t m))

pub seventeen : (t : Table) → Typed t → Seventeen t
seventeen t y = record { exactly = (λ e. out (mendable t) refl e, λ o. number-no t (not_yes o)); otherwise = λ f. number-yes t (yes f); nothing = λ o. refuses t (not_yes o) }
  where
    out : (b : Bool) → mendable t ≡ b → (mend_of t).number ≡ 17 → OutOfRange t
    out true m e = absurd (omega (arith, number-yes t m))
    out false m e = out_of_range t y m

    not_yes : OutOfRange t → mendable t ≡ false
    not_yes o = go (mendable t) refl
      where
        go : (b : Bool) → mendable t ≡ b → b ≡ false
        go true m = absurd (in_range-not t o m)
        go false m = refl

    yes : (OutOfRange t → ⊥) → mendable t ≡ true
    yes f = go (mendable t) refl
      where
        go : (b : Bool) → mendable t ≡ b → b ≡ true
        go true m = refl
        go false m = absurd (f (out_of_range t y m))

-- ---- what is mended
-- a round touches neither the clock nor the granule nor the count
round-bounded : (t : Table) → Bounded t.rest → Bounded (round t).rest
unfolding round settled waiter_pass held_pass link_pass queued_pass own_pass
round-bounded t b = record { count = b.count; granule = b.granule; clock = b.clock }

pub mended-right : (t : Table) → Typed t → mendable t ≡ true → WellFormed (mended_table t)
mended-right t y m = rw (rounds t y m 1) (rebuilt-right (round t) (round_clean t y (mendable-count t m)) (round-bounded t (bounded t m)))

pub mended : (t : Table) → Typed t → (mend_of t).number ≡ 0 → WellFormed (mend_of t).table
mended t y z = go (is_well_formed t) refl
  where
    m : mendable t ≡ true
    m = number-mendable t z

    go : (b : Bool) → is_well_formed t ≡ b → WellFormed (mend_of t).table
    go true w = rw (stays t m w) ((decided.iff t).0 w)
    go false w = rw (mends t m w) (mended-right t y m)

pub again : (t : Table) → Typed t → (mend_of t).number ≡ 0 → mend_of (mend_of t).table ≡ answered 0 (mend_of t).table []
again t y z = sound-stays (mend_of t).table (mended t y z)

pub determined : (t : Table) (x y : Mended) → Mends t x → Mends t y → x ≡ y
determined t x y a b = a.answer ∙ sym b.answer

-- ---- the accounts of starts and of messages begin anew: they hold from any well-formed table
pub begins_anew : (t : Table) → Typed t → (mend_of t).number ≡ 0 → BeginsAnew (mend_of t).table
begins_anew t y z =
    let w : WellFormed (mend_of t).table = mended t y z in
    record { starts = λ a ss g h. every-start.from-any (mend_of t).table a ss w g h; letters = λ ss h. mail_law.from-any (mend_of t).table ss w h }
