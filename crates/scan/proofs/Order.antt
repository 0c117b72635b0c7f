-- Lines of ready tasks in the order of choosing: there is one such line only.
use Prim.Native.Nat.{ℕ, suc, ◌+◌, ◌≤◌, ◌<◌}
use mathlib.Core.Path.{◌≡◌, refl, sym, ap, ◌∙◌}
use mathlib.Core.Bool.{Bool, true, false}
use mathlib.Core.List.{List, [], ◌∷◌}
use native.Mathlib.Omega.{arith}
use borrow.Author.Tests.{eqb-true}
use lib.Dec.{eqb}
use Rattle.records.specs.declared.TaskNo.{TaskNo}
use Rattle.executive.specs.Lists.{one, sum_of}
use Rattle.executive.specs.Places.{times_in}
use Rattle.scan.specs.declared.Entry.{Entry}
use Rattle.scan.specs.Entries.{entry_at, is_ready}
use Rattle.scan.proofs.Basics.{eqb_self, eqb_swap}

-- x is chosen before y: of higher priority, or of equal priority and earlier
pub record Before (x y : Entry) : Type 0 where
  pub high : y.task.priority ≤ x.task.priority
  pub early : y.task.priority ≡ x.task.priority → x.arrival < y.arrival

abbrev pub AllAfter : List Entry → Entry → List TaskNo → Type 0
AllAfter es x [] = Unit {0}
AllAfter es x (j ∷ js) = Before x (entry_at es j.0) × AllAfter es x js

abbrev pub Sorted : List Entry → List TaskNo → Type 0
Sorted es [] = Unit {0}
Sorted es (k ∷ ks) = AllAfter es (entry_at es k.0) ks × Sorted es ks

-- the line holds exactly the ready tasks, once each, in the order of choosing
pub record InOrder (es : List Entry) (r : List TaskNo) : Type 0 where
  pub exact : (k : ℕ) → times_in k r ≡ one (is_ready (entry_at es k))
  pub sorted : Sorted es r

pub not-both : (x y : Entry) → Before x y → Before y x → ⊥
not-both x y p q =
    let e : y.task.priority ≡ x.task.priority = omega (arith, p.high, q.high) in
    omega (arith, p.early e, q.early (sym e))

-- ---- who stands in a line
pub head_in : (k : TaskNo) (ks : List TaskNo) → times_in k.0 (k ∷ ks) ≡ suc (times_in k.0 ks)
unfolding sum_of
head_in k ks = rw (eqb_self k.0) (omega arith)

pub other_in : (i : ℕ) (k : TaskNo) (ks : List TaskNo) → eqb i k.0 ≡ false → times_in i (k ∷ ks) ≡ times_in i ks
unfolding sum_of
other_in i k ks e = rw e (omega arith)

pub tail_in : (i : ℕ) (k : TaskNo) (ks : List TaskNo) → times_in i ks ≤ times_in i (k ∷ ks)
unfolding sum_of
tail_in i k ks = omega arith

module _ (es : List Entry) (x : Entry) where
  pub after-at : (ks : List TaskNo) (k : ℕ) → AllAfter es x ks → 0 < times_in k ks → Before x (entry_at es k)
  unfolding sum_of
  after-at [] k a h = absurd (omega arith)
  after-at (j ∷ js) k a h = go (eqb k j.0) refl h (λ g. after-at js k a.1 g)
    where
      go : (b : Bool) → eqb k j.0 ≡ b → 0 < one b + times_in k js → (0 < times_in k js → Before x (entry_at es k)) → Before x (entry_at es k)
      go true e g ih = rw (eqb-true k j.0 e) a.0
      go false e g ih = ih (omega (arith, g))

  pub after-all : (ks : List TaskNo) → ((k : ℕ) → 0 < times_in k ks → Before x (entry_at es k)) → AllAfter es x ks
  after-all [] h = tt
  after-all (j ∷ js) h = (h j.0 (omega (arith, head_in j js)), after-all js (λ k g. h k (omega (arith, tail_in k j js))))

-- the order is that of the entries that stand in it
pub sorted-same : (es fs : List Entry) (ks : List TaskNo) → ((k : ℕ) → 0 < times_in k ks → entry_at es k ≡ entry_at fs k) → Sorted es ks → Sorted fs ks
sorted-same es fs [] h s = tt
sorted-same es fs (j ∷ js) h s =
    let z : (k : ℕ) → 0 < times_in k js → entry_at es k ≡ entry_at fs k = λ k g. h k (omega (arith, tail_in k j js)) in
    let y : entry_at es j.0 ≡ entry_at fs j.0 = h j.0 (omega (arith, head_in j js)) in
    (after-all fs _ js (λ k g. rw (← y, ← z k g) (after-at es _ js k s.0 g)), sorted-same es fs js z s.1)

-- ---- one line only
module _ (es : List Entry) where
  pub unique : (r s : List TaskNo) → Sorted es r → Sorted es s → ((k : ℕ) → times_in k r ≡ times_in k s) → r ≡ s
  unfolding sum_of
  unique [] [] p q h = refl
  unique [] (j ∷ s) p q h = absurd (omega (arith, h j.0, head_in j s))
  unique (i ∷ r) [] p q h = absurd (omega (arith, h i.0, head_in i r))
  unique (i ∷ r) (j ∷ s) p q h = go (eqb i.0 j.0) refl (λ g. unique r s p.1 q.1 g)
    where
      go : (b : Bool) → eqb i.0 j.0 ≡ b → (((k : ℕ) → times_in k r ≡ times_in k s) → r ≡ s) → (i ∷ r) ≡ (j ∷ s)
      go true e ih =
          let z : i.0 ≡ j.0 = eqb-true i.0 j.0 e in
          let y : (k : ℕ) → one (eqb k i.0) ≡ one (eqb k j.0) = λ k. ap (λ (n : ℕ). one (eqb k n)) z in
          let t : r ≡ s = ih (λ k. omega (arith, h k, y k)) in
          λ w. record { 0 = z w } ∷ t w
      go false e ih =
          let a : 0 < times_in i.0 s = omega (arith, h i.0, head_in i r, other_in i.0 j s e) in
          let b : 0 < times_in j.0 r = omega (arith, h j.0, head_in j s, other_in j.0 i r (eqb_swap i.0 j.0 e)) in
          absurd (not-both (entry_at es i.0) (entry_at es j.0) (after-at es _ r j.0 p.0 b) (after-at es _ s i.0 q.0 a))

  pub one-order : (r s : List TaskNo) → InOrder es r → InOrder es s → r ≡ s
  one-order r s p q = unique r s p.sorted q.sorted (λ k. p.exact k ∙ sym (q.exact k))
