-- What is known where a closure is called at each number below n, and each call leaves it as it was: of the array that `from_fn`
-- fills, and of a test of them all.
use Prim.{Unit}
use Prim.Native.Nat.{ℕ, zero, suc, ◌+◌, ◌*◌, ◌≤◌, ◌<◌}
use mathlib.Core.Path.{◌≡◌, refl, sym, ap, ap₂, ◌∙◌, subst}
use mathlib.Core.Bool.{Bool, true, false, cond}
use mathlib.Core.List.{List}
use native.Mathlib.Omega.{arith}
use native.Mathlib.Nat.{add-zero, zero-add}
use native.Mathlib.Numerals.{add-one}
use lib.ListN.{length, get_or}
use denote.Param.Members.{Mut, Called}
use denote.Ref.{Bor}
use Rattle.std.specs.Array.{IsFromFnResultFrom, IsFromFnResult}
use Rattle.std.proofs.iter.Yields.{nat_range_steps}
use Rattle.std.proofs.Common.{None, Some}
use Rattle.std.proofs.lemmas.Iterator.{cases_from_all, cases_from_any, first_from_Range, YieldsList-from_range}
use Rattle.std.proofs.lemmas.List.FromFn.{length-range_with_len, get_or-range_with_len}
use Rattle.std.specs.Bool.{MatchBool}
use Rattle.std.specs.declared.ops.Range.{Range}
use Rattle.std.specs.Iterator.{ChecksAll, ChecksAny, YieldsThen}
use Rattle.std.specs.Fn.{CalledAt}
use Rattle.std.specs.List.{range_with_len, AllWithin, HoldsAt, FoldsTo}
use Rattle.std.specs.Option.{MatchOption, IfSome}
use Rattle.std.specs.declared.option.Option.{Option}
use Rattle.executive.specs.Lists.{up_to}
use Rattle.image.specs.Blocks.{blocks}
use Rattle.image.specs.Sound.{below}
use Rattle.image.proofs.Beheld.{below_make, below-not}
use Rattle.image.proofs.Spans.{blocks-are}

-- ---- an array that `from_fn` fills
module _ {F A : Type 0} (g : Mut F (ℕ × Unit {0}) A) (f : F) (h : ℕ → A) (step : (i : ℕ) (y : A) (q : F) → Called g f (i, tt) y q → (q ≡ f) × (y ≡ h i)) where
  filled_from : (n i j : ℕ) (ys : List A) (p : F) (d : A) → p ≡ f → IsFromFnResultFrom g p ys i n → j < n → get_or ys (i + j) d ≡ h (i + j)
  filled_from zero i j ys p d e r k = absurd (omega arith)
  filled_from (suc n) i zero ys p d e (q, y, at, call, rest) k =
      let z = step i y q (subst (λ x. Called g x (i, tt) y q) e call) in
      rw (add-zero i) (at.1 d ∙ z.1)
  filled_from (suc n) i (suc j) ys p d e (q, y, at, call, rest) k =
      let z = step i y q (subst (λ x. Called g x (i, tt) y q) e call) in
      let s : i + 1 + j ≡ i + suc j = omega arith in
      rw s at (filled_from n (i + 1) j ys q d z.0 rest (omega arith))

  pub filled : (n i : ℕ) (ys : List A) (d : A) → IsFromFnResult g f ys n → i < n → get_or ys i d ≡ h i
  filled n i ys d r k = rw zero-add at (filled_from n 0 i ys f d refl r.each k)

-- blocks that are each read where they stand
pub filled-blocks : {F A : Type 0} (g : Mut F (ℕ × Unit {0}) A) (f : F) (b : ℕ → A) (w n at : ℕ) (ys : List A)
    → ((i : ℕ) (y : A) (q : F) → Called g f (i, tt) y q → (q ≡ f) × (y ≡ b (at + i * w)))
    → IsFromFnResult g f ys n → ys ≡ blocks b w n at
filled-blocks g f b w n at ys step r = sym (blocks-are b w ys (b at) n at r.long (λ i k. sym (filled g f (λ j. b (at + j * w)) step n i ys (b at) r k)))

-- ---- a test of them all
all-below : (n : ℕ) (h : ℕ → Bool) (r : Bool)
    → MatchBool r (AllWithin (λ x. h x ≡ true) (range_with_len 0 n) 0 (length (range_with_len 0 n))) ((k : ℕ) × (k < length (range_with_len 0 n)) × HoldsAt (λ x. h x ≡ false) (range_with_len 0 n) k)
    → r ≡ below h n
all-below n h true m =
    sym (below_make h n (λ i k. let e = get_or-range_with_len 0 n i 0 k ∙ zero-add i in rw e at (m i 0 (omega arith) (rw (length-range_with_len 0 n) k))))
all-below n h false (k, l, m) =
    let b : k < n = rw (length-range_with_len 0 n) at l in
    let e = get_or-range_with_len 0 n k 0 b ∙ zero-add k in
    sym (below-not h n k b (rw e at (m 0)))

pub checked-below : {F : Type 0} {g : Mut F (ℕ × Unit {0}) Bool} {s : Range ℕ} (u : Range ℕ) (f : F) (r : Bool) (n : ℕ) (h : ℕ → Bool) → s ≡ record { start = 0; end = n }
    → ((i : ℕ) (y : Bool) (q : F) → Called g f (i, tt) y q → (q ≡ f) × (y ≡ h i))
    → ChecksAll nat_range_steps g s f r u → r ≡ below h n
checked-below u f r n h e step c =
    all-below n h r
    (cases_from_all u f r (λ x. h x ≡ true) (λ x. h x ≡ false) c (YieldsList-from_range 0 n n e (omega arith))
    (λ x q k. let z = step x true q k in (z.0, sym z.1))
    (λ x q k. let z = step x false q k in sym z.1))

-- ---- whether one of them passes
any-below : (n : ℕ) (h : ℕ → Bool) (r : Bool)
    → MatchBool r ((k : ℕ) × (k < length (range_with_len 0 n)) × HoldsAt (λ x. h x ≡ true) (range_with_len 0 n) k) (AllWithin (λ x. h x ≡ false) (range_with_len 0 n) 0 (length (range_with_len 0 n)))
    → MatchBool r ((k : ℕ) × (k < n) × (h k ≡ true)) ((k : ℕ) → k < n → h k ≡ false)
any-below n h true (k, l, m) =
    let b : k < n = rw (length-range_with_len 0 n) at l in
    let e = get_or-range_with_len 0 n k 0 b ∙ zero-add k in
    (k, b, rw e at (m 0))
any-below n h false m =
    λ i k. let e = get_or-range_with_len 0 n i 0 k ∙ zero-add i in rw e at (m i 0 (omega arith) (rw (length-range_with_len 0 n) k))

pub checked-any : {F : Type 0} {g : Mut F (ℕ × Unit {0}) Bool} {s : Range ℕ} (u : Range ℕ) (f : F) (r : Bool) (n : ℕ) (h : ℕ → Bool) → s ≡ record { start = 0; end = n }
    → ((i : ℕ) (y : Bool) (q : F) → Called g f (i, tt) y q → (q ≡ f) × (y ≡ h i))
    → ChecksAny nat_range_steps g s f r u → MatchBool r ((k : ℕ) × (k < n) × (h k ≡ true)) ((k : ℕ) → k < n → h k ≡ false)
checked-any u f r n h e step c =
    any-below n h r
    (cases_from_any u f r (λ x. h x ≡ true) (λ x. h x ≡ false) c (YieldsList-from_range 0 n n e (omega arith))
    (λ x q k. let z = step x true q k in sym z.1)
    (λ x q k. let z = step x false q k in (z.0, sym z.1)))

-- ---- the first that passes
abbrev pub First : (h : ℕ → Bool) (n : ℕ) (r : Option ℕ) → Type 0
First h n r = MatchOption r ((k : ℕ) → k < n → h k ≡ false) (λ i. (i < n) × (h i ≡ true) × ((k : ℕ) → k < i → h k ≡ false))

pub first-within : (h : ℕ → Bool) (n : ℕ) (r : Option ℕ) → First h n r → IfSome r (λ i. i < n)
first-within h n None m = tt
first-within h n (Some i) m = m.0

found-first : (h : ℕ → Bool) (n : ℕ) (r : Option ℕ) → MatchOption r ((k : ℕ) → 0 ≤ k → k < n → h k ≡ false) (λ i. (0 ≤ i) × (i < n) × (h i ≡ true) × ((k : ℕ) → 0 ≤ k → k < i → h k ≡ false))
    → First h n r
found-first h n None m = λ k l. m k (omega arith) l
found-first h n (Some i) m = (m.1, m.2, λ k l. m.3 k (omega arith) l)

pub checked-first : {F : Type 0} {g : Mut F (Bor ℕ × Unit {0}) Bool} {s : Range ℕ} (u : Range ℕ) (f : F) (r : Option ℕ) (n : ℕ) (h : ℕ → Bool) → s ≡ record { start = 0; end = n }
    → ((i : ℕ) (y : Bool) (q : F) → CalledAt g f i y q → (q ≡ f) × (y ≡ h i))
    → ((xs : List ℕ) × (j : F) × YieldsThen nat_range_steps s xs r u × FoldsTo (λ p x q. CalledAt g p x false q) f xs j × MatchOption r (Unit {0}) (λ x. (q : F) × CalledAt g j x true q))
    → First h n r
checked-first {F} {g} {s} u f r n h e step c =
    found-first h n r
    (rw e at (first_from_Range s u f r (λ x. h x ≡ true) (λ x. h x ≡ false) c
    (λ x q k. let z = step x true q k in sym z.1)
    (λ x q k. let z = step x false q k in (z.0, sym z.1))))

-- a test of each number from 1 to n
pub up_to-below : (f : ℕ → Bool) (n : ℕ) → up_to f n ≡ below (λ i. f (i + 1)) n
unfolding up_to below
up_to-below f zero = refl
up_to-below f (suc n) = ap₂ (λ (a b : Bool). cond a b false) (up_to-below f n) (ap f (sym (add-one n)))
