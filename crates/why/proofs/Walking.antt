-- Steps of a function on numbers, one after the other, and where they come back: nothing here knows of the table.
use Prim.Native.Nat.{ℕ, zero, suc, ◌+◌, ◌-◌, ◌*◌, ◌≤◌, ◌<◌}
use mathlib.Core.Path.{◌≡◌, refl, sym, ap, ◌∙◌}
use mathlib.Core.Logic.{◌≢◌}
use mathlib.Core.Bool.{false}
use native.Mathlib.Omega.{arith}
use borrow.Author.Tests.{eqb-true, eqb-false, ne_eqb, ltb-true, ltb-false, leb-true, leb-false, lt-ltb, le-leb, lt-leb}
use lib.Dec.{eqb, ltb, leb}
use Rattle.executive.specs.Lists.{one, ◌and◌}
use Rattle.why.proofs.Searching.{decide}

-- ---- no more places than numbers: n different values from 1 to m
module _ (g : ℕ → ℕ) where
  hits : ℕ → ℕ → ℕ
  hits j zero = 0
  hits j (suc n) = one (eqb j (g n)) + hits j n

  inside : ℕ → ℕ → ℕ
  inside m zero = 0
  inside m (suc n) = one (ltb 0 (g n) and leb (g n) m) + inside m n

  no_hit : (j n : ℕ) → ((i : ℕ) → i < n → g i ≢ j) → hits j n ≡ 0
  unfolding hits
  no_hit j zero f = refl
  no_hit j (suc n) f =
      let z = ne_eqb j (g n) (λ e. f n (omega arith) (sym e)) in
      rw z (omega (arith, no_hit j n (λ i h. f i (omega arith))))

  one_hit : (j n : ℕ) → ((i k : ℕ) → i < k → k < n → g i ≢ g k) → hits j n ≤ 1
  unfolding hits
  one_hit j zero f = omega arith
  one_hit j (suc n) f =
      decide (eqb j (g n))
      (λ e. let q = eqb-true j (g n) e in rw e (omega (arith, no_hit j n (λ i h z. f i n h (omega arith) (z ∙ q)))))
      (λ e. rw e (omega (arith, one_hit j n (λ i k h l. f i k h (omega arith)))))

  step_in : (m x : ℕ) → one (ltb 0 x and leb x (suc m)) ≡ one (ltb 0 x and leb x m) + one (eqb (suc m) x)
  step_in m zero = rw (ne_eqb (suc m) 0 (λ e. omega arith)) refl
  step_in m (suc x) =
      decide (eqb (suc m) (suc x))
      (λ e. let q = eqb-true (suc m) (suc x) e in rw (e, lt-ltb 0 (suc x) (omega arith), le-leb (suc x) (suc m) (omega arith), lt-leb (suc x) m (omega arith)) refl)
      (λ e.
      let q = eqb-false (suc m) (suc x) e in
      decide (leb (suc x) m)
      (λ y. let h = leb-true (suc x) m y in rw (e, y, lt-ltb 0 (suc x) (omega arith), le-leb (suc x) (suc m) (omega arith)) refl)
      (λ y. let h = leb-false (suc x) m y in rw (e, y, lt-ltb 0 (suc x) (omega arith), lt-leb (suc x) (suc m) (differ q h)) refl))
    where
      differ : (suc m ≡ suc x → ⊥) → m < suc x → suc m < suc x
      differ q h = decide (ltb (suc m) (suc x)) (λ y. ltb-true (suc m) (suc x) y) (λ y. absurd (q (omega (arith, ltb-false (suc m) (suc x) y))))

  more_in : (m n : ℕ) → inside (suc m) n ≡ inside m n + hits (suc m) n
  unfolding hits inside
  more_in m zero = refl
  more_in m (suc n) = omega (arith, step_in m (g n), more_in m n)

  none_in : (n : ℕ) → inside 0 n ≡ 0
  unfolding inside
  none_in zero = refl
  none_in (suc n) = rw (none (g n)) (omega (arith, none_in n))
    where
      none : (x : ℕ) → (ltb 0 x and leb x 0) ≡ false
      none zero = refl
      none (suc x) = rw (lt-ltb 0 (suc x) (omega arith)) (lt-leb (suc x) 0 (omega arith))

  few_in : (m n : ℕ) → ((i k : ℕ) → i < k → k < n → g i ≢ g k) → inside m n ≤ m
  few_in zero n f = omega (arith, none_in n)
  few_in (suc m) n f = omega (arith, more_in m n, few_in m n f, one_hit (suc m) n f)

  all_in : (m n : ℕ) → ((i : ℕ) → i < n → (0 < g i) × (g i ≤ m)) → inside m n ≡ n
  unfolding inside
  all_in m zero f = refl
  all_in m (suc n) f =
      let r = f n (omega arith) in
      rw (lt-ltb 0 (g n) r.0, le-leb (g n) m r.1) (omega (arith, all_in m n (λ i h. f i (omega arith))))

  pub no_more : (m n : ℕ) → ((i : ℕ) → i < n → (0 < g i) × (g i ≤ m)) → ((i k : ℕ) → i < k → k < n → g i ≢ g k) → n ≤ m
  no_more m n r f = omega (arith, few_in m n f, all_in m n r)

-- ---- n steps from k
module _ (f : ℕ → ℕ) where
  unfoldable pub iter : ℕ → ℕ → ℕ
  iter zero k = k
  iter (suc n) k = f (iter n k)

  pub iter-zero : (k : ℕ) → iter 0 k ≡ k
  unfolding iter
  iter-zero k = refl

  pub iter-suc : (n k : ℕ) → iter (suc n) k ≡ f (iter n k)
  unfolding iter
  iter-suc n k = refl

  pub iter-first : (n k : ℕ) → iter (suc n) k ≡ iter n (f k)
  unfolding iter
  iter-first zero k = refl
  iter-first (suc n) k = ap f (iter-first n k)

  pub iter-add : (a b k : ℕ) → iter (a + b) k ≡ iter a (iter b k)
  unfolding iter
  iter-add zero b k = let z : 0 + b ≡ b = omega arith in rw z refl
  iter-add (suc a) b k = let z : suc a + b ≡ suc (a + b) = omega arith in rw z (ap f (iter-add a b k))

  -- at a time n the steps from k are where they were r steps before
  module _ (k n r : ℕ) (some : 0 < r) (fits : r ≤ n) (back : iter n k ≡ iter (n - r) k) where
    -- from then on they are where they were at one of the last r times
    pub stays : (m : ℕ) → (i : ℕ) × ((n - r ≤ i) × ((i < n) × (iter (n - r + m) k ≡ iter i k)))
    stays zero = (n - r, (omega arith, (omega arith, let z : n - r + 0 ≡ n - r = omega arith in ap (λ x. iter x k) z)))
    stays (suc m) = let ih = stays m in go ih.0 ih.1.0 ih.1.1.0 ih.1.1.1
      where
        go : (i : ℕ) → n - r ≤ i → i < n → iter (n - r + m) k ≡ iter i k → (i : ℕ) × ((n - r ≤ i) × ((i < n) × (iter (n - r + suc m) k ≡ iter i k)))
        go i h g e =
            let z : n - r + suc m ≡ suc (n - r + m) = omega arith in
            let s : iter (n - r + suc m) k ≡ iter (suc i) k = ap (λ x. iter x k) z ∙ iter-suc (n - r + m) k ∙ ap f e ∙ sym (iter-suc i k) in
            decide (ltb (suc i) n)
            (λ y. (suc i, (omega arith, (ltb-true (suc i) n y, s))))
            (λ y. (n - r, (omega arith, (omega arith, let q : suc i ≡ n = omega (arith, ltb-false (suc i) n y) in s ∙ ap (λ x. iter x k) q ∙ back))))

    -- one of the last r times comes again after r steps
    pub again : (i : ℕ) → n - r ≤ i → iter r (iter i k) ≡ iter i k
    again i h =
        let a : r + i ≡ (i - (n - r)) + n = omega arith in
        let b : (i - (n - r)) + (n - r) ≡ i = omega arith in
        sym (iter-add r i k) ∙ ap (λ x. iter x k) a ∙ iter-add (i - (n - r)) n k ∙ ap (iter (i - (n - r))) back
        ∙ sym (iter-add (i - (n - r)) (n - r) k) ∙ ap (λ x. iter x k) b

  -- what comes again after p steps comes again after any number of rounds
  pub rounds : (p k q : ℕ) → iter p k ≡ k → iter (q * p) k ≡ k
  rounds p k zero e = let z : 0 * p ≡ 0 = omega arith in ap (λ x. iter x k) z ∙ iter-zero k
  rounds p k (suc q) e = let z : suc q * p ≡ p + q * p = rounds-suc q p in ap (λ x. iter x k) z ∙ iter-add p (q * p) k ∙ ap (iter p) (rounds p k q e) ∙ e
    where
      rounds-suc : (q p : ℕ) → suc q * p ≡ p + q * p
      rounds-suc q p = omega arith
