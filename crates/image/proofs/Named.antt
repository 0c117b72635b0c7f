-- Sets of tasks as words: the set of those named, with none named twice, is that of those who pass a test exactly where each
-- of them is named once and no other.
use Prim.Native.Nat.{ℕ, zero, suc, ◌+◌, ◌*◌, ◌/◌, ◌%◌, ◌^◌, ◌≤◌, ◌<◌}
use mathlib.Core.Path.{◌≡◌, refl, sym, ap, ◌∙◌}
use mathlib.Core.Bool.{Bool, true, false, not, cond, ◌||◌}
use mathlib.Core.List.{List, [], ◌∷◌, ◌++◌}
use native.Mathlib.Omega.{arith}
use native.Mathlib.Numerals.{add-one}
use borrow.Author.Tests.{eqb-true, eqb-false, eq-eqb, ne_eqb, lt-ltb, ltb-true, le-leb, lt-leb, leb-true, leb-false}
use lib.Dec.{eqb, leb, ltb}
use lib.Pow.{pow-lt, pow_mono}
use lib.Bits.{bit_and, bit_or, or_lt}
use lib.ListN.{length, get_or, drop, drop_of_length-le}
use lib.Seq.{drop-cons}
use Rattle.executive.specs.declared.State.{State}
use Rattle.executive.specs.declared.Task.{Task}
use Rattle.executive.specs.declared.Request.{Request}
use Rattle.executive.specs.Lists.{one, sum_of, ◌and◌, up_to}
use Rattle.executive.specs.Places.{task_at}
use Rattle.executive.specs.States.{await_start, await_end}
use Rattle.executive.specs.Flags.{is_set}
use Rattle.executive.specs.WellFormed.{starts_of, ends_of, runs_of}
use Rattle.executive.specs.Check.{waiters_at}
use Rattle.executive.proofs.Assured.{one-le, all-get, all_make, sum-append, false_not_true, eqb_self, and_true, set-none, set-or, set_same, set-within, same_bits, same}
use Rattle.image.specs.Sound.{naming, namings, names_in, set_of, waits_as, names_other}
use Rattle.image.specs.Marks.{passed, Marked}
use Rattle.image.proofs.Alike.{decide}
use Rattle.image.proofs.Spans.{length-blocks, block_at}
use Rattle.image.proofs.Marked.{bit-other, one_same}
use Rattle.image.proofs.SetBits.{bit-low as lowest, bit_shifted}

-- how often number k stands among some
abbrev pub times_of : ℕ → List ℕ → ℕ
times_of k ks = sum_of (λ (j : ℕ). one (eqb k j)) ks

-- ---- single bits
or_false : (a b : Bool) → a ≡ false → b ≡ false → (a || b) ≡ false
or_false a b e f = rw (e, f) refl

or_same : (a b : Bool) → b ≡ false → (a || b) ≡ a
or_same true b e = refl
or_same false b e = e

or_right : (a b : Bool) → b ≡ true → (a || b) ≡ true
or_right true b e = refl
or_right false b e = e

-- ---- what is said of a set w of those named among n tasks, task k so often as c says: it has no bit over n; where bit 0
-- is not set nobody is named twice and the bits tell; where it is, somebody is
record Twice (n : ℕ) (c : ℕ → ℕ) : Type 0 where
  task : ℕ
  some : 0 < task
  low : task ≤ n
  often : 2 ≤ c task

record Told (n w : ℕ) (c : ℕ → ℕ) : Type 0 where
  below : w < 2 ^ 17
  over : (p : ℕ) → n < p → is_set w p ≡ false
  once : is_set w 0 ≡ false → (k : ℕ) → 0 < k → k ≤ n → c k ≡ one (is_set w k)
  twice : is_set w 0 ≡ true → Twice n c

module _ (n : ℕ) (hn : n ≤ 16) where
  told_none : Told n 0 (λ k. 0)
  told_none = record {
    below = omega arith;
    over = λ p h. set-none p;
    once = λ e k g h. ap one (sym (set-none k));
    twice = λ e. false_not_true (sym (set-none 0) ∙ e);
  }

  more-twice : (c : ℕ → ℕ) (j : ℕ) → Twice n c → Twice n (λ k. c k + one (eqb k j))
  more-twice c j t = record { task = t.task; some = t.some; low = t.low; often = omega (arith, t.often) }

  module _ (w j : ℕ) (c : ℕ → ℕ) (t : Told n w c) where
    -- a number that names none of them; one who is named already; one who is not
    told-outside : (ltb 0 j and leb j n) ≡ false → Told n w (λ k. c k + one (eqb k j))
    told-outside e = record {
      below = t.below;
      over = t.over;
      once = λ z k g h. let d : eqb k j ≡ false = ne_eqb k j (λ q. false_not_true (sym e ∙ rw (← q, lt-ltb 0 k g) (le-leb k n h))) in omega (arith, t.once z k g h, ap one d);
      twice = λ z. more-twice c j (t.twice z);
    }

    module _ (g : 0 < j) (l : j ≤ n) where
      told-again : is_set w j ≡ true → Told n (bit_or w 1) (λ k. c k + one (eqb k j))
      told-again s = record {
        below = or_lt 17 w 1 t.below (omega arith);
        over = λ p h. set-or p w 1 ∙ or_false _ _ (t.over p h) (bit-other 0 p (λ q. omega arith));
        once = λ z. false_not_true (sym z ∙ set-or 0 w 1 ∙ or_right (is_set w 0) _ (set_same 0));
        twice = λ z. decide (is_set w 0) (λ a. more-twice c j (t.twice a)) (λ b. record { task = j; some = g; low = l; often = omega (arith, t.once b j g l, ap one s, ap one (eqb_self j)) });
      }

      told-new : is_set w j ≡ false → Told n (bit_or w (2 ^ j)) (λ k. c k + one (eqb k j))
      told-new s = record {
        below = or_lt 17 w (2 ^ j) t.below (pow-lt {j = 17} (omega arith));
        over = λ p h. set-or p w (2 ^ j) ∙ or_false _ _ (t.over p h) (bit-other j p (λ q. omega arith));
        once = λ z k a b. new-once (sym low ∙ z) k a b;
        twice = λ z. more-twice c j (t.twice (sym low ∙ z));
      }
        where
          low : is_set (bit_or w (2 ^ j)) 0 ≡ is_set w 0
          low = set-or 0 w (2 ^ j) ∙ or_same _ _ (bit-other j 0 (λ q. omega arith))

          new-once : is_set w 0 ≡ false → (k : ℕ) → 0 < k → k ≤ n → c k + one (eqb k j) ≡ one (is_set (bit_or w (2 ^ j)) k)
          new-once z k a b = decide (eqb k j)
              (λ d.
              let q : k ≡ j = eqb-true k j d in
              let x : is_set w k ≡ false = ap (is_set w) q ∙ s in
              let y : is_set (bit_or w (2 ^ j)) k ≡ true = set-or k w (2 ^ j) ∙ or_right (is_set w k) _ (ap (is_set (2 ^ j)) q ∙ set_same j) in
              omega (arith, t.once z k a b, ap one x, ap one y, ap one d))
              (λ d.
              let y : is_set (bit_or w (2 ^ j)) k ≡ is_set w k = set-or k w (2 ^ j) ∙ or_same (is_set w k) _ (bit-other j k (eqb-false k j d)) in
              omega (arith, t.once z k a b, ap one y, ap one d))

    told_more : Told n (naming n w j) (λ k. c k + one (eqb k j))
    unfolding naming
    told_more = decide (ltb 0 j and leb j n)
        (λ e.
        let a = and_true (ltb 0 j) _ e in
        let g : 0 < j = ltb-true 0 j a.0 in
        let l : j ≤ n = leb-true j n a.1 in
        decide (is_set w j) (λ s. rw (e, s) (told-again g l s)) (λ s. rw (e, s) (told-new g l s)))
        (λ e. rw e (told-outside e))

  told_as : (w : ℕ) (c d : ℕ → ℕ) → Told n w c → ((k : ℕ) → d k ≡ c k) → Told n w d
  told_as w c d t e = record {
    below = t.below;
    over = t.over;
    once = λ z k g h. e k ∙ t.once z k g h;
    twice = λ z. let x = t.twice z in record { task = x.task; some = x.some; low = x.low; often = omega (arith, x.often, e x.task) };
  }

  told-all : (ks : List ℕ) (w : ℕ) (c d : ℕ → ℕ) → Told n w c → ((k : ℕ) → d k ≡ c k + times_of k ks) → Told n (namings n w ks) d
  unfolding namings sum_of
  told-all [] w c d t e = told_as w c d t (λ k. e k ∙ omega arith)
  told-all (j ∷ ks) w c d t e = told-all ks (naming n w j) (λ k. c k + one (eqb k j)) d (told_more w j c t) (λ k. e k ∙ omega arith)

-- ---- the set of those who pass a test
bit_if : (b : Bool) (q p : ℕ) → (q ≡ p → ⊥) → is_set (cond b (2 ^ q) 0) p ≡ false
bit_if true q p n = bit-other q p (λ z. n (sym z))
bit_if false q p n = set-none p

bit-of : (b : Bool) (q : ℕ) → is_set (cond b (2 ^ q) 0) q ≡ b
bit-of true q = set_same q
bit-of false q = set-none q

bit-low : (b : Bool) (q : ℕ) → q ≤ 16 → cond b (2 ^ q) 0 < 2 ^ 17
bit-low true q h = pow-lt {j = 17} (omega arith)
bit-low false q h = omega arith

or_left : (a b : Bool) → a ≡ false → (a || b) ≡ b
or_left a b e = rw e refl

module _ (f : ℕ → Bool) where
  set-over : (n p : ℕ) → n < p → is_set (set_of f n) p ≡ false
  unfolding set_of
  set-over zero p h = set-none p
  set-over (suc n) p h = set-or p (set_of f n) _ ∙ or_false _ _ (set-over n p (omega arith)) (bit_if (f (suc n)) (suc n) p (λ q. omega arith))

  set-zero : (n : ℕ) → is_set (set_of f n) 0 ≡ false
  unfolding set_of
  set-zero zero = set-none 0
  set-zero (suc n) = set-or 0 (set_of f n) _ ∙ or_false _ _ (set-zero n) (bit_if (f (suc n)) (suc n) 0 (λ q. omega arith))

  set_at : (n k : ℕ) → 0 < k → k ≤ n → is_set (set_of f n) k ≡ f k
  unfolding set_of
  set_at zero k g h = absurd (omega arith)
  set_at (suc n) k g h = set-or k (set_of f n) _ ∙ decide (eqb k (suc n))
      (λ e.
      let q : k ≡ suc n = eqb-true k (suc n) e in
      or_left _ _ (set-over n k (omega arith)) ∙ ap (is_set (cond (f (suc n)) (2 ^ suc n) 0)) q ∙ bit-of (f (suc n)) (suc n) ∙ ap f (sym q))
      (λ e.
      let q = eqb-false k (suc n) e in
      or_same _ _ (bit_if (f (suc n)) (suc n) k (λ z. q (sym z))) ∙ set_at n k g (below k n h q))
    where
      below : (k n : ℕ) → k ≤ suc n → (k ≡ suc n → ⊥) → k ≤ n
      below k n h q = decide (leb k n) (λ e. leb-true k n e) (λ e. absurd (q (omega (arith, leb-false k n e))))

  set_below : (n : ℕ) → n ≤ 16 → set_of f n < 2 ^ 17
  unfolding set_of
  set_below zero h = omega arith
  set_below (suc n) h = or_lt 17 (set_of f n) _ (set_below n (omega arith)) (bit-low (f (suc n)) (suc n) h)

-- ---- the law
pub named-exact : (n : ℕ) → n ≤ 16 → (f : ℕ → Bool) (ks : List ℕ) → eqb (namings n 0 ks) (set_of f n) ≡ up_to (λ (k : ℕ). eqb (times_of k ks) (one (f k))) n
named-exact n hn f ks = same _ _ there back
  where
    test : ℕ → Bool
    test k = eqb (times_of k ks) (one (f k))

    t : Told n (namings n 0 ks) (λ k. times_of k ks)
    t = told-all n hn ks 0 (λ k. 0) (λ k. times_of k ks) (told_none n hn) (λ k. omega arith)

    there : eqb (namings n 0 ks) (set_of f n) ≡ true → up_to test n ≡ true
    there e =
        let q : namings n 0 ks ≡ set_of f n = eqb-true _ _ e in
        let z : is_set (namings n 0 ks) 0 ≡ false = ap (λ (x : ℕ). is_set x 0) q ∙ set-zero f n in
        all_make test n (λ k g h. eq-eqb _ _ (t.once z k g h ∙ ap one (ap (λ (x : ℕ). is_set x k) q ∙ set_at f n k g h)))

    back : up_to test n ≡ true → eqb (namings n 0 ks) (set_of f n) ≡ true
    back u = eq-eqb _ _ (same_bits 17 (namings n 0 ks) (set_of f n) t.below (set_below f n hn) (λ p. (λ h. sym (bit p) ∙ h, λ h. bit p ∙ h)))
      where
        get : (k : ℕ) → 0 < k → k ≤ n → times_of k ks ≡ one (f k)
        get k g h = eqb-true _ _ (all-get test n k u g h)

        low : is_set (namings n 0 ks) 0 ≡ false
        low = decide (is_set (namings n 0 ks) 0) (λ b. let x = t.twice b in absurd (omega (arith, x.often, get x.task x.some x.low, one-le (f x.task)))) (λ e. e)

        bit : (p : ℕ) → is_set (namings n 0 ks) p ≡ is_set (set_of f n) p
        bit zero = low ∙ sym (set-zero f n)
        bit (suc p) = decide (leb (suc p) n)
            (λ e. let h = leb-true (suc p) n e in one_same _ _ (sym (t.once low (suc p) (omega arith) h) ∙ get (suc p) (omega arith) h) ∙ sym (set_at f n (suc p) (omega arith) h))
            (λ e. let h = leb-false (suc p) n e in t.over (suc p) h ∙ sym (set-over f n (suc p) h))

-- ---- naming one, as the code does it; b is its bit
module _ (n w k : ℕ) where
  pub naming-none : k ≡ 0 → w ≡ naming n w k
  unfolding naming
  naming-none e = rw e refl

  pub naming-past : n < k → w ≡ naming n w k
  unfolding naming
  naming-past h = rw (lt-ltb 0 k (omega arith), lt-leb k n h) refl

  module _ (b : ℕ) (e : b ≡ 2 ^ k) (g : 0 < k) (h : k ≤ n) where
    pub naming-again : (bit_and w b ≡ 0 → ⊥) → bit_or w 1 ≡ naming n w k
    unfolding naming is_set
    naming-again d = rw (lt-ltb 0 k g, le-leb k n h, ← e, ne_eqb (bit_and w b) 0 d) refl

    pub naming-new : bit_and w b ≡ 0 → bit_or w b ≡ naming n w k
    unfolding naming is_set
    naming-new d = rw (lt-ltb 0 k g, le-leb k n h, ← e, eq-eqb (bit_and w b) 0 d) refl

-- ---- naming some, one by one
module _ (n : ℕ) (s : List ℕ) (w m at i : ℕ) where
  pub names-turn : (set : ℕ) → i < m → namings n (naming n set (get_or s (at + i * w) 0)) (drop (i + 1) (names_in s w m at)) ≡ namings n set (drop i (names_in s w m at))
  unfolding namings
  names-turn set h =
      let l : i < length (names_in s w m at) = omega (arith, length-blocks (λ (p : ℕ). get_or s p 0) w m at) in
      rw (add-one, drop-cons (names_in s w m at) i 0 l, block_at (λ (p : ℕ). get_or s p 0) w m at i 0 h) refl

  pub names-end : (set : ℕ) → m ≤ i → namings n set (drop i (names_in s w m at)) ≡ set
  unfolding namings
  names-end set h = rw (drop_of_length-le (names_in s w m at) {i = i} (omega (arith, length-blocks (λ (p : ℕ). get_or s p 0) w m at))) refl

namings-then : (n w : ℕ) (xs ys : List ℕ) → namings n (namings n w xs) ys ≡ namings n w (xs ++ ys)
unfolding namings
namings-then n w [] ys = refl
namings-then n w (x ∷ xs) ys = namings-then n (naming n w x) xs ys

-- ---- tests at each number, put together
up-and : (f g : ℕ → Bool) (n : ℕ) → up_to (λ (k : ℕ). f k and g k) n ≡ (up_to f n and up_to g n)
unfolding up_to
up-and f g zero = refl
up-and f g (suc n) = rw (up-and f g n) (go (up_to f n) (up_to g n) (f (suc n)) (g (suc n)))
  where
    go : (a b c d : Bool) → cond (a and b) (c and d) false ≡ (cond a c false and cond b d false)
    go true true c d = refl
    go true false true d = refl
    go true false false d = refl
    go false b c d = refl

pub up_same : (f g : ℕ → Bool) (n : ℕ) → ((k : ℕ) → f k ≡ g k) → up_to f n ≡ up_to g n
unfolding up_to
up_same f g zero h = refl
up_same f g (suc n) h = rw (up_same f g n h, h (suc n)) refl

-- ---- the waiters of the requests p and of the runs of ts: those named at the start by `starts`, at the end by `runs` and
-- `asked`
module _ (ts : List Task) (p : List Request) (n : ℕ) (hn : n ≤ 16) (starts asked runs : List ℕ) where
  pub waiters-named : ((k : ℕ) → times_of k starts ≡ starts_of k p) → ((k : ℕ) → times_of k asked ≡ ends_of k p) → ((k : ℕ) → times_of k runs ≡ runs_of k ts)
      → (eqb (namings n 0 starts) (set_of (waits_as await_start ts) n) and eqb (namings n (namings n 0 runs) asked) (set_of (waits_as await_end ts) n) and up_to (names_other ts) n)
      ≡ up_to (waiters_at ts p) n
  unfolding waiters_at
  waiters-named a b d =
      let A : ℕ → Bool = λ k. eqb (times_of k starts) (one (waits_as await_start ts k)) in
      let B : ℕ → Bool = λ k. eqb (times_of k (runs ++ asked)) (one (waits_as await_end ts k)) in
      let both : (k : ℕ) → times_of k (runs ++ asked) ≡ ends_of k p + runs_of k ts = λ k. sum-append (λ (j : ℕ). one (eqb k j)) runs asked ∙ omega (arith, b k, d k) in
      let x : up_to (waiters_at ts p) n ≡ up_to (λ (k : ℕ). A k and (B k and names_other ts k)) n = up_same (waiters_at ts p) (λ (k : ℕ). A k and (B k and names_other ts k)) n (λ k. rw (a k, both k) refl) in
      let y : up_to (λ (k : ℕ). A k and (B k and names_other ts k)) n ≡ (up_to A n and (up_to B n and up_to (names_other ts) n)) = up-and A (λ (k : ℕ). B k and names_other ts k) n ∙ ap (λ (z : Bool). up_to A n and z) (up-and B (names_other ts) n) in
      rw (namings-then n 0 runs asked, named-exact n hn (waits_as await_start ts) starts, named-exact n hn (waits_as await_end ts) (runs ++ asked)) (sym (x ∙ y))

-- ---- a run that does not name itself, and one that does
pub some_of : (k : ℕ) → (k ≡ 0 → ⊥) → 0 < k
some_of zero n = absurd (n refl)
some_of (suc k) n = omega arith

-- ---- a set of tasks with bit i for the i-th entry, moved up: bit k for task k
module _ (w : ℕ) where
  moved_none : is_set (w * 2) 0 ≡ false
  moved_none = let z : w * 2 / 2 ^ 0 % 2 ≡ 0 = omega arith in lowest (w * 2) 0 ∙ ap (λ (x : ℕ). not (eqb x 0)) z

  moved-next : (j : ℕ) → is_set (w * 2) (suc j) ≡ is_set w j
  moved-next j =
      let z : 1 + j ≡ suc j = omega arith in
      let e : w * 2 / 2 ^ 1 ≡ w = omega arith in
      ap (is_set (w * 2)) (sym z) ∙ sym (bit_shifted (w * 2) 1 j) ∙ ap (λ (x : ℕ). is_set x j) e

module _ (f : State → Bool) (ts : List Task) (n w : ℕ) (hn : n ≤ 16) (m : Marked n w (passed f ts)) where
  abbrev test : ℕ → Bool
  test k = f (task_at ts k).state

  moved-low : w * 2 < 2 ^ 17
  moved-low = omega (arith, m.low, pow_mono {i = n} {j = 16} hn)

  moved-whole : w * 2 % 4294967296 ≡ w * 2
  moved-whole = omega (arith, moved-low)

  told-bit : (j : ℕ) → j < n → is_set w j ≡ test (suc j)
  told-bit j h = one_same _ _ (sym (m.told j h))

  bit_past : (j : ℕ) → n ≤ j → is_set w j ≡ false
  bit_past j h = decide (is_set w j) (λ e. absurd (omega (arith, set-within n w j m.low e))) (λ e. e)

  -- it is the set of those who pass
  pub moved-set : w * 2 % 4294967296 ≡ set_of (λ (k : ℕ). f (task_at ts k).state) n
  moved-set = moved-whole ∙ same_bits 17 (w * 2) (set_of test n) moved-low (set_below test n hn) (λ p. (λ h. sym (bit p) ∙ h, λ h. bit p ∙ h))
    where
      bit : (p : ℕ) → is_set (w * 2) p ≡ is_set (set_of test n) p
      bit zero = moved_none w ∙ sym (set-zero test n)
      bit (suc j) = moved-next w j ∙ decide (leb (suc j) n)
          (λ e. let h = leb-true (suc j) n e in told-bit j h ∙ sym (set_at test n (suc j) (omega arith) h))
          (λ e. let h = leb-false (suc j) n e in bit_past j (omega arith) ∙ sym (set-over test n (suc j) h))

  -- and with bit 0, where number 0, which names no task, passes as well
  pub moved-bits : f (task_at ts 0).state ≡ true → (k : ℕ) → k ≤ n → is_set (bit_or (w * 2 % 4294967296) 1) k ≡ f (task_at ts k).state
  moved-bits e zero h = set-or 0 (w * 2 % 4294967296) 1 ∙ or_right (is_set (w * 2 % 4294967296) 0) _ (set_same 0) ∙ sym e
  moved-bits e (suc j) h =
      set-or (suc j) (w * 2 % 4294967296) 1
      ∙ or_same (is_set (w * 2 % 4294967296) (suc j)) _ (bit-other 0 (suc j) (λ z. omega arith))
      ∙ ap (λ (x : ℕ). is_set x (suc j)) moved-whole
      ∙ moved-next w j
      ∙ told-bit j h
