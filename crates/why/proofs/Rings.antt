-- The ring of a path is exactly the tasks that it leads to and that lead to themselves.
use Prim.Native.Nat.{ℕ, zero, suc, ◌+◌, ◌-◌, ◌*◌, ◌≤◌, ◌<◌}
use mathlib.Core.Path.{◌≡◌, sym, ap, ◌∙◌}
use mathlib.Core.Logic.{◌↔◌, ◌⊎◌, inl, inr}
use mathlib.Core.Bool.{Bool, true}
use mathlib.Core.List.{List, [], ◌∷◌}
use native.Mathlib.Omega.{arith}
use native.Mathlib.Nat.{mul-suc}
use borrow.Author.Tests.{eqb-true, eq-eqb, leb-true, leb-false}
use lib.Dec.{eqb, leb}
use lib.ListN.{length, get_or, length-drop}
use lib.Seq.{get_or-take, get_or-drop, length-take-le}
use Rattle.executive.specs.declared.Table.{Table}
use Rattle.executive.specs.Lists.{sum_of, next_of}
use Rattle.executive.specs.WellFormed.{WellFormed}
use Rattle.why.specs.declared.Step.{Step}
use Rattle.why.specs.declared.Reasons.{Reasons}
use Rattle.why.specs.Paths.{no_step, path_in, ring_in}
use Rattle.why.specs.Promises.{LeadsIn, Leads, LeadsOn, stands_in}
use Rattle.why.proofs.Searching.{decide, passing, next-passes, some_next, passes-some}
use Rattle.why.proofs.Waiting.{onto, onto-nobody, Within, waits-onto, onto-waits}
use Rattle.why.proofs.Walking.{iter, iter-zero, iter-suc, iter-first, iter-add, stays, again, rounds}
use Rattle.why.proofs.Trail.{at, Whole}

-- a list of which no two places pass a test has at most one that does
few-pass : {A : Type 0} (t : A → Bool) (d : A) (l : List A)
    → ((i j : ℕ) → i < j → j < length l → t (get_or l i d) ≡ true → t (get_or l j d) ≡ true → ⊥) → passing t d l ≤ 1
unfolding sum_of
few-pass t d [] f = omega arith
few-pass t d (x ∷ xs) f =
    let ih = few-pass t d xs (λ i j h l. f (suc i) (suc j) (omega arith) (omega arith)) in
    decide (t x)
    (λ e.
    decide (leb (passing t d xs) 0)
    (λ z. rw e (omega (arith, leb-true (passing t d xs) 0 z)))
    (λ z.
    let h = some_next t d 0 xs (leb-false (passing t d xs) 0 z) in
    let y = next-passes t d 0 xs h in
    absurd (f 0 (suc (next_of t 0 xs - 0)) (omega arith) (omega arith) e y)))
    (λ e. rw e (omega arith))

module _ (t : Table) (w : WellFormed t) where
  -- ---- steps of waiting are steps of `onto`
  pub leads-iter : (n i j : ℕ) → Within t w i → LeadsIn t n i j → (iter (onto t) n i ≡ j) × Within t w j
  leads-iter zero i j v e = (iter-zero (onto t) i ∙ e, rw (← e) v)
  leads-iter (suc n) i j v l =
      let s = waits-onto t w i v.0 l.0 l.1.0 in
      let r = leads-iter n l.0 j s.1 l.1.1 in
      (iter-first (onto t) n i ∙ ap (iter (onto t) n) s.0 ∙ r.0, r.1)

  pub iter-leads : (n i : ℕ) → ((m : ℕ) → m ≤ n → Within t w (iter (onto t) m i)) → LeadsIn t n i (iter (onto t) n i)
  iter-leads zero i f = sym (iter-zero (onto t) i)
  iter-leads (suc n) i f =
      let e : iter (onto t) 1 i ≡ onto t i = iter-suc (onto t) 0 i ∙ ap (onto t) (iter-zero (onto t) i) in
      let v : Within t w i = rw (iter-zero (onto t) i) at (f 0 (omega arith)) in
      let u : Within t w (onto t i) = rw e at (f 1 (omega arith)) in (
        onto t i,
        (
          onto-waits t w i v.0 u.0,
          rw (iter-first (onto t) n i) (iter-leads n (onto t i) (λ m h. rw (← iter-first (onto t) m i) (f (suc m) (omega arith)))),
        ),
      )

  module _ (k₀ : ℕ) (v : Within t w k₀) (p : Reasons) (a : Whole t w k₀ p) where
    abbrev n : ℕ
    n = p.length

    abbrev r : ℕ
    r = p.ring

    abbrev xs : List Step
    xs = path_in p

    pub path_long : length xs ≡ n
    path_long = length-take-le n p.steps (omega (arith, a.trod.few, a.trod.size))

    pub path_task : (i : ℕ) → i < n → (get_or xs i no_step).task.0 ≡ at t w k₀ i
    path_task i h = ap (λ (s : Step). s.task.0) (get_or-take n p.steps i no_step h) ∙ a.trod.task i h

    -- a ring is within its path
    pub ring-fits : r ≤ n
    ring-fits = decide (leb r 0) (λ z. omega (arith, leb-true r 0 z)) (λ z. (a.back (leb-false r 0 z)).0)

    abbrev ys : List Step
    ys = ring_in p

    ring_long : length ys ≡ r
    ring_long = omega (arith, length-drop (n - r) xs, path_long, ring-fits)

    ring-task : (i : ℕ) → i < r → (get_or ys i no_step).task.0 ≡ at t w k₀ (n - r + i)
    ring-task i h =
        ap (λ (s : Step). s.task.0) (get_or-drop (n - r) xs i no_step) ∙ path_task (n - r + i) (omega (arith, ring-fits))

    -- with a ring the steps stay among the tasks of the path
    stay-within : 0 < r → (m : ℕ) → Within t w (at t w k₀ m)
    stay-within h m =
        decide (leb (n - r) m)
        (λ y.
        let s = stays (onto t) k₀ n r h (a.back h).0 (a.back h).1 (m - (n - r)) in
        let z : n - r + (m - (n - r)) ≡ m = omega (arith, leb-true (n - r) m y) in
        let e : at t w k₀ m ≡ at t w k₀ s.0 = ap (at t w k₀) (sym z) ∙ s.1.1.1 in
        rw e (a.trod.within s.0 s.1.1.0))
        (λ y. a.trod.within m (omega (arith, leb-false (n - r) m y)))

    module _ (j : ℕ) where
      abbrev test : Step → Bool
      test s = eqb j s.task.0

      one-or-more : (m : ℕ) → 0 < m → LeadsIn t m j j → LeadsOn t j j
      one-or-more zero h l = absurd (omega arith)
      one-or-more (suc m) h l = (m, l)

      -- a task of the ring
      in_ring : 0 < stands_in j ys → Leads t k₀ j × LeadsOn t j j
      in_ring h =
          let l = some_next test no_step 0 ys h in
          let i = next_of test 0 ys - 0 in
          let b : i < r = omega (arith, ring_long) in
          let pos : 0 < r = omega arith in
          let e : j ≡ at t w k₀ (n - r + i) = eqb-true j (get_or ys i no_step).task.0 (next-passes test no_step 0 ys l) ∙ ring-task i b in
          let f : iter (onto t) r j ≡ j = ap (iter (onto t) r) e ∙ again (onto t) k₀ n r pos (a.back pos).0 (a.back pos).1 (n - r + i) (omega arith) ∙ sym e in
          let to : LeadsIn t (n - r + i) k₀ (at t w k₀ (n - r + i)) = iter-leads (n - r + i) k₀ (λ m g. stay-within pos m) in
          let on : LeadsIn t r j (iter (onto t) r j) = iter-leads r j (λ m g. rw (e, ← iter-add (onto t) m (n - r + i) k₀) (stay-within pos (m + (n - r + i)))) in
          ((n - r + i, rw (← e) at to), one-or-more r pos (rw f at on))

      -- a task that the path leads to and that leads to itself is one of the ring
      ring-has : Leads t k₀ j → LeadsOn t j j → 0 < stands_in j ys
      ring-has to on =
          let l = leads-iter to.0 k₀ j v to.1 in
          let c : iter (onto t) (suc on.0) j ≡ j = (leads-iter (suc on.0) j j l.1 on.1).0 in
          let far : iter (onto t) (n * suc on.0 + to.0) k₀ ≡ j =
          iter-add (onto t) (n * suc on.0) to.0 k₀ ∙ ap (iter (onto t) (n * suc on.0)) l.0 ∙ rounds (onto t) (suc on.0) j n c in
          decide (leb r 0)
          (λ z. absurd (lost (leb-true r 0 z) l.1 (n * suc on.0 + to.0) (beyond n on.0 to.0) far))
          (λ z. found (leb-false r 0 z) (n * suc on.0 + to.0) (beyond n on.0 to.0) far)
        where
          beyond : (n m s : ℕ) → n ≤ n * suc m + s
          beyond n m s = let z : n * suc m ≡ n * m + n = mul-suc n m in omega arith

          -- without a ring the steps are at nobody from the path's end on
          ended : r ≡ 0 → (m : ℕ) → at t w k₀ (m + n) ≡ 0
          ended z zero = let y : 0 + n ≡ n = omega arith in ap (at t w k₀) y ∙ a.nobody z
          ended z (suc m) =
              let y : suc m + n ≡ suc (m + n) = omega arith in
              ap (at t w k₀) y ∙ iter-suc (onto t) (m + n) k₀ ∙ ap (onto t) (ended z m) ∙ onto-nobody t

          lost : r ≤ 0 → Within t w j → (m : ℕ) → n ≤ m → iter (onto t) m k₀ ≡ j → ⊥
          lost z u m h e =
              let y : m - n + n ≡ m = omega arith in
              omega (arith, sym e ∙ ap (at t w k₀) (sym y) ∙ ended (omega arith) (m - n), u.0)

          found : 0 < r → (m : ℕ) → n ≤ m → iter (onto t) m k₀ ≡ j → 0 < stands_in j ys
          found h m g e =
              let s = stays (onto t) k₀ n r h (a.back h).0 (a.back h).1 (m - (n - r)) in
              let z : n - r + (m - (n - r)) ≡ m = omega (arith, ring-fits) in
              let i = s.0 in
              let y : n - r + (i - (n - r)) ≡ i = omega (arith, s.1.0) in
              let q : at t w k₀ i ≡ j = sym s.1.1.1 ∙ ap (at t w k₀) z ∙ e in
              let b : i - (n - r) < r = omega (arith, s.1.0, s.1.1.0, ring-fits) in
              passes-some test no_step ys (i - (n - r)) (omega (arith, ring_long))
              (eq-eqb j (get_or ys (i - (n - r)) no_step).task.0 (sym (ring-task (i - (n - r)) b ∙ ap (at t w k₀) y ∙ q)))

      -- no task stands in it twice
      ring-once : stands_in j ys ≤ 1
      ring-once = few-pass test no_step ys (λ i k h l e f.
          let b : k < r = omega (arith, ring_long) in
          let c : i < r = omega arith in
          a.trod.once (n - r + i) (n - r + k) (omega arith) (omega (arith, ring-fits))
          (sym (ring-task i c) ∙ sym (eqb-true j (get_or ys i no_step).task.0 e) ∙ eqb-true j (get_or ys k no_step).task.0 f ∙ ring-task k b))

      pub ring-exactly : (stands_in j ys ≡ 1) ↔ (Leads t k₀ j × LeadsOn t j j)
      ring-exactly = (λ e. in_ring (omega arith), λ l. let h = ring-has l.0 l.1 in let g = ring-once in omega arith)

      pub ring_else : (stands_in j ys ≡ 0) ⊎ (stands_in j ys ≡ 1)
      ring_else =
          decide (leb (stands_in j ys) 0)
          (λ z. inl (let h = leb-true (stands_in j ys) 0 z in omega arith))
          (λ z. inr (let h = leb-false (stands_in j ys) 0 z in let g = ring-once in omega arith))
