-- The rule of the subprograms against its test, both ways; the loop that takes them one by one; where all are free and
-- nobody waits there is nothing to count.
use Prim.Native.Nat.{ℕ, zero, suc, ◌+◌, ◌≤◌, ◌<◌}
use mathlib.Core.Path.{◌≡◌, refl, sym, ap, ◌∙◌}
use mathlib.Core.Bool.{Bool, true, false, not, cond, ◌&&◌}
use mathlib.Core.List.{List, [], ◌∷◌}
use native.Mathlib.Omega.{arith}
use native.Mathlib.Numerals.{add-one}
use borrow.Author.Tests.{eqb-true, eq-eqb, eqb-false, leb-true, le-leb, leb-false, ltb-true, ltb-false, le-ltb}
use lib.Dec.{eqb, leb, ltb}
use lib.ListN.{length, drop, get_or, drop_of_length-le, get_or-eq_default}
use lib.Seq.{drop-cons}
use Rattle.executive.specs.declared.Task.{Task}
use Rattle.executive.specs.declared.Sub.{Sub}
use Rattle.executive.specs.declared.Table.{Table}
use Rattle.executive.specs.Numbers.{most_tasks, last_sub, highest}
use Rattle.executive.specs.Lists.{one, pad, sum_of, ◌and◌, up_to, all_of}
use Rattle.executive.specs.Places.{nobody, no_task, task_at}
use Rattle.executive.specs.Subprograms.{no_subprogram, sub_at, line_of}
use Rattle.executive.specs.States.{dormant, await_sub, awaited_of, is_of, is, is_dormant, waits_for}
use Rattle.executive.specs.WellFormed.{InRange, Line, Subprograms}
use Rattle.executive.specs.Check.{sub_in_range, is_nobody, falls, exact_at, line_right, holder_right, sub_right, subs_from, subs_right, is_free_sub, awaits_any, waits_for_none, held_right}
use Rattle.executive.proofs.Lists.Loops.{both, all-get, all_make, every_get, every_make}
use Rattle.executive.proofs.Lists.Tests.{and_true, true_and, one_none, none-one, not-of, not-zero, false_not_true}
use Rattle.executive.proofs.check.RuleByRule.{line-get, line_make}
use Rattle.executive.proofs.check.Passes.{same, at_next}

-- ---- one of them: its holder and its free line
module _ (ts : List Task) (s : Sub) where
  holder-busy : holder_right ts s ≡ true → 0 < s.holder.0 → is dormant (task_at ts s.holder.0).state ≡ 0
  holder-busy e h = none-one (is_dormant (task_at ts s.holder.0).state) (rw (not-zero s.holder.0 h) at e)

  holder-free : holder_right ts s ≡ true → s.holder.0 ≡ 0 → s.waiting ≡ 0
  holder-free e h = eqb-true _ _ (rw (eq-eqb s.holder.0 0 h) at e)

  holder_make : (0 < s.holder.0 → is dormant (task_at ts s.holder.0).state ≡ 0) → (s.holder.0 ≡ 0 → s.waiting ≡ 0) → holder_right ts s ≡ true
  holder_make b f = go (eqb s.holder.0 0) refl
    where
      go : (c : Bool) → eqb s.holder.0 0 ≡ c → cond c (eqb s.waiting 0) (not (is_dormant (task_at ts s.holder.0).state)) ≡ true
      go true e = eq-eqb _ _ (f (eqb-true _ _ e))
      go false e = one_none (is_dormant (task_at ts s.holder.0).state) (b (omega (arith, eqb-false s.holder.0 0 e)))

-- ---- from number m on: each passes at its number
module _ (ts : List Task) (n : ℕ) where
  subs-at : (m : ℕ) (ss : List Sub) → subs_from ts n m ss ≡ true → (i : ℕ) → i < length ss → sub_right ts n (m + i) (get_or ss i no_subprogram) ≡ true
  unfolding subs_from
  subs-at m [] e i h = absurd (omega arith)
  subs-at m (s ∷ ss) e zero h = let z : m + 0 ≡ m = omega arith in rw z (both (sub_right ts n m s) (subs_from ts n (suc m) ss) e).0
  subs-at m (s ∷ ss) e (suc i) h = let z : m + suc i ≡ suc m + i = omega arith in rw z (subs-at (suc m) ss (both (sub_right ts n m s) (subs_from ts n (suc m) ss) e).1 i (omega arith))

  at-subs : (m : ℕ) (ss : List Sub) → ((i : ℕ) → i < length ss → sub_right ts n (m + i) (get_or ss i no_subprogram) ≡ true) → subs_from ts n m ss ≡ true
  unfolding subs_from
  at-subs m [] h = refl
  at-subs m (s ∷ ss) h =
      let z : m + 0 ≡ m = omega arith in
      let a : sub_right ts n m s ≡ true = rw z at (h 0 (omega arith)) in
      rw a (at-subs (suc m) ss (λ i l. let y : suc m + i ≡ m + suc i = omega arith in rw y (h (suc i) (omega arith))))

-- ---- the rule
module _ (t : Table) (w : InRange t) where
  abbrev ts : List Task
  ts = t.tasks

  abbrev n : ℕ
  n = t.rest.count

  -- a number past the last is a free one's
  past-last : (m : ℕ) → ltb m 8 ≡ false → sub_at t.rest m ≡ no_subprogram
  past-last m e = get_or-eq_default t.rest.subs no_subprogram {n = m} (omega (arith, ltb-false m 8 e, w.sizes.subs))

  module _ (e : subs_from ts n 0 t.rest.subs ≡ true) where
    at_sub : (m : ℕ) → m < 8 → sub_right ts n m (sub_at t.rest m) ≡ true
    at_sub m h = let z : 0 + m ≡ m = omega arith in rw z at (subs-at ts n 0 t.rest.subs e m (omega (arith, w.sizes.subs)))

    held_at : (m : ℕ) → holder_right ts (sub_at t.rest m) ≡ true
    held_at m = go (ltb m 8) refl
      where
        go : (b : Bool) → ltb m 8 ≡ b → holder_right ts (sub_at t.rest m) ≡ true
        go true h = (and_true (holder_right ts (sub_at t.rest m)) _ (at_sub m (ltb-true m 8 h))).0
        go false h = rw (past-last m h) refl

    line_at : (m : ℕ) → m < 8 → Line (waits_for m) ts (line_of (sub_at t.rest m)) × ((sub_at t.rest m).line ≡ pad most_tasks nobody (line_of (sub_at t.rest m)))
    line_at m h = line-get (waits_for m) refl t w (sub_at t.rest m).waiting (sub_at t.rest m).line (w.sizes.lines m) (and_true (holder_right ts (sub_at t.rest m)) _ (at_sub m h)).1

    tidy-at : (m : ℕ) → (sub_at t.rest m).line ≡ pad most_tasks nobody (line_of (sub_at t.rest m))
    unfolding pad
    tidy-at m = go (ltb m 8) refl
      where
        go : (b : Bool) → ltb m 8 ≡ b → (sub_at t.rest m).line ≡ pad most_tasks nobody (line_of (sub_at t.rest m))
        go true h = (line_at m (ltb-true m 8 h)).1
        go false h = rw (past-last m h) refl

  pub subs-get : subs_right t.tasks t.rest ≡ true → Subprograms t.tasks t.rest
  unfolding subs_right
  subs-get e = record {
    busy = λ m. holder-busy ts (sub_at t.rest m) (held_at e m);
    free = λ m. holder-free ts (sub_at t.rest m) (held_at e m);
    lines = λ m h. (line_at e m h).0;
    tidy = tidy-at e;
  }

  pub subs_make : Subprograms t.tasks t.rest → subs_right t.tasks t.rest ≡ true
  unfolding subs_right
  subs_make s = at-subs ts n 0 t.rest.subs (λ m h.
      let z : 0 + m ≡ m = omega arith in
      rw z
      (true_and (holder_right ts (sub_at t.rest m)) _
      (holder_make ts (sub_at t.rest m) (s.busy m) (s.free m))
      (line_make (waits_for m) refl t w (sub_at t.rest m).waiting (sub_at t.rest m).line (w.sizes.lines m) (w.waiting m) (s.lines m (omega (arith, w.sizes.subs))) (s.tidy m))))

-- ---- the loop that takes them one by one: those from number m on. What an array reads past its end has no places in
-- its line
abbrev pub placeless : Sub
placeless = record { holder = nobody; line = []; waiting = 0 }

unfoldable pub held_from : List Task → ℕ → List Sub → ℕ → Bool
held_from ts n ss m = all_of (sub_in_range n) (drop m ss) and subs_from ts n m (drop m ss)

either-fails : (a b x y : Bool) → (a and b) ≡ false → (cond a x false and cond b y false) ≡ false
either-fails false b x y e = refl
either-fails true true x y e = false_not_true (sym e)
either-fails true false true y e = refl
either-fails true false false y e = refl

module _ (ts : List Task) (n : ℕ) (ss : List Sub) where
  pub held_first : held_from ts n ss 0 ≡ held_right ts n ss
  unfolding held_from
  held_first = refl

  module _ (m : ℕ) where
    pub held-turn : m < length ss → (sub_in_range n (get_or ss m placeless) and sub_right ts n m (get_or ss m placeless)) ≡ true → held_from ts n ss (m + 1) ≡ held_from ts n ss m
    unfolding held_from all_of subs_from
    held-turn h e =
        let a = and_true (sub_in_range n (get_or ss m placeless)) _ e in
        rw (add-one, drop-cons ss m placeless h, a.0, a.1) refl

    pub held-not : m < length ss → (sub_in_range n (get_or ss m placeless) and sub_right ts n m (get_or ss m placeless)) ≡ false → held_from ts n ss m ≡ false
    unfolding held_from all_of subs_from
    held-not h e = rw (drop-cons ss m placeless h) (either-fails (sub_in_range n (get_or ss m placeless)) (sub_right ts n m (get_or ss m placeless)) _ _ e)

    pub held-end : length ss ≤ m → held_from ts n ss m ≡ true
    unfolding held_from all_of subs_from
    held-end h = rw (drop_of_length-le ss {i = m} h) refl

-- ---- where all are free and nobody waits there is nothing to count
pub none-next : (ts : List Task) (k : ℕ) (b : Bool) → awaits_any (get_or ts k no_task).state ≡ b → waits_for_none ts (k + 1) ≡ not b
unfolding waits_for_none
none-next ts k b e = rw (at_next ts k, e) refl

-- the pass over all places, which asks those of the first n tasks alone
abbrev pub among : ℕ → ℕ → ℕ
among k n = cond (ltb k n) k n

and_yes : (a : Bool) → a ≡ (a and true)
and_yes true = refl
and_yes false = refl

and_is : (a b : Bool) → (a and b) ≡ cond a b false
and_is true b = refl
and_is false b = refl

module _ (ts : List Task) (n : ℕ) where
  pub among_none : true ≡ up_to (waits_for_none ts) (among 0 n)
  unfolding up_to
  among_none = go (ltb 0 n) refl
    where
      go : (c : Bool) → ltb 0 n ≡ c → true ≡ up_to (waits_for_none ts) (cond c 0 n)
      go true e = refl
      go false e = let z : n ≡ 0 = omega (arith, ltb-false 0 n e) in rw z refl

  pub among-turn : (k : ℕ) (a b : Bool) → a ≡ up_to (waits_for_none ts) (among k n) → b ≡ (a and not (ltb k n and awaits_any (get_or ts k no_task).state))
      → b ≡ up_to (waits_for_none ts) (among (k + 1) n)
  unfolding up_to
  among-turn k a b h e = e ∙ rw h (go (ltb k n) refl (ltb (k + 1) n) refl)
    where
      here : waits_for_none ts (suc k) ≡ not (awaits_any (get_or ts k no_task).state)
      here = ap (waits_for_none ts) (sym (add-one k)) ∙ none-next ts k _ refl

      go : (c : Bool) → ltb k n ≡ c → (d : Bool) → ltb (k + 1) n ≡ d
          → (up_to (waits_for_none ts) (cond c k n) and not (c and awaits_any (get_or ts k no_task).state)) ≡ up_to (waits_for_none ts) (cond d (k + 1) n)
      go true x true y = rw (add-one, ← here) (and_is (up_to (waits_for_none ts) k) (waits_for_none ts (suc k)))
      go true x false y = let z : n ≡ suc k = omega (arith, ltb-true k n x, ltb-false (k + 1) n y) in rw (z, ← here) (and_is (up_to (waits_for_none ts) k) (waits_for_none ts (suc k)))
      go false x true y = absurd (omega (arith, ltb-false k n x, ltb-true (k + 1) n y))
      go false x false y = sym (and_yes (up_to (waits_for_none ts) n))

  pub among-all : (k : ℕ) (a : Bool) → n ≤ k → a ≡ up_to (waits_for_none ts) (among k n) → a ≡ up_to (waits_for_none ts) n
  among-all k a h e = e ∙ rw (le-ltb k n h) refl

waits-not : (m a : ℕ) (b : Bool) → m ≤ last_sub → not (b and leb a last_sub) ≡ true → (b && eqb m a) ≡ false
waits-not m a false h e = refl
waits-not m a true h e = go (eqb m a) refl
  where
    go : (d : Bool) → eqb m a ≡ d → d ≡ false
    go true f = absurd (omega (arith, leb-false a last_sub (not-of (leb a last_sub) e), eqb-true m a f))
    go false f = refl

not-waits : (a : ℕ) (b : Bool) → (leb a last_sub ≡ true → (b && eqb a a) ≡ false) → not (b and leb a last_sub) ≡ true
not-waits a false h = refl
not-waits a true h = go (leb a last_sub) refl
  where
    go : (d : Bool) → leb a last_sub ≡ d → not d ≡ true
    go true f = false_not_true (sym (h f) ∙ eq-eqb a a refl)
    go false f = refl

-- what a free one is
record Free (s : Sub) : Type 0 where
  size : length s.line ≡ most_tasks
  holder : s.holder.0 ≡ 0
  waiting : s.waiting ≡ 0
  line : all_of is_nobody s.line ≡ true

free_of : (s : Sub) → is_free_sub s ≡ true → Free s
free_of s e =
    let a = and_true (eqb (length s.line) most_tasks) _ e in
    let b = and_true (eqb s.holder.0 0) _ a.1 in
    let d = and_true (eqb s.waiting 0) _ b.1 in
    record { size = eqb-true _ _ a.0; holder = eqb-true _ _ b.0; waiting = eqb-true _ _ d.0; line = d.1 }

module _ (ts : List Task) (n : ℕ) (hn : n ≤ 16) where
  free-ranged : (s : Sub) → Free s → sub_in_range n s ≡ true
  free-ranged s f =
      true_and (eqb (length s.line) most_tasks) _ (eq-eqb _ _ f.size)
      (true_and (leb s.holder.0 n) _ (le-leb s.holder.0 n (omega (arith, f.holder))) (le-leb s.waiting most_tasks (omega (arith, f.waiting))))

  free-kept : up_to (waits_for_none ts) n ≡ true → (m : ℕ) → m ≤ last_sub → (s : Sub) → Free s → sub_right ts n m s ≡ true
  unfolding waits_for_none exact_at sum_of falls
  free-kept u m h s f =
      true_and (holder_right ts s) _ (rw (eq-eqb _ _ f.holder) (eq-eqb _ _ f.waiting))
      (rw f.waiting
      (true_and (leb n most_tasks) _ (le-leb _ _ hn)
      (true_and (up_to (exact_at (waits_for m) ts []) n) _
      (all_make (exact_at (waits_for m) ts []) n (λ k g l. rw (waits-not m (awaited_of (task_at ts k).state) (is_of await_sub (task_at ts k).state) h (all-get (waits_for_none ts) n k u g l)) refl))
      f.line)))

  -- at its number, one that is free has nobody who waits
  none-waits : (m k : ℕ) (s : Sub) → Free s → sub_right ts n m s ≡ true → 0 < k → k ≤ n → waits_for m (task_at ts k).state ≡ false
  unfolding exact_at sum_of
  none-waits m k s f e g l =
      let a : line_right (waits_for m) ts n 0 s.line ≡ true = rw f.waiting at (and_true (holder_right ts s) _ e).1 in
      let b = and_true (leb n most_tasks) _ a in
      let c = and_true (leb 0 most_tasks) _ b.1 in
      let d = and_true (falls ts n highest []) _ c.1 in
      let u = and_true (up_to (exact_at (waits_for m) ts []) n) _ d.1 in
      let x : 0 ≡ one (waits_for m (task_at ts k).state) = eqb-true _ _ (all-get (exact_at (waits_for m) ts []) n k u.0 g l) in
      not-of _ (one_none (waits_for m (task_at ts k).state) (sym x))

  module _ (ss : List Sub) (l : length ss ≡ 8) (a : all_of is_free_sub ss ≡ true) where
    free-at : (i : ℕ) → Free (get_or ss i no_subprogram)
    unfolding pad all_of
    free-at i = free_of (get_or ss i no_subprogram) (every_get is_free_sub no_subprogram ss refl a i)

    pub free-right : up_to (waits_for_none ts) n ≡ held_right ts n ss
    unfolding waits_for_none
    free-right = same (up_to (waits_for_none ts) n) (held_right ts n ss)
        (λ u. true_and (all_of (sub_in_range n) ss) _ (every_make (sub_in_range n) no_subprogram ss (λ i. free-ranged (get_or ss i no_subprogram) (free-at i)))
        (at-subs ts n 0 ss (λ i h. let z : 0 + i ≡ i = omega arith in rw z (free-kept u i (omega arith) (get_or ss i no_subprogram) (free-at i)))))
        (λ e. all_make (waits_for_none ts) n (λ k g h.
        not-waits (awaited_of (task_at ts k).state) (is_of await_sub (task_at ts k).state) (λ z.
        let m = awaited_of (task_at ts k).state in
        let y : m < length ss = omega (arith, leb-true m last_sub z) in
        let x : 0 + m ≡ m = omega arith in
        none-waits m k (get_or ss m no_subprogram) (free-at m) (rw x at (subs-at ts n 0 ss (and_true (all_of (sub_in_range n) ss) _ e).1 m y)) g h)))

-- for the code: these, taken together
pub ruleset one_by_one = (held_first, held-turn, held-not, held-end, among_none, among-turn, among-all, free-right)
