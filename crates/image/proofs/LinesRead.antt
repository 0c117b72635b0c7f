-- The check of lines and subprograms where they lie: what a turn of each loop says of the loaded table.
use Prim.Native.Nat.{ℕ, zero, suc, ◌+◌, ◌-◌, ◌*◌, ◌^◌, ◌≤◌, ◌<◌, min}
use mathlib.Core.Path.{◌≡◌, refl, sym, ap, ◌∙◌}
use mathlib.Core.Bool.{Bool, true, false, not, cond, ◌&&◌}
use mathlib.Core.List.{List, []}
use native.Mathlib.Omega.{arith}
use borrow.Author.Tests.{eqb-true, eq-eqb, ne_eqb, le-leb, lt-leb, not-false}
use lib.Dec.{eqb}
use lib.Bits.{bit_or}
use lib.ListN.{length, get_or, set, replicate, take, drop}
use Rattle.executive.specs.declared.Task.{Task}
use Rattle.executive.specs.declared.Sub.{Sub}
use Rattle.executive.specs.Lists.{one, sum_of, ◌and◌, up_to, all_of}
use Rattle.executive.specs.Places.{task_at}
use Rattle.executive.specs.States.{await_sub, awaited_of, is_of, waits_for}
use Rattle.executive.specs.Flags.{is_set}
use Rattle.executive.specs.Check.{is_nobody, falls, exact_at, line_right, holder_right, sub_in_range, sub_right, held_right}
use Rattle.executive.proofs.Assured.{and_true, true_and, and_false_left, and_true_left, or-none, placeless, held_from, held_first, held-turn, held-not, held-end}
use Rattle.image.specs.Image.{line_from, sub_from, load_of}
use Rattle.image.specs.Sound.{noughts, tasks_in, subs_in, KindsKnown}
use Rattle.image.specs.Marks.{stood, passed, Marked, Waiting, Next, Walks}
use Rattle.image.proofs.Loaded.{subs-size, line-size, task-there, kind-some}
use Rattle.image.proofs.Spans.{block_at}
use Rattle.image.proofs.Noughts.{noughts-join, sub-nought}
use Rattle.image.proofs.KindsRead.{sub-there}
use Rattle.image.proofs.Marked.{marks-none, marks-next, marks-on, passed-at, sets_none, sets_one, one_same, same-marks}

-- ---- the sets of those who wait for the subprograms, from the set v of those who wait for any
module _ (s : List ℕ) (n v : ℕ) (hn : n ≤ 16) (t : Marked n v (passed (is_of await_sub) (tasks_in s))) where
  waits_as : (j : ℕ) → j < n → is_of await_sub (task_at (tasks_in s) (suc j)).state ≡ is_set v j
  waits_as j h = one_same _ _ (t.told j h)

  -- of some more, none of whom waits
  waiting-on : (a b : ℕ) (ws : List ℕ) → a ≤ b → b ≤ n → ((j : ℕ) → a ≤ j → j < b → is_set v j ≡ false) → Waiting a ws (tasks_in s) → Waiting b ws (tasks_in s)
  waiting-on a b ws h l g w =
      record {
        sized = w.sized;
        each =
            λ m k.
            marks-on a b (get_or ws m 0) (passed (waits_for m) (tasks_in s)) h (w.each m k)
            (λ j x y. ap (λ (p : Bool). one (p && eqb m (awaited_of (task_at (tasks_in s) (suc j)).state))) (waits_as j (omega arith) ∙ g j x y));
      }

  -- up to the first who waits, and from the one after k on up to the next
  pub waiting-first : (r : ℕ) → Next v 0 r → Waiting (min r n) (replicate 8 0) (tasks_in s)
  waiting-first r x = waiting-on 0 (min r n) (replicate 8 0) (omega arith) (omega arith) (λ j g l. x.skipped j g (omega arith)) (sets_none 8 waits_for (tasks_in s))

  pub waiting-next : (k r : ℕ) (ws : List ℕ) → k < n → Next v (k + 1) r → Waiting (k + 1) ws (tasks_in s) → Waiting (min r n) ws (tasks_in s)
  waiting-next k r ws h x w = waiting-on (k + 1) (min r n) ws (omega (arith, x.least)) (omega arith) (λ j g l. x.skipped j g (omega arith)) w

  -- the byte of the kind of one who waits
  pub waiting-kind : KindsKnown s n → (k : ℕ) → k < n → is_set v k ≡ true → 8 ≡ get_or s (k * 26 + 1) 0
  unfolding task_at
  waiting-kind known k h e =
      eqb-true 8 _
      (sym (ap (eqb 8) (kind-some (get_or s (k * 26 + 1) 0) _ _ _ (known k h)))
      ∙ ap (λ (x : Task). is_of await_sub x.state) (task-there s k (omega arith))
      ∙ waits_as k h
      ∙ e)

-- of one more, who waits: for what is no subprogram, or for one
module _ (s : List ℕ) (k : ℕ) (h : k < 16) (q : 8 ≡ get_or s (k * 26 + 1) 0) (ws : List ℕ) (w : Waiting k ws (tasks_in s)) where
  pub waiting-past : 8 ≤ get_or s (898 + k) 0 → Waiting (k + 1) ws (tasks_in s)
  waiting-past g =
      record {
        sized = w.sized;
        each =
            λ m l.
            marks-next k (get_or ws m 0) (passed (waits_for m) (tasks_in s)) false (w.each m l)
            (passed-at (waits_for m) (tasks_in s) k false (sym (ne_eqb m (get_or s (898 + k) 0) (λ z. omega arith)) ∙ sub-there s k h q m));
      }

  pub waiting-one : (bit : ℕ) → bit ≡ 2 ^ k → get_or s (898 + k) 0 < 8 → Waiting (k + 1) (set ws (get_or s (898 + k) 0) (bit_or (get_or ws (get_or s (898 + k) 0) 0) bit)) (tasks_in s)
  waiting-one bit b g = sets_one 8 k ws waits_for (tasks_in s) w (get_or s (898 + k) 0) bit g b (sub-there s k h q)

-- ---- the tests of a line, one after the other: r of its places are taken
both_fail : (a b x : Bool) → (a and b) ≡ false → false ≡ (a and b and x)
both_fail true b x e = and_false_left b x e
both_fail false b x e = refl

module _ (s : List ℕ) (m at r n : ℕ) (hr : r ≤ 16) (hn : n ≤ 16) where
  abbrev lined : Bool
  lined = line_right (waits_for m) (tasks_in s) n r (line_from s at)

  -- what the walk over it found
  module _ (b : Bool) (seen word : ℕ) (w : Walks (tasks_in s) n (take r (line_from s at)) b seen word) where
    pub line-wrong : b ≡ false → false ≡ lined
    line-wrong e =
        and_true_left _ _ _ (le-leb n 16 hn)
        (and_true_left _ _ _ (le-leb r 16 hr)
        (both_fail (falls (tasks_in s) n 15 (take r (line_from s at))) (up_to (exact_at (waits_for m) (tasks_in s) (take r (line_from s at))) n) (all_of is_nobody (drop r (line_from s at))) (w.bad e (waits_for m))))

    -- v is the set of those who wait
    module _ (e : b ≡ true) (v : ℕ) (k : Marked n v (passed (waits_for m) (tasks_in s))) where
      exact : (c : Bool) → eqb seen v ≡ c → up_to (exact_at (waits_for m) (tasks_in s) (take r (line_from s at))) n ≡ c
      exact c q = sym (same-marks (waits_for m) (tasks_in s) (take r (line_from s at)) n seen v (w.good e).1 k) ∙ q

      pub line_other : (seen ≡ v → ⊥) → false ≡ lined
      line_other d =
          and_true_left _ _ _ (le-leb n 16 hn)
          (and_true_left _ _ _ (le-leb r 16 hr) (and_true_left _ _ _ (w.good e).0 (and_false_left _ _ (exact false (ne_eqb seen v d)))))

      pub line-last : seen ≡ v → (c : Bool) → c ≡ all_of is_nobody (drop r (line_from s at)) → c ≡ lined
      line-last q c f =
          and_true_left _ _ _ (le-leb n 16 hn)
          (and_true_left _ _ _ (le-leb r 16 hr) (and_true_left _ _ _ (w.good e).0 (and_true_left _ _ _ (exact true (eq-eqb seen v q)) f)))

-- ---- the subprogram at a place, its tests one after the other
module _ (s : List ℕ) (at m n : ℕ) where
  abbrev kept : Bool
  kept = sub_in_range n (sub_from s at) and sub_right (tasks_in s) n m (sub_from s at)

  sized : eqb (length (line_from s (at + 2))) 16 ≡ true
  sized = eq-eqb (length (line_from s (at + 2))) 16 (line-size s (at + 2))

  pub held_out : n < get_or s at 0 → false ≡ kept
  held_out h = rw (sized, lt-leb (get_or s at 0) n h) refl

  module _ (a : get_or s at 0 ≤ n) where
    pub line-over : 16 < get_or s (at + 1) 0 → false ≡ kept
    line-over h = rw (sized, le-leb (get_or s at 0) n a, lt-leb (get_or s (at + 1) 0) 16 h) refl

    module _ (b : get_or s (at + 1) 0 ≤ 16) where
      pub held-wrong : holder_right (tasks_in s) (sub_from s at) ≡ false → false ≡ kept
      held-wrong e = and_true_left _ _ _ ranged (and_false_left _ _ e)
        where
          ranged : sub_in_range n (sub_from s at) ≡ true
          ranged = rw (sized, le-leb (get_or s at 0) n a) (le-leb (get_or s (at + 1) 0) 16 b)

      pub held-right : holder_right (tasks_in s) (sub_from s at) ≡ true → (c : Bool) → c ≡ line_right (waits_for m) (tasks_in s) n (get_or s (at + 1) 0) (line_from s (at + 2)) → c ≡ kept
      held-right e c f = and_true_left _ _ _ ranged (and_true_left _ _ _ e f)
        where
          ranged : sub_in_range n (sub_from s at) ≡ true
          ranged = rw (sized, le-leb (get_or s at 0) n a) (le-leb (get_or s (at + 1) 0) 16 b)

-- ---- all of them, one by one: subprogram m
module _ (s : List ℕ) (n m : ℕ) (h : m < 8) where
  there : get_or (subs_in s) m placeless ≡ sub_from s (914 + m * 18)
  unfolding load_of
  there = block_at (sub_from s) 18 8 914 m placeless h

  on : kept s (914 + m * 18) m n ≡ true → held_from (tasks_in s) n (subs_in s) (m + 1) ≡ held_from (tasks_in s) n (subs_in s) m
  on e = held-turn (tasks_in s) n (subs_in s) m (omega (arith, subs-size s)) (ap (λ (x : Sub). sub_in_range n x and sub_right (tasks_in s) n m x) there ∙ e)

  off : kept s (914 + m * 18) m n ≡ false → held_from (tasks_in s) n (subs_in s) m ≡ false
  off e = held-not (tasks_in s) n (subs_in s) m (omega (arith, subs-size s)) (ap (λ (x : Sub). sub_in_range n x and sub_right (tasks_in s) n m x) there ∙ e)

-- one that is free, and nobody waits for it: v is the set of those who do
free-kept : (s : List ℕ) (n : ℕ) → n ≤ 16 → (m at v : ℕ) → Marked n v (passed (waits_for m) (tasks_in s)) → (noughts s 18 at and eqb v 0) ≡ true → kept s at m n ≡ true
unfolding sum_of falls
free-kept s n hn m at v t e =
    let a = and_true (noughts s 18 at) _ e in
    let f = and_true (eqb (length (line_from s (at + 2))) 16) _ (sub-nought s at ∙ a.0) in
    let g = and_true (eqb (get_or s at 0) 0) _ f.1 in
    let w = and_true (eqb (get_or s (at + 1) 0) 0) _ g.1 in
    let x : get_or s at 0 ≡ 0 = eqb-true _ _ g.0 in
    let y : get_or s (at + 1) 0 ≡ 0 = eqb-true _ _ w.0 in
    let z : v ≡ 0 = eqb-true v 0 a.1 in
    let u : eqb 0 v ≡ up_to (exact_at (waits_for m) (tasks_in s) []) n = same-marks (waits_for m) (tasks_in s) [] n 0 v (marks-none n (stood []) (λ j. refl)) t in
    sym (held-right s at m n (omega arith) (omega arith) (rw g.0 w.0) true
    (rw y (and_true_left _ _ _ (le-leb n 16 hn) (sym (true_and (up_to (exact_at (waits_for m) (tasks_in s) []) n) _ (sym u ∙ eq-eqb 0 v (sym z)) w.1)))))

-- ---- those that are not free, as a set
abbrev pub in_use : List ℕ → List ℕ → ℕ → ℕ
in_use s ws j = one (not (noughts s 18 (914 + j * 18) and eqb (get_or ws j 0) 0))

-- sixteen bytes, the last two of them again with two more, and a set
whole-nought : (s : List ℕ) (at x y z : ℕ) → eqb x 0 ≡ noughts s 16 at → eqb y 0 ≡ noughts s 4 (at + 14) → eqb (bit_or (bit_or x y) z) 0 ≡ (noughts s 18 at and eqb z 0)
whole-nought s at x y z e f =
    let p : at + 14 + 2 ≡ at + 16 = omega arith in
    let u : noughts s 16 at ≡ cond (noughts s 14 at) (noughts s 2 (at + 14)) false = noughts-join s 14 2 at in
    let v : noughts s 4 (at + 14) ≡ cond (noughts s 2 (at + 14)) (noughts s 2 (at + 16)) false = rw p at (noughts-join s 2 2 (at + 14)) in
    let w : (eqb x 0 and eqb y 0) ≡ noughts s 18 at = rw (e, f, v, noughts-join s 16 2 at, u) (go (noughts s 14 at) (noughts s 2 (at + 14)) (noughts s 2 (at + 16))) in
    or-none (bit_or x y) z ∙ ap (λ (b : Bool). b and eqb z 0) (or-none x y ∙ w)
  where
    go : (a b c : Bool) → (cond a b false and cond b c false) ≡ cond (cond a b false) c false
    go true true c = refl
    go true false c = refl
    go false b c = refl

module _ (s ws : List ℕ) (m used : ℕ) (t : Marked m used (in_use s ws)) (x y : ℕ) (e : eqb x 0 ≡ noughts s 16 (914 + m * 18)) (f : eqb y 0 ≡ noughts s 4 (914 + m * 18 + 14)) where
  used-by : (b : Bool) → eqb (bit_or (bit_or x y) (get_or ws m 0)) 0 ≡ b → Marked (m + 1) (cond (not b) (bit_or used (2 ^ m)) used) (in_use s ws)
  used-by b q = marks-next m used (in_use s ws) (not b) t (ap (λ (z : Bool). one (not z)) (sym (whole-nought s (914 + m * 18) x y (get_or ws m 0) e f) ∙ q))

  pub used-more : (bit : ℕ) → bit ≡ 2 ^ m → (bit_or (bit_or x y) (get_or ws m 0) ≡ 0 → ⊥) → Marked (m + 1) (bit_or used bit) (in_use s ws)
  used-more bit b d = rw b (used-by false (ne_eqb _ _ d))

  pub used-not : bit_or (bit_or x y) (get_or ws m 0) ≡ 0 → Marked (m + 1) used (in_use s ws)
  used-not d = used-by true (eq-eqb _ _ d)

-- ---- those that are free keep the rule
module _ (s ws : List ℕ) (n used : ℕ) (hn : n ≤ 16) (t : Waiting n ws (tasks_in s))
    (told : (m : ℕ) → m < 8 → is_set used m ≡ not (noughts s 18 (914 + m * 18) and eqb (get_or ws m 0) 0)) where
  over-free : (a d : ℕ) → a + d ≤ 8 → ((j : ℕ) → a ≤ j → j < a + d → is_set used j ≡ false) → held_from (tasks_in s) n (subs_in s) (a + d) ≡ held_from (tasks_in s) n (subs_in s) a
  over-free a zero h g = let z : a + 0 ≡ a = omega arith in ap (held_from (tasks_in s) n (subs_in s)) z
  over-free a (suc d) h g =
      let z : a + suc d ≡ a + d + 1 = omega arith in
      let l : a + d < 8 = omega arith in
      ap (held_from (tasks_in s) n (subs_in s)) z
      ∙ on s n (a + d) l (free-kept s n hn (a + d) (914 + (a + d) * 18) (get_or ws (a + d) 0) (t.each (a + d) l) (not-false _ (sym (told (a + d) l) ∙ g (a + d) (omega arith) (omega arith))))
      ∙ over-free a d (omega arith) (λ j x y. g j x (omega arith))

  -- up to the first that is not, and from the one after m on up to the next
  pub held_start : (r : ℕ) → Next used 0 r → held_from (tasks_in s) n (subs_in s) (min r 8) ≡ held_right (tasks_in s) n (subs_in s)
  held_start r x =
      let z : 0 + min r 8 ≡ min r 8 = omega arith in
      ap (held_from (tasks_in s) n (subs_in s)) (sym z) ∙ over-free 0 (min r 8) (omega arith) (λ j g l. x.skipped j g (omega arith)) ∙ held_first (tasks_in s) n (subs_in s)

  -- c tells whether the one at m keeps the rule
  module _ (m : ℕ) (h : m < 8) (e : held_from (tasks_in s) n (subs_in s) (min m 8) ≡ held_right (tasks_in s) n (subs_in s))
      (c : Bool) (k : (j : ℕ) → Marked n (get_or ws m 0) (passed (waits_for j) (tasks_in s)) → c ≡ kept s (914 + m * 18) j n) where
    here : held_from (tasks_in s) n (subs_in s) m ≡ held_right (tasks_in s) n (subs_in s)
    here = let z : m ≡ min m 8 = omega arith in ap (held_from (tasks_in s) n (subs_in s)) z ∙ e

    pub held-off : c ≡ false → false ≡ held_right (tasks_in s) n (subs_in s)
    held-off f = sym (off s n m h (sym (k m (t.each m h)) ∙ f)) ∙ here

    pub held_next : c ≡ true → (r : ℕ) → Next used (m + 1) r → held_from (tasks_in s) n (subs_in s) (min r 8) ≡ held_right (tasks_in s) n (subs_in s)
    held_next f r x =
        let z : m + 1 + (min r 8 - (m + 1)) ≡ min r 8 = omega (arith, x.least) in
        ap (held_from (tasks_in s) n (subs_in s)) (sym z)
        ∙ over-free (m + 1) (min r 8 - (m + 1)) (omega arith) (λ j g l. x.skipped j g (omega arith))
        ∙ on s n m h (sym (k m (t.each m h)) ∙ f)
        ∙ here

-- past the last
pub held-last : (s : List ℕ) (n m : ℕ) → 8 ≤ m → held_from (tasks_in s) n (subs_in s) (min m 8) ≡ held_right (tasks_in s) n (subs_in s) → true ≡ held_right (tasks_in s) n (subs_in s)
held-last s n m h e = sym (held-end (tasks_in s) n (subs_in s) (min m 8) (omega (arith, subs-size s))) ∙ e
