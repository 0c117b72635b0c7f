-- The check's parts put together: the ready queue's rules from what was found of its line, and all rules from those of the
-- parts.
use Prim.Native.Nat.{ℕ, zero, suc, ◌+◌, ◌≤◌, ◌<◌}
use mathlib.Core.Path.{◌≡◌, refl, sym, ap, ap₂, ◌∙◌}
use mathlib.Core.Bool.{Bool, true, false}
use mathlib.Core.List.{List, [], ◌∷◌}
use native.Mathlib.Omega.{arith}
use borrow.Author.Tests.{eqb-true, eq-eqb, ne_eqb, leb-true, le-leb}
use lib.Dec.{eqb, leb}
use lib.ListN.{take, drop}
use Rattle.records.specs.declared.TaskNo.{TaskNo}
use Rattle.records.specs.Numbers.{number_of, part}
use Rattle.executive.specs.declared.Task.{Task}
use Rattle.executive.specs.Lists.{◌and◌, up_to, all_of}
use Rattle.executive.specs.Places.{task_at}
use Rattle.executive.specs.States.{await_start, await_end, is, is_ready}
use Rattle.executive.specs.Table.{items, levels_of}
use Rattle.executive.specs.Check.{is_nobody, falls, exact_at, line_right, queue_right, is_blank, in_bounds, alarm_right, entry_right}
use Rattle.executive.specs.WellFormed.{starts_of, ends_of, runs_of}
use Rattle.executive.specs.Check.{request_right, waiters_at, asked_right, held_right, sent_right, mail_right, in_passes, is_well_formed}
use Rattle.executive.proofs.Assured.{and_true, true_and, both, all-get, all_make, blank-is, sized}
use Rattle.image.specs.Image.{line_from, load_of}
use Rattle.image.specs.Sound.{names_other}
use Rattle.image.specs.Marks.{passed, Marked, Walks}
use Rattle.image.proofs.Alike.{decide, never}
use Rattle.image.proofs.Loaded.{tasks-size, queue-size, alarms-size, pool-size, subs-size, messages-size, mail-size}
use Rattle.image.proofs.Marked.{same-marks}

-- ---- the ready queue of any bytes: n the count, r how many are ready
module _ (s : List ℕ) where
  abbrev ts : List Task
  ts = (load_of s).tasks

  abbrev standing : ℕ → List TaskNo
  standing r = take r (line_from s 416)

  -- the tests on the line, and on the word of levels
  abbrev in_order : ℕ → ℕ → Bool
  in_order n r = line_right is_ready ts n r (line_from s 416)

  abbrev is_lit : ℕ → Bool
  is_lit r = eqb (number_of (part 2 896 s)) (levels_of (items ts (standing r)))

  queue-is : queue_right (load_of s) ≡ (in_order (load_of s).rest.count (load_of s).ready and is_lit (load_of s).ready)
  unfolding queue_right load_of
  queue-is = ap (λ (z : Bool). (z and in_order (load_of s).rest.count (load_of s).ready) and is_lit (load_of s).ready) (eq-eqb _ 16 (queue-size s))

  module _ (n r : ℕ) (en : n ≡ (load_of s).rest.count) (er : r ≡ (load_of s).ready) where
    queue-by : queue_right (load_of s) ≡ (in_order n r and is_lit r)
    queue-by = queue-is ∙ sym (ap₂ (λ (x y : ℕ). in_order x y and is_lit y) en er)

    -- what is so of a right one
    record Right : Type 0 where
      pub many : n ≤ 16
      pub long : r ≤ 16
      pub falling : falls ts n 15 (standing r) ≡ true
      pub exact : up_to (exact_at is_ready ts (standing r)) n ≡ true
      pub lit : number_of (part 2 896 s) ≡ levels_of (items ts (standing r))

    right-get : (in_order n r and is_lit r) ≡ true → Right
    right-get e =
        let a = and_true (in_order n r) (is_lit r) e in
        let b = and_true (leb n 16) _ a.0 in
        let d = and_true (leb r 16) _ b.1 in
        let f = and_true (falls ts n 15 (standing r)) _ d.1 in
        let g = and_true (up_to (exact_at is_ready ts (standing r)) n) _ f.1 in
        record { many = leb-true n 16 b.0; long = leb-true r 16 d.0; falling = f.0; exact = g.0; lit = eqb-true _ _ a.1 }

    not_right : (Right → ⊥) → false ≡ queue_right (load_of s)
    not_right h = sym (queue-by ∙ decide (in_order n r and is_lit r) (λ e. absurd (h (right-get e))) (λ e. e))

    pub queue-many : 16 < n → false ≡ queue_right (load_of s)
    queue-many h = not_right (λ w. omega (arith, w.many))

    pub queue_long : 16 < r → false ≡ queue_right (load_of s)
    queue_long h = not_right (λ w. omega (arith, w.long))

    -- what the walk over it found
    module _ (b : Bool) (seen word : ℕ) (w : Walks ts n (standing r) b seen word) where
      pub queue-wrong : b ≡ false → false ≡ queue_right (load_of s)
      queue-wrong e = not_right (λ z. never (sym (w.bad e is_ready) ∙ true_and (falls ts n 15 (standing r)) _ z.falling z.exact))

      module _ (e : b ≡ true) where
        pub queue_unlit : (v : ℕ) → v ≡ number_of (part 2 896 s) → (word ≡ v → ⊥) → false ≡ queue_right (load_of s)
        queue_unlit v g h = not_right (λ z. h ((w.good e).2 ∙ sym z.lit ∙ sym g))

        exact-by : (v : ℕ) → Marked n v (passed is_ready ts) → eqb seen v ≡ up_to (exact_at is_ready ts (standing r)) n
        exact-by v m = same-marks is_ready ts (standing r) n seen v (w.good e).1 m

        pub queue-other : (v : ℕ) → Marked n v (passed is_ready ts) → (seen ≡ v → ⊥) → false ≡ queue_right (load_of s)
        queue-other v m h = not_right (λ z. never (sym (ne_eqb seen v h) ∙ exact-by v m ∙ z.exact))

        pub queue-last : n ≤ 16 → r ≤ 16 → (v x : ℕ) → v ≡ number_of (part 2 896 s) → word ≡ v → Marked n x (passed is_ready ts) → seen ≡ x
            → (a : Bool) → a ≡ all_of is_nobody (drop r (line_from s 416)) → a ≡ queue_right (load_of s)
        queue-last hn hr v x g h m q a f =
            let i : eqb (number_of (part 2 896 s)) (levels_of (items ts (standing r))) ≡ true = eq-eqb _ _ (sym g ∙ sym h ∙ (w.good e).2) in
            let j : up_to (exact_at is_ready ts (standing r)) n ≡ true = sym (exact-by x m) ∙ eq-eqb seen x q in
            sym (queue-by ∙ rw (le-leb n 16 hn, le-leb r 16 hr, (w.good e).0, j, i, ← f) (last a))
          where
            last : (a : Bool) → (a and true) ≡ a
            last true = refl
            last false = refl

-- ---- the whole
-- a test that passes everywhere passes on the first n, and on both parts of a list it passes everywhere
module _ {A : Type 0} (f : A → Bool) where
  all_first : (n : ℕ) (xs : List A) → all_of f xs ≡ true → all_of f (take n xs) ≡ true
  unfolding all_of
  all_first zero xs e = refl
  all_first (suc n) [] e = refl
  all_first (suc n) (x ∷ xs) e = let p = both (f x) (all_of f xs) e in rw p.0 (all_first n xs p.1)

  all-parts : (n : ℕ) (xs : List A) → all_of f (take n xs) ≡ true → all_of f (drop n xs) ≡ true → all_of f xs ≡ true
  unfolding all_of
  all-parts zero xs a b = b
  all-parts (suc n) [] a b = refl
  all-parts (suc n) (x ∷ xs) a b = let p = both (f x) (all_of f (take n xs)) a in rw p.0 (all-parts n xs p.1 b)

  -- and so does a test that a stronger one passes
  all_weaker : (g : A → Bool) → ((x : A) → f x ≡ true → g x ≡ true) → (xs : List A) → all_of f xs ≡ true → all_of g xs ≡ true
  unfolding all_of
  all_weaker g h [] e = refl
  all_weaker g h (x ∷ xs) e = let p = both (f x) (all_of f xs) e in rw (h x p.0) (all_weaker g h xs p.1)

-- a blank entry keeps the rules on one entry
blank-right : (n c fs : ℕ) (e : Task) → is_blank e ≡ true → entry_right n c fs e ≡ true
blank-right n c fs e h = ap (entry_right n c fs) (blank-is e h) ∙ rw (le-leb 0 n (omega arith), le-leb 0 c (omega arith)) refl

module _ (s : List ℕ) where
  -- the tests that are left when the lists come
  abbrev lists_right : ℕ → ℕ → ℕ → Bool
  lists_right k m n =
      asked_right (load_of s).tasks n k (load_of s).rest.pool
      and held_right (load_of s).tasks n (load_of s).rest.subs
      and sent_right (load_of s).tasks n m (load_of s).rest.messages
      and mail_right (load_of s).tasks n (load_of s).rest.mail

  sound-is : is_well_formed (load_of s) ≡ (queue_right (load_of s) and in_passes (load_of s).tasks (load_of s).rest)
  unfolding is_well_formed
  sound-is =
      ap (λ (x : Bool). queue_right (load_of s) and x)
      (sym (sized (load_of s).tasks (load_of s).rest {b = in_passes (load_of s).tasks (load_of s).rest} (tasks-size s) (alarms-size s) (pool-size s) (subs-size s) (messages-size s) (mail-size s) refl))

  -- the numbers as they were read
  module _ (n g c k fs m : ℕ) (en : n ≡ (load_of s).rest.count) (eg : g ≡ (load_of s).rest.granule) (ec : c ≡ (load_of s).rest.clock.0) (ek : k ≡ (load_of s).rest.queued) (ef : fs ≡ (load_of s).rest.flags) (em : m ≡ (load_of s).rest.sent) where
    abbrev bounded : Bool
    bounded = in_bounds n g (record { 0 = c }) k

    passes-are : in_passes (load_of s).tasks (load_of s).rest ≡ (bounded and all_of (entry_right n c fs) (load_of s).tasks and all_of is_blank (drop n (load_of s).tasks) and all_of (alarm_right c) (load_of s).rest.alarms and lists_right k m n)
    unfolding in_passes
    passes-are = rw (en, eg, ec, ek, ef, em) refl

    -- what is so of a sound one
    pub record Sound : Type 0 where
      pub bounds : bounded ≡ true
      pub entries : all_of (entry_right n c fs) (take n (load_of s).tasks) ≡ true
      pub blanks : all_of is_blank (drop n (load_of s).tasks) ≡ true
      pub alarms : all_of (alarm_right c) (load_of s).rest.alarms ≡ true
      pub queue : queue_right (load_of s) ≡ true

    pub sound-get : is_well_formed (load_of s) ≡ true → Sound
    sound-get e =
        let a = and_true (queue_right (load_of s)) _ (sym sound-is ∙ e) in
        let b = and_true bounded _ (sym passes-are ∙ a.1) in
        let d = and_true (all_of (entry_right n c fs) (load_of s).tasks) _ b.1 in
        let f = and_true (all_of is_blank (drop n (load_of s).tasks)) _ d.1 in
        let h = and_true (all_of (alarm_right c) (load_of s).rest.alarms) _ f.1 in
        record { bounds = b.0; entries = all_first (entry_right n c fs) n (load_of s).tasks d.0; blanks = f.0; alarms = h.0; queue = a.0 }

    -- and no run names itself
    pub named-others : is_well_formed (load_of s) ≡ true → up_to (names_other (load_of s).tasks) n ≡ true
    unfolding waiters_at
    named-others e =
        let a = and_true (queue_right (load_of s)) _ (sym sound-is ∙ e) in
        let b = and_true bounded _ (sym passes-are ∙ a.1) in
        let d = and_true (all_of (entry_right n c fs) (load_of s).tasks) _ b.1 in
        let f = and_true (all_of is_blank (drop n (load_of s).tasks)) _ d.1 in
        let h = and_true (all_of (alarm_right c) (load_of s).rest.alarms) _ f.1 in
        let l = and_true (asked_right (load_of s).tasks n k (load_of s).rest.pool) _ h.1 in
        let r = and_true (all_of (request_right (load_of s).tasks n) (take k (load_of s).rest.pool)) _ l.0 in
        let w = and_true (up_to (waiters_at (load_of s).tasks (take k (load_of s).rest.pool)) n) _ r.1 in
        all_make (names_other (load_of s).tasks) n
        (λ j g m.
        let x = all-get (waiters_at (load_of s).tasks (take k (load_of s).rest.pool)) n j w.0 g m in
        let y = and_true (eqb (starts_of j (take k (load_of s).rest.pool)) (is await_start (task_at (load_of s).tasks j).state)) _ x in
        (and_true (eqb (ends_of j (take k (load_of s).rest.pool) + runs_of j (load_of s).tasks) (is await_end (task_at (load_of s).tasks j).state)) _ y.1).1)

    pub sound-last : Sound → (r : Bool) → r ≡ lists_right k m n → r ≡ is_well_formed (load_of s)
    sound-last z r e =
        let a : all_of (entry_right n c fs) (load_of s).tasks ≡ true =
        all-parts (entry_right n c fs) n (load_of s).tasks z.entries (all_weaker is_blank (entry_right n c fs) (blank-right n c fs) (drop n (load_of s).tasks) z.blanks) in
        e ∙ sym (sound-is ∙ rw z.queue (passes-are ∙ rw (z.bounds, a, z.blanks, z.alarms) refl))
