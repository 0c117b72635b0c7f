-- What the check in place reads of one entry, held to the rules on one entry and to the numbers of the state that they make; and
-- what it reads of the alarms.
use Prim.Native.Nat.{ℕ, suc, ◌+◌, ◌*◌, ◌^◌, ◌≤◌, ◌<◌}
use mathlib.Core.Path.{◌≡◌, refl, sym, ap, ◌∙◌}
use mathlib.Core.Bool.{Bool, true, false, not, cond}
use mathlib.Core.List.{List}
use native.Mathlib.Omega.{arith}
use native.Mathlib.Numerals.{add-one}
use borrow.Author.Tests.{eqb-true, eqb-false, leb-true, le-leb, lt-leb, eq-eqb, ne_eqb}
use lib.Dec.{eqb, leb}
use lib.Bits.{bit_or, and_le_l, and_le_r, or_lt, or_add_and}
use lib.ListN.{get_or, drop}
use Rattle.records.specs.Numbers.{number_of, part}
use Rattle.executive.specs.declared.Millis.{Millis}
use Rattle.executive.specs.declared.State.{State}
use Rattle.executive.specs.declared.Task.{Task}
use Rattle.executive.specs.Lists.{one, ◌and◌, all_of}
use Rattle.executive.specs.Places.{never, no_task, task_at}
use Rattle.executive.specs.States.{state_of, is_dormant}
use Rattle.executive.specs.Flags.{is_set}
use Rattle.executive.specs.Check.{awaits_in_range, is_timely, is_unmet, is_zero, is_blank, dormant_entry_right, entry_right, is_stored, alarm_right}
use Rattle.executive.proofs.Assured.{and_false_left, and_false_right, and_true_left, eqb_self, or-none}
use Rattle.image.specs.Image.{state_in, load_of}
use Rattle.image.specs.Coding.{are_of, is_code}
use Rattle.image.specs.Sound.{noughts, fields_right, state_right, code_at, sound_at}
use Rattle.image.specs.Marks.{Marked, Running}
use Rattle.image.proofs.Alike.{decide}
use Rattle.image.proofs.Noughts.{cond-and, or-noughts, number-nought, two-nought, more-nought, noughts-join, byte-nought}
use Rattle.image.proofs.Loaded.{task-there, level-there, no_kind_lem, alarm-there, alarms-size, read-turn, read-not}
use Rattle.image.proofs.KindsRead.{is-kind}
use Rattle.image.proofs.Marked.{marks-next, one_same}

-- ---- tests: one that passes behind another, and one that is turned twice, change nothing
pub with_true : (b : Bool) → b ≡ (b and true)
with_true true = refl
with_true false = refl

pub twice-not : (b : Bool) → b ≡ not (not b)
twice-not true = refl
twice-not false = refl

-- the rules on one entry in the order in which they are read
reordered : (o p a w t s u d : Bool) → ((o and p and w and s) and (a and t and u) and d) ≡ (((o and p and a) and w) and t and s and u and d)
reordered false p a w t s u d = refl
reordered true false a w t s u d = refl
reordered true true false false t s u d = refl
reordered true true true false t s u d = refl
reordered true true false true t false u d = refl
reordered true true false true t true u d = refl
reordered true true true true false false u d = refl
reordered true true true true false true u d = refl
reordered true true true true true false u d = refl
reordered true true true true true true u d = refl

-- the same with whom the run names, and with the code of the state
shuffled : (f n c x : Bool) → ((f and n) and c and x) ≡ (c and (f and x) and n)
shuffled false n true x = refl
shuffled false n false x = refl
shuffled true true true true = refl
shuffled true true true false = refl
shuffled true false true true = refl
shuffled true false true false = refl
shuffled true true false x = refl
shuffled true false false x = refl

-- one test before another
later : (a b z : Bool) → ((a and b) and z) ≡ ((a and z) and b)
later true true true = refl
later true true false = refl
later true false true = refl
later true false false = refl
later false b z = refl

gathered : (x a o z : Bool) → ((x and a) and o and z) ≡ ((o and x and z) and a)
gathered true true true true = refl
gathered true true true false = refl
gathered true false true true = refl
gathered true false true false = refl
gathered true true false z = refl
gathered true false false z = refl
gathered false a true z = refl
gathered false a false z = refl

neither : (c o a : Bool) → (c and false) ≡ ((o and false) and a)
neither true true a = refl
neither true false a = refl
neither false true a = refl
neither false false a = refl

-- ---- the fields of an entry: two levels put together are low where both are
or-low : (o p : ℕ) → bit_or o p ≤ 15 → (o ≤ 15) × (p ≤ 15)
or-low o p h =
    let a = or_add_and o p in
    let b = and_le_l o p in
    let d = and_le_r o p in
    (omega arith, omega arith)

pub levels-high : (o p : ℕ) (x y : Bool) → 15 < bit_or o p → false ≡ ((leb o 15 and leb p 15 and x) and y)
levels-high o p x y h =
    decide (leb o 15)
    (λ a.
    decide (leb p 15)
    (λ b. absurd (omega (arith, h, or_lt 4 o p (omega (arith, leb-true o 15 a)) (omega (arith, leb-true p 15 b)))))
    (λ b. rw (a, b) refl))
    (λ a. rw a refl)

-- those of task k of n tasks at the clock c: its waiter w, its last scheduled start s
module _ (k n c o p w s : ℕ) (h : bit_or o p ≤ 15) where
  pub waiter-high : n < w → false ≡ (fields_right n c o p w s and not (eqb k w))
  waiter-high l = let z = or-low o p h in rw (le-leb o 15 z.0, le-leb p 15 z.1, lt-leb w n l) refl

  pub waiter-own : k ≡ w → false ≡ (fields_right n c o p w s and not (eqb k w))
  waiter-own e = and_false_right (fields_right n c o p w s) _ (sym (ap not (eq-eqb k w e)))

  pub waiter-other : w ≤ n → (k ≡ w → ⊥) → leb s c ≡ (fields_right n c o p w s and not (eqb k w))
  waiter-other l d = let z = or-low o p h in rw (le-leb o 15 z.0, le-leb p 15 z.1, le-leb w n l, ne_eqb k w d) (with_true (leb s c))

-- ---- bytes that are zero, as x tells, and one more, read as y
pub with_byte : (x y b : ℕ) (z : Bool) → eqb x 0 ≡ z → y ≡ b → eqb (bit_or x y) 0 ≡ (z and eqb b 0)
with_byte x y b z e q = or-none x y ∙ (λ j. e j and eqb (q j) 0)

pub two_dozen : (s : List ℕ) (at x y w b : ℕ) → eqb x 0 ≡ noughts s 12 (at + 2) → eqb y 0 ≡ noughts s 12 (at + 14) → w ≡ b → eqb (bit_or (bit_or x y) w) 0 ≡ (noughts s 24 (at + 2) and eqb b 0)
two_dozen s at x y w b e f q =
    let z : at + 14 ≡ at + 2 + 12 = omega arith in
    with_byte (bit_or x y) w b _ (or-noughts s 12 12 (at + 2) x y e (f ∙ ap (noughts s 12) z)) q

-- ---- zero on either side
zero-first : (x : ℕ) → eqb 0 x ≡ eqb x 0
zero-first x =
    decide (eqb x 0)
    (λ q. eq-eqb 0 x (sym (eqb-true x 0 q)) ∙ sym q)
    (λ q. ne_eqb 0 x (λ z. eqb-false x 0 q (sym z)) ∙ sym q)

-- ---- a time t, a mask m and a number a that are zero, but for one that the state has
module _ (t m a : ℕ) where
  none-zero : cond (eqb 0 t) (cond (eqb 0 m) (eqb 0 a) false) false ≡ ((eqb t 0 and eqb m 0) and eqb a 0)
  none-zero = rw (zero-first t, zero-first m, zero-first a) (go (eqb t 0) (eqb m 0) (eqb a 0))
    where
      go : (x y z : Bool) → cond x (cond y z false) false ≡ ((x and y) and z)
      go true true z = refl
      go true false z = refl
      go false y z = refl

  but_time : cond (eqb t t) (cond (eqb 0 m) (eqb 0 a) false) false ≡ (eqb m 0 and eqb a 0)
  but_time = rw (eqb_self t, zero-first m, zero-first a) (cond-and (eqb m 0) (eqb a 0))

  but_mask : cond (eqb 0 t) (cond (eqb m m) (eqb 0 a) false) false ≡ (eqb t 0 and eqb a 0)
  but_mask = rw (eqb_self m, zero-first t, zero-first a) (cond-and (eqb t 0) (eqb a 0))

  but_number : cond (eqb 0 t) (cond (eqb 0 m) (eqb a a) false) false ≡ (eqb t 0 and eqb m 0)
  but_number = rw (eqb_self a, zero-first t, zero-first m) (go (eqb t 0) (eqb m 0))
    where
      go : (x y : Bool) → cond x (cond y true false) false ≡ (x and y)
      go true true = refl
      go true false = refl
      go false y = refl

-- ---- the i-th entry; its own priority, its state's kind, its priority, its waiter and the number that its state waits for are
-- read as bytes
module _ (s : List ℕ) (i : ℕ) (h : i < 16) where
  abbrev e : Task
  e = get_or (load_of s).tasks i no_task

  abbrev o : ℕ
  o = get_or s (i * 26) 0

  abbrev k : ℕ
  k = get_or s (i * 26 + 1) 0

  abbrev p : ℕ
  p = get_or s (i * 26 + 14) 0

  abbrev w : ℕ
  w = get_or s (i * 26 + 25) 0

  abbrev number : ℕ
  number = get_or s (898 + i) 0

  abbrev time : ℕ
  time = number_of (part 8 (i * 26 + 2) s)

  abbrev mask : ℕ
  mask = number_of (part 4 (i * 26 + 10) s)

  own_is : o ≡ e.own
  own_is = ap (λ (x : Task). x.own) (task-there s i h)

  level-is : p ≡ e.priority
  level-is = level-there s i h (i * 26 + 14) refl

  waiter-is : w ≡ e.end_waiter.0
  waiter-is =
      let z : i * 26 + 25 ≡ i * 26 + 1 + 1 + 8 + 4 + 1 + 2 + 8 = omega arith in
      ap (λ (y : ℕ). get_or s y 0) z ∙ ap (λ (x : Task). x.end_waiter.0) (task-there s i h)

  start_is : number_of (part 8 (i * 26 + 17) s) ≡ e.start.0
  start_is =
      let z : i * 26 + 17 ≡ i * 26 + 1 + 1 + 8 + 4 + 1 + 2 = omega arith in
      ap (λ (y : ℕ). number_of (part 8 y s)) z ∙ ap (λ (x : Task). x.start.0) (task-there s i h)

  state-is : state_in k (record { 0 = time }) mask number ≡ e.state
  state-is =
      let y : i * 26 + 2 ≡ i * 26 + 1 + 1 = omega arith in
      let z : i * 26 + 10 ≡ i * 26 + 1 + 1 + 8 = omega arith in
      let f : time ≡ number_of (part 8 (i * 26 + 1 + 1) s) = ap (λ (x : ℕ). number_of (part 8 x s)) y in
      let g : mask ≡ number_of (part 4 (i * 26 + 1 + 1 + 8) s) = ap (λ (x : ℕ). number_of (part 4 x s)) z in
      let q : state_in k (record { 0 = time }) mask number ≡ state_in k (record { 0 = number_of (part 8 (i * 26 + 1 + 1) s) }) (number_of (part 4 (i * 26 + 1 + 1 + 8) s)) number =
      λ j. state_in k (record { 0 = f j }) (g j) number in
      q ∙ ap (λ (x : Task). x.state) (task-there s i h)

  -- ---- its time and its mask are zero; all of the run's numbers are: as bytes
  wait_zero : (eqb time 0 and eqb mask 0) ≡ noughts s 12 (i * 26 + 2)
  wait_zero =
      let z : i * 26 + 10 ≡ i * 26 + 2 + 8 = omega arith in
      ap (λ (x : ℕ). eqb time 0 and eqb (number_of (part 4 x s)) 0) z ∙ two-nought s 8 4 (i * 26 + 2)

  run-zero : is_zero e ≡ noughts s 12 (i * 26 + 14)
  run-zero =
      let at : ℕ = i * 26 + 1 + 1 + 8 + 4 in
      let z : i * 26 + 1 + 1 + 8 + 4 ≡ i * 26 + 14 = omega arith in
      ap is_zero (sym (task-there s i h)) ∙ more-nought s 1 11 at (more-nought s 2 9 (at + 1) (two-nought s 8 1 (at + 1 + 2))) ∙ ap (noughts s 12) z

  two_spans : noughts s 24 (i * 26 + 2) ≡ (noughts s 12 (i * 26 + 2) and noughts s 12 (i * 26 + 14))
  two_spans =
      let z : i * 26 + 2 + 12 ≡ i * 26 + 14 = omega arith in
      noughts-join s 12 12 (i * 26 + 2) ∙ cond-and (noughts s 12 (i * 26 + 2)) (noughts s 12 (i * 26 + 2 + 12)) ∙ ap (λ (x : ℕ). noughts s 12 (i * 26 + 2) and noughts s 12 x) z

  -- ---- the code of a state that has no time, no mask and no number; but a time; but a mask; but a number
  pub code_none : cond (eqb 0 time) (cond (eqb 0 mask) (eqb 0 number) false) false ≡ (noughts s 12 (i * 26 + 2) and eqb number 0)
  code_none = none-zero time mask number ∙ ap (λ (x : Bool). x and eqb number 0) wait_zero

  pub code_time : cond (eqb time time) (cond (eqb 0 mask) (eqb 0 number) false) false ≡ (noughts s 4 (i * 26 + 10) and eqb number 0)
  code_time = but_time time mask number ∙ ap (λ (x : Bool). x and eqb number 0) (number-nought s 4 (i * 26 + 10))

  pub code_mask : cond (eqb 0 time) (cond (eqb mask mask) (eqb 0 number) false) false ≡ (noughts s 8 (i * 26 + 2) and eqb number 0)
  code_mask = but_mask time mask number ∙ ap (λ (x : Bool). x and eqb number 0) (number-nought s 8 (i * 26 + 2))

  pub code_number : cond (eqb 0 time) (cond (eqb 0 mask) (eqb number number) false) false ≡ noughts s 12 (i * 26 + 2)
  code_number = but_number time mask number ∙ wait_zero

  -- ---- it is blank, and its numbers are those of the state that they make: all its bytes are zero
  dormant-is : is_dormant e.state ≡ eqb 0 k
  dormant-is = ap is_dormant (sym state-is) ∙ is-kind (record { 0 = time }) mask number 0 k (omega arith) (λ z. omega arith)

  entry-bytes : noughts s 26 (i * 26) ≡ (eqb o 0 and eqb k 0 and noughts s 12 (i * 26 + 2) and noughts s 12 (i * 26 + 14))
  entry-bytes =
      let y : i * 26 + 1 + 1 ≡ i * 26 + 2 = omega arith in
      more s 25 (i * 26)
      ∙ ap (λ (x : Bool). eqb o 0 and x)
      (more s 24 (i * 26 + 1) ∙ ap (λ (x : Bool). eqb k 0 and x) (ap (noughts s 24) y ∙ two_spans))
    where
      more : (s : List ℕ) (n at : ℕ) → noughts s (1 + n) at ≡ (eqb (get_or s at 0) 0 and noughts s n (at + 1))
      more s n at = noughts-join s 1 n at ∙ cond-and (noughts s 1 at) (noughts s n (at + 1)) ∙ ap (λ (x : Bool). x and noughts s n (at + 1)) (byte-nought s at)

  pub blank-there : (code_at s i and is_blank e) ≡ (noughts s 26 (i * 26) and eqb number 0)
  unfolding state_in state_of are_of
  blank-there =
      (λ j. code_at s i and dormant-is j and eqb (sym own_is j) 0 and run-zero j)
      ∙ decide (eqb 0 k)
      (λ q.
      let code : code_at s i ≡ (noughts s 12 (i * 26 + 2) and eqb number 0) =
      ap (λ (x : ℕ). is_code x (record { 0 = time }) mask number) (sym (eqb-true 0 k q)) ∙ code_none in
      let r : eqb k 0 ≡ true = sym (zero-first k) ∙ q in
      (λ j. code j and q j and eqb o 0 and noughts s 12 (i * 26 + 14))
      ∙ gathered (noughts s 12 (i * 26 + 2)) (eqb number 0) (eqb o 0) (noughts s 12 (i * 26 + 14))
      ∙ (λ j. (eqb o 0 and sym r j and noughts s 12 (i * 26 + 2) and noughts s 12 (i * 26 + 14)) and eqb number 0))
      (λ q.
      let r : eqb k 0 ≡ false = sym (zero-first k) ∙ q in
      (λ j. code_at s i and q j and eqb o 0 and noughts s 12 (i * 26 + 14))
      ∙ neither (code_at s i) (eqb o 0) (eqb number 0)
      ∙ (λ j. (eqb o 0 and sym r j and noughts s 12 (i * 26 + 2) and noughts s 12 (i * 26 + 14)) and eqb number 0))
      ∙ ap (λ (x : Bool). x and eqb number 0) (sym entry-bytes)

  -- ---- whether its state keeps the rules, of n tasks, at the clock c with the flags fs, and is coded as it should be
  module _ (n c fs : ℕ) where
    abbrev state : Bool
    state = state_right n c fs e.state

    abbrev coded : Bool
    coded = code_at s i and state and dormant_entry_right e

    abbrev made : ℕ → State
    made j = state_in j (record { 0 = time }) mask number

    abbrev of-kind : ℕ → Bool
    of-kind j = is_code j (record { 0 = time }) mask number and state_right n c fs (made j) and cond (is_dormant (made j)) (is_zero e) true

    by_kind : (j : ℕ) → k ≡ j → of-kind j ≡ coded
    by_kind j q = ap of-kind (sym q) ∙ ap (λ (x : State). code_at s i and state_right n c fs x and cond (is_dormant x) (is_zero e) true) state-is

    -- of the kind j, which is not dormant: z is its code, x its rule
    module _ (j : ℕ) (z x : Bool) (q : k ≡ j) (ez : is_code j (record { 0 = time }) mask number ≡ z) (ex : state_right n c fs (made j) ≡ x) (ed : is_dormant (made j) ≡ false) where
      pub at-kind : (z and x) ≡ coded
      at-kind = ap (λ (y : Bool). z and y) (with_true x) ∙ sym (λ l. ez l and ex l and cond (ed l) (is_zero e) true) ∙ by_kind j q

      -- the code is not as it should be; it is, and the rule decides
      pub kind-not : (r : Bool) → r ≡ z → r ≡ false → r ≡ coded
      kind-not r a b = b ∙ and_false_left z x (sym a ∙ b) ∙ at-kind

      pub kind_so : (r : Bool) → r ≡ z → r ≡ true → (y : Bool) → y ≡ x → y ≡ coded
      kind_so r a b y d = and_true_left z x y (sym a ∙ b) d ∙ at-kind

    pub at-dormant : k ≡ 0 → (noughts s 24 (i * 26 + 2) and eqb number 0) ≡ coded
    unfolding state_in state_of are_of
    at-dormant q =
        ap (λ (x : Bool). x and eqb number 0) two_spans
        ∙ later (noughts s 12 (i * 26 + 2)) (noughts s 12 (i * 26 + 14)) (eqb number 0)
        ∙ sym (λ l. code_none l and run-zero l)
        ∙ by_kind 0 q

    pub at-no-kind : 9 < k → false ≡ coded
    at-no-kind l =
        and_false_right (code_at s i) _
        (and_false_left state _ (ap (state_right n c fs) (sym state-is ∙ no_kind_lem k (record { 0 = time }) mask number l)))

    -- ---- whether the whole entry is as it should be; b is its last scheduled start
    module _ (b : ℕ) (eb : b ≡ number_of (part 8 (i * 26 + 17) s)) where
      abbrev fields : Bool
      fields = fields_right n c e.own e.priority e.end_waiter.0 e.start.0

      abbrev other : Bool
      other = not (eqb (suc i) e.end_waiter.0)

      in_parts : (fields and state and dormant_entry_right e) ≡ entry_right n c fs e
      in_parts =
          reordered (leb e.own 15) (leb e.priority 15) (awaits_in_range n e.state) (leb e.end_waiter.0 n) (is_timely c e.state)
          (leb e.start.0 c) (is_unmet fs e.state) (dormant_entry_right e)

      whole : ((fields_right n c o p w b and not (eqb (i + 1) w)) and coded) ≡ sound_at s n c fs i
      unfolding task_at
      whole =
          let g = eb ∙ start_is in
          let a : (fields_right n c o p w b and not (eqb (i + 1) w)) ≡ (fields and other) =
          λ j. fields_right n c (own_is j) (level-is j) (waiter-is j) (g j) and not (eqb (add-one i j) (waiter-is j)) in
          ap (λ (x : Bool). x and coded) a
          ∙ shuffled fields other (code_at s i) (state and dormant_entry_right e)
          ∙ ap (λ (x : Bool). code_at s i and x and other) in_parts

      pub sound-not : (fields_right n c o p w b and not (eqb (i + 1) w)) ≡ false → false ≡ sound_at s n c fs i
      sound-not f = and_false_left (fields_right n c o p w b and not (eqb (i + 1) w)) _ f ∙ whole

      pub sound_so : (fields_right n c o p w b and not (eqb (i + 1) w)) ≡ true → (r : Bool) → r ≡ coded → r ≡ sound_at s n c fs i
      sound_so f r d = and_true_left (fields_right n c o p w b and not (eqb (i + 1) w)) _ r f d ∙ whole

-- ---- the alarms: whether alarm j is running
abbrev pub runs : List ℕ → ℕ → ℕ
runs s j = one (not (eqb (get_or (load_of s).rest.alarms j never).0 0))

-- alarm i, at the clock c: x tells whether its bytes are zero
module _ (s : List ℕ) (c i : ℕ) (h : i < 32) (x : ℕ) (g : eqb x 0 ≡ noughts s 8 (448 + i * 8)) where
  abbrev alarm : Millis
  alarm = get_or (load_of s).rest.alarms i never

  alarm-is : number_of (part 8 (448 + i * 8) s) ≡ alarm.0
  alarm-is = ap (λ (a : Millis). a.0) (alarm-there s i (448 + i * 8) h refl)

  rests : eqb alarm.0 0 ≡ eqb x 0
  rests = ap (λ (y : ℕ). eqb y 0) (sym alarm-is) ∙ number-nought s 8 (448 + i * 8) ∙ sym g

  on : alarm_right c alarm ≡ true → all_of (alarm_right c) (drop (i + 1) (load_of s).rest.alarms) ≡ all_of (alarm_right c) (drop i (load_of s).rest.alarms)
  on e = read-turn (alarm_right c) never (load_of s).rest.alarms 32 (alarms-size s) i alarm h refl e

  module _ (w : ℕ) (m : Marked i w (runs s)) where
    -- it is not running
    pub alarm-rests : x ≡ 0 → (all_of (alarm_right c) (drop (i + 1) (load_of s).rest.alarms) ≡ all_of (alarm_right c) (drop i (load_of s).rest.alarms)) × Marked (i + 1) w (runs s)
    alarm-rests e =
        let z : eqb alarm.0 0 ≡ true = rests ∙ eq-eqb x 0 e in
        (on (ap (λ (b : Bool). cond b true (is_stored c alarm.0)) z), marks-next i w (runs s) false m (ap (λ (b : Bool). one (not b)) z))

    -- it is running, until t
    module _ (d : x ≡ 0 → ⊥) (t : ℕ) (et : t ≡ number_of (part 8 (448 + i * 8) s)) where
      right_is : alarm_right c alarm ≡ is_stored c t
      right_is = ap (λ (b : Bool). cond b true (is_stored c alarm.0)) (rests ∙ ne_eqb x 0 d) ∙ ap (is_stored c) (sym (et ∙ alarm-is))

      pub alarm-runs : is_stored c t ≡ true → (bit : ℕ) → bit ≡ 2 ^ i
          → (all_of (alarm_right c) (drop (i + 1) (load_of s).rest.alarms) ≡ all_of (alarm_right c) (drop i (load_of s).rest.alarms)) × Marked (i + 1) (bit_or w bit) (runs s)
      alarm-runs e bit b = (on (right_is ∙ e), rw b (marks-next i w (runs s) true m (ap (λ (b : Bool). one (not b)) (rests ∙ ne_eqb x 0 d))))

      pub alarm-wrong : is_stored c t ≡ false → all_of (alarm_right c) (drop i (load_of s).rest.alarms) ≡ false
      alarm-wrong e = read-not (alarm_right c) never (load_of s).rest.alarms 32 (alarms-size s) i alarm h refl (right_is ∙ e)

-- all of them
pub all-running : (s : List ℕ) (w : ℕ) → Marked 32 w (runs s) → Running w (load_of s).rest.alarms
all-running s w m = record { told = λ j h. sym (one_same (not (eqb (get_or (load_of s).rest.alarms j never).0 0)) (is_set w j) (m.told j h)) }
