-- The check of the messages decides their rules: the tests of those that wait, taken in one pass and one by one, and of the mail.
use Prim.Native.Nat.{ℕ, zero, suc, ◌+◌, ◌≤◌, ◌<◌}
use mathlib.Core.Path.{◌≡◌, refl, sym, ap, ◌∙◌}
use mathlib.Core.Bool.{Bool, true, false, not, cond, ◌&&◌}
use mathlib.Core.List.{List, [], ◌∷◌, map}
use native.Mathlib.Omega.{arith}
use native.Mathlib.Numerals.{add-one}
use borrow.Author.Tests.{eqb-true, le-leb, lt-leb, lt-ltb, leb-true, ltb-true, ltb-false}
use lib.Dec.{eqb, leb, ltb}
use lib.ListN.{length, take, drop, get_or, drop_of_length-le, get_or-eq_default}
use lib.Seq.{drop-cons, length-take-le, get_or-take}
use Rattle.executive.specs.declared.State.{State}
use Rattle.executive.specs.declared.State.TheVariants.{Dormant}
use Rattle.executive.specs.declared.Task.{Task}
use Rattle.executive.specs.declared.Message.{Message}
use Rattle.executive.specs.declared.Mail.{Mail}
use Rattle.executive.specs.declared.Rest.{Rest}
use Rattle.executive.specs.Numbers.{most_tasks, most_sent, highest}
use Rattle.executive.specs.Lists.{one, sum_of, ◌and◌, up_to, all_of}
use Rattle.executive.specs.Queue.{AllLe, Desc}
use Rattle.executive.specs.Places.{no_task, task_at}
use Rattle.executive.specs.States.{await_message, awaited_of, is_of, is_dormant, takes, takes_from}
use Rattle.executive.specs.Messages.{no_message, no_mail, letters, fits, noted, mail_at}
use Rattle.executive.specs.WellFormed.{no_task_of, letters_astray, fitting, Messages}
use Rattle.executive.specs.Check.{message_in_range, mail_in_range, is_untaken, letters_fall, is_no_message, is_no_mail, is_emptied, emptied_at, messages_right, letters_right, mail_right_at}
use Rattle.executive.proofs.Lists.Tests.{Lt, lt_yes, lt_no, ltb-is, and_true, true_and, one_none, none-one, one_ge, not-zero, eqb_self}
use Rattle.executive.proofs.queue.Law.{one-zero, all_le_mono}
use Rattle.executive.proofs.Lists.Loops.{both, all-get, all_make, every_get, every_make}
use Rattle.executive.proofs.states.Laws.{dormant-is}
use Rattle.executive.proofs.check.Blanks.{blank-pad, pad-blank}

-- ---- one pass over those that wait, none over priority u
module _ (ts : List Task) (k u : ℕ) (xs : List Message) (i : ℕ) where
  letters-turn : i < length xs → letters_right ts k u (drop i xs)
      ≡ cond (message_in_range k (get_or xs i no_message)) (cond (leb (get_or xs i no_message).priority u)
      (cond (is_untaken ts (get_or xs i no_message)) (letters_right ts k (get_or xs i no_message).priority (drop (suc i) xs)) false) false) false
  unfolding letters_right
  letters-turn h = rw (drop-cons xs i no_message h) refl

  -- past the last; one out of range; one of a higher priority; one that its addressee takes; on to the next
  pub letters-over : length xs ≤ i → letters_right ts k u (drop i xs) ≡ true
  unfolding letters_right
  letters-over h = rw (drop_of_length-le xs {i = i} h) refl

  pub letters-out : i < length xs → message_in_range k (get_or xs i no_message) ≡ false → letters_right ts k u (drop i xs) ≡ false
  letters-out h e = letters-turn h ∙ rw e refl

  pub letters-high : i < length xs → message_in_range k (get_or xs i no_message) ≡ true → u < (get_or xs i no_message).priority
      → letters_right ts k u (drop i xs) ≡ false
  letters-high h e f = letters-turn h ∙ rw (e, lt-leb _ _ f) refl

  pub letters-taken : i < length xs → message_in_range k (get_or xs i no_message) ≡ true → (get_or xs i no_message).priority ≤ u
      → is_untaken ts (get_or xs i no_message) ≡ false → letters_right ts k u (drop i xs) ≡ false
  letters-taken h e f g = letters-turn h ∙ rw (e, le-leb _ _ f, g) refl

  pub letters-on : i < length xs → message_in_range k (get_or xs i no_message) ≡ true → (get_or xs i no_message).priority ≤ u
      → is_untaken ts (get_or xs i no_message) ≡ true
      → letters_right ts k (get_or xs i no_message).priority (drop (i + 1) xs) ≡ letters_right ts k u (drop i xs)
  letters-on h e f g = rw add-one (sym (letters-turn h ∙ rw (e, le-leb _ _ f, g) refl))

-- the same over the first n places of an array
module _ (ts : List Task) (k u : ℕ) (p : List Message) (n : ℕ) (hn : n ≤ length p) (i : ℕ) where
  here : i < n → i < length (take n p)
  here h = rw (length-take-le n p hn) h

  pub right-over : n ≤ i → letters_right ts k u (drop i (take n p)) ≡ true
  right-over h = letters-over ts k u (take n p) i (rw (length-take-le n p hn) h)

  pub right-out : i < n → message_in_range k (get_or p i no_message) ≡ false → letters_right ts k u (drop i (take n p)) ≡ false
  right-out h = rw (← get_or-take n p i no_message h) (letters-out ts k u (take n p) i (here h))

  pub right-high : i < n → message_in_range k (get_or p i no_message) ≡ true → u < (get_or p i no_message).priority
      → letters_right ts k u (drop i (take n p)) ≡ false
  right-high h = rw (← get_or-take n p i no_message h) (letters-high ts k u (take n p) i (here h))

  pub right-taken : i < n → message_in_range k (get_or p i no_message) ≡ true → (get_or p i no_message).priority ≤ u
      → is_untaken ts (get_or p i no_message) ≡ false → letters_right ts k u (drop i (take n p)) ≡ false
  right-taken h = rw (← get_or-take n p i no_message h) (letters-taken ts k u (take n p) i (here h))

  pub right-on : i < n → message_in_range k (get_or p i no_message) ≡ true → (get_or p i no_message).priority ≤ u
      → is_untaken ts (get_or p i no_message) ≡ true
      → letters_right ts k (get_or p i no_message).priority (drop (i + 1) (take n p)) ≡ letters_right ts k u (drop i (take n p))
  right-on h = rw (← get_or-take n p i no_message h) (letters-on ts k u (take n p) i (here h))

-- the same as the tests one after the other
pub in_one-pass : (ts : List Task) (n p : ℕ) (ms : List Message)
    → letters_right ts n p ms ≡ (all_of (message_in_range n) ms and all_of (is_untaken ts) ms and letters_fall p ms)
unfolding letters_right all_of letters_fall
in_one-pass ts n p [] = refl
in_one-pass ts n p (m ∷ ms) = go (message_in_range n m) (is_untaken ts m) (leb m.priority p) _ _ _ _ (in_one-pass ts n m.priority ms)
  where
    go : (a b c : Bool) (x y z w : Bool) → x ≡ (y and z and w)
        → cond a (cond c (cond b x false) false) false ≡ (cond a y false and cond b z false and cond c w false)
    go false b c x y z w e = refl
    go true true true x y z w e = e
    go true true false x true true w e = refl
    go true true false x true false w e = refl
    go true true false x false z w e = refl
    go true false true x true z w e = refl
    go true false true x false z w e = refl
    go true false false x true z w e = refl
    go true false false x false z w e = refl

-- ---- no message waits that fits a task which waits for one
untaken_get : (ts : List Task) (ms : List Message) → all_of (is_untaken ts) ms ≡ true
    → (k : ℕ) → is_of await_message (task_at ts k).state ≡ true → fitting k (awaited_of (task_at ts k).state) ms ≡ 0
unfolding all_of sum_of
untaken_get ts [] a k w = refl
untaken_get ts (m ∷ ms) a k w =
    let h = both (is_untaken ts m) (all_of (is_untaken ts) ms) a in
    omega (arith, go (eqb k m.to.0) refl h.0, untaken_get ts ms h.1 k w)
  where
    go : (b : Bool) → eqb k m.to.0 ≡ b → is_untaken ts m ≡ true → one (b and takes_from (awaited_of (task_at ts k).state) m.sender.0) ≡ 0
    go true e u =
        let q : k ≡ m.to.0 = eqb-true k m.to.0 e in
        let t : takes m.sender.0 (task_at ts k).state ≡ takes_from (awaited_of (task_at ts k).state) m.sender.0 = rw w refl in
        none-one (takes_from (awaited_of (task_at ts k).state) m.sender.0) (rw (← t) (rw (← q) at u))
    go false e u = refl

untaken_make : (ts : List Task) (ms : List Message)
    → ((k : ℕ) → is_of await_message (task_at ts k).state ≡ true → fitting k (awaited_of (task_at ts k).state) ms ≡ 0) → all_of (is_untaken ts) ms ≡ true
unfolding all_of sum_of
untaken_make ts [] h = refl
untaken_make ts (m ∷ ms) h = rw (go (is_of await_message (task_at ts m.to.0).state) refl) (untaken_make ts ms (λ k w. omega (arith, h k w)))
  where
    s : State
    s = (task_at ts m.to.0).state

    go : (b : Bool) → is_of await_message s ≡ b → not (b && takes_from (awaited_of s) m.sender.0) ≡ true
    go true w =
        let z : one (fits m.to.0 (awaited_of s) m) ≡ 0 = omega (arith, h m.to.0 w) in
        one_none (takes_from (awaited_of s) m.sender.0) (rw (eqb_self m.to.0) at z)
    go false w = refl

-- ---- those that wait descend
falls-get : (p : ℕ) (ms : List Message) → letters_fall p ms ≡ true → AllLe p (map noted ms) × Desc (map noted ms)
unfolding letters_fall
falls-get p [] a = (tt, tt)
falls-get p (m ∷ ms) a =
    let h = both (leb m.priority p) (letters_fall m.priority ms) a in
    let r = falls-get m.priority ms h.1 in
    let l : m.priority ≤ p = leb-true m.priority p h.0 in
    ((l, all_le_mono m.priority p (map noted ms) l r.0), (r.0, r.1))

falls_make : (p : ℕ) (ms : List Message) → AllLe p (map noted ms) → Desc (map noted ms) → letters_fall p ms ≡ true
unfolding letters_fall
falls_make p [] a d = refl
falls_make p (m ∷ ms) a d = rw (le-leb m.priority p a.0) (falls_make m.priority ms d.0 d.1)

-- ---- the free places
pub no_message_is : (m : Message) → is_no_message m ≡ true → m ≡ no_message
no_message_is m h =
    let a = and_true (eqb m.to.0 0) _ h in
    let b = and_true (eqb m.sender.0 0) _ a.1 in
    let d = and_true (eqb m.priority 0) _ b.1 in
    let x = eqb-true m.to.0 0 a.0 in
    let y = eqb-true m.sender.0 0 b.0 in
    let z = eqb-true m.priority 0 d.0 in
    let w = eqb-true m.text.0 0 d.1 in
    λ i. record { to = record { 0 = x i }; sender = record { 0 = y i }; priority = z i; text = record { 0 = w i } }

pub no-mail-is : (x : Mail) → is_no_mail x ≡ true → x ≡ no_mail
no-mail-is x h =
    let a = and_true (eqb x.sender.0 0) _ h in
    let y = eqb-true x.sender.0 0 a.0 in
    let w = eqb-true x.text.0 0 a.1 in
    λ i. record { sender = record { 0 = y i }; text = record { 0 = w i } }

-- ---- the test is the rule
pub messages-get : (ts : List Task) (r : Rest) → length r.messages ≡ most_sent → messages_right ts r ≡ true → Messages ts r
unfolding messages_right
messages-get ts r l e =
    let a = and_true (all_of (is_untaken ts) (letters r)) _ e in
    let b = and_true (letters_fall highest (letters r)) _ a.1 in
    record {
      unmet = untaken_get ts (letters r) a.0;
      sorted = (falls-get highest (letters r) b.0).1;
      tidy = blank-pad is_no_message no_message no_message_is 32 r.sent r.messages l b.1;
    }

-- none has a priority over 15 where all are in range
pub low-get : (n : ℕ) (ms : List Message) → letters_astray n ms ≡ 0 → AllLe highest (map noted ms)
unfolding sum_of
low-get n [] z = tt
low-get n (m ∷ ms) z = (ltb-false highest m.priority (one-zero (ltb highest m.priority) (omega arith)), low-get n ms (omega arith))

pub messages_make : (ts : List Task) (r : Rest) (n : ℕ) → length r.messages ≡ most_sent → letters_astray n (letters r) ≡ 0 → Messages ts r
    → messages_right ts r ≡ true
unfolding messages_right
messages_make ts r n l z m =
    true_and (all_of (is_untaken ts) (letters r)) _ (untaken_make ts (letters r) m.unmet)
    (true_and (letters_fall highest (letters r)) _ (falls_make highest (letters r) (low-get n (letters r) z) m.sorted)
    (pad-blank is_no_message no_message refl 32 r.sent r.messages l m.tidy))

-- ---- those that wait are in range: one by one, and as a sum
range-get : (n : ℕ) (m : Message) → message_in_range n m ≡ true → one (ltb highest m.priority) + (no_task_of n m.to.0 + no_task_of n m.sender.0) ≡ 0
range-get n m e =
    let a = and_true (ltb 0 m.to.0) _ e in
    let b = and_true (leb m.to.0 n) _ a.1 in
    let d = and_true (ltb 0 m.sender.0) _ b.1 in
    let f = and_true (leb m.sender.0 n) _ d.1 in
    omega (
      arith,
      one_ge highest m.priority (leb-true _ _ f.1),
      ap one (not-zero m.to.0 (ltb-true _ _ a.0)),
      one_ge n m.to.0 (leb-true _ _ b.0),
      ap one (not-zero m.sender.0 (ltb-true _ _ d.0)),
      one_ge n m.sender.0 (leb-true _ _ f.0),
    )

pub astray_get : (n : ℕ) (ms : List Message) → all_of (message_in_range n) ms ≡ true → letters_astray n ms ≡ 0
unfolding all_of sum_of
astray_get n [] a = refl
astray_get n (m ∷ ms) a =
    let h = both (message_in_range n m) (all_of (message_in_range n) ms) a in
    omega (arith, range-get n m h.0, astray_get n ms h.1)

more_than_none : (k : ℕ) → one (eqb k 0) ≡ 0 → 0 < k
more_than_none zero e = absurd (omega (arith, e, ap one (eqb_self 0)))
more_than_none (suc k) e = omega arith

range_make : (n : ℕ) (m : Message) → one (ltb highest m.priority) + (no_task_of n m.to.0 + no_task_of n m.sender.0) ≡ 0 → message_in_range n m ≡ true
range_make n m z =
    true_and (ltb 0 m.to.0) _ (lt-ltb _ _ (more_than_none m.to.0 (omega arith)))
    (true_and (leb m.to.0 n) _ (le-leb _ _ (ltb-false n m.to.0 (one-zero (ltb n m.to.0) (omega arith))))
    (true_and (ltb 0 m.sender.0) _ (lt-ltb _ _ (more_than_none m.sender.0 (omega arith)))
    (true_and (leb m.sender.0 n) _ (le-leb _ _ (ltb-false n m.sender.0 (one-zero (ltb n m.sender.0) (omega arith)))) (le-leb _ _ (ltb-false highest m.priority (one-zero (ltb highest m.priority) (omega arith)))))))

pub astray_make : (n : ℕ) (ms : List Message) → letters_astray n ms ≡ 0 → all_of (message_in_range n) ms ≡ true
unfolding all_of sum_of
astray_make n [] z = refl
astray_make n (m ∷ ms) z = rw (range_make n m (omega arith)) (astray_make n ms (omega arith))

-- ---- the mail: what is said of the task after number i
pub mail-next : (ts : List Task) (n : ℕ) (ml : List Mail) (i : ℕ)
    → mail_right_at ts n ml (i + 1) ≡ (mail_in_range n (get_or ml i no_mail) and is_emptied (get_or ts i no_task).state (get_or ml i no_mail))
unfolding mail_right_at emptied_at mail_at task_at
mail-next ts n ml i = rw add-one refl

-- ---- the mail: in range, and none in the entry of a dormant task; task by task
pub senders-get : (n : ℕ) (ml : List Mail) → all_of (mail_in_range n) ml ≡ true → (k : ℕ) → (mail_at ml k).sender.0 ≤ n
unfolding mail_at
senders-get n ml a zero = omega arith
senders-get n ml a (suc i) = leb-true _ _ (every_get (mail_in_range n) no_mail ml (le-leb 0 n (omega arith)) a i)

pub senders_make : (n : ℕ) (ml : List Mail) → ((k : ℕ) → (mail_at ml k).sender.0 ≤ n) → all_of (mail_in_range n) ml ≡ true
unfolding mail_at
senders_make n ml h = every_make (mail_in_range n) no_mail ml (λ i. le-leb _ _ (h (suc i)))

emptied-at : (s : State) (x : Mail) → is_emptied s x ≡ true → s ≡ Dormant → x ≡ no_mail
emptied-at s x e d = no-mail-is x (rw (dormant_true s d) at e)
  where
    dormant_true : (s : State) → s ≡ Dormant → is_dormant s ≡ true
    dormant_true s d = rw d refl

pub emptied-get : (ts : List Task) (ml : List Mail) → length ml ≡ most_tasks → up_to (emptied_at ts ml) most_tasks ≡ true
    → (k : ℕ) → (task_at ts k).state ≡ Dormant → mail_at ml k ≡ no_mail
unfolding emptied_at mail_at
emptied-get ts ml l a zero d = refl
emptied-get ts ml l a (suc i) d = go (ltb i most_tasks) (ltb-is i most_tasks)
  where
    go : (b : Bool) → Lt i most_tasks b → get_or ml i no_mail ≡ no_mail
    go true (lt_yes h) = emptied-at (task_at ts (suc i)).state (get_or ml i no_mail) (all-get (emptied_at ts ml) most_tasks (suc i) a (omega arith) (omega arith)) d
    go false (lt_no h) = get_or-eq_default ml no_mail {n = i} (omega arith)

pub emptied_make : (ts : List Task) (ml : List Mail) → ((k : ℕ) → (task_at ts k).state ≡ Dormant → mail_at ml k ≡ no_mail)
    → up_to (emptied_at ts ml) most_tasks ≡ true
unfolding emptied_at
emptied_make ts ml h = all_make (emptied_at ts ml) most_tasks (λ k g l. go k (is_dormant (task_at ts k).state) refl)
  where
    go : (k : ℕ) (b : Bool) → is_dormant (task_at ts k).state ≡ b → cond b (is_no_mail (mail_at ml k)) true ≡ true
    go k true e = rw (h k (dormant-is (task_at ts k).state e)) refl
    go k false e = refl

-- nobody's, and past the last
none-low : (n : ℕ) (ml : List Mail) → (mail_at ml 0).sender.0 ≤ n
unfolding mail_at
none-low n ml = omega arith

mail-far : (ml : List Mail) → length ml ≡ most_tasks → (k : ℕ) → most_tasks < k → mail_at ml k ≡ no_mail
unfolding mail_at
mail-far ml l zero h = absurd (omega arith)
mail-far ml l (suc i) h = get_or-eq_default ml no_mail {n = i} (omega arith)

-- in one pass, and rule by rule
pub mail_split : (ts : List Task) (n : ℕ) (ml : List Mail) → length ml ≡ most_tasks → up_to (mail_right_at ts n ml) most_tasks ≡ true
    → (all_of (mail_in_range n) ml ≡ true) × (up_to (emptied_at ts ml) most_tasks ≡ true)
unfolding mail_right_at
mail_split ts n ml l a = (senders_make n ml low, all_make (emptied_at ts ml) most_tasks (λ k g h. (said k g h).1))
  where
    said : (k : ℕ) → 0 < k → k ≤ most_tasks → (mail_in_range n (mail_at ml k) ≡ true) × (emptied_at ts ml k ≡ true)
    said k g h = and_true (mail_in_range n (mail_at ml k)) _ (all-get (mail_right_at ts n ml) most_tasks k a g h)

    low : (k : ℕ) → (mail_at ml k).sender.0 ≤ n
    low k = by (eqb k 0) refl (ltb most_tasks k) (ltb-is most_tasks k)
      where
        by : (z : Bool) → eqb k 0 ≡ z → (b : Bool) → Lt most_tasks k b → (mail_at ml k).sender.0 ≤ n
        by true e b x = rw (eqb-true k 0 e) (none-low n ml)
        by false e true (lt_yes h) = rw (mail-far ml l k h) (omega arith)
        by false e false (lt_no h) = leb-true _ _ (said k (more_than_none k (ap one e)) h).0

pub mail-join : (ts : List Task) (n : ℕ) (ml : List Mail) → all_of (mail_in_range n) ml ≡ true → up_to (emptied_at ts ml) most_tasks ≡ true
    → up_to (mail_right_at ts n ml) most_tasks ≡ true
unfolding mail_right_at
mail-join ts n ml a b =
    all_make (mail_right_at ts n ml) most_tasks
    (λ k g h. true_and (mail_in_range n (mail_at ml k)) _ (le-leb _ _ (senders-get n ml a k)) (all-get (emptied_at ts ml) most_tasks k b g h))

-- for the code: these, taken together
pub ruleset one_pass = (letters-over, letters-out, letters-high, letters-taken, letters-on)
