-- The check of the messages and the mail where they lie: what a turn of each loop says of the loaded table.
use Prim.Native.Nat.{ℕ, suc, ◌+◌, ◌-◌, ◌*◌, ◌%◌, ◌^◌, ◌≤◌, ◌<◌}
use mathlib.Core.Path.{◌≡◌, refl, sym, ap, ◌∙◌}
use mathlib.Core.Bool.{Bool, true, false, not, cond}
use mathlib.Core.List.{List}
use native.Mathlib.Omega.{arith}
use native.Mathlib.Nat.{mod-eq_of_lt}
use borrow.Author.Tests.{lt-ltb, ltb-true, le-leb, lt-leb, leb-true, leb-false, not-true}
use lib.Dec.{eqb, ltb, leb}
use lib.Pow.{pow_mono}
use lib.ListN.{length, get_or, take, drop}
use Rattle.executive.specs.declared.Task.{Task}
use Rattle.executive.specs.declared.Message.{Message}
use Rattle.executive.specs.declared.Mail.{Mail}
use Rattle.executive.specs.Lists.{one, ◌and◌}
use Rattle.executive.specs.Places.{no_task, task_at}
use Rattle.executive.specs.Messages.{no_message, no_mail}
use Rattle.executive.specs.States.{await_message, is_of, is_dormant, takes}
use Rattle.executive.specs.Flags.{is_set}
use Rattle.executive.specs.Check.{message_in_range, is_untaken, letters_right, is_no_mail, mail_right_at}
use Rattle.executive.proofs.Assured.{and_true, at_next, right-over, right-out, right-high, right-taken, right-on, mail-next, no-mail-is, one-zero}
use Rattle.image.specs.Image.{message_from, mail_from}
use Rattle.image.specs.Sound.{noughts, tasks_in, messages_in, mail_in}
use Rattle.image.specs.Marks.{passed, Marked}
use Rattle.image.proofs.Alike.{decide}
use Rattle.image.proofs.Noughts.{no-mail-nought}
use Rattle.image.proofs.Loaded.{messages-size, message_there, mail-there}
use Rattle.image.proofs.KindsRead.{kind-there}
use Rattle.image.proofs.SetBits.{bit-doubled, bit_inverse}

-- ---- one pass over those that wait, the first n of p, none over priority u; x is the one that was read at place i
module _ (ts : List Task) (k u : ℕ) (p : List Message) (n : ℕ) (hn : n ≤ length p) (i : ℕ) (x : Message) (e : x ≡ get_or p i no_message) (h : i < n) where
  ranged : (b : Bool) → message_in_range k x ≡ b → message_in_range k (get_or p i no_message) ≡ b
  ranged b f = ap (message_in_range k) (sym e) ∙ f

  letter-out : message_in_range k x ≡ false → letters_right ts k u (drop i (take n p)) ≡ false
  letter-out f = right-out ts k u p n hn i h (ranged false f)

  letter-high : message_in_range k x ≡ true → u < x.priority → letters_right ts k u (drop i (take n p)) ≡ false
  letter-high f g = right-high ts k u p n hn i h (ranged true f) (rw e at g)

  letter-taken : message_in_range k x ≡ true → x.priority ≤ u → is_untaken ts x ≡ false → letters_right ts k u (drop i (take n p)) ≡ false
  letter-taken f g d = right-taken ts k u p n hn i h (ranged true f) (rw e at g) (ap (is_untaken ts) (sym e) ∙ d)

  letter-on : message_in_range k x ≡ true → x.priority ≤ u → is_untaken ts x ≡ true
      → letters_right ts k x.priority (drop (i + 1) (take n p)) ≡ letters_right ts k u (drop i (take n p))
  letter-on f g d =
      ap (λ (y : Message). letters_right ts k y.priority (drop (i + 1) (take n p))) e
      ∙ right-on ts k u p n hn i h (ranged true f) (rw e at g) (ap (is_untaken ts) (sym e) ∙ d)

-- a message's numbers are in range
ranged-get : (n : ℕ) (m : Message) → message_in_range n m ≡ true → (0 < m.to.0) × (m.to.0 ≤ n) × (0 < m.sender.0) × (m.sender.0 ≤ n)
ranged-get n m e =
    let a = and_true (ltb 0 m.to.0) _ e in
    let b = and_true (leb m.to.0 n) _ a.1 in
    let d = and_true (ltb 0 m.sender.0) _ b.1 in
    let f = and_true (leb m.sender.0 n) _ d.1 in
    (ltb-true _ _ a.0, leb-true _ _ b.0, ltb-true _ _ d.0, leb-true _ _ f.0)

ranged_make : (n : ℕ) (m : Message) → 0 < m.to.0 → m.to.0 ≤ n → 0 < m.sender.0 → m.sender.0 ≤ n → m.priority ≤ 15 → message_in_range n m ≡ true
ranged_make n m a b d f g = rw (lt-ltb 0 m.to.0 a, le-leb m.to.0 n b, lt-ltb 0 m.sender.0 d, le-leb m.sender.0 n f, le-leb m.priority 15 g) refl

-- ---- the same of the bytes: to whom the message at place i is, from whom, its priority; those of the first k from place i on
abbrev pub letter_to : List ℕ → ℕ → ℕ
letter_to s i = get_or s (1058 + i * 11) 0

abbrev pub letter_by : List ℕ → ℕ → ℕ
letter_by s i = get_or s (1058 + i * 11 + 1) 0

abbrev pub letter_rank : List ℕ → ℕ → ℕ
letter_rank s i = get_or s (1058 + i * 11 + 2) 0

abbrev pub letters_from : List ℕ → ℕ → ℕ → ℕ → ℕ → Bool
letters_from s n k u i = letters_right (tasks_in s) n u (drop i (take k (messages_in s)))

-- it keeps the rules, among n tasks and after one of priority u
abbrev pub LetterRight : List ℕ → ℕ → ℕ → ℕ → Type 0
LetterRight s n u i =
    (0 < letter_to s i) × (letter_to s i ≤ n) × (0 < letter_by s i) × (letter_by s i ≤ n) × (letter_rank s i ≤ u)
    × (takes (letter_by s i) (task_at (tasks_in s) (letter_to s i)).state ≡ false)

module _ (s : List ℕ) (n k : ℕ) (hk : k ≤ 32) (u i : ℕ) where
  sized-messages : k ≤ length (messages_in s)
  sized-messages = omega (arith, messages-size s)

  rank-there : (message_from s (1058 + i * 11)).priority ≡ letter_rank s i
  rank-there = let z : 1058 + i * 11 + 1 + 1 ≡ 1058 + i * 11 + 2 = omega arith in ap (λ (p : ℕ). get_or s p 0) z

  -- past the last; one that breaks a rule; one that keeps them all
  pub letters-over : k ≤ i → letters_from s n k u i ≡ true
  letters-over h = right-over (tasks_in s) n u (messages_in s) k sized-messages i h

  pub letter-bad : i < k → (LetterRight s n u i → ⊥) → letters_from s n k u i ≡ false
  letter-bad h f =
      let x = message_from s (1058 + i * 11) in
      let e : x ≡ get_or (messages_in s) i no_message = message_there s i (1058 + i * 11) (omega arith) refl in
      let q : x.priority ≡ letter_rank s i = rank-there in
      decide (message_in_range n x)
      (λ r. let g = ranged-get n x r in
      decide (leb x.priority u)
      (λ l. decide (is_untaken (tasks_in s) x)
      (λ t. absurd (f (g.0, g.1, g.2, g.3, omega (arith, q, leb-true x.priority u l), not-true _ t)))
      (λ t. letter-taken (tasks_in s) n u (messages_in s) k sized-messages i x e h r (leb-true x.priority u l) t))
      (λ l. letter-high (tasks_in s) n u (messages_in s) k sized-messages i x e h r (leb-false x.priority u l)))
      (λ r. letter-out (tasks_in s) n u (messages_in s) k sized-messages i x e h r)

  pub letter-good : i < k → u ≤ 15 → LetterRight s n u i → letters_from s n k (letter_rank s i) (i + 1) ≡ letters_from s n k u i
  letter-good h g r =
      let x = message_from s (1058 + i * 11) in
      let e : x ≡ get_or (messages_in s) i no_message = message_there s i (1058 + i * 11) (omega arith) refl in
      let q : x.priority ≡ letter_rank s i = rank-there in
      ap (λ (p : ℕ). letters_from s n k p (i + 1)) (sym q)
      ∙ letter-on (tasks_in s) n u (messages_in s) k sized-messages i x e h (ranged_make n x r.0 r.1 r.2 r.3 (omega (arith, q, r.4, g))) (omega (arith, q, r.4)) (ap not r.5)

-- ---- who waits for no message takes none; where w is the set of those who wait, bit k of the others' set, moved up by one, is
-- that of a task which does not wait
pub takes_none : (ts : List Task) (c k : ℕ) → is_of await_message (task_at ts k).state ≡ false → takes c (task_at ts k).state ≡ false
takes_none ts c k e = rw e refl

pub not-waiting : (ts : List Task) (n w : ℕ) → n ≤ 16 → Marked n w (passed (is_of await_message) ts)
    → (k : ℕ) → k ≤ n → is_set ((65535 - w) * 2 % 4294967296) k ≡ true → (0 < k) × (is_of await_message (task_at ts k).state ≡ false)
not-waiting ts n w h m k l e =
    let b : 2 ^ n ≤ 65536 = pow_mono {j = 16} h in
    let g : w < 65536 = omega (arith, m.low) in
    let v : (65535 - w) * 2 % 4294967296 ≡ (65535 - w) * 2 = mod-eq_of_lt (omega arith) in
    let d = bit-doubled (65535 - w) k (ap (λ (x : ℕ). is_set x k) (sym v) ∙ e) in
    let a : 0 < k = d.0 in
    let z : suc (k - 1) ≡ k = omega arith in
    let f : is_set w (k - 1) ≡ false = not-true _ (sym (bit_inverse 16 w (k - 1) g (omega arith)) ∙ d.1) in
    (a, one-zero _ (ap (λ (j : ℕ). one (is_of await_message (task_at ts j).state)) (sym z) ∙ m.told (k - 1) (omega arith) ∙ ap one f))

-- ---- the mail of the task after number i among n tasks: none; from a number that is no task's; another
module _ (s : List ℕ) (n i : ℕ) (h : i < 16) where
  said : (d z : Bool) → eqb 0 (get_or s (i * 26 + 1) 0) ≡ d → noughts s 9 (1411 + i * 9) ≡ z → (leb (get_or s (1411 + i * 9) 0) n and cond d z true) ≡ mail_right_at (tasks_in s) n (mail_in s) (i + 1)
  said d z q r =
      let x = mail_from s (1411 + i * 9) in
      let e : x ≡ get_or (mail_in s) i no_mail = mail-there s i (1411 + i * 9) h refl in
      let y : is_dormant (get_or (tasks_in s) i no_task).state ≡ d = ap (λ (t : Task). is_dormant t.state) (sym (at_next (tasks_in s) i)) ∙ sym (kind-there s i h 0 (omega arith) (λ z. omega arith)) ∙ q in
      let o : is_no_mail x ≡ z = no-mail-nought s (1411 + i * 9) ∙ r in
      sym (mail-next (tasks_in s) n (mail_in s) i ∙ rw (← e, y, o) refl)

  pub mail-none : noughts s 9 (1411 + i * 9) ≡ true → true ≡ mail_right_at (tasks_in s) n (mail_in s) (i + 1)
  mail-none z =
      let x = mail_from s (1411 + i * 9) in
      let o : get_or s (1411 + i * 9) 0 ≡ 0 = ap (λ (y : Mail). y.sender.0) (no-mail-is x (no-mail-nought s (1411 + i * 9) ∙ z)) in
      sym (rw (le-leb (get_or s (1411 + i * 9) 0) n (omega (arith, o))) (empty (eqb 0 (get_or s (i * 26 + 1) 0)))) ∙ said (eqb 0 (get_or s (i * 26 + 1) 0)) true refl z
    where
      empty : (b : Bool) → cond b true true ≡ true
      empty true = refl
      empty false = refl

  pub mail-out : n < get_or s (1411 + i * 9) 0 → false ≡ mail_right_at (tasks_in s) n (mail_in s) (i + 1)
  mail-out l = sym (rw (lt-leb (get_or s (1411 + i * 9) 0) n l) refl) ∙ said (eqb 0 (get_or s (i * 26 + 1) 0)) (noughts s 9 (1411 + i * 9)) refl refl

  pub mail-some : get_or s (1411 + i * 9) 0 ≤ n → noughts s 9 (1411 + i * 9) ≡ false → not (eqb 0 (get_or s (i * 26 + 1) 0)) ≡ mail_right_at (tasks_in s) n (mail_in s) (i + 1)
  mail-some l z = sym (rw (le-leb (get_or s (1411 + i * 9) 0) n l) (busy (eqb 0 (get_or s (i * 26 + 1) 0)))) ∙ said (eqb 0 (get_or s (i * 26 + 1) 0)) false refl z
    where
      busy : (b : Bool) → cond b false true ≡ not b
      busy true = refl
      busy false = refl
