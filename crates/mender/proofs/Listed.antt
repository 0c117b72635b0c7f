-- The list: an entry that differs is noted once, with a rule that is right, and no other is; and what goes on.
use Prim.Native.Nat.{ℕ, zero, suc, ◌+◌, ◌-◌, ◌≤◌, ◌<◌}
use mathlib.Core.Path.{◌≡◌, refl, sym, ap, ◌∙◌}
use mathlib.Core.Bool.{Bool, true, false, not, cond}
use mathlib.Core.Logic.{◌≢◌, ◌⊎◌, inl, inr}
use mathlib.Core.List.{List, [], ◌∷◌, ◌++◌}
use native.Mathlib.Omega.{arith}
use borrow.Author.Tests.{eqb-true, eqb-false, ne_eqb}
use lib.Dec.{eqb}
use lib.ListN.{length, get_or, take}
use Rattle.executive.specs.declared.State.TheVariants.{Ready}
use Rattle.records.specs.declared.TaskNo.{TaskNo}
use Rattle.executive.specs.declared.State.{State}
use Rattle.executive.specs.declared.Task.{Task}
use Rattle.executive.specs.declared.Table.{Table}
use Rattle.executive.specs.Numbers.{most_tasks}
use Rattle.executive.specs.Lists.{one, pad, sum_of}
use Rattle.executive.specs.Places.{nobody, task_at}
use Rattle.executive.specs.Messages.{mail_at}
use Rattle.executive.specs.Check.{is_well_formed}
use Rattle.executive.proofs.Assured.{eqb_self, not-zero, sum-snoc, line-pad, pad-at}
use Rattle.mender.specs.declared.Note.{Note}
use Rattle.mender.specs.declared.Mended.{Mended}
use Rattle.mender.specs.Rules.{own_rules, own_rule_at, Whole}
use Rattle.mender.specs.Rounds.{round}
use Rattle.mender.specs.Rebuilding.{rebuilt}
use Rattle.mender.specs.Listing.{no_note, note_of, note_at, note_turn, notes_of}
use Rattle.mender.specs.Mending.{answered, mendable, notes_at, mend_of, Typed}
use Rattle.mender.specs.Promises.{waits_for_other, Same, Listed, RuleRight, GoesOn, Ascends, times_noted}
use Rattle.mender.proofs.Turns.{each_keeps}
use Rattle.mender.proofs.OwnRules.{broken-at, right-whole}
use Rattle.mender.proofs.Made.{Ends}
use Rattle.mender.proofs.Settles.{rounds}
use Rattle.mender.proofs.Answers.{refuses, stays, mends}
use Rattle.mender.proofs.Noting.{Right, Says, whole-ends, whole-mail, says}

-- ---- notes, one more at a time: of each of them, of all but the last, and what stands at a place of the list
abbrev AllOf : (Note → Type 0) → List Note → Type 0
AllOf P [] = Unit {0}
AllOf P (y ∷ ys) = P y × AllOf P ys

all_snoc : (P : Note → Type 0) (ys : List Note) (y : Note) → AllOf P ys → P y → AllOf P (ys ++ (y ∷ []))
all_snoc P [] y a p = (p, tt)
all_snoc P (z ∷ ys) y a p = (a.0, all_snoc P ys y a.1 p)

all_map : (P Q : Note → Type 0) → ((y : Note) → P y → Q y) → (ys : List Note) → AllOf P ys → AllOf Q ys
all_map P Q m [] a = tt
all_map P Q m (y ∷ ys) a = (m y a.0, all_map P Q m ys a.1)

all-at : (P : Note → Type 0) (ys : List Note) (i : ℕ) → i < length ys → AllOf P ys → P (get_or ys i no_note)
all-at P [] i h a = absurd (omega arith)
all-at P (y ∷ ys) zero h a = a.0
all-at P (y ∷ ys) (suc i) h a = all-at P ys i (omega arith) a.1

abbrev AtMost : ℕ → Note → Type 0
AtMost i y = y.task.0 ≤ i

ascends-snoc : (m : ℕ) (ys : List Note) (i : ℕ) (y : Note) → Ascends m ys → AllOf (AtMost i) ys → m ≤ i → i < y.task.0 → y.task.0 ≤ most_tasks
    → Ascends m (ys ++ (y ∷ []))
ascends-snoc m [] i y a b l p q = (omega arith, q, tt)
ascends-snoc m (z ∷ ys) i y a b l p q = (a.0, a.1, ascends-snoc z.task.0 ys i y a.2 b.1 b.0 p q)

-- ---- the notes of the first i places
module _ (P : Note → Type 0) (rule : ℕ → ℕ) (i : ℕ) (ns : List Note) where
  pub record Noted : Type 0 where
    pub done : (j : ℕ) → j < i → times_noted (suc j) ns ≡ one (not (eqb (rule j) 0))
    pub ahead : (j : ℕ) → i ≤ j → times_noted (suc j) ns ≡ 0
    pub ascends : Ascends 0 ns
    pub low : AllOf (AtMost i) ns
    pub right : AllOf P ns

module _ (P : Note → Type 0) (n : ℕ) (bs : List ℕ) (ts us : List Task)
    (p : (i : ℕ) → i < most_tasks → 0 < note_at n bs ts us i → P (note_of (record { 0 = suc i }) (note_at n bs ts us i))) where
  abbrev rule : ℕ → ℕ
  rule i = note_at n bs ts us i

  abbrev note : ℕ → Note
  note i = note_of (record { 0 = suc i }) (rule i)

  more-low : (i : ℕ) (ns : List Note) → AllOf (AtMost i) ns → AllOf (AtMost (i + 1)) ns
  more-low i ns = all_map (AtMost i) (AtMost (i + 1)) (λ y l. omega arith) ns

  not_more : (i : ℕ) (ns : List Note) → eqb (rule i) 0 ≡ true → Noted P rule i ns → Noted P rule (i + 1) ns
  not_more i ns z o = record {
    done = λ j l. at j l (eqb j i) refl;
    ahead = λ j l. o.ahead j (omega arith);
    ascends = o.ascends;
    low = more-low i ns o.low;
    right = o.right;
  }
    where
      at : (j : ℕ) → j < i + 1 → (c : Bool) → eqb j i ≡ c → times_noted (suc j) ns ≡ one (not (eqb (rule j) 0))
      at j l true q = let w : j ≡ i = eqb-true j i q in rw (w, z) (o.ahead i (omega arith))
      at j l false q = o.done j (let w = eqb-false j i q in omega arith)

  one_more : (i : ℕ) (ns : List Note) → i < most_tasks → eqb (rule i) 0 ≡ false → Noted P rule i ns → Noted P rule (i + 1) (ns ++ (note i ∷ []))
  one_more i ns l z o = record {
    done = λ j m. rw (sum-snoc (λ (y : Note). one (eqb (suc j) y.task.0)) ns (note i)) (at j m (eqb j i) refl);
    ahead = λ j m. rw (sum-snoc (λ (y : Note). one (eqb (suc j) y.task.0)) ns (note i), ne_eqb (suc j) (suc i) (λ q. omega arith)) (omega (arith, o.ahead j (omega arith)));
    ascends = ascends-snoc 0 ns i (note i) o.ascends o.low (omega arith) (omega arith) (omega arith);
    low = all_snoc (AtMost (i + 1)) ns (note i) (more-low i ns o.low) (omega arith);
    right = all_snoc P ns (note i) o.right (p i l (omega (arith, eqb-false (rule i) 0 z)));
  }
    where
      at : (j : ℕ) → j < i + 1 → (c : Bool) → eqb j i ≡ c → times_noted (suc j) ns + one (eqb (suc j) (suc i)) ≡ one (not (eqb (rule j) 0))
      at j m true q = let w : j ≡ i = eqb-true j i q in rw (w, z, eqb_self (suc i)) (omega (arith, o.ahead i (omega arith)))
      at j m false q =
          let w : j ≢ i = eqb-false j i q in
          rw (ne_eqb (suc j) (suc i) (λ v. w (omega arith))) (omega (arith, o.done j (omega arith)))

  pub notes_noted : Noted P rule most_tasks (notes_of n bs ts us)
  unfolding notes_of note_turn sum_of
  notes_noted = each_keeps (note_turn n bs ts us) (Noted P rule) most_tasks 0 [] start turn
    where
      start : Noted P rule 0 []
      start = record { done = λ j l. absurd (omega arith); ahead = λ j l. refl; ascends = tt; low = tt; right = tt }

      turn : (i : ℕ) (ns : List Note) → 0 ≤ i → i < 0 + most_tasks → Noted P rule i ns → Noted P rule (i + 1) (note_turn n bs ts us ns i)
      turn i ns l m o = go (eqb (rule i) 0) refl
        where
          go : (c : Bool) → eqb (rule i) 0 ≡ c → Noted P rule (i + 1) (cond c ns (ns ++ (note i ∷ [])))
          go true z = not_more i ns z o
          go false z = one_more i ns (omega arith) z o

-- ---- what the mending answers: refused, sound, or mended by one round
pub data Answer (t : Table) : Mended → Type 0 where
  refused : mendable t ≡ false → Answer t (answered 17 t [])
  sound : mendable t ≡ true → is_well_formed t ≡ true → Answer t (answered 0 t [])
  mended : mendable t ≡ true → Answer t (answered 0 (rebuilt (round t)) (notes_at t (rebuilt (round t))))

pub answer-of : (t : Table) → Typed t → Answer t (mend_of t)
answer-of t y = go (mendable t) refl
  where
    by : mendable t ≡ true → (c : Bool) → is_well_formed t ≡ c → Answer t (mend_of t)
    by m true w = rw (stays t m w) (Answer.sound m w)
    by m false w = rw (mends t m w, rounds t y m 1) (Answer.mended m)

    go : (b : Bool) → mendable t ≡ b → Answer t (mend_of t)
    go false m = rw (refuses t m) (Answer.refused m)
    go true m = by m (is_well_formed t) refl

-- ---- an entry with another link and another state
abbrev relaid : TaskNo → State → Task → Task
relaid l s e = record { own = e.own; priority = e.priority; argument = e.argument; end_waiter = l; state = s; start = e.start }

-- ---- the list of a mended table
module _ (t : Table) where
  abbrev u : Table
  u = rebuilt (round t)

  abbrev ns : List Note
  ns = notes_at t u

  abbrev rule_of : ℕ → ℕ
  rule_of i = note_at t.rest.count (own_rules t) t.tasks u.tasks i

  says_at : (i : ℕ) → i < most_tasks → Says t u (suc i) (rule_of i)
  unfolding task_at
  says_at i l = rw (broken-at t i l) (says t (suc i) (omega arith) (omega arith))

  noted : Noted (RuleRight t u) rule_of most_tasks ns
  noted = notes_noted (RuleRight t u) t.rest.count (own_rules t) t.tasks u.tasks (λ i l. go i (rule_of i) (says_at i l))
    where
      go : (i r : ℕ) → Says t u (suc i) r → 0 < r → Right t u (suc i) r
      go i r (Says.alike s) h = absurd (omega arith)
      go i r (Says.other q p d w) h = w

  times : (k : ℕ) → 0 < k → k ≤ most_tasks → Says t u k (rule_of (k - 1)) × (times_noted k ns ≡ one (not (eqb (rule_of (k - 1)) 0)))
  times zero g h = absurd (omega arith)
  times (suc i) g h = let z : suc i - 1 ≡ i = omega arith in rw z (says_at i (omega arith), noted.done i (omega arith))

  differs : (k r : ℕ) → Says t u k r → (Same t u k → ⊥) → one (not (eqb r 0)) ≡ 1
  differs k r (Says.alike s) d = absurd (d s)
  differs k r (Says.other q p d w) e = rw (not-zero r p) refl

  alike : (k r : ℕ) → Says t u k r → Same t u k → one (not (eqb r 0)) ≡ 0
  alike k r (Says.alike s) e = refl
  alike k r (Says.other q p d w) e = absurd (d e)

  list_of : Listed t (answered 0 u ns)
  list_of = let z : take (length ns) (pad most_tasks no_note ns) ≡ ns = line-pad no_note most_tasks ns in record {
    differs = λ k g h d. rw z ((times k g h).1 ∙ differs k (rule_of (k - 1)) (times k g h).0 d);
    same = λ k g h s. rw z ((times k g h).1 ∙ alike k (rule_of (k - 1)) (times k g h).0 s);
    ascends = rw z noted.ascends;
    tidy = ap (pad most_tasks no_note) (sym z);
  }

  right-at : (i : ℕ) → i < length ns → RuleRight t u (get_or (pad most_tasks no_note ns) i no_note)
  right-at i l = rw (pad-at no_note most_tasks ns i) (all-at (RuleRight t u) ns i l noted.right)

  -- one that keeps its own rules goes on: but for its link and its state it is the same
  on-from : (k : ℕ) (l : TaskNo) (s : State) → task_at u.tasks k ≡ relaid l s (task_at t.tasks k)
      → (s ≡ (task_at t.tasks k).state) ⊎ ((s ≡ Ready) × (waits_for_other (task_at t.tasks k).state ≡ true))
      → mail_at u.rest.mail k ≡ mail_at t.rest.mail k → GoesOn t u k
  on-from k l s p w m = record {
    own = ap (λ (x : Task). x.own) p;
    priority = ap (λ (x : Task). x.priority) p;
    argument = ap (λ (x : Task). x.argument) p;
    start = ap (λ (x : Task). x.start) p;
    state = rw (ap (λ (x : Task). x.state) p) w;
    mail = m;
  }

  on_of : (k : ℕ) → 0 < k → k ≤ most_tasks → Whole t k → GoesOn t u k
  on_of k g h w =
      let z : own_rule_at t k ≡ 0 = right-whole t k w in
      go (whole-ends t k g h z) (whole-mail t k g h z)
    where
      go : Ends (task_at t.tasks k) (task_at u.tasks k) → mail_at u.rest.mail k ≡ mail_at t.rest.mail k → GoesOn t u k
      go (Ends.as_was p) m = on-from k (task_at t.tasks k).end_waiter (task_at t.tasks k).state p (inl refl) m
      go (Ends.cut p) m = on-from k nobody (task_at t.tasks k).state p (inl refl) m
      go (Ends.woken y p) m = on-from k (task_at t.tasks k).end_waiter Ready p (inr (refl, y)) m
      go (Ends.cut-woken y p) m = on-from k nobody Ready p (inr (refl, y)) m

-- ---- a table that stays as it is
module _ (t : Table) (m : ℕ) where
  as_it_is : Listed t (answered m t [])
  unfolding pad sum_of
  as_it_is = record {
    differs = λ k g h d. absurd (d (record { entry = refl; mail = refl }));
    same = λ k g h s. refl;
    ascends = tt;
    tidy = refl;
  }

  on_as_it_is : (k : ℕ) → GoesOn t t k
  on_as_it_is k = record { own = refl; priority = refl; argument = refl; start = refl; state = inl refl; mail = refl }

-- ---- the promises
module _ (t : Table) (y : Typed t) where
  pub listed : Listed t (mend_of t)
  listed = go (mend_of t) (answer-of t y)
    where
      go : (r : Mended) → Answer t r → Listed t r
      go r (Answer.refused m) = as_it_is t 17
      go r (Answer.sound m w) = as_it_is t 0
      go r (Answer.mended m) = list_of t

  pub rule-right : (i : ℕ) → i < (mend_of t).noted → RuleRight t (mend_of t).table (get_or (mend_of t).list i no_note)
  rule-right = go (mend_of t) (answer-of t y)
    where
      go : (r : Mended) → Answer t r → (i : ℕ) → i < r.noted → RuleRight t r.table (get_or r.list i no_note)
      go r (Answer.refused m) i l = absurd (omega arith)
      go r (Answer.sound m w) i l = absurd (omega arith)
      go r (Answer.mended m) i l = right-at t i l

  pub goes_on : (k : ℕ) → 0 < k → k ≤ most_tasks → Whole t k → GoesOn t (mend_of t).table k
  goes_on k g h w = go (mend_of t) (answer-of t y)
    where
      go : (r : Mended) → Answer t r → GoesOn t r.table k
      go r (Answer.refused m) = on_as_it_is t 17 k
      go r (Answer.sound m z) = on_as_it_is t 0 k
      go r (Answer.mended m) = on_of t k g h w
