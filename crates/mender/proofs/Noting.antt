-- What is noted of an entry: nothing where it is the same, else a rule that is right.
use Prim.Native.Nat.{ℕ, ◌≤◌, ◌<◌}
use mathlib.Core.Path.{◌≡◌, refl, sym, ap, ◌∙◌}
use mathlib.Core.Bool.{Bool, true, false, cond, ◌||◌}
use mathlib.Core.Logic.{◌≢◌, ◌⊎◌, inl, inr}
use native.Mathlib.Omega.{arith}
use borrow.Author.Tests.{eqb-true, eqb-false, leb-true, leb-false}
use lib.Dec.{eqb, leb, ltb}
use Rattle.executive.specs.declared.State.{State}
use Rattle.executive.specs.declared.State.TheVariants.{Dormant, Ready}
use Rattle.executive.specs.declared.Task.{Task}
use Rattle.executive.specs.declared.Mail.{Mail}
use Rattle.executive.specs.declared.Table.{Table}
use Rattle.executive.specs.Numbers.{most_tasks, highest}
use Rattle.executive.specs.Lists.{◌and◌}
use Rattle.executive.specs.Places.{no_task, task_at}
use Rattle.executive.specs.States.{ready, await_start, await_end, await_sub, state_kind, is_dormant}
use Rattle.executive.specs.Entries.{with_state}
use Rattle.executive.specs.Messages.{no_mail, mail_at}
use Rattle.executive.specs.WellFormed.{Zeros}
use Rattle.executive.proofs.Assured.{false_not_true, eqb_self}
use Rattle.mender.specs.Rules.{range_rule, link_rule, lost_link, own_rule, own_rule_at}
use Rattle.mender.specs.Passes.{slept, unlinked, entry_after, mail_after}
use Rattle.mender.specs.Rounds.{round}
use Rattle.mender.specs.Rebuilding.{rebuilt}
use Rattle.mender.specs.Listing.{note_rule}
use Rattle.mender.specs.Promises.{waits_for_other, Same, Slept, Unlinked, Lost}
use Rattle.mender.proofs.OwnRules.{slept-right, blank-right, beyond-right, whole-right, broken, broken-low}
use Rattle.mender.proofs.Made.{Ends, round-entry, round-mail}
use Rattle.mender.proofs.Held.{waits-busy}

-- ---- an entry e that was whole, and f, and what is noted of it among n tasks
pub data NotedAs (n : ℕ) (e f : Task) : ℕ → Type 0 where
  not_noted : f ≡ e → NotedAs n e f 0
  link_noted : e.end_waiter.0 ≢ 0 → (f ≡ unlinked e) ⊎ (f ≡ with_state Ready (unlinked e)) → NotedAs n e f (cond (ltb n e.end_waiter.0) range_rule link_rule)
  loss_noted : waits_for_other e.state ≡ true → f ≡ with_state Ready e → NotedAs n e f lost_link

-- a link to nobody is none
unlinked-same : (e : Task) → e.end_waiter.0 ≡ 0 → unlinked e ≡ e
unlinked-same e z = λ i. record {
  own = e.own;
  priority = e.priority;
  argument = e.argument;
  end_waiter = record { 0 = sym z i };
  state = e.state;
  start = e.start;
}

-- one who waits for another is of another kind than one who is ready
waits-kind : (s : State) → waits_for_other s ≡ true → eqb (state_kind s) ready ≡ false
waits-kind s w = go (eqb (state_kind s) ready) refl
  where
    go : (b : Bool) → eqb (state_kind s) ready ≡ b → b ≡ false
    go true e =
        let k : state_kind s ≡ ready = eqb-true (state_kind s) ready e in
        false_not_true (sym (ap (λ (m : ℕ). (eqb await_start m || eqb await_end m) || eqb await_sub m) k) ∙ w)
    go false e = refl

module _ (n : ℕ) (e : Task) where
  -- the same entry; one that is only ready now
  noted-same : note_rule n 0 e e ≡ 0
  unfolding note_rule
  noted-same = rw (eqb_self e.end_waiter.0, eqb_self (state_kind e.state)) refl

  noted_loss : waits_for_other e.state ≡ true → note_rule n 0 e (with_state Ready e) ≡ lost_link
  unfolding note_rule
  noted_loss w = rw (eqb_self e.end_waiter.0, waits-kind e.state w) refl

  -- one without its link, in whatever state
  noted_link : (f : Task) → eqb e.end_waiter.0 0 ≡ false → f.end_waiter.0 ≡ 0
      → note_rule n 0 e f ≡ cond (ltb n e.end_waiter.0) range_rule link_rule
  unfolding note_rule
  noted_link f h z = rw (z, h) refl

  pub noted_as : (f : Task) → Ends e f → NotedAs n e f (note_rule n 0 e f)
  noted_as f (Ends.as_was p) = rw (p, noted-same) (NotedAs.not_noted refl)
  noted_as f (Ends.woken w p) = rw (p, noted_loss w) (NotedAs.loss_noted w refl)
  noted_as f (Ends.cut p) = go (eqb e.end_waiter.0 0) refl
    where
      go : (b : Bool) → eqb e.end_waiter.0 0 ≡ b → NotedAs n e f (note_rule n 0 e f)
      go true h = rw (p ∙ unlinked-same e (eqb-true _ _ h), noted-same) (NotedAs.not_noted refl)
      go false h = rw (noted_link f h (ap (λ (x : Task). x.end_waiter.0) p)) (NotedAs.link_noted (eqb-false _ _ h) (inl p))
  noted_as f (Ends.cut-woken w p) = go (eqb e.end_waiter.0 0) refl
    where
      go : (b : Bool) → eqb e.end_waiter.0 0 ≡ b → NotedAs n e f (note_rule n 0 e f)
      go true h = rw (p ∙ ap (with_state Ready) (unlinked-same e (eqb-true _ _ h)), noted_loss w) (NotedAs.loss_noted w refl)
      go false h = rw (noted_link f h (ap (λ (x : Task). x.end_waiter.0) p)) (NotedAs.link_noted (eqb-false _ _ h) (inr p))

-- ---- a dormant entry without a link is not changed after the first pass
ends-slept : (d f : Task) → is_dormant d.state ≡ true → d.end_waiter.0 ≡ 0 → Ends d f → f ≡ d
ends-slept d f b z (Ends.as_was p) = p
ends-slept d f b z (Ends.cut p) = p ∙ unlinked-same d z
ends-slept d f b z (Ends.woken w p) = false_not_true (sym (waits-busy d.state w) ∙ b)
ends-slept d f b z (Ends.cut-woken w p) = false_not_true (sym (waits-busy d.state w) ∙ b)

-- ---- what is noted of task k of the table t, which is u after mending: nothing, and its entry is the same; or a rule that is
-- right, and it is another
abbrev pub Right : Table → Table → ℕ → ℕ → Type 0
Right t u k r = Slept t u k r ⊎ (Unlinked t u k r ⊎ Lost t u k r)

pub data Says (t u : Table) (k : ℕ) : ℕ → Type 0 where
  alike : Same t u k → Says t u k 0
  other : (r : ℕ) → 0 < r → (Same t u k → ⊥) → Right t u k r → Says t u k r

module _ (t : Table) (k : ℕ) (g : 0 < k) (h : k ≤ most_tasks) where
  abbrev n : ℕ
  n = t.rest.count

  abbrev b : ℕ
  b = own_rule_at t k

  abbrev e : Task
  e = task_at t.tasks k

  abbrev x : Mail
  x = mail_at t.rest.mail k

  abbrev u : Table
  u = rebuilt (round t)

  abbrev f : Task
  f = task_at u.tasks k

  ends : Ends (entry_after n k b e) f
  unfolding rebuilt
  ends = round-entry t k g h

  mailed : mail_at u.rest.mail k ≡ mail_after n k b x
  unfolding rebuilt
  mailed = round-mail t k g h

  -- one that keeps its own rules: the first pass leaves it as it is
  pub whole-ends : b ≡ 0 → Ends e f
  unfolding entry_after
  whole-ends z = go (leb k n) refl (rw z at ends)
    where
      go : (c : Bool) → leb k n ≡ c → Ends (cond c e no_task) f → Ends e f
      go true q y = y
      go false q y = rw (beyond-right t.rest k e x z (leb-false _ _ q)).0 y

  pub whole-mail : b ≡ 0 → mail_at u.rest.mail k ≡ x
  unfolding mail_after
  whole-mail z = go (leb k n) refl (rw z at mailed)
    where
      go : (c : Bool) → leb k n ≡ c → mail_at u.rest.mail k ≡ cond (c and true) x no_mail → mail_at u.rest.mail k ≡ x
      go true q y = y
      go false q y = y ∙ sym (beyond-right t.rest k e x z (leb-false _ _ q)).1

  whole_says : b ≡ 0 → (r : ℕ) → NotedAs n e f r → Says t u k r
  whole_says z r (NotedAs.not_noted p) = Says.alike (record { entry = p; mail = whole-mail z })
  whole_says z r (NotedAs.link_noted l p) =
      Says.other _ (positive (ltb n e.end_waiter.0)) (λ s. l (sym (ap (λ (d : Task). d.end_waiter.0) s.entry) ∙ none p))
      (inr (inl (record { whole = whole-right t k z; linked = l; rule = refl; entry = p; mail = whole-mail z })))
    where
      positive : (c : Bool) → 0 < cond c range_rule link_rule
      positive true = omega arith
      positive false = omega arith

      none : (f ≡ unlinked e) ⊎ (f ≡ with_state Ready (unlinked e)) → f.end_waiter.0 ≡ 0
      none (inl q) = ap (λ (d : Task). d.end_waiter.0) q
      none (inr q) = ap (λ (d : Task). d.end_waiter.0) q
  whole_says z r (NotedAs.loss_noted w p) =
      Says.other lost_link (omega arith) (λ s. false_not_true (ap (λ (d : Task). waits_for_other d.state) (sym p ∙ s.entry) ∙ w))
      (inr (inr (record { whole = whole-right t k z; waits = w; rule = refl; entry = p; mail = whole-mail z })))

  -- one that broke a rule: it is dormant, or blank past the task count
  slept-entry : eqb b 0 ≡ false → f ≡ cond (leb k n) (slept e) no_task
  unfolding entry_after
  slept-entry z = go (leb k n) (rw z at ends)
    where
      go : (c : Bool) → Ends (cond c (slept e) no_task) f → f ≡ cond c (slept e) no_task
      go true y = ends-slept (slept e) f refl refl y
      go false y = ends-slept no_task f refl refl y

  slept-mail : eqb b 0 ≡ false → mail_at u.rest.mail k ≡ no_mail
  unfolding mail_after
  slept-mail z = go (leb k n) (rw z at mailed)
    where
      go : (c : Bool) → mail_at u.rest.mail k ≡ cond (c and false) x no_mail → mail_at u.rest.mail k ≡ no_mail
      go true y = y
      go false y = y

  slept-other : eqb b 0 ≡ false → Same t u k → ⊥
  slept-other z s = go (leb k n) refl (slept-entry z)
    where
      clash : (d : Task) → own_rule t.rest k d no_mail ≡ 0 → f ≡ d → ⊥
      clash d q p =
          let y : own_rule t.rest k e x ≡ 0 = rw (sym s.entry ∙ p, sym s.mail ∙ slept-mail z) q in
          eqb-false b 0 z y

      go : (c : Bool) → leb k n ≡ c → f ≡ cond c (slept e) no_task → ⊥
      go true q p = clash (slept e) (slept-right t.rest k e (leb-true _ _ q)) p
      go false q p = clash no_task (blank-right t.rest k) p

  slept-says : eqb b 0 ≡ false → Says t u k b
  slept-says z = go (leb k n) refl (slept-entry z)
    where
      p : 0 < b
      p = omega (arith, eqb-false b 0 z)

      go : (c : Bool) → leb k n ≡ c → f ≡ cond c (slept e) no_task → Says t u k b
      go c q y = Says.other b p (slept-other z) (inl (record {
        breaks = broken t k p;
        first = λ r l w. omega (arith, broken-low t k r w);
        dormant = rw y (dormant c);
        own = rw (y, q) (own c);
        zeros = rw y (zeros c);
        mail = slept-mail z;
      }))
        where
          dormant : (c : Bool) → (cond c (slept e) no_task).state ≡ Dormant
          dormant true = refl
          dormant false = refl

          own : (c : Bool) → (cond c (slept e) no_task).own ≡ cond (c and leb e.own highest) e.own 0
          own true = refl
          own false = refl

          zeros : (c : Bool) → Zeros (cond c (slept e) no_task)
          zeros true = record { priority = refl; argument = refl; start = refl; waiter = refl }
          zeros false = record { priority = refl; argument = refl; start = refl; waiter = refl }

  pub says : Says t u k (note_rule n b e f)
  unfolding note_rule
  says = go (eqb b 0) refl
    where
      go : (c : Bool) → eqb b 0 ≡ c → Says t u k (note_rule n b e f)
      go true z = let y : b ≡ 0 = eqb-true b 0 z in rw y (whole_says y (note_rule n 0 e f) (noted_as n e f (whole-ends y)))
      go false z = rw z (slept-says z)
