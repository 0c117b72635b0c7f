-- The own rules of an entry: what it says that none is broken, both ways; which entries break none; and the rule that is
-- broken first, in the table's terms.
use Prim.Native.Nat.{ℕ, zero, suc, ◌≤◌, ◌<◌}
use mathlib.Core.Path.{◌≡◌, refl, sym, ap, ◌∙◌}
use mathlib.Core.Bool.{Bool, true, false, cond}
use mathlib.Core.Logic.{◌≢◌, inl, inr}
use mathlib.Core.List.{List}
use native.Mathlib.Omega.{arith}
use borrow.Author.Tests.{eqb-true, leb-true, leb-false, le-leb, lt-leb, ltb-true, ltb-false}
use lib.Dec.{eqb, leb, ltb}
use lib.ListN.{get_or}
use Rattle.executive.specs.declared.State.{State}
use Rattle.executive.specs.declared.State.TheVariants.{Ready}
use Rattle.executive.specs.declared.Task.{Task}
use Rattle.executive.specs.declared.Message.{Message}
use Rattle.executive.specs.declared.Mail.{Mail}
use Rattle.executive.specs.declared.Rest.{Rest}
use Rattle.executive.specs.declared.Table.{Table}
use Rattle.executive.specs.Numbers.{most_tasks, highest, last_sub}
use Rattle.executive.specs.Lists.{one, ◌and◌, all_of}
use Rattle.executive.specs.Places.{no_task, task_at}
use Rattle.executive.specs.States.{await_sub, await_message, state_kind, awaited_of, is_of, is_dormant}
use Rattle.executive.specs.Entries.{with_state}
use Rattle.executive.specs.Messages.{no_mail, fits, mail_at}
use Rattle.executive.specs.WellFormed.{fitting}
use Rattle.executive.specs.Check.{awaits_in_range, numbers_in_range, mail_in_range, is_zero, is_blank, is_no_mail, task_timely, is_started, task_unmet}
use Rattle.executive.proofs.Assured.{false_not_true, and_true, true_and, none-one, one_none, sum-none, none-all, dormant-is, dormant-named, dormant-kind, zero_is, is-zero, blank-is, no-mail-is, timely_get, timely_make, unmet-get, unmet_make, awaits_make}
use Rattle.mender.specs.Rules.{range_rule, time_rule, start_rule, mask_rule, dormant_rule, message_rule, numbers_kept, zeros_kept, unfit, none_fits, first_broken, past_broken, own_rule, own_rule_at, own_rules, Breaks, Whole}
use Rattle.mender.specs.Passes.{slept, unlinked, entry_after, mail_after, own_pass}
use Rattle.mender.proofs.Rows.{row-length, row_at, row-past}
use Rattle.mender.proofs.Passed.{OwnRight, Owned}

-- ---- the test of messages is its rule
fits-get : (k : ℕ) (ms : List Message) (s : State) → none_fits k ms s ≡ true → is_of await_message s ≡ true → fitting k (awaited_of s) ms ≡ 0
fits-get k ms s e h =
    sum-none (unfit k (awaited_of s)) (λ (m : Message). one (fits k (awaited_of s) m)) (λ m. none-one (fits k (awaited_of s) m)) ms (rw h at e)

fits_make : (k : ℕ) (ms : List Message) (s : State) → (is_of await_message s ≡ true → fitting k (awaited_of s) ms ≡ 0) → none_fits k ms s ≡ true
fits_make k ms s h = go (is_of await_message s) h
  where
    go : (b : Bool) → (b ≡ true → fitting k (awaited_of s) ms ≡ 0) → cond b (all_of (unfit k (awaited_of s)) ms) true ≡ true
    go true g = none-all (unfit k (awaited_of s)) (λ (m : Message). one (fits k (awaited_of s) m)) (λ (m : Message). one (fits k (awaited_of s) m))
        (λ m a b. one_none (fits k (awaited_of s) m) a) ms (g refl) (g refl)
    go false g = refl

-- ---- the six tests, the first that fails telling the rule: none fails where it is 0
abbrev first : Bool → Bool → Bool → Bool → Bool → Bool → ℕ
first a b c d e f = cond a (cond b (cond c (cond d (cond e (cond f 0 message_rule) dormant_rule) mask_rule) start_rule) time_rule) range_rule

first-none : (a b c d e f : Bool) → first a b c d e f ≡ 0 → (a ≡ true) × (b ≡ true) × (c ≡ true) × (d ≡ true) × (e ≡ true) × (f ≡ true)
first-none true true true true true true z = (refl, refl, refl, refl, refl, refl)
first-none true true true true true false z = absurd (omega arith)
first-none true true true true false f z = absurd (omega arith)
first-none true true true false e f z = absurd (omega arith)
first-none true true false d e f z = absurd (omega arith)
first-none true false c d e f z = absurd (omega arith)
first-none false b c d e f z = absurd (omega arith)

-- ---- the entry e with the mail x of task k, beside the rest r
module _ (r : Rest) (k : ℕ) (e : Task) (x : Mail) where
  abbrev n : ℕ
  n = r.count

  abbrev s : State
  s = e.state

  among : k ≤ n → own_rule r k e x ≡ first_broken r k e x
  unfolding own_rule
  among h = rw (le-leb k n h) refl

  past : n < k → own_rule r k e x ≡ past_broken e x
  unfolding own_rule
  past h = rw (lt-leb k n h) refl

  awaits_get : awaits_in_range n s ≡ true → (is_of await_sub s ≡ true → awaited_of s ≤ last_sub) × (is_of await_message s ≡ true → awaited_of s ≤ n)
  awaits_get h = (λ b. leb-true _ _ (rw b at h), λ b. go (is_of await_sub s) refl b (rw b at h))
    where
      go : (c : Bool) → is_of await_sub s ≡ c → is_of await_message s ≡ true → cond c (leb (awaited_of s) last_sub) (leb (awaited_of s) n) ≡ true → awaited_of s ≤ n
      go true f g z = absurd (omega (arith, eqb-true await_sub (state_kind s) f, eqb-true await_message (state_kind s) g))
      go false f g z = leb-true _ _ z

  -- the numbers: the own and the current priority, what is awaited, the mail's sender
  numbers-get : numbers_kept n e x ≡ true → (e.own ≤ highest) × (e.priority ≤ highest) × (awaits_in_range n s ≡ true) × (x.sender.0 ≤ n)
  numbers-get h =
      let b = and_true (numbers_in_range n e) _ h in
      let d = and_true (leb e.own highest) _ b.0 in
      let f = and_true (leb e.priority highest) _ d.1 in
      (leb-true _ _ d.0, leb-true _ _ f.0, f.1, leb-true _ _ b.1)

  zeros-get : zeros_kept e x ≡ true → is_dormant s ≡ true → (is_zero e ≡ true) × (is_no_mail x ≡ true)
  zeros-get h b = and_true (is_zero e) _ (rw b at h)

  -- what it says that none is broken
  right-among : k ≤ n → first_broken r k e x ≡ 0 → OwnRight r k e x
  unfolding first_broken
  right-among h z =
      let a = first-none (numbers_kept n e x) (task_timely r.clock.0 e) (is_started r.clock.0 e) (task_unmet r.flags e) (zeros_kept e x)
      (none_fits k r.messages s) z in
      let b = numbers-get a.0 in
      record {
        entry = record {
          calm = (timely_get r.clock.0 s a.1, unmet-get r.flags s a.3);
          started = leb-true _ _ a.2;
          level = b.1;
          home = b.0;
          zeros = λ y. zero_is e (zeros-get a.4 (rw (dormant-named s y) refl)).0;
          beyond = λ l. absurd (omega arith);
        };
        inside = (awaits_get b.2).0;
        senders = (awaits_get b.2).1;
        mail = b.3;
        emptied = λ y. no-mail-is x (zeros-get a.4 (rw y refl)).1;
        unmet = fits-get k r.messages s a.5;
      }

  right-past : n < k → past_broken e x ≡ 0 → (e ≡ no_task) × (x ≡ no_mail)
  unfolding past_broken
  right-past h z = go (is_blank e) (is_no_mail x) refl refl z
    where
      go : (b c : Bool) → is_blank e ≡ b → is_no_mail x ≡ c → cond (b and c) 0 range_rule ≡ 0 → (e ≡ no_task) × (x ≡ no_mail)
      go true true f g y = (blank-is e f, no-mail-is x g)
      go true false f g y = absurd (omega arith)
      go false c f g y = absurd (omega arith)

  -- and what makes it so
  make_among : k ≤ n → OwnRight r k e x → first_broken r k e x ≡ 0
  unfolding first_broken
  make_among h o =
      rw (
        true_and (numbers_in_range n e) (mail_in_range n x) (true_and (leb e.own highest) _ (le-leb _ _ o.entry.home)
            (true_and (leb e.priority highest) _ (le-leb _ _ o.entry.level) (awaits_make n s o.inside o.senders))) (le-leb _ _ o.mail),
        timely_make r.clock.0 s o.entry.calm.0,
        le-leb e.start.0 r.clock.0 o.entry.started,
        unmet_make r.flags s o.entry.calm.1,
        zeros_make (is_dormant s) refl,
        fits_make k r.messages s o.unmet,
      ) refl
    where
      zeros_make : (b : Bool) → is_dormant s ≡ b → cond b (is_zero e and is_no_mail x) true ≡ true
      zeros_make true f = true_and (is_zero e) _ (is-zero e (o.entry.zeros (ap one f))) (rw (o.emptied (dormant-is s f)) refl)
      zeros_make false f = refl

-- nobody's entry keeps every rule, at any number
blank-own : (r : Rest) (k : ℕ) → OwnRight r k no_task no_mail
blank-own r k = record {
  entry = record {
    calm = (false_not_true, false_not_true);
    started = omega arith;
    level = omega arith;
    home = omega arith;
    zeros = λ y. record { priority = refl; argument = refl; start = refl; waiter = refl };
    beyond = λ l. refl;
  };
  inside = false_not_true;
  senders = false_not_true;
  mail = omega arith;
  emptied = λ y. refl;
  unmet = false_not_true;
}

pub blank-right : (r : Rest) (k : ℕ) → own_rule r k no_task no_mail ≡ 0
unfolding past_broken
blank-right r k = go (leb k r.count) refl
  where
    go : (b : Bool) → leb k r.count ≡ b → own_rule r k no_task no_mail ≡ 0
    go true h = among r k no_task no_mail (leb-true _ _ h) ∙ make_among r k no_task no_mail (leb-true _ _ h) (blank-own r k)
    go false h = past r k no_task no_mail (leb-false _ _ h)

-- ---- no rule is broken: what that says, and what makes it so
module _ (r : Rest) (k : ℕ) (e : Task) (x : Mail) where
  pub beyond-right : own_rule r k e x ≡ 0 → r.count < k → (e ≡ no_task) × (x ≡ no_mail)
  beyond-right z l = right-past r k e x l (sym (past r k e x l) ∙ z)

  pub own-right : own_rule r k e x ≡ 0 → OwnRight r k e x
  own-right z = go (leb k r.count) refl
    where
      go : (b : Bool) → leb k r.count ≡ b → OwnRight r k e x
      go true h = right-among r k e x (leb-true _ _ h) (sym (among r k e x (leb-true _ _ h)) ∙ z)
      go false h = let y = beyond-right z (leb-false _ _ h) in rw (y.0, y.1) (blank-own r k)

  pub right-own : OwnRight r k e x → own_rule r k e x ≡ 0
  right-own o = go (leb k r.count) refl
    where
      go : (b : Bool) → leb k r.count ≡ b → own_rule r k e x ≡ 0
      go true h = among r k e x (leb-true _ _ h) ∙ make_among r k e x (leb-true _ _ h) o
      go false h =
          let z : e ≡ no_task = o.entry.beyond (leb-false _ _ h) in
          let y : x ≡ no_mail = o.emptied (ap (λ (f : Task). f.state) z) in
          rw (z, y) (blank-right r k)

-- ---- which entries keep the rules: one that became dormant; one that kept them, without its link, or ready after a wait, or
-- beside fewer messages
pub slept-right : (r : Rest) (k : ℕ) (e : Task) → k ≤ r.count → own_rule r k (slept e) no_mail ≡ 0
slept-right r k e h = right-own r k (slept e) no_mail (record {
  entry = record {
    calm = (false_not_true, false_not_true);
    started = omega arith;
    level = omega arith;
    home = go (leb e.own highest) refl;
    zeros = λ y. record { priority = refl; argument = refl; start = refl; waiter = refl };
    beyond = λ l. absurd (omega arith);
  };
  inside = false_not_true;
  senders = false_not_true;
  mail = omega arith;
  emptied = λ y. refl;
  unmet = false_not_true;
})
  where
    go : (b : Bool) → leb e.own highest ≡ b → cond b e.own 0 ≤ highest
    go true f = leb-true _ _ f
    go false f = omega arith

pub unlinked-right : (r : Rest) (k : ℕ) (e : Task) (x : Mail) → own_rule r k e x ≡ 0 → own_rule r k (unlinked e) x ≡ 0
unlinked-right r k e x z =
    let o = own-right r k e x z in
    right-own r k (unlinked e) x (record {
      entry = record {
        calm = o.entry.calm;
        started = o.entry.started;
        level = o.entry.level;
        home = o.entry.home;
        zeros = λ y. let w = o.entry.zeros y in record { priority = w.priority; argument = w.argument; start = w.start; waiter = refl };
        beyond = λ l. ap unlinked (o.entry.beyond l);
      };
      inside = o.inside;
      senders = o.senders;
      mail = o.mail;
      emptied = o.emptied;
      unmet = o.unmet;
    })

pub ready-right : (r : Rest) (k : ℕ) (e : Task) (x : Mail) → is_dormant e.state ≡ false → own_rule r k e x ≡ 0 → own_rule r k (with_state Ready e) x ≡ 0
ready-right r k e x b z =
    let o = own-right r k e x z in
    right-own r k (with_state Ready e) x (record {
      entry = record {
        calm = (false_not_true, false_not_true);
        started = o.entry.started;
        level = o.entry.level;
        home = o.entry.home;
        zeros = λ y. absurd (omega arith);
        beyond = λ l. false_not_true (sym b ∙ rw (o.entry.beyond l) refl);
      };
      inside = false_not_true;
      senders = false_not_true;
      mail = o.mail;
      emptied = λ y. absurd (omega (arith, dormant-kind Ready y));
      unmet = false_not_true;
    })

pub fewer-right : (r u : Rest) (k : ℕ) (e : Task) (x : Mail) → u.count ≡ r.count → u.clock.0 ≡ r.clock.0 → u.flags ≡ r.flags
    → ((m : ℕ) → fitting k m r.messages ≡ 0 → fitting k m u.messages ≡ 0) → own_rule r k e x ≡ 0 → own_rule u k e x ≡ 0
fewer-right r u k e x n c f m z =
    let o = own-right r k e x z in
    right-own u k e x (record {
      entry = rw (n, c, f) o.entry;
      inside = o.inside;
      senders = rw n o.senders;
      mail = rw n o.mail;
      emptied = o.emptied;
      unmet = λ w. m (awaited_of e.state) (o.unmet w);
    })

-- ---- the rule that is broken first, in the table's terms
not-true : (b : Bool) → (b ≡ true → ⊥) → b ≡ false
not-true true h = absurd (h refl)
not-true false h = refl

cond-low : (b : Bool) (m n q : ℕ) → m ≤ q → n ≤ q → cond b m n ≤ q
cond-low true m n q h g = h
cond-low false m n q h g = g

-- where a test fails, the first that fails is that one or one before it
module _ (r : Rest) (k : ℕ) (e : Task) (x : Mail) where
  abbrev numbers : Bool
  numbers = numbers_kept r.count e x

  abbrev times : Bool
  times = task_timely r.clock.0 e

  abbrev starts : Bool
  starts = is_started r.clock.0 e

  abbrev masks : Bool
  masks = task_unmet r.flags e

  low-range : numbers ≡ false → first_broken r k e x ≤ range_rule
  unfolding first_broken
  low-range h = rw h (omega arith)

  low-time : times ≡ false → first_broken r k e x ≤ time_rule
  unfolding first_broken
  low-time h = cond-low numbers _ _ 3 (rw h (omega arith)) (omega arith)

  low-start : starts ≡ false → first_broken r k e x ≤ start_rule
  unfolding first_broken
  low-start h = cond-low numbers _ _ 4 (cond-low times _ _ 4 (rw h (omega arith)) (omega arith)) (omega arith)

  low_mask : masks ≡ false → first_broken r k e x ≤ mask_rule
  unfolding first_broken
  low_mask h = cond-low numbers _ _ 5 (cond-low times _ _ 5 (cond-low starts _ _ 5 (rw h (omega arith)) (omega arith)) (omega arith)) (omega arith)

  low_zeros : zeros_kept e x ≡ false → first_broken r k e x ≤ dormant_rule
  unfolding first_broken
  low_zeros h =
      cond-low numbers _ _ 8 (cond-low times _ _ 8 (cond-low starts _ _ 8 (cond-low masks _ _ 8 (rw h (omega arith)) (omega arith)) (omega arith)) (omega arith)) (omega arith)

  low-met : first_broken r k e x ≤ message_rule
  unfolding first_broken
  low-met =
      cond-low numbers _ _ 11 (cond-low times _ _ 11 (cond-low starts _ _ 11 (cond-low masks _ _ 11
      (cond-low (zeros_kept e x) _ _ 11 (cond-low (none_fits k r.messages e.state) 0 11 11 (omega arith) (omega arith)) (omega arith))
      (omega arith)) (omega arith)) (omega arith)) (omega arith)

module _ (t : Table) (k : ℕ) where
  abbrev rest : Rest
  rest = t.rest

  abbrev entry : Task
  entry = task_at t.tasks k

  abbrev mail : Mail
  mail = mail_at t.rest.mail k

  -- none is broken where none is found
  pub whole-right : own_rule_at t k ≡ 0 → Whole t k
  whole-right z q b = go q b (own-right rest k entry mail z)
    where
      go : (q : ℕ) → Breaks t k q → OwnRight rest k entry mail → ⊥
      go q (Breaks.own-over h l) o = omega (arith, o.entry.home)
      go q (Breaks.level-over h l) o = omega (arith, o.entry.level)
      go q (Breaks.sub-over h w l) o = omega (arith, o.inside w)
      go q (Breaks.awaited-over h w l) o = omega (arith, o.senders w)
      go q (Breaks.sender-over h l) o = omega (arith, o.mail)
      go q (Breaks.past h (inl g)) o = g (o.entry.beyond h)
      go q (Breaks.past h (inr g)) o = g (o.emptied (ap (λ (f : Task). f.state) (o.entry.beyond h)))
      go q (Breaks.time f) o = f o.entry.calm.0
      go q (Breaks.start h) o = omega (arith, o.entry.started)
      go q (Breaks.mask f) o = f o.entry.calm.1
      go q (Breaks.zeros d f) o = f (o.entry.zeros (dormant-kind entry.state d), o.emptied d)
      go q (Breaks.met w h) o = omega (arith, o.unmet w)

  -- a rule that is broken is the first that is found, or one behind it
  among-low : (q : ℕ) → Breaks t k q → k ≤ rest.count → first_broken rest k entry mail ≤ q
  unfolding first_broken
  among-low q (Breaks.own-over h l) g = low-range rest k entry mail (not-true _ (λ z. omega (arith, (numbers-get rest k entry mail z).0)))
  among-low q (Breaks.level-over h l) g = low-range rest k entry mail (not-true _ (λ z. omega (arith, (numbers-get rest k entry mail z).1)))
  among-low q (Breaks.sub-over h w l) g =
      low-range rest k entry mail (not-true _ (λ z. omega (arith, (awaits_get rest k entry mail (numbers-get rest k entry mail z).2).0 w)))
  among-low q (Breaks.awaited-over h w l) g =
      low-range rest k entry mail (not-true _ (λ z. omega (arith, (awaits_get rest k entry mail (numbers-get rest k entry mail z).2).1 w)))
  among-low q (Breaks.sender-over h l) g = low-range rest k entry mail (not-true _ (λ z. omega (arith, (numbers-get rest k entry mail z).3)))
  among-low q (Breaks.past h l) g = absurd (omega arith)
  among-low q (Breaks.time f) g = low-time rest k entry mail (not-true _ (λ z. f (timely_get rest.clock.0 entry.state z)))
  among-low q (Breaks.start h) g = low-start rest k entry mail (lt-leb _ _ h)
  among-low q (Breaks.mask f) g = low_mask rest k entry mail (not-true _ (λ z. f (unmet-get rest.flags entry.state z)))
  among-low q (Breaks.zeros d f) g =
      low_zeros rest k entry mail (not-true _ (λ z.
      let y = zeros-get rest k entry mail z (rw d refl) in f (zero_is entry y.0, no-mail-is mail y.1)))
  among-low q (Breaks.met w h) g = low-met rest k entry mail

  past-low : (q : ℕ) → Breaks t k q → past_broken entry mail ≤ q
  unfolding past_broken
  past-low q b = cond-low (is_blank entry and is_no_mail mail) 0 1 q (omega arith) (go q b)
    where
      go : (q : ℕ) → Breaks t k q → 1 ≤ q
      go q (Breaks.own-over h l) = omega arith
      go q (Breaks.level-over h l) = omega arith
      go q (Breaks.sub-over h w l) = omega arith
      go q (Breaks.awaited-over h w l) = omega arith
      go q (Breaks.sender-over h l) = omega arith
      go q (Breaks.past h g) = omega arith
      go q (Breaks.time f) = omega arith
      go q (Breaks.start h) = omega arith
      go q (Breaks.mask f) = omega arith
      go q (Breaks.zeros d f) = omega arith
      go q (Breaks.met w h) = omega arith

  pub broken-low : (q : ℕ) → Breaks t k q → own_rule_at t k ≤ q
  broken-low q b = go (leb k rest.count) refl
    where
      go : (c : Bool) → leb k rest.count ≡ c → own_rule_at t k ≤ q
      go true e = rw (among rest k entry mail (leb-true _ _ e)) (among-low q b (leb-true _ _ e))
      go false e = rw (past rest k entry mail (leb-false _ _ e)) (past-low q b)

  -- the one that is found is broken
  range-broken : k ≤ rest.count → numbers_kept rest.count entry mail ≡ false → Breaks t k range_rule
  range-broken h =
      go (leb entry.own highest) (leb entry.priority highest) (is_of await_sub entry.state) (leb (awaited_of entry.state) last_sub)
      (is_of await_message entry.state) (leb (awaited_of entry.state) rest.count) refl refl refl refl refl refl
    where
      sender : leb mail.sender.0 rest.count ≡ false → Breaks t k range_rule
      sender z = Breaks.sender-over h (leb-false _ _ z)

      go : (a b c d e f : Bool) → leb entry.own highest ≡ a → leb entry.priority highest ≡ b → is_of await_sub entry.state ≡ c
          → leb (awaited_of entry.state) last_sub ≡ d → is_of await_message entry.state ≡ e → leb (awaited_of entry.state) rest.count ≡ f
          → ((a and b and cond c d (cond e f true)) and leb mail.sender.0 rest.count) ≡ false → Breaks t k range_rule
      go false b c d e f ea eb ec ed ee ef z = Breaks.own-over h (leb-false _ _ ea)
      go true false c d e f ea eb ec ed ee ef z = Breaks.level-over h (leb-false _ _ eb)
      go true true true false e f ea eb ec ed ee ef z = Breaks.sub-over h ec (leb-false _ _ ed)
      go true true true true e f ea eb ec ed ee ef z = sender z
      go true true false d true false ea eb ec ed ee ef z = Breaks.awaited-over h ee (leb-false _ _ ef)
      go true true false d true true ea eb ec ed ee ef z = sender z
      go true true false d false f ea eb ec ed ee ef z = sender z

  among-broken : k ≤ rest.count → 0 < first_broken rest k entry mail → Breaks t k (first_broken rest k entry mail)
  unfolding first_broken
  among-broken h =
      go (numbers_kept rest.count entry mail) (task_timely rest.clock.0 entry) (is_started rest.clock.0 entry) (task_unmet rest.flags entry)
      (zeros_kept entry mail) (none_fits k rest.messages entry.state) refl refl refl refl refl refl
    where
      zero-broken : (b : Bool) → is_dormant entry.state ≡ b → cond b (is_zero entry and is_no_mail mail) true ≡ false → Breaks t k dormant_rule
      zero-broken true e z = Breaks.zeros (dormant-is entry.state e) (λ y. false_not_true (sym z ∙ true_and (is_zero entry) _ (is-zero entry y.0) (rw y.1 refl)))
      zero-broken false e z = false_not_true (sym z)

      met-broken : (b : Bool) → is_of await_message entry.state ≡ b → none_fits k rest.messages entry.state ≡ false → Breaks t k message_rule
      met-broken true e z =
          let g : fitting k (awaited_of entry.state) rest.messages ≢ 0 =
          λ y. false_not_true (sym z ∙ fits_make k rest.messages entry.state (λ w. y)) in
          Breaks.met e (omega (arith, g))
      met-broken false e z = false_not_true (sym z ∙ rw e refl)

      go : (a b c d e f : Bool) → numbers_kept rest.count entry mail ≡ a → task_timely rest.clock.0 entry ≡ b → is_started rest.clock.0 entry ≡ c
          → task_unmet rest.flags entry ≡ d → zeros_kept entry mail ≡ e → none_fits k rest.messages entry.state ≡ f
          → 0 < first a b c d e f → Breaks t k (first a b c d e f)
      go false b c d e f ea eb ec ed ee ef z = range-broken h ea
      go true false c d e f ea eb ec ed ee ef z = Breaks.time (λ y. false_not_true (sym eb ∙ timely_make rest.clock.0 entry.state y))
      go true true false d e f ea eb ec ed ee ef z = Breaks.start (leb-false _ _ ec)
      go true true true false e f ea eb ec ed ee ef z = Breaks.mask (λ y. false_not_true (sym ed ∙ unmet_make rest.flags entry.state y))
      go true true true true false f ea eb ec ed ee ef z = zero-broken (is_dormant entry.state) refl ee
      go true true true true true false ea eb ec ed ee ef z = met-broken (is_of await_message entry.state) refl ef
      go true true true true true true ea eb ec ed ee ef z = absurd (omega arith)

  past-broken : rest.count < k → 0 < past_broken entry mail → Breaks t k (past_broken entry mail)
  unfolding past_broken
  past-broken h = go (is_blank entry) (is_no_mail mail) refl refl
    where
      go : (b c : Bool) → is_blank entry ≡ b → is_no_mail mail ≡ c → 0 < cond (b and c) 0 range_rule → Breaks t k (cond (b and c) 0 range_rule)
      go true true e f z = absurd (omega arith)
      go true false e f z = Breaks.past h (inr (λ y. false_not_true (sym f ∙ rw y refl)))
      go false c e f z = Breaks.past h (inl (λ y. false_not_true (sym e ∙ rw y refl)))

  pub broken : 0 < own_rule_at t k → Breaks t k (own_rule_at t k)
  broken p = go (leb k rest.count) refl p
    where
      go : (c : Bool) → leb k rest.count ≡ c → 0 < own_rule_at t k → Breaks t k (own_rule_at t k)
      go true e = rw (among rest k entry mail (leb-true _ _ e)) (among-broken (leb-true _ _ e))
      go false e = rw (past rest k entry mail (leb-false _ _ e)) (past-broken (leb-false _ _ e))

  -- it is 0 where no rule is broken
  pub right-whole : Whole t k → own_rule_at t k ≡ 0
  right-whole w = go (own_rule_at t k) refl
    where
      go : (b : ℕ) → own_rule_at t k ≡ b → b ≡ 0
      go zero e = refl
      go (suc b) e = absurd (w (own_rule_at t k) (broken (omega arith)))

-- ---- the first pass: what it makes of each entry and mail; none breaks a rule then
module _ (t : Table) where
  abbrev passed : Table
  passed = own_pass (own_rules t) t

  pub broken-at : (i : ℕ) → i < most_tasks → get_or (own_rules t) i 0 ≡ own_rule_at t (suc i)
  unfolding own_rules
  broken-at i h = row_at (λ i. own_rule_at t (suc i)) 0 most_tasks i h

  pub own-entry : (k : ℕ) → 0 < k → k ≤ most_tasks → task_at passed.tasks k ≡ entry_after t.rest.count k (own_rule_at t k) (task_at t.tasks k)
  unfolding own_pass task_at
  own-entry zero g h = absurd (omega arith)
  own-entry (suc i) g h =
      row_at (λ i. entry_after t.rest.count (suc i) (get_or (own_rules t) i 0) (get_or t.tasks i no_task)) no_task most_tasks i (omega arith)
      ∙ ap (λ (b : ℕ). entry_after t.rest.count (suc i) b (get_or t.tasks i no_task)) (broken-at i (omega arith))

  pub own-mail : (k : ℕ) → 0 < k → k ≤ most_tasks → mail_at passed.rest.mail k ≡ mail_after t.rest.count k (own_rule_at t k) (mail_at t.rest.mail k)
  unfolding own_pass mail_at
  own-mail zero g h = absurd (omega arith)
  own-mail (suc i) g h =
      row_at (λ i. mail_after t.rest.count (suc i) (get_or (own_rules t) i 0) (get_or t.rest.mail i no_mail)) no_mail most_tasks i (omega arith)
      ∙ ap (λ (b : ℕ). mail_after t.rest.count (suc i) b (get_or t.rest.mail i no_mail)) (broken-at i (omega arith))

  -- an entry as the pass leaves it
  after-right : (k : ℕ) (e : Task) (x : Mail)
      → own_rule t.rest k (entry_after t.rest.count k (own_rule t.rest k e x) e) (mail_after t.rest.count k (own_rule t.rest k e x) x) ≡ 0
  unfolding entry_after mail_after
  after-right k e x = go (leb k t.rest.count) (eqb (own_rule t.rest k e x) 0) refl refl
    where
      go : (a b : Bool) → leb k t.rest.count ≡ a → eqb (own_rule t.rest k e x) 0 ≡ b
          → own_rule t.rest k (cond a (cond b e (slept e)) no_task) (cond (a and b) x no_mail) ≡ 0
      go true true f g = eqb-true _ _ g
      go true false f g = slept-right t.rest k e (leb-true _ _ f)
      go false b f g = blank-right t.rest k

  -- the rest is as it was, but for the mail
  as_before : (k : ℕ) (e : Task) (x : Mail) → own_rule t.rest k e x ≡ 0 → own_rule passed.rest k e x ≡ 0
  unfolding own_pass
  as_before k e x z = fewer-right t.rest passed.rest k e x refl refl refl (λ m h. h) z

  none-at : own_rule_at passed 0 ≡ 0
  unfolding task_at mail_at
  none-at = blank-right passed.rest 0

  far_at : (i : ℕ) → most_tasks ≤ i → own_rule_at passed (suc i) ≡ 0
  unfolding own_pass task_at mail_at
  far_at i h =
      rw (
        row-past (λ i. entry_after t.rest.count (suc i) (get_or (own_rules t) i 0) (get_or t.tasks i no_task)) no_task most_tasks i h,
        row-past (λ i. mail_after t.rest.count (suc i) (get_or (own_rules t) i 0) (get_or t.rest.mail i no_mail)) no_mail most_tasks i h,
      ) (blank-right passed.rest (suc i))

  pub own-pass : Owned (own_pass (own_rules t) t)
  unfolding own_pass
  own-pass = record { tasks = row-length _ most_tasks 0; mail = row-length _ most_tasks 0; own = at }
    where
      at : (k : ℕ) → own_rule_at passed k ≡ 0
      at zero = none-at
      at (suc i) = go (ltb i most_tasks) refl
        where
          go : (b : Bool) → ltb i most_tasks ≡ b → own_rule_at passed (suc i) ≡ 0
          go true h =
              let l : i < most_tasks = ltb-true _ _ h in
              rw (own-entry (suc i) (omega arith) (omega arith), own-mail (suc i) (omega arith) (omega arith))
              (as_before (suc i) _ _ (after-right (suc i) (task_at t.tasks (suc i)) (mail_at t.rest.mail (suc i))))
          go false h = far_at i (ltb-false _ _ h)
