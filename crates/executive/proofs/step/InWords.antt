-- Each test of the refusals says what the words say, and so the first that passes is the first that holds.
use Prim.Native.Nat.{ℕ, zero, suc, ◌+◌, ◌/◌, ◌%◌, ◌≤◌, ◌<◌}
use mathlib.Core.Path.{◌≡◌, refl, sym, ap, ◌∙◌}
use mathlib.Core.Logic.{◌↔◌, ◌≢◌, ◌⊎◌, inl, inr, ⊎_elim}
use mathlib.Core.Bool.{Bool, true, false, not, cond, ◌||◌, ◌&&◌}
use mathlib.Core.List.{List, [], ◌∷◌}
use native.Mathlib.Omega.{arith}
use native.Mathlib.Nat.{div-div-eq-div-mul}
use borrow.Author.Tests.{ltb-true, lt-ltb, leb-true, le-leb, eqb-true, eqb-false, eq-eqb, ne_eqb}
use lib.Dec.{leb, ltb, eqb}
use lib.ListN.{length, get_or}
use Rattle.records.specs.Firsts.{Refusal, first_of}
use Rattle.records.specs.declared.TaskNo.{TaskNo}
use Rattle.records.specs.declared.FlagNo.{FlagNo}
use Rattle.records.specs.declared.SubNo.{SubNo}
use Rattle.records.specs.declared.Kind.{Kind}
use Rattle.records.specs.declared.Kind.TheVariants as kind
use Rattle.records.specs.declared.Call.{Call}
use Rattle.records.specs.declared.Call.TheVariants as call
use Rattle.records.specs.Kinds.{length_of, is_call}
use Rattle.executive.specs.declared.State.{State}
use Rattle.executive.specs.declared.State.TheVariants.{Dormant, AwaitMessage}
use Rattle.executive.specs.declared.Sub.{Sub}
use Rattle.executive.specs.declared.Table.{Table}
use Rattle.executive.specs.Lists.{◌and◌, all_of}
use Rattle.executive.specs.Subprograms.{no_subprogram, sub_at, holds?, holds_any_of}
use Rattle.executive.specs.Numbers.{most_queued, most_sent, end_of_time}
use Rattle.executive.specs.Places.{nobody, never}
use Rattle.executive.specs.Plans.{caller, state_at}
use Rattle.executive.specs.States.{await_message, awaited_of, is_of, is_dormant, takes, takes_from}
use Rattle.executive.specs.Check.{is_well_formed}
use Rattle.executive.specs.Sheet.{no_such_task, marks_of}
use Rattle.executive.specs.Refusals.{kind_of_record, call_in, is_tick, nobody_active, bad_body, holds_it, holds_not, holds_any, names_caller, alarm_running, pool_full, mail_full, ends_time, refusals}
use Rattle.executive.specs.Step.{step_of}
use Rattle.executive.specs.Promises.InWords.{Bit, NoCall, NoTask, BadBody, Holds, HoldsIt, HoldsNot, HoldsOne, HoldsAny, NamesCaller, AlarmRunning, PoolFull, AwaitsCaller, MailFull, Case, cases, First, Given}
use Rattle.executive.proofs.Lists.Tests.{false_not_true, eqb_self}
use Rattle.executive.proofs.check.Decides.{well_formed-iff}
use Rattle.executive.proofs.step.FirstThatHolds.{step-number}
use Rattle.executive.proofs.states.Laws.{dormant-is, message_is}

-- ---- a test says a sentence
abbrev Says : Bool → Type 0 → Type 0
Says b P = (b ≡ true) ↔ P

says-not : (b : Bool) {P : Type 0} → Says b P → Says (not b) (P → ⊥)
says-not true x = (λ e. false_not_true e, λ n. absurd (n (x.0 refl)))
says-not false x = (λ e p. false_not_true (x.1 p), λ n. refl)

says-or : (a b : Bool) {P Q : Type 0} → Says a P → Says b Q → Says (a || b) (P ⊎ Q)
says-or true b x y = (λ e. inl (x.0 e), λ z. refl)
says-or false b x y = (λ e. inr (y.0 e), λ z. ⊎_elim (λ p. false_not_true (x.1 p)) (λ q. y.1 q) z)

says-and : (a b : Bool) {P Q : Type 0} → Says a P → Says b Q → Says (a and b) (P × Q)
says-and true b x y = (λ e. (x.0 refl, y.0 e), λ z. y.1 z.1)
says-and false b x y = (λ e. false_not_true e, λ z. x.1 z.0)

says_nothing : Says false ⊥
says_nothing = (λ e. false_not_true e, λ n. absurd n)

says_eq : (a b : ℕ) → Says (eqb a b) (a ≡ b)
says_eq a b = (eqb-true a b, eq-eqb a b)

says-lt : (a b : ℕ) → Says (ltb a b) (a < b)
says-lt a b = (ltb-true a b, lt-ltb a b)

says-le : (a b : ℕ) → Says (leb a b) (a ≤ b)
says-le a b = (leb-true a b, le-leb a b)

-- ---- bits: of two both are set, of two one is, of three one is
odd : (x : ℕ) → (x % 2 ≡ 1) ⊎ (x % 2 ≡ 0)
odd x = go (eqb (x % 2) 1) refl
  where
    go : (b : Bool) → eqb (x % 2) 1 ≡ b → (x % 2 ≡ 1) ⊎ (x % 2 ≡ 0)
    go true e = inl (eqb-true (x % 2) 1 e)
    go false e = inr (omega (arith, eqb-false (x % 2) 1 e))

some : (x : ℕ) → (x ≡ 0 → ⊥) → not (eqb x 0) ≡ true
some x n = rw (ne_eqb x 0 n) refl

not_none : (x : ℕ) → not (eqb x 0) ≡ true → x ≡ 0 → ⊥
not_none x e = (says-not (eqb x 0) (says_eq x 0)).0 e

both-of-two : (x : ℕ) → Says (eqb (x % 4) 3) ((x / 2 % 2 ≡ 1) × (x % 2 ≡ 1))
both-of-two x = (
  λ e. let y = eqb-true (x % 4) 3 e in (omega arith, omega arith),
  λ z. eq-eqb (x % 4) 3 (omega (arith, z.0, z.1)),
)

one_of_two : (x : ℕ) → Says (not (eqb (x % 4) 0)) ((x / 2 % 2 ≡ 1) ⊎ (x % 2 ≡ 1))
one_of_two x = (
  λ e.
      let n = not_none (x % 4) e in
      ⊎_elim (λ h. inl h) (λ h. ⊎_elim (λ l. inr l) (λ l. absurd (n (omega (arith, h, l)))) (odd x)) (odd (x / 2)),
  λ z. some (x % 4) (λ n. ⊎_elim (λ h. omega (arith, n, h)) (λ l. omega (arith, n, l)) z),
)

one_of_three : (x : ℕ) → Says (not (eqb (x % 8) 0)) ((x / 2 / 2 % 2 ≡ 1) ⊎ ((x / 2 % 2 ≡ 1) ⊎ (x % 2 ≡ 1)))
one_of_three x = (
  λ e.
      let n = not_none (x % 8) e in
      ⊎_elim (λ g. inl g)
      (λ g. inr (⊎_elim (λ h. inl h) (λ h. ⊎_elim (λ l. inr l) (λ l. absurd (n (omega (arith, g, h, l)))) (odd x)) (odd (x / 2))))
      (odd (x / 2 / 2)),
  λ z. some (x % 8) (λ n. ⊎_elim (λ g. omega (arith, n, g)) (λ y. ⊎_elim (λ h. omega (arith, n, h)) (λ l. omega (arith, n, l)) y) z),
)

module _ (o : ℕ) where
  half : o / 64 ≡ o / 32 / 2
  half = sym (div-div-eq-div-mul o 32 2)

  quarter : o / 64 ≡ o / 16 / 2 / 2
  quarter = half ∙ ap (λ x. x / 2) (sym (div-div-eq-div-mul o 16 2))

  both_bits : Says (eqb (o / 32 % 4) 3) (Bit 6 o × Bit 5 o)
  both_bits = rw half (both-of-two (o / 32))

  both-high-bits : Says (eqb (o / 64 % 4) 3) (Bit 7 o × Bit 6 o)
  both-high-bits = rw (sym (div-div-eq-div-mul o 64 2)) (both-of-two (o / 64))

  either-bit : Says (not (eqb (o / 32 % 4) 0)) (Bit 6 o ⊎ Bit 5 o)
  either-bit = rw half (one_of_two (o / 32))

  any-bit : Says (not (eqb (o / 16 % 8) 0)) (Bit 6 o ⊎ (Bit 5 o ⊎ Bit 4 o))
  any-bit = rw (quarter, sym (div-div-eq-div-mul o 16 2)) (one_of_three (o / 16))

-- ---- the kinds, the states and the calls that a test knows
says-no-call : (k : Kind) → Says (not (is_call k)) (NoCall k)
says-no-call k = (to k, λ z. ⊎_elim (λ e. rw e refl) (λ y. ⊎_elim (λ e. rw e refl) (λ x. ⊎_elim (λ e. rw e refl) (λ e. rw e refl) x) y) z)
  where
    to : (k : Kind) → not (is_call k) ≡ true → NoCall k
    to kind.Unknown e = inl refl
    to kind.Terminate e = false_not_true e
    to kind.Restart e = false_not_true e
    to kind.Pause e = false_not_true e
    to kind.CancelPause e = false_not_true e
    to kind.StartIfDormant e = false_not_true e
    to kind.StartOrQueue e = false_not_true e
    to kind.Flag e = false_not_true e
    to kind.Wait e = false_not_true e
    to kind.Alarm e = false_not_true e
    to kind.Tick e = false_not_true e
    to kind.Granule e = inr (inl refl)
    to kind.Task e = inr (inr (inl refl))
    to kind.End e = inr (inr (inr refl))
    to kind.Enter e = false_not_true e
    to kind.Exit e = false_not_true e
    to kind.Send e = false_not_true e
    to kind.Receive e = false_not_true e

says-dormant : (x : State) → Says (is_dormant x) (x ≡ Dormant)
says-dormant x = (dormant-is x, λ e. rw e refl)

-- ---- one of some subprograms is held by task k
record Held (k : TaskNo) (ss : List Sub) : Type 0 where
  pub number : ℕ
  pub there : number < length ss
  pub held : k.0 ≡ (get_or ss number no_subprogram).holder.0

some-held : (k : TaskNo) (ss : List Sub) → Says (holds_any_of k ss) (Held k ss)
unfolding holds_any_of all_of
some-held k [] = (λ e. false_not_true e, λ x. absurd (omega (arith, x.there)))
some-held k (s ∷ ss) = go (holds? k s) refl (some-held k ss)
  where
    go : (b : Bool) → holds? k s ≡ b → Says (holds_any_of k ss) (Held k ss) → Says (not (cond (not b) (all_of (λ s. not (holds? k s)) ss) false)) (Held k (s ∷ ss))
    go true e x = (λ f. record { number = 0; there = omega arith; held = eqb-true _ _ e }, λ h. refl)
    go false e x = (
      λ f. let y = x.0 f in record { number = suc y.number; there = omega (arith, y.there); held = y.held },
      λ h. back h.number h.there h.held,
    )
      where
        back : (n : ℕ) → n < length (s ∷ ss) → k.0 ≡ (get_or (s ∷ ss) n no_subprogram).holder.0 → holds_any_of k ss ≡ true
        back zero l h = absurd (eqb-false _ _ e h)
        back (suc n) l h = x.1 (record { number = n; there = omega arith; held = h })

-- ---- each number
module _ (t : Table) where
  says-no-task : (k : TaskNo) → Says (no_such_task t.rest k) (NoTask t k)
  says-no-task k = says-or (eqb k.0 0) (ltb t.rest.count k.0) (says_eq k.0 0) (says-lt t.rest.count k.0)

  says-bad : (c : Call) → Says (bad_body t c) (BadBody t c)
  unfolding bad_body
  says-bad call.Terminate = says_nothing
  says-bad (call.Restart p n) = both-high-bits p
  says-bad (call.Pause u n) = says-lt _ u
  says-bad (call.CancelPause k) = says-no-task k
  says-bad (call.StartIfDormant o k) = says-or (no_such_task t.rest k) _ (says-no-task k) (any-bit o)
  says-bad (call.StartOrQueue o k a) = says-or (no_such_task t.rest k) _ (says-no-task k) (both_bits o)
  says-bad (call.Flag o f) = says-or (ltb 31 f.0) (ltb 2 o) (says-lt 31 f.0) (says-lt 2 o)
  says-bad (call.Wait m mask) = says-or (ltb 1 m) (eqb mask 0) (says-lt 1 m) (says_eq mask 0)
  says-bad (call.Alarm u n f) = says-or _ (ltb 31 f.0) (says-lt _ u) (says-lt 31 f.0)
  says-bad call.Tick = says_nothing
  says-bad (call.Granule g) = says_nothing
  says-bad (call.Task p m) = says_nothing
  says-bad call.End = says_nothing
  says-bad (call.Enter m) = says-lt _ m.0
  says-bad (call.Exit m) = says-lt _ m.0
  says-bad (call.Send k x) = says-no-task k
  says-bad (call.Receive s) = says-lt _ s.0

  -- 13 of a 06, 14 of a 07, 15 of a 00 or a 01
  holds-said : (m : SubNo) → Says (holds? (caller t) (sub_at t.rest m.0)) (Holds t m.0)
  holds-said m = says_eq (caller t).0 (sub_at t.rest m.0).holder.0

  any-said : Says (holds_any_of (caller t) t.rest.subs) (HoldsOne t)
  any-said = let x = some-held (caller t) t.rest.subs in (
    λ e. let y = x.0 e in record { number = y.number; there = y.there; held = y.held },
    λ y. x.1 (record { number = y.number; there = y.there; held = y.held }),
  )

  -- 7 and 8 of a 05, 9 of a 0B, 10 of a tick
  caller-said : (o : ℕ) (k : TaskNo) → Says (eqb k.0 (caller t).0 and not (eqb (o / 32 % 4) 0)) ((k.0 ≡ (caller t).0) × (Bit 6 o ⊎ Bit 5 o))
  caller-said o k = says-and _ _ (says_eq k.0 (caller t).0) (either-bit o)

  full-said : (k : TaskNo) → Says (not (is_dormant (state_at t k)) and leb most_queued t.rest.queued) ((state_at t k ≢ Dormant) × (most_queued ≤ t.rest.queued))
  full-said k = says-and _ _ (says-not _ (says-dormant (state_at t k))) (says-le 32 t.rest.queued)

  -- 16 of a 14
  awaits_said : (c : TaskNo) (s : State) → Says (takes c.0 s) ((s ≡ AwaitMessage c) ⊎ (s ≡ AwaitMessage nobody))
  awaits_said c s = (to (is_of await_message s) refl, ⊎_elim (λ e. rw (e, eqb_self c.0) (or_true (eqb c.0 0))) (λ e. rw e refl))
    where
      or_true : (b : Bool) → b || true ≡ true
      or_true true = refl
      or_true false = refl

      to : (b : Bool) → is_of await_message s ≡ b → b && takes_from (awaited_of s) c.0 ≡ true → (s ≡ AwaitMessage c) ⊎ (s ≡ AwaitMessage nobody)
      to true w e = by (eqb (awaited_of s) 0) refl e
        where
          by : (b : Bool) → eqb (awaited_of s) 0 ≡ b → b || eqb (awaited_of s) c.0 ≡ true → (s ≡ AwaitMessage c) ⊎ (s ≡ AwaitMessage nobody)
          by true z e = let q = eqb-true (awaited_of s) 0 z in inr (message_is s w ∙ ap (λ (n : ℕ). AwaitMessage (record { 0 = n })) q)
          by false z e = let q = eqb-true (awaited_of s) c.0 e in inl (message_is s w ∙ ap (λ (n : ℕ). AwaitMessage (record { 0 = n })) q)
      to false w e = false_not_true e

  crowded-said : (k : TaskNo) → Says (not (takes (caller t).0 (state_at t k)) and leb most_sent t.rest.sent) ((AwaitsCaller t k → ⊥) × (most_sent ≤ t.rest.sent))
  crowded-said k = says-and _ _ (says-not _ (awaits_said (caller t) (state_at t k))) (says-le 32 t.rest.sent)

  running-said : (f : FlagNo) → Says (not (eqb (get_or t.rest.alarms f.0 never).0 0)) ((get_or t.rest.alarms f.0 never).0 ≢ 0)
  running-said f = says-not _ (says_eq (get_or t.rest.alarms f.0 never).0 0)

  late-said : Says (ltb end_of_time (t.rest.clock.0 + t.rest.granule)) (end_of_time < t.rest.clock.0 + t.rest.granule)
  late-said = says-lt end_of_time (t.rest.clock.0 + t.rest.granule)

  -- what the sheet says of some kinds only tells the kind
  pub record Restarts (c : Call) : Type 0 where
    pub parameter : ℕ
    pub count : ℕ
    pub call : c ≡ call.Restart parameter count

  pub record Tells (c : Call) : Type 0 where
    pub tick : is_tick t c ≡ true → c ≡ call.Tick
    pub inside : holds_it t c ≡ true → HoldsIt t c
    pub outside : holds_not t c ≡ true → HoldsNot t c
    pub holding : holds_any t c ≡ true → HoldsAny t c
    pub caller : names_caller t c ≡ true → NamesCaller t c
    pub running : alarm_running t c ≡ true → AlarmRunning t c
    pub full : pool_full t c ≡ true → PoolFull t c
    pub crowded : mail_full t c ≡ true → MailFull t c
    pub late : ends_time t c ≡ true → (c ≡ call.Tick) × (end_of_time < t.rest.clock.0 + t.rest.granule)
    pub skips : (marks_of t c).skipped ≢ 0 → Restarts c

  abbrev Silent : Call → Type 0
  Silent c = (is_tick t c ≡ false) × (names_caller t c ≡ false) × (alarm_running t c ≡ false) × (pool_full t c ≡ false) × (ends_time t c ≡ false) × (mail_full t c ≡ false)

  none : {P : Type 0} {b : Bool} → b ≡ false → b ≡ true → P
  none f e = false_not_true (sym f ∙ e)

  -- of a subprogram's call, or one that ends a run, nothing else is told; of others, nothing at all
  held_tells : (c : Call) → Silent c → (holds_it t c ≡ true → HoldsIt t c) → (holds_not t c ≡ true → HoldsNot t c) → (holds_any t c ≡ true → HoldsAny t c)
      → ((marks_of t c).skipped ≢ 0 → Restarts c) → Tells c
  held_tells c s i o h k = record { tick = none s.0; inside = i; outside = o; holding = h; caller = none s.1; running = none s.2; full = none s.3; crowded = none s.5; late = none s.4; skips = k }

  nothing_tells : (c : Call) → Silent c → holds_it t c ≡ false → holds_not t c ≡ false → holds_any t c ≡ false → (marks_of t c).skipped ≡ 0 → Tells c
  nothing_tells c s i o h z = held_tells c s (none i) (none o) (none h) (λ n. absurd (n z))

  pub tells : (c : Call) → Tells c
  unfolding holds_it holds_not holds_any names_caller alarm_running pool_full mail_full ends_time marks_of
  tells call.Terminate = held_tells _ (refl, refl, refl, refl, refl, refl) (none refl) (none refl) (λ e. (inl refl, any-said.0 e)) (λ z. absurd (z refl))
  tells (call.Restart p n) = held_tells _ (refl, refl, refl, refl, refl, refl) (none refl) (none refl) (λ e. (inr (record { parameter = p; count = n; call = refl }), any-said.0 e)) (λ z. record { parameter = p; count = n; call = refl })
  tells (call.Pause u n) = nothing_tells _ (refl, refl, refl, refl, refl, refl) refl refl refl refl
  tells (call.CancelPause k) = nothing_tells _ (refl, refl, refl, refl, refl, refl) refl refl refl refl
  tells (call.StartIfDormant o k) = nothing_tells _ (refl, refl, refl, refl, refl, refl) refl refl refl refl
  tells (call.StartOrQueue o k a) = record {
    tick = none refl;
    inside = none refl;
    outside = none refl;
    holding = none refl;
    caller = λ e. record { option = o; target = k; argument = a; call = refl; said = (caller-said o k).0 e };
    running = none refl;
    full = λ e. record { option = o; target = k; argument = a; call = refl; said = (full-said k).0 e };
    crowded = none refl;
    late = none refl;
    skips = λ z. absurd (z refl);
  }
  tells (call.Flag o f) = nothing_tells _ (refl, refl, refl, refl, refl, refl) refl refl refl refl
  tells (call.Wait m mask) = nothing_tells _ (refl, refl, refl, refl, refl, refl) refl refl refl refl
  tells (call.Alarm u n f) = record {
    tick = none refl;
    inside = none refl;
    outside = none refl;
    holding = none refl;
    caller = none refl;
    running = λ e. record { unit = u; count = n; flag = f; call = refl; said = (running-said f).0 e };
    full = none refl;
    crowded = none refl;
    late = none refl;
    skips = λ z. absurd (z refl);
  }
  tells call.Tick = record {
    tick = λ e. refl;
    inside = none refl;
    outside = none refl;
    holding = none refl;
    caller = none refl;
    running = none refl;
    full = none refl;
    crowded = none refl;
    late = λ e. (refl, late-said.0 e);
    skips = λ z. absurd (z refl);
  }
  tells (call.Granule g) = nothing_tells _ (refl, refl, refl, refl, refl, refl) refl refl refl refl
  tells (call.Task p m) = nothing_tells _ (refl, refl, refl, refl, refl, refl) refl refl refl refl
  tells call.End = nothing_tells _ (refl, refl, refl, refl, refl, refl) refl refl refl refl
  tells (call.Enter m) =
      held_tells _ (refl, refl, refl, refl, refl, refl) (λ e. record { subprogram = m; call = refl; said = (holds-said m).0 e }) (none refl) (none refl) (λ z. absurd (z refl))
  tells (call.Exit m) =
      held_tells _ (refl, refl, refl, refl, refl, refl) (none refl) (λ e. record { subprogram = m; call = refl; said = (says-not _ (holds-said m)).0 e }) (none refl) (λ z. absurd (z refl))
  tells (call.Send k x) = record {
    tick = none refl;
    inside = none refl;
    outside = none refl;
    holding = none refl;
    caller = none refl;
    running = none refl;
    full = none refl;
    crowded = λ e. record { addressee = k; text = x; call = refl; said = (crowded-said k).0 e };
    late = none refl;
    skips = λ z. absurd (z refl);
  }
  tells (call.Receive s) = nothing_tells _ (refl, refl, refl, refl, refl, refl) refl refl refl refl

  module _ (c : Call) where
    says-tick : Says (is_tick t c) (c ≡ call.Tick)
    says-tick = ((tells c).tick, λ e. rw e refl)

    says-idle : Says (nobody_active t c) ((c ≢ call.Tick) × (t.ready ≡ 0))
    unfolding nobody_active
    says-idle = says-and (not (is_tick t c)) (eqb t.ready 0) (says-not (is_tick t c) says-tick) (says_eq t.ready 0)

    says-inside : Says (holds_it t c) (HoldsIt t c)
    unfolding holds_it
    says-inside = ((tells c).inside, λ x. rw x.call ((holds-said x.subprogram).1 x.said))

    says-outside : Says (holds_not t c) (HoldsNot t c)
    unfolding holds_not
    says-outside = ((tells c).outside, λ x. rw x.call ((says-not _ (holds-said x.subprogram)).1 x.said))

    says-holding : Says (holds_any t c) (HoldsAny t c)
    unfolding holds_any
    says-holding = ((tells c).holding, λ x. ⊎_elim (λ e. rw e (any-said.1 x.1)) (λ r. rw r.call (any-said.1 x.1)) x.0)

    says-caller : Says (names_caller t c) (NamesCaller t c)
    unfolding names_caller
    says-caller = ((tells c).caller, λ x. rw x.call ((caller-said x.option x.target).1 x.said))

    says-running : Says (alarm_running t c) (AlarmRunning t c)
    unfolding alarm_running
    says-running = ((tells c).running, λ x. rw x.call ((running-said x.flag).1 x.said))

    says-full : Says (pool_full t c) (PoolFull t c)
    unfolding pool_full
    says-full = ((tells c).full, λ x. rw x.call ((full-said x.target).1 x.said))

    says-crowded : Says (mail_full t c) (MailFull t c)
    unfolding mail_full
    says-crowded = ((tells c).crowded, λ x. rw x.call ((crowded-said x.addressee).1 x.said))

    says-late : Says (ends_time t c) ((c ≡ call.Tick) × (end_of_time < t.rest.clock.0 + t.rest.granule))
    unfolding ends_time
    says-late = ((tells c).late, λ x. rw x.0 (late-said.1 x.1))

-- ---- the list: the same numbers, and each test says its sentence
abbrev Matches : List Refusal → List Case → Type 0
Matches [] [] = Unit {0}
Matches [] (c ∷ cs) = ⊥
Matches (r ∷ rs) [] = ⊥
Matches (r ∷ rs) (c ∷ cs) = (r.number ≡ c.number) × Says r.given c.holds × Matches rs cs

first-is : (rs : List Refusal) (cs : List Case) → Matches rs cs → (n : ℕ) → (first_of rs ≡ n) ↔ First n cs
unfolding first_of
first-is [] [] m n = (λ e. sym e, λ e. sym e)
first-is [] (c ∷ cs) m n = absurd m
first-is (r ∷ rs) [] m n = absurd m
first-is (r ∷ rs) (c ∷ cs) m n = go r.given m.1 (first-is rs cs m.2 n)
  where
    go : (b : Bool) → Says b c.holds → (first_of rs ≡ n) ↔ First n cs
        → (cond b r.number (first_of rs) ≡ n) ↔ First n (c ∷ cs)
    go true x ih = (λ e. inl (x.0 refl, sym e ∙ m.0), λ z. ⊎_elim (λ h. m.0 ∙ sym h.1) (λ h. absurd (h.0 (x.0 refl))) z)
    go false x ih = (λ e. inr (λ h. false_not_true (x.1 h), ih.0 e), λ z. ⊎_elim (λ h. false_not_true (x.1 h.0)) (λ h. ih.1 h.1) z)

matches : (t : Table) (s : List ℕ) → Matches (refusals t s) (cases t s)
unfolding refusals
matches t s =
    let c : Call = call_in s in (
      refl,
      says-not (is_well_formed t) (well_formed-iff t),
      (
        refl,
        says_eq (length s) 0,
        (
          refl,
          says-no-call (kind_of_record s),
          (
            refl,
            says-not _ (says_eq (length s) (length_of (kind_of_record s))),
            (
              refl,
              says-idle t c,
              (
                refl,
                says-bad t c,
                (
                  refl,
                  says-inside t c,
                  (
                    refl,
                    says-outside t c,
                    (refl, says-holding t c, (refl, says-caller t c, (refl, says-running t c, (refl, says-full t c, (refl, says-crowded t c, (refl, says-late t c, tt)))))),
                  ),
                ),
              ),
            ),
          ),
        ),
      ),
    )

pub given : (t : Table) (s : List ℕ) (n : ℕ) → ((step_of t s).answer.number ≡ n) ↔ Given t s n
given t s n = let x = first-is (refusals t s) (cases t s) (matches t s) n in (λ e. x.0 (sym (step-number t s) ∙ e), λ g. step-number t s ∙ x.1 g)
