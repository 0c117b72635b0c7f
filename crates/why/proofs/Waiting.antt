-- Whom a task waits on, as a number: 0 for nobody, else a task of the table.
use Prim.Native.Nat.{ℕ, zero, suc, ◌+◌, ◌-◌, ◌≤◌, ◌<◌}
use mathlib.Core.Path.{◌≡◌, refl, sym, ap, ◌∙◌}
use mathlib.Core.Logic.{◌⊎◌, inl, inr}
use mathlib.Core.List.{List, [], ◌∷◌}
use native.Mathlib.Omega.{arith}
use borrow.Author.Tests.{ltb-false, leb-true, leb-false, eq-eqb}
use lib.Dec.{ltb, leb}
use lib.ListN.{length, get_or, take}
use Rattle.records.specs.declared.TaskNo.{TaskNo}
use Rattle.records.specs.declared.SubNo.{SubNo}
use Rattle.executive.specs.declared.State.TheVariants as state
use Rattle.executive.specs.declared.Task.{Task}
use Rattle.executive.specs.declared.Request.{Request}
use Rattle.executive.specs.declared.Sub.{Sub}
use Rattle.executive.specs.declared.Table.{Table}
use Rattle.executive.specs.Lists.{one, sum_of}
use Rattle.executive.specs.Places.{no_request, task_at}
use Rattle.executive.specs.Pool.{requests}
use Rattle.executive.specs.States.{dormant, awaited_of, is, waits_for}
use Rattle.executive.specs.Queue.{count}
use Rattle.executive.specs.Table.{items}
use Rattle.executive.specs.Subprograms.{sub_at, line_of}
use Rattle.executive.specs.WellFormed.{WellFormed, Line}
use Rattle.why.specs.declared.Cause.{Cause}
use Rattle.why.specs.declared.Cause.TheVariants as cause
use Rattle.why.specs.declared.Reasons.{Reasons}
use Rattle.why.specs.declared.On.{On}
use Rattle.why.specs.Causes.{state_at, holder_at, cause_of, NamedBy, Holds, Names, WaitsOn}
use Rattle.why.specs.Paths.{by_link, by_cause}
use Rattle.why.proofs.Searching.{decide}
use Rattle.why.proofs.Causing.{target_is}
use Rattle.why.proofs.Holding.{nought, holds_of, only, run_pos}

-- the task that a cause names
abbrev pub named : Cause → ℕ
named cause.Dormant = 0
named cause.Active = 0
named (cause.Ready n) = 0
named (cause.Paused at) = 0
named (cause.Due at) = 0
named (cause.Flags m x) = 0
named (cause.Start p j) = j.0
named (cause.EndOfRequest p j) = j.0
named (cause.EndOfRun j) = j.0
named (cause.Subprogram m j) = j.0
named (cause.Message s) = 0

abbrev pub onto : Table → ℕ → ℕ
onto t k = named (cause_of t k)

-- nobody waits on nobody
pub onto-nobody : (t : Table) → onto t 0 ≡ 0
unfolding cause_of task_at
onto-nobody t = refl

names-named : (c : Cause) (j : ℕ) → Names c j → named c ≡ j
names-named cause.Dormant j n = absurd n
names-named cause.Active j n = absurd n
names-named (cause.Ready i) j n = absurd n
names-named (cause.Paused at) j n = absurd n
names-named (cause.Due at) j n = absurd n
names-named (cause.Flags m x) j n = absurd n
names-named (cause.Start p i) j n = n
names-named (cause.EndOfRequest p i) j n = n
names-named (cause.EndOfRun i) j n = n
names-named (cause.Subprogram m i) j n = n
names-named (cause.Message s) j n = absurd n

named-names : (c : Cause) → 0 < named c → Names c (named c)
named-names cause.Dormant h = absurd (omega arith)
named-names cause.Active h = absurd (omega arith)
named-names (cause.Ready i) h = absurd (omega arith)
named-names (cause.Paused at) h = absurd (omega arith)
named-names (cause.Due at) h = absurd (omega arith)
named-names (cause.Flags m x) h = absurd (omega arith)
named-names (cause.Start p i) h = refl
named-names (cause.EndOfRequest p i) h = refl
named-names (cause.EndOfRun i) h = refl
named-names (cause.Subprogram m i) h = refl
named-names (cause.Message s) h = absurd (omega arith)

-- no element adds to a sum that is 0
none-adds : {A : Type 0} (f : A → ℕ) (d : A) (l : List A) (i : ℕ) → sum_of f l ≡ 0 → i < length l → f (get_or l i d) ≡ 0
unfolding sum_of
none-adds f d [] i e h = absurd (omega arith)
none-adds f d (x ∷ xs) zero e h = omega arith
none-adds f d (x ∷ xs) (suc i) e h = none-adds f d xs i (omega arith) (omega arith)

-- whoever waits for a subprogram stands in its line, so that it is not free
has-holder : (s : Sub) (ts : List Task) (k : ℕ) (m : SubNo) → (s.holder.0 ≡ 0 → s.waiting ≡ 0) → Line (waits_for m.0) ts (line_of s)
    → (task_at ts k).state ≡ state.AwaitSub m → 0 < s.holder.0
unfolding count items
has-holder s ts k m free l e =
    nought s.holder.0 (λ z.
    let a : one (waits_for m.0 (task_at ts k).state) ≡ 1 = ap (λ x. one (waits_for m.0 x)) e ∙ ap one (eq-eqb m.0 m.0 refl) in
    let b : count k (items ts (line_of s)) ≡ 0 = ap (λ n. count k (items ts (take n s.line))) (free z) in
    absurd (omega (arith, a, b, l.exact k)))

-- ---- in a well-formed table
module _ (t : Table) (w : WellFormed t) where
  -- the number of a task of it
  abbrev pub Within : ℕ → Type 0
  Within k = (0 < k) × (k ≤ t.rest.count)

  -- the task of a queued request
  module _ (i : ℕ) (h : i < length (requests t.rest)) where
    abbrev target : ℕ
    target = (get_or (requests t.rest) i no_request).target.0

    target-some : 0 < target
    unfolding task_at
    target-some = nought target (λ z.
        let e : is dormant (task_at t.tasks target).state ≡ 0 = none-adds (λ (r : Request). is dormant (task_at t.tasks r.target.0).state) no_request (requests t.rest) i w.busy h in
        let f : is dormant (task_at t.tasks 0).state ≡ 0 = rw z at e in
        omega arith)

    target-within : target ≤ t.rest.count
    target-within =
        let e = none-adds (λ (r : Request). one (ltb t.rest.count r.target.0) + one (ltb t.rest.count r.start_waiter.0) + one (ltb t.rest.count r.end_waiter.0)) no_request (requests t.rest) i w.numbers.names h in
        decide (ltb t.rest.count target)
        (λ y. absurd (let z : one (ltb t.rest.count target) ≡ 1 = ap one y in omega arith))
        (λ y. ltb-false t.rest.count target y)

  module _ (v : Request → TaskNo) (k p : ℕ) (j : TaskNo) (n : NamedBy v (requests t.rest) k p j) where
    at : p - 1 < length (requests t.rest)
    at = omega (arith, n.from, n.to)

    same : (get_or (requests t.rest) (p - 1) no_request).target.0 ≡ j.0
    same = ap (λ (x : TaskNo). x.0) n.target

    request_within : Within j.0
    request_within = rw (← same) (target-some (p - 1) at, target-within (p - 1) at)

  module _ (k : ℕ) (pos : 0 < k) where
    run-within : (j : ℕ) → (task_at t.tasks j).end_waiter.0 ≡ k → Within j
    run-within j e = (
      run_pos k t.tasks pos j e,
      decide (leb j t.rest.count) (λ h. leb-true j t.rest.count h)
          (λ h. absurd (omega (arith, sym e ∙ ap (λ (x : Task). x.end_waiter.0) (w.numbers.beyond j (leb-false j t.rest.count h))))),
    )

    -- the holder of a subprogram that k waits for
    holder-within : (m : SubNo) (j : TaskNo) → state_at t k ≡ state.AwaitSub m → holder_at m.0 t.rest.subs ≡ j → Within j.0
    holder-within m j e f =
        let a : awaited_of (state_at t k) ≤ 7 = w.numbers.inside k (rw e refl) in
        let b : m.0 ≤ 7 = rw e at a in
        let l : Line (waits_for m.0) t.tasks (line_of (sub_at t.rest m.0)) = w.subprograms.lines m.0 (omega arith) in
        let h : 0 < (sub_at t.rest m.0).holder.0 = has-holder (sub_at t.rest m.0) t.tasks k m (w.subprograms.free m.0) l e in
        let g : (sub_at t.rest m.0).holder.0 ≡ j.0 = ap (λ (x : TaskNo). x.0) f in
        (omega arith, omega (arith, w.numbers.holders m.0))

    -- the cause c, which holds, names nobody and ends the path, or names a task of the table, and the path goes on there
    pub leads : (c : Cause) → Holds t k c
        → ((named c ≡ 0) × ((go : On → Reasons) (p : Reasons) → by_cause go c p ≡ p))
        ⊎ (Within (named c) × ((go : TaskNo → Reasons) (p : Reasons) → by_cause (by_link go t) c p ≡ go (record { 0 = named c })))
    leads cause.Dormant h = inl (refl, λ go p. refl)
    leads cause.Active h = inl (refl, λ go p. refl)
    leads (cause.Ready n) h = inl (refl, λ go p. refl)
    leads (cause.Paused at) h = inl (refl, λ go p. refl)
    leads (cause.Due at) h = inl (refl, λ go p. refl)
    leads (cause.Flags m x) h = inl (refl, λ go p. refl)
    leads (cause.Start p j) h =
        inr (request_within _ k p j h.1, λ go q. ap go (sym (target_is (requests t.rest) p h.1.from) ∙ h.1.target))
    leads (cause.EndOfRequest p j) h =
        inr (request_within _ k p j h.1, λ go q. ap go (sym (target_is (requests t.rest) p h.1.from) ∙ h.1.target))
    leads (cause.EndOfRun j) h = inr (run-within j.0 h.1, λ go p. refl)
    leads (cause.Subprogram m j) h = inr (holder-within m j h.0 h.1, λ go p. ap go h.1)
    leads (cause.Message s) h = inl (refl, λ go p. refl)

    -- ---- waiting is by the one cause
    within_of : (c : Cause) → Holds t k c → (j : ℕ) → Names c j → Within j
    within_of cause.Dormant h j n = absurd n
    within_of cause.Active h j n = absurd n
    within_of (cause.Ready i) h j n = absurd n
    within_of (cause.Paused at) h j n = absurd n
    within_of (cause.Due at) h j n = absurd n
    within_of (cause.Flags m x) h j n = absurd n
    within_of (cause.Start p i) h j n = rw (← n) (request_within _ k p i h.1)
    within_of (cause.EndOfRequest p i) h j n = rw (← n) (request_within _ k p i h.1)
    within_of (cause.EndOfRun i) h j n = rw (← n) (run-within i.0 h.1)
    within_of (cause.Subprogram m i) h j n = rw (← n) (holder-within m i h.0 h.1)
    within_of (cause.Message s) h j n = absurd n

    pub waits-onto : (j : ℕ) → WaitsOn t k j → (onto t k ≡ j) × Within j
    waits-onto j x = (
      ap named (sym (only t w k pos x.0 x.1.1)) ∙ names-named x.0 j x.1.0,
      within_of x.0 x.1.1 j x.1.0,
    )

    pub onto-waits : 0 < onto t k → WaitsOn t k (onto t k)
    onto-waits h = (cause_of t k, (named-names (cause_of t k) h, holds_of t w k pos))
