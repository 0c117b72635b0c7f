-- A clean table stays as it is: each pass has nothing to do, and so has a round.
use Prim.Native.Nat.{ℕ, zero, suc, ◌≤◌, ◌<◌}
use mathlib.Core.Path.{◌≡◌, refl, sym, ap, subst, ◌∙◌}
use mathlib.Core.Bool.{Bool, true, false, not, cond, ◌||◌}
use mathlib.Core.List.{List}
use native.Mathlib.Omega.{arith}
use borrow.Author.Tests.{leb-true}
use lib.Dec.{leb, ltb}
use lib.ListN.{length, get_or}
use lib.Seq.{length-take-le}
use Rattle.executive.specs.declared.State.{State}
use Rattle.executive.specs.declared.Task.{Task}
use Rattle.executive.specs.declared.Sub.{Sub}
use Rattle.executive.specs.declared.Rest.{Rest}
use Rattle.executive.specs.declared.Table.{Table}
use Rattle.executive.specs.Numbers.{most_tasks}
use Rattle.executive.specs.Lists.{one, pad, ◌and◌}
use Rattle.executive.specs.Places.{nobody, never, no_task, no_request, task_at}
use Rattle.executive.specs.States.{await_start, await_end, await_sub, awaited_of, is_of}
use Rattle.executive.specs.Rest.{remade, with_subs, with_post}
use Rattle.executive.specs.Pool.{requests}
use Rattle.executive.specs.Messages.{no_message, no_mail, letters, mail_at}
use Rattle.executive.specs.Subprograms.{no_subprogram}
use Rattle.executive.specs.Letters.{all_that}
use Rattle.executive.specs.Check.{is_nobody, message_in_range}
use Rattle.executive.proofs.Assured.{and_true, length-pad, take-le, nobody-is, Lt, lt_yes, lt_no, ltb-is, Le, le-no, leb-is}
use Rattle.mender.specs.Rows.{row}
use Rattle.mender.specs.Rules.{own_rule_at, own_rules}
use Rattle.mender.specs.Passes.{laid, entry_after, mail_after, entries_after, mails_after, own_pass, keeps_request, queued_pass, named_at, is_holder, sub_after, alarm_after, held_pass, is_lost, waiter_after, waiter_pass, link_pass}
use Rattle.mender.specs.Rounds.{settled, round, rounds_of}
use Rattle.mender.specs.Mending.{mendable, Typed}
use Rattle.mender.proofs.Rows.{row_at, row-past, row_same}
use Rattle.mender.proofs.Filters.{that_same, that_padded}
use Rattle.mender.proofs.Passed.{Linked, Clean}
use Rattle.mender.proofs.OwnRules.{beyond-right}
use Rattle.mender.proofs.LinkPass.{pool-places, link_linked}
use Rattle.mender.proofs.Standing.{link_same}
use Rattle.mender.proofs.Clean.{round_clean}

-- a row of what stands in a list of n is that list
row_is : {A : Type 0} (f : ℕ → A) (d : A) (n : ℕ) (xs : List A) → length xs ≡ n → ((j : ℕ) → f j ≡ get_or xs j d) → row f n 0 ≡ xs
row_is f d n xs l h = rw (← l) (row_same f d xs (λ j g. h j))

module _ (u : Table) (c : Clean u) where
  abbrev r : Rest
  r = u.rest

  abbrev n : ℕ
  n = r.count

  abbrev ts : List Task
  ts = u.tasks

  -- ---- own entries: no rule is broken, and past the count entries are blank
  own-zero : (i : ℕ) → get_or (own_rules u) i 0 ≡ 0
  unfolding own_rules
  own-zero i = go (ltb i 16) (ltb-is i 16)
    where
      go : (b : Bool) → Lt i 16 b → get_or (row (λ j. own_rule_at u (suc j)) 16 0) i 0 ≡ 0
      go true (lt_yes h) = row_at (λ j. own_rule_at u (suc j)) 0 16 i h ∙ c.owned.own (suc i)
      go false (lt_no h) = row-past (λ j. own_rule_at u (suc j)) 0 16 i h

  blank : (k : ℕ) → n < k → (task_at ts k ≡ no_task) × (mail_at r.mail k ≡ no_mail)
  blank k h = beyond-right r k (task_at ts k) (mail_at r.mail k) (c.owned.own k) h

  entry-stays : (i : ℕ) → entry_after n (suc i) (get_or (own_rules u) i 0) (get_or ts i no_task) ≡ get_or ts i no_task
  unfolding entry_after task_at
  entry-stays i = rw (own-zero i) (go (leb (suc i) n) (leb-is (suc i) n))
    where
      go : (b : Bool) → Le (suc i) n b → cond b (get_or ts i no_task) no_task ≡ get_or ts i no_task
      go true h = refl
      go false (le-no h) = sym (blank (suc i) h).0

  mail-stays : (i : ℕ) → mail_after n (suc i) (get_or (own_rules u) i 0) (get_or r.mail i no_mail) ≡ get_or r.mail i no_mail
  unfolding mail_after mail_at
  mail-stays i = rw (own-zero i) (go (leb (suc i) n) (leb-is (suc i) n))
    where
      go : (b : Bool) → Le (suc i) n b → cond (b and true) (get_or r.mail i no_mail) no_mail ≡ get_or r.mail i no_mail
      go true h = refl
      go false (le-no h) = sym (blank (suc i) h).1

  own_same : own_pass (own_rules u) u ≡ u
  unfolding own_pass
  own_same =
      let p : entries_after n (own_rules u) ts ≡ ts =
      row_is (λ i. entry_after n (suc i) (get_or (own_rules u) i 0) (get_or ts i no_task)) no_task 16 ts c.owned.tasks entry-stays in
      let q : mails_after n (own_rules u) r.mail ≡ r.mail =
      row_is (λ i. mail_after n (suc i) (get_or (own_rules u) i 0) (get_or r.mail i no_mail)) no_mail 16 r.mail c.owned.mail mail-stays in
      λ i. laid (p i) (with_post r.messages r.sent (q i) r) u

  -- ---- messages and requests: all that wait stay, and they stand closed up
  asked-same : all_that (keeps_request n ts) r.pool ≡ requests r
  asked-same =
      ap (all_that (keeps_request n ts)) c.queued.pool.clear ∙ that_padded (keeps_request n ts) no_request refl 32 (requests r)
      ∙ that_same (keeps_request n ts) (requests r) c.queued.asked

  sent-same : all_that (message_in_range n) r.messages ≡ letters r
  sent-same =
      ap (all_that (message_in_range n)) c.queued.messages.clear ∙ that_padded (message_in_range n) no_message refl 32 (letters r)
      ∙ that_same (message_in_range n) (letters r) c.queued.sent

  message_places : length r.messages ≡ 32
  message_places = ap length c.queued.messages.clear ∙ length-pad no_message 32 (letters r) (omega (arith, take-le r.sent r.messages, c.queued.messages.room))

  queued-same : queued_pass u ≡ u
  unfolding queued_pass
  queued-same =
      let p : pad 32 no_request (all_that (keeps_request n ts) r.pool) ≡ r.pool = ap (pad 32 no_request) asked-same ∙ sym c.queued.pool.clear in
      let k : length (all_that (keeps_request n ts) r.pool) ≡ r.queued =
      ap length asked-same ∙ length-take-le r.queued r.pool (omega (arith, pool-places r c.queued.pool, c.queued.pool.room)) in
      let m : pad 32 no_message (all_that (message_in_range n) r.messages) ≡ r.messages = ap (pad 32 no_message) sent-same ∙ sym c.queued.messages.clear in
      let s : length (all_that (message_in_range n) r.messages) ≡ r.sent =
      ap length sent-same ∙ length-take-le r.sent r.messages (omega (arith, message_places, c.queued.messages.room)) in
      λ i. laid ts (remade r.clock r.flags r.alarms (p i) (k i) (with_post (m i) (s i) r.mail r)) u

  -- ---- subprograms and alarms
  sub-stays : (m : ℕ) → sub_after n ts (get_or r.subs m no_subprogram) ≡ get_or r.subs m no_subprogram
  unfolding sub_after
  sub-stays m = go (is_holder n ts s.holder) (c.held.holders m)
    where
      s : Sub
      s = get_or r.subs m no_subprogram

      free : (b : Bool) → b || false ≡ true → b ≡ true
      free true e = refl
      free false e = e

      go : (b : Bool) → is_nobody s.holder || b ≡ true → record { holder = cond b s.holder nobody; line = s.line; waiting = s.waiting } ≡ s
      go true e = refl
      go false e =
          let p = nobody-is s.holder (free (is_nobody s.holder) e) in
          λ i. record { holder = sym p i; line = s.line; waiting = s.waiting }

  held_same : held_pass u ≡ u
  unfolding held_pass
  held_same =
      let p = row_is (λ i. sub_after n ts (get_or r.subs i no_subprogram)) no_subprogram 8 r.subs c.held.subs sub-stays in
      let q = row_is (λ i. alarm_after r.clock.0 (get_or r.alarms i never)) never 32 r.alarms c.held.sized (λ i. rw (c.held.alarms i) refl) in
      λ i. laid ts (with_subs (p i) (remade r.clock r.flags (q i) r.pool r.queued r)) u

  -- ---- waiters: where bs has those who are named, nobody is lost
  module _ (bs : List Bool) (k : Linked bs ts (requests r)) where
    found : (w : ℕ) → 0 < w → is_lost r.subs (named_at bs w) (task_at ts w).state ≡ false
    unfolding is_lost
    found w g = go (is_of await_start s) (is_of await_end s) (is_of await_sub s) refl refl refl
      where
        s : State
        s = (task_at ts w).state

        named : (b x : Bool) → x ≡ true → one x ≡ one (b and x) → not b ≡ false
        named true x e h = refl
        named false x e h = absurd (omega (arith, ap one e))

        go : (x y z : Bool) → is_of await_start s ≡ x → is_of await_end s ≡ y → is_of await_sub s ≡ z
            → cond (x || y) (not (named_at bs w)) (z and is_nobody (get_or r.subs (awaited_of s) no_subprogram).holder) ≡ false
        go true y z e f h = named (named_at bs w) (is_of await_start s) e (sym (c.links.starts w g) ∙ k.starts w g)
        go false true z e f h = named (named_at bs w) (is_of await_end s) f (sym (c.links.ends w g) ∙ k.ends w g)
        go false false true e f h = c.waits w h
        go false false false e f h = refl

    waiter-stays : (i : ℕ) → waiter_after r.subs (get_or bs i false) (get_or ts i no_task) ≡ get_or ts i no_task
    unfolding waiter_after task_at named_at
    waiter-stays i = rw (found (suc i) (omega arith)) refl

    waiter-same : waiter_pass bs u ≡ u
    unfolding waiter_pass
    waiter-same =
        let p = row_is (λ i. waiter_after r.subs (get_or bs i false) (get_or ts i no_task)) no_task 16 ts c.owned.tasks waiter-stays in
        λ i. laid (p i) r u

-- ---- a round on a clean table
pub clean_stays : (u : Table) → Clean u → u.rest.count ≤ most_tasks → round u ≡ u
unfolding round settled
clean_stays u c h =
    let bs : List Bool = (link_pass u).named in
    let l : (link_pass u).table ≡ u = link_same u c h in
    let k : Linked bs u.tasks (requests u.rest) =
    subst (λ (v : Table). Linked bs v.tasks (requests v.rest)) l (link_linked u h c.owned c.queued) in
    ap (λ (v : Table). settled (link_pass v)) (ap queued_pass (own_same u c) ∙ queued-same u c)
    ∙ ap (λ (v : Table). waiter_pass bs (held_pass v)) l ∙ ap (waiter_pass bs) (held_same u c) ∙ waiter-same u c bs k

-- a round does not touch the count
pub round-count : (t : Table) → (round t).rest.count ≡ t.rest.count
unfolding round settled waiter_pass held_pass link_pass queued_pass own_pass
round-count t = refl

pub mendable-count : (t : Table) → mendable t ≡ true → t.rest.count ≤ most_tasks
mendable-count t m = leb-true _ _ (and_true (leb t.rest.count most_tasks) _ (and_true (leb 1 t.rest.count) _ m).1).0

-- ---- a second round has nothing left to do, and so has any after it
pub settles : (t : Table) → Typed t → mendable t ≡ true → round (round t) ≡ round t
settles t y m =
    let h : t.rest.count ≤ most_tasks = mendable-count t m in
    clean_stays (round t) (round_clean t y h) (rw (round-count t) h)

same-rounds : (n : ℕ) (u : Table) → round u ≡ u → rounds_of n u ≡ u
unfolding rounds_of
same-rounds zero u e = refl
same-rounds (suc n) u e = ap (rounds_of n) e ∙ same-rounds n u e

pub rounds : (t : Table) → Typed t → mendable t ≡ true → (n : ℕ) → rounds_of (suc n) t ≡ round t
unfolding rounds_of
rounds t y m n = same-rounds n (round t) (settles t y m)
