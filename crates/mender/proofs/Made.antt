-- What a round makes of each entry, of the requests but for their waiters, and of the messages.
use Prim.Native.Nat.{ℕ, zero, suc, ◌+◌, ◌≤◌, ◌<◌}
use mathlib.Core.Path.{◌≡◌, refl, sym, ap, ◌∙◌}
use mathlib.Core.Bool.{Bool, true, false, cond}
use mathlib.Core.Logic.{◌⊎◌, inl, inr}
use mathlib.Core.List.{List, [], ◌∷◌, map}
use native.Mathlib.Omega.{arith}
use borrow.Author.Tests.{ltb-true, ltb-false}
use lib.Dec.{ltb}
use lib.ListN.{get_or, set}
use Rattle.executive.specs.declared.State.TheVariants.{Ready}
use Rattle.executive.specs.declared.Task.{Task}
use Rattle.executive.specs.declared.Request.{Request}
use Rattle.executive.specs.declared.Sub.{Sub}
use Rattle.executive.specs.declared.Table.{Table}
use Rattle.executive.specs.Numbers.{most_tasks, most_queued}
use Rattle.executive.specs.Lists.{◌and◌}
use Rattle.executive.specs.Places.{no_task, no_request, task_at}
use Rattle.executive.specs.States.{await_start, await_end, is_dormant}
use Rattle.executive.specs.Entries.{with_state}
use Rattle.executive.specs.Messages.{mail_at}
use Rattle.executive.specs.Check.{is_nobody}
use Rattle.mender.specs.Links.{Runs}
use Rattle.mender.specs.Links.{Asked}
use Rattle.mender.specs.Links.{Links}
use Rattle.mender.specs.declared.links.Linked.{Linked}
use Rattle.mender.specs.Rules.{own_rules, own_rule_at}
use Rattle.mender.specs.Passes.{entry_after, mail_after, own_pass, queued_pass, marked, unlinked, startless, endless, run_turn, linked_runs, stands, start_turn, end_turn, request_turn, linked_requests, link_pass, held_pass, is_lost, waiter_after, waiter_pass, named_at}
use Rattle.mender.specs.Rounds.{settled, round}
use Rattle.mender.specs.Promises.{waits_for_other, bare}
use Rattle.mender.proofs.Rows.{row-past}
use Rattle.mender.proofs.Turns.{each_keeps}
use Rattle.mender.proofs.OwnRules.{own-entry, own-mail}
use Rattle.mender.proofs.Held.{lost-waits, waits-busy, waiter-entry}

-- ---- links: each entry stays as it was, or is without its link
abbrev Alike : Task → Task → Type 0
Alike e f = (f ≡ e) ⊎ (f ≡ unlinked e)

alike-more : (e f : Task) → Alike e f → Alike e (unlinked f)
alike-more e f (inl p) = inr (ap unlinked p)
alike-more e f (inr p) = inr (ap unlinked p)

-- one place changed by a function: each place is as it was, or changed
set_at : {A : Type 0} (d : A) (f : A → A) (xs : List A) (i j : ℕ)
    → (get_or (set xs i (f (get_or xs i d))) j d ≡ get_or xs j d) ⊎ (get_or (set xs i (f (get_or xs i d))) j d ≡ f (get_or xs j d))
set_at d f [] i j = inl refl
set_at d f (x ∷ xs) zero zero = inr refl
set_at d f (x ∷ xs) zero (suc j) = inl refl
set_at d f (x ∷ xs) (suc i) zero = inl refl
set_at d f (x ∷ xs) (suc i) (suc j) = set_at d f xs i j

pub runs-alike : (n : ℕ) (ts : List Task) (j : ℕ) → Alike (get_or ts j no_task) (get_or (linked_runs n ts).tasks j no_task)
unfolding linked_runs run_turn
runs-alike n ts j = each_keeps (run_turn n) (λ (i : ℕ) (r : Runs). Alike (get_or ts j no_task) (get_or r.tasks j no_task)) most_tasks 0 _ (inl refl) turn
  where
    turn : (i : ℕ) (r : Runs) → 0 ≤ i → i < 0 + most_tasks → Alike (get_or ts j no_task) (get_or r.tasks j no_task)
        → Alike (get_or ts j no_task) (get_or (run_turn n r i).tasks j no_task)
    turn i r g h a = go (stands n r.tasks r.named await_end (suc i) (get_or r.tasks i no_task).end_waiter)
      where
        cut : (get_or (set r.tasks i (unlinked (get_or r.tasks i no_task))) j no_task ≡ get_or r.tasks j no_task)
            ⊎ (get_or (set r.tasks i (unlinked (get_or r.tasks i no_task))) j no_task ≡ unlinked (get_or r.tasks j no_task))
            → Alike (get_or ts j no_task) (get_or (set r.tasks i (unlinked (get_or r.tasks i no_task))) j no_task)
        cut (inl p) = rw p a
        cut (inr p) = rw p (alike-more (get_or ts j no_task) (get_or r.tasks j no_task) a)

        go : (b : Bool) → Alike (get_or ts j no_task) (get_or (cond {A = Runs} b
            (record { tasks = r.tasks; named = marked r.named (get_or r.tasks i no_task).end_waiter.0 })
            (record { tasks = set r.tasks i (unlinked (get_or r.tasks i no_task)); named = r.named })).tasks j no_task)
        go true = a
        go false = cut (set_at no_task unlinked r.tasks i j)

-- ---- requests: their target, priority and argument stay
map-set : {A B : Type 0} (f : A → B) (d : A) (xs : List A) (i : ℕ) (v : A) → f v ≡ f (get_or xs i d) → map f (set xs i v) ≡ map f xs
map-set f d [] i v e = refl
map-set {B = B} f d (x ∷ xs) zero v e = ap (λ (b : B). b ∷ map f xs) e
map-set {B = B} f d (x ∷ xs) (suc i) v e = ap (λ (l : List B). f x ∷ l) (map-set f d xs i v e)

start-bare : (n : ℕ) (ts : List Task) (a : Asked) → bare (start_turn n ts a).request ≡ bare a.request
unfolding start_turn
start-bare n ts a = go (stands n ts a.named await_start a.request.target.0 a.request.start_waiter)
  where
    go : (b : Bool) → bare (cond {A = Asked} b
        (record { request = a.request; named = marked a.named a.request.start_waiter.0 })
        (record { request = startless a.request; named = a.named })).request ≡ bare a.request
    go true = refl
    go false = refl

end-bare : (n : ℕ) (ts : List Task) (a : Asked) → bare (end_turn n ts a).request ≡ bare a.request
unfolding end_turn
end-bare n ts a = go (is_nobody a.request.start_waiter and stands n ts a.named await_end a.request.target.0 a.request.end_waiter)
  where
    go : (b : Bool) → bare (cond {A = Asked} b
        (record { request = a.request; named = marked a.named a.request.end_waiter.0 })
        (record { request = endless a.request; named = a.named })).request ≡ bare a.request
    go true = refl
    go false = refl

pub requests-bare : (n : ℕ) (ts : List Task) (p : List Request) (bs : List Bool) → map bare (linked_requests n ts p bs).pool ≡ map bare p
unfolding linked_requests request_turn
requests-bare n ts p bs = each_keeps (request_turn n ts) (λ (i : ℕ) (l : Links). map bare l.pool ≡ map bare p) most_queued 0 _ refl turn
  where
    turn : (i : ℕ) (l : Links) → 0 ≤ i → i < 0 + most_queued → map bare l.pool ≡ map bare p → map bare (request_turn n ts l i).pool ≡ map bare p
    turn i l g h e =
        let a : Asked = record { request = get_or l.pool i no_request; named = l.named } in
        map-set bare no_request l.pool i (end_turn n ts (start_turn n ts a)).request (end-bare n ts (start_turn n ts a) ∙ start-bare n ts a) ∙ e

-- ---- the entry e before the links, and f at the end of the round
pub data Ends (e f : Task) : Type 0 where
  as_was : f ≡ e → Ends e f
  cut : f ≡ unlinked e → Ends e f
  woken : waits_for_other e.state ≡ true → f ≡ with_state Ready e → Ends e f
  cut-woken : waits_for_other e.state ≡ true → f ≡ with_state Ready (unlinked e) → Ends e f

waiter-ends : (ss : List Sub) (b : Bool) (e f : Task) → Alike e f → Ends e (waiter_after ss b f)
unfolding waiter_after
waiter-ends ss b e f a = go (is_lost ss b f.state) refl a
  where
    go : (c : Bool) → is_lost ss b f.state ≡ c → Alike e f → Ends e (cond c (with_state Ready f) f)
    go true h (inl p) = Ends.woken (ap (λ (x : Task). waits_for_other x.state) (sym p) ∙ lost-waits ss b f.state h) (ap (with_state Ready) p)
    go true h (inr p) = Ends.cut-woken (ap (λ (x : Task). waits_for_other x.state) (sym p) ∙ lost-waits ss b f.state h) (ap (with_state Ready) p)
    go false h (inl p) = Ends.as_was p
    go false h (inr p) = Ends.cut p

ends-dormant : (e f : Task) → Ends e f → is_dormant f.state ≡ is_dormant e.state
ends-dormant e f (Ends.as_was p) = rw p refl
ends-dormant e f (Ends.cut p) = rw p refl
ends-dormant e f (Ends.woken w p) = rw p (sym (waits-busy e.state w))
ends-dormant e f (Ends.cut-woken w p) = rw p (sym (waits-busy e.state w))

module _ (t : Table) where
  abbrev n : ℕ
  n = t.rest.count

  abbrev own : Table
  own = own_pass (own_rules t) t

  abbrev linked : Linked
  linked = link_pass (queued_pass own)

  linked-alike : (k : ℕ) → Alike (task_at own.tasks k) (task_at linked.table.tasks k)
  unfolding link_pass queued_pass task_at
  linked-alike zero = inl refl
  linked-alike (suc i) = runs-alike own.rest.count own.tasks i

  round-ends : (k : ℕ) → 0 < k → k ≤ most_tasks → Ends (task_at own.tasks k) (task_at (round t).tasks k)
  unfolding round settled held_pass
  round-ends k g h =
      rw (waiter-entry linked.named (held_pass linked.table) k g h)
      (waiter-ends (held_pass linked.table).rest.subs (named_at linked.named k) (task_at own.tasks k) (task_at linked.table.tasks k) (linked-alike k))

  pub round-entry : (k : ℕ) → 0 < k → k ≤ most_tasks → Ends (entry_after n k (own_rule_at t k) (task_at t.tasks k)) (task_at (round t).tasks k)
  round-entry k g h = rw (← own-entry t k g h) (round-ends k g h)

  pub round-mail : (k : ℕ) → 0 < k → k ≤ most_tasks → mail_at (round t).rest.mail k ≡ mail_after n k (own_rule_at t k) (mail_at t.rest.mail k)
  unfolding round settled waiter_pass held_pass link_pass queued_pass
  round-mail k g h = own-mail t k g h

  -- who is dormant after the first pass is dormant at the end, and no other
  far-own : (i : ℕ) → most_tasks ≤ i → get_or own.tasks i no_task ≡ no_task
  unfolding own_pass
  far-own i h = row-past _ no_task most_tasks i h

  far-round : (i : ℕ) → most_tasks ≤ i → get_or (round t).tasks i no_task ≡ no_task
  unfolding round settled waiter_pass
  far-round i h = row-past _ no_task most_tasks i h

  pub round-dormant : (k : ℕ) → is_dormant (task_at (round t).tasks k).state ≡ is_dormant (task_at own.tasks k).state
  unfolding task_at
  round-dormant zero = refl
  round-dormant (suc i) = go (ltb i most_tasks) refl
    where
      go : (b : Bool) → ltb i most_tasks ≡ b → is_dormant (get_or (round t).tasks i no_task).state ≡ is_dormant (get_or own.tasks i no_task).state
      go true e =
          let l : i < most_tasks = ltb-true _ _ e in
          ends-dormant (get_or own.tasks i no_task) (get_or (round t).tasks i no_task) (round-ends (suc i) (omega arith) (omega arith))
      go false e = rw (far-own i (ltb-false _ _ e), far-round i (ltb-false _ _ e)) refl
