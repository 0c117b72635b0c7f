-- The plan of kind 03 is good.
use mathlib.Core.Path.{◌≡◌, refl}
use mathlib.Core.Bool.{Bool, true, false, cond}
use mathlib.Core.List.{[], ◌∷◌}
use Prim.Native.Nat.{ℕ, ◌≤◌}
use native.Mathlib.Omega.{arith}
use borrow.Author.Tests.{eqb-true}
use lib.Dec.{eqb}
use Rattle.records.specs.declared.TaskNo.{TaskNo}
use Rattle.executive.specs.declared.Millis.{Millis}
use Rattle.executive.specs.declared.State.{State}
use Rattle.executive.specs.declared.Table.{Table}
use Rattle.executive.specs.Entries.{aimed}
use Rattle.executive.specs.Plans.{state_at, nothing, raising, cancel_pause_plan}
use Rattle.executive.specs.Places.{task_at}
use Rattle.executive.specs.Pool.{requests}
use Rattle.executive.specs.Table.{stays}
use Rattle.executive.specs.States.{is_paused, paused, due, state_kind}
use Rattle.executive.proofs.Plans.WorkingForm.{WellFormedByPart}
use Rattle.executive.proofs.Plans.LinksKept.{links-up, up-links}
use Rattle.executive.proofs.Plans.GoodIsKept.{puts, Good}
use Rattle.executive.proofs.Plans.SubsKept.{joined, subs_else}
use Rattle.executive.proofs.Plans.Shared.{EntryOkIn, nothing-good}
use Rattle.executive.proofs.Plans.Rising.{Tells, One, enters}
use Rattle.executive.proofs.states.Laws.{of-kind, counted}

-- ---- 03
paused-waits : (s : State) → is_paused s ≡ true → counted (state_kind s) ≡ 0
paused-waits s e = of-kind (λ (k : ℕ). counted k ≡ 0) paused refl s e

paused-aims : (c : ℕ) (s : State) (at : Millis) → is_paused s ≡ true → at.0 ≤ c → (aimed s at).0 ≤ c
paused-aims c s at e h = rw (of-kind (λ (k : ℕ). eqb due k ≡ false) paused refl s e) h

module _ (t : Table) (w : WellFormedByPart t) where
  abbrev now : ℕ
  now = t.rest.clock.0

  paused-tells : Tells is_paused now t.rest.flags now t.rest.flags
  paused-tells = record { onward = omega arith; waits = paused-waits; aims = paused-aims now; calms = λ s e m. m }

  -- whoever is paused enters
  raise_good : (k : TaskNo) → is_paused (state_at t k) ≡ true → Good (record { out = stays; ins = raising k ∷ []; rest = t.rest }) t
  raise_good k e =
      let r : One (raising k ∷ []) t.tasks (requests t.rest) now t.rest.flags t.rest.count k.0 =
      enters is_paused (requests t.rest) now t.rest.flags now t.rest.flags t.rest.count paused-tells t.tasks k (links-up w.links) e (w.own k.0) in
      record {
        leaving = refl;
        joining = joined (raising k ∷ []) t.tasks r.joining;
        linked = up-links r.linked;
        own = λ j. go r j (eqb j k.0) refl;
        rested = w.rested;
        lined = subs_else (raising k ∷ []) t.tasks r.joining w.lined;
        mailed = w.mailed;
      }
    where
      go : One (raising k ∷ []) t.tasks (requests t.rest) now t.rest.flags t.rest.count k.0
          → (j : ℕ) (b : Bool) → eqb j k.0 ≡ b → EntryOkIn t.rest j (task_at (puts (raising k ∷ []) t.tasks) j)
      go r j true e = rw (eqb-true j k.0 e) r.own
      go r j false e = rw (r.rest j e) (w.own j)

  pub cancel_good : (k : TaskNo) → Good (cancel_pause_plan t k) t
  unfolding cancel_pause_plan
  cancel_good k = go (is_paused (state_at t k)) refl
    where
      go : (b : Bool) → is_paused (state_at t k) ≡ b → Good (cond b (record { out = stays; ins = raising k ∷ []; rest = t.rest }) (nothing t)) t
      go true e = raise_good k e
      go false e = nothing-good t w
