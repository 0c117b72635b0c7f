-- Those whose wait is over enter, in any order: the plan is good. For any test f of a state, so that kinds 80 and 09
-- share it.
use mathlib.Core.Path.{◌≡◌, refl, ap, sym, ◌∙◌}
use mathlib.Core.Bool.{Bool, true, false}
use mathlib.Core.List.{List, [], ◌∷◌, ◌++◌}
use Prim.Native.Nat.{ℕ, ◌+◌, ◌≤◌, ◌<◌}
use native.Mathlib.Omega.{arith}
use borrow.Author.Tests.{eqb-true}
use lib.Dec.{eqb}
use Rattle.records.specs.declared.TaskNo.{TaskNo}
use Rattle.executive.specs.declared.Millis.{Millis}
use Rattle.executive.specs.declared.State.{State}
use Rattle.executive.specs.declared.State.TheVariants.{Dormant, Ready}
use Rattle.executive.specs.declared.Task.{Task}
use Rattle.executive.specs.declared.Request.{Request}
use Rattle.executive.specs.Entries.{aimed, risen}
use Rattle.executive.specs.Lists.{one, sum_of}
use Rattle.executive.specs.Plans.{raising, passing, raisings, risers}
use Rattle.executive.specs.Places.{Names, task_at, put_at, times_in}
use Rattle.executive.specs.Table.{Join}
use Rattle.executive.specs.States.{dormant, ready, await_start, await_end, await_sub, await_message, is, state_kind}
use Rattle.executive.proofs.Plans.WorkingForm.{StateOk, EntryOk, busy-within, busy-own}
use Rattle.executive.proofs.Lists.Tests.{false_not_true, eqb_self}
use Rattle.executive.proofs.places.TaskAt.{at_same, at_other}
use Rattle.executive.proofs.Plans.QueueKept.{busy-names}
use Rattle.executive.proofs.Plans.LinksKept.{LinksUpTo}
use Rattle.executive.proofs.Plans.Links.{alike}
use Rattle.executive.proofs.Plans.GoodIsKept.{puts}
use Rattle.executive.proofs.Plans.SubsKept.{AllElse}
use Rattle.executive.proofs.states.Laws.{counted}
use Rattle.executive.proofs.waking.Numbers.{passing-counts}

-- from the clock a and the flags fa to the clock c and the flags fs, the test f tells who waits no longer
pub record Tells (f : State → Bool) (a fa c fs : ℕ) : Type 0 where
  pub onward : a ≤ c
  pub waits : (s : State) → f s ≡ true → counted (state_kind s) ≡ 0
  pub aims : (s : State) (at : Millis) → f s ≡ true → at.0 ≤ a → (aimed s at).0 ≤ c
  pub calms : (s : State) → f s ≡ false → StateOk a fa s → StateOk c fs s

pub record Done (js : List Join) (ts : List Task) (p : List Request) (c fs n : ℕ) : Type 0 where
  pub joining : AllElse js ts
  pub linked : LinksUpTo (puts js ts) p 0 0 0
  pub own : (k : ℕ) → EntryOk c fs n k (task_at (puts js ts) k)

-- one task: it stays, or it enters
pub record One (js : List Join) (ts : List Task) (p : List Request) (c fs n k : ℕ) : Type 0 where
  pub joining : AllElse js ts
  pub linked : LinksUpTo (puts js ts) p 0 0 0
  pub own : EntryOk c fs n k (task_at (puts js ts) k)
  pub rest : (j : ℕ) → eqb j k ≡ false → task_at (puts js ts) j ≡ task_at ts j

pub raisings-append : (ks ms : List TaskNo) → raisings (ks ++ ms) ≡ raisings ks ++ raisings ms
unfolding raisings
raisings-append [] ms = refl
raisings-append (k ∷ ks) ms = ap (λ (js : List Join). raising k ∷ js) (raisings-append ks ms)

module _ (f : State → Bool) (p : List Request) (a fa c fs n : ℕ) (tells : Tells f a fa c fs) where
  -- a task that passes enters; one that does not stays as it is
  pub enters : (ts : List Task) (k : TaskNo) → LinksUpTo ts p 0 0 0 → f (task_at ts k.0).state ≡ true → EntryOk a fa n k.0 (task_at ts k.0)
      → One (raising k ∷ []) ts p c fs n k.0
  unfolding puts
  enters ts k l g y =
      let e : Task = task_at ts k.0 in
      let z : is ready e.state + is dormant e.state + is await_start e.state + is await_end e.state + is await_sub e.state + is await_message e.state ≡ 0 = tells.waits e.state g in
      let m : Names k.0 ts = busy-names ts k.0 (omega arith) in
      let v : Task = risen e in
      let o : EntryOk c fs n k.0 v = busy-own (false_not_true, false_not_true) (tells.aims e.state e.start g y.started) y.level y.home refl (busy-within y (omega arith)) in
      record {
        joining = (record { names = m; before = omega arith; after = refl }, tt);
        linked = alike ts p k.0 v 0 0 0 m refl (omega arith) (omega arith) refl (omega arith) l;
        own = rw (at_same ts k.0 v m) o;
        rest = λ j o. at_other ts k.0 j v o;
      }

  stays-own : (k : ℕ) (e : Task) → f e.state ≡ false → EntryOk a fa n k e → EntryOk c fs n k e
  stays-own k e g y = record {
    calm = tells.calms e.state g y.calm;
    started = omega (arith, y.started, tells.onward);
    level = y.level;
    home = y.home;
    zeros = y.zeros;
    beyond = y.beyond;
  }

  -- a task that waits for nothing does not pass
  counted-not : (s : State) → 0 < counted (state_kind s) → f s ≡ false
  counted-not s h = go (f s) refl
    where
      go : (b : Bool) → f s ≡ b → b ≡ false
      go true e = absurd (omega (arith, tells.waits s e))
      go false e = refl

  -- ---- any list in which each who passes stands once, and nobody else. Who has entered is ready, and passes no more
  -- each entry while some of the list have entered: in order as it was where it passes, and else as it will be
  abbrev Halfway : ℕ → Task → Type 0
  Halfway k e = (f e.state ≡ true → EntryOk a fa n k e) × (f e.state ≡ false → EntryOk c fs n k e)

  pub all_raised : (ks : List TaskNo) (ts : List Task) → LinksUpTo ts p 0 0 0 → ((k : ℕ) → Halfway k (task_at ts k))
      → ((k : ℕ) → times_in k ks ≡ one (f (task_at ts k).state)) → Done (raisings ks) ts p c fs n
  unfolding raisings puts sum_of
  all_raised [] ts l o h = record { joining = tt; linked = l; own = λ k. (o k).1 (none (f (task_at ts k).state) (h k)) }
    where
      none : (b : Bool) → 0 ≡ one b → b ≡ false
      none true z = absurd (omega arith)
      none false z = refl
  all_raised (k ∷ ks) ts l o h =
      let g : f (task_at ts k.0).state ≡ true = some (f (task_at ts k.0).state) (h k.0) in
      let x : One (raising k ∷ []) ts p c fs n k.0 = enters ts k l g ((o k.0).0 g) in
      let ts' : List Task = put_at ts k.0 (risen (task_at ts k.0)) in
      let r : f (task_at ts' k.0).state ≡ false = rw (at_same ts k.0 (risen (task_at ts k.0)) x.joining.0.names) (counted-not Ready (omega arith)) in
      let d : Done (raisings ks) ts' p c fs n = all_raised ks ts' x.linked (λ j. after x r j (eqb j k.0) refl) (λ j. fewer x g r j (eqb j k.0) refl) in
      record { joining = (x.joining.0, d.joining); linked = d.linked; own = d.own }
    where
      some : (b : Bool) → one (eqb k.0 k.0) + times_in k.0 ks ≡ one b → b ≡ true
      some true z = refl
      some false z = absurd (omega (arith, ap one (eqb_self k.0)))

      after : One (raising k ∷ []) ts p c fs n k.0 → f (task_at (put_at ts k.0 (risen (task_at ts k.0))) k.0).state ≡ false
          → (j : ℕ) (b : Bool) → eqb j k.0 ≡ b → Halfway j (task_at (put_at ts k.0 (risen (task_at ts k.0))) j)
      after x r j true e = rw (eqb-true j k.0 e) (λ y. false_not_true (sym r ∙ y), λ y. x.own)
      after x r j false e = rw (x.rest j e) (o j)

      fewer : One (raising k ∷ []) ts p c fs n k.0 → f (task_at ts k.0).state ≡ true → f (task_at (put_at ts k.0 (risen (task_at ts k.0))) k.0).state ≡ false
          → (j : ℕ) (b : Bool) → eqb j k.0 ≡ b → times_in j ks ≡ one (f (task_at (put_at ts k.0 (risen (task_at ts k.0))) j).state)
      fewer x g r j true e = rw (eqb-true j k.0 e, r) (omega (arith, h k.0, ap one (eqb_self k.0), ap one g))
      fewer x g r j false e = rw (x.rest j e) (omega (arith, h j, ap one e))

  pub halfway : (k : ℕ) (e : Task) → EntryOk a fa n k e → Halfway k e
  halfway k e y = (λ g. y, λ g. stays-own k e g y)

  -- all who pass, in ascending number
  pub all-risen : (ts : List Task) → LinksUpTo ts p 0 0 0 → ((k : ℕ) → EntryOk a fa n k (task_at ts k)) → Done (risers f 1 ts) ts p c fs n
  all-risen ts l o = all_raised (passing f 1 ts) ts l (λ k. halfway k (task_at ts k) (o k)) (passing-counts f (counted-not Dormant (omega arith)) ts)
