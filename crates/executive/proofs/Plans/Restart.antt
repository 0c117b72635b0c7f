-- The plan of kind 01 is good.
use mathlib.Core.Path.{◌≡◌, refl, ◌∙◌}
use mathlib.Core.Bool.{Bool, true, false, cond}
use mathlib.Core.List.{List, [], ◌∷◌, ◌++◌}
use Prim.Native.Nat.{ℕ, ◌+◌, ◌≤◌, ◌<◌}
use native.Mathlib.Omega.{arith}
use borrow.Author.Tests.{leb-true, leb-false, eqb-true}
use lib.Dec.{leb, eqb}
use Rattle.records.specs.declared.TaskNo.{TaskNo}
use Rattle.executive.specs.Numbers.{longest}
use Rattle.executive.specs.declared.Millis.{Millis}
use Rattle.executive.specs.declared.Task.{Task}
use Rattle.executive.specs.declared.Request.{Request}
use Rattle.executive.specs.declared.Table.{Table}
use Rattle.executive.specs.Entries.{risen, due_at}
use Rattle.executive.specs.Messages.{no_mail, with_mail}
use Rattle.executive.specs.Plans.{end_waiter, waking, raising, restart_by, restart_plan}
use Rattle.executive.specs.Pool.{requests}
use Rattle.executive.specs.Places.{Names, task_at, put_at}
use Rattle.executive.specs.Table.{line, head_of, leaves, depart}
use Rattle.executive.specs.Clock.{aim_at}
use Rattle.executive.proofs.Plans.WorkingForm.{EntriesOk, SubsOk, WellFormedByPart, busy-own}
use Rattle.executive.proofs.Lists.Tests.{false_not_true, eqb_no}
use Rattle.executive.proofs.clock.Interval.{aim-most}
use Rattle.executive.proofs.places.TaskAt.{at_same, put_length}
use Rattle.executive.proofs.Plans.LinksKept.{put_all, links-up, up-links}
use Rattle.executive.proofs.Plans.Links.{alike, release}
use Rattle.executive.proofs.Plans.GoodIsKept.{puts, Good, JoinsAll, JoinsKeep, moves-kept}
use Rattle.executive.proofs.Plans.SubsKept.{AllElse, joined, subs_else}
use Rattle.executive.proofs.Plans.Shared.{EntryOkIn, ready-own, runs, Woken, ender_in, joins-append, puts-append, wake_other, wake_length, inside, leaves_else, post-rested, gone-mailed}
use Rattle.executive.proofs.messages.Kept.{MailOk, mail-beside}

module _ (t : Table) (w : WellFormedByPart t) (h : 0 < t.ready) where
  abbrev c : TaskNo
  c = head_of (line t)

  abbrev rs : List Request
  rs = requests t.rest

  abbrev now : ℕ
  now = t.rest.clock.0

  abbrev e : Task
  e = task_at t.tasks c.0

  -- ---- 01
  -- of every task but the caller
  abbrev Else : ℕ → Task → Type 0
  Else k x = eqb k c.0 ≡ false → EntryOkIn t.rest k x

  module _ (aim : Millis) where
    abbrev e₁ : Task
    e₁ = due_at aim e

    -- the tasks once the caller has left, and once its end waiter has entered
    abbrev ts₄ : List Task
    ts₄ = put_at t.tasks c.0 e₁

    abbrev ts₅ : List Task
    ts₅ = puts (waking (end_waiter t c)) ts₄

    freed : Woken Else (waking (end_waiter t c)) ts₄ rs 0 0 0
    freed = ender_in Else (λ k e b f y. ready-own b (f y)) ts₄ rs (end_waiter t c) 0 0
        (release t.tasks rs c.0 e₁ (runs t w h).is-ready refl refl (links-up w.links))
        (λ k. put_all Else t.tasks c.0 e₁ (runs t w h).names (λ y. absurd (eqb_no c.0 c.0 y refl)) k (λ _ _. w.own k))

    pub still : task_at ts₅ c.0 ≡ e₁
    still = wake_other ts₄ (end_waiter t c) c.0 (w.links.apart c.0 (runs t w h).names.0) ∙ at_same t.tasks c.0 e₁ (runs t w h).names

    there : Names c.0 ts₅
    there = ((runs t w h).names.0, omega (arith, (runs t w h).names.1, wake_length ts₄ (end_waiter t c), put_length t.tasks c.0 e₁))

    -- every task is in order, given the caller
    and-caller : EntryOkIn t.rest c.0 e₁ → EntriesOk t.rest ts₅
    and-caller o k = go (eqb k c.0) refl
      where
        go : (b : Bool) → eqb k c.0 ≡ b → EntryOkIn t.rest k (task_at ts₅ k)
        go true y = rw (eqb-true k c.0 y, still) o
        go false y = freed.own k y

    later-all : AllElse (waking (end_waiter t c) ++ []) ts₄
    later-all = joins-append (waking (end_waiter t c)) [] ts₄ freed.joining tt

    now-all : AllElse (waking (end_waiter t c) ++ (raising c ∷ [])) ts₄
    now-all = joins-append (waking (end_waiter t c)) (raising c ∷ []) ts₄ freed.joining (record { names = there; before = rw still refl; after = refl }, tt)

    due-lined : SubsOk ts₄ t.rest.subs
    due-lined = leaves_else t w h e₁ refl (λ z. absurd (omega arith))

    due-mailed : MailOk ts₄ (restart_by t c aim).rest
    due-mailed =
        mail-beside ts₄ (with_mail c.0 no_mail t.rest) (restart_by t c aim).rest refl refl refl refl
        (gone-mailed t w h e₁ t.rest w.mailed (λ z. false_not_true z))

    later-good : aim.0 ≤ now + longest → now < aim.0 → Good (record { out = leaves (due_at aim); ins = waking (end_waiter t c) ++ []; rest = (restart_by t c aim).rest }) t
    unfolding puts
    later-good far z =
        let u = puts-append (waking (end_waiter t c)) [] ts₄ in
        record {
          leaving = refl;
          joining = joined (waking (end_waiter t c) ++ []) ts₄ later-all;
          linked = rw u (up-links freed.linked);
          own = rw u (and-caller (busy-own (λ _. (z, far), false_not_true) (w.own c.0).started (w.own c.0).level (w.own c.0).home refl (inside t w h)));
          rested = post-rested _ _ _ w.rested;
          lined = subs_else (waking (end_waiter t c) ++ []) ts₄ later-all due-lined;
          mailed = due-mailed;
        }

    -- the rest is the plan's own: one that took a request out of the pool would have other links
    now-good : aim.0 ≤ now → Good (record { out = leaves (due_at aim); ins = waking (end_waiter t c) ++ (raising c ∷ []); rest = (restart_by t c aim).rest }) t
    unfolding puts
    now-good z =
        let u = puts-append (waking (end_waiter t c)) (raising c ∷ []) ts₄ in
        let v : Task = risen (task_at ts₅ c.0) in
        let o : EntryOkIn t.rest c.0 (risen e₁) = busy-own (false_not_true, false_not_true) z (w.own c.0).level (w.own c.0).home refl (inside t w h) in
        record {
          leaving = refl;
          joining = joined (waking (end_waiter t c) ++ (raising c ∷ [])) ts₄ now-all;
          linked = rw u (up-links (alike ts₅ rs c.0 v 0 0 0 there refl (rw still refl) (rw still refl) refl (rw still refl) freed.linked));
          own = rw u (λ k. put_all (EntryOkIn t.rest) ts₅ c.0 v there (rw still o) k (λ y. freed.own k y));
          rested = post-rested _ _ _ w.rested;
          lined = subs_else (waking (end_waiter t c) ++ (raising c ∷ [])) ts₄ now-all due-lined;
          mailed = due-mailed;
        }

  pub restart-good : (p n : ℕ) → n < 256 → Good (restart_plan t p n) t
  unfolding restart_plan
  restart-good p n hn = go (aim_at e.start t.rest.clock p n) (aim-most e.start t.rest.clock p n (w.own c.0).started hn)
    where
      go : (aim : Millis) → aim.0 ≤ now + longest → Good (restart_by t c aim) t
      go aim far = by (leb aim.0 now) refl
        where
          by : (b : Bool) → leb aim.0 now ≡ b → Good (record { out = leaves (due_at aim); ins = waking (end_waiter t c) ++ cond b (raising c ∷ []) []; rest = (restart_by t c aim).rest }) t
          by true z = now-good aim (leb-true aim.0 now z)
          by false z = later-good aim far (leb-false aim.0 now z)

  -- there is room, whatever the time aimed at
  pub restart-room : (p n : ℕ) → JoinsKeep (restart_plan t p n).ins (depart (restart_plan t p n).out t)
  unfolding restart_plan
  restart-room p n = go (aim_at e.start t.rest.clock p n)
    where
      go : (aim : Millis) → JoinsKeep (restart_by t c aim).ins (depart (restart_by t c aim).out t)
      go aim = moves-kept (leaves (due_at aim)) (restart_by t c aim).ins t w refl (by (leb aim.0 now))
        where
          by : (b : Bool) → JoinsAll (waking (end_waiter t c) ++ cond b (raising c ∷ []) []) (ts₄ aim)
          by true = joined (waking (end_waiter t c) ++ (raising c ∷ [])) (ts₄ aim) (now-all aim)
          by false = joined (waking (end_waiter t c) ++ []) (ts₄ aim) (later-all aim)
