-- The plan of kind 14 is good.
use mathlib.Core.Path.{◌≡◌, refl, ap}
use mathlib.Core.Bool.{Bool, true, false, cond, ◌&&◌}
use mathlib.Core.List.{[]}
use Prim.Native.Nat.{ℕ, ◌≤◌, ◌<◌}
use native.Mathlib.Omega.{arith}
use Rattle.records.specs.declared.TaskNo.{TaskNo}
use Rattle.records.specs.declared.Text.{Text}
use Rattle.executive.specs.declared.State.{State}
use Rattle.executive.specs.declared.State.TheVariants.{Ready}
use Rattle.executive.specs.declared.Task.{Task}
use Rattle.executive.specs.declared.Table.{Table}
use Rattle.executive.specs.Lists.{one}
use Rattle.executive.specs.Entries.{with_state}
use Rattle.executive.specs.Places.{Names, task_at}
use Rattle.executive.specs.Pool.{requests}
use Rattle.executive.specs.Table.{line, head_of, stays}
use Rattle.executive.specs.Messages.{letters, with_letters, post, with_mail}
use Rattle.executive.specs.Plans.{waking, letter_of, send_plan}
use Rattle.executive.specs.States.{dormant, await_message, awaited_of, is_of, is, takes, takes_from}
use Rattle.executive.proofs.Lists.Tests.{false_not_true, not-zero, one_ge}
use Rattle.executive.proofs.states.Laws.{dormant-kind}
use Rattle.executive.proofs.messages.Kept.{mail-post, mail_with}
use Rattle.executive.proofs.Plans.WorkingForm.{WellFormedByPart}
use Rattle.executive.proofs.Plans.QueueKept.{not-both, busy-names}
use Rattle.executive.proofs.Plans.LinksKept.{links-up, up-links}
use Rattle.executive.proofs.Plans.Links.{alike}
use Rattle.executive.proofs.Plans.GoodIsKept.{puts, Good}
use Rattle.executive.proofs.Plans.SubsKept.{subs_put}
use Rattle.executive.proofs.Plans.Shared.{own_put, ready-own, runs, inside, post-rested}

-- whoever takes a message waits for one
pub takes-waits : (c : ℕ) (s : State) → takes c s ≡ true → is_of await_message s ≡ true
takes-waits c s = go (is_of await_message s)
  where
    go : (b : Bool) → b && takes_from (awaited_of s) c ≡ true → b ≡ true
    go true e = refl
    go false e = false_not_true e

module _ (t : Table) (w : WellFormedByPart t) (h : 0 < t.ready) (k : TaskNo) (x : Text) (some : 0 < k.0) (few : k.0 ≤ t.rest.count) where
  abbrev c : TaskNo
  c = head_of (line t)

  abbrev old : Task
  old = task_at t.tasks k.0

  -- who waits for it enters, with the message in its entry
  delivered_good : takes c.0 old.state ≡ true
      → Good (record { out = stays; ins = waking k; rest = with_mail k.0 (record { sender = c; text = x }) t.rest }) t
  unfolding puts waking
  delivered_good g =
      let a : is await_message old.state ≡ 1 = ap one (takes-waits c.0 old.state g) in
      let z = not-both old.state in
      let b : is dormant old.state ≡ 0 = omega arith in
      let n : Names k.0 t.tasks = busy-names t.tasks k.0 b in
      let e : Task = with_state Ready old in
      rw (not-zero k.0 some) (record {
        leaving = refl;
        joining = (record { names = n; before = omega arith; after = refl }, tt);
        linked = up-links (alike t.tasks (requests t.rest) k.0 e 0 0 0 n refl (omega arith) (omega arith) refl b (links-up w.links));
        own = own_put t.rest t.tasks k.0 e n (ready-own b (w.own k.0)) w.own;
        rested = post-rested _ _ _ w.rested;
        lined = subs_put t.tasks k.0 e n (omega arith) refl (λ y. absurd (omega arith)) w.lined;
        mailed = mail_with t.tasks t.rest k.0 (record { sender = c; text = x }) w.mailed some (omega (arith, few, w.rested.count.1))
            (inside t w h) (λ d. absurd (omega (arith, b, dormant-kind old.state d)));
      })

  -- nobody takes it: it waits
  kept-good : takes c.0 old.state ≡ false → t.rest.sent < 32
      → Good (record { out = stays; ins = []; rest = with_letters (post (letter_of t k x) (letters t.rest)) t.rest }) t
  unfolding puts
  kept-good g room = record {
    leaving = refl;
    joining = tt;
    linked = w.links;
    own = w.own;
    rested = post-rested _ _ _ w.rested;
    lined = w.lined;
    mailed = mail-post t.tasks t.rest (letter_of t k x) w.mailed room g (omega (
      arith,
      one_ge 15 (task_at t.tasks c.0).priority (w.own c.0).level,
      ap one (not-zero k.0 some),
      ap one (not-zero c.0 (runs t w h).names.0),
      one_ge t.rest.count k.0 few,
      one_ge t.rest.count c.0 (inside t w h),
    ));
  }

  pub send-good : (takes c.0 old.state ≡ false → t.rest.sent < 32) → Good (send_plan t k x) t
  unfolding send_plan
  send-good room = go (takes c.0 old.state) refl
    where
      go : (b : Bool) → takes c.0 old.state ≡ b
          → Good (cond b
          (record { out = stays; ins = waking k; rest = with_mail k.0 (record { sender = c; text = x }) t.rest })
          (record { out = stays; ins = []; rest = with_letters (post (letter_of t k x) (letters t.rest)) t.rest })) t
      go true g = delivered_good g
      go false g = kept-good g (room g)
