-- The plan of kind 15 is good.
use mathlib.Core.Path.{◌≡◌, refl, sym}
use mathlib.Core.Bool.{Bool, true, false, cond}
use mathlib.Core.List.{List, []}
use Prim.Native.Nat.{ℕ, ◌≤◌, ◌<◌}
use native.Mathlib.Omega.{arith}
use borrow.Author.Tests.{ltb-true, ltb-false}
use lib.Dec.{ltb}
use lib.ListN.{length}
use Rattle.records.specs.declared.TaskNo.{TaskNo}
use Rattle.executive.specs.declared.State.TheVariants.{AwaitMessage}
use Rattle.executive.specs.declared.Task.{Task}
use Rattle.executive.specs.declared.Message.{Message}
use Rattle.executive.specs.declared.Table.{Table}
use Rattle.executive.specs.Entries.{with_state}
use Rattle.executive.specs.Places.{task_at}
use Rattle.executive.specs.Pool.{requests, removed}
use Rattle.executive.specs.Table.{line, head_of, stays, leaves}
use Rattle.executive.specs.Messages.{no_mail, letters, with_letters, first_fit, with_mail}
use Rattle.executive.specs.Plans.{receive_plan}
use Rattle.executive.proofs.Lists.Tests.{false_not_true}
use Rattle.executive.proofs.messages.Arrays.{letters-length}
use Rattle.executive.proofs.messages.Unmet.{none_found}
use Rattle.executive.proofs.messages.Kept.{mail-without}
use Rattle.executive.proofs.Plans.WorkingForm.{WellFormedByPart}
use Rattle.executive.proofs.Plans.LinksKept.{links-up, up-links}
use Rattle.executive.proofs.Plans.Links.{alike}
use Rattle.executive.proofs.Plans.GoodIsKept.{puts, Good}
use Rattle.executive.proofs.Plans.Shared.{Runs, runs, waits-own, leaves_else, post-rested, mail-cleared, gone-mailed}

module _ (t : Table) (w : WellFormedByPart t) (h : 0 < t.ready) (s : TaskNo) (few : s.0 ≤ t.rest.count) where
  abbrev c : TaskNo
  c = head_of (line t)

  abbrev ms : List Message
  ms = letters t.rest

  -- the one at place i is handed out
  found-good : (i : ℕ) → i < length ms
      → Good (record { out = stays; ins = []; rest = with_mail c.0 no_mail (with_letters (removed i ms) t.rest) }) t
  unfolding puts
  found-good i l = record {
    leaving = refl;
    joining = tt;
    linked = w.links;
    own = w.own;
    rested = post-rested _ _ _ w.rested;
    lined = w.lined;
    mailed = mail-cleared t w h (with_letters (removed i ms) t.rest)
        (mail-without t.tasks t.rest i w.mailed (omega (arith, letters-length t.rest w.mailed.neat)));
  }

  -- none fits: the caller waits for one
  none-good : length ms ≤ first_fit c.0 s.0 ms
      → Good (record { out = leaves (with_state (AwaitMessage s)); ins = []; rest = with_mail c.0 no_mail t.rest }) t
  unfolding puts
  none-good n =
      let r : Runs t.tasks c.0 = runs t w h in
      let e : Task = with_state (AwaitMessage s) (task_at t.tasks c.0) in
      record {
        leaving = refl;
        joining = tt;
        linked = up-links (alike t.tasks (requests t.rest) c.0 e 0 0 0 r.names refl (sym r.no_start) (sym r.no_end) refl r.is-busy (links-up w.links));
        own = waits-own t w h (AwaitMessage s) (false_not_true, false_not_true) refl;
        rested = post-rested _ _ _ w.rested;
        lined = leaves_else t w h e refl (λ z. absurd (omega arith));
        mailed = gone-mailed t w h e t.rest w.mailed (λ _. (none_found c.0 s.0 ms n, few));
      }

  pub receive-good : Good (receive_plan t s) t
  unfolding receive_plan
  receive-good = go (ltb (first_fit c.0 s.0 ms) (length ms)) refl
    where
      go : (b : Bool) → ltb (first_fit c.0 s.0 ms) (length ms) ≡ b
          → Good (cond b
          (record { out = stays; ins = []; rest = with_mail c.0 no_mail (with_letters (removed (first_fit c.0 s.0 ms) ms) t.rest) })
          (record { out = leaves (with_state (AwaitMessage s)); ins = []; rest = with_mail c.0 no_mail t.rest })) t
      go true f = found-good (first_fit c.0 s.0 ms) (ltb-true _ _ f)
      go false f = none-good (ltb-false _ _ f)
