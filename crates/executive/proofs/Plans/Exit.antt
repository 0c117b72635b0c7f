-- The plan of kind 07 is good.
use mathlib.Core.Path.{◌≡◌, refl, ap, ◌∙◌}
use mathlib.Core.List.{List, [], ◌∷◌, tail}
use Prim.Native.Nat.{suc, ◌≤◌, ◌<◌}
use native.Mathlib.Omega.{arith}
use lib.ListN.{length, get_or, length-set}
use Rattle.records.specs.declared.TaskNo.{TaskNo}
use Rattle.records.specs.declared.SubNo.{SubNo}
use Rattle.executive.specs.declared.State.TheVariants.{Ready}
use Rattle.executive.specs.declared.Task.{Task}
use Rattle.executive.specs.declared.Sub.{Sub}
use Rattle.executive.specs.declared.Table.{Table}
use Rattle.executive.specs.Numbers.{last_sub}
use Rattle.executive.specs.Entries.{with_state}
use Rattle.executive.specs.Places.{nobody, task_at, put_at}
use Rattle.executive.specs.Pool.{requests}
use Rattle.executive.specs.Table.{head_of, stays}
use Rattle.executive.specs.Subprograms.{held_by, no_subprogram, sub_at, line_of, with_sub}
use Rattle.executive.specs.Plans.{waking, exit_plan}
use Rattle.executive.specs.States.{dormant, await_sub, is, waits_for}
use Rattle.executive.specs.WellFormed.{Line}
use Rattle.executive.proofs.Lists.Tests.{not-zero}
use Rattle.executive.proofs.Lists.Pad.{line-pad}
use Rattle.executive.proofs.places.TaskAt.{at_same}
use Rattle.executive.proofs.Plans.WorkingForm.{SubOk, WellFormedByPart, line-waiting}
use Rattle.executive.proofs.Plans.QueueKept.{not-both, Head, head-is, line-out}
use Rattle.executive.proofs.Plans.LinksKept.{links-up, up-links}
use Rattle.executive.proofs.Plans.Links.{alike}
use Rattle.executive.proofs.Plans.GoodIsKept.{puts, Good}
use Rattle.executive.proofs.Plans.SubsKept.{waits-some, waits-other, sub_put, sub-set}
use Rattle.executive.proofs.Plans.Shared.{own_put, ready-own, subs-rested}
use Rattle.executive.proofs.messages.Kept.{mail-beside}
use Rattle.executive.proofs.Plans.Enter.{held-neat}

module _ (t : Table) (w : WellFormedByPart t) (m : SubNo) (low : m.0 ≤ last_sub) where
  abbrev s : Sub
  s = sub_at t.rest m.0

  o : SubOk t.tasks m.0 s
  o = w.lined.each m.0

  there : m.0 < length t.rest.subs
  there = omega (arith, w.lined.sized)

  -- the first of the line gets in; where nobody waits, it is free
  handed-good : (l : List TaskNo) → line_of s ≡ l → Good (record { out = stays; ins = waking (head_of l); rest = with_sub m.0 (held_by (head_of l) (tail l)) t.rest }) t
  unfolding puts waking
  handed-good [] g = record {
    leaving = refl;
    joining = tt;
    linked = w.links;
    own = w.own;
    rested = subs-rested _ w.rested;
    lined = record {
      sized = length-set t.rest.subs m.0 no_subprogram ∙ w.lined.sized;
      each = sub-set (SubOk t.tasks) t.rest.subs m.0 no_subprogram there (record {
        neat = held-neat nobody [] (omega arith);
        busy = λ x. absurd (omega arith);
        free = λ _. refl;
        waiters = rw g at o.waiters;
      }) (λ k _. w.lined.each k);
    };
    mailed = mail-beside t.tasks t.rest _ refl refl refl refl w.mailed;
  }
  handed-good (k ∷ ls) g =
      let old : Task = task_at t.tasks k.0 in
      let e : Task = with_state Ready old in
      let us : List Task = put_at t.tasks k.0 e in
      let q : Line (waits_for m.0) t.tasks (k ∷ ls) = rw g at o.waiters in
      let i : Head (waits_for m.0) t.tasks k ls = head-is (waits_for m.0) t.tasks k ls refl q in
      let z : is await_sub old.state ≡ 1 = waits-some m.0 old.state i.is-of in
      let x = not-both old.state in
      let b : is dormant old.state ≡ 0 = omega arith in
      let n : length (line_of s) ≡ suc (length ls) = ap length g in
      rw (not-zero k.0 i.names.0) (record {
        leaving = refl;
        joining = (record { names = i.names; before = omega arith; after = refl }, tt);
        linked = up-links (alike t.tasks (requests t.rest) k.0 e 0 0 0 i.names refl (omega arith) (omega arith) refl b (links-up w.links));
        own = own_put t.rest t.tasks k.0 e i.names (ready-own b (w.own k.0)) w.own;
        rested = subs-rested _ w.rested;
        lined = record {
          sized = length-set t.rest.subs m.0 (held_by k ls) ∙ w.lined.sized;
          each = sub-set (SubOk us) t.rest.subs m.0 (held_by k ls) there (record {
            neat = held-neat k ls (omega (arith, line-waiting s o.neat, o.neat.room));
            busy = λ _. rw (at_same t.tasks k.0 e i.names) refl;
            free = λ y. absurd (omega (arith, i.names.0));
            waiters = rw (line-pad nobody 16 ls) (line-out (waits_for m.0) t.tasks k e ls refl q refl);
          }) (λ n d.
              sub_put t.tasks k.0 e n (get_or t.rest.subs n no_subprogram) i.names (waits-other m.0 n old.state d i.is-of) refl (λ y. absurd (omega arith)) (w.lined.each n));
        };
        mailed = mail-beside t.tasks t.rest _ refl refl refl refl w.mailed;
      })

  pub exit_good : Good (exit_plan t m) t
  unfolding exit_plan
  exit_good = handed-good (line_of s) refl
