-- The plan of kind 06 is good, and there is room in the line that its caller joins.
use mathlib.Core.Path.{◌≡◌, refl, sym, ap, ◌∙◌}
use mathlib.Core.Bool.{Bool, true, false, not, cond}
use mathlib.Core.List.{List, [], ◌∷◌}
use Prim.Native.Nat.{ℕ, ◌≤◌, ◌<◌}
use native.Mathlib.Omega.{arith}
use borrow.Author.Tests.{eqb-false}
use lib.Dec.{eqb}
use lib.ListN.{length, get_or, length-set}
use Rattle.records.specs.declared.TaskNo.{TaskNo}
use Rattle.records.specs.declared.SubNo.{SubNo}
use Rattle.executive.specs.declared.State.TheVariants.{AwaitSub}
use Rattle.executive.specs.declared.Task.{Task}
use Rattle.executive.specs.declared.Sub.{Sub}
use Rattle.executive.specs.declared.Table.{Table}
use Rattle.executive.specs.Numbers.{last_sub}
use Rattle.executive.specs.Lists.{one, pad}
use Rattle.executive.specs.Entries.{with_state}
use Rattle.executive.specs.Places.{nobody, task_at, put_at}
use Rattle.executive.specs.Pool.{requests}
use Rattle.executive.specs.Table.{line, head_of, enter_at, stays, leaves, Plan}
use Rattle.executive.specs.Subprograms.{held_by, no_subprogram, sub_at, line_of, LineInOrder, enters_it, waits_behind, with_sub}
use Rattle.executive.specs.Plans.{caller, enter_plan}
use Rattle.executive.specs.States.{dormant, is, waits_for}
use Rattle.executive.proofs.Lists.Tests.{eqb_self, false_not_true}
use Rattle.executive.proofs.Lists.Pad.{line-pad}
use Rattle.executive.proofs.Lists.Sums.{set_all}
use Rattle.executive.proofs.queue.ArraysAreLists.{enter-length}
use Rattle.executive.proofs.Plans.WorkingForm.{SubOk, WellFormedByPart, line-waiting}
use Rattle.executive.proofs.Plans.QueueKept.{line_in}
use Rattle.executive.proofs.Plans.Size.{fewer}
use Rattle.executive.proofs.Plans.LinksKept.{put_all, links-up, up-links}
use Rattle.executive.proofs.Plans.Links.{alike}
use Rattle.executive.proofs.Plans.GoodIsKept.{puts, Good}
use Rattle.executive.proofs.Plans.SubsKept.{waits-none, waits-other, sub_put, sub-set}
use Rattle.executive.proofs.Plans.Shared.{Runs, runs, waits-own, subs-rested, leaves-mailed}
use Rattle.executive.proofs.messages.Kept.{mail-beside}

-- a line is the one that was stored
pub held-neat : (k : TaskNo) (xs : List TaskNo) → length xs ≤ 16 → LineInOrder (held_by k xs)
held-neat k xs h = record { room = h; clear = ap (pad 16 nobody) (sym (line-pad nobody 16 xs)) }

-- a task that runs stands in no line of waiters: at most fifteen do
pub beside : (ts : List Task) (s : Sub) (m : SubNo) (c : ℕ) → length ts ≡ 16 → SubOk ts m.0 s → Runs ts c → s.waiting < 16
beside ts s m c n o r =
    let l : length (line_of s) < 16 = fewer (waits_for m.0) refl ts (line_of s) c (with_state (AwaitSub m) (task_at ts c)) n o.waiters r.names
    (waits-none m.0 (task_at ts c).state r.no_sub) (ap one (eqb_self m.0)) in
    omega (arith, line-waiting s o.neat)

pub line-room : (t : Table) → WellFormedByPart t → 0 < t.ready → (m : SubNo) → (sub_at t.rest m.0).waiting < 16
line-room t w h m = beside t.tasks (sub_at t.rest m.0) m (head_of (line t)).0 w.fit.all (w.lined.each m.0) (runs t w h)

-- priorities alone tell the place
enter-alike : (ts us : List Task) (k : TaskNo) (xs : List TaskNo) → ((j : ℕ) → (task_at us j).priority ≡ (task_at ts j).priority) → enter_at us k xs ≡ enter_at ts k xs
unfolding enter_at
enter-alike ts us k [] h = refl
enter-alike ts us k (x ∷ xs) h = rw (h k.0, h x.0, enter-alike ts us k xs h) refl

-- the plan at a held subprogram, and at a free one
abbrev pub waits_plan : Table → SubNo → Plan
waits_plan t m = record {
  out = leaves (with_state (AwaitSub m));
  ins = [];
  rest = with_sub m.0 (waits_behind t.tasks (caller t) (sub_at t.rest m.0)) t.rest;
}

abbrev pub gets_in_plan : Table → SubNo → Plan
gets_in_plan t m = record { out = stays; ins = []; rest = with_sub m.0 (enters_it (caller t) (sub_at t.rest m.0)) t.rest }

module _ (t : Table) (w : WellFormedByPart t) (h : 0 < t.ready) (m : SubNo) (low : m.0 ≤ last_sub) where
  abbrev c : TaskNo
  c = head_of (line t)

  abbrev s : Sub
  s = sub_at t.rest m.0

  -- the caller's entry as it waits, and the tasks then
  abbrev e : Task
  e = with_state (AwaitSub m) (task_at t.tasks c.0)

  abbrev us : List Task
  us = put_at t.tasks c.0 e

  o : SubOk t.tasks m.0 s
  o = w.lined.each m.0

  r : Runs t.tasks c.0
  r = runs t w h

  free-good : Good (gets_in_plan t m) t
  unfolding puts
  free-good = record {
    leaving = refl;
    joining = tt;
    linked = w.links;
    own = w.own;
    rested = subs-rested _ w.rested;
    lined = record {
      sized = length-set t.rest.subs m.0 (enters_it c s) ∙ w.lined.sized;
      each = set_all (SubOk t.tasks) t.rest.subs m.0 (enters_it c s) no_subprogram (record {
        neat = record { room = o.neat.room; clear = o.neat.clear };
        busy = λ _. r.is-busy;
        free = λ z. absurd (omega (arith, r.names.0));
        waiters = o.waiters;
      }) w.lined.each;
    };
    mailed = mail-beside t.tasks t.rest _ refl refl refl refl w.mailed;
  }

  same-priority : (j : ℕ) → (task_at us j).priority ≡ (task_at t.tasks j).priority
  same-priority j = put_all (λ (j : ℕ) (x : Task). x.priority ≡ (task_at t.tasks j).priority) t.tasks c.0 e r.names refl j (λ _. refl)

  -- it stands in the line, behind all of equal or higher priority
  stands : 0 < s.holder.0 → SubOk us m.0 (waits_behind t.tasks c s)
  stands held =
      let l : List TaskNo = enter_at t.tasks c (line_of s) in
      let q : enter_at us c (line_of s) ≡ l = enter-alike t.tasks us c (line_of s) same-priority in
      record {
        neat = held-neat s.holder l (omega (arith, enter-length t.tasks c (line_of s), line-waiting s o.neat, line-room t w h m));
        busy = λ x. put_all (λ (k : ℕ) (y : Task). is dormant y.state ≡ 0) t.tasks c.0 e r.names refl s.holder.0 (λ _. o.busy x);
        free = λ z. absurd (omega arith);
        waiters = rw (line-pad nobody 16 l, ← q)
            (line_in (waits_for m.0) t.tasks c e (line_of s) o.waiters r.names (waits-none m.0 (task_at t.tasks c.0).state r.no_sub) (ap one (eqb_self m.0)));
      }

  held-good : 0 < s.holder.0 → Good (waits_plan t m) t
  unfolding puts
  held-good held = record {
    leaving = refl;
    joining = tt;
    linked = up-links (alike t.tasks (requests t.rest) c.0 e 0 0 0 r.names refl (sym r.no_start) (sym r.no_end) refl r.is-busy (links-up w.links));
    own = waits-own t w h (AwaitSub m) (false_not_true, false_not_true) refl;
    rested = subs-rested _ w.rested;
    lined = record {
      sized = length-set t.rest.subs m.0 (waits_behind t.tasks c s) ∙ w.lined.sized;
      each = sub-set (SubOk us) t.rest.subs m.0 (waits_behind t.tasks c s) (omega (arith, w.lined.sized)) (stands held) (λ k d.
          sub_put t.tasks c.0 e k (get_or t.rest.subs k no_subprogram) r.names (waits-none k (task_at t.tasks c.0).state r.no_sub)
          (waits-other m.0 k (AwaitSub m) d (ap one (eqb_self m.0))) (λ z. absurd (omega arith)) (w.lined.each k));
    };
    mailed = mail-beside us t.rest _ refl refl refl refl (leaves-mailed t w h e refl);
  }

  pub enter-good : Good (enter_plan t m) t
  unfolding enter_plan
  enter-good = go (eqb s.holder.0 0) refl
    where
      go : (b : Bool) → eqb s.holder.0 0 ≡ b → Good (cond (not b) (waits_plan t m) (gets_in_plan t m)) t
      go true z = free-good
      go false z = held-good (omega (arith, eqb-false s.holder.0 0 z))
