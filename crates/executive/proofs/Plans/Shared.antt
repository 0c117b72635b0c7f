-- What the plans of the calls share: the caller, entries that stay in order, those named who enter.
use mathlib.Core.Path.{◌≡◌, refl}
use mathlib.Core.Bool.{Bool, true, false, cond}
use mathlib.Core.List.{List, [], ◌∷◌, ◌++◌}
use Prim.Native.Nat.{ℕ, ◌+◌, ◌≤◌, ◌<◌}
use native.Mathlib.Omega.{arith}
use borrow.Author.Tests.{eqb-true, eqb-false}
use lib.Dec.{eqb}
use lib.ListN.{length}
use Rattle.records.specs.declared.TaskNo.{TaskNo}
use Rattle.executive.specs.declared.State.{State}
use Rattle.executive.specs.declared.State.TheVariants.{Ready}
use Rattle.executive.specs.declared.Task.{Task}
use Rattle.executive.specs.declared.Request.{Request}
use Rattle.executive.specs.declared.Sub.{Sub}
use Rattle.executive.specs.declared.Message.{Message}
use Rattle.executive.specs.declared.Mail.{Mail}
use Rattle.executive.specs.declared.Rest.{Rest}
use Rattle.executive.specs.declared.Table.{Table}
use Rattle.executive.specs.Entries.{with_state}
use Rattle.executive.specs.Rest.{with_subs, with_post}
use Rattle.executive.specs.Plans.{waking, nothing}
use Rattle.executive.specs.Pool.{with_requests, PoolInOrder, requests}
use Rattle.executive.specs.Places.{no_request, Names, task_at, put_at}
use Rattle.executive.specs.Table.{line, head_of, leaves, Join, change-at}
use Rattle.executive.specs.States.{dormant, ready, await_start, await_end, await_sub, await_message, awaited_of, is_of, is, state_kind, is_ready}
use Rattle.executive.specs.Messages.{no_mail, letters, with_mail}
use Rattle.executive.specs.WellFormed.{over_priority, fitting, Line}
use Rattle.executive.proofs.Plans.WorkingForm.{StateOk, EntryOk, EntriesOk, RestOk, SubsOk, WellFormedByPart, busy-within, busy-own}
use Rattle.executive.proofs.Lists.Tests.{false_not_true}
use Rattle.executive.proofs.Lists.Pad.{line-pad}
use Rattle.executive.proofs.queue.ArraysAreLists.{line-length}
use Rattle.executive.proofs.places.TaskAt.{at_other, put_length}
use Rattle.executive.proofs.Plans.QueueKept.{not-both, busy-names, head-is}
use Rattle.executive.proofs.Plans.LinksKept.{put_all, LinksUpTo, links-up, up-links}
use Rattle.executive.proofs.Plans.Links.{alike, wake_ender, wake_starter}
use Rattle.executive.proofs.Plans.GoodIsKept.{puts, Good}
use Rattle.executive.proofs.messages.Kept.{MailOk, mail-calm, mail_put, mail-gone}
use Rattle.executive.proofs.messages.Arrays.{mail-same}
use Rattle.executive.proofs.Plans.SubsKept.{HoldsNone, AllElse, subs_put}
use Rattle.executive.proofs.states.Laws.{counted}

-- the entry of task k is in order, beside the rest r
abbrev pub EntryOkIn : Rest → ℕ → Task → Type 0
EntryOkIn r k e = EntryOk r.clock.0 r.flags r.count k e

pub own_put : (r : Rest) (ts : List Task) (j : ℕ) (e : Task) → Names j ts → EntryOkIn r j e → EntriesOk r ts → EntriesOk r (put_at ts j e)
own_put r ts j e n h a k = put_all (EntryOkIn r) ts j e n h k (λ _. a k)

-- a busy task's entry in another state that is busy
pub state-own : {c fs n k : ℕ} {e : Task} (s : State) → StateOk c fs s → is dormant s ≡ 0 → is dormant e.state ≡ 0 → EntryOk c fs n k e → EntryOk c fs n k (with_state s e)
state-own s m z b o = busy-own m o.started o.level o.home z (busy-within o b)

pub ready-own : {c fs n k : ℕ} {e : Task} → is dormant e.state ≡ 0 → EntryOk c fs n k e → EntryOk c fs n k (with_state Ready e)
ready-own b o = state-own Ready (false_not_true, false_not_true) refl b o

pub nothing-good : (t : Table) → WellFormedByPart t → Good (nothing t) t
unfolding puts
nothing-good t w = record { leaving = refl; joining = tt; linked = w.links; own = w.own; rested = w.rested; lined = w.lined; mailed = w.mailed }

-- what is known of the caller
pub record Runs (ts : List Task) (c : ℕ) : Type 0 where
  pub is-ready : is ready (task_at ts c).state ≡ 1
  pub is-busy : is dormant (task_at ts c).state ≡ 0
  pub no_start : is await_start (task_at ts c).state ≡ 0
  pub no_end : is await_end (task_at ts c).state ≡ 0
  pub no_sub : is await_sub (task_at ts c).state ≡ 0
  pub names : Names c ts

caller-ready : (ts : List Task) (r : List TaskNo) → Line is_ready ts r → 0 < length r → is ready (task_at ts (head_of r).0).state ≡ 1
caller-ready ts [] q h = absurd (omega arith)
caller-ready ts (c ∷ r) q h = (head-is is_ready ts c r refl q).is-of

pub ready-runs : (ts : List Task) (c : ℕ) → is ready (task_at ts c).state ≡ 1 → Runs ts c
ready-runs ts c r =
    let x = not-both (task_at ts c).state in
    record { is-ready = r; is-busy = omega arith; no_start = omega arith; no_end = omega arith; no_sub = omega arith; names = busy-names ts c (omega arith) }

pub runs : (t : Table) → WellFormedByPart t → 0 < t.ready → Runs t.tasks (head_of (line t)).0
runs t w h = ready-runs t.tasks (head_of (line t)).0 (caller-ready t.tasks (line t) w.queue (omega (arith, line-length t w.fit)))

-- the caller departs, and not to wait for a subprogram: one that sleeps holds none
pub leaves_else : (t : Table) → WellFormedByPart t → 0 < t.ready → (e : Task) → is await_sub e.state ≡ 0 → (is dormant e.state ≡ 1 → HoldsNone (head_of (line t)).0 t.rest.subs)
    → SubsOk (put_at t.tasks (head_of (line t)).0 e) t.rest.subs
leaves_else t w h e z d = let r = runs t w h in subs_put t.tasks (head_of (line t)).0 e r.names r.no_sub z d w.lined

-- the caller departs, and neither sleeps nor waits for a message
pub leaves-mailed : (t : Table) → WellFormedByPart t → 0 < t.ready → (e : Task) → is dormant e.state + is await_message e.state ≡ 0
    → MailOk (put_at t.tasks (head_of (line t)).0 e) t.rest
leaves-mailed t w h e z = mail-calm t.tasks (head_of (line t)).0 e t.rest (runs t w h).names z w.mailed

-- the caller departs to wait for a time or for flags: no link names it
pub waits-good : (t : Table) → WellFormedByPart t → 0 < t.ready → (s : State) → StateOk t.rest.clock.0 t.rest.flags s → counted (state_kind s) ≡ 0
    → Good (record { out = leaves (with_state s); ins = []; rest = t.rest }) t
unfolding puts
waits-good t w h s m z =
    let c : ℕ = (head_of (line t)).0 in
    let r : Runs t.tasks c = runs t w h in
    let e : Task = with_state s (task_at t.tasks c) in
    let d : is dormant s ≡ 0 = omega arith in
    record {
      leaving = omega arith;
      joining = tt;
      linked = up-links (alike t.tasks (requests t.rest) c e 0 0 0 r.names refl (omega (arith, r.no_start)) (omega (arith, r.no_end)) d r.is-busy (links-up w.links));
      own = own_put t.rest t.tasks c e r.names (state-own s m d r.is-busy (w.own c)) w.own;
      rested = w.rested;
      lined = leaves_else t w h e (omega arith) (λ x. absurd (omega arith));
      mailed = leaves-mailed t w h e (omega arith);
    }

-- the rest with other subprograms
pub subs-rested : {r : Rest} (ss : List Sub) → RestOk r → RestOk (with_subs ss r)
subs-rested ss o = record {
  count = o.count;
  granule = o.granule;
  clocked = o.clocked;
  sized = o.sized;
  alarms = o.alarms;
  priorities = o.priorities;
  neat = record { room = o.neat.room; clear = o.neat.clear };
}

-- the rest with other messages and other mail
pub post-rested : {r : Rest} (ms : List Message) (n : ℕ) (ml : List Mail) → RestOk r → RestOk (with_post ms n ml r)
post-rested ms n ml o = record {
  count = o.count;
  granule = o.granule;
  clocked = o.clocked;
  sized = o.sized;
  alarms = o.alarms;
  priorities = o.priorities;
  neat = record { room = o.neat.room; clear = o.neat.clear };
}

-- ---- 00
-- those named enter, one after the other; P is what is to hold of each entry
pub record Woken (P : ℕ → Task → Type 0) (js : List Join) (ts : List Task) (p : List Request) (w s d : ℕ) : Type 0 where
  pub joining : AllElse js ts
  pub linked : LinksUpTo (puts js ts) p w s d
  pub own : (k : ℕ) → P k (task_at (puts js ts) k)

module _ (P : ℕ → Task → Type 0) (readied : (k : ℕ) (e : Task) → is dormant e.state ≡ 0 → P k e → P k (with_state Ready e)) where
  pub ender_in : (ts : List Task) (p : List Request) (w : TaskNo) (s d : ℕ) → LinksUpTo ts p w.0 s d → ((k : ℕ) → P k (task_at ts k)) → Woken P (waking w) ts p 0 s d
  unfolding puts waking
  ender_in ts p w s d l a = go (eqb w.0 0) refl
    where
      go : (b : Bool) → eqb w.0 0 ≡ b → Woken P (cond b [] (record { who = w; change = with_state Ready } ∷ [])) ts p 0 s d
      go true z = record { joining = tt; linked = rw (eqb-true w.0 0 z) at l; own = a }
      go false z =
          let e : Task = with_state Ready (task_at ts w.0) in
          let r = wake_ender ts p w.0 e s d (omega (arith, eqb-false w.0 0 z)) refl refl l in
          record { joining = (record { names = r.0; before = omega (arith, r.1); after = refl }, tt); linked = r.2; own = λ k. put_all P ts w.0 e r.0 (readied w.0 (task_at ts w.0) (omega (arith, r.1)) (a w.0)) k (λ _. a k) }

  pub starter_in : (ts : List Task) (p : List Request) (w : ℕ) (s : TaskNo) (d : ℕ) → LinksUpTo ts p w s.0 d → ((k : ℕ) → P k (task_at ts k)) → Woken P (waking s) ts p w 0 d
  unfolding puts waking
  starter_in ts p w s d l a = go (eqb s.0 0) refl
    where
      go : (b : Bool) → eqb s.0 0 ≡ b → Woken P (cond b [] (record { who = s; change = with_state Ready } ∷ [])) ts p w 0 d
      go true z = record { joining = tt; linked = rw (eqb-true s.0 0 z) at l; own = a }
      go false z =
          let e : Task = with_state Ready (task_at ts s.0) in
          let r = wake_starter ts p s.0 e w d (omega (arith, eqb-false s.0 0 z)) refl refl l in
          record { joining = (record { names = r.0; before = omega (arith, r.1); after = refl }, tt); linked = r.2; own = λ k. put_all P ts s.0 e r.0 (readied s.0 (task_at ts s.0) (omega (arith, r.1)) (a s.0)) k (λ _. a k) }

pub joins-append : (a b : List Join) (ts : List Task) → AllElse a ts → AllElse b (puts a ts) → AllElse (a ++ b) ts
unfolding puts
joins-append [] b ts x y = y
joins-append (j ∷ a) b ts x y = (x.0, joins-append a b (change-at ts j.who.0 j.change) x.1 y)

pub puts-append : (a b : List Join) (ts : List Task) → puts (a ++ b) ts ≡ puts b (puts a ts)
unfolding puts
puts-append [] b ts = refl
puts-append (j ∷ a) b ts = puts-append a b (change-at ts j.who.0 j.change)

pub wake_other : (ts : List Task) (w : TaskNo) (k : ℕ) → eqb k w.0 ≡ false → task_at (puts (waking w) ts) k ≡ task_at ts k
unfolding puts waking
wake_other ts w k h = go (eqb w.0 0)
  where
    go : (b : Bool) → task_at (puts (cond b [] (record { who = w; change = with_state Ready } ∷ [])) ts) k ≡ task_at ts k
    go true = refl
    go false = at_other ts w.0 k _ h

pub wake_length : (ts : List Task) (w : TaskNo) → length (puts (waking w) ts) ≡ length ts
unfolding puts waking
wake_length ts w = go (eqb w.0 0)
  where
    go : (b : Bool) → length (puts (cond b [] (record { who = w; change = with_state Ready } ∷ [])) ts) ≡ length ts
    go true = refl
    go false = put_length ts w.0 _

module _ (t : Table) (w : WellFormedByPart t) (h : 0 < t.ready) where
  abbrev c : TaskNo
  c = head_of (line t)

  abbrev now : ℕ
  now = t.rest.clock.0

  abbrev fs : ℕ
  fs = t.rest.flags

  abbrev e : Task
  e = task_at t.tasks c.0

  pub inside : c.0 ≤ t.rest.count
  inside = busy-within (w.own c.0) (runs t w h).is-busy

  -- the caller's mail is gone; and the caller departs
  pub mail-cleared : (r : Rest) → MailOk t.tasks r → MailOk t.tasks (with_mail c.0 no_mail r)
  mail-cleared r m = mail-gone t.tasks r c.0 m (runs t w h).names.0 (omega (arith, inside, w.rested.count.1))

  pub gone-mailed : (x : Task) (r : Rest) → MailOk t.tasks r
      → (is_of await_message x.state ≡ true → (fitting c.0 (awaited_of x.state) (letters r) ≡ 0) × (awaited_of x.state ≤ r.count))
      → MailOk (put_at t.tasks c.0 x) (with_mail c.0 no_mail r)
  gone-mailed x r m f =
      mail_put t.tasks c.0 x (with_mail c.0 no_mail r) (runs t w h).names f
      (λ _. mail-same r c.0 no_mail (runs t w h).names.0 (omega (arith, inside, w.rested.count.1, m.places)))
      (mail-cleared r m)

  -- the rest with other requests
  pub pooled : (p : List Request) → PoolInOrder (with_requests p t.rest) → over_priority p ≡ 0 → RestOk (with_requests p t.rest)
  pooled p n z = record {
    count = w.rested.count;
    granule = w.rested.granule;
    clocked = w.rested.clocked;
    sized = w.rested.sized;
    alarms = w.rested.alarms;
    priorities = rw (line-pad no_request 32 p) z;
    neat = n;
  }

  -- the caller departs to wait: its entry, in order
  pub waits-own : (s : State) → StateOk now fs s → is dormant s ≡ 0 → EntriesOk t.rest (put_at t.tasks c.0 (with_state s e))
  waits-own s m z = own_put t.rest t.tasks c.0 (with_state s e) (runs t w h).names (state-own s m z (runs t w h).is-busy (w.own c.0)) w.own
