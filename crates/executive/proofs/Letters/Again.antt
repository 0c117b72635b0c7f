-- A delivered message's place can be used again: after a receive that handed one out, a send that was refused is accepted.
use mathlib.Core.Path.{◌≡◌, refl, sym, ap, ◌∙◌}
use mathlib.Core.Logic.{◌≢◌}
use mathlib.Core.Bool.{Bool, true, false, not, cond, ◌||◌}
use mathlib.Core.List.{List, [], ◌∷◌}
use Prim.Native.Nat.{ℕ, ◌<◌}
use native.Mathlib.Omega.{arith}
use borrow.Author.Tests.{eqb-true}
use lib.Dec.{leb, ltb, eqb}
use lib.ListN.{length, get_or}
use Rattle.records.specs.Firsts.{Refusal, when, first_of}
use Rattle.records.specs.declared.TaskNo.{TaskNo}
use Rattle.records.specs.declared.Text.{Text}
use Rattle.records.specs.declared.Call.{Call}
use Rattle.records.specs.declared.Call.TheVariants as call
use Rattle.records.specs.Numbers.{Bytes}
use Rattle.records.specs.Kinds.{byte_of, length_of, is_call}
use Rattle.records.specs.Calls as calls
use Rattle.executive.specs.declared.State.TheVariants.{AwaitMessage}
use Rattle.executive.specs.declared.Table.{Table}
use Rattle.executive.specs.Lists.{◌and◌}
use Rattle.executive.specs.Entries.{with_state}
use Rattle.executive.specs.Pool.{removed}
use Rattle.executive.specs.Table.{stays, leaves, Plan, depart, joins, apply}
use Rattle.executive.specs.States.{takes}
use Rattle.executive.specs.Messages.{no_mail, letters, with_letters, first_fit, with_mail}
use Rattle.executive.specs.Plans.{caller, state_at, receive_plan}
use Rattle.executive.specs.WellFormed.{WellFormed}
use Rattle.executive.specs.Check.{is_well_formed}
use Rattle.executive.specs.Sheet.{plan_of, no_such_task}
use Rattle.executive.specs.Refusals.{kind_of_record, call_in, nobody_active, bad_body, holds_it, holds_not, holds_any, names_caller, alarm_running, pool_full, mail_full, ends_time, call_refusals, refusals}
use Rattle.executive.specs.Step.{step_of}
use Rattle.executive.specs.Promises.InWords.{MailFull}
use Rattle.executive.specs.Promises.MailLaw.{receives15}
use Rattle.executive.proofs.Lists.Tests.{false_not_true, and_true, Le, le_yes, le-no, leb-is}
use Rattle.executive.proofs.check.Decides.{well_formed-iff}
use Rattle.executive.proofs.step.StepIsPlan.{step_is, step_kept}
use Rattle.executive.proofs.step.FirstThatHolds.{step-number}
use Rattle.executive.proofs.step.InWords.{tells}
use Rattle.executive.proofs.Book.Step.{planned_so}
use Rattle.executive.proofs.Book.Counted.{first_byte}

-- ---- a list of refusals: one that is not the number given, one that is not given
peel : (m n : ℕ) (b : Bool) (rs : List Refusal) → n ≢ m → first_of (when n b ∷ rs) ≡ m → (b ≡ false) × (first_of rs ≡ m)
unfolding first_of
peel m n true rs d e = absurd (d e)
peel m n false rs d e = (refl, e)

skip : (n : ℕ) (b : Bool) (rs : List Refusal) → b ≡ false → first_of (when n b ∷ rs) ≡ first_of rs
unfolding first_of
skip n b rs e = rw e refl

full-given : (b l : Bool) → first_of (when 16 b ∷ when 10 l ∷ []) ≡ 16 → b ≡ true
unfolding first_of
full-given true l e = refl
full-given false true e = absurd (omega arith)
full-given false false e = absurd (omega arith)

-- a record that is whole and a call, at a well-formed table: what is refused is the call
first-free : (u : Table) (s : List ℕ) → not (is_well_formed u) ≡ false → eqb (length s) 0 ≡ false → not (is_call (kind_of_record s)) ≡ false
    → not (eqb (length s) (length_of (kind_of_record s))) ≡ false → first_of (refusals u s) ≡ first_of (call_refusals u (call_in s))
unfolding refusals
first-free u s a b c d = skip 1 _ _ a ∙ skip 3 _ _ b ∙ skip 4 _ _ c ∙ skip 3 _ _ d

-- ---- what a refusal with 16 says
record Crowded (t : Table) (s : List ℕ) : Type 0 where
  pub some : eqb (length s) 0 ≡ false
  pub kind : not (is_call (kind_of_record s)) ≡ false
  pub whole : not (eqb (length s) (length_of (kind_of_record s))) ≡ false
  pub active : nobody_active t (call_in s) ≡ false
  pub body : bad_body t (call_in s) ≡ false
  pub full : mail_full t (call_in s) ≡ true

crowded-of : (t : Table) (s : List ℕ) → first_of (refusals t s) ≡ 16 → Crowded t s
unfolding refusals
crowded-of t s e =
    let a = peel 16 1 _ _ (λ z. omega arith) e in
    let b = peel 16 3 _ _ (λ z. omega arith) a.1 in
    let c = peel 16 4 _ _ (λ z. omega arith) b.1 in
    let d = peel 16 3 _ _ (λ z. omega arith) c.1 in
    let f = peel 16 5 _ _ (λ z. omega arith) d.1 in
    let g = peel 16 6 _ _ (λ z. omega arith) f.1 in
    let h = peel 16 13 _ _ (λ z. omega arith) g.1 in
    let i = peel 16 14 _ _ (λ z. omega arith) h.1 in
    let j = peel 16 15 _ _ (λ z. omega arith) i.1 in
    let k = peel 16 7 _ _ (λ z. omega arith) j.1 in
    let l = peel 16 9 _ _ (λ z. omega arith) k.1 in
    let m = peel 16 8 _ _ (λ z. omega arith) l.1 in
    record { some = b.0; kind = c.0; whole = d.0; active = f.0; body = g.0; full = full-given _ _ m.1 }

-- ---- a receive that takes one out leaves the queue and the number of tasks
record Same (t u : Table) : Type 0 where
  pub ready : u.ready ≡ t.ready
  pub count : u.rest.count ≡ t.rest.count

module _ (t : Table) where
  receive-same : (n : TaskNo) → (receive_plan t n).rest.sent < t.rest.sent → Same t (apply (receive_plan t n) t)
  unfolding receive_plan apply depart joins
  receive-same n l = go (ltb i (length (letters t.rest))) l
    where
      i : ℕ
      i = first_fit (caller t).0 n.0 (letters t.rest)

      found : Plan
      found = record { out = stays; ins = []; rest = with_mail (caller t).0 no_mail (with_letters (removed i (letters t.rest)) t.rest) }

      none : Plan
      none = record { out = leaves (with_state (AwaitMessage n)); ins = []; rest = with_mail (caller t).0 no_mail t.rest }

      go : (b : Bool) → (cond b found none).rest.sent < t.rest.sent → Same t (apply (cond b found none) t)
      go true l = record { ready = refl; count = refl }
      go false l = absurd (omega arith)

  call_same : (c : Call) → eqb (byte_of (calls.kind_of_call c)) 0x15 ≡ true → (apply (plan_of t c) t).rest.sent < t.rest.sent → Same t (apply (plan_of t c) t)
  unfolding plan_of apply
  call_same call.Terminate e l = false_not_true e
  call_same (call.Restart p n) e l = false_not_true e
  call_same (call.Pause u n) e l = false_not_true e
  call_same (call.CancelPause k) e l = false_not_true e
  call_same (call.StartIfDormant o k) e l = false_not_true e
  call_same (call.StartOrQueue o k a) e l = false_not_true e
  call_same (call.Flag o f) e l = false_not_true e
  call_same (call.Wait m mask) e l = false_not_true e
  call_same (call.Alarm u n f) e l = false_not_true e
  call_same call.Tick e l = false_not_true e
  call_same (call.Granule g) e l = false_not_true e
  call_same (call.Task p m) e l = false_not_true e
  call_same call.End e l = false_not_true e
  call_same (call.Enter m) e l = false_not_true e
  call_same (call.Exit m) e l = false_not_true e
  call_same (call.Send k x) e l = false_not_true e
  call_same (call.Receive n) e l = receive-same n l

step_same : (t : Table) (q : List ℕ) → WellFormed t → Bytes q → receives15 t q ≡ true → (step_of t q).table.rest.sent < t.rest.sent → Same t (step_of t q).table
step_same t q w y r l =
    let v = and_true (eqb (step_of t q).answer.number 0) (eqb (get_or q 0 0) 0x15) r in
    let z : (step_of t q).answer.number ≡ 0 = eqb-true _ 0 v.0 in
    let d : (step_of t q).table ≡ apply (plan_of t (call_in q)) t = (step_is t q w y).table ∙ ap (λ (p : Plan). apply p t) (planned_so t q z) in
    rw d (call_same t (call_in q) (rw (first_byte t q z y) at v.1) (rw d at l))

-- ---- a send that nothing refuses
no-and : (p b : Bool) → b ≡ false → p and b ≡ false
no-and true b e = e
no-and false b e = refl

send-none : (u : Table) (k : TaskNo) (x : Text) → eqb u.ready 0 ≡ false → no_such_task u.rest k ≡ false → leb 32 u.rest.sent ≡ false
    → first_of (call_refusals u (call.Send k x)) ≡ 0
unfolding nobody_active bad_body holds_it holds_not holds_any names_caller alarm_running pool_full mail_full ends_time first_of
send-none u k x a b d = rw (a, b, no-and (not (takes (caller u).0 (state_at u k))) (leb 32 u.rest.sent) d) refl

some-active : (t : Table) (k : TaskNo) (x : Text) → nobody_active t (call.Send k x) ≡ false → eqb t.ready 0 ≡ false
unfolding nobody_active
some-active t k x e = e

such-task : (t : Table) (k : TaskNo) (x : Text) → bad_body t (call.Send k x) ≡ false → no_such_task t.rest k ≡ false
unfolding bad_body
such-task t k x e = e

fewer : (n : ℕ) → n < 32 → leb 32 n ≡ false
fewer n l = go (leb 32 n) (leb-is 32 n)
  where
    go : (b : Bool) → Le 32 n b → b ≡ false
    go true (le_yes h) = absurd (omega arith)
    go false (le-no h) = refl

pub room-again : (t : Table) (s q : List ℕ) → WellFormed t → Bytes s → Bytes q → (step_of t s).answer.number ≡ 16
    → receives15 t q ≡ true → (step_of t q).table.rest.sent < t.rest.sent → (step_of (step_of t q).table s).answer.number ≡ 0
room-again t s q w y v e r l = step-number u s ∙ allowed
  where
    u : Table
    u = (step_of t q).table

    k : Crowded t s
    k = crowded-of t s (sym (step-number t s) ∙ e)

    m : MailFull t (call_in s)
    m = (tells t (call_in s)).crowded k.full

    same : Same t u
    same = step_same t q w v r l

    calls-none : first_of (call_refusals u (call_in s)) ≡ 0
    calls-none =
        ap (λ (c : Call). first_of (call_refusals u c)) m.call
        ∙ send-none u m.addressee m.text
        (ap (λ (n : ℕ). eqb n 0) same.ready ∙ some-active t m.addressee m.text (sym (ap (nobody_active t) m.call) ∙ k.active))
        (ap (λ (n : ℕ). eqb m.addressee.0 0 || ltb n m.addressee.0) same.count ∙ such-task t m.addressee m.text (sym (ap (bad_body t) m.call) ∙ k.body))
        (fewer u.rest.sent (omega (arith, l, w.numbers.sent)))

    allowed : first_of (refusals u s) ≡ 0
    allowed = first-free u s (ap not ((well_formed-iff u).1 (step_kept t q w v))) k.some k.kind k.whole ∙ calls-none
