-- What a step hands over is told: in the answer of the receive, or in the entry of the task that the send makes ready.
use mathlib.Core.Path.{◌≡◌, refl, sym, ap, ◌∙◌}
use mathlib.Core.Logic.{inl, inr}
use mathlib.Core.Bool.{Bool, true, false, cond}
use mathlib.Core.List.{List, [], ◌∷◌, ◌++◌, append-nil, tail}
use Prim.Native.Nat.{ℕ, ◌≤◌}
use native.Mathlib.Omega.{arith}
use borrow.Author.Tests.{eqb-true, eq-eqb}
use lib.Dec.{eqb}
use lib.ListN.{length, get_or}
use Rattle.records.specs.declared.TaskNo.{TaskNo}
use Rattle.records.specs.declared.Text.{Text}
use Rattle.records.specs.declared.Call.{Call}
use Rattle.records.specs.declared.Call.TheVariants as call
use Rattle.records.specs.Numbers.{Bytes}
use Rattle.records.specs.Kinds.{byte_of}
use Rattle.records.specs.Calls as calls
use Rattle.executive.specs.declared.State.TheVariants.{Ready}
use Rattle.executive.specs.declared.Task.{Task}
use Rattle.executive.specs.declared.Message.{Message}
use Rattle.executive.specs.declared.Mail.{Mail}
use Rattle.executive.specs.declared.Table.{Table}
use Rattle.executive.specs.declared.Answer.{Answer}
use Rattle.executive.specs.Lists.{one, next_of}
use Rattle.executive.specs.Entries.{with_state}
use Rattle.executive.specs.Places.{Names, task_at}
use Rattle.executive.specs.Table.{stays, Plan, apply}
use Rattle.executive.specs.States.{await_message, is, takes}
use Rattle.executive.specs.Messages.{no_message, letters, fits, first_fit, mail_at, with_mail}
use Rattle.executive.specs.Plans.{caller, state_at, waking, letter_of, send_plan}
use Rattle.executive.specs.WellFormed.{WellFormed}
use Rattle.executive.specs.Sheet.{plan_of, marks_of}
use Rattle.executive.specs.Refusals.{call_in}
use Rattle.executive.specs.Step.{step_of}
use Rattle.executive.specs.Letters.{Letter, letter, unstamped, Letters, Passage, elsewhere, delivers, keeps, hands, passage_of, passage_in, first_that, letter_fits, entered, Agree}
use Rattle.executive.specs.Promises.EveryStart.{accepts}
use Rattle.executive.specs.Promises.MailLaw.{ToldInEntry, AllTold}
use Rattle.executive.proofs.Lists.Tests.{not-zero, and_true, true_and}
use Rattle.executive.proofs.places.TaskAt.{at_same}
use Rattle.executive.proofs.messages.Lines.{next-suc}
use Rattle.executive.proofs.messages.Arrays.{mail-same}
use Rattle.executive.proofs.Plans.QueueKept.{not-both, busy-names}
use Rattle.executive.proofs.Plans.GoodIsKept.{puts}
use Rattle.executive.proofs.Plans.Send.{takes-waits}
use Rattle.executive.proofs.step.StepIsPlan.{step_is}
use Rattle.executive.proofs.step.OthersStay.{plan-tasks}
use Rattle.executive.proofs.Book.Step.{planned_so}
use Rattle.executive.proofs.Book.Counted.{first_byte}
use Rattle.executive.proofs.Letters.Lists.{first-few}
use Rattle.executive.proofs.Letters.Told.{sender-answered, text-answered}

-- ---- what a step adds to those handed over
abbrev pub new_handed : ℕ → Passage → Letters → List Letter
new_handed i elsewhere b = []
new_handed i (delivers m) b = letter i m ∷ []
new_handed i (keeps m) b = []
new_handed i (hands k s) b = first_that (letter_fits k s) b.waiting

pub adds-handed : (i : ℕ) (x : Passage) (b : Letters) → (entered i x b).handed ≡ b.handed ++ new_handed i x b
unfolding entered
adds-handed i elsewhere b = sym (append-nil b.handed)
adds-handed i (delivers m) b = refl
adds-handed i (keeps m) b = sym (append-nil b.handed)
adds-handed i (hands k s) b = refl

pub few-handed : (i : ℕ) (x : Passage) (b : Letters) → length (new_handed i x b) ≤ 1
few-handed i elsewhere b = omega arith
few-handed i (delivers m) b = omega arith
few-handed i (keeps m) b = omega arith
few-handed i (hands k s) b = first-few (letter_fits k s) b.waiting

-- ---- the book's first that fits is the table's
record IsFirst (k : ℕ) (m : Message) (e : Letter) : Type 0 where
  pub to : e.to ≡ k
  pub sender : m.sender.0 ≡ e.sender
  pub text : m.text.0 ≡ e.text

abbrev AllFirst : ℕ → Message → List Letter → Type 0
AllFirst k m [] = Unit {0}
AllFirst k m (e ∷ es) = IsFirst k m e × AllFirst k m es

first-is : (k n : ℕ) (es : List Letter) (ms : List Message) → Agree es ms → AllFirst k (get_or ms (first_fit k n ms) no_message) (first_that (letter_fits k n) es)
unfolding next_of first_that
first-is k n [] ms a = tt
first-is k n (x ∷ es) [] a = absurd (omega (arith, ap (λ (l : List Letter). length l) a))
first-is k n (x ∷ es) (m ∷ ms) a = rw (← alike) (go (letter_fits k n x) refl (first-is k n es ms (ap tail a)))
  where
    same : unstamped x ≡ letter 0 m
    same = ap (λ (l : List Letter). get_or l 0 (letter 0 no_message)) a

    to : x.to ≡ m.to.0
    to = ap (λ (e : Letter). e.to) same

    sender : x.sender ≡ m.sender.0
    sender = ap (λ (e : Letter). e.sender) same

    alike : letter_fits k n x ≡ fits k n m
    alike = rw (to, sender) refl

    go : (b : Bool) → letter_fits k n x ≡ b → AllFirst k (get_or ms (next_of (fits k n) 0 ms) no_message) (first_that (letter_fits k n) es)
        → AllFirst k (get_or (m ∷ ms) (cond b 0 (next_of (fits k n) 1 ms)) no_message) (cond b (x ∷ []) (first_that (letter_fits k n) es))
    go true e ih = (record { to = sym (eqb-true k x.to (and_true (eqb k x.to) _ e).0); sender = sym sender; text = sym (ap (λ (e : Letter). e.text) same) }, tt)
    go false e ih = rw (next-suc (fits k n) 0 ms) ih

-- ---- an accepted record
module _ (t : Table) (s : List ℕ) (w : WellFormed t) (y : Bytes s) (z : (step_of t s).answer.number ≡ 0) where
  abbrev a : Answer
  a = (step_of t s).answer

  abbrev u : Table
  u = (step_of t s).table

  taken : (c : Call) → call_in s ≡ c → accepts (byte_of (calls.kind_of_call c)) s a ≡ true
  taken c e = true_and (eqb a.number 0) _ (eq-eqb a.number 0 z) (eq-eqb (get_or s 0 0) _ (first_byte t s z y ∙ ap (λ (c : Call). byte_of (calls.kind_of_call c)) e))

  -- ---- 14
  module _ (j : TaskNo) (x : Text) (e : call_in s ≡ call.Send j x) (g : takes (caller t).0 (state_at t j) ≡ true) where
    abbrev given : Plan
    given = record { out = stays; ins = waking j; rest = with_mail j.0 (record { sender = caller t; text = x }) t.rest }

    plan-given : plan_of t (call.Send j x) ≡ given
    unfolding plan_of send_plan
    plan-given = rw g refl

    done : u ≡ apply given t
    done = (step_is t s w y).table ∙ ap (λ (p : Plan). apply p t) (planned_so t s z ∙ ap (plan_of t) e ∙ plan-given)

    names : Names j.0 t.tasks
    names =
        let q : is await_message (state_at t j) ≡ 1 = ap one (takes-waits (caller t).0 (state_at t j) g) in
        let b = not-both (state_at t j) in
        busy-names t.tasks j.0 (omega arith)

    woken : (task_at (puts (waking j) t.tasks) j.0).state ≡ Ready
    unfolding puts waking
    woken = rw (not-zero j.0 names.0) (ap (λ (e : Task). e.state) (at_same t.tasks j.0 (with_state Ready (task_at t.tasks j.0)) names))

    there : mail_at (with_mail j.0 (record { sender = caller t; text = x }) t.rest).mail j.0 ≡ record { sender = caller t; text = x }
    there = mail-same t.rest j.0 (record { sender = caller t; text = x }) names.0 (omega (arith, names.1, w.numbers.sizes.tasks, w.numbers.sizes.mail))

    stored : mail_at u.rest.mail j.0 ≡ record { sender = caller t; text = x }
    unfolding apply
    stored = ap (λ (v : Table). mail_at v.rest.mail j.0) done ∙ there

    in_entry : (i : ℕ) → ToldInEntry t s a u (letter i (letter_of t j x))
    in_entry i = record {
      send = taken (call.Send j x) e;
      by = refl;
      ready = ap (λ (v : Table). (task_at v.tasks j.0).state) done ∙ ap (λ (ts : List Task). (task_at ts j.0).state) (plan-tasks given t) ∙ woken;
      sender = ap (λ (m : Mail). m.sender.0) stored;
      text = ap (λ (m : Mail). m.text.0) stored;
    }

  module _ (i : ℕ) (b : Letters) (line : Agree b.waiting (letters t.rest)) where
    send-told : (j : TaskNo) (x : Text) → call_in s ≡ call.Send j x → AllTold t s a u (new_handed i (passage_of t (call.Send j x)) b)
    unfolding passage_of
    send-told j x e = go (takes (caller t).0 (state_at t j)) refl
      where
        go : (v : Bool) → takes (caller t).0 (state_at t j) ≡ v → AllTold t s a u (new_handed i (cond v (delivers (letter_of t j x)) (keeps (letter_of t j x))) b)
        go true g = (inr (in_entry j x e g i), tt)
        go false g = tt

    -- ---- 15
    receive-told : (n : TaskNo) → call_in s ≡ call.Receive n → AllTold t s a u (first_that (letter_fits (caller t).0 n.0) b.waiting)
    unfolding marks_of
    receive-told n e = all (first_that (letter_fits (caller t).0 n.0) b.waiting) (first-is (caller t).0 n.0 b.waiting (letters t.rest) line)
      where
        m : Message
        m = get_or (letters t.rest) (first_fit (caller t).0 n.0 (letters t.rest)) no_message

        sender : a.sender ≡ m.sender
        sender = sender-answered t s z ∙ ap (λ (c : Call). (marks_of t c).sender) e

        text : a.text ≡ m.text
        text = text-answered t s z ∙ ap (λ (c : Call). (marks_of t c).text) e

        all : (es : List Letter) → AllFirst (caller t).0 m es → AllTold t s a u es
        all [] f = tt
        all (x ∷ es) f = (
          inl (record {
            receive = taken (call.Receive n) e;
            to = f.0.to;
            sender = ap (λ (k : TaskNo). k.0) sender ∙ f.0.sender;
            text = ap (λ (k : Text). k.0) text ∙ f.0.text;
          }),
          all es f.1,
        )

    call-told : (c : Call) → call_in s ≡ c → AllTold t s a u (new_handed i (passage_of t c) b)
    unfolding passage_of
    call-told call.Terminate e = tt
    call-told (call.Restart p n) e = tt
    call-told (call.Pause v n) e = tt
    call-told (call.CancelPause k) e = tt
    call-told (call.StartIfDormant o k) e = tt
    call-told (call.StartOrQueue o k x) e = tt
    call-told (call.Flag o f) e = tt
    call-told (call.Wait m mask) e = tt
    call-told (call.Alarm v n f) e = tt
    call-told call.Tick e = tt
    call-told (call.Granule g) e = tt
    call-told (call.Task p m) e = tt
    call-told call.End e = tt
    call-told (call.Enter m) e = tt
    call-told (call.Exit m) e = tt
    call-told (call.Send k x) e = send-told k x e
    call-told (call.Receive n) e = receive-told n e

-- ---- the step
pub step-told : (t : Table) (s : List ℕ) → WellFormed t → Bytes s → (i : ℕ) (b : Letters) → Agree b.waiting (letters t.rest)
    → AllTold t s (step_of t s).answer (step_of t s).table (new_handed i (passage_in t s) b)
unfolding passage_in
step-told t s w y i b l = go (eqb (step_of t s).answer.number 0) refl
  where
    go : (x : Bool) → eqb (step_of t s).answer.number 0 ≡ x
        → AllTold t s (step_of t s).answer (step_of t s).table (new_handed i (cond x (passage_of t (call_in s)) elsewhere) b)
    go true e = call-told t s w y (eqb-true _ 0 e) i b l (call_in s) refl
    go false e = tt
