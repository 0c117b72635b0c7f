-- What the rules on messages and mail ask of the tasks and the rest, and what keeps it: a changed entry, a message put in or
-- taken out, a mail put in or gone.
use Prim.Native.Nat.{ℕ, ◌+◌, ◌≤◌, ◌<◌}
use mathlib.Core.Path.{◌≡◌, refl, sym, ◌∙◌}
use mathlib.Core.Bool.{Bool, true, false}
use mathlib.Core.List.{List, map}
use native.Mathlib.Omega.{arith}
use borrow.Author.Tests.{eqb-true}
use lib.Dec.{eqb, ltb}
use lib.ListN.{length}
use Rattle.executive.specs.declared.State.TheVariants.{Dormant}
use Rattle.executive.specs.declared.Task.{Task}
use Rattle.executive.specs.declared.Message.{Message}
use Rattle.executive.specs.declared.Mail.{Mail}
use Rattle.executive.specs.declared.Rest.{Rest}
use Rattle.executive.specs.Numbers.{most_tasks, most_sent, highest}
use Rattle.executive.specs.Lists.{one}
use Rattle.executive.specs.Queue.{Desc}
use Rattle.executive.specs.Places.{task_at, put_at, Names}
use Rattle.executive.specs.Pool.{removed}
use Rattle.executive.specs.States.{dormant, await_message, awaited_of, is_of, is, takes}
use Rattle.executive.specs.Messages.{no_message, no_mail, letters, LettersInOrder, with_letters, urgency, post, noted, mail_at, with_mail}
use Rattle.executive.specs.WellFormed.{no_task_of, letters_astray, fitting, Messages}
use Rattle.executive.proofs.Lists.Tests.{false_not_true}
use Rattle.executive.proofs.queue.Law.{one-zero}
use Rattle.executive.proofs.states.Laws.{dormant-kind}
use Rattle.executive.proofs.places.TaskAt.{at_same, at_other}
use Rattle.executive.proofs.messages.Lines.{put_length, put_sum, post-sorted, removed-sorted, taken-sum}
use Rattle.executive.proofs.messages.Arrays.{letters-length, letters_with, without_in_order, posted_in_order, mail-same, mail-other, mail-length}
use Rattle.executive.proofs.messages.Unmet.{NoneFits, none-fits-post, none-fits-removed, none-fits_put}

pub record MailOk (ts : List Task) (r : Rest) : Type 0 where
  pub neat : LettersInOrder r
  pub places : length r.mail ≡ most_tasks
  pub names : letters_astray r.count (letters r) ≡ 0
  pub sorted : Desc (map noted (letters r))
  pub unmet : NoneFits ts (letters r)
  pub senders : (k : ℕ) → is_of await_message (task_at ts k).state ≡ true → awaited_of (task_at ts k).state ≤ r.count
  pub mail : (k : ℕ) → (mail_at r.mail k).sender.0 ≤ r.count
  pub emptied : (k : ℕ) → (task_at ts k).state ≡ Dormant → mail_at r.mail k ≡ no_mail

-- it has the rule on messages in it
pub mail-messages : (ts : List Task) (r : Rest) → MailOk ts r → Messages ts r
mail-messages ts r m = record { unmet = m.unmet; sorted = m.sorted; tidy = m.neat.clear }

-- ---- an entry is changed: where it waits for a message now, none fits, and the sender is in range; where it is dormant now, it
-- has no mail
pub mail_put : (ts : List Task) (j : ℕ) (e : Task) (r : Rest) → Names j ts
    → (is_of await_message e.state ≡ true → (fitting j (awaited_of e.state) (letters r) ≡ 0) × (awaited_of e.state ≤ r.count))
    → (e.state ≡ Dormant → mail_at r.mail j ≡ no_mail) → MailOk ts r → MailOk (put_at ts j e) r
mail_put ts j e r n x d m = record {
  neat = m.neat;
  places = m.places;
  names = m.names;
  sorted = m.sorted;
  unmet = none-fits_put ts j e (letters r) n (λ w. (x w).0) m.unmet;
  senders = λ k. by-senders k (eqb k j) refl;
  mail = m.mail;
  emptied = λ k. by-emptied k (eqb k j) refl;
}
  where
    by-senders : (k : ℕ) (b : Bool) → eqb k j ≡ b → is_of await_message (task_at (put_at ts j e) k).state ≡ true → awaited_of (task_at (put_at ts j e) k).state ≤ r.count
    by-senders k true q = let p : k ≡ j = eqb-true k j q in rw (p, at_same ts j e n) (λ w. (x w).1)
    by-senders k false q = rw (at_other ts j k e q) (m.senders k)

    by-emptied : (k : ℕ) (b : Bool) → eqb k j ≡ b → (task_at (put_at ts j e) k).state ≡ Dormant → mail_at r.mail k ≡ no_mail
    by-emptied k true q = let p : k ≡ j = eqb-true k j q in rw (p, at_same ts j e n) d
    by-emptied k false q = rw (at_other ts j k e q) (m.emptied k)

-- so an entry of a busy task that waits for no message
pub mail-busy : (ts : List Task) (j : ℕ) (e : Task) (r : Rest) → Names j ts → is_of await_message e.state ≡ false → (e.state ≡ Dormant → ⊥)
    → MailOk ts r → MailOk (put_at ts j e) r
mail-busy ts j e r n f d m = mail_put ts j e r n (λ w. false_not_true (sym f ∙ w)) (λ z. absurd (d z)) m

-- the same, of counts
pub mail-calm : (ts : List Task) (j : ℕ) (e : Task) (r : Rest) → Names j ts → is dormant e.state + is await_message e.state ≡ 0
    → MailOk ts r → MailOk (put_at ts j e) r
mail-calm ts j e r n z m =
    mail-busy ts j e r n (one-zero (is_of await_message e.state) (omega arith)) (λ d. omega (arith, z, dormant-kind e.state d)) m

-- ---- a rest with the same messages and the same mail
pub mail-beside : (ts : List Task) (r q : Rest) → q.count ≡ r.count → q.messages ≡ r.messages → q.sent ≡ r.sent → q.mail ≡ r.mail
    → MailOk ts r → MailOk ts q
mail-beside ts r q c m n l o = record {
  neat = record { room = rw n o.neat.room; clear = rw (m, n) o.neat.clear };
  places = rw l o.places;
  names = rw (c, m, n) o.names;
  sorted = rw (m, n) o.sorted;
  unmet = rw (m, n) o.unmet;
  senders = rw c o.senders;
  mail = rw (c, l) o.mail;
  emptied = rw l o.emptied;
}

-- ---- a message is put in: its addressee does not take it, its numbers are in range
pub mail-post : (ts : List Task) (r : Rest) (x : Message) → MailOk ts r → r.sent < most_sent
    → takes x.sender.0 (task_at ts x.to.0).state ≡ false
    → one (ltb highest x.priority) + (no_task_of r.count x.to.0 + no_task_of r.count x.sender.0) ≡ 0
    → MailOk ts (with_letters (post x (letters r)) r)
mail-post ts r x m h t z =
    let l : letters (with_letters (post x (letters r)) r) ≡ post x (letters r) = letters_with (post x (letters r)) r in
    let n : length (letters r) ≡ r.sent = letters-length r m.neat in
    record {
      neat = posted_in_order r m.neat (post x (letters r)) (omega (arith, put_length urgency x (letters r)));
      places = m.places;
      names = rw l (omega (arith, put_sum urgency (λ (y : Message). one (ltb highest y.priority) + (no_task_of r.count y.to.0 + no_task_of r.count y.sender.0)) x (letters r), z, m.names));
      sorted = rw l (post-sorted x (letters r) m.sorted);
      unmet = rw l (none-fits-post ts x (letters r) t m.unmet);
      senders = m.senders;
      mail = m.mail;
      emptied = m.emptied;
    }

-- one is taken out
pub mail-without : (ts : List Task) (r : Rest) (i : ℕ) → MailOk ts r → i < r.sent → MailOk ts (with_letters (removed i (letters r)) r)
mail-without ts r i m h =
    let l : letters (with_letters (removed i (letters r)) r) ≡ removed i (letters r) = letters_with (removed i (letters r)) r in
    let n : length (letters r) ≡ r.sent = letters-length r m.neat in
    record {
      neat = without_in_order r m.neat i h;
      places = m.places;
      names = rw l (omega (arith, taken-sum no_message i (letters r) (λ (y : Message). one (ltb highest y.priority) + (no_task_of r.count y.to.0 + no_task_of r.count y.sender.0)) (omega arith), m.names));
      sorted = rw l (removed-sorted i (letters r) m.sorted);
      unmet = rw l (none-fits-removed ts i (letters r) (omega arith) m.unmet);
      senders = m.senders;
      mail = m.mail;
      emptied = m.emptied;
    }

-- ---- a mail is gone; a mail is put in the entry of a busy task, from a task
pub mail_with : (ts : List Task) (r : Rest) (j : ℕ) (x : Mail) → MailOk ts r → 0 < j → j ≤ most_tasks → x.sender.0 ≤ r.count
    → ((task_at ts j).state ≡ Dormant → x ≡ no_mail) → MailOk ts (with_mail j x r)
mail_with ts r j x m p q s d = record {
  neat = record { room = m.neat.room; clear = m.neat.clear };
  places = mail-length r j x ∙ m.places;
  names = m.names;
  sorted = m.sorted;
  unmet = m.unmet;
  senders = m.senders;
  mail = λ k. by-mail k (eqb k j) refl;
  emptied = λ k. by-emptied k (eqb k j) refl;
}
  where
    here : mail_at (with_mail j x r).mail j ≡ x
    here = mail-same r j x p (rw m.places q)

    by-mail : (k : ℕ) (b : Bool) → eqb k j ≡ b → (mail_at (with_mail j x r).mail k).sender.0 ≤ r.count
    by-mail k true e = let z : k ≡ j = eqb-true k j e in rw (z, here) s
    by-mail k false e = rw (mail-other r j k x e) (m.mail k)

    by-emptied : (k : ℕ) (b : Bool) → eqb k j ≡ b → (task_at ts k).state ≡ Dormant → mail_at (with_mail j x r).mail k ≡ no_mail
    by-emptied k true e = let z : k ≡ j = eqb-true k j e in rw (z, here) d
    by-emptied k false e = rw (mail-other r j k x e) (m.emptied k)

pub mail-gone : (ts : List Task) (r : Rest) (j : ℕ) → MailOk ts r → 0 < j → j ≤ most_tasks → MailOk ts (with_mail j no_mail r)
mail-gone ts r j m p q = mail_with ts r j no_mail m p q (omega arith) (λ _. refl)
