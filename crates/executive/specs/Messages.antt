-- The messages (02): those that wait, first to last, those that stand in the tasks' entries, and what a call makes of them.
use Rattle.std.specs.Prelude.{ℕ, zero, suc, ◌+◌, ◌≤◌, ◌≡◌, Bool, cond, List, [], ◌∷◌, ◌++◌, eqb, ltb, length, take, drop, get_or, set}
use Rattle.records.specs.declared.Text.{Text}
use Rattle.executive.specs.declared.Message.{Message}
use Rattle.executive.specs.declared.Mail.{Mail}
use Rattle.executive.specs.declared.Rest.{Rest}
use Rattle.executive.specs.Numbers.{most_sent}
use Rattle.executive.specs.Lists.{pad, next_of, ◌and◌}
use Rattle.executive.specs.Queue.{Item, behind}
use Rattle.executive.specs.Places.{nobody}
use Rattle.executive.specs.States.{takes_from}
use Rattle.executive.specs.Rest.{with_post}
use Rattle.executive.specs.Table.{slid_of}

-- ---- blank ones
abbrev pub no_text : Text
no_text = record { 0 = 0 }

abbrev pub no_message : Message
no_message = record { to = nobody; sender = nobody; priority = 0; text = no_text }

abbrev pub no_mail : Mail
no_mail = record { sender = nobody; text = no_text }

-- ---- those that wait, first to last
abbrev pub letters : Rest → List Message
letters r = take r.sent r.messages

-- the places behind them are blank
pub record LettersInOrder (r : Rest) : Type 0 where
  pub room : r.sent ≤ most_sent
  pub clear : r.messages ≡ pad most_sent no_message (letters r)

abbrev pub with_letters : List Message → Rest → Rest
with_letters ms r = with_post (pad most_sent no_message ms) (length ms) r.mail r

-- whether a message fits one who receives as task k, from number s or, where s is 0, from any
abbrev pub fits : ℕ → ℕ → Message → Bool
fits k s m = eqb k m.to.0 and takes_from s m.sender.0

-- the place of the first that fits; the number of those that wait where there is none
abbrev pub first_fit : ℕ → ℕ → List Message → ℕ
first_fit k s ms = next_of (fits k s) 0 ms

-- ---- in a line that descends by some number, one goes behind all of an equal or a higher one; how many stay ahead of one
-- with number p
unfoldable pub put_behind : {A : Type 0} → (A → ℕ) → A → List A → List A
put_behind f x [] = x ∷ []
put_behind f x (y ∷ ys) = cond (behind (f x) (f y)) (y ∷ put_behind f x ys) (x ∷ y ∷ ys)

unfoldable pub stay_ahead : {A : Type 0} → (A → ℕ) → ℕ → List A → ℕ
stay_ahead f p [] = 0
stay_ahead f p (y ∷ ys) = cond (behind p (f y)) (suc (stay_ahead f p ys)) 0

-- one put in at a place
abbrev pub put_in_at : {A : Type 0} → ℕ → A → List A → List A
put_in_at i x xs = take i xs ++ (x ∷ drop i xs)

-- a message goes by its sender's priority when it was sent, highest first, then by arrival
abbrev pub urgency : Message → ℕ
urgency m = m.priority

abbrev pub post : Message → List Message → List Message
post m ms = put_behind urgency m ms

-- the same of any messages, in disorder too; where the last place is taken they stay as they are
unfoldable pub post_in : Message → Rest → Rest
post_in m r =
    cond (ltb r.sent most_sent)
    (with_post (slid_of r.messages (stay_ahead urgency m.priority (letters r)) r.sent m) (r.sent + 1) r.mail r)
    r

-- a message as the queue's laws see it
abbrev pub noted : Message → Item
noted m = record { task = m.to.0; prio = m.priority }

-- ---- the message that stands in a task's entry, by the task's number; number 0 is nobody
unfoldable pub mail_at : List Mail → ℕ → Mail
mail_at ml zero = no_mail
mail_at ml (suc i) = get_or ml i no_mail

abbrev pub mail_put : List Mail → ℕ → Mail → List Mail
mail_put ml zero x = ml
mail_put ml (suc i) x = set ml i x

abbrev pub with_mail : ℕ → Mail → Rest → Rest
with_mail k x r = with_post r.messages r.sent (mail_put r.mail k x) r
