-- What the check on the lent bytes hands on: whether the bytes are the image of a well-formed table, which tasks are in a
-- state of each kind, which alarms run.
use Rattle.std.specs.Prelude.{ℕ, ◌≤◌, ◌≡◌, Bool, true, false, List}
use Rattle.executive.specs.Lists.{◌and◌, up_to}
use Rattle.executive.specs.declared.Table.{Table}
use Rattle.executive.specs.Numbers.{most_tasks, most_queued}
use Rattle.executive.specs.Check.{asked_right, held_right, sent_right, mail_right, is_well_formed}
use Rattle.image.specs.Image.{load_of, is_image}
use Rattle.image.specs.Sound.{names_other, KindsKnown}
use Rattle.image.specs.Marks.{Kinds, Running}

-- the rules on the requests, the subprograms, the messages and the mail
abbrev pub lists_right : Table → Bool
lists_right t =
    asked_right t.tasks t.rest.count t.rest.queued t.rest.pool
    and held_right t.tasks t.rest.count t.rest.subs
    and sent_right t.tasks t.rest.count t.rest.sent t.rest.messages
    and mail_right t.tasks t.rest.count t.rest.mail

-- all was right, and this is what was learned; or something was not
pub record Sees (s : List ℕ) (right : Bool) (sets : List ℕ) (running : ℕ) : Type 0 where
  pub told : right ≡ (is_image s and is_well_formed (load_of s))
  pub kinds : right ≡ true → Kinds (load_of s).rest.count sets (load_of s).tasks
  pub alarms : right ≡ true → Running running (load_of s).rest.alarms

-- the entries, the alarms and the queue were right, and what is left to be looked at are the lists; or something was not
pub record Begun (s : List ℕ) (right : Bool) (sets : List ℕ) (running : ℕ) : Type 0 where
  pub wrong : right ≡ false → (is_image s and is_well_formed (load_of s)) ≡ false
  pub image : right ≡ true → is_image s ≡ true
  pub listed : right ≡ true → is_well_formed (load_of s) ≡ lists_right (load_of s)
  pub counted : right ≡ true → ((load_of s).rest.count ≤ most_tasks) × ((load_of s).rest.queued ≤ most_queued)
  pub known : right ≡ true → KindsKnown s (load_of s).rest.count
  pub others : right ≡ true → up_to (names_other (load_of s).tasks) (load_of s).rest.count ≡ true
  pub kinds : right ≡ true → Kinds (load_of s).rest.count sets (load_of s).tasks
  pub alarms : right ≡ true → Running running (load_of s).rest.alarms
