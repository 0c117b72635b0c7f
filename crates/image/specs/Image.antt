-- The image of a table: 1,555 bytes, numbers big-endian. docs/TABLE.md has the layout in words.
use Rattle.std.specs.Prelude.{ℕ, ◌+◌, ◌*◌, ◌≡◌, Bool, false, cond, List, [], ◌∷◌, ◌++◌, eqb, ltb, length, get_or}
use Rattle.records.specs.declared.TaskNo.{TaskNo}
use Rattle.records.specs.Numbers.{lay, cut, Fits}
use Rattle.executive.specs.declared.Millis.{Millis}
use Rattle.executive.specs.declared.State.{State}
use Rattle.executive.specs.declared.State.TheVariants.{AwaitSub}
use Rattle.executive.specs.declared.Task.{Task}
use Rattle.executive.specs.declared.Request.{Request}
use Rattle.executive.specs.declared.Sub.{Sub}
use Rattle.executive.specs.declared.Message.{Message}
use Rattle.executive.specs.declared.Mail.{Mail}
use Rattle.executive.specs.declared.Rest.{Rest}
use Rattle.executive.specs.declared.Table.{Table}
use Rattle.executive.specs.States.{await_message, state_kind, time_of, mask_of, awaited_of, state_of}
use Rattle.executive.specs.WellFormed.{Sizes}
use Rattle.image.specs.Blocks.{row, blocks, Each, same}

-- ---- the widths of each block's numbers
-- own priority; the state's kind, time and mask; priority, argument, last scheduled start, end waiter
abbrev pub task_widths : List ℕ
task_widths = 1 ∷ 1 ∷ 8 ∷ 4 ∷ 1 ∷ 2 ∷ 8 ∷ 1 ∷ []

-- a place of the queue
abbrev pub place_widths : List ℕ
place_widths = 1 ∷ []

-- ready, count, granule, queued, clock, flags
abbrev pub head_widths : List ℕ
head_widths = 1 ∷ 1 ∷ 1 ∷ 1 ∷ 8 ∷ 4 ∷ []

abbrev pub alarm_widths : List ℕ
alarm_widths = 8 ∷ []

-- target, priority, argument, start waiter, end waiter
abbrev pub request_widths : List ℕ
request_widths = 1 ∷ 1 ∷ 2 ∷ 1 ∷ 1 ∷ []

-- the word of the ready levels
abbrev pub levels_widths : List ℕ
levels_widths = 2 ∷ []

-- the number that a task's state waits for
abbrev pub awaited_widths : List ℕ
awaited_widths = 1 ∷ []

-- of a subprogram the holder and how many wait; its line, place by place, stands behind them
abbrev pub sub_widths : List ℕ
sub_widths = 1 ∷ 1 ∷ []

-- of a waiting message the addressee, the sender, the priority and the text; how many wait; of a task's mail the sender and
-- the text
abbrev pub message_widths : List ℕ
message_widths = 1 ∷ 1 ∷ 1 ∷ 8 ∷ []

abbrev pub sent_widths : List ℕ
sent_widths = 1 ∷ []

abbrev pub mail_widths : List ℕ
mail_widths = 1 ∷ 8 ∷ []

-- ---- the numbers of each block, and the block's value from its numbers
abbrev pub task_numbers : Task → List ℕ
task_numbers e =
    e.own ∷ state_kind e.state ∷ (time_of e.state).0 ∷ mask_of e.state ∷ e.priority ∷ e.argument ∷ e.start.0 ∷ e.end_waiter.0 ∷ []

-- the state of four numbers; a byte past the last kind is a wait for a subprogram that there is not, so that its entry has a
-- number out of range
abbrev pub no_kind : State
no_kind = AwaitSub (record { 0 = 255 })

unfoldable pub state_in : ℕ → Millis → ℕ → ℕ → State
state_in kind time mask number = cond (ltb await_message kind) no_kind (state_of kind time mask number)

-- a task is made of its entry's numbers and, apart from them, the number that its state waits for
abbrev pub awaited_numbers : Task → List ℕ
awaited_numbers e = awaited_of e.state ∷ []

abbrev pub task_of : List ℕ → List ℕ → Task
task_of xs ys = record {
  own = get_or xs 0 0;
  state = state_in (get_or xs 1 0) (record { 0 = get_or xs 2 0 }) (get_or xs 3 0) (get_or ys 0 0);
  priority = get_or xs 4 0;
  argument = get_or xs 5 0;
  start = record { 0 = get_or xs 6 0 };
  end_waiter = record { 0 = get_or xs 7 0 };
}

abbrev pub place_numbers : TaskNo → List ℕ
place_numbers k = k.0 ∷ []

abbrev pub place_of : List ℕ → TaskNo
place_of xs = record { 0 = get_or xs 0 0 }

abbrev pub head_numbers : Table → List ℕ
head_numbers t = t.ready ∷ t.rest.count ∷ t.rest.granule ∷ t.rest.queued ∷ t.rest.clock.0 ∷ t.rest.flags ∷ []

abbrev pub alarm_numbers : Millis → List ℕ
alarm_numbers at = at.0 ∷ []

abbrev pub alarm_of : List ℕ → Millis
alarm_of xs = record { 0 = get_or xs 0 0 }

abbrev pub request_numbers : Request → List ℕ
request_numbers r = r.target.0 ∷ r.priority ∷ r.argument ∷ r.start_waiter.0 ∷ r.end_waiter.0 ∷ []

abbrev pub request_of : List ℕ → Request
request_of xs = record {
  target = record { 0 = get_or xs 0 0 };
  priority = get_or xs 1 0;
  argument = get_or xs 2 0;
  start_waiter = record { 0 = get_or xs 3 0 };
  end_waiter = record { 0 = get_or xs 4 0 };
}

abbrev pub levels_numbers : Table → List ℕ
levels_numbers t = t.levels ∷ []

abbrev pub sub_numbers : Sub → List ℕ
sub_numbers s = s.holder.0 ∷ s.waiting ∷ []

abbrev pub sub_of : List ℕ → List TaskNo → Sub
sub_of xs ks = record { holder = record { 0 = get_or xs 0 0 }; line = ks; waiting = get_or xs 1 0 }

abbrev pub message_numbers : Message → List ℕ
message_numbers m = m.to.0 ∷ m.sender.0 ∷ m.priority ∷ m.text.0 ∷ []

abbrev pub message_of : List ℕ → Message
message_of xs = record {
  to = record { 0 = get_or xs 0 0 };
  sender = record { 0 = get_or xs 1 0 };
  priority = get_or xs 2 0;
  text = record { 0 = get_or xs 3 0 };
}

abbrev pub sent_numbers : Rest → List ℕ
sent_numbers r = r.sent ∷ []

abbrev pub mail_numbers : Mail → List ℕ
mail_numbers x = x.sender.0 ∷ x.text.0 ∷ []

abbrev pub mail_of : List ℕ → Mail
mail_of xs = record { sender = record { 0 = get_or xs 0 0 }; text = record { 0 = get_or xs 1 0 } }

-- ---- the image: where each part begins, and how long it all is. A part that comes later stands behind those before it
abbrev pub queue_at : ℕ
queue_at = 416

abbrev pub head_at : ℕ
head_at = 432

abbrev pub alarms_at : ℕ
alarms_at = 448

abbrev pub pool_at : ℕ
pool_at = 704

abbrev pub levels_at : ℕ
levels_at = 896

abbrev pub awaited_at : ℕ
awaited_at = 898

abbrev pub subs_at : ℕ
subs_at = 914

abbrev pub messages_at : ℕ
messages_at = 1058

abbrev pub sent_at : ℕ
sent_at = 1410

abbrev pub mails_at : ℕ
mails_at = 1411

abbrev pub image_length : ℕ
image_length = 1555

-- how long a task's entry is, a subprogram, a waiting message, and a task's mail
abbrev pub task_length : ℕ
task_length = 26

abbrev pub sub_length : ℕ
sub_length = 18

abbrev pub message_length : ℕ
message_length = 11

abbrev pub mail_length : ℕ
mail_length = 9

abbrev pub task_bytes : Task → List ℕ
task_bytes e = lay task_widths (task_numbers e)

abbrev pub place_bytes : TaskNo → List ℕ
place_bytes k = lay place_widths (place_numbers k)

abbrev pub head_bytes : Table → List ℕ
head_bytes t = lay head_widths (head_numbers t)

abbrev pub alarm_bytes : Millis → List ℕ
alarm_bytes at = lay alarm_widths (alarm_numbers at)

abbrev pub request_bytes : Request → List ℕ
request_bytes r = lay request_widths (request_numbers r)

abbrev pub levels_bytes : Table → List ℕ
levels_bytes t = lay levels_widths (levels_numbers t)

abbrev pub awaited_bytes : Task → List ℕ
awaited_bytes e = lay awaited_widths (awaited_numbers e)

abbrev pub sub_bytes : Sub → List ℕ
sub_bytes s = lay sub_widths (sub_numbers s) ++ row place_bytes s.line

abbrev pub message_bytes : Message → List ℕ
message_bytes m = lay message_widths (message_numbers m)

abbrev pub sent_bytes : Rest → List ℕ
sent_bytes r = lay sent_widths (sent_numbers r)

abbrev pub mail_bytes : Mail → List ℕ
mail_bytes x = lay mail_widths (mail_numbers x)

-- the messages, how many of them wait, and the tasks' mail
abbrev pub post_bytes : Rest → List ℕ
post_bytes r = row message_bytes r.messages ++ (sent_bytes r ++ row mail_bytes r.mail)

unfoldable pub image_of : Table → List ℕ
image_of t =
    row task_bytes t.tasks
    ++ (row place_bytes t.queue
    ++ (head_bytes t
    ++ (row alarm_bytes t.rest.alarms
    ++ (row request_bytes t.rest.pool
    ++ (levels_bytes t
    ++ (row awaited_bytes t.tasks
    ++ (row sub_bytes t.rest.subs
    ++ post_bytes t.rest)))))))

-- the board's own number, judged before any other: a buffer that is to be written to has not the length it needs
abbrev pub no_room : ℕ
no_room = 30

-- storing into a buffer: 0 and the image, or 30 where the buffer has not its length, and then it stays as it was
unfoldable pub store_number : List ℕ → ℕ
store_number o = cond (eqb (length o) image_length) 0 no_room

unfoldable pub store_bytes : Table → List ℕ → List ℕ
store_bytes t o = cond (eqb (length o) image_length) (image_of t) o

-- the contract: n is what storing t into the buffer o answers, and o then is p
pub record Stores (t : Table) (o p : List ℕ) (n : ℕ) : Type 0 where
  pub number : n ≡ store_number o
  pub image : p ≡ store_bytes t o

-- ---- the table of any bytes; those past the end read as 0
-- the task whose entry is the i-th
abbrev pub task_from : List ℕ → ℕ → Task
task_from s i = task_of (cut task_widths (i * task_length) s) (cut awaited_widths (awaited_at + i) s)

abbrev pub place_from : List ℕ → ℕ → TaskNo
place_from s at = place_of (cut place_widths at s)

abbrev pub alarm_from : List ℕ → ℕ → Millis
alarm_from s at = alarm_of (cut alarm_widths at s)

abbrev pub request_from : List ℕ → ℕ → Request
request_from s at = request_of (cut request_widths at s)

-- the sixteen places of a line
abbrev pub line_from : List ℕ → ℕ → List TaskNo
line_from s at = blocks (place_from s) 1 16 at

abbrev pub sub_from : List ℕ → ℕ → Sub
sub_from s at = sub_of (cut sub_widths at s) (line_from s (at + 2))

abbrev pub message_from : List ℕ → ℕ → Message
message_from s at = message_of (cut message_widths at s)

abbrev pub mail_from : List ℕ → ℕ → Mail
mail_from s at = mail_of (cut mail_widths at s)

-- the table of the head's numbers, the arrays, the word and the number of messages that wait
abbrev pub table_of : List ℕ → List Task → List TaskNo → List Millis → List Request → List ℕ → List Sub → List Message → List ℕ → List Mail → Table
table_of xs ts q al rs ws ss ms ns ml = record {
  tasks = ts;
  queue = q;
  ready = get_or xs 0 0;
  levels = get_or ws 0 0;
  rest = record {
    count = get_or xs 1 0;
    granule = get_or xs 2 0;
    clock = record { 0 = get_or xs 4 0 };
    flags = get_or xs 5 0;
    alarms = al;
    pool = rs;
    queued = get_or xs 3 0;
    subs = ss;
    messages = ms;
    sent = get_or ns 0 0;
    mail = ml;
  };
}

unfoldable pub load_of : List ℕ → Table
load_of s =
    table_of (cut head_widths head_at s)
    (blocks (task_from s) 1 16 0)
    (line_from s queue_at)
    (blocks (alarm_from s) 8 32 alarms_at)
    (blocks (request_from s) 6 32 pool_at)
    (cut levels_widths levels_at s)
    (blocks (sub_from s) sub_length 8 subs_at)
    (blocks (message_from s) message_length 32 messages_at)
    (cut sent_widths sent_at s)
    (blocks (mail_from s) mail_length 16 mails_at)

-- the contracts: t is the table of the bytes s; storing t and loading it gives u
abbrev pub Loads : List ℕ → Table → Type 0
Loads s t = t ≡ load_of s

abbrev pub ComesBack : Table → Table → Type 0
ComesBack t u = u ≡ t

-- ---- an image is byte for byte the image of the table that it loads to
unfoldable pub is_image_of : List ℕ → Table → Bool
is_image_of s t = cond (eqb (length s) image_length) (same (image_of t) s) false

abbrev pub is_image : List ℕ → Bool
is_image s = is_image_of s (load_of s)

-- ---- every number fits its width, and every array has its length: so it is of each table that code holds
pub record FitsSub (s : Sub) : Type 0 where
  pub numbers : Fits sub_widths (sub_numbers s)
  pub size : length s.line ≡ 16
  pub line : Each (λ k. Fits place_widths (place_numbers k)) s.line

pub record FitsTable (t : Table) : Type 0 where
  pub sizes : Sizes t
  pub tasks : Each (λ e. Fits task_widths (task_numbers e)) t.tasks
  pub queue : Each (λ k. Fits place_widths (place_numbers k)) t.queue
  pub head : Fits head_widths (head_numbers t)
  pub alarms : Each (λ a. Fits alarm_widths (alarm_numbers a)) t.rest.alarms
  pub pool : Each (λ r. Fits request_widths (request_numbers r)) t.rest.pool
  pub levels : Fits levels_widths (levels_numbers t)
  pub awaited : Each (λ e. Fits awaited_widths (awaited_numbers e)) t.tasks
  pub subs : Each FitsSub t.rest.subs
  pub messages : Each (λ m. Fits message_widths (message_numbers m)) t.rest.messages
  pub sent : Fits sent_widths (sent_numbers t.rest)
  pub mail : Each (λ x. Fits mail_widths (mail_numbers x)) t.rest.mail
