-- The round trips of the image: storing and loading gives the same table, loading and storing the same bytes.
use Prim.Native.Nat.{ℕ, zero, suc, ◌+◌, ◌*◌, ◌^◌, ◌<◌}
use mathlib.Core.Path.{◌≡◌, refl, sym, ap, ap₂, ◌∙◌}
use mathlib.Core.Bool.{Bool, true, false, cond}
use mathlib.Core.List.{List, [], ◌∷◌, ◌++◌, append_assoc}
use native.Mathlib.Omega.{arith}
use native.Mathlib.Nat.{add-zero}
use lib.Dec.{eqb, ltb}
use lib.ListN.{length, get_or, length-append}
use borrow.Author.Tests.{eq-eqb, eqb-true}
use Rattle.records.specs.declared.TaskNo.{TaskNo}
use Rattle.records.specs.Numbers.{Bytes, number_from, number_of, part, lay, cut, Fits}
use Rattle.executive.specs.declared.Millis.{Millis}
use Rattle.executive.specs.declared.Mode.TheVariants.{Any, All}
use Rattle.executive.specs.declared.State.{State}
use Rattle.executive.specs.declared.State.TheVariants.{Dormant, Ready, Paused, Due, Flags, AwaitStart, AwaitEnd, AwaitSub, AwaitMessage}
use Rattle.executive.specs.declared.Task.{Task}
use Rattle.executive.specs.declared.Sub.{Sub}
use Rattle.executive.specs.declared.Rest.{Rest}
use Rattle.executive.specs.declared.Table.{Table}
use Rattle.executive.specs.States.{dormant, ready, paused, due, await_any, await_all, await_start, await_end, await_sub, await_message, state_kind, time_of, mask_of, awaited_of, state_of}
use Rattle.executive.specs.Lists.{pad}
use Rattle.executive.specs.Places.{nobody, never as no-time, no_task, no_request}
use Rattle.executive.specs.Subprograms.{no_subprogram, sub_at}
use Rattle.executive.specs.Messages.{no_message, no_mail}
use Rattle.executive.specs.WellFormed.{Sizes}
use Rattle.executive.proofs.Assured.{states-told}
use Rattle.image.specs.Blocks.{row, blocks, Each, written, same}
use Rattle.image.specs.Image.{task_widths, place_widths, head_widths, alarm_widths, request_widths, levels_widths, awaited_widths, sub_widths}
use Rattle.image.specs.Image.{task_numbers, place_numbers, head_numbers, alarm_numbers, request_numbers, levels_numbers, awaited_numbers, sub_numbers}
use Rattle.image.specs.Image.{no_kind, state_in, task_of, place_of, alarm_of, request_of, sub_of, table_of, task_bytes, place_bytes, head_bytes, alarm_bytes, request_bytes, levels_bytes, awaited_bytes, sub_bytes}
use Rattle.image.specs.Image.{task_from, place_from, alarm_from, request_from, line_from, sub_from, queue_at, head_at, alarms_at, pool_at, levels_at, awaited_at, subs_at, image_length, task_length, sub_length}
use Rattle.image.specs.Image.{message_widths, sent_widths, mail_widths, message_numbers, sent_numbers, mail_numbers, message_of, mail_of, message_bytes, sent_bytes, mail_bytes}
use Rattle.image.specs.Image.{message_from, mail_from, messages_at, sent_at, mails_at, message_length, mail_length, post_bytes}
use Rattle.image.specs.Image.{image_of, load_of, is_image_of, is_image, FitsSub, FitsTable}
use Rattle.image.proofs.Digits.{digit-fits}
use Rattle.image.proofs.Spans.{and_then, each_or, each_of, each_so, Wide, row-length, length-row, length-blocks, blocks-are}
use Rattle.image.proofs.Alike.{decide, never, same_self, same_true}
use Rattle.image.proofs.Images.{Filled, fill, filled, At, at-start, at_next, at-end, at_length, at_parted, cut_at, element_back, row_back, blocks-back}

-- ---- a block's value is that of its numbers
known-kind : (x : State) → ltb await_message (state_kind x) ≡ false
known-kind Dormant = refl
known-kind Ready = refl
known-kind (Paused at) = refl
known-kind (Due at) = refl
known-kind (Flags Any mask) = refl
known-kind (Flags All mask) = refl
known-kind AwaitStart = refl
known-kind AwaitEnd = refl
known-kind (AwaitSub m) = refl
known-kind (AwaitMessage k) = refl

state-back : (x : State) → state_in (state_kind x) (time_of x) (mask_of x) (awaited_of x) ≡ x
unfolding state_in
state-back x = rw (known-kind x) (states-told.back x)

pub task-back : (e : Task) → task_of (task_numbers e) (awaited_numbers e) ≡ e
task-back e = λ i. record { own = e.own; state = state-back e.state i; priority = e.priority; argument = e.argument; start = e.start; end_waiter = e.end_waiter }

line-back : (ks : List TaskNo) → Each (λ k. Fits place_widths (place_numbers k)) ks → length ks ≡ 16 → (s r : List ℕ) (n : ℕ) → At s n (row place_bytes ks ++ r) → line_from s n ≡ ks
line-back ks h l s r n z = blocks-back place_widths place_numbers place_of (λ x. refl) 1 (λ x. refl) ks nobody s r 16 n h l z

pub sub-length : (x : Sub) → length x.line ≡ 16 → length (sub_bytes x) ≡ sub_length
sub-length x l =
    let m : length (row place_bytes x.line) ≡ 16 = length-row place_bytes 1 (λ k. refl) x.line ∙ ap (λ n. n * 1) l in
    length-append (lay sub_widths (sub_numbers x)) (row place_bytes x.line) ∙ ap (λ n. 2 + n) m

-- and how long the lines are of those whose blocks are as wide
sub-line : (x : Sub) → Wide sub_bytes sub_length x → length x.line ≡ 16
sub-line x e =
    let m : length (row place_bytes x.line) ≡ length x.line * 1 = length-row place_bytes 1 (λ k. refl) x.line in
    omega (arith, e, m)

pub wide-lines : (r : Rest) → Each (Wide sub_bytes sub_length) r.subs → (m : ℕ) → length (sub_at r m).line ≡ 16
unfolding pad
wide-lines r h =
    each_or (λ (x : Sub). length x.line ≡ 16) no_subprogram refl r.subs (each_so (Wide sub_bytes sub_length) (λ (x : Sub). length x.line ≡ 16) sub-line r.subs h)

sub_back : (x : Sub) → FitsSub x → (s r : List ℕ) (n : ℕ) → At s n (sub_bytes x ++ r) → sub_from s n ≡ x
sub_back x f s r n z =
    let y = at_parted s (lay sub_widths (sub_numbers x)) (row place_bytes x.line) r n z in
    let a : cut sub_widths n s ≡ sub_numbers x = cut_at sub_widths (sub_numbers x) (row place_bytes x.line ++ r) s n y f.numbers in
    let b : line_from s (n + 2) ≡ x.line =
    line-back x.line f.line f.size s r (n + 2) (at_next s (lay sub_widths (sub_numbers x)) (row place_bytes x.line ++ r) n 2 y refl) in
    λ i. sub_of (a i) (b i)

-- ---- the parts of the image, each with all that stand behind it
abbrev from_sent : Table → List ℕ
from_sent t = sent_bytes t.rest ++ row mail_bytes t.rest.mail

abbrev from_subs : Table → List ℕ
from_subs t = row sub_bytes t.rest.subs ++ post_bytes t.rest

abbrev from_awaited : Table → List ℕ
from_awaited t = row awaited_bytes t.tasks ++ from_subs t

abbrev from_levels : Table → List ℕ
from_levels t = levels_bytes t ++ from_awaited t

abbrev from_pool : Table → List ℕ
from_pool t = row request_bytes t.rest.pool ++ from_levels t

abbrev from_alarms : Table → List ℕ
from_alarms t = row alarm_bytes t.rest.alarms ++ from_pool t

abbrev from_head : Table → List ℕ
from_head t = head_bytes t ++ from_alarms t

abbrev from_queue : Table → List ℕ
from_queue t = row place_bytes t.queue ++ from_head t

abbrev from_tasks : Table → List ℕ
from_tasks t = row task_bytes t.tasks ++ from_queue t

-- what three writes leave of the messages, their number and the mail
pub post_made : (x : Rest) (o p q r : List ℕ) → length o ≡ image_length → length x.messages ≡ 32 → length x.mail ≡ 16
    → p ≡ written o messages_at (row message_bytes x.messages) → q ≡ written p sent_at (sent_bytes x) → r ≡ written q mails_at (row mail_bytes x.mail)
    → r ≡ written o messages_at (post_bytes x)
post_made x o p q r n zm zl ep eq er =
    let a = row message_bytes x.messages in
    let b = sent_bytes x in
    let c = row mail_bytes x.mail in
    let la : length a ≡ 352 = length-row message_bytes message_length (λ m. refl) x.messages ∙ ap (λ k. k * message_length) zm in
    let lc : length c ≡ 144 = length-row mail_bytes mail_length (λ m. refl) x.mail ∙ ap (λ k. k * mail_length) zl in
    let lb : length (a ++ b) ≡ 353 = length-append a b ∙ omega arith in
    let y : messages_at + length a ≡ sent_at = omega arith in
    let z : messages_at + length (a ++ b) ≡ mails_at = omega arith in
    and_then o messages_at (a ++ b) c (and_then o messages_at a b ep (eq ∙ ap (λ i. written p i b) (sym y)) (omega arith))
    (er ∙ ap (λ i. written q i c) (sym z)) (omega arith)
    ∙ ap (written o messages_at) (append_assoc a b c)

module _ (t : Table) (z : Sizes t) where
  pub tasks-length : length (row task_bytes t.tasks) ≡ 416
  tasks-length = length-row task_bytes 26 (λ x. refl) t.tasks ∙ ap (λ n. n * 26) z.tasks

  pub queue-length : length (row place_bytes t.queue) ≡ 16
  queue-length = length-row place_bytes 1 (λ x. refl) t.queue ∙ ap (λ n. n * 1) z.queue

  pub alarms-length : length (row alarm_bytes t.rest.alarms) ≡ 256
  alarms-length = length-row alarm_bytes 8 (λ x. refl) t.rest.alarms ∙ ap (λ n. n * 8) z.alarms

  pub pool-length : length (row request_bytes t.rest.pool) ≡ 192
  pool-length = length-row request_bytes 6 (λ x. refl) t.rest.pool ∙ ap (λ n. n * 6) z.pool

  pub awaited-length : length (row awaited_bytes t.tasks) ≡ 16
  awaited-length = length-row awaited_bytes 1 (λ x. refl) t.tasks ∙ ap (λ n. n * 1) z.tasks

  pub subs-length : length (row sub_bytes t.rest.subs) ≡ 144
  subs-length =
      row-length sub_bytes sub_length t.rest.subs
      (each_so (λ x. length x.line ≡ 16) (Wide sub_bytes sub_length) sub-length t.rest.subs (each_of (λ x. length x.line ≡ 16) no_subprogram t.rest.subs z.lines))
      ∙ ap (λ n. n * sub_length) z.subs

  pub messages-length : length (row message_bytes t.rest.messages) ≡ 352
  messages-length = length-row message_bytes message_length (λ x. refl) t.rest.messages ∙ ap (λ n. n * message_length) z.messages

  pub mail-length : length (row mail_bytes t.rest.mail) ≡ 144
  mail-length = length-row mail_bytes mail_length (λ x. refl) t.rest.mail ∙ ap (λ n. n * mail_length) z.mail

  post-length : length (post_bytes t.rest) ≡ 497
  post-length =
      length-append (row message_bytes t.rest.messages) (from_sent t)
      ∙ omega (arith, messages-length, mail-length, length-append (sent_bytes t.rest) (row mail_bytes t.rest.mail))

  -- what nine writes leave, each where the image has its part
  pub image-made : (o p q r s u v x y w : List ℕ) → length o ≡ image_length → p ≡ written o 0 (row task_bytes t.tasks) → q ≡ written p queue_at (row place_bytes t.queue)
      → r ≡ written q head_at (head_bytes t) → s ≡ written r alarms_at (row alarm_bytes t.rest.alarms) → u ≡ written s pool_at (row request_bytes t.rest.pool)
      → v ≡ written u levels_at (levels_bytes t) → x ≡ written v awaited_at (row awaited_bytes t.tasks) → y ≡ written x subs_at (row sub_bytes t.rest.subs) → w ≡ written y messages_at (post_bytes t.rest)
      → w ≡ image_of t
  unfolding image_of
  image-made o p q r s u v x y w n ep eq er es eu ev ex ey ew =
      let a = row task_bytes t.tasks in
      let b = row place_bytes t.queue in
      let c = head_bytes t in
      let d = row alarm_bytes t.rest.alarms in
      let e = row request_bytes t.rest.pool in
      let f = levels_bytes t in
      let g = row awaited_bytes t.tasks in
      let h = row sub_bytes t.rest.subs in
      let k = post_bytes t.rest in
      let fa : Filled o p a queue_at = record { bytes = ep; long = tasks-length } in
      let fb = fill o p q a b queue_at 16 fa eq queue-length (omega arith) in
      let fc = fill o q r (a ++ b) c head_at 16 fb er refl (omega arith) in
      let fd = fill o r s ((a ++ b) ++ c) d alarms_at 256 fc es alarms-length (omega arith) in
      let fe = fill o s u (((a ++ b) ++ c) ++ d) e pool_at 192 fd eu pool-length (omega arith) in
      let ff = fill o u v ((((a ++ b) ++ c) ++ d) ++ e) f levels_at 2 fe ev refl (omega arith) in
      let fg = fill o v x (((((a ++ b) ++ c) ++ d) ++ e) ++ f) g awaited_at 16 ff ex awaited-length (omega arith) in
      let fh = fill o x y ((((((a ++ b) ++ c) ++ d) ++ e) ++ f) ++ g) h subs_at 144 fg ey subs-length (omega arith) in
      let fk = fill o y w (((((((a ++ b) ++ c) ++ d) ++ e) ++ f) ++ g) ++ h) k messages_at 497 fh ew post-length (omega arith) in
      filled o w ((((((((a ++ b) ++ c) ++ d) ++ e) ++ f) ++ g) ++ h) ++ k) image_length fk n ∙ simp append_assoc

  -- where each part stands
  at-tasks : At (image_of t) 0 (from_tasks t)
  unfolding image_of
  at-tasks = at-start (from_tasks t)

  at-queue : At (image_of t) queue_at (from_queue t)
  at-queue = at_next (image_of t) (row task_bytes t.tasks) (from_queue t) 0 queue_at at-tasks tasks-length

  at_head : At (image_of t) head_at (from_head t)
  at_head = at_next (image_of t) (row place_bytes t.queue) (from_head t) queue_at 16 at-queue queue-length

  at-alarms : At (image_of t) alarms_at (from_alarms t)
  at-alarms = at_next (image_of t) (head_bytes t) (from_alarms t) head_at 16 at_head refl

  at-pool : At (image_of t) pool_at (from_pool t)
  at-pool = at_next (image_of t) (row alarm_bytes t.rest.alarms) (from_pool t) alarms_at 256 at-alarms alarms-length

  at-levels : At (image_of t) levels_at (from_levels t)
  at-levels = at_next (image_of t) (row request_bytes t.rest.pool) (from_levels t) pool_at 192 at-pool pool-length

  at-awaited : At (image_of t) awaited_at (from_awaited t)
  at-awaited = at_next (image_of t) (levels_bytes t) (from_awaited t) levels_at 2 at-levels refl

  at-subs : At (image_of t) subs_at (from_subs t)
  at-subs = at_next (image_of t) (row awaited_bytes t.tasks) (from_subs t) awaited_at 16 at-awaited awaited-length

  at-messages : At (image_of t) messages_at (post_bytes t.rest)
  at-messages = at_next (image_of t) (row sub_bytes t.rest.subs) (post_bytes t.rest) subs_at 144 at-subs subs-length

  at-sent : At (image_of t) sent_at (from_sent t)
  at-sent = at_next (image_of t) (row message_bytes t.rest.messages) (from_sent t) messages_at 352 at-messages messages-length

  at-mail : At (image_of t) mails_at (row mail_bytes t.rest.mail)
  at-mail = at_next (image_of t) (sent_bytes t.rest) (row mail_bytes t.rest.mail) sent_at 1 at-sent refl

  pub image-length : length (image_of t) ≡ image_length
  image-length = at_length (image_of t) (row mail_bytes t.rest.mail) mails_at at-mail ∙ ap (λ n. mails_at + n) mail-length

-- ---- storing and loading
module _ (t : Table) (f : FitsTable t) where
  -- the numbers of a task's entry, and the number that its state waits for
  pub entry-numbers : (i : ℕ) → i < 16 → cut task_widths (i * task_length) (image_of t) ≡ task_numbers (get_or t.tasks i no_task)
  entry-numbers i l =
      let n = f.sizes.tasks in
      let z : i * task_length ≡ 0 + i * task_length = omega arith in
      ap (λ k. cut task_widths k (image_of t)) z
      ∙ element_back task_bytes task_length (λ e. Fits task_widths (task_numbers e)) (λ e h. refl) (λ u k. cut task_widths k u) task_numbers
      (λ e h u r k z. cut_at task_widths (task_numbers e) r u k z h) t.tasks no_task (image_of t) (from_queue t) 0 i f.tasks (at-tasks t f.sizes) (omega arith)

  pub awaited-number : (i : ℕ) → i < 16 → cut awaited_widths (awaited_at + i) (image_of t) ≡ awaited_numbers (get_or t.tasks i no_task)
  awaited-number i l =
      let n = f.sizes.tasks in
      let z : awaited_at + i ≡ awaited_at + i * 1 = omega arith in
      ap (λ k. cut awaited_widths k (image_of t)) z
      ∙ element_back awaited_bytes 1 (λ e. Fits awaited_widths (awaited_numbers e)) (λ e h. refl) (λ u k. cut awaited_widths k u) awaited_numbers
      (λ e h u r k z. cut_at awaited_widths (awaited_numbers e) r u k z h) t.tasks no_task (image_of t) (from_subs t) awaited_at i f.awaited (at-awaited t f.sizes) (omega arith)

  task-at : (i : ℕ) → i < 16 → task_from (image_of t) (0 + i * 1) ≡ get_or t.tasks i no_task
  task-at i l =
      let z : 0 + i * 1 ≡ i = omega arith in
      ap (task_from (image_of t)) z ∙ ap₂ task_of (entry-numbers i l) (awaited-number i l) ∙ task-back (get_or t.tasks i no_task)

  pub load_store : load_of (image_of t) ≡ t
  unfolding load_of
  load_store =
      let s = image_of t in
      let z = f.sizes in
      let eh : cut head_widths head_at s ≡ head_numbers t = cut_at head_widths (head_numbers t) (from_alarms t) s head_at (at_head t z) f.head in
      let et : blocks (task_from s) 1 16 0 ≡ t.tasks = blocks-are (task_from s) 1 t.tasks no_task 16 0 z.tasks task-at in
      let eq : line_from s queue_at ≡ t.queue = line-back t.queue f.queue z.queue s (from_head t) queue_at (at-queue t z) in
      let ea : blocks (alarm_from s) 8 32 alarms_at ≡ t.rest.alarms =
      blocks-back alarm_widths alarm_numbers alarm_of (λ x. refl) 8 (λ x. refl) t.rest.alarms no-time s (from_pool t) 32 alarms_at f.alarms z.alarms (at-alarms t z) in
      let ep : blocks (request_from s) 6 32 pool_at ≡ t.rest.pool =
      blocks-back request_widths request_numbers request_of (λ x. refl) 6 (λ x. refl) t.rest.pool no_request s (from_levels t) 32 pool_at f.pool z.pool (at-pool t z) in
      let eg : cut levels_widths levels_at s ≡ levels_numbers t = cut_at levels_widths (levels_numbers t) (from_awaited t) s levels_at (at-levels t z) f.levels in
      let es : blocks (sub_from s) sub_length 8 subs_at ≡ t.rest.subs =
      row_back sub_bytes sub_length FitsSub (λ x h. sub-length x h.size) sub_from sub_back t.rest.subs no_subprogram s (post_bytes t.rest) 8 subs_at f.subs z.subs (at-subs t z) in
      let em : blocks (message_from s) message_length 32 messages_at ≡ t.rest.messages =
      blocks-back message_widths message_numbers message_of (λ x. refl) message_length (λ x. refl) t.rest.messages no_message s (from_sent t) 32 messages_at f.messages z.messages
      (at-messages t z) in
      let en : cut sent_widths sent_at s ≡ sent_numbers t.rest =
      cut_at sent_widths (sent_numbers t.rest) (row mail_bytes t.rest.mail) s sent_at (at-sent t z) f.sent in
      let el : blocks (mail_from s) mail_length 16 mails_at ≡ t.rest.mail =
      blocks-back mail_widths mail_numbers mail_of (λ x. refl) mail_length (λ x. refl) t.rest.mail no_mail s [] 16 mails_at f.mail z.mail
      (at-end s (row mail_bytes t.rest.mail) mails_at (at-mail t z)) in
      λ i. table_of (eh i) (et i) (eq i) (ea i) (ep i) (eg i) (es i) (em i) (en i) (el i)

-- ---- what an image is
module _ (s : List ℕ) (e : is_image s ≡ true) where
  pub image-parts : (length s ≡ image_length) × (image_of (load_of s) ≡ s)
  unfolding is_image_of
  image-parts =
      decide (eqb (length s) image_length)
      (λ h. let g : same (image_of (load_of s)) s ≡ true = rw h at e in (eqb-true (length s) image_length h, same_true (image_of (load_of s)) s g))
      (λ h. let g : false ≡ true = rw h at e in absurd (never g))

pub made-image : (s : List ℕ) → length s ≡ image_length → image_of (load_of s) ≡ s → is_image s ≡ true
unfolding is_image_of
made-image s n e = rw (eq-eqb (length s) image_length n) (ap (λ u. same u s) e ∙ same_self s)

pub stored : (t : Table) → FitsTable t → is_image (image_of t) ≡ true
stored t f = made-image (image_of t) (image-length t f.sizes) (ap image_of (load_store t f))

-- ---- what any bytes load to fits
module _ (s : List ℕ) (h : Bytes s) where
  from-small : (w i k n : ℕ) → n < 256 ^ k → number_from n (part w i s) < 256 ^ (k + w)
  from-small zero i k n l = rw (add-zero k) l
  from-small (suc w) i k n l =
      let z : k + suc w ≡ k + 1 + w = omega arith in
      rw z (from-small w (suc i) (k + 1) (n * 256 + get_or s i 0) (digit-fits n (get_or s i 0) k l (h i)))

  number_small : (w i : ℕ) → number_of (part w i s) < 256 ^ w
  number_small zero i = omega arith
  number_small (suc w) i =
      let z : suc w ≡ 1 + w = omega arith in
      let b : get_or s i 0 < 256 ^ 1 = h i in
      rw z (from-small w (suc i) 1 (get_or s i 0) b)

  pub cut_fits : (ws : List ℕ) (i : ℕ) → Fits ws (cut ws i s)
  cut_fits [] i = tt
  cut_fits (w ∷ ws) i = (number_small w i, cut_fits ws (i + w))

pub each-block : {A : Type 0} (P : A → Type 0) (f : ℕ → A) → ((i : ℕ) → P (f i)) → (w n at : ℕ) → Each P (blocks f w n at)
unfolding blocks
each-block P f g w zero at = tt
each-block P f g w (suc n) at = (g at, each-block P f g w n (at + w))

abbrev pub FitsState : State → Type 0
FitsState x = Fits (1 ∷ 8 ∷ 4 ∷ 1 ∷ []) (state_kind x ∷ (time_of x).0 ∷ mask_of x ∷ awaited_of x ∷ [])

either : (b : Bool) (x y : State) → FitsState x → FitsState y → FitsState (cond b x y)
either true x y f g = f
either false x y f g = g

-- a state that holds no number
small : Fits (8 ∷ 4 ∷ 1 ∷ []) (0 ∷ 0 ∷ 0 ∷ [])
small = (omega arith, (omega arith, (omega arith, tt)))

state-fits : (a : ℕ) (b : Millis) (c d : ℕ) → b.0 < 256 ^ 8 → c < 256 ^ 4 → d < 256 ^ 1 → FitsState (state_in a b c d)
unfolding state_in state_of
state-fits a b c d f g h =
    either (ltb await_message a) no_kind _ (omega arith, (omega arith, (omega arith, (omega arith, tt))))
    (either (eqb a dormant) _ _ (omega arith, small)
    (either (eqb a ready) _ _ (omega arith, small)
    (either (eqb a paused) _ _ (omega arith, (f, (omega arith, (omega arith, tt))))
    (either (eqb a due) _ _ (omega arith, (f, (omega arith, (omega arith, tt))))
    (either (eqb a await_any) _ _ (omega arith, (omega arith, (g, (omega arith, tt))))
    (either (eqb a await_all) _ _ (omega arith, (omega arith, (g, (omega arith, tt))))
    (either (eqb a await_start) _ _ (omega arith, small)
    (either (eqb a await_end) _ _ (omega arith, small)
    (either (eqb a await_sub) _ _ (omega arith, (omega arith, (omega arith, (h, tt))))
    (either (eqb a await_message) _ _ (omega arith, (omega arith, (omega arith, (h, tt)))) (omega arith, small)))))))))))

-- what the state of the i-th task holds
read_fits : (s : List ℕ) → Bytes s → (i : ℕ) → FitsState (task_from s i).state
read_fits s h i =
    let c = cut_fits s h task_widths (i * task_length) in
    let d = cut_fits s h awaited_widths (awaited_at + i) in
    let at = i * task_length in
    state-fits (number_of (part 1 (at + 1) s)) (record { 0 = number_of (part 8 (at + 1 + 1) s) }) (number_of (part 4 (at + 1 + 1 + 8) s)) (number_of (part 1 (awaited_at + i) s))
    c.1.1.0 c.1.1.1.0 d.0

task-fits : (s : List ℕ) → Bytes s → (i : ℕ) → Fits task_widths (task_numbers (task_from s i))
task-fits s h i =
    let c = cut_fits s h task_widths (i * task_length) in
    let n = read_fits s h i in
    (c.0, (n.0, (n.1.0, (n.1.1.0, c.1.1.1.1))))

awaited-fits : (s : List ℕ) → Bytes s → (i : ℕ) → Fits awaited_widths (awaited_numbers (task_from s i))
awaited-fits s h i = (read_fits s h i).1.1.1

line-fits : (s : List ℕ) → Bytes s → (at : ℕ) → Each (λ k. Fits place_widths (place_numbers k)) (line_from s at)
line-fits s h at = each-block (λ k. Fits place_widths (place_numbers k)) (place_from s) (cut_fits s h place_widths) 1 16 at

sub-fits : (s : List ℕ) → Bytes s → (at : ℕ) → FitsSub (sub_from s at)
sub-fits s h at = record { numbers = cut_fits s h sub_widths at; size = length-blocks (place_from s) 1 16 (at + 2); line = line-fits s h (at + 2) }

-- each line of subprograms that fit is as long as it must be
pub line-sizes : (ss : List Sub) → Each FitsSub ss → (m : ℕ) → length (get_or ss m no_subprogram).line ≡ 16
unfolding pad
line-sizes ss h = each_or (λ x. length x.line ≡ 16) no_subprogram refl ss (each_so FitsSub (λ x. length x.line ≡ 16) (λ x f. f.size) ss h)

pub load_fits : (s : List ℕ) → Bytes s → FitsTable (load_of s)
unfolding load_of
load_fits s h =
    let ss = each-block FitsSub (sub_from s) (sub-fits s h) sub_length 8 subs_at in
    record {
      sizes = record {
        tasks = length-blocks (task_from s) 1 16 0;
        queue = length-blocks (place_from s) 1 16 queue_at;
        alarms = length-blocks (alarm_from s) 8 32 alarms_at;
        pool = length-blocks (request_from s) 6 32 pool_at;
        subs = length-blocks (sub_from s) sub_length 8 subs_at;
        lines = line-sizes (blocks (sub_from s) sub_length 8 subs_at) ss;
        messages = length-blocks (message_from s) message_length 32 messages_at;
        mail = length-blocks (mail_from s) mail_length 16 mails_at;
      };
      tasks = each-block (λ e. Fits task_widths (task_numbers e)) (task_from s) (task-fits s h) 1 16 0;
      queue = line-fits s h queue_at;
      head = cut_fits s h head_widths head_at;
      alarms = each-block (λ a. Fits alarm_widths (alarm_numbers a)) (alarm_from s) (cut_fits s h alarm_widths) 8 32 alarms_at;
      pool = each-block (λ r. Fits request_widths (request_numbers r)) (request_from s) (cut_fits s h request_widths) 6 32 pool_at;
      levels = cut_fits s h levels_widths levels_at;
      awaited = each-block (λ e. Fits awaited_widths (awaited_numbers e)) (task_from s) (awaited-fits s h) 1 16 0;
      subs = ss;
      messages = each-block (λ m. Fits message_widths (message_numbers m)) (message_from s) (cut_fits s h message_widths) message_length 32 messages_at;
      sent = cut_fits s h sent_widths sent_at;
      mail = each-block (λ x. Fits mail_widths (mail_numbers x)) (mail_from s) (cut_fits s h mail_widths) mail_length 16 mails_at;
    }
