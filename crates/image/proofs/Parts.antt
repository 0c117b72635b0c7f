-- Bytes written into one part of an image make the image of the table with that part changed: one law, over the part's
-- number. Then each field, and what is read of one.
use Prim.Native.Nat.{ℕ, ◌+◌, ◌*◌, ◌≤◌, ◌<◌}
use mathlib.Core.Path.{◌≡◌, refl, sym, ap, subst, ◌∙◌}
use mathlib.Core.List.{List, [], ◌∷◌, append-nil}
use native.Mathlib.Omega.{arith}
use lib.ListN.{length, get_or, take, drop, set, length-set}
use Rattle.records.specs.Numbers.{bytes_in}
use Rattle.executive.specs.declared.Millis.{Millis}
use Rattle.executive.specs.declared.Task.{Task}
use Rattle.executive.specs.declared.Request.{Request}
use Rattle.executive.specs.declared.Sub.{Sub}
use Rattle.executive.specs.declared.Mail.{Mail}
use Rattle.executive.specs.declared.Table.{Table}
use Rattle.executive.specs.Places.{no_task}
use Rattle.executive.specs.Table.{with_rest}
use Rattle.executive.specs.Rest.{with_post}
use Rattle.executive.specs.Subprograms.{no_subprogram}
use Rattle.executive.specs.Clock.{with_alarm, with_clock}
use Rattle.executive.specs.Flags.{with_flags}
use Rattle.executive.specs.WellFormed.{Sizes}
use Rattle.image.specs.Blocks.{row, written}
use Rattle.image.specs.Image.{task_bytes, place_bytes, head_bytes, alarm_bytes, request_bytes, levels_bytes, awaited_bytes, sub_bytes, message_bytes, sent_bytes, mail_bytes, image_of}
use Rattle.image.specs.Laid.{Laid, with_tasks, with_ready, with_levels, with_pool}
use Rattle.image.proofs.Spans.{Wide, each_all}
use Rattle.image.proofs.Trips.{tasks-length, queue-length, alarms-length, pool-length, awaited-length, subs-length, messages-length, mail-length}
use Rattle.image.proofs.Joined.{joined, offset, Sized, join_put, join-slice, join-read, sized_put, row_put, row-set, row_same}

-- ---- the parts of an image, in their order, and how long they are
abbrev pub parts_of : Table → List (List ℕ)
parts_of t =
    row task_bytes t.tasks
    ∷ row place_bytes t.queue
    ∷ head_bytes t
    ∷ row alarm_bytes t.rest.alarms
    ∷ row request_bytes t.rest.pool
    ∷ levels_bytes t
    ∷ row awaited_bytes t.tasks
    ∷ row sub_bytes t.rest.subs
    ∷ row message_bytes t.rest.messages
    ∷ sent_bytes t.rest
    ∷ row mail_bytes t.rest.mail
    ∷ []

abbrev pub lengths : List ℕ
lengths = 416 ∷ 16 ∷ 16 ∷ 256 ∷ 192 ∷ 2 ∷ 16 ∷ 144 ∷ 352 ∷ 1 ∷ 144 ∷ []

pub parted : (t : Table) → image_of t ≡ joined (parts_of t)
unfolding image_of joined
parted t = rw (append-nil (row mail_bytes t.rest.mail)) refl

pub parts-sized : (t : Table) → Sizes t → Sized lengths (parts_of t)
parts-sized t z =
    (tasks-length t z, (queue-length t z, (refl, (alarms-length t z, (pool-length t z, (refl, (awaited-length t z, (subs-length t z, (messages-length t z, (refl, (mail-length t z, tt)))))))))))

-- ---- bytes that are some parts, one behind the other
pub record Made (s : List ℕ) (ps : List (List ℕ)) : Type 0 where
  pub bytes : s ≡ joined ps
  pub sized : Sized lengths ps

pub laid-made : {s : List ℕ} (t : Table) → Laid s t → Made s (parts_of t)
laid-made t l = record { bytes = l.image ∙ parted t; sized = parts-sized t l.sizes }

pub made-laid : {s : List ℕ} {ps : List (List ℕ)} (t : Table) → Made s ps → Sizes t → ps ≡ parts_of t → Laid s t
made-laid t m z e = record { image = m.bytes ∙ ap joined e ∙ sym (parted t); sizes = z }

pub put_made : {s : List ℕ} {ps : List (List ℕ)} → Made s ps → (d at : ℕ) (bs : List ℕ) → d < 11 → at + length bs ≤ get_or lengths d 0
    → Made (written s (offset lengths d + at) bs) (set ps d (written (get_or ps d []) at bs))
put_made {s} {ps} m d at bs h l = record {
  bytes = ap (λ (x : List ℕ). written x (offset lengths d + at) bs) m.bytes ∙ join_put lengths ps m.sized d at bs h l;
  sized = sized_put lengths ps m.sized d at bs l;
}

-- the same of other bytes, of another table
pub wrote : {s r : List ℕ} {u : Table} → r ≡ s → Laid s u → Laid r u
wrote {s} {r} {u} e l = subst (λ (x : List ℕ). Laid x u) (sym e) l

pub onto : {r : List ℕ} {u v : Table} → u ≡ v → Laid r u → Laid r v
onto {r} {u} {v} e l = subst (Laid r) e l

-- ---- the general laws
pub put_laid : (d : ℕ) {s : List ℕ} (t u : Table) → Laid s t → Sizes u → (at : ℕ) (bs : List ℕ) → d < 11 → at + length bs ≤ get_or lengths d 0
    → set (parts_of t) d (written (get_or (parts_of t) d []) at bs) ≡ parts_of u → Laid (written s (offset lengths d + at) bs) u
put_laid d t u l z at bs h k e = made-laid u (put_made (laid-made t l) d at bs h k) z e

pub read-laid : (d : ℕ) {s : List ℕ} (t : Table) → Laid s t → (at : ℕ) → d < 11 → at < get_or lengths d 0
    → get_or s (offset lengths d + at) 0 ≡ get_or (get_or (parts_of t) d []) at 0
read-laid d t l at h k =
    ap (λ (x : List ℕ). get_or x (offset lengths d + at) 0) (l.image ∙ parted t) ∙ join-read lengths (parts_of t) (parts-sized t l.sizes) d at h k

pub slice-laid : (d : ℕ) {s : List ℕ} (t : Table) → Laid s t → (a n : ℕ) → d < 11 → a + n ≤ get_or lengths d 0
    → take n (drop (offset lengths d + a) s) ≡ take n (drop a (get_or (parts_of t) d []))
slice-laid d t l a n h k =
    ap (λ (x : List ℕ). take n (drop (offset lengths d + a) x)) (l.image ∙ parted t) ∙ join-slice lengths (parts_of t) (parts-sized t l.sizes) d a n h k

-- ---- tables whose arrays are as long as another's
pub as_long : {t : Table} (u : Table) → Sizes t → length u.tasks ≡ length t.tasks → length u.queue ≡ length t.queue
    → length u.rest.alarms ≡ length t.rest.alarms → length u.rest.pool ≡ length t.rest.pool → u.rest.subs ≡ t.rest.subs
    → length u.rest.messages ≡ length t.rest.messages → length u.rest.mail ≡ length t.rest.mail → Sizes u
as_long u z a b c d e f g = record {
  tasks = a ∙ z.tasks;
  queue = b ∙ z.queue;
  alarms = c ∙ z.alarms;
  pool = d ∙ z.pool;
  subs = ap length e ∙ z.subs;
  lines = λ m. ap (λ (ss : List Sub). length (get_or ss m no_subprogram).line) e ∙ z.lines m;
  messages = f ∙ z.messages;
  mail = g ∙ z.mail;
}

-- ---- each field
module _ {s : List ℕ} (t : Table) (l : Laid s t) where
  pub ready-laid : (n : ℕ) → Laid (written s 432 (bytes_in 1 n)) (with_ready n t)
  unfolding written
  ready-laid n = put_laid 2 t (with_ready n t) l (as_long _ l.sizes refl refl refl refl refl refl refl) 0 (bytes_in 1 n) (omega arith) (omega arith) refl

  pub levels-laid : (n : ℕ) → Laid (written s 896 (bytes_in 2 n)) (with_levels n t)
  unfolding written
  levels-laid n = put_laid 5 t (with_levels n t) l (as_long _ l.sizes refl refl refl refl refl refl refl) 0 (bytes_in 2 n) (omega arith) (omega arith) refl

  pub flags-laid : (x : ℕ) → Laid (written s 444 (bytes_in 4 x)) (with_rest (with_flags x t.rest) t)
  unfolding written
  flags-laid x = put_laid 2 t (with_rest (with_flags x t.rest) t) l (as_long _ l.sizes refl refl refl refl refl refl refl) 12 (bytes_in 4 x) (omega arith) (omega arith) refl

  pub clock-laid : (m : Millis) → Laid (written s 436 (bytes_in 8 m.0)) (with_rest (with_clock m t.rest) t)
  unfolding written
  clock-laid m = put_laid 2 t (with_rest (with_clock m t.rest) t) l (as_long _ l.sizes refl refl refl refl refl refl refl) 4 (bytes_in 8 m.0) (omega arith) (omega arith) refl

  pub queued-laid : (n : ℕ) → Laid (written s 435 (bytes_in 1 n)) (with_pool t.rest.pool n t)
  unfolding written
  queued-laid n = put_laid 2 t (with_pool t.rest.pool n t) l (as_long _ l.sizes refl refl refl refl refl refl refl) 3 (bytes_in 1 n) (omega arith) (omega arith) refl

  pub sent-laid : (n : ℕ) → Laid (written s 1410 (bytes_in 1 n)) (with_rest (with_post t.rest.messages n t.rest.mail t.rest) t)
  unfolding written
  sent-laid n =
      put_laid 9 t (with_rest (with_post t.rest.messages n t.rest.mail t.rest) t) l (as_long _ l.sizes refl refl refl refl refl refl refl) 0 (bytes_in 1 n) (omega arith) (omega arith) refl

  -- an alarm, a request, a message and a mail at a place
  pub alarm-laid : (i : ℕ) (x : Millis) → i < 32 → Laid (written s (448 + i * 8) (alarm_bytes x)) (with_rest (with_alarm i x t.rest) t)
  alarm-laid i x h =
      let n = l.sizes.alarms in
      put_laid 3 t (with_rest (with_alarm i x t.rest) t) l (as_long _ l.sizes refl refl (length-set t.rest.alarms i x) refl refl refl refl) (i * 8) (alarm_bytes x) (omega arith) (omega arith)
      (ap (set (parts_of t) 3) (row-set alarm_bytes 8 t.rest.alarms (each_all (Wide alarm_bytes 8) (λ a. refl) t.rest.alarms) i x (omega arith) refl))

  pub request_laid : (i : ℕ) (x : Request) → i < 32 → Laid (written s (704 + i * 6) (request_bytes x)) (with_pool (set t.rest.pool i x) t.rest.queued t)
  request_laid i x h =
      let n = l.sizes.pool in
      put_laid 4 t (with_pool (set t.rest.pool i x) t.rest.queued t) l (as_long _ l.sizes refl refl refl (length-set t.rest.pool i x) refl refl refl) (i * 6) (request_bytes x) (omega arith) (omega arith)
      (ap (set (parts_of t) 4) (row-set request_bytes 6 t.rest.pool (each_all (Wide request_bytes 6) (λ a. refl) t.rest.pool) i x (omega arith) refl))

  pub mail-laid : (i : ℕ) (x : Mail) → i < 16 → Laid (written s (1411 + i * 9) (mail_bytes x)) (with_rest (with_post t.rest.messages t.rest.sent (set t.rest.mail i x) t.rest) t)
  mail-laid i x h =
      let n = l.sizes.mail in
      put_laid 10 t (with_rest (with_post t.rest.messages t.rest.sent (set t.rest.mail i x) t.rest) t) l
      (as_long _ l.sizes refl refl refl refl refl refl (length-set t.rest.mail i x)) (i * 9) (mail_bytes x) (omega arith) (omega arith)
      (ap (set (parts_of t) 10) (row-set mail_bytes 9 t.rest.mail (each_all (Wide mail_bytes 9) (λ a. refl) t.rest.mail) i x (omega arith) refl))

  -- some bytes of a task's entry
  module _ (i : ℕ) (e : Task) (h : i < 16) (at : ℕ) (bs : List ℕ) (g : at + length bs ≤ 26) (w : written (task_bytes (get_or t.tasks i no_task)) at bs ≡ task_bytes e) where
    bytes_put : written (row task_bytes t.tasks) (i * 26 + at) bs ≡ row task_bytes (set t.tasks i e)
    bytes_put = let n = l.sizes.tasks in row_put task_bytes 26 t.tasks (each_all (Wide task_bytes 26) (λ x. refl) t.tasks) i no_task e at bs (omega arith) g w

    -- the parts of the table with that entry
    parts_as : {x : List ℕ} → x ≡ row awaited_bytes (set t.tasks i e)
        → set (set (parts_of t) 0 (written (row task_bytes t.tasks) (i * 26 + at) bs)) 6 x ≡ parts_of (with_tasks (set t.tasks i e) t)
    parts_as b =
        λ j.
        bytes_put j
        ∷ row place_bytes t.queue
        ∷ head_bytes t
        ∷ row alarm_bytes t.rest.alarms
        ∷ row request_bytes t.rest.pool
        ∷ levels_bytes t
        ∷ b j
        ∷ row sub_bytes t.rest.subs
        ∷ row message_bytes t.rest.messages
        ∷ sent_bytes t.rest
        ∷ row mail_bytes t.rest.mail
        ∷ []

    wrote-there : {r : List ℕ} → r ≡ written s (i * 26 + at) bs → r ≡ written s (0 + (i * 26 + at)) bs
    wrote-there er = let z : 0 + (i * 26 + at) ≡ i * 26 + at = omega arith in er ∙ ap (λ k. written s k bs) (sym z)

    -- where its state still waits for the same number, and with the number that it waits for now
    pub entry-laid : {r : List ℕ} → awaited_bytes e ≡ awaited_bytes (get_or t.tasks i no_task) → r ≡ written s (i * 26 + at) bs → Laid r (with_tasks (set t.tasks i e) t)
    entry-laid ea er =
        let b : row awaited_bytes t.tasks ≡ row awaited_bytes (set t.tasks i e) = row_same awaited_bytes t.tasks i no_task e ea in
        rw (wrote-there er)
        (made-laid (with_tasks (set t.tasks i e) t) (put_made (laid-made t l) 0 (i * 26 + at) bs (omega arith) (omega arith)) (as_long _ l.sizes (length-set t.tasks i e) refl refl refl refl refl refl)
        (parts_as b))

    pub entry-laid_as : {r q : List ℕ} → r ≡ written s (i * 26 + at) bs → q ≡ written r (898 + i) (awaited_bytes e) → Laid q (with_tasks (set t.tasks i e) t)
    entry-laid_as er eq =
        let n = l.sizes.tasks in
        let y : i * 1 ≡ i = omega arith in
        let b : written (row awaited_bytes t.tasks) i (awaited_bytes e) ≡ row awaited_bytes (set t.tasks i e) =
        rw y at (row-set awaited_bytes 1 t.tasks (each_all (Wide awaited_bytes 1) (λ x. refl) t.tasks) i e (omega arith) refl) in
        let m = put_made (put_made (laid-made t l) 0 (i * 26 + at) bs (omega arith) (omega arith)) 6 i (awaited_bytes e) (omega arith) (omega arith) in
        rw (eq ∙ ap (λ x. written x (898 + i) (awaited_bytes e)) (wrote-there er))
        (made-laid (with_tasks (set t.tasks i e) t) m (as_long _ l.sizes (length-set t.tasks i e) refl refl refl refl refl refl)
        (parts_as b))
