-- The rest of a table changed in its image: requests, messages and mail, subprograms, the clock and its alarms.
use Prim.Native.Nat.{ℕ, zero, suc, ◌+◌, ◌-◌, ◌*◌, ◌^◌, ◌≤◌, ◌<◌}
use mathlib.Core.Path.{◌≡◌, refl, sym, ap, subst, ◌∙◌}
use mathlib.Core.Bool.{Bool, true, false, cond}
use mathlib.Core.List.{List, [], ◌∷◌, ◌++◌}
use native.Mathlib.Omega.{arith}
use borrow.Author.Tests.{eq-eqb, ne_eqb, le-leb, lt-leb}
use lib.Bits.{bit_or}
use lib.ListN.{length, get_or, take, drop, set, length-append, length-drop, length-set}
use lib.Seq.{length-take-le, get_or-set_same, get_or-set_other, set-set, set-get_or, drop-append-add}
use Rattle.records.specs.declared.TaskNo.{TaskNo}
use Rattle.records.specs.Numbers.{bytes_in}
use Rattle.executive.specs.declared.Millis.{Millis}
use Rattle.executive.specs.declared.Request.{Request}
use Rattle.executive.specs.declared.Sub.{Sub}
use Rattle.executive.specs.declared.Message.{Message}
use Rattle.executive.specs.declared.Mail.{Mail}
use Rattle.executive.specs.declared.Rest.{Rest}
use Rattle.executive.specs.declared.Table.{Table}
use Rattle.executive.specs.Lists.{closed_at, each}
use Rattle.executive.specs.Places.{nobody, never, no_request, entry_place}
use Rattle.executive.specs.Rest.{with_subs, with_post}
use Rattle.executive.specs.Pool.{PoolInOrder, requests, removed, with_requests}
use Rattle.executive.specs.Table.{with_rest, slid_of, head_of}
use Rattle.executive.specs.Clock.{is_due, rung, advanced, with_alarm, with_clock}
use Rattle.executive.specs.Flags.{with_flags}
use Rattle.executive.specs.Subprograms.{no_subprogram, sub_at, line_of, LineInOrder, joins_line, handed_on, with_sub}
use Rattle.executive.specs.Messages.{no_message, letters, LettersInOrder, with_letters, put_in_at, with_mail}
use Rattle.executive.specs.Decisions.{first_due}
use Rattle.executive.proofs.Assured.{slid_length, each_turn, each-end, ring-on, made-without, made-posted, mail-place, mail-no-place, take-le, made-removed, made-queued, head-taken, made-joined, made-handed, made-free}
use Rattle.executive.specs.WellFormed.{Sizes}
use Rattle.image.specs.Blocks.{row, Each, written}
use Rattle.image.specs.Image.{place_bytes, request_bytes, sub_bytes, message_bytes, mail_bytes}
use Rattle.image.specs.Laid.{Laid, with_pool}
use Rattle.image.specs.Marks.{Next, Running}
use Rattle.image.proofs.Spans.{Wide, each_of, each_so, length-row, and_then}
use Rattle.image.proofs.Trips.{sub-length, image-length}
use Rattle.image.proofs.Joined.{closed-length, written-past, row-closed, row_slid, row_put, row_read, row-slice}
use Rattle.image.proofs.Shifts.{before-then}
use Rattle.image.proofs.Parts.{parts_of, put_laid, read-laid, slice-laid, as_long, mail-laid}
use Rattle.image.proofs.QueueLaid.{line-closed, line_slid, closed-long, slid_long}
use Rattle.image.proofs.RingLaid.{idle, each-skips}

-- a sub put in its place keeps each line's length
set_lines : (ss : List Sub) (m : ℕ) (x : Sub) → length x.line ≡ 16 → ((j : ℕ) → length (get_or ss j no_subprogram).line ≡ 16) → (j : ℕ) → length (get_or (set ss m x) j no_subprogram).line ≡ 16
set_lines [] m x e h j = h j
set_lines (y ∷ ss) zero x e h zero = e
set_lines (y ∷ ss) zero x e h (suc j) = h (suc j)
set_lines (y ∷ ss) (suc m) x e h zero = h 0
set_lines (y ∷ ss) (suc m) x e h (suc j) = set_lines ss m x e (λ i. h (suc i)) j

module _ {s : List ℕ} (t : Table) (l : Laid s t) where
  pub laid-length : length s ≡ 1555
  laid-length = ap length l.image ∙ image-length t l.sizes

  -- ---- the requests: one is put behind the n that are queued; one is taken out
  pub added-laid : {r : List ℕ} (n : ℕ) (x : Request) → PoolInOrder t.rest → n ≡ t.rest.queued → n < 32
      → Laid r (with_pool (set t.rest.pool n x) (n + 1) t) → Laid r (with_rest (with_requests (requests t.rest ++ (x ∷ [])) t.rest) t)
  added-laid {r} n x f en h y =
      let g : t.rest.queued < 32 = rw en at h in
      subst (Laid r) ((λ j. with_pool (set t.rest.pool (en j) x) (en j + 1) t) ∙ ap (λ (z : Rest). with_rest z t) (made-queued t.rest f x g)) y

  pub pool-closed : {r q : List ℕ} (i : ℕ) → i < 32 → r ≡ written s (704 + i * 6) (take ((31 - i) * 6) (drop (704 + i * 6 + 6) s)) → q ≡ written r 890 (request_bytes no_request)
      → Laid q (with_pool (closed_at no_request t.rest.pool i) t.rest.queued t)
  pool-closed {r} {q} i h er eq =
      let p = t.rest.pool in
      let n = l.sizes.pool in
      let c = (31 - i) * 6 in
      let m = take c (drop (i * 6 + 6) (row request_bytes p)) in
      let z : 704 + i * 6 + 6 ≡ 704 + (i * 6 + 6) = omega arith in
      let e : take c (drop (704 + i * 6 + 6) s) ≡ m = ap (λ k. take c (drop k s)) z ∙ slice-laid 4 t l (i * 6 + 6) c (omega arith) (omega arith) in
      let lr : length (row request_bytes p) ≡ 192 = length-row request_bytes 6 (λ x. refl) p ∙ omega arith in
      let ld : length (drop (i * 6 + 6) (row request_bytes p)) ≡ length (row request_bytes p) - (i * 6 + 6) = length-drop (i * 6 + 6) (row request_bytes p) in
      let lm : length m ≡ c = length-take-le c (drop (i * 6 + 6) (row request_bytes p)) (omega arith) in
      let ls : length s ≡ 1555 = laid-length in
      let y : 890 ≡ 704 + i * 6 + length m = omega arith in
      let w : q ≡ written s (704 + i * 6) (m ++ request_bytes no_request) =
      and_then s (704 + i * 6) m (request_bytes no_request) (er ∙ ap (written s (704 + i * 6)) e) (eq ∙ ap (λ k. written r k (request_bytes no_request)) y) (omega arith) in
      let la : length (take i p) ≡ i = length-take-le i p (omega arith) in
      let lc : length (drop (suc i) p) ≡ length p - suc i = length-drop (suc i) p in
      let lb : length (m ++ request_bytes no_request) ≡ length m + 6 = length-append m (request_bytes no_request) in
      subst (λ x. Laid x (with_pool (closed_at no_request p i) t.rest.queued t)) (sym w)
      (put_laid 4 t (with_pool (closed_at no_request p i) t.rest.queued t) l (as_long _ l.sizes refl refl refl (closed-length no_request p i (omega arith)) refl refl refl) (i * 6) (m ++ request_bytes no_request)
      (omega arith) (omega arith)
      (ap (set (parts_of t) 4)
      (row-closed request_bytes p i no_request no_request (i * 6) 6 c (omega arith) (length-row request_bytes 6 (λ x. refl) (take i p) ∙ omega arith) refl
      (length-row request_bytes 6 (λ x. refl) (drop (suc i) p) ∙ omega arith) refl)))

  pub taken-laid : {r : List ℕ} (n i : ℕ) → PoolInOrder t.rest → n ≡ t.rest.queued → i < t.rest.queued
      → Laid r (with_pool (closed_at no_request t.rest.pool i) (n - 1) t) → Laid r (with_rest (with_requests (removed i (requests t.rest)) t.rest) t)
  taken-laid {r} n i f en h y =
      subst (Laid r) ((λ j. with_pool (closed_at no_request t.rest.pool i) (en j - 1) t) ∙ ap (λ (z : Rest). with_rest z t) (made-removed t.rest f i h)) y

  -- ---- the messages: one is put at a place of the n that wait; one is taken out
  pub letters-closed : {r q : List ℕ} (i : ℕ) → i < 32 → r ≡ written s (1058 + i * 11) (take ((31 - i) * 11) (drop (1058 + i * 11 + 11) s)) → q ≡ written r 1399 (message_bytes no_message)
      → Laid q (with_rest (with_post (closed_at no_message t.rest.messages i) t.rest.sent t.rest.mail t.rest) t)
  letters-closed {r} {q} i h er eq =
      let p = t.rest.messages in
      let n = l.sizes.messages in
      let c = (31 - i) * 11 in
      let m = take c (drop (i * 11 + 11) (row message_bytes p)) in
      let z : 1058 + i * 11 + 11 ≡ 1058 + (i * 11 + 11) = omega arith in
      let e : take c (drop (1058 + i * 11 + 11) s) ≡ m = ap (λ k. take c (drop k s)) z ∙ slice-laid 8 t l (i * 11 + 11) c (omega arith) (omega arith) in
      let lr : length (row message_bytes p) ≡ 352 = length-row message_bytes 11 (λ x. refl) p ∙ omega arith in
      let ld : length (drop (i * 11 + 11) (row message_bytes p)) ≡ length (row message_bytes p) - (i * 11 + 11) = length-drop (i * 11 + 11) (row message_bytes p) in
      let lm : length m ≡ c = length-take-le c (drop (i * 11 + 11) (row message_bytes p)) (omega arith) in
      let ls : length s ≡ 1555 = laid-length in
      let y : 1399 ≡ 1058 + i * 11 + length m = omega arith in
      let w : q ≡ written s (1058 + i * 11) (m ++ message_bytes no_message) =
      and_then s (1058 + i * 11) m (message_bytes no_message) (er ∙ ap (written s (1058 + i * 11)) e) (eq ∙ ap (λ k. written r k (message_bytes no_message)) y) (omega arith) in
      let la : length (take i p) ≡ i = length-take-le i p (omega arith) in
      let lc : length (drop (suc i) p) ≡ length p - suc i = length-drop (suc i) p in
      let lb : length (m ++ message_bytes no_message) ≡ length m + 11 = length-append m (message_bytes no_message) in
      let u : Table = with_rest (with_post (closed_at no_message p i) t.rest.sent t.rest.mail t.rest) t in
      subst (λ x. Laid x u) (sym w)
      (put_laid 8 t u l (as_long _ l.sizes refl refl refl refl refl (closed-length no_message p i (omega arith)) refl) (i * 11) (m ++ message_bytes no_message) (omega arith) (omega arith)
      (ap (set (parts_of t) 8)
      (row-closed message_bytes p i no_message no_message (i * 11) 11 c (omega arith) (length-row message_bytes 11 (λ x. refl) (take i p) ∙ omega arith) refl
      (length-row message_bytes 11 (λ x. refl) (drop (suc i) p) ∙ omega arith) refl)))

  pub handed-laid : {r : List ℕ} (n i : ℕ) → LettersInOrder t.rest → n ≡ t.rest.sent → i < t.rest.sent
      → Laid r (with_rest (with_post (closed_at no_message t.rest.messages i) (n - 1) t.rest.mail t.rest) t) → Laid r (with_rest (with_letters (removed i (letters t.rest)) t.rest) t)
  handed-laid {r} n i f en h y =
      subst (Laid r) ((λ j. with_rest (with_post (closed_at no_message t.rest.messages i) (en j - 1) t.rest.mail t.rest) t) ∙ ap (λ (z : Rest). with_rest z t) (made-without t.rest f i h)) y

  pub letters_slid : {r q : List ℕ} (at n : ℕ) (x : Message) → at ≤ n → n < 32 → r ≡ written s (1058 + at * 11 + 11) (take ((n - at) * 11) (drop (1058 + at * 11) s)) → q ≡ written r (1058 + at * 11) (message_bytes x)
      → Laid q (with_rest (with_post (slid_of t.rest.messages at n x) t.rest.sent t.rest.mail t.rest) t)
  letters_slid {r} {q} at n x h g er eq =
      let p = t.rest.messages in
      let k = l.sizes.messages in
      let c = (n - at) * 11 in
      let m = take c (drop (at * 11) (row message_bytes p)) in
      let e : take c (drop (1058 + at * 11) s) ≡ m = slice-laid 8 t l (at * 11) c (omega arith) (omega arith) in
      let lr : length (row message_bytes p) ≡ 352 = length-row message_bytes 11 (λ x. refl) p ∙ omega arith in
      let ld : length (drop (at * 11) (row message_bytes p)) ≡ length (row message_bytes p) - at * 11 = length-drop (at * 11) (row message_bytes p) in
      let lm : length m ≡ c = length-take-le c (drop (at * 11) (row message_bytes p)) (omega arith) in
      let ls : length s ≡ 1555 = laid-length in
      let w : q ≡ written s (1058 + at * 11) (message_bytes x ++ m) = before-then s (1058 + at * 11) (message_bytes x) m (er ∙ ap (written s (1058 + at * 11 + 11)) e) eq (omega arith) in
      let la : length (take at p) ≡ at = length-take-le at p (omega arith) in
      let lc : length (drop at p) ≡ length p - at = length-drop at p in
      let lt : length (take (n - at) (drop at p)) ≡ n - at = length-take-le (n - at) (drop at p) (omega arith) in
      let lb : length (message_bytes x ++ m) ≡ 11 + length m = length-append (message_bytes x) m in
      let u : Table = with_rest (with_post (slid_of p at n x) t.rest.sent t.rest.mail t.rest) t in
      subst (λ y. Laid y u) (sym w)
      (put_laid 8 t u l (as_long _ l.sizes refl refl refl refl refl (slid_length no_message p at n x h (omega arith)) refl) (at * 11) (message_bytes x ++ m) (omega arith) (omega arith)
      (ap (set (parts_of t) 8)
      (row_slid message_bytes p at n no_message x (at * 11) 11 c h (omega arith) (length-row message_bytes 11 (λ x. refl) (take at p) ∙ omega arith)
      (length-row message_bytes 11 (λ x. refl) (take (n - at) (drop at p)) ∙ omega arith) refl refl)))

  pub posted-laid : {r : List ℕ} (at n : ℕ) (x : Message) → LettersInOrder t.rest → n ≡ t.rest.sent → at ≤ t.rest.sent → t.rest.sent < 32
      → Laid r (with_rest (with_post (slid_of t.rest.messages at n x) (n + 1) t.rest.mail t.rest) t) → Laid r (with_rest (with_letters (put_in_at at x (letters t.rest)) t.rest) t)
  posted-laid {r} at n x f en h g y =
      subst (Laid r) ((λ j. with_rest (with_post (slid_of t.rest.messages at (en j) x) (en j + 1) t.rest.mail t.rest) t) ∙ ap (λ (z : Rest). with_rest z t) (made-posted t.rest f x at h g)) y

  -- ---- the mail of task k, i being its place
  module _ (k i : ℕ) (e : i ≡ entry_place k) (x : Mail) where
    pub mail_put_laid : i < 16 → Laid (written s (1411 + i * 9) (mail_bytes x)) (with_rest (with_mail k x t.rest) t)
    mail_put_laid h = rw (mail-place t.rest l.sizes.mail x k, ← e) (mail-laid t l i x h)

    pub mail-none-laid : 15 < i → Laid s (with_rest (with_mail k x t.rest) t)
    mail-none-laid h = rw (mail-no-place t.rest l.sizes.mail x k i e h) l

  -- ---- a subprogram
  wide-subs : Each (Wide sub_bytes 18) t.rest.subs
  wide-subs = each_so (λ (x : Sub). length x.line ≡ 16) (Wide sub_bytes 18) sub-length t.rest.subs (each_of (λ (x : Sub). length x.line ≡ 16) no_subprogram t.rest.subs l.sizes.lines)

  sub-sizes : (m : ℕ) (x : Sub) → m < 8 → length x.line ≡ 16 → Sizes (with_rest (with_sub m x t.rest) t)
  sub-sizes m x h e = record {
    tasks = l.sizes.tasks;
    queue = l.sizes.queue;
    alarms = l.sizes.alarms;
    pool = l.sizes.pool;
    subs = length-set t.rest.subs m x ∙ l.sizes.subs;
    lines = λ j. set_lines t.rest.subs m x e l.sizes.lines j;
    messages = l.sizes.messages;
    mail = l.sizes.mail;
  }

  -- bytes written into the block of subprogram m make it x
  pub sub-laid : (m at : ℕ) (bs : List ℕ) (x : Sub) → m < 8 → at + length bs ≤ 18 → length x.line ≡ 16 → written (sub_bytes (sub_at t.rest m)) at bs ≡ sub_bytes x
      → Laid (written s (914 + m * 18 + at) bs) (with_rest (with_sub m x t.rest) t)
  sub-laid m at bs x h g n e =
      let k = l.sizes.subs in
      let z : 914 + m * 18 + at ≡ 914 + (m * 18 + at) = omega arith in
      rw z
      (put_laid 7 t (with_rest (with_sub m x t.rest) t) l (sub-sizes m x h n) (m * 18 + at) bs (omega arith) (omega arith)
      (ap (set (parts_of t) 7) (row_put sub_bytes 18 t.rest.subs wide-subs m no_subprogram x at bs (omega arith) g e)))

  pub sub_read : (m at : ℕ) → m < 8 → at < 18 → get_or s (914 + m * 18 + at) 0 ≡ get_or (sub_bytes (sub_at t.rest m)) at 0
  sub_read m at h g =
      let k = l.sizes.subs in
      let z : 914 + m * 18 + at ≡ 914 + (m * 18 + at) = omega arith in
      rw z (read-laid 7 t l (m * 18 + at) (omega arith) (omega arith) ∙ row_read sub_bytes 18 t.rest.subs wide-subs m no_subprogram at (omega arith) g)

  pub sub_slice : (m a n : ℕ) → m < 8 → a + n ≤ 18 → take n (drop (914 + m * 18 + a) s) ≡ take n (drop a (sub_bytes (sub_at t.rest m)))
  sub_slice m a n h g =
      let k = l.sizes.subs in
      let z : 914 + m * 18 + a ≡ 914 + (m * 18 + a) = omega arith in
      rw z (slice-laid 7 t l (m * 18 + a) n (omega arith) (omega arith) ∙ row-slice sub_bytes 18 t.rest.subs wide-subs m no_subprogram a n (omega arith) g)

-- ---- what a call makes of subprogram m: the table with y there, byte by byte
module _ (t : Table) (m : ℕ) (h : m < 8) (n : length t.rest.subs ≡ 8) where
  abbrev pub having : Sub → Table
  having y = with_rest (with_sub m y t.rest) t

  pub having-own : {r : List ℕ} → Laid r t → Laid r (having (sub_at t.rest m))
  having-own {r} l = subst (λ (ss : List Sub). Laid r (with_rest (with_subs ss t.rest) t)) (sym (set-get_or t.rest.subs m no_subprogram)) l

  own : (y : Sub) → sub_at (having y).rest m ≡ y
  own y = get_or-set_same t.rest.subs m y no_subprogram (omega arith)

  pub having_put : {r : List ℕ} (at : ℕ) (bs : List ℕ) (y z : Sub) → Laid r (having y) → at + length bs ≤ 18 → length z.line ≡ 16 → written (sub_bytes y) at bs ≡ sub_bytes z
      → Laid (written r (914 + m * 18 + at) bs) (having z)
  having_put {r} at bs y z l g k e =
      subst (λ (ss : List Sub). Laid (written r (914 + m * 18 + at) bs) (with_rest (with_subs ss t.rest) t)) (set-set t.rest.subs m y z)
      (sub-laid (having y) l m at bs z h g k (ap (λ (x : Sub). written (sub_bytes x) at bs) (own y) ∙ e))

  pub having-read : {r : List ℕ} (at : ℕ) (y : Sub) → Laid r (having y) → at < 18 → get_or r (914 + m * 18 + at) 0 ≡ get_or (sub_bytes y) at 0
  having-read at y l g = sub_read (having y) l m at h g ∙ ap (λ (x : Sub). get_or (sub_bytes x) at 0) (own y)

  having-slice : {r : List ℕ} (a c : ℕ) (y : Sub) → Laid r (having y) → a + c ≤ 16 → take c (drop (914 + m * 18 + 2 + a) r) ≡ take c (drop a (row place_bytes y.line))
  having-slice {r} a c y l g =
      let z : 914 + m * 18 + 2 + a ≡ 914 + m * 18 + (2 + a) = omega arith in
      ap (λ k. take c (drop k r)) z
      ∙ sub_slice (having y) l m (2 + a) c h (omega arith)
      ∙ ap (λ (x : Sub). take c (drop (2 + a) (sub_bytes x))) (own y)
      ∙ ap (take c) (drop-append-add (y.holder.0 ∷ y.waiting ∷ []) (row place_bytes y.line) a)

  long-line : {r : List ℕ} (y : Sub) → Laid r (having y) → length y.line ≡ 16
  long-line y l = ap (λ (x : Sub). length x.line) (sym (own y)) ∙ l.sizes.lines m

  -- another holder; another number of those who wait
  pub holder-laid : {r q : List ℕ} (k : TaskNo) (y : Sub) → Laid r (having y) → q ≡ written r (914 + m * 18) (bytes_in 1 k.0) → Laid q (having (record { holder = k; line = y.line; waiting = y.waiting }))
  unfolding written
  holder-laid {r} k y l eq =
      let z : 914 + m * 18 + 0 ≡ 914 + m * 18 = omega arith in
      subst (λ v. Laid v (having (record { holder = k; line = y.line; waiting = y.waiting }))) (ap (λ i. written r i (bytes_in 1 k.0)) z ∙ sym eq)
      (having_put 0 (k.0 ∷ []) y (record { holder = k; line = y.line; waiting = y.waiting }) l (omega arith) (long-line y l) refl)

  pub waiting-laid : {r q : List ℕ} (w : ℕ) (y : Sub) → Laid r (having y) → q ≡ written r (914 + m * 18 + 1) (bytes_in 1 w) → Laid q (having (record { holder = y.holder; line = y.line; waiting = w }))
  unfolding written
  waiting-laid w y l eq =
      subst (λ v. Laid v (having (record { holder = y.holder; line = y.line; waiting = w }))) (sym eq)
      (having_put 1 (w ∷ []) y (record { holder = y.holder; line = y.line; waiting = w }) l (omega arith) (long-line y l) refl)

  -- one joins the line at a place; its first leaves it
  pub line_slid_laid : {r q : List ℕ} (at c : ℕ) (k : TaskNo) (y : Sub) → Laid r (having y) → at ≤ c → c < 16
      → q ≡ written r (914 + m * 18 + 2 + at) (k.0 ∷ take (c - at) (drop (914 + m * 18 + 2 + at) r)) → Laid q (having (record { holder = y.holder; line = slid_of y.line at c k; waiting = y.waiting }))
  line_slid_laid {r} {q} at c k y l g d eq =
      let e = having-slice at (c - at) y l (omega arith) in
      let bs = k.0 ∷ take (c - at) (drop at (row place_bytes y.line)) in
      let x : Sub = record { holder = y.holder; line = slid_of y.line at c k; waiting = y.waiting } in
      let z : 914 + m * 18 + 2 + at ≡ 914 + m * 18 + (2 + at) = omega arith in
      let len : length (take (c - at) (drop at (row place_bytes y.line))) ≤ c - at = take-le (c - at) (drop at (row place_bytes y.line)) in
      let w : q ≡ written r (914 + m * 18 + (2 + at)) bs = eq ∙ ap (λ v. written r (914 + m * 18 + 2 + at) (k.0 ∷ v)) e ∙ ap (λ i. written r i bs) z in
      subst (λ v. Laid v (having x)) (sym w)
      (having_put (2 + at) bs y x l (omega arith) (slid_long y.line (long-line y l) at c k g d)
      (written-past (y.holder.0 ∷ y.waiting ∷ []) (row place_bytes y.line) 2 at bs refl
      ∙ ap (λ v. (y.holder.0 ∷ y.waiting ∷ []) ++ v) (line_slid y.line (long-line y l) at c k g d)))

  pub line-closed-laid : {r q : List ℕ} (y : Sub) → Laid r (having y) → q ≡ written r (914 + m * 18 + 2) (take 15 (drop (914 + m * 18 + 2 + 1) r) ++ (0 ∷ []))
      → Laid q (having (record { holder = y.holder; line = closed_at nobody y.line 0; waiting = y.waiting }))
  line-closed-laid {r} {q} y l eq =
      let e = having-slice 1 15 y l (omega arith) in
      let ms = take 15 (drop 1 (row place_bytes y.line)) in
      let x : Sub = record { holder = y.holder; line = closed_at nobody y.line 0; waiting = y.waiting } in
      let la : length ms ≤ 15 = take-le 15 (drop 1 (row place_bytes y.line)) in
      let lb : length (ms ++ (0 ∷ [])) ≡ length ms + 1 = length-append ms (0 ∷ []) in
      let w : q ≡ written r (914 + m * 18 + 2) (ms ++ (0 ∷ [])) = eq ∙ ap (λ v. written r (914 + m * 18 + 2) (v ++ (0 ∷ []))) e in
      let z : 2 + 0 ≡ 2 = refl in
      subst (λ v. Laid v (having x)) (sym w)
      (having_put 2 (ms ++ (0 ∷ [])) y x l (omega arith) (closed-long y.line (long-line y l))
      (written-past (y.holder.0 ∷ y.waiting ∷ []) (row place_bytes y.line) 2 0 (ms ++ (0 ∷ [])) refl
      ∙ ap (λ v. (y.holder.0 ∷ y.waiting ∷ []) ++ v) (line-closed y.line (long-line y l))))

  -- task k joins it; it is handed on
  pub joined-laid : {r : List ℕ} (at c : ℕ) (k : TaskNo) → LineInOrder (sub_at t.rest m) → c ≡ (sub_at t.rest m).waiting → at ≤ (sub_at t.rest m).waiting → (sub_at t.rest m).waiting < 16
      → Laid r (having (record { holder = (sub_at t.rest m).holder; line = slid_of (sub_at t.rest m).line at c k; waiting = c + 1 })) → Laid r (having (joins_line at k (sub_at t.rest m)))
  joined-laid {r} at c k f ec g d l =
      let x = sub_at t.rest m in
      subst (λ (y : Sub). Laid r (having y)) ((λ j. record { holder = x.holder; line = slid_of x.line at (ec j) k; waiting = ec j + 1 }) ∙ made-joined x f at k g d) l

  pub free-laid : {r : List ℕ} → LineInOrder (sub_at t.rest m) → (sub_at t.rest m).waiting ≡ 0
      → Laid r (having (record { holder = nobody; line = (sub_at t.rest m).line; waiting = (sub_at t.rest m).waiting })) → Laid r (having (handed_on (sub_at t.rest m)))
  free-laid {r} f z l =
      let x = sub_at t.rest m in
      subst (λ (y : Sub). Laid r (having y)) (made-free x f nobody (ap (λ i. head_of (take i x.line)) (sym z)) z) l

  pub handed_on-laid : {r : List ℕ} (w c : ℕ) → LineInOrder (sub_at t.rest m) → w ≡ (get_or (sub_at t.rest m).line 0 nobody).0 → c ≡ (sub_at t.rest m).waiting → 0 < c → length (sub_at t.rest m).line ≡ 16
      → Laid r (having (record { holder = record { 0 = w }; line = closed_at nobody (sub_at t.rest m).line 0; waiting = c - 1 })) → Laid r (having (handed_on (sub_at t.rest m)))
  handed_on-laid {r} w c f ew ec g k l =
      let x = sub_at t.rest m in
      let d : 0 < x.waiting = rw ec at g in
      let e : record { 0 = w } ≡ head_of (line_of x) = (λ j. record { 0 = ew j }) ∙ head-taken nobody x.waiting x.line d k in
      subst (λ (y : Sub). Laid r (having y))
      ((λ j. record { holder = record { 0 = w }; line = closed_at nobody x.line 0; waiting = ec j - 1 }) ∙ made-handed x f (record { 0 = w }) e d) l

-- ---- an alarm at place i, whose time is a
module _ {s : List ℕ} (t : Table) (i a c : ℕ) (ea : a ≡ (get_or t.rest.alarms i never).0) (ec : c ≡ t.rest.clock.0) where
  pub ring-none : a ≡ 0 → Laid s t → Laid s (with_rest (rung t.rest i) t)
  unfolding rung
  ring-none z l =
      let d : is_due t.rest.clock.0 (get_or t.rest.alarms i never) ≡ false = rw (← ea, eq-eqb a 0 z) refl in
      rw d l

  pub ring-late : (a ≡ 0 → ⊥) → c < a → Laid s t → Laid s (with_rest (rung t.rest i) t)
  unfolding rung
  ring-late z h l =
      let d : is_due t.rest.clock.0 (get_or t.rest.alarms i never) ≡ false = rw (← ea, ← ec, ne_eqb a 0 z, lt-leb a c h) refl in
      rw d l

  pub ring-due : (a ≡ 0 → ⊥) → a ≤ c → (fs x : ℕ) → fs ≡ t.rest.flags → x ≡ 2 ^ i → Laid s (with_rest (with_flags (bit_or fs x) (with_alarm i never t.rest)) t) → Laid s (with_rest (rung t.rest i) t)
  unfolding rung
  ring-due z h fs x ef ex l =
      let d : is_due t.rest.clock.0 (get_or t.rest.alarms i never) ≡ true = rw (← ea, ← ec, ne_eqb a 0 z, le-leb a c h) refl in
      rw d (subst (λ (y : ℕ). Laid s (with_rest (with_flags y (with_alarm i never t.rest)) t)) (λ j. bit_or (ef j) (ex j)) l)

rung-clock : (r : Rest) (i : ℕ) → (rung r i).clock ≡ r.clock
unfolding rung
rung-clock r i = go (is_due r.clock.0 (get_or r.alarms i never))
  where
    go : (b : Bool) → (cond b (with_flags (bit_or r.flags (2 ^ i)) (with_alarm i never r)) r).clock ≡ r.clock
    go true = refl
    go false = refl

rung-not : (r : Rest) (i : ℕ) → is_due r.clock.0 (get_or r.alarms i never) ≡ false → rung r i ≡ r
unfolding rung
rung-not r i e = rw e refl

rung-ahead : (r : Rest) (i j : ℕ) → i < j → get_or (rung r i).alarms j never ≡ get_or r.alarms j never
unfolding rung
rung-ahead r i j h = go (is_due r.clock.0 (get_or r.alarms i never))
  where
    go : (b : Bool) → get_or (cond b (with_flags (bit_or r.flags (2 ^ i)) (with_alarm i never r)) r).alarms j never ≡ get_or r.alarms j never
    go true = get_or-set_other r.alarms i j never never (omega arith)
    go false = refl

-- on the way: those alarms rang that are before i, and the others are as they were
pub record Rung (b : List ℕ) (t : Table) (c first i : ℕ) : Type 0 where
  pub rest : Rest
  pub laid : Laid b (with_rest rest t)
  pub clock : c ≡ rest.clock.0
  pub ahead : (j : ℕ) → i ≤ j → get_or rest.alarms j never ≡ get_or t.rest.alarms j never
  pub left : each rung (32 - i) i rest ≡ each rung (32 - first) first t.rest

rung-start : {b : List ℕ} (t : Table) (c first : ℕ) → Laid b t → c ≡ t.rest.clock.0 → Rung b t c first first
rung-start t c first l e = record { rest = t.rest; laid = l; clock = e; ahead = λ j h. refl; left = refl }

-- those that are not running do not ring
module _ {b : List ℕ} (t : Table) (c first : ℕ) {w : ℕ} (r : Running w t.rest.alarms) where
  rung-skip : (i k : ℕ) → Next w i k → Rung b t c first i → Rung b t c first k
  rung-skip i k n g =
      let u : i ≤ k = n.least in
      record {
        rest = g.rest;
        laid = g.laid;
        clock = g.clock;
        ahead = λ j h. g.ahead j (omega arith);
        left =
            sym (each-skips rung g.rest i k u n.most
            (λ j h v. rung-not g.rest j (ap (λ (x : ℕ). is_due x (get_or g.rest.alarms j never)) (sym g.clock) ∙ ap (is_due c) (g.ahead j h) ∙ idle r c n j h v)))
            ∙ g.left;
      }

  pub rung-first : (k : ℕ) → Next w first k → Laid b t → c ≡ t.rest.clock.0 → Rung b t c first k
  rung-first k n l e = rung-skip first k n (rung-start t c first l e)

  pub rung-next : {d : List ℕ} (i k : ℕ) → i < 32 → Next w (i + 1) k → Rung d t c first i → ((u : Table) → Laid d u → c ≡ u.rest.clock.0 → Laid b (with_rest (rung u.rest i) u)) → Rung b t c first k
  rung-next i k h n g f =
      rung-skip (i + 1) k n
      (record {
        rest = rung g.rest i;
        laid = f (with_rest g.rest t) g.laid g.clock;
        clock = g.clock ∙ ap (λ (m : Millis). m.0) (sym (rung-clock g.rest i));
        ahead = λ j v. rung-ahead g.rest i j (omega arith) ∙ g.ahead j (omega arith);
        left = sym (each_turn rung 32 i g.rest h) ∙ g.left;
      })

pub rung-end : {b : List ℕ} (t : Table) (c first i : ℕ) → 32 ≤ i → Rung b t c first i → Laid b (with_rest (each rung (32 - first) first t.rest) t)
rung-end {b} t c first i h g = subst (λ (r : Rest). Laid b (with_rest r t)) (sym (each-end rung 32 i g.rest h) ∙ g.left) g.laid

-- from the last place on nothing rings
pub rung-none : {b : List ℕ} (t : Table) (first : ℕ) → 32 ≤ first → Laid b t → Laid b (with_rest (each rung (32 - first) first t.rest) t)
rung-none {b} t first h l = subst (λ (r : Rest). Laid b (with_rest r t)) (sym (each-end rung 32 first t.rest h)) l

pub sum_of : {a b c d : ℕ} → a ≡ b → c ≡ d → a + c ≡ b + d
sum_of e f = λ j. e j + f j

-- those before the first that is due do not ring
pub advanced-laid : {b : List ℕ} (t : Table) (c first : ℕ) → length t.rest.alarms ≡ 32 → c ≡ t.rest.clock.0 + t.rest.granule → first ≡ first_due t.rest
    → Laid b (with_rest (each rung (32 - first) first (with_clock (record { 0 = c }) t.rest)) t) → Laid b (with_rest (advanced t.rest) t)
unfolding advanced first_due
advanced-laid {b} t c first n ec ef l =
    let r = t.rest in
    let now : Millis = record { 0 = r.clock.0 + r.granule } in
    let p = (ring-on r now r.alarms r.flags n 0 first (omega arith) ef).3 in
    subst (λ (x : Rest). Laid b (with_rest x t)) ((λ j. each rung (32 - first) first (with_clock (record { 0 = ec j }) r)) ∙ sym p) l
