-- What is read at a place of any bytes is what the table has that they load to; and the loops of the check, which hold
-- each element of a loaded list to a test as it is read.
use Prim.Native.Nat.{ℕ, zero, suc, ◌+◌, ◌*◌, ◌≤◌, ◌<◌, zero-le}
use mathlib.Core.Path.{◌≡◌, refl, sym, ap, ◌∙◌}
use mathlib.Core.Bool.{Bool, true, false}
use mathlib.Core.List.{List}
use native.Mathlib.Omega.{arith}
use borrow.Author.Tests.{lt-ltb}
use lib.ListN.{length, take, drop, get_or}
use Rattle.records.specs.declared.TaskNo.{TaskNo}
use Rattle.records.specs.Numbers.{number_of, part}
use Rattle.executive.specs.declared.Millis.{Millis}
use Rattle.executive.specs.declared.State.{State}
use Rattle.executive.specs.declared.Task.{Task}
use Rattle.executive.specs.declared.Sub.{Sub}
use Rattle.executive.specs.Lists.{all_of}
use Rattle.executive.specs.Places.{nobody, never, no_task, no_request, task_at, entry_place}
use Rattle.executive.specs.States.{state_kind, state_of}
use Rattle.executive.specs.Subprograms.{no_subprogram}
use Rattle.executive.specs.Messages.{no_message, no_mail}
use Rattle.executive.proofs.Assured.{every-turn, every-not, every-end, first-turn, first-not, first-end, at_place}
use Rattle.image.specs.Image.{task_from, place_from, line_from, alarm_from, request_from, sub_from, message_from, mail_from, load_of, no_kind, state_in}
use Rattle.image.proofs.Spans.{length-blocks, block_at}

-- ---- the arrays of any bytes: their lengths, and what stands at a place of them; p is where it is read
module _ (s : List ℕ) where
  pub tasks-size : length (load_of s).tasks ≡ 16
  unfolding load_of
  tasks-size = length-blocks (task_from s) 1 16 0

  pub queue-size : length (load_of s).queue ≡ 16
  unfolding load_of
  queue-size = length-blocks (place_from s) 1 16 416

  pub alarms-size : length (load_of s).rest.alarms ≡ 32
  unfolding load_of
  alarms-size = length-blocks (alarm_from s) 8 32 448

  pub pool-size : length (load_of s).rest.pool ≡ 32
  unfolding load_of
  pool-size = length-blocks (request_from s) 6 32 704

  pub subs-size : length (load_of s).rest.subs ≡ 8
  unfolding load_of
  subs-size = length-blocks (sub_from s) 18 8 914

  pub messages-size : length (load_of s).rest.messages ≡ 32
  unfolding load_of
  messages-size = length-blocks (message_from s) 11 32 1058

  pub mail-size : length (load_of s).rest.mail ≡ 16
  unfolding load_of
  mail-size = length-blocks (mail_from s) 9 16 1411

  pub line-size : (at : ℕ) → length (line_from s at) ≡ 16
  line-size at = length-blocks (place_from s) 1 16 at

  module _ (i : ℕ) where
    pub task-there : i < 16 → task_from s i ≡ get_or (load_of s).tasks i no_task
    unfolding load_of
    task-there h = let z : 0 + i * 1 ≡ i = omega arith in sym (block_at (task_from s) 1 16 0 i no_task h ∙ ap (task_from s) z)

    pub alarm-there : (p : ℕ) → i < 32 → p ≡ 448 + i * 8 → alarm_from s p ≡ get_or (load_of s).rest.alarms i never
    unfolding load_of
    alarm-there p h e = sym (block_at (alarm_from s) 8 32 448 i never h ∙ ap (alarm_from s) (sym e))

    pub request_there : (p : ℕ) → i < 32 → p ≡ 704 + i * 6 → request_from s p ≡ get_or (load_of s).rest.pool i no_request
    unfolding load_of
    request_there p h e = sym (block_at (request_from s) 6 32 704 i no_request h ∙ ap (request_from s) (sym e))

    pub sub-there : (p : ℕ) → i < 8 → p ≡ 914 + i * 18 → sub_from s p ≡ get_or (load_of s).rest.subs i no_subprogram
    unfolding load_of
    sub-there p h e = sym (block_at (sub_from s) 18 8 914 i no_subprogram h ∙ ap (sub_from s) (sym e))

    pub message_there : (p : ℕ) → i < 32 → p ≡ 1058 + i * 11 → message_from s p ≡ get_or (load_of s).rest.messages i no_message
    unfolding load_of
    message_there p h e = sym (block_at (message_from s) 11 32 1058 i no_message h ∙ ap (message_from s) (sym e))

    pub mail-there : (p : ℕ) → i < 16 → p ≡ 1411 + i * 9 → mail_from s p ≡ get_or (load_of s).rest.mail i no_mail
    unfolding load_of
    mail-there p h e = sym (block_at (mail_from s) 9 16 1411 i no_mail h ∙ ap (mail_from s) (sym e))

    -- a place of any line, as of a subprogram's
    in_line : (at p : ℕ) → i < 16 → p ≡ at + i → place_from s p ≡ get_or (line_from s at) i nobody
    in_line at p h e = let z : at + i * 1 ≡ p = omega arith in sym (block_at (place_from s) 1 16 at i nobody h ∙ ap (place_from s) z)

    -- the same by what was read, the number x at p: of an alarm, and of a place of a line
    -- and the place of the task who stands there
    pub placed-there : (at k : ℕ) → i < 16 → k ≡ entry_place (get_or s (at + i) 0) → k ≡ entry_place (get_or (line_from s at) i nobody).0
    placed-there at k h e = e ∙ ap (λ (x : TaskNo). entry_place x.0) (in_line at (at + i) h refl)

  -- a task's entry by its number n, k being its place
  pub entry-there : (n k : ℕ) → k ≡ entry_place n → k < 16 → task_from s k ≡ task_at (load_of s).tasks n
  entry-there n k e h = task-there k h ∙ sym (at_place (load_of s).tasks tasks-size n ∙ ap (λ i. get_or (load_of s).tasks i no_task) (sym e))

  -- the line of subprogram m
  pub sub-line : (m : ℕ) → m < 8 → (get_or (load_of s).rest.subs m no_subprogram).line ≡ line_from s (914 + m * 18 + 2)
  sub-line m h = ap (λ (x : Sub). x.line) (sym (sub-there m (914 + m * 18) h refl))

  -- the numbers that stand alone
  pub ready-there : get_or s 432 0 ≡ (load_of s).ready
  unfolding load_of
  ready-there = refl

  pub count-there : get_or s 433 0 ≡ (load_of s).rest.count
  unfolding load_of
  count-there = refl

  pub granule-there : get_or s 434 0 ≡ (load_of s).rest.granule
  unfolding load_of
  granule-there = refl

  pub queued-there : get_or s 435 0 ≡ (load_of s).rest.queued
  unfolding load_of
  queued-there = refl

  pub clock-there : number_of (part 8 436 s) ≡ (load_of s).rest.clock.0
  unfolding load_of
  clock-there = refl

  pub flags-there : number_of (part 4 444 s) ≡ (load_of s).rest.flags
  unfolding load_of
  flags-there = refl

  pub sent-there : get_or s 1410 0 ≡ (load_of s).rest.sent
  unfolding load_of
  sent-there = refl

-- ---- the state of a task, by its kind's byte
-- a byte that is a kind, and one that is none
pub kind-some : (k : ℕ) (t : Millis) (m a : ℕ) → k ≤ 9 → state_kind (state_in k t m a) ≡ k
unfolding state_in state_of
kind-some zero t m a h = refl
kind-some (suc zero) t m a h = refl
kind-some (suc (suc zero)) t m a h = refl
kind-some (suc (suc (suc zero))) t m a h = refl
kind-some (suc (suc (suc (suc zero)))) t m a h = refl
kind-some (suc (suc (suc (suc (suc zero))))) t m a h = refl
kind-some (suc (suc (suc (suc (suc (suc zero)))))) t m a h = refl
kind-some (suc (suc (suc (suc (suc (suc (suc zero))))))) t m a h = refl
kind-some (suc (suc (suc (suc (suc (suc (suc (suc zero)))))))) t m a h = refl
kind-some (suc (suc (suc (suc (suc (suc (suc (suc (suc zero))))))))) t m a h = refl
kind-some (suc (suc (suc (suc (suc (suc (suc (suc (suc (suc k)))))))))) t m a h = absurd (omega arith)

-- a number that is none of the kinds, each of which a `match` has met before
next : (n k : ℕ) → n ≤ k → (k ≡ n → ⊥) → n + 1 ≤ k
next n k h e = omega arith

module _ (k : ℕ) (e0 : k ≡ 0 → ⊥) (e1 : k ≡ 1 → ⊥) (e2 : k ≡ 2 → ⊥) (e3 : k ≡ 3 → ⊥) (e4 : k ≡ 4 → ⊥) where
  past-four : 5 ≤ k
  past-four = next 4 k (next 3 k (next 2 k (next 1 k (next 0 k zero-le e0) e1) e2) e3) e4

  pub past-kinds : (k ≡ 5 → ⊥) → (k ≡ 6 → ⊥) → (k ≡ 7 → ⊥) → (k ≡ 8 → ⊥) → (k ≡ 9 → ⊥) → 9 < k
  past-kinds e5 e6 e7 e8 e9 = let l = next 9 k (next 8 k (next 7 k (next 6 k (next 5 k past-four e5) e6) e7) e8) e9 in omega arith

pub no_kind_lem : (k : ℕ) (t : Millis) (m a : ℕ) → 9 < k → state_in k t m a ≡ no_kind
unfolding state_in
no_kind_lem k t m a h = rw (lt-ltb 9 k h) refl

module _ (s : List ℕ) (i : ℕ) (h : i < 16) where
  abbrev told : State
  told = (get_or (load_of s).tasks i no_task).state

  same-state : told ≡ (task_from s i).state
  same-state = ap (λ (e : Task). e.state) (sym (task-there s i h))

  module _ (k : ℕ) (e : k ≡ get_or s (i * 26 + 1) 0) where
    pub kind-there : k ≤ 9 → k ≡ state_kind told
    kind-there l = sym (ap state_kind same-state ∙ rw (← e) (kind-some k _ _ _ l))

  -- its priority
  pub level-there : (p : ℕ) → p ≡ i * 26 + 14 → get_or s p 0 ≡ (get_or (load_of s).tasks i no_task).priority
  level-there p e = let z : p ≡ i * 26 + 1 + 1 + 8 + 4 = omega arith in ap (λ (x : ℕ). get_or s x 0) z ∙ ap (λ (e : Task). e.priority) (task-there s i h)

-- ---- the loops: the elements of xs, of which there are m, are held to a test; x is the one that was read at place i, and
-- d what a place past the end reads as
module _ {A : Type 0} (f : A → Bool) (d : A) (xs : List A) (m : ℕ) (l : length xs ≡ m) (i : ℕ) where
  -- all of them, or all from a place on
  pub read-turn : (x : A) → i < m → x ≡ get_or xs i d → f x ≡ true → all_of f (drop (i + 1) xs) ≡ all_of f (drop i xs)
  read-turn x h e t = every-turn f d xs i (omega arith) (ap f (sym e) ∙ t)

  pub read-not : (x : A) → i < m → x ≡ get_or xs i d → f x ≡ false → all_of f (drop i xs) ≡ false
  read-not x h e t = every-not f d xs i (omega arith) (ap f (sym e) ∙ t)

  pub read-end : m ≤ i → all_of f (drop i xs) ≡ true
  read-end h = every-end f d xs i (omega arith)

  -- the first n of them
  module _ (n : ℕ) (hn : n ≤ m) where
    pub read-first-turn : (x : A) → i < n → x ≡ get_or xs i d → f x ≡ true → all_of f (drop (i + 1) (take n xs)) ≡ all_of f (drop i (take n xs))
    read-first-turn x h e t = first-turn f d xs n (omega arith) i h (ap f (sym e) ∙ t)

    pub read-first-not : (x : A) → i < n → x ≡ get_or xs i d → f x ≡ false → all_of f (drop i (take n xs)) ≡ false
    read-first-not x h e t = first-not f d xs n (omega arith) i h (ap f (sym e) ∙ t)

    pub read-first-end : n ≤ i → all_of f (drop i (take n xs)) ≡ true
    read-first-end h = first-end f d xs n (omega arith) i h
