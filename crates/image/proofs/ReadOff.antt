-- What is read of an image is what its table has: a place of the queue, a number that stands alone, an alarm, a task.
use Prim.Native.Nat.{ℕ, zero, suc, ◌+◌, ◌*◌, ◌≤◌, ◌<◌}
use mathlib.Core.Path.{◌≡◌, refl, sym, ap, ap₂, ◌∙◌}
use mathlib.Core.List.{List, [], ◌∷◌}
use native.Mathlib.Omega.{arith}
use native.Mathlib.Nat.{add-zero}
use lib.ListN.{get_or}
use Rattle.records.specs.Numbers.{number_of, part, cut, total}
use Rattle.records.proofs.Numbers.{number-back}
use Rattle.executive.specs.declared.Task.{Task}
use Rattle.executive.specs.declared.Table.{Table}
use Rattle.executive.specs.Places.{nobody, never, no_task, task_at, entry_place}
use Rattle.executive.specs.States.{state_kind, time_of, mask_of, awaited_of}
use Rattle.executive.proofs.Assured.{at_place, at-no-place}
use Rattle.image.specs.Blocks.{row}
use Rattle.image.specs.Image.{task_bytes, place_bytes, head_bytes, alarm_bytes, awaited_bytes, task_widths, awaited_widths, task_numbers, awaited_numbers, task_of, task_from}
use Rattle.image.specs.Laid.{Laid}
use Rattle.image.proofs.Spans.{Wide, each_all}
use Rattle.image.proofs.Trips.{task-back}
use Rattle.image.proofs.Joined.{row_read}
use Rattle.image.proofs.Parts.{read-laid}

-- ---- two runs that agree byte by byte are the same numbers
pub part_agree : (n a c : ℕ) (s r : List ℕ) → ((j : ℕ) → j < n → get_or s (a + j) 0 ≡ get_or r (c + j) 0) → part n a s ≡ part n c r
part_agree zero a c s r h = refl
part_agree (suc n) a c s r h =
    let e : get_or s a 0 ≡ get_or r c 0 = rw (add-zero a, add-zero c) at (h 0 (omega arith)) in
    let t : part n (suc a) s ≡ part n (suc c) r =
    part_agree n (suc a) (suc c) s r
    (λ j g.
    let y : suc a + j ≡ a + suc j = omega arith in
    let z : suc c + j ≡ c + suc j = omega arith in
    rw (y, z) (h (suc j) (omega arith))) in
    λ i. e i ∷ t i

pub cut_agree : (ws : List ℕ) (a c : ℕ) (s r : List ℕ) → ((j : ℕ) → j < total ws → get_or s (a + j) 0 ≡ get_or r (c + j) 0) → cut ws a s ≡ cut ws c r
cut_agree [] a c s r h = refl
cut_agree (w ∷ ws) a c s r h =
    let e : part w a s ≡ part w c r = part_agree w a c s r (λ j g. h j (omega arith)) in
    let t : cut ws (a + w) s ≡ cut ws (c + w) r =
    cut_agree ws (a + w) (c + w) s r
    (λ j g.
    let y : a + w + j ≡ a + (w + j) = omega arith in
    let z : c + w + j ≡ c + (w + j) = omega arith in
    rw (y, z) (h (w + j) (omega arith))) in
    λ i. number_of (e i) ∷ t i

module _ {s : List ℕ} (t : Table) (l : Laid s t) where
  -- ---- the queue, and the numbers that stand alone
  pub place_read : (i : ℕ) → i < 16 → get_or s (416 + i) 0 ≡ (get_or t.queue i nobody).0
  place_read i h =
      let n = l.sizes.queue in
      let z : i ≡ i * 1 + 0 = omega arith in
      read-laid 1 t l i (omega arith) h
      ∙ ap (λ k. get_or (row place_bytes t.queue) k 0) z
      ∙ row_read place_bytes 1 t.queue (each_all (Wide place_bytes 1) (λ x. refl) t.queue) i nobody 0 (omega arith) (omega arith)

  pub ready_read : get_or s 432 0 ≡ t.ready
  ready_read = read-laid 2 t l 0 (omega arith) (omega arith)

  pub granule-read : get_or s 434 0 ≡ t.rest.granule
  granule-read = read-laid 2 t l 2 (omega arith) (omega arith)

  pub queued-read : get_or s 435 0 ≡ t.rest.queued
  queued-read = read-laid 2 t l 3 (omega arith) (omega arith)

  pub sent-read : get_or s 1410 0 ≡ t.rest.sent
  sent-read = read-laid 9 t l 0 (omega arith) (omega arith)

  pub levels-read : number_of (part 2 896 s) ≡ t.levels
  levels-read =
      ap₂ (λ (x y : ℕ). number_of (x ∷ y ∷ [])) (read-laid 5 t l 0 (omega arith) (omega arith)) (read-laid 5 t l 1 (omega arith) (omega arith)) ∙ number-back 1 t.levels

  head-part : (n at : ℕ) → at + n ≤ 16 → part n (432 + at) s ≡ part n at (head_bytes t)
  head-part n at h =
      part_agree n (432 + at) at s (head_bytes t)
      (λ j g. let z : 432 + at + j ≡ 432 + (at + j) = omega arith in ap (λ k. get_or s k 0) z ∙ read-laid 2 t l (at + j) (omega arith) (omega arith))

  pub clock-read : number_of (part 8 436 s) ≡ t.rest.clock.0
  clock-read = ap number_of (head-part 8 4 (omega arith)) ∙ number-back 7 t.rest.clock.0

  pub flags-read : number_of (part 4 444 s) ≡ t.rest.flags
  flags-read = ap number_of (head-part 4 12 (omega arith)) ∙ number-back 3 t.rest.flags

  pub alarm-read : (i : ℕ) → i < 32 → number_of (part 8 (448 + i * 8) s) ≡ (get_or t.rest.alarms i never).0
  alarm-read i h =
      let n = l.sizes.alarms in
      let a = get_or t.rest.alarms i never in
      let e : part 8 (448 + i * 8) s ≡ part 8 0 (alarm_bytes a) =
      part_agree 8 (448 + i * 8) 0 s (alarm_bytes a)
      (λ j g.
      let z : 448 + i * 8 + j ≡ 448 + (i * 8 + j) = omega arith in
      let y : 0 + j ≡ j = omega arith in
      ap (λ k. get_or s k 0) z
      ∙ read-laid 3 t l (i * 8 + j) (omega arith) (omega arith)
      ∙ row_read alarm_bytes 8 t.rest.alarms (each_all (Wide alarm_bytes 8) (λ x. refl) t.rest.alarms) i never j (omega arith) g
      ∙ ap (λ k. get_or (alarm_bytes a) k 0) (sym y)) in
      ap number_of e ∙ number-back 7 a.0

  -- ---- a task
  pub entry_read : (i at : ℕ) → i < 16 → at < 26 → get_or s (i * 26 + at) 0 ≡ get_or (task_bytes (get_or t.tasks i no_task)) at 0
  entry_read i at h g =
      let n = l.sizes.tasks in
      let z : i * 26 + at ≡ 0 + (i * 26 + at) = omega arith in
      ap (λ k. get_or s k 0) z
      ∙ read-laid 0 t l (i * 26 + at) (omega arith) (omega arith)
      ∙ row_read task_bytes 26 t.tasks (each_all (Wide task_bytes 26) (λ x. refl) t.tasks) i no_task at (omega arith) g

  pub entry-part : (n at i : ℕ) → i < 16 → at + n ≤ 26 → part n (i * 26 + at) s ≡ part n at (task_bytes (get_or t.tasks i no_task))
  entry-part n at i h g =
      part_agree n (i * 26 + at) at s (task_bytes (get_or t.tasks i no_task))
      (λ j k. let z : i * 26 + at + j ≡ i * 26 + (at + j) = omega arith in ap (λ (m : ℕ). get_or s m 0) z ∙ entry_read i (at + j) h (omega arith))

  awaited-read : (i : ℕ) → i < 16 → get_or s (898 + i) 0 ≡ awaited_of (get_or t.tasks i no_task).state
  awaited-read i h =
      let n = l.sizes.tasks in
      let z : i ≡ i * 1 + 0 = omega arith in
      read-laid 6 t l i (omega arith) h
      ∙ ap (λ k. get_or (row awaited_bytes t.tasks) k 0) z
      ∙ row_read awaited_bytes 1 t.tasks (each_all (Wide awaited_bytes 1) (λ x. refl) t.tasks) i no_task 0 (omega arith) (omega arith)

  cut-back : (e : Task) → cut task_widths 0 (task_bytes e) ≡ task_numbers e
  cut-back e =
      λ j. e.own ∷ state_kind e.state ∷ number-back 7 (time_of e.state).0 j ∷ number-back 3 (mask_of e.state) j ∷ e.priority ∷ number-back 1 e.argument j ∷ number-back 7 e.start.0 j ∷ e.end_waiter.0 ∷ []

  pub task-read : (i : ℕ) → i < 16 → task_from s i ≡ get_or t.tasks i no_task
  task-read i h =
      let e = get_or t.tasks i no_task in
      let a : cut task_widths (i * 26) s ≡ task_numbers e =
      cut_agree task_widths (i * 26) 0 s (task_bytes e) (λ j g. let y : 0 + j ≡ j = omega arith in entry_read i j h g ∙ ap (λ k. get_or (task_bytes e) k 0) (sym y)) ∙ cut-back e in
      let b : cut awaited_widths (898 + i) s ≡ awaited_numbers e = ap (λ (x : ℕ). x ∷ []) (awaited-read i h) in
      ap₂ task_of a b ∙ task-back e

  -- by its number, k being its place
  module _ (n k : ℕ) (e : k ≡ entry_place n) where
    at_entry : task_at t.tasks n ≡ get_or t.tasks k no_task
    at_entry = at_place t.tasks l.sizes.tasks n ∙ ap (λ i. get_or t.tasks i no_task) (sym e)

    pub entry_of : k < 16 → task_from s k ≡ task_at t.tasks n
    entry_of h = task-read k h ∙ sym at_entry

    pub entry-none : 15 < k → no_task ≡ task_at t.tasks n
    entry-none h = sym (at-no-place t.tasks l.sizes.tasks n k e h)

    pub level-of : k < 16 → get_or s (k * 26 + 14) 0 ≡ (task_at t.tasks n).priority
    level-of h = entry_read k 14 h (omega arith) ∙ ap (λ (x : Task). x.priority) (sym at_entry)

    pub argument-of : k < 16 → number_of (part 2 (k * 26 + 15) s) ≡ (task_at t.tasks n).argument
    argument-of h = ap number_of (entry-part 2 15 k h (omega arith)) ∙ number-back 1 (get_or t.tasks k no_task).argument ∙ ap (λ (x : Task). x.argument) (sym at_entry)

    pub start_of : k < 16 → number_of (part 8 (k * 26 + 17) s) ≡ (task_at t.tasks n).start.0
    start_of h = ap number_of (entry-part 8 17 k h (omega arith)) ∙ number-back 7 (get_or t.tasks k no_task).start.0 ∙ ap (λ (x : Task). x.start.0) (sym at_entry)

    pub waiter-of : k < 16 → get_or s (k * 26 + 25) 0 ≡ (task_at t.tasks n).end_waiter.0
    waiter-of h = entry_read k 25 h (omega arith) ∙ ap (λ (x : Task). x.end_waiter.0) (sym at_entry)

    pub level-none : 15 < k → 0 ≡ (task_at t.tasks n).priority
    level-none h = ap (λ (x : Task). x.priority) (entry-none h)
