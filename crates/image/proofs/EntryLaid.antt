-- One task's entry changed in an image: its state, a part of its run, one change after another, by its place and by its
-- task's number.
use Prim.Native.Nat.{ℕ, ◌+◌, ◌*◌, ◌<◌}
use mathlib.Core.Path.{◌≡◌, refl, sym, ap, subst, ◌∙◌}
use mathlib.Core.Logic.{◌≢◌}
use mathlib.Core.List.{List}
use native.Mathlib.Omega.{arith}
use borrow.Author.Tests.{ne_eqb}
use lib.Dec.{eqb}
use lib.ListN.{get_or, set}
use lib.Seq.{get_or-set_same, set-get_or, set-set}
use Rattle.records.specs.declared.TaskNo.{TaskNo}
use Rattle.records.specs.Numbers.{bytes_in, number_of, part}
use Rattle.executive.specs.declared.Millis.{Millis}
use Rattle.executive.specs.declared.Request.{Request}
use Rattle.executive.specs.declared.State.{State}
use Rattle.executive.specs.declared.Task.{Task}
use Rattle.executive.specs.declared.Table.{Table}
use Rattle.executive.specs.Entries.{with_state, aimed}
use Rattle.executive.specs.Places.{no_task, task_at, put_at, entry_place}
use Rattle.executive.specs.States.{state_kind, awaited_of}
use Rattle.executive.proofs.Assured.{put_place, put_no-place, at_place}
use Rattle.image.specs.Blocks.{written}
use Rattle.image.specs.Coding.{front_bytes, run_bytes}
use Rattle.image.specs.Laid.{Laid, with_tasks, with_run, with_start, with_waiter}
use Rattle.image.proofs.Parts.{entry-laid, entry-laid_as}
use Rattle.image.proofs.ReadOff.{entry_read}
use Rattle.image.proofs.WakeLaid.{kind-read, time-read}

module _ {s : List ℕ} (t : Table) (l : Laid s t) (i : ℕ) (h : i < 16) where
  abbrev old : Task
  old = get_or t.tasks i no_task

  -- its state, its own priority being written as it was
  pub state-laid : (x : State) (own n : ℕ) {r q : List ℕ} → n ≡ awaited_of x → own ≡ get_or s (i * 26) 0 → r ≡ written s (i * 26) (front_bytes own x) → q ≡ written r (898 + i) (bytes_in 1 n)
      → Laid q (with_tasks (set t.tasks i (with_state x old)) t)
  unfolding written
  state-laid x own n {r} {q} en eo er eq =
      let z : i * 26 + 0 ≡ i * 26 = omega arith in
      let o : own ≡ old.own = eo ∙ ap (λ (k : ℕ). get_or s k 0) (sym z) ∙ entry_read t l i 0 h (omega arith) in
      entry-laid_as t l i (with_state x old) h 0 (front_bytes old.own x) (omega arith) refl
      (er ∙ ap (λ (y : ℕ). written s (i * 26) (front_bytes y x)) o ∙ ap (λ (k : ℕ). written s k (front_bytes old.own x)) (sym z))
      (eq ∙ ap (λ (y : ℕ). written r (898 + i) (bytes_in 1 y)) en)

  -- its run, the whole of it and two of its fields
  pub run-laid : (q : Request) (m : Millis) {r : List ℕ} → r ≡ written s (i * 26 + 14) (run_bytes (with_run q m no_task)) → Laid r (with_tasks (set t.tasks i (with_run q m old)) t)
  unfolding written
  run-laid q m er = entry-laid t l i (with_run q m old) h 14 (run_bytes (with_run q m no_task)) (omega arith) refl refl er

  pub start-laid : (m : Millis) {r : List ℕ} → r ≡ written s (i * 26 + 17) (bytes_in 8 m.0) → Laid r (with_tasks (set t.tasks i (with_start m old)) t)
  unfolding written
  start-laid m er = entry-laid t l i (with_start m old) h 17 (bytes_in 8 m.0) (omega arith) refl refl er

  pub waiter-laid : (w : TaskNo) {r : List ℕ} → r ≡ written s (i * 26 + 25) (bytes_in 1 w.0) → Laid r (with_tasks (set t.tasks i (with_waiter w old)) t)
  unfolding written
  waiter-laid w er = entry-laid t l i (with_waiter w old) h 25 (bytes_in 1 w.0) (omega arith) refl refl er

  -- it stays as it is
  pub same-laid : Laid s (with_tasks (set t.tasks i old) t)
  same-laid = subst (λ (ts : List Task). Laid s (with_tasks ts t)) (sym (set-get_or t.tasks i no_task)) l

  -- another name for it
  pub changed-laid : {x e : Task} {r : List ℕ} → x ≡ e → Laid r (with_tasks (set t.tasks i x) t) → Laid r (with_tasks (set t.tasks i e) t)
  changed-laid {r = r} p m = subst (λ (y : Task). Laid r (with_tasks (set t.tasks i y) t)) p m

  -- one change after another, which was f
  pub then-laid : (e : Task) (f : Task → Task) {r : List ℕ} → Laid r (with_tasks (set (set t.tasks i e) i (f (get_or (set t.tasks i e) i no_task))) t) → Laid r (with_tasks (set t.tasks i (f e)) t)
  then-laid e f {r} m =
      let n = l.sizes.tasks in
      subst (λ (ts : List Task). Laid r (with_tasks ts t)) (set-set t.tasks i e _ ∙ ap (λ (x : Task). set t.tasks i (f x)) (get_or-set_same t.tasks i e no_task (omega arith))) m

  -- the start that a task is aimed at: its kind is that of a due task, or is not
  pub kept-aim : 3 ≢ get_or s (i * 26 + 1) 0 → old ≡ with_start (aimed old.state old.start) old
  kept-aim g = ap (λ (m : Millis). with_start m old) (sym (rw (ne_eqb 3 (state_kind old.state) (λ e. g (e ∙ sym (kind-read t l i h)))) refl))

  pub new-aim : (x : ℕ) → 3 ≡ get_or s (i * 26 + 1) 0 → x ≡ number_of (part 8 (i * 26 + 2) s) → with_start (record { 0 = x }) old ≡ with_start (aimed old.state old.start) old
  new-aim x g e =
      let k : eqb 3 (state_kind old.state) ≡ eqb 3 3 = ap (eqb 3) (sym (g ∙ kind-read t l i h)) in
      ap (λ (m : Millis). with_start m old) (ap (λ (y : ℕ). record { 0 = y }) (e ∙ time-read t l i h) ∙ sym (rw k refl))

-- ---- by its task's number, i being its place
module _ {s : List ℕ} (t : Table) (l : Laid s t) (k i : ℕ) (ei : i ≡ entry_place k) where
  pub put_laid-at : (f : Task → Task) {r : List ℕ} → Laid r (with_tasks (set t.tasks i (f (get_or t.tasks i no_task))) t) → Laid r (with_tasks (put_at t.tasks k (f (task_at t.tasks k))) t)
  put_laid-at f {r} m =
      let e : f (task_at t.tasks k) ≡ f (get_or t.tasks i no_task) = ap f (at_place t.tasks l.sizes.tasks k ∙ ap (λ (j : ℕ). get_or t.tasks j no_task) (sym ei)) in
      rw (e, put_place t.tasks l.sizes.tasks (f (get_or t.tasks i no_task)) k, ← ei) m

  pub put_laid-none : (e : Task) → 15 < i → Laid s (with_tasks (put_at t.tasks k e) t)
  put_laid-none e h = rw (put_no-place t.tasks l.sizes.tasks e k i ei h) l
