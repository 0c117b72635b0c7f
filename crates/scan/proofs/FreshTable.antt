-- The fresh table: its numbers rise with the tasks' own, and its queue is in that order; so the two engines begin alike.
use Prim.Native.Nat.{ℕ, zero, suc, ◌+◌, ◌≤◌, ◌<◌, zero-le}
use mathlib.Core.Path.{◌≡◌, refl, sym, ap, subst, ◌∙◌}
use mathlib.Core.Bool.{Bool, true, false, cond}
use mathlib.Core.List.{List, [], ◌∷◌}
use native.Mathlib.Omega.{arith}
use borrow.Author.Tests.{leb-true, leb-false, ltb-true, ltb-false}
use lib.Dec.{leb, ltb, eqb}
use lib.ListN.{length, get_or}
use Rattle.records.specs.declared.TaskNo.{TaskNo}
use Rattle.records.specs.Numbers.{Bytes}
use Rattle.executive.specs.declared.Answer.{Answer}
use Rattle.executive.specs.declared.Task.{Task}
use Rattle.executive.specs.declared.Table.{Table}
use Rattle.executive.specs.declared.Fresh.{Fresh}
use Rattle.executive.specs.Lists.{one, sum_of, pad}
use Rattle.executive.specs.Numbers.{most_tasks}
use Rattle.executive.specs.Places.{task_at, times_in}
use Rattle.executive.specs.Queue.{Item, behind, insert, inserts}
use Rattle.executive.specs.States.{ready, is_of, is}
use Rattle.executive.specs.Table.{line, items, view}
use Rattle.executive.specs.WellFormed.{WellFormed}
use Rattle.executive.specs.Check.{queue_right, numbers_right, all_but_queue}
use Rattle.executive.specs.Deciding.{decision_for}
use Rattle.executive.specs.Step.{refused, step_of, no_table}
use Rattle.executive.specs.Configuration.{is_configuration, zero_table, blank_rest, fresh_table, fresh_of}
use Rattle.executive.specs.Promises.ByDecision.{enacted}
use Rattle.executive.specs.Promises.FreshLaw.{marked}
use Rattle.executive.specs.Promises.FreshLaw as law
use Rattle.executive.specs.Promises.Demands.{AllBytes}
use Rattle.executive.proofs.Assured as executive
use Rattle.scan.specs.declared.Entry.{Entry}
use Rattle.scan.specs.declared.Scanned.{Scanned}
use Rattle.scan.specs.Entries.{entry, no_entry, tasks_in, entry_at, is_ready, count_of}
use Rattle.scan.specs.Choosing.{IsReady, arrival_in}
use Rattle.scan.specs.Sound.{Arrivals, SoundScan, arrivals_right}
use Rattle.scan.specs.Step.{refused_scan, enacted_scan, scan_of}
use Rattle.scan.specs.Making.{numbered_from, numbered, made_of}
use Rattle.scan.specs.Queued.{queued}
use Rattle.scan.specs.Promises.{answers_scan, answers_of}
use Rattle.scan.proofs.Basics.{never, decide, one-small, one_true, sum-most}
use Rattle.scan.proofs.Places.{tasks-at, tasks-length}
use Rattle.scan.proofs.Order.{AllAfter, Sorted, head_in, tail_in}
use Rattle.scan.proofs.Numbering.{count-once}
use Rattle.scan.proofs.Alike.{Alike}
use Rattle.scan.proofs.Stepping.{count-items, sound-of, alike_is, decision_broken}
use Rattle.scan.proofs.Histories.{goes}

-- ---- the numbers given: after n, rising, as many as are ready; the others bear 0
tasks-numbered : (ts : List Task) (n : ℕ) → tasks_in (numbered_from n ts) ≡ ts
unfolding numbered_from
tasks-numbered [] n = refl
tasks-numbered (t ∷ ts) n = decide (is_of ready t.state)
    (λ z. rw z (ap (λ (l : List Task). t ∷ l) (tasks-numbered ts (suc n))))
    (λ z. rw z (ap (λ (l : List Task). t ∷ l) (tasks-numbered ts n)))

abbrev at : ℕ → List Task → ℕ → Entry
at n ts i = get_or (numbered_from n ts) i no_entry

after-start : (ts : List Task) (n i : ℕ) → is_ready (at n ts i) ≡ true → n < (at n ts i).arrival
unfolding numbered_from
after-start [] n i r = never r
after-start (t ∷ ts) n i r = go (λ m i. after-start ts m i) (is_of ready t.state) refl i r
  where
    go : ((m i : ℕ) → is_ready (at m ts i) ≡ true → m < (at m ts i).arrival) → (b : Bool) → is_of ready t.state ≡ b → (i : ℕ)
        → is_ready (get_or (cond b (entry t (suc n) ∷ numbered_from (suc n) ts) (entry t 0 ∷ numbered_from n ts)) i no_entry) ≡ true
        → n < (get_or (cond b (entry t (suc n) ∷ numbered_from (suc n) ts) (entry t 0 ∷ numbered_from n ts)) i no_entry).arrival
    go ih true z zero r = omega arith
    go ih true z (suc i) r = omega (arith, ih (suc n) i r)
    go ih false z zero r = never (sym z ∙ r)
    go ih false z (suc i) r = ih n i r

unready-nought : (ts : List Task) (n i : ℕ) → is_ready (at n ts i) ≡ false → (at n ts i).arrival ≡ 0
unfolding numbered_from
unready-nought [] n i r = refl
unready-nought (t ∷ ts) n i r = go (λ m i. unready-nought ts m i) (is_of ready t.state) refl i r
  where
    go : ((m i : ℕ) → is_ready (at m ts i) ≡ false → (at m ts i).arrival ≡ 0) → (b : Bool) → is_of ready t.state ≡ b → (i : ℕ)
        → is_ready (get_or (cond b (entry t (suc n) ∷ numbered_from (suc n) ts) (entry t 0 ∷ numbered_from n ts)) i no_entry) ≡ false
        → (get_or (cond b (entry t (suc n) ∷ numbered_from (suc n) ts) (entry t 0 ∷ numbered_from n ts)) i no_entry).arrival ≡ 0
    go ih true z zero r = never (sym r ∙ z)
    go ih true z (suc i) r = ih (suc n) i r
    go ih false z zero r = refl
    go ih false z (suc i) r = ih n i r

up-to-count : (ts : List Task) (n i : ℕ) → (at n ts i).arrival ≤ n + count_of is_ready (numbered_from n ts)
unfolding numbered_from sum_of
up-to-count [] n i = zero-le
up-to-count (t ∷ ts) n i = go (λ m i. up-to-count ts m i) (is_of ready t.state) refl i
  where
    go : ((m i : ℕ) → (at m ts i).arrival ≤ m + count_of is_ready (numbered_from m ts)) → (b : Bool) → is_of ready t.state ≡ b → (i : ℕ)
        → (get_or (cond b (entry t (suc n) ∷ numbered_from (suc n) ts) (entry t 0 ∷ numbered_from n ts)) i no_entry).arrival
        ≤ n + count_of is_ready (cond b (entry t (suc n) ∷ numbered_from (suc n) ts) (entry t 0 ∷ numbered_from n ts))
    go ih true z zero = omega (arith, ap one z)
    go ih true z (suc i) = omega (arith, ap one z, ih (suc n) i)
    go ih false z zero = zero-le
    go ih false z (suc i) = omega (arith, ap one z, ih n i)

rising-at : (ts : List Task) (n i j : ℕ) → is_ready (at n ts i) ≡ true → is_ready (at n ts j) ≡ true → i < j → (at n ts i).arrival < (at n ts j).arrival
unfolding numbered_from
rising-at [] n i j p q h = never p
rising-at (t ∷ ts) n i j p q h = go (λ m i j. rising-at ts m i j) (is_of ready t.state) refl i j p q h
  where
    go : ((m i j : ℕ) → is_ready (at m ts i) ≡ true → is_ready (at m ts j) ≡ true → i < j → (at m ts i).arrival < (at m ts j).arrival) → (b : Bool) → is_of ready t.state ≡ b → (i j : ℕ)
        → is_ready (get_or (cond b (entry t (suc n) ∷ numbered_from (suc n) ts) (entry t 0 ∷ numbered_from n ts)) i no_entry) ≡ true
        → is_ready (get_or (cond b (entry t (suc n) ∷ numbered_from (suc n) ts) (entry t 0 ∷ numbered_from n ts)) j no_entry) ≡ true → i < j
        → (get_or (cond b (entry t (suc n) ∷ numbered_from (suc n) ts) (entry t 0 ∷ numbered_from n ts)) i no_entry).arrival
        < (get_or (cond b (entry t (suc n) ∷ numbered_from (suc n) ts) (entry t 0 ∷ numbered_from n ts)) j no_entry).arrival
    go ih b z i zero p q h = absurd (omega arith)
    go ih true z zero (suc j) p q h = after-start ts (suc n) j q
    go ih true z (suc i) (suc j) p q h = ih (suc n) i j p q (omega arith)
    go ih false z zero (suc j) p q h = never (sym z ∙ p)
    go ih false z (suc i) (suc j) p q h = ih n i j p q (omega arith)

module _ (ts : List Task) where
  abbrev es : List Entry
  es = numbered_from 0 ts

  rising : (i j : ℕ) → IsReady es i → IsReady es j → i < j → arrival_in es i < arrival_in es j
  unfolding entry_at
  rising zero j p q h = never p
  rising (suc i) zero p q h = never q
  rising (suc i) (suc j) p q h = rising-at ts 0 i j p q (omega arith)

  some : (k : ℕ) → IsReady es k → 0 < arrival_in es k
  unfolding entry_at
  some zero r = never r
  some (suc i) r = after-start ts 0 i r

  given : (k : ℕ) → arrival_in es k ≤ count_of is_ready es
  unfolding entry_at
  given zero = zero-le
  given (suc i) = omega (arith, up-to-count ts 0 i)

  others : (k : ℕ) → is_ready (entry_at es k) ≡ false → arrival_in es k ≡ 0
  unfolding entry_at
  others zero r = refl
  others (suc i) r = unready-nought ts 0 i r

  bearer : (n i : ℕ) → 0 < n → (at 0 ts i).arrival ≡ n → is_ready (at 0 ts i) ≡ true
  bearer n i h z = decide (is_ready (at 0 ts i)) (λ r. r) (λ r. absurd (omega (arith, unready-nought ts 0 i r, z, h)))

  same : (n : ℕ) → 0 < n → (i j : ℕ) → (at 0 ts i).arrival ≡ n → (at 0 ts j).arrival ≡ n → i ≡ j
  same n h i j p q =
      let x = bearer n i h p in let y = bearer n j h q in
      decide (ltb i j) (λ z. absurd (omega (arith, rising-at ts 0 i j x y (ltb-true i j z), p, q)))
      (λ z. decide (ltb j i) (λ w. absurd (omega (arith, rising-at ts 0 j i y x (ltb-true j i w), p, q)))
      (λ w. omega (arith, ltb-false i j z, ltb-false j i w)))

numbers : (t : Table) → length t.tasks ≡ 16 → Arrivals (numbered t)
numbers t l = record {
  last = omega (arith, sum-most (λ (x : Entry). one (is_ready x)) (λ x. one-small (is_ready x)) (numbered_from 0 t.tasks), tasks-length (numbered_from 0 t.tasks), ap length (tasks-numbered t.tasks 0), l);
  some = some t.tasks;
  given = given t.tasks;
  once = λ n h. count-once n (numbered_from 0 t.tasks) h (same t.tasks n h);
  others = others t.tasks;
}

-- ---- the queue: descending priority, and of equals ascending number
abbrev AllLater : Item → List Item → Type 0
AllLater x [] = Unit {0}
AllLater x (y ∷ ys) = ((y.prio ≤ x.prio) × (y.prio ≡ x.prio → x.task < y.task)) × AllLater x ys

abbrev InTurn : List Item → Type 0
InTurn [] = Unit {0}
InTurn (x ∷ xs) = AllLater x xs × InTurn xs

abbrev AllUnder : ℕ → List Item → Type 0
AllUnder k [] = Unit {0}
AllUnder k (x ∷ xs) = (x.task < k) × AllUnder k xs

under_more : (k : ℕ) (q : List Item) → AllUnder k q → AllUnder (suc k) q
under_more k [] u = tt
under_more k (x ∷ xs) u = (omega (arith, u.0), under_more k xs u.1)

under-insert : (k : ℕ) (x : Item) (q : List Item) → x.task < k → AllUnder k q → AllUnder k (insert x q)
unfolding insert
under-insert k x [] h u = (h, tt)
under-insert k x (y ∷ ys) h u = decide (behind x.prio y.prio)
    (λ z. rw z (u.0, under-insert k x ys h u.1))
    (λ z. rw z (h, u))

later-insert : (y x : Item) (q : List Item) → x.prio ≤ y.prio → y.task < x.task → AllLater y q → AllLater y (insert x q)
unfolding insert
later-insert y x [] h l a = ((h, λ z. l), tt)
later-insert y x (w ∷ ws) h l a = decide (behind x.prio w.prio)
    (λ z. rw z (a.0, later-insert y x ws h l a.1))
    (λ z. rw z ((h, λ e. l), a))

later-lower : (y x : Item) (q : List Item) → y.prio < x.prio → AllLater y q → AllLater x q
later-lower y x [] h a = tt
later-lower y x (w ∷ ws) h a = ((omega (arith, h, a.0.0), λ z. absurd (omega (arith, h, a.0.0, z))), later-lower y x ws h a.1)

turn-insert : (x : Item) (q : List Item) → AllUnder x.task q → InTurn q → InTurn (insert x q)
unfolding insert behind
turn-insert x [] u t = (tt, tt)
turn-insert x (y ∷ ys) u t = decide (leb x.prio y.prio)
    (λ z. rw z (later-insert y x ys (leb-true x.prio y.prio z) u.0 t.0, turn-insert x ys u.1 t.1))
    (λ z. let l : y.prio < x.prio = leb-false x.prio y.prio z in
    rw z (((omega (arith, l), λ e. absurd (omega (arith, l, e))), later-lower y x ys l t.0), t))

marked_turn : (cs : List law.Entry) (k : ℕ) (q : List Item) → AllUnder k q → InTurn q → InTurn (inserts (marked k cs) q)
unfolding marked inserts
marked_turn [] k q u t = t
marked_turn (c ∷ cs) k q u t = decide (eqb c.mark 1)
    (λ z. let x : Item = record { task = k; prio = c.own } in
    rw z (marked_turn cs (suc k) (insert x q) (under-insert (suc k) x q (omega arith) (under_more k q u)) (turn-insert x q u t)))
    (λ z. rw z (marked_turn cs (suc k) q (under_more k q u) t))

-- in turn is in the order of choosing
module _ (ts : List Task) where
  abbrev fs : List Entry
  fs = numbered_from 0 ts

  task-of : (k : ℕ) → task_at ts k ≡ (entry_at fs k).task
  task-of k = ap (λ (l : List Task). task_at l k) (sym (tasks-numbered ts 0)) ∙ tasks-at fs k

  turn-after : (k : TaskNo) (r : List TaskNo) → IsReady fs k.0 → ((j : ℕ) → 0 < times_in j r → IsReady fs j)
      → AllLater (record { task = k.0; prio = (task_at ts k.0).priority }) (items ts r) → AllAfter fs (entry_at fs k.0) r
  unfolding items
  turn-after k [] p h a = tt
  turn-after k (j ∷ js) p h a =
      let x : (task_at ts k.0).priority ≡ (entry_at fs k.0).task.priority = ap (λ (y : Task). y.priority) (task-of k.0) in
      let y : (task_at ts j.0).priority ≡ (entry_at fs j.0).task.priority = ap (λ (y : Task). y.priority) (task-of j.0) in (
        record { high = omega (arith, x, y, a.0.0); early = λ z. rising ts k.0 j.0 p (h j.0 (omega (arith, head_in j js))) (a.0.1 (y ∙ z ∙ sym x)) },
        turn-after k js p (λ i g. h i (omega (arith, g, tail_in i j js))) a.1,
      )

  turn-sorted : (r : List TaskNo) → ((j : ℕ) → 0 < times_in j r → IsReady fs j) → InTurn (items ts r) → Sorted fs r
  unfolding items
  turn-sorted [] h t = tt
  turn-sorted (k ∷ ks) h t =
      let l : (j : ℕ) → 0 < times_in j ks → IsReady fs j = λ j g. h j (omega (arith, g, tail_in j k ks)) in
      (turn-after k ks (h k.0 (omega (arith, head_in k ks))) l t.0, turn-sorted ks l t.1)

-- ---- a well-formed table whose queue is in turn, and the numbered one
numbered-alike : (t : Table) → WellFormed t → InTurn (view t) → Alike (numbered t) t
numbered-alike t w i =
    let l : length t.tasks ≡ 16 = w.numbers.sizes.tasks in
    let exact : (k : ℕ) → times_in k (line t) ≡ one (is_ready (entry_at (numbered_from 0 t.tasks) k)) = λ k.
    sym (count-items t.tasks k (line t)) ∙ w.queue.exactly.exact k ∙ ap (λ (x : Task). is ready x.state) (task-of t.tasks k) in
    record {
      tasks = tasks-numbered t.tasks 0;
      rest = refl;
      size = sym (tasks-length (numbered_from 0 t.tasks)) ∙ ap length (tasks-numbered t.tasks 0) ∙ l;
      numbers = numbers t l;
      order = record { exact = exact; sorted = turn-sorted t.tasks (line t) (λ k g. one_true _ (omega (arith, g, exact k))) i };
    }

module _ (g : List ℕ) (b : Bytes g) (c : is_configuration g ≡ true) where
  fresh-formed : WellFormed (fresh_table g)
  fresh-formed = (executive.fresh_law).formed g b c

  fresh-begins : Alike (numbered (fresh_table g)) (fresh_table g)
  fresh-begins = numbered-alike (fresh_table g) fresh-formed
      (let k = ((executive.fresh_law).exactly g).0 c in
      subst InTurn (sym ((executive.fresh_law).said-out g b k).queue) (marked_turn k.tasks 1 [] tt tt))

  made_table : (fresh_of g).table ≡ fresh_table g
  made_table = ap (λ (f : Fresh). f.table) ((executive.fresh_law).made g c)

  begins : Alike (numbered (fresh_of g).table) (fresh_of g).table
  begins = rw made_table fresh-begins

  formed-fresh : WellFormed (fresh_of g).table
  formed-fresh = rw made_table fresh-formed

  pub alike-fresh : queued (made_of g).table ≡ (fresh_of g).table
  unfolding made_of
  alike-fresh = sym (alike_is (numbered (fresh_of g).table) (fresh_of g).table begins formed-fresh)

  pub fresh : SoundScan (made_of g).table
  unfolding made_of
  fresh = sound-of (numbered (fresh_of g).table) begins.numbers (subst WellFormed (sym alike-fresh) formed-fresh)

-- ---- tables that break a rule on the entries or the rest: every answer is 1
scan_broken : (e : Scanned) (s : List ℕ) → all_but_queue (tasks_in e.entries) e.rest ≡ false → scan_of e s ≡ refused_scan e 1
unfolding scan_of enacted_scan
scan_broken e s h = decide (arrivals_right e) (λ z. rw (z, decision_broken e s h) refl) (λ z. rw z refl)

step-broken : (t : Table) (s : List ℕ) → all_but_queue t.tasks t.rest ≡ false → step_of t s ≡ refused t 1
unfolding enacted decision_for
step-broken t s h = (executive.by_decision).step t s ∙ decide (queue_right t) (λ z. rw (z, h) refl) (λ z. rw z refl)

broken-same : (e : Scanned) (t : Table) → all_but_queue (tasks_in e.entries) e.rest ≡ false → all_but_queue t.tasks t.rest ≡ false
    → (ss : List (List ℕ)) → answers_scan e ss ≡ answers_of t ss
unfolding answers_scan answers_of refused_scan refused
broken-same e t p q [] = refl
broken-same e t p q (s ∷ ss) = rw (scan_broken e s p, step-broken t s q) (ap (λ (l : List Answer). no_table ∷ l) (broken-same e t p q ss))

-- no task
no-rules : (ts : List Task) → all_but_queue ts (blank_rest 0 0) ≡ false
unfolding all_but_queue numbers_right pad
no-rules ts = decide (eqb (length ts) most_tasks) (λ z. rw z refl) (λ z. rw z refl)

pub equal : (g : List ℕ) (ss : List (List ℕ)) → Bytes g → AllBytes ss
    → ((made_of g).number ≡ (fresh_of g).answer.number) × (answers_scan (made_of g).table ss ≡ answers_of (fresh_of g).table ss)
unfolding made_of
equal g ss b bs = (
  refl,
  decide (is_configuration g)
      (λ c. (goes ss (numbered (fresh_of g).table) (fresh_of g).table (begins g b c) (formed-fresh g b c) bs).answers)
      (λ c. rw (ap (λ (f : Fresh). f.table) ((executive.fresh_law).refused g c)) (broken-same (numbered zero_table) zero_table (no-rules _) (no-rules _) ss)),
)
