-- A fresh table made in its image: all zero, the sizes, the tasks dormant, the starts one after the other.
use Prim.Native.Nat.{ℕ, zero, suc, ◌+◌, ◌-◌, ◌*◌, ◌≤◌, ◌<◌}
use mathlib.Core.Path.{◌≡◌, refl, sym, ap, subst, ◌∙◌}
use mathlib.Core.List.{List, []}
use native.Mathlib.Omega.{arith}
use borrow.Author.Tests.{eq-eqb, ne_eqb}
use lib.ListN.{length, get_or, set, replicate}
use Rattle.records.specs.Numbers.{bytes_in}
use Rattle.executive.specs.declared.Request.{Request}
use Rattle.executive.specs.declared.Sub.{Sub}
use Rattle.executive.specs.declared.Task.{Task}
use Rattle.executive.specs.declared.Table.{Table}
use Rattle.executive.specs.Lists.{pad}
use Rattle.executive.specs.Places.{nobody, never, no_task, task_at}
use Rattle.executive.specs.Queue.{Desc, count}
use Rattle.executive.specs.Subprograms.{no_subprogram}
use Rattle.executive.specs.Table.{InFlight, items, view, levels_of, relit, entered, with_rest, begin, enter_in_flight, enter_all_in_flight, lit_in_flight}
use Rattle.executive.specs.Configuration.{own_in, mark_in, tasks_in, granule_in, blank_rest, zero_table, dormant_at, dormant_table, sleepers, marked_start, starters, fresh_table}
use Rattle.executive.specs.Decisions.{change_for}
use Rattle.executive.specs.declared.decisions.How.TheVariants.{Begun}
use Rattle.executive.specs.WellFormed.{Sizes}
use Rattle.executive.proofs.Assured.{pad-at, begin-flying, fewer-flying, enters-flying, lit-flying, lit-on_the_way}
use Rattle.executive.proofs.Assured.{marked-short, start-more, nobody_in, start-vacant, dormant-more, dormant-fit}
use Rattle.image.specs.Blocks.{row, written}
use Rattle.image.specs.Image.{image_length, image_of}
use Rattle.image.specs.Laid.{Laid, with_tasks}
use Rattle.image.proofs.Parts.{put_laid, entry-laid}
use Rattle.image.proofs.DoneLaid.{entered-sorted}

-- ---- all zero
-- a blank rest has its arrays' lengths, whatever its sizes
blank-sizes : (n g : ℕ) → Sizes (with_rest (blank_rest n g) zero_table)
unfolding pad
blank-sizes n g = record {
  tasks = refl;
  queue = refl;
  alarms = refl;
  pool = refl;
  subs = refl;
  lines = λ m. ap (λ (x : Sub). length x.line) (pad-at no_subprogram 8 [] m);
  messages = refl;
  mail = refl;
}

all-zero : replicate image_length 0 ≡ image_of zero_table
unfolding image_of pad row
all-zero = refl

pub zero-laid : {b : List ℕ} → b ≡ replicate image_length 0 → Laid b zero_table
zero-laid e = record { image = e ∙ all-zero; sizes = blank-sizes 0 0 }

-- ---- the sizes
pub sizes-laid : {s r q : List ℕ} (n g : ℕ) → Laid s zero_table → r ≡ written s 433 (bytes_in 1 n) → q ≡ written r 434 (bytes_in 1 g) → Laid q (with_rest (blank_rest n g) zero_table)
unfolding written
sizes-laid n g l er eq =
    rw (eq, er)
    (put_laid 2 (with_rest (blank_rest n 0) zero_table) (with_rest (blank_rest n g) zero_table)
    (put_laid 2 zero_table (with_rest (blank_rest n 0) zero_table) l (blank-sizes n 0) 1 (bytes_in 1 n) (omega arith) (omega arith) refl)
    (blank-sizes n g) 2 (bytes_in 1 g) (omega arith) (omega arith) refl)

-- ---- the tasks dormant: those of the numbers up to i have their own priorities
own-none : (s : List ℕ) (n k : ℕ) → get_or (sleepers s n k) n no_task ≡ no_task
unfolding sleepers
own-none s zero k = refl
own-none s (suc n) k = own-none s n (suc k)

pub own_first : (s : List ℕ) {b : List ℕ} (t : Table) → Laid b t → t.tasks ≡ pad 16 no_task [] → Laid b (with_tasks (pad 16 no_task (sleepers s 0 1)) t)
unfolding sleepers
own_first s {b} t l e = subst (λ (ts : List Task). Laid b (with_tasks ts t)) e l

pub own_turn : (s : List ℕ) {b d : List ℕ} (t : Table) (i p : ℕ) → i < 16 → p ≡ get_or s (i * 3 + 3) 0 → Laid b (with_tasks (pad 16 no_task (sleepers s i 1)) t) → d ≡ written b (i * 26) (bytes_in 1 p)
    → Laid d (with_tasks (pad 16 no_task (sleepers s (i + 1) 1)) t)
unfolding written
own_turn s {b} {d} t i p h ep l ed =
    let z : i * 26 + 0 ≡ i * 26 = omega arith in
    let y : i * 3 + 3 ≡ 3 * (i + 1) - 1 + 1 = omega arith in
    let e : p ≡ own_in s (i + 1) = ep ∙ ap (λ (m : ℕ). get_or s m 0) y in
    let u : Table = with_tasks (pad 16 no_task (sleepers s i 1)) t in
    let f = pad-at no_task 16 (sleepers s i 1) i ∙ own-none s i 1 in
    let k : Laid d (with_tasks (set (pad 16 no_task (sleepers s i 1)) i (dormant_at p)) t) =
    entry-laid u l i (dormant_at p) h 0 (bytes_in 1 p) (omega arith) (rw f refl) (rw f refl) (ed ∙ ap (λ (m : ℕ). written b m (bytes_in 1 p)) (sym z)) in
    subst (λ (ts : List Task). Laid d (with_tasks ts t)) (ap (λ (m : ℕ). set (pad 16 no_task (sleepers s i 1)) i (dormant_at m)) e ∙ dormant-more s i h) k

-- ---- one start: task k, if it is marked
module _ (s : List ℕ) (k : ℕ) (h : 0 < k) {b : List ℕ} (t : Table) (n : ℕ) (l : Laid b t) (f : InFlight 1 (record { table = t; walked = n })) (d : Desc (view t)) where
  abbrev Started : List ℕ → Type 0
  Started r =
      Laid r (lit_in_flight (enter_all_in_flight (marked_start s k) (record { table = t; walked = n }))).table
      × Desc (view (enter_all_in_flight (marked_start s k) (record { table = t; walked = n })).table)

  mark-read : (x : ℕ) → x ≡ get_or s (k * 3 + 1) 0 → x ≡ mark_in s k
  mark-read x e = let z : k * 3 + 1 ≡ 3 * k - 1 + 2 = omega arith in e ∙ ap (λ (m : ℕ). get_or s m 0) z

  pub start_none : (x : ℕ) → x ≡ get_or s (k * 3 + 1) 0 → (x ≡ 1 → ⊥) → Started b
  unfolding marked_start enter_all_in_flight
  start_none x e g =
      let v = lit-flying 1 (record { table = t; walked = n }) f in
      rw (ne_eqb (mark_in s k) 1 (λ z. g (mark-read x e ∙ z))) (subst (Laid b) (λ j. (v j).table) l, d)

  pub start-one : {r : List ℕ} (x p : ℕ) (q : Request) → x ≡ get_or s (k * 3 + 1) 0 → x ≡ 1 → p ≡ get_or s (k * 3) 0 → count k (view t) ≡ 0
      → q ≡ record { target = record { 0 = k }; priority = p; argument = 0; start_waiter = nobody; end_waiter = nobody }
      → Laid r (relit (entered (record { 0 = k }) (change_for q never Begun (task_at t.tasks k)) t)) → Started r
  unfolding marked_start enter_all_in_flight enter_in_flight
  start-one {r} x p q e g ep a eq y =
      let z : k * 3 ≡ 3 * k - 1 + 1 = omega arith in
      let o : p ≡ own_in s k = ep ∙ ap (λ (m : ℕ). get_or s m 0) z in
      let w : Laid r (relit (entered (record { 0 = k }) (change_for (asked (own_in s k)) never Begun (task_at t.tasks k)) t)) =
      subst (λ (x : Request). Laid r (relit (entered (record { 0 = k }) (change_for x never Begun (task_at t.tasks k)) t))) (eq ∙ ap asked o) y in
      rw (eq-eqb (mark_in s k) 1 (sym (mark-read x e) ∙ g)) (w, entered-sorted t (record { 0 = k }) _ a d)
    where
      asked : ℕ → Request
      asked p = record { target = record { 0 = k }; priority = p; argument = 0; start_waiter = nobody; end_waiter = nobody }

-- ---- the starts, k of them looked at: the table on the way, and who is not ready yet
pub record Starting (s b : List ℕ) (t : Table) (n k : ℕ) : Type 0 where
  pub table : Table
  pub walked : ℕ
  pub laid : Laid b table
  pub flying : InFlight (n - k) (record { table = table; walked = walked })
  pub sorted : Desc (view table)
  pub vacant : (j : ℕ) → k < j → count j (view table) ≡ 0
  pub done : lit_in_flight (enter_all_in_flight (starters s k 1) (begin t)) ≡ record { table = table; walked = walked }

module _ (s : List ℕ) (t : Table) (n : ℕ) where
  pub starting-first : {b : List ℕ} → Laid b t → InFlight n (begin t) → t.ready ≡ 0 → Starting s b t n 0
  unfolding starters enter_all_in_flight items
  starting-first l f z = record {
    table = t;
    walked = 0;
    laid = l;
    flying = fewer-flying _ _ _ (omega arith) f;
    sorted = rw z tt;
    vacant = λ j _. nobody_in t z j;
    done = sym (lit-flying n (begin t) f);
  }

  pub starting-next : {b d : List ℕ} (k : ℕ) → k < n → Starting s b t n k
      → ((u : Table) → (m : ℕ) → Laid b u → InFlight 1 (record { table = u; walked = m }) → Desc (view u) → count (k + 1) (view u) ≡ 0
      → Laid d (lit_in_flight (enter_all_in_flight (marked_start s (k + 1)) (record { table = u; walked = m }))).table
      × Desc (view (enter_all_in_flight (marked_start s (k + 1)) (record { table = u; walked = m })).table))
      → Starting s d t n (k + 1)
  starting-next {b} {d} k h x f =
      let js = marked_start s (k + 1) in
      let w = lit_in_flight (enter_all_in_flight js (record { table = x.table; walked = x.walked })) in
      let y = f x.table x.walked x.laid (fewer-flying _ 1 _ (omega arith) x.flying) x.sorted (x.vacant (k + 1) (omega arith)) in
      record {
        table = w.table;
        walked = w.walked;
        laid = y.0;
        flying = enters-flying js (n - (k + 1)) _ (fewer-flying _ _ _ (omega (arith, marked-short s (k + 1))) x.flying);
        sorted = y.1;
        vacant = λ j g. start-vacant s (k + 1) (record { table = x.table; walked = x.walked }) j g (x.vacant j (omega arith)) (x.vacant (k + 1) (omega arith));
        done = ap lit_in_flight (sym (start-more s k (begin t))) ∙ sym (lit-on_the_way js _) ∙ ap (λ v. lit_in_flight (enter_all_in_flight js v)) x.done;
      }

  pub starting-end : {b : List ℕ} (k : ℕ) → k ≡ n → Starting s b t n k → Laid b (lit_in_flight (enter_all_in_flight (starters s n 1) (begin t))).table
  starting-end {b} k e x = let g = x.done in rw (sym e) (subst (Laid b) (λ j. (sym g j).table) x.laid)

-- ---- the whole: n tasks and a granule g, as the configuration has them
pub fresh-laid : (s : List ℕ) {a b d r : List ℕ} (n g : ℕ) → n ≡ tasks_in s → n ≤ 16 → g ≡ granule_in s → Laid a zero_table
    → (Laid a zero_table → Laid b (with_rest (blank_rest n g) zero_table))
    → ((t : Table) → Laid b t → t.tasks ≡ pad 16 no_task [] → Laid d (with_tasks (pad 16 no_task (sleepers s n 1)) t))
    → ((t : Table) → Laid d t → InFlight n (begin t) → t.ready ≡ 0 → Laid r (lit_in_flight (enter_all_in_flight (starters s n 1) (begin t))).table)
    → Laid r (fresh_table s)
unfolding fresh_table dormant_table items levels_of
fresh-laid s n g en h eg l sized owned started =
    let t = with_tasks (pad 16 no_task (sleepers s n 1)) (with_rest (blank_rest n g) zero_table) in
    let f = begin-flying n t (dormant-fit s n g h) (omega arith) refl in
    rw (sym en, sym eg) (started t (owned (with_rest (blank_rest n g) zero_table) (sized l) refl) f refl)
