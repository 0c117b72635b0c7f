-- Those who enter in a step bear the largest numbers, in the order they entered.
use Prim.Native.Nat.{ℕ, suc, ◌<◌}
use mathlib.Core.Path.{◌≡◌, refl, sym, ap, ◌∙◌}
use mathlib.Core.Bool.{true, false}
use mathlib.Core.List.{List, [], ◌∷◌, map}
use native.Mathlib.Omega.{arith}
use borrow.Author.Tests.{eqb-true, eq-eqb}
use lib.Dec.{eqb}
use Rattle.records.specs.declared.TaskNo.{TaskNo}
use Rattle.records.specs.Numbers.{Bytes}
use Rattle.executive.specs.declared.Task.{Task}
use Rattle.executive.specs.declared.Table.{Table}
use Rattle.executive.specs.declared.decisions.Decision.{Decision}
use Rattle.executive.specs.Lists.{sum_of}
use Rattle.executive.specs.Places.{times_in}
use Rattle.executive.specs.Plans.{caller}
use Rattle.executive.specs.Table.{Join, Plan, depart, begin, entered, enter_in_flight}
use Rattle.executive.specs.Decisions.{meant}
use Rattle.executive.specs.Deciding.{decision_for}
use Rattle.executive.proofs.Assured as executive
use Rattle.scan.specs.declared.Entry.{Entry}
use Rattle.scan.specs.declared.Scanned.{Scanned}
use Rattle.scan.specs.declared.Work.{Work}
use Rattle.scan.specs.Entries.{entry, entry_at, put_entry, is_ready}
use Rattle.scan.specs.Choosing.{IsReady, arrival_in}
use Rattle.scan.specs.Moves.{with_room, entered_scan, enter_scan, enter_all_scan, begin_scan, depart_scan, apply_scan}
use Rattle.scan.specs.Sound.{SoundScan, arrivals_right}
use Rattle.scan.specs.Step.{plan_scan, decision_scan, scan_of, done_scan, enacted_scan}
use Rattle.scan.specs.Queued.{queued}
use Rattle.scan.specs.Promises.{newcomers, Latest}
use Rattle.scan.proofs.Basics.{never, decide, one_false}
use Rattle.scan.proofs.Places.{Has, at_same, at_other}
use Rattle.scan.proofs.Alike.{Alike}
use Rattle.scan.proofs.Flight.{Flown, AlikeInFlight, room-alike, named-place, depart-alike, joining}
use Rattle.scan.proofs.Stepping.{sized, queued-alike, formed, arrivals_make, same_decision, same-plan, out-tasks}

-- ---- one enters: all others are as ready as they were and keep their order, and its number is the largest
record Placed (es fs : List Entry) (k : ℕ) : Type 0 where
  others : (i : ℕ) → eqb i k ≡ false → is_ready (entry_at fs i) ≡ is_ready (entry_at es i)
  order : (i j : ℕ) → eqb i k ≡ false → eqb j k ≡ false → IsReady es i → IsReady es j → arrival_in es i < arrival_in es j → arrival_in fs i < arrival_in fs j
  latest : (i : ℕ) → eqb i k ≡ false → arrival_in fs i < arrival_in fs k
  itself : IsReady fs k

places : (w : Work) (v : Flown) → AlikeInFlight w v → (k : TaskNo) (x : Task) → Has w.table.entries k.0 → is_ready (entry x 0) ≡ true
    → Placed w.table.entries (enter_scan k x w).table.entries k.0
unfolding enter_scan entered_scan
places w v f k x h r =
    let q = room-alike w.table v.table f.table in
    let ds : List Entry = (with_room w.table).entries in
    let n : ℕ = suc (with_room w.table).last in
    let g : Has ds k.0 = (h.0, omega (arith, h.1, q.alike.size, f.table.size)) in
    let own : entry_at (put_entry ds k.0 (entry x n)) k.0 ≡ entry x n = at_same ds k.0 (entry x n) g in
    let else : (i : ℕ) → eqb i k.0 ≡ false → entry_at (put_entry ds k.0 (entry x n)) i ≡ entry_at ds i = λ i z. at_other ds k.0 i (entry x n) z in
    let number : (i : ℕ) → eqb i k.0 ≡ false → arrival_in (put_entry ds k.0 (entry x n)) i ≡ arrival_in ds i = λ i z. ap (λ (y : Entry). y.arrival) (else i z) in
    rw (named-place k.0 h.0 (omega (arith, h.1, f.table.size)))
    (record {
      others = λ i z. ap is_ready (else i z) ∙ q.ready i;
      order = λ i j y z a b l. omega (arith, number i y, number j z, q.order i j a b l);
      latest = λ i z. omega (arith, number i z, ap (λ (y : Entry). y.arrival) own, q.alike.numbers.given i);
      itself = ap is_ready own ∙ r;
    })

abbrev whose : List Join → List TaskNo
whose js = map (λ (j : Join). j.who) js

apart_of : (i : ℕ) (k : TaskNo) (ks : List TaskNo) → times_in i (k ∷ ks) ≡ 0 → (eqb i k.0 ≡ false) × (times_in i ks ≡ 0)
unfolding sum_of
apart_of i k ks h = (one_false (eqb i k.0) (omega (arith, h)), omega (arith, h))

-- ---- whoever bears a larger number than task i, which does not enter, does so after the others have entered
keeps : (js : List Join) (w : Work) (v : Flown) → AlikeInFlight w v → executive.AllEnter js v.table.tasks → (i k : ℕ) → times_in i (whose js) ≡ 0
    → IsReady w.table.entries k → (IsReady w.table.entries i → arrival_in w.table.entries i < arrival_in w.table.entries k)
    → IsReady (enter_all_scan js w).table.entries i → arrival_in (enter_all_scan js w).table.entries i < arrival_in (enter_all_scan js w).table.entries k
unfolding enter_all_scan enter_in_flight entered
keeps [] w v f h i k z r l g = l g
keeps (j ∷ js) w v f h i k z r l g =
    let c = joining j js w v f h in
    let p = places w v f j.who (j.change (entry_at w.table.entries j.who.0).task) c.has c.after in
    let a = apart_of i j.who (whose js) z in
    let b : eqb k j.who.0 ≡ false = decide (eqb k j.who.0) (λ y. never (sym (ap (λ (n : ℕ). is_ready (entry_at w.table.entries n)) (eqb-true k j.who.0 y) ∙ c.before) ∙ r)) (λ y. y) in
    keeps js _ _ c.on c.rest i k a.1 (p.others k b ∙ r)
    (λ y. let ri : IsReady w.table.entries i = sym (p.others i a.0) ∙ y in p.order i k a.0 b ri r (l ri)) g

latest : (js : List Join) (w : Work) (v : Flown) → AlikeInFlight w v → executive.AllEnter js v.table.tasks → Latest (enter_all_scan js w).table.entries (whose js)
unfolding enter_all_scan enter_in_flight entered
latest [] w v f h = tt
latest (j ∷ js) w v f h =
    let c = joining j js w v f h in
    let p = places w v f j.who (j.change (entry_at w.table.entries j.who.0).task) c.has c.after in (
      λ i r z. let a = apart_of i j.who (whose js) z in
          keeps js _ _ c.on c.rest i j.who.0 a.1 p.itself (λ y. p.latest i a.0) r,
      latest js _ _ c.on c.rest,
    )

-- ---- a step
module _ (e : Scanned) (t : Table) (a : Alike e t) (p : Plan) (m : executive.Moves p t) where
  by-plan : Latest (apply_scan p e).table.entries (whose p.ins)
  unfolding apply_scan
  by-plan = latest p.ins (begin_scan (depart_scan p.out e)) (begin (depart p.out t)) (record { table = depart-alike e t a p.out m.leaving; walked = refl })
      (rw (out-tasks p.out t) m.entering)

accepted-table : (e : Scanned) (s : List ℕ) → arrivals_right e ≡ true → (decision_scan e s).number ≡ 0
    → (scan_of e s).table ≡ (apply_scan (plan_scan (decision_scan e s).deed e) e).table
unfolding scan_of enacted_scan done_scan
accepted-table e s h z = rw (h, eq-eqb (decision_scan e s).number 0 z) refl

pub numbered : (e : Scanned) (s : List ℕ) → SoundScan e → Bytes s → (decision_scan e s).number ≡ 0 → Latest (scan_of e s).table.entries (newcomers e s)
numbered e s so b z =
    let t = queued e in
    let a : Alike e t = queued-alike e so.arrivals (sized e so.rules) in
    let d = decision_for t.tasks t.rest (caller t) s in
    let q : decision_scan e s ≡ d = same_decision e t a s in
    let m : executive.Moves (meant d.deed t) t = executive.moves t s (formed e so) (sym (ap (λ (x : Decision). x.number) q) ∙ z) b in
    rw (accepted-table e s (arrivals_make e so.arrivals) z, q, same-plan e t a d.deed) (by-plan e t a (meant d.deed t) m)
