-- The scan chooses the first of the ready entries with highest priority; and the order of choosing is in order.
use Prim.Native.Nat.{ℕ, zero, suc, ◌+◌, ◌≤◌, ◌<◌}
use mathlib.Core.Path.{◌≡◌, refl, sym, ap, ◌∙◌}
use mathlib.Core.Logic.{◌⊎◌, inl, inr, ⊎_elim}
use mathlib.Core.Bool.{Bool, true, false, not, cond}
use mathlib.Core.List.{List, [], ◌∷◌}
use native.Mathlib.Omega.{arith}
use borrow.Author.Tests.{ltb-true, ltb-false, eqb-true, eqb-false}
use lib.Dec.{ltb, eqb}
use lib.ListN.{length, get_or, set}
use Rattle.records.specs.declared.TaskNo.{TaskNo}
use Rattle.executive.specs.Lists.{one, sum_of}
use Rattle.executive.specs.Places.{times_in}
use Rattle.scan.specs.declared.Entry.{Entry}
use Rattle.scan.specs.declared.Best.{Best}
use Rattle.scan.specs.Entries.{no_entry, entry_at, put_entry, is_ready, count_of}
use Rattle.scan.specs.Choosing.{best_at, better_of, none_found, scanned, chosen, chosen_no, order_from, IsReady, priority_in, arrival_in, First, Distinct, Choice}
use Rattle.scan.proofs.Basics.{never, decide, one_true}
use Rattle.scan.proofs.Places.{Has, at_same, at_other, ready-has, sum_put, sum-entry}
use Rattle.scan.proofs.Order.{Before, InOrder, after-all, sorted-same}

-- the best r is no worse than one of priority p and number a
pub record Covers (r : Best) (p a : ℕ) : Type 0 where
  pub found : r.found ≡ true
  pub high : p ≤ r.priority
  pub early : p ≡ r.priority → r.arrival ≤ a

covers_on : (c r : Best) (p a : ℕ) → Covers c p a → Covers r c.priority c.arrival → Covers r p a
covers_on c r p a x y = record {
  found = y.found;
  high = omega (arith, x.high, y.high);
  early = λ e. let z : p ≡ c.priority = omega (arith, x.high, y.high, e) in
      let w : c.priority ≡ r.priority = omega (arith, z, e) in omega (arith, x.early z, y.early w);
}

-- one entry against the best so far
record Stepped (b c : Best) (i : ℕ) (x : Entry) : Type 0 where
  from : (c ≡ b) ⊎ ((c ≡ best_at i x) × (is_ready x ≡ true))
  old : b.found ≡ true → Covers c b.priority b.arrival
  new : is_ready x ≡ true → Covers c x.task.priority x.arrival

self_covers : (b : Best) → b.found ≡ true → Covers b b.priority b.arrival
self_covers b f = record { found = f; high = omega arith; early = λ e. omega arith }

steps : (b : Best) (i : ℕ) (x : Entry) → Stepped b (better_of b i x) i x
steps b i x = go (is_ready x) b.found (ltb b.priority x.task.priority) (ltb x.task.priority b.priority) (ltb x.arrival b.arrival) refl refl refl refl refl
  where
    take : b.found ≡ true → b.priority ≤ x.task.priority → (b.priority ≡ x.task.priority → x.arrival ≤ b.arrival) → is_ready x ≡ true → Stepped b (best_at i x) i x
    take f h e r = record {
      from = inr (refl, r);
      old = λ z. record { found = refl; high = h; early = e };
      new = λ z. self_covers (best_at i x) refl;
    }

    keep : b.found ≡ true → x.task.priority ≤ b.priority → (x.task.priority ≡ b.priority → b.arrival ≤ x.arrival) → Stepped b b i x
    keep f h e = record { from = inl refl; old = λ z. self_covers b z; new = λ z. record { found = f; high = h; early = e } }

    go : (r f m l a : Bool) → is_ready x ≡ r → b.found ≡ f → ltb b.priority x.task.priority ≡ m → ltb x.task.priority b.priority ≡ l → ltb x.arrival b.arrival ≡ a
        → Stepped b (cond (not r) b (cond (not f) (best_at i x) (cond m (best_at i x) (cond l b (cond a (best_at i x) b))))) i x
    go false f m l a er ef em el ea = record { from = inl refl; old = λ z. self_covers b z; new = λ z. never (sym er ∙ z) }
    go true false m l a er ef em el ea = record { from = inr (refl, er); old = λ z. never (sym ef ∙ z); new = λ z. self_covers (best_at i x) refl }
    go true true true l a er ef em el ea = let h = ltb-true b.priority x.task.priority em in take ef (omega (arith, h)) (λ e. absurd (omega (arith, h, e))) er
    go true true false true a er ef em el ea = let h = ltb-true x.task.priority b.priority el in keep ef (omega (arith, h)) (λ e. absurd (omega (arith, h, e)))
    go true true false false true er ef em el ea =
        let h = ltb-false x.task.priority b.priority el in let g = ltb-true x.arrival b.arrival ea in take ef (omega (arith, h)) (λ e. omega (arith, g)) er
    go true true false false false er ef em el ea =
        let h = ltb-false b.priority x.task.priority em in let g = ltb-false x.arrival b.arrival ea in keep ef (omega (arith, h)) (λ e. omega (arith, g))

-- ---- the whole scan
pub record Found (xs : List Entry) (i : ℕ) (r : Best) : Type 0 where
  pub place : ℕ
  pub within : place < length xs
  pub is : r ≡ best_at (i + place) (get_or xs place no_entry)
  pub ready : is_ready (get_or xs place no_entry) ≡ true

record Scanning (xs : List Entry) (i : ℕ) (b r : Best) : Type 0 where
  from : (r ≡ b) ⊎ Found xs i r
  old : b.found ≡ true → Covers r b.priority b.arrival
  new : (j : ℕ) → is_ready (get_or xs j no_entry) ≡ true → Covers r (get_or xs j no_entry).task.priority (get_or xs j no_entry).arrival

scans : (xs : List Entry) (i : ℕ) (b : Best) → Scanning xs i b (scanned xs i b)
unfolding scanned
scans [] i b = record { from = inl refl; old = λ z. self_covers b z; new = λ j z. never z }
scans (x ∷ xs) i b =
    let c : Best = better_of b i x in
    let s : Stepped b c i x = steps b i x in
    let t : Scanning xs (suc i) c (scanned xs (suc i) c) = scans xs (suc i) c in
    record {
      from = ⊎_elim
          (λ e. ⊎_elim (λ f. inl (e ∙ f))
          (λ f. inr (record { place = 0; within = omega arith; is = e ∙ f.0 ∙ ap (λ (n : ℕ). best_at n x) (omega arith); ready = f.1 }))
          s.from)
          (λ f. inr (record { place = suc f.place; within = omega (arith, f.within); is = f.is ∙ ap (λ (n : ℕ). best_at n (get_or xs f.place no_entry)) (omega arith); ready = f.ready }))
          t.from;
      old = λ z. let k = s.old z in covers_on c (scanned xs (suc i) c) _ _ k (t.old k.found);
      new = λ j z. new j z c s t;
    }
  where
    new : (j : ℕ) → is_ready (get_or (x ∷ xs) j no_entry) ≡ true → (c : Best) → Stepped b c i x → Scanning xs (suc i) c (scanned xs (suc i) c)
        → Covers (scanned xs (suc i) c) (get_or (x ∷ xs) j no_entry).task.priority (get_or (x ∷ xs) j no_entry).arrival
    new zero z c s t = let k = s.new z in covers_on c (scanned xs (suc i) c) _ _ k (t.old k.found)
    new (suc j) z c s t = t.new j z

module _ (es : List Entry) where
  whole : Scanning es 0 none_found (chosen es)
  whole = scans es 0 none_found

  -- where one is found, it is an entry
  pub found-entry : (chosen es).found ≡ true → Found es 0 (chosen es)
  found-entry f = ⊎_elim (λ e. never (sym (ap (λ (r : Best). r.found) e) ∙ f)) (λ x. x) whole.from

  pub found_at : (f : (chosen es).found ≡ true) → ((chosen es).at < length es) × (is_ready (get_or es (chosen es).at no_entry) ≡ true)
      × (chosen es ≡ best_at (chosen es).at (get_or es (chosen es).at no_entry))
  found_at f =
      let x = found-entry f in
      let q : (chosen es).at ≡ 0 + x.place = ap (λ (r : Best). r.at) x.is in
      let p : (chosen es).at ≡ x.place = omega (arith, q) in (
        omega (arith, x.within, p),
        ap (λ (n : ℕ). is_ready (get_or es n no_entry)) p ∙ x.ready,
        x.is ∙ ap (λ (n : ℕ). best_at n (get_or es x.place no_entry)) (sym q) ∙ ap (λ (n : ℕ). best_at (chosen es).at (get_or es n no_entry)) (sym p),
      )

  covered : (k : ℕ) → IsReady es k → Covers (chosen es) (priority_in es k) (arrival_in es k)
  unfolding entry_at
  covered zero h = never h
  covered (suc j) h = whole.new j h

  pub no_found : (chosen_no es).0 ≡ 0 → (chosen es).found ≡ false
  no_found e = go (chosen es).found refl e
    where
      go : (b : Bool) → (chosen es).found ≡ b → (cond {A = TaskNo} b (record { 0 = suc (chosen es).at }) (record { 0 = 0 })).0 ≡ 0 → (chosen es).found ≡ false
      go true f z = absurd (omega arith)
      go false f z = f

  -- the number of the one that is found
  pub found_number : (chosen es).found ≡ true → chosen_no es ≡ record { 0 = suc (chosen es).at }
  found_number f = rw f refl

  pub first-of : (chosen es).found ≡ true → First es (suc (chosen es).at)
  unfolding entry_at
  first-of f =
      let a = found_at f in
      let p : (chosen es).priority ≡ (get_or es (chosen es).at no_entry).task.priority = ap (λ (r : Best). r.priority) a.2 in
      let n : (chosen es).arrival ≡ (get_or es (chosen es).at no_entry).arrival = ap (λ (r : Best). r.arrival) a.2 in
      record {
        ready = a.1;
        highest = λ j h. omega (arith, (covered j h).high, p);
        earliest = λ j h e. omega (arith, (covered j h).early (e ∙ sym p), n);
      }

  pub none-ready : (chosen es).found ≡ false → (k : ℕ) → is_ready (entry_at es k) ≡ false
  none-ready f k = decide (is_ready (entry_at es k)) (λ h. never (sym f ∙ (covered k h).found)) (λ h. h)

-- where it stands, found or not
pub at-within : (es : List Entry) → 0 < length es → (chosen es).at < length es
at-within es h = ⊎_elim
    (λ e. omega (arith, ap (λ (r : Best). r.at) e))
    (λ x. omega (arith, x.within, ap (λ (r : Best). r.at) x.is))
    (whole es).from

pub number_is : (b : Best) (es : List Entry) → b ≡ chosen es → b.found ≡ true → ◌≡◌ {A = TaskNo} (record { 0 = b.at + 1 }) (chosen_no es)
number_is b es e f =
    let g : (chosen es).found ≡ true = sym (ap (λ (r : Best). r.found) e) ∙ f in
    let z : b.at + 1 ≡ suc (chosen es).at = omega (arith, ap (λ (r : Best). r.at) e) in
    (λ i. record { 0 = z i }) ∙ sym (found_number es g)

pub number-none : (b : Best) (es : List Entry) → b ≡ chosen es → b.found ≡ false → ◌≡◌ {A = TaskNo} (record { 0 = 0 }) (chosen_no es)
number-none b es e f =
    let g : (chosen es).found ≡ false = sym (ap (λ (r : Best). r.found) e) ∙ f in
    rw g refl

pub choice : Choice
choice = record {
  first = λ es h. decide (chosen es).found
      (λ f. rw (found_number es f) (first-of es f))
      (λ f. absurd (omega (arith, h, ap (λ (b : Bool). (cond {A = TaskNo} b (record { 0 = suc (chosen es).at }) (record { 0 = 0 })).0) f)));
  nobody = λ es. (
    λ e k. none-ready es (no_found es e) k,
    λ h. decide (chosen es).found
        (λ f. never (sym (h (suc (chosen es).at)) ∙ (first-of es f).ready))
        (λ f. rw f refl),
  );
  only = λ es d j k p q. d j k p.ready q.ready
      (let e : priority_in es j ≡ priority_in es k = omega (arith, p.highest k q.ready, q.highest j p.ready) in
      omega (arith, p.earliest k q.ready (sym e), q.earliest j p.ready e));
}

-- ---- the order of choosing
module _ (es : List Entry) (d : Distinct es) (f : (chosen es).found ≡ true) where
  abbrev c : ℕ
  c = suc (chosen es).at

  abbrev fs : List Entry
  fs = set es (chosen es).at no_entry

  c-has : Has es c
  c-has = (omega arith, omega (arith, (found_at es f).0))

  at_c : entry_at fs c ≡ no_entry
  unfolding put_entry
  at_c = at_same es c no_entry c-has

  at_else : (k : ℕ) → eqb k c ≡ false → entry_at fs k ≡ entry_at es k
  unfolding put_entry
  at_else k e = at_other es c k no_entry e

  -- who is ready among the others
  others-ready : (k : ℕ) → IsReady fs k → (eqb k c ≡ false) × IsReady es k
  others-ready k h = decide (eqb k c)
      (λ e. never (sym (ap is_ready (ap (entry_at fs) (eqb-true k c e) ∙ at_c)) ∙ h))
      (λ e. (e, sym (ap is_ready (at_else k e)) ∙ h))

  fewer : suc (count_of is_ready fs) ≡ count_of is_ready es
  unfolding put_entry
  fewer =
      let s = sum_put (λ (x : Entry). one (is_ready x)) es c no_entry c-has in
      let r : one (is_ready (entry_at es c)) ≡ 1 = ap one (first-of es f).ready in
      omega (arith, s, r)

  still-distinct : Distinct fs
  still-distinct i j p q e =
      let x = others-ready i p in let y = others-ready j q in
      d i j x.1 y.1 (ap (λ (z : Entry). z.arrival) (sym (at_else i x.0)) ∙ e ∙ ap (λ (z : Entry). z.arrival) (at_else j y.0))

  before-others : (k : ℕ) → IsReady fs k → Before (entry_at es c) (entry_at es k)
  before-others k h =
      let x = others-ready k h in
      let t = first-of es f in
      record {
        high = t.highest k x.1;
        early = λ e.
            let l = t.earliest k x.1 e in
            let n : arrival_in es c ≡ arrival_in es k → ⊥ = λ z. eqb-false k c x.0 (d k c x.1 t.ready (sym z)) in
            less (arrival_in es c) (arrival_in es k) l n;
      }
    where
      less : (m n : ℕ) → m ≤ n → (m ≡ n → ⊥) → m < n
      less m n h z = decide (ltb m n) (λ e. ltb-true m n e) (λ e. absurd (z (omega (arith, ltb-false m n e))))

  ordered : (r : List TaskNo) → InOrder fs r → InOrder es (chosen_no es ∷ r)
  unfolding sum_of
  ordered r o = rw (found_number es f) (record { exact = exact; sorted = (after-all es (entry_at es c) r (λ k g. before-others k (in_ready k g)), sorted-same fs es r (λ k g. at_else k (others-ready k (in_ready k g)).0) o.sorted) })
    where
      in_ready : (k : ℕ) → 0 < times_in k r → IsReady fs k
      in_ready k g = one_true (is_ready (entry_at fs k)) (omega (arith, o.exact k))

      exact : (k : ℕ) → times_in k (record { 0 = c } ∷ r) ≡ one (is_ready (entry_at es k))
      exact k = decide (eqb k c)
          (λ e. let z : k ≡ c = eqb-true k c e in
          let n : times_in k r ≡ 0 = o.exact k ∙ ap (λ (x : Entry). one (is_ready x)) (ap (entry_at fs) z ∙ at_c) in
          let y : one (is_ready (entry_at es k)) ≡ 1 = ap (λ (n : ℕ). one (is_ready (entry_at es n))) z ∙ ap one (first-of es f).ready in
          rw e (omega arith))
          (λ e. let y : one (is_ready (entry_at fs k)) ≡ one (is_ready (entry_at es k)) = ap (λ (x : Entry). one (is_ready x)) (at_else k e) in
          rw e (omega (arith, o.exact k, y)))

pub order_from_lem : (n : ℕ) (es : List Entry) → Distinct es → count_of is_ready es ≤ n → InOrder es (order_from n es)
unfolding order_from sum_of
order_from_lem zero es d h = record { exact = λ k. sym (decide (is_ready (entry_at es k)) (λ e. absurd (none k e)) (λ e. ap one e)); sorted = tt }
  where
    none : (k : ℕ) → IsReady es k → ⊥
    none k e =
        let s = sum-entry (λ (x : Entry). one (is_ready x)) es k (ready-has es k e) in
        omega (arith, s, ap one e, h)
order_from_lem (suc n) es d h = go (chosen es).found refl (λ g k. order_from_lem n (set es (chosen es).at no_entry) g k)
  where
    go : (b : Bool) → (chosen es).found ≡ b → (Distinct (set es (chosen es).at no_entry) → count_of is_ready (set es (chosen es).at no_entry) ≤ n → InOrder (set es (chosen es).at no_entry) (order_from n (set es (chosen es).at no_entry)))
        → InOrder es (cond b (chosen_no es ∷ order_from n (set es (chosen es).at no_entry)) [])
    go true f ih = ordered es d f _ (ih (still-distinct es d f) (omega (arith, fewer es d f)))
    go false f ih = record { exact = λ k. sym (ap one (none-ready es f k)); sorted = tt }
