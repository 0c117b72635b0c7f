-- The pieces of a listing, turn by turn, and a buffer that takes them.
use Prim.Native.Nat.{min, ◌^◌, ℕ, zero, suc, ◌+◌, ◌-◌, ◌≤◌, ◌<◌}
use mathlib.Core.Path.{◌≡◌, refl, sym, ap, ◌∙◌}
use mathlib.Core.Bool.{Bool, true, false}
use mathlib.Core.List.{List, [], ◌∷◌, ◌++◌, append_assoc}
use native.Mathlib.Omega.{arith}
use lib.ListN.{length, get_or, take, drop, length-drop}
use lib.Dec.{eqb, ltb}
use borrow.Author.Tests.{le-leb, lt-leb, leb-true, ltb-true, ltb-false, ne_eqb}
use Rattle.executive.specs.declared.Answer.{Answer}
use Rattle.executive.specs.declared.Outcome.{Outcome}
use Rattle.records.specs.declared.TaskNo.{TaskNo}
use Rattle.executive.specs.declared.Table.{Table}
use Rattle.executive.specs.Step.{step_of}
use Rattle.std.specs.Prelude.{Option, Some, None}
use Rattle.bench.specs.declared.Next.{Next}
use Rattle.bench.specs.declared.Next.TheVariants as next
use Rattle.bench.specs.declared.Progress.{Progress}
use Rattle.bench.specs.declared.Filled.{Filled}
use Rattle.text.specs.Glyphs.{Adds, decimal_of, hex_of, bit_of}
use Rattle.bench.specs.Lines.{granule_word, tasks_word, active_word, stop_word, end_word, header_by, header_of, line_of, stop_of}
use Rattle.bench.specs.Listing.{whole_of, last_of, step_length}
use Rattle.bench.specs.Pieces.{with_next, is_more, after, left_in, told_as, told_of, after_as, after_of, none, before, goes_on, piece_in, piece_of, Fills, FillsFrom}
use Rattle.image.specs.Image.{load_of, is_image}
use Rattle.image.specs.Acting.{Acts}
use Rattle.image.proofs.Assured.{acting_promises}
use Rattle.text.proofs.Assured.{decide}
use Rattle.bench.proofs.Told.{row-some, whole-fits}
use Rattle.text.proofs.Assured.{nothing, then, inside, all-of}

-- ---- no line is empty
header_some : (g n a : ℕ) → 0 < length (header_by g n a)
header_some g n a = row-some (granule_word ∷ decimal_of g ∷ tasks_word ∷ decimal_of n ∷ active_word ∷ decimal_of a ∷ [])

pub line-some : (n kind : ℕ) (a : Answer) → 0 < length (line_of n kind a)
unfolding line_of
line-some n kind a =
    row-some (decimal_of n ∷ hex_of kind ∷ decimal_of a.number ∷ (bit_of a.z ∷ bit_of a.v ∷ bit_of a.c ∷ []) ∷ decimal_of a.active.0 ∷ [])

stop-some : (n : ℕ) → 0 < length (stop_of n)
stop-some n = row-some (stop_word ∷ decimal_of n ∷ [])

last_some : (s : List ℕ) → 0 < length (last_of s)
unfolding last_of
last_some s =
    decide (eqb (length s) 0) (λ e. rw e (row-some (end_word ∷ [])))
    (λ e. rw e (decide (eqb (step_length s) 0) (λ f. rw f (stop-some 4)) (λ f. rw f (stop-some 3))))

told_as_some : (n : Option Next) (s : List ℕ) (r : Progress) → is_more n ≡ true → 0 < length (told_as n s r)
told_as_some (Some (next.Header k)) s r e = header_some r.table.rest.granule r.table.rest.count k.0
told_as_some (Some next.Step) s r e =
    decide (eqb (whole_of (left_in s r)) 0) (λ q. rw q (last_some (left_in s r))) (λ q. rw q (line-some _ _ _))
told_as_some (Some (next.Stop n)) s r e = stop-some n
told_as_some None s r e = absurd (let z : ◌≡◌ {A = ℕ} 0 1 = cc in omega arith)

pub told-some : (s : List ℕ) (r : Progress) → is_more r.next ≡ true → 0 < length (told_of s r)
unfolding told_of
told-some s r e = told_as_some r.next s r e

-- ---- a piece, turn by turn
pub goes-more : (room : ℕ) (r : Progress) → goes_on room r ≡ true → (is_more r.next ≡ true) × (64 ≤ room)
goes-more room r e =
    decide (is_more r.next) (λ q. (q, leb-true 64 room (rw q at e))) (λ q. absurd (let z : ◌≡◌ {A = Bool} false true = rw q at e in let y : ◌≡◌ {A = ℕ} 0 1 = cc in omega arith))

-- more turns than there is room change nothing
turns-enough : (j k room : ℕ) (s : List ℕ) (r : Progress) → room ≤ j → room ≤ k → piece_in j room s r ≡ piece_in k room s r
turns-enough zero zero room s r h g = refl
turns-enough zero (suc k) room s r h g =
    decide (goes_on room r) (λ e. absurd (omega (arith, (goes-more room r e).1))) (λ e. rw e)
turns-enough (suc j) zero room s r h g =
    decide (goes_on room r) (λ e. absurd (omega (arith, (goes-more room r e).1))) (λ e. rw e)
turns-enough (suc j) (suc k) room s r h g =
    decide (goes_on room r)
    (λ e.
    let l = told-some s r (goes-more room r e).0 in
    rw e (ap (before (told_of s r)) (turns-enough j k (room - length (told_of s r)) s (after_of s r) (omega arith) (omega arith))))
    (λ e. rw e)

module _ (room : ℕ) (s : List ℕ) (r : Progress) where
  pub piece_none : goes_on room r ≡ false → piece_of room s r ≡ none r
  unfolding piece_of
  piece_none e = none_in room
    where
      none_in : (k : ℕ) → piece_in k room s r ≡ none r
      none_in zero = refl
      none_in (suc k) = rw e

  pub piece_more : goes_on room r ≡ true → piece_of room s r ≡ before (told_of s r) (piece_of (room - length (told_of s r)) s (after_of s r))
  unfolding piece_of
  piece_more e =
      let l = told-some s r (goes-more room r e).0 in
      let m = (goes-more room r e).1 in
      turns-enough room (suc room) room s r (omega arith) (omega arith)
      ∙ rw e (ap (before (told_of s r)) (turns-enough room (room - length (told_of s r)) (room - length (told_of s r)) s (after_of s r) (omega arith) (omega arith)))

-- ---- a buffer a that is used up to place n is on its way: it is now b, used up to place m, and the listing stands at q
pub record Going (s : List ℕ) (r : Progress) (a : List ℕ) (n : ℕ) (b : List ℕ) (m : ℕ) (q : Progress) : Type 0 where
  pub text : List ℕ
  pub adds : Adds a n b m text
  pub same : piece_of (length a - n) s r ≡ before text (piece_of (length a - m) s q)
  pub place : m ≤ length a

pub going_none : (s : List ℕ) (r : Progress) (a : List ℕ) (n : ℕ) → n ≤ length a → Going s r a n a n r
going_none s r a n h = record { text = []; adds = nothing a n; same = refl; place = h }

-- a line more
pub going_more : {s : List ℕ} {r : Progress} {a : List ℕ} {n : ℕ} {b : List ℕ} {m : ℕ} {q : Progress} {c : List ℕ} {k : ℕ}
    → Going s r a n b m q → goes_on (length a - m) q ≡ true → Adds b m c k (told_of s q) → Going s r a n c k (after_of s q)
going_more {s} {r} {a} {n} {b} {m} {q} {c} {k} g e p =
    let l : length a - m - length (told_of s q) ≡ length a - k = omega (arith, p.place) in
    let i : m ≤ length b = omega (arith, g.place, g.adds.size) in
    record {
      text = g.text ++ told_of s q;
      adds = then g.adds p;
      same = g.same ∙ ap (before g.text) (piece_more (length a - m) s q e)
          ∙ rw (l, append_assoc g.text (told_of s q) (piece_of (length a - k) s (after_of s q)).text);
      place = omega (arith, inside i p, g.adds.size);
    }

-- no line more
pub going_over : {s : List ℕ} {r : Progress} {a : List ℕ} {n : ℕ} {b : List ℕ} {m : ℕ} {q : Progress} (more : Bool)
    → Going s r a n b m q → goes_on (length a - m) q ≡ false → more ≡ is_more q.next → FillsFrom n s r a b (record { used = m; more = more; run = q })
going_over {s} {r} {a} {n} {b} {m} {q} more g e h =
    let p : piece_of (length a - n) s r ≡ before g.text (none q) = g.same ∙ ap (before g.text) (piece_none (length a - m) s q e) in
    record {
      more = h ∙ ap (λ x. is_more x.run.next) (sym p);
      run = ap (λ x. x.run) (sym p);
      adds = rw p (then g.adds (nothing b m));
    }

-- what was on its way goes on from there
pub going_on : {s : List ℕ} {r : Progress} {a : List ℕ} {n : ℕ} {b : List ℕ} {m : ℕ} {q : Progress} {c : List ℕ} (f : Filled)
    → Going s r a n b m q → FillsFrom m s q b c f → FillsFrom n s r a c f
going_on {s} {r} {a} {n} {b} {m} {q} {c} f g h =
    let l : length b - m ≡ length a - m = omega (arith, g.adds.size) in
    let p : piece_of (length a - n) s r ≡ before g.text (piece_of (length b - m) s q) = g.same ∙ rw l in
    record {
      more = h.more ∙ ap (λ x. is_more x.run.next) (sym p);
      run = h.run ∙ ap (λ x. x.run) (sym p);
      adds = rw p (then g.adds h.adds);
    }

-- a buffer that was not used before
pub fills_all : {s : List ℕ} {r : Progress} {a b : List ℕ} (f : Filled) → FillsFrom 0 s r a b f → Fills s r a b f
fills_all {s} {r} {a} {b} f h =
    let z : length a - 0 ≡ length a = omega arith in
    let p : Adds a 0 b f.used (piece_of (length a) s r).text = rw z at h.adds in
    record { used = omega (arith, p.place); more = rw z at h.more; run = rw z at h.run; out = all-of p }

-- ---- the listing stands before a step
abbrev pub standing : ℕ → ℕ → Table → Progress
standing at number t = record { next = Some next.Step; at = at; number = number; table = t }

module _ (s : List ℕ) (at number : ℕ) (t : Table) where
  told-step : (w : ℕ) → w ≡ whole_of (drop at s) → (w ≡ 0 → ⊥)
      → told_of s (standing at number t) ≡ line_of number (get_or (drop at s) 0 0) (step_of t (take w (drop at s))).answer
  unfolding told_of
  told-step w e h = rw (← e, ne_eqb w 0 h)

  after-step : (w : ℕ) → w ≡ whole_of (drop at s) → (w ≡ 0 → ⊥)
      → after_of s (standing at number t) ≡ standing (at + w) (after number) (step_of t (take w (drop at s))).table
  unfolding after_of
  after-step w e h = rw (← e, ne_eqb w 0 h)

  told-last : 0 ≡ whole_of (drop at s) → told_of s (standing at number t) ≡ last_of (drop at s)
  unfolding told_of
  told-last e = rw (← e)

  after_last : 0 ≡ whole_of (drop at s) → after_of s (standing at number t) ≡ with_next None (standing at number t)
  unfolding after_of
  after_last e = rw (← e)

-- the number goes up to the last one that four bytes hold
pub saturated : (n : ℕ) → n < 4294967296 → min (n + 1) (2 ^ 32 - 1) ≡ after n
saturated n h =
    decide (ltb n 4294967295)
    (λ e. rw e (let l = ltb-true n 4294967295 e in omega arith))
    (λ e. rw e (let l = ltb-false n 4294967295 e in omega arith))

-- a whole step lies in the input
pub whole_in : (s : List ℕ) (at w : ℕ) → w ≡ whole_of (drop at s) → (w ≡ 0 → ⊥) → at + w ≤ length s
whole_in s at zero e h = absurd (h refl)
whole_in s at (suc w) e h = omega (arith, whole-fits (drop at s), length-drop at s)

-- a step more: x are its bytes and o is its outcome
pub going_step : {s : List ℕ} {r : Progress} {a : List ℕ} {n : ℕ} {b : List ℕ} {m : ℕ} {at number : ℕ} {t : Table} {c : List ℕ} {k : ℕ}
    → Going s r a n b m (standing at number t) → 64 ≤ length a - m
    → (w : ℕ) → w ≡ whole_of (drop at s) → (w ≡ 0 → ⊥)
    → (x : List ℕ) → x ≡ take w (drop at s) → (o : Outcome) → o ≡ step_of t x
    → Adds b m c k (line_of number (get_or (drop at s) 0 0) o.answer)
    → (l : ℕ) → l ≡ after number → Going s r a n c k (standing (at + w) l o.table)
going_step {s} {r} {a} {n} {b} {m} {at} {number} {t} {c} {k} g h w e z x f o i p l j =
    let y : o ≡ step_of t (take w (drop at s)) = i ∙ ap (step_of t) f in
    let q : told_of s (standing at number t) ≡ line_of number (get_or (drop at s) 0 0) o.answer =
    told-step s at number t w e z ∙ ap (λ u. line_of number (get_or (drop at s) 0 0) u.answer) (sym y) in
    let v : after_of s (standing at number t) ≡ standing (at + w) l o.table =
    after-step s at number t w e z ∙ rw (y, j) in
    rw v at (going_more g (le-leb 64 (length a - m) h) (rw (← q) at p))

-- a step more on the image u, which then is v
pub going_act : {s : List ℕ} {r : Progress} {a : List ℕ} {n : ℕ} {b : List ℕ} {m : ℕ} {at number : ℕ} {u v : List ℕ} {c : List ℕ} {k : ℕ}
    → Going s r a n b m (standing at number (load_of u)) → is_image u ≡ true → 64 ≤ length a - m
    → (w : ℕ) → w ≡ whole_of (drop at s) → (w ≡ 0 → ⊥)
    → (x : List ℕ) → x ≡ take w (drop at s) → (y : Answer) → Acts u x v y
    → Adds b m c k (line_of number (get_or (drop at s) 0 0) y)
    → (l : ℕ) → l ≡ after number → Going s r a n c k (standing (at + w) l (load_of v)) × (is_image v ≡ true)
going_act {s} {r} {a} {n} {b} {m} {at} {number} {u} {v} {c} {k} g i h w e z x f y d p l j =
    let q = acting_promises.acted u x v y (load_of u) d (record { image = i; loads = refl }) in
    let o : Adds b m c k (line_of number (get_or (drop at s) 0 0) (step_of (load_of u) x).answer) = rw q.0 at p in
    (rw q.1.loads (going_step g h w e z x f (step_of (load_of u) x) refl o l j), q.1.image)

-- the last line
pub going_last : {s : List ℕ} {r : Progress} {a : List ℕ} {n : ℕ} {b : List ℕ} {m : ℕ} {at number : ℕ} {t : Table} {c : List ℕ} {k : ℕ}
    → Going s r a n b m (standing at number t) → 64 ≤ length a - m → 0 ≡ whole_of (drop at s) → Adds b m c k (last_of (drop at s))
    → FillsFrom n s r a c (record { used = k; more = false; run = with_next None (standing at number t) })
going_last {s} {r} {a} {n} {b} {m} {at} {number} {t} {c} {k} g h e p =
    let y = going_more g (le-leb 64 (length a - m) h) (rw (← told-last s at number t e) at p) in
    going_over false (rw (after_last s at number t e) at y) refl refl

-- no room for a line more
pub going_full : {s : List ℕ} {r : Progress} {a : List ℕ} {n : ℕ} {b : List ℕ} {m : ℕ} {at number : ℕ} {t : Table}
    → Going s r a n b m (standing at number t) → length b - m < 64
    → FillsFrom n s r a b (record { used = m; more = true; run = standing at number t })
going_full {s} {r} {a} {n} {b} {m} {at} {number} {t} g h = going_over true g (lt-leb 64 (length a - m) (omega (arith, g.adds.size))) refl

-- ---- a whole buffer, by what is told first
small-room : (room : ℕ) (r : Progress) → room < 64 → goes_on room r ≡ false
small-room room r h = decide (is_more r.next) (λ e. rw (e, lt-leb 64 room h)) (λ e. rw e)

module _ (s : List ℕ) (r : Progress) (a : List ℕ) where
  done : (more : Bool) → goes_on (length a - 0) r ≡ false → more ≡ is_more r.next → Fills s r a a (record { used = 0; more = more; run = r })
  done more e h = fills_all _ (going_over more (going_none s r a 0 (omega arith)) e h)

  pub fill-small : (more : Bool) → length a < 64 → more ≡ is_more r.next → Fills s r a a (record { used = 0; more = more; run = r })
  fill-small more h e = done more (small-room (length a - 0) r (omega arith)) e

  pub fill-nothing : r.next ≡ None → Fills s r a a (record { used = 0; more = false; run = r })
  fill-nothing e = done false (rw e) (rw e)

  told-first : (n : Option Next) → r.next ≡ n → told_of s r ≡ told_as n s r
  unfolding told_of
  told-first n e = ap (λ x. told_as x s r) e

  after_first : (n : Option Next) → r.next ≡ n → after_of s r ≡ after_as n s r
  unfolding after_of
  after_first n e = ap (λ x. after_as x s r) e

  -- the first line
  going_first : (n : Option Next) → r.next ≡ n → is_more n ≡ true → 64 ≤ length a → {b : List ℕ} {k : ℕ} → Adds a 0 b k (told_as n s r) → Going s r a 0 b k (after_as n s r)
  going_first n e m h p =
      let l : goes_on (length a - 0) r ≡ true = rw (e, m) (le-leb 64 (length a - 0) (omega arith)) in
      rw (after_first n e) at (going_more (going_none s r a 0 (omega arith)) l (rw (← told-first n e) at p))

  pub fill_stop : (n : ℕ) → r.next ≡ Some (next.Stop n) → 64 ≤ length a → {b : List ℕ} {k : ℕ} → Adds a 0 b k (stop_of n)
      → Fills s r a b (record { used = k; more = false; run = with_next None r })
  fill_stop n e h p = fills_all _ (going_over false (going_first (Some (next.Stop n)) e refl h p) refl refl)

  pub fill_header : (t : TaskNo) → r.next ≡ Some (next.Header t) → 64 ≤ length a → {b c : List ℕ} {k : ℕ} (f : Filled)
      → Adds a 0 b k (header_of r.table t) → FillsFrom k s (with_next (Some next.Step) r) b c f → Fills s r a c f
  fill_header t e h f p q = fills_all f (going_on f (going_first (Some (next.Header t)) e refl h p) q)

  pub fill-steps : r.next ≡ Some next.Step → {b : List ℕ} (f : Filled) → FillsFrom 0 s (with_next (Some next.Step) r) a b f → Fills s r a b f
  fill-steps e f q =
      let y : with_next (Some next.Step) r ≡ r = λ i. record { next = sym e i; at = r.at; number = r.number; table = r.table } in
      fills_all f (rw y at q)
