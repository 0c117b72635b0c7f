-- The pieces are the listing: what is told and what is left to tell are together the same at every turn, and what is
-- left grows less.
use Prim.Native.Nat.{ℕ, zero, suc, ◌+◌, ◌-◌, ◌≤◌, ◌<◌}
use mathlib.Core.Path.{◌≡◌, refl, sym, ap, ◌∙◌}
use mathlib.Core.Bool.{true, false}
use mathlib.Core.List.{List, [], ◌∷◌, ◌++◌, append_assoc, append-nil}
use native.Mathlib.Omega.{arith}
use native.Mathlib.Numerals.{add-one}
use lib.ListN.{length, get_or, take, drop, length-append, length-drop}
use lib.Seq.{drop-drop}
use lib.Dec.{eqb, ltb}
use borrow.Author.Tests.{lt-ltb, ltb-false, eqb-false, le-leb}
use Rattle.executive.specs.declared.Table.{Table}
use Rattle.executive.specs.Configuration.{configuration_in}
use Rattle.executive.specs.Step.{step_of}
use Rattle.std.specs.Prelude.{Option, Some, None}
use Rattle.bench.specs.declared.Next.{Next}
use Rattle.bench.specs.declared.Next.TheVariants as next
use Rattle.bench.specs.declared.Progress.{Progress}
use Rattle.bench.specs.declared.Filled.{Filled}
use Rattle.bench.specs.Lines.{header_of, line_of, stop_of}
use Rattle.bench.specs.Listing.{most_bytes, whole_of, last_of, steps_of, made_of, listing_of}
use Rattle.bench.specs.Pieces.{is_more, after, left_in, SoundAs, Sound, lines_as, lines, told_as, told_of, after_as, after_of, goes_on, piece_in, piece_of, start_of, Fills, poured_by, Roomy, Promise}
use Rattle.text.proofs.Assured.{decide}
use Rattle.bench.proofs.Told.{whole-fits}
use Rattle.bench.proofs.Turns.{goes-more}

-- ---- the turns of the definition are enough
no_whole : (s : List ℕ) → length s ≤ 0 → whole_of s ≡ 0
no_whole s h = omega (arith, whole-fits s)

-- a step takes a byte or more
shorter : (s : List ℕ) → eqb (whole_of s) 0 ≡ false → length (drop (whole_of s) s) < length s
shorter s e =
    let z = eqb-false (whole_of s) 0 e in
    some (whole_of s) z (whole-fits s) (length-drop (whole_of s) s)
  where
    some : (w : ℕ) → (w ≡ 0 → ⊥) → w ≤ length s → length (drop w s) ≡ length s - w → length (drop w s) < length s
    some zero z h l = absurd (z refl)
    some (suc w) z h l = omega arith

pub steps-enough : (j k n : ℕ) (t : Table) (s : List ℕ) → length s ≤ j → length s ≤ k → steps_of j n t s ≡ steps_of k n t s
unfolding steps_of
steps-enough zero zero n t s h g = refl
steps-enough zero (suc k) n t s h g = rw (no_whole s h)
steps-enough (suc j) zero n t s h g = rw (no_whole s g)
steps-enough (suc j) (suc k) n t s h g =
    decide (eqb (whole_of s) 0)
    (λ e. rw e)
    (λ e.
    let l = shorter s e in
    rw e (ap (λ x. line_of n (get_or s 0 0) (step_of t (take (whole_of s) s)).answer ++ x) (steps-enough j k (suc n) (step_of t (take (whole_of s) s)).table (drop (whole_of s) s) (omega arith) (omega arith))))

-- ---- what is left to tell
abbrev pub left_as : Option Next → List ℕ → Progress → List ℕ
left_as (Some (next.Header k)) s r = header_of r.table k ++ steps_of (length s) r.number r.table (left_in s r)
left_as (Some next.Step) s r = steps_of (length s) r.number r.table (left_in s r)
left_as (Some (next.Stop n)) s r = stop_of n
left_as None s r = []

abbrev pub left : List ℕ → Progress → List ℕ
left s r = left_as r.next s r

no_more : (n : Option Next) (s : List ℕ) (r : Progress) → is_more n ≡ false → left_as n s r ≡ []
no_more (Some n) s r e = absurd (let z : ◌≡◌ {A = ℕ} 0 1 = cc in omega arith)
no_more None s r e = refl

no_lines : (n : Option Next) (s : List ℕ) (r : Progress) → lines_as n s r ≤ 0 → is_more n ≡ false
no_lines (Some (next.Header k)) s r h = absurd (omega arith)
no_lines (Some next.Step) s r h = absurd (omega arith)
no_lines (Some (next.Stop n)) s r h = absurd (omega arith)
no_lines None s r h = refl

-- ---- a turn
pub record Turn (l t : List ℕ) (k : ℕ) (s : List ℕ) (q : Progress) : Type 0 where
  pub same : l ≡ t ++ left s q
  pub sound : Sound s q
  pub fewer : lines s q < k

step-turn : (s : List ℕ) (r : Progress) → SoundAs (Some next.Step) s r
    → Turn (left_as (Some next.Step) s r) (told_as (Some next.Step) s r) (lines_as (Some next.Step) s r) s (after_as (Some next.Step) s r)
unfolding steps_of
step-turn s r h =
    let u = left_in s r in
    let l : length u ≤ length s = omega (arith, length-drop r.at s) in
    let p : steps_of (length s) r.number r.table u ≡ steps_of (suc (length s)) r.number r.table u =
    steps-enough (length s) (suc (length s)) r.number r.table u l (omega arith) in
    decide (eqb (whole_of u) 0)
    (λ e. rw e (record { same = p ∙ rw e (sym (append-nil (last_of u))); sound = tt; fewer = omega arith }))
    (λ e.
    let w = whole_of u in
    let m = shorter u e in
    let d : drop w u ≡ drop (r.at + w) s = drop-drop w r.at s in
    let z : length (drop (r.at + w) s) < length u = rw d at m in
    let a : after r.number ≡ suc r.number = rw (lt-ltb r.number 4294967295 (omega arith)) (add-one r.number) in
    rw e (record { same = p ∙ rw (e, d, a); sound = rw a (omega arith); fewer = omega arith }))

turn_as : (n : Option Next) (s : List ℕ) (r : Progress) → SoundAs n s r → is_more n ≡ true → Turn (left_as n s r) (told_as n s r) (lines_as n s r) s (after_as n s r)
turn_as (Some (next.Header k)) s r h e = record { same = refl; sound = h; fewer = omega arith }
turn_as (Some next.Step) s r h e = step-turn s r h
turn_as (Some (next.Stop n)) s r h e = record { same = sym (append-nil (stop_of n)); sound = tt; fewer = omega arith }
turn_as None s r h e = absurd (let z : ◌≡◌ {A = ℕ} 0 1 = cc in omega arith)

turn : (s : List ℕ) (r : Progress) → Sound s r → is_more r.next ≡ true → Turn (left s r) (told_of s r) (lines s r) s (after_of s r)
unfolding told_of after_of
turn s r h e = turn_as r.next s r h e

-- ---- a piece, and pieces one after the other: the same with no turn or with some
pub record Told (l t : List ℕ) (k : ℕ) (s : List ℕ) (q : Progress) : Type 0 where
  pub same : l ≡ t ++ left s q
  pub sound : Sound s q
  pub fewer : lines s q ≤ k

stay : (s : List ℕ) (r : Progress) → Sound s r → Told (left s r) [] (lines s r) s r
stay s r h = record { same = refl; sound = h; fewer = omega arith }

move : {l t u : List ℕ} {j : ℕ} {s : List ℕ} {q p : Progress} → Told l t j s q → Told (left s q) u (lines s q) s p → Told l (t ++ u) j s p
move {l} {t} {u} {j} {s} {q} {p} a b = record {
  same = a.same ∙ ap (λ x. t ++ x) b.same ∙ sym (append_assoc t u (left s p));
  sound = b.sound;
  fewer = omega (arith, a.fewer, b.fewer);
}

turned : {l t : List ℕ} {k : ℕ} {s : List ℕ} {q : Progress} → Turn l t k s q → Told l t k s q
turned a = record { same = a.same; sound = a.sound; fewer = omega (arith, a.fewer) }

piece_told : (k room : ℕ) (s : List ℕ) (r : Progress) → Sound s r → Told (left s r) (piece_in k room s r).text (lines s r) s (piece_in k room s r).run
piece_told zero room s r h = stay s r h
piece_told (suc k) room s r h =
    decide (goes_on room r)
    (λ e.
    let t = turn s r h (goes-more room r e).0 in
    rw e (move (turned t) (piece_told k (room - length (told_of s r)) s (after_of s r) t.sound)))
    (λ e. rw e (stay s r h))

-- a piece with room for a line has one or more
pub piece_fewer : (room : ℕ) (s : List ℕ) (r : Progress) → Sound s r → 64 ≤ room → is_more r.next ≡ true → lines s (piece_of room s r).run < lines s r
unfolding piece_of
piece_fewer zero s r h g e = absurd (omega arith)
piece_fewer (suc k) s r h g e =
    let t = turn s r h e in
    let o : goes_on (suc k) r ≡ true = rw e (le-leb 64 (suc k) g) in
    rw o (omega (arith, t.fewer, (piece_told k (suc k - length (told_of s r)) s (after_of s r) t.sound).fewer))

pub piece-of : (room : ℕ) (s : List ℕ) (r : Progress) → Sound s r → Told (left s r) (piece_of room s r).text (lines s r) s (piece_of room s r).run
unfolding piece_of
piece-of room s r h = piece_told room room s r h

poured_told : (ns s : List ℕ) (r : Progress) → Sound s r → Told (left s r) (poured_by ns s r).text (lines s r) s (poured_by ns s r).run
poured_told [] s r h = stay s r h
poured_told (n ∷ ns) s r h = let t = piece-of n s r h in move t (poured_told ns s (piece_of n s r).run t.sound)

none-lines : (n : Option Next) (s : List ℕ) (r : Progress) → is_more n ≡ false → lines_as n s r ≡ 0
none-lines (Some n) s r e = absurd (let z : ◌≡◌ {A = ℕ} 0 1 = cc in omega arith)
none-lines None s r e = refl

poured_fewer : (ns s : List ℕ) (r : Progress) → Sound s r → Roomy ns → lines s (poured_by ns s r).run ≤ lines s r - length ns
poured_fewer [] s r h g = omega arith
poured_fewer (n ∷ ns) s r h g =
    let t = piece-of n s r h in
    let i = poured_fewer ns s (piece_of n s r).run t.sound g.1 in
    decide (is_more r.next)
    (λ e. omega (arith, i, piece_fewer n s r h g.0 e))
    (λ e. omega (arith, i, t.fewer, none-lines r.next s r e))

-- ---- the start
start-sound : (s : List ℕ) → Sound s (start_of s)
unfolding start_of
start-sound s =
    decide (ltb most_bytes (length s))
    (λ e. rw e tt)
    (λ e.
    rw e (decide (eqb (made_of s).answer.number 0)
    (λ f. rw f (omega (arith, ltb-false most_bytes (length s) e, length-drop (configuration_in s) s)))
    (λ f. rw f tt)))

start_left : (s : List ℕ) → left s (start_of s) ≡ listing_of s
unfolding start_of listing_of
start_left s =
    decide (ltb most_bytes (length s))
    (λ e. rw e)
    (λ e. rw e (decide (eqb (made_of s).answer.number 0) (λ f. rw f) (λ f. rw f)))

start-lines : (s : List ℕ) → lines s (start_of s) ≤ length s + 2
unfolding start_of
start-lines s =
    decide (ltb most_bytes (length s))
    (λ e. rw e (omega arith))
    (λ e.
    rw e (decide (eqb (made_of s).answer.number 0)
    (λ f. rw f (omega (arith, length-drop (configuration_in s) s)))
    (λ f. rw f (omega arith))))

-- ---- for a program that fills until there is no more
start-more : (s : List ℕ) → is_more (start_of s).next ≡ true
unfolding start_of
start-more s = refl

module _ (s : List ℕ) (r : Progress) (a b : List ℕ) (f : Filled) (p : Fills s r a b f) where
  filled_in : f.used ≤ length b
  filled_in =
      let t = (piece_of (length a) s r).text in
      omega (arith, p.used, ap length p.out, length-append t (drop (length t) a))

  module _ (h : Sound s r) where
    filled-sound : Sound s f.run
    filled-sound = rw p.run (piece-of (length a) s r h).sound

    filled-fewer : 64 ≤ length a → is_more r.next ≡ true → lines s f.run < lines s r
    filled-fewer g e = rw p.run (piece_fewer (length a) s r h g e)

  filled_more : f.more ≡ true → is_more f.run.next ≡ true
  filled_more e = rw p.run (sym p.more ∙ e)

-- ---- all of it
pub promise : Promise
promise = record {
  turns = steps-enough;
  whole = λ s ns e.
      let t = poured_told ns s (start_of s) (start-sound s) in
      let p = poured_by ns s (start_of s) in
      sym (append-nil p.text) ∙ ap (λ x. p.text ++ x) (sym (no_more p.run.next s p.run e)) ∙ sym t.same ∙ start_left s;
  ends = λ s ns g h.
      let p = poured_by ns s (start_of s) in
      no_lines p.run.next s p.run (omega (arith, poured_fewer ns s (start_of s) (start-sound s) g, start-lines s));
  start-sound = start-sound;
  start-more = start-more;
  within = filled_in;
  sound = filled-sound;
  fewer = filled-fewer;
  more = filled_more;
  start-determined = λ s x y p q. p ∙ sym q;
  settled = λ s r a b c f g p q. (
    p.out ∙ sym q.out,
    λ i. record { used = (p.used ∙ sym q.used) i; more = (p.more ∙ sym q.more) i; run = (p.run ∙ sym q.run) i },
  );
}
