-- The list of a mended image: how its rules are found, how it is made note by note, and who stands in it.
use Prim.Native.Nat.{ℕ, zero, suc, ◌+◌, ◌-◌, ◌≤◌, ◌<◌}
use mathlib.Core.Path.{◌≡◌, refl, sym, ap, subst, ◌∙◌}
use mathlib.Core.Bool.{true, false, cond}
use mathlib.Core.List.{List, [], ◌∷◌, ◌++◌, append-nil, append_assoc}
use native.Mathlib.Omega.{arith}
use native.Mathlib.Numerals.{add-one}
use lib.Dec.{eqb}
use lib.ListN.{length, get_or, take, drop, length-append, drop_of_length-le}
use lib.Seq.{drop-cons}
use borrow.Author.Tests.{eq-eqb, ne_eqb, eqb-true, eqb-false}
use Rattle.executive.specs.Numbers.{most_tasks}
use Rattle.executive.specs.Lists.{pad, sum_of}
use Rattle.executive.proofs.Assured.{line-pad, pad-more}
use Rattle.mender.specs.declared.Note.{Note}
use Rattle.mender.specs.Listing.{no_note, note_of}
use Rattle.mender.specs.Promises.{times_noted, Ascends}
use Rattle.image.specs.declared.mending.Notes.{Notes}
use Rattle.image.specs.Mending.{is_plain, stray_rule, no_rule, rule_for, list_rule, notes_from, placed, with_note}
use Rattle.image.proofs.Alike.{decide}

-- ---- the rule of a task: the notes up to i are not its own
module _ (d k : ℕ) (ms : List Note) (i : ℕ) (h : i < length ms) (e : rule_for d k ms ≡ rule_for d k (drop i ms)) where
  from-here : rule_for d k ms ≡ cond (eqb k (get_or ms i no_note).task.0) (get_or ms i no_note).rule (rule_for d k (drop (i + 1) ms))
  unfolding rule_for
  from-here = e ∙ ap (rule_for d k) (drop-cons ms i no_note h) ∙ ap (λ (n : ℕ). cond (eqb k (get_or ms i no_note).task.0) (get_or ms i no_note).rule (rule_for d k (drop n ms))) (sym (add-one i))

  pub rule-hit : k ≡ (get_or ms i no_note).task.0 → (get_or ms i no_note).rule ≡ rule_for d k ms
  rule-hit z = sym (from-here ∙ rw (eq-eqb k (get_or ms i no_note).task.0 z))

  pub rule-pass : (k ≡ (get_or ms i no_note).task.0 → ⊥) → rule_for d k ms ≡ rule_for d k (drop (i + 1) ms)
  rule-pass z = from-here ∙ rw (ne_eqb k (get_or ms i no_note).task.0 z)

pub rule_end : (d k : ℕ) (ms : List Note) (i : ℕ) → length ms ≤ i → rule_for d k ms ≡ rule_for d k (drop i ms) → d ≡ rule_for d k ms
unfolding rule_for
rule_end d k ms i h e = sym (e ∙ ap (rule_for d k) (drop_of_length-le ms {i = i} h))

-- ---- the rule of an entry by whether its bytes are plain
module _ (s : List ℕ) (ms : List Note) (i : ℕ) where
  pub rule-plain : is_plain s i ≡ true → rule_for no_rule (i + 1) ms ≡ list_rule s ms i
  unfolding list_rule
  rule-plain e = rw (e, add-one i) refl

  pub rule-stray : is_plain s i ≡ false → rule_for stray_rule (i + 1) ms ≡ list_rule s ms i
  unfolding list_rule
  rule-stray e = rw (e, add-one i) refl

-- ---- the list is made note by note
abbrev pub standing : Notes → List Note
standing l = take l.noted l.list

pub record Turned (f : ℕ → ℕ) (l r : Notes) (i : ℕ) : Type 0 where
  pub tidy : r ≡ placed (standing r)
  pub few : r.noted ≤ i + 1
  pub more : standing r ++ notes_from f (16 - (i + 1)) (i + 1) ≡ standing l ++ notes_from f (16 - i) i

module _ (f : ℕ → ℕ) (l r : Notes) (i : ℕ) (t : l ≡ placed (standing l)) (c : l.noted ≤ i) (h : i < 16) where
  left : notes_from f (16 - i) i ≡ cond (eqb (f i) no_rule) (notes_from f (16 - (i + 1)) (i + 1)) (note_of (record { 0 = i + 1 }) (f i) ∷ notes_from f (16 - (i + 1)) (i + 1))
  unfolding notes_from
  left =
      let z : 16 - i ≡ suc (16 - (i + 1)) = omega arith in
      rw (z, add-one i) refl

  pub notes_turn : (x : ℕ) → x ≡ f i → r ≡ with_note (i + 1) x l → Turned f l r i
  notes_turn x ex er =
      decide (eqb (f i) no_rule)
      (λ b.
      let e : r ≡ l = er ∙ rw (ex, b) refl in
      record { tidy = e ∙ t ∙ ap (λ (y : Notes). placed (standing y)) (sym e); few = omega (arith, ap (λ (y : Notes). y.noted) e); more = ap (λ (y : Notes). standing y ++ notes_from f (16 - (i + 1)) (i + 1)) e ∙ ap (λ (ns : List Note). standing l ++ ns) (sym (left ∙ rw b refl)) })
      (λ b.
      let ns : List Note = standing l in
      let n : Note = note_of (record { 0 = i + 1 }) (f i) in
      let q : length ns ≡ l.noted = sym (ap (λ (y : Notes). y.noted) t) in
      let m : length ns + 1 ≡ length (ns ++ (n ∷ [])) = sym (length-append ns (n ∷ [])) in
      let e : r ≡ placed (ns ++ (n ∷ [])) =
      er ∙ ap (with_note (i + 1) x) t ∙ rw (ex, b) (λ j. record { list = pad-more no_note 16 ns n (omega (arith, q)) j; noted = m j }) in
      let s : standing r ≡ ns ++ (n ∷ []) = ap standing e ∙ line-pad no_note most_tasks (ns ++ (n ∷ [])) in
      record { tidy = e ∙ ap placed (sym s); few = omega (arith, ap (λ (y : Notes). y.noted) e, m, q); more = ap (λ (y : List Note). y ++ notes_from f (16 - (i + 1)) (i + 1)) s ∙ append_assoc ns (n ∷ []) (notes_from f (16 - (i + 1)) (i + 1)) ∙ ap (λ (y : List Note). ns ++ y) (sym (left ∙ rw b refl)) })

pub notes_end : (f : ℕ → ℕ) (l : Notes) (i : ℕ) → 16 ≤ i → l ≡ placed (standing l) → standing l ++ notes_from f (16 - i) i ≡ notes_from f 16 0 → l ≡ placed (notes_from f 16 0)
unfolding notes_from
notes_end f l i h t e =
    let z : 16 - i ≡ 0 = omega arith in
    let w : standing l ++ notes_from f 0 i ≡ notes_from f 16 0 = ap (λ (n : ℕ). standing l ++ notes_from f n i) (sym z) ∙ e in
    t ∙ ap placed (sym (append-nil (standing l)) ∙ w)

-- ---- who stands in it
nothing-more : (n : ℕ) → 0 + n ≡ n
nothing-more n = omega arith

module _ (k : ℕ) (x : Note) (ns : List Note) where
  times-hit : eqb k x.task.0 ≡ true → times_noted k (x ∷ ns) ≡ 1 + times_noted k ns
  unfolding sum_of
  times-hit b = rw b refl

  times-pass : eqb k x.task.0 ≡ false → times_noted k (x ∷ ns) ≡ times_noted k ns
  unfolding sum_of
  times-pass b = rw b (nothing-more (times_noted k ns))

module _ (f : ℕ → ℕ) where
  from-skip : (n i : ℕ) → eqb (f i) no_rule ≡ true → notes_from f (suc n) i ≡ notes_from f n (suc i)
  unfolding notes_from
  from-skip n i b = rw b refl

  from-take : (n i : ℕ) → eqb (f i) no_rule ≡ false → notes_from f (suc n) i ≡ note_of (record { 0 = suc i }) (f i) ∷ notes_from f n (suc i)
  unfolding notes_from
  from-take n i b = rw b refl

  times-past : (n i k : ℕ) → k ≤ i → times_noted k (notes_from f n i) ≡ 0
  unfolding notes_from sum_of
  times-past zero i k h = refl
  times-past (suc n) i k h =
      let w : times_noted k (notes_from f n (suc i)) ≡ 0 = times-past n (suc i) k (omega arith) in
      decide (eqb (f i) no_rule)
      (λ b. ap (times_noted k) (from-skip n i b) ∙ w)
      (λ b. ap (times_noted k) (from-take n i b) ∙ times-pass k (note_of (record { 0 = suc i }) (f i)) (notes_from f n (suc i)) (ne_eqb k (suc i) (λ z. omega (arith, z))) ∙ w)

  pub times-from : (n i j : ℕ) → i ≤ j → j < i + n → times_noted (suc j) (notes_from f n i) ≡ cond (eqb (f j) no_rule) 0 1
  times-from zero i j h l = absurd (omega arith)
  times-from (suc n) i j h l =
      let x : Note = note_of (record { 0 = suc i }) (f i) in
      let ns : List Note = notes_from f n (suc i) in
      decide (eqb i j)
      (λ z.
      let e : i ≡ j = eqb-true i j z in
      let w : times_noted (suc j) ns ≡ 0 = times-past n (suc i) (suc j) (omega (arith, e)) in
      decide (eqb (f i) no_rule)
      (λ b. ap (times_noted (suc j)) (from-skip n i b) ∙ w ∙ rw (← e, b) refl)
      (λ b. ap (times_noted (suc j)) (from-take n i b) ∙ times-hit (suc j) x ns (eq-eqb (suc j) (suc i) (omega (arith, e))) ∙ ap (λ (y : ℕ). 1 + y) w ∙ rw (← e, b) refl))
      (λ z.
      let e : i ≡ j → ⊥ = eqb-false i j z in
      let w : times_noted (suc j) ns ≡ cond (eqb (f j) no_rule) 0 1 = times-from n (suc i) j (omega (arith, e)) (omega arith) in
      decide (eqb (f i) no_rule)
      (λ b. ap (times_noted (suc j)) (from-skip n i b) ∙ w)
      (λ b. ap (times_noted (suc j)) (from-take n i b) ∙ times-pass (suc j) x ns (ne_eqb (suc j) (suc i) (λ y. e (omega (arith, y)))) ∙ w))

  pub none_from : (n i : ℕ) → ((j : ℕ) → j < i + n → f j ≡ no_rule) → notes_from f n i ≡ []
  unfolding notes_from
  none_from zero i g = refl
  none_from (suc n) i g = from-skip n i (eq-eqb (f i) no_rule (g i (omega arith))) ∙ none_from n (suc i) (λ j l. g j (omega arith))

  pub ascends-from : (n i k : ℕ) → k ≤ i → i + n ≤ most_tasks → Ascends k (notes_from f n i)
  unfolding notes_from
  ascends-from zero i k h l = tt
  ascends-from (suc n) i k h l =
      decide (eqb (f i) no_rule)
      (λ b. rw (from-skip n i b) (ascends-from n (suc i) k (omega arith) (omega arith)))
      (λ b. rw (from-take n i b) (omega arith, omega arith, ascends-from n (suc i) (suc i) (omega arith) (omega arith)))

  -- what holds of the note of each place that is listed holds of each note
  front : (P : Note → Type 0) (x : Note) (ns : List Note) → P x → ((m : ℕ) → m < length ns → P (get_or ns m no_note)) → (m : ℕ) → m < length (x ∷ ns) → P (get_or (x ∷ ns) m no_note)
  front P x ns a b zero h = a
  front P x ns a b (suc m) h = b m (omega arith)

  pub each-note : (P : Note → Type 0) → (n i : ℕ) → ((j : ℕ) → j < i + n → eqb (f j) no_rule ≡ false → P (note_of (record { 0 = suc j }) (f j)))
      → (m : ℕ) → m < length (notes_from f n i) → P (get_or (notes_from f n i) m no_note)
  unfolding notes_from
  each-note P zero i g = λ m h. absurd (omega arith)
  each-note P (suc n) i g =
      let w : (m : ℕ) → m < length (notes_from f n (suc i)) → P (get_or (notes_from f n (suc i)) m no_note) = each-note P n (suc i) (λ j l. g j (omega arith)) in
      decide (eqb (f i) no_rule)
      (λ b. subst (λ (ns : List Note). (m : ℕ) → m < length ns → P (get_or ns m no_note)) (sym (from-skip n i b)) w)
      (λ b. subst (λ (ns : List Note). (m : ℕ) → m < length ns → P (get_or ns m no_note)) (sym (from-take n i b)) (front P (note_of (record { 0 = suc i }) (f i)) (notes_from f n (suc i)) (g i (omega arith) b) w))

-- ---- a task's rule among some notes: it stands in none of them, or that is the rule of one
pub data Found (d k r : ℕ) (ns : List Note) : Type 0 where
  unnoted : times_noted k ns ≡ 0 → r ≡ d → Found d k r ns
  noted-at : (j : ℕ) → j < length ns → get_or ns j no_note ≡ note_of (record { 0 = k }) r → Found d k r ns

pub find : (d k : ℕ) (ns : List Note) → Found d k (rule_for d k ns) ns
unfolding rule_for sum_of
find d k [] = unnoted refl refl
find d k (x ∷ ns) =
    decide (eqb k x.task.0)
    (λ b. let e : x.task.0 ≡ k = sym (eqb-true k x.task.0 b) in rw b (noted-at 0 (omega arith) (λ j. record { task = record { 0 = e j }; rule = x.rule })))
    (λ b. rw b (go b (find d k ns)))
  where
    go : eqb k x.task.0 ≡ false → Found d k (rule_for d k ns) ns → Found d k (rule_for d k ns) (x ∷ ns)
    go b (unnoted e z) = unnoted (times-pass k x ns b ∙ e) z
    go b (noted-at j l e) = noted-at (suc j) (omega arith) e

pub unnoted-rule : (d k : ℕ) (ns : List Note) → times_noted k ns ≡ 0 → rule_for d k ns ≡ d
unfolding rule_for sum_of
unnoted-rule d k [] h = refl
unnoted-rule d k (x ∷ ns) h =
    decide (eqb k x.task.0)
    (λ b. absurd (omega (arith, times-hit k x ns b, h)))
    (λ b. rw b (unnoted-rule d k ns (sym (times-pass k x ns b) ∙ h)))

-- places behind the last note name nobody
pub rule-pad : (d i n : ℕ) (ns : List Note) → rule_for d (suc i) (pad n no_note ns) ≡ rule_for d (suc i) ns
unfolding rule_for pad
rule-pad d i zero ns = refl
rule-pad d i (suc n) [] = rw (ne_eqb (suc i) 0 (λ z. omega (arith, z))) (rule-pad d i n [])
rule-pad d i (suc n) (x ∷ ns) = ap (λ (r : ℕ). cond (eqb (suc i) x.task.0) x.rule r) (rule-pad d i n ns)
