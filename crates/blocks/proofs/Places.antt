-- The list of task addresses: the place of an address and the address at a place undo each other in a list without a
-- repeat; what a turn of a search says; what a repeat is.
use Prim.Native.Nat.{ℕ, zero, suc, ◌+◌, ◌-◌, ◌≤◌, ◌<◌}
use mathlib.Core.Path.{◌≡◌, refl, sym, ap, ◌∙◌}
use mathlib.Core.Logic.{◌↔◌, ◌≢◌}
use mathlib.Core.Bool.{Bool, true, false, cond, ◌||◌}
use mathlib.Core.List.{List, [], ◌∷◌}
use native.Mathlib.Numerals.{add-one}
use native.Mathlib.Omega.{arith}
use lib.Dec.{eqb, ltb}
use lib.ListN.{length, get_or, drop, drop_of_length-le, length-drop, get_or-eq_default}
use lib.Seq.{drop-cons}
use borrow.Author.Tests.{eq-eqb, ne_eqb, eqb-true, eqb-false, lt-ltb, le-ltb, ltb-true, ltb-false}
use Rattle.blocks.specs.Lists.{place_of, address_of, has_repeat, is_bad}

-- by cases on a test
pub decide : {P : Type 0} (b : Bool) → (b ≡ true → P) → (b ≡ false → P) → P
decide true f g = f refl
decide false f g = g refl

-- true is not false
pub clash : {P : Type 0} → true ≡ false → P
clash e = let z : ◌≡◌ {A = ℕ} 0 1 = cc in absurd (omega arith)

-- none of two
pub neither : (a b : Bool) → (a || b) ≡ false → (a ≡ false) × (b ≡ false)
neither false b h = (refl, h)
neither true b h = clash h

module _ (x : ℕ) where
  place_same : (y : ℕ) (ys : List ℕ) → x ≡ y → place_of x (y ∷ ys) ≡ 0
  unfolding place_of
  place_same y ys e = rw (eq-eqb x y e)

  place_other : (y : ℕ) (ys : List ℕ) → (x ≡ y → ⊥) → place_of x (y ∷ ys) ≡ suc (place_of x ys)
  unfolding place_of
  place_other y ys n = rw (ne_eqb x y n)

  -- a turn of a search from place i on
  module _ (l : List ℕ) (i : ℕ) where
    pub place_here : i < length l → x ≡ get_or l i 0 → place_of x (drop i l) ≡ 0
    place_here h e = ap (place_of x) (drop-cons l i 0 h) ∙ place_same (get_or l i 0) (drop (suc i) l) e

    pub place-next : i < length l → (x ≡ get_or l i 0 → ⊥) → place_of x (drop i l) ≡ suc (place_of x (drop (i + 1) l))
    place-next h n =
        rw (add-one i) (ap (place_of x) (drop-cons l i 0 h) ∙ place_other (get_or l i 0) (drop (suc i) l) n)

    pub place_end : length l ≤ i → place_of x (drop i l) ≡ 0
    unfolding place_of
    place_end h = ap (place_of x) (drop_of_length-le l {i = i} h)

  -- an address that is listed stands at its place
  pub place_found : (l : List ℕ) → place_of x l < length l → get_or l (place_of x l) 0 ≡ x
  unfolding place_of
  place_found [] h = absurd (omega arith)
  place_found (y ∷ ys) h =
      decide (eqb x y)
      (λ t. rw t (sym (eqb-true x y t)))
      (λ f. let k : suc (place_of x ys) < suc (length ys) = rw f at h in rw f (place_found ys (omega arith)))

-- the first place of what stands at a place is not behind it
pub place-first : (l : List ℕ) (i : ℕ) → i < length l → place_of (get_or l i 0) l ≤ i
place-first [] i h = absurd (omega arith)
place-first (y ∷ ys) zero h = rw (place_same y y ys refl) (omega arith)
place-first (y ∷ ys) (suc i) h =
    let x = get_or ys i 0 in
    decide (eqb x y)
    (λ t. let e = place_same x y ys (eqb-true x y t) in omega arith)
    (λ f.
    let e = place_other x y ys (eqb-false x y f) in
    let k = place-first ys i (omega arith) in
    omega arith)

-- ---- a repeat
repeat_of : (y : ℕ) (ys : List ℕ) → has_repeat (y ∷ ys) ≡ (ltb (place_of y ys) (length ys) || has_repeat ys)
unfolding has_repeat
repeat_of y ys = refl

-- in a list without a repeat the place of what stands at a place is that place
pub place-back : (l : List ℕ) (i : ℕ) → has_repeat l ≡ false → i < length l → place_of (get_or l i 0) l ≡ i
place-back [] i r h = absurd (omega arith)
place-back (y ∷ ys) zero r h = place_same y y ys refl
place-back (y ∷ ys) (suc i) r h =
    let x = get_or ys i 0 in
    let q = neither (ltb (place_of y ys) (length ys)) (has_repeat ys) (sym (repeat_of y ys) ∙ r) in
    decide (eqb x y)
    (λ t.
    let e : place_of x ys ≡ place_of y ys = ap (λ z. place_of z ys) (eqb-true x y t) in
    let k = ltb-false (place_of y ys) (length ys) q.0 in
    let m = place-first ys i (omega arith) in
    absurd (omega arith))
    (λ f. place_other x y ys (eqb-false x y f) ∙ ap suc (place-back ys i q.1 (omega arith)))

-- a turn of the search for a repeat, at place i
module _ (l : List ℕ) (i : ℕ) where
  module _ (h : i < length l) where
    repeat_turn : has_repeat (drop i l) ≡ (ltb (place_of (get_or l i 0) (drop (i + 1) l)) (length (drop (i + 1) l)) || has_repeat (drop (i + 1) l))
    repeat_turn = rw (add-one i) (ap has_repeat (drop-cons l i 0 h) ∙ repeat_of (get_or l i 0) (drop (suc i) l))

    pub repeat_here : i + 1 + place_of (get_or l i 0) (drop (i + 1) l) < length l → has_repeat (drop i l) ≡ true
    repeat_here k =
        let n = length-drop (i + 1) l in
        let t = lt-ltb (place_of (get_or l i 0) (drop (i + 1) l)) (length (drop (i + 1) l)) (omega arith) in
        repeat_turn ∙ ap (λ b. b || has_repeat (drop (i + 1) l)) t

    pub repeat_next : length l ≤ i + 1 + place_of (get_or l i 0) (drop (i + 1) l) → has_repeat (drop i l) ≡ has_repeat (drop (i + 1) l)
    repeat_next k =
        let n = length-drop (i + 1) l in
        let t = le-ltb (place_of (get_or l i 0) (drop (i + 1) l)) (length (drop (i + 1) l)) (omega arith) in
        repeat_turn ∙ ap (λ b. b || has_repeat (drop (i + 1) l)) t

  pub repeat_end : length l ≤ i → has_repeat (drop i l) ≡ false
  unfolding has_repeat
  repeat_end h = ap has_repeat (drop_of_length-le l {i = i} h)

-- a list that is not bad: its length, and no repeat
pub not-bad : (l : List ℕ) → is_bad l ≡ false → (length l ≤ 16) × (has_repeat l ≡ false)
unfolding is_bad
not-bad l e = let q = neither (ltb 16 (length l)) (has_repeat l) e in (ltb-false 16 (length l) q.0, q.1)

-- ---- for the code
pub place-most : (x : ℕ) (l : List ℕ) → place_of x l ≤ length l
unfolding place_of
place-most x [] = omega arith
place-most x (y ∷ ys) = go (eqb x y) (place-most x ys)
  where
    go : (b : Bool) → place_of x ys ≤ length ys → cond b 0 (suc (place_of x ys)) ≤ suc (length ys)
    go true h = omega arith
    go false h = omega arith

-- the address of a task from 1 on, by its place
pub address-some : (l : List ℕ) (t : ℕ) → (t ≡ 0 → ⊥) → get_or l (t - 1) 0 ≡ address_of l t
address-some l zero n = absurd (n refl)
address-some l (suc i) n = let e : suc i - 1 ≡ i = omega arith in ap (λ k. get_or l k 0) e

pub address-none : (l : List ℕ) (t : ℕ) → length l ≤ t - 1 → 0 ≡ address_of l t
address-none l zero h = refl
address-none l (suc i) h = sym (get_or-eq_default l 0 {n = i} (omega arith))

-- ---- what a place and a repeat are, in plain words
pub listed : (x : ℕ) (l : List ℕ) → (place_of x l < length l) ↔ ((i : ℕ) × ((i < length l) × (get_or l i 0 ≡ x)))
listed x l = (λ h. (place_of x l, (h, place_found x l h)), λ q. at q.0 q.1.0 q.1.1)
  where
    at : (i : ℕ) → i < length l → get_or l i 0 ≡ x → place_of x l < length l
    at i h e =
        let o : place_of (get_or l i 0) l ≡ place_of x l = ap (λ y. place_of y l) e in
        let k = place-first l i h in
        omega arith

apart : (l : List ℕ) → has_repeat l ≡ false → (i j : ℕ) → i < j → j < length l → get_or l i 0 ≢ get_or l j 0
apart l r i j h k e =
    let p : place_of (get_or l i 0) l ≡ i = place-back l i r (omega arith) in
    let q : place_of (get_or l j 0) l ≡ j = place-back l j r k in
    let o : place_of (get_or l i 0) l ≡ place_of (get_or l j 0) l = ap (λ y. place_of y l) e in
    omega arith

alike : (l : List ℕ) → ((i j : ℕ) → i < j → j < length l → get_or l i 0 ≢ get_or l j 0) → has_repeat l ≡ false
unfolding has_repeat
alike [] h = refl
alike (y ∷ ys) h =
    decide (ltb (place_of y ys) (length ys))
    (λ t.
    let k = ltb-true (place_of y ys) (length ys) t in
    absurd (h 0 (suc (place_of y ys)) (omega arith) (omega arith) (sym (place_found y ys k))))
    (λ f. rw f (alike ys (λ i j p q. h (suc i) (suc j) (omega arith) (omega arith))))

pub no_repeat : (l : List ℕ) → (has_repeat l ≡ false) ↔ ((i j : ℕ) → i < j → j < length l → get_or l i 0 ≢ get_or l j 0)
no_repeat l = (apart l, alike l)
