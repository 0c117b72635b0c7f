-- Parts of bytes that stand one behind the other: what is written into one of them, what is read of it; a row of equal
-- blocks with one of them changed, closed up, or opened. Nothing here knows of the table.
use Prim.Native.Nat.{ℕ, zero, suc, ◌+◌, ◌-◌, ◌*◌, ◌≤◌, ◌<◌}
use Prim.{Unit}
use mathlib.Core.Path.{◌≡◌, refl, sym, ap, ◌∙◌}
use mathlib.Core.List.{List, [], ◌∷◌, ◌++◌, append_assoc, append-nil}
use native.Mathlib.Omega.{arith}
use native.Mathlib.Nat.{add_assoc, suc-mul, zero-mul, not-suc-le-zero, le_of_suc-le-suc}
use lib.ListN.{length, get_or, take, drop, set, length-append, length-drop, get_or-append}
use lib.Seq.{take-append-le, drop-append-le, take-append-add, drop-append-add, get_or-append-add, take_at, drop_at, length-take-le, split_at, take-length, drop-length, take-add}
use Rattle.executive.specs.Lists.{closed_at}
use Rattle.executive.specs.Table.{slid_of}
use Rattle.image.specs.Blocks.{row, Each, written}
use Rattle.image.proofs.Spans.{Wide}

-- ---- in the first of two runs of bytes, and past it
pub written-front : (m q : List ℕ) (at : ℕ) (bs : List ℕ) → at + length bs ≤ length m → written (m ++ q) at bs ≡ written m at bs ++ q
unfolding written
written-front m q at bs h =
    ap (λ l. l ++ (bs ++ drop (at + length bs) (m ++ q))) (take-append-le at m q (omega arith))
    ∙ ap (λ l. take at m ++ (bs ++ l)) (drop-append-le (at + length bs) m q h)
    ∙ simp append_assoc

pub written-past : (p o : List ℕ) (n at : ℕ) (bs : List ℕ) → length p ≡ n → written (p ++ o) (n + at) bs ≡ p ++ written o at bs
unfolding written
written-past p o n at bs e =
    rw (← e, take-append-add p o at, add_assoc (length p) at (length bs), drop-append-add p o (at + length bs)) (append_assoc p (take at o) (bs ++ drop (at + length bs) o))

pub written-length : (o : List ℕ) (at : ℕ) (bs : List ℕ) → at + length bs ≤ length o → length (written o at bs) ≡ length o
unfolding written
written-length o at bs h = simp (length-append, length-take-le at o (omega arith), length-drop) (omega arith)

-- ---- parts one behind the other, of the lengths ns
unfoldable pub joined : List (List ℕ) → List ℕ
joined [] = []
joined (p ∷ ps) = p ++ joined ps

abbrev pub offset : List ℕ → ℕ → ℕ
offset [] d = 0
offset (n ∷ ns) zero = 0
offset (n ∷ ns) (suc d) = n + offset ns d

abbrev pub Sized : List ℕ → List (List ℕ) → Type 0
Sized [] [] = Unit {0}
Sized [] (p ∷ ps) = ⊥
Sized (n ∷ ns) [] = ⊥
Sized (n ∷ ns) (p ∷ ps) = (length p ≡ n) × Sized ns ps

-- bytes written into part d
pub join_put : (ns : List ℕ) (ps : List (List ℕ)) → Sized ns ps → (d at : ℕ) (bs : List ℕ) → d < length ns → at + length bs ≤ get_or ns d 0
    → written (joined ps) (offset ns d + at) bs ≡ joined (set ps d (written (get_or ps d []) at bs))
unfolding joined
join_put [] [] z d at bs h l = absurd (not-suc-le-zero h)
join_put [] (p ∷ ps) z d at bs h l = absurd z
join_put (n ∷ ns) [] z d at bs h l = absurd z
join_put (n ∷ ns) (p ∷ ps) z zero at bs h l =
    let e = z.0 in
    let y : 0 + at ≡ at = omega arith in
    rw y (written-front p (joined ps) at bs (omega arith))
join_put (n ∷ ns) (p ∷ ps) z (suc d) at bs h l =
    rw (add_assoc n (offset ns d) at) (written-past p (joined ps) n (offset ns d + at) bs z.0 ∙ ap (λ q. p ++ q) (join_put ns ps z.1 d at bs (le_of_suc-le-suc h) l))

pub sized_put : (ns : List ℕ) (ps : List (List ℕ)) → Sized ns ps → (d at : ℕ) (bs : List ℕ) → at + length bs ≤ get_or ns d 0 → Sized ns (set ps d (written (get_or ps d []) at bs))
sized_put [] [] z d at bs l = tt
sized_put [] (p ∷ ps) z d at bs l = absurd z
sized_put (n ∷ ns) [] z d at bs l = absurd z
sized_put (n ∷ ns) (p ∷ ps) z zero at bs l = let e = z.0 in (written-length p at bs (omega arith) ∙ e, z.1)
sized_put (n ∷ ns) (p ∷ ps) z (suc d) at bs l = (z.0, sized_put ns ps z.1 d at bs l)

-- some bytes of part d, and one of them
pub join-slice : (ns : List ℕ) (ps : List (List ℕ)) → Sized ns ps → (d a n : ℕ) → d < length ns → a + n ≤ get_or ns d 0
    → take n (drop (offset ns d + a) (joined ps)) ≡ take n (drop a (get_or ps d []))
unfolding joined
join-slice [] [] z d a n h l = absurd (not-suc-le-zero h)
join-slice [] (p ∷ ps) z d a n h l = absurd z
join-slice (m ∷ ns) [] z d a n h l = absurd z
join-slice (m ∷ ns) (p ∷ ps) z zero a n h l =
    let e = z.0 in
    let y : 0 + a ≡ a = omega arith in
    let k : length (drop a p) ≡ length p - a = length-drop a p in
    rw y (ap (take n) (drop-append-le a p (joined ps) (omega arith)) ∙ take-append-le n (drop a p) (joined ps) (omega arith))
join-slice (m ∷ ns) (p ∷ ps) z (suc d) a n h l =
    rw (← z.0, add_assoc (length p) (offset ns d) a) (ap (take n) (drop-append-add p (joined ps) (offset ns d + a)) ∙ join-slice ns ps z.1 d a n (le_of_suc-le-suc h) l)

pub join-read : (ns : List ℕ) (ps : List (List ℕ)) → Sized ns ps → (d at : ℕ) → d < length ns → at < get_or ns d 0
    → get_or (joined ps) (offset ns d + at) 0 ≡ get_or (get_or ps d []) at 0
unfolding joined
join-read [] [] z d at h l = absurd (not-suc-le-zero h)
join-read [] (p ∷ ps) z d at h l = absurd z
join-read (m ∷ ns) [] z d at h l = absurd z
join-read (m ∷ ns) (p ∷ ps) z zero at h l =
    let e = z.0 in
    let y : 0 + at ≡ at = omega arith in
    rw y (get_or-append p (joined ps) 0 at (omega arith))
join-read (m ∷ ns) (p ∷ ps) z (suc d) at h l =
    rw (← z.0, add_assoc (length p) (offset ns d) at) (get_or-append-add p (joined ps) (offset ns d + at) 0 ∙ join-read ns ps z.1 d at (le_of_suc-le-suc h) l)

-- ---- bytes closed up, and opened: a and c are the lengths of what stands before and of what moves
pub shift_up : (x b y z : List ℕ) (a w c : ℕ) → length x ≡ a → length b ≡ w → length y ≡ c → length z ≡ w
    → written (x ++ (b ++ y)) a (take c (drop (a + w) (x ++ (b ++ y))) ++ z) ≡ x ++ (y ++ z)
unfolding written
shift_up x b y z a w c ea eb ey ez =
    let d : drop (a + w) (x ++ (b ++ y)) ≡ y = ap (λ n. drop (n + w) (x ++ (b ++ y))) (sym ea) ∙ drop-append-add x (b ++ y) w ∙ drop_at b y w eb in
    let t : take c (drop (a + w) (x ++ (b ++ y))) ≡ y = ap (take c) d ∙ ap (λ n. take n y) (sym ey) ∙ take-length y in
    let l : length (y ++ z) ≡ length (b ++ y) = simp length-append (omega arith) in
    let f : drop (a + length (y ++ z)) (x ++ (b ++ y)) ≡ [] =
    ap (λ n. drop (a + n) (x ++ (b ++ y))) l ∙ ap (λ n. drop (n + length (b ++ y)) (x ++ (b ++ y))) (sym ea) ∙ drop-append-add x (b ++ y) (length (b ++ y)) ∙ drop-length (b ++ y) in
    rw (t, f, take_at x (b ++ y) a ea) (ap (λ q. x ++ q) (append-nil (y ++ z)))

pub shift_down : (x m b y k : List ℕ) (a w c : ℕ) → length x ≡ a → length m ≡ c → length b ≡ w → length k ≡ w
    → written (x ++ (m ++ (b ++ y))) a (k ++ take c (drop a (x ++ (m ++ (b ++ y))))) ≡ x ++ (k ++ (m ++ y))
unfolding written
shift_down x m b y k a w c ea em eb ek =
    let v = m ++ (b ++ y) in
    let t : take c (drop a (x ++ v)) ≡ m = ap (take c) (drop_at x v a ea) ∙ take_at m (b ++ y) c em in
    let l : length (k ++ m) ≡ length m + w = simp length-append (omega arith) in
    let f : drop (a + length (k ++ m)) (x ++ v) ≡ y =
    ap (λ n. drop (a + n) (x ++ v)) l ∙ ap (λ n. drop (n + (length m + w)) (x ++ v)) (sym ea) ∙ drop-append-add x v (length m + w) ∙ drop-append-add m (b ++ y) w ∙ drop_at b y w eb in
    rw (t, f, take_at x v a ea) (ap (λ q. x ++ q) (append_assoc k m y))

pub closed-length : {A : Type 0} (d : A) (p : List A) (at : ℕ) → at < length p → length (closed_at d p at) ≡ length p
unfolding closed_at
closed-length d p at h = simp (length-append, length-take-le at p (omega arith), length-drop) (omega arith)

-- ---- a row of blocks
module _ {A : Type 0} (f : A → List ℕ) where
  pub row-append : (xs ys : List A) → row f (xs ++ ys) ≡ row f xs ++ row f ys
  unfolding row
  row-append [] ys = refl
  row-append (x ∷ xs) ys = ap (λ l. f x ++ l) (row-append xs ys) ∙ sym (append_assoc (f x) (row f xs) (row f ys))

  row-parted : (xs : List A) (i : ℕ) (d : A) → i < length xs → row f xs ≡ row f (take i xs) ++ (f (get_or xs i d) ++ row f (drop (suc i) xs))
  unfolding row
  row-parted xs i d h = ap (row f) (split_at xs i d h) ∙ row-append (take i xs) (get_or xs i d ∷ drop (suc i) xs)

  -- one place closed up, and the block of e at the end
  pub row-closed : (xs : List A) (i : ℕ) (d e : A) (a w c : ℕ) → i < length xs → length (row f (take i xs)) ≡ a → length (f (get_or xs i d)) ≡ w
      → length (row f (drop (suc i) xs)) ≡ c → length (f e) ≡ w → written (row f xs) a (take c (drop (a + w) (row f xs)) ++ f e) ≡ row f (closed_at e xs i)
  unfolding row closed_at
  row-closed xs i d e a w c h la lb lc le =
      let y : i + 1 ≡ suc i = omega arith in
      rw (y, row-parted xs i d h)
      (shift_up (row f (take i xs)) (f (get_or xs i d)) (row f (drop (suc i) xs)) (f e) a w c la lb lc le
      ∙ ap (λ q. row f (take i xs) ++ (row f (drop (suc i) xs) ++ q)) (sym (append-nil (f e)))
      ∙ ap (λ q. row f (take i xs) ++ q) (sym (row-append (drop (suc i) xs) (e ∷ [])))
      ∙ sym (row-append (take i xs) (drop (suc i) xs ++ (e ∷ []))))

  -- one place opened, of those up to r, for the block of k
  pub row_slid : (xs : List A) (i r : ℕ) (d k : A) (a w c : ℕ) → i ≤ r → r < length xs → length (row f (take i xs)) ≡ a
      → length (row f (take (r - i) (drop i xs))) ≡ c → length (f (get_or xs r d)) ≡ w → length (f k) ≡ w
      → written (row f xs) a (f k ++ take c (drop a (row f xs))) ≡ row f (slid_of xs i r k)
  unfolding row slid_of
  row_slid xs i r d k a w c h g la lc lb lk =
      let y : r + 1 ≡ suc r = omega arith in
      let m = take (r - i) (drop i xs) in
      let z : i + (r - i) ≡ r = omega arith in
      let s : take r xs ≡ take i xs ++ m = ap (λ n. take n xs) (sym z) ∙ take-add i (r - i) xs in
      let e : row f xs ≡ row f (take i xs) ++ (row f m ++ (f (get_or xs r d) ++ row f (drop (suc r) xs))) =
      row-parted xs r d g
      ∙ ap (λ q. row f q ++ (f (get_or xs r d) ++ row f (drop (suc r) xs))) s
      ∙ ap (λ q. q ++ (f (get_or xs r d) ++ row f (drop (suc r) xs))) (row-append (take i xs) m)
      ∙ append_assoc (row f (take i xs)) (row f m) (f (get_or xs r d) ++ row f (drop (suc r) xs)) in
      rw (y, e)
      (shift_down (row f (take i xs)) (row f m) (f (get_or xs r d)) (row f (drop (suc r) xs)) (f k) a w c la lc lb lk
      ∙ ap (λ q. row f (take i xs) ++ (f k ++ q)) (sym (row-append m (drop (suc r) xs)))
      ∙ sym (row-append (take i xs) (k ∷ (m ++ drop (suc r) xs))))

-- another element whose block is the same
pub row_same : {A : Type 0} (f : A → List ℕ) (xs : List A) (i : ℕ) (d y : A) → f y ≡ f (get_or xs i d) → row f xs ≡ row f (set xs i y)
unfolding row
row_same f [] i d y e = refl
row_same f (x ∷ xs) zero d y e = ap (λ l. l ++ row f xs) (sym e)
row_same f (x ∷ xs) (suc i) d y e = ap (λ l. f x ++ l) (row_same f xs i d y e)

module _ {A : Type 0} (f : A → List ℕ) (w : ℕ) where
  -- bytes written into one block make it that of another element
  pub row_put : (xs : List A) → Each (Wide f w) xs → (i : ℕ) (d y : A) (at : ℕ) (bs : List ℕ) → i < length xs → at + length bs ≤ w → written (f (get_or xs i d)) at bs ≡ f y
      → written (row f xs) (i * w + at) bs ≡ row f (set xs i y)
  unfolding row
  row_put [] z i d y at bs h l e = absurd (not-suc-le-zero h)
  row_put (x ∷ xs) z zero d y at bs h l e =
      let n : length (f x) ≡ w = z.0 in
      let k : 0 * w + at ≡ at = rw (zero-mul w) (omega arith) in
      rw k (written-front (f x) (row f xs) at bs (omega arith) ∙ ap (λ l. l ++ row f xs) e)
  row_put (x ∷ xs) z (suc i) d y at bs h l e =
      let k : suc i * w + at ≡ w + (i * w + at) = rw (suc-mul i w) (omega arith) in
      rw k (written-past (f x) (row f xs) w (i * w + at) bs z.0 ∙ ap (λ l. f x ++ l) (row_put xs z.1 i d y at bs (le_of_suc-le-suc h) l e))

  pub row_read : (xs : List A) → Each (Wide f w) xs → (i : ℕ) (d : A) (at : ℕ) → i < length xs → at < w → get_or (row f xs) (i * w + at) 0 ≡ get_or (f (get_or xs i d)) at 0
  unfolding row
  row_read [] z i d at h l = absurd (not-suc-le-zero h)
  row_read (x ∷ xs) z zero d at h l =
      let n : length (f x) ≡ w = z.0 in
      let k : 0 * w + at ≡ at = rw (zero-mul w) (omega arith) in
      rw k (get_or-append (f x) (row f xs) 0 at (omega arith))
  row_read (x ∷ xs) z (suc i) d at h l =
      let k : suc i * w + at ≡ length (f x) + (i * w + at) = rw (suc-mul i w, z.0) (omega arith) in
      rw k (get_or-append-add (f x) (row f xs) (i * w + at) 0 ∙ row_read xs z.1 i d at (le_of_suc-le-suc h) l)

  -- a whole block
  pub row-set : (xs : List A) → Each (Wide f w) xs → (i : ℕ) (y : A) → i < length xs → length (f y) ≡ w → written (row f xs) (i * w) (f y) ≡ row f (set xs i y)
  unfolding row written
  row-set [] z i y h e = absurd (not-suc-le-zero h)
  row-set (x ∷ xs) z zero y h e = rw (zero-mul w) (ap (λ q. f y ++ q) (ap (λ n. drop n (f x ++ row f xs)) (zero_plus e) ∙ drop_at (f x) (row f xs) w z.0))
    where
      zero_plus : length (f y) ≡ w → 0 + length (f y) ≡ w
      zero_plus e = omega arith
  row-set (x ∷ xs) z (suc i) y h e =
      let k : suc i * w ≡ w + i * w = rw (suc-mul i w) (omega arith) in
      rw k (written-past (f x) (row f xs) w (i * w) (f y) z.0 ∙ ap (λ q. f x ++ q) (row-set xs z.1 i y (le_of_suc-le-suc h) e))

  -- some bytes of a block
  pub row-slice : (xs : List A) → Each (Wide f w) xs → (i : ℕ) (d : A) (a n : ℕ) → i < length xs → a + n ≤ w → take n (drop (i * w + a) (row f xs)) ≡ take n (drop a (f (get_or xs i d)))
  unfolding row
  row-slice [] z i d a n h l = absurd (not-suc-le-zero h)
  row-slice (x ∷ xs) z zero d a n h l =
      let e : length (f x) ≡ w = z.0 in
      let k : 0 * w + a ≡ a = rw (zero-mul w) (omega arith) in
      let m : length (drop a (f x)) ≡ length (f x) - a = length-drop a (f x) in
      rw k (ap (take n) (drop-append-le a (f x) (row f xs) (omega arith)) ∙ take-append-le n (drop a (f x)) (row f xs) (omega arith))
  row-slice (x ∷ xs) z (suc i) d a n h l =
      let k : suc i * w + a ≡ length (f x) + (i * w + a) = rw (suc-mul i w, z.0) (omega arith) in
      rw k (ap (take n) (drop-append-add (f x) (row f xs) (i * w + a)) ∙ row-slice xs z.1 i d a n (le_of_suc-le-suc h) l)
