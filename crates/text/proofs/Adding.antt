-- Text that is added to a buffer, and text that is put there where it fits.
use Prim.Native.Nat.{ℕ, ◌+◌, ◌-◌, ◌≤◌, ◌<◌}
use mathlib.Core.Path.{◌≡◌, refl, sym, ap, ◌∙◌}
use mathlib.Core.List.{List, [], ◌++◌, append_assoc, append-nil}
use native.Mathlib.Omega.{arith}
use lib.ListN.{length, take, drop, length-append, length-drop, length-take, take-append-drop}
use lib.Seq.{drop-drop, length-take-le, take_at, drop_at}
use borrow.Author.Tests.{le-leb, lt-leb}
use borrow.Rule.Slice.PartMut.{put_mid}
use Rattle.text.specs.Glyphs.{Puts, Adds, bytes_after, place_after}

-- nothing is added
pub nothing : (a : List ℕ) (n : ℕ) → Adds a n a n []
nothing a n = record { text = sym (append-nil (take n a)); rest = refl; place = omega arith; size = refl }

-- two texts, one after the other
pub then : {a b c : List ℕ} {n m k : ℕ} {t u : List ℕ} → Adds a n b m t → Adds b m c k u → Adds a n c k (t ++ u)
then {a} {b} {c} {n} {m} {k} {t} {u} p q = record {
  text = q.text ∙ ap (λ x. x ++ u) p.text ∙ append_assoc (take n a) t u;
  rest = q.rest ∙ ap (λ x. drop x b) q.place ∙ sym (drop-drop (length u) m b) ∙ ap (drop (length u)) p.rest ∙ drop-drop (length u) m a ∙ ap (λ x. drop x a) (sym q.place);
  place = omega (arith, p.place, q.place, length-append t u);
  size = q.size ∙ p.size;
}

-- the same text by another name
pub named : {a b : List ℕ} {n m : ℕ} {t u : List ℕ} → t ≡ u → Adds a n b m t → Adds a n b m u
named e p = rw (← e) p

-- what is added is in the buffer
pub inside : {a b : List ℕ} {n m : ℕ} {t : List ℕ} → n ≤ length a → Adds a n b m t → m ≤ length a
inside {a} {b} {n} {m} {t} h p =
    omega (arith, p.place, p.size, length-append (take n a) t, length-take-le n a h, ap length p.text, length-take m b)

-- the whole buffer, where it was not used before
pub all-of : {a b : List ℕ} {m : ℕ} {t : List ℕ} → Adds a 0 b m t → b ≡ t ++ drop (length t) a
all-of {a} {b} {m} {t} p =
    let e : m ≡ length t = omega (arith, p.place) in
    sym (take-append-drop m b) ∙ ap (λ x. x ++ drop m b) p.text ∙ ap (λ x. t ++ x) (p.rest ∙ ap (λ x. drop x a) e)

-- ---- what is put where it fits is added; what does not fit is not written
module _ (o : List ℕ) (at : ℕ) (t : List ℕ) where
  module _ (h : at + length t ≤ length o) where
    bytes-room : bytes_after o at t ≡ (take at o ++ t) ++ drop (at + length t) o
    unfolding bytes_after
    bytes-room = rw (le-leb (at + length t) (length o) h)

    place-room : place_after o at t ≡ at + length t
    unfolding place_after
    place-room = rw (le-leb (at + length t) (length o) h)

    -- the part behind the place is become the text
    pub part_put : {x : List ℕ} → x ≡ t → Puts o at t (put_mid at (at + length t - at) o x) (at + length t)
    part_put {x} e =
        let k : at + length t - at ≡ length t = omega arith in
        record {
          bytes = rw (k, e) (ap (λ y. take at o ++ (t ++ y)) (drop-drop (length t) at o) ∙ sym (append_assoc (take at o) t (drop (at + length t) o)))
              ∙ sym bytes-room;
          place = sym place-room;
        }

    front : length (take at o ++ t) ≡ at + length t
    front = omega (arith, length-append (take at o) t, length-take-le at o (omega arith))

    back : length (drop (at + length t) o) ≡ length o - (at + length t)
    back = length-drop (at + length t) o

    pub puts-adds : {b : List ℕ} {r : ℕ} → Puts o at t b r → Adds o at b r t
    puts-adds {b} {r} p =
        let e : b ≡ (take at o ++ t) ++ drop (at + length t) o = p.bytes ∙ bytes-room in
        let q : r ≡ at + length t = p.place ∙ place-room in
        record {
          text = rw (q, e) (take_at (take at o ++ t) (drop (at + length t) o) (at + length t) front);
          rest = rw (q, e) (drop_at (take at o ++ t) (drop (at + length t) o) (at + length t) front);
          place = q;
          size = omega (arith, ap length e, length-append (take at o ++ t) (drop (at + length t) o), front, back);
        }

    pub adds-puts : {b : List ℕ} {r : ℕ} → Adds o at b r t → Puts o at t b r
    adds-puts {b} {r} p = record {
      bytes = sym (take-append-drop r b) ∙ ap (λ x. x ++ drop r b) p.text
          ∙ ap (λ x. (take at o ++ t) ++ x) (p.rest ∙ ap (λ n. drop n o) p.place) ∙ sym bytes-room;
      place = p.place ∙ sym place-room;
    }

  module _ (h : length o < at + length t) where
    pub puts_none : Puts o at t o at
    unfolding bytes_after place_after
    puts_none = record { bytes = rw (lt-leb (at + length t) (length o) h); place = rw (lt-leb (at + length t) (length o) h) }

    pub puts-keep : {b : List ℕ} {r : ℕ} → Puts o at t b r → (b ≡ o) × (r ≡ at)
    puts-keep p = (p.bytes ∙ sym puts_none.bytes, p.place ∙ sym puts_none.place)

-- a text is put, and a further one is added behind it: together they fit
pub put_then : {a b c : List ℕ} {n m k : ℕ} {t u : List ℕ} → n + length (t ++ u) ≤ length a → Puts a n t b m
    → (m + length u ≤ length b → Adds b m c k u) → Adds a n c k (t ++ u)
put_then {a} {b} {c} {n} {m} {k} {t} {u} h p f =
    let l = length-append t u in
    let q : Adds a n b m t = puts-adds a n t (omega arith) p in
    then q (f (omega (arith, q.place, q.size)))

-- the last one
pub put_last : {a b : List ℕ} {n m : ℕ} {t : List ℕ} → Puts a n t b m → n + length t ≤ length a → Adds a n b m t
put_last {a} {b} {n} {m} {t} p h = puts-adds a n t h p
