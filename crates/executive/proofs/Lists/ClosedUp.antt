-- One place of an array is closed up, and the last is d. Stated once, over the element.
use Prim.Native.Nat.{ℕ, ◌+◌, ◌-◌, ◌<◌}
use mathlib.Core.Path.{◌≡◌, refl, ◌∙◌}
use mathlib.Core.List.{List, [], ◌∷◌, ◌++◌, append_assoc}
use native.Mathlib.Numerals.{add-one}
use native.Mathlib.Omega.{arith}
use lib.ListN.{length, take, drop, set, get_or, length-append, length-drop, drop_of_length-le}
use lib.Seq.{length-take-le, take_all, drop-cons, set_at, paste}
use Rattle.executive.specs.Lists.{closed_at}

module _ {A : Type 0} (d : A) (p : List A) (n at : ℕ) (len : length p ≡ n) (h : at < n) where
  -- those behind the place are copied up by one, and d is stored in the last
  pub closed_copied : set (paste p at (drop (at + 1) p) (length p - (at + 1))) (n - 1) d ≡ closed_at d p at
  unfolding closed_at
  closed_copied =
      let behind = drop (at + 1) p in
      let m : length behind ≡ length p - (at + 1) = length-drop (at + 1) p in
      let all : take (length p - (at + 1)) behind ≡ behind = take_all (length p - (at + 1)) behind (omega arith) in
      let e : at + (length p - (at + 1)) ≡ n - 1 = omega arith in
      let w : n - 1 < length p = omega arith in
      let z : drop (n - 1 + 1) p ≡ [] = drop_of_length-le p (omega arith) in
      let last : drop (n - 1) p ≡ get_or p (n - 1) d ∷ [] = drop-cons p (n - 1) d w ∙ rw (rw add-one at z) refl in
      let f : length (take at p ++ behind) ≡ n - 1 = simp (length-append, length-take-le at p (omega arith)) (omega arith) in
      rw (all, e, last)
      (set_at (take at p ++ behind) (get_or p (n - 1) d) [] d (n - 1) f ∙ append_assoc (take at p) behind (d ∷ []))
