-- What the lamp reads of an image is what it shows of the image's table.
use Prim.Native.Nat.{ℕ, ◌<◌}
use mathlib.Core.Path.{◌≡◌, refl, sym, ap, ◌∙◌}
use mathlib.Core.List.{List}
use native.Mathlib.Omega.{arith}
use borrow.Author.Tests.{eq-eqb, eqb-true, eqb-false, ne_eqb}
use lib.Dec.{eqb}
use lib.ListN.{length}
use Rattle.records.specs.Numbers.{number_of, part}
use Rattle.executive.specs.Places.{task_at}
use Rattle.executive.specs.Plans.{caller}
use Rattle.executive.specs.Lamp.{lamp_of}
use Rattle.executive.specs.Promises.LampLaw.{Shows}
use Rattle.executive.proofs.Assured.{lamp_law}
use Rattle.image.specs.Image.{levels_at, image_length, load_of}
use Rattle.image.specs.EntryPoints.{WellFormedImage, lamp_byte, lamp_number, ShowsImage}
use Rattle.image.proofs.Alike.{decide}
use Rattle.image.proofs.Trips.{image-parts}
use Rattle.std.specs.Option.{unwrap_or}
use Rattle.std.proofs.Common.{Option, None, Some}

-- ---- for the code
pub byte-is : (l : Option ℕ) → unwrap_or l 16 ≡ lamp_byte l
byte-is None = refl
byte-is (Some p) = refl

module _ (s : List ℕ) where
  pub lamp-short : (length s ≡ image_length → ⊥) → 16 ≡ lamp_number s
  unfolding lamp_number
  lamp-short h = rw (ne_eqb (length s) image_length h) refl

  pub lamp-read : (w : ℕ) (l : Option ℕ) → length s ≡ image_length → w ≡ number_of (part 2 levels_at s) → l ≡ lamp_of w → lamp_byte l ≡ lamp_number s
  unfolding lamp_number
  lamp-read w l n e f = rw (eq-eqb (length s) image_length n, ← e, ← f) refl

-- ---- of the image of a well-formed table
word-loads : (s : List ℕ) → (load_of s).levels ≡ number_of (part 2 levels_at s)
unfolding load_of
word-loads s = refl

pub lamp : (s : List ℕ) → WellFormedImage s → ShowsImage s (load_of s)
lamp s w =
    let t = load_of s in
    let h : Shows t = lamp_law.shows t w.table in
    let e : lamp_byte (lamp_of t.levels) ≡ lamp_number s = lamp-read s t.levels (lamp_of t.levels) (image-parts s w.image).0 (word-loads s) refl in
    let up : 0 < (caller t).0 → lamp_number s ≡ (task_at t.tasks (caller t).0).priority = λ g. sym e ∙ ap lamp_byte (h.level g) in
    record {
      level = up;
      dark = (
        λ d. decide (eqb (caller t).0 0) (λ z. eqb-true (caller t).0 0 z)
            (λ z. let k : 0 < (caller t).0 = omega (arith, eqb-false (caller t).0 0 z) in absurd (omega (arith, up k, w.table.numbers.priority (caller t).0))),
        λ z. sym e ∙ ap lamp_byte (h.idle.1 z),
      );
    }
