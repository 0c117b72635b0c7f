-- What is read of an image, and what the writes of one leave.
use Prim.Native.Nat.{ℕ, ◌+◌, ◌-◌, ◌*◌}
use mathlib.Core.Path.{◌≡◌, refl, ap, ◌∙◌}
use mathlib.Core.List.{List, [], ◌++◌, append-nil}
use native.Mathlib.Omega.{arith}
use lib.ListN.{length, take, drop, length-append, length-drop, drop_of_length-le}
use lib.Seq.{take_at, drop_at}
use borrow.Author.Tests.{eq-eqb}
use borrow.Rule.Slice.PartMut.{put_mid}
use Rattle.executive.specs.declared.Table.{Table}
use Rattle.scan.specs.declared.Entry.{Entry}
use Rattle.scan.specs.declared.Scanned.{Scanned}
use Rattle.scan.specs.Step.{bare}
use Rattle.image.specs.Blocks.{row, blocks, written}
use Rattle.image.specs.Image.{image_length, image_of, store_bytes, Stores, load_of}
use Rattle.image.proofs.Assured.{and_then, written-whole, length-row}
use Rattle.scan_board.specs.Image.{word_bytes, arrival_bytes, last_at, numbers_length, scan_length, numbers_bytes, scan_image, word_from, entry_from, scanned_of, scan_load}

pub arrivals-length : (es : List Entry) → length es ≡ 16 → length (row arrival_bytes es) ≡ last_at
arrivals-length es n = length-row arrival_bytes 4 (λ x. refl) es ∙ ap (λ k. k * 4) n

pub numbers-length : (es : List Entry) (last : ℕ) → length es ≡ 16 → length (numbers_bytes es last) ≡ numbers_length
unfolding numbers_bytes
numbers-length es last n = length-append (row arrival_bytes es) (word_bytes last) ∙ ap (λ k. k + 4) (arrivals-length es n)

pub wrote-numbers : (o : List ℕ) {p q : List ℕ} (es : List Entry) (last : ℕ) → length es ≡ 16 → length o ≡ numbers_length
    → p ≡ written o 0 (row arrival_bytes es) → q ≡ written p last_at (word_bytes last) → q ≡ numbers_bytes es last
unfolding numbers_bytes
wrote-numbers o {p} es last n l ep eq =
    let a = row arrival_bytes es in
    let b = word_bytes last in
    let la : length a ≡ 64 = arrivals-length es n in
    let z : last_at ≡ 0 + length a = omega arith in
    and_then o 0 a b ep (eq ∙ ap (λ k. written p k b) z) (omega arith) ∙ written-whole o (a ++ b) (length-append a b ∙ omega arith)

-- a buffer of the length is stored into
pub stored_in : (t : Table) (o p : List ℕ) (n : ℕ) → length o ≡ image_length → Stores t o p n → p ≡ image_of t
unfolding store_bytes
stored_in t o p n l s = rw (eq-eqb (length o) image_length l) at s.image

-- the board's table of the front, and the numbers behind it
pub loaded : (s tail : List ℕ) (t : Table) (es : List Entry) (last : ℕ) → t ≡ load_of (take image_length s) → tail ≡ drop image_length s
    → es ≡ blocks (entry_from t.tasks tail) 1 16 0 → last ≡ word_from tail last_at
    → ◌≡◌ {A = Scanned} (record { entries = es; last = last; rest = t.rest }) (scan_load s)
unfolding scan_load
loaded s tail t es last et ed ee el =
    (λ i. record { entries = ee i; last = el i; rest = t.rest })
    ∙ ap (scanned_of t) ed
    ∙ ap (λ u. scanned_of u (drop image_length s)) et

-- the front written, and the numbers right behind it
pub wrote_scan : (o : List ℕ) {a b : List ℕ} (e : Scanned) → length (image_of (bare e)) ≡ image_length → length o ≡ scan_length
    → a ≡ image_of (bare e) → b ≡ numbers_bytes e.entries e.last
    → put_mid image_length (length (a ++ drop image_length o) - image_length) (a ++ drop image_length o) b ≡ scan_image e
unfolding scan_image
wrote_scan o {a} {b} e l n ea eb =
    let d = drop image_length o in
    let la : length a ≡ image_length = ap length ea ∙ l in
    let ld : length d ≡ numbers_length = length-drop image_length o ∙ omega arith in
    let lw : length (a ++ d) ≡ length a + length d = length-append a d in
    let k = length (a ++ d) - image_length in
    let none : drop k d ≡ [] = drop_of_length-le d {i = k} (omega arith) in
    (λ i. take_at a d image_length la i ++ (b ++ drop k (drop_at a d image_length la i)))
    ∙ ap (λ z. a ++ (b ++ z)) none
    ∙ (λ i. ea i ++ append-nil (eb i) i)
