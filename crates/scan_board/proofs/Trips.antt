-- The round trips of the second engine's image: the board's own of the front, and one law for the numbers behind it.
use Prim.Native.Nat.{ℕ, ◌+◌, ◌*◌, ◌<◌}
use mathlib.Core.Path.{◌≡◌, refl, sym, ap, ◌∙◌}
use mathlib.Core.Bool.{Bool, true, false}
use mathlib.Core.List.{List, [], ◌∷◌, ◌++◌, map, append-nil, append_assoc}
use native.Mathlib.Omega.{arith}
use lib.Dec.{eqb}
use lib.ListN.{length, get_or, length-append, length-map, get_or-append, get_or-map}
use lib.Seq.{take_at, drop_at, get_or_at, ext_get_or}
use borrow.Author.Tests.{eq-eqb, ne_eqb, eqb-true}
use Rattle.scan.specs.declared.Entry.{Entry}
use Rattle.scan.specs.declared.Scanned.{Scanned}
use Rattle.scan.specs.Entries.{entry, no_entry, task_of, tasks_in}
use Rattle.scan.specs.Step.{bare}
use Rattle.image.specs.Blocks.{row, blocks, Each, same}
use Rattle.image.specs.Image.{image_length, image_of, load_of}
use Rattle.image.proofs.Assured.{promises, length-blocks, block_at, blocks-back, decide, never, same_self, same_true}
use Rattle.scan_board.specs.Image.{word_widths, word_numbers, word_of, word_bytes, arrival_bytes, last_at, scan_length, numbers_bytes, scan_image, word_from, entry_from, scanned_of, scan_load, is_scan, FitsWord, FitsScan}
use Rattle.scan_board.proofs.Pieces.{numbers-length}

-- ---- the numbers of the entries and the last one given, as one row
abbrev arrival_of : Entry → ℕ
arrival_of x = x.arrival

abbrev numbers_of : List Entry → ℕ → List ℕ
numbers_of es last = map arrival_of es ++ (last ∷ [])

one-row : (es : List Entry) (last : ℕ) → row arrival_bytes es ++ word_bytes last ≡ row word_bytes (numbers_of es last)
unfolding row
one-row [] last = sym (append-nil (word_bytes last))
one-row (x ∷ es) last = append_assoc (arrival_bytes x) (row arrival_bytes es) (word_bytes last) ∙ ap (λ l. arrival_bytes x ++ l) (one-row es last)

all_fit : (es : List Entry) (last : ℕ) → Each (λ (x : Entry). FitsWord x.arrival) es → FitsWord last → Each FitsWord (numbers_of es last)
all_fit [] last f g = (g, tt)
all_fit (x ∷ es) last f g = (f.0, all_fit es last f.1 g)

-- ---- they come back, each at its place
module _ (e : Scanned) (f : FitsScan e) where
  abbrev es : List Entry
  es = e.entries

  abbrev behind : List ℕ
  behind = numbers_bytes es e.last

  pub sixteen : length es ≡ 16
  sixteen = sym (length-map es task_of) ∙ f.table.sizes.tasks

  numbers-back : blocks (word_from behind) 4 17 0 ≡ numbers_of es e.last
  unfolding numbers_bytes
  numbers-back =
      let ns = numbers_of es e.last in
      let l : length ns ≡ 17 = length-append (map arrival_of es) (e.last ∷ []) ∙ ap (λ n. n + 1) (length-map es arrival_of ∙ sixteen) in
      blocks-back word_widths word_numbers word_of (λ x. refl) 4 (λ x. refl) ns 0 behind [] 17 0 (all_fit es e.last f.arrivals f.last) l
      (record { before = []; whole = one-row es e.last ∙ sym (append-nil (row word_bytes ns)); long = refl })

  number_at : (i : ℕ) → i < 17 → word_from behind (i * 4) ≡ get_or (numbers_of es e.last) i 0
  number_at i h =
      let z : i * 4 ≡ 0 + i * 4 = omega arith in
      ap (word_from behind) z ∙ sym (block_at (word_from behind) 4 17 0 i 0 h) ∙ ap (λ l. get_or l i 0) numbers-back

  last-back : word_from behind last_at ≡ e.last
  last-back = number_at 16 (omega arith) ∙ get_or_at (map arrival_of es) e.last [] 0 16 (length-map es arrival_of ∙ sixteen)

  entry-back : (i : ℕ) → i < 16 → entry_from (tasks_in es) behind i ≡ get_or es i no_entry
  entry-back i h =
      let m : length (map arrival_of es) ≡ 16 = length-map es arrival_of ∙ sixteen in
      let t = get_or-map task_of es i no_entry in
      let n = number_at i (omega arith) ∙ get_or-append (map arrival_of es) (e.last ∷ []) 0 i (omega arith) ∙ get_or-map arrival_of es i no_entry in
      λ j. entry (t j) (n j)

  entries-back : blocks (entry_from (tasks_in es) behind) 1 16 0 ≡ es
  entries-back =
      let g = entry_from (tasks_in es) behind in
      let l : length (blocks g 1 16 0) ≡ 16 = length-blocks g 1 16 0 in
      ext_get_or no_entry (blocks g 1 16 0) es (l ∙ sym sixteen)
      (λ i h.
      let z : 0 + i * 1 ≡ i = omega arith in
      block_at g 1 16 0 i no_entry (omega (arith, h, l)) ∙ ap g z ∙ entry-back i (omega (arith, h, l)))

  front_length : length (image_of (bare e)) ≡ image_length
  front_length = promises.sized (image_of (bare e)) (promises.stored (bare e) f.table)

  pub load_store : scan_load (scan_image e) ≡ e
  unfolding scan_load scan_image
  load_store =
      let a = image_of (bare e) in
      let t = ap load_of (take_at a behind image_length front_length) ∙ promises.load_store (bare e) f.table in
      let d = drop_at a behind image_length front_length in
      (λ i. scanned_of (t i) (d i)) ∙ (λ i. record { entries = entries-back i; last = last-back i; rest = e.rest })

  pub scan-length : length (scan_image e) ≡ scan_length
  unfolding scan_image
  scan-length = length-append (image_of (bare e)) behind ∙ (λ i. front_length i + numbers-length es e.last sixteen i)

-- ---- what an image is
module _ (s : List ℕ) where
  pub not-long : (length s ≡ scan_length → ⊥) → false ≡ is_scan s
  unfolding is_scan
  not-long h = rw (ne_eqb (length s) scan_length h)

  pub compared : {u : List ℕ} {r : Bool} (e : Scanned) → length s ≡ scan_length → e ≡ scan_load s → u ≡ scan_image e → r ≡ same u s → r ≡ is_scan s
  unfolding is_scan
  compared e n ee eu er = rw (eq-eqb (length s) scan_length n) (er ∙ ap (λ w. same w s) (eu ∙ ap scan_image ee))

  pub image-parts : is_scan s ≡ true → (length s ≡ scan_length) × (scan_image (scan_load s) ≡ s)
  unfolding is_scan
  image-parts e =
      decide (eqb (length s) scan_length)
      (λ h. let g : same (scan_image (scan_load s)) s ≡ true = rw h at e in (eqb-true (length s) scan_length h, same_true (scan_image (scan_load s)) s g))
      (λ h. let g : false ≡ true = rw h at e in absurd (never g))

  pub made-image : length s ≡ scan_length → scan_image (scan_load s) ≡ s → is_scan s ≡ true
  unfolding is_scan
  made-image n e = rw (eq-eqb (length s) scan_length n) (ap (λ u. same u s) e ∙ same_self s)

pub stored : (e : Scanned) → FitsScan e → is_scan (scan_image e) ≡ true
stored e f = made-image (scan_image e) (scan-length e f) (ap scan_image (load_store e f))
