-- Bytes of an image's length are an image exactly where the numbers of each task's state are those of the state that they
-- make: all else is laid again as it was cut.
use Prim.Native.Nat.{ℕ, zero, suc, ◌+◌, ◌*◌, ◌≤◌, ◌<◌}
use mathlib.Core.Path.{◌≡◌, refl, sym, ap, ◌∙◌}
use mathlib.Core.Bool.{true, false}
use mathlib.Core.List.{List, ◌∷◌, ◌++◌, append-nil}
use native.Mathlib.Omega.{arith}
use native.Mathlib.Nat.{suc-mul, zero-mul}
use lib.Dec.{eqb}
use lib.ListN.{length, get_or, drop, drop_of_length-le}
use lib.Seq.{drop-cons}
use borrow.Author.Tests.{eq-eqb, eqb-true}
use Rattle.records.specs.Numbers.{Bytes, number_of, part, cut}
use Rattle.records.proofs.Assured.{promises}
use Rattle.executive.specs.declared.Millis.{Millis}
use Rattle.executive.specs.declared.State.{State}
use Rattle.executive.specs.States.{state_kind, time_of, mask_of, awaited_of}
use Rattle.executive.specs.Places.{no_task}
use Rattle.image.specs.Blocks.{row, blocks}
use Rattle.image.specs.Image.{task_widths, place_widths, head_widths, alarm_widths, request_widths, levels_widths, awaited_widths, sub_widths}
use Rattle.image.specs.Image.{task_numbers, awaited_numbers, task_bytes, place_bytes, alarm_bytes, request_bytes, awaited_bytes, sub_bytes}
use Rattle.image.specs.Image.{task_from, place_from, alarm_from, request_from, sub_from, queue_at, head_at, alarms_at, pool_at, levels_at, awaited_at, subs_at, image_length, task_length, sub_length}
use Rattle.image.specs.Image.{message_widths, sent_widths, mail_widths, message_bytes, mail_bytes, message_from, mail_from, messages_at, sent_at, mails_at, message_length, mail_length}
use Rattle.image.specs.Image.{image_of, load_of, is_image}
use Rattle.image.specs.Coding.{are_of, is_code}
use Rattle.image.proofs.Alike.{decide, never}
use Rattle.image.proofs.Spans.{block_at}
use Rattle.image.proofs.Trips.{entry-numbers, awaited-number, image-parts, made-image, load_fits}

-- ---- four numbers that are those of a state
pub record Are (x : State) (kind time mask number : ℕ) : Type 0 where
  pub kind-is : state_kind x ≡ kind
  pub time-is : (time_of x).0 ≡ time
  pub mask_is : mask_of x ≡ mask
  pub number_is : awaited_of x ≡ number

module _ (x : State) (k t m n : ℕ) where
  pub are : are_of x k t m n ≡ true → Are x k t m n
  unfolding are_of
  are e =
      decide (eqb (state_kind x) k)
      (λ a.
      decide (eqb (time_of x).0 t)
      (λ b.
      decide (eqb (mask_of x) m)
      (λ c.
      let d : eqb (awaited_of x) n ≡ true = rw (a, b, c) at e in
      record { kind-is = eqb-true (state_kind x) k a; time-is = eqb-true (time_of x).0 t b; mask_is = eqb-true (mask_of x) m c; number_is = eqb-true (awaited_of x) n d })
      (λ c. let z : false ≡ true = rw (a, b, c) at e in absurd (never z)))
      (λ b. let z : false ≡ true = rw (a, b) at e in absurd (never z)))
      (λ a. let z : false ≡ true = rw a at e in absurd (never z))

  pub are-told : Are x k t m n → are_of x k t m n ≡ true
  unfolding are_of
  are-told z = rw (eq-eqb (state_kind x) k z.kind-is, eq-eqb (time_of x).0 t z.time-is, eq-eqb (mask_of x) m z.mask_is) (eq-eqb (awaited_of x) n z.number_is)

-- ---- bytes that are cut and laid again: blocks in a row, and a part with all behind it
module _ (s : List ℕ) where
  -- the numbers of the i-th task's state are those of the state that they make
  abbrev pub Canonical : ℕ → Type 0
  Canonical i =
      let at = i * task_length in
      Are (task_from s i).state (number_of (part 1 (at + 1) s)) (number_of (part 8 (at + 1 + 1) s)) (number_of (part 4 (at + 1 + 1 + 8) s)) (number_of (part 1 (awaited_at + i) s))

  part_join : (m n i : ℕ) → part m i s ++ part n (i + m) s ≡ part (m + n) i s
  part_join zero n i = let y : i + 0 ≡ i = omega arith in let z : 0 + n ≡ n = omega arith in rw (y, z)
  part_join (suc m) n i =
      let y : i + suc m ≡ suc i + m = omega arith in
      let z : suc m + n ≡ suc (m + n) = omega arith in
      rw (y, z) (ap (λ l. get_or s i 0 ∷ l) (part_join m n (suc i)))

  -- elements that are read w places apart, each of them v bytes
  row-blocks : {A : Type 0} (f : A → List ℕ) (g : ℕ → A) (w v n at p : ℕ) → ((i : ℕ) → i < n → f (g (at + i * w)) ≡ part v (p + i * v) s)
      → row f (blocks g w n at) ≡ part (n * v) p s
  unfolding row blocks
  row-blocks f g w v zero at p h = let z : 0 * v ≡ 0 = zero-mul v in rw z
  row-blocks f g w v (suc n) at p h =
      let y : at + 0 * w ≡ at = rw (zero-mul w) (omega arith) in
      let z : p + 0 * v ≡ p = rw (zero-mul v) (omega arith) in
      let a : f (g at) ≡ part v p s = ap (λ k. f (g k)) (sym y) ∙ h 0 (omega arith) ∙ ap (λ k. part v k s) z in
      let b : row f (blocks g w n (at + w)) ≡ part (n * v) (p + v) s =
      row-blocks f g w v n (at + w) (p + v)
      (λ i l.
      let j : at + w + i * w ≡ at + suc i * w = rw (suc-mul i w) (omega arith) in
      let k : p + v + i * v ≡ p + suc i * v = rw (suc-mul i v) (omega arith) in
      ap (λ q. f (g q)) j ∙ h (suc i) (omega arith) ∙ ap (λ q. part v q s) (sym k)) in
      let e : suc n * v ≡ v + n * v = rw (suc-mul n v) (omega arith) in
      (λ j. a j ++ b j) ∙ part_join v (n * v) p ∙ ap (λ k. part k p s) (sym e)

  -- m bytes, and all behind them
  behind : (m at : ℕ) {b r : List ℕ} → at + m ≤ length s → b ≡ part m at s → r ≡ drop (at + m) s → b ++ r ≡ drop at s
  behind m at {b} {r} h eb er = (λ i. eb i ++ er i) ∙ parted m at h where
    parted : (n k : ℕ) → k + n ≤ length s → part n k s ++ drop (k + n) s ≡ drop k s
    parted zero k l = let z : k + 0 ≡ k = omega arith in rw z
    parted (suc n) k l = let z : k + suc n ≡ suc k + n = omega arith in rw z (ap (λ t. get_or s k 0 ∷ t) (parted n (suc k) (omega arith)) ∙ sym (drop-cons s k 0 (omega arith)))

  module _ (h : Bytes s) where
    pub task-again : (i : ℕ) → Canonical i → task_bytes (task_from s i) ≡ part task_length (i * task_length) s
    task-again i c = rw (c.kind-is, c.time-is, c.mask_is) (promises.lay-cut s h task_widths (i * task_length))

    pub awaited-again : (i : ℕ) → Canonical i → awaited_bytes (task_from s i) ≡ part 1 (awaited_at + i) s
    awaited-again i c = rw c.number_is refl

    line-again : (at : ℕ) → row place_bytes (blocks (place_from s) 1 16 at) ≡ part 16 at s
    line-again at = row-blocks place_bytes (place_from s) 1 1 16 at at (λ i l. promises.lay-cut s h place_widths (at + i * 1))

    sub-again : (at : ℕ) → sub_bytes (sub_from s at) ≡ part sub_length at s
    sub-again at =
        let a = promises.lay-cut s h sub_widths at in
        let b = line-again (at + 2) in
        (λ i. a i ++ b i) ∙ part_join 2 16 at

    -- the parts of the image, each with those behind it
    canonical_back : length s ≡ image_length → ((i : ℕ) → i < 16 → Canonical i) → image_of (load_of s) ≡ s
    unfolding image_of load_of
    canonical_back n c =
        let each-task : (i : ℕ) → i < 16 → Canonical (0 + i * 1) = λ i l. let z : 0 + i * 1 ≡ i = omega arith in rw z (c i l) in
        behind 416 0 (omega arith)
        (row-blocks task_bytes (task_from s) 1 task_length 16 0 0 (λ i l. task-again (0 + i * 1) (each-task i l) ∙ ap (λ k. part task_length k s) (omega arith)))
        (behind 16 queue_at (omega arith) (line-again queue_at)
        (behind 16 head_at (omega arith) (promises.lay-cut s h head_widths head_at)
        (behind 256 alarms_at (omega arith) (row-blocks alarm_bytes (alarm_from s) 8 8 32 alarms_at alarms_at (λ i l. promises.lay-cut s h alarm_widths (alarms_at + i * 8)))
        (behind 192 pool_at (omega arith) (row-blocks request_bytes (request_from s) 6 6 32 pool_at pool_at (λ i l. promises.lay-cut s h request_widths (pool_at + i * 6)))
        (behind 2 levels_at (omega arith) (promises.lay-cut s h levels_widths levels_at)
        (behind 16 awaited_at (omega arith)
        (row-blocks awaited_bytes (task_from s) 1 1 16 0 awaited_at (λ i l. awaited-again (0 + i * 1) (each-task i l) ∙ ap (λ k. part 1 k s) (omega arith)))
        (behind 144 subs_at (omega arith) (row-blocks sub_bytes (sub_from s) sub_length sub_length 8 subs_at subs_at (λ i l. sub-again (subs_at + i * sub_length)))
        (behind 352 messages_at (omega arith)
        (row-blocks message_bytes (message_from s) message_length message_length 32 messages_at messages_at (λ i l. promises.lay-cut s h message_widths (messages_at + i * message_length)))
        (behind 1 sent_at (omega arith) (promises.lay-cut s h sent_widths sent_at)
        (sym (append-nil _)
        ∙ behind 144 mails_at (omega arith)
        (row-blocks mail_bytes (mail_from s) mail_length mail_length 16 mails_at mails_at (λ i l. promises.lay-cut s h mail_widths (mails_at + i * mail_length)))
        (sym (drop_of_length-le s {i = image_length} (omega arith)))))))))))))

    pub canonical_image : length s ≡ image_length → ((i : ℕ) → i < 16 → Canonical i) → true ≡ is_image s
    canonical_image n c = sym (made-image s n (canonical_back n c))

    -- and the states of an image are such
    pub image_canonical : is_image s ≡ true → (i : ℕ) → i < 16 → Canonical i
    unfolding load_of
    image_canonical e i l =
        let t = load_of s in
        let whole : image_of t ≡ s = (image-parts s e).1 in
        let z : 0 + i * 1 ≡ i = omega arith in
        let b : get_or t.tasks i no_task ≡ task_from s i = block_at (task_from s) 1 16 0 i no_task l ∙ ap (task_from s) z in
        let p : cut task_widths (i * task_length) s ≡ task_numbers (task_from s i) =
        ap (cut task_widths (i * task_length)) (sym whole) ∙ entry-numbers t (load_fits s h) i l ∙ ap task_numbers b in
        let q : cut awaited_widths (awaited_at + i) s ≡ awaited_numbers (task_from s i) =
        ap (cut awaited_widths (awaited_at + i)) (sym whole) ∙ awaited-number t (load_fits s h) i l ∙ ap awaited_numbers b in
        record {
          kind-is = sym (ap (λ (xs : List ℕ). get_or xs 1 0) p);
          time-is = sym (ap (λ (xs : List ℕ). get_or xs 2 0) p);
          mask_is = sym (ap (λ (xs : List ℕ). get_or xs 3 0) p);
          number_is = sym (ap (λ (xs : List ℕ). get_or xs 0 0) q);
        }

    -- ---- the four numbers of an entry, as they were read
    module _ (i : ℕ) (l : i < 16) (kind : ℕ) (time : Millis) (mask number : ℕ) (ek : kind ≡ get_or s (i * 26 + 1) 0) (et : time.0 ≡ number_of (part 8 (i * 26 + 2) s))
        (em : mask ≡ number_of (part 4 (i * 26 + 10) s)) (en : number ≡ get_or s (awaited_at + i) 0) where
      pub read_code : is_code kind time mask number ≡ is_code (get_or s (i * 26 + 1) 0) (record { 0 = number_of (part 8 (i * 26 + 1 + 1) s) }) (number_of (part 4 (i * 26 + 1 + 1 + 8) s)) (get_or s (awaited_at + i) 0)
      read_code =
          let y : i * 26 + 2 ≡ i * 26 + 1 + 1 = omega arith in
          let z : i * 26 + 10 ≡ i * 26 + 1 + 1 + 8 = omega arith in
          let a : time ≡ record { 0 = number_of (part 8 (i * 26 + 1 + 1) s) } = ap {B = Millis} (λ x. record { 0 = x }) (et ∙ ap (λ k. number_of (part 8 k s)) y) in
          let b : mask ≡ number_of (part 4 (i * 26 + 1 + 1 + 8) s) = em ∙ ap (λ k. number_of (part 4 k s)) z in
          λ j. is_code (ek j) (a j) (b j) (en j)

      pub code_canonical : is_code kind time mask number ≡ true → Canonical i
      code_canonical e = are (task_from s i).state _ _ _ _ (sym read_code ∙ e)

      pub not-image : is_code kind time mask number ≡ false → false ≡ is_image s
      not-image e =
          decide (is_image s)
          (λ g. absurd (never (sym e ∙ read_code ∙ are-told (task_from s i).state _ _ _ _ (image_canonical g i l))))
          (λ g. sym g)

pub not-long : (s : List ℕ) → (length s ≡ image_length → ⊥) → false ≡ is_image s
not-long s h = decide (is_image s) (λ e. absurd (h (image-parts s e).0)) (λ e. sym e)
