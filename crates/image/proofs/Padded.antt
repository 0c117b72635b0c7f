-- Bytes that read alike load alike, and bytes with 0 behind them read as they did without.
use Prim.Native.Nat.{ℕ, zero, suc, ◌+◌, ◌*◌, ◌≤◌}
use mathlib.Core.Path.{◌≡◌, refl, ap, ap₂}
use mathlib.Core.List.{List, [], ◌∷◌, ◌++◌}
use native.Mathlib.Omega.{arith}
use lib.ListN.{length, get_or, drop, replicate, length-replicate}
use Rattle.records.specs.Numbers.{number_of, part, cut}
use Rattle.image.specs.Blocks.{blocks}
use Rattle.image.specs.Image.{task_widths, place_widths, head_widths, alarm_widths, request_widths, levels_widths, awaited_widths, sub_widths}
use Rattle.image.specs.Image.{task_of, place_of, alarm_of, request_of, sub_of, table_of, task_from, place_from, alarm_from, request_from, line_from, sub_from}
use Rattle.image.specs.Image.{queue_at, head_at, alarms_at, pool_at, levels_at, awaited_at, subs_at, task_length, sub_length, load_of}
use Rattle.image.specs.Image.{message_widths, sent_widths, mail_widths, message_of, mail_of, message_from, mail_from, messages_at, sent_at, mails_at, message_length, mail_length}

-- ---- the same elements at each place
blocks-same : {A : Type 0} (f g : ℕ → A) → ((i : ℕ) → f i ≡ g i) → (w n at : ℕ) → blocks f w n at ≡ blocks g w n at
unfolding blocks
blocks-same f g h w zero at = refl
blocks-same f g h w (suc n) at = λ j. h at j ∷ blocks-same f g h w n (at + w) j

-- ---- bytes that read alike
module _ (s r : List ℕ) (h : (i : ℕ) → get_or s i 0 ≡ get_or r i 0) where
  part_same : (n i : ℕ) → part n i s ≡ part n i r
  part_same zero i = refl
  part_same (suc n) i = λ j. h i j ∷ part_same n (suc i) j

  cut-same : (ws : List ℕ) (i : ℕ) → cut ws i s ≡ cut ws i r
  cut-same [] i = refl
  cut-same (w ∷ ws) i = λ j. number_of (part_same w i j) ∷ cut-same ws (i + w) j

  task-same : (i : ℕ) → task_from s i ≡ task_from r i
  task-same i = ap₂ task_of (cut-same task_widths (i * task_length)) (cut-same awaited_widths (awaited_at + i))

  line_same : (at : ℕ) → line_from s at ≡ line_from r at
  line_same at = blocks-same (place_from s) (place_from r) (λ i. ap place_of (cut-same place_widths i)) 1 16 at

  sub_same : (at : ℕ) → sub_from s at ≡ sub_from r at
  sub_same at = ap₂ sub_of (cut-same sub_widths at) (line_same (at + 2))

  pub load_same : load_of s ≡ load_of r
  unfolding load_of
  load_same =
      let eh = cut-same head_widths head_at in
      let et = blocks-same (task_from s) (task_from r) task-same 1 16 0 in
      let eq = line_same queue_at in
      let ea = blocks-same (alarm_from s) (alarm_from r) (λ i. ap alarm_of (cut-same alarm_widths i)) 8 32 alarms_at in
      let ep = blocks-same (request_from s) (request_from r) (λ i. ap request_of (cut-same request_widths i)) 6 32 pool_at in
      let eg = cut-same levels_widths levels_at in
      let es = blocks-same (sub_from s) (sub_from r) sub_same sub_length 8 subs_at in
      let em = blocks-same (message_from s) (message_from r) (λ i. ap message_of (cut-same message_widths i)) message_length 32 messages_at in
      let en = cut-same sent_widths sent_at in
      let el = blocks-same (mail_from s) (mail_from r) (λ i. ap mail_of (cut-same mail_widths i)) mail_length 16 mails_at in
      λ i. table_of (eh i) (et i) (eq i) (ea i) (ep i) (eg i) (es i) (em i) (en i) (el i)

-- ---- bytes with zeros behind them, up to a length of n
zeros-read : (n j : ℕ) → ◌≡◌ {A = ℕ} (get_or (replicate n 0) j 0) 0
zeros-read zero j = refl
zeros-read (suc n) zero = refl
zeros-read (suc n) (suc j) = zeros-read n j

padded_long : (s : List ℕ) (n : ℕ) → length s ≤ n → length (s ++ drop (length s) (replicate n 0)) ≡ n
padded_long [] n h = simp length-replicate
padded_long (x ∷ s) zero h = absurd (omega arith)
padded_long (x ∷ s) (suc n) h = ap suc (padded_long s n (omega arith))

padded_read : (s : List ℕ) (n : ℕ) → length s ≤ n → (j : ℕ) → get_or (s ++ drop (length s) (replicate n 0)) j 0 ≡ get_or s j 0
padded_read [] n h j = zeros-read n j
padded_read (x ∷ s) zero h j = absurd (omega arith)
padded_read (x ∷ s) (suc n) h zero = refl
padded_read (x ∷ s) (suc n) h (suc j) = padded_read s n (omega arith) j

pub padded : (s q : List ℕ) (n : ℕ) → q ≡ s → length s ≤ n
    → (length (q ++ drop (length s) (replicate n 0)) ≡ n) × ((j : ℕ) → get_or (q ++ drop (length s) (replicate n 0)) j 0 ≡ get_or s j 0)
padded s q n e h = rw e (padded_long s n h, padded_read s n h)
