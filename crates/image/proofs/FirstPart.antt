-- The check's two parts put together: what the first has found, wrong or right, and what the lists then say of the whole.
use Prim.Native.Nat.{ℕ, ◌-◌, ◌+◌, ◌*◌, ◌≤◌}
use mathlib.Core.Path.{◌≡◌, refl, sym, ◌∙◌}
use mathlib.Core.Bool.{Bool, true, false}
use mathlib.Core.List.{List}
use native.Mathlib.Omega.{arith}
use lib.ListN.{length, get_or, take}
use Rattle.records.specs.Numbers.{Bytes, number_of, part}
use Rattle.executive.specs.Lists.{◌and◌, up_to, all_of}
use Rattle.executive.specs.Check.{in_bounds, alarm_right, entry_right, queue_right, is_well_formed}
use Rattle.executive.proofs.Assured.{and_true, true_and, bounds-get}
use Rattle.image.specs.Image.{image_length, load_of, is_image}
use Rattle.image.specs.Sound.{tasks_in, noughts, code_at, sound_at, names_other, KindsKnown, below}
use Rattle.image.specs.Marks.{Kinds, Running}
use Rattle.image.specs.Seen.{lists_right, Begun, Sees}
use Rattle.image.proofs.Alike.{decide, never}
use Rattle.image.proofs.Loaded.{count-there, granule-there, queued-there, clock-there, flags-there}
use Rattle.image.proofs.Beheld.{below_get, below_make, image-codes, sound-below, sound-kinds, past-get, past-blank, past_make}
use Rattle.image.proofs.SoundParts.{Sound, sound-get, sound-last, named-others}
use borrow.Author.Tests.{leb-true, leb-false}
use lib.Dec.{leb}

pub few : (s : List ℕ) (c : ℕ) → in_bounds (get_or s 433 0) (get_or s 434 0) (record { 0 = c }) (get_or s 435 0) ≡ true → get_or s 433 0 ≤ 16
few s c e = (bounds-get (get_or s 433 0) (get_or s 434 0) (record { 0 = c }) (get_or s 435 0) e).count.1

module _ (s : List ℕ) (h : Bytes s) where
  neither : (is_image s ≡ true → is_well_formed (load_of s) ≡ true → ⊥) → (is_image s and is_well_formed (load_of s)) ≡ false
  neither f =
      decide (is_image s)
      (λ i. decide (is_well_formed (load_of s)) (λ w. absurd (f i w)) (λ w. rw (i, w) refl))
      (λ i. rw i refl)

  begun-wrong : {ws : List ℕ} {r : ℕ} → (is_image s and is_well_formed (load_of s)) ≡ false → Begun s false ws r
  begun-wrong e =
      record {
        wrong = λ z. e;
        image = λ z. absurd (never z);
        listed = λ z. absurd (never z);
        counted = λ z. absurd (never z);
        known = λ z. absurd (never z);
        others = λ z. absurd (never z);
        kinds = λ z. absurd (never z);
        alarms = λ z. absurd (never z);
      }

  pub no-image : {ws : List ℕ} {r : ℕ} → is_image s ≡ false → Begun s false ws r
  no-image e = begun-wrong (rw e refl)

  -- ---- the clock c and the flags fs, as they were read
  module _ (c fs : ℕ) (ec : c ≡ number_of (part 8 436 s)) (ef : fs ≡ number_of (part 4 444 s)) where
    abbrev n : ℕ
    n = get_or s 433 0

    abbrev zeros : Bool
    zeros = noughts s (416 - n * 26) (n * 26) and noughts s (914 - (898 + n)) (898 + n)

    abbrev Rules : Type 0
    Rules =
        Sound s n (get_or s 434 0) c (get_or s 435 0) fs (load_of s).rest.sent (count-there s) (granule-there s) (ec ∙ clock-there s) (queued-there s)
        (ef ∙ flags-there s) refl

    rules : is_well_formed (load_of s) ≡ true → Rules
    rules = sound-get s n (get_or s 434 0) c (get_or s 435 0) fs _ (count-there s) (granule-there s) (ec ∙ clock-there s) (queued-there s) (ef ∙ flags-there s) refl

    others : is_well_formed (load_of s) ≡ true → up_to (names_other (tasks_in s)) n ≡ true
    others =
        named-others s n (get_or s 434 0) c (get_or s 435 0) fs _ (count-there s) (granule-there s) (ec ∙ clock-there s) (queued-there s) (ef ∙ flags-there s) refl

    -- a rule that is broken
    pub rule-broken : {ws : List ℕ} {r : ℕ} → (Rules → ⊥) → Begun s false ws r
    rule-broken f = begun-wrong (neither (λ i w. f (rules w)))

    module _ (long : length s ≡ image_length) (hn : n ≤ 16) where
      codes : is_image s ≡ true → below (code_at s) 16 ≡ true
      codes i = sym (image-codes s h long) ∙ i

      pub entries-broken : {ws : List ℕ} {r : ℕ} → below (sound_at s n c fs) n ≡ false → Begun s false ws r
      entries-broken e =
          begun-wrong
          (neither
          (λ i w.
          never
          (sym e ∙ sound-below s n c fs hn
          ∙ true_and (below (code_at s) n) _ (below_make (code_at s) n (λ j l. below_get (code_at s) 16 j (codes i) (omega arith)))
          (true_and (all_of (entry_right n c fs) (take n (tasks_in s))) _ (rules w).entries (others w)))))

      pub blanks-broken : {ws : List ℕ} {r : ℕ} → zeros ≡ false → Begun s false ws r
      blanks-broken e =
          begun-wrong (neither (λ i w. never (sym e ∙ past_make s n hn (λ j a l. below_get (code_at s) 16 j (codes i) l) (rules w).blanks)))

      -- nothing is broken: the entries, the alarms and the queue keep their rules
      module _ (es : below (sound_at s n c fs) n ≡ true) where
        pub kinds-known : KindsKnown s n
        kinds-known = sound-kinds s n c fs hn es

        entered : (below (code_at s) n ≡ true) × ((all_of (entry_right n c fs) (take n (tasks_in s)) and up_to (names_other (tasks_in s)) n) ≡ true)
        entered = and_true (below (code_at s) n) _ (sym (sound-below s n c fs hn) ∙ es)

        kept : (all_of (entry_right n c fs) (take n (tasks_in s)) ≡ true) × (up_to (names_other (tasks_in s)) n ≡ true)
        kept = and_true (all_of (entry_right n c fs) (take n (tasks_in s))) _ entered.1

        pub begun-right : {ws : List ℕ} {r : ℕ} → zeros ≡ true → in_bounds n (get_or s 434 0) (record { 0 = c }) (get_or s 435 0) ≡ true
            → all_of (alarm_right c) (load_of s).rest.alarms ≡ true → queue_right (load_of s) ≡ true → Kinds n ws (tasks_in s) → Running r (load_of s).rest.alarms
            → Begun s true ws r
        begun-right {ws} {r} zs bs alarmed qs ks run =
            let z : Rules = record { bounds = bs; entries = kept.0; blanks = past-blank s n hn zs; alarms = alarmed; queue = qs } in
            record {
              wrong = λ x. absurd (never (sym x));
              image =
                  λ x.
                  image-codes s h long
                  ∙ below_make (code_at s) 16
                  (λ i l. decide (leb n i) (λ y. (past-get s n hn zs i (leb-true n i y) l).0) (λ y. below_get (code_at s) n i entered.0 (leb-false n i y)));
              listed =
                  λ x.
                  sym (sound-last s n (get_or s 434 0) c (get_or s 435 0) fs _ (count-there s) (granule-there s) (ec ∙ clock-there s) (queued-there s) (ef ∙ flags-there s) refl z
                  (lists_right (load_of s)) (rw (count-there s, queued-there s) refl));
              counted =
                  λ x.
                  let b = bounds-get n (get_or s 434 0) (record { 0 = c }) (get_or s 435 0) bs in
                  (rw (count-there s) at b.count.1, rw (queued-there s) at b.queued);
              known = λ x. rw (count-there s) at kinds-known;
              others = λ x. rw (count-there s) at kept.1;
              kinds = λ x. rw (count-there s) at ks;
              alarms = λ x. run;
            }

-- ---- the lists last
module _ (s : List ℕ) {x : Bool} {ws : List ℕ} {r : ℕ} (b : Begun s x ws r) where
  pub lists_last : x ≡ true → (y : Bool) → y ≡ lists_right (load_of s) → y ≡ (is_image s and is_well_formed (load_of s))
  lists_last e y f = rw (b.image e) (f ∙ sym (b.listed e))

  pub sees_wrong : {vs : List ℕ} {n : ℕ} → x ≡ false → Sees s false vs n
  sees_wrong e = record { told = sym (b.wrong e); kinds = λ z. absurd (never z); alarms = λ z. absurd (never z) }

  pub sees_not : {vs : List ℕ} {n : ℕ} → x ≡ true → lists_right (load_of s) ≡ false → Sees s false vs n
  sees_not e f = record { told = lists_last e false (sym f); kinds = λ z. absurd (never z); alarms = λ z. absurd (never z) }

  pub sees_all : x ≡ true → lists_right (load_of s) ≡ true → Sees s x ws r
  sees_all e f = record { told = lists_last e x (e ∙ sym f); kinds = b.kinds; alarms = b.alarms }
