-- Each accepted message waits or was handed over, once: the account over any records, from any well-formed table and so from
-- every fresh one.
use mathlib.Core.Path.{◌≡◌, refl, sym, ap, ◌∙◌}
use mathlib.Core.Bool.{true}
use mathlib.Core.List.{List, [], ◌∷◌, ◌++◌, map, append-nil}
use Prim.Native.Nat.{ℕ, suc, ◌+◌, ◌<◌}
use native.Mathlib.Omega.{arith}
use lib.ListN.{length, get_or, length-append}
use Rattle.records.specs.Numbers.{Bytes}
use Rattle.executive.specs.declared.Message.{Message}
use Rattle.executive.specs.declared.Table.{Table}
use Rattle.executive.specs.Lists.{one, sum_of}
use Rattle.executive.specs.Table.{begin}
use Rattle.executive.specs.Messages.{letters}
use Rattle.executive.specs.Plans.{caller}
use Rattle.executive.specs.WellFormed.{WellFormed}
use Rattle.executive.specs.Step.{step_of}
use Rattle.executive.specs.Configuration.{tasks_in, is_configuration, dormant_table, starters, fresh_table}
use Rattle.executive.specs.Letters.{Letter, letter, unstamped, unnumbered, Letters, Passage, opened, all_that, of_these, times_of, entered, passage_in, letters_from, letters_of, first_waiting, Agree}
use Rattle.executive.specs.Promises.Demands.{after, AllBytes}
use Rattle.executive.specs.Promises.EveryStart.{counted}
use Rattle.executive.specs.Promises.MailLaw.{sends14, receives15, LetterAccount, HandsOver, fit_place, TellsFirst, MailLaw}
use Rattle.executive.proofs.Lists.Tests.{not-zero}
use Rattle.executive.proofs.queue.InFlight.{admits_rest}
use Rattle.executive.proofs.messages.Arrays.{letters-length}
use Rattle.executive.proofs.messages.Unmet.{first-of-fitting}
use Rattle.executive.proofs.Plans.WorkingForm.{formed}
use Rattle.executive.proofs.step.StepIsPlan.{step_kept}
use Rattle.executive.proofs.configuration.WellFormed.{fresh-formed}
use Rattle.executive.proofs.promises.Demands.{kept}
use Rattle.executive.proofs.Letters.Written.{GoodLetters, written-kept}
use Rattle.executive.proofs.Letters.Step.{step-passes}
use Rattle.executive.proofs.Letters.Counted.{new_posted, adds-posted, sends_told}
use Rattle.executive.proofs.Letters.Handed.{new_handed, adds-handed, few-handed, step-told}
use Rattle.executive.proofs.Letters.Told.{none_told, receive-tells, none_found}
use Rattle.executive.proofs.Letters.Mail.{mail-stands, mail-gone}
use Rattle.executive.proofs.Letters.Again.{room-again}

-- ---- the account is kept from the opened book on
agree_start : (ms : List Message) → Agree (unnumbered ms) ms
agree_start [] = refl
agree_start (m ∷ ms) = ap (λ (l : List Letter). letter 0 m ∷ l) (agree_start ms)

opened-kept : (ms : List Message) → GoodLetters (unnumbered ms) 1 (opened (unnumbered ms)) ms
unfolding sum_of all_that
opened-kept ms = record {
  line = agree_start ms;
  once = λ j. omega arith;
  single = λ j. omega arith;
  later = λ j l. refl;
  in_order = λ k s p. append-nil (of_these k s p (unnumbered ms));
  number = refl;
}

step_account : (w : List Letter) (i : ℕ) (b : Letters) (t : Table) (s : List ℕ) → WellFormed t → Bytes s → GoodLetters w i b (letters t.rest)
    → GoodLetters w (suc i) (entered i (passage_in t s) b) (letters (step_of t s).table.rest)
step_account w i b t s f y h =
    written-kept w i (passage_in t s) b (letters t.rest) (letters (step_of t s).table.rest) (step-passes t s f y) f.messages.sorted h

all-kept : (w : List Letter) (i : ℕ) (b : Letters) (t : Table) (ss : List (List ℕ)) → WellFormed t → AllBytes ss → GoodLetters w i b (letters t.rest)
    → GoodLetters w (i + length ss) (letters_from i t b ss) (letters (after t ss).rest)
unfolding letters_from after
all-kept w i b t [] f y h = let z : i + 0 ≡ i = omega arith in rw z h
all-kept w i b t (s ∷ ss) f y h =
    let z : i + suc (length ss) ≡ suc i + length ss = omega arith in
    rw z (all-kept w (suc i) (entered i (passage_in t s) b) (step_of t s).table ss (step_kept t s f y.0) y.1 (step_account w i b t s f y.0 h))

-- ---- the number of those accepted, counted without the book; the number of those that wait
posted-number : (i : ℕ) (b : Letters) (t : Table) (ss : List (List ℕ)) → AllBytes ss
    → length (letters_from i t b ss).posted ≡ length b.posted + counted sends14 t ss
unfolding letters_from counted
posted-number i b t [] y = omega arith
posted-number i b t (s ∷ ss) y =
    let x : Passage = passage_in t s in
    omega (
      arith,
      posted-number (suc i) (entered i x b) (step_of t s).table ss y.1,
      ap (λ (l : List Letter). length l) (adds-posted i x b),
      length-append b.posted (new_posted i x),
      sends_told t s i y.0,
    )

map-length : {A B : Type 0} (f : A → B) (xs : List A) → length (map f xs) ≡ length xs
map-length f [] = refl
map-length f (x ∷ xs) = ap suc (map-length f xs)

agree_length : (es : List Letter) (ms : List Message) → Agree es ms → length es ≡ length ms
agree_length es ms a = sym (map-length unstamped es) ∙ ap (λ (l : List Letter). length l) a ∙ map-length (letter 0) ms

-- those that waited at the start bear number 0
none_stamped : (i : ℕ) (ms : List Message) → 0 < i → times_of i (unnumbered ms) ≡ 0
unfolding sum_of
none_stamped i [] l = refl
none_stamped i (m ∷ ms) l = omega (arith, ap one (not-zero i l), none_stamped i ms l)

-- ---- the account
pub letter_account : (t : Table) (ss : List (List ℕ)) → WellFormed t → AllBytes ss → LetterAccount t ss
letter_account t ss f y =
    let h : GoodLetters (first_waiting t) (1 + length ss) (letters_of t ss) (letters (after t ss).rest) =
    all-kept (first_waiting t) 1 (opened (first_waiting t)) t ss f y (opened-kept (letters t.rest)) in
    record {
      line = h.line;
      once = λ i l. omega (arith, h.once i, none_stamped i (letters t.rest) l);
      single = h.single;
      in_order = h.in_order;
      number = h.number;
      accepted = omega (arith, posted-number 1 (opened (first_waiting t)) t ss y);
      waiting = agree_length (letters_of t ss).waiting (letters (after t ss).rest) h.line
          ∙ letters-length (after t ss).rest (formed (kept t ss f y)).mailed.neat;
    }

-- ---- one step of a history
letters-last : (i : ℕ) (t : Table) (b : Letters) (ss : List (List ℕ)) (s : List ℕ)
    → letters_from i t b (ss ++ (s ∷ [])) ≡ entered (i + length ss) (passage_in (after t ss) s) (letters_from i t b ss)
unfolding letters_from after
letters-last i t b [] s = let z : i + 0 ≡ i = omega arith in rw z refl
letters-last i t b (x ∷ ss) s =
    let z : i + suc (length ss) ≡ suc i + length ss = omega arith in
    rw z (letters-last (suc i) (step_of t x).table (entered i (passage_in t x) b) ss s)

pub handed-is-told : (t : Table) (before : List (List ℕ)) (s : List ℕ) → WellFormed t → AllBytes before → Bytes s
    → HandsOver (letters_of t before) (letters_of t (before ++ (s ∷ []))) (after t before) s
handed-is-told t before s f y z =
    let w : List Letter = first_waiting t in
    let b : Letters = letters_of t before in
    let v : Table = after t before in
    let i : ℕ = 1 + length before in
    let x : Passage = passage_in v s in
    let h : GoodLetters w i b (letters v.rest) = all-kept w 1 (opened w) t before f y (opened-kept (letters t.rest)) in
    rw (letters-last 1 t (opened w) before s) (record {
      new = new_handed i x b;
      added = adds-handed i x b;
      few = few-handed i x b;
      told = step-told v s (kept t before f y) z i b h.line;
    })

-- nothing waits in a fresh table
fresh-empty : (g : List ℕ) → letters (fresh_table g).rest ≡ []
unfolding fresh_table dormant_table
fresh-empty g = rw (admits_rest (starters g (tasks_in g) 1) (begin (dormant_table g))) refl

pub fresh-counted : (g : List ℕ) (ss : List (List ℕ)) → Bytes g → is_configuration g ≡ true → AllBytes ss
    → length (letters_of (fresh_table g) ss).posted ≡ length (letters_of (fresh_table g) ss).waiting + length (letters_of (fresh_table g) ss).handed
fresh-counted g ss b e y =
    let z : length (first_waiting (fresh_table g)) ≡ 0 = ap (λ (ms : List Message). length (unnumbered ms)) (fresh-empty g) in
    omega (arith, (letter_account (fresh_table g) ss (fresh-formed g b e) y).number)

-- ---- what a receive hands out is the first of those that fit
pub first-handed : (t : Table) (s : List ℕ) → WellFormed t → Bytes s → receives15 t s ≡ true → fit_place t s < length (letters t.rest)
    → TellsFirst t s (step_of t s).answer (fit_place t s)
first-handed t s w y r h =
    let m = receive-tells t s y r in
    record { first = first-of-fitting (caller t).0 (get_or s 1 0) (letters t.rest) w.messages.sorted h; sender = m.0; text = m.1 }

pub mail_law : MailLaw
mail_law = record {
  from-any = letter_account;
  counted = fresh-counted;
  handed-is-told = handed-is-told;
  none_told = none_told;
  mail-stands = mail-stands;
  mail-gone = mail-gone;
  first-handed = first-handed;
  none_found = none_found;
  room-again = room-again;
}
