-- One step entered in the book of letters: what it does to the messages that wait, and that the account is kept.
use mathlib.Core.Path.{◌≡◌, refl, sym, ap, ◌∙◌}
use mathlib.Core.Bool.{Bool, true, false, cond, ◌||◌}
use mathlib.Core.List.{List, [], ◌∷◌, ◌++◌, map, append_assoc, append-nil}
use Prim.Native.Nat.{ℕ, suc, ◌+◌, ◌≤◌}
use native.Mathlib.Omega.{arith}
use borrow.Author.Tests.{eqb-true, ne_eqb}
use lib.Dec.{eqb}
use lib.ListN.{length, length-append}
use Rattle.executive.specs.declared.Message.{Message}
use Rattle.executive.specs.Lists.{one, sum_of, ◌and◌}
use Rattle.executive.specs.Queue.{AllLe, Desc}
use Rattle.executive.specs.Pool.{removed}
use Rattle.executive.specs.Messages.{fits, first_fit, put_behind, post, noted}
use Rattle.executive.specs.WellFormed.{fitting}
use Rattle.executive.specs.Letters.{Letter, letter, unstamped, unnumbered, Letters, Passage, elsewhere, delivers, keeps, hands, first_that, but_first, all_that}
use Rattle.executive.specs.Letters.{letter_fits, is_of_these, of_these, times_of, letter_rank, entered, Agree}
use Rattle.executive.proofs.Lists.Tests.{and_true}
use Rattle.executive.proofs.Lists.Sums.{sum-append}
use Rattle.executive.proofs.messages.Lines.{put_length, put_sum, map_put}
use Rattle.executive.proofs.Letters.Lists.{removed-first, first-sum, first-length, all_append, none_passes, first_in_order, AllAtMost, Descends, put_in_order}
use Rattle.executive.proofs.Letters.Lists.{map_but_first, map-sum, map_descends}

-- ---- what a step does to the messages that wait: those before and those after it. One that is delivered at once had none
-- waiting for its addressee from its sender
abbrev pub Passes : List Message → List Message → Passage → Type 0
Passes ms ns elsewhere = ns ≡ ms
Passes ms ns (delivers m) = (ns ≡ ms) × (fitting m.to.0 m.sender.0 ms ≡ 0)
Passes ms ns (keeps m) = ns ≡ post m ms
Passes ms ns (hands k s) = ns ≡ removed (first_fit k s ms) ms

-- ---- the account, with i the number of the next step, those that waited at the start w and the messages ms
pub record GoodLetters (w : List Letter) (i : ℕ) (b : Letters) (ms : List Message) : Type 0 where
  pub line : Agree b.waiting ms
  pub once : (j : ℕ) → times_of j b.handed + times_of j b.waiting ≡ times_of j w + times_of j b.posted
  pub single : (j : ℕ) → times_of j b.posted ≤ 1
  pub later : (j : ℕ) → i ≤ j → times_of j b.posted ≡ 0
  pub in_order : (k s p : ℕ) → of_these k s p w ++ of_these k s p b.posted ≡ of_these k s p b.handed ++ of_these k s p b.waiting
  pub number : length w + length b.posted ≡ length b.waiting + length b.handed

-- one more is accepted, at step i
module _ (i : ℕ) (m : Message) (es : List Letter) (single : (j : ℕ) → times_of j es ≤ 1) (later : (j : ℕ) → i ≤ j → times_of j es ≡ 0) where
  once_more : (j : ℕ) → times_of j (es ++ (letter i m ∷ [])) ≡ times_of j es + one (eqb j i)
  unfolding sum_of
  once_more j = omega (arith, sum-append (λ (e : Letter). one (eqb j e.step)) es (letter i m ∷ []))

  single_more : (j : ℕ) → times_of j (es ++ (letter i m ∷ [])) ≤ 1
  single_more j = go (eqb j i) refl
    where
      go : (b : Bool) → eqb j i ≡ b → times_of j (es ++ (letter i m ∷ [])) ≤ 1
      go true e = omega (arith, once_more j, ap one e, later j (omega (arith, eqb-true j i e)))
      go false e = omega (arith, once_more j, ap one e, single j)

  later_more : (j : ℕ) → suc i ≤ j → times_of j (es ++ (letter i m ∷ [])) ≡ 0
  later_more j h = omega (arith, once_more j, ap one (ne_eqb j i (λ e. omega arith)), later j (omega arith))

-- lists put together another way
module _ {A : Type 0} (w a b x v : List A) (e : w ++ a ≡ b ++ v) where
  at-ends : w ++ (a ++ x) ≡ b ++ (v ++ x)
  at-ends = sym (append_assoc w a x) ∙ ap (λ (l : List A). l ++ x) e ∙ append_assoc b v x

  between : x ++ v ≡ v ++ x → w ++ (a ++ x) ≡ (b ++ x) ++ v
  between s = at-ends ∙ ap (λ (l : List A). b ++ l) (sym s) ∙ sym (append_assoc b x v)

-- ---- those of one addressee, sender and priority
same_rank : (k s p : ℕ) (x y : Letter) → is_of_these k s p x ≡ true → is_of_these k s p y ≡ true → letter_rank x ≡ letter_rank y
same_rank k s p x y a b = sym (rank x a) ∙ rank y b
  where
    rank : (e : Letter) → is_of_these k s p e ≡ true → p ≡ e.priority
    rank e q = eqb-true p e.priority (and_true (eqb s e.sender) _ (and_true (eqb k e.to) _ q).1).1

to-of : (k s p : ℕ) (e : Letter) → is_of_these k s p e ≡ true → k ≡ e.to
to-of k s p e q = eqb-true k e.to (and_true (eqb k e.to) _ q).0

sender-of : (k s p : ℕ) (e : Letter) → is_of_these k s p e ≡ true → s ≡ e.sender
sender-of k s p e q = eqb-true s e.sender (and_true (eqb s e.sender) _ (and_true (eqb k e.to) _ q).1).0

same-fit : (c n k s p : ℕ) (x y : Letter) → is_of_these k s p x ≡ true → is_of_these k s p y ≡ true → letter_fits c n x ≡ letter_fits c n y
same-fit c n k s p x y a b =
    let t : x.to ≡ y.to = sym (to-of k s p x a) ∙ to-of k s p y b in
    let u : x.sender ≡ y.sender = sym (sender-of k s p x a) ∙ sender-of k s p y b in
    rw (t, u) refl

-- where none waits for its addressee from its sender, none of its kind waits
or_right : (a b : Bool) → b ≡ true → a || b ≡ true
or_right true b e = refl
or_right false b e = e

none_of : (k s p : ℕ) (es : List Letter) → sum_of (λ (e : Letter). one (letter_fits k s e)) es ≡ 0 → sum_of (λ (e : Letter). one (is_of_these k s p e)) es ≡ 0
unfolding sum_of
none_of k s p [] z = refl
none_of k s p (e ∷ es) z = omega (arith, go (eqb k e.to) (eqb s e.sender) (omega arith), none_of k s p es (omega arith))
  where
    go : (a b : Bool) → one (a and (eqb s 0 || b)) ≡ 0 → one (a and b and eqb p e.priority) ≡ 0
    go false b q = refl
    go true false q = refl
    go true true q = absurd (omega (arith, q, ap one (or_right (eqb s 0) true refl)))

-- the book's line and the table's, counted alike
fitting-agrees : (k s : ℕ) (es : List Letter) (ms : List Message) → Agree es ms → sum_of (λ (e : Letter). one (letter_fits k s e)) es ≡ fitting k s ms
fitting-agrees k s es ms a =
    map-sum unstamped (λ (e : Letter). one (letter_fits k s e)) es
    ∙ ap (λ (l : List Letter). sum_of (λ (e : Letter). one (letter_fits k s e)) l) a
    ∙ sym (map-sum (letter 0) (λ (e : Letter). one (letter_fits k s e)) ms)

-- an entry beside a list: where it is of the kind, the list has none of it
beside : (g : Letter → Bool) (e : Letter) (v : List Letter) → (g e ≡ true → v ≡ []) → all_that g (e ∷ []) ++ v ≡ v ++ all_that g (e ∷ [])
unfolding all_that
beside g e v n = go (g e) n
  where
    go : (b : Bool) → (b ≡ true → v ≡ []) → cond b (e ∷ []) [] ++ v ≡ v ++ cond b (e ∷ []) []
    go true n = rw (n refl) refl
    go false n = sym (append-nil v)

alone : (k s p i : ℕ) (m : Message) (es : List Letter) (ms : List Message) → Agree es ms → fitting m.to.0 m.sender.0 ms ≡ 0
    → of_these k s p (letter i m ∷ []) ++ of_these k s p es ≡ of_these k s p es ++ of_these k s p (letter i m ∷ [])
alone k s p i m es ms a z = beside (is_of_these k s p) (letter i m) (of_these k s p es) no
  where
    no : is_of_these k s p (letter i m) ≡ true → of_these k s p es ≡ []
    no q =
        let t : k ≡ m.to.0 = to-of k s p (letter i m) q in
        let u : s ≡ m.sender.0 = sender-of k s p (letter i m) q in
        none_passes (is_of_these k s p) es (none_of k s p es (fitting-agrees k s es ms a ∙ rw (t, u) z))

-- ---- the book's line descends as the table's does
most-letters : (n : ℕ) (ms : List Message) → AllLe n (map noted ms) → AllAtMost letter_rank n (unnumbered ms)
most-letters n [] a = tt
most-letters n (m ∷ ms) a = (a.0, most-letters n ms a.1)

letters_descend : (ms : List Message) → Desc (map noted ms) → Descends letter_rank (unnumbered ms)
letters_descend [] d = tt
letters_descend (m ∷ ms) d = (most-letters m.priority ms d.0, letters_descend ms d.1)

waiting_descends : (es : List Letter) (ms : List Message) → Agree es ms → Desc (map noted ms) → Descends letter_rank es
waiting_descends es ms a d = map_descends unstamped letter_rank es (rw a (letters_descend ms d))

-- ---- the lines stay the same
agree_more : (i : ℕ) (m : Message) (es : List Letter) (ms : List Message) → Agree es ms → Agree (put_behind letter_rank (letter i m) es) (post m ms)
agree_more i m es ms a =
    map_put unstamped letter_rank (letter i m) es
    ∙ ap (λ (l : List Letter). put_behind letter_rank (letter 0 m) l) a
    ∙ sym (map_put (letter 0) letter_rank m ms)

agree_less : (k s : ℕ) (es : List Letter) (ms : List Message) → Agree es ms → Agree (but_first (letter_fits k s) es) (removed (first_fit k s ms) ms)
agree_less k s es ms a =
    map_but_first unstamped (letter_fits k s) es
    ∙ ap (λ (l : List Letter). but_first (letter_fits k s) l) a
    ∙ sym (map_but_first (letter 0) (letter_fits k s) ms)
    ∙ ap (λ (l : List Message). unnumbered l) (sym (removed-first (fits k s) ms))

pub written-kept : (w : List Letter) (i : ℕ) (x : Passage) (b : Letters) (ms ns : List Message) → Passes ms ns x → Desc (map noted ms)
    → GoodLetters w i b ms → GoodLetters w (suc i) (entered i x b) ns
unfolding entered
written-kept w i elsewhere b ms ns d o h = record {
  line = rw d h.line;
  once = h.once;
  single = h.single;
  later = λ j l. h.later j (omega arith);
  in_order = h.in_order;
  number = h.number;
}
written-kept w i (delivers m) b ms ns d o h =
    let e : List Letter = letter i m ∷ [] in
    record {
      line = rw d.0 h.line;
      once = λ j. omega (arith, h.once j, sum-append (λ (x : Letter). one (eqb j x.step)) b.posted e, sum-append (λ (x : Letter). one (eqb j x.step)) b.handed e);
      single = single_more i m b.posted h.single h.later;
      later = later_more i m b.posted h.single h.later;
      in_order = λ k s p. rw (all_append (is_of_these k s p) b.posted e, all_append (is_of_these k s p) b.handed e)
          (between (of_these k s p w) _ (of_these k s p b.handed) _ _ (h.in_order k s p) (alone k s p i m b.waiting ms h.line d.1));
      number = omega (arith, h.number, length-append b.posted e, length-append b.handed e);
    }
written-kept w i (keeps m) b ms ns d o h =
    let e : List Letter = letter i m ∷ [] in
    record {
      line = rw d (agree_more i m b.waiting ms h.line);
      once = λ j. omega (arith, h.once j, sum-append (λ (x : Letter). one (eqb j x.step)) b.posted e, put_sum letter_rank (λ (x : Letter). one (eqb j x.step)) (letter i m) b.waiting, once_more i m b.posted h.single h.later j);
      single = single_more i m b.posted h.single h.later;
      later = later_more i m b.posted h.single h.later;
      in_order = λ k s p. rw (all_append (is_of_these k s p) b.posted e, put_in_order letter_rank (is_of_these k s p) (same_rank k s p) (letter i m) b.waiting (waiting_descends b.waiting ms h.line o))
          (at-ends (of_these k s p w) _ (of_these k s p b.handed) _ _ (h.in_order k s p));
      number = omega (arith, h.number, length-append b.posted e, put_length letter_rank (letter i m) b.waiting);
    }
written-kept w i (hands c n) b ms ns d o h =
    let f : List Letter = first_that (letter_fits c n) b.waiting in
    let v : List Letter = but_first (letter_fits c n) b.waiting in
    record {
      line = rw d (agree_less c n b.waiting ms h.line);
      once = λ j. omega (arith, h.once j, sum-append (λ (x : Letter). one (eqb j x.step)) b.handed f, first-sum (letter_fits c n) (λ (x : Letter). one (eqb j x.step)) b.waiting);
      single = h.single;
      later = λ j l. h.later j (omega arith);
      in_order = λ k s p. rw (all_append (is_of_these k s p) b.handed f)
          (h.in_order k s p
          ∙ ap (λ (l : List Letter). of_these k s p b.handed ++ l) (sym (first_in_order (letter_fits c n) (is_of_these k s p) (same-fit c n k s p) b.waiting))
          ∙ sym (append_assoc (of_these k s p b.handed) (of_these k s p f) (of_these k s p v)));
      number = omega (arith, h.number, length-append b.handed f, first-length (letter_fits c n) b.waiting);
    }
