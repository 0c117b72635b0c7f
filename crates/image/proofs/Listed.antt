-- What is promised of mending an image: its numbers, and that each entry is listed exactly where one of its bytes differs.
use Prim.Native.Nat.{ℕ, suc, ◌+◌, ◌*◌, ◌≤◌, ◌<◌}
use mathlib.Core.Path.{◌≡◌, refl, sym, ap, ap₂, subst, ◌∙◌}
use mathlib.Core.Logic.{◌⊎◌, inl, inr}
use mathlib.Core.Bool.{Bool, true, false, cond, ◌&&◌}
use mathlib.Core.List.{List, [], ◌++◌}
use native.Mathlib.Omega.{arith}
use lib.Dec.{eqb, ltb}
use lib.ListN.{length, get_or}
use lib.Seq.{get_or-take}
use borrow.Author.Tests.{eq-eqb, ne_eqb, lt-ltb, le-ltb, eqb-true, eqb-false}
use Rattle.records.specs.Numbers.{Bytes, part, total, cut, Wide}
use Rattle.records.proofs.Assured.{promises as records-promises}
use Rattle.executive.specs.declared.Task.{Task}
use Rattle.executive.specs.declared.Table.{Table}
use Rattle.executive.specs.Numbers.{most_tasks}
use Rattle.executive.specs.Places.{no_task, task_at}
use Rattle.executive.specs.States.{state_kind, time_of, mask_of, awaited_of}
use Rattle.executive.specs.Messages.{no_mail, mail_at}
use Rattle.executive.proofs.Assured.{take-le}
use Rattle.mender.specs.declared.Note.{Note}
use Rattle.mender.specs.declared.Mended.{Mended}
use Rattle.mender.specs.Rules.{Breaks, own-over, level-over, sub-over, awaited-over, sender-over, past, time, start, mask, zeros, met}
use Rattle.mender.specs.Listing.{no_note, note_of}
use Rattle.mender.specs.Mending.{mend_of, Typed}
use Rattle.mender.specs.Promises.{OutOfRange, Same, Listed, RuleRight, notes_in, times_noted}
use Rattle.mender.proofs.Assured.{promises as mender-promises}
use Rattle.image.specs.Blocks.{written, same}
use Rattle.image.specs.Image.{task_widths, awaited_widths, mail_widths, task_of, mail_of, task_bytes, awaited_bytes, mail_bytes, task_from, mail_from}
use Rattle.image.specs.Image.{awaited_at, mails_at, task_length, mail_length, no_room, image_length, image_of, load_of, is_image, FitsTable}
use Rattle.image.specs.EntryPoints.{WellFormedImage}
use Rattle.image.specs.Mending.{is_plain, no_rule, rule_for, bytes_rule, list_rule, notes_from, list_of, list_length, list_bytes, mend_number, mend_image, mend_list, MendsImage, MendNumbers, same_bytes_at, ListedBytes, Stray}
use Rattle.image.proofs.Alike.{decide, never, same_self, same_true}
use Rattle.image.proofs.Spans.{block_at}
use Rattle.image.proofs.Trips.{image-parts, load_fits}
use Rattle.image.proofs.Answered.{holds}
use Rattle.image.proofs.Canonical.{are, are-told, Canonical, task-again, awaited-again, image_canonical}
use Rattle.image.proofs.Noted.{times-from, none_from, ascends-from, each-note, Found, unnoted, noted-at, find, unnoted-rule, rule-pad}

-- ---- the numbers of a block are those of its bytes, so equal bytes are equal numbers
cut-part : (s : List ℕ) → Bytes s → (ws : List ℕ) (at : ℕ) → Wide ws → length (cut ws at s) ≡ length ws → cut ws at s ≡ cut ws 0 (part (total ws) at s ++ [])
cut-part s h ws at w l = sym (records-promises.cut-lay ws (cut ws at s) [] [] w l) ∙ ap (λ (bs : List ℕ). cut ws 0 (bs ++ [])) (records-promises.lay-cut s h ws at)

both : (a b c : Bool) → a && b && c ≡ true → (a ≡ true) × ((b ≡ true) × (c ≡ true))
both true true true e = (refl, (refl, refl))
both true true false e = absurd (never e)
both true false c e = absurd (never e)
both false b c e = absurd (never e)

three : (a b c : Bool) → a ≡ true → b ≡ true → c ≡ true → a && b && c ≡ true
three a b c e f g = rw (e, f, g) refl

equal-same : (xs ys : List ℕ) → xs ≡ ys → same xs ys ≡ true
equal-same xs ys e = ap (same xs) (sym e) ∙ same_self xs

-- ---- the entry at a place, in the bytes and in the table
module _ (i : ℕ) (l : i < 16) where
  entry_of : (s : List ℕ) → task_at (load_of s).tasks (suc i) ≡ task_from s i
  unfolding load_of task_at
  entry_of s = let z : 0 + i * 1 ≡ i = omega arith in block_at (task_from s) 1 16 0 i no_task l ∙ ap (task_from s) z

  mail-of : (s : List ℕ) → mail_at (load_of s).rest.mail (suc i) ≡ mail_from s (mails_at + i * mail_length)
  unfolding load_of mail_at
  mail-of s = block_at (mail_from s) mail_length 16 mails_at i no_mail l

  plain_canonical : (s : List ℕ) → is_plain s i ≡ true → Canonical s i
  unfolding is_plain
  plain_canonical s e = are (task_from s i).state _ _ _ _ e

  canonical_plain : (s : List ℕ) → Canonical s i → is_plain s i ≡ true
  unfolding is_plain
  canonical_plain s c = are-told (task_from s i).state _ _ _ _ c

  module _ (s p : List ℕ) (hs : Bytes s) (hp : Bytes p) (ip : is_image p ≡ true) (u : Table) (eu : load_of p ≡ u) where
    -- its bytes are the same: so are its numbers, and its state's are those of a state in both
    pub bytes_same : same_bytes_at s p i ≡ true → (is_plain s i ≡ true) × Same (load_of s) u (suc i)
    bytes_same e =
        let b = both _ _ _ e in
        let et : cut task_widths (i * task_length) s ≡ cut task_widths (i * task_length) p =
        cut-part s hs task_widths (i * task_length) wide-task refl ∙ ap (λ (bs : List ℕ). cut task_widths 0 (bs ++ [])) (same_true _ _ b.0) ∙ sym (cut-part p hp task_widths (i * task_length) wide-task refl) in
        let ea : cut awaited_widths (awaited_at + i) s ≡ cut awaited_widths (awaited_at + i) p =
        cut-part s hs awaited_widths (awaited_at + i) (omega arith, tt) refl ∙ ap (λ (bs : List ℕ). cut awaited_widths 0 (bs ++ [])) (same_true _ _ b.1.0) ∙ sym (cut-part p hp awaited_widths (awaited_at + i) (omega arith, tt) refl) in
        let em : cut mail_widths (mails_at + i * mail_length) s ≡ cut mail_widths (mails_at + i * mail_length) p =
        cut-part s hs mail_widths (mails_at + i * mail_length) (omega arith, (omega arith, tt)) refl ∙ ap (λ (bs : List ℕ). cut mail_widths 0 (bs ++ [])) (same_true _ _ b.1.1) ∙ sym (cut-part p hp mail_widths (mails_at + i * mail_length) (omega arith, (omega arith, tt)) refl) in
        let f : task_from s i ≡ task_from p i = ap₂ task_of et ea in
        let c : Canonical p i = image_canonical p hp ip i l in (
          canonical_plain s
              (record {
                kind-is = ap (λ (x : Task). state_kind x.state) f ∙ c.kind-is ∙ sym (ap (λ (xs : List ℕ). get_or xs 1 0) et);
                time-is = ap (λ (x : Task). (time_of x.state).0) f ∙ c.time-is ∙ sym (ap (λ (xs : List ℕ). get_or xs 2 0) et);
                mask_is = ap (λ (x : Task). mask_of x.state) f ∙ c.mask_is ∙ sym (ap (λ (xs : List ℕ). get_or xs 3 0) et);
                number_is = ap (λ (x : Task). awaited_of x.state) f ∙ c.number_is ∙ sym (ap (λ (xs : List ℕ). get_or xs 0 0) ea);
              }),
          record {
            entry = ap (λ (t : Table). task_at t.tasks (suc i)) (sym eu) ∙ entry_of p ∙ sym f ∙ sym (entry_of s);
            mail = ap (λ (t : Table). mail_at t.rest.mail (suc i)) (sym eu) ∙ mail-of p ∙ sym (ap mail_of em) ∙ sym (mail-of s);
          },
        )
      where
        wide-task : Wide task_widths
        wide-task = (omega arith, (omega arith, (omega arith, (omega arith, (omega arith, (omega arith, (omega arith, (omega arith, tt))))))))

    -- it is the same in the tables, and its bytes held nothing else
    pub same_bytes : is_plain s i ≡ true → Same (load_of s) u (suc i) → same_bytes_at s p i ≡ true
    same_bytes e z =
        let c : Canonical s i = plain_canonical s e in
        let d : Canonical p i = image_canonical p hp ip i l in
        let f : task_from s i ≡ task_from p i = sym (entry_of s) ∙ sym z.entry ∙ ap (λ (t : Table). task_at t.tasks (suc i)) (sym eu) ∙ entry_of p in
        let g : mail_from s (mails_at + i * mail_length) ≡ mail_from p (mails_at + i * mail_length) =
        sym (mail-of s) ∙ sym z.mail ∙ ap (λ (t : Table). mail_at t.rest.mail (suc i)) (sym eu) ∙ mail-of p in
        let et : part task_length (i * task_length) s ≡ part task_length (i * task_length) p = sym (task-again s hs i c) ∙ ap task_bytes f ∙ task-again p hp i d in
        let ea : part 1 (awaited_at + i) s ≡ part 1 (awaited_at + i) p = sym (awaited-again s hs i c) ∙ ap awaited_bytes f ∙ awaited-again p hp i d in
        let em : part mail_length (mails_at + i * mail_length) s ≡ part mail_length (mails_at + i * mail_length) p =
        sym (records-promises.lay-cut s hs mail_widths (mails_at + i * mail_length)) ∙ ap mail_bytes g ∙ records-promises.lay-cut p hp mail_widths (mails_at + i * mail_length) in
        three _ _ _ (equal-same _ _ et) (equal-same _ _ ea) (equal-same _ _ em)

-- ---- the rule of a note of the table's mending is one
breaks-small : (t : Table) (k r : ℕ) → Breaks t k r → r < no_rule
breaks-small t k r (own-over a b) = omega arith
breaks-small t k r (level-over a b) = omega arith
breaks-small t k r (sub-over a b c) = omega arith
breaks-small t k r (awaited-over a b c) = omega arith
breaks-small t k r (sender-over a b) = omega arith
breaks-small t k r (past a b) = omega arith
breaks-small t k r (time a) = omega arith
breaks-small t k r (start a) = omega arith
breaks-small t k r (mask a) = omega arith
breaks-small t k r (zeros a b) = omega arith
breaks-small t k r (met a b) = omega arith

one_of : (b : Bool) (x y n : ℕ) → x < n → y < n → cond b x y < n
one_of true x y n f g = f
one_of false x y n f g = g

right-small : (t u : Table) (x : Note) → RuleRight t u x → x.rule < no_rule
right-small t u x (inl h) = breaks-small t x.task.0 x.rule h.breaks
right-small t u x (inr (inl h)) =
    rw h.rule (one_of (ltb t.rest.count (task_at t.tasks x.task.0).end_waiter.0) 1 7 255 (omega arith) (omega arith))
right-small t u x (inr (inr h)) = omega (arith, h.rule)

small_one : (r : ℕ) → r < no_rule → eqb r no_rule ≡ false
small_one r h = ne_eqb r no_rule (λ z. omega (arith, z))

-- ---- what any bytes load to is a table that the types hold
typed : (s : List ℕ) → Bytes s → Typed (load_of s)
typed s h =
    let f = load_fits s h in
    record { granule = omega (arith, f.head.1.1.0); pool = f.sizes.pool; messages = f.sizes.messages }

module _ (s : List ℕ) (h : Bytes s) where
  abbrev t : Table
  t = load_of s

  abbrev m : Mended
  m = mend_of (load_of s)

  abbrev rules : ℕ → ℕ
  rules = list_rule s m.list

  told : Listed t m
  told = mender-promises.listed t (typed s h)

  -- the list's places behind its notes are nobody's
  rule-is : (i : ℕ) → rules i ≡ rule_for (bytes_rule s i) (suc i) (notes_in m)
  unfolding list_rule
  rule-is i = ap (rule_for (bytes_rule s i) (suc i)) told.tidy ∙ rule-pad (bytes_rule s i) i most_tasks (notes_in m)

  -- a note of the table's mending is right
  known : (j : ℕ) → j < length (notes_in m) → RuleRight t m.table (get_or (notes_in m) j no_note)
  known j l =
      let n : j < m.noted = omega (arith, take-le m.noted m.list) in
      rw (get_or-take m.noted m.list j no_note n) (mender-promises.rule-right t (typed s h) j n)

  -- the note of an entry: right, or of stray bytes
  pub note-right : (i : ℕ) → eqb (rules i) no_rule ≡ false
      → RuleRight t m.table (note_of (record { 0 = suc i }) (rules i)) ⊎ Stray s (note_of (record { 0 = suc i }) (rules i))
  note-right i b = go (rules i) b (subst (λ (r : ℕ). Found (bytes_rule s i) (suc i) r (notes_in m)) (sym (rule-is i)) (find (bytes_rule s i) (suc i) (notes_in m)))
    where
      go : (r : ℕ) → eqb r no_rule ≡ false → Found (bytes_rule s i) (suc i) r (notes_in m)
          → RuleRight t m.table (note_of (record { 0 = suc i }) r) ⊎ Stray s (note_of (record { 0 = suc i }) r)
      go r b (noted-at j l e) = inl (subst (λ (x : Note). RuleRight t m.table x) e (known j l))
      go r b (unnoted n e) =
          decide (is_plain s i)
          (λ p. let z : r ≡ no_rule = e ∙ rw p refl in absurd (eqb-false r no_rule b z))
          (λ p. inr (record { rule = e ∙ rw p refl; unnoted = n; stray = λ j q. let z : j ≡ i = omega (arith, q) in rw z p }))

  pub rule-right : (i : ℕ) → i < length (list_of s) → RuleRight t m.table (get_or (list_of s) i no_note) ⊎ Stray s (get_or (list_of s) i no_note)
  unfolding list_of
  rule-right = each-note rules (λ (x : Note). RuleRight t m.table x ⊎ Stray s x) most_tasks 0 (λ j l. note-right j)

  module _ (p : List ℕ) (hp : Bytes p) (ip : is_image p ≡ true) (ep : load_of p ≡ m.table) (i : ℕ) (l : i < 16) where
    times : times_noted (suc i) (list_of s) ≡ cond (eqb (rules i) no_rule) 0 1
    unfolding list_of
    times = times-from rules most_tasks 0 i (omega arith) (omega arith)

    differs : same_bytes_at s p i ≡ false → times_noted (suc i) (list_of s) ≡ 1
    differs e = times ∙ rw (go (find (bytes_rule s i) (suc i) (notes_in m))) refl
      where
        go : Found (bytes_rule s i) (suc i) (rule_for (bytes_rule s i) (suc i) (notes_in m)) (notes_in m) → eqb (rules i) no_rule ≡ false
        go (noted-at j k z) =
            let w : rule_for (bytes_rule s i) (suc i) (notes_in m) < no_rule = omega (arith, ap (λ (x : Note). x.rule) z, right-small t m.table (get_or (notes_in m) j no_note) (known j k)) in
            rw (rule-is i) (small_one (rule_for (bytes_rule s i) (suc i) (notes_in m)) w)
        go (unnoted n z) =
            decide (is_plain s i)
            (λ q.
            let w : times_noted (suc i) (notes_in m) ≡ 1 =
            told.differs (suc i) (omega arith) (omega arith) (λ y. never (sym e ∙ same_bytes i l s p h hp ip m.table ep q y)) in
            absurd (omega (arith, n, w)))
            (λ q. rw (rule-is i, z, q) refl)

    alike : same_bytes_at s p i ≡ true → times_noted (suc i) (list_of s) ≡ 0
    alike e =
        let b = bytes_same i l s p h hp ip m.table ep e in
        let n : times_noted (suc i) (notes_in m) ≡ 0 = told.same (suc i) (omega arith) (omega arith) b.1 in
        let r : rules i ≡ no_rule = rule-is i ∙ unnoted-rule (bytes_rule s i) (suc i) (notes_in m) n ∙ rw b.0 refl in
        times ∙ rw r refl

  pub listed-bytes : (o p q : List ℕ) → Bytes p → MendsImage s o p q 0 → ListedBytes s p (list_of s)
  unfolding list_of
  listed-bytes o p q hp x =
      let y = x.holds refl in
      record {
        differs = λ i l e. differs p hp y.image y.loads i l e;
        same_bytes = λ i l e. alike p hp y.image y.loads i l e;
        ascends = ascends-from rules most_tasks 0 0 (omega arith) (omega arith);
      }

  -- an image holds no stray bytes, so of that of a well-formed table nothing is listed
  pub sound-list : WellFormedImage s → list_of s ≡ []
  unfolding list_of list_rule rule_for
  sound-list w =
      let e = mender-promises.sound-stays t w.table in
      none_from rules most_tasks 0
      (λ j l.
      ap (λ (x : Mended). rule_for (bytes_rule s j) (suc j) x.list) e
      ∙ rule-pad (bytes_rule s j) j most_tasks []
      ∙ rw (canonical_plain j (omega arith) s (image_canonical s h w.image j (omega arith))) refl)

  number-nought : (o : List ℕ) → 0 ≡ mend_number s o → m.number ≡ 0
  unfolding mend_number
  number-nought o e =
      decide (ltb (length o) list_length)
      (λ b. let z : ◌≡◌ {A = ℕ} 0 30 = rw b at e in absurd (omega arith))
      (λ b.
      decide (eqb (length s) image_length)
      (λ d. let z : 0 ≡ m.number = rw (b, d) at e in sym z)
      (λ d. let z : ◌≡◌ {A = ℕ} 0 1 = rw (b, d) at e in absurd (omega arith)))

  -- what is mended is the image of a well-formed table
  pub mended : (o p q : List ℕ) → MendsImage s o p q 0 → WellFormedImage p
  mended o p q x =
      let y = x.holds refl in
      record { image = y.image; table = rw y.loads (mender-promises.mended t (typed s h) (number-nought o x.number)) }

-- ---- the numbers, and the outcomes
module _ (s o : List ℕ) where
  pub mend_short : length o < list_length → (no_room ≡ mend_number s o) × (s ≡ mend_image s o) × (o ≡ mend_list s o)
  unfolding mend_number mend_image mend_list
  mend_short h = let e = lt-ltb (length o) list_length h in (rw e refl, rw e refl, rw e refl)

  pub mend_kept : (mend_number s o ≡ 0 → ⊥) → (s ≡ mend_image s o) × (o ≡ mend_list s o)
  unfolding mend_image mend_list
  mend_kept h = let e = ne_eqb (mend_number s o) 0 h in (rw e refl, rw e refl)

  pub mend_made : mend_number s o ≡ 0 → (image_of (mend_of (load_of s)).table ≡ mend_image s o) × (written o 0 (list_bytes (list_of s)) ≡ mend_list s o)
  unfolding mend_image mend_list
  mend_made h = let e = eq-eqb (mend_number s o) 0 h in (rw e refl, rw e refl)

  module _ (r : list_length ≤ length o) where
    pub mend_none : (length s ≡ image_length → ⊥) → mend_number s o ≡ 1
    unfolding mend_number
    mend_none h = rw (le-ltb (length o) list_length r, ne_eqb (length s) image_length h) refl

    pub mend-number : length s ≡ image_length → mend_number s o ≡ (mend_of (load_of s)).number
    unfolding mend_number
    mend-number h = rw (le-ltb (length o) list_length r, eq-eqb (length s) image_length h) refl

    pub mend_numbers : Bytes s → MendNumbers s (mend_number s o)
    mend_numbers b =
        decide (eqb (length s) image_length)
        (λ e.
        let n = eqb-true (length s) image_length e in
        let z = mend-number n in
        let y = mender-promises.seventeen (load_of s) (typed s b) in
        let out : OutOfRange (load_of s) → (mend_of (load_of s)).number ≡ 17 = λ w. y.exactly.1 w in
        record {
          one = (λ q _. let v : (mend_of (load_of s)).number ≡ 0 = y.otherwise (λ w. omega (arith, out w, q, z)) in omega (arith, v, q, z), λ q. absurd (q n));
          seventeen = (λ q. (n, y.exactly.0 (sym z ∙ q)), λ q. z ∙ out q.1);
          nought = (λ q. (n, λ w. omega (arith, out w, q, z)), λ q. z ∙ y.otherwise q.1);
        })
        (λ e.
        let n = eqb-false (length s) image_length e in
        let z = mend_none n in
        record {
          one = (λ q. n, λ q. z);
          seventeen = (λ q. absurd (omega (arith, q, z)), λ q. absurd (n q.0));
          nought = (λ q. absurd (omega (arith, q, z)), λ q. absurd (n q.0));
        })

    pub sound-stays : Bytes s → WellFormedImage s → (mend_number s o ≡ 0) × (mend_image s o ≡ s) × (mend_list s o ≡ written o 0 (list_bytes []))
    sound-stays b w =
        let e = mender-promises.sound-stays (load_of s) w.table in
        let i = image-parts s w.image in
        let n : mend_number s o ≡ 0 = mend-number i.0 ∙ ap (λ (x : Mended). x.number) e in
        let z = mend_made n in
        (n, sym z.0 ∙ ap (λ (x : Mended). image_of x.table) e ∙ i.1, sym z.1 ∙ ap (λ (ns : List Note). written o 0 (list_bytes ns)) (sound-list s b w))

-- ---- what the code leaves, of bytes that have an image's length and a list's buffer that has room
module _ (s o : List ℕ) (n : length s ≡ image_length) (r : list_length ≤ length o) (x : Mended) (ex : x ≡ mend_of (load_of s)) where
  mend_answers : mend_number s o ≡ x.number
  mend_answers = mend-number s o r n ∙ ap (λ (y : Mended). y.number) (sym ex)

  pub mend_refused : (x.number ≡ 0 → ⊥) → MendsImage s o s o x.number
  mend_refused z =
      let k = mend_kept s o (λ y. z (sym mend_answers ∙ y)) in
      record { number = sym mend_answers; image = k.0; list = k.1; holds = λ y. absurd (z y) }

  pub mend_done : {p q : List ℕ} → x.number ≡ 0 → FitsTable x.table → p ≡ image_of x.table
      → q ≡ written o 0 (list_bytes (notes_from (list_rule s x.list) 16 0)) → MendsImage s o p q 0
  unfolding list_of
  mend_done z f ep eq =
      let k = mend_made s o (mend_answers ∙ z) in
      record {
        number = sym (mend_answers ∙ z);
        image = ep ∙ ap (λ (y : Mended). image_of y.table) ex ∙ k.0;
        list = eq ∙ ap (λ (y : Mended). written o 0 (list_bytes (notes_from (list_rule s y.list) 16 0))) ex ∙ k.1;
        holds = λ y. holds x.table (mend_of (load_of s)).table f (ap (λ (w : Mended). w.table) ex) ep;
      }
