-- What mending an image answers and leaves in its buffers, for every input, and what is promised of it.
use Rattle.std.specs.Prelude.{ℕ, zero, suc, ◌+◌, ◌*◌, ◌≤◌, ◌<◌, ◌≡◌, ◌↔◌, ◌⊎◌, Bool, true, false, cond, ◌&&◌, List, [], ◌∷◌, ◌++◌, eqb, ltb, length, get_or, set}
use Rattle.records.specs.Numbers.{Bytes, part, cut}
use Rattle.executive.specs.Numbers.{most_tasks}
use Rattle.executive.specs.Lists.{pad}
use Rattle.mender.specs.declared.Note.{Note}
use Rattle.mender.specs.Listing.{no_note, note_of}
use Rattle.mender.specs.Mending.{mend_of}
use Rattle.mender.specs.Promises.{OutOfRange, RuleRight, notes_in, times_noted, Ascends}
use Rattle.image.specs.declared.mending.Notes.{Notes}
use Rattle.image.specs.Blocks.{row, written, same}
use Rattle.image.specs.Image.{task_widths, awaited_widths, no_room, image_length, image_of, load_of, task_length, awaited_at, mails_at, mail_length}
use Rattle.image.specs.Coding.{is_code}
use Rattle.image.specs.EntryPoints.{WellFormedImage, Holds}

-- ---- the entry at place i, from 0: the numbers of its state are those of the state that they make, so that its bytes hold
-- nothing that its state does not use
unfoldable pub is_plain : List ℕ → ℕ → Bool
is_plain s i =
    let xs : List ℕ = cut task_widths (i * task_length) s in
    is_code (get_or xs 1 0) (record { 0 = get_or xs 2 0 }) (get_or xs 3 0) (get_or (cut awaited_widths (awaited_at + i) s) 0 0)

-- ---- the rule with which it is listed: the mending's where that has noted it; else 0 for stray bytes, and 255 for none
abbrev pub stray_rule : ℕ
stray_rule = 0

abbrev pub no_rule : ℕ
no_rule = 255

-- the rule of the first note of task k, and d where there is none
unfoldable pub rule_for : ℕ → ℕ → List Note → ℕ
rule_for d k [] = d
rule_for d k (x ∷ ns) = cond (eqb k x.task.0) x.rule (rule_for d k ns)

abbrev pub bytes_rule : List ℕ → ℕ → ℕ
bytes_rule s i = cond (is_plain s i) no_rule stray_rule

unfoldable pub list_rule : List ℕ → List Note → ℕ → ℕ
list_rule s ms i = rule_for (bytes_rule s i) (suc i) ms

-- ---- the list: by task number, each entry once whose rule is one
unfoldable pub notes_from : (ℕ → ℕ) → ℕ → ℕ → List Note
notes_from f zero i = []
notes_from f (suc n) i = cond (eqb (f i) no_rule) (notes_from f n (suc i)) (note_of (record { 0 = suc i }) (f i) ∷ notes_from f n (suc i))

-- as it stands in its places
abbrev pub placed : List Note → Notes
placed ns = record { list = pad most_tasks no_note ns; noted = length ns }

-- one note more of task k, where the rule is one
abbrev pub with_note : ℕ → ℕ → Notes → Notes
with_note k r l = cond (eqb r no_rule) l (record { list = set l.list l.noted (note_of (record { 0 = k }) r); noted = l.noted + 1 })

-- of the bytes s
unfoldable pub list_of : List ℕ → List Note
list_of s = notes_from (list_rule s (mend_of (load_of s)).list) most_tasks 0

-- its bytes: how many, then of each task and rule; zeros behind them
abbrev pub list_length : ℕ
list_length = 33

abbrev pub note_bytes : Note → List ℕ
note_bytes x = x.task.0 ∷ x.rule ∷ []

abbrev pub notes_bytes : Notes → List ℕ
notes_bytes l = (l.noted ∷ []) ++ row note_bytes l.list

abbrev pub list_bytes : List Note → List ℕ
list_bytes ns = notes_bytes (placed ns)

-- ---- mending: 30 where the list's buffer is too short, which is judged first; 1 where the bytes have not an image's length;
-- else the number of mending what they load to. Written only with 0
unfoldable pub mend_number : List ℕ → List ℕ → ℕ
mend_number s o = cond (ltb (length o) list_length) no_room (cond (eqb (length s) image_length) (mend_of (load_of s)).number 1)

unfoldable pub mend_image : List ℕ → List ℕ → List ℕ
mend_image s o = cond (eqb (mend_number s o) 0) (image_of (mend_of (load_of s)).table) s

unfoldable pub mend_list : List ℕ → List ℕ → List ℕ
mend_list s o = cond (eqb (mend_number s o) 0) (written o 0 (list_bytes (list_of s))) o

-- the contract: n is what mending the bytes s answers, the buffer o lent for the list; s then is p, o is q
pub record MendsImage (s o p q : List ℕ) (n : ℕ) : Type 0 where
  pub number : n ≡ mend_number s o
  pub image : p ≡ mend_image s o
  pub list : q ≡ mend_list s o
  pub holds : n ≡ 0 → Holds p (mend_of (load_of s)).table

-- ---- what is promised of it. Each number exactly when, where there is room
pub record MendNumbers (s : List ℕ) (n : ℕ) : Type 0 where
  pub one : (n ≡ 1) ↔ (length s ≡ image_length → ⊥)
  pub seventeen : (n ≡ 17) ↔ ((length s ≡ image_length) × OutOfRange (load_of s))
  pub nought : (n ≡ 0) ↔ ((length s ≡ image_length) × (OutOfRange (load_of s) → ⊥))

-- the bytes of the entry at place i are the same in s and p: the entry's own, the number that its state waits for, its mail
abbrev pub same_bytes_at : List ℕ → List ℕ → ℕ → Bool
same_bytes_at s p i =
    same (part task_length (i * task_length) s) (part task_length (i * task_length) p)
    && same (part 1 (awaited_at + i) s) (part 1 (awaited_at + i) p)
    && same (part mail_length (mails_at + i * mail_length) s) (part mail_length (mails_at + i * mail_length) p)

-- each entry is listed once exactly where one of its bytes differs, and else not at all
pub record ListedBytes (s p : List ℕ) (ns : List Note) : Type 0 where
  pub differs : (i : ℕ) → i < most_tasks → same_bytes_at s p i ≡ false → times_noted (suc i) ns ≡ 1
  pub same_bytes : (i : ℕ) → i < most_tasks → same_bytes_at s p i ≡ true → times_noted (suc i) ns ≡ 0
  pub ascends : Ascends 0 ns

-- a note of stray bytes: the mending of the table has not noted the entry, and its bytes hold what its state does not use
pub record Stray (s : List ℕ) (x : Note) : Type 0 where
  pub rule : x.rule ≡ stray_rule
  pub unnoted : times_noted x.task.0 (notes_in (mend_of (load_of s))) ≡ 0
  pub stray : (i : ℕ) → x.task.0 ≡ suc i → is_plain s i ≡ false

pub record MendPromises : Type 0 where
  -- a list's buffer that is too short is kept, and so is the image
  pub short : (s o : List ℕ) → length o < list_length → (mend_number s o ≡ no_room) × (mend_image s o ≡ s) × (mend_list s o ≡ o)
  -- with any number but 0 no byte of any buffer changes
  pub refused : (s o : List ℕ) → (mend_number s o ≡ 0 → ⊥) → (mend_image s o ≡ s) × (mend_list s o ≡ o)
  pub numbers : (s o : List ℕ) → Bytes s → list_length ≤ length o → MendNumbers s (mend_number s o)
  -- what is mended is the image of a well-formed table
  pub mended : (s o p q : List ℕ) → Bytes s → MendsImage s o p q 0 → WellFormedImage p
  -- the image of a well-formed table stays as it is, with an empty list
  pub sound-stays : (s o : List ℕ) → Bytes s → WellFormedImage s → list_length ≤ length o
      → (mend_number s o ≡ 0) × (mend_image s o ≡ s) × (mend_list s o ≡ written o 0 (list_bytes []))
  -- at the level of bytes too each entry that differs is listed once, and no other
  pub listed-bytes : (s o p q : List ℕ) → Bytes s → Bytes p → MendsImage s o p q 0 → ListedBytes s p (list_of s)
  -- each rule is right: that of the mending of the table, or stray bytes
  pub rule-right : (s : List ℕ) → Bytes s → (i : ℕ) → i < length (list_of s)
      → RuleRight (load_of s) (mend_of (load_of s)).table (get_or (list_of s) i no_note) ⊎ Stray s (get_or (list_of s) i no_note)
  -- any two outcomes that the contract allows are equal: the number, and every byte of each buffer
  pub determined : (s o p q u v : List ℕ) (x y : ℕ) → MendsImage s o p u x → MendsImage s o q v y → (p ≡ q) × (u ≡ v) × (x ≡ y)
