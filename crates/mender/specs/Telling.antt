-- The list as text, in ASCII codes: a line for each entry that differs, or one that says that there is none.
use Rattle.std.specs.Prelude.{ℕ, zero, suc, ◌+◌, ◌*◌, ◌≤◌, ◌≡◌, Bool, cond, List, [], ◌∷◌, ◌++◌, eqb, leb, length, get_or}
use Rattle.text.specs.Glyphs.{decimal_of, Puts}
use Rattle.executive.specs.Numbers.{most_tasks}
use Rattle.mender.specs.Rules.{range_rule, time_rule, start_rule, mask_rule, link_rule, dormant_rule, message_rule}

-- ---- the words, each above its codes; a blank in front or behind is one of them
-- task
abbrev pub task_word : List ℕ
task_word = 116 ∷ 97 ∷ 115 ∷ 107 ∷ 32 ∷ []

-- :
abbrev pub colon : List ℕ
colon = 58 ∷ 32 ∷ []

-- refused
abbrev pub refused_word : List ℕ
refused_word = 114 ∷ 101 ∷ 102 ∷ 117 ∷ 115 ∷ 101 ∷ 100 ∷ 32 ∷ []

-- nothing to mend
abbrev pub nothing_words : List ℕ
nothing_words = 110 ∷ 111 ∷ 116 ∷ 104 ∷ 105 ∷ 110 ∷ 103 ∷ 32 ∷ 116 ∷ 111 ∷ 32 ∷ 109 ∷ 101 ∷ 110 ∷ 100 ∷ []

-- no task's entry changed
abbrev pub unchanged_words : List ℕ
unchanged_words = 110 ∷ 111 ∷ 32 ∷ 116 ∷ 97 ∷ 115 ∷ 107 ∷ 39 ∷ 115 ∷ 32 ∷ 101 ∷ 110 ∷ 116 ∷ 114 ∷ 121 ∷ 32 ∷ 99 ∷ 104 ∷ 97 ∷ 110 ∷ 103 ∷ 101 ∷ 100 ∷ []

-- its state has no use for some of its bytes
abbrev pub stray_words : List ℕ
stray_words = 105 ∷ 116 ∷ 115 ∷ 32 ∷ 115 ∷ 116 ∷ 97 ∷ 116 ∷ 101 ∷ 32 ∷ 104 ∷ 97 ∷ 115 ∷ 32 ∷ 110 ∷ 111 ∷ 32 ∷ 117 ∷ 115 ∷ 101 ∷ 32 ∷ 102 ∷ 111 ∷ 114 ∷ 32 ∷ 115 ∷ 111 ∷ 109 ∷ 101 ∷ 32 ∷ 111 ∷ 102 ∷ 32 ∷ 105 ∷ 116 ∷ 115 ∷ 32 ∷ 98 ∷ 121 ∷ 116 ∷ 101 ∷ 115 ∷ []

-- a number is out of range
abbrev pub range_words : List ℕ
range_words = 97 ∷ 32 ∷ 110 ∷ 117 ∷ 109 ∷ 98 ∷ 101 ∷ 114 ∷ 32 ∷ 105 ∷ 115 ∷ 32 ∷ 111 ∷ 117 ∷ 116 ∷ 32 ∷ 111 ∷ 102 ∷ 32 ∷ 114 ∷ 97 ∷ 110 ∷ 103 ∷ 101 ∷ []

-- a stored time is out of range
abbrev pub time_words : List ℕ
time_words = 97 ∷ 32 ∷ 115 ∷ 116 ∷ 111 ∷ 114 ∷ 101 ∷ 100 ∷ 32 ∷ 116 ∷ 105 ∷ 109 ∷ 101 ∷ 32 ∷ 105 ∷ 115 ∷ 32 ∷ 111 ∷ 117 ∷ 116 ∷ 32 ∷ 111 ∷ 102 ∷ 32 ∷ 114 ∷ 97 ∷ 110 ∷ 103 ∷ 101 ∷ []

-- its last scheduled start is after the clock
abbrev pub start_words : List ℕ
start_words = 105 ∷ 116 ∷ 115 ∷ 32 ∷ 108 ∷ 97 ∷ 115 ∷ 116 ∷ 32 ∷ 115 ∷ 99 ∷ 104 ∷ 101 ∷ 100 ∷ 117 ∷ 108 ∷ 101 ∷ 100 ∷ 32 ∷ 115 ∷ 116 ∷ 97 ∷ 114 ∷ 116 ∷ 32 ∷ 105 ∷ 115 ∷ 32 ∷ 97 ∷ 102 ∷ 116 ∷ 101 ∷ 114 ∷ 32 ∷ 116 ∷ 104 ∷ 101 ∷ 32 ∷ 99 ∷ 108 ∷ 111 ∷ 99 ∷ 107 ∷ []

-- its mask is zero, or its condition holds already
abbrev pub mask_words : List ℕ
mask_words = 105 ∷ 116 ∷ 115 ∷ 32 ∷ 109 ∷ 97 ∷ 115 ∷ 107 ∷ 32 ∷ 105 ∷ 115 ∷ 32 ∷ 122 ∷ 101 ∷ 114 ∷ 111 ∷ 44 ∷ 32 ∷ 111 ∷ 114 ∷ 32 ∷ 105 ∷ 116 ∷ 115 ∷ 32 ∷ 99 ∷ 111 ∷ 110 ∷ 100 ∷ 105 ∷ 116 ∷ 105 ∷ 111 ∷ 110 ∷ 32 ∷ 104 ∷ 111 ∷ 108 ∷ 100 ∷ 115 ∷ 32 ∷ 97 ∷ 108 ∷ 114 ∷ 101 ∷ 97 ∷ 100 ∷ 121 ∷ []

-- its link names no task that waits for its end, or one that is named already
abbrev pub link_words : List ℕ
link_words = 105 ∷ 116 ∷ 115 ∷ 32 ∷ 108 ∷ 105 ∷ 110 ∷ 107 ∷ 32 ∷ 110 ∷ 97 ∷ 109 ∷ 101 ∷ 115 ∷ 32 ∷ 110 ∷ 111 ∷ 32 ∷ 116 ∷ 97 ∷ 115 ∷ 107 ∷ 32 ∷ 116 ∷ 104 ∷ 97 ∷ 116 ∷ 32 ∷ 119 ∷ 97 ∷ 105 ∷ 116 ∷ 115 ∷ 32 ∷ 102 ∷ 111 ∷ 114 ∷ 32 ∷ 105 ∷ 116 ∷ 115 ∷ 32 ∷ 101 ∷ 110 ∷ 100 ∷ 44 ∷ 32 ∷ 111 ∷ 114 ∷ 32 ∷ 111 ∷ 110 ∷ 101 ∷ 32 ∷ 116 ∷ 104 ∷ 97 ∷ 116 ∷ 32 ∷ 105 ∷ 115 ∷ 32 ∷ 110 ∷ 97 ∷ 109 ∷ 101 ∷ 100 ∷ 32 ∷ 97 ∷ 108 ∷ 114 ∷ 101 ∷ 97 ∷ 100 ∷ 121 ∷ []

-- it is dormant, and held more than its own priority
abbrev pub dormant_words : List ℕ
dormant_words = 105 ∷ 116 ∷ 32 ∷ 105 ∷ 115 ∷ 32 ∷ 100 ∷ 111 ∷ 114 ∷ 109 ∷ 97 ∷ 110 ∷ 116 ∷ 44 ∷ 32 ∷ 97 ∷ 110 ∷ 100 ∷ 32 ∷ 104 ∷ 101 ∷ 108 ∷ 100 ∷ 32 ∷ 109 ∷ 111 ∷ 114 ∷ 101 ∷ 32 ∷ 116 ∷ 104 ∷ 97 ∷ 110 ∷ 32 ∷ 105 ∷ 116 ∷ 115 ∷ 32 ∷ 111 ∷ 119 ∷ 110 ∷ 32 ∷ 112 ∷ 114 ∷ 105 ∷ 111 ∷ 114 ∷ 105 ∷ 116 ∷ 121 ∷ []

-- a message that it waits for was there already
abbrev pub message_words : List ℕ
message_words = 97 ∷ 32 ∷ 109 ∷ 101 ∷ 115 ∷ 115 ∷ 97 ∷ 103 ∷ 101 ∷ 32 ∷ 116 ∷ 104 ∷ 97 ∷ 116 ∷ 32 ∷ 105 ∷ 116 ∷ 32 ∷ 119 ∷ 97 ∷ 105 ∷ 116 ∷ 115 ∷ 32 ∷ 102 ∷ 111 ∷ 114 ∷ 32 ∷ 119 ∷ 97 ∷ 115 ∷ 32 ∷ 116 ∷ 104 ∷ 101 ∷ 114 ∷ 101 ∷ 32 ∷ 97 ∷ 108 ∷ 114 ∷ 101 ∷ 97 ∷ 100 ∷ 121 ∷ []

-- a waiter whose link was lost
abbrev pub lost_words : List ℕ
lost_words = 97 ∷ 32 ∷ 119 ∷ 97 ∷ 105 ∷ 116 ∷ 101 ∷ 114 ∷ 32 ∷ 119 ∷ 104 ∷ 111 ∷ 115 ∷ 101 ∷ 32 ∷ 108 ∷ 105 ∷ 110 ∷ 107 ∷ 32 ∷ 119 ∷ 97 ∷ 115 ∷ 32 ∷ 108 ∷ 111 ∷ 115 ∷ 116 ∷ []

-- of a rule; 0 is for the bytes of an entry that its state does not use
unfoldable pub rule_words : ℕ → List ℕ
rule_words r =
    cond (eqb r 0) stray_words
    (cond (eqb r range_rule) range_words
    (cond (eqb r time_rule) time_words
    (cond (eqb r start_rule) start_words
    (cond (eqb r mask_rule) mask_words
    (cond (eqb r link_rule) link_words
    (cond (eqb r dormant_rule) dormant_words
    (cond (eqb r message_rule) message_words lost_words)))))))

-- ---- a list in bytes: how many, then of each its task and its rule. The line of one, those of the first n, and of all
unfoldable pub note_line : ℕ → ℕ → List ℕ
note_line k r = task_word ++ (decimal_of k ++ (colon ++ (rule_words r ++ (10 ∷ []))))

unfoldable pub note_lines : List ℕ → ℕ → List ℕ
note_lines l zero = []
note_lines l (suc n) = note_lines l n ++ note_line (get_or l (n * 2 + 1) 0) (get_or l (n * 2 + 2) 0)

abbrev pub noted_in : List ℕ → ℕ
noted_in l = cond (leb (get_or l 0 0) most_tasks) (get_or l 0 0) most_tasks

unfoldable pub refused_line : ℕ → List ℕ
refused_line n = refused_word ++ (decimal_of n ++ (10 ∷ []))

-- the whole text: of a refusal its number alone; where the bytes are as they were, that there was nothing to mend; where no
-- entry differs, that none does
unfoldable pub text_of : ℕ → Bool → List ℕ → List ℕ
text_of number same l =
    cond (eqb number 0)
    (cond same (nothing_words ++ (10 ∷ []))
    (cond (eqb (noted_in l) 0) (unchanged_words ++ (10 ∷ [])) (note_lines l (noted_in l))))
    (refused_line number)

-- ---- the contract: the text stands at the buffer's start, and its length is answered; where it does not fit nothing is
-- written and 0 is answered
abbrev pub Tells : ℕ → Bool → List ℕ → List ℕ → List ℕ → ℕ → Type 0
Tells number same l o b n = Puts o 0 (text_of number same l) b n

-- what is answered is within the buffer, and no two outcomes are allowed
pub record ToldLaw : Type 0 where
  pub within : (number : ℕ) (same : Bool) (l o b : List ℕ) (n : ℕ) → Tells number same l o b n → n ≤ length b
  pub determined : (number : ℕ) (same : Bool) (l o b c : List ℕ) (m n : ℕ) → Tells number same l o b m → Tells number same l o c n → (b ≡ c) × (m ≡ n)
