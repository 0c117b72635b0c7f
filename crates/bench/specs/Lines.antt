-- The four lines that a listing is made of (docs/CALLS.md, 2 and 6).
use Rattle.std.specs.Prelude.{ℕ, List, [], ◌∷◌, ◌++◌}
use Rattle.records.specs.declared.TaskNo.{TaskNo}
use Rattle.executive.specs.declared.Table.{Table}
use Rattle.executive.specs.declared.Answer.{Answer}
use Rattle.text.specs.Glyphs.{decimal_of, hex_of, bit_of}

-- words with a space between them, and a line feed at the end
abbrev pub row : List (List ℕ) → List ℕ
row [] = 10 ∷ []
row (w ∷ []) = w ++ (10 ∷ [])
row (w ∷ v ∷ ws) = w ++ (32 ∷ row (v ∷ ws))

-- granule
abbrev pub granule_word : List ℕ
granule_word = 103 ∷ 114 ∷ 97 ∷ 110 ∷ 117 ∷ 108 ∷ 101 ∷ []

-- tasks
abbrev pub tasks_word : List ℕ
tasks_word = 116 ∷ 97 ∷ 115 ∷ 107 ∷ 115 ∷ []

-- active
abbrev pub active_word : List ℕ
active_word = 97 ∷ 99 ∷ 116 ∷ 105 ∷ 118 ∷ 101 ∷ []

-- stop
abbrev pub stop_word : List ℕ
stop_word = 115 ∷ 116 ∷ 111 ∷ 112 ∷ []

-- end
abbrev pub end_word : List ℕ
end_word = 101 ∷ 110 ∷ 100 ∷ []

-- the header: granule, number of tasks, active task
abbrev pub header_by : ℕ → ℕ → ℕ → List ℕ
header_by granule tasks active =
    row (granule_word ∷ decimal_of granule ∷ tasks_word ∷ decimal_of tasks ∷ active_word ∷ decimal_of active ∷ [])

-- that of a table in which a task is active
abbrev pub header_of : Table → TaskNo → List ℕ
header_of t active = header_by t.rest.granule t.rest.count active.0

-- a step: its number, its kind in hex, answer, ZVC, active
unfoldable pub line_of : ℕ → ℕ → Answer → List ℕ
line_of n kind a =
    row (decimal_of n ∷ hex_of kind ∷ decimal_of a.number ∷ (bit_of a.z ∷ bit_of a.v ∷ bit_of a.c ∷ []) ∷ decimal_of a.active.0 ∷ [])

-- stop and a number (docs/CALLS.md, 6)
abbrev pub stop_of : ℕ → List ℕ
stop_of n = row (stop_word ∷ decimal_of n ∷ [])

abbrev pub end_of : List ℕ
end_of = row (end_word ∷ [])
