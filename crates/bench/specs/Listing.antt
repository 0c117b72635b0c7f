-- The listing of an input, whole: what the bench prints for these bytes (docs/CALLS.md, 2 and 6).
use Rattle.std.specs.Prelude.{ℕ, zero, suc, cond, List, ◌++◌, length, get_or, take, drop, eqb, ltb}
use Rattle.records.specs.declared.Kind.{Kind}
use Rattle.records.specs.Kinds.{kind_of, length_of, is_call}
use Rattle.executive.specs.declared.Table.{Table}
use Rattle.executive.specs.declared.Fresh.{Fresh}
use Rattle.executive.specs.Configuration.{fresh_of, configuration_in}
use Rattle.executive.specs.Step.{step_of}
use Rattle.bench.specs.Lines.{header_of, line_of, stop_of, end_of}

-- the longest input that is read
abbrev pub most_bytes : ℕ
most_bytes = 65536

-- the length of a step of a kind; 0 for what is no call's kind, 40 to 42 included
abbrev pub call_length : Kind → ℕ
call_length k = cond (is_call k) (length_of k) 0

-- the length that the first byte promises
abbrev pub step_length : List ℕ → ℕ
step_length s = call_length (kind_of (get_or s 0 0))

-- the length of the whole step that some bytes begin with; 0 where there is none
unfoldable pub whole_of : List ℕ → ℕ
whole_of s = cond (ltb (length s) (step_length s)) 0 (step_length s)

-- the last line where there is none: end after the last step, stop 4 at an unknown kind, stop 3 at a step that is cut
unfoldable pub last_of : List ℕ → List ℕ
last_of s = cond (eqb (length s) 0) end_of (cond (eqb (step_length s) 0) (stop_of 4) (stop_of 3))

-- the lines of some steps, the first of them numbered n, at a table. Each step takes a byte or more, so as many
-- turns as bytes are enough
unfoldable pub steps_of : ℕ → ℕ → Table → List ℕ → List ℕ
steps_of zero n t s = last_of s
steps_of (suc turns) n t s =
    cond (eqb (whole_of s) 0) (last_of s)
    (line_of n (get_or s 0 0) (step_of t (take (whole_of s) s)).answer
    ++ steps_of turns (suc n) (step_of t (take (whole_of s) s)).table (drop (whole_of s) s))

-- what the configuration makes that some bytes begin with
abbrev pub made_of : List ℕ → Fresh
made_of s = fresh_of (take (configuration_in s) s)

-- stop 12 alone for an input that is too long; stop 2 alone for a bad configuration; else the header and the steps
unfoldable pub listing_of : List ℕ → List ℕ
listing_of s =
    cond (ltb most_bytes (length s)) (stop_of 12)
    (cond (eqb (made_of s).answer.number 0)
    (header_of (made_of s).table (made_of s).answer.active ++ steps_of (length s) 1 (made_of s).table (drop (configuration_in s) s))
    (stop_of 2))
