-- The controlled subprograms (02): who is inside, who waits, and what a call makes of one.
use Rattle.std.specs.Prelude.{ℕ, ◌+◌, ◌≤◌, ◌≡◌, Bool, not, cond, eqb, ltb, leb, length, take, drop, get_or, set}
use mathlib.Core.List.{List, [], ◌∷◌, ◌++◌, tail}
use Rattle.records.specs.declared.TaskNo.{TaskNo}
use Rattle.executive.specs.declared.Task.{Task}
use Rattle.executive.specs.declared.Sub.{Sub}
use Rattle.executive.specs.declared.Rest.{Rest}
use Rattle.executive.specs.Numbers.{most_tasks}
use Rattle.executive.specs.Lists.{pad, all_of, ◌and◌}
use Rattle.executive.specs.Places.{nobody}
use Rattle.executive.specs.Rest.{with_subs}
use Rattle.executive.specs.Table.{head_of, enter_at, slid_of}

-- one with a holder and those who wait, first to last; a free one
abbrev pub held_by : TaskNo → List TaskNo → Sub
held_by k xs = record { holder = k; line = pad most_tasks nobody xs; waiting = length xs }

abbrev pub no_subprogram : Sub
no_subprogram = held_by nobody []

-- subprogram m; a number past the last is a free one's, for which nobody waits
abbrev pub sub_at : Rest → ℕ → Sub
sub_at r m = get_or r.subs m no_subprogram

-- those who wait for it, first to last
abbrev pub line_of : Sub → List TaskNo
line_of s = take s.waiting s.line

-- its line's free places are last and zero
pub record LineInOrder (s : Sub) : Type 0 where
  pub room : s.waiting ≤ most_tasks
  pub clear : s.line ≡ pad most_tasks nobody (line_of s)

abbrev pub is_held : Sub → Bool
is_held s = not (eqb s.holder.0 0)

-- whether task k holds it; whether it holds any
abbrev pub holds? : TaskNo → Sub → Bool
holds? k s = eqb k.0 s.holder.0

unfoldable pub holds_any_of : TaskNo → List Sub → Bool
holds_any_of k ss = not (all_of (λ s. not (holds? k s)) ss)

-- ---- what a call makes of one
-- task k gets in; those who wait go on to wait
abbrev pub enters_it : TaskNo → Sub → Sub
enters_it k s = record { holder = k; line = s.line; waiting = s.waiting }

-- task k joins its line, behind all of equal or higher priority; at a place
abbrev pub waits_behind : List Task → TaskNo → Sub → Sub
waits_behind ts k s = held_by s.holder (enter_at ts k (line_of s))

abbrev pub joins_line : ℕ → TaskNo → Sub → Sub
joins_line i k s = held_by s.holder (take i (line_of s) ++ (k ∷ drop i (line_of s)))

-- the same of any line, one in disorder too: a full one stays as it is, and so does one that ends before that place
unfoldable pub put_in : ℕ → TaskNo → Sub → Sub
put_in i k s =
    cond (ltb s.waiting most_tasks and leb i s.waiting)
    (record { holder = s.holder; line = slid_of s.line i s.waiting k; waiting = s.waiting + 1 })
    s

-- its holder gets out: the first of its line gets in, or nobody
abbrev pub handed_on : Sub → Sub
handed_on s = held_by (head_of (line_of s)) (tail (line_of s))

abbrev pub with_sub : ℕ → Sub → Rest → Rest
with_sub m s r = with_subs (set r.subs m s) r
