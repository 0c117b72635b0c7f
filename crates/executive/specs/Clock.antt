-- Intervals, the time that a restart aims at (docs/CALLS.md, 2 and 4.2), the alarms and the clock.
use Rattle.std.specs.Prelude.{ℕ, ◌+◌, ◌-◌, ◌*◌, ◌/◌, ◌%◌, Bool, false, cond, List, [], ◌∷◌, eqb, ltb, leb, get_or, set}
use Rattle.executive.specs.declared.Millis.{Millis}
use Rattle.executive.specs.Numbers.{last_unit, flag_count}
use Rattle.executive.specs.Lists.{each}
use Rattle.executive.specs.declared.Rest.{Rest}
use Rattle.executive.specs.Places.{never}
use Rattle.executive.specs.Rest.{remade}
use Rattle.executive.specs.Flags.{with_flags, flag_set}

-- units 0 to 5 in ms
abbrev pub units : List ℕ
units = 1 ∷ 10 ∷ 1000 ∷ 60000 ∷ 3600000 ∷ 86400000 ∷ []

unfoldable pub interval : ℕ → ℕ → Millis
interval unit n = record { 0 = n * get_or units unit 0 }

-- the grid times of a restart: last scheduled start plus a whole number of intervals, at least one. So many of them
-- are at or before now
unfoldable pub missed : Millis → Millis → Millis → ℕ
missed start now every = (now.0 - start.0) / every.0

-- the first grid time after now
unfoldable pub next_on_grid : Millis → Millis → Millis → Millis
next_on_grid start now every = record { 0 = start.0 + (missed start now every + 1) * every.0 }

-- kind 01 skips what was missed: bit 6 of the parameter set, bit 7 clear, and a count (02)
abbrev pub skips_missed : ℕ → ℕ → Bool
skips_missed p n = cond (eqb (p / 64 % 4) 1) (ltb 0 n) false

-- kind 01: bits 2..0 of the parameter are the unit, bit 7 the base. Units 6 and 7: now. With bit 6 the first grid
-- time after now;
-- else last scheduled start plus interval (bit 7 clear) or now plus interval (set)
unfoldable pub aim_at : Millis → Millis → ℕ → ℕ → Millis
aim_at start now p n =
    cond (ltb last_unit (p % 8)) now
    (cond (skips_missed p n) (next_on_grid start now (interval (p % 8) n))
    (record { 0 = cond (ltb p 128) start.0 now.0 + (interval (p % 8) n).0 }))

-- how many grid times are passed over by that
unfoldable pub skipped_of : Millis → Millis → ℕ → ℕ → ℕ
skipped_of start now p n = cond (ltb last_unit (p % 8)) 0 (cond (skips_missed p n) (missed start now (interval (p % 8) n)) 0)

-- ---- the alarms: the one of flag n is at place n; 0 where it is not running
abbrev pub with_alarm : ℕ → Millis → Rest → Rest
with_alarm n at r = remade r.clock r.flags (set r.alarms n at) r.pool r.queued r

-- ---- the clock
abbrev pub with_clock : Millis → Rest → Rest
with_clock c r = remade c r.flags r.alarms r.pool r.queued r

-- an alarm is due, at the clock c, when it is running and its time has come
abbrev pub is_due : ℕ → Millis → Bool
is_due c a = cond (eqb a.0 0) false (leb a.0 c)

-- alarm i, if it is due, sets its flag and is cleared
unfoldable pub rung : Rest → ℕ → Rest
rung r i =
    cond (is_due r.clock.0 (get_or r.alarms i never))
    (with_flags (flag_set r.flags i) (with_alarm i never r))
    r

-- the clock gains one granule; due alarms set their flags and are cleared
unfoldable pub advanced : Rest → Rest
advanced r = each rung flag_count 0 (with_clock (record { 0 = r.clock.0 + r.granule }) r)
