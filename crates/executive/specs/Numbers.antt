-- The numbers of documents 01 and 02, each by one name.
use Rattle.std.specs.Prelude.{ℕ, ◌^◌}

-- 1 to 16 tasks; so many can be ready
abbrev pub most_tasks : ℕ
most_tasks = 16

-- 32 event flags, one alarm for each
abbrev pub flag_count : ℕ
flag_count = 32

-- at most 32 queued start requests
abbrev pub most_queued : ℕ
most_queued = 32

-- at most 32 messages wait
abbrev pub most_sent : ℕ
most_sent = 32

-- eight controlled subprograms, 0 to 7
abbrev pub sub_count : ℕ
sub_count = 8

abbrev pub last_sub : ℕ
last_sub = 7

-- the highest priority
abbrev pub highest : ℕ
highest = 15

-- the granule is 1 to 255 ms
abbrev pub most_granule : ℕ
most_granule = 255

-- the clock runs to 2^40 ms
abbrev pub end_of_time : ℕ
end_of_time = 2 ^ 40

-- units 0 to 5
abbrev pub last_unit : ℕ
last_unit = 5

-- the largest interval in ms: 255 days
abbrev pub longest : ℕ
longest = 22032000000
