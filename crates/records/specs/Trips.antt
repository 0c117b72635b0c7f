-- Reading a record and writing its call: the answer, and what the buffer then holds.
use Rattle.std.specs.Prelude.{ℕ, ◌≡◌, List, Ok, Err}
use Rattle.records.specs.Reading.{read_of}
use Rattle.records.specs.Writing.{put_of, put_out_of}
use Rattle.records.specs.declared.Call.{Call}
use Rattle.records.specs.Refusals.{Got, Written}

-- by what the reader says of the bytes s: its refusal, or s itself put at the start of o
abbrev pub again_by : Got → List ℕ → List ℕ → Written
again_by (Ok c) s o = put_of s o
again_by (Err n) s o = Err n

abbrev pub again_out_by : Got → List ℕ → List ℕ → List ℕ
again_out_by (Ok c) s o = put_out_of s o
again_out_by (Err n) s o = o

-- reading s and writing its call to o: the answer, and what o then holds
unfoldable pub again_of : List ℕ → List ℕ → Written
again_of s o = again_by (read_of s) s o

unfoldable pub again_out_of : List ℕ → List ℕ → List ℕ
again_out_of s o = again_out_by (read_of s) s o

-- ---- the contracts: writing c and reading it answers g; reading s and writing it to the buffer o answers w, o
-- then is p
abbrev pub ComesBack : Call → Got → Type 0
ComesBack c g = g ≡ Ok c

pub record WritesAgain (s o p : List ℕ) (w : Written) : Type 0 where
  pub answer : w ≡ again_of s o
  pub buffer : p ≡ again_out_of s o
