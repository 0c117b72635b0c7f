-- `reading::read` meets its contract: `want` says what the length that was looked up is, and each test picks its case
-- of `read_of`.
use Prim.Native.Nat.{ℕ}
use mathlib.Core.Path.{◌≡◌, sym, ap, ◌∙◌}
use mathlib.Core.List.{List}
use native.Mathlib.Omega.{arith}
use Rattle.records.specs.Numbers.{cut}
use Rattle.records.specs.Kinds.{body_of, length_of}
use Rattle.records.specs.Calls.{got_of}
use Rattle.records.specs.Reading.{first_kind, read_of, read_as}
use Rattle.records.specs.declared.Kind.{Kind}
use Rattle.records.proofs.reading.Laws.{read-empty, read_some, as_unknown, as_length, as_whole}
use Rattle.records.proofs.reading.read.Goals as goal
use Rattle.records.proofs.reading.read.Goals.{After-length_of-want}

abbrev bytes : After-length_of-want → List ℕ
bytes c = c.args.bytes.now

abbrev kind : After-length_of-want → Kind
kind c = first_kind (bytes c)

-- the length that was looked up is that of the first byte's kind
want : (c : After-length_of-want) → c.length_of-want.result ≡ length_of (kind c)
want c = c.length_of-want.ensures ∙ ap length_of c.kind_of-kind.ensures

-- the record is not empty, and so read as one of its first byte's kind
some : (c : After-length_of-want) → read_as (kind c) (bytes c) ≡ read_of (bytes c)
some c = sym (read_some (bytes c) c.if-n-eq0.false)

pub returns-then-n-eq0 : goal.returns-then-n-eq0
returns-then-n-eq0 c = sym (read-empty c.args.bytes.now c.if-n-eq0.true)

pub returns-then-want-eq0 : goal.returns-then-want-eq0
returns-then-want-eq0 c = let d = (goal.at.returns-then-want-eq0 c).After-length_of-want in sym (as_unknown (bytes d) (kind d) (omega (arith, want d))) ∙ some d

pub returns-then-n-want : goal.returns-then-n-want
returns-then-n-want c =
    let d = (goal.at.returns-then-n-want c).After-length_of-want in
    sym (as_length (bytes d) (kind d) (λ e. omega (arith, want d)) (λ e. omega (arith, want d))) ∙ some d

pub returns : goal.returns
returns c =
    let d = (goal.at.returns c).After-length_of-want in
    c.call_of.ensures
    ∙ ap (λ k. got_of k (cut (body_of k) 1 (bytes d))) d.kind_of-kind.ensures
    ∙ sym (as_whole (bytes d) (kind d) (λ e. omega (arith, want d)) (omega (arith, want d)))
    ∙ some d
