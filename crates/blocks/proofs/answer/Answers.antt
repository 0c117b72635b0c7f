-- `answer` meets its contract: each test picks its case of the answer, with what the head says.
use Prim.Native.Nat.{ℕ}
use mathlib.Core.Path.{sym, ◌∙◌, ◌≡◌}
use mathlib.Core.Bool.{false}
use mathlib.Core.List.{List}
use native.Mathlib.Omega.{arith}
use lib.ListN.{length, get_or, take}
use Rattle.std.proofs.lemmas.Result.{err_from_is_err_and}
use Rattle.records.specs.Refusals.{number_in}
use Rattle.blocks.specs.Asking.{Answers, list_in, is_no_head, read_in}
use Rattle.blocks.proofs.asking.Laws.{list-is, count-is, record_is, read_is, ends, not-asked, asked_write, read_no, read_told}
use Rattle.blocks.proofs.answer.Goals as goal
use Rattle.blocks.proofs.answer.Goals.{After-count_in-count, After-read, After-write}

abbrev head : After-count_in-count → List ℕ
head m = m.args.head.now

abbrev image : After-count_in-count → List ℕ
image m = m.args.image.now

abbrev room : After-count_in-count → List ℕ
room m = m.args.room.now

-- the head is one, and the code's list is its own
is-head : (m : After-count_in-count) → is_no_head (head m) ≡ false
is-head m = sym m.is_no_head.ensures ∙ m.if-is_no_head.false

list : (m : After-count_in-count) → take m.count_in-count.result m.list_in-list.result ≡ list_in (head m)
list m = list-is (head m) m.list_in-list.result m.count_in-count.result m.count_in-count.ensures.0 m.list_in-list.ensures

counts : (m : After-count_in-count) → m.count_in-count.result ≡ length (take m.count_in-count.result m.list_in-list.result)
counts m = count-is (head m) m.list_in-list.result m.count_in-count.result m.count_in-count.ensures.1 m.list_in-list.ensures

-- what is asked is a read, and this is what it gives
is_read : (x : After-read) → get_or (head (goal.at.After-read x).After-count_in-count) 0 0 ≡ 1 → ⊥
is_read x z = x.if-byte_at-eq1.false (x.byte_at.ensures ∙ z)

given : (x : After-read) → let m = (goal.at.After-read x).After-count_in-count in read_in (head m) (image m) ≡ x.read.result
given x =
    let m = (goal.at.After-read x).After-count_in-count in
    let a = m.address_in-address.ensures in
    let b = m.beside_in-beside.ensures in
    read_is (head m) (image m) _ _ _ a (list m) b x.read.result x.read.ensures

pub returns-then-is_no_head : goal.returns-then-is_no_head
returns-then-is_no_head c =
    let d = c.args in
    not-asked d.head.now d.image.now d.room.now (sym c.is_no_head.ensures ∙ c.if-is_no_head.true)

pub slice_bounds-write_record-end : goal.slice_bounds-write_record-end
slice_bounds-write_record-end c = counts (goal.at.slice_bounds-write_record-end c).After-count_in-count

pub slice_bounds-write_record-end-then-byte_at-eq1 : goal.slice_bounds-write_record-end-then-byte_at-eq1
slice_bounds-write_record-end-then-byte_at-eq1 c =
    let m = (goal.at.slice_bounds-write_record-end-then-byte_at-eq1 c).After-count_in-count in
    let h = ends (head m) (is-head m) in
    omega (arith, c.end_of-to.ensures)

pub returns-then-byte_at-eq1 : goal.returns-then-byte_at-eq1
returns-then-byte_at-eq1 c =
    let m = (goal.at.returns-then-byte_at-eq1 c).After-count_in-count in
    let q = head m in
    let a = m.address_in-address.ensures in
    let b = m.beside_in-beside.ensures in
    let x = c.record_at-from in
    let r = record_is q x.result c.end_of-to.result x.ensures.0 c.end_of-to.ensures in
    let w = sym c.byte_at.ensures ∙ c.if-byte_at-eq1.true in
    asked_write q (image m) (room m) (is-head m) _ _ _ _ _ _ w a (list m) r b c.write_record.ensures

pub slice_bounds-read-end : goal.slice_bounds-read-end
slice_bounds-read-end c = counts (goal.at.slice_bounds-read-end c).After-count_in-count

pub returns-in_err-call : goal.returns-in_err-call
returns-in_err-call c =
    let x = (goal.at.returns-in_err-call c).After-read in
    let m = (goal.at.After-read x).After-count_in-count in
    let q = err_from_is_err_and c.from_residual.result c.from_residual.ensures.1 in
    rw (q.1, q.2) (read_no (head m) (image m) (room m) (is-head m) (is_read x) _ (given x ∙ c.in_err-call.was))

-- what writing the call that was read answers
told : (k : After-write) → let x = (goal.at.After-write k).After-read in let m = (goal.at.After-read x).After-count_in-count in
    Answers (head m) (image m) (room m) (image m) k.write.new.out (number_in k.write.result)
told k =
    let x = (goal.at.After-write k).After-read in
    let m = (goal.at.After-read x).After-count_in-count in
    let w = k.write.ensures in
    read_told (head m) (image m) (room m) (is-head m) (is_read x) k.in_ok-call.call _ (given x ∙ k.in_ok-call.was) w.buffer _ w.answer

pub returns-in_err-write : goal.returns-in_err-write
returns-in_err-write c =
    let k = (goal.at.returns-in_err-write c).After-write in
    let q = err_from_is_err_and c.from_residual-in_err-write.result c.from_residual-in_err-write.ensures.1 in
    rw (q.1, q.2) (rw (c.in_err-write.was) at (told k))

pub returns : goal.returns
returns c = let k = (goal.at.returns c).After-write in rw c.in_ok-write.was at (told k)
