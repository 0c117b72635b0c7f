-- `reading::read` meets its contract: each test picks its case of `block_in`.
use Prim.Native.Nat.{ℕ}
use mathlib.Core.Path.{◌≡◌, sym, ap, ◌∙◌}
use mathlib.Core.List.{List}
use native.Mathlib.Omega.{arith}
use lib.ListN.{length}
use Rattle.std.proofs.lemmas.Result.{err_from_is_err_and}
use Rattle.records.specs.Firsts.{first_of}
use Rattle.records.specs.Refusals.{number_in}
use Rattle.records.proofs.Assured.{promises}
use Rattle.blocks.specs.Types.{form_at, size_of}
use Rattle.blocks.specs.Refusals.{by_place}
use Rattle.blocks.specs.Reading.{form_in, fields_in, read_refusals}
use Rattle.blocks.proofs.reading.Laws.{read_no, read-yes, read-late}
use Rattle.blocks.proofs.Judged.{inside, joined-place, placed}
use Rattle.blocks.proofs.Places.{not-bad}
use Rattle.blocks.proofs.reading.read.Goals as goal
use Rattle.blocks.proofs.reading.read.Goals.{After-by_numbers, After-by_place}

abbrev image : After-by_place → List ℕ
image b = b.args.image.now

abbrev address : After-by_place → ℕ
address b = b.args.address

abbrev list : After-by_place → List ℕ
list b = b.args.list.now

abbrev argument : After-by_place → ℕ
argument b = b.args.argument

-- the number by place, of the form of the byte at the address
number : (b : After-by_place) → number_in b.by_place.result ≡ first_of (by_place (length (image b)) (address b) (size_of (form_in (image b) (address b))) (list b))
number b =
    let size = b.length_at-size.ensures ∙ ap (λ x. size_of (form_at x)) b.byte_at.ensures in
    b.by_place.ensures ∙ ap (λ n. first_of (by_place (length (image b)) (address b) n (list b))) size

-- where it is 0, the number that the call's own numbers give is the answer's
late : (n : After-by_numbers) → let b = (goal.at.After-by_numbers n).After-by_place in number_in n.by_numbers.result ≡ first_of (read_refusals (image b) (address b) (list b) (argument b))
late n =
    let b = (goal.at.After-by_numbers n).After-by_place in
    let k = n.call_at-call in
    read-late (image b) (address b) (list b) (argument b) k.result (number_in b.by_place.result) (number_in n.by_numbers.result) (number b)
    (ap number_in n.in_ok-by_place.was) k.ensures n.by_numbers.ensures

pub returns-in_err-by_place : goal.returns-in_err-by_place
returns-in_err-by_place c =
    let b = (goal.at.returns-in_err-by_place c).After-by_place in
    let s = image b in
    let r = c.in_err-by_place.field-0.0 in
    let n = sym (ap number_in c.in_err-by_place.was) ∙ number b in
    let q = err_from_is_err_and c.from_residual.result c.from_residual.ensures.1 in
    let e = joined-place (length s) (address b) (list b) (form_in s (address b)) (fields_in s (address b) (list b) (argument b)) _ n (promises.numbered_some r) in
    rw (q.1, q.2) (read_no s (address b) (list b) (argument b) r e)

pub call_at-call-requires : goal.call_at-call-requires
call_at-call-requires c =
    let b = (goal.at.call_at-call-requires c).After-by_place in
    let s = image b in
    let q = placed (length s) (address b) (list b) (form_in s (address b)) _ (number b) (ap number_in c.in_ok-by_place.was) in
    let i = inside (length s) (address b) q.within in
    (omega arith, (not-bad (list b) q.good).0, q.some)

pub returns-in_err-by_numbers : goal.returns-in_err-by_numbers
returns-in_err-by_numbers c =
    let n = (goal.at.returns-in_err-by_numbers c).After-by_numbers in
    let b = (goal.at.After-by_numbers n).After-by_place in
    let q = err_from_is_err_and c.from_residual-in_err-by_numbers.result c.from_residual-in_err-by_numbers.ensures.1 in
    rw (q.1, q.2) (read_no (image b) (address b) (list b) (argument b) _ (sym (ap number_in c.in_err-by_numbers.was) ∙ late n))

pub returns : goal.returns
returns c =
    let n = (goal.at.returns c).After-by_numbers in
    let b = (goal.at.After-by_numbers n).After-by_place in
    let k = n.call_at-call in
    read-yes (image b) (address b) (list b) (argument b) k.result (sym (ap number_in c.in_ok-by_numbers.was) ∙ late n) k.ensures
