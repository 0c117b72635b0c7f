-- `writing::write` meets its contract: each test picks its case of `write_number` and `image_after`.
use Prim.Native.Nat.{ℕ, ◌+◌, ◌-◌}
use mathlib.Core.Path.{◌≡◌, refl, sym, ap, ◌∙◌}
use mathlib.Core.List.{List, ◌++◌}
use native.Mathlib.Omega.{arith}
use lib.ListN.{length, take}
use lib.Seq.{drop-drop}
use borrow.Rule.Slice.PartMut.{post_of}
use Rattle.records.specs.Firsts.{first_of}
use Rattle.std.proofs.lemmas.Result.{err_from_is_err_and}
use Rattle.records.specs.Refusals.{number_in}
use Rattle.records.proofs.Assured.{promises}
use Rattle.records.specs.Calls.{fields_of}
use Rattle.records.specs.declared.Call.{Call}
use Rattle.blocks.specs.Types.{length_in, size_of}
use Rattle.blocks.specs.Refusals.{by_place}
use Rattle.blocks.specs.Writing.{form_for, write_refusals}
use Rattle.blocks.proofs.writing.Laws.{write_no, write_yes}
use Rattle.blocks.proofs.Judged.{Placed, placed, joined-place, joined_numbers}
use Rattle.blocks.proofs.writing.write.Goals as goal
use Rattle.blocks.proofs.writing.write.Goals.{After-by_numbers, After-by_place}

abbrev image : After-by_place → List ℕ
image b = b.args.image.now

abbrev address : After-by_place → ℕ
address b = b.args.address

abbrev list : After-by_place → List ℕ
list b = b.args.list.now

abbrev call : After-by_place → Call
call b = b.args.call

abbrev work : After-by_place → ℕ
work b = b.args.work

-- the number by place, of the call's form
number : (b : After-by_place) → number_in b.by_place.result ≡ first_of (by_place (length (image b)) (address b) (size_of (form_for (call b))) (list b))
number b = b.by_place.ensures ∙ ap (λ n. first_of (by_place (length (image b)) (address b) n (list b))) b.lay-laid.ensures.size

-- where it is 0, the number that the call's own numbers give is the answer's
late : (n : After-by_numbers) → let b = (goal.at.After-by_numbers n).After-by_place in number_in n.by_numbers.result ≡ first_of (write_refusals (image b) (address b) (list b) (call b))
late n =
    let b = (goal.at.After-by_numbers n).After-by_place in
    joined_numbers (length (image b)) (address b) (list b) (form_for (call b)) (fields_of (call b)) (number_in b.by_place.result) (number_in n.by_numbers.result)
    (number b) (ap number_in n.in_ok-by_place.was) n.by_numbers.ensures

-- and the block goes in
goes_in : (n : After-by_numbers) → let b = (goal.at.After-by_numbers n).After-by_place in Placed (length (image b)) (address b) (list b) (form_for (call b))
goes_in n =
    let b = (goal.at.After-by_numbers n).After-by_place in
    placed (length (image b)) (address b) (list b) (form_for (call b)) _ (number b) (ap number_in n.in_ok-by_place.was)

pub returns-in_err-by_place : goal.returns-in_err-by_place
returns-in_err-by_place c =
    let b = (goal.at.returns-in_err-by_place c).After-by_place in
    let k = call b in
    let r = c.in_err-by_place.field-0.0 in
    let n = sym (ap number_in c.in_err-by_place.was) ∙ number b in
    let q = err_from_is_err_and c.from_residual.result c.from_residual.ensures.1 in
    let e = joined-place (length (image b)) (address b) (list b) (form_for k) (fields_of k) _ n (promises.numbered_some r) in
    rw (q.1, q.2) (write_no (image b) (address b) (list b) (work b) k _ e (promises.numbered_some r))

pub returns-in_err-by_numbers : goal.returns-in_err-by_numbers
returns-in_err-by_numbers c =
    let n = (goal.at.returns-in_err-by_numbers c).After-by_numbers in
    let b = (goal.at.After-by_numbers n).After-by_place in
    let r = c.in_err-by_numbers.field-0.0 in
    let q = err_from_is_err_and c.from_residual-in_err-by_numbers.result c.from_residual-in_err-by_numbers.ensures.1 in
    rw (q.1, q.2) (write_no (image b) (address b) (list b) (work b) (call b) _ (sym (ap number_in c.in_err-by_numbers.was) ∙ late n) (promises.numbered_some r))

-- where the block ends
within : (n : After-by_numbers) → n.lay-laid.result.1 ≡ length_in (form_for n.args.call)
within n = let b = (goal.at.After-by_numbers n).After-by_place in b.lay-laid.ensures.size ∙ rw (goes_in n).some refl

pub overflow_add-address : goal.overflow_add-address
overflow_add-address c =
    let n = (goal.at.overflow_add-address c).After-by_numbers in
    let f = (goes_in n).fits in omega (arith, within n)

pub slice_bounds-copy_from_slice-end : goal.slice_bounds-copy_from_slice-end
slice_bounds-copy_from_slice-end c =
    let n = (goal.at.slice_bounds-copy_from_slice-end c).After-by_numbers in
    let f = (goes_in n).fits in omega (arith, within n)

pub returns : goal.returns
returns c =
    let n = (goal.at.returns c).After-by_numbers in
    let b = (goal.at.After-by_numbers n).After-by_place in
    let y = b.lay-laid in
    let z = sym (ap number_in c.in_ok-by_numbers.was) ∙ late n in
    let s = image b in
    let a = address b in
    let m : a + y.result.1 - a ≡ y.result.1 = omega arith in
    let t = (λ i. take a s ++ (c.copy_from_slice.ensures.after i ++ post_of a (m i) s)) ∙ ap (λ x. take a s ++ (take y.result.1 y.result.0 ++ x)) (drop-drop y.result.1 a s) in
    write_yes s a (list b) (work b) (call b) y.result.0 _ y.result.1 z (goes_in n).some y.ensures t
