-- `sound_entries::state_right` meets its contract: each kind has its code and one rule.
use Prim.Native.Nat.{ℕ, ◌+◌, ◌*◌}
use mathlib.Core.Path.{refl, sym, ap, ◌∙◌}
use mathlib.Core.Bool.{Bool, true, not}
use lib.Dec.{eqb, leb, ltb}
use lib.Bits.{bit_and}
use lib.ListN.{get_or}
use Rattle.records.specs.Numbers.{number_of, part}
use Rattle.executive.specs.Lists.{◌and◌}
use Rattle.executive.specs.States.{state_of}
use Rattle.executive.specs.Check.{is_stored}
use Rattle.image.specs.Image.{state_in}
use Rattle.image.specs.Coding.{are_of}
use Rattle.image.proofs.Loaded.{past-kinds}
use Rattle.image.proofs.EntriesRead.{with_true, twice-not, code_none, code_time, code_mask, code_number, at-dormant, at-kind, kind_so, kind-not, at-no-kind}
use Rattle.image.proofs.sound_entries.state_right.Goals as goal

pub returns-in-0 : goal.returns-in-0
unfolding state_in state_of are_of
returns-in-0 c =
    let s = c.args.b.now in
    c.is_dormant.ensures ∙ at-dormant s c.args.i c.requires c.args.count c.args.time.0 c.args.flags c.in-0.is

pub returns-in-1 : goal.returns-in-1
unfolding state_in state_of are_of
returns-in-1 c =
    let s = c.args.b.now in
    c.no_wait.ensures ∙ with_true _ ∙ at-kind s c.args.i c.requires c.args.count c.args.time.0 c.args.flags 1 _ true c.in-1.is (code_none s c.args.i c.requires) refl refl

pub returns-then-no_mask : goal.returns-then-no_mask
unfolding state_in state_of are_of
returns-then-no_mask c =
    let s = c.args.b.now in
    kind_so s c.args.i c.requires c.args.count c.args.time.0 c.args.flags 2 _ (is_stored c.args.time.0 (number_of (part 8 (c.args.i * 26 + 2) s))) c.in-2.is (code_time s c.args.i c.requires) (sym (with_true _)) refl c.no_mask.result c.no_mask.ensures c.if-no_mask.true c.time_right.result c.time_right.ensures

pub returns-else-no_mask : goal.returns-else-no_mask
unfolding state_in state_of are_of
returns-else-no_mask c =
    let s = c.args.b.now in
    kind-not s c.args.i c.requires c.args.count c.args.time.0 c.args.flags 2 _ (is_stored c.args.time.0 (number_of (part 8 (c.args.i * 26 + 2) s))) c.in-2.is (code_time s c.args.i c.requires) (sym (with_true _)) refl c.no_mask.result c.no_mask.ensures c.if-no_mask.false

pub returns-then-no_mask-2 : goal.returns-then-no_mask-2
unfolding state_in state_of are_of
returns-then-no_mask-2 c =
    let s = c.args.b.now in
    kind_so s c.args.i c.requires c.args.count c.args.time.0 c.args.flags 3 _ (is_stored c.args.time.0 (number_of (part 8 (c.args.i * 26 + 2) s))) c.in-3.is (code_time s c.args.i c.requires) (sym (with_true _)) refl c.no_mask-in-3.result c.no_mask-in-3.ensures c.if-no_mask-2.true c.time_right-then-no_mask-2.result c.time_right-then-no_mask-2.ensures

pub returns-else-no_mask-2 : goal.returns-else-no_mask-2
unfolding state_in state_of are_of
returns-else-no_mask-2 c =
    let s = c.args.b.now in
    kind-not s c.args.i c.requires c.args.count c.args.time.0 c.args.flags 3 _ (is_stored c.args.time.0 (number_of (part 8 (c.args.i * 26 + 2) s))) c.in-3.is (code_time s c.args.i c.requires) (sym (with_true _)) refl c.no_mask-in-3.result c.no_mask-in-3.ensures c.if-no_mask-2.false

pub returns-then-no_time : goal.returns-then-no_time
unfolding state_in state_of are_of
returns-then-no_time c =
    let s = c.args.b.now in
    kind_so s c.args.i c.requires c.args.count c.args.time.0 c.args.flags 4 _ (ltb 0 (number_of (part 4 (c.args.i * 26 + 10) s)) and eqb (bit_and c.args.flags (number_of (part 4 (c.args.i * 26 + 10) s))) 0) c.in-4.is (code_mask s c.args.i c.requires) (ap (λ (x : Bool). ltb 0 (number_of (part 4 (c.args.i * 26 + 10) s)) and x) (sym (twice-not _))) refl c.no_time.result c.no_time.ensures c.if-no_time.true c.none_set.result (c.none_set.ensures ∙ ap (λ (x : ℕ). ltb 0 (x) and eqb (bit_and c.args.flags (x)) 0) c.word_in.ensures)

pub returns-else-no_time : goal.returns-else-no_time
unfolding state_in state_of are_of
returns-else-no_time c =
    let s = c.args.b.now in
    kind-not s c.args.i c.requires c.args.count c.args.time.0 c.args.flags 4 _ (ltb 0 (number_of (part 4 (c.args.i * 26 + 10) s)) and eqb (bit_and c.args.flags (number_of (part 4 (c.args.i * 26 + 10) s))) 0) c.in-4.is (code_mask s c.args.i c.requires) (ap (λ (x : Bool). ltb 0 (number_of (part 4 (c.args.i * 26 + 10) s)) and x) (sym (twice-not _))) refl c.no_time.result c.no_time.ensures c.if-no_time.false

pub returns-then-no_time-2 : goal.returns-then-no_time-2
unfolding state_in state_of are_of
returns-then-no_time-2 c =
    let s = c.args.b.now in
    kind_so s c.args.i c.requires c.args.count c.args.time.0 c.args.flags 5 _ (ltb 0 (number_of (part 4 (c.args.i * 26 + 10) s)) and not (eqb (bit_and c.args.flags (number_of (part 4 (c.args.i * 26 + 10) s))) (number_of (part 4 (c.args.i * 26 + 10) s)))) c.in-5.is (code_mask s c.args.i c.requires) refl refl c.no_time-in-5.result c.no_time-in-5.ensures c.if-no_time-2.true c.not_all_set.result (c.not_all_set.ensures ∙ ap (λ (x : ℕ). ltb 0 (x) and not (eqb (bit_and c.args.flags (x)) (x))) c.word_in-then-no_time-2.ensures)

pub returns-else-no_time-2 : goal.returns-else-no_time-2
unfolding state_in state_of are_of
returns-else-no_time-2 c =
    let s = c.args.b.now in
    kind-not s c.args.i c.requires c.args.count c.args.time.0 c.args.flags 5 _ (ltb 0 (number_of (part 4 (c.args.i * 26 + 10) s)) and not (eqb (bit_and c.args.flags (number_of (part 4 (c.args.i * 26 + 10) s))) (number_of (part 4 (c.args.i * 26 + 10) s)))) c.in-5.is (code_mask s c.args.i c.requires) refl refl c.no_time-in-5.result c.no_time-in-5.ensures c.if-no_time-2.false

pub returns-in-6 : goal.returns-in-6
unfolding state_in state_of are_of
returns-in-6 c =
    let s = c.args.b.now in
    c.no_wait-in-6.ensures ∙ with_true _ ∙ at-kind s c.args.i c.requires c.args.count c.args.time.0 c.args.flags 6 _ true c.in-6.is (code_none s c.args.i c.requires) refl refl

pub returns-in-7 : goal.returns-in-7
unfolding state_in state_of are_of
returns-in-7 c =
    let s = c.args.b.now in
    c.no_wait-in-7.ensures ∙ with_true _ ∙ at-kind s c.args.i c.requires c.args.count c.args.time.0 c.args.flags 7 _ true c.in-7.is (code_none s c.args.i c.requires) refl refl

pub returns-then-no_other : goal.returns-then-no_other
unfolding state_in state_of are_of
returns-then-no_other c =
    let s = c.args.b.now in
    kind_so s c.args.i c.requires c.args.count c.args.time.0 c.args.flags 8 _ (leb (get_or s (898 + c.args.i) 0) 7) c.in-8.is (code_number s c.args.i c.requires) (sym (with_true _)) refl c.no_other.result c.no_other.ensures c.if-no_other.true _ refl

pub returns-else-no_other : goal.returns-else-no_other
unfolding state_in state_of are_of
returns-else-no_other c =
    let s = c.args.b.now in
    kind-not s c.args.i c.requires c.args.count c.args.time.0 c.args.flags 8 _ (leb (get_or s (898 + c.args.i) 0) 7) c.in-8.is (code_number s c.args.i c.requires) (sym (with_true _)) refl c.no_other.result c.no_other.ensures c.if-no_other.false

pub returns-then-no_other-2 : goal.returns-then-no_other-2
unfolding state_in state_of are_of
returns-then-no_other-2 c =
    let s = c.args.b.now in
    kind_so s c.args.i c.requires c.args.count c.args.time.0 c.args.flags 9 _ (leb (get_or s (898 + c.args.i) 0) c.args.count) c.in-9.is (code_number s c.args.i c.requires) (sym (with_true _)) refl c.no_other-in-9.result c.no_other-in-9.ensures c.if-no_other-2.true _ refl

pub returns-else-no_other-2 : goal.returns-else-no_other-2
unfolding state_in state_of are_of
returns-else-no_other-2 c =
    let s = c.args.b.now in
    kind-not s c.args.i c.requires c.args.count c.args.time.0 c.args.flags 9 _ (leb (get_or s (898 + c.args.i) 0) c.args.count) c.in-9.is (code_number s c.args.i c.requires) (sym (with_true _)) refl c.no_other-in-9.result c.no_other-in-9.ensures c.if-no_other-2.false

pub returns-in_default : goal.returns-in_default
returns-in_default c =
    let s = c.args.b.now in
    let x = c.in_default.in_default-own.rest in
    at-no-kind s c.args.i c.requires c.args.count c.args.time.0 c.args.flags
    (past-kinds _ x.0.0.0.0.0.0.0.0.0.1 x.0.0.0.0.0.0.0.0.1 x.0.0.0.0.0.0.0.1 x.0.0.0.0.0.0.1 x.0.0.0.0.0.1 x.0.0.0.0.1 x.0.0.0.1 x.0.0.1 x.0.1 x.1)
