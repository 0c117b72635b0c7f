-- `sound::begin` meets its contract: the first part that is not right decides; else all of them are.
use mathlib.Core.Path.{refl, sym, ◌∙◌}
use mathlib.Core.List.{[]}
use native.Mathlib.Omega.{arith}
use Rattle.records.specs.Numbers.{Bytes}
use Rattle.image.proofs.Alike.{never}
use Rattle.image.proofs.Loaded.{ready-there, count-there}
use Rattle.image.proofs.FirstPart.{few, rule-broken, entries-broken, blanks-broken, kinds-known, begun-right}
use Rattle.image.proofs.sound.begin.Goals as goal

pub returns-then-not-in_bounds : goal.returns-then-not-in_bounds
returns-then-not-in_bounds c =
    let s = c.args.b.now in
    let h : Bytes s = c.fits-b in
    let t = c.long_in-time in
    (rule-broken s h t.result _ t.ensures refl {ws = []} {r = 0} (λ z. never (sym (sym c.in_bounds.ensures ∙ c.if-not-in_bounds.true) ∙ z.bounds))).wrong refl

pub returns-then-not-entries_right : goal.returns-then-not-entries_right
returns-then-not-entries_right c =
    let s = c.args.b.now in
    let h : Bytes s = c.fits-b in
    let t = c.long_in-time in
    let fs = c.word_in-flags in
    let n = few s c.long_in-time.result (sym c.in_bounds.ensures ∙ c.if-not-in_bounds.false) in
    (entries-broken s h t.result fs.result t.ensures fs.ensures c.told-b n {ws = []} {r = 0} (sym c.entries_right.ensures ∙ c.if-not-entries_right.true)).wrong refl

pub returns-then-not-blank_past : goal.returns-then-not-blank_past
returns-then-not-blank_past c =
    let s = c.args.b.now in
    let h : Bytes s = c.fits-b in
    let t = c.long_in-time in
    let fs = c.word_in-flags in
    let n = few s c.long_in-time.result (sym c.in_bounds.ensures ∙ c.if-not-in_bounds.false) in
    (blanks-broken s h t.result fs.result t.ensures fs.ensures c.told-b n {ws = []} {r = 0} (sym c.blank_past.ensures ∙ c.if-not-blank_past.true)).wrong refl

pub returns-in_err-running : goal.returns-in_err-running
returns-in_err-running c =
    let s = c.args.b.now in
    let h : Bytes s = c.fits-b in
    let t = c.long_in-time in
    let fs = c.word_in-flags in
    rw c.from_residual.ensures ((rule-broken s h t.result fs.result t.ensures fs.ensures {ws = []} {r = 0} (λ z. never (c.in_err-running.ensures.right ∙ z.alarms))).wrong refl)

pub returns-then-not-queue_right : goal.returns-then-not-queue_right
returns-then-not-queue_right c =
    let s = c.args.b.now in
    let h : Bytes s = c.fits-b in
    let t = c.long_in-time in
    let fs = c.word_in-flags in
    let e = c.queue_right.ensures in
    (rule-broken s h t.result fs.result t.ensures fs.ensures {ws = []} {r = 0} (λ z. never (sym (sym e ∙ c.if-not-queue_right.true) ∙ z.queue))).wrong refl

pub returns : goal.returns
returns c =
    let s = c.args.b.now in
    let h : Bytes s = c.fits-b in
    let t = c.long_in-time in
    let fs = c.word_in-flags in
    let n = few s c.long_in-time.result (sym c.in_bounds.ensures ∙ c.if-not-in_bounds.false) in
    let es = sym c.entries_right.ensures ∙ c.if-not-entries_right.false in
    let zs = sym c.blank_past.ensures ∙ c.if-not-blank_past.false in
    let bs = sym c.in_bounds.ensures ∙ c.if-not-in_bounds.false in
    begun-right s h t.result fs.result t.ensures fs.ensures c.told-b n es zs bs
    (sym c.in_ok-running.ensures.right)
    (sym c.queue_right.ensures ∙ c.if-not-queue_right.false)
    c.kind_sets-sets.ensures c.in_ok-running.ensures.running

pub kind_sets-sets-requires : goal.kind_sets-sets-requires
kind_sets-sets-requires c =
    let s = c.args.b.now in
    let h : Bytes s = c.fits-b in
    let t = c.long_in-time in
    let fs = c.word_in-flags in
    let n = few s c.long_in-time.result (sym c.in_bounds.ensures ∙ c.if-not-in_bounds.false) in
    let es = sym c.entries_right.ensures ∙ c.if-not-entries_right.false in
    (n, kinds-known s h t.result fs.result t.ensures fs.ensures c.told-b n es)

pub queue_right-requires : goal.queue_right-requires
queue_right-requires c =
    let s = c.args.b.now in
    (ready-there s, count-there s, c.kind_sets-sets.ensures.each 1 (omega arith))
