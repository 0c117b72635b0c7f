-- `sound::lists_right` meets its contract: the first list that is not right decides, or the last.
use Prim.Native.Nat.{ℕ}
use mathlib.Core.Path.{sym, ap, ap₂, ◌∙◌}
use native.Mathlib.Omega.{arith}
use Rattle.executive.specs.Check.{asked_right, held_right, sent_right, mail_right}
use Rattle.executive.proofs.Assured.{and_false_left, and_false_right, and_true_left}
use Rattle.image.specs.Image.{load_of}
use Rattle.image.proofs.Loaded.{count-there, queued-there, sent-there}
use Rattle.image.proofs.sound.lists_right.Goals as goal

pub returns-then-not-pool_right : goal.returns-then-not-pool_right
returns-then-not-pool_right c =
    let s = c.args.b.now in
    let p = c.requires in
    and_false_left _ _ (ap₂ (λ (n k : ℕ). asked_right (load_of s).tasks n k (load_of s).rest.pool) (sym (count-there s)) (sym (queued-there s)) ∙ sym c.pool_right.ensures ∙ c.if-not-pool_right.true)

pub returns-then-not-subs_right : goal.returns-then-not-subs_right
returns-then-not-subs_right c =
    let s = c.args.b.now in
    let p = c.requires in
    let a = asked_right (load_of s).tasks (load_of s).rest.count (load_of s).rest.queued (load_of s).rest.pool in
    let h = held_right (load_of s).tasks (load_of s).rest.count (load_of s).rest.subs in
    and_false_right a _ (and_false_left h _ (ap (λ (n : ℕ). held_right (load_of s).tasks n (load_of s).rest.subs) (sym (count-there s)) ∙ sym c.subs_right.ensures ∙ c.if-not-subs_right.true))

pub returns-then-not-sent_right : goal.returns-then-not-sent_right
returns-then-not-sent_right c =
    let s = c.args.b.now in
    let p = c.requires in
    let a = asked_right (load_of s).tasks (load_of s).rest.count (load_of s).rest.queued (load_of s).rest.pool in
    let h = held_right (load_of s).tasks (load_of s).rest.count (load_of s).rest.subs in
    let m = sent_right (load_of s).tasks (load_of s).rest.count (load_of s).rest.sent (load_of s).rest.messages in
    and_false_right a _ (and_false_right h _ (and_false_left m _ (ap₂ (λ (n k : ℕ). sent_right (load_of s).tasks n k (load_of s).rest.messages) (sym (count-there s)) (sym (sent-there s)) ∙ sym c.sent_right.ensures ∙ c.if-not-sent_right.true)))

pub returns : goal.returns
returns c =
    let s = c.args.b.now in
    let p = c.requires in
    and_true_left _ _ _ (ap₂ (λ (n k : ℕ). asked_right (load_of s).tasks n k (load_of s).rest.pool) (sym (count-there s)) (sym (queued-there s)) ∙ sym c.pool_right.ensures ∙ c.if-not-pool_right.false)
    (and_true_left _ _ _ (ap (λ (n : ℕ). held_right (load_of s).tasks n (load_of s).rest.subs) (sym (count-there s)) ∙ sym c.subs_right.ensures ∙ c.if-not-subs_right.false)
    (and_true_left _ _ _ (ap₂ (λ (n k : ℕ). sent_right (load_of s).tasks n k (load_of s).rest.messages) (sym (count-there s)) (sym (sent-there s)) ∙ sym c.sent_right.ensures ∙ c.if-not-sent_right.false)
    (c.mail_right.ensures ∙ ap (λ (n : ℕ). mail_right (load_of s).tasks n (load_of s).rest.mail) (count-there s))))

pub pool_right-requires : goal.pool_right-requires
pool_right-requires c =
    let s = c.args.b.now in
    let p = c.requires in
    rw (count-there s, queued-there s) (p.0, p.1, p.3.each 0 (omega arith), p.3.each 6 (omega arith), p.3.each 7 (omega arith), p.4)

pub subs_right-requires : goal.subs_right-requires
subs_right-requires c =
    let s = c.args.b.now in
    let p = c.requires in
    rw (count-there s) (p.1, p.2, p.3.each 8 (omega arith))

pub sent_right-requires : goal.sent_right-requires
sent_right-requires c =
    let s = c.args.b.now in
    let p = c.requires in
    rw (count-there s) (p.1, p.3.each 9 (omega arith))
