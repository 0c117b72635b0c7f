use mathlib.Core.Path.{◌≡◌, refl, sym, ap, ◌∙◌}
use mathlib.Core.Bool.{Bool, true, false}
use native.Mathlib.Omega.{arith}
use lib.ListN.{length}
use Rattle.executive.specs.declared.Table.{Table}
use Rattle.executive.specs.WellFormed.{WellFormed}
use Rattle.executive.specs.Check.{is_well_formed}
use Rattle.executive.proofs.Assured.{decided}
use Rattle.mender.specs.Rebuilding.{rebuilt}
use Rattle.mender.specs.Mending.{answered, notes_at, Typed}
use Rattle.mender.proofs.Settles.{rounds}
use Rattle.mender.proofs.Answers.{refuses, stays, mends}
use Rattle.mender.proofs.mending.mend.Goals as goal
use Rattle.mender.proofs.mending.mend.Goals.{Start}

-- what the types say of the table that is given
typed : (s : Start) → Typed s.args.table
typed s =
    let r = s.args.table.rest in
    let p : length r.pool ≡ 32 = s.well_formed.0.1.1.1.1.1.1.0.1.1.1.1.1.1.1.0.1.0.1 in
    let m : length r.messages ≡ 32 = s.well_formed.0.1.1.1.1.1.1.0.1.1.1.1.1.1.1.1.1.1.0.1.0.1 in
    record { granule = omega arith; pool = p; messages = m }

not-formed : (t : Table) → (WellFormed t → ⊥) → is_well_formed t ≡ false
not-formed t w = go (is_well_formed t) refl
  where
    go : (b : Bool) → is_well_formed t ≡ b → b ≡ false
    go true e = absurd (w ((decided.iff t).0 e))
    go false e = refl

pub returns-then-not-in_bounds : goal.returns-then-not-in_bounds
returns-then-not-in_bounds c =
    let s = (goal.at.returns-then-not-in_bounds c).Start in
    let t = s.args.table in
    record { typed = typed s; answer = c.as_given.ensures ∙ sym (refuses t (sym c.in_bounds.ensures ∙ c.if-not-in_bounds.true)) }

pub returns-then-check-eq0 : goal.returns-then-check-eq0
returns-then-check-eq0 c =
    let s = (goal.at.returns-then-check-eq0 c).Start in
    let t = s.args.table in
    record { typed = typed s; answer = c.as_given-then-check-eq0.ensures ∙ sym (stays t (sym c.in_bounds.ensures ∙ c.if-not-in_bounds.false) ((decided.iff t).1 (c.check.ensures.right.0 c.if-check-eq0.true))) }

pub returns : goal.returns
returns c =
    let s = (goal.at.returns c).Start in
    let t = s.args.table in
    let b = sym c.in_bounds.ensures ∙ c.if-not-in_bounds.false in
    let e = ap (λ (u : Table). answered 0 (rebuilt u) (notes_at t (rebuilt u))) (rounds t (typed s) b 1) in
    record { typed = typed s; answer = c.mended.ensures ∙ sym (mends t b (not-formed t (λ w. c.if-check-eq0.false (c.check.ensures.right.1 w))) ∙ e) }
