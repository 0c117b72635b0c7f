-- `telling::cause_text` meets its contract: cause by cause.
use native.Mathlib.Omega.{arith}
use Rattle.text.proofs.Assured.{then, put_last}
use Rattle.why.proofs.telling.cause_text.Goals as goal

pub returns-in-Dormant : goal.returns-in-Dormant
returns-in-Dormant c =
    let p = put_last c.text.ensures (omega (arith, c.requires)) in
    rw c.in-Dormant.is (p, omega (arith, p.place))

pub returns-in-Active : goal.returns-in-Active
returns-in-Active c =
    let p = put_last c.text-in-Active.ensures (omega (arith, c.requires)) in
    rw c.in-Active.is (p, omega (arith, p.place))

pub returns-in-Flags : goal.returns-in-Flags
returns-in-Flags c =
    rw c.in-Flags.is (then c.mode_words-a.ensures.0 c.bits.ensures.0, omega (arith, c.mode_words-a.ensures.1, c.bits.ensures.1))

pub returns-in-Start : goal.returns-in-Start
returns-in-Start c =
    rw c.in-Start.is (then c.said-a.ensures.0 c.number.ensures.0, omega (arith, c.said-a.ensures.1, c.number.ensures.1))

pub returns-in-EndOfRequest : goal.returns-in-EndOfRequest
returns-in-EndOfRequest c =
    rw c.in-EndOfRequest.is (then c.said-a-in-EndOfRequest.ensures.0 c.number-in-EndOfRequest.ensures.0, omega (arith, c.said-a-in-EndOfRequest.ensures.1, c.number-in-EndOfRequest.ensures.1))

pub returns-in-Subprogram : goal.returns-in-Subprogram
returns-in-Subprogram c =
    rw c.in-Subprogram.is (then c.said-a-in-Subprogram.ensures.0 c.number-in-Subprogram.ensures.0, omega (arith, c.said-a-in-Subprogram.ensures.1, c.number-in-Subprogram.ensures.1))
