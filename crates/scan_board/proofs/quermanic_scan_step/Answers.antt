-- `quermanic_scan_step` meets its contract: its four outcomes are the definition's.
use Prim.Native.Nat.{ℕ, ◌≤◌}
use mathlib.Core.Path.{◌≡◌, sym, ap, ◌∙◌}
use mathlib.Core.Bool.{true}
use mathlib.Core.List.{List}
use native.Mathlib.Omega.{arith}
use lib.ListN.{length}
use Rattle.scan.specs.declared.Scan.{Scan}
use Rattle.scan.specs.Step.{scan_of}
use Rattle.image.specs.Blocks.{written}
use Rattle.image.specs.EntryPoints.{answer_length, answer_bytes}
use Rattle.scan_board.specs.Image.{scan_load, is_scan}
use Rattle.scan_board.proofs.Trips.{image-parts}
use Rattle.scan_board.proofs.Answered.{holds, given, step-short, step-none, step-refused, step-done}
use Rattle.scan_board.proofs.quermanic_scan_step.Goals as goal
use Rattle.scan_board.proofs.quermanic_scan_step.Goals.{After-is_scan, After-step-outcome}

pub returns-then-answer-lt25 : goal.returns-then-answer-lt25
returns-then-answer-lt25 c =
    let a = c.args in
    let e = step-short a.image.now a.call.now a.answer.now c.if-answer-lt25.true in
    record { number = e.0; image = e.1.0; answer = e.1.1; holds = λ z. absurd (omega arith) }

-- the three buffers as they came
abbrev image : After-is_scan → List ℕ
image i = i.args.image.now

abbrev call : After-is_scan → List ℕ
call i = i.args.call.now

abbrev answer : After-is_scan → List ℕ
answer i = i.args.answer.now

-- the answer's buffer has room
room : (i : After-is_scan) → answer_length ≤ length (answer i)
room i = i.if-answer-lt25.false

-- the outcome is that of a step from what the image loads to
stepped : (x : After-step-outcome) → let i = (goal.at.After-step-outcome x).After-is_scan in x.step-outcome.result ≡ scan_of (scan_load (image i)) (call i)
stepped x =
    let i = (goal.at.After-step-outcome x).After-is_scan in
    x.step-outcome.ensures ∙ ap (λ e. scan_of e (call i)) x.load.ensures

-- the bytes are an image, as it was found
found : (x : After-step-outcome) → is_scan (image (goal.at.After-step-outcome x).After-is_scan) ≡ true
found x =
    sym x.is_scan.ensures ∙ x.if-not-is_scan.false

pub returns-then-not-is_scan : goal.returns-then-not-is_scan
returns-then-not-is_scan c =
    let i = (goal.at.returns-then-not-is_scan c).After-is_scan in
    let none = given (answer i) _ c.no_table.result (room i) c.give.ensures ∙ ap (λ x. written (answer i) 0 (answer_bytes x)) c.no_table.ensures in
    let no = sym i.is_scan.ensures ∙ c.if-not-is_scan.true in
    let e = step-none (image i) (call i) (answer i) (room i) no none in
    record { number = e.0; image = e.1.0; answer = e.1.1; holds = λ z. absurd (omega arith) }

pub load-requires : goal.load-requires
load-requires c =
    let i = (goal.at.load-requires c).After-is_scan in
    (image-parts (image i) (sym i.is_scan.ensures ∙ c.if-not-is_scan.false)).0

pub returns-then-outcome-ne0 : goal.returns-then-outcome-ne0
returns-then-outcome-ne0 c =
    let x = (goal.at.returns-then-outcome-ne0 c).After-step-outcome in
    let i = (goal.at.After-step-outcome x).After-is_scan in
    let d =
    step-refused (image i) (call i) (answer i) (room i) x.step-outcome.result (stepped x) (found x) c.if-outcome-ne0.true
    (given (answer i) _ x.step-outcome.result.answer (room i) c.give-2.ensures) in
    record { number = d.0; image = d.1.0; answer = d.1.1; holds = λ z. absurd (c.if-outcome-ne0.true z) }

pub put_scan-requires : goal.put_scan-requires
put_scan-requires c =
    let x = (goal.at.put_scan-requires c).After-step-outcome in
    (image-parts (image (goal.at.After-step-outcome x).After-is_scan) (found x)).0

pub returns : goal.returns
returns c =
    let x = (goal.at.returns c).After-step-outcome in
    let i = (goal.at.After-step-outcome x).After-is_scan in
    let d =
    step-done (image i) (call i) (answer i) (room i) x.step-outcome.result (stepped x) (found x) (omega (arith, c.if-outcome-ne0.false))
    (given (answer i) _ x.step-outcome.result.answer (room i) c.give-2.ensures) c.put_scan.ensures.1 in
    let h =
    holds x.step-outcome.result.table (scan_of (scan_load (image i)) (call i)).table c.put_scan.ensures.0
    (ap (λ (y : Scan). y.table) (stepped x)) c.put_scan.ensures.1 in
    record { number = d.0; image = d.1.0; answer = d.1.1; holds = λ z. h }
