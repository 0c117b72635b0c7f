-- Whoever owns a table of the second engine knows that its numbers fit.
use mathlib.Core.List.{List}
use native.Mathlib.Omega.{arith}
use mir.Val.{Val}
use denote.Laws.{Is}
use denote.Struct.Declared.{row}
use denote.Struct.Laws.{owed}
use Rattle.scan.specs.contracts.Entry.{the_type as entry-type, the_row as entry-row}
use Rattle.scan.proofs.Entry.TheLaws.{the_laws as entry-laws}
use Rattle.scan.specs.contracts.Scanned.{the_type as scanned-type}
use Rattle.scan.proofs.Scanned.TheLaws.{the_laws as scanned-laws}
use Rattle.scan.specs.declared.Entry.{Entry}
use Rattle.scan.specs.declared.Scanned.{Scanned}
use Rattle.image.specs.Blocks.{Each}
use Rattle.image.proofs.Assured.{array_owned}
use Rattle.scan_board.specs.Image.{FitsWord}

entry-owned : (x : Entry) (vs : List Val) → Is (row entry-type) x vs → FitsWord x.arrival
entry-owned x vs q = let f = owed entry-type entry-laws x vs q in (omega arith, tt)

pub numbers-owned : (e : Scanned) (vs : List Val) → Is (row scanned-type) e vs → Each (λ (x : Entry). FitsWord x.arrival) e.entries × FitsWord e.last
numbers-owned e vs q =
    let f = owed scanned-type scanned-laws e vs q in
    let es = array_owned entry-row (λ (x : Entry). FitsWord x.arrival) entry-owned 16 e.entries _ f.0 in
    (es.1, (omega arith, tt))
