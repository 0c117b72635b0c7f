-- A call that nothing refuses has what its decision asks.
use Prim.Native.Nat.{ℕ, ◌<◌}
use mathlib.Core.Path.{◌≡◌, refl, sym}
use mathlib.Core.Bool.{Bool, true, false, ◌||◌}
use mathlib.Core.List.{List, ◌∷◌}
use native.Mathlib.Omega.{arith}
use borrow.Author.Tests.{ltb-false, eqb-false}
use lib.Dec.{ltb}
use Rattle.records.specs.Firsts.{Refusal, when, first_of}
use Rattle.records.specs.declared.Call.{Call}
use Rattle.records.specs.declared.Call.TheVariants as call
use Rattle.executive.specs.declared.Table.{Table}
use Rattle.executive.specs.Table.{ArraysInOrder, TimesInOrder}
use Rattle.executive.specs.WellFormed.{WellFormed}
use Rattle.executive.specs.Refusals.{is_tick, nobody_active, bad_body, holds_it, holds_not, holds_any, names_caller, alarm_running, pool_full, mail_full, ends_time, call_refusals}
use Rattle.executive.proofs.Lists.Tests.{false_not_true}
use Rattle.executive.proofs.calls.InOrder.{fit_of, standing-of}

-- the first of a list is given no number: its condition does not hold
pub first-none : (n : ℕ) (b : Bool) (rs : List Refusal) → 0 < n → first_of (when n b ∷ rs) ≡ 0 → (b ≡ false) × (first_of rs ≡ 0)
unfolding first_of
first-none n true rs h e = absurd (omega arith)
first-none n false rs h e = (refl, e)

-- none of what can be refused of a call holds
pub record Clear (t : Table) (c : Call) : Type 0 where
  pub active : nobody_active t c ≡ false
  pub body : bad_body t c ≡ false
  pub inside : holds_it t c ≡ false
  pub outside : holds_not t c ≡ false
  pub holding : holds_any t c ≡ false
  pub another : names_caller t c ≡ false
  pub room : pool_full t c ≡ false
  pub mail : mail_full t c ≡ false
  pub time : ends_time t c ≡ false

pub clear_of : (t : Table) (c : Call) → first_of (call_refusals t c) ≡ 0 → Clear t c
clear_of t c h =
    let a = first-none 5 (nobody_active t c) _ (omega arith) h in
    let b = first-none 6 (bad_body t c) _ (omega arith) a.1 in
    let i = first-none 13 (holds_it t c) _ (omega arith) b.1 in
    let o = first-none 14 (holds_not t c) _ (omega arith) i.1 in
    let n = first-none 15 (holds_any t c) _ (omega arith) o.1 in
    let d = first-none 7 (names_caller t c) _ (omega arith) n.1 in
    let e = first-none 9 (alarm_running t c) _ (omega arith) d.1 in
    let f = first-none 8 (pool_full t c) _ (omega arith) e.1 in
    let p = first-none 16 (mail_full t c) _ (omega arith) f.1 in
    let g = first-none 10 (ends_time t c) _ (omega arith) p.1 in
    record { active = a.0; body = b.0; inside = i.0; outside = o.0; holding = n.0; another = d.0; room = f.0; mail = p.0; time = g.0 }

pub or-none : (a b : Bool) → (a || b) ≡ false → (a ≡ false) × (b ≡ false)
or-none false b h = (refl, h)
or-none true b h = false_not_true (sym h)

-- ---- what each method asks
module _ (t : Table) (w : WellFormed t) where
  active : (c : Call) → is_tick t c ≡ false → first_of (call_refusals t c) ≡ 0 → 0 < t.ready
  unfolding nobody_active
  active c n h = let z = eqb-false t.ready 0 (rw n at (clear_of t c h).active) in omega arith

  pub end_owed : first_of (call_refusals t call.Terminate) ≡ 0 → ArraysInOrder t × (0 < t.ready)
  end_owed h = (fit_of t w, active call.Terminate refl h)

  pub restart_owed : (p n : ℕ) → first_of (call_refusals t (call.Restart p n)) ≡ 0 → TimesInOrder t × (0 < t.ready)
  restart_owed p n h = (standing-of t w, active (call.Restart p n) refl h)

-- ---- the same of the numbers alone
pub low_first : (a : ℕ) (b : Bool) → (ltb 31 a || b) ≡ false → a < 32
low_first a b h = let l = ltb-false 31 a (or-none (ltb 31 a) b h).0 in omega arith

pub low_second : (b : Bool) (a : ℕ) → (b || ltb 31 a) ≡ false → a < 32
low_second b a h = let l = ltb-false 31 a (or-none b (ltb 31 a) h).1 in omega arith
