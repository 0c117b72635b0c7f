-- Kinds 09, 0B and 80: what their sheets decide, from what was read.
use Prim.Native.Nat.{ℕ, ◌+◌, ◌-◌, ◌^◌, ◌≤◌, ◌<◌}
use mathlib.Core.Path.{◌≡◌, refl, sym, ap, ap₂, subst, ◌∙◌}
use mathlib.Core.Bool.{Bool, true, false, not, cond}
use mathlib.Core.List.{List, [], ◌++◌}
use native.Mathlib.Omega.{arith}
use borrow.Author.Tests.{lt-ltb, le-ltb, eq-eqb, ne_eqb, eqb-true}
use lib.Bits.{bit_and}
use lib.Dec.{eqb}
use lib.ListN.{length, get_or}
use Rattle.records.specs.declared.TaskNo.{TaskNo}
use Rattle.records.specs.declared.FlagNo.{FlagNo}
use Rattle.records.specs.declared.Call.TheVariants as call
use Rattle.executive.specs.declared.Task.{Task}
use Rattle.executive.specs.declared.Rest.{Rest}
use Rattle.executive.specs.declared.decisions.Leave.TheVariants as leave
use Rattle.executive.specs.declared.decisions.Change.TheVariants as change
use Rattle.executive.specs.declared.decisions.Deed.{Deed}
use Rattle.executive.specs.declared.decisions.Entrant.{Entrant}
use Rattle.executive.specs.declared.decisions.Entrants.{Entrants}
use Rattle.executive.specs.Numbers.{last_unit, end_of_time}
use Rattle.executive.specs.Lists.{◌and◌, next_of, each}
use Rattle.executive.specs.Places.{never, no_request}
use Rattle.executive.specs.Clock.{interval, is_due}
use Rattle.executive.specs.Flags.{is_set, flag_set}
use Rattle.executive.specs.Plans.{holds, timed}
use Rattle.executive.specs.States.{has_time, has_mask}
use Rattle.executive.specs.Decisions.{AllUnmet, listed, raised_all, rising, deed, alone, no_deed, rung_in, set_deed, flag_deed, alarm_deed, tick_deed, refusing, doing}
use Rattle.executive.specs.Sheet.{marks, flag_marks, decided}
use Rattle.executive.proofs.Assured.{rising-few, ticks, woken-few}
use Rattle.image.specs.Marks.{passed, Marked}
use Rattle.image.specs.Waking.{Among}
use Rattle.image.proofs.Chosen.{over-unmet, asked-all}
use Rattle.image.proofs.Searches.{timed-asked, rising_none, rising-asked}

pub set_is : (ts : List Task) (fs : ℕ) (f : FlagNo) (m : ℕ) → m ≡ flag_set fs f.0 → deed leave.Stays (rising (holds m) 1 ts) no_request (change.Flags m) ≡ set_deed ts fs f
unfolding set_deed
set_is ts fs f m e = ap (λ (x : ℕ). deed leave.Stays (rising (holds x) 1 ts) no_request (change.Flags x)) e

-- ---- those who wake, r, where of a set of those whose states hold a time and of a set of those whose states hold a mask all
-- are asked for whose time has come by n, and whose condition holds by the flags m
abbrev pub wakened : List Task → ℕ → ℕ → ℕ → ℕ → List Entrant
wakened ts clocked n masked m = cond (eqb clocked 0) [] (raised_all (timed n ts)) ++ cond (eqb masked 0) [] (rising (holds m) 1 ts)

abbrev pub Woken : List Task → ℕ → ℕ → ℕ → ℕ → Entrants → Type 0
Woken ts clocked n masked m r = Among clocked has_time ts → Among masked has_mask ts → length (wakened ts clocked n masked m) ≤ 16 → r ≡ listed (wakened ts clocked n masked m)

-- nobody is asked for by time, and by flags all are
pub set-woken : (ts : List Task) (m w : ℕ) → length ts ≡ 16 → Marked 16 w (passed has_mask ts) → (r : Entrants) → Woken ts 0 0 w m r → r ≡ listed (rising (holds m) 1 ts)
set-woken ts m w n k r f =
    let e : wakened ts 0 0 w m ≡ rising (holds m) 1 ts = rising-asked ts m w n k in
    f (λ z. absurd (z refl)) (λ z. k) (omega (arith, ap length e, rising-few ts (holds m))) ∙ ap listed e

-- ---- kind 09
module _ (ts : List Task) (r : Rest) (c : TaskNo) (o : ℕ) (f : FlagNo) where
  pub flag-high : 31 < f.0 → refusing 6 ≡ decided ts r c (call.Flag o f)
  unfolding decided
  flag-high h = rw (lt-ltb 31 f.0 h) refl

  pub flag-odd : f.0 ≤ 31 → 2 < o → refusing 6 ≡ decided ts r c (call.Flag o f)
  unfolding decided
  flag-odd h g = rw (le-ltb 31 f.0 h, lt-ltb 2 o g) refl

  -- accepted: the flags and the flag's bit are as they were read
  module _ (h : f.0 ≤ 31) (g : o ≤ 2) (fs bit : ℕ) (ef : fs ≡ r.flags) (eb : bit ≡ 2 ^ f.0) where
    abbrev old : Bool
    old = not (eqb (bit_and fs bit) 0)

    old-is : old ≡ is_set r.flags f.0
    unfolding is_set
    old-is = ap₂ (λ (x y : ℕ). not (eqb (bit_and x y) 0)) ef eb

    flag-done : doing (flag_marks o (is_set r.flags f.0)) (flag_deed ts r.flags o f) ≡ decided ts r c (call.Flag o f)
    unfolding decided
    flag-done = rw (le-ltb 31 f.0 h, le-ltb 2 o g) refl

    pub flag-reset : o ≡ 0 → doing (marks (not old) false old) (alone leave.Stays (change.Flags (bit_and fs (4294967295 - bit)))) ≡ decided ts r c (call.Flag o f)
    unfolding flag_deed
    flag-reset z =
        (λ j. doing (marks (not (old-is j)) false (old-is j)) (alone leave.Stays (change.Flags (bit_and (ef j) (4294967295 - eb j)))))
        ∙ sym (ap (λ (n : ℕ). doing (flag_marks n (is_set r.flags f.0)) (flag_deed ts r.flags n f)) z)
        ∙ flag-done

    pub flag-set : o ≡ 1 → (d : Deed) → d ≡ set_deed ts fs f → doing (marks old false old) d ≡ decided ts r c (call.Flag o f)
    unfolding flag_deed
    flag-set z d e =
        let u : d ≡ set_deed ts r.flags f = e ∙ ap (λ (x : ℕ). set_deed ts x f) ef in
        (λ j. doing (marks (old-is j) false (old-is j)) (u j))
        ∙ sym (ap (λ (n : ℕ). doing (flag_marks n (is_set r.flags f.0)) (flag_deed ts r.flags n f)) z)
        ∙ flag-done

    pub flag-test : (o ≡ 0 → ⊥) → (o ≡ 1 → ⊥) → doing (marks false false old) no_deed ≡ decided ts r c (call.Flag o f)
    unfolding flag_deed
    flag-test a b =
        let u : doing (marks false false (is_set r.flags f.0)) no_deed ≡ doing (flag_marks o (is_set r.flags f.0)) (flag_deed ts r.flags o f) =
        rw (ne_eqb o 0 a, ne_eqb o 1 b) refl in
        (λ j. doing (marks false false (old-is j)) no_deed) ∙ u ∙ flag-done

-- ---- kind 0B
module _ (ts : List Task) (r : Rest) (c : TaskNo) (u n : ℕ) (f : FlagNo) where
  pub alarm-unit : last_unit < u → refusing 6 ≡ decided ts r c (call.Alarm u n f)
  unfolding decided
  alarm-unit h = rw (lt-ltb last_unit u h) refl

  pub alarm-high : u ≤ last_unit → 31 < f.0 → refusing 6 ≡ decided ts r c (call.Alarm u n f)
  unfolding decided
  alarm-high h g = rw (le-ltb last_unit u h, lt-ltb 31 f.0 g) refl

  -- the alarm is as it was read
  module _ (h : u ≤ last_unit) (g : f.0 ≤ 31) (x : ℕ) (ex : x ≡ (get_or r.alarms f.0 never).0) where
    pub alarm-running : (x ≡ 0 → ⊥) → refusing 9 ≡ decided ts r c (call.Alarm u n f)
    unfolding decided
    alarm-running z =
        let e : eqb (get_or r.alarms f.0 never).0 0 ≡ false = ne_eqb (get_or r.alarms f.0 never).0 0 (λ y. z (ex ∙ y)) in
        rw (le-ltb last_unit u h, le-ltb 31 f.0 g, e) refl

    -- accepted
    module _ (z : x ≡ 0) (fs bit : ℕ) (ef : fs ≡ r.flags) (eb : bit ≡ 2 ^ f.0) where
      abbrev was : Bool
      was = not (eqb (bit_and fs bit) 0)

      was-is : was ≡ is_set r.flags f.0
      unfolding is_set
      was-is = ap₂ (λ (a b : ℕ). not (eqb (bit_and a b) 0)) ef eb

      alarm-done : doing (marks (eqb n 0 and is_set r.flags f.0) false (is_set r.flags f.0)) (alarm_deed ts r.clock r.flags u n f) ≡ decided ts r c (call.Alarm u n f)
      unfolding decided
      alarm-done =
          let e : eqb (get_or r.alarms f.0 never).0 0 ≡ true = eq-eqb (get_or r.alarms f.0 never).0 0 (sym ex ∙ z) in
          rw (le-ltb last_unit u h, le-ltb 31 f.0 g, e) refl

      pub alarm-set : n ≡ 0 → (d : Deed) → d ≡ set_deed ts fs f → doing (marks was false was) d ≡ decided ts r c (call.Alarm u n f)
      unfolding alarm_deed
      alarm-set k d e =
          let v : d ≡ set_deed ts r.flags f = e ∙ ap (λ (a : ℕ). set_deed ts a f) ef in
          (λ j. doing (marks (was-is j) false (was-is j)) (v j))
          ∙ sym (ap (λ (m : ℕ). doing (marks (eqb m 0 and is_set r.flags f.0) false (is_set r.flags f.0)) (alarm_deed ts r.clock r.flags u m f)) k)
          ∙ alarm-done

      pub alarm-stored : (n ≡ 0 → ⊥) → (y : ℕ) → y ≡ r.clock.0 + (interval u n).0
          → doing (marks false false was) (alone leave.Stays (change.Alarm f (record { 0 = y }))) ≡ decided ts r c (call.Alarm u n f)
      unfolding alarm_deed
      alarm-stored k y e =
          let v : doing (marks false false (is_set r.flags f.0)) (alone leave.Stays (change.Alarm f (record { 0 = r.clock.0 + (interval u n).0 })))
          ≡ doing (marks (eqb n 0 and is_set r.flags f.0) false (is_set r.flags f.0)) (alarm_deed ts r.clock r.flags u n f) =
          rw (ne_eqb n 0 k) refl in
          (λ j. doing (marks false false (was-is j)) (alone leave.Stays (change.Alarm f (record { 0 = e j })))) ∙ v ∙ alarm-done

-- ---- kind 80
module _ (ts : List Task) (r : Rest) (c : TaskNo) where
  pub tick-late : end_of_time < r.clock.0 + r.granule → refusing 10 ≡ decided ts r c call.Tick
  unfolding decided
  tick-late h = rw (lt-ltb end_of_time (r.clock.0 + r.granule) h) refl

  pub tick-done : r.clock.0 + r.granule ≤ end_of_time → doing (marks false false false) (tick_deed ts r) ≡ decided ts r c call.Tick
  unfolding decided
  tick-done h = rw (le-ltb end_of_time (r.clock.0 + r.granule) h) refl

pub tick_is : (ts : List Task) (r : Rest) (n fs more first : ℕ) → n ≡ r.clock.0 + r.granule → fs ≡ r.flags → first ≡ next_of (is_due n) 0 r.alarms
    → more ≡ each (rung_in n r.alarms) 32 0 fs
    → deed leave.Stays (raised_all (timed n ts) ++ rising (holds more) 1 ts) no_request (change.Clock first) ≡ tick_deed ts r
tick_is ts r n fs more first en ef ei em =
    let e : more ≡ each (rung_in n r.alarms) 32 0 r.flags = em ∙ ap (each (rung_in n r.alarms) 32 0) ef in
    (λ j. deed leave.Stays (raised_all (timed n ts) ++ rising (holds (e j)) 1 ts) no_request (change.Clock (ei j))) ∙ ticks ts r n en

-- of those who wait for flags nobody is asked for where no flag has been set: then nobody's condition holds
module _ (ts : List Task) (n : length ts ≡ 16) (fs more flagged held : ℕ) (k : Marked 16 flagged (passed has_mask ts)) (e : held ≡ cond (eqb more fs) 0 flagged) where
  held-among : Among held has_mask ts
  held-among z = go (eqb more fs) e
    where
      go : (b : Bool) → held ≡ cond b 0 flagged → Marked 16 held (passed has_mask ts)
      go true q = absurd (z q)
      go false q = subst (λ (w : ℕ). Marked 16 w (passed has_mask ts)) (sym q) k

  held-rising : AllUnmet fs ts → cond (eqb held 0) [] (rising (holds more) 1 ts) ≡ rising (holds more) 1 ts
  held-rising u = go (eqb more fs) refl e
    where
      go : (b : Bool) → eqb more fs ≡ b → held ≡ cond b 0 flagged → cond (eqb held 0) [] (rising (holds more) 1 ts) ≡ rising (holds more) 1 ts
      go true p q =
          asked-all held (rising (holds more) 1 ts)
          (λ z. ap (λ (x : ℕ). rising (holds x) 1 ts) (eqb-true more fs p) ∙ rising_none ts fs n (over-unmet fs ts u))
      go false p q = rising-asked ts more held n (subst (λ (w : ℕ). Marked 16 w (passed has_mask ts)) (sym q) k)

  pub tick-woken : (c w : ℕ) → AllUnmet fs ts → Marked 16 w (passed has_time ts) → (r : Entrants) → Woken ts w c held more r
      → r ≡ listed (raised_all (timed c ts) ++ rising (holds more) 1 ts)
  tick-woken c w u m r f =
      let e : wakened ts w c held more ≡ raised_all (timed c ts) ++ rising (holds more) 1 ts =
      ap₂ (λ (xs ys : List Entrant). xs ++ ys) (timed-asked ts c w n m) (held-rising u) in
      f (λ z. m) held-among (omega (arith, ap length e, woken-few ts c more)) ∙ ap listed e
