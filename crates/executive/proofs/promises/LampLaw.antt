-- The lamp shows the active task's priority, and is dark exactly when the executive is idle.
use Prim.Native.Nat.{ℕ, ◌<◌}
use mathlib.Core.Path.{◌≡◌, refl, sym, ap, ◌∙◌}
use mathlib.Core.Logic.{◌↔◌, ◌≢◌}
use mathlib.Core.Bool.{true}
use native.Mathlib.Omega.{arith}
use Rattle.executive.specs.declared.State.TheVariants.{Ready}
use Rattle.executive.specs.declared.Table.{Table}
use Rattle.executive.specs.Places.{task_at}
use Rattle.executive.specs.Flags.{is_set}
use Rattle.executive.specs.Plans.{caller}
use Rattle.executive.specs.WellFormed.{WellFormed, Lit}
use Rattle.executive.specs.Lamp.{lamp_of}
use Rattle.executive.specs.Promises.Demands.{Chosen, Dispatched}
use Rattle.executive.specs.Promises.LampLaw.{Shows, LampLaw}
use Rattle.executive.proofs.Lists.Tests.{false_not_true}
use Rattle.executive.proofs.flags.Bits.{set-none}
use Rattle.executive.proofs.Plans.WorkingForm.{formed}
use Rattle.executive.proofs.levels.Highest.{unset, lamp-top, lamp-none, lamp-dark}
use Rattle.executive.proofs.step.Dispatched.{dispatches}
use Rattle.executive.proofs.promises.Demands.{demands}
use Rattle.std.proofs.Common.{None, Some}

module _ (t : Table) (w : WellFormed t) where
  abbrev word : ℕ
  word = t.levels

  chosen : Dispatched t (caller t).0
  chosen = dispatches t (formed w)

  level : 0 < (caller t).0 → lamp_of word ≡ Some (task_at t.tasks (caller t).0).priority
  level h =
      let c : Chosen t (caller t).0 = chosen.chosen h in
      (lamp-top word w.levels.word _).1 (record {
        lit = (w.levels.bits _).1 (record { task = (caller t).0; ready = c.ready; priority = refl });
        above = λ q l. unset word q (λ s. let x : Lit t q = (w.levels.bits q).0 s in omega (arith, c.highest x.task x.ready, x.priority));
      })

  dark : (lamp_of word ≡ None) ↔ ((k : ℕ) → (task_at t.tasks k).state ≢ Ready)
  dark = (out, λ n. lamp-dark word w.levels.word (λ p s. let x : Lit t p = (w.levels.bits p).0 s in n x.task x.ready))
    where
      out : lamp_of word ≡ None → (k : ℕ) → (task_at t.tasks k).state ≢ Ready
      out e k r =
          let p : ℕ = (task_at t.tasks k).priority in
          let s : is_set word p ≡ true = (w.levels.bits p).1 (record { task = k; ready = r; priority = refl }) in
          false_not_true (sym (ap (λ (x : ℕ). is_set x p) ((lamp-none word w.levels.word).0 e) ∙ set-none p) ∙ s)

  shows : Shows t
  shows = record { level = level; dark = dark; idle = (λ e. chosen.idle.1 (dark.0 e), λ z. dark.1 (chosen.idle.0 z)) }

pub lamp_law : LampLaw
lamp_law = record {
  shows = shows;
  shown = λ t ss w b. shows _ (demands.kept t ss w b);
  top = λ w p l. lamp-top w l p;
  none = lamp-none;
  bits = λ t w. (formed w).lit;
}
