-- What is said of a tick is not said of any other call. A call's variants are known by their numbers.
use Prim.Native.Nat.{ℕ, suc}
use mathlib.Core.Path.{◌≡◌, refl, subst}
use mathlib.Core.Logic.{◌≢◌}
use mathlib.Core.Bool.{Bool, true, false, cond}
use mathlib.Core.List.{List, [], ◌∷◌}
use lib.Dec.{eqb}
use types.Run.{OneOf, miss}
use denote.RattleType.{RattleType}
use denote.Enum.Declared.{variants, tag_of}
use Rattle.records.specs.contracts.Call.{the_type}
use Rattle.records.specs.declared.TaskNo.{TaskNo}
use Rattle.records.specs.declared.Call.{Call}
use Rattle.records.specs.declared.Call.TheVariants as call
use Rattle.executive.specs.declared.Task.{Task}
use Rattle.executive.specs.declared.Rest.{Rest}
use Rattle.executive.specs.declared.Table.{Table}
use Rattle.executive.specs.Sheet.{sheet}
use Rattle.executive.proofs.step.InWords.{tells}

-- the numbers of all variants but the tick's, from number k on
abbrev others : ℕ → List (List RattleType) → List ℕ
others k [] = []
others k (v ∷ vs) = cond (eqb k (tag_of the_type call.Tick)) (others (suc k) vs) (k ∷ others (suc k) vs)

module _ (ts : List Task) (r : Rest) (k : TaskNo) (c : Call) where
  -- a table at which k calls
  abbrev called : Table
  called = record { tasks = ts; queue = k ∷ []; ready = 1; levels = 0; rest = r }

  untold : c ≢ call.Tick → (sheet ts r k c).tick ≡ false
  untold n = go (sheet ts r k c).tick refl
    where
      go : (b : Bool) → (sheet ts r k c).tick ≡ b → b ≡ false
      go true e = absurd (n ((tells called c).tick e))
      go false e = refl

  pub no-tick : OneOf (others 0 (variants the_type)) (tag_of the_type c) → (sheet ts r k c).tick ≡ false
  no-tick o = untold (λ e. miss (others 0 (variants the_type)) 9 tt (subst (λ (x : Call). OneOf (others 0 (variants the_type)) (tag_of the_type x)) e o))
