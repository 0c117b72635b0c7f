-- The subprograms' rule is kept by every plan that has nothing to do with them: it leaves them as they are, nobody
-- enters who waited for one or departs to wait for one, and whoever becomes dormant holds none.
use mathlib.Core.Path.{◌≡◌, refl, sym, ap}
use mathlib.Core.Bool.{Bool, true, false, not, cond, ◌&&◌}
use mathlib.Core.List.{List, [], ◌∷◌}
use Prim.Native.Nat.{ℕ, zero, suc, ◌+◌, ◌<◌}
use native.Mathlib.Omega.{arith}
use borrow.Author.Tests.{eqb-true, eqb-false}
use lib.Dec.{eqb}
use lib.ListN.{length, get_or, set}
use lib.Seq.{get_or-set_same, get_or-set_other}
use Rattle.records.specs.declared.TaskNo.{TaskNo}
use Rattle.executive.specs.declared.State.{State}
use Rattle.executive.specs.declared.Task.{Task}
use Rattle.executive.specs.declared.Sub.{Sub}
use Rattle.executive.specs.Lists.{one, all_of}
use Rattle.executive.specs.Places.{Names, task_at, put_at}
use Rattle.executive.specs.Table.{Join, change-at}
use Rattle.executive.specs.Subprograms.{no_subprogram, line_of, holds?, holds_any_of}
use Rattle.executive.specs.States.{dormant, ready, await_sub, awaited_of, is_of, is, is_dormant, waits_for}
use Rattle.executive.proofs.Lists.Tests.{not-zero, eqb_no, false_not_true}
use Rattle.executive.proofs.Plans.WorkingForm.{SubOk, SubsOk}
use Rattle.executive.proofs.Plans.QueueKept.{not-both, line_else}
use Rattle.executive.proofs.Plans.LinksKept.{put_all}
use Rattle.executive.proofs.Plans.GoodIsKept.{puts, JoinsAll}

-- ---- who waits for one waits for no other; who waits for none does not wait for m
pub waits-none : (m : ℕ) (s : State) → is await_sub s ≡ 0 → one (waits_for m s) ≡ 0
waits-none m s z = go (is_of await_sub s) z
  where
    go : (b : Bool) → one b ≡ 0 → one (b && eqb m (awaited_of s)) ≡ 0
    go true z = absurd (omega arith)
    go false z = refl

pub waits-some : (m : ℕ) (s : State) → one (waits_for m s) ≡ 1 → is await_sub s ≡ 1
waits-some m s z = go (is_of await_sub s) z
  where
    go : (b : Bool) → one (b && eqb m (awaited_of s)) ≡ 1 → one b ≡ 1
    go true z = refl
    go false z = absurd (omega arith)

pub waits-other : (m n : ℕ) (s : State) → eqb n m ≡ false → one (waits_for m s) ≡ 1 → one (waits_for n s) ≡ 0
waits-other m n s d z = go (is_of await_sub s) (eqb m (awaited_of s)) refl (eqb n (awaited_of s)) refl z
  where
    go : (a b : Bool) → eqb m (awaited_of s) ≡ b → (c : Bool) → eqb n (awaited_of s) ≡ c → one (a && b) ≡ 1 → one (a && c) ≡ 0
    go false b x c y z = refl
    go true false x c y z = absurd (omega arith)
    go true true x true y z = absurd (omega (arith, eqb-false n m d, eqb-true m (awaited_of s) x, eqb-true n (awaited_of s) y))
    go true true x false y z = refl

-- ---- task j holds none of them
abbrev pub HoldsNone : ℕ → List Sub → Type 0
HoldsNone j ss = (m : ℕ) → eqb j (get_or ss m no_subprogram).holder.0 ≡ false

none-held : (c : TaskNo) (ss : List Sub) → 0 < c.0 → all_of (λ (s : Sub). not (holds? c s)) ss ≡ true → HoldsNone c.0 ss
unfolding all_of
none-held c [] h e m = not-zero c.0 h
none-held c (s ∷ ss) h e m = go (eqb c.0 s.holder.0) refl e (none-held c ss h) m
  where
    go : (b : Bool) → eqb c.0 s.holder.0 ≡ b → cond (not b) (all_of (λ (s : Sub). not (holds? c s)) ss) false ≡ true
        → (all_of (λ (s : Sub). not (holds? c s)) ss ≡ true → HoldsNone c.0 ss) → HoldsNone c.0 (s ∷ ss)
    go true f e ih m = false_not_true e
    go false f e ih zero = f
    go false f e ih (suc m) = ih e m

pub holds-none : (c : TaskNo) (ss : List Sub) → 0 < c.0 → holds_any_of c ss ≡ false → HoldsNone c.0 ss
unfolding holds_any_of
holds-none c ss h e = none-held c ss h (go (all_of (λ (s : Sub). not (holds? c s)) ss) e)
  where
    go : (b : Bool) → not b ≡ false → b ≡ true
    go true e = refl
    go false e = false_not_true (sym e)

-- ---- a store of a task that does not wait for subprogram m, before or after
pub sub_put : (ts : List Task) (j : ℕ) (e : Task) (m : ℕ) (s : Sub) → Names j ts → one (waits_for m (task_at ts j).state) ≡ 0 → one (waits_for m e.state) ≡ 0
    → (is dormant e.state ≡ 1 → eqb j s.holder.0 ≡ false) → SubOk ts m s → SubOk (put_at ts j e) m s
sub_put ts j e m s n a b c o = record {
  neat = o.neat;
  busy = λ h. put_all (λ (k : ℕ) (x : Task). s.holder.0 ≡ k → is dormant x.state ≡ 0) ts j e n own s.holder.0 (λ _ _. o.busy h) refl;
  free = o.free;
  waiters = line_else (waits_for m) ts j e (line_of s) o.waiters n a b;
}
  where
    own : s.holder.0 ≡ j → is dormant e.state ≡ 0
    own f = go (is_dormant e.state) refl
      where
        go : (x : Bool) → is_dormant e.state ≡ x → one x ≡ 0
        go true g = absurd (eqb_no j s.holder.0 (c (ap one g)) (sym f))
        go false g = refl

pub subs_put : {ss : List Sub} (ts : List Task) (j : ℕ) (e : Task) → Names j ts → is await_sub (task_at ts j).state ≡ 0 → is await_sub e.state ≡ 0
    → (is dormant e.state ≡ 1 → HoldsNone j ss) → SubsOk ts ss → SubsOk (put_at ts j e) ss
subs_put {ss} ts j e n a b c o = record {
  sized = o.sized;
  each = λ m. sub_put ts j e m (get_or ss m no_subprogram) n (waits-none m (task_at ts j).state a) (waits-none m e.state b) (λ z. c z m) (o.each m);
}

-- ---- those who enter did not wait for a subprogram
pub record JoinsElse (j : Join) (ts : List Task) : Type 0 where
  pub names : Names j.who.0 ts
  pub before : is ready (task_at ts j.who.0).state + is await_sub (task_at ts j.who.0).state ≡ 0
  pub after : is ready (j.change (task_at ts j.who.0)).state ≡ 1

abbrev pub AllElse : List Join → List Task → Type 0
AllElse [] ts = Unit {0}
AllElse (j ∷ js) ts = JoinsElse j ts × AllElse js (change-at ts j.who.0 j.change)

pub joined : (js : List Join) (ts : List Task) → AllElse js ts → JoinsAll js ts
joined [] ts h = tt
joined (j ∷ js) ts h =
    (record { names = h.0.names; before = omega (arith, h.0.before); after = h.0.after }, joined js (change-at ts j.who.0 j.change) h.1)

pub subs_else : {ss : List Sub} (js : List Join) (ts : List Task) → AllElse js ts → SubsOk ts ss → SubsOk (puts js ts) ss
unfolding puts
subs_else [] ts h o = o
subs_else (j ∷ js) ts h o =
    let e : Task = j.change (task_at ts j.who.0) in
    let x = not-both e.state in
    subs_else js (put_at ts j.who.0 e) h.1
    (subs_put ts j.who.0 e h.0.names (omega (arith, h.0.before)) (omega (arith, x, h.0.after)) (λ z. absurd (omega (arith, x, h.0.after))) o)

-- ---- a fact of each after one is set
pub sub-set : (P : ℕ → Sub → Type 0) (ss : List Sub) (m : ℕ) (s : Sub) → m < length ss → P m s → ((k : ℕ) → eqb k m ≡ false → P k (get_or ss k no_subprogram))
    → (k : ℕ) → P k (get_or (set ss m s) k no_subprogram)
sub-set P ss m s h x y k = go (eqb k m) refl
  where
    go : (b : Bool) → eqb k m ≡ b → P k (get_or (set ss m s) k no_subprogram)
    go true f = rw (eqb-true k m f, get_or-set_same ss m s no_subprogram h) x
    go false f = rw (get_or-set_other ss m k s no_subprogram (eqb_no k m f)) (y k f)
