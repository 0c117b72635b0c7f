-- One step entered in the book: what it adds, and that the account is kept.
use mathlib.Core.Path.{◌≡◌, refl, sym, ap, ◌∙◌}
use mathlib.Core.Bool.{Bool, true, false, cond}
use mathlib.Core.List.{List, [], ◌∷◌, ◌++◌, append_assoc, append-nil}
use Prim.Native.Nat.{ℕ, suc, ◌+◌, ◌≤◌}
use native.Mathlib.Omega.{arith}
use borrow.Author.Tests.{eqb-true, ne_eqb}
use lib.Dec.{eqb}
use lib.ListN.{length, get_or, length-append}
use Rattle.executive.specs.declared.Request.{Request}
use Rattle.executive.specs.declared.Table.{Table}
use Rattle.executive.specs.Lists.{one}
use Rattle.executive.specs.Places.{no_request}
use Rattle.executive.specs.Pool.{requests, place_of}
use Rattle.executive.specs.WellFormed.{targets_of}
use Rattle.executive.specs.Promises.EveryStart.{Asked, entry, Book, Turn, other, starts, waits, ends, first_for, without_first, written, Same, Agrees, times, all_for, Begun, AllBegun}
use Rattle.executive.proofs.Book.Lists.{all_append, times-append, first-order, first-times, first-length, agrees-more, agrees-less, agrees_first, agrees-none, FirstIs}
use Rattle.executive.proofs.Book.Step.{Does}

-- ---- what step i adds to those asked for and to those begun
abbrev pub new_asked : ℕ → Turn → List Asked
new_asked i other = []
new_asked i (starts r) = entry i r ∷ []
new_asked i (waits r) = entry i r ∷ []
new_asked i (ends k) = []

abbrev pub new_begun : ℕ → Turn → Book → List Asked
new_begun i other b = []
new_begun i (starts r) b = entry i r ∷ []
new_begun i (waits r) b = []
new_begun i (ends k) b = first_for k b.waiting

pub adds-asked : (i : ℕ) (x : Turn) (b : Book) → (written i x b).asked ≡ b.asked ++ new_asked i x
unfolding written
adds-asked i other b = sym (append-nil b.asked)
adds-asked i (starts r) b = refl
adds-asked i (waits r) b = refl
adds-asked i (ends k) b = sym (append-nil b.asked)

pub adds-begun : (i : ℕ) (x : Turn) (b : Book) → (written i x b).begun ≡ b.begun ++ new_begun i x b
unfolding written
adds-begun i other b = sym (append-nil b.begun)
adds-begun i (starts r) b = refl
adds-begun i (waits r) b = sym (append-nil b.begun)
adds-begun i (ends k) b = refl

-- ---- what it adds to those begun is one at most, and runs
first-few : (k : ℕ) (es : List Asked) → length (first_for k es) ≤ 1
unfolding first_for
first-few k [] = omega arith
first-few k (e ∷ es) = go (eqb k e.target) (first-few k es)
  where
    go : (b : Bool) → length (first_for k es) ≤ 1 → length (cond b (e ∷ []) (first_for k es)) ≤ 1
    go true ih = omega arith
    go false ih = ih

pub adds-few : (i : ℕ) (x : Turn) (b : Book) → length (new_begun i x b) ≤ 1
adds-few i other b = omega arith
adds-few i (starts r) b = omega arith
adds-few i (waits r) b = omega arith
adds-few i (ends k) b = first-few k b.waiting

begun-same : (u : Table) (e : Asked) (r : Request) → Same e r → Begun u (entry 0 r) → Begun u e
begun-same u e r s x =
    let a : e.target ≡ r.target.0 = s.target in
    record {
      ready = rw a x.ready;
      priority = rw a x.priority ∙ sym s.priority;
      argument = rw a x.argument ∙ sym s.argument;
      start = rw a x.start;
    }

pub adds-runs : (i : ℕ) (x : Turn) (b : Book) (rs : List Request) (u : Table) → Does rs u x → Agrees b.waiting rs → AllBegun u (new_begun i x b)
adds-runs i other b rs u d a = tt
adds-runs i (starts r) b rs u d a = (begun-same u (entry i r) r (record { target = refl; priority = refl; argument = refl }) d.run, tt)
adds-runs i (waits r) b rs u d a = tt
adds-runs i (ends k) b rs u d a = go (first_for k b.waiting) (agrees_first k b.waiting rs a)
  where
    go : (es : List Asked) → FirstIs es (place_of k rs) rs → AllBegun u es
    go [] f = tt
    go (e ∷ es) f = rw f.0 (begun-same u e (get_or rs (place_of k rs) no_request) f.2 (d.run f.1), tt)

-- ---- the account, with i the number of the next step and the pool rs
pub record GoodOutcome (w : List Asked) (i : ℕ) (b : Book) (rs : List Request) : Type 0 where
  pub pool : Agrees b.waiting rs
  pub once : (j : ℕ) → times j b.begun + times j b.waiting ≡ times j w + times j b.asked
  pub single : (j : ℕ) → times j b.asked ≤ 1
  pub later : (j : ℕ) → i ≤ j → times j b.asked ≡ 0
  pub order : (k : ℕ) → all_for k w ++ all_for k b.asked ≡ all_for k b.begun ++ all_for k b.waiting
  pub number : length w + length b.asked ≡ length b.waiting + length b.begun

-- one more is asked for, at step i
module _ (i : ℕ) (r : Request) (es : List Asked) (single : (j : ℕ) → times j es ≤ 1) (later : (j : ℕ) → i ≤ j → times j es ≡ 0) where
  once_more : (j : ℕ) → times j (es ++ (entry i r ∷ [])) ≡ times j es + one (eqb j i)
  unfolding times
  once_more j = omega (arith, times-append j es (entry i r ∷ []))

  single_more : (j : ℕ) → times j (es ++ (entry i r ∷ [])) ≤ 1
  single_more j = go (eqb j i) refl
    where
      go : (b : Bool) → eqb j i ≡ b → times j (es ++ (entry i r ∷ [])) ≤ 1
      go true e = omega (arith, once_more j, ap one e, later j (omega (arith, eqb-true j i e)))
      go false e = omega (arith, once_more j, ap one e, single j)

  later_more : (j : ℕ) → suc i ≤ j → times j (es ++ (entry i r ∷ [])) ≡ 0
  later_more j h = omega (arith, once_more j, ap one (ne_eqb j i (λ e. omega arith)), later j (omega arith))

-- lists put together another way
module _ {A : Type 0} (w a b x v : List A) (e : w ++ a ≡ b ++ v) where
  at-ends : w ++ (a ++ x) ≡ b ++ (v ++ x)
  at-ends = sym (append_assoc w a x) ∙ ap (λ (l : List A). l ++ x) e ∙ append_assoc b v x

  between : x ++ v ≡ v ++ x → w ++ (a ++ x) ≡ (b ++ x) ++ v
  between s = at-ends ∙ ap (λ (l : List A). b ++ l) (sym s) ∙ sym (append_assoc b x v)

-- an entry beside a list: where it is for task k, the list has none for k
beside : (k : ℕ) (e : Asked) (v : List Asked) → (eqb k e.target ≡ true → v ≡ []) → all_for k (e ∷ []) ++ v ≡ v ++ all_for k (e ∷ [])
unfolding all_for
beside k e v n = go (eqb k e.target) n
  where
    go : (b : Bool) → (b ≡ true → v ≡ []) → cond b (e ∷ []) [] ++ v ≡ v ++ cond b (e ∷ []) []
    go true n = rw (n refl) refl
    go false n = sym (append-nil v)

-- of a start that begins at once none waits for the same task
alone : (k : ℕ) (e : Asked) (es : List Asked) (rs : List Request) → Agrees es rs → targets_of e.target rs ≡ 0
    → all_for k (e ∷ []) ++ all_for k es ≡ all_for k es ++ all_for k (e ∷ [])
alone k e es rs a n = beside k e (all_for k es) (λ z. rw (eqb-true k e.target z) (agrees-none e.target es rs a n))

pub written-kept : (w : List Asked) (i : ℕ) (x : Turn) (b : Book) (rs : List Request) (u : Table) → Does rs u x → GoodOutcome w i b rs
    → GoodOutcome w (suc i) (written i x b) (requests u.rest)
unfolding written
written-kept w i other b rs u d h = record {
  pool = rw d h.pool;
  once = h.once;
  single = h.single;
  later = λ j l. h.later j (omega arith);
  order = h.order;
  number = h.number;
}
written-kept w i (starts r) b rs u d h =
    let e : List Asked = entry i r ∷ [] in
    record {
      pool = rw d.pool h.pool;
      once = λ j. omega (arith, h.once j, times-append j b.asked e, times-append j b.begun e);
      single = single_more i r b.asked h.single h.later;
      later = later_more i r b.asked h.single h.later;
      order = λ k. rw (all_append k b.asked e, all_append k b.begun e)
          (between (all_for k w) _ (all_for k b.begun) _ _ (h.order k) (alone k (entry i r) b.waiting rs h.pool d.none));
      number = omega (arith, h.number, length-append b.asked e, length-append b.begun e);
    }
written-kept w i (waits r) b rs u d h =
    let e : List Asked = entry i r ∷ [] in
    record {
      pool = rw d (agrees-more b.waiting rs (entry i r) r h.pool (record { target = refl; priority = refl; argument = refl }));
      once = λ j. omega (arith, h.once j, times-append j b.asked e, times-append j b.waiting e);
      single = single_more i r b.asked h.single h.later;
      later = later_more i r b.asked h.single h.later;
      order = λ k. rw (all_append k b.asked e, all_append k b.waiting e) (at-ends (all_for k w) _ (all_for k b.begun) _ _ (h.order k));
      number = omega (arith, h.number, length-append b.asked e, length-append b.waiting e);
    }
written-kept w i (ends c) b rs u d h =
    let f : List Asked = first_for c b.waiting in
    let v : List Asked = without_first c b.waiting in
    record {
      pool = rw d.pool (agrees-less c b.waiting rs h.pool);
      once = λ j. omega (arith, h.once j, times-append j b.begun f, first-times j c b.waiting);
      single = h.single;
      later = λ j l. h.later j (omega arith);
      order = λ k. rw (all_append k b.begun f)
          (h.order k ∙ ap (λ (l : List Asked). all_for k b.begun ++ l) (sym (first-order k c b.waiting))
          ∙ sym (append_assoc (all_for k b.begun) (all_for k f) (all_for k v)));
      number = omega (arith, h.number, length-append b.begun f, first-length c b.waiting);
    }
