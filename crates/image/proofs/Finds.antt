-- The searches on the bytes of an image: what is read at each place, and the laws of the walks.
use Prim.Native.Nat.{ℕ, zero, suc, ◌+◌, ◌*◌, ◌≤◌, ◌<◌}
use mathlib.Core.Path.{◌≡◌, refl, sym, ap, ◌∙◌}
use mathlib.Core.Bool.{Bool, true, false, not}
use mathlib.Core.List.{List, [], ◌∷◌}
use native.Mathlib.Omega.{arith}
use native.Mathlib.Numerals.{add-one}
use borrow.Author.Tests.{eq-eqb, ne_eqb, eqb-true, eqb-false}
use lib.Dec.{eqb}
use lib.ListN.{length, get_or, take, drop}
use lib.Seq.{length-take-le, get_or-take}
use Rattle.std.proofs.Common.{None, Some}
use Rattle.std.specs.declared.option.Option.{Option}
use Rattle.std.specs.Bool.{MatchBool}
use Rattle.std.specs.Option.{unwrap_or}
use Rattle.records.specs.declared.TaskNo.{TaskNo}
use Rattle.executive.specs.declared.Request.{Request}
use Rattle.executive.specs.declared.Sub.{Sub}
use Rattle.executive.specs.declared.Message.{Message}
use Rattle.executive.specs.declared.Table.{Table}
use Rattle.executive.specs.Lists.{next_of, all_of}
use Rattle.executive.specs.Places.{nobody, no_request}
use Rattle.executive.specs.Pool.{place_of}
use Rattle.executive.specs.Table.{head_of}
use Rattle.executive.specs.Subprograms.{no_subprogram, sub_at, line_of, holds?, holds_any_of}
use Rattle.executive.specs.Messages.{no_message, fits}
use Rattle.executive.proofs.Assured.{next-hit, next-pass, next-end, head-taken}
use Rattle.image.specs.Laid.{Laid, LineAt}
use Rattle.image.proofs.Alike.{decide, never}
use Rattle.image.proofs.Beheld.{each-get, each_make}
use Rattle.image.proofs.Parts.{read-laid}
use Rattle.image.proofs.Ranges.{First}
use Rattle.image.proofs.RestLaid.{sub_read}
use Rattle.image.proofs.LoadLaid.{request_read, message_read, sub-line}

-- ---- what is read
module _ {s : List ℕ} (t : Table) (l : Laid s t) where
  pub count-read : get_or s 433 0 ≡ t.rest.count
  count-read = read-laid 2 t l 1 (omega arith) (omega arith)

  -- the first request's target, a message's addressee, sender and priority
  pub target-read : (i : ℕ) → i < 32 → get_or s (704 + i * 6) 0 ≡ (get_or t.rest.pool i no_request).target.0
  target-read i h = ap (λ (q : Request). q.target.0) (request_read t l i h)

  pub addressee-read : (i : ℕ) → i < 32 → get_or s (1058 + i * 11) 0 ≡ (get_or t.rest.messages i no_message).to.0
  addressee-read i h = ap (λ (m : Message). m.to.0) (message_read t l i h)

  pub sender-read : (i : ℕ) → i < 32 → get_or s (1058 + i * 11 + 1) 0 ≡ (get_or t.rest.messages i no_message).sender.0
  sender-read i h = ap (λ (m : Message). m.sender.0) (message_read t l i h)

  pub urgency-read : (i : ℕ) → i < 32 → get_or s (1058 + i * 11 + 2) 0 ≡ (get_or t.rest.messages i no_message).priority
  urgency-read i h =
      let z : 1058 + i * 11 + 2 ≡ 1058 + i * 11 + 1 + 1 = omega arith in
      ap (λ k. get_or s k 0) z ∙ ap (λ (m : Message). m.priority) (message_read t l i h)

  -- of subprogram m its holder, how many wait, its line
  pub holder-read : (m : ℕ) → m < 8 → get_or s (914 + m * 18) 0 ≡ (sub_at t.rest m).holder.0
  holder-read m h = let z : 914 + m * 18 ≡ 914 + m * 18 + 0 = omega arith in ap (λ k. get_or s k 0) z ∙ sub_read t l m 0 h (omega arith)

  pub waiting-read : (m : ℕ) → m < 8 → get_or s (914 + m * 18 + 1) 0 ≡ (sub_at t.rest m).waiting
  waiting-read m h = sub_read t l m 1 h (omega arith)

  pub sub-line-at : (m : ℕ) → m < 8 → LineAt s (914 + m * 18 + 2) (sub_at t.rest m).line
  sub-line-at m h = record { size = l.sizes.lines m; places = λ i g. sub-line t l m i h g }

  -- the first of its line, nobody where none waits
  pub first-nobody : (m : ℕ) → m < 8 → get_or s (914 + m * 18 + 1) 0 ≡ 0 → nobody ≡ head_of (line_of (sub_at t.rest m))
  first-nobody m h z = ap (λ n. head_of (take n (sub_at t.rest m).line)) (sym z ∙ waiting-read m h)

  pub first-waits : (m : ℕ) → m < 8 → (get_or s (914 + m * 18 + 1) 0 ≡ 0 → ⊥) → record { 0 = get_or s (914 + m * 18 + 2) 0 } ≡ head_of (line_of (sub_at t.rest m))
  first-waits m h z =
      let e = waiting-read m h in
      let y : 914 + m * 18 + 2 ≡ 914 + m * 18 + 2 + 0 = omega arith in
      let g : 0 < (sub_at t.rest m).waiting = omega (arith, z, e) in
      let f : get_or s (914 + m * 18 + 2) 0 ≡ (get_or (sub_at t.rest m).line 0 nobody).0 = ap (λ k. get_or s k 0) y ∙ sub-line t l m 0 h (omega arith) in
      (λ j. record { 0 = f j }) ∙ head-taken nobody (sub_at t.rest m).waiting (sub_at t.rest m).line g (l.sizes.lines m)

-- ---- the first request for task k: its place among those of a list
module _ (k : ℕ) where
  place-here : (p : List Request) (i : ℕ) → i < length p → k ≡ (get_or p i no_request).target.0 → ((j : ℕ) → j < i → k ≡ (get_or p j no_request).target.0 → ⊥) → place_of k p ≡ i
  unfolding place_of
  place-here [] i h e f = absurd (omega arith)
  place-here (q ∷ p) zero h e f = rw (eq-eqb k q.target.0 e) refl
  place-here (q ∷ p) (suc i) h e f = rw (ne_eqb k q.target.0 (f 0 (omega arith))) (ap suc (place-here p i (omega arith) e (λ j g. f (suc j) (omega arith))))

  place-none : (p : List Request) → ((j : ℕ) → j < length p → k ≡ (get_or p j no_request).target.0 → ⊥) → place_of k p ≡ length p
  unfolding place_of
  place-none [] f = refl
  place-none (q ∷ p) f = rw (ne_eqb k q.target.0 (f 0 (omega arith))) (ap suc (place-none p (λ j g. f (suc j) (omega arith))))

  -- among the first n; x reads each target
  pub first-place : (p : List Request) (n : ℕ) → n ≤ length p → (x : ℕ → ℕ) → ((i : ℕ) → i < n → x i ≡ (get_or p i no_request).target.0)
      → (r : Option ℕ) → First (λ i. eqb k (x i)) n r → place_of k (take n p) ≡ unwrap_or r n
  first-place p n h x read r m =
      let l : length (take n p) ≡ n = length-take-le n p h in
      let at : (j : ℕ) → j < n → x j ≡ (get_or (take n p) j no_request).target.0 = λ j b. read j b ∙ sym (ap (λ (q : Request). q.target.0) (get_or-take n p j no_request b)) in
      let other : (j : ℕ) → j < n → eqb k (x j) ≡ false → k ≡ (get_or (take n p) j no_request).target.0 → ⊥ = λ j b z e. eqb-false k (x j) z (e ∙ sym (at j b)) in
      go r m l at other
    where
      go : (r : Option ℕ) → First (λ i. eqb k (x i)) n r → length (take n p) ≡ n → ((j : ℕ) → j < n → x j ≡ (get_or (take n p) j no_request).target.0)
          → ((j : ℕ) → j < n → eqb k (x j) ≡ false → k ≡ (get_or (take n p) j no_request).target.0 → ⊥) → place_of k (take n p) ≡ unwrap_or r n
      go None m l at other = place-none (take n p) (λ j g. let b : j < n = omega arith in other j b (m j b)) ∙ l
      go (Some i) m l at other =
          place-here (take n p) i (omega (arith, m.0)) (eqb-true k (x i) m.1 ∙ at i m.0) (λ j g. other j (omega (arith, m.0)) (m.2 j g))

-- ---- the first that passes a test, of n
module _ {A : Type 0} (t : A → Bool) (d : A) (p : List A) (n : ℕ) (hn : n ≤ length p) (i : ℕ) (e : next_of t i (drop i (take n p)) ≡ next_of t 0 (take n p)) where
  pub fit-hit : i < n → t (get_or p i d) ≡ true → i ≡ next_of t 0 (take n p)
  fit-hit h f = sym (next-hit t d (take n p) i i (rw (length-take-le n p hn) h) (rw (get_or-take n p i d h) f)) ∙ e

  pub fit-pass : i < n → t (get_or p i d) ≡ false → next_of t (i + 1) (drop (i + 1) (take n p)) ≡ next_of t 0 (take n p)
  fit-pass h f = rw add-one (sym (next-pass t d (take n p) i i (rw (length-take-le n p hn) h) (rw (get_or-take n p i d h) f)) ∙ e)

  pub fit-end : n ≤ i → i ≡ next_of t 0 (take n p)
  fit-end h = sym (next-end t d (take n p) i i (rw (length-take-le n p hn) h)) ∙ e

-- whether a message fits, by its addressee a and its sender b
module _ (k s a b : ℕ) (m : Message) (ea : a ≡ m.to.0) (eb : b ≡ m.sender.0) where
  pub fits-other : (k ≡ a → ⊥) → false ≡ fits k s m
  fits-other h = rw (← ea, ne_eqb k a h) refl

  pub fits-any : k ≡ a → s ≡ 0 → true ≡ fits k s m
  fits-any h z = rw (← ea, eq-eqb k a h, z) refl

  pub fits-from : (r : Bool) → k ≡ a → (s ≡ 0 → ⊥) → r ≡ eqb s b → r ≡ fits k s m
  fits-from r h z e = rw (← ea, ← eb, eq-eqb k a h, ne_eqb s 0 z) e

-- ---- whether task k holds any; x reads each holder
pub held-any : (k : TaskNo) (ss : List Sub) (x : ℕ → ℕ) → ((i : ℕ) → i < length ss → x i ≡ (get_or ss i no_subprogram).holder.0) → (r : Bool)
    → MatchBool r ((i : ℕ) × (i < length ss) × (eqb k.0 (x i) ≡ true)) ((i : ℕ) → i < length ss → eqb k.0 (x i) ≡ false)
    → r ≡ holds_any_of k ss
unfolding holds_any_of
held-any k ss x read true (i, h, e) =
    let f : Sub → Bool = λ y. not (holds? k y) in
    let z : f (get_or ss i no_subprogram) ≡ false = ap not (ap (eqb k.0) (sym (read i h)) ∙ e) in
    ap not (sym (decide (all_of f ss) (λ g. absurd (never (sym z ∙ each-get f no_subprogram ss g i h))) (λ g. g)))
held-any k ss x read false m =
    ap not (sym (each_make (λ (y : Sub). not (holds? k y)) no_subprogram ss (λ i h. ap not (ap (eqb k.0) (sym (read i h)) ∙ m i h))))
