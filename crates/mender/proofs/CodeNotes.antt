-- The list of notes as the code's turns take it, and how many messages a round leaves.
use Prim.Native.Nat.{ℕ, suc, ◌+◌, ◌≤◌, ◌<◌}
use mathlib.Core.Path.{◌≡◌, refl, sym, ap, ◌∙◌}
use mathlib.Core.Bool.{Bool, true, false, cond}
use mathlib.Core.List.{List, [], ◌∷◌, ◌++◌}
use native.Mathlib.Omega.{arith}
use native.Mathlib.Numerals.{add-one}
use lib.Dec.{eqb}
use lib.ListN.{length, take, set, length-append}
use Rattle.records.specs.declared.TaskNo.{TaskNo}
use Rattle.executive.specs.declared.Task.{Task}
use Rattle.executive.specs.declared.Table.{Table}
use Rattle.executive.specs.Numbers.{most_tasks}
use Rattle.executive.specs.Lists.{pad}
use Rattle.executive.specs.Check.{message_in_range}
use Rattle.executive.proofs.Assured.{line-pad, pad-more}
use Rattle.mender.specs.declared.Note.{Note}
use Rattle.mender.specs.declared.filled.Filled.{Filled}
use Rattle.mender.specs.Passes.{own_pass, queued_pass, link_pass, held_pass, waiter_pass}
use Rattle.mender.specs.Rounds.{settled}
use Rattle.mender.specs.Listing.{no_note, note_of, noted_of, noted_with, note_at, note_turn}
use Rattle.mender.proofs.Filters.{that_length}

-- the notes that stand in a list
abbrev pub standing : Filled Note most_tasks → List Note
standing l = take l.taken l.places

-- one more note
note-more : (k : TaskNo) (x : ℕ) (ns : List Note) → length ns < 16
    → noted_with k x (noted_of ns) ≡ noted_of (cond (eqb x 0) ns (ns ++ (note_of k x ∷ [])))
note-more k x ns h = go (eqb x 0)
  where
    go : (b : Bool) → cond b (noted_of ns) (record { places = set (pad 16 no_note ns) (length ns) (note_of k x); taken = length ns + 1 })
        ≡ noted_of (cond b ns (ns ++ (note_of k x ∷ [])))
    go true = refl
    go false =
        let n : length ns + 1 ≡ length (ns ++ (note_of k x ∷ [])) = sym (length-append ns (note_of k x ∷ [])) in
        λ j. record { places = pad-more no_note 16 ns (note_of k x) h j; taken = n j }

few-more : (b : Bool) (ns : List Note) (x : Note) → length (cond b ns (ns ++ (x ∷ []))) ≤ suc (length ns)
few-more true ns x = omega arith
few-more false ns x = simp length-append (omega arith)

-- the list after the turn at place i
module _ (n : ℕ) (bs : List ℕ) (ts us : List Task) where
  pub notes_on : (l r : Filled Note most_tasks) (i x : ℕ) → l ≡ noted_of (standing l) → l.taken ≤ i → i < 16 → x ≡ note_at n bs ts us i
      → r ≡ noted_with (record { 0 = i + 1 }) x l
      → (r ≡ noted_of (standing r)) × (r.taken ≤ i + 1) × (standing r ≡ note_turn n bs ts us (standing l) i)
  unfolding note_turn
  notes_on l r i x f c h ex er =
      let ns : List Note = standing l in
      let q : length (standing l) ≡ l.taken = sym (ap (λ (y : Filled Note most_tasks). y.taken) f) in
      let y : ℕ = note_at n bs ts us i in
      let z : List Note = cond (eqb y 0) ns (ns ++ (note_of (record { 0 = suc i }) y ∷ [])) in
      let e : r ≡ noted_of z =
      er ∙ ap (noted_with (record { 0 = i + 1 }) x) f ∙ ap (λ (w : ℕ). noted_with (record { 0 = i + 1 }) w (noted_of ns)) ex
      ∙ ap (λ (k : ℕ). noted_with (record { 0 = k }) y (noted_of ns)) (add-one i) ∙ note-more (record { 0 = suc i }) y ns (omega arith) in
      let s : standing r ≡ z = ap standing e ∙ line-pad no_note most_tasks z in
      let m : r.taken ≡ length z = ap (λ (y : Filled Note most_tasks). y.taken) e in
      (e ∙ ap noted_of (sym s), omega (arith, few-more (eqb y 0) ns (note_of (record { 0 = suc i }) y), m, q), s)

-- the messages that the passes leave
pub few-sent : (bs : List ℕ) (t : Table) → length t.rest.messages ≡ 32 → (settled (link_pass (queued_pass (own_pass bs t)))).rest.sent ≤ 32
unfolding settled link_pass queued_pass own_pass held_pass waiter_pass
few-sent bs t l = omega (arith, that_length (message_in_range t.rest.count) t.rest.messages)
