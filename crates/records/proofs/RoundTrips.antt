-- The round trips: writing a call and reading it gives the same call, and reading a record and writing it gives the
-- same bytes.
use Prim.Native.Nat.{ℕ, suc}
use mathlib.Core.Path.{◌≡◌, refl, sym, ap, ◌∙◌}
use mathlib.Core.Bool.{Bool, true, false, cond}
use mathlib.Core.List.{List, [], ◌∷◌}
use mathlib.Core.Logic.{◌⊎◌, inl, inr, ⊎_elim}
use native.Mathlib.Omega.{arith}
use lib.ListN.{length, get_or}
use lib.Dec.{eqb}
use borrow.Author.Tests.{eqb-true}
use Rattle.records.specs.Numbers.{Bytes, part, total, lay, cut}
use Rattle.records.specs.Kinds.{Row, table, kind_among, byte_of, body_of, length_of, kind_of}
use Rattle.records.specs.Calls.{got_of}
use Rattle.records.specs.Reading.{first_kind, read_of, read_as}
use Rattle.records.specs.Writing.{bytes_of, put_of, put_out_of, written_of, out_of}
use Rattle.records.specs.Trips.{again_of, again_out_of}
use Rattle.records.specs.declared.Kind.{Kind}
use Rattle.records.specs.declared.Kind.TheVariants as kind
use Rattle.records.specs.declared.Call.{Call}
use Rattle.records.specs.declared.Call.TheVariants as call
use Rattle.records.specs.declared.Refusal.{Refusal}
use Rattle.records.specs.declared.Refusal.TheVariants as refusal
use Rattle.records.specs.Refusals.{Got}
use Rattle.records.proofs.Numbers.{number-back, part-drop, lay-cut}
use Rattle.records.proofs.reading.Laws.{decide, read-cases}
use Rattle.std.specs.Prelude.{Ok, Err}

-- writing a call and reading it gives the same call
pub write_read : (c : Call) → read_of (bytes_of c) ≡ Ok c
unfolding read_of read_as kind_of
write_read call.Terminate = refl
write_read (call.Restart p n) = refl
write_read (call.Pause u n) = refl
write_read (call.CancelPause t) = refl
write_read (call.StartIfDormant o t) = refl
write_read (call.StartOrQueue o t a) = ap (λ n. Ok (call.StartOrQueue o t n)) (number-back 1 a)
write_read (call.Flag o f) = refl
write_read (call.Wait m x) = ap (λ n. Ok (call.Wait m n)) (number-back 3 x)
write_read (call.Alarm u n f) = refl
write_read call.Tick = refl
write_read (call.Granule g) = refl
write_read (call.Task p m) = refl
write_read call.End = refl
write_read (call.Enter m) = refl
write_read (call.Exit m) = refl
write_read (call.Send t x) = ap (λ n. Ok (call.Send t (record { 0 = n }))) (number-back 7 x.0)
write_read (call.Receive t) = refl

-- each row's first byte is the one that its kind is looked up with
abbrev agrees : List Row → Bool
agrees [] = true
agrees (r ∷ rs) = cond (eqb (byte_of r.name) r.byte) (agrees rs) false

-- a kind that was found has the byte that was looked for
found : (b : ℕ) (rs : List Row) → agrees rs ≡ true → (kind_among rs b ≡ kind.Unknown) ⊎ (byte_of (kind_among rs b) ≡ b)
found b [] a = inl refl
found b (r ∷ rs) a =
    decide (eqb (byte_of r.name) r.byte)
    (λ t.
    decide (eqb b r.byte)
    (λ u. inr (rw u (eqb-true (byte_of r.name) r.byte t ∙ sym (eqb-true b r.byte u))))
    (λ u. rw u (found b rs (rw t at a))))
    (λ f. let z : false ≡ true = rw f at a in let y : ◌≡◌ {A = ℕ} 0 1 = cc in absurd (omega arith))

-- a record of its kind's length, cut and laid again
module _ (k : Kind) (s : List ℕ) (b : byte_of k ≡ get_or s 0 0) (n : length s ≡ suc (total (body_of k))) (h : Bytes s) where
  laid : byte_of k ∷ lay (body_of k) (cut (body_of k) 1 s) ≡ s
  laid =
      ap (λ t. byte_of k ∷ t) (lay-cut s h (body_of k) 1)
      ∙ ap (λ x. x ∷ part (total (body_of k)) 1 s) b
      ∙ sym (part-drop s (suc (total (body_of k))) 0 (omega arith))

pub refused : (r : Refusal) (c : Call) → ◌≡◌ {A = Got} (Err r) (Ok c) → ⊥
refused r c e = let z : ◌≡◌ {A = ℕ} 0 1 = cc in omega arith

pub same : {c d : Call} → ◌≡◌ {A = Got} (Ok c) (Ok d) → d ≡ c
same e = cc

whole : (k : Kind) (s : List ℕ) (c : Call) → byte_of k ≡ get_or s 0 0 → length s ≡ length_of k → Bytes s
    → got_of k (cut (body_of k) 1 s) ≡ Ok c → bytes_of c ≡ s
whole kind.Unknown s c b n h e = absurd (refused refusal.UnknownKind c e)
whole kind.Terminate s c b n h e = ap bytes_of (same e) ∙ laid kind.Terminate s b n h
whole kind.Restart s c b n h e = ap bytes_of (same e) ∙ laid kind.Restart s b n h
whole kind.Pause s c b n h e = ap bytes_of (same e) ∙ laid kind.Pause s b n h
whole kind.CancelPause s c b n h e = ap bytes_of (same e) ∙ laid kind.CancelPause s b n h
whole kind.StartIfDormant s c b n h e = ap bytes_of (same e) ∙ laid kind.StartIfDormant s b n h
whole kind.StartOrQueue s c b n h e = ap bytes_of (same e) ∙ laid kind.StartOrQueue s b n h
whole kind.Flag s c b n h e = ap bytes_of (same e) ∙ laid kind.Flag s b n h
whole kind.Wait s c b n h e = ap bytes_of (same e) ∙ laid kind.Wait s b n h
whole kind.Alarm s c b n h e = ap bytes_of (same e) ∙ laid kind.Alarm s b n h
whole kind.Tick s c b n h e = ap bytes_of (same e) ∙ laid kind.Tick s b n h
whole kind.Granule s c b n h e = ap bytes_of (same e) ∙ laid kind.Granule s b n h
whole kind.Task s c b n h e = ap bytes_of (same e) ∙ laid kind.Task s b n h
whole kind.End s c b n h e = ap bytes_of (same e) ∙ laid kind.End s b n h
whole kind.Enter s c b n h e = ap bytes_of (same e) ∙ laid kind.Enter s b n h
whole kind.Exit s c b n h e = ap bytes_of (same e) ∙ laid kind.Exit s b n h
whole kind.Send s c b n h e = ap bytes_of (same e) ∙ laid kind.Send s b n h
whole kind.Receive s c b n h e = ap bytes_of (same e) ∙ laid kind.Receive s b n h

-- reading a record and writing it gives the same bytes
pub read_write : (s : List ℕ) (c : Call) → Bytes s → read_of s ≡ Ok c → bytes_of c ≡ s
unfolding kind_of
read_write s c h e =
    read-cases s
    (λ n r. absurd (refused refusal.WrongLength c (sym r ∙ e)))
    (λ n u r. absurd (refused refusal.UnknownKind c (sym r ∙ e)))
    (λ n m r. absurd (refused refusal.WrongLength c (sym r ∙ e)))
    (λ n k l r z. ⊎_elim (λ u. absurd (k u)) (λ b. whole (first_kind s) s c b l h (sym r ∙ e)) (found (get_or s 0 0) table refl))

-- reading and writing again: what the writer says of the call that was read is said of the bytes themselves
module _ (s o : List ℕ) where
  module _ (c : Call) (h : Bytes s) (e : read_of s ≡ Ok c) where
    pub again-call : written_of c o ≡ again_of s o
    unfolding written_of again_of
    again-call = ap (λ b. put_of b o) (read_write s c h e) ∙ rw e

    pub again-out : out_of c o ≡ again_out_of s o
    unfolding out_of again_out_of
    again-out = ap (λ b. put_out_of b o) (read_write s c h e) ∙ rw e

  module _ (r : Refusal) (e : read_of s ≡ Err r) where
    pub again-refused : Err r ≡ again_of s o
    unfolding again_of
    again-refused = rw e

    pub again_kept : o ≡ again_out_of s o
    unfolding again_out_of
    again_kept = rw e
