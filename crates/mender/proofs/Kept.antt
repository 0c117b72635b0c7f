-- What mending keeps: what it does not touch, and the requests and the messages in range.
use Prim.Native.Nat.{ℕ, zero, suc, ◌<◌}
use mathlib.Core.Path.{◌≡◌, refl, sym, ap, ◌∙◌}
use mathlib.Core.Bool.{Bool, true, false, not, cond}
use mathlib.Core.List.{List, [], ◌∷◌, ◌++◌, map, append-nil, append_assoc}
use native.Mathlib.Omega.{arith}
use borrow.Author.Tests.{eqb-true, ne_eqb, ltb-false}
use lib.Dec.{eqb, leb, ltb}
use lib.ListN.{length, take, drop}
use Rattle.executive.specs.declared.Task.{Task}
use Rattle.executive.specs.declared.Request.{Request}
use Rattle.executive.specs.declared.Message.{Message}
use Rattle.executive.specs.declared.Table.{Table}
use Rattle.executive.specs.Numbers.{most_queued, most_sent, highest}
use Rattle.executive.specs.Lists.{pad, ◌and◌, all_of}
use Rattle.executive.specs.Queue.{behind, AllLe, Desc}
use Rattle.executive.specs.Places.{no_request}
use Rattle.executive.specs.Pool.{requests}
use Rattle.executive.specs.Messages.{no_message, letters, put_behind, post, noted}
use Rattle.executive.specs.Letters.{all_that}
use Rattle.executive.specs.Check.{is_task, is_blank, entry_in_range, request_in_range, sub_in_range, message_in_range, target_busy, sizes_right, in_bounds, queue_right, numbers_right, times_right, started_right, masks_right, busy_right, all_but_queue, is_well_formed}
use Rattle.executive.proofs.Assured.{at_none, false_not_true, and_true, true_and, line-pad, post-sorted, Le, le-no, leb-is, decided}
use Rattle.mender.specs.declared.Mended.{Mended}
use Rattle.mender.specs.Rules.{own_rules}
use Rattle.mender.specs.Passes.{keeps_request, own_pass, queued_pass, link_pass, held_pass, waiter_pass}
use Rattle.mender.specs.Rounds.{settled, round, rounds_of}
use Rattle.mender.specs.Rebuilding.{rebuilt, post_all}
use Rattle.mender.specs.Mending.{answered, mendable, mended_table, notes_at, mend_of, Typed}
use Rattle.mender.specs.Promises.{bare, of_level, Kept, Frame}
use Rattle.mender.proofs.Filters.{that_append, that_padded, that_same}
use Rattle.mender.proofs.Held.{held-alarm}
use Rattle.mender.proofs.Made.{requests-bare, round-dormant}
use Rattle.mender.proofs.Listed.{Answer, answer-of}

-- ---- the frame: count, granule, clock and flags, and the alarms in range
frame-round : (t : Table) → Frame t (round t)
unfolding round settled waiter_pass held_pass link_pass queued_pass own_pass
frame-round t = record {
  count = refl;
  granule = refl;
  clock = refl;
  flags = refl;
  alarms = λ i l a. held-alarm (link_pass (queued_pass (own_pass (own_rules t) t))).table i l ∙ rw a refl;
}

frame-rebuilt : (t : Table) → Frame t (rebuilt t)
unfolding rebuilt
frame-rebuilt t = record { count = refl; granule = refl; clock = refl; flags = refl; alarms = λ i l a. refl }

frame-both : (t u v : Table) → Frame t u → Frame u v → Frame t v
frame-both t u v f g = record {
  count = g.count ∙ f.count;
  granule = g.granule ∙ f.granule;
  clock = g.clock ∙ f.clock;
  flags = g.flags ∙ f.flags;
  alarms = λ i l a. g.alarms i l (rw (f.clock, f.alarms i l a) a) ∙ f.alarms i l a;
}

frame-mended : (t : Table) → Frame t (mended_table t)
unfolding rounds_of
frame-mended t = frame-both t (round (round t)) (mended_table t) (frame-both t (round t) (round (round t)) (frame-round t) (frame-round (round t))) (frame-rebuilt (round (round t)))

pub frame : (t : Table) → Frame t (mend_of t).table
unfolding mend_of
frame t = go (mendable t)
  where
    same : Frame t t
    same = record { count = refl; granule = refl; clock = refl; flags = refl; alarms = λ i l a. refl }

    by : (c : Bool) → Frame t (cond {A = Mended} c (answered 0 t []) (answered 0 (mended_table t) (notes_at t (mended_table t)))).table
    by true = same
    by false = frame-mended t

    go : (b : Bool) → Frame t (cond {A = Mended} b (cond (is_well_formed t) (answered 0 t []) (answered 0 (mended_table t) (notes_at t (mended_table t)))) (answered 17 t [])).table
    go true = by (is_well_formed t)
    go false = same

-- ---- messages put in one after the other: of each priority they stand in the order in which they came
level-none : (p : ℕ) (q : ℕ) (ys : List Message) → q < p → AllLe q (map noted ys) → of_level p ys ≡ []
unfolding all_that
level-none p q [] l a = refl
level-none p q (y ∷ ys) l a = rw (ne_eqb p y.priority (λ e. omega (arith, a.0))) (level-none p q ys l a.1)

level-post : (p : ℕ) (x : Message) (ys : List Message) → Desc (map noted ys) → of_level p (post x ys) ≡ of_level p ys ++ of_level p (x ∷ [])
unfolding put_behind all_that behind
level-post p x [] d = refl
level-post p x (y ∷ ys) d = go (leb x.priority y.priority) (leb-is x.priority y.priority) (level-post p x ys d.1)
  where
    before : y.priority < x.priority → (c : Bool) → eqb p x.priority ≡ c → of_level p (x ∷ y ∷ ys) ≡ of_level p (y ∷ ys) ++ cond c (x ∷ []) []
    before l true e =
        let q : p ≡ x.priority = eqb-true p x.priority e in
        let z : of_level p (y ∷ ys) ≡ [] = level-none p y.priority (y ∷ ys) (omega arith) (omega arith, d.0) in
        rw (e, z) refl
    before l false e = rw e (sym (append-nil (of_level p (y ∷ ys))))

    behind-y : (c : Bool) → of_level p (post x ys) ≡ of_level p ys ++ of_level p (x ∷ [])
        → cond c (y ∷ of_level p (post x ys)) (of_level p (post x ys)) ≡ cond c (y ∷ of_level p ys) (of_level p ys) ++ of_level p (x ∷ [])
    behind-y true ih = ap (λ (l : List Message). y ∷ l) ih
    behind-y false ih = ih

    go : (b : Bool) → Le x.priority y.priority b → of_level p (post x ys) ≡ of_level p ys ++ of_level p (x ∷ [])
        → of_level p (cond b (y ∷ post x ys) (x ∷ y ∷ ys)) ≡ of_level p (y ∷ ys) ++ of_level p (x ∷ [])
    go true l ih = behind-y (eqb p y.priority) ih
    go false (le-no l) ih = before l (eqb p x.priority) refl

level_all : (p : ℕ) (xs ys : List Message) → Desc (map noted ys) → of_level p (post_all xs ys) ≡ of_level p ys ++ of_level p xs
unfolding post_all all_that
level_all p [] ys d = sym (append-nil (of_level p ys))
level_all p (x ∷ xs) ys d =
    level_all p xs (post x ys) (post-sorted x ys d)
    ∙ ap (λ (l : List Message). l ++ of_level p xs) (level-post p x ys d)
    ∙ append_assoc (of_level p ys) (of_level p (x ∷ [])) (of_level p xs)
    ∙ ap (λ (l : List Message). of_level p ys ++ l) (sym (that_append (λ (m : Message). eqb p m.priority) (x ∷ []) xs))

-- ---- lists through a function and a test
map-take : {A B : Type 0} (f : A → B) (n : ℕ) (xs : List A) → map f (take n xs) ≡ take n (map f xs)
map-take f zero xs = refl
map-take f (suc n) [] = refl
map-take {B = B} f (suc n) (x ∷ xs) = ap (λ (l : List B). f x ∷ l) (map-take f n xs)

that_alike : {A : Type 0} (f g : A → Bool) → ((x : A) → f x ≡ g x) → (xs : List A) → all_that f xs ≡ all_that g xs
unfolding all_that
that_alike f g e [] = refl
that_alike f g e (x ∷ xs) = rw (e x, that_alike f g e xs) refl

-- ---- a mended table: what the second pass kept of the requests, and of the messages by priority
module _ (t : Table) where
  abbrev n : ℕ
  n = t.rest.count

  abbrev own : Table
  own = own_pass (own_rules t) t

  abbrev u : Table
  u = rebuilt (round t)

  abbrev asked : List Request
  asked = all_that (keeps_request n own.tasks) t.rest.pool

  busy-alike : (q : Request) → keeps_request n own.tasks q ≡ keeps_request n u.tasks q
  unfolding rebuilt
  busy-alike q = ap (λ (b : Bool). leb q.priority highest and is_task n q.target and not b) (sym (round-dormant t q.target.0))

  asked-bare : map bare (requests u.rest) ≡ map bare asked
  unfolding rebuilt round settled waiter_pass held_pass link_pass queued_pass own_pass
  asked-bare =
      map-take bare (length asked) u.rest.pool
      ∙ ap (take (length asked)) (requests-bare n _ (pad most_queued no_request asked) _)
      ∙ sym (map-take bare (length asked) (pad most_queued no_request asked))
      ∙ ap (map bare) (line-pad no_request most_queued asked)

  abbrev posted : List Message
  posted = all_that (message_in_range n) t.rest.messages

  sent-kept : letters u.rest ≡ post_all posted []
  unfolding rebuilt round settled waiter_pass held_pass link_pass queued_pass own_pass
  sent-kept = line-pad no_message most_sent _ ∙ ap (λ (ms : List Message). post_all ms []) (line-pad no_message most_sent posted)

  kept-mended : Kept t u
  unfolding all_that
  kept-mended = record {
    asked = asked-bare ∙ ap (map bare) (that_alike (keeps_request n own.tasks) (keeps_request n u.tasks) busy-alike t.rest.pool);
    sent = λ p. ap (of_level p) sent-kept ∙ level_all p posted [] tt;
  }

-- ---- a sound table: all that wait are in range, so all are kept
all_both : {A : Type 0} (f g h : A → Bool) → ((x : A) → f x ≡ true → g x ≡ true → h x ≡ true) → (xs : List A)
    → all_of f xs ≡ true → all_of g xs ≡ true → all_of h xs ≡ true
unfolding all_of
all_both f g h m [] a b = refl
all_both f g h m (x ∷ xs) a b = go (f x) (g x) refl refl a b (all_both f g h m xs)
  where
    go : (c d : Bool) → f x ≡ c → g x ≡ d → cond c (all_of f xs) false ≡ true → cond d (all_of g xs) false ≡ true
        → (all_of f xs ≡ true → all_of g xs ≡ true → all_of h xs ≡ true) → cond (h x) (all_of h xs) false ≡ true
    go true true p q a b ih = rw (m x p q) (ih a b)
    go true false p q a b ih = false_not_true b
    go false d p q a b ih = false_not_true a

in_range-kept : (n : ℕ) (ts : List Task) (q : Request) → request_in_range n q ≡ true → target_busy ts q ≡ true → keeps_request n ts q ≡ true
in_range-kept n ts q a b =
    let c = and_true (leb q.priority highest) _ a in
    let d = and_true (leb q.target.0 n) _ c.1 in
    true_and (leb q.priority highest) _ c.0 (true_and (is_task n q.target) _ (true_and (ltb 0 q.target.0) _ (named (ltb 0 q.target.0) refl) d.0) b)
  where
    named : (c : Bool) → ltb 0 q.target.0 ≡ c → c ≡ true
    named true e = refl
    named false e =
        let z : q.target.0 ≡ 0 = omega (arith, ltb-false 0 q.target.0 e) in
        let y : false ≡ true = rw (at_none ts q.target.0 z) at b in
        false_not_true y

module _ (t : Table) (w : is_well_formed t ≡ true) where
  asked-right : all_of (keeps_request t.rest.count t.tasks) (requests t.rest) ≡ true
  unfolding is_well_formed all_but_queue numbers_right busy_right
  asked-right =
      let a = and_true (queue_right t) _ w in
      let b = and_true (numbers_right t.tasks t.rest) _ a.1 in
      let c = and_true (times_right t.tasks t.rest) _ b.1 in
      let d = and_true (started_right t.tasks t.rest) _ c.1 in
      let e = and_true (masks_right t.tasks t.rest) _ d.1 in
      let f = and_true (busy_right t.tasks t.rest) _ e.1 in
      let g = and_true (sizes_right t.tasks t.rest) _ b.0 in
      let h = and_true (in_bounds t.rest.count t.rest.granule t.rest.clock t.rest.queued) _ g.1 in
      let i = and_true (all_of (entry_in_range t.rest.count) t.tasks) _ h.1 in
      let j = and_true (all_of is_blank (drop t.rest.count t.tasks)) _ i.1 in
      let k = and_true (all_of (request_in_range t.rest.count) (requests t.rest)) _ j.1 in
      all_both (request_in_range t.rest.count) (target_busy t.tasks) (keeps_request t.rest.count t.tasks) (in_range-kept t.rest.count t.tasks) (requests t.rest) k.0 f.0

  sent-right : all_of (message_in_range t.rest.count) (letters t.rest) ≡ true
  unfolding is_well_formed all_but_queue numbers_right
  sent-right =
      let a = and_true (queue_right t) _ w in
      let b = and_true (numbers_right t.tasks t.rest) _ a.1 in
      let g = and_true (sizes_right t.tasks t.rest) _ b.0 in
      let h = and_true (in_bounds t.rest.count t.rest.granule t.rest.clock t.rest.queued) _ g.1 in
      let i = and_true (all_of (entry_in_range t.rest.count) t.tasks) _ h.1 in
      let j = and_true (all_of is_blank (drop t.rest.count t.tasks)) _ i.1 in
      let k = and_true (all_of (request_in_range t.rest.count) (requests t.rest)) _ j.1 in
      let l = and_true (all_of (sub_in_range t.rest.count) t.rest.subs) _ k.1 in
      let m = and_true (leb t.rest.sent most_sent) _ l.1 in
      (and_true (all_of (message_in_range t.rest.count) (letters t.rest)) _ m.1).0

  kept-sound : Kept t t
  kept-sound =
      let v = (decided.iff t).0 w in
      record {
        asked = ap (map bare) (sym (all-kept (keeps_request t.rest.count t.tasks) no_request refl most_queued (requests t.rest) t.rest.pool v.pool asked-right));
        sent = λ p. ap (of_level p) (sym (all-kept (message_in_range t.rest.count) no_message refl most_sent (letters t.rest) t.rest.messages v.messages.tidy sent-right));
      }
    where
      all-kept : {A : Type 0} (f : A → Bool) (d : A) → f d ≡ false → (n : ℕ) (xs ys : List A) → ys ≡ pad n d xs → all_of f xs ≡ true → all_that f ys ≡ xs
      all-kept f d z n xs ys e a = ap (all_that f) e ∙ that_padded f d z n xs ∙ that_same f xs a

-- ---- the promise
pub kept : (t : Table) → Typed t → (mend_of t).number ≡ 0 → Kept t (mend_of t).table
kept t y = go (mend_of t) (answer-of t y)
  where
    go : (r : Mended) → Answer t r → r.number ≡ 0 → Kept t r.table
    go r (Answer.refused m) z = absurd (omega arith)
    go r (Answer.sound m w) z = kept-sound t w
    go r (Answer.mended m) z = kept-mended t
