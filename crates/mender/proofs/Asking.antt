-- The links of the requests: a request's turn, and all of them.
use Prim.Native.Nat.{ℕ, ◌+◌, ◌≤◌, ◌<◌}
use mathlib.Core.Path.{◌≡◌, refl, sym, ap, ◌∙◌}
use mathlib.Core.Bool.{Bool, true, false, not, cond}
use mathlib.Core.List.{List}
use native.Mathlib.Omega.{arith}
use borrow.Author.Tests.{eqb-true, eqb-false}
use lib.Dec.{eqb}
use lib.ListN.{length, take, set, get_or, length-set}
use lib.Seq.{get_or-set_same, get_or-set_other}
use Rattle.executive.specs.declared.Task.{Task}
use Rattle.executive.specs.declared.Request.{Request}
use Rattle.executive.specs.Lists.{one, sum_of, ◌and◌}
use Rattle.executive.specs.Places.{no_request, task_at}
use Rattle.executive.specs.States.{await_start, await_end, is_of}
use Rattle.executive.specs.WellFormed.{starts_of, ends_of, runs_of}
use Rattle.executive.specs.Check.{is_nobody, names_others}
use Rattle.executive.proofs.Assured.{and_true, true_and, of-not, not-zero}
use Rattle.mender.specs.Links.{Asked}
use Rattle.mender.specs.Links.{Links}
use Rattle.mender.specs.Passes.{named_at, marked, stands, startless, endless, start_turn, end_turn, request_turn, linked_requests}
use Rattle.mender.proofs.Turns.{each_keeps}
use Rattle.mender.proofs.Sums.{sum-next-set}
use Rattle.mender.proofs.Linked.{marked-length, mark-same, mark-other, stands-is, start-not-end, end_not_start}

-- a request without its waiters
abbrev pub lone : Request → Request
lone q = endless (startless q)

-- whether number w waits for a start, for an end
abbrev pub starter : List Task → ℕ → Bool
starter ts w = is_of await_start (task_at ts w).state

abbrev pub ender : List Task → ℕ → Bool
ender ts w = is_of await_end (task_at ts w).state

-- ---- one request, which was q with bs named: after the turn of its start waiter
pub record StartTurned (ts : List Task) (q : Request) (bs : List Bool) (a : Asked) : Type 0 where
  pub named : length a.named ≡ 16
  pub alike : startless a.request ≡ startless q
  pub starts : (w : ℕ) → 0 < w → one (named_at bs w and starter ts w) + one (eqb w a.request.start_waiter.0) ≡ one (named_at a.named w and starter ts w)
  pub ends : (w : ℕ) → one (named_at bs w and ender ts w) ≡ one (named_at a.named w and ender ts w)
  pub other : 0 < a.request.target.0 → eqb a.request.target.0 a.request.start_waiter.0 ≡ false

module _ (n : ℕ) (hn : n ≤ 16) (ts : List Task) where
  start-turn : (q : Request) (bs : List Bool) → length bs ≡ 16 → StartTurned ts q bs (start_turn n ts (record { request = q; named = bs }))
  unfolding start_turn
  start-turn q bs l = go (stands n ts bs await_start q.target.0 q.start_waiter) refl
    where
      s : ℕ
      s = q.start_waiter.0

      go : (b : Bool) → stands n ts bs await_start q.target.0 q.start_waiter ≡ b
          → StartTurned ts q bs (cond b (record { request = q; named = marked bs s }) (record { request = startless q; named = bs }))
      go true e =
          let x = stands-is n ts bs await_start q.target.0 q.start_waiter e in
          record {
            named = marked-length bs s ∙ l;
            alike = refl;
            starts = λ w g. mark-same (starter ts) bs s w x.low (omega (arith, x.high)) x.fresh x.waits;
            ends = λ w. mark-other (ender ts) bs s w (start-not-end (task_at ts s).state x.waits);
            other = λ _. x.other;
          }
      go false e = record {
        named = l;
        alike = refl;
        starts = λ w g. let z : one (eqb w 0) ≡ 0 = ap one (not-zero w g) in omega arith;
        ends = λ w. refl;
        other = λ h. not-zero q.target.0 h;
      }

-- ---- after the turn of its end waiter
pub record EndTurned (ts : List Task) (q : Request) (bs : List Bool) (a : Asked) : Type 0 where
  pub named : length a.named ≡ 16
  pub alike : endless a.request ≡ endless q
  pub starts : (w : ℕ) → one (named_at bs w and starter ts w) ≡ one (named_at a.named w and starter ts w)
  pub ends : (w : ℕ) → 0 < w → one (named_at bs w and ender ts w) + one (eqb w a.request.end_waiter.0) ≡ one (named_at a.named w and ender ts w)
  pub other : 0 < a.request.target.0 → eqb a.request.target.0 a.request.end_waiter.0 ≡ false
  pub single : cond (eqb a.request.start_waiter.0 0) true (eqb a.request.end_waiter.0 0) ≡ true

module _ (n : ℕ) (hn : n ≤ 16) (ts : List Task) where
  end-turn : (a : Asked) → length a.named ≡ 16 → EndTurned ts a.request a.named (end_turn n ts a)
  unfolding end_turn
  end-turn a l = go (is_nobody q.start_waiter and stands n ts bs await_end q.target.0 q.end_waiter) refl
    where
      q : Request
      q = a.request

      bs : List Bool
      bs = a.named

      d : ℕ
      d = q.end_waiter.0

      go : (b : Bool) → is_nobody q.start_waiter and stands n ts bs await_end q.target.0 q.end_waiter ≡ b
          → EndTurned ts q bs (cond b (record { request = q; named = marked bs d }) (record { request = endless q; named = bs }))
      go true e =
          let y = and_true (is_nobody q.start_waiter) (stands n ts bs await_end q.target.0 q.end_waiter) e in
          let x = stands-is n ts bs await_end q.target.0 q.end_waiter y.1 in
          record {
            named = marked-length bs d ∙ l;
            alike = refl;
            starts = λ w. mark-other (starter ts) bs d w (end_not_start (task_at ts d).state x.waits);
            ends = λ w g. mark-same (ender ts) bs d w x.low (omega (arith, x.high)) x.fresh x.waits;
            other = λ _. x.other;
            single = rw y.0 refl;
          }
      go false e = record {
        named = l;
        alike = refl;
        starts = λ w. refl;
        ends = λ w g. let z : one (eqb w 0) ≡ 0 = ap one (not-zero w g) in omega arith;
        other = λ h. not-zero q.target.0 h;
        single = any (eqb q.start_waiter.0 0);
      }
        where
          any : (b : Bool) → cond b true true ≡ true
          any true = refl
          any false = refl

-- ---- both: the links that are left, as the two sums count them; the rest of the request is as it was
pub record Turned (ts : List Task) (q : Request) (bs : List Bool) (a : Asked) : Type 0 where
  pub named : length a.named ≡ 16
  pub alike : lone a.request ≡ lone q
  pub starts : (w : ℕ) → 0 < w → one (named_at bs w and starter ts w) + one (eqb w a.request.start_waiter.0) ≡ one (named_at a.named w and starter ts w)
  pub ends : (w : ℕ) → 0 < w → one (named_at bs w and ender ts w) + one (eqb w a.request.end_waiter.0) ≡ one (named_at a.named w and ender ts w)
  pub others : 0 < a.request.target.0 → names_others a.request ≡ true

-- the turn of the request q with bs named
abbrev pub turn_of : ℕ → List Task → Request → List Bool → Asked
turn_of n ts q bs = end_turn n ts (start_turn n ts (record { request = q; named = bs }))

module _ (n : ℕ) (hn : n ≤ 16) (ts : List Task) where
  pub both-turns : (q : Request) (bs : List Bool) → length bs ≡ 16 → Turned ts q bs (turn_of n ts q bs)
  both-turns q bs l =
      let a : Asked = start_turn n ts (record { request = q; named = bs }) in
      let b : Asked = end_turn n ts a in
      let x : StartTurned ts q bs a = start-turn n hn ts q bs l in
      let y : EndTurned ts a.request a.named b = end-turn n hn ts a x.named in
      let s : b.request.start_waiter ≡ a.request.start_waiter = ap (λ (r : Request). r.start_waiter) y.alike in
      let t : b.request.target ≡ a.request.target = ap (λ (r : Request). r.target) y.alike in
      record {
        named = y.named;
        alike = ap startless y.alike ∙ ap endless x.alike;
        starts = λ w g. rw s (x.starts w g ∙ y.starts w);
        ends = λ w g. ap (λ (m : ℕ). m + one (eqb w b.request.end_waiter.0)) (x.ends w) ∙ y.ends w g;
        others = λ h.
            true_and (not (eqb b.request.target.0 b.request.start_waiter.0)) _
            (of-not (eqb b.request.target.0 b.request.start_waiter.0) (rw (s, t) (x.other (rw t at h))))
            (true_and (not (eqb b.request.target.0 b.request.end_waiter.0)) _ (of-not _ (y.other h)) y.single);
      }

-- a free place stays free
pub free-turn : (n : ℕ) (ts : List Task) (bs : List Bool) → (turn_of n ts no_request bs).request ≡ no_request
unfolding start_turn end_turn stands
free-turn n ts bs = refl

-- ---- the requests of the pool p: the first i are passed
pub record Asking (ts : List Task) (p : List Request) (i : ℕ) (l : Links) : Type 0 where
  pub pool : length l.pool ≡ 32
  pub named : length l.named ≡ 16
  pub alike : (j : ℕ) → lone (get_or l.pool j no_request) ≡ lone (get_or p j no_request)
  pub free : (j : ℕ) → get_or p j no_request ≡ no_request → get_or l.pool j no_request ≡ no_request
  pub starts : (w : ℕ) → 0 < w → starts_of w (take i l.pool) ≡ one (named_at l.named w and starter ts w)
  pub ends : (w : ℕ) → 0 < w → ends_of w (take i l.pool) + runs_of w ts ≡ one (named_at l.named w and ender ts w)
  pub others : (j : ℕ) → j < i → 0 < (get_or l.pool j no_request).target.0 → names_others (get_or l.pool j no_request) ≡ true

module _ (n : ℕ) (hn : n ≤ 16) (ts : List Task) (p : List Request) where
  pub request-turn : (i : ℕ) (l : Links) → i < 32 → Asking ts p i l → Asking ts p (i + 1) (request_turn n ts l i)
  unfolding request_turn
  request-turn i l h x =
      let y : Turned ts q l.named a = both-turns n hn ts q l.named x.named in
      record {
        pool = length-set l.pool i a.request ∙ x.pool;
        named = y.named;
        alike = λ j. by_alike j (eqb j i) refl y.alike;
        free = λ j f. by-free j f (eqb j i) refl;
        starts = λ w g.
            sum-next-set (λ (r : Request). one (eqb w r.start_waiter.0)) l.pool i a.request room
            ∙ ap (λ (m : ℕ). m + one (eqb w a.request.start_waiter.0)) (x.starts w g) ∙ y.starts w g;
        ends = λ w g.
            (let z : ends_of w (take (i + 1) (set l.pool i a.request)) ≡ ends_of w (take i l.pool) + one (eqb w a.request.end_waiter.0) =
            sum-next-set (λ (r : Request). one (eqb w r.end_waiter.0)) l.pool i a.request room in
            omega (arith, x.ends w g, y.ends w g));
        others = λ j g. by-others j g (eqb j i) refl y.others;
      }
    where
      q : Request
      q = get_or l.pool i no_request

      a : Asked
      a = turn_of n ts q l.named

      room : i < length l.pool
      room = omega (arith, x.pool)

      by_alike : (j : ℕ) (b : Bool) → eqb j i ≡ b → lone a.request ≡ lone q → lone (get_or (set l.pool i a.request) j no_request) ≡ lone (get_or p j no_request)
      by_alike j true e z = rw (eqb-true j i e, get_or-set_same l.pool i a.request no_request room) (z ∙ x.alike i)
      by_alike j false e z = rw (get_or-set_other l.pool i j a.request no_request (eqb-false j i e)) (x.alike j)

      by-free : (j : ℕ) → get_or p j no_request ≡ no_request → (b : Bool) → eqb j i ≡ b → get_or (set l.pool i a.request) j no_request ≡ no_request
      by-free j f true e =
          let z : j ≡ i = eqb-true j i e in
          let y : q ≡ no_request = x.free i (rw z at f) in
          rw (z, get_or-set_same l.pool i a.request no_request room) (ap (λ (r : Request). (turn_of n ts r l.named).request) y ∙ free-turn n ts l.named)
      by-free j f false e = rw (get_or-set_other l.pool i j a.request no_request (eqb-false j i e)) (x.free j f)

      by-others : (j : ℕ) → j < i + 1 → (b : Bool) → eqb j i ≡ b → (0 < a.request.target.0 → names_others a.request ≡ true)
          → 0 < (get_or (set l.pool i a.request) j no_request).target.0 → names_others (get_or (set l.pool i a.request) j no_request) ≡ true
      by-others j g true e z = rw (eqb-true j i e, get_or-set_same l.pool i a.request no_request room) z
      by-others j g false e z = rw (get_or-set_other l.pool i j a.request no_request (eqb-false j i e)) (x.others j (let z = eqb-false j i e in omega arith))

-- all of them, from the names bs that the runs of ts left
module _ (n : ℕ) (hn : n ≤ 16) (ts : List Task) (bs : List Bool) (m : length bs ≡ 16) (p : List Request) (r : length p ≡ 32)
    (runs : (w : ℕ) → 0 < w → runs_of w ts ≡ one (named_at bs w and ender ts w)) (none : (w : ℕ) → one (named_at bs w and starter ts w) ≡ 0) where
  pub asking-begin : Asking ts p 0 (record { pool = p; named = bs })
  unfolding sum_of
  asking-begin = record {
    pool = r;
    named = m;
    alike = λ j. refl;
    free = λ j e. e;
    starts = λ w g. sym (none w);
    ends = λ w g. omega (arith, runs w g);
    others = λ j h. absurd (omega arith);
  }

  pub linked-requests : Asking ts p 32 (linked_requests n ts p bs)
  unfolding linked_requests
  linked-requests =
      each_keeps (request_turn n ts) (λ i l. Asking ts p i l) 32 0 (record { pool = p; named = bs }) asking-begin (λ i l g h x. request-turn n hn ts p i l (omega arith) x)
