-- The check of the pool where it lies: what each test says of a queued request, and of the sets of those whom the requests and the
-- runs name.
use Prim.Native.Nat.{ℕ, suc, ◌+◌, ◌-◌, ◌*◌, ◌/◌, ◌%◌, ◌^◌, ◌≤◌, ◌<◌}
use mathlib.Core.Path.{◌≡◌, refl, sym, ap, ap₂, ◌∙◌}
use mathlib.Core.Bool.{Bool, true, false, not}
use mathlib.Core.List.{List}
use native.Mathlib.Omega.{arith}
use borrow.Author.Tests.{eqb-true, eq-eqb, ne_eqb, le-leb, lt-leb, le-ltb, not-true, not-false}
use lib.Dec.{eqb, leb, ltb}
use lib.Bits.{bit_and, and_le_r}
use lib.ListN.{get_or, take, drop}
use Rattle.executive.specs.declared.Task.{Task}
use Rattle.executive.specs.declared.Request.{Request}
use Rattle.executive.specs.Lists.{one, sum_of, ◌and◌, up_to, all_of}
use Rattle.executive.specs.Places.{no_request, task_at}
use Rattle.executive.specs.States.{await_start, await_end, is_of, is_dormant}
use Rattle.executive.specs.Flags.{is_set}
use Rattle.executive.specs.WellFormed.{starts_of, ends_of, runs_of}
use Rattle.executive.specs.Check.{request_in_range, names_others, request_fits, request_right, waiters_at, asked_right}
use Rattle.executive.proofs.Assured.{false_not_true, both, and_true, and_false_left, and_false_right, and_true_left, at_none, fits_not}
use Rattle.image.specs.Image.{task_from, request_from, load_of}
use Rattle.image.specs.Sound.{noughts, tasks_in, pool_in, naming, namings, names_in, set_of, waits_as, names_other}
use Rattle.image.specs.Marks.{passed, Marked}
use Rattle.image.proofs.Loaded.{pool-size, request_there, read-first-turn, read-first-not, read-first-end}
use Rattle.image.proofs.Named.{times_of, naming-none, names-turn, names-end, waiters-named, moved-set}
use Rattle.image.proofs.Noughts.{byte-nought, pool-nought}
use Rattle.image.proofs.Rows.{blocks-first, sum-blocks}
use Rattle.image.proofs.SetBits.{bit-clear, bit-set}

-- ---- two bytes that are zero
two-zero : (s : List ℕ) (at : ℕ) → noughts s 2 at ≡ true → (get_or s at 0 ≡ 0) × (get_or s (suc at) 0 ≡ 0)
unfolding noughts
two-zero s at e = let a = both (eqb (get_or s at 0) 0) (noughts s 1 (suc at)) e in (eqb-true _ _ a.0, eqb-true _ _ (sym (byte-nought s (suc at)) ∙ a.1))

-- ---- number 0 reads what is dormant
pub none-idle : (ts : List Task) → is_dormant (task_at ts 0).state ≡ true
none-idle ts = ap (λ (x : Task). is_dormant x.state) (at_none ts 0 refl)

-- ---- a request that keeps the rules on it alone, by its target's state
request_kept : (ts : List Task) (n : ℕ) (r : Request) (b : Bool) → request_fits n r ≡ true → is_dormant (task_at ts r.target.0).state ≡ b → request_right ts n r ≡ not b
request_kept ts n r b f h = let a = and_true (request_in_range n r) _ f in rw (a.0, a.1, h) refl

-- ---- the i-th of the queued requests
module _ (s : List ℕ) (queued count : ℕ) (hq : queued ≤ 32) (i : ℕ) where
  abbrev right : Request → Bool
  right = request_right (tasks_in s) count

  abbrev there : Request
  there = request_from s (704 + i * 6)

  module _ (h : i < queued) (e : all_of (request_right (tasks_in s) count) (drop i (take queued (pool_in s))) ≡ all_of (request_right (tasks_in s) count) (take queued (pool_in s))) where
    pub one-wrong : false ≡ request_right (tasks_in s) count (request_from s (704 + i * 6)) → false ≡ all_of (request_right (tasks_in s) count) (take queued (pool_in s))
    one-wrong f = sym (sym e ∙ read-first-not right no_request (pool_in s) 32 (pool-size s) i queued hq there h (request_there s i (704 + i * 6) (omega arith) refl) (sym f))

    pub one_right : request_right (tasks_in s) count (request_from s (704 + i * 6)) ≡ true
        → all_of (request_right (tasks_in s) count) (drop (i + 1) (take queued (pool_in s))) ≡ all_of (request_right (tasks_in s) count) (take queued (pool_in s))
    one_right f = read-first-turn right no_request (pool_in s) 32 (pool-size s) i queued hq there h (request_there s i (704 + i * 6) (omega arith) refl) f ∙ e

  -- whom it names at place o of it
  module _ (h : i < queued) (o set r : ℕ) (e : namings count set (drop i (names_in s 6 queued (704 + o))) ≡ r) where
    pub one-named : (w : ℕ) → w ≡ naming count set (get_or s (704 + i * 6 + o) 0) → namings count w (drop (i + 1) (names_in s 6 queued (704 + o))) ≡ r
    one-named w f =
        let z : 704 + i * 6 + o ≡ 704 + o + i * 6 = omega arith in
        ap (λ (x : ℕ). namings count x (drop (i + 1) (names_in s 6 queued (704 + o)))) (f ∙ ap (λ (p : ℕ). naming count set (get_or s p 0)) z)
        ∙ names-turn count s 6 queued (704 + o) i set h
        ∙ e

    pub none_named : get_or s (704 + i * 6 + o) 0 ≡ 0 → namings count set (drop (i + 1) (names_in s 6 queued (704 + o))) ≡ r
    none_named z = one-named set (naming-none count set (get_or s (704 + i * 6 + o) 0) z)

  -- past the last
  module _ (h : queued ≤ i) where
    pub all_right : all_of (request_right (tasks_in s) count) (drop i (take queued (pool_in s))) ≡ all_of (request_right (tasks_in s) count) (take queued (pool_in s))
        → true ≡ all_of (request_right (tasks_in s) count) (take queued (pool_in s))
    all_right e = sym (read-first-end right no_request (pool_in s) 32 (pool-size s) i queued hq h) ∙ e

    pub all_named : (at set r : ℕ) → namings count set (drop i (names_in s 6 queued at)) ≡ r → set ≡ r
    all_named at set r e = sym (names-end count s 6 queued at i set h) ∙ e

-- ---- the request that lies at a place: its target and its priority
module _ (s : List ℕ) (count at : ℕ) where
  abbrev asked : Request
  asked = request_from s at

  pub target-over : count < get_or s at 0 → false ≡ request_right (tasks_in s) count (request_from s at)
  target-over h =
      and_false_left (request_in_range count asked) _
      (sym (and_false_right (leb (get_or s (at + 1) 0) 15) _ (and_false_left (leb (get_or s at 0) count) _ (lt-leb (get_or s at 0) count h))))

  pub level-over : 15 < get_or s (at + 1) 0 → false ≡ request_right (tasks_in s) count (request_from s at)
  level-over h = and_false_left (request_in_range count asked) _ (sym (and_false_left (leb (get_or s (at + 1) 0) 15) _ (lt-leb (get_or s (at + 1) 0) 15 h)))

  pub request_unfit : (q : Request) → q ≡ request_from s at → request_fits count q ≡ false → false ≡ request_right (tasks_in s) count (request_from s at)
  request_unfit q e f = sym (ap (request_right (tasks_in s) count) (sym e) ∙ fits_not (tasks_in s) count q f)

  -- who is dormant, as a set
  module _ (idle : ℕ) (d : (k : ℕ) → k ≤ count → is_set idle k ≡ is_dormant (task_at (tasks_in s) k).state) (h : get_or s at 0 ≤ count) where
    pub target-idle : bit_and (idle / 2 ^ get_or s at 0) 1 ≡ 1 → false ≡ request_right (tasks_in s) count (request_from s at)
    target-idle e =
        let z : is_set idle (get_or s at 0) ≡ true = bit-set idle (get_or s at 0) (λ q. omega arith) in
        and_false_right (request_in_range count asked) _ (and_false_right (names_others asked) _ (sym (ap not (sym (d (get_or s at 0) h) ∙ z))))

    module _ (b : bit_and (idle / 2 ^ get_or s at 0) 1 ≡ 1 → ⊥) where
      clear : is_set idle (get_or s at 0) ≡ false
      clear = bit-clear idle (get_or s at 0) (omega (arith, and_le_r (idle / 2 ^ get_or s at 0) 1, b))

      busy : is_dormant (task_at (tasks_in s) (get_or s at 0)).state ≡ false
      busy = sym (d (get_or s at 0) h) ∙ clear

      some : get_or s at 0 ≡ 0 → ⊥
      some z = false_not_true (sym clear ∙ ap (is_set idle) z ∙ d 0 (omega arith) ∙ none-idle (tasks_in s))

      pub request_fit : (q : Request) → q ≡ request_from s at → request_fits count q ≡ true → request_right (tasks_in s) count (request_from s at) ≡ true
      request_fit q e f = request_kept (tasks_in s) count asked false (ap (request_fits count) (sym e) ∙ f) busy

      -- it names no waiter
      module _ (p : get_or s (at + 1) 0 ≤ 15) (w : ℕ) (t : ltb 65535 w ≡ not (noughts s 2 (at + 2 + 2))) (l : w ≤ 65535) where
        nobody : (get_or s (at + 2 + 2) 0 ≡ 0) × (get_or s (suc (at + 2 + 2)) 0 ≡ 0)
        nobody = two-zero s (at + 2 + 2) (not-false _ (sym t ∙ le-ltb 65535 w l))

        pub start-nobody : get_or s (at + 4) 0 ≡ 0
        start-nobody = let z : at + 4 ≡ at + 2 + 2 = omega arith in ap (λ (x : ℕ). get_or s x 0) z ∙ nobody.0

        pub end-nobody : get_or s (at + 5) 0 ≡ 0
        end-nobody = let z : at + 5 ≡ suc (at + 2 + 2) = omega arith in ap (λ (x : ℕ). get_or s x 0) z ∙ nobody.1

        pub request_lone : request_right (tasks_in s) count (request_from s at) ≡ true
        request_lone =
            let y : at + 1 + 1 + 2 ≡ at + 4 = omega arith in
            let z : at + 1 + 1 + 2 + 1 ≡ at + 5 = omega arith in
            let u : get_or s (at + 1 + 1 + 2) 0 ≡ 0 = ap (λ (x : ℕ). get_or s x 0) y ∙ start-nobody in
            let v : get_or s (at + 1 + 1 + 2 + 1) 0 ≡ 0 = ap (λ (x : ℕ). get_or s x 0) z ∙ end-nobody in
            request_kept (tasks_in s) count asked false
            (rw (u, v, le-leb (get_or s (at + 1) 0) 15 p, le-leb (get_or s at 0) count h, le-leb 0 count (omega arith), ne_eqb (get_or s at 0) 0 some) refl)
            busy

-- ---- those whom the first q requests name, and whom the runs name
module _ (s : List ℕ) (k : ℕ) where
  starts-named : (q : ℕ) → q ≤ 32 → times_of k (names_in s 6 q 708) ≡ starts_of k (take q (pool_in s))
  unfolding load_of
  starts-named q h =
      sum-blocks (λ (j : ℕ). one (eqb k j)) (λ (r : Request). one (eqb k r.start_waiter.0)) (λ (p : ℕ). get_or s p 0) 6 (request_from s) 6 q 708 704
      (λ i l. let z : 708 + i * 6 ≡ 704 + i * 6 + 1 + 1 + 2 = omega arith in ap (λ (p : ℕ). one (eqb k (get_or s p 0))) z)
      ∙ ap (sum_of (λ (r : Request). one (eqb k r.start_waiter.0))) (sym (blocks-first (request_from s) 6 32 704 q h))

  ends_named : (q : ℕ) → q ≤ 32 → times_of k (names_in s 6 q 709) ≡ ends_of k (take q (pool_in s))
  unfolding load_of
  ends_named q h =
      sum-blocks (λ (j : ℕ). one (eqb k j)) (λ (r : Request). one (eqb k r.end_waiter.0)) (λ (p : ℕ). get_or s p 0) 6 (request_from s) 6 q 709 704
      (λ i l. let z : 709 + i * 6 ≡ 704 + i * 6 + 1 + 1 + 2 + 1 = omega arith in ap (λ (p : ℕ). one (eqb k (get_or s p 0))) z)
      ∙ ap (sum_of (λ (r : Request). one (eqb k r.end_waiter.0))) (sym (blocks-first (request_from s) 6 32 704 q h))

  runs-named : times_of k (names_in s 26 16 25) ≡ runs_of k (tasks_in s)
  unfolding load_of
  runs-named =
      sum-blocks (λ (j : ℕ). one (eqb k j)) (λ (e : Task). one (eqb k e.end_waiter.0)) (λ (p : ℕ). get_or s p 0) 26 (task_from s) 1 16 25 0
      (λ i l. let z : 25 + i * 26 ≡ (0 + i * 1) * 26 + 1 + 1 + 8 + 4 + 1 + 2 + 8 = omega arith in ap (λ (p : ℕ). one (eqb k (get_or s p 0))) z)

-- ---- the tests of the pool, after the look at the requests has found them right: whom they name at the start and, with those of
-- the runs, at the end; the sets of those who wait so
module _ (s : List ℕ) (count queued : ℕ) (hc : count ≤ 16) (hq : queued ≤ 32) (runs : ℕ) (named : runs ≡ namings count 0 (names_in s 26 16 25))
    (right : Bool) (starts ends : ℕ) (all : right ≡ all_of (request_right (tasks_in s) count) (take queued (pool_in s)))
    (found : right ≡ true → (starts ≡ namings count 0 (names_in s 6 queued 708)) × (ends ≡ namings count runs (names_in s 6 queued 709))) where
  pub pool-wrong : not right ≡ true → false ≡ asked_right (tasks_in s) count queued (pool_in s)
  pool-wrong e = and_false_left _ _ (sym all ∙ not-true right e)

  module _ (e : not right ≡ false) (first last : ℕ) (f : Marked count first (passed (is_of await_start) (tasks_in s))) (l : Marked count last (passed (is_of await_end) (tasks_in s))) where
    kept : all_of (request_right (tasks_in s) count) (take queued (pool_in s)) ≡ true
    kept = sym all ∙ not-false right e

    by_names : (eqb starts (first * 2 % 4294967296) and eqb ends (last * 2 % 4294967296) and up_to (names_other (tasks_in s)) count) ≡ up_to (waiters_at (tasks_in s) (take queued (pool_in s))) count
    by_names =
        let n = found (not-false right e) in
        let z : ends ≡ namings count (namings count 0 (names_in s 26 16 25)) (names_in s 6 queued 709) = n.1 ∙ ap (λ (w : ℕ). namings count w (names_in s 6 queued 709)) named in
        ap₂ (λ (x y : ℕ). eqb x y and eqb ends (last * 2 % 4294967296) and up_to (names_other (tasks_in s)) count) n.0 (moved-set (is_of await_start) (tasks_in s) count first hc f)
        ∙ ap₂ (λ (x y : ℕ). eqb (namings count 0 (names_in s 6 queued 708)) (set_of (waits_as await_start (tasks_in s)) count) and eqb x y and up_to (names_other (tasks_in s)) count) z (moved-set (is_of await_end) (tasks_in s) count last hc l)
        ∙ waiters-named (tasks_in s) (take queued (pool_in s)) count hc (names_in s 6 queued 708) (names_in s 6 queued 709) (names_in s 26 16 25)
        (λ k. starts-named s k queued hq) (λ k. ends_named s k queued hq) (λ k. runs-named s k)

    pub starts-differ : (starts ≡ first * 2 % 4294967296 → ⊥) → false ≡ asked_right (tasks_in s) count queued (pool_in s)
    starts-differ d =
        and_true_left _ _ _ kept (and_false_left _ _ (sym (and_false_left (eqb starts (first * 2 % 4294967296)) _ (ne_eqb _ _ d) ∙ by_names)))

    module _ (x : starts ≡ first * 2 % 4294967296) where
      pub ends-differ : (ends ≡ last * 2 % 4294967296 → ⊥) → false ≡ asked_right (tasks_in s) count queued (pool_in s)
      ends-differ d =
          and_true_left _ _ _ kept
          (and_false_left _ _ (sym (and_false_right (eqb starts (first * 2 % 4294967296)) _ (and_false_left (eqb ends (last * 2 % 4294967296)) _ (ne_eqb _ _ d)) ∙ by_names)))

      pub pool-last : ends ≡ last * 2 % 4294967296 → up_to (names_other (tasks_in s)) count ≡ true → (c : Bool) → c ≡ noughts s (896 - (704 + queued * 6)) (704 + queued * 6)
          → c ≡ asked_right (tasks_in s) count queued (pool_in s)
      pool-last y o c g =
          and_true_left _ _ _ kept
          (and_true_left _ _ _ (sym by_names ∙ rw (eq-eqb starts (first * 2 % 4294967296) x, eq-eqb ends (last * 2 % 4294967296) y) o) (g ∙ sym (pool-nought s queued hq)))
