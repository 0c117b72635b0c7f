-- What each kind of change does to the orphans. A kind of call is a chain of these.
use mathlib.Core.Path.{◌≡◌, refl, sym, ap, ◌∙◌}
use mathlib.Core.Bool.{Bool, true, false, not, cond}
use mathlib.Core.List.{List, [], ◌∷◌, ◌++◌}
use Prim.Native.Nat.{ℕ, zero, suc, ◌+◌, ◌≤◌, ◌<◌}
use native.Mathlib.Omega.{arith}
use lib.Dec.{eqb, eqb→eq}
use lib.ListN.{length, get_or}
use Rattle.executive.specs.declared.Task.{Task}
use Rattle.executive.specs.declared.Request.{Request}
use Rattle.executive.specs.Lists.{one, sum_of}
use Rattle.executive.specs.Pool.{place_of, removed}
use Rattle.executive.specs.Places.{Names, no_request, task_at, put_at}
use Rattle.executive.specs.States.{dormant, ready, await_start, await_end, await_sub, state_kind, is}
use Rattle.executive.specs.WellFormed.{starts_of, ends_of, runs_of, targets_of, waits_for_itself}
use Rattle.executive.proofs.Lists.Tests.{So-of_true, eqb_self, not-zero, eqb_no, eqb_swap}
use Rattle.executive.proofs.queue.Law.{one-zero}
use Rattle.executive.proofs.Lists.Sums.{sum-snoc}
use Rattle.executive.proofs.states.Laws.{counted}
use Rattle.executive.proofs.Plans.QueueKept.{not-both, busy-names}
use Rattle.executive.proofs.Plans.LinksKept.{count_if, count_if-zero, count_if-one, LinksUpTo, links_put}

module _ (ts : List Task) (p : List Request) (j : ℕ) (e : Task) where
  abbrev old : Task
  old = task_at ts j

  -- the reading of j as an end or a start waiter, and the named one, do not change: pause, end of a pause, restart
  pub alike : (w s d : ℕ) → Names j ts → e.end_waiter.0 ≡ old.end_waiter.0 → is await_start e.state ≡ is await_start old.state → is await_end e.state ≡ is await_end old.state
      → is dormant e.state ≡ 0 → is dormant old.state ≡ 0 → LinksUpTo ts p w s d → LinksUpTo (put_at ts j e) p w s d
  alike w s d n g a b z z' l = links_put ts p j e w s d w s d (record {
    names = n;
    starts = λ k h. omega (arith, ap (count_if (eqb k j)) a);
    ends = λ k h. omega (arith, ap (count_if (eqb k j)) b, ap (λ x. one (eqb k x)) g);
    apart = ap (eqb j) g ∙ l.apart j n.0;
    quiet = λ x. absurd (omega arith);
    busy-own = λ x. z;
    busy_else = λ k h o x. x;
  }) l

  -- the run of the caller ends: its end waiter is an orphan
  pub retire : is ready old.state ≡ 1 → is dormant e.state ≡ 1 → e.end_waiter.0 ≡ 0 → LinksUpTo ts p 0 0 0 → LinksUpTo (put_at ts j e) p old.end_waiter.0 0 j
  retire r z g l =
      let x : counted (state_kind old.state) ≤ 1 = not-both old.state in
      let y : counted (state_kind e.state) ≤ 1 = not-both e.state in
      let n : Names j ts = busy-names ts j (omega arith) in
      links_put ts p j e 0 0 0 old.end_waiter.0 0 j (record {
        names = n;
        starts = λ k h. omega (arith, count_if-zero (eqb k j) (is await_start old.state) (omega arith), count_if-zero (eqb k j) (is await_start e.state) (omega arith));
        ends = λ k h. omega (arith, count_if-zero (eqb k j) (is await_end old.state) (omega arith), count_if-zero (eqb k j) (is await_end e.state) (omega arith), ap (λ x. one (eqb k x)) g);
        apart = ap (eqb j) g ∙ not-zero j n.0;
        quiet = λ _. g;
        busy-own = λ x. absurd (eqb_no j j x refl);
        busy_else = λ k h o x. not-zero k h;
      }) l

  -- the run of the caller ends, and it stays busy: its end waiter is an orphan
  pub release : is ready old.state ≡ 1 → counted (state_kind e.state) ≡ 0 → e.end_waiter.0 ≡ 0 → LinksUpTo ts p 0 0 0
      → LinksUpTo (put_at ts j e) p old.end_waiter.0 0 0
  release r z g l =
      let x : counted (state_kind old.state) ≤ 1 = not-both old.state in
      let n : Names j ts = busy-names ts j (omega arith) in
      links_put ts p j e 0 0 0 old.end_waiter.0 0 0 (record {
        names = n;
        starts = λ k h. omega (arith, count_if-zero (eqb k j) (is await_start old.state) (omega arith), count_if-zero (eqb k j) (is await_start e.state) (omega arith));
        ends = λ k h. omega (arith, count_if-zero (eqb k j) (is await_end old.state) (omega arith), count_if-zero (eqb k j) (is await_end e.state) (omega arith), ap (λ x. one (eqb k x)) g);
        apart = ap (eqb j) g ∙ not-zero j n.0;
        quiet = λ _. g;
        busy-own = λ _. omega arith;
        busy_else = λ k h o x. x;
      }) l

  -- the orphan end waiter enters
  pub wake_ender : (s d : ℕ) → 0 < j → e.end_waiter.0 ≡ old.end_waiter.0 → is ready e.state ≡ 1 → LinksUpTo ts p j s d → Names j ts × (is ready old.state + is dormant old.state + is await_sub old.state ≡ 0) × LinksUpTo (put_at ts j e) p 0 s d
  wake_ender s d h₀ g r l =
      let a : ends_of j p + runs_of j ts + one (eqb j j) ≡ is await_end old.state = l.ends j h₀ in
      let b : one (eqb j j) ≡ 1 = ap one (eqb_self j) in
      let x : counted (state_kind old.state) ≤ 1 = not-both old.state in
      let y : counted (state_kind e.state) ≤ 1 = not-both e.state in (
        busy-names ts j (omega arith),
        omega arith,
        links_put ts p j e j s d 0 s d (record {
          names = busy-names ts j (omega arith);
          starts = λ k h. omega (arith, count_if-zero (eqb k j) (is await_start old.state) (omega arith), count_if-zero (eqb k j) (is await_start e.state) (omega arith));
          ends = λ k h. omega (arith, count_if-one (eqb k j) (is await_end old.state) (omega arith), count_if-zero (eqb k j) (is await_end e.state) (omega arith), ap (λ x. one (eqb k x)) g, ap one (not-zero k h));
          apart = ap (eqb j) g ∙ l.apart j h₀;
          quiet = λ u. absurd (omega arith);
          busy-own = λ _. omega arith;
          busy_else = λ k h o x. x;
        }) l,
      )

  -- the orphan start waiter enters
  pub wake_starter : (w d : ℕ) → 0 < j → e.end_waiter.0 ≡ old.end_waiter.0 → is ready e.state ≡ 1 → LinksUpTo ts p w j d → Names j ts × (is ready old.state + is dormant old.state + is await_sub old.state ≡ 0) × LinksUpTo (put_at ts j e) p w 0 d
  wake_starter w d h₀ g r l =
      let a : starts_of j p + one (eqb j j) ≡ is await_start old.state = l.starts j h₀ in
      let b : one (eqb j j) ≡ 1 = ap one (eqb_self j) in
      let x : counted (state_kind old.state) ≤ 1 = not-both old.state in
      let y : counted (state_kind e.state) ≤ 1 = not-both e.state in (
        busy-names ts j (omega arith),
        omega arith,
        links_put ts p j e w j d w 0 d (record {
          names = busy-names ts j (omega arith);
          starts = λ k h. omega (arith, count_if-one (eqb k j) (is await_start old.state) (omega arith), count_if-zero (eqb k j) (is await_start e.state) (omega arith), ap one (not-zero k h));
          ends = λ k h. omega (arith, count_if-zero (eqb k j) (is await_end old.state) (omega arith), count_if-zero (eqb k j) (is await_end e.state) (omega arith), ap (λ x. one (eqb k x)) g);
          apart = ap (eqb j) g ∙ l.apart j h₀;
          quiet = λ u. absurd (omega arith);
          busy-own = λ _. omega arith;
          busy_else = λ k h o x. x;
        }) l,
      )

  -- a dormant task begins a run, whose end the orphan w waits for
  pub begin : (w s : ℕ) → Names j ts → is dormant old.state ≡ 1 → is ready e.state ≡ 1 → e.end_waiter.0 ≡ w → eqb j w ≡ false → (d : ℕ) → ((k : ℕ) → 0 < k → eqb k j ≡ false → eqb k d ≡ false)
      → LinksUpTo ts p w s d → LinksUpTo (put_at ts j e) p 0 s 0
  begin w s n z r g o d f l =
      let x : counted (state_kind old.state) ≤ 1 = not-both old.state in
      let y : counted (state_kind e.state) ≤ 1 = not-both e.state in
      links_put ts p j e w s d 0 s 0 (record {
        names = n;
        starts = λ k h. omega (arith, count_if-zero (eqb k j) (is await_start old.state) (omega arith), count_if-zero (eqb k j) (is await_start e.state) (omega arith));
        ends = λ k h. omega (
          arith,
          count_if-zero (eqb k j) (is await_end old.state) (omega arith),
          count_if-zero (eqb k j) (is await_end e.state) (omega arith),
          ap (λ x. one (eqb k x)) g,
          ap (λ x. one (eqb k x)) (l.quiet j z),
          ap one (not-zero k h),
        );
        apart = ap (eqb j) g ∙ o;
        quiet = λ u. absurd (omega arith);
        busy-own = λ _. omega arith;
        busy_else = λ k h o _. f k h o;
      }) l

  -- the caller departs to wait for an end, or for a start: an orphan until a link names it
  pub await-end : (s d : ℕ) → is ready old.state ≡ 1 → is await_end e.state ≡ 1 → e.end_waiter.0 ≡ old.end_waiter.0 → LinksUpTo ts p 0 s d → LinksUpTo (put_at ts j e) p j s d
  await-end s d r z g l =
      let x : counted (state_kind old.state) ≤ 1 = not-both old.state in
      let y : counted (state_kind e.state) ≤ 1 = not-both e.state in
      let n : Names j ts = busy-names ts j (omega arith) in
      links_put ts p j e 0 s d j s d (record {
        names = n;
        starts = λ k h. omega (arith, count_if-zero (eqb k j) (is await_start old.state) (omega arith), count_if-zero (eqb k j) (is await_start e.state) (omega arith));
        ends = λ k h. omega (arith, count_if-zero (eqb k j) (is await_end old.state) (omega arith), count_if-one (eqb k j) (is await_end e.state) (omega arith), ap (λ x. one (eqb k x)) g, ap one (not-zero k h));
        apart = ap (eqb j) g ∙ l.apart j n.0;
        quiet = λ u. absurd (omega arith);
        busy-own = λ _. omega arith;
        busy_else = λ k h o x. x;
      }) l

  pub await-start : (w d : ℕ) → is ready old.state ≡ 1 → is await_start e.state ≡ 1 → e.end_waiter.0 ≡ old.end_waiter.0 → LinksUpTo ts p w 0 d → LinksUpTo (put_at ts j e) p w j d
  await-start w d r z g l =
      let x : counted (state_kind old.state) ≤ 1 = not-both old.state in
      let y : counted (state_kind e.state) ≤ 1 = not-both e.state in
      let n : Names j ts = busy-names ts j (omega arith) in
      links_put ts p j e w 0 d w j d (record {
        names = n;
        starts = λ k h. omega (arith, count_if-zero (eqb k j) (is await_start old.state) (omega arith), count_if-one (eqb k j) (is await_start e.state) (omega arith), ap one (not-zero k h));
        ends = λ k h. omega (arith, count_if-zero (eqb k j) (is await_end old.state) (omega arith), count_if-zero (eqb k j) (is await_end e.state) (omega arith), ap (λ x. one (eqb k x)) g);
        apart = ap (eqb j) g ∙ l.apart j n.0;
        quiet = λ u. absurd (omega arith);
        busy-own = λ _. omega arith;
        busy_else = λ k h o x. x;
      }) l

-- ---- the pool
module _ (ts : List Task) (p : List Request) where
  -- a request joins, and names the orphans
  pub adopt : (r : Request) → 0 < r.target.0 → is dormant (task_at ts r.target.0).state ≡ 0 → eqb r.target.0 r.start_waiter.0 ≡ false → eqb r.target.0 r.end_waiter.0 ≡ false
      → cond (eqb r.start_waiter.0 0) 0 (one (not (eqb r.end_waiter.0 0))) ≡ 0
      → LinksUpTo ts p r.end_waiter.0 r.start_waiter.0 0 → LinksUpTo ts (p ++ (r ∷ [])) 0 0 0
  adopt r h₀ z a b y l = record {
    starts = λ k h. omega (arith, l.starts k h, sum-snoc (λ (r : Request). one (eqb k r.start_waiter.0)) p r, ap one (not-zero k h));
    ends = λ k h. omega (arith, l.ends k h, sum-snoc (λ (r : Request). one (eqb k r.end_waiter.0)) p r, ap one (not-zero k h));
    others = omega (arith, l.others, sum-snoc (λ (r : Request). one (eqb r.target.0 r.start_waiter.0) + one (eqb r.target.0 r.end_waiter.0)) p r, ap one a, ap one b);
    apart = l.apart;
    single = omega (arith, l.single, y, sum-snoc (λ (r : Request). cond (eqb r.start_waiter.0 0) 0 (one (not (eqb r.end_waiter.0 0)))) p r);
    named = omega (arith, l.named, sum-snoc (λ (r : Request). one (eqb 0 r.target.0)) p r, ap one (eqb_swap r.target.0 0 (not-zero r.target.0 h₀)));
    busy = λ k h o x. mine k h o x (eqb k r.target.0) refl;
    quiet = l.quiet;
  }
    where
      mine : (k : ℕ) → 0 < k → eqb k 0 ≡ false → is dormant (task_at ts k).state ≡ 1 → (b : Bool) → eqb k r.target.0 ≡ b → targets_of k (p ++ (r ∷ [])) ≡ 0
      mine k h o x true g = absurd (omega (arith, z, ap (λ x. is dormant (task_at ts x).state) (eqb→eq k r.target.0 (So-of_true (eqb k r.target.0) g))))
      mine k h o x false g = omega (arith, sum-snoc (λ (r : Request). one (eqb k r.target.0)) p r, ap one g, l.busy k h o x)

  -- nothing is queued for d
  pub settle : (w s d : ℕ) → targets_of d p ≡ 0 → LinksUpTo ts p w s d → LinksUpTo ts p w s 0
  settle w s d z l = record {
    starts = l.starts;
    ends = l.ends;
    others = l.others;
    apart = l.apart;
    single = l.single;
    named = l.named;
    quiet = l.quiet;
    busy = λ k h o x. mine k h x (eqb k d) refl;
  }
    where
      mine : (k : ℕ) → 0 < k → is dormant (task_at ts k).state ≡ 1 → (b : Bool) → eqb k d ≡ b → targets_of k p ≡ 0
      mine k h x true g = rw (eqb→eq k d (So-of_true (eqb k d) g)) z
      mine k h x false g = l.busy k h g x

pub removed-sum : (i : ℕ) (p : List Request) (f : Request → ℕ) → i < length p → f (get_or p i no_request) + sum_of f (removed i p) ≡ sum_of f p
unfolding sum_of
removed-sum i [] f h = absurd (omega arith)
removed-sum zero (r ∷ p) f h = refl
removed-sum (suc i) (r ∷ p) f h = omega (arith, removed-sum i p f (omega arith))

pub place-target : (c : ℕ) (p : List Request) → place_of c p < length p → (get_or p (place_of c p) no_request).target.0 ≡ c
unfolding place_of
place-target c [] h = absurd (omega arith)
place-target c (r ∷ p) h = go (eqb c r.target.0) refl h (place-target c p)
  where
    go : (b : Bool) → eqb c r.target.0 ≡ b → cond b 0 (suc (place_of c p)) < suc (length p) → (place_of c p < length p → (get_or p (place_of c p) no_request).target.0 ≡ c)
        → (get_or (r ∷ p) (cond b 0 (suc (place_of c p))) no_request).target.0 ≡ c
    go true e h ih = sym (eqb→eq c r.target.0 (So-of_true (eqb c r.target.0) e))
    go false e h ih = ih (omega arith)

pub none-asked : (c : ℕ) (p : List Request) → length p ≤ place_of c p → targets_of c p ≡ 0
unfolding place_of sum_of
none-asked c [] h = refl
none-asked c (r ∷ p) h = go (eqb c r.target.0) h (none-asked c p)
  where
    go : (b : Bool) → suc (length p) ≤ cond b 0 (suc (place_of c p)) → (length p ≤ place_of c p → targets_of c p ≡ 0) → one b + targets_of c p ≡ 0
    go true h ih = absurd (omega arith)
    go false h ih = omega (arith, ih (omega arith))

-- the request at place i, for c, leaves the pool: those that it named are orphans
pub take : (ts : List Task) (p : List Request) (c d i : ℕ) → i < length p → (get_or p i no_request).target.0 ≡ c → LinksUpTo ts p 0 0 d
    → LinksUpTo ts (removed i p) (get_or p i no_request).end_waiter.0 (get_or p i no_request).start_waiter.0 d × (eqb c (get_or p i no_request).end_waiter.0 ≡ false) × (eqb c (get_or p i no_request).start_waiter.0 ≡ false)
take ts p c d i h f l =
    let r : Request = get_or p i no_request in
    let e : one (eqb r.target.0 r.start_waiter.0) + one (eqb r.target.0 r.end_waiter.0) + waits_for_itself (removed i p) ≡ waits_for_itself p =
    removed-sum i p (λ (r : Request). one (eqb r.target.0 r.start_waiter.0) + one (eqb r.target.0 r.end_waiter.0)) h in (
      record {
        starts = λ k g. omega (arith, l.starts k g, removed-sum i p (λ (r : Request). one (eqb k r.start_waiter.0)) h, ap one (not-zero k g));
        ends = λ k g. omega (arith, l.ends k g, removed-sum i p (λ (r : Request). one (eqb k r.end_waiter.0)) h, ap one (not-zero k g));
        others = omega (arith, l.others);
        apart = l.apart;
        single = omega (arith, l.single, removed-sum i p (λ (r : Request). cond (eqb r.start_waiter.0 0) 0 (one (not (eqb r.end_waiter.0 0)))) h);
        named = omega (arith, l.named, removed-sum i p (λ (r : Request). one (eqb 0 r.target.0)) h);
        busy = λ k g o x. omega (arith, l.busy k g o x, removed-sum i p (λ (r : Request). one (eqb k r.target.0)) h);
        quiet = l.quiet;
      },
      ap (λ x. eqb x r.end_waiter.0) (sym f) ∙ one-zero (eqb r.target.0 r.end_waiter.0) (omega (arith, l.others)),
      ap (λ x. eqb x r.start_waiter.0) (sym f) ∙ one-zero (eqb r.target.0 r.start_waiter.0) (omega (arith, l.others)),
    )
