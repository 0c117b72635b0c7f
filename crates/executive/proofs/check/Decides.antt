-- The check passes exactly where the table is well formed; what it answers is determined.
use Prim.Native.Nat.{ℕ, ◌≤◌}
use mathlib.Core.Path.{◌≡◌, refl, sym, ◌∙◌}
use mathlib.Core.Logic.{◌↔◌}
use mathlib.Core.Bool.{Bool, true, false}
use native.Mathlib.Omega.{arith}
use borrow.Author.Tests.{eqb-true, eq-eqb}
use lib.ListN.{length}
use Rattle.executive.specs.declared.Table.{Table}
use Rattle.executive.specs.Table.{view, levels_of}
use Rattle.executive.specs.WellFormed.{Queue, WellFormed}
use Rattle.executive.specs.Check.{numbers_right, order_right, queue_right, times_right, started_right, masks_right, busy_right, waiters_right, dormant_right, pool_right, subs_right, all_but_queue, is_well_formed, Checked, Decided}
use Rattle.executive.proofs.Lists.Tests.{and_true, true_and}
use Rattle.executive.proofs.check.RuleByRule.{Known, lined, numbers-get, numbers_make, queue-get, queue_make, times-get, times_make, started-get, started_make, masks-get, masks_make, busy-get, busy_make, waiters-get, waiters_make, dormant-get, dormant-mail, dormant_make, pool-get, pool_make}
use Rattle.executive.proofs.check.Subprograms.{subs-get, subs_make}
use Rattle.executive.proofs.check.Messages.{messages-get, messages_make}
use Rattle.executive.proofs.check.Levels.{levels-get, levels_make}

module _ (t : Table) where
  formed : is_well_formed t ≡ true → WellFormed t
  unfolding is_well_formed all_but_queue queue_right
  formed e =
      let ts = t.tasks in
      let r = t.rest in
      let b = and_true (queue_right t) _ e in
      let o = and_true (order_right t) _ b.0 in
      let a = and_true (numbers_right ts r) _ b.1 in
      let c = and_true (times_right ts r) _ a.1 in
      let d = and_true (started_right ts r) _ c.1 in
      let f = and_true (masks_right ts r) _ d.1 in
      let g = and_true (busy_right ts r) _ f.1 in
      let h = and_true (waiters_right ts r) _ g.1 in
      let j = and_true (dormant_right ts r) _ h.1 in
      let k = and_true (pool_right r) _ j.1 in
      let l = and_true (subs_right ts r) _ k.1 in
      let w : Known t = numbers-get t (lined t b.0) a.0 in
      let q : Queue t = queue-get t w.range o.0 in
      record {
        numbers = w.range;
        queue = q;
        times = times-get t c.0;
        started = started-get t d.0;
        masks = masks-get t f.0;
        busy = busy-get t g.0;
        waiters = waiters-get t w h.0;
        dormant = dormant-get t j.0;
        emptied = dormant-mail t w.range.sizes.mail j.0;
        pool = pool-get t w.range.sizes.pool k.0;
        subprograms = subs-get t w.range l.0;
        messages = messages-get ts r w.range.sizes.messages l.1;
        levels = levels-get t q.exactly w.range.priority (eqb-true _ _ o.1);
      }

  passes : WellFormed t → is_well_formed t ≡ true
  unfolding is_well_formed all_but_queue queue_right
  passes w =
      let ts = t.tasks in
      let r = t.rest in
      true_and (queue_right t) _
      (true_and (order_right t) _ (queue_make t w.numbers w.queue) (eq-eqb _ _ (levels_make t w.queue.exactly w.numbers.priority w.levels)))
      (true_and (numbers_right ts r) _ (numbers_make t w.numbers)
      (true_and (times_right ts r) _ (times_make t w.times)
      (true_and (started_right ts r) _ (started_make t w.started)
      (true_and (masks_right ts r) _ (masks_make t w.masks)
      (true_and (busy_right ts r) _ (busy_make t w.busy)
      (true_and (waiters_right ts r) _ (waiters_make t w.waiters)
      (true_and (dormant_right ts r) _ (dormant_make t w.dormant w.emptied)
      (true_and (pool_right r) _ (pool_make t w.numbers.sizes.pool w.pool)
      (true_and (subs_right ts r) _ (subs_make t w.numbers w.subprograms)
      (messages_make ts r r.count w.numbers.sizes.messages w.numbers.letters w.messages))))))))))

  -- a table whose entries and rest keep their rules, and whose queue and word are right, is well formed
  pub formed-by : all_but_queue t.tasks t.rest ≡ true → length t.queue ≡ 16 → t.ready ≤ 16 → Queue t → t.levels ≡ levels_of (view t) → WellFormed t
  unfolding is_well_formed all_but_queue queue_right
  formed-by b l r q e =
      let a = and_true (numbers_right t.tasks t.rest) _ b in
      let w : Known t = numbers-get t (record { size = l; ready = r }) a.0 in
      formed (true_and (queue_right t) _ (true_and (order_right t) _ (queue_make t w.range q) (eq-eqb _ _ e)) b)

  pub well_formed-iff : (is_well_formed t ≡ true) ↔ WellFormed t
  well_formed-iff = (formed, passes)

  -- a table that the check refuses is not well formed
  pub refused : is_well_formed t ≡ false → WellFormed t → ⊥
  refused e w = let p = passes w in let z : ◌≡◌ {A = ℕ} 0 1 = cc in omega arith

  -- what the check answers
  pub checked_right : is_well_formed t ≡ true → Checked t 0
  checked_right e = record { right = (λ z. formed e, λ w. refl); wrong = (λ z. absurd (omega arith), λ n. absurd (n (formed e))) }

  pub checked_wrong : is_well_formed t ≡ false → Checked t 1
  checked_wrong e = record { right = (λ z. absurd (omega arith), λ w. absurd (refused e w)); wrong = (λ z. refused e, λ n. refl) }

  -- any two outcomes of the check are equal
  pub checked_once : (r s : ℕ) → Checked t r → Checked t s → r ≡ s
  checked_once r s a b = go (is_well_formed t) refl
    where
      go : (c : Bool) → is_well_formed t ≡ c → r ≡ s
      go true e = a.right.1 (formed e) ∙ sym (b.right.1 (formed e))
      go false e = a.wrong.1 (refused e) ∙ sym (b.wrong.1 (refused e))

pub decided : Decided
decided = record { iff = well_formed-iff; once = checked_once }
