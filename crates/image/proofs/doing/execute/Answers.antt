-- `doing::execute` meets its contract: the caller leaves, the rest changes, and those who enter find a line that descends.
use mathlib.Core.Path.{◌≡◌, sym, subst, ◌∙◌}
use Rattle.executive.specs.declared.Rest.{Rest}
use Rattle.executive.specs.declared.Millis.{Millis}
use Rattle.executive.specs.Pool.{PoolInOrder}
use Rattle.executive.specs.Table.{enter_all_in_flight, lit_in_flight, FindsRoom, begin, depart, relit}
use Rattle.executive.specs.Decisions.{Able, out_for, joins_for, named}
use Rattle.executive.proofs.Assured.{depart-rest}
use Rattle.image.specs.Laid.{Laid}
use Rattle.image.specs.Marks.{Running}
use Rattle.image.proofs.Parts.{onto}
use Rattle.image.proofs.ReadOff.{clock-read}
use Rattle.image.proofs.DoneLaid.{midway, midway-flying, midway-finds, midway-sorted, whole_is, rest-same}
use Rattle.image.proofs.doing.execute.Goals as goal

pub returns : goal.returns
returns c =
    λ t l g o.
    let a = c.args in
    let d = a.d in
    let et : record { 0 = c.long_in.result } ≡ t.rest.clock = (λ j. record { 0 = (c.long_in.ensures ∙ clock-read t l) j }) in
    let c1 = c.leave.ensures t l o.fit o.queue o.lit in
    let er : (relit (depart (out_for d.leave) t)).rest ≡ t.rest = depart-rest (out_for d.leave) t in
    let c2 = c.change.ensures _ c1 (subst (λ (r : Rest). Running a.running r.alarms) (sym er) g) (subst PoolInOrder (sym er) o.fit.neat) (subst (Able d.change) (sym er) o.able) in
    let c3 = c.set_mail.ensures _ c2 in
    let c4 : Laid _ (midway d t o) = rest-same d t o _ er c3 in
    let c5 = c.enter_all.ensures (midway d t o) c4 (midway-flying d t o) (subst (λ (m : Millis). FindsRoom (joins_for d.request m (named d.entrants)) (midway d t o)) (sym et) (midway-finds d t o)) (midway-sorted d t o) in
    let e =
    (λ j. lit_in_flight (enter_all_in_flight (joins_for d.request (et j) (named d.entrants)) (begin (midway d t o)))) ∙ whole_is d t o in
    (onto (λ j. (e j).table) c5.0, c5.1 ∙ (λ j. (e j).walked))
