use mathlib.Core.Path.{refl}
use Rattle.executive.specs.Messages.{no_message}
use lib.ListN.{get_or}
use Rattle.image.proofs.Finds.{addressee-read, sender-read, fits-other, fits-any, fits-from}
use Rattle.image.proofs.letters.is_fit.Goals as goal

pub returns-then-k-b : goal.returns-then-k-b
returns-then-k-b c =
    let a = c.args in
    let p = c.requires in
    λ t l. fits-other a.k.0 a.s.0 _ _ (get_or t.rest.messages a.i no_message) (addressee-read t l a.i p) (sender-read t l a.i p) c.if-k-b.true

pub returns-then-s-eq0 : goal.returns-then-s-eq0
returns-then-s-eq0 c =
    let a = c.args in
    let p = c.requires in
    λ t l. fits-any a.k.0 a.s.0 _ _ (get_or t.rest.messages a.i no_message) (addressee-read t l a.i p) (sender-read t l a.i p) c.if-k-b.false c.if-s-eq0.true

pub returns : goal.returns
returns c =
    let a = c.args in
    let p = c.requires in
    λ t l. fits-from a.k.0 a.s.0 _ _ (get_or t.rest.messages a.i no_message) (addressee-read t l a.i p) (sender-read t l a.i p) _ c.if-k-b.false c.if-s-eq0.false refl
