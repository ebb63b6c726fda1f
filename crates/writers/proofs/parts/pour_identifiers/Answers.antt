-- `writers::parts::pour_identifiers` meets its contract: what is left to pour is what the names left are. Assumes nothing.
use lib.ListN.{length, take}
use Rattle.std.proofs.lemmas.List.FromFn.{length-enumerate_from}
use Rattle.std.proofs.Common.{◌∙◌, ap, length-append}
use Rattle.std.proofs.lemmas.Iterator.Consumers.{YieldsList-from_enumerate, YieldsList-at, YieldsList-turn, YieldsList-end}
use Rattle.std.specs.Iterator.Adapters.{enumerate_source}
use Rattle.writers.proofs.PartLaws.{first_names, few-names, numbered, name-next, name-ends}
use Rattle.writers.proofs.parts.pour_identifiers.Goals as goal

pub loop-i-preserved : goal.loop-i-preserved
loop-i-preserved c =
    let few = few-names c.args.names.now (ap (λ s. s.0.now) c.take.ensures.source) c.take.ensures.count in
    let road = YieldsList-from_enumerate {s = c.into_iter-i-iterator.result} (YieldsList-at (ap enumerate_source c.into_iter-i-iterator.ensures.into_iter_gives ∙ c.enumerate-i-items.ensures.source) few) (ap (λ s. s.count) c.into_iter-i-iterator.ensures.into_iter_gives ∙ c.enumerate-i-items.ensures.count) in
    let turn = YieldsList-turn road c.loop-i.yielded c.loop-i.i-iterator c.loop-i.yielded_by c.next.result c.next.new.self (c.in-Some.i, c.in-Some.name) c.in-Some.is c.next.ensures.steps in
    let one = numbered (first_names c.args.names.now) (length c.loop-i.yielded) c.in-Some.i c.in-Some.name.now turn.0 turn.1 in
    rw length-append (name-next c.loop-i.invariant one.0 one.2 (ap (λ n. take n c.in-Some.name.now) c.min.ensures) (rw one.1 at c.identifier-place.ensures))

pub returns : goal.returns
returns c =
    let few = few-names c.args.names.now (ap (λ s. s.0.now) c.take.ensures.source) c.take.ensures.count in
    let road = YieldsList-from_enumerate {s = c.into_iter-i-iterator.result} (YieldsList-at (ap enumerate_source c.into_iter-i-iterator.ensures.into_iter_gives ∙ c.enumerate-i-items.ensures.source) few) (ap (λ s. s.count) c.into_iter-i-iterator.ensures.into_iter_gives ∙ c.enumerate-i-items.ensures.count) in
    let end = YieldsList-end road c.loop-i.yielded c.loop-i.i-iterator c.loop-i.yielded_by c.next.result c.next.new.self c.in-None.is c.next.ensures.steps in
    name-ends c.loop-i.invariant (end.1 ∙ length-enumerate_from 0 (first_names c.args.names.now))
