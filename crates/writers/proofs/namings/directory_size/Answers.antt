-- `writers::namings::directory_size` meets its contract: the names left add what is left. Assumes nothing.
use Rattle.std.proofs.Common.{ap, length-append}
use Rattle.std.proofs.lemmas.Iterator.Consumers.{YieldsList-at, YieldsList-turn, YieldsList-end}
use Rattle.writers.proofs.PartLaws.{few-names, size-next, size-ends}
use Rattle.writers.proofs.namings.directory_size.Goals as goal

pub loop-name-preserved : goal.loop-name-preserved
loop-name-preserved c =
    let road = YieldsList-at c.into_iter-name-iterator.ensures.into_iter_gives (few-names c.args.names.now (ap (λ s. s.0.now) c.take-name-items.ensures.source) c.take-name-items.ensures.count) in
    let turn = YieldsList-turn road c.loop-name.yielded c.loop-name.name-iterator c.loop-name.yielded_by c.next.result c.next.new.self c.in-Some.name c.in-Some.is c.next.ensures.steps in
    rw (length-append, c.identifier_size-size.ensures, c.min.ensures) (size-next c.loop-name.invariant turn.0 turn.1)

pub returns : goal.returns
returns c =
    let road = YieldsList-at c.into_iter-name-iterator.ensures.into_iter_gives (few-names c.args.names.now (ap (λ s. s.0.now) c.take-name-items.ensures.source) c.take-name-items.ensures.count) in
    let end = YieldsList-end road c.loop-name.yielded c.loop-name.name-iterator c.loop-name.yielded_by c.next.result c.next.new.self c.in-None.is c.next.ensures.steps in
    size-ends c.loop-name.invariant end.1
