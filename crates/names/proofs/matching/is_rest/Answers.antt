-- `names::matching::is_rest` meets its contract: what is left to compare says what the whole says. Assumes nothing.
use borrow.Author.Rules.{rules}
use borrow.Author.Tests.{not-true, not-false}
use Rattle.names.proofs.BodyLaws.{chunk, left-more, left-next, left-place-next, left-unit, left-end}
use Rattle.names.proofs.MatchLaws.{compare-next, compare-stop, compare-zero, compare-end}
use Rattle.names.proofs.matching.is_rest.Goals as goal

ruleset tests = (not-true, not-false, rules)

pub returns-then-u-eq0 : goal.returns-then-u-eq0
returns-then-u-eq0 c =
    let k = c.loop-bytes.invariant.left in
    let t = chunk c.in-Some.ensures.steps.1 in
    compare-zero c.loop-bytes.invariant.comparing (left-more k t) (left-unit k t c.requires.body.one c.requires.body.two c.unit-u.ensures) c.if-u-eq0.true

pub returns-then-not-p : goal.returns-then-not-p
returns-then-not-p c =
    let k = c.loop-bytes.invariant.left in
    let t = chunk c.in-Some.ensures.steps.1 in
    compare-stop c.loop-bytes.invariant.comparing (left-more k t) (left-unit k t c.requires.body.one c.requires.body.two c.unit-u.ensures) c.if-u-eq0.false c.match_unit-p.ensures (search tests)

pub loop-bytes-preserved : goal.loop-bytes-preserved
loop-bytes-preserved c =
    let k = c.loop-bytes.invariant.left in
    let t = chunk c.in-Some.ensures.steps.1 in
    record {
      left = left-next k t c.in-Some.ensures.steps.0;
      comparing = rw (left-place-next k t) at (compare-next c.loop-bytes.invariant.comparing (left-more k t) (left-unit k t c.requires.body.one c.requires.body.two c.unit-u.ensures) c.if-u-eq0.false c.match_unit-p.ensures (search tests));
    }

pub returns : goal.returns
returns c = compare-end c.loop-bytes.invariant.comparing (left-end c.loop-bytes.invariant.left c.in-None.ensures.steps.1.0)
