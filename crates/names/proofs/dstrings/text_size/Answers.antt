-- `names::dstrings::text_size` meets its contract: what is left to count makes, with what was counted, the whole. Assumes nothing.
use borrow.Author.Rules.{rules}
use Rattle.names.proofs.BodyLaws.{chunk, left-more, left-next, left-place-next, left-unit, left-end, size-zero, size-adds, size-next, size-end}
use Rattle.names.proofs.dstrings.text_size.Goals as goal

pub returns-then-u-eq0 : goal.returns-then-u-eq0
returns-then-u-eq0 c =
    let k = c.loop-bytes.invariant.left in
    let t = chunk c.in-Some.ensures.steps.1 in
    size-zero c.loop-bytes.invariant.sizing (left-more k t) (left-unit k t c.requires.one c.requires.two c.unit-u.ensures) c.if-u-eq0.true

pub overflow_add-n : goal.overflow_add-n
overflow_add-n c =
    let k = c.loop-bytes.invariant.left in
    let t = chunk c.in-Some.ensures.steps.1 in
    size-adds c.loop-bytes.invariant.sizing (left-more k t) (left-unit k t c.requires.one c.requires.two c.unit-u.ensures) c.if-u-eq0.false (search rules) (search rules) c.unit_size-n.ensures

pub loop-bytes-preserved : goal.loop-bytes-preserved
loop-bytes-preserved c =
    let k = c.loop-bytes.invariant.left in
    let t = chunk c.in-Some.ensures.steps.1 in
    record {
      left = left-next k t c.in-Some.ensures.steps.0;
      sizing = rw (left-place-next k t) at (size-next c.loop-bytes.invariant.sizing (left-more k t) (left-unit k t c.requires.one c.requires.two c.unit-u.ensures) c.if-u-eq0.false c.unit_size-n.ensures);
    }

pub returns : goal.returns
returns c = size-end c.loop-bytes.invariant.sizing (left-end c.loop-bytes.invariant.left c.in-None.ensures.steps.1.0)
