-- `names::dstrings::put_text` meets its contract: what is left to write makes, with what was written, the whole. Assumes nothing.
use borrow.Author.Rules.{rules}
use Rattle.names.proofs.BodyLaws.{chunk, left-more, left-next, left-place-next, left-unit, left-end, write-zero, write-counts, write-next, write-end}
use Rattle.names.proofs.dstrings.put_text.Goals as goal

pub returns-then-code-eq0 : goal.returns-then-code-eq0
returns-then-code-eq0 c =
    let k = c.loop-bytes.invariant.left in
    let t = chunk c.in-Some.ensures.steps.1 in
    write-zero c.loop-bytes.invariant.writing (left-more k t) (left-unit k t c.requires.one c.requires.two c.unit-code.ensures) c.if-code-eq0.true

pub put-n-requires : goal.put-n-requires
put-n-requires c = write-counts c.loop-bytes.invariant.writing (search rules) (search rules)

pub loop-bytes-preserved : goal.loop-bytes-preserved
loop-bytes-preserved c =
    let k = c.loop-bytes.invariant.left in
    let t = chunk c.in-Some.ensures.steps.1 in
    record {
      left = left-next k t c.in-Some.ensures.steps.0;
      writing = rw (left-place-next k t) at (write-next c.loop-bytes.invariant.writing (left-more k t) (left-unit k t c.requires.one c.requires.two c.unit-code.ensures) (search rules) c.put-n.ensures (search rules));
    }

pub returns : goal.returns
returns c = write-end c.loop-bytes.invariant.writing (left-end c.loop-bytes.invariant.left c.in-None.ensures.steps.1.0)
