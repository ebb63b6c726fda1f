-- `names::dstrings::put_text` meets its contract: what is left to write makes, with what was written, the whole. Assumes nothing.
use Rattle.names.proofs.BodyLaws.{Left, Writing, place}
use Rattle.names.proofs.dstrings.put_text.Given as goal

abbrev pub invariant-loop-bytes : goal.invariant-loop-bytes
invariant-loop-bytes l = record {
  left : Left l.step l.s l.bytes-iterator.size l.bytes-iterator.rest.now;
  writing : Writing l.step l.s l.initial.out l.out l.n (place l.s l.bytes-iterator.rest.now);
}
