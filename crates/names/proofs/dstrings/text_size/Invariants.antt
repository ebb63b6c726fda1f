-- `names::dstrings::text_size` meets its contract: what is left to count makes, with what was counted, the whole. Assumes nothing.
use Rattle.names.proofs.BodyLaws.{Left, Sizing, place}
use Rattle.names.proofs.dstrings.text_size.Given as goal

abbrev pub invariant-loop-bytes : goal.invariant-loop-bytes
invariant-loop-bytes l = record {
  left : Left l.step l.s l.bytes-iterator.size l.bytes-iterator.rest.now;
  sizing : Sizing l.step l.s l.n (place l.s l.bytes-iterator.rest.now);
}
