-- `names::matching::is_rest` meets its contract: what is left to compare says what the whole says. Assumes nothing.
use Prim.Native.Nat.{◌+◌, ◌*◌}
use Rattle.names.specs.Names.{fold_of}
use Rattle.names.specs.Inner.Matching.{Comparing}
use Rattle.names.proofs.BodyLaws.{Left, place}
use Rattle.names.proofs.matching.is_rest.Given as goal

abbrev pub invariant-loop-bytes : goal.invariant-loop-bytes
invariant-loop-bytes l = record {
  left : Left l.step l.s l.bytes-iterator.size l.bytes-iterator.rest.now;
  comparing : Comparing (fold_of l.fold) l.step l.s l.t (l.n * l.step + 1) l.n (place l.s l.bytes-iterator.rest.now) l.at;
}
