-- `volumes::mounts::map_starts` meets its contract: the laws of the loop over the maps. Assumes nothing.
use Rattle.volumes.proofs.MapLaws.{Mapping}
use Rattle.volumes.proofs.mounts.map_starts.Given as goal

abbrev pub invariant-loop-i : goal.invariant-loop-i
invariant-loop-i l = Mapping l.image l.how l.first l.n l.fn.kept.maps l.fn.kept.map_count l.starts l.i
