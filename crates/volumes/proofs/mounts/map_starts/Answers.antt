-- `volumes::mounts::map_starts` meets its contract: the laws of the loop over the maps. Assumes nothing.
use borrow.Author.Rules.{rules}
use Rattle.volumes.proofs.MapLaws.{mapping-next, mapping-stops, mapping-ends}
use Rattle.volumes.proofs.mounts.map_starts.Goals as goal

ruleset maps = (mapping-next, mapping-ends, rules)

pub returns-in_err-starts : goal.returns-in_err-starts
returns-in_err-starts c = rw c.from_residual.ensures (mapping-stops c.loop-i.invariant c.loop-i-test.true c.map_at.ensures c.map_start.ensures c.in_err-starts.was)

pub loop-i-preserved : goal.loop-i-preserved
loop-i-preserved c = search maps

pub returns : goal.returns
returns c = search maps
