-- `drives::scans::take_bytes` meets its contract: what is taken and what is yet to come lead to what all of it leads to. Assumes nothing.
use borrow.Author.Rules.{rules}
use Rattle.drives.proofs.ScanLaws.{along-starts, along-fits, along-long, along-next, along-ends}
use Rattle.drives.proofs.scans.take_bytes.Goals as goal

ruleset along = (along-starts, along-fits, along-long, along-next, along-ends, rules)

pub loop-b-init : goal.loop-b-init
loop-b-init c = search along

pub take_byte-s-requires : goal.take_byte-s-requires
take_byte-s-requires c = search along

pub loop-b-preserved : goal.loop-b-preserved
loop-b-preserved c = search along

pub shape_of-row : goal.shape_of-row
shape_of-row c = search along

pub returns : goal.returns
returns c = search along
