-- `writers::contents::blocks_of` meets its contract: the lengths are held. Assumes nothing.
use Rattle.std.proofs.Common.{rules, arith, ◌≡◌}
use Rattle.disc.specs.Images.{sectors_for}
use Rattle.writers.proofs.FileLaws.{held_sum, sums-held}
use Rattle.writers.proofs.contents.blocks_of.Goals as goal

pub returns : goal.returns
returns c =
    let e : c.sum.result ≡ held_sum sectors_for c.args.lengths.now = search rules in
    sums-held sectors_for (λ n. omega arith) c.args.lengths.now c.requires e
