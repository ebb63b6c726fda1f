-- `writers::contents::sum_of` meets its contract: the lengths are held. Assumes nothing.
use Rattle.std.proofs.Common.{rules, arith, ◌≡◌}
use Rattle.writers.proofs.FileLaws.{held_sum, sums-held}
use Rattle.writers.proofs.contents.sum_of.Goals as goal

pub returns : goal.returns
returns c =
    let e : c.sum.result ≡ held_sum (λ n. n) c.args.lengths.now = search rules in
    sums-held (λ n. n) (λ n. omega arith) c.args.lengths.now c.requires e
