-- `writers::namings::count_of` meets its contract: there are no more names than bytes. Assumes nothing.
use Rattle.std.proofs.Common.{arith}
use mathlib.Core.Bool.{true}
use mathlib.Core.Logic.{inl}
use Rattle.writers.proofs.NameLaws.{names-few}
use Rattle.writers.proofs.namings.count_of.Goals as goal

pub count-requires-clause-fits : goal.count-requires-clause-fits
count-requires-clause-fits c = inl (omega (arith, names-few true c.args.names.now))
