-- `crcs::by_fours` meets its contract: its tables keep their rules. Assumes nothing.
use mathlib.Core.Path.{refl, ◌∙◌}
use borrow.Author.Rules.{rules}
use Rattle.crcs.specs.Crcs.{one_bit, eight_bits, remainder}
use Rattle.crcs.proofs.TableLaws.{table-rule, further-rule}
use Rattle.crcs.proofs.FourLaws.{by-tables}
use Rattle.crcs.proofs.by_fours.Goals as goal

pub returns : goal.returns
unfolding one_bit eight_bits remainder
returns c = c.take_fours.ensures
    ∙ by-tables _ (table-rule _ refl refl) _ (further-rule _ _ refl refl refl) _ _ c.shared_slice_known-1.given (search rules)
