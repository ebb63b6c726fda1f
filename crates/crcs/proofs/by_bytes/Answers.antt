-- `crcs::by_bytes` meets its contract: its table keeps the rule. Assumes nothing.
use mathlib.Core.Path.{refl, ◌∙◌}
use borrow.Author.Rules.{rules}
use Rattle.crcs.specs.Crcs.{one_bit, eight_bits, remainder}
use Rattle.crcs.proofs.TableLaws.{table-rule}
use Rattle.crcs.proofs.FourLaws.{by-table}
use Rattle.crcs.proofs.by_bytes.Goals as goal

pub returns : goal.returns
unfolding one_bit eight_bits remainder
returns c = c.take_bytes.ensures ∙ by-table _ (table-rule _ refl refl) _ _ c.shared_slice_known-1.given (search rules)
