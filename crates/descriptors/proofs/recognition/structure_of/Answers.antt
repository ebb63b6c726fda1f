-- `descriptors::recognition::structure_of` meets its contract: the first byte says which case of `structure_of` holds. Assumes nothing.
use borrow.Author.Rules.{rules}
use Rattle.descriptors.proofs.RecognitionLaws.{type-other, type-zero}
use Rattle.descriptors.proofs.recognition.structure_of.Goals as goal

ruleset types = (type-other, type-zero, rules)

pub returns-then-fetched-ne0 : goal.returns-then-fetched-ne0
returns-then-fetched-ne0 c = search types

pub returns : goal.returns
returns c = search types
