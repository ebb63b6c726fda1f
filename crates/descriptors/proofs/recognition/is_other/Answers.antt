-- `descriptors::recognition::is_other` meets its contract: either identifier is what the call that compared it ensures. Assumes nothing.
use borrow.Author.Rules.{rules}
use Rattle.descriptors.proofs.RecognitionLaws.{other-either}
use Rattle.descriptors.proofs.recognition.is_other.Goals as goal

ruleset either = (other-either, rules)

pub returns : goal.returns
returns c = search either
