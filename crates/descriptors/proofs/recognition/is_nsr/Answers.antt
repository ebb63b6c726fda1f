-- `descriptors::recognition::is_nsr` meets its contract: either identifier is what the call that compared it ensures. Assumes nothing.
use borrow.Author.Rules.{rules}
use Rattle.descriptors.proofs.RecognitionLaws.{nsr-either}
use Rattle.descriptors.proofs.recognition.is_nsr.Goals as goal

ruleset either = (nsr-either, rules)

pub returns : goal.returns
returns c = search either
