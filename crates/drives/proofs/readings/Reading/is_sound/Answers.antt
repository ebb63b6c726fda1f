use borrow.Author.Rules.{rules}
use Rattle.drives.proofs.StepLaws.{sound-header, sound-other, sound-whole, sound-body}
use Rattle.drives.proofs.readings.Reading.is_sound.Goals as goal

ruleset sounds = (sound-header, sound-other, sound-whole, sound-body, rules)

pub overflow_cast-held : goal.overflow_cast-held
overflow_cast-held c = search sounds

pub overflow_add-held : goal.overflow_add-held
overflow_add-held c = search sounds

pub overflow_mul-held : goal.overflow_mul-held
overflow_mul-held c = search sounds

pub overflow_cast-result : goal.overflow_cast-result
overflow_cast-result c = search sounds

pub returns-then-self-eq-AT_HEADER : goal.returns-then-self-eq-AT_HEADER
returns-then-self-eq-AT_HEADER c = search sounds

pub returns-then-self-ne-IN_CONTINUATION : goal.returns-then-self-ne-IN_CONTINUATION
returns-then-self-ne-IN_CONTINUATION c = search sounds

pub size_of-requires : goal.size_of-requires
size_of-requires c = search sounds

pub returns-then-size_of-scan : goal.returns-then-size_of-scan
returns-then-size_of-scan c = search sounds

pub overflow_cast-result-2 : goal.overflow_cast-result-2
overflow_cast-result-2 c = search sounds

pub returns : goal.returns
returns c = search sounds
