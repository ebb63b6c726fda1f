use borrow.Author.Rules.{rules}
use Rattle.drives.proofs.StepLaws.{want-over, want-past, want-far, want-sound}
use Rattle.drives.proofs.readings.Reading.is_wanting.Goals as goal

ruleset wanting = (want-over, want-past, want-far, want-sound, rules)

pub returns-then-self-ge-OVER : goal.returns-then-self-ge-OVER
returns-then-self-ge-OVER c = search wanting

pub returns-then-self-ge-MOST_SECTORS : goal.returns-then-self-ge-MOST_SECTORS
returns-then-self-ge-MOST_SECTORS c = search wanting

pub overflow_cast-self : goal.overflow_cast-self
overflow_cast-self c = search wanting

pub overflow_add-self : goal.overflow_add-self
overflow_add-self c = search wanting

pub returns-then-self-ge-MOST_SECTORS-2 : goal.returns-then-self-ge-MOST_SECTORS-2
returns-then-self-ge-MOST_SECTORS-2 c = search wanting

pub is_sound-requires : goal.is_sound-requires
is_sound-requires c = search wanting

pub returns : goal.returns
returns c = search wanting
