-- `shows::levels::open_level` meets its contract: more sectors than may be asked for, the refusal of the read, that of a bad entry, then the directory. Assumes nothing.
use borrow.Author.Rules.{rules}
use Rattle.directories.proofs.SpaceLaws.{reads-room}
use Rattle.shows.proofs.LevelLaws.{open-over, open-refused, open-bad, open-good}
use Rattle.shows.proofs.levels.open_level.Goals as goal

ruleset opens = (reads-room, open-over, open-refused, rules)

pub returns-then-p-count : goal.returns-then-p-count
returns-then-p-count c = search opens

pub returns-then-read-ne-DONE : goal.returns-then-read-ne-DONE
returns-then-read-ne-DONE c = search opens

pub slice_bounds-measure-end : goal.slice_bounds-measure-end
slice_bounds-measure-end c = search opens

pub returns-in-Err : goal.returns-in-Err
returns-in-Err c = open-bad _ _ _ _ _ c.read_directory-read.ensures _ c.add_counts-count.ensures c.if-p-count.false c.if-read-ne-DONE.false
    c.is_checked-check.ensures c.measure.ensures c.in-Err.is c.number-in-Err.ensures c.stopped-in-Err.ensures

pub returns-in-Ok : goal.returns-in-Ok
returns-in-Ok c = open-good _ _ _ _ _ c.read_directory-read.ensures _ c.add_counts-count.ensures c.if-p-count.false c.if-read-ne-DONE.false
    c.is_checked-check.ensures c.measure.ensures c.in-Ok.is (reads-room c.read_directory-read.ensures) c.add_counts.ensures
