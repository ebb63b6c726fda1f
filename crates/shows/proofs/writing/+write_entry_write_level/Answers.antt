-- `shows::writing::write_entry` and `shows::writing::write_level` meet their contracts, together. Assumes nothing.
use Rattle.std.proofs.Common.{rules, ap, ◌∙◌, ◌-◌}
use borrow.Author.Tests.{not-true, not-false}
use Rattle.directories.proofs.SpaceLaws.{reads-room}
use Rattle.shows.proofs.WriteLaws.{turn-plain, turn-deeper, write-next, writes-same, level-unwritten, level-written}
use Rattle.shows.proofs.writing.+write_entry_write_level.Goals as goal

pub write_entry-returns-then-not-e-clause-entry_writes : goal.write_entry-returns-then-not-e-clause-entry_writes
write_entry-returns-then-not-e-clause-entry_writes t c = turn-plain _ _ _ _ _ _ _ c.requires.0 c.requires.1 (search rules) _ _ c.requires.3 c.put_node-e.ensures (not-true _ c.if-not-e.true)

pub write_entry-returns-clause-entry_writes : goal.write_entry-returns-clause-entry_writes
write_entry-returns-clause-entry_writes t c =
    turn-deeper _ _ _ _ _ _ _ c.requires.0 c.requires.1 (search rules) _ _ c.requires.3 c.put_node-e.ensures (not-false _ c.if-not-e.false) (search rules) c.long_at-icb.ensures
    c.write_level-to.ensures

pub write_level-returns-then-left-eq0 : goal.write_level-returns-then-left-eq0
write_level-returns-then-left-eq0 t c = level-unwritten _ _ _ _ _ c.if-left-eq0.true c.requires.1

pub write_level-loop-at-preserved : goal.write_level-loop-at-preserved
write_level-loop-at-preserved t c =
    let i = c.loop-at.invariant in
    let n = c.read_directory-read.result.length in (
      write-next _ _ _ _ _ _ _ _ i.0 (writes-same i.1 (ap (λ l. l - n) i.2) c.write_entry-t.ensures.entry_writes) c.write_entry-t.auto.out,
      c.write_entry-t.ensures.work_unchanged ∙ i.1,
      c.write_entry-t.auto.work ∙ i.2,
      i.3,
    )

pub write_level-returns : goal.write_level-returns
write_level-returns t c =
    level-written _ _ _ _ c.if-left-eq0.false _ c.read_directory-read.ensures (reads-room c.read_directory-read.ensures) c.read_directory-read.auto.work _ _ c.loop-at.invariant.0 c.loop-at-test.false
