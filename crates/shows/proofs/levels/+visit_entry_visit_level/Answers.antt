-- `shows::levels::visit_entry` and `shows::levels::visit_level` meet their contracts, together. Assumes nothing.
use Rattle.std.proofs.Common.{rules, ap, ◌∙◌, ◌-◌}
use Rattle.listings.proofs.EntryLaws.{seen-inside}
use Rattle.shows.proofs.TurnLaws.{next_fits}
use Rattle.shows.proofs.LevelLaws.{handle-skipped, handle-file, handle-directory}
use Rattle.shows.proofs.LoopLaws.{list-ends, list-next, list-stops, level-none, level-refused, level-visited, handles-same, list_over}
use Rattle.shows.proofs.levels.+visit_entry_visit_level.Goals as goal

pub visit_entry-overflow_add-next : goal.visit_entry-overflow_add-next
visit_entry-overflow_add-next t c = next_fits _ _ _ c.requires.0 c.requires.1 (seen-inside _ c.look-e.ensures).near (let good = c.well_formed in search rules)

pub visit_entry-returns-then-e-clause-handles : goal.visit_entry-returns-then-e-clause-handles
visit_entry-returns-then-e-clause-handles t c = handle-skipped _ _ _ _ _ _ c.requires.0 c.requires.1 (search rules) _ c.look-e.ensures c.requires.2 c.if-e.true

pub visit_entry-returns-then-not-directory-clause-handles : goal.visit_entry-returns-then-not-directory-clause-handles
visit_entry-returns-then-not-directory-clause-handles t c =
    handle-file _ _ _ _ _ _ c.requires.0 c.requires.1 (search rules) _ c.look-e.ensures c.requires.2 c.if-e.false c.add_counts.ensures
    c.marks_directory-directory.ensures _ c.tally_entry.ensures c.if-not-directory.true

pub visit_entry-returns-clause-handles : goal.visit_entry-returns-clause-handles
visit_entry-returns-clause-handles t c =
    handle-directory _ _ _ _ _ _ c.requires.0 c.requires.1 (search rules) _ c.look-e.ensures c.requires.2 c.if-e.false c.add_counts.ensures
    c.marks_directory-directory.ensures _ c.tally_entry.ensures c.if-not-directory.false c.long_at-icb.ensures c.visit_level-place.ensures

pub visit_level-returns-then-left-eq0 : goal.visit_level-returns-then-left-eq0
visit_level-returns-then-left-eq0 t c = level-none _ _ _ _ c.requires c.if-left-eq0.true c.number.ensures c.stopped.ensures

pub visit_level-returns-then-q-ne-DONE : goal.visit_level-returns-then-q-ne-DONE
visit_level-returns-then-q-ne-DONE t c = level-refused _ _ _ c.if-left-eq0.false c.open_level-opened.ensures c.if-q-ne-DONE.true

pub visit_level-returns-then-q-ne-DONE-2 : goal.visit_level-returns-then-q-ne-DONE-2
visit_level-returns-then-q-ne-DONE-2 t c =
    let n = c.open_level-opened.result.length in
    level-visited _ _ _ c.if-left-eq0.false c.open_level-opened.ensures c.if-q-ne-DONE.false c.open_level-opened.auto.work
    (list-stops _ _ _ _ _ _ _ c.loop-at.invariant.0 (handles-same c.loop-at.invariant.1 (ap (λ l. l - n) c.loop-at.invariant.2) c.visit_entry-t.ensures.handles) c.if-q-ne-DONE-2.true)

pub visit_level-loop-at-preserved : goal.visit_level-loop-at-preserved
visit_level-loop-at-preserved t c =
    let i = c.loop-at.invariant in
    let n = c.open_level-opened.result.length in (
      list-next _ _ _ _ _ _ _ i.0 (handles-same i.1 (ap (λ l. l - n) i.2) c.visit_entry-t.ensures.handles) c.if-q-ne-DONE-2.false,
      c.visit_entry-t.ensures.work_unchanged ∙ i.1,
      c.visit_entry-t.auto.work ∙ i.2,
      c.visit_entry-t.auto.tally ∙ i.3,
      i.4,
    )

pub visit_level-returns : goal.visit_level-returns
visit_level-returns t c =
    level-visited _ _ _ c.if-left-eq0.false c.open_level-opened.ensures c.if-q-ne-DONE.false c.open_level-opened.auto.work
    (list-ends _ _ _ _ _ _ _ c.loop-at.invariant.0 (list_over _ _ _ c.loop-at-test.false))
