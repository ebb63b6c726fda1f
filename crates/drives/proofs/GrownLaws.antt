-- A row that is made longer between two steps, and a length that is set back: what is left of a read doesn't go by the places behind those in use, nor by how
-- many bytes stand in the output. Assumes nothing.
use mathlib.Core.Path.{◌≡◌, refl, ap}
use mathlib.Core.List.{List, ◌++◌, map}
use Prim.Native.Nat.{ℕ, suc, ◌≤◌}
use lib.ListN.{length, take, drop}
use lib.Seq.{take-append-le}
use lib.Dec.{eqb, leb}
use Rattle.disc.specs.Choice.{pick}
use Rattle.disc.specs.Ask.{then}
use Rattle.disc.specs.Images.{sectors}
use Rattle.disc.specs.Places.{is_checked}
use Rattle.tags.specs.Tags.{read_aed}
use Rattle.areas.specs.declared.AllocExtent.{AllocExtent}
use Rattle.chains.specs.Chains.{area_in}
use Rattle.files.specs.Files.{entry_in}
use Rattle.drives.specs.Feeds.{Feed, following, naming, crowded_by}
use Rattle.drives.specs.Feeds.Feed.{over}
use Rattle.drives.specs.FileFeeds.{extent_feed, extents_feed, joined, named_by, entry_feed}
use Rattle.drives.specs.Readings.{extent_in, extents_in, headed, rest_of, padded, behind_area, feed_of, is_wanting, end_tree, left_of}
use Rattle.drives.specs.declared.readings.Reading.{Reading}
use Rattle.drives.specs.Walks.{with_length}

pub length-free : (r : Reading) (n : ℕ) (row : List (List ℕ)) → left_of (with_length r n) row ≡ left_of r row
unfolding left_of feed_of
length-free r n row = refl

module _ (r : Reading) (row more : List (List ℕ)) (inside : r.scan.listed ≤ length row) where
  used : extents_in (row ++ more) r.scan.listed ≡ extents_in row r.scan.listed
  used = ap (map extent_in) (take-append-le r.scan.listed row more inside)

  -- what is left, by the extents that wait
  feed_by : List AllocExtent → Feed
  feed_by es =
      pick (eqb r.phase 0) (following (entry_in (is_checked r.mount) r.at) (entry_feed r.mount))
      (pick (eqb r.phase 1)
      (naming (named_by r.kind r.size es) (then (sectors (suc r.left) r.at) (λ s. area_in r.kind r.size s (read_aed (is_checked r.mount) s))) (behind_area r es))
      (pick (eqb r.phase 2)
      (crowded_by r.scan.full
      (naming (λ b. length (joined es (rest_of r.kind r.scan (take r.body.area_left b)))) (sectors (suc r.left) r.at) (λ b.
      headed (is_checked r.mount) r.body b (behind_area r es (rest_of r.kind r.scan (padded r.body.area_left b))))))
      (extent_feed (suc r.left) r.at r.size r.missing (λ left. pick (leb left 0) over (extents_feed r.mount (drop r.next es) left)))))

  pub left_grown : left_of r (row ++ more) ≡ left_of r row
  unfolding left_of feed_of feed_by
  left_grown = ap (λ es. pick (is_wanting r) (feed_by es) (end_tree r.answer)) used
