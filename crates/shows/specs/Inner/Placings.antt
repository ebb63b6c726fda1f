-- What the recursion leaves in a place that is lent for figures, node by node, whatever numbers the place has.
use Rattle.std.specs.Prelude.{ℕ, min, Bool, List, [], ◌∷◌, get_or, leb}
use Rattle.disc.specs.Choice.{pick}
use Rattle.disc.specs.Ask.{Disc}
use Rattle.disc.specs.declared.places.Mount.{Mount}
use Rattle.records.specs.declared.allocations.LongAd.{LongAd}
use Rattle.files.specs.Sizes.{sizes_of}
use Rattle.files.specs.declared.sizes.FileSizes.{FileSizes}
use Rattle.identifiers.specs.Identifiers.{is_directory}
use Rattle.figures.specs.Placed.{with_directory, with_file}
use Rattle.shows.specs.Shows.{Node}

-- a file is added, by what is measured of it; no answer number is over 16
abbrev pub sizes_placed : FileSizes → List ℕ → List ℕ
sizes_placed z s = with_file (min z.reply.answer 16) z.reply.length z.extents z.reply.count z.hops s

-- no file is read once the place has more than `most` sectors
unfoldable pub file_placed : Disc → Mount → ℕ → LongAd → List ℕ → List ℕ
file_placed d m most icb s = pick (leb (get_or s 8 0) most) (sizes_placed (sizes_of d m icb) s) s

abbrev pub entry_placed : Disc → Mount → ℕ → Bool → LongAd → List ℕ → List ℕ
entry_placed d m most directory icb s = pick directory (with_directory s) (file_placed d m most icb s)

abbrev pub node_placed : Disc → Mount → ℕ → Node → List ℕ → List ℕ
node_placed d m most n s = entry_placed d m most (is_directory n.entry.identifier) n.entry.identifier.icb s

-- nodes in turn
unfoldable pub each_placed : (Node → List ℕ → List ℕ) → List Node → List ℕ → List ℕ
each_placed put [] s = s
each_placed put (n ∷ ns) s = each_placed put ns (put n s)
