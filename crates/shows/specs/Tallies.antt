-- The figures of a volume's tree, and the sectors that are lent for it and for the reads of its files: RULES 16.4 and 16.13.
use Rattle.std.specs.Prelude.{ℕ, Bool, true, ◌&&◌, not, List, map, [], ◌∷◌, length, replicate, eqb}
use Rattle.disc.specs.Choice.{pick}
use Rattle.disc.specs.Refusals.{number}
use Rattle.disc.specs.Counts.{reported}
use Rattle.disc.specs.Ask.{Disc, Outcome}
use Rattle.disc.specs.Ask.Outcome.{answered, refused}
use Rattle.disc.specs.Ran.{Ran, ran}
use Rattle.disc.specs.Budgets.{budgeted, left_of, is_over}
use Rattle.disc.specs.declared.places.Mount.{Mount}
use Rattle.disc.specs.declared.refusals.Refusal.TheVariants.{BadShelf, OverBudget}
use Rattle.records.specs.declared.allocations.LongAd.{LongAd}
use Rattle.files.specs.Files.{file_bytes, file_extents, file_hops}
use Rattle.files.specs.Sizes.{length_in, number_in}
use Rattle.identifiers.specs.Identifiers.{is_directory}
use Rattle.figures.specs.Figures.{Figures, nothing, one_directory, one_file, all_added, row, place}
use Rattle.shows.specs.Shows.{Node, most_levels, tree}

-- ---- of a file, output room taken as enough

-- a file that is read adds its bytes, its extents and its chain; a refused one only its answer number and its sectors
abbrev pub file_by : ℕ → Outcome (List ℕ) → ℕ → ℕ → Figures
file_by sectors (answered b) extents chain = one_file 0 (length b) extents sectors chain
file_by sectors (refused why) extents chain = one_file (number why) 0 0 sectors 0

-- the sectors are the count that the read reports
unfoldable pub of_file : Disc → Mount → LongAd → Figures
of_file d m icb =
    file_by (reported (ran d (file_bytes m icb)).count) (ran d (file_bytes m icb)).outcome (length_in (ran d (file_extents m icb)).outcome) (number_in (ran d (file_hops m icb)).outcome)

-- ---- of the nodes of a tree, each once for each path

abbrev pub of_entry : Disc → Mount → Bool → LongAd → Figures
of_entry d m directory icb = pick directory one_directory (of_file d m icb)

abbrev pub of_node : Disc → Mount → Node → Figures
of_node d m n = of_entry d m (is_directory n.entry.identifier) n.entry.identifier.icb

abbrev pub of_nodes : Disc → Mount → List Node → Figures
of_nodes d m ns = all_added (map (of_node d m) ns)

-- the counts reported by the reads of the files among the nodes
unfoldable pub read_counts : Disc → Mount → List Node → List ℕ
read_counts d m [] = []
read_counts d m (n ∷ ns) =
    pick (is_directory n.entry.identifier) (read_counts d m ns)
    (reported (ran d (file_bytes m n.entry.identifier.icb)).count ∷ read_counts d m ns)

-- ---- the sectors that are lent for them

-- the read of a file that is lent `most` sectors
abbrev pub lent_read : Disc → Mount → ℕ → Node → Ran (List ℕ)
lent_read d m most n = ran d (budgeted most (file_bytes m n.entry.identifier.icb))

-- no read wants too many sectors: the files are read in the order of the nodes, each with what those before it have left
unfoldable pub reads_within : Disc → Mount → ℕ → List Node → Bool
reads_within d m most [] = true
reads_within d m most (n ∷ ns) =
    pick (is_directory n.entry.identifier) (reads_within d m most ns)
    (not (is_over (lent_read d m most n).outcome) && reads_within d m (left_of most (lent_read d m most n).count) ns)

-- ---- a tree and the reads of its files: an answer number, and the figures, which are all 0 under any number but 0

pub record Tally : Type 0 where
  pub answer : ℕ
  pub figures : Figures

-- the tree comes first, and the reads have what it has left
abbrev pub tally_by : Disc → Mount → ℕ → Outcome (List Node) → Tally
tally_by d m left (answered ns) = pick (reads_within d m left ns) (record { answer = 0; figures = of_nodes d m ns }) (record { answer = number OverBudget; figures = nothing })
tally_by d m left (refused why) = record { answer = number why; figures = nothing }

abbrev pub tally_of : Disc → Mount → ℕ → Ran (List Node) → Tally
tally_of d m most r = tally_by d m (left_of most r.count) r.outcome

-- at 16 levels; `work` is how many bytes of work space there are
abbrev pub tree_tally : Disc → Mount → LongAd → ℕ → ℕ → Tally
tree_tally d m root most work = tally_of d m most (ran d (budgeted most (tree m most_levels work root)))

-- the figures in a place; a slice of another length is 15, and stays as it came
pub record Tallied : Type 0 where
  pub answer : ℕ
  pub place : List ℕ

abbrev pub tallied : Disc → Mount → LongAd → ℕ → ℕ → List ℕ → Tallied
tallied d m root most work before =
    pick (eqb (length before) place)
    (record { answer = (tree_tally d m root most work).answer; place = row (tree_tally d m root most work).figures })
    (record { answer = number BadShelf; place = before })

-- the call: the work space comes back all zero
pub record Tallies : Type 0 where
  pub answer : ℕ
  pub place : List ℕ
  pub work : List ℕ

abbrev pub tallies : Disc → Mount → LongAd → ℕ → List ℕ → List ℕ → Tallies
tallies d m root most before work =
    let t = tallied d m root most (length work) before in
    record { answer = t.answer; place = t.place; work = replicate (length work) 0 }
