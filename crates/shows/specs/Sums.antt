-- What each figure of a tree's nodes is: a number of nodes, a sum over them, or the greatest. RULES 16.4.
use Rattle.std.specs.Prelude.{ℕ, ◌<◌, max, ◌≡◌, List, [], ◌∷◌, map, length, get_or, eqb}
use Rattle.disc.specs.Choice.{pick}
use Rattle.disc.specs.Ask.{Disc}
use Rattle.disc.specs.Ran.{Ran, ran}
use Rattle.disc.specs.Replies.{answer_of, measured_of}
use Rattle.disc.specs.declared.places.Mount.{Mount}
use Rattle.files.specs.Files.{file_bytes, file_extents, file_hops}
use Rattle.files.specs.Sizes.{length_in, number_in}
use Rattle.identifiers.specs.Identifiers.{is_directory}
use Rattle.figures.specs.Figures.{Figures, answer_numbers, sum}
use Rattle.shows.specs.Shows.{Node}

-- the nodes that are directories, and those that are files, each once for each path
unfoldable pub directories_in : List Node → List Node
directories_in [] = []
directories_in (n ∷ ns) = pick (is_directory n.entry.identifier) (n ∷ directories_in ns) (directories_in ns)

unfoldable pub files_in : List Node → List Node
files_in [] = []
files_in (n ∷ ns) = pick (is_directory n.entry.identifier) (files_in ns) (n ∷ files_in ns)

module _ (d : Disc) (m : Mount) where
  -- the read of a file, and its number of bytes and its count, output room taken as enough
  abbrev pub read_of : Node → Ran (List ℕ)
  read_of n = ran d (file_bytes m n.entry.identifier.icb)

  abbrev pub bytes_of : Node → ℕ
  bytes_of n = (measured_of (read_of n)).length

  abbrev pub sectors_of : Node → ℕ
  sectors_of n = (measured_of (read_of n)).count

  -- how many extents its list has, and how many continuations were followed
  abbrev pub extents_of : Node → ℕ
  extents_of n = length_in (ran d (file_extents m n.entry.identifier.icb)).outcome

  abbrev pub hops_of : Node → ℕ
  hops_of n = number_in (ran d (file_hops m n.entry.identifier.icb)).outcome

  -- the files whose read has this answer number: 0 for those that are read
  unfoldable pub answering : ℕ → List Node → List Node
  answering k [] = []
  answering k (n ∷ ns) = pick (eqb (answer_of (read_of n).outcome) k) (n ∷ answering k ns) (answering k ns)

-- the greatest of some numbers, 0 if there are none
unfoldable pub greatest : List ℕ → ℕ
greatest [] = 0
greatest (n ∷ ns) = max n (greatest ns)

-- these are the figures of the nodes
pub record SumsOf (d : Disc) (m : Mount) (ns : List Node) (f : Figures) : Type 0 where
  pub files : f.files ≡ length (files_in ns)
  pub directories : f.directories ≡ length (directories_in ns)
  pub bytes : f.bytes ≡ sum (map (bytes_of d m) (files_in ns))
  pub extents : f.extents ≡ sum (map (extents_of d m) (answering d m 0 (files_in ns)))
  pub sectors : f.sectors ≡ sum (map (sectors_of d m) (files_in ns))
  pub many : length f.by_files ≡ answer_numbers
  pub by_files : (k : ℕ) → k < answer_numbers → get_or f.by_files k 0 ≡ length (answering d m k (files_in ns))
  pub chain : f.chain ≡ greatest (map (hops_of d m) (answering d m 0 (files_in ns)))
