-- What the contracts of private functions cite.
use Rattle.std.specs.Prelude.{ℕ, ◌+◌, ◌*◌, ⊤, List, [], get_or, eqb, ltb, Option, Some, None, Result, Ok, Err}
use Rattle.disc.specs.Choice.{pick}
use Rattle.disc.specs.Ask.{Outcome}
use Rattle.disc.specs.Ask.Outcome.{answered, refused}
use Rattle.disc.specs.Ran.{ran}
use Rattle.disc.specs.Images.{disc}
use Rattle.disc.specs.declared.places.Mount.{Mount}
use Rattle.disc.specs.declared.refusals.Refusal.{Refusal}
use Rattle.disc.specs.declared.refusals.Refusal.TheVariants.{Malformed, NotBluray, Unsupported}
use Rattle.records.specs.Bytes.{u16at}
use Rattle.volumes.specs.declared.sequences.Kept.{Kept}
use Rattle.volumes.specs.declared.openings.How.{How}
use Rattle.volumes.specs.Sequences.{Parsed, scan}
use Rattle.volumes.specs.Openings.{map_in, each_of}

-- whether what was kept leads to a file set descriptor
unfoldable pub mountable : Kept → Result ⊤ Refusal
mountable k =
    pick k.has_primary
    (pick k.has_partition
    (pick k.has_logical
    (pick (eqb k.block_size 2048) (Ok tt)
    (Err Unsupported))
    (Err NotBluray))
    (Err NotBluray))
    (Err NotBluray)

-- ---- the descriptors that a scan answered, none where it was refused

abbrev pub parsed_in : Outcome (List Parsed) → List Parsed
parsed_in (answered ps) = ps
parsed_in (refused r) = []

-- of the n sectors of an image from `first` on
unfoldable pub scanned_in : List ℕ → How → ℕ → ℕ → List Parsed
scanned_in image how first n = parsed_in (ran (disc image) (scan how.checked n first)).outcome

-- ---- the map table

-- whether it is one that is read
unfoldable pub tabled : Kept → Result ⊤ Refusal
tabled k =
    pick (ltb 4 k.map_count) (Err Unsupported)
    (pick (ltb k.map_table_length (6 * k.map_count)) (Err Malformed)
    (pick (ltb 2048 (440 + k.map_table_length)) (Err Malformed)
    (Ok tt)))

-- of each map the number of its two bytes at j
abbrev pub word_in : Kept → ℕ → ℕ → ℕ
word_in k j i = pick (ltb i k.map_count) (u16at (map_in k i) j) 0

abbrev pub words_in : Kept → ℕ → List ℕ
words_in k j = each_of k.map_count (λ i. u16at (map_in k i) j)

-- the starts of n maps in their four places
abbrev pub map_starts_by : ℕ → Option (List ℕ) → Option (List ℕ)
map_starts_by n None = None
map_starts_by n (Some l) = Some (each_of n (λ i. get_or l i 0))

-- a mount behind a check
abbrev pub mount_behind : Result ⊤ Refusal → Result Mount Refusal → Result Mount Refusal
mount_behind (Ok x) m = m
mount_behind (Err r) m = Err r
