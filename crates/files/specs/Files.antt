-- A file from its ICB: RULES 6.1, 6.2 and 7. This is what the public calls promise.
use Rattle.std.specs.Prelude.{ℕ, ◌+◌, ◌*◌, min, Bool, List, [], take, drop, eqb, Result, Ok, Err}
use Rattle.disc.specs.Choice.{pick}
use Rattle.disc.specs.Ask.{Ask, Outcome, then}
use Rattle.disc.specs.Ask.Ask.{done, refuse, ask}
use Rattle.disc.specs.Ask.Outcome.{answered, refused}
use Rattle.disc.specs.Places.{icb_placed, at_entry, is_checked, standing}
use Rattle.disc.specs.declared.places.Mount.{Mount}
use Rattle.disc.specs.declared.refusals.Refusal.TheVariants.{Malformed}
use Rattle.records.specs.declared.allocations.LongAd.{LongAd}
use Rattle.areas.specs.declared.AllocExtent.{AllocExtent}
use Rattle.areas.specs.Areas.{area_at}
use Rattle.entries.specs.FileEntries.{read_entry}
use Rattle.entries.specs.declared.file_entries.FileEntry.{FileEntry}
use Rattle.chains.specs.Chains.{most_continuations, hops, chain}
use Rattle.files.specs.Reads.{extents_bytes, visited}
use Rattle.disc.specs.declared.refusals.Refusal.{Refusal}

-- ---- the entry

-- an entry with the number of its sector and its bytes
pub record Located : Type 0 where
  pub at : ℕ
  pub sector : List ℕ
  pub entry : FileEntry

abbrev pub located : ℕ → List ℕ → Result FileEntry Refusal → Ask Located
located at s (Err r) = refuse r
located at s (Ok e) = done (record { at = at; sector = s; entry = e })

abbrev pub entry_in : Bool → ℕ → Ask Located
entry_in check at = ask at (λ s. located at s (read_entry check s))

-- refused before any sector: an ICB of length 0, then a reference beyond the maps; its type isn't looked at
unfoldable pub entry_at : Mount → LongAd → Ask Located
entry_at m icb =
    pick (eqb icb.length 0) (refuse Malformed)
    (standing (icb_placed m icb.location.partition_ref icb.location.block) (entry_in (is_checked m)))

-- the mount for the descriptors of the entry, of its chain and of its extents: a short_ad is in the partition that the ICB names
abbrev pub entry_mount : Mount → LongAd → Mount
entry_mount m icb = at_entry m icb.location.partition_ref

-- kind 3: the file is in the entry itself (ECMA-167 4/14.6.8)
abbrev pub embedded_kind : ℕ
embedded_kind = 3

abbrev pub is_embedded : Located → Bool
is_embedded x = eqb x.entry.kind embedded_kind

abbrev pub embedded_bytes : Located → List ℕ
embedded_bytes x = take (min x.entry.area_length x.entry.information_length) (drop x.entry.area_at x.sector)

-- ---- the chain, which is resolved before anything is asked of the file

-- its extents, through 32 continuations at most
abbrev pub chain_of : Mount → Located → Ask (List AllocExtent)
chain_of m x = chain m x.entry.kind most_continuations (area_at x.entry.kind x.sector x.entry.area_at x.entry.area_length)

-- its length: how many continuations are followed
abbrev pub hops_of : Mount → Located → Ask ℕ
hops_of m x = hops m x.entry.kind most_continuations (area_at x.entry.kind x.sector x.entry.area_at x.entry.area_length).ending

-- a file: embedded in its entry, or the extents of its chain
pub data File : Type 0 where
  embedded : Located → File
  chained : Located → List AllocExtent → File

abbrev pub resolved : Mount → Located → Ask File
resolved m x = pick (is_embedded x) (done (embedded x)) (then (chain_of m x) (λ es. done (chained x es)))

unfoldable pub file_at : Mount → LongAd → Ask File
file_at m icb = then (entry_at m icb) (resolved (entry_mount m icb))

-- ---- what is asked of a file

-- its bytes
abbrev pub content_of : Mount → File → Ask (List ℕ)
content_of m (embedded x) = done (embedded_bytes x)
content_of m (chained x es) = extents_bytes m es x.entry.information_length

unfoldable pub file_bytes : Mount → LongAd → Ask (List ℕ)
file_bytes m icb = then (file_at m icb) (content_of (entry_mount m icb))

-- an embedded file as a part of the image, by its place and its bytes; any other file has none
pub record Part : Type 0 where
  pub at : ℕ
  pub bytes : List ℕ

abbrev pub no_part : Part
no_part = record { at = 0; bytes = [] }

abbrev pub part_of : File → Part
part_of (embedded x) = record { at = 2048 * x.at + x.entry.area_at; bytes = embedded_bytes x }
part_of (chained x es) = no_part

unfoldable pub file_part : Mount → LongAd → Ask Part
file_part m icb = then (file_at m icb) (λ f. done (part_of f))

-- its extents, for the whole chain: an embedded file has none
abbrev pub extents_of : File → List AllocExtent
extents_of (embedded x) = []
extents_of (chained x es) = es

unfoldable pub file_extents : Mount → LongAd → Ask (List AllocExtent)
file_extents m icb = then (file_at m icb) (λ f. done (extents_of f))

-- the length of its chain: 0 for an embedded file
unfoldable pub file_hops : Mount → LongAd → Ask ℕ
file_hops m icb = then (entry_at m icb) (λ x. pick (is_embedded x) (done 0) (hops_of (entry_mount m icb) x))

-- how many extents a read visits: none for an embedded file
abbrev pub visits_of : File → ℕ
visits_of (embedded x) = 0
visits_of (chained x es) = visited es x.entry.information_length

unfoldable pub file_visited : Mount → LongAd → Ask ℕ
file_visited m icb = then (file_at m icb) (λ f. done (visits_of f))

abbrev pub visits_in : Outcome ℕ → ℕ
visits_in (answered n) = n
visits_in (refused r) = 0
