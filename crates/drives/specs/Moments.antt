-- At which sector a read by steps tells 7 or 5: by the areas of its chain that are accepted, and by the bytes that each sector of its list brings.
-- RULES 14.6, 14.7 and 14.10.
use Rattle.std.specs.Prelude.{ℕ, zero, suc, ◌+◌, ◌-◌, ◌≤◌, ◌<◌, min, ◌≡◌, List, [], ◌∷◌, ◌++◌, length, take, replicate}
use Rattle.disc.specs.Choice.{pick}
use Rattle.disc.specs.Ask.{Disc, Outcome, outcome, asked}
use Rattle.disc.specs.Ask.Outcome.{answered, refused}
use Rattle.disc.specs.Images.{sectors_for}
use Rattle.disc.specs.declared.places.Mount.{Mount}
use Rattle.records.specs.declared.allocations.LongAd.{LongAd}
use Rattle.areas.specs.declared.AllocExtent.{AllocExtent}
use Rattle.areas.specs.declared.AdEnding.{AdEnding}
use Rattle.areas.specs.declared.AdEnding.TheVariants.{End, Continuation, Refused}
use Rattle.areas.specs.Areas.{Area, area_at}
use Rattle.chains.specs.Chains.{most_continuations, next_area}
use Rattle.files.specs.Files.{Located, entry_at, entry_mount, is_embedded, embedded_bytes, File, file_at}
use Rattle.files.specs.Files.File.{embedded, chained}
use Rattle.drives.specs.Feeds.{Grown, first_of, behind_first}

-- ---- memory that grows

-- by how much the row, and the room of the output, have grown before the n-th step
unfoldable pub slots_by : ℕ → List Grown → ℕ
slots_by zero gs = 0
slots_by (suc n) gs = (first_of gs).slots + slots_by n (behind_first gs)

unfoldable pub room_by : ℕ → List Grown → ℕ
room_by zero gs = 0
room_by (suc n) gs = (first_of gs).room + room_by n (behind_first gs)

-- ---- the areas of a file that are accepted, in order (14.6)

-- an area: the sectors that are asked for it, and the extents that it names
pub record Accepted : Type 0 where
  pub sectors : List ℕ
  pub extents : List AllocExtent

-- an area that is refused by itself isn't accepted, and nothing stands behind it
abbrev pub unless_refused : AdEnding → List Accepted → List Accepted
unless_refused (Refused r) xs = []
unless_refused End xs = xs
unless_refused (Continuation a) xs = xs

-- an area for which these sectors were asked, and what stands behind it by its ending
abbrev pub areas_from : List ℕ → Outcome Area → (AdEnding → List Accepted) → List Accepted
areas_from sectors (refused r) behind = []
areas_from sectors (answered x) behind = unless_refused x.ending (record { sectors = sectors; extents = x.extents } ∷ behind x.ending)

-- behind an area that ended so, through n continuations at most
unfoldable pub areas_behind : Disc → Mount → ℕ → ℕ → AdEnding → List Accepted
areas_behind d m kind zero how = []
areas_behind d m kind (suc n) (Refused r) = []
areas_behind d m kind (suc n) End = []
areas_behind d m kind (suc n) (Continuation a) = areas_from (asked d (next_area m kind a)) (outcome d (next_area m kind a)) (λ how. areas_behind d m kind n how)

-- those of an entry; an embedded file has none
abbrev pub entry_areas : Disc → Mount → List ℕ → Outcome Located → List Accepted
entry_areas d m sectors (refused r) = []
entry_areas d m sectors (answered x) =
    pick (is_embedded x) []
    (areas_from sectors (answered (area_at x.entry.kind x.sector x.entry.area_at x.entry.area_length))
    (λ how. areas_behind d m x.entry.kind most_continuations how))

unfoldable pub file_areas : Disc → Mount → LongAd → List Accepted
file_areas d m icb = entry_areas d (entry_mount m icb) (asked d (entry_at m icb)) (outcome d (entry_at m icb))

-- their extents, and their sectors
unfoldable pub extents_named : List Accepted → List AllocExtent
extents_named [] = []
extents_named (x ∷ xs) = x.extents ++ extents_named xs

unfoldable pub sectors_asked : List Accepted → List ℕ
sectors_asked [] = []
sectors_asked (x ∷ xs) = x.sectors ++ sectors_asked xs

-- 7 after the sectors ns: they are those of the first n areas. With these there are more extents than slots at the start; and with fewer areas there are as
-- many slots as extents by then, or more
pub record CrowdedAt (slots : ℕ) (gs : List Grown) (xs : List Accepted) (ns : List ℕ) : Type 0 where
  pub areas : ℕ
  pub list : ns ≡ sectors_asked (take areas xs)
  pub before : (j : ℕ) → j < areas → length (extents_named (take j xs)) ≤ slots + slots_by (length (sectors_asked (take j xs))) gs
  pub past : slots < length (extents_named (take areas xs))

-- in a row that stays: with the last of these areas there are more extents than slots, and without it there aren't
pub record CrowdedStill (slots : ℕ) (xs : List Accepted) (ns : List ℕ) : Type 0 where
  pub areas : ℕ
  pub list : ns ≡ sectors_asked (take (suc areas) xs)
  pub fits : length (extents_named (take areas xs)) ≤ slots
  pub past : slots < length (extents_named (take (suc areas) xs))

-- ---- the bytes that each sector of a read's list brings (14.7)

-- n sectors of an extent, of which `size` bytes count and `missing` are missing of the information length: 2,048 of each, and of the last what is left
unfoldable pub sector_shares : ℕ → ℕ → ℕ → List ℕ
sector_shares zero size missing = []
sector_shares (suc n) size missing = min missing (min size 2048) ∷ sector_shares n (size - 2048) (missing - min size 2048)

unfoldable pub extent_shares : List AllocExtent → ℕ → List ℕ
extent_shares [] missing = []
extent_shares (e ∷ es) missing = sector_shares (sectors_for e.length) e.length missing ++ extent_shares es (missing - e.length)

-- an embedded file comes with the sector of its entry; else entry and chain, n sectors, bring none of the file's bytes
abbrev pub file_shares : ℕ → File → List ℕ
file_shares n (embedded x) = length (embedded_bytes x) ∷ []
file_shares n (chained x es) = replicate n 0 ++ extent_shares es x.entry.information_length

-- how many they are in all
unfoldable pub brought : List ℕ → ℕ
brought [] = 0
brought (n ∷ rest) = n + brought rest

-- 5 after n sectors: with these more bytes have come than there is room for by then, and with fewer there was room for all
pub record FullAt (room : ℕ) (gs : List Grown) (shares : List ℕ) (n : ℕ) : Type 0 where
  pub before : (j : ℕ) → j < n → brought (take j shares) ≤ room + room_by j gs
  pub past : room + room_by n gs < brought (take n shares)

-- 5 after the sectors ns, as the file's entry and chain resolve it
pub record FiveAt (d : Disc) (m : Mount) (icb : LongAd) (room : ℕ) (gs : List Grown) (ns : List ℕ) : Type 0 where
  pub file : File
  pub resolves : outcome d (file_at m icb) ≡ answered file
  pub full : FullAt room gs (file_shares (length (asked d (file_at m icb))) file) (length ns)

-- in an output that stays: the last of these sectors holds the first byte that has no room
pub record FiveStill (d : Disc) (m : Mount) (icb : LongAd) (room : ℕ) (ns : List ℕ) : Type 0 where
  pub file : File
  pub resolves : outcome d (file_at m icb) ≡ answered file
  pub fits : brought (take (length ns - 1) (file_shares (length (asked d (file_at m icb))) file)) ≤ room
  pub past : room < brought (take (length ns) (file_shares (length (asked d (file_at m icb))) file))
