-- A file of the vault read by its ICB: its entry, its one extent, its bytes. Assumes nothing.
use Rattle.std.specs.Prelude.{Some, None, Ok}
use mathlib.Core.Path.{◌≡◌, refl, ap, ◌∙◌}
use mathlib.Core.Bool.{Bool, true, false, not}
use mathlib.Core.List.{List, [], ◌∷◌, ◌++◌}
use Prim.Native.Nat.{ℕ, ◌+◌, ◌*◌, ◌/◌, ◌%◌, ◌≤◌, ◌<◌, ◌^◌, min, max}
use native.Mathlib.Omega.{arith}
use lib.ListN.{take, drop}
use lib.Dec.{eqb, lit<, lit≤}
use borrow.Author.Tests.{eq-eqb, ne_eqb, le-leb}
use Rattle.disc.specs.Choice.{pick}
use Rattle.disc.specs.Ask.{then}
use Rattle.disc.specs.Ask.Held.{holds}
use Rattle.disc.specs.Ask.Ask.{done}
use Rattle.disc.specs.Ask.Outcome.{answered}
use Rattle.disc.specs.Ran.{ran, after}
use Rattle.disc.specs.Images.{disc, sectors_for, held_from}
use Rattle.disc.specs.Places.{placed, icb_placed, icb_start, mapped_start, at_entry, is_checked}
use Rattle.disc.specs.declared.places.Mount.{Mount}
use Rattle.disc.proofs.RanLaws.{ran-done, ran-there, ran_then}
use Rattle.records.specs.Bytes.{le32, u32at, u64at}
use Rattle.records.specs.Allocations.{short_of}
use Rattle.records.proofs.Numbers.{u32-le32}
use Rattle.areas.specs.Areas.{extent, short_descriptor, descriptor_of, descriptor_at, descriptors, size_of, area_at, behind, ended as ended_by}
use Rattle.areas.specs.declared.AllocExtent.{AllocExtent}
use Rattle.areas.specs.declared.AdEnding.TheVariants.{End}
use Rattle.tags.specs.Tags.{read_head}
use Rattle.entries.specs.IcbTags.{icb_tag_of}
use Rattle.entries.specs.FileEntries.{plain_tail, entry_of, entry_with, entry_behind, entry_after, read_entry}
use Rattle.entries.specs.declared.file_entries.FileEntry.{FileEntry}
use Rattle.chains.specs.Chains.{continued}
use Rattle.files.specs.Reads.{extents_bytes}
use Rattle.files.specs.Files.{Located, entry_at, entry_mount, chain_of, resolved, file_at, content_of, file_bytes}
use Rattle.files.specs.Files.File.{chained}
use Rattle.files.specs.Inner.Pieces.{rest_of}
use Rattle.files.proofs.PieceLaws.{weigh-held}
use Rattle.volumes.specs.declared.openings.How.{How}
use Rattle.writers.specs.Layout.{le64, sector, tag_for, sealed, entry_body}
use Rattle.writers.proofs.SealLaws.{sector-head}
use Rattle.writers.proofs.OpeningLaws.{entry-seal}
use Rattle.writers.specs.Vaults.{mount_for, icb_at}

-- ---- numbers

pub u64-le64 : (n : ℕ) → n < 2 ^ 64 → u64at (le64 n) 0 ≡ n
u64-le64 n h =
    let low : u32at (le32 n) 0 ≡ n % 0x1_0000_0000 = cut n in
    let high : u32at (le32 (n / 0x1_0000_0000)) 0 ≡ n / 0x1_0000_0000 = u32-le32 (n / 0x1_0000_0000) (omega arith) in
    sums n _ _ low high
  where
    b₀ : (n : ℕ) → n % 256 ≡ n % 0x1_0000_0000 % 256
    b₀ n = omega arith

    b₁ : (n : ℕ) → n / 256 % 256 ≡ n % 0x1_0000_0000 / 256 % 256
    b₁ n = omega arith

    b₂ : (n : ℕ) → n / 65536 % 256 ≡ n % 0x1_0000_0000 / 65536 % 256
    b₂ n = omega arith

    b₃ : (n : ℕ) → n / 16777216 % 256 ≡ n % 0x1_0000_0000 / 16777216 % 256
    b₃ n = omega arith

    below : (n : ℕ) → n % 0x1_0000_0000 < 2 ^ 32
    below n = omega arith

    cut : (n : ℕ) → u32at (le32 n) 0 ≡ n % 0x1_0000_0000
    cut n = (λ i. b₀ n i + b₁ n i * 256 + b₂ n i * 65536 + b₃ n i * 16777216) ∙ u32-le32 (n % 0x1_0000_0000) (below n)

    sums : (n a b : ℕ) → a ≡ n % 0x1_0000_0000 → b ≡ n / 0x1_0000_0000 → a + b * 0x1_0000_0000 ≡ n
    sums n a b p q = omega arith

-- ---- how an entry's own descriptors are read, under every choice

module _ (how : How) where
  checked-is : is_checked (mount_for how) ≡ how.checked
  checked-is = by how.checked
    where
      by : (c : Bool) → not (eqb (pick c 1 0) 0) ≡ c
      by true = refl
      by false = refl

  icb-placed : (block : ℕ) → icb_placed (mount_for how) 0 block ≡ Some (272 + block)
  unfolding icb_placed icb_start mapped_start
  icb-placed block = by how.highest how.checked how.maps
    where
      by : (h c m : Bool) → icb_placed (mount_for (record { highest = h; checked = c; maps = m })) 0 block ≡ Some (272 + block)
      by h c true = refl
      by h c false = refl

  own-mount : (block : ℕ) → entry_mount (mount_for how) (icb_at block) ≡ mount_for how
  unfolding at_entry icb_start mapped_start
  own-mount block = by how.highest how.checked how.maps
    where
      by : (h c m : Bool) → entry_mount (mount_for (record { highest = h; checked = c; maps = m })) (icb_at block) ≡ mount_for (record { highest = h; checked = c; maps = m })
      by h c true = refl
      by h c false = refl

-- ---- an entry, as the layout has it

module _ (location type permissions size unique block : ℕ) where
  abbrev body : List ℕ
  body = entry_body type permissions size unique block

  abbrev held : List ℕ
  held = sector (sealed 261 location body)

  abbrev entry : FileEntry
  entry = entry_of held (tag_for 261 location body) (icb_tag_of held 16) (plain_tail held)

  module _ (l : location < 2 ^ 32) where
    entry-head : (check : Bool) → read_head check held 261 176 ≡ Ok (tag_for 261 location body)
    unfolding entry_body
    entry-head check = sector-head body (entry-seal location type permissions size unique block l) check 176 (lit≤ tt)

    pub entry_read_lem : (check : Bool) → read_entry check held ≡ Ok entry
    unfolding read_entry entry_behind entry_with icb_tag_of plain_tail sector sealed entry_body
    entry_read_lem check = ap (entry_after held) (entry-head check)

  short-is : size < 2 ^ 30 → block < 2 ^ 32 → short_of held 176 ≡ record { length = size; extent_type = 0; block_location = block }
  unfolding sector sealed entry_body
  short-is h k =
      let e : u32at held 176 ≡ size = u32-le32 size (omega arith) in
      λ i. record { length = (ap (λ n. n % 0x4000_0000) e ∙ low) i; extent_type = (ap (λ n. n / 0x4000_0000) e ∙ high) i; block_location = u32-le32 block k i }
    where
      low : size % 0x4000_0000 ≡ size
      low = omega arith

      high : size / 0x4000_0000 ≡ 0
      high = omega arith

  pub area-one : size < 2 ^ 30 → block < 2 ^ 32 → (size ≡ 0 → ⊥) → area_at 0 held 176 8 ≡ record { extents = extent size 0 block None ∷ []; ending = End }
  unfolding area_at descriptors descriptor_at descriptor_of size_of
  area-one h k n = ap (λ a. behind (short_descriptor a) (ended_by End)) (short-is h k) ∙ rw (ne_eqb size 0 n)

  pub area-none : block < 2 ^ 32 → size ≡ 0 → area_at 0 held 176 8 ≡ record { extents = []; ending = End }
  unfolding area_at descriptors descriptor_at descriptor_of size_of
  area-none k n = ap (λ a. behind (short_descriptor a) (ended_by End)) (short-is (rw n (lit< tt)) k) ∙ rw (eq-eqb size 0 n)

  length-is : size < 2 ^ 64 → entry.information_length ≡ size
  unfolding entry_of sector sealed entry_body
  length-is h = u64-le64 size h

  -- ---- the call

  module _ (l : location < 2 ^ 32) (how : How) (image : List ℕ) (there : disc image (272 + location) ≡ holds held) where
    abbrev m : Mount
    m = mount_for how

    abbrev it : Located
    it = record { at = 272 + location; sector = held; entry = entry }

    entry_runs : ran (disc image) (entry_at m (icb_at location)) ≡ record { outcome = answered it; count = 1 }
    unfolding entry_at
    entry_runs = rw (icb-placed how location) (ran-there (disc image) (272 + location) _ held there ∙ rw (entry_read_lem l (is_checked m), ran-done))

    chain_runs : {es : List AllocExtent} → area_at 0 held 176 8 ≡ record { extents = es; ending = End } → ran (disc image) (chain_of m it) ≡ record { outcome = answered (es ++ []); count = 0 }
    unfolding continued then entry_of icb_tag_of plain_tail sector sealed entry_body
    chain_runs {es} e = rw e (ran-done (disc image) (es ++ []))

    resolved-runs : {es : List AllocExtent} → area_at 0 held 176 8 ≡ record { extents = es; ending = End }
        → ran (disc image) (resolved m it) ≡ record { outcome = answered (chained it (es ++ [])); count = 0 }
    unfolding entry_of icb_tag_of plain_tail sector sealed entry_body
    resolved-runs {es} e = ran_then (disc image) (chain_of m it) (λ xs. done (chained it xs)) ∙ rw (chain_runs e, ran-done)

    pub file-runs : {es : List AllocExtent} → area_at 0 held 176 8 ≡ record { extents = es; ending = End }
        → ran (disc image) (file_at m (icb_at location)) ≡ record { outcome = answered (chained it (es ++ [])); count = 1 }
    unfolding file_at
    file-runs {es} e =
        ran_then (disc image) (entry_at m (icb_at location)) (resolved (entry_mount m (icb_at location)))
        ∙ rw (entry_runs, own-mount how location, resolved-runs e)

    bytes_run : {es : List AllocExtent} → area_at 0 held 176 8 ≡ record { extents = es; ending = End } → size < 2 ^ 64
        → ran (disc image) (file_bytes m (icb_at location)) ≡ after 1 (rest_of image m (es ++ []) size)
    unfolding file_bytes
    bytes_run {es} e h =
        ran_then (disc image) (file_at m (icb_at location)) (content_of (entry_mount m (icb_at location)))
        ∙ rw (file-runs e, own-mount how location, length-is h)

    -- an empty file
    pub empty-read : block < 2 ^ 32 → size ≡ 0 → ran (disc image) (file_bytes m (icb_at location)) ≡ record { outcome = answered []; count = 1 }
    unfolding extents_bytes
    empty-read k n = bytes_run (area-none k n) (rw n (lit< tt)) ∙ ap (after 1) (ran-done (disc image) [])

    -- and any other: the bytes of its blocks
    pub file-read : size < 2 ^ 30 → block < 2 ^ 32 → (size ≡ 0 → ⊥) → sectors_for size ≤ held_from image (272 + block)
        → ran (disc image) (file_bytes m (icb_at location)) ≡ record { outcome = answered (take size (drop (2048 * (272 + block)) image)); count = 1 + sectors_for size }
    unfolding placed
    file-read h k n w =
        let s : sectors_for (min size (max 1 size)) ≡ sectors_for size = least size n in
        let z : min size size ≡ size = omega arith in
        bytes_run (area-one h k n) (omega arith)
        ∙ ap (after 1) ((weigh-held image m (extent size 0 block None) size refl refl (rw s w)).runs [] ∙ rw (z, le-leb size size (omega arith), s))
      where
        least : (n : ℕ) → (n ≡ 0 → ⊥) → sectors_for (min n (max 1 n)) ≡ sectors_for n
        least n h = let e : min n (max 1 n) ≡ n = omega arith in rw e
