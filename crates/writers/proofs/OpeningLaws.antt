-- Opening the image, under every choice: what each descriptor of the front is read as, and what the call comes to. Assumes nothing.
use Rattle.std.specs.Prelude.{Ok}
use mathlib.Core.Path.{◌≡◌, refl, ap, ◌∙◌}
use mathlib.Core.Bool.{Bool, true, false}
use mathlib.Core.List.{List, [], ◌∷◌, ◌++◌}
use Prim.Native.Nat.{ℕ, suc, ◌+◌, ◌<◌, ◌^◌}
use native.Mathlib.Omega.{arith}
use lib.ListN.{length, get_or}
use lib.Dec.{lit<, lit≤}
use Rattle.disc.specs.Ask.{Disc, then, ended}
use Rattle.disc.specs.Ask.Held.{holds}
use Rattle.disc.specs.Ask.Ask.{done, ask}
use Rattle.disc.specs.Ask.Outcome.{answered}
use Rattle.disc.specs.Ran.{Ran, ran, after}
use Rattle.disc.specs.Images.{disc}
use Rattle.disc.specs.Places.{placed, start_for, mapped_start}
use Rattle.disc.proofs.RanLaws.{ran-done, ran-there, ran_then}
use Rattle.tags.specs.Tags.{read_head, gated}
use Rattle.names.specs.Names.{name_of, name_of_field, until_zero, utf8, encode}
use Rattle.descriptors.specs.Volumes.{anchor_after, read_anchor, primary_of, primary_behind, read_primary, partition_of, partition_after, read_partition, logical_of, logical_behind, read_logical}
use Rattle.descriptors.specs.FileSets.{file_set_of, read_file_set}
use Rattle.volumes.specs.Sequences.{nothing, Parsed, latest, any_partition, kept_of, primary_in, partition_in, logical_in, says_in, scan}
use Rattle.volumes.specs.Sequences.Parsed.{primary, partition, logical}
use Rattle.volumes.specs.Sequences.Says.{found, passed, over}
use Rattle.volumes.specs.Openings.{volume_in, mounting_of, mounting, opening, start_of_number, starts_from, mapped_mount, mount_of}
use Rattle.volumes.specs.Labels.{label_of, labelling}
use Rattle.volumes.specs.declared.sequences.Kept.{Kept}
use Rattle.volumes.specs.declared.openings.How.{How}
use Rattle.writers.specs.Layout.{recognitions, joined, blanks, sector, tag_for, sealed, label, primary_body, info_body, partition_body, logical_body, unallocated_body, terminating_body, integrity_body, anchor_body, file_set_body, entry_body, root_entry, anchor_at, sequence, recognition_part, integrity_part, root_part, front}
use Rattle.writers.proofs.SealLaws.{Seal, sector-long, sector-head}
use Rattle.writers.proofs.SectorLaws.{Whole, whole_append, whole-blanks, sector-at}
use Rattle.writers.specs.Vaults.{mount_for, icb_at, vault_for, primary_sector, partition_sector, logical_sector, file_set_sector}

-- ---- the descriptors of the front are sealed: each has a listed id, and a body that a sector holds

pub primary-seal : (at : ℕ) → at < 2 ^ 32 → Seal 1 at primary_body
unfolding primary_body
primary-seal at h = record { known = refl; id-fits = lit< tt; location-fits = h; short = lit≤ tt }

pub info-seal : (at : ℕ) → at < 2 ^ 32 → Seal 4 at info_body
unfolding info_body
info-seal at h = record { known = refl; id-fits = lit< tt; location-fits = h; short = lit≤ tt }

pub partition-seal : (at size : ℕ) → at < 2 ^ 32 → Seal 5 at (partition_body size)
unfolding partition_body
partition-seal at size h = record { known = refl; id-fits = lit< tt; location-fits = h; short = lit≤ tt }

pub logical-seal : (at : ℕ) → at < 2 ^ 32 → Seal 6 at logical_body
unfolding logical_body
logical-seal at h = record { known = refl; id-fits = lit< tt; location-fits = h; short = lit≤ tt }

pub unallocated-seal : (at : ℕ) → at < 2 ^ 32 → Seal 7 at unallocated_body
unfolding unallocated_body
unallocated-seal at h = record { known = refl; id-fits = lit< tt; location-fits = h; short = lit≤ tt }

pub terminating-seal : (at : ℕ) → at < 2 ^ 32 → Seal 8 at terminating_body
unfolding terminating_body
terminating-seal at h = record { known = refl; id-fits = lit< tt; location-fits = h; short = lit≤ tt }

pub integrity-seal : (size files : ℕ) → Seal 9 64 (integrity_body size files)
unfolding integrity_body
integrity-seal size files = record { known = refl; id-fits = lit< tt; location-fits = lit< tt; short = lit≤ tt }

pub anchor-seal : (at : ℕ) → at < 2 ^ 32 → Seal 2 at anchor_body
unfolding anchor_body
anchor-seal at h = record { known = refl; id-fits = lit< tt; location-fits = h; short = lit≤ tt }

pub file-set-seal : Seal 256 0 file_set_body
unfolding file_set_body
file-set-seal = record { known = refl; id-fits = lit< tt; location-fits = lit< tt; short = lit≤ tt }

pub entry-seal : (at type permissions size unique block : ℕ) → at < 2 ^ 32 → Seal 261 at (entry_body type permissions size unique block)
unfolding entry_body
entry-seal at type permissions size unique block h = record { known = refl; id-fits = lit< tt; location-fits = h; short = lit≤ tt }

-- ---- the front's sectors

pub sequence-whole : (at size : ℕ) → at + 5 < 2 ^ 32 → Whole (sequence at size)
unfolding sequence Whole
sequence-whole at size h = (
  sector-long primary_body (primary-seal at (omega arith)),
  (
    sector-long info_body (info-seal (at + 1) (omega arith)),
    (
      sector-long (partition_body size) (partition-seal (at + 2) size (omega arith)),
      (
        sector-long logical_body (logical-seal (at + 3) (omega arith)),
        (
          sector-long unallocated_body (unallocated-seal (at + 4) (omega arith)),
          (
            sector-long terminating_body (terminating-seal (at + 5) h),
            whole-blanks 10,
          ),
        ),
      ),
    ),
  ),
)

recognition-whole : Whole recognition_part
unfolding recognition_part Whole sector
recognition-whole = whole_append (blanks 16 ++ recognitions) (blanks 13) (whole_append (blanks 16) recognitions (whole-blanks 16) (refl, (refl, (refl, tt)))) (whole-blanks 13)

integrity-whole : (size files : ℕ) → Whole (integrity_part size files)
unfolding integrity_part Whole anchor_at
integrity-whole size files = (
  sector-long (integrity_body size files) (integrity-seal size files),
  (
    sector-long terminating_body (terminating-seal 65 (lit< tt)),
    whole_append (blanks 190) (anchor_at 256 ∷ blanks 15) (whole-blanks 190) (sector-long anchor_body (anchor-seal 256 (lit< tt)), whole-blanks 15),
  ),
)

root-whole : (size : ℕ) → Whole (root_part size)
unfolding root_part Whole
root-whole size = (
  sector-long file_set_body file-set-seal,
  (
    refl,
    (
      sector-long (entry_body 4 0x14a5 size 0 8) (entry-seal 2 4 0x14a5 size 0 8 (lit< tt)),
      whole-blanks 5,
    ),
  ),
)

pub front-whole : (size files directory : ℕ) → Whole (front size files directory)
unfolding front
front-whole size files directory =
    whole_append _ (root_part directory) (whole_append _ (integrity_part size files) (whole_append _ (sequence 48 size) (whole_append recognition_part (sequence 32 size)
    recognition-whole (sequence-whole 32 size (lit< tt))) (sequence-whole 48 size (lit< tt))) (integrity-whole size files)) (root-whole directory)

pub front-count : (size files directory : ℕ) → length (front size files directory) ≡ 280
unfolding front recognition_part sequence integrity_part root_part
front-count size files directory = refl

-- ---- what a vault is opened as, by the choices

-- ---- each descriptor as it is read

anchor-head : (check : Bool) → read_head check (anchor_at 256) 2 32 ≡ Ok (tag_for 2 256 anchor_body)
unfolding anchor_at anchor_body
anchor-head check = sector-head anchor_body (anchor-seal 256 (lit< tt)) check 32 (lit≤ tt)

pub anchor-read : (check : Bool) → read_anchor check (anchor_at 256) ≡ Ok (record { tag = tag_for 2 256 anchor_body; main_volume_descriptor_sequence = record { length = 32768; location = 32 }; reserve_volume_descriptor_sequence = record { length = 32768; location = 48 } })
unfolding read_anchor anchor_at sector sealed anchor_body
anchor-read check = ap (anchor_after (anchor_at 256)) (anchor-head check)

primary-head : (check : Bool) → read_head check primary_sector 1 56 ≡ Ok (tag_for 1 32 primary_body)
unfolding primary_body
primary-head check = sector-head primary_body (primary-seal 32 (lit< tt)) check 56 (lit≤ tt)

abbrev the_primary : Parsed
the_primary = primary (primary_of primary_sector (tag_for 1 32 primary_body))

pub primary-read : (check : Bool) → read_primary check primary_sector ≡ answered (primary_of primary_sector (tag_for 1 32 primary_body))
unfolding read_primary primary_behind name_of_field name_of until_zero utf8 encode sector sealed primary_body
primary-read check = ap (λ t. gated t (primary_behind primary_sector)) (primary-head check)

primary-says : (check : Bool) → says_in check primary_sector ≡ found the_primary
unfolding says_in sector sealed
primary-says check = ap primary_in (primary-read check)

info-says : (check : Bool) → says_in check (sector (sealed 4 33 info_body)) ≡ passed
unfolding says_in sector sealed
info-says check = refl

pub partition-head : (check : Bool) (size : ℕ) → read_head check (partition_sector size) 5 196 ≡ Ok (tag_for 5 34 (partition_body size))
unfolding partition_body
partition-head check size = sector-head (partition_body size) (partition-seal 34 size (lit< tt)) check 196 (lit≤ tt)

abbrev the_partition : ℕ → Parsed
the_partition size = partition (partition_of (partition_sector size) (tag_for 5 34 (partition_body size)))

partition-says : (check : Bool) (size : ℕ) → says_in check (partition_sector size) ≡ found (the_partition size)
unfolding says_in read_partition sector sealed
partition-says check size = ap (λ t. partition_in (partition_after (partition_sector size) t)) (partition-head check size)

logical-head : (check : Bool) → read_head check logical_sector 6 440 ≡ Ok (tag_for 6 35 logical_body)
unfolding logical_body
logical-head check = sector-head logical_body (logical-seal 35 (lit< tt)) check 440 (lit≤ tt)

abbrev the_logical : Parsed
the_logical = logical (logical_of logical_sector (tag_for 6 35 logical_body))

pub logical-read : (check : Bool) → read_logical check logical_sector ≡ answered (logical_of logical_sector (tag_for 6 35 logical_body))
unfolding read_logical logical_behind name_of_field name_of until_zero utf8 encode sector sealed logical_body
logical-read check = ap (λ t. gated t (logical_behind logical_sector)) (logical-head check)

logical-says : (check : Bool) → says_in check logical_sector ≡ found the_logical
unfolding says_in sector sealed
logical-says check = ap logical_in (logical-read check)

unallocated-says : (check : Bool) → says_in check (sector (sealed 7 36 unallocated_body)) ≡ passed
unfolding says_in sector sealed
unallocated-says check = refl

terminating-says : (check : Bool) → says_in check (sector (sealed 8 37 terminating_body)) ≡ over
unfolding says_in sector sealed
terminating-says check = refl

file-set-head : (check : Bool) → read_head check file_set_sector 256 416 ≡ Ok (tag_for 256 0 file_set_body)
unfolding file_set_body
file-set-head check = sector-head file_set_body file-set-seal check 416 (lit≤ tt)

pub file-set-read : (check : Bool) → read_file_set check file_set_sector ≡ answered (record { tag = tag_for 256 0 file_set_body; root_directory_icb = icb_at 2 })
unfolding read_file_set sector sealed file_set_body
file-set-read check = ap (λ t. gated t (λ u. answered (file_set_of file_set_sector u))) (file-set-head check)

-- ---- the scan

module _ (d : Disc) (check : Bool) (n at : ℕ) (b : List ℕ) (h : d at ≡ holds b) where
  scan-found : {p : Parsed} → says_in check b ≡ found p → {ps : List Parsed} {c : ℕ} → ran d (scan check n (at + 1)) ≡ record { outcome = answered ps; count = c }
      → ran d (scan check (suc n) at) ≡ record { outcome = answered (p ∷ ps); count = 1 + (c + 0) }
  unfolding scan
  scan-found {p} e {ps} {c} q = ran-there d at _ b h ∙ rw (e, ran_then d (scan check n (at + 1)) (λ l. done (p ∷ l)), q, ran-done)

  scan-passed : says_in check b ≡ passed → {r : Ran (List Parsed)} → ran d (scan check n (at + 1)) ≡ r → ran d (scan check (suc n) at) ≡ after 1 r
  unfolding scan
  scan-passed e q = ran-there d at _ b h ∙ rw (e, q)

  scan-over : says_in check b ≡ over → ran d (scan check (suc n) at) ≡ record { outcome = answered []; count = 1 }
  unfolding scan
  scan-over e = ran-there d at _ b h ∙ rw (e, ran-done)

module _ (size files directory : ℕ) (rest : List ℕ) where
  abbrev pub on_disc : Disc
  on_disc = disc (joined (front size files directory) ++ rest)

  pub at_front : (i : ℕ) → i < 280 → on_disc i ≡ holds (get_or (front size files directory) i [])
  at_front i h =
      let k : i < length (front size files directory) = rw (front-count size files directory) h in
      let z : 0 + i ≡ i = omega arith in
      rw z at (sector-at [] 0 refl (front size files directory) rest (front-whole size files directory) i k)

  anchor-there : on_disc 256 ≡ holds (anchor_at 256)
  unfolding front recognition_part sequence integrity_part root_part
  anchor-there = at_front 256 (lit< tt)

  there-32 : on_disc 32 ≡ holds primary_sector
  unfolding front recognition_part sequence integrity_part root_part
  there-32 = at_front 32 (lit< tt)

  there-33 : on_disc 33 ≡ holds (sector (sealed 4 33 info_body))
  unfolding front recognition_part sequence integrity_part root_part
  there-33 = at_front 33 (lit< tt)

  there-34 : on_disc 34 ≡ holds (partition_sector size)
  unfolding front recognition_part sequence integrity_part root_part
  there-34 = at_front 34 (lit< tt)

  there-35 : on_disc 35 ≡ holds logical_sector
  unfolding front recognition_part sequence integrity_part root_part
  there-35 = at_front 35 (lit< tt)

  there-36 : on_disc 36 ≡ holds (sector (sealed 7 36 unallocated_body))
  unfolding front recognition_part sequence integrity_part root_part
  there-36 = at_front 36 (lit< tt)

  there-37 : on_disc 37 ≡ holds (sector (sealed 8 37 terminating_body))
  unfolding front recognition_part sequence integrity_part root_part
  there-37 = at_front 37 (lit< tt)

  there-272 : on_disc 272 ≡ holds file_set_sector
  unfolding front recognition_part sequence integrity_part root_part
  there-272 = at_front 272 (lit< tt)

  pub root-there : on_disc 274 ≡ holds (sector (root_entry directory))
  unfolding front recognition_part sequence integrity_part root_part
  root-there = at_front 274 (lit< tt)

  scan_runs : (check : Bool) → ran on_disc (scan check 16 32) ≡ record { outcome = answered (the_primary ∷ the_partition size ∷ the_logical ∷ []); count = 6 }
  scan_runs check =
      scan-found on_disc check 15 32 _ there-32 (primary-says check)
      (scan-passed on_disc check 14 33 _ there-33 (info-says check)
      (scan-found on_disc check 13 34 _ there-34 (partition-says check size)
      (scan-found on_disc check 12 35 _ there-35 (logical-says check)
      (scan-passed on_disc check 11 36 _ there-36 (unallocated-says check)
      (scan-over on_disc check 10 37 _ there-37 (terminating-says check))))))

  -- ---- what the descriptors lead to

  abbrev the_kept : Kept
  the_kept = kept_of latest any_partition nothing (the_primary ∷ the_partition size ∷ the_logical ∷ [])

  mounting-is : (how : How) → mounting how (the_primary ∷ the_partition size ∷ the_logical ∷ [])
      ≡ ask 272 (λ b. ended (volume_in (mount_for how) the_kept (read_file_set how.checked b)))
  unfolding mounting_of kept_of mount_of mapped_mount starts_from start_of_number placed start_for mapped_start then sector sealed primary_body partition_body logical_body
  mounting-is how = by how.highest how.checked how.maps
    where
      by : (h c m : Bool) → mounting (record { highest = h; checked = c; maps = m }) (the_primary ∷ the_partition size ∷ the_logical ∷ [])
          ≡ ask 272 (λ b. ended (volume_in (mount_for (record { highest = h; checked = c; maps = m })) the_kept (read_file_set c b)))
      by h c true = refl
      by h c false = refl

  mounting-runs : (how : How) → ran on_disc (mounting how (the_primary ∷ the_partition size ∷ the_logical ∷ [])) ≡ record { outcome = answered (vault_for how); count = 1 }
  unfolding kept_of sector sealed primary_body
  mounting-runs how = rw (mounting-is how) (ran-there on_disc 272 _ _ there-272 ∙ rw (file-set-read how.checked, ran-done))

  -- ---- opening succeeds under every choice, after eight sectors

  pub opening-runs : (how : How) → ran on_disc (opening how) ≡ record { outcome = answered (vault_for how); count = 8 }
  unfolding opening
  opening-runs how =
      ran-there on_disc 256 _ _ anchor-there
      ∙ rw (anchor-read how.checked, ran_then on_disc (scan how.checked 16 32) (mounting how), scan_runs how.checked, mounting-runs how)

  -- and the label is the documented one
  pub label-runs : (how : How) → ran on_disc (labelling how) ≡ record { outcome = answered label; count = 8 }
  unfolding labelling name_of_field name_of until_zero utf8 encode
  label-runs how = ran_then on_disc (opening how) (λ v. ended (label_of v)) ∙ rw (opening-runs how) (ap (after 8) (ran-done on_disc label))
