-- Each descriptor that is written, read by the reader's own definition: what was encoded comes back. Assumes nothing.
use Rattle.std.specs.Prelude.{Ok}
use mathlib.Core.Path.{◌≡◌, refl, ap, ◌∙◌}
use mathlib.Core.Bool.{Bool, true, false}
use mathlib.Core.List.{List, ◌∷◌, ◌++◌}
use Prim.Native.Nat.{ℕ, suc, ◌+◌, ◌<◌, ◌^◌}
use lib.ListN.{length}
use Rattle.disc.specs.Ask.{Disc, outcome}
use Rattle.disc.specs.Ask.Held.{holds}
use Rattle.disc.specs.Ask.Outcome.{answered}
use Rattle.records.proofs.Numbers.{u32-le32}
use Rattle.descriptors.specs.Volumes.{partition_after, read_partition, read_primary, read_logical}
use Rattle.descriptors.specs.Recognition.{structure_of, identity_of, identified, nsr}
use Rattle.descriptors.specs.declared.recognition.Structure.{Structure}
use Rattle.descriptors.specs.declared.recognition.Structure.TheVariants.{Beginning, Nsr, Terminating}
use Rattle.probes.specs.Probes.{probed_by, probing, yes, probed}
use Rattle.writers.specs.Layout.{zeros, recognition, joined, sector, tag_for, sealed, dstring, label, primary_body, partition_body, logical_body, recognition_part, sequence, integrity_part, root_part, front, directory_size, total, partition_for, image}
use Rattle.writers.proofs.OpeningLaws.{primary-read, partition-head, logical-read, on_disc, at_front}
use Rattle.writers.proofs.ImageLaws.{disk-front, behind_front}
use lib.Dec.{lit<}
use Rattle.writers.specs.Vaults.{icb_at, primary_sector, partition_sector, logical_sector, Accepted}

-- ---- the volume's descriptors; anchor and file set: `anchor-read` and `file-set-read` of OpeningLaws, entries: `entry_read_lem` of ReadLaws, file identifiers: `identifier-read` of DirectoryLaws

pub primary-again : (check : Bool) → read_primary check primary_sector
    ≡ answered (record { tag = tag_for 1 32 primary_body; volume_descriptor_sequence_number = 0; primary_volume_descriptor_number = 0; volume_identifier = dstring label 32 })
unfolding sector sealed primary_body
primary-again check = primary-read check

pub partition-again : (check : Bool) (size : ℕ) → size < 2 ^ 32 → read_partition check (partition_sector size)
    ≡ Ok (record {
      tag = tag_for 5 34 (partition_body size);
      volume_descriptor_sequence_number = 2;
      partition_flags = 1;
      partition_number = 0;
      partition_starting_location = 272;
      partition_length = size;
    })
unfolding read_partition sector sealed partition_body
partition-again check size h =
    ap (partition_after (partition_sector size)) (partition-head check size)
    ∙ ap (λ n. Ok (record {
      tag = tag_for 5 34 (partition_body size);
      volume_descriptor_sequence_number = 2;
      partition_flags = 1;
      partition_number = 0;
      partition_starting_location = 272;
      partition_length = n;
    })) (u32-le32 size h)

pub logical-again : (check : Bool) → read_logical check logical_sector
    ≡ answered (record {
      tag = tag_for 6 35 logical_body;
      volume_descriptor_sequence_number = 3;
      logical_volume_identifier = dstring label 128;
      logical_block_size = 2048;
      file_set_descriptor_location = icb_at 0;
      map_table_length = 6;
      number_of_partition_maps = 1;
      partition_maps = 1 ∷ 6 ∷ 1 ∷ 0 ∷ 0 ∷ 0 ∷ zeros 18;
    })
unfolding sector sealed logical_body
logical-again check = logical-read check

-- ---- recognition

abbrev beginning : List ℕ
beginning = recognition 0x42 0x45 0x41 0x30 0x31

abbrev named : List ℕ
named = recognition 0x4e 0x53 0x52 0x30 0x32

abbrev terminating : List ℕ
terminating = recognition 0x54 0x45 0x41 0x30 0x31

pub beginning-again : structure_of beginning ≡ Beginning
unfolding structure_of identity_of identified sector
beginning-again = refl

pub named_again : structure_of named ≡ Nsr
unfolding structure_of identity_of identified nsr sector
named_again = refl

pub terminating-again : structure_of terminating ≡ Terminating
unfolding structure_of identity_of identified nsr sector
terminating-again = refl

probe-step : (d : Disc) (n at : ℕ) (began nsr-seen : Bool) (b : List ℕ) (s : Structure) → d at ≡ holds b → structure_of b ≡ s
    → outcome d (probing (suc n) at began nsr-seen) ≡ outcome d (probed_by s began nsr-seen (λ x y. probing n (at + 1) x y))
unfolding probing outcome
probe-step d n at began nsr-seen b s h e = rw h (ap (λ (x : Structure). outcome d (probed_by x began nsr-seen (λ p q. probing n (at + 1) p q))) e)

module _ (size files directory : ℕ) (rest : List ℕ) where
  there-16 : on_disc size files directory rest 16 ≡ holds beginning
  unfolding front recognition_part sequence integrity_part root_part
  there-16 = at_front size files directory rest 16 (lit< tt)

  there-17 : on_disc size files directory rest 17 ≡ holds named
  unfolding front recognition_part sequence integrity_part root_part
  there-17 = at_front size files directory rest 17 (lit< tt)

  there-18 : on_disc size files directory rest 18 ≡ holds terminating
  unfolding front recognition_part sequence integrity_part root_part
  there-18 = at_front size files directory rest 18 (lit< tt)

  front-probed : probed (joined (front size files directory) ++ rest) ≡ true
  unfolding probed outcome
  front-probed = ap yes (
      probe-step (on_disc size files directory rest) 7 16 false false beginning Beginning there-16 beginning-again
      ∙ probe-step (on_disc size files directory rest) 6 17 true false named Nsr there-17 named_again
      ∙ probe-step (on_disc size files directory rest) 5 18 true true terminating Terminating there-18 terminating-again)

-- the probe says yes
pub vault-probed : (names : List (List ℕ)) (lengths staging more : List ℕ) → Accepted names lengths staging → probed (image names lengths staging ++ more) ≡ true
vault-probed names lengths staging more h =
    rw (disk-front names lengths staging more h) (front-probed (partition_for (total lengths)) (length names) (directory_size names) (behind_front names lengths staging more h))
