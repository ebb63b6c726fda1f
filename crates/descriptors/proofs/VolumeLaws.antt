-- The anchor and the descriptors of a volume descriptor sequence: which case of its definition each reader is in. Assumes nothing.
use Rattle.std.specs.Prelude.{Result, Ok, Err}
use Prim.Native.Nat.{ℕ, zero, suc, ◌+◌, ◌-◌, ◌<◌}
use mathlib.Core.Path.{◌≡◌, refl, sym, ap, ◌∙◌}
use mathlib.Core.Bool.{Bool}
use mathlib.Core.List.{List, [], ◌∷◌, ◌++◌}
use native.Mathlib.Omega.{arith}
use lib.ListN.{length, get_or, take, drop, replicate, length-drop, get_or-replicate}
use lib.Seq.{take_all, get_or-drop}
use Rattle.disc.specs.Replies.{returned}
use Rattle.disc.specs.Ask.{Outcome}
use Rattle.disc.specs.Ask.Outcome.{answered, refused}
use Rattle.disc.specs.Moves.{over}
use Rattle.disc.specs.declared.refusals.Refusal.{Refusal}
use Rattle.records.specs.Bytes.{byte, u16at, u32at}
use Rattle.records.specs.Allocations.{extent_of, long_of}
use Rattle.records.specs.declared.allocations.ExtentAd.{ExtentAd}
use Rattle.records.specs.declared.allocations.LongAd.{LongAd}
use Rattle.tags.specs.Tags.{read_head}
use Rattle.tags.specs.declared.DescriptorTag.{DescriptorTag}
use Rattle.descriptors.specs.declared.primaries.PrimaryVolumeDescriptor.{PrimaryVolumeDescriptor}
use Rattle.descriptors.specs.declared.logicals.LogicalVolumeDescriptor.{LogicalVolumeDescriptor}
use Rattle.names.specs.Names.{name_of_field, size_of}
use Rattle.descriptors.specs.Volumes.{read_anchor, labelled, primary_of, primary_behind, read_primary, read_partition, maps_in, logical_of, logical_behind, read_logical}

-- ---- the front of the map table

-- the return of `first_maps`
pub maps-copied : (s : List ℕ) {a : List ℕ} → a ≡ over (take (length s - 440) (drop 440 s)) (replicate 24 0) → a ≡ maps_in s
maps-copied s e = e ∙ rw (take_all (length s - 440) (drop 440 s) (rw length-drop (omega arith)))

-- a list over the front of n zeros has its own elements in the first n places, and zeros past its end
over_zeros : (l : List ℕ) (n i : ℕ) → i < n → get_or (take n l ++ drop (length l) (replicate n 0)) i 0 ≡ get_or l i 0
over_zeros [] zero i h = refl
over_zeros [] (suc n) i h = get_or-replicate (suc n) i 0 0 h
over_zeros (x ∷ l) zero i h = absurd (omega arith)
over_zeros (x ∷ l) (suc n) zero h = refl
over_zeros (x ∷ l) (suc n) (suc i) h = over_zeros l n i (omega arith)

-- so each of the 24 bytes is the byte at its place, 0 past the bytes given
pub maps-byte : (s : List ℕ) (i : ℕ) → i < 24 → byte (maps_in s) i ≡ byte s (440 + i)
maps-byte s i h = over_zeros (drop 440 s) 24 i h ∙ get_or-drop 440 s i 0

-- ---- what each reader's proof cites: `x` is what `read_head` gave

module _ (check : Bool) (s : List ℕ) {x : Result DescriptorTag Refusal} where
  pub anchor-no : {why : Refusal} → x ≡ read_head check s 2 32 → x ≡ Err why → Err why ≡ read_anchor check s
  unfolding read_anchor
  anchor-no e h = rw (← e, h)

  pub anchor-yes : {t : DescriptorTag} {a b : ExtentAd}
      → x ≡ read_head check s 2 32
      → x ≡ Ok t
      → a ≡ extent_of s 16
      → b ≡ extent_of s 24
      → Ok (record { tag = t; main_volume_descriptor_sequence = a; reserve_volume_descriptor_sequence = b }) ≡ read_anchor check s
  unfolding read_anchor
  anchor-yes e h p q = rw (← e, h, p, q)

  pub primary-no : {why : Refusal} → x ≡ read_head check s 1 56 → x ≡ Err why → Err why ≡ returned (read_primary check s)
  unfolding read_primary
  primary-no e h = rw (← e, h)

  pub primary-yes : {t : DescriptorTag} {r : Result PrimaryVolumeDescriptor Refusal} → x ≡ read_head check s 1 56 → x ≡ Ok t → r ≡ returned (primary_behind s t) → r ≡ returned (read_primary check s)
  unfolding read_primary
  primary-yes e h k = rw (← e, h) k

  pub partition-no : {why : Refusal} → x ≡ read_head check s 5 196 → x ≡ Err why → Err why ≡ read_partition check s
  unfolding read_partition
  partition-no e h = rw (← e, h)

  pub partition-yes : {t : DescriptorTag} {a b c d f : ℕ}
      → x ≡ read_head check s 5 196
      → x ≡ Ok t
      → a ≡ u32at s 16
      → b ≡ u16at s 20
      → c ≡ u16at s 22
      → d ≡ u32at s 188
      → f ≡ u32at s 192
      → Ok (record {
        tag = t;
        volume_descriptor_sequence_number = a;
        partition_flags = b;
        partition_number = c;
        partition_starting_location = d;
        partition_length = f;
      }) ≡ read_partition check s
  unfolding read_partition
  partition-yes e h p q k l m = rw (← e, h, p, q, k, l, m)

  pub logical-no : {why : Refusal} → x ≡ read_head check s 6 440 → x ≡ Err why → Err why ≡ returned (read_logical check s)
  unfolding read_logical
  logical-no e h = rw (← e, h)

  pub logical-yes : {t : DescriptorTag} {r : Result LogicalVolumeDescriptor Refusal} → x ≡ read_head check s 6 440 → x ≡ Ok t → r ≡ returned (logical_behind s t) → r ≡ returned (read_logical check s)
  unfolding read_logical
  logical-yes e h k = rw (← e, h) k

-- ---- behind the gate: `z` is the size of the label's name

labelled-no : {A : Type 0} (o : Outcome (List ℕ)) (d : A) {z : Result ℕ Refusal} {why : Refusal} → z ≡ size_of o → z ≡ Err why → labelled o d ≡ refused why
labelled-no (refused r) d e h = cc
labelled-no (answered name) d e h = absurd (let z : ◌≡◌ {A = ℕ} 0 1 = cc in omega arith)

labelled-yes : {A : Type 0} (o : Outcome (List ℕ)) (d : A) {z : Result ℕ Refusal} {n : ℕ} → z ≡ size_of o → z ≡ Ok n → labelled o d ≡ answered d
labelled-yes (refused r) d e h = absurd (let z : ◌≡◌ {A = ℕ} 0 1 = cc in omega arith)
labelled-yes (answered name) d e h = refl

module _ (s : List ℕ) (t : DescriptorTag) {label : List ℕ} {z : Result ℕ Refusal} (e : z ≡ size_of (name_of_field label)) where
  pub primary-unnamed : label ≡ take 32 (drop 24 s) → {why : Refusal} → z ≡ Err why → Err why ≡ returned (primary_behind s t)
  unfolding primary_behind
  primary-unnamed l h = ap returned (sym (labelled-no (name_of_field (take 32 (drop 24 s))) (primary_of s t) (rw l at e) h))

  pub primary-named : label ≡ take 32 (drop 24 s) → {k m n : ℕ}
      → z ≡ Ok k
      → m ≡ u32at s 16
      → n ≡ u32at s 20
      → Ok (record {
        tag = t;
        volume_descriptor_sequence_number = m;
        primary_volume_descriptor_number = n;
        volume_identifier = label;
      }) ≡ returned (primary_behind s t)
  unfolding primary_behind
  primary-named l h p q = rw (p, q, l) (ap returned (sym (labelled-yes (name_of_field (take 32 (drop 24 s))) (primary_of s t) (rw l at e) h)))

  pub logical-unnamed : label ≡ take 128 (drop 84 s) → {why : Refusal} → z ≡ Err why → Err why ≡ returned (logical_behind s t)
  unfolding logical_behind
  logical-unnamed l h = ap returned (sym (labelled-no (name_of_field (take 128 (drop 84 s))) (logical_of s t) (rw l at e) h))

  pub logical-named : label ≡ take 128 (drop 84 s) → {k m n i j : ℕ} {place : LongAd} {maps : List ℕ}
      → z ≡ Ok k
      → m ≡ u32at s 16
      → n ≡ u32at s 212
      → place ≡ long_of s 248
      → i ≡ u32at s 264
      → j ≡ u32at s 268
      → maps ≡ maps_in s
      → Ok (record {
        tag = t;
        volume_descriptor_sequence_number = m;
        logical_volume_identifier = label;
        logical_block_size = n;
        file_set_descriptor_location = place;
        map_table_length = i;
        number_of_partition_maps = j;
        partition_maps = maps;
      }) ≡ returned (logical_behind s t)
  unfolding logical_behind
  logical-named l h p q k u v w = rw (p, q, k, u, v, w, l) (ap returned (sym (labelled-yes (name_of_field (take 128 (drop 84 s))) (logical_of s t) (rw l at e) h)))
