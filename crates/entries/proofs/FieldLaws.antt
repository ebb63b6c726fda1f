-- An ICB tag and an entry by their fields, each as the call that read it ensures. Assumes nothing.
use Prim.Native.Nat.{ℕ, ◌+◌, ◌%◌, ◌<◌}
use mathlib.Core.Path.{◌≡◌}
use mathlib.Core.List.{List}
use Rattle.records.specs.Bytes.{byte, u16at, u32at, u64at}
use Rattle.tags.specs.declared.DescriptorTag.{DescriptorTag}
use Rattle.entries.specs.IcbTags.{icb_tag_of}
use Rattle.entries.specs.FileEntries.{entry_of}
use Rattle.entries.specs.declared.icb_tags.IcbTag.{IcbTag}
use Rattle.entries.specs.declared.file_entries.EntryTail.{EntryTail}

module _ (s : List ℕ) (i : ℕ) {a b : ℕ} where
  pub icb-tag-fields : {c d e f g h : ℕ} → a ≡ u32at s i → b ≡ u16at s (i + 4) → c ≡ u16at s (i + 6) → d ≡ u16at s (i + 8) → e ≡ byte s (i + 11)
      → f ≡ u32at s (i + 12) → g ≡ u16at s (i + 16) → h ≡ u16at s (i + 18)
      → record {
        prior_recorded_entries = a;
        strategy_type = b;
        strategy_parameter = c;
        max_entries = d;
        file_type = e;
        parent_icb = record { block = f; partition_ref = g };
        flags = h;
      } ≡ icb_tag_of s i
  unfolding icb_tag_of
  icb-tag-fields p q r t u v w x = rw (p, q, r, t, u, v, w, x)

pub entry-fields : (s : List ℕ) (t : DescriptorTag) (icb : IcbTag) (tail : EntryTail) {a b c d e f g h at : ℕ}
    → a ≡ u32at s 36 → b ≡ u32at s 40 → c ≡ u32at s 44 → d ≡ u16at s 48 → e ≡ byte s 50 → f ≡ byte s 51 → g ≡ u32at s 52
    → h ≡ u64at s 56 → (at ≡ tail.prefix + tail.attributes) × (at < 0x1_0000_0100)
    → record {
      tag = t;
      icb_tag = icb;
      uid = a;
      gid = b;
      permissions = c;
      file_link_count = d;
      record_format = e;
      record_display_attributes = f;
      record_length = g;
      information_length = h;
      logical_blocks_recorded = tail.logical_blocks_recorded;
      object_size = tail.object_size;
      length_of_extended_attributes = tail.attributes;
      length_of_allocation_descriptors = tail.descriptors;
      kind = icb.flags % 8;
      area_at = at;
      area_length = tail.descriptors;
    } ≡ entry_of s t icb tail
unfolding entry_of
entry-fields s t icb tail p q r u v w x y n = rw (p, q, r, u, v, w, x, y, n.0)
