-- The file set descriptor: which case of its definition the reader is in. Assumes nothing.
use Rattle.std.specs.Prelude.{Result, Ok, Err}
use Prim.Native.Nat.{ℕ}
use mathlib.Core.Path.{◌≡◌}
use mathlib.Core.Bool.{Bool}
use mathlib.Core.List.{List}
use Rattle.disc.specs.Replies.{returned}
use Rattle.disc.specs.declared.refusals.Refusal.{Refusal}
use Rattle.records.specs.Allocations.{long_of}
use Rattle.records.specs.declared.allocations.LongAd.{LongAd}
use Rattle.tags.specs.Tags.{read_head}
use Rattle.tags.specs.declared.DescriptorTag.{DescriptorTag}
use Rattle.descriptors.specs.FileSets.{read_file_set}

-- ---- what the reader's proof cites: `x` is what `read_head` gave

module _ (check : Bool) (s : List ℕ) {x : Result DescriptorTag Refusal} where
  pub file-set-no : {why : Refusal} → x ≡ read_head check s 256 416 → x ≡ Err why → Err why ≡ returned (read_file_set check s)
  unfolding read_file_set
  file-set-no e h = rw (← e, h)

  pub file-set-yes : {t : DescriptorTag} {root : LongAd}
      → x ≡ read_head check s 256 416
      → x ≡ Ok t
      → root ≡ long_of s 400
      → Ok (record { tag = t; root_directory_icb = root }) ≡ returned (read_file_set check s)
  unfolding read_file_set
  file-set-yes e h k = rw (← e, h, k)
