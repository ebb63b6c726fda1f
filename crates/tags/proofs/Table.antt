-- The worked table, cases 1 to 6, by computation: each answer by its number and its values. Assumes nothing.
use mathlib.Core.Path.{◌≡◌, refl}
use mathlib.Core.List.{[], ◌∷◌}
use lib.ListN.{replicate, take}
use Rattle.records.specs.Allocations.{read_short}
use Rattle.records.specs.Answers.{short_answer}
use Rattle.tags.specs.Tags.{read_tag}
use Rattle.tags.specs.Answers.{no_tag, tag_answer}
use Rattle.tags.specs.Heads.{row}

pub table :
    (tag_answer (read_tag (row 0x06 0x00))
    ≡ record { number = 0; value = record { id = 2; descriptor_version = 3; serial_number = 0; crc = 0; crc_length = 0; location = 256 } })
    × (tag_answer (read_tag (row 0x07 0x00)) ≡ record { number = 2; value = no_tag })
    × (tag_answer (read_tag (row 0x07 0x01)) ≡ record { number = 2; value = no_tag })
    × (tag_answer (read_tag (take 15 (row 0x06 0x00))) ≡ record { number = 2; value = no_tag })
    × (tag_answer (read_tag (replicate 16 0x00)) ≡ record { number = 2; value = no_tag })
    × (short_answer (read_short (0x00 ∷ 0x08 ∷ 0x00 ∷ 0x40 ∷ 0x05 ∷ 0x00 ∷ 0x00 ∷ 0x00 ∷ []))
    ≡ record { number = 0; value = record { length = 2048; extent_type = 1; block_location = 5 } })
table = (refl, refl, refl, refl, refl, refl)
