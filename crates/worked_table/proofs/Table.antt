-- The worked table of the rules, its thirteen cases as one statement, by computation. Assumes nothing.
use Rattle.std.specs.Prelude.{Some, None}
use mathlib.Core.Path.{◌≡◌}
use mathlib.Core.List.{[], ◌∷◌}
use lib.ListN.{replicate, take}
use Rattle.records.specs.Allocations.{read_short}
use Rattle.records.specs.Answers.{short_answer}
use Rattle.tags.specs.Tags.{read_tag}
use Rattle.tags.specs.Answers.{no_tag, tag_answer}
use Rattle.areas.specs.Areas.{continuation, area_at}
use Rattle.areas.specs.Answers.{ending_answer}
use Rattle.names.specs.Names.{name_of, name_answer}
use Rattle.tags.proofs.Table.{table}
use Rattle.areas.proofs.Table.{ends-worked, continues-worked}
use Rattle.names.proofs.Promises.{worked}
use Rattle.tags.specs.Heads.{row}

-- each by its answer number and its values: tags, the short_ad, areas with no extent and how they end, names as UTF-8
pub worked-table :
    (tag_answer (read_tag (row 0x06 0x00))
    ≡ record { number = 0; value = record { id = 2; descriptor_version = 3; serial_number = 0; crc = 0; crc_length = 0; location = 256 } })
    × (tag_answer (read_tag (row 0x07 0x00)) ≡ record { number = 2; value = no_tag })
    × (tag_answer (read_tag (row 0x07 0x01)) ≡ record { number = 2; value = no_tag })
    × (tag_answer (read_tag (take 15 (row 0x06 0x00))) ≡ record { number = 2; value = no_tag })
    × (tag_answer (read_tag (replicate 16 0x00)) ≡ record { number = 2; value = no_tag })
    × (short_answer (read_short (0x00 ∷ 0x08 ∷ 0x00 ∷ 0x40 ∷ 0x05 ∷ 0x00 ∷ 0x00 ∷ 0x00 ∷ []))
    ≡ record { number = 0; value = record { length = 2048; extent_type = 1; block_location = 5 } })
    × (((area_at 0 (0x00 ∷ 0x00 ∷ 0x00 ∷ 0xc0 ∷ 0x07 ∷ 0x00 ∷ 0x00 ∷ 0x00 ∷ []) 0 8).extents ≡ [])
    × (ending_answer (area_at 0 (0x00 ∷ 0x00 ∷ 0x00 ∷ 0xc0 ∷ 0x07 ∷ 0x00 ∷ 0x00 ∷ 0x00 ∷ []) 0 8).ending ≡ record { number = 0; value = None }))
    × (((area_at 1 (0x18 ∷ 0x00 ∷ 0x00 ∷ 0xc0 ∷ 0x09 ∷ 0x00 ∷ 0x00 ∷ 0x00 ∷ 0x01 ∷ 0x00 ∷ replicate 6 0x00) 0 16).extents ≡ [])
    × (ending_answer (area_at 1 (0x18 ∷ 0x00 ∷ 0x00 ∷ 0xc0 ∷ 0x09 ∷ 0x00 ∷ 0x00 ∷ 0x00 ∷ 0x01 ∷ 0x00 ∷ replicate 6 0x00) 0 16).ending
    ≡ record { number = 0; value = Some (continuation 24 (record { 0 = 9 }) (Some 1)) }))
    × (name_answer (name_of (0x08 ∷ 0x41 ∷ 0x00 ∷ 0x42 ∷ [])) ≡ record { number = 0; value = 0x41 ∷ [] })
    × (name_answer (name_of (0x10 ∷ 0x00 ∷ 0x41 ∷ 0xd8 ∷ 0x00 ∷ 0x00 ∷ 0x42 ∷ [])) ≡ record { number = 0; value = 0x41 ∷ 0x42 ∷ [] })
    × (name_answer (name_of (0x10 ∷ 0x00 ∷ 0x41 ∷ 0x00 ∷ [])) ≡ record { number = 2; value = [] })
    × (name_answer (name_of (0x08 ∷ 0xe9 ∷ [])) ≡ record { number = 0; value = 0xc3 ∷ 0xa9 ∷ [] })
    × (name_answer (name_of (0xfe ∷ [])) ≡ record { number = 0; value = [] })
worked-table =
    (table.0, table.1, table.2, table.3, table.4, table.5, (ends-worked.0, ends-worked.1), (continues-worked.0, continues-worked.1), worked.0, worked.1, worked.2, worked.3, worked.4)
