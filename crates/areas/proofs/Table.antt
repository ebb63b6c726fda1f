-- Rows 7 and 8 of the worked table. Assumes nothing.
use Rattle.std.specs.Prelude.{Some, None}
use mathlib.Core.Path.{◌≡◌, refl}
use mathlib.Core.List.{List, [], ◌∷◌}
use Prim.Native.Nat.{ℕ}
use Rattle.areas.specs.Areas.{size_of, descriptor_of, continuation, descriptor_at, descriptors, area_at, next_of}
use Rattle.areas.specs.Answers.{step_answer, ending_answer}

abbrev pub seventh : List ℕ
seventh = 0x00 ∷ 0x00 ∷ 0x00 ∷ 0xc0 ∷ 0x07 ∷ 0x00 ∷ 0x00 ∷ 0x00 ∷ []

abbrev pub eighth : List ℕ
eighth = 0x18 ∷ 0x00 ∷ 0x00 ∷ 0xc0 ∷ 0x09 ∷ 0x00 ∷ 0x00 ∷ 0x00 ∷ 0x01 ∷ 0x00 ∷ 0x00 ∷ 0x00 ∷ 0x00 ∷ 0x00 ∷ 0x00 ∷ 0x00 ∷ []

-- length 0 ends an area of short_ads, even with type 3, with no extent
pub ends-worked :
    ((area_at 0 seventh 0 8).extents ≡ [])
    × (ending_answer (area_at 0 seventh 0 8).ending ≡ record { number = 0; value = None })
    × (step_answer (next_of 0 seventh (record { at = 0; left = 8 })) ≡ record { number = 0; value = record { extent = None; continuation = None } })
unfolding area_at descriptors descriptor_at descriptor_of size_of next_of
ends-worked = (refl, refl, refl)

-- a long_ad of type 3 continues its area: 24 bytes at block 9 of partition 1
pub continues-worked :
    ((area_at 1 eighth 0 16).extents ≡ [])
    × (ending_answer (area_at 1 eighth 0 16).ending ≡ record { number = 0; value = Some (continuation 24 (record { 0 = 9 }) (Some 1)) })
    × (step_answer (next_of 1 eighth (record { at = 0; left = 16 }))
    ≡ record { number = 0; value = record { extent = None; continuation = Some (continuation 24 (record { 0 = 9 }) (Some 1)) } })
unfolding area_at descriptors descriptor_at descriptor_of size_of next_of
continues-worked = (refl, refl, refl)
