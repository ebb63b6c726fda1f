-- What the programs show of bytes and numbers, byte by byte.
use Rattle.std.specs.Prelude.{ℕ, ◌+◌, ◌/◌, ◌%◌, Bool, ◌&&◌, not, List, [], ◌∷◌, ◌++◌, Option, Some, None, eqb, ltb, codes, decimal}
use Rattle.std.specs.Fmt.{◌++?◌}
use Rattle.disc.specs.Choice.{pick}
use Rattle.programs.specs.Lent.{all_zero}

-- the character of a hex digit: 0 to 9, and a to f in small letters
abbrev pub hex_digit : ℕ → ℕ
hex_digit d = pick (ltb d 10) (0x30 + d) (0x57 + d)

-- the two hex digits of a byte
abbrev pub hex_pair : ℕ → List ℕ
hex_pair b = hex_digit (b / 16) ∷ hex_digit (b % 16) ∷ []

-- each byte as a space and its two hex digits
unfoldable pub shown_hex : List ℕ → List ℕ
shown_hex [] = []
shown_hex (b ∷ s) = 0x20 ∷ hex_pair b ++ shown_hex s

-- a byte that stands for itself: 20 to 7E, but not a backslash
abbrev pub is_plain : ℕ → Bool
is_plain b = not (ltb b 0x20) && ltb b 0x7f && not (eqb b 0x5c)

-- a byte in a text: any that doesn't stand for itself is a backslash and its two hex digits
abbrev pub escaped_byte : ℕ → List ℕ
escaped_byte b = pick (is_plain b) (b ∷ []) (0x5c ∷ hex_pair b)

-- each byte of a text so
unfoldable pub escaped : List ℕ → List ℕ
escaped [] = []
escaped (b ∷ s) = escaped_byte b ++ escaped s

-- each item behind a space, where `text` says what an item writes; it says nothing where an item says nothing
unfoldable pub shown_numbers : {T : Type 0} → (T → Option (List ℕ)) → List T → Option (List ℕ)
shown_numbers text [] = Some []
shown_numbers text (n ∷ s) = Some (0x20 ∷ []) ++? text n ++? shown_numbers text s

-- a partition's number in decimal digits, or the word none
abbrev pub shown_partition : Option ℕ → List ℕ
shown_partition None = codes "none"
shown_partition (Some n) = decimal n

-- the word zero for bytes that are all 0, else the word dirty
abbrev pub shown_work : List ℕ → List ℕ
shown_work s = pick (all_zero s) (codes "zero") (codes "dirty")
