-- Bytes of a list, and little-endian numbers at an offset (ECMA-167 1/7.1). RULES 3.1.
use Rattle.std.specs.Prelude.{ℕ, ◌+◌, ◌*◌, ◌/◌, ◌%◌, List, [], ◌∷◌, ◌++◌, get_or}

-- the byte at i, 0 past the end
abbrev pub byte : List ℕ → ℕ → ℕ
byte s i = get_or s i 0

-- the number in the two, the four or the eight bytes at i
abbrev pub u16at : List ℕ → ℕ → ℕ
u16at s i = byte s i + byte s (i + 1) * 256

abbrev pub u32at : List ℕ → ℕ → ℕ
u32at s i = byte s i + byte s (i + 1) * 256 + byte s (i + 2) * 65536 + byte s (i + 3) * 16777216

abbrev pub u64at : List ℕ → ℕ → ℕ
u64at s i = u32at s i + u32at s (i + 4) * 0x1_0000_0000

-- the low two or four bytes of a number, lowest first
abbrev pub le16 : ℕ → List ℕ
le16 n = n % 256 ∷ n / 256 % 256 ∷ []

abbrev pub le32 : ℕ → List ℕ
le32 n = n % 256 ∷ n / 256 % 256 ∷ n / 65536 % 256 ∷ n / 16777216 % 256 ∷ []

-- the sum of the four bytes at i
abbrev pub sum4 : List ℕ → ℕ → ℕ
sum4 s i = byte s i + byte s (i + 1) + byte s (i + 2) + byte s (i + 3)

-- the two and the six bytes at i, and the first sixteen
abbrev pub two : List ℕ → ℕ → List ℕ
two s i = byte s i ∷ byte s (i + 1) ∷ []

abbrev pub six : List ℕ → ℕ → List ℕ
six s i = byte s i ∷ byte s (i + 1) ∷ byte s (i + 2) ∷ byte s (i + 3) ∷ byte s (i + 4) ∷ byte s (i + 5) ∷ []

abbrev pub sixteen : List ℕ → List ℕ
sixteen s = six s 0 ++ six s 6 ++ byte s 12 ∷ byte s 13 ∷ byte s 14 ∷ byte s 15 ∷ []
