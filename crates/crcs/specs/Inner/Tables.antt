-- What the code computes by its tables, and what it is to be lent: tables that keep their rules. The public contracts of `crc` and `crc_behind` cite
-- `Crcs` alone.
use Rattle.std.specs.Prelude.{ℕ, ◌+◌, ◌*◌, ◌/◌, ◌%◌, ◌<◌, ◌≡◌, Bool, true, false, ◌&&◌, List, [], ◌∷◌, ◌++◌, eqb, length, get_or}
use Rattle.std.specs.Int.Bits.{bit_xor}
use Rattle.crcs.specs.Crcs.{eight_bits, remainder}

-- ---- the rules

-- The table t has each byte's remainder at the byte's place.
pub record Remainders (t : List ℕ) : Type 0 where
  pub at : (b : ℕ) → b < 256 → get_or t b 0 ≡ remainder b

-- The further tables u, three of 256 entries after the table t: each entry is eight bits on from the one that stands 256 places before it.
pub record Further (t u : List ℕ) : Type 0 where
  pub long : length t ≡ 256
  pub at : (i : ℕ) → i < 768 → get_or u i 0 ≡ eight_bits (get_or (t ++ u) i 0)

-- The same as a test: each entry of the second row is eight bits on from the entry of the first one at its place.
abbrev pub eight_on : List ℕ → List ℕ → Bool
eight_on t [] = true
eight_on [] (y ∷ u) = false
eight_on (x ∷ t) (y ∷ u) = eqb y (eight_bits x) && eight_on t u

-- ---- the register c, by tables

-- after a byte: its low byte moves up, and its high byte, XORed with b, moves out and leaves what the table has of it
unfoldable pub byte_by : List ℕ → ℕ → ℕ → ℕ
byte_by t c b = bit_xor (c % 256 * 256) (get_or t (bit_xor (c / 256) b) 0)

unfoldable pub bytes_by : List ℕ → ℕ → List ℕ → ℕ
bytes_by t c [] = c
bytes_by t c (b ∷ s) = bytes_by t (byte_by t c b) s

-- after four bytes: both bytes of the register meet one, and each leaves the entry of the table that is as many bytes further on as follow it
unfoldable pub four_by : List ℕ → List ℕ → ℕ → ℕ → ℕ → ℕ → ℕ → ℕ
four_by t u c b0 b1 b2 b3 =
    bit_xor (bit_xor (get_or u (512 + bit_xor (c / 256) b0) 0) (get_or u (256 + bit_xor (c % 256) b1) 0)) (bit_xor (get_or u b2 0) (get_or t b3 0))

-- after all bytes: four at a time, and those that are left one by one
unfoldable pub crc_by : List ℕ → List ℕ → ℕ → List ℕ → ℕ
crc_by t u c [] = c
crc_by t u c (b0 ∷ []) = bytes_by t c (b0 ∷ [])
crc_by t u c (b0 ∷ b1 ∷ []) = bytes_by t c (b0 ∷ b1 ∷ [])
crc_by t u c (b0 ∷ b1 ∷ b2 ∷ []) = bytes_by t c (b0 ∷ b1 ∷ b2 ∷ [])
crc_by t u c (b0 ∷ b1 ∷ b2 ∷ b3 ∷ s) = crc_by t u (four_by t u c b0 b1 b2 b3) s
