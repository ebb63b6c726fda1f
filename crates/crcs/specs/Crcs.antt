-- The CRC of a row of bytes (ECMA-167 3/7.2.6): RULES 3.21 and 3.22.
use Rattle.std.specs.Prelude.{ℕ, ◌*◌, ◌%◌, List, [], ◌∷◌, ltb}
use Rattle.std.specs.Int.Bits.{bit_xor}
use Rattle.disc.specs.Choice.{pick}

-- One bit is shifted out of the register; where it was set, the rest is XORed with the polynomial x^16 + x^12 + x^5 + 1, less its first term.
unfoldable pub one_bit : ℕ → ℕ
one_bit c = pick (ltb c 0x8000) (c * 2) (bit_xor (c * 2 % 0x10000) 0x1021)

unfoldable pub eight_bits : ℕ → ℕ
eight_bits c = one_bit (one_bit (one_bit (one_bit (one_bit (one_bit (one_bit (one_bit c)))))))

-- The register c after the byte b, which is XORed into its high byte; eight bits are then shifted out.
unfoldable pub one_byte : ℕ → ℕ → ℕ
one_byte c b = eight_bits (bit_xor c (b * 0x100))

-- The register c after all bytes of a row, in turn.
unfoldable pub crc_from : ℕ → List ℕ → ℕ
crc_from c [] = c
crc_from c (b ∷ s) = crc_from (one_byte c b) s

-- The register starts at 0.
unfoldable pub crc_of : List ℕ → ℕ
crc_of s = crc_from 0 s

-- The CRC of a byte alone.
unfoldable pub remainder : ℕ → ℕ
remainder b = eight_bits (b * 0x100)
