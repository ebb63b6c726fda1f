-- What is proved of the CRC: what it is of bytes joined, that it has 16 bits, that a change within two neighbouring bytes changes it, and the
-- published vectors. Assumes nothing.
use mathlib.Core.Path.{◌≡◌, refl, sym, ◌∙◌}
use mathlib.Core.List.{List, [], ◌∷◌, ◌++◌}
use Prim.Native.Nat.{ℕ, ◌^◌, ◌<◌}
use lib.Dec.{lit<}
use Rattle.crcs.specs.Crcs.{one_bit, eight_bits, one_byte, crc_from, crc_of, remainder}
use Rattle.crcs.proofs.CrcLaws.{byte_fits}
use Rattle.crcs.proofs.ChangeLaws.{byte-taken, bytes-register, pair-taken}
use Rattle.disc.specs.Parts.{Bytes}

-- ---- the register

-- Bytes joined are taken one part behind the other.
pub from-joined : (s t : List ℕ) (c : ℕ) → crc_from c (s ++ t) ≡ crc_from (crc_from c s) t
unfolding crc_from
from-joined [] t c = refl
from-joined (b ∷ s) t c = from-joined s t (one_byte c b)

pub crc-joined : (s t : List ℕ) → crc_of (s ++ t) ≡ crc_from (crc_of s) t
unfolding crc_of
crc-joined s t = from-joined s t 0

from-fits : (s : List ℕ) (c : ℕ) → c < 2 ^ 16 → crc_from c s < 2 ^ 16
unfolding crc_from
from-fits [] c h = h
from-fits (b ∷ s) c h = from-fits s (one_byte c b) (byte_fits c b)

pub crc-fits : (s : List ℕ) → crc_of s < 2 ^ 16
unfolding crc_of
crc-fits s = from-fits s 0 (lit< tt)

-- What the table has of a byte is the CRC of that byte alone.
pub crc-alone : (b : ℕ) → crc_of (b ∷ []) ≡ remainder b
unfolding crc_of crc_from one_byte remainder
crc-alone b = refl

-- ---- changes

-- One byte that is another is seen, whatever stands before it and behind it.
pub crc-byte : (s t : List ℕ) (a b : ℕ) → Bytes t → a < 256 → b < 256 → crc_of (s ++ a ∷ t) ≡ crc_of (s ++ b ∷ t) → a ≡ b
unfolding crc_from
crc-byte s t a b h ha hb e =
    let c = crc_of s in
    byte-taken c a b (crc-fits s) ha hb
    (bytes-register t (one_byte c a) (one_byte c b) h (byte_fits c a) (byte_fits c b) (sym (crc-joined s (a ∷ t)) ∙ e ∙ crc-joined s (b ∷ t)))

-- So are two neighbours of which either or both are others.
pub crc-pair : (s t : List ℕ) (a b a' b' : ℕ) → Bytes t → a < 256 → b < 256 → a' < 256 → b' < 256
    → crc_of (s ++ a ∷ b ∷ t) ≡ crc_of (s ++ a' ∷ b' ∷ t) → (a ≡ a') × (b ≡ b')
unfolding crc_from
crc-pair s t a b a' b' h ha hb ha' hb' e =
    let c = crc_of s in
    pair-taken c a b a' b' (crc-fits s) ha hb ha' hb'
    (bytes-register t _ _ h (byte_fits (one_byte c a) b) (byte_fits (one_byte c a') b')
    (sym (crc-joined s (a ∷ b ∷ t)) ∙ e ∙ crc-joined s (a' ∷ b' ∷ t)))

-- ---- published vectors

-- ECMA-167's own example, and the digits 1 to 9.
pub crc-vectors : (crc_of (0x70 ∷ 0x6a ∷ 0x77 ∷ []) ≡ 0x3299)
    × (crc_of (0x31 ∷ 0x32 ∷ 0x33 ∷ 0x34 ∷ 0x35 ∷ 0x36 ∷ 0x37 ∷ 0x38 ∷ 0x39 ∷ []) ≡ 0x31c3)
unfolding one_bit eight_bits one_byte crc_from crc_of
crc-vectors = (refl, refl)
