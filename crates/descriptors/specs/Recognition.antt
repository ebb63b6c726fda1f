-- What a volume structure descriptor says it is (ECMA-167 2/9.1), by the bytes of its sector: RULES 5.17.
use Rattle.std.specs.Prelude.{ℕ, Bool, ◌&&◌, ◌||◌, List, eqb}
use Rattle.disc.specs.Choice.{pick}
use Rattle.records.specs.Bytes.{byte}
use Rattle.descriptors.specs.declared.recognition.Structure.{Structure}
use Rattle.descriptors.specs.declared.recognition.Structure.TheVariants.{Beginning, Nsr, Terminating, Other, Unknown}

-- The standard identifier, bytes 1 to 5, is these letters (2/9.1.2).
unfoldable pub identified : List ℕ → ℕ → ℕ → ℕ → ℕ → ℕ → Bool
identified s a b c d e = eqb (byte s 1) a && eqb (byte s 2) b && eqb (byte s 3) c && eqb (byte s 4) d && eqb (byte s 5) e

-- BEA01 (2/9.2).
abbrev pub begins : List ℕ → Bool
begins s = identified s 66 69 65 48 49

-- NSR02 or NSR03 (3/9.1).
unfoldable pub nsr : List ℕ → Bool
nsr s = identified s 78 83 82 48 50 || identified s 78 83 82 48 51

-- TEA01 (2/9.3).
abbrev pub terminates : List ℕ → Bool
terminates s = identified s 84 69 65 48 49

-- CD001 (ECMA-119) or CDW02 (ECMA-168).
unfoldable pub other : List ℕ → Bool
other s = identified s 67 68 48 48 49 || identified s 67 68 87 48 50

-- What the sector is, by its identifier alone.
unfoldable pub identity_of : List ℕ → Structure
identity_of s = pick (begins s) Beginning (pick (nsr s) Nsr (pick (terminates s) Terminating (pick (other s) Other Unknown)))

-- What the sector is: unknown unless the structure type, byte 0, is 0 (2/9.1.1).
unfoldable pub structure_of : List ℕ → Structure
structure_of s = pick (eqb (byte s 0) 0) (identity_of s) Unknown
