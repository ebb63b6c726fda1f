-- The probe of the volume recognition sequence (ECMA-167 2/8.3): RULES 5.17 and 5.18.
use Rattle.std.specs.Prelude.{ℕ, zero, suc, ◌+◌, Bool, true, false, ◌&&◌, List}
use Rattle.disc.specs.Ask.{Ask, Outcome, outcome}
use Rattle.disc.specs.Ask.Ask.{done, ask}
use Rattle.disc.specs.Ask.Outcome.{answered, refused}
use Rattle.disc.specs.Images.{disc}
use Rattle.descriptors.specs.Recognition.{structure_of}
use Rattle.descriptors.specs.declared.recognition.Structure.{Structure}
use Rattle.descriptors.specs.declared.recognition.Structure.TheVariants.{Beginning, Nsr, Terminating, Other, Unknown}

-- go on by what a sector is: `began` and `named` say whether a BEA01 and an NSR came before it
abbrev pub probed_by : Structure → Bool → Bool → (Bool → Bool → Ask Bool) → Ask Bool
probed_by Beginning began named rest = rest true named
probed_by Nsr began named rest = rest began true
probed_by Terminating began named rest = done (began && named)
probed_by Other began named rest = rest began named
probed_by Unknown began named rest = done false

-- at most n sectors from `at` on
unfoldable pub probing : ℕ → ℕ → Bool → Bool → Ask Bool
probing zero at began named = done false
probing (suc n) at began named = ask at (λ b. probed_by (structure_of b) began named (λ x y. probing n (at + 1) x y))

-- a missing sector is a no
abbrev pub yes : Outcome Bool → Bool
yes (answered b) = b
yes (refused r) = false

-- eight sectors at most, from 16 on (2/8.3)
unfoldable pub probed : List ℕ → Bool
probed image = yes (outcome (disc image) (probing 8 16 false false))
