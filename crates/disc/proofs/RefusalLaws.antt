-- Laws of refusals. Assumes nothing.
use mathlib.Core.Path.{◌≡◌, refl, ap, sym, ◌∙◌}
use Prim.Native.Nat.{◌≤◌, ◌<◌, ◌^◌}
use native.Mathlib.Omega.{arith}
use Rattle.disc.specs.Refusals.{number, refusal_of}
use Rattle.disc.specs.declared.refusals.Refusal.{Refusal}
use Rattle.disc.specs.declared.refusals.Refusal.TheVariants.{Io, Malformed, NotBluray, Unsupported, NoRoom, NoWork, NoSlot, Ambiguous, BadCrc, TooDeep, TooMany, BadName, BadFiles, BadShelf, OverBudget}

-- no number is over 16
pub refusal-listed : (why : Refusal) → number why ≤ 16
refusal-listed Io = omega arith
refusal-listed Malformed = omega arith
refusal-listed NotBluray = omega arith
refusal-listed Unsupported = omega arith
refusal-listed NoRoom = omega arith
refusal-listed NoWork = omega arith
refusal-listed NoSlot = omega arith
refusal-listed Ambiguous = omega arith
refusal-listed BadCrc = omega arith
refusal-listed TooDeep = omega arith
refusal-listed TooMany = omega arith
refusal-listed BadName = omega arith
refusal-listed BadFiles = omega arith
refusal-listed BadShelf = omega arith
refusal-listed OverBudget = omega arith

-- so each fits in 32 bits
pub refusal-small : (why : Refusal) → number why < 2 ^ 32
refusal-small why = omega (arith, refusal-listed why)

-- no refusal has number 0, which is "done"
pub refusal-numbered : (why : Refusal) → number why ≡ 0 → ⊥
refusal-numbered Io e = omega arith
refusal-numbered Malformed e = omega arith
refusal-numbered NotBluray e = omega arith
refusal-numbered Unsupported e = omega arith
refusal-numbered NoRoom e = omega arith
refusal-numbered NoWork e = omega arith
refusal-numbered NoSlot e = omega arith
refusal-numbered Ambiguous e = omega arith
refusal-numbered BadCrc e = omega arith
refusal-numbered TooDeep e = omega arith
refusal-numbered TooMany e = omega arith
refusal-numbered BadName e = omega arith
refusal-numbered BadFiles e = omega arith
refusal-numbered BadShelf e = omega arith
refusal-numbered OverBudget e = omega arith

-- a refusal comes back from its number
pub refusal-known : (why : Refusal) → refusal_of (number why) ≡ why
unfolding refusal_of
refusal-known Io = refl
refusal-known Malformed = refl
refusal-known NotBluray = refl
refusal-known Unsupported = refl
refusal-known NoRoom = refl
refusal-known NoWork = refl
refusal-known NoSlot = refl
refusal-known Ambiguous = refl
refusal-known BadCrc = refl
refusal-known TooDeep = refl
refusal-known TooMany = refl
refusal-known BadName = refl
refusal-known BadFiles = refl
refusal-known BadShelf = refl
refusal-known OverBudget = refl

-- so a number has one refusal
pub refusal_is : (why other : Refusal) → number why ≡ number other → why ≡ other
refusal_is why other e = sym (refusal-known why) ∙ ap refusal_of e ∙ refusal-known other
