-- Lists of sectors: which are missing, and what a second call asks for after a first.
use Rattle.std.specs.Prelude.{false, ◌||◌, Bool, [], List, ◌∷◌, ◌++◌, ◌≡◌, ℕ, ◌*◌, ◌+◌, ◌<◌, leb, ltb, take, drop, length}
use Rattle.disc.specs.Ask.{Ask, Disc, asked, Outcome, given}
use Rattle.disc.specs.Ask.Outcome.{answered, refused}
use Rattle.disc.specs.Choice.{pick}
use Rattle.disc.specs.Images.{held_from}
use Rattle.disc.specs.Ran.{Ran}
use Rattle.disc.specs.declared.refusals.Refusal.TheVariants.{Io}

-- what the second call asks for, after a first with this outcome
abbrev pub asked_behind : {A B : Type 0} → Disc → Outcome A → (A → Ask B) → List ℕ
asked_behind d (answered a) f = asked d (f a)
asked_behind d (refused r) f = []

-- a list up to and including the first sector that the disc lacks
unfoldable pub up_to : Disc → List ℕ → List ℕ
up_to d [] = []
up_to d (s ∷ rest) = s ∷ given (d s) (λ b. up_to d rest) []

-- n sectors from `at` on: their bytes, or refusal 1 at the first that is missing
abbrev pub sectors_run : List ℕ → ℕ → ℕ → Ran (List ℕ)
sectors_run image n at =
    pick (leb n (held_from image at))
    (record { outcome = answered (take (2048 * n) (drop (2048 * at) image)); count = n })
    (record { outcome = refused Io; count = held_from image at + 1 })

-- some sector of the list isn't wholly inside the image
unfoldable pub any_missing : List ℕ → List ℕ → Bool
any_missing image [] = false
any_missing image (s ∷ rest) = ltb (length image) (2048 * (s + 1)) || any_missing image rest

-- the sector that is waited for: the n-th of the list, not wholly inside the image, while all before it are
pub record Waits (image list : List ℕ) (n : ℕ) : Type 0 where
  pub sector : ℕ
  pub before : List ℕ
  pub behind : List ℕ
  pub is : list ≡ before ++ sector ∷ behind
  pub place : n ≡ length before + 1
  pub there : any_missing image before ≡ false
  pub gone : length image < 2048 * (sector + 1)
