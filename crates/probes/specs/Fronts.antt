-- The first bytes of the sectors of a recognition sequence: which are known, and what comes before the last.
use Rattle.std.specs.Prelude.{◌∷◌, [], List, ◌⊎◌, ◌≡◌, ℕ, ◌*◌, ◌<◌, ◌≤◌, ◌+◌, take, drop, length}

-- a first byte of 0, then the letters of each identifier
abbrev pub BEA01 : List ℕ
BEA01 = 0 ∷ 66 ∷ 69 ∷ 65 ∷ 48 ∷ 49 ∷ []

abbrev pub NSR02 : List ℕ
NSR02 = 0 ∷ 78 ∷ 83 ∷ 82 ∷ 48 ∷ 50 ∷ []

abbrev pub NSR03 : List ℕ
NSR03 = 0 ∷ 78 ∷ 83 ∷ 82 ∷ 48 ∷ 51 ∷ []

abbrev pub TEA01 : List ℕ
TEA01 = 0 ∷ 84 ∷ 69 ∷ 65 ∷ 48 ∷ 49 ∷ []

abbrev pub CD001 : List ℕ
CD001 = 0 ∷ 67 ∷ 68 ∷ 48 ∷ 48 ∷ 49 ∷ []

abbrev pub CDW02 : List ℕ
CDW02 = 0 ∷ 67 ∷ 68 ∷ 87 ∷ 48 ∷ 50 ∷ []

-- the first six bytes of sector s: its first byte and its identifier
abbrev pub front : List ℕ → ℕ → List ℕ
front image s = take 6 (drop (2048 * s) image)

-- 0 and any of the identifiers except TEA01
abbrev pub Passed : List ℕ → Type 0
Passed f = (f ≡ BEA01) ⊎ (f ≡ NSR02) ⊎ (f ≡ NSR03) ⊎ (f ≡ CD001) ⊎ (f ≡ CDW02)

-- some sector from 16 on, before sector t, starts with f
pub record Before (image : List ℕ) (t : ℕ) (f : List ℕ) : Type 0 where
  pub sector : ℕ
  pub from : 16 ≤ sector
  pub before : sector < t
  pub is : front image sector ≡ f

-- sector t is the first TEA01 among the eight from 16 on, and the sectors before it are as RULES 5.17 says
pub record Recognised (image : List ℕ) (t : ℕ) : Type 0 where
  pub from : 16 ≤ t
  pub within : t < 16 + 8
  pub there : 2048 * t + 2048 ≤ length image  -- and so is each sector before it
  pub listed : (s : ℕ) → 16 ≤ s → s < t → Passed (front image s)
  pub last : front image t ≡ TEA01
  pub began : Before image t BEA01
  pub named : Before image t NSR02 ⊎ Before image t NSR03
