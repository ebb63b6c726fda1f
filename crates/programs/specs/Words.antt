-- How many digits a printed number has.
use Rattle.std.specs.Prelude.{ℕ, ◌≡◌, Option, Some, None}
use Rattle.io.specs.Digits.{IsDigitCount}

-- a partition's number; none where no partition is named
abbrev pub PartitionDigits : Option ℕ → ℕ → Type 0
PartitionDigits None r = r ≡ 0
PartitionDigits (Some n) r = IsDigitCount 10 1 n r
