-- A count of sectors as a call reports it. RULES 2.4.
use Rattle.std.specs.Prelude.{ℕ, min}

abbrev pub reported : ℕ → ℕ
reported n = min n 0xffff_ffff_ffff_ffff
