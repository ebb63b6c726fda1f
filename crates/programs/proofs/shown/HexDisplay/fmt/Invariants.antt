-- The `fmt` of `programs::shown::Hex` writes its output: what is written, with the bytes from the index on, is the whole. Assumes nothing.
use Rattle.std.proofs.Common.{◌≡◌, ℕ, List, ◌++◌, drop}
use Rattle.std.specs.Fmt.{HasWritten, IsPlainFormatter}
use Rattle.programs.specs.Shown.{shown_hex}
use Rattle.programs.proofs.shown.HexDisplay.fmt.Given as goal

abbrev pub invariant-loop-b : goal.invariant-loop-b
invariant-loop-b g l =
    IsPlainFormatter l.fn.f
    → (done : List ℕ) × HasWritten g.W.Write.write_str_gives l.fn.f done l.f × (done ++ shown_hex (drop l.b-index l.b-items) ≡ shown_hex l.self.0.now)
