-- The `fmt` of `programs::shown::Hex` writes its output. Assumes nothing.
use Rattle.std.proofs.Common.{rules, ◌++◌, ◌∷◌, get_or}
use Rattle.std.proofs.Output.{has_written_append, has_written_of_eq}
use Rattle.programs.specs.Shown.{hex_pair}
use Rattle.programs.proofs.ShownLaws.{hex-next, hex-ends}
use Rattle.programs.proofs.shown.HexDisplay.fmt.Goals as goal

pub loop-b-preserved : goal.loop-b-preserved
loop-b-preserved g c =
    λ plain.
    let now = c.loop-b.invariant plain in
    let b = get_or c.args.self.now.0.now c.loop-b.b-index 0 in (
      now.0 ++ (32 ∷ hex_pair b),
      has_written_append _ _ _ _ _ _ now.1 (search rules),
      hex-next _ _ _ c.loop-b-test.true now.2,
    )

pub returns-clause-writes : goal.returns-clause-writes
returns-clause-writes g c = λ plain ok.
    let now = c.loop-b.invariant plain in
    has_written_of_eq _ _ _ _ _ (hex-ends _ _ _ c.loop-b-test.false now.2) now.1
