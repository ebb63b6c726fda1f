-- A turn of a walk over a file's extents, by its cursor: what `next_piece` gives, case by case in its order.
use Rattle.std.specs.Prelude.{ℕ, List, eqb, Option, Some, None, Result, Ok, Err}
use Rattle.disc.specs.Choice.{pick}
use Rattle.disc.specs.Refusals.{number}
use Rattle.disc.specs.Replies.{Answer}
use Rattle.disc.specs.Places.{placed}
use Rattle.disc.specs.declared.places.Mount.{Mount}
use Rattle.disc.specs.declared.refusals.Refusal.TheVariants.{Unsupported}
use Rattle.areas.specs.declared.AllocExtent.{AllocExtent}
use Rattle.chains.specs.Inner.Walks.{step_of}
use Rattle.chains.specs.declared.cursors.ChainCursor.{ChainCursor}
use Rattle.chains.specs.declared.cursors.ChainStep.{ChainStep}
use Rattle.chains.specs.declared.cursors.ChainStep.TheVariants.{Takes, Hops, Ends}
use Rattle.files.specs.Inner.Pieces.{weighed_at}
use Rattle.files.specs.declared.pieces.Turn.{Turn}
use Rattle.files.specs.declared.pieces.Turn.TheVariants.{Piece as APiece, Hop, Refused as Stopped, End}
use Rattle.files.specs.declared.pieces.Piece.{Piece}
use Rattle.disc.specs.declared.refusals.CountedRefusal.{CountedRefusal}

-- the piece of an extent of `size` bytes; without a sector, its partition isn't of this volume
abbrev pub weighed_in : List ℕ → ℕ → ℕ → Option ℕ → Result Piece CountedRefusal
weighed_in image size want None = Err (record { why = Unsupported; count = 0 })
weighed_in image size want (Some s) = weighed_at image s size want

-- an extent must be recorded and in a partition of this volume, with its sectors there (RULES 7.3 to 7.5)
abbrev pub weighed_of : List ℕ → Mount → AllocExtent → ℕ → Result Piece CountedRefusal
weighed_of image m e want = pick (eqb e.extent_type 0) (weighed_in image e.length want (placed m e.partition_ref e.block.0)) (Err (record { why = Unsupported; count = 0 }))

-- an extent that was weighed, with the cursor after it
abbrev pub turn_with : ChainCursor → Result Piece CountedRefusal → Turn
turn_with next (Err e) = Stopped e.why e.count
turn_with next (Ok x) = APiece x.from x.sectors x.bytes next

-- a step of the cursor
abbrev pub turn_by : List ℕ → Mount → ℕ → ChainStep → Turn
turn_by image m want Ends = End
turn_by image m want (Hops next) = Hop next
turn_by image m want (Takes e next) = turn_with next (weighed_of image m e want)

-- the turn from c on, where `want` bytes are still wanted
unfoldable pub turn_at : List ℕ → Mount → ℕ → ChainCursor → ℕ → Turn
turn_at image m kind c want = turn_by image m want (step_of image m kind c)

-- the answer number of a turn and its values: RULES 12.3
pub record TurnValue : Type 0 where
  pub from : ℕ
  pub bytes : ℕ
  pub sectors : ℕ
  pub next : Option ChainCursor

abbrev pub turn_answer : Turn → Answer TurnValue
turn_answer (APiece from n k next) = record { number = 0; value = record { from = from; bytes = k; sectors = n; next = Some next } }
turn_answer (Hop next) = record { number = 0; value = record { from = 0; bytes = 0; sectors = 0; next = Some next } }
turn_answer (Stopped why n) = record { number = number why; value = record { from = 0; bytes = 0; sectors = n; next = None } }
turn_answer End = record { number = 0; value = record { from = 0; bytes = 0; sectors = 0; next = None } }
