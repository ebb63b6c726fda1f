-- What the next piece of a file is, by the tree of its extents: for the contracts of private functions.
use Rattle.std.specs.Prelude.{ℕ, ◌+◌, ◌-◌, ◌*◌, ◌≤◌, ◌<◌, min, max, ◌≡◌, List, [], ◌∷◌, ◌++◌, length, take, drop, leb, Some, Result, Ok, Err}
use Rattle.disc.specs.Choice.{pick}
use Rattle.disc.specs.Ask.{Outcome}
use Rattle.disc.specs.Ask.Outcome.{answered, refused}
use Rattle.disc.specs.Ran.{Ran, ran}
use Rattle.disc.specs.Images.{disc, held_from, sectors_for}
use Rattle.disc.specs.Places.{placed}
use Rattle.disc.specs.declared.places.Mount.{Mount}
use Rattle.disc.specs.declared.refusals.Refusal.TheVariants.{Io}
use Rattle.areas.specs.declared.AllocExtent.{AllocExtent}
use Rattle.chains.specs.Inner.Walks.{left, hops_at, weight}
use Rattle.chains.specs.declared.cursors.ChainCursor.{ChainCursor}
use Rattle.files.specs.Reads.{extents_bytes, visited}
use Rattle.files.specs.declared.pieces.Turn.{Turn}
use Rattle.files.specs.declared.pieces.Turn.TheVariants.{Piece as APiece, Hop, Refused as Stopped, End}
use Rattle.files.specs.declared.pieces.Piece.{Piece}
use Rattle.disc.specs.declared.refusals.CountedRefusal.{CountedRefusal}

-- how many sectors of an extent of `size` bytes are read for `want` bytes
abbrev pub sectors_read : ℕ → ℕ → ℕ
sectors_read size want = sectors_for (min size (max 1 want))

-- bytes in front of the answer
abbrev pub before_outcome : List ℕ → Outcome (List ℕ) → Outcome (List ℕ)
before_outcome b (answered more) = answered (b ++ more)
before_outcome b (refused r) = refused r

abbrev pub in_front : List ℕ → ℕ → Ran (List ℕ) → Ran (List ℕ)
in_front b n r = record { outcome = before_outcome b r.outcome; count = n + r.count }

-- a piece of k bytes: all that was wanted, or more follows
abbrev pub joined : List ℕ → ℕ → ℕ → ℕ → Ran (List ℕ) → Ran (List ℕ)
joined b n k want more = pick (leb want k) (record { outcome = answered b; count = n }) (in_front b n more)

-- the run of the rest of a read: by the extents that are left, and by a cursor
abbrev pub rest_of : List ℕ → Mount → List AllocExtent → ℕ → Ran (List ℕ)
rest_of image m es want = ran (disc image) (extents_bytes m es want)

abbrev pub rest_at : List ℕ → Mount → ℕ → ChainCursor → ℕ → Ran (List ℕ)
rest_at image m kind c want = rest_of image m (left image m kind c) want

-- k bytes at `from`, inside the image and no more than are wanted
pub record Lies (image : List ℕ) (from k want : ℕ) : Type 0 where
  pub small : k ≤ want
  pub within : k ≤ length image - from

-- an extent of `size` bytes from a sector on, by one division
abbrev pub weighed_at : List ℕ → ℕ → ℕ → ℕ → Result Piece CountedRefusal
weighed_at image s size want =
    pick (leb (sectors_read size want) (held_from image s))
    (Ok (record { from = (2048 * s); sectors = (sectors_read size want); bytes = (min size want) }))
    (Err (record { why = Io; count = (held_from image s + 1) }))

-- the extent is recorded and in a partition of this volume, and the sectors to be read of it are there
pub record There (image : List ℕ) (m : Mount) (e : AllocExtent) (want : ℕ) : Type 0 where
  pub at : ℕ
  pub recorded : e.extent_type ≡ 0
  pub stands : placed m e.partition_ref e.block.0 ≡ Some at
  pub held : sectors_read e.length want ≤ held_from image at

pub record HeldPiece (image : List ℕ) (m : Mount) (e : AllocExtent) (want from n k : ℕ) : Type 0 where
  pub runs : (es : List AllocExtent) → rest_of image m (e ∷ es) want ≡ joined (take k (drop from image)) n k want (rest_of image m es (want - k))
  pub lies : Lies image from k want
  pub cut : k ≡ min e.length want
  pub there : There image m e want
  pub place : from ≡ 2048 * there.at
  pub sectors : n ≡ sectors_read e.length want

abbrev pub Weighed : List ℕ → Mount → AllocExtent → ℕ → Result Piece CountedRefusal → Type 0
Weighed image m e want (Ok x) = HeldPiece image m e want x.from x.sectors x.bytes
Weighed image m e want (Err e') = (es : List AllocExtent) → rest_of image m (e ∷ es) want ≡ record { outcome = refused e'.why; count = e'.count }

-- a turn of a walk: one extent is begun, and the number of areas followed in all stays the same
pub record PieceTurn (image : List ℕ) (m : Mount) (kind : ℕ) (c : ChainCursor) (want from n k : ℕ) (c' : ChainCursor) : Type 0 where
  pub runs : rest_at image m kind c want ≡ joined (take k (drop from image)) n k want (rest_at image m kind c' (want - k))
  pub lies : Lies image from k want
  pub begun : visited (left image m kind c) want ≡ 1 + pick (leb want k) 0 (visited (left image m kind c') (want - k))
  pub extent : AllocExtent
  pub list : left image m kind c ≡ extent ∷ left image m kind c'
  pub piece : HeldPiece image m extent want from n k
  pub gone : c'.hops + hops_at image m kind c ≡ c.hops + hops_at image m kind c'
  pub less : weight c' < weight c

pub record HopTurn (image : List ℕ) (m : Mount) (kind : ℕ) (c : ChainCursor) (want : ℕ) (c' : ChainCursor) : Type 0 where
  pub runs : rest_at image m kind c want ≡ rest_at image m kind c' want
  pub list : left image m kind c ≡ left image m kind c'
  pub gone : c'.hops + hops_at image m kind c ≡ c.hops + hops_at image m kind c'
  pub less : weight c' < weight c

pub record EndTurn (image : List ℕ) (m : Mount) (kind : ℕ) (c : ChainCursor) (want : ℕ) : Type 0 where
  pub runs : rest_at image m kind c want ≡ record { outcome = answered []; count = 0 }
  pub list : left image m kind c ≡ []

abbrev pub Turned : List ℕ → Mount → ℕ → ChainCursor → ℕ → Turn → Type 0
Turned image m kind c want (APiece from n k c') = PieceTurn image m kind c want from n k c'
Turned image m kind c want (Hop c') = HopTurn image m kind c want c'
Turned image m kind c want (Stopped r n) = rest_at image m kind c want ≡ record { outcome = refused r; count = n }
Turned image m kind c want End = EndTurn image m kind c want
