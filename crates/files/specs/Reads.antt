-- A file's bytes, read from its extents: RULES 7.3 to 7.8.
use Rattle.std.specs.Prelude.{ℕ, zero, suc, ◌+◌, ◌-◌, ◌*◌, List, [], ◌∷◌, ◌++◌, length, take, drop, eqb, leb, Option, Some, None}
use Rattle.disc.specs.Images.{sectors_for}
use Rattle.disc.specs.Choice.{pick}
use Rattle.disc.specs.Ask.{Ask, then}
use Rattle.disc.specs.Ask.Ask.{done, refuse, ask}
use Rattle.disc.specs.Places.{placed, standing}
use Rattle.disc.specs.declared.places.Mount.{Mount}
use Rattle.disc.specs.declared.refusals.Refusal.TheVariants.{Unsupported}
use Rattle.areas.specs.declared.AllocExtent.{AllocExtent}

-- the read stops once it has the `want` bytes that are missing, and cuts what is past them; otherwise it goes on with `more`
abbrev pub joining : ℕ → List ℕ → Ask (List ℕ) → Ask (List ℕ)
joining want bytes more = pick (leb want (length bytes)) (done (take want bytes)) (then more (λ rest. done (bytes ++ rest)))

-- the bytes of n sectors, asked for in turn, of which the first `size` count
unfoldable pub extent_bytes : ℕ → ℕ → ℕ → ℕ → Ask (List ℕ)
extent_bytes zero at size want = done []
extent_bytes (suc n) at size want =
    ask at (λ b. joining want (take size b) (extent_bytes n (at + 1) (size - 2048) (want - length (take size b))))

-- the bytes of extents in turn: each must be recorded (type 0, ECMA-167 4/14.14.1.1) and in a partition of this volume
unfoldable pub extents_bytes : Mount → List AllocExtent → ℕ → Ask (List ℕ)
extents_bytes m [] want = done []
extents_bytes m (e ∷ es) want =
    pick (eqb e.extent_type 0)
    (standing (placed m e.partition_ref e.block.0) (λ at.
    then (extent_bytes (sectors_for e.length) at e.length want) (λ b.
    joining want b (extents_bytes m es (want - length b)))))
    (refuse Unsupported)

-- how many extents a read begins: the first even for no bytes
unfoldable pub visited : List AllocExtent → ℕ → ℕ
visited [] want = 0
visited (e ∷ es) want = 1 + pick (leb want e.length) 0 (visited es (want - e.length))

-- all bytes of the extents in the image, joined: what a read is cut from
abbrev pub held_at : List ℕ → ℕ → Option ℕ → List ℕ
held_at image n None = []
held_at image n (Some s) = take n (drop (2048 * s) image)

unfoldable pub extents_hold : List ℕ → Mount → List AllocExtent → List ℕ
extents_hold image m [] = []
extents_hold image m (e ∷ es) = held_at image e.length (placed m e.partition_ref e.block.0) ++ extents_hold image m es
