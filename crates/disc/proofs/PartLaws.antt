-- A part of a list, by its place. Assumes nothing.
use mathlib.Core.Path.{◌≡◌, refl, sym, ◌∙◌}
use mathlib.Core.List.{List, []}
use mathlib.Core.Logic.{⊎_elim}
use Prim.Native.Nat.{ℕ, ◌+◌, ◌-◌, ◌<◌, zero-le}
use native.Mathlib.Nat.{add-sub_cancel_left}
use native.Mathlib.Omega.{arith}
use lib.ListN.{length, take, drop, length-drop, drop_of_length-le}
use lib.Seq.{take_all}
use denote.Ref.{Bor}
use Rattle.std.proofs.Common.{Option, Some, None}
use Rattle.std.specs.Option.{unwrap_or}
use Rattle.std.specs.Slice.{IsGetRangeResult}
use Rattle.disc.specs.Parts.{PartAt}

-- the empty part at the front
pub part_none : (s : List ℕ) → PartAt s [] 0
part_none s = record { bytes = refl; inside = zero-le }

-- the part as a slice from its place to its end
pub part_slice : {s part : List ℕ} {at : ℕ} → PartAt s part at → take (at + length part - at) (drop at s) ≡ part
part_slice p = rw add-sub_cancel_left p.bytes

-- ---- the bytes from a place on, by `get`; none where the place is behind the end

pub rest-by-get : (s : List ℕ) (at : ℕ) (r : Option (Bor (List ℕ))) (none : Bor (List ℕ)) → none.now ≡ [] → IsGetRangeResult s at (length s) r → (unwrap_or r none).now ≡ drop at s
rest-by-get s at None none e h = e ∙ sym (drop_of_length-le s (⊎_elim (λ (l : length s < at). omega arith) (λ (l : length s < length s). absurd (omega arith)) h.0))
rest-by-get s at (Some x) none e h = h.0.2 ∙ take_all (length s - at) (drop at s) (rw length-drop (omega arith))
