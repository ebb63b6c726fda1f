-- The entry of a name by the choice of matching that has a number. Assumes nothing.
use mathlib.Core.Path.{◌≡◌, ap, ◌∙◌}
use mathlib.Core.List.{List}
use Prim.Native.Nat.{ℕ}
use Rattle.volumes.specs.declared.openings.VolumeRecord.{VolumeRecord}
use Rattle.listings.specs.Listings.{matching_of}
use Rattle.listings.specs.declared.matchings.Matching.{Matching}
use Rattle.listings.specs.declared.finds.Named.{Named}
use Rattle.vault.specs.Calls.{finds_in}

pub named_by : (v : VolumeRecord) (bytes component : List ℕ) (n : ℕ) {m : Matching} → m ≡ matching_of n → {x : Named} → x ≡ finds_in v bytes component m
    → x ≡ finds_in v bytes component (matching_of n)
named_by v bytes component n h e = e ∙ ap (λ (matching : Matching). finds_in v bytes component matching) h
