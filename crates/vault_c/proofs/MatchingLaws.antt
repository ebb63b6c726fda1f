-- A call by the choice of matching that has a number. Assumes nothing.
use mathlib.Core.Path.{◌≡◌, ap, ◌∙◌}
use mathlib.Core.List.{List}
use Prim.Native.Nat.{ℕ}
use Rattle.volumes.specs.declared.openings.VolumeRecord.{VolumeRecord}
use Rattle.listings.specs.Listings.{matching_of}
use Rattle.listings.specs.declared.matchings.Matching.{Matching}
use Rattle.vault.specs.Calls.{Looked, finds, LostPlace, fails_at, Worked, reads_path, AllRead, reads_all}

module _ (image : List ℕ) (v : VolumeRecord) (path work : List ℕ) (n : ℕ) {m : Matching} (h : m ≡ matching_of n) where
  pub found-by : {x : Looked} → x ≡ finds image v path m work → x ≡ finds image v path (matching_of n) work
  found-by e = e ∙ ap (λ (matching : Matching). finds image v path matching work) h

  pub failed-by : {x : LostPlace} → x ≡ fails_at image v path m work → x ≡ fails_at image v path (matching_of n) work
  failed-by e = e ∙ ap (λ (matching : Matching). fails_at image v path matching work) h

  pub read_by : (out : List ℕ) {x : Worked} → x ≡ reads_path image v path m out work → x ≡ reads_path image v path (matching_of n) out work
  read_by out e = e ∙ ap (λ (matching : Matching). reads_path image v path matching out work) h

  -- `path` is a list of paths here
  pub all-by : (out lengths answers : List ℕ) {x : AllRead} → x ≡ reads_all image v path m out lengths answers work → x ≡ reads_all image v path (matching_of n) out lengths answers work
  all-by out lengths answers e = e ∙ ap (λ (matching : Matching). reads_all image v path matching out lengths answers work) h
