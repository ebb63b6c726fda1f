-- RULES 2.10, of an image that is still being copied: bytes added at its end change nothing but refusal 1. Assumes nothing.
use mathlib.Core.Path.{◌≡◌, ap, sym, subst, ◌∙◌}
use mathlib.Core.Bool.{false}
use mathlib.Core.List.{List, ◌∷◌, ◌++◌}
use Prim.Native.Nat.{ℕ, ◌<◌}
use lib.ListN.{length, get_or, drop}
use borrow.Author.Tests.{ne_eqb}
use Rattle.disc.specs.Ask.{Ask, outcome}
use Rattle.disc.specs.Images.{disc}
use Rattle.disc.specs.Ran.{Ran, ran}
use Rattle.disc.proofs.ImageLaws.{image-grown}
use Rattle.volumes.specs.declared.openings.VolumeRecord.{VolumeRecord}
use Rattle.listings.specs.declared.matchings.Matching.{Matching}
use Rattle.cue_stacks.specs.Stacks.{items, reply_in}
use Rattle.vault.specs.Calls.{path_reading, Worked, reads_path, all_read, reads_all}
use Rattle.vault.specs.Public.Call.{reads_path as as_read_path}
use Rattle.vault.proofs.Promises.{io-1, grown}
use Rattle.vault.proofs.Stacking.{all-stays, read-all-item}
use Rattle.disc.proofs.GrownLaws.{grown-ran}
use Rattle.disc.specs.Refusing.{is_io}
use Rattle.vault.specs.Stacks.{left, Final}
use Rattle.cue_stacks.specs.Items.{start_of, Holds, Enough}

-- whatever is told by a run that lacked no sector is the same
stays : {A R : Type 0} (told : Ran A → R) (call : Ask A) (image : List ℕ) → is_io (outcome (disc image) call) ≡ false → Final (λ i. told (ran (disc i) call)) image
stays told call image h more = ap told (grown-ran call (disc image) (disc (image ++ more)) (image-grown image more) h)

-- ---- many files in one call

module _ (image : List ℕ) (v : VolumeRecord) (paths : List ℕ) (matching : Matching) (out lengths answers work : List ℕ) where
  -- what a path comes to on an image
  abbrev run : List ℕ → List ℕ → Ran (List ℕ)
  run i path = ran (disc i) (path_reading v (length work) path matching)

  run-stays : (more path room : List ℕ) → ((reply_in room (run image path)).answer ≡ 1 → ⊥) → run (image ++ more) path ≡ run image path
  unfolding ran
  run-stays more path room h =
      stays (λ r. r) (path_reading v (length work) path matching) image (sym (io-1 (as_read_path v path matching room work) image) ∙ ne_eqb _ 1 h) more

  -- if no item is refused by 1, the whole call is final: at 12, where none is read, whatever the row held
  pub read-all-grown : (Enough paths lengths answers → (i : ℕ) → i < length (items paths) → get_or (reads_all image v paths matching out lengths answers work).answers i 0 ≡ 1 → ⊥)
      → Final (λ i. reads_all i v paths matching out lengths answers work) image
  read-all-grown none more = ap (all_read work) (all-stays 1 (run image) (run (image ++ more)) (λ p room h. run-stays more p room h) paths out lengths answers none)

  -- and an item that isn't refused by 1 is answered the same, with the same room left
  pub read-all-item-grown : Enough paths lengths answers → (before : List (List ℕ)) (path : List ℕ) (behind : List (List ℕ)) → items paths ≡ before ++ path ∷ behind
      → (get_or (reads_all image v paths matching out lengths answers work).answers (length before) 0 ≡ 1 → ⊥)
      → (more : List ℕ) → start_of (left (image ++ more) v paths matching out lengths answers work) (length before) ≡ start_of (left image v paths matching out lengths answers work) (length before)
      → Holds (left (image ++ more) v paths matching out lengths answers work) (length before)
      (reads_path image v path matching (drop (start_of (left image v paths matching out lengths answers work) (length before)) out) work).reply
      (reads_path image v path matching (drop (start_of (left image v paths matching out lengths answers work) (length before)) out) work).out
  read-all-item-grown enough before path behind e h more same =
      let room : List ℕ = drop (start_of (left image v paths matching out lengths answers work) (length before)) out in
      let short = read-all-item image v paths matching out lengths answers work enough before path behind e in
      let long = read-all-item (image ++ more) v paths matching out lengths answers work enough before path behind e in
      let final : reads_path (image ++ more) v path matching room work ≡ reads_path image v path matching room work = grown (as_read_path v path matching room work) image (λ q. h (short.answer ∙ q)) more in
      subst (λ (w : Worked). Holds (left (image ++ more) v paths matching out lengths answers work) (length before) w.reply w.out) final (rw same at long)
