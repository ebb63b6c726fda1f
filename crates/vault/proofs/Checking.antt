-- RULES 3.23 to 3.25 of opening: the volume that it answers says that it is checked, and is that of an opening without the check otherwise. Assumes nothing.
use mathlib.Core.Path.{◌≡◌, refl, ap, ◌∙◌}
use mathlib.Core.Bool.{Bool}
use mathlib.Core.List.{List}
use Prim.Native.Nat.{ℕ}
use borrow.Author.Tests.{ne_eqb}
use Rattle.disc.specs.Refusals.{number}
use Rattle.disc.specs.Ask.{Outcome, and_then}
use Rattle.disc.specs.Ask.Outcome.{answered, refused}
use Rattle.disc.specs.Images.{disc}
use Rattle.disc.specs.Ran.{ran}
use Rattle.disc.specs.Counts.{reported}
use Rattle.disc.proofs.RefusalLaws.{refusal-numbered}
use Rattle.disc.proofs.RanLaws.{ran-known}
use Rattle.volumes.specs.Openings.{opening, opened_by, opened_of}
use Rattle.volumes.specs.declared.openings.VolumeRecord.{VolumeRecord}
use Rattle.vault.specs.Calls.{opens}
use Rattle.vault.specs.Public.Call.{opens as as_open}
use Rattle.vault.proofs.Promises.{checked}
use Rattle.volumes.specs.Checks.{as_checked}
use Rattle.vault.specs.Checks.{checked_by, plain_by, as_opened}

opened-as : (n : ℕ) (o : Outcome VolumeRecord) → opened_by n (and_then o (λ v. answered (as_checked v))) ≡ as_opened (opened_by n o)
opened-as n (answered v) = refl
opened-as n (refused why) = rw (ne_eqb (number why) 0 (refusal-numbered why))

module _ (image : List ℕ) (h maps : Bool) where
  pub open-checked : ((opens image (checked_by h maps)).answer ≡ 10 → ⊥) → opens image (checked_by h maps) ≡ as_opened (opens image (plain_by h maps))
  open-checked n =
      checked (as_open (checked_by h maps)) refl image n
      ∙ ap opened_of (ran-known (disc image) (opening (plain_by h maps)) (λ v. answered (as_checked v)))
      ∙ opened-as (reported (ran (disc image) (opening (plain_by h maps))).count) (ran (disc image) (opening (plain_by h maps))).outcome
