-- The label call is refused exactly where opening is, by the same number and after the same count. Assumes nothing.
use mathlib.Core.Path.{◌≡◌, ap, ◌∙◌}
use lib.ListN.{length}
use Rattle.disc.specs.Ask.{Disc, outcome, ended}
use Rattle.disc.specs.Ask.Outcome.{refused}
use Rattle.disc.specs.Ran.{ran}
use Rattle.disc.specs.declared.refusals.Refusal.{Refusal}
use Rattle.disc.proofs.AskLaws.{outcome-then}
use Rattle.volumes.specs.Openings.{opening}
use Rattle.volumes.specs.Labels.{label_of, labelling}
use Rattle.volumes.specs.declared.openings.How.{How}
use Rattle.volumes.proofs.Promises.{label-asks, label-refuses}

module _ (how : How) (d : Disc) where
  -- a refusal of opening is the label call's
  pub refuses-label : {why : Refusal} → outcome d (opening how) ≡ refused why → outcome d (labelling how) ≡ refused why
  unfolding labelling
  refuses-label e = outcome-then d (opening how) (λ v. ended (label_of v)) ∙ rw e

  -- both ways
  pub label-refused-as : (why : Refusal) → (outcome d (labelling how) ≡ refused why → outcome d (opening how) ≡ refused why) × (outcome d (opening how) ≡ refused why → outcome d (labelling how) ≡ refused why)
  label-refused-as why = (λ e. label-refuses how d e, λ e. refuses-label e)

  -- and opening's count is the label call's, refused or not
  pub label-counts : (ran d (labelling how)).count ≡ (ran d (opening how)).count
  unfolding ran
  label-counts = ap length (label-asks how d)
