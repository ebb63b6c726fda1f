-- `surveys_c::vault_survey` meets its contract: the survey by the choices that the number is. Assumes nothing.
use Rattle.surveys_c.proofs.vault_survey.Goals as goal

pub returns : goal.returns
returns c = cc
