use Rattle.drives.proofs.readings.before.Goals as goal

pub returns : goal.returns
returns c = cc
