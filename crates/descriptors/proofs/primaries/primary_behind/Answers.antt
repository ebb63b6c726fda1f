-- `descriptors::primaries::primary_behind` meets its contract: the label says which case of the definition holds, and each field is what
-- the call that read it ensures. Assumes nothing.
use Rattle.disc.proofs.PassLaws.{passed}
use Rattle.descriptors.proofs.VolumeLaws.{primary-unnamed, primary-named}
use Rattle.descriptors.proofs.primaries.primary_behind.Goals as goal

pub returns-in_err-field_size : goal.returns-in_err-field_size
returns-in_err-field_size c = passed c.from_residual.ensures.1 (primary-unnamed _ _ c.field_size.ensures c.label_at-label.ensures c.in_err-field_size.was)

pub returns : goal.returns
returns c = primary-named _ _ c.field_size.ensures c.label_at-label.ensures c.in_ok-field_size.was c.le32.ensures c.le32-2.ensures
