-- `writers::try_write` meets its contract: each return is a case of `writes`; where nothing is refused the image is poured. Assumes nothing.
use Rattle.std.proofs.Common.{rules, ◌≡◌, Err}
use Rattle.writers.proofs.CallLaws.{write-refused, write-few, write-staging, write-room, write-least, write-most, write-lent, write_done}
use Rattle.writers.proofs.try_write.Goals as goal

pub returns-in_err-sectors : goal.returns-in_err-sectors
returns-in_err-sectors c =
    let e : c.from_residual.result ≡ Err c.in_err-sectors.field-0.0 = search rules in
    rw e (write-refused _ _ _ c.in_err-sectors.ensures _ _)

pub sum_of-requires : goal.sum_of-requires
sum_of-requires c = write-few _ _ c.in_ok-sectors.ensures

pub returns-then-staging-sum_of : goal.returns-then-staging-sum_of
returns-then-staging-sum_of c = write-staging _ _ c.in_ok-sectors.ensures c.sum_of.ensures _ _ c.if-staging-sum_of.true

pub returns-then-image-sectors : goal.returns-then-image-sectors
returns-then-image-sectors c = write-room _ _ c.in_ok-sectors.ensures c.sum_of.ensures _ _ c.if-staging-sum_of.false c.if-image-sectors.true

pub pour-requires : goal.pour-requires
pour-requires c = (
  write-few _ _ c.in_ok-sectors.ensures,
  write-least _ _ c.in_ok-sectors.ensures,
  write-most _ _ c.in_ok-sectors.ensures,
  write-lent _ _ c.in_ok-sectors.ensures c.sum_of.ensures c.args.staging.now _ c.if-staging-sum_of.false c.if-image-sectors.false,
)

pub returns : goal.returns
returns c = write_done _ _ c.in_ok-sectors.ensures c.sum_of.ensures _ _ c.if-staging-sum_of.false c.if-image-sectors.false c.pour.ensures
