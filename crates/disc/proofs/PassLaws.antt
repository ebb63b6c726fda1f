-- What a `?` passes on: the error as it came. Assumes nothing.
use Rattle.std.specs.Prelude.{◌≡◌, Result, Err}
use Rattle.std.specs.Result.{IsErrAnd}
use Rattle.std.proofs.lemmas.Result.{err_from_is_err_and}
use Rattle.std.proofs.Common.{◌∙◌, ap}

module _ {B E : Type 0} {r : Result B E} {e : E} (h : IsErrAnd r (λ y. y ≡ e)) where
  pub as-passed : r ≡ Err e
  as-passed = let p = err_from_is_err_and r h in p.1 ∙ ap Err p.2

  pub passed : {g : Result B E} → Err e ≡ g → r ≡ g
  passed k = as-passed ∙ k
