-- A sector's structure by its first byte and its identifier. Assumes nothing.
use Prim.Native.Nat.{ℕ}
use mathlib.Core.Path.{◌≡◌, ap, ◌∙◌}
use mathlib.Core.Bool.{Bool, ◌&&◌, ◌||◌}
use mathlib.Core.List.{List}
use lib.Dec.{eqb}
use borrow.Author.Tests.{eq-eqb, ne_eqb}
use Rattle.records.specs.Bytes.{byte, six}
use Rattle.descriptors.specs.Recognition.{identified, nsr, other, identity_of, structure_of}
use Rattle.descriptors.specs.declared.recognition.Structure.{Structure}
use Rattle.descriptors.specs.declared.recognition.Structure.TheVariants.{Unknown}

module _ (s : List ℕ) {f : List ℕ} (e : f ≡ six s 0) where
  pub type-other : (byte f 0 ≡ 0 → ⊥) → Unknown ≡ structure_of s
  unfolding structure_of
  type-other h = simp (ne_eqb (byte s 0) 0 (rw e at h))

  pub type-zero : {r : Structure} → byte f 0 ≡ 0 → r ≡ identity_of f → r ≡ structure_of s
  unfolding structure_of identity_of identified nsr other
  type-zero h k = simp (eq-eqb (byte s 0) 0 (rw e at h)) (k ∙ ap identity_of e)

-- The five bytes of an identifier, each as the call that read it ensures.
pub identified-bytes : (s : List ℕ) (a b c d e : ℕ) {p q r t u : ℕ} → p ≡ byte s 1 → q ≡ byte s 2 → r ≡ byte s 3 → t ≡ byte s 4 → u ≡ byte s 5
    → (eqb p a && eqb q b && eqb r c && eqb t d && eqb u e) ≡ identified s a b c d e
unfolding identified
identified-bytes s a b c d e f g h k l = rw (f, g, h, k, l)

-- Either of two identifiers.
module _ (s : List ℕ) {a b : Bool} where
  pub nsr-either : a ≡ identified s 78 83 82 48 50 → b ≡ identified s 78 83 82 48 51 → (a || b) ≡ nsr s
  unfolding nsr
  nsr-either p q = rw (p, q)

  pub other-either : a ≡ identified s 67 68 48 48 49 → b ≡ identified s 67 68 87 48 50 → (a || b) ≡ other s
  unfolding other
  other-either p q = rw (p, q)
