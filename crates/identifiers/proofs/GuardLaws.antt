-- An identifier read with its body checked is the identifier read without, with its descriptor marked; and the forms by which that is said of what
-- is known without a question. Assumes nothing.
use Rattle.std.specs.Prelude.{Result}
use mathlib.Core.Path.{refl}
use mathlib.Core.Bool.{true, false}
use mathlib.Core.List.{List}
use Prim.Native.Nat.{ℕ}
use native.Mathlib.Omega.{arith}
use Rattle.disc.specs.Ask.{Ask, ended}
use Rattle.disc.proofs.MarkedLaws.{known-guards}
use Rattle.tags.specs.Tags.{gated}
use Rattle.tags.proofs.BodyLaws.{gate-guards}
use Rattle.identifiers.specs.declared.FileIdentifierDescriptor.{FileIdentifierDescriptor}
use Rattle.identifiers.specs.Identifiers.{identifier_named, read_identifier}
use Rattle.identifiers.proofs.IdentifierLaws.{named-refused}
use Rattle.disc.specs.Marks.{Guards}
use Rattle.tags.specs.Heads.{right_at}
use Rattle.tags.specs.declared.DescriptorTag.{DescriptorTag}
use Rattle.disc.specs.declared.refusals.Refusal.{Refusal}

-- ---- the identifier at the front of s

pub identifier-guards : (s : List ℕ) → Guards right_at (ended (read_identifier true s)) (ended (read_identifier false s))
unfolding read_identifier
identifier-guards s =
    gate-guards s 257 38 behind behind (λ why. refl) (λ why. refl)
    (λ t. known-guards (identifier_named s t) (λ why e. rw (named-refused s t e) (λ n. omega arith)))
  where
    behind : Result DescriptorTag Refusal → Ask FileIdentifierDescriptor
    behind x = ended (gated x (identifier_named s))
