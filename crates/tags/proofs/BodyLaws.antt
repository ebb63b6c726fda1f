-- The body check: the returns of `has_right_body`, what the check sees, and the gate as a mark of a call whose bodies are checked. Assumes nothing.
use Rattle.std.specs.Prelude.{Result, Ok, Err}
use Prim.Native.Nat.{ℕ, ◌+◌, ◌-◌, ◌≤◌, ◌<◌}
use mathlib.Core.Path.{◌≡◌, refl, ap, sym, ◌∙◌}
use mathlib.Core.Bool.{Bool, true, false, ◌&&◌, and-eq-true_iff}
use mathlib.Core.List.{List, ◌∷◌, ◌++◌}
use native.Mathlib.Omega.{arith}
use lib.ListN.{length, take, drop}
use lib.Dec.{leb, eqb}
use borrow.Author.Tests.{le-leb, lt-leb, eqb-true}
use Rattle.disc.specs.Choice.{pick}
use Rattle.disc.specs.Ask.{Ask}
use Rattle.disc.specs.Ask.Ask.{refuse}
use Rattle.disc.specs.declared.refusals.Refusal.{Refusal}
use Rattle.disc.specs.declared.refusals.Refusal.TheVariants.{Malformed, BadCrc}
use Rattle.disc.proofs.MarkedLaws.{refuse-guards, parse-guards}
use Rattle.crcs.specs.Crcs.{crc_of}
use Rattle.crcs.proofs.Promises.{crc-pair}
use Rattle.tags.specs.Tags.{accepted, tag_of, read_tag, body_right, with_body, with_id, read_head}
use Rattle.tags.specs.declared.DescriptorTag.{DescriptorTag}
use Rattle.disc.specs.Parts.{Bytes}
use Rattle.disc.specs.Marks.{Guards}
use Rattle.tags.specs.Heads.{right_at}

-- ---- the returns of `has_right_body`

module _ (s : List ℕ) (t : DescriptorTag) where
  pub right-short : length s < 16 + t.crc_length → false ≡ body_right s t
  unfolding body_right
  right-short h = rw (lt-leb (16 + t.crc_length) (length s) h)

  pub right-summed : 16 + t.crc_length ≤ length s → {c : ℕ} → c ≡ crc_of (take (16 + t.crc_length - 16) (drop 16 s)) → eqb c t.crc ≡ body_right s t
  unfolding body_right
  right-summed h {c} e =
      let n : 16 + t.crc_length - 16 ≡ t.crc_length = omega arith in
      let k : c ≡ crc_of (take t.crc_length (drop 16 s)) = rw n at e in
      rw (le-leb (16 + t.crc_length) (length s) h, k)

-- ---- what the check sees: of two bodies that are right for one tag and differ within two neighbouring bytes alone, both are the same

module _ (t : DescriptorTag) where
  right-crc : (s : List ℕ) → body_right s t ≡ true → crc_of (take t.crc_length (drop 16 s)) ≡ t.crc
  unfolding body_right
  right-crc s e = eqb-true _ _ ((and-eq-true_iff (leb (16 + t.crc_length) (length s)) _).0 e).1

  pub change-seen : (s s' p q : List ℕ) (a b a' b' : ℕ) → Bytes q → a < 256 → b < 256 → a' < 256 → b' < 256
      → take t.crc_length (drop 16 s) ≡ p ++ a ∷ b ∷ q
      → take t.crc_length (drop 16 s') ≡ p ++ a' ∷ b' ∷ q
      → body_right s t ≡ true → body_right s' t ≡ true
      → (a ≡ a') × (b ≡ b')
  change-seen s s' p q a b a' b' h i j k l e f right right' =
      crc-pair p q a b a' b' h i j k l (ap crc_of (sym e) ∙ right-crc s right ∙ sym (right-crc s' right') ∙ ap crc_of f)

-- ---- the gate in a call

-- a call that goes on behind the gate: with bodies checked it is the call without, with the descriptor marked where its tag is accepted
module _ {A : Type 0} (s : List ℕ) (id size : ℕ) (f g : Result DescriptorTag Refusal → Ask A) (p : (r : Refusal) → f (Err r) ≡ refuse r) (q : (r : Refusal) → g (Err r) ≡ refuse r) where
  refused-guards : Guards right_at (f (Err Malformed)) (g (Err Malformed))
  refused-guards = rw (p Malformed, q Malformed) (refuse-guards Malformed (λ e. omega arith))

  pub gate-guards : ((t : DescriptorTag) → Guards right_at (f (Ok t)) (g (Ok t))) → Guards right_at (f (read_head true s id size)) (g (read_head false s id size))
  unfolding read_head with_body with_id
  gate-guards h = long (leb size (length s))
    where
      same : (b : Bool) (t : DescriptorTag) → Guards right_at (f (pick b (Ok t) (Err Malformed))) (g (pick b (Ok t) (Err Malformed)))
      same true t = h t
      same false t = refused-guards

      body : (b : Bool) (t : DescriptorTag) → pick b (f (with_id id (Ok t))) (refuse BadCrc) ≡ f (with_id id (pick b (Ok t) (Err BadCrc)))
      body true t = refl
      body false t = sym (p BadCrc)

      tagged : (a : Bool) → Guards right_at (f (with_id id (with_body true s (pick a (Ok (tag_of s)) (Err Malformed))))) (g (with_id id (with_body false s (pick a (Ok (tag_of s)) (Err Malformed)))))
      tagged true = rw (← body (right_at s) (tag_of s)) (parse-guards s (same (eqb (tag_of s).id id) (tag_of s)))
      tagged false = refused-guards

      long : (a : Bool)
          → Guards right_at (f (pick a (with_id id (with_body true s (read_tag s))) (Err Malformed))) (g (pick a (with_id id (with_body false s (read_tag s))) (Err Malformed)))
      long true = tagged (leb 16 (length s) && accepted s)
      long false = refused-guards
