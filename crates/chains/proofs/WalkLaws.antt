-- What a cursor stands for, one step at a time. Assumes nothing.
use Rattle.std.specs.Prelude.{Option, Some, None}
use mathlib.Core.Path.{◌≡◌, refl, sym, ◌∙◌}
use mathlib.Core.List.{List, [], ◌∷◌}
use Prim.Native.Nat.{ℕ, zero, suc, ◌+◌, ◌-◌, ◌*◌, ◌≤◌, ◌<◌, ◌^◌}
use native.Mathlib.Omega.{arith}
use borrow.Author.Tests.{eq-eqb, ne_eqb}
use Rattle.disc.specs.Places.{placed, BlockStands}
use Rattle.disc.specs.declared.places.Mount.{Mount}
use Rattle.disc.specs.declared.places.Sector.{Sector}
use Rattle.disc.specs.declared.refusals.Refusal.{Refusal}
use Rattle.disc.proofs.PlaceLaws.{stands-nowhere, stands_at}
use Rattle.areas.specs.declared.AllocExtent.{AllocExtent}
use Rattle.areas.specs.declared.AdContinuation.{AdContinuation}
use Rattle.areas.specs.declared.AdCursor.{AdCursor}
use Rattle.areas.specs.declared.AdStep.{AdStep}
use Rattle.areas.specs.declared.AdStep.TheVariants.{Extent, Continuation as Continues, End as Stops, Refused as Refuses}
use Rattle.areas.specs.declared.AdEnding.TheVariants.{End, Refused}
use Rattle.areas.specs.Areas.{next_of}
use Rattle.areas.proofs.AreaLaws.{walks-end, walks-continuation, walks-refused, walks-extent, walks_less}
use Rattle.chains.specs.declared.cursors.ChainCursor.{ChainCursor}
use Rattle.chains.specs.declared.cursors.ChainStep.{ChainStep}
use Rattle.chains.specs.declared.cursors.ChainStep.TheVariants.{Takes, Hops, Ends}
use Rattle.chains.specs.Inner.Walks.{area_size, beyond, left, weight, hop_to, hopping, stepped, step_of}
use Rattle.disc.specs.Parts.{Bytes}

-- ---- the returns of `hop` and `advance`

pub hop-on : (image : List ℕ) (s hops : ℕ) {size : ℕ} → size ≡ area_size image s → Hops (record { at = 2048 * s + 24; left = size; hops = hops - 1 }) ≡ hop_to image (Some s) hops
hop-on image s hops e = rw e

pub hop-some : (hops : ℕ) → (hops ≡ 0 → ⊥) → 1 ≤ hops
hop-some hops z = omega arith

module _ (image : List ℕ) (m : Mount) (a : AdContinuation) (hops : ℕ) where
  pub hop-out : hops ≡ 0 → Ends ≡ hopping image m a hops
  hop-out z = rw (eq-eqb hops 0 z)

  module _ (z : hops ≡ 0 → ⊥) {p : Option Sector} (q : BlockStands m a.partition_ref a.block.0 p) where
    pub hop-nowhere : p ≡ None → Ends ≡ hopping image m a hops
    hop-nowhere e = rw (ne_eqb hops 0 z, stands-nowhere m a.partition_ref a.block.0 q e)

    module _ {s : Sector} (e : p ≡ Some s) where
      pub hop-in : {x : ChainStep} → x ≡ hop_to image (Some s.0) hops → x ≡ hopping image m a hops
      hop-in f = f ∙ rw (ne_eqb hops 0 z, stands_at m a.partition_ref a.block.0 q e)

module _ (image : List ℕ) (m : Mount) (kind : ℕ) (c : ChainCursor) {r : AdStep} (q : r ≡ next_of kind image (record { at = c.at; left = c.left })) where
  step-of : {x : AdStep} → r ≡ x → stepped image m c.hops x ≡ step_of image m kind c
  unfolding step_of
  step-of e = rw (← q, e)

  pub advance-end : r ≡ Stops → Ends ≡ step_of image m kind c
  advance-end e = step-of e

  pub advance-refused : {why : Refusal} → r ≡ Refuses why → Ends ≡ step_of image m kind c
  advance-refused e = step-of e

  pub advance-takes : {x : AllocExtent} {k : AdCursor} → r ≡ Extent x k → Takes x (record { at = k.at; left = k.left; hops = c.hops }) ≡ step_of image m kind c
  advance-takes e = step-of e

  pub advance-hops : {a : AdContinuation} → r ≡ Continues a → {s : ChainStep} → s ≡ hopping image m a c.hops → s ≡ step_of image m kind c
  advance-hops e f = f ∙ step-of e

-- ---- what a step leaves

pub record Taken (image : List ℕ) (m : Mount) (kind : ℕ) (c : ChainCursor) (e : AllocExtent) (c' : ChainCursor) : Type 0 where
  pub list : left image m kind c ≡ e ∷ left image m kind c'
  pub less : weight c' < weight c

pub record Hopped (image : List ℕ) (m : Mount) (kind : ℕ) (c c' : ChainCursor) : Type 0 where
  pub list : left image m kind c ≡ left image m kind c'
  pub less : weight c' < weight c

abbrev pub Stepped : List ℕ → Mount → ℕ → ChainCursor → ChainStep → Type 0
Stepped image m kind c (Takes e c') = Taken image m kind c e c'
Stepped image m kind c (Hops c') = Hopped image m kind c c'
Stepped image m kind c Ends = left image m kind c ≡ []

module _ (image : List ℕ) (m : Mount) (kind : ℕ) where
  pub beyond-end : (n : ℕ) → beyond image m kind n End ≡ []
  unfolding beyond
  beyond-end zero = refl
  beyond-end (suc n) = refl

  pub beyond-refused : (n : ℕ) (r : Refusal) → beyond image m kind n (Refused r) ≡ []
  unfolding beyond
  beyond-refused zero r = refl
  beyond-refused (suc n) r = refl

  size_fits : Bytes image → (s : ℕ) → area_size image s < 2 ^ 32
  size_fits b s = omega (arith, b (2048 * s + 20), b (2048 * s + 20 + 1), b (2048 * s + 20 + 2), b (2048 * s + 20 + 3))

  abbrev here : ChainCursor → AdCursor
  here c = record { at = c.at; left = c.left }

  pub steps : Bytes image → (c : ChainCursor) → Stepped image m kind c (step_of image m kind c)
  unfolding left step_of beyond
  steps b c = told (next_of kind image (here c)) refl
    where
      -- to the area in a sector, or nowhere
      lands : (a : AdContinuation) → next_of kind image (here c) ≡ Continues a → (n : ℕ) → c.hops ≡ suc n → (o : Option ℕ) → placed m a.partition_ref a.block.0 ≡ o
          → Stepped image m kind c (hop_to image o (suc n))
      lands a q n z None f = rw (walks-continuation kind image (here c) q, z, f) (beyond-end n)
      lands a q n z (Some s) f =
          let p : suc n - 1 ≡ n = omega arith in
          rw p (record { list = rw (walks-continuation kind image (here c) q, z, f); less = omega (arith, size_fits b s) })

      hopped : (a : AdContinuation) → next_of kind image (here c) ≡ Continues a → (n : ℕ) → c.hops ≡ n → Stepped image m kind c (hopping image m a n)
      hopped a q zero z = rw (walks-continuation kind image (here c) q, z)
      hopped a q (suc n) z = rw (ne_eqb (suc n) 0 (λ u. omega arith)) (lands a q n z (placed m a.partition_ref a.block.0) refl)

      told : (x : AdStep) → next_of kind image (here c) ≡ x → Stepped image m kind c (stepped image m c.hops x)
      told Stops q = rw (walks-end kind image (here c) q) (beyond-end c.hops)
      told (Refuses r) q = rw (walks-refused kind image (here c) q) (beyond-refused c.hops r)
      told (Extent e k) q = record { list = rw (walks-extent kind image (here c) q); less = omega (arith, walks_less kind image (here c) q) }
      told (Continues a) q = hopped a q c.hops refl

-- ---- the same of what `advance` answered

module _ (image : List ℕ) (m : Mount) (kind : ℕ) (c : ChainCursor) {r : ChainStep} (p : r ≡ step_of image m kind c) (b : Bytes image) where
  pub steps-to : {x : ChainStep} → r ≡ x → Stepped image m kind c x
  steps-to e = rw (sym p ∙ e) at (steps image m kind b c)

  pub ended : r ≡ Ends → left image m kind c ≡ []
  ended e = steps-to e

  module _ {c' : ChainCursor} where
    pub hopped : r ≡ Hops c' → Hopped image m kind c c'
    hopped e = steps-to e

    pub hop-less : r ≡ Hops c' → weight c' < weight c
    hop-less e = (hopped e).less

    module _ {x : AllocExtent} where
      pub taken : r ≡ Takes x c' → Taken image m kind c x c'
      taken e = steps-to e

      pub take_less : r ≡ Takes x c' → weight c' < weight c
      take_less e = (taken e).less
