-- Laws of areas of allocation descriptors: a cursor walks exactly the area's list. Assumes nothing.
use mathlib.Core.Path.{◌≡◌, refl, ap, sym, ◌∙◌}
use mathlib.Core.Bool.{Bool, true, false}
use mathlib.Core.List.{List}
use Prim.Native.Nat.{ℕ, zero, suc, ◌+◌, ◌-◌, ◌/◌, ◌≤◌, ◌<◌}
use native.Mathlib.Nat.{div-eq_of_lt, div-eq-sub-div}
use native.Mathlib.Numerals.{add-one}
use native.Mathlib.Omega.{arith}
use lib.ListN.{length}
use lib.Dec.{eqb, ltb}
use borrow.Author.Tests.{lt-ltb, le-ltb, ltb-true, ltb-false}
use Rattle.disc.specs.Choice.{pick}
use Rattle.disc.specs.declared.refusals.Refusal.{Refusal}
use Rattle.disc.specs.declared.refusals.Refusal.TheVariants.{Unsupported}
use Rattle.records.proofs.Numbers.{u32-past}
use Rattle.areas.specs.declared.AllocExtent.{AllocExtent}
use Rattle.areas.specs.declared.AdContinuation.{AdContinuation}
use Rattle.areas.specs.declared.Descriptor.{Descriptor}
use Rattle.areas.specs.declared.Descriptor.TheVariants.{Stop, Data, Continued, Compressed}
use Rattle.areas.specs.declared.AdCursor.{AdCursor}
use Rattle.areas.specs.declared.AdStep.{AdStep}
use Rattle.areas.specs.declared.AdStep.TheVariants.{Extent, Continuation as Continues, End as Ends, Refused as Refuses}
use Rattle.areas.specs.declared.AdEnding.TheVariants.{End, Continuation, Refused}
use Rattle.areas.specs.Areas.{size_of, descriptor_of, descriptor_at, Area, ended, in_front, behind, descriptors, area_at, stepped, next_of}

-- ---- one descriptor

pub some_size : (kind : ℕ) → 8 ≤ size_of kind
unfolding size_of
some_size kind = each (eqb kind 0) (eqb kind 1)
  where
    each : (a b : Bool) → 8 ≤ pick a 8 (pick b 16 20)
    each true b = omega arith
    each false true = omega arith
    each false false = omega arith

pub small_size : (kind : ℕ) {size : ℕ} → size ≡ size_of kind → size ≤ 20
unfolding size_of
small_size kind e = rw e (each (eqb kind 0) (eqb kind 1))
  where
    each : (a b : Bool) → pick a 8 (pick b 16 20) ≤ 20
    each true b = omega arith
    each false true = omega arith
    each false false = omega arith

-- past the end every descriptor has length 0
pub descriptor-past : (kind : ℕ) (s : List ℕ) (i : ℕ) → length s ≤ i → descriptor_at kind s i ≡ Stop
unfolding descriptor_at descriptor_of
descriptor-past kind s i h = rw (← u32-past s i h) (each (eqb kind 0) (eqb kind 1))
  where
    each : (a b : Bool) → pick a Stop (pick b Stop Stop) ≡ Stop
    each true b = refl
    each false true = refl
    each false false = refl

-- ---- an area with no whole descriptor left, and one with its first taken off

pub area-end : (kind : ℕ) (s : List ℕ) (i size : ℕ) → size < size_of kind → area_at kind s i size ≡ ended End
unfolding area_at descriptors
area-end kind s i size h = rw (div-eq_of_lt h)

pub area-next : (kind : ℕ) (s : List ℕ) (i size : ℕ) → size_of kind ≤ size
    → area_at kind s i size ≡ behind (descriptor_at kind s i) (area_at kind s (i + size_of kind) (size - size_of kind))
unfolding area_at descriptors
area-next kind s i size h = rw (one_less size (size_of kind) (some_size kind) h)
  where
    one_less : (n k : ℕ) → 8 ≤ k → k ≤ n → n / k ≡ suc ((n - k) / k)
    one_less n k a b = div-eq-sub-div (omega arith) b ∙ add-one _

-- ---- the returns of `next_ad`

module _ (kind : ℕ) (s : List ℕ) (c : AdCursor) {size : ℕ} (z : size ≡ size_of kind) where
  pub next-short : c.left < size → Ends ≡ next_of kind s c
  unfolding next_of
  next-short h = simp (lt-ltb c.left (size_of kind) (rw z at h))

  module _ (l : size ≤ c.left) where
    next-at : next_of kind s c ≡ stepped size c (descriptor_at kind s c.at)
    unfolding next_of
    next-at = simp (le-ltb c.left (size_of kind) (rw z at l), z)

    pub next_past : length s ≤ c.at → Ends ≡ next_of kind s c
    next_past h = rw (next-at, descriptor-past kind s c.at h)

    module _ {d : Descriptor} (f : d ≡ descriptor_at kind s c.at) where
      step-of : {e : Descriptor} → d ≡ e → stepped size c e ≡ next_of kind s c
      step-of g = rw (next-at, ← f, g)

      pub next-stop : d ≡ Stop → Ends ≡ next_of kind s c
      next-stop g = step-of g

      pub next-data : (e : AllocExtent) → d ≡ Data e → Extent e (record { at = c.at + size; left = c.left - size }) ≡ next_of kind s c
      next-data e g = step-of g

      pub next-continued : (a : AdContinuation) → d ≡ Continued a → Continues a ≡ next_of kind s c
      next-continued a g = step-of g

      pub next-compressed : d ≡ Compressed → Refuses Unsupported ≡ next_of kind s c
      next-compressed g = step-of g

-- ---- a cursor walks exactly the list

-- the area that a step begins
abbrev walked : ℕ → List ℕ → AdStep → Area
walked kind s (Extent e c) = in_front e (area_at kind s c.at c.left)
walked kind s (Continues a) = ended (Continuation a)
walked kind s Ends = ended End
walked kind s (Refuses r) = ended (Refused r)

-- what a step to an extent leaves
record Onward (size : ℕ) (c c' : AdCursor) : Type 0 where
  room : size ≤ c.left
  place : c'.at ≡ c.at + size
  rest : c'.left ≡ c.left - size

module _ (kind : ℕ) (s : List ℕ) (c : AdCursor) where
  walks : area_at kind s c.at c.left ≡ walked kind s (next_of kind s c)
  unfolding next_of
  walks = told (ltb c.left (size_of kind)) refl
    where
      one : (d : Descriptor) → behind d (area_at kind s (c.at + size_of kind) (c.left - size_of kind)) ≡ walked kind s (stepped (size_of kind) c d)
      one Stop = refl
      one (Data e) = refl
      one (Continued a) = refl
      one Compressed = refl

      told : (b : Bool) → ltb c.left (size_of kind) ≡ b
          → area_at kind s c.at c.left ≡ walked kind s (pick b Ends (stepped (size_of kind) c (descriptor_at kind s c.at)))
      told true t = area-end kind s c.at c.left (ltb-true _ _ t)
      told false t = area-next kind s c.at c.left (ltb-false _ _ t) ∙ one (descriptor_at kind s c.at)

  pub walks-end : next_of kind s c ≡ Ends → area_at kind s c.at c.left ≡ ended End
  walks-end e = walks ∙ ap (walked kind s) e

  pub walks-continuation : {a : AdContinuation} → next_of kind s c ≡ Continues a → area_at kind s c.at c.left ≡ ended (Continuation a)
  walks-continuation e = walks ∙ ap (walked kind s) e

  pub walks-refused : {r : Refusal} → next_of kind s c ≡ Refuses r → area_at kind s c.at c.left ≡ ended (Refused r)
  walks-refused e = walks ∙ ap (walked kind s) e

  module _ {x : AllocExtent} {c' : AdCursor} (e : next_of kind s c ≡ Extent x c') where
    pub walks-extent : area_at kind s c.at c.left ≡ in_front x (area_at kind s c'.at c'.left)
    walks-extent = walks ∙ ap (walked kind s) e

    onward : Onward (size_of kind) c c'
    unfolding next_of
    onward = told (ltb c.left (size_of kind)) (descriptor_at kind s c.at) refl e
      where
        told : (b : Bool) (d : Descriptor) → ltb c.left (size_of kind) ≡ b → pick b Ends (stepped (size_of kind) c d) ≡ Extent x c'
            → Onward (size_of kind) c c'
        told true d t q = absurd (let z : ◌≡◌ {A = ℕ} 0 1 = cc in omega arith)
        told false Stop t q = absurd (let z : ◌≡◌ {A = ℕ} 0 1 = cc in omega arith)
        told false (Data y) t q = record { room = ltb-false _ _ t; place = cc; rest = cc }
        told false (Continued a) t q = absurd (let z : ◌≡◌ {A = ℕ} 0 1 = cc in omega arith)
        told false Compressed t q = absurd (let z : ◌≡◌ {A = ℕ} 0 1 = cc in omega arith)

    -- each step leaves less
    pub walks_less : c'.left < c.left
    walks_less = let o = onward in omega (arith, some_size kind)

    -- a cursor inside the bytes stays inside them
    pub walks-inside : c.at + c.left ≤ length s → c'.at + c'.left ≤ length s
    walks-inside h = let o = onward in omega arith

-- ---- the loop of `ending_of`

-- what is left of an area ends as the whole does
pub record Ahead (kind : ℕ) (s : List ℕ) (first rest : AdCursor) : Type 0 where
  pub same : (area_at kind s rest.at rest.left).ending ≡ (area_at kind s first.at first.left).ending

module _ (kind : ℕ) (s : List ℕ) (first : AdCursor) where
  pub ahead-starts : Ahead kind s first first
  ahead-starts = record { same = refl }

  module _ {rest : AdCursor} (p : Ahead kind s first rest) {r : AdStep} (q : r ≡ next_of kind s rest) where
    pub ahead-end : r ≡ Ends → End ≡ (area_at kind s first.at first.left).ending
    ahead-end e = sym (ap (λ (a : Area). a.ending) (walks-end kind s rest (sym q ∙ e))) ∙ p.same

    pub ahead-continuation : {a : AdContinuation} → r ≡ Continues a → Continuation a ≡ (area_at kind s first.at first.left).ending
    ahead-continuation e = sym (ap (λ (a : Area). a.ending) (walks-continuation kind s rest (sym q ∙ e))) ∙ p.same

    pub ahead-refused : {why : Refusal} → r ≡ Refuses why → Refused why ≡ (area_at kind s first.at first.left).ending
    ahead-refused e = sym (ap (λ (a : Area). a.ending) (walks-refused kind s rest (sym q ∙ e))) ∙ p.same

    pub ahead-next : {x : AllocExtent} {next : AdCursor} → r ≡ Extent x next → Ahead kind s first next
    ahead-next e = record { same = sym (ap (λ (a : Area). a.ending) (walks-extent kind s rest (sym q ∙ e))) ∙ p.same }

pub ahead-less : (kind : ℕ) (s : List ℕ) (rest : AdCursor) {r : AdStep} → r ≡ next_of kind s rest → {x : AllocExtent} {next : AdCursor} → r ≡ Extent x next → next.left < rest.left
ahead-less kind s rest q e = walks_less kind s rest (sym q ∙ e)

-- ---- an area that is refused

-- an extent that is compressed is all that refuses one
descriptors-refused : (n kind : ℕ) (s : List ℕ) (i : ℕ) {r : Refusal} → (descriptors n kind s i).ending ≡ Refused r → r ≡ Unsupported
unfolding descriptors
descriptors-refused zero kind s i e = absurd (let z : ◌≡◌ {A = ℕ} 0 1 = cc in omega arith)
descriptors-refused (suc n) kind s i {r} e = by (descriptor_at kind s i) (descriptors n kind s (i + size_of kind)) (λ q. descriptors-refused n kind s (i + size_of kind) q) e
  where
    by : (x : Descriptor) (rest : Area) → (rest.ending ≡ Refused r → r ≡ Unsupported) → (behind x rest).ending ≡ Refused r → r ≡ Unsupported
    by Stop rest h e = absurd (let z : ◌≡◌ {A = ℕ} 0 1 = cc in omega arith)
    by (Data x) rest h e = h e
    by (Continued a) rest h e = absurd (let z : ◌≡◌ {A = ℕ} 0 1 = cc in omega arith)
    by Compressed rest h e = cc

pub area-refused : (kind : ℕ) (s : List ℕ) (i size : ℕ) {r : Refusal} → (area_at kind s i size).ending ≡ Refused r → r ≡ Unsupported
unfolding area_at
area-refused kind s i size e = descriptors-refused (size / size_of kind) kind s i e
