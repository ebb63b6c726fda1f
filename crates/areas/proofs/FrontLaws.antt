-- Of an area the first descriptor, where its bytes stand in a list of their own, and the rest. Assumes nothing.
use mathlib.Core.Path.{◌≡◌, refl, ap, sym, ◌∙◌}
use mathlib.Core.List.{List, ◌++◌}
use Prim.Native.Nat.{ℕ, ◌+◌, ◌-◌}
use native.Mathlib.Nat.{zero-add}
use native.Mathlib.Omega.{arith}
use lib.ListN.{length, get_or, take, length-append, get_or-append}
use lib.Seq.{get_or-take, get_or-append-add, length-take-le}
use borrow.Author.Tests.{le-ltb}
use Rattle.disc.specs.declared.refusals.Refusal.{Refusal}
use Rattle.disc.specs.declared.refusals.Refusal.TheVariants.{Unsupported}
use Rattle.areas.specs.declared.AllocExtent.{AllocExtent}
use Rattle.areas.specs.declared.AdContinuation.{AdContinuation}
use Rattle.areas.specs.declared.AdCursor.{AdCursor}
use Rattle.areas.specs.declared.AdStep.TheVariants.{Extent, Continuation as GoesOn, End as Ends, Refused as Refuses}
use Rattle.areas.specs.declared.AdEnding.TheVariants.{End, Continuation, Refused}
use Rattle.areas.specs.declared.Descriptor.{Descriptor}
use Rattle.areas.specs.declared.Descriptor.TheVariants.{Stop, Data, Continued, Compressed}
use Rattle.areas.specs.Areas.{size_of, descriptor_at, Area, ended, in_front, behind, area_at, stepped, next_of}
use Rattle.areas.proofs.AreaLaws.{some_size, small_size, area-end, area-next}
use Rattle.areas.proofs.PartLaws.{Same, same_area}

-- an area that is all of a list
abbrev pub area_of : ℕ → List ℕ → Area
area_of kind s = area_at kind s 0 (length s)

behind-same : (d d' : Descriptor) (x : Area) → behind d (ended End) ≡ behind d' (ended End) → behind d' x ≡ behind d x
behind-same Stop Stop x h = refl
behind-same Stop (Data e) x h = absurd (let q = ap (λ (a : Area). a.extents) h in let z : ◌≡◌ {A = ℕ} 0 1 = cc in omega arith)
behind-same Stop (Continued a) x h = absurd (let q = ap (λ (a : Area). a.ending) h in let z : ◌≡◌ {A = ℕ} 0 1 = cc in omega arith)
behind-same Stop Compressed x h = absurd (let q = ap (λ (a : Area). a.ending) h in let z : ◌≡◌ {A = ℕ} 0 1 = cc in omega arith)
behind-same (Data e) Stop x h = absurd (let q = ap (λ (a : Area). a.extents) h in let z : ◌≡◌ {A = ℕ} 0 1 = cc in omega arith)
behind-same (Data e) (Data e') x h = let q = ap (λ (a : Area). a.extents) h in let z : e ≡ e' = cc in rw z
behind-same (Data e) (Continued a) x h = absurd (let q = ap (λ (a : Area). a.extents) h in let z : ◌≡◌ {A = ℕ} 0 1 = cc in omega arith)
behind-same (Data e) Compressed x h = absurd (let q = ap (λ (a : Area). a.extents) h in let z : ◌≡◌ {A = ℕ} 0 1 = cc in omega arith)
behind-same (Continued a) Stop x h = absurd (let q = ap (λ (a : Area). a.ending) h in let z : ◌≡◌ {A = ℕ} 0 1 = cc in omega arith)
behind-same (Continued a) (Data e) x h = absurd (let q = ap (λ (a : Area). a.extents) h in let z : ◌≡◌ {A = ℕ} 0 1 = cc in omega arith)
behind-same (Continued a) (Continued a') x h = sym h
behind-same (Continued a) Compressed x h = absurd (let q = ap (λ (a : Area). a.ending) h in let z : ◌≡◌ {A = ℕ} 0 1 = cc in omega arith)
behind-same Compressed Stop x h = absurd (let q = ap (λ (a : Area). a.ending) h in let z : ◌≡◌ {A = ℕ} 0 1 = cc in omega arith)
behind-same Compressed (Data e) x h = absurd (let q = ap (λ (a : Area). a.extents) h in let z : ◌≡◌ {A = ℕ} 0 1 = cc in omega arith)
behind-same Compressed (Continued a) x h = absurd (let q = ap (λ (a : Area). a.ending) h in let z : ◌≡◌ {A = ℕ} 0 1 = cc in omega arith)
behind-same Compressed Compressed x h = refl

module _ (kind : ℕ) where
  -- one descriptor alone
  area-one : (s : List ℕ) → area_at kind s 0 (size_of kind) ≡ behind (descriptor_at kind s 0) (ended End)
  area-one s =
      let z : size_of kind - size_of kind ≡ 0 = omega arith in
      let p = some_size kind in
      area-next kind s 0 (size_of kind) (omega arith) ∙ ap (behind (descriptor_at kind s 0)) (rw z (area-end kind s (0 + size_of kind) 0 (omega arith)))

  module _ (carry more : List ℕ) (long : length carry ≡ 20) where
    abbrev front : List ℕ
    front = take (size_of kind) carry

    front_long : length front ≡ size_of kind
    front_long = let l = small_size kind refl in length-take-le (size_of kind) carry (omega arith)

    front_same : Same carry (front ++ more) 0 0 (size_of kind)
    front_same j h =
        let l = front_long in
        rw (zero-add j) (sym (get_or-append front more 0 j (omega arith) ∙ get_or-take (size_of kind) carry j 0 h))

    behind-front : area_at kind (front ++ more) (0 + size_of kind) (size_of kind + length more - size_of kind) ≡ area_at kind more 0 (length more)
    behind-front =
        let z : size_of kind + length more - size_of kind ≡ length more = omega arith in
        rw z (same_area (front ++ more) more kind (0 + size_of kind) 0 (length more) (λ j q. each j))
      where
        each : (j : ℕ) → get_or (front ++ more) (0 + size_of kind + j) 0 ≡ get_or more (0 + j) 0
        each j =
            let l = front_long in
            let z : 0 + size_of kind + j ≡ length front + j = omega arith in
            rw (z, zero-add j) (get_or-append-add front more j 0)

    -- in front of the rest
    pub area-front : area_of kind (front ++ more) ≡ behind (descriptor_at kind carry 0) (area_of kind more)
    area-front =
        let l : length (front ++ more) ≡ size_of kind + length more = length-append front more ∙ ap (λ n. n + length more) front_long in
        let h = sym (area-one carry) ∙ same_area carry (front ++ more) kind 0 0 (size_of kind) front_same ∙ area-one (front ++ more) in
        rw l
        (area-next kind (front ++ more) 0 (size_of kind + length more) (omega arith)
        ∙ ap (behind (descriptor_at kind (front ++ more) 0)) behind-front
        ∙ behind-same (descriptor_at kind carry 0) (descriptor_at kind (front ++ more) 0) (area_at kind more 0 (length more)) h)

module _ (kind : ℕ) (carry : List ℕ) (long : length carry ≡ 20) (c : AdCursor) (at : c.at ≡ 0) (left : c.left ≡ size_of kind) where
  step_is : next_of kind carry c ≡ stepped (size_of kind) c (descriptor_at kind carry 0)
  unfolding next_of
  step_is = rw (left, at, le-ltb (size_of kind) (size_of kind) (omega arith))

  pub front-extent : (a : AllocExtent) (n : AdCursor) → next_of kind carry c ≡ Extent a n → (more : List ℕ) → area_of kind (take (size_of kind) carry ++ more) ≡ in_front a (area_of kind more)
  front-extent a n h more = area-front kind carry more long ∙ ap (λ d. behind d (area_of kind more)) (by (descriptor_at kind carry 0) (sym step_is ∙ h))
    where
      by : (d : Descriptor) → stepped (size_of kind) c d ≡ Extent a n → d ≡ Data a
      by Stop q = absurd (let z : ◌≡◌ {A = ℕ} 0 1 = cc in omega arith)
      by (Data b) q = cc
      by (Continued b) q = absurd (let z : ◌≡◌ {A = ℕ} 0 1 = cc in omega arith)
      by Compressed q = absurd (let z : ◌≡◌ {A = ℕ} 0 1 = cc in omega arith)

  pub front-continuation : (a : AdContinuation) → next_of kind carry c ≡ GoesOn a → (more : List ℕ) → area_of kind (take (size_of kind) carry ++ more) ≡ ended (Continuation a)
  front-continuation a h more = area-front kind carry more long ∙ ap (λ d. behind d (area_of kind more)) (by (descriptor_at kind carry 0) (sym step_is ∙ h))
    where
      by : (d : Descriptor) → stepped (size_of kind) c d ≡ GoesOn a → d ≡ Continued a
      by Stop q = absurd (let z : ◌≡◌ {A = ℕ} 0 1 = cc in omega arith)
      by (Data b) q = absurd (let z : ◌≡◌ {A = ℕ} 0 1 = cc in omega arith)
      by (Continued b) q = cc
      by Compressed q = absurd (let z : ◌≡◌ {A = ℕ} 0 1 = cc in omega arith)

  pub front-end : next_of kind carry c ≡ Ends → (more : List ℕ) → area_of kind (take (size_of kind) carry ++ more) ≡ ended End
  front-end h more = area-front kind carry more long ∙ ap (λ d. behind d (area_of kind more)) (by (descriptor_at kind carry 0) (sym step_is ∙ h))
    where
      by : (d : Descriptor) → stepped (size_of kind) c d ≡ Ends → d ≡ Stop
      by Stop q = refl
      by (Data b) q = absurd (let z : ◌≡◌ {A = ℕ} 0 1 = cc in omega arith)
      by (Continued b) q = absurd (let z : ◌≡◌ {A = ℕ} 0 1 = cc in omega arith)
      by Compressed q = absurd (let z : ◌≡◌ {A = ℕ} 0 1 = cc in omega arith)

  pub front-refused : (why : Refusal) → next_of kind carry c ≡ Refuses why → (more : List ℕ) → area_of kind (take (size_of kind) carry ++ more) ≡ ended (Refused Unsupported)
  front-refused why h more = area-front kind carry more long ∙ ap (λ d. behind d (area_of kind more)) (by (descriptor_at kind carry 0) (sym step_is ∙ h))
    where
      by : (d : Descriptor) → stepped (size_of kind) c d ≡ Refuses why → d ≡ Compressed
      by Stop q = absurd (let z : ◌≡◌ {A = ℕ} 0 1 = cc in omega arith)
      by (Data b) q = absurd (let z : ◌≡◌ {A = ℕ} 0 1 = cc in omega arith)
      by (Continued b) q = absurd (let z : ◌≡◌ {A = ℕ} 0 1 = cc in omega arith)
      by Compressed q = refl
