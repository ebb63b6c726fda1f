-- Laws of the extents that a file's read holds: those of the areas that are accepted. Assumes nothing.
use Rattle.std.specs.Prelude.{Option, Some, None, Result, Ok, Err}
use mathlib.Core.Path.{◌≡◌, refl, ap, sym, ◌∙◌}
use mathlib.Core.Bool.{Bool, true, false, ◌&&◌}
use mathlib.Core.List.{List, [], ◌∷◌, ◌++◌, append_assoc}
use mathlib.Core.Logic.{⊎_elim}
use Prim.Native.Nat.{ℕ, zero, suc, ◌+◌, ◌-◌, ◌<◌, ◌≤◌, min}
use native.Mathlib.Nat.{zero-add}
use native.Mathlib.Omega.{arith}
use lib.ListN.{length, get_or, take, drop, replicate, length-append, length-drop, length-replicate, take-append-drop, get_or-append}
use lib.Seq.{get_or-take, get_or-drop, length-take-le, take-take, take-append-le}
use lib.Dec.{eqb, ltb, leb}
use Rattle.disc.specs.Choice.{pick}
use Rattle.disc.proofs.AskLaws.{outcome-then}
use Rattle.disc.specs.Ask.{Disc, Held, Ask, Outcome, given, outcome, then, and_then}
use Rattle.disc.specs.Ask.Held.{holds, lacks}
use Rattle.disc.specs.Ask.Ask.{done, refuse, ask}
use Rattle.disc.specs.Ask.Outcome.{answered, refused}
use Rattle.disc.specs.Images.{sectors, sectors_for}
use Rattle.disc.specs.Places.{placed, is_checked, standing as placing}
use Rattle.disc.specs.declared.places.Mount.{Mount}
use Rattle.disc.specs.declared.refusals.Refusal.TheVariants.{Io, Malformed, Unsupported}
use Rattle.disc.proofs.RanLaws.{never}
use Rattle.disc.proofs.ImageLaws.{split}
use Rattle.records.specs.Bytes.{u32at}
use Rattle.tags.specs.Tags.{read_tag, read_aed}
use Rattle.tags.proofs.HeadLaws.{aed-read}
use Rattle.areas.specs.declared.AllocExtent.{AllocExtent}
use Rattle.areas.specs.declared.AdContinuation.{AdContinuation}
use Rattle.areas.specs.declared.AdCursor.{AdCursor}
use Rattle.areas.specs.declared.AdStep.{AdStep}
use Rattle.areas.specs.declared.AdStep.TheVariants.{Extent, Continuation as GoesOn, End as Ends, Refused as Refuses}
use Rattle.areas.specs.Areas.{size_of, Area, area_at, next_of}
use Rattle.areas.proofs.AreaLaws.{some_size, small_size, area-end}
use Rattle.areas.proofs.PartLaws.{same_area}
use Rattle.areas.proofs.FrontLaws.{area_of, front-extent, front-continuation, front-end, front-refused}
use Rattle.chains.specs.Chains.{area_in, next_area, area_from}
use Rattle.drives.specs.FileFeeds.{joined, area_said, named_by}
use Rattle.drives.specs.Readings.{padded}
use Rattle.drives.proofs.MomentLaws.{path_of}
use Rattle.tags.specs.declared.DescriptorTag.{DescriptorTag}
use Rattle.disc.specs.declared.refusals.Refusal.{Refusal}
use Rattle.tags.specs.declared.AllocationExtentDescriptor.{AllocationExtentDescriptor}

-- ---- a longer area names no fewer extents

zeros-past : (n j : ℕ) → ◌≡◌ {A = ℕ} (get_or (replicate n 0) j 0) 0
zeros-past zero j = refl
zeros-past (suc n) zero = refl
zeros-past (suc n) (suc j) = zeros-past n j

zeros-byte : (l : List ℕ) (n j : ℕ) → get_or (l ++ replicate n 0) j 0 ≡ get_or l j 0
zeros-byte [] n j = zeros-past n j
zeros-byte (a ∷ l) n zero = refl
zeros-byte (a ∷ l) n (suc j) = zeros-byte l n j

padded-long : (n : ℕ) (l : List ℕ) → length (padded n l) ≡ n
padded-long n l = length-take-le n (l ++ replicate n 0) (let a = length-append l (replicate n 0) in let c = length-replicate {A = ℕ} n 0 in omega arith)

-- the first descriptor says how the rest counts, whatever the rest is
one_more : (kind : ℕ) (carry more rest : List ℕ) → length carry ≡ 20 → length (area_of kind more).extents ≤ length (area_of kind rest).extents
    → length (area_of kind (take (size_of kind) carry ++ more)).extents ≤ length (area_of kind (take (size_of kind) carry ++ rest)).extents
one_more kind carry more rest long h = by (next_of kind carry c) refl
  where
    c : AdCursor
    c = record { at = 0; left = size_of kind }

    by : (x : AdStep) → next_of kind carry c ≡ x
        → length (area_of kind (take (size_of kind) carry ++ more)).extents ≤ length (area_of kind (take (size_of kind) carry ++ rest)).extents
    by (Extent a n) e = rw (front-extent kind carry long c refl refl a n e more, front-extent kind carry long c refl refl a n e rest) (omega arith)
    by (GoesOn a) e = rw (front-continuation kind carry long c refl refl a e more) (omega arith)
    by Ends e = rw (front-end kind carry long c refl refl e more) (omega arith)
    by (Refuses why) e = rw (front-refused kind carry long c refl refl why e more) (omega arith)

-- the rest behind the first descriptor
list_on : (kind : ℕ) (p q : List ℕ) → size_of kind ≤ length p → length (area_of kind (drop (size_of kind) p)).extents ≤ length (area_of kind (drop (size_of kind) p ++ q)).extents
    → length (area_of kind p).extents ≤ length (area_of kind (p ++ q)).extents
list_on kind p q l ih =
    let front : take (size_of kind) (padded 20 p) ≡ take (size_of kind) p = take-take (size_of kind) 20 (p ++ replicate 20 0) (small_size kind refl) ∙ take-append-le (size_of kind) p (replicate 20 0) l in
    let z = one_more kind (padded 20 p) (drop (size_of kind) p) (drop (size_of kind) p ++ q) (padded-long 20 p) ih in
    let e : take (size_of kind) p ++ (drop (size_of kind) p ++ q) ≡ p ++ q = sym (append_assoc (take (size_of kind) p) (drop (size_of kind) p) q) ∙ ap (λ x. x ++ q) (take-append-drop (size_of kind) p) in
    rw (front, e, take-append-drop (size_of kind) p) at z

list-grows : (fuel kind : ℕ) (p q : List ℕ) → length p ≤ fuel → length (area_of kind p).extents ≤ length (area_of kind (p ++ q)).extents
list-grows zero kind p q h = rw (area-end kind p 0 (length p) (let k = some_size kind in omega arith)) (omega arith)
list-grows (suc n) kind p q h = ⊎_elim
    (λ l. list_on kind p q l (list-grows n kind (drop (size_of kind) p) q (let k = some_size kind in let d = length-drop (size_of kind) p in omega arith)))
    (λ l. rw (area-end kind p 0 (length p) l) (omega arith))
    (split (size_of kind) (length p))

area-grows : (kind : ℕ) (s : List ℕ) (i a b : ℕ) → a ≤ b → length (area_at kind s i a).extents ≤ length (area_at kind s i b).extents
area-grows kind s i a b h =
    let n = padded-long b (drop i s) in
    let k : length (take a z) ≡ a = length-take-le a z (omega arith) in
    let whole : area_at kind s i b ≡ area_of kind z = same_area s z kind i 0 b (λ j g. byte-is j g) ∙ rw n in
    let front : area_at kind s i a ≡ area_of kind (take a z) = same_area s (take a z) kind i 0 a (λ j g. byte-is j (omega arith) ∙ rw (zero-add j) (sym (get_or-take a z j 0 g))) ∙ rw k in
    rw (front, whole) (rw (take-append-drop a z) at (list-grows (length (take a z)) kind (take a z) (drop a z) (omega arith)))
  where
    z : List ℕ
    z = padded b (drop i s)

    byte-is : (j : ℕ) → j < b → get_or s (i + j) 0 ≡ get_or z (0 + j) 0
    byte-is j g = rw (zero-add j) (sym (get_or-take b (drop i s ++ replicate b 0) j 0 g ∙ zeros-byte (drop i s) b j ∙ get_or-drop i s j 0))

-- ---- no front of a continuation's bytes names more extents than all of them

said-least : (size : ℕ) (p : List ℕ) (g : Result DescriptorTag Refusal) → area_said size p g ≤ u32at p 20
said-least size p (Ok t) = by (eqb t.id 258 && leb (24 + u32at p 20) size)
  where
    by : (b : Bool) → pick b (u32at p 20) 0 ≤ u32at p 20
    by true = omega arith
    by false = omega arith
said-least size p (Err r) = omega arith

-- the area that the bytes of a continuation say
abbrev pub whole_area : ℕ → List ℕ → Area
whole_area kind s = area_at kind s 24 (u32at s 20)

front-names : (kind size : ℕ) (p q : List ℕ) (n : ℕ) → n ≡ min (area_said size p (read_tag p)) (length p - 24) → length (area_at kind p 24 n).extents ≤ length (whole_area kind (p ++ q)).extents
front-names kind size p q n e = ⊎_elim long short (split 24 (length p))
  where
    least : (a b c : ℕ) → n ≡ min a b → a ≤ c → n ≤ c
    least a b c g l = omega arith

    long : 24 ≤ length p → length (area_at kind p 24 n).extents ≤ length (whole_area kind (p ++ q)).extents
    long h =
        let u : u32at (p ++ q) 20 ≡ u32at p 20 =
        rw (get_or-append p q 0 20 (omega arith), get_or-append p q 0 21 (omega arith), get_or-append p q 0 22 (omega arith), get_or-append p q 0 23 (omega arith)) in
        let same : area_at kind p 24 n ≡ area_at kind (p ++ q) 24 n = same_area p (p ++ q) kind 24 24 n (λ j g. sym (get_or-append p q 0 (24 + j) (omega arith))) in
        rw same (area-grows kind (p ++ q) 24 n (u32at (p ++ q) 20) (rw u (least (area_said size p (read_tag p)) (length p - 24) (u32at p 20) e (said-least size p (read_tag p)))))

    short : length p < 24 → length (area_at kind p 24 n).extents ≤ length (whole_area kind (p ++ q)).extents
    short h =
        let z : n ≡ 0 = omega arith in
        let k = some_size kind in
        rw (z, area-end kind p 24 0 (omega arith)) (omega arith)

pub named-below : (kind size : ℕ) (es : List AllocExtent) (p q : List ℕ) → named_by kind size es p ≤ length (joined es (whole_area kind (p ++ q)))
named-below kind size es p q =
    let l = front-names kind size p q (min (area_said size p (read_tag p)) (length p - 24)) refl in
    rw (length-append es (area_at kind p 24 (min (area_said size p (read_tag p)) (length p - 24))).extents, length-append es (whole_area kind (p ++ q)).extents) (more (length es) l)
  where
    more : (n : ℕ) {a b : ℕ} → a ≤ b → n + a ≤ n + b
    more n h = omega arith

-- ---- the bytes that a continuation was read from

-- what asks for nothing has no bytes
path-then : {A B : Type 0} (d : Disc) (t : Ask A) (f : A → Ask B) → ((a : A) → path_of d (f a) ≡ []) → path_of d (then t f) ≡ path_of d t
unfolding path_of then
path-then d (done a) f h = h a
path-then d (refuse r) f h = refl
path-then {A} {B} d (ask s k) f h = by (d s) (λ b. path-then d (k b) f h)
  where
    by : (x : Held) → ((b : List ℕ) → path_of d (then (k b) f) ≡ path_of d (k b)) → given x (λ b. b ++ path_of d (then (k b) f)) [] ≡ given x (λ b. b ++ path_of d (k b)) []
    by (holds b) ih = ap (λ x. b ++ x) (ih b)
    by lacks ih = refl

-- an answer that was made of another
then-answered : {A B : Type 0} (o : Outcome A) (f : A → Outcome B) {b : B} → and_then o f ≡ answered b → (P : Type 0) → ((a : A) → o ≡ answered a → f a ≡ answered b → P) → P
then-answered (answered a) f e P h = h a refl e
then-answered (refused r) f e P h = never e

path-sectors : (d : Disc) (n at : ℕ) (s : List ℕ) → outcome d (sectors n at) ≡ answered s → path_of d (sectors n at) ≡ s
unfolding outcome path_of sectors
path-sectors d zero at s e = let z : [] ≡ s = cc in z
path-sectors d (suc n) at s e = by (d at) e (λ x q. path-sectors d n (at + 1) x q)
  where
    rest : List ℕ → Ask (List ℕ)
    rest b = then (sectors n (at + 1)) (λ x. done (b ++ x))

    by : (x : Held) → given x (λ b. outcome d (rest b)) (refused Io) ≡ answered s → ((x : List ℕ) → outcome d (sectors n (at + 1)) ≡ answered x → path_of d (sectors n (at + 1)) ≡ x)
        → given x (λ b. b ++ path_of d (rest b)) [] ≡ s
    by (holds b) e ih =
        then-answered (outcome d (sectors n (at + 1))) (λ x. answered (b ++ x)) (sym (outcome-then d (sectors n (at + 1)) (λ x. done (b ++ x))) ∙ e) (b ++ path_of d (rest b) ≡ s)
        (λ x q r. ap (λ y. b ++ y) (path-then d (sectors n (at + 1)) (λ y. done (b ++ y)) (λ y. refl) ∙ ih x q) ∙ (let z : b ++ x ≡ s = cc in z))
    by lacks e ih = never e

area-none : (d : Disc) (kind size : ℕ) (s : List ℕ) (h : Result AllocationExtentDescriptor Refusal) → path_of d (area_in kind size s h) ≡ []
unfolding path_of
area-none d kind size s (Err r) = refl
area-none d kind size s (Ok t) = by (ltb size (24 + t.length_of_allocation_descriptors))
  where
    by : (b : Bool) → path_of d (pick b (refuse Malformed) (done (area_at kind s 24 t.length_of_allocation_descriptors))) ≡ []
    by true = refl
    by false = refl

area-whole : (d : Disc) (check : Bool) (kind size : ℕ) (s : List ℕ) (x : Area) → outcome d (area_in kind size s (read_aed check s)) ≡ answered x → x ≡ whole_area kind s
unfolding outcome
area-whole d check kind size s x e = by (read_aed check s) refl e
  where
    by : (h : Result AllocationExtentDescriptor Refusal) → read_aed check s ≡ h → outcome d (area_in kind size s h) ≡ answered x → x ≡ whole_area kind s
    by (Err r) g e = never e
    by (Ok t) g e = told (ltb size (24 + t.length_of_allocation_descriptors)) e
      where
        told : (b : Bool) → outcome d (pick b (refuse Malformed) (done (area_at kind s 24 t.length_of_allocation_descriptors))) ≡ answered x → x ≡ whole_area kind s
        told true e = never e
        told false e =
            let z : area_at kind s 24 t.length_of_allocation_descriptors ≡ x = cc in
            sym z ∙ ap (area_at kind s 24) (aed-read check s refl g).area

pub next-whole : (d : Disc) (m : Mount) (kind : ℕ) (a : AdContinuation) (x : Area) → outcome d (next_area m kind a) ≡ answered x → x ≡ whole_area kind (path_of d (next_area m kind a))
unfolding outcome path_of next_area area_from
next-whole d m kind a x e = by (placed m a.partition_ref a.block.0) (ltb a.length 24) (ltb 1048576 a.length) e
  where
    area : List ℕ → Ask Area
    area s = area_in kind a.length s (read_aed (is_checked m) s)

    by : (o : Option ℕ) (short long : Bool)
        → outcome d (placing o (λ at. pick short (refuse Malformed) (pick long (refuse Unsupported) (then (sectors (sectors_for a.length) at) area)))) ≡ answered x
        → x ≡ whole_area kind (path_of d (placing o (λ at. pick short (refuse Malformed) (pick long (refuse Unsupported) (then (sectors (sectors_for a.length) at) area)))))
    by None short long e = never e
    by (Some at) true long e = never e
    by (Some at) false true e = never e
    by (Some at) false false e =
        then-answered (outcome d (sectors (sectors_for a.length) at)) (λ s. outcome d (area s)) (sym (outcome-then d (sectors (sectors_for a.length) at) area) ∙ e)
        (x ≡ whole_area kind (path_of d (then (sectors (sectors_for a.length) at) area)))
        (λ s q r.
        let z : path_of d (then (sectors (sectors_for a.length) at) area) ≡ s = path-then d (sectors (sectors_for a.length) at) area (λ y. area-none d kind a.length y (read_aed (is_checked m) y)) ∙ path-sectors d (sectors_for a.length) at s q in
        rw z (area-whole d (is_checked m) kind a.length s x r))
