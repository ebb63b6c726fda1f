-- The components of a path are what they are to be, and nothing else is. Assumes nothing.
use mathlib.Core.Path.{◌≡◌, refl, sym, ap, ◌∙◌}
use mathlib.Core.Bool.{Bool, true, false}
use mathlib.Core.List.{List, [], ◌∷◌, ◌++◌}
use Prim.Native.Nat.{ℕ, suc, ◌+◌, ◌<◌}
use native.Mathlib.Nat.{add-zero, add-suc, suc-add}
use native.Mathlib.Omega.{arith}
use lib.ListN.{length, drop}
use lib.Dec.{eqb}
use borrow.Author.Tests.{eq-eqb, ne_eqb, eqb-true, eqb-false}
use Rattle.disc.specs.Choice.{pick}
use Rattle.listings.specs.Paths.{Component, front, behind, components_from, components, unless_empty}
use Rattle.listings.specs.Cuts.{Slashes, NoSlash, Parted, CutFrom, Cut}

-- ---- the bytes before the first slash

front-parts : (s : List ℕ) → s ≡ front s ++ drop (length (front s)) s
unfolding front
front-parts [] = refl
front-parts (b ∷ s) = by (eqb b 0x2f) (front-parts s)
  where
    by : (t : Bool) → s ≡ front s ++ drop (length (front s)) s → b ∷ s ≡ pick t [] (b ∷ front s) ++ drop (length (pick t [] (b ∷ front s))) (b ∷ s)
    by true e = refl
    by false e = ap (λ (l : List ℕ). b ∷ l) e

front-plain : (s : List ℕ) → NoSlash (front s)
unfolding front NoSlash
front-plain [] = tt
front-plain (b ∷ s) = by (eqb b 0x2f) refl (front-plain s)
  where
    by : (t : Bool) → eqb b 0x2f ≡ t → NoSlash (front s) → NoSlash (pick t [] (b ∷ front s))
    by true e h = tt
    by false e h = (eqb-false b 0x2f e, h)

front-parted : (s : List ℕ) → Parted (drop (length (front s)) s)
unfolding front Parted
front-parted [] = tt
front-parted (b ∷ s) = by (eqb b 0x2f) refl (front-parted s)
  where
    by : (t : Bool) → eqb b 0x2f ≡ t → Parted (drop (length (front s)) s) → Parted (drop (length (pick t [] (b ∷ front s))) (b ∷ s))
    by true e h = eqb-true b 0x2f e
    by false e h = h

-- ---- the components are those of the path

-- a slash in front changes none
slash-cut : (at : ℕ) (b : ℕ) (s : List ℕ) (cs : List Component) → b ≡ 0x2f → CutFrom (suc at) s cs → CutFrom at (b ∷ s) cs
unfolding CutFrom Slashes
slash-cut at b s [] e h = (e, h)
slash-cut at b s (c ∷ cs) e h =
    record {
      before = b ∷ h.before;
      rest = h.rest;
      parts = ap (λ (l : List ℕ). b ∷ l) h.parts;
      slashes = (e, h.slashes);
      place = h.place ∙ rw (add-suc, suc-add);
      some = h.some;
      plain = h.plain;
      parted = h.parted;
      on = rw (add-suc, ← suc-add) h.on;
    }

pub record CutAt (at : ℕ) (s : List ℕ) : Type 0 where
  pub whole : CutFrom at s (components_from at s)
  pub back : CutFrom (at + length (front s)) (drop (length (front s)) s) (behind at s)

cut_at : (at : ℕ) (s : List ℕ) → CutAt at s
unfolding components_from front behind CutFrom Slashes NoSlash
cut_at at [] = record { whole = tt; back = tt }
cut_at at (b ∷ s) = by (eqb b 0x2f) refl (cut_at (suc at) s)
  where
    by : (t : Bool) → eqb b 0x2f ≡ t → CutAt (suc at) s → CutAt at (b ∷ s)
    by true e h =
        let k = slash-cut at b s (components_from (suc at) s) (eqb-true b 0x2f e) h.whole in
        record { whole = rw e k; back = rw (e, add-zero) k }
    by false e h =
        record {
          whole =
              rw e
              (record {
                before = [];
                rest = drop (length (front s)) s;
                parts = ap (λ (l : List ℕ). b ∷ l) (front-parts s);
                slashes = tt;
                place = sym (add-zero at);
                some = omega arith;
                plain = (eqb-false b 0x2f e, front-plain s);
                parted = front-parted s;
                on = rw (add-zero, add-suc, ← suc-add) h.back;
              });
          back = rw (e, add-suc, ← suc-add) h.back;
        }

pub path-cut : (path : List ℕ) → Cut path (components path)
unfolding components
path-cut path = (cut_at 0 path).whole

-- ---- and nothing else is

slashes-pass : (at : ℕ) (a s : List ℕ) → Slashes a → components_from at (a ++ s) ≡ components_from (at + length a) s
unfolding Slashes components_from front behind
slashes-pass at [] s h = rw add-zero
slashes-pass at (b ∷ a) s h = rw (eq-eqb b 0x2f h.0, add-suc, ← suc-add) (slashes-pass (suc at) a s h.1)

parted-front : (s : List ℕ) → Parted s → front s ≡ []
unfolding Parted front
parted-front [] h = refl
parted-front (b ∷ s) h = rw (eq-eqb b 0x2f h)

plain-front : (a s : List ℕ) → NoSlash a → Parted s → front (a ++ s) ≡ a
unfolding NoSlash front
plain-front [] s h k = parted-front s k
plain-front (b ∷ a) s h k = rw (ne_eqb b 0x2f h.0, plain-front a s h.1 k)

plain-behind : (at : ℕ) (a s : List ℕ) → NoSlash a → Parted s → behind at (a ++ s) ≡ components_from (at + length a) s
unfolding NoSlash behind components_from
plain-behind at [] s h k = rw (parted-front s k, add-zero)
plain-behind at (b ∷ a) s h k = rw (ne_eqb b 0x2f h.0, add-suc, ← suc-add) (plain-behind (suc at) a s h.1 k)

plain-first : (at : ℕ) (a s : List ℕ) → NoSlash a → 0 < length a → Parted s → components_from at (a ++ s) ≡ record { bytes = a; at = at } ∷ components_from (at + length a) s
unfolding components_from
plain-first at a s h l k = rw (plain-front a s h k, plain-behind at a s h k) (by a l)
  where
    by : (x : List ℕ) → 0 < length x → unless_empty x at (components_from (at + length a) s) ≡ record { bytes = x; at = at } ∷ components_from (at + length a) s
    by [] l = absurd (omega arith)
    by (b ∷ x) l = refl

all-slashes : (at : ℕ) (s : List ℕ) → Slashes s → components_from at s ≡ []
unfolding Slashes components_from front behind
all-slashes at [] h = refl
all-slashes at (b ∷ s) h = rw (eq-eqb b 0x2f h.0) (all-slashes (suc at) s h.1)

cut-from : (at : ℕ) (s : List ℕ) (cs : List Component) → CutFrom at s cs → cs ≡ components_from at s
unfolding CutFrom
cut-from at s [] h = sym (all-slashes at s h)
cut-from at s (c ∷ cs) h =
    let i = at + length h.before in
    let e : components_from at s ≡ record { bytes = c.bytes; at = i } ∷ components_from (i + length c.bytes) h.rest =
    ap (components_from at) h.parts ∙ slashes-pass at h.before (c.bytes ++ h.rest) h.slashes ∙ plain-first i c.bytes h.rest h.plain h.some h.parted
    in
    rw (e, ← cut-from (i + length c.bytes) h.rest cs h.on, ← h.place)

pub cut-is : (path : List ℕ) (cs : List Component) → Cut path cs → cs ≡ components path
unfolding components
cut-is path cs h = cut-from 0 path cs h
