-- Laws of figures added up: of a list of them, what its total is to each. Assumes nothing.
use mathlib.Core.Path.{◌≡◌, refl, sym, ◌∙◌}
use mathlib.Core.List.{List, [], ◌∷◌, ◌++◌, map, append_assoc}
use mathlib.Core.Logic.{◌⊎◌, inl, inr, ⊎_elim}
use Prim.Native.Nat.{ℕ, zero, suc, ◌+◌, ◌*◌, ◌<◌, ◌≤◌, max}
use native.Mathlib.Omega.{arith}
use lib.ListN.{length, get_or, take, drop, length-append}
use lib.Seq.{drop-drop, take_at, drop_at}
use Rattle.disc.proofs.ImageLaws.{split}
use Rattle.figures.specs.Figures.{Figures, Wide, row, rows, added, added_to, each_added, numbers, sum, AllWide}
use Rattle.figures.proofs.FigureLaws.{row-long, added-wide}
use Rattle.figures.specs.Figures.AllWide.{none-wide, more-wide}
use Rattle.surveys.specs.Shelves.{OneOf}

-- ---- a place of a row

pub rows-place : {fs : List Figures} → AllWide fs → (i : ℕ) → i < length fs → (d : Figures) (rest : List ℕ) → take 80 (drop (80 * i) (rows fs ++ rest)) ≡ row (get_or fs i d)
unfolding rows
rows-place none-wide i h d rest = absurd (omega arith)
rows-place (more-wide {f} {fs} w ws) zero h d rest =
    rw (append_assoc (row f) (rows fs) rest) (take_at (row f) (rows fs ++ rest) 80 (row-long w))
rows-place (more-wide {f} {fs} w ws) (suc i) h d rest =
    let e : 80 * suc i ≡ 80 + 80 * i = omega arith in
    let l : length (row f) ≡ 80 = row-long w in
    rw (e, append_assoc (row f) (rows fs) rest, ← (drop-drop (80 * i) 80 (row f ++ (rows fs ++ rest))), drop_at (row f) (rows fs ++ rest) 80 l) (rows-place ws i (omega arith) d rest)

-- ---- the sectors and the chain

pub sectors-to : (fs : List Figures) (f : Figures) → (added_to f fs).sectors ≡ f.sectors + sum (map (λ (g : Figures). g.sectors) fs)
unfolding added_to sum
sectors-to [] f = omega arith
sectors-to (g ∷ fs) f = sectors-to fs (added f g) ∙ omega arith

chain-from : (fs : List Figures) (f : Figures) → f.chain ≤ (added_to f fs).chain
unfolding added_to
chain-from [] f = omega arith
chain-from (g ∷ fs) f = let h = chain-from fs (added f g) in omega arith

pub chain-most : (fs : List Figures) (f : Figures) (i : ℕ) → i < length fs → (d : Figures) → (get_or fs i d).chain ≤ (added_to f fs).chain
unfolding added_to
chain-most [] f i h d = absurd (omega arith)
chain-most (g ∷ fs) f zero h d = let k = chain-from fs (added f g) in omega arith
chain-most (g ∷ fs) f (suc i) h d = chain-most fs (added f g) i (omega arith) d

pub chain-one : (fs : List Figures) (f d : Figures) → ((added_to f fs).chain ≡ f.chain) ⊎ OneOf fs d (added_to f fs).chain
unfolding added_to
chain-one [] f d = inl refl
chain-one (g ∷ fs) f d = ⊎_elim
    (λ (e : (added_to (added f g) fs).chain ≡ max f.chain g.chain). ⊎_elim
    (λ (h : f.chain ≤ g.chain). inr (record { which = 0; inside = omega arith; is = omega arith }))
    (λ (h : g.chain < f.chain). inl (omega arith))
    (split f.chain g.chain))
    (λ (o : OneOf fs d (added_to (added f g) fs).chain). inr (record { which = suc o.which; inside = omega (arith, o.inside); is = o.is }))
    (chain-one fs (added f g) d)

-- ---- no figure is less in the sum than in a part of it

pub record Below (s t : List ℕ) : Type 0 where
  pub no_less : (k : ℕ) → get_or s k 0 ≤ get_or t k 0

below-same : (s : List ℕ) → Below s s
below-same s = record { no_less = λ k. omega arith }

below-trans : {s t u : List ℕ} → Below s t → Below t u → Below s u
below-trans g h = record { no_less = λ k. omega (arith, g.no_less k, h.no_less k) }

below-cons : {a b : ℕ} {s t : List ℕ} → a ≤ b → Below s t → Below (a ∷ s) (b ∷ t)
below-cons {a} {b} {s} {t} h g = record { no_less = by }
  where
    by : (k : ℕ) → get_or (a ∷ s) k 0 ≤ get_or (b ∷ t) k 0
    by zero = h
    by (suc k) = g.no_less k

below-joined : (s s' : List ℕ) {t t' : List ℕ} → length s ≡ length s' → Below s s' → Below t t' → Below (s ++ t) (s' ++ t')
below-joined [] [] e g h = h
below-joined [] (b ∷ s') e g h = absurd (omega arith)
below-joined (a ∷ s) [] e g h = absurd (omega arith)
below-joined (a ∷ s) (b ∷ s') e g h = below-cons (g.no_less zero) (below-joined s s' (omega arith) (record { no_less = λ k. g.no_less (suc k) }) h)

each_first : (s t : List ℕ) → Below s (each_added s t)
unfolding each_added
each_first [] t = below-same []
each_first (a ∷ s) [] = below-same (a ∷ s)
each_first (a ∷ s) (b ∷ t) = below-cons (omega arith) (each_first s t)

each-second : (s t : List ℕ) → length s ≡ length t → Below t (each_added s t)
unfolding each_added
each-second [] [] e = below-same []
each-second [] (b ∷ t) e = absurd (omega arith)
each-second (a ∷ s) [] e = absurd (omega arith)
each-second (a ∷ s) (b ∷ t) e = below-cons (omega arith) (each-second s t (omega arith))

-- figures of which none is less
below-numbers : {f g : Figures} → Wide f → Wide g → f.files ≤ g.files → f.directories ≤ g.directories → f.bytes ≤ g.bytes → f.extents ≤ g.extents → f.sectors ≤ g.sectors
    → Below f.by_files g.by_files → Below f.by_images g.by_images → f.chain ≤ g.chain → Below (numbers f) (numbers g)
below-numbers {f} {g} v w files directories bytes extents sectors by-files by-images chain =
    below-cons files (below-cons directories (below-cons bytes (below-cons extents (below-cons sectors
    (below-joined (f.by_files ++ f.by_images) (g.by_files ++ g.by_images) (rw (length-append f.by_files f.by_images, length-append g.by_files g.by_images, v.files-wide, v.images-wide, w.files-wide, w.images-wide))
    (below-joined f.by_files g.by_files (v.files-wide ∙ sym w.files-wide) by-files by-images)
    (below-cons chain (below-same [])))))))

module _ {f g : Figures} (v : Wide f) (w : Wide g) where
  added-first : Below (numbers f) (numbers (added f g))
  added-first = below-numbers v (added-wide g v) (omega arith) (omega arith) (omega arith) (omega arith) (omega arith) (each_first f.by_files g.by_files) (each_first f.by_images g.by_images) (omega arith)

  added-second : Below (numbers g) (numbers (added f g))
  added-second =
      below-numbers w (added-wide g v) (omega arith) (omega arith) (omega arith) (omega arith) (omega arith) (each-second f.by_files g.by_files (v.files-wide ∙ sym w.files-wide))
      (each-second f.by_images g.by_images (v.images-wide ∙ sym w.images-wide)) (omega arith)

below-from : {fs : List Figures} → AllWide fs → {f : Figures} → Wide f → Below (numbers f) (numbers (added_to f fs))
unfolding added_to
below-from none-wide {f} v = below-same (numbers f)
below-from (more-wide {f = g} w ws) {f} v = below-trans (added-first v w) (below-from ws (added-wide g v))

pub below_total : {fs : List Figures} → AllWide fs → {f : Figures} → Wide f → (i : ℕ) → i < length fs → (d : Figures) → Below (numbers (get_or fs i d)) (numbers (added_to f fs))
unfolding added_to
below_total none-wide v i h d = absurd (omega arith)
below_total (more-wide {f = g} w ws) {f} v zero h d = below-trans (added-second v w) (below-from ws (added-wide g v))
below_total (more-wide {f = g} w ws) {f} v (suc i) h d = below_total ws (added-wide g v) i (omega arith) d
