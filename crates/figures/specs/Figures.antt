-- Figures over files, directories and images: RULES 16.1 to 16.3 and 16.11.
use Rattle.std.specs.Prelude.{ℕ, zero, suc, ◌+◌, ◌-◌, ◌*◌, max, ◌≡◌, ◌&&◌, List, [], ◌∷◌, ◌++◌, length, take, drop, replicate, eqb, leb}
use Rattle.disc.specs.Choice.{pick}
use Rattle.disc.specs.Counts.{reported}
use Rattle.disc.specs.Refusals.{number}
use Rattle.disc.specs.declared.refusals.Refusal.TheVariants.{BadShelf}

-- ---- as true numbers (RULES 16.1 and 16.2)

-- `by_files` and `by_images` say how many have each answer number, from 0 to 16; `chain` is the longest chain
pub record Figures : Type 0 where
  pub files : ℕ
  pub directories : ℕ
  pub bytes : ℕ
  pub extents : ℕ
  pub sectors : ℕ
  pub by_files : List ℕ
  pub by_images : List ℕ
  pub chain : ℕ

abbrev pub answer_numbers : ℕ
answer_numbers = 17

abbrev pub none : List ℕ
none = replicate answer_numbers 0

-- one, under its answer number
abbrev pub one_at : ℕ → List ℕ
one_at n = replicate n 0 ++ 1 ∷ replicate (answer_numbers - 1 - n) 0

abbrev pub nothing : Figures
nothing = record { files = 0; directories = 0; bytes = 0; extents = 0; sectors = 0; by_files = none; by_images = none; chain = 0 }

-- the figures of one directory; of one file, by its answer number and what it adds; of one image, by its answer number
abbrev pub one_directory : Figures
one_directory = record { files = 0; directories = 1; bytes = 0; extents = 0; sectors = 0; by_files = none; by_images = none; chain = 0 }

abbrev pub one_file : ℕ → ℕ → ℕ → ℕ → ℕ → Figures
one_file answer bytes extents sectors chain =
    record { files = 1; directories = 0; bytes = bytes; extents = extents; sectors = sectors; by_files = one_at answer; by_images = none; chain = chain }

abbrev pub one_image : ℕ → Figures
one_image answer = record { files = 0; directories = 0; bytes = 0; extents = 0; sectors = 0; by_files = none; by_images = one_at answer; chain = 0 }

-- added up: of two chains the longer counts
unfoldable pub each_added : List ℕ → List ℕ → List ℕ
each_added [] t = []
each_added (a ∷ s) [] = a ∷ s
each_added (a ∷ s) (b ∷ t) = (a + b) ∷ each_added s t

abbrev pub added : Figures → Figures → Figures
added a b = record {
  files = a.files + b.files;
  directories = a.directories + b.directories;
  bytes = a.bytes + b.bytes;
  extents = a.extents + b.extents;
  sectors = a.sectors + b.sectors;
  by_files = each_added a.by_files b.by_files;
  by_images = each_added a.by_images b.by_images;
  chain = max a.chain b.chain;
}

-- figures added in turn to what there was
unfoldable pub added_to : Figures → List Figures → Figures
added_to a [] = a
added_to a (f ∷ fs) = added_to (added a f) fs

abbrev pub all_added : List Figures → Figures
all_added fs = added_to nothing fs

-- numbers added up
unfoldable pub sum : List ℕ → ℕ
sum [] = 0
sum (n ∷ ns) = n + sum ns

-- ---- in a place of a row of 64-bit numbers (RULES 16.3): two for each figure, the number held at 2^64 - 1, and 1 if it is over that, else 0

abbrev pub most : ℕ
most = 0xffff_ffff_ffff_ffff

abbrev pub over : ℕ → ℕ
over n = pick (leb n most) 0 1

unfoldable pub pairs : List ℕ → List ℕ
pairs [] = []
pairs (n ∷ ns) = reported n ∷ over n ∷ pairs ns

abbrev pub numbers : Figures → List ℕ
numbers f = f.files ∷ f.directories ∷ f.bytes ∷ f.extents ∷ f.sectors ∷ (f.by_files ++ f.by_images ++ f.chain ∷ [])

unfoldable pub row : Figures → List ℕ
row f = pairs (numbers f)

-- how many numbers a place has: two for each of 40 figures, of which all but the last are sums
abbrev pub sums : ℕ
sums = 39

abbrev pub place : ℕ
place = 80

-- a count for each answer number
pub record Wide (f : Figures) : Type 0 where
  pub files-wide : length f.by_files ≡ answer_numbers
  pub images-wide : length f.by_images ≡ answer_numbers

-- a place that has these figures in it
pub record Holds (f : Figures) (s : List ℕ) : Type 0 where
  pub wide : Wide f
  pub is : s ≡ row f

-- one place after another
unfoldable pub rows : List Figures → List ℕ
rows [] = []
rows (f ∷ fs) = row f ++ rows fs

-- figures were added to those of a place
abbrev pub Adds : Figures → List ℕ → List ℕ → Type 0
Adds g before after = (f : Figures) → Holds f before → Holds (added f g) after

-- ---- places added up within the row (RULES 16.11), whatever numbers they have

-- two figures added, h with its mark o and n with its mark p: over if one of them is, or the sum is
abbrev pub summed : ℕ → ℕ → ℕ → ℕ → List ℕ
summed h o n p = pick (eqb o 0 && eqb p 0 && leb (h + n) most) ((h + n) ∷ 0 ∷ []) (most ∷ 1 ∷ [])

-- the greater of two figures: over if one of them is
abbrev pub greater : ℕ → ℕ → ℕ → ℕ → List ℕ
greater h o n p = pick (eqb o 0 && eqb p 0) (max h n ∷ 0 ∷ []) (most ∷ 1 ∷ [])

-- two places added: k sums, then the greater of the next figures
unfoldable pub places_added : ℕ → List ℕ → List ℕ → List ℕ
places_added k [] t = []
places_added k (h ∷ []) t = h ∷ []
places_added k (h ∷ o ∷ s) [] = h ∷ o ∷ s
places_added k (h ∷ o ∷ s) (n ∷ []) = h ∷ o ∷ s
places_added zero (h ∷ o ∷ s) (n ∷ p ∷ t) = greater h o n p ++ s
places_added (suc k) (h ∷ o ∷ s) (n ∷ p ∷ t) = summed h o n p ++ places_added k s t

-- n places of a row, added in turn to a total
unfoldable pub total_of : ℕ → List ℕ → List ℕ → List ℕ
total_of zero total places = total
total_of (suc n) total places = total_of n (places_added sums total (take place places)) (drop place places)

-- the total of the first n places goes into the one after them, if the row has it; otherwise nothing is changed
abbrev pub totaled : ℕ → List ℕ → List ℕ
totaled n places =
    pick (leb (place * (n + 1)) (length places))
    (take (place * n) places ++ total_of n (replicate place 0) places ++ drop (place * (n + 1)) places)
    places

abbrev pub total_answer : ℕ → List ℕ → ℕ
total_answer n places = pick (leb (place * (n + 1)) (length places)) 0 (number BadShelf)

-- each of the figures has a count for each answer number
pub data AllWide : List Figures → Type 0 where
  none-wide : AllWide []
  more-wide : {f : Figures} {fs : List Figures} → Wide f → AllWide fs → AllWide (f ∷ fs)
