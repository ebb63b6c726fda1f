-- What the parts of a survey leave: for the contracts of private functions.
use Rattle.std.specs.Prelude.{ℕ, ◌*◌, ◌≡◌, ⊤, List, ◌++◌, map, length, drop, Option, Result, Ok, Err}
use Rattle.disc.specs.Choice.{pick}
use Rattle.disc.specs.declared.refusals.Refusal.{Refusal}
use Rattle.disc.specs.declared.refusals.Refusal.TheVariants.{BadShelf}
use Rattle.figures.specs.Figures.{rows, place}
use Rattle.surveys.specs.Surveys.{of_image, images, fits, surveys}
use Rattle.volumes.specs.declared.openings.How.{How}

-- the places of the images, over the front of the row
abbrev pub EachIn : Option How → ℕ → ℕ → List ℕ → List ℕ → List ℕ → List ℕ → Type 0
EachIn how most work shelf lengths before after = after ≡ rows (map (of_image how most work) (images lengths shelf)) ++ drop (place * length lengths) before

-- whether there are the bytes and the places for it
abbrev pub room_for : List ℕ → List ℕ → List ℕ → Result ⊤ Refusal
room_for shelf lengths figures = pick (fits shelf lengths figures) (Ok tt) (Err BadShelf)

-- the whole of it, except the work space
abbrev pub Surveys : Option How → ℕ → List ℕ → List ℕ → List ℕ → List ℕ → List ℕ → Result ⊤ Refusal → Type 0
Surveys how most work shelf lengths before after answer = (answer ≡ room_for shelf lengths before) × (after ≡ (surveys how most shelf lengths before work).figures)
