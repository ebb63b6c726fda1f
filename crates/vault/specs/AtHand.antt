-- A directory and a path at hand: components in turn, and a step of a lookup.
use Rattle.std.specs.Prelude.{◌||◌, Bool, ◌&&◌, List, [], ◌∷◌, ◌≡◌, ℕ, ◌+◌, ◌<◌, eqb, take, drop}
use Rattle.disc.specs.Ask.{Disc}
use Rattle.disc.specs.Ask.Outcome.{answered, refused}
use Rattle.disc.specs.Choice.{pick}
use Rattle.disc.specs.Places.{is_checked}
use Rattle.disc.specs.Ran.{ran, Ran, told}
use Rattle.disc.specs.declared.replies.Reply.{Reply}
use Rattle.disc.specs.Refusals.{refusal_of}
use Rattle.volumes.specs.declared.openings.VolumeRecord.{VolumeRecord}
use Rattle.listings.specs.Paths.{Component}
use Rattle.listings.specs.declared.finds.Named.{Named}
use Rattle.listings.specs.declared.matchings.Matching.{Matching}
use Rattle.directories.specs.Lookups.{Sought, seeking}
use Rattle.directories.specs.Lookups.Sought.{lost}
use Rattle.vault.specs.Calls.{next_component}
use Rattle.vault.specs.Public.{third}

-- a reply with another count
abbrev pub counted : ℕ → Reply → Reply
counted n r = record { answer = r.answer; count = n; length = r.length }

-- the numbers that `find_in` can answer
abbrev pub in_find : VolumeRecord → Matching → ℕ → Bool
in_find v matching n = eqb n 0 || eqb n 2 || (eqb n 9 && third matching) || (eqb n 10 && is_checked v.mount)

-- the rest of the walk: it is refused, or the component isn't there, or it goes on from the entry that was found
abbrev pub on_from : Disc → VolumeRecord → ℕ → Matching → Component → List Component → Named → Ran Sought
on_from d v work matching c cs r =
    pick (eqb r.answer 0)
    (pick r.found (ran d (seeking matching v.mount work cs r.icb r.directory)) (told (answered (lost c))))
    (told (refused (refusal_of r.answer)))

-- the component that `next_component` names
abbrev pub component_of : List ℕ → ℕ → Component
component_of path at = record { bytes = take (next_component path at).length (drop (next_component path at).at path); at = (next_component path at).at }

-- where that component ends
abbrev pub behind_of : List ℕ → ℕ → ℕ
behind_of path at = (next_component path at).at + (next_component path at).length

-- the components that a caller comes to from a place on
pub data Walked (path : List ℕ) : ℕ → List Component → Type 0 where
  ends : {at : ℕ} → (next_component path at).length ≡ 0 → Walked path at []
  goes : {at : ℕ} {cs : List Component} → 0 < (next_component path at).length → Walked path (behind_of path at) cs → Walked path at (component_of path at ∷ cs)
