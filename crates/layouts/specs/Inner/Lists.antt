-- What the passes over a list of extents report: for the contracts of private functions.
use Rattle.std.specs.Prelude.{ℕ, ◌≡◌, List, [], ◌∷◌, length, leb}
use Rattle.disc.specs.Choice.{pick}
use Rattle.disc.specs.Ask.{Outcome}
use Rattle.disc.specs.Ask.Outcome.{answered, refused}
use Rattle.disc.specs.Ran.{Ran}
use Rattle.disc.specs.Replies.{reply_of}
use Rattle.disc.specs.declared.places.Mount.{Mount}
use Rattle.disc.specs.declared.refusals.Refusal.TheVariants.{NoSlot}
use Rattle.disc.specs.declared.replies.Reply.{Reply}
use Rattle.areas.specs.declared.AllocExtent.{AllocExtent}
use Rattle.chains.specs.Inner.Walks.{left}
use Rattle.chains.specs.declared.cursors.ChainCursor.{ChainCursor}
use Rattle.layouts.specs.Calls.{extent_of}
use Rattle.layouts.specs.declared.lists.Listing.{Listing}

-- the extents (or other elements) that are stored: none where the call is refused
abbrev pub stored_of : {E : Type 0} → ℕ → Outcome (List E) → List E
stored_of room (refused r) = []
stored_of room (answered es) = pick (leb (length es) room) es []

-- a listing has the first of the extents that are left, and a cursor at those after it
pub record Front (image : List ℕ) (e : AllocExtent) (es : List AllocExtent) (l : Listing) : Type 0 where
  pub front : l.front ≡ extent_of e
  pub behind : left image l.mount l.kind l.behind ≡ es

-- a listing with es left
pub record ListStands (image : List ℕ) (es : List AllocExtent) (reply : Reply) (l : Listing) : Type 0 where
  pub same : l.reply ≡ reply
  pub next : (e : AllocExtent) (rest : List AllocExtent) → es ≡ e ∷ rest → Front image e rest l

-- the listing of a call whose run is r, before any extent is stored
abbrev pub Planned : List ℕ → Ran (List AllocExtent) → ℕ → Listing → Type 0
Planned image r room l = ListStands image (stored_of room r.outcome) (reply_of NoSlot room r) l

-- the run of a whole chain, after n sectors
abbrev pub listed_run : List ℕ → Mount → ℕ → ChainCursor → ℕ → Ran (List AllocExtent)
listed_run image m kind c n = record { outcome = answered (left image m kind c); count = n }
