-- A directory listed from its ICB: RULES 1.9, 8.1 and 8.10.
use Rattle.std.specs.Prelude.{ℕ, List, length, leb}
use Rattle.disc.specs.declared.places.Mount.{Mount}
use Rattle.disc.specs.Choice.{pick}
use Rattle.disc.specs.Places.{is_checked}
use Rattle.disc.specs.Ask.{Ask, Outcome, then, ended}
use Rattle.disc.specs.Ask.Outcome.{answered, refused}
use Rattle.disc.specs.declared.refusals.Refusal.TheVariants.{NoWork}
use Rattle.records.specs.declared.allocations.LongAd.{LongAd}
use Rattle.files.specs.Files.{file_bytes}
use Rattle.listings.specs.Listings.{listing}

-- a directory whose bytes exceed the work space is refused, after every refusal of reading it
unfoldable pub within : ℕ → List ℕ → Outcome (List ℕ)
within work b = pick (leb (length b) work) (answered b) (refused NoWork)

-- a directory is a file (ECMA-167 4/8.6), read into a work space of `work` bytes
unfoldable pub directory_bytes : Mount → ℕ → LongAd → Ask (List ℕ)
directory_bytes v work icb = then (file_bytes v icb) (λ b. ended (within work b))

-- its listing; where bodies are checked, those of all its entries are
unfoldable pub listing_at : Mount → ℕ → LongAd → Ask (List ℕ)
listing_at v work icb = then (directory_bytes v work icb) (λ b. ended (listing (is_checked v) b))
