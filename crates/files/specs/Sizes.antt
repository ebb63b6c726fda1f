-- A file measured without a copy: RULES 7.3 to 7.8 for the reply, 6.15 to 6.18 for the chain.
use Rattle.std.specs.Prelude.{ℕ, List, length}
use Rattle.disc.specs.Ask.{Disc, Outcome}
use Rattle.disc.specs.Ask.Outcome.{answered, refused}
use Rattle.disc.specs.Ran.{ran}
use Rattle.disc.specs.Replies.{measured_of}
use Rattle.disc.specs.declared.places.Mount.{Mount}
use Rattle.disc.specs.declared.replies.Reply.{Reply}
use Rattle.records.specs.declared.allocations.LongAd.{LongAd}
use Rattle.files.specs.Files.{file_bytes, file_extents, file_hops}
use Rattle.files.specs.declared.sizes.FileSizes.{FileSizes}

-- how many were answered; 0 where the call is refused
abbrev pub length_in : {A : Type 0} → Outcome (List A) → ℕ
length_in (answered l) = length l
length_in (refused r) = 0

abbrev pub number_in : Outcome ℕ → ℕ
number_in (answered n) = n
number_in (refused r) = 0

-- the reply with the number of extents and of continuations, both 0 where the read is refused
abbrev pub sizes_by : Reply → Outcome (List ℕ) → ℕ → ℕ → FileSizes
sizes_by reply (answered b) extents hops = record { reply = reply; extents = extents; hops = hops }
sizes_by reply (refused why) extents hops = record { reply = reply; extents = 0; hops = 0 }

unfoldable pub sizes_of : Disc → Mount → LongAd → FileSizes
sizes_of d m icb =
    sizes_by (measured_of (ran d (file_bytes m icb))) (ran d (file_bytes m icb)).outcome
    (length_in (ran d (file_extents m icb)).outcome) (number_in (ran d (file_hops m icb)).outcome)
