-- What the calls on a file answer besides its bytes: a part of the image, and a list of extents. RULES 7.12 to 7.17.
use Rattle.std.specs.Prelude.{ℕ, ◌≡◌, List, [], ◌∷◌, length, Option, Some, None}
use Rattle.disc.specs.Counts.{reported}
use Rattle.disc.specs.Ask.{Outcome}
use Rattle.disc.specs.Ask.Outcome.{answered, refused}
use Rattle.disc.specs.Ran.{Ran, each}
use Rattle.disc.specs.Replies.{answer_of, Replied}
use Rattle.disc.specs.declared.refusals.Refusal.TheVariants.{NoSlot}
use Rattle.disc.specs.declared.replies.Reply.{Reply}
use Rattle.areas.specs.declared.AllocExtent.{AllocExtent}
use Rattle.files.specs.Files.{Part, no_part}
use Rattle.layouts.specs.declared.lists.Extent.{Extent}

-- ---- a part of the image

-- the part that was answered; none where the call is refused
abbrev pub part_in : Outcome Part → Part
part_in (answered p) = p
part_in (refused r) = no_part

-- its length, with the answer number and the count
abbrev pub part_reply : Ran Part → Reply
part_reply r = record { answer = answer_of r.outcome; count = reported r.count; length = length (part_in r.outcome).bytes }

-- the part's bytes, with the answer number and the count in two lent numbers
pub record Gave (bytes : List ℕ) (a n : ℕ) (part : List ℕ) (answer count : ℕ) : Type 0 where
  pub gives : part ≡ bytes
  pub says : answer ≡ a
  pub counts : count ≡ n

abbrev pub PartReplied : Ran Part → List ℕ → ℕ → ℕ → Type 0
PartReplied r part answer count = Gave (part_in r.outcome).bytes (answer_of r.outcome) (reported r.count) part answer count

-- ---- a list of extents in a lent row, a slot for each

-- the partition that an extent names, 65,536 where it names none
abbrev pub reference_of : Option ℕ → ℕ
reference_of None = 65536
reference_of (Some p) = p

-- effective length, type, block and partition reference of an extent: as a record, and as four numbers
abbrev pub extent_of : AllocExtent → Extent
extent_of e = record { length = e.length; extent_type = e.extent_type; block = e.block.0; partition = reference_of e.partition_ref }

abbrev pub fields_of : Extent → List ℕ
fields_of e = e.length ∷ e.extent_type ∷ e.block ∷ e.partition ∷ []

abbrev pub words_of : AllocExtent → List ℕ
words_of e = fields_of (extent_of e)

-- the reply, and the row as the call leaves it, f being what a slot holds of an extent: more extents than slots are refused after every other refusal
abbrev pub Listed : {A : Type 0} → (AllocExtent → A) → Ran (List AllocExtent) → List A → List A → Reply → Type 0
Listed f r before after reply = Replied NoSlot (each f r) before after reply
