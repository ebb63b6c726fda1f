-- A sealed descriptor read by the reader's own definitions: its tag, its body and its place. Assumes nothing.
use Rattle.std.specs.Prelude.{Ok, Err}
use mathlib.Core.Path.{◌≡◌, refl}
use mathlib.Core.Bool.{Bool, true, false}
use mathlib.Core.List.{List, ◌++◌}
use mathlib.Core.Logic.{inl}
use Prim.Native.Nat.{ℕ, ◌+◌, ◌-◌, ◌≤◌, ◌<◌, ◌^◌}
use native.Mathlib.Omega.{arith}
use lib.ListN.{length, length-append, length-replicate}
use lib.Seq.{take-append_seam}
use lib.Dec.{lit<}
use borrow.Author.Tests.{eq-eqb, le-leb}
use Rattle.disc.specs.Choice.{pick}
use Rattle.disc.specs.declared.refusals.Refusal.TheVariants.{BadCrc}
use Rattle.crcs.specs.Crcs.{crc_of}
use Rattle.crcs.proofs.Promises.{crc-fits}
use Rattle.tags.specs.Tags.{listed, read_tag, body_right, with_body, with_id, read_head, in_place}
use Rattle.tags.specs.Values.{TagValue}
use Rattle.tags.proofs.RoundTrips.{tag-again}
use Rattle.tags.proofs.PlaceChecks.{sector-enough, block-enough}
use Rattle.writers.specs.Layout.{zeros, sector, tag_for, sealed}
use Rattle.writers.proofs.PourLaws.{sealed-long}

-- the numbers of a tag, and a body that a sector holds
pub record Seal (id location : ℕ) (body : List ℕ) : Type 0 where
  pub known : listed id ≡ true
  pub id-fits : id < 2 ^ 16
  pub location-fits : location < 2 ^ 32
  pub short : length body ≤ 2032

module _ {id location : ℕ} (body : List ℕ) (h : Seal id location body) where
  values : TagValue (tag_for id location body)
  values = record {
    id = h.id-fits;
    version = lit< tt;
    serial = lit< tt;
    crc = crc-fits body;
    crc-length = omega (arith, h.short);
    location = h.location-fits;
  }

  module _ (rest : List ℕ) where
    pub tag_read : read_tag (sealed id location body ++ rest) ≡ Ok (tag_for id location body)
    unfolding sealed
    tag_read = tag-again (tag_for id location body) (body ++ rest) values h.known

    long : length (sealed id location body ++ rest) ≡ 16 + length body + length rest
    long = rw (length-append, sealed-long id location body)

    -- the CRC is that of the bytes behind the tag
    pub body-right : body_right (sealed id location body ++ rest) (tag_for id location body) ≡ true
    unfolding body_right sealed
    body-right = rw (le-leb (16 + length body) (length (sealed id location body ++ rest)) (omega (arith, long)), take-append_seam body rest) (eq-eqb (crc_of body) (crc_of body) refl)

    -- so it goes through the gate, with bodies checked or not
    pub head_read : (check : Bool) (size : ℕ) → size ≤ 16 + length body → read_head check (sealed id location body ++ rest) id size ≡ Ok (tag_for id location body)
    unfolding read_head with_body with_id
    head_read check size k = rw (le-leb size (length (sealed id location body ++ rest)) (omega (arith, long)), tag_read) (by check)
      where
        by : (c : Bool) → with_id id (pick c (pick (body_right (sealed id location body ++ rest) (tag_for id location body)) (Ok (tag_for id location body)) (Err BadCrc)) (Ok (tag_for id location body))) ≡ Ok (tag_for id location body)
        by true = rw (body-right, eq-eqb id id refl)
        by false = rw (eq-eqb id id refl)

  -- its sector
  pub sector-long : length (sector (sealed id location body)) ≡ 2048
  unfolding sector
  sector-long = rw (length-append, length-replicate) (omega (arith, sealed-long id location body, h.short))

  pub sector-head : (check : Bool) (size : ℕ) → size ≤ 16 + length body → read_head check (sector (sealed id location body)) id size ≡ Ok (tag_for id location body)
  unfolding sector
  sector-head check size k = head_read (zeros (2048 - length (sealed id location body))) check size k

  -- it is in place: a descriptor of the volume in its sector, one of the partition in its block
  pub volume-placed : 1 ≤ id → id ≤ 9 → (block : ℕ) → in_place (tag_for id location body) location block ≡ true
  volume-placed k l block = sector-enough (tag_for id location body) location block (inl (omega (arith, l))) refl

  pub partition-placed : 256 ≤ id → id ≤ 266 → (at : ℕ) → in_place (tag_for id location body) at location ≡ true
  partition-placed k l at = block-enough (tag_for id location body) at location k l refl
