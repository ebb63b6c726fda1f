-- The ICB tag, 20 bytes (ECMA-167 4/14.6). RULES 6.5.
use Rattle.std.specs.Prelude.{ℕ, ◌+◌, List, length, leb, Result, Ok, Err}
use Rattle.disc.specs.Choice.{pick}
use Rattle.disc.specs.declared.refusals.Refusal.TheVariants.{Malformed}
use Rattle.records.specs.Bytes.{byte, u16at, u32at}
use Rattle.entries.specs.declared.icb_tags.IcbTag.{IcbTag}
use Rattle.disc.specs.declared.refusals.Refusal.{Refusal}

-- the ICB tag at i, every field at its offset (4/14.6.1 to 14.6.8); the byte at 10 is reserved
unfoldable pub icb_tag_of : List ℕ → ℕ → IcbTag
icb_tag_of s i = record {
  prior_recorded_entries = u32at s i;
  strategy_type = u16at s (i + 4);
  strategy_parameter = u16at s (i + 6);
  max_entries = u16at s (i + 8);
  file_type = byte s (i + 11);
  parent_icb = record { block = u32at s (i + 12); partition_ref = u16at s (i + 16) };
  flags = u16at s (i + 18);
}

-- reading an ICB tag at the front of s
unfoldable pub read_icb_tag : List ℕ → Result IcbTag Refusal
read_icb_tag s = pick (leb 20 (length s)) (Ok (icb_tag_of s 0)) (Err Malformed)
