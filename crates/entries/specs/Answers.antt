-- The answer number and the values of each enum answer: 0 and what was read, or the refusal's number and zeros. RULES 12.3.
use Rattle.std.specs.Prelude.{None, Result}
use Rattle.disc.specs.Replies.{Answer, answer_from}
use Rattle.tags.specs.Answers.{no_tag}
use Rattle.entries.specs.declared.icb_tags.IcbTag.{IcbTag}
use Rattle.entries.specs.declared.file_entries.FileEntry.{FileEntry}
use Rattle.disc.specs.declared.refusals.Refusal.{Refusal}

abbrev pub no_icb_tag : IcbTag
no_icb_tag = record {
  prior_recorded_entries = 0;
  strategy_type = 0;
  strategy_parameter = 0;
  max_entries = 0;
  file_type = 0;
  parent_icb = record { block = 0; partition_ref = 0 };
  flags = 0;
}

abbrev pub icb_tag_answer : Result IcbTag Refusal → Answer IcbTag
icb_tag_answer = answer_from no_icb_tag

abbrev pub no_entry : FileEntry
no_entry = record {
  tag = no_tag;
  icb_tag = no_icb_tag;
  uid = 0;
  gid = 0;
  permissions = 0;
  file_link_count = 0;
  record_format = 0;
  record_display_attributes = 0;
  record_length = 0;
  information_length = 0;
  logical_blocks_recorded = 0;
  object_size = None;
  length_of_extended_attributes = 0;
  length_of_allocation_descriptors = 0;
  kind = 0;
  area_at = 0;
  area_length = 0;
}

abbrev pub entry_answer : Result FileEntry Refusal → Answer FileEntry
entry_answer = answer_from no_entry
