-- The answer number and the values of what was read: 0 and the identifier, or the refusal's number and zeros. RULES 12.3.
use Rattle.disc.specs.Ask.{Outcome}
use Rattle.disc.specs.Replies.{Answer, answer_in}
use Rattle.records.specs.Allocations.{no_long}
use Rattle.tags.specs.Answers.{no_tag}
use Rattle.identifiers.specs.declared.FileIdentifierDescriptor.{FileIdentifierDescriptor}

abbrev pub no_identifier : FileIdentifierDescriptor
no_identifier = record {
  tag = no_tag;
  file_version_number = 0;
  file_characteristics = 0;
  icb = no_long;
  name_at = 0;
  name_length = 0;
  name_size = 0;
  total_size = 0;
}

abbrev pub identifier_answer : Outcome FileIdentifierDescriptor → Answer FileIdentifierDescriptor
identifier_answer = answer_in no_identifier
