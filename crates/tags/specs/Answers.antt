-- The answer number and the values of each enum answer: 0 and what was read, or the refusal's number and zeros. RULES 12.3.
use Rattle.std.specs.Prelude.{Result}
use Rattle.disc.specs.Replies.{Answer, answer_from}
use Rattle.tags.specs.declared.DescriptorTag.{DescriptorTag}
use Rattle.tags.specs.declared.AllocationExtentDescriptor.{AllocationExtentDescriptor}
use Rattle.disc.specs.declared.refusals.Refusal.{Refusal}

abbrev pub no_tag : DescriptorTag
no_tag = record { id = 0; descriptor_version = 0; serial_number = 0; crc = 0; crc_length = 0; location = 0 }

abbrev pub tag_answer : Result DescriptorTag Refusal → Answer DescriptorTag
tag_answer = answer_from no_tag

abbrev pub aed_answer : Result AllocationExtentDescriptor Refusal → Answer AllocationExtentDescriptor
aed_answer = answer_from (record { tag = no_tag; previous_allocation_extent_location = 0; length_of_allocation_descriptors = 0 })
