-- The answer number and the values of each enum answer: 0 and what was read, or the refusal's number and zeros. RULES 12.3.
use Rattle.std.specs.Prelude.{Result}
use Rattle.disc.specs.Replies.{Answer, answer_from}
use Rattle.records.specs.declared.allocations.ExtentAd.{ExtentAd}
use Rattle.records.specs.declared.allocations.ShortAd.{ShortAd}
use Rattle.records.specs.declared.allocations.LbAddr.{LbAddr}
use Rattle.records.specs.declared.allocations.LongAd.{LongAd}
use Rattle.records.specs.declared.allocations.ExtAd.{ExtAd}
use Rattle.records.specs.Allocations.{no_long, no_ext}
use Rattle.disc.specs.declared.refusals.Refusal.{Refusal}

abbrev pub extent_answer : Result ExtentAd Refusal → Answer ExtentAd
extent_answer = answer_from (record { length = 0; location = 0 })

abbrev pub short_answer : Result ShortAd Refusal → Answer ShortAd
short_answer = answer_from (record { length = 0; extent_type = 0; block_location = 0 })

abbrev pub address_answer : Result LbAddr Refusal → Answer LbAddr
address_answer = answer_from (record { block = 0; partition_ref = 0 })

abbrev pub long_answer : Result LongAd Refusal → Answer LongAd
long_answer = answer_from no_long

abbrev pub ext_answer : Result ExtAd Refusal → Answer ExtAd
ext_answer = answer_from no_ext
