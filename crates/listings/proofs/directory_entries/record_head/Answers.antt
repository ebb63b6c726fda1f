-- `listings::directory_entries::record_head` meets its contract: the mark, the directory byte, the ICB and the length in turn. Assumes nothing.
use mathlib.Core.List.{◌∷◌}
use Rattle.records.specs.Bytes.{le16}
use Rattle.listings.proofs.EntryLaws.{head-is}
use Rattle.listings.proofs.directory_entries.record_head.Goals as goal

pub returns : goal.returns
returns c = head-is c.args.directory c.args.s.now c.args.n (λ i. 0x44 ∷ 0x45 ∷ c.args.directory
    ∷ c.byte_at.ensures i ∷ c.byte_at-2.ensures i ∷ c.byte_at-3.ensures i ∷ c.byte_at-4.ensures i
    ∷ c.byte_at-5.ensures i ∷ c.byte_at-6.ensures i ∷ c.byte_at-7.ensures i ∷ c.byte_at-8.ensures i
    ∷ c.byte_at-9.ensures i ∷ c.byte_at-10.ensures i ∷ c.byte_at-11.ensures i ∷ c.byte_at-12.ensures i
    ∷ c.byte_at-13.ensures i ∷ c.byte_at-14.ensures i ∷ c.byte_at-15.ensures i ∷ c.byte_at-16.ensures i
    ∷ le16 c.args.n)
