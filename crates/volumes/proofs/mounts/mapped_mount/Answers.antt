-- `volumes::mounts::mapped_mount` meets its contract: the table, the starts and the file set's reference say which case of the definition holds. Assumes nothing.
use borrow.Author.Rules.{rules}
use Rattle.std.proofs.Common.{◌∙◌, sym, ap, Ok}
use Rattle.disc.proofs.PassLaws.{passed}
use Rattle.volumes.proofs.MapLaws.{table-few, reference-few, table-not, starts-not, file-set-past, mapped-is}
use Rattle.volumes.proofs.mounts.mapped_mount.Goals as goal

ruleset maps = (table-few, reference-few, rules)

pub returns-in_err-table_answer : goal.returns-in_err-table_answer
returns-in_err-table_answer c = passed c.from_residual.ensures.1 (table-not _ _ _ _ _ c.table_answer.ensures c.in_err-table_answer.was)

pub map_starts-requires : goal.map_starts-requires
map_starts-requires c = search maps

pub returns-in_err-starts : goal.returns-in_err-starts
returns-in_err-starts c = passed c.from_residual-in_err-starts.ensures.1 (starts-not _ _ _ _ _ c.table_answer.ensures c.in_ok-table_answer.was c.map_starts.ensures (sym c.ok_or.ensures.value ∙ c.in_err-starts.was))

pub returns-then-kept : goal.returns-then-kept
returns-then-kept c =
    file-set-past _ _ _ _ _ c.table_answer.ensures c.in_ok-table_answer.was c.map_starts.ensures (sym c.ok_or.ensures.value ∙ c.in_ok-starts.was) c.if-kept.true

pub mount_from_starts-requires : goal.mount_from_starts-requires
mount_from_starts-requires c = search maps

pub returns : goal.returns
returns c =
    ap Ok c.mount_from_starts.ensures
    ∙ mapped-is _ _ _ _ _ c.table_answer.ensures c.in_ok-table_answer.was c.map_starts.ensures (sym c.ok_or.ensures.value ∙ c.in_ok-starts.was) c.if-kept.false
