use borrow.Author.Rules.{rules}
use Rattle.drives.proofs.HeadLaws.{head_read, head-refused}
use Rattle.drives.proofs.bodies.body_in.Goals as goal

ruleset heads = (head_read, head-refused, rules)

pub enum_known-r : goal.enum_known-r
enum_known-r c = search heads

pub body_of-requires : goal.body_of-requires
body_of-requires c = search heads

pub enum_told-1 : goal.enum_told-1
enum_told-1 c = search heads

pub returns-in-Ok : goal.returns-in-Ok
returns-in-Ok c = search heads

pub returns-in-Err : goal.returns-in-Err
returns-in-Err c = search heads
