use Rattle.std.proofs.Common.{Ok, Err}
use Rattle.vc_handler.proofs.Replying.{done_is, missing_is, exception_is, other_is}
use Rattle.vc_handler.proofs.laws.accepts_by_table.Goals as goal

pub returns-clause-done : goal.returns-clause-done
returns-clause-done c = done_is

pub returns-clause-missing : goal.returns-clause-missing
returns-clause-missing c = missing_is

pub returns-clause-raised : goal.returns-clause-raised
returns-clause-raised c = λ event words asked one is. exception_is event words (Ok asked) one is

pub returns-clause-refused : goal.returns-clause-refused
returns-clause-refused c = λ event words bad one is. exception_is event words (Err bad) one is

pub returns-clause-other : goal.returns-clause-other
returns-clause-other c = other_is
