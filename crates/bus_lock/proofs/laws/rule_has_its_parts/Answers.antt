use Rattle.bus_lock.proofs.Parts.{one_begins, reaches_between, shares_add_up, each_number_once, numbers_are_known, holds_while_out, legal_while_home}
use Rattle.bus_lock.proofs.laws.rule_has_its_parts.Goals as goal

pub returns-clause-beginnings : goal.returns-clause-beginnings
returns-clause-beginnings g c vcpus input s k = one_begins g.H.Host.told vcpus input s k

pub returns-clause-reached : goal.returns-clause-reached
returns-clause-reached g c vcpus input s k = reaches_between g.H.Host.told vcpus input s k

pub returns-clause-shares : goal.returns-clause-shares
returns-clause-shares g c vcpus input s k = shares_add_up g.H.Host.told vcpus input s k

pub returns-clause-numbers : goal.returns-clause-numbers
returns-clause-numbers g c vcpus input s k = each_number_once g.H.Host.told vcpus input s k

pub returns-clause-own : goal.returns-clause-own
returns-clause-own g c vcpus input s k = numbers_are_known g.H.Host.told vcpus input s k

pub returns-clause-out : goal.returns-clause-out
returns-clause-out g c vcpus input s k = holds_while_out g.H.Host.told vcpus input s k

pub returns-clause-home : goal.returns-clause-home
returns-clause-home g c vcpus input s k = legal_while_home g.H.Host.told vcpus input s k
