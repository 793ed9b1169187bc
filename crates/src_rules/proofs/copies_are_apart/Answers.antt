use Rattle.src_rules.proofs.Depths.{short}
use Rattle.src_rules.proofs.Distinct.{distinct, called_new, handler_new}
use Rattle.src_rules.proofs.Sizes.{small}
use Rattle.src_rules.proofs.copies_are_apart.Goals as goal

pub returns-clause-distinct : goal.returns-clause-distinct
returns-clause-distinct c = distinct

pub returns-clause-called : goal.returns-clause-called
returns-clause-called c = called_new

pub returns-clause-handler : goal.returns-clause-handler
returns-clause-handler c = handler_new

pub returns-clause-small : goal.returns-clause-small
returns-clause-small c = small

pub returns-clause-short : goal.returns-clause-short
returns-clause-short c = short
