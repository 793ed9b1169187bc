use Rattle.headline_trace.proofs.Addressed.{lean_keeps_operands, operands_have_addresses, selects_keep_operands, made_have_operands}
use Rattle.headline_trace.proofs.Nearby.{whole_keep_near}
use Rattle.headline_trace.proofs.image_links.operands_have_addresses.Goals as goal

pub returns-clause-named : goal.returns-clause-named
returns-clause-named c = operands_have_addresses

pub returns-clause-kept : goal.returns-clause-kept
returns-clause-kept c = selects_keep_operands

pub returns-clause-lean : goal.returns-clause-lean
returns-clause-lean c = lean_keeps_operands

pub returns-clause-made : goal.returns-clause-made
returns-clause-made c = made_have_operands

pub returns-clause-near : goal.returns-clause-near
returns-clause-near c = whole_keep_near
