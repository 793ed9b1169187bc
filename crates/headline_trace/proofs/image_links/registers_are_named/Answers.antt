use Rattle.headline_trace.proofs.Registered.{made_name_registers, code_names_registers}
use Rattle.headline_trace.proofs.image_links.registers_are_named.Goals as goal

pub returns-clause-made : goal.returns-clause-made
returns-clause-made c = made_name_registers

pub returns-clause-code : goal.returns-clause-code
returns-clause-code c = code_names_registers
