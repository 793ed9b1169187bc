use Rattle.c_tables.specs.Tables.{types_in}
use Rattle.c_outline.proofs.Parting.{chars_found, no_chars}
use Rattle.c_check.proofs.parts.char_array.Goals as goal

pub returns-then-is_char : goal.returns-then-is_char
returns-then-is_char c = λ known. chars_found (types_in c.args.types.now known) c.args.ty c.in-Array.element c.in-Array.length c.in-Array.size c.target.result c.is_char.result c.in-Array.is (c.target.ensures known) c.is_char.ensures c.if-is_char.true

pub returns-else-is_char : goal.returns-else-is_char
returns-else-is_char c = λ known. no_chars (types_in c.args.types.now known) c.args.ty c.in-Array.element c.in-Array.length c.in-Array.size c.target.result c.is_char.result c.in-Array.is (c.target.ensures known) c.is_char.ensures c.if-is_char.false
