-- The refusals of the parts as refusals of a text.
use Rattle.c_token.specs.declared.token.LexError.{LexError}
use Rattle.c_token.specs.declared.token.LexError.TheVariants as lex
use Rattle.c_pre.specs.declared.PreError.{PreError}
use Rattle.c_pre.specs.declared.PreError.TheVariants as pre
use Rattle.parse_expr.specs.declared.error.ParseError.{ParseError}
use Rattle.parse_expr.specs.declared.error.ParseError.TheVariants as parse
use Rattle.c_tables.specs.declared.error.CheckError.{CheckError}
use Rattle.c_tables.specs.declared.error.CheckError.TheVariants as check
use Rattle.call_graph.specs.declared.types.GraphError.{GraphError}
use Rattle.call_graph.specs.declared.types.GraphError.TheVariants as graph
use Rattle.ram_place.specs.declared.placing.PlaceError.{PlaceError}
use Rattle.ram_place.specs.declared.placing.PlaceError.TheVariants as place
use Rattle.picc_core.specs.declared.refusal.CompileError.{CompileError}
use Rattle.picc_core.specs.declared.refusal.CompileError.TheVariants.{NoMemory, Refused}
use Rattle.picc_core.specs.declared.refusal.LimitKind.TheVariants as kinds
use Rattle.picc_core.specs.declared.refusal.Refusal.TheVariants as refusal

abbrev pub of_lex : LexError → CompileError
of_lex lex.NoMemory = NoMemory
of_lex (lex.Bad line) = Refused (refusal.Lex line)
of_lex (lex.Identifier line) = Refused (refusal.Limit kinds.Identifier line)

abbrev pub of_pre : PreError → CompileError
of_pre pre.NoMemory = NoMemory
of_pre (pre.Word line) = Refused (refusal.Word line)
of_pre (pre.Directive line) = Refused (refusal.Directive line)
of_pre (pre.Tokens line) = Refused (refusal.Limit kinds.Tokens line)

abbrev pub of_parse : ParseError → CompileError
of_parse parse.NoMemory = NoMemory
of_parse (parse.Nesting line) = Refused (refusal.Limit kinds.Nesting line)
of_parse (parse.Run line) = Refused (refusal.Limit kinds.Run line)
of_parse (parse.Syntax line) = Refused (refusal.Syntax line)

abbrev pub of_check : CheckError → CompileError
of_check check.NoMemory = NoMemory
of_check (check.Kind kind line) = Refused (refusal.Typing kind line)

abbrev pub of_graph : GraphError → CompileError
of_graph graph.NoMemory = NoMemory
of_graph (graph.Roots kind) = Refused (refusal.Roots kind)
of_graph (graph.Recursion function) = Refused (refusal.Recursion function)
of_graph (graph.Depth depth) = Refused (refusal.Depth depth)

abbrev pub of_place : PlaceError → CompileError
of_place place.NoMemory = NoMemory
of_place (place.Ram object) = Refused (refusal.Ram object)
