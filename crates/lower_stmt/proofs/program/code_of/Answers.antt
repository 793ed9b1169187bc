use Rattle.std.proofs.Common.{ap, ◌∙◌}
use Rattle.c_typed.specs.Views.{function_of, program_of}
use Rattle.lower_stmt.proofs.program.code_of.Goals as goal
use Rattle.lower_stmt.specs.Bodies.{body_code}
use Rattle.lower_stmt.specs.Frames.{ground_on, base_of}

pub returns : goal.returns
returns c = c.in_ok-code.ensures ∙ ap (λ g. body_code g (function_of c.args.function.now)) (c.site_of-site.ensures ∙ ap (λ l. ground_on l (function_of c.args.function.now).locals c.args.copy (base_of (program_of c.args.p.now).sizes (function_of c.args.function.now))) c.in_ok-places.ensures)
