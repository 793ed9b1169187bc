-- What the words ask for, by the bytes of their names.
use Rattle.std.specs.Prelude.{◌≤◌, Option, Some, None}
use Rattle.picc_cli.specs.declared.command.Files.{Files}
use Rattle.picc_cli.specs.declared.command.Asked as declared
use Rattle.picc_cli.specs.declared.command.Simulated as declared_simulated
use Rattle.picc_cli.specs.declared.command.Compared as declared_compared
use Rattle.picc_cli.specs.declared.command.Command as declared_command
use Rattle.picc_cli.specs.declared.command.Command.TheVariants as commands
use Rattle.picc_cli.specs.Command.{Names, Asked, Simulated, Compared, Form, Build, Trace, Simulate, Agree, Generate, Check}
use Rattle.picc_cli.specs.Summary.{IsSize}

abbrev pub names_of : Files → Names
names_of files = record { chip = files.chip; input = files.input.now; output = files.output.now; map = files.map.now }

abbrev pub asked_of : declared.Asked → Asked
asked_of asked = record { input = asked.input.now; script = asked.script.now; steps = asked.steps }

abbrev pub simulated_of : declared_simulated.Simulated → Simulated
simulated_of simulated = record { chip = simulated.chip; hex = simulated.hex.now; map = simulated.map.now; script = simulated.script.now; instructions = simulated.instructions }

abbrev pub compared_of : declared_compared.Compared → Compared
compared_of compared = record { input = compared.input.now; script = compared.script.now; instructions = compared.instructions }

abbrev pub form_view : declared_command.Command → Form
form_view (commands.Build files) = Build (names_of files)
form_view (commands.Trace asked) = Trace (asked_of asked)
form_view (commands.Simulate simulated) = Simulate (simulated_of simulated)
form_view (commands.Agree compared) = Agree (compared_of compared)
form_view (commands.Generate size) = Generate size
form_view (commands.Check hex) = Check hex.now

-- a comparison has at most 100,000 instructions, and a generated program from 1 to 64 functions
abbrev pub IsWithin : Option declared_command.Command → Type 0
IsWithin None = Unit {0}
IsWithin (Some (commands.Build files)) = Unit {0}
IsWithin (Some (commands.Trace asked)) = Unit {0}
IsWithin (Some (commands.Simulate simulated)) = Unit {0}
IsWithin (Some (commands.Agree compared)) = compared.instructions ≤ 100000
IsWithin (Some (commands.Generate size)) = IsSize size
IsWithin (Some (commands.Check hex)) = Unit {0}
