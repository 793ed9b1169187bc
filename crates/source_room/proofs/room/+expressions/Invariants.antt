use Rattle.std.proofs.Common.{drop, map}
use Rattle.c_typed.specs.Views.{expression_of, arguments_of}
use Rattle.source_room.proofs.Seen.{arguments_so_far}
use Rattle.source_room.specs.Depth.{arguments_depth}
use Rattle.source_room.proofs.room.+expressions.Given as goal

abbrev pub invariant-depth_of_arguments-loop-argument : goal.invariant-depth_of_arguments-loop-argument
invariant-depth_of_arguments-loop-argument l = arguments_so_far l.deepest l.before (drop l.argument-index l.arguments) (arguments_depth (arguments_of (map expression_of l.arguments)))
