use Rattle.std.proofs.Common.{◌≡◌, map, take}
use Rattle.c_pre.specs.Directive.{table_of}
use Rattle.c_pre.specs.LookedUp.{named}
use Rattle.c_pre.proofs.names.Definitions.look_all_up.Given as goal

abbrev pub invariant-loop-token : goal.invariant-loop-token
invariant-loop-token l = l.list.items ≡ map (named l.text (table_of l.self.list.items)) (take l.token-index l.tokens)
