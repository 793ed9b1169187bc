use Rattle.std.proofs.Common.{◌≡◌, take}
use Rattle.c_pre.specs.Directive.{table_of}
use Rattle.c_pre.specs.LookedUp.{lists_of, looked_up}
use Rattle.c_pre.proofs.names.Definitions.lists.Given as goal

abbrev pub invariant-loop-definition : goal.invariant-loop-definition
invariant-loop-definition l = lists_of l.lists.items ≡ looked_up l.text (table_of l.self.list.items) (table_of (take l.definition-index l.self.list.items))
