use Rattle.std.proofs.Common.{◌≡◌, ◌++◌, drop, map}
use Rattle.c_nodes.specs.Words.{Symbols, keyed}
use Rattle.type_rules.specs.Known.{Known}
use Rattle.type_rules.specs.TypeNames.{with_pointers}
use Rattle.check_expr.proofs.type_name.with_qualifiers.Given as goal

abbrev pub invariant-loop-word : goal.invariant-loop-word
invariant-loop-word l = (rest : Symbols) (known : Known) → with_pointers (map keyed l.fn.words ++ rest) l.fn.ty known ≡ with_pointers (map keyed (drop l.word-index l.words) ++ rest) l.ty known
