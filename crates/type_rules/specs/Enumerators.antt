-- Enumerators (ISO/IEC 9899:1990, 6.5.2.2): each is a number of type int, in scope from behind its own text on.
use Rattle.std.specs.Prelude.{ℤ, pos, negsuc, ◌+ℤ◌, int_le, Bool, not, ◌&&◌, [], ◌∷◌}
use Rattle.c_nodes.specs.Trees.{EnumeratorTree, MoreEnumerators}
use Rattle.c_nodes.specs.Trees as tree
use Rattle.c_nodes.specs.Words.{Symbol}
use Rattle.type_rules.specs.Faults as kind
use Rattle.type_rules.specs.Faults.{Tests}
use Rattle.type_rules.specs.Known.{EnumeratorName, Known, Rule, given, known_here, tried, ◌>>=◌}
use Rattle.type_rules.specs.Names.{is_declared, bind}
use Rattle.type_rules.specs.Constants.{constant_value}

abbrev pub is_int : ℤ → Bool
is_int n = int_le (negsuc 32767) n && int_le n (pos 32767)

abbrev pub enumerator_tests : Known → Symbol → ℤ → Tests
enumerator_tests known name n = (is_declared known name.bytes, kind.Again) ∷ (not (is_int n), kind.Constant) ∷ []

-- The number of the next one, if that has no value, is 1 more.
abbrev pub numbered : Symbol → ℤ → Rule ℤ
numbered name n = do
  known ← known_here
  _ ← tried (enumerator_tests known name n) name.line
  _ ← bind name.bytes (EnumeratorName n)
  given (n +ℤ pos 1)

-- an enumerator that has this number where it has no value
abbrev pub enumerator : EnumeratorTree → ℤ → Rule ℤ
enumerator (tree.Bare name) next = numbered name next
enumerator (tree.Valued name equals e) next = do
  v ← constant_value e
  numbered name v.number

abbrev pub more_enumerators : MoreEnumerators → ℤ → Rule ℤ
more_enumerators tree.NoEnumerator next = given next
more_enumerators (tree.AndEnumerator comma e es) next = do
  after ← enumerator e next
  more_enumerators es after

abbrev pub enumerators : EnumeratorTree → MoreEnumerators → Rule ℤ
enumerators e es = do
  next ← enumerator e (pos 0)
  more_enumerators es next
