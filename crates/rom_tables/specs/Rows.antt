-- What readers are made from: the types that are pointed to, and the static objects.
use Rattle.std.specs.Prelude.{List, []}
use Rattle.c_typed.specs.Trees.{StaticTree, Program}
use Rattle.c_typed.specs.declared.types.Qualified.{Qualified}

-- a program that has no more than these
abbrev pub declared_with : List Qualified → List StaticTree → Program
declared_with targets statics = record { targets = targets; structures = []; sizes = []; statics = statics; functions = [] }
