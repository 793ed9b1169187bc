-- The size of a typed program of the code is that of it as pure data.
use Rattle.std.proofs.Common.{◌≡◌, List, [], ◌∷◌, map, refl, arith}
use Rattle.std.proofs.lemmas.List.{length-map}
use Rattle.c_typed.proofs.NodeCounts.{functions_count}
use Rattle.c_typed.specs.Nodes.{total, program_size, variables}
use Rattle.c_typed.specs.Views.{function_of, static_of, variable_of}
use Rattle.c_typed.specs.Shown.{program_from}
use Rattle.c_typed.specs.declared.program.Function.{Function}
use Rattle.c_typed.specs.declared.program.Static.{Static}
use Rattle.c_typed.specs.declared.types.Qualified.{Qualified}
use Rattle.c_typed.specs.declared.types.Structure.{Structure}
use Rattle.typed_laws.specs.Sizes.{variables_in, size_of}

variables_count : (fs : List Function) → variables_in (map function_of fs) ≡ total (map variables fs)
variables_count [] = refl
variables_count (f ∷ fs) =
    let p = length-map f.params.items variable_of in
    let l = length-map f.locals.items variable_of in
    let i = variables_count fs in
    omega arith

pub size_counts : (targets : List Qualified) (structures : List Structure) (statics : List Static) (functions : List Function) → size_of (program_from targets structures statics functions) ≡ program_size statics functions
size_counts targets structures statics functions =
    let n = functions_count functions in
    let s = length-map statics static_of in
    let v = variables_count functions in
    omega arith
