-- The parts of a program once more, one after the other.
use Rattle.std.proofs.Common.{◌≡◌, ℕ, ◌+◌, ◌<◌, ◌≤◌, List, [], ◌∷◌, ◌++◌, length, map, take, get_or, sym, ap, ◌∙◌}
use Rattle.std.proofs.lemmas.List.{map_more, map_push, take_all}
use Rattle.c_typed.specs.Trees.{VariableTree, StaticTree, FunctionTree, MemberTree, StructureTree}
use Rattle.c_typed.specs.Views.{function_of, member_of, static_of, structure_of, variable_of}
use Rattle.c_typed.specs.declared.program.Function.{Function}
use Rattle.c_typed.specs.declared.program.Static.{Static}
use Rattle.c_typed.specs.declared.program.Variable.{Variable}
use Rattle.c_typed.specs.declared.types.Member.{Member}
use Rattle.c_typed.specs.declared.types.Structure.{Structure}
use Rattle.rom_tables.specs.Outlined.{outlined_function}

pub more_members : (given made : List Member) (k : ℕ) (c n : Member) → k < length given → c ≡ get_or given k c → member_of n ≡ member_of c → map member_of made ≡ map member_of (take k given) → map member_of (made ++ n ∷ []) ≡ map member_of (take (k + 1) given)
more_members given made k c n below is same before =
    map_push member_of made n ∙ ap (λ (l : List MemberTree). l ++ member_of n ∷ []) before
    ∙ ap (λ (t : MemberTree). map member_of (take k given) ++ t ∷ []) (same ∙ ap member_of is) ∙ sym (map_more member_of given k c below)

pub all_members : (given made : List Member) (k : ℕ) → length given ≤ k → map member_of made ≡ map member_of (take k given) → map member_of made ≡ map member_of given
all_members given made k past before = before ∙ ap (map member_of) (take_all k given past)

pub more_structures : (given made : List Structure) (k : ℕ) (c n : Structure) → k < length given → c ≡ get_or given k c → structure_of n ≡ structure_of c → map structure_of made ≡ map structure_of (take k given) → map structure_of (made ++ n ∷ []) ≡ map structure_of (take (k + 1) given)
more_structures given made k c n below is same before =
    map_push structure_of made n ∙ ap (λ (l : List StructureTree). l ++ structure_of n ∷ []) before
    ∙ ap (λ (t : StructureTree). map structure_of (take k given) ++ t ∷ []) (same ∙ ap structure_of is) ∙ sym (map_more structure_of given k c below)

pub all_structures : (given made : List Structure) (k : ℕ) → length given ≤ k → map structure_of made ≡ map structure_of (take k given) → map structure_of made ≡ map structure_of given
all_structures given made k past before = before ∙ ap (map structure_of) (take_all k given past)

pub more_statics : (given made : List Static) (k : ℕ) (c n : Static) → k < length given → c ≡ get_or given k c → static_of n ≡ static_of c → map static_of made ≡ map static_of (take k given) → map static_of (made ++ n ∷ []) ≡ map static_of (take (k + 1) given)
more_statics given made k c n below is same before =
    map_push static_of made n ∙ ap (λ (l : List StaticTree). l ++ static_of n ∷ []) before
    ∙ ap (λ (t : StaticTree). map static_of (take k given) ++ t ∷ []) (same ∙ ap static_of is) ∙ sym (map_more static_of given k c below)

pub all_statics : (given made : List Static) (k : ℕ) → length given ≤ k → map static_of made ≡ map static_of (take k given) → map static_of made ≡ map static_of given
all_statics given made k past before = before ∙ ap (map static_of) (take_all k given past)

pub more_variables : (given made : List Variable) (k : ℕ) (c n : Variable) → k < length given → c ≡ get_or given k c → variable_of n ≡ variable_of c → map variable_of made ≡ map variable_of (take k given) → map variable_of (made ++ n ∷ []) ≡ map variable_of (take (k + 1) given)
more_variables given made k c n below is same before =
    map_push variable_of made n ∙ ap (λ (l : List VariableTree). l ++ variable_of n ∷ []) before
    ∙ ap (λ (t : VariableTree). map variable_of (take k given) ++ t ∷ []) (same ∙ ap variable_of is) ∙ sym (map_more variable_of given k c below)

pub all_variables : (given made : List Variable) (k : ℕ) → length given ≤ k → map variable_of made ≡ map variable_of (take k given) → map variable_of made ≡ map variable_of given
all_variables given made k past before = before ∙ ap (map variable_of) (take_all k given past)

pub more_functions : (ts : List ℕ) (first : ℕ) (given made : List Function) (k : ℕ) (c n : Function) → k < length given → c ≡ get_or given k c → function_of n ≡ outlined_function ts first (function_of c) → map function_of made ≡ map (outlined_function ts first) (map function_of (take k given)) → map function_of (made ++ n ∷ []) ≡ map (outlined_function ts first) (map function_of (take (k + 1) given))
more_functions ts first given made k c n below is same before =
    map_push function_of made n ∙ ap (λ (l : List FunctionTree). l ++ function_of n ∷ []) before
    ∙ ap (λ (t : FunctionTree). map (outlined_function ts first) (map function_of (take k given)) ++ t ∷ []) (same ∙ ap (λ (f : Function). outlined_function ts first (function_of f)) is)
    ∙ sym (ap (map (outlined_function ts first)) (map_more function_of given k c below) ∙ map_push (outlined_function ts first) (map function_of (take k given)) (function_of (get_or given k c)))

pub all_functions : (ts : List ℕ) (first : ℕ) (given made : List Function) (k : ℕ) → length given ≤ k → map function_of made ≡ map (outlined_function ts first) (map function_of (take k given)) → map function_of made ≡ map (outlined_function ts first) (map function_of given)
all_functions ts first given made k past before = before ∙ ap (λ (l : List Function). map (outlined_function ts first) (map function_of l)) (take_all k given past)
