-- The program that is made from its parts is the one that is wanted: it is sound and small.
use Rattle.std.proofs.Common.{◌≡◌, ℕ, ◌+◌, ◌*◌, ◌^◌, ◌≤◌, true, List, [], ◌∷◌, map, length, refl, sym, ap, ◌∙◌, arith}
use Rattle.std.proofs.lemmas.List.{length-map}
use Rattle.c_typed.proofs.Facts.{few_functions}
use Rattle.c_typed.specs.Nodes.{program_size}
use Rattle.c_typed.specs.Sound.{is_sound}
use Rattle.c_typed.specs.Trees.{StructureTree, StaticTree, FunctionTree, Program}
use Rattle.c_typed.specs.Views.{function_of, program_from, program_of, size_of, static_of, structure_of}
use Rattle.c_typed.specs.declared.program.Function.{Function}
use Rattle.c_typed.specs.declared.program.Static.{Static}
use Rattle.c_typed.specs.declared.program.Typed.{Typed}
use Rattle.c_typed.specs.declared.types.Qualified.{Qualified}
use Rattle.c_typed.specs.declared.types.Structure.{Structure}
use Rattle.rom_tables.proofs.Programs.{outlined_sound}
use Rattle.rom_tables.proofs.Sizes.{few_tables, outlined_small, size_is}
use Rattle.rom_tables.specs.Laws as laws
use Rattle.rom_tables.specs.Outlined.{outlined, outlined_functions, with_rows}
use Rattle.rom_tables.specs.Tables.{tables_of}

abbrev program : List Qualified → List StructureTree → List ℕ → List StaticTree → List FunctionTree → Program
program targets structures sizes statics functions = record { targets = targets; structures = structures; sizes = sizes; statics = statics; functions = functions }

abbrev size_in : StructureTree → ℕ
size_in s = s.size

sizes_are : (ss : List Structure) → map size_of ss ≡ map size_in (map structure_of ss)
sizes_are [] = refl
sizes_are (s ∷ ss) = ap (λ (l : List ℕ). s.size ∷ l) (sizes_are ss)

bounded : (a b c d e : ℕ) → a ≡ b → b ≡ c → c ≤ 16 * d → e ≡ d → e ≤ 2 ^ 24 → a ≤ 2 ^ 28
bounded a b c d e f g h i j = omega (arith, f, g, h, i, j)

module _ (p : Typed) (targets : List Qualified) (structures : List Structure) (statics : List Static) (functions : List Function) (same_targets : targets ≡ with_rows (program_of p) (tables_of (program_of p)) (program_of p).targets) (same_structures : map structure_of structures ≡ (program_of p).structures) (same_statics : map static_of statics ≡ (program_of p).statics) (same_functions : map function_of functions ≡ outlined_functions (program_of p) (tables_of (program_of p))) where
  pub made_is : program_from targets structures statics functions ≡ outlined (program_of p)
  unfolding outlined
  made_is =
      ap (λ a. program a (map structure_of structures) (map size_of structures) (map static_of statics) (map function_of functions)) same_targets
      ∙ ap (λ b. program (with_rows (program_of p) (tables_of (program_of p)) (program_of p).targets) b (map size_of structures) (map static_of statics) (map function_of functions)) same_structures
      ∙ ap (λ c. program (with_rows (program_of p) (tables_of (program_of p)) (program_of p).targets) (program_of p).structures c (map static_of statics) (map function_of functions)) (sizes_are structures ∙ ap (map size_in) same_structures ∙ sym (sizes_are p.structures.items))
      ∙ ap (λ d. program (with_rows (program_of p) (tables_of (program_of p)) (program_of p).targets) (program_of p).structures (program_of p).sizes d (map function_of functions)) same_statics
      ∙ ap (λ e. program (with_rows (program_of p) (tables_of (program_of p)) (program_of p).targets) (program_of p).structures (program_of p).sizes (program_of p).statics e) same_functions

  pub made_sound : is_sound (program_from targets structures statics functions) ≡ true
  made_sound = ap is_sound made_is ∙ outlined_sound (program_of p) p.sound

  pub made_small : program_size p.statics.items p.functions.items ≤ 2 ^ 24 → program_size statics functions ≤ 2 ^ 28
  made_small few =
      let a = size_is statics functions in
      let b = ap laws.size_of made_is in
      let c = outlined_small (program_of p) in
      let d = size_is p.statics.items p.functions.items in
      bounded (program_size statics functions) (laws.size_of (program_from targets structures statics functions)) (laws.size_of (outlined (program_of p))) (laws.size_of (program_of p)) (program_size p.statics.items p.functions.items) a b c d few

statics_few : (a b c : ℕ) → a + b + c ≤ 2 ^ 28 → b ≤ 2 ^ 28
statics_few a b c h = omega (arith, h)

-- Functions and readers have numbers.
pub tables_room : (p : Typed) (numbers : List ℕ) (first : ℕ) → numbers ≡ tables_of (program_of p) → first ≡ length p.functions.items → first + length numbers ≤ 2 ^ 30
tables_room p numbers first is at =
    let a = few_functions p in
    let b = few_tables (program_of p) in
    let c = length-map p.statics.items static_of in
    let d = statics_few _ (length p.statics.items) _ p.small in
    let e = ap (λ (l : List ℕ). length l) is in
    omega (arith, a, b, c, d, e, at)
