-- The copies of a generated program's functions, their order as blocks of code, and where its object and its frames stand.
use Rattle.std.specs.Prelude.{ℕ, zero, suc, List, [], ◌∷◌, ◌++◌, codes, false}
use Rattle.c_typed.specs.declared.calls.FnId.TheVariants as callee
use Rattle.call_graph.specs.declared.types.FnCopy.{FnCopy}
use Rattle.pic_map.specs.MapContent.{ObjectLine, FrameLine}
use Rattle.pic_world.specs.declared.Root.TheVariants as root
use Rattle.generated_laws.specs.Tree.{function_name}

-- main has the number behind those of the functions that it calls
abbrev pub main_copy : ℕ → FnCopy
main_copy functions = record { root = root.Main; function = callee.User functions; level = 0 }

abbrev pub copy_of : ℕ → FnCopy
copy_of i = record { root = root.Main; function = callee.User i; level = 1 }

-- so many from a number on
abbrev pub copies_from : ℕ → ℕ → List FnCopy
copies_from i zero = []
copies_from i (suc n) = copy_of i ∷ copies_from (suc i) n

abbrev pub generated_copies : ℕ → List FnCopy
generated_copies functions = main_copy functions ∷ copies_from 0 functions

abbrev pub generated_order : ℕ → List FnCopy
generated_order functions = copies_from 0 functions ++ main_copy functions ∷ []

abbrev pub object_at : ObjectLine
object_at = record { constant = false; name = codes "s"; address = 0x20; size = 1 }

abbrev pub main_frame : FrameLine
main_frame = record { root = root.Main; name = codes "main"; address = 0x21; size = 4 }

-- None of the functions calls another, so their frames stand on one another.
abbrev pub frame_of : ℕ → FrameLine
frame_of i = record { root = root.Main; name = function_name i; address = 0x25; size = 9 }

abbrev pub frames_from : ℕ → ℕ → List FrameLine
frames_from i zero = []
frames_from i (suc n) = frame_of i ∷ frames_from (suc i) n

abbrev pub generated_objects : List ObjectLine
generated_objects = object_at ∷ []

abbrev pub generated_frames : ℕ → List FrameLine
generated_frames functions = main_frame ∷ frames_from 0 functions

-- the numbers that main calls, and the call graph: the functions call nothing, main calls each of them, and the sixteen helpers call nothing
abbrev pub numbers_from : ℕ → ℕ → List ℕ
numbers_from i zero = []
numbers_from i (suc n) = i ∷ numbers_from (suc i) n

abbrev pub helpers_rows : ℕ → List (List ℕ)
helpers_rows zero = []
helpers_rows (suc n) = [] ∷ helpers_rows n

abbrev pub rows_before : ℕ → List ℕ → List (List ℕ)
rows_before zero row = row ∷ helpers_rows 16
rows_before (suc n) row = [] ∷ rows_before n row

abbrev pub generated_graph : ℕ → List (List ℕ)
generated_graph functions = rows_before functions (numbers_from 0 functions)
