-- Tables, the reads of them, and their readers. A table is a const static array of one dimension whose elements have a
-- char type: its bytes can stand in program memory (data sheet DS39582, 2.3 and 13.0, RETLW), where no pointer leads to.
-- Tables are numbered in order of declaration, and each has a reader, a function that answers the element at an index.
use Rattle.std.specs.Prelude.{ℕ, ◌+◌, Bool, true, false, ◌&&◌, nat_eq, if◌then◌else◌, List, [], ◌∷◌, Option, Some, None, slice_get}
use Rattle.c_ints.specs.declared.types.IntTy.{IntTy}
use Rattle.c_ints.specs.declared.types.IntTy.TheVariants as int
use Rattle.c_typed.specs.Trees as tree
use Rattle.c_typed.specs.Trees.{Expression, Place, StaticTree, Program}
use Rattle.c_typed.specs.declared.expression.Object.{Object}
use Rattle.c_typed.specs.declared.expression.Object.TheVariants as objects
use Rattle.c_typed.specs.declared.types.Qualified.{Qualified}
use Rattle.c_typed.specs.declared.types.Ty.{Ty}
use Rattle.c_typed.specs.declared.types.Ty.TheVariants.{Void, Int, Array}

-- the char types (ISO/IEC 9899:1990, 6.1.2.5)
abbrev pub is_char : IntTy → Bool
is_char int.Char = true
is_char int.SChar = true
is_char int.UChar = true
is_char _ = false

abbrev pub has_char : Ty → Bool
has_char (Int ty) = is_char ty
has_char _ = false

abbrev pub is_char_row : Option Qualified → Bool
is_char_row None = false
is_char_row (Some row) = has_char row.ty

abbrev pub is_char_array : Program → Ty → Bool
is_char_array p (Array element count size) = is_char_row (slice_get p.targets element)
is_char_array p _ = false

abbrev pub is_table : Program → StaticTree → Bool
is_table p s = s.ty.constant && is_char_array p s.ty.ty

-- the numbers of the tables among these static objects, of which the first has the number n
abbrev pub tables_from : Program → ℕ → List StaticTree → List ℕ
tables_from p n [] = []
tables_from p n (s ∷ rest) = if is_table p s then n ∷ tables_from p (n + 1) rest else tables_from p (n + 1) rest

-- The numbers of a program's tables among its static objects, in order of declaration.
abbrev pub tables_of : Program → List ℕ
tables_of p = tables_from p 0 p.statics

-- The numbers of the tables' readers, of which the first is `first`: they stand behind all other functions.
abbrev pub readers_from : ℕ → List ℕ → List ℕ
readers_from first [] = []
readers_from first (t ∷ rest) = first ∷ readers_from (first + 1) rest

-- where a static object stands among tables that are numbered from k on, if it is one of them
abbrev pub place_in : ℕ → ℕ → List ℕ → Option ℕ
place_in n k [] = None
place_in n k (t ∷ rest) = if nat_eq t n then Some k else place_in n (k + 1) rest

-- The table, by its place among all, to whose first element an expression leads: that of a name that became a pointer.
abbrev pub object_table : List ℕ → Object → Option ℕ
object_table ts (objects.Static n) = place_in n 0 ts
object_table ts _ = None

abbrev pub place_table : List ℕ → Place → Option ℕ
place_table ts (tree.Name object ty line) = object_table ts object
place_table ts _ = None

abbrev pub start_table : List ℕ → Expression → Option ℕ
start_table ts (tree.Address place ty line) = place_table ts place
start_table ts _ = None

-- The table that the left or the right operand of a sum is the start of, and where a place is what a sum points to. The operator isn't looked at: in a
-- sound program the start of a const array is an operand of sums alone.
abbrev pub sum_table_left : List ℕ → Expression → Option ℕ
sum_table_left ts (tree.Offset op left right size ty line) = start_table ts left
sum_table_left ts _ = None

abbrev pub sum_table_right : List ℕ → Expression → Option ℕ
sum_table_right ts (tree.Offset op left right size ty line) = start_table ts right
sum_table_right ts _ = None

abbrev pub table_on_left : List ℕ → Place → Option ℕ
table_on_left ts (tree.Deref pointer ty line) = sum_table_left ts pointer
table_on_left ts _ = None

abbrev pub table_on_right : List ℕ → Place → Option ℕ
table_on_right ts (tree.Deref pointer ty line) = sum_table_right ts pointer
table_on_right ts _ = None

-- The operands of such a sum. Other expressions and places have none, and are never asked.
abbrev pub sum_left : Expression → Expression
sum_left (tree.Offset op left right size ty line) = left
sum_left e = e

abbrev pub sum_right : Expression → Expression
sum_right (tree.Offset op left right size ty line) = right
sum_right e = e

abbrev pub index_on_left : Place → Expression
index_on_left (tree.Deref pointer ty line) = sum_left pointer
index_on_left place = tree.Address place Void 0

abbrev pub index_on_right : Place → Expression
index_on_right (tree.Deref pointer ty line) = sum_right pointer
index_on_right place = tree.Address place Void 0
