-- The parts of a switch that hold no statement (ISO/IEC 9899:1990, 6.6.4.2). A segment of the body goes from one label to the
-- next. Each stands in a loop of its own, behind a loop that leads to it; the innermost loop compares the value with the labels,
-- and leaving so many loops there reaches the segment of that number.
use Rattle.std.specs.Prelude.{ℕ, ◌+◌, ◌*◌, nat_eq, Bool, if◌then◌else◌, List, [], ◌∷◌, ◌++◌, Option, Some, None}
use Rattle.c_ints.specs.Range.{pattern}
use Rattle.c_ints.specs.declared.operators.BinOp.TheVariants.{Eq}
use Rattle.c_ints.specs.declared.types.IntTy.{IntTy}
use Rattle.c_typed.specs.Trees.{Expression}
use Rattle.c_typed.specs.Types.{type_of}
use Rattle.c_typed.specs.declared.statement.TCase.{TCase}
use Rattle.core_code.specs.Tree as core
use Rattle.core_code.specs.Tree.{Tree, many}
use Rattle.core_code.specs.declared.code.Byte.{Byte}
use Rattle.core_puts.specs.Bytes.{operation_type}
use Rattle.core_puts.specs.Puts.{sets, test_size}
use Rattle.lower_stmt.specs.Ground.{Ground, first, temporary, width}
use Rattle.lower_stmt.specs.Labels.{segments_before}

abbrev pub comparison : IntTy → Byte → Byte → Byte → List Tree
comparison ty to left right = core.Binary Eq ty to left right ∷ []

-- leads to a segment where the int at `test` isn't 0
abbrev pub leading : Byte → ℕ → List Tree
leading test segment = core.If test (test_size 2) (core.Exit segment) (many []) ∷ []

-- One comparison of the value, which has so many bytes, with a label that leads to a segment.
abbrev pub case_code : Ground → IntTy → ℕ → TCase → ℕ → List Tree
case_code g ty bytes case segment =
    sets (temporary g bytes) (pattern case.value.ty case.value.number) bytes
    ++ comparison ty (temporary g (2 * bytes)) (first g) (temporary g bytes)
    ++ leading (temporary g (2 * bytes)) segment

abbrev pub cases_code : Ground → IntTy → ℕ → List ℕ → List TCase → List Tree
cases_code g ty bytes labels [] = []
cases_code g ty bytes labels (case ∷ cases) = case_code g ty bytes case (segments_before case.target labels) ++ cases_code g ty bytes labels cases

-- where a value leads that no case has: to the segment of `default`, or behind all of so many segments
abbrev pub otherwise_segment : List ℕ → ℕ → Option ℕ → ℕ
otherwise_segment labels count None = count
otherwise_segment labels count (Some target) = segments_before target labels

abbrev pub comparisons : Ground → Expression → List TCase → Option ℕ → List ℕ → ℕ → List Tree
comparisons g value cases default labels count =
    cases_code g (operation_type (type_of value)) (width g value) labels cases ++ core.Exit (otherwise_segment labels count default) ∷ []

-- ---- segments
-- What the statements from some place of the body on give: the rest of the segment that they begin in, and the segments
-- behind it.
pub record Segments : Type 0 where
  pub running : List Tree
  pub later : List (List Tree)

abbrev pub no_segments : Segments
no_segments = record { running = []; later = [] }

-- the code of one more statement in front
abbrev pub joined : List Tree → Segments → Segments
joined code s = record s { running = code ++ s.running }

-- A segment begins in front, if a label stands there.
abbrev pub cut : Bool → Segments → Segments
cut begins s = if begins then record { running = []; later = s.running ∷ s.later } else s

abbrev pub begun_with : Bool → ℕ → ℕ
begun_with begins begun = if begins then begun + 1 else begun

-- Each segment stands behind what leads to it, in a loop that ends by leaving it.
abbrev pub nest : List Tree → List (List Tree) → List Tree
nest inner [] = inner
nest inner (segment ∷ segments) = nest (core.Loop (many (inner ++ segment ++ core.Exit 0 ∷ [])) ∷ []) segments

-- The comparisons in a loop, and round it those of all segments. Statements before the first label are never reached.
abbrev pub around : List Tree → Segments → List Tree
around comparisons s = nest (core.Loop (many comparisons) ∷ []) s.later

-- A switch without labels only has its value.
abbrev pub for_labels : List ℕ → List Tree → List Tree
for_labels [] code = []
for_labels (label ∷ labels) code = code
