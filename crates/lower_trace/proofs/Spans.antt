-- How many words the parts of the tree may have that are under way: each node that waits lies in the one below it.
use Rattle.std.proofs.Common.{ℕ, ◌+◌, ◌-◌, ◌≤◌, List, []}
use Rattle.std.specs.Prelude.{suc, ◌*◌, ◌<◌, map}
use Rattle.c_typed.specs.Trees as tree
use Rattle.c_typed.specs.Trees.{Expression, Expressions, Place, Statement, Program}
use Rattle.c_typed.specs.Words.{words, place_words, arguments_words, any_words, items_words, statement_words, statements_words, arm_words, arms_words, last_words, variable_bytes}
use Rattle.src_rules.proofs.Measures.{Sizes, Measure, part_in, part_to, part_for, StageFits, room, FocusFits, Fits, KeepsFit}
use Rattle.src_rules.specs.State.{Outcome}
use Rattle.src_values.specs.Control.{Focus, Got, Args, Stage, InArm, Pending}
use Rattle.src_values.specs.Objects.{function_at}
use Rattle.src_values.specs.declared.objects.CopyOf.{CopyOf}
use Rattle.lower_trace.proofs.CodeLeft.{arm_count}

abbrev pub locals_in : Program → CopyOf → List ℕ
locals_in p c = map (variable_bytes p.sizes) (function_at p c.function).locals

-- the words of a function's body
abbrev pub body_words : Program → CopyOf → ℕ
body_words p c = statements_words p.sizes (locals_in p c) (function_at p c.function).body

abbrev pub word_sizes : List ℕ → List ℕ → Sizes
word_sizes sizes locals = record { expression = words sizes; place = place_words sizes; statement = statement_words sizes locals; list = statements_words sizes locals; any = any_words sizes }

-- how many words the part has that is under way
abbrev pub span_in : List ℕ → Expression → Got → ℕ
span_in sizes (tree.Call function arguments ty line) (Args before more) = arguments_words sizes arguments - arguments_words sizes more
span_in sizes e got = part_in (word_sizes sizes []) e got

abbrev pub span_to : List ℕ → Place → ℕ
span_to sizes place = part_to (word_sizes sizes []) place

abbrev pub span_for : List ℕ → List ℕ → Statement → Stage → ℕ
-- each arm up to the chosen one has a test
span_for sizes locals (tree.If chain otherwise line) (InArm more) = arms_words sizes locals chain + last_words sizes locals otherwise - 20 * (arm_count chain - arm_count more)
span_for sizes locals t stage = part_for (word_sizes sizes locals) t stage

abbrev pub CallSpans : List ℕ → Expression → Expressions → Type 0
CallSpans sizes (tree.Call function arguments ty line) more = arguments_words sizes more ≤ arguments_words sizes arguments
CallSpans sizes e more = Unit {0}

-- of the statements of a list one is under way, and others follow it
abbrev pub by_words : List ℕ → List ℕ → Measure
by_words sizes locals = record {
  sizes = word_sizes sizes locals;
  item_list = items_words sizes;
  in_room = span_in sizes;
  to_room = span_to sizes;
  for_room = span_for sizes locals;
  behind = λ n ss. n - statements_words sizes locals ss;
  IsReady = λ e values more. CallSpans sizes e more;
  IsGiven = λ e values more. CallSpans sizes e more;
  IsPassed = λ e values. Unit {0};
  IsLeft = λ chain more. (arms_words sizes locals more + 20 * (arm_count chain - arm_count more) ≤ arms_words sizes locals chain) × (arm_count more ≤ arm_count chain);
  IsPicked = λ chain arm more. (arm_words sizes locals arm + arms_words sizes locals more + 20 * (arm_count chain - suc (arm_count more)) ≤ arms_words sizes locals chain) × (arm_count more < arm_count chain);
  IsChosen = λ chain. Unit {0};
  Otherwise = Unit {0};
}

abbrev pub measure_in : Program → CopyOf → Measure
measure_in p c = by_words p.sizes (locals_in p c)

abbrev pub span : Program → CopyOf → List Pending → ℕ
span p c k = room p (measure_in p) c k

abbrev pub StageSpans : List ℕ → List ℕ → Statement → Stage → Type 0
StageSpans sizes locals t stage = StageFits (by_words sizes locals) t stage

abbrev pub FocusSpans : Program → CopyOf → Focus → List Pending → Type 0
FocusSpans p c x k = FocusFits p (measure_in p) c x k

abbrev pub Spans : Program → CopyOf → List Pending → Type 0
Spans p c k = Fits p (measure_in p) c k

abbrev pub KeepsSpan : Program → Outcome → Type 0
KeepsSpan p out = KeepsFit p (measure_in p) ⊥ out
