-- What the definitions say of the 64 generated texts, computed.
use Rattle.std.proofs.Common.{◌≡◌, ℕ, ◌+◌, ◌*◌, ◌<◌, ◌≤◌, nat_le, nat_lt, Bool, true, List, [], length, Option, Some, None, Result, Ok, Err, refl, arith}
use Rattle.std.specs.Fmt.{digits}
use Rattle.std.specs.List.{list_all}
use Rattle.std.specs.Prelude.{sum}
use Rattle.c_token.specs.Constant.{suffixes_of, number_in, integer_of}
use Rattle.c_token.specs.Text.{tokens_of, tokens_from}
use Rattle.c_token.specs.Token.{piece_at, token_at, word_at, keyword_of, integer_at, punct_of, punctuator_at}
use Rattle.c_token.specs.declared.token.LexError.{LexError}
use Rattle.c_token.specs.declared.token.Tok.{Tok}
use Rattle.c_pre.specs.Words.{excluded_word}
use Rattle.c_parse.specs.Limits.{first_over}
use Rattle.c_nodes.specs.Programs.{depth_statements, spelled_unit}
use Rattle.c_nodes.specs.Words.{Symbols}
use Rattle.c_typed.specs.Calls.{calls, place_calls, arguments_calls, statement_calls, statements_calls, arm_calls, arms_calls, last_calls}
use Rattle.c_typed.specs.Chains.{graph_of}
use Rattle.c_typed.specs.Folding.{bits, constant_value}
use Rattle.c_typed.specs.Roots.{broken_root}
use Rattle.c_typed.specs.Room.{frame_size, room, place_room, arguments_room, statement_room, statements_room, arm_room, arms_room, last_room}
use Rattle.c_typed.specs.Trees.{Program}
use Rattle.c_typed.specs.Types.{is_constant}
use Rattle.c_typed.specs.Words.{words, place_words, arguments_words, statement_words, statements_words, arm_words, arms_words, last_words}
use Rattle.c_typed.specs.declared.program.RootKind.{RootKind}
use Rattle.call_graph.specs.Copies.{root_of}
use Rattle.code_place.specs.Pages.{addresses}
use Rattle.pic_world.specs.declared.Root.TheVariants as root
use Rattle.program_code.specs.Stated.{copy_words, sizes}
use Rattle.type_rules.specs.Declarators.{specified, more_specs, spec_rule, members, more_members, more_fields, field, suffixes, suffix, more_params, param}
use Rattle.type_rules.specs.Expressions.{judged, judged_behind}
use Rattle.type_rules.specs.Faults.{Fault}
use Rattle.type_rules.specs.Initializers.{begins, more_begins}
use Rattle.type_rules.specs.Slots.{characters}
use Rattle.type_rules.specs.Statements.{statement, block_statement, statements, arm, other_arms}
use Rattle.type_rules.specs.Units.{judged_unit}
use Rattle.generated_laws.specs.Generated.{generated, functions_text, calls_text}
use Rattle.generated_laws.specs.Placed.{generated_graph, generated_order}
use Rattle.generated_laws.specs.Tree.{main_statements, generated_tree}
use Rattle.generated_laws.specs.TypedProgram.{main_at, generated_program}
use Rattle.generated_laws.proofs.Each.{each, each_is, Agree, joined}
use Rattle.generated_laws.proofs.Tokens.{words_along, symbols_by, is_kept}

-- ---- tokens
-- whether the tokens that were cut are those of the program, and their symbols
abbrev seen_by : List ℕ → List Tok → List (List ℕ) → Option (Bool × Symbols)
seen_by text raw spelled = Some (is_kept text raw spelled, symbols_by raw spelled)

abbrev pub seen : List ℕ → Result (List Tok) LexError → Option (Bool × Symbols)
seen text (Ok raw) = seen_by text raw (words_along 0 text raw)
seen text (Err e) = None

abbrev read_as : ℕ → Option (Bool × Symbols)
read_as k = seen (generated k) (tokens_of (generated k))

abbrev spelled_as : ℕ → Option (Bool × Symbols)
spelled_as k = Some (true, spelled_unit (generated_tree k))

read_to_20 : each read_as 1 20 ≡ each spelled_as 1 20
unfolding digits generated functions_text calls_text tokens_from piece_at token_at word_at keyword_of integer_at punct_of punctuator_at suffixes_of number_in integer_of
    excluded_word first_over generated_tree
read_to_20 = refl

read_to_28 : each read_as 21 8 ≡ each spelled_as 21 8
unfolding digits generated functions_text calls_text tokens_from piece_at token_at word_at keyword_of integer_at punct_of punctuator_at suffixes_of number_in integer_of
    excluded_word first_over generated_tree
read_to_28 = refl

read_to_35 : each read_as 29 7 ≡ each spelled_as 29 7
unfolding digits generated functions_text calls_text tokens_from piece_at token_at word_at keyword_of integer_at punct_of punctuator_at suffixes_of number_in integer_of
    excluded_word first_over generated_tree
read_to_35 = refl

read_to_40 : each read_as 36 5 ≡ each spelled_as 36 5
unfolding digits generated functions_text calls_text tokens_from piece_at token_at word_at keyword_of integer_at punct_of punctuator_at suffixes_of number_in integer_of
    excluded_word first_over generated_tree
read_to_40 = refl

read_to_45 : each read_as 41 5 ≡ each spelled_as 41 5
unfolding digits generated functions_text calls_text tokens_from piece_at token_at word_at keyword_of integer_at punct_of punctuator_at suffixes_of number_in integer_of
    excluded_word first_over generated_tree
read_to_45 = refl

read_to_49 : each read_as 46 4 ≡ each spelled_as 46 4
unfolding digits generated functions_text calls_text tokens_from piece_at token_at word_at keyword_of integer_at punct_of punctuator_at suffixes_of number_in integer_of
    excluded_word first_over generated_tree
read_to_49 = refl

read_to_53 : each read_as 50 4 ≡ each spelled_as 50 4
unfolding digits generated functions_text calls_text tokens_from piece_at token_at word_at keyword_of integer_at punct_of punctuator_at suffixes_of number_in integer_of
    excluded_word first_over generated_tree
read_to_53 = refl

read_to_57 : each read_as 54 4 ≡ each spelled_as 54 4
unfolding digits generated functions_text calls_text tokens_from piece_at token_at word_at keyword_of integer_at punct_of punctuator_at suffixes_of number_in integer_of
    excluded_word first_over generated_tree
read_to_57 = refl

read_to_61 : each read_as 58 4 ≡ each spelled_as 58 4
unfolding digits generated functions_text calls_text tokens_from piece_at token_at word_at keyword_of integer_at punct_of punctuator_at suffixes_of number_in integer_of
    excluded_word first_over generated_tree
read_to_61 = refl

read_to_64 : each read_as 62 3 ≡ each spelled_as 62 3
unfolding digits generated functions_text calls_text tokens_from piece_at token_at word_at keyword_of integer_at punct_of punctuator_at suffixes_of number_in integer_of
    excluded_word first_over generated_tree
read_to_64 = refl

read_all : Agree read_as spelled_as 1 65
read_all =
    joined read_as spelled_as 1 21 65 (each_is read_as spelled_as 1 20 read_to_20)
    (joined read_as spelled_as 21 29 65 (each_is read_as spelled_as 21 8 read_to_28)
    (joined read_as spelled_as 29 36 65 (each_is read_as spelled_as 29 7 read_to_35)
    (joined read_as spelled_as 36 41 65 (each_is read_as spelled_as 36 5 read_to_40)
    (joined read_as spelled_as 41 46 65 (each_is read_as spelled_as 41 5 read_to_45)
    (joined read_as spelled_as 46 50 65 (each_is read_as spelled_as 46 4 read_to_49)
    (joined read_as spelled_as 50 54 65 (each_is read_as spelled_as 50 4 read_to_53)
    (joined read_as spelled_as 54 58 65 (each_is read_as spelled_as 54 4 read_to_57)
    (joined read_as spelled_as 58 62 65 (each_is read_as spelled_as 58 4 read_to_61)
    (each_is read_as spelled_as 62 3 read_to_64)))))))))

pub reads : (k : ℕ) → 0 < k → k ≤ 64 → seen (generated k) (tokens_of (generated k)) ≡ Some (true, spelled_unit (generated_tree k))
reads k low high = read_all k (omega (arith, low)) (omega (arith, high))

abbrev pub depth_of : ℕ → ℕ
depth_of k = depth_statements (main_statements (k + 2) k)

all_flat : each depth_of 1 64 ≡ each (λ k. 1) 1 64
all_flat = refl

pub is_flat : (k : ℕ) → 0 < k → k ≤ 64 → depth_of k ≡ 1
is_flat k low high = each_is depth_of (λ k. 1) 1 64 all_flat k (omega (arith, low)) (omega (arith, high))

-- ---- types
abbrev judged_as : ℕ → Result Program Fault
judged_as k = judged_unit (generated_tree k)

abbrev typed_as : ℕ → Result Program Fault
typed_as k = Ok (generated_program k)

judged_to_36 : each judged_as 1 36 ≡ each typed_as 1 36
unfolding digits generated_tree generated_program bits constant_value is_constant specified more_specs spec_rule members more_members more_fields field suffixes suffix more_params param
    judged judged_behind begins more_begins characters statement block_statement statements arm other_arms judged_unit
judged_to_36 = refl

judged_to_48 : each judged_as 37 12 ≡ each typed_as 37 12
unfolding digits generated_tree generated_program bits constant_value is_constant specified more_specs spec_rule members more_members more_fields field suffixes suffix more_params param
    judged judged_behind begins more_begins characters statement block_statement statements arm other_arms judged_unit
judged_to_48 = refl

judged_to_57 : each judged_as 49 9 ≡ each typed_as 49 9
unfolding digits generated_tree generated_program bits constant_value is_constant specified more_specs spec_rule members more_members more_fields field suffixes suffix more_params param
    judged judged_behind begins more_begins characters statement block_statement statements arm other_arms judged_unit
judged_to_57 = refl

judged_to_64 : each judged_as 58 7 ≡ each typed_as 58 7
unfolding digits generated_tree generated_program bits constant_value is_constant specified more_specs spec_rule members more_members more_fields field suffixes suffix more_params param
    judged judged_behind begins more_begins characters statement block_statement statements arm other_arms judged_unit
judged_to_64 = refl

judged_all : Agree judged_as typed_as 1 65
judged_all =
    joined judged_as typed_as 1 37 65 (each_is judged_as typed_as 1 36 judged_to_36)
    (joined judged_as typed_as 37 49 65 (each_is judged_as typed_as 37 12 judged_to_48)
    (joined judged_as typed_as 49 58 65 (each_is judged_as typed_as 49 9 judged_to_57)
    (each_is judged_as typed_as 58 7 judged_to_64)))

pub is_judged : (k : ℕ) → 0 < k → k ≤ 64 → judged_unit (generated_tree k) ≡ Ok (generated_program k)
is_judged k low high = judged_all k (omega (arith, low)) (omega (arith, high))

-- ---- roots and calls
abbrev broken_of : ℕ → Option RootKind
broken_of k = broken_root (generated_program k)

all_rooted : each broken_of 1 64 ≡ each (λ k. None) 1 64
unfolding digits generated_program calls place_calls arguments_calls statement_calls statements_calls arm_calls arms_calls last_calls
all_rooted = refl

pub is_rooted : (k : ℕ) → 0 < k → k ≤ 64 → broken_root (generated_program k) ≡ None
is_rooted k low high = each_is broken_of (λ k. None) 1 64 all_rooted k (omega (arith, low)) (omega (arith, high))

abbrev main_of : ℕ → Option ℕ
main_of k = root_of (generated_program k) root.Main

all_mains : each main_of 1 64 ≡ each (λ k. Some k) 1 64
unfolding digits generated_program
all_mains = refl

pub has_main : (k : ℕ) → 0 < k → k ≤ 64 → root_of (generated_program k) root.Main ≡ Some k
has_main k low high = each_is main_of (λ k. Some k) 1 64 all_mains k (omega (arith, low)) (omega (arith, high))

abbrev handler_of : ℕ → Option ℕ
handler_of k = root_of (generated_program k) root.Isr

all_alone : each handler_of 1 64 ≡ each (λ k. None) 1 64
unfolding generated_program
all_alone = refl

pub no_handler : (k : ℕ) → 0 < k → k ≤ 64 → root_of (generated_program k) root.Isr ≡ None
no_handler k low high = each_is handler_of (λ k. None) 1 64 all_alone k (omega (arith, low)) (omega (arith, high))

abbrev called_of : ℕ → List (List ℕ)
called_of k = graph_of (generated_program k)

all_called : each called_of 1 64 ≡ each generated_graph 1 64
unfolding generated_program calls place_calls arguments_calls statement_calls statements_calls arm_calls arms_calls last_calls
all_called = refl

pub has_graph : (k : ℕ) → 0 < k → k ≤ 64 → graph_of (generated_program k) ≡ generated_graph k
has_graph k low high = each_is called_of generated_graph 1 64 all_called k (omega (arith, low)) (omega (arith, high))

abbrev count_of : ℕ → ℕ
count_of k = length (generated_program k).functions

all_counted : each count_of 1 64 ≡ each (λ k. k + 1) 1 64
unfolding generated_program
all_counted = refl

pub has_count : (k : ℕ) → 0 < k → k ≤ 64 → length (generated_program k).functions ≡ k + 1
has_count k low high = each_is count_of (λ k. k + 1) 1 64 all_counted k (omega (arith, low)) (omega (arith, high))

-- ---- sizes
abbrev frame_at : ℕ → ℕ
frame_at k = frame_size [] (main_at (k + 2) k)

all_framed : each frame_at 1 64 ≡ each (λ k. 4) 1 64
unfolding room place_room arguments_room statement_room statements_room arm_room arms_room last_room
all_framed = refl

pub is_framed : (k : ℕ) → 0 < k → k ≤ 64 → frame_size [] (main_at (k + 2) k) ≡ 4
is_framed k low high = each_is frame_at (λ k. 4) 1 64 all_framed k (omega (arith, low)) (omega (arith, high))

abbrev pub blocks_of : ℕ → List ℕ
blocks_of k = sizes (generated_program k) (generated_order k)

-- no block is over a page, all are in program memory, and so many words they have
abbrev pub sized_as : ℕ → Bool × Bool × ℕ
sized_as k = (list_all (λ n. nat_le n 2048) (blocks_of k), list_all (λ n. nat_lt n 8192) (addresses (blocks_of k)), sum (blocks_of k))

abbrev pub stated_as : ℕ → Bool × Bool × ℕ
stated_as k = (true, true, 132 + 92 * k)

all_sized : each sized_as 1 64 ≡ each stated_as 1 64
unfolding generated_program copy_words words place_words arguments_words statement_words statements_words arm_words arms_words last_words
all_sized = refl

pub is_sized : (k : ℕ) → 0 < k → k ≤ 64 → sized_as k ≡ stated_as k
is_sized k low high = each_is sized_as stated_as 1 64 all_sized k (omega (arith, low)) (omega (arith, high))
