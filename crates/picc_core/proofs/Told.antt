-- What the stages behind the tree tell of a text, and of its typed program.
use Rattle.std.proofs.Common.{◌≡◌, ℕ, ◌<◌, ◌≤◌, List, true, length, None, Result, Ok, Err, IfOk, IfErr, sym, subst}
use Rattle.std.specs.Prelude.{MatchResult}
use Rattle.c_tables.specs.Answers.{Refuses}
use Rattle.c_tables.specs.declared.error.CheckError.{CheckError}
use Rattle.c_tables.specs.declared.error.CheckError.TheVariants as check
use Rattle.c_nodes.specs.Programs.{ItemTree}
use Rattle.c_typed.specs.Chains.{graph_of}
use Rattle.c_typed.specs.Roots.{broken_root}
use Rattle.c_typed.specs.Sound.{is_sound}
use Rattle.c_typed.specs.Trees.{Program}
use Rattle.c_typed.specs.Views.{program_of}
use Rattle.c_typed.specs.declared.program.Typed.{Typed}
use Rattle.call_graph.specs.Answers.{TellsRoots, TellsRecursion, TellsDepth}
use Rattle.call_graph.specs.Copies.{AreCopies, HasDepth, name_at}
use Rattle.call_graph.specs.Levels.{IsAcyclic, IsFirstRecursive}
use Rattle.call_graph.specs.declared.types.Copies.{Copies}
use Rattle.call_graph.specs.declared.types.FnCopy.{FnCopy}
use Rattle.call_graph.specs.declared.types.GraphError.{GraphError}
use Rattle.call_graph.specs.declared.types.GraphError.TheVariants as graph
use Rattle.pic_map.specs.MapContent.{ObjectLine, FrameLine}
use Rattle.pic_map.specs.declared.Placed.{Placed}
use Rattle.ram_place.specs.Answers.{TellsPlacingIn}
use Rattle.ram_place.specs.Placement.{IsPlacing, IsPlacingIn, whole_below}
use Rattle.ram_place.specs.declared.placing.PlaceError.{PlaceError}
use Rattle.ram_place.specs.declared.placing.PlaceError.TheVariants as place
use Rattle.type_rules.specs.Units.{judged_unit}
use Rattle.picc_core.specs.Accepted.{FitsMemoryBelow, IsPlaceable, AreAccepted, IsRecursive, IsFirstRefusal}
use Rattle.picc_core.specs.Answers.{TellsBy, TellsError, TellsErrorBy, TellsGraph, TellsProgramBy, IsOfGraph, IsRefusedBy}
use Rattle.picc_core.specs.Blocks.{HasBlocks}
use Rattle.picc_core.specs.CodeAnswers.{TellsCodeWithin, IsOfCodeWithin}
use Rattle.picc_core.specs.Decided.{IsAcceptedText}
use Rattle.picc_core.specs.Errors.{of_check, of_graph, of_place}
use Rattle.picc_core.specs.Limits.{IsFirstRefusalWithin}
use Rattle.picc_core.specs.declared.limits.Limits.{Limits}
use Rattle.picc_core.specs.Texts.{HasTree}
use Rattle.picc_core.specs.Typed.{IsTreeOf, IsTypedAs}
use Rattle.picc_core.specs.declared.known.Front.{Front}
use Rattle.picc_core.specs.declared.refusal.CompileError.{CompileError}
use Rattle.picc_core.specs.declared.refusal.CompileError.TheVariants.{NoMemory, Refused}
use Rattle.picc_core.specs.declared.refusal.Refusal.{Refusal}
use Rattle.picc_core.specs.declared.refusal.Refusal.TheVariants.{Lex, Word, Directive, Syntax, Typing, Recursion, Roots, Depth, Ram, Code, Page, Limit}
use Rattle.picc_core.proofs.Trees.{typed_tree}

-- ---- types
pub typed_told : (text : List ℕ) (tree : List ItemTree) (p : Program) → IsTreeOf text tree → judged_unit tree ≡ Ok p → IsTypedAs text p
typed_told text tree p is judged = record { tree = tree; of_text = is; judged = judged }

pub check_told : (text : List ℕ) (tree : List ItemTree) (e : CheckError) → IsTreeOf text tree → Refuses e (judged_unit tree) → TellsError text (of_check e)
check_told text tree check.NoMemory is broken = tt
check_told text tree (check.Kind kind line) is broken = record { tree = tree; of_text = is; judged = broken }

-- ---- roots, recursion and the return stack
recursive : (p : Program) (name : List ℕ) → (f : ℕ) × (f < length p.functions) × IsFirstRecursive (graph_of p) f × (name ≡ name_at p f) → IsRecursive p name
recursive p name (f, there, first, named) = record { number = f; there = there; first = first; named = named }

deep : (p : Program) (depth : ℕ) → broken_root p ≡ None → IsAcyclic (graph_of p) → HasDepth p depth × (8 < depth) → IsFirstRefusal p (Depth depth)
deep p depth roots acyclic (has, over) = (roots, acyclic, has, over)

graph_error : (p : Program) (e : GraphError) → TellsRoots (Err e) (broken_root p) → TellsRecursion p (Err e) → TellsDepth p (Err e) → TellsGraph p (of_graph e)
graph_error p graph.NoMemory roots recursion depth = tt
graph_error p (graph.Roots kind) roots recursion depth = roots
graph_error p (graph.Recursion name) roots recursion depth = (roots, recursive p name.items recursion)
graph_error p (graph.Depth count) roots recursion depth = deep p count roots recursion depth

pub graph_told : (p : Program) (answer : Result Copies GraphError) (e : GraphError) → answer ≡ Err e → TellsRoots answer (broken_root p) → TellsRecursion p answer → TellsDepth p answer → TellsGraph p (of_graph e)
graph_told p answer e is roots recursion depth =
    graph_error p e (subst (λ (a : Result Copies GraphError). TellsRoots a (broken_root p)) is roots) (subst (TellsRecursion p) is recursion) (subst (TellsDepth p) is depth)

-- whatever the limits are
graph_refused : (limits : Limits) (p : Program) (r : Refusal) → IsOfGraph p r → IsFirstRefusalWithin limits p r
graph_refused limits p (Roots kind) is = is
graph_refused limits p (Recursion name) is = is
graph_refused limits p (Depth depth) is = is
graph_refused limits p (Lex line) is = absurd is
graph_refused limits p (Word line) is = absurd is
graph_refused limits p (Directive line) is = absurd is
graph_refused limits p (Syntax line) is = absurd is
graph_refused limits p (Typing kind line) is = absurd is
graph_refused limits p (Ram name) is = absurd is
graph_refused limits p (Page name words) is = absurd is
graph_refused limits p (Code words) is = absurd is
graph_refused limits p (Limit kind line) is = absurd is

pub graph_within : (limits : Limits) (p : Program) (e : CompileError) → TellsGraph p e → TellsProgramBy (IsFirstRefusalWithin limits) p e
graph_within limits p NoMemory tells = tt
graph_within limits p (Refused refusal) tells = graph_refused limits p refusal tells

placeable : (p : Program) (copies : List FnCopy) (depth : ℕ) → broken_root p ≡ None → IsAcyclic (graph_of p) → HasDepth p depth × (depth ≤ 8) → AreCopies p copies → IsPlaceable p copies
placeable p copies depth roots acyclic (has, low) known = record { roots = roots; acyclic = acyclic; stack = record { depth = depth; exact = has; within = low }; known = known }

-- ---- data memory
place_error : (limits : Limits) (p : Program) (copies : List FnCopy) (e : PlaceError) → IsPlaceable p copies → TellsPlacingIn (whole_below p limits.top_of_memory) p copies (Err e) → TellsProgramBy (IsFirstRefusalWithin limits) p (of_place e)
place_error limits p copies place.NoMemory known tells = tt
place_error limits p copies (place.Ram name) known tells = (copies, known, tells)

pub place_told : (limits : Limits) (p : Program) (copies : List FnCopy) (depth : ℕ) (answer : Result Placed PlaceError) (e : PlaceError) → answer ≡ Err e → broken_root p ≡ None → IsAcyclic (graph_of p) → HasDepth p depth × (depth ≤ 8) → AreCopies p copies
    → TellsPlacingIn (whole_below p limits.top_of_memory) p copies answer → TellsProgramBy (IsFirstRefusalWithin limits) p (of_place e)
place_told limits p copies depth answer e is roots acyclic deep known tells =
    place_error limits p copies e (placeable p copies depth roots acyclic deep known) (subst (TellsPlacingIn (whole_below p limits.top_of_memory) p copies) is tells)

-- ---- code
module _ (limits : Limits) (p : Program) (copies : List FnCopy) (known : IsPlaceable p copies) (memory : FitsMemoryBelow limits.top_of_memory p copies) where
  of_code : (refusal : Refusal) → IsOfCodeWithin limits p copies refusal → IsFirstRefusalWithin limits p refusal
  of_code (Page name words) is = (copies, known, memory, is)
  of_code (Code words) is = (copies, known, memory, is)
  of_code (Lex line) is = absurd is
  of_code (Word line) is = absurd is
  of_code (Directive line) is = absurd is
  of_code (Syntax line) is = absurd is
  of_code (Typing kind line) is = absurd is
  of_code (Recursion name) is = absurd is
  of_code (Roots kind) is = absurd is
  of_code (Depth depth) is = absurd is
  of_code (Ram name) is = absurd is
  of_code (Limit kind line) is = absurd is

  code_error : (e : CompileError) → TellsCodeWithin limits p copies e → TellsProgramBy (IsFirstRefusalWithin limits) p e
  code_error NoMemory is = tt
  code_error (Refused refusal) is = of_code refusal is

pub code_refused : (limits : Limits) (p : Program) (copies : List FnCopy) (depth : ℕ) (objects : List ObjectLine) (frames : List FrameLine) (e : CompileError) → broken_root p ≡ None → IsAcyclic (graph_of p) → HasDepth p depth × (depth ≤ 8)
    → AreCopies p copies → IsPlacingIn (whole_below p limits.top_of_memory) p copies objects frames → TellsCodeWithin limits p copies e → TellsProgramBy (IsFirstRefusalWithin limits) p e
code_refused limits p copies depth objects frames e roots acyclic deep known placing is =
    code_error limits p copies (placeable p copies depth roots acyclic deep known) (record { objects = objects; frames = frames; placing = placing }) e is

-- ---- acceptance
sound : (typed : Typed) → is_sound (program_of typed) ≡ true
sound typed = typed.sound

pub accepted : (typed : Typed) (copies : List FnCopy) (depth : ℕ) (objects : List ObjectLine) (frames : List FrameLine) (at : List ℕ) (words : ℕ) → broken_root (program_of typed) ≡ None → IsAcyclic (graph_of (program_of typed))
    → HasDepth (program_of typed) depth × (depth ≤ 8) → AreCopies (program_of typed) copies → IsPlacing (program_of typed) copies objects frames → HasBlocks (program_of typed) copies at words
    → AreAccepted (program_of typed) copies
accepted typed copies depth objects frames at words roots acyclic deep copied placing blocks =
    let known = placeable (program_of typed) copies depth roots acyclic deep copied in
    record {
      order = blocks.order;
      accepted = record {
        typed = sound typed;
        roots = known.roots;
        acyclic = known.acyclic;
        stack = known.stack;
        known = known.known;
        memory = record { objects = objects; frames = frames; placing = placing };
        in_order = record { same = blocks.same; sorted = blocks.sorted };
        pages = blocks.pages;
        code = blocks.memory;
      };
    }

-- ---- the text
refused_as : (limits : Limits) (text : List ℕ) (p : Program) (refusal : Refusal) → IsTypedAs text p → IsFirstRefusalWithin limits p refusal → IsRefusedBy (IsFirstRefusalWithin limits) text refusal
refused_as limits text p refusal typed first = record { program = p; typed = typed; first = first }

refusal_told : (limits : Limits) (text : List ℕ) (p : Program) (refusal : Refusal) → IsTypedAs text p → IsFirstRefusalWithin limits p refusal → TellsBy (IsFirstRefusalWithin limits) text refusal
refusal_told limits text p (Lex line) typed first = absurd first
refusal_told limits text p (Word line) typed first = absurd first
refusal_told limits text p (Directive line) typed first = absurd first
refusal_told limits text p (Syntax line) typed first = absurd first
refusal_told limits text p (Typing kind line) typed first = absurd first
refusal_told limits text p (Limit kind line) typed first = absurd first
refusal_told limits text p (Recursion name) typed first = refused_as limits text p (Recursion name) typed first
refusal_told limits text p (Roots kind) typed first = refused_as limits text p (Roots kind) typed first
refusal_told limits text p (Depth depth) typed first = refused_as limits text p (Depth depth) typed first
refusal_told limits text p (Ram name) typed first = refused_as limits text p (Ram name) typed first
refusal_told limits text p (Code words) typed first = refused_as limits text p (Code words) typed first
refusal_told limits text p (Page name words) typed first = refused_as limits text p (Page name words) typed first

pub program_told : (limits : Limits) (text : List ℕ) (p : Program) (e : CompileError) → IsTypedAs text p → TellsProgramBy (IsFirstRefusalWithin limits) p e → TellsErrorBy (IsFirstRefusalWithin limits) text e
program_told limits text p NoMemory typed tells = tt
program_told limits text p (Refused refusal) typed tells = refusal_told limits text p refusal typed tells

pub typed_as : (text : List ℕ) (t u : Typed) → u ≡ t → IsTypedAs text (program_of t) → IsTypedAs text (program_of u)
typed_as text t u same is = subst (λ (x : Typed). IsTypedAs text (program_of x)) (sym same) is

-- what is known of a typed program's front tells of the text
pub front_told : (limits : Limits) (text : List ℕ) (t : Typed) (answer : Result Front CompileError) → IsTypedAs text (program_of t) → IfErr answer (TellsProgramBy (IsFirstRefusalWithin limits) (program_of t)) → IfOk answer (λ front. front.typed ≡ t)
    → MatchResult answer (λ front. IsTypedAs text (program_of front.typed)) (TellsErrorBy (IsFirstRefusalWithin limits) text)
front_told limits text t (Ok front) is refused same = typed_as text t front.typed same is
front_told limits text t (Err e) is refused same = program_told limits text (program_of t) e is refused

pub has_tree : (limits : Limits) (text : List ℕ) (answer : Result Front CompileError) → MatchResult answer (λ front. IsTypedAs text (program_of front.typed)) (TellsErrorBy (IsFirstRefusalWithin limits) text) → IfOk answer (λ _. HasTree text)
has_tree limits text (Ok front) is = typed_tree text (program_of front.typed) is
has_tree limits text (Err e) is = tt

-- a text whose typed program is accepted
pub is_taken : (limits : Limits) (text : List ℕ) (answer : Result Front CompileError) → MatchResult answer (λ front. IsTypedAs text (program_of front.typed)) (TellsErrorBy (IsFirstRefusalWithin limits) text)
    → IfOk answer (λ front. AreAccepted (program_of front.typed) front.copies.list.items) → IfOk answer (λ _. IsAcceptedText text)
is_taken limits text (Ok front) is taken = record { program = program_of front.typed; typed = is; copies = front.copies.list.items; accepted = taken }
is_taken limits text (Err e) is taken = tt
