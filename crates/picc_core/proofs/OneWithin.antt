-- Within any limits a text is accepted, or refused in one way.
use Rattle.std.proofs.Common.{◌≡◌, ℕ, ◌<◌, ◌≤◌, ◌⊎◌, ⊎_elim, List, length, Option, Some, None, Err, refl, sym, ap, ◌∙◌, subst, arith}
use Rattle.std.specs.Global.{Global}
use Rattle.std.specs.declared.vec.Vec.{Vec}
use Rattle.std.proofs.lemmas.Bool.{cases_lt}
use Rattle.c_tables.specs.Answers.{kind_of, fault_of}
use Rattle.c_tables.specs.declared.error.Kind.{Kind}
use Rattle.c_tables.specs.declared.error.Kind.TheVariants as kinds
use Rattle.c_typed.specs.Chains.{graph_of}
use Rattle.c_typed.specs.Roots.{broken_root}
use Rattle.c_typed.specs.Trees.{Program}
use Rattle.c_typed.specs.declared.program.RootKind.{RootKind}
use Rattle.call_graph.specs.Copies.{AreCopies, IsDepth, HasDepth, name_at, root_of}
use Rattle.call_graph.specs.Levels.{IsAcyclic, IsLongest}
use Rattle.call_graph.specs.declared.types.FnCopy.{FnCopy}
use Rattle.pic_world.specs.declared.Root.TheVariants as root
use Rattle.code_place.specs.Pages.{addresses, AreInMemory, PassesMemory}
use Rattle.program_code.specs.Stated.{sizes}
use Rattle.ram_place.specs.Placement.{whole_below, LacksObjectIn, LacksFrameIn}
use Rattle.type_rules.specs.Faults as rule
use Rattle.type_rules.specs.Faults.{Fault}
use Rattle.picc_core.specs.Accepted.{FitsStack, FitsMemoryBelow, IsRecursive, IsFirstOver}
use Rattle.picc_core.specs.Answers.{First, IsRefusedBy, TellsBy}
use Rattle.picc_core.specs.Decided.{IsAcceptedBy, SayTheSame, HasOneAnswerBy}
use Rattle.picc_core.specs.Limits.{AreAcceptedWithin, IsFirstRefusalWithin, NoneIsOver, PassesWords}
use Rattle.picc_core.specs.Texts.{HasTree, HasNoTree, program_tokens}
use Rattle.picc_core.specs.Typed.{IsMistyped}
use Rattle.picc_core.specs.declared.limits.Limits.{Limits}
use Rattle.picc_core.specs.declared.refusal.CompileError.TheVariants.{Refused}
use Rattle.picc_core.specs.declared.refusal.Refusal.{Refusal}
use Rattle.picc_core.specs.declared.refusal.Refusal.TheVariants.{Lex, Word, Directive, Syntax, Typing, Recursion, Roots, Depth, Ram, Code, Page, Limit}
use Rattle.picc_core.proofs.FewFunctions.{few_functions}
use Rattle.picc_core.proofs.OneTyping.{one_typing}
use Rattle.picc_core.proofs.OnlyBlocks.{one_order, one_sum, one_over}
use Rattle.picc_core.proofs.OnlyCopies.{one_copies}
use Rattle.picc_core.proofs.OnlyPlaces.{none_without, one_without}
use Rattle.picc_core.proofs.Telling.{told_first}
use Rattle.picc_core.proofs.Trees.{typed_tree, mistyped_tree, refused_tree}

-- ---- roots, recursion and the return stack
some_kind : (o : Option RootKind) (kind : RootKind) → o ≡ None → o ≡ Some kind → ⊥
some_kind o kind none some = let both = sym none ∙ some in cc

one_kind : (o : Option RootKind) (kind also : RootKind) → o ≡ Some kind → o ≡ Some also → kind ≡ also
one_kind o kind also first second = let both = sym first ∙ second in cc

never_recursive : (p : Program) (name : List ℕ) → IsAcyclic (graph_of p) → IsRecursive p name → ⊥
never_recursive p name acyclic is = let first = is.first in acyclic is.number first.reaches_itself

one_recursive : (p : Program) (name other : List ℕ) → IsRecursive p name → IsRecursive p other → name ≡ other
one_recursive p name other here there =
    let one = here.first in
    let two = there.first in
    let same : here.number ≡ there.number =
    ⊎_elim (λ l. absurd (two.none_before here.number l one.reaches_itself)) (λ m. ⊎_elim (λ l. absurd (one.none_before there.number l two.reaches_itself)) (λ k. omega (arith, m, k)) (cases_lt there.number here.number))
    (cases_lt here.number there.number) in
    here.named ∙ ap (name_at p) same ∙ sym there.named

longest_once : (graph : List (List ℕ)) (from m n : ℕ) → IsLongest graph from m → IsLongest graph from n → m ≡ n
longest_once graph from m n here there =
    let one = here.some in
    let two = there.some in
    let low = there.most one.0 one.1 one.2 one.3 in
    let high = here.most two.0 two.1 two.2 two.3 in
    let first = one.4 in
    let second = two.4 in
    omega (arith, low, high, first, second)

depth_once : (graph : List (List ℕ)) (main handler : Option ℕ) (m n : ℕ) → IsDepth graph main handler m → IsDepth graph main handler n → m ≡ n
depth_once graph None handler m n here there = absurd here
depth_once graph (Some main) None m n here there = longest_once graph main m n here there
depth_once graph (Some main) (Some handler) m n (a, b, one, two, is) (c, d, three, four, also) =
    let first = longest_once graph main a c one three in
    let second = longest_once graph handler b d two four in
    omega (arith, first, second, is, also)

one_depth : (p : Program) (m n : ℕ) → HasDepth p m → HasDepth p n → m ≡ n
one_depth p m n here there = depth_once (graph_of p) (root_of p root.Main) (root_of p root.Isr) m n here there

never_deep : (p : Program) (depth : ℕ) → FitsStack p → HasDepth p depth × (8 < depth) → ⊥
never_deep p depth stack deep = let same = one_depth p depth stack.depth deep.0 stack.exact in let low = stack.within in let high = deep.1 in omega (arith, same, low, high)

-- ---- data memory
module _ (limits : Limits) (p : Program) where
  abbrev Lacks : List FnCopy → List ℕ → Type 0
  Lacks copies name = LacksObjectIn (whole_below p limits.top_of_memory) p name ⊎ LacksFrameIn (whole_below p limits.top_of_memory) p copies name

  never_lacks : (copies others : List FnCopy) (name : List ℕ) → AreCopies p copies → AreCopies p others → FitsMemoryBelow limits.top_of_memory p copies → Lacks others name → ⊥
  never_lacks copies others name known also memory lacks =
      none_without limits.top_of_memory p copies name memory.objects memory.frames memory.placing (subst (λ (l : List FnCopy). Lacks l name) (one_copies p others copies also known) lacks)

  one_lacks : (copies others : List FnCopy) (name other : List ℕ) → AreCopies p copies → AreCopies p others → Lacks copies name → Lacks others other → name ≡ other
  one_lacks copies others name other known also here there =
      one_without limits.top_of_memory p copies name other here (subst (λ (l : List FnCopy). Lacks l other) (one_copies p others copies also known) there)

  -- ---- blocks
  never_over : (copies others : List FnCopy) (name : List ℕ) (words : ℕ) → AreCopies p copies → AreCopies p others → NoneIsOver limits.words_of_block p copies → IsFirstOver limits.words_of_block p others name words → ⊥
  never_over copies others name words known also none first =
      let moved = subst (λ (l : List FnCopy). IsFirstOver limits.words_of_block p l name words) (one_copies p others copies also known) first in
      none moved.number words moved.over

  over_once : (copies others : List FnCopy) (name other : List ℕ) (words more : ℕ) → AreCopies p copies → AreCopies p others → IsFirstOver limits.words_of_block p copies name words → IsFirstOver limits.words_of_block p others other more
      → (name ≡ other) × (words ≡ more)
  over_once copies others name other words more known also here there =
      one_over p copies limits.words_of_block name other words more here (subst (λ (l : List FnCopy). IsFirstOver limits.words_of_block p l other more) (one_copies p others copies also known) there)

  sum_once : (copies others : List FnCopy) (words more : ℕ) → AreCopies p copies → AreCopies p others → PassesWords limits p copies words → PassesWords limits p others more → words ≡ more
  sum_once copies others words more known also here there =
      let moved = subst (λ (l : List FnCopy). PassesWords limits p l more) (one_copies p others copies also known) there in
      here.total ∙ one_sum p copies here.order moved.order here.in_order moved.in_order ∙ sym moved.total

  in_or_behind : (blocks : List ℕ) → AreInMemory (addresses blocks) → PassesMemory (addresses blocks) → ⊥
  in_or_behind blocks within (k, lt, high) = let low = within k lt in omega (arith, low, high)

  never_passes : (copies others : List FnCopy) (words : ℕ) → length p.functions ≤ 0x10000000 → AreCopies p others → AreAcceptedWithin limits p copies → PassesWords limits p others words → ⊥
  never_passes copies others words few also all passes =
      let known = all.accepted.accepted.known in
      let within = all.within in
      let moved = subst (λ (l : List FnCopy). PassesWords limits p l words) (one_copies p others copies also known) passes in
      ⊎_elim
      (λ over. in_or_behind (sizes p all.accepted.order) all.accepted.accepted.code
      (subst (λ (l : List FnCopy). PassesMemory (addresses (sizes p l))) (one_order p copies moved.order all.accepted.order few known moved.in_order all.accepted.accepted.in_order) over))
      (λ many. let same = one_sum p copies moved.order within.order moved.in_order within.in_order in let low = within.words in omega (arith, same, many, low))
      moved.passes

-- ---- a typed program
-- what is accepted has no first refusal
never_refused : (limits : Limits) (p : Program) (copies : List FnCopy) (r : Refusal) → length p.functions ≤ 0x10000000 → AreAcceptedWithin limits p copies → IsFirstRefusalWithin limits p r → ⊥
never_refused limits p copies (Lex line) few all is = is
never_refused limits p copies (Word line) few all is = is
never_refused limits p copies (Directive line) few all is = is
never_refused limits p copies (Syntax line) few all is = is
never_refused limits p copies (Typing kind line) few all is = is
never_refused limits p copies (Limit kind line) few all is = is
never_refused limits p copies (Roots kind) few all is = some_kind (broken_root p) kind all.accepted.accepted.roots is
never_refused limits p copies (Recursion name) few all is = never_recursive p name.items all.accepted.accepted.acyclic is.1
never_refused limits p copies (Depth depth) few all is = never_deep p depth all.accepted.accepted.stack (is.2, is.3)
never_refused limits p copies (Ram name) few all (others, known, lacks) = never_lacks limits p copies others name.items all.accepted.accepted.known known.known all.within.memory lacks
never_refused limits p copies (Page name words) few all (others, known, memory, over) = never_over limits p copies others name.items words all.accepted.accepted.known known.known all.within.blocks over
never_refused limits p copies (Code words) few all (others, known, memory, passes) = never_passes limits p copies others words few known.known all passes

-- the first refusal is one
module _ (limits : Limits) (p : Program) where
  beside_roots : (kind : RootKind) (s : Refusal) → IsFirstRefusalWithin limits p (Roots kind) → IsFirstRefusalWithin limits p s → SayTheSame (Roots kind) s
  beside_roots kind (Lex line) here there = absurd there
  beside_roots kind (Word line) here there = absurd there
  beside_roots kind (Directive line) here there = absurd there
  beside_roots kind (Syntax line) here there = absurd there
  beside_roots kind (Typing sort line) here there = absurd there
  beside_roots kind (Limit sort line) here there = absurd there
  beside_roots kind (Roots also) here there = one_kind (broken_root p) kind also here there
  beside_roots kind (Recursion other) here there = absurd (some_kind (broken_root p) kind there.0 here)
  beside_roots kind (Depth deep) here there = absurd (some_kind (broken_root p) kind there.0 here)
  beside_roots kind (Ram other) here (others, also, there) = absurd (some_kind (broken_root p) kind also.roots here)
  beside_roots kind (Page other more) here (others, also, room, there) = absurd (some_kind (broken_root p) kind also.roots here)
  beside_roots kind (Code more) here (others, also, room, there) = absurd (some_kind (broken_root p) kind also.roots here)

  beside_recursion : (name : Vec ℕ Global) (s : Refusal) → IsFirstRefusalWithin limits p (Recursion name) → IsFirstRefusalWithin limits p s → SayTheSame (Recursion name) s
  beside_recursion name (Lex line) here there = absurd there
  beside_recursion name (Word line) here there = absurd there
  beside_recursion name (Directive line) here there = absurd there
  beside_recursion name (Syntax line) here there = absurd there
  beside_recursion name (Typing sort line) here there = absurd there
  beside_recursion name (Limit sort line) here there = absurd there
  beside_recursion name (Roots also) here there = absurd (some_kind (broken_root p) also here.0 there)
  beside_recursion name (Recursion other) here there = one_recursive p name.items other.items here.1 there.1
  beside_recursion name (Depth deep) here there = absurd (never_recursive p name.items there.1 here.1)
  beside_recursion name (Ram other) here (others, also, there) = absurd (never_recursive p name.items also.acyclic here.1)
  beside_recursion name (Page other more) here (others, also, room, there) = absurd (never_recursive p name.items also.acyclic here.1)
  beside_recursion name (Code more) here (others, also, room, there) = absurd (never_recursive p name.items also.acyclic here.1)

  beside_depth : (depth : ℕ) (s : Refusal) → IsFirstRefusalWithin limits p (Depth depth) → IsFirstRefusalWithin limits p s → SayTheSame (Depth depth) s
  beside_depth depth (Lex line) here there = absurd there
  beside_depth depth (Word line) here there = absurd there
  beside_depth depth (Directive line) here there = absurd there
  beside_depth depth (Syntax line) here there = absurd there
  beside_depth depth (Typing sort line) here there = absurd there
  beside_depth depth (Limit sort line) here there = absurd there
  beside_depth depth (Roots also) here there = absurd (some_kind (broken_root p) also here.0 there)
  beside_depth depth (Recursion other) here there = absurd (never_recursive p other.items here.1 there.1)
  beside_depth depth (Depth deep) here there = one_depth p depth deep here.2 there.2
  beside_depth depth (Ram other) here (others, also, there) = absurd (never_deep p depth also.stack (here.2, here.3))
  beside_depth depth (Page other more) here (others, also, room, there) = absurd (never_deep p depth also.stack (here.2, here.3))
  beside_depth depth (Code more) here (others, also, room, there) = absurd (never_deep p depth also.stack (here.2, here.3))

  beside_ram : (name : Vec ℕ Global) (s : Refusal) → IsFirstRefusalWithin limits p (Ram name) → IsFirstRefusalWithin limits p s → SayTheSame (Ram name) s
  beside_ram name (Lex line) here there = absurd there
  beside_ram name (Word line) here there = absurd there
  beside_ram name (Directive line) here there = absurd there
  beside_ram name (Syntax line) here there = absurd there
  beside_ram name (Typing sort line) here there = absurd there
  beside_ram name (Limit sort line) here there = absurd there
  beside_ram name (Roots also) (copies, known, here) there = absurd (some_kind (broken_root p) also known.roots there)
  beside_ram name (Recursion other) (copies, known, here) there = absurd (never_recursive p other.items known.acyclic there.1)
  beside_ram name (Depth deep) (copies, known, here) there = absurd (never_deep p deep known.stack (there.2, there.3))
  beside_ram name (Ram other) (copies, known, here) (others, also, there) = one_lacks limits p copies others name.items other.items known.known also.known here there
  beside_ram name (Page other more) (copies, known, here) (others, also, room, there) = absurd (never_lacks limits p others copies name.items also.known known.known room here)
  beside_ram name (Code more) (copies, known, here) (others, also, room, there) = absurd (never_lacks limits p others copies name.items also.known known.known room here)

  beside_page : (name : Vec ℕ Global) (words : ℕ) (s : Refusal) → IsFirstRefusalWithin limits p (Page name words) → IsFirstRefusalWithin limits p s → SayTheSame (Page name words) s
  beside_page name words (Lex line) here there = absurd there
  beside_page name words (Word line) here there = absurd there
  beside_page name words (Directive line) here there = absurd there
  beside_page name words (Syntax line) here there = absurd there
  beside_page name words (Typing sort line) here there = absurd there
  beside_page name words (Limit sort line) here there = absurd there
  beside_page name words (Roots also) (copies, known, memory, here) there = absurd (some_kind (broken_root p) also known.roots there)
  beside_page name words (Recursion other) (copies, known, memory, here) there = absurd (never_recursive p other.items known.acyclic there.1)
  beside_page name words (Depth deep) (copies, known, memory, here) there = absurd (never_deep p deep known.stack (there.2, there.3))
  beside_page name words (Ram other) (copies, known, memory, here) (others, also, there) = absurd (never_lacks limits p copies others other.items known.known also.known memory there)
  beside_page name words (Page other more) (copies, known, memory, here) (others, also, room, there) = over_once limits p copies others name.items other.items words more known.known also.known here there
  beside_page name words (Code more) (copies, known, memory, here) (others, also, room, there) = absurd (never_over limits p others copies name.items words also.known known.known there.blocks here)

  beside_code : (words : ℕ) (s : Refusal) → IsFirstRefusalWithin limits p (Code words) → IsFirstRefusalWithin limits p s → SayTheSame (Code words) s
  beside_code words (Lex line) here there = absurd there
  beside_code words (Word line) here there = absurd there
  beside_code words (Directive line) here there = absurd there
  beside_code words (Syntax line) here there = absurd there
  beside_code words (Typing sort line) here there = absurd there
  beside_code words (Limit sort line) here there = absurd there
  beside_code words (Roots also) (copies, known, memory, here) there = absurd (some_kind (broken_root p) also known.roots there)
  beside_code words (Recursion other) (copies, known, memory, here) there = absurd (never_recursive p other.items known.acyclic there.1)
  beside_code words (Depth deep) (copies, known, memory, here) there = absurd (never_deep p deep known.stack (there.2, there.3))
  beside_code words (Ram other) (copies, known, memory, here) (others, also, there) = absurd (never_lacks limits p copies others other.items known.known also.known memory there)
  beside_code words (Page other more) (copies, known, memory, here) (others, also, room, there) = absurd (never_over limits p copies others other.items more known.known also.known here.blocks there)
  beside_code words (Code more) (copies, known, memory, here) (others, also, room, there) = sum_once limits p copies others words more known.known also.known here there

  one_first : (r s : Refusal) → IsFirstRefusalWithin limits p r → IsFirstRefusalWithin limits p s → SayTheSame r s
  one_first (Lex line) s here there = absurd here
  one_first (Word line) s here there = absurd here
  one_first (Directive line) s here there = absurd here
  one_first (Syntax line) s here there = absurd here
  one_first (Typing kind line) s here there = absurd here
  one_first (Limit kind line) s here there = absurd here
  one_first (Roots kind) s here there = beside_roots kind s here there
  one_first (Recursion name) s here there = beside_recursion name s here there
  one_first (Depth depth) s here there = beside_depth depth s here there
  one_first (Ram name) s here there = beside_ram name s here there
  one_first (Page name words) s here there = beside_page name words s here there
  one_first (Code words) s here there = beside_code words s here there

-- ---- a text
-- each kind of a broken rule is one of those that are told
abbrev told_kind : rule.Kind → Kind
told_kind rule.Name = kinds.Name
told_kind rule.Again = kinds.Again
told_kind rule.Declare = kinds.Declare
told_kind rule.Size = kinds.Size
told_kind rule.Incomplete = kinds.Incomplete
told_kind rule.Constant = kinds.Constant
told_kind rule.Initializer = kinds.Initializer
told_kind rule.Member = kinds.Member
told_kind rule.Call = kinds.Call
told_kind rule.Address = kinds.Address
told_kind rule.Assign = kinds.Assign
told_kind rule.Operand = kinds.Operand
told_kind rule.Convert = kinds.Convert
told_kind rule.Return = kinds.Return
told_kind rule.Jump = kinds.Jump

kind_back : (kind : Kind) → told_kind (kind_of kind) ≡ kind
kind_back kinds.Name = refl
kind_back kinds.Again = refl
kind_back kinds.Declare = refl
kind_back kinds.Size = refl
kind_back kinds.Incomplete = refl
kind_back kinds.Constant = refl
kind_back kinds.Initializer = refl
kind_back kinds.Member = refl
kind_back kinds.Call = refl
kind_back kinds.Address = refl
kind_back kinds.Assign = refl
kind_back kinds.Operand = refl
kind_back kinds.Convert = refl
kind_back kinds.Return = refl
kind_back kinds.Jump = refl

one_fault : (kind also : Kind) (line other : ℕ) → fault_of kind line ≡ fault_of also other → (kind ≡ also) × (line ≡ other)
one_fault kind also line other is = (sym (kind_back kind) ∙ ap (λ (f : Fault). told_kind f.kind) is ∙ kind_back also, ap (λ (f : Fault). f.line) is)

same_itself : (r : Refusal) → SayTheSame r r
same_itself (Lex line) = refl
same_itself (Word line) = refl
same_itself (Directive line) = refl
same_itself (Syntax line) = tt
same_itself (Typing kind line) = (refl, refl)
same_itself (Limit kind line) = (refl, refl)
same_itself (Roots kind) = refl
same_itself (Recursion name) = refl
same_itself (Depth depth) = refl
same_itself (Ram name) = refl
same_itself (Page name words) = (refl, refl)
same_itself (Code words) = refl

-- What is told of a text is said of its tokens, says that there is no tree, or which rule on types the tree breaks, or is of its program.
data IsOf (Is : First) (text : List ℕ) (r : Refusal) : Type 0 where
  Early : program_tokens text ≡ Err (Refused r) → IsOf Is text r
  Bare : (line : ℕ) → r ≡ Syntax line → HasNoTree text → IsOf Is text r
  Broken : (kind : Kind) (line : ℕ) → r ≡ Typing kind line → IsMistyped text (fault_of kind line) → IsOf Is text r
  Late : IsRefusedBy Is text r → IsOf Is text r

is_of : (Is : First) (text : List ℕ) (r : Refusal) → TellsBy Is text r → IsOf Is text r
is_of Is text (Lex line) tells = Early tells
is_of Is text (Word line) tells = Early tells
is_of Is text (Directive line) tells = Early tells
is_of Is text (Syntax line) tells = Bare line refl tells
is_of Is text (Typing kind line) tells = Broken kind line refl tells
is_of Is text (Limit kind line) tells = Early tells
is_of Is text (Roots kind) tells = Late tells
is_of Is text (Recursion name) tells = Late tells
is_of Is text (Depth depth) tells = Late tells
is_of Is text (Ram name) tells = Late tells
is_of Is text (Page name words) tells = Late tells
is_of Is text (Code words) tells = Late tells

module _ (limits : Limits) (text : List ℕ) where
  abbrev Is : First
  Is = IsFirstRefusalWithin limits

  late_same : (r s : Refusal) → IsRefusedBy Is text r → IsRefusedBy Is text s → SayTheSame r s
  late_same r s here there =
      let same = (one_typing text).program there.program here.program there.typed here.typed in
      one_first limits here.program r s here.first (subst (λ (p : Program). Is p s) same there.first)

  bare_same : (r s : Refusal) (line other : ℕ) → r ≡ Syntax line → s ≡ Syntax other → SayTheSame r s
  bare_same r s line other first second = subst (λ (x : Refusal). SayTheSame x s) (sym first) (subst (SayTheSame (Syntax line)) (sym second) tt)

  broken_same : (r s : Refusal) (kind also : Kind) (line other : ℕ) → r ≡ Typing kind line → s ≡ Typing also other → IsMistyped text (fault_of kind line) → IsMistyped text (fault_of also other) → SayTheSame r s
  broken_same r s kind also line other first second here there =
      subst (λ (x : Refusal). SayTheSame x s) (sym first)
      (subst (SayTheSame (Typing kind line)) (sym second) (one_fault kind also line other ((one_typing text).fault (fault_of kind line) (fault_of also other) here there)))

  same_told : (r s : Refusal) → TellsBy Is text r → TellsBy Is text s → IsOf Is text r → IsOf Is text s → SayTheSame r s
  same_told r s tells told (Early here) there = subst (SayTheSame r) (sym (told_first Is text r s here told)) (same_itself r)
  same_told r s tells told here (Early there) = subst (λ (x : Refusal). SayTheSame x s) (sym (told_first Is text s r there tells)) (same_itself s)
  same_told r s tells told (Bare line is none) (Bare other also lacks) = bare_same r s line other is also
  same_told r s tells told (Bare line is none) (Broken kind other also there) = absurd (none.none (mistyped_tree text (fault_of kind other) there))
  same_told r s tells told (Bare line is none) (Late there) = absurd (none.none (refused_tree text s there))
  same_told r s tells told (Broken kind line is here) (Bare other also lacks) = absurd (lacks.none (mistyped_tree text (fault_of kind line) here))
  same_told r s tells told (Broken kind line is here) (Broken sort other also there) = broken_same r s kind sort line other is also here there
  same_told r s tells told (Broken kind line is here) (Late there) = absurd ((one_typing text).either there.program (fault_of kind line) there.typed here)
  same_told r s tells told (Late here) (Bare other also lacks) = absurd (lacks.none (refused_tree text r here))
  same_told r s tells told (Late here) (Broken kind other also there) = absurd ((one_typing text).either here.program (fault_of kind other) here.typed there)
  same_told r s tells told (Late here) (Late there) = late_same r s here there

  -- what is accepted has a tree, whose typed program has no first refusal
  never_told : (r : Refusal) → (taken : IsAcceptedBy (AreAcceptedWithin limits) text) → IsOf Is text r → ⊥
  never_told r taken (Early here) = early (typed_tree text taken.program taken.typed)
    where
      early : HasTree text → ⊥
      early tree = let both = sym here ∙ tree.tokens in cc
  never_told r taken (Bare line is none) = none.none (typed_tree text taken.program taken.typed)
  never_told r taken (Broken kind line is here) = (one_typing text).either taken.program (fault_of kind line) taken.typed here
  never_told r taken (Late here) =
      let same = (one_typing text).program here.program taken.program here.typed taken.typed in
      never_refused limits taken.program taken.copies r (few_functions text taken.program taken.typed) taken.accepted (subst (λ (p : Program). Is p r) same here.first)

pub within_answer : (limits : Limits) (text : List ℕ) → HasOneAnswerBy (AreAcceptedWithin limits) (IsFirstRefusalWithin limits) text
within_answer limits text =
    record {
      either = λ r taken tells. never_told limits text r taken (is_of (IsFirstRefusalWithin limits) text r tells);
      refusal = λ r s tells told. same_told limits text r s tells told (is_of (IsFirstRefusalWithin limits) text r tells) (is_of (IsFirstRefusalWithin limits) text s told);
    }
