-- The numbers of variables' bytes that the pass is given are those of byte code.
use Rattle.std.proofs.Common.{◌≡◌, ℕ, zero, suc, ◌+◌, ◌≤◌, Bool, true, List, [], ◌∷◌, map, Option, Some, None, refl, ap, ◌∙◌, length, subst, arith}
use Rattle.std.specs.Prelude.{IfSome, slice_get, slice_index_or}
use Rattle.std.proofs.Math.Nat.{min-eq_left}
use mathlib.Core.Path.{fun_ext}
use Rattle.c_typed.specs.Nodes.{capped}
use Rattle.c_typed.specs.Room.{frame_size, variables_bytes}
use Rattle.c_typed.specs.Trees.{FunctionTree, Program}
use Rattle.c_typed.specs.Views.{program_of}
use Rattle.c_typed.specs.declared.calls.FnId.{FnId}
use Rattle.c_typed.specs.declared.calls.FnId.TheVariants as callees
use Rattle.c_typed.specs.declared.program.Typed.{Typed}
use Rattle.call_graph.specs.Numbers.{handler_at}
use Rattle.call_graph.specs.declared.types.FnCopy.{FnCopy}
use Rattle.code_place.specs.Layouts.{layout_of}
use Rattle.core_code.specs.declared.code.CoreProgram.{CoreProgram}
use Rattle.flow_facts.specs.Selects.{HasSelects}
use Rattle.headline_trace.proofs.Laid.{frame_few}
use Rattle.lean_pass.specs.Made.{IsAsGiven, IsLean, Kept}
use Rattle.lean_pass.specs.Views.{variables_of}
use Rattle.lower_stmt.specs.Programs.{core_of, size_or_none, function_at, function_in}
use Rattle.pic_map.specs.declared.Placed.{Placed}
use Rattle.program_code.specs.Joined.{IsJoined}
use Rattle.ram_place.specs.Sizes as sizes
use Rattle.isr_save.specs.Start.{HasNumberedBytes}
use Rattle.std.specs.List.{All, AllZip}
use Rattle.sym_code.specs.declared.code.SymBlock.{SymBlock}
use Rattle.sym_code.specs.declared.code.SymProgram.{SymProgram}
use Rattle.narrow_code.specs.Links.{is_lent}
use Rattle.narrow_pass.proofs.Taken.{all_lent}
use Rattle.narrow_pass.specs.Lent.{LendsOnly}
use Rattle.narrow_pass.specs.Narrowed.{lent_by}
use Rattle.program_code.proofs.Bodies.{as_lowered}
use Rattle.program_code.specs.Passed.{IsByteCode}
use Rattle.program_code.specs.Stated.{AreStated}
use Rattle.picc_core.specs.Coded.{IsLeanTo, IsLeanOf, AsGiven, Seen, IsSymbolic}
use Rattle.picc_core.specs.Founded.{IsFounded}

-- ---- lists
abbrev at_or : {A : Type 0} → (A → ℕ) → Option A → ℕ
at_or f None = 0
at_or f (Some x) = f x

map_or : {A : Type 0} (f : A → ℕ) (xs : List A) (k : ℕ) → slice_index_or (map f xs) k 0 ≡ at_or f (slice_get xs k)
map_or f [] k = refl
map_or f (x ∷ xs) zero = refl
map_or f (x ∷ xs) (suc k) = map_or f xs k

-- a count that is small is kept whole
capped_is : (n : ℕ) → n ≤ 96 → capped n ≡ n
capped_is n few = min-eq_left (omega (arith, few))

-- ---- bytes of variables
module _ (typed : Typed) (copies : List FnCopy) (placed : Placed) (at : List ℕ) (founded : IsFounded typed copies placed at) where
  abbrev p : Program
  p = program_of typed

  abbrev bytes : FnCopy → ℕ
  bytes copy = capped (sizes.variable_bytes p copy.function)

  abbrev both : FunctionTree → ℕ
  both f = variables_bytes p.sizes f.params + variables_bytes p.sizes f.locals

  -- the variables of a function fit its frame
  of_function : (f : FnId) → sizes.frame_bytes p f ≤ 96 → capped (sizes.variable_bytes p f) ≡ size_or_none both (function_at p f)
  of_function (callees.User number) few = by (slice_get p.functions number) few where
    by : (o : Option FunctionTree) → sizes.size_or_none (frame_size p.sizes) o ≤ 96 → capped (sizes.size_or_none both o) ≡ size_or_none both o
    by None few = refl
    by (Some f) few = capped_is (both f) (omega (arith, few))
  of_function (callees.Helper h) few = refl

  of_copy : (c : ℕ) (o : Option FnCopy) → slice_get copies c ≡ o → at_or bytes o ≡ size_or_none both (function_in p o)
  of_copy c None is = refl
  of_copy c (Some copy) is = of_function copy.function (frame_few p copies placed founded.spread.placing c copy is)

  variables_are : (list : List ℕ) → list ≡ map bytes copies → variables_of list ≡ (core_of p copies).variable_bytes
  unfolding core_of
  variables_are list is = fun_ext (λ c. ap (λ (l : List ℕ). slice_index_or l c 0) is ∙ map_or bytes copies c ∙ of_copy c (slice_get copies c) refl)

  -- what the pass gives, with its selects
  pub lean_to : (core : CoreProgram) (lent : List Bool) (list : List ℕ) (handler : Option ℕ) (given lean made : List SymBlock) → All (LendsOnly (is_lent (lent_by lent))) core.bodies.items → list ≡ map bytes copies → handler ≡ handler_at copies
      → IsLean (layout_of placed) handler (variables_of list) (is_lent (lent_by lent)) given lean → HasSelects placed handler at lean made → AreStated p copies made → IsLeanTo p core copies placed at given made
  lean_to core lent list handler given lean made lends is same leaner selects stated = record {
    lent = lent_by lent;
    lends = lends;
    lean = lean;
    leaner = subst (λ (v : ℕ → ℕ). IsLean (layout_of placed) (handler_at copies) v (is_lent (lent_by lent)) given lean) (variables_are list is) (subst (λ (h : Option ℕ). IsLean (layout_of placed) h (variables_of list) (is_lent (lent_by lent)) given lean) same leaner);
    selects = subst (λ (h : Option ℕ). HasSelects placed h at lean made) same selects;
    stated = stated;
  }

  -- the same, of lists that were lent
  pub lean_lent : (core : CoreProgram) (frames lent_frames : List Bool) (lent_copies : List FnCopy) (list lent_list : List ℕ) (handler : Option ℕ) (given lent_given lean made lent_made : List SymBlock) → All (LendsOnly (is_lent (lent_by frames))) core.bodies.items → lent_frames ≡ frames → lent_copies ≡ copies → list ≡ map bytes lent_copies → lent_list ≡ list
      → lent_given ≡ given → lent_made ≡ made → handler ≡ handler_at copies → IsLean (layout_of placed) handler (variables_of lent_list) (is_lent (lent_by lent_frames)) lent_given lean → HasSelects placed handler at lean made → AreStated p copies lent_made
      → IsLeanTo p core copies placed at given made
  lean_lent core frames lent_frames lent_copies list lent_list handler given lent_given lean made lent_made lends of_frames of_copies is of_list of_given of_made same leaner selects stated =
      lean_to core frames list handler given lean made lends (is ∙ ap (map bytes) of_copies) same
      (subst (λ (b : List Bool). IsLean (layout_of placed) handler (variables_of list) (is_lent (lent_by b)) given lean) of_frames
      (subst (λ (g : List SymBlock). IsLean (layout_of placed) handler (variables_of list) (is_lent (lent_by lent_frames)) g lean) of_given
      (subst (λ (l : List ℕ). IsLean (layout_of placed) handler (variables_of l) (is_lent (lent_by lent_frames)) lent_given lean) of_list leaner))) selects
      (subst (λ (m : List SymBlock). AreStated p copies m) of_made stated)

  -- ---- all that is known of the code
  -- leaner blocks of some byte code
  pub lean_of : (core : CoreProgram) (given : List SymBlock) (found : Option SymProgram) → IsJoined core copies given → IfSome found (λ m. IsLeanTo p core copies placed at given m.blocks.items) → IfSome found (λ m. IsLeanOf p core copies placed at m.blocks.items)
  lean_of core given None joined all = tt
  lean_of core given (Some made) joined is = record { given = given; joined = joined; is = is }

  symbolic_of : (lowered core : CoreProgram) (made : List SymBlock) → IsByteCode lowered core → IsLeanOf p core copies placed at made → IsSymbolic p lowered copies placed at made
  symbolic_of lowered core made code of = record { core = core; code = code; given = of.given; joined = of.joined; lent = of.is.lent; lends = of.is.lends; lean = of.is.lean; leaner = of.is.leaner; selects = of.is.selects; room = Seen of.is.stated }

  -- of byte code that goes by low bytes,
  pub from_low : (lowered core : CoreProgram) (found : Option SymProgram) → IsByteCode lowered core → IfSome found (λ m. IsLeanOf p core copies placed at m.blocks.items) → IfSome found (λ m. IsSymbolic p lowered copies placed at m.blocks.items)
  from_low lowered core None is all = tt
  from_low lowered core (Some made) is of = symbolic_of lowered core made.blocks.items is of

  -- what is found is such code
  pub some_symbolic : (lowered : CoreProgram) (found : Option SymProgram) (made : SymProgram) → IfSome found (λ m. IsSymbolic p lowered copies placed at m.blocks.items) → found ≡ Some made → IsSymbolic p lowered copies placed at made.blocks.items
  some_symbolic lowered found made all is = subst (λ (o : Option SymProgram). IfSome o (λ m. IsSymbolic p lowered copies placed at m.blocks.items)) is all

  -- and of byte code as it is lowered
  pub lowered_symbolic : (core : CoreProgram) (found : Option SymProgram) → IfSome found (λ m. IsLeanOf p core copies placed at m.blocks.items) → IfSome found (λ m. IsSymbolic p core copies placed at m.blocks.items)
  lowered_symbolic core None all = tt
  lowered_symbolic core (Some made) of = symbolic_of core core made.blocks.items (as_lowered core) of

  all_as_given : (blocks : List SymBlock) → AllZip IsAsGiven blocks blocks
  all_as_given [] = tt
  all_as_given (b ∷ blocks) = (record { name = refl; code = refl }, all_as_given blocks)

  -- as it was selected
  pub given_symbolic : (core : CoreProgram) (handler : Option ℕ) (given made : List SymBlock) → IsJoined core copies given → handler ≡ handler_at copies → HasSelects placed handler at given made → IsSymbolic p core copies placed at made
  given_symbolic core handler given made joined same selects = record {
    core = core;
    code = as_lowered core;
    given = given;
    joined = joined;
    lent = λ c. true;
    lends = all_lent core.bodies.items;
    lean = given;
    leaner = Kept (all_as_given given);
    selects = subst (λ (h : Option ℕ). HasSelects placed h at given made) same selects;
    room = AsGiven refl refl;
  }
