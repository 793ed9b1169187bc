-- A helper that a node of a function calls has a copy under each root that reaches the function, so byte code may use it there.
use Rattle.std.proofs.Common.{◌≡◌, ℕ, ◌+◌, ◌<◌, Bool, true, false, ◌&&◌, ◌||◌, if◌then◌else◌, nat_eq, nat_lt, List, [], ◌∷◌, ◌++◌, length, map, replicate, get_or, Option, Some, None, slice_get, is_some, refl, sym, ap, ◌∙◌, subst}
use Rattle.std.proofs.lemmas.List.{get_or-map, get_or_append_left, length-map}
use Rattle.std.proofs.lemmas.Option.{same_Some, slice_get-get_or}
use Rattle.std.specs.List.{Contains, list_any}
use Rattle.c_ints.specs.Range.{bytes_of}
use Rattle.c_ints.specs.declared.operators.BinOp.{BinOp}
use Rattle.c_ints.specs.declared.operators.BinOp.TheVariants as ops
use Rattle.c_ints.specs.declared.types.IntTy.{IntTy}
use Rattle.c_ints.specs.declared.types.IntTy.TheVariants as int
use Rattle.c_typed.specs.Calls.{by_type, calls, difference_helper, helper_calls, helper_for, int_helper, place_calls, statements_calls}
use Rattle.c_typed.specs.Chains.{Calls, graph_of, helper_number, number_of, row_of}
use Rattle.c_typed.specs.Trees as tree
use Rattle.c_typed.specs.Trees.{Expression, Place, Program}
use Rattle.c_typed.specs.Types.{is_constant, type_of}
use Rattle.c_typed.specs.declared.calls.FnId.{FnId}
use Rattle.c_typed.specs.declared.calls.FnId.TheVariants as callee
use Rattle.c_typed.specs.declared.calls.Helper.{Helper}
use Rattle.c_typed.specs.declared.calls.Helper.TheVariants.{Mul2, Mul4, Divu2, Divs2, Remu2, Rems2, Divu4, Divs4, Remu4, Rems4, Shl2, Shru2, Shrs2, Shl4, Shru4, Shrs4}
use Rattle.c_typed.specs.declared.types.Ty.{Ty}
use Rattle.c_typed.specs.declared.types.Ty.TheVariants as types
use Rattle.call_graph.proofs.Ways.{chain_then}
use Rattle.call_graph.specs.Numbers.{copy_of, is_copy_of, is_helper}
use Rattle.lower_expr.specs.Lowering.{shifts_by_constant}
use Rattle.lower_expr.specs.Rows.{is_shift}
use Rattle.lower_stmt.specs.Programs.{calls_helper, core_of, function_at as function_under, may_use}
use Rattle.pic_world.specs.Roots.{same_root}
use Rattle.src_rules.specs.Standing.{IsReached}
use Rattle.src_values.specs.Objects.{function_at}
use Rattle.src_values.specs.declared.objects.CopyOf.{CopyOf}
use Rattle.lower_trace.specs.Lowering.{IsLowerable}
use Rattle.lower_trace.proofs.CodeLeft.{Scene, core_in, number}
use Rattle.lower_trace.proofs.Helped.{MayHelp}
use Rattle.lower_trace.proofs.Numbering.{function_there, numbered, roots_agree}
use Rattle.lower_trace.proofs.PartsOf.{Has, right_has}
use Rattle.lower_trace.proofs.Positions.{is_found}
use Rattle.lower_trace.proofs.Reaches.{any_in, helper_copied, member_contained}
use Rattle.lower_trace.proofs.Written.{both, nat_same, root_same, same_nat}

-- ---- calls of a list, as numbers
number_same : (n : ℕ) (h : Helper) (x : FnId) → is_helper h x ≡ true → number_of n x ≡ number_of n (callee.Helper h)
number_same n h (callee.User f) e = absurd (cc)
number_same n h (callee.Helper other) e = ap (λ k. n + k) (same_nat (helper_number other) (helper_number h) e)

map_contains : {A B : Type 0} (f : A → B) (xs : List A) (x : A) → Contains xs x → Contains (map f xs) (f x)
map_contains f xs x c = (c.0, rw (length-map xs f) c.1, get_or-map f xs c.0 x (f x) c.1 ∙ ap f c.2)

row_there : (p : Program) (f : ℕ) → f < length p.functions → get_or (graph_of p) f [] ≡ row_of (length p.functions) (function_at p f)
row_there p f l =
    let rows = map (row_of (length p.functions)) p.functions in
    let m : f < length rows = rw (length-map p.functions (row_of (length p.functions))) l in
    get_or_append_left rows (replicate 16 []) [] f m
    ∙ (get_or-map (row_of (length p.functions)) p.functions f (function_at p f) [] l
    ∙ ap (row_of (length p.functions)) (same_Some _ _ (sym (slice_get-get_or p.functions f (function_at p f) l) ∙ function_there p f l)))

some_is : {A : Type 0} (o : Option A) (x : A) → o ≡ Some x → is_some o ≡ true
some_is o x e = ap is_some e

-- ---- the helper of an operator
pub record HasHelper (o : Option Helper) : Type 0 where
  pub helper : Helper
  pub is : o ≡ Some helper

wide_helper : (a b c d : Helper) (ty : IntTy) → nat_lt 1 (bytes_of ty) ≡ true → HasHelper (by_type a b c d ty)
wide_helper a b c d int.Char e = absurd (cc)
wide_helper a b c d int.SChar e = absurd (cc)
wide_helper a b c d int.UChar e = absurd (cc)
wide_helper a b c d int.Short e = record { helper = a; is = refl }
wide_helper a b c d int.UShort e = record { helper = b; is = refl }
wide_helper a b c d int.Int e = record { helper = a; is = refl }
wide_helper a b c d int.UInt e = record { helper = b; is = refl }
wide_helper a b c d int.Long e = record { helper = c; is = refl }
wide_helper a b c d int.ULong e = record { helper = d; is = refl }

operator_helper : (op : BinOp) (ty : IntTy) → MayHelp op → nat_lt 1 (bytes_of ty) ≡ true → HasHelper (int_helper op false ty)
operator_helper ops.Mul ty h e = wide_helper Mul2 Mul2 Mul4 Mul4 ty e
operator_helper ops.Div ty h e = wide_helper Divs2 Divu2 Divs4 Divu4 ty e
operator_helper ops.Rem ty h e = wide_helper Rems2 Remu2 Rems4 Remu4 ty e
operator_helper ops.Shl ty h e = wide_helper Shl2 Shl2 Shl4 Shl4 ty e
operator_helper ops.Shr ty h e = wide_helper Shrs2 Shru2 Shrs4 Shru4 ty e
operator_helper _ ty h e = absurd h

-- a count that isn't constant, or no shift
same_helper : (op : BinOp) (constant : Bool) (ty : IntTy) → MayHelp op → (is_shift op && constant) ≡ false → int_helper op constant ty ≡ int_helper op false ty
same_helper ops.Mul constant ty h e = refl
same_helper ops.Div constant ty h e = refl
same_helper ops.Rem constant ty h e = refl
same_helper ops.Shl constant ty h e = ap (λ b. int_helper ops.Shl b ty) e
same_helper ops.Shr constant ty h e = ap (λ b. int_helper ops.Shr b ty) e
same_helper _ constant ty h e = absurd h

module _ (z : Scene) (given : IsLowerable z.program z.copies) where
  abbrev p : Program
  p = z.program

  -- the call is an edge of the graph ..
  helper_called : (c : CopyOf) → IsReached p c → (h : Helper) → list_any (is_helper h) (statements_calls (function_at p c.function).body) ≡ true → Calls (graph_of p) c.function (number_of (length p.functions) (callee.Helper h))
  helper_called c r h e =
      let n = length p.functions in
      let xs = statements_calls (function_at p c.function).body in
      let x = any_in (is_helper h) xs e in
      let there : Contains (map (number_of n) xs) (number_of n x.0) = map_contains (number_of n) xs x.0 (member_contained x.0 xs x.1) in
      rw (row_there p c.function r.there) (subst (λ k. Contains (map (number_of n) xs) k) (number_same n h x.0 x.2) there)

  -- .. so the helper has a copy
  copy_there : (c : CopyOf) → IsReached p c → (h : Helper) → list_any (is_helper h) (statements_calls (function_at p c.function).body) ≡ true → is_some (copy_of z.copies c.root h) ≡ true
  copy_there c r h e =
      let n = length p.functions in
      let edge = helper_called c r h e in
      let x = helper_copied p z.copies given.known given.acyclic c.root r.root h (roots_agree p c.root ∙ r.entered) (r.chain.0 ++ number_of n (callee.Helper h) ∷ []) (chain_then (graph_of p) r.root c.function (number_of n (callee.Helper h)) r.chain.0 r.chain.1 edge) in
      let passes : is_copy_of c.root h x.copy ≡ true =
      ap (λ q. same_root q c.root && is_helper h x.copy.function) x.under ∙ ap (λ g. same_root c.root c.root && is_helper h g) x.is
      ∙ both (same_root c.root c.root) (is_helper h (callee.Helper h)) (root_same c.root) (nat_same (helper_number h)) in
      let found = is_found (is_copy_of c.root h) z.copies x.copy x.among passes in
      some_is (copy_of z.copies c.root h) found.at found.is

  -- The function has a call of the helper: byte code may use it in each copy of the function.
  pub may_help : (c : CopyOf) → IsReached p c → (op : BinOp) (ty : IntTy) (h : Helper) → int_helper op false ty ≡ Some h → list_any (is_helper h) (statements_calls (function_at p c.function).body) ≡ true → (core_in z).program.helped (number z c) op ty ≡ true
  unfolding core_of
  may_help c r op ty h is e =
      let x = numbered p z.copies given.known given.acyclic c r in
      let n = number z c in
      ap (may_use p z.copies (slice_get z.copies n)) is
      ∙ ap (λ o. may_use p z.copies o (Some h)) x.there
      ∙ ap (λ g. calls_helper (function_under p g) h && is_some (copy_of z.copies x.copy.root h)) x.is
      ∙ ap (λ o. calls_helper o h && is_some (copy_of z.copies x.copy.root h)) (function_there p c.function r.there)
      ∙ ap (λ q. list_any (is_helper h) (statements_calls (function_at p c.function).body) && is_some (copy_of z.copies q h)) x.root
      ∙ both (list_any (is_helper h) (statements_calls (function_at p c.function).body)) (is_some (copy_of z.copies c.root h)) e (copy_there c r h e)

  listed : (h : Helper) (o : Option Helper) → o ≡ Some h → list_any (is_helper h) (helper_calls o) ≡ true
  listed h o e = ap (λ y. list_any (is_helper h) (helper_calls y)) e ∙ ap (λ b. b || false) (nat_same (helper_number h))

  -- ---- nodes
  pub binary_helped : (c : CopyOf) → IsReached p c → (op : BinOp) (left right : Expression) (ty : Ty) (line : ℕ) (t : IntTy) → MayHelp op → shifts_by_constant op right ≡ false → nat_lt 1 (bytes_of t) ≡ true → type_of left ≡ types.Int t
      → Has p c.function (calls (tree.Binary op left right ty line)) → (core_in z).program.helped (number z c) op t ≡ true
  unfolding calls
  binary_helped c r op left right ty line t may plain two is has =
      let h = operator_helper op t may two in
      let same : helper_for op (is_constant right) (type_of left) ≡ Some h.helper = ap (helper_for op (is_constant right)) is ∙ same_helper op (is_constant right) t may plain ∙ h.is in
      may_help c r op t h.helper h.is (right_has p c.function (calls left ++ calls right) (helper_calls (helper_for op (is_constant right) (type_of left))) has (is_helper h.helper) (listed h.helper (helper_for op (is_constant right) (type_of left)) same))

  pub update_helped : (c : CopyOf) → IsReached p c → (op : BinOp) (place : Place) (right : Expression) (t : IntTy) (size : ℕ) (ty : Ty) (line : ℕ) → MayHelp op → shifts_by_constant op right ≡ false → nat_lt 1 (bytes_of t) ≡ true
      → Has p c.function (calls (tree.Update op place right (types.Int t) size ty line)) → (core_in z).program.helped (number z c) op t ≡ true
  unfolding calls
  update_helped c r op place right t size ty line may plain two has =
      let h = operator_helper op t may two in
      let same : helper_for op (is_constant right) (types.Int t) ≡ Some h.helper = same_helper op (is_constant right) t may plain ∙ h.is in
      may_help c r op t h.helper h.is (right_has p c.function (place_calls place ++ calls right) (helper_calls (helper_for op (is_constant right) (types.Int t))) has (is_helper h.helper) (listed h.helper (helper_for op (is_constant right) (types.Int t)) same))

  -- a difference of pointers divides, but for elements of one byte
  pub difference_helped : (c : CopyOf) → IsReached p c → (left right : Expression) (size line : ℕ) → nat_eq size 1 ≡ false → Has p c.function (calls (tree.Difference left right size line)) → (core_in z).program.helped (number z c) ops.Div int.Int ≡ true
  unfolding calls
  difference_helped c r left right size line other has =
      let same : difference_helper size ≡ Some Divs2 = ap (λ (b : Bool). if b then None else Some Divs2) other in
      may_help c r ops.Div int.Int Divs2 refl (right_has p c.function (calls left ++ calls right) (helper_calls (difference_helper size)) has (is_helper Divs2) (listed Divs2 (difference_helper size) same))
