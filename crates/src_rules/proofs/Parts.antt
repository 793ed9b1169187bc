-- The parts of a sound program.
use Rattle.std.proofs.Common.{◌≡◌, ℕ, ◌<◌, true, ◌&&◌, List, [], ◌∷◌, ◌++◌, length, Option, Some, None, refl, subst, arith}
use Rattle.std.proofs.lemmas.Bool.{and_parts, false≢true}
use Rattle.std.proofs.lemmas.List.Elements.{Contains-append_left, Contains-append_right}
use Rattle.std.proofs.lemmas.Option.{slice_get_within}
use Rattle.std.specs.List.{Contains}
use Rattle.std.specs.Prelude.{slice_get}
use Rattle.c_typed.specs.Calls.{calls, place_calls, arguments_calls, helper_calls, helper_for, difference_helper}
use Rattle.c_typed.specs.Chains.{graph_of, Calls}
use Rattle.c_typed.specs.Fits.{source_of, keeps_from, goes_to, returns_type, params_of, no_params, operand_standing, rule_holds, place_rule_holds, fits, place_fits, arguments_fit, Standing, Used, Pointed}
use Rattle.c_typed.specs.Sameness.{same_type, is_scalar}
use Rattle.c_typed.specs.Trees as tree
use Rattle.c_typed.specs.Trees.{Expression, Expressions, Place, Item, Statement, Statements, Arm, Arms, LastArm, VariableTree, FunctionTree, Program}
use Rattle.c_typed.specs.Types.{type_of, is_constant}
use Rattle.c_typed.specs.declared.calls.FnId.{FnId}
use Rattle.c_typed.specs.declared.calls.FnId.TheVariants.{User}
use Rattle.c_typed.specs.declared.types.Ty.{Ty}
use Rattle.src_rules.proofs.Values.{same_type_is}
use Rattle.src_rules.specs.Numbers.{HasNumbers, AllHaveNumbers, PlaceHasNumbers}
use Rattle.src_rules.specs.Parts.{GoesTo, IsExpressionOf, AreArgumentsOf, IsPlaceOf}
use Rattle.src_values.specs.Objects.{or_no_function, function_at}

-- the functions of a list are called by the function of this number
abbrev pub AreCalled : Program → ℕ → List FnId → Type 0
AreCalled p n xs = (g : ℕ) → Contains xs (User g) → Calls (graph_of p) n g

pub left_called : (p : Program) (n : ℕ) (xs ys : List FnId) → AreCalled p n (xs ++ ys) → AreCalled p n xs
left_called p n xs ys h g c = h g (Contains-append_left xs ys (User g) c)

pub right_called : (p : Program) (n : ℕ) (xs ys : List FnId) → AreCalled p n (xs ++ ys) → AreCalled p n ys
right_called p n xs ys h g c = h g (Contains-append_right xs ys (User g) c)

pub goes : (p : Program) (e : Expression) (to : Ty) → goes_to p (source_of e) (type_of e) to ≡ true → GoesTo e to
goes p e to h = let g = and_parts (is_scalar to) (same_type (type_of e) to && keeps_from p (source_of e) to) h in (same_type_is (type_of e) to (and_parts (same_type (type_of e) to) (keeps_from p (source_of e) to) g.1).0, g.0)

no_params_is : (vs : List VariableTree) → no_params vs ≡ true → vs ≡ []
no_params_is [] e = refl
no_params_is (v ∷ vs) e = absurd (false≢true e)

returned : (p : Program) (g : ℕ) (ty : Ty) (o : Option FunctionTree) → slice_get p.functions g ≡ o → returns_type o ty ≡ true → (g < length p.functions) × ((or_no_function o).result ≡ ty)
returned p g ty None is e = absurd (false≢true e)
returned p g ty (Some f) is e = (slice_get_within p.functions g f is, same_type_is f.result ty e)

same_params : (o : Option FunctionTree) → params_of o ≡ (or_no_function o).params
same_params None = refl
same_params (Some f) = refl

first_called : (p : Program) (n g : ℕ) (xs : List FnId) → AreCalled p n (xs ++ User g ∷ []) → Calls (graph_of p) n g
first_called p n g xs h = right_called p n xs (User g ∷ []) h g (0, omega arith, refl)

module _ (p : Program) (n : ℕ) where
  mutual
    unfolding fits calls rule_holds

    pub expression_is : (standing : Standing) (e : Expression) → fits p (function_at p n) standing e ≡ true → HasNumbers e → AreCalled p n (calls e) → IsExpressionOf p n e
    expression_is standing (tree.Constant value line) f h c = h
    expression_is standing (tree.Read place ty line) f h c = let g = and_parts (rule_holds p standing (tree.Read place ty line)) (place_fits p (function_at p n) place) f in ((standing, g.0), place_is place g.1 h c)
    expression_is standing (tree.Address place ty line) f h c = let g = and_parts (rule_holds p standing (tree.Address place ty line)) (place_fits p (function_at p n) place) f in ((standing, g.0), place_is place g.1 h c)
    expression_is standing (tree.Convert operand ty line) f h c = let g = and_parts (rule_holds p standing (tree.Convert operand ty line)) (fits p (function_at p n) Used operand) f in ((standing, g.0), expression_is Used operand g.1 h c)
    expression_is standing (tree.Cast operand ty line) f h c = let g = and_parts (rule_holds p standing (tree.Cast operand ty line)) (fits p (function_at p n) Used operand) f in ((standing, g.0), expression_is Used operand g.1 h c)
    expression_is standing (tree.Unary op operand ty line) f h c = let g = and_parts (rule_holds p standing (tree.Unary op operand ty line)) (fits p (function_at p n) Used operand) f in ((standing, g.0), expression_is Used operand g.1 h c)
    expression_is standing (tree.Binary op left right ty line) f h c =
        let g = and_parts (rule_holds p standing (tree.Binary op left right ty line)) (fits p (function_at p n) Used left && fits p (function_at p n) Used right) f in
        let d = and_parts (fits p (function_at p n) Used left) (fits p (function_at p n) Used right) g.1 in
        let both = left_called p n (calls left ++ calls right) (helper_calls (helper_for op (is_constant right) (type_of left))) c in
        ((standing, g.0), expression_is Used left d.0 h.0 (left_called p n (calls left) (calls right) both), expression_is Used right d.1 h.1 (right_called p n (calls left) (calls right) both))
    expression_is standing (tree.Offset op left right size ty line) f h c =
        let g = and_parts (rule_holds p standing (tree.Offset op left right size ty line)) (fits p (function_at p n) (operand_standing standing op) left && fits p (function_at p n) (operand_standing standing op) right) f in
        let d = and_parts (fits p (function_at p n) (operand_standing standing op) left) (fits p (function_at p n) (operand_standing standing op) right) g.1 in
        ((standing, g.0), expression_is (operand_standing standing op) left d.0 h.0 (left_called p n (calls left) (calls right) c), expression_is (operand_standing standing op) right d.1 h.1 (right_called p n (calls left) (calls right) c))
    expression_is standing (tree.Difference left right size line) f h c =
        let g = and_parts (rule_holds p standing (tree.Difference left right size line)) (fits p (function_at p n) Used left && fits p (function_at p n) Used right) f in
        let d = and_parts (fits p (function_at p n) Used left) (fits p (function_at p n) Used right) g.1 in
        let both = left_called p n (calls left ++ calls right) (helper_calls (difference_helper size)) c in
        ((standing, g.0), expression_is Used left d.0 h.0 (left_called p n (calls left) (calls right) both), expression_is Used right d.1 h.1 (right_called p n (calls left) (calls right) both))
    expression_is standing (tree.Logical op left right line) f h c =
        let g = and_parts (rule_holds p standing (tree.Logical op left right line)) (fits p (function_at p n) Used left && fits p (function_at p n) Used right) f in
        let d = and_parts (fits p (function_at p n) Used left) (fits p (function_at p n) Used right) g.1 in
        ((standing, g.0), expression_is Used left d.0 h.0 (left_called p n (calls left) (calls right) c), expression_is Used right d.1 h.1 (right_called p n (calls left) (calls right) c))
    expression_is standing (tree.Conditional condition chosen otherwise ty line) f h c =
        let g = and_parts (rule_holds p standing (tree.Conditional condition chosen otherwise ty line)) (fits p (function_at p n) Used condition && (fits p (function_at p n) Used chosen && fits p (function_at p n) Used otherwise)) f in
        let d = and_parts (fits p (function_at p n) Used condition) (fits p (function_at p n) Used chosen && fits p (function_at p n) Used otherwise) g.1 in
        let b = and_parts (fits p (function_at p n) Used chosen) (fits p (function_at p n) Used otherwise) d.1 in
        let front = left_called p n (calls condition ++ calls chosen) (calls otherwise) c in
        ((standing, g.0), expression_is Used condition d.0 h.0 (left_called p n (calls condition) (calls chosen) front), expression_is Used chosen b.0 h.1 (right_called p n (calls condition) (calls chosen) front), expression_is Used otherwise b.1 h.2 (right_called p n (calls condition ++ calls chosen) (calls otherwise) c))
    expression_is standing (tree.Comma left right ty line) f h c =
        let g = and_parts (rule_holds p standing (tree.Comma left right ty line)) (fits p (function_at p n) Used left && fits p (function_at p n) Used right) f in
        let d = and_parts (fits p (function_at p n) Used left) (fits p (function_at p n) Used right) g.1 in
        ((standing, g.0), expression_is Used left d.0 h.0 (left_called p n (calls left) (calls right) c), expression_is Used right d.1 h.1 (right_called p n (calls left) (calls right) c))
    expression_is standing (tree.Assign place value ty line) f h c =
        let g = and_parts (rule_holds p standing (tree.Assign place value ty line)) (place_fits p (function_at p n) place && fits p (function_at p n) Used value) f in
        let d = and_parts (place_fits p (function_at p n) place) (fits p (function_at p n) Used value) g.1 in
        ((standing, g.0), place_is place d.0 h.0 (left_called p n (place_calls place) (calls value) c), expression_is Used value d.1 h.1 (right_called p n (place_calls place) (calls value) c))
    expression_is standing (tree.StructAssign place from size line) f h c =
        let g = and_parts (rule_holds p standing (tree.StructAssign place from size line)) (place_fits p (function_at p n) place && place_fits p (function_at p n) from) f in
        let d = and_parts (place_fits p (function_at p n) place) (place_fits p (function_at p n) from) g.1 in
        ((standing, g.0), place_is place d.0 h.0 (left_called p n (place_calls place) (place_calls from) c), place_is from d.1 h.1 (right_called p n (place_calls place) (place_calls from) c))
    expression_is standing (tree.Update op place value operation size ty line) f h c =
        let g = and_parts (rule_holds p standing (tree.Update op place value operation size ty line)) (place_fits p (function_at p n) place && fits p (function_at p n) Used value) f in
        let d = and_parts (place_fits p (function_at p n) place) (fits p (function_at p n) Used value) g.1 in
        let both = left_called p n (place_calls place ++ calls value) (helper_calls (helper_for op (is_constant value) operation)) c in
        ((standing, g.0), place_is place d.0 h.0 (left_called p n (place_calls place) (calls value) both), expression_is Used value d.1 h.1 (right_called p n (place_calls place) (calls value) both))
    expression_is standing (tree.Step op place operation size ty line) f h c = let g = and_parts (rule_holds p standing (tree.Step op place operation size ty line)) (place_fits p (function_at p n) place) f in ((standing, g.0), place_is place g.1 h c)
    expression_is standing (tree.Call g arguments ty line) f h c =
        let d = and_parts (rule_holds p standing (tree.Call g arguments ty line)) (arguments_fit p (function_at p n) arguments (params_of (slice_get p.functions g))) f in
        let r = returned p g ty (slice_get p.functions g) refl d.0 in
        (first_called p n g (arguments_calls arguments) c, r.0, r.1, subst (AreArgumentsOf p n arguments) (same_params (slice_get p.functions g)) (arguments_are arguments (params_of (slice_get p.functions g)) d.1 h (left_called p n (arguments_calls arguments) (User g ∷ []) c)))

    pub place_is : (place : Place) → place_fits p (function_at p n) place ≡ true → PlaceHasNumbers place → AreCalled p n (place_calls place) → IsPlaceOf p n place
    place_is (tree.Name object ty line) f h c = f
    place_is (tree.Bit register number line) f h c = f
    place_is (tree.Member whole member offset ty line) f h c = let g = and_parts (place_rule_holds p (function_at p n) (tree.Member whole member offset ty line)) (place_fits p (function_at p n) whole) f in (g.0, place_is whole g.1 h c)
    place_is (tree.Deref pointer ty line) f h c = let g = and_parts (place_rule_holds p (function_at p n) (tree.Deref pointer ty line)) (fits p (function_at p n) Pointed pointer) f in (g.0, expression_is Pointed pointer g.1 h c)

    pub arguments_are : (es : Expressions) (vs : List VariableTree) → arguments_fit p (function_at p n) es vs ≡ true → AllHaveNumbers es → AreCalled p n (arguments_calls es) → AreArgumentsOf p n es vs
    arguments_are tree.NoExpression vs f h c = no_params_is vs f
    arguments_are (tree.AndExpression e es) [] f h c = absurd (false≢true f)
    arguments_are (tree.AndExpression e es) (v ∷ vs) f h c =
        let g = and_parts (goes_to p (source_of e) (type_of e) v.ty.ty) (fits p (function_at p n) Used e && arguments_fit p (function_at p n) es vs) f in
        let d = and_parts (fits p (function_at p n) Used e) (arguments_fit p (function_at p n) es vs) g.1 in
        (goes p e v.ty.ty g.0, expression_is Used e d.0 h.0 (left_called p n (calls e) (arguments_calls es) c), arguments_are es vs d.1 h.1 (right_called p n (calls e) (arguments_calls es) c))
