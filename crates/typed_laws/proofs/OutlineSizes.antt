-- What declarators make of types: of the parameters of a function that is declared there are no more than its lists have.
use Rattle.std.proofs.Common.{◌≡◌, ℕ, ◌+◌, ◌≤◌, Bool, true, false, List, [], ◌∷◌, length, refl, arith, length-append}
use Rattle.c_typed.specs.declared.types.Qualified.{Qualified}
use Rattle.c_typed.specs.declared.types.Ty.{Ty}
use Rattle.c_typed.specs.declared.types.Ty.TheVariants.{Array}
use Rattle.type_rules.specs.Known.{Waiting, Whole, OneArray, TwoArrays, Never, Scope, Known}
use Rattle.type_rules.specs.Outlines.{Param, Made, ArrayMade, FunctionMade, Declared, ObjectDeclared, FunctionDeclared, Outline, array_or_part, array_behind, function_behind, behind, outlined, pointer_outline, started, started_by, array_started, param_outlined, param_tests, param_rule, member_tests, member_rule}
use Rattle.type_rules.specs.Rows.{is_complete}
use Rattle.type_rules.specs.Specifiers.{Specified}
use Rattle.typed_laws.specs.Weights.{Met, held, Costs, nothing, made_params, all_params, outline_params}
use Rattle.typed_laws.proofs.StepSizes.{met_given, met_on, met_tried, met_kept, costs_more, only_kept}

-- ---- one suffix

array_or_met : (h : ℕ) (b : Bool) (count : ℕ) (o : Outline) (element : Qualified) (known : Known) → held known ≤ h → Met (Costs h (outline_params o) outline_params) (array_or_part b count o element known)
array_or_met h false count o element known within = met_given _ _ _ (record { light = omega arith; within = within })
array_or_met h true count o element known within = met_given _ _ _ (record { light = omega arith; within = within })

array_behind_met : (h count : ℕ) (o : Outline) (declared : Declared) (known : Known) → held known ≤ h → Met (Costs h (outline_params o) outline_params) (array_behind count o declared known)
array_behind_met h count o (ObjectDeclared element) known within = array_or_met h (is_complete known element.ty) count o element known within
array_behind_met h count o (FunctionDeclared result params scope) known within = met_given _ _ _ (record { light = omega arith; within = within })

function_params : (params : List Param) (scope : Scope) (o : Outline) (declared : Declared) → outline_params (function_behind params scope o declared) ≡ length params
function_params params scope o (ObjectDeclared result) = refl
function_params params scope o (FunctionDeclared result inner names) = refl

behind_met : (h : ℕ) (m : Made) (o : Outline) (known : Known) → held known ≤ h → Met (Costs h (made_params m + outline_params o) outline_params) (behind m o known)
behind_met h (ArrayMade count) o known within = costs_more h (outline_params o) (0 + outline_params o) outline_params _ (omega arith) (array_behind_met h count o o.declared known within)
behind_met h (FunctionMade params scope) o known within = met_given _ _ _ (record { light = omega (arith, function_params params scope o o.declared); within = within })

-- ---- all suffixes

pub outlined_met : (h : ℕ) (ms : List Made) (o : Outline) (known : Known) → held known ≤ h → Met (Costs h (all_params ms + outline_params o) outline_params) (outlined ms o known)
outlined_met h [] o known within = met_given _ _ _ (record { light = omega arith; within = within })
outlined_met h (m ∷ ms) o known within = met_on (Costs h (all_params ms + outline_params o) outline_params) _ _ _ (outlined_met h ms o known within)
    (λ inner k c. costs_more h (made_params m + outline_params inner) (all_params (m ∷ ms) + outline_params o) outline_params _ (omega arith) (behind_met h m inner k c.within))

-- ---- parameters

pointer_outline_met : (h : ℕ) (o : Outline) (declared : Declared) (known : Known) → held known ≤ h → Met (Costs h 0 nothing) (pointer_outline o declared known)
pointer_outline_met h o (ObjectDeclared element) known within = met_kept h _ _ within
pointer_outline_met h o (FunctionDeclared result params scope) known within = met_kept h _ _ within

started_met : (h : ℕ) (o : Outline) (whole : Qualified) (ty : Ty) (known : Known) → held known ≤ h → Met (Costs h 0 nothing) (started o whole ty known)
started_met h o whole (Array row count size) known within = met_kept h _ _ within
started_met h o whole _ known within = met_kept h _ _ within

started_by_met : (h : ℕ) (w : Waiting) (o : Outline) (whole : Qualified) (known : Known) → held known ≤ h → Met (Costs h 0 nothing) (started_by w o whole known)
started_by_met h (OneArray n) o whole known within = met_kept h _ _ within
started_by_met h Whole o whole known within = started_met h o whole whole.ty known within
started_by_met h (TwoArrays n m) o whole known within = started_met h o whole whole.ty known within
started_by_met h Never o whole known within = started_met h o whole whole.ty known within

array_started_met : (h : ℕ) (o : Outline) (declared : Declared) (known : Known) → held known ≤ h → Met (Costs h 0 nothing) (array_started o declared known)
array_started_met h o (ObjectDeclared ty) known within = started_by_met h o.waiting o ty known within
array_started_met h o (FunctionDeclared result params scope) known within = met_kept h o known within

pub param_outlined_met : (h : ℕ) (ms : List Made) (o : Outline) (known : Known) → held known ≤ h → Met (Costs h 0 nothing) (param_outlined ms o known)
param_outlined_met h [] o known within = array_started_met h o o.declared known within
param_outlined_met h (ArrayMade count ∷ ms) o known within = met_on (Costs h (all_params ms + outline_params o) outline_params) _ _ _ (outlined_met h ms o known within)
    (λ element k c. pointer_outline_met h element element.declared k c.within)
param_outlined_met h (FunctionMade params scope ∷ ms) o known within = met_on (Costs h (all_params ms + outline_params o) outline_params) _ _ _ (outlined_met h ms o known within)
    (λ inner k c. only_kept h (made_params (FunctionMade params scope) + outline_params inner) outline_params _ (behind_met h (FunctionMade params scope) inner k c.within))

-- A parameter is one more.
pub param_met : (h : ℕ) (before : List Param) (said : Specified) (o : Outline) (name : List ℕ) (line : ℕ) (known : Known) → held known ≤ h → Met (Costs h (length before + 1) length) (param_rule before said o name line known)
param_met h before said o [] line known within = met_tried _ (param_tests known [] o) line known _ (met_given _ _ _ (record { light = omega (arith, length-append {A = Param}); within = within }))
param_met h before said o (b ∷ bs) line known within = met_tried _ (param_tests known (b ∷ bs) o) line known _ (met_given _ _ _ (record { light = omega (arith, length-append {A = Param}); within = within }))

pub member_met : (h number : ℕ) (o : Outline) (name : List ℕ) (line : ℕ) (known : Known) → held known ≤ h → Met (Costs h 0 nothing) (member_rule number o name line known)
member_met h number o name line known within = met_tried _ (member_tests known number name o) line known _ (met_kept h _ _ within)
