-- What declarators make of types declares no object.
use Rattle.std.proofs.Common.{ℕ, Bool, true, false, List, [], ◌∷◌}
use Rattle.c_typed.specs.declared.types.Qualified.{Qualified}
use Rattle.c_typed.specs.declared.types.Ty.{Ty}
use Rattle.c_typed.specs.declared.types.Ty.TheVariants.{Array}
use Rattle.type_rules.specs.Known.{Waiting, Whole, OneArray, TwoArrays, Never, Known}
use Rattle.type_rules.specs.Outlines.{Param, Made, ArrayMade, FunctionMade, Declared, ObjectDeclared, FunctionDeclared, Outline, array_or_part, array_behind, behind, outlined, pointer_outline, started, started_by, array_started, param_outlined, param_tests, param_rule, member_tests, member_rule}
use Rattle.type_rules.specs.Rows.{is_complete}
use Rattle.type_rules.specs.Specifiers.{Specified}
use Rattle.program_laws.specs.Named.{Held, Stays}
use Rattle.program_laws.proofs.Steps.{stays_given, stays_on, stays_tried}

-- ---- one suffix

array_or_stays : (whose : List ℕ) (b : Bool) (count : ℕ) (o : Outline) (element : Qualified) (known : Known) → Held whose known → Stays whose (array_or_part b count o element known)
array_or_stays whose false count o element known held = stays_given _ _ held
array_or_stays whose true count o element known held = stays_given _ _ held

array_behind_stays : (whose : List ℕ) (count : ℕ) (o : Outline) (declared : Declared) (known : Known) → Held whose known → Stays whose (array_behind count o declared known)
array_behind_stays whose count o (ObjectDeclared element) known held = array_or_stays whose (is_complete known element.ty) count o element known held
array_behind_stays whose count o (FunctionDeclared result params scope) known held = stays_given _ _ held

behind_stays : (whose : List ℕ) (m : Made) (o : Outline) (known : Known) → Held whose known → Stays whose (behind m o known)
behind_stays whose (ArrayMade count) o known held = array_behind_stays whose count o o.declared known held
behind_stays whose (FunctionMade params scope) o known held = stays_given _ _ held

-- ---- all suffixes

pub outlined_stays : (whose : List ℕ) (ms : List Made) (o : Outline) (known : Known) → Held whose known → Stays whose (outlined ms o known)
outlined_stays whose [] o known held = stays_given _ _ held
outlined_stays whose (m ∷ ms) o known held = stays_on _ _ _ (outlined_stays whose ms o known held)
    (λ inner k c. behind_stays whose m inner k c)

-- ---- parameters

pointer_outline_stays : (whose : List ℕ) (o : Outline) (declared : Declared) (known : Known) → Held whose known → Stays whose (pointer_outline o declared known)
pointer_outline_stays whose o (ObjectDeclared element) known held = stays_given _ _ held
pointer_outline_stays whose o (FunctionDeclared result params scope) known held = stays_given _ _ held

started_stays : (whose : List ℕ) (o : Outline) (whole : Qualified) (ty : Ty) (known : Known) → Held whose known → Stays whose (started o whole ty known)
started_stays whose o whole (Array row count size) known held = stays_given _ _ held
started_stays whose o whole _ known held = stays_given _ _ held

started_by_stays : (whose : List ℕ) (w : Waiting) (o : Outline) (whole : Qualified) (known : Known) → Held whose known → Stays whose (started_by w o whole known)
started_by_stays whose (OneArray n) o whole known held = stays_given _ _ held
started_by_stays whose Whole o whole known held = started_stays whose o whole whole.ty known held
started_by_stays whose (TwoArrays n m) o whole known held = started_stays whose o whole whole.ty known held
started_by_stays whose Never o whole known held = started_stays whose o whole whole.ty known held

array_started_stays : (whose : List ℕ) (o : Outline) (declared : Declared) (known : Known) → Held whose known → Stays whose (array_started o declared known)
array_started_stays whose o (ObjectDeclared ty) known held = started_by_stays whose o.waiting o ty known held
array_started_stays whose o (FunctionDeclared result params scope) known held = stays_given o known held

pub param_outlined_stays : (whose : List ℕ) (ms : List Made) (o : Outline) (known : Known) → Held whose known → Stays whose (param_outlined ms o known)
param_outlined_stays whose [] o known held = array_started_stays whose o o.declared known held
param_outlined_stays whose (ArrayMade count ∷ ms) o known held = stays_on _ _ _ (outlined_stays whose ms o known held)
    (λ element k c. pointer_outline_stays whose element element.declared k c)
param_outlined_stays whose (FunctionMade params scope ∷ ms) o known held = stays_on _ _ _ (outlined_stays whose ms o known held)
    (λ inner k c. behind_stays whose (FunctionMade params scope) inner k c)

pub param_stays : (whose : List ℕ) (before : List Param) (said : Specified) (o : Outline) (name : List ℕ) (line : ℕ) (known : Known) → Held whose known → Stays whose (param_rule before said o name line known)
param_stays whose before said o [] line known held = stays_tried _ (param_tests known [] o) line known _ (stays_given _ _ held)
param_stays whose before said o (b ∷ bs) line known held = stays_tried _ (param_tests known (b ∷ bs) o) line known _ (stays_given _ _ held)

pub member_stays : (whose : List ℕ) (number : ℕ) (o : Outline) (name : List ℕ) (line : ℕ) (known : Known) → Held whose known → Stays whose (member_rule number o name line known)
member_stays whose number o name line known held = stays_tried _ (member_tests known number name o) line known _ (stays_given _ _ held)
