-- Suffixes, parameters and members: what the rules say step by step, as the calls answer it.
use Rattle.std.proofs.Common.{◌≡◌, ℕ, ◌+◌, ◌<◌, Bool, true, false, not, ◌||◌, List, [], ◌∷◌, ◌++◌, length, Option, Some, None, is_some, Result, Ok, Err, refl, sym, ap, subst, ◌∙◌, arith}
use Rattle.std.proofs.lemmas.Bool.{false≢true}
use Rattle.std.proofs.lemmas.Option.{same_Some}
use Rattle.c_typed.specs.Sameness.{is_void, is_struct}
use Rattle.c_typed.specs.declared.types.Qualified.{Qualified}
use Rattle.c_typed.specs.declared.types.Ty.{Ty}
use Rattle.c_typed.specs.declared.types.Ty.TheVariants as types
use Rattle.c_tables.specs.Answers.{Refuses}
use Rattle.c_tables.specs.declared.error.CheckError.{CheckError}
use Rattle.c_tables.specs.declared.error.CheckError.TheVariants as errors
use Rattle.type_rules.specs.Faults as kind
use Rattle.type_rules.specs.Faults.{Fault}
use Rattle.type_rules.specs.Known.{Waiting, Whole, OneArray, TwoArrays, Never, is_waiting, waits, Known, Rule, given, go_on, tried}
use Rattle.type_rules.specs.Names.{entry_of}
use Rattle.type_rules.specs.Outlines.{Param, Made, ArrayMade, FunctionMade, Declared, ObjectDeclared, FunctionDeclared, Outline, array_or_part, behind, started, started_by, array_started, outlined, pointer_outline, param_outlined, param_tests, bind_param, param_rule, member_tests, member_rule, is_again, is_function, object_type}
use Rattle.type_rules.specs.Rows.{plain, like, target_of, pointer_to, array_of, is_complete, fields_of, add_member}
use Rattle.type_rules.specs.Specifiers.{Specified}
use Rattle.c_outline.specs.Lists.{outermost, array_of_type, array_of_declared, by_array, waiting_element, pointer_instead}

-- ---- one rule behind another

pub refused_through : {A B : Type 0} (e : CheckError) (second : A → Rule B) (said : Result (A × Known) Fault) → Refuses e said → Refuses e (go_on second said)
refused_through errors.NoMemory second said h = h
refused_through (errors.Kind kind line) second said h = ap (go_on second) h

-- What follows what follows is what follows both.
pub go_on_both : {A B C : Type 0} (first : A → Rule B) (second : B → Rule C) (said : Result (A × Known) Fault) → go_on second (go_on first said) ≡ go_on (λ x known. go_on second (first x known)) said
go_on_both first second (Ok x) = refl
go_on_both first second (Err fault) = refl

given_same : {A : Type 0} (said : Result (A × Known) Fault) → said ≡ go_on (λ (x : A). given x) said
given_same (Ok x) = refl
given_same (Err fault) = refl

or_true : (b : Bool) → b || true ≡ true
or_true true = refl
or_true false = refl

-- ---- arrays and pointers that suffixes make

pub array_made : (count : ℕ) (o : Outline) (element ty : Qualified) (known after : Known) → array_of element count known ≡ Ok (ty, after) → array_or_part true count o element known ≡ Ok (record o { declared = ObjectDeclared ty; bad = o.bad || is_void element.ty }, after)
array_made count o element ty known after h = ap (go_on (λ (made : Qualified). given (record o { declared = ObjectDeclared made; bad = o.bad || is_void element.ty }))) h

pub array_refused : (count : ℕ) (o : Outline) (element : Qualified) (known : Known) (e : CheckError) → Refuses e (array_of element count known) → Refuses e (array_or_part true count o element known)
array_refused count o element known e h = refused_through e (λ (made : Qualified). given (record o { declared = ObjectDeclared made; bad = o.bad || is_void element.ty })) (array_of element count known) h

-- what isn't complete
pub part_made : (count : ℕ) (o : Outline) (element : Qualified) (known : Known) → o.declared ≡ ObjectDeclared element → array_or_part false count o element known ≡ Ok (record { declared = ObjectDeclared element; bad = o.bad || is_void element.ty; waiting = waits count o.waiting }, known)
part_made count o element known object = ap (λ (d : Declared). Ok (record { declared = d; bad = o.bad || is_void element.ty; waiting = waits count o.waiting }, known)) object

-- a parameter that is an array by the name of its type
none_is : {A : Type 0} {x : A} → None ≡ Some x → ⊥
none_is h = absurd (false≢true (ap is_some h))

whole_is : (o : Outline) (ty : Qualified) (known : Known) → started o ty ty.ty known ≡ by_array o (array_of_type ty.ty ty) known
whole_is o ty known = by_type ty.ty where
  by_type : (t : Ty) → started o ty t known ≡ by_array o (array_of_type t ty) known
  by_type types.Void = refl
  by_type (types.Int i) = refl
  by_type (types.Pointer row) = refl
  by_type (types.Array row count size) = refl
  by_type (types.Struct number) = refl

abbrev started_at : Waiting → Outline → Declared → Rule Outline
started_at w o (ObjectDeclared ty) = started_by w o ty
started_at w o (FunctionDeclared result params scope) = given o

start_is : (o : Outline) (d : Declared) (known : Known) → array_started o d known ≡ started_at o.waiting o d known
start_is o (ObjectDeclared ty) known = refl
start_is o (FunctionDeclared result params scope) known = refl

element_at : (w : Waiting) (o : Outline) (d : Declared) (element : Qualified) (known : Known) → waiting_element w d ≡ Some element → started_at w o d known ≡ pointer_instead o element known
element_at (OneArray n) o (ObjectDeclared ty) element known h = ap (λ (t : Qualified). pointer_instead o t known) (same_Some ty element h)
element_at (OneArray n) o (FunctionDeclared result params scope) element known h = absurd (none_is h)
element_at Whole o d element known h = absurd (none_is h)
element_at (TwoArrays n m) o d element known h = absurd (none_is h)
element_at Never o d element known h = absurd (none_is h)

array_at : (w : Waiting) (o : Outline) (d : Declared) (known : Known) → waiting_element w d ≡ None → started_at w o d known ≡ by_array o (array_of_declared d) known
array_at (OneArray n) o (ObjectDeclared ty) known h = absurd (none_is (sym h))
array_at (OneArray n) o (FunctionDeclared result params scope) known h = refl
array_at Whole o (ObjectDeclared ty) known h = whole_is o ty known
array_at Whole o (FunctionDeclared result params scope) known h = refl
array_at (TwoArrays n m) o (ObjectDeclared ty) known h = whole_is o ty known
array_at (TwoArrays n m) o (FunctionDeclared result params scope) known h = refl
array_at Never o (ObjectDeclared ty) known h = whole_is o ty known
array_at Never o (FunctionDeclared result params scope) known h = refl

pub element_started : (o : Outline) (d : Declared) (element : Qualified) (known : Known) → waiting_element o.waiting d ≡ Some element → array_started o d known ≡ pointer_instead o element known
element_started o d element known h = start_is o d known ∙ element_at o.waiting o d element known h

pub whole_started : (o : Outline) (d : Declared) (known : Known) → waiting_element o.waiting d ≡ None → array_started o d known ≡ by_array o (array_of_declared d) known
whole_started o d known h = start_is o d known ∙ array_at o.waiting o d known h

pub instead_made : (o : Outline) (element : Qualified) (ty : Ty) (known after : Known) → pointer_to element known ≡ Ok (ty, after) → pointer_instead o element known ≡ Ok (record o { declared = ObjectDeclared (plain ty); waiting = Whole }, after)
instead_made o element ty known after h = ap (go_on (λ (made : Ty). given (record o { declared = ObjectDeclared (plain made); waiting = Whole }))) h

pub instead_refused : (o : Outline) (element : Qualified) (known : Known) (e : CheckError) → Refuses e (pointer_to element known) → Refuses e (pointer_instead o element known)
instead_refused o element known e h = refused_through e (λ (made : Ty). given (record o { declared = ObjectDeclared (plain made); waiting = Whole })) (pointer_to element known) h

pub started_made : (o : Outline) (whole : Qualified) (row : ℕ) (ty : Ty) (known after : Known) → pointer_to (like whole (target_of known row).ty) known ≡ Ok (ty, after) → by_array o (Some (whole, row)) known ≡ Ok (record o { declared = ObjectDeclared (plain ty) }, after)
started_made o whole row ty known after h = ap (go_on (λ (made : Ty). given (record o { declared = ObjectDeclared (plain made) }))) h

pub started_refused : (o : Outline) (whole : Qualified) (row : ℕ) (known : Known) (e : CheckError) → Refuses e (pointer_to (like whole (target_of known row).ty) known) → Refuses e (by_array o (Some (whole, row)) known)
started_refused o whole row known e h = refused_through e (λ (made : Ty). given (record o { declared = ObjectDeclared (plain made) })) (pointer_to (like whole (target_of known row).ty) known) h

pub pointer_made : (o : Outline) (element : Qualified) (ty : Ty) (known after : Known) → pointer_to element known ≡ Ok (ty, after) → pointer_outline o (ObjectDeclared element) known ≡ Ok (record o { declared = ObjectDeclared (plain ty); bad = o.bad || is_void element.ty }, after)
pointer_made o element ty known after h = ap (go_on (λ (made : Ty). given (record o { declared = ObjectDeclared (plain made); bad = o.bad || is_void element.ty }))) h

pub pointer_refused : (o : Outline) (element : Qualified) (known : Known) (e : CheckError) → Refuses e (pointer_to element known) → Refuses e (pointer_outline o (ObjectDeclared element) known)
pointer_refused o element known e h = refused_through e (λ (made : Ty). given (record o { declared = ObjectDeclared (plain made); bad = o.bad || is_void element.ty })) (pointer_to element known) h

-- ---- suffixes, the last of which stands next to the type

outlined_last : (ms : List Made) (m : Made) (o : Outline) (known : Known) → outlined (ms ++ m ∷ []) o known ≡ go_on (outlined ms) (behind m o known)
outlined_last [] m o known = given_same (behind m o known)
outlined_last (x ∷ ms) m o known = ap (go_on (behind x)) (outlined_last ms m o known) ∙ go_on_both (outlined ms) (behind x) (behind m o known)

pub outlined_step : (all ms : List Made) (m : Made) (o made : Outline) (known after : Known) → all ≡ ms ++ m ∷ [] → behind m o known ≡ Ok (made, after) → outlined all o known ≡ outlined ms made after
outlined_step all ms m o made known after e h = ap (λ l. outlined l o known) e ∙ outlined_last ms m o known ∙ ap (go_on (outlined ms)) h

pub outlined_refused : (all ms : List Made) (m : Made) (o : Outline) (known : Known) (e : CheckError) → all ≡ ms ++ m ∷ [] → Refuses e (behind m o known) → Refuses e (outlined all o known)
outlined_refused all ms m o known e is h = subst (Refuses e) (sym (ap (λ l. outlined l o known) is ∙ outlined_last ms m o known)) (refused_through e (outlined ms) (behind m o known) h)

pub param_first : (m : Made) (ms : List Made) (o : Outline) (known : Known) → param_outlined (m ∷ ms) o known ≡ go_on (outermost m) (outlined ms o known)
param_first (ArrayMade count) ms o known = refl
param_first (FunctionMade params scope) ms o known = refl

param_last : (x : Made) (ms : List Made) (m : Made) (o : Outline) (known : Known) → param_outlined (x ∷ (ms ++ m ∷ [])) o known ≡ go_on (param_outlined (x ∷ ms)) (behind m o known)
param_last x ms m o known = param_first x (ms ++ m ∷ []) o known ∙ ap (go_on (outermost x)) (outlined_last ms m o known) ∙ go_on_both (outlined ms) (outermost x) (behind m o known) ∙ back (behind m o known) where
  back : (said : Result (Outline × Known) Fault) → go_on (λ a k. go_on (outermost x) (outlined ms a k)) said ≡ go_on (param_outlined (x ∷ ms)) said
  back (Ok y) = sym (param_first x ms y.0 y.1)
  back (Err fault) = refl

param_behind : (ms : List Made) (m : Made) (o : Outline) (known : Known) → 0 < length ms → param_outlined (ms ++ m ∷ []) o known ≡ go_on (param_outlined ms) (behind m o known)
param_behind [] m o known lt = absurd (omega (arith, lt))
param_behind (x ∷ ms) m o known lt = param_last x ms m o known

pub param_step : (all ms : List Made) (m : Made) (o made : Outline) (known after : Known) → 0 < length ms → all ≡ ms ++ m ∷ [] → behind m o known ≡ Ok (made, after) → param_outlined all o known ≡ param_outlined ms made after
param_step all ms m o made known after lt e h = ap (λ l. param_outlined l o known) e ∙ param_behind ms m o known lt ∙ ap (go_on (param_outlined ms)) h

pub param_refused : (all ms : List Made) (m : Made) (o : Outline) (known : Known) (e : CheckError) → 0 < length ms → all ≡ ms ++ m ∷ [] → Refuses e (behind m o known) → Refuses e (param_outlined all o known)
param_refused all ms m o known e lt is h = subst (Refuses e) (sym (ap (λ l. param_outlined l o known) is ∙ param_behind ms m o known lt)) (refused_through e (param_outlined ms) (behind m o known) h)

pub param_alone : (all ms : List Made) (m : Made) (o : Outline) (known : Known) → ms ≡ [] → all ≡ ms ++ m ∷ [] → param_outlined all o known ≡ outermost m o known
param_alone all ms m o known n e = ap (λ l. param_outlined l o known) (e ∙ ap (λ (l : List Made). l ++ m ∷ []) n) ∙ param_first m [] o known

-- ---- the tests of a parameter

pub param_again : (known : Known) (name : List ℕ) (o : Outline) (line : ℕ) → is_again known name ≡ true → tried (param_tests known name o) line known ≡ Err (record { kind = kind.Again; line = line })
param_again known name o line a = rw a

pub param_function : (known : Known) (name : List ℕ) (o : Outline) (line : ℕ) → is_again known name ≡ false → is_function o.declared ≡ true → tried (param_tests known name o) line known ≡ Err (record { kind = kind.Declare; line = line })
param_function known name o line a f = rw (a, f, or_true o.bad)

pub param_bad : (known : Known) (name : List ℕ) (o : Outline) (ty : Qualified) (line : ℕ) → is_again known name ≡ false → o.declared ≡ ObjectDeclared ty → o.bad || is_struct ty.ty ≡ true → tried (param_tests known name o) line known ≡ Err (record { kind = kind.Declare; line = line })
param_bad known name o ty line a d b = rw (a, d, b)

pub param_incomplete : (known : Known) (name : List ℕ) (o : Outline) (ty : Qualified) (line : ℕ) → is_again known name ≡ false → o.declared ≡ ObjectDeclared ty → o.bad || is_struct ty.ty ≡ false → is_waiting o.waiting || not (is_complete known ty.ty) ≡ true → tried (param_tests known name o) line known ≡ Err (record { kind = kind.Incomplete; line = line })
param_incomplete known name o ty line a d b i = rw (a, d, b, i)

pub param_good : (known : Known) (name : List ℕ) (o : Outline) (ty : Qualified) (line : ℕ) → is_again known name ≡ false → o.declared ≡ ObjectDeclared ty → o.bad || is_struct ty.ty ≡ false → is_waiting o.waiting || not (is_complete known ty.ty) ≡ false → tried (param_tests known name o) line known ≡ Ok (known, known)
param_good known name o ty line a d b i = rw (a, d, b, i)

-- ---- the tests of a member

pub member_again : (known : Known) (number : ℕ) (name : List ℕ) (o : Outline) (line : ℕ) → is_some (entry_of (fields_of known number) name) ≡ true → tried (member_tests known number name o) line known ≡ Err (record { kind = kind.Again; line = line })
member_again known number name o line a = rw a

pub member_function : (known : Known) (number : ℕ) (name : List ℕ) (o : Outline) (line : ℕ) → is_some (entry_of (fields_of known number) name) ≡ false → is_function o.declared ≡ true → tried (member_tests known number name o) line known ≡ Err (record { kind = kind.Declare; line = line })
member_function known number name o line a f = rw (a, f, or_true o.bad)

pub member_bad : (known : Known) (number : ℕ) (name : List ℕ) (o : Outline) (ty : Qualified) (line : ℕ) → is_some (entry_of (fields_of known number) name) ≡ false → o.declared ≡ ObjectDeclared ty → o.bad || ty.constant ≡ true → tried (member_tests known number name o) line known ≡ Err (record { kind = kind.Declare; line = line })
member_bad known number name o ty line a d b = rw (a, d, b)

pub member_incomplete : (known : Known) (number : ℕ) (name : List ℕ) (o : Outline) (ty : Qualified) (line : ℕ) → is_some (entry_of (fields_of known number) name) ≡ false → o.declared ≡ ObjectDeclared ty → o.bad || ty.constant ≡ false → is_waiting o.waiting || not (is_complete known ty.ty) ≡ true → tried (member_tests known number name o) line known ≡ Err (record { kind = kind.Incomplete; line = line })
member_incomplete known number name o ty line a d b i = rw (a, d, b, i)

pub member_good : (known : Known) (number : ℕ) (name : List ℕ) (o : Outline) (ty : Qualified) (line : ℕ) → is_some (entry_of (fields_of known number) name) ≡ false → o.declared ≡ ObjectDeclared ty → o.bad || ty.constant ≡ false → is_waiting o.waiting || not (is_complete known ty.ty) ≡ false → tried (member_tests known number name o) line known ≡ Ok (known, known)
member_good known number name o ty line a d b i = rw (a, d, b, i)

-- ---- a parameter and a member that stand

pub param_put : (before : List Param) (said : Specified) (o : Outline) (name : List ℕ) (line : ℕ) (ty : Qualified) (known after : Known) → tried (param_tests known name o) line known ≡ Ok (known, known) → ty ≡ object_type o.declared → bind_param name (length before) ty said.register known ≡ Ok (after, after) → param_rule before said o name line known ≡ Ok (before ++ record { name = name; ty = ty; fixed = said.register; line = line } ∷ [], after)
param_put before said o name line ty known after t e b = rw (t, e) (ap (go_on (λ (x : Known). given (before ++ record { name = name; ty = object_type o.declared; fixed = said.register; line = line } ∷ []))) (rw e at b))

pub param_untested : (before : List Param) (said : Specified) (o : Outline) (name : List ℕ) (line : ℕ) (known : Known) (e : CheckError) → Refuses e (tried (param_tests known name o) line known) → Refuses e (param_rule before said o name line known)
param_untested before said o name line known e h = refused_through e (λ (x : Known). rest_of) (tried (param_tests known name o) line known) h where
  rest_of : Rule (List Param)
  rest_of k = go_on (λ (x : Known). given (before ++ record { name = name; ty = object_type o.declared; fixed = said.register; line = line } ∷ [])) (bind_param name (length before) (object_type o.declared) said.register k)

pub param_unbound : (before : List Param) (said : Specified) (o : Outline) (name : List ℕ) (line : ℕ) (ty : Qualified) (known : Known) (e : CheckError) → tried (param_tests known name o) line known ≡ Ok (known, known) → ty ≡ object_type o.declared → Refuses e (bind_param name (length before) ty said.register known) → Refuses e (param_rule before said o name line known)
param_unbound before said o name line ty known e t is h = rw t (refused_through e (λ (x : Known). given (before ++ record { name = name; ty = object_type o.declared; fixed = said.register; line = line } ∷ [])) (bind_param name (length before) (object_type o.declared) said.register known) (rw is at h))

pub member_put : (number : ℕ) (o : Outline) (name : List ℕ) (line : ℕ) (known : Known) → tried (member_tests known number name o) line known ≡ Ok (known, known) → member_rule number o name line known ≡ add_member number name (object_type o.declared) known
member_put number o name line known t = rw t

pub member_untested : (number : ℕ) (o : Outline) (name : List ℕ) (line : ℕ) (known : Known) (e : CheckError) → Refuses e (tried (member_tests known number name o) line known) → Refuses e (member_rule number o name line known)
member_untested number o name line known e h = refused_through e (λ (x : Known). add_member number name (object_type o.declared)) (tried (member_tests known number name o) line known) h
