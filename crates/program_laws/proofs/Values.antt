-- Values, conversions and operators declare nothing.
use Rattle.std.proofs.Common.{ℕ, false, not, ◌&&◌, List, [], ◌∷◌, Option, Some, None, nat_eq, length, is_some}
use Rattle.c_ints.specs.declared.operators.BinOp.{BinOp}
use Rattle.c_ints.specs.declared.operators.BinOp.TheVariants as binop
use Rattle.c_ints.specs.declared.operators.UnOp.{UnOp}
use Rattle.c_token.specs.declared.token.Punct.TheVariants as marks
use Rattle.c_token.specs.declared.token.TokKind.{TokKind}
use Rattle.c_token.specs.declared.token.TokKind.TheVariants as kinds
use Rattle.c_typed.specs.Sameness.{same_type, is_int, is_scalar}
use Rattle.c_typed.specs.Trees.{Place}
use Rattle.c_typed.specs.Trees as typed
use Rattle.c_typed.specs.Types.{type_of, place_type}
use Rattle.c_typed.specs.declared.expression.LogicalOp.{LogicalOp}
use Rattle.c_typed.specs.declared.expression.StepOp.{StepOp}
use Rattle.c_typed.specs.declared.types.Ty.{Ty}
use Rattle.c_typed.specs.declared.types.Ty.TheVariants.{Void, Int, Pointer, Array, Struct}
use Rattle.type_rules.specs.Conversions.{may_be_assigned, assigned, may_be_cast}
use Rattle.type_rules.specs.Faults as kind
use Rattle.type_rules.specs.Known.{Known, given, go_on}
use Rattle.type_rules.specs.Operations.{operation_of, binary_of}
use Rattle.type_rules.specs.Operators.{binary, logical, between_by, between, choice_type, choice, cast, arithmetic, negation}
use Rattle.type_rules.specs.Places.{pointed_type, object_pointed, dereference, keeps_place, before_index, element, address_of, address, member_in, member_of, member, pointed_member, size_of_type, measured, size_of_term}
use Rattle.type_rules.specs.Rows.{is_complete}
use Rattle.type_rules.specs.Terms.{Form, ValueForm, PlaceForm, FunctionForm, TypeForm, Operand, Term, side_of, value_term, as_term, as_operand, table_tests, value_at, in_place, value_in, used, is_addressable}
use Rattle.type_rules.specs.Writes.{written_place, structure_read, copy, simple_assignment, keeps_type, compound_assignment, assignment_by, sign_operator, assignment, counted, stepped, function_named, signature_in, definition_in, called, passed, call}
use Rattle.program_laws.specs.Named.{Held, Stays}
use Rattle.program_laws.proofs.Steps.{stays_given, stays_broken, stays_on, stays_tests, stays_tried, stays_wanted, stays_if}

module _ (whose : List ℕ) where
  pub assigned_stays : (x : Operand) (ty : Ty) (line : ℕ) (known : Known) → Held whose known → Stays whose (assigned x ty line known)
  assigned_stays x ty line known held = stays_tried _ ((not (may_be_assigned known (side_of x) ty), kind.Convert) ∷ []) line known _ (stays_given _ _ held)

  -- ---- the value of an expression

  value_at_stays : (place : Place) (ty : Ty) (line : ℕ) (known : Known) → Held whose known → Stays whose (value_at place ty line known)
  value_at_stays place (Array row count size) line known held = stays_given _ _ held
  value_at_stays place _ line known held = stays_given _ _ held

  pub value_in_stays : (t : Term) (form : Form) (known : Known) → Held whose known → Stays whose (value_in t form known)
  value_in_stays t (ValueForm value) known held = stays_given _ _ held
  value_in_stays t (PlaceForm place reach) known held = stays_on _ _ (λ value. given (as_operand t value (in_place place reach))) (value_at_stays place (place_type place).ty t.line known held) (λ value k g. stays_given _ _ g)
  value_in_stays t (FunctionForm number bare) known held = stays_broken _ _ _
  value_in_stays t TypeForm known held = stays_broken _ _ _

  pub used_stays : (t : Term) (known : Known) → Held whose known → Stays whose (used t known)
  used_stays t known held = stays_tried _ (table_tests t.form) t.line known _ (value_in_stays t t.form known held)

  -- ---- operators

  binary_stays : (op : BinOp) (x y : Operand) (known : Known) → Held whose known → Stays whose (binary op x y known)
  binary_stays op x y known held = stays_wanted _ kind.Operand x.start (operation_of known op (side_of x) (side_of y)) known _ (λ found. stays_given _ _ held)

  logical_stays : (op : LogicalOp) (x y : Operand) (known : Known) → Held whose known → Stays whose (logical op x y known)
  logical_stays op x y known held = stays_tried _ ((not (is_scalar (type_of x.value) && is_scalar (type_of y.value)), kind.Operand) ∷ []) x.start known _ (stays_given _ _ held)

  between_by_stays : (found : Option BinOp) (x y : Operand) (known : Known) → Held whose known → Stays whose (between_by found x y known)
  between_by_stays None x y known held = stays_broken _ _ _
  between_by_stays (Some op) x y known held = binary_stays op x y known held

  pub between_stays : (sign : TokKind) (x y : Operand) (known : Known) → Held whose known → Stays whose (between sign x y known)
  between_stays (kinds.Punct marks.And) x y known held = logical_stays _ x y known held
  between_stays (kinds.Punct marks.Or) x y known held = logical_stays _ x y known held
  between_stays (kinds.Punct marks.Comma) x y known held = stays_given _ _ held
  between_stays (kinds.Punct p) x y known held = between_by_stays (binary_of p) x y known held
  between_stays _ x y known held = stays_broken _ _ _

  pub choice_stays : (c x y : Operand) (known : Known) → Held whose known → Stays whose (choice c x y known)
  choice_stays c x y known held = stays_tried _ ((not (is_scalar (type_of c.value)), kind.Operand) ∷ []) c.start known _
      (stays_wanted _ kind.Operand c.start (choice_type known (side_of x) (side_of y) (type_of x.value) (type_of y.value)) known _ (λ ty. stays_given _ _ held))

  pub cast_stays : (ty : Ty) (x : Operand) (line : ℕ) (known : Known) → Held whose known → Stays whose (cast ty x line known)
  cast_stays ty x line known held = stays_tried _ ((not (may_be_cast (side_of x) ty), kind.Operand) ∷ []) line known _ (stays_given _ _ held)

  pub arithmetic_stays : (op : UnOp) (x : Operand) (line : ℕ) (known : Known) → Held whose known → Stays whose (arithmetic op x line known)
  arithmetic_stays op x line known held = stays_tried _ ((not (is_int (type_of x.value)), kind.Operand) ∷ []) line known _ (stays_given _ _ held)

  pub negation_stays : (x : Operand) (line : ℕ) (known : Known) → Held whose known → Stays whose (negation x line known)
  negation_stays x line known held = stays_tried _ ((not (is_scalar (type_of x.value)), kind.Operand) ∷ []) line known _ (stays_given _ _ held)

  -- ---- places

  pub dereference_stays : (x : Operand) (line : ℕ) (known : Known) → Held whose known → Stays whose (dereference x line known)
  dereference_stays x line known held = stays_wanted _ kind.Operand line (object_pointed known (type_of x.value)) known _ (λ ty. stays_given _ _ held)

  pub before_stays : (t : Term) (known : Known) → Held whose known → Stays whose (before_index t known)
  before_stays t known held = stays_if _ (keeps_place t.form) (given t) (λ k. go_on (λ x. given (as_term x)) (used t k)) known (stays_given _ _ held)
      (stays_on _ _ (λ x. given (as_term x)) (used_stays t known held) (λ x k g. stays_given _ _ g))

  pub element_stays : (whole index : Term) (known : Known) → Held whose known → Stays whose (element whole index known)
  element_stays whole index known held = stays_on _ _ _ (value_in_stays whole whole.form known held)
      (λ x k g. stays_on _ _ _ (value_in_stays index index.form k g)
      (λ y k2 g2. stays_wanted _ kind.Operand whole.start (operation_of k2 binop.Add (side_of x) (side_of y)) k2 _
      (λ found. stays_wanted _ kind.Operand whole.start (pointed_type k2 found.ty) k2 _ (λ ty. stays_given _ _ g2))))

  address_of_stays : (form : Form) (line : ℕ) (known : Known) → Held whose known → Stays whose (address_of form line known)
  address_of_stays (PlaceForm place reach) line known held = stays_tried _ ((not (is_addressable place reach), kind.Address) ∷ []) line known _ (stays_given _ _ held)
  address_of_stays (ValueForm value) line known held = stays_broken _ _ _
  address_of_stays (FunctionForm number bare) line known held = stays_broken _ _ _
  address_of_stays TypeForm line known held = stays_broken _ _ _

  pub address_stays : (t : Term) (line : ℕ) (known : Known) → Held whose known → Stays whose (address t line known)
  address_stays t line known held = stays_tried _ (table_tests t.form) t.line known _ (address_of_stays t.form line known held)

  member_of_stays : (form : Form) (name : List ℕ) (line : ℕ) (known : Known) → Held whose known → Stays whose (member_of form name line known)
  member_of_stays (PlaceForm place reach) name line known held = stays_wanted _ kind.Member line (member_in known (place_type place).ty name) known _ (λ found. stays_given _ _ held)
  member_of_stays (ValueForm value) name line known held = stays_broken _ _ _
  member_of_stays (FunctionForm number bare) name line known held = stays_broken _ _ _
  member_of_stays TypeForm name line known held = stays_broken _ _ _

  pub member_stays : (t : Term) (name : List ℕ) (line : ℕ) (known : Known) → Held whose known → Stays whose (member t name line known)
  member_stays t name line known held = stays_tried _ (table_tests t.form) t.line known _ (member_of_stays t.form name line known held)

  pub pointed_member_stays : (x : Operand) (name : List ℕ) (line : ℕ) (known : Known) → Held whose known → Stays whose (pointed_member x name line known)
  pointed_member_stays x name line known held = stays_wanted _ kind.Member line (object_pointed known (type_of x.value)) known _ (λ ty. stays_on _ _ _ (dereference_stays x line known held) (λ whole k g. member_stays whole name line k g))

  pub size_of_type_stays : (ty : Ty) (line : ℕ) (known : Known) → Held whose known → Stays whose (size_of_type ty line known)
  size_of_type_stays ty line known held = stays_tried _ ((not (is_complete known ty), kind.Incomplete) ∷ []) line known _ (stays_given _ _ held)

  pub size_of_term_stays : (t : Term) (line : ℕ) (known : Known) → Held whose known → Stays whose (size_of_term t line known)
  size_of_term_stays t line known held = stays_wanted _ kind.Operand line (measured t.form) known _ (λ ty. size_of_type_stays ty line known held)

  -- ---- assignments, `++` and `--`, and calls

  copy_stays : (place : Place) (x : Operand) (line : ℕ) (known : Known) → Held whose known → Stays whose (copy place x line known)
  copy_stays place x line known held = stays_tried _ ((not (same_type (type_of x.value) (place_type place).ty), kind.Convert) ∷ []) line known _ (stays_wanted _ kind.Convert line (structure_read x.value) known _ (λ from. stays_given _ _ held))

  scalar_stays : (ty : Ty) (place : Place) (x : Operand) (line : ℕ) (known : Known) → Held whose known → Stays whose (go_on (λ value. given (value_term (typed.Assign place value ty line) line)) (assigned x ty line known))
  scalar_stays ty place x line known held = stays_on _ _ _ (assigned_stays x ty line known held) (λ e k g. stays_given _ _ g)

  simple_stays : (ty : Ty) (place : Place) (x : Operand) (line : ℕ) (known : Known) → Held whose known → Stays whose (simple_assignment ty place x line known)
  simple_stays (Struct number) place x line known held = copy_stays place x line known held
  simple_stays Void place x line known held = scalar_stays Void place x line known held
  simple_stays (Int i) place x line known held = scalar_stays (Int i) place x line known held
  simple_stays (Pointer row) place x line known held = scalar_stays (Pointer row) place x line known held
  simple_stays (Array row count size) place x line known held = scalar_stays (Array row count size) place x line known held

  compound_stays : (op : BinOp) (place : Place) (x : Operand) (line : ℕ) (known : Known) → Held whose known → Stays whose (compound_assignment op place x line known)
  compound_stays op place x line known held = stays_wanted _ kind.Operand line (operation_of known op (record { ty = (place_type place).ty; null = false }) (side_of x)) known _
      (λ found. stays_tried _ ((not (keeps_type found.node (place_type place).ty found.ty), kind.Convert) ∷ []) line known _ (stays_given _ _ held))

  assignment_by_stays : (found : Option BinOp) (place : Place) (x : Operand) (line : ℕ) (known : Known) → Held whose known → Stays whose (assignment_by found place x line known)
  assignment_by_stays None place x line known held = simple_stays (place_type place).ty place x line known held
  assignment_by_stays (Some op) place x line known held = compound_stays op place x line known held

  pub assignment_stays : (sign : TokKind) (target : Term) (x : Operand) (known : Known) → Held whose known → Stays whose (assignment sign target x known)
  assignment_stays sign target x known held = stays_wanted _ kind.Assign target.start (written_place target.form) known _ (λ place. assignment_by_stays (sign_operator sign) place x target.start known held)

  pub stepped_stays : (op : StepOp) (t : Term) (line : ℕ) (known : Known) → Held whose known → Stays whose (stepped op t line known)
  stepped_stays op t line known held = stays_tried _ (table_tests t.form) t.line known _ (stays_wanted _ kind.Assign line (written_place t.form) known _
      (λ place. stays_wanted _ kind.Operand line (counted known (place_type place).ty) known _ (λ found. stays_given _ _ held)))

  pub called_stays : (t : Term) (known : Known) → Held whose known → Stays whose (called t known)
  called_stays t known held = stays_tried _ (table_tests t.form) t.line known _
      (stays_tests _ ((is_some (function_named t.form) && not (is_some (definition_in (signature_in known (function_named t.form)))), kind.Name) ∷ []) t.line known held)

  passed_stays : (xs : List Operand) (types : List Ty) (line : ℕ) (known : Known) → Held whose known → Stays whose (passed xs types line known)
  passed_stays [] types line known held = stays_given _ _ held
  passed_stays (x ∷ xs) [] line known held = stays_given _ _ held
  passed_stays (x ∷ xs) (ty ∷ types) line known held = stays_on _ _ _ (assigned_stays x ty line known held)
      (λ value k g. stays_on _ _ _ (passed_stays xs types line k g) (λ values k2 g2. stays_given _ _ g2))

  pub call_stays : (t : Term) (arguments : List Operand) (known : Known) → Held whose known → Stays whose (call t arguments known)
  call_stays t arguments known held = stays_wanted _ kind.Call t.start (signature_in known (function_named t.form)) known _ (λ s. stays_wanted _ kind.Name t.start s.definition known _
      (λ function. stays_tried _ ((not (nat_eq (length s.params) (length arguments)), kind.Call) ∷ []) t.start known _ (stays_on _ _ _ (passed_stays arguments s.params t.start known held) (λ values k g. stays_given _ _ g))))
