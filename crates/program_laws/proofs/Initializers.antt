-- Initializers declare nothing.
use Rattle.std.proofs.Common.{ℕ, suc, Bool, true, false, if◌then◌else◌, not, ◌&&◌, nat_eq, nat_lt, List, [], ◌∷◌, length, Option, Some, None}
use Rattle.c_nodes.specs.Programs as tree
use Rattle.c_nodes.specs.Programs.{InitTree, MoreInits}
use Rattle.c_nodes.specs.Words.{Symbol}
use Rattle.c_typed.specs.Sameness.{same_type, is_scalar}
use Rattle.c_typed.specs.Trees as typed
use Rattle.c_typed.specs.Types.{type_of}
use Rattle.c_typed.specs.declared.types.Ty.{Ty}
use Rattle.c_typed.specs.declared.types.Ty.TheVariants.{Void, Int, Pointer, Array, Struct}
use Rattle.type_rules.specs.Conversions.{may_be_assigned, assigned}
use Rattle.type_rules.specs.Faults as kind
use Rattle.type_rules.specs.Initializers.{value_rule, text_rule, items_in, has_more, begins, more_begins}
use Rattle.type_rules.specs.Known.{Known, Rule, given, go_on}
use Rattle.type_rules.specs.Slots.{Slot, Begun, part, static_address, begin_pointer, begin_static, with_item, begin_structure, begin_local, value_line, begin_value, text_of, char_array, static_text, refused_text, begin_text_by}
use Rattle.type_rules.specs.Terms.{Operand, side_of}
use Rattle.type_rules.specs.Writes.{structure_read}
use Rattle.program_laws.specs.Named.{Held, Stays}
use Rattle.program_laws.proofs.Enumerators.{number_stays}
use Rattle.program_laws.proofs.Expressions.{value_of_stays}
use Rattle.program_laws.proofs.Steps.{stays_given, stays_broken, stays_on, stays_tried, stays_wanted, stays_if}
use Rattle.program_laws.proofs.Values.{assigned_stays}

module _ (whose : List ℕ) (x : Operand) (b : Begun) (known : Known) (held : Held whose known) where
  pointer_by : (null : Bool) (rest : Rule Begun) → Stays whose (rest known) → Stays whose ((if null then given b else rest) known)
  pointer_by true rest g = stays_given _ _ held
  pointer_by false rest g = g

  pointer_stays : (slot : Slot) (line : ℕ) → Stays whose (begin_pointer slot x line b known)
  pointer_stays slot line = pointer_by x.null _ (stays_wanted _ kind.Initializer x.line (static_address x.value) known _
      (λ number. stays_tried _ ((not (may_be_assigned known (side_of x) (slot.ty).ty), kind.Convert) ∷ []) line known _ (stays_given _ _ held)))

  static_stays : (ty : Ty) (slot : Slot) (line : ℕ) → Stays whose (begin_static ty slot x line b known)
  static_stays (Int i) slot line = stays_on _ _ _ (number_stays whose x known held) (λ v k c. stays_given _ _ c)
  static_stays (Pointer row) slot line = pointer_stays slot line
  static_stays _ slot line = stays_broken _ _ _

  structure_stays : (slot : Slot) → Stays whose (begin_structure slot x b known)
  structure_stays slot = stays_tried _ ((not (same_type (type_of x.value) (slot.ty).ty), kind.Initializer) ∷ []) x.line known _ (stays_wanted _ kind.Initializer x.line (structure_read x.value) known _ (λ from. stays_given _ _ held))

  scalar_stays : (ty : Ty) (slot : Slot) (line : ℕ) → Stays whose (go_on (λ value. given (with_item (typed.Scalar slot.offset value) b)) (assigned x ty line known))
  scalar_stays ty slot line = stays_on _ _ (λ value. given (with_item (typed.Scalar slot.offset value) b)) (assigned_stays whose x ty line known held) (λ value k c. stays_given _ _ c)

  local_stays : (ty : Ty) (slot : Slot) (line : ℕ) → Stays whose (begin_local ty slot x line b known)
  local_stays (Struct number) slot line = structure_stays slot
  local_stays (Array row count size) slot line = stays_broken _ _ _
  local_stays Void slot line = scalar_stays Void slot line
  local_stays (Int i) slot line = scalar_stays (Int i) slot line
  local_stays (Pointer row) slot line = scalar_stays (Pointer row) slot line

  either_stays : (static_object : Bool) (first second : Rule Begun) → Stays whose (first known) → Stays whose (second known) → Stays whose ((if static_object then first else second) known)
  either_stays true first second f g = f
  either_stays false first second f g = g

  value_stays : (slot : Slot) (inside : Bool) → Stays whose (begin_value slot inside x b known)
  value_stays slot inside = either_stays b.static_object _ _ (static_stays (slot.ty).ty slot (value_line inside x.line b)) (local_stays (slot.ty).ty slot (value_line inside x.line b))

  value_rule_stays : (slot : Option Slot) (inside : Bool) → Stays whose (value_rule slot inside x b known)
  value_rule_stays None inside = stays_given _ _ held
  value_rule_stays (Some slot) inside = value_stays slot inside

-- ---- strings

static_text_stays : (whose : List ℕ) (ty : Ty) (line : ℕ) (known : Known) → Stays whose (static_text ty line known)
static_text_stays whose (Int i) line known = stays_broken _ _ _
static_text_stays whose _ line known = stays_broken _ _ _

refused_stays : (whose : List ℕ) (slot : Slot) (inside : Bool) (line : ℕ) (b : Begun) (known : Known) → Stays whose (refused_text slot inside line b known)
refused_stays whose slot inside line b known = stays_if _ (not (is_scalar (slot.ty).ty)) _ _ known (stays_broken _ _ _) (stays_if _ b.static_object _ _ known (static_text_stays whose (slot.ty).ty line known) (stays_broken _ _ _))

text_by_stays : (whose : List ℕ) (count : Option ℕ) (slot : Slot) (inside : Bool) (s : Symbol) (b : Begun) (known : Known) → Held whose known → Stays whose (begin_text_by count slot inside s b known)
text_by_stays whose (Some count) slot inside s b known held = stays_tried _ ((not (nat_eq count 0) && nat_lt count (length (text_of s.bytes)), kind.Initializer) ∷ []) s.line known _ (stays_given _ _ held)
text_by_stays whose None slot inside s b known held = refused_stays whose slot inside s.line b known

text_rule_stays : (whose : List ℕ) (slot : Option Slot) (inside : Bool) (s : Symbol) (b : Begun) (known : Known) → Held whose known → Stays whose (text_rule slot inside s b known)
text_rule_stays whose None inside s b known held = stays_given _ _ held
text_rule_stays whose (Some slot) inside s b known held = text_by_stays whose (char_array known (slot.ty).ty) slot inside s b known held

-- ---- lists

mutual
  unfolding begins more_begins

  pub begins_stays : (i : InitTree) (whose : List ℕ) (slot : Option Slot) (inside : Bool) (b : Begun) (known : Known) → Held whose known → Stays whose (begins i slot inside b known)
  begins_stays (tree.Value e) whose slot inside b known held = stays_on _ _ _ (value_of_stays e whose known held) (λ x k c. value_rule_stays whose x b k c slot inside)
  begins_stays (tree.Quoted s) whose slot inside b known held = text_rule_stays whose slot inside s b known held
  begins_stays (tree.Listed opening i is comma closing) whose slot inside b known held = stays_on _ _ _ (begins_stays i whose (part known slot 0) true b known held)
      (λ first k c. stays_on _ _ _ (more_begins_stays is whose slot 1 first k c)
      (λ all k2 c2. stays_tried _ ((has_more k2 slot (suc (items_in is)), kind.Initializer) ∷ []) opening k2 _ (stays_given _ _ c2)))

  more_begins_stays : (is : MoreInits) (whose : List ℕ) (slot : Option Slot) (n : ℕ) (b : Begun) (known : Known) → Held whose known → Stays whose (more_begins is slot n b known)
  more_begins_stays tree.NoInit whose slot n b known held = stays_given _ _ held
  more_begins_stays (tree.AndInit comma i is) whose slot n b known held = stays_on _ _ _ (begins_stays i whose (part known slot n) true b known held)
      (λ next k c. more_begins_stays is whose slot (suc n) next k c)
