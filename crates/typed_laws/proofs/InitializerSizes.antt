-- Initializers: an item for each expression, and none for what no expression gives.
use Rattle.std.proofs.Common.{◌≡◌, ℕ, suc, ◌+◌, ◌*◌, ◌≤◌, Bool, true, false, not, ◌&&◌, if◌then◌else◌, nat_eq, nat_lt, List, [], ◌∷◌, ◌++◌, length, Option, Some, None, refl, arith, length-append}
use Rattle.c_nodes.specs.Programs as tree
use Rattle.c_nodes.specs.Programs.{InitTree, MoreInits, spelled_init, spelled_more_inits}
use Rattle.c_nodes.specs.Trees.{spelled}
use Rattle.c_nodes.specs.Words.{Symbol}
use Rattle.c_typed.specs.Sameness.{same_type, is_scalar}
use Rattle.c_typed.specs.TreeNodes.{nodes_in, items_nodes, item_nodes}
use Rattle.c_typed.specs.Trees as typed
use Rattle.c_typed.specs.Trees.{Item}
use Rattle.c_typed.specs.Types.{type_of}
use Rattle.c_typed.specs.declared.program.Initial.{Initial}
use Rattle.c_typed.specs.declared.types.Ty.{Ty}
use Rattle.c_typed.specs.declared.types.Ty.TheVariants.{Void, Int, Pointer, Array, Struct}
use Rattle.type_rules.specs.Conversions.{may_be_assigned, assigned}
use Rattle.type_rules.specs.Faults as kind
use Rattle.type_rules.specs.Initializers.{value_rule, text_rule, items_in, is_unsized, with_items, has_more, begins, more_begins}
use Rattle.type_rules.specs.Known.{Known, Rule, given, go_on}
use Rattle.type_rules.specs.Slots.{Slot, Begun, part, bytes_at, with_initial, static_address, begin_pointer, begin_static, with_item, begin_structure, begin_local, value_line, begin_value, text_of, char_array, text_size, with_count, with_text, static_text, refused_text, begin_text_by}
use Rattle.type_rules.specs.Terms.{Operand, side_of}
use Rattle.type_rules.specs.Writes.{structure_read}
use Rattle.typed_laws.specs.Weights.{Met, held, Costs, nothing, operand_nodes, begun_nodes}
use Rattle.typed_laws.proofs.EnumeratorSizes.{number_met}
use Rattle.typed_laws.proofs.ExpressionSizes.{value_of_met}
use Rattle.typed_laws.proofs.StepSizes.{met_given, met_broken, met_on, met_tried, met_wanted, costs_more}
use Rattle.typed_laws.proofs.ValueSizes.{assigned_met}
use Rattle.typed_laws.proofs.WriteSizes.{read_nodes}

-- one item more
pub last_item : (items : List Item) (item : Item) → items_nodes (items ++ item ∷ []) ≡ items_nodes items + item_nodes item
last_item [] item = omega arith
last_item (i ∷ is) item = omega (arith, last_item is item)

-- ---- values

module _ (h n : ℕ) (x : Operand) (b : Begun) (known : Known) (light : operand_nodes x ≤ n) (within : held known ≤ h) where
  same_met : Met (Costs h (begun_nodes b + n) begun_nodes) (given b known)
  same_met = met_given _ _ _ (record { light = omega arith; within = within })

  pointer_by : (null : Bool) (rest : Rule Begun) → Met (Costs h (begun_nodes b + n) begun_nodes) (rest known) → Met (Costs h (begun_nodes b + n) begun_nodes) ((if null then given b else rest) known)
  pointer_by true rest g = same_met
  pointer_by false rest g = g

  pointer_met : (slot : Slot) (line : ℕ) → Met (Costs h (begun_nodes b + n) begun_nodes) (begin_pointer slot x line b known)
  pointer_met slot line = pointer_by x.null _ (met_wanted _ kind.Initializer x.line (static_address x.value) known _
      (λ number is. met_tried _ ((not (may_be_assigned known (side_of x) (slot.ty).ty), kind.Convert) ∷ []) line known _ (met_given _ _ _ (record { light = omega arith; within = within }))))

  static_met : (ty : Ty) (slot : Slot) (line : ℕ) → Met (Costs h (begun_nodes b + n) begun_nodes) (begin_static ty slot x line b known)
  static_met (Int i) slot line = met_on (Costs h 0 nothing) _ _ _ (number_met h x known within) (λ v k c. met_given _ _ _ (record { light = omega arith; within = c.within }))
  static_met (Pointer row) slot line = pointer_met slot line
  static_met _ slot line = met_broken _ _

  structure_met : (slot : Slot) → Met (Costs h (begun_nodes b + n) begun_nodes) (begin_structure slot x b known)
  structure_met slot = met_tried _ ((not (same_type (type_of x.value) (slot.ty).ty), kind.Initializer) ∷ []) x.line known _ (met_wanted _ kind.Initializer x.line (structure_read x.value) known _
      (λ from is. met_given _ _ _ (record { light = omega (arith, read_nodes x.value from is, last_item b.items); within = within })))

  scalar_met : (ty : Ty) (slot : Slot) (line : ℕ) → Met (Costs h (begun_nodes b + n) begun_nodes) (go_on (λ value. given (with_item (typed.Scalar slot.offset value) b)) (assigned x ty line known))
  scalar_met ty slot line = met_on (Costs h n nodes_in) _ _ (λ value. given (with_item (typed.Scalar slot.offset value) b)) (assigned_met h n x ty line known light within)
      (λ value k c. met_given _ _ _ (record { light = omega (arith, last_item b.items (typed.Scalar slot.offset value)); within = c.within }))

  local_met : (ty : Ty) (slot : Slot) (line : ℕ) → Met (Costs h (begun_nodes b + n) begun_nodes) (begin_local ty slot x line b known)
  local_met (Struct number) slot line = structure_met slot
  local_met (Array row count size) slot line = met_broken _ _
  local_met Void slot line = scalar_met Void slot line
  local_met (Int i) slot line = scalar_met (Int i) slot line
  local_met (Pointer row) slot line = scalar_met (Pointer row) slot line

  either_met : (static_object : Bool) (first second : Rule Begun) → Met (Costs h (begun_nodes b + n) begun_nodes) (first known) → Met (Costs h (begun_nodes b + n) begun_nodes) (second known)
      → Met (Costs h (begun_nodes b + n) begun_nodes) ((if static_object then first else second) known)
  either_met true first second f g = f
  either_met false first second f g = g

  value_met : (slot : Slot) (inside : Bool) → Met (Costs h (begun_nodes b + n) begun_nodes) (begin_value slot inside x b known)
  value_met slot inside = either_met b.static_object _ _ (static_met (slot.ty).ty slot (value_line inside x.line b)) (local_met (slot.ty).ty slot (value_line inside x.line b))

  value_rule_met : (slot : Option Slot) (inside : Bool) → Met (Costs h (begun_nodes b + n) begun_nodes) (value_rule slot inside x b known)
  value_rule_met None inside = same_met
  value_rule_met (Some slot) inside = value_met slot inside

-- ---- strings

counted_items : (unknown : Bool) (n : ℕ) (b : Begun) → begun_nodes (if unknown then record b { count = Some (n + 1) } else b) ≡ begun_nodes b
counted_items true n b = refl
counted_items false n b = refl

text_by : (static_object : Bool) (slot : Slot) (bytes : List Initial) (item : Item) (b : Begun) → item_nodes item ≡ 0 → begun_nodes (if static_object then with_initial bytes b else with_item item b) ≡ begun_nodes b
text_by true slot bytes item b free = refl
text_by false slot bytes item b free = omega (arith, last_item b.items item)

text_items : (slot : Slot) (count : ℕ) (text : List ℕ) (b : Begun) → begun_nodes (with_text slot count text b) ≡ begun_nodes b
text_items slot count text b = omega (arith, text_by b.static_object slot (bytes_at slot.offset text) (typed.Text slot.offset text (text_size count (length text))) (with_count count (length text) b) refl, counted_items (nat_eq count 0) (length text) b)

broken_by : (P : Begun → Known → Type 0) (b : Bool) (first second : Rule Begun) (known : Known) → Met P (first known) → Met P (second known) → Met P ((if b then first else second) known)
broken_by P true first second known f g = f
broken_by P false first second known f g = g

static_text_met : (P : Begun → Known → Type 0) (ty : Ty) (line : ℕ) (known : Known) → Met P (static_text ty line known)
static_text_met P (Int i) line known = met_broken _ _
static_text_met P _ line known = met_broken _ _

refused_met : (P : Begun → Known → Type 0) (slot : Slot) (inside : Bool) (line : ℕ) (b : Begun) (known : Known) → Met P (refused_text slot inside line b known)
refused_met P slot inside line b known = broken_by P (not (is_scalar (slot.ty).ty)) _ _ known (met_broken _ _) (broken_by P b.static_object _ _ known (static_text_met P (slot.ty).ty line known) (met_broken _ _))

text_by_met : (h : ℕ) (count : Option ℕ) (slot : Slot) (inside : Bool) (s : Symbol) (b : Begun) (known : Known) → held known ≤ h → Met (Costs h (begun_nodes b) begun_nodes) (begin_text_by count slot inside s b known)
text_by_met h (Some count) slot inside s b known within = met_tried _ ((not (nat_eq count 0) && nat_lt count (length (text_of s.bytes)), kind.Initializer) ∷ []) s.line known _
    (met_given _ _ _ (record { light = omega (arith, text_items slot count (text_of s.bytes) b); within = within }))
text_by_met h None slot inside s b known within = refused_met _ slot inside s.line b known

text_rule_met : (h : ℕ) (slot : Option Slot) (inside : Bool) (s : Symbol) (b : Begun) (known : Known) → held known ≤ h → Met (Costs h (begun_nodes b) begun_nodes) (text_rule slot inside s b known)
text_rule_met h None inside s b known within = met_given _ _ _ (record { light = omega arith; within = within })
text_rule_met h (Some slot) inside s b known within = text_by_met h (char_array known (slot.ty).ty) slot inside s b known within

-- ---- lists

sized_items : (unsized : Bool) (n : ℕ) (b : Begun) → begun_nodes (if unsized then record b { count = Some n } else b) ≡ begun_nodes b
sized_items true n b = refl
sized_items false n b = refl

same_items : (slot : Option Slot) (n : ℕ) (b : Begun) → begun_nodes (with_items slot n b) ≡ begun_nodes b
same_items None n b = refl
same_items (Some slot) n b = sized_items (is_unsized (slot.ty).ty) n b

mutual
  unfolding begins more_begins

  pub begins_met : (i : InitTree) (h : ℕ) (slot : Option Slot) (inside : Bool) (b : Begun) (known : Known) → held known ≤ h → Met (Costs h (begun_nodes b + 3 * length (spelled_init i)) begun_nodes) (begins i slot inside b known)
  begins_met (tree.Value e) h slot inside b known within = met_on (Costs h (3 * length (spelled e)) operand_nodes) _ _ _ (value_of_met e h known within)
      (λ x k c. value_rule_met h (3 * length (spelled e)) x b k c.light c.within slot inside)
  begins_met (tree.Quoted s) h slot inside b known within = costs_more h (begun_nodes b) (begun_nodes b + 3 * length (spelled_init (tree.Quoted s))) begun_nodes _ (omega arith) (text_rule_met h slot inside s b known within)
  begins_met (tree.Listed opening i is comma closing) h slot inside b known within = met_on (Costs h (begun_nodes b + 3 * length (spelled_init i)) begun_nodes) _ _ _ (begins_met i h (part known slot 0) true b known within)
      (λ first k c. met_on (Costs h (begun_nodes first + 3 * length (spelled_more_inits is)) begun_nodes) _ _ _ (more_begins_met is h slot 1 first k c.within)
      (λ all k2 c2. met_tried _ ((has_more k2 slot (suc (items_in is)), kind.Initializer) ∷ []) opening k2 _ (met_given _ _ _ (record {
        light = omega (arith, same_items slot (suc (items_in is)) all, length-append {A = Symbol});
        within = c2.within;
      }))))

  more_begins_met : (is : MoreInits) (h : ℕ) (slot : Option Slot) (n : ℕ) (b : Begun) (known : Known) → held known ≤ h → Met (Costs h (begun_nodes b + 3 * length (spelled_more_inits is)) begun_nodes) (more_begins is slot n b known)
  more_begins_met tree.NoInit h slot n b known within = met_given _ _ _ (record { light = omega arith; within = within })
  more_begins_met (tree.AndInit comma i is) h slot n b known within = met_on (Costs h (begun_nodes b + 3 * length (spelled_init i)) begun_nodes) _ _ _ (begins_met i h (part known slot n) true b known within)
      (λ next k c. costs_more h (begun_nodes next + 3 * length (spelled_more_inits is)) (begun_nodes b + 3 * length (spelled_more_inits (tree.AndInit comma i is))) begun_nodes _ (omega (arith, length-append {A = Symbol}))
      (more_begins_met is h slot (suc n) next k c.within))
