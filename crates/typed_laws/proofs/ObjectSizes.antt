-- Objects: one of each declarator, with what it begins as.
use Rattle.std.proofs.Common.{ℕ, ◌+◌, ◌*◌, ◌≤◌, Bool, true, false, not, ◌||◌, if◌then◌else◌, nat_eq, List, [], ◌∷◌, length, Option, Some, None, arith, length-append}
use Rattle.c_nodes.specs.Programs.{InitTree, spelled_init}
use Rattle.c_typed.specs.Sameness.{is_scalar}
use Rattle.c_typed.specs.TreeNodes.{nodes_in, nodes_at, nodes_of_all, statement_nodes, nodes_of_body, arm_nodes, arms_nodes, last_nodes, items_nodes}
use Rattle.c_typed.specs.Trees as typed
use Rattle.c_typed.specs.Trees.{Statement, Item, StaticTree, VariableTree}
use Rattle.c_typed.specs.declared.expression.Object.TheVariants as object
use Rattle.c_typed.specs.declared.program.Initial.{Initial}
use Rattle.c_typed.specs.declared.types.Qualified.{Qualified}
use Rattle.c_typed.specs.declared.types.Ty.{Ty}
use Rattle.c_typed.specs.declared.types.Ty.TheVariants.{Array}
use Rattle.type_rules.specs.Faults as kind
use Rattle.type_rules.specs.Known.{Binding, ObjectName, Known, Rule, given, go_on, tried}
use Rattle.type_rules.specs.Names.{bind}
use Rattle.type_rules.specs.Objects.{object_tests, object_rule, sized, closed_array, closed_by, closed, whole_slot, add_static, complete_static, static_begun, static_rule, add_local, complete_local, is_expression, begun_as_one, local_statements, local_begun, local_rule}
use Rattle.type_rules.specs.Outlines.{Outline}
use Rattle.type_rules.specs.Rows.{like, target_of, array_of}
use Rattle.type_rules.specs.Slots.{Begun, nothing_begun}
use Rattle.type_rules.specs.Specifiers.{Specified}
use Rattle.typed_laws.specs.Weights.{Met, held, Costs, nothing, begun_nodes, body_nodes}
use Rattle.typed_laws.proofs.InitializerSizes.{begins_met}
use Rattle.typed_laws.proofs.StepSizes.{met_given, met_broken, met_on, met_tried, met_wanted, met_kept, costs_more, changed_length}

pub object_met : (h : ℕ) (said : Specified) (o : Outline) (begun : Bool) (line : ℕ) (known : Known) → held known ≤ h → Met (Costs h 0 nothing) (object_rule said o begun line known)
object_met h said o begun line known within = met_tried _ (object_tests known said o begun) line known _ (met_kept h _ known within)

-- ---- an array takes its length from its initializer

array_met : (h : ℕ) (element : Qualified) (count : ℕ) (known : Known) → held known ≤ h → Met (Costs h 0 nothing) (array_of element count known)
array_met h element count known within = met_kept h _ _ within

closed_array_met : (h : ℕ) (ty : Qualified) (row : ℕ) (count : Option ℕ) (line : ℕ) (known : Known) → held known ≤ h → Met (Costs h 0 nothing) (closed_array ty row count line known)
closed_array_met h ty row count line known within = met_wanted _ kind.Initializer line count known _
    (λ n is. met_on (Costs h 0 nothing) _ (array_of (like ty (target_of known row).ty) n known) (λ whole. λ after. go_on (λ u. given whole) (tried ((not (sized after whole n), kind.Size) ∷ []) line after)) (array_met h (like ty (target_of known row).ty) n known within)
    (λ whole k c. met_tried _ ((not (sized k whole n), kind.Size) ∷ []) line k (λ u. given whole) (met_kept h whole k c.within)))

closed_or_met : (h : ℕ) (unknown : Bool) (ty : Qualified) (row : ℕ) (count : Option ℕ) (line : ℕ) (known : Known) → held known ≤ h → Met (Costs h 0 nothing) ((if unknown then closed_array ty row count line else given ty) known)
closed_or_met h true ty row count line known within = closed_array_met h ty row count line known within
closed_or_met h false ty row count line known within = met_kept h ty known within

closed_by_met : (h : ℕ) (shape : Ty) (ty : Qualified) (count : Option ℕ) (line : ℕ) (known : Known) → held known ≤ h → Met (Costs h 0 nothing) (closed_by shape ty count line known)
closed_by_met h (Array row n size) ty count line known within = closed_or_met h (nat_eq n 0) ty row count line known within
closed_by_met h _ ty count line known within = met_kept h ty known within

closed_met : (h : ℕ) (ty : Qualified) (count : Option ℕ) (line : ℕ) (known : Known) → held known ≤ h → Met (Costs h 0 nothing) (closed ty count line known)
closed_met h ty count line known within = closed_by_met h ty.ty ty count line known within

-- ---- names and tables

bind_met : (h : ℕ) (name : List ℕ) (binding : Binding) (known : Known) → held known ≤ h → Met (Costs h 0 nothing) (bind name binding known)
bind_met h name binding known within = met_kept h _ _ within

complete_static_met : (h number : ℕ) (ty : Qualified) (initial : List Initial) (known : Known) → held known ≤ h → Met (Costs h 0 nothing) (complete_static number ty initial known)
complete_static_met h number ty initial known within = met_kept h _ _ (omega (arith, changed_length known.statics number (λ (s : StaticTree). record s { ty = ty; initial = initial })))

complete_local_met : (h number : ℕ) (ty : Qualified) (known : Known) → held known ≤ h → Met (Costs h 0 nothing) (complete_local number ty known)
complete_local_met h number ty known within = met_kept h _ _ (omega (arith, changed_length (known.body).locals number (λ (v : VariableTree). record v { ty = ty })))

add_static_met : (h : ℕ) (name : List ℕ) (ty : Qualified) (line : ℕ) (known : Known) → held known + 1 ≤ h → Met (Costs h 0 nothing) (add_static name ty line known)
add_static_met h name ty line known within = met_kept h _ _ (omega (arith, length-append {A = StaticTree}))

add_local_met : (h : ℕ) (name : List ℕ) (ty : Qualified) (line : ℕ) (known : Known) → held known + 1 ≤ h → Met (Costs h 0 nothing) (add_local name ty line known)
add_local_met h name ty line known within = met_kept h _ _ (omega (arith, length-append {A = VariableTree}))

-- ---- static objects

static_begun_met : (h : ℕ) (init : Option InitTree) (number : ℕ) (name : List ℕ) (ty : Qualified) (line : ℕ) (known : Known) → held known ≤ h → Met (Costs h 0 nothing) (static_begun init number name ty line known)
static_begun_met h None number name ty line known within = met_kept h _ known within
static_begun_met h (Some init) number name ty line known within =
    met_on (Costs h (0 + 3 * length (spelled_init init)) begun_nodes) _ _ (λ b. λ k. go_on (λ whole. λ k2. go_on (λ u. complete_static number whole b.initial) (bind name (ObjectName (object.Static number) whole false) k2)) (closed ty b.count line k))
    (begins_met init h (Some (whole_slot ty)) false (nothing_begun true line) known within)
    (λ b k c. met_on (Costs h 0 nothing) _ _ (λ whole. λ k2. go_on (λ u. complete_static number whole b.initial) (bind name (ObjectName (object.Static number) whole false) k2)) (closed_met h ty b.count line k c.within)
    (λ whole k2 c2. met_on (Costs h 0 nothing) _ (bind name (ObjectName (object.Static number) whole false) k2) (λ u. complete_static number whole b.initial) (bind_met h name (ObjectName (object.Static number) whole false) k2 c2.within)
    (λ u k3 c3. complete_static_met h number whole b.initial k3 c3.within)))

pub static_met : (h : ℕ) (init : Option InitTree) (map_name name : List ℕ) (ty : Qualified) (line : ℕ) (known : Known) → held known + 1 ≤ h → Met (Costs h 0 nothing) (static_rule init map_name name ty line known)
static_met h init map_name name ty line known within =
    met_on (Costs h 0 nothing) _ (add_static map_name ty line known) (λ number. λ k. go_on (λ u. static_begun init number name ty line) (bind name (ObjectName (object.Static number) ty false) k)) (add_static_met h map_name ty line known within)
    (λ number k c. met_on (Costs h 0 nothing) _ (bind name (ObjectName (object.Static number) ty false) k) (λ u. static_begun init number name ty line) (bind_met h name (ObjectName (object.Static number) ty false) k c.within)
    (λ u k2 c2. static_begun_met h init number name ty line k2 c2.within))

-- ---- locals

one_value_met : (h local : ℕ) (ty : Qualified) (items : List Item) (line : ℕ) (known : Known) → held known ≤ h → Met (Costs h (items_nodes items + 3) body_nodes) (begun_as_one local ty items line known)
unfolding nodes_in nodes_at nodes_of_all statement_nodes nodes_of_body arm_nodes arms_nodes last_nodes
one_value_met h local ty (typed.Scalar offset value ∷ []) line known within = met_given _ _ _ (record { light = omega arith; within = within })
one_value_met h local ty (typed.Struct offset from size ∷ []) line known within = met_given _ _ _ (record { light = omega arith; within = within })
one_value_met h local ty _ line known within = met_broken _ _

list_nodes : (local : ℕ) (items : List Item) (line : ℕ) → body_nodes (typed.InitList local items line ∷ []) ≤ items_nodes items + 3
unfolding nodes_in nodes_at nodes_of_all statement_nodes nodes_of_body arm_nodes arms_nodes last_nodes
list_nodes local items line = omega arith

local_by_met : (h : ℕ) (one : Bool) (local : ℕ) (ty : Qualified) (items : List Item) (line : ℕ) (known : Known) → held known ≤ h
    → Met (Costs h (items_nodes items + 3) body_nodes) ((if one then begun_as_one local ty items line else given (typed.InitList local items line ∷ [])) known)
local_by_met h true local ty items line known within = one_value_met h local ty items line known within
local_by_met h false local ty items line known within = met_given _ _ _ (record { light = list_nodes local items line; within = within })

statements_met : (h : ℕ) (init : InitTree) (local : ℕ) (ty : Qualified) (items : List Item) (line : ℕ) (known : Known) → held known ≤ h → Met (Costs h (items_nodes items + 3) body_nodes) (local_statements init local ty items line known)
statements_met h init local ty items line known within = local_by_met h (is_expression init || is_scalar ty.ty) local ty items line known within

-- what the initializer of a local comes to
abbrev pub begun_most : Option InitTree → ℕ
begun_most None = 0
begun_most (Some init) = 3 + 3 * length (spelled_init init)

declared_nodes : (local line : ℕ) → body_nodes (typed.Declare local line ∷ []) ≤ 0
unfolding statement_nodes nodes_of_body arm_nodes arms_nodes last_nodes
declared_nodes local line = omega arith

-- what stands behind the initializer of a local
abbrev named_behind : InitTree → ℕ → List ℕ → Bool → ℕ → Begun → Qualified → Rule (List Statement)
named_behind init local name fixed line b whole = λ k. go_on (λ u. λ k2. go_on (λ v. local_statements init local whole b.items line) (complete_local local whole k2)) (bind name (ObjectName (object.Local local) whole fixed) k)

named_behind_met : (h : ℕ) (init : InitTree) (local : ℕ) (name : List ℕ) (fixed : Bool) (line : ℕ) (b : Begun) (whole : Qualified) (known : Known) → held known ≤ h → Met (Costs h (items_nodes b.items + 3) body_nodes) (named_behind init local name fixed line b whole known)
named_behind_met h init local name fixed line b whole known within =
    met_on (Costs h 0 nothing) _ (bind name (ObjectName (object.Local local) whole fixed) known) (λ u. λ k. go_on (λ v. local_statements init local whole b.items line) (complete_local local whole k)) (bind_met h name (ObjectName (object.Local local) whole fixed) known within)
    (λ u k c. met_on (Costs h 0 nothing) _ (complete_local local whole k) (λ v. local_statements init local whole b.items line) (complete_local_met h local whole k c.within) (λ v k2 c2. statements_met h init local whole b.items line k2 c2.within))

local_begun_met : (h : ℕ) (init : Option InitTree) (local : ℕ) (name : List ℕ) (ty : Qualified) (fixed : Bool) (line : ℕ) (known : Known) → held known ≤ h → Met (Costs h (begun_most init) body_nodes) (local_begun init local name ty fixed line known)
local_begun_met h None local name ty fixed line known within = met_given _ _ _ (record { light = declared_nodes local line; within = within })
local_begun_met h (Some init) local name ty fixed line known within =
    met_on (Costs h (0 + 3 * length (spelled_init init)) begun_nodes) _ _ (λ b. λ k. go_on (named_behind init local name fixed line b) (closed ty b.count line k))
    (begins_met init h (Some (whole_slot ty)) false (nothing_begun false line) known within)
    (λ b k c. met_on (Costs h 0 nothing) _ _ (named_behind init local name fixed line b) (closed_met h ty b.count line k c.within)
    (λ whole k2 c2. costs_more h (items_nodes b.items + 3) (begun_most (Some init)) body_nodes _ (omega arith) (named_behind_met h init local name fixed line b whole k2 c2.within)))

pub local_met : (h : ℕ) (init : Option InitTree) (name : List ℕ) (ty : Qualified) (fixed : Bool) (line : ℕ) (known : Known) → held known + 1 ≤ h → Met (Costs h (begun_most init) body_nodes) (local_rule init name ty fixed line known)
local_met h init name ty fixed line known within =
    met_on (Costs h 0 nothing) _ (add_local name ty line known) (λ local. λ k. go_on (λ u. local_begun init local name ty fixed line) (bind name (ObjectName (object.Local local) ty fixed) k)) (add_local_met h name ty line known within)
    (λ local k c. met_on (Costs h 0 nothing) _ (bind name (ObjectName (object.Local local) ty fixed) k) (λ u. local_begun init local name ty fixed line) (bind_met h name (ObjectName (object.Local local) ty fixed) k c.within)
    (λ u k2 c2. local_begun_met h init local name ty fixed line k2 c2.within))
