-- Objects: a static one is named as it is told, and a local one isn't held.
use Rattle.std.proofs.Common.{◌≡◌, ℕ, zero, suc, Bool, true, false, not, ◌||◌, if◌then◌else◌, nat_eq, List, [], ◌∷◌, ◌++◌, Option, Some, None, refl, sym, subst}
use Rattle.c_nodes.specs.Programs.{InitTree}
use Rattle.c_typed.specs.Sameness.{is_scalar}
use Rattle.c_typed.specs.Trees as typed
use Rattle.c_typed.specs.Trees.{Statement, Item, StaticTree}
use Rattle.c_typed.specs.declared.expression.Object.TheVariants as object
use Rattle.c_typed.specs.declared.program.Initial.{Initial}
use Rattle.c_typed.specs.declared.types.Qualified.{Qualified}
use Rattle.c_typed.specs.declared.types.Ty.{Ty}
use Rattle.c_typed.specs.declared.types.Ty.TheVariants.{Array}
use Rattle.type_rules.specs.Faults as kind
use Rattle.type_rules.specs.Known.{Binding, ObjectName, Known, Rule, given, go_on, tried}
use Rattle.type_rules.specs.Names.{bind}
use Rattle.type_rules.specs.Objects.{object_tests, object_rule, sized, closed_array, closed_by, closed, whole_slot, add_static, complete_static, static_begun, static_rule, add_local, complete_local, is_expression, begun_as_one, local_statements, local_begun, local_rule}
use Rattle.type_rules.specs.Outlines.{Outline}
use Rattle.type_rules.specs.Rows.{like, target_of, array_of, changed_at}
use Rattle.type_rules.specs.Slots.{Begun, nothing_begun}
use Rattle.type_rules.specs.Specifiers.{Specified}
use Rattle.program_laws.specs.Named.{IsDotted, AreDotted, Held, Stays}
use Rattle.program_laws.proofs.Initializers.{begins_stays}
use Rattle.program_laws.proofs.Steps.{stays_given, stays_broken, stays_on, stays_tried, stays_wanted}

pub object_stays : (whose : List ℕ) (said : Specified) (o : Outline) (begun : Bool) (line : ℕ) (known : Known) → Held whose known → Stays whose (object_rule said o begun line known)
object_stays whose said o begun line known held = stays_tried _ (object_tests known said o begun) line known _ (stays_given _ known held)

-- ---- an array takes its length from its initializer

array_stays : (whose : List ℕ) (element : Qualified) (count : ℕ) (known : Known) → Held whose known → Stays whose (array_of element count known)
array_stays whose element count known held = stays_given _ _ held

closed_array_stays : (whose : List ℕ) (ty : Qualified) (row : ℕ) (count : Option ℕ) (line : ℕ) (known : Known) → Held whose known → Stays whose (closed_array ty row count line known)
closed_array_stays whose ty row count line known held = stays_wanted _ kind.Initializer line count known _
    (λ n. stays_on _ (array_of (like ty (target_of known row).ty) n known) (λ whole. λ after. go_on (λ u. given whole) (tried ((not (sized after whole n), kind.Size) ∷ []) line after)) (array_stays whose (like ty (target_of known row).ty) n known held)
    (λ whole k c. stays_tried _ ((not (sized k whole n), kind.Size) ∷ []) line k (λ u. given whole) (stays_given whole k c)))

closed_or_stays : (whose : List ℕ) (unknown : Bool) (ty : Qualified) (row : ℕ) (count : Option ℕ) (line : ℕ) (known : Known) → Held whose known → Stays whose ((if unknown then closed_array ty row count line else given ty) known)
closed_or_stays whose true ty row count line known held = closed_array_stays whose ty row count line known held
closed_or_stays whose false ty row count line known held = stays_given ty known held

closed_by_stays : (whose : List ℕ) (shape : Ty) (ty : Qualified) (count : Option ℕ) (line : ℕ) (known : Known) → Held whose known → Stays whose (closed_by shape ty count line known)
closed_by_stays whose (Array row n size) ty count line known held = closed_or_stays whose (nat_eq n 0) ty row count line known held
closed_by_stays whose _ ty count line known held = stays_given ty known held

closed_stays : (whose : List ℕ) (ty : Qualified) (count : Option ℕ) (line : ℕ) (known : Known) → Held whose known → Stays whose (closed ty count line known)
closed_stays whose ty count line known held = closed_by_stays whose ty.ty ty count line known held

-- ---- names and tables

dotted_last : (ss : List StaticTree) (s : StaticTree) → AreDotted ss → IsDotted s.name → AreDotted (ss ++ s ∷ [])
dotted_last [] s are is = (is, tt)
dotted_last (t ∷ ss) s are is = (are.0, dotted_last ss s are.1 is)

changed_dotted : (ss : List StaticTree) (n : ℕ) (change : StaticTree → StaticTree) → ((s : StaticTree) → (change s).name ≡ s.name) → AreDotted ss → AreDotted (changed_at ss n change)
changed_dotted [] n change same are = tt
changed_dotted (s ∷ ss) zero change same are = (subst IsDotted (sym (same s)) are.0, are.1)
changed_dotted (s ∷ ss) (suc n) change same are = (are.0, changed_dotted ss n change same are.1)

bind_stays : (whose : List ℕ) (name : List ℕ) (binding : Binding) (known : Known) → Held whose known → Stays whose (bind name binding known)
bind_stays whose name binding known held = stays_given _ _ held

complete_static_stays : (whose : List ℕ) (number : ℕ) (ty : Qualified) (initial : List Initial) (known : Known) → Held whose known → Stays whose (complete_static number ty initial known)
complete_static_stays whose number ty initial known held = stays_given _ _ (changed_dotted known.statics number (λ (s : StaticTree). record s { ty = ty; initial = initial }) (λ s. refl) held.0, held.1)

complete_local_stays : (whose : List ℕ) (number : ℕ) (ty : Qualified) (known : Known) → Held whose known → Stays whose (complete_local number ty known)
complete_local_stays whose number ty known held = stays_given _ _ held

add_static_stays : (whose : List ℕ) (name : List ℕ) (ty : Qualified) (line : ℕ) (known : Known) → IsDotted name → Held whose known → Stays whose (add_static name ty line known)
add_static_stays whose name ty line known dotted held = stays_given _ _ (dotted_last known.statics (record { name = name; ty = ty; initial = []; line = line }) held.0 dotted, held.1)

add_local_stays : (whose : List ℕ) (name : List ℕ) (ty : Qualified) (line : ℕ) (known : Known) → Held whose known → Stays whose (add_local name ty line known)
add_local_stays whose name ty line known held = stays_given _ _ held

-- ---- static objects

static_begun_stays : (whose : List ℕ) (init : Option InitTree) (number : ℕ) (name : List ℕ) (ty : Qualified) (line : ℕ) (known : Known) → Held whose known → Stays whose (static_begun init number name ty line known)
static_begun_stays whose None number name ty line known held = stays_given _ known held
static_begun_stays whose (Some init) number name ty line known held =
    stays_on _ _ (λ b. λ k. go_on (λ whole. λ k2. go_on (λ u. complete_static number whole b.initial) (bind name (ObjectName (object.Static number) whole false) k2)) (closed ty b.count line k))
    (begins_stays init whose (Some (whole_slot ty)) false (nothing_begun true line) known held)
    (λ b k c. stays_on _ _ (λ whole. λ k2. go_on (λ u. complete_static number whole b.initial) (bind name (ObjectName (object.Static number) whole false) k2)) (closed_stays whose ty b.count line k c)
    (λ whole k2 c2. stays_on _ (bind name (ObjectName (object.Static number) whole false) k2) (λ u. complete_static number whole b.initial) (bind_stays whose name (ObjectName (object.Static number) whole false) k2 c2)
    (λ u k3 c3. complete_static_stays whose number whole b.initial k3 c3)))

pub static_stays : (whose : List ℕ) (init : Option InitTree) (map_name name : List ℕ) (ty : Qualified) (line : ℕ) (known : Known) → IsDotted map_name → Held whose known → Stays whose (static_rule init map_name name ty line known)
static_stays whose init map_name name ty line known dotted held =
    stays_on _ (add_static map_name ty line known) (λ number. λ k. go_on (λ u. static_begun init number name ty line) (bind name (ObjectName (object.Static number) ty false) k)) (add_static_stays whose map_name ty line known dotted held)
    (λ number k c. stays_on _ (bind name (ObjectName (object.Static number) ty false) k) (λ u. static_begun init number name ty line) (bind_stays whose name (ObjectName (object.Static number) ty false) k c)
    (λ u k2 c2. static_begun_stays whose init number name ty line k2 c2))

-- ---- locals

one_value_stays : (whose : List ℕ) (local : ℕ) (ty : Qualified) (items : List Item) (line : ℕ) (known : Known) → Held whose known → Stays whose (begun_as_one local ty items line known)
one_value_stays whose local ty (typed.Scalar offset value ∷ []) line known held = stays_given _ _ held
one_value_stays whose local ty (typed.Struct offset from size ∷ []) line known held = stays_given _ _ held
one_value_stays whose local ty _ line known held = stays_broken _ _ _

local_by_stays : (whose : List ℕ) (one : Bool) (local : ℕ) (ty : Qualified) (items : List Item) (line : ℕ) (known : Known) → Held whose known
    → Stays whose ((if one then begun_as_one local ty items line else given (typed.InitList local items line ∷ [])) known)
local_by_stays whose true local ty items line known held = one_value_stays whose local ty items line known held
local_by_stays whose false local ty items line known held = stays_given _ _ held

statements_stays : (whose : List ℕ) (init : InitTree) (local : ℕ) (ty : Qualified) (items : List Item) (line : ℕ) (known : Known) → Held whose known → Stays whose (local_statements init local ty items line known)
statements_stays whose init local ty items line known held = local_by_stays whose (is_expression init || is_scalar ty.ty) local ty items line known held

-- what stands behind the initializer of a local
abbrev named_behind : InitTree → ℕ → List ℕ → Bool → ℕ → Begun → Qualified → Rule (List Statement)
named_behind init local name fixed line b whole = λ k. go_on (λ u. λ k2. go_on (λ v. local_statements init local whole b.items line) (complete_local local whole k2)) (bind name (ObjectName (object.Local local) whole fixed) k)

named_behind_stays : (whose : List ℕ) (init : InitTree) (local : ℕ) (name : List ℕ) (fixed : Bool) (line : ℕ) (b : Begun) (whole : Qualified) (known : Known) → Held whose known → Stays whose (named_behind init local name fixed line b whole known)
named_behind_stays whose init local name fixed line b whole known held =
    stays_on _ (bind name (ObjectName (object.Local local) whole fixed) known) (λ u. λ k. go_on (λ v. local_statements init local whole b.items line) (complete_local local whole k)) (bind_stays whose name (ObjectName (object.Local local) whole fixed) known held)
    (λ u k c. stays_on _ (complete_local local whole k) (λ v. local_statements init local whole b.items line) (complete_local_stays whose local whole k c) (λ v k2 c2. statements_stays whose init local whole b.items line k2 c2))

local_begun_stays : (whose : List ℕ) (init : Option InitTree) (local : ℕ) (name : List ℕ) (ty : Qualified) (fixed : Bool) (line : ℕ) (known : Known) → Held whose known → Stays whose (local_begun init local name ty fixed line known)
local_begun_stays whose None local name ty fixed line known held = stays_given _ _ held
local_begun_stays whose (Some init) local name ty fixed line known held =
    stays_on _ _ (λ b. λ k. go_on (named_behind init local name fixed line b) (closed ty b.count line k))
    (begins_stays init whose (Some (whole_slot ty)) false (nothing_begun false line) known held)
    (λ b k c. stays_on _ _ (named_behind init local name fixed line b) (closed_stays whose ty b.count line k c)
    (λ whole k2 c2. named_behind_stays whose init local name fixed line b whole k2 c2))

pub local_stays : (whose : List ℕ) (init : Option InitTree) (name : List ℕ) (ty : Qualified) (fixed : Bool) (line : ℕ) (known : Known) → Held whose known → Stays whose (local_rule init name ty fixed line known)
local_stays whose init name ty fixed line known held =
    stays_on _ (add_local name ty line known) (λ local. λ k. go_on (λ u. local_begun init local name ty fixed line) (bind name (ObjectName (object.Local local) ty fixed) k)) (add_local_stays whose name ty line known held)
    (λ local k c. stays_on _ (bind name (ObjectName (object.Local local) ty fixed) k) (λ u. local_begun init local name ty fixed line) (bind_stays whose name (ObjectName (object.Local local) ty fixed) k c)
    (λ u k2 c2. local_begun_stays whose init local name ty fixed line k2 c2))
