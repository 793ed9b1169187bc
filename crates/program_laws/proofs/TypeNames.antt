-- Specifiers, pointers and the names of types declare no object.
use Rattle.std.proofs.Common.{ℕ, Bool, true, false, not, ◌&&◌, if◌then◌else◌, List, [], ◌∷◌, Option, Some, None}
use Rattle.c_token.specs.declared.token.Keyword.TheVariants as words
use Rattle.c_token.specs.declared.token.Punct.TheVariants as marks
use Rattle.c_nodes.specs.Kinds.{is_punct, is_key}
use Rattle.c_nodes.specs.Trees as tree
use Rattle.c_nodes.specs.Trees.{TypeTree, SpecTrees, MoreSpecs, SpecTree}
use Rattle.c_nodes.specs.Words.{Symbol, Symbols}
use Rattle.c_typed.specs.declared.types.Qualified.{Qualified}
use Rattle.type_rules.specs.Faults as kind
use Rattle.type_rules.specs.Known.{Waiting, Whole, OneArray, TwoArrays, Never, is_waiting, Tag, StructTag, EnumTag, Known, given, go_on}
use Rattle.type_rules.specs.Names.{meaning_of}
use Rattle.type_rules.specs.Rows.{plain, pointer_to, is_complete, tagged}
use Rattle.type_rules.specs.Specifiers.{Site, OfTypeName, Gathered, nothing_gathered, with_base, base_type, is_orderly, qualifies_once, may_stand, Named, grown_by, grown, remade, said, specifiers, named_base, type_name_rule, specs_line}
use Rattle.type_rules.specs.TypeNames.{with_pointers, enum_of, enum_rule, named_spec, more_named_specs, named_specs, type_named}
use Rattle.program_laws.specs.Named.{Held, Stays}
use Rattle.program_laws.proofs.Steps.{stays_given, stays_broken, stays_on, stays_tried, stays_wanted}

pub pointer_stays : (whose : List ℕ) (ty : Qualified) (known : Known) → Held whose known → Stays whose (pointer_to ty known)
pointer_stays whose ty known held = stays_given _ _ held

pointer_by : (ss : Symbols) (whose : List ℕ) (ty : Qualified) (known : Known) → ((q : Qualified) (k : Known) → Held whose k → Stays whose (with_pointers ss q k)) → Held whose known → (b c : Bool)
    → Stays whose ((if b then (λ k. go_on (λ pointer. with_pointers ss (plain pointer)) (pointer_to ty k)) else if c then with_pointers ss (record ty { constant = true }) else with_pointers ss (record ty { volatile = true })) known)
pointer_by ss whose ty known rest held true c = stays_on _ (pointer_to ty known) (λ pointer. with_pointers ss (plain pointer)) (pointer_stays whose ty known held) (λ p k g. rest (plain p) k g)
pointer_by ss whose ty known rest held false true = rest (record ty { constant = true }) known held
pointer_by ss whose ty known rest held false false = rest (record ty { volatile = true }) known held

pub pointers_stays : (ss : Symbols) (whose : List ℕ) (ty : Qualified) (known : Known) → Held whose known → Stays whose (with_pointers ss ty known)
pointers_stays [] whose ty known held = stays_given ty known held
pointers_stays (s ∷ ss) whose ty known held = pointer_by ss whose ty known (pointers_stays ss whose) held (is_punct marks.Star s.kind) (is_key words.Const s.kind)

grown_by_stays : (whose : List ℕ) (b : Bool) (n : ℕ) (inner : Named) (known : Known) → Held whose known → Stays whose (grown_by b n inner known)
grown_by_stays whose false n inner known held = stays_given _ _ held
grown_by_stays whose true n inner known held = stays_given _ _ held

grown_stays : (whose : List ℕ) (n : ℕ) (inner : Named) (known : Known) → Held whose known → Stays whose (grown n inner known)
grown_stays whose n inner known held = grown_by_stays whose (not (is_waiting inner.waiting) && is_complete known (inner.ty).ty) n inner known held

remade_stays : (whose : List ℕ) (ty : Qualified) (waiting : Waiting) (known : Known) → Held whose known → Stays whose (remade ty waiting known)
remade_stays whose ty Whole known held = stays_given _ _ held
remade_stays whose ty (OneArray n) known held = grown_stays whose n (record { ty = ty; waiting = Whole }) known held
remade_stays whose ty (TwoArrays n m) known held = stays_on _ _ _ (grown_stays whose m (record { ty = ty; waiting = Whole }) known held) (λ inner k c. grown_stays whose n inner k c)
remade_stays whose ty Never known held = stays_given _ _ held

pub specifiers_stays : (whose : List ℕ) (site : Site) (g : Gathered) (line : ℕ) (known : Known) → Held whose known → Stays whose (specifiers site g line known)
specifiers_stays whose site g line known held = stays_wanted _ kind.Declare line (base_type g.words g.bases) known _
    (λ named. stays_tried _ ((not (is_orderly g && (qualifies_once g.words named.ty && may_stand known site g.words)), kind.Declare) ∷ []) line known _
    (stays_on _ (remade named.ty named.waiting known) (λ whole. given (said g.words whole line)) (remade_stays whose named.ty named.waiting known held) (λ whole k c. stays_given _ k c)))

pub type_name_stays : (whose : List ℕ) (s : Symbol) (g : Gathered) (known : Known) → Held whose known → Stays whose (type_name_rule s g known)
type_name_stays whose s g known held = stays_wanted _ kind.Name s.line (named_base (meaning_of known s.bytes)) known _ (λ base. stays_given _ known held)

enum_of_stays : (whose : List ℕ) (found : Option Tag) (line : ℕ) (g : Gathered) (known : Known) → Held whose known → Stays whose (go_on (λ base. given (with_base base g)) (enum_of found line known))
enum_of_stays whose None line g known held = stays_broken _ _ _
enum_of_stays whose (Some (StructTag number)) line g known held = stays_broken _ _ _
enum_of_stays whose (Some EnumTag) line g known held = stays_given _ known held

pub enum_stays : (whose : List ℕ) (n : Symbol) (line : ℕ) (g : Gathered) (known : Known) → Held whose known → Stays whose (enum_rule n line g known)
enum_stays whose n line g known held = enum_of_stays whose (tagged known n.bytes) line g known held

named_spec_stays : (whose : List ℕ) (s : SpecTree) (g : Gathered) (known : Known) → Held whose known → Stays whose (named_spec s g known)
named_spec_stays whose (tree.OneWord s) g known held = stays_given _ known held
named_spec_stays whose (tree.Tagged k n) g known held = stays_broken _ _ _
named_spec_stays whose (tree.Body k tag op m ms c) g known held = stays_broken _ _ _
named_spec_stays whose (tree.NamedType s) g known held = type_name_stays whose s g known held
named_spec_stays whose (tree.EnumTagged k n) g known held = enum_stays whose n k g known held
named_spec_stays whose (tree.EnumBody k tag op e es last c) g known held = stays_broken _ _ _

more_named_stays : (whose : List ℕ) (ss : MoreSpecs) (g : Gathered) (known : Known) → Held whose known → Stays whose (more_named_specs ss g known)
more_named_stays whose tree.NoSpec g known held = stays_given g known held
more_named_stays whose (tree.AndSpec s ss) g known held = stays_on _ _ _ (named_spec_stays whose s g known held) (λ more k c. more_named_stays whose ss more k c)

named_stays : (whose : List ℕ) (s : SpecTrees) (known : Known) → Held whose known → Stays whose (named_specs s known)
named_stays whose (tree.Specified s ss) known held = stays_on _ _ _ (named_spec_stays whose s nothing_gathered known held) (λ first k c. more_named_stays whose ss first k c)

pub type_stays : (whose : List ℕ) (t : TypeTree) (known : Known) → Held whose known → Stays whose (type_named t known)
type_stays whose (tree.TypeOf specs pointers) known held = stays_on _ _ _ (named_stays whose specs known held)
    (λ g k c. stays_on _ _ _ (specifiers_stays whose OfTypeName g (specs_line specs) k c)
    (λ base k2 c2. stays_tried _ ((is_waiting base.waiting, kind.Incomplete) ∷ []) base.line k2 _ (pointers_stays pointers whose base.ty k2 c2)))
