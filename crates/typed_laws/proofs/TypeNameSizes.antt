-- Specifiers, pointers and the names of types declare no object.
use Rattle.std.proofs.Common.{ℕ, ◌≤◌, Bool, true, false, not, ◌&&◌, if◌then◌else◌, [], ◌∷◌, Option, Some, None}
use Rattle.c_token.specs.declared.token.Keyword.TheVariants as words
use Rattle.c_token.specs.declared.token.Punct.TheVariants as marks
use Rattle.c_nodes.specs.Kinds.{is_punct, is_key}
use Rattle.c_nodes.specs.Trees as tree
use Rattle.c_nodes.specs.Trees.{TypeTree, SpecTrees, MoreSpecs, SpecTree}
use Rattle.c_nodes.specs.Words.{Symbol, Symbols}
use Rattle.c_typed.specs.declared.types.Qualified.{Qualified}
use Rattle.type_rules.specs.Faults as kind
use Rattle.type_rules.specs.Known.{Waiting, Whole, OneArray, TwoArrays, Never, is_waiting, Tag, StructTag, EnumTag, Known, given, go_on}
use Rattle.type_rules.specs.Names.{meaning_of}
use Rattle.type_rules.specs.Rows.{plain, pointer_to, is_complete, tagged}
use Rattle.type_rules.specs.Specifiers.{Site, OfTypeName, Gathered, nothing_gathered, with_base, base_type, is_orderly, qualifies_once, may_stand, Named, grown_by, grown, remade, said, specifiers, named_base, type_name_rule, specs_line}
use Rattle.type_rules.specs.TypeNames.{with_pointers, enum_of, enum_rule, named_spec, more_named_specs, named_specs, type_named}
use Rattle.typed_laws.specs.Weights.{Met, held, Costs, nothing}
use Rattle.typed_laws.proofs.StepSizes.{met_broken, met_on, met_tried, met_wanted, met_kept}

pub pointer_met : (h : ℕ) (ty : Qualified) (known : Known) → held known ≤ h → Met (Costs h 0 nothing) (pointer_to ty known)
pointer_met h ty known within = met_kept h _ _ within

pointer_by : (ss : Symbols) (h : ℕ) (ty : Qualified) (known : Known) → ((q : Qualified) (k : Known) → held k ≤ h → Met (Costs h 0 nothing) (with_pointers ss q k)) → held known ≤ h → (b c : Bool)
    → Met (Costs h 0 nothing) ((if b then (λ k. go_on (λ pointer. with_pointers ss (plain pointer)) (pointer_to ty k)) else if c then with_pointers ss (record ty { constant = true }) else with_pointers ss (record ty { volatile = true })) known)
pointer_by ss h ty known rest within true c = met_on (Costs h 0 nothing) (Costs h 0 nothing) (pointer_to ty known) (λ pointer. with_pointers ss (plain pointer)) (pointer_met h ty known within) (λ p k g. rest (plain p) k g.within)
pointer_by ss h ty known rest within false true = rest (record ty { constant = true }) known within
pointer_by ss h ty known rest within false false = rest (record ty { volatile = true }) known within

pub pointers_met : (ss : Symbols) (h : ℕ) (ty : Qualified) (known : Known) → held known ≤ h → Met (Costs h 0 nothing) (with_pointers ss ty known)
pointers_met [] h ty known within = met_kept h ty known within
pointers_met (s ∷ ss) h ty known within = pointer_by ss h ty known (pointers_met ss h) within (is_punct marks.Star s.kind) (is_key words.Const s.kind)

grown_by_met : (h : ℕ) (b : Bool) (n : ℕ) (inner : Named) (known : Known) → held known ≤ h → Met (Costs h 0 nothing) (grown_by b n inner known)
grown_by_met h false n inner known within = met_kept h _ _ within
grown_by_met h true n inner known within = met_kept h _ _ within

grown_met : (h n : ℕ) (inner : Named) (known : Known) → held known ≤ h → Met (Costs h 0 nothing) (grown n inner known)
grown_met h n inner known within = grown_by_met h (not (is_waiting inner.waiting) && is_complete known (inner.ty).ty) n inner known within

remade_met : (h : ℕ) (ty : Qualified) (waiting : Waiting) (known : Known) → held known ≤ h → Met (Costs h 0 nothing) (remade ty waiting known)
remade_met h ty Whole known within = met_kept h _ _ within
remade_met h ty (OneArray n) known within = grown_met h n (record { ty = ty; waiting = Whole }) known within
remade_met h ty (TwoArrays n m) known within = met_on (Costs h 0 nothing) _ _ _ (grown_met h m (record { ty = ty; waiting = Whole }) known within) (λ inner k c. grown_met h n inner k c.within)
remade_met h ty Never known within = met_kept h _ _ within

pub specifiers_met : (h : ℕ) (site : Site) (g : Gathered) (line : ℕ) (known : Known) → held known ≤ h → Met (Costs h 0 nothing) (specifiers site g line known)
specifiers_met h site g line known within = met_wanted _ kind.Declare line (base_type g.words g.bases) known _
    (λ named is. met_tried _ ((not (is_orderly g && (qualifies_once g.words named.ty && may_stand known site g.words)), kind.Declare) ∷ []) line known _
    (met_on (Costs h 0 nothing) _ (remade named.ty named.waiting known) (λ whole. given (said g.words whole line)) (remade_met h named.ty named.waiting known within) (λ whole k c. met_kept h _ k c.within)))

pub type_name_met : (h : ℕ) (s : Symbol) (g : Gathered) (known : Known) → held known ≤ h → Met (Costs h 0 nothing) (type_name_rule s g known)
type_name_met h s g known within = met_wanted _ kind.Name s.line (named_base (meaning_of known s.bytes)) known _ (λ base is. met_kept h _ known within)

enum_of_met : (h : ℕ) (found : Option Tag) (line : ℕ) (g : Gathered) (known : Known) → held known ≤ h → Met (Costs h 0 nothing) (go_on (λ base. given (with_base base g)) (enum_of found line known))
enum_of_met h None line g known within = met_broken _ _
enum_of_met h (Some (StructTag number)) line g known within = met_broken _ _
enum_of_met h (Some EnumTag) line g known within = met_kept h _ known within

pub enum_met : (h : ℕ) (n : Symbol) (line : ℕ) (g : Gathered) (known : Known) → held known ≤ h → Met (Costs h 0 nothing) (enum_rule n line g known)
enum_met h n line g known within = enum_of_met h (tagged known n.bytes) line g known within

named_spec_met : (h : ℕ) (s : SpecTree) (g : Gathered) (known : Known) → held known ≤ h → Met (Costs h 0 nothing) (named_spec s g known)
named_spec_met h (tree.OneWord s) g known within = met_kept h _ known within
named_spec_met h (tree.Tagged k n) g known within = met_broken _ _
named_spec_met h (tree.Body k tag op m ms c) g known within = met_broken _ _
named_spec_met h (tree.NamedType s) g known within = type_name_met h s g known within
named_spec_met h (tree.EnumTagged k n) g known within = enum_met h n k g known within
named_spec_met h (tree.EnumBody k tag op e es last c) g known within = met_broken _ _

more_named_met : (h : ℕ) (ss : MoreSpecs) (g : Gathered) (known : Known) → held known ≤ h → Met (Costs h 0 nothing) (more_named_specs ss g known)
more_named_met h tree.NoSpec g known within = met_kept h g known within
more_named_met h (tree.AndSpec s ss) g known within = met_on (Costs h 0 nothing) _ _ _ (named_spec_met h s g known within) (λ more k c. more_named_met h ss more k c.within)

named_met : (h : ℕ) (s : SpecTrees) (known : Known) → held known ≤ h → Met (Costs h 0 nothing) (named_specs s known)
named_met h (tree.Specified s ss) known within = met_on (Costs h 0 nothing) _ _ _ (named_spec_met h s nothing_gathered known within) (λ first k c. more_named_met h ss first k c.within)

pub type_met : (h : ℕ) (t : TypeTree) (known : Known) → held known ≤ h → Met (Costs h 0 nothing) (type_named t known)
type_met h (tree.TypeOf specs pointers) known within = met_on (Costs h 0 nothing) _ _ _ (named_met h specs known within)
    (λ g k c. met_on (Costs h 0 nothing) _ _ _ (specifiers_met h OfTypeName g (specs_line specs) k c.within)
    (λ base k2 c2. met_tried _ ((is_waiting base.waiting, kind.Incomplete) ∷ []) base.line k2 _ (pointers_met pointers h base.ty k2 c2.within)))
