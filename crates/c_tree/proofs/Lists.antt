-- The tokens of trees that are made from lists: those of the parts, one behind the other.
use Rattle.std.proofs.Common.{◌≡◌, ℕ, List, [], ◌∷◌, ◌++◌, Option, Some, None, map, refl, sym, ap, ◌∙◌, append_assoc, append-nil}
use Rattle.c_token.specs.declared.token.Keyword.TheVariants as words
use Rattle.c_token.specs.declared.token.Punct.TheVariants as marks
use Rattle.c_nodes.specs.Words.{Symbol, Symbols, key, punct, flat}
use Rattle.c_nodes.specs.Trees.{Tree, Behind, Join, Post, Pre, SpecTree, MemberTree, DeclaratorTree, SuffixTree, ParamTree, spelled, spelled_post, spelled_pre, spelled_spec, spelled_more_specs, spelled_member, spelled_more_members, spelled_declarator, spelled_more_declarators, spelled_suffix, spelled_suffixes, spelled_param, spelled_more_params, EnumeratorTree, spelled_enumerator, spelled_more_enumerators}
use Rattle.c_nodes.specs.Lists.{posted, prefixed, joined, listed, ChoiceParts, chosen, assigned, more_specs, more_members, more_declarators, suffixes_of, more_params, more_enumerators}
use Rattle.c_nodes.specs.Programs.{InitTree, spelled_init, spelled_more_inits, BegunTree, spelled_begun, spelled_more_begun, DeclarationTree, spelled_declaration, spelled_declarations, StatementTree, spelled_statement, spelled_statements, ArmTree, spelled_arm, spelled_arms, spelled_items, ItemTree, spelled_item, spelled_unit}
use Rattle.c_nodes.specs.ProgramViews.{more_inits, statements_of, arms_of, InnerTree, LabelInner, StatementInner, items_of}
use Rattle.c_tree.specs.Statements.{spelled_inner, spelled_otherwise}

-- what stands behind stays behind
more : (a : Symbols) {b c : Symbols} → b ≡ c → a ++ b ≡ a ++ c
more a e = ap (λ (l : Symbols). a ++ l) e

pub spelled_posted : {A : Type 0} (f : A → Post) (xs : List A) (e : Tree) → spelled (posted e (map f xs)) ≡ spelled e ++ flat (map (λ x. spelled_post (f x)) xs)
spelled_posted f [] e = sym (append-nil (spelled e))
spelled_posted f (x ∷ xs) e = spelled_posted f xs (Behind e (f x)) ∙ append_assoc (spelled e) (spelled_post (f x)) (flat (map (λ x. spelled_post (f x)) xs))

pub spelled_joined : {A : Type 0} (f : A → Symbol × Tree) (xs : List A) (a : Tree) → spelled (joined a (map f xs)) ≡ spelled a ++ flat (map (λ x. (f x).0 ∷ spelled (f x).1) xs)
spelled_joined f [] a = sym (append-nil (spelled a))
spelled_joined f (x ∷ xs) a = spelled_joined f xs (Join (f x).0 a (f x).1) ∙ append_assoc (spelled a) ((f x).0 ∷ spelled (f x).1) (flat (map (λ x. (f x).0 ∷ spelled (f x).1) xs))

pub spelled_listed : {A : Type 0} (f : A → ℕ × Tree) (xs : List A) (a : Tree) → spelled (listed a (map f xs)) ≡ spelled a ++ flat (map (λ x. punct marks.Comma (f x).0 ∷ spelled (f x).1) xs)
spelled_listed f [] a = sym (append-nil (spelled a))
spelled_listed f (x ∷ xs) a = spelled_listed f xs (Join (punct marks.Comma (f x).0) a (f x).1) ∙ append_assoc (spelled a) (punct marks.Comma (f x).0 ∷ spelled (f x).1) (flat (map (λ x. punct marks.Comma (f x).0 ∷ spelled (f x).1) xs))

pub spelled_prefixed : {A : Type 0} (f : A → Pre) (xs : List A) (e : Tree) → spelled (prefixed (map f xs) e) ≡ flat (map (λ x. spelled_pre (f x)) xs) ++ spelled e
spelled_prefixed f [] e = refl
spelled_prefixed f (x ∷ xs) e = more (spelled_pre (f x)) (spelled_prefixed f xs e) ∙ sym (append_assoc (spelled_pre (f x)) (flat (map (λ x. spelled_pre (f x)) xs)) (spelled e))

pub spelled_chosen : {A : Type 0} (f : A → ChoiceParts) (xs : List A) (e : Tree) → spelled (chosen (map f xs) e) ≡ flat (map (λ x. spelled (f x).0 ++ punct marks.Question (f x).1 ∷ (spelled (f x).2 ++ punct marks.Colon (f x).3 ∷ [])) xs) ++ spelled e
spelled_chosen f [] e = refl
spelled_chosen f (x ∷ xs) e =
    let rest : Symbols = flat (map (λ x. spelled (f x).0 ++ punct marks.Question (f x).1 ∷ (spelled (f x).2 ++ punct marks.Colon (f x).3 ∷ [])) xs) in
    let choice : Symbols = spelled (f x).0 ++ punct marks.Question (f x).1 ∷ (spelled (f x).2 ++ punct marks.Colon (f x).3 ∷ []) in
    more (spelled (f x).0) (ap (λ (l : Symbols). punct marks.Question (f x).1 ∷ (spelled (f x).2 ++ punct marks.Colon (f x).3 ∷ l)) (spelled_chosen f xs e) ∙ ap (λ (l : Symbols). punct marks.Question (f x).1 ∷ l) (sym (append_assoc (spelled (f x).2) (punct marks.Colon (f x).3 ∷ []) (rest ++ spelled e))))
    ∙ sym (append_assoc (spelled (f x).0) (punct marks.Question (f x).1 ∷ (spelled (f x).2 ++ punct marks.Colon (f x).3 ∷ [])) (rest ++ spelled e))
    ∙ sym (append_assoc choice rest (spelled e))

pub spelled_assigned : {A : Type 0} (f : A → Tree × Symbol) (xs : List A) (e : Tree) → spelled (assigned (map f xs) e) ≡ flat (map (λ x. spelled (f x).0 ++ (f x).1 ∷ []) xs) ++ spelled e
spelled_assigned f [] e = refl
spelled_assigned f (x ∷ xs) e =
    let rest : Symbols = flat (map (λ x. spelled (f x).0 ++ (f x).1 ∷ []) xs) in
    more (spelled (f x).0) (ap (λ (l : Symbols). (f x).1 ∷ l) (spelled_assigned f xs e))
    ∙ sym (append_assoc (spelled (f x).0) ((f x).1 ∷ []) (rest ++ spelled e))
    ∙ sym (append_assoc (spelled (f x).0 ++ (f x).1 ∷ []) rest (spelled e))

pub specs_listed : {A : Type 0} (f : A → SpecTree) (xs : List A) → spelled_more_specs (more_specs (map f xs)) ≡ flat (map (λ x. spelled_spec (f x)) xs)
specs_listed f [] = refl
specs_listed f (x ∷ xs) = more (spelled_spec (f x)) (specs_listed f xs)

pub members_listed : {A : Type 0} (f : A → MemberTree) (xs : List A) → spelled_more_members (more_members (map f xs)) ≡ flat (map (λ x. spelled_member (f x)) xs)
members_listed f [] = refl
members_listed f (x ∷ xs) = more (spelled_member (f x)) (members_listed f xs)

pub declarators_listed : {A : Type 0} (f : A → ℕ × DeclaratorTree) (xs : List A) → spelled_more_declarators (more_declarators (map f xs)) ≡ flat (map (λ x. punct marks.Comma (f x).0 ∷ spelled_declarator (f x).1) xs)
declarators_listed f [] = refl
declarators_listed f (x ∷ xs) = more (punct marks.Comma (f x).0 ∷ spelled_declarator (f x).1) (declarators_listed f xs)

pub suffixes_listed : {A : Type 0} (f : A → SuffixTree) (xs : List A) → spelled_suffixes (suffixes_of (map f xs)) ≡ flat (map (λ x. spelled_suffix (f x)) xs)
suffixes_listed f [] = refl
suffixes_listed f (x ∷ xs) = more (spelled_suffix (f x)) (suffixes_listed f xs)

pub params_listed : {A : Type 0} (f : A → ℕ × ParamTree) (xs : List A) → spelled_more_params (more_params (map f xs)) ≡ flat (map (λ x. punct marks.Comma (f x).0 ∷ spelled_param (f x).1) xs)
params_listed f [] = refl
params_listed f (x ∷ xs) = more (punct marks.Comma (f x).0 ∷ spelled_param (f x).1) (params_listed f xs)

pub enumerators_listed : {A : Type 0} (f : A → ℕ × EnumeratorTree) (xs : List A) → spelled_more_enumerators (more_enumerators (map f xs)) ≡ flat (map (λ x. punct marks.Comma (f x).0 ∷ spelled_enumerator (f x).1) xs)
enumerators_listed f [] = refl
enumerators_listed f (x ∷ xs) = more (punct marks.Comma (f x).0 ∷ spelled_enumerator (f x).1) (enumerators_listed f xs)

pub inits_listed : {A : Type 0} (f : A → ℕ × InitTree) (xs : List A) → spelled_more_inits (more_inits (map f xs)) ≡ flat (map (λ x. punct marks.Comma (f x).0 ∷ spelled_init (f x).1) xs)
inits_listed f [] = refl
inits_listed f (x ∷ xs) = more (punct marks.Comma (f x).0 ∷ spelled_init (f x).1) (inits_listed f xs)

pub begun_listed : {A : Type 0} (f : A → ℕ × BegunTree) (xs : List A) → spelled_more_begun (map f xs) ≡ flat (map (λ x. punct marks.Comma (f x).0 ∷ spelled_begun (f x).1) xs)
begun_listed f [] = refl
begun_listed f (x ∷ xs) = more (punct marks.Comma (f x).0 ∷ spelled_begun (f x).1) (begun_listed f xs)

pub declarations_listed : {A : Type 0} (f : A → DeclarationTree) (xs : List A) → spelled_declarations (map f xs) ≡ flat (map (λ x. spelled_declaration (f x)) xs)
declarations_listed f [] = refl
declarations_listed f (x ∷ xs) = more (spelled_declaration (f x)) (declarations_listed f xs)

pub statements_listed : {A : Type 0} (f : A → StatementTree) (xs : List A) → spelled_statements (statements_of (map f xs)) ≡ flat (map (λ x. spelled_statement (f x)) xs)
statements_listed f [] = refl
statements_listed f (x ∷ xs) = more (spelled_statement (f x)) (statements_listed f xs)

-- the arms behind the first, with what stands behind `else`
pub arms_listed : {A : Type 0} (f : A → ℕ × ArmTree) (xs : List A) (last : Option (ℕ × StatementTree)) → spelled_arms (arms_of (map f xs) last) ≡ flat (map (λ x. key words.Else (f x).0 ∷ spelled_arm (f x).1) xs) ++ spelled_otherwise last
arms_listed f [] None = refl
arms_listed f [] (Some e) = refl
arms_listed f (x ∷ xs) last =
    let rest : Symbols = flat (map (λ x. key words.Else (f x).0 ∷ spelled_arm (f x).1) xs) in
    more (key words.Else (f x).0 ∷ spelled_arm (f x).1) (arms_listed f xs last) ∙ sym (append_assoc (key words.Else (f x).0 ∷ spelled_arm (f x).1) rest (spelled_otherwise last))

one_item : (i : InnerTree) (is : List InnerTree) → spelled_items (items_of (i ∷ is)) ≡ spelled_inner i ++ spelled_items (items_of is)
one_item (LabelInner l) is = refl
one_item (StatementInner s) is = refl

pub items_listed : {A : Type 0} (f : A → InnerTree) (xs : List A) → spelled_items (items_of (map f xs)) ≡ flat (map (λ x. spelled_inner (f x)) xs)
items_listed f [] = refl
items_listed f (x ∷ xs) = one_item (f x) (map f xs) ∙ more (spelled_inner (f x)) (items_listed f xs)

pub unit_listed : {A : Type 0} (f : A → ItemTree) (xs : List A) → spelled_unit (map f xs) ≡ flat (map (λ x. spelled_item (f x)) xs)
unit_listed f [] = refl
unit_listed f (x ∷ xs) = more (spelled_item (f x)) (unit_listed f xs)
