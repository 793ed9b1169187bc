-- Declarations in the file and in blocks: each static object has the name of its declarator, or FUNCTION.K.NAME.
use Rattle.std.proofs.Common.{◌≡◌, ℕ, Bool, true, false, ◌||◌, if◌then◌else◌, List, [], ◌∷◌, ◌++◌, Option, Some, None, is_some, sym, subst}
use Rattle.c_token.specs.Longest.{is_word}
use Rattle.c_token.specs.declared.token.Punct.TheVariants as marks
use Rattle.c_nodes.specs.Programs.{InitTree, BegunTree, DeclaredTrees, DeclarationTree, IsBegun, AreMoreBegun, AreDeclared, IsDeclaration, AreDeclarations, spelled_equals, spelled_begun, spelled_more_begun, spelled_declared, spelled_declaration, spelled_declarations}
use Rattle.c_nodes.specs.Trees.{spelled_specs, spelled_declarator}
use Rattle.c_nodes.specs.Words.{punct}
use Rattle.c_typed.specs.declared.types.Qualified.{Qualified}
use Rattle.c_typed.specs.declared.types.Ty.{Ty}
use Rattle.type_rules.specs.Declarations.{param_types, function_number, function_tests, function_added, set_defined, function_rule, init_in, no_value, file_object, file_declared, type_tests, type_rule, declared_as, file_declarator, more_in_file, declared_in_file, file_declaration, block_object, block_declarator, more_in_block, declared_in_block, block_declaration, block_declarations}
use Rattle.type_rules.specs.Declarators.{in_file, in_block, name_in, line_in}
use Rattle.type_rules.specs.Faults as kind
use Rattle.type_rules.specs.Known.{Known, given, go_on}
use Rattle.type_rules.specs.Names.{innermost_in, is_declared}
use Rattle.type_rules.specs.Objects.{static_rule, block_name, next_declarator, local_rule}
use Rattle.type_rules.specs.Outlines.{Param, Declared, ObjectDeclared, FunctionDeclared, Outline}
use Rattle.type_rules.specs.Slots.{nothing_begun}
use Rattle.type_rules.specs.Specifiers.{Specified}
use Rattle.program_laws.specs.Named.{AreWords, IsDotted, Held, Stays}
use Rattle.program_laws.proofs.Declarators.{specified_stays, outline_stays}
use Rattle.program_laws.proofs.Initializers.{begins_stays}
use Rattle.program_laws.proofs.Objects.{object_stays, static_stays, local_stays}
use Rattle.program_laws.proofs.Steps.{stays_given, stays_broken, stays_on, stays_tests, stays_tried}
use Rattle.program_laws.proofs.Words.{words_left, words_right, declared_word, word_dotted, block_dotted}

-- ---- functions

defined_stays : (whose : List ℕ) (defines : Bool) (number : ℕ) (known : Known) → Held whose known → Stays whose (set_defined defines number known)
defined_stays whose false number known held = stays_given _ known held
defined_stays whose true number known held = stays_given _ _ held

added_stays : (whose : List ℕ) (found : Option ℕ) (name : List ℕ) (result : Qualified) (params : List Ty) (known : Known) → Held whose known → Stays whose (function_added found name result params known)
added_stays whose (Some number) name result params known held = stays_given number known held
added_stays whose None name result params known held = stays_given _ _ held

pub function_rule_stays : (whose name : List ℕ) (result : Qualified) (params : List Param) (bad defines : Bool) (line : ℕ) (known : Known) → Held whose known → Stays whose (function_rule name result params bad defines line known)
function_rule_stays whose name result params bad defines line known held = stays_tried _ (function_tests known name result (param_types params) bad defines) line known _
    (stays_on _ _ _ (added_stays whose (function_number (innermost_in known.scopes name)) name result (param_types params) known held) (λ number k g. defined_stays whose defines number k g))

no_value_stays : (whose : List ℕ) (init : Option InitTree) (line : ℕ) (known : Known) → Held whose known → Stays whose (no_value init line known)
no_value_stays whose None line known held = stays_given _ known held
no_value_stays whose (Some init) line known held = stays_on _ _ _ (begins_stays init whose None false (nothing_begun true line) known held) (λ b k g. stays_broken _ _ _)

-- ---- in the file

module _ (whose : List ℕ) (said : Specified) (o : Outline) (init : Option InitTree) (name : List ℕ) (line : ℕ) (known : Known) (word : is_word name ≡ true) (held : Held whose known) where
  object_in_file : Stays whose (file_object said o init name line known)
  object_in_file = stays_tried _ ((is_declared known name, kind.Again) ∷ []) line known _ (stays_on _ _ _ (object_stays whose said o (is_some init) line known held)
      (λ ty k g. static_stays whose init name name ty line k (word_dotted name word) g))

  declared_stays : (declared : Declared) → Stays whose (file_declared declared said o init name line known)
  declared_stays (FunctionDeclared result params scope) = stays_on _ _ _ (function_rule_stays whose name result params o.bad false line known held) (λ u k g. no_value_stays whose init line k g)
  declared_stays (ObjectDeclared ty) = object_in_file

  type_rule_stays : Stays whose (type_rule said o (is_some init) name line known)
  type_rule_stays = stays_tried _ (type_tests known said o (is_some init) name) line known _ (stays_given _ _ held)

  either_stays : (is_type : Bool) → Stays whose ((if is_type then type_rule said o (is_some init) name line else file_declared o.declared said o init name line) known)
  either_stays true = type_rule_stays
  either_stays false = declared_stays o.declared

  declared_as_stays : Stays whose (declared_as said o init name line known)
  declared_as_stays = either_stays said.is_typedef

module _ (whose : List ℕ) where
  begun_word : (b : BegunTree) → IsBegun b → AreWords (spelled_begun b) → is_word (name_in b.declarator) ≡ true
  begun_word b is words = declared_word b.declarator is.0 (words_left (spelled_declarator b.declarator) (spelled_equals b.init) words)

  file_declarator_stays : (b : BegunTree) (said : Specified) (known : Known) → IsBegun b → AreWords (spelled_begun b) → Held whose known → Stays whose (file_declarator b said known)
  file_declarator_stays b said known is words held = stays_on _ _ _ (outline_stays whose b.declarator said true known held)
      (λ o k g. declared_as_stays whose said o (init_in b.init) (name_in b.declarator) (line_in b.declarator) k (begun_word b is words) g)

  more_in_file_stays : (bs : List (ℕ × BegunTree)) (said : Specified) (known : Known) → AreMoreBegun bs → AreWords (spelled_more_begun bs) → Held whose known → Stays whose (more_in_file bs said known)
  more_in_file_stays [] said known are words held = stays_given _ known held
  more_in_file_stays (b ∷ bs) said known are words held = stays_on _ _ _ (file_declarator_stays b.1 said known are.0 (words_left (spelled_begun b.1) (spelled_more_begun bs) words.1) held)
      (λ u k g. more_in_file_stays bs said k are.1 (words_right (spelled_begun b.1) (spelled_more_begun bs) words.1) g)

  in_file_stays : (d : Option DeclaredTrees) (said : Specified) (known : Known) → AreDeclared d → AreWords (spelled_declared d) → Held whose known → Stays whose (declared_in_file d said known)
  in_file_stays None said known are words held = stays_tests _ ((said.interrupt || said.is_typedef, kind.Declare) ∷ []) said.line known held
  in_file_stays (Some d) said known are words held = stays_on _ _ _ (file_declarator_stays d.0 said known are.0 (words_left (spelled_begun d.0) (spelled_more_begun d.1) words) held)
      (λ u k g. more_in_file_stays d.1 said k are.1 (words_right (spelled_begun d.0) (spelled_more_begun d.1) words) g)

  -- the declarators of a declaration
  declared_words : (d : DeclarationTree) → AreWords (spelled_declaration d) → AreWords (spelled_declared d.declared)
  declared_words d words = words_left (spelled_declared d.declared) (punct marks.Semicolon d.semicolon ∷ []) (words_right (spelled_specs d.specs) (spelled_declared d.declared ++ punct marks.Semicolon d.semicolon ∷ []) words)

  pub file_declaration_stays : (d : DeclarationTree) (known : Known) → IsDeclaration d → AreWords (spelled_declaration d) → Held whose known → Stays whose (file_declaration d known)
  file_declaration_stays d known is words held = stays_on _ _ _ (specified_stays d.specs whose in_file known held) (λ said k g. in_file_stays d.declared said k is.1 (declared_words d words) g)

  -- ---- in blocks

  object_by : (fixed register : Bool) (init : Option InitTree) (map_name : Known → List ℕ) (name : List ℕ) (q : Qualified) (line : ℕ) (known : Known) → IsDotted (map_name known) → Held whose known
      → Stays whose ((if fixed then (λ k. go_on (λ u. given []) (static_rule init (map_name k) name q line k)) else local_rule init name q register line) known)
  object_by true register init map_name name q line known dotted held = stays_on _ _ (λ u. given []) (static_stays whose init (map_name known) name q line known dotted held) (λ u k g. stays_given _ _ g)
  object_by false register init map_name name q line known dotted held = local_stays whose init name q register line known held

  module _ (word : is_word whose ≡ true) where
    held_dotted : (n : ℕ) (name : List ℕ) (known : Known) → is_word name ≡ true → Held whose known → IsDotted (block_name (known.body).name n name)
    held_dotted n name known is held = subst (λ z. IsDotted (block_name z n name)) (sym held.1) (block_dotted whose n name word is)

    block_declarator_stays : (b : BegunTree) (said : Specified) (known : Known) → IsBegun b → AreWords (spelled_begun b) → Held whose known → Stays whose (block_declarator b said known)
    block_declarator_stays b said known is words held = stays_on _ _ _ (outline_stays whose b.declarator said false known held)
        (λ o k g. stays_tried _ ((is_declared k (name_in b.declarator), kind.Again) ∷ []) (line_in b.declarator) k _
        (stays_on _ _ (λ ty. λ k2. go_on (λ n. block_object said ty (init_in b.init) (name_in b.declarator) n (line_in b.declarator)) (next_declarator k2)) (object_stays whose said o (is_some b.init) (line_in b.declarator) k g)
        (λ ty k2 g2. stays_on _ (next_declarator k2) (λ n. block_object said ty (init_in b.init) (name_in b.declarator) n (line_in b.declarator)) (stays_given _ _ g2)
        (λ n k3 g3. object_by said.fixed said.register (init_in b.init) (λ z. block_name (z.body).name n (name_in b.declarator)) (name_in b.declarator) ty (line_in b.declarator) k3 (held_dotted n (name_in b.declarator) k3 (begun_word b is words) g3) g3))))

    more_in_block_stays : (bs : List (ℕ × BegunTree)) (said : Specified) (known : Known) → AreMoreBegun bs → AreWords (spelled_more_begun bs) → Held whose known → Stays whose (more_in_block bs said known)
    more_in_block_stays [] said known are words held = stays_given _ known held
    more_in_block_stays (b ∷ bs) said known are words held = stays_on _ _ _ (block_declarator_stays b.1 said known are.0 (words_left (spelled_begun b.1) (spelled_more_begun bs) words.1) held)
        (λ first k g. stays_on _ _ (λ others. given (first ++ others)) (more_in_block_stays bs said k are.1 (words_right (spelled_begun b.1) (spelled_more_begun bs) words.1) g) (λ others k2 g2. stays_given _ _ g2))

    in_block_stays : (d : Option DeclaredTrees) (said : Specified) (known : Known) → AreDeclared d → AreWords (spelled_declared d) → Held whose known → Stays whose (declared_in_block d said known)
    in_block_stays None said known are words held = stays_tried _ ((said.interrupt || said.is_typedef, kind.Declare) ∷ []) said.line known (λ u. given []) (stays_given _ _ held)
    in_block_stays (Some d) said known are words held = stays_on _ _ _ (block_declarator_stays d.0 said known are.0 (words_left (spelled_begun d.0) (spelled_more_begun d.1) words) held)
        (λ first k g. stays_on _ _ (λ others. given (first ++ others)) (more_in_block_stays d.1 said k are.1 (words_right (spelled_begun d.0) (spelled_more_begun d.1) words) g) (λ others k2 g2. stays_given _ _ g2))

    block_declaration_stays : (d : DeclarationTree) (known : Known) → IsDeclaration d → AreWords (spelled_declaration d) → Held whose known → Stays whose (block_declaration d known)
    block_declaration_stays d known is words held = stays_on _ _ _ (specified_stays d.specs whose in_block known held) (λ said k g. in_block_stays d.declared said k is.1 (declared_words d words) g)

    pub block_declarations_stay : (ds : List DeclarationTree) (known : Known) → AreDeclarations ds → AreWords (spelled_declarations ds) → Held whose known → Stays whose (block_declarations ds known)
    block_declarations_stay [] known are words held = stays_given _ _ held
    block_declarations_stay (d ∷ ds) known are words held = stays_on _ _ _ (block_declaration_stays d known are.0 (words_left (spelled_declaration d) (spelled_declarations ds) words) held)
        (λ first k g. stays_on _ _ (λ others. given (first ++ others)) (block_declarations_stay ds k are.1 (words_right (spelled_declaration d) (spelled_declarations ds) words) g) (λ others k2 g2. stays_given _ _ g2))
