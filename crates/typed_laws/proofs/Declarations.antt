-- Declarations in blocks: their statements fit, and what is known goes on.
use Rattle.std.proofs.Common.{◌≡◌, ℕ, ◌+◌, ◌≤◌, Bool, true, false, not, ◌&&◌, ◌||◌, if◌then◌else◌, nat_lt, List, [], ◌∷◌, ◌++◌, Option, Some, None, is_some, Result, Ok, Err, inl, inr, refl, sym, ap, ◌∙◌, subst, arith, true≢false}
use Rattle.std.specs.Prelude.{slice_get}
use Rattle.std.proofs.lemmas.Bool.{and_parts, and_from, or_parts, or_left, false≢true}
use Rattle.std.proofs.lemmas.Grind.{common_steps}
use Rattle.c_nodes.specs.Programs.{InitTree, BegunTree, DeclaredTrees, DeclarationTree}
use Rattle.c_typed.specs.Sameness.{is_array}
use Rattle.c_typed.specs.Sound.{statement_fits, statements_fit}
use Rattle.c_typed.specs.Trees.{Statement, VariableTree, FunctionTree, Program}
use Rattle.c_typed.specs.declared.types.Qualified.{Qualified}
use Rattle.type_rules.specs.Declarations.{init_in, block_object, block_declarator, more_in_block, declared_in_block, block_declaration, block_declarations}
use Rattle.type_rules.specs.Declarators.{in_block, name_in, line_in}
use Rattle.type_rules.specs.Faults as kind
use Rattle.type_rules.specs.Faults.{Kind, Fault}
use Rattle.type_rules.specs.Known.{is_waiting, Known, Rule, given, tried, go_on, Body}
use Rattle.type_rules.specs.Names.{is_declared}
use Rattle.type_rules.specs.Objects.{object_rule, static_rule, block_name, local_rule}
use Rattle.type_rules.specs.Outlines.{Declared, ObjectDeclared, FunctionDeclared, Outline, is_function, object_type}
use Rattle.type_rules.specs.Rows.{bytes_of, is_complete}
use Rattle.type_rules.specs.Specifiers.{Specified}
use Rattle.type_rules.specs.Statements.{statements_of}
use Rattle.typed_laws.specs.Living.{IsNamed, Steady, Moves, Steps, AreDeclared}
use Rattle.typed_laws.specs.Objects.{IsDeclaredAs}
use Rattle.typed_laws.specs.Spreading.{Spreads, Runs, IsRefused, IsDeclared, Doomed, Fates}
use Rattle.typed_laws.specs.Tables.{Stands, IsBase, Orderly}
use Rattle.typed_laws.proofs.Adding.{orderly_other, names_more}
use Rattle.typed_laws.proofs.Enumerating.{enumerated_outside, enumerated_all}
use Rattle.typed_laws.proofs.Declarators.{specified_runs, outline_fates, base_grows}
use Rattle.typed_laws.proofs.Living.{sized_grows, static_grows, steps_given, steps_broken, steps_wider, steps_on, steps_test}
use Rattle.typed_laws.proofs.Locals.{local_runs}
use Rattle.typed_laws.proofs.Operators.{not_false}
use Rattle.typed_laws.proofs.Spreading.{stands_grows, begins_back, scopes_grow}
use Rattle.typed_laws.proofs.Statics.{static_runs}

-- ---- what declares types leaves all else

module _ (params : List VariableTree) where
  pub spread_moves : (a b : Known) → Spreads None false a b → Moves true params a b
  spread_moves a b s = record {
    grows = s.grows;
    lives = λ p f l. record {
      begins = begins_back a b s.grows s.signatures p l.begins;
      statics = λ n x h. l.statics n x (ap (λ z. slice_get z n) s.statics ∙ h);
      params_are = l.params_are;
      locals = λ n v h. l.locals n v (ap (λ (z : Body). slice_get z.locals n) s.body ∙ h);
      result = l.result ∙ ap (λ (z : Body). z.result) s.body;
    };
    statics = λ n x h. ap (λ z. slice_get z n) s.statics ∙ h;
    scopes = enumerated_outside a.scopes b.scopes s.scopes;
    signatures = s.signatures;
    definitions = s.definitions;
    result = ap (λ (z : Body). z.result) s.body;
  }

  pub spread_steady : (a b : Known) → Steady params a → Spreads None false a b → Orderly b → Steady params b
  spread_steady a b y s o = record {
    orderly = o;
    named = enumerated_all (IsNamed params b) (λ n. tt) a.scopes b.scopes s.scopes
        (names_more params a b (λ n x h. ap (λ z. slice_get z n) s.statics ∙ h) (λ n v h. ap (λ (z : Body). slice_get z.locals n) s.body ∙ h) a.scopes y.named);
    statics = λ n x h. static_grows a b s.grows y.orderly x (y.statics n x (ap (λ z. slice_get z n) (sym s.statics) ∙ h));
    locals = λ n v h. sized_grows a b s.grows y.orderly (v.ty).ty (y.locals n v (ap (λ (z : Body). slice_get z.locals n) (sym s.body) ∙ h));
    result = subst (Stands b) (ap (λ (z : Body). z.result) (sym s.body)) (stands_grows a b s.grows y.orderly (a.body).result y.result);
  }

  pub from_spread : {A B : Type 0} (P : A → Known → Type 0) (Q : B → Known → Type 0) (before : Known) (r : Result (A × Known) Fault) (second : A → Rule B) → Steady params before → Runs None false before P r
      → ((x : A) (mid : Known) → Moves true params before mid → Steady params mid → P x mid → Steps true params mid Q (second x mid)) → Steps true params before Q (go_on second r)
  unfolding Runs Steps
  from_spread P Q before (Ok x) second y g more = steps_wider params true Q before x.1 (second x.0 x.1) (spread_moves before x.1 g.spreads) (more x.0 x.1 (spread_moves before x.1 g.spreads) (spread_steady before x.1 y g.spreads g.orderly) g.holds)
  from_spread P Q before (Err fault) second y g more = tt

  refused_steps : {B : Type 0} (Q : B → Known → Type 0) (before : Known) (r : Result (B × Known) Fault) → IsRefused r → Steps true params before Q r
  unfolding Steps
  refused_steps Q before (Ok x) h = absurd h
  refused_steps Q before (Err fault) h = tt

  pub from_fates : (D : Outline → Type 0) (P : Outline → Known → Type 0) {B : Type 0} (Q : B → Known → Type 0) (before : Known) (r : Result (Outline × Known) Fault) (second : Outline → Rule B) → Steady params before → Fates before D P r
      → ((o : Outline) (mid : Known) → D o → IsRefused (second o mid)) → ((o : Outline) (mid : Known) → Moves true params before mid → Steady params mid → P o mid → Steps true params mid Q (second o mid)) → Steps true params before Q (go_on second r)
  unfolding Fates
  from_fates D P Q before (Err fault) second y g refused more = steps_broken params true Q before fault
  from_fates D P Q before (Ok x) second y (inl d) refused more = refused_steps Q before (second x.0 x.1) (refused x.0 x.1 d)
  from_fates D P Q before (Ok x) second y (inr g) refused more = steps_wider params true Q before x.1 (second x.0 x.1) (spread_moves before x.1 g.spreads) (more x.0 x.1 (spread_moves before x.1 g.spreads) (spread_steady before x.1 y g.spreads g.orderly) g.holds)

-- ---- the rule of an object

pub refused_on : {A B : Type 0} (r : Result (A × Known) Fault) (second : A → Rule B) → IsRefused r → IsRefused (go_on second r)
refused_on (Ok x) second h = absurd h
refused_on (Err fault) second h = tt

refused_tests : {B : Type 0} (a b c : Bool) (k l m : Kind) (line : ℕ) (second : Known → Rule B) (known : Known) → a ≡ true → IsRefused (go_on second (tried ((a, k) ∷ (b, l) ∷ (c, m) ∷ []) line known))
refused_tests true b c k l m line second known h = tt
refused_tests false b c k l m line second known h = absurd (false≢true h)

pub object_refused : (said : Specified) (o : Outline) (begun : Bool) (line : ℕ) (known : Known) → Doomed o → IsRefused (object_rule said o begun line known)
object_refused said o begun line known d = refused_tests (o.bad || (is_function o.declared || said.interrupt)) (nat_lt 65535 (bytes_of known (object_type o.declared).ty)) (is_waiting o.waiting || not ((begun && is_array (object_type o.declared).ty) || is_complete known (object_type o.declared).ty)) kind.Declare kind.Size kind.Incomplete line _ known (or_left o.bad (is_function o.declared || said.interrupt) d)

pub declared_as : (known : Known) (begun interrupt : Bool) (declared : Declared) → IsDeclared known declared → (is_function declared || interrupt) ≡ false → nat_lt 65535 (bytes_of known (object_type declared).ty) ≡ false
    → ((begun && is_array (object_type declared).ty) || is_complete known (object_type declared).ty) ≡ true → IsDeclaredAs known begun (object_type declared)
declared_as known begun interrupt (FunctionDeclared result ps scope) h object small whole = absurd (true≢false object)
declared_as known begun interrupt (ObjectDeclared q) h object small whole = record { stands = h; whole = whole; small = few (bytes_of known q.ty) small }
  where
    few : (n : ℕ) → nat_lt 65535 n ≡ false → n ≤ 65535
    few n e = grind (arith, common_steps)

module _ (params : List VariableTree) where
  pub object_runs : (inner : Bool) (said : Specified) (o : Outline) (begun : Bool) (line : ℕ) (known : Known) → Steady params known → IsDeclared known o.declared → Steps inner params known (λ q k. IsDeclaredAs k begun q) (object_rule said o begun line known)
  object_runs inner said o begun line known y h =
      steps_test params inner _ known (o.bad || (is_function o.declared || said.interrupt)) kind.Declare ((nat_lt 65535 (bytes_of known (object_type o.declared).ty), kind.Size) ∷ (is_waiting o.waiting || not ((begun && is_array (object_type o.declared).ty) || is_complete known (object_type o.declared).ty), kind.Incomplete) ∷ []) line (λ u. given (object_type o.declared)) (λ e1.
      steps_test params inner _ known (nat_lt 65535 (bytes_of known (object_type o.declared).ty)) kind.Size ((is_waiting o.waiting || not ((begun && is_array (object_type o.declared).ty) || is_complete known (object_type o.declared).ty), kind.Incomplete) ∷ []) line (λ u. given (object_type o.declared)) (λ e2.
      steps_test params inner _ known (is_waiting o.waiting || not ((begun && is_array (object_type o.declared).ty) || is_complete known (object_type o.declared).ty)) kind.Incomplete [] line (λ u. given (object_type o.declared)) (λ e3.
      steps_given params inner _ known (object_type o.declared) y
      (declared_as known begun said.interrupt o.declared h (or_parts o.bad (is_function o.declared || said.interrupt) e1).1 e2
      (not_false ((begun && is_array (object_type o.declared).ty) || is_complete known (object_type o.declared).ty) (or_parts (is_waiting o.waiting) (not ((begun && is_array (object_type o.declared).ty) || is_complete known (object_type o.declared).ty)) e3).1)))))

  -- ---- in blocks

  counted_moves : (known : Known) → Moves true params known (record known { body = record known.body { declarators = (known.body).declarators + 1 } })
  counted_moves known = record {
    grows = record { rows = λ row q h. h; shapes = λ n s h. (s, h, λ e. refl); statics = λ n s h. (s, h, refl) };
    lives = λ p f l. record { begins = record { rows = (l.begins).rows; structures = (l.begins).structures; closed = (l.begins).closed; functions = (l.begins).functions }; statics = l.statics; params_are = l.params_are; locals = l.locals; result = l.result };
    statics = λ n s h. h;
    scopes = refl;
    signatures = refl;
    definitions = refl;
    result = refl;
  }

  counted_steady : (known : Known) → Steady params known → Steady params (record known { body = record known.body { declarators = (known.body).declarators + 1 } })
  counted_steady known y =
      let g = (counted_moves known).grows in
      record {
        orderly = orderly_other known _ g y.orderly refl refl refl refl (scopes_grow known _ g y.orderly known.scopes (y.orderly).scopes);
        named = names_more params known (record known { body = record known.body { declarators = (known.body).declarators + 1 } }) (λ n s h. h) (λ n v h. h) known.scopes y.named;
        statics = λ n s h. static_grows known _ g y.orderly s (y.statics n s h);
        locals = λ n v h. sized_grows known _ g y.orderly (v.ty).ty (y.locals n v h);
        result = stands_grows known _ g y.orderly (known.body).result y.result;
      }

  counted_runs : (known : Known) → Steady params known → {B : Type 0} (Q : B → Known → Type 0) (second : ℕ → Rule B) → ((k : ℕ) → Steps true params (record known { body = record known.body { declarators = (known.body).declarators + 1 } }) Q (second k (record known { body = record known.body { declarators = (known.body).declarators + 1 } })))
      → Steps true params known Q (second (known.body).declarators (record known { body = record known.body { declarators = (known.body).declarators + 1 } }))
  counted_runs known y Q second h = steps_wider params true Q known _ _ (counted_moves known) (h (known.body).declarators)

  none_fit : (known : Known) → AreDeclared params known []
  unfolding statements_fit
  none_fit known p f l leaves repeats = refl

  pub fits_join : (p : Program) (f : FunctionTree) (declares leaves repeats : Bool) (xs ys : List Statement) → statements_fit p f declares leaves repeats (statements_of xs) ≡ true → statements_fit p f declares leaves repeats (statements_of ys) ≡ true → statements_fit p f declares leaves repeats (statements_of (xs ++ ys)) ≡ true
  unfolding statements_fit
  fits_join p f declares leaves repeats [] ys g h = h
  fits_join p f declares leaves repeats (x ∷ xs) ys g h =
      let both = and_parts (statement_fits p f declares leaves repeats x) (statements_fit p f declares leaves repeats (statements_of xs)) g in
      and_from (statement_fits p f declares leaves repeats x) (statements_fit p f declares leaves repeats (statements_of (xs ++ ys))) both.0 (fits_join p f declares leaves repeats xs ys both.1 h)

  join_declared : (mid after : Known) (xs ys : List Statement) → Moves true params mid after → AreDeclared params mid xs → AreDeclared params after ys → AreDeclared params after (xs ++ ys)
  join_declared mid after xs ys m g h p f l leaves repeats = fits_join p f true leaves repeats xs ys (g p f (m.lives p f l) leaves repeats) (h p f l leaves repeats)

  object_by : (fixed register : Bool) (init : Option InitTree) (map_name : Known → List ℕ) (name : List ℕ) (q : Qualified) (line : ℕ) (known : Known) → Steady params known → IsDeclaredAs known (is_some init) q
      → Steps true params known (λ ss k. AreDeclared params k ss) ((if fixed then (λ k. go_on (λ u. given []) (static_rule init (map_name k) name q line k)) else local_rule init name q register line) known)
  object_by true register init map_name name q line known y h = steps_on params true _ _ known _ (λ u. given []) (static_runs params known y (map_name known) name q line init h) (λ x mid m y2 u. steps_given params true _ mid [] y2 (none_fit mid))
  object_by false register init map_name name q line known y h = local_runs params known y name line register init q h

  -- the type that specifiers name stays
  base_too : (known : Known) (r : Result (List Statement × Known) Fault) (said : Specified) → Steady params known → IsBase known said.ty → Steps true params known (λ ss k. AreDeclared params k ss) r → Steps true params known (λ ss k. AreDeclared params k ss × IsBase k said.ty) r
  unfolding Steps
  base_too known (Ok x) said y base g = record { moves = g.moves; steady = g.steady; holds = (g.holds, base_grows known x.1 (g.moves).grows y.orderly said.ty base) }
  base_too known (Err fault) said y base g = tt

  pub block_declarator_runs : (b : BegunTree) (said : Specified) (known : Known) → Steady params known → IsBase known said.ty → Steps true params known (λ ss k. AreDeclared params k ss × IsBase k said.ty) (block_declarator b said known)
  block_declarator_runs b said known y base = base_too known _ said y base (from_fates params Doomed (λ x k. IsDeclared k x.declared) _ known _ _ y (outline_fates b.declarator said false known y.orderly base)
      (λ o mid d. again_refused (is_declared mid (name_in b.declarator)) (line_in b.declarator) _ mid (refused_on (object_rule said o (is_some b.init) (line_in b.declarator) mid) _ (object_refused said o (is_some b.init) (line_in b.declarator) mid d)))
      (λ o mid m y2 declared. steps_test params true _ mid (is_declared mid (name_in b.declarator)) kind.Again [] (line_in b.declarator) _ (λ new.
      steps_on params true _ _ mid _ _ (object_runs true said o (is_some b.init) (line_in b.declarator) mid y2 declared)
      (λ q last m2 y3 h. counted_runs last y3 _ (λ k. λ k2. block_object said q (init_in b.init) (name_in b.declarator) k (line_in b.declarator) k2)
      (λ k. object_by said.fixed said.register (init_in b.init) (λ z. block_name (z.body).name k (name_in b.declarator)) (name_in b.declarator) q (line_in b.declarator) _ (counted_steady last y3)
      (init_declared b.init _ q (record { stands = stands_grows last _ (counted_moves last).grows y3.orderly q.ty h.stands; whole = h.whole; small = h.small })))))))
    where
      again_refused : {B : Type 0} (t : Bool) (line : ℕ) (second : Known → Rule B) (k : Known) → IsRefused (second k k) → IsRefused (go_on second (tried ((t, kind.Again) ∷ []) line k))
      again_refused true line second k h = tt
      again_refused false line second k h = h

      init_declared : (i : Option (ℕ × InitTree)) (k : Known) (q : Qualified) → IsDeclaredAs k (is_some i) q → IsDeclaredAs k (is_some (init_in i)) q
      init_declared None k q h = h
      init_declared (Some i) k q h = h

  more_runs : (bs : List (ℕ × BegunTree)) (said : Specified) (known : Known) → Steady params known → IsBase known said.ty → Steps true params known (λ ss k. AreDeclared params k ss) (more_in_block bs said known)
  more_runs [] said known y base = steps_given params true _ known [] y (none_fit known)
  more_runs (b ∷ bs) said known y base = steps_on params true _ _ known _ _ (block_declarator_runs b.1 said known y base)
      (λ first mid m y2 h. steps_on params true _ _ mid _ (λ others. given (first ++ others)) (more_runs bs said mid y2 h.1)
      (λ others after m2 y3 h2. steps_given params true _ after (first ++ others) y3 (join_declared mid after first others m2 h.0 h2)))

  declared_runs : (d : Option DeclaredTrees) (said : Specified) (known : Known) → Steady params known → IsBase known said.ty → Steps true params known (λ ss k. AreDeclared params k ss) (declared_in_block d said known)
  declared_runs None said known y base = steps_test params true _ known (said.interrupt || said.is_typedef) kind.Declare [] said.line (λ u. given []) (λ e. steps_given params true _ known [] y (none_fit known))
  declared_runs (Some d) said known y base = steps_on params true _ _ known _ _ (block_declarator_runs d.0 said known y base)
      (λ first mid m y2 h. steps_on params true _ _ mid _ (λ others. given (first ++ others)) (more_runs d.1 said mid y2 h.1)
      (λ others after m2 y3 h2. steps_given params true _ after (first ++ others) y3 (join_declared mid after first others m2 h.0 h2)))

  block_declaration_runs : (d : DeclarationTree) (known : Known) → Steady params known → Steps true params known (λ ss k. AreDeclared params k ss) (block_declaration d known)
  block_declaration_runs d known y = from_spread params (λ s k. IsBase k s.ty) _ known _ _ y (specified_runs d.specs in_block known y.orderly) (λ said mid m y2 base. declared_runs d.declared said mid y2 base)

  -- What the declarations of a block do.
  pub block_declarations_run : (ds : List DeclarationTree) (known : Known) → Steady params known → Steps true params known (λ ss k. AreDeclared params k ss) (block_declarations ds known)
  block_declarations_run [] known y = steps_given params true _ known [] y (none_fit known)
  block_declarations_run (d ∷ ds) known y = steps_on params true _ _ known _ _ (block_declaration_runs d known y)
      (λ first mid m y2 h. steps_on params true _ _ mid _ (λ others. given (first ++ others)) (block_declarations_run ds mid y2)
      (λ others after m2 y3 h2. steps_given params true _ after (first ++ others) y3 (join_declared mid after first others m2 h h2)))
