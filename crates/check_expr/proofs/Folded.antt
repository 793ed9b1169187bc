-- A list of the code, and the nested tree that it stands for: the rule on the tree is the list's.
use Rattle.std.proofs.Common.{◌≡◌, ℕ, List, [], ◌∷◌, ◌++◌, Result, Ok, refl, sym, ap, ◌∙◌}
use Rattle.c_token.specs.declared.token.Punct.TheVariants as marks
use Rattle.c_token.specs.declared.token.TokKind.{TokKind}
use Rattle.c_nodes.specs.Lists.{posted, prefixed, joined, listed, ChoiceParts, chosen, assigned}
use Rattle.c_nodes.specs.Trees as tree
use Rattle.c_nodes.specs.Trees.{Tree, Post, Pre}
use Rattle.c_nodes.specs.Words.{Symbol, punct}
use Rattle.c_typed.specs.Trees.{Expression}
use Rattle.type_rules.specs.Faults.{Fault}
use Rattle.type_rules.specs.Expressions.{judged, judged_behind, listed_by, arguments_in, one_at_least}
use Rattle.type_rules.specs.Known.{Known, Rule, given, go_on, ◌>>=◌}
use Rattle.type_rules.specs.Terms.{Term, Operand, value_term, used, no_table}
use Rattle.type_rules.specs.Operators.{between, choice, cast}
use Rattle.type_rules.specs.TypeNames.{type_named}
use Rattle.type_rules.specs.Writes.{assignment}
use Rattle.check_expr.specs.Views.{unlisted}
use Rattle.check_expr.specs.Folds.{bare, barely, sequenced_from, combined_from, posted_from, arguments_from, Sides, sides_from, assigned_back, Choices, condition_of, consequence_of, choices_from, chosen_back, Applied, AppliedSign, AppliedSizeof, AppliedCast, applied_by, applied_from, applied_back}
use Rattle.check_expr.proofs.Runs.{last_given, same_behind, grouped, deeper, both_deeper, both_bare, both_used, three_deep, used_deeper}
use Rattle.check_expr.proofs.Clauses.{judged_post, judged_sign, judged_sizeof, judged_cast, judged_join, judged_choose, judged_assign}

-- ---- commas

sequenced_bare : (bs : List (ℕ × Tree)) (t : Term) (k : Known) → unlisted (sequenced_from (bare t) bs k) ≡ unlisted (sequenced_from t bs k)
sequenced_bare [] t k = refl
sequenced_bare (b ∷ bs) t k = used_deeper unlisted _ t k

pub judged_listed : (bs : List (ℕ × Tree)) (a : Tree) (k : Known) → barely (listed a bs) k ≡ unlisted (go_on (λ t. sequenced_from t bs) (judged a k))
judged_listed [] a k = ap unlisted (sym (last_given (judged a k)))
judged_listed (b ∷ bs) a k =
    judged_listed bs (tree.Join (punct marks.Comma b.0) a b.1) k
    ∙ ap (λ r. unlisted (go_on (λ t. sequenced_from t bs) r)) (judged_join (punct marks.Comma b.0) a b.1 k)
    ∙ deeper unlisted _ _ _ (λ t k. deeper unlisted _ _ _ (λ x k. deeper unlisted _ _ _ (λ right k. deeper unlisted _ _ _ (λ y k. sym (sequenced_bare bs _ k) ∙ sequenced_bare bs _ k) (used right k)) (judged b.1 k)) (used t k)) (judged a k)

-- ---- arguments

abbrev pub spread : Term → List (ℕ × Tree) → Rule (List Operand)
spread t [] = arguments_in t.listed t
spread t (b ∷ bs) = do
  x ← used t
  right ← judged b.1
  y ← used right
  arguments_from (one_at_least t.listed x ++ y ∷ []) bs

spread_value : (value : Expression) (line : ℕ) (x : Operand) (xs : List Operand) (bs : List (ℕ × Tree)) (k : Known) → spread (record (value_term value line) { listed = x ∷ xs }) bs k ≡ arguments_from (x ∷ xs) bs k
spread_value value line x xs [] k = refl
spread_value value line x xs (b ∷ bs) k = refl

spread_more : (before : List Operand) (value : Expression) (line : ℕ) (x y : Operand) (bs : List (ℕ × Tree)) (k : Known) → spread (record (value_term value line) { listed = one_at_least before x ++ y ∷ [] }) bs k ≡ arguments_from (one_at_least before x ++ y ∷ []) bs k
spread_more [] value line x y bs k = spread_value value line x (y ∷ []) bs k
spread_more (first ∷ others) value line x y bs k = spread_value value line first (others ++ y ∷ []) bs k

pub spread_whole : (bs : List (ℕ × Tree)) (a : Tree) (k : Known) → go_on (λ t. arguments_in t.listed t) (judged (listed a bs) k) ≡ go_on (λ t. spread t bs) (judged a k)
spread_whole [] a k = refl
spread_whole (b ∷ bs) a k =
    spread_whole bs (tree.Join (punct marks.Comma b.0) a b.1) k
    ∙ ap (λ r. go_on (λ t. spread t bs) r) (judged_join (punct marks.Comma b.0) a b.1 k)
    ∙ deeper (λ r. r) _ _ _ (λ t k. deeper (λ r. r) _ _ _ (λ x k. deeper (λ r. r) _ _ _ (λ right k. deeper (λ r. r) _ _ _ (λ y k. spread_more t.listed _ _ x y bs k) (used right k)) (judged b.1 k)) (used t k)) (judged a k)

pub spread_first : (bs : List (ℕ × Tree)) (t : Term) (k : Known) → spread (bare t) bs k ≡ go_on (λ x. arguments_from (x ∷ []) bs) (used (bare t) k)
spread_first [] t k = refl
spread_first (b ∷ bs) t k = refl

-- Of a list whose first argument has no commas of its own.
pub judged_arguments : (bs : List (ℕ × Tree)) (a : Tree) (k after : Known) (t : Term) → judged a k ≡ Ok (bare t, after) → go_on (λ t. arguments_in t.listed t) (judged (listed a bs) k) ≡ go_on (λ x. arguments_from (x ∷ []) bs) (used (bare t) after)
judged_arguments bs a k after t e = spread_whole bs a k ∙ ap (λ r. go_on (λ t. spread t bs) r) e ∙ spread_first bs t after

-- ---- operators of one tier

pub judged_joined : (bs : List (Symbol × Tree)) (a : Tree) (k : Known) → judged (joined a bs) k ≡ go_on (λ t. combined_from t bs) (judged a k)
judged_joined [] a k = sym (last_given (judged a k))
judged_joined (b ∷ bs) a k =
    judged_joined bs (tree.Join b.0 a b.1) k
    ∙ ap (λ r. go_on (λ t. combined_from t bs) r) (judged_join b.0 a b.1 k)
    ∙ deeper (λ r. r) _ _ _ (λ t k. deeper (λ r. r) _ _ _ (λ x k. deeper (λ r. r) _ _ _ (λ right k. deeper (λ r. r) _ _ _ (λ y k. grouped (λ u. given (listed_by b.0.kind t.listed x y u)) (λ u. combined_from u bs) (between b.0.kind x y k)) (used right k)) (judged b.1 k)) (used t k)) (judged a k)

-- ---- postfixes

pub judged_posted : (ps : List Post) (e : Tree) (k : Known) → judged (posted e ps) k ≡ go_on (λ t. posted_from t ps) (judged e k)
judged_posted [] e k = sym (last_given (judged e k))
judged_posted (p ∷ ps) e k =
    judged_posted ps (tree.Behind e p) k
    ∙ ap (λ r. go_on (λ t. posted_from t ps) r) (judged_post e p k)
    ∙ grouped (λ t. judged_behind p t) (λ t. posted_from t ps) (judged e k)

-- ---- left sides

pub assigned_last : (ss : Sides) (s : Term × TokKind) (w : Term) (k : Known) → assigned_back (ss ++ s ∷ []) w k ≡ go_on (assigned_back ss) (assigned_back (s ∷ []) w k)
assigned_last [] s w k = sym (last_given (assigned_back (s ∷ []) w k))
assigned_last (d ∷ ss) s w k = ap (λ r. go_on (λ from. used from >>= (λ x. assignment d.1 d.0 x)) r) (assigned_last ss s w k) ∙ grouped (assigned_back ss) (λ from. used from >>= (λ x. assignment d.1 d.0 x)) (assigned_back (s ∷ []) w k)

assigned_whole : (ts : List (Tree × Symbol)) (v : Tree) (done : Sides) (k : Known) → go_on (λ list. judged v >>= assigned_back list) (sides_from done ts k) ≡ go_on (assigned_back done) (judged (assigned ts v) k)
assigned_whole [] v done k = refl
assigned_whole (t ∷ ts) v done k =
    both_deeper _ _ _ _ (λ target k. both_deeper (λ _. sides_from (done ++ (target, t.1.kind) ∷ []) ts) (λ list. judged v >>= assigned_back list) (λ _. judged (assigned ts v) >>= (λ value. used value >>= (λ x. assignment t.1.kind target x))) (assigned_back done) (λ _ k.
    assigned_whole ts v (done ++ (target, t.1.kind) ∷ []) k
    ∙ same_behind _ _ (λ w k. assigned_last done (target, t.1.kind) w k) (judged (assigned ts v) k)
    ∙ sym (grouped (assigned_back ((target, t.1.kind) ∷ [])) (assigned_back done) (judged (assigned ts v) k))) (no_table target k)) (judged t.0 k)
    ∙ ap (λ r. go_on (assigned_back done) r) (sym (judged_assign t.0 t.1 (assigned ts v) k))

pub judged_assigned : (ts : List (Tree × Symbol)) (v : Tree) (k : Known) → judged (assigned ts v) k ≡ go_on (λ list. judged v >>= assigned_back list) (sides_from [] ts k)
judged_assigned ts v k = sym (assigned_whole ts v [] k ∙ last_given (judged (assigned ts v) k))

-- ---- choices

pub chosen_last : (ss : Choices) (s : Operand × Operand) (w : Term) (k : Known) → chosen_back (ss ++ s ∷ []) w k ≡ go_on (chosen_back ss) (chosen_back (s ∷ []) w k)
chosen_last [] s w k = sym (last_given (chosen_back (s ∷ []) w k))
chosen_last (d ∷ ss) s w k = ap (λ r. go_on (λ second. used second >>= (λ z. choice d.0 d.1 z)) r) (chosen_last ss s w k) ∙ grouped (chosen_back ss) (λ second. used second >>= (λ z. choice d.0 d.1 z)) (chosen_back (s ∷ []) w k)

chosen_whole : (cs : List ChoiceParts) (v : Tree) (done : Choices) (k : Known) → go_on (λ list. judged v >>= chosen_back list) (choices_from done cs k) ≡ go_on (chosen_back done) (judged (chosen cs v) k)
chosen_whole [] v done k = refl
chosen_whole (c ∷ cs) v done k =
    both_deeper _ _ _ _ (λ condition k. both_deeper _ _ _ _ (λ x k. both_bare _ _ _ _ (λ first k. both_used _ _ _ _ (λ y k.
    chosen_whole cs v (done ++ (x, y) ∷ []) k
    ∙ same_behind _ _ (λ w k. chosen_last done (x, y) w k) (judged (chosen cs v) k)
    ∙ sym (grouped (chosen_back ((x, y) ∷ [])) (chosen_back done) (judged (chosen cs v) k))) first k) (judged c.2 k)) (used condition k)) (judged c.0 k)
    ∙ ap (λ r. go_on (chosen_back done) r) (sym (judged_choose c.0 c.1 c.2 c.3 (chosen cs v) k))

pub judged_chosen : (cs : List ChoiceParts) (v : Tree) (k : Known) → judged (chosen cs v) k ≡ go_on (λ list. judged v >>= chosen_back list) (choices_from [] cs k)
judged_chosen cs v k = sym (chosen_whole cs v [] k ∙ last_given (judged (chosen cs v) k))

-- a choice whose condition and whose first part are each read with their values
pub choice_read : (done : Choices) (c : ChoiceParts) (cs : List ChoiceParts) (k : Known) (said : Result (Choices × Known) Fault) → choices_from done (c ∷ cs) k ≡ said
    → go_on (λ x. consequence_of c.2 >>= (λ y. choices_from (done ++ (x, y) ∷ []) cs)) (condition_of c.0 k) ≡ said
choice_read done c cs k said is =
    grouped (λ t. used t) (λ x. consequence_of c.2 >>= (λ y. choices_from (done ++ (x, y) ∷ []) cs)) (judged c.0 k)
    ∙ same_behind _ _ (λ t k. same_behind _ _ (λ x k. grouped (λ t. used t) (λ y. choices_from (done ++ (x, y) ∷ []) cs) (barely c.2 k)) (used t k)) (judged c.0 k)
    ∙ is

-- ---- prefixes

pub applied_last : (ss : List Applied) (s : Applied) (w : Term) (k : Known) → applied_back (ss ++ s ∷ []) w k ≡ go_on (applied_back ss) (applied_by s w k)
applied_last [] s w k = sym (last_given (applied_by s w k))
applied_last (d ∷ ss) s w k = ap (λ r. go_on (applied_by d) r) (applied_last ss s w k) ∙ grouped (applied_back ss) (applied_by d) (applied_by s w k)

applied_step : (done : List Applied) (a : Applied) (e : Tree) (k : Known) → go_on (applied_back (done ++ a ∷ [])) (judged e k) ≡ go_on (applied_back done) (go_on (applied_by a) (judged e k))
applied_step done a e k = same_behind _ _ (λ w k. applied_last done a w k) (judged e k) ∙ sym (grouped (applied_by a) (applied_back done) (judged e k))

applied_whole : (ps : List Pre) (e : Tree) (done : List Applied) (k : Known) → go_on (λ list. judged e >>= applied_back list) (applied_from done ps k) ≡ go_on (applied_back done) (judged (prefixed ps e) k)
applied_whole [] e done k = refl
applied_whole (tree.Sign s ∷ ps) e done k =
    applied_whole ps e (done ++ AppliedSign s ∷ []) k ∙ applied_step done (AppliedSign s) (prefixed ps e) k
    ∙ ap (λ r. go_on (applied_back done) r) (sym (judged_sign s (prefixed ps e) k))
applied_whole (tree.Sizeof line ∷ ps) e done k =
    applied_whole ps e (done ++ AppliedSizeof line ∷ []) k ∙ applied_step done (AppliedSizeof line) (prefixed ps e) k
    ∙ ap (λ r. go_on (applied_back done) r) (sym (judged_sizeof line (prefixed ps e) k))
applied_whole (tree.Cast line ty closing ∷ ps) e done k =
    three_deep (λ to. given (AppliedCast to line)) (λ next. applied_from (done ++ next ∷ []) ps) (λ list. judged e >>= applied_back list) (λ to. judged (prefixed ps e) >>= (λ t. used t >>= (λ x. cast to.ty x line))) (applied_back done) (λ to k. applied_whole ps e (done ++ AppliedCast to line ∷ []) k ∙ applied_step done (AppliedCast to line) (prefixed ps e) k) (type_named ty k)
    ∙ ap (λ r. go_on (applied_back done) r) (sym (judged_cast line ty closing (prefixed ps e) k))

pub judged_prefixed : (ps : List Pre) (e : Tree) (k : Known) → judged (prefixed ps e) k ≡ go_on (λ list. judged e >>= applied_back list) (applied_from [] ps k)
judged_prefixed ps e k = sym (applied_whole ps e [] k ∙ last_given (judged (prefixed ps e) k))
