-- What the declarator of a local does, by the items that its initializer gave.
use Rattle.std.proofs.Common.{◌≡◌, ℕ, ◌-◌, ◌<◌, Bool, true, false, ◌||◌, if◌then◌else◌, List, [], ◌∷◌, ◌++◌, map, length, get_or, Option, Some, None, Result, Ok, refl, sym, ap, subst, ◌∙◌, arith, Vec, Global}
use Rattle.std.specs.Global.{Box}
use Rattle.std.specs.Option.{option_map}
use Rattle.std.specs.Vec.{vec_len}
use Rattle.c_nodes.proofs.ProgramShapes.{show_init_assign, show_init_text, show_init_list}
use Rattle.c_nodes.specs.Programs.{InitTree}
use Rattle.c_nodes.specs.ProgramViews.{init_of}
use Rattle.c_nodes.specs.declared.statement.Init.TheVariants as Init
use Rattle.c_typed.proofs.Shapes.{show_expression_struct_assign, show_place_name, show_statement_init_scalar, show_statement_init_list, show_statement_declare, show_statement_expr}
use Rattle.c_typed.specs.Sameness.{is_scalar}
use Rattle.c_typed.specs.Trees as typed
use Rattle.c_typed.specs.Trees.{Item, Statement}
use Rattle.c_typed.specs.Views.{expression_of, place_of, item_of, statement_of}
use Rattle.c_typed.specs.declared.expression.Object.TheVariants as object
use Rattle.c_typed.specs.declared.expression.TExpr.{TExpr}
use Rattle.c_typed.specs.declared.expression.TExpr.TheVariants as TExpressions
use Rattle.c_typed.specs.declared.expression.TPlace.{TPlace}
use Rattle.c_typed.specs.declared.expression.TPlace.TheVariants as TPlaces
use Rattle.c_typed.specs.declared.statement.TItem.{TItem}
use Rattle.c_typed.specs.declared.statement.TItem.TheVariants as TItems
use Rattle.c_typed.specs.declared.statement.TStmt.{TStmt}
use Rattle.c_typed.specs.declared.statement.TStmt.TheVariants as TStatements
use Rattle.c_typed.specs.declared.types.Qualified.{Qualified}
use Rattle.type_rules.specs.Known.{Known}
use Rattle.type_rules.specs.Objects.{is_expression, begun_as_one, local_statements}
use Rattle.c_tables.specs.Answers.{Answers}
use Rattle.c_tables.specs.declared.error.CheckError.{CheckError}
use Rattle.c_check.specs.Views.{only_one}

pub expression_assign : (assign : _) → is_expression (init_of (Init.Assign assign)) ≡ true
expression_assign assign = ap is_expression (show_init_assign assign)

pub expression_text : (text : _) → is_expression (init_of (Init.Text text)) ≡ false
expression_text text = ap is_expression (show_init_text text)

pub expression_list : (opening : _) (first : _) (others : _) (last_comma : _) (closing : _) → is_expression (init_of (Init.List opening first others last_comma closing)) ≡ false
expression_list opening first others last_comma closing = ap is_expression (show_init_list opening first others last_comma closing)

pub ruleset expressions = (expression_assign, expression_text, expression_list)

-- ---- one item alone

none_alone : (xs : List TItem) → (length xs ≡ 1 → ⊥) → None ≡ only_one (map item_of xs)
none_alone [] h = refl
none_alone (x ∷ []) h = absurd (h refl)
none_alone (x ∷ y ∷ zs) h = refl

pub not_alone : (v : Vec TItem Global) → (vec_len v ≡ 1 → ⊥) → None ≡ only_one (map item_of v.items)
not_alone v h = none_alone v.items (λ e. h (v.ok.0 ∙ e))

last_alone : (xs : List TItem) (n : ℕ) (r : Option TItem) → n ≡ 1 → n ≡ length xs → ((d : TItem) → 0 < n → r ≡ Some (get_or xs (n - 1) d)) → option_map item_of r ≡ only_one (map item_of xs)
last_alone [] n r one long f = absurd (omega (arith, one, long))
last_alone (x ∷ []) n r one long f = ap (option_map item_of) (f x (omega (arith, one)) ∙ ap (λ k. Some (get_or (x ∷ []) (k - 1) x)) one)
last_alone (x ∷ y ∷ zs) n r one long f = absurd (omega (arith, one, long))

pub popped_alone : (v : Vec TItem Global) (r : Option TItem) → vec_len v ≡ 1 → ((d : TItem) → 0 < vec_len v → r ≡ Some (get_or v.items (vec_len v - 1) d)) → option_map item_of r ≡ only_one (map item_of v.items)
popped_alone v r one f = last_alone v.items (vec_len v) r one v.ok.0 f

from_one : (xs : List Item) (x : Item) → only_one xs ≡ Some x → xs ≡ x ∷ []
from_one [] x e = cc
from_one (y ∷ []) x e = cc
from_one (y ∷ z ∷ zs) x e = cc

-- ---- as one value

pub scalar_begun : (items : List Item) (offset : ℕ) (value : TExpr) (local : ℕ) (ty : Qualified) (line : ℕ) (known : Known) → only_one items ≡ Some (typed.Scalar offset (expression_of value)) → begun_as_one local ty items line known ≡ Ok (statement_of (TStatements.InitScalar local value line) ∷ [], known)
scalar_begun items offset value local ty line known e =
    ap (λ xs. begun_as_one local ty xs line known) (from_one items (typed.Scalar offset (expression_of value)) e)
    ∙ sym (ap (λ s. Ok (s ∷ [], known)) (show_statement_init_scalar local value line))

pub scalar_answered : (items : List Item) (found : Option TItem) (item : TItem) (offset : ℕ) (value : TExpr) (local : ℕ) (ty : Qualified) (line : ℕ) (known : Known) (result : Result (Vec TStmt Global) CheckError) → option_map item_of found ≡ only_one items → found ≡ Some item → item ≡ TItems.Scalar offset value
    → Answers (λ made. map statement_of made.items) result known (Ok (statement_of (TStatements.InitScalar local value line) ∷ [], known)) → Answers (λ made. map statement_of made.items) result known (begun_as_one local ty items line known)
scalar_answered items found item offset value local ty line known result one is variant answer =
    let e : only_one items ≡ Some (typed.Scalar offset (expression_of value)) = sym one ∙ ap (option_map item_of) (is ∙ ap Some variant) in
    subst (Answers (λ made. map statement_of made.items) result known) (sym (scalar_begun items offset value local ty line known e)) answer

pub struct_assigned : (b c : Box TPlace) (from : TPlace) (local : ℕ) (ty : Qualified) (size line : ℕ) → b.value ≡ TPlaces.Name (object.Local local) ty line → c.value ≡ from → expression_of (TExpressions.StructAssign b c size line) ≡ typed.StructAssign (typed.Name (object.Local local) ty line) (place_of from) size line
struct_assigned b c from local ty size line place is =
    show_expression_struct_assign b c size line
    ∙ ap (λ p. typed.StructAssign p (place_of c.value) size line) (ap place_of place ∙ show_place_name (object.Local local) ty line)
    ∙ ap (λ q. typed.StructAssign (typed.Name (object.Local local) ty line) (place_of q) size line) is

pub struct_begun : (items : List Item) (found : Option TItem) (item : TItem) (offset : ℕ) (from : TPlace) (size : ℕ) (value : TExpr) (local : ℕ) (ty : Qualified) (line : ℕ) (known : Known) (none first both : List TStmt) → option_map item_of found ≡ only_one items → found ≡ Some item → item ≡ TItems.Struct offset from size
    → expression_of value ≡ typed.StructAssign (typed.Name (object.Local local) ty line) (place_of from) size line
    → none ≡ [] → first ≡ none ++ TStatements.Declare local line ∷ [] → both ≡ first ++ TStatements.Expr value line ∷ []
    → begun_as_one local ty items line known ≡ Ok (map statement_of both, known)
struct_begun items found item offset from size value local ty line known none first both one is variant assigned empty put all =
    let e : only_one items ≡ Some (typed.Struct offset (place_of from) size) = sym one ∙ ap (option_map item_of) (is ∙ ap Some variant) in
    let list : both ≡ TStatements.Declare local line ∷ TStatements.Expr value line ∷ [] = all ∙ ap (λ xs. xs ++ TStatements.Expr value line ∷ []) (put ∙ ap (λ xs. xs ++ TStatements.Declare local line ∷ []) empty) in
    ap (λ xs. begun_as_one local ty xs line known) (from_one items (typed.Struct offset (place_of from) size) e)
    ∙ sym (ap (λ xs. Ok (map statement_of xs, known)) list
    ∙ ap (λ s. Ok (s ∷ statement_of (TStatements.Expr value line) ∷ [], known)) (show_statement_declare local line)
    ∙ ap (λ s. Ok (typed.Declare local line ∷ s ∷ [], known)) (show_statement_expr value line ∙ ap (λ v. typed.Expr v line) assigned))

-- ---- as one value or as a list

pub one_begun : (one : Bool) (init : InitTree) (local : ℕ) (ty : Qualified) (items : List Item) (line : ℕ) (known : Known) (result : Result (Vec TStmt Global) CheckError) → one ≡ (is_expression init || is_scalar ty.ty) → one ≡ true
    → Answers (λ made. map statement_of made.items) result known (begun_as_one local ty items line known) → Answers (λ made. map statement_of made.items) result known (local_statements init local ty items line known)
one_begun one init local ty items line known result is e answer =
    subst (λ (t : Bool). Answers (λ made. map statement_of made.items) result known ((if t then begun_as_one local ty items line else (λ k. Ok (typed.InitList local items line ∷ [], k))) known)) (sym e ∙ is) answer

pub list_begun : (one : Bool) (init : InitTree) (local : ℕ) (ty : Qualified) (items : Vec TItem Global) (line : ℕ) (known : Known) (result : Result (Vec TStmt Global) CheckError) → one ≡ (is_expression init || is_scalar ty.ty) → one ≡ false
    → Answers (λ made. map statement_of made.items) result known (Ok (statement_of (TStatements.InitList local items line) ∷ [], known)) → Answers (λ made. map statement_of made.items) result known (local_statements init local ty (map item_of items.items) line known)
list_begun one init local ty items line known result is e answer =
    subst (λ (t : Bool). Answers (λ made. map statement_of made.items) result known ((if t then begun_as_one local ty (map item_of items.items) line else (λ k. Ok (typed.InitList local (map item_of items.items) line ∷ [], k))) known)) (sym e ∙ is)
    (subst (λ (s : Statement). Answers (λ made. map statement_of made.items) result known (Ok (s ∷ [], known))) (show_statement_init_list local items line) answer)
