-- What holds of each element of a list, gathered from its end on.
use Rattle.std.proofs.Common.{◌≡◌, ℕ, zero, suc, ◌+◌, ◌<◌, ◌≤◌, Some, List, [], ◌∷◌, length, get_or, drop, map, sym, subst}
use Rattle.std.specs.Prelude.{slice_get}
use Rattle.std.specs.List.{All}
use Rattle.std.proofs.lemmas.List.{at_drop_more, drop_all}
use Rattle.std.proofs.lemmas.List.Elements.{All-from_get_or}
use Rattle.c_ints.specs.Range.{IsInRange}
use Rattle.c_typed.specs.Trees.{FunctionTree, StaticTree, Program, Item}
use Rattle.c_typed.specs.Trees.{Scalar, Struct, Text}
use Rattle.c_typed.specs.Views.{expression_of, arguments_of, item_of, statement_of, statements_of, arm_of, arms_of, function_of, static_of}
use Rattle.c_typed.specs.declared.expression.TExpr.{TExpr}
use Rattle.c_typed.specs.declared.program.Function.{Function}
use Rattle.c_typed.specs.declared.program.Initial.{Initial}
use Rattle.c_typed.specs.declared.program.Static.{Static}
use Rattle.c_typed.specs.declared.statement.TArm.{TArm}
use Rattle.c_typed.specs.declared.statement.TCase.{TCase}
use Rattle.c_typed.specs.declared.statement.TItem.{TItem}
use Rattle.c_typed.specs.declared.statement.TStmt.{TStmt}
use Rattle.src_rules.specs.Numbers.{HasNumbers, AllHaveNumbers, ItemsHaveNumbers, CasesHaveNumbers, StatementHasNumbers, StatementsHaveNumbers, ArmHasNumbers, ArmsHaveNumbers, IsInitialByte, InitialsHaveNumbers, ProgramHasNumbers}
use Rattle.typed_numbers.specs.Lists.{FunctionsHaveNumbers, StaticsHaveNumbers}

module _ {A : Type 0} (P : A → Type 0) (F : List A → Type 0) (more : (x : A) (xs : List A) → P x → F xs → F (x ∷ xs)) where
  -- one more element
  pub gathered_at : (xs : List A) (i : ℕ) (other : A) → i < length xs → P (get_or xs i other) → (F (drop i xs) → F xs) → F (drop (i + 1) xs) → F xs
  gathered_at xs i other lt has all rest = all (subst F (sym (at_drop_more (λ l. l) xs i other lt)) (more (get_or xs i other) (drop (i + 1) xs) has rest))

  pub gathered : (xs : List A) (i : ℕ) (x : A) → i < length xs → x ≡ get_or xs i x → P x → (F (drop i xs) → F xs) → F (drop (i + 1) xs) → F xs
  gathered xs i x lt is has all rest = gathered_at xs i x lt (subst P is has) all rest

-- behind the last one
pub all_gathered : {A : Type 0} (F : List A → Type 0) → F [] → (xs : List A) (i : ℕ) → length xs ≤ i → (F (drop i xs) → F xs) → F xs
all_gathered F none xs i past all = all (subst F (sym (drop_all i xs past)) none)

-- ---- the lists
abbrev pub Arguments : List TExpr → Type 0
Arguments xs = AllHaveNumbers (arguments_of (map expression_of xs))

abbrev pub Argument : TExpr → Type 0
Argument x = HasNumbers (expression_of x)

pub one_argument : (x : TExpr) (xs : List TExpr) → Argument x → Arguments xs → Arguments (x ∷ xs)
one_argument x xs one more = (one, more)

abbrev pub Items : List TItem → Type 0
Items xs = ItemsHaveNumbers (map item_of xs)

abbrev pub OneItem : TItem → Type 0
OneItem x = ItemsHaveNumbers (item_of x ∷ [])

item_more : (item : Item) (items : List Item) → ItemsHaveNumbers (item ∷ []) → ItemsHaveNumbers items → ItemsHaveNumbers (item ∷ items)
item_more (Scalar offset e) items one more = (one.0, more)
item_more (Struct offset from size) items one more = (one.0, more)
item_more (Text offset text size) items one more = (one.0, more)

pub one_item : (x : TItem) (xs : List TItem) → OneItem x → Items xs → Items (x ∷ xs)
one_item x xs one more = item_more (item_of x) (map item_of xs) one more

abbrev pub OneCase : TCase → Type 0
OneCase x = IsInRange x.value.ty x.value.number

pub one_case : (x : TCase) (xs : List TCase) → OneCase x → CasesHaveNumbers xs → CasesHaveNumbers (x ∷ xs)
one_case x xs one more = (one, more)

abbrev pub AllStatements : List TStmt → Type 0
AllStatements xs = StatementsHaveNumbers (statements_of (map statement_of xs))

abbrev pub OneStatement : TStmt → Type 0
OneStatement x = StatementHasNumbers (statement_of x)

pub one_statement : (x : TStmt) (xs : List TStmt) → OneStatement x → AllStatements xs → AllStatements (x ∷ xs)
one_statement x xs one more = (one, more)

abbrev pub AllArms : List TArm → Type 0
AllArms xs = ArmsHaveNumbers (arms_of (map arm_of xs))

abbrev pub OneArm : TArm → Type 0
OneArm x = ArmHasNumbers (arm_of x)

pub one_arm : (x : TArm) (xs : List TArm) → OneArm x → AllArms xs → AllArms (x ∷ xs)
one_arm x xs one more = (one, more)

abbrev pub OneInitial : Initial → Type 0
OneInitial x = IsInitialByte x.byte

pub one_initial : (x : Initial) (xs : List Initial) → OneInitial x → InitialsHaveNumbers xs → InitialsHaveNumbers (x ∷ xs)
one_initial x xs one more = (one, more)

abbrev pub Functions : List Function → Type 0
Functions xs = FunctionsHaveNumbers (map function_of xs)

abbrev pub OneFunction : Function → Type 0
OneFunction x = StatementsHaveNumbers (function_of x).body

pub one_function : (x : Function) (xs : List Function) → OneFunction x → Functions xs → Functions (x ∷ xs)
one_function x xs one more = (one, more)

abbrev pub Statics : List Static → Type 0
Statics xs = StaticsHaveNumbers (map static_of xs)

abbrev pub OneStatic : Static → Type 0
OneStatic x = InitialsHaveNumbers x.initial.items

pub one_static : (x : Static) (xs : List Static) → OneStatic x → Statics xs → Statics (x ∷ xs)
one_static x xs one more = (one, more)

-- ---- texts
pub all_small : (bytes : List ℕ) → ((i : ℕ) → get_or bytes i 0 < 256) → All (λ n. n < 256) bytes
all_small bytes small = All-from_get_or (λ n. n < 256) bytes 0 (λ i within. small i)

-- ---- a program
body_at : (fs : List FunctionTree) (n : ℕ) (f : FunctionTree) → FunctionsHaveNumbers fs → slice_get fs n ≡ Some f → StatementsHaveNumbers f.body
body_at [] n f all is = absurd (cc is)
body_at (g ∷ fs) zero f all is = let same : g ≡ f = cc is in subst (λ f. StatementsHaveNumbers f.body) same all.0
body_at (g ∷ fs) (suc n) f all is = body_at fs n f all.1 is

initial_at : (ss : List StaticTree) (n : ℕ) (s : StaticTree) → StaticsHaveNumbers ss → slice_get ss n ≡ Some s → InitialsHaveNumbers s.initial
initial_at [] n s all is = absurd (cc is)
initial_at (t ∷ ss) zero s all is = let same : t ≡ s = cc is in subst (λ s. InitialsHaveNumbers s.initial) same all.0
initial_at (t ∷ ss) (suc n) s all is = initial_at ss n s all.1 is

pub program_seen : (p : Program) → FunctionsHaveNumbers p.functions → StaticsHaveNumbers p.statics → ProgramHasNumbers p
program_seen p functions statics = record {
  bodies = λ n f is. body_at p.functions n f functions is;
  statics = λ n s is. initial_at p.statics n s statics is;
}
