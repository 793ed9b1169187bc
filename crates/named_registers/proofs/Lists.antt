-- The first foreign line along lists of registers, and of parts that name some.
use Rattle.std.proofs.Common.{◌≡◌, ℕ, ◌+◌, ◌<◌, ◌≤◌, true, false, List, [], ◌∷◌, ◌++◌, Option, map, length, get_or, drop, if◌then◌else◌, refl, sym, ap, ◌∙◌}
use Rattle.std.proofs.lemmas.List.{at_drop_more, drop_all}
use Rattle.c_typed.specs.Views.{expression_of, arguments_of, item_of, statement_of, statements_of, arm_of, arms_of, function_of}
use Rattle.c_typed.specs.declared.expression.TExpr.{TExpr}
use Rattle.c_typed.specs.declared.program.Function.{Function}
use Rattle.c_typed.specs.declared.statement.TArm.{TArm}
use Rattle.c_typed.specs.declared.statement.TItem.{TItem}
use Rattle.c_typed.specs.declared.statement.TStmt.{TStmt}
use Rattle.pic_chip.specs.SmallAddress.{is_small_register}
use Rattle.named_registers.specs.Foreign.{foreign_after, foreign_of, earlier}
use Rattle.named_registers.specs.Registers.{Naming, registers, arguments_registers, item_registers, items_registers, statement_registers, statements_registers, arm_registers, arms_registers, functions_registers}

-- ---- lists of registers
pub foreign_on : (first : Option ℕ) (xs ys : List Naming) → foreign_of first (xs ++ ys) ≡ foreign_of (foreign_of first xs) ys
unfolding foreign_of
foreign_on first [] ys = refl
foreign_on first (x ∷ xs) ys = foreign_on (foreign_after is_small_register first (x ∷ [])) xs ys

pub foreign_none : (first : Option ℕ) → foreign_of first [] ≡ first
unfolding foreign_of
foreign_none first = refl

pub ruleset foreign_rules = (foreign_on, foreign_none)

-- a register that the chip has, and one that it doesn't have
pub shared : (first : Option ℕ) (register line : ℕ) → is_small_register register ≡ true → foreign_of first (record { register = register; line = line } ∷ []) ≡ first
unfolding foreign_of
shared first register line is = ap (λ b. if b then first else earlier first line) is

pub foreign : (first : Option ℕ) (register line : ℕ) → is_small_register register ≡ false → foreign_of first (record { register = register; line = line } ∷ []) ≡ earlier first line
unfolding foreign_of
foreign first register line is = ap (λ b. if b then first else earlier first line) is

-- ---- loops: `F` is what a whole list names
pub one_more : {A : Type 0} (f : A → List Naming) (F : List A → List Naming) → ((x : A) (xs : List A) → F (x ∷ xs) ≡ f x ++ F xs) → (xs : List A) (i : ℕ) (x : A) (now so_far whole : Option ℕ) → i < length xs → x ≡ get_or xs i x → now ≡ foreign_of so_far (f x) → foreign_of so_far (F (drop i xs)) ≡ whole → foreign_of now (F (drop (i + 1) xs)) ≡ whole
one_more f F step xs i x now so_far whole lt is found all =
    let rest = drop (i + 1) xs in
    ap (λ o. foreign_of o (F rest)) found ∙ (sym (foreign_on so_far (f x) (F rest)) ∙ (ap (foreign_of so_far) (sym (at_drop_more F xs i x lt ∙ (ap (λ y. F (y ∷ rest)) (sym is) ∙ step x rest))) ∙ all))

pub all_seen : {A : Type 0} (F : List A → List Naming) → F [] ≡ [] → (xs : List A) (i : ℕ) (so_far whole : Option ℕ) → length xs ≤ i → foreign_of so_far (F (drop i xs)) ≡ whole → so_far ≡ whole
all_seen F none xs i so_far whole past all = sym (foreign_none so_far) ∙ (ap (foreign_of so_far) (sym (ap F (drop_all i xs past) ∙ none)) ∙ all)

-- ---- lists of parts
abbrev pub arguments_in : List TExpr → List Naming
arguments_in xs = arguments_registers (arguments_of (map expression_of xs))

abbrev pub expression_in : TExpr → List Naming
expression_in x = registers (expression_of x)

pub arguments_none : arguments_in [] ≡ []
unfolding arguments_registers
arguments_none = refl

pub arguments_more : (x : TExpr) (xs : List TExpr) → arguments_in (x ∷ xs) ≡ expression_in x ++ arguments_in xs
unfolding arguments_registers
arguments_more x xs = refl

abbrev pub items_in : List TItem → List Naming
items_in xs = items_registers (map item_of xs)

abbrev pub item_in : TItem → List Naming
item_in x = item_registers (item_of x)

abbrev pub statements_in : List TStmt → List Naming
statements_in xs = statements_registers (statements_of (map statement_of xs))

abbrev pub statement_in : TStmt → List Naming
statement_in x = statement_registers (statement_of x)

pub statements_none : statements_in [] ≡ []
unfolding statements_registers
statements_none = refl

pub statements_more : (x : TStmt) (xs : List TStmt) → statements_in (x ∷ xs) ≡ statement_in x ++ statements_in xs
unfolding statements_registers
statements_more x xs = refl

abbrev pub arms_in : List TArm → List Naming
arms_in xs = arms_registers (arms_of (map arm_of xs))

abbrev pub arm_in : TArm → List Naming
arm_in x = arm_registers (arm_of x)

pub arms_none : arms_in [] ≡ []
unfolding arms_registers
arms_none = refl

pub arms_more : (x : TArm) (xs : List TArm) → arms_in (x ∷ xs) ≡ arm_in x ++ arms_in xs
unfolding arms_registers
arms_more x xs = refl

abbrev pub functions_in : List Function → List Naming
functions_in xs = functions_registers (map function_of xs)

abbrev pub function_in : Function → List Naming
function_in x = statements_registers (function_of x).body
