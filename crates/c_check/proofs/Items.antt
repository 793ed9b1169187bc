-- The loops over statements, arms, labels and declarations, one element more at a time.
use Rattle.std.proofs.Common.{◌≡◌, ℕ, ◌+◌, List, [], ◌∷◌, ◌++◌, Some, None, Result, Ok, Err, refl, sym, ap, subst, ◌∙◌, append_assoc}
use Rattle.c_ints.specs.declared.types.IntTy.{IntTy}
use Rattle.c_nodes.specs.Programs as tree
use Rattle.c_nodes.specs.Programs.{ArmTree, Arms, BlockTree, DeclarationTree, Items, Statements, StatementTree}
use Rattle.c_nodes.specs.declared.statement.Statement.{Statement}
use Rattle.c_typed.specs.Trees as typed
use Rattle.type_rules.specs.Declarations as declarations
use Rattle.type_rules.specs.Faults.{Fault}
use Rattle.type_rules.specs.Known.{Known, given, go_on, ◌>>=◌}
use Rattle.type_rules.specs.Statements as rule
use Rattle.c_tables.specs.Answers.{Refuses}
use Rattle.c_tables.specs.declared.error.CheckError.{CheckError}
use Rattle.c_check.specs.StatementViews.{behind, block_list, arms_behind}
use Rattle.c_check.proofs.Lists.{passes_on}

-- ---- statements

pub no_statement : (flow : rule.Flow) (known : Known) → rule.statements tree.NoStatement flow known ≡ Ok ([], known)
unfolding rule.statements
no_statement flow known = refl

pub statement_more : (s : StatementTree) (ss : Statements) (flow : rule.Flow) (known mid : Known) (made : typed.Statement) → rule.statement s flow known ≡ Ok (made, mid) → rule.statements (tree.AndStatement s ss) flow known ≡ behind (made ∷ []) (rule.statements ss flow) mid
unfolding rule.statements
statement_more s ss flow known mid made e = ap (go_on (λ first. rule.statements ss flow >>= (λ others. given (first ∷ others)))) e

pub statement_refuses : (s : StatementTree) (ss : Statements) (flow : rule.Flow) (known : Known) (fault : CheckError) → Refuses fault (rule.statement s flow known) → Refuses fault (rule.statements (tree.AndStatement s ss) flow known)
unfolding rule.statements
statement_refuses s ss flow known fault h = passes_on (λ first. rule.statements ss flow >>= (λ others. given (first ∷ others))) (rule.statement s flow known) fault h

-- the statements behind the declarations of a block
pub block_begins : (b : BlockTree) (line : ℕ) (ds : List DeclarationTree) (ss : Statements) (closing : ℕ) (flow : rule.Flow) (known mid : Known) (first : List typed.Statement) → b ≡ tree.Block line ds ss closing → declarations.block_declarations ds known ≡ Ok (first, mid) → behind first (rule.statements ss flow) mid ≡ block_list b flow known
block_begins b line ds ss closing flow known mid first is e = sym (ap (λ x. block_list x flow known) is ∙ ap (go_on (λ made. rule.statements ss flow >>= (λ others. given (made ++ others)))) e)

pub block_refuses : (b : BlockTree) (line : ℕ) (ds : List DeclarationTree) (ss : Statements) (closing : ℕ) (flow : rule.Flow) (known : Known) (fault : CheckError) → b ≡ tree.Block line ds ss closing → Refuses fault (declarations.block_declarations ds known) → Refuses fault (block_list b flow known)
block_refuses b line ds ss closing flow known fault is h = subst (λ x. Refuses fault (block_list x flow known)) (sym is) (passes_on (λ made. rule.statements ss flow >>= (λ others. given (made ++ others))) (declarations.block_declarations ds known) fault h)

-- ---- arms

pub arms_end : (flow : rule.Flow) (known : Known) → rule.other_arms tree.NoElse flow known ≡ Ok (([], None), known)
unfolding rule.other_arms
arms_end flow known = refl

pub arms_else : (line : ℕ) (s : StatementTree) (flow : rule.Flow) (known : Known) → rule.other_arms (tree.Else line s) flow known ≡ (rule.statement s flow >>= (λ last. given ([], Some last))) known
unfolding rule.other_arms
arms_else line s flow known = refl

arms_joined : (before : List typed.Arm) (one : typed.Arm) (said : Result (rule.Others × Known) Fault) → go_on {B = rule.Others} (λ (made : rule.Others). given (before ++ made.0, made.1)) (go_on {B = rule.Others} (λ (others : rule.Others). given (one ∷ others.0, others.1)) said) ≡ go_on {B = rule.Others} (λ (made : rule.Others). given ((before ++ one ∷ []) ++ made.0, made.1)) said
arms_joined before one (Ok x) = ap (λ (l : List typed.Arm). Ok ((l, (x.0).1), x.1)) (sym (append_assoc before (one ∷ []) (x.0).0))
arms_joined before one (Err fault) = refl

pub arm_more : (before : List typed.Arm) (one : typed.Arm) (line : ℕ) (a : ArmTree) (others : Arms) (flow : rule.Flow) (known mid : Known) → rule.arm a flow known ≡ Ok (one, mid) → arms_behind before (tree.ElseIf line a others) flow known ≡ arms_behind (before ++ one ∷ []) others flow mid
unfolding rule.other_arms
arm_more before one line a others flow known mid e = ap (λ (said : Result (typed.Arm × Known) Fault). go_on {B = rule.Others} (λ (made : rule.Others). given (before ++ made.0, made.1)) (go_on {B = rule.Others} (λ first. rule.other_arms others flow >>= (λ (made : rule.Others). given (first ∷ made.0, made.1))) said)) e ∙ arms_joined before one (rule.other_arms others flow mid)

pub arm_refuses : (before : List typed.Arm) (line : ℕ) (a : ArmTree) (others : Arms) (flow : rule.Flow) (known : Known) (fault : CheckError) → Refuses fault (rule.arm a flow known) → Refuses fault (arms_behind before (tree.ElseIf line a others) flow known)
unfolding rule.other_arms
arm_refuses before line a others flow known fault h = passes_on (λ made. given (before ++ made.0, made.1)) (rule.other_arms (tree.ElseIf line a others) flow known) fault (passes_on (λ first. rule.other_arms others flow >>= (λ made. given (first ∷ made.0, made.1))) (rule.arm a flow known) fault h)

-- ---- labels and statements of a `switch`

pub items_end : (flow : rule.Flow) (ty : IntTy) (body : rule.SwitchBody) (known : Known) → rule.items tree.NoItem flow ty body known ≡ Ok (body, known)
unfolding rule.items
items_end flow ty body known = refl

pub label_more : (l : _) (is : Items) (flow : rule.Flow) (ty : IntTy) (body next : rule.SwitchBody) (known mid : Known) → rule.label_rule l ty body known ≡ Ok (next, mid) → rule.items (tree.AndLabel l is) flow ty body known ≡ rule.items is flow ty next mid
unfolding rule.items
label_more l is flow ty body next known mid e = ap (go_on (λ made. rule.items is flow ty made)) e

pub label_refuses : (l : _) (is : Items) (flow : rule.Flow) (ty : IntTy) (body : rule.SwitchBody) (known : Known) (fault : CheckError) → Refuses fault (rule.label_rule l ty body known) → Refuses fault (rule.items (tree.AndLabel l is) flow ty body known)
unfolding rule.items
label_refuses l is flow ty body known fault h = passes_on (λ made. rule.items is flow ty made) (rule.label_rule l ty body known) fault h

abbrev pub with_statement : rule.SwitchBody → typed.Statement → rule.SwitchBody
with_statement body made = record body { statements = body.statements ++ made ∷ [] }

pub inner_more : (s : StatementTree) (is : Items) (flow : rule.Flow) (ty : IntTy) (body : rule.SwitchBody) (made : typed.Statement) (known mid : Known) → rule.statement s flow known ≡ Ok (made, mid) → rule.items (tree.AndInner s is) flow ty body known ≡ rule.items is flow ty (with_statement body made) mid
unfolding rule.items
inner_more s is flow ty body made known mid e = ap (go_on (λ m. rule.items is flow ty (with_statement body m))) e

pub inner_refuses : (s : StatementTree) (is : Items) (flow : rule.Flow) (ty : IntTy) (body : rule.SwitchBody) (known : Known) (fault : CheckError) → Refuses fault (rule.statement s flow known) → Refuses fault (rule.items (tree.AndInner s is) flow ty body known)
unfolding rule.items
inner_refuses s is flow ty body known fault h = passes_on (λ m. rule.items is flow ty (with_statement body m)) (rule.statement s flow known) fault h
