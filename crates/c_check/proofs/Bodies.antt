-- What the rules say of blocks, loops, arms and switches, where their parts are those of the code's trees.
use Rattle.std.proofs.Common.{◌≡◌, ℕ, ◌+◌, ◌<◌, ◌≤◌, List, [], ◌∷◌, ◌++◌, append-nil, drop, get_or, length, map, Option, Some, None, Result, Ok, Vec, Global, refl, sym, ap, ◌∙◌}
use Rattle.std.proofs.lemmas.List.{map-append}
use Rattle.std.specs.Global.{Box}
use Rattle.c_ints.specs.declared.types.IntTy.{IntTy}
use Rattle.c_nodes.proofs.ProgramShapes as shapes
use Rattle.c_nodes.specs.ProgramViews as views
use Rattle.c_nodes.specs.Programs as tree
use Rattle.c_nodes.specs.Programs.{ArmTree, Arms, BlockTree, HeadTree, Items, StatementTree}
use Rattle.c_nodes.specs.Trees.{Tree}
use Rattle.c_nodes.specs.Views.{expr_of}
use Rattle.c_nodes.specs.declared.statement.Arm.{Arm}
use Rattle.c_nodes.specs.declared.statement.Block.{Block}
use Rattle.c_nodes.specs.declared.statement.ElseArm.{ElseArm}
use Rattle.c_nodes.specs.declared.statement.IfChain.{IfChain}
use Rattle.c_nodes.specs.declared.statement.Label.{Label}
use Rattle.c_nodes.specs.declared.statement.Otherwise.{Otherwise}
use Rattle.c_nodes.specs.declared.statement.Statement.{Statement as StatementCode}
use Rattle.c_nodes.specs.declared.statement.SwitchItem.{SwitchItem}
use Rattle.c_nodes.specs.declared.statement.SwitchItem.TheVariants as SwitchItem
use Rattle.c_nodes.specs.declared.statement.Statement.TheViews.{out-Arm, out-Block, out-ElseArm, out-IfChain, out-Otherwise}
use Rattle.c_typed.proofs.Shapes as typed_shapes
use Rattle.c_typed.specs.Trees as typed
use Rattle.c_typed.specs.Trees.{Expression, Statement}
use Rattle.c_typed.specs.Views.{arm_of, arm_step, statement_of, statement_step, expression_of}
use Rattle.c_typed.specs.declared.statement.LoopForm.{LoopForm}
use Rattle.c_typed.specs.declared.statement.LoopForm.TheVariants as loops
use Rattle.c_typed.specs.declared.statement.TArm.{TArm}
use Rattle.c_typed.specs.declared.statement.TStmt.{TStmt}
use Rattle.c_typed.specs.declared.statement.TStmt.TheFolds.{fold-roll-TArm}
use Rattle.c_typed.specs.declared.statement.TStmt.TheVariants as TStmt
use Rattle.c_typed.specs.declared.statement.TStmt.TheViews.{roll-TArm}
use Rattle.type_rules.specs.Faults.{Fault}
use Rattle.type_rules.specs.Known.{Known, Rule, given, go_on, ◌>>=◌}
use Rattle.type_rules.specs.Names.{enter, leave}
use Rattle.type_rules.specs.Statements as rule
use Rattle.c_tables.specs.Answers.{Refuses}
use Rattle.c_tables.specs.declared.error.CheckError.{CheckError}
use Rattle.c_check.specs.StatementViews.{any_statement, arms_behind, block_line, block_list, chain_arms, do_rule, for_rule, if_of, scoped_rule, switch_of, switch_rule, switched_rule, while_rule}
use Rattle.c_check.proofs.Answering.{goes, stops, refuses_as, next_of, none_left}
use Rattle.c_check.proofs.Items.{arms_else, arm_more, arm_refuses, items_end, label_more, label_refuses, inner_more, inner_refuses, with_statement}
use Rattle.c_check.proofs.Statements.{clause_chain, same_arms, same_statements}

-- ---- blocks

abbrev closing : BlockTree → List Statement → Rule Statement
closing b made = leave >>= (λ _. given (typed.Block (rule.statements_of made) (block_line b)))

pub scoped_refuses : (b : BlockTree) (flow : rule.Flow) (known mid seen : Known) (e : CheckError) → enter known ≡ Ok (seen, mid) → Refuses e (block_list b flow mid) → Refuses e (scoped_rule b flow known)
scoped_refuses b flow known mid seen e entered h = stops (closing b) (block_list b flow mid) (scoped_rule b flow known) e h (goes (λ _. block_list b flow >>= closing b) (enter known) seen mid (scoped_rule b flow known) entered refl)

pub scoped_is : (b : BlockTree) (flow : rule.Flow) (known mid seen inner left after : Known) (made : List Statement) → enter known ≡ Ok (seen, mid) → block_list b flow mid ≡ Ok (made, inner) → leave inner ≡ Ok (left, after) → scoped_rule b flow known ≡ Ok (typed.Block (rule.statements_of made) (block_line b), after)
scoped_is b flow known mid seen inner left after made entered h closed =
    ap (go_on (λ _. block_list b flow >>= closing b)) entered ∙ ap (go_on (closing b)) h ∙ ap (go_on (λ _. given (typed.Block (rule.statements_of made) (block_line b)))) closed

pub block_shown : (inner : Block) (statements : Vec TStmt Global) → typed.Block (rule.statements_of (map statement_of statements.items)) (block_line (views.block_of inner)) ≡ statement_of (TStmt.Block statements (out-Block inner).opening)
block_shown inner statements =
    ap (λ l. typed.Block (rule.statements_of (map statement_of statements.items)) (block_line l)) (shapes.show_block inner)
    ∙ sym (typed_shapes.show_statement_block statements (out-Block inner).opening ∙ ap (λ l. typed.Block l (out-Block inner).opening) (same_statements (map statement_of statements.items)))

-- ---- loops

module _ (e : Tree) (s : StatementTree) (line : ℕ) (flow : rule.Flow) (known : Known) (is : flow ≡ rule.in_loop) where
  pub while_starts : go_on (λ made. rule.statement s flow >>= (λ body. given (typed.Loop loops.While None (Some made) None body line))) (rule.condition e known) ≡ while_rule e s line known
  while_starts = ap (λ (f : rule.Flow). go_on (λ made. rule.statement s f >>= (λ body. given (typed.Loop loops.While None (Some made) None body line))) (rule.condition e known)) is

  pub do_starts : go_on (λ body. rule.condition e >>= (λ made. given (typed.Loop loops.Do None (Some made) None body line))) (rule.statement s flow known) ≡ do_rule e s line known
  do_starts = ap (λ (f : rule.Flow). go_on (λ body. rule.condition e >>= (λ made. given (typed.Loop loops.Do None (Some made) None body line))) (rule.statement s f known)) is

module _ (h : HeadTree) (s : StatementTree) (line : ℕ) (flow : rule.Flow) (known : Known) (is : flow ≡ rule.in_loop) where
  pub for_starts : go_on (λ begin. rule.condition_if_any h.condition >>= (λ made. rule.value_if_any h.step >>= (λ step. rule.statement s flow >>= (λ body. given (typed.Loop loops.For begin made step body line))))) (rule.value_if_any h.begin known) ≡ for_rule h s line known
  for_starts = ap (λ (f : rule.Flow). go_on (λ begin. rule.condition_if_any h.condition >>= (λ made. rule.value_if_any h.step >>= (λ step. rule.statement s f >>= (λ body. given (typed.Loop loops.For begin made step body line))))) (rule.value_if_any h.begin known)) is

pub looped_as : (form : LoopForm) (b b' c c' s s' : Option Expression) (body : Statement) (line : ℕ) (known : Known) → b ≡ b' → c ≡ c' → s ≡ s' → given (typed.Loop form b c s body line) known ≡ given (typed.Loop form b' c' s' body line) known
looped_as form b b' c c' s s' body line known p q r = ap (λ (x : Option Expression). given (typed.Loop form x c s body line) known) p ∙ ap (λ (x : Option Expression). given (typed.Loop form b' x s body line) known) q ∙ ap (λ (x : Option Expression). given (typed.Loop form b' c' x body line) known) r

-- ---- arms

clause_arm : (line : ℕ) (c : tree.ConditionTree) (s : StatementTree) (flow : rule.Flow) (known : Known) → rule.arm (tree.Arm line c s) flow known ≡ (rule.condition c.expr >>= (λ e. rule.statement s flow >>= (λ made. given (typed.OneArm e made line)))) known
unfolding rule.arm
clause_arm line c s flow known = refl

pub arm_starts : (x : Arm) (flow : rule.Flow) (known : Known) → go_on (λ e. rule.statement (views.statement_of (out-Arm x).then) flow >>= (λ made. given (typed.OneArm e made (out-Arm x).keyword))) (rule.condition (expr_of (out-Arm x).condition.expr) known) ≡ rule.arm (views.arm_of x) flow known
arm_starts x flow known = sym (ap (λ a. rule.arm a flow known) (shapes.show_arm x) ∙ clause_arm (out-Arm x).keyword (views.condition_of (out-Arm x).condition) (views.statement_of (out-Arm x).then) flow known)

pub arm_shown : (y : _) → arm_of (roll-TArm y) ≡ typed.OneArm (expression_of y.condition) (statement_of y.then) y.line
unfolding statement_of arm_of
arm_shown y = fold-roll-TArm Statement typed.Arm statement_step arm_step y

-- the statement behind the last `else`
pub else_starts : (x : Otherwise) (flow : rule.Flow) (known : Known) → go_on (λ last. given ([], Some last)) (rule.statement (views.statement_of (out-Otherwise x).statement) flow known) ≡ rule.other_arms (views.arms_of [] (Some (views.otherwise_of x))) flow known
else_starts x flow known = sym (ap (λ (o : ℕ × StatementTree). rule.other_arms (tree.Else o.0 o.1) flow known) (shapes.show_otherwise x) ∙ arms_else (out-Otherwise x).keyword (views.statement_of (out-Otherwise x).statement) flow known)

-- ---- `if`

pub chain_starts : (x : IfChain) (flow : rule.Flow) (known : Known) →
    go_on (λ made. given (if_of made (rule.arm_line (views.arm_of (out-IfChain x).first.value)))) (chain_arms (views.arm_of (out-IfChain x).first.value) (views.arms_of (map views.else_arm_of (out-IfChain x).others.items) (views.otherwise_in (out-IfChain x).last)) flow known)
    ≡ rule.statement (views.if_chain_of x) flow known
chain_starts x flow known = sym (ap (λ s. rule.statement s flow known) (shapes.show_if_chain x) ∙ clause_chain (views.arm_of (out-IfChain x).first.value) (views.arms_of (map views.else_arm_of (out-IfChain x).others.items) (views.otherwise_in (out-IfChain x).last)) flow known)

pub arm_line_is : (x : Arm) → rule.arm_line (views.arm_of x) ≡ (out-Arm x).keyword
arm_line_is x = ap rule.arm_line (shapes.show_arm x)

pub if_shown : (arms : Vec TArm Global) (last : Option (Box TStmt)) (line : ℕ) → if_of (map arm_of arms.items, any_statement last) line ≡ statement_of (TStmt.If arms last line)
if_shown arms None line = sym (typed_shapes.show_statement_if_alone arms line ∙ ap (λ a. typed.If a typed.NoLast line) (same_arms (map arm_of arms.items)))
if_shown arms (Some last) line = sym (typed_shapes.show_statement_if_else arms last line ∙ ap (λ a. typed.If a (typed.Last (statement_of last.value)) line) (same_arms (map arm_of arms.items)))

module _ (x : IfChain) (flow : rule.Flow) (known : Known) where
  abbrev first_in : ArmTree
  first_in = views.arm_of (out-IfChain x).first.value

  abbrev others_in : Arms
  others_in = views.arms_of (map views.else_arm_of (out-IfChain x).others.items) (views.otherwise_in (out-IfChain x).last)

  abbrev said_in : Result (rule.Others × Known) Fault
  said_in = chain_arms first_in others_in flow known

  abbrev made_in : rule.Others → Rule Statement
  made_in made = given (if_of made (rule.arm_line first_in))

  -- what the arms refuse, the chain does
  pub chain_refuses : (e : CheckError) → Refuses e said_in → Refuses e (rule.statement (views.if_chain_of x) flow known)
  chain_refuses e h = stops made_in said_in (rule.statement (views.if_chain_of x) flow known) e h (chain_starts x flow known)

  pub first_refuses : (a : Arm) (e : CheckError) → a ≡ (out-IfChain x).first.value → Refuses e (rule.arm (views.arm_of a) flow known) → Refuses e (rule.statement (views.if_chain_of x) flow known)
  first_refuses a e is h = chain_refuses e (stops (λ made. arms_behind (made ∷ []) others_in flow) (rule.arm (views.arm_of a) flow known) said_in e h (ap (λ b. go_on (λ made. arms_behind (made ∷ []) others_in flow) (rule.arm (views.arm_of b) flow known)) is))

  pub chain_begins : (a : Arm) (items : List ElseArm) (arms : List TArm) (one : TArm) (mid : Known) → a ≡ (out-IfChain x).first.value → items ≡ (out-IfChain x).others.items → arms ≡ one ∷ [] → rule.arm (views.arm_of a) flow known ≡ Ok (arm_of one, mid)
      → arms_behind (map arm_of arms) (views.arms_of (map views.else_arm_of items) (views.otherwise_in (out-IfChain x).last)) flow mid ≡ said_in
  chain_begins a items arms one mid is same put h =
      ap (λ (l : List TArm). arms_behind (map arm_of l) (views.arms_of (map views.else_arm_of items) (views.otherwise_in (out-IfChain x).last)) flow mid) put
      ∙ ap (λ (l : List ElseArm). arms_behind (arm_of one ∷ []) (views.arms_of (map views.else_arm_of l) (views.otherwise_in (out-IfChain x).last)) flow mid) same
      ∙ goes (λ made. arms_behind (made ∷ []) others_in flow) (rule.arm (views.arm_of a) flow known) (arm_of one) mid said_in h (ap (λ b. go_on (λ made. arms_behind (made ∷ []) others_in flow) (rule.arm (views.arm_of b) flow known)) is)

module _ (x : IfChain) (flow : rule.Flow) (known : Known) (arms : List TArm) (items : List ElseArm) (i : ℕ) (now : Known) (so_far : arms_behind (map arm_of arms) (views.arms_of (map views.else_arm_of (drop i items)) (views.otherwise_in (out-IfChain x).last)) flow now ≡ (said_in x flow known)) where
  abbrev from_here : List (ℕ × ArmTree) → Result (rule.Others × Known) Fault
  from_here es = arms_behind (map arm_of arms) (views.arms_of es (views.otherwise_in (out-IfChain x).last)) flow now

  abbrev rest_in : Arms
  rest_in = views.arms_of (map views.else_arm_of (drop (i + 1) items)) (views.otherwise_in (out-IfChain x).last)

  at_arm : (other : ElseArm) → i < length items → other ≡ get_or items i other → arms_behind (map arm_of arms) (tree.ElseIf (out-ElseArm other).else_keyword (views.arm_of (out-ElseArm other).arm) rest_in) flow now ≡ (said_in x flow known)
  at_arm other lt is = next_of from_here views.else_arm_of items i other ((out-ElseArm other).else_keyword, views.arm_of (out-ElseArm other).arm) (said_in x flow known) lt is (shapes.show_else_arm other) so_far

  pub other_refuses : (other : ElseArm) (e : CheckError) → i < length items → other ≡ get_or items i other → Refuses e (rule.arm (views.arm_of (out-ElseArm other).arm) flow now) → Refuses e (rule.statement (views.if_chain_of x) flow known)
  other_refuses other e lt is h = chain_refuses x flow known e (refuses_as (arms_behind (map arm_of arms) (tree.ElseIf (out-ElseArm other).else_keyword (views.arm_of (out-ElseArm other).arm) rest_in) flow now) (said_in x flow known) e
      (arm_refuses (map arm_of arms) (out-ElseArm other).else_keyword (views.arm_of (out-ElseArm other).arm) rest_in flow now e h) (at_arm other lt is))

  pub chain_more : (other : ElseArm) (one : TArm) (new : List TArm) (mid : Known) → i < length items → other ≡ get_or items i other → rule.arm (views.arm_of (out-ElseArm other).arm) flow now ≡ Ok (arm_of one, mid) → new ≡ arms ++ one ∷ [] → arms_behind (map arm_of new) rest_in flow mid ≡ (said_in x flow known)
  chain_more other one new mid lt is h put =
      ap (λ (l : List typed.Arm). arms_behind l rest_in flow mid) (ap (map arm_of) put ∙ map-append arm_of arms (one ∷ []))
      ∙ sym (arm_more (map arm_of arms) (arm_of one) (out-ElseArm other).else_keyword (views.arm_of (out-ElseArm other).arm) rest_in flow now mid h)
      ∙ at_arm other lt is

  abbrev last_in : Result (rule.Others × Known) Fault
  last_in = rule.other_arms (views.arms_of [] (views.otherwise_in (out-IfChain x).last)) flow now

  at_end : length items ≤ i → go_on (λ made. given (map arm_of arms ++ made.0, made.1)) last_in ≡ (said_in x flow known)
  at_end le = none_left from_here views.else_arm_of items i (said_in x flow known) le so_far

  pub last_refuses : (e : CheckError) → length items ≤ i → Refuses e last_in → Refuses e (rule.statement (views.if_chain_of x) flow known)
  last_refuses e le h = chain_refuses x flow known e (stops (λ made. given (map arm_of arms ++ made.0, made.1)) last_in (said_in x flow known) e h (at_end le))

  pub chain_is : (all : Vec TArm Global) (last : Option (Box TStmt)) (line : ℕ) (after : Known) → all.items ≡ arms → line ≡ (out-Arm (out-IfChain x).first.value).keyword → length items ≤ i → last_in ≡ Ok (([], any_statement last), after) → rule.statement (views.if_chain_of x) flow known ≡ Ok (statement_of (TStmt.If all last line), after)
  chain_is all last line after same lined le h =
      sym (chain_starts x flow known)
      ∙ ap (go_on (made_in x flow known)) (sym (at_end le) ∙ ap (go_on (λ made. given (map arm_of arms ++ made.0, made.1))) h)
      ∙ ap (λ (l : List typed.Arm). Ok (if_of (l, any_statement last) (rule.arm_line (first_in x flow known)), after)) (append-nil (map arm_of arms) ∙ ap (map arm_of) (sym same))
      ∙ ap (λ (n : ℕ). Ok (if_of (map arm_of all.items, any_statement last) n, after)) (arm_line_is (out-IfChain x).first.value ∙ sym lined)
      ∙ ap (λ s. Ok (s, after)) (if_shown all last line)

-- ---- `switch`

pub switch_starts : (e : Tree) (is : Items) (flow inside : rule.Flow) (line : ℕ) (known : Known) → inside ≡ rule.in_switch flow → go_on (λ (s : Expression × IntTy). rule.items is inside s.1 rule.no_items >>= (λ body. given (switch_of s.0 body line))) (switched_rule e known) ≡ switch_rule e is flow line known
switch_starts e is flow inside line known same = ap (λ (f : rule.Flow). go_on (λ (s : Expression × IntTy). rule.items is f s.1 rule.no_items >>= (λ body. given (switch_of s.0 body line))) (switched_rule e known)) same

module _ (flow : rule.Flow) (ty : IntTy) (xs : List SwitchItem) (i : ℕ) (body : rule.SwitchBody) (known : Known) (total : Result (rule.SwitchBody × Known) Fault) (so_far : rule.items (views.items_of (map views.switch_item_of (drop i xs))) flow ty body known ≡ total) where
  abbrev rest_items : Items
  rest_items = views.items_of (map views.switch_item_of (drop (i + 1) xs))

  at_item : (item : SwitchItem) (inner : views.InnerTree) → i < length xs → item ≡ get_or xs i item → views.switch_item_of item ≡ inner → rule.items (views.with_inner inner rest_items) flow ty body known ≡ total
  at_item item inner lt is same = next_of (λ (l : List views.InnerTree). rule.items (views.items_of l) flow ty body known) views.switch_item_of xs i item inner total lt is same so_far

  at_label : (item : SwitchItem) (label : Label) → i < length xs → item ≡ get_or xs i item → item ≡ SwitchItem.Label label → rule.items (tree.AndLabel (views.label_of label) rest_items) flow ty body known ≡ total
  at_label item label lt is variant = at_item item (views.LabelInner (views.label_of label)) lt is (ap views.switch_item_of variant ∙ shapes.show_switch_item_label label)

  at_inner : (item : SwitchItem) (inner : StatementCode) → i < length xs → item ≡ get_or xs i item → item ≡ SwitchItem.Statement inner → rule.items (tree.AndInner (views.statement_of inner) rest_items) flow ty body known ≡ total
  at_inner item inner lt is variant = at_item item (views.StatementInner (views.statement_of inner)) lt is (ap views.switch_item_of variant ∙ shapes.show_switch_item_statement inner)

  pub label_on : (item : SwitchItem) (label : Label) (own : IntTy) (next : rule.SwitchBody) (mid : Known) → i < length xs → item ≡ get_or xs i item → item ≡ SwitchItem.Label label → own ≡ ty → rule.label_rule (views.label_of label) own body known ≡ Ok (next, mid) → rule.items rest_items flow ty next mid ≡ total
  label_on item label own next mid lt is variant same h =
      sym (label_more (views.label_of label) rest_items flow ty body next known mid (ap (λ (t : IntTy). rule.label_rule (views.label_of label) t body known) (sym same) ∙ h)) ∙ at_label item label lt is variant

  pub label_off : (item : SwitchItem) (label : Label) (own : IntTy) (e : CheckError) → i < length xs → item ≡ get_or xs i item → item ≡ SwitchItem.Label label → own ≡ ty → Refuses e (rule.label_rule (views.label_of label) own body known) → Refuses e total
  label_off item label own e lt is variant same h =
      refuses_as (rule.items (tree.AndLabel (views.label_of label) rest_items) flow ty body known) total e
      (label_refuses (views.label_of label) rest_items flow ty body known e (refuses_as (rule.label_rule (views.label_of label) own body known) (rule.label_rule (views.label_of label) ty body known) e h (ap (λ (t : IntTy). rule.label_rule (views.label_of label) t body known) same)))
      (at_label item label lt is variant)

  pub inner_on : (item : SwitchItem) (inner : StatementCode) (made : Statement) (next : rule.SwitchBody) (mid : Known) → i < length xs → item ≡ get_or xs i item → item ≡ SwitchItem.Statement inner → rule.statement (views.statement_of inner) flow known ≡ Ok (made, mid) → next ≡ with_statement body made → rule.items rest_items flow ty next mid ≡ total
  inner_on item inner made next mid lt is variant h put =
      ap (λ (b : rule.SwitchBody). rule.items rest_items flow ty b mid) put ∙ sym (inner_more (views.statement_of inner) rest_items flow ty body made known mid h) ∙ at_inner item inner lt is variant

  pub inner_off : (item : SwitchItem) (inner : StatementCode) (e : CheckError) → i < length xs → item ≡ get_or xs i item → item ≡ SwitchItem.Statement inner → Refuses e (rule.statement (views.statement_of inner) flow known) → Refuses e total
  inner_off item inner e lt is variant h =
      refuses_as (rule.items (tree.AndInner (views.statement_of inner) rest_items) flow ty body known) total e (inner_refuses (views.statement_of inner) rest_items flow ty body known e h) (at_inner item inner lt is variant)

  pub body_is : length xs ≤ i → total ≡ Ok (body, known)
  body_is le = sym (none_left (λ (l : List views.InnerTree). rule.items (views.items_of l) flow ty body known) views.switch_item_of xs i total le so_far) ∙ items_end flow ty body known
