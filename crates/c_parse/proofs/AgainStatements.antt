-- Statements are read again from their spelling, where no `else` follows that an open `if` at the end would take.
use Rattle.std.proofs.Common.{◌≡◌, ℕ, zero, suc, ◌<◌, ◌≤◌, Bool, true, false, List, [], ◌∷◌, ◌++◌, length, Option, Some, None, refl, ap, ◌∙◌, append_assoc, length-append, arith}
use Rattle.std.proofs.lemmas.Bool.{eq-eqb}
use Rattle.c_token.specs.declared.token.TokKind.{TokKind}
use Rattle.c_token.specs.declared.token.TokKind.TheVariants as kinds
use Rattle.c_token.specs.declared.token.Keyword.{Keyword}
use Rattle.c_token.specs.declared.token.Keyword.TheVariants as words
use Rattle.c_token.specs.declared.token.Punct.{Punct}
use Rattle.c_token.specs.declared.token.Punct.TheVariants as marks
use Rattle.c_nodes.specs.Words.{Symbol, Symbols, key, punct}
use Rattle.c_nodes.specs.Kinds.{number_of, is_key, is_spec}
use Rattle.c_nodes.specs.Trees.{Tree, spelled, IsTree}
use Rattle.c_nodes.specs.Programs.{ConditionTree, HeadTree, LabelTree, Case, Default, DeclarationTree, StatementTree, Braced, Plain, Chain, While, Do, For, Switch, Break, Continue, Return, BlockTree, Block, Statements, NoStatement, AndStatement, ArmTree, Arm, Arms, NoElse, Else, ElseIf, Items, NoItem, AndLabel, AndInner, spelled_any, spelled_condition, spelled_head, spelled_label, spelled_declarations, spelled_statement, spelled_block, spelled_statements, spelled_arm, spelled_arms, spelled_items, IsAny, IsHead, IsLabel, IsStatement, IsBlock, AreStatements, IsArm, AreArms, AreItems, is_open, is_open_arms, MayPrecede, depth, depth_block, depth_statements, depth_arm, depth_arms, depth_items}
use Rattle.c_nodes.specs.ProgramViews.{statements_of, arms_of, InnerTree, LabelInner, StatementInner, items_of}
use Rattle.parse_expr.specs.Reader.{◌>>=◌, Reader, front_is, punct_at, key_at, got, collect}
use Rattle.parse_expr.proofs.Knots.{begins_expr, Stops}
use Rattle.parse_expr.proofs.Collects.{front_not, punct_none, collect_ends, collect_more}
use Rattle.parse_expr.proofs.AgainOperands.{expr_starts}
use Rattle.parse_expr.proofs.AgainAll.{expr_again, cond_again}
use Rattle.c_parse.specs.Reading.{condition_by, any_before, head_by, plain_by, break_by, continue_by, return_by, arm_by, next_arm_by, last_by, chain_by, while_by, do_by, for_by, case_by, default_by, inner_by, switch_by, next_statement_by, block_by, braced_by, statement_by, statement_at}
use Rattle.c_parse.proofs.AgainFronts.{apart_mark, apart_word, no_mark, no_word, has_front, begins_statement, statement_starts, statement_has_token, statement_no_spec, statement_no_if}
use Rattle.c_parse.proofs.AgainDeclarations.{declarations_again}

-- ---- expressions that stand alone

pub condition_again : (n : ℕ) (c : ConditionTree) → length (spelled_condition c) ≤ n → IsTree c.expr → (rest : Symbols) → condition_by n (spelled_condition c ++ rest) ≡ Some (c, rest)
unfolding condition_by punct_at
condition_again n c le is rest =
    let close = punct marks.RightParenthesis c.closing ∷ rest in
    let sizes = length-append (spelled c.expr) (punct marks.RightParenthesis c.closing ∷ []) in
    let first = expr_again n c.expr (omega arith) is close refl in
    rw (append_assoc (spelled c.expr) (punct marks.RightParenthesis c.closing ∷ []) rest, first) refl

-- an expression that may be left out, before a punctuator with which none begins or goes on
pub any_again : (n : ℕ) (p : Punct) → begins_expr (kinds.Punct p) ≡ false → Stops 13 (punct p 0 ∷ []) → (e : Option Tree) → length (spelled_any e) ≤ n → IsAny e → (c : ℕ) (rest : Symbols) → any_before n p (spelled_any e ++ punct p c ∷ rest) ≡ Some ((e, c), rest)
unfolding any_before punct_at
any_again n p never stop None le is c rest = rw (eq-eqb (number_of p) (number_of p) refl) refl
any_again n p never stop (Some e) le is c rest =
    let close = punct p c ∷ rest in
    let none = punct_none p (spelled e ++ close) (no_mark begins_expr p never (spelled e ++ close) (expr_starts e is close)) in
    let first = expr_again n e le is close stop in
    rw (none, first, eq-eqb (number_of p) (number_of p) refl) refl

pub head_again : (n : ℕ) (h : HeadTree) → length (spelled_head h) ≤ n → IsHead h → (rest : Symbols) → head_by n (spelled_head h ++ rest) ≡ Some (h, rest)
unfolding head_by punct_at
head_again n h le is rest =
    let third = spelled_any h.step ++ punct marks.RightParenthesis h.closing ∷ rest in
    let second = spelled_any h.condition ++ punct marks.Semicolon h.second ∷ third in
    let first = spelled_any h.begin ++ punct marks.Semicolon h.first ∷ second in
    let regrouped : spelled_head h ++ rest ≡ punct marks.LeftParenthesis h.opening ∷ first = simp append_assoc in
    let a = any_again n marks.Semicolon refl refl h.begin (omega (arith, length-append {A = Symbol})) is.0 h.first second in
    let b = any_again n marks.Semicolon refl refl h.condition (omega (arith, length-append {A = Symbol})) is.1 h.second third in
    let c = any_again n marks.RightParenthesis refl refl h.step (omega (arith, length-append {A = Symbol})) is.2 h.closing rest in
    ap (head_by n) regrouped ∙ rw (a, b, c) refl

-- ---- lists of parts

abbrev pub statement_items : Statements → List StatementTree
statement_items NoStatement = []
statement_items (AndStatement s ss) = s ∷ statement_items ss

pub statements_of_items : (ss : Statements) → statements_of (statement_items ss) ≡ ss
statements_of_items NoStatement = refl
statements_of_items (AndStatement s ss) = ap (AndStatement s) (statements_of_items ss)

abbrev pub arm_items : Arms → List (ℕ × ArmTree)
arm_items NoElse = []
arm_items (Else k s) = []
arm_items (ElseIf k a as_) = (k, a) ∷ arm_items as_

abbrev pub last_item : Arms → Option (ℕ × StatementTree)
last_item NoElse = None
last_item (Else k s) = Some (k, s)
last_item (ElseIf k a as_) = last_item as_

pub arms_of_items : (as_ : Arms) → arms_of (arm_items as_) (last_item as_) ≡ as_
arms_of_items NoElse = refl
arms_of_items (Else k s) = refl
arms_of_items (ElseIf k a as_) = ap (ElseIf k a) (arms_of_items as_)

abbrev pub inner_items : Items → List InnerTree
inner_items NoItem = []
inner_items (AndLabel l is) = LabelInner l ∷ inner_items is
inner_items (AndInner s is) = StatementInner s ∷ inner_items is

pub items_of_items : (is : Items) → items_of (inner_items is) ≡ is
items_of_items NoItem = refl
items_of_items (AndLabel l is) = ap (AndLabel l) (items_of_items is)
items_of_items (AndInner s is) = ap (AndInner s) (items_of_items is)

-- ---- what is read, of each kind

abbrev pub NoElseIn : Symbols → Type 0
NoElseIn rest = front_is (is_key words.Else) rest ≡ false

abbrev pub ReadsStatement : ℕ → StatementTree → Type 0
ReadsStatement n s = (room : ℕ) → depth s < room → length (spelled_statement s) ≤ n → IsStatement s → (rest : Symbols) → (is_open s ≡ true → NoElseIn rest) → statement_at n room (spelled_statement s ++ rest) ≡ Some (s, rest)

abbrev pub ReadsBlock : ℕ → BlockTree → Type 0
ReadsBlock n b = (room : ℕ) → depth_block b ≤ room → length (spelled_block b) ≤ n → IsBlock b → (rest : Symbols) → block_by n (statement_at n room) (spelled_block b ++ rest) ≡ Some (b, rest)

abbrev ReadsStatements : ℕ → Statements → Type 0
ReadsStatements n ss = (room : ℕ) → depth_statements ss ≤ room → length (spelled_statements ss) ≤ n → AreStatements ss → (c : ℕ) (rest : Symbols) (m : ℕ) → length (spelled_statements ss) ≤ m → collect (next_statement_by (statement_at n room)) m (spelled_statements ss ++ punct marks.RightBrace c ∷ rest) ≡ Some (statement_items ss, punct marks.RightBrace c ∷ rest)

abbrev pub body_open : ArmTree → Bool
body_open (Arm k e s) = is_open s

abbrev ReadsArm : ℕ → ArmTree → Type 0
ReadsArm n a = (room : ℕ) → depth_arm a ≤ room → length (spelled_arm a) ≤ n → IsArm a → (rest : Symbols) → (body_open a ≡ true → NoElseIn rest) → arm_by n (statement_at n room) (spelled_arm a ++ rest) ≡ Some (a, rest)

-- the last `else`, and what is behind it
abbrev last_part : Arms → Symbols → Symbols
last_part NoElse rest = rest
last_part (Else k s) rest = key words.Else k ∷ (spelled_statement s ++ rest)
last_part (ElseIf k a as_) rest = last_part as_ rest

pub record ArmsRead (n room m : ℕ) (as_ : Arms) (rest : Symbols) : Type 0 where
  pub others : collect (next_arm_by n (statement_at n room)) m (spelled_arms as_ ++ rest) ≡ Some (arm_items as_, last_part as_ rest)
  pub last : last_by (statement_at n room) (last_part as_ rest) ≡ Some (last_item as_, rest)

abbrev ReadsArms : ℕ → Arms → Type 0
ReadsArms n as_ = (room : ℕ) → depth_arms as_ ≤ room → length (spelled_arms as_) ≤ n → AreArms as_ → (rest : Symbols) → (is_open_arms as_ ≡ true → NoElseIn rest) → (m : ℕ) → length (spelled_arms as_) ≤ m → ArmsRead n room m as_ rest

abbrev ReadsItems : ℕ → Items → Type 0
ReadsItems n is = (room : ℕ) → depth_items is ≤ room → length (spelled_items is) ≤ n → AreItems is → (c : ℕ) (rest : Symbols) (m : ℕ) → length (spelled_items is) ≤ m → collect (inner_by n (statement_at n room)) m (spelled_items is ++ punct marks.RightBrace c ∷ rest) ≡ Some (inner_items is, punct marks.RightBrace c ∷ rest)

-- ---- statements without others in them

plain_front : (n : ℕ) (next : Reader StatementTree) (toks : Symbols) → front_is begins_expr toks ≡ true → statement_by n next toks ≡ plain_by n toks
unfolding statement_by
plain_front n next [] h = absurd cc
plain_front n next (s ∷ toks) h =
    rw (apart_mark begins_expr marks.LeftBrace refl s.kind h, apart_word begins_expr words.If refl s.kind h, apart_word begins_expr words.While refl s.kind h, apart_word begins_expr words.Do refl s.kind h, apart_word begins_expr words.For refl s.kind h, apart_word begins_expr words.Switch refl s.kind h, apart_word begins_expr words.Break refl s.kind h, apart_word begins_expr words.Continue refl s.kind h, apart_word begins_expr words.Return refl s.kind h) refl

plain_reads : (n : ℕ) (e : Option Tree) (c : ℕ) → ReadsStatement n (Plain e c)
unfolding statement_at statement_by plain_by
plain_reads n e c zero deep le is rest f = absurd (omega arith)
plain_reads n None c (suc room) deep le is rest f =
    let a = any_again n marks.Semicolon refl refl None (omega arith) tt c rest in
    rw a refl
plain_reads n (Some e) c (suc room) deep le is rest f =
    let close = punct marks.Semicolon c ∷ rest in
    let first = plain_front n (statement_at n room) (spelled e ++ close) (expr_starts e is close) in
    let a = any_again n marks.Semicolon refl refl (Some e) (omega (arith, length-append (spelled e) (punct marks.Semicolon c ∷ []))) is c rest in
    rw (append_assoc (spelled e) (punct marks.Semicolon c ∷ []) rest, first, a) refl

break_reads : (n k c : ℕ) → ReadsStatement n (Break k c)
unfolding statement_at statement_by break_by punct_at
break_reads n k c zero deep le is rest f = absurd (omega arith)
break_reads n k c (suc room) deep le is rest f = refl

continue_reads : (n k c : ℕ) → ReadsStatement n (Continue k c)
unfolding statement_at statement_by continue_by punct_at
continue_reads n k c zero deep le is rest f = absurd (omega arith)
continue_reads n k c (suc room) deep le is rest f = refl

return_reads : (n k : ℕ) (e : Option Tree) (c : ℕ) → ReadsStatement n (Return k e c)
unfolding statement_at statement_by return_by
return_reads n k e c zero deep le is rest f = absurd (omega arith)
return_reads n k e c (suc room) deep le is rest f =
    let a = any_again n marks.Semicolon refl refl e (omega (arith, length-append (spelled_any e) (punct marks.Semicolon c ∷ []))) is c rest in
    rw (append_assoc (spelled_any e) (punct marks.Semicolon c ∷ []) rest, a) refl

-- ---- loops

while_reads : (n k : ℕ) (e : ConditionTree) (s : StatementTree) → ReadsStatement n s → ReadsStatement n (While k e s)
unfolding statement_at statement_by while_by
while_reads n k e s hs zero deep le is rest f = absurd (omega arith)
while_reads n k e s hs (suc room) deep le is rest f =
    let more = spelled_statement s ++ rest in
    let sizes = length-append (spelled_condition e) (spelled_statement s) in
    let a = condition_again n e (omega arith) is.0 more in
    let b = hs room (omega arith) (omega arith) is.1 rest f in
    ap (λ (l : Symbols). statement_at n (suc room) (key words.While k ∷ l)) (append_assoc (spelled_condition e) (spelled_statement s) rest) ∙ rw (a, b) refl

do_spelled : (s : StatementTree) (w : ℕ) (e : ConditionTree) (c : ℕ) (rest : Symbols) → (spelled_statement s ++ key words.While w ∷ (spelled_condition e ++ punct marks.Semicolon c ∷ [])) ++ rest ≡ spelled_statement s ++ key words.While w ∷ (spelled_condition e ++ punct marks.Semicolon c ∷ rest)
do_spelled s w e c rest = simp append_assoc

do_reads : (n k : ℕ) (s : StatementTree) (w : ℕ) (e : ConditionTree) (c : ℕ) → ReadsStatement n s → ReadsStatement n (Do k s w e c)
unfolding statement_at statement_by do_by key_at punct_at
do_reads n k s w e c hs zero deep le is rest f = absurd (omega arith)
do_reads n k s w e c hs (suc room) deep le is rest f =
    let end = punct marks.Semicolon c ∷ rest in
    let more = key words.While w ∷ (spelled_condition e ++ end) in
    let sizes = length-append (spelled_statement s) (key words.While w ∷ (spelled_condition e ++ punct marks.Semicolon c ∷ [])) in
    let sizes_behind = length-append (spelled_condition e) (punct marks.Semicolon c ∷ []) in
    let a = hs room (omega arith) (omega arith) is.0 more (λ opens. refl) in
    let b = condition_again n e (omega arith) is.1 end in
    ap (λ (l : Symbols). statement_at n (suc room) (key words.Do k ∷ l)) (do_spelled s w e c rest) ∙ rw (a, b) refl

for_reads : (n k : ℕ) (h : HeadTree) (s : StatementTree) → ReadsStatement n s → ReadsStatement n (For k h s)
unfolding statement_at statement_by for_by
for_reads n k h s hs zero deep le is rest f = absurd (omega arith)
for_reads n k h s hs (suc room) deep le is rest f =
    let more = spelled_statement s ++ rest in
    let sizes = length-append (spelled_head h) (spelled_statement s) in
    let a = head_again n h (omega arith) is.0 more in
    let b = hs room (omega arith) (omega arith) is.1 rest f in
    ap (λ (l : Symbols). statement_at n (suc room) (key words.For k ∷ l)) (append_assoc (spelled_head h) (spelled_statement s) rest) ∙ rw (a, b) refl

-- ---- blocks

pub no_else : (s : StatementTree) → IsStatement s → (rest : Symbols) → NoElseIn (spelled_statement s ++ rest)
no_else s is rest = no_word begins_statement words.Else refl (spelled_statement s ++ rest) (statement_starts s is rest)

-- behind declarations stands no specifier, and behind a statement of a block no `else`
statements_front : (test : TokKind → Bool) → test (kinds.Punct marks.RightBrace) ≡ false → ((k : TokKind) → begins_statement k ≡ true → test k ≡ false) → (ss : Statements) → AreStatements ss → (c : ℕ) (rest : Symbols) → front_is test (spelled_statements ss ++ punct marks.RightBrace c ∷ rest) ≡ false
statements_front test closing never NoStatement are c rest = closing
statements_front test closing never (AndStatement s ss) are c rest =
    let behind = spelled_statements ss ++ punct marks.RightBrace c ∷ rest in
    ap (front_is test) (append_assoc (spelled_statement s) (spelled_statements ss) (punct marks.RightBrace c ∷ rest)) ∙ front_not begins_statement test never (spelled_statement s ++ behind) (statement_starts s are.0 behind)

statements_end : (next : Reader StatementTree) (c : ℕ) (rest : Symbols) → next_statement_by next (punct marks.RightBrace c ∷ rest) ≡ Some None
unfolding next_statement_by
statements_end next c rest = refl

no_statement_reads : (n : ℕ) → ReadsStatements n NoStatement
no_statement_reads n room deep le are c rest m turns = collect_ends (next_statement_by (statement_at n room)) m (punct marks.RightBrace c ∷ rest) (statements_end (statement_at n room) c rest)

next_statement_reads : (next : Reader StatementTree) (s : StatementTree) (more : Symbols) → IsStatement s → next (spelled_statement s ++ more) ≡ Some (s, more) → next_statement_by next (spelled_statement s ++ more) ≡ Some (Some (s, more))
unfolding next_statement_by
next_statement_reads next s more is h =
    let starts = statement_starts s is more in
    rw (no_mark begins_statement marks.RightBrace refl (spelled_statement s ++ more) starts, has_front begins_statement (spelled_statement s ++ more) starts, h) refl

and_statement_reads : (n : ℕ) (s : StatementTree) (ss : Statements) → ReadsStatement n s → ReadsStatements n ss → ReadsStatements n (AndStatement s ss)
and_statement_reads n s ss hs hss room deep le are c rest zero turns = absurd (omega (arith, statement_has_token s, length-append (spelled_statement s) (spelled_statements ss)))
and_statement_reads n s ss hs hss room deep le are c rest (suc m) turns =
    let end = punct marks.RightBrace c ∷ rest in
    let more = spelled_statements ss ++ end in
    let sizes = length-append (spelled_statement s) (spelled_statements ss) in
    let first = hs room (omega arith) (omega arith) are.0 more (λ opens. statements_front (is_key words.Else) refl (apart_word begins_statement words.Else refl) ss are.1 c rest) in
    let step = next_statement_reads (statement_at n room) s more are.0 first in
    let others = hss room (omega arith) (omega arith) are.1 c rest m (omega (arith, statement_has_token s)) in
    ap (collect (next_statement_by (statement_at n room)) (suc m)) (append_assoc (spelled_statement s) (spelled_statements ss) end)
    ∙ collect_more (next_statement_by (statement_at n room)) m (spelled_statement s ++ more) more end s (statement_items ss) step others

block_reads : (n o : ℕ) (ds : List DeclarationTree) (ss : Statements) (c : ℕ) → ReadsStatements n ss → ReadsBlock n (Block o ds ss c)
unfolding block_by punct_at
block_reads n o ds ss c hss room deep le is rest =
    let end = punct marks.RightBrace c ∷ rest in
    let more = spelled_statements ss ++ end in
    let regrouped : spelled_block (Block o ds ss c) ++ rest ≡ punct marks.LeftBrace o ∷ (spelled_declarations ds ++ more) = simp append_assoc in
    let stop = statements_front is_spec refl statement_no_spec ss is.1 c rest in
    let a = declarations_again n ds (omega (arith, length-append {A = Symbol})) is.0 more stop (length (spelled_declarations ds ++ more)) (omega (arith, length-append (spelled_declarations ds) more)) in
    let b = hss room deep (omega (arith, length-append {A = Symbol})) is.1 c rest (length more) (omega (arith, length-append (spelled_statements ss) end)) in
    ap (block_by n (statement_at n room)) regrouped ∙ rw (a, b, statements_of_items ss) refl

braced_reads : (n : ℕ) (b : BlockTree) → ReadsBlock n b → ReadsStatement n (Braced b)
unfolding statement_at statement_by braced_by
braced_reads n b hb zero deep le is rest f = absurd (omega arith)
braced_reads n (Block o ds ss c) hb (suc room) deep le is rest f = let a = hb room (omega arith) le is rest in rw a refl

-- ---- `if`

arm_reads : (n k : ℕ) (e : ConditionTree) (s : StatementTree) → ReadsStatement n s → ReadsArm n (Arm k e s)
unfolding arm_by key_at
arm_reads n k e s hs room deep le is rest f =
    let more = spelled_statement s ++ rest in
    let sizes = length-append (spelled_condition e) (spelled_statement s) in
    let a = condition_again n e (omega arith) is.0 more in
    let b = hs room (omega arith) (omega arith) is.1 rest f in
    ap (λ (l : Symbols). arm_by n (statement_at n room) (key words.If k ∷ l)) (append_assoc (spelled_condition e) (spelled_statement s) rest) ∙ rw (a, b) refl

-- what follows the statement of an arm
follows : (a : ArmTree) (as_ : Arms) (rest : Symbols) → MayPrecede a as_ → (is_open_arms as_ ≡ true → NoElseIn rest) → body_open a ≡ true → NoElseIn (spelled_arms as_ ++ rest)
follows (Arm k e s) NoElse rest may f opens = f refl
follows (Arm k e s) (Else l t) rest may f opens = absurd (let h : is_open s ≡ false = may in cc)
follows (Arm k e s) (ElseIf l a as_) rest may f opens = absurd (let h : is_open s ≡ false = may in cc)

next_arm_none : (n : ℕ) (next : Reader StatementTree) (rest : Symbols) → NoElseIn rest → next_arm_by n next rest ≡ Some None
unfolding next_arm_by
next_arm_none n next [] h = refl
next_arm_none n next (s ∷ rest) h = rw h refl

next_arm_last : (n : ℕ) (next : Reader StatementTree) (k : ℕ) (rest : Symbols) → front_is (is_key words.If) rest ≡ false → next_arm_by n next (key words.Else k ∷ rest) ≡ Some None
unfolding next_arm_by
next_arm_last n next k rest h = rw h refl

next_arm_reads : (n : ℕ) (next : Reader StatementTree) (k : ℕ) (a : ArmTree) (more : Symbols) → arm_by n next (spelled_arm a ++ more) ≡ Some (a, more) → next_arm_by n next (key words.Else k ∷ (spelled_arm a ++ more)) ≡ Some (Some ((k, a), more))
unfolding next_arm_by
next_arm_reads n next k (Arm l e s) more h = rw h refl

key_none : (w : Keyword) (toks : Symbols) → front_is (is_key w) toks ≡ false → key_at w toks ≡ None
unfolding key_at
key_none w [] h = refl
key_none w (s ∷ rest) h = rw h refl

no_else_reads : (n : ℕ) → ReadsArms n NoElse
unfolding last_by
no_else_reads n room deep le are rest f m turns = record {
  others = collect_ends (next_arm_by n (statement_at n room)) m rest (next_arm_none n (statement_at n room) rest (f refl));
  last = rw (key_none words.Else rest (f refl)) refl;
}

else_reads : (n k : ℕ) (s : StatementTree) → ReadsStatement n s → ReadsArms n (Else k s)
unfolding last_by key_at
else_reads n k s hs room deep le are rest f m turns =
    let more = spelled_statement s ++ rest in
    let a = hs room (omega arith) (omega arith) are.0 rest f in
    record {
      others = collect_ends (next_arm_by n (statement_at n room)) m (key words.Else k ∷ more) (next_arm_last n (statement_at n room) k more (statement_no_if s are.0 are.1 rest));
      last = rw a refl;
    }

else_if_reads : (n k : ℕ) (a : ArmTree) (as_ : Arms) → ReadsArm n a → ReadsArms n as_ → ReadsArms n (ElseIf k a as_)
else_if_reads n k a as_ ha has room deep le are rest f zero turns = absurd (omega arith)
else_if_reads n k a as_ ha has room deep le are rest f (suc m) turns =
    let more = spelled_arms as_ ++ rest in
    let sizes = length-append (spelled_arm a) (spelled_arms as_) in
    let first = ha room (omega arith) (omega arith) are.0 more (follows a as_ rest are.2 f) in
    let step = next_arm_reads n (statement_at n room) k a more first in
    let behind = has room (omega arith) (omega arith) are.1 rest f m (omega arith) in
    record {
      others = ap (λ (l : Symbols). collect (next_arm_by n (statement_at n room)) (suc m) (key words.Else k ∷ l)) (append_assoc (spelled_arm a) (spelled_arms as_) rest) ∙ collect_more (next_arm_by n (statement_at n room)) m (key words.Else k ∷ (spelled_arm a ++ more)) more (last_part as_ rest) (k, a) (arm_items as_) step behind.others;
      last = behind.last;
    }

chain_front : (n : ℕ) (next : Reader StatementTree) (a : ArmTree) (more : Symbols) → statement_by n next (spelled_arm a ++ more) ≡ chain_by n next (spelled_arm a ++ more)
unfolding statement_by
chain_front n next (Arm k e s) more = refl

chain_reads : (n : ℕ) (a : ArmTree) (as_ : Arms) → ReadsArm n a → ReadsArms n as_ → ReadsStatement n (Chain a as_)
unfolding statement_at chain_by
chain_reads n a as_ ha has zero deep le is rest f = absurd (omega arith)
chain_reads n a as_ ha has (suc room) deep le is rest f =
    let more = spelled_arms as_ ++ rest in
    let sizes = length-append (spelled_arm a) (spelled_arms as_) in
    let first = ha room (omega arith) (omega arith) is.0 more (follows a as_ rest is.2 f) in
    let behind = has room (omega arith) (omega arith) is.1 rest f (length more) (omega (arith, length-append (spelled_arms as_) rest)) in
    ap (statement_at n (suc room)) (append_assoc (spelled_arm a) (spelled_arms as_) rest)
    ∙ chain_front n (statement_at n room) a more
    ∙ rw (first, behind.others, behind.last, arms_of_items as_) refl

-- ---- `switch`

label_reads : (n : ℕ) (next : Reader StatementTree) (l : LabelTree) → length (spelled_label l) ≤ n → IsLabel l → (more : Symbols) → inner_by n next (spelled_label l ++ more) ≡ Some (Some (LabelInner l, more))
unfolding inner_by case_by default_by punct_at
label_reads n next (Case k e c) le is more =
    let close = punct marks.Colon c ∷ more in
    let a = cond_again n e (omega (arith, length-append (spelled e) (punct marks.Colon c ∷ []))) is close refl in
    rw (append_assoc (spelled e) (punct marks.Colon c ∷ []) more, a) refl
label_reads n next (Default k c) le is more = refl

inner_front : (n : ℕ) (next : Reader StatementTree) (toks : Symbols) → front_is begins_statement toks ≡ true → inner_by n next toks ≡ got (next toks >>= λ t. Some (StatementInner t.0, t.1))
unfolding inner_by
inner_front n next [] h = absurd cc
inner_front n next (s ∷ toks) h = rw (apart_mark begins_statement marks.RightBrace refl s.kind h, apart_word begins_statement words.Case refl s.kind h, apart_word begins_statement words.Default refl s.kind h) refl

inner_end : (n : ℕ) (next : Reader StatementTree) (c : ℕ) (rest : Symbols) → inner_by n next (punct marks.RightBrace c ∷ rest) ≡ Some None
unfolding inner_by
inner_end n next c rest = refl

items_front : (is : Items) → AreItems is → (c : ℕ) (rest : Symbols) → NoElseIn (spelled_items is ++ punct marks.RightBrace c ∷ rest)
items_front NoItem are c rest = refl
items_front (AndLabel (Case k e l) is) are c rest = refl
items_front (AndLabel (Default k l) is) are c rest = refl
items_front (AndInner s is) are c rest = ap (front_is (is_key words.Else)) (append_assoc (spelled_statement s) (spelled_items is) (punct marks.RightBrace c ∷ rest)) ∙ no_else s are.0 (spelled_items is ++ punct marks.RightBrace c ∷ rest)

no_item_reads : (n : ℕ) → ReadsItems n NoItem
no_item_reads n room deep le are c rest m turns = collect_ends (inner_by n (statement_at n room)) m (punct marks.RightBrace c ∷ rest) (inner_end n (statement_at n room) c rest)

label_has_token : (l : LabelTree) → 0 < length (spelled_label l)
label_has_token (Case k e c) = omega arith
label_has_token (Default k c) = omega arith

and_label_reads : (n : ℕ) (l : LabelTree) (is : Items) → ReadsItems n is → ReadsItems n (AndLabel l is)
and_label_reads n l is his room deep le are c rest zero turns = absurd (omega (arith, label_has_token l, length-append (spelled_label l) (spelled_items is)))
and_label_reads n l is his room deep le are c rest (suc m) turns =
    let end = punct marks.RightBrace c ∷ rest in
    let more = spelled_items is ++ end in
    let sizes = length-append (spelled_label l) (spelled_items is) in
    let step = label_reads n (statement_at n room) l (omega arith) are.0 more in
    let others = his room (omega arith) (omega arith) are.1 c rest m (omega (arith, label_has_token l)) in
    ap (collect (inner_by n (statement_at n room)) (suc m)) (append_assoc (spelled_label l) (spelled_items is) end)
    ∙ collect_more (inner_by n (statement_at n room)) m (spelled_label l ++ more) more end (LabelInner l) (inner_items is) step others

and_inner_reads : (n : ℕ) (s : StatementTree) (is : Items) → ReadsStatement n s → ReadsItems n is → ReadsItems n (AndInner s is)
and_inner_reads n s is hs his room deep le are c rest zero turns = absurd (omega (arith, statement_has_token s, length-append (spelled_statement s) (spelled_items is)))
and_inner_reads n s is hs his room deep le are c rest (suc m) turns =
    let end = punct marks.RightBrace c ∷ rest in
    let more = spelled_items is ++ end in
    let sizes = length-append (spelled_statement s) (spelled_items is) in
    let first = hs room (omega arith) (omega arith) are.0 more (λ opens. items_front is are.1 c rest) in
    let step : inner_by n (statement_at n room) (spelled_statement s ++ more) ≡ Some (Some (StatementInner s, more)) = inner_front n (statement_at n room) (spelled_statement s ++ more) (statement_starts s are.0 more) ∙ rw first refl in
    let others = his room (omega arith) (omega arith) are.1 c rest m (omega (arith, statement_has_token s)) in
    ap (collect (inner_by n (statement_at n room)) (suc m)) (append_assoc (spelled_statement s) (spelled_items is) end)
    ∙ collect_more (inner_by n (statement_at n room)) m (spelled_statement s ++ more) more end (StatementInner s) (inner_items is) step others

switch_spelled : (e : ConditionTree) (o : ℕ) (is : Items) (c : ℕ) (rest : Symbols) → (spelled_condition e ++ punct marks.LeftBrace o ∷ (spelled_items is ++ punct marks.RightBrace c ∷ [])) ++ rest ≡ spelled_condition e ++ punct marks.LeftBrace o ∷ (spelled_items is ++ punct marks.RightBrace c ∷ rest)
switch_spelled e o is c rest = simp append_assoc

switch_reads : (n k : ℕ) (e : ConditionTree) (o : ℕ) (is : Items) (c : ℕ) → ReadsItems n is → ReadsStatement n (Switch k e o is c)
unfolding statement_at statement_by switch_by punct_at
switch_reads n k e o is c his zero deep le are rest f = absurd (omega arith)
switch_reads n k e o is c his (suc room) deep le are rest f =
    let end = punct marks.RightBrace c ∷ rest in
    let more = spelled_items is ++ end in
    let sizes = length-append (spelled_condition e) (punct marks.LeftBrace o ∷ (spelled_items is ++ punct marks.RightBrace c ∷ [])) in
    let sizes_behind = length-append (spelled_items is) (punct marks.RightBrace c ∷ []) in
    let a = condition_again n e (omega arith) are.0 (punct marks.LeftBrace o ∷ more) in
    let b = his room (omega arith) (omega arith) are.1 c rest (length more) (omega (arith, length-append (spelled_items is) end)) in
    ap (λ (l : Symbols). statement_at n (suc room) (key words.Switch k ∷ l)) (switch_spelled e o is c rest) ∙ rw (a, b, items_of_items is) refl

-- ---- all of them

mutual
  pub statement_again : (n : ℕ) (s : StatementTree) → ReadsStatement n s
  statement_again n (Braced b) = braced_reads n b (block_again n b)
  statement_again n (Plain e c) = plain_reads n e c
  statement_again n (Chain a as_) = chain_reads n a as_ (arm_again n a) (arms_again n as_)
  statement_again n (While k e s) = while_reads n k e s (statement_again n s)
  statement_again n (Do k s w e c) = do_reads n k s w e c (statement_again n s)
  statement_again n (For k h s) = for_reads n k h s (statement_again n s)
  statement_again n (Switch k e o is c) = switch_reads n k e o is c (items_again n is)
  statement_again n (Break k c) = break_reads n k c
  statement_again n (Continue k c) = continue_reads n k c
  statement_again n (Return k e c) = return_reads n k e c

  pub block_again : (n : ℕ) (b : BlockTree) → ReadsBlock n b
  block_again n (Block o ds ss c) = block_reads n o ds ss c (statements_again n ss)

  statements_again : (n : ℕ) (ss : Statements) → ReadsStatements n ss
  statements_again n NoStatement = no_statement_reads n
  statements_again n (AndStatement s ss) = and_statement_reads n s ss (statement_again n s) (statements_again n ss)

  arm_again : (n : ℕ) (a : ArmTree) → ReadsArm n a
  arm_again n (Arm k e s) = arm_reads n k e s (statement_again n s)

  arms_again : (n : ℕ) (as_ : Arms) → ReadsArms n as_
  arms_again n NoElse = no_else_reads n
  arms_again n (Else k s) = else_reads n k s (statement_again n s)
  arms_again n (ElseIf k a as_) = else_if_reads n k a as_ (arm_again n a) (arms_again n as_)

  items_again : (n : ℕ) (is : Items) → ReadsItems n is
  items_again n NoItem = no_item_reads n
  items_again n (AndLabel l is) = and_label_reads n l is (items_again n is)
  items_again n (AndInner s is) = and_inner_reads n s is (statement_again n s) (items_again n is)
