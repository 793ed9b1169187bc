-- Where a value goes, and how statements begin and end: the same in both programs.
use Rattle.std.proofs.Common.{◌≡◌, ℕ, zero, suc, ◌<◌, Bool, true, false, List, [], ◌∷◌, ◌++◌, length, Option, Some, None, refl, sym, ap, ◌∙◌, subst}
use Rattle.std.specs.Prelude.{if◌then◌else◌}
use Rattle.c_ints.specs.declared.operators.BinOp.{BinOp}
use Rattle.c_typed.specs.Trees as tree
use Rattle.c_typed.specs.Trees.{Expression, Expressions, Place, Item, Statement, Statements, Arm, Arms, LastArm, Program, FunctionTree}
use Rattle.c_typed.specs.Types.{type_of}
use Rattle.c_typed.specs.Words.{step_operator}
use Rattle.c_typed.specs.declared.expression.LogicalOp.{LogicalOp}
use Rattle.c_typed.specs.declared.statement.LoopForm.{LoopForm}
use Rattle.c_typed.specs.declared.statement.LoopForm.TheVariants.{While, Do, For}
use Rattle.c_typed.specs.declared.statement.TCase.{TCase}
use Rattle.c_typed.specs.declared.types.Qualified.{Qualified}
use Rattle.c_typed.specs.declared.types.Ty.{Ty}
use Rattle.c_typed.specs.declared.types.Ty.TheVariants as types
use Rattle.pic_world.specs.World.{Outside, World, left}
use Rattle.rom_source.proofs.Accesses.{agree_cleared}
use Rattle.rom_source.proofs.Adding.{added_expression, added_place, added_option, added_statement, added_statements, added_arms, added_last}
use Rattle.rom_source.proofs.Links.{Link, Plain, Index, Converted, given, opened, added_got, added_stage, added_focus, asking, made, with_parts, IsMade, AreLinks, Agree, IsPlain, unwound_links}
use Rattle.rom_source.proofs.Same.{Same, one, one_as, arguments_same, fetching_same}
use Rattle.rom_source.proofs.Values.{IsValue, is_value, same_binary, same_offset, same_change, same_active, same_local}
use Rattle.rom_tables.specs.Tables.{tables_of}
use Rattle.src_rules.specs.Accesses.{goes, fetching}
use Rattle.src_rules.specs.Giving.{answered, used, branch, logical, truth_given, changes, take_in, deref, take_to, statements_behind, jump, jump_if_any, compares_in, compares_for, compares, take_for, give}
use Rattle.src_rules.specs.Standing.{FocusStands, StackStands, GotStands}
use Rattle.src_rules.specs.State.{Outcome}
use Rattle.src_rules.specs.Statements.{turn, test, first_of, next_of, loops, last, arms, unwound, begin}
use Rattle.src_values.specs.Control as control
use Rattle.src_values.specs.Control.{Focus, Eval, Find, Holds, Found, Got, Nothing, Chosen, One, At, AtWith, Stores, Copies, Args, Passed, Called, Stage, Tests, Begins, Steps, Turns, Picks, InArm, Chooses, Fills, AtItem, Items, Blanks, Pending, In, To, Doing, Before, Returns, Resumes, active}
use Rattle.src_values.specs.Data as datum
use Rattle.src_values.specs.Data.{Datum}
use Rattle.src_values.specs.Memory.{Setting, Memory, cleared}
use Rattle.src_values.specs.Objects.{behind, local_of}
use Rattle.src_values.specs.Values.{Answer, Gives, Fails, Strays, truth_of, truth_value, decides, is_case, converted, unary_answer, binary_answer, difference_answer, change_answer, one_in, is_postfix}
use Rattle.src_values.specs.declared.objects.Byte.{Byte}
use Rattle.src_values.specs.declared.objects.CopyOf.{CopyOf}
use Rattle.src_values.specs.declared.objects.Object.{Object}
use Rattle.src_values.specs.declared.objects.Spot.{Spot}
use Rattle.src_values.specs.declared.objects.Spot.TheVariants as spots

module _ (p : Program) (rows : List Qualified) (fs : List FunctionTree) (mk : IsMade p rows fs) (o : Outside) where
  abbrev q : Program
  q = with_parts p rows fs

  abbrev ts : List ℕ
  ts = tables_of p

  abbrev first : ℕ
  first = length p.functions

  abbrev s : Setting
  s = record { program = p; outside = o }

  abbrev r : Setting
  r = record { program = q; outside = o }

  agree_at : (m n : Memory) (a b : Object) → b ≡ a → Agree p m n → Agree p (cleared m a) (cleared n b)
  agree_at m n a b e h = subst (λ z. Agree p (cleared m a) (cleared n z)) (sym e) (agree_cleared p m n a h)

  module _ (c : CopyOf) (small : c.function < length p.functions) (m n : Memory) (agree : Agree p m n) (w : World Byte) where
    abbrev go : (x : Focus) (ls : List Link) → AreLinks p ls → Same p (goes c x (given ls) m w) (goes c (added_focus ts first x) (made ts first ls) n w)
    go = one p rows fs mk o c small m n agree w

    -- ---- values
    answered_same : (a : Answer) (line : ℕ) (ls : List Link) → AreLinks p ls → Same p (answered a line (given ls) c m w) (answered a line (made ts first ls) c n w)
    answered_same (Gives v) line ls z = go (Holds v) ls z
    answered_same (Fails kind) line ls z = tt
    answered_same Strays line ls z = tt

    answered_as : (a b : Answer) (line : ℕ) (ls : List Link) → b ≡ a → AreLinks p ls → Same p (answered a line (given ls) c m w) (answered b line (made ts first ls) c n w)
    answered_as a b line ls e z = subst (λ y. Same p (answered a line (given ls) c m w) (answered y line (made ts first ls) c n w)) (sym e) (answered_same a line ls z)

    pub used_same : (v : Datum) (line : ℕ) (a b : Outcome) → Same p a b → Same p (used v line a) (used v line b)
    used_same datum.Missing line a b h = tt
    used_same (datum.Number k) line a b h = h
    used_same (datum.Pointer x) line a b h = h

    branch_same : (t : Option Bool) (line : ℕ) (a b d e : Outcome) → Same p a b → Same p d e → Same p (branch t line a d) (branch t line b e)
    branch_same None line a b d e h g = tt
    branch_same (Some true) line a b d e h g = h
    branch_same (Some false) line a b d e h g = g

    if_same : (t : Bool) (a b d e : Outcome) → Same p a b → Same p d e → Same p (if t then a else d) (if t then b else e)
    if_same true a b d e h g = h
    if_same false a b d e h g = g

    logical_same : (op : LogicalOp) (v : Datum) (t : Option Bool) (left right : Expression) (line : ℕ) (ls : List Link) → AreLinks p ls
        → Same p (logical (tree.Logical op left right line) op v t right line (given ls) c m w) (logical (tree.Logical op (added_expression ts first left) (added_expression ts first right) line) op v t (added_expression ts first right) line (made ts first ls) c n w)
    unfolding given made AreLinks added_expression
    logical_same op v None left right line ls z = tt
    logical_same op v (Some holds) left right line ls z = if_same (decides op holds) _ _ _ _ (go (Holds (truth_value holds)) ls z) (go (Eval right) (Plain (In (tree.Logical op left right line) (One v)) ∷ ls) (tt, z))

    truth_same : (t : Option Bool) (line : ℕ) (ls : List Link) → AreLinks p ls → Same p (truth_given t line (given ls) c m w) (truth_given t line (made ts first ls) c n w)
    truth_same None line ls z = tt
    truth_same (Some holds) line ls z = go (Holds (truth_value holds)) ls z

    changes_same : (a b : Answer) (e : Expression) (spot : Spot) (keeps : Bool) (old : Datum) (line : ℕ) (ls : List Link) → b ≡ a → AreLinks p ls
        → Same p (changes a e spot keeps old line (given ls) c m w) (changes b (opened ts first e) spot keeps old line (made ts first ls) c n w)
    unfolding given made AreLinks
    changes_same a b e spot keeps old line ls is z = subst (λ y. Same p (changes a e spot keeps old line (given ls) c m w) (changes y (opened ts first e) spot keeps old line (made ts first ls) c n w)) (sym is) (by a)
      where
        by : (a : Answer) → Same p (changes a e spot keeps old line (given ls) c m w) (changes a (opened ts first e) spot keeps old line (made ts first ls) c n w)
        by (Gives v) = go (control.Write spot v 0) (Plain (In e (Stores spot (if keeps then old else v))) ∷ ls) (tt, z)
        by (Fails kind) = tt
        by Strays = tt

    -- the copies that are active
    actives : (v : Datum) (ls : List Link) → active c (Holds v) (made ts first ls) ≡ active c (Holds v) (given ls)
    actives v ls = same_active ts first c (Holds v) (Holds v) ls refl

    binary_as : (op : BinOp) (ty : Ty) (u v : Datum) (ls : List Link) → IsValue p rows fs mk u → IsValue p rows fs mk v
        → binary_answer q (active c (Holds v) (made ts first ls)) op ty u v ≡ binary_answer p (active c (Holds v) (given ls)) op ty u v
    binary_as op ty u v ls h g = ap (λ live. binary_answer q live op ty u v) (actives v ls) ∙ same_binary p rows fs mk _ op ty u v h g

    change_as : (op : BinOp) (operation : Ty) (size : ℕ) (ty : Ty) (x old u : Datum) (ls : List Link) → IsValue p rows fs mk old → IsValue p rows fs mk u
        → change_answer q (active c (Holds x) (made ts first ls)) op operation size ty old u ≡ change_answer p (active c (Holds x) (given ls)) op operation size ty old u
    change_as op operation size ty x old u ls h g = ap (λ live. change_answer q live op operation size ty old u) (actives x ls) ∙ same_change p rows fs mk _ op operation size ty old u h g

    one_value : (operation : Ty) → IsValue p rows fs mk (one_in operation)
    one_value types.Void = tt
    one_value (types.Int ty) = tt
    one_value (types.Pointer row) = tt
    one_value (types.Array a b d) = tt
    one_value (types.Struct k) = tt

    take_in_same : (e : Expression) (got : Got) (v : Datum) (ls : List Link) → IsValue p rows fs mk v → GotStands p c e got → AreLinks p ls
        → Same p (take_in s e got v (given ls) c m w) (take_in r (opened ts first e) (added_got ts first got) v (made ts first ls) c n w)
    unfolding given made AreLinks added_expression
    take_in_same (tree.Convert operand ty line) Nothing v ls h g z = answered_same (converted ty v) line ls z
    take_in_same (tree.Cast operand ty line) Nothing v ls h g z = answered_same (converted ty v) line ls z
    take_in_same (tree.Unary op operand ty line) Nothing v ls h g z = answered_same (unary_answer op v) line ls z
    take_in_same (tree.Binary op left right ty line) Nothing v ls h g z = go (Eval right) (Plain (In (tree.Binary op left right ty line) (One v)) ∷ ls) (tt, z)
    take_in_same (tree.Binary op left right ty line) (One u) v ls h g z = answered_as _ _ line ls (binary_as op ty u v ls (is_value p rows fs mk (type_of left) u g) h) z
    take_in_same (tree.Offset op left right size ty line) Nothing v ls h g z = go (Eval right) (Plain (In (tree.Offset op left right size ty line) (One v)) ∷ ls) (tt, z)
    take_in_same (tree.Offset op left right size ty line) (One u) v ls h g z = answered_as _ _ line ls (same_offset p rows fs mk op size u v (is_value p rows fs mk (type_of left) u g) h) z
    take_in_same (tree.Difference left right size line) Nothing v ls h g z = go (Eval right) (Plain (In (tree.Difference left right size line) (One v)) ∷ ls) (tt, z)
    take_in_same (tree.Difference left right size line) (One u) v ls h g z = answered_same (difference_answer size u v) line ls z
    take_in_same (tree.Logical op left right line) Nothing v ls h g z = logical_same op v (truth_of v) left right line ls z
    take_in_same (tree.Logical op left right line) (One u) v ls h g z = truth_same (truth_of v) line ls z
    take_in_same (tree.Conditional condition chosen otherwise ty line) Nothing v ls h g z =
        branch_same (truth_of v) line _ _ _ _
        (go (Eval chosen) (Plain (In (tree.Conditional condition chosen otherwise ty line) Chosen) ∷ ls) (tt, z))
        (go (Eval otherwise) (Plain (In (tree.Conditional condition chosen otherwise ty line) Chosen) ∷ ls) (tt, z))
    take_in_same (tree.Conditional condition chosen otherwise ty line) Chosen v ls h g z = go (Holds v) ls z
    take_in_same (tree.Comma left right ty line) Nothing v ls h g z = go (Eval right) ls z
    take_in_same (tree.Assign place value ty line) (At spot) v ls h g z = used_same v line _ _ (go (control.Write spot v 0) (Plain (In (tree.Assign place value ty line) (Stores spot v)) ∷ ls) (tt, z))
    take_in_same (tree.Update op place value operation size ty line) (At spot) v ls h g z =
        one_as p rows fs mk o c small m n agree w (fetching spot ty p.sizes) (fetching spot ty p.sizes) (Plain (In (tree.Update op place value operation size ty line) (AtWith spot v)) ∷ ls) (fetching_same p rows fs mk o c small m n agree w spot ty p.sizes) (tt, z)
    take_in_same (tree.Update op place value operation size ty line) (AtWith spot u) v ls h g z =
        changes_same _ _ (tree.Update op place value operation size ty line) spot false v line ls (change_as op operation size ty v v u ls h (is_value p rows fs mk (type_of value) u g.1)) z
    take_in_same (tree.Step op place operation size ty line) (At spot) v ls h g z =
        changes_same _ _ (tree.Step op place operation size ty line) spot (is_postfix op) v line ls (change_as (step_operator op) operation size ty v v (one_in operation) ls h (one_value operation)) z
    take_in_same (tree.Call f values ty line) (Args before more) v ls h g z = arguments_same p rows fs mk o c small m n agree w (tree.Call f values ty line) (before ++ v ∷ []) more ls z
    take_in_same _ _ v ls h g z = tt

    -- ---- a place takes the value of its pointer
    deref_same : (v : Datum) (line : ℕ) (ls : List Link) → AreLinks p ls → Same p (deref v line (given ls) c m w) (deref v line (made ts first ls) c n w)
    deref_same (datum.Pointer x) line ls z = go (Found (spots.Memory x)) ls z
    deref_same (datum.Number k) line ls z = tt
    deref_same datum.Missing line ls z = tt

    take_to_same : (place : Place) (v : Datum) (ls : List Link) → AreLinks p ls → Same p (take_to place v (given ls) c m w) (take_to (added_place ts first place) v (made ts first ls) c n w)
    unfolding added_expression
    take_to_same (tree.Name object ty line) v ls z = tt
    take_to_same (tree.Bit register number line) v ls z = tt
    take_to_same (tree.Member whole member offset ty line) v ls z = tt
    take_to_same (tree.Deref pointer ty line) v ls z = deref_same v line ls z

    -- ---- loops and choices
    turn_same : (t body : Statement) (ls : List Link) → AreLinks p ls → Same p (turn t body (given ls) c m w) (turn (added_statement ts first t) (added_statement ts first body) (made ts first ls) c n w)
    unfolding given made AreLinks
    turn_same t body ls z = go (control.Run body) (Plain (Doing t Turns) ∷ ls) (tt, z)

    test_same : (t : Statement) (e : Option Expression) (body : Statement) (ls : List Link) → AreLinks p ls
        → Same p (test t e body (given ls) c m w) (test (added_statement ts first t) (added_option ts first e) (added_statement ts first body) (made ts first ls) c n w)
    unfolding given made AreLinks
    test_same t None body ls z = turn_same t body ls z
    test_same t (Some e) body ls z = go (Eval e) (Plain (Doing t Tests) ∷ ls) (tt, z)

    first_same : (t : Statement) (begin condition : Option Expression) (body : Statement) (ls : List Link) → AreLinks p ls
        → Same p (first_of t begin condition body (given ls) c m w) (first_of (added_statement ts first t) (added_option ts first begin) (added_option ts first condition) (added_statement ts first body) (made ts first ls) c n w)
    unfolding given made AreLinks
    first_same t None condition body ls z = test_same t condition body ls z
    first_same t (Some e) condition body ls z = go (Eval e) (Plain (Doing t Begins) ∷ ls) (tt, z)

    pub next_same : (t : Statement) (step condition : Option Expression) (body : Statement) (ls : List Link) → AreLinks p ls
        → Same p (next_of t step condition body (given ls) c m w) (next_of (added_statement ts first t) (added_option ts first step) (added_option ts first condition) (added_statement ts first body) (made ts first ls) c n w)
    unfolding given made AreLinks
    next_same t None condition body ls z = test_same t condition body ls z
    next_same t (Some e) condition body ls z = go (Eval e) (Plain (Doing t Steps) ∷ ls) (tt, z)

    pub loops_same : (shape : LoopForm) (t : Statement) (begin condition : Option Expression) (body : Statement) (ls : List Link) → AreLinks p ls
        → Same p (loops shape t begin condition body (given ls) c m w) (loops shape (added_statement ts first t) (added_option ts first begin) (added_option ts first condition) (added_statement ts first body) (made ts first ls) c n w)
    loops_same While t begin condition body ls z = first_same t begin condition body ls z
    loops_same For t begin condition body ls z = first_same t begin condition body ls z
    loops_same Do t begin condition body ls z = turn_same t body ls z

    last_same : (t : Statement) (l : LastArm) (ls : List Link) → AreLinks p ls → Same p (last t l (given ls) c m w) (last (added_statement ts first t) (added_last ts first l) (made ts first ls) c n w)
    unfolding given made AreLinks added_statement
    last_same t tree.NoLast ls z = go control.Past ls z
    last_same t (tree.Last chosen) ls z = go (control.Run chosen) (Plain (Doing t (InArm tree.NoArm)) ∷ ls) (tt, z)

    pub arms_same : (t : Statement) (chain : Arms) (otherwise : LastArm) (ls : List Link) → AreLinks p ls
        → Same p (arms t chain otherwise (given ls) c m w) (arms (added_statement ts first t) (added_arms ts first chain) (added_last ts first otherwise) (made ts first ls) c n w)
    unfolding given made AreLinks added_statement
    arms_same t tree.NoArm otherwise ls z = last_same t otherwise ls z
    arms_same t (tree.AndArm (tree.OneArm condition chosen line) more) otherwise ls z = go (Eval condition) (Plain (Doing t (Picks (tree.OneArm condition chosen line) more)) ∷ ls) (tt, z)

    -- ---- switches
    behind_same : (k : ℕ) (ss : Statements) → statements_behind k (added_statements ts first ss) ≡ added_statements ts first (statements_behind k ss)
    unfolding added_statement
    behind_same zero ss = refl
    behind_same (suc k) tree.NoStatement = refl
    behind_same (suc k) (tree.AndStatement t ss) = behind_same k ss

    jump_same : (t : Statement) (target : ℕ) (ss : Statements) (ls : List Link) → AreLinks p ls → Same p (jump t target ss (given ls) c m w) (jump (added_statement ts first t) target (added_statements ts first ss) (made ts first ls) c n w)
    unfolding given made AreLinks
    jump_same t target ss ls z =
        subst (λ y. Same p (jump t target ss (given ls) c m w) (goes c control.Past (Before y ∷ Doing (added_statement ts first t) Turns ∷ made ts first ls) n w)) (sym (behind_same target ss))
        (go control.Past (Plain (Before (statements_behind target ss)) ∷ Plain (Doing t Turns) ∷ ls) (tt, (tt, z)))

    jump_any : (t : Statement) (target : Option ℕ) (ss : Statements) (ls : List Link) → AreLinks p ls → Same p (jump_if_any t target ss (given ls) c m w) (jump_if_any (added_statement ts first t) target (added_statements ts first ss) (made ts first ls) c n w)
    jump_any t None ss ls z = go control.Past ls z
    jump_any t (Some target) ss ls z = jump_same t target ss ls z

    compares_in_same : (t : Statement) (ss : Statements) (default : Option ℕ) (v : Datum) (labels : List TCase) (ls : List Link) → AreLinks p ls
        → Same p (compares_in t ss default v labels (given ls) c m w) (compares_in (added_statement ts first t) (added_statements ts first ss) default v labels (made ts first ls) c n w)
    unfolding given made AreLinks
    compares_in_same t ss default v [] ls z = jump_any t default ss ls z
    compares_in_same t ss default v (label ∷ labels) ls z = if_same (is_case v label) _ _ _ _ (jump_same t label.target ss ls z) (go (control.Compares v labels) (Plain (Doing t Chooses) ∷ ls) (tt, z))

    compares_for_same : (t : Statement) (stage : Stage) (v : Datum) (labels : List TCase) (ls : List Link) → AreLinks p ls
        → Same p (compares_for t stage v labels (given ls) c m w) (compares_for (added_statement ts first t) (added_stage ts first stage) v labels (made ts first ls) c n w)
    unfolding added_statement
    compares_for_same (tree.Switch e cases default ss line) Chooses v labels ls z = compares_in_same (tree.Switch e cases default ss line) ss default v labels ls z
    compares_for_same _ _ v labels ls z = tt

    pub compares_same : (v : Datum) (labels : List TCase) (ls : List Link) → AreLinks p ls → Same p (compares v labels (given ls) c m w) (compares v labels (made ts first ls) c n w)
    unfolding given made AreLinks
    compares_same v labels [] z = tt
    compares_same v labels (Plain (In e got) ∷ ls) z = tt
    compares_same v labels (Plain (To place) ∷ ls) z = tt
    compares_same v labels (Plain (Doing t stage) ∷ ls) z = compares_for_same t stage v labels ls z.1
    compares_same v labels (Plain (Before ss) ∷ ls) z = tt
    compares_same v labels (Plain (Returns d) ∷ ls) z = tt
    compares_same v labels (Plain (Resumes d x) ∷ ls) z = tt
    compares_same v labels (Index side a ∷ ls) z = tt
    compares_same v labels (Converted side a e ty at ∷ ls) z = tt

    -- ---- the end of a function
    asking_unwound : (b : Bool) (e : Expression) (line : ℕ) (call : Expression) (k : List Pending) → unwound (asking ts first b e line call k) ≡ asking ts first b e line call k
    asking_unwound true e line call k = refl
    asking_unwound false e line call k = refl

    pub unwound_given : (ls : List Link) → unwound (given ls) ≡ given (unwound_links ls)
    unfolding given
    unwound_given [] = refl
    unwound_given (Plain (In e got) ∷ ls) = refl
    unwound_given (Plain (To place) ∷ ls) = refl
    unwound_given (Plain (Doing t Turns) ∷ ls) = unwound_given ls
    unwound_given (Plain (Doing t (InArm more)) ∷ ls) = unwound_given ls
    unwound_given (Plain (Doing t stage) ∷ ls) = refl
    unwound_given (Plain (Before ss) ∷ ls) = unwound_given ls
    unwound_given (Plain (Returns d) ∷ ls) = refl
    unwound_given (Plain (Resumes d x) ∷ ls) = refl
    unwound_given (Index side a ∷ ls) = refl
    unwound_given (Converted side a e ty at ∷ ls) = refl

    pub unwound_made : (ls : List Link) → unwound (made ts first ls) ≡ made ts first (unwound_links ls)
    unfolding made
    unwound_made [] = refl
    unwound_made (Plain (In e got) ∷ ls) = refl
    unwound_made (Plain (To place) ∷ ls) = refl
    unwound_made (Plain (Doing t Turns) ∷ ls) = unwound_made ls
    unwound_made (Plain (Doing t (InArm more)) ∷ ls) = unwound_made ls
    unwound_made (Plain (Doing t stage) ∷ ls) = refl
    unwound_made (Plain (Before ss) ∷ ls) = unwound_made ls
    unwound_made (Plain (Returns d) ∷ ls) = refl
    unwound_made (Plain (Resumes d x) ∷ ls) = refl
    unwound_made (Index side a ∷ ls) = asking_unwound _ _ _ _ _
    unwound_made (Converted side a e ty at ∷ ls) = asking_unwound _ _ _ _ _

    pub unwound_proper : (ls : List Link) → AreLinks p ls → AreLinks p (unwound_links ls)
    unfolding AreLinks
    unwound_proper [] z = z
    unwound_proper (Plain (In e got) ∷ ls) z = z
    unwound_proper (Plain (To place) ∷ ls) z = z
    unwound_proper (Plain (Doing t Turns) ∷ ls) z = unwound_proper ls z.1
    unwound_proper (Plain (Doing t (InArm more)) ∷ ls) z = unwound_proper ls z.1
    unwound_proper (Plain (Doing t stage) ∷ ls) z = z
    unwound_proper (Plain (Before ss) ∷ ls) z = unwound_proper ls z.1
    unwound_proper (Plain (Returns d) ∷ ls) z = z
    unwound_proper (Plain (Resumes d x) ∷ ls) z = z
    unwound_proper (Index side a ∷ ls) z = z
    unwound_proper (Converted side a e ty at ∷ ls) z = z

    -- ---- a statement takes the value of its expression
    take_for_same : (t : Statement) (stage : Stage) (v : Datum) (ls : List Link) → AreLinks p ls
        → Same p (take_for s t stage v (given ls) c m w) (take_for r (added_statement ts first t) (added_stage ts first stage) v (made ts first ls) c n w)
    unfolding given made AreLinks added_statement
    take_for_same (tree.Expr e line) Tests v ls z = go control.Past ls z
    take_for_same (tree.InitScalar local e line) Tests v ls z =
        used_same v line _ _ (one_as p rows fs mk o c small m n agree w (control.Write (behind (local_of p c local) 0) v 0) (control.Write (behind (local_of q c local) 0) v 0)
        (Plain (Doing (tree.InitScalar local e line) Fills) ∷ ls) (ap (λ object. control.Write (behind object 0) v 0) (same_local p rows fs mk c local small)) (tt, z))
    take_for_same (tree.InitList local all line) (AtItem (tree.Scalar offset e) rest) v ls z =
        used_same v line _ _ (one_as p rows fs mk o c small m n agree w (control.Write (behind (local_of p c local) offset) v 0) (control.Write (behind (local_of q c local) offset) v 0)
        (Plain (Doing (tree.InitList local all line) (Items (tree.Scalar offset e) rest)) ∷ ls) (ap (λ object. control.Write (behind object offset) v 0) (same_local p rows fs mk c local small)) (tt, z))
    take_for_same (tree.If chain otherwise line) (Picks (tree.OneArm condition chosen at) more) v ls z =
        branch_same (truth_of v) at _ _ _ _ (go (control.Run chosen) (Plain (Doing (tree.If chain otherwise line) (InArm more)) ∷ ls) (tt, z)) (arms_same (tree.If chain otherwise line) more otherwise ls z)
    take_for_same (tree.Loop shape begin condition step body line) Begins v ls z = test_same (tree.Loop shape begin condition step body line) condition body ls z
    take_for_same (tree.Loop shape begin condition step body line) Steps v ls z = test_same (tree.Loop shape begin condition step body line) condition body ls z
    take_for_same (tree.Loop shape begin condition step body line) Tests v ls z = branch_same (truth_of v) line _ _ _ _ (turn_same (tree.Loop shape begin condition step body line) body ls z) (go control.Past ls z)
    take_for_same (tree.Switch e cases default ss line) Tests v ls z = used_same v line _ _ (go (control.Compares v cases) (Plain (Doing (tree.Switch e cases default ss line) Chooses) ∷ ls) (tt, z))
    take_for_same (tree.Return e line) Tests v ls z =
        used_same v line _ _ (subst (λ k. Same p (goes c (control.Leaves v) (unwound (given ls)) m w) (goes c (control.Leaves v) k n w)) (sym (unwound_made ls))
        (subst (λ k. Same p (goes c (control.Leaves v) k m w) (goes c (control.Leaves v) (made ts first (unwound_links ls)) n w)) (sym (unwound_given ls)) (go (control.Leaves v) (unwound_links ls) (unwound_proper ls z))))
    take_for_same _ _ v ls z = tt

    -- ---- where the value goes, but to the index of a table
    pub give_same : (v : Datum) (ls : List Link) → IsPlain ls → StackStands p c (given ls) → FocusStands p c (Holds v) (given ls) → AreLinks p ls → Same p (give s v (given ls) c m w) (give r v (made ts first ls) c n w)
    unfolding given made AreLinks
    give_same v [] d k f z = tt
    give_same v (Plain (In e got) ∷ ls) d k f z = take_in_same e got v ls (is_value p rows fs mk f.0 v f.2) k.2 z.1
    give_same v (Plain (To place) ∷ ls) d k f z = take_to_same place v ls z.1
    give_same v (Plain (Doing t stage) ∷ ls) d k f z = take_for_same t stage v ls z.1
    give_same v (Plain (Before ss) ∷ ls) d k f z = tt
    give_same v (Plain (Returns d') ∷ ls) d k f z = tt
    give_same v (Plain (Resumes d' x) ∷ ls) d k f z = tt
    give_same v (Index side a ∷ ls) d k f z = absurd d
    give_same v (Converted side a e ty at ∷ ls) d k f z = absurd d
