-- What is read as a statement is one, and no `else` stands behind a statement with an open `if` at its end.
use Rattle.std.proofs.Common.{◌≡◌, ℕ, zero, suc, ◌<◌, ◌≤◌, Bool, true, false, ◌&&◌, List, [], ◌∷◌, ◌++◌, length, Option, Some, None, refl, sym, ap, subst, ◌∙◌, append_assoc, length-append, arith}
use Rattle.std.proofs.lemmas.Option.{same_Some}
use Rattle.c_token.specs.declared.token.Keyword.TheVariants as words
use Rattle.c_token.specs.declared.token.Punct.{Punct}
use Rattle.c_token.specs.declared.token.Punct.TheVariants as marks
use Rattle.c_nodes.specs.Words.{Symbol, Symbols, key, punct}
use Rattle.c_nodes.specs.Kinds.{is_punct, is_key}
use Rattle.c_nodes.specs.Trees.{Tree, IsTree}
use Rattle.c_nodes.specs.Programs.{HeadTree, LabelTree, Case, Default, StatementTree, Braced, Plain, Chain, While, Do, For, Switch, Break, Continue, Return, BlockTree, Block, ArmTree, Arm, Arms, NoElse, Else, ElseIf, spelled_any, spelled_condition, spelled_head, spelled_label, spelled_statement, spelled_block, spelled_statements, spelled_arm, spelled_arms, spelled_items, IsAny, IsHead, IsLabel, IsStatement, IsBlock, AreStatements, IsArm, AreArms, AreItems, is_open, is_open_arms, is_chain, MayPrecede, depth, depth_block, depth_statements, depth_arm, depth_arms, depth_items}
use Rattle.c_nodes.specs.ProgramViews.{statements_of, arms_of, InnerTree, LabelInner, StatementInner, items_of}
use Rattle.parse_expr.specs.Reader.{◌>>=◌, Reader, front_is, punct_at, key_at, got, all_that, collect, collect_on}
use Rattle.parse_expr.proofs.Knots.{ArePlain, Takes, Sound, SoundStep}
use Rattle.parse_expr.proofs.Collects.{and_both}
use Rattle.parse_expr.proofs.Plain.{key_is}
use Rattle.parse_expr.proofs.TakesLists.{Splits, join, splits_as, part, one, taken_as, take, bind_ok, sound_then, cases_if, cases_option, got_ok, punct_takes, key_takes, Each, spelled_all, all_take}
use Rattle.parse_expr.proofs.Takes.{expr_takes, cond_takes}
use Rattle.c_parse.specs.Reading.{condition_by, any_on, any_before, head_by, plain_by, break_by, continue_by, return_by, arm_by, next_arm_by, last_on, last_by, chain_by, while_by, do_by, for_by, case_by, default_by, inner_by, switch_by, next_statement_by, block_by, braced_by, statement_by, statement_at}
use Rattle.c_parse.proofs.AgainStatements.{NoElseIn, body_open}
use Rattle.c_parse.proofs.TakesDeclarations.{declarations_take}

-- ---- expressions that stand alone

condition_takes : (n : ℕ) → Sound spelled_condition (λ c. IsTree c.expr) (condition_by n)
unfolding condition_by
condition_takes n toks plain x e =
    let o = sound_then (punct_takes marks.LeftParenthesis) toks plain _ x e in
    let m = sound_then (expr_takes n) o.read.1 o.takes.plain _ x o.on in
    let c = sound_then (punct_takes marks.RightParenthesis) m.read.1 m.takes.plain _ x m.on in
    take (record { opening = o.read.0; expr = m.read.0; closing = c.read.0 }) (join (part o.takes) (join (part m.takes) (part c.takes))) m.takes.tree c.takes.plain c.on

abbrev spelled_before : Punct → Option Tree × ℕ → Symbols
spelled_before p e = spelled_any e.0 ++ punct p e.1 ∷ []

any_takes : (n : ℕ) (p : Punct) → Sound (spelled_before p) (λ e. IsAny e.0) (any_before n p)
unfolding any_before
any_takes n p toks plain x e = cases_option (punct_at p toks) (any_on n p toks) (Some x)
    (λ z come e2.
    let t = punct_takes p toks plain z come in
    take (None, z.0) (part t) tt t.plain e2)
    (λ come e2.
    let m = sound_then (expr_takes n) toks plain _ x e2 in
    let c = sound_then (punct_takes p) m.read.1 m.takes.plain _ x m.on in
    take (Some m.read.0, c.read.0) (join (part m.takes) (part c.takes)) m.takes.tree c.takes.plain c.on) e

head_takes : (n : ℕ) → Sound spelled_head IsHead (head_by n)
unfolding head_by
head_takes n toks plain x e =
    let o = sound_then (punct_takes marks.LeftParenthesis) toks plain _ x e in
    let a = sound_then (any_takes n marks.Semicolon) o.read.1 o.takes.plain _ x o.on in
    let b = sound_then (any_takes n marks.Semicolon) a.read.1 a.takes.plain _ x a.on in
    let c = sound_then (any_takes n marks.RightParenthesis) b.read.1 b.takes.plain _ x b.on in
    let head : HeadTree = record { opening = o.read.0; begin = a.read.0.0; first = a.read.0.1; condition = b.read.0.0; second = b.read.0.1; step = c.read.0.0; closing = c.read.0.1 } in
    let regrouped : spelled_head head ≡ punct marks.LeftParenthesis o.read.0 ∷ (spelled_before marks.Semicolon a.read.0 ++ (spelled_before marks.Semicolon b.read.0 ++ spelled_before marks.RightParenthesis c.read.0)) = simp append_assoc in
    take head (splits_as (join (part o.takes) (join (part a.takes) (join (part b.takes) (part c.takes)))) regrouped) (a.takes.tree, b.takes.tree, c.takes.tree) c.takes.plain c.on

-- ---- what is known of a reader of statements

-- a statement in which fewer than `room` others stand in one another
abbrev pub IsWithin : ℕ → StatementTree → Type 0
IsWithin room s = IsStatement s × (depth s < room)

pub record TakesStatement (room : ℕ) (toks : Symbols) (x : StatementTree × Symbols) : Type 0 where
  pub takes : Takes spelled_statement (IsWithin room) toks x
  pub closed : is_open x.0 ≡ true → NoElseIn x.1

abbrev pub SoundStatement : ℕ → Reader StatementTree → Type 0
SoundStatement room reader = (toks : Symbols) → ArePlain toks → (x : _) → reader toks ≡ Some x → TakesStatement room toks x

-- such a reader, and what goes on with what it read
record ThenStatement {B : Type 0} (room : ℕ) (toks : Symbols) (f : StatementTree × Symbols → Option B) (y : B) : Type 0 where
  read : StatementTree × Symbols
  took : TakesStatement room toks read
  on : f read ≡ Some y

statement_then : {B : Type 0} {room : ℕ} {next : Reader StatementTree} → SoundStatement room next → (toks : Symbols) → ArePlain toks → (f : StatementTree × Symbols → Option B) (y : B) → (next toks >>= f) ≡ Some y → ThenStatement room toks f y
statement_then {next = next} sound toks plain f y e =
    let a = bind_ok (next toks) f y e in
    record { read = a.0; took = sound toks plain a.0 a.1; on = a.2 }

-- what a reader of statements ends with
ended : {toks rest : Symbols} {x : StatementTree × Symbols} (room : ℕ) (s : StatementTree) → Splits toks (spelled_statement s) rest → IsStatement s → depth s < room → ArePlain rest → (is_open s ≡ true → NoElseIn rest) → Some (s, rest) ≡ Some x → TakesStatement room toks x
ended {toks} {rest} {x} room s split is deep plain closed e = subst (TakesStatement room toks) (same_Some (s, rest) x e) (record { takes = record { parts = split.is; tree = (is, deep); plain = plain }; closed = closed })

statement_as : {room : ℕ} {x : StatementTree × Symbols} (s t : Symbol) (toks : Symbols) → s ≡ t → TakesStatement room (t ∷ toks) x → TakesStatement room (s ∷ toks) x
statement_as {room} {x} s t toks e took = subst (λ (u : Symbol). TakesStatement room (u ∷ toks) x) (sym e) took

only_takes : (room : ℕ) (next : Reader StatementTree) → SoundStatement room next → Sound spelled_statement (IsWithin room) next
only_takes room next sound toks plain x e = let t = sound toks plain x e in t.takes

-- ---- statements without others in them

plain_takes : (n room : ℕ) → SoundStatement (suc room) (plain_by n)
unfolding plain_by
plain_takes n room toks plain x e =
    let a = sound_then (any_takes n marks.Semicolon) toks plain _ x e in
    ended (suc room) (Plain a.read.0.0 a.read.0.1) (part a.takes) a.takes.tree (omega arith) a.takes.plain (λ opens. absurd cc) a.on

break_takes : (room k : ℕ) (toks : Symbols) → ArePlain toks → (x : StatementTree × Symbols) → break_by k toks ≡ Some x → TakesStatement (suc room) (key words.Break k ∷ toks) x
unfolding break_by
break_takes room k toks plain x e =
    let c = sound_then (punct_takes marks.Semicolon) toks plain _ x e in
    ended (suc room) (Break k c.read.0) (join (one (key words.Break k) toks) (part c.takes)) tt (omega arith) c.takes.plain (λ opens. absurd cc) c.on

continue_takes : (room k : ℕ) (toks : Symbols) → ArePlain toks → (x : StatementTree × Symbols) → continue_by k toks ≡ Some x → TakesStatement (suc room) (key words.Continue k ∷ toks) x
unfolding continue_by
continue_takes room k toks plain x e =
    let c = sound_then (punct_takes marks.Semicolon) toks plain _ x e in
    ended (suc room) (Continue k c.read.0) (join (one (key words.Continue k) toks) (part c.takes)) tt (omega arith) c.takes.plain (λ opens. absurd cc) c.on

return_takes : (n room k : ℕ) (toks : Symbols) → ArePlain toks → (x : StatementTree × Symbols) → return_by n k toks ≡ Some x → TakesStatement (suc room) (key words.Return k ∷ toks) x
unfolding return_by
return_takes n room k toks plain x e =
    let a = sound_then (any_takes n marks.Semicolon) toks plain _ x e in
    ended (suc room) (Return k a.read.0.0 a.read.0.1) (join (one (key words.Return k) toks) (part a.takes)) a.takes.tree (omega arith) a.takes.plain (λ opens. absurd cc) a.on

-- ---- loops

while_takes : (n room : ℕ) (next : Reader StatementTree) → SoundStatement room next → (k : ℕ) (toks : Symbols) → ArePlain toks → (x : StatementTree × Symbols) → while_by n next k toks ≡ Some x → TakesStatement (suc room) (key words.While k ∷ toks) x
unfolding while_by
while_takes n room next sound k toks plain x e =
    let c = sound_then (condition_takes n) toks plain _ x e in
    let s = statement_then sound c.read.1 c.takes.plain _ x c.on in
    let t = s.took.takes in
    let deep = t.tree.1 in
    ended (suc room) (While k c.read.0 s.read.0) (join (one (key words.While k) toks) (join (part c.takes) (part t))) (c.takes.tree, t.tree.0) (omega arith) t.plain s.took.closed s.on

do_takes : (n room : ℕ) (next : Reader StatementTree) → SoundStatement room next → (k : ℕ) (toks : Symbols) → ArePlain toks → (x : StatementTree × Symbols) → do_by n next k toks ≡ Some x → TakesStatement (suc room) (key words.Do k ∷ toks) x
unfolding do_by
do_takes n room next sound k toks plain x e =
    let s = statement_then sound toks plain _ x e in
    let t = s.took.takes in
    let w = sound_then (key_takes words.While) s.read.1 t.plain _ x s.on in
    let m = sound_then (condition_takes n) w.read.1 w.takes.plain _ x w.on in
    let c = sound_then (punct_takes marks.Semicolon) m.read.1 m.takes.plain _ x m.on in
    let deep = t.tree.1 in
    ended (suc room) (Do k s.read.0 w.read.0 m.read.0 c.read.0) (join (one (key words.Do k) toks) (join (part t) (join (part w.takes) (join (part m.takes) (part c.takes))))) (t.tree.0, m.takes.tree) (omega arith) c.takes.plain (λ opens. absurd cc) c.on

for_takes : (n room : ℕ) (next : Reader StatementTree) → SoundStatement room next → (k : ℕ) (toks : Symbols) → ArePlain toks → (x : StatementTree × Symbols) → for_by n next k toks ≡ Some x → TakesStatement (suc room) (key words.For k ∷ toks) x
unfolding for_by
for_takes n room next sound k toks plain x e =
    let h = sound_then (head_takes n) toks plain _ x e in
    let s = statement_then sound h.read.1 h.takes.plain _ x h.on in
    let t = s.took.takes in
    let deep = t.tree.1 in
    ended (suc room) (For k h.read.0 s.read.0) (join (one (key words.For k) toks) (join (part h.takes) (part t))) (h.takes.tree, t.tree.0) (omega arith) t.plain s.took.closed s.on

-- ---- blocks

next_statement_takes : (room : ℕ) (next : Reader StatementTree) → SoundStatement room next → SoundStep spelled_statement (IsWithin room) (next_statement_by next)
unfolding next_statement_by
next_statement_takes room next sound toks plain x e = cases_if (front_is (is_punct marks.RightBrace) toks) _ _ (Some (Some x))
    (λ is e2. absurd cc)
    (λ is e2. cases_if (front_is (λ k. true) toks) _ _ (Some (Some x))
    (λ come e3. only_takes room next sound toks plain x (got_ok (next toks) x e3))
    (λ come e3. absurd cc) e2) e

statements_spelled : (ss : List StatementTree) → spelled_statements (statements_of ss) ≡ spelled_all spelled_statement ss
statements_spelled [] = refl
statements_spelled (s ∷ ss) = ap (λ (l : Symbols). spelled_statement s ++ l) (statements_spelled ss)

statements_are : (room : ℕ) (ss : List StatementTree) → Each (IsWithin room) ss → AreStatements (statements_of ss) × (depth_statements (statements_of ss) ≤ room)
statements_are room [] each = (tt, omega arith)
statements_are room (s ∷ ss) each =
    let more = statements_are room ss each.1 in
    let deep = each.0.1 in
    let deeper = more.1 in
    ((each.0.0, more.0), omega arith)

abbrev pub IsBlockWithin : ℕ → BlockTree → Type 0
IsBlockWithin room b = IsBlock b × (depth_block b ≤ room)

pub block_takes : (n room : ℕ) (next : Reader StatementTree) → SoundStatement room next → Sound spelled_block (IsBlockWithin room) (block_by n next)
unfolding block_by
block_takes n room next sound toks plain x e =
    let o = sound_then (punct_takes marks.LeftBrace) toks plain _ x e in
    let ds = sound_then (declarations_take n) o.read.1 o.takes.plain _ x o.on in
    let ss = sound_then (all_take spelled_statement (IsWithin room) (next_statement_by next) (next_statement_takes room next sound)) ds.read.1 ds.takes.plain _ x ds.on in
    let c = sound_then (punct_takes marks.RightBrace) ss.read.1 ss.takes.plain _ x ss.on in
    let are = statements_are room ss.read.0 ss.takes.tree in
    take (Block o.read.0 ds.read.0 (statements_of ss.read.0) c.read.0)
    (join (part o.takes) (join (part ds.takes) (join (splits_as (part ss.takes) (statements_spelled ss.read.0)) (part c.takes))))
    ((ds.takes.tree, are.0), are.1) c.takes.plain c.on

braced_takes : (n room : ℕ) (next : Reader StatementTree) → SoundStatement room next → SoundStatement (suc room) (braced_by n next)
unfolding braced_by
braced_takes n room next sound toks plain x e =
    let b = sound_then (block_takes n room next sound) toks plain _ x e in
    let deep = b.takes.tree.1 in
    ended (suc room) (Braced b.read.0) (part b.takes) b.takes.tree.0 (omega arith) b.takes.plain (λ opens. absurd cc) b.on

-- ---- `if`

abbrev IsArmWithin : ℕ → ArmTree → Type 0
IsArmWithin room a = IsArm a × (depth_arm a ≤ room)

record TakesArm (room : ℕ) (toks : Symbols) (x : ArmTree × Symbols) : Type 0 where
  takes : Takes spelled_arm (IsArmWithin room) toks x
  closed : body_open x.0 ≡ true → NoElseIn x.1

-- what a reader of arms ends with
arm_ended : {toks rest : Symbols} {x : ArmTree × Symbols} (room : ℕ) (a : ArmTree) → Splits toks (spelled_arm a) rest → IsArm a → depth_arm a ≤ room → ArePlain rest → (body_open a ≡ true → NoElseIn rest) → Some (a, rest) ≡ Some x → TakesArm room toks x
arm_ended {toks} {rest} {x} room a split is deep plain closed e = subst (TakesArm room toks) (same_Some (a, rest) x e) (record { takes = record { parts = split.is; tree = (is, deep); plain = plain }; closed = closed })

arm_takes : (n room : ℕ) (next : Reader StatementTree) → SoundStatement room next → (toks : Symbols) → ArePlain toks → (x : ArmTree × Symbols) → arm_by n next toks ≡ Some x → TakesArm room toks x
unfolding arm_by
arm_takes n room next sound toks plain x e =
    let k = sound_then (key_takes words.If) toks plain _ x e in
    let m = sound_then (condition_takes n) k.read.1 k.takes.plain _ x k.on in
    let s = statement_then sound m.read.1 m.takes.plain _ x m.on in
    let t = s.took.takes in
    let deep = t.tree.1 in
    arm_ended room (Arm k.read.0 m.read.0 s.read.0) (join (part k.takes) (join (part m.takes) (part t))) (m.takes.tree, t.tree.0) (omega arith) t.plain s.took.closed s.on

-- `else` and an arm
record TakesNextArm (room : ℕ) (toks : Symbols) (x : (ℕ × ArmTree) × Symbols) : Type 0 where
  takes : Takes (λ a. key words.Else a.0 ∷ spelled_arm a.1) (λ a. IsArmWithin room a.1) toks x
  closed : body_open x.0.1 ≡ true → NoElseIn x.1

next_arm_takes : (n room : ℕ) (next : Reader StatementTree) → SoundStatement room next → (toks : Symbols) → ArePlain toks → (x : (ℕ × ArmTree) × Symbols) → next_arm_by n next toks ≡ Some (Some x) → TakesNextArm room toks x
unfolding next_arm_by
next_arm_takes n room next sound [] plain x e = absurd cc
next_arm_takes n room next sound (s ∷ rest) plain x e = cases_if (is_key words.Else s.kind && front_is (is_key words.If) rest) _ _ (Some (Some x))
    (λ is e2.
    let both = and_both (is_key words.Else s.kind) (front_is (is_key words.If) rest) is in
    let a = bind_ok (arm_by n next rest) (λ a. Some ((s.line, a.0), a.1)) x (got_ok (arm_by n next rest >>= λ a. Some ((s.line, a.0), a.1)) x e2) in
    let t = arm_takes n room next sound rest plain.1 a.0 a.1 in
    let took = t.takes in
    let made : (ℕ × ArmTree) × Symbols = ((s.line, a.0.0), a.0.1) in
    let split : Splits (key words.Else s.line ∷ rest) (key words.Else s.line ∷ spelled_arm a.0.0) a.0.1 = join (one (key words.Else s.line) rest) (part took) in
    subst (TakesNextArm room (s ∷ rest)) (same_Some made x a.2) (record { takes = record { parts = ap (λ (u : Symbol). u ∷ rest) (key_is words.Else s plain.0 both.0) ∙ split.is; tree = took.tree; plain = took.plain }; closed = t.closed }))
    (λ is e2. absurd cc) e

-- what may stand behind an arm, by what is read there
never : (b : Bool) → (b ≡ true → ⊥) → b ≡ false
never true h = absurd (h refl)
never false h = refl

may_precede : (a : ArmTree) (as_ : Arms) (toks rest : Symbols) → toks ≡ spelled_arms as_ ++ rest → (body_open a ≡ true → NoElseIn toks) → MayPrecede a as_
may_precede (Arm k e s) NoElse toks rest parts closed = tt
may_precede (Arm k e s) (Else l t) toks rest parts closed = never (is_open s) (λ opens. let none = closed opens in let some = ap (front_is (is_key words.Else)) parts in cc)
may_precede (Arm k e s) (ElseIf l a as_) toks rest parts closed = never (is_open s) (λ opens. let none = closed opens in let some = ap (front_is (is_key words.Else)) parts in cc)

abbrev AreArmsWithin : ℕ → Arms → Type 0
AreArmsWithin room as_ = AreArms as_ × (depth_arms as_ ≤ room)

record TakesArms (room : ℕ) (toks : Symbols) (x : Arms × Symbols) : Type 0 where
  takes : Takes spelled_arms (AreArmsWithin room) toks x
  closed : is_open_arms x.0 ≡ true → NoElseIn x.1

no_key : (toks : Symbols) → key_at words.Else toks ≡ None → NoElseIn toks
unfolding key_at
no_key [] h = refl
no_key (s ∷ rest) h = cases_if (is_key words.Else s.kind) (Some (s.line, rest)) None None (λ is e. absurd cc) (λ is e. is) h

-- where no arm comes behind `else`, no `if` does
got_some : {A : Type 0} (r : Option (A × Symbols)) → got r ≡ Some None → ⊥
got_some (Some x) h = cc
got_some None h = cc

no_if : (n : ℕ) (next : Reader StatementTree) (k : ℕ) (rest : Symbols) → next_arm_by n next (key words.Else k ∷ rest) ≡ Some None → front_is (is_key words.If) rest ≡ false
unfolding next_arm_by
no_if n next k rest h = cases_if (front_is (is_key words.If) rest) _ _ (Some None)
    (λ is e. absurd (got_some (arm_by n next rest >>= λ a. Some ((k, a.0), a.1)) e))
    (λ is e. is) h

no_chain : (s : StatementTree) (toks rest : Symbols) → toks ≡ spelled_statement s ++ rest → front_is (is_key words.If) toks ≡ false → is_chain s ≡ false
no_chain (Chain (Arm k e s) as_) toks rest parts none = absurd (let some = ap (front_is (is_key words.If)) parts in cc)
no_chain _ toks rest parts none = refl

last_takes : (n room : ℕ) (next : Reader StatementTree) → SoundStatement room next → (toks : Symbols) → ArePlain toks → next_arm_by n next toks ≡ Some None → (o : Option (ℕ × StatementTree) × Symbols) → last_by next toks ≡ Some o → TakesArms room toks (arms_of [] o.0, o.1)
unfolding last_by
last_takes n room next sound toks plain none o e = cases_option (key_at words.Else toks) (last_on next toks) (Some o)
    (λ z come e2.
    let k = key_takes words.Else toks plain z come in
    let s = statement_then sound z.1 k.plain _ o e2 in
    let t = s.took.takes in
    let deep = t.tree.1 in
    let made : Option (ℕ × StatementTree) × Symbols = (Some (z.0, s.read.0), s.read.1) in
    let split : Splits toks (key words.Else z.0 ∷ spelled_statement s.read.0) s.read.1 = join (part k) (part t) in
    let front = no_if n next z.0 z.1 (sym (ap (next_arm_by n next) k.parts) ∙ none) in
    subst (λ (y : Option (ℕ × StatementTree) × Symbols). TakesArms room toks (arms_of [] y.0, y.1)) (same_Some made o s.on)
    (record { takes = record { parts = split.is; tree = ((t.tree.0, no_chain s.read.0 z.1 s.read.1 t.parts front), omega arith); plain = t.plain }; closed = s.took.closed }))
    (λ come e2.
    let made : Option (ℕ × StatementTree) × Symbols = (None, toks) in
    subst (λ (y : Option (ℕ × StatementTree) × Symbols). TakesArms room toks (arms_of [] y.0, y.1)) (same_Some made o e2)
    (record { takes = record { parts = refl; tree = (tt, omega arith); plain = plain }; closed = λ opens. no_key toks come })) e

next_arm_end : (n : ℕ) (next : Reader StatementTree) → next_arm_by n next [] ≡ Some None
unfolding next_arm_by
next_arm_end n next = refl

-- an `else` and an arm, and what was taken behind them
arm_more : (room : ℕ) (toks : Symbols) (z : (ℕ × ArmTree) × Symbols) (as_ : Arms) (rest : Symbols) → TakesNextArm room toks z → TakesArms room z.1 (as_, rest) → TakesArms room toks (ElseIf z.0.0 z.0.1 as_, rest)
arm_more room toks z as_ rest t more =
    let first = t.takes in
    let others = more.takes in
    let deep = first.tree.1 in
    let deeper = others.tree.1 in
    let split : Splits toks (spelled_arms (ElseIf z.0.0 z.0.1 as_)) rest = join (part first) (part others) in
    record { takes = record { parts = split.is; tree = ((first.tree.0, others.tree.0, may_precede z.0.1 as_ z.1 rest others.parts t.closed), omega arith); plain = others.plain }; closed = more.closed }

shorter : (room : ℕ) (toks : Symbols) (z : (ℕ × ArmTree) × Symbols) (m : ℕ) → TakesNextArm room toks z → length toks ≤ suc m → length z.1 ≤ m
shorter room toks z m t le = let took = t.takes in omega (arith, ap length took.parts, length-append (spelled_arm z.0.1) z.1)

arms_take : (n room : ℕ) (next : Reader StatementTree) → SoundStatement room next → (m : ℕ) (toks : Symbols) → ArePlain toks → length toks ≤ m → (as_ : List (ℕ × ArmTree) × Symbols) → collect (next_arm_by n next) m toks ≡ Some as_ → (o : Option (ℕ × StatementTree) × Symbols) → last_by next as_.1 ≡ Some o → TakesArms room toks (arms_of as_.0 o.0, o.1)
unfolding collect
arms_take n room next sound zero [] plain le as_ e o last =
    let same = same_Some ([], []) as_ e in
    subst (λ (y : List (ℕ × ArmTree) × Symbols). last_by next y.1 ≡ Some o → TakesArms room [] (arms_of y.0 o.0, o.1)) same (last_takes n room next sound [] plain (next_arm_end n next) o) last
arms_take n room next sound zero (s ∷ toks) plain le as_ e o last = absurd (omega arith)
arms_take n room next sound (suc m) toks plain le as_ e o last =
    let a = bind_ok (next_arm_by n next toks) (collect_on (collect (next_arm_by n next) m) toks) as_ e in
    cases_option a.0 (collect_on (collect (next_arm_by n next) m) toks) (Some as_)
    (λ z is e2.
    let t = next_arm_takes n room next sound toks plain z (a.1 ∙ ap (λ q. Some q) is) in
    let l = bind_ok (collect (next_arm_by n next) m z.1) _ as_ e2 in
    let made : List (ℕ × ArmTree) × Symbols = (z.0 ∷ l.0.0, l.0.1) in
    subst (λ (y : List (ℕ × ArmTree) × Symbols). last_by next y.1 ≡ Some o → TakesArms room toks (arms_of y.0 o.0, o.1)) (same_Some made as_ l.2)
    (λ last. arm_more room toks z (arms_of l.0.0 o.0) o.1 t (arms_take n room next sound m z.1 (let took = t.takes in took.plain) (shorter room toks z m t le) l.0 l.1 o last)) last)
    (λ is e2.
    let made : List (ℕ × ArmTree) × Symbols = ([], toks) in
    subst (λ (y : List (ℕ × ArmTree) × Symbols). last_by next y.1 ≡ Some o → TakesArms room toks (arms_of y.0 o.0, o.1)) (same_Some made as_ e2)
    (last_takes n room next sound toks plain (a.1 ∙ ap (λ q. Some q) is) o) last) a.2

chain_takes : (n room : ℕ) (next : Reader StatementTree) → SoundStatement room next → SoundStatement (suc room) (chain_by n next)
unfolding chain_by
chain_takes n room next sound toks plain x e =
    let a = bind_ok (arm_by n next toks) _ x e in
    let t = arm_takes n room next sound toks plain a.0 a.1 in
    let first = t.takes in
    let as_ = bind_ok (all_that (next_arm_by n next) a.0.1) _ x a.2 in
    let o = bind_ok (last_by next as_.0.1) _ x as_.2 in
    let arms = arms_take n room next sound (length a.0.1) a.0.1 first.plain (omega arith) as_.0 as_.1 o.0 o.1 in
    let others = arms.takes in
    let deep = first.tree.1 in
    let deeper = others.tree.1 in
    ended (suc room) (Chain a.0.0 (arms_of as_.0.0 o.0.0)) (join (part first) (part others)) (first.tree.0, others.tree.0, may_precede a.0.0 (arms_of as_.0.0 o.0.0) a.0.1 o.0.1 others.parts t.closed) (omega arith) others.plain arms.closed o.2

-- ---- `switch`

case_takes : (n k : ℕ) (toks : Symbols) → ArePlain toks → (x : LabelTree × Symbols) → case_by n k toks ≡ Some x → Takes spelled_label IsLabel (key words.Case k ∷ toks) x
unfolding case_by
case_takes n k toks plain x e =
    let m = sound_then (cond_takes n) toks plain _ x e in
    let c = sound_then (punct_takes marks.Colon) m.read.1 m.takes.plain _ x m.on in
    take (Case k m.read.0 c.read.0) (join (one (key words.Case k) toks) (join (part m.takes) (part c.takes))) m.takes.tree c.takes.plain c.on

default_takes : (k : ℕ) (toks : Symbols) → ArePlain toks → (x : LabelTree × Symbols) → default_by k toks ≡ Some x → Takes spelled_label IsLabel (key words.Default k ∷ toks) x
unfolding default_by
default_takes k toks plain x e =
    let c = sound_then (punct_takes marks.Colon) toks plain _ x e in
    take (Default k c.read.0) (join (one (key words.Default k) toks) (part c.takes)) tt c.takes.plain c.on

abbrev spelled_inner : InnerTree → Symbols
spelled_inner (LabelInner l) = spelled_label l
spelled_inner (StatementInner s) = spelled_statement s

abbrev IsInner : ℕ → InnerTree → Type 0
IsInner room (LabelInner l) = IsLabel l
IsInner room (StatementInner s) = IsWithin room s

label_inner : (room : ℕ) (toks : Symbols) (l : LabelTree × Symbols) (x : InnerTree × Symbols) → Takes spelled_label IsLabel toks l → Some (LabelInner l.0, l.1) ≡ Some x → Takes spelled_inner (IsInner room) toks x
label_inner room toks l x t e = take (LabelInner l.0) (record { is = t.parts }) t.tree t.plain e

inner_takes : (n room : ℕ) (next : Reader StatementTree) → SoundStatement room next → SoundStep spelled_inner (IsInner room) (inner_by n next)
unfolding inner_by
inner_takes n room next sound [] plain x e = absurd cc
inner_takes n room next sound (s ∷ rest) plain x e = cases_if (is_punct marks.RightBrace s.kind) _ _ (Some (Some x))
    (λ is e2. absurd cc)
    (λ is e2. cases_if (is_key words.Case s.kind) _ _ (Some (Some x))
    (λ is e3.
    let l = bind_ok (case_by n s.line rest) _ x (got_ok (case_by n s.line rest >>= λ l. Some (LabelInner l.0, l.1)) x e3) in
    taken_as s (key words.Case s.line) rest (key_is words.Case s plain.0 is) (label_inner room (key words.Case s.line ∷ rest) l.0 x (case_takes n s.line rest plain.1 l.0 l.1) l.2))
    (λ is e3. cases_if (is_key words.Default s.kind) _ _ (Some (Some x))
    (λ is e4.
    let l = bind_ok (default_by s.line rest) _ x (got_ok (default_by s.line rest >>= λ l. Some (LabelInner l.0, l.1)) x e4) in
    taken_as s (key words.Default s.line) rest (key_is words.Default s plain.0 is) (label_inner room (key words.Default s.line ∷ rest) l.0 x (default_takes s.line rest plain.1 l.0 l.1) l.2))
    (λ is e4.
    let t = statement_then sound (s ∷ rest) plain _ x (got_ok (next (s ∷ rest) >>= λ t. Some (StatementInner t.0, t.1)) x e4) in
    let took = t.took.takes in
    take (StatementInner t.read.0) (record { is = took.parts }) took.tree took.plain t.on) e3) e2) e

items_spelled : (is : List InnerTree) → spelled_items (items_of is) ≡ spelled_all spelled_inner is
items_spelled [] = refl
items_spelled (LabelInner l ∷ is) = ap (λ (r : Symbols). spelled_label l ++ r) (items_spelled is)
items_spelled (StatementInner s ∷ is) = ap (λ (r : Symbols). spelled_statement s ++ r) (items_spelled is)

items_are : (room : ℕ) (is : List InnerTree) → Each (IsInner room) is → AreItems (items_of is) × (depth_items (items_of is) ≤ room)
items_are room [] each = (tt, omega arith)
items_are room (LabelInner l ∷ is) each = let more = items_are room is each.1 in ((each.0, more.0), more.1)
items_are room (StatementInner s ∷ is) each =
    let more = items_are room is each.1 in
    let deep = each.0.1 in
    let deeper = more.1 in
    ((each.0.0, more.0), omega arith)

switch_takes : (n room : ℕ) (next : Reader StatementTree) → SoundStatement room next → (k : ℕ) (toks : Symbols) → ArePlain toks → (x : StatementTree × Symbols) → switch_by n next k toks ≡ Some x → TakesStatement (suc room) (key words.Switch k ∷ toks) x
unfolding switch_by
switch_takes n room next sound k toks plain x e =
    let m = sound_then (condition_takes n) toks plain _ x e in
    let o = sound_then (punct_takes marks.LeftBrace) m.read.1 m.takes.plain _ x m.on in
    let is = sound_then (all_take spelled_inner (IsInner room) (inner_by n next) (inner_takes n room next sound)) o.read.1 o.takes.plain _ x o.on in
    let c = sound_then (punct_takes marks.RightBrace) is.read.1 is.takes.plain _ x is.on in
    let are = items_are room is.read.0 is.takes.tree in
    let deep = are.1 in
    ended (suc room) (Switch k m.read.0 o.read.0 (items_of is.read.0) c.read.0)
    (join (one (key words.Switch k) toks) (join (part m.takes) (join (part o.takes) (join (splits_as (part is.takes) (items_spelled is.read.0)) (part c.takes)))))
    (m.takes.tree, are.0) (omega arith) c.takes.plain (λ opens. absurd cc) c.on

-- ---- all of them

statement_by_takes : (n room : ℕ) (next : Reader StatementTree) → SoundStatement room next → SoundStatement (suc room) (statement_by n next)
unfolding statement_by
statement_by_takes n room next sound [] plain x e = absurd cc
statement_by_takes n room next sound (s ∷ rest) plain x e = cases_if (is_punct marks.LeftBrace s.kind) _ _ (Some x)
    (λ is e2. braced_takes n room next sound (s ∷ rest) plain x e2)
    (λ is e2. cases_if (is_key words.If s.kind) _ _ (Some x)
    (λ is e3. chain_takes n room next sound (s ∷ rest) plain x e3)
    (λ is e3. cases_if (is_key words.While s.kind) _ _ (Some x)
    (λ is e4. statement_as s (key words.While s.line) rest (key_is words.While s plain.0 is) (while_takes n room next sound s.line rest plain.1 x e4))
    (λ is e4. cases_if (is_key words.Do s.kind) _ _ (Some x)
    (λ is e5. statement_as s (key words.Do s.line) rest (key_is words.Do s plain.0 is) (do_takes n room next sound s.line rest plain.1 x e5))
    (λ is e5. cases_if (is_key words.For s.kind) _ _ (Some x)
    (λ is e6. statement_as s (key words.For s.line) rest (key_is words.For s plain.0 is) (for_takes n room next sound s.line rest plain.1 x e6))
    (λ is e6. cases_if (is_key words.Switch s.kind) _ _ (Some x)
    (λ is e7. statement_as s (key words.Switch s.line) rest (key_is words.Switch s plain.0 is) (switch_takes n room next sound s.line rest plain.1 x e7))
    (λ is e7. cases_if (is_key words.Break s.kind) _ _ (Some x)
    (λ is e8. statement_as s (key words.Break s.line) rest (key_is words.Break s plain.0 is) (break_takes room s.line rest plain.1 x e8))
    (λ is e8. cases_if (is_key words.Continue s.kind) _ _ (Some x)
    (λ is e9. statement_as s (key words.Continue s.line) rest (key_is words.Continue s plain.0 is) (continue_takes room s.line rest plain.1 x e9))
    (λ is e9. cases_if (is_key words.Return s.kind) _ _ (Some x)
    (λ is e10. statement_as s (key words.Return s.line) rest (key_is words.Return s plain.0 is) (return_takes n room s.line rest plain.1 x e10))
    (λ is e10. plain_takes n room (s ∷ rest) plain x e10) e9) e8) e7) e6) e5) e4) e3) e2) e

pub statement_takes : (n room : ℕ) → SoundStatement room (statement_at n room)
unfolding statement_at
statement_takes n zero toks plain x e = absurd cc
statement_takes n (suc room) toks plain x e = statement_by_takes n room (statement_at n room) (statement_takes n room) toks plain x e
