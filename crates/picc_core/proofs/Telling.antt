-- What the refusals of the stages tell of a text.
use Rattle.std.proofs.Common.{◌≡◌, ℕ, ◌<◌, inl, inr, List, [], ◌∷◌, length, ◌≤◌, refl, sym, ap, ◌∙◌, subst, arith, Option, Some, None, Result, Ok, Err, nat_lt, Bool, true, false, if◌then◌else◌}
use Rattle.std.specs.Prelude.{MatchResult}
use Rattle.std.proofs.lemmas.Bool.{lt-ltb, le-ltb}
use Rattle.c_token.specs.declared.token.Tok.{Tok}
use Rattle.c_token.specs.Text.{tokens_of, Fails}
use Rattle.c_token.specs.declared.token.LexError.{LexError}
use Rattle.c_token.specs.declared.token.LexError.TheVariants as lex
use Rattle.c_pre.specs.Items.{program_of, IsError}
use Rattle.c_pre.specs.declared.PreError.{PreError}
use Rattle.c_pre.specs.declared.PreError.TheVariants as pre
use Rattle.c_nodes.specs.Programs.{ItemTree, IsUnit, spelled_unit}
use Rattle.c_tables.specs.Answers.{fault_of}
use Rattle.c_typed.specs.Views.{program_of as view_of}
use Rattle.parse_expr.specs.Reader.{symbols_in}
use Rattle.parse_expr.specs.declared.error.ParseError.{ParseError}
use Rattle.parse_expr.specs.declared.error.ParseError.TheVariants as parse
use Rattle.c_parse.specs.Limits.{open_after, run_after, judged, first_over, IsLimit}
use Rattle.c_tables.specs.declared.error.CheckError.{CheckError}
use Rattle.c_tables.specs.declared.error.CheckError.TheVariants as check
use Rattle.picc_core.specs.Errors.{of_lex, of_pre, of_parse, of_check}
use Rattle.c_parse.specs.Marks.{marked}
use Rattle.picc_core.specs.Texts.{behind_directives, behind_tokens, tokens_left, limited, within_limits, program_tokens, HasTree, HasNoTree}
use Rattle.picc_core.specs.Typed.{IsTreeOf, IsTypedAs}
use Rattle.picc_core.proofs.Trees.{typed_tree, mistyped_tree, refused_tree}
use Rattle.picc_core.specs.Answers.{First, IsEarly, Tells, TellsBy, TellsError, TellsErrorBy, IsRefusedUnless}
use Rattle.picc_core.specs.Limits.{IsFirstRefusalWithin}
use Rattle.picc_core.specs.declared.limits.Limits.{Limits}
use Rattle.picc_core.specs.declared.known.Front.{Front}
use Rattle.picc_core.specs.declared.refusal.CompileError.{CompileError}
use Rattle.picc_core.specs.declared.refusal.CompileError.TheVariants.{NoMemory, Refused}
use Rattle.picc_core.specs.declared.refusal.LimitKind.TheVariants as kinds
use Rattle.picc_core.specs.declared.refusal.Refusal.{Refusal}
use Rattle.picc_core.specs.declared.refusal.Refusal.TheVariants.{Lex, Word, Directive, Syntax, Typing, Recursion, Roots, Depth, Ram, Code, Page, Limit}

-- ---- tokens
pub long_left : (text : List ℕ) → 262144 < length text → tokens_left text ≡ Err (Refused (Limit kinds.Text 0))
unfolding tokens_left
long_left text h = let e = lt-ltb 262144 (length text) h in rw e refl

pub long_told : (text : List ℕ) → 262144 < length text → program_tokens text ≡ Err (Refused (Limit kinds.Text 0))
long_told text h = ap within_limits (long_left text h)

short_left : (text : List ℕ) → length text ≤ 262144 → tokens_left text ≡ behind_tokens text (tokens_of text)
unfolding tokens_left
short_left text h = let e = le-ltb 262144 (length text) h in rw e refl

pub lex_told : (text : List ℕ) (e : LexError) → length text ≤ 262144 → Fails e (tokens_of text) → TellsError text (of_lex e)
lex_told text lex.NoMemory h f = tt
lex_told text (lex.Bad line) h f = ap within_limits (short_left text h ∙ ap (behind_tokens text) f)
lex_told text (lex.Identifier line) h f = ap within_limits (short_left text h ∙ ap (behind_tokens text) f)

raw_left : (text : List ℕ) (raw : List Tok) → length text ≤ 262144 → tokens_of text ≡ Ok raw → tokens_left text ≡ behind_directives text (program_of text raw)
raw_left text raw h is = short_left text h ∙ ap (behind_tokens text) is

pub pre_told : (text : List ℕ) (raw : List Tok) (e : PreError) → length text ≤ 262144 → tokens_of text ≡ Ok raw → IsError e (program_of text raw) → TellsError text (of_pre e)
pre_told text raw pre.NoMemory h is f = tt
pre_told text raw (pre.Word line) h is f = ap within_limits (raw_left text raw h is ∙ ap (behind_directives text) f)
pre_told text raw (pre.Directive line) h is f = ap within_limits (raw_left text raw h is ∙ ap (behind_directives text) f)
pre_told text raw (pre.Tokens line) h is f = ap within_limits (raw_left text raw h is ∙ ap (behind_directives text) f)

pub all_left : (text : List ℕ) (raw toks out : List Tok) → length text ≤ 262144 → tokens_of text ≡ Ok raw → program_of text raw ≡ Ok toks → out ≡ marked text toks → tokens_left text ≡ Ok out
all_left text raw toks out h is all named = raw_left text raw h is ∙ ap (behind_directives text) all ∙ ap (λ (l : List Tok). Ok l) (sym named)

-- ---- the first limit that is passed tells of a limit
limit_here : (tall long : Bool) (line : ℕ) (later : Option ParseError) (e : ParseError) → ((f : ParseError) → later ≡ Some f → IsLimit f)
    → (if tall then Some (parse.Nesting line) else if long then Some (parse.Run line) else later) ≡ Some e → IsLimit e
limit_here true long line later e rest is = let f : parse.Nesting line ≡ e = cc in subst IsLimit f tt
limit_here false true line later e rest is = let f : parse.Run line ≡ e = cc in subst IsLimit f tt
limit_here false false line later e rest is = rest e is

pub over_is_limit : (open_now run : ℕ) (toks : List Tok) (e : ParseError) → first_over open_now run toks ≡ Some e → IsLimit e
unfolding first_over
over_is_limit open_now run [] e is = let both : None ≡ Some e = is in absurd (cc)
over_is_limit open_now run (t ∷ ts) e is =
    limit_here (nat_lt 64 (open_after open_now t.kind)) (nat_lt 8192 (run_after run t.kind)) t.line (first_over (open_after open_now t.kind) (run_after run t.kind) ts) e
    (over_is_limit (open_after open_now t.kind) (run_after run t.kind) ts) is

-- ---- a tree, or none
within : (text : List ℕ) (toks : List Tok) → tokens_left text ≡ Ok toks → (over : Option ParseError) → first_over 0 0 toks ≡ over → program_tokens text ≡ limited toks over
within text toks left over is = ap within_limits left ∙ ap (limited toks) is

-- a reader's answer that is no limit's leaves the tokens within the limits
no_limit : {X : Type 0} (toks : List Tok) (read : Result X ParseError) → ((e : ParseError) → first_over 0 0 toks ≡ Some e → read ≡ Err e)
    → ((e : ParseError) → read ≡ Err e → IsLimit e → ⊥) → (over : Option ParseError) → first_over 0 0 toks ≡ over → over ≡ None
no_limit toks read limit never None is = refl
no_limit toks read limit never (Some e) is = absurd (never e (limit e is) (over_is_limit 0 0 toks e is))

pub tree_told : {X : Type 0} (text : List ℕ) (toks : List Tok) (tree : List ItemTree) (read : Result X ParseError) (x : X) → read ≡ Ok x → tokens_left text ≡ Ok toks
    → ((e : ParseError) → first_over 0 0 toks ≡ Some e → read ≡ Err e) → IsUnit tree → symbols_in text toks ≡ spelled_unit tree → IsTreeOf text tree
tree_told text toks tree read x ok left limit grammar spelled =
    let none = no_limit toks read limit (λ e is l. let both = sym ok ∙ is in cc) (first_over 0 0 toks) refl in
    record { toks = toks; tokens = within text toks left None none; grammar = grammar; spelled = spelled }

-- the tokens of a tree are these
same_tokens : (text : List ℕ) (toks : List Tok) → program_tokens text ≡ Ok toks → (t : HasTree text) → t.toks ≡ toks
same_tokens text toks is t = let both = sym t.tokens ∙ is in cc

syntax_told : {X : Type 0} (text : List ℕ) (toks : List Tok) (read : Result X ParseError) (line : ℕ) → read ≡ Err (parse.Syntax line) → tokens_left text ≡ Ok toks
    → ((e : ParseError) → first_over 0 0 toks ≡ Some e → read ≡ Err e)
    → ((tree : List ItemTree) → IsUnit tree → symbols_in text toks ≡ spelled_unit tree → ⊥) → HasNoTree text
syntax_told text toks read line err left limit none =
    let under = no_limit toks read limit (λ e is l. let f : parse.Syntax line ≡ e = (let both = sym err ∙ is in cc) in absurd (subst IsLimit (sym f) l)) (first_over 0 0 toks) refl in
    let tokens = within text toks left None under in
    record { toks = toks; tokens = tokens; none = λ t. none t.tree t.grammar (subst (λ ts. symbols_in text ts ≡ spelled_unit t.tree) (same_tokens text toks tokens t) t.spelled) }

-- an error of the parser tells what it says
pub parse_told : {X : Type 0} (text : List ℕ) (toks : List Tok) (read : Result X ParseError) (error : ParseError) → read ≡ Err error → tokens_left text ≡ Ok toks
    → ((e : ParseError) → first_over 0 0 toks ≡ Some e → read ≡ Err e)
    → ((e : ParseError) → read ≡ Err e → IsLimit e → first_over 0 0 toks ≡ Some e)
    → ((line : ℕ) → read ≡ Err (parse.Syntax line) → (tree : List ItemTree) → IsUnit tree → symbols_in text toks ≡ spelled_unit tree → ⊥)
    → TellsError text (of_parse error)
parse_told text toks read parse.NoMemory err left limit only none = tt
parse_told text toks read (parse.Nesting line) err left limit only none = within text toks left (Some (parse.Nesting line)) (only (parse.Nesting line) err tt)
parse_told text toks read (parse.Run line) err left limit only none = within text toks left (Some (parse.Run line)) (only (parse.Run line) err tt)
parse_told text toks read (parse.Syntax line) err left limit only none = syntax_told text toks read line err left limit (none line err)

-- ---- a refusal of the tokens comes first
clash : {P : Type 0} (text : List ℕ) (r : Refusal) → program_tokens text ≡ Err (Refused r) → HasTree text → P
clash text r is tree = let both = sym is ∙ tree.tokens in absurd (cc)

no_clash : {P : Type 0} (text : List ℕ) (r : Refusal) → program_tokens text ≡ Err (Refused r) → HasNoTree text → P
no_clash text r is none = let both = sym is ∙ none.tokens in absurd (cc)

same_error : (text : List ℕ) (r s : Refusal) → program_tokens text ≡ Err (Refused r) → program_tokens text ≡ Err (Refused s) → s ≡ r
same_error text r s is other = let both = sym is ∙ other in cc

pub told_first : (Is : First) (text : List ℕ) (r s : Refusal) → program_tokens text ≡ Err (Refused r) → TellsBy Is text s → s ≡ r
told_first Is text r (Lex line) is tells = same_error text r (Lex line) is tells
told_first Is text r (Word line) is tells = same_error text r (Word line) is tells
told_first Is text r (Directive line) is tells = same_error text r (Directive line) is tells
told_first Is text r (Limit kind line) is tells = same_error text r (Limit kind line) is tells
told_first Is text r (Syntax line) is tells = no_clash text r is tells
told_first Is text r (Typing kind line) is tells = clash text r is (mistyped_tree text (fault_of kind line) tells)
told_first Is text r (Roots kind) is tells = clash text r is (refused_tree text (Roots kind) tells)
told_first Is text r (Recursion function) is tells = clash text r is (refused_tree text (Recursion function) tells)
told_first Is text r (Depth depth) is tells = clash text r is (refused_tree text (Depth depth) tells)
told_first Is text r (Ram object) is tells = clash text r is (refused_tree text (Ram object) tells)
told_first Is text r (Page function words) is tells = clash text r is (refused_tree text (Page function words) tells)
told_first Is text r (Code words) is tells = clash text r is (refused_tree text (Code words) tells)

pub tokens_first : (limits : Limits) (text : List ℕ) (answer : Result Front CompileError) → MatchResult answer (λ front. IsTypedAs text (view_of front.typed)) (TellsErrorBy (IsFirstRefusalWithin limits) text)
    → (r : Refusal) → program_tokens text ≡ Err (Refused r) → IsRefusedUnless answer r
tokens_first limits text (Ok front) tells r is = clash text r is (typed_tree text (view_of front.typed) tells)
tokens_first limits text (Err NoMemory) tells r is = inr refl
tokens_first limits text (Err (Refused s)) tells r is = inl (ap (λ r. Err (Refused r)) (told_first (IsFirstRefusalWithin limits) text r s is tells))

-- ---- what the stages up to the types refuse
pub lex_early : (e : LexError) → IsEarly (of_lex e)
lex_early lex.NoMemory = tt
lex_early (lex.Bad line) = tt
lex_early (lex.Identifier line) = tt

pub pre_early : (e : PreError) → IsEarly (of_pre e)
pre_early pre.NoMemory = tt
pre_early (pre.Word line) = tt
pre_early (pre.Directive line) = tt
pre_early (pre.Tokens line) = tt

pub parse_early : (e : ParseError) → IsEarly (of_parse e)
parse_early parse.NoMemory = tt
parse_early (parse.Nesting line) = tt
parse_early (parse.Run line) = tt
parse_early (parse.Syntax line) = tt

pub check_early : (e : CheckError) → IsEarly (of_check e)
check_early check.NoMemory = tt
check_early (check.Kind kind line) = tt

-- is told of the text whatever is accepted behind them
early_refused : (limits : Limits) (text : List ℕ) (r : Refusal) → IsEarly (Refused r) → Tells text r → TellsBy (IsFirstRefusalWithin limits) text r
early_refused limits text (Lex line) early tells = tells
early_refused limits text (Word line) early tells = tells
early_refused limits text (Directive line) early tells = tells
early_refused limits text (Limit kind line) early tells = tells
early_refused limits text (Syntax line) early tells = tells
early_refused limits text (Typing kind line) early tells = tells
early_refused limits text (Roots kind) early tells = absurd early
early_refused limits text (Recursion function) early tells = absurd early
early_refused limits text (Depth depth) early tells = absurd early
early_refused limits text (Ram object) early tells = absurd early
early_refused limits text (Page function words) early tells = absurd early
early_refused limits text (Code words) early tells = absurd early

pub early_told : (limits : Limits) (text : List ℕ) (e : CompileError) → IsEarly e → TellsError text e → TellsErrorBy (IsFirstRefusalWithin limits) text e
early_told limits text NoMemory early tells = tt
early_told limits text (Refused r) early tells = early_refused limits text r early tells
