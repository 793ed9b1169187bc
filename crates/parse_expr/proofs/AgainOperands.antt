-- Operands with their postfixes and prefixes are read again from their spelling.
use Rattle.std.proofs.Common.{◌≡◌, ℕ, zero, suc, ◌<◌, ◌≤◌, Bool, true, false, ◌&&◌, if◌then◌else◌, List, [], ◌∷◌, ◌++◌, length, Option, Some, None, refl, sym, ap, subst, ◌∙◌, append_assoc, length-append, arith}
use Rattle.c_token.specs.declared.token.Keyword.TheVariants as words
use Rattle.c_token.specs.declared.token.Punct.{Punct}
use Rattle.c_token.specs.declared.token.Punct.TheVariants as marks
use Rattle.c_nodes.specs.Words.{Symbol, Symbols, key, punct}
use Rattle.c_nodes.specs.Kinds.{is_punct, is_leaf, is_step, is_spec}
use Rattle.c_nodes.specs.Trees.{Tree, Leaf, Group, Behind, Before, Measure, Join, Choose, Assign, Post, Index, CallBare, Call, Field, Step, Pre, Sign, Sizeof, Cast, TypeTree, TypeOf, Specified, SpecTree, OneWord, Tagged, Body, NamedType, EnumTagged, EnumBody, spelled, spelled_post, spelled_pre, spelled_type, spelled_more_specs, spelled_spec, rank, is_postfix, is_unary, may_follow, IsTree, IsPost, IsPre, IsType, IsSpec}
use Rattle.c_nodes.specs.Lists.{posted, prefixed}
use Rattle.parse_expr.specs.Reader.{◌>>=◌, Reader, front_is, symbol_at, punct_at, key_at, specs_come, type_opens, collect}
use Rattle.parse_expr.specs.Reading.{Inner, group_by, primary_by, index_by, call_by, field_by, post_by, postfix_by, bracketed_by, cast_by, prefix_by, operand_by, unary_by}
use Rattle.parse_expr.proofs.Knots.{begins_expr, Stops, CompleteInner}
use Rattle.parse_expr.proofs.AgainKinds.{quiet, front_not, no_spec, no_closing, no_bracket, begins_primary, primary, leaf_opens, prefix_opens, prefix_begins, field_only, step_only, spec_word, type_name_begins}
use Rattle.parse_expr.proofs.AgainLoops.{Chained, first, further, ends, collect_stops}

-- ---- first tokens

-- each tree has a token
pub has_token : (t : Tree) → 0 < length (spelled t)
has_token (Leaf s) = omega arith
has_token (Group o e c) = omega arith
has_token (Behind e p) = omega (arith, length-append (spelled e) (spelled_post p), has_token e)
has_token (Before p e) = omega (arith, length-append (spelled_pre p) (spelled e), has_token e)
has_token (Measure k o t c) = omega arith
has_token (Join s a b) = omega (arith, length-append (spelled a) (s ∷ spelled b))
has_token (Choose c q t k e) = omega (arith, length-append (spelled c) (punct marks.Question q ∷ (spelled t ++ punct marks.Colon k ∷ spelled e)))
has_token (Assign a s b) = omega (arith, length-append (spelled a) (s ∷ spelled b))

pub post_has_token : (p : Post) → 0 < length (spelled_post p)
post_has_token (Index o e c) = omega arith
post_has_token (CallBare o c) = omega arith
post_has_token (Call o e c) = omega arith
post_has_token (Field s n) = omega arith
post_has_token (Step s) = omega arith

pre_has_token : (p : Pre) → 0 < length (spelled_pre p)
pre_has_token (Sign s) = omega arith
pre_has_token (Sizeof k) = omega arith
pre_has_token (Cast o t c) = omega arith

pub expr_starts : (t : Tree) → IsTree t → (rest : Symbols) → front_is begins_expr (spelled t ++ rest) ≡ true
expr_starts (Leaf s) is rest = rw is refl
expr_starts (Group o e c) is rest = refl
expr_starts (Behind e p) is rest = ap (front_is begins_expr) (append_assoc (spelled e) (spelled_post p) rest) ∙ expr_starts e is.0 (spelled_post p ++ rest)
expr_starts (Before (Sign s) e) is rest = prefix_begins s.kind is.0
expr_starts (Before (Sizeof k) e) is rest = refl
expr_starts (Before (Cast o t c) e) is rest = refl
expr_starts (Measure k o t c) is rest = refl
expr_starts (Join s a b) is rest = ap (front_is begins_expr) (append_assoc (spelled a) (s ∷ spelled b) rest) ∙ expr_starts a is.0 (s ∷ spelled b ++ rest)
expr_starts (Choose c q t k e) is rest =
    let more : Symbols = punct marks.Question q ∷ (spelled t ++ punct marks.Colon k ∷ spelled e) in
    ap (front_is begins_expr) (append_assoc (spelled c) more rest) ∙ expr_starts c is.0 (more ++ rest)
expr_starts (Assign a s b) is rest = ap (front_is begins_expr) (append_assoc (spelled a) (s ∷ spelled b) rest) ∙ expr_starts a is.0 (s ∷ spelled b ++ rest)

spec_starts : (s : SpecTree) → IsSpec s → (rest : Symbols) → front_is is_spec (spelled_spec s ++ rest) ≡ true
spec_starts (OneWord s) is rest = spec_word s.kind is
spec_starts (Tagged k n) is rest = refl
spec_starts (Body k tag o m ms c) is rest = refl
spec_starts (NamedType s) is rest = type_name_begins s.kind is
spec_starts (EnumTagged k n) is rest = refl
spec_starts (EnumBody k tag o e es last c) is rest = refl

pub type_starts : (t : TypeTree) → IsType t → (rest : Symbols) → front_is is_spec (spelled_type t ++ rest) ≡ true
type_starts (TypeOf (Specified s ss) ps) is rest =
    let more = spelled_more_specs ss in
    ap (front_is is_spec) (append_assoc (spelled_spec s ++ more) ps rest ∙ append_assoc (spelled_spec s) more (ps ++ rest)) ∙ spec_starts s is.0.0 (more ++ (ps ++ rest))

no_punct : (p : Punct) (toks : Symbols) → front_is (is_punct p) toks ≡ false → punct_at p toks ≡ None
unfolding punct_at
no_punct p [] h = refl
no_punct p (s ∷ toks) h = rw h refl

-- no expression begins as a type does, nor with a bracket that closes
pub no_type : (t : Tree) → IsTree t → (rest : Symbols) → specs_come (spelled t ++ rest) ≡ false
no_type t is rest = front_not is_spec (spelled t ++ rest) no_spec (expr_starts t is rest)

pub not_closed : (t : Tree) → IsTree t → (rest : Symbols) → punct_at marks.RightParenthesis (spelled t ++ rest) ≡ None
not_closed t is rest = no_punct marks.RightParenthesis (spelled t ++ rest) (front_not (is_punct marks.RightParenthesis) (spelled t ++ rest) no_closing (expr_starts t is rest))

pub not_sized : (t : Tree) → IsTree t → (rest : Symbols) → punct_at marks.RightBracket (spelled t ++ rest) ≡ None
not_sized t is rest = no_punct marks.RightBracket (spelled t ++ rest) (front_not (is_punct marks.RightBracket) (spelled t ++ rest) no_bracket (expr_starts t is rest))

-- what stands in brackets, and behind them
bracketed : (inside : Symbols) (s : Symbol) (rest : Symbols) → (inside ++ s ∷ []) ++ rest ≡ inside ++ s ∷ rest
bracketed inside s rest = append_assoc inside (s ∷ []) rest

-- what begins an operand without a prefix
pub operand_starts : (t : Tree) → is_postfix t ≡ true → IsTree t → (rest : Symbols) → (front_is begins_primary (spelled t ++ rest) ≡ true) × (type_opens (spelled t ++ rest) ≡ false)
unfolding type_opens
operand_starts (Leaf s) h is rest = (rw is refl, rw (leaf_opens s.kind is) refl)
operand_starts (Group o e c) h is rest = (refl, ap specs_come (bracketed (spelled e) (punct marks.RightParenthesis c) rest) ∙ no_type e is (punct marks.RightParenthesis c ∷ rest))
operand_starts (Behind e p) h is rest =
    let up = operand_starts e is.2 is.0 (spelled_post p ++ rest) in
    let split = append_assoc (spelled e) (spelled_post p) rest in
    (ap (front_is begins_primary) split ∙ up.0, ap type_opens split ∙ up.1)
operand_starts _ h is rest = absurd cc

-- a unary expression opens no type
pub unary_opens : (t : Tree) → is_unary t ≡ true → IsTree t → (rest : Symbols) → type_opens (spelled t ++ rest) ≡ false
unfolding type_opens
unary_opens (Leaf s) h is rest = (operand_starts (Leaf s) refl is rest).1
unary_opens (Group o e c) h is rest = (operand_starts (Group o e c) refl is rest).1
unary_opens (Behind e p) h is rest = (operand_starts (Behind e p) refl is rest).1
unary_opens (Before (Sign s) e) h is rest = rw (prefix_opens s.kind is.0) refl
unary_opens (Before (Sizeof k) e) h is rest = refl
unary_opens (Measure k o t c) h is rest = refl
unary_opens _ h is rest = absurd cc

-- ---- postfixes

post_reads : (n : ℕ) (inner : Inner) → CompleteInner n inner → (p : Post) → IsPost p → length (spelled_post p) ≤ suc n → (rest : Symbols) → post_by inner (spelled_post p ++ rest) ≡ Some (Some (p, rest))
unfolding post_by index_by call_by field_by punct_at symbol_at
post_reads n inner c (Index o e k) is le rest =
    let close : Symbols = punct marks.RightBracket k ∷ rest in
    let h = c.expr e (omega (arith, length-append (spelled e) (punct marks.RightBracket k ∷ []))) is close refl in
    ap (λ (l : Symbols). post_by inner (punct marks.LeftBracket o ∷ l)) (bracketed (spelled e) (punct marks.RightBracket k) rest) ∙ rw h refl
post_reads n inner c (CallBare o k) is le rest = refl
post_reads n inner c (Call o e k) is le rest =
    let close : Symbols = punct marks.RightParenthesis k ∷ rest in
    let h = c.expr e (omega (arith, length-append (spelled e) (punct marks.RightParenthesis k ∷ []))) is close refl in
    ap (λ (l : Symbols). post_by inner (punct marks.LeftParenthesis o ∷ l)) (bracketed (spelled e) (punct marks.RightParenthesis k) rest) ∙ rw (not_closed e is close, h) refl
post_reads n inner c (Field s m) is le rest = let d = field_only s.kind is.0 in rw (d.bracket, d.parenthesis, is.0, is.1) refl
post_reads n inner c (Step s) is le rest = let d = step_only s.kind is in rw (d.bracket, d.parenthesis, d.field, is) refl

post_none : (k : ℕ) (inner : Inner) (rest : Symbols) → Stops k rest → post_by inner rest ≡ Some None
unfolding post_by
post_none k inner [] h = refl
post_none k inner (s ∷ rest) h = let q = quiet k s.kind h in rw (q.bracket, q.parenthesis, q.field, q.step) refl

leaf_reads : (inner : Inner) (s : Symbol) (rest : Symbols) → is_leaf s.kind ≡ true → primary_by inner (s ∷ rest) ≡ Some (Leaf s, rest)
unfolding primary_by
leaf_reads inner s rest h = rw h refl

group_reads : (n : ℕ) (inner : Inner) → CompleteInner n inner → (o : ℕ) (e : Tree) (k : ℕ) → IsTree e → length (spelled e) ≤ n → (rest : Symbols) → primary_by inner (spelled (Group o e k) ++ rest) ≡ Some (Group o e k, rest)
unfolding primary_by group_by punct_at
group_reads n inner c o e k is le rest =
    let close : Symbols = punct marks.RightParenthesis k ∷ rest in
    let h = c.expr e le is close refl in
    ap (λ (l : Symbols). primary_by inner (punct marks.LeftParenthesis o ∷ l)) (bracketed (spelled e) (punct marks.RightParenthesis k) rest) ∙ rw h refl

pub post_spine : (n : ℕ) (inner : Inner) → CompleteInner n inner → (t : Tree) → is_postfix t ≡ true → IsTree t → length (spelled t) ≤ suc n → (rest : Symbols) → Chained posted (primary_by inner) (post_by inner) (spelled t ++ rest) t rest
post_spine n inner c (Leaf s) h is le rest = first posted (primary_by inner) (post_by inner) (s ∷ rest) (Leaf s) rest (leaf_reads inner s rest is)
post_spine n inner c (Group o e k) h is le rest = first posted (primary_by inner) (post_by inner) (spelled (Group o e k) ++ rest) (Group o e k) rest (group_reads n inner c o e k is (omega (arith, length-append (spelled e) (punct marks.RightParenthesis k ∷ []))) rest)
post_spine n inner c (Behind e p) h is le rest =
    let size = length-append (spelled e) (spelled_post p) in
    let up = post_spine n inner c e is.2 is.0 (omega arith) (spelled_post p ++ rest) in
    let one = post_reads n inner c p is.1 (omega arith) rest in
    subst (λ (l : Symbols). Chained posted (primary_by inner) (post_by inner) l (Behind e p) rest) (sym (append_assoc (spelled e) (spelled_post p) rest))
    (further posted (primary_by inner) (post_by inner) (spelled e ++ (spelled_post p ++ rest)) e (Behind e p) p (spelled_post p ++ rest) rest (λ l. refl) up one (omega (arith, length-append (spelled_post p) rest, post_has_token p)))
post_spine n inner c _ h is le rest = absurd cc

pub postfix_reads : (n : ℕ) (inner : Inner) → CompleteInner n inner → (t : Tree) → is_postfix t ≡ true → IsTree t → length (spelled t) ≤ suc n → (rest : Symbols) → Stops 0 rest → postfix_by inner (spelled t ++ rest) ≡ Some (t, rest)
unfolding postfix_by
postfix_reads n inner c t h is le rest s = ends posted (primary_by inner) (post_by inner) (spelled t ++ rest) t rest refl (post_spine n inner c t h is le rest) (post_none 0 inner rest s)

-- ---- prefixes

no_measure : (toks : Symbols) → front_is begins_primary toks ≡ true → key_at words.Sizeof toks ≡ None
unfolding key_at
no_measure [] h = refl
no_measure (s ∷ toks) h = let p = primary s.kind h in rw p.measure refl

no_prefix : (inner : Inner) (toks : Symbols) → front_is begins_primary toks ≡ true → type_opens toks ≡ false → prefix_by inner toks ≡ Some None
unfolding prefix_by
no_prefix inner [] h e = refl
no_prefix inner (s ∷ toks) h e = let p = primary s.kind h in rw (p.prefix, p.measure, e) refl

-- a type in brackets
type_reads : (n : ℕ) (inner : Inner) → CompleteInner n inner → (o : ℕ) (t : TypeTree) (k : ℕ) → IsType t → length (spelled_type t) ≤ n → (rest : Symbols) → bracketed_by inner (punct marks.LeftParenthesis o ∷ (spelled_type t ++ punct marks.RightParenthesis k ∷ rest)) ≡ Some ((o, t, k), rest)
unfolding bracketed_by punct_at
type_reads n inner c o t k is le rest = let h = c.type_name t le is (punct marks.RightParenthesis k ∷ rest) (refl, refl) in rw h refl

opens_type : (o : ℕ) (t : TypeTree) → IsType t → (rest : Symbols) → type_opens (punct marks.LeftParenthesis o ∷ (spelled_type t ++ rest)) ≡ true
unfolding type_opens
opens_type o t is rest = type_starts t is rest

steps_fit : (step unary opens : Bool) → (if step then unary else true) ≡ true → (unary ≡ true → opens ≡ false) → (step && opens) ≡ false
steps_fit true unary opens h none = none h
steps_fit false unary opens h none = refl

prefix_reads : (n : ℕ) (inner : Inner) → CompleteInner n inner → (p : Pre) (e : Tree) → IsPre p → IsTree e → may_follow p e ≡ true → length (spelled_pre p) ≤ suc n → (rest : Symbols) → prefix_by inner (spelled_pre p ++ (spelled e ++ rest)) ≡ Some (Some (p, spelled e ++ rest))
unfolding prefix_by cast_by
prefix_reads n inner c (Sign s) e is ise h le rest = rw (is, steps_fit (is_step s.kind) (is_unary e) (type_opens (spelled e ++ rest)) h (λ u. unary_opens e u ise rest)) refl
prefix_reads n inner c (Sizeof k) e is ise h le rest = rw (unary_opens e h ise rest) refl
prefix_reads n inner c (Cast o t k) e is ise h le rest =
    let more = spelled e ++ rest in
    ap (λ (l : Symbols). prefix_by inner (punct marks.LeftParenthesis o ∷ l)) (bracketed (spelled_type t) (punct marks.RightParenthesis k) more)
    ∙ rw (opens_type o t is (punct marks.RightParenthesis k ∷ more), type_reads n inner c o t k is (omega (arith, length-append (spelled_type t) (punct marks.RightParenthesis k ∷ []))) more) refl

-- an operand behind at most m prefixes
abbrev pub unary_in : Inner → ℕ → Reader Tree
unary_in inner m toks = do
  ps ← collect (prefix_by inner) m toks
  e ← operand_by inner ps.1
  Some (prefixed ps.0 e.0, e.1)

bare_reads : (inner : Inner) (m : ℕ) (toks : Symbols) (t : Tree) (rest : Symbols) → prefix_by inner toks ≡ Some None → operand_by inner toks ≡ Some (t, rest) → unary_in inner m toks ≡ Some (t, rest)
bare_reads inner m toks t rest none h = rw (collect_stops (prefix_by inner) m toks none, h) refl

-- one prefix more
abbrev Pres : Type 0
Pres = List Pre × Symbols

abbrev Whole : Type 0
Whole = Option (Tree × Symbols)

abbrev wrapped : List Pre → Tree × Symbols → Whole
wrapped ps x = Some (prefixed ps x.0, x.1)

abbrev with_operand : Inner → Pres → Whole
with_operand inner ps = operand_by inner ps.1 >>= wrapped ps.0

abbrev put_before : Pre → Pres → Option Pres
put_before p ps = Some (p ∷ ps.0, ps.1)

abbrev set_before : Pre → Tree × Symbols → Whole
set_before p x = Some (Before p x.0, x.1)

operand_more : (p : Pre) (ps : List Pre) (r : Whole) (e : Tree) (rest : Symbols) → (r >>= wrapped ps) ≡ Some (e, rest) → (r >>= wrapped (p ∷ ps)) ≡ Some (Before p e, rest)
operand_more p ps None e rest h = absurd cc
operand_more p ps (Some x) e rest h = ap (λ (r : Whole). r >>= set_before p) h

prefixes_more : (inner : Inner) (p : Pre) (r : Option Pres) (e : Tree) (rest : Symbols) → (r >>= with_operand inner) ≡ Some (e, rest) → ((r >>= put_before p) >>= with_operand inner) ≡ Some (Before p e, rest)
prefixes_more inner p None e rest h = absurd cc
prefixes_more inner p (Some ps) e rest h = operand_more p ps.0 (operand_by inner ps.1) e rest h

prefix_more : (inner : Inner) (m : ℕ) (p : Pre) (toks more : Symbols) (e : Tree) (rest : Symbols) → prefix_by inner toks ≡ Some (Some (p, more)) → unary_in inner m more ≡ Some (e, rest) → unary_in inner (suc m) toks ≡ Some (Before p e, rest)
unfolding collect
prefix_more inner m p toks more e rest one h = rw one (prefixes_more inner p (collect (prefix_by inner) m more) e rest h)

plain_reads : (n : ℕ) (inner : Inner) → CompleteInner n inner → (t : Tree) → is_postfix t ≡ true → IsTree t → length (spelled t) ≤ suc n → (rest : Symbols) → Stops 0 rest → (m : ℕ) → unary_in inner m (spelled t ++ rest) ≡ Some (t, rest)
unfolding operand_by
plain_reads n inner c t h is le rest s m =
    let front = operand_starts t h is rest in
    bare_reads inner m (spelled t ++ rest) t rest (no_prefix inner (spelled t ++ rest) front.0 front.1) (rw (no_measure (spelled t ++ rest) front.0) (postfix_reads n inner c t h is le rest s))

measure_reads : (n : ℕ) (inner : Inner) → CompleteInner n inner → (k o : ℕ) (t : TypeTree) (l : ℕ) → IsType t → length (spelled_type t) ≤ n → (rest : Symbols) (m : ℕ) → unary_in inner m (spelled (Measure k o t l) ++ rest) ≡ Some (Measure k o t l, rest)
unfolding operand_by prefix_by key_at
measure_reads n inner c k o t l is le rest m =
    let inside : Symbols = punct marks.LeftParenthesis o ∷ (spelled_type t ++ punct marks.RightParenthesis l ∷ rest) in
    ap (λ (u : Symbols). unary_in inner m (key words.Sizeof k ∷ punct marks.LeftParenthesis o ∷ u)) (bracketed (spelled_type t) (punct marks.RightParenthesis l) rest)
    ∙ bare_reads inner m (key words.Sizeof k ∷ inside) (Measure k o t l) rest (rw (opens_type o t is (punct marks.RightParenthesis l ∷ rest)) refl) (rw (type_reads n inner c o t l is le rest) refl)

unary_in_reads : (n : ℕ) (inner : Inner) → CompleteInner n inner → (t : Tree) → rank t ≡ 0 → IsTree t → length (spelled t) ≤ suc n → (rest : Symbols) → Stops 0 rest → (m : ℕ) → length (spelled t) ≤ m → unary_in inner m (spelled t ++ rest) ≡ Some (t, rest)
unary_in_reads n inner c (Before p e) r is le rest s zero lt = absurd (omega (arith, has_token (Before p e)))
unary_in_reads n inner c (Before p e) r is le rest s (suc m) lt =
    let size = length-append (spelled_pre p) (spelled e) in
    let up = unary_in_reads n inner c e is.2 is.1 (omega arith) rest s m (omega (arith, pre_has_token p)) in
    ap (unary_in inner (suc m)) (append_assoc (spelled_pre p) (spelled e) rest)
    ∙ prefix_more inner m p (spelled_pre p ++ (spelled e ++ rest)) (spelled e ++ rest) e rest (prefix_reads n inner c p e is.0 is.1 is.3 (omega arith) rest) up
unary_in_reads n inner c (Leaf s) r is le rest st m lt = plain_reads n inner c (Leaf s) refl is le rest st m
unary_in_reads n inner c (Group o e k) r is le rest st m lt = plain_reads n inner c (Group o e k) refl is le rest st m
unary_in_reads n inner c (Behind e p) r is le rest st m lt = plain_reads n inner c (Behind e p) refl is le rest st m
unary_in_reads n inner c (Measure k o t l) r is le rest st m lt = measure_reads n inner c k o t l is (omega (arith, length-append (spelled_type t) (punct marks.RightParenthesis l ∷ []))) rest m
unary_in_reads n inner c (Join s a b) r is le rest st m lt = let pos = is.2 in absurd (omega arith)
unary_in_reads n inner c (Choose q k t l e) r is le rest st m lt = absurd (omega arith)
unary_in_reads n inner c (Assign a s b) r is le rest st m lt = absurd (omega arith)

-- a tree that is an operand with its prefixes
pub unary_reads : (n : ℕ) (inner : Inner) → CompleteInner n inner → (t : Tree) → rank t ≡ 0 → IsTree t → length (spelled t) ≤ suc n → (rest : Symbols) → Stops 0 rest → unary_by inner (spelled t ++ rest) ≡ Some (t, rest)
unfolding unary_by
unary_reads n inner c t r is le rest s = unary_in_reads n inner c t r is le rest s (length (spelled t ++ rest)) (omega (arith, length-append (spelled t) rest))
