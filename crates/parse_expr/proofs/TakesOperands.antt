-- What is read as an operand, with prefixes and postfixes, is a tree.
use Rattle.std.proofs.Common.{◌≡◌, ℕ, zero, suc, Bool, true, false, ◌&&◌, if◌then◌else◌, List, [], ◌∷◌, ◌++◌, length, Some, None, refl, sym, ap, subst, ◌∙◌, append_assoc, append-nil}
use Rattle.std.proofs.lemmas.Option.{same_Some}
use Rattle.c_token.specs.declared.token.Keyword.TheVariants as words
use Rattle.c_token.specs.declared.token.Punct.TheVariants as marks
use Rattle.c_nodes.specs.Words.{Symbol, Symbols, punct}
use Rattle.c_nodes.specs.Kinds.{is_punct, is_key, is_name, is_leaf, is_prefix, is_step, is_field}
use Rattle.c_nodes.specs.Trees.{Tree, Leaf, Group, Behind, Before, Measure, Post, Index, CallBare, Call, Field, Step, Pre, Sign, Sizeof, Cast, TypeTree, spelled, spelled_post, spelled_pre, spelled_type, rank, is_postfix, is_unary, is_cast, may_follow, IsTree, IsPost, IsPre, IsType}
use Rattle.c_nodes.specs.Lists.{posted, prefixed}
use Rattle.parse_expr.specs.Reader.{punct_at, key_at, type_opens, collect_on, collect, all_that}
use Rattle.parse_expr.specs.Reading.{Inner, group_by, primary_by, index_by, call_on, call_by, field_by, post_by, postfix_by, bracketed_by, cast_by, prefix_by, operand_on, operand_by, unary_by}
use Rattle.parse_expr.proofs.Knots.{ArePlain, Takes, Sound, SoundStep, SoundInner}
use Rattle.parse_expr.proofs.Plain.{punct_is, key_is}
use Rattle.parse_expr.proofs.TakesLists.{join, splits_as, part, one, taken_as, weaken, take, bind_ok, sound_then, cases_if, cases_option, got_ok, symbol_takes, punct_takes, key_takes, Each, spelled_all, all_take}

-- ---- a primary expression and its postfixes

abbrev pub IsPostfix : Tree → Type 0
IsPostfix e = IsTree e × (is_postfix e ≡ true)

group_takes : (inner : Inner) → SoundInner inner → Sound spelled IsPostfix (group_by inner)
unfolding group_by
group_takes inner sound toks plain x e =
    let o = sound_then (punct_takes marks.LeftParenthesis) toks plain _ x e in
    let m = sound_then sound.expr o.read.1 o.takes.plain _ x o.on in
    let c = sound_then (punct_takes marks.RightParenthesis) m.read.1 m.takes.plain _ x m.on in
    take (Group o.read.0 m.read.0 c.read.0) (join (part o.takes) (join (part m.takes) (part c.takes))) (m.takes.tree, refl) c.takes.plain c.on

primary_takes : (inner : Inner) → SoundInner inner → Sound spelled IsPostfix (primary_by inner)
unfolding primary_by
primary_takes inner sound [] plain x e = absurd cc
primary_takes inner sound (s ∷ rest) plain x e = cases_if (is_leaf s.kind) (Some (Leaf s, rest)) (group_by inner (s ∷ rest)) (Some x)
    (λ is e2. take (Leaf s) (record { is = refl }) (is, refl) plain.1 e2)
    (λ is e2. group_takes inner sound (s ∷ rest) plain x e2) e

index_takes : (inner : Inner) → SoundInner inner → (o : ℕ) (toks : Symbols) → ArePlain toks → (x : _) → index_by inner o toks ≡ Some x → Takes spelled_post IsPost (punct marks.LeftBracket o ∷ toks) x
unfolding index_by
index_takes inner sound o toks plain x e =
    let m = sound_then sound.expr toks plain _ x e in
    let c = sound_then (punct_takes marks.RightBracket) m.read.1 m.takes.plain _ x m.on in
    take (Index o m.read.0 c.read.0) (join (one (punct marks.LeftBracket o) toks) (join (part m.takes) (part c.takes))) m.takes.tree c.takes.plain c.on

call_takes : (inner : Inner) → SoundInner inner → (o : ℕ) (toks : Symbols) → ArePlain toks → (x : _) → call_by inner o toks ≡ Some x → Takes spelled_post IsPost (punct marks.LeftParenthesis o ∷ toks) x
unfolding call_by
call_takes inner sound o toks plain x e = cases_option (punct_at marks.RightParenthesis toks) (call_on inner o toks) (Some x)
    (λ z is e2.
    let c = punct_takes marks.RightParenthesis toks plain z is in
    take (CallBare o z.0) (join (one (punct marks.LeftParenthesis o) toks) (part c)) tt c.plain e2)
    (λ is e2.
    let m = sound_then sound.expr toks plain _ x e2 in
    let c = sound_then (punct_takes marks.RightParenthesis) m.read.1 m.takes.plain _ x m.on in
    take (Call o m.read.0 c.read.0) (join (one (punct marks.LeftParenthesis o) toks) (join (part m.takes) (part c.takes))) m.takes.tree c.takes.plain c.on) e

field_takes : (s : Symbol) → is_field s.kind ≡ true → (toks : Symbols) → ArePlain toks → (x : _) → field_by s toks ≡ Some x → Takes spelled_post IsPost (s ∷ toks) x
unfolding field_by
field_takes s is toks plain x e =
    let n = sound_then (symbol_takes is_name) toks plain _ x e in
    take (Field s n.read.0) (join (one s toks) (part n.takes)) (is, n.takes.tree) n.takes.plain n.on

post_takes : (inner : Inner) → SoundInner inner → SoundStep spelled_post IsPost (post_by inner)
unfolding post_by
post_takes inner sound [] plain x e = absurd cc
post_takes inner sound (s ∷ rest) plain x e = cases_if (is_punct marks.LeftBracket s.kind) _ _ (Some (Some x))
    (λ is e2. taken_as s (punct marks.LeftBracket s.line) rest (punct_is marks.LeftBracket s plain.0 is) (index_takes inner sound s.line rest plain.1 x (got_ok (index_by inner s.line rest) x e2)))
    (λ is e2. cases_if (is_punct marks.LeftParenthesis s.kind) _ _ (Some (Some x))
    (λ is e3. taken_as s (punct marks.LeftParenthesis s.line) rest (punct_is marks.LeftParenthesis s plain.0 is) (call_takes inner sound s.line rest plain.1 x (got_ok (call_by inner s.line rest) x e3)))
    (λ is e3. cases_if (is_field s.kind) _ _ (Some (Some x))
    (λ is e4. field_takes s is rest plain.1 x (got_ok (field_by s rest) x e4))
    (λ is e4. cases_if (is_step s.kind) _ _ (Some (Some x))
    (λ is e5. take (Step s) (one s rest) is plain.1 (same_Some _ _ e5))
    (λ is e5. absurd cc) e4) e3) e2) e

posted_spelled : (e : Tree) (ps : List Post) → spelled (posted e ps) ≡ spelled e ++ spelled_all spelled_post ps
posted_spelled e [] = sym (append-nil (spelled e))
posted_spelled e (p ∷ ps) = posted_spelled (Behind e p) ps ∙ append_assoc (spelled e) (spelled_post p) (spelled_all spelled_post ps)

posted_is : (e : Tree) (ps : List Post) → IsPostfix e → Each IsPost ps → IsPostfix (posted e ps)
posted_is e [] is each = is
posted_is e (p ∷ ps) is each = posted_is (Behind e p) ps ((is.0, each.0, is.1), refl) each.1

postfix_takes : (inner : Inner) → SoundInner inner → Sound spelled IsPostfix (postfix_by inner)
unfolding postfix_by
postfix_takes inner sound toks plain x e =
    let a = sound_then (primary_takes inner sound) toks plain _ x e in
    let ps = sound_then (all_take spelled_post IsPost (post_by inner) (post_takes inner sound)) a.read.1 a.takes.plain _ x a.on in
    take (posted a.read.0 ps.read.0) (splits_as (join (part a.takes) (part ps.takes)) (posted_spelled a.read.0 ps.read.0)) (posted_is a.read.0 ps.read.0 a.takes.tree ps.takes.tree) ps.takes.plain ps.on

-- ---- prefixes

abbrev spelled_bracketed : ℕ × TypeTree × ℕ → Symbols
spelled_bracketed b = punct marks.LeftParenthesis b.0 ∷ (spelled_type b.1 ++ punct marks.RightParenthesis b.2 ∷ [])

bracketed_takes : (inner : Inner) → SoundInner inner → Sound spelled_bracketed (λ b. IsType b.1) (bracketed_by inner)
unfolding bracketed_by
bracketed_takes inner sound toks plain x e =
    let o = sound_then (punct_takes marks.LeftParenthesis) toks plain _ x e in
    let m = sound_then sound.type_name o.read.1 o.takes.plain _ x o.on in
    let c = sound_then (punct_takes marks.RightParenthesis) m.read.1 m.takes.plain _ x m.on in
    take (o.read.0, m.read.0, c.read.0) (join (part o.takes) (join (part m.takes) (part c.takes))) m.takes.tree c.takes.plain c.on

-- whether only a unary expression may follow
abbrev needs_unary : Pre → Bool
needs_unary (Sign s) = is_step s.kind
needs_unary (Sizeof k) = true
needs_unary (Cast o t c) = false

if_true : (b c : Bool) → (b ≡ true → c ≡ true) → (if b then c else true) ≡ true
if_true true c h = h refl
if_true false c h = refl

may_follow_it : (p : Pre) (e : Tree) → (needs_unary p ≡ true → is_unary e ≡ true) → may_follow p e ≡ true
may_follow_it (Sign s) e h = if_true (is_step s.kind) (is_unary e) h
may_follow_it (Sizeof k) e h = h refl
may_follow_it (Cast o t c) e h = refl

-- a prefix, what told a cast, and what told that none comes behind it
record TakesPrefix (toks : Symbols) (x : Pre × Symbols) : Type 0 where
  takes : Takes spelled_pre IsPre toks x
  opens : is_cast x.0 ≡ true → type_opens toks ≡ true
  before : needs_unary x.0 ≡ true → type_opens x.1 ≡ false

second_false : (b c : Bool) → (b && c) ≡ false → b ≡ true → c ≡ false
second_false true c h is = h
second_false false c h is = absurd cc

cast_takes : (inner : Inner) → SoundInner inner → (toks : Symbols) → ArePlain toks → (x : _) → type_opens toks ≡ true → cast_by inner toks ≡ Some x → TakesPrefix toks x
unfolding cast_by
cast_takes inner sound toks plain x opens e =
    let b = sound_then (bracketed_takes inner sound) toks plain _ x e in
    let made : Pre × Symbols = (Cast b.read.0.0 b.read.0.1 b.read.0.2, b.read.1) in
    subst (TakesPrefix toks) (same_Some made x b.on) (record { takes = record { parts = b.takes.parts; tree = b.takes.tree; plain = b.takes.plain }; opens = λ is. opens; before = λ needs. absurd cc })

sign_takes : (s : Symbol) (rest : Symbols) → ArePlain (s ∷ rest) → (x : Pre × Symbols) → is_prefix s.kind ≡ true → (if is_step s.kind && type_opens rest then None else Some (Some (Sign s, rest))) ≡ Some (Some x) → TakesPrefix (s ∷ rest) x
sign_takes s rest plain x prefix e = cases_if (is_step s.kind && type_opens rest) _ _ (Some (Some x))
    (λ is e2. absurd cc)
    (λ is e2.
    let made : Pre × Symbols = (Sign s, rest) in
    subst (TakesPrefix (s ∷ rest)) (same_Some made x (same_Some (Some made) (Some x) e2)) (record { takes = record { parts = refl; tree = prefix; plain = plain.1 }; opens = λ cast. absurd cc; before = λ needs. second_false (is_step s.kind) (type_opens rest) is needs })) e

sizeof_takes : (s : Symbol) (rest : Symbols) → ArePlain (s ∷ rest) → (x : Pre × Symbols) → is_key words.Sizeof s.kind ≡ true → (if type_opens rest then Some None else Some (Some (Sizeof s.line, rest))) ≡ Some (Some x) → TakesPrefix (s ∷ rest) x
sizeof_takes s rest plain x is e = cases_if (type_opens rest) _ _ (Some (Some x))
    (λ opens e2. absurd cc)
    (λ opens e2.
    let made : Pre × Symbols = (Sizeof s.line, rest) in
    subst (TakesPrefix (s ∷ rest)) (same_Some made x (same_Some (Some made) (Some x) e2)) (record { takes = record { parts = ap (λ (t : Symbol). t ∷ rest) (key_is words.Sizeof s plain.0 is); tree = tt; plain = plain.1 }; opens = λ cast. absurd cc; before = λ needs. opens })) e

prefix_takes : (inner : Inner) → SoundInner inner → (toks : Symbols) → ArePlain toks → (x : _) → prefix_by inner toks ≡ Some (Some x) → TakesPrefix toks x
unfolding prefix_by
prefix_takes inner sound [] plain x e = absurd cc
prefix_takes inner sound (s ∷ rest) plain x e = cases_if (is_prefix s.kind) _ _ (Some (Some x))
    (λ is e2. sign_takes s rest plain x is e2)
    (λ is e2. cases_if (is_key words.Sizeof s.kind) _ _ (Some (Some x))
    (λ is e3. sizeof_takes s rest plain x is e3)
    (λ is e3. cases_if (type_opens (s ∷ rest)) _ _ (Some (Some x))
    (λ is e4. cast_takes inner sound (s ∷ rest) plain x is (got_ok (cast_by inner (s ∷ rest)) x e4))
    (λ is e4. absurd cc) e3) e2) e

-- ---- lists of prefixes

abbrev starts_cast : List Pre → Bool
starts_cast [] = false
starts_cast (p ∷ ps) = is_cast p

record Prefixed (ps : List Pre) (e : Tree) : Type 0 where
  tree : IsTree (prefixed ps e)
  rank : rank (prefixed ps e) ≡ 0
  unary : starts_cast ps ≡ false → is_unary (prefixed ps e) ≡ true

-- an operand: with no prefix, or with prefixes
abbrev pub IsOperand : Tree → Type 0
IsOperand e = IsTree e × (rank e ≡ 0)

abbrev IsBare : Tree → Type 0
IsBare e = IsTree e × (rank e ≡ 0) × (is_unary e ≡ true)

abbrev ArePrefixes : List Pre → Type 0
ArePrefixes ps = (e : Tree) → IsBare e → Prefixed ps e

record TakesPrefixes (toks : Symbols) (x : List Pre × Symbols) : Type 0 where
  takes : Takes (spelled_all spelled_pre) ArePrefixes toks x
  opens : starts_cast x.0 ≡ true → type_opens toks ≡ true

not_true : (b c : Bool) → (b ≡ true → c ≡ true) → c ≡ false → b ≡ false
not_true true c h is = absurd (let k : c ≡ true = h refl in cc)
not_true false c h is = refl

unary_unless_cast : (p : Pre) (e : Tree) → is_cast p ≡ false → is_unary (Before p e) ≡ true
unary_unless_cast (Sign s) e h = refl
unary_unless_cast (Sizeof k) e h = refl
unary_unless_cast (Cast o t c) e h = absurd cc

no_prefixes : (toks : Symbols) → ArePlain toks → (x : List Pre × Symbols) → Some ([], toks) ≡ Some x → TakesPrefixes toks x
no_prefixes toks plain x e =
    let made : List Pre × Symbols = ([], toks) in
    subst (TakesPrefixes toks) (same_Some made x e) (record { takes = record { parts = refl; tree = λ e is. record { tree = is.0; rank = is.1; unary = λ h. is.2 }; plain = plain }; opens = λ h. absurd cc })

one_prefix_more : (toks : Symbols) (z : Pre × Symbols) (l x : List Pre × Symbols) → TakesPrefix toks z → TakesPrefixes z.1 l → Some (z.0 ∷ l.0, l.1) ≡ Some x → TakesPrefixes toks x
one_prefix_more toks z l x t more e =
    let made : List Pre × Symbols = (z.0 ∷ l.0, l.1) in
    let are : ArePrefixes (z.0 ∷ l.0) = λ e is.
    let b = more.takes.tree e is in
    let may = may_follow_it z.0 (prefixed l.0 e) (λ needs. b.unary (not_true (starts_cast l.0) (type_opens z.1) more.opens (t.before needs))) in
    record { tree = (t.takes.tree, b.tree, b.rank, may); rank = refl; unary = unary_unless_cast z.0 (prefixed l.0 e) } in
    subst (TakesPrefixes toks) (same_Some made x e) (record { takes = record { parts = (join (part t.takes) (part more.takes)).is; tree = are; plain = more.takes.plain }; opens = t.opens })

collect_prefixes : (inner : Inner) → SoundInner inner → (n : ℕ) (toks : Symbols) → ArePlain toks → (x : _) → collect (prefix_by inner) n toks ≡ Some x → TakesPrefixes toks x
unfolding collect
collect_prefixes inner sound zero toks plain x e = no_prefixes toks plain x e
collect_prefixes inner sound (suc n) toks plain x e =
    let a = bind_ok (prefix_by inner toks) (collect_on (collect (prefix_by inner) n) toks) x e in
    cases_option a.0 (collect_on (collect (prefix_by inner) n) toks) (Some x)
    (λ z is e2.
    let t = prefix_takes inner sound toks plain z (a.1 ∙ ap (λ o. Some o) is) in
    let l = bind_ok (collect (prefix_by inner) n z.1) _ x e2 in
    one_prefix_more toks z l.0 x t (collect_prefixes inner sound n z.1 t.takes.plain l.0 l.1) l.2)
    (λ is e2. no_prefixes toks plain x e2) a.2

prefixes_take : (inner : Inner) → SoundInner inner → Sound (spelled_all spelled_pre) ArePrefixes (all_that (prefix_by inner))
prefixes_take inner sound toks plain x e = let t = collect_prefixes inner sound (length toks) toks plain x e in t.takes

-- ---- operands

postfix_is_bare : (e : Tree) → is_postfix e ≡ true → (rank e ≡ 0) × (is_unary e ≡ true)
postfix_is_bare (Leaf s) h = (refl, refl)
postfix_is_bare (Group o e c) h = (refl, refl)
postfix_is_bare (Behind e p) h = (refl, refl)
postfix_is_bare _ h = absurd cc

bare_takes : (inner : Inner) → SoundInner inner → Sound spelled IsBare (operand_by inner)
unfolding operand_by
bare_takes inner sound toks plain x e = cases_option (key_at words.Sizeof toks) (operand_on inner toks) (Some x)
    (λ k is e2.
    let t = key_takes words.Sizeof toks plain k is in
    let b = sound_then (bracketed_takes inner sound) k.1 t.plain _ x e2 in
    take (Measure k.0 b.read.0.0 b.read.0.1 b.read.0.2) (join (part t) (part b.takes)) (b.takes.tree, refl, refl) b.takes.plain b.on)
    (λ is e2. weaken (λ is. let b = postfix_is_bare x.0 is.1 in (is.0, b.0, b.1)) (postfix_takes inner sound toks plain x e2)) e

prefixed_spelled : (ps : List Pre) (e : Tree) → spelled (prefixed ps e) ≡ spelled_all spelled_pre ps ++ spelled e
prefixed_spelled [] e = refl
prefixed_spelled (p ∷ ps) e = ap (λ (l : Symbols). spelled_pre p ++ l) (prefixed_spelled ps e) ∙ sym (append_assoc (spelled_pre p) (spelled_all spelled_pre ps) (spelled e))

pub unary_by_takes : (inner : Inner) → SoundInner inner → Sound spelled IsOperand (unary_by inner)
unfolding unary_by
unary_by_takes inner sound toks plain x e =
    let ps = sound_then (prefixes_take inner sound) toks plain _ x e in
    let a = sound_then (bare_takes inner sound) ps.read.1 ps.takes.plain _ x ps.on in
    let p = ps.takes.tree a.read.0 a.takes.tree in
    take (prefixed ps.read.0 a.read.0) (splits_as (join (part ps.takes) (part a.takes)) (prefixed_spelled ps.read.0 a.read.0)) (p.tree, p.rank) a.takes.plain a.on
