-- What is read as an expression is a tree.
use Rattle.std.proofs.Common.{◌≡◌, ℕ, zero, suc, ◌<◌, ◌≤◌, true, ◌==◌, List, [], ◌∷◌, ◌++◌, length, Some, sym, ◌∙◌, append_assoc, append-nil, refl, false, arith}
use Rattle.std.proofs.lemmas.Bool.{eqb-true}
use Rattle.c_token.specs.declared.token.TokKind.{TokKind}
use Rattle.c_token.specs.declared.token.TokKind.TheVariants as kinds
use Rattle.c_token.specs.declared.token.Punct.TheVariants as marks
use Rattle.c_nodes.specs.Words.{Symbol, Symbols, punct}
use Rattle.c_nodes.specs.Kinds.{is_punct, level_of, is_assignment}
use Rattle.c_nodes.specs.Trees.{Tree, Join, Choose, Assign, spelled, rank, is_unary, IsTree}
use Rattle.c_nodes.specs.Lists.{joined, listed}
use Rattle.parse_expr.specs.Reader.{◌>>=◌, Reader, spells, punct_at}
use Rattle.parse_expr.specs.Reading.{Inner, right_by, tier_by, choose_on, choices, cond_by, target_at, assign_on, assigns, assign_by, comma_by, expr_by}
use Rattle.parse_expr.proofs.Knots.{Takes, Sound, SoundStep, SoundInner, IsCond, IsAssign}
use Rattle.parse_expr.proofs.Plain.{punct_is}
use Rattle.parse_expr.proofs.TakesLists.{join, splits_as, part, one, taken_as, weaken, take, sound_then, cases_if, cases_option, got_ok, symbol_takes, punct_takes, Nothing, Each, spelled_all, all_take}
use Rattle.parse_expr.proofs.TakesOperands.{unary_by_takes}

-- ---- the tiers of binary operators

-- a tree that binds no more loosely than k
abbrev pub AtMost : ℕ → Tree → Type 0
AtMost k t = IsTree t × (rank t ≤ k)

abbrev spelled_right : Symbol × Tree → Symbols
spelled_right b = b.0 ∷ spelled b.1

abbrev IsRight : ℕ → Symbol × Tree → Type 0
IsRight k b = (level_of b.0.kind ≡ k) × IsTree b.1 × (rank b.1 < k) × (b.0.bytes ≡ [])

-- an operator is no name and no text
level_spells : (k : TokKind) → 0 < level_of k → spells k ≡ false
level_spells (kinds.Punct p) h = refl
level_spells _ h = absurd (omega arith)

right_takes : (j : ℕ) (next : Reader Tree) → Sound spelled (AtMost j) next → SoundStep spelled_right (IsRight (suc j)) (right_by (suc j) next)
unfolding right_by
right_takes j next sound [] plain x e = absurd cc
right_takes j next sound (s ∷ rest) plain x e = cases_if (level_of s.kind == suc j) _ _ (Some (Some x))
    (λ is e2.
    let b = sound_then sound rest plain.1 _ x (got_ok (next rest >>= λ b. Some ((s, b.0), b.1)) x e2) in
    let tree = b.takes.tree in
    let level = eqb-true (level_of s.kind) (suc j) is in
    take (s, b.read.0) (join (one s rest) (part b.takes)) (level, tree.0, omega (arith, tree.1), plain.0 (level_spells s.kind (omega (arith, level)))) b.takes.plain b.on)
    (λ is e2. absurd cc) e

joined_spelled : (a : Tree) (bs : List (Symbol × Tree)) → spelled (joined a bs) ≡ spelled a ++ spelled_all spelled_right bs
joined_spelled a [] = sym (append-nil (spelled a))
joined_spelled a (b ∷ bs) = joined_spelled (Join b.0 a b.1) bs ∙ append_assoc (spelled a) (b.0 ∷ spelled b.1) (spelled_all spelled_right bs)

joined_is : (k : ℕ) → 0 < k → (a : Tree) (bs : List (Symbol × Tree)) → AtMost k a → Each (IsRight k) bs → AtMost k (joined a bs)
joined_is k some a [] is each = is
joined_is k some a (b ∷ bs) is each =
    let right = each.0 in
    let level = right.0 in
    joined_is k some (Join b.0 a b.1) bs ((is.0, right.1, omega (arith, level, some), omega (arith, level, is.1), omega (arith, level, right.2), right.3), omega (arith, level)) each.1

pub tier_by_takes : (inner : Inner) → SoundInner inner → (k : ℕ) → Sound spelled (AtMost k) (tier_by inner k)
unfolding tier_by
tier_by_takes inner sound zero toks plain x e = weaken (λ is. (is.0, omega (arith, is.1))) (unary_by_takes inner sound toks plain x e)
tier_by_takes inner sound (suc k) toks plain x e =
    let a = sound_then (tier_by_takes inner sound k) toks plain _ x e in
    let bs = sound_then (all_take spelled_right (IsRight (suc k)) (right_by (suc k) (tier_by inner k)) (right_takes k (tier_by inner k) (tier_by_takes inner sound k))) a.read.1 a.takes.plain _ x a.on in
    let tree = a.takes.tree in
    take (joined a.read.0 bs.read.0) (splits_as (join (part a.takes) (part bs.takes)) (joined_spelled a.read.0 bs.read.0)) (joined_is (suc k) (omega arith) a.read.0 bs.read.0 (tree.0, omega (arith, tree.1)) bs.takes.tree) bs.takes.plain bs.on

-- ---- choices

-- behind `?`
choose_takes : (inner : Inner) → SoundInner inner → (again : Reader Tree) → Sound spelled IsCond again → (toks : Symbols) (c : Tree × Symbols) → Takes spelled (AtMost 10) toks c → (q : ℕ × Symbols) → Takes (λ n. punct marks.Question n ∷ []) Nothing c.1 q → (x : Tree × Symbols) → choose_on inner again c.0 c.1 (Some q) ≡ Some x → Takes spelled IsCond toks x
choose_takes inner sound again more toks c first q mark x e =
    let t = sound_then sound.expr q.1 mark.plain _ x e in
    let k = sound_then (punct_takes marks.Colon) t.read.1 t.takes.plain _ x t.on in
    let l = sound_then more k.read.1 k.takes.plain _ x k.on in
    take (Choose c.0 q.0 t.read.0 k.read.0 l.read.0) (join (part first) (join (part mark) (join (part t.takes) (join (part k.takes) (part l.takes))))) ((first.tree.0, t.takes.tree, l.takes.tree.0, first.tree.1, l.takes.tree.1), omega arith) l.takes.plain l.on

choices_take : (inner : Inner) → SoundInner inner → (n : ℕ) → Sound spelled IsCond (choices inner n)
unfolding choices
choices_take inner sound zero toks plain x e = absurd cc
choices_take inner sound (suc n) toks plain x e =
    let c = sound_then (tier_by_takes inner sound 10) toks plain _ x e in
    let first = c.takes.tree in
    cases_option (punct_at marks.Question c.read.1) (choose_on inner (choices inner n) c.read.0 c.read.1) (Some x)
    (λ q is e2. choose_takes inner sound (choices inner n) (choices_take inner sound n) toks c.read c.takes q (punct_takes marks.Question c.read.1 c.takes.plain q is) x e2)
    (λ is e2. take c.read.0 (part c.takes) (first.0, omega (arith, first.1)) c.takes.plain e2) c.on

pub cond_by_takes : (inner : Inner) → SoundInner inner → Sound spelled IsCond (cond_by inner)
unfolding cond_by
cond_by_takes inner sound toks plain x e = choices_take inner sound (length toks) toks plain x e

-- ---- assignments

pub target_takes : (a : Tree) → Sound (λ s. s ∷ []) (λ s. (is_assignment s.kind ≡ true) × (is_unary a ≡ true)) (target_at a)
unfolding target_at
target_takes a toks plain x e = cases_if (is_unary a) _ _ (Some x)
    (λ is e2. weaken (λ sign. (sign, is)) (symbol_takes is_assignment toks plain x e2))
    (λ is e2. absurd cc) e

assigns_take : (inner : Inner) → SoundInner inner → (n : ℕ) → Sound spelled IsAssign (assigns inner n)
unfolding assigns
assigns_take inner sound zero toks plain x e = absurd cc
assigns_take inner sound (suc n) toks plain x e =
    let a = sound_then (cond_by_takes inner sound) toks plain _ x e in
    let left = a.takes.tree in
    cases_option (target_at a.read.0 a.read.1) (assign_on (assigns inner n) a.read.0 a.read.1) (Some x)
    (λ z is e2.
    let s = target_takes a.read.0 a.read.1 a.takes.plain z is in
    let b = sound_then (assigns_take inner sound n) z.1 s.plain _ x e2 in
    take (Assign a.read.0 z.0 b.read.0) (join (part a.takes) (join (part s) (part b.takes))) ((left.0, b.takes.tree.0, s.tree.0, s.tree.1, b.takes.tree.1), omega arith) b.takes.plain b.on)
    (λ is e2. take a.read.0 (part a.takes) (left.0, omega (arith, left.1)) a.takes.plain e2) a.on

pub assign_by_takes : (inner : Inner) → SoundInner inner → Sound spelled IsAssign (assign_by inner)
unfolding assign_by
assign_by_takes inner sound toks plain x e = assigns_take inner sound (length toks) toks plain x e

-- ---- commas

abbrev spelled_comma : ℕ × Tree → Symbols
spelled_comma b = punct marks.Comma b.0 ∷ spelled b.1

pub comma_takes : (inner : Inner) → SoundInner inner → SoundStep spelled_comma (λ b. IsAssign b.1) (comma_by inner)
unfolding comma_by
comma_takes inner sound [] plain x e = absurd cc
comma_takes inner sound (s ∷ rest) plain x e = cases_if (is_punct marks.Comma s.kind) _ _ (Some (Some x))
    (λ is e2.
    let b = sound_then (assign_by_takes inner sound) rest plain.1 _ x (got_ok (assign_by inner rest >>= λ b. Some ((s.line, b.0), b.1)) x e2) in
    taken_as s (punct marks.Comma s.line) rest (punct_is marks.Comma s plain.0 is)
    (take (s.line, b.read.0) (join (one (punct marks.Comma s.line) rest) (part b.takes)) b.takes.tree b.takes.plain b.on))
    (λ is e2. absurd cc) e

listed_spelled : (a : Tree) (bs : List (ℕ × Tree)) → spelled (listed a bs) ≡ spelled a ++ spelled_all spelled_comma bs
listed_spelled a [] = sym (append-nil (spelled a))
listed_spelled a (b ∷ bs) = listed_spelled (Join (punct marks.Comma b.0) a b.1) bs ∙ append_assoc (spelled a) (punct marks.Comma b.0 ∷ spelled b.1) (spelled_all spelled_comma bs)

listed_is : (a : Tree) (bs : List (ℕ × Tree)) → AtMost 13 a → Each (λ b. IsAssign b.1) bs → AtMost 13 (listed a bs)
listed_is a [] is each = is
listed_is a (b ∷ bs) is each =
    let right = each.0 in
    listed_is (Join (punct marks.Comma b.0) a b.1) bs ((is.0, right.0, omega arith, is.1, omega (arith, right.1), refl), omega arith) each.1

pub expr_by_takes : (inner : Inner) → SoundInner inner → Sound spelled IsTree (expr_by inner)
unfolding expr_by
expr_by_takes inner sound toks plain x e =
    let a = sound_then (assign_by_takes inner sound) toks plain _ x e in
    let bs = sound_then (all_take spelled_comma (λ b. IsAssign b.1) (comma_by inner) (comma_takes inner sound)) a.read.1 a.takes.plain _ x a.on in
    let tree = a.takes.tree in
    let whole = listed_is a.read.0 bs.read.0 (tree.0, omega (arith, tree.1)) bs.takes.tree in
    take (listed a.read.0 bs.read.0) (splits_as (join (part a.takes) (part bs.takes)) (listed_spelled a.read.0 bs.read.0)) whole.0 bs.takes.plain bs.on
