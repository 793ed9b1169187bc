-- The reader of an expression between `?` and `:`, step by step: behind each operand what is left to read is an expression
-- of which more was read, or what waits for it goes on.
use Rattle.std.proofs.Common.{◌≡◌, ℕ, true, List, [], ◌∷◌, ◌++◌, Option, Some, None, refl, sym, ap, ◌∙◌}
use Rattle.c_token.specs.declared.token.Punct.TheVariants as marks
use Rattle.c_nodes.specs.Words.{Symbol, Symbols, punct}
use Rattle.c_nodes.specs.Kinds.{is_punct}
use Rattle.c_nodes.specs.Trees.{Tree, Join, Choose, Assign}
use Rattle.c_nodes.specs.Lists.{ChoiceParts, assigned, chosen, listed}
use Rattle.parse_expr.specs.Reader.{◌>>=◌, Reader, punct_at, got, collect_on, all_that}
use Rattle.parse_expr.specs.Reading.{Inner, tier_by, choose_on, cond_by, target_at, assign_on, assign_by, comma_by, expr_by}
use Rattle.parse_expr.specs.Waiting.{FrontParts, no_front, behind_comma, others_by, value_by, front_by, with_choice}
use Rattle.parse_expr.proofs.Knots.{ArePlain, SoundInner}
use Rattle.parse_expr.proofs.Enough.{cond_step, assign_step, commas_step}

then_then : {A B C : Type 0} (r : Option A) (f : A → Option B) (g : B → Option C) → ((r >>= f) >>= g) ≡ (r >>= λ x. f x >>= g)
then_then (Some x) f g = refl
then_then None f g = refl

chosen_last : (cs : List ChoiceParts) (x : ChoiceParts) (e : Tree) → chosen (cs ++ x ∷ []) e ≡ chosen cs (Choose x.0 x.1 x.2 x.3 e)
chosen_last [] x e = refl
chosen_last (c ∷ cs) x e = ap (Choose c.0 c.1 c.2 c.3) (chosen_last cs x e)

assigned_last : (ts : List (Tree × Symbol)) (t : Tree × Symbol) (e : Tree) → assigned (ts ++ t ∷ []) e ≡ assigned ts (Assign t.0 t.1 e)
assigned_last [] t e = refl
assigned_last (u ∷ us) t e = ap (Assign u.0 u.1) (assigned_last us t e)

-- ---- assignments and what stands behind them

-- behind an assignment that begins here
assign_front : (inner : Inner) → SoundInner inner → (before : Option (Tree × ℕ)) (targets : List (Tree × Symbol)) (toks : Symbols) → ArePlain toks
    → (assign_by inner toks >>= λ a. others_by inner before (assigned targets a.0) a.1) ≡ front_by inner (record { before = before; targets = targets; choices = [] }) toks
unfolding front_by value_by
assign_front inner sound before targets toks plain =
    let rest : Tree × Symbols → Option (Tree × Symbols) = λ a. others_by inner before (assigned targets a.0) a.1 in
    ap (λ (r : Option (Tree × Symbols)). r >>= rest) (assign_step inner sound toks plain)
    ∙ then_then (cond_by inner toks) (λ c. assign_on (assign_by inner) c.0 c.1 (target_at c.0 c.1)) rest

-- an expression of which nothing was read
pub nothing_read : (inner : Inner) → SoundInner inner → (toks : Symbols) → ArePlain toks → front_by inner no_front toks ≡ expr_by inner toks
unfolding expr_by others_by
nothing_read inner sound toks plain = sym (assign_front inner sound None [] toks plain)

-- ---- `?`

-- the choice in front of what was read, the value in which it stands, and what follows a condition and its `?`
abbrev choosing : ChoiceParts → Option (Tree × Symbols) → Option (Tree × Symbols)
choosing x read = read >>= λ e. Some (Choose x.0 x.1 x.2 x.3 e.0, e.1)

abbrev valued : Inner → FrontParts → Option (Tree × Symbols) → Option (Tree × Symbols)
valued inner front read = read >>= λ c. value_by inner front (chosen front.choices c.0) c.1

abbrev behind_then : Inner → Tree → ℕ → Tree → Option (ℕ × Symbols) → Option (Tree × Symbols)
behind_then inner c q t colon = colon >>= λ k. choosing (c, q, t, k.0) (cond_by inner k.1)

abbrev behind_question : Inner → Tree → ℕ → Option (Tree × Symbols) → Option (Tree × Symbols)
behind_question inner c q middle = middle >>= λ t. behind_then inner c q t.0 (punct_at marks.Colon t.1)

chosen_front : (inner : Inner) (front : FrontParts) (x : ChoiceParts) (read : Option (Tree × Symbols)) → valued inner front (choosing x read) ≡ valued inner (with_choice front x) read
unfolding value_by
chosen_front inner front x None = refl
chosen_front inner front x (Some e) = ap (λ t. value_by inner front t e.1) (sym (chosen_last front.choices x e.0))

colon_front : (inner : Inner) (front : FrontParts) (c t : Tree) (q : ℕ) (colon : Option (ℕ × Symbols)) → valued inner front (behind_then inner c q t colon) ≡ (colon >>= λ k. front_by inner (with_choice front (c, q, t, k.0)) k.1)
unfolding front_by
colon_front inner front c t q None = refl
colon_front inner front c t q (Some k) = chosen_front inner front (c, q, t, k.0) (cond_by inner k.1)

then_front : (inner : Inner) (front : FrontParts) (c : Tree) (q : ℕ) (middle : Option (Tree × Symbols))
    → valued inner front (behind_question inner c q middle) ≡ (middle >>= λ t. punct_at marks.Colon t.1 >>= λ k. front_by inner (with_choice front (c, q, t.0, k.0)) k.1)
then_front inner front c q None = refl
then_front inner front c q (Some t) = colon_front inner front c t.0 q (punct_at marks.Colon t.1)

-- a condition and its `?`
pub question_read : (inner : Inner) → SoundInner inner → (front : FrontParts) (toks : Symbols) → ArePlain toks → (c : Tree) (after : Symbols) → tier_by inner 10 toks ≡ Some (c, after) → (q : ℕ × Symbols) → punct_at marks.Question after ≡ Some q
    → front_by inner front toks ≡ (inner.expr q.1 >>= λ t. punct_at marks.Colon t.1 >>= λ k. front_by inner (with_choice front (c, q.0, t.0, k.0)) k.1)
unfolding front_by
question_read inner sound front toks plain c after read q is =
    let one : cond_by inner toks ≡ choose_on inner (cond_by inner) c after (Some q) = cond_step inner sound toks plain ∙ rw (read, is) refl in
    ap (valued inner front) one ∙ then_front inner front c q.0 (inner.expr q.1)

-- a value
pub value_read : (inner : Inner) → SoundInner inner → (front : FrontParts) (toks : Symbols) → ArePlain toks → (c : Tree) (after : Symbols) → tier_by inner 10 toks ≡ Some (c, after) → punct_at marks.Question after ≡ None
    → front_by inner front toks ≡ value_by inner front (chosen front.choices c) after
unfolding front_by
value_read inner sound front toks plain c after read is =
    let one : cond_by inner toks ≡ Some (c, after) = cond_step inner sound toks plain ∙ rw (read, is) refl in
    ap (valued inner front) one

-- ---- behind a value

abbrev assigning : Tree → Symbol → Option (Tree × Symbols) → Option (Tree × Symbols)
assigning c s read = read >>= λ b. Some (Assign c s b.0, b.1)

assigned_on : (inner : Inner) (before : Option (Tree × ℕ)) (targets : List (Tree × Symbol)) (c : Tree) (s : Symbol) (read : Option (Tree × Symbols))
    → (assigning c s read >>= λ a. others_by inner before (assigned targets a.0) a.1) ≡ (read >>= λ a. others_by inner before (assigned (targets ++ (c, s) ∷ []) a.0) a.1)
assigned_on inner before targets c s None = refl
assigned_on inner before targets c s (Some b) = ap (λ t. others_by inner before t b.1) (sym (assigned_last targets (c, s) b.0))

-- it is assigned to
pub target_read : (inner : Inner) → SoundInner inner → (front : FrontParts) (c : Tree) (toks behind : Symbols) (s : Symbol) → ArePlain behind → target_at c toks ≡ Some (s, behind)
    → value_by inner front c toks ≡ front_by inner (record { before = front.before; targets = front.targets ++ (c, s) ∷ []; choices = [] }) behind
unfolding value_by
target_read inner sound front c toks behind s plain is =
    let one : value_by inner front c toks ≡ (assigning c s (assign_by inner behind) >>= λ a. others_by inner front.before (assigned front.targets a.0) a.1) = rw is refl in
    one ∙ assigned_on inner front.before front.targets c s (assign_by inner behind) ∙ assign_front inner sound front.before (front.targets ++ (c, s) ∷ []) behind plain

-- it is what is assigned
pub no_target : (inner : Inner) (front : FrontParts) (c : Tree) (toks : Symbols) → target_at c toks ≡ None → value_by inner front c toks ≡ others_by inner front.before (assigned front.targets c) toks
unfolding value_by
no_target inner front c toks is = rw is refl

abbrev listing : Tree → Option (List (ℕ × Tree) × Symbols) → Option (Tree × Symbols)
listing e read = read >>= λ bs. Some (listed e bs.0, bs.1)

abbrev fronted : ℕ × Tree → Option (List (ℕ × Tree) × Symbols) → Option (List (ℕ × Tree) × Symbols)
fronted x read = read >>= λ l. Some (x ∷ l.0, l.1)

abbrev numbered : ℕ → Option (Tree × Symbols) → Option ((ℕ × Tree) × Symbols)
numbered k read = read >>= λ b. Some ((k, b.0), b.1)

listed_then : (e : Tree) (x : ℕ × Tree) (l : Option (List (ℕ × Tree) × Symbols)) → listing e (fronted x l) ≡ listing (Join (punct marks.Comma x.0) e x.1) l
listed_then e x None = refl
listed_then e x (Some l) = refl

got_then : (again : Reader (List (ℕ × Tree))) (toks : Symbols) (k : ℕ) (read : Option (Tree × Symbols)) (e : Tree)
    → listing e (got (numbered k read) >>= λ x. collect_on again toks x) ≡ (read >>= λ b. listing (Join (punct marks.Comma k) e b.0) (again b.1))
got_then again toks k None e = refl
got_then again toks k (Some b) e = listed_then e (k, b.0) (again b.1)

-- a comma follows
pub comma_read : (inner : Inner) → SoundInner inner → (before : Option (Tree × ℕ)) (a : Tree) (s : Symbol) (rest : Symbols) → ArePlain (s ∷ rest) → is_punct marks.Comma s.kind ≡ true
    → others_by inner before a (s ∷ rest) ≡ front_by inner (record { before = Some (behind_comma before a, s.line); targets = []; choices = [] }) rest
unfolding others_by comma_by
comma_read inner sound before a s rest plain is =
    let e = behind_comma before a in
    let one : all_that (comma_by inner) (s ∷ rest) ≡ (got (numbered s.line (assign_by inner rest)) >>= λ x. collect_on (all_that (comma_by inner)) (s ∷ rest) x) = commas_step inner sound (s ∷ rest) plain ∙ rw is refl in
    ap (listing e) one
    ∙ got_then (all_that (comma_by inner)) (s ∷ rest) s.line (assign_by inner rest) e
    ∙ assign_front inner sound (Some (e, s.line)) [] rest plain.1

-- nothing follows
pub whole_read : (inner : Inner) → SoundInner inner → (before : Option (Tree × ℕ)) (a : Tree) (toks : Symbols) → ArePlain toks → comma_by inner toks ≡ Some None → others_by inner before a toks ≡ Some (behind_comma before a, toks)
unfolding others_by
whole_read inner sound before a toks plain none =
    let one : all_that (comma_by inner) toks ≡ Some ([], toks) = commas_step inner sound toks plain ∙ rw none refl in
    ap (listing (behind_comma before a)) one
