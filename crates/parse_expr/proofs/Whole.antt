-- What the reader between `?` and `:` keeps: what is left to read gives what the whole gives.
use Rattle.std.proofs.Common.{◌≡◌, ℕ, suc, ◌-◌, ◌<◌, List, [], ◌∷◌, ◌++◌, reverse, length, Option, Some, None, refl, sym, ap, ◌∙◌, arith}
use Rattle.std.proofs.lemmas.List.{length-map, reverse-append}
use Rattle.c_token.specs.declared.token.Tok.{Tok}
use Rattle.c_token.specs.declared.token.Punct.{Punct}
use Rattle.c_token.specs.declared.token.Punct.TheVariants as marks
use Rattle.c_nodes.specs.Words.{Symbol, Symbols}
use Rattle.c_nodes.specs.Trees.{Tree, spelled}
use Rattle.c_nodes.specs.Lists.{chosen}
use Rattle.parse_expr.specs.declared.error.ParseError.{ParseError}
use Rattle.parse_expr.specs.declared.error.ParseError.TheVariants as errors
use Rattle.parse_expr.specs.Reader.{◌>>=◌, Fails, punct_at, symbol_in, symbols_in}
use Rattle.parse_expr.specs.Reading.{at, tier_by, cond_by, target_at}
use Rattle.parse_expr.specs.Waiting.{FrontParts, no_front, value_by, front_by, WaitingParts, with_choice, closed_by}
use Rattle.parse_expr.proofs.AgainOperands.{has_token}
use Rattle.parse_expr.proofs.Enough.{fewer, cond_step}
use Rattle.parse_expr.proofs.Fuel.{less_expr, no_expr}
use Rattle.parse_expr.proofs.Knots.{Takes}
use Rattle.parse_expr.proofs.Plain.{symbols_plain}
use Rattle.parse_expr.proofs.Takes.{at_sound}
use Rattle.parse_expr.proofs.TakesLists.{punct_takes}
use Rattle.parse_expr.proofs.TakesOperators.{tier_by_takes, target_takes}
use Rattle.parse_expr.proofs.Waits.{nothing_read, question_read, value_read}

-- n brackets may be entered where the reader is, and what waits has the last one at its end
unfoldable pub left_to_read : ℕ → List WaitingParts → FrontParts → Symbols → Option (Tree × Symbols)
left_to_read n waiting front toks = front_by (at n) front toks >>= λ x. closed_by (suc n) (reverse waiting) x.0 x.1

nothing_behind : (r : Option (Tree × Symbols)) → (r >>= λ x. Some (x.0, x.1)) ≡ r
nothing_behind (Some x) = refl
nothing_behind None = refl

-- nothing was read
pub at_first : (n : ℕ) (text : List ℕ) (toks : List Tok) → (n ≡ 0 → ⊥) → left_to_read (n - 1) [] no_front (symbols_in text toks) ≡ (at n).expr (symbols_in text toks)
unfolding left_to_read closed_by
at_first n text toks some =
    nothing_behind (front_by (at (n - 1)) no_front (symbols_in text toks))
    ∙ nothing_read (at (n - 1)) (at_sound (n - 1)) (symbols_in text toks) (symbols_plain text toks)
    ∙ sym (less_expr n (symbols_in text toks) some)

then_then : {A B C : Type 0} (r : Option A) (f : A → Option B) (g : B → Option C) → ((r >>= f) >>= g) ≡ (r >>= λ x. f x >>= g)
then_then (Some x) f g = refl
then_then None f g = refl

-- a condition and its `?`: it waits, and behind it nothing was read
pub at_question : (n : ℕ) (waiting : List WaitingParts) (front : FrontParts) (text : List ℕ) (rest after behind : List Tok) (c : Tree) (q : ℕ) (total : Option (Tree × Symbols))
    → (n ≡ 0 → ⊥) → tier_by (at n) 10 (symbols_in text rest) ≡ Some (c, symbols_in text after) → punct_at marks.Question (symbols_in text after) ≡ Some (q, symbols_in text behind)
    → left_to_read n waiting front (symbols_in text rest) ≡ total
    → left_to_read (n - 1) (waiting ++ (record { front = front; condition = c; question = q }) ∷ []) no_front (symbols_in text behind) ≡ total
unfolding left_to_read closed_by
at_question n waiting front text rest after behind c q total some read comes so_far =
    let w : WaitingParts = record { front = front; condition = c; question = q } in
    let toks = symbols_in text behind in
    let inner = at n in
    let closes : Tree × Symbols → Option (Tree × Symbols) = λ x. closed_by (suc n) (reverse waiting) x.0 x.1 in
    let deeper : front_by (at (n - 1)) no_front toks ≡ inner.expr toks = nothing_read (at (n - 1)) (at_sound (n - 1)) toks (symbols_plain text behind) ∙ sym (less_expr n toks some) in
    let number : suc (n - 1) ≡ n = omega (arith, some) in
    let stack : reverse (waiting ++ w ∷ []) ≡ w ∷ reverse waiting = reverse_last waiting w in
    let split = question_read inner (at_sound n) front (symbols_in text rest) (symbols_plain text rest) c (symbols_in text after) read (q, toks) comes in
    ap (λ (ws : List WaitingParts). front_by (at (n - 1)) no_front toks >>= λ x. closed_by (suc (n - 1)) ws x.0 x.1) stack
    ∙ ap (λ m. front_by (at (n - 1)) no_front toks >>= λ x. closed_by m (w ∷ reverse waiting) x.0 x.1) number
    ∙ ap (λ (r : Option (Tree × Symbols)). r >>= λ x. closed_by n (w ∷ reverse waiting) x.0 x.1) deeper
    ∙ sym (ap (λ (r : Option (Tree × Symbols)). r >>= closes) split ∙ then_then (inner.expr toks) _ closes ∙ same_each (inner.expr toks) _ _ (λ t. then_then (punct_at marks.Colon t.1) _ closes))
    ∙ so_far
  where
    same_each : {A B : Type 0} (r : Option A) (f g : A → Option B) → ((x : A) → f x ≡ g x) → (r >>= f) ≡ (r >>= g)
    same_each (Some x) f g h = h x
    same_each None f g h = refl

    reverse_last : (ws : List WaitingParts) (w : WaitingParts) → reverse (ws ++ w ∷ []) ≡ w ∷ reverse ws
    reverse_last ws w = reverse-append ws (w ∷ [])

-- a value, behind which more of the expression is read
pub at_value : (n : ℕ) (waiting : List WaitingParts) (front more : FrontParts) (text : List ℕ) (rest after behind : List Tok) (c : Tree) (total : Option (Tree × Symbols))
    → tier_by (at n) 10 (symbols_in text rest) ≡ Some (c, symbols_in text after) → punct_at marks.Question (symbols_in text after) ≡ None
    → value_by (at n) front (chosen front.choices c) (symbols_in text after) ≡ front_by (at n) more (symbols_in text behind)
    → left_to_read n waiting front (symbols_in text rest) ≡ total → left_to_read n waiting more (symbols_in text behind) ≡ total
unfolding left_to_read
at_value n waiting front more text rest after behind c total read none goes so_far =
    let one = value_read (at n) (at_sound n) front (symbols_in text rest) (symbols_plain text rest) c (symbols_in text after) read none in
    ap (λ (r : Option (Tree × Symbols)). r >>= λ x. closed_by (suc n) (reverse waiting) x.0 x.1) (sym (one ∙ goes)) ∙ so_far

-- a value with which the expression is whole: the last that waits goes on behind its `:`
pub at_end : (n : ℕ) (waiting : List WaitingParts) (front : FrontParts) (text : List ℕ) (rest after : List Tok) (c e : Tree) (total : Option (Tree × Symbols))
    → tier_by (at n) 10 (symbols_in text rest) ≡ Some (c, symbols_in text after) → punct_at marks.Question (symbols_in text after) ≡ None
    → value_by (at n) front (chosen front.choices c) (symbols_in text after) ≡ Some (e, symbols_in text after)
    → left_to_read n waiting front (symbols_in text rest) ≡ total → closed_by (suc n) (reverse waiting) e (symbols_in text after) ≡ total
unfolding left_to_read
at_end n waiting front text rest after c e total read none whole so_far =
    let one = value_read (at n) (at_sound n) front (symbols_in text rest) (symbols_plain text rest) c (symbols_in text after) read none in
    ap (λ (r : Option (Tree × Symbols)). r >>= λ x. closed_by (suc n) (reverse waiting) x.0 x.1) (sym (one ∙ whole)) ∙ so_far

-- its `:` comes, or doesn't
pub at_colon : (n : ℕ) (below : List WaitingParts) (top : WaitingParts) (text : List ℕ) (after behind : List Tok) (e : Tree) (k : ℕ) (total : Option (Tree × Symbols))
    → punct_at marks.Colon (symbols_in text after) ≡ Some (k, symbols_in text behind) → closed_by (suc n) (top ∷ reverse below) e (symbols_in text after) ≡ total
    → left_to_read (suc n) below (with_choice top.front (top.condition, top.question, e, k)) (symbols_in text behind) ≡ total
unfolding left_to_read closed_by
at_colon n below top text after behind e k total comes so_far =
    let one : closed_by (suc n) (top ∷ reverse below) e (symbols_in text after) ≡ (front_by (at (suc n)) (with_choice top.front (top.condition, top.question, e, k)) (symbols_in text behind) >>= λ x. closed_by (suc (suc n)) (reverse below) x.0 x.1) = rw comes refl in
    sym one ∙ so_far

pub no_colon : (n : ℕ) (below : List WaitingParts) (top : WaitingParts) (toks : Symbols) (e : Tree) (total : Option (Tree × Symbols)) → punct_at marks.Colon toks ≡ None → closed_by (suc n) (top ∷ reverse below) e toks ≡ total → total ≡ None
unfolding closed_by
no_colon n below top toks e total none so_far =
    let one : closed_by (suc n) (top ∷ reverse below) e toks ≡ None = rw none refl in
    sym so_far ∙ one

pub nothing_waits : (n : ℕ) (e : Tree) (toks : Symbols) (total : Option (Tree × Symbols)) → closed_by n [] e toks ≡ total → total ≡ Some (e, toks)
unfolding closed_by
nothing_waits n e toks total so_far = sym so_far

-- what follows a condition and its `?`, behind what stands between `?` and `:`
abbrev behind_middle : ℕ → FrontParts → Tree → ℕ → Option (Tree × Symbols) → Option (Tree × Symbols)
behind_middle n front c q middle = middle >>= λ t. punct_at marks.Colon t.1 >>= λ k. front_by (at n) (with_choice front (c, q, t.0, k.0)) k.1

-- no `?` may be entered any more
pub at_deepest : (n : ℕ) (waiting : List WaitingParts) (front : FrontParts) (text : List ℕ) (rest after behind : List Tok) (c : Tree) (q : ℕ) (total : Option (Tree × Symbols))
    → n ≡ 0 → tier_by (at n) 10 (symbols_in text rest) ≡ Some (c, symbols_in text after) → punct_at marks.Question (symbols_in text after) ≡ Some (q, symbols_in text behind)
    → left_to_read n waiting front (symbols_in text rest) ≡ total → total ≡ None
unfolding left_to_read
at_deepest n waiting front text rest after behind c q total none read comes so_far =
    let toks = symbols_in text behind in
    let split = question_read (at n) (at_sound n) front (symbols_in text rest) (symbols_plain text rest) c (symbols_in text after) read (q, toks) comes in
    let one : front_by (at n) front (symbols_in text rest) ≡ None = split ∙ ap (behind_middle n front c q) (no_expr n toks none) in
    sym so_far ∙ ap (λ (r : Option (Tree × Symbols)). r >>= λ x. closed_by (suc n) (reverse waiting) x.0 x.1) one

-- no operand is read
no_operand : (n : ℕ) (waiting : List WaitingParts) (front : FrontParts) (text : List ℕ) (rest : List Tok) (total : Option (Tree × Symbols)) → tier_by (at n) 10 (symbols_in text rest) ≡ None → left_to_read n waiting front (symbols_in text rest) ≡ total → total ≡ None
unfolding left_to_read front_by
no_operand n waiting front text rest total none so_far =
    let toks = symbols_in text rest in
    let one : cond_by (at n) toks ≡ None = cond_step (at n) (at_sound n) toks (symbols_plain text rest) ∙ rw none refl in
    sym so_far ∙ rw one refl

-- ---- errors

pub operand_err : (x : ParseError) (n : ℕ) (waiting : List WaitingParts) (front : FrontParts) (text : List ℕ) (rest : List Tok) (total : Option (Tree × Symbols)) → Fails x (tier_by (at n) 10 (symbols_in text rest)) → left_to_read n waiting front (symbols_in text rest) ≡ total → Fails x total
operand_err errors.NoMemory n waiting front text rest total h so_far = tt
operand_err (errors.Nesting line) n waiting front text rest total h so_far = h
operand_err (errors.Run line) n waiting front text rest total h so_far = h
operand_err (errors.Syntax line) n waiting front text rest total h so_far = no_operand n waiting front text rest total h so_far

pub colon_err : (x : ParseError) (n : ℕ) (below : List WaitingParts) (top : WaitingParts) (toks : Symbols) (e : Tree) (total : Option (Tree × Symbols)) → Fails x (punct_at marks.Colon toks) → closed_by (suc n) (top ∷ reverse below) e toks ≡ total → Fails x total
colon_err errors.NoMemory n below top toks e total h so_far = tt
colon_err (errors.Nesting line) n below top toks e total h so_far = h
colon_err (errors.Run line) n below top toks e total h so_far = h
colon_err (errors.Syntax line) n below top toks e total h so_far = no_colon n below top toks e total h so_far

-- ---- each turn takes a token at least

taken : {A : Type 0} (spell : A → Symbols) (Is : A → Type 0) (text : List ℕ) (rest after : List Tok) (x : A) → Takes spell Is (symbols_in text rest) (x, symbols_in text after) → 0 < length (spell x) → length after < length rest
taken spell Is text rest after x t some =
    let lt = fewer spell Is (symbols_in text rest) (x, symbols_in text after) t some in
    let before = length-map rest (symbol_in text) in
    let behind = length-map after (symbol_in text) in
    omega (arith, lt, before, behind)

pub operand_taken : (n : ℕ) (text : List ℕ) (rest after : List Tok) (c : Tree) → tier_by (at n) 10 (symbols_in text rest) ≡ Some (c, symbols_in text after) → length after < length rest
operand_taken n text rest after c read =
    taken spelled _ text rest after c (tier_by_takes (at n) (at_sound n) 10 (symbols_in text rest) (symbols_plain text rest) (c, symbols_in text after) read) (has_token c)

pub punct_taken : (p : Punct) (text : List ℕ) (rest after : List Tok) (l : ℕ) → punct_at p (symbols_in text rest) ≡ Some (l, symbols_in text after) → length after < length rest
punct_taken p text rest after l comes =
    taken _ _ text rest after l (punct_takes p (symbols_in text rest) (symbols_plain text rest) (l, symbols_in text after) comes) (omega arith)

pub target_taken : (text : List ℕ) (c : Tree) (rest after : List Tok) (s : Symbol) → target_at c (symbols_in text rest) ≡ Some (s, symbols_in text after) → length after < length rest
target_taken text c rest after s comes =
    taken _ _ text rest after s (target_takes c (symbols_in text rest) (symbols_plain text rest) (s, symbols_in text after) comes) (omega arith)
