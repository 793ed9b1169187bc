-- What the loops of the reader keep.
use Rattle.std.proofs.Common.{◌≡◌, ℕ, suc, ◌+◌, ◌-◌, ◌<◌, ◌≤◌, List, [], ◌∷◌, ◌++◌, length, Option, Some, None, map, refl, sym, ap, ◌∙◌, append-nil, arith}
use Rattle.c_token.specs.declared.token.Punct.TheVariants as marks
use Rattle.c_nodes.specs.Words.{Symbol, Symbols}
use Rattle.c_nodes.specs.Trees.{Tree, Choose, Assign}
use Rattle.c_nodes.specs.Lists.{ChoiceParts, chosen, assigned}
use Rattle.c_nodes.specs.Views.{Target, choice_of, target_of}
use Rattle.c_nodes.specs.declared.expression.Choice.{Choice}
use Rattle.parse_expr.specs.declared.error.ParseError.{ParseError}
use Rattle.parse_expr.specs.declared.error.ParseError.TheVariants as errors
use Rattle.parse_expr.specs.Reader.{◌>>=◌, Reader, Step, Fails, punct_at, collect, all_that}
use Rattle.parse_expr.specs.Reading.{Inner, tier_by, choose_on, choices, cond_by, target_at, assigns, assign_by}
use Rattle.parse_expr.specs.Parts.{choice_by}

-- ---- lists

-- items in front of what is read
abbrev pub fronted : {A : Type 0} → List A → Option (List A × Symbols) → Option (List A × Symbols)
fronted xs read = read >>= λ x. Some (xs ++ x.0, x.1)

fronted_none : {A : Type 0} (read : Option (List A × Symbols)) → fronted [] read ≡ read
fronted_none (Some x) = refl
fronted_none None = refl

map_one : {A I : Type 0} (item_of : I → A) (found : List I) (x : I) (xs : List A) → map item_of (found ++ x ∷ []) ++ xs ≡ map item_of found ++ item_of x ∷ xs
map_one item_of [] x xs = refl
map_one item_of (y ∷ found) x xs = ap (λ (l : List _). item_of y ∷ l) (map_one item_of found x xs)

fronted_one : {A I : Type 0} (item_of : I → A) (found : List I) (x : I) (read : Option (List A × Symbols)) → fronted (map item_of (found ++ x ∷ [])) read ≡ fronted (map item_of found) (read >>= λ l. Some (item_of x ∷ l.0, l.1))
fronted_one item_of found x None = refl
fronted_one item_of found x (Some l) = rw (map_one item_of found x l.0) refl

pub collect_first : {A : Type 0} (step : Step A) (n : ℕ) (toks : Symbols) → length toks ≡ n → fronted [] (collect step (n - 0) toks) ≡ all_that step toks
collect_first step n toks h =
    let e : n - 0 ≡ length toks = omega (arith, h) in
    rw e (fronted_none (collect step (length toks) toks))

pub collect_more : {A I : Type 0} (item_of : I → A) (step : Step A) (n i : ℕ) (found : List I) (x : I) (toks after : Symbols) (total : Option (List A × Symbols)) → i < n → step toks ≡ Some (Some (item_of x, after)) → fronted (map item_of found) (collect step (n - i) toks) ≡ total → fronted (map item_of (found ++ x ∷ [])) (collect step (n - (i + 1)) after) ≡ total
unfolding collect
collect_more item_of step n i found x toks after total lt h so_far =
    let e : n - i ≡ suc (n - (i + 1)) = omega arith in
    let one : collect step (n - i) toks ≡ (collect step (n - (i + 1)) after >>= λ l. Some (item_of x ∷ l.0, l.1)) = rw (e, h) refl in
    fronted_one item_of found x (collect step (n - (i + 1)) after) ∙ ap (fronted (map item_of found)) (sym one) ∙ so_far

pub collect_ends : {A : Type 0} (step : Step A) (n i : ℕ) (xs : List A) (toks : Symbols) (total : Option (List A × Symbols)) → i < n → step toks ≡ Some None → fronted xs (collect step (n - i) toks) ≡ total → total ≡ Some (xs, toks)
unfolding collect
collect_ends step n i xs toks total lt h so_far =
    let e : n - i ≡ suc (n - (i + 1)) = omega arith in
    let one : collect step (n - i) toks ≡ Some ([], toks) = rw (e, h) refl in
    sym so_far ∙ ap (fronted xs) one ∙ ap (λ l. Some (l, toks)) (append-nil xs)

pub collect_out : {A : Type 0} (step : Step A) (n i : ℕ) (xs : List A) (toks : Symbols) (total : Option (List A × Symbols)) → n ≤ i → fronted xs (collect step (n - i) toks) ≡ total → total ≡ Some (xs, toks)
unfolding collect
collect_out step n i xs toks total le so_far =
    let e : n - i ≡ 0 = omega arith in
    let one : collect step (n - i) toks ≡ Some ([], toks) = rw e refl in
    sym so_far ∙ ap (fronted xs) one ∙ ap (λ l. Some (l, toks)) (append-nil xs)

pub collect_err : {A : Type 0} (x : ParseError) (step : Step A) (n i : ℕ) (xs : List A) (toks : Symbols) (total : Option (List A × Symbols)) → i < n → Fails x (step toks) → fronted xs (collect step (n - i) toks) ≡ total → Fails x total
unfolding collect
collect_err errors.NoMemory step n i xs toks total lt h so_far = tt
collect_err (errors.Nesting line) step n i xs toks total lt h so_far = h
collect_err (errors.Run line) step n i xs toks total lt h so_far = h
collect_err (errors.Syntax line) step n i xs toks total lt h so_far =
    let e : n - i ≡ suc (n - (i + 1)) = omega arith in
    let one : collect step (n - i) toks ≡ None = rw (e, h) refl in
    sym so_far ∙ ap (fronted xs) one

-- ---- choices

-- what is read behind choices
abbrev pub chosen_in : List ChoiceParts → Option (Tree × Symbols) → Option (Tree × Symbols)
chosen_in cs read = read >>= λ e. Some (chosen cs e.0, e.1)

abbrev chosen_by : ChoiceParts → Option (Tree × Symbols) → Option (Tree × Symbols)
chosen_by x read = read >>= λ e. Some (Choose x.0 x.1 x.2 x.3 e.0, e.1)

behind_colon : (again : Reader Tree) (c t : Tree) (q : ℕ) (colon : Option (ℕ × Symbols)) → (colon >>= λ k. chosen_by (c, q, t, k.0) (again k.1)) ≡ ((colon >>= λ k. Some ((c, q, t, k.0), k.1)) >>= λ (x : ChoiceParts × Symbols). chosen_by x.0 (again x.1))
behind_colon again c t q None = refl
behind_colon again c t q (Some k) = refl

behind_then : (again : Reader Tree) (c : Tree) (q : ℕ) (middle : Option (Tree × Symbols)) → (middle >>= λ t. punct_at marks.Colon t.1 >>= λ k. chosen_by (c, q, t.0, k.0) (again k.1)) ≡ ((middle >>= λ t. punct_at marks.Colon t.1 >>= λ k. Some ((c, q, t.0, k.0), k.1)) >>= λ (x : ChoiceParts × Symbols). chosen_by x.0 (again x.1))
behind_then again c q None = refl
behind_then again c q (Some t) = behind_colon again c t.0 q (punct_at marks.Colon t.1)

choose_parts : (inner : Inner) (again : Reader Tree) (c : Tree) (toks : Symbols) (q : ℕ × Symbols) → choose_on inner again c toks (Some q) ≡ (choice_by inner c q.0 q.1 >>= λ x. chosen_by x.0 (again x.1))
unfolding choice_by
choose_parts inner again c toks q = behind_then again c q.0 (inner.expr q.1)

chosen_more : (cs : List Choice) (x : Choice) (e : Tree) → chosen (map choice_of (cs ++ x ∷ [])) e ≡ chosen (map choice_of cs) (Choose (choice_of x).0 (choice_of x).1 (choice_of x).2 (choice_of x).3 e)
chosen_more [] x e = refl
chosen_more (c ∷ cs) x e = ap (Choose (choice_of c).0 (choice_of c).1 (choice_of c).2 (choice_of c).3) (chosen_more cs x e)

chosen_one : (cs : List Choice) (x : Choice) (read : Option (Tree × Symbols)) → chosen_in (map choice_of (cs ++ x ∷ [])) read ≡ chosen_in (map choice_of cs) (chosen_by (choice_of x) read)
chosen_one cs x None = refl
chosen_one cs x (Some e) = ap (λ t. Some (t, e.1)) (chosen_more cs x e.0)

chosen_none : (read : Option (Tree × Symbols)) → chosen_in [] read ≡ read
chosen_none (Some e) = refl
chosen_none None = refl

pub choices_first : (inner : Inner) (n : ℕ) (toks : Symbols) → length toks ≡ n → chosen_in [] (choices inner (n - 0) toks) ≡ cond_by inner toks
unfolding cond_by
choices_first inner n toks h =
    let e : n - 0 ≡ length toks = omega (arith, h) in
    rw e (chosen_none (choices inner (length toks) toks))

pub choices_more : (inner : Inner) (n i : ℕ) (cs : List Choice) (x : Choice) (c : Tree) (q : ℕ) (toks after behind rest : Symbols) (total : Option (Tree × Symbols)) → i < n → tier_by inner 10 toks ≡ Some (c, after) → punct_at marks.Question after ≡ Some (q, behind) → choice_by inner c q behind ≡ Some (choice_of x, rest) → chosen_in (map choice_of cs) (choices inner (n - i) toks) ≡ total → chosen_in (map choice_of (cs ++ x ∷ [])) (choices inner (n - (i + 1)) rest) ≡ total
unfolding choices
choices_more inner n i cs x c q toks after behind rest total lt h h2 h3 so_far =
    let e : n - i ≡ suc (n - (i + 1)) = omega arith in
    let step : choices inner (n - i) toks ≡ choose_on inner (choices inner (n - (i + 1))) c after (Some (q, behind)) = rw (e, h, h2) refl in
    let one : choices inner (n - i) toks ≡ chosen_by (choice_of x) (choices inner (n - (i + 1)) rest) = step ∙ choose_parts inner (choices inner (n - (i + 1))) c after (q, behind) ∙ rw h3 refl in
    chosen_one cs x (choices inner (n - (i + 1)) rest) ∙ ap (chosen_in (map choice_of cs)) (sym one) ∙ so_far

pub choices_end : (inner : Inner) (n i : ℕ) (cs : List ChoiceParts) (c : Tree) (toks after : Symbols) (total : Option (Tree × Symbols)) → i < n → tier_by inner 10 toks ≡ Some (c, after) → punct_at marks.Question after ≡ None → chosen_in cs (choices inner (n - i) toks) ≡ total → total ≡ Some (chosen cs c, after)
unfolding choices
choices_end inner n i cs c toks after total lt h h2 so_far =
    let e : n - i ≡ suc (n - (i + 1)) = omega arith in
    let one : choices inner (n - i) toks ≡ Some (c, after) = rw (e, h, h2) refl in
    sym so_far ∙ ap (chosen_in cs) one

pub choices_out : (inner : Inner) (n i : ℕ) (cs : List ChoiceParts) (toks : Symbols) (total : Option (Tree × Symbols)) → n ≤ i → chosen_in cs (choices inner (n - i) toks) ≡ total → total ≡ None
unfolding choices
choices_out inner n i cs toks total le so_far =
    let e : n - i ≡ 0 = omega arith in
    let one : choices inner (n - i) toks ≡ None = rw e refl in
    sym so_far ∙ ap (chosen_in cs) one

pub choices_err : (x : ParseError) (inner : Inner) (n i : ℕ) (cs : List ChoiceParts) (toks : Symbols) (total : Option (Tree × Symbols)) → i < n → Fails x (tier_by inner 10 toks) → chosen_in cs (choices inner (n - i) toks) ≡ total → Fails x total
unfolding choices
choices_err errors.NoMemory inner n i cs toks total lt h so_far = tt
choices_err (errors.Nesting line) inner n i cs toks total lt h so_far = h
choices_err (errors.Run line) inner n i cs toks total lt h so_far = h
choices_err (errors.Syntax line) inner n i cs toks total lt h so_far =
    let e : n - i ≡ suc (n - (i + 1)) = omega arith in
    let one : choices inner (n - i) toks ≡ None = rw (e, h) refl in
    sym so_far ∙ ap (chosen_in cs) one

pub choice_err : (x : ParseError) (inner : Inner) (n i : ℕ) (cs : List ChoiceParts) (c : Tree) (q : ℕ) (toks after behind : Symbols) (total : Option (Tree × Symbols)) → i < n → tier_by inner 10 toks ≡ Some (c, after) → punct_at marks.Question after ≡ Some (q, behind) → Fails x (choice_by inner c q behind) → chosen_in cs (choices inner (n - i) toks) ≡ total → Fails x total
unfolding choices
choice_err errors.NoMemory inner n i cs c q toks after behind total lt h h2 h3 so_far = tt
choice_err (errors.Nesting line) inner n i cs c q toks after behind total lt h h2 h3 so_far = h3
choice_err (errors.Run line) inner n i cs c q toks after behind total lt h h2 h3 so_far = h3
choice_err (errors.Syntax line) inner n i cs c q toks after behind total lt h h2 h3 so_far =
    let e : n - i ≡ suc (n - (i + 1)) = omega arith in
    let step : choices inner (n - i) toks ≡ choose_on inner (choices inner (n - (i + 1))) c after (Some (q, behind)) = rw (e, h, h2) refl in
    let one : choices inner (n - i) toks ≡ None = step ∙ choose_parts inner (choices inner (n - (i + 1))) c after (q, behind) ∙ rw h3 refl in
    sym so_far ∙ ap (chosen_in cs) one

-- ---- assignments

-- what is read behind left sides
abbrev pub assigned_in : List (Tree × Symbol) → Option (Tree × Symbols) → Option (Tree × Symbols)
assigned_in ts read = read >>= λ e. Some (assigned ts e.0, e.1)

assigned_more : (ts : List Target) (a : Target) (e : Tree) → assigned (map target_of (ts ++ a ∷ [])) e ≡ assigned (map target_of ts) (Assign (target_of a).0 (target_of a).1 e)
assigned_more [] a e = refl
assigned_more (b ∷ ts) a e = ap (Assign (target_of b).0 (target_of b).1) (assigned_more ts a e)

assigned_one : (ts : List Target) (a : Target) (read : Option (Tree × Symbols)) → assigned_in (map target_of (ts ++ a ∷ [])) read ≡ assigned_in (map target_of ts) (read >>= λ e. Some (Assign (target_of a).0 (target_of a).1 e.0, e.1))
assigned_one ts a None = refl
assigned_one ts a (Some e) = ap (λ t. Some (t, e.1)) (assigned_more ts a e.0)

assigned_none : (read : Option (Tree × Symbols)) → assigned_in [] read ≡ read
assigned_none (Some e) = refl
assigned_none None = refl

pub assigns_first : (inner : Inner) (n : ℕ) (toks : Symbols) → length toks ≡ n → assigned_in [] (assigns inner (n - 0) toks) ≡ assign_by inner toks
unfolding assign_by
assigns_first inner n toks h =
    let e : n - 0 ≡ length toks = omega (arith, h) in
    rw e (assigned_none (assigns inner (length toks) toks))

pub assigns_more : (inner : Inner) (n i : ℕ) (ts : List Target) (a : Target) (c : Tree) (toks after behind : Symbols) (total : Option (Tree × Symbols)) → i < n → cond_by inner toks ≡ Some (c, after) → (target_of a).0 ≡ c → target_at c after ≡ Some ((target_of a).1, behind) → assigned_in (map target_of ts) (assigns inner (n - i) toks) ≡ total → assigned_in (map target_of (ts ++ a ∷ [])) (assigns inner (n - (i + 1)) behind) ≡ total
unfolding assigns
assigns_more inner n i ts a c toks after behind total lt h same h2 so_far =
    let e : n - i ≡ suc (n - (i + 1)) = omega arith in
    let one : assigns inner (n - i) toks ≡ (assigns inner (n - (i + 1)) behind >>= λ b. Some (Assign c (target_of a).1 b.0, b.1)) = rw (e, h, h2) refl in
    assigned_one ts a (assigns inner (n - (i + 1)) behind) ∙ rw same (ap (assigned_in (map target_of ts)) (sym one)) ∙ so_far

pub assigns_end : (inner : Inner) (n i : ℕ) (ts : List (Tree × Symbol)) (c : Tree) (toks after : Symbols) (total : Option (Tree × Symbols)) → i < n → cond_by inner toks ≡ Some (c, after) → target_at c after ≡ None → assigned_in ts (assigns inner (n - i) toks) ≡ total → total ≡ Some (assigned ts c, after)
unfolding assigns
assigns_end inner n i ts c toks after total lt h h2 so_far =
    let e : n - i ≡ suc (n - (i + 1)) = omega arith in
    let one : assigns inner (n - i) toks ≡ Some (c, after) = rw (e, h, h2) refl in
    sym so_far ∙ ap (assigned_in ts) one

pub assigns_out : (inner : Inner) (n i : ℕ) (ts : List (Tree × Symbol)) (toks : Symbols) (total : Option (Tree × Symbols)) → n ≤ i → assigned_in ts (assigns inner (n - i) toks) ≡ total → total ≡ None
unfolding assigns
assigns_out inner n i ts toks total le so_far =
    let e : n - i ≡ 0 = omega arith in
    let one : assigns inner (n - i) toks ≡ None = rw e refl in
    sym so_far ∙ ap (assigned_in ts) one

pub assigns_err : (x : ParseError) (inner : Inner) (n i : ℕ) (ts : List (Tree × Symbol)) (toks : Symbols) (total : Option (Tree × Symbols)) → i < n → Fails x (cond_by inner toks) → assigned_in ts (assigns inner (n - i) toks) ≡ total → Fails x total
unfolding assigns
assigns_err errors.NoMemory inner n i ts toks total lt h so_far = tt
assigns_err (errors.Nesting line) inner n i ts toks total lt h so_far = h
assigns_err (errors.Run line) inner n i ts toks total lt h so_far = h
assigns_err (errors.Syntax line) inner n i ts toks total lt h so_far =
    let e : n - i ≡ suc (n - (i + 1)) = omega arith in
    let one : assigns inner (n - i) toks ≡ None = rw (e, h) refl in
    sym so_far ∙ ap (assigned_in ts) one
