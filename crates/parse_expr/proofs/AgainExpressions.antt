-- Expressions are read again from their spelling: operators in tiers, choices, assignments, commas.
use Rattle.std.proofs.Common.{◌≡◌, ℕ, zero, suc, ◌+◌, ◌-◌, ◌<◌, ◌≤◌, Bool, true, false, if◌then◌else◌, [], ◌∷◌, ◌++◌, length, Option, Some, None, refl, sym, ap, subst, ◌∙◌, append_assoc, length-append, arith, inl, inr}
use Rattle.std.proofs.lemmas.Bool.{cases_lt, eq-eqb, ne_eqb}
use Rattle.c_token.specs.declared.token.Punct.TheVariants as marks
use Rattle.c_nodes.specs.Words.{Symbol, Symbols, punct}
use Rattle.c_nodes.specs.Kinds.{is_punct, level_of, is_assignment}
use Rattle.c_nodes.specs.Trees.{Tree, Join, Choose, Assign, spelled, rank, is_unary, IsTree}
use Rattle.c_nodes.specs.Lists.{joined, listed}
use Rattle.parse_expr.specs.Reader.{Reader, symbol_at, punct_at}
use Rattle.parse_expr.specs.Reading.{Inner, right_by, tier_by, choices, cond_by, target_at, assigns, assign_by, comma_by, expr_by}
use Rattle.parse_expr.proofs.Knots.{Stops, IsCond, IsAssign, Again, CompleteInner}
use Rattle.parse_expr.proofs.AgainKinds.{quiet, stops_below, stops_operator, stops_assignment, comma_level, is_comma, tier_most}
use Rattle.parse_expr.proofs.AgainLoops.{Chained, chain_by, first, further, ends}
use Rattle.parse_expr.proofs.AgainOperands.{has_token, unary_reads}

-- ---- what stops a loop

right_none : (k j : ℕ) (next : Reader Tree) (rest : Symbols) → 0 < j → j ≤ k → Stops k rest → right_by j next rest ≡ Some None
unfolding right_by
right_none k j next [] pos le h = refl
right_none k j next (s ∷ rest) pos le h =
    let q = quiet k s.kind h in
    let differs : level_of s.kind ≡ j → ⊥ = λ e. let lt : k < level_of s.kind = q.operator (omega arith) in omega arith in
    rw (ne_eqb (level_of s.kind) j differs) refl

no_question : (k : ℕ) (rest : Symbols) → 11 ≤ k → Stops k rest → punct_at marks.Question rest ≡ None
unfolding punct_at
no_question k [] le h = refl
no_question k (s ∷ rest) le h = let q = quiet k s.kind h in rw (q.question le) refl

no_assignment : (k : ℕ) (rest : Symbols) → 12 ≤ k → Stops k rest → symbol_at is_assignment rest ≡ None
unfolding symbol_at
no_assignment k [] le h = refl
no_assignment k (s ∷ rest) le h = let q = quiet k s.kind h in rw (q.assignment le) refl

either : {A : Type 0} (b : Bool) (x : Option A) → x ≡ None → (if b then x else None) ≡ None
either true x h = h
either false x h = refl

no_target : (k : ℕ) (t : Tree) (rest : Symbols) → 12 ≤ k → Stops k rest → target_at t rest ≡ None
unfolding target_at
no_target k t rest le h = either (is_unary t) (symbol_at is_assignment rest) (no_assignment k rest le h)

not_true : (b : Bool) → (b ≡ true → ⊥) → b ≡ false
not_true true h = absurd (h refl)
not_true false h = refl

comma_none : (inner : Inner) (rest : Symbols) → Stops 13 rest → comma_by inner rest ≡ Some None
unfolding comma_by
comma_none inner [] h = refl
comma_none inner (s ∷ rest) h =
    let q = quiet 13 s.kind h in
    let none : is_punct marks.Comma s.kind ≡ true → ⊥ = λ e. let is = comma_level s.kind e in let lt : 13 < level_of s.kind = q.operator (omega arith) in omega arith in
    rw (not_true (is_punct marks.Comma s.kind) none) refl

-- ---- tiers

joined_tier : (inner : Inner) (j : ℕ) (toks : Symbols) (x : Option (Tree × Symbols)) → chain_by joined (tier_by inner j) (right_by (suc j) (tier_by inner j)) toks ≡ x → tier_by inner (suc j) toks ≡ x
unfolding tier_by
joined_tier inner j toks x h = h

-- what a tier reads, the next one reads too, where nothing continues it
lift : (inner : Inner) (k : ℕ) (toks : Symbols) (t : Tree) (rest : Symbols) → tier_by inner k toks ≡ Some (t, rest) → Stops (suc k) rest → tier_by inner (suc k) toks ≡ Some (t, rest)
lift inner k toks t rest h s =
    let next = tier_by inner k in
    joined_tier inner k toks (Some (t, rest)) (ends joined next (right_by (suc k) next) toks t rest refl (first joined next (right_by (suc k) next) toks t rest h) (right_none (suc k) (suc k) next rest (omega arith) (omega arith) s))

climb_by : (inner : Inner) (d k : ℕ) (toks : Symbols) (t : Tree) (rest : Symbols) → tier_by inner k toks ≡ Some (t, rest) → (top : ℕ) → top ≡ d + k → Stops top rest → tier_by inner top toks ≡ Some (t, rest)
climb_by inner zero k toks t rest h top e s = subst (λ (i : ℕ). tier_by inner i toks ≡ Some (t, rest)) (omega arith) h
climb_by inner (suc d) k toks t rest h top e s =
    let e2 : top ≡ suc (d + k) = omega arith in
    let s2 = subst (λ (i : ℕ). Stops i rest) e2 s in
    subst (λ (i : ℕ). tier_by inner i toks ≡ Some (t, rest)) (sym e2) (lift inner (d + k) toks t rest (climb_by inner d k toks t rest h (d + k) refl (stops_below (d + k) (suc (d + k)) rest (omega arith) s2)) s2)

climb : (inner : Inner) (j k : ℕ) (toks : Symbols) (t : Tree) (rest : Symbols) → j ≤ k → tier_by inner j toks ≡ Some (t, rest) → Stops k rest → tier_by inner k toks ≡ Some (t, rest)
climb inner j k toks t rest le h s = climb_by inner (k - j) j toks t rest h k (omega arith) s

abbrev Spine : Inner → ℕ → Symbols → Tree → Symbols → Type 0
Spine inner j toks t rest = Chained joined (tier_by inner j) (right_by (suc j) (tier_by inner j)) toks t rest

-- what is to be shown of each tree that no choice, assignment or comma makes
record Tiered (inner : Inner) (t : Tree) : Type 0 where
  reads : (k : ℕ) → k ≤ 10 → rank t ≤ k → (rest : Symbols) → Stops k rest → tier_by inner k (spelled t ++ rest) ≡ Some (t, rest)
  spine : (j : ℕ) → suc j ≤ 10 → rank t ≤ suc j → (rest : Symbols) → Stops j rest → Spine inner j (spelled t ++ rest) t rest

one_part : (inner : Inner) (j : ℕ) (t : Tree) (rest : Symbols) → tier_by inner j (spelled t ++ rest) ≡ Some (t, rest) → Spine inner j (spelled t ++ rest) t rest
one_part inner j t rest h = first joined (tier_by inner j) (right_by (suc j) (tier_by inner j)) (spelled t ++ rest) t rest h

-- an operand with its prefixes
operand_tier : (n : ℕ) (inner : Inner) → CompleteInner n inner → (t : Tree) → rank t ≡ 0 → IsTree t → length (spelled t) ≤ suc n → (rest : Symbols) → Stops 0 rest → tier_by inner 0 (spelled t ++ rest) ≡ Some (t, rest)
unfolding tier_by
operand_tier n inner c t r is le rest s = unary_reads n inner c t r is le rest s

lowest : (n : ℕ) (inner : Inner) → CompleteInner n inner → (t : Tree) → rank t ≡ 0 → IsTree t → length (spelled t) ≤ suc n → Tiered inner t
lowest n inner c t r is le =
    let reads : (k : ℕ) → k ≤ 10 → rank t ≤ k → (rest : Symbols) → Stops k rest → tier_by inner k (spelled t ++ rest) ≡ Some (t, rest)
    = λ k most low rest s. climb inner 0 k (spelled t ++ rest) t rest (omega arith) (operand_tier n inner c t r is le rest (stops_below 0 k rest (omega arith) s)) s in
    record { reads = reads; spine = λ j most low rest s. one_part inner j t rest (reads j (omega arith) (omega arith) rest s) }

-- trees that no tier makes
loose : (inner : Inner) (t : Tree) → 11 ≤ rank t → Tiered inner t
loose inner t high = record { reads = λ k most low rest s. absurd (omega arith); spine = λ j most low rest s. absurd (omega arith) }

right_reads : (j : ℕ) (next : Reader Tree) (s : Symbol) (toks : Symbols) (b : Tree) (rest : Symbols) → level_of s.kind ≡ j → next toks ≡ Some (b, rest) → right_by j next (s ∷ toks) ≡ Some (Some ((s, b), rest))
unfolding right_by
right_reads j next s toks b rest e h = rw (eq-eqb (level_of s.kind) j e, h) refl

-- an operator, at its own tier
join_own : (inner : Inner) (s : Symbol) (a b : Tree) → IsTree (Join s a b) → Tiered inner a → Tiered inner b → (j : ℕ) → level_of s.kind ≡ suc j → suc j ≤ 10 → (rest : Symbols) → Stops j rest → Spine inner j (spelled (Join s a b) ++ rest) (Join s a b) rest
join_own inner s a b is ta tb j e most rest st =
    let next = tier_by inner j in
    let more = spelled b ++ rest in
    let left : rank a ≤ level_of s.kind = is.3 in
    let right : rank b < level_of s.kind = is.4 in
    let up = ta.spine j most (omega arith) (s ∷ more) (stops_operator j s more (omega arith)) in
    let one = right_reads (suc j) next s more b rest e (tb.reads j (omega arith) (omega arith) rest st) in
    subst (λ (l : Symbols). Spine inner j l (Join s a b) rest) (sym (append_assoc (spelled a) (s ∷ spelled b) rest))
    (further joined next (right_by (suc j) next) (spelled a ++ s ∷ more) a (Join s a b) (s, b) (s ∷ more) rest (λ l. refl) up one (omega (arith, length-append (spelled b) rest)))

join_reads : (inner : Inner) (s : Symbol) (a b : Tree) → IsTree (Join s a b) → Tiered inner a → Tiered inner b → (k : ℕ) → k ≤ 10 → level_of s.kind ≤ k → (rest : Symbols) → Stops k rest → tier_by inner k (spelled (Join s a b) ++ rest) ≡ Some (Join s a b, rest)
join_reads inner s a b is ta tb k most low rest st =
    let t = Join s a b in
    let pos : 0 < level_of s.kind = is.2 in
    let j : ℕ = level_of s.kind - 1 in
    let e : level_of s.kind ≡ suc j = omega arith in
    let next = tier_by inner j in
    let own = join_own inner s a b is ta tb j e (omega arith) rest (stops_below j k rest (omega arith) st) in
    let read = joined_tier inner j (spelled t ++ rest) (Some (t, rest)) (ends joined next (right_by (suc j) next) (spelled t ++ rest) t rest refl own (right_none k (suc j) next rest (omega arith) (omega arith) st)) in
    climb inner (suc j) k (spelled t ++ rest) t rest (omega arith) read st

join_tiered : (inner : Inner) (s : Symbol) (a b : Tree) → IsTree (Join s a b) → Tiered inner a → Tiered inner b → Tiered inner (Join s a b)
join_tiered inner s a b is ta tb = record {
  reads = join_reads inner s a b is ta tb;
  spine = λ j most low rest st. elim (cases_lt j (level_of s.kind)) [
    | inl lt ↦ join_own inner s a b is ta tb j (omega arith) most rest st
    | inr ge ↦ one_part inner j (Join s a b) rest (join_reads inner s a b is ta tb j (omega arith) ge rest st)
  ];
}

tiered : (n : ℕ) (inner : Inner) → CompleteInner n inner → (t : Tree) → IsTree t → length (spelled t) ≤ suc n → Tiered inner t
tiered n inner c (Join s a b) is le =
    let size = length-append (spelled a) (s ∷ spelled b) in
    join_tiered inner s a b is (tiered n inner c a is.0 (omega arith)) (tiered n inner c b is.1 (omega arith))
tiered n inner c (Choose q k t l e) is le = loose inner (Choose q k t l e) (omega arith)
tiered n inner c (Assign a s b) is le = loose inner (Assign a s b) (omega arith)
tiered n inner c t is le = lowest n inner c t refl is le

-- ---- choices

choice_none : (inner : Inner) (m : ℕ) (toks : Symbols) (t : Tree) (rest : Symbols) → tier_by inner 10 toks ≡ Some (t, rest) → punct_at marks.Question rest ≡ None → choices inner (suc m) toks ≡ Some (t, rest)
unfolding choices
choice_none inner m toks t rest h q = rw (h, q) refl

-- a tree of the tiers
plain_choice : (n : ℕ) (inner : Inner) → CompleteInner n inner → (t : Tree) → IsTree t → rank t ≤ 10 → length (spelled t) ≤ suc n → (rest : Symbols) → Stops 11 rest → (m : ℕ) → length (spelled t) ≤ m → choices inner m (spelled t ++ rest) ≡ Some (t, rest)
plain_choice n inner c t is low le rest st zero lt = absurd (omega (arith, has_token t))
plain_choice n inner c t is low le rest st (suc m) lt =
    let r = tiered n inner c t is le in
    choice_none inner m (spelled t ++ rest) t rest (r.reads 10 (omega arith) low rest (stops_below 10 11 rest (omega arith) st)) (no_question 11 rest (omega arith) st)

choice_step : (inner : Inner) (m : ℕ) (toks : Symbols) (q : Tree) (k : ℕ) (more : Symbols) (t : Tree) (l : ℕ) (behind : Symbols) (e : Tree) (rest : Symbols) → tier_by inner 10 toks ≡ Some (q, punct marks.Question k ∷ more) → inner.expr more ≡ Some (t, punct marks.Colon l ∷ behind) → choices inner m behind ≡ Some (e, rest) → choices inner (suc m) toks ≡ Some (Choose q k t l e, rest)
unfolding choices punct_at
choice_step inner m toks q k more t l behind e rest h1 h2 h3 = rw (h1, h2, h3) refl

choice_spelled : (q : Tree) (k : ℕ) (t : Tree) (l : ℕ) (e : Tree) (rest : Symbols) → spelled (Choose q k t l e) ++ rest ≡ spelled q ++ punct marks.Question k ∷ (spelled t ++ punct marks.Colon l ∷ (spelled e ++ rest))
choice_spelled q k t l e rest =
    append_assoc (spelled q) (punct marks.Question k ∷ (spelled t ++ punct marks.Colon l ∷ spelled e)) rest
    ∙ ap (λ (u : Symbols). spelled q ++ punct marks.Question k ∷ u) (append_assoc (spelled t) (punct marks.Colon l ∷ spelled e) rest)

choices_read : (n : ℕ) (inner : Inner) → CompleteInner n inner → (t : Tree) → IsTree t → rank t ≤ 11 → length (spelled t) ≤ suc n → (rest : Symbols) → Stops 11 rest → (m : ℕ) → length (spelled t) ≤ m → choices inner m (spelled t ++ rest) ≡ Some (t, rest)
choices_read n inner c (Choose q k t l e) is low le rest st zero lt = absurd (omega (arith, has_token (Choose q k t l e)))
choices_read n inner c (Choose q k t l e) is low le rest st (suc m) lt =
    let behind = spelled e ++ rest in
    let more = spelled t ++ punct marks.Colon l ∷ behind in
    let size1 = length-append (spelled q) (punct marks.Question k ∷ (spelled t ++ punct marks.Colon l ∷ spelled e)) in
    let size2 = length-append (spelled t) (punct marks.Colon l ∷ spelled e) in
    let r = tiered n inner c q is.0 (omega arith) in
    let condition = r.reads 10 (omega arith) is.3 (punct marks.Question k ∷ more) refl in
    let middle = c.expr t (omega arith) is.1 (punct marks.Colon l ∷ behind) refl in
    let last = choices_read n inner c e is.2 is.4 (omega arith) rest st m (omega arith) in
    ap (choices inner (suc m)) (choice_spelled q k t l e rest) ∙ choice_step inner m (spelled q ++ punct marks.Question k ∷ more) q k more t l behind e rest condition middle last
choices_read n inner c (Assign a s b) is low le rest st m lt = absurd (omega arith)
choices_read n inner c (Join s a b) is low le rest st m lt = plain_choice n inner c (Join s a b) is (tier_most s.kind (omega arith)) le rest st m lt
choices_read n inner c t is low le rest st m lt = plain_choice n inner c t is (omega arith) le rest st m lt

cond_reads : (n : ℕ) (inner : Inner) → CompleteInner n inner → (t : Tree) → IsTree t → rank t ≤ 11 → length (spelled t) ≤ suc n → (rest : Symbols) → Stops 11 rest → cond_by inner (spelled t ++ rest) ≡ Some (t, rest)
unfolding cond_by
cond_reads n inner c t is low le rest st = choices_read n inner c t is low le rest st (length (spelled t ++ rest)) (omega (arith, length-append (spelled t) rest))

pub cond_again_by : (n : ℕ) (inner : Inner) → CompleteInner n inner → Again (suc n) spelled IsCond (Stops 11) (cond_by inner)
cond_again_by n inner c t le is rest st = cond_reads n inner c t is.0 is.1 le rest st

-- ---- assignments

assign_none : (inner : Inner) (m : ℕ) (toks : Symbols) (t : Tree) (rest : Symbols) → cond_by inner toks ≡ Some (t, rest) → target_at t rest ≡ None → assigns inner (suc m) toks ≡ Some (t, rest)
unfolding assigns
assign_none inner m toks t rest h q = rw (h, q) refl

plain_assign : (n : ℕ) (inner : Inner) → CompleteInner n inner → (t : Tree) → IsTree t → rank t ≤ 11 → length (spelled t) ≤ suc n → (rest : Symbols) → Stops 12 rest → (m : ℕ) → length (spelled t) ≤ m → assigns inner m (spelled t ++ rest) ≡ Some (t, rest)
plain_assign n inner c t is low le rest st zero lt = absurd (omega (arith, has_token t))
plain_assign n inner c t is low le rest st (suc m) lt =
    assign_none inner m (spelled t ++ rest) t rest (cond_reads n inner c t is low le rest (stops_below 11 12 rest (omega arith) st)) (no_target 12 t rest (omega arith) st)

assign_step : (inner : Inner) (m : ℕ) (toks : Symbols) (a : Tree) (s : Symbol) (more : Symbols) (b : Tree) (rest : Symbols) → cond_by inner toks ≡ Some (a, s ∷ more) → is_unary a ≡ true → is_assignment s.kind ≡ true → assigns inner m more ≡ Some (b, rest) → assigns inner (suc m) toks ≡ Some (Assign a s b, rest)
unfolding assigns target_at symbol_at
assign_step inner m toks a s more b rest h1 u e h2 = rw (h1, u, e, h2) refl

unary_rank : (t : Tree) → is_unary t ≡ true → rank t ≡ 0
unary_rank (Join s a b) h = absurd cc
unary_rank (Choose q k t l e) h = absurd cc
unary_rank (Assign a s b) h = absurd cc
unary_rank _ h = refl

assigns_read : (n : ℕ) (inner : Inner) → CompleteInner n inner → (t : Tree) → IsTree t → rank t ≤ 12 → length (spelled t) ≤ suc n → (rest : Symbols) → Stops 12 rest → (m : ℕ) → length (spelled t) ≤ m → assigns inner m (spelled t ++ rest) ≡ Some (t, rest)
assigns_read n inner c (Assign a s b) is low le rest st zero lt = absurd (omega (arith, has_token (Assign a s b)))
assigns_read n inner c (Assign a s b) is low le rest st (suc m) lt =
    let more = spelled b ++ rest in
    let size = length-append (spelled a) (s ∷ spelled b) in
    let r = unary_rank a is.3 in
    let left = cond_reads n inner c a is.0 (omega arith) (omega arith) (s ∷ more) (stops_assignment s more is.2) in
    let right = assigns_read n inner c b is.1 is.4 (omega arith) rest st m (omega arith) in
    ap (assigns inner (suc m)) (append_assoc (spelled a) (s ∷ spelled b) rest) ∙ assign_step inner m (spelled a ++ s ∷ more) a s more b rest left is.3 is.2 right
assigns_read n inner c (Join s a b) is low le rest st m lt = let most = tier_most s.kind low in plain_assign n inner c (Join s a b) is (omega arith) le rest st m lt
assigns_read n inner c t is low le rest st m lt = plain_assign n inner c t is (omega arith) le rest st m lt

assign_reads : (n : ℕ) (inner : Inner) → CompleteInner n inner → (t : Tree) → IsTree t → rank t ≤ 12 → length (spelled t) ≤ suc n → (rest : Symbols) → Stops 12 rest → assign_by inner (spelled t ++ rest) ≡ Some (t, rest)
unfolding assign_by
assign_reads n inner c t is low le rest st = assigns_read n inner c t is low le rest st (length (spelled t ++ rest)) (omega (arith, length-append (spelled t) rest))

pub assign_again_by : (n : ℕ) (inner : Inner) → CompleteInner n inner → Again (suc n) spelled IsAssign (Stops 12) (assign_by inner)
assign_again_by n inner c t le is rest st = assign_reads n inner c t is.0 is.1 le rest st

-- ---- commas

comma_reads : (inner : Inner) (s : Symbol) (toks : Symbols) (b : Tree) (rest : Symbols) → is_punct marks.Comma s.kind ≡ true → assign_by inner toks ≡ Some (b, rest) → comma_by inner (s ∷ toks) ≡ Some (Some ((s.line, b), rest))
unfolding comma_by
comma_reads inner s toks b rest e h = rw (e, h) refl

abbrev Commas : Inner → Symbols → Tree → Symbols → Type 0
Commas inner toks t rest = Chained listed (assign_by inner) (comma_by inner) toks t rest

-- a tree without a comma of its own
alone : (n : ℕ) (inner : Inner) → CompleteInner n inner → (t : Tree) → IsTree t → rank t ≤ 12 → length (spelled t) ≤ suc n → (rest : Symbols) → Stops 12 rest → Commas inner (spelled t ++ rest) t rest
alone n inner c t is low le rest st = first listed (assign_by inner) (comma_by inner) (spelled t ++ rest) t rest (assign_reads n inner c t is low le rest st)

after_comma : (inner : Inner) (s : Symbol) (a b : Tree) → 11 ≤ level_of s.kind → s.bytes ≡ [] → (more rest : Symbols) → Commas inner (spelled a ++ s ∷ more) a (s ∷ more) → assign_by inner more ≡ Some (b, rest) → length rest ≤ length more → Commas inner (spelled a ++ s ∷ more) (Join s a b) rest
after_comma inner s a b high bare more rest up h le =
    let is = is_comma s high bare in
    let one = comma_reads inner s more b rest (ap (λ (u : Symbol). is_punct marks.Comma u.kind) is) h in
    further listed (assign_by inner) (comma_by inner) (spelled a ++ s ∷ more) a (Join s a b) (s.line, b) (s ∷ more) rest (λ l. ap (λ (u : Symbol). listed (Join u a b) l) (sym is)) up one (omega arith)

commas : (n : ℕ) (inner : Inner) → CompleteInner n inner → (t : Tree) → IsTree t → length (spelled t) ≤ suc n → (rest : Symbols) → Stops 12 rest → Commas inner (spelled t ++ rest) t rest
commas n inner c (Join s a b) is le rest st =
    let more = spelled b ++ rest in
    let size = length-append (spelled a) (s ∷ spelled b) in
    let right : rank b < level_of s.kind = is.4 in
    elim (cases_lt (level_of s.kind) 11) [
      | inl lt ↦ alone n inner c (Join s a b) is (omega arith) le rest st
      | inr ge ↦
          let level = comma_level s.kind (ap (λ (u : Symbol). is_punct marks.Comma u.kind) (is_comma s ge is.5)) in
          let up = commas n inner c a is.0 (omega arith) (s ∷ more) (stops_operator 12 s more (omega arith)) in
          let one = assign_reads n inner c b is.1 (omega arith) (omega arith) rest st in
          subst (λ (l : Symbols). Commas inner l (Join s a b) rest) (sym (append_assoc (spelled a) (s ∷ spelled b) rest)) (after_comma inner s a b ge is.5 more rest up one (omega (arith, length-append (spelled b) rest)))
    ]
commas n inner c t is le rest st = alone n inner c t is (omega arith) le rest st

pub expr_again_by : (n : ℕ) (inner : Inner) → CompleteInner n inner → Again (suc n) spelled IsTree (Stops 13) (expr_by inner)
unfolding expr_by
expr_again_by n inner c t le is rest st = ends listed (assign_by inner) (comma_by inner) (spelled t ++ rest) t rest refl (commas n inner c t is le rest (stops_below 12 13 rest (omega arith) st)) (comma_none inner rest st)
