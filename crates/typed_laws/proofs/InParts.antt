-- Lists of initializers and the arms of an `if` are judged as their parts one behind the other.
use Rattle.std.proofs.Common.{◌≡◌, ℕ, suc, ◌+◌, Bool, true, List, [], ◌∷◌, ◌++◌, Option, Result, Ok, Err, refl, sym, ap, ◌∙◌, arith}
use Rattle.c_nodes.specs.Programs.{InitTree, MoreInits, NoInit, AndInit, Listed, ArmTree, Arm, Arms, NoElse, Else, ElseIf, Chain}
use Rattle.type_rules.specs.Faults as kind
use Rattle.type_rules.specs.Faults.{Fault}
use Rattle.type_rules.specs.Initializers.{items_in, with_items, has_more, begins, more_begins}
use Rattle.type_rules.specs.Known.{Known, Rule, given, known_here, tried, go_on}
use Rattle.type_rules.specs.Slots.{Slot, Begun, part}
use Rattle.type_rules.specs.Statements.{Flow, condition, statement, block_statement, statements, arm, other_arms, items}
use Rattle.typed_laws.specs.Firsts.{FirstBroken, Exactly, BreaksFirst, outcome, if_read}
use Rattle.typed_laws.specs.Parts.{ListPart, EndPart, more_parts, list_parts, Filled, list_part, list_in_turn, list_read, IfPart, BranchPart, arm_parts, other_parts, if_parts, if_part, if_in_turn}
use Rattle.typed_laws.proofs.ListParts.{outcome_given, chain, chain_on}
use Rattle.typed_laws.proofs.Firsts.{and_then, breaks_first}

-- ---- lists of initializers

listed_next : (slot : Option Slot) (p : ListPart) (ps : List ListPart) (s : Filled × Known) → list_read slot (p ∷ ps) s ≡ and_then (list_read slot (p ∷ []) s) (list_read slot ps)
listed_next slot p ps s = chain_on (list_part slot p s.0 s.1) (list_in_turn slot ps) given (λ x k. refl)

listed_first : (slot : Option Slot) → BreaksFirst (list_read slot)
listed_first slot = breaks_first (list_read slot) (λ s. refl) (listed_next slot)

at_end : {A : Type 0} (r : Result (A × Known) Fault) → go_on given r ≡ r
at_end (Ok x) = refl
at_end (Err fault) = refl

-- the end of a list of so many items
abbrev end_of : Option Slot → ℕ → ℕ → Begun → Rule Filled
end_of slot opening count b = list_part slot (EndPart opening) (count, b)

-- one item, and others behind it
item_turn : (n : ℕ) (rest : Filled → Rule Filled) (more : Begun → Rule Begun) (last : Begun → Rule Filled) (r : Result (Begun × Known) Fault) → ((b : Begun) (k : Known) → rest (n, b) k ≡ go_on last (more b k))
    → go_on rest (go_on (λ next. given (n, next)) r) ≡ go_on last (go_on more r)
item_turn n rest more last (Ok x) h = h x.0 x.1
item_turn n rest more last (Err fault) h = refl

more_turn : (is : MoreInits) (slot : Option Slot) (n count opening : ℕ) (b : Begun) (known : Known) → n + items_in is ≡ count → list_in_turn slot (more_parts opening is) (n, b) known ≡ go_on (end_of slot opening count) (more_begins is slot n b known)
unfolding begins more_begins
more_turn NoInit slot n count opening b known h = let same : n ≡ count = omega (arith, h) in at_end (end_of slot opening n b known) ∙ ap (λ (m : ℕ). end_of slot opening m b known) same
more_turn (AndInit comma i is) slot n count opening b known h = item_turn (suc n) (list_in_turn slot (more_parts opening is)) (more_begins is slot (suc n)) (end_of slot opening count) (begins i (part known slot n) true b known)
    (λ next k. more_turn is slot (suc n) count opening next k (omega (arith, h)))

-- what is made of a result is made of each rule behind it
made_behind : {A B C : Type 0} (made : B → C) (last : A → Rule B) (other : A → Rule C) (r : Result (A × Known) Fault) → ((x : A) (k : Known) → go_on (λ b. given (made b)) (last x k) ≡ other x k)
    → go_on (λ b. given (made b)) (go_on last r) ≡ go_on other r
made_behind made last other (Ok x) h = h x.0 x.1
made_behind made last other (Err fault) h = refl

made_behind_two : {A B C D : Type 0} (made : B → C) (more : D → Rule A) (last : A → Rule B) (other : A → Rule C) (r : Result (D × Known) Fault) → ((x : A) (k : Known) → go_on (λ b. given (made b)) (last x k) ≡ other x k)
    → go_on (λ b. given (made b)) (go_on (λ d. λ k. go_on last (more d k)) r) ≡ go_on other (go_on more r)
made_behind_two made more last other (Ok x) h = made_behind made last other (more x.0 x.1) h
made_behind_two made more last other (Err fault) h = refl

-- what a list gives, with the number of its items
abbrev counted : ℕ → Result (Begun × Known) Fault → Result (Filled × Known) Fault
counted count r = go_on (λ whole. given (count, whole)) r

list_turn : (opening : ℕ) (i : InitTree) (is : MoreInits) (comma : Option ℕ) (closing : ℕ) (slot : Option Slot) (inside : Bool) (b : Begun) (known : Known)
    → counted (suc (items_in is)) (begins (Listed opening i is comma closing) slot inside b known) ≡ list_read slot (list_parts opening i is) ((0, b), known)
unfolding begins more_begins
list_turn opening i is comma closing slot inside b known =
    made_behind_two (λ whole. (suc (items_in is), whole)) (more_begins is slot 1) _ (end_of slot opening (suc (items_in is))) (begins i (part known slot 0) true b known)
    (λ all k. made_behind (λ whole. (suc (items_in is), whole)) (λ (u : Known). given (with_items slot (suc (items_in is)) all)) (λ u. given (suc (items_in is), with_items slot (suc (items_in is)) all))
    (tried ((has_more k slot (suc (items_in is)), kind.Initializer) ∷ []) opening k) (λ u l. refl))
    ∙ sym (item_turn 1 (list_in_turn slot (more_parts opening is)) (more_begins is slot 1) (end_of slot opening (suc (items_in is))) (begins i (part known slot 0) true b known)
    (λ next k. more_turn is slot 1 (suc (items_in is)) opening next k (omega arith)))

same_whole : (count : ℕ) (r : Result (Begun × Known) Fault) (whole : Begun) (k : Known) → counted count r ≡ Ok ((count, whole), k) → r ≡ Ok (whole, k)
same_whole count (Ok x) whole k h = ap (λ p. Ok ((p.0).1, p.1)) (same ((count, x.0), x.1) ((count, whole), k) h)
  where
    same : (p q : Filled × Known) → ◌≡◌ {A = Result (Filled × Known) Fault} (Ok p) (Ok q) → p ≡ q
    same p q e = cc e
same_whole count (Err fault) whole k h = absurd (cc h)

same_fault : (count : ℕ) (r : Result (Begun × Known) Fault) (fault : Fault) → counted count r ≡ Err fault → r ≡ Err fault
same_fault count (Ok x) fault h = absurd (cc h)
same_fault count (Err g) fault h = ap Err (same g fault h)
  where
    same : (g f : Fault) → ◌≡◌ {A = Result (Filled × Known) Fault} (Err g) (Err f) → g ≡ f
    same g f e = cc e

pub list_met : (opening : ℕ) (i : InitTree) (is : MoreInits) (comma : Option ℕ) (closing : ℕ) (slot : Option Slot) (inside : Bool) (b whole : Begun) (known behind : Known)
    → Exactly (begins (Listed opening i is comma closing) slot inside b known ≡ Ok (whole, behind)) (list_read slot (list_parts opening i is) ((0, b), known) ≡ Ok ((suc (items_in is), whole), behind))
list_met opening i is comma closing slot inside b whole known behind = let turn = list_turn opening i is comma closing slot inside b known in (
  λ h. sym turn ∙ ap (counted (suc (items_in is))) h,
  λ h. same_whole (suc (items_in is)) (begins (Listed opening i is comma closing) slot inside b known) whole behind (turn ∙ h),
)

pub list_broken : (opening : ℕ) (i : InitTree) (is : MoreInits) (comma : Option ℕ) (closing : ℕ) (slot : Option Slot) (inside : Bool) (b : Begun) (known : Known) (fault : Fault)
    → Exactly (begins (Listed opening i is comma closing) slot inside b known ≡ Err fault) (FirstBroken (list_read slot) (list_parts opening i is) ((0, b), known) fault)
list_broken opening i is comma closing slot inside b known fault =
    let turn = list_turn opening i is comma closing slot inside b known in
    let first = listed_first slot (list_parts opening i is) ((0, b), known) fault in (
      λ h. first.0 (sym turn ∙ ap (counted (suc (items_in is))) h),
      λ h. same_fault (suc (items_in is)) (begins (Listed opening i is comma closing) slot inside b known) fault (turn ∙ first.1 h),
    )

-- ---- the arms of an `if`

if_next : (flow : Flow) (p : IfPart) (ps : List IfPart) (k : Known) → if_read flow (p ∷ ps) k ≡ and_then (if_read flow (p ∷ []) k) (if_read flow ps)
if_next flow p ps k = chain (if_part flow p k) (λ u. if_in_turn flow ps) (λ u. known_here) (if_read flow ps) (λ u k2. refl) (λ u k2. refl)

if_first : (flow : Flow) → BreaksFirst (if_read flow)
if_first flow = breaks_first (if_read flow) (λ k. refl) (if_next flow)

-- a part that is a rule, and others behind it
branch_turn : {A B : Type 0} (made : A → B) (rest : Rule Known) (r : Result (A × Known) Fault) → outcome (go_on (λ u. rest) (go_on (λ x. known_here) r)) ≡ and_then (outcome (go_on (λ x. given (made x)) r)) (λ k. outcome (rest k))
branch_turn made rest (Ok x) = refl
branch_turn made rest (Err fault) = refl

condition_turn : {A B : Type 0} (first : Rule Known) (second : A → Rule B) (rest : Known → Result Known Fault) (r : Result (A × Known) Fault) → ((x : A) (k : Known) → outcome (first k) ≡ and_then (outcome (second x k)) rest)
    → outcome (go_on (λ u. first) (go_on (λ x. known_here) r)) ≡ and_then (outcome (go_on second r)) rest
condition_turn first second rest (Ok x) h = h x.0 x.1
condition_turn first second rest (Err fault) h = refl

arm_turn : (a : ArmTree) (ps : List IfPart) (flow : Flow) (k : Known) → if_read flow (arm_parts a ++ ps) k ≡ and_then (outcome (arm a flow k)) (if_read flow ps)
unfolding statement block_statement statements arm other_arms items
arm_turn (Arm line c s) ps flow k = condition_turn (if_in_turn flow (BranchPart s ∷ ps)) _ (if_read flow ps) (condition c.expr k) (λ e l. branch_turn _ (if_in_turn flow ps) (statement s flow l))

-- an arm, and others behind it
arms_turn : {A C : Type 0} (second : A → Rule C) (rest : Known → Result Known Fault) (r : Result (A × Known) Fault) → ((x : A) (k : Known) → rest k ≡ outcome (second x k)) → and_then (outcome r) rest ≡ outcome (go_on second r)
arms_turn second rest (Ok x) h = h x.0 x.1
arms_turn second rest (Err fault) h = refl

last_turn : {A B : Type 0} (made : A → B) (r : Result (A × Known) Fault) → outcome (go_on (λ u. known_here) (go_on (λ x. known_here) r)) ≡ outcome (go_on (λ x. given (made x)) r)
last_turn made (Ok x) = refl
last_turn made (Err fault) = refl

others_turn : (as_ : Arms) (flow : Flow) (k : Known) → if_read flow (other_parts as_) k ≡ outcome (other_arms as_ flow k)
unfolding statement block_statement statements arm other_arms items
others_turn NoElse flow k = refl
others_turn (Else line s) flow k = last_turn _ (statement s flow k)
others_turn (ElseIf line a as_) flow k = arm_turn a (other_parts as_) flow k ∙ arms_turn _ (if_read flow (other_parts as_)) (arm a flow k) (λ x l. others_turn as_ flow l ∙ sym (outcome_given _ (other_arms as_ flow l)))

if_turn : (a : ArmTree) (as_ : Arms) (flow : Flow) (k : Known) → if_read flow (if_parts a as_) k ≡ outcome (statement (Chain a as_) flow k)
unfolding statement block_statement statements arm other_arms items
if_turn a as_ flow k = arm_turn a (other_parts as_) flow k ∙ arms_turn _ (if_read flow (other_parts as_)) (arm a flow k) (λ x l. others_turn as_ flow l ∙ sym (outcome_given _ (other_arms as_ flow l)))

of_outcome : {A : Type 0} (r : Result (A × Known) Fault) (fault : Fault) → outcome r ≡ Err fault → r ≡ Err fault
of_outcome (Ok x) fault h = absurd (cc h)
of_outcome {A} (Err g) fault h = ap Err (same g fault h)
  where
    same : (g f : Fault) → ◌≡◌ {A = Result Known Fault} (Err g) (Err f) → g ≡ f
    same g f e = cc e

pub if_met : (a : ArmTree) (as_ : Arms) (flow : Flow) (known behind : Known) → Exactly (outcome (statement (Chain a as_) flow known) ≡ Ok behind) (if_read flow (if_parts a as_) known ≡ Ok behind)
if_met a as_ flow known behind = (λ h. if_turn a as_ flow known ∙ h, λ h. sym (if_turn a as_ flow known) ∙ h)

pub if_broken : (a : ArmTree) (as_ : Arms) (flow : Flow) (known : Known) (fault : Fault) → Exactly (statement (Chain a as_) flow known ≡ Err fault) (FirstBroken (if_read flow) (if_parts a as_) known fault)
if_broken a as_ flow known fault = let first = if_first flow (if_parts a as_) known fault in (
  λ h. first.0 (if_turn a as_ flow known ∙ ap outcome h),
  λ h. of_outcome (statement (Chain a as_) flow known) fault (sym (if_turn a as_ flow known) ∙ first.1 h),
)
