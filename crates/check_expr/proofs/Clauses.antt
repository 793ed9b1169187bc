-- What the rule on expressions says of each kind of node.
use Rattle.std.proofs.Common.{◌≡◌, ℕ, [], Result, refl, sym, ap, subst, ◌∙◌}
use Rattle.c_nodes.specs.Trees as tree
use Rattle.c_nodes.specs.Trees.{Tree, Post, TypeTree}
use Rattle.c_nodes.specs.Words.{Symbol}
use Rattle.type_rules.specs.Expressions.{judged, judged_behind, leaf, bracketed, listed_by, signed, selected, step_behind, arguments_in}
use Rattle.type_rules.specs.Known.{Known, Rule, given, known_here, wanted, go_on, ◌>>=◌}
use Rattle.type_rules.specs.Terms.{Term, Operand, side_of, used, indexed, no_table}
use Rattle.type_rules.specs.TypeNames.{type_named}
use Rattle.type_rules.specs.Faults as kind
use Rattle.type_rules.specs.Faults.{Fault}
use Rattle.type_rules.specs.Operations.{operation_of}
use Rattle.c_ints.specs.declared.operators.BinOp.TheVariants as binop
use Rattle.type_rules.specs.Operators.{between, choice, cast}
use Rattle.type_rules.specs.Places.{before_index, element, element_at, pointed_type, size_of_type, size_of_term}
use Rattle.type_rules.specs.Writes.{assignment, stepped, called, call}
use Rattle.c_tables.specs.Answers.{Answers}
use Rattle.c_terms.specs.Terms.{term_of}
use Rattle.c_tables.specs.declared.error.CheckError.{CheckError}
use Rattle.c_terms.specs.declared.term.Term as checked
use Rattle.check_expr.specs.Lists.{sized_name}
use Rattle.check_expr.specs.Folds.{bare, arguments_read}
use Rattle.check_expr.specs.Views.{unlisted}
use Rattle.check_expr.proofs.Runs.{same_behind, grouped, indexed_bare, unseen}

pub judged_leaf : (s : Symbol) → judged (tree.Leaf s) ≡ leaf s.kind s.bytes s.line
unfolding judged judged_behind
judged_leaf s = refl

pub judged_group : (o : ℕ) (e : Tree) (c : ℕ) (k : Known) → judged (tree.Group o e c) k ≡ go_on (λ t. given (bracketed t o)) (judged e k)
unfolding judged judged_behind
judged_group o e c k = refl

pub judged_post : (e : Tree) (p : Post) (k : Known) → judged (tree.Behind e p) k ≡ go_on (λ t. judged_behind p t) (judged e k)
unfolding judged judged_behind
judged_post e p k = refl

pub judged_sign : (s : Symbol) (e : Tree) (k : Known) → judged (tree.Before (tree.Sign s) e) k ≡ go_on (λ t. signed s.kind t s.line) (judged e k)
unfolding judged judged_behind
judged_sign s e k = refl

pub judged_sizeof : (line : ℕ) (e : Tree) (k : Known) → judged (tree.Before (tree.Sizeof line) e) k ≡ go_on (λ t. size_of_term t line) (judged e k)
unfolding judged judged_behind
judged_sizeof line e k = refl

pub judged_cast : (line : ℕ) (ty : TypeTree) (c : ℕ) (e : Tree) (k : Known) → judged (tree.Before (tree.Cast line ty c) e) k ≡ go_on (λ to. judged e >>= (λ t. used t >>= (λ x. cast to.ty x line))) (type_named ty k)
unfolding judged judged_behind
judged_cast line ty c e k = refl

pub judged_measure : (line o : ℕ) (ty : TypeTree) (c : ℕ) (k : Known) → judged (tree.Measure line o ty c) k ≡ go_on (λ of. size_of_type of.ty line) (type_named ty k)
unfolding judged judged_behind
judged_measure line o ty c k = refl

-- a call that measures the name of a type
pub measured_as : (result : Result checked.Term CheckError) (after : Known) (line o : ℕ) (ty : TypeTree) (c : ℕ) (k : Known) → Answers term_of result after (sized_name ty line k) → Answers term_of result after (judged (tree.Measure line o ty c) k)
measured_as result after line o ty c k h = subst (Answers term_of result after) (sym (judged_measure line o ty c k)) h

pub judged_join : (s : Symbol) (a b : Tree) (k : Known) → judged (tree.Join s a b) k ≡ go_on (λ left. used left >>= (λ x. judged b >>= (λ right. used right >>= (λ y. between s.kind x y >>= (λ t. given (listed_by s.kind left.listed x y t)))))) (judged a k)
unfolding judged judged_behind
judged_join s a b k = refl

pub judged_choose : (c : Tree) (q : ℕ) (a : Tree) (l : ℕ) (b : Tree) (k : Known) → judged (tree.Choose c q a l b) k ≡ go_on (λ condition. used condition >>= (λ x. judged a >>= (λ first. used first >>= (λ y. judged b >>= (λ second. used second >>= (λ z. choice x y z)))))) (judged c k)
unfolding judged judged_behind
judged_choose c q a l b k = refl

pub judged_assign : (a : Tree) (s : Symbol) (b : Tree) (k : Known) → judged (tree.Assign a s b) k ≡ go_on (λ target. no_table target >>= (λ _. judged b >>= (λ value. used value >>= (λ x. assignment s.kind target x)))) (judged a k)
unfolding judged judged_behind
judged_assign a s b k = refl

-- ---- postfixes; what stands between the commas of an index isn't asked

pub behind_index : (o : ℕ) (e : Tree) (c : ℕ) (t : Term) (k : Known) → judged_behind (tree.Index o e c) t k ≡ go_on (λ whole. judged e >>= (λ index. element whole index)) (before_index t k)
unfolding judged judged_behind
behind_index o e c t k = refl

pub behind_bare_call : (o c : ℕ) (t : Term) (k : Known) → judged_behind (tree.CallBare o c) t k ≡ go_on (λ _. call t []) (called t k)
unfolding judged judged_behind
behind_bare_call o c t k = refl

behind_call_in_parts : (o : ℕ) (e : Tree) (c : ℕ) (t : Term) (k : Known) → judged_behind (tree.Call o e c) t k ≡ go_on (λ _. judged e >>= (λ list. arguments_in list.listed list >>= (λ arguments. call t arguments))) (called t k)
unfolding judged judged_behind
behind_call_in_parts o e c t k = refl

pub behind_call : (o : ℕ) (e : Tree) (c : ℕ) (t : Term) (k : Known) → judged_behind (tree.Call o e c) t k ≡ go_on (λ _. arguments_read e >>= (λ arguments. call t arguments)) (called t k)
behind_call o e c t k = behind_call_in_parts o e c t k ∙ same_behind (λ _. judged e >>= (λ list. arguments_in list.listed list >>= (λ arguments. call t arguments))) (λ _. arguments_read e >>= (λ arguments. call t arguments)) (λ _ k. sym (grouped (λ list. arguments_in list.listed list) (λ arguments. call t arguments) (judged e k))) (called t k)

pub behind_field : (s n : Symbol) (t : Term) → judged_behind (tree.Field s n) t ≡ selected s.kind t n.bytes
unfolding judged judged_behind
behind_field s n t = refl

pub behind_step : (s : Symbol) (t : Term) → judged_behind (tree.Step s) t ≡ stepped (step_behind s.kind) t t.start
unfolding judged judged_behind
behind_step s t = refl

second_same : {A B C : Type 0} (first : Rule A) (r r' : Rule B) (f : A → B → Rule C) → ((k : Known) → r k ≡ r' k) → (k : Known) → (first >>= (λ x. r >>= f x)) k ≡ (first >>= (λ x. r' >>= f x)) k
second_same first r r' f e k = same_behind (λ x. r >>= f x) (λ x. r' >>= f x) (λ x k. ap (λ q. go_on (f x) q) (e k)) (first k)

-- the element of a place, once the operands are values
abbrev element_of : Term → Operand → Operand → Rule Term
element_of whole x y = do
  known ← known_here
  found ← wanted kind.Operand whole.start (operation_of known binop.Add (side_of x) (side_of y))
  ty ← wanted kind.Operand whole.start (pointed_type known found.ty)
  given (element_at x y found ty whole.start)

pub element_bare : (whole index : Term) (k : Known) → element whole (bare index) k ≡ element whole index k
element_bare whole index k = second_same (indexed whole) (indexed (bare index)) (indexed index) (element_of whole) (indexed_bare index) k

pub unseen_index : (whole : Term) (r : Result (Term × Known) Fault) {said : Result (Term × Known) Fault} → go_on (λ index. element whole index) r ≡ said → go_on (λ index. element whole index) (unlisted r) ≡ said
unseen_index whole r p = unseen (λ index. element whole index) (λ index k. element_bare whole index k) r ∙ p

pub bracketed_bare : (t : Term) (opening : ℕ) (k : Known) → given (bracketed (bare t) opening) k ≡ given (bracketed t opening) k
bracketed_bare t opening k = refl
