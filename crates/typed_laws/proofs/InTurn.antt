-- The judgement of an expression is that of its nodes one behind the other.
use Rattle.std.proofs.Common.{◌≡◌, ℕ, ◌+◌, List, [], ◌∷◌, ◌++◌, length, Result, Ok, Err, refl, sym, ap, ◌∙◌}
use Rattle.c_nodes.specs.Trees as tree
use Rattle.c_nodes.specs.Trees.{Tree, Post, TypeTree, spelled, spelled_post, spelled_type, spelled_pre}
use Rattle.c_nodes.specs.Words.{Symbol}
use Rattle.c_typed.specs.declared.types.Qualified.{Qualified}
use Rattle.type_rules.specs.Expressions.{leaf, bracketed, signed, selected, step_behind, judged, judged_behind}
use Rattle.type_rules.specs.Faults.{Fault}
use Rattle.type_rules.specs.Known.{Known, Rule, given, go_on}
use Rattle.type_rules.specs.Places.{before_index, element, size_of_type, size_of_term}
use Rattle.type_rules.specs.Terms.{Operand, Term, used, no_table}
use Rattle.type_rules.specs.TypeNames.{type_named}
use Rattle.type_rules.specs.Writes.{stepped, called, call}
use Rattle.typed_laws.specs.Nodes.{LeafNode, GroupNode, ValueNode, SignNode, SizeofNode, TypeNode, CastNode, MeasureNode, JoinNode, ChoiceNode, TargetNode, AssignNode, WholeNode, IndexNode, CalleeNode, BareCallNode, CallNode, FieldNode, StepNode, Placed, nodes_of, nodes_behind, Part, TermPart, ValuePart, TypePart, as_term_before, cast_rule, join_rule, choice_rule, assign_rule, call_rule, own, in_turn}

-- ---- one behind the other

pub none_turn : (ps : List Part) (known : Known) → in_turn [] ps known ≡ Ok (ps, known)
unfolding in_turn
none_turn ps known = refl

pub one_turn : (n : Placed) (ns : List Placed) (ps : List Part) (known : Known) → in_turn (n ∷ ns) ps known ≡ go_on (in_turn ns) (own n.node ps known)
unfolding in_turn
one_turn n ns ps known = refl

turn_by : (ys : List Placed) (r : Result (List Part × Known) Fault) (xs : List Placed) → ((ps : List Part) (k : Known) → in_turn (xs ++ ys) ps k ≡ go_on (in_turn ys) (in_turn xs ps k))
    → go_on (in_turn (xs ++ ys)) r ≡ go_on (in_turn ys) (go_on (in_turn xs) r)
turn_by ys (Ok x) xs h = h x.0 x.1
turn_by ys (Err fault) xs h = refl

turn_append : (xs ys : List Placed) (ps : List Part) (known : Known) → in_turn (xs ++ ys) ps known ≡ go_on (in_turn ys) (in_turn xs ps known)
turn_append [] ys ps known = ap (go_on (in_turn ys)) (sym (none_turn ps known))
turn_append (x ∷ xs) ys ps known = one_turn x (xs ++ ys) ps known ∙ (turn_by ys (own x.node ps known) xs (turn_append xs ys) ∙ ap (go_on (in_turn ys)) (sym (one_turn x xs ps known)))

module _ {A B : Type 0} (parts : A → List Part) (final : B → Rule (List Part)) (second : A → Rule B) (ys : List Placed) where
  going : (r : Result (A × Known) Fault) → ((x : A) (k : Known) → in_turn ys (parts x) k ≡ go_on final (second x k)) → go_on (in_turn ys) (go_on (λ x. given (parts x)) r) ≡ go_on final (go_on second r)
  going (Ok x) more = more x.0 x.1
  going (Err fault) more = refl

  -- nodes that make something of parts, and others behind them
  turns_on : (xs : List Placed) (ps : List Part) (known : Known) (r : Result (A × Known) Fault) → in_turn xs ps known ≡ go_on (λ x. given (parts x)) r
      → ((x : A) (k : Known) → in_turn ys (parts x) k ≡ go_on final (second x k)) → in_turn (xs ++ ys) ps known ≡ go_on final (go_on second r)
  turns_on xs ps known r h more = turn_append xs ys ps known ∙ (ap (go_on (in_turn ys)) h ∙ going r more)

  -- one node, and others behind it
  turns_one : (n : Placed) (ps : List Part) (known : Known) (r : Result (A × Known) Fault) → own n.node ps known ≡ go_on (λ x. given (parts x)) r
      → ((x : A) (k : Known) → in_turn ys (parts x) k ≡ go_on final (second x k)) → in_turn (n ∷ ys) ps known ≡ go_on final (go_on second r)
  turns_one n ps known r h more = one_turn n ys ps known ∙ (ap (go_on (in_turn ys)) h ∙ going r more)

ended : {B : Type 0} (parts : B → List Part) (r : Result (B × Known) Fault) → go_on (in_turn []) (go_on (λ x. given (parts x)) r) ≡ go_on (λ x. given (parts x)) r
ended parts (Ok x) = none_turn (parts x.0) x.1
ended parts (Err fault) = refl

-- the last node
turns_last : (ps qs : List Part) (n : Placed) (known : Known) (r : Result (Term × Known) Fault) → own n.node qs known ≡ go_on (as_term_before ps) r → in_turn (n ∷ []) qs known ≡ go_on (as_term_before ps) r
turns_last ps qs n known r h = one_turn n [] qs known ∙ (ap (go_on (in_turn [])) h ∙ ended (λ t. TermPart t ∷ ps) r)

-- ---- the rule of each node

module _ (ps : List Part) (known : Known) where
  own_leaf : (s : Symbol) → own (LeafNode s) ps known ≡ go_on (as_term_before ps) (leaf s.kind s.bytes s.line known)
  unfolding own
  own_leaf s = refl

  own_group : (opening : ℕ) (t : Term) → own (GroupNode opening) (TermPart t ∷ ps) known ≡ go_on (as_term_before ps) (given (bracketed t opening) known)
  unfolding own
  own_group opening t = refl

  own_value : (t : Term) → own ValueNode (TermPart t ∷ ps) known ≡ go_on (λ x. given (ValuePart t x ∷ ps)) (used t known)
  unfolding own
  own_value t = refl

  own_sign : (s : Symbol) (t : Term) → own (SignNode s) (TermPart t ∷ ps) known ≡ go_on (as_term_before ps) (signed s.kind t s.line known)
  unfolding own
  own_sign s t = refl

  own_sizeof : (line : ℕ) (t : Term) → own (SizeofNode line) (TermPart t ∷ ps) known ≡ go_on (as_term_before ps) (size_of_term t line known)
  unfolding own
  own_sizeof line t = refl

  own_type : (ty : TypeTree) → own (TypeNode ty) ps known ≡ go_on (λ of. given (TypePart of ∷ ps)) (type_named ty known)
  unfolding own
  own_type ty = refl

  own_cast : (line : ℕ) (t : Term) (to : Qualified) → own (CastNode line) (TermPart t ∷ TypePart to ∷ ps) known ≡ go_on (as_term_before ps) (cast_rule to t line known)
  unfolding own
  own_cast line t to = refl

  own_measure : (line : ℕ) (of : Qualified) → own (MeasureNode line) (TypePart of ∷ ps) known ≡ go_on (as_term_before ps) (size_of_type of.ty line known)
  unfolding own
  own_measure line of = refl

  own_join : (s : Symbol) (left right : Term) (x : Operand) → own (JoinNode s) (TermPart right ∷ ValuePart left x ∷ ps) known ≡ go_on (as_term_before ps) (join_rule s left x right known)
  unfolding own
  own_join s left right x = refl

  own_choice : (condition first second : Term) (x y : Operand) → own ChoiceNode (TermPart second ∷ ValuePart first y ∷ ValuePart condition x ∷ ps) known ≡ go_on (as_term_before ps) (choice_rule x y second known)
  unfolding own
  own_choice condition first second x y = refl

  own_target : (t : Term) → own TargetNode (TermPart t ∷ ps) known ≡ go_on (λ u. given (TermPart t ∷ ps)) (no_table t known)
  unfolding own
  own_target t = refl

  own_assign : (s : Symbol) (target value : Term) → own (AssignNode s) (TermPart value ∷ TermPart target ∷ ps) known ≡ go_on (as_term_before ps) (assign_rule s target value known)
  unfolding own
  own_assign s target value = refl

  own_whole : (t : Term) → own WholeNode (TermPart t ∷ ps) known ≡ go_on (as_term_before ps) (before_index t known)
  unfolding own
  own_whole t = refl

  own_index : (whole index : Term) → own IndexNode (TermPart index ∷ TermPart whole ∷ ps) known ≡ go_on (as_term_before ps) (element whole index known)
  unfolding own
  own_index whole index = refl

  own_callee : (t : Term) → own CalleeNode (TermPart t ∷ ps) known ≡ go_on (λ u. given (TermPart t ∷ ps)) (called t known)
  unfolding own
  own_callee t = refl

  own_bare : (t : Term) → own BareCallNode (TermPart t ∷ ps) known ≡ go_on (as_term_before ps) (call t [] known)
  unfolding own
  own_bare t = refl

  own_call : (t list : Term) → own CallNode (TermPart list ∷ TermPart t ∷ ps) known ≡ go_on (as_term_before ps) (call_rule t list known)
  unfolding own
  own_call t list = refl

  own_field : (s n : Symbol) (t : Term) → own (FieldNode s n) (TermPart t ∷ ps) known ≡ go_on (as_term_before ps) (selected s.kind t n.bytes known)
  unfolding own
  own_field s n t = refl

  own_step : (s : Symbol) (t : Term) → own (StepNode s) (TermPart t ∷ ps) known ≡ go_on (as_term_before ps) (stepped (step_behind s.kind) t t.start known)
  unfolding own
  own_step s t = refl

-- ---- the recursion

mutual
  unfolding judged judged_behind

  pub nodes_turn : (e : Tree) (from : ℕ) (ps : List Part) (known : Known) → in_turn (nodes_of e from) ps known ≡ go_on (as_term_before ps) (judged e known)
  nodes_turn (tree.Leaf s) from ps known = turns_last ps ps _ known _ (own_leaf ps known s)
  nodes_turn (tree.Group opening e closing) from ps known = turns_on (λ t. TermPart t ∷ ps) (as_term_before ps) _ _ (nodes_of e (from + 1)) ps known _ (nodes_turn e (from + 1) ps known) (λ t k. turns_last ps (TermPart t ∷ ps) _ k (given (bracketed t opening) k) (own_group ps k opening t))
  nodes_turn (tree.Behind e p) from ps known = turns_on (λ t. TermPart t ∷ ps) (as_term_before ps) _ _ (nodes_of e from) ps known _ (nodes_turn e from ps known) (λ t k. behind_turn p (from + length (spelled e)) t ps k)
  nodes_turn (tree.Before (tree.Sign s) e) from ps known = turns_on (λ t. TermPart t ∷ ps) (as_term_before ps) _ _ (nodes_of e (from + 1)) ps known _ (nodes_turn e (from + 1) ps known) (λ t k. turns_last ps (TermPart t ∷ ps) _ k _ (own_sign ps k s t))
  nodes_turn (tree.Before (tree.Sizeof line) e) from ps known = turns_on (λ t. TermPart t ∷ ps) (as_term_before ps) _ _ (nodes_of e (from + 1)) ps known _ (nodes_turn e (from + 1) ps known) (λ t k. turns_last ps (TermPart t ∷ ps) _ k _ (own_sizeof ps k line t))
  nodes_turn (tree.Before (tree.Cast line ty closing) e) from ps known = turns_one (λ to. TypePart to ∷ ps) (as_term_before ps) _ _ _ ps known _ (own_type ps known ty)
      (λ to k. turns_on (λ t. TermPart t ∷ TypePart to ∷ ps) (as_term_before ps) _ _ (nodes_of e (from + 2 + length (spelled_type ty))) (TypePart to ∷ ps) k _ (nodes_turn e (from + 2 + length (spelled_type ty)) (TypePart to ∷ ps) k)
      (λ t k2. turns_last ps (TermPart t ∷ TypePart to ∷ ps) _ k2 _ (own_cast ps k2 line t to)))
  nodes_turn (tree.Measure line opening ty closing) from ps known = turns_one (λ of. TypePart of ∷ ps) (as_term_before ps) _ _ _ ps known _ (own_type ps known ty) (λ of k. turns_last ps (TypePart of ∷ ps) _ k _ (own_measure ps k line of))
  nodes_turn (tree.Join s a b) from ps known = turns_on (λ t. TermPart t ∷ ps) (as_term_before ps) _ _ (nodes_of a from) ps known _ (nodes_turn a from ps known)
      (λ left k. turns_one (λ x. ValuePart left x ∷ ps) (as_term_before ps) _ _ _ (TermPart left ∷ ps) k _ (own_value ps k left)
      (λ x k2. turns_on (λ t. TermPart t ∷ ValuePart left x ∷ ps) (as_term_before ps) _ _ (nodes_of b (from + length (spelled a) + 1)) (ValuePart left x ∷ ps) k2 _ (nodes_turn b (from + length (spelled a) + 1) (ValuePart left x ∷ ps) k2)
      (λ right k3. turns_last ps (TermPart right ∷ ValuePart left x ∷ ps) _ k3 _ (own_join ps k3 s left right x))))
  nodes_turn (tree.Choose c question a colon b) from ps known = turns_on (λ t. TermPart t ∷ ps) (as_term_before ps) _ _ (nodes_of c from) ps known _ (nodes_turn c from ps known)
      (λ condition k. turns_one (λ x. ValuePart condition x ∷ ps) (as_term_before ps) _ _ _ (TermPart condition ∷ ps) k _ (own_value ps k condition)
      (λ x k2. turns_on (λ t. TermPart t ∷ ValuePart condition x ∷ ps) (as_term_before ps) _ _ (nodes_of a (from + length (spelled c) + 1)) (ValuePart condition x ∷ ps) k2 _ (nodes_turn a (from + length (spelled c) + 1) (ValuePart condition x ∷ ps) k2)
      (λ first k3. turns_one (λ y. ValuePart first y ∷ ValuePart condition x ∷ ps) (as_term_before ps) _ _ _ (TermPart first ∷ ValuePart condition x ∷ ps) k3 _ (own_value (ValuePart condition x ∷ ps) k3 first)
      (λ y k4. turns_on (λ t. TermPart t ∷ ValuePart first y ∷ ValuePart condition x ∷ ps) (as_term_before ps) _ _ (nodes_of b (from + length (spelled c) + 1 + length (spelled a) + 1)) (ValuePart first y ∷ ValuePart condition x ∷ ps) k4 _
      (nodes_turn b (from + length (spelled c) + 1 + length (spelled a) + 1) (ValuePart first y ∷ ValuePart condition x ∷ ps) k4)
      (λ second k5. turns_last ps (TermPart second ∷ ValuePart first y ∷ ValuePart condition x ∷ ps) _ k5 _ (own_choice ps k5 condition first second x y))))))
  nodes_turn (tree.Assign a s b) from ps known = turns_on (λ t. TermPart t ∷ ps) (as_term_before ps) _ _ (nodes_of a from) ps known _ (nodes_turn a from ps known)
      (λ target k. turns_one (λ u. TermPart target ∷ ps) (as_term_before ps) _ _ _ (TermPart target ∷ ps) k _ (own_target ps k target)
      (λ u k2. turns_on (λ t. TermPart t ∷ TermPart target ∷ ps) (as_term_before ps) _ _ (nodes_of b (from + length (spelled a) + 1)) (TermPart target ∷ ps) k2 _ (nodes_turn b (from + length (spelled a) + 1) (TermPart target ∷ ps) k2)
      (λ value k3. turns_last ps (TermPart value ∷ TermPart target ∷ ps) _ k3 _ (own_assign ps k3 s target value))))

  behind_turn : (p : Post) (from : ℕ) (t : Term) (ps : List Part) (known : Known) → in_turn (nodes_behind p from) (TermPart t ∷ ps) known ≡ go_on (as_term_before ps) (judged_behind p t known)
  behind_turn (tree.Index opening e closing) from t ps known = turns_one (λ whole. TermPart whole ∷ ps) (as_term_before ps) _ _ _ (TermPart t ∷ ps) known _ (own_whole ps known t)
      (λ whole k. turns_on (λ u. TermPart u ∷ TermPart whole ∷ ps) (as_term_before ps) _ _ (nodes_of e (from + 1)) (TermPart whole ∷ ps) k _ (nodes_turn e (from + 1) (TermPart whole ∷ ps) k)
      (λ index k2. turns_last ps (TermPart index ∷ TermPart whole ∷ ps) _ k2 _ (own_index ps k2 whole index)))
  behind_turn (tree.CallBare opening closing) from t ps known = turns_one (λ u. TermPart t ∷ ps) (as_term_before ps) _ _ _ (TermPart t ∷ ps) known _ (own_callee ps known t) (λ u k. turns_last ps (TermPart t ∷ ps) _ k _ (own_bare ps k t))
  behind_turn (tree.Call opening e closing) from t ps known = turns_one (λ u. TermPart t ∷ ps) (as_term_before ps) _ _ _ (TermPart t ∷ ps) known _ (own_callee ps known t)
      (λ u k. turns_on (λ l. TermPart l ∷ TermPart t ∷ ps) (as_term_before ps) _ _ (nodes_of e (from + 1)) (TermPart t ∷ ps) k _ (nodes_turn e (from + 1) (TermPart t ∷ ps) k)
      (λ list k2. turns_last ps (TermPart list ∷ TermPart t ∷ ps) _ k2 _ (own_call ps k2 t list)))
  behind_turn (tree.Field s n) from t ps known = turns_last ps (TermPart t ∷ ps) _ known _ (own_field ps known s n t)
  behind_turn (tree.Step s) from t ps known = turns_last ps (TermPart t ∷ ps) _ known _ (own_step ps known s t)
