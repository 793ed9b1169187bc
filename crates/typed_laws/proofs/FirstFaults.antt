-- Where the first part that breaks a rule stands: expressions, and lists of declarations and of statements.
use Rattle.std.proofs.Common.{◌≡◌, ℕ, Bool, List, [], ◌∷◌, ◌++◌, Result, Ok, Err, refl, sym, ap, ap₂, ◌∙◌}
use Rattle.std.specs.Prelude.{ℤ}
use Rattle.c_ints.specs.declared.types.IntTy.{IntTy}
use Rattle.c_nodes.specs.Lists as lists
use Rattle.c_nodes.specs.ProgramViews.{InnerTree, LabelInner, StatementInner, statements_of, items_of}
use Rattle.c_nodes.specs.Programs as tree
use Rattle.c_nodes.specs.Programs.{ItemTree, BegunTree, DeclarationTree, StatementTree}
use Rattle.c_nodes.specs.Trees.{Tree, MemberTree, DeclaratorTree, EnumeratorTree, ParamTree}
use Rattle.type_rules.specs.Declarations.{file_declaration, file_declarator, more_in_file, block_declarator, more_in_block, block_declaration, block_declarations}
use Rattle.type_rules.specs.Declarators.{specified, more_specs, spec_rule, members, more_members, more_fields, field, suffixes, suffix, more_params, param}
use Rattle.type_rules.specs.Enumerators.{enumerator, more_enumerators}
use Rattle.type_rules.specs.Expressions.{judged}
use Rattle.type_rules.specs.Faults.{Fault}
use Rattle.type_rules.specs.Known.{Known, given, known_here, go_on}
use Rattle.type_rules.specs.Outlines.{Param}
use Rattle.type_rules.specs.Specifiers.{Specified}
use Rattle.type_rules.specs.Statements.{Flow, SwitchBody, label_rule, statement, block_statement, statements, arm, other_arms, items}
use Rattle.type_rules.specs.Terms.{Term}
use Rattle.type_rules.specs.Units.{function, functions_of}
use Rattle.typed_laws.specs.Firsts.{FirstBroken, Exactly, items_outcome, in_file_outcome, in_block_outcome, declarations_outcome, members_outcome, fields_outcome, statements_outcome, enumerators_read, params_read, switch_read}
use Rattle.typed_laws.specs.SizesAndFaults.{FirstFault}
use Rattle.typed_laws.specs.Nodes.{Placed, nodes_of, Part, TermPart, as_term_before, own, in_turn, Reading, read}
use Rattle.typed_laws.proofs.ListParts.{outcome_given, chain, chain_to, chain_on}
use Rattle.typed_laws.proofs.Firsts.{and_then, breaks_first}
use Rattle.typed_laws.proofs.InParts.{list_met, list_broken, if_met, if_broken}
use Rattle.typed_laws.proofs.InTurn.{none_turn, one_turn, nodes_turn}
use Rattle.typed_laws.proofs.Ordered.{in_order}

-- ---- nodes

none_read : (s : Reading) → read [] s ≡ Ok s
none_read s = none_turn s.0 s.1

read_by : (ns : List Placed) (r : Result (List Part × Known) Fault) → go_on (in_turn ns) r ≡ and_then (go_on (in_turn []) r) (read ns)
read_by ns (Ok x) = ap (λ r. and_then r (read ns)) (sym (none_turn x.0 x.1))
read_by ns (Err fault) = refl

one_read : (n : Placed) (ns : List Placed) (s : Reading) → read (n ∷ ns) s ≡ and_then (read (n ∷ []) s) (read ns)
one_read n ns s = one_turn n ns s.0 s.1 ∙ (read_by ns (own n.node s.0 s.1) ∙ ap (λ r. and_then r (read ns)) (sym (one_turn n [] s.0 s.1)))

-- what a judgement is, from its nodes, and the other way
same_fault : (r : Result (Term × Known) Fault) (f : Fault) → go_on (as_term_before []) r ≡ Err f → r ≡ Err f
same_fault (Ok x) f h = absurd (cc h)
same_fault (Err g) f h = ap Err (same g f h)
  where
    same : (g f : Fault) → ◌≡◌ {A = Result (List Part × Known) Fault} (Err g) (Err f) → g ≡ f
    same g f e = cc e

same_term : (r : Result (Term × Known) Fault) (t : Term) (k : Known) → go_on (as_term_before []) r ≡ Ok (TermPart t ∷ [], k) → r ≡ Ok (t, k)
same_term (Ok x) t k h =
    let both : (TermPart x.0 ∷ [], x.1) ≡ (TermPart t ∷ [], k) = same_pair (TermPart x.0 ∷ [], x.1) (TermPart t ∷ [], k) h in
    ap₂ (λ (u : Term) (l : Known). Ok (u, l)) (only x.0 t (ap (λ p. p.0) both)) (ap (λ p. p.1) both)
  where
    same_pair : (p q : List Part × Known) → ◌≡◌ {A = Result (List Part × Known) Fault} (Ok p) (Ok q) → p ≡ q
    same_pair p q e = cc e

    only : (u v : Term) → ◌≡◌ {A = List Part} (TermPart u ∷ []) (TermPart v ∷ []) → u ≡ v
    only u v e = cc e
same_term (Err g) t k h = absurd (cc h)

judged_met : (e : Tree) (from : ℕ) (known : Known) (t : Term) (behind : Known) → Exactly (judged e known ≡ Ok (t, behind)) (read (nodes_of e from) ([], known) ≡ Ok (TermPart t ∷ [], behind))
judged_met e from known t behind = (
  λ h. nodes_turn e from [] known ∙ ap (go_on (as_term_before [])) h,
  λ h. same_term (judged e known) t behind (sym (nodes_turn e from [] known) ∙ h),
)

judged_broken : (e : Tree) (from : ℕ) (known : Known) (fault : Fault) → Exactly (judged e known ≡ Err fault) (FirstBroken read (nodes_of e from) ([], known) fault)
judged_broken e from known fault =
    let first = breaks_first read none_read one_read (nodes_of e from) ([], known) fault in (
      λ h. first.0 (nodes_turn e from [] known ∙ ap (go_on (as_term_before [])) h),
      λ h. same_fault (judged e known) fault (sym (nodes_turn e from [] known) ∙ first.1 h),
    )

-- ---- lists of declarations and of statements

items_next : (i : ItemTree) (is : List ItemTree) (k : Known) → items_outcome (i ∷ is) k ≡ and_then (items_outcome (i ∷ []) k) (items_outcome is)
items_next (tree.Function s d b) is k = chain (function s d b k) (λ first. λ k2. go_on (λ others. given (first ∷ others)) (functions_of is k2)) (λ first. given (first ∷ [])) (items_outcome is)
    (λ first k2. outcome_given (λ others. first ∷ others) (functions_of is k2)) (λ first k2. refl)
items_next (tree.Declaration d) is k = chain (file_declaration d k) (λ u. functions_of is) (λ u. given []) (items_outcome is) (λ u k2. refl) (λ u k2. refl)

in_file_next : (said : Specified) (b : ℕ × BegunTree) (bs : List (ℕ × BegunTree)) (k : Known) → in_file_outcome said (b ∷ bs) k ≡ and_then (in_file_outcome said (b ∷ []) k) (in_file_outcome said bs)
in_file_next said b bs k = chain (file_declarator b.1 said k) (λ u. more_in_file bs said) (λ u. known_here) (in_file_outcome said bs) (λ u k2. refl) (λ u k2. refl)

in_block_next : (said : Specified) (b : ℕ × BegunTree) (bs : List (ℕ × BegunTree)) (k : Known) → in_block_outcome said (b ∷ bs) k ≡ and_then (in_block_outcome said (b ∷ []) k) (in_block_outcome said bs)
in_block_next said b bs k = chain (block_declarator b.1 said k) (λ first. λ k2. go_on (λ others. given (first ++ others)) (more_in_block bs said k2)) (λ first. given (first ++ [])) (in_block_outcome said bs)
    (λ first k2. outcome_given (λ others. first ++ others) (more_in_block bs said k2)) (λ first k2. refl)

declarations_next : (d : DeclarationTree) (ds : List DeclarationTree) (k : Known) → declarations_outcome (d ∷ ds) k ≡ and_then (declarations_outcome (d ∷ []) k) (declarations_outcome ds)
declarations_next d ds k = chain (block_declaration d k) (λ first. λ k2. go_on (λ others. given (first ++ others)) (block_declarations ds k2)) (λ first. given (first ++ [])) (declarations_outcome ds)
    (λ first k2. outcome_given (λ others. first ++ others) (block_declarations ds k2)) (λ first k2. refl)

no_members : (number : ℕ) (k : Known) → members_outcome number [] k ≡ Ok k
unfolding specified more_specs spec_rule members more_members more_fields field suffixes suffix more_params param
no_members number k = refl

members_next : (number : ℕ) (m : MemberTree) (ms : List MemberTree) (k : Known) → members_outcome number (m ∷ ms) k ≡ and_then (members_outcome number (m ∷ []) k) (members_outcome number ms)
unfolding specified more_specs spec_rule members more_members more_fields field suffixes suffix more_params param
members_next number m ms k = chain (members m number k) (λ u. more_members (lists.more_members ms) number) (λ u. known_here) (members_outcome number ms) (λ u k2. refl) (λ u k2. refl)

no_fields : (said : Specified) (number : ℕ) (k : Known) → fields_outcome said number [] k ≡ Ok k
unfolding specified more_specs spec_rule members more_members more_fields field suffixes suffix more_params param
no_fields said number k = refl

fields_next : (said : Specified) (number : ℕ) (d : ℕ × DeclaratorTree) (ds : List (ℕ × DeclaratorTree)) (k : Known) → fields_outcome said number (d ∷ ds) k ≡ and_then (fields_outcome said number (d ∷ []) k) (fields_outcome said number ds)
unfolding specified more_specs spec_rule members more_members more_fields field suffixes suffix more_params param
fields_next said number d ds k = chain (field d.1 said number k) (λ u. more_fields (lists.more_declarators ds) said number) (λ u. known_here) (fields_outcome said number ds) (λ u k2. refl) (λ u k2. refl)

no_statements : (flow : Flow) (k : Known) → statements_outcome flow [] k ≡ Ok k
unfolding statement block_statement statements arm other_arms items
no_statements flow k = refl

statements_next : (flow : Flow) (s : StatementTree) (ss : List StatementTree) (k : Known) → statements_outcome flow (s ∷ ss) k ≡ and_then (statements_outcome flow (s ∷ []) k) (statements_outcome flow ss)
unfolding statement block_statement statements arm other_arms items
statements_next flow s ss k = chain (statement s flow k) (λ first. λ k2. go_on (λ others. given (first ∷ others)) (statements (statements_of ss) flow k2)) (λ first. given (first ∷ [])) (statements_outcome flow ss)
    (λ first k2. outcome_given (λ others. first ∷ others) (statements (statements_of ss) flow k2)) (λ first k2. refl)

-- ---- lists whose parts hand something on

enumerators_next : (e : ℕ × EnumeratorTree) (es : List (ℕ × EnumeratorTree)) (s : ℤ × Known) → enumerators_read (e ∷ es) s ≡ and_then (enumerators_read (e ∷ []) s) (enumerators_read es)
enumerators_next e es s = chain_on (enumerator e.1 s.0 s.1) (more_enumerators (lists.more_enumerators es)) given (λ x k. refl)

no_params : (bodies : Bool) (s : List Param × Known) → params_read bodies [] s ≡ Ok s
unfolding specified more_specs spec_rule members more_members more_fields field suffixes suffix more_params param
no_params bodies s = refl

params_next : (bodies : Bool) (p : ℕ × ParamTree) (ps : List (ℕ × ParamTree)) (s : List Param × Known) → params_read bodies (p ∷ ps) s ≡ and_then (params_read bodies (p ∷ []) s) (params_read bodies ps)
unfolding specified more_specs spec_rule members more_members more_fields field suffixes suffix more_params param
params_next bodies p ps s = chain_on (param p.1 bodies s.0 s.1) (λ next. more_params (lists.more_params ps) bodies next) (λ next. given next) (λ x k. refl)

no_switch : (flow : Flow) (ty : IntTy) (s : SwitchBody × Known) → switch_read flow ty [] s ≡ Ok s
unfolding statement block_statement statements arm other_arms items
no_switch flow ty s = refl

switch_next : (flow : Flow) (ty : IntTy) (i : InnerTree) (is : List InnerTree) (s : SwitchBody × Known) → switch_read flow ty (i ∷ is) s ≡ and_then (switch_read flow ty (i ∷ []) s) (switch_read flow ty is)
unfolding statement block_statement statements arm other_arms items
switch_next flow ty (LabelInner l) is s = chain_on (label_rule l ty s.0 s.1) (λ next. items (items_of is) flow ty next) (λ next. given next) (λ x k. refl)
switch_next flow ty (StatementInner t) is s = chain_to (statement t flow s.1) (λ made. record s.0 { statements = (s.0).statements ++ made ∷ [] }) (λ next. items (items_of is) flow ty next) (λ next. given next) (λ x k. refl)

-- The rule that is told as broken is the first in the order of the text.
pub first_fault : FirstFault
first_fault = record {
  order = in_order;
  met = judged_met;
  broken = judged_broken;
  items = breaks_first items_outcome (λ k. refl) items_next;
  in_file = λ said. breaks_first (in_file_outcome said) (λ k. refl) (in_file_next said);
  in_block = λ said. breaks_first (in_block_outcome said) (λ k. refl) (in_block_next said);
  declarations = breaks_first declarations_outcome (λ k. refl) declarations_next;
  members = λ number. breaks_first (members_outcome number) (no_members number) (members_next number);
  fields = λ said number. breaks_first (fields_outcome said number) (no_fields said number) (fields_next said number);
  enumerators = breaks_first enumerators_read (λ s. refl) enumerators_next;
  params = λ bodies. breaks_first (params_read bodies) (no_params bodies) (params_next bodies);
  statements = λ flow. breaks_first (statements_outcome flow) (no_statements flow) (statements_next flow);
  switches = λ flow ty. breaks_first (switch_read flow ty) (no_switch flow ty) (switch_next flow ty);
  list_met = list_met;
  list_broken = list_broken;
  if_met = if_met;
  if_broken = if_broken;
}
