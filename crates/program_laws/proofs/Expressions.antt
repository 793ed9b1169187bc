-- Expressions and the names of types declare nothing.
use Rattle.std.proofs.Common.{ℕ, List, [], ◌∷◌}
use Rattle.c_ints.specs.declared.operators.UnOp.TheVariants as unop
use Rattle.c_token.specs.declared.token.Punct.TheVariants as marks
use Rattle.c_token.specs.declared.token.TokKind.{TokKind}
use Rattle.c_token.specs.declared.token.TokKind.TheVariants as kinds
use Rattle.c_nodes.specs.Trees as tree
use Rattle.c_nodes.specs.Trees.{Tree, Post}
use Rattle.type_rules.specs.Expressions.{name_rule, leaf, with_value, signed, selected, listed_by, arguments_in, judged, judged_behind, value_of}
use Rattle.type_rules.specs.Faults as kind
use Rattle.type_rules.specs.Known.{Known, Rule, given}
use Rattle.type_rules.specs.Names.{meaning_of}
use Rattle.type_rules.specs.Operators.{arithmetic, negation}
use Rattle.type_rules.specs.Places.{dereference}
use Rattle.type_rules.specs.Terms.{Operand, Term, table_tests}
use Rattle.program_laws.specs.Named.{Held, Stays}
use Rattle.program_laws.proofs.Steps.{stays_given, stays_on, stays_tried, stays_wanted}
use Rattle.program_laws.proofs.TypeNames.{type_stays}
use Rattle.program_laws.proofs.Values.{used_stays, between_stays, choice_stays, cast_stays, arithmetic_stays, negation_stays, dereference_stays, before_stays, element_stays, address_stays, member_stays, pointed_member_stays, size_of_type_stays, size_of_term_stays, assignment_stays, stepped_stays, called_stays, call_stays}

module _ (whose : List ℕ) where
  name_stays : (name : List ℕ) (line : ℕ) (known : Known) → Held whose known → Stays whose (name_rule name line known)
  name_stays name line known held = stays_wanted _ kind.Name line (meaning_of known name) known _ (λ b. stays_given _ _ held)

  leaf_stays : (k : TokKind) (bytes : List ℕ) (line : ℕ) (known : Known) → Held whose known → Stays whose (leaf k bytes line known)
  leaf_stays (kinds.Int value base u l) bytes line known held = stays_given _ _ held
  leaf_stays (kinds.Char value) bytes line known held = stays_given _ _ held
  leaf_stays _ bytes line known held = name_stays bytes line known held

  with_value_stays : (rule : Operand → ℕ → Rule Term) (t : Term) (line : ℕ) (known : Known) → Held whose known → ((x : Operand) (k : Known) → Held whose k → Stays whose (rule x line k)) → Stays whose (with_value rule t line known)
  with_value_stays rule t line known held more = stays_on _ _ _ (used_stays whose t known held) more

  signed_stays : (k : TokKind) (t : Term) (line : ℕ) (known : Known) → Held whose known → Stays whose (signed k t line known)
  signed_stays (kinds.Punct marks.Ampersand) t line known held = address_stays whose t line known held
  signed_stays (kinds.Punct marks.Increment) t line known held = stepped_stays whose _ t line known held
  signed_stays (kinds.Punct marks.Decrement) t line known held = stepped_stays whose _ t line known held
  signed_stays (kinds.Punct marks.Star) t line known held = with_value_stays dereference t line known held (λ x k g. dereference_stays whose x line k g)
  signed_stays (kinds.Punct marks.Plus) t line known held = with_value_stays (arithmetic unop.Plus) t line known held (λ x k g. arithmetic_stays whose unop.Plus x line k g)
  signed_stays (kinds.Punct marks.Minus) t line known held = with_value_stays (arithmetic unop.Minus) t line known held (λ x k g. arithmetic_stays whose unop.Minus x line k g)
  signed_stays (kinds.Punct marks.Tilde) t line known held = with_value_stays (arithmetic unop.Not) t line known held (λ x k g. arithmetic_stays whose unop.Not x line k g)
  signed_stays _ t line known held = with_value_stays negation t line known held (λ x k g. negation_stays whose x line k g)

  selected_stays : (k : TokKind) (t : Term) (name : List ℕ) (known : Known) → Held whose known → Stays whose (selected k t name known)
  selected_stays (kinds.Punct marks.Arrow) t name known held = stays_on _ _ _ (used_stays whose t known held) (λ x k g. pointed_member_stays whose x name t.start k g)
  selected_stays _ t name known held = member_stays whose t name t.start known held

  arguments_stay : (xs : List Operand) (t : Term) (known : Known) → Held whose known → Stays whose (arguments_in xs t known)
  arguments_stay [] t known held = stays_on _ _ _ (used_stays whose t known held) (λ x k g. stays_given _ _ g)
  arguments_stay (first ∷ others) t known held = stays_given _ _ held

mutual
  unfolding judged judged_behind

  pub judged_stays : (e : Tree) (whose : List ℕ) (known : Known) → Held whose known → Stays whose (judged e known)
  judged_stays (tree.Leaf s) whose known held = leaf_stays whose s.kind s.bytes s.line known held
  judged_stays (tree.Group opening e closing) whose known held = stays_on _ _ _ (judged_stays e whose known held) (λ t k g. stays_given _ _ g)
  judged_stays (tree.Behind e p) whose known held = stays_on _ _ _ (judged_stays e whose known held) (λ t k g. behind_stays p whose t k g)
  judged_stays (tree.Before (tree.Sign s) e) whose known held = stays_on _ _ _ (judged_stays e whose known held) (λ t k g. signed_stays whose s.kind t s.line k g)
  judged_stays (tree.Before (tree.Sizeof line) e) whose known held = stays_on _ _ _ (judged_stays e whose known held) (λ t k g. size_of_term_stays whose t line k g)
  judged_stays (tree.Before (tree.Cast line ty closing) e) whose known held = stays_on _ _ _ (type_stays whose ty known held)
      (λ to k g. stays_on _ _ _ (judged_stays e whose k g)
      (λ t k2 g2. stays_on _ _ _ (used_stays whose t k2 g2)
      (λ x k3 g3. cast_stays whose to.ty x line k3 g3)))
  judged_stays (tree.Measure line opening ty closing) whose known held = stays_on _ _ _ (type_stays whose ty known held) (λ of k g. size_of_type_stays whose of.ty line k g)
  judged_stays (tree.Join s a b) whose known held = stays_on _ _ _ (judged_stays a whose known held)
      (λ left k g. stays_on _ _ _ (used_stays whose left k g)
      (λ x k2 g2. stays_on _ _ _ (judged_stays b whose k2 g2)
      (λ right k3 g3. stays_on _ _ _ (used_stays whose right k3 g3)
      (λ y k4 g4. stays_on _ _ (λ t. given (listed_by s.kind left.listed x y t)) (between_stays whose s.kind x y k4 g4) (λ t k5 g5. stays_given _ _ g5)))))
  judged_stays (tree.Choose c question a colon b) whose known held = stays_on _ _ _ (judged_stays c whose known held)
      (λ condition k g. stays_on _ _ _ (used_stays whose condition k g)
      (λ x k2 g2. stays_on _ _ _ (judged_stays a whose k2 g2)
      (λ first k3 g3. stays_on _ _ _ (used_stays whose first k3 g3)
      (λ y k4 g4. stays_on _ _ _ (judged_stays b whose k4 g4)
      (λ second k5 g5. stays_on _ _ _ (used_stays whose second k5 g5)
      (λ z k6 g6. choice_stays whose x y z k6 g6))))))
  judged_stays (tree.Assign a s b) whose known held = stays_on _ _ _ (judged_stays a whose known held)
      (λ target k g. stays_tried _ (table_tests target.form) target.line k _ (stays_on _ _ _ (judged_stays b whose k g)
      (λ value k2 g2. stays_on _ _ _ (used_stays whose value k2 g2)
      (λ x k3 g3. assignment_stays whose s.kind target x k3 g3))))

  pub behind_stays : (p : Post) (whose : List ℕ) (t : Term) (known : Known) → Held whose known → Stays whose (judged_behind p t known)
  behind_stays (tree.Index opening e closing) whose t known held = stays_on _ _ _ (before_stays whose t known held)
      (λ whole k g. stays_on _ _ _ (judged_stays e whose k g) (λ index k2 g2. element_stays whose whole index k2 g2))
  behind_stays (tree.CallBare opening closing) whose t known held = stays_on _ _ _ (called_stays whose t known held) (λ u k g. call_stays whose t [] k g)
  behind_stays (tree.Call opening e closing) whose t known held = stays_on _ _ _ (called_stays whose t known held)
      (λ u k g. stays_on _ _ _ (judged_stays e whose k g)
      (λ list k2 g2. stays_on _ _ _ (arguments_stay whose list.listed list k2 g2)
      (λ arguments k3 g3. call_stays whose t arguments k3 g3)))
  behind_stays (tree.Field s n) whose t known held = selected_stays whose s.kind t n.bytes known held
  behind_stays (tree.Step s) whose t known held = stepped_stays whose _ t t.start known held

pub value_of_stays : (e : Tree) (whose : List ℕ) (known : Known) → Held whose known → Stays whose (value_of e known)
value_of_stays e whose known held = stays_on _ _ _ (judged_stays e whose known held) (λ t k g. used_stays whose t k g)
