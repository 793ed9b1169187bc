-- Expressions: a tree has at most three nodes for each token, one for its value and one for a conversion among them.
use Rattle.std.proofs.Common.{◌≡◌, ℕ, ◌+◌, ◌*◌, ◌≤◌, nat_eq, true, List, [], ◌∷◌, ◌++◌, length, refl, arith, length-append}
use Rattle.c_ints.specs.Conversions.{candidates, first_holding}
use Rattle.c_ints.specs.declared.operators.UnOp.TheVariants as unop
use Rattle.c_ints.specs.declared.types.IntTy.{IntTy}
use Rattle.c_ints.specs.declared.types.IntTy.TheVariants as int
use Rattle.c_token.specs.declared.token.Punct.TheVariants as marks
use Rattle.c_token.specs.declared.token.TokKind.{TokKind}
use Rattle.c_token.specs.declared.token.TokKind.TheVariants as kinds
use Rattle.c_nodes.specs.Trees as tree
use Rattle.c_nodes.specs.Trees.{Tree, Post, spelled, spelled_post, spelled_type}
use Rattle.c_nodes.specs.Words.{Symbol, punct}
use Rattle.c_typed.specs.TreeNodes.{nodes_in, nodes_of_all, nodes_at}
use Rattle.c_typed.specs.Trees as typed
use Rattle.type_rules.specs.Expressions.{unreached, named_term, name_rule, constant_term, leaf, bracketed_form, bracketed, with_value, signed, selected, step_behind, one_at_least, listed_by, arguments_in, judged, judged_behind, value_of}
use Rattle.type_rules.specs.Faults as kind
use Rattle.type_rules.specs.Known.{Binding, ObjectName, BitName, FunctionName, TypeNamed, EnumeratorName, Known, Rule, given}
use Rattle.type_rules.specs.Names.{meaning_of}
use Rattle.type_rules.specs.Operators.{arithmetic, negation}
use Rattle.type_rules.specs.Places.{dereference}
use Rattle.type_rules.specs.Terms.{Form, ValueForm, PlaceForm, FunctionForm, TypeForm, Operand, Term, number_of_type, table_tests}
use Rattle.typed_laws.specs.Weights.{Met, held, Costs, nothing, operand_nodes, listed_nodes, form_nodes, IsTerm}
use Rattle.typed_laws.proofs.OperatorSizes.{between_met, choice_met, cast_met, arithmetic_met, negation_met}
use Rattle.typed_laws.proofs.PlaceSizes.{before_met, dereference_met, element_met, address_met, member_met, pointed_member_met, size_of_type_met, size_of_term_met}
use Rattle.typed_laws.proofs.StepSizes.{met_given, met_on, met_tried, met_wanted, term_more}
use Rattle.typed_laws.proofs.TypeNameSizes.{type_met}
use Rattle.typed_laws.proofs.ValueSizes.{value_is, place_is, used_met}
use Rattle.typed_laws.proofs.WriteSizes.{assignment_met, stepped_met, called_met, call_met}

-- ---- names and constants

binding_is : (h : ℕ) (b : Binding) (line : ℕ) (k : Known) → held k ≤ h → IsTerm h 3 (named_term b line) k
unfolding nodes_in nodes_of_all nodes_at
binding_is h (FunctionName n) line k within = record { form_light = omega arith; listed_light = omega arith; within = within }
binding_is h (TypeNamed q waiting) line k within = record { form_light = omega arith; listed_light = omega arith; within = within }
binding_is h (EnumeratorName n) line k within = value_is h 3 (typed.Constant (record { ty = int.Int; number = n }) line) line k (omega arith) within
binding_is h (BitName register bit) line k within = place_is h 3 (typed.Bit register bit line) (unreached true) line k (omega arith) within
binding_is h (ObjectName object q fixed) line k within = place_is h 3 (typed.Name object q line) (unreached fixed) line k (omega arith) within

name_met : (h : ℕ) (name : List ℕ) (line : ℕ) (known : Known) → held known ≤ h → Met (IsTerm h 3) (name_rule name line known)
name_met h name line known within = met_wanted _ kind.Name line (meaning_of known name) known _ (λ b is. met_given _ _ _ (binding_is h b line known within))

constant_met : (h : ℕ) (ty : IntTy) (value line : ℕ) (known : Known) → held known ≤ h → Met (IsTerm h 3) (given (constant_term (number_of_type ty value line) value line) known)
unfolding nodes_in nodes_of_all nodes_at
constant_met h ty value line known within = met_given _ _ _ (record { form_light = omega arith; listed_light = omega arith; within = within })

leaf_met : (h : ℕ) (k : TokKind) (bytes : List ℕ) (line : ℕ) (known : Known) → held known ≤ h → Met (IsTerm h 3) (leaf k bytes line known)
leaf_met h (kinds.Int value base u l) bytes line known within = constant_met h (first_holding value (candidates (nat_eq base 10) u l)) value line known within
leaf_met h (kinds.Char value) bytes line known within = constant_met h int.Int value line known within
leaf_met h _ bytes line known within = name_met h bytes line known within

-- ---- brackets, prefixes and postfixes

bracketed_nodes : (form : Form) → form_nodes (bracketed_form form) ≡ form_nodes form
bracketed_nodes (ValueForm value) = refl
bracketed_nodes (PlaceForm place reach) = refl
bracketed_nodes (FunctionForm number bare) = refl
bracketed_nodes TypeForm = refl

bracketed_is : (h m n : ℕ) (t : Term) (opening : ℕ) (k : Known) → m ≤ n → IsTerm h m t k → IsTerm h n (bracketed t opening) k
bracketed_is h m n t opening k le g = record { form_light = omega (arith, bracketed_nodes t.form); listed_light = omega arith; within = g.within }

with_value_met : (h m n : ℕ) (rule : Operand → ℕ → Rule Term) (t : Term) (line : ℕ) (known : Known) → IsTerm h m t known
    → ((x : Operand) (k : Known) → Costs h m operand_nodes x k → Met (IsTerm h n) (rule x line k)) → Met (IsTerm h n) (with_value rule t line known)
with_value_met h m n rule t line known g met = met_on (Costs h m operand_nodes) _ _ _ (used_met h m t known g) met

-- by the rule that a sign stands for
signed_met : (h n : ℕ) (k : TokKind) (t : Term) (line : ℕ) (known : Known) → IsTerm h n t known → Met (IsTerm h (n + 3)) (signed k t line known)
signed_met h n (kinds.Punct marks.Ampersand) t line known g = term_more h (n + 1) (n + 3) _ (omega arith) (address_met h n t line known g)
signed_met h n (kinds.Punct marks.Increment) t line known g = term_more h (n + 1) (n + 3) _ (omega arith) (stepped_met h n _ t line known g)
signed_met h n (kinds.Punct marks.Decrement) t line known g = term_more h (n + 1) (n + 3) _ (omega arith) (stepped_met h n _ t line known g)
signed_met h n (kinds.Punct marks.Star) t line known g = with_value_met h n (n + 3) dereference t line known g (λ x k c. term_more h (n + 2) (n + 3) _ (omega arith) (dereference_met h n x k c.light c.within line))
signed_met h n (kinds.Punct marks.Plus) t line known g = with_value_met h n (n + 3) (arithmetic unop.Plus) t line known g (λ x k c. arithmetic_met h n x k c.light c.within unop.Plus line)
signed_met h n (kinds.Punct marks.Minus) t line known g = with_value_met h n (n + 3) (arithmetic unop.Minus) t line known g (λ x k c. arithmetic_met h n x k c.light c.within unop.Minus line)
signed_met h n (kinds.Punct marks.Tilde) t line known g = with_value_met h n (n + 3) (arithmetic unop.Not) t line known g (λ x k c. arithmetic_met h n x k c.light c.within unop.Not line)
signed_met h n _ t line known g = with_value_met h n (n + 3) negation t line known g (λ x k c. negation_met h n x k c.light c.within line)

selected_met : (h n : ℕ) (k : TokKind) (t : Term) (name : List ℕ) (known : Known) → IsTerm h n t known → Met (IsTerm h (n + 3)) (selected k t name known)
selected_met h n (kinds.Punct marks.Arrow) t name known g = met_on (Costs h n operand_nodes) _ _ _ (used_met h n t known g) (λ x k c. pointed_member_met h n x name t.start k c.light c.within)
selected_met h n _ t name known g = term_more h (n + 1) (n + 3) _ (omega arith) (member_met h n t name t.start known g)

-- ---- lists of arguments

last_listed : (xs : List Operand) (y : Operand) → listed_nodes (xs ++ y ∷ []) ≡ listed_nodes xs + operand_nodes y
last_listed [] y = omega arith
last_listed (x ∷ xs) y = omega (arith, last_listed xs y)

first_listed : (m : ℕ) (before : List Operand) (x : Operand) → listed_nodes before + 2 ≤ m → operand_nodes x ≤ m → listed_nodes (one_at_least before x) ≤ m
first_listed m [] x all light = omega arith
first_listed m (first ∷ others) x all light = omega arith

listed_is : (h m n : ℕ) (sign : TokKind) (before : List Operand) (x y : Operand) (t : Term) (k : Known) → listed_nodes before + 2 ≤ m → operand_nodes x ≤ m → operand_nodes y ≤ n → IsTerm h (m + n + 3) t k
    → IsTerm h (m + n + 3) (listed_by sign before x y t) k
listed_is h m n (kinds.Punct marks.Comma) before x y t k all left right g =
    record { form_light = g.form_light; listed_light = omega (arith, last_listed (one_at_least before x) y, first_listed m before x all left); within = g.within }
listed_is h m n _ before x y t k all left right g = g

arguments_met : (h n : ℕ) (xs : List Operand) (t : Term) (known : Known) → listed_nodes xs + 2 ≤ n → IsTerm h n t known → Met (Costs h n listed_nodes) (arguments_in xs t known)
arguments_met h n [] t known all g = met_on (Costs h n operand_nodes) _ _ _ (used_met h n t known g) (λ x k c. met_given _ _ _ (record { light = omega arith; within = c.within }))
arguments_met h n (first ∷ others) t known all g = met_given _ _ _ (record { light = omega arith; within = g.within })

-- ---- the recursion

mutual
  unfolding judged judged_behind

  pub judged_met : (e : Tree) (h : ℕ) (known : Known) → held known ≤ h → Met (IsTerm h (3 * length (spelled e))) (judged e known)
  judged_met (tree.Leaf s) h known within = leaf_met h s.kind s.bytes s.line known within
  judged_met (tree.Group opening e closing) h known within = met_on (IsTerm h (3 * length (spelled e))) _ _ _ (judged_met e h known within)
      (λ t k g. met_given _ _ _ (bracketed_is h (3 * length (spelled e)) (3 * length (spelled (tree.Group opening e closing))) t opening k (omega (arith, length-append {A = Symbol})) g))
  judged_met (tree.Behind e p) h known within = met_on (IsTerm h (3 * length (spelled e))) _ _ _ (judged_met e h known within)
      (λ t k g. term_more h (3 * length (spelled e) + 3 * length (spelled_post p)) (3 * length (spelled e ++ spelled_post p)) _ (omega (arith, length-append {A = Symbol})) (behind_met p h (3 * length (spelled e)) t k g))
  judged_met (tree.Before (tree.Sign s) e) h known within = met_on (IsTerm h (3 * length (spelled e))) _ _ _ (judged_met e h known within)
      (λ t k g. term_more h (3 * length (spelled e) + 3) (3 * length (s ∷ spelled e)) _ (omega arith) (signed_met h (3 * length (spelled e)) s.kind t s.line k g))
  judged_met (tree.Before (tree.Sizeof line) e) h known within = met_on (IsTerm h (3 * length (spelled e))) _ _ _ (judged_met e h known within)
      (λ t k g. term_more h 3 (3 * length (spelled (tree.Before (tree.Sizeof line) e))) _ (omega arith) (size_of_term_met h t line k g.within))
  judged_met (tree.Before (tree.Cast line ty closing) e) h known within = met_on (Costs h 0 nothing) _ _ _ (type_met h ty known within)
      (λ to k c. met_on (IsTerm h (3 * length (spelled e))) _ _ _ (judged_met e h k c.within)
      (λ t k2 g. met_on (Costs h (3 * length (spelled e)) operand_nodes) _ _ _ (used_met h (3 * length (spelled e)) t k2 g)
      (λ x k3 d. term_more h (3 * length (spelled e) + 2) (3 * length (spelled (tree.Before (tree.Cast line ty closing) e))) _ (omega (arith, length-append (spelled_type ty ++ punct marks.RightParenthesis closing ∷ []) (spelled e))) (cast_met h (3 * length (spelled e)) x k3 d.light d.within to.ty line))))
  judged_met (tree.Measure line opening ty closing) h known within = met_on (Costs h 0 nothing) _ _ _ (type_met h ty known within)
      (λ of k c. term_more h 3 (3 * length (spelled (tree.Measure line opening ty closing))) _ (omega arith) (size_of_type_met h of.ty line k c.within))
  judged_met (tree.Join s a b) h known within = met_on (IsTerm h (3 * length (spelled a))) _ _ _ (judged_met a h known within)
      (λ left k g. met_on (Costs h (3 * length (spelled a)) operand_nodes) _ _ _ (used_met h (3 * length (spelled a)) left k g)
      (λ x k2 c. met_on (IsTerm h (3 * length (spelled b))) _ _ _ (judged_met b h k2 c.within)
      (λ right k3 r. met_on (Costs h (3 * length (spelled b)) operand_nodes) _ _ _ (used_met h (3 * length (spelled b)) right k3 r)
      (λ y k4 d. term_more h (3 * length (spelled a) + 3 * length (spelled b) + 3) (3 * length (spelled (tree.Join s a b))) _ (omega (arith, length-append {A = Symbol}))
      (met_on (IsTerm h (3 * length (spelled a) + 3 * length (spelled b) + 3)) (IsTerm h (3 * length (spelled a) + 3 * length (spelled b) + 3)) _ (λ t. given (listed_by s.kind left.listed x y t))
      (between_met h (3 * length (spelled a)) (3 * length (spelled b)) x y k4 c.light d.light d.within s.kind)
      (λ t k5 u. met_given _ _ _ (listed_is h (3 * length (spelled a)) (3 * length (spelled b)) s.kind left.listed x y t k5 g.listed_light c.light d.light u)))))))
  judged_met (tree.Choose c question a colon b) h known within = met_on (IsTerm h (3 * length (spelled c))) _ _ _ (judged_met c h known within)
      (λ condition k g. met_on (Costs h (3 * length (spelled c)) operand_nodes) _ _ _ (used_met h (3 * length (spelled c)) condition k g)
      (λ x k2 d. met_on (IsTerm h (3 * length (spelled a))) _ _ _ (judged_met a h k2 d.within)
      (λ first k3 g2. met_on (Costs h (3 * length (spelled a)) operand_nodes) _ _ _ (used_met h (3 * length (spelled a)) first k3 g2)
      (λ y k4 d2. met_on (IsTerm h (3 * length (spelled b))) _ _ _ (judged_met b h k4 d2.within)
      (λ second k5 g3. met_on (Costs h (3 * length (spelled b)) operand_nodes) _ _ _ (used_met h (3 * length (spelled b)) second k5 g3)
      (λ z k6 d3. term_more h (3 * length (spelled c) + 3 * length (spelled a) + 3 * length (spelled b) + 3) (3 * length (spelled (tree.Choose c question a colon b))) _ (omega (arith, length-append {A = Symbol}))
      (choice_met h (3 * length (spelled a)) (3 * length (spelled b)) y z k6 d2.light d3.light d3.within (3 * length (spelled c)) x d.light)))))))
  judged_met (tree.Assign a s b) h known within = met_on (IsTerm h (3 * length (spelled a))) _ _ _ (judged_met a h known within)
      (λ target k g. met_tried _ (table_tests target.form) target.line k _ (met_on (IsTerm h (3 * length (spelled b))) _ _ _ (judged_met b h k g.within)
      (λ value k2 g2. met_on (Costs h (3 * length (spelled b)) operand_nodes) _ _ _ (used_met h (3 * length (spelled b)) value k2 g2)
      (λ x k3 c. term_more h (3 * length (spelled a) + 3 * length (spelled b) + 3) (3 * length (spelled (tree.Assign a s b))) _ (omega (arith, length-append {A = Symbol}))
      (assignment_met h (3 * length (spelled a)) (3 * length (spelled b)) s.kind target x k3 g.form_light c.light c.within)))))

  pub behind_met : (p : Post) (h n : ℕ) (t : Term) (known : Known) → IsTerm h n t known → Met (IsTerm h (n + 3 * length (spelled_post p))) (judged_behind p t known)
  behind_met (tree.Index opening e closing) h n t known g = met_on (IsTerm h (n + 1)) _ _ _ (before_met h n t known g)
      (λ whole k w. met_on (IsTerm h (3 * length (spelled e))) _ _ _ (judged_met e h k w.within)
      (λ index k2 i. term_more h (n + 1 + 3 * length (spelled e) + 4) (n + 3 * length (spelled_post (tree.Index opening e closing))) _ (omega (arith, length-append {A = Symbol}))
      (element_met h (n + 1) (3 * length (spelled e)) whole index k2 w.form_light i)))
  behind_met (tree.CallBare opening closing) h n t known g = met_on (Costs h 0 nothing) _ _ _ (called_met h t known g.within)
      (λ u k c. term_more h 3 (n + 3 * length (spelled_post (tree.CallBare opening closing))) _ (omega arith) (call_met h 0 t [] k (omega arith) c.within))
  behind_met (tree.Call opening e closing) h n t known g = met_on (Costs h 0 nothing) _ _ _ (called_met h t known g.within)
      (λ u k c. met_on (IsTerm h (3 * length (spelled e))) _ _ _ (judged_met e h k c.within)
      (λ list k2 l. met_on (Costs h (3 * length (spelled e)) listed_nodes) _ _ _ (arguments_met h (3 * length (spelled e)) list.listed list k2 l.listed_light l)
      (λ arguments k3 a. term_more h (3 * length (spelled e) + 3) (n + 3 * length (spelled_post (tree.Call opening e closing))) _ (omega (arith, length-append {A = Symbol}))
      (call_met h (3 * length (spelled e)) t arguments k3 a.light a.within))))
  behind_met (tree.Field s m) h n t known g = term_more h (n + 3) (n + 3 * length (spelled_post (tree.Field s m))) _ (omega arith) (selected_met h n s.kind t m.bytes known g)
  behind_met (tree.Step s) h n t known g = term_more h (n + 1) (n + 3 * length (spelled_post (tree.Step s))) _ (omega arith) (stepped_met h n (step_behind s.kind) t t.start known g)

-- the value of an expression
pub value_of_met : (e : Tree) (h : ℕ) (known : Known) → held known ≤ h → Met (Costs h (3 * length (spelled e)) operand_nodes) (value_of e known)
value_of_met e h known within = met_on (IsTerm h (3 * length (spelled e))) _ _ _ (judged_met e h known within) (λ t k g. used_met h (3 * length (spelled e)) t k g)
