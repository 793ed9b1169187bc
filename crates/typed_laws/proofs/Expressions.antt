-- Expressions: what the rules give of each tree fits.
use Rattle.std.proofs.Common.{◌≡◌, ℕ, Bool, true, false, not, ◌&&◌, ◌||◌, if◌then◌else◌, List, [], ◌∷◌, ◌++◌, Option, Some, None, nat_eq, refl, sym, ap, ◌∙◌, subst}
use Rattle.std.specs.Prelude.{pos, slice_get}
use Rattle.std.proofs.lemmas.Bool.{false≢true}
use Rattle.std.proofs.lemmas.Option.{same_Some}
use Rattle.c_ints.specs.Conversions.{candidates, first_holding}
use Rattle.c_ints.specs.Range.{cut}
use Rattle.c_ints.specs.declared.operators.UnOp.TheVariants as unop
use Rattle.c_ints.specs.declared.types.IntTy.{IntTy}
use Rattle.c_ints.specs.declared.types.IntTy.TheVariants as int
use Rattle.c_token.specs.declared.token.Keyword.TheVariants as words
use Rattle.c_token.specs.declared.token.Punct.TheVariants as marks
use Rattle.c_token.specs.declared.token.TokKind.{TokKind}
use Rattle.c_token.specs.declared.token.TokKind.TheVariants as kinds
use Rattle.c_nodes.specs.Kinds.{is_punct, is_key}
use Rattle.c_nodes.specs.Trees as tree
use Rattle.c_nodes.specs.Trees.{Tree, Post, Pre, TypeTree, SpecTrees, MoreSpecs, SpecTree}
use Rattle.c_nodes.specs.Words.{Symbol, Symbols}
use Rattle.c_typed.specs.Fits.{is_null, is_no_register, place_fits, place_rule_holds, Used}
use Rattle.c_typed.specs.Rules.{is_zero}
use Rattle.c_typed.specs.Sound.{is_changeable}
use Rattle.c_typed.specs.Trees as typed
use Rattle.c_typed.specs.Trees.{FunctionTree, Program}
use Rattle.c_typed.specs.declared.expression.Object.{Object}
use Rattle.c_typed.specs.declared.types.Qualified.{Qualified}
use Rattle.c_typed.specs.declared.types.Ty.{Ty}
use Rattle.c_typed.specs.declared.types.Ty.TheVariants.{Void, Int, Pointer}
use Rattle.type_rules.specs.Expressions.{named_term, name_rule, constant_term, leaf, bracketed_form, bracketed, with_value, signed, selected, step_behind, one_at_least, listed_by, arguments_in, judged, judged_behind, value_of}
use Rattle.type_rules.specs.Faults as kind
use Rattle.type_rules.specs.Known.{is_waiting, Binding, ObjectName, BitName, FunctionName, TypeNamed, EnumeratorName, Tag, StructTag, EnumTag, Known, Rule, given, go_on}
use Rattle.type_rules.specs.Names.{meaning_of}
use Rattle.type_rules.specs.Operators.{arithmetic, negation}
use Rattle.type_rules.specs.Places.{dereference}
use Rattle.type_rules.specs.Rows.{plain, pointer_to, tagged}
use Rattle.type_rules.specs.Specifiers.{Site, OfTypeName, Base, StructBase, EnumBase, NamedBase, Gathered, nothing_gathered, with_word_of, with_base, of_int, char_type, int_type, of_words, Named, plainly, named_by, by_words, base_type, has, has_int_word, is_orderly, qualifies_once, may_stand, specifiers, named_base, type_name_rule, specs_line, remade, said}
use Rattle.type_rules.specs.Terms.{Reach, Form, ValueForm, PlaceForm, FunctionForm, TypeForm, Operand, Term, number_of_type}
use Rattle.type_rules.specs.TypeNames.{with_pointers, enum_of, enum_rule, named_spec, more_named_specs, named_specs, type_named}
use Rattle.typed_laws.specs.Going.{Goes}
use Rattle.typed_laws.specs.Tables.{at, Each, Stands, IsBase, IsBound, IsNamedBase, Orderly, BindingFits, Leads}
use Rattle.typed_laws.specs.Terms.{IsForm, IsOperand, IsTerm}
use Rattle.typed_laws.proofs.Lists.{none_is}
use Rattle.typed_laws.proofs.Elements.{before_goes, element_goes}
use Rattle.typed_laws.proofs.Growing.{pointer_goes, stands_more, operand_more, term_more}
use Rattle.typed_laws.proofs.Remaking.{remade_goes}
use Rattle.typed_laws.proofs.Operators.{between_goes, choice_goes, cast_goes, arithmetic_goes, negation_goes}
use Rattle.typed_laws.proofs.Places.{goes_no_table, used_goes, dereference_goes, address_goes, member_goes, pointed_member_goes, size_of_type_goes, size_of_term_goes, constant_is, number_is}
use Rattle.typed_laws.proofs.Making.{value_is}
use Rattle.typed_laws.proofs.Same.{each_int, same_nat}
use Rattle.typed_laws.proofs.Steps.{goes_given, goes_broken, goes_on, goes_test, goes_wanted}
use Rattle.typed_laws.proofs.Scopes.{bound_name}
use Rattle.typed_laws.proofs.Writes.{assignment_goes, stepped_goes, called_goes, call_goes}
use Rattle.c_token.specs.declared.token.Keyword.{Keyword}

-- ---- the names of types

int_stands : (known : Known) (found : Option IntTy) (ty : Ty) → of_int found ≡ Some ty → Stands known ty
int_stands known None ty h = absurd (none_is h)
int_stands known (Some i) ty h = subst (Stands known) (same_Some (Int i) ty h) tt

by_word : (known : Known) (b : Bool) (x y : Option Ty) (ty : Ty) → (x ≡ Some ty → Stands known ty) → (y ≡ Some ty → Stands known ty) → (if b then x else y) ≡ Some ty → Stands known ty
by_word known true x y ty f g h = f h
by_word known false x y ty f g h = g h

words_stand : (known : Known) (ws : List Keyword) (ty : Ty) → of_words ws ≡ Some ty → Stands known ty
words_stand known ws ty = by_word known (has ws words.Void) _ _ ty
    (by_word known (has ws words.Char || has_int_word ws) None (Some Void) ty (λ h. absurd (none_is h)) (λ h. subst (Stands known) (same_Some Void ty h) tt))
    (by_word known (has ws words.Char) _ _ ty (int_stands known (char_type ws) ty) (by_word known (has_int_word ws) _ None ty (int_stands known (int_type ws) ty) (λ h. absurd (none_is h))))

named_from : (known : Known) (found : Option Ty) (named : Named) → ((ty : Ty) → found ≡ Some ty → Stands known ty) → by_words found ≡ Some named → Stands known (named.ty).ty
named_from known None named stands h = absurd (none_is h)
named_from known (Some ty) named stands h = subst (λ (z : Named). Stands known (z.ty).ty) (same_Some (plainly ty) named h) (stands ty refl)

named_stands : (known : Known) (base : Base) → IsNamedBase known base → Stands known ((named_by base).ty).ty
named_stands known (StructBase number) h = h
named_stands known EnumBase h = tt
named_stands known (NamedBase q waiting) h = h

named_alone : (known : Known) (b : Bool) (base : Base) (named : Named) → IsNamedBase known base → (if b then None else Some (named_by base)) ≡ Some named → Stands known (named.ty).ty
named_alone known true base named h is = absurd (none_is is)
named_alone known false base named h is = subst (λ (z : Named). Stands known (z.ty).ty) (same_Some (named_by base) named is) (named_stands known base h)

base_stands : (known : Known) (ws : List Keyword) (bases : List Base) (named : Named) → Each (IsNamedBase known) bases → base_type ws bases ≡ Some named → Stands known (named.ty).ty
base_stands known ws [] named all h = named_from known (of_words ws) named (words_stand known ws) h
base_stands known ws (base ∷ bases) named all h = named_alone known (has ws words.Void || (has ws words.Char || has_int_word ws)) base named all.0 h

-- a marked name is that of a type that is there
named_there : (known : Known) (found : Option Binding) (base : Base) → ((b : Binding) → found ≡ Some b → IsBound known b) → named_base found ≡ Some base → IsNamedBase known base
named_there known (Some (TypeNamed q waiting)) base bound h = subst (IsNamedBase known) (same_Some (NamedBase q waiting) base h) (bound (TypeNamed q waiting) refl)
named_there known _ base bound h = absurd (none_is h)

module _ (known : Known) where
  -- what specifiers say has a type that is there
  pub specifiers_goes : (ts : List Qualified) → Orderly (at known ts) → (site : Site) (g : Gathered) (line : ℕ) → Each (IsNamedBase (at known ts)) g.bases → Goes known ts (λ us s. IsBase (at known us) s.ty) (specifiers site g line (at known ts))
  specifiers_goes ts o site g line all = goes_wanted known _ ts (base_type g.words g.bases) kind.Declare line _
      (λ named is. goes_test known _ ts (not (is_orderly g && (qualifies_once g.words named.ty && may_stand (at known ts) site g.words))) kind.Declare line _
      (λ h. goes_on known (λ us w. Stands (at known us) (w.ty).ty) _ ts (remade named.ty named.waiting (at known ts)) (λ whole. given (said g.words whole line)) (remade_goes known ts o named.ty named.waiting (base_stands (at known ts) g.words g.bases named all is))
      (λ whole us adds ordered stands. goes_given known _ _ us ordered stands)))

  pub pointers_go : (ss : Symbols) (ts : List Qualified) → Orderly (at known ts) → (ty : Qualified) → IsBase (at known ts) ty → Goes known ts (λ us q. IsBase (at known us) q) (with_pointers ss ty (at known ts))
  pointers_go [] ts o ty stands = goes_given known _ _ ts o stands
  pointers_go (s ∷ ss) ts o ty stands = by_sign (is_punct marks.Star s.kind) (is_key words.Const s.kind)
      (λ us ordered q h. pointers_go ss us ordered q h)
    where
      by_sign : (b c : Bool) → ((us : List Qualified) → Orderly (at known us) → (q : Qualified) → IsBase (at known us) q → Goes known us (λ us q. IsBase (at known us) q) (with_pointers ss q (at known us)))
          → Goes known ts (λ us q. IsBase (at known us) q)
          ((if b then (λ k. go_on (λ pointer. with_pointers ss (plain pointer)) (pointer_to ty k)) else if c then with_pointers ss (record ty { constant = true }) else with_pointers ss (record ty { volatile = true })) (at known ts))
      by_sign true c rest = goes_on known (λ us p. (row : ℕ) × (p ≡ Pointer row) × (slice_get us row ≡ Some ty)) (λ us q. IsBase (at known us) q) ts (pointer_to ty (at known ts)) (λ pointer. with_pointers ss (plain pointer)) (pointer_goes known ts ty o stands)
          (λ p us adds ordered found. rest us ordered (plain p) (subst (Stands (at known us)) (sym found.1) (ty, found.2)))
      by_sign false true rest = rest ts o (record ty { constant = true }) stands
      by_sign false false rest = rest ts o (record ty { volatile = true }) stands

  pub worded : (k : TokKind) (g : Gathered) → (with_word_of k g).bases ≡ g.bases
  worded (kinds.Keyword w) g = refl
  worded _ g = refl

  pub type_name_goes : (s : Symbol) (g : Gathered) (ts : List Qualified) → Orderly (at known ts) → Each (IsNamedBase (at known ts)) g.bases → Goes known ts (λ us h. Each (IsNamedBase (at known us)) h.bases) (type_name_rule s g (at known ts))
  type_name_goes s g ts o all = goes_wanted known _ ts (named_base (meaning_of (at known ts) s.bytes)) kind.Name s.line _
      (λ base is. goes_given known _ _ ts o (named_there (at known ts) (meaning_of (at known ts) s.bytes) base (bound_name known ts o s.bytes) is, all))

  enum_found : (found : Option Tag) (line : ℕ) (g : Gathered) (ts : List Qualified) → Orderly (at known ts) → Each (IsNamedBase (at known ts)) g.bases
      → Goes known ts (λ us h. Each (IsNamedBase (at known us)) h.bases) (go_on (λ base. given (with_base base g)) (enum_of found line (at known ts)))
  enum_found None line g ts o all = goes_broken known _ ts _
  enum_found (Some (StructTag number)) line g ts o all = goes_broken known _ ts _
  enum_found (Some EnumTag) line g ts o all = goes_given known _ _ ts o (tt, all)

  pub enum_goes : (n : Symbol) (line : ℕ) (g : Gathered) (ts : List Qualified) → Orderly (at known ts) → Each (IsNamedBase (at known ts)) g.bases → Goes known ts (λ us h. Each (IsNamedBase (at known us)) h.bases) (enum_rule n line g (at known ts))
  enum_goes n line g ts o all = enum_found (tagged (at known ts) n.bytes) line g ts o all

  named_spec_goes : (ts : List Qualified) → Orderly (at known ts) → (s : SpecTree) (g : Gathered) → Each (IsNamedBase (at known ts)) g.bases → Goes known ts (λ us h. Each (IsNamedBase (at known us)) h.bases) (named_spec s g (at known ts))
  named_spec_goes ts o (tree.OneWord s) g all = goes_given known _ _ ts o (subst (Each (IsNamedBase (at known ts))) (sym (worded s.kind g)) all)
  named_spec_goes ts o (tree.Tagged k n) g all = goes_broken known _ ts _
  named_spec_goes ts o (tree.Body k tag op m ms c) g all = goes_broken known _ ts _
  named_spec_goes ts o (tree.NamedType s) g all = type_name_goes s g ts o all
  named_spec_goes ts o (tree.EnumTagged k n) g all = enum_goes n k g ts o all
  named_spec_goes ts o (tree.EnumBody k tag op e es last c) g all = goes_broken known _ ts _

  more_named_go : (ss : MoreSpecs) (ts : List Qualified) → Orderly (at known ts) → (g : Gathered) → Each (IsNamedBase (at known ts)) g.bases → Goes known ts (λ us h. Each (IsNamedBase (at known us)) h.bases) (more_named_specs ss g (at known ts))
  more_named_go tree.NoSpec ts o g all = goes_given known _ _ ts o all
  more_named_go (tree.AndSpec s ss) ts o g all = goes_on known _ _ ts _ _ (named_spec_goes ts o s g all) (λ h us adds ordered n. more_named_go ss us ordered h n)

  named_go : (s : SpecTrees) (ts : List Qualified) → Orderly (at known ts) → Goes known ts (λ us h. Each (IsNamedBase (at known us)) h.bases) (named_specs s (at known ts))
  named_go (tree.Specified s ss) ts o = goes_on known _ _ ts _ _ (named_spec_goes ts o s nothing_gathered tt) (λ h us adds ordered n. more_named_go ss us ordered h n)

  pub type_goes : (t : TypeTree) (ts : List Qualified) → Orderly (at known ts) → Goes known ts (λ us q. IsBase (at known us) q) (type_named t (at known ts))
  type_goes (tree.TypeOf specs pointers) ts o = goes_on known _ _ ts _ _ (named_go specs ts o)
      (λ g us adds ordered all. goes_on known _ _ us _ _ (specifiers_goes us ordered OfTypeName g (specs_line specs) all)
      (λ base vs adds2 ordered2 stands. goes_test known _ vs (is_waiting base.waiting) kind.Incomplete base.line _ (λ e. pointers_go pointers vs ordered2 base.ty stands)))

-- ---- names and constants

name_by : (p : Program) (f : FunctionTree) (object : Object) (q : Qualified) (line : ℕ) → BindingFits p f (ObjectName object q true) → place_fits p f (typed.Name object q line) ≡ true
unfolding place_fits place_rule_holds
name_by p f object q line h = h

bit_by : (p : Program) (f : FunctionTree) (register bit line : ℕ) → BindingFits p f (BitName register bit) → place_fits p f (typed.Bit register bit line) ≡ true
unfolding place_fits place_rule_holds
bit_by p f register bit line h = h

zero_is : (ty : IntTy) → is_zero (cut ty (pos 0)) ≡ true
zero_is = each_int (λ ty. is_zero (cut ty (pos 0))) (refl, refl, refl, refl, refl, refl, refl, refl, refl)

zero_null : (ty : IntTy) (value line : ℕ) → nat_eq value 0 ≡ true → is_null (number_of_type ty value line) ≡ true
unfolding is_null
zero_null ty value line h = ap (λ n. is_zero (cut ty (pos n))) (same_nat value 0 h) ∙ zero_is ty

module _ (known : Known) (ts : List Qualified) (o : Orderly (at known ts)) where
  constant_goes : (ty : IntTy) (value line : ℕ) → Goes known ts (λ us t. IsTerm (at known us) t) (given (constant_term (number_of_type ty value line) value line) (at known ts))
  constant_goes ty value line =
      let h = number_is known ts o ty value line in
      goes_given known _ _ ts o (record { form = record { stands = h.stands; plain = h.plain; null = zero_null ty value line; via = h.via; apart = h.apart; free = h.free; fitting = h.fitting }; list = tt })

  binding_is : (name : List ℕ) (b : Binding) (line : ℕ) → meaning_of (at known ts) name ≡ Some b → IsBound (at known ts) b → ((p : Program) (f : FunctionTree) → Leads (at known ts) p f → BindingFits p f b) → IsTerm (at known ts) (named_term b line)
  binding_is name (FunctionName n) line is h fitting = record { form = tt; list = tt }
  binding_is name (TypeNamed q waiting) line is h fitting = record { form = tt; list = tt }
  binding_is name (EnumeratorName n) line is h fitting = value_is (at known ts) _ line (constant_is known ts o (record { ty = int.Int; number = n }) line)
  binding_is name (BitName register bit) line is h fitting = record {
    form = (
      record {
        stands = tt;
        whole = refl;
        via = λ e. absurd (false≢true e);
        memory = λ e. absurd (false≢true e);
        static = λ n e. absurd (none_is e);
        fitting = λ p f l. bit_by p f register bit line (fitting p f l);
      },
      refl,
    );
    list = tt;
  }
  binding_is name (ObjectName object q fixed) line is h fitting = record {
    form = (
      record {
        stands = h.stands;
        whole = h.whole;
        via = λ e. absurd (false≢true e);
        memory = λ e. no_register (is_no_register object) fixed e h.register;
        static = λ n e. let s = h.static n e in (refl, ap is_changeable s.1 ∙ ap not s.2);
        fitting = λ p f l. name_by p f object q line (fitting p f l);
      },
      refl,
    );
    list = tt;
  }
    where
      no_register : (r x : Bool) → (false || not x) ≡ true → (r ≡ false → x ≡ true) → r ≡ true
      no_register true x e f = refl
      no_register false true e f = absurd (false≢true e)
      no_register false false e f = f refl

  name_goes : (name : List ℕ) (line : ℕ) → Goes known ts (λ us t. IsTerm (at known us) t) (name_rule name line (at known ts))
  name_goes name line = goes_wanted known _ ts (meaning_of (at known ts) name) kind.Name line _
      (λ b is. goes_given known _ _ ts o (binding_is name b line is (bound_name known ts o name b is) (λ p f l. l.names name b is)))

  leaf_goes : (k : TokKind) (bytes : List ℕ) (line : ℕ) → Goes known ts (λ us t. IsTerm (at known us) t) (leaf k bytes line (at known ts))
  leaf_goes (kinds.Int value base u l) bytes line = constant_goes (first_holding value (candidates (nat_eq base 10) u l)) value line
  leaf_goes (kinds.Char value) bytes line = constant_goes int.Int value line
  leaf_goes _ bytes line = name_goes bytes line

  -- ---- brackets, prefixes and postfixes

  in_brackets : (form : Form) (zero : Bool) (into : Option Reach) → IsForm (at known ts) form zero into → IsForm (at known ts) (bracketed_form form) zero into
  in_brackets (ValueForm e) zero into h = h
  in_brackets (PlaceForm place reach) zero into h = h
  in_brackets (FunctionForm n bare) zero into h = tt
  in_brackets TypeForm zero into h = tt

  bracketed_is : (t : Term) (opening : ℕ) → IsTerm (at known ts) t → IsTerm (at known ts) (bracketed t opening)
  bracketed_is t opening h = record { form = in_brackets t.form t.null t.into h.form; list = tt }

  used_with : (rule : Operand → ℕ → Rule Term) → ((us : List Qualified) → Orderly (at known us) → (x : Operand) (line : ℕ) → IsOperand (at known us) Used x → Goes known us (λ us t. IsTerm (at known us) t) (rule x line (at known us)))
      → (t : Term) (line : ℕ) → IsTerm (at known ts) t → Goes known ts (λ us t. IsTerm (at known us) t) (with_value rule t line (at known ts))
  used_with rule goes t line h = goes_on known _ _ ts _ _ (used_goes known ts o t h) (λ x us adds ordered hx. goes us ordered x line hx)

  signed_goes : (k : TokKind) (t : Term) (line : ℕ) → IsTerm (at known ts) t → Goes known ts (λ us t. IsTerm (at known us) t) (signed k t line (at known ts))
  signed_goes (kinds.Punct marks.Ampersand) t line h = address_goes known ts o t line h
  signed_goes (kinds.Punct marks.Increment) t line h = stepped_goes known ts o _ t line h
  signed_goes (kinds.Punct marks.Decrement) t line h = stepped_goes known ts o _ t line h
  signed_goes (kinds.Punct marks.Star) t line h = used_with dereference (λ us ordered x line hx. dereference_goes known us ordered x line hx) t line h
  signed_goes (kinds.Punct marks.Plus) t line h = used_with (arithmetic unop.Plus) (λ us ordered x line hx. arithmetic_goes known us ordered x hx unop.Plus line (λ from ty. refl)) t line h
  signed_goes (kinds.Punct marks.Minus) t line h = used_with (arithmetic unop.Minus) (λ us ordered x line hx. arithmetic_goes known us ordered x hx unop.Minus line (λ from ty. refl)) t line h
  signed_goes (kinds.Punct marks.Tilde) t line h = used_with (arithmetic unop.Not) (λ us ordered x line hx. arithmetic_goes known us ordered x hx unop.Not line (λ from ty. refl)) t line h
  signed_goes _ t line h = used_with negation (λ us ordered x line hx. negation_goes known us ordered x hx line) t line h

  selected_goes : (k : TokKind) (t : Term) (name : List ℕ) → IsTerm (at known ts) t → Goes known ts (λ us t. IsTerm (at known us) t) (selected k t name (at known ts))
  selected_goes (kinds.Punct marks.Arrow) t name h = goes_on known _ _ ts _ _ (used_goes known ts o t h) (λ x us adds ordered hx. pointed_member_goes known us ordered x name t.start hx)
  selected_goes _ t name h = member_goes known ts o t name t.start h

  -- ---- lists of arguments

  one_at_least_is : (before : List Operand) (x : Operand) → Each (IsOperand (at known ts) Used) before → IsOperand (at known ts) Used x → Each (IsOperand (at known ts) Used) (one_at_least before x)
  one_at_least_is [] x all hx = (hx, tt)
  one_at_least_is (first ∷ others) x all hx = all

  one_last : (xs : List Operand) (y : Operand) → Each (IsOperand (at known ts) Used) xs → IsOperand (at known ts) Used y → Each (IsOperand (at known ts) Used) (xs ++ y ∷ [])
  one_last [] y all hy = (hy, tt)
  one_last (x ∷ xs) y all hy = (all.0, one_last xs y all.1 hy)

  listed_is : (k : TokKind) (before : List Operand) (x y : Operand) (t : Term) → Each (IsOperand (at known ts) Used) before → IsOperand (at known ts) Used x → IsOperand (at known ts) Used y → IsTerm (at known ts) t → IsTerm (at known ts) (listed_by k before x y t)
  listed_is (kinds.Punct marks.Comma) before x y t all hx hy h = record { form = h.form; list = one_last (one_at_least before x) y (one_at_least_is before x all hx) hy }
  listed_is _ before x y t all hx hy h = h

  arguments_go : (xs : List Operand) (t : Term) → Each (IsOperand (at known ts) Used) xs → IsTerm (at known ts) t → Goes known ts (λ us all. Each (IsOperand (at known us) Used) all) (arguments_in xs t (at known ts))
  arguments_go [] t all h = goes_on known _ _ ts _ _ (used_goes known ts o t h) (λ x us adds ordered hx. goes_given known _ _ us ordered (hx, tt))
  arguments_go (first ∷ others) t all h = goes_given known _ _ ts o all

-- ---- the recursion

module _ (known : Known) where
  mutual
    unfolding judged judged_behind

    pub judged_goes : (e : Tree) (ts : List Qualified) → Orderly (at known ts) → Goes known ts (λ us t. IsTerm (at known us) t) (judged e (at known ts))
    judged_goes (tree.Leaf s) ts o = leaf_goes known ts o s.kind s.bytes s.line
    judged_goes (tree.Group opening e closing) ts o = goes_on known _ _ ts _ _ (judged_goes e ts o) (λ t us adds ordered h. goes_given known _ _ us ordered (bracketed_is known us ordered t opening h))
    judged_goes (tree.Behind e p) ts o = goes_on known _ _ ts _ _ (judged_goes e ts o) (λ t us adds ordered h. behind_goes p t us ordered h)
    judged_goes (tree.Before (tree.Sign s) e) ts o = goes_on known _ _ ts _ _ (judged_goes e ts o) (λ t us adds ordered h. signed_goes known us ordered s.kind t s.line h)
    judged_goes (tree.Before (tree.Sizeof line) e) ts o = goes_on known _ _ ts _ _ (judged_goes e ts o) (λ t us adds ordered h. size_of_term_goes known us ordered t line)
    judged_goes (tree.Before (tree.Cast line ty closing) e) ts o = goes_on known _ _ ts _ _ (type_goes known ty ts o)
        (λ to us adds ordered stands. goes_on known _ _ us _ _ (judged_goes e us ordered)
        (λ t vs adds2 ordered2 h. goes_on known _ _ vs _ _ (used_goes known vs ordered2 t h)
        (λ x ws adds3 ordered3 hx. cast_goes known ws ordered3 x hx to.ty line (stands_more known vs ws adds3 to.ty (stands_more known us vs adds2 to.ty stands)))))
    judged_goes (tree.Measure line opening ty closing) ts o = goes_on known _ _ ts _ _ (type_goes known ty ts o) (λ of us adds ordered stands. size_of_type_goes known us ordered of.ty line)
    judged_goes (tree.Join s a b) ts o = goes_on known _ _ ts _ _ (judged_goes a ts o)
        (λ left us adds ordered hl. goes_on known _ _ us _ _ (used_goes known us ordered left hl)
        (λ x vs adds2 ordered2 hx. goes_on known _ _ vs _ _ (judged_goes b vs ordered2)
        (λ right ws adds3 ordered3 hr. goes_on known _ _ ws _ _ (used_goes known ws ordered3 right hr)
        (λ y xs adds4 ordered4 hy.
        let hx4 = operand_more known ws xs adds4 Used x (operand_more known vs ws adds3 Used x hx) in
        goes_on known _ _ xs _ _ (between_goes known xs ordered4 x y hx4 hy s.kind)
        (λ t ys adds5 ordered5 ht. goes_given known _ _ ys ordered5
        (listed_is known ys ordered5 s.kind left.listed x y t
        (term_more known xs ys adds5 left (term_more known ws xs adds4 left (term_more known vs ws adds3 left (term_more known us vs adds2 left hl)))).list
        (operand_more known xs ys adds5 Used x hx4) (operand_more known xs ys adds5 Used y hy) ht))))))
    judged_goes (tree.Choose c question a colon b) ts o = goes_on known _ _ ts _ _ (judged_goes c ts o)
        (λ condition us adds ordered hc. goes_on known _ _ us _ _ (used_goes known us ordered condition hc)
        (λ x vs adds2 ordered2 hx. goes_on known _ _ vs _ _ (judged_goes a vs ordered2)
        (λ first ws adds3 ordered3 hf. goes_on known _ _ ws _ _ (used_goes known ws ordered3 first hf)
        (λ y xs adds4 ordered4 hy. goes_on known _ _ xs _ _ (judged_goes b xs ordered4)
        (λ second ys adds5 ordered5 hs. goes_on known _ _ ys _ _ (used_goes known ys ordered5 second hs)
        (λ z zs adds6 ordered6 hz. choice_goes known zs ordered6 y z
        (operand_more known ys zs adds6 Used y (operand_more known xs ys adds5 Used y hy)) hz x
        (operand_more known ys zs adds6 Used x (operand_more known xs ys adds5 Used x (operand_more known ws xs adds4 Used x (operand_more known vs ws adds3 Used x hx))))))))))
    judged_goes (tree.Assign a s b) ts o = goes_on known _ _ ts _ _ (judged_goes a ts o)
        (λ target us adds ordered ht. goes_no_table known _ us target.form target.line _
        (λ free. goes_on known _ _ us _ _ (judged_goes b us ordered)
        (λ value vs adds2 ordered2 hv. goes_on known _ _ vs _ _ (used_goes known vs ordered2 value hv)
        (λ x ws adds3 ordered3 hx. assignment_goes known ws ordered3 s.kind target x (term_more known vs ws adds3 target (term_more known us vs adds2 target ht)) hx))))

    pub behind_goes : (p : Post) (t : Term) (ts : List Qualified) → Orderly (at known ts) → IsTerm (at known ts) t → Goes known ts (λ us t. IsTerm (at known us) t) (judged_behind p t (at known ts))
    behind_goes (tree.Index opening e closing) t ts o h = goes_on known _ _ ts _ _ (before_goes known ts o t h)
        (λ whole us adds ordered hw. goes_on known _ _ us _ _ (judged_goes e us ordered) (λ index vs adds2 ordered2 hi. element_goes known vs ordered2 whole index (term_more known us vs adds2 whole hw) hi))
    behind_goes (tree.CallBare opening closing) t ts o h = goes_on known _ _ ts _ _ (called_goes known ts o t) (λ x us adds ordered u. call_goes known us ordered t [] tt)
    behind_goes (tree.Call opening e closing) t ts o h = goes_on known _ _ ts _ _ (called_goes known ts o t)
        (λ x us adds ordered u. goes_on known _ _ us _ _ (judged_goes e us ordered)
        (λ list vs adds2 ordered2 hl. goes_on known _ _ vs _ _ (arguments_go known vs ordered2 list.listed list hl.list hl)
        (λ arguments ws adds3 ordered3 all. call_goes known ws ordered3 t arguments all)))
    behind_goes (tree.Field s n) t ts o h = selected_goes known ts o s.kind t n.bytes h
    behind_goes (tree.Step s) t ts o h = stepped_goes known ts o (step_behind s.kind) t t.start h

  -- the value of an expression
  pub value_of_goes : (e : Tree) (ts : List Qualified) → Orderly (at known ts) → Goes known ts (λ us x. IsOperand (at known us) Used x) (value_of e (at known ts))
  value_of_goes e ts o = goes_on known _ _ ts _ _ (judged_goes e ts o) (λ t us adds ordered h. used_goes known us ordered t h)
