-- What a value or a string gives to a part, path by path.
use Rattle.std.proofs.Common.{◌≡◌, ℕ, Bool, true, not, if◌then◌else◌, List, Option, Some, None, Result, Ok, Err, sym, ap, subst, ◌∙◌}
use Rattle.std.specs.Prelude.{IfErr, OnOk}
use Rattle.c_nodes.specs.Words.{Symbol}
use Rattle.c_typed.specs.Sameness.{same_type}
use Rattle.c_typed.specs.Trees as typed
use Rattle.c_typed.specs.Trees.{Expression, Place}
use Rattle.c_typed.specs.Types.{type_of}
use Rattle.c_typed.specs.declared.types.Ty.{Ty}
use Rattle.type_rules.specs.Conversions.{assigned}
use Rattle.type_rules.specs.Faults as kind
use Rattle.type_rules.specs.Faults.{Fault}
use Rattle.type_rules.specs.Known.{Known, go_on, given, wanted, ◌>>=◌}
use Rattle.type_rules.specs.Rows.{bytes_of}
use Rattle.type_rules.specs.Slots as rule
use Rattle.type_rules.specs.Slots.{Slot, Begun, with_item, value_line, text_of}
use Rattle.type_rules.specs.Terms.{Operand}
use Rattle.type_rules.specs.Writes.{structure_read}
use Rattle.c_tables.specs.Answers.{Answers, Refuses}
use Rattle.c_tables.specs.declared.error.CheckError.{CheckError}
use Rattle.c_tables.specs.declared.error.CheckError.TheVariants.{NoMemory}
use Rattle.c_check.specs.Views.{begin_scalar}
use Rattle.c_tables.proofs.Steps.{then_refuses, then_tried_false}

-- a call that only puts something
pub put_answers : (result : Result Unit CheckError) (now made : Begun) (known : Known) (said : Result (Begun × Known) Fault) → OnOk result (now ≡ made) → IfErr result (λ e. e ≡ NoMemory) → said ≡ Ok (made, known) → Answers (λ _. now) result known said
put_answers (Ok x) now made known said put failed is = is ∙ ap (λ b. Ok (b, known)) (sym put)
put_answers (Err e) now made known said put failed is = subst (λ y. Refuses y said) (sym failed) tt

-- ---- values of locals

pub scalar_refused : (ty : Ty) (slot : Slot) (x : Operand) (line : ℕ) (b : Begun) (known : Known) (e : CheckError) → Refuses e (assigned x ty line known) → Refuses e (begin_scalar ty slot x line b known)
scalar_refused ty slot x line b known e h = then_refuses (assigned x ty line) (λ v. given (with_item (typed.Scalar slot.offset v) b)) known e h

pub scalar_given : (ty : Ty) (slot : Slot) (x : Operand) (line : ℕ) (b : Begun) (known : Known) (value : Expression) → assigned x ty line known ≡ Ok (value, known) → begin_scalar ty slot x line b known ≡ Ok (with_item (typed.Scalar slot.offset value) b, known)
scalar_given ty slot x line b known value h = ap (go_on (λ v. given (with_item (typed.Scalar slot.offset v) b))) h

pub structure_given : (slot : Slot) (x : Operand) (b : Begun) (known : Known) (same : Bool) (from : Place) (size : ℕ) → same ≡ same_type (type_of x.value) slot.ty.ty → same ≡ true → Some from ≡ structure_read x.value → size ≡ bytes_of known slot.ty.ty → rule.begin_structure slot x b known ≡ Ok (with_item (typed.Struct slot.offset from size) b, known)
structure_given slot x b known same from size tested so read counted =
    then_tried_false (not (same_type (type_of x.value) slot.ty.ty)) kind.Initializer x.line (λ _. wanted kind.Initializer x.line (structure_read x.value) >>= λ p. given (with_item (typed.Struct slot.offset p (bytes_of known slot.ty.ty)) b)) known (ap not (sym tested ∙ so))
    ∙ ap (λ o. (wanted kind.Initializer x.line o >>= λ p. given (with_item (typed.Struct slot.offset p (bytes_of known slot.ty.ty)) b)) known) (sym read)
    ∙ ap (λ n. Ok (with_item (typed.Struct slot.offset from n) b, known)) (sym counted)

-- ---- values and strings

module _ (view : Unit → Begun) (result : Result Unit CheckError) (known : Known) where
  pub static_value : (slot : Slot) (inside : Bool) (x : Operand) (b : Begun) (line : ℕ) → b.static_object ≡ true → line ≡ value_line inside x.line b → Answers view result known (rule.begin_static slot.ty.ty slot x line b known) → Answers view result known (rule.begin_value slot inside x b known)
  static_value slot inside x b line fixed at answer =
      subst (λ (f : Bool). Answers view result known ((if f then rule.begin_static slot.ty.ty slot x (value_line inside x.line b) b else rule.begin_local slot.ty.ty slot x (value_line inside x.line b) b) known)) (sym fixed)
      (subst (λ l. Answers view result known (rule.begin_static slot.ty.ty slot x l b known)) at answer)

  pub text_some : (slot : Slot) (inside : Bool) (s : Symbol) (b : Begun) (found : Option ℕ) (count : ℕ) (bytes literal : List ℕ) → found ≡ rule.char_array known slot.ty.ty → found ≡ Some count → bytes ≡ text_of literal → literal ≡ s.bytes → Answers view result known (rule.begin_characters slot count bytes s.line b known) → Answers view result known (rule.begin_text slot inside s b known)
  text_some slot inside s b found count bytes literal tested is read whole answer =
      subst (λ o. Answers view result known (rule.begin_text_by o slot inside s b known)) (sym is ∙ tested)
      (subst (λ t. Answers view result known (rule.begin_characters slot count t s.line b known)) (read ∙ ap text_of whole) answer)

  pub text_none : (slot : Slot) (inside : Bool) (s : Symbol) (b : Begun) (found : Option ℕ) → found ≡ rule.char_array known slot.ty.ty → found ≡ None → Answers view result known (rule.refused_text slot inside s.line b known) → Answers view result known (rule.begin_text slot inside s b known)
  text_none slot inside s b found tested is answer = subst (λ o. Answers view result known (rule.begin_text_by o slot inside s b known)) (sym is ∙ tested) answer
