-- Initializers (ISO/IEC 9899:1990, 6.5.7): values, strings, and lists in braces, whose items go to the parts in order.
use Rattle.std.specs.Prelude.{ℕ, suc, ◌-◌, Bool, true, false, not, ◌&&◌, if◌then◌else◌, nat_eq, [], ◌∷◌, Option, Some, None, is_some}
use Rattle.c_nodes.specs.Programs.{InitTree, MoreInits}
use Rattle.c_nodes.specs.Programs as tree
use Rattle.c_nodes.specs.Words.{Symbol}
use Rattle.c_typed.specs.declared.types.Ty.{Ty}
use Rattle.c_typed.specs.declared.types.Ty.TheVariants.{Array}
use Rattle.type_rules.specs.Faults as kind
use Rattle.type_rules.specs.Known.{Known, Rule, given, known_here, tried, ◌>>=◌}
use Rattle.type_rules.specs.Terms.{Operand}
use Rattle.type_rules.specs.Expressions.{value_of}
use Rattle.type_rules.specs.Slots.{Slot, Begun, part, begin_value, begin_text}

-- What no part takes is checked, and then the list is refused.
abbrev pub value_rule : Option Slot → Bool → Operand → Begun → Rule Begun
value_rule None inside x b = given b
value_rule (Some slot) inside x b = begin_value slot inside x b

abbrev pub text_rule : Option Slot → Bool → Symbol → Begun → Rule Begun
text_rule None inside s b = given b
text_rule (Some slot) inside s b = begin_text slot inside s b

abbrev pub items_in : MoreInits → ℕ
items_in tree.NoInit = 0
items_in (tree.AndInit comma i is) = suc (items_in is)

-- An array without a length takes it from the number of items.
abbrev pub is_unsized : Ty → Bool
is_unsized (Array row count size) = nat_eq count 0
is_unsized _ = false

abbrev pub with_items : Option Slot → ℕ → Begun → Begun
with_items None n b = b
with_items (Some slot) n b = if is_unsized slot.ty.ty then record b { count = Some n } else b

-- A list has no more items than there are parts. Inside a list that is refused nothing more is asked.
abbrev pub has_more : Known → Option Slot → ℕ → Bool
has_more known slot n = is_some slot && not (is_some (part known slot (n - 1)))

unfoldable mutual
  pub begins : InitTree → Option Slot → Bool → Begun → Rule Begun
  begins (tree.Value e) slot inside b = do
    x ← value_of e
    value_rule slot inside x b
  begins (tree.Quoted s) slot inside b = text_rule slot inside s b
  begins (tree.Listed opening i is comma closing) slot inside b = do
    known ← known_here
    first ← begins i (part known slot 0) true b
    all ← more_begins is slot 1 first
    after ← known_here
    _ ← tried ((has_more after slot (suc (items_in is)), kind.Initializer) ∷ []) opening
    given (with_items slot (suc (items_in is)) all)

  pub more_begins : MoreInits → Option Slot → ℕ → Begun → Rule Begun
  more_begins tree.NoInit slot n b = given b
  more_begins (tree.AndInit comma i is) slot n b = do
    known ← known_here
    next ← begins i (part known slot n) true b
    more_begins is slot (suc n) next
