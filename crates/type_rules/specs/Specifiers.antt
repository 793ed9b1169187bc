-- Specifiers (ISO/IEC 9899:1990, 6.5.1 to 6.5.3): which combinations there are, what each says, and where it may stand.
use Rattle.std.specs.Prelude.{ℕ, suc, ◌+◌, Bool, true, false, not, ◌&&◌, ◌||◌, if◌then◌else◌, nat_eq, nat_le, nat_lt, List, [], ◌∷◌, length, Option, Some, None}
use Rattle.c_ints.specs.declared.types.IntTy.{IntTy}
use Rattle.c_ints.specs.declared.types.IntTy.TheVariants as int
use Rattle.c_token.specs.declared.token.Keyword.{Keyword}
use Rattle.c_token.specs.declared.token.Keyword.TheVariants as words
use Rattle.c_token.specs.declared.token.TokKind.{TokKind}
use Rattle.c_token.specs.declared.token.TokKind.TheVariants as kinds
use Rattle.c_nodes.specs.Kinds.{number_of_word}
use Rattle.c_nodes.specs.Trees.{SpecTrees, SpecTree}
use Rattle.c_nodes.specs.Trees as tree
use Rattle.c_nodes.specs.Words.{Symbol}
use Rattle.c_typed.specs.declared.types.Qualified.{Qualified}
use Rattle.c_typed.specs.declared.types.Ty.{Ty}
use Rattle.c_typed.specs.declared.types.Ty.TheVariants.{Void, Int, Struct}
use Rattle.type_rules.specs.Faults as kind
use Rattle.type_rules.specs.Known.{Waiting, Whole, OneArray, TwoArrays, Never, is_waiting, waits, Binding, TypeNamed, Known, Rule, given, known_here, tried, wanted, ◌>>=◌}
use Rattle.type_rules.specs.Names.{meaning_of, in_file}
use Rattle.type_rules.specs.Rows.{plain, array_of, is_complete}

-- where specifiers stand
pub data Site : Type 0 where
  InFile : Site
  InBlock : Site
  OfMember : Site
  OfParam : Site
  OfTypeName : Site

-- What names a type without a word: a structure, an enumeration, which is an int, or the name of a type.
pub data Base : Type 0 where
  StructBase : ℕ → Base
  EnumBase : Base
  NamedBase : Qualified → Waiting → Base

-- The specifiers of a list: the words, and what names a type without a word.
pub record Gathered : Type 0 where
  pub words : List Keyword
  pub bases : List Base

abbrev pub nothing_gathered : Gathered
nothing_gathered = record { words = []; bases = [] }

abbrev pub with_word_of : TokKind → Gathered → Gathered
with_word_of (kinds.Keyword w) g = record g { words = w ∷ g.words }
with_word_of _ g = g

abbrev pub with_base : Base → Gathered → Gathered
with_base base g = record g { bases = base ∷ g.bases }

-- how often a word stands in a list
abbrev pub times : Keyword → List Keyword → ℕ
times k [] = 0
times k (w ∷ ws) = if nat_eq (number_of_word w) (number_of_word k) then suc (times k ws) else times k ws

abbrev pub has : List Keyword → Keyword → Bool
has ws k = nat_lt 0 (times k ws)

abbrev pub once_each : List Keyword → List Keyword → Bool
once_each ws [] = true
once_each ws (k ∷ ks) = nat_le (times k ws) 1 && once_each ws ks

-- Each word of a type and each qualifier stands once at most, and one word on storage at most; `interrupt` may stand again.
abbrev pub single_words : List Keyword
single_words = words.Void ∷ words.Char ∷ words.Short ∷ words.Int ∷ words.Long ∷ words.Signed ∷ words.Unsigned ∷ words.Const ∷ words.Volatile ∷ []

abbrev pub storage_words : List Keyword → ℕ
storage_words ws = times words.Typedef ws + (times words.Static ws + (times words.Auto ws + times words.Register ws))

abbrev pub is_orderly : Gathered → Bool
is_orderly g = once_each g.words single_words && (nat_le (storage_words g.words) 1 && nat_le (length g.bases) 1)

-- ---- the type that the words name together (6.5.2)

abbrev pub has_int_word : List Keyword → Bool
has_int_word ws = has ws words.Short || (has ws words.Int || (has ws words.Long || (has ws words.Signed || has ws words.Unsigned)))

-- `char`, `signed char`, `unsigned char`
abbrev pub char_type : List Keyword → Option IntTy
char_type ws =
    if has ws words.Short || (has ws words.Int || (has ws words.Long || (has ws words.Signed && has ws words.Unsigned))) then None
    else if has ws words.Signed then Some int.SChar
    else if has ws words.Unsigned then Some int.UChar
    else Some int.Char

-- `short`, `int`, `long`, each with `signed` or `unsigned` or neither
abbrev pub wide_type : List Keyword → IntTy
wide_type ws =
    if has ws words.Short then (if has ws words.Unsigned then int.UShort else int.Short)
    else if has ws words.Long then (if has ws words.Unsigned then int.ULong else int.Long)
    else if has ws words.Unsigned then int.UInt
    else int.Int

abbrev pub int_type : List Keyword → Option IntTy
int_type ws = if (has ws words.Signed && has ws words.Unsigned) || (has ws words.Short && has ws words.Long) then None else Some (wide_type ws)

abbrev pub of_int : Option IntTy → Option Ty
of_int None = None
of_int (Some ty) = Some (Int ty)

abbrev pub of_words : List Keyword → Option Ty
of_words ws =
    if has ws words.Void then (if has ws words.Char || has_int_word ws then None else Some Void)
    else if has ws words.Char then of_int (char_type ws)
    else if has_int_word ws then of_int (int_type ws)
    else None

-- The type that specifiers name: with its own qualifiers, and what it waits for.
pub record Named : Type 0 where
  pub ty : Qualified
  pub waiting : Waiting

abbrev pub plainly : Ty → Named
plainly ty = record { ty = plain ty; waiting = Whole }

abbrev pub named_by : Base → Named
named_by (StructBase number) = plainly (Struct number)
named_by EnumBase = plainly (Int int.Int)
named_by (NamedBase ty waiting) = record { ty = ty; waiting = waiting }

abbrev pub by_words : Option Ty → Option Named
by_words None = None
by_words (Some ty) = Some (plainly ty)

abbrev pub base_type : List Keyword → List Base → Option Named
base_type ws [] = by_words (of_words ws)
base_type ws (base ∷ bases) = if has ws words.Void || (has ws words.Char || has_int_word ws) then None else Some (named_by base)

-- No qualifier stands both beside a type's name and in the type.
abbrev pub qualifies_once : List Keyword → Qualified → Bool
qualifies_once ws ty = not (has ws words.Const && ty.constant) && not (has ws words.Volatile && ty.volatile)

-- ---- where words on storage and `interrupt` may stand

abbrev pub is_automatic : List Keyword → Bool
is_automatic ws = has ws words.Auto || has ws words.Register

abbrev pub may_stand : Known → Site → List Keyword → Bool
may_stand known InFile ws = not (is_automatic ws)
may_stand known InBlock ws = not (has ws words.Typedef)
may_stand known OfMember ws = nat_eq (storage_words ws) 0 && not (has ws words.Interrupt)
may_stand known OfParam ws = not (has ws words.Typedef || (has ws words.Static || has ws words.Auto)) && not (has ws words.Interrupt)
may_stand known OfTypeName ws = not (has ws words.Typedef || has ws words.Static) && (not (has ws words.Interrupt) && not (is_automatic ws && in_file known))

-- What specifiers say: a type, what it waits for, whether `typedef` stands there, whether it is static or `register`, whether
-- `interrupt` stands there, and the line of the first.
pub record Specified : Type 0 where
  pub ty : Qualified
  pub waiting : Waiting
  pub is_typedef : Bool
  pub fixed : Bool
  pub register : Bool
  pub interrupt : Bool
  pub line : ℕ

-- A qualifier beside the name of a type qualifies that type.
abbrev pub qualified_by : List Keyword → Qualified → Qualified
qualified_by ws ty = record ty { constant = has ws words.Const || ty.constant; volatile = has ws words.Volatile || ty.volatile }

abbrev pub said : List Keyword → Named → ℕ → Specified
said ws named line = record { ty = qualified_by ws named.ty; waiting = named.waiting; is_typedef = has ws words.Typedef; fixed = has ws words.Static; register = has ws words.Register; interrupt = has ws words.Interrupt; line = line }

-- An array of this, where that is complete by now; otherwise it waits.
abbrev pub grown_by : Bool → ℕ → Named → Rule Named
grown_by false n inner = given (record inner { waiting = waits n inner.waiting })
grown_by true n inner = do
  ty ← array_of inner.ty n
  given (record { ty = ty; waiting = Whole })

abbrev pub grown : ℕ → Named → Rule Named
grown n inner = do
  known ← known_here
  grown_by (not (is_waiting inner.waiting) && is_complete known (inner.ty).ty) n inner

-- Arrays that wait are tried again, the inner one first.
abbrev pub remade : Qualified → Waiting → Rule Named
remade ty Whole = given (record { ty = ty; waiting = Whole })
remade ty (OneArray n) = grown n (record { ty = ty; waiting = Whole })
remade ty (TwoArrays n m) = do
  inner ← grown m (record { ty = ty; waiting = Whole })
  grown n inner
remade ty Never = given (record { ty = ty; waiting = Never })

-- The rule of a list of specifiers at a site.
abbrev pub specifiers : Site → Gathered → ℕ → Rule Specified
specifiers site g line = do
  known ← known_here
  named ← wanted kind.Declare line (base_type g.words g.bases)
  _ ← tried ((not (is_orderly g && (qualifies_once g.words named.ty && may_stand known site g.words)), kind.Declare) ∷ []) line
  whole ← remade named.ty named.waiting
  given (said g.words whole line)

-- A marked name is that of a type that is declared.
abbrev pub named_base : Option Binding → Option Base
named_base (Some (TypeNamed ty waiting)) = Some (NamedBase ty waiting)
named_base _ = None

abbrev pub type_name_rule : Symbol → Gathered → Rule Gathered
type_name_rule s g = do
  known ← known_here
  base ← wanted kind.Name s.line (named_base (meaning_of known s.bytes))
  given (with_base base g)

-- the line of the first token of a specifier, and of specifiers
abbrev pub spec_line : SpecTree → ℕ
spec_line (tree.OneWord s) = s.line
spec_line (tree.Tagged k n) = k
spec_line (tree.Body k tag o m ms c) = k
spec_line (tree.NamedType s) = s.line
spec_line (tree.EnumTagged k n) = k
spec_line (tree.EnumBody k tag o e es last c) = k

abbrev pub specs_line : SpecTrees → ℕ
specs_line (tree.Specified s ss) = spec_line s
