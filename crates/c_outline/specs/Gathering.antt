-- What the checker keeps of a list of specifiers, as the rules gather it.
use Rattle.std.specs.Prelude.{◌≡◌, Bool, true, false, not, ◌&&◌, ◌||◌, if◌then◌else◌, List, [], ◌∷◌, Option, Some, None, is_some, Result, Ok, Err}
use Rattle.c_ints.specs.declared.types.IntTy.{IntTy}
use Rattle.c_ints.specs.declared.types.IntTy.TheVariants as int
use Rattle.c_token.specs.declared.token.Keyword.{Keyword}
use Rattle.c_token.specs.declared.token.Keyword.TheVariants as words
use Rattle.c_tables.specs.Answers.{Refuses}
use Rattle.c_tables.specs.Tables.{waiting_of}
use Rattle.c_tables.specs.declared.error.CheckError.{CheckError}
use Rattle.c_tables.specs.declared.scope.Waiting.{Waiting}
use Rattle.c_tables.specs.declared.scope.Waiting.TheVariants as waitings
use Rattle.c_typed.specs.declared.types.Qualified.{Qualified}
use Rattle.c_typed.specs.declared.types.Ty.{Ty}
use Rattle.c_typed.specs.declared.types.Ty.TheVariants.{Void}
use Rattle.type_rules.specs.Faults.{Fault}
use Rattle.type_rules.specs.Known as rule_known
use Rattle.type_rules.specs.Known.{Known}
use Rattle.type_rules.specs.Specifiers as rule
use Rattle.type_rules.specs.Specifiers.{Gathered, has, is_orderly, of_int}
use Rattle.c_outline.specs.declared.specifiers.Base.{Base}
use Rattle.c_outline.specs.declared.specifiers.Base.TheVariants as bases
use Rattle.c_outline.specs.declared.specifiers.NamedType.{NamedType}
use Rattle.c_outline.specs.declared.specifiers.Site.{Site}
use Rattle.c_outline.specs.declared.specifiers.Site.TheVariants as sites
use Rattle.c_outline.specs.declared.specifiers.Storage.{Storage}
use Rattle.c_outline.specs.declared.specifiers.Storage.TheVariants as storages
use Rattle.c_outline.specs.declared.specifiers.Words.{Words}
use Rattle.c_outline.specs.Views.{is_typedef, is_static, is_register}

abbrev pub is_plain : Storage → Bool
is_plain storages.Plain = true
is_plain _ = false

abbrev pub is_auto : Storage → Bool
is_auto storages.Auto = true
is_auto _ = false

-- the last word on storage, which stands first in the list
abbrev pub storage_after : Keyword → Storage → Storage
storage_after words.Typedef before = storages.Typedef
storage_after words.Static before = storages.Static
storage_after words.Auto before = storages.Auto
storage_after words.Register before = storages.Register
storage_after _ before = before

abbrev pub storage_in : List Keyword → Storage
storage_in [] = storages.Plain
storage_in (w ∷ ws) = storage_after w (storage_in ws)

-- what names a type without a word, as the rules have it, and as the code has it
abbrev pub base_of : Base → rule.Base
base_of (bases.Structure number) = rule.StructBase number
base_of bases.Enumeration = rule.EnumBase
base_of (bases.Named ty waiting) = rule.NamedBase ty (waiting_of waiting)

abbrev pub waiting_kept : rule_known.Waiting → Waiting
waiting_kept rule_known.Whole = waitings.Whole
waiting_kept (rule_known.OneArray n) = waitings.OneArray n
waiting_kept (rule_known.TwoArrays n m) = waitings.TwoArrays n m
waiting_kept rule_known.Never = waitings.Never

abbrev pub base_kept : rule.Base → Base
base_kept (rule.StructBase number) = bases.Structure number
base_kept rule.EnumBase = bases.Enumeration
base_kept (rule.NamedBase ty waiting) = bases.Named ty (waiting_kept waiting)

abbrev pub first_of : List rule.Base → Option Base
first_of [] = None
first_of (b ∷ bs) = Some (base_kept b)

abbrev pub named_of : NamedType → rule.Named
named_of n = record { ty = n.ty; waiting = waiting_of n.waiting }

-- What is kept of the specifiers so far.
abbrev pub kept_of : Gathered → Words
kept_of g = record { void = has g.words words.Void; char = has g.words words.Char; short = has g.words words.Short; int = has g.words words.Int; long = has g.words words.Long; signed = has g.words words.Signed; unsigned = has g.words words.Unsigned; base = first_of g.bases; constant = has g.words words.Const; volatile = has g.words words.Volatile; storage = storage_in g.words; interrupt = has g.words words.Interrupt; bad = not (is_orderly g) }

-- ---- a word more

-- Whether the word may not stand behind these: it was said before, or another one on storage was.
abbrev pub is_said : Keyword → Words → Bool
is_said words.Void w = w.void
is_said words.Char w = w.char
is_said words.Short w = w.short
is_said words.Int w = w.int
is_said words.Long w = w.long
is_said words.Signed w = w.signed
is_said words.Unsigned w = w.unsigned
is_said words.Const w = w.constant
is_said words.Volatile w = w.volatile
is_said words.Typedef w = not (is_plain w.storage)
is_said words.Static w = not (is_plain w.storage)
is_said words.Auto w = not (is_plain w.storage)
is_said words.Register w = not (is_plain w.storage)
is_said _ w = false

abbrev pub with_flag : Keyword → Words → Words
with_flag words.Void w = record w { void = true }
with_flag words.Char w = record w { char = true }
with_flag words.Short w = record w { short = true }
with_flag words.Int w = record w { int = true }
with_flag words.Long w = record w { long = true }
with_flag words.Signed w = record w { signed = true }
with_flag words.Unsigned w = record w { unsigned = true }
with_flag words.Const w = record w { constant = true }
with_flag words.Volatile w = record w { volatile = true }
with_flag words.Typedef w = record w { storage = storages.Typedef }
with_flag words.Static w = record w { storage = storages.Static }
with_flag words.Auto w = record w { storage = storages.Auto }
with_flag words.Register w = record w { storage = storages.Register }
with_flag words.Interrupt w = record w { interrupt = true }
with_flag _ w = w

abbrev pub worded : Keyword → Words → Words
worded k w = with_flag k (record w { bad = w.bad || is_said k w })

abbrev pub based : Base → Words → Words
based base w = record w { base = Some base; bad = w.bad || is_some w.base }

-- ---- the type that they name together, by what is kept

abbrev pub has_int_word : Words → Bool
has_int_word w = w.short || (w.int || (w.long || (w.signed || w.unsigned)))

abbrev pub char_type : Words → Option IntTy
char_type w =
    if w.short || (w.int || (w.long || (w.signed && w.unsigned))) then None
    else if w.signed then Some int.SChar
    else if w.unsigned then Some int.UChar
    else Some int.Char

abbrev pub wide_type : Words → IntTy
wide_type w =
    if w.short then (if w.unsigned then int.UShort else int.Short)
    else if w.long then (if w.unsigned then int.ULong else int.Long)
    else if w.unsigned then int.UInt
    else int.Int

abbrev pub int_type : Words → Option IntTy
int_type w = if (w.signed && w.unsigned) || (w.short && w.long) then None else Some (wide_type w)

abbrev pub word_type : Words → Option Ty
word_type w =
    if w.void then (if w.char || has_int_word w then None else Some Void)
    else if w.char then of_int (char_type w)
    else if has_int_word w then of_int (int_type w)
    else None

abbrev pub base_type : Words → Option Base → Option rule.Named
base_type w None = rule.by_words (word_type w)
base_type w (Some base) = if w.void || (w.char || has_int_word w) then None else Some (rule.named_by (base_of base))

abbrev pub qualifies_once : Words → Qualified → Bool
qualifies_once w ty = not (w.constant && ty.constant) && not (w.volatile && ty.volatile)

-- ---- where they may stand

abbrev pub fits : Words → Site → Bool → Bool
fits w sites.File in_file = not (is_auto w.storage || is_register w.storage)
fits w sites.Block in_file = not (is_typedef w.storage)
fits w sites.Member in_file = is_plain w.storage && not w.interrupt
fits w sites.Param in_file = (is_plain w.storage || is_register w.storage) && not w.interrupt
fits w sites.TypeName in_file = not (is_typedef w.storage || is_static w.storage) && (not w.interrupt && not ((is_auto w.storage || is_register w.storage) && in_file))

-- ---- what a call answers that reads specifiers: what is kept of those that the rules gather

pub record GathersTo (w : Words) (after : Known) (said : Result (Gathered × Known) Fault) : Type 0 where
  pub gathered : Gathered
  pub kept : w ≡ kept_of gathered
  pub answers : said ≡ Ok (gathered, after)

abbrev pub Gathers : Result Words CheckError → Known → Result (Gathered × Known) Fault → Type 0
Gathers (Ok w) after said = GathersTo w after said
Gathers (Err e) after said = Refuses e said
