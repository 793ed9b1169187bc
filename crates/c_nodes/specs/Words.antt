-- Symbols: the tokens of a tree as data, and the spelling of its smallest parts.
use Rattle.std.specs.Prelude.{ℕ, List, [], ◌∷◌, ◌++◌, Option, Some, None, map}
use Rattle.c_token.specs.declared.token.TokKind.{TokKind}
use Rattle.c_token.specs.declared.token.TokKind.TheVariants as kinds
use Rattle.c_token.specs.declared.token.Keyword.{Keyword}
use Rattle.c_token.specs.declared.token.Punct.{Punct}
use Rattle.c_nodes.specs.declared.word.Name.{Name}
use Rattle.c_nodes.specs.declared.word.Text.{Text}
use Rattle.c_nodes.specs.declared.word.Word.{Word}
use Rattle.c_nodes.specs.declared.word.Sign.{Sign}
use Rattle.c_nodes.specs.declared.word.Pointer.{Pointer}
use Rattle.c_nodes.specs.declared.word.Constant.{Constant}
use Rattle.c_nodes.specs.declared.word.Constant.TheVariants.{Int, Char}
use Rattle.c_token.specs.declared.token.Punct.TheVariants.{Star, Comma}

-- A token as a tree has it: its kind, the bytes of a name or of a string (none of another token),
-- and its line.
pub record Symbol : Type 0 where
  pub kind : TokKind
  pub bytes : List ℕ
  pub line : ℕ

abbrev pub Symbols : Type 0
Symbols = List Symbol

abbrev pub plain : TokKind → ℕ → Symbol
plain kind line = record { kind = kind; bytes = []; line = line }

abbrev pub key : Keyword → ℕ → Symbol
key keyword line = plain (kinds.Keyword keyword) line

abbrev pub punct : Punct → ℕ → Symbol
punct p line = plain (kinds.Punct p) line

abbrev pub keyed : Word → Symbol
keyed w = key w.keyword w.line

abbrev pub signed : Sign → Symbol
signed s = punct s.punct s.line

abbrev pub named : Name → Symbol
named n = record { kind = kinds.Name; bytes = n.bytes.items; line = n.line }

-- a name that is marked as that of a type
abbrev pub type_named : Name → Symbol
type_named n = record { kind = kinds.TypeName; bytes = n.bytes.items; line = n.line }

abbrev pub quoted : Text → Symbol
quoted t = record { kind = kinds.Text; bytes = t.bytes.items; line = t.line }

abbrev pub spell_constant : Constant → Symbol
spell_constant (Int value base u l line) = plain (kinds.Int value base u l) line
spell_constant (Char value line) = plain (kinds.Char value) line

-- the spellings of several parts, one behind the other
abbrev pub flat : List Symbols → Symbols
flat [] = []
flat (s ∷ ss) = s ++ flat ss

abbrev pub spell_pointer : Pointer → Symbols
spell_pointer p = punct Star p.star ∷ map keyed p.qualifiers.items

abbrev pub spell_pointers : List Pointer → Symbols
spell_pointers ps = flat (map spell_pointer ps)

abbrev pub spell_tag : Option Name → Symbols
spell_tag None = []
spell_tag (Some n) = named n ∷ []

-- a comma that may be left out
abbrev pub spelled_comma : Option ℕ → Symbols
spelled_comma None = []
spelled_comma (Some c) = punct Comma c ∷ []

-- the kinds of symbols, which is what the bytes and lines leave
abbrev pub kinds_of : Symbols → List TokKind
kinds_of [] = []
kinds_of (s ∷ ss) = s.kind ∷ kinds_of ss
