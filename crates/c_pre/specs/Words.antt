-- The bytes of tokens, and the words that the language excludes.
use Rattle.std.specs.Prelude.{ℕ, Bool, true, false, ◌&&◌, nat_le, if◌then◌else◌, List, [], ◌∷◌, length, codes, slice_range, find, is_some, Option}
use Rattle.c_pre.specs.declared.words.Excluded.{Excluded}
use Rattle.c_pre.specs.declared.words.Excluded.TheVariants as excluded
use Rattle.std.specs.Cmp.Lexicographic.{pointwise}
use Rattle.std.specs.Str.{bytes_eq}
use Rattle.c_token.specs.declared.token.Tok.{Tok}
use Rattle.c_token.specs.declared.token.TokKind.{TokKind}
use Rattle.c_token.specs.declared.token.TokKind.TheVariants as kind
use Rattle.c_token.specs.declared.token.Punct.TheVariants as punct

-- the bytes from the token's start to its end
abbrev pub word_of : List ℕ → Tok → List ℕ
word_of text t = if nat_le t.start t.end && nat_le t.end (length text) then slice_range text t.start t.end else []

-- the words of C90, and of the HI-TECH PICC compiler, that the subset has no meaning for
abbrev pub excluded_spelling : Excluded → List ℕ
excluded_spelling excluded.Float = codes "float"
excluded_spelling excluded.Double = codes "double"
excluded_spelling excluded.Union = codes "union"
excluded_spelling excluded.Goto = codes "goto"
excluded_spelling excluded.Extern = codes "extern"
excluded_spelling excluded.Bit = codes "bit"
excluded_spelling excluded.Bank1 = codes "bank1"
excluded_spelling excluded.Bank2 = codes "bank2"
excluded_spelling excluded.Bank3 = codes "bank3"
excluded_spelling excluded.Persistent = codes "persistent"
excluded_spelling excluded.Asm = codes "asm"
excluded_spelling excluded.UnderscoreAsm = codes "__asm"
excluded_spelling excluded.Config = codes "__CONFIG"
excluded_spelling excluded.UnderscoreInterrupt = codes "__interrupt"

abbrev pub excluded_words : List Excluded
excluded_words =
    excluded.Float ∷ excluded.Double ∷ excluded.Union ∷ excluded.Goto ∷ excluded.Extern ∷ excluded.Bit ∷
    excluded.Bank1 ∷ excluded.Bank2 ∷ excluded.Bank3 ∷ excluded.Persistent ∷
    excluded.Asm ∷ excluded.UnderscoreAsm ∷ excluded.Config ∷ excluded.UnderscoreInterrupt ∷ []

unfoldable pub excluded_word : List ℕ → Option Excluded
excluded_word word = find (λ w. bytes_eq (excluded_spelling w) word) excluded_words

abbrev pub is_excluded : List ℕ → Tok → Bool
is_excluded text t = is_some (excluded_word (word_of text t))

abbrev pub is_name : TokKind → Bool
is_name kind.Name = true
is_name _ = false

abbrev pub is_hash : TokKind → Bool
is_hash (kind.Punct punct.Hash) = true
is_hash _ = false

abbrev pub is_opening : TokKind → Bool
is_opening (kind.Punct punct.LeftParenthesis) = true
is_opening _ = false

-- the same tokens: the same spellings, one by one
abbrev pub same_words : List ℕ → List Tok → List Tok → Bool
same_words text ts us = pointwise (λ t u. bytes_eq (word_of text t) (word_of text u)) ts us
