-- How many words symbolic code becomes at most with its selects, where all bytes of one copy's frame stand in one bank: behind an
-- access to one of them the next one finds its bank selected (docs/code-generation.md, Selects).
use Rattle.std.specs.Prelude.{ℕ, ◌+◌, nat_eq, Bool, false, not, ◌&&◌, ◌||◌, if◌then◌else◌, List, [], ◌∷◌, Option, Some, None}
use Rattle.core_code.specs.declared.code.Byte.{Byte}
use Rattle.core_code.specs.declared.code.Byte.TheVariants as bytes
use Rattle.sym_code.specs.Words.{words_of_one}
use Rattle.sym_code.specs.declared.code.Sym.{Sym}
use Rattle.sym_code.specs.declared.code.Target.{Target}
use Rattle.bank_page.specs.Kinds.{is_skip, byte_of, target_of}
use Rattle.bank_page.specs.Known.{writes_status, is_of_bit, ends, forgets}

-- a byte of this copy's frame
abbrev pub is_own : ℕ → Byte → Bool
is_own c (bytes.Frame copy offset) = nat_eq c copy
is_own c _ = false

-- the selects of a byte's bank; `has` says that the frame's is selected
abbrev pub bank_words : ℕ → Bool → Option Byte → ℕ
bank_words c has None = 0
bank_words c has (Some byte) = if has && is_own c byte then 0 else 2

-- those of a target's page
abbrev pub page_words : Option Target → ℕ
page_words None = 0
page_words (Some target) = 2

-- those of an instruction
abbrev pub select_words : ℕ → Bool → Sym → ℕ
select_words c has s = bank_words c has (byte_of s) + page_words (target_of s)

-- Behind it another bank may be selected, or what is reached otherwise.
abbrev pub loses : Sym → Bool
loses s = (forgets s || ends s) || (writes_status s && (is_of_bit s 5 || is_of_bit s 6))

-- whether the frame's bank is selected behind an access
abbrev pub has_with : ℕ → Bool → Bool → Option Byte → Bool
has_with c has skips None = has
has_with c has skips (Some byte) = if is_own c byte then has || not skips else false

-- The same behind an instruction. An access that skips, or that may be skipped, has its selects before the first skip, so nothing
-- more is known behind it.
abbrev pub has_behind : ℕ → Bool → Bool → Sym → Bool
has_behind c has behind s = if loses s then false else has_with c has (behind || is_skip s) (byte_of s)

-- the words of instructions with their selects; `behind` says that they stand behind a skip
abbrev pub counted : ℕ → Bool → Bool → List Sym → ℕ
counted c has behind [] = 0
counted c has behind (s ∷ rest) = words_of_one s + select_words c has s + counted c (has_behind c has behind s) (is_skip s) rest
