-- Names of a text, and those that are made of them.
use Rattle.std.specs.Prelude.{◌≡◌, ℕ, ◌<◌, Bool, true, ◌||◌, ◌==◌, List, [], ◌∷◌, length, Result, Ok, Err}
use Rattle.std.specs.List.{list_all, AllPairs}
use Rattle.c_token.specs.Bytes.{is_name_byte}
use Rattle.c_token.specs.Longest.{is_word}
use Rattle.c_nodes.specs.Kinds.{is_name}
use Rattle.c_nodes.specs.Words.{Symbols}
use Rattle.c_typed.specs.Trees.{StaticTree, FunctionTree, Program}
use Rattle.type_rules.specs.Faults.{Fault}
use Rattle.type_rules.specs.Known.{Known}

-- Each token that is a name is spelled as one: letters, digits and underscores, of which the first is no digit.
abbrev pub AreWords : Symbols → Type 0
AreWords [] = Unit {0}
AreWords (s ∷ ss) = (is_name s.kind ≡ true → is_word s.bytes ≡ true) × AreWords ss

-- a byte of a name, or a full stop
abbrev pub is_dotted_byte : ℕ → Bool
is_dotted_byte b = is_name_byte b || (b == 46)

-- bytes of names and full stops, and one at least
pub record IsDotted (name : List ℕ) : Type 0 where
  pub some : 0 < length name
  pub bytes : list_all is_dotted_byte name ≡ true

abbrev pub AreDotted : List StaticTree → Type 0
AreDotted [] = Unit {0}
AreDotted (s ∷ ss) = IsDotted s.name × AreDotted ss

abbrev pub HaveWords : List FunctionTree → Type 0
HaveWords [] = Unit {0}
HaveWords (f ∷ fs) = (is_word f.name ≡ true) × HaveWords fs

abbrev pub HaveOtherNames : FunctionTree → FunctionTree → Type 0
HaveOtherNames f g = f.name ≡ g.name → ⊥

-- Static objects have names with or without full stops, functions names of the text, and no two functions have one name.
pub record AreNamed (p : Program) : Type 0 where
  pub statics : AreDotted p.statics
  pub functions : HaveWords p.functions
  pub distinct : AllPairs HaveOtherNames p.functions

-- ---- where a unit is read so far

-- the static objects have such names, and the function whose body is read has this one
abbrev pub Held : List ℕ → Known → Type 0
Held name known = AreDotted known.statics × ((known.body).name ≡ name)

-- That holds behind a rule, where it is met.
unfoldable pub Stays : {A : Type 0} → List ℕ → Result (A × Known) Fault → Type 0
Stays name (Ok x) = Held name x.1
Stays name (Err fault) = Unit {0}
