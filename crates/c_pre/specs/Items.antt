-- A text's tokens, line by line: directives, and tokens outside them.
use Rattle.std.specs.Prelude.{ℕ, zero, suc, Bool, true, false, not, if◌then◌else◌, List, [], ◌∷◌, ◌++◌, length, take, Option, Some, None, Result, Ok, Err, map, ◌≡◌, ◌≤◌}
use Rattle.std.specs.declared.vec.Vec.{Vec}
use Rattle.std.specs.declared.alloc.Global.{Global}
use Rattle.c_pre.specs.declared.program.Free.{Free}
use Rattle.std.specs.List.{flat_map, prefix_len}
use Rattle.c_token.specs.declared.token.Tok.{Tok}
use Rattle.c_pre.specs.declared.PreError.{PreError}
use Rattle.c_pre.specs.declared.PreError.TheVariants as error
use Rattle.c_pre.specs.Words.{is_excluded, is_hash, same_words}
use Rattle.c_pre.specs.Directive.{Table, Said, Nothing, Defines, Wrong, position_of, line_of}
use Rattle.c_pre.specs.Replace.{Event, events_of, limited, list_at}

-- A token outside directives with the definitions before it, the list of a good definition, or a line
-- with a bad directive.
pub data Item : Type 0 where
  Outside : Table → Tok → Item
  List_of : List Tok → Item
  Bad : ℕ → Item

-- a name may be defined again with the same tokens only
abbrev pub defined : List ℕ → Table → List ℕ → List Tok → Option ℕ → Option Table
defined text table name list None = Some (table ++ (name, list) ∷ [])
defined text table name list (Some k) = if same_words text (list_at table k) list then Some table else None

abbrev pub after_definition : (Table → List Item) → Table → ℕ → List Tok → Option Table → List Item
after_definition again table line list None = Bad line ∷ again table
after_definition again table line list (Some grown) = List_of list ∷ again grown

-- what a directive on a line is, and what follows it
abbrev pub after_line : List ℕ → (Table → List Item) → Table → ℕ → Said → List Item
after_line text again table line Nothing = again table
after_line text again table line Wrong = Bad line ∷ again table
after_line text again table line (Defines name list) =
    after_definition again table line list (defined text table name list (position_of table name))

-- the rest of a line's tokens
abbrev pub line_length : List Tok → ℕ
line_length ts = prefix_len (λ t. not t.first) ts

-- The items of tokens, whose first `passed` belong to a directive that was read already.
unfoldable pub items : List ℕ → List Tok → ℕ → Table → List Item
items text [] passed table = []
items text (t ∷ ts) (suc passed) table = items text ts passed table
items text (t ∷ ts) zero table =
    if is_hash t.kind then after_line text (items text ts (line_length ts)) table t.line (line_of text (take (line_length ts) ts))
    else Outside table t ∷ items text ts zero table

-- the line of the first excluded word, outside directives or in the list of a good definition
abbrev pub first_excluded : List ℕ → List Tok → Option ℕ
first_excluded text [] = None
first_excluded text (t ∷ ts) = if is_excluded text t then Some t.line else first_excluded text ts

abbrev pub or_else : Option ℕ → Option ℕ → Option ℕ
or_else (Some n) later = Some n
or_else None later = later

unfoldable pub first_word : List ℕ → List Item → Option ℕ
first_word text [] = None
first_word text (Outside table t ∷ is) = or_else (first_excluded text (t ∷ [])) (first_word text is)
first_word text (List_of list ∷ is) = or_else (first_excluded text list) (first_word text is)
first_word text (Bad line ∷ is) = first_word text is

unfoldable pub first_bad : List Item → Option ℕ
first_bad [] = None
first_bad (Outside table t ∷ is) = first_bad is
first_bad (List_of list ∷ is) = first_bad is
first_bad (Bad line ∷ is) = Some line

unfoldable pub free_tokens : List Item → List (Table × ℕ × List Tok)
free_tokens [] = []
free_tokens (Outside table t ∷ is) = (table, t.line, t ∷ []) ∷ free_tokens is
free_tokens (List_of list ∷ is) = free_tokens is
free_tokens (Bad line ∷ is) = free_tokens is

-- an excluded word comes before a bad directive, and that before the limit
abbrev pub judged : Option ℕ → Option ℕ → Result (List Tok) PreError → Result (List Tok) PreError
judged (Some line) bad tokens = Err (error.Word line)
judged None (Some line) tokens = Err (error.Directive line)
judged None None tokens = tokens

-- The tokens of a program. The tokens left and the names replaced may be 262,144 together.
abbrev pub program_of : List ℕ → List Tok → Result (List Tok) PreError
program_of text raw =
    let is = items text raw 0 [] in
    judged (first_word text is) (first_bad is) (limited 262144 (flat_map (events_of text) (free_tokens is)))

-- What the code keeps while it goes over the tokens.

-- the tokens outside directives so far, each with how many definitions stand before it
abbrev pub free_view : Table → List Free → List (Table × ℕ × List Tok)
free_view table fs = map (λ f. (take f.known table, f.line, f.token.now)) fs

-- what becomes of them
abbrev pub events : List ℕ → Table → List Free → List Event
events text table fs = flat_map (events_of text) (free_view table fs)

-- What adding a definition does to the table.
abbrev pub Adds : List ℕ → List ℕ → List Tok → Table → Table → Result Bool PreError → Type 0
Adds text name list old new (Ok true) = defined text old name list (position_of old name) ≡ Some new
Adds text name list old new (Ok false) = (defined text old name list (position_of old name) ≡ None) × (new ≡ old)
Adds text name list old new (Err e) = e ≡ error.NoMemory

-- What a directive line that was taken does, whatever line it is and whatever follows it: a good one
-- leaves what follows it; a bad one changes no table.
abbrev pub Takes : List ℕ → Said → Table → Table → Result Bool PreError → Type 0
Takes text said old new (Ok true) = (again : Table → List Item) (line : ℕ) →
    (first_word text (after_line text again old line said) ≡ first_word text (again new))
    × (first_bad (after_line text again old line said) ≡ first_bad (again new))
    × (free_tokens (after_line text again old line said) ≡ free_tokens (again new))
Takes text said old new (Ok false) = (again : Table → List Item) (line : ℕ) →
    (after_line text again old line said ≡ Bad line ∷ again new)
Takes text said old new (Err error.NoMemory) = Unit {0}
Takes text said old new (Err (error.Word l)) = (again : Table → List Item) (line : ℕ) →
    (first_word text (after_line text again old line said) ≡ Some l)
Takes text said old new (Err (error.Directive l)) = ⊥
Takes text said old new (Err (error.Tokens l)) = ⊥

-- the whole list seen from a place inside it
abbrev pub Walks : List ℕ → List Item → Table → List Free → Option ℕ → List Item → Type 0
Walks text all table free wrong rest =
    (first_word text all ≡ first_word text rest)
    × (first_bad all ≡ or_else wrong (first_bad rest))
    × (free_tokens all ≡ free_view table free ++ free_tokens rest)

-- the error is the answer, if it isn't want of memory
abbrev pub IsError : PreError → Result (List Tok) PreError → Type 0
IsError error.NoMemory tokens = Unit {0}
IsError (error.Word l) tokens = tokens ≡ Err (error.Word l)
IsError (error.Directive l) tokens = tokens ≡ Err (error.Directive l)
IsError (error.Tokens l) tokens = tokens ≡ Err (error.Tokens l)

-- what a function gives, unless memory runs out
abbrev pub Gives : Result (Vec Tok Global) PreError → Result (List Tok) PreError → Type 0
Gives (Ok v) tokens = tokens ≡ Ok v.items
Gives (Err e) tokens = IsError e tokens

-- the error of an excluded word on a line, if it isn't want of memory
abbrev pub IsWordOf : PreError → Option ℕ → Type 0
IsWordOf error.NoMemory line = Unit {0}
IsWordOf (error.Word l) line = line ≡ Some l
IsWordOf (error.Directive l) line = ⊥
IsWordOf (error.Tokens l) line = ⊥

-- it is one token, and its definitions are there
abbrev pub IsFree : ℕ → Free → Type 0
IsFree count f = (length f.token.now ≡ 1) × (f.known ≤ count)
