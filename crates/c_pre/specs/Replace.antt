-- Names and what they stand for (ISO/IEC 9899:1990, 6.8.3, for names without parameters).
use Rattle.std.specs.Prelude.{ℕ, zero, suc, ◌+◌, Bool, true, false, if◌then◌else◌, List, [], ◌∷◌, ◌++◌, length, map, replicate, Option, Some, None, Result, Ok, Err, slice_index_or, slice_set, IfSome, ◌≡◌, ◌<◌, ◌≤◌}
use Rattle.std.specs.List.{flat_map}
use Rattle.c_token.specs.declared.token.Tok.{Tok}
use Rattle.c_pre.specs.declared.PreError.{PreError}
use Rattle.c_pre.specs.declared.PreError.TheVariants as error
use Rattle.c_pre.specs.declared.replace.Output.{Output}
use Rattle.c_pre.specs.declared.replace.Frame.{Frame}
use Rattle.c_pre.specs.Words.{word_of, is_name}
use Rattle.c_pre.specs.Directive.{Table, position_of}

-- A step of the replacement: a token is left, or a name on a line is replaced.
pub data Event : Type 0 where
  Left : Tok → Event
  Replaced : ℕ → Event

-- a token that came from a name has the name's line
abbrev pub at_line : ℕ → Tok → Tok
at_line line t = record t { line = line }

abbrev pub if_open : List Bool → Option ℕ → Option ℕ
if_open busy None = None
if_open busy (Some k) = if slice_index_or busy k false then None else Some k

-- which definition a token's name has, if its replacement isn't under way
unfoldable pub open_definition : List ℕ → Table → List Bool → Tok → Option ℕ
open_definition text table busy t = if is_name t.kind then if_open busy (position_of table (word_of text t)) else None

abbrev pub list_at : Table → ℕ → List Tok
list_at table k = (slice_index_or table k ([], [])).1

-- Replacing one token: it is left, or its list is replaced in the same way, where `again` does so with
-- the definition marked as under way.
abbrev pub replace_one : (List Bool → List Tok → List Event) → Table → List Bool → ℕ → Tok → Option ℕ → List Event
replace_one again table busy line t None = Left (at_line line t) ∷ []
replace_one again table busy line t (Some k) = Replaced line ∷ again (slice_set busy k true) (list_at table k)

-- What becomes of a list of tokens that came from a name on a line, from left to right. `busy` says of
-- each definition whether its replacement is under way. There can't be more replacements within one
-- another than definitions, of which `depth` aren't under way.
unfoldable pub replace : ℕ → List ℕ → Table → ℕ → List Bool → List Tok → List Event
replace zero text table line busy ts = map (λ t. Left (at_line line t)) ts
replace (suc depth) text table line busy ts =
    flat_map (λ t. replace_one (replace depth text table line) table busy line t (open_definition text table busy t)) ts

-- what becomes of a list that stands on a line of the text, with the definitions before it
abbrev pub events_of : List ℕ → Table × ℕ × List Tok → List Event
events_of text x = replace (length x.0) text x.0 x.1 (replicate (length x.0) false) x.2

abbrev pub with_token : Tok → Result (List Tok) PreError → Result (List Tok) PreError
with_token t (Ok ts) = Ok (t ∷ ts)
with_token t (Err e) = Err e

-- The tokens that are left, where `room` steps are allowed.
unfoldable pub limited : ℕ → List Event → Result (List Tok) PreError
limited room [] = Ok []
limited zero (Left t ∷ es) = Err (error.Tokens t.line)
limited zero (Replaced line ∷ es) = Err (error.Tokens line)
limited (suc room) (Left t ∷ es) = with_token t (limited room es)
limited (suc room) (Replaced line ∷ es) = limited room es

-- How the code keeps what is left so far and the steps that are still allowed.

abbrev pub with_tokens : List Tok → Result (List Tok) PreError → Result (List Tok) PreError
with_tokens ts (Ok us) = Ok (ts ++ us)
with_tokens ts (Err e) = Err e

abbrev pub total : Output → List Event → Result (List Tok) PreError
total output es = with_tokens output.tokens.items (limited output.room es)

-- a fact on an error other than want of memory
abbrev pub Unless : PreError → Type 0 → Type 0
Unless error.NoMemory fact = Unit {0}
Unless (error.Word line) fact = fact
Unless (error.Directive line) fact = fact
Unless (error.Tokens line) fact = fact

-- what becomes of the result when some events come first
abbrev pub Passes : Output → Output → Result (Unit {0}) PreError → List Event → Type 0
Passes old new (Ok _) made = (es : List Event) → total old (made ++ es) ≡ total new es
Passes old new (Err e) made = Unless e ((es : List Event) → total old (made ++ es) ≡ Err e)

abbrev pub unmarked : List Bool → Option ℕ → List Bool
unmarked busy None = busy
unmarked busy (Some k) = slice_set busy k false

-- how many definitions aren't under way
abbrev pub free_count : List Bool → ℕ
free_count [] = 0
free_count (b ∷ bs) = (if b then 0 else 1) + free_count bs

-- as many definitions are free as may still be entered, and each list that waits has its definition
abbrev pub IsInStep : ℕ → List Bool → List Frame → Type 0
IsInStep size busy stack = (length busy ≡ size) × (free_count busy + length stack ≤ size + 1)

abbrev pub IsMark : ℕ → Frame → Type 0
IsMark size f = IfSome f.definition (λ k. k < size)

-- what becomes of the result when a step is taken from one state to another
abbrev pub Moves : Output → Output → Result (Unit {0}) PreError → List Event → List Event → Type 0
Moves old new (Ok _) before after = (es : List Event) → total old (before ++ es) ≡ total new (after ++ es)
Moves old new (Err e) before after = Unless e ((es : List Event) → total old (before ++ es) ≡ Err e)
