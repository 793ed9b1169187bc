-- Marks as the code keeps them, and the test of narrow_code as the code goes it.
use Rattle.std.specs.Prelude.{ℕ, zero, suc, ◌+◌, ◌≡◌, Bool, true, false, ◌&&◌, nat_eq, if◌then◌else◌, List, [], map, reverse, replicate, set, get_or, Option, Some, None}
use Rattle.c_ints.specs.Operators.{type_of, unary_type}
use Rattle.c_ints.specs.Range.{bytes_of}
use Rattle.core_code.specs.Tree as tree
use Rattle.core_code.specs.Tree.{Tree, trees_of, list_of}
use Rattle.core_code.specs.Values.{right_type}
use Rattle.core_code.specs.declared.code.Byte.{Byte}
use Rattle.core_code.specs.declared.code.Byte.TheVariants.{Static, Frame, Result, Device}
use Rattle.narrow_code.specs.Checked.{Turn, put, put_bytes, put_on, nowhere, same_from, may_exit, may_repeat, walk, walk_all}
use Rattle.narrow_code.specs.Drafts.{Draft, Drafts, marks_in, planned, all_planned}
use Rattle.narrow_code.specs.Lending.{lends, all_lend}
use Rattle.narrow_code.specs.Links.{is_lent}
use Rattle.narrow_code.specs.Marks.{Mark, Zero, Numbers, Same, Tells, Denies, Cleared, Differs, is_same, is_cleared, own_mark}
use Rattle.narrow_code.specs.Places.{AtEachPlace, AtAllPlaces, IsRetyped}
use Rattle.narrow_code.specs.Plans.{Way, Whole, Low, Turned, made, all_made}
use Rattle.narrow_code.specs.Right.{set_mark, behind_binary, behind_convert}
use Rattle.narrow_pass.specs.declared.marks.Mark as kept
use Rattle.narrow_pass.specs.declared.marks.Mark.TheVariants as kept_marks
use Rattle.narrow_pass.specs.declared.marks.Run.{Run}
use Rattle.narrow_pass.specs.declared.operations.Way as kept_way
use Rattle.narrow_pass.specs.declared.operations.Way.TheVariants as kept_ways
use Rattle.narrow_pass.specs.declared.turns.Turn as kept_turns

-- ---- marks
abbrev pub mark_of : kept.Mark → Mark
mark_of kept_marks.Zero = Zero
mark_of kept_marks.Numbers = Numbers
mark_of kept_marks.Same = Same
mark_of kept_marks.Tells = Tells
mark_of kept_marks.Denies = Denies
mark_of kept_marks.Cleared = Cleared
mark_of kept_marks.Differs = Differs

-- how a condition is made
abbrev pub way_in : kept_way.Way → Way
way_in kept_ways.Whole = Whole
way_in kept_ways.Low = Low
way_in kept_ways.Turned = Turned

abbrev pub marks_of : List kept.Mark → List Mark
marks_of marks = map mark_of marks

abbrev pub turn_of : kept_turns.Turn → Turn
turn_of t = record { front = marks_of t.front.items; behind = marks_of t.behind.items }

-- the innermost first
abbrev pub turns_of : List kept_turns.Turn → List Turn
turns_of turns = reverse (map turn_of turns)

-- beyond the end nothing is known, and no frame is lent
abbrev pub entry_mark : Option kept.Mark → Mark
entry_mark None = Differs
entry_mark (Some mark) = mark_of mark

abbrev pub entry_flag : Option Bool → Bool
entry_flag None = false
entry_flag (Some flag) = flag

-- ---- runs of bytes
-- the place of a byte in the own frame
abbrev pub own_place : ℕ → Byte → Option ℕ
own_place p (Frame copy offset) = if nat_eq copy p then Some offset else None
own_place p _ = None

-- no operation on low bytes ever writes it
abbrev pub is_steady : (ℕ → Bool) → ℕ → Byte → Bool
is_steady lent p (Static object offset) = true
is_steady lent p (Frame copy offset) = nat_eq copy p && lent copy
is_steady lent p (Result root k) = true
is_steady lent p (Device address) = true

abbrev pub set_bytes : List Mark → ℕ → ℕ → (ℕ → Mark) → List Mark
set_bytes marks at zero mark = marks
set_bytes marks at (suc n) mark = set (set_bytes marks at n mark) (at + n) (mark n)

abbrev pub all_same : List Mark → ℕ → ℕ → Bool
all_same marks at zero = true
all_same marks at (suc n) = is_same (get_or marks at Differs) && all_same marks (at + 1) n

-- so many are 0 in the given program
abbrev pub all_cleared : List Mark → ℕ → ℕ → Bool
all_cleared marks at zero = true
all_cleared marks at (suc n) = is_cleared (get_or marks at Differs) && all_cleared marks (at + 1) n

-- ---- operations
-- the bytes that an operation reads, in one run or two, and which must be the same
abbrev pub nothing_read : Run
nothing_read = record { byte = Device 0; count = 0 }

abbrev pub first_read : Tree → Run
first_read (tree.Copy to from) = record { byte = from; count = 1 }
first_read (tree.Load to pointer count) = record { byte = pointer; count = 2 }
first_read (tree.Store pointer from count) = record { byte = pointer; count = 2 }
first_read (tree.Unary op ty at) = record { byte = at; count = bytes_of ty }
first_read (tree.Binary op ty to left right) = record { byte = left; count = bytes_of ty }
first_read (tree.Convert from to at) = record { byte = at; count = bytes_of from }
first_read (tree.BitWrite register bit from) = record { byte = from; count = 1 }
first_read _ = nothing_read

abbrev pub second_read : Tree → Run
second_read (tree.Store pointer from count) = record { byte = from; count = count }
second_read (tree.Binary op ty to left right) = record { byte = right; count = bytes_of (right_type op ty) }
second_read _ = nothing_read

abbrev pub reads_same : (ℕ → Bool) → ℕ → List Mark → Tree → Bool
reads_same lent p here t = same_from lent p here (first_read t).byte (first_read t).count && same_from lent p here (second_read t).byte (second_read t).count

-- it has no parts, and the loop that it leaves or repeats allows that
abbrev pub may_go : List Turn → List Mark → Tree → Bool
may_go turns here (tree.Exit n) = may_exit turns n here
may_go turns here (tree.Again n) = may_repeat turns n here
may_go turns here (tree.Many ts) = false
may_go turns here (tree.If test size first second) = false
may_go turns here (tree.Loop body) = false
may_go turns here _ = true

-- an operation without parts
abbrev pub is_single : Tree → Bool
is_single (tree.Many ts) = false
is_single (tree.If test size first second) = false
is_single (tree.Loop body) = false
is_single _ = true

-- what is known behind it
abbrev pub written : (ℕ → Bool) → ℕ → List Mark → Tree → List Mark
written lent p here (tree.Set to value) = put p here to (set_mark value)
written lent p here (tree.Address to place) = put_bytes p here to 2 (λ k. Same)
written lent p here (tree.Copy to from) = put p here to (own_mark lent p (marks_in here) from)
written lent p here (tree.Load to pointer count) = put_on p here to count
written lent p here (tree.Unary op ty at) = put_bytes p here at (bytes_of (unary_type op ty)) (λ k. Numbers)
written lent p here (tree.Binary op ty to left right) = put_bytes p here to (bytes_of (type_of op ty)) (behind_binary lent p (marks_in here) op ty left right)
written lent p here (tree.Convert from to at) = put_bytes p here at (bytes_of to) (behind_convert lent p (marks_in here) from at)
written lent p here (tree.BitRead to register bit) = put p here to Numbers
written lent p here tree.Leave = nowhere here
written lent p here (tree.Exit n) = nowhere here
written lent p here (tree.Again n) = nowhere here
written lent p here _ = here

-- ---- what is made
-- Some code is what a plan makes of other code, whose draft passes; where types alone are to change, nothing else does.
pub record IsMade (alone : Bool) (lent : ℕ → Bool) (p : ℕ) (turns : List Turn) (here : List Mark) (old new : Tree) (after : List Mark) : Type 0 where
  pub draft : Draft
  pub passes : walk lent p turns here old draft ≡ Some after
  pub code : new ≡ made (planned old draft)
  pub lending : lends (is_lent lent) old ≡ true
  pub places : alone ≡ true → AtEachPlace IsRetyped old new

pub record AreMade (alone : Bool) (lent : ℕ → Bool) (p : ℕ) (turns : List Turn) (here : List Mark) (old new : List Tree) (after : List Mark) : Type 0 where
  pub drafts : Drafts
  pub passes : walk_all lent p turns here (trees_of old) drafts ≡ Some after
  pub code : new ≡ list_of (all_made (all_planned (trees_of old) drafts))
  pub lending : all_lend (is_lent lent) (trees_of old) ≡ true
  pub places : alone ≡ true → AtAllPlaces IsRetyped (trees_of old) (trees_of new)

-- ---- a body
-- What is made of a body, of whose frame so many bytes are known to be the same at its front.
pub record IsTried (alone : Bool) (lent : ℕ → Bool) (p : ℕ) (old new : List Tree) : Type 0 where
  pub size : ℕ
  pub after : List Mark
  pub are : AreMade alone lent p [] (replicate size Same) old new after
