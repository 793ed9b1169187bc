-- The steps of the source. A step is a micro-step that counts, behind those that don't.
use Rattle.std.specs.Prelude.{ℕ, ◌+◌, Bool, true, false, ◌&&◌, nat_lt, if◌then◌else◌, List, [], ◌∷◌, Option, Some, None}
use Rattle.c_typed.specs.Trees as tree
use Rattle.c_typed.specs.Trees.{Expression, Program}
use Rattle.pic_world.specs.World.{World, arrived, is_due, entered, world_at_start}
use Rattle.pic_world.specs.declared.Root.{Root}
use Rattle.pic_world.specs.declared.Root.TheVariants.{Main, Isr}
use Rattle.src_rules.specs.Accesses.{goes, fetch, skim, write, put_bit, copy_read, copy_write, spell, blank}
use Rattle.src_rules.specs.Expressions.{eval, find, found}
use Rattle.src_rules.specs.Giving.{give, compares}
use Rattle.src_rules.specs.State.{State, state, Outcome, Went, Undefined, Idle, Lost}
use Rattle.src_rules.specs.Statements.{begin, leave, proceed}
use Rattle.src_values.specs.Memory.{Setting, Memory, fresh, first_memory}
use Rattle.src_values.specs.Control.{Focus, Eval, Find, Holds, Found, Run, Past, Fetch, Skim, Write, PutBit, CopyRead, CopyWrite, Spell, Blank, Calls, Leaves, Compares, Over, Got, Passed, Called, Pending, In, Before, Returns, Resumes}
use Rattle.src_values.specs.Counting.{counted_line}
use Rattle.src_values.specs.Data as datum
use Rattle.src_values.specs.Data.{Datum}
use Rattle.src_values.specs.Objects.{function_at, handler_in, main_of, same_object}
use Rattle.src_values.specs.Values.{byte_count, byte_of}
use Rattle.src_values.specs.declared.objects.Byte.{Byte}
use Rattle.src_values.specs.declared.objects.CopyOf.{CopyOf}
use Rattle.src_values.specs.declared.objects.Object.{Object}
use Rattle.src_values.specs.declared.objects.Object.TheVariants.{Variable}
use Rattle.src_values.specs.declared.objects.Undef.TheVariants.{Unset, Handler}

-- ---- calls
abbrev pub copy_of : Root → ℕ → CopyOf
copy_of root f = record { root = root; function = f }

-- an object with the bytes of a value
abbrev pub with_value : Memory → Object → Datum → Memory
with_value m object v other at = if same_object other object && nat_lt at (byte_count v) then byte_of v at else m other at

-- the parameters from this number on get the values
abbrev pub with_values : Memory → CopyOf → ℕ → List Datum → Memory
with_values m c n [] = m
with_values m c n (v ∷ vs) = with_values (with_value m (Variable c n) v) c (n + 1) vs

abbrev pub has_missing : List Datum → Bool
has_missing [] = false
has_missing (datum.Missing ∷ vs) = true
has_missing (datum.Number q ∷ vs) = has_missing vs
has_missing (datum.Pointer x ∷ vs) = has_missing vs

-- the stack when the body of a function begins above another one
abbrev pub body_of : Program → ℕ → List Pending → List Pending
body_of p f k = Before (function_at p f).body ∷ k

-- A call gives the parameters their values, and all other variables of the copy none.
abbrev pub call_in : Program → Expression → Got → List Pending → CopyOf → Memory → World Byte → Outcome
call_in p (tree.Call f arguments ty line) (Passed values) k c m w =
    if has_missing values then Undefined Unset line
    else goes (copy_of c.root f) Past (body_of p f (Returns c ∷ In (tree.Call f arguments ty line) Called ∷ k)) (with_values (fresh m (copy_of c.root f)) (copy_of c.root f) 0 values) w
call_in p _ _ k c m w = Lost

abbrev pub call : Program → List Pending → CopyOf → Memory → World Byte → Outcome
call p (In e got ∷ k) c m w = call_in p e got k c m w
call p _ c m w = Lost

-- ---- one micro-step
unfoldable pub act : Setting → Focus → List Pending → CopyOf → Memory → World Byte → Outcome
act s (Eval e) k c m w = eval e k c m w
act s (Find place) k c m w = find s place k c m w
act s (Holds v) k c m w = give s v k c m w
act s (Found spot) k c m w = found s spot k c m w
act s (Run t) k c m w = begin s t k c m w
act s Past k c m w = proceed k c m w
act s (Fetch spot read) k c m w = fetch s spot read k c m w
act s (Skim spot left byte) k c m w = skim s spot left byte k c m w
act s (Write spot v at) k c m w = write s spot v at k c m w
act s (PutBit register number v old) k c m w = put_bit s register number v old k c m w
act s (CopyRead to from left) k c m w = copy_read s to from left k c m w
act s (CopyWrite to from byte left) k c m w = copy_write s to from byte left k c m w
act s (Spell spot text left) k c m w = spell s spot text left k c m w
act s (Blank at left) k c m w = blank s at left k c m w
act s Calls k c m w = call s.program k c m w
act s (Leaves v) k c m w = leave v k m w
act s (Compares v labels) k c m w = compares v labels k c m w
act s Over k c m w = Idle

-- The handler is called whole: what it interrupts waits below it.
abbrev pub enter : Program → ℕ → Focus → List Pending → CopyOf → Memory → World Byte → Outcome
enter p h x k c m w = goes (copy_of Isr h) Past (body_of p h (Resumes c x ∷ k)) (fresh m (copy_of Isr h)) (entered w)

-- Without a handler the next step is undefined, if it isn't so for another reason: the handler's kind is the last.
abbrev pub refused_at : Option ℕ → Outcome → Outcome
refused_at (Some line) next = Undefined Handler line
refused_at None next = next

abbrev pub refused : Option ℕ → Outcome → Outcome
refused line (Undefined kind at) = Undefined kind at
refused line (Went t event) = refused_at line (Went t event)
refused line Idle = refused_at line Idle
refused line Lost = Lost

abbrev pub interrupted : Setting → Option ℕ → Focus → List Pending → CopyOf → Memory → World Byte → Outcome
interrupted s (Some h) x k c m w = enter s.program h x k c m w
interrupted s None x k c m w = refused (counted_line s.program c x k) (act s x k c m w)

abbrev pub step_at : Setting → Focus → List Pending → CopyOf → Memory → World Byte → Outcome
step_at s x k c m w = if is_due w then interrupted s (handler_in s.program) x k c m w else act s x k c m w

-- A micro-step: arrivals first, then the handler if it is due, otherwise what the focus says.
unfoldable pub step : Setting → State → Outcome
step s t = step_at s t.focus t.stack t.copy t.memory (arrived s.outside t.world)

-- Whether it counts as a step: that by which the handler is entered does.
abbrev pub is_some_line : Option ℕ → Bool
is_some_line (Some line) = true
is_some_line None = false

-- the micro-step by which the handler is entered
unfoldable pub enters : Setting → State → Bool
enters s t = is_due (arrived s.outside t.world) && is_some_line (handler_in s.program)

unfoldable pub counts : Setting → State → Bool
counts s t = if enters s t then true else is_some_line (counted_line s.program t.copy t.focus t.stack)

-- ---- the start
unfoldable pub start : Setting → State
start s = state (copy_of Main (main_of s.program)) Past (body_of s.program (main_of s.program) []) (first_memory s.program) world_at_start
