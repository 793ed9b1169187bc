-- What follows an access to a byte, of the states that the code has.
use Rattle.std.proofs.Common.{◌≡◌, ◌<◌, ◌≤◌, ◌+◌, ◌-◌, ℕ, zero, suc, Bool, true, false, nat_lt, length, arith, List, [], ◌∷◌, ◌++◌, Option, Some, None, map, drop, refl, sym, subst, ap, ◌∙◌}
use Rattle.std.specs.Borrow.{Bor}
use mathlib.Core.Logic.{◌⊎◌, inl, inr}
use Rattle.std.specs.Prelude.{option_copied, get_or, Result, Ok, Err, if◌then◌else◌}
use Rattle.std.proofs.lemmas.Bool.{ltb-true, ltb-false}
use Rattle.c_typed.specs.Trees as tree
use Rattle.c_typed.specs.Trees.{Item, Program, Statement}
use Rattle.c_typed.specs.Types.{type_bytes}
use Rattle.c_typed.specs.Views.{item_of, statement_of}
use Rattle.c_typed.specs.declared.statement.TItem.{TItem}
use Rattle.c_typed.specs.declared.statement.TStmt.{TStmt}
use Rattle.c_typed.specs.declared.types.Ty.{Ty}
use Rattle.pic_map.specs.MapContent.{MapContent}
use Rattle.pic_world.specs.World.{Outside, World, world_at_start}
use Rattle.pic_world.specs.declared.Event.{Event}
use Rattle.src_machine.proofs.Operands.{running_on}
use Rattle.src_machine.proofs.Tellings.{tells_silent}
use Rattle.src_machine.proofs.Taking.{taken_goes, taken_not, put_not}
use Rattle.src_machine.specs.Seen.{stack_of, memory_of, silent, setting_of, IsAt, IsListOf, is_scalar}
use Rattle.src_machine.specs.Telling.{Tells, is_quiet}
use Rattle.src_machine.specs.declared.machine.Machine.{Machine}
use Rattle.src_machine.specs.declared.machine.Outcome.{Outcome}
use Rattle.src_machine.specs.declared.machine.Outcome.TheVariants.{Went, Undefined, Idle, Lost}
use Rattle.src_memory.specs.Accessed.{TellsTaking, TellsPutting}
use Rattle.src_memory.specs.declared.accesses.Taken.{Taken}
use Rattle.src_memory.specs.declared.world.World.{World as Worlds}
use Rattle.src_rules.specs.Accesses.{after_taking, after_putting, fetch, fetch_as, fetched, skim, is_any, copy_read, copy_write, stored, stored_for, items, spell, blank, blank_at, write, write_at, read_bit, first_or_zero, behind_first}
use Rattle.src_rules.specs.State as rules
use Rattle.src_values.specs.Accesses.{Taking, Putting, take_byte, put_byte}
use Rattle.src_values.specs.Control.{Focus, Fetch, Skim, Write, CopyRead, CopyWrite, Spell, Blank, Stage, Pending, In, To, Doing, Before, Returns, Resumes, active, callers, line_at, read_type}
use Rattle.src_values.specs.Data.{Datum, Missing}
use Rattle.src_values.specs.Memory.{Setting, Memory}
use Rattle.src_values.specs.Lists.{covered_from}
use Rattle.src_values.specs.Objects.{next_byte, behind, local_of}
use Rattle.src_values.specs.Seen.{focus_in, is_over, statement_in, stage_in, or_empty, found_at, items_in, items_of, list_on, list_in}
use Rattle.src_values.specs.declared.control.Code.{Code}
use Rattle.src_values.specs.declared.control.Focus.{Focus as CodeFocus}
use Rattle.src_values.specs.declared.control.Stage.{Stage as Frames}
use Rattle.src_values.specs.declared.control.Stage.TheVariants as stages
use Rattle.src_values.specs.Values.{fits_behind, value_from, byte_of, written_bytes}
use Rattle.src_values.specs.declared.objects.Byte.{Byte}
use Rattle.src_values.specs.declared.objects.Byte.TheVariants as bytes
use Rattle.src_values.specs.declared.objects.CopyOf.{CopyOf}
use Rattle.src_values.specs.declared.objects.Object.{Object}
use Rattle.src_values.specs.declared.objects.Pointer.{Pointer}
use Rattle.src_values.specs.declared.objects.Spot.{Spot}
use Rattle.src_values.specs.declared.objects.Spot.TheVariants as spots
use Rattle.src_values.specs.declared.objects.Undef.{Undef}

-- until main has ended the same copies are active at each focus
pub active_same : (c : CopyOf) (x y : Focus) (k : List Pending) → is_over x ≡ false → is_over y ≡ false → active c x k ≡ active c y k
unfolding active
active_same c x y k h i = running_on c x (callers k) h ∙ sym (running_on c y (callers k) i)

undefined_is : (out : Outcome) (m : Machine) (kind : Undef) (line : ℕ) (w : World Byte) → silent out m w ≡ rules.Undefined kind line → out ≡ Undefined kind line
undefined_is (Went None) m kind line w h = absurd (cc)
undefined_is (Went (Some event)) m kind line w h = absurd (cc)
undefined_is (Undefined other at) m kind line w h = cc
undefined_is Idle m kind line w h = absurd (cc)
undefined_is Lost m kind line w h = absurd (cc)

-- ---- an access that is undefined
pub refused_put : (o : Outside) (a : Object → ℕ) (given : Putting) (access : Result (Option Event) Undef) (kind : Undef) (left : Memory) (code : Worlds) (next : Focus) (c : CopyOf) (k : List Pending) (line at : ℕ) (out : Outcome) (new : Machine)
    → access ≡ Err kind → TellsPutting o a access left code given → ((m : Machine) (w : World Byte) → silent out m w ≡ rules.Undefined kind at) → at ≡ line
    → Tells o a out new (after_putting given next c k line)
refused_put o a given access kind left code next c k line at out new e h u i =
    subst (λ r. Tells o a r new (after_putting given next c k line)) (sym (undefined_is out new kind at world_at_start (u new world_at_start)))
    (put_not o a given kind left code next c k line at new (subst (λ x. TellsPutting o a x left code given) e h) i)

pub refused_take : (o : Outside) (a : Object → ℕ) (given : Taking) (access : Result Taken Undef) (kind : Undef) (code : Worlds) (next : Byte → Focus) (c : CopyOf) (k : List Pending) (m : Memory) (line at : ℕ) (out : Outcome) (new : Machine)
    → access ≡ Err kind → TellsTaking o a access code given → ((m : Machine) (w : World Byte) → silent out m w ≡ rules.Undefined kind at) → at ≡ line
    → Tells o a out new (after_taking given next c k m line)
refused_take o a given access kind code next c k m line at out new e h u i =
    subst (λ r. Tells o a r new (after_taking given next c k m line)) (sym (undefined_is out new kind at world_at_start (u new world_at_start)))
    (taken_not o a given kind code next c k m line at new (subst (λ x. TellsTaking o a x code given) e h) i)

took : (o : Outside) (a : Object → ℕ) (given : Taking) (access : Result Taken Undef) (t : Taken) (next : Byte → Focus) (c : CopyOf) (k : List Pending) (m : Memory) (line : ℕ) (out : Outcome) (new : Machine)
    → access ≡ Ok t → TellsTaking o a access new.world given → out ≡ Went t.event → c ≡ new.copy → next t.byte ≡ focus_in new.focus → k ≡ stack_of new → m ≡ memory_of new
    → Tells o a out new (after_taking given next c k m line)
took o a given access t next c k m line out new e h went i j l n =
    subst (λ r. Tells o a r new (after_taking given next c k m line)) (sym went)
    (taken_goes o a given t next c k m line new (subst (λ x. TellsTaking o a x new.world given) e h) i j l n)

-- a byte was taken, and the state goes on
pub took_from : (o : Outside) (a : Object → ℕ) (given : Taking) (access : Result Taken Undef) (t : Taken) (next : Byte → Focus) (line : ℕ) (out : Outcome) (old mid new : Machine) (y : CodeFocus)
    → access ≡ Ok t → TellsTaking o a access mid.world given → out ≡ Went t.event → mid ≡ record old { world = mid.world } → new ≡ record mid { focus = y } → focus_in y ≡ next t.byte
    → Tells o a out new (after_taking given next old.copy (stack_of old) (memory_of old) line)
took_from o a given access t next line out old mid new y e h went i j f =
    took o a given access t next old.copy (stack_of old) (memory_of old) line out new e (subst (λ world. TellsTaking o a access world given) (sym (ap (λ m. m.world) j)) h) went
    (sym (ap (λ m. m.copy) j ∙ ap (λ m. m.copy) i)) (sym (ap (λ m. focus_in m.focus) j ∙ f)) (sym (ap (λ m. stack_of m) j ∙ ap (λ m. stack_of m) i)) (sym (ap (λ m. memory_of m) j ∙ ap (λ m. memory_of m) i))

-- ---- no byte is left
abbrev with_program : Program → Outside → Setting
with_program p o = record { program = p; outside = o }

pub setting_at : (s : Setting) (map : MapContent) (m : Machine) (w : World Byte) → IsAt s map m w → setting_of m s.outside ≡ s
setting_at s map m w here = ap (λ p. with_program p s.outside) (sym here.program)

pub silent_tells : (s : Setting) (map : MapContent) (a : Object → ℕ) (out : Outcome) (old new : Machine) (w : World Byte) (r : rules.Outcome) → IsAt s map old w → new ≡ record old { stack = new.stack; focus = new.focus } → is_quiet out ≡ true
    → silent out new w ≡ r → Tells s.outside a out new r
silent_tells s map a out old new w r here same quiet h = tells_silent s.outside a out old new w r (ap (λ m. m.world) same) here.world quiet h

pub stored_tells : (s : Setting) (map : MapContent) (a : Object → ℕ) (out : Outcome) (old new : Machine) (w : World Byte) → IsAt s map old w → new ≡ record old { stack = new.stack; focus = new.focus } → is_quiet out ≡ true
    → silent out new w ≡ stored (setting_of old s.outside) (stack_of old) old.copy (memory_of old) w → Tells s.outside a out new (stored s (stack_of old) old.copy (memory_of old) w)
stored_tells s map a out old new w here same quiet h =
    silent_tells s map a out old new w (stored s (stack_of old) old.copy (memory_of old) w) here same quiet (h ∙ ap (λ s. stored s (stack_of old) old.copy (memory_of old) w) (setting_at s map old w here))

-- ---- a number or a pointer is read
less_by : (x y : ℕ) (b : Bool) → nat_lt x y ≡ b → x < y → nat_lt x y ≡ true
less_by x y true h i = h
less_by x y false h i = absurd (let j = ltb-false x y h in omega (arith, i, j))

less : (x y : ℕ) → x < y → nat_lt x y ≡ true
less x y h = less_by x y (nat_lt x y) refl h

not_less_by : (x y : ℕ) (b : Bool) → nat_lt x y ≡ b → y ≤ x → nat_lt x y ≡ false
not_less_by x y false h i = h
not_less_by x y true h i = absurd (let j = ltb-true x y h in omega (arith, i, j))

not_less : (x y : ℕ) → y ≤ x → nat_lt x y ≡ false
not_less x y h = not_less_by x y (nat_lt x y) refl h

pub fetch_on : (s : Setting) (spot : Spot) (read : List Byte) (ty : Ty) (x : Focus) (k : List Pending) (c : CopyOf) (m : Memory) (w : World Byte) → ty ≡ read_type k → length read < type_bytes s.program.sizes ty → is_over x ≡ false
    → after_taking (take_byte s (active c x k) c.root (fits_behind ty read) spot m w) (λ byte. Fetch (next_byte spot) (read ++ byte ∷ [])) c k m (line_at k) ≡ fetch s spot read k c m w
fetch_on s spot read ty x k c m w e h i =
    ap (λ live. after_taking (take_byte s live c.root (fits_behind ty read) spot m w) (λ byte. Fetch (next_byte spot) (read ++ byte ∷ [])) c k m (line_at k)) (active_same c x (Fetch spot read) k i refl)
    ∙ ap (λ b. if b then after_taking (take_byte s (active c (Fetch spot read) k) c.root (fits_behind ty read) spot m w) (λ byte. Fetch (next_byte spot) (read ++ byte ∷ [])) c k m (line_at k) else fetched (value_from ty read) k c m w) (sym (less (length read) (type_bytes s.program.sizes ty) h))
    ∙ ap (λ ty. fetch_as ty s spot read k c m w) e

pub fetch_over : (s : Setting) (spot : Spot) (read : List Byte) (ty : Ty) (k : List Pending) (c : CopyOf) (m : Memory) (w : World Byte) → ty ≡ read_type k → type_bytes s.program.sizes ty ≤ length read
    → fetched (value_from ty read) k c m w ≡ fetch s spot read k c m w
fetch_over s spot read ty k c m w e h =
    ap (λ b. if b then after_taking (take_byte s (active c (Fetch spot read) k) c.root (fits_behind ty read) spot m w) (λ byte. Fetch (next_byte spot) (read ++ byte ∷ [])) c k m (line_at k) else fetched (value_from ty read) k c m w) (sym (not_less (length read) (type_bytes s.program.sizes ty) h))
    ∙ ap (λ ty. fetch_as ty s spot read k c m w) e

-- ---- a structure is read
pub skim_on : (s : Setting) (spot : Spot) (left low : ℕ) (last : Option Byte) (x : Focus) (k : List Pending) (c : CopyOf) (m : Memory) (w : World Byte) → left ≡ suc low → is_over x ≡ false
    → after_taking (take_byte s (active c x k) c.root is_any spot m w) (λ next. Skim (next_byte spot) low (Some next)) c k m (line_at k) ≡ skim s spot left last k c m w
skim_on s spot left low last x k c m w h i =
    ap (λ live. after_taking (take_byte s live c.root is_any spot m w) (λ next. Skim (next_byte spot) low (Some next)) c k m (line_at k)) (active_same c x (Skim spot (suc low) last) k i refl)
    ∙ ap (λ n. skim s spot n last k c m w) (sym h)

pub skim_over : (s : Setting) (spot : Spot) (left : ℕ) (last : Option Byte) (k : List Pending) (c : CopyOf) (m : Memory) (w : World Byte) → left ≡ 0 → fetched Missing k c m w ≡ skim s spot left last k c m w
skim_over s spot left last k c m w h = ap (λ n. skim s spot n last k c m w) (sym h)

-- ---- a structure is copied
pub copy_on : (s : Setting) (to from : Spot) (left low : ℕ) (x : Focus) (k : List Pending) (c : CopyOf) (m : Memory) (w : World Byte) → left ≡ suc low → is_over x ≡ false
    → after_taking (take_byte s (active c x k) c.root is_any from m w) (λ byte. CopyWrite to from byte low) c k m (line_at k) ≡ copy_read s to from left k c m w
copy_on s to from left low x k c m w h i =
    ap (λ live. after_taking (take_byte s live c.root is_any from m w) (λ byte. CopyWrite to from byte low) c k m (line_at k)) (active_same c x (CopyRead to from (suc low)) k i refl)
    ∙ ap (λ n. copy_read s to from n k c m w) (sym h)

pub copy_over : (s : Setting) (to from : Spot) (left : ℕ) (k : List Pending) (c : CopyOf) (m : Memory) (w : World Byte) → left ≡ 0 → stored s k c m w ≡ copy_read s to from left k c m w
copy_over s to from left k c m w h = ap (λ n. copy_read s to from n k c m w) (sym h)

-- ---- writes
abbrev pub is_list : Statement → Bool
is_list (tree.InitList local list line) = true
is_list _ = false

pair_or : (ℕ × List Item) → Option (ℕ × List Item) → ℕ × List Item
pair_or other None = other
pair_or other (Some both) = both

same_local : (both other : ℕ × List Item) → Some both ≡ Some other → both.0 ≡ other.0
unfolding pair_or
same_local both other h = ap (λ r. (pair_or both r).0) h

same_list : (both other : ℕ × List Item) → Some both ≡ Some other → both.1 ≡ other.1
unfolding pair_or
same_list both other h = ap (λ r. (pair_or both r).1) h

pub statement_there : (code : Code) (r : Option (Bor TStmt)) (x : Bor TStmt) (y : TStmt) → option_copied r ≡ found_at code → r ≡ Some x → x.now ≡ y → statement_in code ≡ statement_of y
statement_there code r x y h i j = ap or_empty (sym h ∙ ap option_copied i) ∙ ap statement_of j

-- what a write of the code tells, by the state before it
pub put_told : (o : Outside) (a : Object → ℕ) (out : Outcome) (old mid new : Machine) (given : Putting) (x y : Focus) → mid ≡ record old { memory = mid.memory; world = mid.world } → x ≡ y
    → Tells o a out new (after_putting given x mid.copy (stack_of mid) (line_at (stack_of mid))) → Tells o a out new (after_putting given y old.copy (stack_of old) (line_at (stack_of old)))
put_told o a out old mid new given x y e f h =
    subst (λ y. Tells o a out new (after_putting given y old.copy (stack_of old) (line_at (stack_of old)))) f
    (subst (λ m. Tells o a out new (after_putting given x m.copy (stack_of m) (line_at (stack_of m)))) e h)

abbrev pub is_bit : Spot → Bool
is_bit (spots.Bit register number) = true
is_bit (spots.Device address) = false
is_bit (spots.Memory pointer) = false

write_here : (s : Setting) (spot : Spot) (v : Datum) (at : ℕ) (k : List Pending) (c : CopyOf) (m : Memory) (w : World Byte) → at < written_bytes spot v → write_at s spot v at k c m w ≡ write s spot v at k c m w
write_here s spot v at k c m w h = ap (λ b. if b then write_at s spot v at k c m w else stored s k c m w) (sym (less at (written_bytes spot v) h))

pub write_on : (s : Setting) (spot : Spot) (v : Datum) (at : ℕ) (x : Focus) (k : List Pending) (c : CopyOf) (m : Memory) (w : World Byte) → at < written_bytes spot v → is_over x ≡ false → is_bit spot ≡ false
    → after_putting (put_byte s (active c x k) c.root spot (byte_of v at) m w) (Write (next_byte spot) v (at + 1)) c k (line_at k) ≡ write s spot v at k c m w
write_on s (spots.Bit register number) v at x k c m w h i none = absurd (cc)
write_on s (spots.Device address) v at x k c m w h i none =
    ap (λ live. after_putting (put_byte s live c.root (spots.Device address) (byte_of v at) m w) (Write (next_byte (spots.Device address)) v (at + 1)) c k (line_at k)) (active_same c x (Write (spots.Device address) v at) k i refl)
    ∙ write_here s (spots.Device address) v at k c m w h
write_on s (spots.Memory pointer) v at x k c m w h i none =
    ap (λ live. after_putting (put_byte s live c.root (spots.Memory pointer) (byte_of v at) m w) (Write (next_byte (spots.Memory pointer)) v (at + 1)) c k (line_at k)) (active_same c x (Write (spots.Memory pointer) v at) k i refl)
    ∙ write_here s (spots.Memory pointer) v at k c m w h

pub write_bit_on : (s : Setting) (register number : ℕ) (v : Datum) (at : ℕ) (k : List Pending) (c : CopyOf) (m : Memory) (w : World Byte) → at < written_bytes (spots.Bit register number) v
    → read_bit s register number v k c m w ≡ write s (spots.Bit register number) v at k c m w
write_bit_on s register number v at k c m w h = write_here s (spots.Bit register number) v at k c m w h

pub write_over : (s : Setting) (spot : Spot) (v : Datum) (at : ℕ) (k : List Pending) (c : CopyOf) (m : Memory) (w : World Byte) → written_bytes spot v ≤ at → stored s k c m w ≡ write s spot v at k c m w
write_over s spot v at k c m w h = ap (λ b. if b then write_at s spot v at k c m w else stored s k c m w) (sym (not_less at (written_bytes spot v) h))

pub copy_write_on : (s : Setting) (to from : Spot) (byte : Byte) (left : ℕ) (x : Focus) (k : List Pending) (c : CopyOf) (m : Memory) (w : World Byte) → is_over x ≡ false
    → after_putting (put_byte s (active c x k) c.root to byte m w) (CopyRead (next_byte to) (next_byte from) left) c k (line_at k) ≡ copy_write s to from byte left k c m w
copy_write_on s to from byte left x k c m w i =
    ap (λ live. after_putting (put_byte s live c.root to byte m w) (CopyRead (next_byte to) (next_byte from) left) c k (line_at k)) (active_same c x (CopyWrite to from byte left) k i refl)

pub no_bit : (spot : Spot) → ((x : ℕ) × (spot ≡ spots.Device x)) ⊎ ((x : Pointer) × (spot ≡ spots.Memory x)) → is_bit spot ≡ false
no_bit spot (inl h) = ap is_bit h.1
no_bit spot (inr h) = ap is_bit h.1

-- ---- strings
-- the first character, and those behind it
pub first_there : (text : List ℕ) (x d : ℕ) → 1 ≤ length text → x ≡ get_or text 0 d → x ≡ first_or_zero text
first_there [] x d h e = absurd (omega (arith, h))
first_there (y ∷ ys) x d h e = e

pub first_missing : (text : List ℕ) → length text < 1 → 0 ≡ first_or_zero text
first_missing [] h = refl
first_missing (y ∷ ys) h = absurd (omega (arith, h))

pub behind_there : (text rest : List ℕ) → 1 ≤ length text → rest ≡ drop 1 text → rest ≡ behind_first text
behind_there [] rest h e = absurd (omega (arith, h))
behind_there (y ∷ ys) rest h e = e

pub behind_missing : (text : List ℕ) → length text < 1 → text ≡ behind_first text
behind_missing [] h = refl
behind_missing (y ∷ ys) h = absurd (omega (arith, h))

pub spell_on : (s : Setting) (spot : Spot) (text : List ℕ) (left low : ℕ) (x : Focus) (k : List Pending) (c : CopyOf) (m : Memory) (w : World Byte) → left ≡ suc low → is_over x ≡ false
    → after_putting (put_byte s (active c x k) c.root spot (bytes.Number (first_or_zero text)) m w) (Spell (next_byte spot) (behind_first text) low) c k (line_at k) ≡ spell s spot text left k c m w
spell_on s spot text left low x k c m w h i =
    ap (λ live. after_putting (put_byte s live c.root spot (bytes.Number (first_or_zero text)) m w) (Spell (next_byte spot) (behind_first text) low) c k (line_at k)) (active_same c x (Spell spot text (suc low)) k i refl)
    ∙ ap (λ n. spell s spot text n k c m w) (sym h)

pub spell_over : (s : Setting) (spot : Spot) (text : List ℕ) (left : ℕ) (k : List Pending) (c : CopyOf) (m : Memory) (w : World Byte) → left ≡ 0 → stored s k c m w ≡ spell s spot text left k c m w
spell_over s spot text left k c m w h = ap (λ n. spell s spot text n k c m w) (sym h)

-- ---- the bytes without an item
pub blank_on : (s : Setting) (object : Object) (at left low : ℕ) (x : Focus) (k : List Pending) (c : CopyOf) (m : Memory) (w : World Byte) → left ≡ suc low → is_over x ≡ false
    → after_putting (put_byte s (active c x k) c.root (behind object at) (bytes.Number 0) m w) (Blank (at + 1) low) c k (line_at k) ≡ blank_at s object at left k c m w
blank_on s object at left low x k c m w h i =
    ap (λ live. after_putting (put_byte s live c.root (behind object at) (bytes.Number 0) m w) (Blank (at + 1) low) c k (line_at k)) (active_same c x (Blank at (suc low)) k i refl)
    ∙ ap (λ n. blank_at s object at n k c m w) (sym h)

pub blank_over : (s : Setting) (object : Object) (at left : ℕ) (k : List Pending) (c : CopyOf) (m : Memory) (w : World Byte) → left ≡ 0 → stored s k c m w ≡ blank_at s object at left k c m w
blank_over s object at left k c m w h = ap (λ n. blank_at s object at n k c m w) (sym h)

-- the list of the statement that waits
pub blank_listed : (s : Setting) (at left local : ℕ) (all : List Item) (k : List Pending) (c : CopyOf) (m : Memory) (w : World Byte) → list_on k ≡ Some (local, all)
    → blank_at s (local_of s.program c local) (at + covered_from s.program.sizes all at left) (left - covered_from s.program.sizes all at left) k c m w ≡ blank s at left k c m w
blank_listed s at left local all (Doing (tree.InitList other list line) stage ∷ k) c m w h =
    ap (λ n. blank_at s (local_of s.program c n) (at + covered_from s.program.sizes all at left) (left - covered_from s.program.sizes all at left) (Doing (tree.InitList other list line) stage ∷ k) c m w) (sym (same_local (other, list) (local, all) h))
    ∙ ap (λ all. blank_at s (local_of s.program c other) (at + covered_from s.program.sizes all at left) (left - covered_from s.program.sizes all at left) (Doing (tree.InitList other list line) stage ∷ k) c m w) (sym (same_list (other, list) (local, all) h))
blank_listed s at left local all (Doing (tree.Block ss line) stage ∷ k) c m w h = absurd (cc)
blank_listed s at left local all (Doing (tree.Empty line) stage ∷ k) c m w h = absurd (cc)
blank_listed s at left local all (Doing (tree.Expr e line) stage ∷ k) c m w h = absurd (cc)
blank_listed s at left local all (Doing (tree.Declare other line) stage ∷ k) c m w h = absurd (cc)
blank_listed s at left local all (Doing (tree.InitScalar other e line) stage ∷ k) c m w h = absurd (cc)
blank_listed s at left local all (Doing (tree.If chain otherwise line) stage ∷ k) c m w h = absurd (cc)
blank_listed s at left local all (Doing (tree.Loop shape first condition step body line) stage ∷ k) c m w h = absurd (cc)
blank_listed s at left local all (Doing (tree.Switch e cases default ss line) stage ∷ k) c m w h = absurd (cc)
blank_listed s at left local all (Doing (tree.Break line) stage ∷ k) c m w h = absurd (cc)
blank_listed s at left local all (Doing (tree.Continue line) stage ∷ k) c m w h = absurd (cc)
blank_listed s at left local all (Doing (tree.Return e line) stage ∷ k) c m w h = absurd (cc)
blank_listed s at left local all ([]) c m w h = absurd (cc)
blank_listed s at left local all (In e got ∷ k) c m w h = absurd (cc)
blank_listed s at left local all (To place ∷ k) c m w h = absurd (cc)
blank_listed s at left local all (Before ss ∷ k) c m w h = absurd (cc)
blank_listed s at left local all (Returns d ∷ k) c m w h = absurd (cc)
blank_listed s at left local all (Resumes d x ∷ k) c m w h = absurd (cc)

-- from the byte behind those that items cover
pub blank_start : (s : Setting) (p : Program) (at end local : ℕ) (all : List Item) (covered from : ℕ) (k : List Pending) (c : CopyOf) (m : Memory) (w : World Byte)
    → s.program ≡ p → list_on k ≡ Some (local, all) → covered ≡ covered_from p.sizes all at (end - at) → from ≡ at + covered
    → blank_at s (local_of p c local) from (end - at - covered) k c m w ≡ blank s at (end - at) k c m w
blank_start s p at end local all covered from k c m w e h f g =
    ap (λ p. blank_at s (local_of p c local) from (end - at - covered) k c m w) (sym e)
    ∙ ap (λ from. blank_at s (local_of s.program c local) from (end - at - covered) k c m w) g
    ∙ ap (λ covered. blank_at s (local_of s.program c local) (at + covered) (end - at - covered) k c m w) (f ∙ ap (λ p. covered_from p.sizes all at (end - at)) (sym e))
    ∙ blank_listed s at (end - at) local all k c m w h

-- ---- what follows a write
pub list_items : (t : Statement) (n : ℕ) (all : List Item) → IsListOf t n all → items_in t ≡ all
list_items (tree.InitList local list line) n all h = h.1
list_items (tree.Block ss line) n all h = absurd h
list_items (tree.Empty line) n all h = absurd h
list_items (tree.Expr e line) n all h = absurd h
list_items (tree.Declare other line) n all h = absurd h
list_items (tree.InitScalar other e line) n all h = absurd h
list_items (tree.If chain otherwise line) n all h = absurd h
list_items (tree.Loop shape first condition step body line) n all h = absurd h
list_items (tree.Switch e cases default ss line) n all h = absurd h
list_items (tree.Break line) n all h = absurd h
list_items (tree.Continue line) n all h = absurd h
list_items (tree.Return e line) n all h = absurd h

item_stored : (s : Setting) (local : ℕ) (list : List Item) (line : ℕ) (xs : List TItem) (at : ℕ) (k : List Pending) (c : CopyOf) (m : Memory) (w : World Byte) → at < length xs
    → items s (tree.InitList local list line) (local_of s.program c local) (drop (suc at) (map item_of xs)) k c m w ≡ stored_for s (tree.InitList local list line) (items_of (tree.InitList local list line) (drop at (map item_of xs))) k c m w
item_stored s local list line [] at k c m w h = absurd (omega (arith, h))
item_stored s local list line (x ∷ xs) zero k c m w h = refl
item_stored s local list line (x ∷ xs) (suc n) k c m w h = item_stored s local list line xs n k c m w (omega (arith, h))

plus_one : (n : ℕ) → n + 1 ≡ suc n
plus_one n = omega arith

pub list_stored : (s : Setting) (t : Statement) (n : ℕ) (xs : List TItem) (at : ℕ) (k : List Pending) (c : CopyOf) (m : Memory) (w : World Byte) → IsListOf t n (map item_of xs) → at < length xs
    → items s t (local_of s.program c n) (drop (at + 1) (map item_of xs)) k c m w ≡ stored_for s t (stage_in t (stages.Items at)) k c m w
list_stored s (tree.InitList local list line) n xs at k c m w h i =
    ap (λ n. items s (tree.InitList local list line) (local_of s.program c n) (drop (at + 1) (map item_of xs)) k c m w) (sym h.0)
    ∙ ap (λ next. items s (tree.InitList local list line) (local_of s.program c local) (drop next (map item_of xs)) k c m w) (plus_one at)
    ∙ item_stored s local list line xs at k c m w i
    ∙ ap (λ all. stored_for s (tree.InitList local list line) (items_of (tree.InitList local list line) (drop at all)) k c m w) (sym h.1)
list_stored s (tree.Block ss line) n xs at k c m w h i = absurd h
list_stored s (tree.Empty line) n xs at k c m w h i = absurd h
list_stored s (tree.Expr e line) n xs at k c m w h i = absurd h
list_stored s (tree.Declare other line) n xs at k c m w h i = absurd h
list_stored s (tree.InitScalar other e line) n xs at k c m w h i = absurd h
list_stored s (tree.If chain otherwise line) n xs at k c m w h i = absurd h
list_stored s (tree.Loop shape first condition step body line) n xs at k c m w h i = absurd h
list_stored s (tree.Switch e cases default ss line) n xs at k c m w h i = absurd h
list_stored s (tree.Break line) n xs at k c m w h i = absurd h
list_stored s (tree.Continue line) n xs at k c m w h i = absurd h
list_stored s (tree.Return e line) n xs at k c m w h i = absurd h

pub nowhere_stored : (s : Setting) (t : Statement) (stage : Stage) (k : List Pending) (c : CopyOf) (m : Memory) (w : World Byte) → is_list t ≡ false → is_scalar t ≡ false → stored_for s t stage k c m w ≡ rules.Lost
nowhere_stored s (tree.Block ss line) stage k c m w h i = refl
nowhere_stored s (tree.Empty line) stage k c m w h i = refl
nowhere_stored s (tree.Expr e line) stage k c m w h i = refl
nowhere_stored s (tree.Declare other line) stage k c m w h i = refl
nowhere_stored s (tree.InitScalar other e line) stage k c m w h i = absurd (cc)
nowhere_stored s (tree.If chain otherwise line) stage k c m w h i = refl
nowhere_stored s (tree.Loop shape first condition step body line) stage k c m w h i = refl
nowhere_stored s (tree.Switch e cases default ss line) stage k c m w h i = refl
nowhere_stored s (tree.Break line) stage k c m w h i = refl
nowhere_stored s (tree.Continue line) stage k c m w h i = refl
nowhere_stored s (tree.Return e line) stage k c m w h i = refl
nowhere_stored s (tree.InitList other list line) stage k c m w h i = absurd (cc)

-- ---- by the statement of the code
pub list_there : (t : Statement) (n : ℕ) (all : List Item) → list_in t ≡ Some (n, all) → IsListOf t n all
list_there (tree.InitList local list line) n all h = (same_local (local, list) (n, all) h, same_list (local, list) (n, all) h)
list_there (tree.Block ss line) n all h = absurd (cc)
list_there (tree.Empty line) n all h = absurd (cc)
list_there (tree.Expr e line) n all h = absurd (cc)
list_there (tree.Declare other line) n all h = absurd (cc)
list_there (tree.InitScalar other e line) n all h = absurd (cc)
list_there (tree.If chain otherwise line) n all h = absurd (cc)
list_there (tree.Loop shape first condition step body line) n all h = absurd (cc)
list_there (tree.Switch e cases default ss line) n all h = absurd (cc)
list_there (tree.Break line) n all h = absurd (cc)
list_there (tree.Continue line) n all h = absurd (cc)
list_there (tree.Return e line) n all h = absurd (cc)

no_list : (t : Statement) → list_in t ≡ None → is_list t ≡ false
no_list (tree.InitList local list line) h = absurd (cc)
no_list (tree.Block ss line) h = refl
no_list (tree.Empty line) h = refl
no_list (tree.Expr e line) h = refl
no_list (tree.Declare other line) h = refl
no_list (tree.InitScalar other e line) h = refl
no_list (tree.If chain otherwise line) h = refl
no_list (tree.Loop shape first condition step body line) h = refl
no_list (tree.Switch e cases default ss line) h = refl
no_list (tree.Break line) h = refl
no_list (tree.Continue line) h = refl
no_list (tree.Return e line) h = refl

pub scalar_there : (code : Code) (r : Option (Bor TStmt)) (x : Bor TStmt) (b : Bool) → option_copied r ≡ found_at code → r ≡ Some x → b ≡ is_scalar (statement_of x.now) → is_scalar (statement_in code) ≡ b
scalar_there code r x b h i j = ap is_scalar (statement_there code r x x.now h i refl) ∙ sym j

pub nothing_there : (code : Code) (r : Option (Bor TStmt)) → option_copied r ≡ found_at code → r ≡ None → is_scalar (statement_in code) ≡ false
nothing_there code r h i = ap is_scalar (ap or_empty (sym h ∙ ap option_copied i))

pub stored_nowhere : (s : Setting) (code : Code) (stage : Frames) (k : List Pending) (c : CopyOf) (m : Memory) (w : World Byte) → list_in (statement_in code) ≡ None → is_scalar (statement_in code) ≡ false
    → rules.Lost ≡ stored_for s (statement_in code) (stage_in (statement_in code) stage) k c m w
stored_nowhere s code stage k c m w h i = sym (nowhere_stored s (statement_in code) (stage_in (statement_in code) stage) k c m w (no_list (statement_in code) h) i)
