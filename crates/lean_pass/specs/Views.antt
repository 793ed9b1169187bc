-- A certificate as the code keeps it, seen as the lists of its definition.
use Rattle.std.specs.Prelude.{ℕ, ◌+◌, Bool, true, false, List, [], ◌∷◌, slice_index_or, get_or, Option, Some, None, option_map}
use Rattle.sym_code.specs.Layout.{DataLayout}
use Rattle.lean_code.specs.Rows as certified
use Rattle.lean_code.specs.Changes as changes
use Rattle.lean_code.specs.Checked as listed
use Rattle.lean_code.specs.Checked.{KnownByte}
use Rattle.lean_pass.specs.declared.rows.Act.{Act}
use Rattle.lean_pass.specs.declared.rows.Act.TheVariants as acts
use Rattle.lean_pass.specs.declared.rows.Apart.{Apart}
use Rattle.lean_pass.specs.declared.rows.ByteSet.{ByteSet}
use Rattle.lean_pass.specs.declared.rows.Facts.{Facts}
use Rattle.lean_pass.specs.declared.rows.FlagName.{FlagName}
use Rattle.lean_pass.specs.declared.rows.FlagName.TheVariants as flags
use Rattle.lean_pass.specs.declared.rows.LeanBlock.{LeanBlock}
use Rattle.lean_pass.specs.declared.rows.Note.{Note}
use Rattle.lean_pass.specs.declared.rows.Row.{Row}
use Rattle.lean_pass.specs.declared.rows.Shown.{Shown}
use Rattle.lean_pass.specs.declared.rows.Shown.TheVariants as shows
use Rattle.lean_pass.specs.declared.rows.Sketch.{Sketch}
use Rattle.lean_pass.specs.declared.rows.Ties.{Ties}

-- ---- sets
-- the numbers from i on whose entry is true
abbrev pub trues : ℕ → List Bool → List ℕ
trues i [] = []
trues i (true ∷ bs) = i ∷ trues (i + 1) bs
trues i (false ∷ bs) = trues (i + 1) bs

abbrev pub set_of : ByteSet → List ℕ
set_of s = trues 0 s.has.items

abbrev pub entry : Option Bool → Bool
entry None = false
entry (Some b) = b

-- the bytes from i on that hold numbers, or that are copies, each with the number of the other byte
abbrev pub knowns : ℕ → List (Option ℕ) → List KnownByte
knowns i [] = []
knowns i (None ∷ rest) = knowns (i + 1) rest
knowns i (Some n ∷ rest) = record { byte = i; number = n } ∷ knowns (i + 1) rest

abbrev pub known_entry : Option (Option ℕ) → Option ℕ
known_entry None = None
known_entry (Some n) = n

-- ---- notes
abbrev pub facts_of : Facts → listed.ListedFacts
facts_of f = record { number = f.number; held = set_of f.held; zero = f.zero; known = knowns 0 f.known.items; twins = knowns 0 f.twins.items; carry_bit = f.carry_bit; zero_bit = f.zero_bit }

abbrev pub apart_of : Apart → listed.ListedApart
apart_of d = record { w = d.w; z = d.z; dc = d.dc; c = d.c; bytes = set_of d.bytes }

abbrev pub name_of : FlagName → certified.FlagName
name_of flags.Carry = certified.Carry
name_of flags.Zero = certified.Zero

abbrev pub shown_of : Shown → certified.Shown
shown_of shows.Unshown = certified.Unshown
shown_of (shows.Sees flag set) = certified.Sees (name_of flag) set
shown_of shows.Reports = certified.Reports
shown_of (shows.Chooses flag set clear) = certified.Chooses (name_of flag) set clear

abbrev pub ties_of : Ties → changes.Ties
ties_of t = record { carry = t.carry; shown = shown_of t.shown }

abbrev pub note_of : Note → listed.ListedNote
note_of n = record { facts = facts_of n.facts; apart = apart_of n.apart; carry = n.carry; shown = shown_of n.shown }

-- ---- rows
abbrev pub act_of : Act → certified.Act
act_of acts.Keeps = certified.Keeps
act_of acts.Drops = certified.Drops
act_of (acts.Puts op value) = certified.Puts op value
act_of acts.Narrows = certified.Narrows
act_of acts.Clears = certified.Clears
act_of (acts.Reads before) = certified.Reads before
act_of (acts.Tests flag turned) = certified.Tests (name_of flag) turned

abbrev pub row_of : Row → listed.ListedRow
row_of row = listed.Listed row.sym (act_of row.act) (option_map note_of row.note)

abbrev pub rows_of : List Row → List listed.ListedRow
rows_of [] = []
rows_of (row ∷ rows) = row_of row ∷ rows_of rows

abbrev pub block_of : LeanBlock → listed.ListedBlock
block_of b = record { name = b.name; rows = rows_of b.rows.items; inside = b.inside; ends = note_of b.ends; outer = set_of b.outer }

abbrev pub blocks_of : List LeanBlock → List listed.ListedBlock
blocks_of [] = []
blocks_of (b ∷ bs) = block_of b ∷ blocks_of bs

abbrev pub hidden_by : ByteSet → ℕ → Bool
hidden_by hidden a = listed.among a (set_of hidden)

abbrev pub sketch_of : DataLayout → Sketch → listed.Sketch
sketch_of l k = record { blocks = blocks_of k.blocks.items; handler = k.handler; layout = l; rest = set_of k.rest; hidden = λ a. listed.among a (set_of k.hidden) }

-- how many bytes the variables of each copy have, by their list; none of a copy that isn't there
abbrev pub variables_of : List ℕ → ℕ → ℕ
variables_of list copy = slice_index_or list copy 0

-- of each copy by its number, whether its frame is lent
abbrev pub lent_by : List Bool → ℕ → Bool
lent_by lent copy = get_or lent copy false
