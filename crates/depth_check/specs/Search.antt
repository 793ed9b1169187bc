-- The search for a certificate: what was found so far, and what a row that was found makes of it.
use Rattle.std.specs.Prelude.{ℕ, zero, suc, ◌+◌, ◌≡◌, ◌<◌, Bool, true, false, ◌&&◌, nat_eq, nat_lt, if◌then◌else◌, Option, Some, None, List, [], ◌∷◌, ◌++◌, length, slice_index, slice_index_or, slice_set}
use Rattle.pic_isa.specs.declared.Ins.{Ins}
use Rattle.pic_isa.specs.declared.Ins.TheVariants.{Call, Goto, Retfie, Retlw, Return, Sleep}
use Rattle.pic_isa.specs.Lookup.{row_of}
use Rattle.depth_check.specs.declared.Facts.{Facts}
use Rattle.depth_check.specs.declared.Row.{Row}
use Rattle.depth_check.specs.declared.Routine.{Routine}
use Rattle.depth_check.specs.declared.tables.Spot.{Spot}
use Rattle.depth_check.specs.declared.tables.Out.{Out}
use Rattle.depth_check.specs.declared.tables.Search.{Search}
use Rattle.depth_check.specs.Certificate.{Certificate}
use Rattle.depth_check.specs.Facts.{may_skip, after, known_in, fits, bits, at_reset, at_interrupt, target}
use Rattle.depth_check.specs.Valid.{next, next_but_one, routine, instruction, call_height}

-- ---- what is known both here and there
abbrev pub common : Option Bool → Option Bool → Option Bool
common (Some true) (Some true) = Some true
common (Some false) (Some false) = Some false
common _ _ = None

abbrev pub meet : Facts → Facts → Facts
meet x y = record { p3 = common x.p3 y.p3; p4 = common x.p4 y.p4; orig = x.orig && y.orig; w_orig = x.w_orig && y.w_orig; saved = x.saved && y.saved }

-- ---- what was found
pub record Tables : Type 0 where
  pub interrupts : Bool
  pub cell : ℕ
  -- the row at each address, with the entry of its routine
  pub spots : List (Option Spot)
  -- at the entry of a routine what is known at all of its RETURN and RETLW rows
  pub outs : List (Option Out)
  -- something was found since this was last set to false
  pub changed : Bool

abbrev pub tables : Search → Tables
tables s = record { interrupts = s.interrupts; cell = s.cell; spots = s.spots.items; outs = s.outs.items; changed = s.changed }

abbrev pub spot_at : Tables → ℕ → Option Spot
spot_at t at = slice_index_or t.spots at None

abbrev pub out_at : Tables → ℕ → Option Out
out_at t at = slice_index_or t.outs at None

abbrev pub unchanged : Tables → Tables
unchanged t = record t { changed = false }

-- ---- a row is asked for
abbrev pub with_spot : Tables → ℕ → Spot → Tables
with_spot t at s = record t { spots = slice_set t.spots at (Some s); changed = true }

-- it is new, or knows no more than what is known on each way to it
abbrev pub placed : Tables → ℕ → Spot → Option Spot → Tables
placed t at s None = with_spot t at s
placed t at s (Some old) = if fits s.facts old.facts then t else with_spot t at (record old { facts = meet old.facts s.facts })

abbrev pub put : Tables → ℕ → Spot → Tables
put t at s = if nat_lt at (length t.spots) then placed t at s (spot_at t at) else t

-- a row of the same routine
abbrev pub beside : Spot → Facts → Spot
beside s x = record s { facts = x }

-- the first row of a routine that is called
abbrev pub entering : ℕ → Bool → Facts → Spot
entering entry isr x = record { entry = entry; isr = isr; facts = x }

-- ---- a routine is left
abbrev pub with_out : Tables → ℕ → Out → Tables
with_out t entry o = record t { outs = slice_set t.outs entry (Some o); changed = true }

abbrev pub knows : Facts → Out → Bool
knows x o = known_in o.p3 x.p3 && known_in o.p4 x.p4

abbrev pub left : Tables → ℕ → Facts → Option Out → Tables
left t entry x None = with_out t entry (record { p3 = x.p3; p4 = x.p4 })
left t entry x (Some o) = if knows x o then t else with_out t entry (record { p3 = common o.p3 x.p3; p4 = common o.p4 x.p4 })

abbrev pub leave : Tables → ℕ → Facts → Tables
leave t entry x = if nat_lt entry (length t.outs) then left t entry x (out_at t entry) else t

-- ---- what the row at an address asks for
abbrev pub gone : Tables → Spot → Option ℕ → Tables
gone t s None = t
gone t s (Some to) = put t to s

-- behind a call, where the callee was seen to return
abbrev pub come_back : Tables → ℕ → Spot → Option Out → Tables
come_back t at s None = t
come_back t at s (Some o) = put t (next at) (beside s (bits o.p3 o.p4 s.facts.saved))

abbrev pub with_callee : Tables → Spot → ℕ → Tables
with_callee t s entry = put t entry (entering entry s.isr (bits s.facts.p3 s.facts.p4 false))

abbrev pub called : Tables → ℕ → Spot → Option ℕ → Tables
called t at s None = t
called t at s (Some entry) = come_back (with_callee t s entry) at s (out_at (with_callee t s entry) entry)

abbrev pub skipped : Tables → ℕ → Spot → Bool → Tables
skipped t at s false = t
skipped t at s true = put t (next_but_one at) s

abbrev pub passed : Tables → ℕ → Spot → Ins → Tables
passed t at s i = skipped (put t (next at) (beside s (after t.cell i s.facts))) at (beside s (after t.cell i s.facts)) (may_skip i)

abbrev pub done : Tables → ℕ → Spot → Ins → Tables
done t at s (Goto k) = gone t s (target s.facts.p3 s.facts.p4 k)
done t at s (Call k) = called t at s (target s.facts.p3 s.facts.p4 k)
done t at s Return = leave t s.entry s.facts
done t at s (Retlw k) = leave t s.entry s.facts
done t at s Retfie = t
done t at s Sleep = t
done t at s i = passed t at s i

abbrev pub done_by : Tables → ℕ → Spot → Option Ins → Tables
done_by t at s None = t
done_by t at s (Some i) = done t at s i

abbrev pub step_from : List ℕ → Tables → ℕ → Option Spot → Tables
step_from image t at None = t
step_from image t at (Some s) = done_by t at s (row_of (slice_index image at))

unfoldable pub step : List ℕ → Tables → ℕ → Tables
step image t at = step_from image t at (spot_at t at)

-- the rows that each certificate begins with
abbrev pub with_handler : Tables → Bool → Tables
with_handler t false = t
with_handler t true = put t 4 (entering 4 true at_interrupt)

unfoldable pub with_roots : Tables → Tables
with_roots t = with_handler (put t 0 (entering 0 false at_reset)) t.interrupts

-- ---- what was found, as a certificate
-- the place of a number in a list, and the list's length if it isn't there
abbrev pub position : ℕ → List ℕ → ℕ
position n [] = 0
position n (x ∷ xs) = if nat_eq x n then 0 else 1 + position n xs

abbrev pub holds_number : ℕ → List ℕ → Bool
holds_number n xs = nat_lt (position n xs) (length xs)

-- the place of a number in a list, if it is there
abbrev pub number_in : List ℕ → ℕ → Option ℕ
number_in xs n = if holds_number n xs then Some (position n xs) else None

-- a table has the places of all numbers below 8192
abbrev pub IsNumbered : List (Option ℕ) → List ℕ → Type 0
IsNumbered numbers xs = (length numbers ≡ 8192) × ((n : ℕ) → n < 8192 → slice_index_or numbers n None ≡ number_in xs n)

-- the row is the first of its routine
abbrev pub is_first : ℕ → Option Spot → Bool
is_first at None = false
is_first at (Some s) = nat_eq s.entry at

abbrev pub with_entry : List ℕ → ℕ → List ℕ
with_entry entries at = if holds_number at entries then entries else entries ++ at ∷ []

-- the entries of all routines, behind those that are given
abbrev pub entries_from : ℕ → List (Option Spot) → List ℕ → List ℕ
entries_from at [] entries = entries
entries_from at (o ∷ spots) entries = entries_from (at + 1) spots (if is_first at o then with_entry entries at else entries)

abbrev pub first_entries : Bool → List ℕ
first_entries false = 0 ∷ []
first_entries true = 0 ∷ 4 ∷ []

abbrev pub entries_of : Tables → List ℕ
entries_of t = entries_from 0 t.spots (first_entries t.interrupts)

abbrev pub row_for : List ℕ → ℕ → Spot → Row
row_for entries at s = record { at = at; routine = position s.entry entries; facts = s.facts }

abbrev pub rows_from : List ℕ → ℕ → List (Option Spot) → List Row
rows_from entries at [] = []
rows_from entries at (None ∷ spots) = rows_from entries (at + 1) spots
rows_from entries at (Some s ∷ spots) = row_for entries at s ∷ rows_from entries (at + 1) spots

abbrev pub isr_of : Option Spot → Bool
isr_of None = false
isr_of (Some s) = s.isr

abbrev pub p3_of : Option Out → Option Bool
p3_of None = None
p3_of (Some o) = o.p3

abbrev pub p4_of : Option Out → Option Bool
p4_of None = None
p4_of (Some o) = o.p4

abbrev pub routine_for : Tables → ℕ → Routine
routine_for t entry = record { entry = entry; isr = isr_of (spot_at t entry); bound = 0; out3 = p3_of (out_at t entry); out4 = p4_of (out_at t entry) }

abbrev pub routines_for : Tables → List ℕ → List Routine
routines_for t [] = []
routines_for t (e ∷ entries) = routine_for t e ∷ routines_for t entries

-- with all bounds 0
abbrev pub certificate_of : Tables → Certificate
certificate_of t = record { interrupts = t.interrupts; cell = t.cell; rows = rows_from (entries_of t) 0 t.spots; routines = routines_for t (entries_of t) }

-- ---- bounds
abbrev pub with_bound : Certificate → ℕ → ℕ → Certificate
with_bound d n b = record d { routines = slice_set d.routines n (record (routine d n) { bound = b }) }

abbrev pub raised_to : Certificate → ℕ → ℕ → Certificate
raised_to d n b = if nat_lt (routine d n).bound b && nat_lt b 100 && nat_lt n (length d.routines) then with_bound d n b else d

abbrev pub raised_by : List ℕ → Certificate → Row → Certificate
raised_by image d r = raised_to d r.routine (call_height d r (instruction image r))

abbrev pub raised_from : List ℕ → Certificate → List Row → Certificate
raised_from image d [] = d
raised_from image d (r ∷ rows) = raised_from image (raised_by image d r) rows

-- each routine's bound is above those of the routines that it calls as far as so many rounds bring it
unfoldable pub raised : List ℕ → ℕ → Certificate → Certificate
raised image zero d = d
raised image (suc n) d = raised_from image (raised image n d) (raised image n d).rows
