-- What holds of the tables of a search, whatever was found so far.
use Rattle.std.specs.Prelude.{◌≡◌, ◌≤◌, ◌<◌, ℕ, ◌+◌, Bool, true, false, ◌&&◌, ◌||◌, nat_eq, Option, Some, None, List, [], ◌∷◌, length, slice_index, ◌⊎◌}
use Rattle.pic_isa.specs.Lookup.{row_of}
use Rattle.depth_check.specs.declared.Facts.{Facts}
use Rattle.depth_check.specs.declared.Row.{Row}
use Rattle.depth_check.specs.declared.tables.Spot.{Spot}
use Rattle.depth_check.specs.declared.tables.Out.{Out}
use Rattle.depth_check.specs.Certificate.{Certificate}
use Rattle.depth_check.specs.Facts.{known_in, fits}
use Rattle.depth_check.specs.Valid.{routine, row_at, is_return, is_bare, is_valid}
use Rattle.depth_check.specs.Search.{Tables, spot_at, out_at, step, with_roots}

-- ---- how much may still be taken away or found
abbrev pub known_size : Option Bool → ℕ
known_size None = 0
known_size (Some b) = 1

abbrev pub flag_size : Bool → ℕ
flag_size true = 1
flag_size false = 0

abbrev pub facts_size : Facts → ℕ
facts_size x = known_size x.p3 + known_size x.p4 + flag_size x.orig + flag_size x.w_orig + flag_size x.saved

abbrev pub spot_size : Option Spot → ℕ
spot_size None = 6
spot_size (Some s) = facts_size s.facts

abbrev pub out_size : Option Out → ℕ
out_size None = 3
out_size (Some o) = known_size o.p3 + known_size o.p4

abbrev pub spots_size : List (Option Spot) → ℕ
spots_size [] = 0
spots_size (o ∷ spots) = spot_size o + spots_size spots

abbrev pub outs_size : List (Option Out) → ℕ
outs_size [] = 0
outs_size (o ∷ outs) = out_size o + outs_size outs

abbrev pub size : Tables → ℕ
size t = spots_size t.spots + outs_size t.outs

-- ---- what was found is in each valid certificate with this cell and these interrupts
-- the routine with this entry
abbrev pub routine_or_none : Option Row → ℕ
routine_or_none None = 0
routine_or_none (Some r) = r.routine

abbrev pub number : Certificate → ℕ → ℕ
number c entry = routine_or_none (row_at c.rows entry)

-- the certificate has such a row there, of the routine with the same entry, with facts that those found fit
pub record IsPlaced (c : Certificate) (at : ℕ) (s : Spot) : Type 0 where
  pub row : Row
  pub is : row_at c.rows at ≡ Some row
  pub number_is : number c s.entry ≡ row.routine
  pub entry_is : (routine c row.routine).entry ≡ s.entry
  pub isr_is : (routine c row.routine).isr ≡ s.isr
  pub fit : fits s.facts row.facts ≡ true

pub record Owns (t : Tables) (entry : ℕ) : Type 0 where
  pub spot : Spot
  pub is : spot_at t entry ≡ Some spot
  pub same : spot.entry ≡ entry

-- a routine that was left has a row that leaves it
pub record IsLeft (image : List ℕ) (c : Certificate) (t : Tables) (entry : ℕ) (o : Out) : Type 0 where
  pub at : ℕ
  pub spot : Spot
  pub is : spot_at t at ≡ Some spot
  pub same : spot.entry ≡ entry
  pub leaves : is_return (row_of (slice_index image at)) ≡ true
  pub p3 : known_in (routine c (number c entry)).out3 o.p3 ≡ true
  pub p4 : known_in (routine c (number c entry)).out4 o.p4 ≡ true

-- outside the handler's first routine nothing is known of what was interrupted
abbrev pub is_bare_spot : Bool → Spot → Bool
is_bare_spot interrupts s = (interrupts && nat_eq s.entry 4) || is_bare s.facts

pub record IsUnder (image : List ℕ) (c : Certificate) (t : Tables) : Type 0 where
  pub placed : (at : ℕ) (s : Spot) → spot_at t at ≡ Some s → IsPlaced c at s
  pub owned : (at : ℕ) (s : Spot) → spot_at t at ≡ Some s → Owns t s.entry
  pub bare : (at : ℕ) (s : Spot) → spot_at t at ≡ Some s → is_bare_spot c.interrupts s ≡ true
  pub left : (entry : ℕ) (o : Out) → out_at t entry ≡ Some o → IsLeft image c t entry o

-- ---- one state of the search and a later one
pub record Moves (t u : Tables) : Type 0 where
  pub interrupts : u.interrupts ≡ t.interrupts
  pub cell : u.cell ≡ t.cell
  pub spots : length u.spots ≡ length t.spots
  pub outs : length u.outs ≡ length t.outs
  -- nothing was found, or there is less to find
  pub quiet : u.changed ≡ false → (t.changed ≡ false) × (u ≡ t)
  pub least : size u ≤ size t
  pub less : u.changed ≡ true → (t.changed ≡ true) ⊎ (size u < size t)

pub record Goes (image : List ℕ) (t u : Tables) : Type 0 where
  pub moves : Moves t u
  pub keeps : (c : Certificate) → is_valid image c ≡ true → c.cell ≡ t.cell → c.interrupts ≡ t.interrupts → IsUnder image c t → IsUnder image c u

-- neither the roots nor the rows below an address ask for anything new
pub record IsSettled (image : List ℕ) (t : Tables) (most : ℕ) : Type 0 where
  pub roots : (with_roots t).changed ≡ false
  pub rows : (at : ℕ) → at < most → (step image t at).changed ≡ false

-- ---- a search, for one cell, with or without interrupts
pub record IsSearch (image : List ℕ) (interrupts : Bool) (cell : ℕ) (t : Tables) : Type 0 where
  pub interrupts_is : t.interrupts ≡ interrupts
  pub cell_is : t.cell ≡ cell
  pub spots : length t.spots ≡ 8192
  pub outs : length t.outs ≡ 8192
  pub under : (c : Certificate) → is_valid image c ≡ true → c.cell ≡ cell → c.interrupts ≡ interrupts → IsUnder image c t

-- nothing more is to be found
abbrev pub IsOver : List ℕ → Tables → Type 0
IsOver image t = t.changed ≡ false → IsSettled image t 8192

-- it is valid where some certificate with this cell and these interrupts is
abbrev pub IsBest : List ℕ → Bool → ℕ → Certificate → Type 0
IsBest image interrupts cell d = (c : Certificate) → is_valid image c ≡ true → c.cell ≡ cell → c.interrupts ≡ interrupts → is_valid image d ≡ true
