-- The objects at the start, as the definitions have them.
use Rattle.std.proofs.Common.{◌≡◌, ℕ, zero, suc, ◌+◌, ◌%◌, false, not, nat_eq, nat_lt, if◌then◌else◌, ◌<◌, List, [], ◌∷◌, ◌++◌, length, take, replicate, refl, sym, ap, ◌∙◌, arith}
use Rattle.std.specs.Global.{Global}
use Rattle.std.specs.Prelude.{slice_get, Option, Some, None}
use Rattle.std.specs.declared.vec.Vec.{Vec}
use Rattle.std.proofs.lemmas.List.{length-set, length-replicate}
use Rattle.c_typed.specs.Room.{variables_bytes}
use Rattle.c_typed.specs.Trees.{FunctionTree, StaticTree, VariableTree}
use Rattle.c_typed.specs.Types.{type_bytes}
use Rattle.c_typed.specs.declared.program.Initial.{Initial}
use Rattle.pic_map.specs.MapContent.{FrameLine, ObjectLine}
use Rattle.pic_world.specs.declared.Root.{Root}
use Rattle.src_memory.specs.Cells.{Cell, no_cell, cells_seen, cell_at, variable_at, byte_at, byte_or, size_of}
use Rattle.src_memory.specs.Shown.{frame_address, object_address}
use Rattle.src_memory.specs.Start.{address_behind, all_frames, frame_cells, further, seen_frames, static_cell, static_cells, variable_cell, variable_cells, with_initials}
use Rattle.src_memory.specs.declared.memory.Cells.{Cells}
use Rattle.src_memory.proofs.Cells.{byte_put}
use Rattle.src_memory.proofs.Tests.{by_eq, by_lt, eq_yes, eq_no, lt_yes, lt_no}
use Rattle.src_values.specs.Memory.{initial_at, initial_byte, static_byte}
use Rattle.src_values.specs.Objects.{bytes_of_static, bytes_of_variable, is_constant_static, or_no_function, variables_of}
use Rattle.src_values.specs.declared.objects.Byte.{Byte}
use Rattle.src_values.specs.declared.objects.Byte.TheVariants as bytes

-- ---- objects of a list
abbrev pub or_none : Option Cell → Cell
or_none None = no_cell
or_none (Some c) = c

pub seen_at : (cells : List Cells) (n : ℕ) → cell_at cells n ≡ or_none (slice_get (cells_seen cells) n)
seen_at [] n = refl
seen_at (c ∷ cs) zero = refl
seen_at (c ∷ cs) (suc n) = seen_at cs n

-- ---- bytes
byte_repeated : (n at : ℕ) (b : Byte) → byte_or (slice_get (replicate n b) at) ≡ if nat_lt at n then b else bytes.Unset
byte_repeated zero at b = sym (lt_no at 0 b bytes.Unset (omega arith))
byte_repeated (suc n) zero b = sym (lt_yes 0 (suc n) b bytes.Unset (omega arith))
byte_repeated (suc n) (suc at) b = by_lt (suc at) (suc n) b bytes.Unset (byte_or (slice_get (replicate n b) at))
    (λ h. byte_repeated n at b ∙ lt_yes at n b bytes.Unset (omega arith))
    (λ h. byte_repeated n at b ∙ lt_no at n b bytes.Unset (omega arith))

byte_unset : (n at : ℕ) → byte_or (slice_get (replicate n bytes.Unset) at) ≡ bytes.Unset
byte_unset zero at = refl
byte_unset (suc n) zero = refl
byte_unset (suc n) (suc at) = byte_unset n at

initials_length : (is : List Initial) (xs : List Byte) → length (with_initials is xs) ≡ length xs
initials_length [] xs = refl
initials_length (i ∷ is) xs = length-set (with_initials is xs) i.offset (initial_byte i.byte) ∙ initials_length is xs

byte_initial : (is : List Initial) (n at : ℕ) → byte_or (slice_get (with_initials is (replicate n (bytes.Number 0))) at) ≡ if nat_lt at n then initial_at is at else bytes.Unset
byte_initial [] n at = byte_repeated n at (bytes.Number 0)
byte_initial (i ∷ is) n at =
    let xs = with_initials is (replicate n (bytes.Number 0)) in
    let b = initial_byte i.byte in
    let l : length xs ≡ n = initials_length is (replicate n (bytes.Number 0)) ∙ length-replicate n (bytes.Number 0) in
    let f : Byte = if nat_eq at i.offset then b else byte_or (slice_get xs at) in
    byte_put xs i.offset at b ∙ ap (λ k. if nat_lt at k then f else bytes.Unset) l ∙
    by_lt at n (if nat_eq i.offset at then b else initial_at is at) bytes.Unset (if nat_lt at n then f else bytes.Unset)
    (λ h. lt_yes at n f bytes.Unset h ∙ by_eq i.offset at b (initial_at is at) f
    (λ e. eq_yes at i.offset b (byte_or (slice_get xs at)) (sym e))
    (λ e. eq_no at i.offset b (byte_or (slice_get xs at)) (λ s. e (sym s)) ∙ byte_initial is n at ∙ lt_yes at n (initial_at is at) bytes.Unset h))
    (λ h. lt_no at n f bytes.Unset h)

-- ---- static objects
abbrev pub static_or : List ℕ → ℕ → Option StaticTree → Cell
static_or sizes address None = no_cell
static_or sizes address (Some s) = static_cell sizes address s

pub static_there : (sizes : List ℕ) (lines : List ObjectLine) (ss : List StaticTree) (at n : ℕ) → or_none (slice_get (static_cells sizes lines at ss) n) ≡ static_or sizes (object_address (slice_get lines (at + n))) (slice_get ss n)
static_there sizes lines [] at n = refl
static_there sizes lines (s ∷ ss) at zero = ap (λ k. static_cell sizes (object_address (slice_get lines k)) s) (omega arith)
static_there sizes lines (s ∷ ss) at (suc n) = static_there sizes lines ss (at + 1) n ∙ ap (λ k. static_or sizes (object_address (slice_get lines k)) (slice_get ss n)) (omega arith)

pub static_byte_of : (sizes : List ℕ) (a : ℕ) (s : Option StaticTree) (at : ℕ) → byte_at (static_or sizes a s) at ≡ static_byte sizes s at
static_byte_of sizes a None at = refl
static_byte_of sizes a (Some s) at = byte_initial s.initial (type_bytes sizes s.ty.ty) at

pub static_size : (sizes : List ℕ) (a : ℕ) (s : Option StaticTree) → size_of (static_or sizes a s) ≡ bytes_of_static sizes s
static_size sizes a None = refl
static_size sizes a (Some s) = initials_length s.initial (replicate (type_bytes sizes s.ty.ty) (bytes.Number 0)) ∙ length-replicate (type_bytes sizes s.ty.ty) (bytes.Number 0)

pub static_watched : (sizes : List ℕ) (a : ℕ) (ss : List StaticTree) (n : ℕ) → n < length ss → (static_or sizes a (slice_get ss n)).watched ≡ not (is_constant_static (slice_get ss n))
static_watched sizes a [] n h = absurd (omega arith)
static_watched sizes a (s ∷ ss) zero h = refl
static_watched sizes a (s ∷ ss) (suc n) h = static_watched sizes a ss n (omega arith)

pub static_address : (sizes : List ℕ) (a : ℕ) (ss : List StaticTree) (n : ℕ) → n < length ss → (static_or sizes a (slice_get ss n)).address ≡ a
static_address sizes a [] n h = absurd (omega arith)
static_address sizes a (s ∷ ss) zero h = refl
static_address sizes a (s ∷ ss) (suc n) h = static_address sizes a ss n (omega arith)

-- ---- variables
abbrev pub variable_or : List ℕ → ℕ → Option VariableTree → Cell
variable_or sizes address None = no_cell
variable_or sizes address (Some v) = variable_cell sizes address v

pub variable_there : (sizes : List ℕ) (vs : List VariableTree) (at n : ℕ) → or_none (slice_get (variable_cells sizes at vs) n) ≡ variable_or sizes (address_behind sizes at (take n vs)) (slice_get vs n)
variable_there sizes [] at n = refl
variable_there sizes (v ∷ vs) at zero = refl
variable_there sizes (v ∷ vs) at (suc n) = variable_there sizes vs (further at (type_bytes sizes v.ty.ty)) n

pub variable_byte : (sizes : List ℕ) (a : ℕ) (v : Option VariableTree) (at : ℕ) → byte_at (variable_or sizes a v) at ≡ bytes.Unset
variable_byte sizes a None at = refl
variable_byte sizes a (Some v) at = byte_unset (type_bytes sizes v.ty.ty) at

pub variable_size : (sizes : List ℕ) (a : ℕ) (v : Option VariableTree) → size_of (variable_or sizes a v) ≡ bytes_of_variable sizes v
variable_size sizes a None = refl
variable_size sizes a (Some v) = length-replicate (type_bytes sizes v.ty.ty) bytes.Unset

pub variable_watched : (sizes : List ℕ) (a : ℕ) (v : Option VariableTree) → (variable_or sizes a v).watched ≡ false
variable_watched sizes a None = refl
variable_watched sizes a (Some v) = refl

pub variable_address : (sizes : List ℕ) (a : ℕ) (vs : List VariableTree) (n : ℕ) → n < length vs → (variable_or sizes a (slice_get vs n)).address ≡ a
variable_address sizes a [] n h = absurd (omega arith)
variable_address sizes a (v ∷ vs) zero h = refl
variable_address sizes a (v ∷ vs) (suc n) h = variable_address sizes a vs n (omega arith)

-- of an address behind variables the nine lowest bits are right
pub behind_by : (sizes : List ℕ) (vs : List VariableTree) (at : ℕ) → address_behind sizes at vs % 512 ≡ (at + variables_bytes sizes vs) % 512
behind_by sizes [] at = omega arith
behind_by sizes (v ∷ vs) at =
    let s = type_bytes sizes v.ty.ty in
    let more = variables_bytes sizes vs in
    behind_by sizes vs (further at s) ∙ sums at s more
  where
    sums : (a s more : ℕ) → ((a + s % 512) % 512 + more) % 512 ≡ (a + (s + more)) % 512
    sums a s more = omega arith

cells_joined : (sizes : List ℕ) (vs us : List VariableTree) (at : ℕ) → variable_cells sizes at vs ++ variable_cells sizes (address_behind sizes at vs) us ≡ variable_cells sizes at (vs ++ us)
cells_joined sizes [] us at = refl
cells_joined sizes (v ∷ vs) us at = ap (λ cs. variable_cell sizes at v ∷ cs) (cells_joined sizes vs us (further at (type_bytes sizes v.ty.ty)))

-- ---- frames
abbrev pub or_empty : Option (List Cell) → List Cell
or_empty None = []
or_empty (Some cs) = cs

pub frame_there : (frames : List (Vec Cells Global)) (f n : ℕ) → variable_at frames f n ≡ or_none (slice_get (or_empty (slice_get (seen_frames frames) f)) n)
frame_there [] f n = refl
frame_there (v ∷ vs) zero n = seen_at v.items n
frame_there (v ∷ vs) (suc f) n = frame_there vs f n

all_there : (sizes : List ℕ) (lines : List FrameLine) (root : Root) (fs : List FunctionTree) (f : ℕ) → or_empty (slice_get (all_frames sizes lines root fs) f) ≡ frame_cells sizes (frame_address lines root (or_no_function (slice_get fs f)).name) (or_no_function (slice_get fs f))
all_there sizes lines root [] f = refl
all_there sizes lines root (g ∷ fs) zero = refl
all_there sizes lines root (g ∷ fs) (suc f) = all_there sizes lines root fs f

-- a variable, where the frames are those of the program
pub variable_found : (sizes : List ℕ) (lines : List FrameLine) (root : Root) (fs : List FunctionTree) (frames : List (Vec Cells Global)) (f n : ℕ) → seen_frames frames ≡ all_frames sizes lines root fs →
    variable_at frames f n ≡ variable_or sizes (address_behind sizes (frame_address lines root (or_no_function (slice_get fs f)).name % 512) (take n (variables_of (or_no_function (slice_get fs f))))) (slice_get (variables_of (or_no_function (slice_get fs f))) n)
variable_found sizes lines root fs frames f n e =
    let g = or_no_function (slice_get fs f) in
    let a = frame_address lines root g.name % 512 in
    frame_there frames f n ∙ ap (λ xs. or_none (slice_get (or_empty (slice_get xs f)) n)) e ∙
    ap (λ cs. or_none (slice_get cs n)) (all_there sizes lines root fs f ∙ cells_joined sizes g.params g.locals a) ∙
    variable_there sizes (variables_of g) a n

-- a static object, where the list is that of the program
pub static_found : (sizes : List ℕ) (lines : List ObjectLine) (ss : List StaticTree) (cells : List Cells) (n : ℕ) → cells_seen cells ≡ static_cells sizes lines 0 ss →
    cell_at cells n ≡ static_or sizes (object_address (slice_get lines n)) (slice_get ss n)
static_found sizes lines ss cells n e =
    seen_at cells n ∙ ap (λ cs. or_none (slice_get cs n)) e ∙ static_there sizes lines ss 0 n ∙ ap (λ k. static_or sizes (object_address (slice_get lines k)) (slice_get ss n)) (omega arith)
