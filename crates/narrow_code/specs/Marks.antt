-- What is known of a byte where two programs of byte code run side by side, of which the second one does some operations on the
-- low byte alone.
use Rattle.std.specs.Prelude.{◌≡◌, ℕ, zero, suc, ◌<◌, Bool, true, false, not, ◌&&◌, nat_eq, if◌then◌else◌}
use Rattle.core_code.specs.Bytes.{Held, same_byte, behind}
use Rattle.core_code.specs.Bytes as bytes
use Rattle.core_code.specs.declared.code.Byte.{Byte}
use Rattle.core_code.specs.declared.code.Byte.TheVariants.{Static, Frame, Result, Device}

pub data Mark : Type 0 where
  -- both hold 0
  Zero : Mark
  -- both hold a number, and the same, which fits into a byte
  Numbers : Mark
  -- both hold the same
  Same : Mark
  -- both hold numbers, and just where the one is 0 the other one is
  Tells : Mark
  -- both hold numbers, of which just one is 0
  Denies : Mark
  -- the given program holds 0
  Cleared : Mark
  -- nothing: an operation on the low byte alone didn't write it, or the code doesn't ask
  Differs : Mark

abbrev pub Marks : Type 0
Marks = Byte → Mark

-- what a mark says of a byte of the given program, and of the same byte of the other one
abbrev pub Holds : Mark → Held → Held → Type 0
Holds Zero h l = (h ≡ bytes.Number 0) × (l ≡ bytes.Number 0)
Holds Numbers h l = (n : ℕ) × (n < 256) × (h ≡ bytes.Number n) × (l ≡ bytes.Number n)
Holds Same h l = h ≡ l
Holds Tells h l = (n : ℕ) × (k : ℕ) × (h ≡ bytes.Number n) × (l ≡ bytes.Number k) × (nat_eq k 0 ≡ nat_eq n 0)
Holds Denies h l = (n : ℕ) × (k : ℕ) × (h ≡ bytes.Number n) × (l ≡ bytes.Number k) × (nat_eq k 0 ≡ not (nat_eq n 0))
Holds Cleared h l = h ≡ bytes.Number 0
Holds Differs h l = Unit {0}

abbrev pub is_same : Mark → Bool
is_same Zero = true
is_same Numbers = true
is_same Same = true
is_same _ = false

abbrev pub is_number : Mark → Bool
is_number Zero = true
is_number Numbers = true
is_number _ = false

abbrev pub is_zero : Mark → Bool
is_zero Zero = true
is_zero _ = false

abbrev pub is_cleared : Mark → Bool
is_cleared Zero = true
is_cleared Cleared = true
is_cleared _ = false

abbrev pub tells : Mark → Bool
tells Zero = true
tells Numbers = true
tells Tells = true
tells _ = false

abbrev pub denies : Mark → Bool
denies Denies = true
denies _ = false

-- the first mark says no more than the second one
abbrev pub is_below : Mark → Mark → Bool
is_below Zero known = is_zero known
is_below Numbers known = is_number known
is_below Same known = is_same known
is_below Tells known = tells known
is_below Denies known = denies known
is_below Cleared known = is_cleared known
is_below Differs known = true

abbrev pub IsBelow : Mark → Mark → Type 0
IsBelow said known = is_below said known ≡ true

-- ---- marks behind a write
abbrev pub marked : Marks → Byte → Mark → Marks
marked marks byte mark other = if same_byte other byte then mark else marks other

-- of so many bytes from this one on, by their places
abbrev pub marked_bytes : Marks → Byte → ℕ → (ℕ → Mark) → Marks
marked_bytes marks byte zero mark = marks
marked_bytes marks byte (suc n) mark = marked (marked_bytes marks byte n mark) (behind byte n) (mark n)

-- of the byte so many places up: one of the lowest, and another one of all above it
abbrev pub stacked : Mark → Mark → ℕ → Mark
stacked low high zero = low
stacked low high (suc k) = high

-- of so many bytes that are written lowest first, each by a step of its own
abbrev pub marked_on : Marks → Byte → ℕ → Marks
marked_on marks byte zero = marks
marked_on marks byte (suc n) = marked_on (marked marks byte Same) (behind byte 1) n

-- ---- marks that a body may rely on
-- Frames to which pointers may lead hold the same, and so does all that is no frame.
abbrev pub mark_in : (ℕ → Bool) → Marks → Byte → Mark
mark_in lent marks (Static object offset) = Same
mark_in lent marks (Frame copy offset) = if lent copy then Same else marks (Frame copy offset)
mark_in lent marks (Result root k) = Same
mark_in lent marks (Device address) = Same

-- of the bytes that are a copy's business; it may not read those of another one's frame
abbrev pub own_mark : (ℕ → Bool) → ℕ → Marks → Byte → Mark
own_mark lent p marks (Static object offset) = Same
own_mark lent p marks (Frame copy offset) = if nat_eq copy p then mark_in lent marks (Frame copy offset) else Differs
own_mark lent p marks (Result root k) = Same
own_mark lent p marks (Device address) = Same

-- so many bytes from this one on are the same
abbrev pub agree : (ℕ → Bool) → ℕ → Marks → Byte → ℕ → Bool
agree lent p marks byte zero = true
agree lent p marks byte (suc n) = is_same (own_mark lent p marks byte) && agree lent p marks (behind byte 1) n

-- so many bytes from this one on are 0 in the given program
abbrev pub cleared : (ℕ → Bool) → ℕ → Marks → Byte → ℕ → Bool
cleared lent p marks byte zero = true
cleared lent p marks byte (suc n) = is_cleared (own_mark lent p marks byte) && cleared lent p marks (behind byte 1) n

-- A byte that may come to differ: one of the own frame, to which no pointer leads.
abbrev pub may_differ : (ℕ → Bool) → ℕ → Byte → Bool
may_differ lent p (Static object offset) = false
may_differ lent p (Frame copy offset) = nat_eq copy p && not (lent copy)
may_differ lent p (Result root k) = false
may_differ lent p (Device address) = false

-- On the frame of a copy the first marks say no more than the second ones.
abbrev pub Below : ℕ → Marks → Marks → Type 0
Below p said known = (copy offset : ℕ) → nat_eq copy p ≡ true → IsBelow (said (Frame copy offset)) (known (Frame copy offset))
