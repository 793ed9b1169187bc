-- The first line on which a program names a device register that a chip doesn't have.
use Rattle.std.specs.Prelude.{◌≡◌, ℕ, ◌≤◌, Bool, true, false, if◌then◌else◌, min, List, [], ◌∷◌, slice_get, Option, Some, None}
use Rattle.c_typed.specs.Trees.{Program}
use Rattle.pic_chip.specs.SmallAddress.{is_small_register}
use Rattle.named_registers.specs.Registers.{Naming, program_registers, names_register}

-- the lesser of a line and the first one so far
abbrev pub earlier : Option ℕ → ℕ → Option ℕ
earlier None line = Some line
earlier (Some first) line = Some (min first line)

-- The first line so far, and behind it that of the registers in a list of which the chip has none.
abbrev pub foreign_after : (ℕ → Bool) → Option ℕ → List Naming → Option ℕ
foreign_after has first [] = first
foreign_after has first (n ∷ ns) = foreign_after has (if has n.register then first else earlier first n.line) ns

-- The least line of a node that names a register which the chip doesn't have. Lines never fall along a text, so it is the first one.
abbrev pub first_foreign : (ℕ → Bool) → Program → Option ℕ
first_foreign has p = foreign_after has None (program_registers p)

-- the registers of the PIC16F84A, in the profile of this project
unfoldable pub foreign_of : Option ℕ → List Naming → Option ℕ
foreign_of first namings = foreign_after is_small_register first namings

-- Where there is no such line, the chip has each register that the program names. Where there is one, a node of it names a register that
-- the chip doesn't have, and no node of a lesser line does.
abbrev pub IsFirstForeign : (ℕ → Bool) → Program → Option ℕ → Type 0
IsFirstForeign has p None = (address : ℕ) → names_register p address ≡ true → has address ≡ true
IsFirstForeign has p (Some line) =
    ((k : ℕ) × (n : Naming) × (slice_get (program_registers p) k ≡ Some n) × (has n.register ≡ false) × (n.line ≡ line))
    × ((k : ℕ) (n : Naming) → slice_get (program_registers p) k ≡ Some n → has n.register ≡ false → line ≤ n.line)
