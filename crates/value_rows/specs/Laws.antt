-- The terms of rows have the values that the rows compute, where the terms before have the values of the registers and the byte before.
use Rattle.std.specs.Prelude.{◌≡◌, ℕ, ◌%◌, ◌<◌, List, Option, Some}
use Rattle.pic_isa.specs.declared.Ins.TheVariants as ins
use Rattle.pic_world.specs.Bits.{bit, set_bit, clear_bit, truth}
use Rattle.sym_code.specs.Effect.{number_of, table_byte}
use Rattle.sym_code.specs.Registers.{Registers, Fits, result_with, flags_with, skips_with, literal_row, after_row}
use Rattle.sym_code.specs.declared.code.FileOperation.{FileOperation}
use Rattle.sym_code.specs.declared.code.LiteralOperation.{LiteralOperation}
use Rattle.value_terms.specs.Terms.{Term, Join, Environment, value}
use Rattle.value_terms.specs.declared.term.Binary.TheVariants.{Table}
use Rattle.value_rows.specs.Rows.{result_term, zero_term, digit_term, carry_term, skip_term, same_row, literal_result, bit_term, cleared, set}

-- the terms of W and the flags
pub record Has (e : Environment) (r : Registers) (w z dc c : Term) : Type 0 where
  pub in_w : value e w ≡ r.w
  pub in_z : value e z ≡ r.z
  pub in_dc : value e dc ≡ r.dc
  pub in_c : value e c ≡ r.c

-- the result of a row that reads a byte
abbrev pub Results : Type 0
Results = (e : Environment) (r : Registers) (w z dc c t : Term) (op : FileOperation) → Fits r → Has e r w z dc c → value e (result_term op w c t) ≡ result_with r op (value e t)

-- the registers behind it, but for the result
abbrev pub Flags : Type 0
Flags = (e : Environment) (r : Registers) (w z dc c t : Term) (op : FileOperation) → Fits r → Has e r w z dc c →
    flags_with r op (value e t) ≡ record r { z = value e (zero_term op z (result_term op w c t)); dc = value e (digit_term op w dc t); c = value e (carry_term op w c t) }

-- whether it skips
abbrev pub Skips : Type 0
Skips = (e : Environment) (r : Registers) (w z dc c t : Term) (op : FileOperation) → Fits r → Has e r w z dc c →
    truth (skips_with r op (value e t)) ≡ value e (skip_term op (result_term op w c t))

-- the registers behind a row on W and a literal
abbrev pub Literals : Type 0
Literals = (e : Environment) (r : Registers) (w z dc c t : Term) (op : LiteralOperation) → Fits r → Has e r w z dc c →
    after_row (literal_row op (value e t)) r ≡
    record r { w = value e (literal_result op w t); z = value e (zero_term (same_row op) z (literal_result op w t)); dc = value e (digit_term (same_row op) w dc t); c = value e (carry_term (same_row op) w c t) }

-- .. and behind CLRW
abbrev pub Clears : Type 0
Clears = (r : Registers) → after_row ins.Clrw r ≡ record r { w = 0; z = 1 }

-- one bit of a byte, and the byte with the bit cleared or set
abbrev pub BitsTested : Type 0
BitsTested = (e : Environment) (b : ℕ) (t : Term) → value e (bit_term b t) ≡ bit (value e t) b

abbrev pub BitsCleared : Type 0
BitsCleared = (e : Environment) (b : ℕ) (t : Term) → b < 8 → value e (cleared b t) ≡ clear_bit b (value e t)

abbrev pub BitsSet : Type 0
BitsSet = (e : Environment) (b : ℕ) (t : Term) → b < 8 → value e (set b t) ≡ set_bit b (value e t)

-- the byte of a table in program memory: the environment has the tables of the program
abbrev pub HasTables : Environment → (ℕ → Option (List ℕ)) → Type 0
HasTables e tables = (number k v : ℕ) → table_byte (tables number) k ≡ Some v → e.table number k ≡ v

abbrev pub TableReads : Type 0
TableReads = (e : Environment) (tables : ℕ → Option (List ℕ)) (number k v : ℕ) (low high : Term) → HasTables e tables →
    number_of (Some (value e low)) (Some (value e high)) ≡ Some k → table_byte (tables number) k ≡ Some v → value e (Join (Table number) low high) ≡ v % 256
