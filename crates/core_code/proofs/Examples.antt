-- Runs of small programs, computed.
use Rattle.std.proofs.Common.{◌≡◌, ℕ, zero, suc, Bool, true, false, nat_eq, List, [], ◌∷◌, Option, Some, None, refl}
use Rattle.pic_world.specs.Control.{raised_by, is_due as is_due_by, entered as entered_by, left as left_by, stored, with_stored}
use Rattle.pic_world.specs.World.{ReadOf, WriteOf, Ended, outside_of, arrived, is_due, entered, left, device_value, after_device_read, after_device_write, sets_gie}
use Rattle.pic_world.specs.declared.Cell.TheVariants as cells
use Rattle.pic_world.specs.declared.Flag.TheVariants.{Intf}
use Rattle.pic_world.specs.declared.Root.{Root}
use Rattle.pic_world.specs.declared.Root.TheVariants.{Main, Isr}
use Rattle.c_ints.specs.declared.operators.BinOp.TheVariants.{Add, Sub, Mul, Lt}
use Rattle.c_ints.specs.declared.types.IntTy.TheVariants.{SChar, UChar, Int, UInt}
use Rattle.core_code.specs.Bytes.{Number, Part, Fixed}
use Rattle.core_code.specs.Cost.{cost_of, step_most, step_least}
use Rattle.core_code.specs.Machine.{Program, Setting, Next, Still, Stuck, extent, is_own, is_valid, is_reached, held_at, after_read, after_write, memory_with, put, operate, act, core_step, core_run, core_moment}
use Rattle.core_code.specs.Operands.{fits_together}
use Rattle.core_code.specs.Runs.{trace_at, most_by, least_by}
use Rattle.core_code.specs.Tree.{Tree, Set, Address, Copy, Load, Store, Binary, Convert, BitWrite, Call, Leave, If, Loop, Exit, many}
use Rattle.core_code.specs.Values.{pointer_in, value_in, truth_in, converted, binary_value}
use Rattle.core_code.specs.declared.code.Byte.TheVariants.{Static, Frame, Result, Device}

-- the bodies of main, of copy 1 and of copy 2, the handler
abbrev bodies : List Tree → List Tree → List Tree → ℕ → List Tree
bodies main first handler zero = main
bodies main first handler (suc zero) = first
bodies main first handler (suc (suc n)) = handler

abbrev roots : ℕ → Root
roots zero = Main
roots (suc zero) = Main
roots (suc (suc n)) = Isr

abbrev main_calls : ℕ → ℕ → Bool
main_calls zero callee = nat_eq callee 1
main_calls (suc n) callee = false

-- Static objects 0 and 1 have two bytes each, and the second is const.
abbrev program : List Tree → List Tree → List Tree → Program
program main first handler = record {
  body = bodies main first handler;
  root = roots;
  reads = λ copy. None;
  calls = main_calls;
  helped = λ copy op ty. true;
  handler = Some 2;
  first = (Number 7 ∷ Number 0 ∷ []) ∷ (Number 9 ∷ Number 8 ∷ []) ∷ [];
  is_watched = λ n. nat_eq n 0;
  frame_bytes = λ copy. 8;
  parameter_bytes = λ copy. 2;
  variable_bytes = λ copy. 4;
}

abbrev setting : List Tree → List ℕ → Setting
setting main input = record { program = program main [] []; outside = outside_of input [] }

-- PORTA, at 05, is copied to a byte of a static object.
abbrev copying : Setting
copying = setting (Copy (Static 0 1) (Device 5) ∷ Leave ∷ []) (0x5a ∷ [])

copied : trace_at copying 3 ≡ ReadOf (cells.Device 5) (Number 0x5a) ∷ WriteOf (cells.Static 0 1) (Number 0x5a) ∷ Ended ∷ []
unfolding core_run core_step act operate put is_own is_valid held_at after_read after_write memory_with arrived is_due entered left device_value after_device_read after_device_write sets_gie raised_by is_due_by entered_by left_by stored with_stored
copied = refl

copied_still : core_step copying (core_moment copying 3) ≡ Still
unfolding core_run core_step act operate put is_own is_valid held_at after_read after_write memory_with arrived is_due entered left device_value after_device_read after_device_write sets_gie raised_by is_due_by entered_by left_by stored with_stored
copied_still = refl

copied_most : most_by copying 3 ≡ 10
unfolding core_run core_step act operate put is_own is_valid held_at after_read after_write memory_with arrived is_due entered left device_value after_device_read after_device_write sets_gie raised_by is_due_by entered_by left_by stored with_stored most_by step_most cost_of
copied_most = refl

-- A pointer to the second byte of static object 1 is kept in static object 0, byte by byte.
abbrev pointing : Setting
pointing = setting (
    Address (Frame 0 0) (Static 1 0) ∷ Set (Frame 0 2) 1 ∷ Set (Frame 0 3) 0 ∷ Binary Add UInt (Frame 0 0) (Frame 0 0) (Frame 0 2)
    ∷ Address (Frame 0 4) (Static 0 0) ∷ Store (Frame 0 4) (Frame 0 0) 2 ∷ Load (Frame 0 6) (Frame 0 0) 1 ∷ Copy (Device 6) (Frame 0 6) ∷ Leave ∷ []) []

pointed : trace_at pointing 14 ≡ WriteOf (cells.Static 0 0) (Part (Fixed 1) 1 false) ∷ WriteOf (cells.Static 0 1) (Part (Fixed 1) 1 true) ∷ WriteOf (cells.Device 6) (Number 8) ∷ Ended ∷ []
unfolding core_run core_step act operate put is_own is_valid held_at after_read after_write memory_with arrived is_due entered left device_value after_device_read after_device_write sets_gie raised_by is_due_by entered_by left_by stored with_stored extent is_reached pointer_in value_in binary_value fits_together
pointed = refl

-- A pointer that moves out of its object: stuck.
abbrev outside : Setting
outside = setting (Address (Frame 0 0) (Static 1 0) ∷ Set (Frame 0 2) 3 ∷ Set (Frame 0 3) 0 ∷ Binary Add UInt (Frame 0 0) (Frame 0 0) (Frame 0 2) ∷ []) []

outside_stuck : core_step outside (core_moment outside 3) ≡ Stuck
unfolding core_run core_step act operate put is_own is_valid held_at after_read after_write memory_with arrived is_due entered left device_value after_device_read after_device_write sets_gie raised_by is_due_by entered_by left_by stored with_stored extent is_reached pointer_in value_in binary_value fits_together
outside_stuck = refl

-- Of each access that a body may not make one is tried: a byte behind the own frame, a const object that is written, another
-- copy's frame that is read, a parameter of a copy that isn't called from there, a result of the handler's.
abbrev first_step : Tree → Next
first_step t = let g = setting (t ∷ []) [] in core_step g (core_moment g 0)

behind_stuck : first_step (Set (Frame 0 8) 1) ≡ Stuck
unfolding core_run core_step act operate put is_own is_valid held_at after_read after_write memory_with arrived is_due entered left device_value after_device_read after_device_write sets_gie raised_by is_due_by entered_by left_by stored with_stored
behind_stuck = refl

const_stuck : first_step (Set (Static 1 0) 1) ≡ Stuck
unfolding core_run core_step act operate put is_own is_valid held_at after_read after_write memory_with arrived is_due entered left device_value after_device_read after_device_write sets_gie raised_by is_due_by entered_by left_by stored with_stored
const_stuck = refl

others_stuck : first_step (Copy (Frame 0 0) (Frame 1 0)) ≡ Stuck
unfolding core_run core_step act operate put is_own is_valid held_at after_read after_write memory_with arrived is_due entered left device_value after_device_read after_device_write sets_gie raised_by is_due_by entered_by left_by stored with_stored
others_stuck = refl

parameter_stuck : first_step (Set (Frame 2 0) 1) ≡ Stuck
unfolding core_run core_step act operate put is_own is_valid held_at after_read after_write memory_with arrived is_due entered left device_value after_device_read after_device_write sets_gie raised_by is_due_by entered_by left_by stored with_stored
parameter_stuck = refl

result_stuck : first_step (Set (Result Isr 0) 1) ≡ Stuck
unfolding core_run core_step act operate put is_own is_valid held_at after_read after_write memory_with arrived is_due entered left device_value after_device_read after_device_write sets_gie raised_by is_due_by entered_by left_by stored with_stored
result_stuck = refl

-- A difference that would go where the right operand lies: stuck.
abbrev exchanging : Setting
exchanging = setting (Set (Frame 0 0) 5 ∷ Set (Frame 0 1) 2 ∷ Binary Sub UChar (Frame 0 1) (Frame 0 0) (Frame 0 1) ∷ []) []

exchanging_stuck : core_step exchanging (core_moment exchanging 2) ≡ Stuck
unfolding core_run core_step act operate put is_own is_valid held_at after_read after_write memory_with arrived is_due entered left device_value after_device_read after_device_write sets_gie raised_by is_due_by entered_by left_by stored with_stored extent value_in pointer_in binary_value fits_together
exchanging_stuck = refl

-- A helper spoils the results: 3 times 3 is there, and what was a result isn't.
abbrev multiplying : Setting
multiplying = setting (Set (Result Main 0) 3 ∷ Set (Result Main 1) 0 ∷ Binary Mul Int (Frame 0 0) (Result Main 0) (Result Main 0) ∷ Copy (Device 6) (Frame 0 0) ∷ Copy (Static 0 0) (Result Main 0) ∷ []) []

multiplied : trace_at multiplying 4 ≡ WriteOf (cells.Device 6) (Number 9) ∷ []
unfolding core_run core_step act operate put is_own is_valid held_at after_read after_write memory_with arrived is_due entered left device_value after_device_read after_device_write sets_gie raised_by is_due_by entered_by left_by stored with_stored extent value_in pointer_in binary_value fits_together
multiplied = refl

multiplied_stuck : core_step multiplying (core_moment multiplying 4) ≡ Stuck
unfolding core_run core_step act operate put is_own is_valid held_at after_read after_write memory_with arrived is_due entered left device_value after_device_read after_device_write sets_gie raised_by is_due_by entered_by left_by stored with_stored extent value_in pointer_in binary_value fits_together
multiplied_stuck = refl

-- A number is counted down from 2 to 0, and PORTB gets each but the last: a loop that an If leaves by an Exit.
abbrev counting : Setting
counting = setting (
    Set (Frame 0 0) 2 ∷ Set (Frame 0 1) 1
    ∷ Loop (many (If (Frame 0 0) 1 (many []) (Exit 0) ∷ Copy (Device 6) (Frame 0 0) ∷ Binary Sub UChar (Frame 0 0) (Frame 0 0) (Frame 0 1) ∷ []))
    ∷ Leave ∷ []) []

counted : trace_at counting 24 ≡ WriteOf (cells.Device 6) (Number 2) ∷ WriteOf (cells.Device 6) (Number 1) ∷ Ended ∷ []
unfolding core_run core_step act operate put is_own is_valid held_at after_read after_write memory_with arrived is_due entered left device_value after_device_read after_device_write sets_gie raised_by is_due_by entered_by left_by stored with_stored extent value_in truth_in pointer_in binary_value fits_together
counted = refl

-- -1 of one byte, as a signed char, is -1 of two, and so is less than 0.
abbrev widening : Setting
widening = setting (
    Set (Frame 0 0) 0xff ∷ Convert SChar Int (Frame 0 0) ∷ Set (Frame 0 2) 0 ∷ Set (Frame 0 3) 0
    ∷ Binary Lt Int (Frame 0 4) (Frame 0 0) (Frame 0 2) ∷ Copy (Device 6) (Frame 0 1) ∷ Copy (Device 7) (Frame 0 4) ∷ Leave ∷ []) []

widened : trace_at widening 8 ≡ WriteOf (cells.Device 6) (Number 0xff) ∷ WriteOf (cells.Device 7) (Number 1) ∷ Ended ∷ []
unfolding core_run core_step act operate put is_own is_valid held_at after_read after_write memory_with arrived is_due entered left device_value after_device_read after_device_write sets_gie raised_by is_due_by entered_by left_by stored with_stored extent value_in converted pointer_in binary_value fits_together
widened = refl

-- INTE and GIE are set. A call takes a number, and the byte of a static object that is read for it, and gives their sum
-- back, which PORTB, at 06, gets. The external flag comes with the read, while the call gets its parameters: the handler
-- runs there whole, writes PORTC, at 07, and clears the flag.
abbrev interrupting : Setting
interrupting = record {
  program = program
      (Set (Device 0x0b) 0x90 ∷ Set (Frame 0 0) 3 ∷ Copy (Frame 1 0) (Frame 0 0) ∷ Copy (Frame 1 1) (Static 0 0) ∷ Call 1 ∷ Copy (Device 6) (Result Main 0) ∷ Leave ∷ [])
      (Binary Add UChar (Frame 1 2) (Frame 1 0) (Frame 1 1) ∷ Copy (Result Main 0) (Frame 1 2) ∷ Leave ∷ [])
      (many (Set (Device 7) 1 ∷ Set (Frame 2 0) 0 ∷ []) ∷ BitWrite 0x0b 1 (Frame 2 0) ∷ Leave ∷ []);
  outside = outside_of [] (record { t = 2; flag = Intf } ∷ []);
}

interrupted : trace_at interrupting 20 ≡
    WriteOf (cells.Device 0x0b) (Number 0x90) ∷ ReadOf (cells.Static 0 0) (Number 7) ∷ WriteOf (cells.Device 7) (Number 1)
    ∷ ReadOf (cells.Device 0x0b) (Number 0x12) ∷ WriteOf (cells.Device 0x0b) (Number 0x10)
    ∷ WriteOf (cells.Device 6) (Number 10) ∷ Ended ∷ []
unfolding core_run core_step act operate put is_own is_valid held_at after_read after_write memory_with arrived is_due entered left device_value after_device_read after_device_write sets_gie raised_by is_due_by entered_by left_by stored with_stored extent value_in pointer_in binary_value fits_together
interrupted = refl

interrupted_still : core_step interrupting (core_moment interrupting 20) ≡ Still
unfolding core_run core_step act operate put is_own is_valid held_at after_read after_write memory_with arrived is_due entered left device_value after_device_read after_device_write sets_gie raised_by is_due_by entered_by left_by stored with_stored extent value_in pointer_in binary_value fits_together
interrupted_still = refl

-- Copy 1 reads a table of three bytes. PORTB gets the byte at index 2; at index 3 there is none, and the reading is stuck.
abbrev read_by_first : ℕ → Option (List ℕ)
read_by_first zero = None
read_by_first (suc zero) = Some (7 ∷ 9 ∷ 250 ∷ [])
read_by_first (suc (suc n)) = None

abbrev looking : ℕ → Setting
looking index = record {
  program = record (program (Set (Frame 1 0) index ∷ Set (Frame 1 1) 0 ∷ Call 1 ∷ Copy (Device 6) (Result Main 0) ∷ Leave ∷ []) [] []) { reads = read_by_first };
  outside = outside_of [] [];
}

looked : trace_at (looking 2) 7 ≡ WriteOf (cells.Device 6) (Number 250) ∷ Ended ∷ []
unfolding core_run core_step act operate put is_own is_valid held_at after_read after_write memory_with arrived is_due entered left device_value after_device_read after_device_write sets_gie raised_by is_due_by entered_by left_by stored with_stored
looked = refl

looked_least : least_by (looking 2) 7 ≡ 8
unfolding core_run core_step act operate put is_own is_valid held_at after_read after_write memory_with arrived is_due entered left device_value after_device_read after_device_write sets_gie raised_by is_due_by entered_by left_by stored with_stored least_by step_least
looked_least = refl

looked_behind : core_step (looking 3) (core_moment (looking 3) 3) ≡ Stuck
unfolding core_run core_step act operate put is_own is_valid held_at after_read after_write memory_with arrived is_due entered left device_value after_device_read after_device_write sets_gie raised_by is_due_by entered_by left_by stored with_stored
looked_behind = refl
