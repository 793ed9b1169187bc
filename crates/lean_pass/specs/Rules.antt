-- The rules of the test, cut as the code cuts them.
use Rattle.std.specs.Prelude.{ℕ, Bool, true, false, not, ◌&&◌, nat_lt, if◌then◌else◌, List, Option, Some, None}
use Rattle.sym_code.specs.declared.code.BitOperation.{BitOperation}
use Rattle.sym_code.specs.declared.code.BitOperation.TheVariants as bit_ops
use Rattle.sym_code.specs.declared.code.FileOperation.{FileOperation}
use Rattle.sym_code.specs.declared.code.FileOperation.TheVariants as files
use Rattle.sym_code.specs.declared.code.Into.{Into}
use Rattle.sym_code.specs.declared.code.Into.TheVariants as into
use Rattle.sym_code.specs.declared.code.Literal.{Literal}
use Rattle.sym_code.specs.declared.code.LiteralOperation.{LiteralOperation}
use Rattle.sym_code.specs.declared.code.Operand.{Operand}
use Rattle.sym_code.specs.declared.code.Operand.TheVariants as operands
use Rattle.sym_code.specs.declared.code.Register.TheVariants.{Status}
use Rattle.lean_code.specs.Changes.{Aim, ToByte, lost, without_zero, number_at, after_to_w, after_to_file, stored, learned, is_number, flags_in, literal_flags, literal_uses, is_retlw, stays, leaves_carry, same_carry, both_set, one_works, same_w, same_byte}
use Rattle.lean_code.specs.Computed.{way_of, way_of_bit}
use Rattle.lean_code.specs.Checked.{ListedBlock, ListedNote, ListedRow, Sketch, all_of, among, ahead, block_in, comes, drops_change, drops_test, drops_to_file, drops_to_w, enters, expects, expects_by, is_same, leads, passes, passes_both, read, reads_for, reads_to, same_side, tests_zero, ties, ties_left, ties_seen, uses, write, facts_in, apart_in}
use Rattle.lean_code.specs.Right as right
use Rattle.lean_code.specs.Rows.{FlagName}
use Rattle.lean_code.specs.Right.{flag_apart, with_flag}

abbrev pub is_status : Operand → Bool
is_status (operands.Register Status) = true
is_status operand = false

abbrev pub is_move : FileOperation → Bool
is_move files.Movf = true
is_move op = false

abbrev pub aim_byte : Aim → Option ℕ
aim_byte (ToByte k) = Some k
aim_byte aim = None

module _ (k : Sketch) (block : ListedBlock) (n : ListedNote) where
  abbrev pub keeps_to_w : List ListedRow → FileOperation → Aim → Bool
  keeps_to_w rest op a = uses k block n op && (is_same k block n a && leads rest (way_of op (number_at a (facts_in n.facts))) (after_to_w op a (facts_in n.facts)) (same_w (both_set (flags_in op) (apart_in n.apart))) n.apart.bytes)

  abbrev pub keeps_to_file : List ListedRow → FileOperation → Aim → Bool
  keeps_to_file rest op a =
      uses k block n op && (is_same k block n a && leads rest (way_of op (number_at a (facts_in n.facts))) (after_to_file k.hidden op a (facts_in n.facts)) (same_byte a (both_set (flags_in op) (apart_in n.apart))) n.apart.bytes)

  abbrev pub keeps_change : List ListedRow → Aim → Bool
  keeps_change rest a = is_same k block n a && expects (ahead rest) (lost k.hidden a (facts_in n.facts)) (apart_in n.apart) n.apart.bytes

  abbrev pub keeps_test : List ListedRow → BitOperation → Aim → ℕ → Bool
  keeps_test rest op a b = is_same k block n a && leads rest (way_of_bit op (number_at a (facts_in n.facts)) b) (facts_in n.facts) (apart_in n.apart) n.apart.bytes

  abbrev pub keeps_flag : List ListedRow → ℕ → Bool
  keeps_flag rest b = expects (ahead rest) (without_zero (facts_in n.facts)) (with_flag b false (apart_in n.apart)) n.apart.bytes

  abbrev pub keeps_flag_test : List ListedRow → ℕ → Bool
  keeps_flag_test rest b = not (flag_apart b (apart_in n.apart)) && leads rest None (facts_in n.facts) (apart_in n.apart) n.apart.bytes

  abbrev pub calls : List ListedRow → ListedBlock → Bool
  calls rest callee =
      same_side callee.inside block.inside && (enters (ahead callee.rows) n && (comes (ahead rest) callee.ends n.apart.bytes && (all_of (λ a. among a callee.outer) n.apart.bytes && all_of (λ a. among a callee.outer) block.outer)))

  abbrev pub keeps_store : List ListedRow → Aim → Bool
  keeps_store rest a = not n.apart.w && expects (ahead rest) (stored k.hidden a (facts_in n.facts)) (same_byte a (apart_in n.apart)) n.apart.bytes

  abbrev pub keeps_clear : List ListedRow → Aim → Bool
  keeps_clear rest a = expects (ahead rest) (learned k.hidden a (Some 0) (without_zero (facts_in n.facts))) (same_byte a (record (apart_in n.apart) { z = false })) n.apart.bytes

  abbrev pub clears_zero : List ListedRow → Aim → Bool
  clears_zero rest a =
      is_number (facts_in n.facts).number 0 && expects (ahead rest) (stored k.hidden a (facts_in n.facts)) (same_byte a (record (apart_in n.apart) { z = true })) n.apart.bytes

  abbrev pub keeps_literal : List ListedRow → LiteralOperation → Literal → Bool
  keeps_literal rest op value =
      not (is_retlw op) && (not (literal_uses op && n.apart.w) && expects (ahead rest) (right.after_literal (facts_in n.facts) op value) (same_w (both_set (literal_flags op) (apart_in n.apart))) n.apart.bytes)

  abbrev pub drops_result : List ListedRow → FileOperation → ℕ → Bool
  drops_result rest op i = passes (ties_left k block n n.carry (stays op ((facts_in n.facts).known i) (facts_in n.facts))) rest (way_of op ((facts_in n.facts).known i)) (after_to_w op (ToByte i) (facts_in n.facts)) (same_carry (leaves_carry op ((facts_in n.facts).known i) n.shown) (one_works op ((facts_in n.facts).known i) (facts_in n.facts) (apart_in n.apart))) n.apart.bytes

  abbrev pub drops_skip : List ListedRow → Option Bool → Bool
  drops_skip rest way = passes (ties k block n) rest way (facts_in n.facts) (apart_in n.apart) n.apart.bytes

  abbrev pub drops_seen : List ListedRow → BitOperation → ℕ → Bool
  drops_seen rest op b = passes_both (ties_seen k block n b (not (right.skips_at op))) (ties_seen k block n b (right.skips_at op)) rest (facts_in n.facts) (apart_in n.apart) n.apart.bytes

  abbrev pub drops_flag : List ListedRow → ℕ → Bool
  drops_flag rest b = nat_lt b 3 && expects_by (ties k block n) (ahead rest) (without_zero (facts_in n.facts)) (with_flag b true (apart_in n.apart)) n.apart.bytes

  abbrev pub drops_literal : List ListedRow → LiteralOperation → Literal → Bool
  drops_literal rest op value = not (is_retlw op) && expects_by (ties_left k block n n.carry false) (ahead rest) (right.after_literal (facts_in n.facts) op value) (right.dropped_literal (facts_in n.facts) (apart_in n.apart) op value) n.apart.bytes

  abbrev pub drops_file : List ListedRow → FileOperation → Operand → Into → Bool
  drops_file rest op operand into.W = drops_to_w k block n rest op (read k block n operand)
  drops_file rest op operand into.File = drops_to_file k block n rest op (write k block n operand)

  abbrev pub reads_file : List ListedRow → FileOperation → Operand → Into → Aim → Bool
  reads_file rest op operand into.W origin = reads_for k block n rest op (read k block n operand) origin
  reads_file rest op operand into.File origin = reads_to k block n rest op (write k block n operand) (read k block n operand) origin

  abbrev pub keeps_bit_by : List ListedRow → BitOperation → Operand → ℕ → Bool
  keeps_bit_by rest bit_ops.Bcf operand b = if is_status operand then keeps_flag rest b else keeps_change rest (write k block n operand)
  keeps_bit_by rest bit_ops.Bsf operand b = if is_status operand then keeps_flag rest b else keeps_change rest (write k block n operand)
  keeps_bit_by rest bit_ops.Btfsc operand b = if is_status operand then keeps_flag_test rest b else keeps_test rest bit_ops.Btfsc (read k block n operand) b
  keeps_bit_by rest bit_ops.Btfss operand b = if is_status operand then keeps_flag_test rest b else keeps_test rest bit_ops.Btfss (read k block n operand) b

  abbrev pub drops_bit_by : List ListedRow → BitOperation → Operand → ℕ → Bool
  drops_bit_by rest bit_ops.Bcf operand b = if is_status operand then drops_flag rest b else drops_change k block n rest (write k block n operand)
  drops_bit_by rest bit_ops.Bsf operand b = if is_status operand then drops_flag rest b else drops_change k block n rest (write k block n operand)
  drops_bit_by rest bit_ops.Btfsc operand b = if is_status operand then drops_seen rest bit_ops.Btfsc b else drops_test k block n rest bit_ops.Btfsc (read k block n operand) b
  drops_bit_by rest bit_ops.Btfss operand b = if is_status operand then drops_seen rest bit_ops.Btfss b else drops_test k block n rest bit_ops.Btfss (read k block n operand) b

  abbrev pub tests_bit : List ListedRow → FlagName → Bool → BitOperation → Operand → ℕ → Bool
  tests_bit rest flag turned bit_ops.Btfsc operand b = is_status operand && tests_zero k block n rest flag turned b
  tests_bit rest flag turned bit_ops.Btfss operand b = is_status operand && tests_zero k block n rest flag turned b
  tests_bit rest flag turned op operand b = false

-- of a general byte, and of nothing else
abbrev pub on_byte : (Aim → Bool) → Option ℕ → Bool
on_byte test None = false
on_byte test (Some i) = test (ToByte i)

abbrev pub on_bytes : (Aim → Aim → Bool) → Option ℕ → Option ℕ → Bool
on_bytes test None o = false
on_bytes test (Some i) None = false
on_bytes test (Some i) (Some j) = test (ToByte i) (ToByte j)

abbrev pub on_two : (Aim → Aim → Aim → Bool) → ℕ → Option ℕ → Option ℕ → Bool
on_two test i None o = false
on_two test i (Some h) None = false
on_two test i (Some h) (Some j) = test (ToByte i) (ToByte h) (ToByte j)

abbrev pub on_three : (Aim → Aim → Aim → Bool) → Option ℕ → Option ℕ → Option ℕ → Bool
on_three test None o p = false
on_three test (Some i) o p = on_two test i o p
