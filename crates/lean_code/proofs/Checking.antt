-- A certificate that passes the test is right.
use Rattle.std.proofs.Common.{◌≡◌, ℕ, zero, suc, ◌+◌, Bool, true, false, not, ◌&&◌, ◌||◌, if◌then◌else◌, List, [], ◌∷◌, drop, Option, Some, None, option_map, slice_get, refl, sym, ap, ◌∙◌, subst, arith}
use Rattle.std.specs.Prelude.{nat_eq, nat_lt}
use Rattle.std.proofs.lemmas.Bool.{eqb-true}
use Rattle.std.proofs.lemmas.Option.{none-some}
use Rattle.sym_code.specs.Layout.{owner}
use Rattle.sym_code.specs.Programs.{same_name, label_from, lands, front}
use Rattle.sym_code.specs.declared.code.BitOperation.{BitOperation}
use Rattle.sym_code.specs.declared.code.BitOperation.TheVariants.{Bcf, Bsf, Btfsc, Btfss}
use Rattle.sym_code.specs.declared.code.BlockName.{BlockName}
use Rattle.sym_code.specs.declared.code.BlockName.TheVariants as names
use Rattle.sym_code.specs.declared.code.FileOperation.{FileOperation}
use Rattle.sym_code.specs.declared.code.FileOperation.TheVariants as files
use Rattle.sym_code.specs.declared.code.Into.{Into}
use Rattle.sym_code.specs.declared.code.Into.TheVariants as into
use Rattle.sym_code.specs.declared.code.Label.TheVariants as labels
use Rattle.sym_code.specs.declared.code.Literal.{Literal}
use Rattle.sym_code.specs.declared.code.Literal.TheVariants.{Number}
use Rattle.sym_code.specs.declared.code.LiteralOperation.{LiteralOperation}
use Rattle.sym_code.specs.declared.code.LiteralOperation.TheVariants as literals
use Rattle.sym_code.specs.declared.code.Operand.{Operand}
use Rattle.sym_code.specs.declared.code.Operand.TheVariants as operands
use Rattle.sym_code.specs.declared.code.PlainOperation.{PlainOperation}
use Rattle.sym_code.specs.declared.code.PlainOperation.TheVariants.{Clrw, Nop, Retfie, Return}
use Rattle.sym_code.specs.declared.code.Register.TheVariants.{Status}
use Rattle.sym_code.specs.declared.code.Sym.{Sym}
use Rattle.sym_code.specs.declared.code.Sym.TheVariants as syms
use Rattle.sym_code.specs.declared.code.Target.{Target}
use Rattle.sym_code.specs.declared.code.Target.TheVariants as targets
use Rattle.lean_code.specs.Computed.{computed, file_for, way_of, way_of_bit}
use Rattle.lean_code.specs.Rows as rows_of
use Rattle.lean_code.specs.Rows.{Facts, Apart, Note, nothing_known, Act, Keeps, Drops, Puts, Narrows, Clears, Reads, Tests, FlagName, may_clear, operand_before, Row, At, olds, place_in, note_ahead, Lean}
use Rattle.lean_code.specs.Changes.{Ties, no_ties, carries, reports, shows_zero, leaves_carry, same_carry, with_bits, Aim, ToByte, aim, is_own, is_near, lost, without_zero, moved, after_to_w, learned, stored, flags_in, uses_w, uses_c, may_skip, literal_flags, literal_uses, is_retlw, both_set, one_sets, same_w, other_w, same_byte, other_byte, one_moves, one_stores, is_number, same_known, stays, number_at, after_to_file, literal_for, one_works, one_writes, one_clears}
use Rattle.lean_code.specs.Right as right
use Rattle.lean_code.specs.Right.{Expects, ExpectsBy, Leads, Same, Comes, Enters, flag_apart, with_flag, after_literal, dropped_literal, literal_apart, KeepsFile, KeepsBit, KeepsPlain, KeepsGoto, KeepsCall, IsKept, DropsToW, DropsToFile, DropsBit, IsDropped, PutsFor, IsPut, IsRight, IsNote, IsRightAt, Begins, BeginsAt}
use Rattle.lean_code.specs.Checked.{among, all_of, ListedNote, ListedRow, Listed, ListedBlock, Sketch, facts_in, apart_in, note_in, row_in, rows_in, block_in, lean_of, is_twin, gives, covers_flags, covers_bytes, claims, ties, ties_but, ties_left, ties_seen, expects_by, expects, tests_zero, is_tested, runs_on, puts_same, puts_number, puts_self, puts_byte, drops_carried, drops_move, narrows_for, is_narrowed, clears_for, is_cleared, reads_for, reads_to, tests_for, reads_bit, is_read, carries_near, ahead, leads, comes, enters, same, noted, same_side, is_operation, is_here, keeps_file, keeps_bit, keeps_plain, keeps_goto, keeps_call, is_kept, drops_to_w, drops_to_file, drops_store, drops_clear, drops_change, drops_test, drops_bit, drops_plain, drops_goto, is_left_out, puts_for, is_put, is_right_row, all_known, all_twins, is_note, is_right_at, are_right, is_right_block, are_right_blocks, begins, begins_at, TestIsRight}
use Rattle.lean_code.proofs.Lists.{never}
use Rattle.lean_code.proofs.Facts.{not_false, some_is}
use Rattle.lean_code.proofs.Tested.{and_l, and_r, is_not, not_both, sides, all_is, all_not, number_is, known_all, twins_all, gives_is, flags_are, bytes_are, claims_are, expects_by_is, expects_is, ahead_is, drop_is, expects_at, expects_by_at, leads_is, passes_is, passes_both_is, same_is, enters_is, comes_is, within_same, within_other, within_more, within_flag, some_operation, Within}

-- ---- rows
module _ (k : Sketch) (limit : Bool → ℕ) (old_page new_page : BlockName → ℕ) (own : BlockName) (n : ListedNote) where
  abbrev x : Lean
  x = lean_of k limit old_page new_page

  abbrev block : ListedBlock
  block = block_in k.blocks own

  abbrev inside : Bool
  inside = block.inside

  abbrev f : Facts
  f = facts_in n.facts

  abbrev d : Apart
  d = apart_in n.apart

  abbrev bytes : List ℕ
  bytes = n.apart.bytes

  here : Within d bytes
  here a e = e

  uses_are : (op : FileOperation) → (not (uses_w op && n.apart.w) && not (uses_c op && n.apart.c)) ≡ true → (uses_w op ≡ true → n.apart.w ≡ false) × (uses_c op ≡ true → n.apart.c ≡ false)
  uses_are op e =
      (not_both (uses_w op) n.apart.w (and_l (not (uses_w op && n.apart.w)) (not (uses_c op && n.apart.c)) e), not_both (uses_c op) n.apart.c (and_r (not (uses_w op && n.apart.w)) (not (uses_c op && n.apart.c)) e))

  same_at : (a : Aim) → same k.hidden a bytes block.outer ≡ true → Same k.hidden a d (x.outer own)
  same_at a e = same_is k.hidden a n.apart block.outer e

  file_is : (rest : List ListedRow) (op : FileOperation) (operand : Operand) (to : Into) → keeps_file k block n rest op operand to ≡ true → KeepsFile x own inside (note_in n) (rows_in rest) op operand to
  file_is rest op operand into.W e =
      let a = aim k.layout inside false operand in
      let one = not (uses_w op && n.apart.w) && not (uses_c op && n.apart.c) in
      let two = same k.hidden a bytes block.outer in
      let three = leads rest (way_of op (number_at a f)) (after_to_w op a f) (same_w (both_set (flags_in op) d)) bytes in
      let more = and_r one (two && three) e in
      (uses_are op (and_l one (two && three) e), same_at a (and_l two three more), leads_is rest (way_of op (number_at a f)) (after_to_w op a f) (same_w (both_set (flags_in op) d)) bytes here (and_r two three more))
  file_is rest op operand into.File e =
      let a = aim k.layout inside true operand in
      let g = after_to_file k.hidden op a f in
      let h = same_byte a (both_set (flags_in op) d) in
      let one = not (uses_w op && n.apart.w) && not (uses_c op && n.apart.c) in
      let two = same k.hidden a bytes block.outer in
      let three = leads rest (way_of op (number_at a f)) g h bytes in
      let more = and_r one (two && three) e in
      (uses_are op (and_l one (two && three) e), same_at a (and_l two three more), leads_is rest (way_of op (number_at a f)) g h bytes (within_same a (both_set (flags_in op) d) bytes here) (and_r two three more))

  abbrev ExpectsAt : List ListedRow → Facts → Apart → Type 0
  ExpectsAt rest g h = Expects (note_ahead (rows_in rest)) g h

  change_is : (rest : List ListedRow) (a : Aim) → (same k.hidden a bytes block.outer && expects (ahead rest) (lost k.hidden a f) d bytes) ≡ true → Same k.hidden a d (x.outer own) × ExpectsAt rest (lost k.hidden a f) d
  change_is rest a e =
      let one = same k.hidden a bytes block.outer in
      let two = expects (ahead rest) (lost k.hidden a f) d bytes in
      (same_at a (and_l one two e), expects_at rest (lost k.hidden a f) d bytes here (and_r one two e))

  test_is : (rest : List ListedRow) (way : Option Bool) (a : Aim) → (same k.hidden a bytes block.outer && leads rest way f d bytes) ≡ true → Same k.hidden a d (x.outer own) × Leads (rows_in rest) way f d
  test_is rest way a e =
      let one = same k.hidden a bytes block.outer in
      let two = leads rest way f d bytes in
      (same_at a (and_l one two e), leads_is rest way f d bytes here (and_r one two e))

  flag_is : (rest : List ListedRow) (b : ℕ) → (not (flag_apart b d) && leads rest None f d bytes) ≡ true → (flag_apart b d ≡ false) × Leads (rows_in rest) None f d
  flag_is rest b e =
      let one = not (flag_apart b d) in
      let two = leads rest None f d bytes in
      (is_not (flag_apart b d) (and_l one two e), leads_is rest None f d bytes here (and_r one two e))

  bit_is : (rest : List ListedRow) (op : BitOperation) (operand : Operand) (b : ℕ) → keeps_bit k block n rest op operand b ≡ true → KeepsBit x own inside (note_in n) (rows_in rest) op operand b
  bit_is rest Bcf (operands.Register Status) b e = expects_at rest (without_zero f) (with_flag b false d) bytes (within_flag b false d bytes here) e
  bit_is rest Bsf (operands.Register Status) b e = expects_at rest (without_zero f) (with_flag b false d) bytes (within_flag b false d bytes here) e
  bit_is rest Btfsc (operands.Register Status) b e = flag_is rest b e
  bit_is rest Btfss (operands.Register Status) b e = flag_is rest b e
  bit_is rest Bcf operand b e = change_is rest (aim k.layout inside true operand) e
  bit_is rest Bsf operand b e = change_is rest (aim k.layout inside true operand) e
  bit_is rest Btfsc operand b e = let a = aim k.layout inside false operand in test_is rest (way_of_bit Btfsc (number_at a f) b) a e
  bit_is rest Btfss operand b e = let a = aim k.layout inside false operand in test_is rest (way_of_bit Btfss (number_at a f) b) a e

  plain_is : (rest : List ListedRow) (op : PlainOperation) → keeps_plain k block n rest op ≡ true → KeepsPlain x own inside (note_in n) (rows_in rest) op
  plain_is rest Clrw e = expects_at rest (record f { number = Some 0; held = λ a. false; zero = true }) (record d { w = false; z = false }) bytes (λ a h. h) e
  plain_is rest Nop e = expects_at rest f d bytes here e
  plain_is rest Retfie e = tt
  plain_is rest Return e =
      let one = gives f block.ends.facts in
      let two = covers_flags block.ends.apart d in
      let three = covers_bytes block.ends.apart.bytes d.bytes bytes in
      let more = and_r one (two && three) e in
      (gives_is f block.ends.facts (and_l one (two && three) e), record { flags = flags_are block.ends.apart d (and_l two three more); bytes = bytes_are block.ends.apart.bytes d bytes here (and_r two three more) })

  noted_is : (o : Option ℕ) → right.noted (rows_in block.rows) o ≡ option_map (option_map note_in) (noted block.rows o)
  noted_is None = refl
  noted_is (Some i) = ap note_ahead (drop_is i block.rows) ∙ ahead_is (drop i block.rows)

  label_is : (o : Option ℕ) → expects (noted block.rows o) f d bytes ≡ true → Expects (right.noted (rows_in block.rows) o) f d
  label_is o e = subst (λ (q : Option (Option Note)). Expects q f d) (sym (noted_is o)) (expects_is (noted block.rows o) f d bytes here e)

  label_by : (c : Ties) (o : Option ℕ) → expects_by c (noted block.rows o) f d bytes ≡ true → ExpectsBy c (right.noted (rows_in block.rows) o) f d
  label_by c o e = subst (λ (q : Option (Option Note)). ExpectsBy c q f d) (sym (noted_is o)) (expects_by_is c (noted block.rows o) f d bytes here e)

  goto_is : (target : Target) → keeps_goto k block n target ≡ true → KeepsGoto x own inside (note_in n) target
  goto_is (targets.Label labels.Halt) e = tt
  goto_is (targets.Label labels.Restore) e =
      let two = all_of (λ a. among a k.rest) bytes in
      (and_l inside two e, λ a h. all_not (λ j. among j k.rest) bytes (and_r inside two e) a h)
  goto_is (targets.Label (labels.Inner l)) e = label_is (label_from (olds (rows_in block.rows)) (labels.Inner l) 0) e
  goto_is (targets.Block name) e = never e

  call_is : (rest : List ListedRow) (target : Target) → keeps_call k block n rest target ≡ true → KeepsCall x own inside (note_in n) (rows_in rest) target
  call_is rest (targets.Label label) e = never e
  call_is rest (targets.Block name) e =
      let to = block_in k.blocks name in
      let one = same_side to.inside inside in
      let two = enters (ahead to.rows) n in
      let three = comes (ahead rest) to.ends bytes in
      let four = all_of (λ a. among a to.outer) bytes in
      let five = all_of (λ a. among a to.outer) block.outer in
      let b = and_r one (two && (three && (four && five))) e in
      let c = and_r two (three && (four && five)) b in
      let g = and_r three (four && five) c in (
        sides to.inside inside (and_l one (two && (three && (four && five))) e),
        subst (λ (q : Option (Option Note)). Enters q (note_in n)) (sym (ahead_is to.rows)) (enters_is (ahead to.rows) n (and_l two (three && (four && five)) b)),
        subst (λ (q : Option (Option Note)). Comes q (note_in to.ends) (λ a. among a bytes)) (sym (ahead_is rest)) (comes_is (ahead rest) to.ends bytes (and_l three (four && five) c)),
        λ a h. (all_not (λ j. among j to.outer) bytes (and_l four five g) a h, all_not (λ j. among j to.outer) block.outer (and_r four five g) a h),
      )

  kept_is : (rest : List ListedRow) (s : Sym) → is_kept k block n rest s ≡ true → IsKept x own inside (note_in n) (rows_in rest) s
  kept_is rest (syms.File op operand to) e = file_is rest op operand to e
  kept_is rest (syms.Movwf operand) e =
      let a = aim k.layout inside true operand in
      let one = not n.apart.w in
      let two = expects (ahead rest) (stored k.hidden a f) (same_byte a d) bytes in
      (is_not n.apart.w (and_l one two e), expects_at rest (stored k.hidden a f) (same_byte a d) bytes (within_same a d bytes here) (and_r one two e))
  kept_is rest (syms.Clrf operand) e =
      let a = aim k.layout inside true operand in
      expects_at rest (learned k.hidden a (Some 0) (without_zero f)) (same_byte a (record d { z = false })) bytes (within_same a (record d { z = false }) bytes (λ b h. h)) e
  kept_is rest (syms.Bit op operand b) e = bit_is rest op operand b e
  kept_is rest (syms.Literal op value) e =
      let one = not (is_retlw op) in
      let two = not (literal_uses op && n.apart.w) in
      let three = expects (ahead rest) (after_literal f op value) (same_w (both_set (literal_flags op) d)) bytes in
      let more = and_r one (two && three) e in
      (is_not (is_retlw op) (and_l one (two && three) e), not_both (literal_uses op) n.apart.w (and_l two three more), expects_at rest (after_literal f op value) (same_w (both_set (literal_flags op) d)) bytes (λ b h. h) (and_r two three more))
  kept_is rest (syms.Plain op) e = plain_is rest op e
  kept_is rest (syms.Call target) e = call_is rest target e
  kept_is rest (syms.Goto target) e = goto_is target e
  kept_is rest (syms.Label label) e = tt
  kept_is rest (syms.SelectBank which on) e = expects_at rest f d bytes here e
  kept_is rest (syms.SelectPage which target) e = expects_at rest f d bytes here e
  kept_is rest (syms.Table table root) e = never e

  -- ---- what is left out
  within_works : (op : FileOperation) (byte : Option ℕ) → Within (one_works op byte f d) bytes
  within_works op byte = by_case (stays op byte f)
    where
      by_case : (c : Bool) → Within (if c then record (one_sets (flags_in op) d) { z = (flags_in op).z && not f.zero || d.z } else other_w (one_sets (flags_in op) d)) bytes
      by_case true b e = e
      by_case false b e = e

  within_carry : (c : Bool) (op : FileOperation) (byte : Option ℕ) → Within (same_carry c (one_works op byte f d)) bytes
  within_carry true op byte b e = within_works op byte b e
  within_carry false op byte b e = within_works op byte b e

  within_writes : (op : FileOperation) (i : ℕ) → Within (one_writes op i f d) (i ∷ bytes)
  within_writes op i = by_case (same_known (computed op f.number (f.known i)) (f.known i))
    where
      by_case : (c : Bool) → Within (if c then one_sets (flags_in op) d else other_byte i (one_sets (flags_in op) d)) (i ∷ bytes)
      by_case true = within_more i (one_sets (flags_in op) d) bytes (λ b h. h)
      by_case false = within_other i (one_sets (flags_in op) d) bytes (λ b h. h)

  drops_carried_is : (rest : List ListedRow) (i c : ℕ) (q : Bool) → drops_carried k block n rest i c q ≡ true → right.DropsCarried x own inside (note_in n) (rows_in rest) i c q
  drops_carried_is rest i c true e = expects_by_at (ties_left k block n None (f.held i)) rest (moved (ToByte i) f) (record d { w = false; z = not (reports n.shown) }) bytes (λ b h. h) e
  drops_carried_is rest i c false e = expects_by_at (ties_left k block n (Some c) (f.held i)) rest (moved (ToByte i) f) (one_moves f i d) bytes (λ b h. h) e

  drops_move_is : (rest : List ListedRow) (i : ℕ) (o : Option ℕ) → drops_move k block n rest i o ≡ true → right.DropsMove x own inside (note_in n) (rows_in rest) i o
  drops_move_is rest i None e = expects_by_at (ties_left k block n None (f.held i)) rest (moved (ToByte i) f) (one_moves f i d) bytes (λ b h. h) e
  drops_move_is rest i (Some c) e = drops_carried_is rest i c (nat_eq c i) e

  drops_w_is : (rest : List ListedRow) (op : FileOperation) (a : Aim) → drops_to_w k block n rest op a ≡ true → DropsToW x own inside (note_in n) (rows_in rest) op a
  drops_w_is rest files.Movf (ToByte i) e = drops_move_is rest i n.carry e
  drops_w_is rest op (ToByte i) e = passes_is (ties_left k block n n.carry (stays op (f.known i) f)) rest (way_of op (f.known i)) (after_to_w op (ToByte i) f) (same_carry (leaves_carry op (f.known i) n.shown) (one_works op (f.known i) f d)) bytes (within_carry (leaves_carry op (f.known i) n.shown) op (f.known i)) e
  drops_w_is rest op a e = never e

  drops_file_is : (rest : List ListedRow) (op : FileOperation) (a : Aim) → drops_to_file k block n rest op a ≡ true → DropsToFile x own inside (note_in n) (rows_in rest) op a
  drops_file_is rest op (ToByte i) e = passes_is (ties_but k block n i) rest (way_of op (f.known i)) (after_to_file k.hidden op (ToByte i) f) (one_writes op i f d) (i ∷ bytes) (within_writes op i) e
  drops_file_is rest op a e = never e

  within_stores : (c : Bool) (i : ℕ) → Within (if c then d else other_byte i d) (i ∷ bytes)
  within_stores true i = within_more i d bytes here
  within_stores false i = within_other i d bytes here

  drops_store_is : (rest : List ListedRow) (a : Aim) → drops_store k block n rest a ≡ true → right.DropsStore x own inside (note_in n) (rows_in rest) a
  drops_store_is rest (ToByte i) e = expects_by_at (ties_but k block n i) rest (stored k.hidden (ToByte i) f) (one_stores f i d) (i ∷ bytes) (within_stores (f.held i) i) e
  drops_store_is rest a e = never e

  within_clears : (c : Bool) (i : ℕ) → Within (if c then record d { z = true } else other_byte i (record d { z = true })) (i ∷ bytes)
  within_clears true i = within_more i (record d { z = true }) bytes (λ b h. h)
  within_clears false i = within_other i (record d { z = true }) bytes (λ b h. h)

  drops_clear_is : (rest : List ListedRow) (a : Aim) → drops_clear k block n rest a ≡ true → right.DropsClear x own inside (note_in n) (rows_in rest) a
  drops_clear_is rest (ToByte i) e =
      expects_by_at (ties_but k block n i) rest (learned k.hidden (ToByte i) (Some 0) (without_zero f)) (one_clears f i d) (i ∷ bytes) (within_clears (is_number (f.known i) 0) i) e
  drops_clear_is rest a e = never e

  drops_change_is : (rest : List ListedRow) (a : Aim) → drops_change k block n rest a ≡ true → right.DropsChange x own inside (note_in n) (rows_in rest) a
  drops_change_is rest (ToByte i) e = expects_by_at (ties_but k block n i) rest (lost k.hidden (ToByte i) f) (other_byte i d) (i ∷ bytes) (within_other i d bytes here) e
  drops_change_is rest a e = never e

  drops_test_is : (rest : List ListedRow) (op : BitOperation) (a : Aim) (b : ℕ) → drops_test k block n rest op a b ≡ true → right.DropsTest x own inside (note_in n) (rows_in rest) op a b
  drops_test_is rest op (ToByte i) b e = passes_is (ties k block n) rest (way_of_bit op (f.known i) b) f d bytes here e
  drops_test_is rest op a b e = never e

  drops_flag_is : (rest : List ListedRow) (b : ℕ) → (nat_lt b 3 && expects_by (ties k block n) (ahead rest) (without_zero f) (with_flag b true d) bytes) ≡ true → (nat_lt b 3 ≡ true) × ExpectsBy (ties k block n) (note_ahead (rows_in rest)) (without_zero f) (with_flag b true d)
  drops_flag_is rest b e =
      let two = expects_by (ties k block n) (ahead rest) (without_zero f) (with_flag b true d) bytes in
      (and_l (nat_lt b 3) two e, expects_by_at (ties k block n) rest (without_zero f) (with_flag b true d) bytes (within_flag b true d bytes here) (and_r (nat_lt b 3) two e))

  drops_bit_is : (rest : List ListedRow) (op : BitOperation) (operand : Operand) (b : ℕ) → drops_bit k block n rest op operand b ≡ true → DropsBit x own inside (note_in n) (rows_in rest) op operand b
  drops_bit_is rest Bcf (operands.Register Status) b e = drops_flag_is rest b e
  drops_bit_is rest Bsf (operands.Register Status) b e = drops_flag_is rest b e
  drops_bit_is rest Btfsc (operands.Register Status) b e = passes_both_is (ties_seen k block n b true) (ties_seen k block n b false) rest f d bytes here e
  drops_bit_is rest Btfss (operands.Register Status) b e = passes_both_is (ties_seen k block n b false) (ties_seen k block n b true) rest f d bytes here e
  drops_bit_is rest Bcf operand b e = drops_change_is rest (aim k.layout inside true operand) e
  drops_bit_is rest Bsf operand b e = drops_change_is rest (aim k.layout inside true operand) e
  drops_bit_is rest Btfsc operand b e = drops_test_is rest Btfsc (aim k.layout inside false operand) b e
  drops_bit_is rest Btfss operand b e = drops_test_is rest Btfss (aim k.layout inside false operand) b e

  drops_plain_is : (rest : List ListedRow) (op : PlainOperation) → drops_plain k block n rest op ≡ true → right.DropsPlain x own inside (note_in n) (rows_in rest) op
  drops_plain_is rest Clrw e = expects_by_at (ties_left k block n n.carry false) rest (record f { number = Some 0; held = λ a. false; zero = true }) (record d { w = true; z = true }) bytes (λ b h. h) e
  drops_plain_is rest Nop e = expects_by_at (ties k block n) rest f d bytes here e
  drops_plain_is rest op e = never e

  here_is : (to : ℕ) (o : Option ℕ) → is_here block.rows to o ≡ true → (i : ℕ) → o ≡ Some i → place_in (rows_in block.rows) i ≡ to
  here_is to None e i is = absurd (none-some i is)
  here_is to (Some j) e i is = ap (place_in (rows_in block.rows)) (sym (some_is j i is)) ∙ eqb-true (place_in (rows_in block.rows) j) to e

  drops_goto_is : (to : ℕ) (target : Target) → drops_goto k block n to target ≡ true → right.DropsGoto x own inside (note_in n) to target
  drops_goto_is to (targets.Label (labels.Inner l)) e =
      let o = label_from (olds (rows_in block.rows)) (labels.Inner l) 0 in
      let one = expects_by (ties k block n) (noted block.rows o) f d bytes in
      let two = is_here block.rows to o in
      (label_by (ties k block n) o (and_l one two e), here_is to o (and_r one two e))
  drops_goto_is to target e = never e

  within_number : (c : Bool) → Within (if c then d else other_w d) bytes
  within_number true b e = e
  within_number false b e = e

  number_within : (op : LiteralOperation) (v : ℕ) (o : Option FileOperation) → Within (right.dropped_number f d op o v) bytes
  number_within op v None b e = e
  number_within op v (Some file) b e = within_works file (Some v) b e

  within_literal : (op : LiteralOperation) (value : Literal) → Within (dropped_literal f d op value) bytes
  within_literal literals.Movlw (Number v) = within_number (is_number f.number v)
  within_literal op (Number v) = number_within op v (file_for op)
  within_literal op value = λ b e. e

  dropped_is : (to : ℕ) (rest : List ListedRow) (s : Sym) → is_left_out k block n to rest s ≡ true → IsDropped x own inside (note_in n) to (rows_in rest) s
  dropped_is to rest (syms.File op operand into.W) e = drops_w_is rest op (aim k.layout inside false operand) e
  dropped_is to rest (syms.File op operand into.File) e = drops_file_is rest op (aim k.layout inside true operand) e
  dropped_is to rest (syms.Movwf operand) e = drops_store_is rest (aim k.layout inside true operand) e
  dropped_is to rest (syms.Clrf operand) e = drops_clear_is rest (aim k.layout inside true operand) e
  dropped_is to rest (syms.Bit op operand b) e = drops_bit_is rest op operand b e
  dropped_is to rest (syms.Literal op value) e =
      let one = not (is_retlw op) in
      let two = expects_by (ties_left k block n n.carry false) (ahead rest) (after_literal f op value) (dropped_literal f d op value) bytes in
      (is_not (is_retlw op) (and_l one two e), expects_by_at (ties_left k block n n.carry false) rest (after_literal f op value) (dropped_literal f d op value) bytes (within_literal op value) (and_r one two e))
  dropped_is to rest (syms.Plain op) e = drops_plain_is rest op e
  dropped_is to rest (syms.Goto target) e = drops_goto_is to target e
  dropped_is to rest s e = never e

  -- ---- what stands in an instruction's place
  apart_within : (op : FileOperation) (i : ℕ) → Within (literal_apart f d op i) bytes
  apart_within files.Movf i b e = e
  apart_within op i b e = e

  puts_same_is : (rest : List ListedRow) (op : FileOperation) (i : ℕ) (new : LiteralOperation) (v : ℕ) → puts_same k block n rest op i new v ≡ true → right.PutsSame x own inside (note_in n) (rows_in rest) op i new v
  puts_same_is rest op i new v e =
      let one = is_operation (literal_for op) new in
      let two = is_number (f.known i) v in
      let three = not (uses_w op && n.apart.w) in
      let four = expects (ahead rest) (after_to_w op (ToByte i) f) (literal_apart f d op i) bytes in
      let b = and_r one (two && (three && four)) e in
      let c = and_r two (three && four) b in (
        some_operation (literal_for op) new (and_l one (two && (three && four)) e),
        number_is (f.known i) v (and_l two (three && four) b),
        not_both (uses_w op) n.apart.w (and_l three four c),
        expects_at rest (after_to_w op (ToByte i) f) (literal_apart f d op i) bytes (apart_within op i) (and_r three four c),
      )

  runs_is : (way : Option Bool) → runs_on way ≡ true → way ≡ Some false
  runs_is None e = never e
  runs_is (Some true) e = never e
  runs_is (Some false) e = refl

  puts_number_is : (rest : List ListedRow) (op : FileOperation) (i v : ℕ) → puts_number k block n rest op i v ≡ true → right.PutsNumber x own inside (note_in n) (rows_in rest) op i v
  puts_number_is rest op i v e =
      let one = runs_on (way_of op (f.known i)) in
      let two = is_number (computed op f.number (f.known i)) v in
      let three = expects (ahead rest) (after_to_w op (ToByte i) f) (same_w (one_sets (flags_in op) d)) bytes in
      let more = and_r one (two && three) e in (
        runs_is (way_of op (f.known i)) (and_l one (two && three) e),
        number_is (computed op f.number (f.known i)) v (and_l two three more),
        expects_at rest (after_to_w op (ToByte i) f) (same_w (one_sets (flags_in op) d)) bytes (λ b h. h) (and_r two three more),
      )

  puts_self_is : (rest : List ListedRow) (i v : ℕ) → puts_self k block n rest i v ≡ true → right.PutsSelf x own inside (note_in n) (rows_in rest) i v
  puts_self_is rest i v e =
      let one = nat_eq v 0 in
      let two = f.held i in
      let three = not n.apart.w in
      let four = expects (ahead rest) (moved (ToByte i) f) (record d { w = false; z = false }) bytes in
      let b = and_r one (two && (three && four)) e in
      let c = and_r two (three && four) b in (
        eqb-true v 0 (and_l one (two && (three && four)) e),
        and_l two (three && four) b,
        is_not n.apart.w (and_l three four c),
        expects_at rest (moved (ToByte i) f) (record d { w = false; z = false }) bytes (λ b h. h) (and_r three four c),
      )

  puts_byte_is : (rest : List ListedRow) (op : FileOperation) (i : ℕ) (new : LiteralOperation) (v : ℕ) → puts_byte k block n rest op i new v ≡ true → right.PutsByte x own inside (note_in n) (rows_in rest) op i new v
  puts_byte_is rest files.Movf i literals.Iorlw v e = puts_self_is rest i v e
  puts_byte_is rest files.Movf i new v e = puts_same_is rest files.Movf i new v e
  puts_byte_is rest op i literals.Movlw v e = puts_number_is rest op i v e
  puts_byte_is rest op i new v e = puts_same_is rest op i new v e

  puts_for_is : (rest : List ListedRow) (op : FileOperation) (a : Aim) (new : LiteralOperation) (v : ℕ) → puts_for k block n rest op a new v ≡ true → PutsFor x own inside (note_in n) (rows_in rest) op a new v
  puts_for_is rest op (ToByte i) new v e = puts_byte_is rest op i new v e
  puts_for_is rest op a new v e = never e

  put_is : (rest : List ListedRow) (new : LiteralOperation) (v : ℕ) (s : Sym) → is_put k block n rest new v s ≡ true → IsPut x own inside (note_in n) (rows_in rest) new v s
  put_is rest new v (syms.File op operand into.W) e = puts_for_is rest op (aim k.layout inside false operand) new v e
  put_is rest new v (syms.Label label) e = tt
  put_is rest new v s e = never e

  narrows_for_is : (rest : List ListedRow) (op : FileOperation) (a b : Aim) → narrows_for k block n rest op a b ≡ true → right.NarrowsFor x own inside (note_in n) (rows_in rest) op a b
  narrows_for_is rest op (ToByte i) (ToByte j) e =
      let g = with_bits (flags_in op) (lost k.hidden (ToByte i) (without_zero f)) in
      let h = other_w (other_byte i (both_set (flags_in op) d)) in
      let one = not (uses_w op && n.apart.w) && not (uses_c op && n.apart.c) in
      let two = same k.hidden (ToByte i) bytes block.outer in
      let three = not (may_skip op) in
      let four = nat_eq j i in
      let five = expects_by (carries op i) (ahead rest) g h (i ∷ bytes) in
      let b = and_r one (two && (three && (four && five))) e in
      let c = and_r two (three && (four && five)) b in
      let w = and_r three (four && five) c in (
        uses_are op (and_l one (two && (three && (four && five))) e),
        same_at (ToByte i) (and_l two (three && (four && five)) b),
        is_not (may_skip op) (and_l three (four && five) c),
        eqb-true j i (and_l four five w),
        expects_by_at (carries op i) rest g h (i ∷ bytes) (within_other i (both_set (flags_in op) d) bytes (λ z o. o)) (and_r four five w),
      )
  narrows_for_is rest op a b e = never e

  narrowed_is : (rest : List ListedRow) (s : Sym) → is_narrowed k block n rest s ≡ true → right.IsNarrowed x own inside (note_in n) (rows_in rest) s
  narrowed_is rest (syms.File op operand into.File) e = narrows_for_is rest op (aim k.layout inside true operand) (aim k.layout inside false operand) e
  narrowed_is rest (syms.Label label) e = tt
  narrowed_is rest s e = never e

  clears_for_is : (rest : List ListedRow) (operand : Operand) → clears_for k block n rest operand ≡ true → right.ClearsFor x own inside (note_in n) (rows_in rest) operand
  clears_for_is rest operand e =
      let a = aim k.layout inside true operand in
      let one = may_clear operand in
      let two = is_number n.facts.number 0 in
      let three = expects (ahead rest) (stored k.hidden a f) (same_byte a (record d { z = true })) bytes in
      let more = and_r one (two && three) e in (
        and_l one (two && three) e,
        number_is n.facts.number 0 (and_l two three more),
        expects_at rest (stored k.hidden a f) (same_byte a (record d { z = true })) bytes (within_same a (record d { z = true }) bytes (λ z o. o)) (and_r two three more),
      )

  cleared_is : (rest : List ListedRow) (s : Sym) → is_cleared k block n rest s ≡ true → right.IsCleared x own inside (note_in n) (rows_in rest) s
  cleared_is rest (syms.Movwf operand) e = clears_for_is rest operand e
  cleared_is rest (syms.Label label) e = tt
  cleared_is rest s e = never e

  reads_for_is : (rest : List ListedRow) (op : FileOperation) (a b : Aim) → reads_for k block n rest op a b ≡ true → right.ReadsFor x own inside (note_in n) (rows_in rest) op a b
  reads_for_is rest op (ToByte i) (ToByte j) e =
      let one = not (uses_w op && n.apart.w) && not (uses_c op && n.apart.c) in
      let two = is_twin n.facts.twins i j in
      let three = same k.hidden (ToByte j) bytes block.outer in
      let four = leads rest (way_of op (f.known i)) (after_to_w op (ToByte i) f) (same_w (both_set (flags_in op) d)) bytes in
      let b = and_r one (two && (three && four)) e in
      let c = and_r two (three && four) b in (
        uses_are op (and_l one (two && (three && four)) e),
        and_l two (three && four) b,
        same_at (ToByte j) (and_l three four c),
        leads_is rest (way_of op (f.known i)) (after_to_w op (ToByte i) f) (same_w (both_set (flags_in op) d)) bytes here (and_r three four c),
      )
  reads_for_is rest op a b e = never e

  reads_to_is : (rest : List ListedRow) (op : FileOperation) (a b c : Aim) → reads_to k block n rest op a b c ≡ true → right.ReadsTo x own inside (note_in n) (rows_in rest) op a b c
  reads_to_is rest op (ToByte i) (ToByte h) (ToByte j) e =
      let g = with_bits (flags_in op) (lost k.hidden (ToByte i) (without_zero f)) in
      let u = other_w (other_byte i (both_set (flags_in op) d)) in
      let one = not (uses_w op && n.apart.w) && not (uses_c op && n.apart.c) in
      let two = is_twin n.facts.twins i j in
      let three = same k.hidden (ToByte j) bytes block.outer in
      let four = not (may_skip op) in
      let five = nat_eq h i in
      let six = expects_by (carries op i) (ahead rest) g u (i ∷ bytes) in
      let b = and_r one (two && (three && (four && (five && six)))) e in
      let c = and_r two (three && (four && (five && six))) b in
      let v = and_r three (four && (five && six)) c in
      let w = and_r four (five && six) v in (
        uses_are op (and_l one (two && (three && (four && (five && six)))) e),
        and_l two (three && (four && (five && six))) b,
        same_at (ToByte j) (and_l three (four && (five && six)) c),
        is_not (may_skip op) (and_l four (five && six) v),
        eqb-true h i (and_l five six w),
        expects_by_at (carries op i) rest g u (i ∷ bytes) (within_other i (both_set (flags_in op) d) bytes (λ z o. o)) (and_r five six w),
      )
  reads_to_is rest op a b c e = never e

  tests_for_is : (rest : List ListedRow) (op : BitOperation) (bit : ℕ) (a b : Aim) → tests_for k block n rest op bit a b ≡ true → right.TestsFor x own inside (note_in n) (rows_in rest) op bit a b
  tests_for_is rest op bit (ToByte i) (ToByte j) e =
      let one = is_twin n.facts.twins i j in
      let two = same k.hidden (ToByte j) bytes block.outer in
      let way = way_of_bit op (f.known i) bit in
      let three = leads rest way f d bytes in
      let more = and_r one (two && three) e in
      (and_l one (two && three) e, same_at (ToByte j) (and_l two three more), leads_is rest way f d bytes here (and_r two three more))
  tests_for_is rest op bit a b e = never e

  reads_bit_is : (rest : List ListedRow) (op : BitOperation) (bit : ℕ) (a b : Aim) → reads_bit k block n rest op bit a b ≡ true → right.ReadsBit x own inside (note_in n) (rows_in rest) op bit a b
  reads_bit_is rest Btfsc bit a b e = tests_for_is rest Btfsc bit a b e
  reads_bit_is rest Btfss bit a b e = tests_for_is rest Btfss bit a b e
  reads_bit_is rest op bit a b e = never e

  read_is : (rest : List ListedRow) (before : ℕ) (s : Sym) → is_read k block n rest before s ≡ true → right.IsRead x own inside (note_in n) (rows_in rest) before s
  read_is rest before (syms.File op operand into.W) e = reads_for_is rest op (aim k.layout inside false operand) (aim k.layout inside false (operand_before before operand)) e
  read_is rest before (syms.File op operand into.File) e = reads_to_is rest op (aim k.layout inside true operand) (aim k.layout inside false operand) (aim k.layout inside false (operand_before before operand)) e
  read_is rest before (syms.Bit op operand b) e = reads_bit_is rest op b (aim k.layout inside false operand) (aim k.layout inside false (operand_before before operand)) e
  read_is rest before (syms.Label label) e = tt
  read_is rest before s e = never e

  tests_zero_is : (rest : List ListedRow) (flag : FlagName) (turned : Bool) (b : ℕ) → tests_zero k block n rest flag turned b ≡ true → right.TestsZero x own inside (note_in n) (rows_in rest) flag turned b
  tests_zero_is rest flag turned b e =
      let one = nat_eq b 2 in
      let two = n.facts.zero in
      let three = shows_zero n.shown flag turned in
      let four = leads rest None f d bytes in
      let c = and_r one (two && (three && four)) e in
      let v = and_r two (three && four) c in
      (and_l one (two && (three && four)) e, and_l two (three && four) c, and_l three four v, leads_is rest None f d bytes here (and_r three four v))

  tested_is : (rest : List ListedRow) (flag : FlagName) (turned : Bool) (s : Sym) → is_tested k block n rest flag turned s ≡ true → right.IsTested x own inside (note_in n) (rows_in rest) flag turned s
  tested_is rest flag turned (syms.Bit Btfsc (operands.Register Status) b) e = tests_zero_is rest flag turned b e
  tested_is rest flag turned (syms.Bit Btfss (operands.Register Status) b) e = tests_zero_is rest flag turned b e
  tested_is rest flag turned (syms.Label label) e = tt
  tested_is rest flag turned s e = never e

  pub row_is : (to : ℕ) (rest : List ListedRow) (act : Act) (s : Sym) → is_right_row k block n to rest act s ≡ true → IsRight x own inside (note_in n) to (rows_in rest) act s
  row_is to rest Keeps s e = kept_is rest s e
  row_is to rest Drops s e = dropped_is to rest s e
  row_is to rest (Puts new v) s e = put_is rest new v s e
  row_is to rest Narrows s e = narrowed_is rest s e
  row_is to rest Clears s e = cleared_is rest s e
  row_is to rest (Reads before) s e = read_is rest before s e
  row_is to rest (Tests flag turned) s e = tested_is rest flag turned s e

  pub note_is : is_note k.layout inside n ≡ true → IsNote x inside (note_in n)
  note_is e =
      let is_near_byte : ℕ → Bool = λ a. is_near inside (owner k.layout a) in
      let one = all_of (λ a. is_near inside (owner k.layout a)) n.facts.held in
      let two = all_known (λ a. is_near inside (owner k.layout a)) n.facts.known in
      let three = all_twins (λ a. is_near inside (owner k.layout a)) n.facts.twins in
      let four = all_of (λ a. is_own inside (owner k.layout a)) bytes in
      let five = carries_near k.layout inside n.carry in
      let b = and_r one (two && (three && (four && five))) e in
      let c = and_r two (three && (four && five)) b in
      let last = and_r three (four && five) c in
      record {
        held = λ a h. all_is is_near_byte n.facts.held (and_l one (two && (three && (four && five))) e) a h;
        known = λ a i h. known_all is_near_byte n.facts.known (and_l two (three && (four && five)) b) a i h;
        twin = λ a i h. twins_all is_near_byte n.facts.twins (and_l three (four && five) c) a i h;
        bytes = λ a h. all_not (λ j. is_own inside (owner k.layout j)) bytes (and_l four five last) a h;
        carry = λ a h. carry_at n.carry (and_r four five last) a h;
      }
    where
      carry_at : (o : Option ℕ) → carries_near k.layout inside o ≡ true → (a : ℕ) → o ≡ Some a → is_near inside (owner k.layout a) ≡ true
      carry_at None e a h = absurd (none-some a h)
      carry_at (Some b) e a h = ap (λ (z : ℕ). is_near inside (owner k.layout z)) (sym (some_is b a h)) ∙ e

-- ---- the whole
same_names : (a b : BlockName) → same_name a b ≡ true → a ≡ b
same_names names.Start names.Start e = refl
same_names names.Start (names.Copy d) e = never e
same_names (names.Copy c) names.Start e = never e
same_names (names.Copy c) (names.Copy d) e = ap names.Copy (eqb-true c d e)

same_row : (a b : ListedRow) → Some a ≡ Some b → a ≡ b
same_row a b e = cc

-- a row of the lists that has a note
pub record IsListed (rows : List ListedRow) (j : ℕ) (s : Sym) (act : Act) (n : Note) : Type 0 where
  pub note : ListedNote
  pub row : slice_get rows j ≡ Some (Listed s act (Some note))
  pub is : note_in note ≡ n

listed : (rows : List ListedRow) (j : ℕ) (s : Sym) (act : Act) (n : Note) → slice_get (rows_in rows) j ≡ Some (At s act (Some n)) → IsListed rows j s act n
listed [] j s act n e = absurd (none-some (At s act (Some n)) e)
listed (Listed t act_of None ∷ rows) zero s act n e = absurd (no_note t act_of s act n e)
  where
    no_note : (t : Sym) (a : Act) (s : Sym) (b : Act) (n : Note) → Some (At t a None) ≡ Some (At s b (Some n)) → ⊥
    no_note t a s b n e = cc
listed (Listed t act_of (Some m) ∷ rows) zero s act n e =
    record { note = m; row = row_as t act_of s act (note_in m) n e; is = note_as t act_of s act (note_in m) n e }
  where
    row_as : (t : Sym) (a : Act) (s : Sym) (b : Act) (h n : Note) → Some (At t a (Some h)) ≡ Some (At s b (Some n)) → Some (Listed t a (Some m)) ≡ Some (Listed s b (Some m))
    row_as t a s b h n e = cc

    note_as : (t : Sym) (a : Act) (s : Sym) (b : Act) (h n : Note) → Some (At t a (Some h)) ≡ Some (At s b (Some n)) → h ≡ n
    note_as t a s b h n e = cc
listed (row ∷ rows) (suc j) s act n e = let y = listed rows j s act n e in record { note = y.note; row = y.row; is = y.is }

rows_right : (k : Sketch) (block : ListedBlock) (rows : List ListedRow) (i : ℕ) → are_right k block i rows ≡ true → (j h : ℕ) (row : ListedRow) → h ≡ i + j → slice_get rows j ≡ Some row → is_right_at k block h row (drop (suc j) rows) ≡ true
rows_right k block [] i e j h row is got = absurd (none-some row got)
rows_right k block (first ∷ rows) i e zero h row is got =
    let same_index : i ≡ h = omega arith in
    subst (λ (z : ℕ). is_right_at k block z row rows ≡ true) same_index (subst (λ (z : ListedRow). is_right_at k block i z rows ≡ true) (same_row first row got) (and_l (is_right_at k block i first rows) (are_right k block (suc i) rows) e))
rows_right k block (first ∷ rows) i e (suc j) h row is got = rows_right k block rows (suc i) (and_r (is_right_at k block i first rows) (are_right k block (suc i) rows) e) j h row (omega arith) got

module _ (k : Sketch) where
  -- the rows of a block that has some are tested
  tested_rows : (bs : List ListedBlock) → are_right_blocks k bs ≡ true → (own : BlockName) (j : ℕ) (row : ListedRow) → slice_get (block_in bs own).rows j ≡ Some row → are_right k (block_in k.blocks own) 0 (block_in k.blocks own).rows ≡ true
  tested_rows [] e own j row got = absurd (none-some row got)
  tested_rows (b ∷ bs) e own j row got = by_name (same_name b.name own) refl (tested_rows bs (and_r (is_right_block k (block_in k.blocks b.name)) (are_right_blocks k bs) e) own j row) got
    where
      first : are_right k (block_in k.blocks b.name) 0 (block_in k.blocks b.name).rows ≡ true
      first =
          and_l (are_right k (block_in k.blocks b.name) 0 (block_in k.blocks b.name).rows) (all_of (λ a. is_own (block_in k.blocks b.name).inside (owner k.layout a)) (block_in k.blocks b.name).ends.apart.bytes)
          (and_l (is_right_block k (block_in k.blocks b.name)) (are_right_blocks k bs) e)

      by_name : (c : Bool) → same_name b.name own ≡ c → (slice_get (block_in bs own).rows j ≡ Some row → are_right k (block_in k.blocks own) 0 (block_in k.blocks own).rows ≡ true) → slice_get (if c then b else block_in bs own).rows j ≡ Some row
          → are_right k (block_in k.blocks own) 0 (block_in k.blocks own).rows ≡ true
      by_name true is more got = subst (λ (name : BlockName). are_right k (block_in k.blocks name) 0 (block_in k.blocks name).rows ≡ true) (same_names b.name own is) first
      by_name false is more got = more got

  -- what a block leaves apart is its own
  tested_ends : (bs : List ListedBlock) → are_right_blocks k bs ≡ true → (own : BlockName) (a : ℕ) → among a (block_in bs own).ends.apart.bytes ≡ true → all_of (λ j. is_own (block_in k.blocks own).inside (owner k.layout j)) (block_in k.blocks own).ends.apart.bytes ≡ true
  tested_ends [] e own a got = never got
  tested_ends (b ∷ bs) e own a got = by_name (same_name b.name own) refl (tested_ends bs (and_r (is_right_block k (block_in k.blocks b.name)) (are_right_blocks k bs) e) own a) got
    where
      first : all_of (λ j. is_own (block_in k.blocks b.name).inside (owner k.layout j)) (block_in k.blocks b.name).ends.apart.bytes ≡ true
      first =
          and_r (are_right k (block_in k.blocks b.name) 0 (block_in k.blocks b.name).rows) (all_of (λ j. is_own (block_in k.blocks b.name).inside (owner k.layout j)) (block_in k.blocks b.name).ends.apart.bytes)
          (and_l (is_right_block k (block_in k.blocks b.name)) (are_right_blocks k bs) e)

      by_name : (c : Bool) → same_name b.name own ≡ c → (among a (block_in bs own).ends.apart.bytes ≡ true → all_of (λ j. is_own (block_in k.blocks own).inside (owner k.layout j)) (block_in k.blocks own).ends.apart.bytes ≡ true)
          → among a (if c then b else block_in bs own).ends.apart.bytes ≡ true → all_of (λ j. is_own (block_in k.blocks own).inside (owner k.layout j)) (block_in k.blocks own).ends.apart.bytes ≡ true
      by_name true is more got = subst (λ (name : BlockName). all_of (λ j. is_own (block_in k.blocks name).inside (owner k.layout j)) (block_in k.blocks name).ends.apart.bytes ≡ true) (same_names b.name own is) first
      by_name false is more got = more got

begins_is : (rest : List ℕ) (q : Option (Option ListedNote)) → begins rest q ≡ true → Begins (λ a. among a rest) (option_map (option_map note_in) q)
begins_is rest None e = tt
begins_is rest (Some None) e = never e
begins_is rest (Some (Some n)) e =
    let one = gives nothing_known n.facts in
    let two = all_of (λ a. among a n.apart.bytes) rest in
    let three = claims n None no_ties in
    let more = and_r one (two && three) e in
    (gives_is nothing_known n.facts (and_l one (two && three) e), claims_are n None no_ties (and_r two three more), λ a h. all_not (λ j. among j n.apart.bytes) rest (and_l two three more) a h)

begins_rows : (rest : List ℕ) (rows : List ListedRow) → begins rest (ahead rows) ≡ true → Begins (λ a. among a rest) (note_ahead (rows_in rows))
begins_rows rest rows e = subst (Begins (λ a. among a rest)) (sym (ahead_is rows)) (begins_is rest (ahead rows) e)

goes_at : (rows : List ListedRow) (j : ℕ) (s : Sym) (act : Act) (m : ListedNote) → slice_get rows j ≡ Some (Listed s act (Some m)) → rows_of.goes_on (At s act None ∷ rows_in (drop (suc j) rows)) ≡ true → rows_of.goes_on (drop j (rows_in rows)) ≡ true
goes_at [] j s act m got e = absurd (none-some (Listed s act (Some m)) got)
goes_at (row ∷ rows) zero s act m got e = subst (λ (z : ListedRow). rows_of.goes_on (row_in z ∷ rows_in rows) ≡ true) (sym (same_row row (Listed s act (Some m)) got)) e
goes_at (row ∷ rows) (suc j) s act m got e = goes_at rows j s act m got e

module _ (k : Sketch) (limit : Bool → ℕ) (old_page new_page : BlockName → ℕ) where
  handler_is : (o : Option ℕ) → begins_at k o ≡ true → BeginsAt (lean_of k limit old_page new_page) o
  handler_is None e = tt
  handler_is (Some copy) e =
      let b = block_in k.blocks (names.Copy copy) in
      (and_l b.inside (begins k.rest (ahead b.rows)) e, begins_rows k.rest b.rows (and_r b.inside (begins k.rest (ahead b.rows)) e))

  right_at : are_right_blocks k k.blocks ≡ true → (own : BlockName) (j : ℕ) (s : Sym) (act : Act) (n : Note) → slice_get (rows_in (block_in k.blocks own).rows) j ≡ Some (At s act (Some n)) → IsRightAt (lean_of k limit old_page new_page) own j s act n
  right_at e own j s act n got =
      let rows = (block_in k.blocks own).rows in
      let y = listed rows j s act n got in
      let at = rows_right k (block_in k.blocks own) rows 0 (tested_rows k k.blocks e own j (Listed s act (Some y.note)) y.row) j j (Listed s act (Some y.note)) (omega arith) y.row in
      let one = is_note k.layout (block_in k.blocks own).inside y.note in
      let two = rows_of.goes_on (At s act None ∷ rows_in (drop (suc j) rows)) in
      let three = is_right_row k (block_in k.blocks own) y.note (place_in (rows_in rows) j) (drop (suc j) rows) act s in
      let more = and_r one (two && three) at in
      subst (λ (i : Note). IsRightAt (lean_of k limit old_page new_page) own j s act i) y.is (record {
        note = note_is k limit old_page new_page own y.note (and_l one (two && three) at);
        goes = goes_at rows j s act y.note y.row (and_l two three more);
        right = subst (λ (l : List Row). IsRight (lean_of k limit old_page new_page) own (block_in k.blocks own).inside (note_in y.note) (place_in (rows_in rows) j) l act s) (sym (drop_is (suc j) rows))
            (row_is k limit old_page new_page own y.note (place_in (rows_in rows) j) (drop (suc j) rows) act s (and_r two three more));
      })

pub test_is_right : TestIsRight
test_is_right k e limit old_page new_page =
    let main = block_in k.blocks (names.Copy 0) in
    let one = are_right_blocks k k.blocks in
    let two = not main.inside && begins [] (ahead main.rows) in
    let y = lean_of k (λ i. 0) (λ i. 0) (λ i. 0) in
    let three = lands (rows_of.old_program y) (front (rows_of.old_program y) (names.Copy 0)) in
    let four = begins_at k k.handler in
    let five = all_of (λ a. is_own true (owner k.layout a)) k.rest in
    let b = and_r one (two && (three && (four && five))) e in
    let c = and_r two (three && (four && five)) b in
    let d = and_r three (four && five) c in
    let begun = and_l two (three && (four && five)) b in
    let tested = and_l one (two && (three && (four && five))) e in
    record {
      right = λ own j s act n got. right_at k limit old_page new_page tested own j s act n got;
      main = (is_not main.inside (and_l (not main.inside) (begins [] (ahead main.rows)) begun), begins_rows [] main.rows (and_r (not main.inside) (begins [] (ahead main.rows)) begun));
      stands = and_l three (four && five) c;
      handler = handler_is k limit old_page new_page k.handler (and_l four five d);
      rest = λ a h. all_not (λ j. is_own true (owner k.layout j)) k.rest (and_r four five d) a h;
      ends = λ own a h. not_false (among a (block_in k.blocks own).ends.apart.bytes) (λ z. sym h ∙ all_is (λ j. is_own (block_in k.blocks own).inside (owner k.layout j)) (block_in k.blocks own).ends.apart.bytes (tested_ends k k.blocks tested own a z) a z);
    }
