-- When a certificate is right: what is said before each instruction leads to what is said where it goes, and what is read is the same
-- on both machines.
use Rattle.std.specs.Prelude.{◌≡◌, ℕ, suc, Bool, true, false, not, ◌&&◌, nat_eq, nat_lt, if◌then◌else◌, List, drop, Option, Some, None, slice_get}
use Rattle.sym_code.specs.Layout.{owner}
use Rattle.sym_code.specs.Programs.{label_from, front, lands}
use Rattle.sym_code.specs.declared.code.BitOperation.{BitOperation}
use Rattle.sym_code.specs.declared.code.BitOperation.TheVariants as bit_ops
use Rattle.sym_code.specs.declared.code.BlockName.{BlockName}
use Rattle.sym_code.specs.declared.code.BlockName.TheVariants as names
use Rattle.sym_code.specs.declared.code.FileOperation.{FileOperation}
use Rattle.sym_code.specs.declared.code.FileOperation.TheVariants as files
use Rattle.sym_code.specs.declared.code.Into.{Into}
use Rattle.sym_code.specs.declared.code.Into.TheVariants as into
use Rattle.sym_code.specs.declared.code.Label.{Label}
use Rattle.sym_code.specs.declared.code.Label.TheVariants as labels
use Rattle.sym_code.specs.declared.code.Literal.{Literal}
use Rattle.sym_code.specs.declared.code.Literal.TheVariants.{Number}
use Rattle.sym_code.specs.declared.code.LiteralOperation.{LiteralOperation}
use Rattle.sym_code.specs.declared.code.LiteralOperation.TheVariants as literals
use Rattle.sym_code.specs.declared.code.Operand.{Operand}
use Rattle.sym_code.specs.declared.code.Operand.TheVariants as operands
use Rattle.sym_code.specs.declared.code.PlainOperation.{PlainOperation}
use Rattle.sym_code.specs.declared.code.PlainOperation.TheVariants as plains
use Rattle.sym_code.specs.declared.code.Register.TheVariants.{Status}
use Rattle.sym_code.specs.declared.code.Sym.{Sym}
use Rattle.sym_code.specs.declared.code.Sym.TheVariants as syms
use Rattle.sym_code.specs.declared.code.Target.{Target}
use Rattle.sym_code.specs.declared.code.Target.TheVariants as targets
use Rattle.lean_code.specs.Computed.{computed, file_for, way_of, way_of_bit}
use Rattle.lean_code.specs.Rows.{Facts, Apart, Note, nothing_known, Row, At, Act, Keeps, Drops, Puts, Narrows, Clears, Reads, Tests, FlagName, may_clear, operand_before, olds, place_in, note_ahead, past, drops_first, keeps_first, goes_on, Lean, old_program}
use Rattle.lean_code.specs.Changes.{Ties, no_ties, carries, shows, reports, left, sees, shows_zero, leaves_carry, same_carry, stays, with_bits, Weaker, CoversFlags, Covers, Aim, ToByte, Through, aim, is_own, is_near, lost, without_zero, without_w, moved, after_to_w, number_at, worked, learned, after_to_file, stored, flags_in, uses_w, uses_c, may_skip, literal_flags, literal_uses, is_retlw, literal_for, both_set, one_sets, same_w, other_w, same_byte, other_byte, one_moves, one_stores, is_number, one_works, one_writes, one_clears}

-- ---- where the code goes on
-- With these facts, and this apart, where something stands.
-- no more is said to be carried and shown than is, where this is known of W
pub record Claims (n : Note) (number : Option ℕ) (t : Ties) : Type 0 where
  pub carry : (j : ℕ) → n.carry ≡ Some j → t.carry ≡ Some j
  pub shown : shows n.shown number t.shown ≡ true

-- what is carried behind a write of byte k on one machine
abbrev pub carry_but : ℕ → Option ℕ → Option ℕ
carry_but k None = None
carry_but k (Some j) = if nat_eq j k then None else Some j

abbrev pub ExpectsBy : Ties → Option (Option Note) → Facts → Apart → Type 0
ExpectsBy ties None f d = Unit {0}
ExpectsBy ties (Some None) f d = ⊥
ExpectsBy ties (Some (Some n)) f d = Weaker n.facts f × Covers n.apart d × Claims n f.number ties

abbrev pub Expects : Option (Option Note) → Facts → Apart → Type 0
Expects o f d = ExpectsBy no_ties o f d

-- behind an instruction that both execute, and that may skip the next one
pub record LeadsBoth (rest : List Row) (f : Facts) (d : Apart) : Type 0 where
  pub runs : Expects (note_ahead rest) f d
  pub skips : Expects (note_ahead (past rest)) f d
  pub keeps : keeps_first rest ≡ true

-- so where it is known whether it skips
abbrev pub Leads : List Row → Option Bool → Facts → Apart → Type 0
Leads rest None f d = LeadsBoth rest f d
Leads rest (Some false) f d = Expects (note_ahead rest) f d
Leads rest (Some true) f d = Expects (note_ahead (past rest)) f d × (keeps_first rest ≡ true)

-- behind one that is left out: with these ties where it runs on, and with those where it skips
pub record PassesBoth (on over : Ties) (rest : List Row) (f : Facts) (d : Apart) : Type 0 where
  pub runs : ExpectsBy on (note_ahead rest) f d
  pub skips : ExpectsBy over (note_ahead (past rest)) f d
  pub drops : drops_first rest ≡ true

abbrev pub Passes : Ties → List Row → Option Bool → Facts → Apart → Type 0
Passes ties rest None f d = PassesBoth ties ties rest f d
Passes ties rest (Some false) f d = ExpectsBy ties (note_ahead rest) f d
Passes ties rest (Some true) f d = ExpectsBy ties (note_ahead (past rest)) f d × (drops_first rest ≡ true)

-- behind a call that leaves k, where these bytes may differ meanwhile
abbrev pub Comes : Option (Option Note) → Note → (ℕ → Bool) → Type 0
Comes None k across = Unit {0}
Comes (Some None) k across = ⊥
Comes (Some (Some n)) k across = Weaker n.facts k.facts × CoversFlags n.apart k.apart × Claims n None no_ties × ((a : ℕ) → n.apart.bytes a ≡ false → (k.apart.bytes a ≡ false) × (across a ≡ false))

-- at the front of what is called; none of the caller's bytes are read there
abbrev pub Enters : Option (Option Note) → Note → Type 0
Enters None n = Unit {0}
Enters (Some None) n = ⊥
Enters (Some (Some k)) n = Weaker k.facts n.facts × CoversFlags k.apart n.apart × Claims k None no_ties

-- at an index, if there is one
abbrev pub noted : List Row → Option ℕ → Option (Option Note)
noted rows None = None
noted rows (Some k) = note_ahead (drop k rows)

-- ---- what is read
-- bytes that may not differ where they are read
abbrev pub Same : (ℕ → Bool) → Aim → Apart → (ℕ → Bool) → Type 0
Same hidden (ToByte k) d outer = (d.bytes k ≡ false) × (outer k ≡ false)
Same hidden Through d outer = (a : ℕ) → hidden a ≡ false → (d.bytes a ≡ false) × (outer a ≡ false)
Same hidden aim d outer = Unit {0}

-- ---- flags by the number of their bit: Z 2, DC 1, C 0
abbrev pub flag_apart : ℕ → Apart → Bool
flag_apart b d = if nat_eq b 0 then d.c else if nat_eq b 1 then d.dc else if nat_eq b 2 then d.z else false

abbrev pub with_flag : ℕ → Bool → Apart → Apart
with_flag b v d = if nat_eq b 0 then record d { c = v } else if nat_eq b 1 then record d { dc = v } else if nat_eq b 2 then record d { z = v } else d

-- what is known behind an operation on W and a number, which does what one on a byte does
abbrev pub after_number : Facts → Option FileOperation → ℕ → Facts
after_number f None k = without_w f
after_number f (Some op) k = worked op (Some k) f

abbrev pub after_literal : Facts → LiteralOperation → Literal → Facts
after_literal f literals.Movlw (Number k) = record f { number = Some k; held = λ a. is_number (f.known a) k; zero = false }
after_literal f op (Number k) = after_number f (file_for op) k
after_literal f op value = without_w f

-- what may differ behind one that only one of them does
abbrev pub dropped_number : Facts → Apart → LiteralOperation → Option FileOperation → ℕ → Apart
dropped_number f d op None k = other_w (one_sets (literal_flags op) d)
dropped_number f d op (Some file) k = one_works file (Some k) f d

abbrev pub dropped_literal : Facts → Apart → LiteralOperation → Literal → Apart
dropped_literal f d literals.Movlw (Number k) = if is_number f.number k then d else other_w d
dropped_literal f d op (Number k) = dropped_number f d op (file_for op) k
dropped_literal f d op value = other_w (one_sets (literal_flags op) d)

-- what may differ behind one that stands in place of an operation on a byte
abbrev pub literal_apart : Facts → Apart → FileOperation → ℕ → Apart
literal_apart f d files.Movf k = record d { w = false; z = if f.held k && f.zero then d.z else true }
literal_apart f d op k = same_w (both_set (flags_in op) d)

-- where a test skips, the bit is this
abbrev pub skips_at : BitOperation → Bool
skips_at bit_ops.Btfss = true
skips_at op = false

module _ (x : Lean) (own : BlockName) (inside : Bool) (n : Note) where
  abbrev pub f : Facts
  f = n.facts

  abbrev pub d : Apart
  d = n.apart

  abbrev pub ties : Ties
  ties = record { carry = n.carry; shown = n.shown }

  -- behind a write of byte k on one machine
  abbrev pub ties_but : ℕ → Ties
  ties_but k = record { carry = carry_but k n.carry; shown = n.shown }

  -- where W stays on one machine, or not
  abbrev pub ties_left : Option ℕ → Bool → Ties
  ties_left carry kept = record { carry = carry; shown = left kept n.shown }

  -- where a flag is seen to be this
  abbrev pub ties_seen : ℕ → Bool → Ties
  ties_seen b v = record { carry = n.carry; shown = sees f d b v n.shown }

  abbrev pub read : Operand → Aim
  read operand = aim x.layout inside false operand

  abbrev pub write : Operand → Aim
  write operand = aim x.layout inside true operand

  abbrev pub IsSame : Aim → Type 0
  IsSame a = Same x.hidden a d (x.outer own)

  abbrev pub Uses : FileOperation → Type 0
  Uses op = (uses_w op ≡ true → d.w ≡ false) × (uses_c op ≡ true → d.c ≡ false)

  -- ---- both execute it
  abbrev pub KeepsFile : List Row → FileOperation → Operand → Into → Type 0
  KeepsFile rest op operand into.W = Uses op × IsSame (read operand) × Leads rest (way_of op (number_at (read operand) f)) (after_to_w op (read operand) f) (same_w (both_set (flags_in op) d))
  KeepsFile rest op operand into.File =
      Uses op × IsSame (write operand) × Leads rest (way_of op (number_at (write operand) f)) (after_to_file x.hidden op (write operand) f) (same_byte (write operand) (both_set (flags_in op) d))

  abbrev pub KeepsBit : List Row → BitOperation → Operand → ℕ → Type 0
  KeepsBit rest bit_ops.Bcf (operands.Register Status) b = Expects (note_ahead rest) (without_zero f) (with_flag b false d)
  KeepsBit rest bit_ops.Bsf (operands.Register Status) b = Expects (note_ahead rest) (without_zero f) (with_flag b false d)
  KeepsBit rest op (operands.Register Status) b = (flag_apart b d ≡ false) × Leads rest None f d
  KeepsBit rest bit_ops.Bcf operand b = IsSame (write operand) × Expects (note_ahead rest) (lost x.hidden (write operand) f) d
  KeepsBit rest bit_ops.Bsf operand b = IsSame (write operand) × Expects (note_ahead rest) (lost x.hidden (write operand) f) d
  KeepsBit rest op operand b = IsSame (read operand) × Leads rest (way_of_bit op (number_at (read operand) f) b) f d

  abbrev pub KeepsPlain : List Row → PlainOperation → Type 0
  KeepsPlain rest plains.Clrw = Expects (note_ahead rest) (record f { number = Some 0; held = λ a. false; zero = true }) (record d { w = false; z = false })
  KeepsPlain rest plains.Nop = Expects (note_ahead rest) f d
  KeepsPlain rest plains.Retfie = Unit {0}
  KeepsPlain rest plains.Return = Weaker (x.ends own).facts f × Covers (x.ends own).apart d

  abbrev pub at_label : Label → Option (Option Note)
  at_label label = noted (x.rows own) (label_from (olds (x.rows own)) label 0)

  abbrev pub KeepsGoto : Target → Type 0
  KeepsGoto (targets.Label labels.Halt) = Unit {0}
  KeepsGoto (targets.Label labels.Restore) = (inside ≡ true) × ((a : ℕ) → x.rest a ≡ false → d.bytes a ≡ false)
  KeepsGoto (targets.Label label) = Expects (at_label label) f d
  KeepsGoto (targets.Block name) = ⊥

  abbrev pub KeepsCall : List Row → Target → Type 0
  KeepsCall rest (targets.Label label) = ⊥
  KeepsCall rest (targets.Block name) =
      (x.inside name ≡ inside) × Enters (note_ahead (x.rows name)) n × Comes (note_ahead rest) (x.ends name) d.bytes
      × ((a : ℕ) → x.outer name a ≡ false → (d.bytes a ≡ false) × (x.outer own a ≡ false))

  abbrev pub IsKept : List Row → Sym → Type 0
  IsKept rest (syms.File op operand to) = KeepsFile rest op operand to
  IsKept rest (syms.Movwf operand) = (d.w ≡ false) × Expects (note_ahead rest) (stored x.hidden (write operand) f) (same_byte (write operand) d)
  IsKept rest (syms.Clrf operand) = Expects (note_ahead rest) (learned x.hidden (write operand) (Some 0) (without_zero f)) (same_byte (write operand) (record d { z = false }))
  IsKept rest (syms.Bit op operand b) = KeepsBit rest op operand b
  IsKept rest (syms.Literal op value) = (is_retlw op ≡ false) × (literal_uses op ≡ true → d.w ≡ false) × Expects (note_ahead rest) (after_literal f op value) (same_w (both_set (literal_flags op) d))
  IsKept rest (syms.Plain op) = KeepsPlain rest op
  IsKept rest (syms.Call target) = KeepsCall rest target
  IsKept rest (syms.Goto target) = KeepsGoto target
  IsKept rest (syms.Label label) = Unit {0}
  IsKept rest (syms.SelectBank bit on) = Expects (note_ahead rest) f d
  IsKept rest (syms.SelectPage bit target) = Expects (note_ahead rest) f d
  IsKept rest (syms.Table table root) = ⊥

  -- ---- only the given code has it
  -- W may be on the other machine already what is read
  abbrev pub DropsCarried : List Row → ℕ → ℕ → Bool → Type 0
  DropsCarried rest k c true = ExpectsBy (ties_left None (f.held k)) (note_ahead rest) (moved (ToByte k) f) (record d { w = false; z = not (reports n.shown) })
  DropsCarried rest k c false = ExpectsBy (ties_left (Some c) (f.held k)) (note_ahead rest) (moved (ToByte k) f) (one_moves f k d)

  abbrev pub DropsMove : List Row → ℕ → Option ℕ → Type 0
  DropsMove rest k None = ExpectsBy (ties_left None (f.held k)) (note_ahead rest) (moved (ToByte k) f) (one_moves f k d)
  DropsMove rest k (Some c) = DropsCarried rest k c (nat_eq c k)

  abbrev pub DropsToW : List Row → FileOperation → Aim → Type 0
  DropsToW rest files.Movf (ToByte k) = DropsMove rest k n.carry
  DropsToW rest op (ToByte k) = Passes (ties_left n.carry (stays op (f.known k) f)) rest (way_of op (f.known k)) (after_to_w op (ToByte k) f) (same_carry (leaves_carry op (f.known k) n.shown) (one_works op (f.known k) f d))
  DropsToW rest op aim = ⊥

  abbrev pub DropsToFile : List Row → FileOperation → Aim → Type 0
  DropsToFile rest op (ToByte k) = Passes (ties_but k) rest (way_of op (f.known k)) (after_to_file x.hidden op (ToByte k) f) (one_writes op k f d)
  DropsToFile rest op aim = ⊥

  abbrev pub DropsStore : List Row → Aim → Type 0
  DropsStore rest (ToByte k) = ExpectsBy (ties_but k) (note_ahead rest) (stored x.hidden (ToByte k) f) (one_stores f k d)
  DropsStore rest aim = ⊥

  abbrev pub DropsClear : List Row → Aim → Type 0
  DropsClear rest (ToByte k) = ExpectsBy (ties_but k) (note_ahead rest) (learned x.hidden (ToByte k) (Some 0) (without_zero f)) (one_clears f k d)
  DropsClear rest aim = ⊥

  abbrev pub DropsChange : List Row → Aim → Type 0
  DropsChange rest (ToByte k) = ExpectsBy (ties_but k) (note_ahead rest) (lost x.hidden (ToByte k) f) (other_byte k d)
  DropsChange rest aim = ⊥

  abbrev pub DropsTest : List Row → BitOperation → Aim → ℕ → Type 0
  DropsTest rest op (ToByte k) b = Passes ties rest (way_of_bit op (f.known k) b) f d
  DropsTest rest op aim b = ⊥

  abbrev pub DropsBit : List Row → BitOperation → Operand → ℕ → Type 0
  DropsBit rest bit_ops.Bcf (operands.Register Status) b = (nat_lt b 3 ≡ true) × ExpectsBy ties (note_ahead rest) (without_zero f) (with_flag b true d)
  DropsBit rest bit_ops.Bsf (operands.Register Status) b = (nat_lt b 3 ≡ true) × ExpectsBy ties (note_ahead rest) (without_zero f) (with_flag b true d)
  DropsBit rest op (operands.Register Status) b = PassesBoth (ties_seen b (not (skips_at op))) (ties_seen b (skips_at op)) rest f d
  DropsBit rest bit_ops.Bcf operand b = DropsChange rest (write operand)
  DropsBit rest bit_ops.Bsf operand b = DropsChange rest (write operand)
  DropsBit rest op operand b = DropsTest rest op (read operand) b

  abbrev pub DropsPlain : List Row → PlainOperation → Type 0
  DropsPlain rest plains.Clrw = ExpectsBy (ties_left n.carry false) (note_ahead rest) (record f { number = Some 0; held = λ a. false; zero = true }) (record d { w = true; z = true })
  DropsPlain rest plains.Nop = ExpectsBy ties (note_ahead rest) f d
  DropsPlain rest op = ⊥

  -- A jump goes where the code that is made stands already; here is that place.
  abbrev pub DropsGoto : ℕ → Target → Type 0
  DropsGoto here (targets.Label (labels.Inner k)) =
      ExpectsBy ties (at_label (labels.Inner k)) f d × ((i : ℕ) → label_from (olds (x.rows own)) (labels.Inner k) 0 ≡ Some i → place_in (x.rows own) i ≡ here)
  DropsGoto here target = ⊥

  abbrev pub IsDropped : ℕ → List Row → Sym → Type 0
  IsDropped here rest (syms.File op operand into.W) = DropsToW rest op (read operand)
  IsDropped here rest (syms.File op operand into.File) = DropsToFile rest op (write operand)
  IsDropped here rest (syms.Movwf operand) = DropsStore rest (write operand)
  IsDropped here rest (syms.Clrf operand) = DropsClear rest (write operand)
  IsDropped here rest (syms.Bit op operand b) = DropsBit rest op operand b
  IsDropped here rest (syms.Literal op value) = (is_retlw op ≡ false) × ExpectsBy (ties_left n.carry false) (note_ahead rest) (after_literal f op value) (dropped_literal f d op value)
  IsDropped here rest (syms.Plain op) = DropsPlain rest op
  IsDropped here rest (syms.Goto target) = DropsGoto here target
  IsDropped here rest s = ⊥

  -- ---- an operation on W and a number in its place
  abbrev pub PutsSame : List Row → FileOperation → ℕ → LiteralOperation → ℕ → Type 0
  PutsSame rest op k new v = (literal_for op ≡ Some new) × (f.known k ≡ Some v) × (uses_w op ≡ true → d.w ≡ false) × Expects (note_ahead rest) (after_to_w op (ToByte k) f) (literal_apart f d op k)

  -- the number that the operation makes, where it is known
  abbrev pub PutsNumber : List Row → FileOperation → ℕ → ℕ → Type 0
  PutsNumber rest op k v = (way_of op (f.known k) ≡ Some false) × (computed op f.number (f.known k) ≡ Some v) × Expects (note_ahead rest) (after_to_w op (ToByte k) f) (same_w (one_sets (flags_in op) d))

  -- W is what the byte holds, on both machines, and only Z is set by it
  abbrev pub PutsSelf : List Row → ℕ → ℕ → Type 0
  PutsSelf rest k v = (v ≡ 0) × (f.held k ≡ true) × (d.w ≡ false) × Expects (note_ahead rest) (moved (ToByte k) f) (record d { w = false; z = false })

  abbrev pub PutsByte : List Row → FileOperation → ℕ → LiteralOperation → ℕ → Type 0
  PutsByte rest files.Movf k literals.Iorlw v = PutsSelf rest k v
  PutsByte rest files.Movf k new v = PutsSame rest files.Movf k new v
  PutsByte rest op k literals.Movlw v = PutsNumber rest op k v
  PutsByte rest op k new v = PutsSame rest op k new v

  abbrev pub PutsFor : List Row → FileOperation → Aim → LiteralOperation → ℕ → Type 0
  PutsFor rest op (ToByte k) new v = PutsByte rest op k new v
  PutsFor rest op aim new v = ⊥

  abbrev pub IsPut : List Row → LiteralOperation → ℕ → Sym → Type 0
  IsPut rest new v (syms.File op operand into.W) = PutsFor rest op (read operand) new v
  IsPut rest new v (syms.Label label) = Unit {0}
  IsPut rest new v s = ⊥

  -- ---- a result that goes to W in place of its byte
  abbrev pub NarrowsFor : List Row → FileOperation → Aim → Aim → Type 0
  NarrowsFor rest op (ToByte k) (ToByte j) =
      Uses op × IsSame (ToByte k) × (may_skip op ≡ false) × (j ≡ k) × ExpectsBy (carries op k) (note_ahead rest) (with_bits (flags_in op) (lost x.hidden (ToByte k) (without_zero f))) (other_w (other_byte k (both_set (flags_in op) d)))
  NarrowsFor rest op a b = ⊥

  abbrev pub IsNarrowed : List Row → Sym → Type 0
  IsNarrowed rest (syms.File op operand into.File) = NarrowsFor rest op (write operand) (read operand)
  IsNarrowed rest (syms.Label label) = Unit {0}
  IsNarrowed rest s = ⊥

  -- ---- a byte that is cleared where W, which is 0, would be stored
  -- W of the other machine needn't be 0. Z is set by one of them alone.
  abbrev pub ClearsFor : List Row → Operand → Type 0
  ClearsFor rest operand = (may_clear operand ≡ true) × (f.number ≡ Some 0) × Expects (note_ahead rest) (stored x.hidden (write operand) f) (same_byte (write operand) (record d { z = true }))

  abbrev pub IsCleared : List Row → Sym → Type 0
  IsCleared rest (syms.Movwf operand) = ClearsFor rest operand
  IsCleared rest (syms.Label label) = Unit {0}
  IsCleared rest s = ⊥

  -- ---- another byte that is read, of which the operand's is a copy
  abbrev pub ReadsFor : List Row → FileOperation → Aim → Aim → Type 0
  ReadsFor rest op (ToByte k) (ToByte i) = Uses op × (f.twin k i ≡ true) × IsSame (ToByte i) × Leads rest (way_of op (f.known k)) (after_to_w op (ToByte k) f) (same_w (both_set (flags_in op) d))
  ReadsFor rest op a b = ⊥

  -- the result would go to the operand's byte
  abbrev pub ReadsTo : List Row → FileOperation → Aim → Aim → Aim → Type 0
  ReadsTo rest op (ToByte k) (ToByte j) (ToByte i) =
      Uses op × (f.twin k i ≡ true) × IsSame (ToByte i) × (may_skip op ≡ false) × (j ≡ k) × ExpectsBy (carries op k) (note_ahead rest) (with_bits (flags_in op) (lost x.hidden (ToByte k) (without_zero f))) (other_w (other_byte k (both_set (flags_in op) d)))
  ReadsTo rest op a b c = ⊥

  abbrev pub TestsFor : List Row → BitOperation → ℕ → Aim → Aim → Type 0
  TestsFor rest op bit (ToByte k) (ToByte i) = (f.twin k i ≡ true) × IsSame (ToByte i) × Leads rest (way_of_bit op (f.known k) bit) f d
  TestsFor rest op bit a b = ⊥

  abbrev pub ReadsBit : List Row → BitOperation → ℕ → Aim → Aim → Type 0
  ReadsBit rest bit_ops.Btfsc bit a b = TestsFor rest bit_ops.Btfsc bit a b
  ReadsBit rest bit_ops.Btfss bit a b = TestsFor rest bit_ops.Btfss bit a b
  ReadsBit rest op bit a b = ⊥

  abbrev pub IsRead : List Row → ℕ → Sym → Type 0
  IsRead rest before (syms.File op operand into.W) = ReadsFor rest op (read operand) (read (operand_before before operand))
  IsRead rest before (syms.File op operand into.File) = ReadsTo rest op (write operand) (read operand) (read (operand_before before operand))
  IsRead rest before (syms.Bit op operand b) = ReadsBit rest op b (read operand) (read (operand_before before operand))
  IsRead rest before (syms.Label label) = Unit {0}
  IsRead rest before s = ⊥

  -- ---- a flag that is tested in the place of Z
  abbrev pub TestsZero : List Row → FlagName → Bool → ℕ → Type 0
  TestsZero rest flag turned b = (nat_eq b 2 ≡ true) × (f.zero ≡ true) × (shows_zero n.shown flag turned ≡ true) × Leads rest None f d

  abbrev pub IsTested : List Row → FlagName → Bool → Sym → Type 0
  IsTested rest flag turned (syms.Bit bit_ops.Btfsc (operands.Register Status) b) = TestsZero rest flag turned b
  IsTested rest flag turned (syms.Bit bit_ops.Btfss (operands.Register Status) b) = TestsZero rest flag turned b
  IsTested rest flag turned (syms.Label label) = Unit {0}
  IsTested rest flag turned s = ⊥

  abbrev pub IsRight : ℕ → List Row → Act → Sym → Type 0
  IsRight here rest Keeps s = IsKept rest s
  IsRight here rest Drops s = IsDropped here rest s
  IsRight here rest (Puts new v) s = IsPut rest new v s
  IsRight here rest Narrows s = IsNarrowed rest s
  IsRight here rest Clears s = IsCleared rest s
  IsRight here rest (Reads before) s = IsRead rest before s
  IsRight here rest (Tests flag turned) s = IsTested rest flag turned s

-- facts are of bytes that the other thread can't change, and what may differ is the thread's own
pub record IsNote (x : Lean) (inside : Bool) (n : Note) : Type 0 where
  pub held : (a : ℕ) → n.facts.held a ≡ true → is_near inside (owner x.layout a) ≡ true
  pub known : (a k : ℕ) → n.facts.known a ≡ Some k → is_near inside (owner x.layout a) ≡ true
  pub twin : (a b : ℕ) → n.facts.twin a b ≡ true → (is_near inside (owner x.layout a) ≡ true) × (is_near inside (owner x.layout b) ≡ true)
  pub bytes : (a : ℕ) → is_own inside (owner x.layout a) ≡ false → n.apart.bytes a ≡ false
  pub carry : (a : ℕ) → n.carry ≡ Some a → is_near inside (owner x.layout a) ≡ true

-- the instruction of a number
pub record IsRightAt (x : Lean) (own : BlockName) (j : ℕ) (s : Sym) (act : Act) (n : Note) : Type 0 where
  pub note : IsNote x (x.inside own) n
  pub goes : goes_on (drop j (x.rows own)) ≡ true
  pub right : IsRight x own (x.inside own) n (place_in (x.rows own) j) (drop (suc j) (x.rows own)) act s

-- nothing is known where a thread begins, and nothing differs but bytes
abbrev pub Begins : (ℕ → Bool) → Option (Option Note) → Type 0
Begins rest None = Unit {0}
Begins rest (Some None) = ⊥
Begins rest (Some (Some n)) = Weaker n.facts nothing_known × Claims n None no_ties × ((a : ℕ) → n.apart.bytes a ≡ false → rest a ≡ false)

abbrev pub BeginsAt : Lean → Option ℕ → Type 0
BeginsAt x None = Unit {0}
BeginsAt x (Some copy) = (x.inside (names.Copy copy) ≡ true) × Begins x.rest (note_ahead (x.rows (names.Copy copy)))

pub record IsSound (x : Lean) : Type 0 where
  pub right : (own : BlockName) (j : ℕ) (s : Sym) (act : Act) (n : Note) → slice_get (x.rows own) j ≡ Some (At s act (Some n)) → IsRightAt x own j s act n
  pub main : (x.inside (names.Copy 0) ≡ false) × Begins (λ a. false) (note_ahead (x.rows (names.Copy 0)))
  pub stands : lands (old_program x) (front (old_program x) (names.Copy 0)) ≡ true
  pub handler : BeginsAt x x.handler
  pub rest : (a : ℕ) → is_own true (owner x.layout a) ≡ false → x.rest a ≡ false
  -- what may differ while it waits
  pub ends : (own : BlockName) → (a : ℕ) → is_own (x.inside own) (owner x.layout a) ≡ false → (x.ends own).apart.bytes a ≡ false
