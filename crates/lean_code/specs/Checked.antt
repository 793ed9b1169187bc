-- A certificate as lists, and the test of it.
use Rattle.std.specs.Prelude.{◌≡◌, ℕ, suc, Bool, true, false, not, ◌&&◌, ◌||◌, nat_eq, nat_lt, if◌then◌else◌, List, [], ◌∷◌, drop, Option, Some, None, option_map}
use Rattle.std.specs.List.{AllZip}
use Rattle.sym_code.specs.Layout.{DataLayout, owner}
use Rattle.sym_code.specs.Programs.{same_name, label_from, front, lands}
use Rattle.sym_code.specs.declared.code.BitOperation.{BitOperation}
use Rattle.sym_code.specs.declared.code.BitOperation.TheVariants as bit_ops
use Rattle.sym_code.specs.declared.code.BlockName.{BlockName}
use Rattle.sym_code.specs.declared.code.BlockName.TheVariants as names
use Rattle.sym_code.specs.declared.code.FileOperation.{FileOperation}
use Rattle.sym_code.specs.declared.code.FileOperation.TheVariants as files
use Rattle.sym_code.specs.declared.code.Into.{Into}
use Rattle.sym_code.specs.declared.code.Into.TheVariants as into
use Rattle.sym_code.specs.declared.code.Label.{Label}
use Rattle.sym_code.specs.declared.code.Label.TheVariants as labels
use Rattle.sym_code.specs.declared.code.LiteralOperation.{LiteralOperation}
use Rattle.sym_code.specs.declared.code.LiteralOperation.TheVariants as literals
use Rattle.sym_code.specs.declared.code.Operand.{Operand}
use Rattle.sym_code.specs.declared.code.Operand.TheVariants as operands
use Rattle.sym_code.specs.declared.code.PlainOperation.{PlainOperation}
use Rattle.sym_code.specs.declared.code.PlainOperation.TheVariants as plains
use Rattle.sym_code.specs.declared.code.Register.TheVariants.{Status}
use Rattle.sym_code.specs.declared.code.Sym.{Sym}
use Rattle.sym_code.specs.declared.code.Sym.TheVariants as syms
use Rattle.sym_code.specs.declared.code.SymBlock.{SymBlock}
use Rattle.sym_code.specs.declared.code.Target.{Target}
use Rattle.sym_code.specs.declared.code.Target.TheVariants as targets
use Rattle.lean_code.specs.Computed.{computed, way_of, way_of_bit}
use Rattle.lean_code.specs.Rows.{Facts, Apart, Note, nothing_known, Act, Keeps, Drops, Puts, Narrows, Clears, Reads, Tests, FlagName, Shown, Unshown, may_clear, operand_before, Row, At, olds, puts, is_label, place_in, drops_first, keeps_first, goes_on, Lean, old_program}
use Rattle.lean_code.specs.Changes.{Ties, no_ties, carries, shows, reports, left, sees, shows_zero, leaves_carry, same_carry, stays, with_bits, Aim, ToByte, Through, aim, is_own, is_near, lost, without_zero, moved, after_to_w, number_at, learned, after_to_file, stored, flags_in, uses_w, uses_c, may_skip, literal_flags, literal_uses, is_retlw, literal_for, both_set, one_sets, same_w, other_w, same_byte, other_byte, one_moves, one_stores, is_number, one_works, one_writes, one_clears}
use Rattle.lean_code.specs.Right as right
use Rattle.lean_code.specs.Right.{flag_apart, with_flag}

-- ---- lists
abbrev pub among : ℕ → List ℕ → Bool
among a [] = false
among a (b ∷ bs) = nat_eq a b || among a bs

abbrev pub all_of : (ℕ → Bool) → List ℕ → Bool
all_of test [] = true
all_of test (b ∷ bs) = test b && all_of test bs

-- a general byte and the number that it holds
pub record KnownByte : Type 0 where
  pub byte : ℕ
  pub number : ℕ

abbrev pub number_in : ℕ → List KnownByte → Option ℕ
number_in a [] = None
number_in a (b ∷ bs) = if nat_eq a b.byte then Some b.number else number_in a bs

-- among the bytes that are copies, each with the byte of which it is one
abbrev pub is_twin : List KnownByte → ℕ → ℕ → Bool
is_twin twins a b = is_number (number_in a twins) b

pub record ListedFacts : Type 0 where
  pub number : Option ℕ
  pub held : List ℕ
  pub zero : Bool
  pub known : List KnownByte
  -- bytes that are copies, each with the byte of which it is one
  pub twins : List KnownByte
  pub carry_bit : Bool
  pub zero_bit : Bool

pub record ListedApart : Type 0 where
  pub w : Bool
  pub z : Bool
  pub dc : Bool
  pub c : Bool
  pub bytes : List ℕ

pub record ListedNote : Type 0 where
  pub facts : ListedFacts
  pub apart : ListedApart
  pub carry : Option ℕ
  pub shown : Shown

pub data ListedRow : Type 0 where
  Listed : Sym → Act → Option ListedNote → ListedRow

pub record ListedBlock : Type 0 where
  pub name : BlockName
  pub rows : List ListedRow
  -- it runs inside the handler
  pub inside : Bool
  -- what is known where it returns
  pub ends : ListedNote
  -- bytes that may differ in functions that wait for it
  pub outer : List ℕ

pub record Sketch : Type 0 where
  pub blocks : List ListedBlock
  pub handler : Option ℕ
  pub layout : DataLayout
  -- bytes of the handler's that may differ while it doesn't run
  pub rest : List ℕ
  -- bytes that are never reached through FSR
  pub hidden : ℕ → Bool

-- ---- what the lists say
abbrev pub facts_in : ListedFacts → Facts
facts_in f = record { number = f.number; held = λ a. among a f.held; zero = f.zero; known = λ a. number_in a f.known; twin = is_twin f.twins; carry_bit = f.carry_bit; zero_bit = f.zero_bit }

abbrev pub apart_in : ListedApart → Apart
apart_in d = record { w = d.w; z = d.z; dc = d.dc; c = d.c; bytes = λ a. among a d.bytes }

abbrev pub note_in : ListedNote → Note
note_in n = record { facts = facts_in n.facts; apart = apart_in n.apart; carry = n.carry; shown = n.shown }

abbrev pub row_in : ListedRow → Row
row_in (Listed s act n) = At s act (option_map note_in n)

abbrev pub rows_in : List ListedRow → List Row
rows_in [] = []
rows_in (row ∷ rows) = row_in row ∷ rows_in rows

abbrev pub no_note : ListedNote
no_note = record { facts = record { number = None; held = []; zero = false; known = []; twins = []; carry_bit = false; zero_bit = false }; apart = record { w = true; z = true; dc = true; c = true; bytes = [] }; carry = None; shown = Unshown }

-- a block that isn't there
abbrev pub no_block : ListedBlock
no_block = record { name = names.Start; rows = []; inside = false; ends = no_note; outer = [] }

-- of two blocks of one name the first counts
abbrev pub block_in : List ListedBlock → BlockName → ListedBlock
block_in [] name = no_block
block_in (b ∷ bs) name = if same_name b.name name then b else block_in bs name

abbrev pub lean_of : Sketch → (Bool → ℕ) → (BlockName → ℕ) → (BlockName → ℕ) → Lean
lean_of k limit old_page new_page = record {
  rows = λ name. rows_in (block_in k.blocks name).rows;
  handler = k.handler;
  layout = k.layout;
  limit = limit;
  old_page = old_page;
  new_page = new_page;
  inside = λ name. (block_in k.blocks name).inside;
  ends = λ name. note_in (block_in k.blocks name).ends;
  outer = λ name a. among a (block_in k.blocks name).outer;
  rest = λ a. among a k.rest;
  hidden = k.hidden;
}

-- ---- tests
abbrev pub gives_number : Option ℕ → Option ℕ → Bool
gives_number has None = true
gives_number has (Some n) = is_number has n

abbrev pub gives_known : (ℕ → Option ℕ) → List KnownByte → Bool
gives_known has [] = true
gives_known has (b ∷ bs) = is_number (has b.byte) b.number && gives_known has bs

abbrev pub gives_twins : (ℕ → ℕ → Bool) → List KnownByte → Bool
gives_twins has [] = true
gives_twins has (b ∷ bs) = has b.byte b.number && gives_twins has bs

abbrev pub gives_bits : Facts → ListedFacts → Bool
gives_bits f n = (not n.carry_bit || f.carry_bit) && (not n.zero_bit || f.zero_bit)

-- the facts are enough for those that are listed
abbrev pub gives : Facts → ListedFacts → Bool
gives f n = gives_number f.number n.number && (all_of f.held n.held && ((not n.zero || f.zero) && (gives_known f.known n.known && (gives_twins f.twin n.twins && gives_bits f n))))

abbrev pub covers_flags : ListedApart → Apart → Bool
covers_flags b d = (b.w || not d.w) && ((b.z || not d.z) && ((b.dc || not d.dc) && (b.c || not d.c)))

-- each byte of the candidates that may differ is listed
abbrev pub covers_bytes : List ℕ → (ℕ → Bool) → List ℕ → Bool
covers_bytes listed differs candidates = all_of (λ a. not (differs a) || among a listed) candidates

-- no more is said to be carried than is
abbrev pub same_number : Option ℕ → Option ℕ → Bool
same_number None carry = true
same_number (Some a) carry = is_number carry a

abbrev pub claims : ListedNote → Option ℕ → Ties → Bool
claims n number t = same_number n.carry t.carry && shows n.shown number t.shown

abbrev pub expects_by : Ties → Option (Option ListedNote) → Facts → Apart → List ℕ → Bool
expects_by ties None f d candidates = true
expects_by ties (Some None) f d candidates = false
expects_by ties (Some (Some n)) f d candidates = gives f n.facts && (covers_flags n.apart d && (covers_bytes n.apart.bytes d.bytes candidates && claims n f.number ties))

abbrev pub expects : Option (Option ListedNote) → Facts → Apart → List ℕ → Bool
expects o f d candidates = expects_by no_ties o f d candidates

abbrev pub ahead : List ListedRow → Option (Option ListedNote)
ahead [] = None
ahead (Listed s act n ∷ rows) = if is_label s then ahead rows else Some n

abbrev pub past : List ListedRow → List ListedRow
past [] = []
past (Listed s act n ∷ rows) = if is_label s then past rows else rows

-- Some way is known to be gone, or both may be.
abbrev pub leads : List ListedRow → Option Bool → Facts → Apart → List ℕ → Bool
leads rest None f d candidates = expects (ahead rest) f d candidates && (expects (ahead (past rest)) f d candidates && keeps_first (rows_in rest))
leads rest (Some false) f d candidates = expects (ahead rest) f d candidates
leads rest (Some true) f d candidates = expects (ahead (past rest)) f d candidates && keeps_first (rows_in rest)

-- with these ties where it runs on, and with those where it skips
abbrev pub passes_both : Ties → Ties → List ListedRow → Facts → Apart → List ℕ → Bool
passes_both on over rest f d candidates = expects_by on (ahead rest) f d candidates && (expects_by over (ahead (past rest)) f d candidates && drops_first (rows_in rest))

abbrev pub passes : Ties → List ListedRow → Option Bool → Facts → Apart → List ℕ → Bool
passes ties rest None f d candidates = passes_both ties ties rest f d candidates
passes ties rest (Some false) f d candidates = expects_by ties (ahead rest) f d candidates
passes ties rest (Some true) f d candidates = expects_by ties (ahead (past rest)) f d candidates && drops_first (rows_in rest)

abbrev pub comes : Option (Option ListedNote) → ListedNote → List ℕ → Bool
comes None k across = true
comes (Some None) k across = false
comes (Some (Some n)) k across =
    gives (facts_in k.facts) n.facts && (covers_flags n.apart (apart_in k.apart) && (all_of (λ a. among a n.apart.bytes) k.apart.bytes && (all_of (λ a. among a n.apart.bytes) across && claims n None no_ties)))

abbrev pub enters : Option (Option ListedNote) → ListedNote → Bool
enters None n = true
enters (Some None) n = false
enters (Some (Some k)) n = gives (facts_in n.facts) k.facts && (covers_flags k.apart (apart_in n.apart) && claims k None no_ties)

-- what is read may not differ
abbrev pub same : (ℕ → Bool) → Aim → List ℕ → List ℕ → Bool
same hidden (ToByte k) differs outer = not (among k differs) && not (among k outer)
same hidden Through differs outer = all_of hidden differs && all_of hidden outer
same hidden aim differs outer = true

abbrev pub with_aim : Aim → List ℕ → List ℕ
with_aim (ToByte k) bytes = k ∷ bytes
with_aim aim bytes = bytes

abbrev pub noted : List ListedRow → Option ℕ → Option (Option ListedNote)
noted rows None = None
noted rows (Some i) = ahead (drop i rows)

abbrev pub same_side : Bool → Bool → Bool
same_side true b = b
same_side false b = not b

abbrev pub same_operation : LiteralOperation → LiteralOperation → Bool
same_operation literals.Addlw literals.Addlw = true
same_operation literals.Andlw literals.Andlw = true
same_operation literals.Iorlw literals.Iorlw = true
same_operation literals.Movlw literals.Movlw = true
same_operation literals.Sublw literals.Sublw = true
same_operation literals.Xorlw literals.Xorlw = true
same_operation a b = false

abbrev pub is_operation : Option LiteralOperation → LiteralOperation → Bool
is_operation None new = false
is_operation (Some op) new = same_operation op new

-- a label that is found stands where the code that is made stands already
abbrev pub is_here : List ListedRow → ℕ → Option ℕ → Bool
is_here rows here None = true
is_here rows here (Some i) = nat_eq (place_in (rows_in rows) i) here

-- it is known not to skip
abbrev pub runs_on : Option Bool → Bool
runs_on None = false
runs_on (Some skips) = not skips

-- of a row of a block, with what is said before it
module _ (k : Sketch) (block : ListedBlock) (n : ListedNote) where
  abbrev pub f : Facts
  f = facts_in n.facts

  abbrev pub d : Apart
  d = apart_in n.apart

  abbrev pub here_bytes : List ℕ
  here_bytes = n.apart.bytes

  abbrev pub ties : Ties
  ties = record { carry = n.carry; shown = n.shown }

  abbrev pub ties_but : ℕ → Ties
  ties_but i = record { carry = right.carry_but i n.carry; shown = n.shown }

  abbrev pub ties_left : Option ℕ → Bool → Ties
  ties_left carry kept = record { carry = carry; shown = left kept n.shown }

  abbrev pub ties_seen : ℕ → Bool → Ties
  ties_seen b v = record { carry = n.carry; shown = sees f d b v n.shown }

  abbrev pub read : Operand → Aim
  read operand = aim k.layout block.inside false operand

  abbrev pub write : Operand → Aim
  write operand = aim k.layout block.inside true operand

  abbrev pub is_same : Aim → Bool
  is_same a = same k.hidden a n.apart.bytes block.outer

  abbrev pub uses : FileOperation → Bool
  uses op = not (uses_w op && n.apart.w) && not (uses_c op && n.apart.c)

  abbrev pub keeps_file : List ListedRow → FileOperation → Operand → Into → Bool
  keeps_file rest op operand into.W = uses op && (is_same (read operand) && leads rest (way_of op (number_at (read operand) f)) (after_to_w op (read operand) f) (same_w (both_set (flags_in op) d)) here_bytes)
  keeps_file rest op operand into.File =
      uses op && (is_same (write operand) && leads rest (way_of op (number_at (write operand) f)) (after_to_file k.hidden op (write operand) f) (same_byte (write operand) (both_set (flags_in op) d)) here_bytes)

  abbrev pub keeps_bit : List ListedRow → BitOperation → Operand → ℕ → Bool
  keeps_bit rest bit_ops.Bcf (operands.Register Status) b = expects (ahead rest) (without_zero f) (with_flag b false d) here_bytes
  keeps_bit rest bit_ops.Bsf (operands.Register Status) b = expects (ahead rest) (without_zero f) (with_flag b false d) here_bytes
  keeps_bit rest op (operands.Register Status) b = not (flag_apart b d) && leads rest None f d here_bytes
  keeps_bit rest bit_ops.Bcf operand b = is_same (write operand) && expects (ahead rest) (lost k.hidden (write operand) f) d here_bytes
  keeps_bit rest bit_ops.Bsf operand b = is_same (write operand) && expects (ahead rest) (lost k.hidden (write operand) f) d here_bytes
  keeps_bit rest op operand b = is_same (read operand) && leads rest (way_of_bit op (number_at (read operand) f) b) f d here_bytes

  abbrev pub keeps_plain : List ListedRow → PlainOperation → Bool
  keeps_plain rest plains.Clrw = expects (ahead rest) (record f { number = Some 0; held = λ a. false; zero = true }) (record d { w = false; z = false }) here_bytes
  keeps_plain rest plains.Nop = expects (ahead rest) f d here_bytes
  keeps_plain rest plains.Retfie = true
  keeps_plain rest plains.Return = gives f block.ends.facts && (covers_flags block.ends.apart d && covers_bytes block.ends.apart.bytes d.bytes here_bytes)

  abbrev pub at_label : Label → Option (Option ListedNote)
  at_label label = noted block.rows (label_from (olds (rows_in block.rows)) label 0)

  abbrev pub keeps_goto : Target → Bool
  keeps_goto (targets.Label labels.Halt) = true
  keeps_goto (targets.Label labels.Restore) = block.inside && all_of (λ a. among a k.rest) here_bytes
  keeps_goto (targets.Label label) = expects (at_label label) f d here_bytes
  keeps_goto (targets.Block name) = false

  abbrev pub keeps_call : List ListedRow → Target → Bool
  keeps_call rest (targets.Label label) = false
  keeps_call rest (targets.Block name) =
      same_side (block_in k.blocks name).inside block.inside && (enters (ahead (block_in k.blocks name).rows) n && (comes (ahead rest) (block_in k.blocks name).ends here_bytes
      && (all_of (λ a. among a (block_in k.blocks name).outer) here_bytes && all_of (λ a. among a (block_in k.blocks name).outer) block.outer)))

  abbrev pub is_kept : List ListedRow → Sym → Bool
  is_kept rest (syms.File op operand to) = keeps_file rest op operand to
  is_kept rest (syms.Movwf operand) = not n.apart.w && expects (ahead rest) (stored k.hidden (write operand) f) (same_byte (write operand) d) here_bytes
  is_kept rest (syms.Clrf operand) = expects (ahead rest) (learned k.hidden (write operand) (Some 0) (without_zero f)) (same_byte (write operand) (record d { z = false })) here_bytes
  is_kept rest (syms.Bit op operand b) = keeps_bit rest op operand b
  is_kept rest (syms.Literal op value) = not (is_retlw op) && (not (literal_uses op && n.apart.w) && expects (ahead rest) (right.after_literal f op value) (same_w (both_set (literal_flags op) d)) here_bytes)
  is_kept rest (syms.Plain op) = keeps_plain rest op
  is_kept rest (syms.Call target) = keeps_call rest target
  is_kept rest (syms.Goto target) = keeps_goto target
  is_kept rest (syms.Label label) = true
  is_kept rest (syms.SelectBank bit on) = expects (ahead rest) f d here_bytes
  is_kept rest (syms.SelectPage bit target) = expects (ahead rest) f d here_bytes
  is_kept rest (syms.Table table root) = false

  abbrev pub drops_carried : List ListedRow → ℕ → ℕ → Bool → Bool
  drops_carried rest i c true = expects_by (ties_left None (f.held i)) (ahead rest) (moved (ToByte i) f) (record d { w = false; z = not (reports n.shown) }) here_bytes
  drops_carried rest i c false = expects_by (ties_left (Some c) (f.held i)) (ahead rest) (moved (ToByte i) f) (one_moves f i d) here_bytes

  abbrev pub drops_move : List ListedRow → ℕ → Option ℕ → Bool
  drops_move rest i None = expects_by (ties_left None (f.held i)) (ahead rest) (moved (ToByte i) f) (one_moves f i d) here_bytes
  drops_move rest i (Some c) = drops_carried rest i c (nat_eq c i)

  abbrev pub drops_to_w : List ListedRow → FileOperation → Aim → Bool
  drops_to_w rest files.Movf (ToByte i) = drops_move rest i n.carry
  drops_to_w rest op (ToByte i) = passes (ties_left n.carry (stays op (f.known i) f)) rest (way_of op (f.known i)) (after_to_w op (ToByte i) f) (same_carry (leaves_carry op (f.known i) n.shown) (one_works op (f.known i) f d)) here_bytes
  drops_to_w rest op a = false

  abbrev pub drops_to_file : List ListedRow → FileOperation → Aim → Bool
  drops_to_file rest op (ToByte i) = passes (ties_but i) rest (way_of op (f.known i)) (after_to_file k.hidden op (ToByte i) f) (one_writes op i f d) (i ∷ here_bytes)
  drops_to_file rest op a = false

  abbrev pub drops_store : List ListedRow → Aim → Bool
  drops_store rest (ToByte i) = expects_by (ties_but i) (ahead rest) (stored k.hidden (ToByte i) f) (one_stores f i d) (i ∷ here_bytes)
  drops_store rest a = false

  abbrev pub drops_clear : List ListedRow → Aim → Bool
  drops_clear rest (ToByte i) = expects_by (ties_but i) (ahead rest) (learned k.hidden (ToByte i) (Some 0) (without_zero f)) (one_clears f i d) (i ∷ here_bytes)
  drops_clear rest a = false

  abbrev pub drops_change : List ListedRow → Aim → Bool
  drops_change rest (ToByte i) = expects_by (ties_but i) (ahead rest) (lost k.hidden (ToByte i) f) (other_byte i d) (i ∷ here_bytes)
  drops_change rest a = false

  abbrev pub drops_test : List ListedRow → BitOperation → Aim → ℕ → Bool
  drops_test rest op (ToByte i) b = passes ties rest (way_of_bit op (f.known i) b) f d here_bytes
  drops_test rest op a b = false

  abbrev pub drops_bit : List ListedRow → BitOperation → Operand → ℕ → Bool
  drops_bit rest bit_ops.Bcf (operands.Register Status) b = nat_lt b 3 && expects_by ties (ahead rest) (without_zero f) (with_flag b true d) here_bytes
  drops_bit rest bit_ops.Bsf (operands.Register Status) b = nat_lt b 3 && expects_by ties (ahead rest) (without_zero f) (with_flag b true d) here_bytes
  drops_bit rest op (operands.Register Status) b = passes_both (ties_seen b (not (right.skips_at op))) (ties_seen b (right.skips_at op)) rest f d here_bytes
  drops_bit rest bit_ops.Bcf operand b = drops_change rest (write operand)
  drops_bit rest bit_ops.Bsf operand b = drops_change rest (write operand)
  drops_bit rest op operand b = drops_test rest op (read operand) b

  abbrev pub drops_plain : List ListedRow → PlainOperation → Bool
  drops_plain rest plains.Clrw = expects_by (ties_left n.carry false) (ahead rest) (record f { number = Some 0; held = λ a. false; zero = true }) (record d { w = true; z = true }) here_bytes
  drops_plain rest plains.Nop = expects_by ties (ahead rest) f d here_bytes
  drops_plain rest op = false

  abbrev pub drops_goto : ℕ → Target → Bool
  drops_goto here (targets.Label (labels.Inner l)) = expects_by ties (at_label (labels.Inner l)) f d here_bytes && is_here block.rows here (label_from (olds (rows_in block.rows)) (labels.Inner l) 0)
  drops_goto here target = false

  abbrev pub is_left_out : ℕ → List ListedRow → Sym → Bool
  is_left_out here rest (syms.File op operand into.W) = drops_to_w rest op (read operand)
  is_left_out here rest (syms.File op operand into.File) = drops_to_file rest op (write operand)
  is_left_out here rest (syms.Movwf operand) = drops_store rest (write operand)
  is_left_out here rest (syms.Clrf operand) = drops_clear rest (write operand)
  is_left_out here rest (syms.Bit op operand b) = drops_bit rest op operand b
  is_left_out here rest (syms.Literal op value) = not (is_retlw op) && expects_by (ties_left n.carry false) (ahead rest) (right.after_literal f op value) (right.dropped_literal f d op value) here_bytes
  is_left_out here rest (syms.Plain op) = drops_plain rest op
  is_left_out here rest (syms.Goto target) = drops_goto here target
  is_left_out here rest s = false

  abbrev pub puts_same : List ListedRow → FileOperation → ℕ → LiteralOperation → ℕ → Bool
  puts_same rest op i new v =
      is_operation (literal_for op) new && (is_number (f.known i) v && (not (uses_w op && n.apart.w)
      && expects (ahead rest) (after_to_w op (ToByte i) f) (right.literal_apart f d op i) here_bytes))

  abbrev pub puts_number : List ListedRow → FileOperation → ℕ → ℕ → Bool
  puts_number rest op i v = runs_on (way_of op (f.known i)) && (is_number (computed op f.number (f.known i)) v && expects (ahead rest) (after_to_w op (ToByte i) f) (same_w (one_sets (flags_in op) d)) here_bytes)

  abbrev pub puts_self : List ListedRow → ℕ → ℕ → Bool
  puts_self rest i v = nat_eq v 0 && (f.held i && (not n.apart.w && expects (ahead rest) (moved (ToByte i) f) (record d { w = false; z = false }) here_bytes))

  abbrev pub puts_byte : List ListedRow → FileOperation → ℕ → LiteralOperation → ℕ → Bool
  puts_byte rest files.Movf i literals.Iorlw v = puts_self rest i v
  puts_byte rest files.Movf i new v = puts_same rest files.Movf i new v
  puts_byte rest op i literals.Movlw v = puts_number rest op i v
  puts_byte rest op i new v = puts_same rest op i new v

  abbrev pub puts_for : List ListedRow → FileOperation → Aim → LiteralOperation → ℕ → Bool
  puts_for rest op (ToByte i) new v = puts_byte rest op i new v
  puts_for rest op a new v = false

  abbrev pub is_put : List ListedRow → LiteralOperation → ℕ → Sym → Bool
  is_put rest new v (syms.File op operand into.W) = puts_for rest op (read operand) new v
  is_put rest new v (syms.Label label) = true
  is_put rest new v s = false

  abbrev pub narrows_for : List ListedRow → FileOperation → Aim → Aim → Bool
  narrows_for rest op (ToByte i) (ToByte j) =
      uses op && (is_same (ToByte i) && (not (may_skip op) && (nat_eq j i
      && expects_by (carries op i) (ahead rest) (with_bits (flags_in op) (lost k.hidden (ToByte i) (without_zero f))) (other_w (other_byte i (both_set (flags_in op) d))) (i ∷ here_bytes))))
  narrows_for rest op a b = false

  abbrev pub is_narrowed : List ListedRow → Sym → Bool
  is_narrowed rest (syms.File op operand into.File) = narrows_for rest op (write operand) (read operand)
  is_narrowed rest (syms.Label label) = true
  is_narrowed rest s = false

  abbrev pub clears_for : List ListedRow → Operand → Bool
  clears_for rest operand = may_clear operand && (is_number f.number 0 && expects (ahead rest) (stored k.hidden (write operand) f) (same_byte (write operand) (record d { z = true })) here_bytes)

  abbrev pub is_cleared : List ListedRow → Sym → Bool
  is_cleared rest (syms.Movwf operand) = clears_for rest operand
  is_cleared rest (syms.Label label) = true
  is_cleared rest s = false

  abbrev pub reads_for : List ListedRow → FileOperation → Aim → Aim → Bool
  reads_for rest op (ToByte i) (ToByte j) =
      uses op && (is_twin n.facts.twins i j && (is_same (ToByte j) && leads rest (way_of op (f.known i)) (after_to_w op (ToByte i) f) (same_w (both_set (flags_in op) d)) here_bytes))
  reads_for rest op a b = false

  abbrev pub reads_to : List ListedRow → FileOperation → Aim → Aim → Aim → Bool
  reads_to rest op (ToByte i) (ToByte h) (ToByte j) =
      uses op && (is_twin n.facts.twins i j && (is_same (ToByte j) && (not (may_skip op) && (nat_eq h i
      && expects_by (carries op i) (ahead rest) (with_bits (flags_in op) (lost k.hidden (ToByte i) (without_zero f))) (other_w (other_byte i (both_set (flags_in op) d))) (i ∷ here_bytes)))))
  reads_to rest op a b c = false

  abbrev pub tests_for : List ListedRow → BitOperation → ℕ → Aim → Aim → Bool
  tests_for rest op bit (ToByte i) (ToByte j) = is_twin n.facts.twins i j && (is_same (ToByte j) && leads rest (way_of_bit op (f.known i) bit) f d here_bytes)
  tests_for rest op bit a b = false

  abbrev pub reads_bit : List ListedRow → BitOperation → ℕ → Aim → Aim → Bool
  reads_bit rest bit_ops.Btfsc bit a b = tests_for rest bit_ops.Btfsc bit a b
  reads_bit rest bit_ops.Btfss bit a b = tests_for rest bit_ops.Btfss bit a b
  reads_bit rest op bit a b = false

  abbrev pub is_read : List ListedRow → ℕ → Sym → Bool
  is_read rest before (syms.File op operand into.W) = reads_for rest op (read operand) (read (operand_before before operand))
  is_read rest before (syms.File op operand into.File) = reads_to rest op (write operand) (read operand) (read (operand_before before operand))
  is_read rest before (syms.Bit op operand b) = reads_bit rest op b (read operand) (read (operand_before before operand))
  is_read rest before (syms.Label label) = true
  is_read rest before s = false

  abbrev pub tests_zero : List ListedRow → FlagName → Bool → ℕ → Bool
  tests_zero rest flag turned b = nat_eq b 2 && (f.zero && (shows_zero n.shown flag turned && leads rest None f d here_bytes))

  abbrev pub is_tested : List ListedRow → FlagName → Bool → Sym → Bool
  is_tested rest flag turned (syms.Bit bit_ops.Btfsc (operands.Register Status) b) = tests_zero rest flag turned b
  is_tested rest flag turned (syms.Bit bit_ops.Btfss (operands.Register Status) b) = tests_zero rest flag turned b
  is_tested rest flag turned (syms.Label label) = true
  is_tested rest flag turned s = false

  abbrev pub is_right_row : ℕ → List ListedRow → Act → Sym → Bool
  is_right_row here rest Keeps s = is_kept rest s
  is_right_row here rest Drops s = is_left_out here rest s
  is_right_row here rest (Puts new v) s = is_put rest new v s
  is_right_row here rest Narrows s = is_narrowed rest s
  is_right_row here rest Clears s = is_cleared rest s
  is_right_row here rest (Reads before) s = is_read rest before s
  is_right_row here rest (Tests flag turned) s = is_tested rest flag turned s

-- ---- notes
abbrev pub all_known : (ℕ → Bool) → List KnownByte → Bool
all_known test [] = true
all_known test (b ∷ bs) = test b.byte && all_known test bs

abbrev pub all_twins : (ℕ → Bool) → List KnownByte → Bool
all_twins test [] = true
all_twins test (b ∷ bs) = (test b.byte && test b.number) && all_twins test bs

abbrev pub carries_near : DataLayout → Bool → Option ℕ → Bool
carries_near l inside None = true
carries_near l inside (Some a) = is_near inside (owner l a)

-- facts are of bytes that the other thread can't change, and what may differ is the thread's own
abbrev pub is_note : DataLayout → Bool → ListedNote → Bool
is_note l inside n =
    all_of (λ a. is_near inside (owner l a)) n.facts.held && (all_known (λ a. is_near inside (owner l a)) n.facts.known && (all_twins (λ a. is_near inside (owner l a)) n.facts.twins && (all_of (λ a. is_own inside (owner l a)) n.apart.bytes && carries_near l inside n.carry)))

abbrev pub is_right_at : Sketch → ListedBlock → ℕ → ListedRow → List ListedRow → Bool
is_right_at k block j (Listed s act None) rest = true
is_right_at k block j (Listed s act (Some n)) rest =
    is_note k.layout block.inside n && (goes_on (At s act None ∷ rows_in rest) && is_right_row k block n (place_in (rows_in block.rows) j) rest act s)

abbrev pub are_right : Sketch → ListedBlock → ℕ → List ListedRow → Bool
are_right k block j [] = true
are_right k block j (row ∷ rest) = is_right_at k block j row rest && are_right k block (suc j) rest

-- each instruction of a block
abbrev pub is_right_block : Sketch → ListedBlock → Bool
is_right_block k block = are_right k block 0 block.rows && all_of (λ a. is_own block.inside (owner k.layout a)) block.ends.apart.bytes

-- of each name the block that counts
abbrev pub are_right_blocks : Sketch → List ListedBlock → Bool
are_right_blocks k [] = true
are_right_blocks k (b ∷ bs) = is_right_block k (block_in k.blocks b.name) && are_right_blocks k bs

-- where a thread begins nothing is known, and only these bytes may differ
abbrev pub begins : List ℕ → Option (Option ListedNote) → Bool
begins rest None = true
begins rest (Some None) = false
begins rest (Some (Some n)) = gives nothing_known n.facts && (all_of (λ a. among a n.apart.bytes) rest && claims n None no_ties)

abbrev pub begins_at : Sketch → Option ℕ → Bool
begins_at k None = true
begins_at k (Some copy) = (block_in k.blocks (names.Copy copy)).inside && begins k.rest (ahead (block_in k.blocks (names.Copy copy)).rows)

-- The test of a certificate.
abbrev pub is_lean : Sketch → Bool
is_lean k =
    are_right_blocks k k.blocks && ((not (block_in k.blocks (names.Copy 0)).inside && begins [] (ahead (block_in k.blocks (names.Copy 0)).rows))
    && (lands (old_program (lean_of k (λ i. 0) (λ i. 0) (λ i. 0))) (front (old_program (lean_of k (λ i. 0) (λ i. 0) (λ i. 0))) (names.Copy 0))
    && (begins_at k k.handler && all_of (λ a. is_own true (owner k.layout a)) k.rest)))

-- One block is given, and another one made, by these rows.
pub record IsBlockOf (k : Sketch) (given made : SymBlock) : Type 0 where
  pub name : made.name ≡ given.name
  pub before : given.list.items ≡ olds (rows_in (block_in k.blocks given.name).rows)
  pub after : made.list.items ≡ puts (rows_in (block_in k.blocks given.name).rows)

pub record IsLeanOf (k : Sketch) (given made : List SymBlock) : Type 0 where
  pub tested : is_lean k ≡ true
  pub blocks : AllZip (IsBlockOf k) given made

-- what the test tells
abbrev pub TestIsRight : Type 0
TestIsRight = (k : Sketch) → is_lean k ≡ true → (limit : Bool → ℕ) (old_page new_page : BlockName → ℕ) → right.IsSound (lean_of k limit old_page new_page)
