-- Where objects and frames end below 100h, no block names anything from there on, and no select sets RP1.
use Rattle.std.proofs.Common.{◌≡◌, ℕ, zero, suc, ◌+◌, ◌-◌, ◌<◌, ◌≤◌, Bool, true, false, if◌then◌else◌, List, [], ◌∷◌, map, length, get_or, Option, Some, None, refl, sym, subst, arith}
use Rattle.std.specs.List.{AllZip}
use Rattle.std.specs.Prelude.{nat_lt, slice_get, IsSome}
use Rattle.std.proofs.lemmas.Option.{none-some, same_Some, cond_some, slice_get-get_or}
use Rattle.c_typed.specs.Trees.{Program}
use Rattle.c_typed.specs.Views.{program_of}
use Rattle.c_typed.specs.declared.program.Typed.{Typed}
use Rattle.call_graph.specs.Numbers.{handler_at}
use Rattle.call_graph.specs.declared.types.FnCopy.{FnCopy}
use Rattle.core_code.specs.declared.code.Byte.TheVariants as bytes
use Rattle.core_code.specs.declared.code.CoreProgram.{CoreProgram}
use Rattle.bank_page.specs.Near.{IsNear, AreNear, KeepNear}
use Rattle.bank_page.proofs.Nearby.{all_near_made}
use Rattle.code_place.specs.Addresses.{frame_byte, file_address}
use Rattle.code_place.specs.Layouts.{layout_of}
use Rattle.lean_code.specs.Rows.{Keeps, Drops, Puts, Narrows, narrowed, Clears, cleared, Reads, Tests, FlagName, tests_flag, operand_before, reads_before, Row, At, olds, puts}
use Rattle.lower_stmt.specs.Bodies.{first_bytes}
use Rattle.lower_stmt.specs.FirstBytes.{items_of}
use Rattle.lower_stmt.specs.Programs.{core_of}
use Rattle.pic_map.specs.MapView.{object_of, frame_of}
use Rattle.pic_map.specs.declared.FrameLine.{FrameLine}
use Rattle.pic_map.specs.declared.Placed.{Placed}
use Rattle.program_code.proofs.LeanerBlocks.{blocks_are_leaner}
use Rattle.program_code.proofs.Nearby.{placed_stay_near}
use Rattle.program_code.specs.Leaner.{IsLeaner}
use Rattle.program_code.specs.Passed.{AreBlocks}
use Rattle.program_code.specs.There.{HaveOperands}
use Rattle.program_code.specs.Translated.{HasCalls}
use Rattle.ram_place.specs.Placement.{IsPlacing}
use Rattle.sym_code.specs.Layout.{all_near}
use Rattle.sym_code.specs.declared.code.Operand.{Operand}
use Rattle.sym_code.specs.declared.code.Operand.TheVariants as operands
use Rattle.sym_code.specs.declared.code.Sym.{Sym}
use Rattle.sym_code.specs.declared.code.Sym.TheVariants as syms
use Rattle.sym_code.specs.declared.code.SymBlock.{SymBlock}
use Rattle.headline_trace.specs.Addressed.{BlocksHaveOperands, BlocksAreNear, WholeKeepNear}
use Rattle.headline_trace.proofs.Addressed.{block_there, operands_have_addresses}
use Rattle.headline_trace.proofs.Statics.{some_is}

-- ---- leaner blocks
some_at : (o : Option ℕ) → IsSome o → (at : ℕ) × (o ≡ Some at)
some_at None h = absurd (cc)
some_at (Some at) h = (at, refl)

module _ (placed : Placed) where
  abbrev Near : Operand → Type 0
  Near operand = (at : ℕ) → file_address placed operand ≡ Some at → at < 0x100

  -- a byte before one of a frame stands below that
  frame_near : (line : Option FrameLine) (o n : ℕ) → IsSome (frame_byte line o) → ((at : ℕ) → frame_byte line o ≡ Some at → at < 0x100) → (at : ℕ) → frame_byte line (o - n) ≡ Some at → at < 0x100
  frame_near None o n has near at q = absurd (none-some at q)
  frame_near (Some line) o n has near at q =
      let there = some_at (frame_byte (Some line) o) has in
      let low = near there.0 there.1 in
      let whole = (cond_some (nat_lt (line.address + o) 512) (line.address + o) there.0 there.1).1 in
      let same = (cond_some (nat_lt (line.address + (o - n)) 512) (line.address + (o - n)) at q).1 in
      omega (arith, low, whole, same)

  operand_near : (n : ℕ) (operand : Operand) → IsSome (file_address placed operand) → Near operand → Near (operand_before n operand)
  operand_near n (operands.Byte (bytes.Frame copy offset)) has h = frame_near (slice_get placed.frames.items copy) offset n has h
  operand_near n (operands.Byte (bytes.Static object offset)) has h = h
  operand_near n (operands.Byte (bytes.Result root k)) has h = h
  operand_near n (operands.Byte (bytes.Device address)) has h = h
  operand_near n (operands.Register register) has h = h
  operand_near n (operands.Saved cell) has h = h

  narrowed_near : (s : Sym) → IsNear placed s → IsNear placed (narrowed s)
  narrowed_near (syms.File op file into) h = h
  narrowed_near (syms.Movwf file) h = h
  narrowed_near (syms.Clrf file) h = h
  narrowed_near (syms.Bit op file bit) h = h
  narrowed_near (syms.Literal op value) h = h
  narrowed_near (syms.Plain op) h = h
  narrowed_near (syms.Call target) h = h
  narrowed_near (syms.Goto target) h = h
  narrowed_near (syms.Label label) h = h
  narrowed_near (syms.SelectBank bit on) h = h
  narrowed_near (syms.SelectPage bit target) h = h
  narrowed_near (syms.Table table root) h = h

  cleared_near : (s : Sym) → IsNear placed s → IsNear placed (cleared s)
  cleared_near (syms.File op file into) h = h
  cleared_near (syms.Movwf file) h = h
  cleared_near (syms.Clrf file) h = h
  cleared_near (syms.Bit op file bit) h = h
  cleared_near (syms.Literal op value) h = h
  cleared_near (syms.Plain op) h = h
  cleared_near (syms.Call target) h = h
  cleared_near (syms.Goto target) h = h
  cleared_near (syms.Label label) h = h
  cleared_near (syms.SelectBank bit on) h = h
  cleared_near (syms.SelectPage bit target) h = h
  cleared_near (syms.Table table root) h = h

  read_near : (n : ℕ) (s : Sym) → HaveOperands placed (s ∷ []) → IsNear placed s → IsNear placed (reads_before n s)
  read_near n (syms.File op file into) has h = operand_near n file has.0 h
  read_near n (syms.Movwf file) has h = h
  read_near n (syms.Clrf file) has h = h
  read_near n (syms.Bit op file bit) has h = operand_near n file has.0 h
  read_near n (syms.Literal op value) has h = h
  read_near n (syms.Plain op) has h = h
  read_near n (syms.Call target) has h = h
  read_near n (syms.Goto target) has h = h
  read_near n (syms.Label label) has h = h
  read_near n (syms.SelectBank bit on) has h = h
  read_near n (syms.SelectPage bit target) has h = h
  read_near n (syms.Table table root) has h = h

  status_low : (at : ℕ) → Some 0x03 ≡ Some at → at < 0x100
  status_low at q = let same = same_Some 0x03 at q in omega (arith, same)

  test_near : (flag : FlagName) (turned : Bool) (s : Sym) → IsNear placed s → IsNear placed (tests_flag flag turned s)
  test_near flag turned (syms.File op file into) h = h
  test_near flag turned (syms.Movwf file) h = h
  test_near flag turned (syms.Clrf file) h = h
  test_near flag turned (syms.Bit op file bit) h = status_low
  test_near flag turned (syms.Literal op value) h = h
  test_near flag turned (syms.Plain op) h = h
  test_near flag turned (syms.Call target) h = h
  test_near flag turned (syms.Goto target) h = h
  test_near flag turned (syms.Label label) h = h
  test_near flag turned (syms.SelectBank bit on) h = h
  test_near flag turned (syms.SelectPage bit target) h = h
  test_near flag turned (syms.Table table root) h = h

  rows_near : (rows : List Row) → HaveOperands placed (olds rows) → AreNear placed (olds rows) → AreNear placed (puts rows)
  rows_near [] has h = tt
  rows_near (At (syms.Label label) act said ∷ rows) has h = (tt, rows_near rows has.1 h.1)
  rows_near (At s Keeps said ∷ rows) has h = (h.0, rows_near rows has.1 h.1)
  rows_near (At s Drops said ∷ rows) has h = rows_near rows has.1 h.1
  rows_near (At s (Puts op n) said ∷ rows) has h = (tt, rows_near rows has.1 h.1)
  rows_near (At s Narrows said ∷ rows) has h = (narrowed_near s h.0, rows_near rows has.1 h.1)
  rows_near (At s Clears said ∷ rows) has h = (cleared_near s h.0, rows_near rows has.1 h.1)
  rows_near (At s (Reads n) said ∷ rows) has h = (read_near n s (has.0, tt) h.0, rows_near rows has.1 h.1)
  rows_near (At s (Tests flag turned) said ∷ rows) has h = (test_near flag turned s h.0, rows_near rows has.1 h.1)

  lean_near : (given lean : List SymBlock) → AllZip IsLeaner given lean → BlocksHaveOperands placed given → BlocksAreNear placed given → BlocksAreNear placed lean
  lean_near [] [] z has all k block is = absurd (cc)
  lean_near [] (b ∷ lean) z has all k block is = absurd z
  lean_near (g ∷ given) [] z has all k block is = absurd z
  lean_near (g ∷ given) (b ∷ lean) z has all zero block is =
      let there : HaveOperands placed (olds z.0.rows) = subst (HaveOperands placed) z.0.before (has 0 g refl) in
      let before : AreNear placed (olds z.0.rows) = subst (AreNear placed) z.0.before (all 0 g refl) in
      subst (λ (x : SymBlock). AreNear placed x.list.items) (some_is b block is) (subst (AreNear placed) (sym z.0.after) (rows_near z.0.rows there before))
  lean_near (g ∷ given) (b ∷ lean) z has all (suc k) block is = lean_near given lean z.1 (λ j x there. has (suc j) x there) (λ j x there. all (suc j) x there) k block is

-- ---- the blocks of a program
pub whole_keep_near : WholeKeepNear
whole_keep_near typed copies core given lean whole placed blocks has placing statics few near =
    let p = program_of typed in
    let all = operands_have_addresses typed copies blocks.lowered core given placed blocks.sound blocks.roots blocks.numbers blocks.bodies blocks.code blocks.joined has placing statics few in
    let leaner = blocks_are_leaner (layout_of placed) (handler_at copies) (core_of p copies).variable_bytes blocks.lent given lean blocks.leaner in
    let given_near : BlocksAreNear placed given =
    λ k g is. placed_stay_near p copies placed g.list.items placing near (block_there typed copies blocks.lowered core given placed blocks.sound blocks.roots blocks.numbers blocks.bodies blocks.code blocks.joined has placing statics few k g is) in
    let made = lean_near placed given lean leaner all.0 given_near in
    all_near_made placed lean whole blocks.exact (λ i d l. made i (get_or lean i d) (slice_get-get_or lean i d l))

-- .. of any program that is a typed one's
pub selects_near : (p : Program) (typed : Typed) → p ≡ program_of typed → (copies : List FnCopy) (core : CoreProgram) (given lean whole : List SymBlock) (placed : Placed) → AreBlocks p copies core given lean whole placed → HasCalls p copies
    → IsPlacing p copies (map object_of placed.objects.items) (map frame_of placed.frames.items) → map items_of core.statics.items ≡ first_bytes p → length p.statics ≤ 65535 → KeepNear placed whole
selects_near p typed same copies core given lean whole placed =
    subst
    (λ (q : Program). AreBlocks q copies core given lean whole placed → HasCalls q copies
    → IsPlacing q copies (map object_of placed.objects.items) (map frame_of placed.frames.items) → map items_of core.statics.items ≡ first_bytes q → length q.statics ≤ 65535 → KeepNear placed whole)
    (sym same) (whole_keep_near typed copies core given lean whole placed)
