-- An image that blocks make has each instruction at its place.
use Rattle.std.proofs.Common.{◌≡◌, ℕ, zero, suc, ◌+◌, ◌-◌, ◌*◌, ◌/◌, ◌%◌, ◌<◌, ◌≤◌, Bool, true, false, List, [], ◌∷◌, take, map, Option, Some, None, refl, sym, ap, ◌∙◌, subst, arith}
use Rattle.std.specs.Prelude.{nat_eq, nat_lt, slice_get, slice_index, option_map, IsSome}
use Rattle.std.proofs.lemmas.Bool.{ltb-true}
use Rattle.std.proofs.lemmas.Option.{cond_some}
use Rattle.core_code.specs.declared.code.Byte.{Byte}
use Rattle.core_code.specs.declared.code.Byte.TheVariants as bytes
use Rattle.pic_isa.specs.Lookup.{row_of}
use Rattle.pic_isa.specs.Table.{word_of, IsWellFormed}
use Rattle.pic_isa.specs.declared.Ins.{Ins}
use Rattle.pic_isa.specs.declared.Ins.TheVariants as isa
use Rattle.pic_isa.proofs.Rows.{finds, has_own}
use Rattle.pic_chip.specs.Run.{Watch}
use Rattle.pic_map.specs.declared.FrameLine.{FrameLine}
use Rattle.pic_map.specs.declared.ObjLine.{ObjLine}
use Rattle.pic_map.specs.declared.Placed.{Placed}
use Rattle.pic_world.specs.declared.Root.{Root}
use Rattle.pic_world.specs.declared.Root.TheVariants.{Main, Isr}
use Rattle.sym_code.specs.Effect.{Setting, literal_value}
use Rattle.sym_code.specs.Layout as layouts
use Rattle.sym_code.specs.Layout.{address_byte, result_address, saved_address}
use Rattle.sym_code.specs.Programs.{Program, Position, position, block_of, block_in, fetched, is_word, lands, stand, behind, front, label_from}
use Rattle.sym_code.specs.Touching.{is_file}
use Rattle.sym_code.specs.WellFormed.{is_well_formed, are_well_formed}
use Rattle.sym_code.specs.Words.{words_in}
use Rattle.sym_code.specs.declared.code.BankBit.{BankBit}
use Rattle.sym_code.specs.declared.code.BankBit.TheVariants.{Rp0, Rp1, Irp}
use Rattle.sym_code.specs.declared.code.BitOperation.{BitOperation}
use Rattle.sym_code.specs.declared.code.BitOperation.TheVariants.{Bcf, Bsf, Btfsc, Btfss}
use Rattle.sym_code.specs.declared.code.BlockName.{BlockName}
use Rattle.sym_code.specs.declared.code.BlockName.TheVariants.{Start}
use Rattle.sym_code.specs.declared.code.FileOperation.{FileOperation}
use Rattle.sym_code.specs.declared.code.FileOperation.TheVariants.{Addwf, Andwf, Comf, Decf, Decfsz, Incf, Incfsz, Iorwf, Movf, Rlf, Rrf, Subwf, Swapf, Xorwf}
use Rattle.sym_code.specs.declared.code.Label.TheVariants.{Inner, Halt, Restore}
use Rattle.sym_code.specs.declared.code.Literal.{Literal}
use Rattle.sym_code.specs.declared.code.Literal.TheVariants as literals
use Rattle.sym_code.specs.declared.code.LiteralOperation.{LiteralOperation}
use Rattle.sym_code.specs.declared.code.LiteralOperation.TheVariants.{Addlw, Andlw, Iorlw, Movlw, Retlw, Sublw, Xorlw}
use Rattle.sym_code.specs.declared.code.Operand.{Operand}
use Rattle.sym_code.specs.declared.code.Operand.TheVariants as operands
use Rattle.sym_code.specs.declared.code.PageBit.{PageBit}
use Rattle.sym_code.specs.declared.code.PageBit.TheVariants.{Low, High}
use Rattle.sym_code.specs.declared.code.PlainOperation.{PlainOperation}
use Rattle.sym_code.specs.declared.code.PlainOperation.TheVariants.{Clrw, Nop, Retfie, Return}
use Rattle.sym_code.specs.declared.code.Register.TheVariants as registers
use Rattle.sym_code.specs.declared.code.Saved.TheVariants as saved
use Rattle.sym_code.specs.declared.code.Sym.{Sym}
use Rattle.sym_code.specs.declared.code.Sym.TheVariants as syms
use Rattle.sym_code.specs.declared.code.SymBlock.{SymBlock}
use Rattle.sym_code.specs.declared.code.Target.{Target}
use Rattle.sym_code.specs.declared.code.Target.TheVariants as targets
use Rattle.sym_code.specs.Registers.{no_leaves}
use Rattle.code_place.specs.Addresses.{address_of, file_address, in_memory, object_byte, frame_byte}
use Rattle.code_place.specs.Image.{Holds}
use Rattle.code_place.specs.Instructions as code
use Rattle.code_place.specs.Instructions.{file_row, bit_row, literal_row, plain_row, bank_row, bit_set, known, low, literal_of, reach, rows}
use Rattle.code_place.specs.Layouts.{program_of, page_of, layout_of}
use Rattle.code_place.specs.Pages.{page_words}
use Rattle.code_place.specs.Places.{block_place, label_place, label_at, target_for, HasLiteral, HasAddress, HaveAddresses}
use Rattle.code_place.proofs.Layouts.{by_layout}
use Rattle.chip_trace.specs.Arriving.{EndsBy, IsAssembled, is_small, is_near}
use Rattle.chip_trace.proofs.Blocks.{some_eq, Found, found, have_address, room, words_to, stand_words, behind_words, two_words, word_below, label_stands}
use Rattle.chip_trace.proofs.Relations.{Ground, Reaches, Means, IsPlaced, low_of, page_row}
use Rattle.chip_trace.proofs.Sound.{behind_block, stand_block, left_of, right_of}

-- ---- rows fit their words
file_fits : (op : FileOperation) (f : ℕ) (d : Bool) → f < 128 → IsWellFormed (file_row op f d)
file_fits Addwf f d h = h
file_fits Andwf f d h = h
file_fits Comf f d h = h
file_fits Decf f d h = h
file_fits Decfsz f d h = h
file_fits Incf f d h = h
file_fits Incfsz f d h = h
file_fits Iorwf f d h = h
file_fits Movf f d h = h
file_fits Rlf f d h = h
file_fits Rrf f d h = h
file_fits Subwf f d h = h
file_fits Swapf f d h = h
file_fits Xorwf f d h = h

bit_fits : (op : BitOperation) (f b : ℕ) → f < 128 → b < 8 → IsWellFormed (bit_row op f b)
bit_fits Bcf f b h k = (h, k)
bit_fits Bsf f b h k = (h, k)
bit_fits Btfsc f b h k = (h, k)
bit_fits Btfss f b h k = (h, k)

literal_fits : (op : LiteralOperation) (k : ℕ) → k < 256 → IsWellFormed (literal_row op k)
literal_fits Addlw k h = h
literal_fits Andlw k h = h
literal_fits Iorlw k h = h
literal_fits Movlw k h = h
literal_fits Retlw k h = h
literal_fits Sublw k h = h
literal_fits Xorlw k h = h

plain_fits : (op : PlainOperation) → IsWellFormed (plain_row op)
plain_fits Clrw = tt
plain_fits Nop = tt
plain_fits Retfie = tt
plain_fits Return = tt

set_fits : (f b : ℕ) (on : Bool) → f < 128 → b < 8 → IsWellFormed (bit_set f b on)
set_fits f b true h k = (h, k)
set_fits f b false h k = (h, k)

bank_fits : (which : BankBit) (on : Bool) → IsWellFormed (bank_row which on)
bank_fits Rp0 on = set_fits 3 5 on (omega arith) (omega arith)
bank_fits Rp1 on = set_fits 3 6 on (omega arith) (omega arith)
bank_fits Irp on = set_fits 3 7 on (omega arith) (omega arith)

page_fits : (which : PageBit) (a : ℕ) → IsWellFormed (code.page_row which a)
page_fits Low a = set_fits 10 3 _ (omega arith) (omega arith)
page_fits High a = set_fits 10 4 _ (omega arith) (omega arith)

-- a select of the page of an address
page_same : (which : PageBit) (a pg : ℕ) → a / page_words ≡ pg → code.page_row which a ≡ page_row which pg
page_same Low a pg e = ap (λ z. bit_set 0x0a 3 (nat_eq (z % 2) 1)) e
page_same High a pg e = let f : a / 4096 % 2 ≡ pg / 2 % 2 = omega arith in ap (λ z. bit_set 0x0a 4 (nat_eq z 1)) f

well_formed_at : (xs : List Sym) (i : ℕ) (s : Sym) → are_well_formed xs ≡ true → slice_get xs i ≡ Some s → is_well_formed s ≡ true
well_formed_at [] i s a e = absurd (no_none s e) where
  no_none : (s : Sym) → None ≡ Some s → ⊥
  no_none s e = cc
well_formed_at (x ∷ xs) zero s a e = ap is_well_formed (sym (some_eq x s e)) ∙ left_of (is_well_formed x) (are_well_formed xs) a
well_formed_at (x ∷ xs) (suc i) s a e = well_formed_at xs i s (right_of (is_well_formed x) (are_well_formed xs) a) e

address_at : (placed : Placed) (t : Target → Option ℕ) (xs : List Sym) (i : ℕ) (s : Sym) → HaveAddresses placed t xs → slice_get xs i ≡ Some s → HasAddress placed t s
address_at placed t [] i s a e = absurd (no_none s e) where
  no_none : (s : Sym) → None ≡ Some s → ⊥
  no_none s e = cc
address_at placed t (x ∷ xs) zero s a e = subst (HasAddress placed t) (some_eq x s e) a.0
address_at placed t (x ∷ xs) (suc i) s a e = address_at placed t xs i s a.1 e

-- ---- operands and literals
module _ (placed : Placed) where
  byte_low : (b : Byte) (o : Option ℕ) → address_of placed b ≡ o → IsSome o → known o % 128 ≡ layouts.address_of (layout_of placed) b % 128
  byte_low b None e h = absurd (cc)
  byte_low b (Some a) e h = ap (λ z. z % 128) (sym (by_layout placed b a e))

  low_same : (x : Operand) → IsSome (file_address placed x) → low placed x ≡ low_of (layout_of placed) x
  low_same (operands.Byte b) h = byte_low b (address_of placed b) refl h
  low_same (operands.Register registers.Indf) h = refl
  low_same (operands.Register registers.Status) h = refl
  low_same (operands.Register registers.Fsr) h = refl
  low_same (operands.Register registers.Pclath) h = refl
  low_same (operands.Saved saved.W) h = refl
  low_same (operands.Saved saved.Status) h = refl
  low_same (operands.Saved saved.Fsr) h = refl
  low_same (operands.Saved saved.Pclath) h = refl

  in_small : (n a : ℕ) → in_memory n ≡ Some a → a < 512
  in_small n a e = let q = cond_some (nat_lt n 512) n a e in let l = ltb-true n 512 q.0 in let f = q.1 in omega arith

  object_small : (o : Option ObjLine) (n a : ℕ) → object_byte o n ≡ Some a → a < 512
  object_small None n a e = absurd (no_none a e) where
    no_none : (s : ℕ) → None ≡ Some s → ⊥
    no_none s e = cc
  object_small (Some line) n a e = in_small (line.address + n) a e

  frame_small : (o : Option FrameLine) (n a : ℕ) → frame_byte o n ≡ Some a → a < 512
  frame_small None n a e = absurd (no_none a e) where
    no_none : (s : ℕ) → None ≡ Some s → ⊥
    no_none s e = cc
  frame_small (Some line) n a e = in_small (line.address + n) a e

  result_small : (r : Root) (k a : ℕ) → k < 4 → result_address r + k ≡ a → a < 512
  result_small Main k a lt e = omega arith
  result_small Isr k a lt e = omega arith

  address_small : (b : Byte) (a : ℕ) → address_of placed b ≡ Some a → is_near b ≡ true → a < 512
  address_small (bytes.Static n o) a e q = object_small (slice_get placed.objects.items n) o a e
  address_small (bytes.Frame n o) a e q = frame_small (slice_get placed.frames.items n) o a e
  address_small (bytes.Result r k) a e q = let z = cond_some (nat_lt k 4) (result_address r + k) a e in result_small r k a (ltb-true k 4 z.0) z.1
  address_small (bytes.Device d) a e q = let f = some_eq d a e in let l = ltb-true d 512 q in omega arith

  low_literal : (b : Byte) (o : Option ℕ) → address_of placed b ≡ o → IsSome o → (known o % 256 ≡ address_byte false (layouts.address_of (layout_of placed) b)) × (known o % 256 < 256)
  low_literal b None e h = absurd (cc)
  low_literal b (Some a) e h = (ap (λ z. z % 256) (sym (by_layout placed b a e)), omega arith)

  high_literal : (b : Byte) (o : Option ℕ) → address_of placed b ≡ o → IsSome o → is_near b ≡ true → (known o / 256 ≡ address_byte true (layouts.address_of (layout_of placed) b)) × (known o / 256 < 256)
  high_literal b None e h q = absurd (cc)
  high_literal b (Some a) e h q =
      let s = address_small b a e q in let f = by_layout placed b a e in
      let z : a / 256 ≡ a / 256 % 2 = omega arith in
      (z ∙ ap (λ z. z / 256 % 2) (sym f), omega arith)

  literal_same : (op : LiteralOperation) (v : Literal) → HasLiteral placed v → is_small (syms.Literal op v) ≡ true → (literal_of placed v ≡ literal_value (layout_of placed) v) × (literal_of placed v < 256)
  literal_same op (literals.Number n) h q = (refl, ltb-true n 256 q)
  literal_same op (literals.Low b) h q = low_literal b (address_of placed b) refl h
  literal_same op (literals.High b) h q = high_literal b (address_of placed b) refl h q

module _ (blocks : List SymBlock) (at : List ℕ) (placed : Placed) (handler : Option ℕ) (image : List ℕ) (watch : Watch) (limit : Bool → ℕ) where
  abbrev pub G : Setting
  G = record { program = program_of blocks handler placed; banked = true; page_of = page_of blocks at; limit = limit; leaves = no_leaves }

  abbrev pub place_in : Position → ℕ
  place_in p = known (block_place blocks at p.block) + words_to G.program p

  abbrev pub H : Ground
  H = record { place = place_in; halt = watch.halt; restore = known (label_place blocks at Restore) % 2048; rests = watch.halt; long = words_in (block_in blocks Start) }

  module _ (a : IsAssembled blocks at placed handler image watch G) where
    abbrev q : Program
    q = G.program

    is_some_word : (x : Option Sym) → is_word x ≡ true → (y : Sym) × (x ≡ Some y)
    is_some_word None e = absurd (cc)
    is_some_word (Some y) e = (y, refl)

    found_at : (name : BlockName) (i : ℕ) (s : Sym) → slice_get (block_in blocks name) i ≡ Some s → Found blocks at name
    found_at name i s e = found blocks at name i s (have_address blocks at a.fit) e

    pub block_room : (name : BlockName) (f : Found blocks at name) → (f.start < 8192) × (f.start % 2048 + words_in (block_in blocks name) ≤ 2048)
    block_room name f =
        let r = room blocks at a.fit f.number f.block f.start f.in_blocks f.in_at in
        (r.0, subst (λ (xs : List Sym). f.start % 2048 + words_in xs ≤ 2048) f.list r.1)

    pub lands_found : (p : Position) → lands q p ≡ true → Found blocks at p.block
    lands_found p ok = let s = is_some_word (fetched q p) ok in found_at p.block p.index s.0 s.1

    -- the place of an instruction, in its block
    pub place_is : (p : Position) (f : Found blocks at p.block) → place_in p ≡ f.start + words_to q p
    place_is p f = ap (λ z. known z + words_to q p) f.place

    words_short : (p : Position) → lands q p ≡ true → words_to q p < words_in (block_in blocks p.block)
    words_short p ok = let s = is_some_word (fetched q p) ok in word_below (block_in blocks p.block) p.index s.0 s.1 (ap is_word (sym s.1) ∙ ok)

    pub place_below : (p : Position) → lands q p ≡ true → place_in p < 8192
    place_below p ok =
        let f = lands_found p ok in let r = block_room p.block f in let e = place_is p f in let w = words_short p ok in
        let r1 = r.0 in let r2 = r.1 in omega arith

    pub place_ends : (end : ℕ) → EndsBy blocks at end → (p : Position) → lands q p ≡ true → place_in p < end
    place_ends end ends p ok =
        let f = lands_found p ok in let e = place_is p f in let w = words_short p ok in
        let r = ends f.number f.block f.start f.in_blocks f.in_at in
        let l = ap words_in f.list in omega arith

    place_next : (p : Position) → lands q p ≡ true → place_in (behind q p) ≡ place_in p + 1
    place_next p ok =
        let e = behind_words q p ok in
        ap (λ z. known (block_place blocks at z) + words_to q (behind q p)) (behind_block q p) ∙ (omega arith)

    place_two : (p : Position) → lands q p ≡ true → lands q (behind q (behind q p)) ≡ true → place_in (behind q (behind q p)) ≡ place_in p + 2
    place_two p ok ok2 =
        let e = two_words q p ok ok2 in
        ap (λ z. known (block_place blocks at z) + words_to q (behind q (behind q p))) (behind_block q (behind q p) ∙ behind_block q p) ∙ (omega arith)

    -- ---- targets
    start_page : G.page_of Start ≡ 0
    start_page = ap (λ z. known z / page_words) a.starts

    pub front_place : (name : BlockName) → place_in (front q name) ≡ known (block_place blocks at name)
    front_place name =
        let w = stand_words q (position name 0) in
        let z : words_in [] ≡ 0 = refl in
        ap (λ z. known (block_place blocks at z) + words_to q (front q name)) (stand_block q (position name 0)) ∙ (omega arith)

    module _ (halt_small : watch.halt < 2048) (p : Position) (f : Found blocks at p.block) where
      abbrev target : Target → Option ℕ
      target = target_for blocks at f.block f.start

      inner_reaches : (n : ℕ) (o : Option ℕ) → label_from (block_in blocks p.block) (Inner n) 0 ≡ o → (p' : Position) → option_map (λ k. stand q (position p.block k)) o ≡ Some p' → lands q p' ≡ true
          → G.page_of p.block * 2048 + known (label_at (Inner n) f.start f.block.list.items) % 2048 ≡ place_in p'
      inner_reaches n None e p' is ok = absurd (no_none p' is) where
        no_none : (s : Position) → None ≡ Some s → ⊥
        no_none s e = cc
      inner_reaches n (Some k) e p' is ok =
          let r = block_room p.block f in let r1 = r.0 in let r2 = r.1 in
          let here : stand q (position p.block k) ≡ p' = some_eq _ p' is in
          let st = label_stands (block_in blocks p.block) (Inner n) 0 f.start k e in
          let zero' : k - 0 ≡ k = omega arith in
          let W = words_in (take k (block_in blocks p.block)) in
          let at' : known (label_at (Inner n) f.start f.block.list.items) ≡ f.start + W =
          ap (λ (xs : List Sym). known (label_at (Inner n) f.start xs)) f.list ∙ ap known st.1 ∙ ap (λ j. f.start + words_in (take j (block_in blocks p.block))) zero' in
          let block' : p'.block ≡ p.block = ap (λ (z : Position). z.block) (sym here) ∙ stand_block q (position p.block k) in
          let words' : words_to q p' ≡ W = ap (words_to q) (sym here) ∙ stand_words q (position p.block k) in
          let short = words_short p' ok in
          let short' : words_to q p' < words_in (block_in blocks p.block) = subst (λ z. words_to q p' < words_in (block_in blocks z)) block' short in
          let pg : G.page_of p.block ≡ f.start / 2048 = ap (λ z. known z / page_words) f.place in
          let place' : place_in p' ≡ f.start + W = ap (λ z. known (block_place blocks at z) + words_to q p') block' ∙ ap (λ z. known z + words_to q p') f.place ∙ ap (λ z. f.start + z) words' in
          omega arith

      reaches : (t : Target) → Reaches G H p t (reach (target t))
      reaches (targets.Block name) = (
        omega arith,
        λ p' is ok.
            let here : front q name ≡ p' = some_eq (front q name) p' is in
            let pl : place_in p' ≡ known (block_place blocks at name) = ap place_in (sym here) ∙ front_place name in
            omega arith,
      )
      reaches (targets.Label Halt) =
          let e : known (label_place blocks at Halt) ≡ watch.halt = ap known a.halt in
          let z = start_page in
          (omega arith, (omega arith))
      reaches (targets.Label Restore) = let z = start_page in (omega arith, (omega arith))
      reaches (targets.Label (Inner n)) = (omega arith, λ p' is ok. inner_reaches n (label_from (block_in blocks p.block) (Inner n) 0) refl p' is ok)

      -- ---- instructions
      module _ (ok : lands q p ≡ true) (s : Sym) (is : fetched q p ≡ Some s) (wd : is_word (Some s) ≡ true) where
        in_block : slice_get f.block.list.items p.index ≡ Some s
        in_block = ap (λ (xs : List Sym). slice_get xs p.index) f.list ∙ is

        holds : Holds image (f.start + words_in (take p.index f.block.list.items)) (map word_of (rows placed target s))
        holds = a.words f.number f.block f.start f.in_blocks f.in_at p.index s in_block

        named : HasAddress placed target s
        named = address_at placed target f.block.list.items p.index s (a.named f.number f.block f.start f.in_blocks f.in_at) in_block

        word_there : (n : Ins) → rows placed target s ≡ n ∷ [] → IsWellFormed n → row_of (slice_index image (place_in p)) ≡ Some n
        word_there n e fits =
            let A = f.start + words_in (take p.index f.block.list.items) in
            let w : slice_index image (A + 0) ≡ word_of n = subst (Holds image A) (ap (map word_of) e) holds 0 (omega arith) in
            let l : words_in (take p.index f.block.list.items) ≡ words_to q p = ap (λ (xs : List Sym). words_in (take p.index xs)) f.list in
            let pl = place_is p f in
            let k : place_in p ≡ A + 0 = omega arith in
            ap row_of (ap (slice_index image) k ∙ w) ∙ finds n (word_of n) fits (has_own n)

        Code : Type 0
        Code = (i : Ins) × (row_of (slice_index image (place_in p)) ≡ Some i) × Means G H p s i

    code_by : (halt_small : watch.halt < 2048) (p : Position) (f : Found blocks at p.block) → lands q p ≡ true → (s : Sym) → fetched q p ≡ Some s → is_word (Some s) ≡ true → (i : Ins) × (row_of (slice_index image (place_in p)) ≡ Some i) × Means G H p s i
    code_by hs p f ok (syms.Label l) is wd = absurd (cc)
    code_by hs p f ok (syms.SelectBank which on) is wd =
        (bank_row which on, word_there hs p f ok (syms.SelectBank which on) is wd (bank_row which on) refl (bank_fits which on), refl)
    code_by hs p f ok (syms.SelectPage which t) is wd =
        let adr = known (target hs p f t) in
        let e = a.selects f.number f.block f.start p.index which t f.in_blocks f.in_at (in_block hs p f ok (syms.SelectPage which t) is wd) in (
          code.page_row which adr,
          word_there hs p f ok (syms.SelectPage which t) is wd (code.page_row which adr) refl (page_fits which adr),
          page_same which adr (G.page_of (block_of p.block t)) (e ∙ ap (λ z. G.page_of (block_of z t)) f.named),
        )
    code_by hs p f ok (syms.File op y into) is wd =
        let l = low_same placed y (named hs p f ok (syms.File op y into) is wd) in (
          file_row op (low placed y) (is_file into),
          word_there hs p f ok (syms.File op y into) is wd (file_row op (low placed y) (is_file into)) refl (file_fits op (low placed y) (is_file into) (omega arith)),
          ap (λ z. file_row op z (is_file into)) l,
        )
    code_by hs p f ok (syms.Movwf y) is wd =
        let l = low_same placed y (named hs p f ok (syms.Movwf y) is wd) in
        (isa.Movwf (low placed y), word_there hs p f ok (syms.Movwf y) is wd (isa.Movwf (low placed y)) refl (omega arith), ap isa.Movwf l)
    code_by hs p f ok (syms.Clrf y) is wd =
        let l = low_same placed y (named hs p f ok (syms.Clrf y) is wd) in
        (isa.Clrf (low placed y), word_there hs p f ok (syms.Clrf y) is wd (isa.Clrf (low placed y)) refl (omega arith), ap isa.Clrf l)
    code_by hs p f ok (syms.Bit op y b) is wd =
        let l = low_same placed y (named hs p f ok (syms.Bit op y b) is wd) in
        let small : b < 8 = ltb-true b 8 (well_formed_at f.block.list.items p.index (syms.Bit op y b) f.block.fits (in_block hs p f ok (syms.Bit op y b) is wd)) in
        (bit_row op (low placed y) b, word_there hs p f ok (syms.Bit op y b) is wd (bit_row op (low placed y) b) refl (bit_fits op (low placed y) b (omega arith) small), (ap (λ z. bit_row op z b) l, small))
    code_by hs p f ok (syms.Literal op v) is wd =
        let l = literal_same placed op v (named hs p f ok (syms.Literal op v) is wd) (a.small p.block p.index (syms.Literal op v) is) in
        (literal_row op (literal_of placed v), word_there hs p f ok (syms.Literal op v) is wd (literal_row op (literal_of placed v)) refl (literal_fits op (literal_of placed v) l.1), ap (literal_row op) l.0)
    code_by hs p f ok (syms.Plain op) is wd =
        (plain_row op, word_there hs p f ok (syms.Plain op) is wd (plain_row op) refl (plain_fits op), refl)
    code_by hs p f ok (syms.Call t) is wd =
        let k = reach (target hs p f t) in
        let lt : k < 2048 = omega arith in
        (isa.Call k, word_there hs p f ok (syms.Call t) is wd (isa.Call k) refl lt, (k, refl, reaches hs p f t))
    code_by hs p f ok (syms.Goto t) is wd =
        let k = reach (target hs p f t) in
        let lt : k < 2048 = omega arith in
        (isa.Goto k, word_there hs p f ok (syms.Goto t) is wd (isa.Goto k) refl lt, (k, refl, reaches hs p f t))
    code_by hs p f ok (syms.Table table root) is wd = absurd (named hs p f ok (syms.Table table root) is wd)

    pub are_placed : watch.halt < 2048 → IsPlaced G H image
    are_placed hs = record {
      code = λ p s is wd. let ok : lands q p ≡ true = ap is_word is ∙ wd in code_by hs p (lands_found p ok) ok s is wd;
      below = place_below;
      next = place_next;
      two = place_two;
    }
