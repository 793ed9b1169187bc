-- The start block of an image that blocks make: where main has ended, the vector, and where the context is given back.
use Rattle.std.proofs.Common.{◌≡◌, ◌≢◌, ℕ, zero, suc, ◌+◌, ◌-◌, ◌/◌, ◌%◌, ◌<◌, ◌≤◌, Bool, true, false, List, [], ◌∷◌, ◌++◌, length, take, Option, Some, None, refl, sym, ap, ◌∙◌, subst, arith, append_assoc, length-append}
use Rattle.std.specs.Prelude.{if◌then◌else◌, ◌&&◌, slice_get, slice_index}
use Rattle.std.specs.Option.{option_or}
use Rattle.std.proofs.lemmas.Bool.{eqb-true}
use Rattle.pic_isa.specs.Lookup.{row_of}
use Rattle.pic_isa.specs.declared.Ins.{Ins}
use Rattle.pic_isa.specs.declared.Ins.TheVariants as isa
use Rattle.pic_chip.specs.Run.{Watch}
use Rattle.pic_map.specs.declared.Placed.{Placed}
use Rattle.sym_code.specs.Effect.{Setting}
use Rattle.sym_code.specs.Programs.{Position, position, block_of, block_in, is_word, lands, front, label_from, same_name}
use Rattle.sym_code.specs.Words.{words_in}
use Rattle.sym_code.specs.declared.code.BlockName.{BlockName}
use Rattle.sym_code.specs.declared.code.BlockName.TheVariants.{Start, Copy}
use Rattle.sym_code.specs.declared.code.FileOperation.TheVariants as file_ops
use Rattle.sym_code.specs.declared.code.Into.TheVariants as into
use Rattle.sym_code.specs.declared.code.Label.{Label}
use Rattle.sym_code.specs.declared.code.Label.TheVariants.{Inner, Halt, Restore}
use Rattle.sym_code.specs.declared.code.Operand.TheVariants as operands
use Rattle.sym_code.specs.declared.code.PageBit.{PageBit}
use Rattle.sym_code.specs.declared.code.PageBit.TheVariants.{Low, High}
use Rattle.sym_code.specs.declared.code.PlainOperation.TheVariants as plain_ops
use Rattle.sym_code.specs.declared.code.Register.TheVariants as registers
use Rattle.sym_code.specs.declared.code.Saved.TheVariants as cells
use Rattle.sym_code.specs.declared.code.Sym.{Sym}
use Rattle.sym_code.specs.declared.code.Sym.TheVariants as syms
use Rattle.sym_code.specs.declared.code.SymBlock.{SymBlock}
use Rattle.sym_code.specs.declared.code.Target.{Target}
use Rattle.sym_code.specs.declared.code.Target.TheVariants as targets
use Rattle.isr_save.specs.Start.{saving, restoring, to_w}
use Rattle.code_place.specs.Instructions.{known}
use Rattle.code_place.specs.Pages.{page_words}
use Rattle.code_place.specs.Places.{at_if, block_place, label_place, label_at}
use Rattle.chip_trace.specs.Arriving.{EndsBy, IsAssembled, HasHalt, are_halt_selects, HasVector, HasVectorFor, is_to_handler, are_page_selects, has_low, has_high, depth_for}
use Rattle.chip_trace.proofs.Blocks.{some_eq, HaveAddress, have_address, room, behind_first, words_cons, words_behind, words_take, words_all, word_at, word_below, word_once, label_stands, label_behind, no_label, get_behind, get_front, are_words, both_words}
use Rattle.chip_trace.proofs.Image.{IsImage}
use Rattle.chip_trace.proofs.Placing.{place_ends, G, H, place_in, front_place, are_placed, place_is, lands_found}
use Rattle.chip_trace.proofs.Relations.{Ground, IsBelow, Means, page_row}
use Rattle.chip_trace.proofs.Sound.{is_copy, left_of, right_of}
use Rattle.chip_trace.proofs.Stands.{Vector, saving_ins, restoring_ins}

none_some : {A : Type 0} (x : A) → None ≡ Some x → ⊥
none_some x e = cc

-- ---- the first block
start_block : (blocks : List SymBlock) (at : List ℕ) (b : SymBlock) → slice_get blocks 0 ≡ Some b → b.name ≡ Start → HaveAddress blocks at → block_place blocks at Start ≡ Some 0
    → (slice_get at 0 ≡ Some 0) × (block_in blocks Start ≡ b.list.items)
start_block [] at b e n all p = absurd (none_some b e)
start_block (x ∷ xs) [] b e n all p = absurd (none_some (all 0 x refl).0 (all 0 x refl).1)
start_block (x ∷ xs) (a ∷ as') b e n all p =
    let is : x ≡ b = some_eq x b e in
    let named : same_name x.name Start ≡ true = ap (λ (z : BlockName). same_name z Start) (ap (λ (z : SymBlock). z.name) is ∙ n) in
    let q : Some a ≡ Some 0 = sym (ap (λ z. option_or (at_if z a) (block_place xs as' Start)) named) ∙ p in
    (q, ap (λ z. if z then x.list.items else block_in xs Start) named ∙ ap (λ (z : SymBlock). z.list.items) is)

label_first : (blocks : List SymBlock) (at : List ℕ) (b : SymBlock) (label : Label) (k : ℕ) → slice_get blocks 0 ≡ Some b → slice_get at 0 ≡ Some 0 → label_from b.list.items label 0 ≡ Some k → label_place blocks at label ≡ Some (words_in (take k b.list.items))
label_first [] at b label k e z f = absurd (none_some b e)
label_first (x ∷ xs) [] b label k e z f = absurd (none_some 0 z)
label_first (x ∷ xs) (a ∷ as') b label k e z f =
    let is : x ≡ b = some_eq x b e in
    let za : a ≡ 0 = some_eq a 0 z in
    let st = (label_stands b.list.items label 0 0 k f).1 in
    let n : k - 0 ≡ k = omega arith in
    let w : 0 + words_in (take (k - 0) b.list.items) ≡ words_in (take k b.list.items) = (let y : 0 + words_in (take (k - 0) b.list.items) ≡ words_in (take (k - 0) b.list.items) = omega arith in y) ∙ ap (λ j. words_in (take j b.list.items)) n in
    let here : label_at label a x.list.items ≡ Some (words_in (take k b.list.items)) = ap (λ v. label_at label v x.list.items) za ∙ ap (λ (v : SymBlock). label_at label 0 v.list.items) is ∙ st ∙ ap Some w in
    ap (λ v. option_or v (label_place xs as' label)) here

-- ---- lists
exists_at : (xs : List Sym) (k : ℕ) → k < length xs → (s : Sym) × (slice_get xs k ≡ Some s)
exists_at [] k lt = absurd (omega arith)
exists_at (x ∷ xs) zero lt = (x, refl)
exists_at (x ∷ xs) (suc k) lt = exists_at xs k (omega arith)

abbrev is_halting : Sym → Bool
is_halting (syms.Goto (targets.Label Halt)) = true
is_halting (syms.SelectPage bit (targets.Label Halt)) = true
is_halting _ = false

abbrev halts_nowhere : List Sym → Bool
halts_nowhere [] = true
halts_nowhere (x ∷ xs) = (if is_halting x then false else true) && halts_nowhere xs

nowhere_both : (xs ys : List Sym) → halts_nowhere xs ≡ true → halts_nowhere ys ≡ true → halts_nowhere (xs ++ ys) ≡ true
nowhere_both [] ys a b = b
nowhere_both (x ∷ xs) ys a b = both_of (if is_halting x then false else true) (left_of (if is_halting x then false else true) (halts_nowhere xs) a) (nowhere_both xs ys (right_of (if is_halting x then false else true) (halts_nowhere xs) a) b) where
  both_of : (p : Bool) {r : Bool} → p ≡ true → r ≡ true → (p && r) ≡ true
  both_of true e f = f
  both_of false e f = absurd (cc)

nowhere_at : (xs : List Sym) (k : ℕ) (s : Sym) → halts_nowhere xs ≡ true → slice_get xs k ≡ Some s → is_halting s ≡ false
nowhere_at [] k s a e = absurd (none_some s e)
nowhere_at (x ∷ xs) zero s a e = ap is_halting (sym (some_eq x s e)) ∙ not_halting (is_halting x) (left_of (if is_halting x then false else true) (halts_nowhere xs) a) where
  not_halting : (b : Bool) → (if b then false else true) ≡ true → b ≡ false
  not_halting true f = absurd (cc)
  not_halting false f = refl
nowhere_at (x ∷ xs) (suc k) s a e = nowhere_at xs k s (right_of (if is_halting x then false else true) (halts_nowhere xs) a) e

-- ---- selects of the handler's page
abbrev bit_of : Option Sym → PageBit
bit_of (Some (syms.SelectPage b t)) = b
bit_of _ = Low

record SelectAt (hd : ℕ) (xs : List Sym) (j : ℕ) : Type 0 where
  pub bit : PageBit
  pub target : Target
  pub at : slice_get xs j ≡ Some (syms.SelectPage bit target)
  pub leads : block_of Start target ≡ Copy hd

to_copy : (hd : ℕ) (t : Target) → is_to_handler hd t ≡ true → block_of Start t ≡ Copy hd
to_copy hd (targets.Block (Copy c)) e = ap Copy (eqb-true c hd e)
to_copy hd (targets.Block Start) e = absurd (cc)
to_copy hd (targets.Label l) e = absurd (cc)

module _ (hd : ℕ) where
  select_at : (xs : List Sym) (j : ℕ) → are_page_selects hd xs ≡ true → j < length xs → SelectAt hd xs j
  select_at [] j a lt = absurd (omega arith)
  select_at (syms.SelectPage b t ∷ xs) zero a lt = record { bit = b; target = t; at = refl; leads = to_copy hd t (left_of (is_to_handler hd t) (are_page_selects hd xs) a) }
  select_at (syms.SelectPage b t ∷ xs) (suc j) a lt = let r = select_at xs j (right_of (is_to_handler hd t) (are_page_selects hd xs) a) (omega arith) in record { bit = r.bit; target = r.target; at = r.at; leads = r.leads }
  select_at (syms.Label l ∷ xs) j a lt = absurd (cc)
  select_at (syms.SelectBank b d ∷ xs) j a lt = absurd (cc)
  select_at (syms.File b d f ∷ xs) j a lt = absurd (cc)
  select_at (syms.Movwf b ∷ xs) j a lt = absurd (cc)
  select_at (syms.Clrf b ∷ xs) j a lt = absurd (cc)
  select_at (syms.Bit b d f ∷ xs) j a lt = absurd (cc)
  select_at (syms.Literal b d ∷ xs) j a lt = absurd (cc)
  select_at (syms.Plain b ∷ xs) j a lt = absurd (cc)
  select_at (syms.Call b ∷ xs) j a lt = absurd (cc)
  select_at (syms.Goto b ∷ xs) j a lt = absurd (cc)
  select_at (syms.Table table root ∷ xs) j a lt = absurd (cc)

  -- what holds of lists of selects
  selects_are : (xs : List Sym) → are_page_selects hd xs ≡ true → (are_words xs ≡ true) × (halts_nowhere xs ≡ true)
  selects_are [] a = (refl, refl)
  selects_are (syms.SelectPage b (targets.Block t) ∷ xs) a = selects_are xs (right_of (is_to_handler hd (targets.Block t)) (are_page_selects hd xs) a)
  selects_are (syms.SelectPage b (targets.Label l) ∷ xs) a = absurd (cc)
  selects_are (syms.Label l ∷ xs) a = absurd (cc)
  selects_are (syms.SelectBank b d ∷ xs) a = absurd (cc)
  selects_are (syms.File b d f ∷ xs) a = absurd (cc)
  selects_are (syms.Movwf b ∷ xs) a = absurd (cc)
  selects_are (syms.Clrf b ∷ xs) a = absurd (cc)
  selects_are (syms.Bit b d f ∷ xs) a = absurd (cc)
  selects_are (syms.Literal b d ∷ xs) a = absurd (cc)
  selects_are (syms.Plain b ∷ xs) a = absurd (cc)
  selects_are (syms.Call b ∷ xs) a = absurd (cc)
  selects_are (syms.Goto b ∷ xs) a = absurd (cc)
  selects_are (syms.Table table root ∷ xs) a = absurd (cc)

  abbrev BitAt : PageBit → List Sym → Type 0
  BitAt b xs = (k : ℕ) × (k < length xs) × (bit_of (slice_get xs k) ≡ b)

  further : (b : PageBit) (x : Sym) (xs : List Sym) → BitAt b xs → BitAt b (x ∷ xs)
  further b x xs r = (suc r.0, (let z = r.1 in omega arith), r.2)

  low_at : (xs : List Sym) → are_page_selects hd xs ≡ true → has_low xs ≡ true → BitAt Low xs
  low_at [] a e = absurd (cc)
  low_at (syms.SelectPage Low t ∷ xs) a e = (0, omega arith, refl)
  low_at (syms.SelectPage High t ∷ xs) a e = further Low (syms.SelectPage High t) xs (low_at xs (right_of (is_to_handler hd t) (are_page_selects hd xs) a) e)
  low_at (syms.Label l ∷ xs) a e = absurd (cc)
  low_at (syms.SelectBank b d ∷ xs) a e = absurd (cc)
  low_at (syms.File b d f ∷ xs) a e = absurd (cc)
  low_at (syms.Movwf b ∷ xs) a e = absurd (cc)
  low_at (syms.Clrf b ∷ xs) a e = absurd (cc)
  low_at (syms.Bit b d f ∷ xs) a e = absurd (cc)
  low_at (syms.Literal b d ∷ xs) a e = absurd (cc)
  low_at (syms.Plain b ∷ xs) a e = absurd (cc)
  low_at (syms.Call b ∷ xs) a e = absurd (cc)
  low_at (syms.Goto b ∷ xs) a e = absurd (cc)
  low_at (syms.Table table root ∷ xs) a e = absurd (cc)

  high_at : (xs : List Sym) → are_page_selects hd xs ≡ true → has_high xs ≡ true → BitAt High xs
  high_at [] a e = absurd (cc)
  high_at (syms.SelectPage High t ∷ xs) a e = (0, omega arith, refl)
  high_at (syms.SelectPage Low t ∷ xs) a e = further High (syms.SelectPage Low t) xs (high_at xs (right_of (is_to_handler hd t) (are_page_selects hd xs) a) e)
  high_at (syms.Label l ∷ xs) a e = absurd (cc)
  high_at (syms.SelectBank b d ∷ xs) a e = absurd (cc)
  high_at (syms.File b d f ∷ xs) a e = absurd (cc)
  high_at (syms.Movwf b ∷ xs) a e = absurd (cc)
  high_at (syms.Clrf b ∷ xs) a e = absurd (cc)
  high_at (syms.Bit b d f ∷ xs) a e = absurd (cc)
  high_at (syms.Literal b d ∷ xs) a e = absurd (cc)
  high_at (syms.Plain b ∷ xs) a e = absurd (cc)
  high_at (syms.Call b ∷ xs) a e = absurd (cc)
  high_at (syms.Goto b ∷ xs) a e = absurd (cc)
  high_at (syms.Table table root ∷ xs) a e = absurd (cc)

-- ---- selects of the halt's page
record TurnAt (xs : List Sym) (j : ℕ) : Type 0 where
  pub bit : PageBit
  pub at : slice_get xs j ≡ Some (syms.SelectPage bit (targets.Label Halt))

turn_at : (xs : List Sym) (j : ℕ) → are_halt_selects xs ≡ true → j < length xs → TurnAt xs j
turn_at [] j a lt = absurd (omega arith)
turn_at (syms.SelectPage b (targets.Label Halt) ∷ xs) zero a lt = record { bit = b; at = refl }
turn_at (syms.SelectPage b (targets.Label Halt) ∷ xs) (suc j) a lt = let r = turn_at xs j a (omega arith) in record { bit = r.bit; at = r.at }
turn_at (syms.SelectPage b (targets.Label Restore) ∷ xs) j a lt = absurd (cc)
turn_at (syms.SelectPage b (targets.Label (Inner n)) ∷ xs) j a lt = absurd (cc)
turn_at (syms.SelectPage b (targets.Block t) ∷ xs) j a lt = absurd (cc)
turn_at (syms.Label l ∷ xs) j a lt = absurd (cc)
turn_at (syms.SelectBank b d ∷ xs) j a lt = absurd (cc)
turn_at (syms.File b d f ∷ xs) j a lt = absurd (cc)
turn_at (syms.Movwf b ∷ xs) j a lt = absurd (cc)
turn_at (syms.Clrf b ∷ xs) j a lt = absurd (cc)
turn_at (syms.Bit b d f ∷ xs) j a lt = absurd (cc)
turn_at (syms.Literal b d ∷ xs) j a lt = absurd (cc)
turn_at (syms.Plain b ∷ xs) j a lt = absurd (cc)
turn_at (syms.Call b ∷ xs) j a lt = absurd (cc)
turn_at (syms.Goto b ∷ xs) j a lt = absurd (cc)
turn_at (syms.Table table root ∷ xs) j a lt = absurd (cc)

turns_are : (xs : List Sym) → are_halt_selects xs ≡ true → are_words xs ≡ true
turns_are [] a = refl
turns_are (syms.SelectPage b (targets.Label Halt) ∷ xs) a = turns_are xs a
turns_are (syms.SelectPage b (targets.Label Restore) ∷ xs) a = absurd (cc)
turns_are (syms.SelectPage b (targets.Label (Inner n)) ∷ xs) a = absurd (cc)
turns_are (syms.SelectPage b (targets.Block t) ∷ xs) a = absurd (cc)
turns_are (syms.Label l ∷ xs) a = absurd (cc)
turns_are (syms.SelectBank b d ∷ xs) a = absurd (cc)
turns_are (syms.File b d f ∷ xs) a = absurd (cc)
turns_are (syms.Movwf b ∷ xs) a = absurd (cc)
turns_are (syms.Clrf b ∷ xs) a = absurd (cc)
turns_are (syms.Bit b d f ∷ xs) a = absurd (cc)
turns_are (syms.Literal b d ∷ xs) a = absurd (cc)
turns_are (syms.Plain b ∷ xs) a = absurd (cc)
turns_are (syms.Call b ∷ xs) a = absurd (cc)
turns_are (syms.Goto b ∷ xs) a = absurd (cc)
turns_are (syms.Table table root ∷ xs) a = absurd (cc)

abbrev halt_jump : List Sym
halt_jump = syms.Goto (targets.Label Halt) ∷ []

-- the first of them, or the jump behind them
record FirstTurn (xs : List Sym) : Type 0 where
  pub sym' : Sym
  pub at : slice_get (xs ++ halt_jump) 0 ≡ Some sym'
  pub halting : is_halting sym' ≡ true
  pub word : is_word (Some sym') ≡ true

first_turn : (xs : List Sym) → are_halt_selects xs ≡ true → FirstTurn xs
first_turn [] a = record { sym' = syms.Goto (targets.Label Halt); at = refl; halting = refl; word = refl }
first_turn (x ∷ xs) a =
    let r = turn_at (x ∷ xs) 0 a (omega arith) in
    let y = syms.SelectPage r.bit (targets.Label Halt) in
    record { sym' = y; at = r.at; halting = refl; word = refl }

-- restoring behind its label
abbrev nine : List Sym
nine =
    to_w file_ops.Movf (operands.Saved cells.Pclath) ∷ syms.Movwf (operands.Register registers.Pclath) ∷ to_w file_ops.Movf (operands.Saved cells.Fsr) ∷ syms.Movwf (operands.Register registers.Fsr) ∷
    to_w file_ops.Swapf (operands.Saved cells.Status) ∷ syms.Movwf (operands.Register registers.Status) ∷ syms.File file_ops.Swapf (operands.Saved cells.W) into.File ∷ to_w file_ops.Swapf (operands.Saved cells.W) ∷
    syms.Plain plain_ops.Retfie ∷ []

module _ (blocks : List SymBlock) (at : List ℕ) (placed : Placed) (handler : Option ℕ) (image : List ℕ) (watch : Watch) (limit : Bool → ℕ) (a : IsAssembled blocks at placed handler image watch (G blocks at placed handler image watch limit)) where
  abbrev g : Setting
  g = G blocks at placed handler image watch limit

  abbrev h : Ground
  h = H blocks at placed handler image watch limit

  abbrev LS : List Sym
  LS = block_in blocks Start

  b0 : SymBlock
  b0 = a.start.0

  first' : (slice_get at 0 ≡ Some 0) × (LS ≡ b0.list.items)
  unfolding b0
  first' = start_block blocks at a.start.0 a.start.1 a.start.2 (have_address blocks at a.fit) a.starts

  start_small : words_in LS ≤ 2048
  unfolding b0
  start_small = let r = room blocks at a.fit 0 a.start.0 0 a.start.1 first'.0 in let z = r.1 in let e = ap words_in first'.1 in omega arith

  label_is : (label : Label) (k : ℕ) → label_from LS label 0 ≡ Some k → label_place blocks at label ≡ Some (words_in (take k LS))
  unfolding b0
  label_is label k e =
      label_first blocks at a.start.0 label k a.start.1 first'.0 (ap (λ (xs : List Sym). label_from xs label 0) (sym first'.1) ∙ e) ∙ ap (λ (xs : List Sym). Some (words_in (take k xs))) (sym first'.1)

  -- ---- where main has ended
  abbrev hh : HasHalt LS
  hh = a.halts

  -- behind the label
  abbrev Z : List Sym
  Z = hh.selects ++ halt_jump

  abbrev halt_rest : List Sym
  halt_rest = syms.Label Halt ∷ (Z ++ hh.behind)

  halt_list : LS ≡ hh.before ++ halt_rest
  halt_list =
      hh.whole ∙ append_assoc ((hh.before ++ syms.Label Halt ∷ []) ++ hh.selects) halt_jump hh.behind ∙ append_assoc (hh.before ++ syms.Label Halt ∷ []) hh.selects (halt_jump ++ hh.behind)
      ∙ append_assoc hh.before (syms.Label Halt ∷ []) (hh.selects ++ (halt_jump ++ hh.behind)) ∙ ap (λ z. hh.before ++ (syms.Label Halt ∷ z)) (sym (append_assoc hh.selects halt_jump hh.behind))

  Z_words : are_words Z ≡ true
  Z_words = both_words hh.selects halt_jump (turns_are hh.selects hh.of_page) refl

  Z_length : length Z ≡ suc (length hh.selects)
  Z_length = let p = length-append hh.selects halt_jump in omega arith

  halt_from : label_from LS Halt 0 ≡ Some (length hh.before)
  halt_from = ap (λ (xs : List Sym). label_from xs Halt 0) halt_list ∙ label_behind hh.before halt_rest Halt 0 hh.first ∙ ap Some (let z : 0 + length hh.before ≡ length hh.before = omega arith in z)

  before_words : words_in hh.before ≡ watch.halt
  before_words =
      let l = label_is Halt (length hh.before) halt_from in
      let w : watch.halt ≡ words_in (take (length hh.before) LS) = some_eq watch.halt (words_in (take (length hh.before) LS)) (sym a.halt ∙ l) in
      let n : length hh.before + 0 ≡ length hh.before = omega arith in
      let w0 : words_in (take (length hh.before) LS) ≡ words_in hh.before + words_in (take 0 halt_rest) =
      ap (λ (xs : List Sym). words_in (take (length hh.before) xs)) halt_list ∙ ap (λ k. words_in (take k (hh.before ++ halt_rest))) (sym n) ∙ words_behind hh.before halt_rest 0 in
      let c0 : words_in [] ≡ 0 = refl in
      omega arith

  Z_at : (k : ℕ) (s : Sym) → slice_get Z k ≡ Some s → slice_get LS (length hh.before + suc k) ≡ Some s
  Z_at k s e = ap (λ (xs : List Sym). slice_get xs (length hh.before + suc k)) halt_list ∙ get_behind hh.before halt_rest (suc k) ∙ get_front Z hh.behind k s e

  Z_place : (k : ℕ) → k ≤ length Z → words_in (take (length hh.before + suc k) LS) ≡ watch.halt + k
  Z_place k le =
      let w1 = words_behind hh.before halt_rest (suc k) in
      let w2 = words_cons (syms.Label Halt) (take k (Z ++ hh.behind)) in
      let w3 = words_take Z hh.behind k Z_words le in
      let b = before_words in
      ap (λ (xs : List Sym). words_in (take (length hh.before + suc k) xs)) halt_list ∙ (omega arith)

  abbrev last : ℕ
  last = length hh.selects + 0

  last_in : slice_get Z last ≡ Some (syms.Goto (targets.Label Halt))
  last_in = get_behind hh.selects halt_jump 0

  halts_below : watch.halt + length hh.selects < words_in LS
  halts_below =
      let w = word_below LS (length hh.before + suc last) (syms.Goto (targets.Label Halt)) (Z_at last (syms.Goto (targets.Label Halt)) last_in) refl in
      let l = Z_length in let p = Z_place last (omega arith) in omega arith

  halt_small : watch.halt < 2048
  halt_small = let w = halts_below in let s = start_small in omega arith

  -- an instruction of the start block
  at_start : (i : ℕ) (s : Sym) → slice_get LS i ≡ Some s → is_word (Some s) ≡ true → (n : Ins) × (row_of (slice_index image (words_in (take i LS))) ≡ Some n) × Means g h (position Start i) s n
  at_start i s e w =
      let c = (are_placed blocks at placed handler image watch limit a halt_small).code (position Start i) s e w in
      let z : place_in blocks at placed handler image watch limit (position Start i) ≡ words_in (take i LS) = ap (λ v. known v + words_in (take i LS)) a.starts ∙ (let y : 0 + words_in (take i LS) ≡ words_in (take i LS) = omega arith in y) in
      (c.0, ap (λ v. row_of (slice_index image v)) (sym z) ∙ c.1, c.2)

  start_page : g.page_of Start ≡ 0
  start_page = ap (λ z. known z / page_words) a.starts

  Z_code : (k : ℕ) (s : Sym) → k < length Z → slice_get Z k ≡ Some s → (n : Ins) × (row_of (slice_index image (watch.halt + k)) ≡ Some n) × Means g h (position Start (length hh.before + suc k)) s n
  Z_code k s lt e =
      let c = at_start (length hh.before + suc k) s (Z_at k s e) (word_at Z k s Z_words e) in
      (c.0, ap (λ z. row_of (slice_index image z)) (sym (Z_place k (omega arith))) ∙ c.1, c.2)

  turns : (k : ℕ) → k < length hh.selects → row_of (slice_index image (watch.halt + k)) ≡ Some (page_row (bit_of (slice_get hh.selects k)) (watch.halt / 2048))
  turns k lt =
      let l = Z_length in
      let r = turn_at hh.selects k hh.of_page lt in
      let y = syms.SelectPage r.bit (targets.Label Halt) in
      let c = Z_code k y (omega arith) (get_front hh.selects halt_jump k y r.at) in
      let hs = halt_small in
      let z : 0 ≡ watch.halt / 2048 = omega arith in
      c.1 ∙ ap Some (c.2 ∙ ap (page_row r.bit) (start_page ∙ z) ∙ ap (λ b. page_row b (watch.halt / 2048)) (sym (ap bit_of r.at)))

  stays : row_of (slice_index image (watch.halt + length hh.selects)) ≡ Some (isa.Goto (watch.halt % 2048))
  stays =
      let l = Z_length in
      let c = Z_code last (syms.Goto (targets.Label Halt)) (omega arith) last_in in
      let k = c.2.0 in let e = c.2.2.1 in let p = start_page in let hs = halt_small in
      let f : k ≡ watch.halt % 2048 = omega arith in
      let n : watch.halt + length hh.selects ≡ watch.halt + last = omega arith in
      ap (λ v. row_of (slice_index image v)) n ∙ c.1 ∙ ap Some (c.2.1 ∙ ap isa.Goto f)

  -- code of copies stands behind the start block
  halts : (p : Position) → lands g.program p ≡ true → is_copy p.block ≡ true → place_in blocks at placed handler image watch limit p ≢ watch.halt
  unfolding b0
  halts p ok out same =
      let f = lands_found blocks at placed handler image watch limit a p ok in
      by f.number f.block f.start f.in_blocks f.in_at (ap is_copy f.named ∙ out) (place_is blocks at placed handler image watch limit a p f) where
        by : (n : ℕ) (block : SymBlock) (start : ℕ) → slice_get blocks n ≡ Some block → slice_get at n ≡ Some start → is_copy block.name ≡ true → place_in blocks at placed handler image watch limit p ≡ start + words_in (take p.index (block_in blocks p.block)) → ⊥
        by zero block start e1 e2 c pl =
            let q : a.start.0 ≡ block = some_eq a.start.0 block (sym a.start.1 ∙ e1) in
            let z : is_copy Start ≡ true = ap is_copy (sym a.start.2 ∙ ap (λ (v : SymBlock). v.name) q) ∙ c in absurd (cc)
        by (suc k) block start e1 e2 c pl =
            let bf = behind_first blocks at a.fit k block a.start.0 start 0 a.start.1 first'.0 e1 e2 in
            let w = halts_below in let l = ap words_in first'.1 in
            omega arith

  -- ---- the vector
  module _ (hd : ℕ) (v : HasVector LS hd) where
    abbrev jump : List Sym
    jump = syms.Goto (targets.Block (Copy hd)) ∷ []

    abbrev X : List Sym
    X = saving ++ (v.selects ++ jump)

    abbrev back_rest : List Sym
    back_rest = syms.Label Restore ∷ (nine ++ v.behind)

    vector_list : LS ≡ v.before ++ (X ++ back_rest)
    vector_list =
        v.whole ∙ append_assoc (((v.before ++ saving) ++ v.selects) ++ jump) restoring v.behind
        ∙ ap (λ z. z ++ (restoring ++ v.behind)) (append_assoc (v.before ++ saving) v.selects jump ∙ append_assoc v.before saving (v.selects ++ jump))
        ∙ append_assoc v.before X (restoring ++ v.behind)

    sel : (are_words v.selects ≡ true) × (halts_nowhere v.selects ≡ true)
    sel = selects_are hd v.selects v.of_page

    X_words : are_words X ≡ true
    X_words = both_words saving (v.selects ++ jump) refl (both_words v.selects jump sel.0 refl)

    X_nowhere : halts_nowhere X ≡ true
    X_nowhere = nowhere_both saving (v.selects ++ jump) refl (nowhere_both v.selects jump sel.1 refl)

    X_length : length X ≡ 8 + length v.selects
    X_length = let p = length-append saving (v.selects ++ jump) in let q = length-append v.selects jump in omega arith

    index_of : ℕ → ℕ
    index_of k = length v.before + k

    X_at : (k : ℕ) (s : Sym) → slice_get X k ≡ Some s → slice_get LS (length v.before + k) ≡ Some s
    X_at k s e = ap (λ (xs : List Sym). slice_get xs (length v.before + k)) vector_list ∙ get_behind v.before (X ++ back_rest) k ∙ get_front X back_rest k s e

    X_place : (k : ℕ) → k ≤ length X → words_in (take (length v.before + k) LS) ≡ 4 + k
    X_place k le =
        let w = words_behind v.before (X ++ back_rest) k in
        let t = words_take X back_rest k X_words le in
        let f = v.four in
        ap (λ (xs : List Sym). words_in (take (length v.before + k) xs)) vector_list ∙ (omega arith)

    X_code : (k : ℕ) (s : Sym) → k < length X → slice_get X k ≡ Some s → (n : Ins) × (row_of (slice_index image (4 + k)) ≡ Some n) × Means g h (position Start (length v.before + k)) s n
    X_code k s lt e =
        let c = at_start (length v.before + k) s (X_at k s e) (word_at X k s X_words e) in
        (c.0, ap (λ z. row_of (slice_index image z)) (sym (X_place k (omega arith))) ∙ c.1, c.2)

    saved_at : (k : ℕ) → k < 7 → row_of (slice_index image (4 + k)) ≡ Some (saving_ins k)
    saved_at zero lt = let l = X_length in let c = X_code 0 (syms.Movwf (operands.Saved cells.W)) (omega arith) refl in c.1 ∙ ap Some c.2
    saved_at (suc zero) lt = let l = X_length in let c = X_code 1 (to_w file_ops.Swapf (operands.Register registers.Status)) (omega arith) refl in c.1 ∙ ap Some c.2
    saved_at (suc (suc zero)) lt = let l = X_length in let c = X_code 2 (syms.Movwf (operands.Saved cells.Status)) (omega arith) refl in c.1 ∙ ap Some c.2
    saved_at (suc (suc (suc zero))) lt = let l = X_length in let c = X_code 3 (to_w file_ops.Movf (operands.Register registers.Fsr)) (omega arith) refl in c.1 ∙ ap Some c.2
    saved_at (suc (suc (suc (suc zero)))) lt = let l = X_length in let c = X_code 4 (syms.Movwf (operands.Saved cells.Fsr)) (omega arith) refl in c.1 ∙ ap Some c.2
    saved_at (suc (suc (suc (suc (suc zero))))) lt = let l = X_length in let c = X_code 5 (to_w file_ops.Movf (operands.Register registers.Pclath)) (omega arith) refl in c.1 ∙ ap Some c.2
    saved_at (suc (suc (suc (suc (suc (suc zero)))))) lt = let l = X_length in let c = X_code 6 (syms.Movwf (operands.Saved cells.Pclath)) (omega arith) refl in c.1 ∙ ap Some c.2
    saved_at (suc (suc (suc (suc (suc (suc (suc k))))))) lt = absurd (omega arith)

    selected_at : (j : ℕ) → j < length v.selects → row_of (slice_index image (11 + j)) ≡ Some (page_row (bit_of (slice_get v.selects j)) (g.page_of (Copy hd)))
    selected_at j lt =
        let l = X_length in
        let s = select_at hd v.selects j v.of_page lt in
        let e : slice_get X (7 + j) ≡ Some (syms.SelectPage s.bit s.target) = get_behind saving (v.selects ++ jump) j ∙ get_front v.selects jump j (syms.SelectPage s.bit s.target) s.at in
        let c = X_code (7 + j) (syms.SelectPage s.bit s.target) (omega arith) e in
        let n : 4 + (7 + j) ≡ 11 + j = omega arith in
        ap (λ z. row_of (slice_index image z)) (sym n) ∙ c.1 ∙ ap Some (c.2 ∙ ap (λ z. page_row s.bit (g.page_of z)) s.leads ∙ ap (λ z. page_row z (g.page_of (Copy hd))) (sym (ap bit_of s.at)))

    jump_code : (n : Ins) × (row_of (slice_index image (4 + (7 + (length v.selects + 0)))) ≡ Some n) × Means g h (position Start (length v.before + (7 + (length v.selects + 0)))) (syms.Goto (targets.Block (Copy hd))) n
    jump_code =
        let l = X_length in
        X_code (7 + (length v.selects + 0)) (syms.Goto (targets.Block (Copy hd))) (omega arith) (get_behind saving (v.selects ++ jump) (length v.selects + 0) ∙ get_behind v.selects jump 0)

    copy_small : (o : Option ℕ) → block_place blocks at (Copy hd) ≡ o → known o / page_words < 4
    copy_small None e = omega arith
    copy_small (Some address) e =
        let q = a.targets b0 0 (targets.Block (Copy hd)) address e in
        let r = room blocks at a.fit q.0 q.1 address q.2 q.3 in let z = r.0 in omega arith

    -- where the context is given back
    restore_index : ℕ
    restore_index = length v.before + length X

    restore_from : label_from LS Restore 0 ≡ Some (length v.before + length X)
    restore_from =
        ap (λ (xs : List Sym). label_from xs Restore 0) vector_list ∙ label_behind v.before (X ++ back_rest) Restore 0 v.first
        ∙ label_behind X back_rest Restore (0 + length v.before) (no_label X Restore (0 + length v.before) X_words)
        ∙ ap Some (let z : 0 + length v.before + length X ≡ length v.before + length X = omega arith in z)

    restore_words : known (label_place blocks at Restore) ≡ 4 + length X
    restore_words = ap known (label_is Restore (length v.before + length X) restore_from) ∙ X_place (length X) (omega arith)

    nine_at : (k : ℕ) (s : Sym) → slice_get nine k ≡ Some s → slice_get LS (length v.before + (length X + suc k)) ≡ Some s
    nine_at k s e =
        ap (λ (xs : List Sym). slice_get xs (length v.before + (length X + suc k))) vector_list ∙ get_behind v.before (X ++ back_rest) (length X + suc k) ∙ get_behind X back_rest (suc k) ∙ get_front nine v.behind k s e

    nine_place : (k : ℕ) → k ≤ 9 → words_in (take (length v.before + (length X + suc k)) LS) ≡ 4 + length X + k
    nine_place k le =
        let w1 = words_behind v.before (X ++ back_rest) (length X + suc k) in
        let w2 = words_behind X back_rest (suc k) in
        let w3 = words_cons (syms.Label Restore) (take k (nine ++ v.behind)) in
        let w4 = words_take nine v.behind k refl le in
        let w5 = words_all X X_words in
        let f = v.four in
        ap (λ (xs : List Sym). words_in (take (length v.before + (length X + suc k)) xs)) vector_list ∙ (omega arith)

    restore_small : 4 + length X + 9 ≤ 2048
    restore_small =
        let w = word_below LS (length v.before + (length X + 9)) (syms.Plain plain_ops.Retfie) (nine_at 8 (syms.Plain plain_ops.Retfie) refl) refl in
        let p = nine_place 8 (omega arith) in let s = start_small in omega arith

    restore_short : 4 + length X + 9 ≤ words_in LS
    restore_short =
        let w = word_below LS (length v.before + (length X + 9)) (syms.Plain plain_ops.Retfie) (nine_at 8 (syms.Plain plain_ops.Retfie) refl) refl in
        let p = nine_place 8 (omega arith) in omega arith

    restore_is : h.restore ≡ 4 + length X
    restore_is = let e = restore_words in let s = restore_small in omega arith

    nine_code : (k : ℕ) (s : Sym) → k < 9 → slice_get nine k ≡ Some s → (n : Ins) × (row_of (slice_index image (h.restore + k)) ≡ Some n) × Means g h (position Start (length v.before + (length X + suc k))) s n
    nine_code k s lt e =
        let c = at_start (length v.before + (length X + suc k)) s (nine_at k s e) (word_at nine k s refl e) in
        let n : words_in (take (length v.before + (length X + suc k)) LS) ≡ h.restore + k = let p = nine_place k (omega arith) in let r = restore_is in omega arith in
        (c.0, ap (λ z. row_of (slice_index image z)) (sym n) ∙ c.1, c.2)

    restored_at : (k : ℕ) → k < 9 → row_of (slice_index image (h.restore + k)) ≡ Some (restoring_ins k)
    restored_at zero lt = let c = nine_code 0 (to_w file_ops.Movf (operands.Saved cells.Pclath)) (omega arith) refl in c.1 ∙ ap Some c.2
    restored_at (suc zero) lt = let c = nine_code 1 (syms.Movwf (operands.Register registers.Pclath)) (omega arith) refl in c.1 ∙ ap Some c.2
    restored_at (suc (suc zero)) lt = let c = nine_code 2 (to_w file_ops.Movf (operands.Saved cells.Fsr)) (omega arith) refl in c.1 ∙ ap Some c.2
    restored_at (suc (suc (suc zero))) lt = let c = nine_code 3 (syms.Movwf (operands.Register registers.Fsr)) (omega arith) refl in c.1 ∙ ap Some c.2
    restored_at (suc (suc (suc (suc zero)))) lt = let c = nine_code 4 (to_w file_ops.Swapf (operands.Saved cells.Status)) (omega arith) refl in c.1 ∙ ap Some c.2
    restored_at (suc (suc (suc (suc (suc zero))))) lt = let c = nine_code 5 (syms.Movwf (operands.Register registers.Status)) (omega arith) refl in c.1 ∙ ap Some c.2
    restored_at (suc (suc (suc (suc (suc (suc zero)))))) lt = let c = nine_code 6 (syms.File file_ops.Swapf (operands.Saved cells.W) into.File) (omega arith) refl in c.1 ∙ ap Some c.2
    restored_at (suc (suc (suc (suc (suc (suc (suc zero))))))) lt = let c = nine_code 7 (to_w file_ops.Swapf (operands.Saved cells.W)) (omega arith) refl in c.1 ∙ ap Some c.2
    restored_at (suc (suc (suc (suc (suc (suc (suc (suc zero)))))))) lt = let c = nine_code 8 (syms.Plain plain_ops.Retfie) (omega arith) refl in c.1 ∙ ap Some c.2
    restored_at (suc (suc (suc (suc (suc (suc (suc (suc (suc k))))))))) lt = absurd (omega arith)

    -- nothing of it stands at the halt address
    elsewhere : (i : ℕ) (s : Sym) → slice_get LS i ≡ Some s → is_word (Some s) ≡ true → is_halting s ≡ false → words_in (take i LS) ≢ watch.halt
    elsewhere i s e w n same =
        let t = first_turn hh.selects hh.of_page in
        let l = Z_length in
        let here = Z_at 0 t.sym' t.at in
        let p : words_in (take (length hh.before + 1) LS) ≡ watch.halt + 0 = Z_place 0 (omega arith) in
        let once = word_once LS i (length hh.before + 1) s t.sym' e here w t.word (omega arith) in
        let q : s ≡ t.sym' = some_eq s t.sym' (sym e ∙ ap (slice_get LS) once ∙ here) in
        let f : true ≡ false = sym t.halting ∙ ap is_halting (sym q) ∙ n in absurd (cc)

    vector : Vector g h image hd
    vector = record {
      count = length v.selects;
      few = let f = v.few in omega arith;
      bit = λ j. bit_of (slice_get v.selects j);
      saves = saved_at;
      selects = selected_at;
      low = low_at hd v.selects v.of_page (left_of (has_low v.selects) (has_high v.selects) v.both);
      high = high_at hd v.selects v.of_page (right_of (has_low v.selects) (has_high v.selects) v.both);
      field = jump_code.2.0;
      goes = (let n : 4 + (7 + (length v.selects + 0)) ≡ 11 + length v.selects = omega arith in ap (λ z. row_of (slice_index image z)) (sym n)) ∙ jump_code.1 ∙ ap Some jump_code.2.1;
      leads = λ ok. jump_code.2.2.1 (front g.program (Copy hd)) refl ok;
      page_small = copy_small (block_place blocks at (Copy hd)) refl;
      restores = restored_at;
      fits = let e = restore_is in let s = restore_small in omega arith;
      within = let s = restore_short in let l = X_length in omega arith;
      within_back = let e = restore_is in let s = restore_short in omega arith;
      clear = λ k lt same.
          let l = X_length in
          let s = exists_at X k (omega arith) in
          elsewhere (length v.before + k) s.0 (X_at k s.0 s.1) (word_at X k s.0 X_words s.1) (nowhere_at X k s.0 X_nowhere s.1) (X_place k (omega arith) ∙ same);
      clear_back = λ k lt same.
          let s = exists_at nine k lt in
          let r = restore_is in
          elsewhere (length v.before + (length X + suc k)) s.0 (nine_at k s.0 s.1) (word_at nine k s.0 refl s.1) (nowhere_at nine k s.0 refl s.1) (let p = nine_place k (omega arith) in omega arith);
    }

  -- ---- all that is known of the image
  abbrev pub hd : ℕ
  hd = known handler

  pub only : (k : ℕ) → g.program.handler ≡ Some k → g.program.handler ≡ Some hd
  only k e = e ∙ ap Some (sym (ap known e))

  vector_for : (o : Option ℕ) → handler ≡ o → HasVectorFor LS o → g.program.handler ≡ Some hd → Vector g h image hd
  vector_for None e w is = absurd (none_some hd (sym e ∙ is))
  vector_for (Some k) e w is = let q : k ≡ hd = sym (ap known e) in vector hd (subst (HasVector LS) q w)

  depth_false : (o : Option ℕ) (l : Bool → ℕ) → depth_for o l ≤ 8 → l false ≤ 8
  depth_false None l le = le
  depth_false (Some k) l le = omega arith

  depth_both : (o : Option ℕ) (l : Bool → ℕ) (k : ℕ) → o ≡ Some k → depth_for o l ≤ 8 → l false + 1 + l true ≤ 8
  depth_both None l k e le = absurd (none_some k e)
  depth_both (Some j) l k e le = le

  pub is_image : (input : List ℕ) → ((k : ℕ) → slice_index input k < 256) → IsImage g h image input hd
  is_image input small = record {
    reaches = a.reaches;
    laid = a.laid_out;
    placed = are_placed blocks at placed handler image watch limit a halt_small;
    banked = refl;
    vector = vector_for handler refl a.vector;
    outside = a.outside;
    main_depth = depth_false handler limit a.depth;
    depth = λ is. depth_both handler limit hd is a.depth;
    halts = halts;
    turns = length hh.selects;
    bit = λ k. bit_of (slice_get hh.selects k);
    selects = turns;
    stays = stays;
    halt_small = let w = halts_below in let s = start_small in omega arith;
    within = halts_below;
    turn = 0;
    turn_small = omega arith;
    rests = (let z : watch.halt ≡ watch.halt + 0 = omega arith in z);
    small = small;
  }

  pub is_below : (end : ℕ) → EndsBy blocks at end → IsBelow g h end
  unfolding b0
  is_below end ends = record {
    code = place_ends blocks at placed handler image watch limit a end ends;
    start = let r = ends 0 a.start.0 0 a.start.1 first'.0 in let l = ap words_in first'.1 in omega arith;
  }

  pub main_place : place_in blocks at placed handler image watch limit (front g.program (Copy 0)) ≡ watch.main
  main_place = front_place blocks at placed handler image watch limit a (Copy 0) ∙ ap known a.main
