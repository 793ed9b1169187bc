-- Instructions that ask for no bank but that of one frame cost its selects once.
use Rattle.std.proofs.Common.{◌≡◌, ℕ, zero, suc, ◌+◌, ◌/◌, ◌<◌, ◌≤◌, Bool, true, false, not, ◌&&◌, ◌||◌, nat_eq, if◌then◌else◌, List, [], ◌∷◌, ◌++◌, length, take, drop, take-append-drop, Option, Some, None, refl, sym, ap, ◌∙◌, subst, ne_eqb, arith}
use Rattle.core_code.specs.declared.code.Byte.{Byte}
use Rattle.core_code.specs.declared.code.Byte.TheVariants as bytes
use Rattle.pic_map.specs.declared.Placed.{Placed}
use Rattle.sym_code.specs.Selects.{is_select}
use Rattle.sym_code.specs.Touching.{is_file, is_bit_write}
use Rattle.sym_code.specs.declared.code.BitOperation.{BitOperation}
use Rattle.sym_code.specs.declared.code.BitOperation.TheVariants.{Btfsc, Btfss}
use Rattle.sym_code.specs.declared.code.BlockName.{BlockName}
use Rattle.sym_code.specs.declared.code.LiteralOperation.TheVariants.{Retlw}
use Rattle.sym_code.specs.declared.code.Operand.TheVariants as operands
use Rattle.sym_code.specs.declared.code.PlainOperation.TheVariants.{Return, Retfie}
use Rattle.sym_code.specs.declared.code.Register.TheVariants.{Status}
use Rattle.sym_code.specs.declared.code.Sym.{Sym}
use Rattle.sym_code.specs.declared.code.Sym.TheVariants as syms
use Rattle.code_place.specs.Addresses.{address_of}
use Rattle.math_helpers.specs.Shape.{is_in_frame, jumps, select_words, is_straight, sum_from}
use Rattle.select_wide.specs.Links.{IsNearByte, IsNear, AreNear}
use Rattle.bank_page.specs.Kinds.{is_label, is_skip, byte_named, byte_of}
use Rattle.bank_page.specs.Known.{is_status, is_pclath, writes_status, writes_pclath, is_of_bit, ends, after}
use Rattle.bank_page.specs.Links.{price_from}
use Rattle.bank_page.specs.Needs.{banked_at, banked, needs_in}
use Rattle.bank_page.specs.Step.{missing_for, known_with, state_of, selected_from}
use Rattle.bank_page.specs.declared.known.Known.{Known}
use Rattle.bank_page.specs.declared.needs.Needs.{Needs}
use Rattle.bank_page.specs.declared.selecting.State.{State}
use Rattle.bank_page.proofs.Chains.{needs_step}
use Rattle.bank_trace.proofs.Puts.{never, count_of, count, after_one, priced_first, priced_later, sum_same, sum_shift}
use Rattle.bank_trace.proofs.Straight.{has_none, none_first, none_later, straight_once, straight_first, straight_last, straight_later}
use Rattle.bank_trace.proofs.Dear.{none_front, sum_later, nothing_taken}
use Rattle.bank_trace.proofs.Owned.{and_none, IsTame, AllTame, tame_of}
use Rattle.bank_trace.proofs.Meets.{Meets, meets_none, meets_after, few_missing, meets_with}
use Rattle.bank_trace.proofs.Chained.{acc, jmp, Fits, needs_fit}
use Rattle.bank_trace.proofs.Tracks.{sum_of, next_known_behind, next_known_free, count_free, next_behind}

-- ---- an instruction
module _ (placed : Placed) (own : BlockName) (bank c size : ℕ) (frame_bank : (offset : ℕ) → offset < size → (at : ℕ) × (address_of placed (bytes.Frame c offset) ≡ Some at) × (at / 128 ≡ bank)) where
  near_needs : (byte : Byte) → IsNearByte c size byte → banked placed (byte_named (operands.Byte byte)) ≡ Some (if is_in_frame (operands.Byte byte) then Some bank else None)
  near_needs (bytes.Frame d k) h =
      let f = frame_bank k h.1 in
      ap (λ n. banked_at (address_of placed (bytes.Frame n k))) h.0 ∙ ap banked_at f.1 ∙ ap (λ n. Some (Some n)) f.2
  near_needs (bytes.Result r k) h = refl
  near_needs byte h = absurd h

  near_status : (byte : Byte) → IsNearByte c size byte → is_status (operands.Byte byte) ≡ false
  near_status (bytes.Frame d k) h = refl
  near_status (bytes.Result r k) h = refl
  near_status byte h = absurd h

  near_pclath : (byte : Byte) → IsNearByte c size byte → is_pclath (operands.Byte byte) ≡ false
  near_pclath (bytes.Frame d k) h = refl
  near_pclath (bytes.Result r k) h = refl
  near_pclath byte h = absurd h

  below_five : (k n : ℕ) → k < 5 → 5 ≤ n → nat_eq k n ≡ false
  below_five k n l m = ne_eqb k n (λ e. absurd (omega arith))

  flag_skip : (op : BitOperation) (k : ℕ) → is_skip (syms.Bit op (operands.Register Status) k) ≡ true → (writes_status (syms.Bit op (operands.Register Status) k) || writes_pclath (syms.Bit op (operands.Register Status) k)) ≡ false
  flag_skip Btfsc k e = refl
  flag_skip Btfss k e = refl
  flag_skip op k e = never e

  near_tame : (s : Sym) → IsNear c size s → IsTame placed own bank s
  near_tame (syms.File op (operands.Byte b) into) h = tame_of placed own bank (syms.File op (operands.Byte b) into) (operands.Byte b) (is_file into) refl refl refl refl refl (near_needs b h) (near_status b h) (near_pclath b h)
  near_tame (syms.Movwf (operands.Byte b)) h = tame_of placed own bank (syms.Movwf (operands.Byte b)) (operands.Byte b) true refl refl refl refl refl (near_needs b h) (near_status b h) (near_pclath b h)
  near_tame (syms.Clrf (operands.Byte b)) h = tame_of placed own bank (syms.Clrf (operands.Byte b)) (operands.Byte b) true refl refl refl refl refl (near_needs b h) (near_status b h) (near_pclath b h)
  near_tame (syms.Bit op (operands.Byte b) k) h = tame_of placed own bank (syms.Bit op (operands.Byte b) k) (operands.Byte b) (is_bit_write op) refl refl refl refl refl (near_needs b h) (near_status b h) (near_pclath b h)
  near_tame (syms.Bit op (operands.Register Status) k) h = record {
    needs = refl;
    page = refl;
    rp0 = and_none (writes_status (syms.Bit op (operands.Register Status) k)) (nat_eq k 5) (below_five k 5 h (omega arith));
    rp1 = and_none (writes_status (syms.Bit op (operands.Register Status) k)) (nat_eq k 6) (below_five k 6 h (omega arith));
    pages = and_none (is_bit_write op) (is_pclath (operands.Register Status)) refl;
    skip = λ e. (flag_skip op k e, refl);
    keeps = λ e. refl;
  }
  near_tame (syms.Literal Retlw value) h = absurd h
  near_tame (syms.Literal op value) h = record { needs = refl; page = refl; rp0 = refl; rp1 = refl; pages = refl; skip = λ e. never e; keeps = λ e. refl }
  near_tame (syms.Plain op) h = record { needs = refl; page = refl; rp0 = refl; rp1 = refl; pages = refl; skip = λ e. never e; keeps = λ e. refl }
  near_tame s h = absurd h

  near_ends : (s : Sym) → IsNear c size s → ends s ≡ false
  near_ends (syms.File op file into) h = refl
  near_ends (syms.Movwf file) h = refl
  near_ends (syms.Clrf file) h = refl
  near_ends (syms.Bit op file k) h = refl
  near_ends (syms.Literal Retlw value) h = absurd h
  near_ends (syms.Literal op value) h = refl
  near_ends (syms.Plain Return) h = absurd h
  near_ends (syms.Plain Retfie) h = absurd h
  near_ends (syms.Plain op) h = refl
  near_ends s h = absurd h

  near_jumps : (s : Sym) → IsNear c size s → jumps s ≡ false
  near_jumps (syms.Goto target) h = absurd h
  near_jumps s h = refl

  all_tame : (part : List Sym) → AreNear c size part → AllTame placed own bank part
  all_tame [] h = tt
  all_tame (s ∷ part) h = (near_tame s h.0, all_tame part h.1)

  near_jmp : (part : List Sym) → AreNear c size part → jmp part ≡ false
  near_jmp [] h = refl
  near_jmp (s ∷ part) h = by_skip (is_skip s) (near_jmp part h.1)
    where
      by_skip : (b : Bool) → jmp part ≡ false → (if b then jmp part else jumps s) ≡ false
      by_skip true e = e
      by_skip false e = near_jumps s h.0

  -- ---- straight instructions
  -- what a run of skips and the instruction behind it need doesn't depend on what stands behind that
  needs_front : (s : Sym) (part rest : List Sym) → is_straight (s ∷ part) ≡ true → has_none (s ∷ part) ≡ true → needs_in placed (s ∷ part ++ rest) ≡ needs_in placed (s ∷ part)
  needs_front s [] rest e none =
      let change = writes_status s || writes_pclath s in
      let at : List Sym → Bool → Bool → Option Needs = λ l b k. needs_step b (is_label s) k change s (banked placed (byte_of s)) (needs_in placed l) in
      let f = none_first s [] none in
      let k = straight_last s e in
      ap (λ (b : Bool). at rest b (is_skip s)) f ∙ ap (at rest false) k ∙ sym (ap (λ (b : Bool). at [] b (is_skip s)) f ∙ ap (at [] false) k)
  needs_front s (t ∷ part) rest e none =
      ap (needs_step (is_select s) (is_label s) (is_skip s) (writes_status s || writes_pclath s) s (banked placed (byte_of s))) (needs_front t part rest (straight_later s (t ∷ part) e) (none_later s (t ∷ part) none))

  -- the selects of the frame's bank, where it isn't selected
  abbrev left_words : Bool → ℕ
  left_words has = if has then 0 else 2

  fewer : (has a : Bool) → select_words has a + left_words (has || a) ≤ left_words has
  fewer true true = omega arith
  fewer true false = omega arith
  fewer false true = omega arith
  fewer false false = omega arith

  no_jump_words : (j : Bool) → j ≡ false → select_words false j ≡ 0
  no_jump_words true e = never (sym e)
  no_jump_words false e = refl

  abbrev Later : List Sym → List Sym → Bool → Type 0
  Later part rest has = (st : State) → Meets own bank has false st.known → sum_of placed own bank st part rest ≤ length part + left_words has

  ends_not : (s : Sym) (b : Bool) → IsNear c size s → (ends s && b) ≡ false
  ends_not s b h = ap (λ (e : Bool). e && b) (near_ends s h)

  near_free : (s : Sym) (part rest : List Sym) (k : Known) (has : Bool) → AreNear c size (s ∷ part) → has_none (s ∷ part ++ rest) ≡ true → is_straight (s ∷ part) ≡ true → Meets own bank has false k
      → ((h : Bool) → Later part rest h) → (o : Option Needs) → needs_in placed (s ∷ part ++ rest) ≡ o
      → sum_of placed own bank (record { known = k; behind = false }) (s ∷ part) rest ≤ length (s ∷ part) + left_words has
  near_free s part rest k has near none straight h later None is =
      let st : State = record { known = k; behind = false } in
      let no_select = none_first s (part ++ rest) none in
      let label = straight_first s part straight in
      let next = after_one placed own st s (part ++ rest) no_select in
      let first = priced_first placed own st s (part ++ rest) no_select label (straight_once s part straight) in
      let others = sum_later placed own st s (part ++ rest) part no_select in
      let number : count placed own st s (part ++ rest) no_select ≡ 0 =
      ap (λ (b : Bool). count_of b own st (needs_in placed (s ∷ part ++ rest))) label ∙ ap (count_of false own st) is in
      let known : next.known ≡ after k s false =
      ap (λ (b : Bool). (state_of b (is_label s) own st s (needs_in placed (s ∷ part ++ rest))).known) no_select
      ∙ ap (λ (b : Bool). (state_of false b own st s (needs_in placed (s ∷ part ++ rest))).known) label
      ∙ ap (λ (n : Option Needs). (state_of false false own st s n).known) is in
      let met = meets_after placed own bank has false k s false (near_tame s near.0) label (ends_not s true near.0) h in
      let sum = later has next (subst (Meets own bank has false) (sym known) met) in
      omega arith
  near_free s part rest k has near none straight h later (Some m) is =
      let st : State = record { known = k; behind = false } in
      let no_select = none_first s (part ++ rest) none in
      let label = straight_first s part straight in
      let next = after_one placed own st s (part ++ rest) no_select in
      let first = priced_first placed own st s (part ++ rest) no_select label (straight_once s part straight) in
      let others = sum_later placed own st s (part ++ rest) part no_select in
      let front = none_front (s ∷ part) rest none in
      let fits = needs_fit placed own bank (s ∷ part) m (all_tame (s ∷ part) near) front (sym (needs_front s part rest straight front) ∙ is) in
      let a = acc (s ∷ part) in
      let j = jmp (s ∷ part) in
      let no_jump = near_jmp (s ∷ part) near in
      let few = few_missing own bank k m has false a j h fits.bank fits.page in
      let less = fewer has a in
      let none_of = no_jump_words j no_jump in
      let number = count_free placed own bank k s (part ++ rest) no_select label m is in
      let known = next_known_free placed own bank k s (part ++ rest) no_select label m is in
      let with = meets_with own bank k m has false a j h fits.bank fits.page in
      let with_bank : Meets own bank (has || a) false (known_with own k m) = subst (λ (b : Bool). Meets own bank (has || a) b (known_with own k m)) no_jump with in
      let met = meets_after placed own bank (has || a) false (known_with own k m) s false (near_tame s near.0) label (ends_not s true near.0) with_bank in
      let sum = later (has || a) next (subst (Meets own bank (has || a) false) (sym known) met) in
      omega arith

  near_behind : (s : Sym) (part rest : List Sym) (k : Known) (has : Bool) → AreNear c size (s ∷ part) → has_none (s ∷ part ++ rest) ≡ true → is_straight (s ∷ part) ≡ true → Meets own bank has false k
      → ((h : Bool) → Later part rest h) → sum_of placed own bank (record { known = k; behind = true }) (s ∷ part) rest ≤ length (s ∷ part) + left_words has
  near_behind s part rest k has near none straight h later =
      let st : State = record { known = k; behind = true } in
      let no_select = none_first s (part ++ rest) none in
      let label = straight_first s part straight in
      let next = after_one placed own st s (part ++ rest) no_select in
      let first = priced_first placed own st s (part ++ rest) no_select label (straight_once s part straight) in
      let others = sum_later placed own st s (part ++ rest) part no_select in
      let known = next_known_behind placed own bank k s (part ++ rest) no_select in
      let met = meets_after placed own bank has false k s true (near_tame s near.0) label (ends_not s false near.0) h in
      let sum = later has next (subst (Meets own bank has false) (sym known) met) in
      omega arith

  near_front : (part rest : List Sym) (k : Known) (b has : Bool) → AreNear c size part → has_none (part ++ rest) ≡ true → is_straight part ≡ true → Meets own bank has false k
      → sum_of placed own bank (record { known = k; behind = b }) part rest ≤ length part + left_words has
  near_front [] rest k b has near none straight h = omega arith
  near_front (s ∷ part) rest k true has near none straight h =
      near_behind s part rest k has near none straight h (λ e st m. near_front part rest st.known st.behind e near.1 (none_later s (part ++ rest) none) (straight_later s part straight) m)
  near_front (s ∷ part) rest k false has near none straight h =
      near_free s part rest k has near none straight h (λ e st m. near_front part rest st.known st.behind e near.1 (none_later s (part ++ rest) none) (straight_later s part straight) m) (needs_in placed (s ∷ part ++ rest)) refl

  no_part : (price : ℕ → ℕ) (n : ℕ) (part : List Sym) → [] ≡ part → sum_from price n part ≤ length part + 2
  no_part price n [] e = omega arith
  no_part price n (s ∷ part) e = absurd (cc)

  pub near_at : (n : ℕ) (list : List Sym) (st : State) → has_none list ≡ true → (part : List Sym) → take (length part) (drop n list) ≡ part → is_straight part ≡ true → AreNear c size part
      → sum_from (price_from 0 (selected_from placed own st list)) n part ≤ length part + 2
  near_at zero list st none part is e near =
      let whole : part ++ drop (length part) list ≡ list = ap (λ (xs : List Sym). xs ++ drop (length part) list) (sym is) ∙ take-append-drop (length part) list in
      let P : List Sym → Type 0 = λ l. has_none l ≡ true → sum_from (price_from 0 (selected_from placed own st l)) 0 part ≤ length part + 2 in
      subst P whole (λ n. near_front part (drop (length part) list) st.known st.behind false near n e (meets_none own bank st.known)) none
  near_at (suc n) [] st none part is e near = no_part (price_from 0 (selected_from placed own st [])) (suc n) part (sym (nothing_taken placed own (length part) [] refl) ∙ is)
  near_at (suc n) (s ∷ list) st none part is e near =
      let no_select = none_first s list none in
      let p = price_from 0 (selected_from placed own st (s ∷ list)) in
      let next = after_one placed own st s list no_select in
      let later = near_at n list next (none_later s list none) part is e near in
      let same = sum_shift p n part ∙ sum_same (λ k. p (suc k)) (price_from 0 (selected_from placed own next list)) (priced_later placed own st s list no_select) n part in
      omega arith
