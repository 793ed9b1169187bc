-- Addresses, and FSR and IRP.
use Rattle.std.proofs.Common.{◌≡◌, ℕ, suc, ◌+◌, ◌%◌, ◌<◌, ◌≤◌, Bool, true, false, nat_eq, nat_lt, if◌then◌else◌, List, [], ◌∷◌, length, Option, Some, None, refl, sym, ap, ◌∙◌, subst, arith}
use Rattle.pic_world.specs.Bits.{bit, truth}
use Rattle.pic_world.specs.World.{World}
use Rattle.core_code.specs.Bytes as bytes
use Rattle.core_code.specs.Bytes.{Held, Part, Object, Fixed, FrameOf, Place, byte_in, behind, with_bytes}
use Rattle.core_code.specs.Machine as core
use Rattle.core_code.specs.Machine.{Task, Waiting, static_bytes, is_own, is_valid, writes, when, address_of}
use Rattle.core_code.specs.Values.{Pointer, byte_of}
use Rattle.core_code.specs.declared.code.Byte.{Byte}
use Rattle.core_code.specs.declared.code.Byte.TheVariants.{Static, Frame, Result, Device}
use Rattle.sym_code.specs.Effect.{Memory, with_byte, write, Silent, Quiet, effect_of, access_of, access_by, general_access, pointed_access, Denied, Stuck, literal_value, test}
use Rattle.sym_code.specs.Layout as layouts
use Rattle.sym_code.specs.Layout.{address_byte, general_at, owner, shown, all_near, is_covered}
use Rattle.sym_code.specs.Machine.{Machine}
use Rattle.sym_code.specs.Programs.{Position, position, onward}
use Rattle.sym_code.specs.Registers.{Registers, Fits, pointer, after_row, result_with, flags_with, skips_with}
use Rattle.sym_code.specs.declared.code.BitOperation.TheVariants.{Bcf, Bsf, Btfsc}
use Rattle.sym_code.specs.declared.code.BlockName.TheVariants as names
use Rattle.sym_code.specs.declared.code.FileOperation.TheVariants.{Incf}
use Rattle.sym_code.specs.declared.code.Into.TheVariants as into
use Rattle.sym_code.specs.declared.code.Literal.{Literal}
use Rattle.sym_code.specs.declared.code.Literal.TheVariants as literals
use Rattle.sym_code.specs.declared.code.LiteralOperation.TheVariants.{Movlw}
use Rattle.sym_code.specs.declared.code.Operand.TheVariants as operands
use Rattle.sym_code.specs.declared.code.Register.TheVariants.{Fsr, Indf, Status}
use Rattle.sym_code.specs.declared.code.Sym.{Sym}
use Rattle.sym_code.specs.declared.code.Sym.TheVariants as syms
use Rattle.select_code.specs.Pieces.{byte_behind}
use Rattle.select_wide.specs.Pointers.{address_code}
use Rattle.select_trace.proofs.Truths.{and_left, and_right, lt_of, le_of, same_nat}
use Rattle.select_trace.proofs.Standing.{Has}
use Rattle.select_trace.proofs.Placed as placed
use Rattle.select_trace.proofs.Placed.{slot}
use Rattle.select_trace.proofs.Sites.{Site, layout}
use Rattle.select_trace.proofs.Machines.{at, Calm}
use Rattle.select_trace.proofs.Live.{IsUser, is_live, below, chain_user, user_below, There, one_to_one}
use Rattle.select_trace.proofs.Memory.{InPlace, Shown, agree_put}
use Rattle.select_trace.proofs.Blocks.{block}
use Rattle.select_trace.proofs.Relation.{Left, Went, weaken, After}
use Rattle.select_trace.proofs.Steps.{thread, machine, Fit, stands_at, stays, dear, word}
use Rattle.select_trace.proofs.Access.{own_valid, own_access, movwf_silent}
use Rattle.select_trace.proofs.Tests.{behind_none, own_part, own_behind}
use Rattle.select_trace.proofs.Control.{left_to, here_left, when_after}
use Rattle.select_trace.proofs.Stores.{fit_with, with_small}
use Rattle.select_trace.proofs.Values.{own_agrees}
use Rattle.select_trace.proofs.Prices.{dear_words, one_three}

-- ---- prices of instructions that name no byte by its name
pub dear_one : (x : Sym) (y : List Sym) → dear_words (x ∷ y) ≤ 3 + dear_words y
dear_one x y = let h = one_three x in omega (arith, h)

pub dear_literal : (op : _) (v : Literal) (y : List Sym) → dear_words (syms.Literal op v ∷ y) ≡ 1 + dear_words y
dear_literal op v y = omega arith

pub dear_movwf_register : (r : _) (y : List Sym) → dear_words (syms.Movwf (operands.Register r) ∷ y) ≡ 1 + dear_words y
dear_movwf_register r y = omega arith

pub dear_file_register : (op : _) (r : _) (d : _) (y : List Sym) → dear_words (syms.File op (operands.Register r) d ∷ y) ≡ 1 + dear_words y
dear_file_register op r d y = omega arith

pub dear_bit_register : (op : _) (r : _) (d : ℕ) (y : List Sym) → dear_words (syms.Bit op (operands.Register r) d ∷ y) ≡ 1 + dear_words y
dear_bit_register op r d y = omega arith

-- ---- instructions
module _ (s : Site) (i : Bool) (f n : ℕ) (ps : List Position) (r : Registers) (m : Memory) where
  literal_is : (v : Literal) → effect_of s.g i (position (names.Copy f) n) (thread s f n ps r) m (syms.Literal Movlw v) ≡ Quiet (thread s f (n + 1) ps (record r { w = literal_value (layout s) v })) None
  unfolding effect_of after_row
  literal_is v = refl

  pub to_fsr : effect_of s.g i (position (names.Copy f) n) (thread s f n ps r) m (syms.Movwf (operands.Register Fsr)) ≡ Quiet (thread s f (n + 1) ps (record r { fsr = r.w })) None
  unfolding effect_of access_of
  to_fsr = refl

  pub clears_irp : effect_of s.g i (position (names.Copy f) n) (thread s f n ps r) m (syms.Bit Bcf (operands.Register Status) 7) ≡ Quiet (thread s f (n + 1) ps (record r { irp = 0 })) None
  unfolding effect_of
  clears_irp = refl

  -- only where something stands from 100h on
  pub sets_irp : all_near (layout s) ≡ false → effect_of s.g i (position (names.Copy f) n) (thread s f n ps r) m (syms.Bit Bsf (operands.Register Status) 7) ≡ Quiet (thread s f (n + 1) ps (record r { irp = 1 })) None
  unfolding effect_of
  sets_irp far = ap (λ (c : Bool). if c then Stuck else Quiet (thread s f (n + 1) ps (record r { irp = 1 })) None) far

  pub bit_clear : (b : Byte) (k : ℕ) → access_of s.g i false r (operands.Byte b) ≡ Silent k
      → effect_of s.g i (position (names.Copy f) n) (thread s f n ps r) m (syms.Bit Btfsc (operands.Byte b) 0) ≡ Quiet (record { rest = None; at = Some (onward s.g.program (position (names.Copy f) n) (nat_eq (bit (m k) 0) 0)); stack = ps; registers = r }) None
  unfolding effect_of
  bit_clear b k e = ap (test s.g.program (position (names.Copy f) n) (thread s f n ps r) m (λ x. nat_eq (bit x 0) 0)) e

  -- FSR goes on
  pub advances : effect_of s.g i (position (names.Copy f) n) (thread s f n ps r) m (syms.File Incf (operands.Register Fsr) into.File) ≡ Quiet (thread s f (n + 1) ps (record r { fsr = (r.fsr + 1) % 256; z = truth (nat_eq ((r.fsr + 1) % 256) 0) })) None
  unfolding effect_of access_of result_with flags_with skips_with
  advances = refl

-- what INDF reaches
pub indf_is : (s : Site) (i wr : Bool) (r : Registers) (b : Byte) → There s b → is_covered (layout s) (layouts.address_of (layout s) b) ≡ true → pointer r ≡ layouts.address_of (layout s) b → access_of s.g i wr r (operands.Register Indf) ≡ access_by i wr (slot (layout s) b) (owner (layout s) (slot (layout s) b))
unfolding access_of
indf_is s i wr r b th covered e =
    ap (pointed_access (layout s) i wr) e
    ∙ ap (λ c. if c then general_access (layout s) i wr (general_at (layouts.address_of (layout s) b)) else Denied) covered
    ∙ ap (general_access (layout s) i wr) (placed.stands_in s.q (length s.copies) s.reaches (layout s) s.chosen.layout s.chosen.laid_out b th)

module _ (s : Site) (t : Machine) (wc : World Held) (calm : Calm s wc) (f : ℕ) (pr : Option ℕ) (st : List Waiting) (loops : List ℕ) (ps : List Position) (cm : bytes.Memory) (m : Memory) (fit : Fit s t wc f pr st loops ps cm m) where
  pub a_user : IsUser s f
  a_user = chain_user s f st fit.chain

  w_fits : (r : Registers) (v : ℕ) → v < 256 → Fits r → Fits (record r { w = v })
  w_fits r v lt h = record { w = lt; flags = h.flags; pointer = h.pointer; banks = h.banks; pages = h.pages }

  byte_small : (high : Bool) (a : ℕ) → address_byte high a < 256
  byte_small false a = omega arith
  byte_small true a = omega arith

  own_place : (c k : ℕ) → is_own s.q f (Frame c k) 1 ≡ true → InPlace s (Part (FrameOf c) k false)
  unfolding is_own
  own_place c k o =
      let e = same_nat c f (and_left _ _ o) in
      let le = le_of (k + 1) (s.q.frame_bytes c) (and_right (nat_eq c f) _ o) in
      (user_below s c (subst (IsUser s) (sym e) a_user), omega arith)

  -- two bytes become an address
  pair_goes : (to place : Byte) (object : Object) (offset n : ℕ) (r : Registers) (c : List Task) → Fits r → byte_in object offset ≡ place → InPlace s (Part object offset false) → Has (block s f) n (address_code to place) → Left s f loops (n + 4) c → is_own s.q f to 2 ≡ true
      → Went s (at s t (thread s f n ps r) m wc) (machine f pr c st (with_bytes cm to 2 (byte_of (Pointer (record { object = object; offset = offset })))) wc) 0 8
  unfolding shown
  pair_goes to place object offset n r c fits pe ip h l own =
      let l0 = behind to 0 in
      let l1 = behind to 1 in
      let o0 = own_part s f 2 0 to own (omega arith) in
      let o1 = own_part s f 2 1 to own (omega arith) in
      let b1 : byte_behind to 1 ≡ l1 = own_behind s f a_user to 1 o1 in
      let k0 = slot (layout s) l0 in
      let k1 = slot (layout s) l1 in
      let v0 = address_byte false (layouts.address_of (layout s) place) in
      let v1 = address_byte true (layouts.address_of (layout s) place) in
      let h0 = Part object offset false in
      let h1 = Part object offset true in
      let r0 : Registers = record r { w = v0 } in
      let r1 : Registers = record r { w = v1 } in
      let f0 = w_fits r v0 (byte_small false (layouts.address_of (layout s) place)) fits in
      let f1 = w_fits r v1 (byte_small true (layouts.address_of (layout s) place)) fits in
      let m1 = with_byte m k0 v0 in
      let m2 = with_byte m1 k1 v1 in
      let s0 : Shown s h0 v0 = (ap (λ z. address_byte false (layouts.address_of (layout s) z)) (sym pe), ip) in
      let s1 : Shown s h1 v1 = (ap (λ z. address_byte true (layouts.address_of (layout s) z)) (sym pe), ip) in
      let inj = one_to_one s f pr st fit.passing fit.chain in
      let a1 = agree_put s (is_live f pr (below st)) cm m l0 h0 v0 inj (own_valid s f pr (below st) l0 o0) (own_agrees s f l0 h0 v0 o0 s0) fit.agree in
      let a2 = agree_put s (is_live f pr (below st)) (bytes.with_byte cm l0 h0) m1 l1 h1 v1 inj (own_valid s f pr (below st) l1 o1) (own_agrees s f l1 h1 v1 o1 s1) a1 in
      let cm2 = with_bytes cm to 2 (byte_of (Pointer (record { object = object; offset = offset }))) in
      let d = machine f pr c st cm2 wc in
      let n1 = suc n in
      let n2 = suc n1 in
      let n3 = suc n2 in
      let by1 = with_small m k0 v0 (byte_small false (layouts.address_of (layout s) place)) fit.bytes in
      let fit' = fit_with s t wc calm f pr st loops ps cm m fit wc pr cm2 m2 refl fit.control a2 (with_small m1 k1 v1 (byte_small true (layouts.address_of (layout s) place)) by1) fit.passing in
      let ac0 : access_of s.g wc.inside true r0 (operands.Byte to) ≡ Silent k0 = ap (λ z. access_of s.g wc.inside true r0 (operands.Byte z)) (sym (behind_none to)) ∙ own_access s wc.inside true r0 f a_user fit.root l0 o0 in
      let ac1 : access_of s.g wc.inside true r1 (operands.Byte (byte_behind to 1)) ≡ Silent k1 = ap (λ z. access_of s.g wc.inside true r1 (operands.Byte z)) b1 ∙ own_access s wc.inside true r1 f a_user fit.root l1 o1 in
      let p = s.price (names.Copy f) in
      let d3a = dear_one (syms.Movwf (operands.Byte to)) (syms.Literal Movlw (literals.High place) ∷ syms.Movwf (operands.Byte (byte_behind to 1)) ∷ []) in
      let d3b = dear_one (syms.Movwf (operands.Byte (byte_behind to 1))) [] in
      let la4 = dear_literal Movlw (literals.High place) (syms.Movwf (operands.Byte (byte_behind to 1)) ∷ []) in
      let la5 = dear_literal Movlw (literals.Low place) (syms.Movwf (operands.Byte to) ∷ syms.Literal Movlw (literals.High place) ∷ syms.Movwf (operands.Byte (byte_behind to 1)) ∷ []) in
      let dr = dear s f a_user n 8 (address_code to place) h refl (omega (arith, d3a, d3b, la4, la5)) in
      weaken s (at s t (thread s f n ps r) m wc) d 0 (p n + (p n1 + (p n2 + (p n3 + 0)))) 0 8 (omega arith) dr
      (word s t wc calm f ps a_user n r m (syms.Literal Movlw (literals.Low place)) r0 None d 0 (p n1 + (p n2 + (p n3 + 0))) h.0 refl refl refl (literal_is s wc.inside f n ps r m (literals.Low place))
      (word s t wc calm f ps a_user n1 r0 m (syms.Movwf (operands.Byte to)) r0 (write k0 v0) d 0 (p n2 + (p n3 + 0)) h.1.0 refl refl refl (movwf_silent s wc.inside f n1 ps r0 m (operands.Byte to) k0 ac0)
      (word s t wc calm f ps a_user n2 r0 m1 (syms.Literal Movlw (literals.High place)) r1 None d 0 (p n3 + 0) h.1.1.0 refl refl refl (literal_is s wc.inside f n2 ps r0 m1 (literals.High place))
      (word s t wc calm f ps a_user n3 r1 m1 (syms.Movwf (operands.Byte (byte_behind to 1))) r1 (write k1 v1) d 0 0 h.1.1.1.0 refl refl refl (movwf_silent s wc.inside f n3 ps r1 m1 (operands.Byte (byte_behind to 1)) k1 ac1)
      (stays s (at s t (thread s f (suc n3) ps r1) m2 wc) d (stands_at s t wc f pr c st loops cm2 m2 (thread s f (suc n3) ps r1) fit' f1
      (here_left s f loops (suc n3) ps r1 c (left_to s f loops (n + 4) (suc n3) c (omega arith) l))))))))

  pub address_goes : (to place : Byte) (n : ℕ) (r : Registers) (c : List Task) → Fits r → Has (block s f) n (address_code to place) → Left s f loops (n + 4) c
      → After s 0 8 (when (is_valid s.q f place) (writes s.q to (address_of place) c f pr st cm wc)) (at s t (thread s f n ps r) m wc)
  unfolding is_valid
  address_goes to (Static o k) n r c fits h l =
      let v = at s t (thread s f n ps r) m wc in
      let place : Place = record { object = Fixed o; offset = k } in
      let next = core.goes c f pr st (with_bytes cm to 2 (byte_of (Pointer place))) wc in
      when_after s 0 8 (nat_lt k (static_bytes s.q o)) (when (is_own s.q f to 2) next) v (λ va.
      when_after s 0 8 (is_own s.q f to 2) next v (λ own.
      let lt = lt_of k (static_bytes s.q o) va in
      pair_goes to (Static o k) (Fixed o) k n r c fits refl (placed.object_in s.q (length s.copies) s.reaches (layout s) s.chosen.layout s.chosen.laid_out o k lt, omega arith) h l own))
  address_goes to (Frame g y) n r c fits h l =
      let v = at s t (thread s f n ps r) m wc in
      let place : Place = record { object = FrameOf g; offset = y } in
      let next = core.goes c f pr st (with_bytes cm to 2 (byte_of (Pointer place))) wc in
      when_after s 0 8 (is_own s.q f (Frame g y) 1) (when (is_own s.q f to 2) next) v (λ va.
      when_after s 0 8 (is_own s.q f to 2) next v (λ own. pair_goes to (Frame g y) (FrameOf g) y n r c fits refl (own_place g y va) h l own))
  address_goes to (Result x k) n r c fits h l = when_after s 0 8 (is_own s.q f (Result x k) 1) core.Stuck (at s t (thread s f n ps r) m wc) (λ va. tt)
  address_goes to (Device a) n r c fits h l = when_after s 0 8 _ core.Stuck (at s t (thread s f n ps r) m wc) (λ va. tt)
