-- Loads and stores through pointers.
use Rattle.std.proofs.Common.{◌≡◌, ℕ, zero, suc, ◌+◌, ◌*◌, ◌/◌, ◌%◌, ◌<◌, Bool, true, false, nat_eq, if◌then◌else◌, List, [], ◌∷◌, ◌++◌, length, Option, Some, None, slice_get, refl, sym, ap, ◌∙◌, subst, append_assoc, arith}
use Rattle.std.proofs.lemmas.List.{append-nil}
use Rattle.pic_world.specs.Bits.{bit}
use Rattle.pic_world.specs.World.{World}
use Rattle.core_code.specs.Bytes as bytes
use Rattle.core_code.specs.Bytes.{Held, Part, Object, Place, byte_in, behind}
use Rattle.core_code.specs.Machine as core
use Rattle.core_code.specs.Machine.{Task, Waiting, is_own, when, loading, storing, load, store}
use Rattle.core_code.specs.Values.{pointer_in}
use Rattle.core_code.specs.declared.code.Byte.{Byte}
use Rattle.sym_code.specs.Effect.{Memory, Silent, access_of}
use Rattle.sym_code.specs.Layout as layouts
use Rattle.sym_code.specs.Layout.{shown, all_near}
use Rattle.sym_code.specs.Machine.{Machine}
use Rattle.sym_code.specs.Programs.{Position}
use Rattle.sym_code.specs.Registers.{Registers, Fits, pointer}
use Rattle.sym_code.specs.declared.code.BitOperation.TheVariants.{Bcf, Bsf, Btfsc}
use Rattle.sym_code.specs.declared.code.BlockName.TheVariants as names
use Rattle.sym_code.specs.declared.code.FileOperation.TheVariants.{Movf}
use Rattle.sym_code.specs.declared.code.Into.TheVariants as into
use Rattle.sym_code.specs.declared.code.Operand.TheVariants as operands
use Rattle.sym_code.specs.declared.code.Register.TheVariants.{Fsr, Status}
use Rattle.sym_code.specs.declared.code.Sym.TheVariants as syms
use Rattle.select_code.specs.Pieces.{byte_behind}
use Rattle.select_wide.specs.Pieces.{rising}
use Rattle.select_wide.specs.Pointers.{pointer_code, load_byte_code, load_code, store_byte_code, store_all_code}
use Rattle.select_trace.proofs.Truths.{same_nat}
use Rattle.select_trace.proofs.Standing.{Has, has_front, has_back}
use Rattle.select_trace.proofs.Labels.{len_append}
use Rattle.select_trace.proofs.Placed.{slot}
use Rattle.select_trace.proofs.Sites.{Site, layout}
use Rattle.select_trace.proofs.Machines.{at, Calm}
use Rattle.select_trace.proofs.Live.{IsUser, below, chain_user}
use Rattle.select_trace.proofs.Memory.{Shown, agrees_shown}
use Rattle.select_trace.proofs.Blocks.{block}
use Rattle.select_trace.proofs.Relation.{Left, Soon, Points, loads_code, stores_code, Went, weaken, After}
use Rattle.select_trace.proofs.Steps.{thread, machine, Fit, stands_at, stays, dear, word, skip}
use Rattle.select_trace.proofs.Access.{Own, own_valid, own_access, loaded, loaded_fits, movf_silent}
use Rattle.select_trace.proofs.Tests.{behind_none, own_part, own_behind, pointer_address, pointer_parts}
use Rattle.select_trace.proofs.Control.{left_to, here_soon, when_after}
use Rattle.select_trace.proofs.Bytes.{soon_left}
use Rattle.select_trace.proofs.Reaching.{pointer_near}
use Rattle.select_trace.proofs.Pointing.{dear_one, dear_movwf_register, dear_bit_register, to_fsr, clears_irp, sets_irp, bit_clear}

-- ---- the code of what is left
loads_more : (first : Byte) (j k : ℕ) → loads_code first j (suc k) ≡ loads_code first j k ++ load_byte_code first (j + k)
loads_more first j zero = append-nil (load_byte_code first j) ∙ ap (load_byte_code first) (omega arith)
loads_more first j (suc k) =
    ap (λ l. load_byte_code first j ++ l) (loads_more first (suc j) k)
    ∙ sym (append_assoc (load_byte_code first j) (loads_code first (suc j) k) (load_byte_code first (suc j + k)))
    ∙ ap (λ z. (load_byte_code first j ++ loads_code first (suc j) k) ++ load_byte_code first z) (omega arith)

pub loads_rise : (to : Byte) (n : ℕ) → rising (load_byte_code to) n ≡ loads_code to 0 n
loads_rise to zero = refl
loads_rise to (suc n) = ap (λ l. l ++ load_byte_code to n) (loads_rise to n) ∙ ap (λ z. loads_code to 0 n ++ load_byte_code to z) (let e : n ≡ 0 + n = omega arith in e) ∙ sym (loads_more to 0 n)

stores_more : (first : Byte) (j k : ℕ) → stores_code first j (suc k) ≡ stores_code first j k ++ store_byte_code first (j + k)
stores_more first j zero = append-nil (store_byte_code first j) ∙ ap (store_byte_code first) (omega arith)
stores_more first j (suc k) =
    ap (λ l. store_byte_code first j ++ l) (stores_more first (suc j) k)
    ∙ sym (append_assoc (store_byte_code first j) (stores_code first (suc j) k) (store_byte_code first (suc j + k)))
    ∙ ap (λ z. (store_byte_code first j ++ stores_code first (suc j) k) ++ store_byte_code first z) (omega arith)

pub stores_rise : (from : Byte) (n : ℕ) → rising (store_byte_code from) n ≡ stores_code from 0 n
stores_rise from zero = refl
stores_rise from (suc n) = ap (λ l. l ++ store_byte_code from n) (stores_rise from n) ∙ ap (λ z. stores_code from 0 n ++ store_byte_code from z) (let e : n ≡ 0 + n = omega arith in e) ∙ sym (stores_more from 0 n)

pub loading_soon : (s : Site) (f : ℕ) (loops : List ℕ) (r : Registers) (n : ℕ) (to : Byte) (object : Object) (offset k : ℕ) (c : List Task) (first : Byte) (j : ℕ) → to ≡ behind first j → Points s r j object offset → Has (block s f) n (loads_code first j k) → Left s f loops (n + length (loads_code first j k)) c
    → Soon s f loops r n (loading to object offset k c)
loading_soon s f loops r n to object offset zero c first j e p h l = soon_left s f loops r n c (left_to s f loops (n + 0) n c (omega arith) l)
loading_soon s f loops r n to object offset (suc k) c first j e p h l = (first, j, e, p, h, l)

pub storing_soon : (s : Site) (f : ℕ) (loops : List ℕ) (r : Registers) (n : ℕ) (from : Byte) (object : Object) (offset k : ℕ) (c : List Task) (first : Byte) (j : ℕ) → from ≡ behind first j → Points s r j object offset → Has (block s f) n (stores_code first j k) → Left s f loops (n + length (stores_code first j k)) c
    → Soon s f loops r n (storing object offset from k c)
storing_soon s f loops r n from object offset zero c first j e p h l = soon_left s f loops r n c (left_to s f loops (n + 0) n c (omega arith) l)
storing_soon s f loops r n from object offset (suc k) c first j e p h l = (first, j, e, p, h, l)

low_bit : (x : ℕ) → x < 2 → bit x 0 ≡ x
low_bit x lt = omega arith

module _ (s : Site) (t : Machine) (wc : World Held) (calm : Calm s wc) (f : ℕ) (pr : Option ℕ) (st : List Waiting) (loops : List ℕ) (ps : List Position) (cm : bytes.Memory) (m : Memory) (fit : Fit s t wc f pr st loops ps cm m) where
  b_user : IsUser s f
  b_user = chain_user s f st fit.chain

  shown_at : (b : Byte) (h : Held) → cm b ≡ h → Own s f b → Shown s h (m (slot (layout s) b))
  shown_at b h e o = subst (λ z. Shown s z (m (slot (layout s) b))) e (agrees_shown s b (cm b) (m (slot (layout s) b)) (fit.agree b (own_valid s f pr (below st) b o)))

  fsr_fits : (r : Registers) → Fits r → Fits (record r { fsr = r.w })
  fsr_fits r h = record { w = h.w; flags = h.flags; pointer = h.w; banks = h.banks; pages = h.pages }

  irp_fits : (r : Registers) (v : ℕ) → v < 2 → Fits r → Fits (record r { irp = v })
  irp_fits r v lt h = record { w = h.w; flags = h.flags; pointer = h.pointer; banks = (h.banks.0, h.banks.1, lt); pages = h.pages }

  -- FSR and IRP become a pointer
  pointer_goes : (p : Byte) (x : Place) (n : ℕ) (r : Registers) (d : core.Machine) → Fits r → Has (block s f) n (pointer_code p) → is_own s.q f p 2 ≡ true → pointer_in cm p ≡ Some x
      → ((r' : Registers) → Fits r' → pointer r' ≡ layouts.address_of (layout s) (byte_in x.object x.offset) → Went s (at s t (thread s f (n + 5) ps r') m wc) d 0 0)
      → Went s (at s t (thread s f n ps r) m wc) d 0 14
  unfolding pointer_in shown
  pointer_goes p x n r d fits h own e go =
      let parts = pointer_parts (cm p) (cm (behind p 1)) x e in
      let o0 = own_part s f 2 0 p own (omega arith) in
      let o1 = own_part s f 2 1 p own (omega arith) in
      let k0 = slot (layout s) (behind p 0) in
      let k1 = slot (layout s) (behind p 1) in
      let a = layouts.address_of (layout s) (byte_in x.object x.offset) in
      let s0 = shown_at (behind p 0) (Part x.object x.offset false) (ap cm (behind_none p) ∙ parts.0) o0 in
      let s1 = shown_at (behind p 1) (Part x.object x.offset true) parts.1 o1 in
      let v0 = m k0 in
      let v1 = m k1 in
      let e0 : v0 ≡ a % 256 = s0.0 in
      let e1 : v1 ≡ a / 256 % 2 = s1.0 in
      let ad = pointer_address s x.object x.offset false s0.1 in
      let ad1 = ad.1 in
      let v1s : v1 < 2 = omega (arith, e1) in
      let r1 = loaded s r v0 in
      let r2 : Registers = record r1 { fsr = v0 } in
      let r3 : Registers = record r2 { irp = 0 } in
      let r4 : Registers = record r3 { irp = 1 } in
      let f1 = loaded_fits s r v0 fits (fit.bytes k0) in
      let f2 = fsr_fits r1 f1 in
      let f3 = irp_fits r2 0 (omega arith) f2 in
      let f4 = irp_fits r3 1 (omega arith) f3 in
      let b1 : byte_behind p 1 ≡ behind p 1 = own_behind s f b_user p 1 o1 in
      let ac0 : access_of s.g wc.inside false r (operands.Byte p) ≡ Silent k0 = ap (λ z. access_of s.g wc.inside false r (operands.Byte z)) (sym (behind_none p)) ∙ own_access s wc.inside false r f b_user fit.root (behind p 0) o0 in
      let ac1 : access_of s.g wc.inside false r3 (operands.Byte (byte_behind p 1)) ≡ Silent k1 = ap (λ z. access_of s.g wc.inside false r3 (operands.Byte z)) b1 ∙ own_access s wc.inside false r3 f b_user fit.root (behind p 1) o1 in
      let q = s.price (names.Copy f) in
      let n1 = suc n in
      let n2 = suc n1 in
      let n3 = suc n2 in
      let n4 = suc n3 in
      let y0 = syms.File Movf (operands.Byte p) into.W in
      let y1 = syms.Movwf (operands.Register Fsr) in
      let y2 = syms.Bit Bcf (operands.Register Status) 7 in
      let y3 = syms.Bit Btfsc (operands.Byte (byte_behind p 1)) 0 in
      let y4 = syms.Bit Bsf (operands.Register Status) 7 in
      let c0 = dear_one y0 (y1 ∷ y2 ∷ y3 ∷ y4 ∷ []) in
      let c1 = dear_movwf_register Fsr (y2 ∷ y3 ∷ y4 ∷ []) in
      let c2 = dear_bit_register Bcf Status 7 (y3 ∷ y4 ∷ []) in
      let c3 = dear_one y3 (y4 ∷ []) in
      let c4 = dear_bit_register Bsf Status 7 [] in
      let dr = dear s f b_user n 14 (pointer_code p) h refl (omega (arith, c0, c1, c2, c3, c4)) in
      weaken s (at s t (thread s f n ps r) m wc) d 0 (q n + (q n1 + (q n2 + (q n3 + (q n4 + 0))))) 0 14 (omega arith) dr
      (word s t wc calm f ps b_user n r m y0 r1 None d 0 (q n1 + (q n2 + (q n3 + (q n4 + 0)))) h.0 refl refl refl (movf_silent s wc.inside f n ps r m (operands.Byte p) k0 ac0)
      (word s t wc calm f ps b_user n1 r1 m y1 r2 None d 0 (q n2 + (q n3 + (q n4 + 0))) h.1.0 refl refl refl (to_fsr s wc.inside f n1 ps r1 m)
      (word s t wc calm f ps b_user n2 r2 m y2 r3 None d 0 (q n3 + (q n4 + 0)) h.1.1.0 refl refl refl (clears_irp s wc.inside f n2 ps r2 m)
      (skip s t wc calm f ps b_user n3 r3 m y3 y4 (nat_eq (bit v1 0) 0) r3 d 0 (q n4 + 0) h.1.1.1.0 refl refl refl h.1.1.1.1.0 refl refl (bit_clear s wc.inside f n3 ps r3 m (byte_behind p 1) k1 ac1)
      (by_bit (nat_eq (bit v1 0) 0) v1 r3 f3 f4 h.1.1.1.1.0 (ap (λ z. nat_eq z 0) (low_bit v1 v1s)) v1s (low_case v0 v1 a e0 e1 ad1) (high_case v0 v1 a e0 e1 ad1)
      (far_case (all_near (layout s)) v1 a e1 (λ near. pointer_near s near x.object x.offset false s0.1)))))))
    where
      low_case : (v0 v1 a : ℕ) → v0 ≡ a % 256 → v1 ≡ a / 256 % 2 → a < 512 → v1 ≡ 0 → 256 * 0 + v0 ≡ a
      low_case v0 v1 a e0 e1 lt z = omega (arith, e0, e1, lt, z)

      high_case : (v0 v1 a : ℕ) → v0 ≡ a % 256 → v1 ≡ a / 256 % 2 → a < 512 → v1 ≡ 1 → 256 * 1 + v0 ≡ a
      high_case v0 v1 a e0 e1 lt z = omega (arith, e0, e1, lt, z)

      -- in a near layout the address is below 100h
      far_case : (near : Bool) (v1 a : ℕ) → v1 ≡ a / 256 % 2 → (near ≡ true → a < 0x100) → v1 ≡ 1 → near ≡ false
      far_case true v1 a e lt z = let l = lt refl in absurd (omega (arith, e, l, z))
      far_case false v1 a e lt z = refl

      by_bit : (b : Bool) (v1 : ℕ) (r3 : Registers) → Fits r3 → Fits (record r3 { irp = 1 }) → slice_get (block s f) (suc (suc (suc (suc n)))) ≡ Some (syms.Bit Bsf (operands.Register Status) 7) → b ≡ nat_eq v1 0 → v1 < 2
          → (v1 ≡ 0 → pointer r3 ≡ layouts.address_of (layout s) (byte_in x.object x.offset)) → (v1 ≡ 1 → pointer (record r3 { irp = 1 }) ≡ layouts.address_of (layout s) (byte_in x.object x.offset))
          → (v1 ≡ 1 → all_near (layout s) ≡ false)
          → Went s (at s t (thread s f (if b then suc (suc (suc (suc (suc n)))) else suc (suc (suc (suc n)))) ps r3) m wc) d 0 (s.price (names.Copy f) (suc (suc (suc (suc n)))) + 0)
      by_bit true v1 r3 f3 f4 h e lt low high far =
          weaken s (at s t (thread s f (suc (suc (suc (suc (suc n))))) ps r3) m wc) d 0 0 0 (s.price (names.Copy f) (suc (suc (suc (suc n)))) + 0) (omega arith) (omega arith)
          (subst (λ k. Went s (at s t (thread s f k ps r3) m wc) d 0 0) (let z : n + 5 ≡ suc (suc (suc (suc (suc n)))) = omega arith in z) (go r3 f3 (low (same_nat v1 0 (sym e)))))
      by_bit false v1 r3 f3 f4 h e lt low high far =
          word s t wc calm f ps b_user (suc (suc (suc (suc n)))) r3 m (syms.Bit Bsf (operands.Register Status) 7) (record r3 { irp = 1 }) None d 0 0 h refl refl refl (sets_irp s wc.inside f (suc (suc (suc (suc n)))) ps r3 m (far (one v1 lt (sym e))))
          (subst (λ k. Went s (at s t (thread s f k ps (record r3 { irp = 1 })) m wc) d 0 0) (let z : n + 5 ≡ suc (suc (suc (suc (suc n)))) = omega arith in z) (go (record r3 { irp = 1 }) f4 (high (one v1 lt (sym e)))))
        where
          one : (v : ℕ) → v < 2 → nat_eq v 0 ≡ false → v ≡ 1
          one v lt e = grind (arith)

  pub load_goes : (to p : Byte) (count n : ℕ) (r : Registers) (c : List Task) → Fits r → Has (block s f) n (load_code to p count) → Left s f loops (n + length (load_code to p count)) c
      → After s 0 14 (when (is_own s.q f p 2) (load to (pointer_in cm p) count c f pr st cm wc)) (at s t (thread s f n ps r) m wc)
  load_goes to p count n r c fits h l =
      when_after s 0 14 (is_own s.q f p 2) (load to (pointer_in cm p) count c f pr st cm wc) (at s t (thread s f n ps r) m wc) (λ own. by (pointer_in cm p) refl own)
    where
      by : (o : Option Place) → pointer_in cm p ≡ o → is_own s.q f p 2 ≡ true → After s 0 14 (load to o count c f pr st cm wc) (at s t (thread s f n ps r) m wc)
      by None e own = tt
      by (Some x) e own =
          let code = rising (load_byte_code to) count in
          let d = machine f pr (loading to x.object x.offset count c) st cm wc in
          let len = len_append (pointer_code p) code in
          let rise = loads_rise to count in
          let hl : Has (block s f) (n + 5) (loads_code to 0 count) = subst (Has (block s f) (n + 5)) rise (has_back (block s f) n (pointer_code p) code h) in
          let ll : Left s f loops (n + 5 + length (loads_code to 0 count)) c = left_to s f loops (n + length (pointer_code p ++ code)) (n + 5 + length (loads_code to 0 count)) c (let z : length code ≡ length (loads_code to 0 count) = ap length rise in omega (arith, len, z)) l in
          pointer_goes p x n r d fits (has_front (block s f) n (pointer_code p) code h) own e (λ r' fr pt.
          stays s (at s t (thread s f (n + 5) ps r') m wc) d (stands_at s t wc f pr (loading to x.object x.offset count c) st loops cm m (thread s f (n + 5) ps r') fit fr
          (here_soon s f loops (n + 5) ps r' (loading to x.object x.offset count c) (loading_soon s f loops r' (n + 5) to x.object x.offset count c to 0 (sym (behind_none to)) (zero_more (pointer r') pt) hl ll))))
        where
          zero_more : (a : ℕ) {b : ℕ} → a ≡ b → a + 0 ≡ b
          zero_more a e = omega arith ∙ e

  pub store_all_goes : (p from : Byte) (count n : ℕ) (r : Registers) (c : List Task) → Fits r → Has (block s f) n (store_all_code p from count) → Left s f loops (n + length (store_all_code p from count)) c
      → After s 0 14 (when (is_own s.q f p 2) (store (pointer_in cm p) from count c f pr st cm wc)) (at s t (thread s f n ps r) m wc)
  store_all_goes p from count n r c fits h l =
      when_after s 0 14 (is_own s.q f p 2) (store (pointer_in cm p) from count c f pr st cm wc) (at s t (thread s f n ps r) m wc) (λ own. by (pointer_in cm p) refl own)
    where
      by : (o : Option Place) → pointer_in cm p ≡ o → is_own s.q f p 2 ≡ true → After s 0 14 (store o from count c f pr st cm wc) (at s t (thread s f n ps r) m wc)
      by None e own = tt
      by (Some x) e own =
          let code = rising (store_byte_code from) count in
          let d = machine f pr (storing x.object x.offset from count c) st cm wc in
          let len = len_append (pointer_code p) code in
          let rise = stores_rise from count in
          let hl : Has (block s f) (n + 5) (stores_code from 0 count) = subst (Has (block s f) (n + 5)) rise (has_back (block s f) n (pointer_code p) code h) in
          let ll : Left s f loops (n + 5 + length (stores_code from 0 count)) c = left_to s f loops (n + length (pointer_code p ++ code)) (n + 5 + length (stores_code from 0 count)) c (let z : length code ≡ length (stores_code from 0 count) = ap length rise in omega (arith, len, z)) l in
          pointer_goes p x n r d fits (has_front (block s f) n (pointer_code p) code h) own e (λ r' fr pt.
          stays s (at s t (thread s f (n + 5) ps r') m wc) d (stands_at s t wc f pr (storing x.object x.offset from count c) st loops cm m (thread s f (n + 5) ps r') fit fr
          (here_soon s f loops (n + 5) ps r' (storing x.object x.offset from count c) (storing_soon s f loops r' (n + 5) from x.object x.offset count c from 0 (sym (behind_none from)) (zero_more (pointer r') pt) hl ll))))
        where
          zero_more : (a : ℕ) {b : ℕ} → a ≡ b → a + 0 ≡ b
          zero_more a e = omega arith ∙ e
