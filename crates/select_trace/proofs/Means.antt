-- Code by names, and what it is over bytes by number.
use Rattle.std.proofs.Common.{◌≡◌, ℕ, zero, suc, ◌<◌, Bool, true, false, List, [], ◌∷◌, ◌++◌, refl, ap, sym, ◌∙◌, subst, arith}
use Rattle.std.specs.Prelude.{cond, ◌&&◌, nat_eq, if◌then◌else◌}
use Rattle.std.proofs.lemmas.List.{map-append}
use Rattle.core_code.specs.Bytes.{behind}
use Rattle.core_code.specs.declared.code.Byte.{Byte}
use Rattle.select_code.specs.Pieces as pieces
use Rattle.select_code.specs.Pieces.{byte_behind, is_clearable, flag_bit}
use Rattle.select_code.specs.declared.pieces.Flag.{Flag}
use Rattle.select_wide.specs.Moves as moves
use Rattle.select_wide.specs.Pieces as wide
use Rattle.sym_code.specs.declared.code.BitOperation.{BitOperation}
use Rattle.sym_code.specs.declared.code.BitOperation.TheVariants.{Btfsc}
use Rattle.sym_code.specs.declared.code.FileOperation.{FileOperation}
use Rattle.sym_code.specs.declared.code.FileOperation.TheVariants.{Movf}
use Rattle.sym_code.specs.declared.code.Into.{Into}
use Rattle.sym_code.specs.declared.code.Into.TheVariants.{W}
use Rattle.sym_code.specs.declared.code.Literal.TheVariants as literals
use Rattle.sym_code.specs.declared.code.LiteralOperation.TheVariants as lit
use Rattle.sym_code.specs.declared.code.Sym as code
use Rattle.select_trace.specs.Code as model
use Rattle.select_trace.specs.Run.{Sym, Row, Movwf, Clrf, Test, Flag as OnFlag, Movlw, Addlw, Xorlw}
use Rattle.select_trace.specs.Silent.{AreStraight, plain, plain_code}

pub straight_append : (P : Byte → Type 0) (xs ys : List code.Sym) → AreStraight P xs → AreStraight P ys → AreStraight P (xs ++ ys)
straight_append P [] ys h k = k
straight_append P (x ∷ xs) ys h k = (h.0, straight_append P xs ys h.1 k)

-- the code jumps nowhere, names such bytes alone, and is this one over bytes by number
pub record Means (P : Byte → Type 0) (at : Byte → ℕ) (xs : List code.Sym) (ys : List Sym) : Type 0 where
  pub same : plain_code at xs ≡ ys
  pub straight : AreStraight P xs

-- so many bytes from one on, by both ways to count
pub record Lies (P : Byte → Type 0) (at : Byte → ℕ) (byte : Byte) (n : ℕ) : Type 0 where
  pub front : P byte
  pub there : (k : ℕ) → k < n → P (byte_behind byte k)
  pub zero : at byte ≡ at (behind byte 0)
  pub more : (k : ℕ) → k < n → at (byte_behind byte k) ≡ at (behind byte k)
  pub clear : (k : ℕ) → k < n → is_clearable (byte_behind byte k) ≡ true

module _ (P : Byte → Type 0) (at : Byte → ℕ) where
  abbrev pub M : List code.Sym → List Sym → Type 0
  M xs ys = Means P at xs ys

  pub none : M [] []
  none = record { same = refl; straight = tt }

  pub joined : (a c : List code.Sym) (b d : List Sym) → M a b → M c d → M (a ++ c) (b ++ d)
  joined a c b d h k = record { same = map-append (plain at) a c ∙ ap (λ (x : List Sym). x ++ plain_code at c) h.same ∙ ap (λ (x : List Sym). b ++ x) k.same; straight = straight_append P a c h.straight k.straight }

  pub each : (F : ℕ → List code.Sym) (G : ℕ → List Sym) (n : ℕ) → ((k : ℕ) → k < n → M (F k) (G k)) → M (wide.rising F n) (model.rising G n)
  each F G zero h = none
  each F G (suc n) h = joined (wide.rising F n) (F n) (model.rising G n) (G n) (each F G n (λ k lt. h k (omega arith))) (h n (omega arith))

  pub either : (b : Bool) (a c : List code.Sym) (x y : List Sym) → M a x → M c y → M (if b then a else c) (if b then x else y)
  either true a c x y h k = h
  either false a c x y h k = k

  pub file : (op : FileOperation) (into : Into) (byte : Byte) (n : ℕ) → P byte → at byte ≡ n → M (pieces.file_code op byte into) (Row op n into ∷ [])
  file op into byte n p e = record { same = ap (λ (k : ℕ). Row op k into ∷ []) e; straight = (p, tt) }

  pub store : (byte : Byte) (n : ℕ) → P byte → at byte ≡ n → M (pieces.store_code byte) (Movwf n ∷ [])
  store byte n p e = record { same = ap (λ (k : ℕ). Movwf k ∷ []) e; straight = (p, tt) }

  pub flag : (op : BitOperation) (f : Flag) → flag_bit f < 3 → M (pieces.flag_code op f) (OnFlag op (flag_bit f) ∷ [])
  flag op f lt = record { same = refl; straight = (lt, tt) }

  pub if_bit : (byte : Byte) (n b : ℕ) → P byte → at byte ≡ n → M (wide.if_bit_code byte b) (Test Btfsc n b ∷ [])
  if_bit byte n b p e = record { same = ap (λ (k : ℕ). Test Btfsc k b ∷ []) e; straight = (p, tt) }

  pub number : (n : ℕ) → n < 256 → M (pieces.number_code n) (Movlw n ∷ [])
  number n lt = record { same = refl; straight = (lt, tt) }

  pub xor_one : M (wide.literal_code lit.Xorlw (literals.Number 1)) (Xorlw 1 ∷ [])
  xor_one = record { same = refl; straight = (omega arith, tt) }

  pub nonzero : M wide.nonzero_code (Addlw 255 ∷ [])
  nonzero = record { same = refl; straight = (omega arith, tt) }

  pub pair : (op : FileOperation) (into : Into) (left right : Byte) (l r : ℕ) → P left → at left ≡ l → P right → at right ≡ r → M (wide.pair_code op left right into) (model.pair_code op l r into)
  pair op into left right l r pl el pr er = joined (pieces.file_code Movf right W) (pieces.file_code op left into) (Row Movf r W ∷ []) (Row op l into ∷ []) (file Movf W right r pr er) (file op into left l pl el)

  pub copy : (to from : Byte) (t f : ℕ) → P to → at to ≡ t → P from → at from ≡ f → M (pieces.copy_code to from) (model.copy_code t f)
  copy to from t f pt et pf ef = joined (pieces.file_code Movf from W) (pieces.store_code to) (Row Movf f W ∷ []) (Movwf t ∷ []) (file Movf W from f pf ef) (store to t pt et)

  pub set_zero : (byte : Byte) (n : ℕ) → is_clearable byte ≡ true → P byte → at byte ≡ n → M (pieces.set_code byte 0) (model.set_code true n 0)
  set_zero byte n c p e =
      subst (λ (xs : List code.Sym). M xs (Clrf n ∷ [])) (ap (λ b. cond (nat_eq 0 0 && b) (pieces.clear_code byte) (pieces.number_code 0 ++ pieces.store_code byte)) (sym c))
      (record { same = ap (λ (k : ℕ). Clrf k ∷ []) e; straight = (p, tt) })

  -- ---- several bytes
  pub copies : (to from : Byte) (w : ℕ) (t f : ℕ → ℕ) → ((k : ℕ) → k < w → P (byte_behind to k) × (at (byte_behind to k) ≡ t k) × P (byte_behind from k) × (at (byte_behind from k) ≡ f k)) →
      M (moves.copies_code to from w) (model.copies_code t f w)
  copies to from w t f h = each (λ k. pieces.copy_code (byte_behind to k) (byte_behind from k)) (λ k. model.copy_code (t k) (f k)) w (λ k lt. let x = h k lt in copy (byte_behind to k) (byte_behind from k) (t k) (f k) x.0 x.1 x.2 x.3)

  pub stores : (to : Byte) (w : ℕ) (t : ℕ → ℕ) → ((k : ℕ) → k < w → P (byte_behind to k) × (at (byte_behind to k) ≡ t k)) → M (moves.stores_code to w) (model.stores_code t w)
  stores to w t h = each (λ k. pieces.store_code (byte_behind to k)) (λ k. model.store_code (t k)) w (λ k lt. let x = h k lt in store (byte_behind to k) (t k) x.0 x.1)

  pub clears : (to : Byte) (w : ℕ) (t : ℕ → ℕ) → ((k : ℕ) → k < w → P (byte_behind to k) × (at (byte_behind to k) ≡ t k) × (is_clearable (byte_behind to k) ≡ true)) → M (moves.clears_code to w) (model.clears_code true t w)
  clears to w t h = each (λ k. pieces.set_code (byte_behind to k) 0) (λ k. model.set_code true (t k) 0) w (λ k lt. let x = h k lt in set_zero (byte_behind to k) (t k) x.2 x.0 x.1)

  pub sign : (top : Byte) (n : ℕ) → P top → at top ≡ n → M (wide.sign_code top) (model.sign_code n)
  sign top n p e =
      joined (pieces.number_code 0 ++ wide.if_bit_code top 7) (pieces.number_code 255) _ _
      (joined (pieces.number_code 0) (wide.if_bit_code top 7) _ _ (number 0 (omega arith)) (if_bit top n 7 p e)) (number 255 (omega arith))

  pub choice : (usual other : ℕ) (op : BitOperation) (f : Flag) → flag_bit f < 3 → usual < 256 → other < 256 → M (wide.choice_code usual op f other) (model.choice_code usual op (flag_bit f) other)
  choice usual other op f lt u o =
      joined (pieces.number_code usual ++ pieces.flag_code op f) (pieces.number_code other) _ _ (joined (pieces.number_code usual) (pieces.flag_code op f) _ _ (number usual u) (flag op f lt)) (number other o)

  pub truth : (to : Byte) (t : ℕ → ℕ) → P to → at to ≡ t 0 → P (byte_behind to 1) → at (byte_behind to 1) ≡ t 1 → is_clearable (byte_behind to 1) ≡ true → M (wide.truth_code to) (model.truth_code true t)
  truth to t p e q f c = joined (pieces.store_code to) (pieces.set_code (byte_behind to 1) 0) _ _ (store to (t 0) p e) (set_zero (byte_behind to 1) (t 1) c q f)
