-- The code of operators over bytes by number.
use Rattle.std.proofs.Common.{◌≡◌, ℕ, zero, suc, ◌-◌, ◌<◌, Bool, true, List, ◌++◌, refl, sym, subst, arith}
use Rattle.std.specs.Prelude.{nat_eq, if◌then◌else◌}
use Rattle.core_code.specs.Bytes.{behind, same_byte}
use Rattle.core_code.specs.declared.code.Byte.{Byte}
use Rattle.select_code.specs.Pieces as pieces
use Rattle.select_code.specs.Pieces.{byte_behind}
use Rattle.select_code.specs.declared.pieces.Flag.TheVariants.{Carry, Zero}
use Rattle.select_wide.specs.Comparisons as comparisons
use Rattle.select_wide.specs.Pieces as wide
use Rattle.select_wide.specs.Single as single
use Rattle.select_wide.specs.Sums as sums
use Rattle.select_wide.specs.declared.operands.Chain.{Chain}
use Rattle.select_wide.specs.declared.operands.Chain.TheVariants.{Sum, Difference}
use Rattle.sym_code.specs.declared.code.BitOperation.TheVariants.{Btfsc, Btfss}
use Rattle.sym_code.specs.declared.code.FileOperation.{FileOperation}
use Rattle.sym_code.specs.declared.code.FileOperation.TheVariants.{Addwf, Subwf, Movf, Incfsz, Xorwf, Iorwf, Comf, Incf}
use Rattle.sym_code.specs.declared.code.Into.{Into}
use Rattle.sym_code.specs.declared.code.Into.TheVariants.{W, File}
use Rattle.sym_code.specs.declared.code.Sym as code
use Rattle.select_trace.specs.Code as model
use Rattle.select_trace.specs.Run.{Sym}
use Rattle.select_trace.proofs.Means as means
use Rattle.select_trace.proofs.Means.{Means, Lies}

abbrev pub chain_of : Chain → model.Chain
chain_of Sum = model.Sum
chain_of Difference = model.Difference

module _ (P : Byte → Type 0) (at : Byte → ℕ) where
  abbrev M : List code.Sym → List Sym → Type 0
  M xs ys = Means P at xs ys

  -- byte k behind one, by its number
  abbrev pub spot : Byte → ℕ → ℕ
  spot byte k = at (behind byte k)

  also : {a c : List code.Sym} {b d : List Sym} → M a b → M c d → M (a ++ c) (b ++ d)
  also {a} {c} {b} {d} h k = means.joined P at a c b d h k

  -- ---- sums and differences
  operation : (chain : Chain) → sums.chain_operation chain ≡ model.chain_operation (chain_of chain)
  operation Sum = refl
  operation Difference = refl

  unless : (chain : Chain) → sums.unless_carried chain ≡ model.unless_carried (chain_of chain)
  unless Sum = refl
  unless Difference = refl

  further : (chain : Chain) (left right : Byte) (into : Into) (l r : ℕ) → P left → at left ≡ l → P right → at right ≡ r → M (sums.further_code chain left right into) (model.further_code (chain_of chain) l r into)
  further Sum left right into l r pl el pr er =
      also (also (also (means.file P at Movf W right r pr er) (means.flag P at Btfsc Carry (omega arith))) (means.file P at Incfsz W right r pr er)) (means.file P at Addwf into left l pl el)
  further Difference left right into l r pl el pr er =
      also (also (also (means.file P at Movf W right r pr er) (means.flag P at Btfss Carry (omega arith))) (means.file P at Incfsz W right r pr er)) (means.file P at Subwf into left l pl el)

  first : (chain : Chain) (left right : Byte) (into : Into) (l r : ℕ) → P left → at left ≡ l → P right → at right ≡ r → M (wide.pair_code (sums.chain_operation chain) left right into) (model.pair_code (model.chain_operation (chain_of chain)) l r into)
  first Sum left right into l r pl el pr er = means.pair P at Addwf into left right l r pl el pr er
  first Difference left right into l r pl el pr er = means.pair P at Subwf into left right l r pl el pr er

  pub link : (chain : Chain) (left right : Byte) (into : Into) (w : ℕ) → Lies P at left w → Lies P at right w → (k : ℕ) → k < w → M (sums.link_code chain left right into k) (model.link_code (chain_of chain) (spot left) (spot right) into k)
  link chain left right into w hl hr k lt =
      means.either P at (nat_eq k 0) _ _ _ _ (first chain left right into (spot left 0) (spot right 0) hl.front hl.zero hr.front hr.zero)
      (further chain (byte_behind left k) (byte_behind right k) into (spot left k) (spot right k) (hl.there k lt) (hl.more k lt) (hr.there k lt) (hr.more k lt))

  pub apart : (chain : Chain) (to left right : Byte) (w : ℕ) → Lies P at to w → Lies P at left w → Lies P at right w → (k : ℕ) → k < w → M (sums.apart_code chain to left right k) (model.apart_code (chain_of chain) (spot to) (spot left) (spot right) k)
  apart chain to left right w ht hl hr k lt =
      means.either P at (nat_eq k 0) _ _ _ _ (also (first chain left right W (spot left 0) (spot right 0) hl.front hl.zero hr.front hr.zero) (means.store P at to (spot to 0) ht.front ht.zero))
      (also (means.copy P at (byte_behind to k) (byte_behind left k) (spot to k) (spot left k) (ht.there k lt) (ht.more k lt) (hl.there k lt) (hl.more k lt))
      (further chain (byte_behind to k) (byte_behind right k) File (spot to k) (spot right k) (ht.there k lt) (ht.more k lt) (hr.there k lt) (hr.more k lt)))

  -- ---- bit operations
  abbrev bits_at : FileOperation → Bool → Byte → Byte → Byte → ℕ → List Sym
  bits_at op same to left right k = if same then model.pair_code op (spot left k) (spot right k) File else model.pair_code op (spot left k) (spot right k) W ++ model.store_code (spot to k)

  pub bits : (op : FileOperation) (same : Bool) (to left right : Byte) (w : ℕ) → ((k : ℕ) → k < w → same_byte (byte_behind to k) (byte_behind left k) ≡ same) → Lies P at to w → Lies P at left w → Lies P at right w →
      M (sums.bits_code op to left right w) (model.bits_code op same (spot to) (spot left) (spot right) w)
  bits op same to left right w h ht hl hr = means.each P at (sums.bits_at_code op to left right) (bits_at op same to left right) w
      (λ k lt. subst (λ (b : Bool). M (if b then wide.pair_code op (byte_behind left k) (byte_behind right k) File else wide.pair_code op (byte_behind left k) (byte_behind right k) W ++ pieces.store_code (byte_behind to k)) (bits_at op same to left right k)) (sym (h k lt))
      (means.either P at same _ _ _ _
      (means.pair P at op File (byte_behind left k) (byte_behind right k) (spot left k) (spot right k) (hl.there k lt) (hl.more k lt) (hr.there k lt) (hr.more k lt))
      (also (means.pair P at op W (byte_behind left k) (byte_behind right k) (spot left k) (spot right k) (hl.there k lt) (hl.more k lt) (hr.there k lt) (hr.more k lt)) (means.store P at (byte_behind to k) (spot to k) (ht.there k lt) (ht.more k lt)))))

  -- ---- comparisons
  differences : (to left right : Byte) (w : ℕ) → Lies P at to 2 → Lies P at left w → Lies P at right w → M (comparisons.differences_code to left right w) (model.differences_code (spot to) (spot left) (spot right) w)
  differences to left right w ht hl hr = means.each P at (comparisons.difference_bits_code to left right) (model.difference_bits_code (spot to) (spot left) (spot right)) w
      (λ k lt. also (means.pair P at Xorwf W (byte_behind left k) (byte_behind right k) (spot left k) (spot right k) (hl.there k lt) (hl.more k lt) (hr.there k lt) (hr.more k lt))
      (means.either P at (nat_eq k 0) _ _ _ _ (means.store P at to (spot to 0) ht.front ht.zero) (means.file P at Iorwf File to (spot to 0) ht.front ht.zero)))

  truth : (to : Byte) → Lies P at to 2 → M (wide.truth_code to) (model.truth_code true (spot to))
  truth to ht = means.truth P at to (spot to) ht.front ht.zero (ht.there 1 (omega arith)) (ht.more 1 (omega arith)) (ht.clear 1 (omega arith))

  pub equality : (usual : ℕ) (to left right : Byte) (w : ℕ) → usual < 2 → Lies P at to 2 → Lies P at left w → Lies P at right w → M (comparisons.equality_code usual to left right w) (model.equality_code true usual (spot to) (spot left) (spot right) w)
  equality usual to left right w u ht hl hr = also (also (differences to left right w ht hl hr) (means.choice P at usual (1 - usual) Btfsc Zero (omega arith) (omega arith) (omega arith))) (truth to ht)

  turn : (top : Byte) (n : ℕ) → P top → at top ≡ n → M (comparisons.turn_code top) (model.turn_code n)
  turn top n p e = also (means.if_bit P at top n 7 p e) (means.xor_one P at)

  signs : (signed : Bool) (left right : Byte) (l r : ℕ) → P left → at left ≡ l → P right → at right ≡ r → M (comparisons.signs_code signed left right) (model.signs_code signed l r)
  signs signed left right l r pl el pr er = means.either P at signed _ _ _ _ (also (turn left l pl el) (turn right r pr er)) (means.none P at)

  pub order : (signed : Bool) (usual : ℕ) (to left right : Byte) (w : ℕ) → usual < 2 → 0 < w → Lies P at to 2 → Lies P at left w → Lies P at right w → M (comparisons.order_code signed usual to left right w) (model.order_code true signed usual (spot to) (spot left) (spot right) w)
  order signed usual to left right w u lt ht hl hr =
      also (also (also (means.each P at (sums.link_code Difference left right W) (model.link_code model.Difference (spot left) (spot right) W) w (link Difference left right W w hl hr)) (means.choice P at usual (1 - usual) Btfss Carry (omega arith) (omega arith) (omega arith)))
      (signs signed (byte_behind left (w - 1)) (byte_behind right (w - 1)) (spot left (w - 1)) (spot right (w - 1)) (hl.there (w - 1) (omega arith)) (hl.more (w - 1) (omega arith)) (hr.there (w - 1) (omega arith)) (hr.more (w - 1) (omega arith)))) (truth to ht)

  -- ---- operators on one value
  pub complement : (byte : Byte) (w : ℕ) → Lies P at byte w → M (single.complement_code byte w) (model.complement_code (spot byte) w)
  complement byte w h = means.each P at (λ k. pieces.file_code Comf (byte_behind byte k) File) (λ k. model.file_code Comf (spot byte k) File) w (λ k lt. means.file P at Comf File (byte_behind byte k) (spot byte k) (h.there k lt) (h.more k lt))

  pub increment : (byte : Byte) (w : ℕ) → Lies P at byte w → M (single.increment_code byte w) (model.increment_code (spot byte) w)
  increment byte w h = means.each P at (single.increment_byte_code byte) (model.increment_byte_code (spot byte)) w
      (λ k lt. also (means.either P at (nat_eq k 0) _ _ _ _ (means.none P at) (means.flag P at Btfsc Zero (omega arith))) (means.file P at Incf File (byte_behind byte k) (spot byte k) (h.there k lt) (h.more k lt)))

  ors : (byte : Byte) (n w : ℕ) → n < w → Lies P at byte w → M (pieces.ors_code byte n) (model.ors_code (spot byte) n)
  ors byte zero w lt h = means.none P at
  ors byte (suc n) w lt h = also (ors byte n w (omega arith) h) (means.file P at Iorwf W (byte_behind byte (suc n)) (spot byte (suc n)) (h.there (suc n) lt) (h.more (suc n) lt))

  pub test : (byte : Byte) (w : ℕ) → Lies P at byte w → M (pieces.test_code byte w) (model.test_code (spot byte) w)
  test byte zero h = record { same = refl; straight = (tt, tt) }
  test byte (suc n) h = also (means.file P at Movf W byte (spot byte 0) h.front h.zero) (ors byte n (suc n) (omega arith) h)

  pub bang : (byte : Byte) (w : ℕ) → Lies P at byte w → Lies P at byte 2 → M (single.bang_code byte w) (model.bang_code true (spot byte) w)
  bang byte w h h2 = also (also (also (test byte w h) (means.nonzero P at)) (means.choice P at 0 1 Btfss Carry (omega arith) (omega arith) (omega arith))) (truth byte h2)
