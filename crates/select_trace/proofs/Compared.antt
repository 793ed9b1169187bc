-- Comparisons, where their code stands.
use Rattle.std.proofs.Common.{◌≡◌, ℕ, zero, suc, ◌+◌, ◌-◌, ◌/◌, ◌<◌, ◌≤◌, Bool, true, false, List, refl, ap, sym, ◌∙◌, subst, arith}
use Rattle.std.specs.Prelude.{◌&&◌}
use Rattle.c_ints.specs.Range.{bytes_of, span}
use Rattle.c_ints.specs.declared.operators.BinOp.{BinOp}
use Rattle.c_ints.specs.declared.operators.BinOp.TheVariants as ops
use Rattle.c_ints.specs.declared.types.IntTy.{IntTy}
use Rattle.core_code.specs.Bytes.{behind, misses}
use Rattle.core_code.specs.declared.code.Byte.{Byte}
use Rattle.core_code.specs.declared.code.Byte.TheVariants.{Static, Frame, Result, Device}
use Rattle.pic_world.specs.declared.Root.{Root}
use Rattle.select_wide.specs.Comparisons as comparisons
use Rattle.select_wide.specs.Single.{is_signed}
use Rattle.sym_code.specs.Effect.{Setting, Memory, root_of}
use Rattle.sym_code.specs.Quiet.{Scene}
use Rattle.sym_code.specs.declared.code.BlockName.{BlockName}
use Rattle.sym_code.specs.declared.code.Sym as code
use Rattle.select_trace.specs.Code as model
use Rattle.select_trace.specs.Comparisons.{Truth}
use Rattle.select_trace.specs.Links.{AreBytes}
use Rattle.select_trace.specs.Operators.{Computes}
use Rattle.select_trace.specs.Run as run
use Rattle.select_trace.specs.Run.{Sym, Machine}
use Rattle.select_trace.specs.Shifts.{IsTop}
use Rattle.select_trace.specs.Silent.{OwnsBytes, IsIn, Begins}
use Rattle.select_trace.specs.Values.{val}
use Rattle.select_trace.proofs.Binary as binary
use Rattle.select_trace.proofs.Comparisons.{order, order_answer, turns_of}
use Rattle.select_trace.proofs.Equality.{equality, equality_answer}
use Rattle.select_trace.proofs.Means.{Means}
use Rattle.select_trace.proofs.Meanings as meanings
use Rattle.select_trace.proofs.Operators.{Fits, bound, tops}
use Rattle.select_trace.proofs.OwnByteSites as sites
use Rattle.select_trace.proofs.ComparisonValues.{lt_value, ge_value, gt_value, le_value, eq_value, ne_value}
use Rattle.select_trace.proofs.Vals.{val_below}

further : (root : Root) (copy size : ℕ) (byte : Byte) (n k : ℕ) → IsIn root copy size byte n → behind (behind byte 1) k ≡ behind byte (suc k)
further root copy size (Frame c offset) n k h = ap (λ (x : ℕ). Frame c x) (let e : offset + 1 + k ≡ offset + suc k = omega arith in e)
further root copy size (Result r offset) n k h = ap (λ (x : ℕ). Result r x) (let e : offset + 1 + k ≡ offset + suc k = omega arith in e)
further root copy size (Static object offset) n k h = absurd h
further root copy size (Device address) n k h = absurd h

rest_in : (root : Root) (copy size : ℕ) (byte : Byte) (n : ℕ) → 0 < n → IsIn root copy size byte n → IsIn root copy size (behind byte 1) (n - 1)
rest_in root copy size (Frame c offset) n lt h = (h.0, let b : offset + n ≤ size = h.1 in omega arith)
rest_in root copy size (Result r offset) n lt h = (h.0, let b : offset + n ≤ 4 = h.1 in omega arith)
rest_in root copy size (Static object offset) n lt h = absurd h
rest_in root copy size (Device address) n lt h = absurd h

wide : (ty : IntTy) (w : ℕ) → Fits ty w → 0 < w
wide ty w e = subst (λ (x : ℕ). 0 < x) (sym e) (at ty)
  where
    at : (ty : IntTy) → 0 < bytes_of ty
    at ty = grind arith

both : (a b : Bool) → (a && b) ≡ true → (a ≡ true) × (b ≡ true)
both true b e = (refl, e)
both false b e = absurd (cc)

two_bytes : (m : Memory) (f : ℕ → ℕ) → m (f 1) ≡ 0 → val (λ j. m (f j)) 2 ≡ m (f 0)
two_bytes m f e = let z : m (f 1) ≡ 0 = e in omega arith

module _ (g : Setting) (inside : Bool) (copy size : ℕ) (own : OwnsBytes g inside copy size) (price : BlockName → ℕ → ℕ) (block : BlockName) (i : ℕ) (s : Scene) where
  abbrev P : Byte → Type 0
  P = sites.Own g inside copy size own

  abbrev at : Byte → ℕ
  at = sites.at g inside copy size own

  abbrev In : Byte → ℕ → Type 0
  In = sites.In g inside copy size own

  abbrev spot : Byte → ℕ → ℕ
  spot = sites.spot g inside copy size own

  abbrev begin : Machine
  begin = sites.begin g inside copy size own price block i s

  abbrev num : Byte → ℕ → ℕ
  num = binary.num g inside copy size own price block i s

  abbrev Valued : List code.Sym → Byte → ℕ → BinOp → IntTy → ℕ → ℕ → Type 0
  Valued = binary.Valued g inside copy size own price block i s

  small : (ty : IntTy) (w : ℕ) → Fits ty w → (m : Memory) → AreBytes m → (byte : Byte) → val (λ j. m (spot byte j)) w < span ty
  small ty w e m ok byte = subst (λ (x : ℕ). val (λ j. m (spot byte j)) w < x) (bound ty w e) (val_below (λ j. m (spot byte j)) w (λ j l. ok (spot byte j)))

  top : (ty : IntTy) (w : ℕ) → Fits ty w → AreBytes s.memory → (byte : Byte) → IsTop (span ty) (num byte w) (s.memory (spot byte (w - 1)) / 128)
  top ty w e ok byte = subst (λ (x : ℕ). IsTop x (num byte w) (s.memory (spot byte (w - 1)) / 128)) (bound ty w e) (tops (λ j. s.memory (spot byte j)) w (wide ty w e) (λ j l. ok (spot byte j)))

  two_apart : (to : Byte) → In to 2 → spot to 0 ≡ spot to 1 → ⊥
  two_apart to ht e = sites.distinct g inside copy size own to 2 ht 0 1 (omega arith) (omega arith) e

  -- a truth in two bytes
  told : (list : List code.Sym) (ys : List Sym) (to : Byte) (x : ℕ) → In to 2 → Begins g block i list s → Means P at list ys → Truth s.memory (run.run ys begin) (spot to) x → Computes g price inside block i list to 2 x s
  told list ys to x ht b m h =
      sites.computes g inside copy size own price block i s list ys to 2 x b m h.fine (two_bytes (run.run ys begin).memory (spot to) h.high ∙ h.low)
      (λ a no. h.others a (no 0 (omega arith)) (no 1 (omega arith)))

  order_at : (ty : IntTy) (usual : ℕ) (to left right : Byte) (w : ℕ) → usual < 2 → Fits ty w → In to 2 → In left w → In right w → Begins g block i (comparisons.order_code (is_signed ty) usual to left right w) s →
      Computes g price inside block i (comparisons.order_code (is_signed ty) usual to left right w) to 2 (order_answer usual (num left w) (num right w) (turns_of (is_signed ty) (s.memory (spot left (w - 1))) (s.memory (spot right (w - 1))))) s
  order_at ty usual to left right w u e ht hl hr b =
      told (comparisons.order_code (is_signed ty) usual to left right w) (model.order_code true (is_signed ty) usual (spot to) (spot left) (spot right) w) to _ ht b
      (meanings.order P at (is_signed ty) usual to left right w u (wide ty w e) (sites.lies g inside copy size own to 2 (omega arith) ht) (sites.lies g inside copy size own left w (wide ty w e) hl) (sites.lies g inside copy size own right w (wide ty w e) hr))
      (order true (is_signed ty) usual (spot to) (spot left) (spot right) w u (wide ty w e) (two_apart to ht) begin (sites.fine g inside copy size own price block i s (comparisons.order_code (is_signed ty) usual to left right w) b))

  pub lt_runs : (ty : IntTy) (to left right : Byte) (w : ℕ) → Fits ty w → In to 2 → In left w → In right w → Begins g block i (comparisons.order_code (is_signed ty) 0 to left right w) s →
      Valued (comparisons.order_code (is_signed ty) 0 to left right w) to 2 ops.Lt ty (num left w) (num right w)
  lt_runs ty to left right w e ht hl hr b = record { answer = _; computes = order_at ty 0 to left right w (omega arith) e ht hl hr b; value = lt_value ty _ _ _ _ _ (small ty w e s.memory b.bytes left) (small ty w e s.memory b.bytes right) (top ty w e b.bytes left) (top ty w e b.bytes right) refl }

  pub ge_runs : (ty : IntTy) (to left right : Byte) (w : ℕ) → Fits ty w → In to 2 → In left w → In right w → Begins g block i (comparisons.order_code (is_signed ty) 1 to left right w) s →
      Valued (comparisons.order_code (is_signed ty) 1 to left right w) to 2 ops.Ge ty (num left w) (num right w)
  ge_runs ty to left right w e ht hl hr b = record { answer = _; computes = order_at ty 1 to left right w (omega arith) e ht hl hr b; value = ge_value ty _ _ _ _ _ (small ty w e s.memory b.bytes left) (small ty w e s.memory b.bytes right) (top ty w e b.bytes left) (top ty w e b.bytes right) refl }

  pub gt_runs : (ty : IntTy) (to left right : Byte) (w : ℕ) → Fits ty w → In to 2 → In left w → In right w → Begins g block i (comparisons.order_code (is_signed ty) 0 to right left w) s →
      Valued (comparisons.order_code (is_signed ty) 0 to right left w) to 2 ops.Gt ty (num left w) (num right w)
  gt_runs ty to left right w e ht hl hr b = record { answer = _; computes = order_at ty 0 to right left w (omega arith) e ht hr hl b; value = gt_value ty _ _ _ _ _ (small ty w e s.memory b.bytes left) (small ty w e s.memory b.bytes right) (top ty w e b.bytes left) (top ty w e b.bytes right) refl }

  pub le_runs : (ty : IntTy) (to left right : Byte) (w : ℕ) → Fits ty w → In to 2 → In left w → In right w → Begins g block i (comparisons.order_code (is_signed ty) 1 to right left w) s →
      Valued (comparisons.order_code (is_signed ty) 1 to right left w) to 2 ops.Le ty (num left w) (num right w)
  le_runs ty to left right w e ht hl hr b = record { answer = _; computes = order_at ty 1 to right left w (omega arith) e ht hr hl b; value = le_value ty _ _ _ _ _ (small ty w e s.memory b.bytes left) (small ty w e s.memory b.bytes right) (top ty w e b.bytes left) (top ty w e b.bytes right) refl }

  -- the first byte of the answer is none of the operand's others
  clear_of : (to byte : Byte) (w : ℕ) → In to 2 → In byte w → misses to 1 (behind byte 1) (w - 1) ≡ true → (k : ℕ) → 0 < k → k < w → spot to 0 ≡ spot byte k → ⊥
  clear_of to byte w ht hb m zero lt lk e = absurd (omega arith)
  clear_of to byte w ht hb m (suc k) lt lk e =
      sites.missed g inside copy size own to (behind byte 1) 1 (w - 1) (sites.fewer (root_of inside) copy size to 2 1 ht (omega arith)) (rest_in (root_of inside) copy size byte w (omega arith) hb) m 0 k (omega arith) (omega arith)
      (e ∙ ap at (sym (further (root_of inside) copy size byte w k hb)))

  equality_at : (ty : IntTy) (usual : ℕ) (to left right : Byte) (w : ℕ) → usual < 2 → Fits ty w → In to 2 → In left w → In right w → (misses to 1 (behind left 1) (w - 1) && misses to 1 (behind right 1) (w - 1)) ≡ true →
      Begins g block i (comparisons.equality_code usual to left right w) s → Computes g price inside block i (comparisons.equality_code usual to left right w) to 2 (equality_answer usual (num left w) (num right w)) s
  equality_at ty usual to left right w u e ht hl hr fits b =
      let f = both (misses to 1 (behind left 1) (w - 1)) (misses to 1 (behind right 1) (w - 1)) fits in
      told (comparisons.equality_code usual to left right w) (model.equality_code true usual (spot to) (spot left) (spot right) w) to _ ht b
      (meanings.equality P at usual to left right w u (sites.lies g inside copy size own to 2 (omega arith) ht) (sites.lies g inside copy size own left w (wide ty w e) hl) (sites.lies g inside copy size own right w (wide ty w e) hr))
      (equality true usual (spot to) (spot left) (spot right) w u (wide ty w e) (two_apart to ht) (λ k lt lk. (clear_of to left w ht hl f.0 k lt lk, clear_of to right w ht hr f.1 k lt lk)) begin
      (sites.fine g inside copy size own price block i s (comparisons.equality_code usual to left right w) b))

  pub eq_runs : (ty : IntTy) (to left right : Byte) (w : ℕ) → Fits ty w → In to 2 → In left w → In right w → (misses to 1 (behind left 1) (w - 1) && misses to 1 (behind right 1) (w - 1)) ≡ true →
      Begins g block i (comparisons.equality_code 0 to left right w) s → Valued (comparisons.equality_code 0 to left right w) to 2 ops.Eq ty (num left w) (num right w)
  eq_runs ty to left right w e ht hl hr f b = record { answer = _; computes = equality_at ty 0 to left right w (omega arith) e ht hl hr f b; value = eq_value ty _ _ _ (small ty w e s.memory b.bytes left) (small ty w e s.memory b.bytes right) refl }

  pub ne_runs : (ty : IntTy) (to left right : Byte) (w : ℕ) → Fits ty w → In to 2 → In left w → In right w → (misses to 1 (behind left 1) (w - 1) && misses to 1 (behind right 1) (w - 1)) ≡ true →
      Begins g block i (comparisons.equality_code 1 to left right w) s → Valued (comparisons.equality_code 1 to left right w) to 2 ops.Ne ty (num left w) (num right w)
  ne_runs ty to left right w e ht hl hr f b = record { answer = _; computes = equality_at ty 1 to left right w (omega arith) e ht hl hr f b; value = ne_value ty _ _ _ (small ty w e s.memory b.bytes left) (small ty w e s.memory b.bytes right) refl }
