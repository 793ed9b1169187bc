-- Shifts by a constant, where their code stands.
use Rattle.std.proofs.Common.{◌≡◌, ℕ, ◌+◌, ◌-◌, ◌*◌, ◌/◌, ◌%◌, ◌^◌, ◌<◌, ◌≤◌, Bool, true, false, List, [], ◌++◌, refl, ap, sym, ◌∙◌, subst, arith}
use Rattle.std.specs.Prelude.{nat_eq, ◌||◌, if◌then◌else◌}
use Rattle.std.proofs.lemmas.Bool.{lt-ltb}
use Rattle.c_ints.specs.declared.operators.BinOp.{BinOp}
use Rattle.c_ints.specs.declared.operators.BinOp.TheVariants as ops
use Rattle.c_ints.specs.declared.types.IntTy.{IntTy}
use Rattle.core_code.specs.Bytes.{same_byte, misses, is_same_or_misses}
use Rattle.core_code.specs.declared.code.Byte.{Byte}
use Rattle.select_code.specs.Pieces as pieces
use Rattle.select_code.specs.Pieces.{byte_behind}
use Rattle.select_code.specs.declared.pieces.Flag.TheVariants.{Carry}
use Rattle.select_wide.specs.Shifts as shifts
use Rattle.select_wide.specs.Single.{is_signed}
use Rattle.select_wide.specs.declared.operands.Way.{Way}
use Rattle.select_wide.specs.declared.operands.Way.TheVariants.{Left, Right, SignedRight}
use Rattle.sym_code.specs.Effect.{Setting, root_of}
use Rattle.sym_code.specs.Quiet.{Scene}
use Rattle.sym_code.specs.declared.code.BitOperation.TheVariants.{Bcf}
use Rattle.sym_code.specs.declared.code.BlockName.{BlockName}
use Rattle.sym_code.specs.declared.code.FileOperation.TheVariants.{Rlf, Rrf}
use Rattle.sym_code.specs.declared.code.Into.TheVariants.{W, File}
use Rattle.sym_code.specs.declared.code.Sym as code
use Rattle.select_trace.specs.Code as model
use Rattle.select_trace.specs.Constants.{Shifts}
use Rattle.select_trace.specs.Copies.{Copied}
use Rattle.select_trace.specs.Ints.{IsValue}
use Rattle.select_trace.specs.Links.{Fine}
use Rattle.select_trace.specs.Run as run
use Rattle.select_trace.specs.Run.{Sym, Machine}
use Rattle.select_trace.specs.Shifts.{IsTop}
use Rattle.select_trace.specs.Silent.{OwnsBytes, Begins}
use Rattle.select_trace.specs.Values.{val}
use Rattle.select_trace.proofs.Binary as binary
use Rattle.select_trace.proofs.Constants.{left_by, right_by, signed_right_by, left_value, right_value, signed_right_value}
use Rattle.select_trace.proofs.Copies.{copied}
use Rattle.select_trace.proofs.Means as means
use Rattle.select_trace.proofs.Means.{Means, Lies}
use Rattle.select_trace.proofs.Operators.{Fits, tops}
use Rattle.select_trace.proofs.OwnByteSites as sites
use Rattle.select_trace.proofs.OwnByteSites.{Behind, from_behind}
use Rattle.select_trace.proofs.Vals.{run_append, val_same}

abbrev pub way_is : Way → model.Way
way_is Left = model.Left
way_is Right = model.Right
way_is SignedRight = model.SignedRight

module _ (g : Setting) (inside : Bool) (copy size : ℕ) (own : OwnsBytes g inside copy size) (price : BlockName → ℕ → ℕ) (block : BlockName) (i : ℕ) (s : Scene) where
  abbrev P : Byte → Type 0
  P = sites.Own g inside copy size own

  abbrev at : Byte → ℕ
  at = sites.at g inside copy size own

  abbrev In : Byte → ℕ → Type 0
  In = sites.In g inside copy size own

  abbrev spot : Byte → ℕ → ℕ
  spot = sites.spot g inside copy size own

  abbrev begin : Machine
  begin = sites.begin g inside copy size own price block i s

  abbrev M : List code.Sym → List Sym → Type 0
  M xs ys = Means P at xs ys

  also : {a c : List code.Sym} {b d : List Sym} → M a b → M c d → M (a ++ c) (b ++ d)
  also {a} {c} {b} {d} h k = means.joined P at a c b d h k

  behind_at : (byte : Byte) (w a k : ℕ) → In byte w → a + k < w → Behind P at byte a (spot byte) k
  behind_at byte w a k h lt = from_behind g inside copy size own byte w a k h lt

  -- ---- by whole bytes
  raised : (byte : Byte) (w bytes : ℕ) → bytes < w → In byte w → M (shifts.raised_code byte w bytes) (model.raised_code (spot byte) w bytes)
  raised byte w bytes lt h =
      let l : Lies P at byte w = sites.lies g inside copy size own byte w (omega arith) h in
      means.each P at (λ k. pieces.copy_code (byte_behind byte (w - 1 - k)) (byte_behind byte (w - 1 - k - bytes))) (λ k. model.copy_code (spot byte (w - 1 - k)) (spot byte (w - 1 - k - bytes))) (w - bytes)
      (λ k lk. means.copy P at (byte_behind byte (w - 1 - k)) (byte_behind byte (w - 1 - k - bytes)) (spot byte (w - 1 - k)) (spot byte (w - 1 - k - bytes))
      (l.there (w - 1 - k) (omega arith)) (l.more (w - 1 - k) (omega arith)) (l.there (w - 1 - k - bytes) (omega arith)) (l.more (w - 1 - k - bytes) (omega arith)))

  bytes_up : (byte : Byte) (w bytes : ℕ) → bytes < w → In byte w → M (shifts.bytes_up_code byte w bytes) (model.bytes_up_code true (spot byte) w bytes)
  bytes_up byte w bytes lt h =
      let l : Lies P at byte w = sites.lies g inside copy size own byte w (omega arith) h in
      also (raised byte w bytes lt h) (means.clears P at byte bytes (spot byte) (λ k lk. (l.there k (omega arith), l.more k (omega arith), l.clear k (omega arith))))

  bytes_down : (signed : Bool) (byte : Byte) (w bytes : ℕ) → bytes < w → In byte w → M (shifts.bytes_down_code signed byte w bytes) (model.bytes_down_code true signed (spot byte) w bytes)
  bytes_down signed byte w bytes lt h =
      let l : Lies P at byte w = sites.lies g inside copy size own byte w (omega arith) h in
      also (means.copies P at byte (byte_behind byte bytes) (w - bytes) (spot byte) (model.behind (spot byte) bytes)
      (λ k lk. let x = behind_at byte w bytes k h (omega arith) in (l.there k (omega arith), l.more k (omega arith), x.own, x.is)))
      (means.either P at signed _ _ _ _
      (also (means.sign P at (byte_behind byte (w - bytes - 1)) (spot byte (w - bytes - 1)) (l.there (w - bytes - 1) (omega arith)) (l.more (w - bytes - 1) (omega arith)))
      (means.stores P at (byte_behind byte (w - bytes)) bytes (model.behind (spot byte) (w - bytes)) (λ k lk. let x = behind_at byte w (w - bytes) k h (omega arith) in (x.own, x.is))))
      (means.clears P at (byte_behind byte (w - bytes)) bytes (model.behind (spot byte) (w - bytes)) (λ k lk. let x = behind_at byte w (w - bytes) k h (omega arith) in (x.own, x.is, x.clear))))

  bytes_way : (way : Way) (byte : Byte) (w bytes : ℕ) → bytes < w → In byte w → M (shifts.bytes_way_code way byte w bytes) (model.bytes_way_code true (way_is way) (spot byte) w bytes)
  bytes_way Left byte w bytes lt h = bytes_up byte w bytes lt h
  bytes_way Right byte w bytes lt h = bytes_down false byte w bytes lt h
  bytes_way SignedRight byte w bytes lt h = bytes_down true byte w bytes lt h

  -- ---- bit by bit
  bit_up : (byte : Byte) (w bytes : ℕ) → bytes < w → In byte w → M (shifts.bit_up_code (byte_behind byte bytes) (w - bytes)) (model.bit_up_code (model.behind (spot byte) bytes) (w - bytes))
  bit_up byte w bytes lt h = means.each P at (λ k. pieces.file_code Rlf (byte_behind (byte_behind byte bytes) k) File) (λ k. model.file_code Rlf (spot byte (bytes + k)) File) (w - bytes)
      (λ k lk. let x = behind_at byte w bytes k h (omega arith) in means.file P at Rlf File (byte_behind (byte_behind byte bytes) k) (spot byte (bytes + k)) x.own x.is)

  bit_down : (byte : Byte) (w n : ℕ) → n ≤ w → 0 < w → In byte w → M (shifts.bit_down_code byte n) (model.bit_down_code (spot byte) n)
  bit_down byte w n le lt h =
      let l : Lies P at byte w = sites.lies g inside copy size own byte w lt h in
      means.each P at (λ k. pieces.file_code Rrf (byte_behind byte (n - 1 - k)) File) (λ k. model.file_code Rrf (spot byte (n - 1 - k)) File) n
      (λ k lk. means.file P at Rrf File (byte_behind byte (n - 1 - k)) (spot byte (n - 1 - k)) (l.there (n - 1 - k) (omega arith)) (l.more (n - 1 - k) (omega arith)))

  bit_shift : (way : Way) (byte : Byte) (w bytes : ℕ) → bytes < w → In byte w → M (shifts.bit_shift_code way byte w bytes) (model.bit_shift_code (way_is way) (spot byte) w bytes)
  bit_shift Left byte w bytes lt h = also (means.flag P at Bcf Carry (omega arith)) (bit_up byte w bytes lt h)
  bit_shift Right byte w bytes lt h = also (means.flag P at Bcf Carry (omega arith)) (bit_down byte w (w - bytes) (omega arith) (omega arith) h)
  bit_shift SignedRight byte w bytes lt h =
      let l : Lies P at byte w = sites.lies g inside copy size own byte w (omega arith) h in
      also (means.file P at Rlf W (byte_behind byte (w - bytes - 1)) (spot byte (w - bytes - 1)) (l.there (w - bytes - 1) (omega arith)) (l.more (w - bytes - 1) (omega arith)))
      (bit_down byte w (w - bytes) (omega arith) (omega arith) h)

  in_place : (way : Way) (byte : Byte) (w count : ℕ) → count / 8 < w → In byte w → M (shifts.in_place_code way byte w count) (model.in_place_code true (way_is way) (spot byte) w count)
  in_place way byte w count lt h =
      also (means.either P at (nat_eq (count / 8) 0) _ _ _ _ (means.none P at) (bytes_way way byte w (count / 8) lt h))
      (means.each P at (λ k. shifts.bit_shift_code way byte w (count / 8)) (λ k. model.bit_shift_code (way_is way) (spot byte) w (count / 8)) (count % 8) (λ k lk. bit_shift way byte w (count / 8) lt h))

  -- ---- the value where it is to be shifted
  abbrev pub moved_model : Byte → Byte → ℕ → List Sym
  moved_model to left w = if same_byte to left then [] else model.copies_code (spot to) (spot left) w

  moved_means : (to left : Byte) (w : ℕ) → 0 < w → In to w → In left w → M (shifts.moved_code to left w) (moved_model to left w)
  moved_means to left w lt ht hl =
      let a : Lies P at to w = sites.lies g inside copy size own to w lt ht in
      let b : Lies P at left w = sites.lies g inside copy size own left w lt hl in
      means.either P at (same_byte to left) _ _ _ _ (means.none P at)
      (means.copies P at to left w (spot to) (spot left) (λ k lk. (a.there k lk, a.more k lk, b.there k lk, b.more k lk)))

  record Moved (to left : Byte) (w : ℕ) (u : Machine) : Type 0 where
    fine : Fine u
    is : (j : ℕ) → j < w → u.memory (spot to j) ≡ s.memory (spot left j)
    others : (a : ℕ) → ((j : ℕ) → j < w → a ≡ spot to j → ⊥) → u.memory a ≡ s.memory a

  by_or : (a b : Bool) → a ≡ false → (a || b) ≡ true → b ≡ true
  by_or true b e f = absurd (cc)
  by_or false b e f = f

  moved : (to left : Byte) (w : ℕ) → In to w → In left w → is_same_or_misses w to left ≡ true → Fine begin → Moved to left w (run.run (moved_model to left w) begin)
  moved to left w ht hl fits ok = by (same_byte to left) refl
    where
      by : (c : Bool) → same_byte to left ≡ c → Moved to left w (run.run (if same_byte to left then [] else model.copies_code (spot to) (spot left) w) begin)
      by true e = subst (λ (b : Bool). Moved to left w (run.run (if b then [] else model.copies_code (spot to) (spot left) w) begin)) (sym e)
          (record { fine = ok; is = λ j lt. ap (λ (x : Byte). s.memory (spot x j)) (sites.same_is (root_of inside) copy size to left w w ht hl e); others = λ a no. refl })
      by false e =
          let m : misses to w left w ≡ true = by_or (same_byte to left) (misses to w left w) e fits in
          let c : Copied s.memory (run.run (model.copies_code (spot to) (spot left) w) begin) (spot to) (spot left) w =
          copied (spot to) (spot left) w (sites.distinct g inside copy size own to w ht) (λ j k lt lk x. sites.missed g inside copy size own to left w w ht hl m j k (omega arith) lk x) begin ok w (omega arith) in
          subst (λ (b : Bool). Moved to left w (run.run (if b then [] else model.copies_code (spot to) (spot left) w) begin)) (sym e)
          (record { fine = c.fine; is = c.copies; others = c.others })

  abbrev num : Byte → ℕ → ℕ
  num = binary.num g inside copy size own price block i s

  abbrev Valued : List code.Sym → Byte → ℕ → BinOp → IntTy → ℕ → ℕ → Type 0
  Valued = binary.Valued g inside copy size own price block i s

  abbrev pub model_code : Way → Byte → Byte → ℕ → ℕ → List Sym
  model_code way to left w count = moved_model to left w ++ model.in_place_code true (way_is way) (spot to) w count

  pub shift_means : (way : Way) (to left : Byte) (w count : ℕ) → count / 8 < w → In to w → In left w → M (shifts.shift_code way to left w count) (model_code way to left w count)
  shift_means way to left w count lt ht hl =
      also (moved_means to left w (omega arith) ht hl)
      (subst (λ (b : Bool). M (if b then shifts.in_place_code way to w count else []) (model.in_place_code true (way_is way) (spot to) w count)) (sym (lt-ltb (count / 8) w lt)) (in_place way to w count lt ht))

  shifted : (way : Way) (to left : Byte) (w count sign : ℕ) (op : BinOp) (ty : IntTy) → count / 8 < w → In to w → In left w → Begins g block i (shifts.shift_code way to left w count) s →
      Moved to left w (run.run (moved_model to left w) begin) →
      Shifts (way_is way) sign (run.run (moved_model to left w) begin) (run.run (model.in_place_code true (way_is way) (spot to) w count) (run.run (moved_model to left w) begin)) (spot to) w count →
      IsValue op ty (val (λ j. (run.run (moved_model to left w) begin).memory (spot to j)) w) count (val (λ j. (run.run (model.in_place_code true (way_is way) (spot to) w count) (run.run (moved_model to left w) begin)).memory (spot to j)) w) →
      Valued (shifts.shift_code way to left w count) to w op ty (num left w) count
  shifted way to left w count sign op ty lt ht hl b m h v =
      let u : Machine = run.run (moved_model to left w) begin in
      let x : Machine = run.run (model.in_place_code true (way_is way) (spot to) w count) u in
      let e : run.run (model_code way to left w count) begin ≡ x = run_append (moved_model to left w) (model.in_place_code true (way_is way) (spot to) w count) begin in
      let l : val (λ j. u.memory (spot to j)) w ≡ num left w = val_same (λ j. u.memory (spot to j)) (λ j. s.memory (spot left j)) w m.is in
      record {
        answer = val (λ j. x.memory (spot to j)) w;
        computes = sites.computes g inside copy size own price block i s (shifts.shift_code way to left w count) (model_code way to left w count) to w _ b (shift_means way to left w count lt ht hl)
            (subst (λ (y : Machine). Fine y) (sym e) h.fine) (ap (λ (y : Machine). val (λ j. y.memory (spot to j)) w) e)
            (λ a no. ap (λ (y : Machine). y.memory a) e ∙ h.others a no ∙ m.others a no);
        value = subst (λ n. IsValue op ty n count (val (λ j. x.memory (spot to j)) w)) l v;
      }

  eighth : (n w : ℕ) → n < 8 * w → n / 8 < w
  eighth n w lt = omega arith

  pub shl_runs : (ty : IntTy) (to left : Byte) (w count : ℕ) → Fits ty w → count < 256 → count < 8 * w → In to w → In left w → is_same_or_misses w to left ≡ true → Begins g block i (shifts.shift_code Left to left w count) s →
      Valued (shifts.shift_code Left to left w count) to w ops.Shl ty (num left w) count
  shl_runs ty to left w count e small lt ht hl fits b =
      let l : count / 8 < w = eighth count w lt in
      let m : Moved to left w (run.run (moved_model to left w) begin) = moved to left w ht hl fits (sites.fine g inside copy size own price block i s (shifts.shift_code Left to left w count) b) in
      let h = left_by true (spot to) w count l (sites.distinct g inside copy size own to w ht) (run.run (moved_model to left w) begin) m.fine in
      shifted Left to left w count 0 ops.Shl ty l ht hl b m h (left_value ty (run.run (moved_model to left w) begin) _ (spot to) w count e small m.fine h)

  pub shr_runs : (ty : IntTy) (to left : Byte) (w count : ℕ) → is_signed ty ≡ false → Fits ty w → count < 256 → count < 8 * w → In to w → In left w → is_same_or_misses w to left ≡ true → Begins g block i (shifts.shift_code Right to left w count) s →
      Valued (shifts.shift_code Right to left w count) to w ops.Shr ty (num left w) count
  shr_runs ty to left w count signed e small lt ht hl fits b =
      let l : count / 8 < w = eighth count w lt in
      let m : Moved to left w (run.run (moved_model to left w) begin) = moved to left w ht hl fits (sites.fine g inside copy size own price block i s (shifts.shift_code Right to left w count) b) in
      let h = right_by true (spot to) w count l (sites.distinct g inside copy size own to w ht) (run.run (moved_model to left w) begin) m.fine in
      shifted Right to left w count 0 ops.Shr ty l ht hl b m h (right_value ty (run.run (moved_model to left w) begin) _ (spot to) w count signed e small m.fine h)

  pub shr_signed_runs : (ty : IntTy) (to left : Byte) (w count : ℕ) → is_signed ty ≡ true → Fits ty w → count < 256 → count < 8 * w → In to w → In left w → is_same_or_misses w to left ≡ true → Begins g block i (shifts.shift_code SignedRight to left w count) s →
      Valued (shifts.shift_code SignedRight to left w count) to w ops.Shr ty (num left w) count
  shr_signed_runs ty to left w count signed e small lt ht hl fits b =
      let l : count / 8 < w = eighth count w lt in
      let m : Moved to left w (run.run (moved_model to left w) begin) = moved to left w ht hl fits (sites.fine g inside copy size own price block i s (shifts.shift_code SignedRight to left w count) b) in
      let u : Machine = run.run (moved_model to left w) begin in
      let top : IsTop (256 ^ w) (val (λ j. u.memory (spot to j)) w) (u.memory (spot to (w - 1)) / 128) = tops (λ j. u.memory (spot to j)) w (omega arith) (λ j k. m.fine.bytes (spot to j)) in
      let first = signed_right_by true (u.memory (spot to (w - 1)) / 128) (spot to) w count l (sites.distinct g inside copy size own to w ht) u m.fine top in
      shifted SignedRight to left w count (u.memory (spot to (w - 1)) / 128) ops.Shr ty l ht hl b m first
      (signed_right_value ty u _ (spot to) w count signed e small m.fine (λ n t. signed_right_by true n (spot to) w count l (sites.distinct g inside copy size own to w ht) u m.fine t) first.fine)
