-- Operators on two numbers that call no routine.
use Rattle.std.proofs.Common.{◌≡◌, ◌⊎◌, inl, inr, ℕ, ◌+◌, ◌*◌, ◌/◌, ◌<◌, ◌≤◌, Bool, true, false, List, [], ◌∷◌, length, Option, Some, None, refl, sym, ap, ◌∙◌, subst, arith, pos}
use Rattle.std.specs.Prelude.{nat_lt, ◌&&◌, ◌||◌, int_lt, int_le, if◌then◌else◌}
use Rattle.std.proofs.lemmas.Bool.Decides.{nat_tests}
use Rattle.c_ints.specs.Operators as outcomes
use Rattle.c_ints.specs.Operators.{cut_to, outcome, type_of}
use Rattle.c_ints.specs.Quantity.{Quantity}
use Rattle.c_ints.specs.Range.{bytes_of, cut, pattern}
use Rattle.c_ints.specs.declared.operators.BinOp.{BinOp}
use Rattle.c_ints.specs.declared.operators.BinOp.TheVariants.{Mul, Div, Rem, Add, Sub, Shl, Shr, Lt, Gt, Le, Ge, Eq, Ne, And, Xor, Or}
use Rattle.c_ints.specs.declared.types.IntTy.{IntTy}
use Rattle.c_ints.specs.declared.types.IntTy.TheVariants.{Char, SChar, UChar, Short, UShort, Int, UInt, Long, ULong}
use Rattle.pic_world.specs.World.{World}
use Rattle.core_code.specs.Bytes as bytes
use Rattle.core_code.specs.Bytes.{Held, behind, same_byte, with_bytes}
use Rattle.core_code.specs.Cost.{binary_cost}
use Rattle.core_code.specs.Machine.{Waiting, is_own}
use Rattle.core_code.specs.Operands.{number_left, is_helped, fits_bytes, fits_together}
use Rattle.core_code.specs.Tree.{Tree}
use Rattle.core_code.specs.Values as values
use Rattle.core_code.specs.Values.{Value, byte_of, right_type}
use Rattle.core_code.specs.declared.code.Byte.{Byte}
use Rattle.math_helpers.specs.Wanted.{byte_at}
use Rattle.select_code.specs.Pieces.{byte_behind}
use Rattle.select_wide.specs.Comparisons as comparisons
use Rattle.select_wide.specs.Selection.{binary_code, shifted_code, way_of}
use Rattle.select_wide.specs.Shifts.{shift_code}
use Rattle.select_wide.specs.Single.{is_signed}
use Rattle.select_wide.specs.Sums as sums
use Rattle.select_wide.specs.declared.operands.Chain.{Chain}
use Rattle.select_wide.specs.declared.operands.Chain.TheVariants.{Sum, Difference}
use Rattle.select_wide.specs.declared.operands.Way.{Way}
use Rattle.select_wide.specs.declared.operands.Way.TheVariants.{Left}
use Rattle.sym_code.specs.Effect.{Memory, root_of}
use Rattle.sym_code.specs.Machine.{Machine}
use Rattle.sym_code.specs.Programs.{Position}
use Rattle.sym_code.specs.Registers.{Registers}
use Rattle.sym_code.specs.Registers as registers
use Rattle.sym_code.specs.declared.code.BlockName.TheVariants.{Copy}
use Rattle.sym_code.specs.declared.code.FileOperation.{FileOperation}
use Rattle.sym_code.specs.declared.code.FileOperation.TheVariants.{Andwf, Iorwf, Xorwf}
use Rattle.sym_code.specs.declared.code.Into.TheVariants.{File}
use Rattle.sym_code.specs.declared.code.Sym.{Sym}
use Rattle.select_trace.proofs.Truths.{and_left}
use Rattle.select_trace.proofs.Standing.{Has}
use Rattle.select_trace.proofs.Sites.{Site, layout}
use Rattle.select_trace.proofs.Live.{is_live, below}
use Rattle.select_trace.proofs.Memory.{Shown}
use Rattle.select_trace.proofs.Blocks.{block}
use Rattle.select_trace.proofs.Steps.{Fit}
use Rattle.select_trace.proofs.Values.{scene, Arrives}
use Rattle.select_trace.specs.Code as model
use Rattle.select_trace.specs.Operators.{number_from, IsCount}
use Rattle.select_trace.specs.Silent.{number_at, OwnsBytes, IsIn, AreStraight}
use Rattle.select_trace.proofs.Ints.{Stands, Plain, Negative, stands}
use Rattle.select_trace.proofs.Means as means
use Rattle.select_trace.proofs.Meanings as meanings
use Rattle.select_trace.proofs.Meanings.{chain_of}
use Rattle.select_trace.proofs.Names.{IsOwnOne}
use Rattle.select_trace.proofs.Selected.{binary_runs}
use Rattle.select_trace.proofs.Shifted as shifted
use Rattle.select_trace.proofs.OwnByteSites as sites
use Rattle.select_trace.proofs.Sizes as sizes
use Rattle.select_trace.proofs.Sizes.{straight_of}
use Rattle.select_trace.proofs.Turns as turns
use Rattle.select_trace.proofs.Unaries as unaries

wide : (ty : IntTy) → 0 < bytes_of ty
wide ty = grind arith

some_is : {A : Type 0} {x y : A} → Some x ≡ Some y → x ≡ y
some_is e = cc

-- the type of what an operator gives
pub type_is : (op : BinOp) (a b q : Quantity) → outcome op a b ≡ Some q → q.ty ≡ type_of op a.ty
type_is op a b q e = by (outcomes.has_no_value op a.ty a.number b.number) e
  where
    by : (c : Bool) → (if c then None else Some (outcomes.value_of op a b)) ≡ Some q → q.ty ≡ type_of op a.ty
    by true e = absurd (cc)
    by false e = ap (λ (z : Quantity). z.ty) (sym (some_is e))

small_count : (w n : ℕ) → (int_lt (pos n) (pos 0) || int_le (pos w) (pos n)) ≡ false → n < w
small_count w n e = grind (arith, nat_tests)

not_bad : {A : Type 0} (b : Bool) (x v : A) → (if b then None else Some x) ≡ Some v → b ≡ false
not_bad true x v e = absurd (cc)
not_bad false x v e = refl

byte_cut : (n : ℕ) → n < 256 → cut UChar (pos n) ≡ pos n
byte_cut n lt = by (stands UChar n lt)
  where
    by : Stands UChar n (cut UChar (pos n)) → cut UChar (pos n) ≡ pos n
    by (Plain e l) = e
    by (Negative z l e) = absurd (cc)

module _ (s : Site) (t : Machine) (wc : World Held) (f : ℕ) (pr : Option ℕ) (st : List Waiting) (loops : List ℕ) (ps : List Position) (cm : bytes.Memory) (m : Memory) (fit : Fit s t wc f pr st loops ps cm m) (r : Registers) (fits : registers.Fits r) where
  abbrev P : Byte → Type 0
  P = IsOwnOne wc.inside f (s.q.frame_bytes f)

  abbrev at : Byte → ℕ
  at = number_at (layout s)

  own : OwnsBytes s.g wc.inside f (s.q.frame_bytes f)
  own = turns.own s t wc f pr st loops ps cm m fit r fits

  abbrev In : Byte → ℕ → Type 0
  In b n = IsIn (root_of wc.inside) f (s.q.frame_bytes f) b n

  lies : (b : Byte) (n : ℕ) → 0 < n → In b n → means.Lies P at b n
  lies b n lt h = sites.lies s.g wc.inside f (s.q.frame_bytes f) own b n lt h

  abbrev spot : Byte → ℕ → ℕ
  spot b k = number_at (layout s) (behind b k)

  abbrev num : Byte → ℕ → ℕ
  num x w = number_from (layout s) m x w

  -- ---- that the code jumps nowhere
  chain_straight : (chain : Chain) (to left right : Byte) (w : ℕ) → 0 < w → In to w → In left w → In right w → AreStraight P (sums.chain_code chain to left right w)
  chain_straight chain to left right w lt ht hl hr =
      (means.each P at (sums.chain_byte_code chain to left right) (λ k. if same_byte to left then model.link_code (chain_of chain) (spot left) (spot right) File k else model.apart_code (chain_of chain) (spot to) (spot left) (spot right) k) w
      (λ k l. means.either P at (same_byte to left) _ _ _ _ (meanings.link P at chain left right File w (lies left w lt hl) (lies right w lt hr) k l) (meanings.apart P at chain to left right w (lies to w lt ht) (lies left w lt hl) (lies right w lt hr) k l))).straight

  either_straight : (b : Bool) (xs ys : List Sym) → AreStraight P xs → AreStraight P ys → AreStraight P (if b then xs else ys)
  either_straight true xs ys h k = h
  either_straight false xs ys h k = k

  bits_straight : (op : FileOperation) (to left right : Byte) (w : ℕ) → 0 < w → In to w → In left w → In right w → AreStraight P (sums.bits_code op to left right w)
  bits_straight op to left right w lt ht hl hr =
      (meanings.bits P at op (same_byte to left) to left right w
      (λ k l. ap (λ (z : Byte). same_byte z (byte_behind left k)) (sites.behind_is s.g wc.inside f (s.q.frame_bytes f) own to w k ht l) ∙ ap (λ (z : Byte). same_byte (behind to k) z) (sites.behind_is s.g wc.inside f (s.q.frame_bytes f) own left w k hl l) ∙ sites.same_further (root_of wc.inside) f (s.q.frame_bytes f) to left w k ht hl)
      (lies to w lt ht) (lies left w lt hl) (lies right w lt hr)).straight

  -- what is known of the code of an operator, shifts aside
  record Prepared (list : List Sym) (most : ℕ) : Type 0 where
    long : ℕ
    size : sizes.Fits list long
    cheap : long + 2 ≤ most
    straight : AreStraight P list

  abbrev Code : BinOp → List Tree → IntTy → Byte → Byte → Byte → List Sym
  Code op before ty to x y = binary_code s.copies (s.q.root f) before op ty to x y

  abbrev Prepares : BinOp → Type 0
  Prepares op = (before : List Tree) (ty : IntTy) (to x y : Byte) → In to (bytes_of (type_of op ty)) → In x (bytes_of ty) → In y (bytes_of ty) → Prepared (Code op before ty to x y) (binary_cost op (number_left before y) (bytes_of ty))

  order_at : (ty : IntTy) (usual : ℕ) (to x y : Byte) → usual < 2 → In to 2 → In x (bytes_of ty) → In y (bytes_of ty) → AreStraight P (comparisons.order_code (is_signed ty) usual to x y (bytes_of ty))
  order_at ty usual to x y u ht hx hy = (meanings.order P at (is_signed ty) usual to x y (bytes_of ty) u (wide ty) (lies to 2 (omega arith) ht) (lies x (bytes_of ty) (wide ty) hx) (lies y (bytes_of ty) (wide ty) hy)).straight

  add_ready : Prepares Add
  add_ready before ty to x y ht hx hy = record {
    long = bytes_of ty * 6;
    size = sizes.sum_fits to x y (bytes_of ty) (wide ty);
    cheap = let z : 0 < bytes_of ty = wide ty in omega arith;
    straight = either_straight (same_byte to y) (sums.chain_code Sum to y x (bytes_of ty)) (sums.chain_code Sum to x y (bytes_of ty)) (chain_straight Sum to y x (bytes_of ty) (wide ty) ht hy hx) (chain_straight Sum to x y (bytes_of ty) (wide ty) ht hx hy);
  }

  sub_ready : Prepares Sub
  sub_ready before ty to x y ht hx hy = record { long = bytes_of ty * 6; size = sizes.chain_fits Difference to x y (bytes_of ty) (wide ty); cheap = let z : 0 < bytes_of ty = wide ty in omega arith; straight = chain_straight Difference to x y (bytes_of ty) (wide ty) ht hx hy }

  and_ready : Prepares And
  and_ready before ty to x y ht hx hy = record { long = bytes_of ty * 3; size = sizes.and_fits to x y (bytes_of ty) (wide ty); cheap = let z : 0 < bytes_of ty = wide ty in omega arith; straight = bits_straight Andwf to x y (bytes_of ty) (wide ty) ht hx hy }

  or_ready : Prepares Or
  or_ready before ty to x y ht hx hy = record { long = bytes_of ty * 3; size = sizes.or_fits to x y (bytes_of ty) (wide ty); cheap = let z : 0 < bytes_of ty = wide ty in omega arith; straight = bits_straight Iorwf to x y (bytes_of ty) (wide ty) ht hx hy }

  xor_ready : Prepares Xor
  xor_ready before ty to x y ht hx hy = record { long = bytes_of ty * 3; size = sizes.xor_fits to x y (bytes_of ty) (wide ty); cheap = let z : 0 < bytes_of ty = wide ty in omega arith; straight = bits_straight Xorwf to x y (bytes_of ty) (wide ty) ht hx hy }

  equal_ready : (usual : ℕ) (ty : IntTy) (to x y : Byte) → usual < 2 → In to 2 → In x (bytes_of ty) → In y (bytes_of ty) → Prepared (comparisons.equality_code usual to x y (bytes_of ty)) (10 * bytes_of ty + 20)
  equal_ready usual ty to x y u ht hx hy = record {
    long = bytes_of ty * 3 + 6;
    size = sizes.equality_fits usual to x y (bytes_of ty);
    cheap = omega arith;
    straight = (meanings.equality P at usual to x y (bytes_of ty) u (lies to 2 (omega arith) ht) (lies x (bytes_of ty) (wide ty) hx) (lies y (bytes_of ty) (wide ty) hy)).straight;
  }

  order_ready : (usual : ℕ) (ty : IntTy) (to x y : Byte) → usual < 2 → In to 2 → In x (bytes_of ty) → In y (bytes_of ty) → Prepared (comparisons.order_code (is_signed ty) usual to x y (bytes_of ty)) (10 * bytes_of ty + 30)
  order_ready usual ty to x y u ht hx hy = record { long = bytes_of ty * 6 + 10; size = sizes.order_fits (is_signed ty) usual to x y (bytes_of ty); cheap = omega arith; straight = order_at ty usual to x y u ht hx hy }

  -- ---- what is asked
  abbrev pub Goes : BinOp → List Tree → IntTy → Byte → Byte → Byte → ℕ → Value → Type 0
  Goes op before ty to x y n v = Arrives s wc.inside (is_live f pr (below st)) f ps n r m (n + length (Code op before ty to x y)) (with_bytes cm to (values.byte_count v) (byte_of v)) (binary_cost op (number_left before y) (bytes_of ty))

  -- the value that is computed shows what byte code holds
  abbrev pub Given : BinOp → List Tree → IntTy → Byte → Byte → Byte → ℕ → Quantity → Value → Type 0
  Given op before ty to x y n q v =
      Has (block s f) n (Code op before ty to x y) → is_helped op (number_left before y) ≡ false → fits_together op ty (number_left before y) to x y ≡ true →
      is_own s.q f x (bytes_of ty) ≡ true → is_own s.q f y (bytes_of (right_type op ty)) ≡ true → is_own s.q f to (values.byte_count v) ≡ true → values.byte_count v ≡ bytes_of q.ty →
      IsCount (number_left before y) (m (number_at (layout s) y)) →
      outcome op (cut_to ty (pos (num x (bytes_of ty)))) (cut_to (right_type op ty) (pos (num y (bytes_of (right_type op ty))))) ≡ Some q →
      ((k : ℕ) → k < bytes_of q.ty → Shown s (byte_of v k) (byte_at (pattern q.ty q.number) k)) → Goes op before ty to x y n v

  in_is : (b : Byte) (n : ℕ) → is_own s.q f b n ≡ true → In b n
  in_is b n o = unaries.in_is s t wc f pr st loops ps cm m fit r fits b n o

  by_code : (op : BinOp) (before : List Tree) (ty : IntTy) (to x y : Byte) (n : ℕ) (q : Quantity) (v : Value) → (In to (bytes_of (type_of op ty)) → In x (bytes_of ty) → In y (bytes_of (right_type op ty)) → Prepared (Code op before ty to x y) (binary_cost op (number_left before y) (bytes_of ty))) → Given op before ty to x y n q v
  by_code op before ty to x y n q v ready h help fit2 ox oy oto same count e shows =
      let o2 : is_own s.q f to (bytes_of q.ty) ≡ true = subst (λ k. is_own s.q f to k ≡ true) same oto in
      let hx = in_is x (bytes_of ty) ox in
      let hy = in_is y (bytes_of (right_type op ty)) oy in
      let ht = in_is to (bytes_of q.ty) o2 in
      let te : q.ty ≡ type_of op ty = type_is op (cut_to ty (pos (num x (bytes_of ty)))) (cut_to (right_type op ty) (pos (num y (bytes_of (right_type op ty))))) q e in
      let p = ready (subst (λ (z : IntTy). In to (bytes_of z)) te ht) hx hy in
      let list : List Sym = Code op before ty to x y in
      subst (λ k. Arrives s wc.inside (is_live f pr (below st)) f ps n r m (n + length (Code op before ty to x y)) (with_bytes cm to k (byte_of v)) (binary_cost op (number_left before y) (bytes_of ty))) (sym same)
      (turns.turned s t wc f pr st loops ps cm m fit r fits n (binary_cost op (number_left before y) (bytes_of ty)) list to (bytes_of q.ty) (pattern q.ty q.number) (byte_of v) h p.straight (straight_of P list p.straight p.size.ends)
      (let a : length list ≤ p.long = p.size.most in let c = p.cheap in omega arith)
      (binary_runs s.g s.price wc.inside f (s.q.frame_bytes f) (Copy f) n (scene s f n ps r m) s.copies (s.q.root f) before op ty to x y q own help fit2 (subst (λ (z : IntTy). In to (bytes_of z)) te ht) hx hy count
      (turns.begins s t wc f pr st loops ps cm m fit r fits n list p.size.some p.straight h) e)
      shows o2)

  -- ---- shifts by a number that is known
  two_or_four : (ty : IntTy) → nat_lt 1 (bytes_of ty) ≡ true → (bytes_of ty ≡ 2) ⊎ (bytes_of ty ≡ 4)
  two_or_four Char e = absurd (cc)
  two_or_four SChar e = absurd (cc)
  two_or_four UChar e = absurd (cc)
  two_or_four Short e = inl refl
  two_or_four UShort e = inl refl
  two_or_four Int e = inl refl
  two_or_four UInt e = inl refl
  two_or_four Long e = inr refl
  two_or_four ULong e = inr refl

  shift_size : (way : Way) (to x : Byte) (ty : IntTy) (c : ℕ) → nat_lt 1 (bytes_of ty) ≡ true → c / 8 < bytes_of ty → sizes.Short (shift_code way to x (bytes_of ty) c) (8 * bytes_of ty + 18)
  shift_size way to x ty c e lt = elim (two_or_four ty e) [
    | inl z ↦ subst (λ w. sizes.Short (shift_code way to x w c) (8 * w + 18)) (sym z) (sizes.shift_two way to x c (omega (arith, lt, z)))
    | inr z ↦ subst (λ w. sizes.Short (shift_code way to x w c) (8 * w + 18)) (sym z) (sizes.shift_four way to x c (omega (arith, lt, z)))
  ]

  shift_list : (op : BinOp) (before : List Tree) (ty : IntTy) (to x y : Byte) (n : ℕ) (q : Quantity) (v : Value) (way : Way) (c : ℕ) → Code op before ty to x y ≡ shift_code way to x (bytes_of ty) c →
      binary_cost op (number_left before y) (bytes_of ty) ≡ 8 * bytes_of ty + 20 → nat_lt 1 (bytes_of ty) ≡ true → c / 8 < bytes_of ty → type_of op ty ≡ ty → Given op before ty to x y n q v
  shift_list op before ty to x y n q v way c is most two lt keeps h help fit2 ox oy oto same count e shows = by (Code op before ty to x y) refl
    where
      list : List Sym
      list = Code op before ty to x y

      o2 : is_own s.q f to (bytes_of q.ty) ≡ true
      o2 = subst (λ k. is_own s.q f to k ≡ true) same oto

      te : q.ty ≡ type_of op ty
      te = type_is op (cut_to ty (pos (num x (bytes_of ty)))) (cut_to (right_type op ty) (pos (num y (bytes_of (right_type op ty))))) q e

      ht : In to (bytes_of (type_of op ty))
      ht = subst (λ (z : IntTy). In to (bytes_of z)) te (in_is to (bytes_of q.ty) o2)

      hw : In to (bytes_of ty)
      hw = subst (λ (z : IntTy). In to (bytes_of z)) keeps ht

      hx : In x (bytes_of ty)
      hx = in_is x (bytes_of ty) ox

      hy : In y (bytes_of (right_type op ty))
      hy = in_is y (bytes_of (right_type op ty)) oy

      all : AreStraight P (Code op before ty to x y)
      all = subst (λ (z : List Sym). AreStraight P z) (sym is) (shifted.shift_means s.g wc.inside f (s.q.frame_bytes f) own s.price (Copy f) n (scene s f n ps r m) way to x (bytes_of ty) c lt hw hx).straight

      size : sizes.Short (Code op before ty to x y) (8 * bytes_of ty + 18)
      size = subst (λ (z : List Sym). sizes.Short z (8 * bytes_of ty + 18)) (sym is) (shift_size way to x ty c two lt)

      by : (z : List Sym) → Code op before ty to x y ≡ z → Goes op before ty to x y n v
      by [] z = subst (λ k. Arrives s wc.inside (is_live f pr (below st)) f ps n r m (n + length (Code op before ty to x y)) (with_bytes cm to k (byte_of v)) (binary_cost op (number_left before y) (bytes_of ty))) (sym same)
          (turns.unmoved s t wc f pr st loops ps cm m fit r fits n (binary_cost op (number_left before y) (bytes_of ty)) (Code op before ty to x y) to (bytes_of q.ty) (pattern q.ty q.number) (byte_of v) z
          (binary_runs (turns.bare s t wc f pr st loops ps cm m fit r fits) s.price wc.inside f (s.q.frame_bytes f) (Copy f) 0 (turns.bare_scene s t wc f pr st loops ps cm m fit r fits) s.copies (s.q.root f) before op ty to x y q
          (turns.bare_own s t wc f pr st loops ps cm m fit r fits) help fit2 ht hx hy count (turns.bare_begins s t wc f pr st loops ps cm m fit r fits (Code op before ty to x y) z) e)
          shows o2)
      by (a ∷ rest) z =
          let some : 0 < length (Code op before ty to x y) = (let g = ap length z in omega (arith, g)) in
          subst (λ k. Arrives s wc.inside (is_live f pr (below st)) f ps n r m (n + length (Code op before ty to x y)) (with_bytes cm to k (byte_of v)) (binary_cost op (number_left before y) (bytes_of ty))) (sym same)
          (turns.turned s t wc f pr st loops ps cm m fit r fits n (binary_cost op (number_left before y) (bytes_of ty)) (Code op before ty to x y) to (bytes_of q.ty) (pattern q.ty q.number) (byte_of v) h all (straight_of P (Code op before ty to x y) all (let d : sizes.Short (Code op before ty to x y) (8 * bytes_of ty + 18) = size in d.ends))
          (let d : sizes.Short (Code op before ty to x y) (8 * bytes_of ty + 18) = size in let l : length (Code op before ty to x y) ≤ 8 * bytes_of ty + 18 = d.most in omega (arith, most, l))
          (binary_runs s.g s.price wc.inside f (s.q.frame_bytes f) (Copy f) n (scene s f n ps r m) s.copies (s.q.root f) before op ty to x y q own help fit2 ht hx hy count
          (turns.begins s t wc f pr st loops ps cm m fit r fits n (Code op before ty to x y) some all h) e)
          shows o2)

  -- the count that gives a value
  low_byte : (y : Byte) → In y 1 → num y 1 ≡ m (number_at (layout s) y)
  low_byte y h =
      let z : at y ≡ at (behind y 0) = (lies y 1 (omega arith) h).zero in
      let e : m (number_at (layout s) y) ≡ m (number_at (layout s) (behind y 0)) = ap m z in
      omega (arith, e)

  counts : (ty : IntTy) (y : Byte) (c : ℕ) → In y 1 → m (number_at (layout s) y) ≡ c → outcomes.shifts_badly ty (cut UChar (pos (num y 1))) ≡ false → c / 8 < bytes_of ty
  counts ty y c h k e =
      let n : num y 1 ≡ c = low_byte y h ∙ k in
      let b : num y 1 < 256 = subst (λ z. z < 256) (sym (low_byte y h)) (fit.bytes (number_at (layout s) y)) in
      let f : outcomes.shifts_badly ty (pos (num y 1)) ≡ false = ap (outcomes.shifts_badly ty) (sym (byte_cut (num y 1) b)) ∙ e in
      let lt : num y 1 < 8 * bytes_of ty = small_count (8 * bytes_of ty) (num y 1) f in
      omega (arith, n, lt)

  shl_each : (before : List Tree) (ty : IntTy) (to x y : Byte) (n : ℕ) (q : Quantity) (v : Value) → Given Shl before ty to x y n q v
  unfolding fits_together
  shl_each before ty to x y n q v h help fit2 ox oy oto same count e shows = by (number_left before y) refl
    where
      hy : In y 1
      hy = in_is y 1 oy

      by : (o : Option ℕ) → number_left before y ≡ o → Goes Shl before ty to x y n v
      by None z = let g : is_helped Shl None ≡ false = ap (is_helped Shl) (sym z) ∙ help in absurd (cc)
      by (Some c) z =
          let known : m (number_at (layout s) y) ≡ c = subst (λ o. IsCount o (m (number_at (layout s) y))) z count in
          let fs : (nat_lt 1 (bytes_of ty) && bytes.is_same_or_misses (bytes_of ty) to x) ≡ true = subst (λ o. fits_bytes Shl (bytes_of ty) o to x y ≡ true) z fit2 in
          shift_list Shl before ty to x y n q v Left c (ap (λ o. shifted_code o s.copies (s.q.root f) Shl ty to x y) z) (ap (λ o. binary_cost Shl o (bytes_of ty)) z ∙ refl) (and_left _ _ fs)
          (counts ty y c hy known (not_bad (outcomes.shifts_badly ty (cut UChar (pos (num y 1)))) _ q e)) refl h help fit2 ox oy oto same count e shows

  shr_each : (before : List Tree) (ty : IntTy) (to x y : Byte) (n : ℕ) (q : Quantity) (v : Value) → Given Shr before ty to x y n q v
  unfolding fits_together
  shr_each before ty to x y n q v h help fit2 ox oy oto same count e shows = by (number_left before y) refl
    where
      hy : In y 1
      hy = in_is y 1 oy

      by : (o : Option ℕ) → number_left before y ≡ o → Goes Shr before ty to x y n v
      by None z = let g : is_helped Shr None ≡ false = ap (is_helped Shr) (sym z) ∙ help in absurd (cc)
      by (Some c) z =
          let known : m (number_at (layout s) y) ≡ c = subst (λ o. IsCount o (m (number_at (layout s) y))) z count in
          let fs : (nat_lt 1 (bytes_of ty) && bytes.is_same_or_misses (bytes_of ty) to x) ≡ true = subst (λ o. fits_bytes Shr (bytes_of ty) o to x y ≡ true) z fit2 in
          shift_list Shr before ty to x y n q v (way_of Shr (is_signed ty)) c (ap (λ o. shifted_code o s.copies (s.q.root f) Shr ty to x y) z) (ap (λ o. binary_cost Shr o (bytes_of ty)) z ∙ refl) (and_left _ _ fs)
          (counts ty y c hy known (not_bad (outcomes.shifts_badly ty (cut UChar (pos (num y 1)))) _ q e)) refl h help fit2 ox oy oto same count e shows

  -- each operator that calls no routine
  pub each : (op : BinOp) (before : List Tree) (ty : IntTy) (to x y : Byte) (n : ℕ) (q : Quantity) (v : Value) → Given op before ty to x y n q v
  each Mul before ty to x y n q v h help fit2 ox oy oto same count e shows = absurd (cc)
  each Div before ty to x y n q v h help fit2 ox oy oto same count e shows = absurd (cc)
  each Rem before ty to x y n q v h help fit2 ox oy oto same count e shows = absurd (cc)
  each Add before ty to x y n q v h help fit2 ox oy oto same count e shows = by_code Add before ty to x y n q v (add_ready before ty to x y) h help fit2 ox oy oto same count e shows
  each Sub before ty to x y n q v h help fit2 ox oy oto same count e shows = by_code Sub before ty to x y n q v (sub_ready before ty to x y) h help fit2 ox oy oto same count e shows
  each And before ty to x y n q v h help fit2 ox oy oto same count e shows = by_code And before ty to x y n q v (and_ready before ty to x y) h help fit2 ox oy oto same count e shows
  each Or before ty to x y n q v h help fit2 ox oy oto same count e shows = by_code Or before ty to x y n q v (or_ready before ty to x y) h help fit2 ox oy oto same count e shows
  each Xor before ty to x y n q v h help fit2 ox oy oto same count e shows = by_code Xor before ty to x y n q v (xor_ready before ty to x y) h help fit2 ox oy oto same count e shows
  each Eq before ty to x y n q v h help fit2 ox oy oto same count e shows = by_code Eq before ty to x y n q v (equal_ready 0 ty to x y (omega arith)) h help fit2 ox oy oto same count e shows
  each Ne before ty to x y n q v h help fit2 ox oy oto same count e shows = by_code Ne before ty to x y n q v (equal_ready 1 ty to x y (omega arith)) h help fit2 ox oy oto same count e shows
  each Lt before ty to x y n q v h help fit2 ox oy oto same count e shows = by_code Lt before ty to x y n q v (order_ready 0 ty to x y (omega arith)) h help fit2 ox oy oto same count e shows
  each Ge before ty to x y n q v h help fit2 ox oy oto same count e shows = by_code Ge before ty to x y n q v (order_ready 1 ty to x y (omega arith)) h help fit2 ox oy oto same count e shows
  each Gt before ty to x y n q v h help fit2 ox oy oto same count e shows = by_code Gt before ty to x y n q v (λ ht hx hy. order_ready 0 ty to y x (omega arith) ht hy hx) h help fit2 ox oy oto same count e shows
  each Le before ty to x y n q v h help fit2 ox oy oto same count e shows = by_code Le before ty to x y n q v (λ ht hx hy. order_ready 1 ty to y x (omega arith) ht hy hx) h help fit2 ox oy oto same count e shows
  each Shl before ty to x y n q v h help fit2 ox oy oto same count e shows = shl_each before ty to x y n q v h help fit2 ox oy oto same count e shows
  each Shr before ty to x y n q v h help fit2 ox oy oto same count e shows = shr_each before ty to x y n q v h help fit2 ox oy oto same count e shows
