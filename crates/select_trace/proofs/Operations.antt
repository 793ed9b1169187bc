-- One task of byte code, and what symbolic code does then.
use Rattle.std.proofs.Common.{◌≡◌, ℕ, ◌+◌, ◌-◌, ◌*◌, ◌<◌, ◌≤◌, Bool, true, false, not, ◌&&◌, ◌||◌, cond, if◌then◌else◌, List, [], length, Option, Some, None, refl, arith}
use Rattle.c_ints.specs.Range.{bytes_of}
use Rattle.c_ints.specs.declared.operators.BinOp.{BinOp}
use Rattle.c_ints.specs.declared.operators.UnOp.{UnOp}
use Rattle.c_ints.specs.declared.types.IntTy.{IntTy}
use Rattle.pic_world.specs.World.{World}
use Rattle.core_code.specs.Bytes as bytes
use Rattle.core_code.specs.Bytes.{Held, is_private, with_bytes}
use Rattle.core_code.specs.Cost.{cost_of, leaving, least_of, unary_cost, binary_cost, widening_cost, copy_cost}
use Rattle.core_code.specs.Machine as core
use Rattle.core_code.specs.Machine.{Task, Waiting, is_own, is_valid, when, writes, and_then, operated, unary, convert, binary, extent, fits_call, after_helper, has_operands, operate}
use Rattle.core_code.specs.Operands.{number_left, is_helped, fits_unary, fits_together}
use Rattle.core_code.specs.Tree.{Tree, Set, Address, Copy, Load, Store, Unary, Binary, Convert, BitRead, BitWrite, Call, Leave, Many, If, Loop, Exit, Again}
use Rattle.core_code.specs.Values.{Value, byte_count, byte_of, value_in, converted, unary_value, binary_value, right_type}
use Rattle.core_code.specs.declared.code.Byte.{Byte}
use Rattle.sym_code.specs.Effect.{Memory}
use Rattle.sym_code.specs.Machine.{Machine}
use Rattle.sym_code.specs.Programs.{Position}
use Rattle.sym_code.specs.Registers.{Registers, Fits}
use Rattle.select_code.specs.Selected.{if_form}
use Rattle.select_code.specs.Sized.{is_cut}
use Rattle.select_wide.specs.Links.{sets_bytes}
use Rattle.select_wide.specs.Selection.{binary_code}
use Rattle.select_wide.specs.Single.{unary_code, widening_code}
use Rattle.select_trace.proofs.Truths.{and_left, and_right, lt_of, le_of, gt_of}
use Rattle.select_trace.proofs.Standing.{Has}
use Rattle.select_trace.proofs.Sites.{Site, core_of}
use Rattle.select_trace.proofs.Machines.{at, lower, Calm}
use Rattle.select_trace.proofs.Live.{is_live, below}
use Rattle.select_trace.proofs.Blocks.{block, code}
use Rattle.select_trace.proofs.Relation.{place, Left, weaken, After}
use Rattle.select_trace.proofs.Steps.{thread, machine, Fit, stands_at, stays}
use Rattle.select_trace.proofs.Control.{left_to, here_left, many_goes, if_goes, when_after}
use Rattle.select_trace.proofs.Loops.{exit_goes, again_goes, loop_goes}
use Rattle.select_trace.proofs.Calls.{call_goes, leave_goes}
use Rattle.select_trace.proofs.Stores.{fit_with}
use Rattle.select_trace.proofs.Bytes.{set_goes, copy_goes}
use Rattle.select_trace.proofs.Bits.{bit_read_goes, bit_write_goes}
use Rattle.select_trace.proofs.Values.{Arrives, arrives_goes, Ready, Knows, ValuesGo}
use Rattle.select_trace.proofs.Pointing.{address_goes}
use Rattle.select_trace.proofs.Loads.{load_goes, store_all_goes}

pub after_more : (s : Site) (lo hi lo' hi' : ℕ) (x : core.Next) (v : Machine) → lo' ≤ lo → hi ≤ hi' → After s lo hi x v → After s lo' hi' x v
after_more s lo hi lo' hi' (core.Goes d) v a b w = weaken s v d lo hi lo' hi' a b w
after_more s lo hi lo' hi' core.Stuck v a b w = tt
after_more s lo hi lo' hi' core.Still v a b w = let z = w.1 in (w.0, omega (arith, a, z))

no_value : (v : Value) → ◌≡◌ {A = Option Value} None (Some v) → ⊥
no_value v e = absurd (cc)

then_some : (o : Option Value) (g : Value → Option Value) (v : Value) → and_then o g ≡ Some v → (x : Value) × (o ≡ Some x) × (g x ≡ Some v)
then_some None g v e = absurd (no_value v e)
then_some (Some x) g v e = (x, refl, e)

module _ (s : Site) (values : ValuesGo s) (t : Machine) (wc : World Held) (calm : Calm s wc) (f : ℕ) (pr : Option ℕ) (st : List Waiting) (loops : List ℕ) (ps : List Position) (cm : bytes.Memory) (m : Memory) (fit : Fit s t wc f pr st loops ps cm m) where
  ready : (r : Registers) → Fits r → Ready s wc f pr st ps cm m r
  ready r fits = record { fits = fits; any = (t, loops, fit) }

  -- an answer is written
  writes_go : (to : Byte) (o : Option Value) (n n' : ℕ) (r : Registers) (c : List Task) (cm0 : bytes.Memory) (hi : ℕ) → Left s f loops n' c
      → ((v : Value) → o ≡ Some v → is_own s.q f to (byte_count v) ≡ true → Arrives s wc.inside (is_live f pr (below st)) f ps n r m n' (with_bytes cm0 to (byte_count v) (byte_of v)) hi)
      → After s 0 hi (writes s.q to o c f pr st cm0 wc) (at s t (thread s f n ps r) m wc)
  writes_go to None n n' r c cm0 hi l go = tt
  writes_go to (Some v) n n' r c cm0 hi l go =
      let cm' = with_bytes cm0 to (byte_count v) (byte_of v) in
      when_after s 0 hi (is_own s.q f to (byte_count v)) (core.goes c f pr st cm' wc) (at s t (thread s f n ps r) m wc) (λ own.
      arrives_goes s t wc calm f pr st loops ps cm m fit n n' r cm' c hi (go v refl own) l)

  unary_goes : (op : UnOp) (ty : IntTy) (to : Byte) (n : ℕ) (r : Registers) (c : List Task) → Fits r → Has (block s f) n (unary_code op ty to) → Left s f loops (n + length (unary_code op ty to)) c
      → After s 0 (unary_cost op (bytes_of ty)) (unary s.q op ty to c f pr st cm wc) (at s t (thread s f n ps r) m wc)
  unary_goes op ty to n r c fits h l =
      let o = and_then (value_in ty cm to) (unary_value op) in
      when_after s 0 (unary_cost op (bytes_of ty)) (fits_unary op ty && is_own s.q f to (bytes_of ty)) (writes s.q to o c f pr st cm wc) (at s t (thread s f n ps r) m wc) (λ a.
      writes_go to o n (n + length (unary_code op ty to)) r c cm (unary_cost op (bytes_of ty)) l (λ v e own.
      let x = then_some (value_in ty cm to) (unary_value op) v e in
      values.unary wc f pr st ps cm m r (ready r fits) op ty to n x.0 v h (and_left _ _ a) (and_right (fits_unary op ty) _ a) x.1 x.2 own))

  binary_goes : (before : List Tree) (op : BinOp) (ty : IntTy) (to x y : Byte) (n : ℕ) (r : Registers) (c : List Task) → Knows s f cm before → Fits r → Has (block s f) n (binary_code s.copies (s.q.root f) before op ty to x y) → Left s f loops (n + length (binary_code s.copies (s.q.root f) before op ty to x y)) c
      → After s 0 (binary_cost op (number_left before y) (bytes_of ty)) (binary s.q before op ty to x y c f pr st cm wc) (at s t (thread s f n ps r) m wc)
  binary_goes before op ty to x y n r c known fits h l =
      let count = number_left before y in
      let hi = binary_cost op count (bytes_of ty) in
      let code = binary_code s.copies (s.q.root f) before op ty to x y in
      let o = operated (extent s.q f st) op ty (value_in ty cm x) (value_in (right_type op ty) cm y) in
      let cm0 = after_helper s.q f (is_helped op count) cm in
      when_after s 0 hi (fits_together op ty count to x y && has_operands s.q f op ty x y && fits_call pr (is_helped op count) && (not (is_helped op count) || s.q.helped f op ty)) (writes s.q to o c f pr st cm0 wc) (at s t (thread s f n ps r) m wc) (λ a.
      let a1 = and_left _ _ a in
      let a2 = and_left _ _ a1 in
      let ops = and_right (fits_together op ty count to x y) _ a2 in
      writes_go to o n (n + length code) r c cm0 hi l (λ v e own.
      let p = then_some (value_in ty cm x) (λ z. and_then (value_in (right_type op ty) cm y) (λ u. binary_value (extent s.q f st) op ty z u)) v e in
      let q = then_some (value_in (right_type op ty) cm y) (λ u. binary_value (extent s.q f st) op ty p.0 u) v p.2 in
      values.binary wc f pr st ps cm m r (ready r fits) before op ty to x y n p.0 q.0 v known h (and_left _ _ a2) (and_left _ _ ops) (and_right (is_own s.q f x (bytes_of ty)) _ ops)
      (and_right (fits_together op ty count to x y && has_operands s.q f op ty x y) _ a1)
      (helped (is_helped op count) (s.q.helped f op ty) (and_right (fits_together op ty count to x y && has_operands s.q f op ty x y && fits_call pr (is_helped op count)) _ a))
      p.1 q.1 q.2 own))
    where
      helped : (b h : Bool) → (not b || h) ≡ true → b ≡ true → h ≡ true
      helped true h e q = e
      helped false h e q = absurd (cc)

  convert_goes : (from to : IntTy) (place : Byte) (n : ℕ) (r : Registers) (c : List Task) → Fits r → Has (block s f) n (cond (is_cut from to) [] (widening_code from to place)) → Left s f loops (n + length (cond (is_cut from to) [] (widening_code from to place))) c
      → After s 0 (widening_cost (bytes_of to - bytes_of from)) (convert s.q from to place c f pr st cm wc) (at s t (thread s f n ps r) m wc)
  convert_goes from to place n r c fits h l = by (is_cut from to) refl h l
    where
      by : (b : Bool) → is_cut from to ≡ b → Has (block s f) n (cond b [] (widening_code from to place)) → Left s f loops (n + length (cond b [] (widening_code from to place))) c
          → After s 0 (widening_cost (bytes_of to - bytes_of from)) (convert s.q from to place c f pr st cm wc) (at s t (thread s f n ps r) m wc)
      by true q h l =
          let le : bytes_of to ≤ bytes_of from = le_of (bytes_of to) (bytes_of from) q in
          let o = and_then (value_in from cm place) (converted to) in
          let v0 = at s t (thread s f n ps r) m wc in
          after_more s 0 0 0 (widening_cost (bytes_of to - bytes_of from)) (convert s.q from to place c f pr st cm wc) v0 (omega arith) (omega arith)
          (when_after s 0 0 (is_own s.q f place (bytes_of from)) (writes s.q place o c f pr st cm wc) v0 (λ a. cut o refl a le))
        where
          cut : (o : Option Value) → and_then (value_in from cm place) (converted to) ≡ o → is_own s.q f place (bytes_of from) ≡ true → bytes_of to ≤ bytes_of from → After s 0 0 (writes s.q place o c f pr st cm wc) (at s t (thread s f n ps r) m wc)
          cut None e a le = tt
          cut (Some v) e a le =
              let cm' = with_bytes cm place (byte_count v) (byte_of v) in
              let x = then_some (value_in from cm place) (converted to) v e in
              let ag = values.cut f pr (below st) cm m fit.agree fit.bytes from to place x.0 v le a x.1 x.2 in
              when_after s 0 0 (is_own s.q f place (byte_count v)) (core.goes c f pr st cm' wc) (at s t (thread s f n ps r) m wc) (λ own.
              stays s (at s t (thread s f n ps r) m wc) (machine f pr c st cm' wc)
              (stands_at s t wc f pr c st loops cm' m (thread s f n ps r) (fit_with s t wc calm f pr st loops ps cm m fit wc pr cm' m refl fit.control ag fit.bytes fit.passing) fits
              (here_left s f loops n ps r c (left_to s f loops (n + 0) n c (omega arith) l))))
      by false q h l =
          let lt : bytes_of from < bytes_of to = gt_of (bytes_of to) (bytes_of from) q in
          let o = and_then (value_in from cm place) (converted to) in
          let k = widening_cost (bytes_of to - bytes_of from) in
          let v0 = at s t (thread s f n ps r) m wc in
          when_after s 0 k (is_own s.q f place (bytes_of from)) (writes s.q place o c f pr st cm wc) v0 (λ a.
          writes_go place o n (n + length (widening_code from to place)) r c cm k l (λ v e own.
          let x = then_some (value_in from cm place) (converted to) v e in
          values.widening wc f pr st ps cm m r (ready r fits) from to place n x.0 v lt h a x.1 x.2 own))

  pub operate_goes : (before : List Tree) (x : Tree) (n : ℕ) (r : Registers) (c : List Task) → Knows s f cm before → Fits r → sets_bytes x ≡ true → Has (block s f) n (code s f loops n before x) → Left s f loops (n + length (code s f loops n before x)) c
      → After s (least_of s.q x st) (cost_of before x + leaving x st) (operate (core_of s) before x c f pr st cm wc) (at s t (thread s f n ps r) m wc)
  unfolding cost_of operate
  operate_goes before (Set to value) n r c known fits sb h l = set_goes s t wc calm f pr st loops ps cm m fit to value n r c fits (lt_of value 256 sb) h l
  operate_goes before (Address to place) n r c known fits sb h l = address_goes s t wc calm f pr st loops ps cm m fit to place n r c fits h l
  operate_goes before (Copy to from) n r c known fits sb h l =
      after_more s (least_of s.q (Copy to from) st) (if is_private from then 6 else 3) (least_of s.q (Copy to from) st) (copy_cost (is_private from) + 0) (when (is_valid s.q f from) (core.copy (core_of s) to from c f pr st cm wc)) (at s t (thread s f n ps r) m wc) (omega arith) (by (is_private from))
      (copy_goes s t wc calm f pr st loops ps cm m fit to from n r c fits h l)
    where
      by : (b : Bool) → (if b then 6 else 3) ≤ copy_cost b + 0
      by true = omega arith
      by false = omega arith
  operate_goes before (Load to p count) n r c known fits sb h l = load_goes s t wc calm f pr st loops ps cm m fit to p count n r c fits h l
  operate_goes before (Store p from count) n r c known fits sb h l = store_all_goes s t wc calm f pr st loops ps cm m fit p from count n r c fits h l
  operate_goes before (Unary op ty to) n r c known fits sb h l =
      after_more s 0 (unary_cost op (bytes_of ty)) 0 (unary_cost op (bytes_of ty) + 0) (unary s.q op ty to c f pr st cm wc) (at s t (thread s f n ps r) m wc) (omega arith) (omega arith) (unary_goes op ty to n r c fits h l)
  operate_goes before (Binary op ty to x y) n r c known fits sb h l =
      after_more s 0 (binary_cost op (number_left before y) (bytes_of ty)) 0 (binary_cost op (number_left before y) (bytes_of ty) + 0) (binary s.q before op ty to x y c f pr st cm wc) (at s t (thread s f n ps r) m wc) (omega arith) (omega arith)
      (binary_goes before op ty to x y n r c known fits h l)
  operate_goes before (Convert from to place) n r c known fits sb h l =
      after_more s 0 (widening_cost (bytes_of to - bytes_of from)) 0 (widening_cost (bytes_of to - bytes_of from) + 0) (convert s.q from to place c f pr st cm wc) (at s t (thread s f n ps r) m wc) (omega arith) (omega arith)
      (convert_goes from to place n r c fits h l)
  operate_goes before (BitRead to a number) n r c known fits sb h l = bit_read_goes s t wc calm f pr st loops ps cm m fit to a number n r c fits h l
  operate_goes before (BitWrite a number from) n r c known fits sb h l = bit_write_goes s t wc calm f pr st loops ps cm m fit a number from n r c fits h l
  operate_goes before (Call h') n r c known fits sb h l = call_goes s t wc calm f pr st loops ps cm m fit h' n r c h l fits
  operate_goes before Leave n r c known fits sb h l = leave_goes s t wc calm f pr st loops ps cm m (lower t) n r refl fits fit.inside fit.control fit.agree fit.bytes fit.chain fit.root fit.frames h
  operate_goes before (Many ts) n r c known fits sb h l = many_goes s t wc calm f pr st loops ps cm m fit ts n r c fits sb h l
  operate_goes before (If test size yea nay) n r c known fits sb h l =
      after_more s 1 (4 * size + 16) 1 (4 * size + 16 + 0) (when (is_own s.q f test size) (core.chosen _ yea nay c f pr st cm wc)) (at s t (thread s f n ps r) m wc) (omega arith) (omega arith)
      (when_after s 1 (4 * size + 16) (is_own s.q f test size) (core.chosen _ yea nay c f pr st cm wc) (at s t (thread s f n ps r) m wc) (λ own.
      if_goes s t wc calm f pr st loops ps cm m fit (if_form loops yea nay) test size yea nay n r c refl fits (and_left _ _ sb) (and_right (sets_bytes yea) _ sb) own h l))
  operate_goes before (Loop body) n r c known fits sb h l = loop_goes s t wc calm ps cm m f pr st loops body n r c fits fit sb h l
  operate_goes before (Exit k) n r c known fits sb h l = exit_goes s t wc calm ps cm m f pr k st loops n r fits fit h
  operate_goes before (Again k) n r c known fits sb h l = again_goes s t wc calm ps cm m f pr k st loops n r fits fit h
