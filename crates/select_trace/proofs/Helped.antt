-- An operator that a routine computes: its operands are copied, the routine is called, and the answer is copied.
use Rattle.std.proofs.Common.{◌≡◌, ◌≢◌, ℕ, ◌+◌, ◌*◌, ◌<◌, ◌≤◌, Bool, true, false, nat_eq, if◌then◌else◌, List, ◌++◌, length, Some, None, refl, sym, ap, ◌∙◌, subst, arith, pos}
use Rattle.c_ints.specs.Operators.{cut_to, outcome}
use Rattle.c_ints.specs.Quantity.{Quantity}
use Rattle.c_ints.specs.declared.operators.BinOp.{BinOp}
use Rattle.c_ints.specs.declared.types.IntTy.{IntTy}
use Rattle.c_typed.specs.Calls.{int_helper}
use Rattle.c_typed.specs.declared.calls.Helper.{Helper}
use Rattle.c_typed.specs.declared.calls.Helper.TheVariants.{Mul2, Mul4, Divu2, Divs2, Remu2, Rems2, Divu4, Divs4, Remu4, Rems4, Shl2, Shru2, Shrs2, Shl4, Shru4, Shrs4}
use Rattle.pic_world.specs.Roots.{same_root}
use Rattle.pic_world.specs.World.{World}
use Rattle.pic_world.specs.declared.Root.{Root}
use Rattle.core_code.specs.Bytes as bytes
use Rattle.core_code.specs.Bytes.{Held, Unset, behind, same_byte, with_bytes, without_results}
use Rattle.core_code.specs.Cost.{helper_cost}
use Rattle.core_code.specs.Machine.{Waiting, is_own}
use Rattle.core_code.specs.Operands.{is_frames}
use Rattle.core_code.specs.Values.{Number, byte_of}
use Rattle.core_code.specs.declared.code.Byte.{Byte}
use Rattle.core_code.specs.declared.code.Byte.TheVariants.{Static, Frame, Result, Device}
use Rattle.math_helpers.specs.Layouts as layouts
use Rattle.math_helpers.specs.Routines.{width_of}
use Rattle.math_helpers.specs.Shape.{frame_size, right_bytes}
use Rattle.math_helpers.specs.Wanted.{byte_at, right_operand}
use Rattle.select_code.specs.Pieces.{byte_behind}
use Rattle.select_wide.specs.Calls.{enter_code}
use Rattle.select_wide.specs.Moves.{copies_code}
use Rattle.sym_code.specs.Effect.{Memory}
use Rattle.sym_code.specs.Machine.{Machine}
use Rattle.sym_code.specs.Programs.{Position}
use Rattle.sym_code.specs.Registers.{Registers, Fits}
use Rattle.sym_code.specs.declared.code.BlockName.TheVariants.{Copy}
use Rattle.sym_code.specs.declared.code.Sym.{Sym}
use Rattle.sym_code.specs.declared.code.Sym.TheVariants as syms
use Rattle.sym_code.specs.declared.code.Target.TheVariants as targets
use Rattle.select_trace.proofs.Truths.{and_left, and_right, same_nat, of_lt, true_false}
use Rattle.select_trace.proofs.Standing.{Has, has_front, has_back, moved}
use Rattle.select_trace.proofs.Labels.{len_append}
use Rattle.select_trace.proofs.Placed.{slot, same_roots}
use Rattle.select_trace.proofs.Sites.{Site, layout}
use Rattle.select_trace.proofs.Live.{IsUser, is_live, below, OneToOne, one_to_one, chain_user, valid_on}
use Rattle.select_trace.proofs.Memory.{Shown, Agrees, Agree, agree_bytes}
use Rattle.select_trace.proofs.Blocks.{block}
use Rattle.select_trace.proofs.Steps.{Fit}
use Rattle.select_trace.proofs.Access.{own_valid}
use Rattle.select_trace.proofs.Tests.{own_part, own_behind}
use Rattle.select_trace.proofs.Values.{scene, Arrives, own_agrees}
use Rattle.select_trace.specs.Silent.{AreQuiet}
use Rattle.select_trace.specs.Values.{val}
use Rattle.select_trace.proofs.Called.{helpers_answer}
use Rattle.select_trace.proofs.Moves.{copies_run}
use Rattle.select_trace.proofs.Numbers.{byte_back}
use Rattle.select_trace.proofs.Vals.{val_below}
use Rattle.select_trace.proofs.Callee.{Callee, is_mine, own_mine, frame_mine, result_mine, quiet, clear_of, frame_once}
use Rattle.select_trace.proofs.Came.{Came, came_then, Copied, copied}
use Rattle.select_trace.proofs.Held.{shows_number}
use Rattle.select_trace.proofs.Returns.{Returned, returned}

-- ---- sizes
abbrev pub left_bytes : Helper → ℕ
left_bytes h = layouts.bytes_of (width_of h)

pub record Room (h : Helper) : Type 0 where
  pub left : 0 < left_bytes h
  pub left_most : left_bytes h ≤ 4
  pub right : 0 < right_bytes h
  pub right_most : right_bytes h ≤ 4
  pub both : left_bytes h + right_bytes h ≤ frame_size h

pub room : (h : Helper) → Room h
room Mul2 = record { left = omega arith; left_most = omega arith; right = omega arith; right_most = omega arith; both = omega arith }
room Mul4 = record { left = omega arith; left_most = omega arith; right = omega arith; right_most = omega arith; both = omega arith }
room Divu2 = record { left = omega arith; left_most = omega arith; right = omega arith; right_most = omega arith; both = omega arith }
room Divs2 = record { left = omega arith; left_most = omega arith; right = omega arith; right_most = omega arith; both = omega arith }
room Remu2 = record { left = omega arith; left_most = omega arith; right = omega arith; right_most = omega arith; both = omega arith }
room Rems2 = record { left = omega arith; left_most = omega arith; right = omega arith; right_most = omega arith; both = omega arith }
room Divu4 = record { left = omega arith; left_most = omega arith; right = omega arith; right_most = omega arith; both = omega arith }
room Divs4 = record { left = omega arith; left_most = omega arith; right = omega arith; right_most = omega arith; both = omega arith }
room Remu4 = record { left = omega arith; left_most = omega arith; right = omega arith; right_most = omega arith; both = omega arith }
room Rems4 = record { left = omega arith; left_most = omega arith; right = omega arith; right_most = omega arith; both = omega arith }
room Shl2 = record { left = omega arith; left_most = omega arith; right = omega arith; right_most = omega arith; both = omega arith }
room Shru2 = record { left = omega arith; left_most = omega arith; right = omega arith; right_most = omega arith; both = omega arith }
room Shrs2 = record { left = omega arith; left_most = omega arith; right = omega arith; right_most = omega arith; both = omega arith }
room Shl4 = record { left = omega arith; left_most = omega arith; right = omega arith; right_most = omega arith; both = omega arith }
room Shru4 = record { left = omega arith; left_most = omega arith; right = omega arith; right_most = omega arith; both = omega arith }
room Shrs4 = record { left = omega arith; left_most = omega arith; right = omega arith; right_most = omega arith; both = omega arith }

-- ---- names
frame_behind : (d j k : ℕ) → j + k < 512 → byte_behind (Frame d j) k ≡ Frame d (j + k)
frame_behind d j k lt = ap (Frame d) (omega arith)

pub frame_front : (d k : ℕ) → k < 512 → byte_behind (Frame d 0) k ≡ Frame d k
frame_front d k lt = ap (Frame d) (omega arith)

result_behind : (r : Root) (k : ℕ) → k < 4 → byte_behind (Result r 0) k ≡ Result r k
result_behind r k lt = ap (Result r) (omega arith)

to_once : (to : Byte) (j k : ℕ) → is_frames to ≡ true → same_byte (behind to k) (behind to j) ≡ true → k ≡ j
to_once (Frame c o) j k e s = let z : o + k ≡ o + j = same_nat (o + k) (o + j) (and_right (nat_eq c c) _ s) in omega (arith, z)
to_once (Result r n) j k e s = absurd (cc)
to_once (Static c o) j k e s = absurd (cc)
to_once (Device a) j k e s = absurd (cc)

no_result : (to : Byte) (j : ℕ) (r : Root) (k : ℕ) → is_frames to ≡ true → same_byte (Result r k) (behind to j) ≡ true → ⊥
no_result (Frame c o) j r k e s = absurd (cc)
no_result (Result r' n) j r k e s = absurd (cc)
no_result (Static c o) j r k e s = absurd (cc)
no_result (Device a) j r k e s = absurd (cc)

-- ---- the code
abbrev pub parts_code : ℕ → Root → Byte → Byte → Byte → ℕ → ℕ → List Sym
parts_code d root to x y w v = copies_code (Frame d 0) x w ++ copies_code (Frame d w) y v ++ enter_code d ++ copies_code to (Result root 0) w

-- the results have been spoiled, and nothing else that is live
spoiled : (s : Site) (l : ℕ → Bool) (root : Root) (cm : bytes.Memory) (m m' : Memory) → OneToOne s l → Agree s l cm m
    → ((b : Byte) → valid_on s l b ≡ true → ((k : ℕ) → k < 4 → slot (layout s) b ≢ slot (layout s) (Result root k)) → m' (slot (layout s) b) ≡ m (slot (layout s) b))
    → Agree s l (without_results root cm) m'
spoiled s l root cm m m' once agree kept (Static n k) v =
    subst (λ z. Agrees s (Static n k) (cm (Static n k)) z) (sym (kept (Static n k) v (λ j lt e. absurd (no j (once (Static n k) (Result root j) v (of_lt j 4 lt) e))))) (agree (Static n k) v)
  where
    no : (j : ℕ) → same_byte (Result root j) (Static n k) ≡ true → ⊥
    no j e = absurd (cc)
spoiled s l root cm m m' once agree kept (Frame g y) v =
    subst (λ z. Agrees s (Frame g y) (cm (Frame g y)) z) (sym (kept (Frame g y) v (λ j lt e. absurd (no j (once (Frame g y) (Result root j) v (of_lt j 4 lt) e))))) (agree (Frame g y) v)
  where
    no : (j : ℕ) → same_byte (Result root j) (Frame g y) ≡ true → ⊥
    no j e = absurd (cc)
spoiled s l root cm m m' once agree kept (Device a) v = absurd (cc)
spoiled s l root cm m m' once agree kept (Result r k) v = by (same_root r root) refl
  where
    by : (b : Bool) → same_root r root ≡ b → Agrees s (Result r k) (if b then Unset else cm (Result r k)) (m' (slot (layout s) (Result r k)))
    by true e = tt
    by false e = subst (λ z. Agrees s (Result r k) (cm (Result r k)) z) (sym (kept (Result r k) v (λ j lt q. true_false (same_root r root) (turn r root (and_left (same_root root r) (nat_eq j k) (once (Result r k) (Result root j) v (of_lt j 4 lt) q))) e))) (agree (Result r k) v)
      where
        turn : (a b : Root) → same_root b a ≡ true → same_root a b ≡ true
        turn a b q = let z : b ≡ a = same_roots b a q in subst (λ x. same_root a x ≡ true) (sym z) (let y : same_root a a ≡ true = subst (λ x. same_root x a ≡ true) z q in y)

module _ (s : Site) (t : Machine) (wc : World Held) (f : ℕ) (st : List Waiting) (loops : List ℕ) (ps : List Position) (cm : bytes.Memory) (m : Memory) (fit : Fit s t wc f None st loops ps cm m) (r : Registers) (fits : Fits r) where
  pub helped_goes : (op : BinOp) (ty : IntTy) (h : Helper) (d : ℕ) → (c : Callee s f h d) → int_helper op false ty ≡ Some h
      → (to x y : Byte) (n : ℕ) → Has (block s f) n (parts_code d (s.q.root f) to x y (left_bytes h) (right_bytes h))
      → is_own s.q f x (left_bytes h) ≡ true → is_own s.q f y (right_bytes h) ≡ true → is_own s.q f to (left_bytes h) ≡ true → is_frames to ≡ true
      → (q : Quantity) → outcome op (cut_to ty (pos (val (λ k. m (slot (layout s) (behind x k))) (left_bytes h)))) (right_operand op ty (val (λ k. m (slot (layout s) (behind y k))) (right_bytes h))) ≡ Some q
      → (hi : ℕ) → 12 * left_bytes h + 6 * right_bytes h + 3 + helper_cost ≤ hi
      → Arrives s wc.inside (is_live f None (below st)) f ps n r m (n + length (parts_code d (s.q.root f) to x y (left_bytes h) (right_bytes h))) (with_bytes (without_results (s.q.root f) cm) to (left_bytes h) (byte_of (Number q))) hi
  helped_goes op ty h d c ih to x y n has ox oy ot frames q out hi le =
      let i = wc.inside in
      let w = left_bytes h in
      let v = right_bytes h in
      let ro = room h in
      let w0 : 0 < w = ro.left in
      let w4 : w ≤ 4 = ro.left_most in
      let v0 : 0 < v = ro.right in
      let v4 : v ≤ 4 = ro.right_most in
      let wv : w + v ≤ frame_size h = ro.both in
      let root = s.q.root f in
      let u : IsUser s f = chain_user s f st fit.chain in
      let l = is_live f None (below st) in
      let once : OneToOne s l = one_to_one s f None st tt fit.chain in
      let mine : Byte → Bool = is_mine s f d h c u in
      let silent : AreQuiet s.g i (λ b. mine b ≡ true) = quiet s f d h c u i fit.root in
      let ca : List Sym = copies_code (Frame d 0) x w in
      let cb : List Sym = copies_code (Frame d w) y v in
      let cd : List Sym = copies_code to (Result root 0) w in
      let call : Sym = syms.Call (targets.Block (Copy d)) in
      let l_ab = len_append ca cb in
      let l_abc = len_append (ca ++ cb) (enter_code d) in
      let l_all = len_append (ca ++ cb ++ enter_code d) cd in
      let habc : Has (block s f) n (ca ++ cb ++ enter_code d) = has_front (block s f) n (ca ++ cb ++ enter_code d) cd has in
      let hab : Has (block s f) n (ca ++ cb) = has_front (block s f) n (ca ++ cb) (enter_code d) habc in
      let ha : Has (block s f) n ca = has_front (block s f) n ca cb hab in
      let n1 = n + length ca in
      let hb : Has (block s f) n1 cb = has_back (block s f) n ca cb hab in
      let n2 = n1 + length cb in
      let hc : Has (block s f) n2 (enter_code d) = moved (block s f) (n + length (ca ++ cb)) n2 (enter_code d) (omega (arith, l_ab)) (has_back (block s f) n (ca ++ cb) (enter_code d) habc) in
      let n3 = n2 + 1 in
      let hd : Has (block s f) n3 cd = moved (block s f) (n + length (ca ++ cb ++ enter_code d)) n3 cd (omega (arith, l_ab, l_abc)) (has_back (block s f) n (ca ++ cb ++ enter_code d) cd has) in
      let x_own : (k : ℕ) → k < w → is_own s.q f (behind x k) 1 ≡ true = λ k lt. own_part s f w k x ox lt in
      let y_own : (k : ℕ) → k < v → is_own s.q f (behind y k) 1 ≡ true = λ k lt. own_part s f v k y oy lt in
      let t_own : (k : ℕ) → k < w → is_own s.q f (behind to k) 1 ≡ true = λ k lt. own_part s f w k to ot lt in
      let x_clear : (k j : ℕ) → k < w → j < frame_size h → slot (layout s) (behind x k) ≢ slot (layout s) (Frame d j) = λ k j lt b. clear_of s f d h c u st fit.chain (behind x k) j (own_valid s f None (below st) (behind x k) (x_own k lt)) b in
      let y_clear : (k j : ℕ) → k < v → j < frame_size h → slot (layout s) (behind y k) ≢ slot (layout s) (Frame d j) = λ k j lt b. clear_of s f d h c u st fit.chain (behind y k) j (own_valid s f None (below st) (behind y k) (y_own k lt)) b in
      let a : Copied s i f ps n r m ca (λ k. Frame d k) (behind x) w = copied copies_run s i f ps n r m (Frame d 0) x w u fits fit.bytes w0 ha mine silent (λ k. Frame d k) (behind x)
      (λ k lt. frame_front d k (omega (arith, lt, w4)))
      (λ k lt. own_behind s f u x k (x_own k lt))
      (λ k lt. frame_mine s f d h c u k (omega (arith, lt, wv)))
      (λ k lt. own_mine s f d h c u (behind x k) (x_own k lt))
      (λ j k lt lk e. absurd (let z = frame_once s f d h c u j k (omega (arith, lt, lk, wv)) (omega (arith, lk, wv)) e in omega (arith, z, lt)))
      (λ j k lt lk e. x_clear k j lk (omega (arith, lt, lk, wv)) (sym e)) in
      let ma = a.memory in
      let b : Copied s i f ps n1 a.came.registers ma cb (λ k. Frame d (w + k)) (behind y) v = copied copies_run s i f ps n1 a.came.registers ma (Frame d w) y v u a.came.fits a.came.bytes v0 hb mine silent (λ k. Frame d (w + k)) (behind y)
      (λ k lt. frame_behind d w k (omega (arith, lt, w4, v4)))
      (λ k lt. own_behind s f u y k (y_own k lt))
      (λ k lt. frame_mine s f d h c u (w + k) (omega (arith, lt, wv)))
      (λ k lt. own_mine s f d h c u (behind y k) (y_own k lt))
      (λ j k lt lk e. absurd (let z = frame_once s f d h c u (w + j) (w + k) (omega (arith, lt, lk, wv)) (omega (arith, lk, wv)) e in omega (arith, z, lt)))
      (λ j k lt lk e. y_clear k (w + j) lk (omega (arith, lt, lk, wv)) (sym e)) in
      let mb = b.memory in
      let left : ℕ = val (λ k. m (slot (layout s) (behind x k))) w in
      let right : ℕ = val (λ k. m (slot (layout s) (behind y k))) v in
      let got : Returned s i f ps n2 b.came.registers mb h d q = returned helpers_answer s i f u fit.root h d c op ty ih ps n2 b.came.registers mb left right q fit.level b.came.fits b.came.bytes hc.0
      (val_below (λ k. m (slot (layout s) (behind x k))) w (λ k lt. fit.bytes (slot (layout s) (behind x k))))
      (val_below (λ k. m (slot (layout s) (behind y k))) v (λ k lt. fit.bytes (slot (layout s) (behind y k))))
      wv
      (λ k lt. b.others (slot (layout s) (Frame d k)) (λ j lj e. absurd (let z = frame_once s f d h c u k (w + j) (omega (arith, lt, wv)) (omega (arith, lj, wv)) e in omega (arith, z, lt))) ∙ a.bytes_at k lt
      ∙ sym (byte_back (λ k. m (slot (layout s) (behind x k))) w k lt (λ j lj. fit.bytes (slot (layout s) (behind x j)))))
      (λ k lt. b.bytes_at k lt ∙ a.others (slot (layout s) (behind y k)) (λ j lj e. y_clear k j lt (omega (arith, lj, wv)) e)
      ∙ sym (byte_back (λ k. m (slot (layout s) (behind y k))) v k lt (λ j lj. fit.bytes (slot (layout s) (behind y j)))))
      out in
      let mc = got.memory in
      let e : Copied s i f ps n3 got.came.registers mc cd (behind to) (λ k. Result root k) w = copied copies_run s i f ps n3 got.came.registers mc to (Result root 0) w u got.came.fits got.came.bytes w0 hd mine silent (behind to) (λ k. Result root k)
      (λ k lt. own_behind s f u to k (t_own k lt))
      (λ k lt. result_behind root k (omega (arith, lt, w4)))
      (λ k lt. own_mine s f d h c u (behind to k) (t_own k lt))
      (λ k lt. result_mine s f d h c u k (omega (arith, lt, w4)))
      (λ j k lt lk z. absurd (let lj : j < w = omega (arith, lt, lk) in let y = to_once to j k frames (once (behind to j) (behind to k) (own_valid s f None (below st) (behind to j) (t_own j lj)) (own_valid s f None (below st) (behind to k) (t_own k lk)) z) in omega (arith, y, lt)))
      (λ j k lt lk z. let lj : j < w = omega (arith, lt, lk) in no_result to j root k frames (once (behind to j) (Result root k) (own_valid s f None (below st) (behind to j) (t_own j lj)) (of_lt k 4 (omega (arith, lk, w4))) z)) in
      let md = e.memory in
      let kept : Agree s l (without_results root cm) mc = spoiled s l root cm m mc once fit.agree (λ z vz no.
      got.others (slot (layout s) z) (λ o lo. clear_of s f d h c u st fit.chain z o vz lo) (λ k lk. subst (λ g. slot (layout s) z ≢ slot (layout s) (Result g k)) fit.root (no k lk))
      ∙ b.others (slot (layout s) z) (λ k lk. clear_of s f d h c u st fit.chain z (w + k) vz (omega (arith, lk, wv)))
      ∙ a.others (slot (layout s) z) (λ k lk. clear_of s f d h c u st fit.chain z k vz (omega (arith, lk, wv)))) in
      let n4 = n3 + length cd in
      let z4 : n4 ≡ n + length (ca ++ cb ++ enter_code d ++ cd) = omega (arith, l_ab, l_abc, l_all) in
      let all : Came s i f ps n r m n4 md (3 * (w * 2) + (3 * (v * 2) + (3 + helper_cost + 3 * (w * 2)))) =
      came_then s i f ps n r m n1 ma n4 md (3 * (w * 2)) (3 * (v * 2) + (3 + helper_cost + 3 * (w * 2))) a.came
      (came_then s i f ps n1 a.came.registers ma n2 mb n4 md (3 * (v * 2)) (3 + helper_cost + 3 * (w * 2)) b.came
      (came_then s i f ps n2 b.came.registers mb n3 mc n4 md (3 + helper_cost) (3 * (w * 2)) got.came e.came)) in
      let dear = all.cost in
      record {
        steps = all.count;
        registers = all.registers;
        memory = md;
        run = all.run ∙ ap (λ k. Some (scene s f k ps all.registers md)) z4;
        fits = all.fits;
        bytes = all.bytes;
        agree = agree_bytes s l (without_results root cm) md to w (byte_of (Number q))
            (λ k lt. own_agrees s f (behind to k) (byte_of (Number q) k) (md (slot (layout s) (behind to k))) (t_own k lt)
            (subst (λ z. Shown s (byte_of (Number q) k) z) (sym (e.bytes_at k lt ∙ subst (λ g. mc (slot (layout s) (Result g k)) ≡ byte_at got.answer k) (sym fit.root) (got.results k lt (omega (arith, lt, w4))))) (shows_number s q got.answer got.value k)))
            (λ z vz no. subst (λ g. Agrees s z (without_results root cm z) g) (sym (e.others (slot (layout s) z) (λ k lt g. true_false (same_byte z (behind to k)) (once (behind to k) z (own_valid s f None (below st) (behind to k) (t_own k lt)) vz (sym g)) (no k lt)))) (kept z vz));
        cost = omega (arith, dear, le);
      }
