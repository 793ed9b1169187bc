-- A body calls a routine, whose operands are in its frame, and goes on behind the call.
use Rattle.std.proofs.Common.{◌≡◌, ◌≢◌, ℕ, suc, ◌+◌, ◌^◌, ◌<◌, ◌≤◌, Bool, true, false, nat_lt, List, [], ◌∷◌, length, IfSome, Option, Some, None, slice_get, refl, sym, ap, ◌∙◌, subst, arith, pos}
use Rattle.c_ints.specs.Operators.{cut_to, outcome}
use Rattle.c_ints.specs.Quantity.{Quantity}
use Rattle.c_ints.specs.Range.{pattern}
use Rattle.c_ints.specs.declared.operators.BinOp.{BinOp}
use Rattle.c_ints.specs.declared.types.IntTy.{IntTy}
use Rattle.c_typed.specs.Calls.{int_helper}
use Rattle.c_typed.specs.declared.calls.Helper.{Helper}
use Rattle.c_typed.specs.declared.calls.Helper.TheVariants.{Mul2, Mul4, Divu2, Divs2, Remu2, Rems2, Divu4, Divs4, Remu4, Rems4, Shl2, Shru2, Shrs2, Shl4, Shru4, Shrs4}
use Rattle.core_code.specs.Cost.{helper_cost}
use Rattle.core_code.specs.declared.code.Byte.TheVariants.{Frame, Result}
use Rattle.pic_world.specs.declared.Root.{Root}
use Rattle.math_helpers.specs.Layouts as layouts
use Rattle.math_helpers.specs.Routines.{width_of, helper_code}
use Rattle.math_helpers.specs.Shape.{frame_size, right_bytes, ArePriced}
use Rattle.math_helpers.specs.Wanted.{byte_at, right_operand, IsCalled, Answers}
use Rattle.select_wide.specs.Direct.{direct_run}
use Rattle.select_wide.specs.Links.{is_inside}
use Rattle.sym_code.specs.Effect.{Memory, root_of}
use Rattle.sym_code.specs.Layout.{frame, address_of, general_at, is_whole, owner, Of}
use Rattle.sym_code.specs.Programs.{Position, position, lands, is_word}
use Rattle.sym_code.specs.Quiet.{Scene, quiet_run, quiet_cost}
use Rattle.sym_code.specs.Registers.{Registers, Fits}
use Rattle.sym_code.specs.declared.code.BlockName.TheVariants.{Copy}
use Rattle.sym_code.specs.declared.code.Sym.{Sym}
use Rattle.sym_code.specs.declared.code.Sym.TheVariants as syms
use Rattle.sym_code.specs.declared.code.Target.TheVariants as targets
use Rattle.select_trace.proofs.Truths.{of_lt}
use Rattle.select_trace.proofs.Standing.{stand_word}
use Rattle.select_trace.proofs.Placed as placed
use Rattle.select_trace.proofs.Placed.{slot}
use Rattle.select_trace.proofs.Sites.{Site, layout}
use Rattle.select_trace.proofs.Live.{IsUser, There}
use Rattle.select_trace.proofs.Blocks.{block, next_lands}
use Rattle.select_trace.proofs.Relation.{place}
use Rattle.select_trace.proofs.Steps.{thread}
use Rattle.select_trace.proofs.Values.{scene}
use Rattle.select_trace.specs.Promises.{HelpersAnswer}
use Rattle.select_trace.proofs.QuietSteps.{runs_then, costs_then}
use Rattle.select_trace.proofs.Setup.{fewer_whole, some_nat}
use Rattle.select_trace.proofs.Callee.{Callee, size_in, frame_there, stands_at}
use Rattle.select_trace.proofs.Came.{Came, ended, called, sum_three}

-- ---- the routine's front
heads : (h : Helper) (root : Root) (d : ℕ) → (x : Sym) × (slice_get (helper_code h root d) 0 ≡ Some x) × (is_word (Some x) ≡ true)
heads Mul2 root d = (_, refl, refl)
heads Mul4 root d = (_, refl, refl)
heads Divu2 root d = (_, refl, refl)
heads Divs2 root d = (_, refl, refl)
heads Remu2 root d = (_, refl, refl)
heads Rems2 root d = (_, refl, refl)
heads Divu4 root d = (_, refl, refl)
heads Divs4 root d = (_, refl, refl)
heads Remu4 root d = (_, refl, refl)
heads Rems4 root d = (_, refl, refl)
heads Shl2 root d = (_, refl, refl)
heads Shru2 root d = (_, refl, refl)
heads Shrs2 root d = (_, refl, refl)
heads Shl4 root d = (_, refl, refl)
heads Shru4 root d = (_, refl, refl)
heads Shrs4 root d = (_, refl, refl)

routine_code : (s : Site) (f d : ℕ) (h : Helper) → (c : Callee s f h d) → s.g.program.block (Copy d) ≡ helper_code h c.copy.root d
routine_code s f d h c = s.chosen.routines d c.copy h c.there c.helper

routine_lands : (s : Site) (f d : ℕ) (h : Helper) → Callee s f h d → lands s.g.program (place s d 0) ≡ true
routine_lands s f d h c =
    let x = heads h c.copy.root d in
    let at : slice_get (s.g.program.block (Copy d)) 0 ≡ Some x.0 = ap (λ (l : List Sym). slice_get l 0) (routine_code s f d h c) ∙ x.1 in
    ap (lands s.g.program) (stand_word s.g.program (Copy d) 0 x.0 at x.2) ∙ ap is_word at ∙ x.2

inside_root : (b : Bool) → is_inside (root_of b) ≡ b
inside_root true = refl
inside_root false = refl

-- ---- what has come of it
pub record Returned (s : Site) (i : Bool) (f : ℕ) (ps : List Position) (n : ℕ) (r : Registers) (m : Memory) (h : Helper) (d : ℕ) (q : Quantity) : Type 0 where
  pub memory : Memory
  pub answer : ℕ
  pub came : Came s i f ps n r m (n + 1) memory (3 + helper_cost)
  pub others : (j : ℕ) → ((o : ℕ) → o < frame_size h → j ≢ slot (layout s) (Frame d o)) → ((k : ℕ) → k < 4 → j ≢ slot (layout s) (Result (root_of i) k)) → memory j ≡ m j
  pub results : (k : ℕ) → k < layouts.bytes_of (width_of h) → k < 4 → memory (slot (layout s) (Result (root_of i) k)) ≡ byte_at answer k
  pub value : answer ≡ pattern q.ty q.number

value_when : (o : Option Quantity) (q : Quantity) (P : Quantity → Type 0) → IfSome o P → o ≡ Some q → P q
value_when (Some x) q P h e = subst P (inside e) h
  where
    inside : {a b : Quantity} → Some a ≡ Some b → a ≡ b
    inside e = cc
value_when None q P h e = absurd (cc)

module _ (answers : HelpersAnswer) (s : Site) (i : Bool) (f : ℕ) (u : IsUser s f) (root : s.q.root f ≡ root_of i) (h : Helper) (d : ℕ) (c : Callee s f h d) where
  root_is : c.copy.root ≡ root_of i
  root_is = sym (s.chosen.roots d c.copy c.there) ∙ c.root ∙ root

  code_is : s.g.program.block (Copy d) ≡ helper_code h (root_of i) d
  code_is = routine_code s f d h c ∙ ap (λ r. helper_code h r d) root_is

  priced : ArePriced (s.price (Copy d)) (helper_code h (root_of i) d)
  priced = subst (λ (r : Root). ArePriced (s.price (Copy d)) (helper_code h r d)) root_is (s.chosen.routine_prices d c.copy h c.there c.helper)

  whole : is_whole (frame (layout s) d).address (frame_size h) ≡ true
  whole =
      let at : d < length (layout s).frames = (let e = s.chosen.layout.frames in let w = c.within in omega (arith, e, w)) in
      fewer_whole (frame (layout s) d).address (frame (layout s) d).size (frame_size h) (s.chosen.laid_out.frames d at) (size_in s f d h c u)

  frame_own : (offset k : ℕ) → offset < frame_size h → general_at (address_of (layout s) (Frame d offset)) ≡ Some k → owner (layout s) k ≡ Of (root_of i)
  frame_own offset k lt e =
      let t : There s (Frame d offset) = frame_there s f d h c u offset lt in
      let z : slot (layout s) (Frame d offset) ≡ k = some_nat (sym (stands_at s f d h c u (Frame d offset) t) ∙ e) in
      subst (λ (j : ℕ). owner (layout s) j ≡ Of (root_of i)) z (placed.frames_own s.q (length s.copies) s.reaches (layout s) s.chosen.layout s.chosen.laid_out d offset t.0 t.1 ∙ ap Of (c.root ∙ root))

  result_own : (n k : ℕ) → n < 4 → general_at (address_of (layout s) (Result (root_of i) n)) ≡ Some k → owner (layout s) k ≡ Of (root_of i)
  result_own n k lt e =
      let z : slot (layout s) (Result (root_of i) n) ≡ k = some_nat (sym (stands_at s f d h c u (Result (root_of i) n) lt) ∙ e) in
      subst (λ (j : ℕ). owner (layout s) j ≡ Of (root_of i)) z (placed.results_own s.q (length s.copies) s.reaches (layout s) s.chosen.layout s.chosen.laid_out (root_of i) n lt)

  held : (m : Memory) (offset v : ℕ) → offset < frame_size h → m (slot (layout s) (Frame d offset)) ≡ v → (k : ℕ) → general_at (address_of (layout s) (Frame d offset)) ≡ Some k → m k ≡ v
  held m offset v lt e k at =
      let z : slot (layout s) (Frame d offset) ≡ k = some_nat (sym (stands_at s f d h c u (Frame d offset) (frame_there s f d h c u offset lt)) ∙ at) in
      ap m (sym z) ∙ e

  pub returned : (op : BinOp) (ty : IntTy) → int_helper op false ty ≡ Some h → (ps : List Position) (n : ℕ) (r : Registers) (m : Memory) (left right : ℕ) (q : Quantity) → length ps ≤ s.chosen.level f → Fits r → ((k : ℕ) → m k < 256)
      → slice_get (block s f) n ≡ Some (syms.Call (targets.Block (Copy d)))
      → left < 256 ^ layouts.bytes_of (width_of h) → right < 256 ^ right_bytes h → layouts.bytes_of (width_of h) + right_bytes h ≤ frame_size h
      → ((k : ℕ) → k < layouts.bytes_of (width_of h) → m (slot (layout s) (Frame d k)) ≡ byte_at left k) → ((k : ℕ) → k < right_bytes h → m (slot (layout s) (Frame d (layouts.bytes_of (width_of h) + k))) ≡ byte_at right k)
      → outcome op (cut_to ty (pos left)) (right_operand op ty right) ≡ Some q
      → Returned s i f ps n r m h d q
  unfolding quiet_run quiet_cost
  returned op ty ih ps n r m left right q lv fits bytes at small_left small_right room has_left has_right out =
      let next : Position = place s f (n + 1) in
      let top = s.chosen.levels.within d c.within in
      let up = c.level in
      let lim : s.g.limit (is_inside (s.q.root d)) ≡ s.g.limit i = ap s.g.limit (ap is_inside (c.root ∙ root) ∙ inside_root i) in
      let lt : nat_lt (length ps) (s.g.limit i) ≡ true = of_lt (length ps) (s.g.limit i) (omega (arith, up, top, lv, lim)) in
      let sc : Scene = record { thread = thread s d 0 (next ∷ ps) r; memory = m } in
      let first : direct_run s.g i 1 (scene s f n ps r m) ≡ Some sc = called s i f n ps r m d lt at (routine_lands s f d h c) in
      let there : lands s.g.program next ≡ true = subst (λ k. lands s.g.program (place s f k) ≡ true) (let z : suc n ≡ n + 1 = omega arith in z) (next_lands s f u n (syms.Call (targets.Block (Copy d))) at refl) in
      let begin : IsCalled h d s.g i next ps left right sc = record {
        code = code_is;
        banks = s.chosen.no_selects;
        whole = whole;
        own = frame_own;
        results = result_own;
        at = refl;
        returns = refl;
        lands = there;
        registers = fits;
        bytes = bytes;
        has_left = λ k l. held m k (byte_at left k) (omega (arith, l, room)) (has_left k l);
        has_right = λ k l. held m (layouts.bytes_of (width_of h) + k) (byte_at right k) (omega (arith, l, room)) (has_right k l);
      } in
      let got = answers h d s.g s.price i next ps left right sc small_left small_right refl begin priced in
      let a : Answers h d s.g s.price i next ps left right sc = got.0 in
      let dear : quiet_cost s.g s.price i a.count sc ≤ helper_cost = value_when (outcome op (cut_to ty (pos left)) (right_operand op ty right)) q (λ value. quiet_cost s.g s.price i a.count sc ≤ helper_cost) (a.cost op ty ih) out in
      let here : place s f n ≡ position (Copy f) n = stand_word s.g.program (Copy f) n (syms.Call (targets.Block (Copy d))) at refl in
      let one : s.price (Copy f) n + 0 ≤ 3 = sum_three s f n (syms.Call (targets.Block (Copy d)) ∷ []) u (at, tt) refl in
      let price : quiet_cost s.g s.price i 1 (scene s f n ps r m) ≡ 0 + s.price (Copy f) n = ap (λ (p : Position). 0 + s.price p.block p.index) here in
      let both = costs_then s.g s.price i 1 a.count (scene s f n ps r m) sc first in
      record {
        memory = a.end.memory;
        answer = a.answer;
        came = record {
          count = 1 + a.count;
          registers = a.end.thread.registers;
          run = runs_then s.g i 1 a.count (scene s f n ps r m) sc first ∙ got.2 ∙ ended s f (n + 1) ps a.end got.1 a.at a.returns;
          fits = a.fits;
          bytes = a.bytes;
          cost = omega (arith, both, price, one, dear);
        };
        others = λ j no_frame no_result. a.others j
            (λ o l e. no_frame o l (some_nat (sym e ∙ stands_at s f d h c u (Frame d o) (frame_there s f d h c u o l))))
            (λ k l e. no_result k l (some_nat (sym e ∙ stands_at s f d h c u (Result (root_of i) k) l)));
        results = λ k l l4. a.results k l (slot (layout s) (Result (root_of i) k)) (stands_at s f d h c u (Result (root_of i) k) l4);
        value = value_when (outcome op (cut_to ty (pos left)) (right_operand op ty right)) q (λ value. a.answer ≡ pattern value.ty value.number) (a.value op ty ih) out;
      }
