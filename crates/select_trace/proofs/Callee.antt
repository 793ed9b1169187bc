-- The copy of a routine that an operator calls, and the bytes that its call touches.
use Rattle.std.proofs.Common.{◌≡◌, ◌≢◌, ⊎_elim, inl, ℕ, ◌+◌, ◌<◌, ◌≤◌, Bool, true, false, ◌&&◌, ◌||◌, nat_eq, nat_lt, nat_le, List, [], ◌∷◌, length, get_or, Some, None, slice_get, refl, sym, ap, ◌∙◌, subst, arith}
use Rattle.std.proofs.lemmas.List.Quantifiers.{position-Some}
use Rattle.std.proofs.lemmas.Option.{slice_get-get_or}
use Rattle.c_ints.specs.declared.operators.BinOp.{BinOp}
use Rattle.c_ints.specs.declared.types.IntTy.{IntTy}
use Rattle.c_typed.specs.Calls.{int_helper}
use Rattle.c_typed.specs.Chains.{helper_number}
use Rattle.c_typed.specs.declared.calls.FnId.{FnId}
use Rattle.c_typed.specs.declared.calls.FnId.TheVariants as callee
use Rattle.c_typed.specs.declared.calls.Helper.{Helper}
use Rattle.c_typed.specs.declared.calls.Helper.TheVariants.{Mul2, Mul4, Divu2, Divs2, Remu2, Rems2, Divu4, Divs4, Remu4, Rems4, Shl2, Shru2, Shrs2, Shl4, Shru4, Shrs4}
use Rattle.call_graph.specs.Numbers.{copy_of, is_copy_of, is_helper}
use Rattle.call_graph.specs.declared.types.FnCopy.{FnCopy}
use Rattle.pic_world.specs.Roots.{same_root}
use Rattle.core_code.specs.Bytes.{is_private}
use Rattle.core_code.specs.Machine.{Waiting, is_own}
use Rattle.core_code.specs.declared.code.Byte.{Byte}
use Rattle.core_code.specs.declared.code.Byte.TheVariants.{Static, Frame, Result, Device}
use Rattle.math_helpers.specs.Shape.{frame_size}
use Rattle.select_wide.specs.Blocks.{is_user}
use Rattle.sym_code.specs.Effect.{root_of}
use Rattle.sym_code.specs.Layout.{frame, address_of, general_at, owner, Of}
use Rattle.select_trace.proofs.Truths.{and_left, and_right, or_true, or_left, or_right, both, same_nat, nat_same, lt_of, of_lt, le_of, true_false}
use Rattle.select_trace.proofs.Placed as placed
use Rattle.select_trace.proofs.Placed.{slot, same_roots, root_self}
use Rattle.select_trace.proofs.Sites.{Site, layout}
use Rattle.select_trace.proofs.Live.{IsUser, is_live, below, Chain, There, Under, Together, valid_on, there_on, user_below, live_user, below_under, under_next, under_together, meet}
use Rattle.select_trace.specs.Silent.{AreQuiet}
use Rattle.select_trace.proofs.Setup.{slot_is}

-- ---- which copy
pub record Callee (s : Site) (f : ℕ) (h : Helper) (d : ℕ) : Type 0 where
  pub copy : FnCopy
  pub there : slice_get s.copies d ≡ Some copy
  pub helper : copy.function ≡ callee.Helper h
  pub root : s.q.root d ≡ s.q.root f
  pub reached : s.reaches f d ≡ true
  pub level : s.chosen.level f < s.chosen.level d
  pub within : d < length s.copies

helpers : List Helper
helpers = Mul2 ∷ Mul4 ∷ Divu2 ∷ Divs2 ∷ Remu2 ∷ Rems2 ∷ Divu4 ∷ Divs4 ∷ Remu4 ∷ Rems4 ∷ Shl2 ∷ Shru2 ∷ Shrs2 ∷ Shl4 ∷ Shru4 ∷ Shrs4 ∷ []

helper_there : (h : Helper) → get_or helpers (helper_number h) Mul2 ≡ h
unfolding helpers
helper_there Mul2 = refl
helper_there Mul4 = refl
helper_there Divu2 = refl
helper_there Divs2 = refl
helper_there Remu2 = refl
helper_there Rems2 = refl
helper_there Divu4 = refl
helper_there Divs4 = refl
helper_there Remu4 = refl
helper_there Rems4 = refl
helper_there Shl2 = refl
helper_there Shru2 = refl
helper_there Shrs2 = refl
helper_there Shl4 = refl
helper_there Shru4 = refl
helper_there Shrs4 = refl

helper_is : (h : Helper) (x : FnId) → is_helper h x ≡ true → x ≡ callee.Helper h
helper_is h (callee.User n) e = absurd (cc)
helper_is h (callee.Helper k) e = ap callee.Helper (sym (helper_there k) ∙ ap (λ n. get_or helpers n Mul2) (same_nat (helper_number k) (helper_number h) e) ∙ helper_there h)

pub callee_there : (s : Site) (f : ℕ) (op : BinOp) (ty : IntTy) (h : Helper) → s.q.helped f op ty ≡ true → int_helper op false ty ≡ Some h → (d : ℕ) × (copy_of s.copies (s.q.root f) h ≡ Some d) × Callee s f h d
callee_there s f op ty h helped e =
    let at = s.chosen.routine_there f op ty h helped e in
    let d = at.0 in
    let c0 = s.chosen.main_there.0 in
    let p = position-Some (is_copy_of (s.q.root f) h) s.copies d c0 at.1 in
    let got = slice_get-get_or s.copies d c0 p.0 in
    let c : FnCopy = get_or s.copies d c0 in
    let is : (same_root c.root (s.q.root f) && is_helper h c.function) ≡ true = p.1 in (
      d,
      at.1,
      record {
        copy = c;
        there = got;
        helper = helper_is h c.function (and_right (same_root c.root (s.q.root f)) _ is);
        root = s.chosen.roots d c got ∙ same_roots c.root (s.q.root f) (and_left _ _ is);
        reached = s.chosen.reach_routine f d op ty h helped e at.1;
        level = s.chosen.levels.helpers f d op ty h helped e at.1;
        within = p.0;
      },
    )

-- ---- its bytes
module _ (s : Site) (f d : ℕ) (h : Helper) (c : Callee s f h d) (u : IsUser s f) where
  pub size_in : frame_size h ≤ (frame (layout s) d).size
  size_in = s.chosen.routine_frames d c.copy h c.there c.helper

  -- a byte of the body's frame, of the routine's, or of the results
  abbrev pub is_mine : Byte → Bool
  is_mine (Frame k o) = (nat_eq k f && nat_lt o (s.q.frame_bytes f)) || (nat_eq k d && nat_lt o (frame_size h))
  is_mine (Result r k) = same_root r (s.q.root f) && nat_lt k 4
  is_mine _ = false

  pub own_mine : (b : Byte) → is_own s.q f b 1 ≡ true → is_mine b ≡ true
  unfolding is_own
  own_mine (Frame k o) e =
      let z : k ≡ f = same_nat k f (and_left _ _ e) in
      let l : o + 1 ≤ s.q.frame_bytes f = subst (λ j. o + 1 ≤ s.q.frame_bytes j) z (le_of (o + 1) (s.q.frame_bytes k) (and_right (nat_eq k f) _ e)) in
      or_left (nat_eq k f && nat_lt o (s.q.frame_bytes f)) (nat_eq k d && nat_lt o (frame_size h)) (both (nat_eq k f) (nat_lt o (s.q.frame_bytes f)) (and_left (nat_eq k f) (nat_le (o + 1) (s.q.frame_bytes k)) e) (of_lt o (s.q.frame_bytes f) (omega arith)))
  own_mine (Result r k) e =
      let l : k + 1 ≤ 4 = le_of (k + 1) 4 (and_right (same_root r (s.q.root f)) _ e) in
      both (same_root r (s.q.root f)) (nat_lt k 4) (and_left (same_root r (s.q.root f)) (nat_le (k + 1) 4) e) (of_lt k 4 (omega arith))
  own_mine (Static n k) e = absurd (cc)
  own_mine (Device a) e = absurd (cc)

  pub frame_mine : (j : ℕ) → j < frame_size h → is_mine (Frame d j) ≡ true
  frame_mine j lt = or_right (nat_eq d f && nat_lt j (s.q.frame_bytes f)) (nat_eq d d && nat_lt j (frame_size h)) (both (nat_eq d d) (nat_lt j (frame_size h)) (nat_same d d refl) (of_lt j (frame_size h) lt))

  pub result_mine : (k : ℕ) → k < 4 → is_mine (Result (s.q.root f) k) ≡ true
  result_mine k lt = both _ _ (root_self (s.q.root f)) (of_lt k 4 lt)

  pub frame_there : (j : ℕ) → j < frame_size h → There s (Frame d j)
  frame_there j lt = let z = size_in in (c.within, omega (arith, lt, z))

  mine_there : (b : Byte) → is_mine b ≡ true → There s b
  mine_there (Frame k o) e = ⊎_elim
      (λ x.
      let z : k ≡ f = same_nat k f (and_left _ _ x) in
      let l : o < s.q.frame_bytes f = lt_of o (s.q.frame_bytes f) (and_right (nat_eq k f) _ x) in
      let lt : f < length s.copies = user_below s f u in
      let w : s.q.frame_bytes f ≤ (frame (layout s) f).size = s.chosen.layout.frame_sizes f lt in
      let a : There s (Frame f o) = (lt, omega (arith, l, w)) in
      subst (λ j. There s (Frame j o)) (sym z) a)
      (λ x. subst (λ j. There s (Frame j o)) (sym (same_nat k d (and_left _ _ x))) (frame_there o (lt_of o (frame_size h) (and_right (nat_eq k d) _ x))))
      (or_true _ _ e)
  mine_there (Result r k) e = lt_of k 4 (and_right (same_root r (s.q.root f)) _ e)
  mine_there (Static n k) e = absurd (cc)
  mine_there (Device a) e = absurd (cc)

  mine_owned : (b : Byte) → is_mine b ≡ true → owner (layout s) (slot (layout s) b) ≡ Of (s.q.root f)
  mine_owned (Frame k o) e =
      let t : There s (Frame k o) = mine_there (Frame k o) e in
      let r : s.q.root k ≡ s.q.root f = ⊎_elim (λ x. ap s.q.root (same_nat k f (and_left (nat_eq k f) (nat_lt o (s.q.frame_bytes f)) x))) (λ x. ap s.q.root (same_nat k d (and_left (nat_eq k d) (nat_lt o (frame_size h)) x)) ∙ c.root) (or_true (nat_eq k f && nat_lt o (s.q.frame_bytes f)) (nat_eq k d && nat_lt o (frame_size h)) e) in
      placed.frames_own s.q (length s.copies) s.reaches (layout s) s.chosen.layout s.chosen.laid_out k o t.0 t.1 ∙ ap Of r
  mine_owned (Result r k) e =
      placed.results_own s.q (length s.copies) s.reaches (layout s) s.chosen.layout s.chosen.laid_out r k (lt_of k 4 (and_right (same_root r (s.q.root f)) _ e))
      ∙ ap Of (same_roots r (s.q.root f) (and_left _ _ e))
  mine_owned (Static n k) e = absurd (cc)
  mine_owned (Device a) e = absurd (cc)

  mine_private : (b : Byte) → is_mine b ≡ true → is_private b ≡ true
  mine_private (Frame k o) e = refl
  mine_private (Result r k) e = refl
  mine_private (Static n k) e = absurd (cc)
  mine_private (Device a) e = absurd (cc)

  pub stands_at : (b : Byte) → There s b → general_at (address_of (layout s) b) ≡ Some (slot (layout s) b)
  stands_at b t = placed.stands_in s.q (length s.copies) s.reaches (layout s) s.chosen.layout s.chosen.laid_out b t

  pub quiet : (i : Bool) → s.q.root f ≡ root_of i → AreQuiet s.g i (λ b. is_mine b ≡ true)
  quiet i e = record {
    banks = s.chosen.no_selects;
    quiet = λ b m. record {
      place = mine_private b m;
      stands = stands_at b (mine_there b m) ∙ ap (λ (k : ℕ). Some k) (slot_is (layout s) b);
      own = subst (λ k. owner (layout s) k ≡ Of (root_of i)) (slot_is (layout s) b) (mine_owned b m ∙ ap Of e);
    };
  }

  -- ---- the routine's frame is apart from what is live
  not_live : (g : ℕ) → IsUser s g → g ≢ d
  not_live g v e =
      let a : Some v.copy ≡ Some c.copy = sym v.there ∙ ap (slice_get s.copies) e ∙ c.there in
      let z : v.copy ≡ c.copy = some_copy a in
      true_false (is_user v.copy.function) v.user (ap (λ (x : FnCopy). is_user x.function) z ∙ ap is_user c.helper)
    where
      some_copy : {x y : FnCopy} → Some x ≡ Some y → x ≡ y
      some_copy e = cc

  under_routine : (st : List Waiting) → Chain s f st → (g : ℕ) → is_live f None (below st) g ≡ true → Under s d g
  under_routine st chain g e = ⊎_elim (λ x. inl (subst (λ z. s.reaches z d ≡ true) (sym (same_nat g f x)) c.reached)) (λ x. under_next s f d g c.reached (sym c.root) (below_under s f st chain g x)) (or_true _ _ e)

  pub clear_of : (st : List Waiting) → Chain s f st → (b : Byte) (j : ℕ) → valid_on s (is_live f None (below st)) b ≡ true → j < frame_size h → slot (layout s) b ≢ slot (layout s) (Frame d j)
  clear_of st chain (Static n k) j v lt =
      let t = frame_there j lt in
      placed.static_frame s.q (length s.copies) s.reaches (layout s) s.chosen.layout s.chosen.laid_out n k d j (lt_of _ _ v) t.0 t.1
  clear_of st chain (Result r k) j v lt =
      let t = frame_there j lt in
      placed.result_frame s.q (length s.copies) s.reaches (layout s) s.chosen.layout s.chosen.laid_out r k d j (lt_of _ _ v) t.0 t.1
  clear_of st chain (Device a) j v lt = absurd (cc)
  clear_of st chain (Frame g y) j v lt =
      let live : is_live f None (below st) g ≡ true = and_left _ _ v in
      let user = live_user s f None st tt chain in
      let a = there_on s (is_live f None (below st)) user (Frame g y) v in
      let t = frame_there j lt in
      let m : Together s g d = under_together s d g (under_routine st chain g live) in
      placed.frames s.q (length s.copies) s.reaches (layout s) s.chosen.layout s.chosen.laid_out g y d j a.0 t.0 (not_live g (user g live)) (meet s g d a.0 t.0 m) a.1 t.1

  pub frame_once : (j k : ℕ) → j < frame_size h → k < frame_size h → slot (layout s) (Frame d j) ≡ slot (layout s) (Frame d k) → j ≡ k
  frame_once j k a b e =
      let x = frame_there j a in
      let y = frame_there k b in
      placed.in_frame s.q (length s.copies) s.reaches (layout s) s.chosen.layout s.chosen.laid_out d j k x.0 x.1 y.1 e
