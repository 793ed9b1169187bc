-- What selection knows where an operation begins, as the code of operators is spoken of.
use Rattle.std.proofs.Common.{◌≡◌, ℕ, suc, ◌+◌, ◌<◌, ◌≤◌, Bool, true, false, nat_eq, List, [], ◌∷◌, ◌++◌, length, drop, Option, Some, None, slice_get, refl, sym, ap, ◌∙◌, subst, arith}
use Rattle.std.proofs.lemmas.Bool.Decides.{nat_tests}
use Rattle.std.proofs.lemmas.Option.{slice_get_within, slice_get-get_or}
use Rattle.std.proofs.Math.Seq.{drop-cons}
use Rattle.pic_world.specs.Roots.{same_root}
use Rattle.core_code.specs.Machine.{is_own}
use Rattle.core_code.specs.declared.code.Byte.{Byte}
use Rattle.core_code.specs.declared.code.Byte.TheVariants.{Static, Frame, Result, Device}
use Rattle.sym_code.specs.Effect.{root_of}
use Rattle.sym_code.specs.Layout.{DataLayout, frame, address_of, general_at, is_whole, owner, Of}
use Rattle.sym_code.specs.Programs.{position, stand, lands}
use Rattle.sym_code.specs.declared.code.BlockName.TheVariants.{Copy}
use Rattle.sym_code.specs.declared.code.PlainOperation.TheVariants as plains
use Rattle.sym_code.specs.declared.code.Sym.{Sym}
use Rattle.sym_code.specs.declared.code.Sym.TheVariants as syms
use Rattle.select_trace.proofs.Truths.{and_left, and_right, same_nat, le_of}
use Rattle.select_trace.proofs.Standing.{Has}
use Rattle.select_trace.proofs.Slots as slots
use Rattle.select_trace.proofs.Placed as placed
use Rattle.select_trace.proofs.Placed.{slot, same_roots}
use Rattle.select_trace.proofs.Sites.{Site, layout}
use Rattle.select_trace.proofs.Live.{IsUser, user_below}
use Rattle.select_trace.proofs.Blocks.{block, is_leaver, next_lands}
use Rattle.select_trace.specs.Silent.{number_or_zero, number_at, OwnsBytes, IsIn, IsStraight, AreStraight}

-- ---- bytes
pub slot_is : (l : DataLayout) (b : Byte) → slot l b ≡ number_at l b
slot_is l b = by (general_at (address_of l b))
  where
    by : (o : Option ℕ) → slots.or_zero o ≡ number_or_zero o
    by None = refl
    by (Some k) = refl

pub fewer_whole : (a n m : ℕ) → is_whole a n ≡ true → m ≤ n → is_whole a m ≡ true
fewer_whole a n m e le = grind (arith, nat_tests)

pub some_nat : {a b : ℕ} → Some a ≡ Some b → a ≡ b
some_nat e = cc

pub in_own : (s : Site) (i : Bool) (f n : ℕ) (b : Byte) → s.q.root f ≡ root_of i → is_own s.q f b n ≡ true → IsIn (root_of i) f (s.q.frame_bytes f) b n
unfolding is_own
in_own s i f n (Frame c k) e o =
    let z : c ≡ f = same_nat c f (and_left _ _ o) in
    (z, subst (λ (d : ℕ). k + n ≤ s.q.frame_bytes d) z (le_of (k + n) (s.q.frame_bytes c) (and_right (nat_eq c f) _ o)))
in_own s i f n (Result r k) e o = (same_roots r (s.q.root f) (and_left _ _ o) ∙ e, le_of (k + n) 4 (and_right (same_root r (s.q.root f)) _ o))
in_own s i f n (Static c k) e o = absurd (cc)
in_own s i f n (Device a) e o = absurd (cc)

pub owns : (s : Site) (i : Bool) (f : ℕ) → IsUser s f → s.q.root f ≡ root_of i → OwnsBytes s.g i f (s.q.frame_bytes f)
owns s i f u e =
    let lt : f < length s.copies = user_below s f u in
    let of = s.chosen.layout in
    let size : s.q.frame_bytes f ≤ (frame (layout s) f).size = of.frame_sizes f lt in
    let at : f < length (layout s).frames = (let h = of.frames in omega (arith, h, lt)) in
    record {
      banks = s.chosen.no_selects;
      whole = fewer_whole (frame (layout s) f).address (frame (layout s) f).size (s.q.frame_bytes f) (s.chosen.laid_out.frames f at) size;
      own = λ offset k lo h.
          let st : general_at (address_of (layout s) (Frame f offset)) ≡ Some (slot (layout s) (Frame f offset)) = placed.stands_in s.q (length s.copies) s.reaches (layout s) s.chosen.layout s.chosen.laid_out (Frame f offset) (lt, omega (arith, lo, size)) in
          let z : slot (layout s) (Frame f offset) ≡ k = some_nat (sym st ∙ h) in
          subst (λ (j : ℕ). owner (layout s) j ≡ Of (root_of i)) z (placed.frames_own s.q (length s.copies) s.reaches (layout s) s.chosen.layout s.chosen.laid_out f offset lt (omega (arith, lo, size)) ∙ ap Of e);
      results = λ n k lo h.
          let st : general_at (address_of (layout s) (Result (root_of i) n)) ≡ Some (slot (layout s) (Result (root_of i) n)) = placed.stands_in s.q (length s.copies) s.reaches (layout s) s.chosen.layout s.chosen.laid_out (Result (root_of i) n) lo in
          let z : slot (layout s) (Result (root_of i) n) ≡ k = some_nat (sym st ∙ h) in
          subst (λ (j : ℕ). owner (layout s) j ≡ Of (root_of i)) z (placed.results_own s.q (length s.copies) s.reaches (layout s) s.chosen.layout s.chosen.laid_out (root_of i) n lo);
    }

-- ---- code
heads : {A : Type 0} (xs : List A) (i : ℕ) (x : A) → slice_get xs i ≡ Some x → drop i xs ≡ x ∷ drop (suc i) xs
heads {A} xs i x e =
    let lt = slice_get_within xs i x e in
    drop-cons xs i x lt ∙ ap (λ y. y ∷ drop (suc i) xs) (inside (sym (slice_get-get_or xs i x lt) ∙ e))
  where
    inside : {y z : A} → Some y ≡ Some z → y ≡ z
    inside e = cc

pub has_drop : (b : List Sym) (n : ℕ) (x : List Sym) → Has b n x → drop n b ≡ x ++ drop (n + length x) b
has_drop b n [] h = ap (λ k. drop k b) (let e : n ≡ n + 0 = omega arith in e)
has_drop b n (a ∷ x) h =
    heads b n a h.0 ∙ ap (λ y. a ∷ y) (has_drop b (suc n) x h.1 ∙ ap (λ k. x ++ drop k b) (let e : suc n + length x ≡ n + suc (length x) = omega arith in e))

no_leaver : (P : Byte → Type 0) (x : Sym) → IsStraight P x → is_leaver x ≡ false
no_leaver P (syms.File op file into) h = refl
no_leaver P (syms.Movwf file) h = refl
no_leaver P (syms.Clrf file) h = refl
no_leaver P (syms.Bit op file n) h = refl
no_leaver P (syms.Literal op value) h = refl
no_leaver P (syms.Plain plains.Clrw) h = refl
no_leaver P (syms.Plain plains.Return) h = absurd h
no_leaver P (syms.Plain plains.Nop) h = absurd h
no_leaver P (syms.Plain plains.Retfie) h = absurd h
no_leaver P (syms.Call target) h = absurd h
no_leaver P (syms.Goto target) h = absurd h
no_leaver P (syms.Label l) h = absurd h
no_leaver P (syms.SelectBank which to) h = absurd h
no_leaver P (syms.SelectPage which target) h = absurd h
no_leaver P (syms.Table table root) h = absurd h

-- an instruction stands behind code that jumps nowhere
pub behind_lands : (s : Site) (f : ℕ) → IsUser s f → (P : Byte → Type 0) (x : List Sym) (n : ℕ) → 0 < length x → AreStraight P x → Has (block s f) n x → lands s.g.program (stand s.g.program (position (Copy f) (n + length x))) ≡ true
behind_lands s f u P [] n lt all h = absurd (omega arith)
behind_lands s f u P (a ∷ []) n lt all h =
    subst (λ k. lands s.g.program (stand s.g.program (position (Copy f) k)) ≡ true) (let e : suc n ≡ n + 1 = omega arith in e) (next_lands s f u n a h.0 (no_leaver P a all.0))
behind_lands s f u P (a ∷ b ∷ x) n lt all h =
    subst (λ k. lands s.g.program (stand s.g.program (position (Copy f) k)) ≡ true) (let e : suc n + suc (length x) ≡ n + suc (suc (length x)) = omega arith in e) (behind_lands s f u P (b ∷ x) (suc n) (omega arith) all.1 h.1)
