-- The bytes of loads and stores, one by one.
use Rattle.std.proofs.Common.{◌≡◌, ◌⊎◌, inl, inr, ℕ, zero, suc, ◌+◌, ◌*◌, ◌%◌, ◌<◌, ◌≤◌, Bool, true, false, not, ◌&&◌, ◌||◌, nat_eq, nat_lt, List, [], ◌∷◌, ◌++◌, length, Option, Some, None, slice_get, refl, sym, ap, ◌∙◌, subst, append_assoc, arith}
use Rattle.pic_world.specs.Bits.{truth}
use Rattle.pic_world.specs.World.{World, ReadOf, WriteOf, noted}
use Rattle.pic_world.specs.declared.Cell.TheVariants as cells
use Rattle.core_code.specs.Bytes as bytes
use Rattle.core_code.specs.Bytes.{Held, Unset, Number, Part, Object, Fixed, FrameOf, byte_in, behind}
use Rattle.core_code.specs.Cost.{load_cost, one_if}
use Rattle.core_code.specs.Machine as core
use Rattle.core_code.specs.Machine.{Task, Put, Waiting, InLoop, InCall, InHandler, static_bytes, is_own, is_reached, is_among, callers, when, put, may_hold, memory_with, after_write, held_at, after_read, noting_if, loading, storing, load_from, store_to, written, goes}
use Rattle.core_code.specs.declared.code.Byte.{Byte}
use Rattle.core_code.specs.declared.code.Byte.TheVariants.{Static, Frame}
use Rattle.math_helpers.specs.Shape.{is_straight}
use Rattle.sym_code.specs.Effect.{Memory, Event, Silent, Shared, access_of, access_by, root_of}
use Rattle.sym_code.specs.Layout as layouts
use Rattle.sym_code.specs.Layout.{general_at, shown, Of}
use Rattle.sym_code.specs.Machine.{Machine}
use Rattle.sym_code.specs.Programs.{Position}
use Rattle.sym_code.specs.Registers.{Registers, Fits, pointer}
use Rattle.sym_code.specs.declared.code.BlockName.TheVariants as names
use Rattle.sym_code.specs.declared.code.FileOperation.TheVariants.{Incf, Movf}
use Rattle.sym_code.specs.declared.code.Into.TheVariants as into
use Rattle.sym_code.specs.declared.code.Operand.TheVariants as operands
use Rattle.sym_code.specs.declared.code.Register.TheVariants.{Fsr, Indf}
use Rattle.sym_code.specs.declared.code.Sym.{Sym}
use Rattle.sym_code.specs.declared.code.Sym.TheVariants as syms
use Rattle.select_code.specs.Pieces.{byte_behind}
use Rattle.select_wide.specs.Direct.{is_clear}
use Rattle.select_wide.specs.Pointers.{advance_code, load_byte_code, store_byte_code}
use Rattle.select_trace.proofs.Truths.{or_true, and_left, and_right, both, or_right, or_left, lt_of, of_lt, same_nat, nat_other, flip, if_false}
use Rattle.select_trace.proofs.Standing.{Has, moved, has_front, has_back, has_join}
use Rattle.select_trace.proofs.Labels.{len_append}
use Rattle.select_trace.proofs.Placed as placed
use Rattle.select_trace.proofs.Placed.{slot}
use Rattle.select_trace.proofs.Slots.{good_rises}
use Rattle.select_trace.proofs.Sites.{Site, layout}
use Rattle.select_trace.proofs.Machines.{at, Calm}
use Rattle.select_trace.proofs.Live.{IsUser, is_live, below, passes, Chain, chain_user, user_below, There, valid_on}
use Rattle.select_trace.proofs.Memory.{InPlace, Shown, agrees_shown}
use Rattle.select_trace.proofs.Blocks.{block}
use Rattle.select_trace.proofs.Relation.{Left, Soon, Points, advanced, loads_code, stores_code, Loading, Storing, Went, weaken, After}
use Rattle.select_trace.proofs.Relation as relation
use Rattle.select_trace.proofs.Steps.{thread, machine, Fit, total, dear, of_byte, word, word_counted}
use Rattle.select_trace.proofs.Access.{own_valid, own_access, loaded, loaded_fits, movf_silent, movwf_silent, of_root, of_watched, of_constant}
use Rattle.select_trace.proofs.Tests.{behind_more, own_behind}
use Rattle.select_trace.proofs.Testing.{total_append}
use Rattle.select_trace.proofs.Control.{left_to, when_after}
use Rattle.select_trace.proofs.Control as control
use Rattle.select_trace.proofs.Stores.{store_goes, static_store, private_goes}
use Rattle.select_trace.proofs.Bytes.{put_moves, after_map, static_read}
use Rattle.select_trace.proofs.Prices.{dear_words}
use Rattle.select_trace.proofs.Reaching.{static_covered, frame_covered}
use Rattle.select_trace.proofs.Pointing.{dear_one, dear_movwf_register, dear_file_register, advances, indf_is}
use Rattle.select_trace.proofs.Loads.{loading_soon, storing_soon}

-- FSR goes on to the next byte, but for the first one
abbrev pub step_code : ℕ → List Sym
step_code zero = []
step_code (suc j) = syms.File Incf (operands.Register Fsr) into.File ∷ []

abbrev pub stepped : ℕ → Registers → Registers
stepped zero r = r
stepped (suc j) r = record r { fsr = (r.fsr + 1) % 256; z = truth (nat_eq ((r.fsr + 1) % 256) 0) }

step_is : (j : ℕ) → advance_code j ≡ step_code j
step_is zero = refl
step_is (suc j) = if_false (nat_eq (suc j) 0) [] (syms.File Incf (operands.Register Fsr) into.File ∷ []) (nat_other (suc j) 0 (λ e. omega arith))

step_length : (j : ℕ) → length (step_code j) ≡ advanced j
step_length zero = refl
step_length (suc j) = refl

step_straight : (j : ℕ) (b : Sym) (y : List Sym) → is_straight (b ∷ y) ≡ true → is_straight (step_code j ++ b ∷ y) ≡ true
step_straight zero b y h = h
step_straight (suc j) b y h = h

step_dear : (j : ℕ) (y : List Sym) → dear_words (step_code j ++ y) ≤ 1 + dear_words y
step_dear zero y = omega arith
step_dear (suc j) y = let h = dear_file_register Incf Fsr into.File y in omega (arith, h)

truth_small : (b : Bool) → truth b < 2
truth_small true = omega arith
truth_small false = omega arith

-- a copy that waits for a call, under the same root
among_live : (s : Site) (f : ℕ) (st : List Waiting) → Chain s f st → (c : ℕ) → is_among (callers st) c ≡ true → IsUser s c × (s.q.root c ≡ s.q.root f) × (below st c ≡ true)
among_live s f [] ch c e = absurd (cc)
among_live s f (InLoop b t ∷ st) ch c e = among_live s f st ch c e
among_live s f (InHandler g pr t ∷ st) ch c e = absurd (cc)
among_live s f (InCall g t ∷ st) ch c e = by (or_true (nat_eq g c) (is_among (callers st) c) e) (λ h. among_live s g st ch.3 c h)
  where
    by : (nat_eq g c ≡ true) ⊎ (is_among (callers st) c ≡ true) → (is_among (callers st) c ≡ true → IsUser s c × (s.q.root c ≡ s.q.root g) × (below st c ≡ true)) → IsUser s c × (s.q.root c ≡ s.q.root f) × (below (InCall g t ∷ st) c ≡ true)
    by (inl h) go =
        let q = same_nat g c h in
        (subst (IsUser s) q (chain_user s g st ch.3), ap s.q.root (sym q) ∙ ch.1, or_left (nat_eq c g) (below st c) (flip g c h))
    by (inr h) go = let r = go h in (r.0, r.1 ∙ ch.1, or_right (nat_eq c g) (below st c) r.2)

module _ (s : Site) (t : Machine) (wc : World Held) (calm : Calm s wc) (f : ℕ) (pr : Option ℕ) (st : List Waiting) (loops : List ℕ) (ps : List Position) (cm : bytes.Memory) (m : Memory) (fit : Fit s t wc f pr st loops ps cm m) where
  c_user : IsUser s f
  c_user = chain_user s f st fit.chain

  -- the object that is reached: its byte stands somewhere, and is live
  reached_frame : (g y : ℕ) → is_reached s.q f st (FrameOf g) y ≡ true → (There s (Frame g y)) × (s.q.root g ≡ root_of wc.inside) × (valid_on s (is_live f pr (below st)) (Frame g y) ≡ true)
  unfolding is_reached
  reached_frame g y e =
      let lt = and_right (is_among (f ∷ callers st) g) (nat_lt y (s.q.frame_bytes g)) e in
      let r = by (or_true (nat_eq f g) (is_among (callers st) g) (and_left _ _ e)) in
      let h = user_below s g r.0 in
      let z = s.chosen.layout.frame_sizes g h in
      let l = lt_of y (s.q.frame_bytes g) lt in
      ((h, omega (arith, l, z)), r.1 ∙ fit.root, both (is_live f pr (below st) g) (nat_lt y (s.q.frame_bytes g)) r.2 lt)
    where
      by : (nat_eq f g ≡ true) ⊎ (is_among (callers st) g ≡ true) → IsUser s g × (s.q.root g ≡ s.q.root f) × (is_live f pr (below st) g ≡ true)
      by (inl h) = let q = same_nat f g h in (subst (IsUser s) q c_user, ap s.q.root (sym q), or_left (nat_eq g f) (passes pr g || below st g) (flip f g h))
      by (inr h) = let r = among_live s f st fit.chain g h in (r.0, r.1, or_right (nat_eq g f) (passes pr g || below st g) (or_right (passes pr g) (below st g) r.2))

  reached_static : (o k : ℕ) → is_reached s.q f st (Fixed o) k ≡ true → nat_lt k (static_bytes s.q o) ≡ true
  unfolding is_reached
  reached_static o k e = e

  -- FSR comes to the byte
  step_fits : (j : ℕ) (r : Registers) → Fits r → Fits (stepped j r)
  step_fits zero r fits = fits
  step_fits (suc j) r fits = record { w = fits.w; flags = (truth_small (nat_eq ((r.fsr + 1) % 256) 0), fits.flags.1, fits.flags.2); pointer = omega arith; banks = fits.banks; pages = fits.pages }

  step_points : (j : ℕ) (r : Registers) (b : Byte) → There s b → Fits r → pointer r + advanced j ≡ layouts.address_of (layout s) b → pointer (stepped j r) ≡ layouts.address_of (layout s) b
  step_points zero r b th fits e = (let z : pointer r ≡ pointer r + 0 = omega arith in z) ∙ e
  step_points (suc j) r b th fits e =
      let g = good_rises (layouts.address_of (layout s) b) (placed.good s.q (length s.copies) s.reaches (layout s) s.chosen.layout s.chosen.laid_out b th) in
      let g2 = g.2 in
      next r.irp r.fsr (layouts.address_of (layout s) b) fits.pointer g2 e
    where
      next : (i x a : ℕ) → x < 256 → 0 < a % 256 → 256 * i + x + 1 ≡ a → 256 * i + (x + 1) % 256 ≡ a
      next i x a lt g e = omega (arith, lt, g, e)

  step_went : (j n : ℕ) (r : Registers) (d : core.Machine) (lo hi : ℕ) → Has (block s f) n (step_code j) → Went s (at s t (thread s f (n + length (step_code j)) ps (stepped j r)) m wc) d lo hi
      → Went s (at s t (thread s f n ps r) m wc) d lo (total s f n (step_code j) + hi)
  step_went zero n r d lo hi h go =
      weaken s (at s t (thread s f n ps r) m wc) d lo hi lo (0 + hi) (omega arith) (omega arith)
      (subst (λ k. Went s (at s t (thread s f k ps r) m wc) d lo hi) (let z : n + 0 ≡ n = omega arith in z) go)
  step_went (suc j) n r d lo hi h go =
      weaken s (at s t (thread s f n ps r) m wc) d lo (s.price (names.Copy f) n + hi) lo (s.price (names.Copy f) n + 0 + hi) (omega arith) (omega arith)
      (word s t wc calm f ps c_user n r m (syms.File Incf (operands.Register Fsr) into.File) (stepped (suc j) r) None d lo hi h.0 refl refl refl (advances s wc.inside f n ps r m)
      (subst (λ k. Went s (at s t (thread s f k ps (stepped (suc j) r)) m wc) d lo hi) (let z : n + 1 ≡ suc n = omega arith in z) go))

  -- ---- a byte is read
  to_byte : (to first : Byte) (j : ℕ) → to ≡ behind first j → is_own s.q f to 1 ≡ true → byte_behind first j ≡ to
  to_byte to first j e o = own_behind s f c_user first j (subst (λ z. is_own s.q f z 1 ≡ true) e o) ∙ sym e

  -- its code, with the byte by its own name
  load_is : (to first : Byte) (j : ℕ) → byte_behind first j ≡ to → load_byte_code first j ≡ step_code j ++ syms.File Movf (operands.Register Indf) into.W ∷ relation.store_to to ∷ []
  load_is to first j e =
      ap (λ (l : List Sym). l ++ syms.File Movf (operands.Register Indf) into.W ∷ [] ++ syms.Movwf (operands.Byte (byte_behind first j)) ∷ []) (step_is j)
      ∙ append_assoc (step_code j) (syms.File Movf (operands.Register Indf) into.W ∷ []) (syms.Movwf (operands.Byte (byte_behind first j)) ∷ [])
      ∙ ap (λ z. step_code j ++ syms.File Movf (operands.Register Indf) into.W ∷ syms.Movwf (operands.Byte z) ∷ []) e

  store_is : (from first : Byte) (j : ℕ) → byte_behind first j ≡ from → store_byte_code first j ≡ step_code j ++ syms.File Movf (operands.Byte from) into.W ∷ syms.Movwf (operands.Register Indf) ∷ []
  store_is from first j e =
      ap (λ (l : List Sym). l ++ syms.File Movf (operands.Byte (byte_behind first j)) into.W ∷ [] ++ syms.Movwf (operands.Register Indf) ∷ []) (step_is j)
      ∙ append_assoc (step_code j) (syms.File Movf (operands.Byte (byte_behind first j)) into.W ∷ []) (syms.Movwf (operands.Register Indf) ∷ [])
      ∙ ap (λ z. step_code j ++ syms.File Movf (operands.Byte z) into.W ∷ syms.Movwf (operands.Register Indf) ∷ []) e

  further_points : (object : Object) (offset : ℕ) (r : Registers) → pointer r ≡ layouts.address_of (layout s) (byte_in object offset) → pointer r + 1 ≡ layouts.address_of (layout s) (byte_in object (offset + 1))
  unfolding layouts.address_of
  further_points (Fixed o) offset r p = omega (arith, p)
  further_points (FrameOf g) offset r p = omega (arith, p)

  -- what follows a byte of a load
  next_loading : (to first : Byte) (j k offset : ℕ) (object : Object) (n n' : ℕ) (r : Registers) (c : List Task) → to ≡ behind first j → pointer r ≡ layouts.address_of (layout s) (byte_in object offset) → n' ≡ n + length (load_byte_code first j)
      → Has (block s f) n (loads_code first j (suc k)) → Left s f loops (n + length (loads_code first j (suc k))) c → Soon s f loops r n' (loading (behind to 1) object (offset + 1) k c)
  next_loading to first j k offset object n n' r c e p en h l =
      let x = load_byte_code first j in
      let y = loads_code first (suc j) k in
      let len = len_append x y in
      loading_soon s f loops r n' (behind to 1) object (offset + 1) k c first (suc j) (ap (λ z. behind z 1) e ∙ behind_more first j 1 ∙ ap (behind first) (omega arith)) (further_points object offset r p)
      (moved (block s f) (n + length x) n' y (sym en) (has_back (block s f) n x y h)) (left_to s f loops (n + length (x ++ y)) (n' + length y) c (omega (arith, len, en)) l)

  next_storing : (from first : Byte) (j k offset : ℕ) (object : Object) (n n' : ℕ) (r : Registers) (c : List Task) → from ≡ behind first j → pointer r ≡ layouts.address_of (layout s) (byte_in object offset) → n' ≡ n + length (store_byte_code first j)
      → Has (block s f) n (stores_code first j (suc k)) → Left s f loops (n + length (stores_code first j (suc k))) c → Soon s f loops r n' (storing object (offset + 1) (behind from 1) k c)
  next_storing from first j k offset object n n' r c e p en h l =
      let x = store_byte_code first j in
      let y = stores_code first (suc j) k in
      let len = len_append x y in
      storing_soon s f loops r n' (behind from 1) object (offset + 1) k c first (suc j) (ap (λ z. behind z 1) e ∙ behind_more first j 1 ∙ ap (behind first) (omega arith)) (further_points object offset r p)
      (moved (block s f) (n + length x) n' y (sym en) (has_back (block s f) n x y h)) (left_to s f loops (n + length (x ++ y)) (n' + length y) c (omega (arith, len, en)) l)

  has_join_one : (n : ℕ) (x : List Sym) (y : Sym) → Has (block s f) n x → slice_get (block s f) (n + length x) ≡ Some y → Has (block s f) n (x ++ y ∷ [])
  has_join_one n x y h e = has_join (block s f) n x (y ∷ []) h (e, tt)

  -- ---- what INDF reaches
  shared_indf : (wr : Bool) (r : Registers) (o k : ℕ) → k < static_bytes s.q o → pointer r ≡ layouts.address_of (layout s) (Static o k) → s.q.is_watched o ≡ true → access_of s.g wc.inside wr r (operands.Register Indf) ≡ Event (Shared (slot (layout s) (Static o k)) (cells.Static o k))
  shared_indf wr r o k lt p w =
      indf_is s wc.inside wr r (Static o k) lt (static_covered s o k lt) p
      ∙ ap (access_by wc.inside wr (slot (layout s) (Static o k))) (placed.watched s.q (length s.copies) s.reaches (layout s) s.chosen.layout s.chosen.laid_out o k lt w)
      ∙ of_watched s wc.inside wr (slot (layout s) (Static o k)) o k

  constant_indf : (r : Registers) (o k : ℕ) → k < static_bytes s.q o → pointer r ≡ layouts.address_of (layout s) (Static o k) → s.q.is_watched o ≡ false → access_of s.g wc.inside false r (operands.Register Indf) ≡ Silent (slot (layout s) (Static o k))
  constant_indf r o k lt p w =
      indf_is s wc.inside false r (Static o k) lt (static_covered s o k lt) p
      ∙ ap (access_by wc.inside false (slot (layout s) (Static o k))) (placed.constant s.q (length s.copies) s.reaches (layout s) s.chosen.layout s.chosen.laid_out o k lt w)
      ∙ of_constant s wc.inside (slot (layout s) (Static o k))

  frame_indf : (wr : Bool) (r : Registers) (g y : ℕ) → There s (Frame g y) → s.q.root g ≡ root_of wc.inside → pointer r ≡ layouts.address_of (layout s) (Frame g y) → access_of s.g wc.inside wr r (operands.Register Indf) ≡ Silent (slot (layout s) (Frame g y))
  frame_indf wr r g y th e p =
      indf_is s wc.inside wr r (Frame g y) th (frame_covered s g y th) p
      ∙ ap (access_by wc.inside wr (slot (layout s) (Frame g y))) (placed.frames_own s.q (length s.copies) s.reaches (layout s) s.chosen.layout s.chosen.laid_out g y th.0 th.1 ∙ ap Of e)
      ∙ of_root s wc.inside wr (slot (layout s) (Frame g y))

  -- which isn't hidden
  indf_clear : (r : Registers) (b : Byte) → There s b → pointer r ≡ layouts.address_of (layout s) b → s.hidden (slot (layout s) b) ≡ false → is_clear s.hidden (general_at (pointer r)) ≡ true
  indf_clear r b th p e =
      ap (λ a. is_clear s.hidden (general_at a)) p
      ∙ ap (is_clear s.hidden) (placed.stands_in s.q (length s.copies) s.reaches (layout s) s.chosen.layout s.chosen.laid_out b th)
      ∙ ap not e

  static_clear : (r : Registers) (o k : ℕ) → s.lent (Fixed o) ≡ true → k < static_bytes s.q o → pointer r ≡ layouts.address_of (layout s) (Static o k) → is_clear s.hidden (general_at (pointer r)) ≡ true
  static_clear r o k lent lt p =
      let i = placed.is_object s.q (length s.copies) s.reaches (layout s) s.chosen.layout s.chosen.laid_out o k lt in
      indf_clear r (Static o k) lt p (s.shows.objects o k (slot (layout s) (Static o k)) lent i.0 i.1 (placed.stands_in s.q (length s.copies) s.reaches (layout s) s.chosen.layout s.chosen.laid_out (Static o k) lt))

  frame_clear : (r : Registers) (g y : ℕ) → s.lent (FrameOf g) ≡ true → There s (Frame g y) → pointer r ≡ layouts.address_of (layout s) (Frame g y) → is_clear s.hidden (general_at (pointer r)) ≡ true
  frame_clear r g y lent th p = indf_clear r (Frame g y) th p (s.shows.frames g y (slot (layout s) (Frame g y)) lent th.1 (placed.stands_in s.q (length s.copies) s.reaches (layout s) s.chosen.layout s.chosen.laid_out (Frame g y) th))

  pointer_same : (r r' : Registers) → r'.fsr ≡ r.fsr → r'.irp ≡ r.irp → pointer r' ≡ pointer r
  pointer_same r r' a b = ap (λ z. 256 * z + r'.fsr) b ∙ ap (λ z. 256 * r.irp + z) a

  load_static : (to first : Byte) (j o offset k n : ℕ) (r : Registers) (c : List Task) → Fits r → to ≡ behind first j → Points s r j (Fixed o) offset → Has (block s f) n (loads_code first j (suc k)) → Left s f loops (n + length (loads_code first j (suc k))) c
      → is_own s.q f to 1 ≡ true → is_reached s.q f st (Fixed o) offset ≡ true → s.lent (Fixed o) ≡ true
      → Went s (at s t (thread s f n ps r) m wc) (machine f pr (Put to (cm (Static o offset)) ∷ loading (behind to 1) (Fixed o) (offset + 1) k c) st cm (noting_if (s.q.is_watched o) (ReadOf (cells.Static o offset) (cm (Static o offset))) wc)) 1 3
  load_static to first j o offset k n r c fits e p h l own re lent =
      let va = reached_static o offset re in
      let lt = lt_of offset (static_bytes s.q o) va in
      let sc = step_code j in
      let mi = syms.File Movf (operands.Register Indf) into.W in
      let tail = mi ∷ relation.store_to to ∷ [] in
      let li = load_is to first j (to_byte to first j e own) in
      let hb = subst (Has (block s f) n) li (has_front (block s f) n (load_byte_code first j) (loads_code first (suc j) k) h) in
      let hs = has_front (block s f) n sc tail hb in
      let n1 = n + length sc in
      let ht = has_back (block s f) n sc tail hb in
      let r1 = stepped j r in
      let f1 = step_fits j r fits in
      let p1 = step_points j r (Static o offset) lt fits p in
      let d = machine f pr (Put to (cm (Static o offset)) ∷ loading (behind to 1) (Fixed o) (offset + 1) k c) st cm (noting_if (s.q.is_watched o) (ReadOf (cells.Static o offset) (cm (Static o offset))) wc) in
      let len : length (load_byte_code first j) ≡ length sc + 2 = ap length li ∙ len_append sc tail in
      let d1 = step_dear j (mi ∷ []) in
      let d2 = dear_file_register Movf Indf into.W [] in
      let tot : total s f n (sc ++ mi ∷ []) ≡ total s f n sc + (s.price (names.Copy f) n1 + 0) = total_append s f n sc (mi ∷ []) in
      let dr = dear s f c_user n 3 (sc ++ mi ∷ []) (has_join_one n sc mi hs ht.0) (step_straight j mi [] refl) (omega (arith, d1, d2)) in
      weaken s (at s t (thread s f n ps r) m wc) d 1 (total s f n sc + (s.price (names.Copy f) n1 + 0)) 1 3 (omega arith) (omega (arith, dr, tot))
      (step_went j n r d 1 (s.price (names.Copy f) n1 + 0) hs
      (static_read s t wc calm f pr st loops ps cm m fit (operands.Register Indf) to o offset n1 r1 (loading (behind to 1) (Fixed o) (offset + 1) k c) (λ q. shared_indf false r1 o offset lt p1 q) (λ q. constant_indf r1 o offset lt p1 q) va f1 ht.0 ht.1
      (λ r2 a b. next_loading to first j k offset (Fixed o) n (suc n1 + 1) r2 c e (pointer_same r1 r2 a b ∙ p1) (omega (arith, len)) h l) refl (static_clear r1 o offset lent lt p1)))

  load_frame : (to first : Byte) (j g offset k n : ℕ) (r : Registers) (c : List Task) → Fits r → to ≡ behind first j → Points s r j (FrameOf g) offset → Has (block s f) n (loads_code first j (suc k)) → Left s f loops (n + length (loads_code first j (suc k))) c
      → is_own s.q f to 1 ≡ true → is_reached s.q f st (FrameOf g) offset ≡ true → s.lent (FrameOf g) ≡ true
      → After s 1 6 (put s.q to (cm (Frame g offset)) (loading (behind to 1) (FrameOf g) (offset + 1) k c) f pr st cm wc) (at s t (thread s f n ps r) m wc)
  load_frame to first j g offset k n r c fits e p h l own re lent =
      let fr = reached_frame g offset re in
      let sc = step_code j in
      let mi = syms.File Movf (operands.Register Indf) into.W in
      let tail = mi ∷ relation.store_to to ∷ [] in
      let li = load_is to first j (to_byte to first j e own) in
      let hb = subst (Has (block s f) n) li (has_front (block s f) n (load_byte_code first j) (loads_code first (suc j) k) h) in
      let hs = has_front (block s f) n sc tail hb in
      let n1 = n + length sc in
      let ht = has_back (block s f) n sc tail hb in
      let r1 = stepped j r in
      let f1 = step_fits j r fits in
      let p1 = step_points j r (Frame g offset) fr.0 fits p in
      let k0 = slot (layout s) (Frame g offset) in
      let r2 = loaded s r1 (m k0) in
      let rest = loading (behind to 1) (FrameOf g) (offset + 1) k c in
      let len : length (load_byte_code first j) ≡ length sc + 2 = ap length li ∙ len_append sc tail in
      let d1 = step_dear j tail in
      let d2 = dear_file_register Movf Indf into.W (relation.store_to to ∷ []) in
      let d3 = dear_one (relation.store_to to) [] in
      let tot : total s f n (sc ++ tail) ≡ total s f n sc + (s.price (names.Copy f) n1 + (s.price (names.Copy f) (suc n1) + 0)) = total_append s f n sc tail in
      let dr = dear s f c_user n 6 (sc ++ tail) hb (step_straight j mi (relation.store_to to ∷ []) refl) (omega (arith, d1, d2, d3)) in
      let v = at s t (thread s f n ps r) m wc in
      let v' = at s t (thread s f (suc n1) ps r2) m wc in
      after_map s (of_byte s to) (s.price (names.Copy f) (suc n1) + 0) 1 6 (put s.q to (cm (Frame g offset)) rest f pr st cm wc) v' v (put_moves s.q to (cm (Frame g offset)) rest f pr st cm wc) (λ d w.
      weaken s v d (1 + of_byte s to) (total s f n sc + (s.price (names.Copy f) n1 + (s.price (names.Copy f) (suc n1) + 0))) 1 6 (omega arith) (omega (arith, dr, tot))
      (step_went j n r d (1 + of_byte s to) (s.price (names.Copy f) n1 + (s.price (names.Copy f) (suc n1) + 0)) hs
      (word_counted s t wc calm f ps c_user n1 r1 m mi r2 None d (of_byte s to) (s.price (names.Copy f) (suc n1) + 0) ht.0 refl (frame_clear r1 g offset lent fr.0 p1) refl (movf_silent s wc.inside f n1 ps r1 m (operands.Register Indf) k0 (frame_indf false r1 g offset fr.0 fr.1 p1)) w)))
      (store_goes s t wc calm f pr st loops ps cm m fit to (cm (Frame g offset)) (suc n1) r2 rest (loaded_fits s r1 (m k0) f1 (fit.bytes k0)) (agrees_shown s (Frame g offset) (cm (Frame g offset)) (m k0) (fit.agree (Frame g offset) fr.2)) ht.1.0
      (next_loading to first j k offset (FrameOf g) n (suc (suc n1)) r2 c e p1 (omega (arith, len)) h l))

  one_more : (k lo hi : ℕ) (x : core.Next) (v : Machine) → After s 1 hi x v → After s (one_if (nat_lt 0 (suc k))) hi x v
  one_more k lo hi x v a = subst (λ z. After s (one_if z) hi x v) (sym (of_lt 0 (suc k) (omega arith))) a

  pub load_from_goes : (to : Byte) (object : Object) (offset k n : ℕ) (r : Registers) (c : List Task) → Fits r → Loading s f loops r n to object offset k c → s.lent object ≡ true
      → After s (one_if (nat_lt 0 k)) (load_cost object) (load_from (record { program = s.q; outside = s.o }) to object offset k c f pr st cm wc) (at s t (thread s f n ps r) m wc)
  unfolding held_at after_read
  load_from_goes to object offset zero n r c fits (first, j, e, p, h, l) lent =
      weaken s (at s t (thread s f n ps r) m wc) (machine f pr c st cm wc) 0 0 0 (load_cost object) (omega arith) (omega arith) (control.left_goes s t wc calm f pr st loops ps cm m fit n r c fits (left_to s f loops (n + 0) n c (omega arith) l))
  load_from_goes to (Fixed o) offset (suc k) n r c fits (first, j, e, p, h, l) lent =
      let next = goes (Put to (cm (Static o offset)) ∷ loading (behind to 1) (Fixed o) (offset + 1) k c) f pr st cm (noting_if (s.q.is_watched o) (ReadOf (cells.Static o offset) (cm (Static o offset))) wc) in
      let v = at s t (thread s f n ps r) m wc in
      let d = machine f pr (Put to (cm (Static o offset)) ∷ loading (behind to 1) (Fixed o) (offset + 1) k c) st cm (noting_if (s.q.is_watched o) (ReadOf (cells.Static o offset) (cm (Static o offset))) wc) in
      one_more k 1 16 (when (is_own s.q f to 1 && is_reached s.q f st (Fixed o) offset) next) v
      (when_after s 1 16 (is_own s.q f to 1 && is_reached s.q f st (Fixed o) offset) next v (λ a.
      weaken s v d 1 3 1 16 (omega arith) (omega arith) (load_static to first j o offset k n r c fits e p h l (and_left _ _ a) (and_right (is_own s.q f to 1) _ a) lent)))
  load_from_goes to (FrameOf g) offset (suc k) n r c fits (first, j, e, p, h, l) lent =
      let next = put s.q to (cm (Frame g offset)) (loading (behind to 1) (FrameOf g) (offset + 1) k c) f pr st cm wc in
      let v = at s t (thread s f n ps r) m wc in
      one_more k 1 6 (when (is_own s.q f to 1 && is_reached s.q f st (FrameOf g) offset) next) v
      (when_after s 1 6 (is_own s.q f to 1 && is_reached s.q f st (FrameOf g) offset) next v (λ a.
      load_frame to first j g offset k n r c fits e p h l (and_left _ _ a) (and_right (is_own s.q f to 1) _ a) lent))

  -- ---- a byte is written
  store_byte : (object : Object) (b : Byte) (wd : World Held) (cm' : bytes.Memory) (from first : Byte) (j offset k n : ℕ) (r : Registers) (c : List Task) → b ≡ byte_in object offset → There s b → Fits r → from ≡ behind first j → Points s r j object offset
      → Has (block s f) n (stores_code first j (suc k)) → Left s f loops (n + length (stores_code first j (suc k))) c → is_own s.q f from 1 ≡ true
      → ((n1 : ℕ) (r2 : Registers) → Fits r2 → r2.w ≡ m (slot (layout s) from) → pointer r2 ≡ layouts.address_of (layout s) b → slice_get (block s f) n1 ≡ Some (syms.Movwf (operands.Register Indf)) → Soon s f loops r2 (suc n1) (storing object (offset + 1) (behind from 1) k c)
      → Went s (at s t (thread s f n1 ps r2) m wc) (machine f pr (storing object (offset + 1) (behind from 1) k c) st cm' wd) 1 (s.price (names.Copy f) n1 + 0))
      → Went s (at s t (thread s f n ps r) m wc) (machine f pr (storing object (offset + 1) (behind from 1) k c) st cm' wd) 1 6
  store_byte object b wd cm' from first j offset k n r c be th fits e p h l own go =
      let sc = step_code j in
      let mf = syms.File Movf (operands.Byte from) into.W in
      let mi = syms.Movwf (operands.Register Indf) in
      let tail = mf ∷ mi ∷ [] in
      let li = store_is from first j (to_byte from first j e own) in
      let hb = subst (Has (block s f) n) li (has_front (block s f) n (store_byte_code first j) (stores_code first (suc j) k) h) in
      let hs = has_front (block s f) n sc tail hb in
      let n1 = n + length sc in
      let ht = has_back (block s f) n sc tail hb in
      let r1 = stepped j r in
      let f1 = step_fits j r fits in
      let p1 = step_points j r b th fits (p ∙ ap (layouts.address_of (layout s)) (sym be)) in
      let k0 = slot (layout s) from in
      let r2 = loaded s r1 (m k0) in
      let rest = storing object (offset + 1) (behind from 1) k c in
      let d = machine f pr rest st cm' wd in
      let len : length (store_byte_code first j) ≡ length sc + 2 = ap length li ∙ len_append sc tail in
      let d1 = step_dear j tail in
      let d2 = dear_one mf (mi ∷ []) in
      let d3 = dear_movwf_register Indf [] in
      let tot : total s f n (sc ++ tail) ≡ total s f n sc + (s.price (names.Copy f) n1 + (s.price (names.Copy f) (suc n1) + 0)) = total_append s f n sc tail in
      let dr = dear s f c_user n 6 (sc ++ tail) hb (step_straight j mf (mi ∷ []) refl) (omega (arith, d1, d2, d3)) in
      let v = at s t (thread s f n ps r) m wc in
      weaken s v d 1 (total s f n sc + (s.price (names.Copy f) n1 + (s.price (names.Copy f) (suc n1) + 0))) 1 6 (omega arith) (omega (arith, dr, tot))
      (step_went j n r d 1 (s.price (names.Copy f) n1 + (s.price (names.Copy f) (suc n1) + 0)) hs
      (word s t wc calm f ps c_user n1 r1 m mf r2 None d 1 (s.price (names.Copy f) (suc n1) + 0) ht.0 refl refl refl (movf_silent s wc.inside f n1 ps r1 m (operands.Byte from) k0 (own_access s wc.inside false r1 f c_user fit.root from own))
      (go (suc n1) r2 (loaded_fits s r1 (m k0) f1 (fit.bytes k0)) refl p1 ht.1.0 (next_storing from first j k offset object n (suc (suc n1)) r2 c e (p1 ∙ ap (layouts.address_of (layout s)) be) (omega (arith, len)) h l))))

  own_shown : (from : Byte) → is_own s.q f from 1 ≡ true → Shown s (cm from) (m (slot (layout s) from))
  own_shown from o = agrees_shown s from (cm from) (m (slot (layout s) from)) (fit.agree from (own_valid s f pr (below st) from o))

  store_static : (from first : Byte) (j o offset k n : ℕ) (r : Registers) (c : List Task) (held : Held) → cm from ≡ held → (m (slot (layout s) from) ≡ shown (layout s) held) × InPlace s held → Fits r → from ≡ behind first j → Points s r j (Fixed o) offset
      → Has (block s f) n (stores_code first j (suc k)) → Left s f loops (n + length (stores_code first j (suc k))) c → is_own s.q f from 1 ≡ true → is_reached s.q f st (Fixed o) offset ≡ true → s.q.is_watched o ≡ true → s.lent (Fixed o) ≡ true
      → Went s (at s t (thread s f n ps r) m wc) (machine f pr (storing (Fixed o) (offset + 1) (behind from 1) k c) st (bytes.with_byte cm (Static o offset) held) (noted (WriteOf (cells.Static o offset) held) wc)) 1 6
  store_static from first j o offset k n r c held he sh fits e p h l own re wa lent =
      let va = reached_static o offset re in
      let lt = lt_of offset (static_bytes s.q o) va in
      store_byte (Fixed o) (Static o offset) (noted (WriteOf (cells.Static o offset) held) wc) (bytes.with_byte cm (Static o offset) held) from first j offset k n r c refl lt fits e p h l own (λ n1 r2 f2 w2 p2 h2 soon.
      static_store s t wc calm f pr st loops ps cm m fit (operands.Register Indf) o offset held n1 r2 (storing (Fixed o) (offset + 1) (behind from 1) k c) (shared_indf true r2 o offset lt p2 wa) f2 (w2 ∙ sh.0, sh.1) h2 soon va refl (static_clear r2 o offset lent lt p2))

  store_frame : (from first : Byte) (j g offset k n : ℕ) (r : Registers) (c : List Task) → Fits r → from ≡ behind first j → Points s r j (FrameOf g) offset
      → Has (block s f) n (stores_code first j (suc k)) → Left s f loops (n + length (stores_code first j (suc k))) c → is_own s.q f from 1 ≡ true → is_reached s.q f st (FrameOf g) offset ≡ true → s.lent (FrameOf g) ≡ true
      → Went s (at s t (thread s f n ps r) m wc) (machine f pr (storing (FrameOf g) (offset + 1) (behind from 1) k c) st (bytes.with_byte cm (Frame g offset) (cm from)) wc) 1 6
  store_frame from first j g offset k n r c fits e p h l own re lent =
      let fr = reached_frame g offset re in
      store_byte (FrameOf g) (Frame g offset) wc (bytes.with_byte cm (Frame g offset) (cm from)) from first j offset k n r c refl fr.0 fits e p h l own (λ n1 r2 f2 w2 p2 h2 soon.
      private_goes s t wc calm f pr st loops ps cm m fit (Frame g offset) (cm from) (syms.Movwf (operands.Register Indf)) r2.w n1 r2 r2 (storing (FrameOf g) (offset + 1) (behind from 1) k c) pr cm f2 f2.w
      (subst (λ z. Shown s (cm from) z) (sym w2) (own_shown from own)) h2 refl (frame_clear r2 g offset lent fr.0 p2) refl (movwf_silent s wc.inside f n1 ps r2 m (operands.Register Indf) (slot (layout s) (Frame g offset)) (frame_indf true r2 g offset fr.0 fr.1 p2)) soon fit.passing fit.agree fr.2)

  pub store_to_goes : (object : Object) (offset : ℕ) (from : Byte) (k n : ℕ) (r : Registers) (c : List Task) → Fits r → Storing s f loops r n object offset from k c → s.lent object ≡ true
      → After s (one_if (nat_lt 0 k)) 6 (store_to (record { program = s.q; outside = s.o }) object offset from k c f pr st cm wc) (at s t (thread s f n ps r) m wc)
  unfolding memory_with after_write shown
  store_to_goes object offset from zero n r c fits (first, j, e, p, h, l) lent =
      weaken s (at s t (thread s f n ps r) m wc) (machine f pr c st cm wc) 0 0 0 6 (omega arith) (omega arith) (control.left_goes s t wc calm f pr st loops ps cm m fit n r c fits (left_to s f loops (n + 0) n c (omega arith) l))
  store_to_goes (FrameOf g) offset from (suc k) n r c fits (first, j, e, p, h, l) lent =
      let next = goes (storing (FrameOf g) (offset + 1) (behind from 1) k c) f pr st (bytes.with_byte cm (Frame g offset) (cm from)) wc in
      let v = at s t (thread s f n ps r) m wc in
      one_more k 1 6 (when (is_own s.q f from 1 && is_reached s.q f st (FrameOf g) offset) next) v
      (when_after s 1 6 (is_own s.q f from 1 && is_reached s.q f st (FrameOf g) offset) next v (λ a.
      store_frame from first j g offset k n r c fits e p h l (and_left _ _ a) (and_right (is_own s.q f from 1) _ a) lent))
  store_to_goes (Fixed o) offset from (suc k) n r c fits (first, j, e, p, h, l) lent =
      let next = written s.q (Static o offset) (cm from) (storing (Fixed o) (offset + 1) (behind from 1) k c) f pr st cm wc in
      let v = at s t (thread s f n ps r) m wc in
      one_more k 1 6 (when (is_own s.q f from 1 && is_reached s.q f st (Fixed o) offset) next) v
      (when_after s 1 6 (is_own s.q f from 1 && is_reached s.q f st (Fixed o) offset) next v (λ a.
      by (cm from) refl (and_left _ _ a) (and_right (is_own s.q f from 1) _ a) (own_shown from (and_left _ _ a))))
    where
      by : (held : Held) → cm from ≡ held → is_own s.q f from 1 ≡ true → is_reached s.q f st (Fixed o) offset ≡ true → Shown s held (m (slot (layout s) from))
          → After s 1 6 (when (may_hold s.q (Static o offset) held wc) (goes (storing (Fixed o) (offset + 1) (behind from 1) k c) f pr st (bytes.with_byte cm (Static o offset) held) (noted (WriteOf (cells.Static o offset) held) wc))) (at s t (thread s f n ps r) m wc)
      by Unset q own re sh = tt
      by (Number x) q own re sh =
          when_after s 1 6 (s.q.is_watched o) (goes (storing (Fixed o) (offset + 1) (behind from 1) k c) f pr st (bytes.with_byte cm (Static o offset) (Number x)) (noted (WriteOf (cells.Static o offset) (Number x)) wc)) (at s t (thread s f n ps r) m wc) (λ wa.
          store_static from first j o offset k n r c (Number x) q (sh, tt) fits e p h l own re wa lent)
      by (Part a b x) q own re sh =
          when_after s 1 6 (s.q.is_watched o) (goes (storing (Fixed o) (offset + 1) (behind from 1) k c) f pr st (bytes.with_byte cm (Static o offset) (Part a b x)) (noted (WriteOf (cells.Static o offset) (Part a b x)) wc)) (at s t (thread s f n ps r) m wc) (λ wa.
          store_static from first j o offset k n r c (Part a b x) q sh fits e p h l own re wa lent)
