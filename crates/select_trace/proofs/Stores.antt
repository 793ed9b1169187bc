-- One byte is written, or read and written.
use Rattle.std.proofs.Common.{◌≡◌, ℕ, suc, ◌+◌, ◌<◌, Bool, true, false, not, ◌&&◌, ◌||◌, nat_eq, nat_lt, if◌then◌else◌, List, length, Option, Some, slice_get, refl, sym, ap, ◌∙◌, subst, arith}
use Rattle.std.specs.Prelude.{slice_index}
use Rattle.std.proofs.lemmas.List.{get_or_past}
use Rattle.pic_world.specs.Control.{is_stored, stored, with_stored}
use Rattle.pic_world.specs.Registers.{is_register, lowest}
use Rattle.pic_world.specs.Roots.{same_root}
use Rattle.pic_world.specs.World.{World, WriteOf, noted, device_value, after_device_read, after_device_write, sets_gie}
use Rattle.pic_world.specs.declared.Cell.TheVariants as cells
use Rattle.core_code.specs.Bytes as bytes
use Rattle.core_code.specs.Bytes.{Held, Unset, Number, Part, is_private}
use Rattle.core_code.specs.Cost.{one_if}
use Rattle.core_code.specs.Machine as core
use Rattle.core_code.specs.Machine.{Task, Waiting, static_bytes, after_write, memory_with, may_call, can_pass, opened, passed, is_own, is_valid, put, when, is_entry}
use Rattle.core_code.specs.declared.code.Byte.{Byte}
use Rattle.core_code.specs.declared.code.Byte.TheVariants.{Static, Frame, Result, Device}
use Rattle.sym_code.specs.Effect.{Memory, with_byte, write, Port, Shared, Quiet, Writes, Silent, Event, effect_of, access_of, root_of}
use Rattle.sym_code.specs.Layout.{shown}
use Rattle.sym_code.specs.Machine.{Machine}
use Rattle.sym_code.specs.Marks.{is_marked}
use Rattle.sym_code.specs.Programs.{Position, position, is_word}
use Rattle.sym_code.specs.Registers.{Registers, Fits}
use Rattle.sym_code.specs.declared.code.BlockName.TheVariants as names
use Rattle.sym_code.specs.declared.code.Operand.{Operand}
use Rattle.sym_code.specs.declared.code.Operand.TheVariants as operands
use Rattle.sym_code.specs.declared.code.Sym.{Sym}
use Rattle.sym_code.specs.declared.code.Sym.TheVariants as syms
use Rattle.select_wide.specs.Direct.{clears}
use Rattle.select_trace.proofs.Truths.{and_left, and_right, both, or_right, or_left, not_false, lt_of, nat_same}
use Rattle.select_trace.proofs.Placed.{slot, same_roots}
use Rattle.select_trace.proofs.Sites.{Site, layout}
use Rattle.select_trace.proofs.Machines.{at, Calm, write_port, write_shared, write_inside}
use Rattle.select_trace.proofs.Live.{IsUser, is_live, below, Passing, chain_user, called_user, user_below, valid_on, There, one_to_one}
use Rattle.select_trace.proofs.Memory.{InPlace, Shown, Agrees, Agree, agree_put, agree_opened}
use Rattle.select_trace.proofs.Blocks.{block, is_leaver, next_lands}
use Rattle.select_trace.proofs.Relation.{store_to, Soon, AreBytes, Went, weaken, After}
use Rattle.select_trace.proofs.Steps.{thread, machine, Fit, stands_at, stays, counted, of_byte, word_counted, word_to, effect_word}
use Rattle.select_trace.proofs.Access.{own_valid, own_access, frame_access, shared_access, port_access, movwf_silent, movwf_event}
use Rattle.select_trace.proofs.Control.{here_soon, when_after}

-- ---- bytes of the world
pub device_small : (s : Site) (a : ℕ) (w : World Held) → AreBytes w.control → device_value s.o a w < 256
unfolding device_value stored
device_small s a w b = by (is_stored a) (nat_eq a 0x0b) (nat_eq a 0x0c)
  where
    input : (k : ℕ) → slice_index s.o.input k < 256
    input k = at (nat_lt k (length s.o.input)) refl
      where
        at : (t : Bool) → nat_lt k (length s.o.input) ≡ t → slice_index s.o.input k < 256
        at true e = s.input k 0 (lt_of k (length s.o.input) e)
        at false e = let z : slice_index s.o.input k ≡ 0 = get_or_past s.o.input k 0 (grind arith) in omega (arith, z)

    by : (x y z : Bool) → (if x then (if y then w.control.intcon else if z then w.control.pir1 else w.control.pie1) else slice_index s.o.input w.taken) < 256
    by true true z = b.intcon
    by true false true = b.pir1
    by true false false = b.pie1
    by false y z = input w.taken

pub read_bytes : (s : Site) (a : ℕ) (w : World Held) → AreBytes w.control → AreBytes (after_device_read Number s.o a w).control
unfolding after_device_read
read_bytes s a w b = by (is_stored a)
  where
    by : (x : Bool) → AreBytes (if x then w else record w { taken = w.taken + 1 }).control
    by true = b
    by false = b

pub write_bytes : (a v : ℕ) (w : World Held) → v < 256 → AreBytes w.control → AreBytes (after_device_write Number a v w).control
unfolding after_device_write with_stored
write_bytes a v w lt b = by (is_stored a) (nat_eq a 0x0b) (nat_eq a 0x0c)
  where
    by : (x y z : Bool) → AreBytes (if x then record w { control = if y then record w.control { intcon = v } else if z then record w.control { pir1 = v } else record w.control { pie1 = v } } else w).control
    by true true z = record { intcon = lt; pir1 = b.pir1; pie1 = b.pie1 }
    by true false true = record { intcon = b.intcon; pir1 = lt; pie1 = b.pie1 }
    by true false false = record { intcon = b.intcon; pir1 = b.pir1; pie1 = lt }
    by false y z = b

pub with_small : (m : Memory) (k v : ℕ) → v < 256 → ((j : ℕ) → m j < 256) → (j : ℕ) → with_byte m k v j < 256
with_small m k v lt h j = by (nat_eq j k)
  where
    by : (b : Bool) → (if b then v else m j) < 256
    by true = lt
    by false = h j

module _ (s : Site) (t : Machine) (wc : World Held) (calm : Calm s wc) (f : ℕ) (pr : Option ℕ) (st : List Waiting) (loops : List ℕ) (ps : List Position) (cm : bytes.Memory) (m : Memory) (fit : Fit s t wc f pr st loops ps cm m) where
  here_user : IsUser s f
  here_user = chain_user s f st fit.chain

  -- another memory, and another world
  pub fit_with : (wd : World Held) (pr' : Option ℕ) (cm' : bytes.Memory) (m' : Memory) → wd.inside ≡ wc.inside → AreBytes wd.control → Agree s (is_live f pr' (below st)) cm' m' → ((k : ℕ) → m' k < 256) → Passing s f pr' → Fit s t wd f pr' st loops ps cm' m'
  fit_with wd pr' cm' m' i b a by p = record { inside = i ∙ fit.inside; control = b; agree = a; bytes = by; passing = p; chain = fit.chain; root = fit.root ∙ ap root_of (sym i); level = fit.level; frames = fit.frames }

  -- ---- bytes of frames and results
  -- A byte of the own frame, of the results, or of the frame of the copy that is called next: what is to be shown for each.
  pub put_private : (to : Byte) (held : Held) (lo hi : ℕ) (v : Machine) (c : List Task) → is_private to ≡ true
      → ((pr' : Option ℕ) (cm' : bytes.Memory) → Passing s f pr' → Agree s (is_live f pr' (below st)) cm' m → valid_on s (is_live f pr' (below st)) to ≡ true → ((r : Registers) → access_of s.g wc.inside true r (operands.Byte to) ≡ Silent (slot (layout s) to))
      → Went s v (machine f pr' c st (bytes.with_byte cm' to held) wc) lo hi)
      → After s lo hi (put s.q to held c f pr st cm wc) v
  unfolding put is_valid memory_with after_write
  put_private (Static n k) held lo hi v c e go = absurd (cc)
  put_private (Device a) held lo hi v c e go = absurd (cc)
  put_private (Result x k) held lo hi v c e go =
      when_after s lo hi (is_own s.q f (Result x k) 1) (core.goes c f pr st (bytes.with_byte cm (Result x k) held) wc) v (λ o.
      go pr cm fit.passing fit.agree (own_valid s f pr (below st) (Result x k) o) (λ r. own_access s wc.inside true r f here_user fit.root (Result x k) o))
  put_private (Frame g y) held lo hi v c e go = by (nat_eq g f) refl
    where
      by : (b : Bool) → nat_eq g f ≡ b → After s lo hi (if not b then passed s.q (Frame g y) held c f pr st cm wc else when (is_own s.q f (Frame g y) 1) (core.goes c f pr st (bytes.with_byte cm (Frame g y) held) wc)) v
      by true q =
          when_after s lo hi (is_own s.q f (Frame g y) 1) (core.goes c f pr st (bytes.with_byte cm (Frame g y) held) wc) v (λ o.
          go pr cm fit.passing fit.agree (own_valid s f pr (below st) (Frame g y) o) (λ r. own_access s wc.inside true r f here_user fit.root (Frame g y) o))
      by false q =
          when_after s lo hi (may_call s.q f pr g && nat_lt y (s.q.parameter_bytes g) && nat_lt y (s.q.frame_bytes g)) (core.goes c f (Some g) st (bytes.with_byte (opened pr g cm) (Frame g y) held) wc) v (λ o.
          let o1 = and_left _ _ o in
          let ca : may_call s.q f pr g ≡ true = and_left _ _ o1 in
          let ly : nat_lt y (s.q.frame_bytes g) ≡ true = and_right (may_call s.q f pr g && nat_lt y (s.q.parameter_bytes g)) _ o in
          let e1 : (s.q.calls f g && same_root (s.q.root f) (s.q.root g) && not (is_entry s.q g)) ≡ true = and_left _ _ ca in
          let e2 : (s.q.calls f g && same_root (s.q.root f) (s.q.root g)) ≡ true = and_left _ _ e1 in
          let cf : s.q.calls f g ≡ true = and_left _ _ e2 in
          let ro : s.q.root f ≡ s.q.root g = same_roots _ _ (and_right (s.q.calls f g) _ e2) in
          let cp : can_pass pr g ≡ true = and_right (s.q.calls f g && same_root (s.q.root f) (s.q.root g) && not (is_entry s.q g)) _ ca in
          let ug = called_user s f g cf in
          let hg = user_below s g ug in
          let z = s.chosen.layout.frame_sizes g hg in
          let lt = lt_of y (s.q.frame_bytes g) ly in
          let th : There s (Frame g y) = (hg, omega (arith, lt, z)) in
          go (Some g) (opened pr g cm) (cf, ro) (agree_opened s f pr g (below st) cm m cp fit.agree)
          (both (is_live f (Some g) (below st) g) (nat_lt y (s.q.frame_bytes g)) (or_right (nat_eq g f) (nat_eq g g || below st g) (or_left (nat_eq g g) (below st g) (nat_same g g refl))) ly)
          (λ r. frame_access s wc.inside true r g y th (sym ro ∙ fit.root)))

  -- an instruction that writes such a byte
  pub private_goes : (to : Byte) (held : Held) (x : Sym) (v n : ℕ) (r r' : Registers) (c : List Task) (pr' : Option ℕ) (cm' : bytes.Memory) → Fits r' → v < 256 → Agrees s to held v → slice_get (block s f) n ≡ Some x → is_word (Some x) ≡ true → clears s.hidden r (Some x) ≡ true → is_leaver x ≡ false
      → effect_of s.g wc.inside (position (names.Copy f) n) (thread s f n ps r) m x ≡ Quiet (thread s f (n + 1) ps r') (write (slot (layout s) to) v)
      → Soon s f loops r' (suc n) c → Passing s f pr' → Agree s (is_live f pr' (below st)) cm' m → valid_on s (is_live f pr' (below st)) to ≡ true
      → Went s (at s t (thread s f n ps r) m wc) (machine f pr' c st (bytes.with_byte cm' to held) wc) (counted s x) (s.price (names.Copy f) n + 0)
  private_goes to held x v n r r' c pr' cm' fits lt ag h w clear l ef soon p a va =
      let m' = with_byte m (slot (layout s) to) v in
      let d = machine f pr' c st (bytes.with_byte cm' to held) wc in
      let inj = one_to_one s f pr' st p fit.chain in
      let fit' = fit_with wc pr' (bytes.with_byte cm' to held) m' refl fit.control (agree_put s (is_live f pr' (below st)) cm' m to held v inj va ag a) (with_small m (slot (layout s) to) v lt fit.bytes) p in
      let hi = s.price (names.Copy f) n + 0 in
      weaken s (at s t (thread s f n ps r) m wc) d (counted s x + 0) hi (counted s x) hi (omega arith) (omega arith)
      (word_counted s t wc calm f ps here_user n r m x r' (write (slot (layout s) to) v) d 0 0 h w clear l ef
      (stays s (at s t (thread s f (suc n) ps r') m' wc) d (stands_at s t wc f pr' c st loops (bytes.with_byte cm' to held) m' (thread s f (suc n) ps r') fit' fits (here_soon s f loops (suc n) ps r' c soon))))

  private_agrees : (to : Byte) (held : Held) (v : ℕ) → is_private to ≡ true → Shown s held v → Agrees s to held v
  private_agrees (Static n k) held v e h = absurd (cc)
  private_agrees (Frame n k) held v e h = h
  private_agrees (Result n k) held v e h = h
  private_agrees (Device a) held v e h = absurd (cc)

  -- W is written to such a byte
  private_store : (to : Byte) (held : Held) (n : ℕ) (r : Registers) (c : List Task) → is_private to ≡ true → Fits r → Shown s held r.w → slice_get (block s f) n ≡ Some (store_to to) → Soon s f loops r (suc n) c
      → After s (of_byte s to) (s.price (names.Copy f) n + 0) (put s.q to held c f pr st cm wc) (at s t (thread s f n ps r) m wc)
  private_store to held n r c e fits sh h soon =
      put_private to held (of_byte s to) (s.price (names.Copy f) n + 0) (at s t (thread s f n ps r) m wc) c e (λ pr' cm' p a va ac.
      private_goes to held (store_to to) r.w n r r c pr' cm' fits fits.w (private_agrees to held r.w e sh) h refl refl refl (movwf_silent s wc.inside f n ps r m (operands.Byte to) (slot (layout s) to) (ac r)) soon p a va)

  -- ---- static objects and device registers
  pub static_store : (x : Operand) (o k : ℕ) (held : Held) (n : ℕ) (r : Registers) (c : List Task) → access_of s.g wc.inside true r x ≡ Event (Shared (slot (layout s) (Static o k)) (cells.Static o k)) → Fits r → (r.w ≡ shown (layout s) held) × InPlace s held → slice_get (block s f) n ≡ Some (syms.Movwf x) → Soon s f loops r (suc n) c
      → nat_lt k (static_bytes s.q o) ≡ true → is_marked s.q.variable_bytes (syms.Movwf x) ≡ true → clears s.hidden r (Some (syms.Movwf x)) ≡ true
      → Went s (at s t (thread s f n ps r) m wc) (machine f pr c st (bytes.with_byte cm (Static o k) held) (noted (WriteOf (cells.Static o k) held) wc)) 1 (s.price (names.Copy f) n + 0)
  static_store x o k held n r c ac fits sh h soon va marked clear =
      let b = Static o k in
      let kk = slot (layout s) b in
      let wd = noted (WriteOf (cells.Static o k) held) wc in
      let m' = with_byte m kk r.w in
      let d = machine f pr c st (bytes.with_byte cm b held) wd in
      let th' = thread s f (suc n) ps r in
      let ef = movwf_event s wc.inside f n ps r m x (Shared kk (cells.Static o k)) ac ∙ ap (λ z. Writes (Shared kk (cells.Static o k)) r.w (thread s f z ps r)) (let q : n + 1 ≡ suc n = omega arith in q) in
      let inj = one_to_one s f pr st fit.passing fit.chain in
      let fit' = fit_with wd pr (bytes.with_byte cm b held) m' refl fit.control (agree_put s (is_live f pr (below st)) cm m b held r.w inj va sh fit.agree) (with_small m kk r.w fits.w fit.bytes) fit.passing in
      let one : counted s (syms.Movwf x) ≡ 1 = ap one_if marked in
      let hi = s.price (names.Copy f) n + 0 in
      weaken s (at s t (thread s f n ps r) m wc) d (counted s (syms.Movwf x) + 0) hi 1 hi (omega (arith, one)) (omega arith)
      (word_to s t wc calm f ps here_user (at s t th' m' wd) n r m (syms.Movwf x) (Writes (Shared kk (cells.Static o k)) r.w th') d 0 0 h refl clear ef (λ c p. refl)
      (write_shared s t wc calm (thread s f n ps r) m kk (cells.Static o k) r.w held th' (effect_word s wc.inside f n ps r m (syms.Movwf x) h refl ∙ ef) sh.0 (next_lands s f here_user n (syms.Movwf x) h refl))
      (stays s (at s t th' m' wd) d (stands_at s t wd f pr c st loops (bytes.with_byte cm b held) m' th' fit' fits (here_soon s f loops (suc n) ps r c soon))))

  device_store : (a v n : ℕ) (r : Registers) (c : List Task) → Fits r → r.w ≡ v → slice_get (block s f) n ≡ Some (store_to (Device a)) → Soon s f loops r (suc n) c → (is_register a && nat_eq (lowest a) a) ≡ true → sets_gie a v wc ≡ false
      → Went s (at s t (thread s f n ps r) m wc) (machine f pr c st cm (after_device_write Number a v wc)) 1 (s.price (names.Copy f) n + 0)
  device_store a v n r c fits sh h soon va gi =
      let b = Device a in
      let wd = after_device_write Number a v wc in
      let d = machine f pr c st cm wd in
      let th' = thread s f (suc n) ps r in
      let ef : effect_of s.g wc.inside (position (names.Copy f) n) (thread s f n ps r) m (store_to b) ≡ Writes (Port a) v th' =
      movwf_event s wc.inside f n ps r m (operands.Byte b) (Port a) (port_access s wc.inside true r a va) ∙ ap (λ z. Writes (Port a) r.w (thread s f z ps r)) (let q : n + 1 ≡ suc n = omega arith in q) ∙ ap (λ z. Writes (Port a) z th') sh in
      let vs : v < 256 = subst (λ z. z < 256) sh fits.w in
      let fit' = fit_with wd pr cm m (write_inside s t wc calm (thread s f n ps r) m a v) (write_bytes a v wc vs fit.control) fit.agree fit.bytes fit.passing in
      word_to s t wc calm f ps here_user (at s t th' m wd) n r m (store_to b) (Writes (Port a) v th') d 0 0 h refl refl ef (λ c p. refl)
      (write_port s t wc calm (thread s f n ps r) m a v th' (effect_word s wc.inside f n ps r m (store_to b) h refl ∙ ef) gi (next_lands s f here_user n (store_to b) h refl))
      (stays s (at s t th' m wd) d (stands_at s t wd f pr c st loops cm m th' fit' fits (here_soon s f loops (suc n) ps r c soon)))

  -- W is written
  pub store_goes : (to : Byte) (held : Held) (n : ℕ) (r : Registers) (c : List Task) → Fits r → Shown s held r.w → slice_get (block s f) n ≡ Some (store_to to) → Soon s f loops r (suc n) c
      → After s (of_byte s to) (s.price (names.Copy f) n + 0) (put s.q to held c f pr st cm wc) (at s t (thread s f n ps r) m wc)
  unfolding put is_valid memory_with after_write shown
  store_goes (Frame g y) held n r c fits sh h soon = private_store (Frame g y) held n r c refl fits sh h soon
  store_goes (Result x k) held n r c fits sh h soon = private_store (Result x k) held n r c refl fits sh h soon
  store_goes (Static o k) Unset n r c fits sh h soon = when_after s 1 (s.price (names.Copy f) n + 0) (nat_lt k (static_bytes s.q o)) core.Stuck (at s t (thread s f n ps r) m wc) (λ va. tt)
  store_goes (Static o k) (Number x) n r c fits sh h soon =
      let next = core.goes c f pr st (bytes.with_byte cm (Static o k) (Number x)) (noted (WriteOf (cells.Static o k) (Number x)) wc) in
      when_after s 1 (s.price (names.Copy f) n + 0) (nat_lt k (static_bytes s.q o)) (when (s.q.is_watched o) next) (at s t (thread s f n ps r) m wc) (λ va.
      when_after s 1 (s.price (names.Copy f) n + 0) (s.q.is_watched o) next (at s t (thread s f n ps r) m wc) (λ wa. static_store (operands.Byte (Static o k)) o k (Number x) n r c (shared_access s wc.inside true r o k (lt_of k (static_bytes s.q o) va) wa) fits (sh, tt) h soon va refl refl))
  store_goes (Static o k) (Part a b x) n r c fits sh h soon =
      let next = core.goes c f pr st (bytes.with_byte cm (Static o k) (Part a b x)) (noted (WriteOf (cells.Static o k) (Part a b x)) wc) in
      when_after s 1 (s.price (names.Copy f) n + 0) (nat_lt k (static_bytes s.q o)) (when (s.q.is_watched o) next) (at s t (thread s f n ps r) m wc) (λ va.
      when_after s 1 (s.price (names.Copy f) n + 0) (s.q.is_watched o) next (at s t (thread s f n ps r) m wc) (λ wa. static_store (operands.Byte (Static o k)) o k (Part a b x) n r c (shared_access s wc.inside true r o k (lt_of k (static_bytes s.q o) va) wa) fits sh h soon va refl refl))
  store_goes (Device a) Unset n r c fits sh h soon = when_after s 1 (s.price (names.Copy f) n + 0) (is_register a && nat_eq (lowest a) a) core.Stuck (at s t (thread s f n ps r) m wc) (λ va. tt)
  store_goes (Device a) (Part x y z) n r c fits sh h soon = when_after s 1 (s.price (names.Copy f) n + 0) (is_register a && nat_eq (lowest a) a) core.Stuck (at s t (thread s f n ps r) m wc) (λ va. tt)
  store_goes (Device a) (Number x) n r c fits sh h soon =
      let next = core.goes c f pr st cm (after_device_write Number a x wc) in
      when_after s 1 (s.price (names.Copy f) n + 0) (is_register a && nat_eq (lowest a) a) (when (not (sets_gie a x wc)) next) (at s t (thread s f n ps r) m wc) (λ va.
      when_after s 1 (s.price (names.Copy f) n + 0) (not (sets_gie a x wc)) next (at s t (thread s f n ps r) m wc) (λ gi. device_store a x n r c fits sh h soon va (not_false (sets_gie a x wc) gi)))
