-- Two objects that live at the same time have no address in common, but where one begins just behind the other.
use Rattle.std.proofs.Common.{◌≡◌, ◌≢◌, ℕ, ◌+◌, ◌≤◌, Bool, true, false, not, List, [], ◌∷◌, Option, None, refl, sym, ap, ◌∙◌, arith}
use Rattle.std.specs.Prelude.{nat_eq, ◌&&◌, ◌||◌, if◌then◌else◌}
use Rattle.std.proofs.lemmas.Bool.{eq-eqb}
use Rattle.std.proofs.lemmas.Bool.Decides.{nat_tests}
use Rattle.core_code.specs.Bytes.{Object, Fixed, FrameOf, Place, same_object}
use Rattle.core_code.specs.Machine.{Waiting, InLoop, InCall, InHandler, object_bytes, waiting, is_over, is_among, lives_in, extent}
use Rattle.core_code.specs.Values.{may_touch}
use Rattle.sym_code.specs.Layout.{are_apart, object, frame}
use Rattle.select_trace.proofs.Truths.{and_left, and_right, or_left, or_right, flip}
use Rattle.select_trace.proofs.Sites.{Site, layout}
use Rattle.select_trace.proofs.Live.{passes, is_live, below, Passing, Chain, live_pairs, meet}
use Rattle.select_trace.proofs.Memory.{IsObject}
use Rattle.select_trace.proofs.Held.{Aims}
use Rattle.select_trace.proofs.Pointers.{base, target_is}

-- ---- what lives
waits : (st : List Waiting) (g : ℕ) → is_among (waiting st) g ≡ true → below st g ≡ true
waits [] g e = absurd (cc)
waits (InLoop body c ∷ st) g e = waits st g e
waits (InCall p c ∷ st) g e = by (nat_eq p g) refl e (waits st g)
  where
    by : (b : Bool) → nat_eq p g ≡ b → (b || is_among (waiting st) g) ≡ true → (is_among (waiting st) g ≡ true → below st g ≡ true) → is_live p None (below st) g ≡ true
    by true q e ih = or_left (nat_eq g p) _ (flip p g q)
    by false q e ih = or_right (nat_eq g p) _ (or_right (passes None g) (below st g) (ih e))
waits (InHandler p a c ∷ st) g e = by_over (is_over c) e (waits st g)
  where
    by_eq : (b : Bool) → nat_eq p g ≡ b → (b || is_among (waiting st) g) ≡ true → (is_among (waiting st) g ≡ true → below st g ≡ true) → is_live p a (below st) g ≡ true
    by_eq true q e ih = or_left (nat_eq g p) _ (flip p g q)
    by_eq false q e ih = or_right (nat_eq g p) _ (or_right (passes a g) (below st g) (ih e))

    by_over : (b : Bool) → is_among (if b then waiting st else p ∷ waiting st) g ≡ true → (is_among (waiting st) g ≡ true → below st g ≡ true) → is_live p a (below st) g ≡ true
    by_over true e ih = or_right (nat_eq g p) _ (or_right (passes a g) (below st g) (ih e))
    by_over false e ih = by_eq (nat_eq p g) refl e ih

live_now : (f : ℕ) (pr : Option ℕ) (st : List Waiting) (g : ℕ) → is_among (f ∷ waiting st) g ≡ true → is_live f pr (below st) g ≡ true
live_now f pr st g e = by (nat_eq f g) refl e
  where
    by : (b : Bool) → nat_eq f g ≡ b → (b || is_among (waiting st) g) ≡ true → is_live f pr (below st) g ≡ true
    by true q e = or_left (nat_eq g f) _ (flip f g q)
    by false q e = or_right (nat_eq g f) _ (or_right (passes pr g) (below st g) (waits st g e))

-- ---- where they stand
abbrev room : Site → Object → ℕ
room s (Fixed n) = (object (layout s) n).size
room s (FrameOf c) = (frame (layout s) c).size

fits_room : (s : Site) (o : Object) → IsObject s o → object_bytes s.q o ≤ room s o
fits_room s (Fixed n) i = let z = s.chosen.layout.sizes n i in omega (arith, z)
fits_room s (FrameOf c) i = s.chosen.layout.frame_sizes c i

swapped : (a n b m : ℕ) → are_apart a n b m ≡ true → are_apart b m a n ≡ true
swapped a n b m e = grind (arith, nat_tests)

apart_objects : (s : Site) (f : ℕ) (pr : Option ℕ) (st : List Waiting) → Passing s f pr → Chain s f st → (x y : Object) → same_object x y ≡ false → IsObject s x → IsObject s y → lives_in (f ∷ waiting st) x ≡ true → lives_in (f ∷ waiting st) y ≡ true →
    are_apart (base s x) (room s x) (base s y) (room s y) ≡ true
apart_objects s f pr st ps ch (Fixed n) (Fixed m) d i j l k =
    let o = s.chosen.layout.objects in
    s.chosen.laid_out.objects_apart n m (omega (arith, i, o)) (omega (arith, j, o)) (λ e. absurd (let z : false ≡ true = sym d ∙ ap (nat_eq n) (sym e) ∙ eq-eqb n n refl in cc))
apart_objects s f pr st ps ch (Fixed n) (FrameOf c) d i j l k =
    let o = s.chosen.layout.objects in
    let q = s.chosen.layout.frames in
    s.chosen.laid_out.frames_clear n c (omega (arith, i, o)) (omega (arith, j, q))
apart_objects s f pr st ps ch (FrameOf c) (Fixed n) d i j l k =
    let o = s.chosen.layout.objects in
    let q = s.chosen.layout.frames in
    swapped (object (layout s) n).address (object (layout s) n).size (frame (layout s) c).address (frame (layout s) c).size (s.chosen.laid_out.frames_clear n c (omega (arith, j, o)) (omega (arith, i, q)))
apart_objects s f pr st ps ch (FrameOf c) (FrameOf e) d i j l k =
    let q = s.chosen.layout.frames in
    let ne : c ≢ e = (λ z. absurd (let w : false ≡ true = sym d ∙ ap (nat_eq c) (sym z) ∙ eq-eqb c c refl in cc)) in
    s.chosen.laid_out.frames_apart c e (omega (arith, i, q)) (omega (arith, j, q)) ne (meet s c e i j (live_pairs s f pr st ps ch c e ne (live_now f pr st c l) (live_now f pr st e k)))

edges : (a n x b m y nx my : ℕ) → are_apart a n b m ≡ true → x ≤ nx → nx ≤ n → y ≤ my → my ≤ m → a + x ≡ b + y → ((nat_eq x nx && nat_eq y 0) || (nat_eq x 0 && nat_eq y my)) ≡ true
edges a n x b m y nx my e lx ln ly lm f = grind (arith, nat_tests)

-- two pointers that don't touch
pub other_address : (s : Site) (f : ℕ) (pr : Option ℕ) (st : List Waiting) → Passing s f pr → Chain s f st → (x y : Place) (n k : ℕ) → Aims s x n → Aims s y k → same_object x.object y.object ≡ false →
    ((extent s.q f st).lives x.object && (extent s.q f st).lives y.object && not (may_touch (extent s.q f st) x y)) ≡ true → n ≢ k
unfolding extent
other_address s f pr st ps ch x y n k ax ay d e same =
    let both = and_left (lives_in (f ∷ waiting st) x.object && lives_in (f ∷ waiting st) y.object) _ e in
    let lx = and_left (lives_in (f ∷ waiting st) x.object) _ both in
    let ly = and_right (lives_in (f ∷ waiting st) x.object) _ both in
    let far = and_right (lives_in (f ∷ waiting st) x.object && lives_in (f ∷ waiting st) y.object) _ e in
    let ap1 = apart_objects s f pr st ps ch x.object y.object d ax.place.0 ay.place.0 lx ly in
    let meets : base s x.object + x.offset ≡ base s y.object + y.offset = sym (target_is s x) ∙ sym ax.is ∙ same ∙ ay.is ∙ target_is s y in
    let touch = edges (base s x.object) (room s x.object) x.offset (base s y.object) (room s y.object) y.offset (object_bytes s.q x.object) (object_bytes s.q y.object) ap1 ax.place.1 (fits_room s x.object ax.place.0) ay.place.1 (fits_room s y.object ay.place.0) meets in
    let z : true ≡ false = sym far ∙ ap not touch in
    absurd (cc)
