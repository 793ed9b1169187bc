-- Which copies may be live at once: the layout keeps their bytes apart.
use Rattle.std.proofs.Common.{◌≡◌, ◌≢◌, ◌⊎◌, inl, inr, ℕ, ◌<◌, Bool, true, false, not, ◌&&◌, ◌||◌, nat_eq, nat_lt, List, [], ◌∷◌, length, Option, Some, None, slice_get, refl, sym, ap, ◌∙◌, subst, ⊎_elim, arith}
use Rattle.std.proofs.lemmas.Option.{slice_get_within, slice_get-get_or}
use Rattle.std.proofs.lemmas.List.Quantifiers.{position-Some}
use Rattle.pic_world.specs.Roots.{same_root}
use Rattle.pic_world.specs.declared.Root.{Root}
use Rattle.pic_world.specs.declared.Root.TheVariants.{Main, Isr}
use Rattle.call_graph.specs.Numbers.{handler_at}
use Rattle.call_graph.specs.declared.types.FnCopy.{FnCopy}
use Rattle.core_code.specs.Bytes.{same_byte}
use Rattle.core_code.specs.Machine.{Waiting, InLoop, InCall, InHandler, static_bytes, is_entry}
use Rattle.core_code.specs.declared.code.Byte.{Byte}
use Rattle.core_code.specs.declared.code.Byte.TheVariants.{Static, Frame, Result, Device}
use Rattle.sym_code.specs.Layout.{frame, may_meet}
use Rattle.select_wide.specs.Blocks.{is_user}
use Rattle.select_trace.proofs.Truths.{or_true, and_left, and_right, both, or_right, or_left, lt_of, nat_same, same_nat, true_false}
use Rattle.select_trace.proofs.Placed as placed
use Rattle.select_trace.proofs.Placed.{slot, root_self}
use Rattle.select_trace.proofs.Sites.{Site, layout}

-- a copy that is no helper
pub record IsUser (s : Site) (c : ℕ) : Type 0 where
  pub copy : FnCopy
  pub there : slice_get s.copies c ≡ Some copy
  pub user : is_user copy.function ≡ true

pub user_below : (s : Site) (c : ℕ) → IsUser s c → c < length s.copies
user_below s c u = slice_get_within s.copies c u.copy u.there

-- ---- what is live
abbrev pub passes : Option ℕ → ℕ → Bool
passes None g = false
passes (Some h) g = nat_eq g h

abbrev pub is_live : ℕ → Option ℕ → (ℕ → Bool) → ℕ → Bool
is_live f pr b g = nat_eq g f || (passes pr g || b g)

abbrev pub below : List Waiting → ℕ → Bool
below [] g = false
below (InLoop t c ∷ s) g = below s g
below (InCall f r ∷ s) g = is_live f None (below s) g
below (InHandler f pr r ∷ s) g = is_live f pr (below s) g

-- the copy that is passed to may be called by the running one
abbrev pub Passing : Site → ℕ → Option ℕ → Type 0
Passing s f None = Unit {0}
Passing s f (Some g) = (s.q.calls f g ≡ true) × (s.q.root f ≡ s.q.root g)

-- each copy was called by the one below it, and the handler's root stands over main's
abbrev pub Chain : Site → ℕ → List Waiting → Type 0
Chain s f [] = f ≡ 0
Chain s f (InLoop t r ∷ st) = Chain s f st
Chain s f (InCall g r ∷ st) = (s.q.calls g f ≡ true) × (s.q.root g ≡ s.q.root f) × (is_entry s.q f ≡ false) × Chain s g st
Chain s f (InHandler g pr r ∷ st) = (s.q.handler ≡ Some f) × (s.q.root f ≡ Isr) × (s.q.root g ≡ Main) × Passing s g pr × Chain s g st

pub main_not_isr : (r : Root) → r ≡ Main → r ≡ Isr → ⊥
main_not_isr Main a b = absurd (cc)
main_not_isr Isr a b = absurd (cc)

module _ (s : Site) where
  pub called_user : (f g : ℕ) → s.q.calls f g ≡ true → IsUser s g
  called_user f g e = let u = s.chosen.called_there f g e in record { copy = u.0; there = u.1; user = u.2 }

  pub main_user : IsUser s 0
  main_user = let u = s.chosen.main_there in record { copy = u.0; there = u.1; user = u.2 }

  pub main_root : s.q.root 0 ≡ Main
  main_root = let u = s.chosen.main_there in s.chosen.roots 0 u.0 u.1 ∙ u.3

  pub handler_user : (h : ℕ) → s.q.handler ≡ Some h → IsUser s h
  handler_user h e =
      let at : handler_at s.copies ≡ Some h = sym s.chosen.handler ∙ e in
      let copy = s.chosen.main_there.0 in
      let p = position-Some (λ (c : FnCopy). same_root c.root Isr) s.copies h copy at in
      let got = slice_get-get_or s.copies h copy p.0 in
      record { copy = _; there = got; user = s.chosen.handler_there h _ at got }

  pub chain_user : (f : ℕ) (st : List Waiting) → Chain s f st → IsUser s f
  chain_user f [] c = subst (IsUser s) (sym c) main_user
  chain_user f (InLoop t r ∷ st) c = chain_user f st c
  chain_user f (InCall g r ∷ st) c = called_user g f c.0
  chain_user f (InHandler g pr r ∷ st) c = handler_user f c.0

  passed_user : (f : ℕ) (pr : Option ℕ) → Passing s f pr → (g : ℕ) → passes pr g ≡ true → IsUser s g
  passed_user f None p g e = absurd (cc)
  passed_user f (Some h) p g e = subst (IsUser s) (sym (same_nat g h e)) (called_user f h p.0)

  live_user_by : (f : ℕ) (pr : Option ℕ) (b : ℕ → Bool) → IsUser s f → Passing s f pr → ((g : ℕ) → b g ≡ true → IsUser s g) → (g : ℕ) → is_live f pr b g ≡ true → IsUser s g
  live_user_by f pr b u p ih g e = ⊎_elim (λ d. subst (IsUser s) (sym (same_nat g f d)) u) (λ d. ⊎_elim (passed_user f pr p g) (ih g) (or_true _ _ d)) (or_true _ _ e)

  below_user : (f : ℕ) (st : List Waiting) → Chain s f st → (g : ℕ) → below st g ≡ true → IsUser s g
  below_user f [] c g e = absurd (cc)
  below_user f (InLoop t r ∷ st) c g e = below_user f st c g e
  below_user f (InCall h r ∷ st) c g e = live_user_by h None (below st) (chain_user h st c.3) tt (below_user h st c.3) g e
  below_user f (InHandler h pr r ∷ st) c g e = live_user_by h pr (below st) (chain_user h st c.4) c.3 (below_user h st c.4) g e

  pub live_user : (f : ℕ) (pr : Option ℕ) (st : List Waiting) → Passing s f pr → Chain s f st → (g : ℕ) → is_live f pr (below st) g ≡ true → IsUser s g
  live_user f pr st p c = live_user_by f pr (below st) (chain_user f st c) p (below_user f st c)

  -- ---- who may meet whom
  -- may be live together
  abbrev pub Together : ℕ → ℕ → Type 0
  Together c d = (s.reaches c d ≡ true) ⊎ ((s.reaches d c ≡ true) ⊎ (s.q.root c ≢ s.q.root d))

  -- a copy reaches the running one, or is of the other root
  abbrev pub Under : ℕ → ℕ → Type 0
  Under f g = (s.reaches g f ≡ true) ⊎ (s.q.root g ≢ s.q.root f)

  pub under_next : (f h g : ℕ) → s.reaches f h ≡ true → s.q.root f ≡ s.q.root h → Under f g → Under h g
  under_next f h g e q (inl r) = inl (s.chosen.reach_on g f h r e)
  under_next f h g e q (inr d) = inr (λ z. d (z ∙ sym q))

  under_call : (f h g : ℕ) → s.q.calls f h ≡ true → s.q.root f ≡ s.q.root h → Under f g → Under h g
  under_call f h g e q u = under_next f h g (s.chosen.reach_called f h e) q u

  -- main's
  live_main : (f : ℕ) (pr : Option ℕ) (b : ℕ → Bool) → s.q.root f ≡ Main → Passing s f pr → ((g : ℕ) → b g ≡ true → s.q.root g ≡ Main) → (g : ℕ) → is_live f pr b g ≡ true → s.q.root g ≡ Main
  live_main f pr b rf ps ih g e = ⊎_elim (λ d. ap s.q.root (same_nat g f d) ∙ rf) (λ d. ⊎_elim (passed pr ps) (ih g) (or_true _ _ d)) (or_true _ _ e)
    where
      passed : (pr : Option ℕ) → Passing s f pr → passes pr g ≡ true → s.q.root g ≡ Main
      passed None ps d = absurd (cc)
      passed (Some h) ps d = ap s.q.root (same_nat g h d) ∙ sym ps.1 ∙ rf

  below_main : (f : ℕ) (st : List Waiting) → s.q.root f ≡ Main → Chain s f st → (g : ℕ) → below st g ≡ true → s.q.root g ≡ Main
  below_main f [] rf c g e = absurd (cc)
  below_main f (InLoop t r ∷ st) rf c g e = below_main f st rf c g e
  below_main f (InCall h r ∷ st) rf c g e =
      let rh : s.q.root h ≡ Main = c.1 ∙ rf in
      live_main h None (below st) rh tt (below_main h st rh c.3) g e
  below_main f (InHandler h pr r ∷ st) rf c g e = absurd (main_not_isr (s.q.root f) rf c.1)

  live_under : (f : ℕ) (b : ℕ → Bool) → ((g : ℕ) → b g ≡ true → Under f g) → (h : ℕ) → s.q.calls f h ≡ true → s.q.root f ≡ s.q.root h → (g : ℕ) → is_live f None b g ≡ true → Under h g
  live_under f b ih h e q g d = ⊎_elim (λ x. inl (subst (λ z. s.reaches z h ≡ true) (sym (same_nat g f x)) (s.chosen.reach_called f h e))) (λ x. under_call f h g e q (ih g x)) (or_true _ _ d)

  pub below_under : (f : ℕ) (st : List Waiting) → Chain s f st → (g : ℕ) → below st g ≡ true → Under f g
  below_under f [] c g e = absurd (cc)
  below_under f (InLoop t r ∷ st) c g e = below_under f st c g e
  below_under f (InCall h r ∷ st) c g e = live_under h (below st) (below_under h st c.3) f c.0 c.1 g e
  below_under f (InHandler h pr r ∷ st) c g e =
      let rg : s.q.root g ≡ Main = live_main h pr (below st) c.2 c.3 (below_main h st c.2 c.4) g e in
      inr (λ z. main_not_isr (s.q.root g) rg (z ∙ c.1))

  abbrev pub Pairs : (ℕ → Bool) → Type 0
  Pairs b = (g h : ℕ) → g ≢ h → b g ≡ true → b h ≡ true → Together g h

  turned : (g h : ℕ) → Together g h → Together h g
  turned g h (inl r) = inr (inl r)
  turned g h (inr (inl r)) = inl r
  turned g h (inr (inr d)) = inr (inr (λ z. d (sym z)))

  pub under_together : (f g : ℕ) → Under f g → Together g f
  under_together f g (inl r) = inl r
  under_together f g (inr d) = inr (inr d)

  pairs_live : (f : ℕ) (pr : Option ℕ) (b : ℕ → Bool) → Passing s f pr → ((g : ℕ) → b g ≡ true → Under f g) → Pairs b → Pairs (is_live f pr b)
  pairs_live f pr b ps u ih g h ne e d = ⊎_elim
      (λ gf. ⊎_elim (λ hf. absurd (ne (same_nat g f gf ∙ sym (same_nat h f hf)))) (λ x. turned h g (rw (same_nat g f gf) (over h x))) (or_true _ _ d))
      (λ x. ⊎_elim (λ hf. rw (same_nat h f hf) (over g x)) (λ y. two (or_true _ _ x) (or_true _ _ y)) (or_true _ _ d))
      (or_true _ _ e)
    where
      passed : (pr : Option ℕ) → Passing s f pr → (g : ℕ) → passes pr g ≡ true → (s.q.calls f g ≡ true) × (s.q.root f ≡ s.q.root g)
      passed None ps g x = absurd (cc)
      passed (Some q) ps g x = subst (λ z. (s.q.calls f z ≡ true) × (s.q.root f ≡ s.q.root z)) (sym (same_nat g q x)) ps

      one_passed : (pr : Option ℕ) → (g h : ℕ) → passes pr g ≡ true → passes pr h ≡ true → g ≡ h
      one_passed None g h x y = absurd (cc)
      one_passed (Some q) g h x y = same_nat g q x ∙ sym (same_nat h q y)

      over : (g : ℕ) → (passes pr g || b g) ≡ true → Together g f
      over g x = ⊎_elim (λ y. inr (inl (s.chosen.reach_called f g (passed pr ps g y).0))) (λ y. under_together f g (u g y)) (or_true _ _ x)

      two : (passes pr g ≡ true) ⊎ (b g ≡ true) → (passes pr h ≡ true) ⊎ (b h ≡ true) → Together g h
      two (inl x) (inl y) = absurd (ne (one_passed pr g h x y))
      two (inl x) (inr y) = let p = passed pr ps g x in turned h g (under_together g h (under_call f g h p.0 p.1 (u h y)))
      two (inr x) (inl y) = let p = passed pr ps h y in under_together h g (under_call f h g p.0 p.1 (u g x))
      two (inr x) (inr y) = ih g h ne x y

  pairs_below : (f : ℕ) (st : List Waiting) → Chain s f st → Pairs (below st)
  pairs_below f [] c g h ne e d = absurd (cc)
  pairs_below f (InLoop t r ∷ st) c g h ne e d = pairs_below f st c g h ne e d
  pairs_below f (InCall x r ∷ st) c g h ne e d = pairs_live x None (below st) tt (below_under x st c.3) (pairs_below x st c.3) g h ne e d
  pairs_below f (InHandler x pr r ∷ st) c g h ne e d = pairs_live x pr (below st) c.3 (below_under x st c.4) (pairs_below x st c.4) g h ne e d

  pub live_pairs : (f : ℕ) (pr : Option ℕ) (st : List Waiting) → Passing s f pr → Chain s f st → Pairs (is_live f pr (below st))
  live_pairs f pr st ps c = pairs_live f pr (below st) ps (below_under f st c) (pairs_below f st c)

  other_roots : (a b : Root) → a ≢ b → same_root a b ≡ false
  other_roots Main Main ne = absurd (ne refl)
  other_roots Main Isr ne = refl
  other_roots Isr Main ne = refl
  other_roots Isr Isr ne = absurd (ne refl)

  pub meet : (c d : ℕ) → c < length s.copies → d < length s.copies → Together c d → may_meet (layout s) s.reaches c d ≡ true
  meet c d h k (inl r) = or_left _ _ (or_right (not (same_root (frame (layout s) c).root (frame (layout s) d).root)) _ r)
  meet c d h k (inr (inl r)) = or_right (not (same_root (frame (layout s) c).root (frame (layout s) d).root) || s.reaches c d) _ r
  meet c d h k (inr (inr ne)) =
      let x = s.chosen.layout.roots c h in
      let y = s.chosen.layout.roots d k in
      or_left _ _ (or_left _ _ (ap not (other_roots (frame (layout s) c).root (frame (layout s) d).root (λ z. ne (sym x ∙ z ∙ y)))))

  -- ---- the layout is one to one on what is live
  abbrev pub valid_on : (ℕ → Bool) → Byte → Bool
  valid_on l (Static n k) = nat_lt k (static_bytes s.q n)
  valid_on l (Frame g y) = l g && nat_lt y (s.q.frame_bytes g)
  valid_on l (Result r k) = nat_lt k 4
  valid_on l (Device a) = false

  abbrev pub There : Byte → Type 0
  There = placed.IsThere s.q (length s.copies) s.reaches (layout s) s.chosen.layout s.chosen.laid_out

  pub there_on : (l : ℕ → Bool) → ((g : ℕ) → l g ≡ true → IsUser s g) → (b : Byte) → valid_on l b ≡ true → There b
  there_on l u (Static n k) e = lt_of k (static_bytes s.q n) e
  there_on l u (Frame g y) e =
      let h = user_below s g (u g (and_left _ _ e)) in
      let i = lt_of y (s.q.frame_bytes g) (and_right (l g) _ e) in
      let z = s.chosen.layout.frame_sizes g h in
      (h, omega (arith, i, z))
  there_on l u (Result r k) e = lt_of k 4 e
  there_on l u (Device a) e = absurd (cc)

  abbrev pub OneToOne : (ℕ → Bool) → Type 0
  OneToOne l = (b c : Byte) → valid_on l b ≡ true → valid_on l c ≡ true → slot (layout s) b ≡ slot (layout s) c → same_byte c b ≡ true

  -- where frames are those of users of which any two may meet
  one_to_one_by : (l : ℕ → Bool) → ((g : ℕ) → l g ≡ true → IsUser s g) → Pairs l → OneToOne l
  one_to_one_by l u pairs (Static n k) (Static m j) vb vc e =
      let z = placed.statics s.q (length s.copies) s.reaches (layout s) s.chosen.layout s.chosen.laid_out n k m j (lt_of _ _ vb) (lt_of _ _ vc) e in
      both _ _ (nat_same m n (sym z.0)) (nat_same j k (sym z.1))
  one_to_one_by l u pairs (Static n k) (Frame g y) vb vc e =
      let t = there_on l u (Frame g y) vc in
      absurd (placed.static_frame s.q (length s.copies) s.reaches (layout s) s.chosen.layout s.chosen.laid_out n k g y (lt_of _ _ vb) t.0 t.1 e)
  one_to_one_by l u pairs (Static n k) (Result r j) vb vc e = absurd (placed.result_static s.q (length s.copies) s.reaches (layout s) s.chosen.layout s.chosen.laid_out r j n k (lt_of _ _ vc) (lt_of _ _ vb) (sym e))
  one_to_one_by l u pairs (Static n k) (Device a) vb vc e = absurd (cc)
  one_to_one_by l u pairs (Frame g y) (Static n k) vb vc e =
      let t = there_on l u (Frame g y) vb in
      absurd (placed.static_frame s.q (length s.copies) s.reaches (layout s) s.chosen.layout s.chosen.laid_out n k g y (lt_of _ _ vc) t.0 t.1 (sym e))
  one_to_one_by l u pairs (Frame g y) (Result r j) vb vc e =
      let t = there_on l u (Frame g y) vb in
      absurd (placed.result_frame s.q (length s.copies) s.reaches (layout s) s.chosen.layout s.chosen.laid_out r j g y (lt_of _ _ vc) t.0 t.1 (sym e))
  one_to_one_by l u pairs (Frame g y) (Device a) vb vc e = absurd (cc)
  one_to_one_by l u pairs (Result r j) (Static n k) vb vc e = absurd (placed.result_static s.q (length s.copies) s.reaches (layout s) s.chosen.layout s.chosen.laid_out r j n k (lt_of _ _ vb) (lt_of _ _ vc) e)
  one_to_one_by l u pairs (Result r j) (Frame g y) vb vc e =
      let t = there_on l u (Frame g y) vc in
      absurd (placed.result_frame s.q (length s.copies) s.reaches (layout s) s.chosen.layout s.chosen.laid_out r j g y (lt_of _ _ vb) t.0 t.1 e)
  one_to_one_by l u pairs (Result r j) (Result x k) vb vc e =
      let z = placed.results s.q (length s.copies) s.reaches (layout s) s.chosen.layout s.chosen.laid_out r x j k (lt_of _ _ vb) (lt_of _ _ vc) e in
      both _ _ (ap (λ y. same_root x y) z.0 ∙ root_self x) (nat_same k j (sym z.1))
  one_to_one_by l u pairs (Result r j) (Device a) vb vc e = absurd (cc)
  one_to_one_by l u pairs (Device a) c vb vc e = absurd (cc)
  one_to_one_by l u pairs (Frame g y) (Frame h z) vb vc e = by_cases (nat_eq h g) refl
    where
      by_cases : (t : Bool) → nat_eq h g ≡ t → (nat_eq h g && nat_eq z y) ≡ true
      by_cases true t =
          let hs : h ≡ g = same_nat h g t in
          let x = there_on l u (Frame g y) vb in
          let w : (length s.copies ≡ length s.copies) × (z < (frame (layout s) g).size) = (refl, subst (λ i. z < (frame (layout s) i).size) hs (there_on l u (Frame h z) vc).1) in
          both _ _ t (nat_same z y (sym (placed.in_frame s.q (length s.copies) s.reaches (layout s) s.chosen.layout s.chosen.laid_out g y z x.0 x.1 w.1 (e ∙ ap (λ i. slot (layout s) (Frame i z)) hs))))
      by_cases false t =
          let x = there_on l u (Frame g y) vb in
          let w = there_on l u (Frame h z) vc in
          let ne : g ≢ h = (λ i. true_false (nat_eq h g) (nat_same h g (sym i)) t) in
          absurd (placed.frames s.q (length s.copies) s.reaches (layout s) s.chosen.layout s.chosen.laid_out g y h z x.0 w.0 ne (meet g h x.0 w.0 (pairs g h ne (and_left _ _ vb) (and_left _ _ vc))) x.1 w.1 e)

  pub one_to_one : (f : ℕ) (pr : Option ℕ) (st : List Waiting) → Passing s f pr → Chain s f st → OneToOne (is_live f pr (below st))
  one_to_one f pr st ps c = one_to_one_by (is_live f pr (below st)) (live_user f pr st ps c) (live_pairs f pr st ps c)

  pub there : (f : ℕ) (pr : Option ℕ) (st : List Waiting) → Passing s f pr → Chain s f st → (b : Byte) → valid_on (is_live f pr (below st)) b ≡ true → There b
  there f pr st ps c b e = there_on (is_live f pr (below st)) (live_user f pr st ps c) b e
