-- A volatile part is found within as many levels as there are types that can be parts.
use Rattle.std.proofs.Common.{◌≡◌, ◌⊎◌, inl, inr, ⊎_elim, ℕ, zero, suc, ◌+◌, ◌-◌, ◌<◌, ◌≤◌, Bool, true, false, ◌||◌, if◌then◌else◌, List, [], ◌∷◌, Option, Some, None, length, slice_get, refl, sym, ap, ◌∙◌, arith}
use Rattle.std.proofs.lemmas.Bool.{cases_lt, false≢true}
use Rattle.std.specs.List.{list_any}
use Rattle.std.specs.Prelude.{nat_lt}
use Rattle.c_typed.specs.Trees.{MemberTree, StructureTree, Program}
use Rattle.c_typed.specs.declared.types.Qualified.{Qualified}
use Rattle.c_typed.specs.declared.types.Ty.{Ty}
use Rattle.c_typed.specs.declared.types.Ty.TheVariants.{Void, Int, Pointer, Array, Struct}
use Rattle.vol_opt.specs.Kept.{has_member, passes, has_part, is_volatile_within, part_count}
use Rattle.vol_opt.specs.Laws.{AnyDepthCounts}
use Rattle.vol_opt.proofs.Rounds.{found_in_time}

pub left_or : (a b : Bool) → a ≡ true → (a || b) ≡ true
left_or a b e = ap (λ (c : Bool). c || b) e

pub right_or : (a b : Bool) → b ≡ true → (a || b) ≡ true
right_or true b e = refl
right_or false b e = e

pub either_or : (a b : Bool) → (a || b) ≡ true → (a ≡ true) ⊎ (b ≡ true)
either_or true b e = inl refl
either_or false b e = inr e

pub or_grows : (a b c : Bool) → (b ≡ true → c ≡ true) → (a || b) ≡ true → (a || c) ≡ true
or_grows true b c h e = refl
or_grows false b c h e = h e

-- ---- a test that another one implies
module _ (f g : Qualified → Bool) (grows : (q : Qualified) → f q ≡ true → g q ≡ true) where
  members_grow : (ms : List MemberTree) → list_any (λ (m : MemberTree). f m.ty) ms ≡ true → list_any (λ (m : MemberTree). g m.ty) ms ≡ true
  members_grow [] e = e
  members_grow (m ∷ ms) e =
      ⊎_elim
      (λ here. left_or (g m.ty) (list_any (λ (m : MemberTree). g m.ty) ms) (grows m.ty here))
      (λ rest. right_or (g m.ty) (list_any (λ (m : MemberTree). g m.ty) ms) (members_grow ms rest))
      (either_or (f m.ty) (list_any (λ (m : MemberTree). f m.ty) ms) e)

  member_grows : (s : StructureTree) → has_member f s ≡ true → has_member g s ≡ true
  member_grows s e = members_grow s.members e

  pass_grows : {A : Type 0} (a b : A → Bool) → ((x : A) → a x ≡ true → b x ≡ true) → (o : Option A) → passes a o ≡ true → passes b o ≡ true
  pass_grows a b h None e = e
  pass_grows a b h (Some x) e = h x e

  part_grows : (p : Program) (ty : Ty) → has_part p f ty ≡ true → has_part p g ty ≡ true
  part_grows p Void e = e
  part_grows p (Int ty) e = e
  part_grows p (Pointer target) e = e
  part_grows p (Array element count size) e = pass_grows f g grows (slice_get p.targets element) e
  part_grows p (Struct number) e = pass_grows (has_member f) (has_member g) member_grows (slice_get p.structures number) e

module _ (p : Program) where
  within_grows : (k : ℕ) (q : Qualified) → is_volatile_within p k q ≡ true → is_volatile_within p (suc k) q ≡ true
  unfolding is_volatile_within
  within_grows zero q e = absurd (false≢true e)
  within_grows (suc k) q e = or_grows q.volatile _ _ (part_grows (is_volatile_within p k) (is_volatile_within p (suc k)) (within_grows k) p q.ty) e

  -- ---- the types that can be parts: those of elements, and behind them the structures
  pub mark_in : (Qualified → Bool) → ℕ → Bool
  mark_in test i = if nat_lt i (length p.targets) then passes test (slice_get p.targets i) else passes (has_member test) (slice_get p.structures (i - length p.targets))

  mark_grows : (k i : ℕ) → mark_in (is_volatile_within p k) i ≡ true → mark_in (is_volatile_within p (suc k)) i ≡ true
  unfolding mark_in
  mark_grows k i e = by (nat_lt i (length p.targets)) e where
    by : (b : Bool) → (if b then passes (is_volatile_within p k) (slice_get p.targets i) else passes (has_member (is_volatile_within p k)) (slice_get p.structures (i - length p.targets))) ≡ true
        → (if b then passes (is_volatile_within p (suc k)) (slice_get p.targets i) else passes (has_member (is_volatile_within p (suc k))) (slice_get p.structures (i - length p.targets))) ≡ true
    by true e = pass_grows (is_volatile_within p k) (is_volatile_within p (suc k)) (within_grows k) (is_volatile_within p k) (is_volatile_within p (suc k)) (within_grows k) (slice_get p.targets i) e
    by false e = pass_grows (is_volatile_within p k) (is_volatile_within p (suc k)) (within_grows k) (has_member (is_volatile_within p k)) (has_member (is_volatile_within p (suc k))) (member_grows (is_volatile_within p k) (is_volatile_within p (suc k)) (within_grows k)) (slice_get p.structures (i - length p.targets)) e

  -- two tests that agree on all parts
  abbrev AgreeOn : (Qualified → Bool) → (Qualified → Bool) → Type 0
  AgreeOn f g = (i : ℕ) → i < part_count p → mark_in g i ≡ mark_in f i

  past_none : {A : Type 0} (xs : List A) (n : ℕ) → length xs ≤ n → slice_get xs n ≡ None
  past_none [] n l = refl
  past_none (x ∷ xs) zero l = absurd (omega arith)
  past_none (x ∷ xs) (suc n) l = past_none xs n (omega arith)

  target_mark : (test : Qualified → Bool) (i : ℕ) → i < length p.targets → mark_in test i ≡ passes test (slice_get p.targets i)
  unfolding mark_in
  target_mark test i l = let e : nat_lt i (length p.targets) ≡ true = grind arith in ap (λ (b : Bool). if b then passes test (slice_get p.targets i) else passes (has_member test) (slice_get p.structures (i - length p.targets))) e

  structure_mark : (test : Qualified → Bool) (i : ℕ) → mark_in test (length p.targets + i) ≡ passes (has_member test) (slice_get p.structures i)
  unfolding mark_in
  structure_mark test i =
      let e : nat_lt (length p.targets + i) (length p.targets) ≡ false = grind arith in
      let f : length p.targets + i - length p.targets ≡ i = omega arith in
      ap (λ (b : Bool). if b then passes test (slice_get p.targets (length p.targets + i)) else passes (has_member test) (slice_get p.structures (length p.targets + i - length p.targets))) e ∙ ap (λ (n : ℕ). passes (has_member test) (slice_get p.structures n)) f

  element_agrees : (f g : Qualified → Bool) → AgreeOn f g → (i : ℕ) → passes g (slice_get p.targets i) ≡ passes f (slice_get p.targets i)
  element_agrees f g h i =
      ⊎_elim
      (λ lt. sym (target_mark g i lt) ∙ h i (omega arith) ∙ target_mark f i lt)
      (λ ge. ap (λ (o : Option Qualified). passes g o) (past_none p.targets i ge) ∙ sym (ap (λ (o : Option Qualified). passes f o) (past_none p.targets i ge)))
      (cases_lt i (length p.targets))

  struct_agrees : (f g : Qualified → Bool) → AgreeOn f g → (i : ℕ) → passes (has_member g) (slice_get p.structures i) ≡ passes (has_member f) (slice_get p.structures i)
  struct_agrees f g h i =
      ⊎_elim
      (λ lt. sym (structure_mark g i) ∙ h (length p.targets + i) (omega arith) ∙ structure_mark f i)
      (λ ge. ap (λ (o : Option StructureTree). passes (has_member g) o) (past_none p.structures i ge) ∙ sym (ap (λ (o : Option StructureTree). passes (has_member f) o) (past_none p.structures i ge)))
      (cases_lt i (length p.structures))

  part_agrees : (f g : Qualified → Bool) → AgreeOn f g → (ty : Ty) → has_part p g ty ≡ has_part p f ty
  part_agrees f g h Void = refl
  part_agrees f g h (Int ty) = refl
  part_agrees f g h (Pointer target) = refl
  part_agrees f g h (Array element count size) = element_agrees f g h element
  part_agrees f g h (Struct number) = struct_agrees f g h number

  within_agrees : (k : ℕ) → AgreeOn (is_volatile_within p k) (is_volatile_within p (suc k)) → (q : Qualified) → is_volatile_within p (suc (suc k)) q ≡ is_volatile_within p (suc k) q
  unfolding is_volatile_within
  within_agrees k h q = ap (λ (b : Bool). q.volatile || b) (part_agrees (is_volatile_within p k) (is_volatile_within p (suc k)) h q.ty)

  pass_same : {A : Type 0} (f g : A → Bool) → ((x : A) → g x ≡ f x) → (o : Option A) → passes g o ≡ passes f o
  pass_same f g h None = refl
  pass_same f g h (Some x) = h x

  members_same : (f g : Qualified → Bool) → ((q : Qualified) → g q ≡ f q) → (ms : List MemberTree) → list_any (λ (m : MemberTree). g m.ty) ms ≡ list_any (λ (m : MemberTree). f m.ty) ms
  members_same f g h [] = refl
  members_same f g h (m ∷ ms) = ap (λ (b : Bool). b || list_any (λ (m : MemberTree). g m.ty) ms) (h m.ty) ∙ ap (λ (b : Bool). f m.ty || b) (members_same f g h ms)

  mark_same : (f g : Qualified → Bool) → ((q : Qualified) → g q ≡ f q) → (i : ℕ) → mark_in g i ≡ mark_in f i
  unfolding mark_in
  mark_same f g h i = by (nat_lt i (length p.targets)) where
    by : (b : Bool) → (if b then passes g (slice_get p.targets i) else passes (has_member g) (slice_get p.structures (i - length p.targets)))
        ≡ (if b then passes f (slice_get p.targets i) else passes (has_member f) (slice_get p.structures (i - length p.targets)))
    by true = pass_same f g h (slice_get p.targets i)
    by false = pass_same (has_member f) (has_member g) (λ s. members_same f g h s.members) (slice_get p.structures (i - length p.targets))

  in_time : (n i : ℕ) → i < part_count p → mark_in (is_volatile_within p n) i ≡ true → mark_in (is_volatile_within p (part_count p)) i ≡ true
  in_time n i l h =
      found_in_time (part_count p) (λ k i. mark_in (is_volatile_within p k) i) mark_grows
      (λ k still i l. mark_same (is_volatile_within p (suc k)) (is_volatile_within p (suc (suc k))) (within_agrees k still) i)
      n i l h

  element_in_time : (n i : ℕ) → passes (is_volatile_within p n) (slice_get p.targets i) ≡ true → passes (is_volatile_within p (part_count p)) (slice_get p.targets i) ≡ true
  element_in_time n i h =
      ⊎_elim
      (λ lt. sym (target_mark (is_volatile_within p (part_count p)) i lt) ∙ in_time n i (omega arith) (target_mark (is_volatile_within p n) i lt ∙ h))
      (λ ge. absurd (false≢true (sym (ap (λ (o : Option Qualified). passes (is_volatile_within p n) o) (past_none p.targets i ge)) ∙ h)))
      (cases_lt i (length p.targets))

  struct_in_time : (n i : ℕ) → passes (has_member (is_volatile_within p n)) (slice_get p.structures i) ≡ true → passes (has_member (is_volatile_within p (part_count p))) (slice_get p.structures i) ≡ true
  struct_in_time n i h =
      ⊎_elim
      (λ lt. sym (structure_mark (is_volatile_within p (part_count p)) i) ∙ in_time n (length p.targets + i) (omega arith) (structure_mark (is_volatile_within p n) i ∙ h))
      (λ ge. absurd (false≢true (sym (ap (λ (o : Option StructureTree). passes (has_member (is_volatile_within p n)) o) (past_none p.structures i ge)) ∙ h)))
      (cases_lt i (length p.structures))

  part_in_time : (n : ℕ) (ty : Ty) → has_part p (is_volatile_within p n) ty ≡ true → has_part p (is_volatile_within p (part_count p)) ty ≡ true
  part_in_time n Void e = e
  part_in_time n (Int ty) e = e
  part_in_time n (Pointer target) e = e
  part_in_time n (Array element count size) e = element_in_time n element e
  part_in_time n (Struct number) e = struct_in_time n number e

pub any_depth : AnyDepthCounts
unfolding is_volatile_within
any_depth p q zero e = absurd (false≢true e)
any_depth p q (suc n) e = or_grows q.volatile _ _ (part_in_time p n q.ty) e
