-- Marks of types by rounds are the tests of as many levels.
use Rattle.std.proofs.Common.{◌≡◌, ℕ, zero, suc, ◌+◌, ◌<◌, ◌≤◌, Bool, true, false, ◌||◌, List, [], ◌∷◌, ◌++◌, length, get_or, replicate, map, take, drop, refl, sym, ap, ◌∙◌}
use Rattle.std.proofs.lemmas.List.{at_drop_more, drop_all, map_more}
use Rattle.std.specs.List.{list_any}
use Rattle.std.specs.Prelude.{slice_get}
use Rattle.c_typed.specs.Trees.{MemberTree, Program}
use Rattle.c_typed.specs.Views.{member_of}
use Rattle.c_typed.specs.declared.types.Member.{Member}
use Rattle.c_typed.specs.declared.types.Qualified.{Qualified}
use Rattle.c_typed.specs.declared.types.Ty.{Ty}
use Rattle.c_typed.specs.declared.types.Ty.TheVariants.{Void, Int, Pointer, Array, Struct}
use Rattle.vol_opt.specs.Kept.{has_member, passes, has_part, is_volatile_within}
use Rattle.vol_opt.specs.Marks.{part_marked, type_marked, targets_within, structures_within}

mark_of : {A : Type 0} (f : A → Bool) (xs : List A) (i : ℕ) → get_or (map f xs) i false ≡ passes f (slice_get xs i)
mark_of f [] i = refl
mark_of f (x ∷ xs) zero = refl
mark_of f (x ∷ xs) (suc i) = mark_of f xs i

map_same : {A : Type 0} (f g : A → Bool) → ((x : A) → f x ≡ g x) → (xs : List A) → map f xs ≡ map g xs
map_same f g h [] = refl
map_same f g h (x ∷ xs) = ap (λ (b : Bool). b ∷ map f xs) (h x) ∙ ap (λ (bs : List Bool). g x ∷ bs) (map_same f g h xs)

members_same : (f g : Qualified → Bool) → ((q : Qualified) → f q ≡ g q) → (ms : List MemberTree) → list_any (λ (m : MemberTree). f m.ty) ms ≡ list_any (λ (m : MemberTree). g m.ty) ms
members_same f g h [] = refl
members_same f g h (m ∷ ms) = ap (λ (b : Bool). b || list_any (λ (m : MemberTree). f m.ty) ms) (h m.ty) ∙ ap (λ (b : Bool). g m.ty || b) (members_same f g h ms)

part_same : (p : Program) (k : ℕ) (ty : Ty) → part_marked (targets_within p k) (structures_within p k) ty ≡ has_part p (is_volatile_within p k) ty
part_same p k Void = refl
part_same p k (Int ty) = refl
part_same p k (Pointer target) = refl
part_same p k (Array element count size) = mark_of (is_volatile_within p k) p.targets element
part_same p k (Struct number) = mark_of (has_member (is_volatile_within p k)) p.structures number

pub type_same : (p : Program) (k : ℕ) (q : Qualified) → type_marked (targets_within p k) (structures_within p k) q ≡ is_volatile_within p (suc k) q
unfolding is_volatile_within
type_same p k q = ap (λ (b : Bool). q.volatile || b) (part_same p k q.ty)

-- ---- the first marks
all_false : {A : Type 0} (f : A → Bool) → ((x : A) → f x ≡ false) → (xs : List A) → replicate (length xs) false ≡ map f xs
all_false f h [] = refl
all_false f h (x ∷ xs) = ap (λ (b : Bool). b ∷ replicate (length xs) false) (sym (h x)) ∙ ap (λ (bs : List Bool). f x ∷ bs) (all_false f h xs)

pub first_targets : (p : Program) (marks : List Bool) (count : ℕ) → count ≡ length p.targets → marks ≡ replicate count false → marks ≡ targets_within p 0
unfolding is_volatile_within
first_targets p marks count n is = is ∙ ap (λ (k : ℕ). replicate k false) n ∙ all_false (is_volatile_within p 0) (λ q. refl) p.targets

no_member : (p : Program) (ms : List MemberTree) → list_any (λ (m : MemberTree). is_volatile_within p 0 m.ty) ms ≡ false
unfolding is_volatile_within
no_member p [] = refl
no_member p (m ∷ ms) = no_member p ms

pub first_structures : (p : Program) (marks : List Bool) (count : ℕ) → count ≡ length p.structures → marks ≡ replicate count false → marks ≡ structures_within p 0
first_structures p marks count n is = is ∙ ap (λ (k : ℕ). replicate k false) n ∙ all_false (has_member (is_volatile_within p 0)) (λ s. no_member p s.members) p.structures

-- ---- one round
module _ (p : Program) (k : ℕ) (targets structures : List Bool) (t : targets ≡ targets_within p k) (s : structures ≡ structures_within p k) where
  pub one_type : (q : Qualified) → type_marked targets structures q ≡ is_volatile_within p (suc k) q
  one_type q = ap (λ (ts : List Bool). type_marked ts structures q) t ∙ ap (λ (ss : List Bool). type_marked (targets_within p k) ss q) s ∙ type_same p k q

  pub next_targets : (n : ℕ) → n ≡ suc k → map (type_marked targets structures) p.targets ≡ targets_within p n
  next_targets n is = map_same (type_marked targets structures) (is_volatile_within p (suc k)) one_type p.targets ∙ ap (targets_within p) (sym is)

  pub next_structures : (n : ℕ) → n ≡ suc k → map (has_member (type_marked targets structures)) p.structures ≡ structures_within p n
  next_structures n is = map_same (has_member (type_marked targets structures)) (has_member (is_volatile_within p (suc k))) (λ x. members_same (type_marked targets structures) (is_volatile_within p (suc k)) one_type x.members) p.structures ∙ ap (structures_within p) (sym is)

-- ---- a member that is marked
module _ (test : Qualified → Bool) where
  abbrev pub any_in : List Member → Bool
  any_in ms = list_any (λ (m : MemberTree). test m.ty) (map member_of ms)

  next_of : (ms : List Member) (i : ℕ) (m : Member) → i < length ms → m ≡ get_or ms i m → any_in (drop i ms) ≡ (test m.ty || any_in (drop (i + 1) ms))
  next_of ms i m lt is = at_drop_more any_in ms i m lt ∙ ap (λ (n : Member). test n.ty || any_in (drop (i + 1) ms)) (sym is)

  pub goes_on : (ms : List Member) (i : ℕ) (m : Member) (whole : Bool) → i < length ms → m ≡ get_or ms i m → test m.ty ≡ false → any_in (drop i ms) ≡ whole → any_in (drop (i + 1) ms) ≡ whole
  goes_on ms i m whole lt is fails so_far = sym (next_of ms i m lt is ∙ ap (λ b. b || any_in (drop (i + 1) ms)) fails) ∙ so_far

  pub found : (ms : List Member) (i : ℕ) (m : Member) (whole : Bool) → i < length ms → m ≡ get_or ms i m → test m.ty ≡ true → any_in (drop i ms) ≡ whole → true ≡ whole
  found ms i m whole lt is passes so_far = sym (next_of ms i m lt is ∙ ap (λ b. b || any_in (drop (i + 1) ms)) passes) ∙ so_far

  pub nowhere : (ms : List Member) (i : ℕ) (whole : Bool) → length ms ≤ i → any_in (drop i ms) ≡ whole → false ≡ whole
  nowhere ms i whole past so_far = sym (ap any_in (drop_all i ms past)) ∙ so_far

-- ---- a value for each element
twice : {A B : Type 0} (f : B → Bool) (g : A → B) (xs : List A) → map f (map g xs) ≡ map (λ (x : A). f (g x)) xs
twice f g [] = refl
twice f g (x ∷ xs) = ap (λ (bs : List Bool). f (g x) ∷ bs) (twice f g xs)

pub pushed : {A B : Type 0} (f : B → Bool) (g : A → B) (xs : List A) (i : ℕ) (x : A) (v : Bool) (old now : List Bool) → i < length xs → x ≡ get_or xs i x → v ≡ f (g x) → old ≡ map f (map g (take i xs)) → now ≡ old ++ v ∷ [] → now ≡ map f (map g (take (i + 1) xs))
pushed {A} f g xs i x v old now lt is value so_far put =
    put
    ∙ ap (λ (bs : List Bool). bs ++ v ∷ []) (so_far ∙ twice f g (take i xs))
    ∙ ap (λ (b : Bool). map (λ (y : A). f (g y)) (take i xs) ++ b ∷ []) (value ∙ ap (λ (y : A). f (g y)) is)
    ∙ sym (map_more (λ (y : A). f (g y)) xs i x lt)
    ∙ sym (twice f g (take (i + 1) xs))
