-- Bodies of which blocks are made, beside those that were lowered: by their numbers they are the same ones, with operators, comparisons and
-- conditions on low bytes alone. So what such a change keeps of code holds of them where it held of lowered code.
use Rattle.std.proofs.Common.{◌≡◌, ℕ, zero, suc, Bool, true, false, nat_eq, if◌then◌else◌, List, [], ◌∷◌, length, ◌≤◌, map, Option, Some, None, refl, sym, ap, ◌∙◌, subst, arith}
use Rattle.std.specs.List.{All, AllZip}
use Rattle.std.specs.Global.{Global}
use Rattle.std.specs.declared.vec.Vec.{Vec}
use Rattle.std.proofs.lemmas.List.{length-map}
use Rattle.core_code.proofs.Views.{list_again}
use Rattle.core_code.specs.Tree.{Tree, Trees, NoTree, AndTree, list_of, trees_of}
use Rattle.core_code.specs.View.{trees_in}
use Rattle.core_code.specs.declared.code.Body.{Body}
use Rattle.core_code.specs.declared.code.CoreProgram.{CoreProgram}
use Rattle.core_code.specs.declared.code.FirstByte.{FirstByte}
use Rattle.isr_save.specs.Start.{HasNumberedBytes}
use Rattle.lower_stmt.specs.FirstBytes.{items_of}
use Rattle.narrow_code.specs.Plans.{Plans, all_given, all_made}
use Rattle.narrow_code.specs.Drafts.{all_planned}
use Rattle.narrow_code.proofs.Checking.{plans_are_of_code}
use Rattle.narrow_pass.specs.Narrowed.{IsNarrowedBody, IsSameBody, AreNarrowed, ByPlans, Unchanged, IsNarrowed, lent_by}
use Rattle.select_wide.specs.Blocks.{body_at}
use Rattle.program_code.specs.Passed.{IsByteCode}

pub trees_again : (ts : Trees) → trees_of (list_of ts) ≡ ts
trees_again NoTree = refl
trees_again (AndTree t ts) = ap (λ (us : Trees). AndTree t us) (trees_again ts)

abbrev pub trees_for : Body → Trees
trees_for body = trees_of (trees_in body.code.items)

-- what is kept from one body to the other
abbrev pub Keeps : (Trees → Type 0) → Body → Body → Type 0
Keeps P given made = (made.root ≡ given.root) × (P (trees_for given) → P (trees_for made))

-- both are there, or neither
abbrev pub AreAlike : (Trees → Type 0) → Option Body → Option Body → Type 0
AreAlike P None None = Unit {0}
AreAlike P None (Some made) = ⊥
AreAlike P (Some given) None = ⊥
AreAlike P (Some given) (Some made) = Keeps P given made

module _ (P : Trees → Type 0) (kept : (ps : Plans) → P (all_given ps) → P (all_made ps)) where
  body_kept : (lent : ℕ → Bool) (given made : Body) → IsNarrowedBody lent given made → Keeps P given made
  body_kept lent given made is =
      let ts = trees_for given in
      let after : trees_for made ≡ all_made (all_planned ts is.drafts) = ap trees_of is.code ∙ trees_again (all_made (all_planned ts is.drafts)) in
      (is.root, λ holds. subst P (sym after) (kept (all_planned ts is.drafts) (subst P (sym (plans_are_of_code ts is.drafts)) holds)))

  zip_alike : (lent : ℕ → Bool) (given made : List Body) → AllZip (IsNarrowedBody lent) given made → (c : ℕ) → AreAlike P (body_at given c) (body_at made c)
  zip_alike lent [] [] z c = tt
  zip_alike lent [] (m ∷ made) z c = absurd z
  zip_alike lent (g ∷ given) [] z c = absurd z
  zip_alike lent (g ∷ given) (m ∷ made) z c = by (nat_eq g.copy c) (nat_eq m.copy c) (ap (λ (n : ℕ). nat_eq n c) z.0.copy) (zip_alike lent given made z.1 c) where
    by : (s t : Bool) → t ≡ s → AreAlike P (body_at given c) (body_at made c) → AreAlike P (if s then Some g else body_at given c) (if t then Some m else body_at made c)
    by true true e below = body_kept lent g m z.0
    by false false e below = below
    by true false e below = absurd (cc)
    by false true e below = absurd (cc)

  same_alike : (given made : List Body) → AllZip IsSameBody given made → (c : ℕ) → AreAlike P (body_at given c) (body_at made c)
  same_alike [] [] z c = tt
  same_alike [] (m ∷ made) z c = absurd z
  same_alike (g ∷ given) [] z c = absurd z
  same_alike (g ∷ given) (m ∷ made) z c = by (nat_eq g.copy c) (nat_eq m.copy c) (ap (λ (n : ℕ). nat_eq n c) z.0.copy) (same_alike given made z.1 c) where
    by : (s t : Bool) → t ≡ s → AreAlike P (body_at given c) (body_at made c) → AreAlike P (if s then Some g else body_at given c) (if t then Some m else body_at made c)
    by true true e below = (z.0.root, λ holds. subst (λ (l : List Tree). P (trees_of l)) (sym z.0.code) holds)
    by false false e below = below
    by true false e below = absurd (cc)
    by false true e below = absurd (cc)

  all_alike : (given made : List Body) → AreNarrowed given made → (c : ℕ) → AreAlike P (body_at given c) (body_at made c)
  all_alike given made (ByPlans flags z) c = zip_alike (lent_by flags) given made z c
  all_alike given made (Unchanged z) c = same_alike given made z c

  chained : (a b c : Option Body) → AreAlike P a b → AreAlike P b c → AreAlike P a c
  chained None None c first second = second
  chained None (Some m) c first second = absurd first
  chained (Some g) None c first second = absurd first
  chained (Some g) (Some m) None first second = absurd second
  chained (Some g) (Some m) (Some n) first second = (second.0 ∙ first.0, λ holds. second.1 (first.1 holds))

  pub alike : (lowered core : CoreProgram) → IsByteCode lowered core → (c : ℕ) → AreAlike P (body_at lowered.bodies.items c) (body_at core.bodies.items c)
  alike lowered core code c =
      chained (body_at lowered.bodies.items c) (body_at code.between.bodies.items c) (body_at core.bodies.items c) (all_alike lowered.bodies.items code.between.bodies.items code.narrowed.bodies c)
      (all_alike code.between.bodies.items core.bodies.items code.tested.bodies c)

  -- so each body comes from one of its number,
  pub record IsFrom (lowered : List Body) (c : ℕ) (body : Body) : Type 0 where
    pub given : Body
    pub there : body_at lowered c ≡ Some given
    pub root : body.root ≡ given.root
    pub keeps : P (trees_for given) → P (trees_for body)

  pub is_from : (lowered core : CoreProgram) → IsByteCode lowered core → (c : ℕ) (body : Body) → body_at core.bodies.items c ≡ Some body → IsFrom lowered.bodies.items c body
  is_from lowered core code c body is = by (body_at lowered.bodies.items c) refl (subst (AreAlike P (body_at lowered.bodies.items c)) is (alike lowered core code c)) where
    by : (o : Option Body) → body_at lowered.bodies.items c ≡ o → AreAlike P o (Some body) → IsFrom lowered.bodies.items c body
    by None e h = absurd h
    by (Some given) e h = record { given = given; there = e; root = h.0; keeps = h.1 }

  -- and each becomes one
  pub record IsBecome (core : List Body) (c : ℕ) (given : Body) : Type 0 where
    pub body : Body
    pub there : body_at core c ≡ Some body
    pub root : body.root ≡ given.root
    pub keeps : P (trees_for given) → P (trees_for body)

  pub becomes : (lowered core : CoreProgram) → IsByteCode lowered core → (c : ℕ) (given : Body) → body_at lowered.bodies.items c ≡ Some given → IsBecome core.bodies.items c given
  becomes lowered core code c given is = by (body_at core.bodies.items c) refl (subst (λ (o : Option Body). AreAlike P o (body_at core.bodies.items c)) is (alike lowered core code c)) where
    by : (o : Option Body) → body_at core.bodies.items c ≡ o → AreAlike P (Some given) o → IsBecome core.bodies.items c given
    by None e h = absurd h
    by (Some body) e h = record { body = body; there = e; root = h.0; keeps = h.1 }

-- ---- first bytes
pub statics_kept : (lowered core : CoreProgram) → IsByteCode lowered core → map items_of core.statics.items ≡ map items_of lowered.statics.items
statics_kept lowered core code = code.tested.statics ∙ code.narrowed.statics

-- static objects are as many, and have as many bytes
pub few_kept : (lowered core : CoreProgram) → IsByteCode lowered core → length core.statics.items ≡ length lowered.statics.items
few_kept lowered core code = sym (length-map core.statics.items items_of) ∙ ap length (statics_kept lowered core code) ∙ length-map lowered.statics.items items_of

first_or : List FirstByte → List (List FirstByte) → List FirstByte
first_or d [] = d
first_or d (z ∷ zs) = z

rest_of : List (List FirstByte) → List (List FirstByte)
rest_of [] = []
rest_of (z ∷ zs) = zs

short_alike : (xs ys : List (Vec FirstByte Global)) → map items_of xs ≡ map items_of ys → All HasNumberedBytes ys → All HasNumberedBytes xs
unfolding first_or rest_of
short_alike [] ys same all k d lt = absurd (omega arith)
short_alike (x ∷ xs) [] same all k d lt = absurd (cc)
short_alike (x ∷ xs) (y ∷ ys) same all zero d lt = subst (λ (list : List FirstByte). length list ≤ 65536) (sym (ap (first_or []) same)) (all 0 d (omega arith))
short_alike (x ∷ xs) (y ∷ ys) same all (suc k) d lt = short_alike xs ys (ap rest_of same) (λ j e l. all (suc j) e (omega arith)) k d (omega arith)

pub short_kept : (lowered core : CoreProgram) → IsByteCode lowered core → All HasNumberedBytes lowered.statics.items → All HasNumberedBytes core.statics.items
short_kept lowered core code all = short_alike core.statics.items lowered.statics.items (statics_kept lowered core code) all

-- ---- byte code as it is lowered
all_same : (bodies : List Body) → AllZip IsSameBody bodies bodies
all_same [] = tt
all_same (b ∷ bodies) = (record { copy = refl; root = refl; code = refl }, all_same bodies)

unchanged : (core : CoreProgram) → IsNarrowed core core
unchanged core = record { statics = refl; bodies = Unchanged (all_same core.bodies.items) }

pub as_lowered : (core : CoreProgram) → IsByteCode core core
as_lowered core = record { between = core; narrowed = unchanged core; tested = unchanged core }
