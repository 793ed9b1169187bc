-- The start block with its selects, taken apart where its jumps and labels are.
use Rattle.std.proofs.Common.{◌≡◌, ℕ, suc, ◌+◌, ◌<◌, ◌≤◌, Bool, true, false, List, [], ◌∷◌, ◌++◌, length, map, Option, Some, None, refl, sym, ap, ◌∙◌, subst, arith}
use Rattle.std.specs.Prelude.{not, ◌&&◌, if◌then◌else◌, nat_eq, slice_index_or}
use Rattle.std.specs.Global.{Global}
use Rattle.std.specs.declared.vec.Vec.{Vec}
use Rattle.std.proofs.lemmas.List.{length-map}
use Rattle.core_code.specs.FirstBytes.{first_held}
use Rattle.core_code.specs.declared.code.Byte.TheVariants.{Static}
use Rattle.core_code.specs.declared.code.FirstByte.{FirstByte}
use Rattle.core_code.specs.declared.code.FirstByte.TheVariants as firsts
use Rattle.pic_map.specs.declared.Placed.{Placed}
use Rattle.sym_code.specs.Layout.{object}
use Rattle.sym_code.specs.Programs.{same_label, label_from}
use Rattle.sym_code.specs.Selects.{is_select, bare}
use Rattle.sym_code.specs.declared.code.BankBit.TheVariants.{Rp0, Rp1, Irp}
use Rattle.sym_code.specs.declared.code.BlockName.TheVariants.{Start}
use Rattle.sym_code.specs.declared.code.Label.{Label}
use Rattle.sym_code.specs.declared.code.Sym.{Sym}
use Rattle.sym_code.specs.declared.code.Sym.TheVariants as syms
use Rattle.isr_save.specs.Start.{byte_code, object_code, objects_code}
use Rattle.code_place.specs.Layouts.{layout_of}
use Rattle.bank_page.specs.Selected.{all_pass, seen}
use Rattle.bank_page.specs.declared.known.Known.{Known}
use Rattle.bank_page.specs.declared.selecting.State.{State as Selecting}
use Rattle.chip_trace.proofs.Sound.{left_of, right_of}
use Rattle.chip_trace.specs.Starting.{held_in}
use Rattle.chip_trace.proofs.StartSteps.{OfRp0, OfRp1, OfPage, Load, Store, Clear, sym_of}
use Rattle.chip_trace.proofs.StartWalk.{Fine, AreFine, state_behind}

-- ---- lists without selects
pub record Split (xs ys : List Sym) (z : Sym) (zs : List Sym) : Type 0 where
  pub pre : List Sym
  pub post : List Sym
  pub whole : xs ≡ pre ++ z ∷ post
  pub front : bare pre ≡ ys
  pub behind : bare post ≡ zs

head_of : Sym → List Sym → Sym
head_of d [] = d
head_of d (x ∷ xs) = x

tail_of : List Sym → List Sym
tail_of [] = []
tail_of (x ∷ xs) = xs

heads : (x y : Sym) (xs ys : List Sym) → x ∷ xs ≡ y ∷ ys → x ≡ y
unfolding head_of
heads x y xs ys e = ap (head_of x) e

tails : (x y : Sym) (xs ys : List Sym) → x ∷ xs ≡ y ∷ ys → xs ≡ ys
unfolding tail_of
tails x y xs ys e = ap tail_of e

bare_select : (x : Sym) (xs : List Sym) → is_select x ≡ true → bare (x ∷ xs) ≡ bare xs
bare_select x xs e = ap (λ b. if not b then x ∷ bare xs else bare xs) e

bare_other : (x : Sym) (xs : List Sym) → is_select x ≡ false → bare (x ∷ xs) ≡ x ∷ bare xs
bare_other x xs e = ap (λ b. if not b then x ∷ bare xs else bare xs) e

split_other : (x : Sym) (xs ys : List Sym) (z : Sym) (zs : List Sym) → ((vs : List Sym) → bare xs ≡ vs ++ z ∷ zs → Split xs vs z zs) → is_select x ≡ false → x ∷ bare xs ≡ ys ++ z ∷ zs → Split (x ∷ xs) ys z zs
split_other x xs [] z zs rest f e = record { pre = []; post = xs; whole = ap (λ v. v ∷ xs) (heads x z (bare xs) zs e); front = refl; behind = tails x z (bare xs) zs e }
split_other x xs (y ∷ ys) z zs rest f e =
    let r = rest ys (tails x y (bare xs) (ys ++ z ∷ zs) e) in
    record {
      pre = x ∷ r.pre;
      post = r.post;
      whole = ap (λ v. x ∷ v) r.whole;
      front = bare_other x r.pre f ∙ ap (λ v. x ∷ v) r.front ∙ ap (λ v. v ∷ ys) (heads x y (bare xs) (ys ++ z ∷ zs) e);
      behind = r.behind;
    }

split_on : (x : Sym) (xs ys : List Sym) (z : Sym) (zs : List Sym) → ((vs : List Sym) → bare xs ≡ vs ++ z ∷ zs → Split xs vs z zs) → (b : Bool) → is_select x ≡ b → bare (x ∷ xs) ≡ ys ++ z ∷ zs → Split (x ∷ xs) ys z zs
split_on x xs ys z zs rest true f e =
    let r = rest ys (sym (bare_select x xs f) ∙ e) in
    record { pre = x ∷ r.pre; post = r.post; whole = ap (λ v. x ∷ v) r.whole; front = bare_select x r.pre f ∙ r.front; behind = r.behind }
split_on x xs ys z zs rest false f e = split_other x xs ys z zs rest f (sym (bare_other x xs f) ∙ e)

pub split : (xs ys : List Sym) (z : Sym) (zs : List Sym) → bare xs ≡ ys ++ z ∷ zs → Split xs ys z zs
split [] [] z zs e = absurd (cc)
split [] (y ∷ ys) z zs e = absurd (cc)
split (x ∷ xs) ys z zs e = split_on x xs ys z zs (λ vs f. split xs vs z zs f) (is_select x) refl e

-- ---- a label that isn't there
label_if : (b : Bool) (m : ℕ) (o : Option ℕ) → (if b then Some m else o) ≡ None → (b ≡ false) × (o ≡ None)
label_if true m o e = absurd (cc)
label_if false m o e = (refl, e)

pub no_label : (xs : List Sym) (label : Label) (m n : ℕ) → label_from (bare xs) label m ≡ None → label_from xs label n ≡ None
no_label [] label m n e = refl
no_label (syms.Label a ∷ xs) label m n e =
    let q = label_if (same_label a label) m (label_from (bare xs) label (m + 1)) e in
    ap (λ b. if b then Some n else label_from xs label (n + 1)) q.0 ∙ no_label xs label (m + 1) (n + 1) q.1
no_label (syms.SelectBank Rp0 b ∷ xs) label m n e = no_label xs label m (n + 1) e
no_label (syms.SelectBank Rp1 b ∷ xs) label m n e = no_label xs label m (n + 1) e
no_label (syms.SelectBank Irp b ∷ xs) label m n e = no_label xs label (m + 1) (n + 1) e
no_label (syms.SelectPage a b ∷ xs) label m n e = no_label xs label m (n + 1) e
no_label (syms.File a b d ∷ xs) label m n e = no_label xs label (m + 1) (n + 1) e
no_label (syms.Movwf a ∷ xs) label m n e = no_label xs label (m + 1) (n + 1) e
no_label (syms.Clrf a ∷ xs) label m n e = no_label xs label (m + 1) (n + 1) e
no_label (syms.Bit a b d ∷ xs) label m n e = no_label xs label (m + 1) (n + 1) e
no_label (syms.Literal a b ∷ xs) label m n e = no_label xs label (m + 1) (n + 1) e
no_label (syms.Plain a ∷ xs) label m n e = no_label xs label (m + 1) (n + 1) e
no_label (syms.Call a ∷ xs) label m n e = no_label xs label (m + 1) (n + 1) e
no_label (syms.Goto a ∷ xs) label m n e = no_label xs label (m + 1) (n + 1) e
no_label (syms.Table table root ∷ xs) label m n e = no_label xs label (m + 1) (n + 1) e

-- ---- a test along a list in two parts
pub pass_both : (test : Known → Sym → Bool) (xs ys : List Sym) (st : Selecting) → all_pass test Start st (xs ++ ys) ≡ true → (all_pass test Start st xs ≡ true) × (all_pass test Start (state_behind st xs) ys ≡ true)
pass_both test [] ys st e = (refl, e)
pass_both test (x ∷ xs) ys st e =
    let a = left_of (test st.known x) (all_pass test Start (seen Start st x) (xs ++ ys)) e in
    let r = pass_both test xs ys (seen Start st x) (right_of (test st.known x) (all_pass test Start (seen Start st x) (xs ++ ys)) e) in
    (ap (λ b. b && all_pass test Start (seen Start st x) xs) a ∙ r.0, r.1)

-- ---- which kinds there are
module _ (placed : Placed) where
  select_fine : (x : Sym) → is_select x ≡ true → Fine placed x
  select_fine (syms.SelectBank Rp0 b) e = record { kind = OfRp0 b; is = refl; fits = tt }
  select_fine (syms.SelectBank Rp1 b) e = record { kind = OfRp1 b; is = refl; fits = tt }
  select_fine (syms.SelectBank Irp b) e = absurd (cc)
  select_fine (syms.SelectPage a b) e = record { kind = OfPage a b; is = refl; fits = tt }
  select_fine (syms.Label a) e = absurd (cc)
  select_fine (syms.File a b d) e = absurd (cc)
  select_fine (syms.Movwf a) e = absurd (cc)
  select_fine (syms.Clrf a) e = absurd (cc)
  select_fine (syms.Bit a b d) e = absurd (cc)
  select_fine (syms.Literal a b) e = absurd (cc)
  select_fine (syms.Plain a) e = absurd (cc)
  select_fine (syms.Call a) e = absurd (cc)
  select_fine (syms.Goto a) e = absurd (cc)
  select_fine (syms.Table table root) e = absurd (cc)

  fine_on : (x : Sym) (xs : List Sym) → (AreFine placed (bare xs) → AreFine placed xs) → (b : Bool) → is_select x ≡ b → AreFine placed (bare (x ∷ xs)) → AreFine placed (x ∷ xs)
  fine_on x xs rest true e f = (select_fine x e, rest (subst (AreFine placed) (bare_select x xs e) f))
  fine_on x xs rest false e f = let q : AreFine placed (x ∷ bare xs) = subst (AreFine placed) (bare_other x xs e) f in (q.0, rest q.1)

  -- selects stand between what is fine
  pub fine_bare : (xs : List Sym) → AreFine placed (bare xs) → AreFine placed xs
  fine_bare [] f = tt
  fine_bare (x ∷ xs) f = fine_on x xs (fine_bare xs) (is_select x) refl f

  fine_both : (xs ys : List Sym) → AreFine placed xs → AreFine placed ys → AreFine placed (xs ++ ys)
  fine_both [] ys a b = b
  fine_both (x ∷ xs) ys a b = (a.0, fine_both xs ys a.1 b)

  clear_fine : (n o : ℕ) → o < (object (layout_of placed) n).size → AreFine placed (sym_of (Clear n o) ∷ [])
  clear_fine n o lt = (record { kind = Clear n o; is = refl; fits = lt }, tt)

  byte_fine : (n o : ℕ) (f : FirstByte) → o < (object (layout_of placed) n).size → AreFine placed (byte_code (Static n o) f)
  byte_fine n o (firsts.Number v) lt = by (nat_eq v 0) refl where
    by : (b : Bool) → nat_eq v 0 ≡ b → AreFine placed (byte_code (Static n o) (firsts.Number v))
    by true e = rw e (clear_fine n o lt)
    by false e = rw e (record { kind = Load _; is = refl; fits = tt }, (record { kind = Store n o; is = refl; fits = lt }, tt))
  byte_fine n o (firsts.Low a) lt = (record { kind = Load _; is = refl; fits = tt }, (record { kind = Store n o; is = refl; fits = lt }, tt))
  byte_fine n o (firsts.High a) lt = (record { kind = Load _; is = refl; fits = tt }, (record { kind = Store n o; is = refl; fits = lt }, tt))

  pub object_fine : (n o : ℕ) (fs : List FirstByte) → o + length fs ≤ (object (layout_of placed) n).size → AreFine placed (object_code n o fs)
  object_fine n o [] le = tt
  object_fine n o (f ∷ fs) le = fine_both (byte_code (Static n o) f) (object_code n (o + 1) fs) (byte_fine n o f (omega arith)) (object_fine n (o + 1) fs (omega arith))

  objects_fine : (n : ℕ) (xs : List (Vec FirstByte Global)) → ((m : ℕ) → m < length xs → length (slice_index_or (held_in xs) m []) ≤ (object (layout_of placed) (n + m)).size) → AreFine placed (objects_code n xs)
  objects_fine n [] le = tt
  objects_fine n (x ∷ xs) le =
      let z : n + 0 ≡ n = omega arith in
      let first = subst (λ a. length (map first_held x.items) ≤ (object (layout_of placed) a).size) z (le 0 (omega arith)) in
      let same = length-map x.items first_held in
      fine_both (object_code n 0 x.items) (objects_code (n + 1) xs) (object_fine n 0 x.items (omega arith)) (objects_fine (n + 1) xs (λ m lt.
      let y : n + suc m ≡ n + 1 + m = omega arith in subst (λ a. length (slice_index_or (held_in xs) m []) ≤ (object (layout_of placed) a).size) y (le (suc m) (omega arith))))

  pub all_fine : (n : ℕ) (xs : List (Vec FirstByte Global)) → ((m : ℕ) → m < length xs → length (slice_index_or (held_in xs) m []) ≤ (object (layout_of placed) (n + m)).size) → AreFine placed (objects_code n xs)
  all_fine = objects_fine
