-- What is made of a body, and of a program.
use Rattle.std.proofs.Common.{◌≡◌, ℕ, zero, suc, ◌+◌, ◌<◌, ◌≤◌, inl, Bool, true, List, [], ◌∷◌, ◌++◌, length, map, take, get_or, replicate, refl, sym, ap, ◌∙◌, subst}
use Rattle.std.specs.Global.{Global}
use Rattle.std.specs.List.{AllZip}
use Rattle.std.specs.declared.vec.Vec.{Vec}
use Rattle.std.proofs.lemmas.List.{take_more, take_all}
use Rattle.std.proofs.lemmas.List.Elements.{AllZip-push}
use Rattle.core_code.specs.Tree.{Tree, trees_of}
use Rattle.core_code.specs.View.{trees_in}
use Rattle.core_code.specs.declared.code.Body.{Body}
use Rattle.core_code.specs.declared.code.CoreProgram.{CoreProgram}
use Rattle.core_code.specs.declared.code.FirstByte.{FirstByte}
use Rattle.narrow_code.specs.Marks.{Mark, Same}
use Rattle.narrow_code.specs.Places.{AtAllPlaces, IsRetyped}
use Rattle.narrow_code.proofs.Places.{all_itself}
use Rattle.narrow_pass.specs.Kept.{trees_for, IsInPlace, IsDone, IsAnswer}
use Rattle.narrow_pass.specs.Narrowed.{IsNarrowedBody, IsSameBody, ByPlans, Unchanged, items_of, lent_by}
use Rattle.narrow_pass.specs.Ways.{marks_of, turns_of, AreMade, IsTried}
use Rattle.narrow_pass.specs.declared.marks.Mark as kept
use Rattle.narrow_pass.specs.declared.marks.Mark.TheVariants as kept_marks
use Rattle.narrow_pass.specs.declared.turns.Turn as kept_turns

-- ---- one body
equal_marks : (n : ℕ) → marks_of (replicate n kept_marks.Same) ≡ replicate n Same
equal_marks zero = refl
equal_marks (suc n) = ap (λ (l : List Mark). Same ∷ l) (equal_marks n)

pub tried_is : (alone : Bool) (lent : ℕ → Bool) (p : ℕ) (turns : List kept_turns.Turn) (here : List kept.Mark) (old new : List Tree) (last : List Mark) (n : ℕ) → turns ≡ [] → here ≡ replicate n kept_marks.Same
    → AreMade alone lent p (turns_of turns) (marks_of here) old new last → IsTried alone lent p old new
tried_is alone lent p turns here old new last n none e all = record {
  size = n;
  after = last;
  are =
      subst (λ (l : List Mark). AreMade alone lent p [] l old new last) (ap marks_of e ∙ equal_marks n)
      (subst (λ (l : List kept_turns.Turn). AreMade alone lent p (turns_of l) (marks_of here) old new last) none all);
}

pub body_is : (alone : Bool) (lent : ℕ → Bool) (given made : Body) → made.copy ≡ given.copy → made.root ≡ given.root → IsTried alone lent given.copy (trees_in given.code.items) (trees_in made.code.items) → IsDone alone lent given made
body_is alone lent given made c r is = record {
  narrowed = record {
    copy = c;
    root = r;
    drafts = is.are.drafts;
    size = is.size;
    after = is.after;
    passes = is.are.passes;
    code = is.are.code;
    lends = is.are.lending;
  };
  places = λ types. record { copy = c; root = r; code = is.are.places types };
}

-- ---- all of them
module _ (R : Body → Body → Type 0) where
  zip_none : (given made : List Body) → made ≡ [] → AllZip R (take 0 given) made
  zip_none given made none =
      let P : List Body → Type 0 = λ m. AllZip R (take 0 given) m in
      subst P (sym none) tt

  zip_more : (given made new : List Body) (i : ℕ) (body x : Body) → i < length given → body ≡ get_or given i body → new ≡ made ++ x ∷ [] → R body x → AllZip R (take i given) made → AllZip R (take (i + 1) given) new
  zip_more given made new i body x below is put one before =
      let next : take (i + 1) given ≡ take i given ++ body ∷ [] = take_more given i body below ∙ ap (λ (b : Body). take i given ++ b ∷ []) (sym is) in
      let P : List Body → Type 0 = λ l. AllZip R l new in
      let Q : List Body → Type 0 = λ l. AllZip R (take i given ++ body ∷ []) l in
      subst P (sym next) (subst Q (sym put) (AllZip-push R (take i given) made body x before one))

  zip_all : (given made : List Body) (i : ℕ) → length given ≤ i → AllZip R (take i given) made → AllZip R given made
  zip_all given made i past all =
      let P : List Body → Type 0 = λ l. AllZip R l made in
      subst P (take_all i given past) all

pub bodies_none : (alone : Bool) (lent : ℕ → Bool) (given made : List Body) → made ≡ [] → AllZip (IsDone alone lent) (take 0 given) made
bodies_none alone lent given made none = zip_none (IsDone alone lent) given made none

pub bodies_more : (alone : Bool) (lent : ℕ → Bool) (given made new : List Body) (i : ℕ) (body x : Body) → i < length given → body ≡ get_or given i body → new ≡ made ++ x ∷ [] → IsDone alone lent body x
    → AllZip (IsDone alone lent) (take i given) made → AllZip (IsDone alone lent) (take (i + 1) given) new
bodies_more alone lent given made new i body x below is put one before = zip_more (IsDone alone lent) given made new i body x below is put one before

pub bodies_all : (alone : Bool) (lent : ℕ → Bool) (given made : List Body) (i : ℕ) → length given ≤ i → AllZip (IsDone alone lent) (take i given) made → AllZip (IsDone alone lent) given made
bodies_all alone lent given made i past all = zip_all (IsDone alone lent) given made i past all

pub same_none : (given made : List Body) → made ≡ [] → AllZip IsSameBody (take 0 given) made
same_none given made none = zip_none IsSameBody given made none

pub same_more : (given made new : List Body) (i : ℕ) (body x : Body) → i < length given → body ≡ get_or given i body → new ≡ made ++ x ∷ [] → IsSameBody body x → AllZip IsSameBody (take i given) made → AllZip IsSameBody (take (i + 1) given) new
same_more given made new i body x below is put one before = zip_more IsSameBody given made new i body x below is put one before

pub same_all : (given made : List Body) (i : ℕ) → length given ≤ i → AllZip IsSameBody (take i given) made → AllZip IsSameBody given made
same_all given made i past all = zip_all IsSameBody given made i past all

-- ---- static objects
more_items : (list : List (Vec FirstByte Global)) (x : Vec FirstByte Global) → map items_of (list ++ x ∷ []) ≡ map items_of list ++ x.items ∷ []
more_items [] x = refl
more_items (y ∷ list) x = ap (λ (l : List (List FirstByte)). y.items ∷ l) (more_items list x)

pub statics_more : (given made : List (Vec FirstByte Global)) (i : ℕ) (bytes x : Vec FirstByte Global) → i < length given → bytes ≡ get_or given i bytes → x.items ≡ bytes.items
    → map items_of made ≡ map items_of (take i given) → map items_of (made ++ x ∷ []) ≡ map items_of (take (i + 1) given)
statics_more given made i bytes x below is same before =
    more_items made x ∙ ap (λ (l : List (List FirstByte)). l ++ x.items ∷ []) before ∙ ap (λ (b : List FirstByte). map items_of (take i given) ++ b ∷ []) same
    ∙ sym (more_items (take i given) bytes) ∙ ap (λ (b : Vec FirstByte Global). map items_of (take i given ++ b ∷ [])) is ∙ sym (ap (λ (l : List (Vec FirstByte Global)). map items_of l) (take_more given i bytes below))

pub statics_all : (given made : List (Vec FirstByte Global)) (i : ℕ) → length given ≤ i → map items_of made ≡ map items_of (take i given) → map items_of made ≡ map items_of given
statics_all given made i past before = before ∙ ap (λ (l : List (Vec FirstByte Global)). map items_of l) (take_all i given past)

-- ---- a program
all_done : (alone : Bool) (lent : ℕ → Bool) (given made : List Body) → AllZip (IsDone alone lent) given made → AllZip (IsNarrowedBody lent) given made
all_done alone lent [] [] all = tt
all_done alone lent [] (m ∷ made) all = absurd all
all_done alone lent (g ∷ given) [] all = absurd all
all_done alone lent (g ∷ given) (m ∷ made) all = (all.0.narrowed, all_done alone lent given made all.1)

all_placed : (alone : Bool) (lent : ℕ → Bool) (given made : List Body) → alone ≡ true → AllZip (IsDone alone lent) given made → AllZip (IsInPlace IsRetyped) given made
all_placed alone lent [] [] types all = tt
all_placed alone lent [] (m ∷ made) types all = absurd all
all_placed alone lent (g ∷ given) [] types all = absurd all
all_placed alone lent (g ∷ given) (m ∷ made) types all = (all.0.places types, all_placed alone lent given made types all.1)

pub program_is : (alone : Bool) (flags : List Bool) (given made : CoreProgram) → map items_of made.statics.items ≡ map items_of given.statics.items
    → AllZip (IsDone alone (lent_by flags)) given.bodies.items made.bodies.items → IsAnswer alone given made
program_is alone flags given made e all = record {
  narrowed = record { statics = e; bodies = ByPlans flags (all_done alone (lent_by flags) given.bodies.items made.bodies.items all) };
  places = λ types. all_placed alone (lent_by flags) given.bodies.items made.bodies.items types all;
}

-- the same bodies
itself : (t : Tree) → IsRetyped t t
itself t = inl refl

same_place : (g m : Body) → IsSameBody g m → IsInPlace IsRetyped g m
same_place g m is = record {
  copy = is.copy;
  root = is.root;
  code = subst (λ (l : List Tree). AtAllPlaces IsRetyped (trees_for g) (trees_of l)) (sym is.code) (all_itself IsRetyped itself (trees_for g));
}

all_same_places : (given made : List Body) → AllZip IsSameBody given made → AllZip (IsInPlace IsRetyped) given made
all_same_places [] [] all = tt
all_same_places [] (m ∷ made) all = absurd all
all_same_places (g ∷ given) [] all = absurd all
all_same_places (g ∷ given) (m ∷ made) all = (same_place g m all.0, all_same_places given made all.1)

pub program_again : (alone : Bool) (given made : CoreProgram) → map items_of made.statics.items ≡ map items_of given.statics.items → AllZip IsSameBody given.bodies.items made.bodies.items → IsAnswer alone given made
program_again alone given made e all = record {
  narrowed = record { statics = e; bodies = Unchanged all };
  places = λ types. all_same_places given.bodies.items made.bodies.items all;
}
