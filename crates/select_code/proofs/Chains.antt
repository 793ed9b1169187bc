-- What is appended one behind the other.
use Rattle.std.proofs.Common.{◌≡◌, ℕ, zero, suc, ◌+◌, ◌<◌, List, [], ◌∷◌, ◌++◌, Bool, true, false, Option, Some, None, option_map, cond, ◌⊎◌, inl, inr, Vec, Box, Global, length, get_or, take, reverse, refl, sym, ap, ◌∙◌, append_assoc, length-append, add-one, arith}
use Rattle.std.proofs.lemmas.List.{append-nil, length-map}
use Rattle.core_code.specs.declared.code.Byte.{Byte}
use Rattle.core_code.specs.declared.code.Core.{Core}
use Rattle.core_code.specs.Tree.{Tree, Trees, NoTree, AndTree, Convert, Many, If, Loop, trees_of, list_of}
use Rattle.core_code.specs.View.{tree_of, trees_in}
use Rattle.sym_code.specs.declared.code.Label.{Label}
use Rattle.sym_code.specs.declared.code.Sym.{Sym}
use Rattle.select_code.specs.declared.control.Ending.{Ending}
use Rattle.select_code.specs.Pieces.{test_code, label_code, goto_code, jump_code, unless_code, first_label, second_label}
use Rattle.select_code.specs.Selected.{Given, code_of, parts_code, first_code, single_code, IfForm, Jumps, Leaps, Half, Other, Whole, part_form, form_by, if_form, if_code, short_jump, is_nothing, short_turn, short_list, turned, turn_code}
use Rattle.select_code.specs.Sized.{is_cut}
use Rattle.c_ints.specs.declared.types.IntTy.{IntTy}
use Rattle.core_code.specs.declared.code.Core.TheVariants as Core
use Rattle.core_code.proofs.Views.{tree_many, tree_if, tree_loop}

pub then_put : {A : Type 0} (o p q x y : List A) → p ≡ o ++ x → q ≡ p ++ y → q ≡ o ++ (x ++ y)
then_put o p q x y e f = f ∙ ap (λ l. l ++ y) e ∙ append_assoc o x y

pub then_at : {A : Type 0} (o p q x : List A) (f : ℕ → List A) → p ≡ o ++ x → q ≡ p ++ f (length p) → q ≡ o ++ (x ++ f (length o + length x))
then_at o p q x f e g = g ∙ ap (λ l. l ++ f (length l)) e ∙ append_assoc o x (f (length (o ++ x))) ∙ ap (λ n. o ++ (x ++ f n)) (length-append o x)

parts_none : (w : Given) (e : Ending) (loops : List ℕ) (at : ℕ) (before : List Tree) (ts : Trees) → parts_code w e loops at before ts zero ≡ []
parts_none w e loops at before NoTree = refl
parts_none w e loops at before (AndTree t ts) = refl

parts_more : (w : Given) (e : Ending) (loops : List ℕ) (at : ℕ) (before : List Tree) (xs : List Core) (k : ℕ) (x : Core) → k < length xs → x ≡ get_or xs k x
    → parts_code w e loops at before (trees_of (trees_in xs)) (suc k) ≡ parts_code w e loops at before (trees_of (trees_in xs)) k ++ code_of w e loops (at + length (parts_code w e loops at before (trees_of (trees_in xs)) k)) (before ++ trees_in (take k xs)) (tree_of x)
parts_more w e loops at before [] k x lt is = absurd (omega (arith, lt))
parts_more w e loops at before (y ∷ xs) zero x lt is =
    let c = code_of w e loops at before (tree_of y) in
    let z : at ≡ at + 0 = omega arith in
    ap (λ l. c ++ l) (parts_none w e loops (at + length c) (before ++ tree_of y ∷ []) (trees_of (trees_in xs))) ∙ append-nil c
    ∙ ap (λ n. code_of w e loops n before (tree_of y)) z
    ∙ ap (λ b. code_of w e loops (at + 0) b (tree_of y)) (sym (append-nil before))
    ∙ ap (λ v. code_of w e loops (at + 0) (before ++ []) (tree_of v)) (sym is)
parts_more w e loops at before (y ∷ xs) (suc k) x lt is =
    let c = code_of w e loops at before (tree_of y) in
    let p = parts_code w e loops (at + length c) (before ++ tree_of y ∷ []) (trees_of (trees_in xs)) k in
    let rest = trees_in (take k xs) in
    let same : at + length c + length p ≡ at + length (c ++ p) = omega (arith, length-append c p) in
    ap (λ l. c ++ l) (parts_more w e loops (at + length c) (before ++ tree_of y ∷ []) xs k x (omega (arith, lt)) is)
    ∙ sym (append_assoc c p (code_of w e loops (at + length c + length p) ((before ++ tree_of y ∷ []) ++ rest) (tree_of x)))
    ∙ ap (λ n. (c ++ p) ++ code_of w e loops n ((before ++ tree_of y ∷ []) ++ rest) (tree_of x)) same
    ∙ ap (λ b. (c ++ p) ++ code_of w e loops (at + length (c ++ p)) b (tree_of x)) (append_assoc before (tree_of y ∷ []) rest)

-- one part more, behind what stands before a list of parts
pub parts_next : (w : Given) (e : Ending) (loops : List ℕ) (o p q : List Sym) (xs : List Core) (k : ℕ) (x : Core) → k < length xs → x ≡ get_or xs k x
    → p ≡ o ++ parts_code w e loops (length o) [] (trees_of (trees_in xs)) k → q ≡ p ++ code_of w e loops (length p) (trees_in (take k xs)) (tree_of x)
    → q ≡ o ++ parts_code w e loops (length o) [] (trees_of (trees_in xs)) (k + 1)
parts_next w e loops o p q xs k x lt is a b =
    then_at o p q (parts_code w e loops (length o) [] (trees_of (trees_in xs)) k) (λ n. code_of w e loops n (trees_in (take k xs)) (tree_of x)) a b
    ∙ ap (λ l. o ++ l) (sym (parts_more w e loops (length o) [] xs k x lt is))
    ∙ ap (λ n. o ++ parts_code w e loops (length o) [] (trees_of (trees_in xs)) n) (sym (add-one k))

list_back : (ts : List Tree) → list_of (trees_of ts) ≡ ts
list_back [] = refl
list_back (t ∷ ts) = ap (λ l. t ∷ l) (list_back ts)

pub lists_back : (xs : List Core) → list_of (trees_of (trees_in xs)) ≡ trees_in xs
lists_back xs = list_back (trees_in xs)

pub parts_length : (xs : List Core) → length (list_of (trees_of (trees_in xs))) ≡ length xs
parts_length xs = ap length (lists_back xs) ∙ length-map xs tree_of

-- What a condition comes to, by what the code finds.
pub form_jumps : (loops : List ℕ) (holds fails : Tree) (to : Label) → short_jump loops holds fails ≡ Some to → if_form loops holds fails ≡ Jumps to
form_jumps loops holds fails to short = ap (λ s. form_by s (short_jump loops fails holds) (is_nothing fails) (is_nothing holds)) short

pub form_leaps : (loops : List ℕ) (holds fails : Tree) (to : Label) → short_jump loops holds fails ≡ None → short_jump loops fails holds ≡ Some to → if_form loops holds fails ≡ Leaps to
form_leaps loops holds fails to short leap =
    ap (λ s. form_by s (short_jump loops fails holds) (is_nothing fails) (is_nothing holds)) short
    ∙ ap (λ s. form_by None s (is_nothing fails) (is_nothing holds)) leap

form_parts : (loops : List ℕ) (holds fails : Tree) → short_jump loops holds fails ≡ None → short_jump loops fails holds ≡ None → if_form loops holds fails ≡ part_form (is_nothing fails) (is_nothing holds)
form_parts loops holds fails short leap =
    ap (λ s. form_by s (short_jump loops fails holds) (is_nothing fails) (is_nothing holds)) short
    ∙ ap (λ s. form_by None s (is_nothing fails) (is_nothing holds)) leap

pub form_half : (loops : List ℕ) (holds fails : Tree) → short_jump loops holds fails ≡ None → short_jump loops fails holds ≡ None → is_nothing fails ≡ true → if_form loops holds fails ≡ Half
form_half loops holds fails short leap nothing = form_parts loops holds fails short leap ∙ ap (λ n. part_form n (is_nothing holds)) nothing

pub form_other : (loops : List ℕ) (holds fails : Tree) → short_jump loops holds fails ≡ None → short_jump loops fails holds ≡ None → is_nothing fails ≡ false → is_nothing holds ≡ true → if_form loops holds fails ≡ Other
form_other loops holds fails short leap nothing bare =
    form_parts loops holds fails short leap ∙ ap (λ n. part_form n (is_nothing holds)) nothing ∙ ap (λ n. part_form false n) bare

pub form_whole : (loops : List ℕ) (holds fails : Tree) → short_jump loops holds fails ≡ None → short_jump loops fails holds ≡ None → is_nothing fails ≡ false → is_nothing holds ≡ false → if_form loops holds fails ≡ Whole
form_whole loops holds fails short leap nothing bare =
    form_parts loops holds fails short leap ∙ ap (λ n. part_form n (is_nothing holds)) nothing ∙ ap (λ n. part_form false n) bare

-- A condition whose parts were put one behind the other.
by_form : (w : Given) (e : Ending) (loops : List ℕ) (before : List Tree) (tree holds fails : Tree) (test : Byte) (size : ℕ) (o s : List Sym) (form : IfForm) → tree ≡ If test size holds fails → if_form loops holds fails ≡ form
    → s ≡ o ++ if_code form (length o) (test_code test size) (λ n. code_of w e loops n [] holds) (λ n. code_of w e loops n [] fails) → s ≡ o ++ code_of w e loops (length o) before tree
by_form w e loops before tree holds fails test size o s form is formed made =
    made
    ∙ ap (λ f. o ++ if_code f (length o) (test_code test size) (λ n. code_of w e loops n [] holds) (λ n. code_of w e loops n [] fails)) (sym formed)
    ∙ ap (λ t. o ++ code_of w e loops (length o) before t) (sym is)

pub if_jump : (w : Given) (e : Ending) (loops : List ℕ) (before : List Tree) (tree holds fails : Tree) (test : Byte) (size : ℕ) (o p q : List Sym) (to : Label) → tree ≡ If test size holds fails
    → if_form loops holds fails ≡ Jumps to → p ≡ o ++ test_code test size → q ≡ p ++ jump_code to → q ≡ o ++ code_of w e loops (length o) before tree
if_jump w e loops before tree holds fails test size o p q to is form a b =
    by_form w e loops before tree holds fails test size o q (Jumps to) is form (then_put o p q (test_code test size) (jump_code to) a b)

pub if_leap : (w : Given) (e : Ending) (loops : List ℕ) (before : List Tree) (tree holds fails : Tree) (test : Byte) (size : ℕ) (o p q : List Sym) (to : Label) → tree ≡ If test size holds fails
    → if_form loops holds fails ≡ Leaps to → p ≡ o ++ test_code test size → q ≡ p ++ unless_code to → q ≡ o ++ code_of w e loops (length o) before tree
if_leap w e loops before tree holds fails test size o p q to is form a b =
    by_form w e loops before tree holds fails test size o q (Leaps to) is form (then_put o p q (test_code test size) (unless_code to) a b)

pub if_one : (w : Given) (e : Ending) (loops : List ℕ) (before : List Tree) (tree holds fails : Tree) (test : Byte) (size : ℕ) (o p q r s : List Sym) (end : Label) → tree ≡ If test size holds fails
    → if_form loops holds fails ≡ Half → end ≡ second_label (length o)
    → p ≡ o ++ test_code test size → q ≡ p ++ jump_code end → r ≡ q ++ code_of w e loops (length q) [] holds → s ≡ r ++ label_code end
    → s ≡ o ++ code_of w e loops (length o) before tree
if_one w e loops before tree holds fails test size o p q r s end is form last a b c d =
    let t = test_code test size in
    let l = second_label (length o) in
    let f : ℕ → List Sym = λ n. code_of w e loops n [] holds in
    let head = t ++ jump_code l in
    let u = then_put o p q t (jump_code l) a (b ∙ ap (λ v. p ++ jump_code v) last) in
    by_form w e loops before tree holds fails test size o s Half is form
    (then_put o r s (head ++ f (length o + length head)) (label_code l) (then_at o q r head f u c) (d ∙ ap (λ v. r ++ label_code v) last))

pub if_other : (w : Given) (e : Ending) (loops : List ℕ) (before : List Tree) (tree holds fails : Tree) (test : Byte) (size : ℕ) (o p q r s : List Sym) (end : Label) → tree ≡ If test size holds fails
    → if_form loops holds fails ≡ Other → end ≡ second_label (length o)
    → p ≡ o ++ test_code test size → q ≡ p ++ unless_code end → r ≡ q ++ code_of w e loops (length q) [] fails → s ≡ r ++ label_code end
    → s ≡ o ++ code_of w e loops (length o) before tree
if_other w e loops before tree holds fails test size o p q r s end is form last a b c d =
    let t = test_code test size in
    let l = second_label (length o) in
    let f : ℕ → List Sym = λ n. code_of w e loops n [] fails in
    let head = t ++ unless_code l in
    let u = then_put o p q t (unless_code l) a (b ∙ ap (λ v. p ++ unless_code v) last) in
    by_form w e loops before tree holds fails test size o s Other is form
    (then_put o r s (head ++ f (length o + length head)) (label_code l) (then_at o q r head f u c) (d ∙ ap (λ v. r ++ label_code v) last))

pub if_both : (w : Given) (e : Ending) (loops : List ℕ) (before : List Tree) (tree holds fails : Tree) (test : Byte) (size : ℕ) (o p q r s u v y : List Sym) (end other : Label) → tree ≡ If test size holds fails
    → if_form loops holds fails ≡ Whole → end ≡ second_label (length o) → other ≡ first_label (length o)
    → p ≡ o ++ test_code test size → q ≡ p ++ jump_code other → r ≡ q ++ code_of w e loops (length q) [] holds → s ≡ r ++ goto_code end → u ≡ s ++ label_code other
    → v ≡ u ++ code_of w e loops (length u) [] fails → y ≡ v ++ label_code end
    → y ≡ o ++ code_of w e loops (length o) before tree
if_both w e loops before tree holds fails test size o p q r s u v y end other is form last front e1 e2 e3 e4 e5 e6 e7 =
    let t = test_code test size in
    let l = second_label (length o) in
    let m = first_label (length o) in
    let f : ℕ → List Sym = λ n. code_of w e loops n [] holds in
    let g : ℕ → List Sym = λ n. code_of w e loops n [] fails in
    let head = t ++ jump_code m in
    let arm = head ++ f (length o + length head) in
    let middle = arm ++ goto_code l ++ label_code m in
    let d2 : q ≡ p ++ jump_code m = e2 ∙ ap (λ z. p ++ jump_code z) front in
    let d4 : s ≡ r ++ goto_code l = e4 ∙ ap (λ z. r ++ goto_code z) last in
    let d5 : u ≡ s ++ label_code m = e5 ∙ ap (λ z. s ++ label_code z) front in
    let d7 : y ≡ v ++ label_code l = e7 ∙ ap (λ z. v ++ label_code z) last in
    let h2 = then_put o p q t (jump_code m) e1 d2 in
    let h3 = then_at o q r head f h2 e3 in
    let h4 = then_put o r s arm (goto_code l) h3 d4 in
    let h5 = then_put o s u (arm ++ goto_code l) (label_code m) h4 d5 in
    let h6 = then_at o u v middle g h5 e6 in
    by_form w e loops before tree holds fails test size o y Whole is form (then_put o v y (middle ++ g (length o + length middle)) (label_code l) h6 d7)

pub jump_same : (loops : List ℕ) (y z n k : Core) (short : Option Label) → short ≡ short_jump (reverse loops) (tree_of y) (tree_of n) → y ≡ z → n ≡ k → short_jump (reverse loops) (tree_of z) (tree_of k) ≡ short
jump_same loops y z n k short is a b =
    sym (is ∙ ap (λ v. short_jump (reverse loops) (tree_of v) (tree_of n)) a ∙ ap (λ v. short_jump (reverse loops) (tree_of z) (tree_of v)) b)

pub nothing_same : (y z : Core) (b : Bool) → b ≡ is_nothing (tree_of y) → y ≡ z → is_nothing (tree_of z) ≡ b
nothing_same y z b is a = sym (is ∙ ap (λ v. is_nothing (tree_of v)) a)

-- A loop's turn.
pub turn_short : (w : Given) (e : Ending) (loops : List ℕ) (o q : List Sym) (xs : List Core) (tree : Tree) (top : Label) (count : ℕ) → tree ≡ Many (trees_of (trees_in xs)) → Some count ≡ short_list (trees_in xs)
    → q ≡ o ++ parts_code w e loops (length o) [] (trees_of (trees_in xs)) count → q ≡ o ++ turn_code w e loops (length o) tree top
turn_short w e loops o q xs tree top count is short a =
    let m = Many (trees_of (trees_in xs)) in
    a ∙ ap (λ s. o ++ turned (option_map (λ k. first_code w e loops (length o) k m) s) (code_of w e loops (length o) [] m) top) (short ∙ ap short_list (sym (lists_back xs)))
    ∙ ap (λ t. o ++ turn_code w e loops (length o) t top) (sym is)

pub turn_whole : (w : Given) (e : Ending) (loops : List ℕ) (o p q : List Sym) (xs : List Core) (tree : Tree) (top : Label) (n : ℕ) → tree ≡ Many (trees_of (trees_in xs)) → None ≡ short_list (trees_in xs) → n ≡ length xs
    → p ≡ o ++ parts_code w e loops (length o) [] (trees_of (trees_in xs)) n → q ≡ p ++ goto_code top → q ≡ o ++ turn_code w e loops (length o) tree top
turn_whole w e loops o p q xs tree top n is short all a b =
    let m = Many (trees_of (trees_in xs)) in
    then_put o p q (parts_code w e loops (length o) [] (trees_of (trees_in xs)) n) (goto_code top) a b
    ∙ ap (λ k. o ++ (parts_code w e loops (length o) [] (trees_of (trees_in xs)) k ++ goto_code top)) (all ∙ sym (parts_length xs))
    ∙ ap (λ s. o ++ turned (option_map (λ k. first_code w e loops (length o) k m) s) (code_of w e loops (length o) [] m) top) (short ∙ ap short_list (sym (lists_back xs)))
    ∙ ap (λ t. o ++ turn_code w e loops (length o) t top) (sym is)

pub turn_other : (w : Given) (e : Ending) (loops : List ℕ) (o p q : List Sym) (tree : Tree) (top : Label) → None ≡ short_turn tree
    → p ≡ o ++ code_of w e loops (length o) [] tree → q ≡ p ++ goto_code top → q ≡ o ++ turn_code w e loops (length o) tree top
turn_other w e loops o p q tree top short a b =
    then_put o p q (code_of w e loops (length o) [] tree) (goto_code top) a b
    ∙ ap (λ s. o ++ turned (option_map (λ k. first_code w e loops (length o) k tree) s) (code_of w e loops (length o) [] tree) top) short

-- What has no code.
pub cut_nothing : (w : Given) (e : Ending) (loops : List ℕ) (before : List Tree) (o : List Sym) (tree : Tree) (from to : IntTy) (place : Byte) → tree ≡ Convert from to place → is_cut from to ≡ true
    → o ≡ o ++ single_code w e loops (length o) before tree
cut_nothing w e loops before o tree from to place is cut =
    sym (append-nil o)
    ∙ ap (λ b. o ++ cond b [] (w (length o) before (Convert from to place))) (sym cut)
    ∙ ap (λ t. o ++ single_code w e loops (length o) before t) (sym is)

pub many_nothing : (w : Given) (e : Ending) (loops : List ℕ) (before : List Tree) (o : List Sym) (tree : Tree) (ts : Trees) → tree ≡ Many ts → o ≡ o ++ single_code w e loops (length o) before tree
many_nothing w e loops before o tree ts is = sym (append-nil o) ∙ ap (λ t. o ++ single_code w e loops (length o) before t) (sym is)

pub if_nothing : (w : Given) (e : Ending) (loops : List ℕ) (before : List Tree) (o : List Sym) (tree : Tree) (test : Byte) (size : ℕ) (holds fails : Tree) → tree ≡ If test size holds fails → o ≡ o ++ single_code w e loops (length o) before tree
if_nothing w e loops before o tree test size holds fails is = sym (append-nil o) ∙ ap (λ t. o ++ single_code w e loops (length o) before t) (sym is)

pub loop_nothing : (w : Given) (e : Ending) (loops : List ℕ) (before : List Tree) (o : List Sym) (tree body : Tree) → tree ≡ Loop body → o ≡ o ++ single_code w e loops (length o) before tree
loop_nothing w e loops before o tree body is = sym (append-nil o) ∙ ap (λ t. o ++ single_code w e loops (length o) before t) (sym is)

pub control_nothing : (w : Given) (e : Ending) (loops : List ℕ) (before : List Tree) (o : List Sym) (c : Core)
    → ((v : Vec Core Global) × c ≡ Core.Many v) ⊎ (((test : Byte) × (size : ℕ) × (y : Box Core Global) × (n : Box Core Global) × c ≡ Core.If test size y n) ⊎ ((b : Box Core Global) × c ≡ Core.Loop b))
    → o ≡ o ++ single_code w e loops (length o) before (tree_of c)
control_nothing w e loops before o c is = elim is [
  | inl h ↦ many_nothing w e loops before o (tree_of c) (trees_of (trees_in h.0.items)) (ap tree_of h.1 ∙ tree_many h.0)
  | inr k ↦ elim k [
    | inl h ↦ if_nothing w e loops before o (tree_of c) h.0 h.1 (tree_of h.2.value) (tree_of h.3.value) (ap tree_of h.4 ∙ tree_if h.0 h.1 h.2 h.3)
    | inr h ↦ loop_nothing w e loops before o (tree_of c) (tree_of h.0.value) (ap tree_of h.1 ∙ tree_loop h.0)
  ]
]
