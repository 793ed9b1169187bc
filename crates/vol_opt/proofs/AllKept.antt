-- Marks on volatile objects, and then on those that are used, are what is kept.
use Rattle.std.proofs.Common.{◌≡◌, ⊎_elim, ℕ, zero, suc, ◌+◌, ◌<◌, ◌≤◌, Bool, true, false, ◌||◌, nat_eq, List, [], ◌∷◌, ◌++◌, length, get_or, set, map, drop, refl, sym, ap, ◌∙◌, arith}
use Rattle.std.proofs.lemmas.Bool.{cases_eq}
use Rattle.std.proofs.lemmas.List.{get_or-set_same, get_or-set_other, length-set, length-map, ext_get_or, set_past, at_drop_more, drop_all}
use Rattle.c_typed.specs.Trees.{StaticTree, Program}
use Rattle.c_typed.specs.Views.{function_of}
use Rattle.c_typed.specs.declared.program.Function.{Function}
use Rattle.vol_opt.specs.Kept.{is_volatile, is_handlers, handlers_names, addresses_in, initial_addresses, is_among, is_named_by_handler, is_address_used, kept_from, kept_of}
use Rattle.vol_opt.specs.Marks.{marked, names_if}
use Rattle.vol_opt.proofs.Lists.{marked_on, marked_none}

-- ---- one mark
pub mark_within : (marks : List Bool) (n : ℕ) → set marks n true ≡ marked marks (n ∷ [])
unfolding marked
mark_within marks n = refl

pub mark_past : (marks : List Bool) (n : ℕ) → length marks ≤ n → marks ≡ marked marks (n ∷ [])
unfolding marked
mark_past marks n l = sym (set_past marks n true l)

-- ---- marks on a list of numbers
or_none : (a : Bool) → (a || false) ≡ a
or_none true = refl
or_none false = refl

or_true : (a : Bool) → (a || true) ≡ true
or_true true = refl
or_true false = refl

or_assoc : (a b c : Bool) → ((a || b) || c) ≡ (a || (b || c))
or_assoc true b c = refl
or_assoc false b c = refl

pub marked_length : (marks : List Bool) (ns : List ℕ) → length (marked marks ns) ≡ length marks
unfolding marked
marked_length marks [] = refl
marked_length marks (n ∷ ns) = marked_length (set marks n true) ns ∙ length-set marks n true

set_at : (marks : List Bool) (n i : ℕ) → i < length marks → get_or (set marks n true) i false ≡ (get_or marks i false || nat_eq n i)
set_at marks n i l =
    ⊎_elim
    (λ same.
    let eq : nat_eq n i ≡ true = grind (arith, same) in
    (ap (λ (k : ℕ). get_or (set marks n true) k false) same ∙ get_or-set_same marks n true false (omega (arith, same))) ∙ sym (ap (λ (b : Bool). get_or marks i false || b) eq ∙ or_true (get_or marks i false)))
    (λ other.
    let eq : nat_eq n i ≡ false = grind (arith, other) in
    get_or-set_other marks n i true false other ∙ sym (ap (λ (b : Bool). get_or marks i false || b) eq ∙ or_none (get_or marks i false)))
    (cases_eq i n)

pub marked_at : (ns : List ℕ) (marks : List Bool) (i : ℕ) → i < length marks → get_or (marked marks ns) i false ≡ (get_or marks i false || is_among ns i)
unfolding marked
marked_at [] marks i l = sym (or_none (get_or marks i false))
marked_at (n ∷ ns) marks i l =
    marked_at ns (set marks n true) i (let s = length-set marks n true in omega (arith, s))
    ∙ ap (λ (b : Bool). b || is_among ns i) (set_at marks n i l)
    ∙ or_assoc (get_or marks i false) (nat_eq n i) (is_among ns i)

-- ---- the whole
abbrev volatile_marks : Program → List StaticTree → List Bool
volatile_marks p ss = map (λ (s : StaticTree). is_volatile p s.ty) ss

kept_length : (p : Program) (k : ℕ) (ss : List StaticTree) → length (kept_from p k ss) ≡ length ss
kept_length p k [] = refl
kept_length p k (s ∷ ss) = ap suc (kept_length p (k + 1) ss)

kept_at : (p : Program) (ss : List StaticTree) (k i : ℕ) → i < length ss → get_or (kept_from p k ss) i false ≡ (get_or (volatile_marks p ss) i false || (is_named_by_handler p (k + i) || is_address_used p (k + i)))
kept_at p [] k i l = absurd (omega arith)
kept_at p (s ∷ ss) k zero l = ap (λ (n : ℕ). is_volatile p s.ty || (is_named_by_handler p n || is_address_used p n)) (omega arith)
kept_at p (s ∷ ss) k (suc i) l =
    kept_at p ss (k + 1) i (omega arith)
    ∙ ap (λ (n : ℕ). get_or (volatile_marks p ss) i false || (is_named_by_handler p n || is_address_used p n)) (omega arith)

pub all_kept : (p : Program) (starts one two three : List Bool) → starts ≡ volatile_marks p p.statics → one ≡ marked starts (handlers_names p 0 p.functions)
    → two ≡ marked one (addresses_in p.functions) → three ≡ marked two (initial_addresses p.statics) → three ≡ kept_of p
all_kept p starts one two three s a b c =
    let size : length starts ≡ length p.statics = ap length s ∙ length-map p.statics (λ (s : StaticTree). is_volatile p s.ty) in
    let first : length one ≡ length starts = ap length a ∙ marked_length starts (handlers_names p 0 p.functions) in
    let second : length two ≡ length one = ap length b ∙ marked_length one (addresses_in p.functions) in
    let third : length three ≡ length two = ap length c ∙ marked_length two (initial_addresses p.statics) in
    ext_get_or false three (kept_of p) (third ∙ second ∙ first ∙ size ∙ sym (kept_length p 0 p.statics))
    (λ i l.
    let le : i < length p.statics = omega (arith, l, size, first, second, third) in
    let e1 : get_or one i false ≡ (get_or starts i false || is_named_by_handler p i) = ap (λ (ms : List Bool). get_or ms i false) a ∙ marked_at (handlers_names p 0 p.functions) starts i (omega (arith, le, size)) in
    let e2 : get_or two i false ≡ (get_or one i false || is_among (addresses_in p.functions) i) = ap (λ (ms : List Bool). get_or ms i false) b ∙ marked_at (addresses_in p.functions) one i (omega (arith, le, size, first)) in
    let e3 : get_or three i false ≡ (get_or two i false || is_among (initial_addresses p.statics) i) = ap (λ (ms : List Bool). get_or ms i false) c ∙ marked_at (initial_addresses p.statics) two i (omega (arith, le, size, first, second)) in
    e3
    ∙ ap (λ (v : Bool). v || is_among (initial_addresses p.statics) i) (e2 ∙ ap (λ (v : Bool). v || is_among (addresses_in p.functions) i) (e1 ∙ ap (λ (ms : List Bool). get_or ms i false || is_named_by_handler p i) s))
    ∙ grouped (get_or (volatile_marks p p.statics) i false) (is_named_by_handler p i) (is_among (addresses_in p.functions) i) (is_among (initial_addresses p.statics) i)
    ∙ sym (kept_at p p.statics 0 i le ∙ ap (λ (n : ℕ). get_or (volatile_marks p p.statics) i false || (is_named_by_handler p n || is_address_used p n)) (from_none i)))
  where
    from_none : (i : ℕ) → 0 + i ≡ i
    from_none i = omega arith

    grouped : (a b c d : Bool) → (((a || b) || c) || d) ≡ (a || (b || (c || d)))
    grouped true b c d = refl
    grouped false true c d = refl
    grouped false false c d = refl

-- ---- the functions under the handler's root, one after the other
abbrev pub names_from : Program → ℕ → List Function → List ℕ
names_from p number fs = handlers_names p number (map function_of fs)

names_more : (p : Program) (fs : List Function) (i : ℕ) (f : Function) → i < length fs → f ≡ get_or fs i f → names_from p i (drop i fs) ≡ names_if (is_handlers p i) (function_of f) ++ names_from p (i + 1) (drop (i + 1) fs)
names_more p fs i f lt is = at_drop_more (names_from p i) fs i f lt ∙ ap (λ (g : Function). names_if (is_handlers p i) (function_of g) ++ names_from p (i + 1) (drop (i + 1) fs)) (sym is)

pub one_named : (p : Program) (fs : List Function) (i : ℕ) (f : Function) (b : Bool) (now so_far whole : List Bool) → i < length fs → f ≡ get_or fs i f → b ≡ is_handlers p i → now ≡ marked so_far (names_if b (function_of f)) → marked so_far (names_from p i (drop i fs)) ≡ whole → marked now (names_from p (i + 1) (drop (i + 1) fs)) ≡ whole
one_named p fs i f b now so_far whole lt is h put all =
    let rest = names_from p (i + 1) (drop (i + 1) fs) in
    ap (λ (ms : List Bool). marked ms rest) put ∙ sym (marked_on so_far (names_if b (function_of f)) rest)
    ∙ ap (λ (c : Bool). marked so_far (names_if c (function_of f) ++ rest)) h
    ∙ ap (marked so_far) (sym (names_more p fs i f lt is)) ∙ all

pub none_named : (p : Program) (fs : List Function) (i : ℕ) (so_far whole : List Bool) → length fs ≤ i → marked so_far (names_from p i (drop i fs)) ≡ whole → so_far ≡ whole
none_named p fs i so_far whole past all = sym (marked_none so_far) ∙ (ap (marked so_far) (sym (ap (names_from p i) (drop_all i fs past))) ∙ all)
