-- The answer as a function of the list, and what it is at the front of a block that begins with a jump.
use Rattle.std.proofs.Common.{◌≡◌, Bool, true, false, not, ◌&&◌, ◌||◌, List, [], ◌∷◌, ◌++◌, length, ◌<◌, Option, Some, None, is_none, refl, sym, ap, ◌∙◌, subst, append-nil, append_assoc, arith}
use Rattle.core_code.specs.declared.code.Byte.{Byte}
use Rattle.pic_map.specs.declared.Placed.{Placed}
use Rattle.sym_code.specs.declared.code.BlockName.{BlockName}
use Rattle.sym_code.specs.declared.code.Sym.{Sym}
use Rattle.sym_code.specs.declared.code.Sym.TheVariants as syms
use Rattle.sym_code.specs.declared.code.Target.{Target}
use Rattle.sym_code.specs.Selects.{is_select}
use Rattle.bank_page.specs.Kinds.{is_label, is_skip, byte_of, target_of}
use Rattle.bank_page.specs.Known.{writes_status, writes_pclath}
use Rattle.bank_page.specs.Needs.{banked, needs_one, needs_in}
use Rattle.bank_page.specs.Selected.{front, is_quiet, are_quiet, KeepsFront}
use Rattle.bank_page.specs.Step.{page_selects, missing_for, passed, NextFor, Next, put_of, state_of, selected_from}
use Rattle.bank_page.specs.declared.known.Known.{Known}
use Rattle.bank_page.specs.declared.needs.Needs.{Needs}
use Rattle.bank_page.specs.declared.selecting.State.{State}
use Rattle.bank_page.proofs.Chains.{true_false, and_left, and_right, needs_step}

-- what was put, and what becomes of the rest, is what becomes of the list
abbrev pub Exact : Placed → BlockName → List Sym → List Sym → State → List Sym → Type 0
Exact placed own list out state rest = out ++ selected_from placed own state rest ≡ selected_from placed own front list

pub exact_none : (placed : Placed) (own : BlockName) (list out : List Sym) → out ≡ [] → Exact placed own list out front list
exact_none placed own list out none = ap (λ (xs : List Sym). xs ++ selected_from placed own front list) none

put_is : (select plain : Bool) (own : BlockName) (state next : State) (s : Sym) (needs : Option Needs) (out new : List Sym) → NextFor select plain own state s needs out new next → (new ≡ out ++ put_of select plain own state s needs) × (next ≡ state_of select plain own state s needs)
put_is true plain own state next s needs out new step = (step.0 ∙ sym (append-nil out), step.1)
put_is false true own state next s needs out new step = (step.0, step.1)
put_is false false own state next s None out new step = absurd step
put_is false false own state next s (Some needs) out new step = (step.0 ∙ append_assoc out (missing_for own state.known needs) (s ∷ []), step.1)

pub exact_more : (placed : Placed) (own : BlockName) (list out new : List Sym) (state next : State) (s : Sym) (left rest : List Sym) → left ≡ s ∷ rest → Next placed own state s left out new next → Exact placed own list out state left → Exact placed own list new next rest
exact_more placed own list out new state next s left rest e step exact =
    let P : List Sym → Type 0 = λ l. Next placed own state s l out new next × Exact placed own list out state l in
    let both = subst P e (step, exact) in
    let needs = needs_in placed (s ∷ rest) in
    let put = put_of (is_select s) (state.behind || is_label s) own state s needs in
    let behind = state_of (is_select s) (state.behind || is_label s) own state s needs in
    let is = put_is (is_select s) (state.behind || is_label s) own state next s needs out new both.0 in
    ap (λ (xs : List Sym). xs ++ selected_from placed own next rest) is.0
    ∙ (ap (λ (st : State). out ++ put ++ selected_from placed own st rest) is.1
    ∙ (append_assoc out put (selected_from placed own behind rest) ∙ both.1))

exact_all : (placed : Placed) (own : BlockName) (list out : List Sym) (state : State) (rest : List Sym) → rest ≡ [] → Exact placed own list out state rest → out ≡ selected_from placed own front list
exact_all placed own list out state rest none exact =
    let P : List Sym → Type 0 = λ l. out ++ selected_from placed own state l ≡ selected_from placed own front list in
    sym (append-nil out) ∙ subst P none exact

none_of : (a b : Bool) → (a || b) ≡ false → (a ≡ false) × (b ≡ false)
none_of false b is = (refl, is)
none_of true b is = absurd (true_false is)

untrue : (b : Bool) → not b ≡ true → b ≡ false
untrue false is = refl
untrue true is = absurd (true_false (sym is))

nothing_in : {A : Type 0} (o : Option A) → is_none o ≡ true → o ≡ None
nothing_in None is = refl
nothing_in (Some x) is = absurd (true_false (sym is))

abbrev no_needs : Needs
no_needs = record { bank = None; page = None }

-- what holds of an instruction that needs no select
record IsQuiet (s : Sym) : Type 0 where
  select : is_select s ≡ false
  label : is_label s ≡ false
  skip : is_skip s ≡ false
  byte : byte_of s ≡ None
  target : target_of s ≡ None

quiet_parts : (s : Sym) → is_quiet s ≡ true → IsQuiet s
quiet_parts s is =
    let plain = not (is_select s || is_label s || is_skip s) in
    let two = and_left (plain && is_none (byte_of s)) (is_none (target_of s)) is in
    let three = none_of (is_select s || is_label s) (is_skip s) (untrue (is_select s || is_label s || is_skip s) (and_left plain (is_none (byte_of s)) two)) in
    let first = none_of (is_select s) (is_label s) three.0 in
    record {
      select = first.0;
      label = first.1;
      skip = three.1;
      byte = nothing_in (byte_of s) (and_right plain (is_none (byte_of s)) two);
      target = nothing_in (target_of s) (and_right (plain && is_none (byte_of s)) (is_none (target_of s)) is);
    }

quiet_needs : (placed : Placed) (s : Sym) (rest : List Sym) → IsQuiet s → needs_in placed (s ∷ rest) ≡ Some no_needs
quiet_needs placed s rest q =
    let change = writes_status s || writes_pclath s in
    let found = needs_in placed rest in
    ap (λ (b : Bool). needs_step b (is_label s) (is_skip s) change s (banked placed (byte_of s)) found) q.select
    ∙ (ap (λ (b : Bool). needs_step false b (is_skip s) change s (banked placed (byte_of s)) found) q.label
    ∙ (ap (λ (b : Bool). needs_step false false b change s (banked placed (byte_of s)) found) q.skip
    ∙ (ap (λ (o : Option Byte). needs_one s (banked placed o)) q.byte
    ∙ ap (λ (t : Option Target). Some (record { bank = None; page = t })) q.target)))

-- such instructions stand one behind the other
quiet_front : (placed : Placed) (own : BlockName) (known : Known) (quiet rest : List Sym) → are_quiet quiet ≡ true → (more : List Sym) × (selected_from placed own (record { known = known; behind = false }) (quiet ++ rest) ≡ quiet ++ more)
quiet_front placed own known [] rest all = (selected_from placed own (record { known = known; behind = false }) rest, refl)
quiet_front placed own known (s ∷ quiet) rest all =
    let q = quiet_parts s (and_left (is_quiet s) (are_quiet quiet) all) in
    let st : State = record { known = known; behind = false } in
    let needs = needs_in placed (s ∷ quiet ++ rest) in
    let later : State → List Sym = λ x. selected_from placed own x (quiet ++ rest) in
    let passed_on = passed known s false in
    let others = quiet_front placed own passed_on.known quiet rest (and_right (is_quiet s) (are_quiet quiet) all) in
    let same : selected_from placed own st (s ∷ quiet ++ rest) ≡ s ∷ later passed_on =
    ap (λ (b : Bool). put_of b (false || is_label s) own st s needs ++ later (state_of b (false || is_label s) own st s needs)) q.select
    ∙ (ap (λ (b : Bool). put_of false b own st s needs ++ later (state_of false b own st s needs)) q.label
    ∙ ap (λ (n : Option Needs). put_of false false own st s n ++ later (state_of false false own st s n)) (quiet_needs placed s (quiet ++ rest) q)) in
    (others.0, same ∙ (ap (λ (b : Bool). s ∷ later (record { known = passed_on.known; behind = b })) q.skip ∙ ap (λ (l : List Sym). s ∷ l) others.1))

jump_first : (placed : Placed) (own : BlockName) (list out : List Sym) → out ≡ selected_from placed own front list → (target : Target) (quiet rest : List Sym) → are_quiet quiet ≡ true → list ≡ syms.Goto target ∷ quiet ++ rest → (more : List Sym) × (out ≡ page_selects (Some target) ++ syms.Goto target ∷ quiet ++ more)
jump_first placed own list out is target quiet rest all begins =
    let jump = syms.Goto target in
    let jumped = state_of false false own front jump (needs_in placed (jump ∷ quiet ++ rest)) in
    let others = quiet_front placed own jumped.known quiet rest all in
    (others.0, is ∙ (ap (selected_from placed own front) begins ∙ ap (λ (l : List Sym). page_selects (Some target) ++ (jump ∷ []) ++ l) others.1))

nothing_left : (list : List Sym) → length list < 1 → list ≡ []
nothing_left [] few = refl
nothing_left (s ∷ list) few = absurd (omega (arith, few))

-- at the end of the list
pub front_all : (placed : Placed) (own : BlockName) (list out : List Sym) (state : State) (rest : List Sym) → length rest < 1 → Exact placed own list out state rest → KeepsFront list out
front_all placed own list out state rest few exact = record { words = jump_first placed own list out (exact_all placed own list out state rest (nothing_left rest few) exact) }

pub code_all : (placed : Placed) (own : BlockName) (list out : List Sym) (state : State) (rest : List Sym) → length rest < 1 → Exact placed own list out state rest → out ≡ selected_from placed own front list
code_all placed own list out state rest few exact = exact_all placed own list out state rest (nothing_left rest few) exact
