-- The loops of a switch, and of a chain of arms.
use Rattle.std.proofs.Common.{◌≡◌, ℕ, suc, ◌+◌, ◌-◌, ◌<◌, ◌≤◌, List, [], ◌∷◌, ◌++◌, length, get_or, drop, map, refl, sym, ap, ◌∙◌, append_assoc, arith}
use Rattle.std.specs.Prelude.{Bool, true, false, nat_eq, if◌then◌else◌, Option}
use Rattle.std.proofs.lemmas.Bool.{ne_eqb}
use Rattle.std.proofs.lemmas.List.{at_drop_more, drop_all, append-nil}
use Rattle.c_typed.specs.Sound.{count_of}
use Rattle.c_typed.specs.Trees.{Expression, Statement, Statements}
use Rattle.c_typed.specs.Views.{statement_of, statements_of, arm_of, arms_of}
use Rattle.c_typed.specs.declared.statement.TArm.{TArm}
use Rattle.c_typed.specs.declared.statement.TCase.{TCase}
use Rattle.c_typed.specs.declared.statement.TStmt.{TStmt}
use Rattle.core_code.specs.Tree as core
use Rattle.core_code.specs.Tree.{Tree, many}
use Rattle.core_code.specs.View.{trees_in}
use Rattle.core_code.specs.declared.code.Core.{Core}
use Rattle.lower_stmt.proofs.Sights.{arms_more}
use Rattle.lower_stmt.specs.Ground.{Ground, value_code}
use Rattle.lower_stmt.specs.Jumps.{in_segment}
use Rattle.lower_stmt.specs.Labels.{has, labels_of, segments_before}
use Rattle.lower_stmt.specs.Statements.{stmt_code, arm_code, arms_code, segments_code, segments_in, labelled_code, switch_code}
use Rattle.lower_stmt.specs.Nesting.{closed, opened, reached}
use Rattle.lower_stmt.specs.Switches.{Segments, comparisons, begun_with, no_segments, cut, joined, nest, around, for_labels}
use Rattle.lower_stmt.specs.declared.jumps.Jumps.{Jumps}

abbrev pub arms_code_in : Ground → Jumps → List Tree → List TArm → List Tree
arms_code_in g j last arms = arms_code g j last (arms_of (map arm_of arms))

arms_end : (g : Ground) (j : Jumps) (last : List Tree) → arms_code_in g j last [] ≡ last
unfolding arms_code
arms_end g j last = refl

-- behind the last arm stands what is behind `else`
pub begun_chain : (g : Ground) (j : Jumps) (last : List Tree) (arms : List TArm) → last ≡ arms_code_in g j last (drop (length arms) arms)
begun_chain g j last arms = sym (ap (arms_code_in g j last) (drop_all (length arms) arms (omega arith)) ∙ arms_end g j last)

-- one arm more
pub chained : (g : Ground) (j : Jumps) (last rest new : List Tree) (start : List Core) (arms : List TArm) (n i : ℕ) (arm : TArm) → i + 1 ≡ n → i < length arms → arm ≡ get_or arms i arm → rest ≡ arms_code_in g j last (drop n arms) → start ≡ [] → new ≡ trees_in start ++ arm_code g j (arm_of arm) rest → new ≡ arms_code_in g j last (drop i arms)
chained g j last rest new start arms n i arm next lt is so_far empty made =
    let first : arms_code_in g j last (drop i arms) ≡ arms_code_in g j last (arm ∷ drop (i + 1) arms) = at_drop_more (arms_code_in g j last) arms i arm lt ∙ ap (λ y. arms_code_in g j last (y ∷ drop (i + 1) arms)) (sym is) in
    let second : arms_code_in g j last (arm ∷ drop (i + 1) arms) ≡ arm_code g j (arm_of arm) (arms_code_in g j last (drop (i + 1) arms)) = arms_more g j last (arm_of arm) (arms_of (map arm_of (drop (i + 1) arms))) in
    let third : rest ≡ arms_code_in g j last (drop (i + 1) arms) = so_far ∙ ap (λ k. arms_code_in g j last (drop k arms)) (sym next) in
    made ∙ (ap (λ t. trees_in t ++ arm_code g j (arm_of arm) rest) empty ∙ (ap (arm_code g j (arm_of arm)) third ∙ sym (first ∙ second)))

-- the whole chain behind other code
pub all_chained : (g : Ground) (j : Jumps) (last rest old new : List Tree) (arms : List TArm) (n : ℕ) → n ≡ 0 → rest ≡ arms_code_in g j last (drop n arms) → new ≡ old ++ rest → new ≡ old ++ arms_code_in g j last arms
all_chained g j last rest old new arms n none so_far put = put ∙ ap (λ t. old ++ t) (so_far ∙ ap (λ k. arms_code_in g j last (drop k arms)) none)

abbrev pub segments_code_in : Ground → Jumps → List ℕ → ℕ → ℕ → ℕ → List TStmt → Segments
segments_code_in g j labels count i begun ss = segments_code g j labels count i begun (statements_of (map statement_of ss))

segments_end : (g : Ground) (j : Jumps) (labels : List ℕ) (count i begun : ℕ) → segments_code_in g j labels count i begun [] ≡ cut (has labels i) no_segments
unfolding segments_code
segments_end g j labels count i begun = refl

segments_more : (g : Ground) (j : Jumps) (labels : List ℕ) (count i begun : ℕ) (s : TStmt) (ss : List TStmt) → segments_code_in g j labels count i begun (s ∷ ss) ≡ cut (has labels i) (joined (stmt_code g (in_segment j (count - begun_with (has labels i) begun)) (statement_of s)) (segments_code_in g j labels count (i + 1) (begun_with (has labels i) begun) ss))
unfolding segments_code
segments_more g j labels count i begun s ss = refl

-- The whole, from what has been made: the code of the comparisons before the first segment, and later what leads to a
-- segment with the part of that which has been made.
abbrev finished_by : Bool → List Tree → Segments → List Tree
finished_by none code s = if none then around code s else nest code (s.running ∷ s.later)

abbrev pub finished : ℕ → List Tree → Segments → List Tree
finished begun code s = finished_by (nat_eq begun 0) code s

abbrev closed_by : Bool → List Tree → List Tree
closed_by none code = core.Loop (many (if none then code else (code ++ core.Exit 0 ∷ []))) ∷ []

nest_joined : (inner code : List Tree) (s : Segments) → nest inner ((code ++ s.running) ∷ s.later) ≡ nest (inner ++ code) (s.running ∷ s.later)
nest_joined inner code s = ap (λ t. nest (core.Loop (many (t ++ core.Exit 0 ∷ [])) ∷ []) s.later) (sym (append_assoc inner code s.running))

has_begun : (n : ℕ) → nat_eq (n + 1) 0 ≡ false
has_begun n = ne_eqb (n + 1) 0 (λ e. let bad : ⊥ = omega (arith, e) in bad)

-- a statement behind a label, and one behind none
begins_step : (none : Bool) (code more : List Tree) (s : Segments) → finished_by none code (cut true (joined more s)) ≡ nest (closed_by none code ++ more) (s.running ∷ s.later)
begins_step true code more s = nest_joined (closed_by true code) more s
begins_step false code more s = ap (λ t. nest (core.Loop (many (t ++ core.Exit 0 ∷ [])) ∷ []) ((more ++ s.running) ∷ s.later)) (append-nil code) ∙ nest_joined (closed_by false code) more s

goes_on_step : (none : Bool) (code more : List Tree) (s : Segments) → finished_by none code (joined more s) ≡ finished_by none (code ++ (if none then [] else more)) s
goes_on_step true code more s = ap (λ t. nest (core.Loop (many t) ∷ []) s.later) (sym (append-nil code))
goes_on_step false code more s = nest_joined code more s

statement_step : (begins : Bool) (begun : ℕ) (code more : List Tree) (s : Segments) → finished begun code (cut begins (joined more s)) ≡ finished (begun_with begins begun) (opened begins begun code ++ reached (begun_with begins begun) more) s
statement_step true begun code more s = begins_step (nat_eq begun 0) code more s ∙ sym (ap (λ none. finished_by none (closed begun code ++ (if none then [] else more)) s) (has_begun begun))
statement_step false begun code more s = goes_on_step (nat_eq begun 0) code more s

-- behind the last one
begins_end : (none : Bool) (code : List Tree) → finished_by none code (cut true no_segments) ≡ closed_by false (closed_by none code)
begins_end true code = refl
begins_end false code = ap (λ t. closed_by false (core.Loop (many (t ++ core.Exit 0 ∷ [])) ∷ [])) (append-nil code)

goes_on_end : (none : Bool) (code : List Tree) → finished_by none code no_segments ≡ closed_by none code
goes_on_end true code = refl
goes_on_end false code = ap (λ t. core.Loop (many (t ++ core.Exit 0 ∷ [])) ∷ []) (append-nil code)

statements_end : (begins : Bool) (begun : ℕ) (code : List Tree) → finished begun code (cut begins no_segments) ≡ closed (begun_with begins begun) (opened begins begun code)
statements_end true begun code = begins_end (nat_eq begun 0) code ∙ sym (ap (λ none. closed_by none (closed begun code)) (has_begun begun))
statements_end false begun code = goes_on_end (nat_eq begun 0) code

-- a segment's next statement, as the code comes to it
same_step : (g : Ground) (j : Jumps) (labels : List ℕ) (count i begun begun2 behind : ℕ) (begins is : Bool) (code code2 code3 : List Tree) (s : Statement) (F : ℕ → List Tree → List Tree) → begins ≡ is → code2 ≡ opened begins begun code → begun2 ≡ begun_with begins begun → behind ≡ count - begun2 → code3 ≡ code2 ++ reached begun2 (stmt_code g (in_segment j behind) s) → F (begun_with is begun) (opened is begun code ++ reached (begun_with is begun) (stmt_code g (in_segment j (count - begun_with is begun)) s)) ≡ F begun2 code3
same_step g j labels count i begun begun2 behind begins is code code2 code3 s F b c n k d =
    let n2 : begun2 ≡ begun_with is begun = n ∙ ap (λ x. begun_with x begun) b in
    let c2 : code2 ≡ opened is begun code = c ∙ ap (λ x. opened x begun code) b in
    let k2 : behind ≡ count - begun_with is begun = k ∙ ap (λ x. count - x) n2 in
    let d2 : code3 ≡ opened is begun code ++ reached (begun_with is begun) (stmt_code g (in_segment j (count - begun_with is begun)) s) = d ∙ (ap (λ x. x ++ reached begun2 (stmt_code g (in_segment j behind) s)) c2 ∙ (ap (λ x. opened is begun code ++ reached x (stmt_code g (in_segment j behind) s)) n2 ∙ ap (λ x. opened is begun code ++ reached (begun_with is begun) (stmt_code g (in_segment j x) s)) k2)) in
    sym (ap (λ x. F x code3) n2 ∙ ap (λ x. F (begun_with is begun) x) d2)

pub segment_step : (g : Ground) (j : Jumps) (labels : List ℕ) (count i begun begun2 behind : ℕ) (begins : Bool) (code code2 code3 whole : List Tree) (ss : List TStmt) (s : TStmt) → i < length ss → s ≡ get_or ss i s → begins ≡ has labels i → code2 ≡ opened begins begun code → begun2 ≡ begun_with begins begun → behind ≡ count - begun2 → code3 ≡ code2 ++ reached begun2 (stmt_code g (in_segment j behind) (statement_of s)) → finished begun code (segments_code_in g j labels count i begun (drop i ss)) ≡ whole → finished begun2 code3 (segments_code_in g j labels count (i + 1) begun2 (drop (i + 1) ss)) ≡ whole
segment_step g j labels count i begun begun2 behind begins code code2 code3 whole ss s lt is b c n k d so_far =
    let left : List TStmt → List Tree = λ ys. finished begun code (segments_code_in g j labels count i begun ys) in
    let first : left (drop i ss) ≡ left (s ∷ drop (i + 1) ss) = at_drop_more left ss i s lt ∙ ap (λ y. left (y ∷ drop (i + 1) ss)) (sym is) in
    let more : List Tree = stmt_code g (in_segment j (count - begun_with (has labels i) begun)) (statement_of s) in
    let rest : Segments = segments_code_in g j labels count (i + 1) (begun_with (has labels i) begun) (drop (i + 1) ss) in
    let F : ℕ → List Tree → List Tree = λ m t. finished m t (segments_code_in g j labels count (i + 1) m (drop (i + 1) ss)) in
    sym (first ∙ (ap (finished begun code) (segments_more g j labels count i begun s (drop (i + 1) ss)) ∙ (statement_step (has labels i) begun code more rest ∙ same_step g j labels count i begun begun2 behind begins (has labels i) code code2 code3 (statement_of s) F b c n k d))) ∙ so_far

-- behind the last statement
pub segments_done : (g : Ground) (j : Jumps) (labels : List ℕ) (count i n begun begun2 : ℕ) (begins : Bool) (code code2 old new whole : List Tree) (ss : List TStmt) → length ss ≤ i → i ≡ n → begins ≡ has labels n → code2 ≡ opened begins begun code → begun2 ≡ begun_with begins begun → new ≡ old ++ closed begun2 code2 → finished begun code (segments_code_in g j labels count i begun (drop i ss)) ≡ whole → new ≡ old ++ whole
segments_done g j labels count i n begun begun2 begins code code2 old new whole ss past at b c m d so_far =
    let b2 : begins ≡ has labels i = b ∙ ap (has labels) (sym at) in
    let m2 : begun2 ≡ begun_with (has labels i) begun = m ∙ ap (λ x. begun_with x begun) b2 in
    let c2 : code2 ≡ opened (has labels i) begun code = c ∙ ap (λ x. opened x begun code) b2 in
    let last : finished begun code (segments_code_in g j labels count i begun (drop i ss)) ≡ closed (begun_with (has labels i) begun) (opened (has labels i) begun code) = ap (λ ys. finished begun code (segments_code_in g j labels count i begun ys)) (drop_all i ss past) ∙ (ap (finished begun code) (segments_end g j labels count i begun) ∙ statements_end (has labels i) begun code) in
    d ∙ (ap (λ x. old ++ closed x code2) m2 ∙ (ap (λ x. old ++ closed (begun_with (has labels i) begun) x) c2 ∙ ap (λ x. old ++ x) (sym last ∙ so_far)))

-- how many statements there are
pub counted : (ss : List TStmt) → count_of (statements_of (map statement_of ss)) ≡ length ss
counted [] = refl
counted (s ∷ ss) = ap suc (counted ss)

pub no_labels : (labels : List ℕ) (code : List Tree) → length labels ≡ 0 → for_labels labels code ≡ []
no_labels [] code none = refl
no_labels (label ∷ labels) code none = absurd (let bad : ⊥ = omega (arith, none) in bad)

pub some_labels : (labels : List ℕ) (code : List Tree) → 0 < length labels → for_labels labels code ≡ code
some_labels [] code some = absurd (let bad : ⊥ = omega (arith, some) in bad)
some_labels (label ∷ labels) code some = refl

-- a switch with labels
pub switch_some : (g : Ground) (j : Jumps) (value : Expression) (cases : List TCase) (default : Option ℕ) (labels : List ℕ) (count : ℕ) (ss : List TStmt) (old mid new : List Tree) → mid ≡ old ++ value_code g value → labels ≡ labels_of cases default → 0 < length labels → count ≡ segments_before (length ss + 1) labels → new ≡ mid ++ around (comparisons g value cases default labels count) (segments_code_in g j labels count 0 0 ss) → new ≡ old ++ switch_code g j value cases default (statements_of (map statement_of ss))
switch_some g j value cases default labels count ss old mid new put made some counts done =
    let stmts : Statements = statements_of (map statement_of ss) in
    let n : count ≡ segments_in stmts labels = counts ∙ ap (λ k. segments_before (k + 1) labels) (sym (counted ss)) in
    let whole : around (comparisons g value cases default labels count) (segments_code_in g j labels count 0 0 ss) ≡ labelled_code g j value cases default labels stmts = ap (λ k. around (comparisons g value cases default labels k) (segments_code_in g j labels k 0 0 ss)) n in
    let chosen : labelled_code g j value cases default labels stmts ≡ for_labels labels (labelled_code g j value cases default labels stmts) = sym (some_labels labels (labelled_code g j value cases default labels stmts) some) in
    let named : for_labels labels (labelled_code g j value cases default labels stmts) ≡ for_labels (labels_of cases default) (labelled_code g j value cases default (labels_of cases default) stmts) = ap (λ ls. for_labels ls (labelled_code g j value cases default ls stmts)) made in
    done ∙ (ap (λ t. t ++ around (comparisons g value cases default labels count) (segments_code_in g j labels count 0 0 ss)) put ∙ (append_assoc old (value_code g value) (around (comparisons g value cases default labels count) (segments_code_in g j labels count 0 0 ss)) ∙ ap (λ t. old ++ (value_code g value ++ t)) (whole ∙ (chosen ∙ named))))

pub few_begun : (begins : Bool) (begun now i : ℕ) → now ≡ begun_with begins begun → begun ≤ i → now ≤ i + 1
few_begun true begun now i is few = omega (arith, is, few)
few_begun false begun now i is few = omega (arith, is, few)

pub ruleset labelled = (no_labels, append-nil)
