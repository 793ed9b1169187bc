-- The turns of the loop over waves, over the lists that the code has; and the numbers at a level, one after the other.
use Rattle.std.proofs.Common.{◌≡◌, ℕ, ◌+◌, ◌<◌, ◌↔◌, inl, inr, List, [], ◌∷◌, ◌++◌, Option, Some, None, length, get_or, take, drop, replicate, sym, ap, ◌∙◌, subst, arith}
use Rattle.std.specs.Global.{Global}
use Rattle.std.specs.List.{Contains}
use Rattle.std.specs.declared.vec.Vec.{Vec}
use Rattle.std.proofs.lemmas.Bool.{cases_eq}
use Rattle.std.proofs.lemmas.List.{length-map}
use Rattle.std.proofs.lemmas.List.Elements.{Contains-append_left, Contains-push, Contains-push_cases}
use Rattle.call_graph.specs.Levels.{AreLevels, IsLongest}
use Rattle.call_graph.specs.Rows.{rows_of}
use Rattle.call_graph.specs.Waves.{AreAtLevel, Raised, callees}
use Rattle.call_graph.proofs.Appends.{written_back}
use Rattle.call_graph.proofs.Marking.{in_none}
use Rattle.call_graph.proofs.Rising.{Knows, knows_first, knows_next, knows_levels, knows_longest}

-- the levels with a slice of all of them written back
abbrev pub back : ℕ → List (Option ℕ) → List (Option ℕ) → List (Option ℕ)
back count items new = take count (new ++ drop (length new) items)

pub turn_first : (rows : List (Vec ℕ Global)) (root count : ℕ) (items given new seen : List (Option ℕ)) (wave : List ℕ) → items ≡ replicate (length rows) None → given ≡ items → count ≡ length items → root < length rows → Raised 0 (root ∷ []) given new → seen ≡ back count items new → AreAtLevel seen 0 wave → Knows (rows_of rows) root 0 (back count items new) wave
turn_first rows root count items given new seen wave is same counted lt r look at =
    let whole : back count items new ≡ new = written_back items new count counted (r.size ∙ ap length same) in
    let rows_count = length-map rows (λ (v : Vec ℕ Global). v.items) in
    let start : items ≡ replicate (length (rows_of rows)) None = is ∙ ap (λ (n : ℕ). replicate n None) (sym rows_count) in
    let r2 : Raised 0 (root ∷ []) items new = subst (λ (l : List (Option ℕ)). Raised 0 (root ∷ []) l new) same r in
    let at2 : AreAtLevel new 0 wave = subst (λ (l : List (Option ℕ)). AreAtLevel l 0 wave) (look ∙ whole) at in
    subst (λ (l : List (Option ℕ)). Knows (rows_of rows) root 0 l wave) (sym whole) (knows_first (rows_of rows) root items new wave start (omega (arith, rows_count)) r2 at2)

-- what a turn of the loop gives
turned : (graph : List (List ℕ)) (level count : ℕ) (items given new seen : List (Option ℕ)) (wave called next : List ℕ) → given ≡ items → count ≡ length items → called ≡ wave → Raised level (callees graph called) given new → seen ≡ back count items new → AreAtLevel seen level next → (back count items new ≡ new) × Raised level (callees graph wave) items new × AreAtLevel new level next
turned graph level count items given new seen wave called next same counted calls r look at =
    let whole : back count items new ≡ new = written_back items new count counted (r.size ∙ ap length same) in
    (whole, subst (λ (l : List ℕ). Raised level (callees graph l) items new) calls (subst (λ (l : List (Option ℕ)). Raised level (callees graph called) l new) same r), subst (λ (l : List (Option ℕ)). AreAtLevel l level next) (look ∙ whole) at)

pub turn_next : (graph : List (List ℕ)) (root k count : ℕ) (items given new seen : List (Option ℕ)) (wave called next : List ℕ) → given ≡ items → count ≡ length items → called ≡ wave → Raised (k + 1) (callees graph called) given new → seen ≡ back count items new → AreAtLevel seen (k + 1) next → Knows graph root k items wave → 0 < length next → Knows graph root (k + 1) (back count items new) next
turn_next graph root k count items given new seen wave called next same counted calls r look at known many =
    let t = turned graph (k + 1) count items given new seen wave called next same counted calls r look at in
    subst (λ (l : List (Option ℕ)). Knows graph root (k + 1) l next) (sym t.0) (knows_next graph root k items new wave next known t.1 t.2 many)

pub turn_levels : (graph : List (List ℕ)) (root k count : ℕ) (items given new seen : List (Option ℕ)) (wave called next : List ℕ) → given ≡ items → count ≡ length items → called ≡ wave → Raised (k + 1) (callees graph called) given new → seen ≡ back count items new → AreAtLevel seen (k + 1) next → Knows graph root k items wave → length next ≡ 0 → AreLevels graph root (back count items new)
turn_levels graph root k count items given new seen wave called next same counted calls r look at known none =
    let t = turned graph (k + 1) count items given new seen wave called next same counted calls r look at in
    subst (λ (l : List (Option ℕ)). AreLevels graph root l) (sym t.0) (knows_levels graph root k items new wave next known t.1 t.2 none)

pub turn_size : (graph : List (List ℕ)) (root k count : ℕ) (items given new seen : List (Option ℕ)) (wave called next : List ℕ) → given ≡ items → count ≡ length items → called ≡ wave → Raised (k + 1) (callees graph called) given new → seen ≡ back count items new → AreAtLevel seen (k + 1) next → Knows graph root k items wave → length next ≡ 0 → length (back count items new) ≡ length graph
turn_size graph root k count items given new seen wave called next same counted calls r look at known none =
    let t = turned graph (k + 1) count items given new seen wave called next same counted calls r look at in
    ap length t.0 ∙ (t.1.size ∙ known.size)

pub turn_longest : (graph : List (List ℕ)) (root k count : ℕ) (items given new seen : List (Option ℕ)) (wave called next : List ℕ) → given ≡ items → count ≡ length items → called ≡ wave → Raised (k + 1) (callees graph called) given new → seen ≡ back count items new → AreAtLevel seen (k + 1) next → Knows graph root k items wave → length next ≡ 0 → IsLongest graph root k
turn_longest graph root k count items given new seen wave called next same counted calls r look at known none =
    let t = turned graph (k + 1) count items given new seen wave called next same counted calls r look at in
    knows_longest graph root k items new wave next known t.1 t.2 none

-- The numbers below i that have a level.
abbrev pub AreBelow : List (Option ℕ) → ℕ → ℕ → List ℕ → Type 0
AreBelow levels level i numbers = (n : ℕ) → Contains numbers n ↔ ((n < i) × (get_or levels n None ≡ Some level))

pub below_none : (levels : List (Option ℕ)) (level : ℕ) → AreBelow levels level 0 []
below_none levels level = λ n. (λ c. absurd (in_none n c), λ h. absurd (let lt : n < 0 = h.0 in omega arith))

pub below_push : (levels : List (Option ℕ)) (level i : ℕ) (numbers new : List ℕ) → AreBelow levels level i numbers → new ≡ numbers ++ i ∷ [] → get_or levels i None ≡ Some level → AreBelow levels level (i + 1) new
below_push levels level i numbers new are is here = λ n. (
  λ c. elim (Contains-push_cases numbers i n (subst (λ (l : List ℕ). Contains l n) is c)) [
    | inl o ↦ (let h = (are n).0 o in let lt : n < i = h.0 in (omega arith, h.1))
    | inr e ↦ (omega (arith, e), subst (λ (k : ℕ). get_or levels k None ≡ Some level) e here)
  ],
  λ h. subst (λ (l : List ℕ). Contains l n) (sym is) (elim (cases_eq i n) [
    | inl e ↦ subst (λ (k : ℕ). Contains (numbers ++ i ∷ []) k) e (Contains-push numbers i)
    | inr ne ↦ Contains-append_left numbers (i ∷ []) n ((are n).1 ((let lt : n < i + 1 = h.0 in omega (arith, ne)), h.1))
  ]),
)

pub below_skip : (levels : List (Option ℕ)) (level i : ℕ) (numbers new : List ℕ) → AreBelow levels level i numbers → new ≡ numbers → (get_or levels i None ≡ Some level → ⊥) → AreBelow levels level (i + 1) new
below_skip levels level i numbers new are is here = λ n. (
  λ c. (let h = (are n).0 (subst (λ (l : List ℕ). Contains l n) is c) in let lt : n < i = h.0 in (omega arith, h.1)),
  λ h. subst (λ (l : List ℕ). Contains l n) (sym is) (elim (cases_eq i n) [
    | inl e ↦ absurd (here (subst (λ (k : ℕ). get_or levels k None ≡ Some level) (sym e) h.1))
    | inr ne ↦ (are n).1 ((let lt : n < i + 1 = h.0 in omega (arith, ne)), h.1)
  ]),
)

pub below_all : (levels : List (Option ℕ)) (level i : ℕ) (numbers : List ℕ) → i ≡ length levels → AreBelow levels level i numbers → AreAtLevel levels level numbers
below_all levels level i numbers all are = λ n. (
  λ c. (let h = (are n).0 c in let lt : n < i = h.0 in (omega (arith, all), h.1)),
  λ h. (are n).1 ((let lt : n < length levels = h.0 in omega (arith, all)), h.1),
)
