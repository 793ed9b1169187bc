-- The tables of a program one by one, and where one of them stands.
use Rattle.std.proofs.Common.{◌≡◌, ℕ, ◌+◌, ◌<◌, ◌≤◌, Bool, true, false, cond, nat_eq, List, [], ◌∷◌, ◌++◌, length, map, drop, get_or, Option, Some, suc, sym, ap, ◌∙◌, arith, append_assoc, append-nil}
use Rattle.std.proofs.lemmas.List.{drop_all, drop_more}
use Rattle.std.proofs.lemmas.Option.{none-some, same_Some}
use Rattle.c_typed.specs.Trees as tree
use Rattle.c_typed.specs.Trees.{Expression, Place, StaticTree, Program}
use Rattle.c_typed.specs.Views.{static_of}
use Rattle.c_typed.specs.declared.expression.Object.{Object}
use Rattle.c_typed.specs.declared.expression.Object.TheVariants as objects
use Rattle.c_typed.specs.declared.program.Static.{Static}
use Rattle.rom_tables.specs.Tables.{is_table, tables_from, place_in, object_table, place_table, start_table}

-- ---- where one stands
in_one : (here : Bool) (k t rest : ℕ) (found : Option ℕ) → (found ≡ Some t → t < (k + 1) + rest) → cond here (Some k) found ≡ Some t → t < k + suc rest
in_one true k t rest found below is = let e = same_Some k t is in omega (arith, e)
in_one false k t rest found below is = let b = below is in omega (arith, b)

in_below : (n k : ℕ) (ts : List ℕ) (t : ℕ) → place_in n k ts ≡ Some t → t < k + length ts
in_below n k [] t is = absurd (none-some t is)
in_below n k (u ∷ ts) t is = in_one (nat_eq u n) k t (length ts) (place_in n (k + 1) ts) (in_below n (k + 1) ts t) is

object_below : (ts : List ℕ) (object : Object) (t : ℕ) → object_table ts object ≡ Some t → t < length ts
object_below ts (objects.Static n) t is = let b = in_below n 0 ts t is in omega (arith, b)
object_below ts (objects.Param n) t is = absurd (none-some t is)
object_below ts (objects.Local n) t is = absurd (none-some t is)
object_below ts (objects.Register n) t is = absurd (none-some t is)

place_below : (ts : List ℕ) (place : Place) (t : ℕ) → place_table ts place ≡ Some t → t < length ts
place_below ts (tree.Name object ty line) t is = object_below ts object t is
place_below ts (tree.Bit register bit line) t is = absurd (none-some t is)
place_below ts (tree.Member whole member offset ty line) t is = absurd (none-some t is)
place_below ts (tree.Deref pointer ty line) t is = absurd (none-some t is)

-- A table that is told is one of them.
pub start_below : (ts : List ℕ) (e : Expression) (t : ℕ) → start_table ts e ≡ Some t → t < length ts
start_below ts (tree.Address place ty line) t is = place_below ts place t is
start_below ts (tree.Constant value line) t is = absurd (none-some t is)
start_below ts _ t is = absurd (none-some t is)

-- ---- one after the other
-- what is left of a list, from one that is there
left : (ts : List ℕ) (k t : ℕ) → k < length ts → t ≡ get_or ts k t → drop k ts ≡ t ∷ drop (k + 1) ts
left ts k t below is = drop_more ts k t below ∙ ap (λ u. u ∷ drop (k + 1) ts) (sym is)

pub is_here : (n k : ℕ) (ts : List ℕ) (t : ℕ) → k < length ts → t ≡ get_or ts k t → nat_eq t n ≡ true → place_in n k (drop k ts) ≡ Some k
is_here n k ts t below is same = ap (place_in n k) (left ts k t below is) ∙ ap (λ b. cond b (Some k) (place_in n (k + 1) (drop (k + 1) ts))) same

pub not_here : (n k : ℕ) (ts : List ℕ) (t : ℕ) → k < length ts → t ≡ get_or ts k t → nat_eq t n ≡ false → place_in n k (drop k ts) ≡ place_in n (k + 1) (drop (k + 1) ts)
not_here n k ts t below is other = ap (place_in n k) (left ts k t below is) ∙ ap (λ b. cond b (Some k) (place_in n (k + 1) (drop (k + 1) ts))) other

left_static : (ss : List Static) (k : ℕ) (s : Static) → k < length ss → s ≡ get_or ss k s → map static_of (drop k ss) ≡ static_of s ∷ map static_of (drop (k + 1) ss)
left_static ss k s below is = ap (map static_of) (drop_more ss k s below) ∙ ap (λ u. static_of u ∷ map static_of (drop (k + 1) ss)) (sym is)

pub is_found : (p : Program) (found whole : List ℕ) (k n : ℕ) (ss : List Static) (s : Static) → k < length ss → s ≡ get_or ss k s → n ≡ k → is_table p (static_of s) ≡ true → found ++ tables_from p k (map static_of (drop k ss)) ≡ whole → (found ++ n ∷ []) ++ tables_from p (k + 1) (map static_of (drop (k + 1) ss)) ≡ whole
is_found p found whole k n ss s below is same table before =
    append_assoc found (n ∷ []) (tables_from p (k + 1) (map static_of (drop (k + 1) ss)))
    ∙ ap (λ (m : ℕ). found ++ m ∷ tables_from p (k + 1) (map static_of (drop (k + 1) ss))) same
    ∙ ap (λ (l : List ℕ). found ++ l) (sym (ap (tables_from p k) (left_static ss k s below is) ∙ ap (λ b. cond b (k ∷ tables_from p (k + 1) (map static_of (drop (k + 1) ss))) (tables_from p (k + 1) (map static_of (drop (k + 1) ss)))) table))
    ∙ before

pub is_none : (p : Program) (found whole : List ℕ) (k : ℕ) (ss : List Static) (s : Static) → k < length ss → s ≡ get_or ss k s → is_table p (static_of s) ≡ false → found ++ tables_from p k (map static_of (drop k ss)) ≡ whole → found ++ tables_from p (k + 1) (map static_of (drop (k + 1) ss)) ≡ whole
is_none p found whole k ss s below is table before =
    ap (λ (l : List ℕ). found ++ l) (sym (ap (tables_from p k) (left_static ss k s below is) ∙ ap (λ b. cond b (k ∷ tables_from p (k + 1) (map static_of (drop (k + 1) ss))) (tables_from p (k + 1) (map static_of (drop (k + 1) ss)))) table))
    ∙ before

pub all_found : (p : Program) (found whole : List ℕ) (k : ℕ) (ss : List Static) → length ss ≤ k → found ++ tables_from p k (map static_of (drop k ss)) ≡ whole → found ≡ whole
all_found p found whole k ss past before = sym (append-nil found) ∙ ap (λ (l : List Static). found ++ tables_from p k (map static_of l)) (sym (drop_all k ss past)) ∙ before
