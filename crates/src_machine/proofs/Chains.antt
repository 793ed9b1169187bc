-- Arms, statements and items by their numbers, of the lists that the code has.
use Rattle.std.proofs.Common.{◌≡◌, Bool, ℕ, zero, suc, ◌<◌, ◌≤◌, length, arith, List, [], ◌∷◌, true, false, map, drop, Option, Some, None, option_map, slice_get, refl, sym, subst, ap, ◌∙◌}
use Rattle.std.specs.Prelude.{get_or, Vec}
use Rattle.std.specs.Global.{Global}
use Rattle.c_typed.proofs.Shapes.{show_arm}
use Rattle.c_typed.specs.Trees as tree
use Rattle.c_typed.specs.Trees.{Statement, Arms, LastArm, Item}
use Rattle.c_typed.specs.Views.{expression_of, place_of, statement_of, statements_of, arm_of, arms_of, last_arm_of, item_of}
use Rattle.c_typed.specs.declared.statement.TArm.{TArm}
use Rattle.c_typed.specs.declared.statement.TItem.{TItem}
use Rattle.c_typed.specs.declared.statement.TStmt.{TStmt}
use Rattle.c_typed.specs.declared.statement.TStmt.TheViews.{out-TArm}
use Rattle.pic_world.specs.World.{World}
use Rattle.src_machine.specs.Branches.{IsIf, HasItems}
use Rattle.src_rules.specs.Accesses.{goes, items}
use Rattle.src_rules.specs.Giving.{take_for, branch}
use Rattle.src_rules.specs.State.{Lost, Undefined}
use Rattle.src_rules.specs.Statements.{arms, proceed}
use Rattle.src_values.specs.Control as control
use Rattle.src_values.specs.Control.{Pending, Eval, Find, Spell, Blank, Run, Past, Doing, Before, InArm, statement_line}
use Rattle.src_values.specs.Data.{Datum}
use Rattle.src_values.specs.Memory.{Setting, Memory}
use Rattle.src_values.specs.Objects.{behind, object_bytes}
use Rattle.src_values.specs.Seen.{arms_from, arms_in, items_in, picks_of, at_item_of, items_of, or_empty}
use Rattle.src_values.specs.Values.{truth_of}
use Rattle.src_values.specs.declared.objects.Byte.{Byte}
use Rattle.src_values.specs.declared.objects.CopyOf.{CopyOf}
use Rattle.src_values.specs.declared.objects.Undef.TheVariants.{Unset}

-- ---- arms
no_more_arms : (xs : List TArm) (n : ℕ) → length xs ≤ n → arms_from n (arms_of (map arm_of xs)) ≡ tree.NoArm
no_more_arms [] zero h = refl
no_more_arms [] (suc n) h = refl
no_more_arms (x ∷ xs) zero h = absurd (omega arith)
no_more_arms (x ∷ xs) (suc n) h = no_more_arms xs n (omega arith)

more_arms : (xs : List TArm) (n : ℕ) (a : TArm) → n < length xs → a ≡ get_or xs n a → arms_from n (arms_of (map arm_of xs)) ≡ tree.AndArm (arm_of a) (arms_from (suc n) (arms_of (map arm_of xs)))
more_arms [] n a h i = absurd (omega arith)
more_arms (x ∷ xs) zero a h i = ap (λ y. tree.AndArm (arm_of y) (arms_of (map arm_of xs))) (sym i)
more_arms (x ∷ xs) (suc n) a h i = more_arms xs n a (omega arith) i

arms_in_if : (t : Statement) (chain : Arms) (otherwise : LastArm) (line : ℕ) → t ≡ tree.If chain otherwise line → arms_in t ≡ chain
arms_in_if t chain otherwise line h = ap arms_in h

-- an arm of a chain, of the trees that the code has
shown_more : (t : Statement) (xs : List TArm) (otherwise : LastArm) (n : ℕ) (a : TArm) → t ≡ tree.If (arms_of (map arm_of xs)) otherwise (statement_line t) → n < length xs → a ≡ get_or xs n a
    → arms_from n (arms_in t) ≡ tree.AndArm (tree.OneArm (expression_of (out-TArm a).condition) (statement_of (out-TArm a).then) (out-TArm a).line) (arms_from (suc n) (arms_in t))
shown_more t xs otherwise n a is h i =
    ap (arms_from n) (arms_in_if t (arms_of (map arm_of xs)) otherwise (statement_line t) is)
    ∙ more_arms xs n a h i
    ∙ ap (λ b. tree.AndArm b (arms_from (suc n) (arms_of (map arm_of xs)))) (show_arm a)
    ∙ ap (λ chain. tree.AndArm (tree.OneArm (expression_of (out-TArm a).condition) (statement_of (out-TArm a).then) (out-TArm a).line) (arms_from (suc n) chain)) (sym (arms_in_if t (arms_of (map arm_of xs)) otherwise (statement_line t) is))

shown_none : (t : Statement) (xs : List TArm) (otherwise : LastArm) (n : ℕ) → t ≡ tree.If (arms_of (map arm_of xs)) otherwise (statement_line t) → length xs ≤ n → arms_from n (arms_in t) ≡ tree.NoArm
shown_none t xs otherwise n is h = ap (arms_from n) (arms_in_if t (arms_of (map arm_of xs)) otherwise (statement_line t) is) ∙ no_more_arms xs n h

arm_by : (t : Statement) (all : Arms) (more : Arms) (e : _) (s : Statement) (line : ℕ) (otherwise : LastArm) (k : List Pending) (c : CopyOf) (m : Memory) (w : World Byte) → all ≡ tree.AndArm (tree.OneArm e s line) more
    → arms t all otherwise k c m w ≡ goes c (Eval e) (Doing t (picks_of t all) ∷ k) m w
arm_by t all more e s line otherwise k c m w h = subst (λ x. arms t x otherwise k c m w ≡ goes c (Eval e) (Doing t (picks_of t x) ∷ k) m w) (sym h) refl

-- the condition of the arm of this number is evaluated
pub arm_begins : (t : Statement) (chain : _) (otherwise : _) (n : ℕ) (a : TArm) (k : List Pending) (c : CopyOf) (m : Memory) (w : World Byte) → IsIf t chain otherwise → n < length chain.items → a ≡ get_or chain.items n a
    → arms t (arms_from n (arms_in t)) (last_arm_of otherwise) k c m w ≡ goes c (Eval (expression_of (out-TArm a).condition)) (Doing t (picks_of t (arms_from n (arms_in t))) ∷ k) m w
arm_begins t chain otherwise n a k c m w is h i =
    arm_by t (arms_from n (arms_in t)) (arms_from (suc n) (arms_in t)) (expression_of (out-TArm a).condition) (statement_of (out-TArm a).then) (out-TArm a).line (last_arm_of otherwise) k c m w
    (shown_more t chain.items (last_arm_of otherwise) n a is h i)

-- no arm is left
pub arms_end_alone : (t : Statement) (chain : _) (n : ℕ) (k : List Pending) (c : CopyOf) (m : Memory) (w : World Byte) → IsIf t chain None → length chain.items ≤ n
    → arms t (arms_from n (arms_in t)) tree.NoLast k c m w ≡ goes c Past k m w
arms_end_alone t chain n k c m w is h = ap (λ x. arms t x tree.NoLast k c m w) (shown_none t chain.items tree.NoLast n is h)

last_by : (t : Statement) (all : Arms) (s : Statement) (k : List Pending) (c : CopyOf) (m : Memory) (w : World Byte) → all ≡ tree.NoArm
    → arms t all (tree.Last s) k c m w ≡ goes c (Run s) (Doing t (InArm all) ∷ k) m w
last_by t all s k c m w h = subst (λ x. arms t x (tree.Last s) k c m w ≡ goes c (Run s) (Doing t (InArm x) ∷ k) m w) (sym h) refl

pub arms_end_else : (t : Statement) (chain : _) (final : _) (n : ℕ) (k : List Pending) (c : CopyOf) (m : Memory) (w : World Byte) → IsIf t chain (Some final) → length chain.items ≤ n
    → arms t (arms_from n (arms_in t)) (tree.Last (statement_of final.value)) k c m w ≡ goes c (Run (statement_of final.value)) (Doing t (InArm (arms_from n (arms_in t))) ∷ k) m w
arms_end_else t chain final n k c m w is h = last_by t (arms_from n (arms_in t)) (statement_of final.value) k c m w (shown_none t chain.items (tree.Last (statement_of final.value)) n is h)

-- the statement of an arm
arm_found : (xs : List TArm) (n : ℕ) (a : TArm) → n < length xs → a ≡ get_or xs n a → or_empty (option_map (λ arm. (out-TArm arm).then) (slice_get xs n)) ≡ statement_of (out-TArm a).then
arm_found [] n a h i = absurd (omega arith)
arm_found (x ∷ xs) zero a h i = ap (λ y. statement_of (out-TArm y).then) (sym i)
arm_found (x ∷ xs) (suc n) a h i = arm_found xs n a (omega arith) i

-- ---- an arm is picked
picked_from : (s : Setting) (t : Statement) (chain : Arms) (otherwise : LastArm) (at : ℕ) (all : Arms) (e : _) (chosen : Statement) (line : ℕ) (more : Arms) (v : Datum) (k : List Pending) (c : CopyOf) (m : Memory) (w : World Byte)
    → t ≡ tree.If chain otherwise at → all ≡ tree.AndArm (tree.OneArm e chosen line) more
    → take_for s t (picks_of t all) v k c m w ≡ branch (truth_of v) line (goes c (Run chosen) (Doing t (InArm more) ∷ k) m w) (arms t more otherwise k c m w)
picked_from s t chain otherwise at all e chosen line more v k c m w is h =
    subst (λ x. take_for s t (picks_of t x) v k c m w ≡ branch (truth_of v) line (goes c (Run chosen) (Doing t (InArm more) ∷ k) m w) (arms t more otherwise k c m w)) (sym h)
    (subst (λ u. take_for s u (control.Picks (tree.OneArm e chosen line) more) v k c m w ≡ branch (truth_of v) line (goes c (Run chosen) (Doing u (InArm more) ∷ k) m w) (arms u more otherwise k c m w)) (sym is) refl)

picked : (s : Setting) (t : Statement) (chain : _) (otherwise : _) (n : ℕ) (a : TArm) (v : Datum) (k : List Pending) (c : CopyOf) (m : Memory) (w : World Byte) → IsIf t chain otherwise → n < length chain.items → a ≡ get_or chain.items n a
    → take_for s t (picks_of t (arms_from n (arms_in t))) v k c m w ≡ branch (truth_of v) (out-TArm a).line (goes c (Run (statement_of (out-TArm a).then)) (Doing t (InArm (arms_from (suc n) (arms_in t))) ∷ k) m w) (arms t (arms_from (suc n) (arms_in t)) (last_arm_of otherwise) k c m w)
picked s t chain otherwise n a v k c m w is h i =
    picked_from s t (arms_of (map arm_of chain.items)) (last_arm_of otherwise) (statement_line t) (arms_from n (arms_in t)) (expression_of (out-TArm a).condition) (statement_of (out-TArm a).then) (out-TArm a).line (arms_from (suc n) (arms_in t)) v k c m w
    is (shown_more t chain.items (last_arm_of otherwise) n a is h i)

none_from : (s : Setting) (t : Statement) (chain : Arms) (otherwise : LastArm) (at : ℕ) (all : Arms) (v : Datum) (k : List Pending) (c : CopyOf) (m : Memory) (w : World Byte)
    → t ≡ tree.If chain otherwise at → all ≡ tree.NoArm → take_for s t (picks_of t all) v k c m w ≡ Lost
none_from s t chain otherwise at all v k c m w is h =
    subst (λ x. take_for s t (picks_of t x) v k c m w ≡ Lost) (sym h) (subst (λ u. take_for s u (picks_of u tree.NoArm) v k c m w ≡ Lost) (sym is) refl)

pub picked_none : (s : Setting) (t : Statement) (chain : _) (otherwise : _) (n : ℕ) (v : Datum) (k : List Pending) (c : CopyOf) (m : Memory) (w : World Byte) → IsIf t chain otherwise → length chain.items ≤ n
    → take_for s t (picks_of t (arms_from n (arms_in t))) v k c m w ≡ Lost
picked_none s t chain otherwise n v k c m w is h =
    none_from s t (arms_of (map arm_of chain.items)) (last_arm_of otherwise) (statement_line t) (arms_from n (arms_in t)) v k c m w is (shown_none t chain.items (last_arm_of otherwise) n is h)

picked_by : (t : Statement) (all : Arms) (otherwise : LastArm) (r : Option Bool) (line : ℕ) (chosen found : Statement) (k : List Pending) (c : CopyOf) (m : Memory) (w : World Byte) → r ≡ Some true → found ≡ chosen
    → branch r line (goes c (Run chosen) (Doing t (InArm all) ∷ k) m w) (arms t all otherwise k c m w) ≡ goes c (Run found) (Doing t (InArm all) ∷ k) m w
picked_by t all otherwise r line chosen found k c m w h i =
    ap (λ x. branch x line (goes c (Run chosen) (Doing t (InArm all) ∷ k) m w) (arms t all otherwise k c m w)) h
    ∙ ap (λ x. goes c (Run x) (Doing t (InArm all) ∷ k) m w) (sym i)

-- by the truth of the condition
pub picked_true : (s : Setting) (t : Statement) (chain : _) (otherwise : _) (n : ℕ) (a : TArm) (v : Datum) (k : List Pending) (c : CopyOf) (m : Memory) (w : World Byte) → IsIf t chain otherwise → n < length chain.items → a ≡ get_or chain.items n a → truth_of v ≡ Some true
    → take_for s t (picks_of t (arms_from n (arms_in t))) v k c m w ≡ goes c (Run (or_empty (option_map (λ arm. (out-TArm arm).then) (slice_get chain.items n)))) (Doing t (InArm (arms_from (suc n) (arms_in t))) ∷ k) m w
picked_true s t chain otherwise n a v k c m w is h i so =
    picked s t chain otherwise n a v k c m w is h i
    ∙ picked_by t (arms_from (suc n) (arms_in t)) (last_arm_of otherwise) (truth_of v) (out-TArm a).line (statement_of (out-TArm a).then) (or_empty (option_map (λ arm. (out-TArm arm).then) (slice_get chain.items n))) k c m w so (arm_found chain.items n a h i)

pub picked_false : (s : Setting) (t : Statement) (chain : _) (otherwise : _) (n : ℕ) (a : TArm) (v : Datum) (k : List Pending) (c : CopyOf) (m : Memory) (w : World Byte) → IsIf t chain otherwise → n < length chain.items → a ≡ get_or chain.items n a → truth_of v ≡ Some false
    → take_for s t (picks_of t (arms_from n (arms_in t))) v k c m w ≡ arms t (arms_from (suc n) (arms_in t)) (last_arm_of otherwise) k c m w
picked_false s t chain otherwise n a v k c m w is h i not_so =
    picked s t chain otherwise n a v k c m w is h i
    ∙ ap (λ x. branch x (out-TArm a).line (goes c (Run (statement_of (out-TArm a).then)) (Doing t (InArm (arms_from (suc n) (arms_in t))) ∷ k) m w) (arms t (arms_from (suc n) (arms_in t)) (last_arm_of otherwise) k c m w)) not_so

pub picked_unset : (s : Setting) (t : Statement) (chain : _) (otherwise : _) (n : ℕ) (a : TArm) (v : Datum) (k : List Pending) (c : CopyOf) (m : Memory) (w : World Byte) → IsIf t chain otherwise → n < length chain.items → a ≡ get_or chain.items n a → truth_of v ≡ None
    → take_for s t (picks_of t (arms_from n (arms_in t))) v k c m w ≡ Undefined Unset (out-TArm a).line
picked_unset s t chain otherwise n a v k c m w is h i none =
    picked s t chain otherwise n a v k c m w is h i
    ∙ ap (λ x. branch x (out-TArm a).line (goes c (Run (statement_of (out-TArm a).then)) (Doing t (InArm (arms_from (suc n) (arms_in t))) ∷ k) m w) (arms t (arms_from (suc n) (arms_in t)) (last_arm_of otherwise) k c m w)) none

-- ---- statements
pub next_statement : (xs : List TStmt) (n : ℕ) (k : List Pending) (c : CopyOf) (m : Memory) (w : World Byte) → n < length xs
    → proceed (Before (statements_of (map statement_of (drop n xs))) ∷ k) c m w ≡ goes c (Run (or_empty (slice_get xs n))) (Before (statements_of (map statement_of (drop (suc n) xs))) ∷ k) m w
next_statement [] n k c m w h = absurd (omega arith)
next_statement (x ∷ xs) zero k c m w h = refl
next_statement (x ∷ xs) (suc n) k c m w h = next_statement xs n k c m w (omega arith)

pub no_statement : (xs : List TStmt) (n : ℕ) (k : List Pending) (c : CopyOf) (m : Memory) (w : World Byte) → length xs ≤ n
    → proceed (Before (statements_of (map statement_of (drop n xs))) ∷ k) c m w ≡ goes c Past k m w
no_statement [] zero k c m w h = refl
no_statement [] (suc n) k c m w h = refl
no_statement (x ∷ xs) zero k c m w h = absurd (omega arith)
no_statement (x ∷ xs) (suc n) k c m w h = no_statement xs n k c m w (omega arith)

-- ---- items
no_more_items : (xs : List TItem) (n : ℕ) → length xs ≤ n → drop n (map item_of xs) ≡ []
no_more_items [] zero h = refl
no_more_items [] (suc n) h = refl
no_more_items (x ∷ xs) zero h = absurd (omega arith)
no_more_items (x ∷ xs) (suc n) h = no_more_items xs n (omega arith)

more_items : (xs : List TItem) (n : ℕ) (x : TItem) → n < length xs → x ≡ get_or xs n x → drop n (map item_of xs) ≡ item_of x ∷ drop (suc n) (map item_of xs)
more_items [] n x h i = absurd (omega arith)
more_items (y ∷ xs) zero x h i = ap (λ z. item_of z ∷ map item_of xs) (sym i)
more_items (y ∷ xs) (suc n) x h i = more_items xs n x (omega arith) i

item_by : (s : Setting) (t : Statement) (object : _) (xs : List TItem) (n : ℕ) (x : TItem) (k : List Pending) (c : CopyOf) (m : Memory) (w : World Byte) → n < length xs → x ≡ get_or xs n x
    → items s t object (drop n (map item_of xs)) k c m w ≡ items s t object (item_of x ∷ drop (suc n) (map item_of xs)) k c m w
item_by s t object xs n x k c m w h i = ap (λ all. items s t object all k c m w) (more_items xs n x h i)

at_by : (t : Statement) (all : Vec TItem Global) (n : ℕ) (x : TItem) → HasItems t all → n < length all.items → x ≡ get_or all.items n x → at_item_of t (drop n (items_in t)) ≡ control.AtItem (item_of x) (drop (suc n) (map item_of all.items))
at_by t all n x is h i = ap (at_item_of t) (ap (drop n) is ∙ more_items all.items n x h i)

stored_by : (t : Statement) (all : Vec TItem Global) (n : ℕ) (x : TItem) → HasItems t all → n < length all.items → x ≡ get_or all.items n x → items_of t (drop n (items_in t)) ≡ control.Items (item_of x) (drop (suc n) (map item_of all.items))
stored_by t all n x is h i = ap (items_of t) (ap (drop n) is ∙ more_items all.items n x h i)

-- the item of this number, and what waits
pub item_scalar : (s : Setting) (t : Statement) (object : _) (all : Vec TItem Global) (n : ℕ) (offset : _) (value : _) (x : TItem) (k : List Pending) (c : CopyOf) (m : Memory) (w : World Byte) → HasItems t all → n < length all.items → x ≡ get_or all.items n x → x ≡ TItem.Scalar offset value
    → items s t object (drop n (map item_of all.items)) k c m w ≡ goes c (Eval (expression_of value)) (Doing t (at_item_of t (drop n (items_in t))) ∷ k) m w
item_scalar s t object all n offset value x k c m w is h i form =
    item_by s t object all.items n x k c m w h i
    ∙ ap (λ y. items s t object (item_of y ∷ drop (suc n) (map item_of all.items)) k c m w) form
    ∙ ap (λ y. goes c (Eval (expression_of value)) (Doing t (control.AtItem (item_of y) (drop (suc n) (map item_of all.items))) ∷ k) m w) (sym form)
    ∙ ap (λ stage. goes c (Eval (expression_of value)) (Doing t stage ∷ k) m w) (sym (at_by t all n x is h i))

pub item_struct : (s : Setting) (t : Statement) (object : _) (all : Vec TItem Global) (n : ℕ) (offset : _) (from : _) (size : _) (x : TItem) (k : List Pending) (c : CopyOf) (m : Memory) (w : World Byte) → HasItems t all → n < length all.items → x ≡ get_or all.items n x → x ≡ TItem.Struct offset from size
    → items s t object (drop n (map item_of all.items)) k c m w ≡ goes c (Find (place_of from)) (Doing t (at_item_of t (drop n (items_in t))) ∷ k) m w
item_struct s t object all n offset from size x k c m w is h i form =
    item_by s t object all.items n x k c m w h i
    ∙ ap (λ y. items s t object (item_of y ∷ drop (suc n) (map item_of all.items)) k c m w) form
    ∙ ap (λ y. goes c (Find (place_of from)) (Doing t (control.AtItem (item_of y) (drop (suc n) (map item_of all.items))) ∷ k) m w) (sym form)
    ∙ ap (λ stage. goes c (Find (place_of from)) (Doing t stage ∷ k) m w) (sym (at_by t all n x is h i))

pub item_text : (s : Setting) (t : Statement) (object : _) (all : Vec TItem Global) (n : ℕ) (offset : _) (text : _) (size : _) (x : TItem) (k : List Pending) (c : CopyOf) (m : Memory) (w : World Byte) → HasItems t all → n < length all.items → x ≡ get_or all.items n x → x ≡ TItem.Text offset text size
    → items s t object (drop n (map item_of all.items)) k c m w ≡ goes c (Spell (behind object offset) text.items size) (Doing t (items_of t (drop n (items_in t))) ∷ k) m w
item_text s t object all n offset text size x k c m w is h i form =
    item_by s t object all.items n x k c m w h i
    ∙ ap (λ y. items s t object (item_of y ∷ drop (suc n) (map item_of all.items)) k c m w) form
    ∙ ap (λ y. goes c (Spell (behind object offset) text.items size) (Doing t (control.Items (item_of y) (drop (suc n) (map item_of all.items))) ∷ k) m w) (sym form)
    ∙ ap (λ stage. goes c (Spell (behind object offset) text.items size) (Doing t stage ∷ k) m w) (sym (stored_by t all n x is h i))

pub item_none : (s : Setting) (t : Statement) (object : _) (all : Vec TItem Global) (n : ℕ) (k : List Pending) (c : CopyOf) (m : Memory) (w : World Byte) → length all.items ≤ n
    → items s t object (drop n (map item_of all.items)) k c m w ≡ goes c (Blank 0 (object_bytes s.program object)) (Doing t control.Blanks ∷ k) m w
item_none s t object all n k c m w h = ap (λ xs. items s t object xs k c m w) (no_more_items all.items n h)
