-- Initializers by their forms, and the items of a list in braces, read on from one of them.
use Rattle.std.proofs.Common.{◌≡◌, ℕ, suc, ◌+◌, ◌<◌, ◌≤◌, Bool, true, List, ◌∷◌, map, length, drop, get_or, Option, Result, Ok, refl, sym, ap, subst, ◌∙◌, arith, drop-cons, Vec, Global}
use Rattle.std.specs.Global.{Box}
use Rattle.std.proofs.lemmas.List.{drop_all}
use Rattle.c_nodes.proofs.ProgramShapes.{show_init_assign, show_init_text, show_init_list, show_next_init}
use Rattle.c_nodes.specs.Programs as tree
use Rattle.c_nodes.specs.Programs.{InitTree, MoreInits}
use Rattle.c_nodes.specs.ProgramViews.{init_of, next_init_of, more_inits}
use Rattle.c_nodes.specs.Views.{assign_of}
use Rattle.c_nodes.specs.Words.{quoted}
use Rattle.c_nodes.specs.declared.expression.Assign.{Assign}
use Rattle.c_nodes.specs.declared.statement.Init.{Init}
use Rattle.c_nodes.specs.declared.statement.Init.TheVariants as Inits
use Rattle.c_nodes.specs.declared.statement.Init.TheViews.{out-NextInit}
use Rattle.c_nodes.specs.declared.statement.NextInit.{NextInit}
use Rattle.c_nodes.specs.declared.word.Text.{Text}
use Rattle.type_rules.specs.Expressions.{value_of}
use Rattle.type_rules.specs.Faults.{Fault}
use Rattle.type_rules.specs.Initializers.{begins, more_begins, items_in, value_rule, text_rule}
use Rattle.type_rules.specs.Known.{Known, go_on}
use Rattle.type_rules.specs.Slots.{Slot, Begun, part}
use Rattle.type_rules.specs.Terms.{Operand}
use Rattle.c_tables.specs.Answers.{Answers, Refuses}
use Rattle.c_tables.specs.declared.error.CheckError.{CheckError}
use Rattle.c_tables.specs.declared.error.CheckError.TheVariants as errors
use Rattle.c_check.specs.Views.{list_closed}

-- ---- each form

pub begins_value : (value : _) (slot : Option Slot) (inside : Bool) (b : Begun) (known : Known) → begins (init_of (Inits.Assign value)) slot inside b known ≡ go_on (λ x. value_rule slot inside x b) (value_of (assign_of value) known)
unfolding begins more_begins
begins_value value slot inside b known = ap (λ t. begins t slot inside b known) (show_init_assign value)

pub begins_text : (text : _) (slot : Option Slot) (inside : Bool) (b : Begun) (known : Known) → begins (init_of (Inits.Text text)) slot inside b known ≡ text_rule slot inside (quoted text) b known
unfolding begins more_begins
begins_text text slot inside b known = ap (λ t. begins t slot inside b known) (show_init_text text)

-- a list whose first item is read
abbrev pub behind_first : MoreInits → Option Slot → ℕ → Begun → Known → Result (Begun × Known) Fault
behind_first is slot opening first = λ known. go_on (λ all. list_closed slot (suc (items_in is)) opening all) (more_begins is slot 1 first known)

list_by : (is : MoreInits) (i : InitTree) (comma : Option ℕ) (opening closing : ℕ) (slot : Option Slot) (inside : Bool) (b : Begun) (known : Known) → begins (tree.Listed opening i is comma closing) slot inside b known ≡ go_on (behind_first is slot opening) (begins i (part known slot 0) true b known)
unfolding begins more_begins
list_by is i comma opening closing slot inside b known = refl

pub begins_list : (opening : _) (first : _) (others : _) (last_comma : _) (closing : _) (slot : Option Slot) (inside : Bool) (b : Begun) (known : Known) → begins (init_of (Inits.List opening first others last_comma closing)) slot inside b known ≡ go_on (behind_first (more_inits (map next_init_of others.items)) slot opening) (begins (init_of first.value) (part known slot 0) true b known)
begins_list opening first others last_comma closing slot inside b known =
    ap (λ t. begins t slot inside b known) (show_init_list opening first others last_comma closing)
    ∙ list_by (more_inits (map next_init_of others.items)) (init_of first.value) last_comma opening closing slot inside b known

-- the whole list, where all its parts are read
pub list_read : (is : MoreInits) (i : InitTree) (p slot : Option Slot) (opening n : ℕ) (b first all : Begun) (known mid after : Known) (said : Result (Begun × Known) Fault) → said ≡ go_on (behind_first is slot opening) (begins i p true b known) → begins i p true b known ≡ Ok (first, mid) → more_begins is slot 1 first mid ≡ Ok (all, after) → n ≡ 1 + items_in is → said ≡ list_closed slot n opening all after
list_read is i p slot opening n b first all known mid after said e one more many =
    e ∙ ap (go_on (behind_first is slot opening)) one
    ∙ ap (go_on (λ x. list_closed slot (suc (items_in is)) opening x)) more
    ∙ ap (λ k. list_closed slot k opening all after) (let k : suc (items_in is) ≡ n = omega (arith, many) in k)

-- the same of the code's tree, whose parts are read through references
listed_by : (init : Init) (opening : ℕ) (first : Box Init) (others : Vec NextInit Global) (comma : Option ℕ) (closing : ℕ) (head : Init) (tail : List NextInit) (slot p : Option Slot) (inside : Bool) (b : Begun) (known : Known) → init ≡ Inits.List opening first others comma closing → head ≡ first.value → tail ≡ others.items → p ≡ part known slot 0
    → begins (init_of init) slot inside b known ≡ go_on (behind_first (more_inits (map next_init_of tail)) slot opening) (begins (init_of head) p true b known)
listed_by init opening first others comma closing head tail slot p inside b known is top rest taken =
    ap (λ i. begins (init_of i) slot inside b known) is
    ∙ begins_list opening first others comma closing slot inside b known
    ∙ ap (λ q. go_on (behind_first (more_inits (map next_init_of others.items)) slot opening) (begins (init_of first.value) q true b known)) (sym taken)
    ∙ ap (λ i. go_on (behind_first (more_inits (map next_init_of others.items)) slot opening) (begins (init_of i) p true b known)) (sym top)
    ∙ ap (λ l. go_on (behind_first (more_inits (map next_init_of l)) slot opening) (begins (init_of head) p true b known)) (sym rest)

-- ---- items behind the first

and_item : (comma : ℕ) (i : InitTree) (is : MoreInits) (slot : Option Slot) (n : ℕ) (b : Begun) (known : Known) → more_begins (tree.AndInit comma i is) slot n b known ≡ go_on (λ next. more_begins is slot (suc n) next) (begins i (part known slot n) true b known)
unfolding begins more_begins
and_item comma i is slot n b known = refl

no_item : (slot : Option Slot) (n : ℕ) (b : Begun) (known : Known) → more_begins tree.NoInit slot n b known ≡ Ok (b, known)
unfolding begins more_begins
no_item slot n b known = refl

abbrev pub left : List NextInit → ℕ → MoreInits
left others i = more_inits (map next_init_of (drop i others))

first_left : (others : List NextInit) (i : ℕ) (x : NextInit) → i < length others → x ≡ get_or others i x → left others i ≡ tree.AndInit (out-NextInit x).comma (init_of (out-NextInit x).init) (left others (i + 1))
first_left others i x h is =
    ap (λ xs. more_inits (map next_init_of xs)) (drop-cons others i x h)
    ∙ ap (λ y. more_inits (next_init_of y ∷ map next_init_of (drop (suc i) others))) (sym is)
    ∙ ap (λ y. more_inits (y ∷ map next_init_of (drop (suc i) others))) (show_next_init x)
    ∙ ap (λ k. tree.AndInit (out-NextInit x).comma (init_of (out-NextInit x).init) (left others k)) (let k : suc i ≡ i + 1 = omega arith in k)

item_by : (others : List NextInit) (i : ℕ) (x : NextInit) (slot p : Option Slot) (n : ℕ) (b : Begun) (known : Known) → i < length others → x ≡ get_or others i x → p ≡ part known slot n → more_begins (left others i) slot n b known ≡ go_on (λ next. more_begins (left others (i + 1)) slot (suc n) next) (begins (init_of (out-NextInit x).init) p true b known)
item_by others i x slot p n b known h is taken =
    ap (λ l. more_begins l slot n b known) (first_left others i x h is)
    ∙ and_item (out-NextInit x).comma (init_of (out-NextInit x).init) (left others (i + 1)) slot n b known
    ∙ ap (λ q. go_on (λ next. more_begins (left others (i + 1)) slot (suc n) next) (begins (init_of (out-NextInit x).init) q true b known)) (sym taken)

pub item_read : (others : List NextInit) (i : ℕ) (x : NextInit) (slot p : Option Slot) (n m : ℕ) (b next : Begun) (known after : Known) (whole : Result (Begun × Known) Fault) → i < length others → x ≡ get_or others i x → p ≡ part known slot n → begins (init_of (out-NextInit x).init) p true b known ≡ Ok (next, after) → m ≡ n + 1 → more_begins (left others i) slot n b known ≡ whole → more_begins (left others (i + 1)) slot m next after ≡ whole
item_read others i x slot p n m b next known after whole h is taken read step so_far =
    ap (λ k. more_begins (left others (i + 1)) slot k next after) (let k : m ≡ suc n = omega (arith, step) in k)
    ∙ sym (item_by others i x slot p n b known h is taken ∙ ap (go_on (λ y. more_begins (left others (i + 1)) slot (suc n) y)) read)
    ∙ so_far

refuses_behind : (fault : CheckError) (second : Begun → Known → Result (Begun × Known) Fault) (said : Result (Begun × Known) Fault) → Refuses fault said → Refuses fault (go_on second said)
refuses_behind errors.NoMemory second said h = h
refuses_behind (errors.Kind kind line) second said h = ap (go_on second) h

pub item_wrong : (others : List NextInit) (i : ℕ) (x : NextInit) (slot p : Option Slot) (n : ℕ) (b : Begun) (known : Known) (fault : CheckError) (whole : Result (Begun × Known) Fault) → i < length others → x ≡ get_or others i x → p ≡ part known slot n → Refuses fault (begins (init_of (out-NextInit x).init) p true b known) → more_begins (left others i) slot n b known ≡ whole → Refuses fault whole
item_wrong others i x slot p n b known fault whole h is taken wrong so_far =
    subst (Refuses fault) (sym (item_by others i x slot p n b known h is taken) ∙ so_far) (refuses_behind fault (λ y. more_begins (left others (i + 1)) slot (suc n) y) (begins (init_of (out-NextInit x).init) p true b known) wrong)

pub all_read : (others : List NextInit) (i : ℕ) (slot : Option Slot) (n : ℕ) (b : Begun) (known : Known) (whole : Result (Begun × Known) Fault) → length others ≤ i → more_begins (left others i) slot n b known ≡ whole → whole ≡ Ok (b, known)
all_read others i slot n b known whole h so_far =
    sym so_far ∙ ap (λ xs. more_begins (more_inits (map next_init_of xs)) slot n b known) (drop_all i others h) ∙ no_item slot n b known

pub one_counted : (others : List NextInit) (i : ℕ) (x : NextInit) (n m whole : ℕ) → i < length others → x ≡ get_or others i x → m ≡ n + 1 → n + items_in (left others i) ≡ whole → m + items_in (left others (i + 1)) ≡ whole
one_counted others i x n m whole h is step so_far =
    let e : items_in (left others i) ≡ suc (items_in (left others (i + 1))) = ap items_in (first_left others i x h is) in
    omega (arith, step, so_far, e)

pub one_behind : (n i : ℕ) → n ≡ 1 + i → n + 1 ≡ 1 + (i + 1)
one_behind n i h = omega (arith, h)

pub all_counted : (others : List NextInit) (i n whole : ℕ) → length others ≤ i → n + items_in (left others i) ≡ whole → n ≡ whole
all_counted others i n whole h so_far =
    let e : items_in (left others i) ≡ 0 = ap (λ xs. items_in (more_inits (map next_init_of xs))) (drop_all i others h) in
    omega (arith, so_far, e)

-- ---- what a call answers of each form

module _ {A : Type 0} (view : A → Begun) (result : Result A CheckError) (end : Known) where
  pub value_answered : (init : Init) (value : Assign) (slot : Option Slot) (inside : Bool) (b : Begun) (x : Operand) (known mid : Known) → init ≡ Inits.Assign value → value_of (assign_of value) known ≡ Ok (x, mid) → Answers view result end (value_rule slot inside x b mid) → Answers view result end (begins (init_of init) slot inside b known)
  value_answered init value slot inside b x known mid is one answer =
      subst (Answers view result end) (sym (ap (λ i. begins (init_of i) slot inside b known) is ∙ begins_value value slot inside b known ∙ ap (go_on (λ y. value_rule slot inside y b)) one)) answer

  pub text_answered : (init : Init) (text : Text) (slot : Option Slot) (inside : Bool) (b : Begun) (known : Known) → init ≡ Inits.Text text → Answers view result end (text_rule slot inside (quoted text) b known) → Answers view result end (begins (init_of init) slot inside b known)
  text_answered init text slot inside b known is answer =
      subst (Answers view result end) (sym (ap (λ i. begins (init_of i) slot inside b known) is ∙ begins_text text slot inside b known)) answer

  pub list_answered : (init : Init) (opening : ℕ) (first : Box Init) (others : Vec NextInit Global) (comma : Option ℕ) (closing : ℕ) (head : Init) (tail : List NextInit) (slot p : Option Slot) (inside : Bool) (n : ℕ) (b one all : Begun) (known mid after : Known)
      → init ≡ Inits.List opening first others comma closing → head ≡ first.value → tail ≡ others.items → p ≡ part known slot 0 → begins (init_of head) p true b known ≡ Ok (one, mid)
      → more_begins (more_inits (map next_init_of tail)) slot 1 one mid ≡ Ok (all, after) → n ≡ 1 + items_in (more_inits (map next_init_of tail))
      → Answers view result end (list_closed slot n opening all after) → Answers view result end (begins (init_of init) slot inside b known)
  list_answered init opening first others comma closing head tail slot p inside n b one all known mid after is top rest taken read more many answer =
      subst (Answers view result end) (sym (list_read (more_inits (map next_init_of tail)) (init_of head) p slot opening n b one all known mid after (begins (init_of init) slot inside b known)
      (listed_by init opening first others comma closing head tail slot p inside b known is top rest taken) read more many)) answer

pub value_wrong : (fault : CheckError) (init : Init) (value : Assign) (slot : Option Slot) (inside : Bool) (b : Begun) (known : Known) → init ≡ Inits.Assign value → Refuses fault (value_of (assign_of value) known) → Refuses fault (begins (init_of init) slot inside b known)
value_wrong errors.NoMemory init value slot inside b known is h = h
value_wrong (errors.Kind kind line) init value slot inside b known is h = ap (λ i. begins (init_of i) slot inside b known) is ∙ begins_value value slot inside b known ∙ ap (go_on (λ y. value_rule slot inside y b)) h

pub first_wrong : (fault : CheckError) (init : Init) (opening : ℕ) (first : Box Init) (others : Vec NextInit Global) (comma : Option ℕ) (closing : ℕ) (head : Init) (slot p : Option Slot) (inside : Bool) (b : Begun) (known : Known) → init ≡ Inits.List opening first others comma closing → head ≡ first.value → p ≡ part known slot 0
    → Refuses fault (begins (init_of head) p true b known) → Refuses fault (begins (init_of init) slot inside b known)
first_wrong fault init opening first others comma closing head slot p inside b known is top taken h =
    subst (Refuses fault) (sym (listed_by init opening first others comma closing head others.items slot p inside b known is top refl taken))
    (refuses_behind fault (behind_first (more_inits (map next_init_of others.items)) slot opening) (begins (init_of head) p true b known) h)

pub more_wrong : (fault : CheckError) (init : Init) (opening : ℕ) (first : Box Init) (others : Vec NextInit Global) (comma : Option ℕ) (closing : ℕ) (head : Init) (tail : List NextInit) (slot p : Option Slot) (inside : Bool) (b one : Begun) (known mid : Known) → init ≡ Inits.List opening first others comma closing → head ≡ first.value → tail ≡ others.items → p ≡ part known slot 0
    → begins (init_of head) p true b known ≡ Ok (one, mid) → Refuses fault (more_begins (more_inits (map next_init_of tail)) slot 1 one mid) → Refuses fault (begins (init_of init) slot inside b known)
more_wrong fault init opening first others comma closing head tail slot p inside b one known mid is top rest taken read h =
    subst (Refuses fault) (sym (listed_by init opening first others comma closing head tail slot p inside b known is top rest taken ∙ ap (go_on (behind_first (more_inits (map next_init_of tail)) slot opening)) read))
    (refuses_behind fault (λ all. list_closed slot (suc (items_in (more_inits (map next_init_of tail)))) opening all) (more_begins (more_inits (map next_init_of tail)) slot 1 one mid) h)
