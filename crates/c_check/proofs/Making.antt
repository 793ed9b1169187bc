-- The rules of objects, path by path: their types, static objects, locals.
use Rattle.std.proofs.Common.{◌≡◌, ℕ, ◌*◌, Bool, true, false, not, ◌&&◌, ◌||◌, nat_le, nat_lt, List, [], ◌∷◌, map, Option, Some, None, Result, Ok, Err, sym, ap, subst, ◌∙◌, Vec, Global}
use Rattle.std.proofs.lemmas.Bool.{lt-leb, ltb-true}
use Rattle.c_nodes.specs.Programs.{InitTree}
use Rattle.c_typed.specs.Sameness.{is_array}
use Rattle.c_typed.specs.Types.{kept}
use Rattle.c_typed.specs.Trees as typed
use Rattle.c_typed.specs.Trees.{Statement}
use Rattle.c_typed.specs.Views.{statement_of}
use Rattle.c_typed.specs.declared.expression.Object.TheVariants as object
use Rattle.c_typed.specs.declared.program.Initial.{Initial}
use Rattle.c_typed.specs.declared.statement.TStmt.{TStmt}
use Rattle.c_typed.specs.declared.types.Qualified.{Qualified}
use Rattle.c_typed.specs.declared.types.Ty.TheVariants.{Array}
use Rattle.type_rules.specs.Faults as kind
use Rattle.type_rules.specs.Faults.{Fault}
use Rattle.type_rules.specs.Known.{is_waiting, ObjectName, Known, Rule, go_on, given, tried, ◌>>=◌}
use Rattle.type_rules.specs.Initializers.{begins}
use Rattle.type_rules.specs.Names.{bind}
use Rattle.type_rules.specs.Objects as rule
use Rattle.type_rules.specs.Objects.{whole_slot}
use Rattle.type_rules.specs.Outlines.{Outline, ObjectDeclared, is_function, object_type}
use Rattle.type_rules.specs.Rows.{plain, like, place_of_row, with_row, target_of, array_of, bytes_of, is_complete}
use Rattle.type_rules.specs.Slots.{Slot, Begun, nothing_begun}
use Rattle.type_rules.specs.Specifiers.{Specified}
use Rattle.c_tables.specs.Answers.{Answers, Learns, Refuses}
use Rattle.c_tables.specs.declared.error.CheckError.{CheckError}
use Rattle.c_tables.specs.declared.error.CheckError.TheVariants as errors
use Rattle.c_tables.specs.declared.error.Kind.TheVariants as kinds
use Rattle.c_tables.proofs.Steps.{then_refuses, tried_true, tried_false}

-- ---- the type of an object

refused_as : {A B : Type 0} (view : A → B) (result : Result A CheckError) (after : Known) (said : Result (B × Known) Fault) (e : CheckError) → result ≡ Err e → Refuses e said → Answers view result after said
refused_as view result after said e is h = subst (λ r. Answers view r after said) (sym is) h

module _ (known : Known) (said : Specified) (o : Outline) (begun : Bool) (line : ℕ) (ty : Qualified) (object_is : o.declared ≡ ObjectDeclared ty) (good : o.bad ≡ false) (plain : said.interrupt ≡ false) where
  right : (o.bad || (is_function o.declared || said.interrupt)) ≡ false
  right = ap (λ b. b || (is_function o.declared || said.interrupt)) good ∙ ap (λ d. is_function d || said.interrupt) object_is ∙ plain

  behind_first : tried (rule.object_tests known said o begun) line known ≡ tried ((nat_lt 65535 (bytes_of known (object_type o.declared).ty), kind.Size) ∷ (is_waiting o.waiting || not ((begun && is_array (object_type o.declared).ty) || is_complete known (object_type o.declared).ty), kind.Incomplete) ∷ []) line known
  behind_first = tried_false (o.bad || (is_function o.declared || said.interrupt)) kind.Declare ((nat_lt 65535 (bytes_of known (object_type o.declared).ty), kind.Size) ∷ (is_waiting o.waiting || not ((begun && is_array (object_type o.declared).ty) || is_complete known (object_type o.declared).ty), kind.Incomplete) ∷ []) line known right

  size_of : (large : Bool) → large ≡ nat_lt 65535 (bytes_of known ty.ty) → nat_lt 65535 (bytes_of known (object_type o.declared).ty) ≡ large
  size_of large is = ap (λ d. nat_lt 65535 (bytes_of known (object_type d).ty)) object_is ∙ sym is

  pub object_large : (result : Result Qualified CheckError) (large : Bool) → large ≡ nat_lt 65535 (bytes_of known ty.ty) → large ≡ true → result ≡ Err (errors.Kind kinds.Size line) → Answers (λ t. t) result known (rule.object_rule said o begun line known)
  object_large result large is so answer =
      refused_as (λ t. t) result known (rule.object_rule said o begun line known) (errors.Kind kinds.Size line) answer
      (ap (go_on (λ _. given (object_type o.declared))) (behind_first ∙ tried_true (nat_lt 65535 (bytes_of known (object_type o.declared).ty)) kind.Size ((is_waiting o.waiting || not ((begun && is_array (object_type o.declared).ty) || is_complete known (object_type o.declared).ty), kind.Incomplete) ∷ []) line known (size_of large is ∙ so)))

  behind_second : (large : Bool) → large ≡ nat_lt 65535 (bytes_of known ty.ty) → large ≡ false → tried (rule.object_tests known said o begun) line known ≡ tried ((is_waiting o.waiting || not ((begun && is_array (object_type o.declared).ty) || is_complete known (object_type o.declared).ty), kind.Incomplete) ∷ []) line known
  behind_second large is so = behind_first ∙ tried_false (nat_lt 65535 (bytes_of known (object_type o.declared).ty)) kind.Size ((is_waiting o.waiting || not ((begun && is_array (object_type o.declared).ty) || is_complete known (object_type o.declared).ty), kind.Incomplete) ∷ []) line known (size_of large is ∙ so)

  missing_is : (missing : Bool) → missing ≡ (is_waiting o.waiting || not ((begun && is_array ty.ty) || is_complete known ty.ty)) → (is_waiting o.waiting || not ((begun && is_array (object_type o.declared).ty) || is_complete known (object_type o.declared).ty)) ≡ missing
  missing_is missing is = ap (λ d. is_waiting o.waiting || not ((begun && is_array (object_type d).ty) || is_complete known (object_type d).ty)) object_is ∙ sym is

  pub object_missing : (result : Result Qualified CheckError) (large missing : Bool) → large ≡ nat_lt 65535 (bytes_of known ty.ty) → large ≡ false → missing ≡ (is_waiting o.waiting || not ((begun && is_array ty.ty) || is_complete known ty.ty)) → missing ≡ true → result ≡ Err (errors.Kind kinds.Incomplete line) → Answers (λ t. t) result known (rule.object_rule said o begun line known)
  object_missing result large missing is so tested wrong answer =
      refused_as (λ t. t) result known (rule.object_rule said o begun line known) (errors.Kind kinds.Incomplete line) answer
      (ap (go_on (λ _. given (object_type o.declared))) (behind_second large is so ∙ tried_true (is_waiting o.waiting || not ((begun && is_array (object_type o.declared).ty) || is_complete known (object_type o.declared).ty)) kind.Incomplete [] line known (missing_is missing tested ∙ wrong)))

  pub object_whole : (large missing : Bool) → large ≡ nat_lt 65535 (bytes_of known ty.ty) → large ≡ false → missing ≡ (is_waiting o.waiting || not ((begun && is_array ty.ty) || is_complete known ty.ty)) → missing ≡ false → rule.object_rule said o begun line known ≡ Ok (ty, known)
  object_whole large missing is so tested there =
      ap (go_on (λ _. given (object_type o.declared))) (behind_second large is so ∙ tried_false (is_waiting o.waiting || not ((begun && is_array (object_type o.declared).ty) || is_complete known (object_type o.declared).ty)) kind.Incomplete [] line known (missing_is missing tested ∙ there))
      ∙ ap (λ d. Ok (object_type d, known)) object_is

-- ---- an array whose initializer gives its length

abbrev behind_whole : Qualified → ℕ → ℕ → Rule Qualified
behind_whole whole n line = λ after. go_on (λ _. given whole) (tried ((not (rule.sized after whole n), kind.Size) ∷ []) line after)

module _ (ty : Qualified) (row n line : ℕ) (count : Option ℕ) (element target : Qualified) (known : Known) (is : count ≡ Some n) (made : element ≡ like ty target.ty) (found : target ≡ target_of known row) where
  closed_from : rule.closed_array ty row count line known ≡ go_on (λ whole. behind_whole whole n line) (array_of element n known)
  closed_from = ap (λ c. rule.closed_array ty row c line known) is ∙ ap (λ e. go_on (λ whole. behind_whole whole n line) (array_of e n known)) (sym (made ∙ ap (λ t. like ty t.ty) found))

  pub closed_refused : (e : CheckError) → Refuses e (array_of element n known) → Refuses e (rule.closed_array ty row count line known)
  closed_refused e h = subst (Refuses e) (sym closed_from) (then_refuses (array_of element n) (λ whole. behind_whole whole n line) known e h)

  pub closed_sized : (whole : Qualified) (after : Known) (fits : Bool) → array_of element n known ≡ Ok (whole, after) → fits ≡ rule.sized after whole n → fits ≡ true → rule.closed_array ty row count line known ≡ Ok (whole, after)
  closed_sized whole after fits given_whole tested so =
      closed_from ∙ ap (go_on (λ w. behind_whole w n line)) given_whole
      ∙ ap (go_on (λ _. given whole)) (tried_false (not (rule.sized after whole n)) kind.Size [] line after (ap not (sym tested ∙ so)))

  pub closed_large : (whole : Qualified) (after : Known) (fits : Bool) (result : Result Qualified CheckError) → array_of element n known ≡ Ok (whole, after) → fits ≡ rule.sized after whole n → fits ≡ false → result ≡ Err (errors.Kind kinds.Size line) → Answers (λ t. t) result after (rule.closed_array ty row count line known)
  closed_large whole after fits result given_whole tested so answer =
      refused_as (λ t. t) result after (rule.closed_array ty row count line known) (errors.Kind kinds.Size line) answer
      (closed_from ∙ ap (go_on (λ w. behind_whole w n line)) given_whole
      ∙ ap (go_on (λ _. given whole)) (tried_true (not (rule.sized after whole n)) kind.Size [] line after (ap not (sym tested ∙ so))))

too_many : (n : ℕ) → nat_lt 65535 n ≡ true → nat_le n 65535 ≡ false
too_many n h = lt-leb n 65535 (ltb-true 65535 n h)

-- No array has so many elements.
pub closed_long : (ty : Qualified) (row n line : ℕ) (count : Option ℕ) (known end : Known) (long : Bool) (result : Result Qualified CheckError) → count ≡ Some n → long ≡ nat_lt 65535 n → long ≡ true → result ≡ Err (errors.Kind kinds.Size line) → Answers (λ t. t) result end (rule.closed_array ty row count line known)
closed_long ty row n line count known end long result is tested so answer =
    let element : Qualified = like ty (target_of known row).ty in
    let whole : Qualified = like element (Array (place_of_row known.targets (plain element.ty)) n (kept (n * bytes_of known element.ty))) in
    let after : Known = record known { targets = with_row known.targets (plain element.ty) } in
    refused_as (λ t. t) result end (rule.closed_array ty row count line known) (errors.Kind kinds.Size line) answer
    (ap (λ c. rule.closed_array ty row c line known) is
    ∙ ap (go_on (λ _. given whole)) (tried_true (not (rule.sized after whole n)) kind.Size [] line after (ap (λ w. not (w && nat_le (bytes_of after whole.ty) 65535)) (too_many n (sym tested ∙ so)))))

-- ---- static objects

abbrev static_end : ℕ → Qualified → List Initial → Known → Rule Known
static_end number whole initial = λ _. rule.complete_static number whole initial

abbrev static_bound : ℕ → List ℕ → List Initial → Qualified → Rule Known
static_bound number name initial whole = bind name (ObjectName (object.Static number) whole false) >>= static_end number whole initial

abbrev static_closed : ℕ → List ℕ → Qualified → ℕ → Begun → Rule Known
static_closed number name ty line b = rule.closed ty b.count line >>= static_bound number name b.initial

module _ (tree : InitTree) (number : ℕ) (name : List ℕ) (ty : Qualified) (line : ℕ) (slot : Slot) (b : Begun) (known mid : Known) (at : slot ≡ whole_slot ty) (begun : begins tree (Some slot) false (nothing_begun true line) known ≡ Ok (b, mid)) where
  static_from : rule.static_begun (Some tree) number name ty line known ≡ static_closed number name ty line b mid
  static_from =
      ap (λ s. go_on (λ x. static_closed number name ty line x) (begins tree (Some s) false (nothing_begun true line) known)) (sym at)
      ∙ ap (go_on (λ x. static_closed number name ty line x)) begun

  pub static_unclosed : (e : CheckError) → Refuses e (rule.closed ty b.count line mid) → Refuses e (rule.static_begun (Some tree) number name ty line known)
  static_unclosed e h = subst (Refuses e) (sym static_from) (then_refuses (rule.closed ty b.count line) (static_bound number name b.initial) mid e h)

  module _ (whole : Qualified) (after : Known) (closed_so : rule.closed ty b.count line mid ≡ Ok (whole, after)) where
    static_then : rule.static_begun (Some tree) number name ty line known ≡ static_bound number name b.initial whole after
    static_then = static_from ∙ ap (go_on (static_bound number name b.initial)) closed_so

    pub static_unbound : (e : CheckError) → Refuses e (bind name (ObjectName (object.Static number) whole false) after) → Refuses e (rule.static_begun (Some tree) number name ty line known)
    static_unbound e h = subst (Refuses e) (sym static_then) (then_refuses (bind name (ObjectName (object.Static number) whole false)) (static_end number whole b.initial) after e h)

    pub static_is : (bound end : Known) → bind name (ObjectName (object.Static number) whole false) after ≡ Ok (bound, bound) → rule.complete_static number whole b.initial bound ≡ Ok (end, end) → rule.static_begun (Some tree) number name ty line known ≡ Ok (end, end)
    static_is bound end named complete = static_then ∙ ap (go_on (static_end number whole b.initial)) named ∙ complete

abbrev static_after : Option InitTree → List ℕ → Qualified → ℕ → ℕ → Known → Rule Known
static_after init name ty line number = λ _. rule.static_begun init number name ty line

abbrev static_named : Option InitTree → List ℕ → Qualified → ℕ → ℕ → Rule Known
static_named init name ty line number = bind name (ObjectName (object.Static number) ty false) >>= static_after init name ty line number

pub static_unadded : (init : Option InitTree) (map_name name : List ℕ) (ty : Qualified) (line : ℕ) (known : Known) (e : CheckError) → Refuses e (rule.add_static map_name ty line known) → Refuses e (rule.static_rule init map_name name ty line known)
static_unadded init map_name name ty line known e h = then_refuses (rule.add_static map_name ty line) (static_named init name ty line) known e h

module _ (init : Option InitTree) (map_name name : List ℕ) (ty : Qualified) (line number : ℕ) (known mid : Known) (added : rule.add_static map_name ty line known ≡ Ok (number, mid)) where
  pub static_unnamed : (e : CheckError) → Refuses e (bind name (ObjectName (object.Static number) ty false) mid) → Refuses e (rule.static_rule init map_name name ty line known)
  static_unnamed e h = subst (Refuses e) (sym (ap (go_on (static_named init name ty line)) added)) (then_refuses (bind name (ObjectName (object.Static number) ty false)) (static_after init name ty line number) mid e h)

  static_so : (bound : Known) → bind name (ObjectName (object.Static number) ty false) mid ≡ Ok (bound, bound) → rule.static_rule init map_name name ty line known ≡ rule.static_begun init number name ty line bound
  static_so bound named = ap (go_on (static_named init name ty line)) added ∙ ap (go_on (static_after init name ty line number)) named

  pub static_some : (tree : InitTree) (bound end : Known) (result : Result Unit CheckError) → bind name (ObjectName (object.Static number) ty false) mid ≡ Ok (bound, bound) → init ≡ Some tree → Learns result end (rule.static_begun (Some tree) number name ty line bound) → Learns result end (rule.static_rule init map_name name ty line known)
  static_some tree bound end result named is answer = subst (Learns result end) (sym (static_so bound named ∙ ap (λ i. rule.static_begun i number name ty line bound) is)) answer

  pub static_none : (bound : Known) → bind name (ObjectName (object.Static number) ty false) mid ≡ Ok (bound, bound) → init ≡ None → rule.static_rule init map_name name ty line known ≡ Ok (bound, bound)
  static_none bound named is = static_so bound named ∙ ap (λ i. rule.static_begun i number name ty line bound) is

-- ---- locals

abbrev local_end : InitTree → ℕ → List typed.Item → ℕ → Qualified → Known → Rule (List Statement)
local_end tree local items line whole = λ _. rule.local_statements tree local whole items line

abbrev local_complete : InitTree → ℕ → List typed.Item → ℕ → Qualified → Known → Rule (List Statement)
local_complete tree local items line whole = λ _. rule.complete_local local whole >>= local_end tree local items line whole

abbrev local_bound : InitTree → ℕ → List ℕ → Bool → List typed.Item → ℕ → Qualified → Rule (List Statement)
local_bound tree local name fixed items line whole = bind name (ObjectName (object.Local local) whole fixed) >>= local_complete tree local items line whole

abbrev local_closed : InitTree → ℕ → List ℕ → Qualified → Bool → ℕ → Begun → Rule (List Statement)
local_closed tree local name ty fixed line b = rule.closed ty b.count line >>= local_bound tree local name fixed b.items line

module _ (tree : InitTree) (local : ℕ) (name : List ℕ) (ty : Qualified) (fixed : Bool) (line : ℕ) (slot : Slot) (b : Begun) (known mid : Known) (at : slot ≡ whole_slot ty) (begun : begins tree (Some slot) false (nothing_begun false line) known ≡ Ok (b, mid)) where
  local_from : rule.local_begun (Some tree) local name ty fixed line known ≡ local_closed tree local name ty fixed line b mid
  local_from =
      ap (λ s. go_on (λ x. local_closed tree local name ty fixed line x) (begins tree (Some s) false (nothing_begun false line) known)) (sym at)
      ∙ ap (go_on (λ x. local_closed tree local name ty fixed line x)) begun

  pub local_unclosed : (e : CheckError) → Refuses e (rule.closed ty b.count line mid) → Refuses e (rule.local_begun (Some tree) local name ty fixed line known)
  local_unclosed e h = subst (Refuses e) (sym local_from) (then_refuses (rule.closed ty b.count line) (local_bound tree local name fixed b.items line) mid e h)

  module _ (whole : Qualified) (after : Known) (closed_so : rule.closed ty b.count line mid ≡ Ok (whole, after)) where
    local_then : rule.local_begun (Some tree) local name ty fixed line known ≡ local_bound tree local name fixed b.items line whole after
    local_then = local_from ∙ ap (go_on (local_bound tree local name fixed b.items line)) closed_so

    pub local_unbound : (e : CheckError) → Refuses e (bind name (ObjectName (object.Local local) whole fixed) after) → Refuses e (rule.local_begun (Some tree) local name ty fixed line known)
    local_unbound e h = subst (Refuses e) (sym local_then) (then_refuses (bind name (ObjectName (object.Local local) whole fixed)) (local_complete tree local b.items line whole) after e h)

    pub local_is : (bound end : Known) (result : Result (Vec TStmt Global) CheckError) → bind name (ObjectName (object.Local local) whole fixed) after ≡ Ok (bound, bound) → rule.complete_local local whole bound ≡ Ok (end, end) → Answers (λ made. map statement_of made.items) result end (rule.local_statements tree local whole b.items line end) → Answers (λ made. map statement_of made.items) result end (rule.local_begun (Some tree) local name ty fixed line known)
    local_is bound end result named complete answer =
        subst (Answers (λ made. map statement_of made.items) result end) (sym (local_then ∙ ap (go_on (local_complete tree local b.items line whole)) named ∙ ap (go_on (local_end tree local b.items line whole)) complete)) answer

abbrev local_after : Option InitTree → List ℕ → Qualified → Bool → ℕ → ℕ → Known → Rule (List Statement)
local_after init name ty fixed line local = λ _. rule.local_begun init local name ty fixed line

abbrev local_named : Option InitTree → List ℕ → Qualified → Bool → ℕ → ℕ → Rule (List Statement)
local_named init name ty fixed line local = bind name (ObjectName (object.Local local) ty fixed) >>= local_after init name ty fixed line local

pub local_unadded : (init : Option InitTree) (name : List ℕ) (ty : Qualified) (fixed : Bool) (line : ℕ) (known : Known) (e : CheckError) → Refuses e (rule.add_local name ty line known) → Refuses e (rule.local_rule init name ty fixed line known)
local_unadded init name ty fixed line known e h = then_refuses (rule.add_local name ty line) (local_named init name ty fixed line) known e h

module _ (init : Option InitTree) (name : List ℕ) (ty : Qualified) (fixed : Bool) (line local : ℕ) (known mid : Known) (added : rule.add_local name ty line known ≡ Ok (local, mid)) where
  pub local_unnamed : (e : CheckError) → Refuses e (bind name (ObjectName (object.Local local) ty fixed) mid) → Refuses e (rule.local_rule init name ty fixed line known)
  local_unnamed e h = subst (Refuses e) (sym (ap (go_on (local_named init name ty fixed line)) added)) (then_refuses (bind name (ObjectName (object.Local local) ty fixed)) (local_after init name ty fixed line local) mid e h)

  local_so : (bound : Known) → bind name (ObjectName (object.Local local) ty fixed) mid ≡ Ok (bound, bound) → rule.local_rule init name ty fixed line known ≡ rule.local_begun init local name ty fixed line bound
  local_so bound named = ap (go_on (local_named init name ty fixed line)) added ∙ ap (go_on (local_after init name ty fixed line local)) named

  pub local_some : (tree : InitTree) (bound end : Known) (result : Result (Vec TStmt Global) CheckError) → bind name (ObjectName (object.Local local) ty fixed) mid ≡ Ok (bound, bound) → init ≡ Some tree → Answers (λ made. map statement_of made.items) result end (rule.local_begun (Some tree) local name ty fixed line bound) → Answers (λ made. map statement_of made.items) result end (rule.local_rule init name ty fixed line known)
  local_some tree bound end result named is answer = subst (Answers (λ made. map statement_of made.items) result end) (sym (local_so bound named ∙ ap (λ i. rule.local_begun i local name ty fixed line bound) is)) answer

  pub local_none : (bound : Known) (statement : Statement) (result : Result (Vec TStmt Global) CheckError) → bind name (ObjectName (object.Local local) ty fixed) mid ≡ Ok (bound, bound) → init ≡ None → statement ≡ typed.Declare local line → Answers (λ made. map statement_of made.items) result bound (Ok (statement ∷ [], bound)) → Answers (λ made. map statement_of made.items) result bound (rule.local_rule init name ty fixed line known)
  local_none bound statement result named is declares answer =
      subst (Answers (λ made. map statement_of made.items) result bound) (sym (local_so bound named ∙ ap (λ i. rule.local_begun i local name ty fixed line bound) is ∙ ap (λ s. Ok (s ∷ [], bound)) (sym declares))) answer
