-- Tables as the rules see them: what a function finds there, and what is known behind it.
use Rattle.std.proofs.Common.{◌≡◌, ℕ, zero, suc, ◌+◌, ◌*◌, ◌<◌, ◌≤◌, Bool, false, not, bytes_eq, is_some, position, List, [], ◌∷◌, ◌++◌, map, length, get_or, slice_index, slice_get, Some, None, option_map, Result, Ok, Err, Vec, Global, refl, sym, ap, subst, ◌∙◌, arith, mul_comm, append-nil}
use Rattle.std.specs.Map.{lookup, keys_of}
use Rattle.indexmap.specs.IndexMap.{insert_entry}
use Rattle.c_typed.specs.Types.{kept}
use Rattle.c_typed.specs.Trees.{MemberTree}
use Rattle.c_typed.specs.declared.types.Qualified.{Qualified}
use Rattle.c_typed.specs.declared.types.Ty.TheVariants.{Pointer, Array}
use Rattle.type_rules.specs.Faults as faults
use Rattle.type_rules.specs.Faults.{Fault}
use Rattle.type_rules.specs.Known as rule
use Rattle.type_rules.specs.Known.{Known, Rule, Scope, Body, given, go_on, no_body, known_first}
use Rattle.type_rules.specs.Names.{entry_of, with_entry, enter}
use Rattle.type_rules.specs.Places.{member_from}
use Rattle.type_rules.specs.Rows as rows
use Rattle.type_rules.specs.Units.{member_tree}
use Rattle.c_tables.specs.Answers.{Learns}
use Rattle.c_tables.specs.declared.error.CheckError.{CheckError}
use Rattle.c_tables.specs.declared.error.CheckError.TheVariants as errors
use Rattle.c_tables.specs.declared.error.Kind.TheVariants as kinds
use Rattle.c_tables.specs.Tables.{shape_of, field_of, tag_of, binding_of}
use Rattle.c_tables.specs.declared.scope.Binding.{Binding}
use Rattle.c_tables.specs.declared.types.Field.{Field}
use Rattle.c_tables.specs.declared.types.Shape.{Shape}
use Rattle.c_tables.specs.declared.types.Tag.{Tag}
use Rattle.c_tables.specs.declared.types.Tag.TheVariants as sorts
use Rattle.c_tables.proofs.Names.{entry_found, entry_put, entry_there, member_found}

-- ---- types

pub pointer_made : (target : Qualified) (row : ℕ) (known after : Known) → rows.row_of target known ≡ Ok (row, after) → rows.pointer_to target known ≡ Ok (Pointer row, after)
pointer_made target row known after made = ap (go_on (λ r. given (Pointer r))) made

pub array_made : (element : Qualified) (count bytes size row : ℕ) (known after : Known) → bytes ≡ rows.bytes_of known element.ty → size ≡ kept (bytes * count) → rows.row_of (rows.plain element.ty) known ≡ Ok (row, after)
    → rows.array_of element count known ≡ Ok (rows.like element (Array row count size), after)
array_made element count bytes size row known after one all made =
    let whole : (n : ℕ) → Rule Qualified = λ n r. Ok (rows.like element (Array n count (kept (count * rows.bytes_of known element.ty))), r) in
    let same : kept (count * rows.bytes_of known element.ty) ≡ size = ap kept (ap (λ n. count * n) (sym one) ∙ mul_comm count bytes) ∙ sym all in
    ap (go_on whole) made ∙ ap (λ s. Ok (rows.like element (Array row count s), after)) same

pub size_seen : (xs : List Shape) (k : ℕ) (x : Shape) → k < length xs → x ≡ get_or xs k x → x.size ≡ slice_index (map (λ s. s.size) (map shape_of xs)) k
size_seen [] k x lt is = absurd (omega arith)
size_seen (y ∷ ys) zero x lt is = ap (λ (s : Shape). s.size) is
size_seen (y ∷ ys) (suc k) x lt is = size_seen ys k x (omega arith) is

pub shape_seen : (xs : List Shape) (k : ℕ) (x : Shape) → k < length xs → x ≡ get_or xs k x → slice_get (map shape_of xs) k ≡ Some (shape_of x)
shape_seen [] k x lt is = absurd (omega arith)
shape_seen (y ∷ ys) zero x lt is = ap (λ (s : Shape). Some (shape_of s)) (sym is)
shape_seen (y ∷ ys) (suc k) x lt is = shape_seen ys k x (omega arith) is

pub shape_missing : (xs : List Shape) (k : ℕ) → length xs ≤ k → slice_get (map shape_of xs) k ≡ None
shape_missing [] k past = refl
shape_missing (y ∷ ys) zero past = absurd (omega arith)
shape_missing (y ∷ ys) (suc k) past = shape_missing ys k (omega arith)

-- the same, of the slice that a vector lends
pub size_read : (ys xs : List Shape) (k : ℕ) (x : Shape) → ys ≡ xs → k < length ys → x ≡ get_or ys k x → x.size ≡ slice_index (map (λ s. s.size) (map shape_of xs)) k
size_read ys xs k x same lt is = size_seen ys k x lt is ∙ ap (λ l. slice_index (map (λ s. s.size) (map shape_of l)) k) same

pub shape_read : (ys xs : List Shape) (k : ℕ) (x : Shape) → ys ≡ xs → k < length ys → x ≡ get_or ys k x → Some (shape_of x) ≡ slice_get (map shape_of xs) k
shape_read ys xs k x same lt is = sym (shape_seen ys k x lt is) ∙ ap (λ l. slice_get (map shape_of l) k) same

pub shape_past : (ys xs : List Shape) (k : ℕ) → ys ≡ xs → length ys ≤ k → None ≡ slice_get (map shape_of xs) k
shape_past ys xs k same past = sym (shape_missing ys k past) ∙ ap (λ l. slice_get (map shape_of l) k) same

-- ---- members

abbrev pub Fields : Type 0
Fields = List (Vec ℕ Global × Field)

abbrev pub fields_of : Fields → List (List ℕ × rule.Field)
fields_of es = map (λ e. (e.0.items, field_of e.1)) es

-- as the typed tree has them
abbrev pub member_trees : Fields → List MemberTree
member_trees es = map member_tree (fields_of es)

pub member_added : (fields fresh : Fields) (name : Vec ℕ Global) (ty : Qualified) (size bytes all : ℕ) (body : rule.Progress) → fresh ≡ insert_entry (λ a b. bytes_eq a.items b.items) fields name (record { ty = ty; offset = size })
    → all ≡ kept (size + bytes) → ◌≡◌ {A = rule.Shape} (record { fields = fields_of fresh; size = all; body = body }) (rows.with_member name.items ty bytes (record { fields = fields_of fields; size = size; body = body }))
member_added fields fresh name ty size bytes all body put is =
    let field : Field = record { ty = ty; offset = size } in
    let now : fields_of fresh ≡ with_entry (fields_of fields) name.items (field_of field) = ap fields_of put ∙ entry_put (λ (v : Vec ℕ Global). v.items) field_of fields name field in
    λ j. record { fields = now j; size = is j; body = body }

pub has_entry : (fields : Fields) (name : List ℕ) → is_some (lookup (λ k. bytes_eq name k.items) fields) ≡ is_some (entry_of (fields_of fields) name)
has_entry fields name = entry_there (λ (v : Vec ℕ Global). v.items) field_of fields name

pub member_some : (fields : Fields) (name : List ℕ) (i : ℕ) (f : Field) → Some i ≡ position (λ k. bytes_eq name k.items) (keys_of fields) → Some f ≡ lookup (λ k. bytes_eq name k.items) fields
    → Some (i, field_of f) ≡ member_from (fields_of fields) name 0
member_some fields name i f at is = member_found (λ (v : Vec ℕ Global). v.items) field_of fields name (Some i) (Some f) at is

pub member_none : (fields : Fields) (name : List ℕ) → None ≡ position (λ k. bytes_eq name k.items) (keys_of fields) → None ≡ lookup (λ k. bytes_eq name k.items) fields
    → None ≡ member_from (fields_of fields) name 0
member_none fields name at is = member_found (λ (v : Vec ℕ Global). v.items) field_of fields name None None at is

-- ---- names

abbrev pub Bindings : Type 0
Bindings = List (Vec ℕ Global × Binding)

abbrev pub bindings_of : Bindings → Scope
bindings_of es = map (λ e. (e.0.items, binding_of e.1)) es

pub binding_found : (es : Bindings) (name : List ℕ) → option_map binding_of (lookup (λ k. bytes_eq name k.items) es) ≡ entry_of (bindings_of es) name
binding_found es name = entry_found (λ (v : Vec ℕ Global). v.items) binding_of es name

pub binding_put : (es fresh : Bindings) (k : Vec ℕ Global) (b : Binding) (name : List ℕ) → k.items ≡ name → fresh ≡ insert_entry (λ x y. bytes_eq x.items y.items) es k b → bindings_of fresh ≡ with_entry (bindings_of es) name (binding_of b)
binding_put es fresh k b name is put = ap bindings_of put ∙ entry_put (λ (v : Vec ℕ Global). v.items) binding_of es k b ∙ ap (λ t. with_entry (bindings_of es) t (binding_of b)) is

-- ---- tags

abbrev pub Tags : Type 0
Tags = List (Vec ℕ Global × Tag)

abbrev pub tags_of : Tags → List (List ℕ × rule.Tag)
tags_of es = map (λ e. (e.0.items, tag_of e.1)) es

pub tag_found : (es : Tags) (name : List ℕ) → option_map tag_of (lookup (λ k. bytes_eq name k.items) es) ≡ entry_of (tags_of es) name
tag_found es name = entry_found (λ (v : Vec ℕ Global). v.items) tag_of es name

pub tag_put : (es fresh : Tags) (k : Vec ℕ Global) (t : Tag) (name : List ℕ) → k.items ≡ name → fresh ≡ insert_entry (λ a b. bytes_eq a.items b.items) es k t → with_entry (tags_of es) name (tag_of t) ≡ tags_of fresh
tag_put es fresh k t name is put = sym (ap tags_of put ∙ entry_put (λ (v : Vec ℕ Global). v.items) tag_of es k t ∙ ap (λ n. with_entry (tags_of es) n (tag_of t)) is)

abbrev pub put_tag : List ℕ → Result (ℕ × Known) Fault → Result (ℕ × Known) Fault
put_tag name (Ok x) = Ok (x.0, record x.1 { tags = with_entry (x.1).tags name (rule.StructTag x.0) })
put_tag name (Err fault) = Err fault

pub tag_declared : (old known : Known) (targets : List Qualified) (shapes : List Shape) (tags fresh : Tags) (k : Vec ℕ Global) (n : ℕ) (name : List ℕ)
    → rows.new_structure old ≡ Ok (n, record known { targets = targets; shapes = map shape_of shapes; tags = tags_of tags })
    → k.items ≡ name → fresh ≡ insert_entry (λ a b. bytes_eq a.items b.items) tags k (sorts.Structure n)
    → rows.new_tag name old ≡ Ok (n, record known { targets = targets; shapes = map shape_of shapes; tags = tags_of fresh })
tag_declared old known targets shapes tags fresh k n name made is put =
    let now : with_entry (tags_of tags) name (rule.StructTag n) ≡ tags_of fresh = tag_put tags fresh k (sorts.Structure n) name is put in
    ap (put_tag name) made ∙ ap (λ l. Ok (n, record known { targets = targets; shapes = map shape_of shapes; tags = l })) now

-- ---- functions

-- a further declaration with other types
pub refused_once : (r : Result Unit CheckError) (line : ℕ) (same : Bool) (known : Known) → r ≡ Err (errors.Kind kinds.Again line) → same ≡ false → Learns r known (rule.tried ((not same, faults.Again) ∷ []) line known)
refused_once r line same known is other = subst (λ x. Learns x known (rule.tried ((not same, faults.Again) ∷ []) line known)) (sym is) (ap (λ (b : Bool). rule.tried ((not b, faults.Again) ∷ []) line known) other)

-- ---- loops that move what they read

pub all_read : {A : Type 0} (made rest whole : List A) → rest ≡ [] → made ++ rest ≡ whole → made ≡ whole
all_read made rest whole none so_far = sym (append-nil made) ∙ ap (λ l. made ++ l) (sym none) ∙ so_far

pub none_left : {A : Type 0} (xs : List A) (n : ℕ) → n ≡ length xs → n ≡ 0 → xs ≡ []
none_left [] n many none = refl
none_left (x ∷ xs) n many none = absurd (omega (arith, many, none))

-- ---- all tables at the beginning

abbrev known_in : Known → Result (Known × Known) Fault → Known
known_in other (Ok x) = x.0
known_in other (Err fault) = other

pub all_begins : (types scopes_first scopes functions statics : Known → Known) (body : Body) (names : List (List ℕ))
    → ((known : Known) → types known ≡ record known { targets = []; shapes = []; tags = [] })
    → ((known : Known) → scopes_first known ≡ record known { scopes = []; lists = 0 })
    → ((known : Known) → enter (scopes_first known) ≡ Ok (scopes known, scopes known))
    → ((known : Known) → functions known ≡ record known { signatures = []; definitions = names })
    → ((known : Known) → statics known ≡ record known { statics = [] })
    → body ≡ no_body
    → types (scopes (functions (statics (record (known_first []) { body = body })))) ≡ known_first names
all_begins types scopes_first scopes functions statics body names of_types of_first entered of_functions of_statics of_body =
    let opened : (known : Known) → scopes known ≡ record known { scopes = [] ∷ []; lists = 0 } =
    λ known. sym (ap (known_in known) (sym (ap enter (of_first known)) ∙ entered known)) in
    let first : record (known_first []) { body = body } ≡ known_first [] = ap (λ b. record (known_first []) { body = b }) of_body in
    let second : statics (record (known_first []) { body = body }) ≡ known_first [] = ap statics first ∙ of_statics (known_first []) in
    let third : functions (statics (record (known_first []) { body = body })) ≡ record (known_first []) { definitions = names } = ap functions second ∙ of_functions (known_first []) in
    ap (λ k. types (scopes k)) third ∙ ap types (opened (record (known_first []) { definitions = names })) ∙ of_types (record (known_first []) { definitions = names; scopes = [] ∷ [] })
