-- The tables of the checker, as the rules speak of them: what is known at a place.
use Rattle.std.specs.Prelude.{pos, List, [], length, map, reverse}
use Rattle.c_ints.specs.Range.{cut}
use Rattle.c_ints.specs.declared.types.IntTy.TheVariants as int
use Rattle.c_typed.specs.Views.{static_of, variable_of}
use Rattle.type_rules.specs.Known as rule
use Rattle.type_rules.specs.Known.{Known, Scope}
use Rattle.c_tables.specs.declared.body.Body.{Body}
use Rattle.c_tables.specs.declared.checker.Checker.{Checker}
use Rattle.c_tables.specs.declared.functions.Functions.{Functions}
use Rattle.c_tables.specs.declared.functions.Signature.{Signature}
use Rattle.c_tables.specs.declared.scope.Binding.{Binding}
use Rattle.c_tables.specs.declared.scope.Binding.TheVariants as bindings
use Rattle.c_tables.specs.declared.scope.Names.{Names}
use Rattle.c_tables.specs.declared.scope.Scopes.{Scopes}
use Rattle.c_tables.specs.declared.scope.Waiting.{Waiting}
use Rattle.c_tables.specs.declared.scope.Waiting.TheVariants as waitings
use Rattle.c_tables.specs.declared.statics.Statics.{Statics}
use Rattle.c_tables.specs.declared.types.Field.{Field}
use Rattle.c_tables.specs.declared.types.Progress.{Progress}
use Rattle.c_tables.specs.declared.types.Progress.TheVariants as progress
use Rattle.c_tables.specs.declared.types.Shape.{Shape}
use Rattle.c_tables.specs.declared.types.Tag.{Tag}
use Rattle.c_tables.specs.declared.types.Tag.TheVariants as tags
use Rattle.c_tables.specs.declared.types.Types.{Types}

-- ---- types

abbrev pub progress_of : Progress → rule.Progress
progress_of progress.Absent = rule.Absent
progress_of progress.Open = rule.Open
progress_of progress.Closed = rule.Closed

abbrev pub field_of : Field → rule.Field
field_of f = record { ty = f.ty; offset = f.offset }

abbrev pub shape_of : Shape → rule.Shape
shape_of s = record { fields = map (λ e. (e.0.items, field_of e.1)) s.fields.entries; size = s.size; body = progress_of s.body }

abbrev pub tag_of : Tag → rule.Tag
tag_of (tags.Structure number) = rule.StructTag number
tag_of tags.Enumeration = rule.EnumTag

-- what is known, with these tables of types
abbrev pub types_in : Types → Known → Known
types_in t known = record known { targets = t.targets.keys; shapes = map shape_of t.shapes.items; tags = map (λ e. (e.0.items, tag_of e.1)) t.tags.entries }

-- ---- names

abbrev pub waiting_of : Waiting → rule.Waiting
waiting_of waitings.Whole = rule.Whole
waiting_of (waitings.OneArray n) = rule.OneArray n
waiting_of (waitings.TwoArrays n m) = rule.TwoArrays n m
waiting_of waitings.Never = rule.Never

abbrev pub binding_of : Binding → rule.Binding
binding_of (bindings.Object object ty fixed) = rule.ObjectName object ty fixed
binding_of (bindings.Bit register bit) = rule.BitName register bit
binding_of (bindings.Function number) = rule.FunctionName number
binding_of (bindings.TypeName ty waiting) = rule.TypeNamed ty (waiting_of waiting)
binding_of (bindings.Enumerator bits) = rule.EnumeratorName (cut int.Int (pos bits))

abbrev pub scope_of : Names → Scope
scope_of n = map (λ e. (e.0.items, binding_of e.1)) n.entries.entries

-- the open scopes, the innermost first
abbrev pub scopes_of : Scopes → List Scope
scopes_of s = reverse (map (λ m. map (λ e. (e.0.items, binding_of e.1)) m.entries) s.open.items)

abbrev pub scopes_in : Scopes → Known → Known
scopes_in s known = record known { scopes = scopes_of s; lists = length s.lists.items }

-- ---- functions, static objects, the body

abbrev pub signature_of : Signature → rule.Signature
signature_of s = record { result = s.result; params = s.params.items; definition = s.definition; defined = s.defined }

abbrev pub functions_in : Functions → Known → Known
functions_in f known = record known { signatures = map signature_of f.declared.items; definitions = map (λ name. name.items) f.definitions.keys }

abbrev pub statics_in : Statics → Known → Known
statics_in s known = record known { statics = map static_of s.entries.items }

abbrev pub body_of : Body → rule.Body
body_of b = record { name = b.name.items; result = b.result; locals = map variable_of b.locals.items; declarators = length b.declarators.items }

abbrev pub body_in : Body → Known → Known
body_in b known = record known { body = body_of b }

-- ---- all of them

abbrev pub known_of : Checker → Known
known_of c = types_in c.types (scopes_in c.scopes (functions_in c.functions (statics_in c.statics (body_in c.body (rule.known_first [])))))
