-- The kinds of rules on names and types, and how the first rule that a node breaks is found.
use Rattle.std.specs.Prelude.{ℕ, Bool, if◌then◌else◌, List, [], ◌∷◌, Option, Some, None}

-- The kinds, in the order in which they are tried at one node.
pub data Kind : Type 0 where
  Name : Kind
  Again : Kind
  Declare : Kind
  Size : Kind
  Incomplete : Kind
  Constant : Kind
  Initializer : Kind
  Member : Kind
  Call : Kind
  Address : Kind
  Assign : Kind
  Operand : Kind
  Convert : Kind
  Return : Kind
  Jump : Kind

-- A broken rule: its kind, and the line of the first token of the node that breaks it.
pub record Fault : Type 0 where
  pub kind : Kind
  pub line : ℕ

-- The rules of one node in order: of each, whether it is broken, and its kind.
abbrev pub Tests : Type 0
Tests = List (Bool × Kind)

abbrev pub first_broken : Tests → Option Kind
first_broken [] = None
first_broken (t ∷ ts) = if t.0 then Some t.1 else first_broken ts
