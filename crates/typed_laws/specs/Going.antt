-- What holds behind a rule that adds rows of types alone, where it is met.
use Rattle.std.specs.Prelude.{◌≡◌, List, Result, Ok, Err}
use Rattle.c_typed.specs.declared.types.Qualified.{Qualified}
use Rattle.type_rules.specs.Faults.{Fault}
use Rattle.type_rules.specs.Known.{Known}
use Rattle.typed_laws.specs.Tables.{at, Adds, Orderly}

pub record Came (known : Known) (before : List Qualified) {A : Type 0} (P : List Qualified → A → Type 0) (x : A) (behind : Known) : Type 0 where
  pub rows : List Qualified
  pub is : behind ≡ at known rows
  pub adds : Adds before rows
  pub orderly : Orderly (at known rows)
  pub holds : P rows x

unfoldable pub Goes : (known : Known) → List Qualified → {A : Type 0} → (List Qualified → A → Type 0) → Result (A × Known) Fault → Type 0
Goes known before P (Ok x) = Came known before P x.0 x.1
Goes known before P (Err fault) = Unit {0}
