-- The names, frame bytes and stated words of what a program's copies are copies of.
use Rattle.std.specs.Prelude.{ℕ, ◌+◌, List, [], Option, Some, None, slice_get}
use Rattle.c_typed.specs.Room.{frame_size, variables_bytes}
use Rattle.c_typed.specs.Trees.{FunctionTree, Program}
use Rattle.c_typed.specs.Words.{block_size}
use Rattle.c_typed.specs.declared.calls.FnId.{FnId}
use Rattle.c_typed.specs.declared.calls.FnId.TheVariants.{User, Helper}
use Rattle.ram_place.specs.Helpers as helpers

abbrev pub size_or_none : (FunctionTree → ℕ) → Option FunctionTree → ℕ
size_or_none size None = 0
size_or_none size (Some f) = size f

abbrev pub frame_bytes : Program → FnId → ℕ
frame_bytes p (User number) = size_or_none (frame_size p.sizes) (slice_get p.functions number)
frame_bytes p (Helper helper) = helpers.frame_bytes helper

-- the parameters and locals, at the front of the frame
abbrev pub variable_bytes : Program → FnId → ℕ
variable_bytes p (User number) = size_or_none (λ f. variables_bytes p.sizes f.params + variables_bytes p.sizes f.locals) (slice_get p.functions number)
variable_bytes p (Helper helper) = 0

abbrev pub block_words : Program → FnId → ℕ
block_words p (User number) = size_or_none (block_size p.sizes) (slice_get p.functions number)
block_words p (Helper helper) = helpers.words helper

abbrev pub name_or_none : Option FunctionTree → List ℕ
name_or_none None = []
name_or_none (Some f) = f.name

abbrev pub name_of : Program → FnId → List ℕ
name_of p (User number) = name_or_none (slice_get p.functions number)
name_of p (Helper helper) = helpers.name helper
