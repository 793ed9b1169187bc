-- Operations on the bytes of a value, one for each byte.
use Rattle.std.specs.Prelude.{ℕ, zero, suc, ◌≡◌, Bool, if◌then◌else◌, List, [], ◌∷◌, ◌++◌, min}
use Rattle.c_ints.specs.declared.operators.BinOp.{BinOp}
use Rattle.c_ints.specs.declared.types.IntTy.{IntTy}
use Rattle.core_code.specs.Tree as code
use Rattle.core_code.specs.Tree.{Tree, many}
use Rattle.core_code.specs.View.{trees_in}
use Rattle.core_code.specs.declared.code.Byte.{Byte}
use Rattle.core_code.specs.declared.code.Core.{Core}
use Rattle.core_puts.specs.Bytes.{behind, byte_at}

-- the code has this behind what it had
abbrev pub Appends : List Core → List Core → List Tree → Type 0
Appends old new code = trees_in new ≡ trees_in old ++ code

-- So many bytes become others, lowest first.
unfoldable pub copies : Byte → Byte → ℕ → List Tree
copies to from zero = []
copies to from (suc k) = copies to from k ++ code.Copy (behind to k) (behind from k) ∷ []

abbrev pub copies_if : Bool → Byte → Byte → ℕ → List Tree
copies_if wanted to from count = if wanted then copies to from count else []

-- So many bytes become those of a number.
unfoldable pub sets : Byte → ℕ → ℕ → List Tree
sets to number zero = []
sets to number (suc k) = sets to number k ++ code.Set (behind to k) (byte_at number k) ∷ []

-- So many bytes become 0.
unfoldable pub zeros : Byte → ℕ → List Tree
zeros to zero = []
zeros to (suc k) = zeros to k ++ code.Set (behind to k) 0 ∷ []

-- an operator whose value takes the place of its left operand
abbrev pub operator : BinOp → IntTy → Byte → Byte → Tree
operator op ty at right = code.Binary op ty at at right

unfoldable pub test_size : ℕ → ℕ
test_size size = min size 0xff

-- a choice by whether one of so many bytes isn't 0
abbrev pub choice : Byte → ℕ → List Tree → List Tree → Tree
choice test size held failed = code.If test (test_size size) (many held) (many failed)
