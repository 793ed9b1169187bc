-- Several bytes that become others, W, or 0.
use Rattle.std.specs.Prelude.{ℕ, List}
use Rattle.core_code.specs.declared.code.Byte.{Byte}
use Rattle.sym_code.specs.declared.code.Sym.{Sym}
use Rattle.select_code.specs.Pieces.{byte_behind, store_code, set_code, copy_code}
use Rattle.select_wide.specs.Pieces.{rising}

abbrev pub copies_code : Byte → Byte → ℕ → List Sym
copies_code to from count = rising (λ k. copy_code (byte_behind to k) (byte_behind from k)) count

abbrev pub stores_code : Byte → ℕ → List Sym
stores_code to count = rising (λ k. store_code (byte_behind to k)) count

abbrev pub clears_code : Byte → ℕ → List Sym
clears_code to count = rising (λ k. set_code (byte_behind to k) 0) count
