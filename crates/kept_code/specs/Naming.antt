-- Which static objects byte code names, and of which it takes the address.
use Rattle.std.specs.Prelude.{ℕ, Bool, true, ◌&&◌, List}
use Rattle.std.specs.List.{list_all}
use Rattle.core_code.specs.Tree as code
use Rattle.core_code.specs.Tree.{Tree, Trees}
use Rattle.core_code.specs.declared.code.Byte.{Byte}
use Rattle.core_code.specs.declared.code.Byte.TheVariants as bytes

-- a byte of a static object is one of an object that passes the test; all others are free
abbrev pub byte_keeps : (ℕ → Bool) → Byte → Bool
byte_keeps test (bytes.Static object offset) = test object
byte_keeps test (bytes.Frame copy offset) = true
byte_keeps test (bytes.Result root k) = true
byte_keeps test (bytes.Device address) = true

-- The static objects that an operation names pass one test, and those whose address it takes another one.
unfoldable mutual
  pub tree_keeps : (ℕ → Bool) → (ℕ → Bool) → Tree → Bool
  tree_keeps named lent (code.Set to value) = byte_keeps named to
  tree_keeps named lent (code.Address to place) = byte_keeps named to && byte_keeps lent place
  tree_keeps named lent (code.Copy to from) = byte_keeps named to && byte_keeps named from
  tree_keeps named lent (code.Load to pointer count) = byte_keeps named to && byte_keeps named pointer
  tree_keeps named lent (code.Store pointer from count) = byte_keeps named pointer && byte_keeps named from
  tree_keeps named lent (code.Unary op ty at) = byte_keeps named at
  tree_keeps named lent (code.Binary op ty to left right) = byte_keeps named to && (byte_keeps named left && byte_keeps named right)
  tree_keeps named lent (code.Convert from to at) = byte_keeps named at
  tree_keeps named lent (code.BitRead to register bit) = byte_keeps named to
  tree_keeps named lent (code.BitWrite register bit from) = byte_keeps named from
  tree_keeps named lent (code.Call copy) = true
  tree_keeps named lent code.Leave = true
  tree_keeps named lent (code.Many parts) = trees_keep named lent parts
  tree_keeps named lent (code.If test count holds fails) = byte_keeps named test && (tree_keeps named lent holds && tree_keeps named lent fails)
  tree_keeps named lent (code.Loop body) = tree_keeps named lent body
  tree_keeps named lent (code.Exit count) = true
  tree_keeps named lent (code.Again count) = true

  pub trees_keep : (ℕ → Bool) → (ℕ → Bool) → Trees → Bool
  trees_keep named lent code.NoTree = true
  trees_keep named lent (code.AndTree part parts) = tree_keeps named lent part && trees_keep named lent parts

abbrev pub code_keeps : (ℕ → Bool) → (ℕ → Bool) → List Tree → Bool
code_keeps named lent ts = list_all (tree_keeps named lent) ts
