-- To which objects pointers may lead: to those of which code takes an address, or an object's first bytes hold one.
use Rattle.std.specs.Prelude.{◌≡◌, ℕ, Bool, true, ◌&&◌, slice_get}
use Rattle.pic_world.specs.World.{Outside}
use Rattle.core_code.specs.Bytes.{Object, Fixed, FrameOf, Held, Unset, Number, Part}
use Rattle.core_code.specs.Machine.{Program, static_byte, core_moment}
use Rattle.core_code.specs.Tree as tree
use Rattle.core_code.specs.Tree.{Tree, Trees, NoTree, AndTree, trees_of}
use Rattle.core_code.specs.declared.code.Byte.{Byte}
use Rattle.core_code.specs.declared.code.Byte.TheVariants.{Static, Frame, Result, Device}
use Rattle.narrow_code.specs.Links.{is_lent, reaches_lent, IsOpen}
use Rattle.narrow_code.specs.Plans.{all_given, Narrowing}

-- a byte of a pointer leads to an object that is lent
abbrev pub leads_lent : (Object → Bool) → Held → Bool
leads_lent lent Unset = true
leads_lent lent (Number n) = true
leads_lent lent (Part object offset high) = lent object

-- an address is taken of an object that is lent
abbrev pub takes_lent : (Object → Bool) → Byte → Bool
takes_lent lent (Static object offset) = lent (Fixed object)
takes_lent lent (Frame copy offset) = lent (FrameOf copy)
takes_lent lent (Result root k) = true
takes_lent lent (Device address) = true

abbrev mutual
  pub lends : (Object → Bool) → Tree → Bool
  lends lent (tree.Address to place) = takes_lent lent place
  lends lent (tree.Many ts) = all_lend lent ts
  lends lent (tree.If test size first second) = lends lent first && lends lent second
  lends lent (tree.Loop body) = lends lent body
  lends lent _ = true

  pub all_lend : (Object → Bool) → Trees → Bool
  all_lend lent NoTree = true
  all_lend lent (AndTree t ts) = lends lent t && all_lend lent ts

pub record IsLending (x : Narrowing) : Type 0 where
  pub bodies : (c : ℕ) → all_lend (is_lent x.lent) (all_given (x.plan c)) ≡ true
  pub first : (n offset : ℕ) → leads_lent (is_lent x.lent) (static_byte (slice_get x.rest.first n) offset) ≡ true

-- Where addresses are taken of static objects and such frames alone, no pointer ever leads to another frame.
abbrev pub AlwaysOpen : Type 0
AlwaysOpen = (x : Narrowing) → IsLending x → (o : Outside) (n : ℕ) → IsOpen x o n

-- A program that takes addresses of objects that are lent alone, and whose objects begin with no address of another one.
pub record TakesOnly (lent : Object → Bool) (q : Program) : Type 0 where
  pub bodies : (c : ℕ) → all_lend lent (trees_of (q.body c)) ≡ true
  pub first : (n offset : ℕ) → leads_lent lent (static_byte (slice_get q.first n) offset) ≡ true

-- So at no moment it accesses another object by a pointer.
abbrev pub LeadsOnly : Type 0
LeadsOnly = (lent : Object → Bool) (q : Program) → TakesOnly lent q → (o : Outside) (i : ℕ) → reaches_lent lent (core_moment (record { program = q; outside = o }) i).code ≡ true
