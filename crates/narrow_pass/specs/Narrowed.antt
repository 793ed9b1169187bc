-- What becomes of byte code where operators are done on the low bytes alone.
use Rattle.std.specs.Prelude.{ℕ, ◌≡◌, Bool, true, false, List, [], map, replicate, get_or, Some}
use Rattle.std.specs.List.{AllZip}
use Rattle.std.specs.Global.{Global}
use Rattle.std.specs.declared.vec.Vec.{Vec}
use Rattle.core_code.specs.Tree.{trees_of, list_of}
use Rattle.core_code.specs.View.{trees_in}
use Rattle.core_code.specs.declared.code.Body.{Body}
use Rattle.core_code.specs.declared.code.CoreProgram.{CoreProgram}
use Rattle.core_code.specs.declared.code.FirstByte.{FirstByte}
use Rattle.narrow_code.specs.Checked.{walk_all}
use Rattle.narrow_code.specs.Drafts.{Drafts, all_planned}
use Rattle.narrow_code.specs.Lending.{all_lend}
use Rattle.narrow_code.specs.Links.{is_lent}
use Rattle.narrow_code.specs.Marks.{Mark, Same}
use Rattle.narrow_code.specs.Plans.{all_made}

-- A body is made by the plan of a draft that passes the test, of whose frame so many bytes are known to be the same at its front.
pub record IsNarrowedBody (lent : ℕ → Bool) (given made : Body) : Type 0 where
  pub copy : made.copy ≡ given.copy
  pub root : made.root ≡ given.root
  pub drafts : Drafts
  pub size : ℕ
  pub after : List Mark
  pub passes : walk_all lent given.copy [] (replicate size Same) (trees_of (trees_in given.code.items)) drafts ≡ Some after
  pub code : trees_in made.code.items ≡ list_of (all_made (all_planned (trees_of (trees_in given.code.items)) drafts))
  pub lends : all_lend (is_lent lent) (trees_of (trees_in given.code.items)) ≡ true

-- the same body once more
pub record IsSameBody (given made : Body) : Type 0 where
  pub copy : made.copy ≡ given.copy
  pub root : made.root ≡ given.root
  pub code : trees_in made.code.items ≡ trees_in given.code.items

abbrev pub items_of : Vec FirstByte Global → List FirstByte
items_of bytes = bytes.items

-- of each copy by its number, whether an address of its frame is taken
abbrev pub lent_by : List Bool → ℕ → Bool
lent_by lent copy = get_or lent copy false

-- The bodies are made by plans, or they are the given ones.
pub data AreNarrowed (given made : List Body) : Type 0 where
  ByPlans : (lent : List Bool) → AllZip (IsNarrowedBody (lent_by lent)) given made → AreNarrowed given made
  Unchanged : AllZip IsSameBody given made → AreNarrowed given made

pub record IsNarrowed (given made : CoreProgram) : Type 0 where
  pub statics : map items_of made.statics.items ≡ map items_of given.statics.items
  pub bodies : AreNarrowed given.bodies.items made.bodies.items
