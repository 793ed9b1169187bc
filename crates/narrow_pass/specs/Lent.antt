-- Of which objects byte code takes addresses.
use Rattle.std.specs.Prelude.{◌≡◌, Bool, true}
use Rattle.core_code.specs.Bytes.{Object}
use Rattle.core_code.specs.Tree.{trees_of}
use Rattle.core_code.specs.View.{trees_in}
use Rattle.core_code.specs.declared.code.Body.{Body}
use Rattle.narrow_code.specs.Lending.{all_lend}

-- the body takes addresses of objects that are lent, and of no others
abbrev pub LendsOnly : (Object → Bool) → Body → Type 0
LendsOnly lent body = all_lend lent (trees_of (trees_in body.code.items)) ≡ true
