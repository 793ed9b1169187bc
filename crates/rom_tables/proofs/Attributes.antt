-- What the typing rules ask of a node is the same of the node once more: its type, whether it is a null constant or was
-- converted, and how what it leads to is reached.
use Rattle.std.proofs.Common.{◌≡◌, ℕ, true, false, ◌&&◌, List, Option, Some, None, refl, ap, ap₂}
use Rattle.c_typed.specs.Fits.{is_null, source, source_of, is_converted, is_memory, is_local_name, if_array, first_reach, is_reached, reached_by, array_reach}
use Rattle.c_typed.specs.Sameness.{is_pointer}
use Rattle.c_typed.specs.Trees as tree
use Rattle.c_typed.specs.Trees.{Expression, Place}
use Rattle.c_typed.specs.Types.{type_of, place_type}
use Rattle.c_typed.specs.declared.types.Ty.{Ty}
use Rattle.rom_tables.specs.Outlined.{outlined_expression, outlined_arguments, outlined_place, read_of}
use Rattle.rom_tables.specs.Tables.{table_on_left, table_on_right}

-- ---- a read, whether it stays or becomes a call
module _ (first : ℕ) (place : Place) (ty : Ty) (line : ℕ) where
  read_typed : (left right : Option ℕ) → type_of (read_of first left right place ty line) ≡ ty
  read_typed (Some t) right = refl
  read_typed None (Some t) = refl
  read_typed None None = refl

  read_null : (left right : Option ℕ) → is_null (read_of first left right place ty line) ≡ false
  unfolding is_null
  read_null (Some t) right = refl
  read_null None (Some t) = refl
  read_null None None = refl

  read_source : (left right : Option ℕ) → source_of (read_of first left right place ty line) ≡ None
  unfolding source_of
  read_source (Some t) right = refl
  read_source None (Some t) = refl
  read_source None None = refl

  read_converted : (left right : Option ℕ) → is_converted (read_of first left right place ty line) ≡ false
  unfolding is_converted
  read_converted (Some t) right = refl
  read_converted None (Some t) = refl
  read_converted None None = refl

  read_reached : (left right : Option ℕ) → reached_by (read_of first left right place ty line) ≡ true
  unfolding is_reached reached_by array_reach
  read_reached (Some t) right = refl
  read_reached None (Some t) = refl
  read_reached None None = refl

  read_array : (left right : Option ℕ) → array_reach (read_of first left right place ty line) ≡ None
  unfolding is_reached reached_by array_reach
  read_array (Some t) right = refl
  read_array None (Some t) = refl
  read_array None None = refl

module _ (ts : List ℕ) (first : ℕ) where
  pub type_again : (e : Expression) → type_of (outlined_expression ts first e) ≡ type_of e
  unfolding outlined_expression outlined_arguments outlined_place
  type_again (tree.Read place ty line) = read_typed first (outlined_place ts first place) ty line (table_on_left ts place) (table_on_right ts place)
  type_again (tree.Constant value line) = refl
  type_again _ = refl

  pub place_type_again : (place : Place) → place_type (outlined_place ts first place) ≡ place_type place
  unfolding outlined_expression outlined_arguments outlined_place
  place_type_again (tree.Name object ty line) = refl
  place_type_again (tree.Bit register bit line) = refl
  place_type_again (tree.Member whole member offset ty line) = refl
  place_type_again (tree.Deref pointer ty line) = refl

  pub null_again : (e : Expression) → is_null (outlined_expression ts first e) ≡ is_null e
  unfolding outlined_expression outlined_arguments outlined_place is_null
  null_again (tree.Read place ty line) = read_null first (outlined_place ts first place) ty line (table_on_left ts place) (table_on_right ts place)
  null_again (tree.Cast operand ty line) = ap (λ b. is_pointer ty && b) (null_again operand)
  null_again _ = refl

  pub source_again : (e : Expression) → source_of (outlined_expression ts first e) ≡ source_of e
  unfolding outlined_expression outlined_arguments outlined_place source_of
  source_again (tree.Read place ty line) = read_source first (outlined_place ts first place) ty line (table_on_left ts place) (table_on_right ts place)
  source_again (tree.Convert operand ty line) = ap₂ source (null_again operand) (type_again operand)
  source_again _ = refl

  pub converted_again : (e : Expression) → is_converted (outlined_expression ts first e) ≡ is_converted e
  unfolding outlined_expression outlined_arguments outlined_place is_converted
  converted_again (tree.Read place ty line) = read_converted first (outlined_place ts first place) ty line (table_on_left ts place) (table_on_right ts place)
  converted_again _ = refl

  pub memory_again : (place : Place) → is_memory (outlined_place ts first place) ≡ is_memory place
  unfolding outlined_expression outlined_arguments outlined_place
  memory_again (tree.Name object ty line) = refl
  memory_again (tree.Bit register bit line) = refl
  memory_again (tree.Member whole member offset ty line) = refl
  memory_again (tree.Deref pointer ty line) = refl

  pub local_again : (place : Place) → is_local_name (outlined_place ts first place) ≡ is_local_name place
  unfolding outlined_expression outlined_arguments outlined_place
  local_again (tree.Name object ty line) = refl
  local_again (tree.Bit register bit line) = refl
  local_again (tree.Member whole member offset ty line) = refl
  local_again (tree.Deref pointer ty line) = refl

  mutual
    unfolding outlined_expression outlined_arguments outlined_place is_reached reached_by array_reach

    pub place_reached_again : (place : Place) → is_reached (outlined_place ts first place) ≡ is_reached place
    place_reached_again (tree.Name object ty line) = refl
    place_reached_again (tree.Bit register bit line) = refl
    place_reached_again (tree.Member whole member offset ty line) = place_reached_again whole
    place_reached_again (tree.Deref pointer ty line) = reached_again pointer

    pub reached_again : (e : Expression) → reached_by (outlined_expression ts first e) ≡ reached_by e
    reached_again (tree.Read place ty line) = read_reached first (outlined_place ts first place) ty line (table_on_left ts place) (table_on_right ts place)
    reached_again (tree.Offset op left right size ty line) = ap₂ first_reach (array_again left) (array_again right)
    reached_again _ = refl

    pub array_again : (e : Expression) → array_reach (outlined_expression ts first e) ≡ array_reach e
    array_again (tree.Read place ty line) = read_array first (outlined_place ts first place) ty line (table_on_left ts place) (table_on_right ts place)
    array_again (tree.Address place ty line) = ap₂ (λ q r. if_array q.ty r) (place_type_again place) (place_reached_again place)
    array_again _ = refl
