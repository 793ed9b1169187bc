-- The laws of reads that never come about: structures are no numbers, places have no type void, and structures have bytes.
use Rattle.std.proofs.Common.{◌≡◌, ℕ, ◌<◌, true, false, List, ◌∷◌, Option, sym, ap, ◌∙◌, subst, arith}
use Rattle.std.proofs.lemmas.Bool.{false≢true}
use Rattle.c_typed.specs.Sameness.{is_complete, is_scalar, is_struct}
use Rattle.c_typed.specs.Trees as tree
use Rattle.c_typed.specs.Trees.{Item, Place, Program}
use Rattle.c_typed.specs.Types.{place_type, type_bytes}
use Rattle.c_typed.specs.declared.types.Ty.{Ty}
use Rattle.c_typed.specs.declared.types.Ty.TheVariants as types
use Rattle.src_rules.proofs.Rules.{read_rule}
use Rattle.src_values.specs.Control.{CopyRead, Fetch, Found, Skim, Nothing, At, Items, Pending, In, Doing}
use Rattle.src_values.specs.declared.objects.Byte.{Byte}
use Rattle.src_values.specs.declared.objects.Spot.{Spot}
use Rattle.lower_trace.specs.Lowering.{IsLowerable}
use Rattle.lower_trace.proofs.CodeLeft.{Scene}
use Rattle.lower_trace.proofs.Leads.{Law}
use Rattle.lower_trace.proofs.PlaceTypes.{place_not_void, struct_complete}

-- A structure that an object can have has a byte at least.
abbrev pub HaveBytes : Program → Type 0
HaveBytes p = (number : ℕ) → is_complete p (types.Struct number) ≡ true → 0 < type_bytes p.sizes (types.Struct number)

struct_bytes : (p : Program) → HaveBytes p → (ty : Ty) → is_struct ty ≡ true → is_complete p ty ≡ true → 0 < type_bytes p.sizes ty
struct_bytes p some (types.Struct number) is complete = some number complete
struct_bytes p some types.Void is complete = absurd (false≢true is)
struct_bytes p some (types.Int t) is complete = absurd (false≢true is)
struct_bytes p some (types.Pointer row) is complete = absurd (false≢true is)
struct_bytes p some (types.Array element length bytes) is complete = absurd (false≢true is)

module _ (z : Scene) (given : IsLowerable z.program z.copies) where
  -- ---- what is read as a number or a pointer
  pub structures_fetched : (place : Place) (ty : Ty) (line : ℕ) (start spot : Spot) (read : List Byte) (k : List Pending) → is_scalar ty ≡ false → Law z (Fetch spot read) (In (tree.Read place ty line) (At start) ∷ k)
  structures_fetched place ty line start spot read k is cp l w c known due h = absurd (false≢true (sym is ∙ known.sure.focus.0))

  -- ---- void
  pub void_reads : (place : Place) (line : ℕ) (spot : Spot) (k : List Pending) → Law z (Found spot) (In (tree.Read place types.Void line) Nothing ∷ k)
  void_reads place line spot k cp l w c known due h =
      let e = known.stands.stack.0 in
      absurd (place_not_void z.program given.sound cp.function place e.1 (read_rule z.program place types.Void line e.0).0)

  -- ---- structures that are read for nothing
  pub plain_skims : (place : Place) (ty : Ty) (line : ℕ) (start spot : Spot) (left : ℕ) (byte : Option Byte) (k : List Pending) → is_struct ty ≡ false → Law z (Skim spot left byte) (In (tree.Read place ty line) (At start) ∷ k)
  plain_skims place types.Void line start spot left byte k is cp l w c known due h =
      let e = known.stands.stack.0 in
      absurd (place_not_void z.program given.sound cp.function place e.1 (read_rule z.program place types.Void line e.0).0)
  plain_skims place (types.Int t) line start spot left byte k is cp l w c known due h = let q : true ≡ false = known.sure.focus.0 in absurd (false≢true (sym q))
  plain_skims place (types.Pointer row) line start spot left byte k is cp l w c known due h = let q : true ≡ false = known.sure.focus.0 in absurd (false≢true (sym q))
  plain_skims place (types.Array element length bytes) line start spot left byte k is cp l w c known due h =
      let q : true ≡ false = (read_rule z.program place (types.Array element length bytes) line known.stands.stack.0.0).1 in
      absurd (false≢true (sym q))
  plain_skims place (types.Struct number) line start spot left byte k is cp l w c known due h = absurd (false≢true (sym is))

  pub empty_skims : HaveBytes z.program → (place : Place) (number line : ℕ) (start spot : Spot) (left : ℕ) (byte : Option Byte) (k : List Pending) → type_bytes z.program.sizes (types.Struct number) ≡ 0 → Law z (Skim spot left byte) (In (tree.Read place (types.Struct number) line) (At start) ∷ k)
  empty_skims some place number line start spot left byte k none cp l w c known due h =
      let e = known.stands.stack.0 in
      let rule = (read_rule z.program place (types.Struct number) line e.0).0 in
      let complete = subst (λ t. is_complete z.program t ≡ true) rule (struct_complete z.program given.sound cp.function place e.1 (ap is_struct rule)) in
      let more = some number complete in
      absurd (omega arith)

  -- ---- a structure that an item of a list is
  pub empty_items : HaveBytes z.program → (local : ℕ) (all : List Item) (line offset : ℕ) (other : Place) (rest : List Item) (to from : Spot) (k : List Pending) → Law z (CopyRead to from 0) (Doing (tree.InitList local all line) (Items (tree.Struct offset other 0) rest) ∷ k)
  empty_items some local all line offset other rest to from k cp l w c known due h =
      let item = known.stands.stack.2.1.1 in
      let more = struct_bytes z.program some (place_type other).ty item.0 (struct_complete z.program given.sound cp.function other item.2 item.0) in
      let size = item.1 in
      absurd (omega arith)
