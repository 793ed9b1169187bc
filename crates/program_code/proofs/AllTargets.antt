-- In all blocks that the passes make of a program the targets are there, and so are main's block and the label of its halt.
use Rattle.std.proofs.Common.{◌≡◌, ℕ, zero, suc, ◌<◌, ◌≤◌, Bool, true, false, nat_eq, nat_lt, if◌then◌else◌, List, [], ◌∷◌, length, Option, Some, None, IsSome, refl, sym, ◌∙◌, subst, ⊎_elim, arith}
use Rattle.std.specs.Prelude.{slice_get, slice_index_or}
use Rattle.std.specs.List.{AllZip, Contains}
use Rattle.std.proofs.lemmas.Bool.{ltb-true, lt-ltb}
use Rattle.std.proofs.lemmas.List.Quantifiers.{position-Some}
use Rattle.std.proofs.lemmas.Option.{same_Some, slice_get-get_or}
use Rattle.c_typed.specs.Chains.{graph_of, IsChain, IsLevel}
use Rattle.c_typed.specs.Roots.{is_main}
use Rattle.c_typed.specs.Trees.{Program}
use Rattle.c_typed.specs.declared.calls.FnId.{FnId}
use Rattle.c_typed.specs.declared.calls.FnId.TheVariants as callees
use Rattle.call_graph.proofs.Searches.{first_within}
use Rattle.call_graph.specs.Copies.{AreCopies, IsDepth, root_of}
use Rattle.call_graph.specs.Levels.{IsAcyclic}
use Rattle.call_graph.specs.Numbers.{handler_at}
use Rattle.call_graph.specs.declared.types.FnCopy.{FnCopy}
use Rattle.core_code.specs.Tree.{trees_of}
use Rattle.core_code.specs.View.{trees_in}
use Rattle.core_code.specs.declared.code.Body.{Body}
use Rattle.core_code.specs.declared.code.CoreProgram.{CoreProgram}
use Rattle.isr_save.specs.Start.{start_code}
use Rattle.program_code.specs.Leaner.{IsLeaner}
use Rattle.program_code.proofs.LeanerBlocks.{blocks_are_leaner}
use Rattle.lower_stmt.specs.Programs.{core_of}
use Rattle.pic_map.specs.declared.Placed.{Placed}
use Rattle.pic_world.specs.Roots.{same_root}
use Rattle.pic_world.specs.declared.Root.{Root}
use Rattle.pic_world.specs.declared.Root.TheVariants.{Main, Isr}
use Rattle.select_code.specs.Selected.{leave_code}
use Rattle.select_code.specs.declared.control.Ending.TheVariants as endings
use Rattle.select_wide.specs.Blocks.{body_at, is_number, ending_at, code_by}
use Rattle.select_wide.specs.Selection.{wide_code}
use Rattle.sym_code.specs.declared.code.BlockName.{BlockName}
use Rattle.sym_code.specs.declared.code.BlockName.TheVariants.{Copy}
use Rattle.sym_code.specs.declared.code.Label.{Label}
use Rattle.sym_code.specs.declared.code.Label.TheVariants as labels
use Rattle.sym_code.specs.declared.code.Sym.{Sym}
use Rattle.sym_code.specs.declared.code.SymBlock.{SymBlock}
use Rattle.sym_code.specs.declared.code.Target.{Target}
use Rattle.sym_code.specs.declared.code.Target.TheVariants as targets
use Rattle.bank_page.specs.Selected.{IsExact, front}
use Rattle.code_place.specs.Layouts.{layout_of}
use Rattle.code_place.specs.Places.{block_place, label_place, target_for}
use Rattle.code_place.specs.Sizes.{Fit}
use Rattle.flow_facts.specs.Thin.{IsThin, IsThinned}
use Rattle.program_code.specs.Passed.{AreBlocks}
use Rattle.program_code.specs.Translated.{HasCalls}
use Rattle.program_code.specs.Calling.{all_below}
use Rattle.program_code.specs.Targets.{HaveTargets, TargetsAreThere, EndsAreThere}
use Rattle.program_code.proofs.ControlTargets.{body_have}
use Rattle.program_code.proofs.LeanerTargets.{lean_keeps, lean_have}
use Rattle.program_code.proofs.JoinedTargets.{code_for, IsOfCopy, block_kind, start_there, copy_block}
use Rattle.program_code.proofs.LoweredTargets.{each_below}
use Rattle.program_code.proofs.NarrowedTargets.{narrower_below}
use Rattle.program_code.proofs.NamedTargets.{has_label, LabelsFound, all_found, named_below}
use Rattle.program_code.proofs.OperationTargets.{wide_calls}
use Rattle.program_code.proofs.PlacedTargets.{label_found, block_found, label_placed}
use Rattle.program_code.proofs.RoutineTargets.{routine_have}
use Rattle.program_code.proofs.SelectedTargets.{selected_have, thin_have, selected_keeps, thin_keeps}
use Rattle.program_code.proofs.StartTargets.{start_have, has_halt, has_restore}

-- ---- main has a copy
module _ (p : Program) (copies : List FnCopy) (known : AreCopies p copies) (acyclic : IsAcyclic (graph_of p)) where
  abbrev own : ℕ → FnCopy
  own n = record { function = callees.User n; root = Main; level = 0 }

  itself : (n : ℕ) → IsLevel (graph_of p) n n 0
  itself n = (([], refl, refl), short) where
    short : (hs : List ℕ) → IsChain (graph_of p) n hs n → length hs ≤ 0
    short [] chain = omega arith
    short (h ∷ hs) chain = absurd (acyclic n (h, hs, chain))

  own_there : (n : ℕ) → root_of p Main ≡ Some n → n < length p.functions → Contains copies (own n)
  own_there n e lt = (known.exact (own n)).1 (record { number = n; entered = e; one = lt; level = itself n })

main_copy : (p : Program) (copies : List FnCopy) (n : ℕ) → AreCopies p copies → IsAcyclic (graph_of p) → root_of p Main ≡ Some n → n < length p.functions → nat_lt 0 (length copies) ≡ true
main_copy p copies n known acyclic is lt =
    let there = own_there p copies known acyclic n is lt in
    let below = there.1 in
    lt-ltb 0 (length copies) (omega (arith, below))

some_copy : (p : Program) (copies : List FnCopy) → HasCalls p copies → nat_lt 0 (length copies) ≡ true
some_copy p copies calls = by (root_of p Main) (root_of p Isr) refl calls.exact where
  by : (main handler : Option ℕ) → root_of p Main ≡ main → IsDepth (graph_of p) main handler calls.depth → nat_lt 0 (length copies) ≡ true
  by None handler is deep = absurd deep
  by (Some n) handler is deep = let within = first_within is_main p.functions 0 n is in main_copy p copies n calls.known calls.acyclic is (omega (arith, within))

-- the handler's copy is one of them
handler_there : (copies : List FnCopy) (c : ℕ) → handler_at copies ≡ Some c → nat_lt c (length copies) ≡ true
handler_there copies c is =
    let found = position-Some (λ (copy : FnCopy). same_root copy.root Isr) copies c (record { function = callees.User 0; root = Main; level = 0 }) is in
    lt-ltb c (length copies) found.0

-- ---- the same place in two lists
record HasOther {A B : Type 0} (R : A → B → Type 0) (ys : List B) (k : ℕ) (x : A) : Type 0 where
  other : B
  there : slice_get ys k ≡ Some other
  is : R x other

zip_right : {A B : Type 0} (R : A → B → Type 0) (xs : List A) (ys : List B) → AllZip R xs ys → (k : ℕ) (x : A) → slice_get xs k ≡ Some x → HasOther R ys k x
zip_right R [] ys z k x is = absurd (cc)
zip_right R (a ∷ xs) [] z k x is = absurd z
zip_right {A} {B} R (a ∷ xs) (b ∷ ys) z zero x is = record { other = b; there = refl; is = subst (λ (c : A). R c b) (same_Some a x is) z.0 }
zip_right R (a ∷ xs) (b ∷ ys) z (suc k) x is = let r = zip_right R xs ys z.1 k x is in record { other = r.other; there = r.there; is = r.is }

record HasEarlier {A B : Type 0} (R : A → B → Type 0) (xs : List A) (k : ℕ) (y : B) : Type 0 where
  other : A
  there : slice_get xs k ≡ Some other
  is : R other y

zip_left : {A B : Type 0} (R : A → B → Type 0) (xs : List A) (ys : List B) → AllZip R xs ys → (k : ℕ) (y : B) → slice_get ys k ≡ Some y → HasEarlier R xs k y
zip_left R xs [] z k y is = absurd (cc)
zip_left R [] (b ∷ ys) z k y is = absurd z
zip_left {A} {B} R (a ∷ xs) (b ∷ ys) z zero y is = record { other = a; there = refl; is = subst (λ (c : B). R a c) (same_Some b y is) z.0 }
zip_left R (a ∷ xs) (b ∷ ys) z (suc k) y is = let r = zip_left R xs ys z.1 k y is in record { other = r.other; there = r.there; is = r.is }

module _ (p : Program) (copies : List FnCopy) (core : CoreProgram) (given lean whole made : List SymBlock) (placed : Placed) (at : List ℕ) (blocks : AreBlocks p copies core given lean whole placed) (thinned : IsThinned (handler_at copies) at whole made) (calls : HasCalls p copies) (fit : Fit made at) where
  leaner : AllZip IsLeaner given lean
  leaner = blocks_are_leaner (layout_of placed) (handler_at copies) (core_of p copies).variable_bytes blocks.lent given lean blocks.leaner

  -- ---- what becomes of a given block
  record Becomes (k : ℕ) (given_block : SymBlock) : Type 0 where
    block : SymBlock
    there : slice_get made k ≡ Some block
    name : block.name ≡ given_block.name
    labels_stay : (label : Label) → has_label label given_block.list.items ≡ true → has_label label block.list.items ≡ true

  becomes : (k : ℕ) (g : SymBlock) → slice_get given k ≡ Some g → Becomes k g
  becomes k g is =
      let x = zip_right IsLeaner given lean leaner k g is in
      let w = zip_right (IsExact placed) lean whole blocks.exact k x.other x.there in
      let m = zip_right (IsThin thinned.facts) whole made thinned.each k w.other w.there in
      record {
        block = m.other;
        there = m.there;
        name = m.is.name ∙ w.is.name ∙ x.is.name;
        labels_stay = λ label has.
            subst (λ (list : List Sym). has_label label list ≡ true) (sym m.is.code)
            (thin_keeps label thinned.facts m.is.whole w.other
            (subst (λ (list : List Sym). has_label label list ≡ true) (sym w.is.code) (selected_keeps label placed x.other.name front x.other.list.items (lean_keeps label g x.other x.is has))));
      }

  -- ---- blocks and labels that are there
  block_there : (c : ℕ) → nat_lt c (length copies) ≡ true → IsSome (block_place made at (Copy c))
  block_there c lt =
      let copy : FnCopy = slice_index_or copies c (record { function = callees.User 0; root = Main; level = 0 }) in
      let is : slice_get copies c ≡ Some copy = slice_get-get_or copies c (record { function = callees.User 0; root = Main; level = 0 }) (ltb-true c (length copies) lt) in
      let g = copy_block core copies given blocks.joined c copy is in
      let m = becomes g.place g.block g.there in
      subst (λ (name : BlockName). IsSome (block_place made at name)) (m.name ∙ g.named) (block_found made at fit g.place m.block m.there)

  once_there : (label : Label) → has_label label (start_code (handler_at copies) core.statics.items) ≡ true → IsSome (label_place made at label)
  once_there label has =
      let m = becomes 0 blocks.joined.start (start_there core copies given blocks.joined) in
      label_placed made at fit 0 m.block m.there label (m.labels_stay label (subst (λ (list : List Sym). has_label label list ≡ true) (sym blocks.joined.exact) has))

  halt_there : IsSome (label_place made at labels.Halt)
  halt_there = once_there labels.Halt (has_halt (handler_at copies) core.statics.items)

  main_there : IsSome (block_place made at (Copy 0))
  main_there = block_there 0 (some_copy p copies calls)

  module _ (k : ℕ) (m : SymBlock) (start : ℕ) (there : slice_get made k ≡ Some m) (here : slice_get at k ≡ Some start) where
    abbrev target : Target → Option ℕ
    target = target_for made at m start

    own_label : (label : Label) → has_label label m.list.items ≡ true → IsSome (target (targets.Label label))
    own_label (labels.Inner number) has = label_found (labels.Inner number) start m.list.items has
    own_label labels.Halt has = label_placed made at fit k m there labels.Halt has
    own_label labels.Restore has = label_placed made at fit k m there labels.Restore has

    -- ---- the code of the given block
    ends_have : (number : ℕ) → HaveTargets target (leave_code (ending_at (handler_at copies) number))
    ends_have number = by (nat_eq number 0) (handler_at copies) refl where
      restores : (handler : Option ℕ) → handler_at copies ≡ handler → (b : Bool) → is_number handler number ≡ b → HaveTargets target (leave_code (if b then endings.Restore else endings.Return))
      restores handler is false e = (tt, tt)
      restores None is true e = absurd (cc)
      restores (Some h) is true e = (once_there labels.Restore (has_restore (handler_at copies) h core.statics.items is), tt)

      by : (b : Bool) (handler : Option ℕ) → handler_at copies ≡ handler → HaveTargets target (leave_code (if b then endings.Halt else (if is_number handler number then endings.Restore else endings.Return)))
      by true handler is = (halt_there, tt)
      by false handler is = restores handler is (is_number handler number) refl

    calls_there : (number : ℕ) (body : Body) → body_at core.bodies.items number ≡ Some body → all_below (length copies) (trees_of (trees_in body.code.items)) ≡ true
    calls_there number body is =
        narrower_below (length copies) blocks.lowered core blocks.code (each_below p copies (some_copy p copies calls) blocks.lowered.bodies.items blocks.bodies) number body is

    user_have : (number : ℕ) (o : Option Body) → body_at core.bodies.items number ≡ o → LabelsFound target (code_by copies number o) → HaveTargets target (code_by copies number o)
    user_have number None is found = tt
    user_have number (Some body) is found =
        body_have target (length copies) block_there (λ n before tree. wide_code copies body.root before tree)
        (λ n before tree. named_below target (length copies) block_there (wide_code copies body.root before tree) (wide_calls copies body.root before tree))
        (ending_at (handler_at copies) number) (ends_have number) 0 (trees_in body.code.items) (calls_there number body is) found

    copy_have : (number : ℕ) (root : Root) (f : FnId) → LabelsFound target (code_for core.bodies.items copies number root f) → HaveTargets target (code_for core.bodies.items copies number root f)
    copy_have number root (callees.User f) found = user_have number (body_at core.bodies.items number) refl found
    copy_have number root (callees.Helper h) found = routine_have target h root number found

    given_have : (g : SymBlock) → slice_get given k ≡ Some g → LabelsFound target g.list.items → HaveTargets target g.list.items
    given_have g is found =
        ⊎_elim
        (λ first.
        subst (λ (list : List Sym). HaveTargets target list) (sym first)
        (start_have target (handler_at copies) core.statics.items (λ c e. block_there c (handler_there copies c e)) main_there (subst (λ (list : List Sym). LabelsFound target list) first found)))
        (λ (o : IsOfCopy core copies given blocks.joined g).
        subst (λ (list : List Sym). HaveTargets target list) (sym o.code)
        (copy_have o.number o.copy.root o.copy.function (subst (λ (list : List Sym). LabelsFound target list) o.code found)))
        (block_kind core copies given blocks.joined k g is)

    -- ---- and with its selects
    made_have : HaveTargets target m.list.items
    made_have =
        let w = zip_left (IsThin thinned.facts) whole made thinned.each k m there in
        let x = zip_left (IsExact placed) lean whole blocks.exact k w.other w.there in
        let g = zip_left IsLeaner given lean leaner k x.other x.there in
        let stays : (label : Label) → has_label label g.other.list.items ≡ true → has_label label m.list.items ≡ true =
        λ label has.
        subst (λ (list : List Sym). has_label label list ≡ true) (sym w.is.code)
        (thin_keeps label thinned.facts w.is.whole w.other (subst (λ (list : List Sym). has_label label list ≡ true) (sym x.is.code) (selected_keeps label placed x.other.name front x.other.list.items (lean_keeps label g.other x.other g.is has)))) in
        let before = given_have g.other g.there (all_found target g.other.list.items (λ label has. own_label label (stays label has))) in
        let selected : HaveTargets target w.other.list.items =
        subst (λ (list : List Sym). HaveTargets target list) (sym x.is.code) (selected_have target placed x.other.name front x.other.list.items (lean_have target g.other x.other g.is before)) in
        subst (λ (list : List Sym). HaveTargets target list) (sym w.is.code) (thin_have target thinned.facts w.is.whole w.other selected)

pub targets_are_there : TargetsAreThere
targets_are_there p copies core given lean whole made placed at blocks thinned calls fit k block start found here = made_have p copies core given lean whole made placed at blocks thinned calls fit k block start found here

pub ends_are_there : EndsAreThere
ends_are_there p copies core given lean whole made placed at blocks thinned calls fit =
    (main_there p copies core given lean whole made placed at blocks thinned calls fit, halt_there p copies core given lean whole made placed at blocks thinned calls fit)
