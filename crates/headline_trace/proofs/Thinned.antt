-- What thinning keeps of the blocks that are made.
use Rattle.std.proofs.Common.{◌≡◌, ℕ, Bool, true, List, [], ◌∷◌, All, Some, slice_get, refl, sym, ap, ◌∙◌, subst, arith}
use Rattle.std.specs.List.{AllZip}
use Rattle.c_typed.specs.Trees.{Program}
use Rattle.call_graph.specs.Numbers.{handler_at}
use Rattle.call_graph.specs.declared.types.FnCopy.{FnCopy}
use Rattle.core_code.specs.declared.code.CoreProgram.{CoreProgram}
use Rattle.isr_save.specs.Start.{start_code}
use Rattle.pic_map.specs.declared.Placed.{Placed}
use Rattle.program_code.specs.Passed.{IsPassed}
use Rattle.sym_code.specs.Programs.{same_name}
use Rattle.sym_code.specs.declared.code.BlockName.{BlockName}
use Rattle.sym_code.specs.declared.code.BlockName.TheVariants.{Start}
use Rattle.sym_code.specs.declared.code.Sym.{Sym}
use Rattle.sym_code.specs.declared.code.SymBlock.{SymBlock}
use Rattle.bank_page.specs.Selected.{names_of, bare_lists, is_right, front, all_pass, Reaches}
use Rattle.flow_facts.specs.Facts.{Facts}
use Rattle.flow_facts.specs.Laws.{Keeps}
use Rattle.flow_facts.specs.Thin.{thin, IsThin}
use Rattle.flow_facts.proofs.Kept.{thinning_keeps}
use Rattle.headline_trace.proofs.Fronts.{IsStartBlock, start_made}
use Rattle.headline_trace.proofs.Ready.{IsReady, ready}
use Rattle.headline_trace.proofs.Statics.{some_is}

-- the start block stays whole
start_list : (f : Facts) (given made : SymBlock) → IsThin f given made → given.name ≡ Start → made.list.items ≡ given.list.items
start_list f given made thinned is = thinned.code ∙ ap (λ (c : Bool). thin f c given) (thinned.start (ap (λ (n : BlockName). same_name n Start) is))

start_thin : (placed : Placed) (f : Facts) (code : List Sym) (whole made : List SymBlock) → AllZip (IsThin f) whole made → IsStartBlock placed code whole → IsStartBlock placed code made
start_thin placed f code [] made z is = let e = is.whole in absurd (cc)
start_thin placed f code (m ∷ whole) [] z is = absurd z
start_thin placed f code (m ∷ whole) (b ∷ made) z is =
    let same : m ≡ is.block = some_is m is.block (ap (λ (l : List SymBlock). slice_get l 0) is.whole) in
    let name : m.name ≡ Start = ap (λ (x : SymBlock). x.name) same ∙ is.name in
    record { block = b; rest = made; whole = refl; name = z.0.name ∙ name; exact = start_list f m b z.0 name ∙ ap (λ (x : SymBlock). x.list.items) same ∙ is.exact }

first_thin : (placed : Placed) (f : Facts) (whole made : List SymBlock) (m block : SymBlock) → AllZip (IsThin f) whole made → slice_get whole 0 ≡ Some m → m.name ≡ Start → Reaches placed m → slice_get made 0 ≡ Some block → Reaches placed block
first_thin placed f [] made m block z there name reaches is = absurd (cc)
first_thin placed f (x ∷ whole) [] m block z there name reaches is = absurd z
first_thin placed f (x ∷ whole) (b ∷ made) m block z there name reaches is =
    let same : x ≡ m = some_is x m there in
    let own : x.name ≡ Start = ap (λ (y : SymBlock). y.name) same ∙ name in
    let list : b.list.items ≡ x.list.items = start_list f x b z.0 own in
    subst (Reaches placed) (some_is b block is)
    (subst (λ (n : BlockName). all_pass (is_right placed n) n front b.list.items ≡ true) (sym z.0.name)
    (subst (λ (l : List Sym). all_pass (is_right placed x.name) x.name front l ≡ true) (sym list) (subst (Reaches placed) (sym same) reaches)))

of_first : (placed : Placed) (blocks : List SymBlock) (block : SymBlock) → slice_get blocks 0 ≡ Some block → All (Reaches placed) blocks → Reaches placed block
of_first placed [] block e all = absurd (cc)
of_first placed (x ∷ blocks) block e all = subst (Reaches placed) (some_is x block e) (all 0 x (omega arith))

module _ (p : Program) (copies : List FnCopy) (core : CoreProgram) (given made : List SymBlock) (placed : Placed) (at : List ℕ) (passed : IsPassed p copies core given made placed at) where
  pub kept : Keeps placed (handler_at copies) at passed.whole made passed.thinned.facts
  kept = thinning_keeps placed (handler_at copies) at passed.whole made passed.thinned passed.blocks.apart passed.blocks.reaches

  leaner : IsReady core copies given passed.lean
  leaner = ready p copies core given passed.lean passed.whole placed passed.blocks

  pub names_kept : names_of made ≡ names_of given
  names_kept = kept.names ∙ passed.blocks.names ∙ leaner.names

  pub lists_kept : bare_lists made ≡ bare_lists passed.lean
  lists_kept = kept.lists ∙ passed.blocks.bare

  whole_start : IsStartBlock placed (start_code (handler_at copies) core.statics.items) passed.whole
  whole_start = start_made placed core copies given passed.lean passed.whole leaner passed.blocks.exact

  pub start_kept : IsStartBlock placed (start_code (handler_at copies) core.statics.items) made
  start_kept = start_thin placed passed.thinned.facts (start_code (handler_at copies) core.statics.items) passed.whole made passed.thinned.each whole_start

  pub first_reaches : (block : SymBlock) → slice_get made 0 ≡ Some block → Reaches placed block
  first_reaches block is =
      let there : slice_get passed.whole 0 ≡ Some whole_start.block = ap (λ (l : List SymBlock). slice_get l 0) whole_start.whole in
      first_thin placed passed.thinned.facts passed.whole made whole_start.block block passed.thinned.each there whole_start.name (of_first placed passed.whole whole_start.block there passed.blocks.reaches) is
