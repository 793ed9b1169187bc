use Rattle.std.proofs.Common.{List, subst, sym, true, ◌≡◌}
use Rattle.sym_code.specs.declared.code.Sym.{Sym}
use Rattle.bank_page.specs.Ready.{are_ready}
use Rattle.bank_page.specs.Selected.{KeepsFront}
use Rattle.bank_page.proofs.selecting.selected.Goals as goal

pub put_selected-requires-clause-ready : goal.put_selected-requires-clause-ready
put_selected-requires-clause-ready c =
    let P : List Sym → Type 0 = λ list. are_ready c.args.placed.now list ≡ true in
    subst P (sym c.deref.ensures.value) c.requires.ready

pub returns-clause-front : goal.returns-clause-front
returns-clause-front c =
    let P : List Sym → Type 0 = λ list. KeepsFront list c.put_selected.new.out.list.items in
    subst P c.deref.ensures.value c.in_ok-put_selected.ensures.front
