use Rattle.std.proofs.Common.{List, [], ◌∷◌, ◌++◌, map, sym, ap, ◌∙◌}
use Rattle.c_token.specs.declared.token.TokKind.TheVariants as kinds
use Rattle.c_token.specs.declared.token.Punct.TheVariants.{LeftBrace, RightBrace}
use Rattle.c_nodes.specs.Words.{Symbols, flat, kinds_of, punct, spelled_comma}
use Rattle.c_tree.specs.Statements.{spell_init, spell_next_init}
use Rattle.c_nodes.specs.declared.statement.Init.{Init}
use Rattle.c_nodes.specs.declared.statement.NextInit.{NextInit}
use Rattle.c_tree.proofs.Append.{one_more}
use Rattle.c_tree.proofs.Initials.{list_put}
use Rattle.c_tree.proofs.Statements.{see_init_list}
use Rattle.c_tree.proofs.printing.+initial.Goals as goal

pub put_next_inits-loop-next-preserved : goal.put_next_inits-loop-next-preserved
put_next_inits-loop-next-preserved t c = one_more spell_next_init _ _ c.next-item.result _ _ _ c.loop-next-test.true c.next-item.is c.in_ok-put_next_init.ensures c.loop-next.invariant

pub put_init-returns-in_ok-put_list_end-in-List : goal.put_init-returns-in_ok-put_list_end-in-List
put_init-returns-in_ok-put_list_end-in-List t c =
    let o = c.args.out.now.items in
    let end = spelled_comma c.in-List.last_comma ++ punct RightBrace c.in-List.closing ∷ [] in
    let put = list_put o _ _ _ _ (spell_init c.deref.result.now) (flat (map spell_next_init c.deref-in-List.result.now)) (spelled_comma c.in-List.last_comma) c.in-List.closing c.in_ok-punct-in-List.ensures c.in_ok-put_init-in-List.ensures c.in_ok-put_next_inits-in-List.ensures c.in_ok-put_list_end-in-List.ensures in
    put
    ∙ ap (λ (i : Init). o ++ kinds.Punct LeftBrace ∷ kinds_of (spell_init i ++ (flat (map spell_next_init c.deref-in-List.result.now) ++ end))) c.deref.ensures
    ∙ ap (λ (l : List NextInit). o ++ kinds.Punct LeftBrace ∷ kinds_of (spell_init c.in-List.first.value ++ (flat (map spell_next_init l) ++ end))) c.deref-in-List.ensures.value
    ∙ ap (λ (s : Symbols). o ++ kinds_of s) (sym (ap spell_init c.in-List.is ∙ see_init_list c.in-List.opening c.in-List.first c.in-List.others c.in-List.last_comma c.in-List.closing))
