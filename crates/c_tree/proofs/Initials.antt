-- What is put for an initializer in braces.
use Rattle.std.proofs.Common.{◌≡◌, ℕ, List, [], ◌∷◌, ◌++◌, sym, ap, ◌∙◌, append_assoc}
use Rattle.c_token.specs.declared.token.TokKind.{TokKind}
use Rattle.c_token.specs.declared.token.TokKind.TheVariants as kinds
use Rattle.c_token.specs.declared.token.Punct.TheVariants.{LeftBrace, RightBrace}
use Rattle.c_nodes.specs.Words.{Symbols, kinds_of, punct}
use Rattle.c_tree.proofs.Append.{kinds_append}

-- the parts that stand behind the first bracket
pub list_put : (o o1 o2 o3 o4 : List TokKind) (first others comma : Symbols) (closing : ℕ) → o1 ≡ o ++ kinds.Punct LeftBrace ∷ [] → o2 ≡ o1 ++ kinds_of first → o3 ≡ o2 ++ kinds_of others → o4 ≡ o3 ++ (kinds_of comma ++ kinds.Punct RightBrace ∷ []) → o4 ≡ o ++ kinds.Punct LeftBrace ∷ kinds_of (first ++ (others ++ (comma ++ punct RightBrace closing ∷ [])))
list_put o o1 o2 o3 o4 first others comma closing h1 h2 h3 h4 =
    let last : List TokKind = kinds_of comma ++ kinds.Punct RightBrace ∷ [] in
    let inner : kinds_of (first ++ (others ++ (comma ++ punct RightBrace closing ∷ []))) ≡ kinds_of first ++ (kinds_of others ++ last) =
    kinds_append first (others ++ (comma ++ punct RightBrace closing ∷ [])) ∙ ap (λ (l : List TokKind). kinds_of first ++ l) (kinds_append others (comma ++ punct RightBrace closing ∷ []) ∙ ap (λ (l : List TokKind). kinds_of others ++ l) (kinds_append comma (punct RightBrace closing ∷ []))) in
    h4 ∙ ap (λ (l : List TokKind). l ++ last) (h3 ∙ ap (λ (l : List TokKind). l ++ kinds_of others) (h2 ∙ ap (λ (l : List TokKind). l ++ kinds_of first) h1))
    ∙ append_assoc ((o ++ kinds.Punct LeftBrace ∷ []) ++ kinds_of first) (kinds_of others) last
    ∙ append_assoc (o ++ kinds.Punct LeftBrace ∷ []) (kinds_of first) (kinds_of others ++ last)
    ∙ append_assoc o (kinds.Punct LeftBrace ∷ []) (kinds_of first ++ (kinds_of others ++ last))
    ∙ ap (λ (l : List TokKind). o ++ kinds.Punct LeftBrace ∷ l) (sym inner)
