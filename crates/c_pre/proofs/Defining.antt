-- What a definition's line does to the items.
use Rattle.std.proofs.Common.{ℕ, ◌≡◌, true, false, cond, Some, None, List, [], ◌∷◌, ◌++◌, ap, sym, ◌∙◌, refl}
use Rattle.c_token.specs.declared.token.Tok.{Tok}
use Rattle.c_pre.specs.Words.{same_words}
use Rattle.c_pre.specs.Directive.{Table, Nothing, Defines, Wrong, position_of}
use Rattle.c_pre.specs.Replace.{list_at}
use Rattle.c_pre.specs.Items.{Item, List_of, Bad, defined, after_definition, after_line, first_excluded, or_else, first_word, first_bad, free_tokens, Takes}
use Rattle.std.proofs.Common.{Ok, Err}
use Rattle.std.proofs.lemmas.List.{map-append}
use Rattle.c_pre.specs.declared.PreError.TheVariants as error
use Rattle.c_pre.specs.declared.directive.Definition.{Definition}
use Rattle.c_pre.specs.Directive.{table_of, entry_of}

-- the definition is good and makes this table
abbrev pub Grows : List ℕ → Table → List ℕ → List Tok → Table → Type 0
Grows text old name list new = defined text old name list (position_of old name) ≡ Some new

pub good_line : (text : List ℕ) (old new : Table) (name : List ℕ) (list : List Tok) (again : Table → List Item) (line : ℕ) → Grows text old name list new → after_line text again old line (Defines name list) ≡ List_of list ∷ again new
good_line text old new name list again line g = ap (after_definition again old line list) g

pub bad_line : (text : List ℕ) (old : Table) (name : List ℕ) (list : List Tok) (again : Table → List Item) (line : ℕ) → defined text old name list (position_of old name) ≡ None → after_line text again old line (Defines name list) ≡ Bad line ∷ again old
bad_line text old name list again line g = ap (after_definition again old line list) g

pub new_name : (text : List ℕ) (old : Table) (name : List ℕ) (list : List Tok) → position_of old name ≡ None → Grows text old name list (old ++ (name, list) ∷ [])
new_name text old name list e = ap (defined text old name list) e

pub same_name : (text : List ℕ) (old : Table) (name : List ℕ) (list : List Tok) (k : ℕ) → position_of old name ≡ Some k → same_words text (list_at old k) list ≡ true → Grows text old name list old
same_name text old name list k e s = ap (defined text old name list) e ∙ ap (λ t. cond t (Some old) None) s

pub other_name : (text : List ℕ) (old : Table) (name : List ℕ) (list : List Tok) (k : ℕ) → position_of old name ≡ Some k → same_words text (list_at old k) list ≡ false → defined text old name list (position_of old name) ≡ None
other_name text old name list k e s = ap (defined text old name list) e ∙ ap (λ t. cond t (Some old) None) s

pub word_of_list : (text : List ℕ) (list : List Tok) (is : List Item) (l : ℕ) → first_excluded text list ≡ Some l → first_word text (List_of list ∷ is) ≡ Some l
unfolding first_word
word_of_list text list is l e = ap (λ o. or_else o (first_word text is)) e

pub no_word_of_list : (text : List ℕ) (list : List Tok) (is : List Item) → first_excluded text list ≡ None → first_word text (List_of list ∷ is) ≡ first_word text is
unfolding first_word
no_word_of_list text list is e = ap (λ o. or_else o (first_word text is)) e

pub bad_of_list : (list : List Tok) (is : List Item) → first_bad (List_of list ∷ is) ≡ first_bad is
unfolding first_bad
bad_of_list list is = refl

pub free_of_list : (list : List Tok) (is : List Item) → free_tokens (List_of list ∷ is) ≡ free_tokens is
unfolding free_tokens
free_of_list list is = refl

pub table_more : (ds : List Definition) (d : Definition) → table_of (ds ++ d ∷ []) ≡ table_of ds ++ (d.name.now, d.list.now) ∷ []
table_more ds d = map-append entry_of ds (d ∷ [])

pub adds_new : (text : List ℕ) (ds new : List Definition) (d : Definition) → position_of (table_of ds) d.name.now ≡ None → new ≡ ds ++ d ∷ [] → Grows text (table_of ds) d.name.now d.list.now (table_of new)
adds_new text ds new d e n = new_name text (table_of ds) d.name.now d.list.now e ∙ ap Some (sym (ap table_of n ∙ table_more ds d))

pub takes_good : (text : List ℕ) (name : List ℕ) (list : List Tok) (old new : Table) → Grows text old name list new → first_excluded text list ≡ None → Takes text (Defines name list) old new (Ok true)
takes_good text name list old new g n again line =
    let e = good_line text old new name list again line g in
    (ap (first_word text) e ∙ no_word_of_list text list (again new) n, ap first_bad e ∙ bad_of_list list (again new), ap free_tokens e ∙ free_of_list list (again new))

pub takes_word : (text : List ℕ) (name : List ℕ) (list : List Tok) (old new : Table) (l : ℕ) → Grows text old name list new → first_excluded text list ≡ Some l → Takes text (Defines name list) old new (Err (error.Word l))
takes_word text name list old new l g n again line =
    ap (first_word text) (good_line text old new name list again line g) ∙ word_of_list text list (again new) l n

pub takes_bad : (text : List ℕ) (name : List ℕ) (list : List Tok) (old new : Table) → defined text old name list (position_of old name) ≡ None → new ≡ old → Takes text (Defines name list) old new (Ok false)
takes_bad text name list old new d n again line = bad_line text old name list again line d ∙ ap (λ t. Bad line ∷ again t) (sym n)

pub takes_nothing : (text : List ℕ) (old : Table) → Takes text Nothing old old (Ok true)
takes_nothing text old again line = (refl, refl, refl)

pub takes_wrong : (text : List ℕ) (old : Table) → Takes text Wrong old old (Ok false)
takes_wrong text old again line = refl
