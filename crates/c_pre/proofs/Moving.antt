-- What one step does to the result.
use Rattle.std.proofs.Common.{◌≡◌, Err, List, [], ◌∷◌, ◌++◌, ap, ◌∙◌}
use Rattle.c_pre.specs.declared.PreError.{PreError}
use Rattle.c_pre.specs.declared.PreError.TheVariants as error
use Rattle.c_pre.specs.declared.replace.Output.{Output}
use Rattle.c_pre.specs.Replace.{Event, Passes, Moves, total}

-- nothing was taken
pub moves_still : (old : Output) (before after : List Event) → before ≡ after → (es : List Event) → total old (before ++ es) ≡ total old (after ++ es)
moves_still old before after e es = ap (λ xs. total old (xs ++ es)) e

-- one event was taken
pub moves_one : (old new : Output) (x : Event) (before after : List Event) → before ≡ x ∷ after → ((es : List Event) → total old ((x ∷ []) ++ es) ≡ total new es) → (es : List Event) → total old (before ++ es) ≡ total new (after ++ es)
moves_one old new x before after e p es = ap (λ xs. total old (xs ++ es)) e ∙ p (after ++ es)

-- one event could not be taken
pub stops_one : (old new : Output) (x : Event) (before after rest : List Event) (e : PreError) → before ≡ x ∷ after → Passes old new (Err e) (x ∷ []) → Moves old new (Err e) before rest
stops_one old new x before after rest error.NoMemory b p = p
stops_one old new x before after rest (error.Word line) b p = λ es. ap (λ xs. total old (xs ++ es)) b ∙ p (after ++ es)
stops_one old new x before after rest (error.Directive line) b p = λ es. ap (λ xs. total old (xs ++ es)) b ∙ p (after ++ es)
stops_one old new x before after rest (error.Tokens line) b p = λ es. ap (λ xs. total old (xs ++ es)) b ∙ p (after ++ es)
