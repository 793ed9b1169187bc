-- The top of the stack.
use Rattle.std.proofs.Common.{◌≡◌, Bool, false, List, [], ◌∷◌, ◌++◌, map, drop, reverse, refl, ap, ◌∙◌}
use Rattle.std.proofs.lemmas.List.{reverse-append, append-nil}
use Rattle.src_machine.specs.Telling.{is_interrupted}
use Rattle.src_values.specs.Control.{Focus}
use Rattle.src_values.specs.Control as control
use Rattle.src_values.specs.Seen.{frames_behind, unless_of_call, got_in, has_values, values_on, stage_in, statement_in}
use Rattle.c_typed.specs.Trees as tree
use Rattle.c_typed.specs.Views.{expression_of, place_of, statement_of, statements_of}
use Rattle.src_values.specs.declared.control.Pending.{Pending}
use Rattle.src_values.specs.declared.control.Pending.TheVariants as frames

pub taken : (old new : List Pending) (top : Pending) → old ≡ new ++ top ∷ [] → reverse old ≡ top ∷ reverse new
taken old new top h = ap reverse h ∙ reverse-append new (top ∷ [])

pub taken_none : (old new : List Pending) → old ≡ new ++ [] → new ≡ [] → reverse old ≡ []
taken_none old new h none = ap reverse (h ∙ append-nil new ∙ none)

-- where the handler isn't under way, what it interrupts is nowhere
pub uninterrupted : (x y : Focus) (b : Bool) (k : List Pending) → is_interrupted k ≡ false → frames_behind x b k ≡ frames_behind y b k
uninterrupted x y b [] h = refl
uninterrupted x y b (frames.In e got ∷ k) h = ap (λ r. control.In (expression_of e.now) (got_in (expression_of e.now) got (values_on k)) ∷ r) (uninterrupted x y (has_values got) k h)
uninterrupted x y b (frames.Value v ∷ k) h = ap (unless_of_call b) (uninterrupted x y b k h)
uninterrupted x y b (frames.To place ∷ k) h = ap (λ r. control.To (place_of place.now) ∷ r) (uninterrupted x y false k h)
uninterrupted x y b (frames.Doing code stage ∷ k) h = ap (λ r. control.Doing (statement_in code) (stage_in (statement_in code) stage) ∷ r) (uninterrupted x y false k h)
uninterrupted x y b (frames.Before ss at ∷ k) h = ap (λ r. control.Before (statements_of (map statement_of (drop at ss.now.items))) ∷ r) (uninterrupted x y false k h)
uninterrupted x y b (frames.Ended ∷ k) h = ap (λ r. control.Before tree.NoStatement ∷ r) (uninterrupted x y false k h)
uninterrupted x y b (frames.Returns copy ∷ k) h = ap (λ r. control.Returns copy ∷ r) (uninterrupted x y false k h)
uninterrupted x y b (frames.Resumes copy ∷ k) h = absurd (cc)
