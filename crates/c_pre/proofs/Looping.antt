-- The loop over lists that wait.
use Rattle.std.proofs.Common.{ℕ, ◌+◌, ◌-◌, ◌<◌, ◌≡◌, Bool, false, None, Err, List, [], ◌∷◌, ◌++◌, length, replicate, arith, ap, ap₂, sym, ◌∙◌, subst, refl, append-nil, length-append, reverse}
use Rattle.std.specs.Prelude.{All, IfSome}
use Rattle.std.proofs.lemmas.List.Elements.{All-push}
use Rattle.std.proofs.lemmas.List.{length-replicate}
use Rattle.std.specs.declared.vec.Vec.{Vec}
use Rattle.std.specs.declared.alloc.Global.{Global}
use Rattle.c_pre.specs.declared.PreError.{PreError}
use Rattle.c_pre.specs.declared.PreError.TheVariants as error
use Rattle.c_pre.specs.declared.replace.Output.{Output}
use Rattle.c_pre.specs.declared.replace.Frame.{Frame}
use Rattle.c_pre.specs.declared.names.Named.{Named}
use Rattle.c_pre.specs.Replace.{Event, total, unmarked, IsInStep, IsMark, Moves, Passes}
use Rattle.c_pre.specs.LookedUp.{Lists, lists_of, replace_list, pending, waiting, cleared}
use Rattle.c_pre.proofs.Waiting.{all_free, lists_length}

-- what becomes of `made`, and of `left` after it was begun, is the same
abbrev pub Waits : Output → List Event → Output → List Event → Type 0
Waits start made now left = (es : List Event) → total start (made ++ es) ≡ total now (left ++ es)

-- what the loop keeps
abbrev pub Keeps : List (Vec Named Global) → ℕ → List Named → Output → Output → List Bool → List Frame → Type 0
Keeps ds line tokens start now busy stack =
    IsInStep (length ds) busy stack × All (IsMark (length ds)) stack
    × Waits start (replace_list (length ds) (lists_of ds) line (replicate (length ds) false) tokens) now (waiting (lists_of ds) line busy stack)
    × (cleared busy (reverse stack) ≡ replicate (length ds) false)

begins : (lists : Lists) (line : ℕ) (busy : List Bool) (f : Frame) → replace_list (length lists) lists line busy f.rest.now ≡ waiting lists line busy (f ∷ [])
unfolding pending
begins lists line busy f =
    sym (append-nil (replace_list (length lists) lists line busy f.rest.now))
    ∙ ap (λ d. replace_list d lists line busy f.rest.now ++ []) (let s : length lists ≡ length lists + 1 - length (f ∷ []) = omega arith in s)

pub ends : (lists : Lists) (line : ℕ) (busy : List Bool) → waiting lists line busy [] ≡ []
unfolding pending
ends lists line busy = refl

nothing_marked : (size : ℕ) (f : Frame) → f.definition ≡ None → IsMark size f
nothing_marked size f d = subst (λ x. IfSome x (λ k. k < size)) (sym d) tt

one_marked : (size : ℕ) (f : Frame) → f.definition ≡ None → All (IsMark size) (f ∷ [])
one_marked size f d = All-push (IsMark size) [] f (λ k e h. absurd (omega arith)) (nothing_marked size f d)

keeps_one : (ds : List (Vec Named Global)) (line : ℕ) (tokens : List Named) (start : Output) (f : Frame) → f.rest.now ≡ tokens → f.definition ≡ None → Keeps ds line tokens start start (replicate (length ds) false) (f ∷ [])
keeps_one ds line tokens start f r d = (
  (length-replicate (length ds) false, omega (arith, all_free (length ds))),
  one_marked (length ds) f d,
  λ es. ap (λ xs. total start (xs ++ es))
      (ap₂ (λ n ts. replace_list n (lists_of ds) line (replicate (length ds) false) ts) (sym (lists_length ds)) (sym r)
      ∙ begins (lists_of ds) line (replicate (length ds) false) f),
  ap (λ m. unmarked (replicate (length ds) false) m) d,
)

pub keeps_first : (ds : List (Vec Named Global)) (line : ℕ) (tokens : List Named) (start : Output) (busy : List Bool) (f : Frame) (stack : List Frame) → busy ≡ replicate (length ds) false → f.rest.now ≡ tokens → f.definition ≡ None → stack ≡ f ∷ [] → Keeps ds line tokens start start busy stack
keeps_first ds line tokens start busy f stack b r d s =
    subst (λ xs. Keeps ds line tokens start start busy xs) (sym s)
    (subst (λ bs. Keeps ds line tokens start start bs (f ∷ [])) (sym b) (keeps_one ds line tokens start f r d))

pub nothing_waits : (stack : List Frame) → length stack ≡ 0 → stack ≡ []
nothing_waits [] h = refl
nothing_waits (f ∷ fs) h = absurd (omega arith)

popped_step : (size : ℕ) (busy : List Bool) (stack : List Frame) (f : Frame) → IsInStep size busy (stack ++ f ∷ []) → IsInStep size busy (f ∷ stack)
popped_step size busy stack f s = (s.0, omega (arith, s.1, length-append stack (f ∷ [])))

pub keeps_step : (ds : List (Vec Named Global)) (line : ℕ) (tokens : List Named) (start now : Output) (busy : List Bool) (stack rest : List Frame) (f : Frame) → Keeps ds line tokens start now busy stack → stack ≡ rest ++ f ∷ [] → IsInStep (length ds) busy (f ∷ rest)
keeps_step ds line tokens start now busy stack rest f k e = popped_step (length ds) busy rest f (subst (IsInStep (length ds) busy) e k.0)

pub keeps_on : (ds : List (Vec Named Global)) (line : ℕ) (tokens : List Named) (start now next : Output) (busy marks : List Bool) (stack rest others : List Frame) (f : Frame) → Keeps ds line tokens start now busy stack → stack ≡ rest ++ f ∷ [] → Waits now (waiting (lists_of ds) line busy (rest ++ f ∷ [])) next (waiting (lists_of ds) line marks others) → IsInStep (length ds) marks others → All (IsMark (length ds)) others → cleared marks (reverse others) ≡ cleared busy (reverse (rest ++ f ∷ [])) → Keeps ds line tokens start next marks others
keeps_on ds line tokens start now next busy marks stack rest others f k e m s a c =
    (s, a, λ es. k.2 es ∙ ap (λ xs. total now (waiting (lists_of ds) line busy xs ++ es)) e ∙ m es, c ∙ ap (λ xs. cleared busy (reverse xs)) (sym e) ∙ k.3)

pub keeps_end : (ds : List (Vec Named Global)) (line : ℕ) (tokens : List Named) (start now : Output) (busy : List Bool) (stack : List Frame) → Keeps ds line tokens start now busy stack → stack ≡ [] → (es : List Event) → total start (replace_list (length ds) (lists_of ds) line (replicate (length ds) false) tokens ++ es) ≡ total now es
keeps_end ds line tokens start now busy stack k e es =
    k.2 es ∙ ap (λ xs. total now (waiting (lists_of ds) line busy xs ++ es)) e ∙ ap (λ xs. total now (xs ++ es)) (ends (lists_of ds) line busy)

pub keeps_stop : (ds : List (Vec Named Global)) (line : ℕ) (tokens : List Named) (start now next : Output) (busy : List Bool) (stack rest : List Frame) (f : Frame) (after : List Event) (e : PreError) → Keeps ds line tokens start now busy stack → stack ≡ rest ++ f ∷ [] → Moves now next (Err e) (waiting (lists_of ds) line busy (rest ++ f ∷ [])) after → Passes start next (Err e) (replace_list (length ds) (lists_of ds) line (replicate (length ds) false) tokens)
keeps_stop ds line tokens start now next busy stack rest f after error.NoMemory k e m = m
keeps_stop ds line tokens start now next busy stack rest f after (error.Word l) k e m = λ es. k.2 es ∙ ap (λ xs. total now (waiting (lists_of ds) line busy xs ++ es)) e ∙ m es
keeps_stop ds line tokens start now next busy stack rest f after (error.Directive l) k e m = λ es. k.2 es ∙ ap (λ xs. total now (waiting (lists_of ds) line busy xs ++ es)) e ∙ m es
keeps_stop ds line tokens start now next busy stack rest f after (error.Tokens l) k e m = λ es. k.2 es ∙ ap (λ xs. total now (waiting (lists_of ds) line busy xs ++ es)) e ∙ m es

-- nothing waits, so no mark is left
pub keeps_marks : (ds : List (Vec Named Global)) (line : ℕ) (tokens : List Named) (start now : Output) (busy : List Bool) (stack : List Frame) → Keeps ds line tokens start now busy stack → stack ≡ [] → busy ≡ replicate (length ds) false
keeps_marks ds line tokens start now busy stack k e = ap (λ xs. cleared busy (reverse xs)) (sym e) ∙ k.3
