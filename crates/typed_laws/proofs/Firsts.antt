-- A list breaks a rule where its first element that breaks one breaks that.
use Rattle.std.proofs.Common.{◌≡◌, List, [], ◌∷◌, ◌++◌, Result, Ok, Err, refl, sym, ap, ◌∙◌}
use Rattle.type_rules.specs.Faults.{Fault}
use Rattle.typed_laws.specs.Firsts.{FirstBroken, BreaksFirst}

abbrev pub and_then : {S : Type 0} → Result S Fault → (S → Result S Fault) → Result S Fault
and_then (Ok s) next = next s
and_then (Err fault) next = Err fault

module _ {A S : Type 0} (run : List A → S → Result S Fault) (none : (s : S) → run [] s ≡ Ok s) (one_more : (x : A) (xs : List A) (s : S) → run (x ∷ xs) s ≡ and_then (run (x ∷ []) s) (run xs)) where
  same_state : (s t : S) → ◌≡◌ {A = Result S Fault} (Ok s) (Ok t) → s ≡ t
  same_state s t e = cc e

  -- the list breaks a rule
  broken_by : (x : A) (xs : List A) (s : S) (f : Fault) (r : Result S Fault) → run (x ∷ []) s ≡ r → ((m : S) → run xs m ≡ Err f → FirstBroken run xs m f) → and_then r (run xs) ≡ Err f → FirstBroken run (x ∷ xs) s f
  broken_by x xs s f (Err g) is rest h = record { before = []; broken = x; after = xs; behind = s; are = refl; fine = none s; breaks = is ∙ h }
  broken_by x xs s f (Ok m) is rest h = let first = rest m h in record {
    before = x ∷ first.before;
    broken = first.broken;
    after = first.after;
    behind = first.behind;
    are = ap (λ l. x ∷ l) first.are;
    fine = one_more x first.before s ∙ (ap (λ r. and_then r (run first.before)) is ∙ first.fine);
    breaks = first.breaks;
  }

  broken_in : (xs : List A) (s : S) (f : Fault) → run xs s ≡ Err f → FirstBroken run xs s f
  broken_in [] s f h = absurd (cc (sym (none s) ∙ h))
  broken_in (x ∷ xs) s f h = broken_by x xs s f (run (x ∷ []) s) refl (λ m. broken_in xs m f) (sym (one_more x xs s) ∙ h)

  -- an element of it breaks one
  behind_by : (m : S) (f : Fault) (first second : S → Result S Fault) (r : Result S Fault) → ((t : S) → first t ≡ Ok m → second t ≡ Err f) → and_then r first ≡ Ok m → and_then r second ≡ Err f
  behind_by m f first second (Ok t) more fine = more t fine
  behind_by m f first second (Err g) more fine = absurd (cc fine)

  breaks_behind : (before : List A) (x : A) (after : List A) (s m : S) (f : Fault) → run before s ≡ Ok m → run (x ∷ []) m ≡ Err f → run (before ++ x ∷ after) s ≡ Err f
  breaks_behind [] x after s m f fine h = one_more x after s ∙ ap (λ r. and_then r (run after)) (ap (run (x ∷ [])) (same_state s m (sym (none s) ∙ fine)) ∙ h)
  breaks_behind (y ∷ before) x after s m f fine h = one_more y (before ++ x ∷ after) s
      ∙ behind_by m f (run before) (run (before ++ x ∷ after)) (run (y ∷ []) s) (λ t g. breaks_behind before x after t m f g h) (sym (one_more y before s) ∙ fine)

  pub breaks_first : BreaksFirst run
  breaks_first xs s f = (broken_in xs s f, λ first. ap (λ l. run l s) first.are ∙ breaks_behind first.before first.broken first.after s first.behind f first.fine first.breaks)
