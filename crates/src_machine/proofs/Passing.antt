-- The values of arguments that stand on top, and the parameters that get them.
use Rattle.std.proofs.Common.{◌≡◌, Bool, true, false, ℕ, zero, suc, ◌+◌, ◌<◌, ◌≤◌, length, arith, List, [], ◌∷◌, ◌++◌, ◌-◌, not, if◌then◌else◌, reverse, drop, take, Some, slice_get, refl, sym, subst, ap, ◌∙◌}
use Rattle.std.proofs.lemmas.List.{reverse-append, append-nil, append_assoc, take-append-drop}
use Rattle.std.proofs.lemmas.Option.{slice_get-get_or}
use Rattle.std.proofs.Math.Seq.{take-suc}
use Rattle.std.specs.Prelude.{get_or}
use Rattle.c_typed.specs.Trees.{Program, Expression}
use Rattle.c_typed.specs.Views.{program_of}
use Rattle.pic_map.specs.MapContent.{MapContent}
use Rattle.pic_world.specs.World.{World}
use Rattle.src_machine.specs.Seen.{waiting, interrupted_in, stack_of, memory_of}
use Rattle.src_machine.specs.declared.machine.Machine.{Machine}
use Rattle.src_memory.specs.Cells.{memory_in}
use Rattle.src_memory.specs.Shape.{IsShaped}
use Rattle.src_memory.specs.declared.memory.Memory.{Memory as CodeMemory}
use Rattle.src_rules.specs.Accesses.{goes}
use Rattle.src_rules.specs.State.{Outcome, Undefined}
use Rattle.src_machine.proofs.Parts.{no_value_below}
use Rattle.src_machine.specs.Passing.{values_among, is_value, value_in, are_values, given, missing_in, called, FitFrom, FitAt}
use Rattle.src_rules.specs.Step.{with_values, has_missing, copy_of, body_of}
use Rattle.src_values.specs.Control.{Focus, Past, In, Called, Returns}
use Rattle.src_values.specs.Memory.{Memory, fresh}
use Rattle.src_values.specs.Seen.{values_on, datum_of, focus_in, frames_in, frames_behind}
use Rattle.src_values.specs.declared.control.Pending.{Pending}
use Rattle.src_values.specs.declared.control.Pending.TheVariants as frames
use Rattle.src_values.specs.declared.objects.Byte.{Byte}
use Rattle.src_values.specs.declared.objects.CopyOf.{CopyOf}
use Rattle.src_values.specs.declared.objects.Datum.TheVariants as datums
use Rattle.src_values.specs.declared.objects.Undef.TheVariants.{Unset}

reverse_onto : (y : Pending) (ys k : List Pending) → reverse (y ∷ ys) ++ k ≡ reverse ys ++ (y ∷ k)
reverse_onto y ys k = ap (λ z. z ++ k) (reverse-append (y ∷ []) ys) ∙ append_assoc (reverse ys) (y ∷ []) k

values_over : (ys k : List Pending) → are_values ys ≡ true → values_on (reverse ys ++ k) ≡ values_on k ++ values_among ys
values_over [] k h = sym (append-nil (values_on k))
values_over (frames.In e got ∷ ys) k h = absurd (cc)
values_over (frames.Value v ∷ ys) k h = ap values_on (reverse_onto (frames.Value v) ys k) ∙ values_over ys (frames.Value v ∷ k) h ∙ append_assoc (values_on k) (datum_of v ∷ []) (values_among ys)
values_over (frames.To place ∷ ys) k h = absurd (cc)
values_over (frames.Doing code stage ∷ ys) k h = absurd (cc)
values_over (frames.Before ss at ∷ ys) k h = absurd (cc)
values_over (frames.Ended ∷ ys) k h = absurd (cc)
values_over (frames.Returns copy ∷ ys) k h = absurd (cc)
values_over (frames.Resumes copy ∷ ys) k h = absurd (cc)

frames_over : (x : Focus) (ys k : List Pending) → are_values ys ≡ true → frames_behind x true (reverse ys ++ k) ≡ frames_behind x true k
frames_over x [] k h = refl
frames_over x (frames.In e got ∷ ys) k h = absurd (cc)
frames_over x (frames.Value v ∷ ys) k h = ap (frames_behind x true) (reverse_onto (frames.Value v) ys k) ∙ frames_over x ys (frames.Value v ∷ k) h
frames_over x (frames.To place ∷ ys) k h = absurd (cc)
frames_over x (frames.Doing code stage ∷ ys) k h = absurd (cc)
frames_over x (frames.Before ss at ∷ ys) k h = absurd (cc)
frames_over x (frames.Ended ∷ ys) k h = absurd (cc)
frames_over x (frames.Returns copy ∷ ys) k h = absurd (cc)
frames_over x (frames.Resumes copy ∷ ys) k h = absurd (cc)

split_at : (n : ℕ) (xs : List Pending) → reverse xs ≡ reverse (drop n xs) ++ reverse (take n xs)
split_at n xs = ap reverse (sym (take-append-drop n xs)) ∙ reverse-append (take n xs) (drop n xs)

pub values_split : (n : ℕ) (xs : List Pending) → are_values (drop n xs) ≡ true → values_on (reverse (take n xs)) ≡ [] → values_on (reverse xs) ≡ values_among (drop n xs)
values_split n xs h none = ap values_on (split_at n xs) ∙ values_over (drop n xs) (reverse (take n xs)) h ∙ ap (λ vs. vs ++ values_among (drop n xs)) none

pub frames_split : (x : Focus) (n : ℕ) (xs : List Pending) → are_values (drop n xs) ≡ true → values_on (reverse (take n xs)) ≡ [] → frames_behind x true (reverse xs) ≡ frames_in x (reverse (take n xs))
frames_split x n xs h none = ap (frames_behind x true) (split_at n xs) ∙ frames_over x (drop n xs) (reverse (take n xs)) h ∙ no_value_below x (reverse (take n xs)) none

not_value_on : (x : Pending) (k : List Pending) → is_value x ≡ false → values_on (x ∷ k) ≡ []
not_value_on (frames.In e got) k h = refl
not_value_on (frames.Value v) k h = absurd (cc)
not_value_on (frames.To place) k h = refl
not_value_on (frames.Doing code stage) k h = refl
not_value_on (frames.Before ss at) k h = refl
not_value_on frames.Ended k h = refl
not_value_on (frames.Returns copy) k h = refl
not_value_on (frames.Resumes copy) k h = refl

-- where no value stands at a place, none stands on top of what is before it and at it
pub none_below : (xs : List Pending) (p : ℕ) → p < length xs → value_in (slice_get xs p) ≡ false → values_on (reverse (take (suc p) xs)) ≡ []
none_below [] p h g = absurd (omega arith)
none_below (x ∷ xs) p h g =
    let i : value_in (Some (get_or (x ∷ xs) p x)) ≡ false = sym (ap value_in (slice_get-get_or (x ∷ xs) p x h)) ∙ g in
    ap (λ ys. values_on (reverse ys)) (take-suc (x ∷ xs) p x h)
    ∙ ap values_on (reverse-append (take p (x ∷ xs)) (get_or (x ∷ xs) p x ∷ []))
    ∙ not_value_on (get_or (x ∷ xs) p x) (reverse (take p (x ∷ xs))) i

pub values_before : (xs : List Pending) (p : ℕ) → value_in (slice_get xs p) ≡ true → are_values (drop (suc p) xs) ≡ true → are_values (drop p xs) ≡ true
values_before [] p h g = absurd (cc)
values_before (frames.In e got ∷ xs) zero h g = absurd (cc)
values_before (frames.Value v ∷ xs) zero h g = g
values_before (frames.To place ∷ xs) zero h g = absurd (cc)
values_before (frames.Doing code stage ∷ xs) zero h g = absurd (cc)
values_before (frames.Before ss at ∷ xs) zero h g = absurd (cc)
values_before (frames.Ended ∷ xs) zero h g = absurd (cc)
values_before (frames.Returns copy ∷ xs) zero h g = absurd (cc)
values_before (frames.Resumes copy ∷ xs) zero h g = absurd (cc)
values_before (x ∷ xs) (suc p) h g = values_before xs p h g

pub values_at_end : (xs : List Pending) → are_values (drop (length xs) xs) ≡ true
values_at_end [] = refl
values_at_end (x ∷ xs) = values_at_end xs

-- ---- a value is missing
pub missing_here : (xs : List Pending) (n : ℕ) → missing_in (slice_get xs n) ≡ true → has_missing (values_among (drop n xs)) ≡ true
missing_here [] n h = absurd (cc)
missing_here (frames.In e got ∷ xs) zero h = absurd (cc)
missing_here (frames.Value (datums.Number q) ∷ xs) zero h = absurd (cc)
missing_here (frames.Value (datums.Pointer q) ∷ xs) zero h = absurd (cc)
missing_here (frames.Value datums.Missing ∷ xs) zero h = refl
missing_here (frames.To place ∷ xs) zero h = absurd (cc)
missing_here (frames.Doing code stage ∷ xs) zero h = absurd (cc)
missing_here (frames.Before ss at ∷ xs) zero h = absurd (cc)
missing_here (frames.Ended ∷ xs) zero h = absurd (cc)
missing_here (frames.Returns copy ∷ xs) zero h = absurd (cc)
missing_here (frames.Resumes copy ∷ xs) zero h = absurd (cc)
missing_here (x ∷ xs) (suc n) h = missing_here xs n h

pub missing_later : (xs : List Pending) (n : ℕ) → missing_in (slice_get xs n) ≡ false → has_missing (values_among (drop n xs)) ≡ has_missing (values_among (drop (suc n) xs))
missing_later [] zero h = refl
missing_later [] (suc n) h = refl
missing_later (frames.In e got ∷ xs) zero h = refl
missing_later (frames.Value (datums.Number q) ∷ xs) zero h = refl
missing_later (frames.Value (datums.Pointer q) ∷ xs) zero h = refl
missing_later (frames.Value datums.Missing ∷ xs) zero h = absurd (cc)
missing_later (frames.To place ∷ xs) zero h = refl
missing_later (frames.Doing code stage ∷ xs) zero h = refl
missing_later (frames.Before ss at ∷ xs) zero h = refl
missing_later (frames.Ended ∷ xs) zero h = refl
missing_later (frames.Returns copy ∷ xs) zero h = refl
missing_later (frames.Resumes copy ∷ xs) zero h = refl
missing_later (x ∷ xs) (suc n) h = missing_later xs n h

pub missing_nowhere : (xs : List Pending) (n : ℕ) → length xs ≤ n → has_missing (values_among (drop n xs)) ≡ false
missing_nowhere [] zero h = refl
missing_nowhere [] (suc n) h = refl
missing_nowhere (x ∷ xs) zero h = absurd (omega arith)
missing_nowhere (x ∷ xs) (suc n) h = missing_nowhere xs n (omega arith)

-- ---- parameters get values
pub given_first : (m : Memory) (c : CopyOf) (n : ℕ) (xs : List Pending) (k : ℕ) → k < length xs → are_values (drop k xs) ≡ true → with_values m c n (values_among (drop k xs)) ≡ with_values (given m c n (slice_get xs k)) c (n + 1) (values_among (drop (suc k) xs))
given_first m c n [] k h g = absurd (omega arith)
given_first m c n (frames.In e got ∷ xs) zero h g = absurd (cc)
given_first m c n (frames.Value v ∷ xs) zero h g = refl
given_first m c n (frames.To place ∷ xs) zero h g = absurd (cc)
given_first m c n (frames.Doing code stage ∷ xs) zero h g = absurd (cc)
given_first m c n (frames.Before ss at ∷ xs) zero h g = absurd (cc)
given_first m c n (frames.Ended ∷ xs) zero h g = absurd (cc)
given_first m c n (frames.Returns copy ∷ xs) zero h g = absurd (cc)
given_first m c n (frames.Resumes copy ∷ xs) zero h g = absurd (cc)
given_first m c n (x ∷ xs) (suc k) h g = given_first m c n xs k (omega arith) g

pub fit_first : (p : Program) (c : CopyOf) (n : ℕ) (xs : List Pending) (k : ℕ) → k < length xs → are_values (drop k xs) ≡ true → FitFrom p c n (values_among (drop k xs)) → FitAt p c n (slice_get xs k)
fit_first p c n [] k h g fit = absurd (omega arith)
fit_first p c n (frames.In e got ∷ xs) zero h g fit = absurd (cc)
fit_first p c n (frames.Value v ∷ xs) zero h g fit = fit.0
fit_first p c n (frames.To place ∷ xs) zero h g fit = absurd (cc)
fit_first p c n (frames.Doing code stage ∷ xs) zero h g fit = absurd (cc)
fit_first p c n (frames.Before ss at ∷ xs) zero h g fit = absurd (cc)
fit_first p c n (frames.Ended ∷ xs) zero h g fit = absurd (cc)
fit_first p c n (frames.Returns copy ∷ xs) zero h g fit = absurd (cc)
fit_first p c n (frames.Resumes copy ∷ xs) zero h g fit = absurd (cc)
fit_first p c n (x ∷ xs) (suc k) h g fit = fit_first p c n xs k (omega arith) g fit

pub fit_later : (p : Program) (c : CopyOf) (n : ℕ) (xs : List Pending) (k : ℕ) → k < length xs → are_values (drop k xs) ≡ true → FitFrom p c n (values_among (drop k xs)) → FitFrom p c (n + 1) (values_among (drop (suc k) xs))
fit_later p c n [] k h g fit = absurd (omega arith)
fit_later p c n (frames.In e got ∷ xs) zero h g fit = absurd (cc)
fit_later p c n (frames.Value v ∷ xs) zero h g fit = fit.1
fit_later p c n (frames.To place ∷ xs) zero h g fit = absurd (cc)
fit_later p c n (frames.Doing code stage ∷ xs) zero h g fit = absurd (cc)
fit_later p c n (frames.Before ss at ∷ xs) zero h g fit = absurd (cc)
fit_later p c n (frames.Ended ∷ xs) zero h g fit = absurd (cc)
fit_later p c n (frames.Returns copy ∷ xs) zero h g fit = absurd (cc)
fit_later p c n (frames.Resumes copy ∷ xs) zero h g fit = absurd (cc)
fit_later p c n (x ∷ xs) (suc k) h g fit = fit_later p c n xs k (omega arith) g fit

pub values_later : (xs : List Pending) (k : ℕ) → are_values (drop k xs) ≡ true → are_values (drop (suc k) xs) ≡ true
values_later [] zero h = refl
values_later [] (suc k) h = refl
values_later (frames.In e got ∷ xs) zero h = absurd (cc)
values_later (frames.Value v ∷ xs) zero h = h
values_later (frames.To place ∷ xs) zero h = absurd (cc)
values_later (frames.Doing code stage ∷ xs) zero h = absurd (cc)
values_later (frames.Before ss at ∷ xs) zero h = absurd (cc)
values_later (frames.Ended ∷ xs) zero h = absurd (cc)
values_later (frames.Returns copy ∷ xs) zero h = absurd (cc)
values_later (frames.Resumes copy ∷ xs) zero h = absurd (cc)
values_later (x ∷ xs) (suc k) h = values_later xs k h

-- ---- as the loops have them
one_more : (n : ℕ) → suc n ≡ n + 1
one_more n = omega arith

back_one : (n : ℕ) → 0 < n → n ≡ suc (n - 1)
back_one n h = omega arith

not_false : (b : Bool) → not b ≡ false → b ≡ true
not_false true h = refl
not_false false h = absurd (cc)

not_true : (b : Bool) → not b ≡ true → b ≡ false
not_true true h = absurd (cc)
not_true false h = refl

pub missing_on : (xs : List Pending) (n : ℕ) (b : Bool) → b ≡ missing_in (slice_get xs n) → b ≡ false → has_missing (values_among (drop (n + 1) xs)) ≡ has_missing (values_among (drop n xs))
missing_on xs n b h g = ap (λ k. has_missing (values_among (drop k xs))) (sym (one_more n)) ∙ sym (missing_later xs n (sym h ∙ g))

pub values_back : (xs : List Pending) (n : ℕ) (b : Bool) → 0 < n → b ≡ value_in (slice_get xs (n - 1)) → not b ≡ false → are_values (drop n xs) ≡ true → are_values (drop (n - 1) xs) ≡ true
values_back xs n b some h g are = values_before xs (n - 1) (sym h ∙ not_false b g) (subst (λ k. are_values (drop k xs) ≡ true) (back_one n some) are)

pub none_back : (xs : List Pending) (n : ℕ) (b : Bool) → 0 < n → n ≤ length xs → b ≡ value_in (slice_get xs (n - 1)) → not b ≡ true → values_on (reverse (take n xs)) ≡ []
none_back xs n b some within h g = subst (λ k. values_on (reverse (take k xs)) ≡ []) (sym (back_one n some)) (none_below xs (n - 1) (omega arith) (sym h ∙ not_true b g))

pub gives_on : (xs : List Pending) (c : CopyOf) (first number at : ℕ) (old now new : CodeMemory) (all : Memory) → at < length xs
    → (are_values (drop first xs) ≡ true → are_values (drop at xs) ≡ true)
    → ((p : Program) → are_values (drop first xs) ≡ true → FitFrom p c 0 (values_among (drop first xs)) → FitFrom p c number (values_among (drop at xs)))
    → ((p : Program) (map : MapContent) → IsShaped p map old → IsShaped p map now)
    → ((p : Program) (map : MapContent) → IsShaped p map old → are_values (drop first xs) ≡ true → FitFrom p c 0 (values_among (drop first xs)) → with_values (memory_in now) c number (values_among (drop at xs)) ≡ all)
    → ((p : Program) (map : MapContent) → IsShaped p map now → FitAt p c number (slice_get xs at) → memory_in new ≡ given (memory_in now) c number (slice_get xs at))
    → (p : Program) (map : MapContent) → IsShaped p map old → are_values (drop first xs) ≡ true → FitFrom p c 0 (values_among (drop first xs))
    → with_values (memory_in new) c (number + 1) (values_among (drop (at + 1) xs)) ≡ all
gives_on xs c first number at old now new all within are fit shape same gives p map shaped values fits =
    let behind = are values in
    ap (λ k. with_values (memory_in new) c (number + 1) (values_among (drop k xs))) (sym (one_more at))
    ∙ ap (λ m. with_values m c (number + 1) (values_among (drop (suc at) xs))) (gives p map (shape p map shaped) (fit_first p c number xs at within behind (fit p values fits)))
    ∙ sym (given_first (memory_in now) c number xs at within behind)
    ∙ same p map shaped values fits

pub fits_on : (xs : List Pending) (c : CopyOf) (first number at : ℕ) → at < length xs
    → (are_values (drop first xs) ≡ true → are_values (drop at xs) ≡ true)
    → ((p : Program) → are_values (drop first xs) ≡ true → FitFrom p c 0 (values_among (drop first xs)) → FitFrom p c number (values_among (drop at xs)))
    → (p : Program) → are_values (drop first xs) ≡ true → FitFrom p c 0 (values_among (drop first xs)) → FitFrom p c (number + 1) (values_among (drop (at + 1) xs))
fits_on xs c first number at within are fit p values fits =
    subst (λ k. FitFrom p c (number + 1) (values_among (drop k xs))) (one_more at) (fit_later p c number xs at within (are values) (fit p values fits))

pub values_go_on : (xs : List Pending) (first at : ℕ) → (are_values (drop first xs) ≡ true → are_values (drop at xs) ≡ true) → are_values (drop first xs) ≡ true → are_values (drop (at + 1) xs) ≡ true
values_go_on xs first at are values = subst (λ k. are_values (drop k xs) ≡ true) (one_more at) (values_later xs at (are values))

none_left : (xs : List Pending) (k : ℕ) → length xs ≤ k → values_among (drop k xs) ≡ []
none_left [] zero h = refl
none_left [] (suc k) h = refl
none_left (x ∷ xs) zero h = absurd (omega arith)
none_left (x ∷ xs) (suc k) h = none_left xs k (omega arith)

pub all_given : (m : Memory) (c : CopyOf) (number at : ℕ) (xs : List Pending) → length xs ≤ at → with_values m c number (values_among (drop at xs)) ≡ m
all_given m c number at xs h = ap (with_values m c number) (none_left xs at h)

-- what the parameters have got, before the place of this number
pub Gives : List Pending → CopyOf → ℕ → ℕ → ℕ → CodeMemory → CodeMemory → Type 0
Gives xs c first number at old now =
    (are_values (drop first xs) ≡ true → are_values (drop at xs) ≡ true)
    × ((p : Program) → are_values (drop first xs) ≡ true → FitFrom p c 0 (values_among (drop first xs)) → FitFrom p c number (values_among (drop at xs)))
    × ((p : Program) (map : MapContent) → IsShaped p map old → IsShaped p map now)
    × ((p : Program) (map : MapContent) → IsShaped p map old → are_values (drop first xs) ≡ true → FitFrom p c 0 (values_among (drop first xs)) → with_values (memory_in now) c number (values_among (drop at xs)) ≡ with_values (memory_in old) c 0 (values_among (drop first xs)))

pub gives_first : (xs : List Pending) (c : CopyOf) (first : ℕ) (old : CodeMemory) → Gives xs c first 0 first old old
unfolding Gives
gives_first xs c first old = ((λ h. h), (λ p h fit. fit), (λ p map h. h), (λ p map shaped h fit. refl))

pub gives_step : (xs ys : List Pending) (c : CopyOf) (first number at : ℕ) (old now new : CodeMemory) → at < length xs → ys ≡ xs
    → ((p : Program) (map : MapContent) → IsShaped p map now → IsShaped p map new)
    → ((p : Program) (map : MapContent) → IsShaped p map now → FitAt p c number (slice_get ys at) → memory_in new ≡ given (memory_in now) c number (slice_get ys at))
    → Gives xs c first number at old now → Gives xs c first (number + 1) (at + 1) old new
unfolding Gives
gives_step xs ys c first number at old now new within same shape gives v =
    let gives2 = subst (λ zs. (p : Program) (map : MapContent) → IsShaped p map now → FitAt p c number (slice_get zs at) → memory_in new ≡ given (memory_in now) c number (slice_get zs at)) same gives in (
      values_go_on xs first at v.0,
      fits_on xs c first number at within v.0 v.1,
      (λ p map h. shape p map (v.2 p map h)),
      gives_on xs c first number at old now new (with_values (memory_in old) c 0 (values_among (drop first xs))) within v.0 v.1 v.2 v.3 gives2,
    )

pub gives_shape : (xs : List Pending) (c : CopyOf) (first number at : ℕ) (old now : CodeMemory) → Gives xs c first number at old now → (p : Program) (map : MapContent) → IsShaped p map old → IsShaped p map now
unfolding Gives
gives_shape xs c first number at old now v = v.2

pub gives_end : (xs : List Pending) (c : CopyOf) (first number at : ℕ) (old now : CodeMemory) → length xs ≤ at → Gives xs c first number at old now
    → (p : Program) (map : MapContent) → IsShaped p map old → are_values (drop first xs) ≡ true → FitFrom p c 0 (values_among (drop first xs)) → memory_in now ≡ with_values (memory_in old) c 0 (values_among (drop first xs))
unfolding Gives
gives_end xs c first number at old now over v p map shaped h fit = sym (all_given (memory_in now) c number at xs over) ∙ v.3 p map shaped h fit

-- ---- a call, when its values have gone
pub call_goes : (old mid : Machine) (e : Expression) (f line n : ℕ) (r : Outcome) (w : World Byte) → mid ≡ record old { memory = mid.memory; stack = mid.stack }
    → waiting mid ≡ reverse (take n old.stack.items) → are_values (drop n old.stack.items) ≡ true → values_on (reverse (take n old.stack.items)) ≡ []
    → memory_of mid ≡ with_values (fresh (memory_of old) (copy_of old.copy.root f)) (copy_of old.copy.root f) 0 (values_among (drop n old.stack.items))
    → has_missing (values_among (drop n old.stack.items)) ≡ false
    → r ≡ goes (copy_of mid.copy.root f) Past (body_of (program_of mid.program.now) f (Returns mid.copy ∷ In e Called ∷ stack_of mid)) (memory_of mid) w
    → r ≡ called (program_of old.program.now) e f line (values_on (waiting old)) (frames_behind (interrupted_in old) true (waiting old)) old.copy (memory_of old) w
call_goes old mid e f line n r w is waits are none memory there h =
    let xs = old.stack.items in
    h
    ∙ ap (λ c. goes (copy_of c.root f) Past (body_of (program_of mid.program.now) f (Returns c ∷ In e Called ∷ stack_of mid)) (memory_of mid) w) (ap (λ m. m.copy) is)
    ∙ ap (λ p. goes (copy_of old.copy.root f) Past (body_of (program_of p.now) f (Returns old.copy ∷ In e Called ∷ stack_of mid)) (memory_of mid) w) (ap (λ m. m.program) is)
    ∙ ap (λ x. goes (copy_of old.copy.root f) Past (body_of (program_of old.program.now) f (Returns old.copy ∷ In e Called ∷ frames_in (focus_in x) (waiting mid))) (memory_of mid) w) (ap (λ m. m.interrupted) is)
    ∙ ap (λ k. goes (copy_of old.copy.root f) Past (body_of (program_of old.program.now) f (Returns old.copy ∷ In e Called ∷ frames_in (interrupted_in old) k)) (memory_of mid) w) waits
    ∙ ap (λ k. goes (copy_of old.copy.root f) Past (body_of (program_of old.program.now) f (Returns old.copy ∷ In e Called ∷ k)) (memory_of mid) w) (sym (frames_split (interrupted_in old) n xs are none))
    ∙ ap (λ m. goes (copy_of old.copy.root f) Past (body_of (program_of old.program.now) f (Returns old.copy ∷ In e Called ∷ frames_behind (interrupted_in old) true (waiting old))) m w) memory
    ∙ sym (ap (λ b. if b then Undefined Unset line else goes (copy_of old.copy.root f) Past (body_of (program_of old.program.now) f (Returns old.copy ∷ In e Called ∷ frames_behind (interrupted_in old) true (waiting old))) (with_values (fresh (memory_of old) (copy_of old.copy.root f)) (copy_of old.copy.root f) 0 (values_among (drop n xs))) w) there)
    ∙ ap (λ vs. called (program_of old.program.now) e f line vs (frames_behind (interrupted_in old) true (waiting old)) old.copy (memory_of old) w) (sym (values_split n xs are none))
