-- Appending byte after byte.
use Rattle.std.proofs.Common.{◌≡◌, ◌≢◌, ℕ, ◌<◌, Bool, true, false, Option, Some, None, List, [], ◌∷◌, ◌++◌, refl, sym, ap, ◌∙◌, nat_eq, append_assoc, append-nil, length, arith}
use Rattle.std.specs.Option.{option_map}
use Rattle.std.specs.Prelude.{if◌then◌else◌}
use Rattle.schedule.specs.ScriptFile.{byte_value}
use Rattle.schedule.specs.Reading.{byte_onto, byte_before, byte_at_front, bytes_in}

-- these bytes, with those that are read of a text behind them
abbrev pub behind : List ℕ → Option (List ℕ) → Option (List ℕ)
behind old None = None
behind old (Some bytes) = Some (old ++ bytes)

one : (b : Bool) (o : Option ℕ) (tail : List ℕ) (byte : ℕ) (rest : List ℕ) → (if b then byte_before o tail else None) ≡ Some (byte, rest)
    → (if b then byte_onto o (bytes_in tail) else None) ≡ byte_onto (Some byte) (bytes_in rest)
one true None tail byte rest e = absurd (cc e)
one true (Some x) tail byte rest e =
    let same : ◌≡◌ {A = ℕ × List ℕ} (x, tail) (byte, rest) = cc e in
    ap (λ p. byte_onto (Some p.0) (bytes_in p.1)) same
one false o tail byte rest e = absurd (cc e)

front_is : (text : List ℕ) (byte : ℕ) (rest : List ℕ) → byte_at_front text ≡ Some (byte, rest) → bytes_in text ≡ byte_onto (Some byte) (bytes_in rest)
unfolding byte_at_front bytes_in
front_is [] byte rest e = absurd (cc e)
front_is (c ∷ []) byte rest e = absurd (cc e)
front_is (c ∷ d ∷ []) byte rest e = absurd (cc e)
front_is (s ∷ h ∷ l ∷ tail) byte rest e = one (nat_eq s 32) (byte_value h l) tail byte rest e

none : (b : Bool) (o : Option ℕ) (tail : List ℕ) → (if b then byte_before o tail else None) ≡ None → (if b then byte_onto o (bytes_in tail) else None) ≡ None
none true None tail e = refl
none true (Some x) tail e = absurd (cc e)
none false o tail e = refl

no_front : (text : List ℕ) → byte_at_front text ≡ None → text ≢ [] → bytes_in text ≡ None
unfolding byte_at_front bytes_in
no_front [] e h = absurd (h refl)
no_front (c ∷ []) e h = refl
no_front (c ∷ d ∷ []) e h = refl
no_front (s ∷ h ∷ l ∷ tail) e g = none (nat_eq s 32) (byte_value h l) tail e

one_behind : (old : List ℕ) (byte : ℕ) (o : Option (List ℕ)) → behind (old ++ byte ∷ []) o ≡ behind old (byte_onto (Some byte) o)
one_behind old byte None = refl
one_behind old byte (Some bytes) = ap Some (append_assoc old (byte ∷ []) bytes)

pub goes_on : (old text rest : List ℕ) (byte : ℕ) → byte_at_front text ≡ Some (byte, rest) → behind (old ++ byte ∷ []) (bytes_in rest) ≡ behind old (bytes_in text)
goes_on old text rest byte e = one_behind old byte (bytes_in rest) ∙ sym (ap (behind old) (front_is text byte rest e))

mapped : (old : List ℕ) (o : Option (List ℕ)) → option_map (λ bytes. old ++ bytes) o ≡ behind old o
mapped old None = refl
mapped old (Some bytes) = refl

nothing_left : bytes_in [] ≡ Some []
unfolding bytes_in
nothing_left = refl

pub ends : (start old digits text : List ℕ) → behind old (bytes_in text) ≡ behind start (bytes_in digits) → text ≡ [] → option_map (λ bytes. start ++ bytes) (bytes_in digits) ≡ Some old
ends start old digits text e h = mapped start (bytes_in digits) ∙ sym e ∙ ap (λ t. behind old (bytes_in t)) h ∙ ap (behind old) nothing_left ∙ ap Some (append-nil old)

only_none : (old : List ℕ) (o : Option (List ℕ)) → None ≡ behind old o → o ≡ None
only_none old None e = refl
only_none old (Some bytes) e = absurd (cc e)

pub breaks : (start old digits text : List ℕ) → behind old (bytes_in text) ≡ behind start (bytes_in digits) → byte_at_front text ≡ None → text ≢ [] → bytes_in digits ≡ None
breaks start old digits text e h g = only_none start (bytes_in digits) (sym (ap (behind old) (no_front text h g)) ∙ e)

pub none_left : (text : List ℕ) → length text < 1 → text ≡ []
none_left [] h = refl
none_left (c ∷ text) h = absurd (omega (arith, h))
